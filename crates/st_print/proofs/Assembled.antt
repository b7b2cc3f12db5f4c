-- What the lines of a unit's text make, one after another (unit-runs): the functions with the names that the text has for places
-- (AreWritten), the read-only data, and labels that stand at their places (Made).
use Rattle.std.proofs.Common.{ℕ, suc, ◌≡◌, ◌+◌, ◌-◌, ◌^◌, ◌<◌, ◌≤◌, Bool, true, false, ◌||◌, List, [], ◌∷◌, ◌++◌, length, refl, ap, sym, subst, ◌∙◌, arith, nat_eq, nat_le, Option, Some, None, is_some, append_assoc, append-nil}
use Rattle.std.specs.List.{slice_get, sum_by}
use Rattle.std.proofs.lemmas.List.{length-append}
use Rattle.std.proofs.lemmas.List.Sums.{sum_by-cons}
use Rattle.st_line.specs.declared.source.Target.{Target}
use Rattle.st_line.specs.declared.source.Target.TheVariants as targets
use Rattle.st_line.specs.declared.source.SourceIns.{SourceIns}
use Rattle.st_line.specs.declared.source.SourceIns.TheVariants as source
use Rattle.st_line.specs.declared.source.Statement.TheVariants as statements
use Rattle.st_line.specs.Words.{is_inside}
use Rattle.st_line.proofs.Runs.{true-and}
use Rattle.st_asm.specs.declared.unit.SourceLine.{SourceLine}
use Rattle.st_asm.specs.declared.unit.Function.{Function}
use Rattle.st_asm.specs.Labels.{is_local, scope_of}
use Rattle.st_asm.specs.Assembly.{Label, Assembly, nothing, one_or_none, functions_in, label_in, local_label, function_label, data_label, new_function, with_data, with_item, with_statement, on_function, weight, is_small, in_section}
use Rattle.st_asm.specs.Unit.{instructions_in}
use Rattle.st_print.specs.Spots.{is_named, spot_number}
use Rattle.st_print.specs.Canonical.{label_text}
use Rattle.st_print.proofs.WordsRead.{label-local, label-number}
use Rattle.st_print.proofs.LineShapes.{Said}
use Rattle.st_print.proofs.LineShapes.Said.{Labels, States}
use Rattle.st_print.proofs.StatementsRead.{written}
use Rattle.st_print.proofs.SpotsFound.{number-at}
use Rattle.st_print.proofs.SaidLines.{spot_said, spot_saids, item_saids, function_saids, functions_saids, byte_saids, data_saids, unit_saids, Each, IsSound, AreFew, number-small}
use Rattle.st_print.proofs.LabelsRead.{line_at}
use Rattle.st_print.proofs.Running.{next, Runs, runs-step, target-last}

-- ---- what is made of functions

pub record IsWrittenItem (functions : List Function) (spots : List Target) (f i : ℕ) (before after : SourceLine) : Type 0 where
  pub ins : after.ins ≡ written spots before.ins
  pub labelled : after.labelled ≡ (nat_eq i 0 || is_named functions (targets.Place f i))
  pub file : after.line.file ≡ 1

abbrev pub AreWrittenItems : List Function → List Target → ℕ → ℕ → List SourceLine → List SourceLine → Type 0
AreWrittenItems functions spots f i [] [] = Unit {0}
AreWrittenItems functions spots f i (x ∷ xs) (y ∷ ys) = IsWrittenItem functions spots f i x y × AreWrittenItems functions spots f (i + 1) xs ys
AreWrittenItems functions spots f i _ _ = ⊥

-- all of a function but its items
pub record HasHead (before after : Function) : Type 0 where
  pub name : after.name ≡ before.name
  pub ints : after.ints ≡ before.ints
  pub handles : after.handles ≡ before.handles
  pub slots : after.slots ≡ before.slots

pub record IsWritten (functions : List Function) (spots : List Target) (f : ℕ) (before after : Function) : Type 0 where
  pub head : HasHead before after
  pub items : AreWrittenItems functions spots f 0 before.items after.items

abbrev pub AreWritten : List Function → List Target → ℕ → List Function → List Function → Type 0
AreWritten functions spots f [] [] = Unit {0}
AreWritten functions spots f (x ∷ xs) (y ∷ ys) = IsWritten functions spots f x y × AreWritten functions spots (f + 1) xs ys
AreWritten functions spots f _ _ = ⊥

-- a label `.Lk` stands at the place of that number
abbrev pub IsRight : List Target → Label → Type 0
IsRight spots l = (k : ℕ) → k < 2 ^ 64 → l.name ≡ label_text k → slice_get spots k ≡ Some l.target

pub record IsMade (functions : List Function) (spots : List Target) (rodata : List ℕ) (a : Assembly) : Type 0 where
  pub whole : AreWritten functions spots 0 functions (functions_in a)
  pub bytes : a.rodata ≡ rodata
  pub labels : Each (IsRight spots) a.labels

-- ---- instructions that are left

abbrev weights : List SourceLine → ℕ
weights [] = 0
weights (item ∷ items) = weight item.ins + weights items

abbrev all_weights : List Function → ℕ
all_weights [] = 0
all_weights (g ∷ gs) = weights g.items + all_weights gs

weights-sum : (items : List SourceLine) → sum_by (λ item. weight item.ins) items ≡ weights items
weights-sum [] = refl
weights-sum (item ∷ items) = sum_by-cons (λ (x : SourceLine). weight x.ins) item items ∙ ap (λ n. weight item.ins + n) (weights-sum items)

pub all-weights-sum : (gs : List Function) → sum_by instructions_in gs ≡ all_weights gs
all-weights-sum [] = refl
all-weights-sum (g ∷ gs) =
    let e = sum_by-cons instructions_in g gs in
    let h = weights-sum g.items in
    let k = all-weights-sum gs in
    e ∙ ap (λ n. n + sum_by instructions_in gs) h ∙ ap (λ n. weights g.items + n) k

weight-written : (spots : List Target) (ins : SourceIns) → weight (written spots ins) ≡ weight ins
weight-written spots (source.Plain i) = refl
weight-written spots (source.Li rd value) = refl
weight-written spots (source.La rd to) = refl
weight-written spots (source.Branch op rs1 rs2 to) = refl
weight-written spots (source.Jump to) = refl
weight-written spots (source.Call name) = refl
weight-written spots source.Ret = refl
weight-written spots (source.Fork handle) = refl

is-small : (a : Assembly) → a.instructions ≤ 65536 → length a.rodata ≤ 1048576 → is_small a ≡ true
is-small a h k = let s : nat_le a.instructions 65536 ≡ true = grind arith in let t : nat_le (length a.rodata) 1048576 ≡ true = grind arith in true-and _ _ s t

no-bytes : (bs : List ℕ) → bs ≡ [] → length bs ≤ 1048576
no-bytes bs e = let n : length bs ≡ 0 = ap length e in omega arith

each-last : (P : Label → Type 0) (ls : List Label) (l : Label) → Each P ls → P l → Each P (ls ++ l ∷ [])
each-last P [] l h k = (k, tt)
each-last P (m ∷ ls) l h k = (h.0, each-last P ls l h.1 k)

shared-right : (spots : List Target) (l : Label) → is_local l.name ≡ false → IsRight spots l
shared-right spots l h k small e = absurd (let s : is_local (label_text k) ≡ false = ap is_local (sym e) ∙ h in let t = label-local k in cc)

spot-right : (spots : List Target) (l : Label) (k : ℕ) (p : Target) → k < 2 ^ 64 → spot_number spots p ≡ Some k → l.name ≡ label_text k → l.target ≡ p → IsRight spots l
spot-right spots l k p small h e t j few d =
    let same : k ≡ j = label-number k j small few (sym e ∙ d) in
    let there = (number-at 0 p spots k h).2 in
    let z : k ≡ k - 0 = omega arith in
    ap (slice_get spots) (sym same ∙ z) ∙ there ∙ ap Some (sym t)

-- ---- between functions, and in one

record IsBetween (functions : List Function) (spots : List Target) (f : ℕ) (gs : List Function) (a : Assembly) : Type 0 where
  code : a.standing.in_data ≡ false
  place : length (functions_in a) ≡ f
  done : (zs : List Function) → AreWritten functions spots f gs zs → AreWritten functions spots 0 functions (functions_in a ++ zs)
  none : a.rodata ≡ []
  few : a.instructions + all_weights gs ≤ 65536
  labels : Each (IsRight spots) a.labels

record IsInside (functions : List Function) (spots : List Target) (f : ℕ) (g : Function) (i : ℕ) (items : List SourceLine) (gs : List Function) (marked : Bool) (a : Assembly) : Type 0 where
  code : a.standing.in_data ≡ false
  inside : is_inside a.standing.part ≡ true
  current : Function
  is_current : a.current ≡ Some current
  place : length a.functions ≡ f
  item : length current.items ≡ i
  done : (c : Function) → IsWritten functions spots f g c → (zs : List Function) → AreWritten functions spots (f + 1) gs zs → AreWritten functions spots 0 functions (a.functions ++ c ∷ zs)
  head : HasHead g current
  filled : (ys : List SourceLine) → AreWrittenItems functions spots f i items ys → AreWrittenItems functions spots f 0 g.items (current.items ++ ys)
  none : a.rodata ≡ []
  few : a.instructions + (weights items + all_weights gs) ≤ 65536
  labels : Each (IsRight spots) a.labels
  mark : a.marked ≡ marked

-- behind the last item of a function
inside-between : (functions : List Function) (spots : List Target) (f : ℕ) (g : Function) (i : ℕ) (gs : List Function) (marked : Bool) (a : Assembly) → IsInside functions spots f g i [] gs marked a → IsBetween functions spots (f + 1) gs a
inside-between functions spots f g i gs marked a h =
    let e : functions_in a ≡ a.functions ++ h.current ∷ [] = ap (λ o. a.functions ++ one_or_none o) h.is_current in
    let c : IsWritten functions spots f g h.current = record { head = h.head; items = subst (AreWrittenItems functions spots f 0 g.items) (append-nil h.current.items) (h.filled [] tt) } in
    record {
      code = h.code;
      place = (let n = ap length e in let p = h.place in omega (arith, length-append a.functions (h.current ∷ [])));
      done = λ zs k. subst (AreWritten functions spots 0 functions) (sym (ap (λ fs. fs ++ zs) e ∙ append_assoc a.functions (h.current ∷ []) zs)) (h.done h.current c zs k);
      none = h.none;
      few = (let n = h.few in omega arith);
      labels = h.labels;
    }

-- ---- the label of a place in a function

or-nothing : (a : Bool) → a ≡ a || false
or-nothing true = refl
or-nothing false = refl

or-all : (a : Bool) → true ≡ a || true
or-all true = refl
or-all false = refl

local-next : (n k : ℕ) (c : Function) (a : Assembly) → a.standing.in_data ≡ false → a.current ≡ Some c → next n (Labels (label_text k)) a ≡ local_label (line_at n) (label_text k) (Some c) a
local-next n k c a h e =
    ap (λ d. label_in d true (line_at n) (label_text k) a) h ∙ ap (λ o. local_label (line_at n) (label_text k) o a) e

run-spot : (functions : List Function) (spots : List Target) → AreFew spots → (f : ℕ) (g : Function) (i : ℕ) (items : List SourceLine) (gs : List Function) (o : Option ℕ) → spot_number spots (targets.Place f i) ≡ o → is_some o ≡ is_named functions (targets.Place f i) → (n : ℕ) (a : Assembly) → IsInside functions spots f g i items gs (nat_eq i 0) a → (rest : List Said) (P : Assembly → Type 0) → ((m : ℕ) (b : Assembly) → IsInside functions spots f g i items gs (nat_eq i 0 || is_named functions (targets.Place f i)) b → Runs m rest b P) → Runs n (spot_said o ++ rest) a P
run-spot functions spots few f g i items gs None e tells n a h rest P more =
    more n a (record {
      code = h.code;
      inside = h.inside;
      current = h.current;
      is_current = h.is_current;
      place = h.place;
      item = h.item;
      done = h.done;
      head = h.head;
      filled = h.filled;
      none = h.none;
      few = h.few;
      labels = h.labels;
      mark = h.mark ∙ or-nothing (nat_eq i 0) ∙ ap (λ b. nat_eq i 0 || b) tells;
    })
run-spot functions spots few f g i items gs (Some k) e tells n a h rest P more =
    let b = local_label (line_at n) (label_text k) (Some h.current) a in
    let l : Label = record { scope = scope_of 1 (label_text k); name = label_text k; target = targets.Place (length a.functions) (length h.current.items) } in
    let small = number-small spots (targets.Place f i) k few e in
    let at : l.target ≡ targets.Place f i = (λ t. targets.Place (h.place t) (h.item t)) in
    let total = h.few in
    runs-step n (Labels (label_text k)) rest a b P (local-next n k h.current a h.code h.is_current) refl (is-small b (omega arith) (no-bytes a.rodata h.none)) (target-last (label_text k) l a.labels refl refl)
    (more (n + 1) b (record {
      code = h.code;
      inside = h.inside;
      current = h.current;
      is_current = h.is_current;
      place = h.place;
      item = h.item;
      done = h.done;
      head = h.head;
      filled = h.filled;
      none = h.none;
      few = h.few;
      labels = each-last (IsRight spots) a.labels l h.labels (spot-right spots l k (targets.Place f i) small e refl at);
      mark = or-all (nat_eq i 0) ∙ ap (λ b. nat_eq i 0 || b) tells;
    }))

-- ---- an item

after-first : (i : ℕ) → false ≡ nat_eq (i + 1) 0
after-first i = grind arith

run-item : (functions : List Function) (spots : List Target) (f : ℕ) (g : Function) (i : ℕ) (item : SourceLine) (items : List SourceLine) (gs : List Function) (n : ℕ) (a : Assembly) → IsInside functions spots f g i (item ∷ items) gs (nat_eq i 0 || is_named functions (targets.Place f i)) a → (rest : List Said) (P : Assembly → Type 0) → ((m : ℕ) (b : Assembly) → IsInside functions spots f g (i + 1) items gs (nat_eq (i + 1) 0) b → Runs m rest b P) → Runs n (States (statements.Instruction (written spots item.ins)) ∷ rest) a P
run-item functions spots f g i item items gs n a h rest P more =
    let ins = written spots item.ins in
    let b = with_item (line_at n) ins a in
    let it : SourceLine = record { line = line_at n; labelled = a.marked; ins = ins } in
    let c : Function = record h.current { items = h.current.items ++ it ∷ [] } in
    let w = weight-written spots item.ins in
    let total : a.instructions + (weight item.ins + weights items + all_weights gs) ≤ 65536 = h.few in
    let code = h.code in
    let inside = h.inside in
    let written_item : IsWrittenItem functions spots f i item it = record { ins = refl; labelled = h.mark; file = refl } in
    runs-step n (States (statements.Instruction ins)) rest a b P refl (rw (code, inside) refl) (is-small b (omega arith) (no-bytes a.rodata h.none)) tt
    (more (n + 1) b (record {
      code = h.code;
      inside = refl;
      current = c;
      is_current = ap (on_function (λ (f : Function). record f { items = f.items ++ it ∷ [] })) h.is_current;
      place = h.place;
      item = (let e = h.item in omega (arith, length-append h.current.items (it ∷ [])));
      done = h.done;
      head = record { name = h.head.name; ints = h.head.ints; handles = h.head.handles; slots = h.head.slots };
      filled = λ ys k. subst (AreWrittenItems functions spots f 0 g.items) (sym (append_assoc h.current.items (it ∷ []) ys)) (h.filled (it ∷ ys) (written_item, k));
      none = h.none;
      few = omega arith;
      labels = h.labels;
      mark = after-first i;
    }))

-- places of a function have numbers just where they are named
abbrev Tells : List Function → List Target → ℕ → ℕ → Type 0
Tells functions spots f most = (i : ℕ) → i ≤ most → is_some (spot_number spots (targets.Place f i)) ≡ is_named functions (targets.Place f i)

run-items : (functions : List Function) (spots : List Target) → AreFew spots → (f : ℕ) (g : Function) (most : ℕ) → Tells functions spots f most → (gs : List Function) (i : ℕ) (items : List SourceLine) → i + length items ≤ most → (n : ℕ) (a : Assembly) → IsInside functions spots f g i items gs (nat_eq i 0) a → (rest : List Said) (P : Assembly → Type 0) → ((m : ℕ) (b : Assembly) → IsBetween functions spots (f + 1) gs b → Runs m rest b P) → Runs n (item_saids spots f i items ++ rest) a P
run-items functions spots few f g most tells gs i [] fits n a h rest P more =
    run-spot functions spots few f g i [] gs (spot_number spots (targets.Place f i)) refl (tells i (omega arith)) n a h rest P
    (λ m b k. more m b (inside-between functions spots f g i gs (nat_eq i 0 || is_named functions (targets.Place f i)) b k))
run-items functions spots few f g most tells gs i (item ∷ items) fits n a h rest P more =
    let s = States (statements.Instruction (written spots item.ins)) in
    subst (λ ss. Runs n ss a P) (sym (append_assoc (spot_saids spots (targets.Place f i)) (s ∷ item_saids spots f (i + 1) items) rest))
    (run-spot functions spots few f g i (item ∷ items) gs (spot_number spots (targets.Place f i)) refl (tells i (omega arith)) n a h (s ∷ (item_saids spots f (i + 1) items ++ rest)) P
    (λ m b k. run-item functions spots f g i item items gs m b k (item_saids spots f (i + 1) items ++ rest) P
    (λ m2 c l. run-items functions spots few f g most tells gs (i + 1) items (omega arith) m2 c l rest P more)))

-- ---- a function

shared-next : (n : ℕ) (name : List ℕ) (a : Assembly) → a.standing.in_data ≡ false → is_local name ≡ false → next n (Labels name) a ≡ function_label (line_at n) name a
shared-next n name a h e = ap (λ d. label_in d (is_local name) (line_at n) name a) h ∙ ap (λ l. label_in false l (line_at n) name a) e

run-function : (functions : List Function) (spots : List Target) → AreFew spots → (names : List (List ℕ)) (f : ℕ) (g : Function) → IsSound names spots g → Tells functions spots f (length g.items) → (gs : List Function) (n : ℕ) (a : Assembly) → IsBetween functions spots f (g ∷ gs) a → (rest : List Said) (P : Assembly → Type 0) → ((m : ℕ) (b : Assembly) → IsBetween functions spots (f + 1) gs b → Runs m rest b P) → Runs n (function_saids spots f g ++ rest) a P
run-function functions spots few names f g sound tells gs n a h rest P more =
    let b1 = function_label (line_at n) g.name a in
    let b2 = with_statement (line_at (n + 1)) (statements.Arguments g.ints g.handles) b1 in
    let b3 = with_statement (line_at (n + 2)) (statements.Handles g.slots) b2 in
    let l : Label = record { scope = scope_of 1 g.name; name = g.name; target = targets.Place (length (functions_in a)) 0 } in
    let c : Function = record (new_function (line_at n) g.name) { ints = g.ints; handles = g.handles; slots = g.slots } in
    let total : a.instructions + (weights g.items + all_weights gs) ≤ 65536 = h.few in
    let code = h.code in
    let bytes = no-bytes a.rodata h.none in
    let two : n + 1 + 1 ≡ n + 2 = omega arith in
    runs-step n (Labels g.name) (States (statements.Arguments g.ints g.handles) ∷ States (statements.Handles g.slots) ∷ (item_saids spots f 0 g.items ++ rest)) a b1 P
    (shared-next n g.name a h.code sound.shared) refl (is-small b1 (omega arith) bytes) (target-last g.name l a.labels refl refl)
    (runs-step (n + 1) (States (statements.Arguments g.ints g.handles)) (States (statements.Handles g.slots) ∷ (item_saids spots f 0 g.items ++ rest)) b1 b2 P
    refl (rw code refl) (is-small b2 (omega arith) bytes) tt
    (runs-step (n + 1 + 1) (States (statements.Handles g.slots)) (item_saids spots f 0 g.items ++ rest) b2 b3 P
    refl (rw code refl) (is-small b3 (omega arith) bytes) tt
    (run-items functions spots few f g (length g.items) tells gs 0 g.items (omega arith) (n + 1 + 1 + 1) b3 (record {
      code = h.code;
      inside = refl;
      current = c;
      is_current = refl;
      place = h.place;
      item = refl;
      done = λ d w zs k. h.done (d ∷ zs) (w, k);
      head = record { name = refl; ints = refl; handles = refl; slots = refl };
      filled = λ ys k. k;
      none = h.none;
      few = omega arith;
      labels = each-last (IsRight spots) a.labels l h.labels (shared-right spots l sound.shared);
      mark = refl;
    }) rest P more)))

run-functions : (functions : List Function) (spots : List Target) → AreFew spots → (names : List (List ℕ)) (f : ℕ) (gs : List Function) → Each (IsSound names spots) gs → ((m i : ℕ) (g : Function) → slice_get gs m ≡ Some g → i ≤ length g.items → is_some (spot_number spots (targets.Place (f + m) i)) ≡ is_named functions (targets.Place (f + m) i)) → (n : ℕ) (a : Assembly) → IsBetween functions spots f gs a → (rest : List Said) (P : Assembly → Type 0) → ((m k : ℕ) (b : Assembly) → IsBetween functions spots k [] b → Runs m rest b P) → Runs n (functions_saids spots f gs ++ rest) a P
run-functions functions spots few names f [] sound tells n a h rest P more = more n f a h
run-functions functions spots few names f (g ∷ gs) sound tells n a h rest P more =
    let here : f + 0 ≡ f = omega arith in
    subst (λ ss. Runs n ss a P) (sym (append_assoc (function_saids spots f g) (functions_saids spots (f + 1) gs) rest))
    (run-function functions spots few names f g sound.0 (λ i fits. subst (λ k. is_some (spot_number spots (targets.Place k i)) ≡ is_named functions (targets.Place k i)) here (tells 0 i g refl fits)) gs n a h (functions_saids spots (f + 1) gs ++ rest) P
    (λ m b k. run-functions functions spots few names (f + 1) gs sound.1
    (λ j i x e fits. let shift : f + suc j ≡ f + 1 + j = omega arith in subst (λ k. is_some (spot_number spots (targets.Place k i)) ≡ is_named functions (targets.Place k i)) shift (tells (suc j) i x e fits))
    m b k rest P more))

-- ---- data

record IsInData (functions : List Function) (spots : List Target) (rodata : List ℕ) (at : ℕ) (bs : List ℕ) (a : Assembly) : Type 0 where
  data_part : a.standing.in_data ≡ true
  whole : AreWritten functions spots 0 functions (functions_in a)
  reached : length a.rodata ≡ at
  bytes : a.rodata ++ bs ≡ rodata
  few : a.instructions ≤ 65536
  labels : Each (IsRight spots) a.labels

data-next : (n k : ℕ) (a : Assembly) → a.standing.in_data ≡ true → next n (Labels (label_text k)) a ≡ data_label (line_at n) (label_text k) a
data-next n k a h = ap (λ d. label_in d true (line_at n) (label_text k) a) h

within-data : (xs ys zs : List ℕ) → xs ++ ys ≡ zs → length zs ≤ 1048576 → length xs ≤ 1048576
within-data xs ys zs e h = let n = ap length e in omega (arith, length-append xs ys)

run-data-spot : (functions : List Function) (spots : List Target) → AreFew spots → (rodata : List ℕ) → length rodata ≤ 1048576 → (at : ℕ) (bs : List ℕ) (o : Option ℕ) → spot_number spots (targets.Data at) ≡ o → (n : ℕ) (a : Assembly) → IsInData functions spots rodata at bs a → (rest : List Said) (P : Assembly → Type 0) → ((m : ℕ) (b : Assembly) → IsInData functions spots rodata at bs b → Runs m rest b P) → Runs n (spot_said o ++ rest) a P
run-data-spot functions spots few rodata short at bs None e n a h rest P more = more n a h
run-data-spot functions spots few rodata short at bs (Some k) e n a h rest P more =
    let b = data_label (line_at n) (label_text k) a in
    let l : Label = record { scope = scope_of 1 (label_text k); name = label_text k; target = targets.Data (length a.rodata) } in
    let small = number-small spots (targets.Data at) k few e in
    runs-step n (Labels (label_text k)) rest a b P (data-next n k a h.data_part) refl (is-small b h.few (within-data a.rodata bs rodata h.bytes short)) (target-last (label_text k) l a.labels refl refl)
    (more (n + 1) b (record {
      data_part = h.data_part;
      whole = h.whole;
      reached = h.reached;
      bytes = h.bytes;
      few = h.few;
      labels = each-last (IsRight spots) a.labels l h.labels (spot-right spots l k (targets.Data at) small e refl (ap (λ m. targets.Data m) h.reached));
    }))

run-bytes : (functions : List Function) (spots : List Target) → AreFew spots → (rodata : List ℕ) → length rodata ≤ 1048576 → (at : ℕ) (bs : List ℕ) (n : ℕ) (a : Assembly) → IsInData functions spots rodata at bs a → Runs n (byte_saids spots at bs) a (IsMade functions spots rodata)
run-bytes functions spots few rodata short at [] n a h =
    subst (λ ss. Runs n ss a (IsMade functions spots rodata)) (append-nil (spot_saids spots (targets.Data at)))
    (run-data-spot functions spots few rodata short at [] (spot_number spots (targets.Data at)) refl n a h [] (IsMade functions spots rodata)
    (λ m b k. record { whole = k.whole; bytes = sym (append-nil b.rodata) ∙ k.bytes; labels = k.labels }))
run-bytes functions spots few rodata short at (x ∷ bs) n a h =
    run-data-spot functions spots few rodata short at (x ∷ bs) (spot_number spots (targets.Data at)) refl n a h (States (statements.Data (x ∷ [])) ∷ byte_saids spots (at + 1) bs) (IsMade functions spots rodata)
    (λ m b k.
    let c = with_data (x ∷ []) b in
    let joined : (b.rodata ++ x ∷ []) ++ bs ≡ rodata = append_assoc b.rodata (x ∷ []) bs ∙ k.bytes in
    runs-step m (States (statements.Data (x ∷ []))) (byte_saids spots (at + 1) bs) b c (IsMade functions spots rodata) refl k.data_part (is-small c k.few (within-data (b.rodata ++ x ∷ []) bs rodata joined short)) tt
    (run-bytes functions spots few rodata short (at + 1) bs (m + 1) c (record {
      data_part = k.data_part;
      whole = k.whole;
      reached = (let e = k.reached in omega (arith, length-append b.rodata (x ∷ [])));
      bytes = joined;
      few = k.few;
      labels = k.labels;
    })))

between-done : (functions : List Function) (spots : List Target) (f : ℕ) (a : Assembly) → IsBetween functions spots f [] a → AreWritten functions spots 0 functions (functions_in a)
between-done functions spots f a h = subst (AreWritten functions spots 0 functions) (append-nil (functions_in a)) (h.done [] tt)

run-data : (functions : List Function) (spots : List Target) → AreFew spots → (rodata : List ℕ) → length rodata ≤ 1048576 → (needed : Bool) → (needed ≡ false → rodata ≡ []) → (n f : ℕ) (a : Assembly) → IsBetween functions spots f [] a → Runs n (data_saids needed spots rodata) a (IsMade functions spots rodata)
run-data functions spots few rodata short false empty n f a h =
    record { whole = between-done functions spots f a h; bytes = h.none ∙ sym (empty refl); labels = h.labels }
run-data functions spots few rodata short true empty n f a h =
    let b = in_section true a in
    let total : a.instructions + 0 ≤ 65536 = h.few in
    let bytes : a.rodata ++ rodata ≡ rodata = ap (λ bs. bs ++ rodata) h.none in
    runs-step n (States statements.Rodata) (byte_saids spots 0 rodata) a b (IsMade functions spots rodata) refl refl (is-small b (omega arith) (no-bytes a.rodata h.none)) tt
    (run-bytes functions spots few rodata short 0 rodata (n + 1) b (record {
      data_part = refl;
      whole = between-done functions spots f a h;
      reached = ap length h.none;
      bytes = bytes;
      few = omega arith;
      labels = h.labels;
    }))

-- ---- the unit

pub unit-runs : (functions : List Function) (spots : List Target) → AreFew spots → (names : List (List ℕ)) (rodata : List ℕ) → length rodata ≤ 1048576 → sum_by instructions_in functions ≤ 65536 → Each (IsSound names spots) functions → ((m i : ℕ) (g : Function) → slice_get functions m ≡ Some g → i ≤ length g.items → is_some (spot_number spots (targets.Place m i)) ≡ is_named functions (targets.Place m i)) → (needed : Bool) → (needed ≡ false → rodata ≡ []) → Runs 1 (unit_saids needed spots functions rodata) nothing (IsMade functions spots rodata)
unit-runs functions spots few names rodata short total sound tells needed empty =
    let sum = all-weights-sum functions in
    let between : IsBetween functions spots 0 functions nothing = record { code = refl; place = refl; done = λ zs k. k; none = refl; few = omega arith; labels = tt } in
    run-functions functions spots few names 0 functions sound
    (λ m i g e fits. let z : m ≡ 0 + m = omega arith in subst (λ k. is_some (spot_number spots (targets.Place k i)) ≡ is_named functions (targets.Place k i)) z (tells m i g e fits))
    1 nothing between (data_saids needed spots rodata) (IsMade functions spots rodata)
    (λ m k b h. run-data functions spots few rodata short needed empty m k b h)
