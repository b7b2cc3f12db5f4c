-- Lines by what they say, run one after another (Runs): running says that each may stand and stays within the limits, and what holds at
-- the end. checked-lines gives what reading the lines makes of it, and lands that each label is there at the end.
use Rattle.std.proofs.Common.{ℕ, ◌≡◌, ◌+◌, ◌<◌, Bool, true, false, ◌&&◌, List, [], ◌∷◌, ◌++◌, refl, ap, sym, subst, ◌∙◌, arith, nat_eq, cond, Option, Some, None, is_some, Result, Ok, map, inl, inr}
use Rattle.std.specs.Str.{bytes_eq}
use Rattle.st_base.specs.declared.line.Line.{Line}
use Rattle.st_line.specs.declared.fault.AsmKind.{AsmKind}
use Rattle.st_line.specs.declared.fault.AsmKind.TheVariants.{DoubleLabel, NoLabel, TooLarge}
use Rattle.st_line.specs.declared.source.Statement.{Statement}
use Rattle.st_line.specs.declared.source.Statement.TheVariants as statements
use Rattle.st_line.specs.Statement.{◌>>=◌, require, line_label, line_statement}
use Rattle.st_asm.specs.declared.unit.Function.{Function}
use Rattle.st_asm.specs.Labels.{Located, numbered, is_local, scope_of, Definition, is_single, is_known}
use Rattle.st_asm.specs.Assembly.{Label, Assembly, begin_line, labelled, label_in, local_label, stated, with_statement, aligned, name_given, is_small, checked_line, then_lines, checked_lines, target_at}
use Rattle.st_print.specs.Canonical.{Piece, spelled}
use Rattle.st_print.proofs.LineShapes.{Said, label_said, statement_said, may_say, empty-label, empty-statement}
use Rattle.st_print.proofs.LineShapes.Said.{Labels, States}
use Rattle.st_print.proofs.SpotsFound.{number-same}
use Rattle.st_print.proofs.SaidLines.{AreRead, Each}
use Rattle.st_print.proofs.LabelsRead.{Among, line_at, labels_in, Singles, name-same}
use Rattle.st_print.proofs.LabelsMet.{IsKnown}

-- ---- running

-- what a line makes of what was assembled
abbrev pub next : ℕ → Said → Assembly → Assembly
next n s a = stated (line_at n) (statement_said s) (labelled (line_at n) (label_said s) a)

abbrev pub made : ℕ → List Said → Assembly → Assembly
made n [] a = a
made n (s ∷ ss) a = made (n + 1) ss (next n s a)

-- the label of the line is there
abbrev pub HasLanded : Said → List Label → Type 0
HasLanded (Labels name) labels = is_some (target_at (scope_of 1 name) name labels) ≡ true
HasLanded (States s) labels = Unit {0}

pub record IsStep (n : ℕ) (s : Said) (a : Assembly) : Type 0 where
  pub may : may_say (labelled (line_at n) (label_said s) a).standing s ≡ true
  pub small : is_small (next n s a) ≡ true
  pub landed : HasLanded s (next n s a).labels

abbrev pub Runs : ℕ → List Said → Assembly → (Assembly → Type 0) → Type 0
Runs n [] a P = P a
Runs n (s ∷ ss) a P = IsStep n s a × Runs (n + 1) ss (next n s a) P

pub runs-end : (n : ℕ) (ss : List Said) (a : Assembly) (P : Assembly → Type 0) → Runs n ss a P → P (made n ss a)
runs-end n [] a P h = h
runs-end n (s ∷ ss) a P h = runs-end (n + 1) ss (next n s a) P h.1

-- a line that makes this of what was assembled
pub runs-step : (n : ℕ) (s : Said) (ss : List Said) (a b : Assembly) (P : Assembly → Type 0) → next n s a ≡ b → may_say (labelled (line_at n) (label_said s) a).standing s ≡ true → is_small b ≡ true → HasLanded s b.labels → Runs (n + 1) ss b P → Runs n (s ∷ ss) a P
runs-step n s ss a b P e may small landed more =
    (record { may = may; small = ap is_small e ∙ small; landed = subst (λ (c : Assembly). HasLanded s c.labels) (sym e) landed }, subst (λ c. Runs (n + 1) ss c P) (sym e) more)

-- ---- reading by running

-- one line of what was assembled, where no file begins
abbrev checked_from : List Definition → Assembly → Located → Result Assembly AsmKind
checked_from ds b l = do
  statement ← line_statement (labelled l.line (line_label l.text) b).standing l.text
  single ← require (is_single ds l.line (line_label l.text)) DoubleLabel
  known ← require (is_known ds l.line.file (name_given statement)) NoLabel
  small ← require (is_small (stated l.line statement (labelled l.line (line_label l.text) b))) TooLarge
  Ok (stated l.line statement (labelled l.line (line_label l.text) b))

begin-checked : (ds : List Definition) (a : Assembly) (l : Located) → checked_line ds a l ≡ checked_from ds (begin_line l.line a) l
unfolding checked_line
begin-checked ds a l = refl

checked-from : (ds : List Definition) (a : Assembly) (l : Located) (o : Option (List ℕ)) (st : Option Statement) → line_label l.text ≡ o → line_statement (labelled l.line o a).standing l.text ≡ Ok st → is_single ds l.line o ≡ true → is_known ds l.line.file (name_given st) ≡ true → is_small (stated l.line st (labelled l.line o a)) ≡ true → checked_from ds a l ≡ Ok (stated l.line st (labelled l.line o a))
checked-from ds a l o st e h single known small = rw (e, h, single, known, small) refl

checked-step : (ds : List Definition) (a : Assembly) (n : ℕ) (text : List ℕ) (o : Option (List ℕ)) (st : Option Statement) → begin_line (line_at n) a ≡ a → line_label text ≡ o → line_statement (labelled (line_at n) o a).standing text ≡ Ok st → is_single ds (line_at n) o ≡ true → is_known ds 1 (name_given st) ≡ true → is_small (stated (line_at n) st (labelled (line_at n) o a)) ≡ true → checked_line ds a (record { line = line_at n; text = text }) ≡ Ok (stated (line_at n) st (labelled (line_at n) o a))
checked-step ds a n text o st begin e h single known small =
    let l : Located = record { line = line_at n; text = text } in
    begin-checked ds a l ∙ ap (λ b. checked_from ds b l) begin ∙ checked-from ds a l o st e h single known small

later-line : (n : ℕ) → 0 < n → nat_eq (n + 1) 1 ≡ false
later-line n h = grind arith

begin-later : (n : ℕ) (a : Assembly) → 0 < n → begin_line (line_at (n + 1)) a ≡ a
begin-later n a h = let e = later-line n h in rw e refl

pub checked-lines : (ds : List Definition) (ls : List (List Piece)) (ss : List Said) (n : ℕ) (a : Assembly) (P : Assembly → Type 0) → AreRead ls ss → 0 < n → begin_line (line_at n) a ≡ a → Singles ds n ss → Each (IsKnown ds) ss → is_small a ≡ true → Runs n ss a P → checked_lines ds a (numbered 1 n (map spelled ls ++ [] ∷ [])) ≡ Ok (made n ss a)
checked-lines ds [] [] n a P read pos begin single known small runs =
    ap (then_lines (line_at n) (λ b. checked_lines ds b [])) (checked-step ds a n [] None None begin empty-label (empty-statement a.standing) refl refl small)
checked-lines ds [] (s ∷ ss) n a P read pos begin single known small runs = elim read [ ]
checked-lines ds (l ∷ ls) [] n a P read pos begin single known small runs = elim read [ ]
checked-lines ds (l ∷ ls) (s ∷ ss) n a P read pos begin single known small runs =
    let step = checked-step ds a n (spelled l) (label_said s) (statement_said s) begin read.0.label (read.0.statement (labelled (line_at n) (label_said s) a).standing runs.0.may) single.0 known.0 runs.0.small in
    ap (then_lines (line_at n) (λ b. checked_lines ds b (numbered 1 (n + 1) (map spelled ls ++ [] ∷ [])))) step
    ∙ checked-lines ds ls ss (n + 1) (next n s a) P read.1 (omega arith) (begin-later n (next n s a) pos) single.1 known.1 runs.0.small runs.1

-- ---- labels stay

target-more : (sc : ℕ) (name : List ℕ) (ls ms : List Label) → is_some (target_at sc name ls) ≡ true → is_some (target_at sc name (ls ++ ms)) ≡ true
target-more sc name [] ms h = absurd (cc)
target-more sc name (l ∷ ls) ms h =
    (elim (nat_eq l.scope sc && bytes_eq l.name name) as (λ b. is_some (cond b (Some l.target) (target_at sc name ls)) ≡ true → is_some (cond b (Some l.target) (target_at sc name (ls ++ ms))) ≡ true) [
      | true ↦ λ h. refl
      | false ↦ λ h. target-more sc name ls ms h
    ]) h

pub target-last : (name : List ℕ) (l : Label) (ls : List Label) → l.scope ≡ scope_of 1 name → l.name ≡ name → is_some (target_at (scope_of 1 name) name (ls ++ l ∷ [])) ≡ true
target-last name l [] e h =
    let sc : nat_eq l.scope (scope_of 1 name) ≡ true = ap (λ k. nat_eq k (scope_of 1 name)) e ∙ number-same (scope_of 1 name) in
    let same : bytes_eq l.name name ≡ true = ap (λ y. bytes_eq y name) h ∙ name-same name in
    rw (sc, same) refl
target-last name l (m ∷ ls) e h =
    elim (nat_eq m.scope (scope_of 1 name) && bytes_eq m.name name) as (λ b. is_some (cond b (Some m.target) (target_at (scope_of 1 name) name (ls ++ l ∷ []))) ≡ true) [
      | true ↦ refl
      | false ↦ target-last name l ls e h
    ]

local-stays : (line : Line) (y : List ℕ) (c : Option Function) (a : Assembly) (sc : ℕ) (name : List ℕ) → is_some (target_at sc name a.labels) ≡ true → is_some (target_at sc name (local_label line y c a).labels) ≡ true
local-stays line y None a sc name h = h
local-stays line y (Some f) a sc name h = target-more sc name a.labels _ h

label-stays : (d l : Bool) (line : Line) (y : List ℕ) (a : Assembly) (sc : ℕ) (name : List ℕ) → is_some (target_at sc name a.labels) ≡ true → is_some (target_at sc name (label_in d l line y a).labels) ≡ true
label-stays true l line y a sc name h = target-more sc name a.labels _ h
label-stays false true line y a sc name h = local-stays line y a.current a sc name h
label-stays false false line y a sc name h = target-more sc name a.labels _ h

aligned-labels : (b : Bool) (power : ℕ) (a : Assembly) → (aligned b power a).labels ≡ a.labels
aligned-labels true power a = refl
aligned-labels false power a = refl

stated-labels : (line : Line) (s : Statement) (a : Assembly) → (with_statement line s a).labels ≡ a.labels
stated-labels line statements.Ignored a = refl
stated-labels line statements.Code a = refl
stated-labels line statements.Rodata a = refl
stated-labels line (statements.Align power) a = aligned-labels a.standing.in_data power a
stated-labels line (statements.Data bytes) a = refl
stated-labels line (statements.Zeros count) a = refl
stated-labels line (statements.Arguments ints handles) a = refl
stated-labels line (statements.Handles slots) a = refl
stated-labels line (statements.Instruction ins) a = refl

next-stays : (n : ℕ) (s : Said) (a : Assembly) (sc : ℕ) (name : List ℕ) → is_some (target_at sc name a.labels) ≡ true → is_some (target_at sc name (next n s a).labels) ≡ true
next-stays n (Labels y) a sc name h = label-stays a.standing.in_data (is_local y) (line_at n) y a sc name h
next-stays n (States s) a sc name h = ap (λ ls. is_some (target_at sc name ls)) (stated-labels (line_at n) s a) ∙ h

made-stays : (n : ℕ) (ss : List Said) (a : Assembly) (sc : ℕ) (name : List ℕ) → is_some (target_at sc name a.labels) ≡ true → is_some (target_at sc name (made n ss a).labels) ≡ true
made-stays n [] a sc name h = h
made-stays n (s ∷ ss) a sc name h = made-stays (n + 1) ss (next n s a) sc name (next-stays n s a sc name h)

pub lands : (n : ℕ) (ss : List Said) (a : Assembly) (P : Assembly → Type 0) → Runs n ss a P → (name : List ℕ) → Among name (labels_in ss) → is_some (target_at (scope_of 1 name) name (made n ss a).labels) ≡ true
lands n [] a P h name m = elim m [ ]
lands n (States s ∷ ss) a P h name m = lands (n + 1) ss (next n (States s) a) P h.1 name m
lands n (Labels y ∷ ss) a P h name m = elim m [
  | inl e ↦ made-stays (n + 1) ss (next n (Labels y) a) (scope_of 1 name) name (subst (λ z. is_some (target_at (scope_of 1 z) z (next n (Labels y) a).labels) ≡ true) (sym e) h.0.landed)
  | inr l ↦ lands (n + 1) ss (next n (Labels y) a) P h.1 name l
]
