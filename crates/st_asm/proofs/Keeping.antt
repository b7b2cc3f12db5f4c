-- What every unit has, said of what was assembled so far (Keeps), and that the beginning of a file and a label keep it
-- (Keeps-begin_line, Keeps-labelled).
use Rattle.std.proofs.Common.{ℕ, zero, suc, ◌≡◌, ◌+◌, ◌≤◌, ◌<◌, ◌==◌, Bool, true, false, not, ◌&&◌, List, [], ◌∷◌, ◌++◌, length, map, Option, Some, None, refl, ap, sym, subst, ◌∙◌, cond, arith, All, append-nil, get_or, zero-add, ◌⊎◌, inl, inr}
use Rattle.std.specs.Prelude.{AllPairs, slice_get, sum_by}
use Rattle.std.proofs.lemmas.List.{map-append}
use Rattle.std.proofs.lemmas.List.Sums.{sum_by-append}
use Rattle.std.proofs.lemmas.Option.{slice_get_within}
use Rattle.st_rv.proofs.Apart.{equal_true, both_true}
use Rattle.std.proofs.lemmas.List.Elements.{All-nil, All-head, All-tail, All-push, All-weaker, All-get_or}
use Rattle.std.proofs.lemmas.List.Quantifiers.{all_pairs_push}
use Rattle.st_base.specs.declared.line.Line.{Line}
use Rattle.st_line.specs.declared.source.Target.{Target}
use Rattle.st_line.specs.declared.source.Target.TheVariants as targets
use Rattle.st_line.specs.Operands.{is_name}
use Rattle.st_asm.specs.declared.unit.SourceLine.{SourceLine}
use Rattle.st_asm.specs.declared.unit.Function.{Function}
use Rattle.st_asm.specs.Labels.{Located, is_local, is_entry, scope_of, Definition, first_line, is_line, is_single}
use Rattle.st_asm.specs.Assembly.{Label, Assembly, one_or_none, functions_in, begin_file, begin_line, data_label, new_function, function_label, local_label, label_in, labelled}
use Rattle.st_asm.specs.Unit.{instructions_in}
use Rattle.st_asm.proofs.ReadSteps.{IsRead}

-- ---- what is kept

pub record IsFine (f : Function) : Type 0 where
  pub name : is_name f.name ≡ true
  pub shared : is_local f.name ≡ false
  pub free : is_entry f.name ≡ false
  pub ints : f.ints ≤ 6
  pub handles : f.handles ≤ 2
  pub slots : f.slots ≤ 252
  pub items : All (λ item. IsRead item.ins) f.items

-- a function's name and line
abbrev pub Head : Type 0
Head = List ℕ × Line

abbrev pub head_of : Function → Head
head_of f = (f.name, f.line)

pub record IsApart (l m : Line) : Type 0 where
  pub apart : l.file ≡ m.file → l.line ≡ m.line → ⊥

pub record AreHeads (ds : List Definition) (ls : List Located) (heads : List Head) : Type 0 where
  pub distinct : AllPairs (λ g h. g.0 ≡ h.0 → ⊥) heads
  pub first : All (λ h. is_line h.1 (first_line 0 h.0 ds) ≡ true) heads
  pub before : All (λ h. All (λ l. IsApart h.1 l.line) ls) heads

-- a label stands at an item; `next` is the number of the function that goes on
pub record IsMarked (fs : List Function) (next : ℕ) (marked : Bool) (f i : ℕ) : Type 0 where
  pub function : Function
  pub there : slice_get fs f ≡ Some function
  pub inside : i ≤ length function.items
  pub labelled : (item : SourceLine) → slice_get function.items i ≡ Some item → item.labelled ≡ true
  pub ahead : f ≡ next → i ≡ length function.items → marked ≡ true

abbrev pub on_target : List Function → ℕ → Bool → List ℕ → Target → Type 0
on_target fs next marked rodata (targets.Place f i) = IsMarked fs next marked f i
on_target fs next marked rodata (targets.Data offset) = offset ≤ length rodata
on_target fs next marked rodata (targets.Name name) = ⊥

abbrev pub IsLabelled : List Function → ℕ → Bool → List ℕ → Label → Type 0
IsLabelled fs next marked rodata l = on_target fs next marked rodata l.target

pub record Keeps (ds : List Definition) (ls : List Located) (a : Assembly) : Type 0 where
  pub fs : List Function
  pub same : functions_in a ≡ fs
  pub heads : AreHeads ds ls (map head_of fs)
  pub each : All IsFine fs
  pub sum : sum_by instructions_in fs ≤ a.instructions
  pub labels : All (IsLabelled fs (length a.functions) a.marked a.rodata) a.labels

-- ---- lists

pub slice_get-end : {X : Type 0} (xs : List X) (x : X) → slice_get xs (length xs) ≡ Some x → ⊥
slice_get-end xs x e = let h = slice_get_within xs (length xs) x e in omega arith

pub slice_get-front : {X : Type 0} (xs ys : List X) (i : ℕ) (x : X) → slice_get xs i ≡ Some x → slice_get (xs ++ ys) i ≡ Some x
slice_get-front [] ys i x e = let no : ⊥ = cc in absurd no
slice_get-front (y ∷ xs) ys zero x e = e
slice_get-front (y ∷ xs) ys (suc i) x e = slice_get-front xs ys i x e

pub slice_get-last : {X : Type 0} (xs : List X) (x : X) → slice_get (xs ++ x ∷ []) (length xs) ≡ Some x
slice_get-last [] x = refl
slice_get-last (y ∷ xs) x = slice_get-last xs x

pub slice_get-inside : {X : Type 0} (xs : List X) (y z : X) (i : ℕ) → i < length xs → slice_get (xs ++ y ∷ []) i ≡ Some z → slice_get xs i ≡ Some z
slice_get-inside [] y z i h e = let no : ⊥ = omega arith in absurd no
slice_get-inside (w ∷ xs) y z zero h e = e
slice_get-inside (w ∷ xs) y z (suc i) h e = slice_get-inside xs y z i (omega arith) e

pub further : {X : Type 0} (xs : List X) (w x y z : X) (i : ℕ) → ((i ≡ length xs) × (x ≡ z)) ⊎ ((i < length xs) × (slice_get (xs ++ y ∷ []) i ≡ Some z))
    → ((suc i ≡ length (w ∷ xs)) × (x ≡ z)) ⊎ ((suc i < length (w ∷ xs)) × (slice_get ((w ∷ xs) ++ y ∷ []) (suc i) ≡ Some z))
further xs w x y z i (inl h) = let e : i ≡ length xs = h.0 in inl (omega arith, h.1)
further xs w x y z i (inr h) = let b : i < length xs = h.0 in inr (omega arith, h.1)

-- an element of a list whose last one is replaced
pub slice_get-replaced : {X : Type 0} (xs : List X) (x y z : X) (i : ℕ) → slice_get (xs ++ x ∷ []) i ≡ Some z → ((i ≡ length xs) × (x ≡ z)) ⊎ ((i < length xs) × (slice_get (xs ++ y ∷ []) i ≡ Some z))
slice_get-replaced [] x y z zero e = let same : x ≡ z = cc in inl (refl, same)
slice_get-replaced [] x y z (suc i) e = let no : ⊥ = cc in absurd no
slice_get-replaced (w ∷ xs) x y z zero e = inr (omega arith, e)
slice_get-replaced (w ∷ xs) x y z (suc i) e = further xs w x y z i (slice_get-replaced xs x y z i e)

pub sum_by-push : {X : Type 0} (f : X → ℕ) (xs : List X) (x : X) → sum_by f (xs ++ x ∷ []) ≡ sum_by f xs + f x
sum_by-push f xs x = sum_by-append f xs (x ∷ []) ∙ ap (λ n. sum_by f xs + n) (zero-add (f x))

-- ---- lines

pub fewer : (ds : List Definition) (l : Located) (ls : List Located) (heads : List Head) → AreHeads ds (l ∷ ls) heads → AreHeads ds ls heads
fewer ds l ls heads h = record {
  distinct = h.distinct;
  first = h.first;
  before = All-weaker (λ g. All (λ m. IsApart g.1 m.line) (l ∷ ls)) (λ g. All (λ m. IsApart g.1 m.line) ls) (λ g b. All-tail (λ m. IsApart g.1 m.line) l ls b) heads h.before;
}

pub Keeps-fewer : (ds : List Definition) (l : Located) (ls : List Located) (a : Assembly) → Keeps ds (l ∷ ls) a → Keeps ds ls a
Keeps-fewer ds l ls a k = record { fs = k.fs; same = k.same; heads = fewer ds l ls _ k.heads; each = k.each; sum = k.sum; labels = k.labels }

-- no function goes on
pub closed : (fs : List Function) (next end : ℕ) (marked now : Bool) (rodata : List ℕ) → end ≡ length fs → (t : Target) → on_target fs next marked rodata t → on_target fs end now rodata t
closed fs next end marked now rodata e (targets.Place f i) h = record {
  function = h.function;
  there = h.there;
  inside = h.inside;
  labelled = h.labelled;
  ahead = λ o p. let b = slice_get_within fs f h.function h.there in let no : ⊥ = omega arith in absurd no;
}
closed fs next end marked now rodata e (targets.Data offset) h = h
closed fs next end marked now rodata e (targets.Name name) h = h

pub Keeps-begin_file : (ds : List Definition) (ls : List Located) (a : Assembly) → Keeps ds ls a → Keeps ds ls (begin_file a)
Keeps-begin_file ds ls a k = record {
  fs = k.fs;
  same = append-nil (functions_in a) ∙ k.same;
  heads = k.heads;
  each = k.each;
  sum = k.sum;
  labels = All-weaker (IsLabelled k.fs (length a.functions) a.marked a.rodata) (IsLabelled k.fs (length (functions_in a)) false a.rodata) (λ l h. closed k.fs _ _ a.marked false a.rodata (ap length k.same) l.target h) a.labels k.labels;
}

pub Keeps-begin_line : (ds : List Definition) (ls : List Located) (line : Line) (a : Assembly) → Keeps ds ls a → Keeps ds ls (begin_line line a)
Keeps-begin_line ds ls line a k = elim (line.line == 1) as (λ b. Keeps ds ls (cond b (begin_file a) a)) [ true ↦ Keeps-begin_file ds ls a k | false ↦ k ]

-- ---- labels

pub same_line : (l m : Line) (o : Option Line) → is_line l o ≡ true → is_line m o ≡ true → (l.file ≡ m.file) × (l.line ≡ m.line)
same_line l m None d e = let no : ⊥ = cc in absurd no
same_line l m (Some x) d e =
    let p = both_true (x.file == l.file) (x.line == l.line) d in
    let q = both_true (x.file == m.file) (x.line == m.line) e in
    (sym (equal_true x.file l.file p.0) ∙ equal_true x.file m.file q.0, sym (equal_true x.line l.line p.1) ∙ equal_true x.line m.line q.1)

pub heads_more : (ds : List Definition) (l : Located) (ls : List Located) (heads : List Head) (name : List ℕ) → is_line l.line (first_line 0 name ds) ≡ true → All (λ m. IsApart l.line m.line) ls → AreHeads ds (l ∷ ls) heads → AreHeads ds ls (heads ++ (name, l.line) ∷ [])
heads_more ds l ls heads name one apart h =
    let rest = fewer ds l ls heads h in record {
      distinct = all_pairs_push (λ (g h : Head). g.0 ≡ h.0 → ⊥) heads (name, l.line) h.distinct (λ k d b same.
          let g : Head = get_or heads k d in
          let first : is_line g.1 (first_line 0 g.0 ds) ≡ true = All-get_or (λ (g : Head). is_line g.1 (first_line 0 g.0 ds) ≡ true) heads k d b h.first in
          let before : IsApart g.1 l.line = All-head (λ m. IsApart g.1 m.line) l ls (All-get_or (λ (g : Head). All (λ m. IsApart g.1 m.line) (l ∷ ls)) heads k d b h.before) in
          let lines = same_line g.1 l.line (first_line 0 name ds) (ap (λ n. is_line g.1 (first_line 0 n ds)) (sym same) ∙ first) one in
          before.apart lines.0 lines.1);
      first = All-push (λ (g : Head). is_line g.1 (first_line 0 g.0 ds) ≡ true) heads (name, l.line) h.first one;
      before = All-push (λ (g : Head). All (λ m. IsApart g.1 m.line) ls) heads (name, l.line) rest.before apart;
    }

-- a function begins
pub opened : (fs : List Function) (new : Function) (next end : ℕ) (marked : Bool) (rodata : List ℕ) (t : Target) → on_target fs next marked rodata t → on_target (fs ++ new ∷ []) end true rodata t
opened fs new next end marked rodata (targets.Place f i) h = record {
  function = h.function;
  there = slice_get-front fs (new ∷ []) f h.function h.there;
  inside = h.inside;
  labelled = h.labelled;
  ahead = λ o p. refl;
}
opened fs new next end marked rodata (targets.Data offset) h = h
opened fs new next end marked rodata (targets.Name name) h = h

pub new-fine : (line : Line) (name : List ℕ) → is_name name ≡ true → is_local name ≡ false → is_entry name ≡ false → IsFine (new_function line name)
new-fine line name n s e = record { name = n; shared = s; free = e; ints = omega arith; handles = omega arith; slots = omega arith; items = All-nil (λ (item : SourceLine). IsRead item.ins) }

pub Keeps-function : (ds : List Definition) (l : Located) (ls : List Located) (name : List ℕ) (a : Assembly) → is_name name ≡ true → is_local name ≡ false → is_entry name ≡ false → is_line l.line (first_line 0 name ds) ≡ true
    → scope_of l.line.file name ≡ 0 → All (λ m. IsApart l.line m.line) ls → Keeps ds (l ∷ ls) a → Keeps ds ls (function_label l.line name a)
Keeps-function ds l ls name a n s e one own apart k =
    let new : Function = new_function l.line name in
    let end : length (functions_in a) ≡ length k.fs = ap length k.same in
    record {
      fs = k.fs ++ new ∷ [];
      same = ap (λ t. t ++ new ∷ []) k.same;
      heads = subst (AreHeads ds ls) (sym (map-append head_of k.fs (new ∷ []))) (heads_more ds l ls (map head_of k.fs) name one apart k.heads);
      each = All-push IsFine k.fs new k.each (new-fine l.line name n s e);
      sum = let sums = sum_by-push instructions_in k.fs new in let old = k.sum in omega arith;
      labels = All-push (IsLabelled (k.fs ++ new ∷ []) (length (functions_in a)) true a.rodata) a.labels _
          (All-weaker (IsLabelled k.fs (length a.functions) a.marked a.rodata) (IsLabelled (k.fs ++ new ∷ []) (length (functions_in a)) true a.rodata) (λ x h. opened k.fs new _ _ a.marked a.rodata x.target h) a.labels k.labels)
          (record {
            function = new;
            there = ap (λ i. slice_get (k.fs ++ new ∷ []) i) end ∙ slice_get-last k.fs new;
            inside = omega arith;
            labelled = λ item e. let no : ⊥ = cc in absurd no;
            ahead = λ o p. refl;
          });
    }

-- a label where the next item will stand
pub ahead : (fs : List Function) (next : ℕ) (marked : Bool) (rodata : List ℕ) (t : Target) → on_target fs next marked rodata t → on_target fs next true rodata t
ahead fs next marked rodata (targets.Place f i) h = record { function = h.function; there = h.there; inside = h.inside; labelled = h.labelled; ahead = λ o p. refl }
ahead fs next marked rodata (targets.Data offset) h = h
ahead fs next marked rodata (targets.Name name) h = h

pub Keeps-local : (ds : List Definition) (ls : List Located) (line : Line) (name : List ℕ) (a : Assembly) (current : Option Function) → a.current ≡ current → Keeps ds ls a → Keeps ds ls (local_label line name current a)
Keeps-local ds ls line name a None e k = k
Keeps-local ds ls line name a (Some f) e k = record {
  fs = k.fs;
  same = k.same;
  heads = k.heads;
  each = k.each;
  sum = k.sum;
  labels = All-push (IsLabelled k.fs (length a.functions) true a.rodata) a.labels _
      (All-weaker (IsLabelled k.fs (length a.functions) a.marked a.rodata) (IsLabelled k.fs (length a.functions) true a.rodata) (λ x h. ahead k.fs _ a.marked a.rodata x.target h) a.labels k.labels)
      (record {
        function = f;
        there = ap (λ fs. slice_get fs (length a.functions)) (sym k.same ∙ ap (λ c. a.functions ++ one_or_none c) e) ∙ slice_get-last a.functions f;
        inside = omega arith;
        labelled = λ item p. absurd (slice_get-end f.items item p);
        ahead = λ o p. refl;
      });
}

pub Keeps-data : (ds : List Definition) (ls : List Located) (line : Line) (name : List ℕ) (a : Assembly) → Keeps ds ls a → Keeps ds ls (data_label line name a)
Keeps-data ds ls line name a k = record {
  fs = k.fs;
  same = k.same;
  heads = k.heads;
  each = k.each;
  sum = k.sum;
  labels = All-push (IsLabelled k.fs (length a.functions) a.marked a.rodata) a.labels _ k.labels (omega arith);
}

pub not_entry : (b c : Bool) → (not b && c) ≡ true → (b ≡ false) × (c ≡ true)
not_entry true c e = let no : ⊥ = cc in absurd no
not_entry false c e = (refl, e)

pub Keeps-labelled : (ds : List Definition) (l : Located) (ls : List Located) (label : Option (List ℕ)) (a : Assembly) → is_single ds l.line label ≡ true → ((n : List ℕ) → label ≡ Some n → is_name n ≡ true)
    → All (λ m. IsApart l.line m.line) ls → Keeps ds (l ∷ ls) a → Keeps ds ls (labelled l.line label a)
Keeps-labelled ds l ls None a single name apart k = Keeps-fewer ds l ls a k
Keeps-labelled ds l ls (Some n) a single name apart k =
    let own = not_entry (is_entry n) (is_line l.line (first_line (scope_of l.line.file n) n ds)) single in
    (elim a.standing.in_data as (λ d. (local : Bool) → is_local n ≡ local → Keeps ds ls (label_in d local l.line n a)) [
      | true ↦ λ local e. Keeps-data ds ls l.line n a (Keeps-fewer ds l ls a k)
      | false ↦ λ local. elim local as (λ b. is_local n ≡ b → Keeps ds ls (label_in false b l.line n a)) [
        | true ↦ λ e. Keeps-local ds ls l.line n a a.current refl (Keeps-fewer ds l ls a k)
        | false ↦ λ e.
            let own_scope : scope_of l.line.file n ≡ 0 = ap (λ b. cond b l.line.file 0) e in
            Keeps-function ds l ls n a (name n refl) e own.0 (ap (λ s. is_line l.line (first_line s n ds)) (sym own_scope) ∙ own.1) own_scope apart k
      ]
    ]) (is_local n) refl
