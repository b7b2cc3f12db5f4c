-- Texts and units: a text that is short enough (short_from_too_long), and that the unit of texts has what every unit has
-- (unit_of-is_unit; is_unit_in_from_views for what all lines make).
use Rattle.std.proofs.Common.{ℕ, zero, suc, ◌≡◌, ◌+◌, ◌≤◌, ◌<◌, nat_lt, ◌==◌, ◌&&◌, Bool, true, false, List, [], ◌∷◌, length, map, Option, Some, None, Result, Ok, Err, refl, ap, sym, subst, ◌∙◌, cond, arith, All, get_or}
use Rattle.std.specs.Prelude.{AllPairs, slice_get, sum_by}
use Rattle.std.specs.Global.{Vec}
use Rattle.std.proofs.lemmas.Bool.Decides.{nat_tests}
use Rattle.std.proofs.lemmas.List.{length-map}
use Rattle.std.proofs.lemmas.List.Elements.{All-nil, All-cons, All-head, All-tail, All-weaker, All-map}
use Rattle.std.proofs.lemmas.List.Sums.{sum_by-append}
use Rattle.st_line.specs.declared.source.Target.{Target}
use Rattle.st_line.specs.declared.source.Target.TheVariants as targets
use Rattle.st_line.specs.declared.source.SourceIns.{SourceIns}
use Rattle.st_line.specs.declared.source.SourceIns.TheVariants as source
use Rattle.st_line.specs.declared.fault.AsmFault.{AsmFault}
use Rattle.st_line.specs.Operands.{is_name}
use Rattle.st_asm.specs.declared.unit.SourceLine.{SourceLine}
use Rattle.st_asm.specs.declared.unit.Function.{Function}
use Rattle.std.specs.Str.{bytes_eq}
use Rattle.st_asm.specs.Labels.{Located, Definition, definitions_of, located, scope_of}
use Rattle.st_asm.specs.Assembly.{Label, Assembly, checked_lines, nothing, too_long, functions_in, parts_in, target_at, found_or, target_in, ins_in, item_in, function_in, weight, Parts, unit_from, unit_when, unit_of}
use Rattle.st_asm.specs.Unit.{IsTarget, IsInstruction, IsFunction, instructions_in, IsEarlier, item_lines, IsUnit}
use Rattle.st_asm.specs.Reading.{IsShort, IsUnitIn}
use Rattle.st_asm.proofs.ReadSteps.{IsNamed, IsRead}
use Rattle.st_asm.proofs.Keeping.{Head, head_of, IsFine, on_target, IsLabelled, Keeps}
use Rattle.st_asm.proofs.Kept.{IsSmall, Keeps-lines, Keeps-nothing}
use Rattle.st_asm.proofs.Apartness.{AreApart-located}
use Rattle.st_asm.proofs.LineOrder.{items-ordered, lines-placed}

-- ---- short texts

fits : (before n : ℕ) → nat_lt 1048576 (before + n) ≡ false → n ≤ 1048576
fits before n e = grind (arith, nat_tests)

pub short_from_too_long : (file before : ℕ) (texts : List (Vec ℕ)) → too_long file before (map (λ t. t.items) texts) ≡ None → All IsShort texts
short_from_too_long file before [] e = All-nil IsShort
short_from_too_long file before (t ∷ ts) e =
    (elim (nat_lt 1048576 (before + length t.items)) as (λ b. nat_lt 1048576 (before + length t.items) ≡ b → cond b (Some file) (too_long (file + 1) (before + length t.items) (map (λ t. t.items) ts)) ≡ None → All IsShort (t ∷ ts)) [
      | true ↦ λ o s. let no : ⊥ = cc in absurd no
      | false ↦ λ o s. All-cons IsShort t ts (fits before (length t.items) o) (short_from_too_long (file + 1) (before + length t.items) ts s)
    ]) refl e

-- ---- lists

slice_get-map : {X Y : Type 0} (f : X → Y) (xs : List X) (i : ℕ) (x : X) → slice_get xs i ≡ Some x → slice_get (map f xs) i ≡ Some (f x)
slice_get-map f [] i x e = let no : ⊥ = cc in absurd no
slice_get-map f (y ∷ xs) zero x e = let same : y ≡ x = cc in ap (λ z. Some (f z)) same
slice_get-map f (y ∷ xs) (suc i) x e = slice_get-map f xs i x e

slice_get-unmap : {X Y : Type 0} (f : X → Y) (xs : List X) (i : ℕ) (y : Y) → slice_get (map f xs) i ≡ Some y → (x : X) × (slice_get xs i ≡ Some x) × (f x ≡ y)
slice_get-unmap f [] i y e = let no : ⊥ = cc in absurd no
slice_get-unmap f (x ∷ xs) zero y e = let same : f x ≡ y = cc in (x, refl, same)
slice_get-unmap f (x ∷ xs) (suc i) y e = slice_get-unmap f xs i y e

sum_by-map : {X Y : Type 0} (f : X → Y) (n : Y → ℕ) (m : X → ℕ) (xs : List X) → ((x : X) → n (f x) ≡ m x) → sum_by n (map f xs) ≡ sum_by m xs
sum_by-map f n m [] h = refl
sum_by-map f n m (x ∷ xs) h =
    sum_by-append n (f x ∷ []) (map f xs)
    ∙ (λ i. (0 + h x i) + sum_by-map f n m xs h i)
    ∙ sym (sum_by-append m (x ∷ []) xs)

-- ---- names become places

weight_in : (labels : List Label) (file : ℕ) (ins : SourceIns) → weight (ins_in labels file ins) ≡ weight ins
weight_in labels file (source.Plain i) = refl
weight_in labels file (source.Li rd value) = refl
weight_in labels file (source.La rd to) = refl
weight_in labels file (source.Branch op rs1 rs2 to) = refl
weight_in labels file (source.Jump to) = refl
weight_in labels file (source.Call name) = refl
weight_in labels file source.Ret = refl
weight_in labels file (source.Fork handle) = refl

target_at-all : (P : Target → Type 0) (scope : ℕ) (name : List ℕ) (labels : List Label) (t : Target) → All (λ l. P l.target) labels → target_at scope name labels ≡ Some t → P t
target_at-all P scope name [] t h e = let no : ⊥ = cc in absurd no
target_at-all P scope name (l ∷ ls) t h e =
    let Q : Label → Type 0 = λ l. P l.target in
    (elim ((l.scope == scope) && bytes_eq l.name name) as (λ b. cond b (Some l.target) (target_at scope name ls) ≡ Some t → P t) [
      | true ↦ λ s. let same : l.target ≡ t = cc in subst P same (All-head Q l ls h)
      | false ↦ λ s. target_at-all P scope name ls t (All-tail Q l ls h) s
    ]) e

placed : (labels : List Label) (fs : List Function) (next : ℕ) (marked : Bool) (rodata : List ℕ) (t : Target) → on_target fs next marked rodata t → IsTarget (map (function_in labels) fs) rodata t
placed labels fs next marked rodata (targets.Place f i) h = record {
  function = function_in labels h.function;
  there = slice_get-map (function_in labels) fs f h.function h.there;
  inside = subst (λ n. i ≤ n) (sym (length-map h.function.items (item_in labels))) h.inside;
  labelled = λ item e. let old = slice_get-unmap (item_in labels) h.function.items i item e in ap (λ (x : SourceLine). x.labelled) (sym old.2) ∙ h.labelled old.0 old.1;
}
placed labels fs next marked rodata (targets.Data offset) h = h
placed labels fs next marked rodata (targets.Name name) h = absurd h

module _ (a : Assembly) (fs : List Function) (next : ℕ) (marked : Bool) (labels : All (IsLabelled fs next marked a.rodata) a.labels) where
  abbrev F : List Function
  F = map (function_in a.labels) fs

  found : (name : List ℕ) (o : Option Target) → is_name name ≡ true → ((t : Target) → o ≡ Some t → IsTarget F a.rodata t) → IsTarget F a.rodata (found_or (targets.Name name) o)
  found name None n h = n
  found name (Some t) n h = h t refl

  target_in-target : (file : ℕ) (to : Target) → IsNamed to → IsTarget F a.rodata (target_in a.labels file to)
  target_in-target file (targets.Name name) n =
      found name (target_at (scope_of file name) name a.labels) n (λ t e. placed a.labels fs next marked a.rodata t (target_at-all (on_target fs next marked a.rodata) (scope_of file name) name a.labels t labels e))
  target_in-target file (targets.Place f i) n = absurd n
  target_in-target file (targets.Data offset) n = absurd n

  ins_in-instruction : (file : ℕ) (ins : SourceIns) → IsRead ins → IsInstruction F a.rodata (ins_in a.labels file ins)
  ins_in-instruction file (source.Plain i) h = h
  ins_in-instruction file (source.Li rd value) h = h
  ins_in-instruction file (source.La rd to) h = target_in-target file to h
  ins_in-instruction file (source.Branch op rs1 rs2 to) h = (h.0, target_in-target file to h.1)
  ins_in-instruction file (source.Jump to) h = target_in-target file to h
  ins_in-instruction file (source.Call name) h = h
  ins_in-instruction file source.Ret h = tt
  ins_in-instruction file (source.Fork handle) h = tt

  function_in-function : (f : Function) → IsFine f → IsFunction F a.rodata (function_in a.labels f)
  function_in-function f h = record {
    name = h.name;
    shared = h.shared;
    free = h.free;
    ints = h.ints;
    handles = h.handles;
    slots = h.slots;
    items = All-map (λ (item : SourceLine). IsInstruction F a.rodata item.ins) (item_in a.labels) f.items
        (All-weaker (λ (item : SourceLine). IsRead item.ins) (λ (item : SourceLine). IsInstruction F a.rodata (item_in a.labels item).ins) (λ item r. ins_in-instruction item.line.file item.ins r) f.items h.items);
  }

head_at : (labels : List Label) (fs : List Function) (i : ℕ) (d : Function) → (get_or (map (function_in labels) fs) i d).name ≡ (get_or (map head_of fs) i (head_of d)).0
head_at labels [] i d = refl
head_at labels (f ∷ fs) zero d = refl
head_at labels (f ∷ fs) (suc i) d = head_at labels fs i d

distinct_names : (labels : List Label) (fs : List Function) → AllPairs (λ (g h : Head). g.0 ≡ h.0 → ⊥) (map head_of fs) → AllPairs (λ (f g : Function). f.name ≡ g.name → ⊥) (map (function_in labels) fs)
distinct_names labels fs h = λ i j d o b same.
    let inside = subst (λ n. j < n) (length-map fs (function_in labels) ∙ sym (length-map fs head_of)) b in
    h i j (head_of d) o inside (sym (head_at labels fs i d) ∙ same ∙ head_at labels fs j d)

is_unit : (ds : List Definition) (a : Assembly) → Keeps ds [] a → IsSmall a → AllPairs IsEarlier (item_lines (functions_in a)) → IsUnit (map (function_in a.labels) (functions_in a)) a.rodata
is_unit ds a k small ordered =
    subst (λ fs. IsUnit (map (function_in a.labels) fs) a.rodata) (sym k.same) (record {
      each = All-map (IsFunction (map (function_in a.labels) k.fs) a.rodata) (function_in a.labels) k.fs
          (All-weaker IsFine (λ f. IsFunction (map (function_in a.labels) k.fs) a.rodata (function_in a.labels f)) (λ f h. function_in-function a k.fs (length a.functions) a.marked k.labels f h) k.fs k.each);
      distinct = distinct_names a.labels k.fs k.heads.distinct;
      instructions =
          let s = sum_by-map (function_in a.labels) instructions_in instructions_in k.fs (λ f. sum_by-map (item_in a.labels) (λ (item : SourceLine). weight item.ins) (λ (item : SourceLine). weight item.ins) f.items (λ item. weight_in a.labels item.line.file item.ins)) in
          let t = k.sum in
          let u = small.few in
          omega arith;
      bytes = small.short;
      ordered = subst (AllPairs IsEarlier) (sym (lines-placed a.labels k.fs)) (subst (λ fs. AllPairs IsEarlier (item_lines fs)) k.same ordered);
    })

is_unit-from_lines : (texts : List (List ℕ)) (a : Assembly) → checked_lines (definitions_of (located 1 texts)) nothing (located 1 texts) ≡ Ok a → IsUnit (parts_in a).functions (parts_in a).rodata
is_unit-from_lines texts a e =
    let lines = located 1 texts in
    let start = Keeps-nothing (definitions_of lines) lines in
    let kept = Keeps-lines (definitions_of lines) lines nothing a e (AreApart-located 1 texts) start.0 start.1 in
    is_unit (definitions_of lines) a kept.0 kept.1 (items-ordered texts (definitions_of lines) a e)

-- what all lines make is a unit
pub is_unit_in_from_views : (texts : List (List ℕ)) (views : List Located) (a : Assembly) → views ≡ located 1 texts → checked_lines (definitions_of views) nothing views ≡ Ok a → IsUnitIn (parts_in a)
is_unit_in_from_views texts views a same e = ∣ is_unit-from_lines texts a (ap (λ ls. checked_lines (definitions_of ls) nothing ls) (sym same) ∙ e) ∣₁

unit_from-ok : (r : Result Assembly AsmFault) (parts : Parts) → unit_from r ≡ Ok parts → (a : Assembly) × (r ≡ Ok a) × (parts_in a ≡ parts)
unit_from-ok (Ok a) parts e = let same : parts_in a ≡ parts = cc in (a, refl, same)
unit_from-ok (Err fault) parts e = let no : ⊥ = cc in absurd no

unit_when-is_unit : (texts : List (List ℕ)) (o : Option ℕ) (parts : Parts) → unit_when o (located 1 texts) ≡ Ok parts → IsUnit parts.functions parts.rodata
unit_when-is_unit texts (Some file) parts e = let no : ⊥ = cc in absurd no
unit_when-is_unit texts None parts e =
    let made = unit_from-ok (checked_lines (definitions_of (located 1 texts)) nothing (located 1 texts)) parts e in
    subst (λ (p : Parts). IsUnit p.functions p.rodata) made.2 (is_unit-from_lines texts made.0 made.1)

-- the unit of texts is a unit
pub unit_of-is_unit : (texts : List (List ℕ)) (parts : Parts) → unit_of texts ≡ Ok parts → IsUnit parts.functions parts.rodata
unfolding unit_of
unit_of-is_unit texts parts e = unit_when-is_unit texts (too_long 1 0 texts) parts e
