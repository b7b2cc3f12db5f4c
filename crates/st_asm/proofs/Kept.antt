-- Every statement keeps what every unit has (Keeps-stated), and so does every line: what all lines make has it (Keeps-lines). What one line
-- makes is taken apart by checked_line-made.
use Rattle.std.proofs.Common.{ℕ, ◌≡◌, ◌+◌, ◌≤◌, ◌<◌, ◌^◌, nat_le, Bool, true, false, List, [], ◌∷◌, ◌++◌, length, map, Option, Some, None, Result, Ok, Err, refl, ap, sym, subst, ◌∙◌, arith, All, length-append, append-nil, inl, inr}
use Rattle.std.specs.Prelude.{slice_get, sum_by}
use Rattle.std.proofs.lemmas.List.{map-append}
use Rattle.st_rv.proofs.Apart.{both_true}
use Rattle.std.proofs.lemmas.List.Elements.{All-nil, All-push, All-pop, All-weaker}
use Rattle.st_base.specs.declared.line.Line.{Line}
use Rattle.st_line.specs.declared.fault.AsmKind.{AsmKind}
use Rattle.st_line.specs.declared.fault.AsmKind.TheVariants.{DoubleLabel, NoLabel, TooLarge}
use Rattle.st_line.specs.declared.fault.AsmFault.{AsmFault}
use Rattle.st_line.specs.declared.source.Target.{Target}
use Rattle.st_line.specs.declared.source.Target.TheVariants as targets
use Rattle.st_line.specs.declared.source.SourceIns.{SourceIns}
use Rattle.st_line.specs.declared.source.Statement.{Statement}
use Rattle.st_line.specs.declared.source.Statement.TheVariants as statements
use Rattle.st_line.specs.declared.source.Standing.{Standing}
use Rattle.st_line.specs.Statement.{◌>>=◌, require, line_label, line_statement}
use Rattle.st_asm.specs.declared.unit.SourceLine.{SourceLine}
use Rattle.st_asm.specs.declared.unit.Function.{Function}
use Rattle.st_asm.specs.Labels.{Located, Definition, is_single, is_known}
use Rattle.st_asm.specs.Assembly.{Assembly, nothing, one_or_none, begin_line, labelled, zeros, padding, with_data, aligned, on_function, in_section, stated, weight, is_small, name_given, checked_line, checked_lines, then_lines}
use Rattle.st_asm.specs.Unit.{instructions_in}
use Rattle.st_asm.proofs.ReadSteps.{IsRead, IsStatement, bind-ok, require-ok, ok-same, at_most}
use Rattle.st_asm.proofs.ReadStatements.{line_statement-read, line_label-is_name}
use Rattle.st_asm.proofs.Keeping.{IsFine, head_of, IsApart, AreHeads, on_target, IsLabelled, Keeps, slice_get-last, slice_get-inside, slice_get-replaced, sum_by-push, closed, Keeps-begin_line, ahead, Keeps-labelled}

-- ---- statements

-- more data
longer : (fs : List Function) (next : ℕ) (marked : Bool) (rodata bytes : List ℕ) (t : Target) → on_target fs next marked rodata t → on_target fs next marked (rodata ++ bytes) t
longer fs next marked rodata bytes (targets.Place f i) h = h
longer fs next marked rodata bytes (targets.Data offset) h = let n = length-append rodata bytes in let b : offset ≤ length rodata = h in omega arith
longer fs next marked rodata bytes (targets.Name name) h = h

Keeps-bytes : (ds : List Definition) (ls : List Located) (bytes : List ℕ) (a : Assembly) → Keeps ds ls a → Keeps ds ls (with_data bytes a)
Keeps-bytes ds ls bytes a k = record {
  fs = k.fs;
  same = k.same;
  heads = k.heads;
  each = k.each;
  sum = k.sum;
  labels = All-weaker (IsLabelled k.fs (length a.functions) a.marked a.rodata) (IsLabelled k.fs (length a.functions) a.marked (a.rodata ++ bytes)) (λ l h. longer k.fs _ a.marked a.rodata bytes l.target h) a.labels k.labels;
}

-- a place in a function, at which a label stands
pub record IsIn (marked : Bool) (f : Function) (i : ℕ) : Type 0 where
  pub inside : i ≤ length f.items
  pub labelled : (item : SourceLine) → slice_get f.items i ≡ Some item → item.labelled ≡ true
  pub ahead : i ≡ length f.items → marked ≡ true

-- what a statement may make of the function that goes on
pub record Changes (a : Assembly) (n : ℕ) (marked : Bool) (f g : Function) : Type 0 where
  pub head : head_of g ≡ head_of f
  pub fine : IsFine f → IsFine g
  pub sum : instructions_in g + a.instructions ≤ instructions_in f + n
  pub places : (i : ℕ) → IsIn a.marked f i → IsIn marked g i

changed_target : (front : List Function) (f g : Function) (before marked : Bool) (rodata : List ℕ) → ((i : ℕ) → IsIn before f i → IsIn marked g i) → (t : Target) → on_target (front ++ f ∷ []) (length front) before rodata t → on_target (front ++ g ∷ []) (length front) marked rodata t
changed_target front f g before marked rodata places (targets.Place k i) h =
    elim (slice_get-replaced front f g h.function k h.there) [
      | inl at ↦
          let function : f ≡ h.function = at.1 in
          let P : Function → Type 0 = λ x. i ≤ length x.items in
          let Q : Function → Type 0 = λ x. (item : SourceLine) → slice_get x.items i ≡ Some item → item.labelled ≡ true in
          let R : Function → Type 0 = λ x. i ≡ length x.items → before ≡ true in
          let now = places i (record { inside = subst P (sym function) h.inside; labelled = subst Q (sym function) h.labelled; ahead = subst R (sym function) (h.ahead at.0) }) in
          record {
            function = g;
            there = ap (λ n. slice_get (front ++ g ∷ []) n) at.0 ∙ slice_get-last front g;
            inside = now.inside;
            labelled = now.labelled;
            ahead = λ o p. now.ahead p;
          }
      | inr below ↦ record {
        function = h.function;
        there = below.1;
        inside = h.inside;
        labelled = h.labelled;
        ahead = λ o p. let b : k < length front = below.0 in let no : ⊥ = omega arith in absurd no;
      }
    ]
changed_target front f g before marked rodata places (targets.Data offset) h = h
changed_target front f g before marked rodata places (targets.Name name) h = h

-- the function that goes on is changed, where one does
abbrev made : Standing → Option Function → ℕ → Bool → Assembly → Assembly
made standing current n marked a = record a { standing = standing; current = current; instructions = n; marked = marked }

Keeps-made : (ds : List Definition) (ls : List Located) (standing : Standing) (change : Function → Function) (n : ℕ) (marked : Bool) (a : Assembly) (current : Option Function) → a.current ≡ current
    → ((f : Function) → Changes a n marked f (change f)) → a.instructions ≤ n → Keeps ds ls a → Keeps ds ls (made standing (on_function change current) n marked a)
Keeps-made ds ls standing change n marked a None e changes more k =
    let same : a.functions ++ [] ≡ k.fs = ap (λ c. a.functions ++ one_or_none c) (sym e) ∙ k.same in
    let end : length a.functions ≡ length k.fs = ap length (sym (append-nil a.functions) ∙ same) in
    record {
      fs = k.fs;
      same = same;
      heads = k.heads;
      each = k.each;
      sum = let s = k.sum in omega arith;
      labels = All-weaker (IsLabelled k.fs (length a.functions) a.marked a.rodata) (IsLabelled k.fs (length a.functions) marked a.rodata) (λ l h. closed k.fs _ _ a.marked marked a.rodata end l.target h) a.labels k.labels;
    }
Keeps-made ds ls standing change n marked a (Some f) e changes more k =
    let g : Function = change f in
    let c : Changes a n marked f g = changes f in
    let old : k.fs ≡ a.functions ++ f ∷ [] = sym k.same ∙ ap (λ c. a.functions ++ one_or_none c) e in
    let each = All-pop IsFine k.fs a.functions (Some f) old k.each in
    let heads : map head_of k.fs ≡ map head_of (a.functions ++ g ∷ []) =
    ap (map head_of) old ∙ map-append head_of a.functions (f ∷ []) ∙ ap (λ h. map head_of a.functions ++ h ∷ []) (sym c.head) ∙ sym (map-append head_of a.functions (g ∷ [])) in
    let L : List Function → Type 0 = λ fs. All (IsLabelled fs (length a.functions) a.marked a.rodata) a.labels in
    record {
      fs = a.functions ++ g ∷ [];
      same = refl;
      heads = subst (AreHeads ds ls) heads k.heads;
      each = All-push IsFine a.functions g each.0 (c.fine each.1);
      sum =
          let s = sum_by-push instructions_in a.functions g in
          let t = sum_by-push instructions_in a.functions f in
          let u = ap (sum_by instructions_in) old in
          let v = k.sum in
          let w = c.sum in
          omega arith;
      labels = All-weaker (IsLabelled (a.functions ++ f ∷ []) (length a.functions) a.marked a.rodata) (IsLabelled (a.functions ++ g ∷ []) (length a.functions) marked a.rodata)
          (λ l h. changed_target a.functions f g a.marked marked a.rodata c.places l.target h) a.labels (subst L old k.labels);
    }

-- an item more
abbrev with_line : SourceLine → Function → Function
with_line item f = record f { items = f.items ++ item ∷ [] }

item_labelled : (items : List SourceLine) (item x : SourceLine) (i : ℕ) (marked : Bool) → ((y : SourceLine) → slice_get items i ≡ Some y → y.labelled ≡ true) → (i ≡ length items → marked ≡ true) → item.labelled ≡ marked
    → slice_get (items ++ item ∷ []) i ≡ Some x → x.labelled ≡ true
item_labelled items item x i marked labelled ahead own e =
    elim (slice_get-replaced items item item x i e) [
      | inl at ↦ ap (λ y. y.labelled) (sym at.1) ∙ own ∙ ahead at.0
      | inr below ↦ labelled x (slice_get-inside items item x i below.0 below.1)
    ]

item_changes : (line : Line) (ins : SourceIns) (a : Assembly) → IsRead ins → (f : Function) → Changes a (a.instructions + weight ins) false f (with_line (record { line = line; labelled = a.marked; ins = ins }) f)
item_changes line ins a read f =
    let item : SourceLine = record { line = line; labelled = a.marked; ins = ins } in
    record {
      head = refl;
      fine = λ h. record { name = h.name; shared = h.shared; free = h.free; ints = h.ints; handles = h.handles; slots = h.slots; items = All-push (λ (x : SourceLine). IsRead x.ins) f.items item h.items read };
      sum = let s = sum_by-push (λ (x : SourceLine). weight x.ins) f.items item in omega arith;
      places = λ i h. record {
        inside = let n = length-append f.items (item ∷ []) in let b = h.inside in omega arith;
        labelled = λ x e. item_labelled f.items item x i a.marked h.labelled h.ahead refl e;
        ahead = λ p. let n = length-append f.items (item ∷ []) in let b = h.inside in let no : ⊥ = omega arith in absurd no;
      };
    }

numbers_change : (a : Assembly) (f g : Function) → head_of g ≡ head_of f → g.items ≡ f.items → (IsFine f → IsFine g) → Changes a a.instructions a.marked f g
numbers_change a f g head items fine = record {
  head = head;
  fine = fine;
  sum = let s = ap (sum_by (λ (x : SourceLine). weight x.ins)) items in omega arith;
  places = λ i h.
      let P : List SourceLine → Type 0 = λ xs. i ≤ length xs in
      let Q : List SourceLine → Type 0 = λ xs. (item : SourceLine) → slice_get xs i ≡ Some item → item.labelled ≡ true in
      let R : List SourceLine → Type 0 = λ xs. i ≡ length xs → a.marked ≡ true in
      record { inside = subst P (sym items) h.inside; labelled = subst Q (sym items) h.labelled; ahead = subst R (sym items) h.ahead };
}

Keeps-aligned : (ds : List Definition) (ls : List Located) (in_data : Bool) (power : ℕ) (a : Assembly) → Keeps ds ls a → Keeps ds ls (aligned in_data power a)
Keeps-aligned ds ls true power a k = Keeps-bytes ds ls (zeros (padding (2 ^ power) (length a.rodata))) a k
Keeps-aligned ds ls false power a k = k

Keeps-section : (ds : List Definition) (ls : List Located) (is_data : Bool) (a : Assembly) → Keeps ds ls a → Keeps ds ls (in_section is_data a)
Keeps-section ds ls is_data a k = record { fs = k.fs; same = k.same; heads = k.heads; each = k.each; sum = k.sum; labels = k.labels }

Keeps-stated : (ds : List Definition) (ls : List Located) (line : Line) (s : Option Statement) (a : Assembly) → IsStatement s → Keeps ds ls a → Keeps ds ls (stated line s a)
Keeps-stated ds ls line None a h k = k
Keeps-stated ds ls line (Some statements.Ignored) a h k = k
Keeps-stated ds ls line (Some statements.Code) a h k = Keeps-section ds ls false a k
Keeps-stated ds ls line (Some statements.Rodata) a h k = Keeps-section ds ls true a k
Keeps-stated ds ls line (Some (statements.Align power)) a h k = Keeps-aligned ds ls a.standing.in_data power a k
Keeps-stated ds ls line (Some (statements.Data bytes)) a h k = Keeps-bytes ds ls bytes a k
Keeps-stated ds ls line (Some (statements.Zeros count)) a h k = Keeps-bytes ds ls (zeros count) a k
Keeps-stated ds ls line (Some (statements.Arguments ints handles)) a h k =
    Keeps-made ds ls _ (λ f. record f { ints = ints; handles = handles }) a.instructions a.marked a a.current refl
    (λ f. numbers_change a f _ refl refl (λ p. record { name = p.name; shared = p.shared; free = p.free; ints = h.0; handles = h.1; slots = p.slots; items = p.items })) (omega arith) k
Keeps-stated ds ls line (Some (statements.Handles slots)) a h k =
    Keeps-made ds ls _ (λ f. record f { slots = slots }) a.instructions a.marked a a.current refl
    (λ f. numbers_change a f _ refl refl (λ p. record { name = p.name; shared = p.shared; free = p.free; ints = p.ints; handles = p.handles; slots = h; items = p.items })) (omega arith) k
Keeps-stated ds ls line (Some (statements.Instruction ins)) a h k =
    Keeps-made ds ls _ (with_line (record { line = line; labelled = a.marked; ins = ins })) (a.instructions + weight ins) false a a.current refl (item_changes line ins a h) (omega arith) k

-- ---- lines

-- no two lines have the same place
abbrev pub AreApart : List Located → Type 0
AreApart [] = Unit {0}
AreApart (l ∷ ls) = All (λ m. IsApart l.line m.line) ls × AreApart ls

pub record IsSmall (a : Assembly) : Type 0 where
  pub few : a.instructions ≤ 65536
  pub short : length a.rodata ≤ 1048576

small-from_test : (a : Assembly) → is_small a ≡ true → IsSmall a
small-from_test a e = let p = both_true (nat_le a.instructions 65536) (nat_le (length a.rodata) 1048576) e in record { few = at_most _ 65536 p.0; short = at_most _ 1048576 p.1 }

-- what a line without a fault makes
pub record IsMade (ds : List Definition) (l : Located) (a b : Assembly) : Type 0 where
  pub statement : Option Statement
  pub read : line_statement (labelled l.line (line_label l.text) (begin_line l.line a)).standing l.text ≡ Ok statement
  pub single : is_single ds l.line (line_label l.text) ≡ true
  pub small : is_small (stated l.line statement (labelled l.line (line_label l.text) (begin_line l.line a))) ≡ true
  pub same : stated l.line statement (labelled l.line (line_label l.text) (begin_line l.line a)) ≡ b

pub checked_line-made : (ds : List Definition) (l : Located) (a b : Assembly) → checked_line ds a l ≡ Ok b → IsMade ds l a b
unfolding checked_line
checked_line-made ds l a b e =
    let c : Assembly = labelled l.line (line_label l.text) (begin_line l.line a) in
    let s = bind-ok (line_statement c.standing l.text) (λ statement. require (is_single ds l.line (line_label l.text)) DoubleLabel >>= λ single. require (is_known ds l.line.file (name_given statement)) NoLabel >>= λ known. require (is_small (stated l.line statement c)) TooLarge >>= λ small. Ok (stated l.line statement c)) b e in
    let single = bind-ok (require (is_single ds l.line (line_label l.text)) DoubleLabel) (λ single. require (is_known ds l.line.file (name_given s.0)) NoLabel >>= λ known. require (is_small (stated l.line s.0 c)) TooLarge >>= λ small. Ok (stated l.line s.0 c)) b s.2 in
    let known = bind-ok (require (is_known ds l.line.file (name_given s.0)) NoLabel) (λ known. require (is_small (stated l.line s.0 c)) TooLarge >>= λ small. Ok (stated l.line s.0 c)) b single.2 in
    let small = bind-ok (require (is_small (stated l.line s.0 c)) TooLarge) (λ small. Ok (stated l.line s.0 c)) b known.2 in
    record {
      statement = s.0;
      read = s.1;
      single = require-ok _ DoubleLabel single.0 single.1;
      small = require-ok _ TooLarge small.0 small.1;
      same = ok-same _ b small.2;
    }

Keeps-line : (ds : List Definition) (l : Located) (ls : List Located) (a b : Assembly) → checked_line ds a l ≡ Ok b → All (λ m. IsApart l.line m.line) ls → Keeps ds (l ∷ ls) a → Keeps ds ls b × IsSmall b
Keeps-line ds l ls a b e apart k =
    let made = checked_line-made ds l a b e in
    let c : Assembly = labelled l.line (line_label l.text) (begin_line l.line a) in
    let placed = Keeps-labelled ds l ls (line_label l.text) (begin_line l.line a) made.single (line_label-is_name l.text) apart (Keeps-begin_line ds (l ∷ ls) l.line a k) in
    let done = Keeps-stated ds ls l.line made.statement c (line_statement-read c.standing l.text made.statement made.read) placed in
    (subst (Keeps ds ls) made.same done, subst IsSmall made.same (small-from_test (stated l.line made.statement c) made.small))

pub then_lines-ok : (line : Line) (rest : Assembly → Result Assembly AsmFault) (r : Result Assembly AsmKind) (b : Assembly) → then_lines line rest r ≡ Ok b → (a : Assembly) × (r ≡ Ok a) × (rest a ≡ Ok b)
then_lines-ok line rest (Ok a) b e = (a, refl, e)
then_lines-ok line rest (Err kind) b e = let no : ⊥ = cc in absurd no

pub fault-same : (a b : Assembly) → ◌≡◌ {A = Result Assembly AsmFault} (Ok a) (Ok b) → a ≡ b
fault-same a b e = cc

pub Keeps-lines : (ds : List Definition) (ls : List Located) (a b : Assembly) → checked_lines ds a ls ≡ Ok b → AreApart ls → Keeps ds ls a → IsSmall a → Keeps ds [] b × IsSmall b
Keeps-lines ds [] a b e apart k small = let same = fault-same a b e in (subst (Keeps ds []) same k, subst IsSmall same small)
Keeps-lines ds (l ∷ ls) a b e apart k small =
    let step = then_lines-ok l.line (λ c. checked_lines ds c ls) (checked_line ds a l) b e in
    let kept = Keeps-line ds l ls a step.0 step.1 apart.0 k in
    Keeps-lines ds ls step.0 b step.2 apart.1 kept.0 kept.1

pub Keeps-nothing : (ds : List Definition) (ls : List Located) → Keeps ds ls nothing × IsSmall nothing
Keeps-nothing ds ls = (
  record {
    fs = [];
    same = refl;
    heads = record { distinct = λ i j d o b. let no : ⊥ = omega arith in absurd no; first = All-nil _; before = All-nil _ };
    each = All-nil IsFine;
    sum = omega arith;
    labels = All-nil _;
  },
  record { few = omega arith; short = omega arith },
)
