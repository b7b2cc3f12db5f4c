-- What a line of a body without a fault is (line-right), and a function of a name that is there (place_from-there).
use Rattle.std.proofs.Common.{◌≡◌, ℕ, suc, ◌+◌, Bool, true, false, not, List, [], ◌∷◌, ◌++◌, refl, cond, slice_get, Option, Some, arith}
use Rattle.std.specs.Str.{bytes_eq}
use Rattle.st_base.specs.declared.line.Line.{Line}
use Rattle.st_base.specs.declared.form.FormKind.{FormKind}
use Rattle.st_base.specs.declared.form.FormKind.TheVariants as forms
use Rattle.st_asm.specs.declared.unit.SourceLine.{SourceLine}
use Rattle.st_asm.specs.declared.unit.Function.{Function}
use Rattle.st_check.specs.Shape.{Fault, Formed, Group}
use Rattle.st_check.specs.Faults.{fault_when, line_slot_fault, keeps_classes, may_write, written, target_stays, falls_out, forks_right, calls_right, line_faults}
use Rattle.st_check.specs.Programs.{place_from}

pub append-none : (xs ys : List Fault) → xs ++ ys ≡ [] → (xs ≡ []) × (ys ≡ [])
append-none [] ys h = (refl, h)
append-none (x ∷ xs) ys h = cc

pub when-none : (b : Bool) (line : Line) (kind : FormKind) → fault_when b line kind ≡ [] → b ≡ false
when-none true line kind h = cc
when-none false line kind h = refl

pub when-right : (b : Bool) (line : Line) (kind : FormKind) → fault_when (not b) line kind ≡ [] → b ≡ true
when-right true line kind h = refl
when-right false line kind h = cc

pub record LineRight (functions : List Function) (f h : ℕ) (shape : Formed) (l : SourceLine) (behind : List (ℕ × Group)) : Type 0 where
  pub slot : line_slot_fault h shape l.ins ≡ false
  pub keeps : keeps_classes l.ins ≡ true
  pub may : may_write shape (written l.ins) ≡ true
  pub stays : target_stays f shape l.ins ≡ true
  pub goes_on : falls_out l.ins behind ≡ false
  pub forks : forks_right functions l.ins behind ≡ true
  pub calls : calls_right functions l.ins ≡ true

pub line-right : (functions : List Function) (f h : ℕ) (shape : Formed) (l : SourceLine) (behind : List (ℕ × Group)) → line_faults functions f h shape l behind ≡ [] → LineRight functions f h shape l behind
line-right functions f h shape l behind none =
    let g = append-none _ (fault_when (not (calls_right functions l.ins)) l.line forms.BadCall) none in
    let e = append-none _ (fault_when (not (forks_right functions l.ins behind)) l.line forms.ForkPlace) g.0 in
    let d = append-none _ (fault_when (falls_out l.ins behind) l.line forms.FallsOut) e.0 in
    let c = append-none _ (fault_when (not (target_stays f shape l.ins)) l.line forms.BranchOut) d.0 in
    let b = append-none _ (fault_when (not (may_write shape (written l.ins))) l.line forms.NotSaved) c.0 in
    let a = append-none (fault_when (line_slot_fault h shape l.ins) l.line forms.SlotRange) (fault_when (not (keeps_classes l.ins)) l.line forms.Partition) b.0 in
    record {
      slot = when-none _ _ _ a.0;
      keeps = when-right _ _ _ a.1;
      may = when-right _ _ _ b.1;
      stays = when-right _ _ _ c.1;
      goes_on = when-none _ _ _ d.1;
      forks = when-right _ _ _ e.1;
      calls = when-right _ _ _ g.1;
    }

pub record IsThere (k f : ℕ) (functions : List Function) : Type 0 where
  pub i : ℕ
  pub place : f ≡ k + i
  pub function : Function
  pub there : slice_get functions i ≡ Some function

place_by : (b : Bool) (k f : ℕ) (g : Function) (gs : List Function) (o : Option ℕ) → cond b (Some k) o ≡ Some f → (o ≡ Some f → IsThere (k + 1) f gs) → IsThere k f (g ∷ gs)
place_by true k f g gs o found rest =
    let same : k ≡ f = cc in
    record { i = 0; place = omega (arith, same); function = g; there = refl }
place_by false k f g gs o found rest =
    let h = rest found in
    let place : f ≡ (k + 1) + h.i = h.place in
    record { i = suc h.i; place = omega (arith, place); function = h.function; there = h.there }

pub place_from-there : (k f : ℕ) (name : List ℕ) (functions : List Function) → place_from k name functions ≡ Some f → IsThere k f functions
place_from-there k f name [] found = cc
place_from-there k f name (g ∷ gs) found = place_by (bytes_eq g.name name) k f g gs (place_from (k + 1) name gs) found (place_from-there (k + 1) f name gs)
