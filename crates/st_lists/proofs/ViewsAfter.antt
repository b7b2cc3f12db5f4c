-- Which steps change nothing that the lists read of a view: IsQuiet and same_after.
use Rattle.std.proofs.Common.{◌≡◌, ℕ, Bool, refl, sym, subst}
use Rattle.st_words.specs.declared.view.CellWord.TheVariants.{Owner, State, Value, Next, Standing, Trap}
use Rattle.st_words.specs.declared.view.Slot.TheVariants.{Cell, Mail}
use Rattle.st_words.specs.declared.view.View.{View}
use Rattle.st_words.specs.Steps.{Step, CellLoad, CellStore, CellChange, RootTake, SlotTake, SlotPut, Answer, Number}
use Rattle.st_words.specs.Views.{view_after, with_state, made_running}
use Rattle.st_world.proofs.Untouched.{merged, after_merged, by_bool}

abbrev pub SameParts : View → View → Type 0
SameParts u v = (v.hand ≡ u.hand) × (v.ready ≡ u.ready) × (v.root ≡ u.root) × (v.cells ≡ u.cells)

abbrev pub IsQuiet : Step → Type 0
IsQuiet (CellLoad c Next) = ⊥
IsQuiet (CellStore c Owner n) = ⊥
IsQuiet (CellStore c State n) = ⊥
IsQuiet (CellStore c Next n) = ⊥
IsQuiet (CellStore c Standing n) = ⊥
IsQuiet (CellChange c old new) = ⊥
IsQuiet RootTake = ⊥
IsQuiet (SlotTake (Cell c)) = ⊥
IsQuiet (SlotPut (Cell c) chain cargo) = ⊥
IsQuiet _ = Prim.Unit

abbrev itself : (v : View) → SameParts v v
itself v = (refl, refl, refl, refl)

merged_same : (s : Step) (x u : View) → IsQuiet s → SameParts u (merged s x u)
merged_same (CellLoad c Next) x u q = absurd q
merged_same (CellLoad c word) x u q = itself u
merged_same (CellStore c Value n) x u q = itself u
merged_same (CellStore c Trap n) x u q = itself u
merged_same (CellStore c word n) x u q = absurd q
merged_same (CellChange c old new) x u q = absurd q
merged_same RootTake x u q = absurd q
merged_same (SlotTake (Cell c)) x u q = absurd q
merged_same (SlotTake (Mail at)) x u q = itself u
merged_same (SlotPut (Cell c) chain cargo) x u q = absurd q
merged_same (SlotPut (Mail at) chain cargo) x u q = itself u
merged_same s x u q = itself u

pub same_after : (u : View) (s : Step) (a : Answer) → IsQuiet s → SameParts u (view_after u s a)
same_after u s a q = subst (λ (v : View). SameParts u v) (sym (after_merged u s a)) (merged_same s (view_after u s a) u q)

pub same_state : (c n : ℕ) (u : View) → SameParts u (with_state c n u)
unfolding view_after
same_state c n u = same_after u (CellLoad c State) (Number n) tt

pub same_running : (b : Bool) (c : ℕ) (u : View) → SameParts u (made_running b c u)
same_running b c u = by_bool (λ k. SameParts u (made_running k c u)) (itself u) (itself u) b
