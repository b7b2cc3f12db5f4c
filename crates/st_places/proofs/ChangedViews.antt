-- Which steps change nothing that the places read of a view but its threads: IsCalm and same_after. same_state and same_counter are of a State word that is read or changed.
use Rattle.std.proofs.Common.{ℕ, Bool, refl, sym, subst}
use Rattle.st_words.specs.declared.view.CellWord.TheVariants.{Owner, State, Value, Next, Standing, Trap}
use Rattle.st_words.specs.declared.view.View.{View}
use Rattle.st_words.specs.Steps.{Step, CellLoad, CellStore, CellChange, SlotTake, SlotPut, Answer, Number}
use Rattle.st_words.specs.Views.{view_after, with_state, changed_counter}
use Rattle.st_world.proofs.Untouched.{merged, after_merged, by_bool}
use Rattle.st_seats.proofs.Changed.{SameParts}

abbrev pub IsCalm : Step → Type 0
IsCalm (CellStore c Owner n) = ⊥
IsCalm (CellStore c State n) = ⊥
IsCalm (CellStore c Standing n) = ⊥
IsCalm (CellStore c Trap n) = ⊥
IsCalm (CellChange c old new) = ⊥
IsCalm (SlotTake slot) = ⊥
IsCalm (SlotPut slot chain cargo) = ⊥
IsCalm _ = Prim.Unit

merged_same : (s : Step) (x u : View) → IsCalm s → SameParts u (merged s x u)
merged_same (CellLoad c Owner) x u q = (refl, refl, refl)
merged_same (CellLoad c word) x u q = (refl, refl, refl)
merged_same (CellStore c Value n) x u q = (refl, refl, refl)
merged_same (CellStore c Next n) x u q = (refl, refl, refl)
merged_same (CellStore c word n) x u q = absurd q
merged_same (CellChange c old new) x u q = absurd q
merged_same (SlotTake slot) x u q = absurd q
merged_same (SlotPut slot chain cargo) x u q = absurd q
merged_same s x u q = (refl, refl, refl)

pub same_after : (u : View) (s : Step) (a : Answer) → IsCalm s → SameParts u (view_after u s a)
same_after u s a q = subst (λ (v : View). SameParts u v) (sym (after_merged u s a)) (merged_same s (view_after u s a) u q)

pub same_state : (c n : ℕ) (u : View) → SameParts u (with_state c n u)
unfolding view_after
same_state c n u = same_after u (CellLoad c State) (Number n) tt

pub same_counter : (c old new : ℕ) (b : Bool) (u : View) → SameParts u (changed_counter c old new b u)
same_counter c old new b u = by_bool (λ k. SameParts u (changed_counter c old new k u)) (refl, refl, refl) (refl, refl, refl) b
