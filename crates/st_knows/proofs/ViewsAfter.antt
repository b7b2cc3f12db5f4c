-- Which steps change nothing that is read of a view, and no word that is read: IsQuiet and same_after.
use Rattle.std.proofs.Common.{◌≡◌, refl, sym, subst}
use Rattle.st_words.specs.declared.view.CellWord.TheVariants.{Owner, State, Value, Next, Standing, Trap}
use Rattle.st_words.specs.declared.view.View.{View}
use Rattle.st_words.specs.Steps.{Step, CellLoad, CellStore, CellChange, StopLoad, StopSet, SlotTake, SlotPut, Answer}
use Rattle.st_words.specs.Views.{view_after}
use Rattle.st_world.proofs.Untouched.{merged, after_merged}

abbrev pub SameParts : View → View → Type 0
SameParts u v = (v.owners ≡ u.owners) × (v.full ≡ u.full) × (v.filled ≡ u.filled) × (v.values ≡ u.values) × (v.counts ≡ u.counts) × (v.names ≡ u.names) × (v.stop ≡ u.stop)

abbrev pub IsQuiet : Step → Type 0
IsQuiet (CellLoad c word) = ⊥
IsQuiet (CellStore c Owner n) = ⊥
IsQuiet (CellStore c State n) = ⊥
IsQuiet (CellStore c Value n) = ⊥
IsQuiet (CellChange c old new) = ⊥
IsQuiet StopLoad = ⊥
IsQuiet (StopSet code) = ⊥
IsQuiet (SlotTake slot) = ⊥
IsQuiet (SlotPut slot chain cargo) = ⊥
IsQuiet _ = Prim.Unit

abbrev pub itself : (v : View) → SameParts v v
itself v = (refl, refl, refl, refl, refl, refl, refl)

merged_same : (s : Step) (x u : View) → IsQuiet s → SameParts u (merged s x u)
merged_same (CellLoad c word) x u q = absurd q
merged_same (CellStore c Next n) x u q = itself u
merged_same (CellStore c Standing n) x u q = itself u
merged_same (CellStore c Trap n) x u q = itself u
merged_same (CellStore c word n) x u q = absurd q
merged_same (CellChange c old new) x u q = absurd q
merged_same StopLoad x u q = absurd q
merged_same (StopSet code) x u q = absurd q
merged_same (SlotTake slot) x u q = absurd q
merged_same (SlotPut slot chain cargo) x u q = absurd q
merged_same s x u q = itself u

pub same_after : (u : View) (s : Step) (a : Answer) → IsQuiet s → SameParts u (view_after u s a)
same_after u s a q = subst (λ (v : View). SameParts u v) (sym (after_merged u s a)) (merged_same s (view_after u s a) u q)
