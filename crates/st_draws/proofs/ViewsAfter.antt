-- Only Draw and the store of an Owner word change the drawn numbers of a view: IsQuiet and same_after.
use Rattle.std.proofs.Common.{◌≡◌, refl, sym, subst}
use Rattle.st_words.specs.declared.view.CellWord.TheVariants.{Owner}
use Rattle.st_words.specs.declared.view.Slot.TheVariants.{Cell}
use Rattle.st_words.specs.declared.view.View.{View}
use Rattle.st_words.specs.Steps.{Step, CellLoad, CellStore, Draw, SlotTake, SlotPut, Answer}
use Rattle.st_words.specs.Views.{view_after}
use Rattle.st_world.proofs.Untouched.{merged, after_merged}

abbrev pub IsQuiet : Step → Type 0
IsQuiet (CellStore c Owner n) = ⊥
IsQuiet Draw = ⊥
IsQuiet _ = Prim.Unit

-- the drawn numbers stay
abbrev pub SameDrawn : View → View → Type 0
SameDrawn u v = v.drawn ≡ u.drawn

-- words and slots are told apart, since merged goes by them
merged_same : (s : Step) (x u : View) → IsQuiet s → SameDrawn u (merged s x u)
merged_same Draw x u q = absurd q
merged_same (CellStore c Owner n) x u q = absurd q
merged_same (CellLoad c Owner) x u q = refl
merged_same (SlotTake (Cell c)) x u q = refl
merged_same (SlotPut (Cell c) chain cargo) x u q = refl
merged_same s x u q = refl

pub same_after : (u : View) (s : Step) (a : Answer) → IsQuiet s → SameDrawn u (view_after u s a)
same_after u s a q = subst (λ (v : View). SameDrawn u v) (sym (after_merged u s a)) (merged_same s (view_after u s a) u q)
