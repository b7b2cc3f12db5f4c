-- Which steps change nothing that the requests read of a view: IsQuiet and same_after.
use Rattle.std.proofs.Common.{◌≡◌, refl, sym, subst}
use Rattle.st_words.specs.declared.view.CellWord.TheVariants.{Owner}
use Rattle.st_words.specs.declared.view.Slot.TheVariants.{Cell, Mail}
use Rattle.st_words.specs.declared.view.View.{View}
use Rattle.st_words.specs.Steps.{Step, CellLoad, CellStore, RequestChange, MailLoad, MailStore, SlotTake, SlotPut, Answer}
use Rattle.st_words.specs.Views.{view_after}
use Rattle.st_world.proofs.Untouched.{merged, after_merged}

abbrev pub SameParts : View → View → Type 0
SameParts u v = (v.asked ≡ u.asked) × (v.answering ≡ u.answering) × (v.mail ≡ u.mail) × (v.given ≡ u.given)

abbrev pub IsQuiet : Step → Type 0
IsQuiet (RequestChange at old new) = ⊥
IsQuiet MailLoad = ⊥
IsQuiet (MailStore at n) = ⊥
IsQuiet (SlotTake (Mail at)) = ⊥
IsQuiet (SlotPut (Mail at) chain cargo) = ⊥
IsQuiet _ = Prim.Unit

merged_same : (s : Step) (x u : View) → IsQuiet s → SameParts u (merged s x u)
merged_same (RequestChange at old new) x u q = absurd q
merged_same MailLoad x u q = absurd q
merged_same (MailStore at n) x u q = absurd q
merged_same (SlotTake (Cell c)) x u q = (refl, refl, refl, refl)
merged_same (SlotTake (Mail at)) x u q = absurd q
merged_same (SlotPut (Cell c) chain cargo) x u q = (refl, refl, refl, refl)
merged_same (SlotPut (Mail at) chain cargo) x u q = absurd q
merged_same (CellLoad c Owner) x u q = (refl, refl, refl, refl)
merged_same (CellStore c Owner n) x u q = (refl, refl, refl, refl)
merged_same s x u q = (refl, refl, refl, refl)

pub same_after : (u : View) (s : Step) (a : Answer) → IsQuiet s → SameParts u (view_after u s a)
same_after u s a q = subst (λ (v : View). SameParts u v) (sym (after_merged u s a)) (merged_same s (view_after u s a) u q)
