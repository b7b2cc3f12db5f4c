-- A chain in mail has one place; and after a refusal nothing has changed.
use Rattle.std.proofs.Common.{◌≡◌, ◌≢◌, ℕ, zero, suc, ◌<◌, Bool, true, false, ◌==◌, List, [], ◌∷◌, length, Option, Some, None, refl, sym, ap, arith, ne_eqb}
use Rattle.std.specs.Prelude.{slice_get, slice_set}
use Rattle.st_base.specs.declared.chain.Chain.{Chain}
use Rattle.st_words.specs.declared.view.Cargo.{Cargo}
use Rattle.st_words.specs.declared.view.Slot.{Slot}
use Rattle.st_words.specs.declared.view.Slot.TheVariants.{Cell, Mail}
use Rattle.st_words.specs.declared.view.View.{View}
use Rattle.st_words.specs.declared.words.Words.{Words}
use Rattle.st_words.specs.Plain.{words_after, changed, in_slot}
use Rattle.st_words.specs.Steps.{RequestChange, SlotTake, SlotPut, Answer, Done, Number}
use Rattle.st_words.specs.Views as views
use Rattle.st_words.specs.Views.{view_after}
use Rattle.st_words.proofs.Puts.{put_laws}
use Rattle.st_steal.specs.Laws.{MailLaws, AgainKeeps}
use Rattle.st_steal.proofs.RequestWords.{set_other}

set_within : {A : Type 0} (xs : List A) (i : ℕ) (n : A) → i < length xs → slice_get (slice_set xs i n) i ≡ Some n
set_within [] i n l = absurd (omega (arith, l))
set_within (x ∷ xs) zero n l = refl
set_within (x ∷ xs) (suc i) n l = set_within xs i n (omega (arith, l))

there : (x : Words) (w at : ℕ) (chain : Chain) (cargo : Cargo) → at < length x.mail_slots → in_slot (words_after x w (SlotPut (Mail at) chain cargo) Done) (Mail at) ≡ Some (Some chain)
unfolding words_after
there x w at chain cargo l = set_within x.mail_slots at (Some chain) l

others : (x : Words) (w at : ℕ) (chain : Chain) (cargo : Cargo) (slot : Slot) → slot ≢ Mail at → in_slot (words_after x w (SlotPut (Mail at) chain cargo) Done) slot ≡ in_slot x slot
unfolding words_after
others x w at chain cargo (Cell c) other = refl
others x w at chain cargo (Mail v) other = set_other x.mail_slots at v (Some chain) (λ e. other (ap Mail (sym e)))

taken : (x : Words) (w at : ℕ) (a : Answer) → at < length x.mail_slots → in_slot (words_after x w (SlotTake (Mail at)) a) (Mail at) ≡ Some None
unfolding words_after
taken x w at a l = set_within x.mail_slots at None l

pub mail_laws : MailLaws
mail_laws = record { there = there; others = others; turn = λ u at chain cargo. put_laws.chain u (Mail at) chain cargo; taken = taken }

-- ---- refusals

unchanged : (found : Bool) (x : Words) (at new : ℕ) → found ≡ false → record x { requests = changed found at new x.requests } ≡ x
unchanged false x at new e = refl
unchanged true x at new e = absurd (cc)

same_words : (x : Words) (w at old new n : ℕ) → n ≢ old → words_after x w (RequestChange at old new) (Number n) ≡ x
unfolding words_after
same_words x w at old new n other = unchanged (n == old) x at new (ne_eqb n old other)

not_changed : (found : Bool) (at old new : ℕ) (u : View) → found ≡ false → views.requested found at old new u ≡ u
not_changed false at old new u e = refl
not_changed true at old new u e = absurd (cc)

same_view : (u : View) (at old new n : ℕ) → n ≢ old → view_after u (RequestChange at old new) (Number n) ≡ u
unfolding view_after
same_view u at old new n other = not_changed (n == old) at old new u (ne_eqb n old other)

pub again_keeps : AgainKeeps
again_keeps = record { words = same_words; view = same_view }
