-- A chain that was given is taken once.
use Rattle.std.proofs.Common.{◌≡◌, ◌⊎◌, inl, inr, ℕ, zero, suc, Bool, true, false, ◌==◌, Option, Some, None, refl, sym, ap, ◌∙◌, eqb-true}
use Rattle.std.specs.Prelude.{◌&&◌, ◌||◌, is_some}
use Rattle.st_base.specs.declared.chain.Chain.{Chain}
use Rattle.st_words.specs.declared.view.Cargo.{Cargo}
use Rattle.st_words.specs.declared.view.Slot.TheVariants.{Mail}
use Rattle.st_words.specs.declared.view.View.{View}
use Rattle.st_words.specs.Encodings.{given, refused}
use Rattle.st_words.specs.Steps.{Step, MailLoad, SlotTake, Answer, Number, Took}
use Rattle.st_words.specs.Views as views
use Rattle.st_words.specs.Views.{view_after}
use Rattle.st_steal.specs.Laws.{ReadsGiven, GivenLaws}
use Rattle.st_steal.proofs.Quiet.{SameMail, kept_or}

abbrev GivenBy : Step → Answer → View → View → Type 0
GivenBy s a u w = w.given ≡ true → (u.given ≡ true) ⊎ ReadsGiven u s a

own_given : (old new : ℕ) (u : View) → (views.own_request old new u).given ≡ u.given
own_given old zero u = refl
own_given old (suc new) u = refl

other_given : (at new : ℕ) (u : View) → (views.other_request at new u).given ≡ u.given
other_given at zero u = refl
other_given at (suc new) u = refl

request_given : (own : Bool) (at old new : ℕ) (u : View) → (views.request_by own at old new u).given ≡ u.given
request_given true at old new u = own_given old new u
request_given false at old new u = other_given at new u

changed_given : (found : Bool) (at old new : ℕ) (u : View) → (views.requested found at old new u).given ≡ u.given
changed_given true at old new u = request_given (at == u.number) at old new u
changed_given false at old new u = refl

sent_given : (own : Bool) (n : ℕ) (u : View) → (views.mail_sent own n u).given ≡ u.given
sent_given true n u = refl
sent_given false n u = refl

stands : (o : Option ℕ) → is_some o ≡ true → (v : ℕ) × (o ≡ Some v)
stands None e = absurd (cc)
stands (Some v) e = (v, refl)

first_of : (x y : Bool) → (x && y) ≡ true → x ≡ true
first_of true y e = refl
first_of false y e = absurd (cc)

read_given : (n : ℕ) (u : View) (told : Bool) → ((told ≡ true) → is_some u.asked ≡ true) → (views.mail_when told n u).given ≡ true → (u.given ≡ true) ⊎ ReadsGiven u MailLoad (Number n)
read_given n u true asked h = inr (refl, ap Number (eqb-true n given h), stands u.asked (asked refl))
read_given n u false asked h = inl h

reads : (u : View) (s : Step) (a : Answer) → (view_after u s a).given ≡ true → (u.given ≡ true) ⊎ ReadsGiven u s a
unfolding view_after
reads u s a h =
    kept_or u (λ t b w. GivenBy t b u w) (λ t b w same is. inl (sym same.1 ∙ is)) (λ at old new n is. inl (sym (changed_given (n == old) at old new u) ∙ is))
    (λ n is. read_given n u (is_some u.asked && ((n == given) || (n == refused))) (first_of (is_some u.asked) ((n == given) || (n == refused))) is) (λ at n is. inl (sym (sent_given (at == u.number) n u) ∙ is))
    (λ at chain cargo is. absurd (let e : false ≡ true = is in cc)) (λ at chain cargo is. inl is) s a h

once : (u : View) (at : ℕ) (chain : Chain) (cargo : Cargo) → (view_after u (SlotTake (Mail at)) (Took (Some chain) cargo)).given ≡ false
unfolding view_after
once u at chain cargo = refl

pub given_laws : GivenLaws
given_laws = record { takes = λ u at can. can.1; once = once; reads = reads }
