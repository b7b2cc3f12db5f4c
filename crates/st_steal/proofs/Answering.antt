-- Only who has begun an answer may tell it.
use Rattle.std.proofs.Common.{◌≡◌, ◌≢◌, ◌⊎◌, inl, inr, ℕ, zero, suc, ◌+◌, ◌-◌, Bool, true, false, ◌==◌, Option, Some, None, refl, sym, ap, ◌∙◌, arith, eqb-true}
use Rattle.std.specs.Prelude.{◌&&◌, ◌||◌, is_some}
use Rattle.st_base.specs.declared.chain.Chain.{Chain}
use Rattle.st_words.specs.declared.view.Answering.{Answering}
use Rattle.st_words.specs.declared.view.Cargo.{Cargo}
use Rattle.st_words.specs.declared.view.Slot.TheVariants.{Mail}
use Rattle.st_words.specs.declared.view.View.{View}
use Rattle.st_words.specs.Encodings.{asking, answering_word, given, refused}
use Rattle.st_words.specs.Steps.{Step, RequestChange, MailStore, SlotPut, Answer, Number, Can, MayMail, MayRequest}
use Rattle.st_words.specs.Views as views
use Rattle.st_words.specs.Views.{view_after}
use Rattle.st_steal.specs.Laws.{Answers, MayTell, Begins, AnswerLaws}
use Rattle.st_steal.proofs.Quiet.{SameMail, kept_or}

tells : (u : View) (at n : ℕ) → MayMail u at n → at ≢ u.number → MayTell u at
tells u at n (inl own) other = absurd (other own.0)
tells u at n (inr told) other = (told.0, told.1, told.2, told.3)

-- ---- how an answer begins

abbrev asker_in : Option Answering → ℕ
asker_in None = 0
asker_in (Some x) = x.asker

-- the same asker, whatever was put and told
answered_by : (o : Option Answering) (asker : ℕ) → (x : Answering) × (views.answered o ≡ Some x) × (x.asker ≡ asker) → (x : Answering) × (o ≡ Some x) × (x.asker ≡ asker)
answered_by None asker h = absurd (let e : None ≡ Some h.0 = h.1 in cc)
answered_by (Some y) asker h = (y, refl, ap asker_in h.1 ∙ h.2)

put_by : (o : Option Answering) (asker : ℕ) → (x : Answering) × (views.put_into_mail o ≡ Some x) × (x.asker ≡ asker) → (x : Answering) × (o ≡ Some x) × (x.asker ≡ asker)
put_by None asker h = absurd (let e : None ≡ Some h.0 = h.1 in cc)
put_by (Some y) asker h = (y, refl, ap asker_in h.1 ∙ h.2)

sent_by : (own : Bool) (u : View) (n asker : ℕ) → Answers (views.mail_sent own n u) asker → Answers u asker
sent_by true u n asker h = h
sent_by false u n asker h = answered_by u.answering asker h

heard_by : (told : Bool) (u : View) (n asker : ℕ) → Answers (views.mail_when told n u) asker → Answers u asker
heard_by true u n asker h = h
heard_by false u n asker h = h

abbrev AnsweredBy : Step → Answer → View → View → Type 0
AnsweredBy s a u w = (asker : ℕ) → Can u s → Answers w asker → Answers u asker ⊎ Begins u s a asker

other_by : (at new : ℕ) (u : View) (asker : ℕ) → Answers (views.other_request at new u) asker → Answers u asker
other_by at zero u asker h = h
other_by at (suc new) u asker h = h

-- the worker begins the answer of the request that it found
own_by : (at old new n : ℕ) (u : View) (asker : ℕ) → at ≡ u.number → MayRequest u at old new → n ≡ old → Answers (views.own_request old new u) asker → Begins u (RequestChange at old new) (Number n) asker
own_by at old zero n u asker own may found h = absurd (let e : None ≡ Some h.0 = h.1 in cc)
own_by at old (suc new) n u asker own (inl ask) found h = absurd (ask.0 own)
own_by at old (suc new) n u asker own (inr (inl begin)) found h =
    let was : old ≡ begin.2.0 + 1 = begin.2.3 in
    let is : old - 1 ≡ asker = ap asker_in h.1 ∙ h.2 in
    let same : old ≡ asking asker = omega (arith, was, is) in
    (ap (λ k. RequestChange k old (suc new)) own ∙ ap (λ k. RequestChange u.number k (suc new)) same ∙ ap (λ k. RequestChange u.number (asking asker) k) begin.3, ap Number (found ∙ same))
own_by at old (suc new) n u asker own (inr (inr (inl clear))) found h = absurd (omega (arith, clear.3))
own_by at old (suc new) n u asker own (inr (inr (inr withdraw))) found h = absurd (omega (arith, withdraw.2))

begun_by : (own : Bool) (at old new n : ℕ) (u : View) (asker : ℕ) → (own ≡ true → at ≡ u.number) → MayRequest u at old new → n ≡ old → Answers (views.request_by own at old new u) asker → Answers u asker ⊎ Begins u (RequestChange at old new) (Number n) asker
begun_by true at old new n u asker own may found h = inr (own_by at old new n u asker (own refl) may found h)
begun_by false at old new n u asker own may found h = inl (other_by at new u asker h)

changed_by : (found : Bool) (at old new n : ℕ) (u : View) (asker : ℕ) → (found ≡ true → n ≡ old) → MayRequest u at old new → Answers (views.requested found at old new u) asker → Answers u asker ⊎ Begins u (RequestChange at old new) (Number n) asker
changed_by true at old new n u asker told may h = begun_by (at == u.number) at old new n u asker (eqb-true at u.number) may (told refl) h
changed_by false at old new n u asker told may h = inl h

begins : (u : View) (s : Step) (a : Answer) (asker : ℕ) → Can u s → Answers (view_after u s a) asker → Answers u asker ⊎ Begins u s a asker
unfolding view_after
begins u s a asker can h =
    kept_or u (λ t b w. AnsweredBy t b u w) (λ t b w same k may is. inl (is.0, sym same.0 ∙ is.1, is.2)) (λ at old new n k may is. changed_by (n == old) at old new n u k (eqb-true n old) may.1 is) (λ n k may is. inl (heard_by (is_some u.asked && ((n == given) || (n == refused))) u n k is)) (λ at n k may is. inl (sent_by (at == u.number) u n k is))
    (λ at chain cargo k may is. inl is) (λ at chain cargo k may is. inl (put_by u.answering k is)) s a asker can h

pub answer_laws : AnswerLaws
answer_laws = record {
  tells = λ u at n can other. tells u at n can.1 other;
  puts = λ u at chain cargo can. let x = can.1.2 in (x.0, x.1, x.2, x.4);
  begins = begins;
}
