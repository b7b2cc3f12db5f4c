-- What follows from the requests: slot_laws, told_laws and move_laws.
use Rattle.std.proofs.Common.{◌≡◌, ◌≢◌, ◌⊎◌, inl, inr, ℕ, ◌≤◌, ◌<◌, Option, Some, None, refl, sym, ap, ◌∙◌, subst, arith}
use Rattle.st_words.specs.declared.view.Answering.{Answering}
use Rattle.st_words.specs.Encodings.{asking, answering_word}
use Rattle.st_words.specs.Laws.{progress_of}
use Rattle.st_words.specs.Promises.{RequestIs}
use Rattle.st_world.specs.World.{World}
use Rattle.st_requests.specs.Mailing.{PhaseOk, AnswerOk, Requests, asks, answers, letters, gifts}
use Rattle.st_requests.specs.Laws.{SlotLaws, ToldLaws, MoveLaws}
use Rattle.st_requests.proofs.Mails as mails
use Rattle.st_requests.proofs.Steps.{post_filled, post_empty, quiet_world, the_same}

pub slot_laws : SlotLaws
slot_laws = record {
  filled = λ x w at G less may. post_filled x G w less (progress_of (x.view w)) at may;
  empty = λ x w at chain G less may. post_empty x G w less (progress_of (x.view w)) at chain may;
}

module _ (x : World) (G : Requests x) where
  one_by : (at n : ℕ) (o : Option Answering) → AnswerOk x.workers x.request x.mail x.post (asks x.view) (answers x.view) (letters x.view) (gifts x.view) G.phase at o → n ≡ x.request at → (n ≡ 0) ⊎ ((n ≡ answering_word) ⊎ ((asker : ℕ) × (asker < x.workers) × (asker ≢ at) × (n ≡ asking asker)))
  one_by at n None (inl h) f = inl (f ∙ h)
  one_by at n None (inr h) f =
      let p = subst (PhaseOk x.workers x.request x.mail x.post (asks x.view) (answers x.view) (letters x.view) (gifts x.view) h.0) h.2 (G.mailing.each h.0) in
      let r = h.1 in
      let e : n ≡ asking h.0 = omega (arith, r, f) in
      inr (inr (h.0, p.6, p.7, e))
  one_by at n (Some y) h f = inr (inl (f ∙ h.0))

  still_by : (at n : ℕ) (o : Option Answering) → AnswerOk x.workers x.request x.mail x.post (asks x.view) (answers x.view) (letters x.view) (gifts x.view) G.phase at o → o ≡ None → n ≡ x.request at → n ≢ answering_word
  still_by at n None (inl h) e f z = let no : ⊥ = omega (arith, h, f, z) in no
  still_by at n None (inr h) e f z =
      let p = subst (PhaseOk x.workers x.request x.mail x.post (asks x.view) (answers x.view) (letters x.view) (gifts x.view) h.0) h.2 (G.mailing.each h.0) in
      let r = h.1 in
      let l = p.6 in
      let few = G.few in
      let no : ⊥ = omega (arith, r, f, z, l, few) in no
  still_by at n (Some y) h e f z = let no : ⊥ = cc in no

  request_told : (w at n : ℕ) → w < x.workers → n ≡ x.request at → RequestIs (x.view w) at n
  request_told w at n less f = let sizes = G.numbered w less in record {
    one = subst (λ (k : ℕ). (n ≡ 0) ⊎ ((n ≡ answering_word) ⊎ ((asker : ℕ) × (asker < k) × (asker ≢ at) × (n ≡ asking asker)))) (sym sizes.1) (one_by at n (answers x.view at) (G.mailing.answers at) f);
    answers = λ y e is. f ∙ mails.answers_promised x.workers G.few x.request x.mail x.post (asks x.view) (answers x.view) (letters x.view) (gifts x.view) G.phase G.mailing at y (ap (answers x.view) (e ∙ sizes.0) ∙ is);
    still = λ e is. still_by at n (answers x.view at) (G.mailing.answers at) (ap (answers x.view) (e ∙ sizes.0) ∙ is) f;
  }

pub told_laws : ToldLaws
told_laws = record {
  letters = λ x w n G f. let h = mails.mail_promised x.workers G.few x.request x.mail x.post (asks x.view) (answers x.view) (letters x.view) (gifts x.view) G.phase G.mailing w in (subst (λ (k : ℕ). k ≤ 3) (sym f) h.0, λ e. f ∙ h.1 e);
  requests = λ x w at n G less f. request_told x G w at n less f;
}

pub move_laws : MoveLaws
move_laws = record {
  progresses = λ x w progress G. quiet_world x x w _ (the_same x) G (refl, refl) (refl, refl, refl, refl);
  suspends = λ x w t rest wait G. quiet_world x x w _ (the_same x) G (refl, refl) (refl, refl, refl, refl);
  gives = λ x w t above G. quiet_world x x w _ (the_same x) G (refl, refl) (refl, refl, refl, refl);
  restarts = λ x w carried G. quiet_world x x w _ (the_same x) G (refl, refl) (refl, refl, refl, refl);
  begins = λ x w child parent rest G. quiet_world x x w _ (the_same x) G (refl, refl) (refl, refl, refl, refl);
  exports = λ x w f G. quiet_world x x w _ (the_same x) G (refl, refl) (refl, refl, refl, refl);
}
