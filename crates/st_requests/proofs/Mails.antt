-- Each step on a request word or a mail word, and on a mail slot, keeps Mailing.
use Rattle.std.proofs.Common.{◌≡◌, ◌≢◌, inl, inr, ℕ, suc, ◌≤◌, ◌<◌, Bool, true, false, Option, Some, None, refl, sym, ap, ◌∙◌, subst, arith}
use mathlib.Core.Logic.{dite}
use native.Mathlib.Decide.{ℕ_discrete}
use Rattle.st_base.specs.declared.chain.Chain.{Chain}
use Rattle.st_words.specs.declared.view.Answering.{Answering}
use Rattle.st_world.specs.Functions.{put}
use Rattle.st_requests.specs.Mailing.{Phase, Still, Asks, Answers, Told, Given, IsFilled, told_word, PhaseOk, AnswerOk, Mailing}
use Rattle.st_requests.proofs.Functions.{put_here, put_other, put_keeps, put_all}

abbrev asker_in : ℕ → Option Answering → ℕ
asker_in d None = d
asker_in d (Some x) = x.asker

-- ---- what a step leaves of the other workers

module _ (workers : ℕ) (request mail request' mail' : ℕ → ℕ) (post post' : ℕ → Option Chain) (asked asked' : ℕ → Option ℕ) (answering answering' : ℕ → Option Answering) (letter letter' : ℕ → ℕ) (gift gift' : ℕ → Bool) where
  pub record Same (a : ℕ) : Type 0 where
    pub asked_is : asked' a ≡ asked a
    pub gift_is : gift' a ≡ gift a
    pub mail_is : mail' a ≡ mail a
    pub letter_is : letter' a ≡ letter a
    pub post_is : post' a ≡ post a
    pub request_is : (v : ℕ) → request v ≡ suc a → request' v ≡ suc a
    pub answering_is : (v : ℕ) (p : Bool) → answering v ≡ Some (record { asker = a; put = p; told = false }) → answering' v ≡ Some (record { asker = a; put = p; told = false })

  pub phase_same : (a : ℕ) (p : Phase) → Same a → PhaseOk workers request mail post asked answering letter gift a p → PhaseOk workers request' mail' post' asked' answering' letter' gift' a p
  phase_same a Still s h = (s.asked_is ∙ h.0, s.gift_is ∙ h.1, s.mail_is ∙ (h.2 ∙ sym s.letter_is), subst (λ (n : ℕ). n ≤ 3) (sym s.mail_is) h.3, s.post_is ∙ h.4)
  phase_same a (Asks v) s h = (s.asked_is ∙ h.0, s.gift_is ∙ h.1, s.mail_is ∙ (h.2 ∙ sym s.letter_is), subst (λ (n : ℕ). n ≤ 1) (sym s.mail_is) h.3, s.post_is ∙ h.4, s.request_is v h.5, h.6, h.7)
  phase_same a (Answers v p) s h = (s.asked_is ∙ h.0, s.gift_is ∙ h.1, s.mail_is ∙ (h.2 ∙ sym s.letter_is), subst (λ (n : ℕ). n ≤ 1) (sym s.mail_is) h.3, subst (IsFilled p) (sym s.post_is) h.4, s.answering_is v p h.5)
  phase_same a (Told v p) s h = (s.asked_is ∙ h.0, s.gift_is ∙ h.1, s.mail_is ∙ h.2, subst (IsFilled p) (sym s.post_is) h.3)
  phase_same a Given s h = (s.asked_is ∙ h.0, s.gift_is ∙ h.1, s.mail_is ∙ h.2, s.letter_is ∙ h.3, subst (IsFilled true) (sym s.post_is) h.4)

  module _ (phase phase' : ℕ → Phase) where
    pub answer_same : (v : ℕ) (o : Option Answering) → request' v ≡ request v → ((a : ℕ) → phase a ≡ Asks v → phase' a ≡ Asks v) → ((a : ℕ) (p : Bool) → phase a ≡ Answers v p → phase' a ≡ Answers v p) → AnswerOk workers request mail post asked answering letter gift phase v o → AnswerOk workers request' mail' post' asked' answering' letter' gift' phase' v o
    answer_same v None r f g (inl h) = inl (r ∙ h)
    answer_same v None r f g (inr h) = inr (h.0, r ∙ h.1, f h.0 h.2)
    answer_same v (Some x) r f g h = (r ∙ h.0, λ t. g x.asker x.put (h.1 t), h.2, h.3)

-- ---- phases

module _ (workers : ℕ) (few_workers : workers ≤ 31) (request mail : ℕ → ℕ) (post : ℕ → Option Chain) (asked : ℕ → Option ℕ) (answering : ℕ → Option Answering) (letter : ℕ → ℕ) (gift : ℕ → Bool) where
  -- no request stands and nothing was given
  pub is_still : (a : ℕ) (p : Phase) → PhaseOk workers request mail post asked answering letter gift a p → asked a ≡ None → gift a ≡ false → p ≡ Still
  is_still a Still h n f = refl
  is_still a (Asks v) h n f = let t = h.0 in let no : ⊥ = cc in absurd no
  is_still a (Answers v p) h n f = let t = h.0 in let no : ⊥ = cc in absurd no
  is_still a (Told v p) h n f = let t = h.0 in let no : ⊥ = cc in absurd no
  is_still a Given h n f = let t = h.1 in let no : ⊥ = cc in absurd no

  pub is_given : (a : ℕ) (p : Phase) → PhaseOk workers request mail post asked answering letter gift a p → gift a ≡ true → p ≡ Given
  is_given a Given h n = refl
  is_given a Still h n = let t = h.1 in let no : ⊥ = cc in absurd no
  is_given a (Asks v) h n = let t = h.1 in let no : ⊥ = cc in absurd no
  is_given a (Answers v p) h n = let t = h.1 in let no : ⊥ = cc in absurd no
  is_given a (Told v p) h n = let t = h.1 in let no : ⊥ = cc in absurd no

  -- an answer is read
  is_told : (a v : ℕ) (p : Phase) → PhaseOk workers request mail post asked answering letter gift a p → asked a ≡ Some v → 2 ≤ mail a → (b : Bool) × (p ≡ Told v b)
  is_told a v Still h n f = let t = h.0 in let no : ⊥ = cc in absurd no
  is_told a v (Asks u) h n f = let t = h.3 in let no : ⊥ = omega (arith, t, f) in absurd no
  is_told a v (Answers u p) h n f = let t = h.3 in let no : ⊥ = omega (arith, t, f) in absurd no
  is_told a v (Told u p) h n f = let t = h.0 in let e : u ≡ v = cc in (p, ap (λ (k : ℕ). Told k p) e)
  is_told a v Given h n f = let t = h.0 in let no : ⊥ = cc in absurd no

  module _ (phase : ℕ → Phase) where
    no_answer : (v : ℕ) (o : Option Answering) → AnswerOk workers request mail post asked answering letter gift phase v o → request v ≡ 0 → o ≡ None
    no_answer v None h z = refl
    no_answer v (Some x) h z = let t = h.0 in let no : ⊥ = omega (arith, t, z) in absurd no

    -- a request that stands is of a worker that asks
    pub asker_of : (v a : ℕ) (o : Option Answering) → AnswerOk workers request mail post asked answering letter gift phase v o → request v ≡ suc a → a < workers → (o ≡ None) × (phase a ≡ Asks v)
    asker_of v a None (inl h) r l = let no : ⊥ = omega (arith, h, r) in absurd no
    asker_of v a None (inr h) r l = let t = h.1 in let e : h.0 ≡ a = omega (arith, t, r) in (refl, subst (λ (k : ℕ). phase k ≡ Asks v) e h.2)
    asker_of v a (Some x) h r l = let t = h.0 in let no : ⊥ = omega (arith, t, r, l, few_workers) in absurd no

    module _ (M : Mailing workers request mail post asked answering letter gift phase) where
      -- w asks at v
      pub ask : (w v : ℕ) → w < workers → w ≢ v → asked w ≡ None → gift w ≡ false → letter w ≤ 1 → request v ≡ 0 → Mailing workers (put request v (suc w)) mail post (put asked w (Some v)) answering letter gift (put phase w (Asks v))
      ask w v few apart n f small z =
          let still : phase w ≡ Still = is_still w (phase w) (M.each w) n f in
          let ok = subst (PhaseOk workers request mail post asked answering letter gift w) still (M.each w) in
          record {
            each = λ a. put_all (λ (a : ℕ) (p : Phase). PhaseOk workers (put request v (suc w)) mail post (put asked w (Some v)) answering letter gift a p) phase w (Asks v) a
                (λ (e : a ≡ w). subst (λ (a : ℕ). PhaseOk workers (put request v (suc w)) mail post (put asked w (Some v)) answering letter gift a (Asks v)) (sym e)
                (put_here asked w (Some v), f, ok.2, subst (λ (k : ℕ). k ≤ 1) (sym ok.2) small, ok.4, put_here request v (suc w), few, apart))
                (λ (d : a ≢ w). phase_same workers request mail (put request v (suc w)) mail post post asked (put asked w (Some v)) answering answering letter letter gift gift a (phase a) (record {
                  asked_is = put_other asked w (Some v) a d;
                  gift_is = refl;
                  mail_is = refl;
                  letter_is = refl;
                  post_is = refl;
                  request_is = λ u r. put_keeps request v (suc w) u (suc a) r (λ q. omega (arith, q, z));
                  answering_is = λ u p r. r;
                }) (M.each a));
            answers = λ u. asks_answers u (answering u) (M.answers u) still;
          }
        where
          asks_answers : (u : ℕ) (o : Option Answering) → AnswerOk workers request mail post asked answering letter gift phase u o → phase w ≡ Still → AnswerOk workers (put request v (suc w)) mail post (put asked w (Some v)) answering letter gift (put phase w (Asks v)) u o
          asks_answers u None h still = dite (ℕ_discrete u v)
              (λ (e : u ≡ v). inr (w, ap (put request v (suc w)) e ∙ put_here request v (suc w), put_here phase w (Asks v) ∙ ap Asks (sym e)))
              (λ (d : u ≢ v). answer_same workers request mail (put request v (suc w)) mail post post asked (put asked w (Some v)) answering answering letter letter gift gift phase (put phase w (Asks v)) u None (put_other request v (suc w) u d)
              (λ a q. put_keeps phase w (Asks v) a (Asks u) q (λ t. let no : ⊥ = cc in no)) (λ a p q. put_keeps phase w (Asks v) a (Answers u p) q (λ t. let no : ⊥ = cc in no)) h)
          asks_answers u (Some x) h still = (put_keeps request v (suc w) u 32 h.0 (λ q. omega (arith, q, z)), λ t. put_keeps phase w (Asks v) x.asker (Answers u x.put) (h.1 t) (λ s. let no : ⊥ = cc in no), h.2, h.3)

      -- w begins to answer a
      pub begin : (w a : ℕ) → a < workers → request w ≡ suc a → Mailing workers (put request w 32) mail post asked (put answering w (Some (record { asker = a; put = false; told = false }))) letter gift (put phase a (Answers w false))
      begin w a few found =
          let r = asker_of w a (answering w) (M.answers w) found few in
          let asks : phase a ≡ Asks w = r.1 in
          let none : answering w ≡ None = r.0 in
          let x : Answering = record { asker = a; put = false; told = false } in
          let ok = subst (PhaseOk workers request mail post asked answering letter gift a) asks (M.each a) in
          record {
            each = λ b. put_all (λ (b : ℕ) (p : Phase). PhaseOk workers (put request w 32) mail post asked (put answering w (Some x)) letter gift b p) phase a (Answers w false) b
                (λ (e : b ≡ a). subst (λ (b : ℕ). PhaseOk workers (put request w 32) mail post asked (put answering w (Some x)) letter gift b (Answers w false)) (sym e) (ok.0, ok.1, ok.2, ok.3, ok.4, put_here answering w (Some x)))
                (λ (d : b ≢ a). phase_same workers request mail (put request w 32) mail post post asked asked answering (put answering w (Some x)) letter letter gift gift b (phase b) (record {
                  asked_is = refl;
                  gift_is = refl;
                  mail_is = refl;
                  letter_is = refl;
                  post_is = refl;
                  request_is = λ u q. put_keeps request w 32 u (suc b) q (λ t. d (let z : b ≡ a = omega (arith, t, found) in z));
                  answering_is = λ u p q. put_keeps answering w (Some x) u (Some (record { asker = b; put = p; told = false })) q (λ t. let no : ⊥ = cc in no);
                }) (M.each b));
            answers = λ u. put_all (λ (u : ℕ) (o : Option Answering). AnswerOk workers (put request w 32) mail post asked (put answering w (Some x)) letter gift (put phase a (Answers w false)) u o) answering w (Some x) u
                (λ (e : u ≡ w). subst (λ (u : ℕ). AnswerOk workers (put request w 32) mail post asked (put answering w (Some x)) letter gift (put phase a (Answers w false)) u (Some x)) (sym e) (put_here request w 32, λ t. put_here phase a (Answers w false), ok.6, ok.7))
                (λ (d : u ≢ w). answer_same workers request mail (put request w 32) mail post post asked asked answering (put answering w (Some x)) letter letter gift gift phase (put phase a (Answers w false)) u (answering u) (put_other request w 32 u d)
                (λ b q. put_keeps phase a (Answers w false) b (Asks u) q (λ t. let z : w ≡ u = cc in d (sym z)))
                (λ b p q. put_keeps phase a (Answers w false) b (Answers u p) q (λ t. let no : ⊥ = cc in no)) (M.answers u));
          }

      -- w ends the answer that it has told
      pub clear : (w : ℕ) (x : Answering) → answering w ≡ Some x → x.told ≡ true → Mailing workers (put request w 0) mail post asked (put answering w None) letter gift phase
      clear w x at told =
          let h = subst (AnswerOk workers request mail post asked answering letter gift phase w) at (M.answers w) in
          let full : request w ≡ 32 = h.0 in
          record {
            each = λ b. clear_phase b (phase b) full (M.each b);
            answers = λ u. put_all (λ (u : ℕ) (o : Option Answering). AnswerOk workers (put request w 0) mail post asked (put answering w None) letter gift phase u o) answering w None u
                (λ (e : u ≡ w). subst (λ (u : ℕ). AnswerOk workers (put request w 0) mail post asked (put answering w None) letter gift phase u None) (sym e) (inl (put_here request w 0)))
                (λ (d : u ≢ w). answer_same workers request mail (put request w 0) mail post post asked asked answering (put answering w None) letter letter gift gift phase phase u (answering u) (put_other request w 0 u d) (λ b q. q) (λ b p q. q) (M.answers u));
          }
        where
          same : (b : ℕ) → (b < workers) → request w ≡ 32 → Same workers request mail (put request w 0) mail post post asked asked answering (put answering w None) letter letter gift gift b
          same b l full = record {
            asked_is = refl;
            gift_is = refl;
            mail_is = refl;
            letter_is = refl;
            post_is = refl;
            request_is = λ u q. put_keeps request w 0 u (suc b) q (λ t. omega (arith, t, full, l, few_workers));
            answering_is = λ u p q. put_keeps answering w None u (Some (record { asker = b; put = p; told = false })) q (λ t. let no : ⊥ = cc in no);
          }

          clear_phase : (b : ℕ) (p : Phase) → request w ≡ 32 → PhaseOk workers request mail post asked answering letter gift b p → PhaseOk workers (put request w 0) mail post asked (put answering w None) letter gift b p
          clear_phase b (Asks v) full h = let s = same b h.6 full in (h.0, h.1, h.2, h.3, h.4, s.request_is v h.5, h.6, h.7)
          clear_phase b (Answers v p) full h = (h.0, h.1, h.2, h.3, h.4, put_keeps answering w None v (Some (record { asker = b; put = p; told = false })) h.5 (λ t. let no : ⊥ = cc in no))
          clear_phase b Still full h = h
          clear_phase b (Told v p) full h = h
          clear_phase b Given full h = h

      -- w withdraws its request at v
      pub withdraw : (w v : ℕ) → w < workers → request v ≡ suc w → Mailing workers (put request v 0) mail post (put asked w None) answering letter gift (put phase w Still)
      withdraw w v few found =
          let r = asker_of v w (answering v) (M.answers v) found few in
          let asks : phase w ≡ Asks v = r.1 in
          let ok = subst (PhaseOk workers request mail post asked answering letter gift w) asks (M.each w) in
          let small = ok.3 in
          record {
            each = λ b. put_all (λ (b : ℕ) (p : Phase). PhaseOk workers (put request v 0) mail post (put asked w None) answering letter gift b p) phase w Still b
                (λ (e : b ≡ w). subst (λ (b : ℕ). PhaseOk workers (put request v 0) mail post (put asked w None) answering letter gift b Still) (sym e) (put_here asked w None, ok.1, ok.2, omega (arith, small), ok.4))
                (λ (d : b ≢ w). phase_same workers request mail (put request v 0) mail post post asked (put asked w None) answering answering letter letter gift gift b (phase b) (record {
                  asked_is = put_other asked w None b d;
                  gift_is = refl;
                  mail_is = refl;
                  letter_is = refl;
                  post_is = refl;
                  request_is = λ u q. put_keeps request v 0 u (suc b) q (λ t. d (let z : b ≡ w = omega (arith, t, found) in z));
                  answering_is = λ u p q. q;
                }) (M.each b));
            answers = λ u. dite (ℕ_discrete u v)
                (λ (e : u ≡ v). subst (λ (u : ℕ). AnswerOk workers (put request v 0) mail post (put asked w None) answering letter gift (put phase w Still) u (answering u)) (sym e)
                (subst (AnswerOk workers (put request v 0) mail post (put asked w None) answering letter gift (put phase w Still) v) (sym r.0) (inl (put_here request v 0))))
                (λ (d : u ≢ v). answer_same workers request mail (put request v 0) mail post post asked (put asked w None) answering answering letter letter gift gift phase (put phase w Still) u (answering u) (put_other request v 0 u d)
                (λ b q. put_keeps phase w Still b (Asks u) q (λ t. let z : v ≡ u = cc in d (sym z)))
                (λ b p q. put_keeps phase w Still b (Answers u p) q (λ t. let no : ⊥ = cc in no)) (M.answers u));
          }

      -- w tells a its answer
      pub tell : (w a : ℕ) (p : Bool) → answering w ≡ Some (record { asker = a; put = p; told = false }) → Mailing workers request (put mail a (told_word p)) post asked (put answering w (Some (record { asker = a; put = p; told = true }))) letter gift (put phase a (Told w p))
      tell w a p at =
          let x : Answering = record { asker = a; put = p; told = true } in
          let h = subst (AnswerOk workers request mail post asked answering letter gift phase w) at (M.answers w) in
          let is : phase a ≡ Answers w p = h.1 refl in
          let ok = subst (PhaseOk workers request mail post asked answering letter gift a) is (M.each a) in
          record {
            each = λ b. put_all (λ (b : ℕ) (q : Phase). PhaseOk workers request (put mail a (told_word p)) post asked (put answering w (Some x)) letter gift b q) phase a (Told w p) b
                (λ (e : b ≡ a). subst (λ (b : ℕ). PhaseOk workers request (put mail a (told_word p)) post asked (put answering w (Some x)) letter gift b (Told w p)) (sym e) (ok.0, ok.1, put_here mail a (told_word p), ok.4))
                (λ (d : b ≢ a). phase_same workers request mail request (put mail a (told_word p)) post post asked asked answering (put answering w (Some x)) letter letter gift gift b (phase b) (record {
                  asked_is = refl;
                  gift_is = refl;
                  mail_is = put_other mail a (told_word p) b d;
                  letter_is = refl;
                  post_is = refl;
                  request_is = λ u q. q;
                  answering_is = λ u r q. put_keeps answering w (Some x) u (Some (record { asker = b; put = r; told = false })) q (λ t. let z : a ≡ b = ap (asker_in 0) (sym at ∙ t) in d (sym z));
                }) (M.each b));
            answers = λ u. put_all (λ (u : ℕ) (o : Option Answering). AnswerOk workers request (put mail a (told_word p)) post asked (put answering w (Some x)) letter gift (put phase a (Told w p)) u o) answering w (Some x) u
                (λ (e : u ≡ w). subst (λ (u : ℕ). AnswerOk workers request (put mail a (told_word p)) post asked (put answering w (Some x)) letter gift (put phase a (Told w p)) u (Some x)) (sym e) (h.0, λ t. let no : ⊥ = cc in absurd no, h.2, h.3))
                (λ (d : u ≢ w). answer_same workers request mail request (put mail a (told_word p)) post post asked asked answering (put answering w (Some x)) letter letter gift gift phase (put phase a (Told w p)) u (answering u) refl
                (λ b q. put_keeps phase a (Told w p) b (Asks u) q (λ t. let no : ⊥ = cc in no))
                (λ b r q. put_keeps phase a (Told w p) b (Answers u r) q (λ t. let z : w ≡ u = cc in d (sym z))) (M.answers u));
          }

      -- w puts a chain into the mail of a
      pub put_mail : (w a : ℕ) (chain : Chain) → answering w ≡ Some (record { asker = a; put = false; told = false }) → Mailing workers request mail (put post a (Some chain)) asked (put answering w (Some (record { asker = a; put = true; told = false }))) letter gift (put phase a (Answers w true))
      put_mail w a chain at =
          let x : Answering = record { asker = a; put = true; told = false } in
          let h = subst (AnswerOk workers request mail post asked answering letter gift phase w) at (M.answers w) in
          let is : phase a ≡ Answers w false = h.1 refl in
          let ok = subst (PhaseOk workers request mail post asked answering letter gift a) is (M.each a) in
          record {
            each = λ b. put_all (λ (b : ℕ) (q : Phase). PhaseOk workers request mail (put post a (Some chain)) asked (put answering w (Some x)) letter gift b q) phase a (Answers w true) b
                (λ (e : b ≡ a). subst (λ (b : ℕ). PhaseOk workers request mail (put post a (Some chain)) asked (put answering w (Some x)) letter gift b (Answers w true)) (sym e) (ok.0, ok.1, ok.2, ok.3, (chain, put_here post a (Some chain)), put_here answering w (Some x)))
                (λ (d : b ≢ a). phase_same workers request mail request mail post (put post a (Some chain)) asked asked answering (put answering w (Some x)) letter letter gift gift b (phase b) (record {
                  asked_is = refl;
                  gift_is = refl;
                  mail_is = refl;
                  letter_is = refl;
                  post_is = put_other post a (Some chain) b d;
                  request_is = λ u q. q;
                  answering_is = λ u r q. put_keeps answering w (Some x) u (Some (record { asker = b; put = r; told = false })) q (λ t. let z : a ≡ b = ap (asker_in 0) (sym at ∙ t) in d (sym z));
                }) (M.each b));
            answers = λ u. put_all (λ (u : ℕ) (o : Option Answering). AnswerOk workers request mail (put post a (Some chain)) asked (put answering w (Some x)) letter gift (put phase a (Answers w true)) u o) answering w (Some x) u
                (λ (e : u ≡ w). subst (λ (u : ℕ). AnswerOk workers request mail (put post a (Some chain)) asked (put answering w (Some x)) letter gift (put phase a (Answers w true)) u (Some x)) (sym e) (h.0, λ t. put_here phase a (Answers w true), h.2, h.3))
                (λ (d : u ≢ w). answer_same workers request mail request mail post (put post a (Some chain)) asked asked answering (put answering w (Some x)) letter letter gift gift phase (put phase a (Answers w true)) u (answering u) refl
                (λ b q. put_keeps phase a (Answers w true) b (Asks u) q (λ t. let no : ⊥ = cc in no))
                (λ b r q. put_keeps phase a (Answers w true) b (Answers u r) q (λ t. let z : w ≡ u = cc in d (sym z))) (M.answers u));
          }

      -- w alone changes what it knows: its phase p becomes q, and neither is a request that stands unanswered
      alone : (w : ℕ) (q : Phase) (mail' : ℕ → ℕ) (post' : ℕ → Option Chain) (asked' : ℕ → Option ℕ) (letter' : ℕ → ℕ) (gift' : ℕ → Bool) → ((a : ℕ) → a ≢ w → Same workers request mail request mail' post post' asked asked' answering answering letter letter' gift gift' a) →
          ((v : ℕ) → phase w ≢ Asks v) → ((v : ℕ) (p : Bool) → phase w ≢ Answers v p) → PhaseOk workers request mail' post' asked' answering letter' gift' w q → Mailing workers request mail' post' asked' answering letter' gift' (put phase w q)
      alone w q mail' post' asked' letter' gift' same na nb ok = record {
        each = λ a. put_all (λ (a : ℕ) (p : Phase). PhaseOk workers request mail' post' asked' answering letter' gift' a p) phase w q a
            (λ (e : a ≡ w). subst (λ (a : ℕ). PhaseOk workers request mail' post' asked' answering letter' gift' a q) (sym e) ok)
            (λ (d : a ≢ w). phase_same workers request mail request mail' post post' asked asked' answering answering letter letter' gift gift' a (phase a) (same a d) (M.each a));
        answers = λ u. answer_same workers request mail request mail' post post' asked asked' answering answering letter letter' gift gift' phase (put phase w q) u (answering u) refl
            (λ b r. put_keeps phase w q b (Asks u) r (na u)) (λ b p r. put_keeps phase w q b (Answers u p) r (nb u p)) (M.answers u);
      }

      -- w reads that a chain was given
      pub read_given : (w v : ℕ) → asked w ≡ Some v → mail w ≡ 2 → Mailing workers request mail post (put asked w None) answering (put letter w 2) (put gift w true) (put phase w Given)
      read_given w v at two =
          let t = is_told w v (phase w) (M.each w) at (omega (arith, two)) in
          let ok = subst (PhaseOk workers request mail post asked answering letter gift w) t.1 (M.each w) in
          alone w Given mail post (put asked w None) (put letter w 2) (put gift w true)
          (λ a d. record { asked_is = put_other asked w None a d; gift_is = put_other gift w true a d; mail_is = refl; letter_is = put_other letter w 2 a d; post_is = refl; request_is = λ u q. q; answering_is = λ u p q. q })
          (λ u q. let s = t.1 in let no : ⊥ = cc in no) (λ u p q. let s = t.1 in let no : ⊥ = cc in no)
          (put_here asked w None, put_here gift w true, two, put_here letter w 2, filled t.0 (sym ok.2 ∙ two) ok.3)
        where
          filled : (b : Bool) → told_word b ≡ 2 → IsFilled b (post w) → IsFilled true (post w)
          filled true e h = h
          filled false e h = let no : ⊥ = omega (arith, e) in absurd no

      -- w reads that its request was refused
      pub read_refused : (w v : ℕ) → asked w ≡ Some v → mail w ≡ 3 → Mailing workers request mail post (put asked w None) answering (put letter w 3) (put gift w false) (put phase w Still)
      read_refused w v at three =
          let t = is_told w v (phase w) (M.each w) at (omega (arith, three)) in
          let ok = subst (PhaseOk workers request mail post asked answering letter gift w) t.1 (M.each w) in
          alone w Still mail post (put asked w None) (put letter w 3) (put gift w false)
          (λ a d. record { asked_is = put_other asked w None a d; gift_is = put_other gift w false a d; mail_is = refl; letter_is = put_other letter w 3 a d; post_is = refl; request_is = λ u q. q; answering_is = λ u p q. q })
          (λ u q. let s = t.1 in let no : ⊥ = cc in no) (λ u p q. let s = t.1 in let no : ⊥ = cc in no)
          (put_here asked w None, put_here gift w false, three ∙ sym (put_here letter w 3), omega (arith, three), empty t.0 (sym ok.2 ∙ three) ok.3)
        where
          empty : (b : Bool) → told_word b ≡ 3 → IsFilled b (post w) → post w ≡ None
          empty false e h = h
          empty true e h = let no : ⊥ = omega (arith, e) in absurd no

      -- w sets its own mail word
      pub set_mail : (w n : ℕ) → asked w ≡ None → gift w ≡ false → n ≤ 1 → Mailing workers request (put mail w n) post asked answering (put letter w n) gift (put phase w Still)
      set_mail w n at f small =
          let t : phase w ≡ Still = is_still w (phase w) (M.each w) at f in
          let ok = subst (PhaseOk workers request mail post asked answering letter gift w) t (M.each w) in
          alone w Still (put mail w n) post asked (put letter w n) gift
          (λ a d. record { asked_is = refl; gift_is = refl; mail_is = put_other mail w n a d; letter_is = put_other letter w n a d; post_is = refl; request_is = λ u q. q; answering_is = λ u p q. q })
          (λ u q. let no : ⊥ = cc in no) (λ u p q. let no : ⊥ = cc in no)
          (at, f, put_here mail w n ∙ sym (put_here letter w n), subst (λ (k : ℕ). k ≤ 3) (sym (put_here mail w n)) (omega (arith, small)), ok.4)

      -- w takes the chain that was given to it
      pub take_mail : (w : ℕ) → gift w ≡ true → IsFilled true (post w) × Mailing workers request mail (put post w None) asked answering letter (put gift w false) (put phase w Still)
      take_mail w f =
          let t : phase w ≡ Given = is_given w (phase w) (M.each w) f in
          let ok = subst (PhaseOk workers request mail post asked answering letter gift w) t (M.each w) in
          let two = ok.2 in (
            ok.4,
            alone w Still mail (put post w None) asked letter (put gift w false)
                (λ a d. record { asked_is = refl; gift_is = put_other gift w false a d; mail_is = refl; letter_is = refl; post_is = put_other post w None a d; request_is = λ u q. q; answering_is = λ u p q. q })
                (λ u q. let no : ⊥ = cc in no) (λ u p q. let no : ⊥ = cc in no)
                (ok.0, put_here gift w false, ok.2 ∙ sym ok.3, omega (arith, two), put_here post w None),
          )

      -- ---- what is promised

      -- the own request word while w answers
      pub answers_promised : (w : ℕ) (x : Answering) → answering w ≡ Some x → request w ≡ 32
      answers_promised w x at = (subst (AnswerOk workers request mail post asked answering letter gift phase w) at (M.answers w)).0

      mail_by : (w : ℕ) (p : Phase) → PhaseOk workers request mail post asked answering letter gift w p → (mail w ≤ 3) × (asked w ≡ None → mail w ≡ letter w)
      mail_by w Still h = (h.3, λ e. h.2)
      mail_by w (Asks v) h = let l = h.3 in (omega (arith, l), λ e. h.2)
      mail_by w (Answers v p) h = let l = h.3 in (omega (arith, l), λ e. h.2)
      mail_by w (Told v true) h = let l = h.2 in (omega (arith, l), λ e. let t = h.0 in let no : ⊥ = cc in absurd no)
      mail_by w (Told v false) h = let l = h.2 in (omega (arith, l), λ e. let t = h.0 in let no : ⊥ = cc in absurd no)
      mail_by w Given h = let l = h.2 in (omega (arith, l), λ e. h.2 ∙ sym h.3)

      pub mail_promised : (w : ℕ) → (mail w ≤ 3) × (asked w ≡ None → mail w ≡ letter w)
      mail_promised w = mail_by w (phase w) (M.each w)

      -- the mail slot that an answer is put into is empty
      pub post_empty : (w a : ℕ) → answering w ≡ Some (record { asker = a; put = false; told = false }) → post a ≡ None
      post_empty w a at =
          let h = subst (AnswerOk workers request mail post asked answering letter gift phase w) at (M.answers w) in
          (subst (PhaseOk workers request mail post asked answering letter gift a) (h.1 refl) (M.each a)).4
