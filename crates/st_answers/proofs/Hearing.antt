-- Views after steps that tell or answer: Quiet (the view has the same but for what was read, and for the answer), with a lemma for each step, and the bag behind it (bag_quiet).
use Rattle.std.proofs.Common.{◌≡◌, ◌≢◌, ℕ, zero, suc, ◌+◌, ◌-◌, Bool, true, false, ◌==◌, Option, Some, None, refl, sym, ap, ◌∙◌, subst, arith, eq-eqb, ne_eqb}
use Rattle.st_words.specs.declared.view.Answering.{Answering}
use Rattle.st_words.specs.declared.view.View.{View}
use Rattle.st_words.specs.Steps.{StopLoad, RequestLoad, RequestChange, MailStore, ActiveAdd, Done, Number}
use Rattle.st_words.specs.Views.{view_after, request_by, requested, mail_sent, answered}
use Rattle.st_model.specs.declared.program.Program.{Program}
use Rattle.st_model.specs.Memory.{Data}
use Rattle.st_fits.specs.Bags.{Bag, HasBag}
use Rattle.st_fits.specs.Before.{after}

-- but for the answer and the share
pub record Quiet (u v : View) : Type 0 where
  pub asked : v.asked ≡ u.asked
  pub ready : v.ready ≡ u.ready
  pub chains : v.chains ≡ u.chains
  pub hand : v.hand ≡ u.hand
  pub drawn : v.drawn ≡ u.drawn
  pub child : v.child ≡ u.child
  pub given : v.given ≡ u.given
  pub root : v.root ≡ u.root

pub same_view : (u : View) → Quiet u u
same_view u = record { asked = refl; ready = refl; chains = refl; hand = refl; drawn = refl; child = refl; given = refl; root = refl }

pub bag_quiet : (b : Bag) (u v : View) (share : ℕ) (answering : Option Answering) → Quiet u v → HasBag b u → v.share ≡ share → v.answering ≡ answering → HasBag (record b { share = share; answering = answering }) v
bag_quiet b u v share answering q h shares answers = record {
  chains = q.chains ∙ h.chains;
  hand = q.hand ∙ h.hand;
  share = shares;
  drawn = q.drawn ∙ h.drawn;
  child = q.child ∙ h.child;
  answering = answers;
  given = q.given ∙ h.given;
  root = q.root ∙ h.root;
}

-- ---- by step

module _ (p : Program) (d : Data) (u : View) where
  -- the share and the answer stay too
  pub record Still (v : View) : Type 0 where
    pub quiet : Quiet u v
    pub share : v.share ≡ u.share
    pub answering : v.answering ≡ u.answering

  still_here : Still u
  still_here = record { quiet = same_view u; share = refl; answering = refl }

  pub request_read : (at n : ℕ) → Still (after p d u (RequestLoad at) (Number n))
  unfolding after view_after
  request_read at n = record { quiet = record { asked = refl; ready = refl; chains = refl; hand = refl; drawn = refl; child = refl; given = refl; root = refl }; share = refl; answering = refl }

  pub stop_read : (n : ℕ) → Still (after p d u StopLoad (Number n))
  unfolding after view_after
  stop_read zero = record { quiet = record { asked = refl; ready = refl; chains = refl; hand = refl; drawn = refl; child = refl; given = refl; root = refl }; share = refl; answering = refl }
  stop_read (suc n) = record { quiet = record { asked = refl; ready = refl; chains = refl; hand = refl; drawn = refl; child = refl; given = refl; root = refl }; share = refl; answering = refl }

  pub bag_still : (b : Bag) (v : View) → Still v → HasBag b u → HasBag b v
  bag_still b v s h = bag_quiet b u v b.share b.answering s.quiet h (s.share ∙ h.share) (s.answering ∙ h.answering)

  -- a unit is added
  pub unit_added : (n : ℕ) → Quiet u (after p d u (ActiveAdd true) (Number n)) × ((after p d u (ActiveAdd true) (Number n)).share ≡ u.share + 1) × ((after p d u (ActiveAdd true) (Number n)).answering ≡ u.answering)
  unfolding after view_after
  unit_added n = (record { asked = refl; ready = refl; chains = refl; hand = refl; drawn = refl; child = refl; given = refl; root = refl }, refl, refl)

  -- ---- the own request word is changed

  -- the answer alone is other
  pub record Answers (answering : Option Answering) (v : View) : Type 0 where
    pub quiet : Quiet u v
    pub share : v.share ≡ u.share
    pub answering_is : v.answering ≡ answering

  pub bag_answers : (b : Bag) (answering : Option Answering) (v : View) → Answers answering v → HasBag b u → HasBag (record b { answering = answering }) v
  bag_answers b answering v s h = bag_quiet b u v b.share answering s.quiet h (s.share ∙ h.share) s.answering_is

  of_view : (w : View) (answering : Option Answering) → w ≡ record u { answering = answering } → Answers answering (record w { threads = u.threads })
  of_view w answering e = subst (λ (k : View). Answers answering (record k { threads = u.threads })) (sym e)
      (record { quiet = record { asked = refl; ready = refl; chains = refl; hand = refl; drawn = refl; child = refl; given = refl; root = refl }; share = refl; answering_is = refl })

  begins : (old : ℕ) (b : Bool) → b ≡ true → request_by b u.number (old + 1) 32 u ≡ record u { answering = Some (record { asker = old + 1 - 1; put = false; told = false }) }
  begins old true e = refl
  begins old false e = absurd (let no : ⊥ = cc in no)

  pub begun : (asker : ℕ) → Answers (Some (record { asker = asker; put = false; told = false })) (after p d u (RequestChange u.number (asker + 1) 32) (Number (asker + 1)))
  unfolding after view_after
  begun asker =
      let e : asker + 1 - 1 ≡ asker = omega arith in
      of_view (requested ((asker + 1) == (asker + 1)) u.number (asker + 1) 32 u) (Some (record { asker = asker; put = false; told = false }))
      (ap (λ (b : Bool). requested b u.number (asker + 1) 32 u) (eq-eqb (asker + 1) (asker + 1) refl) ∙ begins asker (u.number == u.number) (eq-eqb u.number u.number refl) ∙ ap (λ (k : ℕ). record u { answering = Some (record { asker = k; put = false; told = false }) }) e)

  -- another word was found
  pub not_changed : (at old new n : ℕ) → (n == old) ≡ false → Still (after p d u (RequestChange at old new) (Number n))
  unfolding after view_after
  not_changed at old new n other = subst (λ (b : Bool). Still (record (requested b at old new u) { threads = u.threads })) (sym other) still_here

  clears : (b : Bool) → b ≡ true → request_by b u.number 32 0 u ≡ record u { answering = None }
  clears true e = refl
  clears false e = absurd (let no : ⊥ = cc in no)

  pub cleared : (n : ℕ) → n ≡ 32 → Answers None (after p d u (RequestChange u.number 32 0) (Number n))
  unfolding after view_after
  cleared n is = of_view (requested (n == 32) u.number 32 0 u) None (ap (λ (b : Bool). requested b u.number 32 0 u) (eq-eqb n 32 is) ∙ clears (u.number == u.number) (eq-eqb u.number u.number refl))

  -- ---- the answer is told

  pub told : (a : Answering) (n : ℕ) → u.answering ≡ Some a → a.asker ≢ u.number → Answers (Some (record a { told = true })) (after p d u (MailStore a.asker n) Done)
  unfolding after view_after
  told a n is other = of_view (mail_sent (a.asker == u.number) n u) (Some (record a { told = true })) (ap (λ (b : Bool). mail_sent b n u) (ne_eqb a.asker u.number other) ∙ ap (λ (o : Option Answering). record u { answering = answered o }) is)
