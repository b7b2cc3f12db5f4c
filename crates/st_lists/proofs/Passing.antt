-- Numbers pass from lists and hands into lists and hands: those that stay, those of a list that is handed out, and one that is parked.
use Rattle.std.proofs.Common.{◌≡◌, ◌≢◌, inl, inr, ⊎_elim, ℕ, Option, Some, refl, sym, ap, ◌∙◌, subst}
use mathlib.Core.Logic.{dite}
use native.Mathlib.Decide.{ℕ_discrete}
use Rattle.st_base.specs.declared.chain.Waiting.{Waiting}
use Rattle.st_words.specs.declared.view.View.{View}
use Rattle.st_words.specs.Careful.{IsAtHome}
use Rattle.st_world.specs.Functions.{put}
use Rattle.st_world.proofs.Functions.{put_here, put_other}
use Rattle.st_spots.specs.Listing.{Spot, Held}
use Rattle.st_lists.specs.Going.{IsQueued, Stays, Passes}
use Rattle.st_spots.proofs.Lists.{handed, was}

module _ (spot : ℕ → Spot) (wait : ℕ → Waiting) (w : ℕ) (u : View) where
  pub stays_pass : (spot' : ℕ → Spot) (wait' : ℕ → Waiting) → Stays spot wait spot' wait' → Passes spot wait spot' wait' w u
  stays_pass spot' wait' s = (λ d. inl (s.0 d), s.1)

  pub park_passes : (d : ℕ) (s : Spot) → spot d ≡ Held w → IsQueued s → IsAtHome u d → Passes spot wait (put spot d s) wait w u
  park_passes d s at queued home = (
    λ e. dite (ℕ_discrete e d)
        (λ (q : e ≡ d).
        let was : spot e ≡ Held w = ap spot q ∙ at in
        let is : put spot d s e ≡ s = ap (put spot d s) q ∙ put_here spot d s in
        inr (subst (λ (t : Spot). IsQueued t) (sym was) tt, subst (λ (t : Spot). IsQueued t) (sym is) queued, λ v z. let same : Held w ≡ Held v = sym was ∙ z in (let m : v ≡ w = cc in m, subst (λ (f : ℕ). IsAtHome u f) (sym q) home)))
        (λ (n : e ≢ d). inl (put_other spot d s e n)),
    λ e. refl,
  )

  pub handing_passes : (at : ℕ → Spot) (rank : Spot → Option ℕ) (here : (k : ℕ) → rank (at k) ≡ Some k) (only : (s : Spot) (k : ℕ) → rank s ≡ Some k → s ≡ at k) (n v x : ℕ) → ((k : ℕ) → IsQueued (at k)) → ((i k : ℕ) → at k ≢ Held i) → Passes spot wait (λ d. handed rank n v x (spot d)) wait w u
  handing_passes at rank here only n v x queued no_hand = (
    λ d. ⊎_elim
        (λ h. inr (subst (λ (t : Spot). IsQueued t) (sym h.0) (queued n), subst (λ (t : Spot). IsQueued t) (sym h.1) tt, λ i z. absurd (no_hand i n (sym h.0 ∙ z))))
        (λ r. ⊎_elim
        (λ h. inr (subst (λ (t : Spot). IsQueued t) (sym h.1) (queued h.0), subst (λ (t : Spot). IsQueued t) (sym h.3) tt, λ i z. absurd (no_hand i h.0 (sym h.1 ∙ z))))
        (λ h. inl h.1) r) (was at rank here only n v x (spot d)),
    λ d. refl,
  )
