-- What is always so of a view and what a State word shows: told_laws.
use Rattle.std.proofs.Common.{◌≡◌, ◌⊎◌, inl, inr, ⊎_elim, ℕ, ◌≤◌, Bool, Some, sym, ap, ◌∙◌, subst}
use Rattle.std.specs.List.{Contains}
use Rattle.st_base.specs.declared.chain.Chain.{Chain}
use Rattle.st_base.specs.declared.chain.Waiting.{Waiting}
use Rattle.st_base.specs.declared.chain.Waiting.TheVariants as waits
use Rattle.st_words.specs.declared.view.Slot.{Slot}
use Rattle.st_words.specs.declared.view.Slot.TheVariants.{Cell, Mail}
use Rattle.st_words.specs.declared.view.Carried.{Carried}
use Rattle.st_words.specs.Encodings.{count_in, waits_word}
use Rattle.st_words.specs.Steps.{HasThread, HasChain, HasInHand, IsChild, IsWaiting}
use Rattle.st_words.specs.Promises.{ShowsOver}
use Rattle.st_world.specs.World.{World, slot_of}
use Rattle.st_spots.specs.Listing.{Spot, Nowhere, Held, Readied, Lists}
use Rattle.st_seats.specs.Placing.{OnStack, IsOver, IsTurnSpot, Places}
use Rattle.st_seats.specs.Laws.{ToldLaws}
use Rattle.st_seats.proofs.MovedLists.{map_only}
use Rattle.st_seats.proofs.Seats.{Of, of_one, at_place, turn_there, stack_there, thread_in, has_there, of_thread, turn_spot}
use Rattle.st_seats.proofs.Slots.{held, home_filled, home_told, mail_told}

-- what is over shows it
over_shows : (counter : ℕ → Bool) (state : ℕ → ℕ) (k : Waiting) (c : ℕ) → IsOver counter state k → ShowsOver k c (state c)
over_shows counter state (waits.Touch e) c h = λ s. sym (ap state s) ∙ h.1
over_shows counter state (waits.Join e least) c h = λ s. subst (λ (d : ℕ). least ≤ count_in (state d)) s h.1
over_shows counter state k c h = tt

module _ (x : World) (l : Lists x) (P : Places x l) where
  ready_spot : (w c : ℕ) → Contains (x.view w).ready c → l.spot c ≡ Readied w
  ready_spot w c m = (l.listing.readies w).of c m

  stack_spot : (w c : ℕ) → HasThread (x.view w) c → l.spot c ≡ Nowhere
  stack_spot w c t = (at_place x l.spot l.wait P c (OnStack w) (stack_there x l.spot l.wait P w c t)).1

  threads : (w c : ℕ) → HasThread (x.view w) c → HasChain (x.view w) c ⊎ (HasInHand (x.view w) c ⊎ Contains (x.view w).ready c) → ⊥
  threads w c t (inl h) = let a = stack_there x l.spot l.wait P w c t in let b = turn_there x l.spot l.wait P w c h in let no : ⊥ = cc in no
  threads w c t (inr (inl h)) = let a = stack_spot w c t in let b = held x l w c h in let no : ⊥ = cc in no
  threads w c t (inr (inr m)) = let a = stack_spot w c t in let b = ready_spot w c m in let no : ⊥ = cc in no

  ready_apart : (w c : ℕ) → Contains (x.view w).ready c → HasChain (x.view w) c → ⊥
  ready_apart w c m h =
      let a = ready_spot w c m in
      ⊎_elim (λ (s : l.spot c ≡ Nowhere). let no : ⊥ = cc in no) (λ (s : l.spot c ≡ Held w). let no : ⊥ = cc in no) (turn_spot x l.spot l.wait P w c (turn_there x l.spot l.wait P w c h))

  waiting : (w : ℕ) (y : Carried) → Contains (x.view w).chains y → HasInHand (x.view w) y.known.note.cell → IsWaiting y.wait × (y.standing ≡ Some waits_word)
  waiting w y m h =
      let c : ℕ = y.known.note.cell in
      let t : IsTurnSpot w (Held w) (l.wait c) y = subst (λ (s : Spot). IsTurnSpot w s (l.wait c) y) (held x l w c h) ((P.views w).turn y m).number in
      (t.1, t.3)

  cell_not_here : (w c : ℕ) (chain : Chain) → x.home c ≡ Some chain → HasThread (x.view w) chain.cell ⊎ (HasChain (x.view w) chain.cell ⊎ IsChild (x.view w) chain.cell) → ⊥
  cell_not_here w c chain e h =
      let p = home_filled x l P c chain e in
      let r = (home_told x l P c p).1 in
      let first = (home_told x l P c p).0 in
      let at = r.at in
      let same : chain ≡ first = let t : Some chain ≡ Some first = sym e ∙ at in cc in
      let cell : chain.cell ≡ c = ap (λ (k : Chain). k.cell) same ∙ r.cell in
      subst (Of w) (ap P.place cell ∙ p) (has_there x l.spot l.wait P w chain.cell h)

  not_here : (w : ℕ) (slot : Slot) (chain : Chain) → slot_of x slot ≡ Some chain → HasThread (x.view w) chain.cell ⊎ (HasChain (x.view w) chain.cell ⊎ IsChild (x.view w) chain.cell) → ⊥
  not_here w (Cell c) chain e h = cell_not_here w c chain e h
  not_here w (Mail v) chain e h = subst (Of w) (mail_told x l P v chain e).there (has_there x l.spot l.wait P w chain.cell h)

pub told_laws : ToldLaws
told_laws = record {
  chains = λ x l w y z P m n e. map_only (λ (k : Carried). k.known.note.cell) (x.view w).chains y z (P.views w).chains_once m n e;
  threads = λ x l w c P t h. threads x l P w c t h;
  ready = λ x l w c P m h. ready_apart x l P w c m h;
  waits = λ x l w y P m h. waiting x l P w y m h;
  below = λ x l w c P h. (of_thread x l.spot l.wait P w c (has_there x l.spot l.wait P w c h)).below;
  unfilled = λ x l w c P h. let t = of_thread x l.spot l.wait P w c (has_there x l.spot l.wait P w c h) in (t.named, t.future, t.unfilled);
  one_thread = λ x l v w c P a b. of_one v w (P.place c) (has_there x l.spot l.wait P v c a) (has_there x l.spot l.wait P w c b);
  not_here = λ x l w slot chain P e h. not_here x l P w slot chain e h;
  over = λ x l w c y P m g. over_shows _ x.state y.wait c (((P.views w).turn y m).over g);
  stands = λ x l w c P t. ((P.views w).stack c (thread_in x l.spot l.wait P w c t)).stands;
}
