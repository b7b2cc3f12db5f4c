-- Who has a thread, by its place. Of is that a worker has it; turn_there, stack_there and child_there are its place by the view of who has it, of_empty, of_thread
-- and of_worker what follows; some_spot, ready_home, rooted_home and held_home are where its chain is by where its number is.
use Rattle.std.proofs.Common.{◌≡◌, ◌≢◌, ◌⊎◌, inl, inr, ⊎_elim, ℕ, ◌<◌, Option, None, refl, sym, ap, ◌∙◌, subst}
use Rattle.std.specs.List.{Contains}
use Rattle.st_base.specs.declared.chain.Chain.{Chain}
use Rattle.st_base.specs.declared.chain.Waiting.{Waiting}
use Rattle.st_words.specs.declared.view.Cargo.{Cargo}
use Rattle.st_words.specs.declared.view.Known.{Known}
use Rattle.st_words.specs.declared.view.Carried.{Carried}
use Rattle.st_words.specs.declared.view.Child.{Child}
use Rattle.st_words.specs.declared.view.View.{View}
use Rattle.st_words.specs.Views.{no_cargo}
use Rattle.st_words.specs.Steps.{HasThread, HasChain, IsChild}
use Rattle.st_world.specs.World.{World}
use Rattle.st_spots.specs.Listing.{Spot, Nowhere, Held, Readied, Rooted}
use Rattle.st_seats.specs.Placing.{Place, Named, Home, InTurn, OnStack, IsOfThread, PlaceHolds, HomeHolds, MailHolds, TurnHolds, StackHolds, ChildHolds, IsTurnSpot, ViewPlaces, Placing, cells_of, chain_cells}
use Rattle.st_seats.proofs.MovedLists.{map_out, map_has}

-- this worker has the thread
abbrev pub Of : ℕ → Place → Type 0
Of w (Named v) = v ≡ w
Of w (InTurn v) = v ≡ w
Of w (OnStack v) = v ≡ w
Of w _ = ⊥

pub of_one : (v w : ℕ) (p : Place) → Of v p → Of w p → v ≡ w
of_one v w (Named z) a b = sym a ∙ b
of_one v w (InTurn z) a b = sym a ∙ b
of_one v w (OnStack z) a b = sym a ∙ b
of_one v w p a b = absurd a

-- ---- the parts of a world

abbrev pub Placed : World → (ℕ → Spot) → (ℕ → Waiting) → Type 0
Placed x spot wait = Placing x.workers x.cells spot wait x.owner x.state x.standing x.trap x.home x.home_cargo x.post x.post_cargo x.view

abbrev pub Holds : World → (ℕ → Spot) → (ℕ → Waiting) → (ℕ → Place) → ℕ → Place → Type 0
Holds x spot wait place = PlaceHolds x.workers x.cells spot wait x.owner x.state x.standing x.trap x.home x.home_cargo x.post x.post_cargo x.view place

abbrev pub HoldsHome : World → (ℕ → Spot) → (ℕ → Waiting) → (ℕ → Place) → ℕ → Chain → Cargo → Type 0
HoldsHome x spot wait place = HomeHolds x.workers x.cells spot wait x.owner x.state x.standing x.trap x.home x.home_cargo x.post x.post_cargo x.view place

abbrev pub ThreadAt : World → (ℕ → Spot) → (ℕ → Waiting) → (ℕ → Place) → ℕ → Type 0
ThreadAt x spot wait place = IsOfThread x.workers x.cells spot wait x.owner x.state x.standing x.trap x.home x.home_cargo x.post x.post_cargo x.view place

abbrev pub Views : World → (ℕ → Spot) → (ℕ → Waiting) → (ℕ → Place) → ℕ → View → Type 0
Views x spot wait place = ViewPlaces x.workers x.cells spot wait x.owner x.state x.standing x.trap x.home x.home_cargo x.post x.post_cargo x.view place

abbrev pub Turn : World → (ℕ → Spot) → (ℕ → Waiting) → (ℕ → Place) → ℕ → Carried → Type 0
Turn x spot wait place = TurnHolds x.workers x.cells spot wait x.owner x.state x.standing x.trap x.home x.home_cargo x.post x.post_cargo x.view place

abbrev pub Stack : World → (ℕ → Spot) → (ℕ → Waiting) → (ℕ → Place) → ℕ → ℕ → Type 0
Stack x spot wait place = StackHolds x.workers x.cells spot wait x.owner x.state x.standing x.trap x.home x.home_cargo x.post x.post_cargo x.view place

abbrev pub Begins : World → (ℕ → Spot) → (ℕ → Waiting) → (ℕ → Place) → ℕ → Child → Type 0
Begins x spot wait place = ChildHolds x.workers x.cells spot wait x.owner x.state x.standing x.trap x.home x.home_cargo x.post x.post_cargo x.view place

abbrev pub MailAt : World → (ℕ → Spot) → (ℕ → Waiting) → (ℕ → Place) → ℕ → Option Chain → Cargo → Type 0
MailAt x spot wait place = MailHolds x.workers x.cells spot wait x.owner x.state x.standing x.trap x.home x.home_cargo x.post x.post_cargo x.view place

module _ (x : World) (spot : ℕ → Spot) (wait : ℕ → Waiting) (P : Placed x spot wait) where
  pub at_place : (c : ℕ) (p : Place) → P.place c ≡ p → Holds x spot wait P.place c p
  at_place c p e = subst (Holds x spot wait P.place c) e (P.each c)

  -- ---- by who has it

  pub chain_there : (w c : ℕ) → Contains (chain_cells (x.view w).chains) c → P.place c ≡ InTurn w
  chain_there w c m = let r = map_out (λ (y : Carried). y.known.note.cell) (x.view w).chains c m in subst (λ (d : ℕ). P.place d ≡ InTurn w) r.2 ((P.views w).turn r.0 r.1).there

  pub turn_there : (w c : ℕ) → HasChain (x.view w) c → P.place c ≡ InTurn w
  turn_there w c h = subst (λ (d : ℕ). P.place d ≡ InTurn w) h.2 ((P.views w).turn h.0 h.1).there

  pub thread_in : (w c : ℕ) → HasThread (x.view w) c → Contains (cells_of (x.view w).threads) c
  thread_in w c h = map_has (λ (t : Known). t.note.cell) (x.view w).threads h.0 c h.1 h.2

  pub stack_there : (w c : ℕ) → HasThread (x.view w) c → P.place c ≡ OnStack w
  stack_there w c h = ((P.views w).stack c (thread_in w c h)).there

  pub child_there : (w c : ℕ) → IsChild (x.view w) c → P.place c ≡ Named w
  child_there w c h = subst (λ (d : ℕ). P.place d ≡ Named w) h.2 ((P.views w).child h.0 h.1).there

  pub has_there : (w c : ℕ) → HasThread (x.view w) c ⊎ (HasChain (x.view w) c ⊎ IsChild (x.view w) c) → Of w (P.place c)
  has_there w c (inl h) = subst (Of w) (sym (stack_there w c h)) refl
  has_there w c (inr (inl h)) = subst (Of w) (sym (turn_there w c h)) refl
  has_there w c (inr (inr h)) = subst (Of w) (sym (child_there w c h)) refl

  of_told : (w c : ℕ) (p : Place) → Of w p → Holds x spot wait P.place c p → ((x.home c ≡ None) × (x.home_cargo c ≡ no_cargo)) × ThreadAt x spot wait P.place c × (w < x.workers)
  of_told w c (Named v) e h = (h.0, h.2, subst (λ (z : ℕ). z < x.workers) e h.4)
  of_told w c (InTurn v) e h = (h.0, h.1, subst (λ (z : ℕ). z < x.workers) e h.3)
  of_told w c (OnStack v) e h = (h.0, h.2, subst (λ (z : ℕ). z < x.workers) e h.4)
  of_told w c p e h = absurd e

  -- its slot is empty, its cell is of a thread that hasn't ended, and the worker is one of the board's
  pub of_empty : (w c : ℕ) → Of w (P.place c) → (x.home c ≡ None) × (x.home_cargo c ≡ no_cargo)
  of_empty w c e = (of_told w c (P.place c) e (P.each c)).0

  pub of_thread : (w c : ℕ) → Of w (P.place c) → ThreadAt x spot wait P.place c
  of_thread w c e = (of_told w c (P.place c) e (P.each c)).1

  pub of_worker : (w c : ℕ) → Of w (P.place c) → w < x.workers
  of_worker w c e = (of_told w c (P.place c) e (P.each c)).2

  -- ---- by its number

  -- a chain in a turn has its number nowhere or in that hand
  pub turn_spot : (w c : ℕ) → P.place c ≡ InTurn w → (spot c ≡ Nowhere) ⊎ (spot c ≡ Held w)
  turn_spot w c e =
      let h = at_place c (InTurn w) e in
      let r = map_out (λ (y : Carried). y.known.note.cell) (x.view w).chains c h.2 in
      by r.0 (spot c) refl (subst (λ (d : ℕ). IsTurnSpot w (spot d) (wait d) r.0) r.2 ((P.views w).turn r.0 r.1).number)
    where
      by : (y : Carried) (s : Spot) → spot c ≡ s → IsTurnSpot w s (wait c) y → (spot c ≡ Nowhere) ⊎ (spot c ≡ Held w)
      by y Nowhere e t = inl e
      by y (Held v) e t = inr (e ∙ ap Held t.0)
      by y s e t = absurd t

  seat : (c : ℕ) (p : Place) → P.place c ≡ p → spot c ≢ Nowhere → (p ≡ Home) ⊎ ((w : ℕ) × (P.place c ≡ InTurn w) × (spot c ≡ Held w))
  seat c Home e n = inl refl
  seat c (InTurn w) e n = ⊎_elim (λ s. absurd (n s)) (λ (s : spot c ≡ Held w). inr (w, e, s)) (turn_spot w c e)
  seat c p e n = absurd (n (at_place c p e).1)

  -- whose number is somewhere has its chain in its slot, or in the turn of who has the number in hand
  pub some_spot : (c : ℕ) → spot c ≢ Nowhere → (P.place c ≡ Home) ⊎ ((w : ℕ) × (P.place c ≡ InTurn w) × (spot c ≡ Held w))
  some_spot c n = seat c (P.place c) refl n

  pub other_home : (c : ℕ) → spot c ≢ Nowhere → ((w : ℕ) → spot c ≢ Held w) → P.place c ≡ Home
  other_home c n o = ⊎_elim (λ e. e) (λ r. absurd (o r.0 r.2)) (some_spot c n)

  pub ready_home : (w c : ℕ) → spot c ≡ Readied w → P.place c ≡ Home
  ready_home w c e = other_home c (λ z. let no : ⊥ = cc in no) (λ v z. let no : ⊥ = cc in no)

  pub rooted_home : (o : Option ℕ) (c : ℕ) → spot c ≡ Rooted o → P.place c ≡ Home
  rooted_home o c e = other_home c (λ z. let no : ⊥ = cc in no) (λ v z. let no : ⊥ = cc in no)

  -- a number in hand has its chain in its slot, or in the same worker's turn
  pub held_home : (w c : ℕ) → spot c ≡ Held w → (HasChain (x.view w) c → ⊥) → P.place c ≡ Home
  held_home w c e out = ⊎_elim (λ h. h)
      (λ r. let f : Held r.0 ≡ Held w = sym r.2 ∙ e in
      let v : r.0 ≡ w = cc in
      let h = at_place c (InTurn w) (r.1 ∙ ap InTurn v) in
      let q = map_out (λ (y : Carried). y.known.note.cell) (x.view w).chains c h.2 in
      absurd (out (q.0, q.1, q.2)))
      (some_spot c (λ z. let no : ⊥ = cc in no))

  pub in_slot : (c : ℕ) → P.place c ≡ Home → ThreadAt x spot wait P.place c × ((chain : Chain) × HoldsHome x spot wait P.place c chain (x.home_cargo c))
  in_slot c e = at_place c Home e
