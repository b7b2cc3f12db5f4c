-- What is in a slot: slot_laws. Reach for take_home (who may take from a cell's slot finds the chain there), home_filled and mail_told (the chain of a slot).
use Rattle.std.proofs.Common.{◌≡◌, ◌≢◌, ◌⊎◌, inl, inr, ⊎_elim, ℕ, ◌<◌, true, Option, Some, None, refl, sym, ap, ◌∙◌, subst}
use Rattle.st_base.specs.declared.chain.Chain.{Chain}
use Rattle.st_base.specs.declared.chain.Note.{Note}
use Rattle.st_words.specs.declared.view.Slot.{Slot}
use Rattle.st_words.specs.declared.view.Slot.TheVariants.{Cell, Mail}
use Rattle.st_words.specs.declared.view.Cargo.{Cargo}
use Rattle.st_words.specs.Encodings.{ready, waits_word}
use Rattle.st_words.specs.Steps.{MayTake, HasChain, HasInHand, IsWaiting}
use Rattle.st_words.specs.Views.{no_cargo}
use Rattle.st_words.specs.Promises.{IsCargoOf, IsInItsCell, IsActive, IsByHand, StandsActive}
use Rattle.st_words.specs.Careful.{IsAtHome}
use Rattle.st_world.specs.World.{World, slot_of, cargo_of}
use Rattle.st_spots.specs.Listing.{Spot, Nowhere, Held, Readied, Rooted, Lists, counters}
use Rattle.st_seats.specs.Placing.{Place, Home, InMail, Rests, WaitsFor, IsOver, MailHolds, PostHolds, Places}
use Rattle.st_seats.specs.Laws.{SlotLaws}
use Rattle.st_seats.proofs.Seats.{Of, HoldsHome, at_place, turn_there, of_empty, turn_spot, ready_home, rooted_home, held_home, in_slot}

pub held : (x : World) (l : Lists x) (w c : ℕ) → HasInHand (x.view w) c → l.spot c ≡ Held w
held x l w c h = subst (λ (d : ℕ). l.spot d ≡ Held w) h.2 ((l.listing.hands w).entries h.0 h.1).held

module _ (x : World) (l : Lists x) (P : Places x l) where
  abbrev pub InPost : ℕ → Chain → Cargo → Type 0
  InPost = PostHolds x.workers x.cells l.spot l.wait x.owner x.state x.standing x.trap x.home x.home_cargo x.post x.post_cargo x.view P.place

  abbrev pub InHome : ℕ → Chain → Type 0
  InHome c chain = HoldsHome x l.spot l.wait P.place c chain (x.home_cargo c)

  seat_slot : (c : ℕ) (p : Place) → P.place c ≡ p → ((x.home c ≡ None) × (x.home_cargo c ≡ no_cargo)) ⊎ (P.place c ≡ Home)
  seat_slot c Home e = inr e
  seat_slot c p e = inl (at_place x l.spot l.wait P c p e).0

  -- a cell's slot is empty, or has its chain
  pub slot_case : (c : ℕ) → ((x.home c ≡ None) × (x.home_cargo c ≡ no_cargo)) ⊎ (P.place c ≡ Home)
  slot_case c = seat_slot c (P.place c) refl

  pub home_told : (c : ℕ) → P.place c ≡ Home → (chain : Chain) × InHome c chain
  home_told c e = (in_slot x l.spot l.wait P c e).1

  pub home_below : (c : ℕ) → P.place c ≡ Home → c < x.cells
  home_below c e = (in_slot x l.spot l.wait P c e).0.below

  pub home_filled : (c : ℕ) (chain : Chain) → x.home c ≡ Some chain → P.place c ≡ Home
  home_filled c chain e = ⊎_elim (λ h. let f = h.0 in let no : ⊥ = cc in absurd no) (λ p. p) (slot_case c)

  pub mail_told : (v : ℕ) (chain : Chain) → x.post v ≡ Some chain → InPost v chain (x.post_cargo v)
  mail_told v chain e = subst (λ (o : Option Chain). MailHolds x.workers x.cells l.spot l.wait x.owner x.state x.standing x.trap x.home x.home_cargo x.post x.post_cargo x.view P.place v o (x.post_cargo v)) e (P.mail v)

  some_of : (o : Option Chain) → o ≢ None → (chain : Chain) × (o ≡ Some chain)
  some_of (Some chain) n = (chain, refl)
  some_of None n = absurd (n refl)

  -- ---- who may take

  rooted : (w c : ℕ) → (c ≡ 0) × ((x.view w).root ≡ true) → l.spot c ≡ Rooted (Some w)
  rooted w c h = ap l.spot h.0 ∙ l.rooting.finder w h.1

  pub take_home : (w c : ℕ) → MayTake (x.view w) (Cell c) → P.place c ≡ Home
  take_home w c (inl m) = ready_home x l.spot l.wait P w c ((l.listing.readies w).of c m)
  take_home w c (inr (inl h)) = held_home x l.spot l.wait P w c (held x l w c h.0) h.1
  take_home w c (inr (inr h)) = rooted_home x l.spot l.wait P (Some w) c (rooted w c h)

  filled : (w c : ℕ) → MayTake (x.view w) (Cell c) → x.home c ≢ None
  filled w c may e = let h = (home_told c (take_home w c may)).1.at in let no : ⊥ = cc in no

  abbrev pub RestsAs : ℕ → Spot → Type 0
  RestsAs c s = Rests (IsOver (counters x.owner) x.state) (x.home_cargo c).carried.wait c s (x.standing c) (x.home_cargo c).unit

  pub rests_as : (c : ℕ) (s : Spot) → P.place c ≡ Home → l.spot c ≡ s → RestsAs c s
  rests_as c s p e = subst (RestsAs c) e (home_told c p).1.rests

  stands_as : (c n : ℕ) → P.place c ≡ Home → x.standing c ≡ n → (x.home_cargo c).carried.standing ≡ Some n
  stands_as c n p e = (home_told c p).1.stands ∙ ap Some e

  active_cell : (w c : ℕ) → IsActive (x.view w) (Cell c) → ((x.home_cargo c).unit ≡ 1) × StandsActive (x.view w) (Cell c) (x.home_cargo c).carried
  active_cell w c (inl m) =
      let s : l.spot c ≡ Readied w = (l.listing.readies w).of c m in
      let p = ready_home x l.spot l.wait P w c s in
      let r = rests_as c (Readied w) p s in
      (r.2, (stands_as c ready p r.1, λ h. let t = rooted w c h in let no : ⊥ = cc in absurd no))
  active_cell w c (inr h) =
      let s = rooted w c h in
      let p = rooted_home x l.spot l.wait P (Some w) c s in
      let r = rests_as c (Rooted (Some w)) p s in
      (r.3, (stands_as c ready p r.2, λ g. r.1))

  active : (w : ℕ) (slot : Slot) → slot_of x slot ≢ None → IsActive (x.view w) slot → ((cargo_of x slot).unit ≡ 1) × StandsActive (x.view w) slot (cargo_of x slot).carried
  active w (Cell c) n a = active_cell w c a
  active w (Mail at) n a = let o = some_of (x.post at) n in let h = mail_told at o.0 o.1 in (h.unit, h.stands.0)

  by_hand_cell : (w c : ℕ) → MayTake (x.view w) (Cell c) → l.spot c ≡ Held w → ((x.home_cargo c).unit ≡ 0) × ((x.home_cargo c).carried.standing ≡ Some waits_word) × IsWaiting (x.home_cargo c).carried.wait
  by_hand_cell w c may s =
      let p = take_home w c may in
      let r = rests_as c (Held w) p s in
      (r.2, stands_as c waits_word p r.1, r.0)

  by_hand : (w : ℕ) (slot : Slot) → MayTake (x.view w) slot → IsByHand (x.view w) slot → ((cargo_of x slot).unit ≡ 0) × ((cargo_of x slot).carried.standing ≡ Some waits_word) × IsWaiting (cargo_of x slot).carried.wait
  by_hand w (Cell c) may h = by_hand_cell w c may (held x l w c h)
  by_hand w (Mail at) may h = absurd h

  waiting : (w c : ℕ) → HasInHand (x.view w) c → IsAtHome (x.view w) c → (x.home c ≢ None) × ((x.home_cargo c).unit ≡ 0) × ((x.home_cargo c).carried.wait ≡ l.wait c)
  waiting w c h out =
      let may : MayTake (x.view w) (Cell c) = inr (inl (h, out)) in
      let p = take_home w c may in
      (filled w c may, (by_hand_cell w c may (held x l w c h)).0, subst (λ (s : Spot). WaitsFor (l.wait c) s (x.home_cargo c).carried.wait) (held x l w c h) (home_told c p).1.waits)

  nowhere : (w c : ℕ) → HasChain (x.view w) c → (HasInHand (x.view w) c → ⊥) → l.spot c ≡ Nowhere
  nowhere w c h out = ⊎_elim (λ e. e) (λ e. absurd (out ((l.listing.hands w).has c e).0)) (turn_spot x l.spot l.wait P w c (turn_there x l.spot l.wait P w c h))

  -- ---- each slot

  of_cell : (c : ℕ) → ((x.home c ≡ None) × (x.home_cargo c ≡ no_cargo)) ⊎ (P.place c ≡ Home) → IsCargoOf (x.home c) (x.home_cargo c) × IsInItsCell (Cell c) (x.home c)
  of_cell c (inl h) = (subst (λ (o : Option Chain). IsCargoOf o (x.home_cargo c)) (sym h.0) h.1, subst (IsInItsCell (Cell c)) (sym h.0) tt)
  of_cell c (inr p) = let h = (home_told c p).1 in (subst (λ (o : Option Chain). IsCargoOf o (x.home_cargo c)) (sym h.at) h.of, subst (IsInItsCell (Cell c)) (sym h.at) h.cell)

  of_mail : (v : ℕ) (o : Option Chain) → MailHolds x.workers x.cells l.spot l.wait x.owner x.state x.standing x.trap x.home x.home_cargo x.post x.post_cargo x.view P.place v o (x.post_cargo v) → IsCargoOf o (x.post_cargo v) × IsInItsCell (Mail v) o
  of_mail v None h = (h, tt)
  of_mail v (Some chain) h = (h.of, tt)

  of : (slot : Slot) → IsCargoOf (slot_of x slot) (cargo_of x slot) × IsInItsCell slot (slot_of x slot)
  of (Cell c) = of_cell c (slot_case c)
  of (Mail v) = of_mail v (x.post v) (P.mail v)

  cargo_cell : (chain : Chain) (cargo : Cargo) → IsCargoOf (Some chain) cargo → cargo.carried.known.note.cell ≡ chain.cell
  cargo_cell chain cargo h = ap (λ (n : Note). n.cell) h.0 ∙ h.2

  below : (slot : Slot) → slot_of x slot ≢ None → (cargo_of x slot).carried.known.note.cell < x.cells
  below (Cell c) n =
      let o = some_of (x.home c) n in
      let p = home_filled c o.0 o.1 in
      let r = home_told c p in
      subst (λ (d : ℕ). d < x.cells) (sym (cargo_cell r.0 (x.home_cargo c) r.1.of ∙ r.1.cell)) (home_below c p)
  below (Mail v) n =
      let o = some_of (x.post v) n in
      let h = mail_told v o.0 o.1 in
      subst (λ (d : ℕ). d < x.cells) (sym (cargo_cell o.0 (x.post_cargo v) h.of)) (at_place x l.spot l.wait P o.0.cell (InMail v) h.there).2.below

pub slot_laws : SlotLaws
slot_laws = record {
  empty = λ x l w c P h. of_empty x l.spot l.wait P w c (subst (Of w) (sym (turn_there x l.spot l.wait P w c h)) refl);
  filled = λ x l w c P may. filled x l P w c may;
  of = λ x l slot P. of x l P slot;
  below = λ x l slot P n. below x l P slot n;
  active = λ x l w slot P may n a. active x l P w slot n a;
  by_hand = λ x l w slot P may h. by_hand x l P w slot may h;
  waiting = λ x l w c P h out. waiting x l P w c h out;
  nowhere = λ x l w c P h out. nowhere x l P w c h out;
}
