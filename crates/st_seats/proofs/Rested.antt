-- Where a thread is when no worker has any: rest_laws.
use Rattle.std.proofs.Common.{◌≡◌, ◌⊎◌, inl, inr, ℕ, ◌<◌, List, None, refl, sym, subst}
use Rattle.std.specs.List.{Contains}
use Rattle.st_base.specs.declared.chain.Waiting.{Waiting}
use Rattle.st_words.specs.declared.view.Waiter.{Waiter}
use Rattle.st_words.specs.declared.view.Known.{Known}
use Rattle.st_words.specs.declared.view.Carried.{Carried}
use Rattle.st_words.specs.Encodings.{trapped, waits_word}
use Rattle.st_words.proofs.Lists.{contains_none}
use Rattle.st_world.specs.World.{World}
use Rattle.st_spots.specs.Listing.{Spot, Nowhere, Listed, Held, Behind, Readied, Rooted, Lists, IsOpen, counters}
use Rattle.st_seats.specs.Placing.{Place, Gone, Named, Home, InMail, InTurn, OnStack, Places, WaitsFor, cells_of, chain_cells}
use Rattle.st_seats.specs.Laws.{IsIdle, IsStill, RestLaws}
use Rattle.st_seats.proofs.Seats.{at_place}
use Rattle.st_seats.proofs.Slots.{home_told, home_below, rests_as}

module _ (x : World) (l : Lists x) (P : Places x l) (idle : (w : ℕ) → w < x.workers → IsIdle (x.view w)) (no_mail : (v : ℕ) → v < x.workers → x.post v ≡ None) (light : (c : ℕ) → c < x.cells → (x.home_cargo c).unit ≡ 0) where
  -- no number is in a hand
  no_hand : (w c : ℕ) → l.spot c ≡ Held w → ⊥
  no_hand w c e =
      let h = (l.listing.hands w).has c e in
      contains_none h.0.0 (subst (λ (hand : List Waiter). Contains hand h.0.0) (idle w h.1).hand h.0.1)

  -- what it waits for isn't so yet
  open_at : (c e k : ℕ) → P.place c ≡ Home → l.spot c ≡ Listed e k → IsOpen (counters x.owner e) (x.state e) e (x.home_cargo c).carried.wait
  open_at c e k p s =
      let h = home_told x l P c p in
      let same : WaitsFor (l.wait c) (Listed e k) (x.home_cargo c).carried.wait = subst (λ (q : Spot). WaitsFor (l.wait c) q (x.home_cargo c).carried.wait) s h.1.waits in
      subst (λ (j : Waiting). IsOpen (counters x.owner e) (x.state e) e j) (sym same) (l.listing.waiting c e k s)

  by_spot : (c : ℕ) (s : Spot) → P.place c ≡ Home → l.spot c ≡ s → (x.standing c ≡ trapped) ⊎ ((x.standing c ≡ waits_word) × ((e : ℕ) × (k : ℕ) × (l.spot c ≡ Listed e k) × IsOpen (counters x.owner e) (x.state e) e (x.home_cargo c).carried.wait))
  by_spot c (Listed e k) p s = inr ((rests_as x l P c (Listed e k) p s).1, (e, k, s, open_at c e k p s))
  by_spot c Nowhere p s = inl (rests_as x l P c Nowhere p s).1
  by_spot c (Held w) p s = absurd (no_hand w c s)
  by_spot c (Behind w m k) p s = absurd (no_hand w m (l.listing.behind c w m k s).0)
  by_spot c (Readied w) p s = let a = (rests_as x l P c (Readied w) p s).2 in let b = light c (home_below x l P c p) in let no : ⊥ = cc in absurd no
  by_spot c (Rooted o) p s = let a = (rests_as x l P c (Rooted o) p s).3 in let b = light c (home_below x l P c p) in let no : ⊥ = cc in absurd no

  still : (c : ℕ) (p : Place) → P.place c ≡ p → ((P.place c ≡ Gone) ⊎ (P.place c ≡ Home)) × IsStill x l c
  still c Gone e = (inl e, inl (at_place x l.spot l.wait P c Gone e).0.0)
  still c Home e = let h = home_told x l P c e in (inr e, inr (h.0, h.1.at, by_spot c (l.spot c) e refl))
  still c (Named w) e = let h = at_place x l.spot l.wait P c (Named w) e in let a = h.3.1 in let b = (idle w h.4).child in let no : ⊥ = cc in absurd no
  still c (InMail v) e = let h = at_place x l.spot l.wait P c (InMail v) e in let a = h.3.1 in let b = no_mail v h.4 in let no : ⊥ = cc in absurd no
  still c (InTurn w) e = let h = at_place x l.spot l.wait P c (InTurn w) e in absurd (contains_none c (subst (λ (ys : List Carried). Contains (chain_cells ys) c) (idle w h.3).chains h.2))
  still c (OnStack w) e = let h = at_place x l.spot l.wait P c (OnStack w) e in absurd (contains_none c (subst (λ (ts : List Known). Contains (cells_of ts) c) (idle w h.4).threads h.3))

pub rest_laws : RestLaws
rest_laws = record { still = λ x l P idle no_mail light c. still x l P idle no_mail light c (P.place c) refl }
