-- A chain is taken from its cell's slot (taken) or put into it (put_so), and a Standing word is stored (stood_so), each with the view after it.
use Rattle.std.proofs.Common.{◌≡◌, ◌≢◌, inl, inr, ⊎_elim, ℕ, ◌<◌, Bool, true, false, cond, not, ◌&&◌, List, ◌∷◌, Option, Some, None, refl, sym, ap, ◌∙◌, subst, ◌==◌, ne_eqb}
use Rattle.std.specs.List.{Contains}
use Rattle.st_base.specs.declared.chain.Chain.{Chain}
use Rattle.st_base.specs.declared.chain.Waiting.{Waiting}
use Rattle.st_base.specs.declared.chain.Waiting.TheVariants as waits
use Rattle.st_words.specs.declared.view.Slot.TheVariants.{Cell}
use Rattle.st_words.specs.declared.view.Cargo.{Cargo}
use Rattle.st_words.specs.declared.view.Waiter.{Waiter}
use Rattle.st_words.specs.declared.view.View.{View}
use Rattle.st_words.specs.Steps.{HasInHand, MayTake}
use Rattle.st_words.specs.Views.{Progress, with_progress, in_hand, seen_waiting, without_waiter, with_standing, made_ready, made_running, took, slot_taken, waiter_of}
use Rattle.st_world.specs.Functions.{put}
use Rattle.st_world.specs.World.{World, seen}
use Rattle.st_world.proofs.Functions.{put_here, put_case}
use Rattle.st_spots.specs.Listing.{Spot, Nowhere, Held, Readied, Rooted, Listing, Rooting, Lists, hands, readies, finders, counters}
use Rattle.st_lists.specs.Going.{Stays, GoesTo, ComesInto, GoesReady, GoesTaken, GoesPut}
use Rattle.st_lists.specs.Laws.{IsLast, Having}
use Rattle.st_spots.proofs.Apart.{held_readied, nowhere_listed, nowhere_held, nowhere_behind, nowhere_readied, rooted_readied, rooted_held, rooted_nowhere}
use Rattle.st_spots.proofs.InHands.{hand_case, no_number, entry_of, waiter_there}
use Rattle.st_spots.proofs.Singles as singles
use Rattle.st_lists.proofs.ViewsAfter.{same_running}
use Rattle.st_lists.proofs.Wholes.{part_eq, part_same, rebuilt, root_same, root_put, below_put, quiet_view}
use Rattle.st_lists.proofs.Words as words

-- who found Root is still the finder, but for the root's chain
finder_stays : (c : ℕ) (b : Bool) → (c ≡ 0 → b ≡ true → ⊥) → (b && not (c == 0)) ≡ b
finder_stays c true n = ap not (ne_eqb c 0 (λ z. n z refl))
finder_stays c false n = refl

and_false : (b : Bool) → (b && false) ≡ false
and_false true = refl
and_false false = refl

module _ (x : World) (G : Lists x) (w : ℕ) (less : w < x.workers) (pr : Progress) where
  abbrev u : View
  u = x.view w

  -- ---- a chain is taken

  -- with what is seen of its wait in the hand
  seen_so : (P : (ℕ → Spot) → (ℕ → Waiting) → Type 0) (v : View) (c : ℕ) (k : Waiting) (spot' : ℕ → Spot) (r : ℕ → List ℕ) (f : ℕ → Bool) → P spot' G.wait → (spot' c ≡ Held w → G.wait c ≡ k) → v.hand ≡ seen_waiting c k u.hand → r ≡ readies (put x.view w v) → f ≡ finders (put x.view w v) → v.cells ≡ u.cells → ((d : ℕ) → spot' d ≢ Nowhere → d < x.cells) → Listing x.workers spot' G.wait x.next (counters x.owner) x.state (hands x.view) r → Rooting spot' x.root f → Having (seen w v x) P
  seen_so P v c k spot' r f so known a b d e below l o = rebuilt x.workers x.cells x.owner x.state x.next x.root x.view G w v P x.owner x.state x.next x.root spot' G.wait (put (hands x.view) w v.hand) r f so e (part_eq (λ (y : View). y.hand) x.view w v) b d below
      (subst (λ (h : List Waiter). Listing x.workers spot' G.wait x.next (counters x.owner) x.state (put (hands x.view) w h) r) (sym a) (singles.hand_told x.workers spot' G.wait x.next (counters x.owner) x.state (hands x.view) r l w c k known)) o

  -- by its number in the hand
  taken_held : (c : ℕ) (cargo : Cargo) → HasInHand u c → (G.spot c ≡ Held w → cargo.carried.wait ≡ G.wait c) → words.With x G w less pr (slot_taken (Cell c) cargo u) x (λ s k. Stays G.spot G.wait s k)
  taken_held c cargo has known =
      let v : View = with_progress pr (slot_taken (Cell c) cargo u) in
      let at : G.spot c ≡ Held w = words.held_at x G w less pr c has in
      seen_so (λ s k. Stays G.spot G.wait s k) v c cargo.carried.wait G.spot (readies x.view) (finders x.view) (λ d. refl, λ d. refl) (λ q. sym (known q)) refl
      (part_same (λ (y : View). y.ready) x.view w v (no_number c u.ready (λ m. held_readied (sym at ∙ (G.listing.readies w).of c m))))
      (part_same (λ (y : View). y.root) x.view w v (finder_stays c u.root (λ z t. rooted_held (sym (G.rooting.finder w t) ∙ (ap G.spot (sym z) ∙ at))))) refl G.below G.listing G.rooting

  taken_ready : (c : ℕ) (cargo : Cargo) → Contains u.ready c → words.With x G w less pr (slot_taken (Cell c) cargo u) x (λ s k. GoesTo G.spot G.wait s k c Nowhere)
  taken_ready c cargo has =
      let v : View = with_progress pr (slot_taken (Cell c) cargo u) in
      let at : G.spot c ≡ Readied w = (G.listing.readies w).of c has in
      seen_so (λ s k. GoesTo G.spot G.wait s k c Nowhere) v c cargo.carried.wait (put G.spot c Nowhere) (put (readies x.view) w v.ready) (finders x.view) (λ d. refl, λ d. refl)
      (λ q. absurd (nowhere_held (sym (put_here G.spot c Nowhere) ∙ q))) refl (part_eq (λ (y : View). y.ready) x.view w v)
      (part_same (λ (y : View). y.root) x.view w v (finder_stays c u.root (λ z t. rooted_readied (sym (G.rooting.finder w t) ∙ (ap G.spot (sym z) ∙ at))))) refl
      (below_put x.cells G.spot c Nowhere (G.below c (λ q. nowhere_readied (sym q ∙ at))) G.below)
      (singles.take_ready x.workers G.spot G.wait x.next (counters x.owner) x.state (hands x.view) (readies x.view) G.listing w c at)
      (root_same G.spot (put G.spot c Nowhere) x.root (finders x.view) (root_put G.spot c Nowhere (λ o q. rooted_readied (sym q ∙ at)) (λ o q. rooted_nowhere (sym q))) G.rooting)

  -- the root's, by who found Root
  taken_root : (c : ℕ) (cargo : Cargo) → c ≡ 0 → u.root ≡ true → words.With x G w less pr (slot_taken (Cell c) cargo u) x (λ s k. GoesTo G.spot G.wait s k c Nowhere)
  taken_root c cargo first found =
      let at : G.spot 0 ≡ Rooted (Some w) = G.rooting.finder w found in
      let v : View = with_progress pr (slot_taken (Cell 0) cargo u) in
      let spot' : ℕ → Spot = put G.spot 0 Nowhere in
      let gone : (o : Option ℕ) → spot' 0 ≡ Rooted o → ⊥ = λ o q. rooted_nowhere (sym q ∙ put_here G.spot 0 Nowhere) in
      let only : (q : ℕ) → (x.view q).root ≡ true → q ≢ w → ⊥ = λ q e n. let t : Rooted (Some q) ≡ Rooted (Some w) = sym (G.rooting.finder q e) ∙ at in n (one_of q t) in
      subst (λ (d : ℕ). words.With x G w less pr (slot_taken (Cell d) cargo u) x (λ s k. GoesTo G.spot G.wait s k d Nowhere)) (sym first)
      (seen_so (λ s k. GoesTo G.spot G.wait s k 0 Nowhere) v 0 cargo.carried.wait spot' (readies x.view) (put (finders x.view) w v.root) (λ d. refl, λ d. refl)
      (λ q. absurd (nowhere_held (sym (put_here G.spot 0 Nowhere) ∙ q))) refl
      (part_same (λ (y : View). y.ready) x.view w v (no_number 0 u.ready (λ m. rooted_readied (sym at ∙ (G.listing.readies w).of 0 m))))
      (part_eq (λ (y : View). y.root) x.view w v) refl
      (below_put x.cells G.spot 0 Nowhere (G.below 0 (λ q. rooted_nowhere (sym at ∙ q))) G.below)
      (singles.change_root x.workers G.spot G.wait x.next (counters x.owner) x.state (hands x.view) (readies x.view) G.listing Nowhere (Some w) at (λ f k q. nowhere_listed q) (λ q m. m) (λ q m k z. nowhere_behind z) (λ q z. nowhere_readied z))
      (record {
        untaken = λ e. let t : Rooted None ≡ Rooted (Some w) = sym (G.rooting.untaken e) ∙ at in let no : ⊥ = cc in absurd no;
        taken = λ e. absurd (gone None e);
        finder = λ q e. ⊎_elim
            (λ (h : (q ≡ w) × (v.root ≡ true)). let t = and_false u.root in let no : ⊥ = cc in absurd no)
            (λ (h : (q ≢ w) × ((x.view q).root ≡ true)). absurd (only q h.1 h.0)) (put_case (finders x.view) w v.root q true e);
        finds = λ q e. absurd (gone (Some q) e);
      }))
    where
      one_of : (q : ℕ) → Rooted (Some q) ≡ Rooted (Some w) → q ≡ w
      one_of q t = let s : Some q ≡ Some w = cc in cc

  taken_by : (c : ℕ) (cargo : Cargo) → (HasInHand u c → ⊥) → MayTake u (Cell c) → words.With x G w less pr (slot_taken (Cell c) cargo u) x (λ s k. GoesTo G.spot G.wait s k c Nowhere)
  taken_by c cargo none (inl has) = taken_ready c cargo has
  taken_by c cargo none (inr (inl has)) = absurd (none has.0)
  taken_by c cargo none (inr (inr root)) = taken_root c cargo root.0 root.1

  abbrev Takes : Bool → ℕ → Option Chain → Cargo → Type 0
  Takes b c chain cargo = words.With x G w less pr (took (Cell c) chain cargo u) x (λ s k. GoesTaken G.spot G.wait s k b chain c)

  taken_none : (b : Bool) (c : ℕ) (cargo : Cargo) → Takes b c None cargo
  taken_none true c cargo = quiet_view x G w (with_progress pr u) (refl, refl, refl, refl)
  taken_none false c cargo = quiet_view x G w (with_progress pr u) (refl, refl, refl, refl)

  pub taken : (c : ℕ) (chain : Option Chain) (cargo : Cargo) → MayTake u (Cell c) → (G.spot c ≡ Held w → cargo.carried.wait ≡ G.wait c) → Takes (in_hand c u.hand) c chain cargo
  taken c None cargo may known = taken_none (in_hand c u.hand) c cargo
  taken c (Some chain) cargo may known = ⊎_elim
      (λ h. subst (λ (b : Bool). Takes b c (Some chain) cargo) (sym h.1) (taken_held c cargo h.0 known))
      (λ h. subst (λ (b : Bool). Takes b c (Some chain) cargo) (sym h.1) (taken_by c cargo h.0 may)) (hand_case c u.hand)

  -- ---- a chain is put

  abbrev Puts : Bool → View → ℕ → Waiting → Type 0
  Puts b v c k = words.With x G w less pr v x (λ s j. GoesPut G.spot G.wait s j b w c k)

  -- the number comes into the hand
  came : (v : View) (c : ℕ) (k : Waiting) → c < x.cells → G.spot c ≡ Nowhere → v.hand ≡ entry_of c k ∷ u.hand → v.ready ≡ u.ready → v.root ≡ u.root → v.cells ≡ u.cells → words.With x G w less pr v x (λ s j. ComesInto G.spot G.wait s j w c k)
  came v c k below e a b r d =
      let v' : View = with_progress pr v in
      let anew = singles.waits_anew x.workers G.spot G.wait x.next (counters x.owner) x.state (hands x.view) (readies x.view) G.listing c k e in
      rebuilt x.workers x.cells x.owner x.state x.next x.root x.view G w v' (λ s j. ComesInto G.spot G.wait s j w c k) x.owner x.state x.next x.root (put G.spot c (Held w)) (put G.wait c k) (put (hands x.view) w v.hand) (readies x.view) (finders x.view) (λ f. refl, λ f. refl) d
      (part_eq (λ (y : View). y.hand) x.view w v') (part_same (λ (y : View). y.ready) x.view w v' b) (part_same (λ (y : View). y.root) x.view w v' r)
      (below_put x.cells G.spot c (Held w) below G.below)
      (subst (λ (h : List Waiter). Listing x.workers (put G.spot c (Held w)) (put G.wait c k) x.next (counters x.owner) x.state (put (hands x.view) w h) (readies x.view)) (sym a)
      (subst (λ (t : Waiting). Listing x.workers (put G.spot c (Held w)) (put G.wait c k) x.next (counters x.owner) x.state (put (hands x.view) w (entry_of c t ∷ u.hand)) (readies x.view)) (put_here G.wait c k)
      (singles.into_hand x.workers G.spot (put G.wait c k) x.next (counters x.owner) x.state (hands x.view) (readies x.view) anew w c less e)))
      (root_same G.spot (put G.spot c (Held w)) x.root (finders x.view) (root_put G.spot c (Held w) (λ o q. rooted_nowhere (sym q ∙ e)) (λ o q. rooted_held (sym q))) G.rooting)

  came_by : (k : Waiting) (v : View) (c : ℕ) → c < x.cells → G.spot c ≡ Nowhere → in_hand c u.hand ≡ false → v.hand ≡ waiter_of c k u.hand → v.ready ≡ u.ready → v.root ≡ u.root → v.cells ≡ u.cells → Puts false v c k
  came_by (waits.Touch f) v c below e none a b r d = came v c (waits.Touch f) below e (a ∙ ap (λ (t : Bool). cond t u.hand (entry_of c (waits.Touch f) ∷ u.hand)) none) b r d
  came_by (waits.Join f n) v c below e none a b r d = came v c (waits.Join f n) below e (a ∙ ap (λ (t : Bool). cond t u.hand (entry_of c (waits.Join f n) ∷ u.hand)) none) b r d
  came_by waits.Start v c below e none a b r d = quiet_view x G w (with_progress pr v) (a, b, r, d)
  came_by waits.Ready v c below e none a b r d = quiet_view x G w (with_progress pr v) (a, b, r, d)
  came_by waits.Trapped v c below e none a b r d = quiet_view x G w (with_progress pr v) (a, b, r, d)

  pub put_so : (v : View) (c : ℕ) (k : Waiting) → c < x.cells → ((HasInHand u c → ⊥) → G.spot c ≡ Nowhere) → v.hand ≡ waiter_of c k u.hand → v.ready ≡ u.ready → v.root ≡ u.root → v.cells ≡ u.cells → Puts (in_hand c u.hand) v c k
  put_so v c k below known a b r d = ⊎_elim
      (λ h. subst (λ (t : Bool). Puts t v c k) (sym h.1) (quiet_view x G w (with_progress pr v) (a ∙ waiter_there c k u.hand h.1, b, r, d)))
      (λ h. subst (λ (t : Bool). Puts t v c k) (sym h.1) (came_by k v c below (known h.0) h.1 a b r d)) (hand_case c u.hand)

  -- ---- a Standing word is stored

  pub stood_so : (c n : ℕ) (b r : Bool) → (b ≡ true → IsLast u c) → words.With x G w less pr (made_ready b c (made_running r c (record u { chains = with_standing c n u.chains }))) x (λ s k. GoesReady G.spot G.wait s k b w c)
  stood_so c n true r last =
      let v : View = made_running r c (record u { chains = with_standing c n u.chains }) in
      let same = same_running r c (record u { chains = with_standing c n u.chains }) in
      words.readied x G w less pr (made_ready true c v) c (last refl) (ap (without_waiter c) same.0) (ap (λ (l : List ℕ). c ∷ l) same.1) same.2 same.3
  stood_so c n false r last = quiet_view x G w (with_progress pr (made_running r c (record u { chains = with_standing c n u.chains }))) (same_running r c (record u { chains = with_standing c n u.chains }))
