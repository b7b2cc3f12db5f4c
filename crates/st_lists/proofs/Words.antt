-- Steps of the words Owner, Next, Standing and Root, each with the view after it.
use Rattle.std.proofs.Common.{◌≡◌, ◌≢◌, ⊎_elim, ℕ, zero, suc, ◌<◌, Bool, true, false, List, [], ◌∷◌, Option, Some, None, refl, sym, ap, ◌∙◌, subst, arith, ◌==◌, eq-eqb, ne_eqb}
use Rattle.std.specs.List.{Contains}
use Rattle.std.specs.Int.{from_bool}
use mathlib.Core.Logic.{dite}
use native.Mathlib.Decide.{ℕ_discrete}
use Rattle.st_base.specs.declared.chain.Waiting.{Waiting}
use Rattle.st_words.specs.declared.view.CellWord.TheVariants.{Owner, Next}
use Rattle.st_words.specs.declared.view.Waiter.{Waiter}
use Rattle.st_words.specs.declared.view.View.{View}
use Rattle.st_words.specs.Encodings.{is_counter}
use Rattle.st_words.specs.Views.{Progress, with_progress, with_next, linked, without_waiter, cell_stored, root_tried, note_loaded, cell_seen}
use Rattle.st_words.specs.declared.view.Loaded.TheVariants as loads
use Rattle.st_world.specs.Functions.{put}
use Rattle.st_world.specs.World.{World, seen, with_word}
use Rattle.st_world.proofs.Functions.{put_here, put_case, put_all}
use Rattle.st_spots.specs.Listing.{Spot, Nowhere, Listed, Held, Behind, Readied, Rooted, IsList, IsOpen, head_by, HandHas, Listing, Lists, hands, readies, finders, counters}
use Rattle.st_lists.specs.Going.{Stays, GoesTo, Passes, GoesRooted}
use Rattle.st_lists.specs.Laws.{IsLast, Having}
use Rattle.st_spots.proofs.Apart.{behind_held, rooted_listed, rooted_behind, rooted_readied}
use Rattle.st_spots.proofs.Lists.{handed, head_zero}
use Rattle.st_spots.proofs.Ranks.{ranked, ranked_here, ranked_only}
use Rattle.st_spots.proofs.Handing as handing
use Rattle.st_spots.proofs.Nexts.{Leads}
use Rattle.st_spots.proofs.Fills as fills
use Rattle.st_spots.proofs.Follows as follows
use Rattle.st_lists.proofs.Passing as passing
use Rattle.st_spots.proofs.Singles as singles
use Rattle.st_spots.proofs.InHands.{once_same, leader_case}
use Rattle.st_lists.proofs.Wholes.{part_eq, part_same, rebuilt, SameRoot, root_same, root_put, below_put, quiet_view}

-- ---- a list is handed out

module _ (at : ℕ → Spot) (rank : Spot → Option ℕ) (here : (k : ℕ) → rank (at k) ≡ Some k) (only : (s : Spot) (k : ℕ) → rank s ≡ Some k → s ≡ at k) (n w e : ℕ) (not_rooted : (o : Option ℕ) (k : ℕ) → Rooted o ≢ at k) (not_nowhere : (k : ℕ) → Nowhere ≢ at k) where
  pub handed_root : (s : Spot) → SameRoot s (handed rank n w e s)
  handed_root s o = (λ q. handing.keeps at rank here only n w e s (Rooted o) q (not_rooted o), λ q. handing.back at rank here only n w e s (Rooted o) q (λ z. let no : ⊥ = cc in no) (λ k z. let no : ⊥ = cc in no))

  pub handed_below : (cells : ℕ) (spot : ℕ → Spot) → ((d : ℕ) → spot d ≢ Nowhere → d < cells) → (d : ℕ) → handed rank n w e (spot d) ≢ Nowhere → d < cells
  handed_below cells spot h d m = h d (λ z. m (handing.keeps at rank here only n w e (spot d) Nowhere z not_nowhere))

module _ (x : World) (G : Lists x) (w : ℕ) (less : w < x.workers) (pr : Progress) where
  abbrev u : View
  u = x.view w

  -- what a step leaves, with the view after it, and P holds of where the numbers are then
  abbrev pub With : View → World → ((ℕ → Spot) → (ℕ → Waiting) → Type 0) → Type 0
  With v y P = Having (seen w (with_progress pr v) y) P

  abbrev Reads : View → Type 0
  Reads v = With v x (λ s k. Passes G.spot G.wait s k w u)

  -- in the hand of the worker
  pub held_at : (c : ℕ) → HandHas u.hand c → G.spot c ≡ Held w
  held_at c h = subst (λ (z : ℕ). G.spot z ≡ Held w) h.2 ((G.listing.hands w).entries h.0 h.1).held

  pub held_below : (c : ℕ) → HandHas u.hand c → c < x.cells
  held_below c h = let e = held_at c h in G.below c (λ z. let no : ⊥ = cc in no)

  pub last_all : (c : ℕ) → IsLast u c → (y : Waiter) → Contains u.hand y → y.cell ≡ c → y.leads ≡ false
  last_all c i y m e = ap (λ (t : Waiter). t.leads) (once_same u.hand y i.0 (G.listing.hands w).once m i.1 (e ∙ sym i.2)) ∙ i.3

  -- ---- a Next word is read

  next_none : (v : View) (c : ℕ) (l : Waiter) → Leads u.hand c l → x.next c ≡ 0 → v.hand ≡ with_next c 0 u.hand → v.ready ≡ u.ready → v.root ≡ u.root → v.cells ≡ u.cells → Reads v
  next_none v c l lead z a b d e = rebuilt x.workers x.cells x.owner x.state x.next x.root x.view G w (with_progress pr v) (λ s k. Passes G.spot G.wait s k w u) x.owner x.state x.next x.root G.spot G.wait (put (hands x.view) w v.hand) (readies x.view) (finders x.view) (passing.stays_pass G.spot G.wait w u G.spot G.wait (λ d. refl, λ d. refl)) e
      (part_eq (λ (y : View). y.hand) x.view w (with_progress pr v)) (part_same (λ (y : View). y.ready) x.view w (with_progress pr v) b) (part_same (λ (y : View). y.root) x.view w (with_progress pr v) d) G.below
      (subst (λ (h : List Waiter). Listing x.workers G.spot G.wait x.next (counters x.owner) x.state (put (hands x.view) w h) (readies x.view)) (sym a) (follows.follow_none x.workers G.spot G.wait x.next (counters x.owner) x.state (hands x.view) (readies x.view) G.listing w c l lead z)) G.rooting

  next_some : (v : View) (c e : ℕ) (l : Waiter) → Leads u.hand c l → x.next c ≡ suc e → v.hand ≡ with_next c (suc e) u.hand → v.ready ≡ u.ready → v.root ≡ u.root → v.cells ≡ u.cells → Reads v
  next_some v c e l lead z a b d f =
      let t = follows.follow x.workers G.spot G.wait x.next (counters x.owner) x.state (hands x.view) (readies x.view) G.listing w c e l less lead z in
      let spot' : ℕ → Spot = λ d. handed (ranked w c) t.0 w e (G.spot d) in
      rebuilt x.workers x.cells x.owner x.state x.next x.root x.view G w (with_progress pr v) (λ s k. Passes G.spot G.wait s k w u) x.owner x.state x.next x.root spot' G.wait (put (hands x.view) w v.hand) (readies x.view) (finders x.view)
      (passing.handing_passes G.spot G.wait w u (Behind w c) (ranked w c) (ranked_here w c) (ranked_only w c) t.0 w e (λ k. tt) (λ i k q. behind_held q)) f
      (part_eq (λ (y : View). y.hand) x.view w (with_progress pr v)) (part_same (λ (y : View). y.ready) x.view w (with_progress pr v) b) (part_same (λ (y : View). y.root) x.view w (with_progress pr v) d)
      (handed_below (Behind w c) (ranked w c) (ranked_here w c) (ranked_only w c) t.0 w e (λ o k q. rooted_behind q) (λ k q. let no : ⊥ = cc in no) x.cells G.spot G.below)
      (subst (λ (h : List Waiter). Listing x.workers spot' G.wait x.next (counters x.owner) x.state (put (hands x.view) w h) (readies x.view)) (sym a) t.1)
      (root_same G.spot spot' x.root (finders x.view) (handed_root (Behind w c) (ranked w c) (ranked_here w c) (ranked_only w c) t.0 w e (λ o k q. rooted_behind q) (λ k q. let no : ⊥ = cc in no) (G.spot 0)) G.rooting)

  next_by : (v : View) (c n : ℕ) (l : Waiter) → Leads u.hand c l → x.next c ≡ n → v.hand ≡ with_next c n u.hand → v.ready ≡ u.ready → v.root ≡ u.root → v.cells ≡ u.cells → Reads v
  next_by v c zero l lead z a b d e = next_none v c l lead z a b d e
  next_by v c (suc n) l lead z a b d e = next_some v c n l lead z a b d e

  pub next_read : (c n : ℕ) → n ≡ x.next c → Reads (note_loaded (loads.Cell c Next) n (cell_seen c Next n u))
  next_read c n f = ⊎_elim
      (λ l. next_by (note_loaded (loads.Cell c Next) n (cell_seen c Next n u)) c n l.0 l.1 (sym f) refl refl refl refl)
      (λ s. let q = quiet_view x G w (with_progress pr (note_loaded (loads.Cell c Next) n (cell_seen c Next n u))) (s n, refl, refl, refl) in (q.0, passing.stays_pass G.spot G.wait w u q.0.spot q.0.wait q.1))
      (leader_case c u.hand)

  -- ---- a Next word is stored

  pub next_stored : (c n : ℕ) → IsLast u c → With (cell_stored c Next n u) (with_word c Next n x) (λ s k. Stays G.spot G.wait s k)
  next_stored c n i =
      let v : View = with_progress pr (cell_stored c Next n u) in
      rebuilt x.workers x.cells x.owner x.state x.next x.root x.view G w v (λ s k. Stays G.spot G.wait s k) x.owner x.state (put x.next c n) x.root G.spot G.wait (put (hands x.view) w (linked c n u.hand)) (readies x.view) (finders x.view) (λ d. refl, λ d. refl) refl
      (part_eq (λ (y : View). y.hand) x.view w v) (part_same (λ (y : View). y.ready) x.view w v refl) (part_same (λ (y : View). y.root) x.view w v refl) G.below
      (singles.set_next x.workers G.spot G.wait x.next (counters x.owner) x.state (hands x.view) (readies x.view) G.listing w c n (i.0, i.1, i.2) (last_all c i)) G.rooting

  -- ---- a number becomes ready

  pub readied : (v : View) (c : ℕ) → IsLast u c → v.hand ≡ without_waiter c u.hand → v.ready ≡ c ∷ u.ready → v.root ≡ u.root → v.cells ≡ u.cells → With v x (λ s k. GoesTo G.spot G.wait s k c (Readied w))
  readied v c i a b d e =
      let has : HandHas u.hand c = (i.0, i.1, i.2) in
      let at = held_at c has in
      rebuilt x.workers x.cells x.owner x.state x.next x.root x.view G w (with_progress pr v) (λ s k. GoesTo G.spot G.wait s k c (Readied w)) x.owner x.state x.next x.root (put G.spot c (Readied w)) G.wait (put (hands x.view) w v.hand) (put (readies x.view) w v.ready) (finders x.view) (λ f. refl, λ f. refl) e
      (part_eq (λ (y : View). y.hand) x.view w (with_progress pr v)) (part_eq (λ (y : View). y.ready) x.view w (with_progress pr v)) (part_same (λ (y : View). y.root) x.view w (with_progress pr v) d)
      (below_put x.cells G.spot c (Readied w) (held_below c has) G.below)
      (subst (λ (h : List Waiter). Listing x.workers (put G.spot c (Readied w)) G.wait x.next (counters x.owner) x.state (put (hands x.view) w h) (put (readies x.view) w v.ready)) (sym a)
      (subst (λ (r : List ℕ). Listing x.workers (put G.spot c (Readied w)) G.wait x.next (counters x.owner) x.state (put (hands x.view) w (without_waiter c u.hand)) (put (readies x.view) w r)) (sym b)
      (singles.make_ready x.workers G.spot G.wait x.next (counters x.owner) x.state (hands x.view) (readies x.view) G.listing w c has (last_all c i))))
      (root_same G.spot (put G.spot c (Readied w)) x.root (finders x.view) (root_put G.spot c (Readied w) (λ o z. let no : ⊥ = cc in no) (λ o z. let no : ⊥ = cc in no)) G.rooting)

  -- ---- a cell is named

  named_list : (c n : ℕ) → x.state c ≡ 0 → Listing x.workers G.spot G.wait x.next (counters (put x.owner c n)) x.state (hands x.view) (readies x.view)
  named_list c n z =
      let empty : (b : Bool) → head_by b (x.state c) ≡ 0 = λ b. ap (head_by b) z ∙ head_zero b in
      let nobody = fills.none_waits x.workers G.spot G.wait x.next (counters x.owner) x.state (hands x.view) (readies x.view) G.listing c (empty (counters x.owner c)) in
      record {
        lists = λ f. put_all (λ (g : ℕ) (o : ℕ). IsList x.next G.spot (Listed g) (head_by (is_counter o) (x.state g))) x.owner c n f
            (λ (q : f ≡ c). subst (λ (g : ℕ). IsList x.next G.spot (Listed g) (head_by (is_counter n) (x.state g))) (sym q) ([], empty (is_counter n), λ d k e. nobody d k e))
            (λ (q : f ≢ c). G.listing.lists f);
        waiting = λ d f k e. put_all (λ (g : ℕ) (o : ℕ). G.spot d ≡ Listed g k → IsOpen (is_counter o) (x.state g) g (G.wait d)) x.owner c n f
            (λ (q : f ≡ c) h. absurd (nobody d k (subst (λ (g : ℕ). G.spot d ≡ Listed g k) q h)))
            (λ (q : f ≢ c) h. G.listing.waiting d f k h) e;
        hands = G.listing.hands;
        behind = G.listing.behind;
        readies = G.listing.readies;
      }

  pub named : (c n : ℕ) → x.state c ≡ 0 → With (cell_stored c Owner n u) (with_word c Owner n x) (λ s k. Stays G.spot G.wait s k)
  named c n z =
      let v : View = with_progress pr (cell_stored c Owner n u) in
      rebuilt x.workers x.cells x.owner x.state x.next x.root x.view G w v (λ s k. Stays G.spot G.wait s k) (put x.owner c n) x.state x.next x.root G.spot G.wait (hands x.view) (readies x.view) (finders x.view) (λ d. refl, λ d. refl) refl
      (part_same (λ (y : View). y.hand) x.view w v refl) (part_same (λ (y : View). y.ready) x.view w v refl) (part_same (λ (y : View). y.root) x.view w v refl) G.below (named_list c n z) G.rooting

  -- ---- the Root word

  abbrev Roots : ℕ → Type 0
  Roots n = With (root_tried n u) (record x { root = 0 }) (λ s k. GoesRooted G.spot G.wait s k w n)

  root_found : (n : ℕ) → n ≡ 1 → x.root ≡ 1 → Roots n
  root_found n one z =
      let v : View = with_progress pr (record u { root = true }) in
      let at : G.spot 0 ≡ Rooted None = G.rooting.untaken z in
      let spot' : ℕ → Spot = put G.spot 0 (Rooted (Some w)) in
      let now : spot' 0 ≡ Rooted (Some w) = put_here G.spot 0 (Rooted (Some w)) in
      let found : ℕ → Bool = put (finders x.view) w true in
      let mine : found w ≡ true = put_here (finders x.view) w true in
      subst (λ (k : ℕ). Roots k) (sym one)
      (rebuilt x.workers x.cells x.owner x.state x.next x.root x.view G w v (λ s k. GoesRooted G.spot G.wait s k w 1) x.owner x.state x.next 0 spot' G.wait (hands x.view) (readies x.view) found (λ d. refl, λ d. refl) refl
      (part_same (λ (y : View). y.hand) x.view w v refl) (part_same (λ (y : View). y.ready) x.view w v refl) (part_eq (λ (y : View). y.root) x.view w v)
      (below_put x.cells G.spot 0 (Rooted (Some w)) (G.below 0 (λ q. let no : ⊥ = cc in no)) G.below)
      (singles.change_root x.workers G.spot G.wait x.next (counters x.owner) x.state (hands x.view) (readies x.view) G.listing (Rooted (Some w)) None at (λ f k q. rooted_listed q) (λ q m. m) (λ q m k z. rooted_behind z) (λ q z. rooted_readied z))
      (record {
        untaken = λ e. let no : ⊥ = omega (arith, e) in absurd no;
        taken = λ e. let no : ⊥ = cc in absurd no;
        finder = λ q e. ⊎_elim (λ (h : (q ≡ w) × (true ≡ true)). now ∙ ap (λ (k : ℕ). Rooted (Some k)) (sym h.0)) (λ (h : (q ≢ w) × ((x.view q).root ≡ true)). let k = G.rooting.finder q h.1 in let no : ⊥ = cc in absurd no) (put_case (finders x.view) w true q true e);
        finds = λ q e. let s : q ≡ w = (let t : Rooted (Some w) ≡ Rooted (Some q) = sym now ∙ e in one_of q t) in ap found s ∙ mine;
      }))
    where
      one_of : (q : ℕ) → Rooted (Some w) ≡ Rooted (Some q) → q ≡ w
      one_of q t = let s : w ≡ q = cc in sym s

  root_gone : (n : ℕ) → n ≡ 0 → x.root ≢ 1 → Roots n
  root_gone n none z =
      let v : View = with_progress pr u in
      subst (λ (k : ℕ). Roots k) (sym none)
      (rebuilt x.workers x.cells x.owner x.state x.next x.root x.view G w v (λ s k. GoesRooted G.spot G.wait s k w 0) x.owner x.state x.next 0 G.spot G.wait (hands x.view) (readies x.view) (finders x.view) (λ d. refl, λ d. refl) refl
      (part_same (λ (y : View). y.hand) x.view w v refl) (part_same (λ (y : View). y.ready) x.view w v refl) (part_same (λ (y : View). y.root) x.view w v refl) G.below G.listing
      (record {
        untaken = λ e. let no : ⊥ = omega (arith, e) in absurd no;
        taken = λ e. absurd (z (G.rooting.taken e));
        finder = G.rooting.finder;
        finds = G.rooting.finds;
      }))

  pub root_taken : (n : ℕ) → n ≡ from_bool (x.root == 1) → Roots n
  root_taken n f = dite (ℕ_discrete x.root 1)
      (λ (e : x.root ≡ 1). root_found n (f ∙ ap (λ (b : Bool). from_bool b) (eq-eqb x.root 1 e)) e)
      (λ (d : x.root ≢ 1). root_gone n (f ∙ ap (λ (b : Bool). from_bool b) (ne_eqb x.root 1 d)) d)
