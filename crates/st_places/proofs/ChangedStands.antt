-- A Standing word is stored: stand_kept. A child or a chain goes on, a chain waits or has stopped, a waiter becomes ready, or a thread has ended.
use Rattle.std.proofs.Common.{◌≡◌, ◌≢◌, ◌⊎◌, inl, inr, ⊎_elim, ℕ, Bool, true, false, cond, ◌&&◌, List, Option, Some, None, refl, sym, ap, ◌∙◌, subst, arith, ◌==◌, eq-eqb, ne_eqb}
use Rattle.std.specs.List.{Contains}
use Rattle.st_base.specs.declared.chain.Waiting.{Waiting}
use Rattle.st_base.specs.declared.chain.Waiting.TheVariants as waits
use Rattle.st_words.specs.declared.view.CellWord.TheVariants.{Standing}
use Rattle.st_words.specs.declared.view.Carried.{Carried}
use Rattle.st_words.specs.declared.view.Cargo.{Cargo}
use Rattle.st_words.specs.declared.view.Child.{Child}
use Rattle.st_words.specs.declared.view.View.{View}
use Rattle.st_words.specs.Encodings.{running, waits_word, ready}
use Rattle.st_words.specs.Steps.{CellStore, IsChild}
use Rattle.st_words.specs.Promises.{IsGoingOn}
use Rattle.st_words.specs.Plain.{readied}
use Rattle.st_words.specs.Careful.{Meaning, InTurn, Stores, Readies, standing_of}
use Rattle.st_words.specs.Views.{Progress, with_progress, in_hand, with_standing, child_stands, made_ready, made_running, stood}
use Rattle.st_words.proofs.Puts.{has_in_hand}
use Rattle.st_world.specs.Functions.{put}
use Rattle.st_world.specs.World.{World, seen, waking}
use Rattle.st_world.proofs.Functions.{put_here, put_other}
use Rattle.st_spots.specs.Listing.{Spot, Nowhere, Held, Readied, Lists, counters}
use Rattle.st_lists.specs.Going.{Stays, GoesReady}
use Rattle.st_seats.specs.Placing.{Place, Gone, Named, Home, IsOver, Rests, WaitsFor, IsTurnSpot, Places, cells_of, chain_cells}
use Rattle.st_seats.specs.Placing as placing
use Rattle.st_places.specs.Steps.{IsKnown}
use Rattle.st_seats.proofs.MovedLists.{map_only}
use Rattle.st_seats.proofs.Seats.{Placed, Holds, HoldsHome, ThreadAt, turn_there, turn_spot, child_there, held_home, in_slot, Turn}
use Rattle.st_places.proofs.ChangedWords.{made_cells, IsSeat, place_gone, anew_kept}

-- ---- children

abbrev stood_child : Bool → ℕ → Option Child → Option Child
stood_child true c o = child_stands c o
stood_child false c o = o

-- the same cell
abbrev SameChild : Option Child → Option Child → Type 0
SameChild o o' = ((z : Child) → o' ≡ Some z → (y : Child) × (o ≡ Some y) × (y.cell ≡ z.cell)) × ((y : Child) → o ≡ Some y → (z : Child) × (o' ≡ Some z) × (z.cell ≡ y.cell))

stands_same : (b : Bool) (y : Child) → SameChild (Some y) (cond b (Some (record y { stands = true })) (Some y))
stands_same true y = (λ z e. (y, refl, stood_cell z e), λ z e. let s : y ≡ z = cc in (record y { stands = true }, refl, ap (λ (k : Child). k.cell) s))
  where
    stood_cell : (z : Child) → Some (record y { stands = true }) ≡ Some z → y.cell ≡ z.cell
    stood_cell z e = let s : record y { stands = true } ≡ z = cc in ap (λ (k : Child). k.cell) s
stands_same false y = (λ z e. (z, e, refl), λ z e. (z, e, refl))

child_same : (r : Bool) (c : ℕ) (o : Option Child) → SameChild o (stood_child r c o)
child_same false c o = (λ z e. (z, e, refl), λ z e. (z, e, refl))
child_same true c None = (λ z e. let no : ⊥ = cc in absurd no, λ z e. let no : ⊥ = cc in absurd no)
child_same true c (Some y) = stands_same (y.cell == c) y

stands_other : (b : Bool) (y z : Child) → b ≡ false → cond b (Some (record y { stands = true })) (Some y) ≡ Some z → Some y ≡ Some z
stands_other true y z f e = let no : ⊥ = cc in absurd no
stands_other false y z f e = e

child_other : (r : Bool) (c : ℕ) (o : Option Child) (z : Child) → stood_child r c o ≡ Some z → z.cell ≢ c → o ≡ Some z
child_other false c o z e n = e
child_other true c None z e n = e
child_other true c (Some y) z e n =
    let s = (stands_same (y.cell == c) y).0 z e in
    let t : y ≡ s.0 = cc in
    stands_other (y.cell == c) y z (ne_eqb y.cell c (λ q. n (sym s.2 ∙ (ap (λ (k : Child). k.cell) (sym t) ∙ q)))) e

-- ---- words

-- a chain that waits or has stopped doesn't go on
not_going : (k : Waiting) (n : ℕ) → standing_of k ≡ Some n → (n ≢ running) × (n ≢ ready)
not_going waits.Start n e = let no : ⊥ = cc in absurd no
not_going waits.Ready n e = let no : ⊥ = cc in absurd no
not_going (waits.Touch c) n e = let s : 2 ≡ n = cc in (λ z. omega (arith, s, z), λ z. omega (arith, s, z))
not_going (waits.Join c least) n e = let s : 2 ≡ n = cc in (λ z. omega (arith, s, z), λ z. omega (arith, s, z))
not_going waits.Trapped n e = let s : 4 ≡ n = cc in (λ z. omega (arith, s, z), λ z. omega (arith, s, z))

word_going : (n : ℕ) → (Some n ≡ Some running) ⊎ (Some n ≡ Some ready) → (n ≢ running) × (n ≢ ready) → ⊥
word_going n (inl e) d = let s : n ≡ running = cc in d.0 s
word_going n (inr e) d = let s : n ≡ ready = cc in d.1 s

going_not_waiting : (z : Carried) → IsGoingOn z → z.standing ≢ Some waits_word
going_not_waiting z (inl e) q = let no : ⊥ = cc in no
going_not_waiting z (inr e) q = let no : ⊥ = cc in no

module _ (x : World) (l : Lists x) (P : Places x l) (w : ℕ) (pr : Progress) (spot' : ℕ → Spot) (wait' : ℕ → Waiting) where
  abbrev u : View
  u = x.view w

  module _ (c n : ℕ) (same : cells_of pr.threads ≡ cells_of u.threads) where
    abbrev stand : Carried → Carried
    stand z = record z { standing = Some n }

    abbrev stood_view : Bool → Bool → View
    stood_view b r = with_progress pr (made_ready b c (made_running r c (record u { chains = with_standing c n u.chains })))

    stood_parts : (b r : Bool) → ((stood_view b r).chains ≡ with_standing c n u.chains) × ((stood_view b r).child ≡ stood_child r c u.child) × ((stood_view b r).filled ≡ u.filled) × ((stood_view b r).threads ≡ pr.threads)
    stood_parts true true = (refl, refl, refl, refl)
    stood_parts true false = (refl, refl, refl, refl)
    stood_parts false true = (refl, refl, refl, refl)
    stood_parts false false = (refl, refl, refl, refl)

    abbrev stood_world : (ℕ → Cargo) → World
    stood_world cargo' = record x { standing = put x.standing c n; home_cargo = cargo' }

    module _ (b r : Bool) (cargo' : ℕ → Cargo) where
      abbrev v : View
      v = stood_view b r

      abbrev now : World
      now = seen w v (stood_world cargo')

      still_child : (d : ℕ) → IsChild u d → IsChild v d
      still_child d h = let s = (child_same r c u.child).1 h.0 h.1 in (s.0, (stood_parts b r).1 ∙ s.1, s.2 ∙ h.2)

      was_child : (z : Child) → v.child ≡ Some z → IsChild u z.cell
      was_child z e = let s = (child_same r c u.child).0 z (sym (stood_parts b r).1 ∙ e) in (s.0, s.1, s.2)

      still_turn : Contains (chain_cells u.chains) c → Contains (chain_cells v.chains) c
      still_turn m = subst (λ (zs : List Carried). Contains (chain_cells zs) c) (sym (stood_parts b r).0) (subst (λ (ds : List ℕ). Contains ds c) (sym (made_cells c stand (λ z. refl) u.chains)) m)

      -- the thread of the cell stays where it is
      pub stood_kept : ((d : ℕ) → d ≢ c → (spot' d ≡ l.spot d) × (cargo' d ≡ x.home_cargo d)) → ((d : ℕ) → wait' d ≡ l.wait d) → IsSeat w (P.place c) → Holds now spot' wait' P.place c (P.place c) → ((z : Carried) → Contains u.chains z → z.known.note.cell ≡ c → Turn now spot' wait' P.place w (stand z)) → (n ≡ running) ⊎ (P.place c ≢ Named w) → Placed now spot' wait'
      stood_kept others waits seat here turn runs =
          let parts = stood_parts b r in
          anew_kept x l P w c v spot' wait' (put x.standing c n) x.trap cargo' stand (λ z. refl) (record {
            others = λ d m. let o = others d m in (o.0, put_other x.standing c n d m, refl, o.1);
            waits = waits;
            chains = parts.0;
            filled = parts.2;
            threads = ap cells_of parts.3 ∙ same;
            seat = seat;
            here = here;
            turn = turn;
            named = still_child;
            child = λ z e s.
                let at : P.place z.cell ≡ Named w = child_there x l.spot l.wait P w z.cell (was_child z e) in
                record { there = at; stands = λ q. ⊎_elim (λ (k : n ≡ running). ap (put x.standing c n) s ∙ (put_here x.standing c n ∙ k)) (λ k. absurd (k (ap P.place (sym s) ∙ at))) runs };
            child_other = λ z e m. child_other r c u.child z (sym parts.1 ∙ e) m;
          })

    -- ---- no waiter becomes ready

    module _ (r : Bool) (g : Stays l.spot l.wait spot' wait') where
      abbrev after : World
      after = seen w (stood_view false r) (stood_world x.home_cargo)

      thread_now : ThreadAt x l.spot l.wait P.place c → ThreadAt after spot' wait' P.place c
      thread_now t = record { below = t.below; named = t.named; future = t.future; unfilled = t.unfilled }

      -- no place but a slot tells of the word
      here_still : (p : Place) → IsSeat w p → p ≢ Home → Holds x l.spot l.wait P.place c p → Holds after spot' wait' P.place c p
      here_still Gone s d h = (h.0, g.0 c ∙ h.1)
      here_still (Named k) s d h = (h.0, g.0 c ∙ h.1, thread_now h.2, subst (λ (y : View). IsChild y c) (sym (ap (put x.view w (stood_view false r)) s ∙ put_here x.view w (stood_view false r))) (still_child false r x.home_cargo c (subst (λ (j : ℕ). IsChild (x.view j) c) s h.3)), h.4)
      here_still (placing.InTurn k) s d h = (h.0, thread_now h.1, subst (λ (y : View). Contains (chain_cells y.chains) c) (sym (ap (put x.view w (stood_view false r)) s ∙ put_here x.view w (stood_view false r))) (still_turn false r x.home_cargo (subst (λ (j : ℕ). Contains (chain_cells (x.view j).chains) c) s h.2)), h.3)
      here_still Home s d h = absurd (d refl)
      here_still p s d h = absurd s

      still_kept : IsSeat w (P.place c) → P.place c ≢ Home → ((z : Carried) → Contains u.chains z → z.known.note.cell ≡ c → (z.standing ≢ Some waits_word) × (IsGoingOn (stand z) → IsGoingOn z)) → (n ≡ running) ⊎ (P.place c ≢ Named w) → Placed after spot' wait'
      still_kept seat away goes runs = stood_kept false r x.home_cargo (λ d m. (g.0 d, refl)) g.1 seat (here_still (P.place c) seat away (P.each c)) (λ z m e.
          let t = (P.views w).turn z m in
          let q = goes z m e in
          let d : ℕ = z.known.note.cell in
          let none : l.spot d ≡ Nowhere = ⊎_elim (λ k. k) (λ (k : l.spot d ≡ Held w). let i = subst (λ (s : Spot). IsTurnSpot w s (l.wait d) z) k t.number in absurd (q.0 i.3)) (turn_spot x l.spot l.wait P w d t.there) in
          record {
            there = t.there;
            number = subst (λ (s : Spot). IsTurnSpot w s (wait' d) (stand z)) (sym (g.0 d ∙ none)) tt;
            stands = λ k i. let s : n ≡ k = cc in ap (put x.standing c n) e ∙ (put_here x.standing c n ∙ s);
            traps = t.traps;
            over = λ i. t.over (q.1 i);
          }) runs

      -- what is so of the chain of the cell is so of each of that number
      one_chain : (Q : Carried → Type 0) (y z : Carried) → Contains u.chains y → y.known.note.cell ≡ c → Contains u.chains z → z.known.note.cell ≡ c → Q y → Q z
      one_chain Q y z m e k f h = subst Q (map_only (λ (j : Carried). j.known.note.cell) u.chains y z (P.views w).chains_once m k (e ∙ sym f)) h

      no_turn : (p : Place) → P.place c ≡ p → p ≢ placing.InTurn w → (z : Carried) → Contains u.chains z → z.known.note.cell ≡ c → ⊥
      no_turn p e d z m f = d (sym e ∙ turn_there x l.spot l.wait P w c (z, m, f))

      begun : n ≡ running → IsChild u c → Placed after spot' wait'
      begun is h =
          let at : P.place c ≡ Named w = child_there x l.spot l.wait P w c h in
          still_kept (subst (IsSeat w) (sym at) refl) (λ z. let no : ⊥ = cc in no) (λ z m e. absurd (no_turn (Named w) at (λ q. let no : ⊥ = cc in no) z m e)) (inl is)

      goes_on : n ≡ running → InTurn u c IsGoingOn → Placed after spot' wait'
      goes_on is h =
          let at : P.place c ≡ placing.InTurn w = turn_there x l.spot l.wait P w c (h.0, h.1, h.2) in
          still_kept (subst (IsSeat w) (sym at) refl) (λ z. let no : ⊥ = cc in no) (λ z m e. let k = one_chain IsGoingOn h.0 z h.1 h.2 m e h.3 in (going_not_waiting z k, λ i. k)) (inl is)

      stops : InTurn u c (λ z. (z.standing ≡ None) × (standing_of z.wait ≡ Some n)) → Placed after spot' wait'
      stops h =
          let at : P.place c ≡ placing.InTurn w = turn_there x l.spot l.wait P w c (h.0, h.1, h.2) in
          still_kept (subst (IsSeat w) (sym at) refl) (λ z. let no : ⊥ = cc in no)
          (λ z m e. let k = one_chain (λ j. (j.standing ≡ None) × (standing_of j.wait ≡ Some n)) h.0 z h.1 h.2 m e h.3 in (λ i. let o = k.0 in let no : ⊥ = cc in no, λ i. absurd (word_going n i (not_going z.wait n k.1))))
          (inr (λ z. let no : ⊥ = cc in no))

      ends : Contains u.filled c → Placed after spot' wait'
      ends m =
          let full = ((P.views w).filled c m).1 in
          let at : P.place c ≡ Gone = place_gone x l P c (λ t. t.unfilled full) in
          still_kept (subst (IsSeat w) (sym at) tt) (λ z. let no : ⊥ = cc in no) (λ z m e. absurd (no_turn Gone at (λ q. let no : ⊥ = cc in no) z m e)) (inr (λ z. let no : ⊥ = cc in no))

    -- ---- a waiter becomes ready

    readies : (m : Meaning) (r : Bool) → Readies m u c n → IsKnown x u (CellStore c Standing n) → GoesReady l.spot l.wait spot' wait' true w c → Placed (seen w (stood_view true r) (stood_world (put x.home_cargo c (readied (x.home_cargo c))))) spot' wait'
    readies m r p known g =
        let cargo' : ℕ → Cargo = put x.home_cargo c (readied (x.home_cargo c)) in
        let Now : World = seen w (stood_view true r) (stood_world cargo') in
        let e = (l.listing.hands w).entries p.1.0 p.1.1 in
        let at : l.spot c ≡ Held w = subst (λ (d : ℕ). l.spot d ≡ Held w) p.1.2 e.held in
        let home : P.place c ≡ Home = held_home x l.spot l.wait P w c at p.2 in
        let h = in_slot x l.spot l.wait P c home in
        let o = h.1.1 in
        let k : Waiting = (x.home_cargo c).carried.wait in
        let j : Waiting = p.1.3.1.0 in
        let Over : Waiting → Type 0 = IsOver (counters x.owner) x.state in
        let waits_for : l.wait c ≡ j = subst (λ (d : ℕ). l.wait d ≡ j) p.1.2 (e.told j p.1.3.1.1) in
        let is : k ≡ j = subst (λ (s : Spot). WaitsFor (l.wait c) s k) at o.waits ∙ waits_for in
        let over : Over k = subst Over (sym is) (known p.0 j p.1.3.1.2) in
        let spot : spot' c ≡ Readied w = g.0 c ∙ put_here l.spot c (Readied w) in
        let word : put x.standing c n c ≡ ready = put_here x.standing c n ∙ p.0 in
        stood_kept true r cargo' (λ d m. (g.0 d ∙ put_other l.spot c (Readied w) d m, put_other x.home_cargo c (readied (x.home_cargo c)) d m)) g.1 (subst (IsSeat w) (sym home) tt)
        (subst (Holds Now spot' wait' P.place c) (sym home) (
          record { below = h.0.below; named = h.0.named; future = h.0.future; unfilled = h.0.unfilled },
          (
            h.1.0,
            subst (HoldsHome Now spot' wait' P.place c h.1.0) (sym (put_here x.home_cargo c (readied (x.home_cargo c)))) (record {
              at = o.at;
              cell = o.cell;
              of = (o.of.0, o.of.1, o.of.2, omega arith);
              rests = subst (λ (s : Spot). Rests Over k c s (put x.standing c n c) 1) (sym spot) (over, word, refl);
              waits = subst (λ (s : Spot). WaitsFor (wait' c) s k) (sym spot) tt;
              stands = ap (λ (q : ℕ). Some q) (sym word);
              traps = o.traps;
            }),
          ),
        ))
        (λ z m f. absurd (p.2 (z, m, f))) (inr (λ z. let no : ⊥ = cc in no))

    -- ---- whatever is stored

    abbrev Stand : Bool → Type 0
    Stand b = GoesReady l.spot l.wait spot' wait' b w c → Placed (seen w (stood_view b (n == running)) (waking b c (record x { standing = put x.standing c n }))) spot' wait'

    other_word : n ≢ ready → Stand false → Stand ((n == ready) && in_hand c u.hand)
    other_word d h = subst (λ (b : Bool). Stand (b && in_hand c u.hand)) (sym (ne_eqb n ready d)) h

    by_kind : (m : Meaning) → Stores m u (CellStore c Standing n) → IsKnown x u (CellStore c Standing n) → Stand ((n == ready) && in_hand c u.hand)
    by_kind m (inl s) known = let is = s.0 in other_word (λ z. let no : ⊥ = omega (arith, is, z) in no) (λ g. ⊎_elim (begun (n == running) g is) (goes_on (n == running) g is) s.1)
    by_kind m (inr (inl s)) known = other_word (not_going s.0.wait n s.3.1).1 (λ g. stops (n == running) g (s.0, s.1, s.2, (s.3.0, s.3.1)))
    by_kind m (inr (inr (inl s))) known = subst (λ (b : Bool). Stand (b && in_hand c u.hand)) (sym (eq-eqb n ready s.0)) (subst Stand (sym (has_in_hand c u.hand s.1.0 s.1.1 s.1.2)) (readies m (n == running) s known))
    by_kind m (inr (inr (inr s))) known = let is = s.0 in other_word (λ z. let no : ⊥ = omega (arith, is, z) in no) (λ g. ends (n == running) g s.1)

    pub stand_kept : (m : Meaning) → Stores m u (CellStore c Standing n) → IsKnown x u (CellStore c Standing n) → GoesReady l.spot l.wait spot' wait' ((n == ready) && in_hand c u.hand) w c →
        Placed (seen w (with_progress pr (stood c n u)) (waking ((n == ready) && in_hand c u.hand) c (record x { standing = put x.standing c n }))) spot' wait'
    stand_kept m s known = by_kind m s known
