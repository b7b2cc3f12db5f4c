-- A Standing or Trap word is stored: anew_kept, where one cell's words, what goes with its chain, or its chain in the turn are made anew and its thread stays where it is. trap_kept is a Trap word; made_cells and made_out are of the chain of a cell that is made anew in a turn.
use Rattle.std.proofs.Common.{◌≡◌, ◌≢◌, ◌⊎◌, inl, inr, ⊎_elim, ℕ, Bool, true, false, cond, List, [], ◌∷◌, map, Some, refl, sym, ap, ◌∙◌, subst, ◌==◌, eq-eqb, ne_eqb}
use Rattle.std.specs.List.{Contains}
use mathlib.Core.Logic.{dite}
use native.Mathlib.Decide.{ℕ_discrete}
use Rattle.st_base.specs.declared.chain.Waiting.{Waiting}
use Rattle.st_words.specs.declared.view.Carried.{Carried}
use Rattle.st_words.specs.declared.view.Cargo.{Cargo}
use Rattle.st_words.specs.declared.view.Child.{Child}
use Rattle.st_words.specs.declared.view.View.{View}
use Rattle.st_words.specs.Steps.{HasChain, IsChild}
use Rattle.st_words.specs.Views.{Progress, with_progress, with_trap}
use Rattle.st_world.specs.Functions.{put}
use Rattle.st_world.specs.World.{World, seen}
use Rattle.st_world.proofs.Functions.{put_here, put_other}
use Rattle.st_spots.specs.Listing.{Spot, Nowhere, Held, Lists}
use Rattle.st_lists.specs.Going.{Stays}
use Rattle.st_seats.specs.Placing.{Place, Gone, Named, Home, InMail, InTurn, OnStack, IsTurnSpot, Places, AreOnce, cells_of, chain_cells}
use Rattle.st_seats.proofs.Seats.{Placed, Holds, ThreadAt, at_place, turn_there, Turn, Begins}
use Rattle.st_seats.proofs.MovedLists.{map_out}
use Rattle.st_seats.proofs.Changed as changed
use Rattle.st_seats.proofs.Changed.{Mine, One, one_kept, one_mail}

-- ---- the chain of a cell is made anew in a turn

module _ (c : ℕ) (make : Carried → Carried) (keeps : (x : Carried) → (make x).known.note.cell ≡ x.known.note.cell) where
  abbrev pub made : Carried → Carried
  made x = cond (x.known.note.cell == c) (make x) x

  cell_made : (b : Bool) (x : Carried) → (cond b (make x) x).known.note.cell ≡ x.known.note.cell
  cell_made true x = keeps x
  cell_made false x = refl

  pub made_cells : (xs : List Carried) → chain_cells (map made xs) ≡ chain_cells xs
  made_cells [] = refl
  made_cells (x ∷ xs) = λ i. cell_made (x.known.note.cell == c) x i ∷ made_cells xs i

  -- it is an old one, of another cell, or that of the cell, made anew
  pub made_out : (xs : List Carried) (y : Carried) → Contains (map made xs) y → (Contains xs y × (y.known.note.cell ≢ c)) ⊎ ((x : Carried) × Contains xs x × (x.known.note.cell ≡ c) × (make x ≡ y))
  made_out xs y m =
      let r = map_out made xs y m in
      dite (ℕ_discrete r.0.known.note.cell c)
      (λ (e : r.0.known.note.cell ≡ c). inr (r.0, r.1, e, sym (ap (λ (b : Bool). cond b (make r.0) r.0) (eq-eqb r.0.known.note.cell c e)) ∙ r.2))
      (λ (n : r.0.known.note.cell ≢ c).
      let s : r.0 ≡ y = sym (ap (λ (b : Bool). cond b (make r.0) r.0) (ne_eqb r.0.known.note.cell c n)) ∙ r.2 in
      inl (subst (λ (z : Carried). Contains xs z × (z.known.note.cell ≢ c)) s (r.1, n)))

-- ---- one cell's words

-- nobody has it, or the worker has it for a child or in its turn
abbrev pub IsSeat : ℕ → Place → Type 0
IsSeat w Gone = Prim.Unit
IsSeat w Home = Prim.Unit
IsSeat w (Named v) = v ≡ w
IsSeat w (InTurn v) = v ≡ w
IsSeat w _ = ⊥

seat_mine : (w : ℕ) (p : Place) → IsSeat w p → Mine w p
seat_mine w Gone s v o = absurd o
seat_mine w Home s v o = absurd o
seat_mine w (Named k) s v o = sym o ∙ s
seat_mine w (InTurn k) s v o = sym o ∙ s
seat_mine w p s v o = absurd s

-- nobody has the thread of a cell that isn't named or is full
pub place_gone : (x : World) (l : Lists x) (P : Places x l) (c : ℕ) → (ThreadAt x l.spot l.wait P.place c → ⊥) → P.place c ≡ Gone
place_gone x l P c n = by (P.place c) (P.each c)
  where
    by : (p : Place) → Holds x l.spot l.wait P.place c p → p ≡ Gone
    by Gone h = refl
    by (Named k) h = absurd (n h.2)
    by Home h = absurd (n h.0)
    by (InMail k) h = absurd (n h.2)
    by (InTurn k) h = absurd (n h.1)
    by (OnStack k) h = absurd (n h.2)

module _ (x : World) (l : Lists x) (P : Places x l) (w c : ℕ) (v : View) (spot' : ℕ → Spot) (wait' : ℕ → Waiting) (standing' trap' : ℕ → ℕ) (cargo' : ℕ → Cargo) (make : Carried → Carried) (keeps : (z : Carried) → (make z).known.note.cell ≡ z.known.note.cell) where
  abbrev pub worded : World
  worded = record x { standing = standing'; trap = trap'; home_cargo = cargo' }

  pub record Anew : Type 0 where
    pub others : (d : ℕ) → d ≢ c → (spot' d ≡ l.spot d) × (standing' d ≡ x.standing d) × (trap' d ≡ x.trap d) × (cargo' d ≡ x.home_cargo d)
    pub waits : (d : ℕ) → wait' d ≡ l.wait d
    pub chains : v.chains ≡ map (made c make keeps) (x.view w).chains
    pub filled : v.filled ≡ (x.view w).filled
    pub threads : cells_of v.threads ≡ cells_of (x.view w).threads
    pub seat : IsSeat w (P.place c)
    pub here : Holds (seen w v worded) spot' wait' P.place c (P.place c)
    pub turn : (z : Carried) → Contains (x.view w).chains z → z.known.note.cell ≡ c → Turn (seen w v worded) spot' wait' P.place w (make z)
    pub named : (d : ℕ) → IsChild (x.view w) d → IsChild v d
    pub child : (z : Child) → v.child ≡ Some z → z.cell ≡ c → Begins (seen w v worded) spot' wait' P.place w z
    pub child_other : (z : Child) → v.child ≡ Some z → z.cell ≢ c → (x.view w).child ≡ Some z

  module _ (A : Anew) where
    cells : chain_cells v.chains ≡ chain_cells (x.view w).chains
    cells = ap chain_cells A.chains ∙ made_cells c make keeps (x.view w).chains

    stays : (d : ℕ) → d ≢ c → changed.Stays x l.spot l.wait P w worded v spot' wait' P.place d
    stays d n = let o = A.others d n in record {
      there = refl;
      number = inl o.0;
      waits = A.waits d;
      of = λ t. record { below = t.below; named = t.named; future = t.future; unfilled = t.unfilled };
      standing = o.1;
      trap = o.2;
      home = refl;
      cargo = o.3;
      mail = λ k chain e f. e;
      turn = subst (λ (ds : List ℕ). Contains ds d) (sym cells);
      stack = subst (λ (ds : List ℕ). Contains ds d) (sym A.threads);
      child = A.named d;
    }

    other : (d : ℕ) (p : Place) → P.place d ≡ p → (IsSeat w p → ⊥) → d ≢ c
    other d p e n z = n (subst (IsSeat w) (ap P.place (sym z) ∙ e) A.seat)

    one : One x l.spot l.wait P w worded v spot' wait' P.place c
    one =
        let V = P.views w in
        record {
          others = stays;
          mine = seat_mine w (P.place c) A.seat;
          here = A.here;
          turn = λ z m. ⊎_elim (λ q. inl q) (λ q. inr (subst (Turn (seen w v worded) spot' wait' P.place w) q.3 (A.turn q.0 q.1 q.2))) (made_out c make keeps (x.view w).chains z (subst (λ (zs : List Carried). Contains zs z) A.chains m));
          stack = λ d m. let k = subst (λ (ds : List ℕ). Contains ds d) A.threads m in inl (k, other d (OnStack w) (V.stack d k).there (λ s. s));
          child = λ z e. dite (ℕ_discrete z.cell c) (λ (s : z.cell ≡ c). inr (A.child z e s)) (λ (n : z.cell ≢ c). inl (A.child_other z e n, n));
          chains_once = subst AreOnce (sym cells) V.chains_once;
          threads_once = subst AreOnce (sym A.threads) V.threads_once;
          filled = λ d m. inl (subst (λ (ds : List ℕ). Contains ds d) A.filled m);
        }

    pub anew_kept : Placed (seen w v worded) spot' wait'
    anew_kept = one_kept x l.spot l.wait P w worded v spot' wait' P.place refl (λ k h. h) c one (λ k. one_mail x l.spot l.wait P w worded v spot' wait' P.place refl (λ j h. h) c one (λ j e. other c (InMail j) e (λ s. s) refl) k refl refl)

-- ---- the Trap word of a chain in the turn

module _ (x : World) (l : Lists x) (P : Places x l) (w : ℕ) (pr : Progress) (spot' : ℕ → Spot) (wait' : ℕ → Waiting) where
  abbrev u : View
  u = x.view w

  pub trap_kept : (c n : ℕ) → HasChain u c → cells_of pr.threads ≡ cells_of u.threads → Stays l.spot l.wait spot' wait' → Placed (seen w (with_progress pr (record u { chains = with_trap c n u.chains })) (record x { trap = put x.trap c n })) spot' wait'
  trap_kept c n has threads g =
      let v : View = with_progress pr (record u { chains = with_trap c n u.chains }) in
      let make : Carried → Carried = λ z. record z { trap = Some n } in
      let was : P.place c ≡ InTurn w = turn_there x l.spot l.wait P w c has in
      let h = at_place x l.spot l.wait P c (InTurn w) was in
      anew_kept x l P w c v spot' wait' x.standing (put x.trap c n) x.home_cargo make (λ z. refl) (record {
        others = λ d m. (g.0 d, refl, put_other x.trap c n d m, refl);
        waits = g.1;
        chains = refl;
        filled = refl;
        threads = threads;
        seat = subst (IsSeat w) (sym was) refl;
        here = subst (Holds (seen w v (record x { trap = put x.trap c n })) spot' wait' P.place c) (sym was) (
          h.0,
          record { below = h.1.below; named = h.1.named; future = h.1.future; unfilled = h.1.unfilled },
          subst (λ (k : View). Contains (chain_cells k.chains) c) (sym (put_here x.view w v)) (subst (λ (ds : List ℕ). Contains ds c) (sym (made_cells c make (λ z. refl) u.chains)) h.2),
          h.3,
        );
        turn = λ z m e. let t = (P.views w).turn z m in record {
          there = t.there;
          number = subst (λ (s : Spot). IsTurnSpot w s (wait' z.known.note.cell) (make z)) (sym (g.0 z.known.note.cell)) (subst (λ (k : Waiting). IsTurnSpot w (l.spot z.known.note.cell) k (make z)) (sym (g.1 z.known.note.cell)) (same (l.spot z.known.note.cell) (l.wait z.known.note.cell) z t.number));
          stands = t.stands;
          traps = λ k q. let s : n ≡ k = cc in ap (put x.trap c n) e ∙ (put_here x.trap c n ∙ s);
          over = t.over;
        };
        named = λ d q. q;
        child = λ z e s. let f = ((P.views w).child z e).there in let k = ap P.place s in let no : ⊥ = cc in absurd no;
        child_other = λ z e m. e;
      })
    where
      same : (s : Spot) (k : Waiting) (z : Carried) → IsTurnSpot w s k z → IsTurnSpot w s k (record z { trap = Some n })
      same Nowhere k z h = h
      same (Held j) k z h = h
      same s k z h = absurd h
