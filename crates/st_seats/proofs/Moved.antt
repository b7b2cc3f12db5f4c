-- What a worker does between its steps keeps the places: move_laws. Change and moved are for the thread of one cell that goes to another place of the worker; reach for
-- into_turn where a thread of a stack becomes a chain of the turn.
use Rattle.std.proofs.Common.{◌≡◌, ◌≢◌, ◌⊎◌, inl, inr, ⊎_elim, ℕ, true, List, [], ◌∷◌, ◌++◌, Some, None, refl, sym, ap, ◌∙◌, subst, arith}
use Rattle.std.specs.List.{Contains}
use Rattle.st_base.specs.declared.chain.Waiting.{Waiting}
use Rattle.st_words.specs.declared.view.Known.{Known}
use Rattle.st_words.specs.declared.view.Carried.{Carried}
use Rattle.st_words.specs.declared.view.Child.{Child}
use Rattle.st_words.specs.declared.view.View.{View}
use Rattle.st_words.specs.Encodings.{running, waits_word}
use Rattle.st_words.specs.Promises.{IsGoingOn}
use Rattle.st_words.specs.Views.{with_progress}
use Rattle.st_words.specs.Moves.{suspended, suspending, MaySuspend, given_chain, giving, MayGive, restarting, MayRestart, beginning, MayBegin, exporting}
use Rattle.st_words.proofs.Lists.{contains_here, contains_later, contains_case, contains_none, map_in}
use Rattle.st_world.specs.Functions.{put}
use Rattle.st_world.specs.World.{World, seen}
use Rattle.st_world.proofs.Functions.{put_here, put_other, function_same}
use Rattle.st_spots.specs.Listing.{Spot, Nowhere, Held, counters}
use Rattle.st_lists.specs.Going.{Stays}
use Rattle.st_seats.specs.Placing.{Place, Named, InTurn, OnStack, IsOver, IsTurnSpot, AreOnce, cells_of, chain_cells}
use Rattle.st_seats.specs.Laws.{MoveLaws}
use Rattle.st_seats.proofs.MovedLists.{append_cells, append_in, append_case, append_end, append_once, filter_numbers, filter_rest, filter_once}
use Rattle.st_seats.proofs.Seats.{Of, of_one, Placed, Holds, ThreadAt, Turn, at_place, chain_there, of_empty, of_thread, of_worker, turn_spot}
use Rattle.st_seats.proofs.Changed.{One, one_kept, one_mail, apart, cell_stays, thread_same, calm}

-- the lists of the world after it have each number where it was
listed : (x : World) (spot spot' : ℕ → Spot) (wait wait' : ℕ → Waiting) → Stays spot wait spot' wait' → Placed x spot wait → Placed x spot' wait'
listed x spot spot' wait wait' s P =
    subst (λ (k : ℕ → Waiting). Placed x spot' k) (sym (function_same wait' wait s.1)) (subst (λ (at : ℕ → Spot). Placed x at wait) (sym (function_same spot' spot s.0)) P)

-- ---- the thread of one cell

module _ (x : World) (spot : ℕ → Spot) (wait : ℕ → Waiting) (P : Placed x spot wait) (w : ℕ) (v : View) (c : ℕ) (q : Place) where
  -- the thread of the cell c goes to q, in the turn or on the stack; the others stay
  record Change : Type 0 where
    pub was : Of w (P.place c)
    pub goes : ((q ≡ InTurn w) × Contains (chain_cells v.chains) c) ⊎ ((q ≡ OnStack w) × Contains (cells_of v.threads) c)
    pub nowhere : spot c ≡ Nowhere
    pub turn_other : (d : ℕ) → d ≢ c → Contains (chain_cells (x.view w).chains) d → Contains (chain_cells v.chains) d
    pub stack_other : (d : ℕ) → d ≢ c → Contains (cells_of (x.view w).threads) d → Contains (cells_of v.threads) d
    pub child_other : (y : Child) → y.cell ≢ c → (x.view w).child ≡ Some y → v.child ≡ Some y
    pub turn : (y : Carried) → Contains v.chains y → (Contains (x.view w).chains y × (y.known.note.cell ≢ c)) ⊎ Turn (seen w v x) spot wait (put P.place c q) w y
    pub stack : (d : ℕ) → Contains (cells_of v.threads) d → (Contains (cells_of (x.view w).threads) d × (d ≢ c)) ⊎ ((d ≡ c) × (q ≡ OnStack w) × (x.standing c ≡ running))
    pub child : (y : Child) → v.child ≡ Some y → ((x.view w).child ≡ Some y) × (y.cell ≢ c)
    pub chains_once : AreOnce (chain_cells v.chains)
    pub threads_once : AreOnce (cells_of v.threads)
    pub filled : v.filled ≡ (x.view w).filled

  module _ (C : Change) where
    abbrev place' : ℕ → Place
    place' = put P.place c q

    thread_still : (d : ℕ) → ThreadAt x spot wait P.place d → ThreadAt (seen w v x) spot wait place' d
    thread_still d t = thread_same x spot wait P w x v spot wait place' d refl refl refl t

    goes_there : ((q ≡ InTurn w) × Contains (chain_cells v.chains) c) ⊎ ((q ≡ OnStack w) × Contains (cells_of v.threads) c) → Holds (seen w v x) spot wait place' c q
    goes_there (inl h) = subst (Holds (seen w v x) spot wait place' c) (sym h.0) (of_empty x spot wait P w c C.was, thread_still c (of_thread x spot wait P w c C.was), subst (λ (k : View). Contains (chain_cells k.chains) c) (sym (put_here x.view w v)) h.1, of_worker x spot wait P w c C.was)
    goes_there (inr h) = subst (Holds (seen w v x) spot wait place' c) (sym h.0) (of_empty x spot wait P w c C.was, C.nowhere, thread_still c (of_thread x spot wait P w c C.was), subst (λ (k : View). Contains (cells_of k.threads) c) (sym (put_here x.view w v)) h.1, of_worker x spot wait P w c C.was)

    one : One x spot wait P w x v spot wait place' c
    one = record {
      others = λ d n. cell_stays x spot wait P w x.owner x.state v spot wait place' d (put_other P.place c q d n) (λ e. inl refl, λ e. refl) (thread_still d) (C.turn_other d n) (C.stack_other d n) (λ h. (h.0, C.child_other h.0 (λ e. n (sym h.2 ∙ e)) h.1, h.2));
      mine = λ u o. of_one u w (P.place c) o C.was;
      here = subst (Holds (seen w v x) spot wait place' c) (sym (put_here P.place c q)) (goes_there C.goes);
      turn = C.turn;
      stack = λ d m. ⊎_elim (λ h. inl h) (λ h. inr (record { there = ap place' h.0 ∙ (put_here P.place c q ∙ h.1); stands = ap x.standing h.0 ∙ h.2 })) (C.stack d m);
      child = λ y e. inl (C.child y e);
      chains_once = C.chains_once;
      threads_once = C.threads_once;
      filled = λ d m. inl (subst (λ (cs : List ℕ). Contains cs d) C.filled m);
    }

    moved : Placed (seen w v x) spot wait
    moved = one_kept x spot wait P w x v spot wait place' refl (λ k h. h) c one (λ u. one_mail x spot wait P w x v spot wait place' refl (λ k h. h) c one (λ j e. subst (Of w) e C.was) u refl refl)

-- ---- each move

module _ (x : World) (spot : ℕ → Spot) (wait : ℕ → Waiting) (P : Placed x spot wait) (w : ℕ) where
  chain_apart : (c d : ℕ) → P.place c ≢ InTurn w → Contains (chain_cells (x.view w).chains) d → d ≢ c
  chain_apart c d n m s = n (ap P.place (sym s) ∙ chain_there x spot wait P w d m)

  thread_apart : (c d : ℕ) → P.place c ≢ OnStack w → Contains (cells_of (x.view w).threads) d → d ≢ c
  thread_apart c d n m s = n (ap P.place (sym s) ∙ ((P.views w).stack d m).there)

  number_of : (y : Carried) → Contains (x.view w).chains y → Contains (chain_cells (x.view w).chains) y.known.note.cell
  number_of y m = map_in (λ (k : Carried). k.known.note.cell) (x.view w).chains y m

  -- a thread of the stack becomes this chain of the turn
  pub into_turn : (threads : List Known) (y : Carried) → Contains (cells_of (x.view w).threads) y.known.note.cell → ((d : ℕ) → d ≢ y.known.note.cell → Contains (cells_of (x.view w).threads) d → Contains (cells_of threads) d) → ((d : ℕ) → Contains (cells_of threads) d → Contains (cells_of (x.view w).threads) d × (d ≢ y.known.note.cell)) → AreOnce (cells_of threads) → ((n : ℕ) → y.standing ≡ Some n → x.standing y.known.note.cell ≡ n) → y.trap ≡ None → (IsGoingOn y → IsOver (counters x.owner) x.state y.wait) → Placed (seen w (record (x.view w) { threads = threads; chains = y ∷ (x.view w).chains }) x) spot wait
  into_turn threads y top more back once stands untold over =
      let u : View = x.view w in
      let c : ℕ = y.known.note.cell in
      let v : View = record u { threads = threads; chains = y ∷ u.chains } in
      let there : P.place c ≡ OnStack w = ((P.views w).stack c top).there in
      let off : P.place c ≢ InTurn w = λ e. let no : ⊥ = cc in no in
      let nowhere : spot c ≡ Nowhere = (at_place x spot wait P c (OnStack w) there).1 in
      let new : Turn (seen w v x) spot wait (put P.place c (InTurn w)) w y = record {
        there = put_here P.place c (InTurn w);
        number = subst (λ (s : Spot). IsTurnSpot w s (wait c) y) (sym nowhere) tt;
        stands = stands;
        traps = λ n e. let no : ⊥ = cc in absurd no;
        over = over;
      } in
      moved x spot wait P w v c (InTurn w) (record {
        was = subst (Of w) (sym there) refl;
        goes = inl (refl, contains_here c (chain_cells u.chains));
        nowhere = nowhere;
        turn_other = λ d n m. contains_later d c (chain_cells u.chains) m;
        stack_other = more;
        child_other = λ k n e. e;
        turn = λ k m. ⊎_elim
            (λ (e : y ≡ k). inr (subst (λ (z : Carried). Turn (seen w v x) spot wait (put P.place c (InTurn w)) w z) e new))
            (λ (h : Contains u.chains k). inl (h, chain_apart c k.known.note.cell off (number_of k h))) (contains_case k y u.chains m);
        stack = λ d m. inl (back d m);
        child = λ k e. (e, apart P.place c k.cell (OnStack w) (Named w) there ((P.views w).child k e).there (λ e. let no : ⊥ = cc in no));
        chains_once = (λ m. chain_apart c c off m refl, (P.views w).chains_once);
        threads_once = once;
        filled = refl;
      })

  pub suspends : (t : Known) (rest : List Known) (kind : Waiting) → MaySuspend (x.view w) t rest kind → Placed (seen w (suspending t rest kind (x.view w)) x) spot wait
  suspends t rest kind may =
      let c : ℕ = t.note.cell in
      let is : cells_of (x.view w).threads ≡ c ∷ cells_of rest = ap cells_of may.is in
      let once : AreOnce (c ∷ cells_of rest) = subst AreOnce is (P.views w).threads_once in
      into_turn rest (suspended t kind) (subst (λ (cs : List ℕ). Contains cs c) (sym is) (contains_here c (cells_of rest)))
      (λ d n m. ⊎_elim (λ (e : c ≡ d). absurd (n (sym e))) (λ h. h) (contains_case d c (cells_of rest) (subst (λ (cs : List ℕ). Contains cs d) is m)))
      (λ d m. (subst (λ (cs : List ℕ). Contains cs d) (sym is) (contains_later d c (cells_of rest) m), λ e. once.0 (subst (λ (z : ℕ). Contains (cells_of rest) z) e m)))
      once.1
      (λ n e. let no : ⊥ = cc in absurd no)
      refl
      (λ g. ⊎_elim (λ e. let no : ⊥ = cc in absurd no) (λ e. let no : ⊥ = cc in absurd no) g)

  pub gives : (t : Known) (above : List Known) → MayGive (x.view w) t above → Placed (seen w (giving t above (x.view w)) x) spot wait
  gives t above may =
      let c : ℕ = t.note.cell in
      let is : cells_of (x.view w).threads ≡ cells_of above ++ c ∷ [] = ap cells_of may.is ∙ append_cells above t in
      let once = append_once (cells_of above) c (subst AreOnce is (P.views w).threads_once) in
      let last : Contains (cells_of (x.view w).threads) c = subst (λ (cs : List ℕ). Contains cs c) (sym is) (append_end (cells_of above) c) in
      into_turn above (given_chain t) last
      (λ d n m. ⊎_elim (λ (e : c ≡ d). absurd (n (sym e))) (λ h. h) (append_case (cells_of above) c d (subst (λ (cs : List ℕ). Contains cs d) is m)))
      (λ d m. (subst (λ (cs : List ℕ). Contains cs d) (sym is) (append_in (cells_of above) c d m), λ e. once.1 (subst (λ (z : ℕ). Contains (cells_of above) z) e m)))
      once.0
      (λ n e. ((P.views w).stack c last).stands ∙ (let s : running ≡ n = cc in s))
      refl
      (λ g. tt)

  -- the number of a chain that goes on isn't in the hand
  off_hand : (y : Carried) → y.standing ≡ Some running → IsTurnSpot w (Held w) (wait y.known.note.cell) y → ⊥
  off_hand y e t = let a = t.3 in let s : Some running ≡ Some waits_word = sym e ∙ a in let z : running ≡ waits_word = cc in omega (arith, z)

  pub restarts : (y : Carried) → MayRestart (x.view w) y → Placed (seen w (restarting y (x.view w)) x) spot wait
  restarts y may =
      let u : View = x.view w in
      let c : ℕ = y.known.note.cell in
      let v : View = restarting y u in
      let T = (P.views w).turn y may.carried in
      let there : P.place c ≡ InTurn w = T.there in
      moved x spot wait P w v c (OnStack w) (record {
        was = subst (Of w) (sym there) refl;
        goes = inr (refl, contains_here c []);
        nowhere = ⊎_elim (λ e. e) (λ (e : spot c ≡ Held w). absurd (off_hand y may.stands (subst (λ (s : Spot). IsTurnSpot w s (wait c) y) e T.number))) (turn_spot x spot wait P w c there);
        turn_other = λ d n m. filter_numbers c d u.chains m n;
        stack_other = λ d n m. absurd (contains_none d (subst (λ (ts : List Known). Contains (cells_of ts) d) may.none m));
        child_other = λ k n e. e;
        turn = λ k m. inl (filter_rest c u.chains k m);
        stack = λ d m. ⊎_elim (λ (e : c ≡ d). inr (sym e, refl, T.stands running may.stands)) (λ h. absurd (contains_none d h)) (contains_case d c [] m);
        child = λ k e. (e, apart P.place c k.cell (InTurn w) (Named w) there ((P.views w).child k e).there (λ e. let no : ⊥ = cc in no));
        chains_once = filter_once c u.chains (P.views w).chains_once;
        threads_once = (λ m. contains_none c m, tt);
        filled = refl;
      })

  pub begins : (child parent top : Known) (rest : List Known) → MayBegin (x.view w) child → (x.view w).threads ≡ top ∷ rest → parent.note.cell ≡ top.note.cell → Placed (seen w (beginning child parent rest (x.view w)) x) spot wait
  begins child parent top rest may is same =
      let u : View = x.view w in
      let c : ℕ = child.note.cell in
      let named : Child = record { cell = c; stands = true } in
      let v : View = beginning child parent rest u in
      let K = (P.views w).child named may.named in
      let there : P.place c ≡ Named w = K.there in
      let cells : cells_of (parent ∷ rest) ≡ cells_of u.threads = ap (λ (k : ℕ). k ∷ cells_of rest) same ∙ sym (ap cells_of is) in
      let off : P.place c ≢ OnStack w = λ e. let no : ⊥ = cc in no in
      moved x spot wait P w v c (OnStack w) (record {
        was = subst (Of w) (sym there) refl;
        goes = inr (refl, contains_here c (cells_of (parent ∷ rest)));
        nowhere = (at_place x spot wait P c (Named w) there).1;
        turn_other = λ d n m. m;
        stack_other = λ d n m. contains_later d c (cells_of (parent ∷ rest)) (subst (λ (cs : List ℕ). Contains cs d) (sym cells) m);
        child_other = λ k n e. let a = may.named in let s : Some named ≡ Some k = sym a ∙ e in let t : named ≡ k = cc in absurd (n (sym (ap (λ (z : Child). z.cell) t)));
        turn = λ k m. inl (m, chain_apart c k.known.note.cell (λ e. let no : ⊥ = cc in no) (number_of k m));
        stack = λ d m. ⊎_elim
            (λ (e : c ≡ d). inr (sym e, refl, K.stands refl))
            (λ (h : Contains (cells_of (parent ∷ rest)) d). let g = subst (λ (cs : List ℕ). Contains cs d) cells h in inl (g, thread_apart c d off g)) (contains_case d c (cells_of (parent ∷ rest)) m);
        child = λ k e. let no : ⊥ = cc in absurd no;
        chains_once = (P.views w).chains_once;
        threads_once = (λ m. thread_apart c c off (subst (λ (cs : List ℕ). Contains cs c) cells m) refl, subst AreOnce (sym cells) (P.views w).threads_once);
        filled = refl;
      })

pub move_laws : MoveLaws
move_laws = record {
  progresses = λ x l w progress l' P e stays. calm x l.spot l.wait P w (with_progress progress (x.view w)) l'.spot l'.wait (refl, refl, refl) e (λ d. inl (stays.0 d), stays.1);
  suspends = λ x l w t rest kind l' P less may stays. listed (seen w (suspending t rest kind (x.view w)) x) l.spot l'.spot l.wait l'.wait stays (suspends x l.spot l.wait P w t rest kind may);
  gives = λ x l w t above l' P less may stays. listed (seen w (giving t above (x.view w)) x) l.spot l'.spot l.wait l'.wait stays (gives x l.spot l.wait P w t above may);
  restarts = λ x l w carried l' P less may stays. listed (seen w (restarting carried (x.view w)) x) l.spot l'.spot l.wait l'.wait stays (restarts x l.spot l.wait P w carried may);
  begins = λ x l w child parent top rest l' P less may is same stays. listed (seen w (beginning child parent rest (x.view w)) x) l.spot l'.spot l.wait l'.wait stays (begins x l.spot l.wait P w child parent top rest may is same);
  exports = λ x l w f l' P stays. calm x l.spot l.wait P w (exporting f (x.view w)) l'.spot l'.wait (refl, refl, refl) refl (λ d. inl (stays.0 d), stays.1);
}
