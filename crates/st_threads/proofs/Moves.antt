-- What a worker does between its steps takes the heap on by one step at most (moves_go), and keeps who holds each thread (moves_kept).
use Rattle.std.proofs.Common.{◌≡◌, inl, inr, ⊎_elim, ℕ, true, List, [], ◌∷◌, ◌++◌, refl, sym, ap, ◌∙◌, subst}
use Rattle.std.specs.List.{Contains}
use Rattle.std.proofs.lemmas.List.{append_assoc}
use Rattle.std.proofs.lemmas.List.Elements.{Contains-append_left, Contains-append_right, Contains-append_cases}
use Rattle.st_words.specs.declared.view.Known.{Known}
use Rattle.st_words.specs.declared.view.View.{View}
use Rattle.st_words.specs.Views.{without_chain}
use Rattle.st_words.proofs.Lists.{contains_here, contains_later, contains_case}
use Rattle.st_model.specs.declared.program.Program.{Program}
use Rattle.st_model.specs.Memory.{Data}
use Rattle.st_model.specs.Heap.{Heap}
use Rattle.st_made.specs.Items.{next_move}
use Rattle.st_made.specs.Moves.{Begins, Suspends, Gives, Restarts, Exports}
use Rattle.st_made.specs.Runs.{known_of, all_known, HasSeen}
use Rattle.st_made.proofs.Running.{enough}
use Rattle.st_made.proofs.MadeRuns.{at_once}
use Rattle.st_world.specs.World.{World, slot_of, cargo_of, seen}
use Rattle.st_threads.specs.Behind.{heap_on, Makes, Forks}
use Rattle.st_threads.specs.Holding.{IsOf, Threads}
use Rattle.st_threads.specs.Laws.{AreSingle, MoveGoes, MovesKept}
use Rattle.st_threads.proofs.Lists.{times_moved, times_first, known_in, left_back}
use Rattle.st_threads.proofs.Holdings.{turn_most, turned, all_stay}
use Rattle.st_threads.proofs.Items.{makes_step, goes_on, forks}

-- a thread of the list in which one has changed its place
moved_back : (ts us : List Known) (t k : Known) → Contains (ts ++ t ∷ us) k → Contains (t ∷ (ts ++ us)) k
moved_back ts us t k m = ⊎_elim
    (λ (a : Contains ts k). contains_later k t (ts ++ us) (Contains-append_left ts us k a))
    (λ (b : Contains (t ∷ us) k). ⊎_elim
    (λ (e : t ≡ k). subst (λ (z : Known). Contains (t ∷ (ts ++ us)) z) e (contains_here t (ts ++ us)))
    (λ (n : Contains us k). contains_later k t (ts ++ us) (Contains-append_right ts us k n))
    (contains_case k t us b))
    (Contains-append_cases ts (t ∷ us) k m)

module _ (program : Program) (source : Data) (h : Heap) (x : World) (w : ℕ) (u : View) (r : Threads h x) where
  abbrev v : View
  v = x.view w

  abbrev turn : List Known
  turn = known_of v.chains

  -- the threads are these, with the turn behind them
  with_turn : (ts : List Known) → v.threads ≡ ts → all_known v ≡ ts ++ turn
  with_turn ts e = ap (λ (l : List Known). l ++ turn) e

  after : (y : View) → u ≡ y → all_known u ≡ all_known y
  after y e = ap all_known e

  begins : Begins program source v u → Threads h (seen w u x)
  begins m =
      let rest = m.rest ++ turn in
      let begun : Known = record m.top { begun = true } in
      turned h (slot_of x) (cargo_of x) x.view w u r (m.top ∷ rest) (begun ∷ rest) (with_turn (m.top ∷ m.rest) m.is) (after _ m.after) (λ p. refl)
      (λ t k of. ⊎_elim
      (λ (e : begun ≡ t). let o = of m.top (contains_here m.top rest) in
      subst (λ (z : Known). IsOf h z) e (record { there = o.there; live = o.live; forks = o.forks; counters = o.counters; bytes = o.bytes }))
      (λ (n : Contains rest t). of t (contains_later t m.top rest n))
      (contains_case t begun rest k))

  suspends : Suspends program source v u → Threads h (seen w u x)
  suspends m =
      turned h (slot_of x) (cargo_of x) x.view w u r (m.top ∷ (m.rest ++ turn)) (m.rest ++ m.top ∷ turn) (with_turn (m.top ∷ m.rest) m.may.is) (after _ m.after) (λ p. times_moved p m.top m.rest turn)
      (λ t k of. of t (moved_back m.rest turn m.top t k))

  gives : Gives program source v u → Threads h (seen w u x)
  gives m = all_stay h (slot_of x) (cargo_of x) x.view w u r (after _ m.after ∙ sym (with_turn (m.above ++ m.bottom ∷ []) m.may.is ∙ append_assoc m.above (m.bottom ∷ []) turn))

  restarts : AreSingle v → Restarts program source v u → Threads h (seen w u x)
  restarts single m =
      let z = m.chain in
      let left = known_of (without_chain z.known.note.cell v.chains) in
      turned h (slot_of x) (cargo_of x) x.view w u r turn (z.known ∷ left) (with_turn [] m.may.none) (after _ m.after) (λ p. times_first p z v.chains m.may.carried (λ y k s. single y z k m.may.carried s) (turn_most h (slot_of x) (cargo_of x) x.view r w z.known.path))
      (λ t k of. ⊎_elim
      (λ (e : z.known ≡ t). subst (λ (y : Known). IsOf h y) e (of z.known (known_in v.chains z m.may.carried)))
      (λ (n : Contains left t). of t (left_back z.known.note.cell v.chains t n))
      (contains_case t z.known left k))

  exports : Exports program source v u → Threads h (seen w u x)
  exports m = all_stay h (slot_of x) (cargo_of x) x.view w u r (after _ m.after)

  makes : (h' : Heap) → HasSeen h v → Makes program source h v u h' → Threads h' (seen w u x)
  makes h' sees b =
      let m = b.of in
      subst (λ (k : Heap). Threads k (seen w u x)) (sym b.heap)
      (goes_on program source h (slot_of x) (cargo_of x) x.view w u r m.top (m.rest ++ turn) m.change (with_turn (m.top ∷ m.rest) m.is) (enough h v (next_move program source m.top) m.change sees m.can)
      m.private.child m.private.live (after _ m.after))

  forked : (h' : Heap) → Forks program source h v u h' → Threads h' (seen w u x)
  forked h' b =
      let m = b.of in
      subst (λ (k : Heap). Threads k (seen w u x)) (sym b.heap)
      (forks program source h (slot_of x) (cargo_of x) x.view w u r m.top (m.rest ++ turn) m.change (with_turn (m.top ∷ m.rest) m.is) (at_once program source h m.top m.change m.can) m.child m.cell m.made (after _ m.after))

pub moves_kept : MovesKept
moves_kept program source h h' x w u r less sees single (inl (inl m, e)) = subst (λ (k : Heap). Threads k (seen w u x)) (sym e) (begins program source h x w u r m)
moves_kept program source h h' x w u r less sees single (inl (inr (inl m), e)) = subst (λ (k : Heap). Threads k (seen w u x)) (sym e) (suspends program source h x w u r m)
moves_kept program source h h' x w u r less sees single (inl (inr (inr (inl m)), e)) = subst (λ (k : Heap). Threads k (seen w u x)) (sym e) (gives program source h x w u r m)
moves_kept program source h h' x w u r less sees single (inl (inr (inr (inr (inl m))), e)) = subst (λ (k : Heap). Threads k (seen w u x)) (sym e) (restarts program source h x w u r single m)
moves_kept program source h h' x w u r less sees single (inl (inr (inr (inr (inr m))), e)) = subst (λ (k : Heap). Threads k (seen w u x)) (sym e) (exports program source h x w u r m)
moves_kept program source h h' x w u r less sees single (inr (inl b)) = makes program source h x w u r h' sees b
moves_kept program source h h' x w u r less sees single (inr (inr b)) = forked program source h x w u r h' b

pub moves_go : MoveGoes
moves_go program source h x w u r sees (inl m) = (h, inl (inl m, refl), inl refl)
moves_go program source h x w u r sees (inr (inl m)) =
    let enabled = enough h (x.view w) (next_move program source m.top) m.change sees m.can in
    let s = makes_step program source h (slot_of x) (cargo_of x) x.view w u r m.top (m.rest ++ known_of (x.view w).chains) m.change (with_turn program source h x w u r (m.top ∷ m.rest) m.is) enabled in
    (heap_on h m.top m.change, inr (inl (record { of = m; heap = refl })), inr (m.top.path, s))
moves_go program source h x w u r sees (inr (inr (inl m))) =
    let enabled = at_once program source h m.top m.change m.can in
    let s = makes_step program source h (slot_of x) (cargo_of x) x.view w u r m.top (m.rest ++ known_of (x.view w).chains) m.change (with_turn program source h x w u r (m.top ∷ m.rest) m.is) enabled in
    (heap_on h m.top m.change, inr (inr (record { of = m; heap = refl })), inr (m.top.path, s))
moves_go program source h x w u r sees (inr (inr (inr m))) = (h, inl (inr m, refl), inl refl)
