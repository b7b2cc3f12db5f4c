-- What a worker does between its steps keeps the names: moves_keep.
use Rattle.std.proofs.Common.{◌≡◌, ◌≢◌, inl, inr, ⊎_elim, ℕ, ◌+◌, true, List, [], ◌∷◌, ◌++◌, Option, Some, None, refl, sym, ap, ◌∙◌, subst, arith}
use Rattle.std.specs.List.{Contains}
use Rattle.std.proofs.lemmas.List.{append_assoc}
use Rattle.std.proofs.lemmas.List.Elements.{Contains-append_left, Contains-append_right, Contains-append_cases}
use Rattle.st_base.specs.declared.thread.Held.{Held}
use Rattle.st_base.specs.declared.thread.Held.TheVariants.{Future}
use Rattle.st_words.specs.declared.view.Known.{Known}
use Rattle.st_words.specs.declared.view.Carried.{Carried}
use Rattle.st_words.specs.declared.view.View.{View}
use Rattle.st_words.specs.Views.{without_chain}
use Rattle.st_words.specs.Careful.{TopIs}
use Rattle.st_words.specs.Moves.{suspending, giving, restarting, beginning, exporting}
use Rattle.st_words.proofs.Lists.{contains_here, contains_later, contains_case}
use Rattle.st_model.specs.declared.program.Program.{Program}
use Rattle.st_model.specs.Memory.{Data}
use Rattle.st_model.specs.Heap.{Path, Heap, Enabled, HStep}
use Rattle.st_model.specs.Limits.{frame_made}
use Rattle.st_laws.specs.Changes.{one_if, AfterFork}
use Rattle.st_laws.proofs.ItemChanges.{item_changes}
use Rattle.st_laws.proofs.Forking.{fork_makes}
use Rattle.st_made.specs.Items.{IsLive, went, born, child_path, next_move, IsAtFork}
use Rattle.st_made.specs.Runs.{known_of, HasSeen}
use Rattle.st_made.proofs.MadeRuns.{at_once}
use Rattle.st_made.proofs.Running.{enough}
use Rattle.st_world.specs.World.{World, seen}
use Rattle.st_threads.specs.Behind.{heap_on, Makes, Forks, IsStill}
use Rattle.st_threads.specs.Holding.{Threads}
use Rattle.st_threads.proofs.Lists.{known_in, left_back}
use Rattle.st_names.specs.Naming.{Named}
use Rattle.st_named.specs.Laws.{MovesKept}
use Rattle.st_names.proofs.Heaps.{stays_same, stays_of}
use Rattle.st_names.proofs.Known.{child_knows}
use Rattle.st_names.proofs.Told.{Tells, Covers, PartsOf, child_cell, told_cons, told_fewer, told_here, told_rest, told_went, parts_on}
use Rattle.st_named.proofs.Keeping.{calm, parts, heap_same, heap_goes, top_of, told_top, item_kept}
use Rattle.st_names.proofs.Follows.{named_of}

-- ---- threads that are the same

pub among : (ts us : List Known) → ((t : Known) → Contains us t → Contains ts t) → Covers ts us
among ts us f t m = (t, f t m, refl, refl, refl)

begun_covers : (top : Known) (rest : List Known) → Covers (top ∷ rest) (record top { begun = true } ∷ rest)
begun_covers top rest t m = ⊎_elim
    (λ (e : record top { begun = true } ≡ t). (top, contains_here top rest, ap (λ (k : Known). k.note.cell) e, ap (λ (k : Known). k.path) e, ap (λ (k : Known). k.thread) e))
    (λ (n : Contains rest t). (t, contains_later t top rest n, refl, refl, refl)) (contains_case t (record top { begun = true }) rest m)

suspended_in : (top : Known) (rest turn : List Known) (t : Known) → Contains (rest ++ top ∷ turn) t → Contains ((top ∷ rest) ++ turn) t
suspended_in top rest turn t m = ⊎_elim
    (λ (a : Contains rest t). contains_later t top (rest ++ turn) (Contains-append_left rest turn t a))
    (λ (b : Contains (top ∷ turn) t). ⊎_elim (λ (e : top ≡ t). subst (λ k. Contains (top ∷ (rest ++ turn)) k) e (contains_here top (rest ++ turn))) (λ (n : Contains turn t). contains_later t top (rest ++ turn) (Contains-append_right rest turn t n)) (contains_case t top turn b))
    (Contains-append_cases rest (top ∷ turn) t m)

restarted_in : (chain : Carried) (xs : List Carried) → Contains xs chain → (t : Known) → Contains (chain.known ∷ known_of (without_chain chain.known.note.cell xs)) t → Contains (known_of xs) t
restarted_in chain xs at t m = ⊎_elim
    (λ (e : chain.known ≡ t). subst (λ k. Contains (known_of xs) k) e (known_in xs chain at))
    (λ (n : Contains (known_of (without_chain chain.known.note.cell xs)) t). left_back chain.known.note.cell xs t n) (contains_case t chain.known (known_of (without_chain chain.known.note.cell xs)) m)

top_above : (above : List Known) (t : Known) (P : Known → Type 0) → above ≢ [] → TopIs (above ++ t ∷ []) P → TopIs above P
top_above [] t P some top = absurd (some refl)
top_above (a ∷ above) t P some top = top

-- one cell has one name
same_future : (name : ℕ → Option Held) (d : ℕ) (p : Path) (c : ℕ) (q : Path) → name d ≡ Some (Future p) → name c ≡ Some (Future q) → d ≡ c → q ≡ p
same_future name d p c q a b e = let f : name d ≡ name c = ap name e in cc

-- ---- no item is made

module _ (program : Program) (source : Data) (h : Heap) (x : World) (N : Named program source h x) (w : ℕ) where
  abbrev v : View
  v = x.view w

  abbrev HasNext : ℕ → Known → Type 0
  HasNext d t = (N.name d ≡ Some (Future (child_path t))) × IsAtFork program source t

  P : PartsOf program source h N.name x.value v
  P = parts program source h x N w

  -- the threads and the turn are among those before, and so is the top thread where it has a next child
  still : (u : View) (ts us : List Known) → v.threads ++ known_of v.chains ≡ ts → u.threads ++ known_of u.chains ≡ us → Covers ts us → u.names ≡ v.names → child_cell u.child ≡ child_cell v.child → u.valued ≡ v.valued → ((d : ℕ) → child_cell v.child ≡ Some d → TopIs v.threads (HasNext d) → TopIs u.threads (HasNext d)) → Named program source h (seen w u x)
  still u ts us a b covers names child valued top = calm program source h x N w h u (heap_same program source h x N w) (stays_same h) (λ c e. inl (child ∙ e)) (record {
    told = subst (λ l. Tells N.name l (u.threads ++ known_of u.chains)) (sym names) (subst (Tells N.name v.names) (sym b) (told_fewer N.name v.names ts us covers (subst (Tells N.name v.names) a P.told)));
    coming = λ d e. let f : child_cell v.child ≡ Some d = sym child ∙ e in top d f (P.coming d f);
    stored = λ c n m. P.stored c n (subst (λ l. Contains l (c, n)) valued m);
  })

  stays_still : (u : View) → IsStill program source h v u → Named program source h (seen w u x)
  stays_still u (inl m) =
      let ks = known_of v.chains in
      subst (λ z. Named program source h (seen w z x)) (sym m.after)
      (still (record v { threads = record m.top { begun = true } ∷ m.rest; items = v.items + 1 }) (m.top ∷ (m.rest ++ ks)) (record m.top { begun = true } ∷ (m.rest ++ ks)) (ap (λ l. l ++ ks) m.is) refl (begun_covers m.top (m.rest ++ ks)) refl refl refl
      (λ d e top. subst (λ l. TopIs l (HasNext d)) m.is top))
  stays_still u (inr (inl m)) =
      let ks = known_of v.chains in
      subst (λ z. Named program source h (seen w z x)) (sym m.after)
      (still (suspending m.top m.rest m.wait v) ((m.top ∷ m.rest) ++ ks) (m.rest ++ m.top ∷ ks) (ap (λ l. l ++ ks) m.may.is) refl (among ((m.top ∷ m.rest) ++ ks) (m.rest ++ m.top ∷ ks) (suspended_in m.top m.rest ks)) refl refl refl
      (λ d e top. let none = ap child_cell m.may.no_child in let no : ⊥ = cc in absurd no))
  stays_still u (inr (inr (inl m))) =
      let ks = known_of v.chains in
      subst (λ z. Named program source h (seen w z x)) (sym m.after)
      (still (giving m.bottom m.above v) (m.above ++ m.bottom ∷ ks) (m.above ++ m.bottom ∷ ks) (ap (λ l. l ++ ks) m.may.is ∙ append_assoc m.above (m.bottom ∷ []) ks) refl (among (m.above ++ m.bottom ∷ ks) (m.above ++ m.bottom ∷ ks) (λ t a. a)) refl refl refl
      (λ d e top. top_above m.above m.bottom (HasNext d) m.may.others (subst (λ l. TopIs l (HasNext d)) m.may.is top)))
  stays_still u (inr (inr (inr (inl m)))) =
      let us = m.chain.known ∷ known_of (without_chain m.chain.known.note.cell v.chains) in
      subst (λ z. Named program source h (seen w z x)) (sym m.after)
      (still (restarting m.chain v) (known_of v.chains) us (ap (λ l. l ++ known_of v.chains) m.may.none) refl (among (known_of v.chains) us (restarted_in m.chain v.chains m.may.carried)) refl refl refl
      (λ d e top. absurd (subst (λ l. TopIs l (HasNext d)) m.may.none top)))
  stays_still u (inr (inr (inr (inr m)))) =
      let ts = v.threads ++ known_of v.chains in
      subst (λ z. Named program source h (seen w z x)) (sym m.after)
      (still (exporting m.frame v) ts ts refl refl (among ts ts (λ t a. a)) refl refl refl (λ d e top. top))

  module _ (T : Threads h x) (sees : HasSeen h v) where
    -- ---- a private item

    makes : (u : View) (h' : Heap) → Makes program source h v u h' → Named program source h' (seen w u x)
    makes u h' m =
        let o = m.of in
        let c = o.change in
        let k = o.private in
        subst (λ g. Named program source g (seen w u x)) (sym m.heap)
        (subst (λ z. Named program source (heap_on h o.top c) (seen w z x)) (sym o.after)
        (item_kept program source h x N w T (record v { threads = went o.top c.own ∷ o.rest; frame_bytes = v.frame_bytes + frame_made program o.top.path o.top.thread }) o.top o.rest c o.is refl (refl, refl, refl, refl) (enough h v (next_move program source o.top) c sees o.can) k.child k.added k.counters k.live))

    -- ---- a fork

    forks : (u : View) (h' : Heap) → Forks program source h v u h' → Named program source h' (seen w u x)
    forks u h' m =
        let o = m.of in
        let c = o.change in
        let top = o.top in
        let g = heap_on h top c in
        let here = (top_of h x w top o.rest T o.is).there in
        let enabled : Enabled h (next_move program source top) c = at_once program source h top c o.can in
        let change = item_changes program source h top.path top.thread c enabled in
        let some : c.child ≢ None = (let made = o.made in λ e. let no : ⊥ = cc in no) in
        let same : c.own.counters ≡ top.thread.counters = change.fork some in
        let one : one_if c.child ≡ 1 = ap one_if o.made in
        let sum = change.counters in
        let draw = change.draws (λ z. omega (arith, z, sum, one, same)) in
        let s : HStep program source h top.path g = record { thread = top.thread; change = c; here = here; enabled = enabled; next = refl } in
        let A : AfterFork h top.path top.thread c.own o.child g = fork_makes program source h g top.path o.child s o.made in
        let name : N.name o.cell ≡ Some (Future (child_path top)) = P.told.named (Future (child_path top)) o.cell o.name in
        let on = heap_goes program source h x N w top c T.numbered here enabled (λ e. ap N.name (named_of program source h x N o.cell (Future (child_path top)) name).one ∙ name) same (λ q i e. let none = draw.2 in let no : ⊥ = cc in absurd no) in
        let child = born o.cell (child_path top) o.child in
        let u' = beginning child (went top c.own) o.rest v in
        let told = told_top program source h N.name x.value v top o.rest o.is P in
        let above = told_here N.name v.names top (o.rest ++ known_of v.chains) told in
        subst (λ k. Named program source k (seen w u x)) (sym m.heap)
        (subst (λ z. Named program source g (seen w z x)) (sym o.after)
        (calm program source h x N w g u' on
        (λ n. stays_of program source h top.path top.thread c n here enabled (inl (subst IsLive (sym draw.1) tt)) (λ q i e. let none = draw.2 in let no : ⊥ = cc in absurd no))
        (λ d e. inr (λ p is. (o.child, subst (λ q. g.thread q ≡ Some o.child) (same_future N.name d p o.cell (child_path top) is name (let f = ap child_cell o.may.named in cc)) A.child_there)))
        (record {
          told = told_cons N.name v.names child (went top c.own ∷ (o.rest ++ known_of v.chains)) (record { note = name; knows = child_knows v.names program source h top.path top.thread c o.child o.made above.knows enabled (o.cell, o.name) (λ other. absurd (other same)) })
              (told_cons N.name v.names (went top c.own) (o.rest ++ known_of v.chains) (told_went program source h N.name v.names top c enabled (λ e. (o.cell, o.name)) (λ other. absurd (other same)) above) (told_rest N.name v.names top (o.rest ++ known_of v.chains) told));
          coming = λ d e. let no : ⊥ = cc in absurd no;
          stored = (parts_on program source h g N.name N.name x.value x.value v (λ k n e. e) on.grows (λ k n p e z i. i) P).stored;
        })))

pub moves_keep : MovesKept
moves_keep program source h h' x w u T N less sees (inl m) = subst (λ k. Named program source k (seen w u x)) (sym m.1) (stays_still program source h x N w u m.0)
moves_keep program source h h' x w u T N less sees (inr (inl m)) = makes program source h x N w T sees u h' m
moves_keep program source h h' x w u T N less sees (inr (inr m)) = forks program source h x N w T sees u h' m
