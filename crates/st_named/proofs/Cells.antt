-- A cell is named, for a counter or for the next child of the top thread: named_counter and named_child, both by new_name.
use Rattle.std.proofs.Common.{◌≡◌, ◌≢◌, ◌⊎◌, inl, inr, ⊎_elim, ℕ, ◌<◌, Bool, true, false, cond, ◌==◌, List, [], ◌∷◌, ◌++◌, Option, Some, None, refl, sym, ap, ◌∙◌, subst, arith, eq-eqb}
use Rattle.std.specs.Prelude.{◌&&◌}
use Rattle.std.specs.List.{Contains}
use Rattle.std.specs.Str.{bytes_eq}
use Rattle.std.proofs.lemmas.List.{same_from_push}
use Rattle.std.proofs.lemmas.Slice.Eq.{bytes_eq-Decides}
use mathlib.Core.Logic.{dite}
use native.Mathlib.Decide.{ℕ_discrete}
use Rattle.st_base.specs.declared.thread.Held.{Held}
use Rattle.st_base.specs.declared.thread.Held.TheVariants.{Number, Future, Counter}
use Rattle.st_base.specs.declared.thread.Thread.{Thread}
use Rattle.st_words.specs.declared.view.Known.{Known}
use Rattle.st_words.specs.declared.view.View.{View}
use Rattle.st_words.specs.Encodings.{thread_owner, counter_owner, count_in}
use Rattle.st_words.specs.Names.{IsName}
use Rattle.st_words.specs.Careful.{TopIs}
use Rattle.st_words.proofs.Lists.{contains_here}
use Rattle.st_model.specs.declared.program.Program.{Program}
use Rattle.st_model.specs.Memory.{Data}
use Rattle.st_model.specs.Heap.{Path, Heap, Change, Moves, Enabled}
use Rattle.st_laws.specs.Names.{IsThread, IsMade}
use Rattle.st_laws.proofs.HeapSteps.{eq_same, same_thread}
use Rattle.st_laws.proofs.Placing.{same_counter}
use Rattle.st_made.specs.Items.{went, child_path, next_move, IsAtFork}
use Rattle.st_made.specs.Runs.{known_of, all_known}
use Rattle.st_made.specs.Events.{MakesCounter}
use Rattle.st_made.proofs.MadeRuns.{at_once}
use Rattle.st_world.specs.Functions.{put}
use Rattle.st_world.specs.World.{World, slot_of, cargo_of, seen}
use Rattle.st_world.proofs.Functions.{put_here, put_other, put_case, put_all}
use Rattle.st_threads.specs.Behind.{heap_on}
use Rattle.st_threads.specs.Holding.{IsOf, Threads}
use Rattle.st_threads.proofs.Holdings.{told_laws as threads_told}
use Rattle.st_names.specs.Naming.{OwnerOf, ShowsName, CellHolds, ViewNames, Named}
use Rattle.st_names.proofs.Heaps.{Grows, NameStays, grows_same, grows_after, own_after, threads_back, made_back, count_case, stays_same, stays_of, shows_on}
use Rattle.st_names.proofs.Told.{Tells, Extends, PartsOf, child_cell, child_of, told_cons, told_extends, told_here, told_more, told_rest, told_went, parts_on, parts_view}
use Rattle.st_names.proofs.Follows.{named_of}
use Rattle.st_named.proofs.Keeping.{slot_on, children_on, parts, parts_at, told_top, none_coming, top_of}

-- ---- names

abbrev held_by : Held → Held → Bool
held_by (Future p) (Future q) = bytes_eq p q
held_by (Counter p k) (Counter q j) = bytes_eq p q && (k == j)
held_by a b = false

held_same : (a : Held) → IsName a → held_by a a ≡ true
held_same (Number n) is = absurd is
held_same (Future p) is = eq_same p
held_same (Counter p k) is = ap (λ b. b && (k == k)) (eq_same p) ∙ eq-eqb k k refl

held_true : (a b : Held) → held_by a b ≡ true → a ≡ b
held_true (Future p) (Future q) e = ap Future ((bytes_eq-Decides p q).0 e)
held_true (Counter p k) (Counter q j) e = let s = same_counter p k q j e in λ i. Counter (s.0 i) (s.1 i)
held_true (Future p) (Number n) e = let no : ⊥ = cc in absurd no
held_true (Future p) (Counter q j) e = let no : ⊥ = cc in absurd no
held_true (Counter p k) (Number n) e = let no : ⊥ = cc in absurd no
held_true (Counter p k) (Future q) e = let no : ⊥ = cc in absurd no
held_true (Number n) b e = let no : ⊥ = cc in absurd no

held_other : (a b : Held) (t : Bool) → held_by a b ≡ t → a ≢ b → t ≡ false
held_other a b true e ne = absurd (ne (held_true a b e))
held_other a b false e ne = refl

pub owner_on : (name name' : ℕ → Option Held) (n : Held) (owner : ℕ) → Extends name name' → OwnerOf name n owner → OwnerOf name' n owner
owner_on name name' (Number k) owner extends of = of
owner_on name name' (Future p) owner extends (inl root) = inl root
owner_on name name' (Future p) owner extends (inr of) = inr (of.0, of.1, of.2, of.3, of.4, extends of.2 (Future of.0) of.5)
owner_on name name' (Counter p k) owner extends of = (of.0, of.1, extends of.0 (Future p) of.2)

-- ---- one cell more has a name

module _ (program : Program) (source : Data) (h : Heap) (x : World) (N : Named program source h x) (w : ℕ) (c n : ℕ) (new : Held) where
  abbrev name' : ℕ → Option Held
  name' = put N.name c (Some new)

  abbrev cell' : Held → ℕ
  cell' k = cond (held_by k new) c (N.cell k)

  pub extends : N.name c ≡ None → Extends N.name name'
  extends none d k e = put_other N.name c (Some new) d (λ s. let f : N.name c ≡ Some k = ap N.name (sym s) ∙ e in let no : ⊥ = cc in no) ∙ e

  pub record Fresh (h' : Heap) (v : View) : Type 0 where
    pub is : IsName new
    pub unnamed : N.name c ≡ None
    pub below : c < x.cells
    pub unused : (d : ℕ) → N.name d ≢ Some new
    pub owner : OwnerOf N.name new n
    pub shows : ShowsName h' (x.state c) (x.value c) new
    pub grows : Grows program source h h'
    pub others : (k : Held) → k ≢ new → NameStays h h' k
    pub threads : (p : Path) → IsThread h' p → IsThread h p
    pub counters : (p : Path) (k : ℕ) → IsMade h' p k → IsMade h p k ⊎ (new ≡ Counter p k)
    pub counts : (p : Path) (k : ℕ) → h'.count p k ≢ 0 → IsMade h' p k
    pub child : (p : Path) → new ≡ Future p → child_cell v.child ≡ Some c
    pub coming : (d : ℕ) → child_cell (x.view w).child ≡ Some d → child_cell v.child ≡ Some d
    pub view : PartsOf program source h' name' x.value v

  module _ (h' : Heap) (v : View) (X : Fresh h' v) where
    same_cell : (d : ℕ) (k : Held) → N.name d ≡ Some k → cell' k ≡ N.cell k
    same_cell d k e = ap (λ (b : Bool). cond b c (N.cell k)) (held_other k new (held_by k new) refl (λ s. X.unused d (e ∙ ap Some s)))

    here : cell' new ≡ c
    here = ap (λ (b : Bool). cond b c (N.cell new)) (held_same new X.is)

    found : (k : Held) → N.name (N.cell k) ≡ Some k → name' (cell' k) ≡ Some k
    found k e = ap name' (same_cell (N.cell k) k e) ∙ extends X.unnamed (N.cell k) k e

    cell_on : (d : ℕ) (o : Option Held) → N.name d ≡ o → CellHolds program source h N.name N.cell d (x.owner d) (x.state d) (x.value d) o → CellHolds program source h' name' cell' d (x.owner d) (x.state d) (x.value d) o
    cell_on d None e k = k
    cell_on d (Some a) e k = record {
      owner_word = owner_on N.name name' a (x.owner d) (extends X.unnamed) k.owner_word;
      one = same_cell d a e ∙ k.one;
      shows = shows_on program source h h' (x.state d) (x.value d) a X.grows (X.others a (λ s. X.unused d (e ∙ ap Some s))) k.shows;
    }

    cell_holds : (d : ℕ) → CellHolds program source h' name' cell' d (put x.owner c n d) (x.state d) (x.value d) (name' d)
    cell_holds d = dite (ℕ_discrete d c)
        (λ (e : d ≡ c). subst (λ k. CellHolds program source h' name' cell' k (put x.owner c n k) (x.state k) (x.value k) (name' k)) (sym e)
        (subst (λ o. CellHolds program source h' name' cell' c o (x.state c) (x.value c) (name' c)) (sym (put_here x.owner c n))
        (subst (λ o. CellHolds program source h' name' cell' c n (x.state c) (x.value c) o) (sym (put_here N.name c (Some new)))
        (record { owner_word = owner_on N.name name' new n (extends X.unnamed) X.owner; one = here; shows = X.shows }))))
        (λ (d' : d ≢ c). subst (λ o. CellHolds program source h' name' cell' d o (x.state d) (x.value d) (name' d)) (sym (put_other x.owner c n d d'))
        (subst (λ o. CellHolds program source h' name' cell' d (x.owner d) (x.state d) (x.value d) o) (sym (put_other N.name c (Some new) d d')) (cell_on d (N.name d) refl (N.cell_holds d))))

    pub new_name : Named program source h' (seen w v (record x { owner = put x.owner c n }))
    new_name = record {
      name = name';
      cell = cell';
      cell_holds = cell_holds;
      below = λ d k e. ⊎_elim (λ (m : (d ≡ c) × (Some new ≡ Some k)). subst (λ i. i < x.cells) (sym m.0) X.below) (λ (m : (d ≢ c) × (N.name d ≡ Some k)). N.below d k m.1) (put_case N.name c (Some new) d (Some k) e);
      threads = λ p t. found (Future p) (N.threads p (X.threads p t));
      counters = λ p k m. elim (X.counters p k m) [
        | inl old ↦ found (Counter p k) (N.counters p k old)
        | inr e ↦ subst (λ a. name' (cell' a) ≡ Some a) e (ap name' here ∙ put_here N.name c (Some new))
      ];
      counts = X.counts;
      children = λ d p e. elim (put_case N.name c (Some new) d (Some (Future p)) e) [
        | inl m ↦ let f = m.1 in let z = child_of v.child c (X.child p (let s : new ≡ Future p = cc in s)) in inr (w, z.0, ap (λ (k : View). k.child) (put_here x.view w v) ∙ z.1, z.2 ∙ sym m.0)
        | inr m ↦ children_on program source h x N w h' v X.grows (λ k f. inl (X.coming k f)) d p m.1
      ];
      views = λ q. put_all (λ (k : ℕ) (y : View). ViewNames program source h' name' cell' x.value y) x.view w v q
          (λ e. parts_view program source h' name' cell' x.value v X.view)
          (λ d. parts_view program source h' name' cell' x.value (x.view q) (parts_on program source h h' N.name name' x.value x.value (x.view q) (extends X.unnamed) X.grows (λ k i p e z s. s) (parts program source h x N q)));
      slots = λ z. slot_on program source h h' N.name name' N.cell cell' (slot_of x z) (cargo_of x z) (extends X.unnamed) (N.slots z);
    }

-- ---- which cells have names

owner_some : (name : ℕ → Option Held) (n : Held) (owner : ℕ) → OwnerOf name n owner → owner ≢ 0
owner_some name (Number k) owner of z = of
owner_some name (Future p) owner (inl root) z = let e = root.1 in omega (arith, e, z)
owner_some name (Future p) owner (inr of) z = let e = of.4 in omega (arith, e, z)
owner_some name (Counter p k) owner of z = let e = of.1 in omega (arith, e, z)

pub top_is : (ts : List Known) (P : Known → Type 0) → TopIs ts P → (t : Known) × (rest : List Known) × (ts ≡ t ∷ rest) × P t
top_is [] P top = absurd top
top_is (t ∷ ts) P top = (t, ts, refl, top)

pub among_all : (v : View) (top : Known) (below : List Known) → v.threads ≡ top ∷ below → Contains (all_known v) top
among_all v top below is = subst (λ l. Contains (l ++ known_of v.chains) top) (sym is) (contains_here top (below ++ known_of v.chains))

module _ (program : Program) (source : Data) (h : Heap) (x : World) (N : Named program source h x) (w : ℕ) (T : Threads h x) where
  abbrev u : View
  u = x.view w

  P : PartsOf program source h N.name x.value u
  P = parts program source h x N w

  none_by : (c : ℕ) (o : Option Held) → N.name c ≡ o → CellHolds program source h N.name N.cell c (x.owner c) (x.state c) (x.value c) o → x.owner c ≡ 0 → (N.name c ≡ None) × (x.state c ≡ 0)
  none_by c None e k z = (e, k.1)
  none_by c (Some a) e k z = absurd (owner_some N.name a (x.owner c) k.owner_word z)

  unnamed : (c : ℕ) → x.owner c ≡ 0 → (N.name c ≡ None) × (x.state c ≡ 0)
  unnamed c z = none_by c (N.name c) refl (N.cell_holds c) z

  module _ (c n : ℕ) (v : View) (free : x.owner c ≡ 0) (below : c < x.cells) (top : Known) (rest : List Known) (is : u.threads ≡ top ∷ rest) (turn : known_of v.chains ≡ known_of u.chains) (valued : v.valued ≡ u.valued) where
    K : IsOf h top
    K = top_of h x w top rest T is

    told : Tells N.name u.names (top ∷ (rest ++ known_of u.chains))
    told = told_top program source h N.name x.value u top rest is P

    note : N.name top.note.cell ≡ Some (Future top.path)
    note = (told_here N.name u.names top (rest ++ known_of u.chains) told).note

    -- the names after it
    more : (new : Held) → Tells (put N.name c (Some new)) ((new, c) ∷ u.names) (top ∷ (rest ++ known_of u.chains))
    more new = told_more (put N.name c (Some new)) u.names (top ∷ (rest ++ known_of u.chains)) new c (put_here N.name c (Some new)) (told_extends N.name (put N.name c (Some new)) u.names (top ∷ (rest ++ known_of u.chains)) (extends program source h x N w c n new (unnamed c free).0) told)

    pub named_counter : (change : Change) → next_move program source top ≡ Moves change → MakesCounter n top change → v.threads ≡ went top change.own ∷ rest → v.names ≡ (Counter top.path top.note.counters, c) ∷ u.names → child_cell v.child ≡ child_cell u.child → Named program source (heap_on h top change) (seen w v (record x { owner = put x.owner c n }))
    named_counter change can sort threads names child =
        let g = heap_on h top change in
        let k = top.thread.counters in
        let new = Counter top.path k in
        let name' = put N.name c (Some new) in
        let enabled : Enabled h (next_move program source top) change = at_once program source h top change can in
        let grows = grows_after program source h top.path top.thread change T.numbered K.there enabled in
        let missing : IsMade h top.path k → ⊥ = λ m. let e = ap (λ (t : Thread). t.counters) (same_thread h top.path top.thread m.0 K.there m.1.0) in let l = m.1.1 in omega (arith, e, l) in
        let none : h.count top.path k ≡ 0 = dite (ℕ_discrete (h.count top.path k) 0) (λ z. z) (λ (ne : h.count top.path k ≢ 0). absurd (missing (N.counts top.path k ne))) in
        let added : (q : Path) (i : ℕ) → change.added ≡ Some (q, i) → ⊥ = λ q i e. let z = sort.added in let no : ⊥ = cc in no in
        let same : (q : Path) (i : ℕ) → g.count q i ≡ h.count q i = λ q i. elim (count_case change.added h.count q i) [ inl e ↦ absurd (added q i e) | inr e ↦ e ] in
        let grown = sort.counters in
        let free' = unnamed c free in
        new_name program source h x N w c n new g v (record {
          is = tt;
          unnamed = free'.0;
          below = below;
          unused = λ d e. missing (named_of program source h x N d new e).shows.1;
          owner = (top.note.cell, sort.word ∙ ap (counter_owner top.note.cell) K.counters, note);
          shows = (ap count_in free'.1 ∙ sym (same top.path k ∙ none), (change.own, (own_after h top.path top.thread change, omega (arith, grown))));
          grows = grows;
          others = λ a ne. stays_of program source h top.path top.thread change a K.there enabled (inl sort.live) (λ q i e. absurd (added q i e));
          threads = λ p t. elim (threads_back program source h top.path top.thread change K.there enabled p t) [ inl old ↦ old | inr m ↦ absurd (m.1 sort.child) ];
          counters = λ p i m. elim (made_back program source h top.path top.thread change K.there enabled p i m) [
            | inl old ↦ inl old
            | inr m ↦ let a = m.1 in let b = m.2 in let e : k ≡ i = omega (arith, a, b, grown) in inr (λ j. Counter (sym m.0 j) (e j))
          ];
          counts = λ p i ne. grows.made p i (N.counts p i (λ z. ne (same p i ∙ z)));
          child = λ p e. let no : ⊥ = cc in absurd no;
          coming = λ d e. child ∙ e;
          view = parts_at program source g name' x.value v ((new, c) ∷ u.names) (went top change.own ∷ rest) (known_of u.chains) (child_cell u.child) u.valued
              (names ∙ ap (λ i. (Counter top.path i, c) ∷ u.names) K.counters) threads turn child valued (record {
                told = told_cons name' ((new, c) ∷ u.names) (went top change.own) (rest ++ known_of u.chains)
                    (told_went program source h name' ((new, c) ∷ u.names) top change enabled (λ some. absurd (some sort.child)) (λ other. (c, contains_here (new, c) u.names)) (told_here name' ((new, c) ∷ u.names) top (rest ++ known_of u.chains) (more new)))
                    (told_rest name' ((new, c) ∷ u.names) top (rest ++ known_of u.chains) (more new));
                coming = λ d e. absurd (none_coming program source h N.name x.value u top rest change is enabled sort.child P d e);
                stored = (parts_on program source h g N.name name' x.value x.value u (extends program source h x N w c n new free'.0) grows (λ d i p e z s. s) P).stored;
              });
        })

    pub named_child : IsAtFork program source top → u.child ≡ None → n ≡ thread_owner top.note.cell top.note.forks → v.threads ≡ u.threads → v.names ≡ (Future (top.path ++ top.note.forks ∷ []), c) ∷ u.names → child_cell v.child ≡ Some c → Named program source h (seen w v (record x { owner = put x.owner c n }))
    named_child fork none word threads names child =
        let new = Future (child_path top) in
        let missing : IsThread h (child_path top) → ⊥ = λ t. let z = T.numbered.free top.path top.thread top.thread.forks K.there (omega arith) in let e = t.1 in let no : ⊥ = cc in no in
        let free' = unnamed c free in
        new_name program source h x N w c n new h v (record {
          is = tt;
          unnamed = free'.0;
          below = below;
          unused = λ d e. elim (N.children d (child_path top) e) [
            | inl t ↦ missing t
            | inr y ↦
                let k = top_is (x.view y.0).threads _ ((parts program source h x N y.0).coming y.1.cell (ap child_cell y.2)) in
                let f : Some (Future (child_path k.0)) ≡ Some (Future (child_path top)) = sym k.3.0 ∙ (ap N.name y.3 ∙ e) in
                let p : child_path k.0 ≡ child_path top = cc in
                let at : y.0 ≡ w = threads_told.one_view h x y.0 w k.0 top T (among_all (x.view y.0) k.0 k.1 k.2) (among_all u top rest is) (same_from_push k.0.path top.path k.0.thread.forks top.thread.forks p).0 in
                let some : u.child ≡ Some y.1 = subst (λ q. (x.view q).child ≡ Some y.1) at y.2 in
                let no : ⊥ = cc in no
          ];
          owner = inr (top.path, top.thread.forks, top.note.cell, refl, word ∙ ap (thread_owner top.note.cell) K.forks, note);
          shows = record { full = λ f. let z = free'.1 in let no : ⊥ = omega (arith, f, z) in absurd no; ended = λ k e. absurd (missing (e.0, e.1)) };
          grows = grows_same program source h;
          others = λ k ne. stays_same h k;
          threads = λ p t. t;
          counters = λ p k m. inl m;
          counts = N.counts;
          child = λ p e. child;
          coming = λ d e. let z = ap child_cell none in let no : ⊥ = cc in absurd no;
          view = parts_at program source h (put N.name c (Some new)) x.value v ((new, c) ∷ u.names) (top ∷ rest) (known_of u.chains) (Some c) u.valued
              (names ∙ ap (λ k. (Future (top.path ++ k ∷ []), c) ∷ u.names) K.forks) (threads ∙ is) turn child valued (record {
                told = more new;
                coming = λ d e. let s : c ≡ d = cc in (subst (λ k. put N.name c (Some new) k ≡ Some new) s (put_here N.name c (Some new)), fork);
                stored = (parts_on program source h h N.name (put N.name c (Some new)) x.value x.value u (extends program source h x N w c n new free'.0) (grows_same program source h) (λ k i p e z s. s) P).stored;
              });
        })
