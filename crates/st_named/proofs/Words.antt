-- A State word is changed (state_kept) or a Value word stored (value_kept).
use Rattle.std.proofs.Common.{◌≡◌, ◌≢◌, ◌⊎◌, inl, inr, ⊎_elim, ℕ, suc, ◌+◌, ◌^◌, ◌<◌, Bool, true, false, cond, List, ◌∷◌, ◌++◌, Option, Some, None, refl, sym, ap, ◌∙◌, subst, arith, ◌==◌, eq-eqb}
use Rattle.std.specs.List.{Contains, filter}
use Rattle.std.proofs.lemmas.Bool.Decides.{leb_tells}
use mathlib.Core.Logic.{dite}
use native.Mathlib.Decide.{ℕ_discrete}
use Rattle.st_base.specs.declared.thread.Held.{Held}
use Rattle.st_base.specs.declared.thread.Held.TheVariants.{Number, Future, Counter}
use Rattle.st_base.specs.declared.thread.Standing.{Standing}
use Rattle.st_base.specs.declared.thread.Standing.TheVariants.{Ended}
use Rattle.st_base.specs.declared.thread.Thread.{Thread}
use Rattle.st_words.specs.declared.view.Known.{Known}
use Rattle.st_words.specs.declared.view.Waiter.{Waiter}
use Rattle.st_words.specs.declared.view.View.{View}
use Rattle.st_words.specs.Encodings.{full_word, count_in, head_in, counter_word, count_after, is_counter}
use Rattle.st_words.specs.Steps.{MayChange}
use Rattle.st_words.specs.Views.{other_cell, owner_seen, counts_cell}
use Rattle.st_words.proofs.Lists.{contains_case, filter_out, same_true}
use Rattle.st_words.proofs.Safe.{thread_kind, counter_kind}
use Rattle.st_model.specs.declared.program.Program.{Program}
use Rattle.st_model.specs.Memory.{Data}
use Rattle.st_model.specs.Ordinary.{counted}
use Rattle.st_model.specs.Heap.{Path, Heap, Move, Moves, HasEnded, Enabled, move, count_up}
use Rattle.st_laws.specs.Names.{IsMade}
use Rattle.st_laws.proofs.HeapSteps.{same_thread}
use Rattle.st_made.specs.Items.{IsLive, ending, next_move, EndsWith}
use Rattle.st_made.specs.Runs.{known_of}
use Rattle.st_made.proofs.MadeRuns.{at_once}
use Rattle.st_world.specs.Functions.{put}
use Rattle.st_world.specs.World.{World, slot_of, cargo_of, seen}
use Rattle.st_world.proofs.Functions.{put_here, put_other}
use Rattle.st_lists.specs.Laws.{KnowsKind}
use Rattle.st_threads.specs.Behind.{heap_on, Rests, future_behind, counter_behind, state_behind}
use Rattle.st_threads.specs.Holding.{IsOf, Threads}
use Rattle.st_names.specs.Naming.{OwnerOf, ShowsName, WillEnd, CellHolds, Named}
use Rattle.st_names.proofs.Heaps.{NameStays, own_after, not_live, count_here, stays_same, stays_of, shows_on}
use Rattle.st_names.proofs.Told.{PartsOf, HasStored, child_cell, told_here, told_rest, parts_on}
use Rattle.st_named.proofs.ViewsAfter.{SameParts}
use Rattle.st_named.proofs.Keeping.{HeapOn, kept, parts, parts_at, parts_same, slots_same, heap_same, heap_goes, top_of, told_top, goes_view, none_coming}
use Rattle.st_names.proofs.Follows.{named_of}

-- ---- words

word_parts : (k h : ℕ) → h < 2 ^ 17 → (count_in (counter_word k h) ≡ k) × (head_in (counter_word k h) ≡ h)
word_parts k h l = (omega (arith, l), omega (arith, l))

count_is : (n : ℕ) → count_after n ≡ counted n
count_is n = ⊎_elim
    (λ x. ap (λ (b : Bool). cond b (n + 1) n) x.0 ∙ (let l = x.1 in omega (arith, l)))
    (λ x. ap (λ (b : Bool). cond b (n + 1) n) x.0 ∙ (let l = x.1 in omega (arith, l))) (leb_tells (suc n) 140737488355327)

-- ---- one end

abbrev standing_by : Move → Option Standing
standing_by (Moves c) = Some c.own.standing
standing_by _ = None

-- a thread that is at its end, or has come to it, has one value
one_will : (program : Program) (source : Data) (h : Heap) (p : Path) (t : Thread) (m n : ℕ) → h.thread p ≡ Some t → IsLive t.standing → move program source p t ≡ Moves (ending t n) → WillEnd program source h p m → m ≡ n
one_will program source h p t m n here live is (inl e) = absurd (not_live t.standing m (ap (λ (y : Thread). y.standing) (same_thread h p t e.0 here e.1) ∙ e.2) live)
one_will program source h p t m n here live is (inr e) =
    let same : t ≡ e.0 = same_thread h p t e.0 here e.1 in
    let f : Moves (ending e.0 m) ≡ Moves (ending t n) = sym e.2 ∙ (ap (λ u. move program source p u) (sym same) ∙ is) in
    let g : Some (Ended m) ≡ Some (Ended n) = ap standing_by f in cc

module _ (program : Program) (source : Data) (h : Heap) (x : World) (N : Named program source h x) (w : ℕ) (T : Threads h x) where
  abbrev u : View
  u = x.view w

  P : PartsOf program source h N.name x.value u
  P = parts program source h x N w

  note : (top : Known) (below : List Known) → u.threads ≡ top ∷ below → N.name top.note.cell ≡ Some (Future top.path)
  note top below is = (told_here N.name u.names top (below ++ known_of u.chains) (told_top program source h N.name x.value u top below is P)).note

  -- ---- a Value word is stored: that with which the top thread ends

  module _ (c n : ℕ) (top : Known) (below : List Known) (is : u.threads ≡ top ∷ below) (at : top.note.cell ≡ c) (ends : EndsWith program source top n) where
    K : IsOf h top
    K = top_of h x w top below T is

    named : (d : ℕ) → d ≡ c → N.name d ≡ Some (Future top.path)
    named d e = ap N.name (e ∙ sym at) ∙ note top below is

    dead : (m : ℕ) → HasEnded h top.path m → ⊥
    dead m e = not_live top.thread.standing m (ap (λ (t : Thread). t.standing) (same_thread h top.path top.thread e.0 K.there e.1) ∙ e.2) K.live

    -- whoever stored it stored this value
    value_stays : (d m : ℕ) (p : Path) → N.name d ≡ Some (Future p) → WillEnd program source h p m → x.value d ≡ m → put x.value c n d ≡ m
    value_stays d m p e f z = dite (ℕ_discrete d c)
        (λ (s : d ≡ c).
        let own : p ≡ top.path = (let g = named d s in cc) in
        ap (put x.value c n) s ∙ (put_here x.value c n ∙ sym (one_will program source h top.path top.thread m n K.there K.live ends (subst (λ q. WillEnd program source h q m) own f))))
        (λ (ne : d ≢ c). put_other x.value c n d ne ∙ z)

    value_shows : (d : ℕ) (k : Held) → N.name d ≡ Some k → ShowsName h (x.state d) (x.value d) k → ShowsName h (x.state d) (put x.value c n d) k
    value_shows d k e s = dite (ℕ_discrete d c)
        (λ (q : d ≡ c).
        let f : Future top.path ≡ k = (let g = named d q in cc) in
        let r : ShowsName h (x.state d) (x.value d) (Future top.path) = subst (ShowsName h (x.state d) (x.value d)) (sym f) s in
        subst (ShowsName h (x.state d) (put x.value c n d)) f (record { full = λ z. absurd (dead (x.value d) (r.full z)); ended = r.ended }))
        (λ (ne : d ≢ c). subst (λ z. ShowsName h (x.state d) z k) (sym (put_other x.value c n d ne)) s)

    value_stored : HasStored program source h N.name (put x.value c n) ((c, n) ∷ filter (other_cell c) u.valued)
    value_stored d m i = ⊎_elim
        (λ (e : (c, n) ≡ (d, m)). (top.path, named d (ap (λ (y : ℕ × ℕ). y.0) (sym e)), inr (top.thread, K.there, subst (λ k. EndsWith program source top k) (ap (λ (y : ℕ × ℕ). y.1) e) ends), ap (put x.value c n) (ap (λ (y : ℕ × ℕ). y.0) (sym e)) ∙ (put_here x.value c n ∙ ap (λ (y : ℕ × ℕ). y.1) e)))
        (λ (k : Contains (filter (other_cell c) u.valued) (d, m)). let a = P.stored d m (filter_out (other_cell c) u.valued (d, m) k).0 in (a.0, a.1, a.2, value_stays d m a.0 a.1 a.2 a.3)) (contains_case (d, m) (c, n) (filter (other_cell c) u.valued) i)

    pub value_kept : (v : View) → v.names ≡ u.names → v.threads ≡ u.threads → v.chains ≡ u.chains → v.child ≡ u.child → v.valued ≡ (c, n) ∷ filter (other_cell c) u.valued → Named program source h (seen w v (record x { value = put x.value c n }))
    value_kept v names threads chains child valued = kept program source h x N w h x.state (put x.value c n) (slot_of x) (cargo_of x) v (record {
      heap = heap_same program source h x N w;
      empty = λ d e z. z;
      shows = value_shows;
      stays = value_stays;
      coming = λ d e. inl (ap child_cell child ∙ e);
      view = parts_at program source h N.name (put x.value c n) v u.names u.threads (known_of u.chains) (child_cell u.child) ((c, n) ∷ filter (other_cell c) u.valued) names threads (ap known_of chains) (ap child_cell child) valued (record { told = P.told; coming = P.coming; stored = value_stored });
      slots = slots_same program source h x N w h;
    })

  -- ---- a State word is changed

  named_some : (c : ℕ) (o : Option Held) → N.name c ≡ o → CellHolds program source h N.name N.cell c (x.owner c) (x.state c) (x.value c) o → x.owner c ≢ 0 → (a : Held) × (N.name c ≡ Some a)
  named_some c None e k some = absurd (some k.0)
  named_some c (Some a) e k some = (a, e)

  kind_by : (a : Held) (owner : ℕ) → OwnerOf N.name a owner → ((p : Path) × (a ≡ Future p) × (is_counter owner ≡ false)) ⊎ ((p : Path) × (k : ℕ) × (a ≡ Counter p k) × (is_counter owner ≡ true))
  kind_by (Number n) owner of = absurd of
  kind_by (Future p) owner (inl root) = inl (p, refl, ap is_counter root.1 ∙ thread_kind 0 0)
  kind_by (Future p) owner (inr of) = inl (p, refl, ap is_counter of.4 ∙ thread_kind of.2 of.1)
  kind_by (Counter p k) owner of = inr (p, k, refl, ap is_counter of.1 ∙ counter_kind of.0 k)

  module _ (c old new : ℕ) (v : View) (same : SameParts u v) (some : x.owner c ≢ 0) (kind : KnowsKind (x.owner c) u c) (small : (y : Waiter) → Contains u.hand y → y.cell < 65536) (can : MayChange u c old new) (found : x.state c ≡ old) where
    abbrev Changed : Heap → Type 0
    Changed g = Named program source g (seen w v (record x { state = put x.state c new }))

    next : (g : Heap) (a : Held) → HeapOn program source h x N w g → N.name c ≡ Some a → ShowsName g new (x.value c) a → ((k : Held) → k ≢ a → NameStays h g k) → PartsOf program source g N.name x.value v → Changed g
    next g a on name shows others view = kept program source h x N w g (put x.state c new) x.value (slot_of x) (cargo_of x) v (record {
      heap = on;
      empty = λ d e z. put_other x.state c new d (λ q. some (ap x.owner (sym q) ∙ e)) ∙ z;
      shows = λ d k e s. dite (ℕ_discrete d c)
          (λ (q : d ≡ c).
          let f : a ≡ k = (let r : N.name d ≡ Some a = ap N.name q ∙ name in cc) in
          subst (λ z. ShowsName g z (x.value d) k) (sym (ap (put x.state c new) q ∙ put_here x.state c new)) (subst (λ i. ShowsName g new (x.value i) k) (sym q) (subst (ShowsName g new (x.value c)) f shows)))
          (λ (ne : d ≢ c). subst (λ z. ShowsName g z (x.value d) k) (sym (put_other x.state c new d ne))
          (shows_on program source h g (x.state d) (x.value d) k on.grows (others k (λ f. ne (sym (named_of program source h x N d k e).one ∙ (ap N.cell f ∙ (named_of program source h x N c a name).one)))) s));
      stays = λ d n p e f z. z;
      coming = λ d e. inl (same.2 ∙ e);
      view = view;
      slots = slots_same program source h x N w g;
    })

    rested : (g : Heap) (a : Held) → Rests program source h u v g → N.name c ≡ Some a → ShowsName h new (x.value c) a → Changed g
    rested g a r name shows = subst Changed (sym r.heap) (next h a (heap_same program source h x N w) name shows (λ k ne. stays_same h k) (parts_same program source h N.name x.value u v same r.of.threads P))

    not_full : is_counter (x.owner c) ≡ false → old ≢ full_word
    not_full f = elim can [
      | inl park ↦ park.1
      | inr (inl fill) ↦ fill.1
      | inr (inr (inl done)) ↦ let t = kind.1 done.0 in let no : ⊥ = cc in absurd no
      | inr (inr (inr join)) ↦ let t = kind.1 join.0 in let no : ⊥ = cc in absurd no
    ]

    counts : is_counter (x.owner c) ≡ true → (head_in new ≡ 0 → count_in new ≡ count_after (count_in old)) × (head_in new ≢ 0 → count_in new ≡ count_in old)
    counts t = elim can [
      | inl park ↦ let f = kind.0 park.0 in let no : ⊥ = cc in absurd no
      | inr (inl fill) ↦ let f = kind.0 fill.0 in let no : ⊥ = cc in absurd no
      | inr (inr (inl done)) ↦ let parts = word_parts (count_after (count_in old)) 0 (omega arith) in (λ z. ap count_in done.1 ∙ parts.0, λ ne. absurd (ne (ap head_in done.1 ∙ parts.1)))
      | inr (inr (inr join)) ↦
          let y = join.1.2 in
          let l = small y.0 y.1 in
          let e = y.2 in
          let parts = word_parts (count_in old) (join.1.0 + 1) (omega (arith, l, e)) in
          let head : head_in new ≡ join.1.0 + 1 = ap head_in join.1.5 ∙ parts.1 in
          (λ z. let no : ⊥ = omega (arith, head, z) in absurd no, λ ne. ap count_in join.1.5 ∙ parts.0)
    ]

    future_of : is_counter (x.owner c) ≡ false → (p : Path) × (N.name c ≡ Some (Future p))
    future_of f = let a = named_some c (N.name c) refl (N.cell_holds c) some in elim (kind_by a.0 (x.owner c) (named_of program source h x N c a.0 a.1).owner_word) [
      | inl k ↦ (k.0, a.1 ∙ ap Some k.1)
      | inr k ↦ let t = k.3 in let no : ⊥ = cc in absurd no
    ]

    counter_of : is_counter (x.owner c) ≡ true → (p : Path) × (k : ℕ) × (N.name c ≡ Some (Counter p k))
    counter_of t = let a = named_some c (N.name c) refl (N.cell_holds c) some in elim (kind_by a.0 (x.owner c) (named_of program source h x N c a.0 a.1).owner_word) [
      | inl k ↦ let f = k.2 in let no : ⊥ = cc in absurd no
      | inr k ↦ (k.0, k.1, a.1 ∙ ap Some k.2)
    ]

    -- a future
    future_kept : (b : Bool) → (new == full_word) ≡ b → is_counter (x.owner c) ≡ false → (g : Heap) → future_behind program source h b c u v g → Changed g
    future_kept true eq f g e =
        let o = e.of in
        let top = o.top in
        let change = ending top.thread o.value in
        let K = top_of h x w top o.below T o.is in
        let enabled : Enabled h (next_move program source top) change = at_once program source h top change o.can in
        let none : (q : Path) (i : ℕ) → change.added ≡ Some (q, i) → ⊥ = λ q i z. cc in
        let on = heap_goes program source h x N w top change T.numbered K.there enabled (λ made. absurd (made refl)) refl (λ q i z. absurd (none q i z)) in
        let name : N.name c ≡ Some (Future top.path) = subst (λ d. N.name d ≡ Some (Future top.path)) o.cell (note top o.below o.is) in
        let turn = known_of u.chains in
        subst Changed (sym e.heap) (next (heap_on h top change) (Future top.path) on name
        (record { full = λ z. (change.own, own_after h top.path top.thread change, ap Ended (sym (P.stored c o.value o.stored).3)); ended = λ m z. same_true new full_word eq })
        (λ k ne. stays_of program source h top.path top.thread change k K.there enabled (inr ne) (λ q i z. absurd (none q i z)))
        (parts_at program source (heap_on h top change) N.name x.value v u.names o.below turn (child_cell u.child) u.valued same.0 o.threads same.1 same.2 same.3 (record {
          told = told_rest N.name u.names top (o.below ++ turn) (told_top program source h N.name x.value u top o.below o.is P);
          coming = λ d z. absurd (none_coming program source h N.name x.value u top o.below change o.is enabled refl P d z);
          stored = (parts_on program source h (heap_on h top change) N.name N.name x.value x.value u (λ d k z. z) on.grows (λ d k p z r s. s) P).stored;
        })))
    future_kept false eq f g r =
        let a = future_of f in
        let shows = (named_of program source h x N c (Future a.0) a.1).shows in
        rested g (Future a.0) r a.1 (record {
          full = λ z. let t = eq-eqb new full_word z in let no : ⊥ = cc in absurd no;
          ended = λ m e. absurd (not_full f (sym found ∙ shows.ended m e));
        })

    -- a counter
    counter_kept : (b : Bool) → (head_in new == 0) ≡ b → is_counter (x.owner c) ≡ true → (g : Heap) → counter_behind program source h b c u v g → Changed g
    counter_kept true eq t g e =
        let o = e.of in
        let top = o.top in
        let change = o.change in
        let k = o.sort in
        let K = top_of h x w top o.below T o.is in
        let enabled : Enabled h (next_move program source top) change = at_once program source h top change o.can in
        let name : N.name c ≡ Some (Counter k.maker k.number) = P.told.named (Counter k.maker k.number) c k.name in
        let shows = (named_of program source h x N c (Counter k.maker k.number) name).shows in
        let one : (q : Path) (i : ℕ) → change.added ≡ Some (q, i) → (k.maker, k.number) ≡ (q, i) = λ q i z. let a = k.added in cc in
        let on = heap_goes program source h x N w top change T.numbered K.there enabled (λ made. absurd (made k.child)) k.counters (λ q i z. subst (λ (y : Path × ℕ). IsMade h y.0 y.1) (one q i z) shows.1) in
        let before : count_in old ≡ h.count k.maker k.number = ap count_in (sym found) ∙ shows.0 in
        let after : (heap_on h top change).count k.maker k.number ≡ counted (h.count k.maker k.number) = ap (λ a. count_up a h.count k.maker k.number) k.added ∙ count_here h.count k.maker k.number in
        subst Changed (sym e.heap) (next (heap_on h top change) (Counter k.maker k.number) on name
        ((counts t).0 (same_true (head_in new) 0 eq) ∙ (count_is (count_in old) ∙ (ap counted before ∙ sym after)), on.grows.made k.maker k.number shows.1)
        (λ a ne. stays_of program source h top.path top.thread change a K.there enabled (inl k.live) (λ q i z f. ne (f ∙ ap (λ (y : Path × ℕ). Counter y.0 y.1) (sym (one q i z)))))
        (goes_view program source h (heap_on h top change) N.name x.value u v top o.below change o.is o.threads same enabled k.child k.counters on.grows P))
    counter_kept false eq t g r =
        let a = counter_of t in
        let shows = (named_of program source h x N c (Counter a.0 a.1) a.2).shows in
        let other : head_in new ≢ 0 = λ z. let e = eq-eqb (head_in new) 0 z in let no : ⊥ = cc in no in
        rested g (Counter a.0 a.1) r a.2 ((counts t).1 other ∙ (ap count_in (sym found) ∙ shows.0), shows.1)

    pub state_kept : (b : Bool) → counts_cell (owner_seen c u.owners) ≡ b → (g : Heap) → state_behind program source h b c new u v g → Changed g
    state_kept true e g s = counter_kept (head_in new == 0) refl (sym kind.2 ∙ e) g s
    state_kept false e g s = future_kept (new == full_word) refl (sym kind.2 ∙ e) g s
