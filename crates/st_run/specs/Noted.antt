-- What the names of cells tell of a thread and its note. No thread has more forks or counters than there are cells, since each of its children and counters has a cell of its own
-- (few_forks, few_counters); and the thread of cell 0 is the root's where that cell's Owner word is the root's (root_first, first_root).
use Rattle.std.proofs.Common.{◌≡◌, ⊎_elim, ℕ, ◌≤◌, ◌<◌, [], ◌∷◌, ◌++◌, Option, Some, None, refl, sym, ◌∙◌, ap, subst, arith}
use Rattle.std.proofs.lemmas.List.{same_from_push}
use Rattle.st_base.specs.declared.thread.Held.{Held}
use Rattle.st_base.specs.declared.thread.Held.TheVariants.{Number, Future, Counter}
use Rattle.st_base.specs.declared.thread.Thread.{Thread}
use Rattle.st_words.specs.Encodings.{thread_owner}
use Rattle.st_model.specs.declared.program.Program.{Program}
use Rattle.st_model.specs.Memory.{Data}
use Rattle.st_model.specs.Heap.{Path, Heap}
use Rattle.st_laws.proofs.Numbering.{longer}
use Rattle.st_world.specs.World.{World}
use Rattle.st_names.specs.Naming.{CellHolds, Named}
use Rattle.st_names.proofs.Follows.{named_of}
use Rattle.st_run.specs.Pigeons.{few}
use Rattle.st_run.specs.Children.{HasChildren}

-- names that number a thread's children or counters
same_future : (q : Path) (j k : ℕ) → Future (q ++ j ∷ []) ≡ Future (q ++ k ∷ []) → j ≡ k
same_future q j k e = let path : q ++ j ∷ [] ≡ q ++ k ∷ [] = cc in (same_from_push q q j k path).1

same_counter : (q : Path) (j k : ℕ) → Counter q j ≡ Counter q k → j ≡ k
same_counter q j k e = cc

module _ (program : Program) (source : Data) (h : Heap) (x : World) (n : Named program source h x) where
  -- ---- how many

  -- so many things that have cells, each its own
  few_held : (count : ℕ) (held : ℕ → Held) → ((k : ℕ) → k < count → n.name (n.cell (held k)) ≡ Some (held k)) → ((j k : ℕ) → held j ≡ held k → j ≡ k) → count ≤ x.cells
  few_held count held named apart = few count x.cells (λ k. n.cell (held k))
      (λ k l. n.below (n.cell (held k)) (held k) (named k l))
      (λ j k a b e.
      let one = named j a in
      let two = named k b in
      let same : n.name (n.cell (held j)) ≡ n.name (n.cell (held k)) = ap n.name e in
      let held_same : held j ≡ held k = cc in
      apart j k held_same)

  pub few_forks : HasChildren h → (q : Path) (t : Thread) → h.thread q ≡ Some t → t.forks ≤ x.cells
  few_forks has q t there = few_held t.forks (λ k. Future (q ++ k ∷ [])) (λ k l. n.threads (q ++ k ∷ []) (has q t there k l)) (same_future q)

  pub few_counters : (q : Path) (t : Thread) → h.thread q ≡ Some t → t.counters ≤ x.cells
  few_counters q t there = few_held t.counters (λ k. Counter q k) (λ k l. n.counters q k (t, (there, l))) (same_counter q)

  -- ---- the root's cell

  module _ (owner : x.owner 0 ≡ thread_owner 0 0) where
    root_by : (o : Option Held) → n.name 0 ≡ o → CellHolds program source h n.name n.cell 0 (x.owner 0) (x.state 0) (x.value 0) o → n.name 0 ≡ Some (Future [])
    root_by None e holds = let none = holds.0 in let no : ⊥ = omega (arith, none, owner) in absurd no
    root_by (Some (Number k)) e holds = absurd holds.owner_word
    root_by (Some (Future path)) e holds = ⊎_elim
        (λ root. e ∙ ap (λ (q : Path). Some (Future q)) root.0)
        (λ child.
        let word = child.4 in
        let parent : child.2 ≡ 0 = omega (arith, word, owner) in
        let above : n.name 0 ≡ Some (Future child.0) = subst (λ (c : ℕ). n.name c ≡ Some (Future child.0)) parent child.5 in
        let same : path ≡ child.0 = cc in
        absurd (longer child.0 child.1 (sym child.3 ∙ same)))
        holds.owner_word
    root_by (Some (Counter q k)) e holds = let word = holds.owner_word.1 in let no : ⊥ = omega (arith, word, owner) in absurd no

    root_named : n.name 0 ≡ Some (Future [])
    root_named = root_by (n.name 0) refl (n.cell_holds 0)

    pub root_first : (c : ℕ) (q : Path) → n.name c ≡ Some (Future q) → c ≡ 0 → q ≡ []
    root_first c q named e =
        let root = root_named in
        let here : n.name 0 ≡ Some (Future q) = subst (λ (d : ℕ). n.name d ≡ Some (Future q)) e named in
        cc

    pub first_root : (c : ℕ) (q : Path) → n.name c ≡ Some (Future q) → q ≡ [] → c ≡ 0
    first_root c q named e =
        let one = (named_of program source h x n c (Future q) named).one in
        let root = (named_of program source h x n 0 (Future []) root_named).one in
        sym one ∙ (ap (λ (p : Path). n.cell (Future p)) e ∙ root)
