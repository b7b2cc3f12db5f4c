-- An item of the first thread of a worker keeps Holding, with the heap after it: the thread goes on (goes_on), ends (goes_out), or forks (forks). makes_step: the step of the machine.
use Rattle.std.proofs.Common.{◌≡◌, ◌≢◌, ◌⊎◌, inl, inr, ⊎_elim, ℕ, List, [], ◌∷◌, ◌++◌, Option, Some, None, refl, sym, ap, ◌∙◌, subst, arith}
use Rattle.std.specs.List.{Contains}
use Rattle.st_base.specs.declared.chain.Chain.{Chain}
use Rattle.st_base.specs.declared.thread.Thread.{Thread}
use Rattle.st_words.specs.declared.view.Slot.{Slot}
use Rattle.st_words.specs.declared.view.Known.{Known}
use Rattle.st_words.specs.declared.view.Cargo.{Cargo}
use Rattle.st_words.specs.declared.view.View.{View}
use Rattle.st_words.proofs.Lists.{contains_here, contains_later, contains_case}
use Rattle.st_model.specs.declared.program.Program.{Program}
use Rattle.st_model.specs.Memory.{Data}
use Rattle.st_model.specs.Heap.{Path, Heap, Change, Enabled, HStep, IsNumbered, put as put_path, put_child, after}
use Rattle.st_laws.specs.Changes.{AfterFork}
use Rattle.st_laws.proofs.HeapSteps.{decide, put_same, put_other, not_child}
use Rattle.st_laws.proofs.Staying.{other_stays}
use Rattle.st_laws.proofs.Numbering.{numbered_after}
use Rattle.st_laws.proofs.Forking.{fork_makes}
use Rattle.st_made.specs.Items.{IsLive, went, born, child_path, next_move}
use Rattle.st_made.specs.Runs.{all_known, paths_of}
use Rattle.st_made.proofs.Lists.{times_here, known_here}
use Rattle.st_made.proofs.Running.{own_after}
use Rattle.st_world.specs.Functions.{put}
use Rattle.st_threads.specs.Behind.{heap_on}
use Rattle.st_world.specs.Holders.{Holder, InView, Nobody}
use Rattle.st_threads.specs.Holding.{IsOf, HasThreads, Holding}
use Rattle.st_threads.proofs.Keepers.{times_most, once_more, once_less, kept_by, is_there, stay_leaves, put_leaves}
use Rattle.st_threads.proofs.Holdings.{nobody_there, AreHeld, view_not_nobody, with_view}

-- ---- where a thread after an item comes from: it is the own one, the child, or was there

child_back : (o : Option Thread) (p q : Path) (f : Path → Option Thread) (u : Thread) → put_child p o f q ≡ Some u → ((q ≡ p) × (o ≡ Some u)) ⊎ (f q ≡ Some u)
child_back None p q f u e = inr e
child_back (Some child) p q f u e = ⊎_elim
    (λ (s : q ≡ p). inl (s, sym (put_same p (Some child) f) ∙ (ap (put_path p (Some child) f) (sym s) ∙ e)))
    (λ (n : q ≢ p). inr (sym (put_other p q (Some child) f n) ∙ e)) (decide q p)

after_back : (h : Heap) (p : Path) (t : Thread) (c : Change) (q : Path) (u : Thread) → (after h p t c).thread q ≡ Some u → ((q ≡ p) × (c.own ≡ u)) ⊎ (((q ≡ p ++ t.forks ∷ []) × (c.child ≡ Some u)) ⊎ ((q ≢ p) × (h.thread q ≡ Some u)))
after_back h p t c q u e = ⊎_elim
    (λ (s : q ≡ p). let x : Some c.own ≡ Some u = sym (own_after h p t c) ∙ (ap (after h p t c).thread (sym s) ∙ e) in inl (s, cc))
    (λ (n : q ≢ p). inr (⊎_elim (λ a. inl a) (λ a. inr (n, a)) (child_back c.child (p ++ t.forks ∷ []) q h.thread u (sym (put_other p q (Some c.own) (put_child (p ++ t.forks ∷ []) c.child h.thread) n) ∙ e))))
    (decide q p)

-- no other thread of the worker has its path
pub apart : (h : Heap) (keeper : Path → Holder) (w : ℕ) (top : Known) (rest : List Known) (t : Known) → HasThreads h keeper w (top ∷ rest) → Contains rest t → t.path ≢ top.path
apart h keeper w top rest t has m e =
    let a = known_here rest t m in
    let b = has.once t.path in
    let c = times_here t.path top.path (paths_of rest) e in
    let d = times_most (keeper t.path) w in
    omega arith

module _ (program : Program) (source : Data) (h : Heap) (slot : Slot → Option Chain) (cargo : Slot → Cargo) (view : ℕ → View) (w : ℕ) (v : View) (r : Holding h slot cargo view) (top : Known) (rest : List Known) (c : Change) (is : all_known (view w) ≡ top ∷ rest) (enabled : Enabled h (next_move program source top) c) where
  abbrev h' : Heap
  h' = heap_on h top c

  mine : HasThreads h r.keeper w (top ∷ rest)
  mine = subst (λ (ts : List Known). HasThreads h r.keeper w ts) is (r.views w)

  of : IsOf h top
  of = mine.each top (contains_here top rest)

  kept : r.keeper top.path ≡ InView w
  kept = kept_by h r.keeper w (top ∷ rest) top mine (contains_here top rest)

  -- the machine's step
  abbrev step : HStep program source h top.path h'
  step = record { thread = top.thread; change = c; here = of.there; enabled = enabled; next = refl }

  pub makes_step : HStep program source h top.path h'
  makes_step = step

  numbered : IsNumbered h'
  numbered = numbered_after program source h top.path h' r.numbered step

  -- what others keep is there
  there : (k : Holder) → k ≢ InView w → (q : Path) (t : Thread) → r.keeper q ≡ k → h.thread q ≡ Some t → h'.thread q ≡ Some t
  there k ne q t e here = other_stays program source h h' q top.path t r.numbered here (λ (s : q ≡ top.path). ne (sym e ∙ (ap r.keeper s ∙ kept))) step

  rest_of : (t : Known) → Contains rest t → IsOf h' t
  rest_of t m =
      let o = mine.each t (contains_later t top rest m) in
      is_there h h' t (other_stays program source h h' t.path top.path t.thread r.numbered o.there (apart h r.keeper w top rest t mine m) step) o

  own_of : IsLive c.own.standing → IsOf h' (went top c.own)
  own_of live = record { there = own_after h top.path top.thread c; live = live; forks = refl; counters = refl; bytes = refl }

  on_of : IsLive c.own.standing → (t : Known) → Contains (went top c.own ∷ rest) t → IsOf h' t
  on_of live t m = ⊎_elim
      (λ (e : went top c.own ≡ t). subst (λ (x : Known). IsOf h' x) e (own_of live))
      (λ (n : Contains rest t). rest_of t n)
      (contains_case t (went top c.own) rest m)

  -- each thread is held: the own one, the child, and what was there
  held_by : (keeper : Path → Holder) → (IsLive c.own.standing → keeper top.path ≢ Nobody) → ((u : Thread) → c.child ≡ Some u → keeper (child_path top) ≢ Nobody) → ((q : Path) (u : Thread) → h.thread q ≡ Some u → IsLive u.standing → q ≢ top.path → keeper q ≢ Nobody) → AreHeld h' keeper
  held_by keeper own child old p t e live none = ⊎_elim
      (λ (a : (p ≡ top.path) × (c.own ≡ t)). own (subst (λ (x : Thread). IsLive x.standing) (sym a.1) live) (ap keeper (sym a.0) ∙ none))
      (λ more. ⊎_elim
      (λ (a : (p ≡ child_path top) × (c.child ≡ Some t)). child t a.1 (ap keeper (sym a.0) ∙ none))
      (λ (a : (p ≢ top.path) × (h.thread p ≡ Some t)). old p t a.1 live a.0 none)
      more)
      (after_back h top.path top.thread c p t e)

  pub goes_on : c.child ≡ None → IsLive c.own.standing → all_known v ≡ went top c.own ∷ rest → Holding h' slot cargo (put view w v)
  goes_on none live now = with_view h h' slot cargo view w v r r.keeper
      (λ k a b. stay_leaves h h' r.keeper k (there k a))
      (subst (λ (ts : List Known). HasThreads h' r.keeper w ts) (sym now) (record { once = mine.once; each = on_of live }))
      (held_by r.keeper (λ l e. view_not_nobody w (sym kept ∙ e)) (λ u e. let no : ⊥ = cc in absurd no) (λ q u e l n. r.held q u e l))
      numbered

  pub goes_out : c.child ≡ None → (IsLive c.own.standing → ⊥) → all_known v ≡ rest → Holding h' slot cargo (put view w v)
  goes_out none over now =
      let p = top.path in
      let keeper = put_path p Nobody r.keeper in
      with_view h h' slot cargo view w v r keeper
      (λ k a b. put_leaves h h' r.keeper p Nobody k (λ e. a (sym e ∙ kept)) (λ e. b (sym e)) (there k a))
      (subst (λ (ts : List Known). HasThreads h' keeper w ts) (sym now) (record {
        once = once_less r.keeper w p Nobody (paths_of rest) (λ e. view_not_nobody w (sym e)) mine.once;
        each = rest_of;
      }))
      (held_by keeper (λ l e. over l) (λ u e. let no : ⊥ = cc in absurd no) (λ q u e l n z. r.held q u e l (sym (put_other p q Nobody r.keeper n) ∙ z)))
      numbered

  pub forks : (child : Thread) (cell : ℕ) → c.child ≡ Some child → all_known v ≡ born cell (child_path top) child ∷ went top c.own ∷ rest → Holding h' slot cargo (put view w v)
  forks child cell made now =
      let p = child_path top in
      let keeper = put_path p (InView w) r.keeper in
      let fork : AfterFork h top.path top.thread c.own child h' = fork_makes program source h h' top.path child step made in
      let nobody : r.keeper p ≡ Nobody = nobody_there h slot cargo view r p (r.numbered.free top.path top.thread top.thread.forks of.there (omega arith)) in
      let goes : keeper p ≡ InView w = put_same p (InView w) r.keeper in
      let fresh : (q : Path) (u : Thread) → h.thread q ≡ Some u → q ≢ p = λ q u e. not_child h top.path q top.thread u r.numbered of.there e in
      let stays : (q : Path) → q ≢ p → keeper q ≡ r.keeper q = λ q n. put_other p q (InView w) r.keeper n in
      with_view h h' slot cargo view w v r keeper
      (λ k a b. put_leaves h h' r.keeper p (InView w) k (λ e. b (sym e ∙ nobody)) (λ e. a (sym e)) (there k a))
      (subst (λ (ts : List Known). HasThreads h' keeper w ts) (sym now) (record {
        once = once_more r.keeper w p (paths_of (went top c.own ∷ rest)) (λ e. view_not_nobody w (sym e ∙ nobody)) mine.once;
        each = λ t m. ⊎_elim
            (λ (e : born cell p child ≡ t). subst (λ (x : Known). IsOf h' x) e (record { there = fork.child_there; live = subst IsLive (sym fork.is_new.0) tt; forks = sym fork.is_new.1; counters = sym fork.is_new.2; bytes = sym fork.is_new.3 }))
            (λ (n : Contains (went top c.own ∷ rest) t). on_of (subst IsLive (sym fork.going) tt) t n)
            (contains_case t (born cell p child) (went top c.own ∷ rest) m);
      }))
      (held_by keeper
      (λ l e. view_not_nobody w (sym kept ∙ (sym (stays top.path (fresh top.path top.thread of.there)) ∙ e)))
      (λ u e z. view_not_nobody w (sym goes ∙ z))
      (λ q u e l n z. r.held q u e l (sym (stays q (fresh q u e)) ∙ z)))
      numbered
