-- Each heap that a run of an accepted program reaches has an answer: has_answer. Its threads are in a list (in_run), of which the one of the least
-- key among those that stand so is found (find).
use Rattle.std.proofs.Common.{◌≡◌, ◌≢◌, ℕ, List, [], ◌∷◌, ◌++◌, Option, Some, None, refl, sym, ap, ◌∙◌, subst, ◌⊎◌, inl, inr}
use Rattle.std.specs.Ordering.{nat_cmp, ordering_reverse, is_eq}
use Rattle.std.specs.declared.cmp.Ordering.{Ordering}
use Rattle.std.specs.declared.cmp.Ordering.TheVariants.{Less, Equal, Greater}
use Rattle.std.specs.Cmp.Lexicographic.{slice_cmp}
use Rattle.std.proofs.lemmas.Cmp.{nat_list_cmp_total}
use Rattle.std.proofs.lemmas.Map.Text.{is_eq-slice_cmp}
use Rattle.std.proofs.lemmas.Slice.Eq.{bytes_eq-Decides}
use Rattle.st_base.specs.declared.line.Line.{Line}
use Rattle.st_base.specs.declared.thread.Standing.{Standing}
use Rattle.st_base.specs.declared.thread.Standing.TheVariants.{Going, Ended, Trapped, Full}
use Rattle.st_base.specs.declared.thread.Thread.{Thread}
use Rattle.st_model.specs.declared.program.Program.{Program}
use Rattle.st_model.specs.Memory.{Data}
use Rattle.st_model.specs.Heap.{Path, Heap, HStep, Run, first_heap}
use Rattle.st_model.specs.Quiet.{IsEvent, IsGoing, key_of, IsLeast, HasNone, QuietAnswer, Done, Trap, OutLimit, Deadlock, line_of, line_at, IsAnswer}
use Rattle.st_model.specs.Limits.{IsMember}
use Rattle.st_laws.specs.QuietEnd.{HasAnswer}
use Rattle.st_laws.specs.Defined.{HasNext}
use Rattle.st_laws.proofs.HeapSteps.{decide}
use Rattle.st_laws.proofs.CountBytes.{AllHaveBytes, reached_bytes}
use Rattle.st_laws.proofs.Placing.{OfChild, each_after}
use Rattle.st_laws.proofs.First.{alone_is}
use Rattle.st_laws.proofs.HeapFlow.{heap_defined}

-- ---- a list of all threads
abbrev AreIn : List Path → Heap → Type 0
AreIn ts h = (p : Path) (t : Thread) → h.thread p ≡ Some t → IsMember p ts

in_child : (p : Path) (ts : List Path) (c : Option Thread) → OfChild (λ r u. IsMember r (p ∷ ts)) p c
in_child p ts None = tt
in_child p ts (Some child) = inl refl

in_step : (program : Program) (source : Data) (h : Heap) (p : Path) (h' : Heap) (ts : List Path) → AreIn ts h → (s : HStep program source h p h') → AreIn ((p ++ s.thread.forks ∷ []) ∷ ts) h'
in_step program source h p h' ts all s =
    let us = (p ++ s.thread.forks ∷ []) ∷ ts in
    subst (AreIn us) s.next
    (each_after (λ r u. IsMember r us) h p s.thread s.change (inr (all p s.thread s.here)) (in_child (p ++ s.thread.forks ∷ []) ts s.change.child)
    (λ q u ne there. inr (all q u there)))

in_run : (program : Program) (source : Data) (h : Heap) (ps : List Path) (h' : Heap) (ts : List Path) → AreIn ts h → Run program source h ps h' → (us : List Path) × AreIn us h'
in_run program source h [] h' ts all run = (ts, subst (AreIn ts) run all)
in_run program source h (p ∷ ps) h' ts all run =
    in_run program source run.0 ps h' ((p ++ run.1.thread.forks ∷ []) ∷ ts) (in_step program source h p run.0 ts all run.1) run.2

-- ---- keys
key_equal : (a b : List ℕ) → slice_cmp nat_cmp a b ≡ Equal → a ≡ b
key_equal a b e = (bytes_eq-Decides a b).0 (sym (is_eq-slice_cmp a b) ∙ ap is_eq e)

least_by : (a b c : List ℕ) (o r : Ordering) → slice_cmp nat_cmp a b ≡ o → slice_cmp nat_cmp b c ≡ r → o ≢ Greater → r ≢ Greater → slice_cmp nat_cmp a c ≢ Greater
least_by a b c Less Less x y m n = λ e. let z = nat_list_cmp_total.trans a b c x y in cc
least_by a b c Less Equal x y m n = subst (λ k. slice_cmp nat_cmp a k ≢ Greater) (key_equal b c y) (λ e. cc)
least_by a b c Less Greater x y m n = absurd (n refl)
least_by a b c Equal r x y m n = subst (λ k. slice_cmp nat_cmp k c ≢ Greater) (sym (key_equal a b x)) (λ e. n (sym y ∙ e))
least_by a b c Greater r x y m n = absurd (m refl)

-- ---- the thread of the least key among those in the list that stand so
record Least (stands : Standing → Type 0) (h : Heap) (ts : List Path) : Type 0 where
  path : Path
  thread : Thread
  here : h.thread path ≡ Some thread
  is : stands thread.standing
  least : (q : Path) (u : Thread) → IsMember q ts → h.thread q ≡ Some u → stands u.standing → slice_cmp nat_cmp (key_of path thread) (key_of q u) ≢ Greater

abbrev NoneOf : (Standing → Type 0) → Heap → List Path → Type 0
NoneOf stands h ts = (q : Path) (u : Thread) → IsMember q ts → h.thread q ≡ Some u → stands u.standing → ⊥

module _ (stands : Standing → Type 0) (h : Heap) where
  find_past : (q : Path) (ts : List Path) → ((u : Thread) → h.thread q ≡ Some u → stands u.standing → ⊥) → Least stands h ts ⊎ NoneOf stands h ts → Least stands h (q ∷ ts) ⊎ NoneOf stands h (q ∷ ts)
  find_past q ts never (inl l) =
      inl record {
        path = l.path;
        thread = l.thread;
        here = l.here;
        is = l.is;
        least = λ r u m there st.
            elim m [
              | inl same ↦ absurd (never u (subst (λ x. h.thread x ≡ Some u) same there) st)
              | inr more ↦ l.least r u more there st
            ];
      }
  find_past q ts never (inr none) =
      inr (λ r u m there st.
      elim m [
        | inl same ↦ absurd (never u (subst (λ x. h.thread x ≡ Some u) same there) st)
        | inr more ↦ none r u more there st
      ])

  key_self : (q r : Path) (u w : Thread) → r ≡ q → h.thread q ≡ Some u → h.thread r ≡ Some w → slice_cmp nat_cmp (key_of q u) (key_of r w) ≢ Greater
  key_self q r u w same here there e =
      let at : h.thread q ≡ Some w = subst (λ x. h.thread x ≡ Some w) same there in
      let thread : u ≡ w = cc in
      let keys : key_of r w ≡ key_of q u = λ i. key_of (same i) (sym thread i) in
      let equal = nat_list_cmp_total.antisymm (key_of q u) (key_of q u) in
      let self : slice_cmp nat_cmp (key_of q u) (key_of q u) ≡ Greater = sym (ap (slice_cmp nat_cmp (key_of q u)) keys) ∙ e in
      let turned : Greater ≡ ordering_reverse Greater = sym self ∙ equal ∙ ap ordering_reverse self in
      cc

  least_of : (q : Path) (ts : List Path) (u : Thread) (l : Least stands h ts) (o : Ordering) → slice_cmp nat_cmp (key_of q u) (key_of l.path l.thread) ≡ o → o ≢ Greater → h.thread q ≡ Some u → (r : Path) (w : Thread) → IsMember r (q ∷ ts) → h.thread r ≡ Some w → stands w.standing → slice_cmp nat_cmp (key_of q u) (key_of r w) ≢ Greater
  least_of q ts u l o e ne here r w m there st =
      elim m [
        | inl same ↦ key_self q r u w same here there
        | inr more ↦ least_by (key_of q u) (key_of l.path l.thread) (key_of r w) o (slice_cmp nat_cmp (key_of l.path l.thread) (key_of r w)) e refl ne (l.least r w more there st)
      ]

  find_by : (q : Path) (ts : List Path) (u : Thread) (l : Least stands h ts) (o : Ordering) → slice_cmp nat_cmp (key_of q u) (key_of l.path l.thread) ≡ o → h.thread q ≡ Some u → stands u.standing → Least stands h (q ∷ ts)
  find_by q ts u l Greater e here is =
      record {
        path = l.path;
        thread = l.thread;
        here = l.here;
        is = l.is;
        least = λ r w m there st.
            elim m [
              | inl same ↦
                  let back : slice_cmp nat_cmp (key_of l.path l.thread) (key_of q u) ≡ Less =
                  nat_list_cmp_total.antisymm (key_of l.path l.thread) (key_of q u) ∙ ap ordering_reverse e in
                  least_by (key_of l.path l.thread) (key_of q u) (key_of r w) Less (slice_cmp nat_cmp (key_of q u) (key_of r w)) back refl (λ x. cc) (key_self q r u w same here there)
              | inr more ↦ l.least r w more there st
            ];
      }
  find_by q ts u l Less e here is = record { path = q; thread = u; here = here; is = is; least = least_of q ts u l Less e (λ x. cc) here }
  find_by q ts u l Equal e here is = record { path = q; thread = u; here = here; is = is; least = least_of q ts u l Equal e (λ x. cc) here }

  find_this : (q : Path) (ts : List Path) (u : Thread) → h.thread q ≡ Some u → stands u.standing → Least stands h ts ⊎ NoneOf stands h ts → Least stands h (q ∷ ts)
  find_this q ts u here is (inl l) = find_by q ts u l (slice_cmp nat_cmp (key_of q u) (key_of l.path l.thread)) refl here is
  find_this q ts u here is (inr none) =
      record {
        path = q;
        thread = u;
        here = here;
        is = is;
        least = λ r w m there st.
            elim m [
              | inl same ↦ key_self q r u w same here there
              | inr more ↦ absurd (none r w more there st)
            ];
      }

  find_at : ((s : Standing) → stands s ⊎ (stands s → ⊥)) → (q : Path) (ts : List Path) (o : Option Thread) → h.thread q ≡ o → Least stands h ts ⊎ NoneOf stands h ts → Least stands h (q ∷ ts) ⊎ NoneOf stands h (q ∷ ts)
  find_at test q ts None here found = find_past q ts (λ u there st. cc) found
  find_at test q ts (Some u) here found =
      elim (test u.standing) [
        | inl is ↦ inl (find_this q ts u here is found)
        | inr isnt ↦ find_past q ts (λ w there st. let same : w ≡ u = cc in isnt (subst (λ x. stands x.standing) same st)) found
      ]

  find : ((s : Standing) → stands s ⊎ (stands s → ⊥)) → (ts : List Path) → Least stands h ts ⊎ NoneOf stands h ts
  find test [] = inr (λ q u m there st. m)
  find test (q ∷ ts) = find_at test q ts (h.thread q) refl (find test ts)

event_or : (s : Standing) → IsEvent s ⊎ (IsEvent s → ⊥)
event_or Going = inr (λ e. e)
event_or (Ended v) = inr (λ e. e)
event_or (Trapped kind line) = inl tt
event_or Full = inl tt

going_or : (s : Standing) → IsGoing s ⊎ (IsGoing s → ⊥)
going_or Going = inl tt
going_or (Ended v) = inr (λ e. e)
going_or (Trapped kind line) = inr (λ e. e)
going_or Full = inr (λ e. e)

going_is : (s : Standing) → IsGoing s → s ≡ Going
going_is Going g = refl
going_is (Ended v) g = absurd g
going_is (Trapped kind line) g = absurd g
going_is Full g = absurd g

-- ---- the answer
abbrev Answered : Program → Heap → Type 0
Answered program h = (answer : QuietAnswer) × ((out : List ℕ) × IsAnswer program h answer out)

answer_event : (program : Program) (h : Heap) (p : Path) (t : Thread) (s : Standing) → AllHaveBytes h → h.thread p ≡ Some t → t.standing ≡ s → IsEvent s → IsLeast IsEvent h p t → Answered program h
answer_event program h p t Going full here is event least = absurd event
answer_event program h p t (Ended v) full here is event least = absurd event
answer_event program h p t (Trapped kind line) full here is event least = (Trap kind line p, (_, (t, (here, is, least, refl))))
answer_event program h p t Full full here is event least =
    let root : p ≡ [] = (full p t here).full is in
    (OutLimit, (_, (t, (subst (λ x. h.thread x ≡ Some t) root here, is, subst (λ x. IsLeast IsEvent h x t) root least, refl))))

line_there : (program : Program) (source : Data) (t : Thread) → HasNext program source t → (line : Line) × (line_at program t.activations ≡ Some line)
line_there program source t next =
    let item = next.1.1.1.0 in
    (item.line, ap (line_at program) next.1.1.0 ∙ ap line_of next.1.1.1.1.0)

answer_waits : (program : Program) (source : Data) (h : Heap) (ts : List Path) → AreIn ts h → HasNone IsEvent h → (l : Least IsGoing h ts) → HasNext program source l.thread → Answered program h
answer_waits program source h ts all none l next =
    let line = line_there program source l.thread next in
    (Deadlock line.0 l.path, (_, (l.thread, (l.here, none, l.is, line.1, (λ q u there st. l.least q u (all q u there) there st), refl))))

pub has_answer : HasAnswer
has_answer program source h accepted r =
    let start = in_run program source (first_heap r.first) r.steps h ([] ∷ []) (λ p t here. inl (alone_is _ p t (decide p []) here)) r.run in
    let ts = start.0 in
    let all = start.1 in
    let full = reached_bytes program source _ r.steps h refl refl r.run in
    elim (find IsEvent h event_or ts) [
      | inl l ↦ answer_event program h l.path l.thread l.thread.standing full l.here refl l.is (λ q u there st. l.least q u (all q u there) there st)
      | inr none ↦
          let quiet : HasNone IsEvent h = λ q u there st. none q u (all q u there) there st in
          elim (find IsGoing h going_or ts) [
            | inl l ↦ answer_waits program source h ts all quiet l (heap_defined program source h l.path l.thread accepted r l.here (going_is l.thread.standing l.is))
            | inr done ↦ (Done, (_, (quiet, (λ q u there st. done q u (all q u there) there st), refl)))
          ]
    ]
