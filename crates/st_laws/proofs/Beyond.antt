-- What stands after the key of an event of the ordinary run stays after it: AllBeyond, which holds at a state of the ordinary run (stands_beyond)
-- and which steps keep (beyond_step, beyond_run). The bytes that count for the event stay too: counted_run.
use Rattle.std.proofs.Common.{◌≡◌, ◌≢◌, ℕ, ◌+◌, ◌*◌, ◌≤◌, ◌<◌, true, false, cond, List, [], ◌∷◌, ◌++◌, Option, Some, None, refl, sym, ap, ◌∙◌, subst, arith, ◌⊎◌, inl, inr}
use Rattle.std.specs.Ordering.{nat_cmp, is_lt, ordering_reverse}
use Rattle.std.specs.declared.cmp.Ordering.{Ordering}
use Rattle.std.specs.declared.cmp.Ordering.TheVariants.{Less, Equal, Greater}
use Rattle.std.specs.Cmp.Lexicographic.{slice_cmp}
use Rattle.std.specs.List.{filter}
use Rattle.std.proofs.lemmas.Cmp.{nat_list_cmp_total}
use Rattle.std.proofs.lemmas.List.{append_assoc, append-nil}
use Rattle.std.proofs.lemmas.List.Elements.{filter-append}
use Rattle.st_base.specs.EventKey.{event_key}
use Rattle.st_base.proofs.KeyOrder.{cmp_less, cmp_equal, then_less, then_equal}
use Rattle.st_base.proofs.KeyLaws.{key_after, key_before}
use Rattle.st_base.specs.declared.reg.Reg.{Reg}
use Rattle.st_base.specs.declared.thread.Activation.{Activation}
use Rattle.st_base.specs.declared.thread.Thread.{Thread}
use Rattle.st_model.specs.declared.program.Program.{Program}
use Rattle.st_model.specs.declared.ordinary.Tally.{Tally}
use Rattle.st_model.specs.declared.ordinary.State.{State}
use Rattle.st_model.specs.Effect.{File}
use Rattle.st_model.specs.Heap.{Path, Heap, HStep, Run, IsNumbered, print}
use Rattle.st_model.specs.declared.output.Printed.{Printed}
use Rattle.st_model.specs.Quiet.{bytes_of, counts, counted_bytes}
use Rattle.st_model.proofs.Counted.{all_count}
use Rattle.st_laws.specs.Sequential.{thread_of, first_kept, Below, Stands, IsAmong, AreEarly, last_print}
use Rattle.st_laws.specs.Agreement.{IsAfter}
use Rattle.st_laws.proofs.HeapSteps.{thread_stays, decide}
use Rattle.st_laws.specs.Changes.{IsNew}
use Rattle.st_laws.proofs.Numbering.{numbered_after}
use Rattle.st_laws.proofs.ItemChanges.{step_change}
use Rattle.st_laws.proofs.Later.{HasStopped, ended_stopped, no_step}
use Rattle.st_laws.proofs.Placing.{le_or_less, OfChild, each_after}
use Rattle.st_model.specs.Memory.{Data}

-- ---- keys
key_less : (p : Path) (j k : ℕ) → j < k → IsAfter p j p k
key_less [] j k less = then_less _ _ (cmp_less (2 * j) (2 * k) (omega arith))
key_less (x ∷ p) j k less = then_equal _ _ (cmp_equal (2 * x + 1) (2 * x + 1) refl) ∙ key_less p j k less

pub key_same : (p : Path) (j : ℕ) → slice_cmp nat_cmp (event_key p j) (event_key p j) ≡ Equal
key_same [] j = then_equal _ _ (cmp_equal (2 * j) (2 * j) refl)
key_same (x ∷ p) j = then_equal _ _ (cmp_equal (2 * x + 1) (2 * x + 1) refl) ∙ key_same p j

pub after_trans : (p q r : Path) (i j k : ℕ) → IsAfter p i q j → IsAfter q j r k → IsAfter p i r k
after_trans p q r i j k a b = nat_list_cmp_total.trans (event_key p i) (event_key q j) (event_key r k) a b

-- later in the same thread
pub after_more : (p q : Path) (i j k : ℕ) → IsAfter p i q j → j ≤ k → IsAfter p i q k
after_more p q i j k a le =
    elim (le_or_less k j) [
      | inl e ↦ let same : j ≡ k = omega arith in subst (IsAfter p i q) same a
      | inr less ↦ after_trans p q q i j k a (key_less q j k less)
    ]

-- from later in the first thread
pub after_less : (p q : Path) (i j k : ℕ) → i ≤ j → IsAfter p j q k → IsAfter p i q k
after_less p q i j k le a =
    elim (le_or_less j i) [
      | inl e ↦ let same : j ≡ i = omega arith in subst (λ x. IsAfter p x q k) same a
      | inr less ↦ after_trans p p q i j k (key_less p i j less) a
    ]

-- ---- what is beyond an event of the thread e after f forks
-- a thread that had ended before in the heap g, the thread e from there on, or a thread with a greater key
abbrev pub IsBeyond : Heap → Path → ℕ → Path → Thread → Type 0
IsBeyond g e f q u = ((g.thread q ≡ Some u) × HasStopped u.standing × (q ≢ e)) ⊎ (((q ≡ e) × (f ≤ u.forks)) ⊎ IsAfter e f q u.forks)

abbrev pub AllBeyond : Heap → Path → ℕ → Heap → Type 0
AllBeyond g e f h = (q : Path) (u : Thread) → h.thread q ≡ Some u → IsBeyond g e f q u

beyond_own : (g : Heap) (e : Path) (f : ℕ) (p : Path) (t own : Thread) → t.forks ≤ own.forks → (HasStopped t.standing → ⊥) → IsBeyond g e f p t → IsBeyond g e f p own
beyond_own g e f p t own more going (inl old) = absurd (going old.1)
beyond_own g e f p t own more going (inr (inl x)) = inr (inl (x.0, let y = x.1 in omega arith))
beyond_own g e f p t own more going (inr (inr x)) = inr (inr (after_more e p f t.forks own.forks x more))

-- a new child has a greater event_key than its parent
beyond_new : (g : Heap) (e : Path) (f : ℕ) (p : Path) (t child : Thread) → child.forks ≡ 0 → (HasStopped t.standing → ⊥) → IsBeyond g e f p t → IsBeyond g e f (p ++ t.forks ∷ []) child
beyond_new g e f p t child none going (inl old) = absurd (going old.1)
beyond_new g e f p t child none going (inr (inl x)) =
    let a : IsAfter p t.forks (p ++ t.forks ∷ []) child.forks = key_after p [] t.forks child.forks t.forks (omega arith) in
    inr (inr (subst (λ y. IsAfter y f (p ++ t.forks ∷ []) child.forks) x.0 (after_less p (p ++ t.forks ∷ []) f t.forks child.forks x.1 a)))
beyond_new g e f p t child none going (inr (inr x)) =
    inr (inr (after_trans e p (p ++ t.forks ∷ []) f t.forks child.forks x (key_after p [] t.forks child.forks t.forks (omega arith))))

beyond_child : (g : Heap) (e : Path) (f : ℕ) (p : Path) (t : Thread) (child : Option Thread) → IsNew child → (HasStopped t.standing → ⊥) → IsBeyond g e f p t → OfChild (IsBeyond g e f) (p ++ t.forks ∷ []) child
beyond_child g e f p t None new going b = tt
beyond_child g e f p t (Some child) new going b = beyond_new g e f p t child new.1 going b

pub beyond_step : (program : Program) (source : Data) (g : Heap) (e : Path) (f : ℕ) (h : Heap) (p : Path) (h' : Heap) → AllBeyond g e f h → HStep program source h p h' → AllBeyond g e f h'
beyond_step program source g e f h p h' all s =
    let change = step_change program source h p h' s in
    let forks = change.forks in
    let grows : s.thread.forks ≤ s.change.own.forks = omega arith in
    let going : HasStopped s.thread.standing → ⊥ = λ x. no_step program source h p h' s.thread s.here x s in
    let b = all p s.thread s.here in
    subst (AllBeyond g e f) s.next
    (each_after (IsBeyond g e f) h p s.thread s.change
    (beyond_own g e f p s.thread s.change.own grows going b)
    (beyond_child g e f p s.thread s.change.child change.child going b)
    (λ q u ne there. all q u there))

pub beyond_run : (program : Program) (source : Data) (g : Heap) (e : Path) (f : ℕ) (h : Heap) (ps : List Path) (h' : Heap) → AllBeyond g e f h → Run program source h ps h' → AllBeyond g e f h'
beyond_run program source g e f h [] h' all run = subst (AllBeyond g e f) run all
beyond_run program source g e f h (p ∷ ps) h' all run = beyond_run program source g e f run.0 ps h' (beyond_step program source g e f h p run.0 all run.1) run.2

-- ---- at a state of the ordinary run
abbrev forks_or : Option Thread → Thread → ℕ
forks_or None t = t.forks
forks_or (Some u) t = u.forks

-- a waiting parent is after all that is below its child
among_after : (g : Heap) (out : ℕ) (others : List Activation) (parents : List Tally) (kept : File) (handle : Reg) (child more : Path) (c : Thread) (f : ℕ) (q : Path) (u : Thread) → IsNumbered g → g.thread child ≡ Some c → Below g out others parents kept handle child → IsAmong q parents → g.thread q ≡ Some u → IsAfter (child ++ more) f q u.forks
among_after g out others [] kept handle child more c f q u numbered there below among here = absurd among
among_after g out others (parent ∷ parents) kept handle child more c f q u numbered there below among here =
    let s = below.0 in
    let name : child ++ more ≡ parent.path ++ (s.number ∷ more) = ap (λ x. x ++ more) s.name ∙ append_assoc parent.path (s.number ∷ []) more in
    elim among [
      | inl e ↦
          let child_there : g.thread (parent.path ++ s.number ∷ []) ≡ Some c = subst (λ x. g.thread x ≡ Some c) s.name there in
          let number : s.number + 1 ≤ parent.forks =
          elim (le_or_less parent.forks s.number) [
            | inl le ↦ let none = numbered.free parent.path _ s.number s.here le in cc
            | inr less ↦ omega arith
          ] in
          let at : g.thread parent.path ≡ Some u = subst (λ x. g.thread x ≡ Some u) e here in
          let same : parent.forks ≡ u.forks = let x : Some (thread_of s.top s.mine _ parent out) ≡ Some u = sym s.here ∙ at in ap (λ o. forks_or o u) x in
          let a : IsAfter (parent.path ++ (s.number ∷ more)) f parent.path (s.number + 1) = key_before parent.path more s.number f (s.number + 1) (omega arith) in
          let b : IsAfter (parent.path ++ (s.number ∷ more)) f parent.path u.forks = after_more _ parent.path f (s.number + 1) u.forks a (omega arith) in
          subst (λ x. IsAfter x f q u.forks) (sym name) (subst (λ x. IsAfter (parent.path ++ (s.number ∷ more)) f x u.forks) (sym e) b)
      | inr among ↦
          subst (λ x. IsAfter x f q u.forks) (sym name)
          (among_after g out s.rest parents (first_kept s.top s.mine) parent.handle parent.path (s.number ∷ more) _ f q u numbered s.here below.1 among here)
    ]

pub stands_beyond : (s : State) (g : Heap) → IsNumbered g → Stands s g → AllBeyond g s.rest.thread.path s.rest.thread.forks g
stands_beyond s g numbered st q u here =
    let e = s.rest.thread.path in
    let f = s.rest.thread.forks in
    elim (decide q e) [
      | inl same ↦
          let at : g.thread e ≡ Some u = subst (λ x. g.thread x ≡ Some u) same here in
          let forks : f ≡ u.forks = let x = sym st.here ∙ at in ap (λ o. forks_or o u) x in
          inr (inl (same, omega arith))
      | inr ne ↦
          elim (st.facts.whole q u here) [
            | inl x ↦ inl (here, ended_stopped u.standing x.0 x.1, ne)
            | inr x ↦ elim x [
              | inl same ↦ absurd (ne same)
              | inr among ↦
                  let a = among_after g _ st.others s.rest.parents _ s.rest.thread.handle e [] _ f q u numbered st.here st.below among here in
                  inr (inr (subst (λ y. IsAfter y f q u.forks) (append-nil e) a))
            ]
          ]
    ]

-- ---- the bytes that count
print_child : (p : Path) (b : Option ℕ) (n : ℕ) (out : List Printed) → p ≢ [] → print p b n out ≡ out
print_child [] b n out ne = absurd (ne refl)
print_child (k ∷ p) b n out ne = refl

late : (o : Ordering) → o ≡ Greater → is_lt o ≡ false
late o e = ap is_lt e

-- a byte that the root prints after the event doesn't count
filter_late : (k : ℕ) (e event : List ℕ) (byte : Option ℕ) (n : ℕ) (out : List Printed) → slice_cmp nat_cmp event (2 * n ∷ []) ≡ Less → filter (counts (k ∷ e) event) (print [] byte n out) ≡ filter (counts (k ∷ e) event) out
filter_late k e event None n out is = refl
filter_late k e event (Some byte) n out is =
    let test = counts (k ∷ e) event in
    let new : Printed = record { byte = byte; forks = n } in
    let greater : slice_cmp nat_cmp (2 * n ∷ []) event ≡ Greater = nat_list_cmp_total.antisymm (2 * n ∷ []) event ∙ ap ordering_reverse is in
    let no : test new ≡ false = late _ greater in
    filter-append test out (new ∷ [])
    ∙ ap (λ b. filter test out ++ cond b (new ∷ []) []) no
    ∙ append-nil (filter test out)

abbrev Stays : Path → ℕ → List Printed → List Printed → Type 0
Stays e f out out' = counted_bytes e (event_key e f) out' ≡ counted_bytes e (event_key e f) out

counted_step : (program : Program) (source : Data) (g : Heap) (e : Path) (f : ℕ) (h : Heap) (p : Path) (h' : Heap) (t : Thread) → AllBeyond g e f h → h.thread e ≡ Some t → HasStopped t.standing → HStep program source h p h' → Stays e f h.out h'.out
counted_step program source g [] f h p h' t all here stopped s =
    let ne : p ≢ [] = λ x. no_step program source h [] h' t here stopped (subst (λ y. HStep program source h y h') x s) in
    subst (λ x. Stays [] f h.out x.out) s.next (ap (counted_bytes [] (event_key [] f)) (print_child p s.change.printed s.thread.forks h.out ne))
counted_step program source g (k ∷ e) f h (j ∷ p) h' t all here stopped s = subst (λ x. Stays (k ∷ e) f h.out x.out) s.next refl
counted_step program source g (k ∷ e) f h [] h' t all here stopped s =
    elim (all [] s.thread s.here) [
      | inl old ↦ absurd (no_step program source h [] h' s.thread s.here old.1 s)
      | inr x ↦ elim x [
        | inl same ↦ let y = same.0 in cc
        | inr later ↦ subst (λ x. Stays (k ∷ e) f h.out x.out) s.next (ap bytes_of (filter_late k e (event_key (k ∷ e) f) s.change.printed s.thread.forks h.out later))
      ]
    ]

-- what counts before the event of a thread that has stopped stays the same
pub counted_run : (program : Program) (source : Data) (g : Heap) (e : Path) (f : ℕ) (h : Heap) (ps : List Path) (h' : Heap) (t : Thread) → IsNumbered h → AllBeyond g e f h → h.thread e ≡ Some t → HasStopped t.standing → Run program source h ps h' → (h'.thread e ≡ Some t) × Stays e f h.out h'.out
counted_run program source g e f h [] h' t numbered all here stopped run =
    (subst (λ x. x.thread e ≡ Some t) run here, subst (λ x. Stays e f h.out x.out) run refl)
counted_run program source g e f h (p ∷ ps) h' t numbered all here stopped run =
    let s = run.1 in
    let ne : e ≢ p = λ x. no_step program source h p run.0 t (subst (λ y. h.thread y ≡ Some t) x here) stopped s in
    let stays : run.0.thread e ≡ Some t = subst (λ x. x.thread e ≡ Some t) s.next (thread_stays h p e s.thread t s.change numbered s.here here ne) in
    let more = counted_run program source g e f run.0 ps h' t (numbered_after program source h p run.0 numbered s) (beyond_step program source g e f h p run.0 all s) stays stopped run.2 in
    (more.0, more.1 ∙ counted_step program source g e f h p run.0 t all here stopped s)

-- all bytes count that the ordinary run has printed by then
early_all : (k : ℕ) (p : Path) (f : ℕ) (out : List Printed) → AreEarly k out → filter (counts (k ∷ p) (event_key (k ∷ p) f)) out ≡ out
early_all k p f [] e = refl
early_all k p f (b ∷ out) e =
    let test = counts (k ∷ p) (event_key (k ∷ p) f) in
    let less : slice_cmp nat_cmp (2 * b.forks ∷ []) (event_key (k ∷ p) f) ≡ Less = then_less _ _ (cmp_less (2 * b.forks) (2 * k + 1) (let x = e.0 in omega arith)) in
    let yes : test b ≡ true = ap is_lt less in
    let x : filter test (b ∷ out) ≡ b ∷ filter test out = ap (λ y. cond y (b ∷ filter test out) (filter test out)) yes in
    x ∙ ap (λ y. b ∷ y) (early_all k p f out e.1)

pub early_counts : (e : Path) (f : ℕ) (out : List Printed) → AreEarly (last_print e f) out → counted_bytes e (event_key e f) out ≡ bytes_of out
early_counts [] f out early = ap bytes_of (all_count (event_key [] f) out)
early_counts (k ∷ p) f out early = ap bytes_of (early_all k p f out early)
