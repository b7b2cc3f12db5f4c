-- A quiet heap and the ordinary-call run. The step that ends the ordinary run is one of the heap-frame machine, and from the heap after it a run
-- leads to the quiet heap (quiet_reached); so the event of the end stands in the quiet heap, with the least key: quiet_gives_end. Where there is a
-- quiet heap the ordinary run has an end: quiet_has_end. What has not ended is after it: unfinished_is_after.
use Rattle.std.proofs.Common.{◌≡◌, ◌≢◌, ℕ, zero, suc, ◌+◌, List, [], ◌∷◌, ◌++◌, length, Option, Some, None, refl, sym, ap, ◌∙◌, subst, arith, ◌⊎◌, inl, inr, ◌≤◌}
use Rattle.std.specs.Ordering.{nat_cmp}
use Rattle.std.specs.declared.cmp.Ordering.TheVariants.{Less, Equal, Greater}
use Rattle.std.specs.Cmp.Lexicographic.{slice_cmp}
use Rattle.st_base.specs.EventKey.{event_key}
use Rattle.st_base.specs.declared.line.Line.{Line}
use Rattle.st_base.specs.declared.thread.Standing.{Standing}
use Rattle.st_base.specs.declared.thread.Standing.TheVariants.{Going, Ended, Trapped, Full}
use Rattle.st_base.specs.declared.thread.Thread.{Thread}
use Rattle.st_model.specs.declared.program.Program.{Program}
use Rattle.st_model.specs.declared.ordinary.OrdEnd.{OrdEnd}
use Rattle.st_model.specs.declared.ordinary.OrdEnd.TheVariants.{Going as EndGoing, Done, Trap, Waits, OutLimit, Trap as EndTrap, OutLimit as EndOutLimit}
use Rattle.st_model.specs.declared.ordinary.State.{State}
use Rattle.st_model.specs.declared.ordinary.Turn.{Turn}
use Rattle.st_model.specs.declared.ordinary.Turn.TheVariants.{Undefined, Goes, Over}
use Rattle.st_model.specs.Ordinary.{value_of, step, run, after_turn, start, ordinary_run}
use Rattle.st_laws.proofs.HeapRuns.{no_longer, run_snoc, quiet_reached, quiet_stays}
use Rattle.st_laws.proofs.Numbering.{numbered_after, numbered_run}
use Rattle.st_model.specs.Heap.{Path, Heap, own, trapped_thread, after, HStep, Run, IsNumbered, first_heap}
use Rattle.st_model.specs.Quiet.{IsQuiet, Trap as Trapped', OutLimit as OutLimit', IsEvent, IsGoing, key_of, IsLeast, bytes_of, counted_bytes, IsAnswer, Trap, OutLimit}
use Rattle.st_base.specs.declared.reg.Reg.{Reg}
use Rattle.st_base.specs.declared.thread.Activation.{Activation}
use Rattle.st_model.specs.declared.ordinary.Tally.{Tally}
use Rattle.st_model.specs.Effect.{File}
use Rattle.std.specs.declared.cmp.Ordering.{Ordering}
use Rattle.st_model.proofs.Counted.{all_count}
use Rattle.st_laws.specs.QuietEnd.{IsEnd, QuietGivesEnd, QuietHasEnd, QuietIsOrdinary, QuietRanAll, UnfinishedIsAfter}
use Rattle.st_laws.specs.Agreement.{IsWait}
use Rattle.st_laws.specs.Sequential.{IsAmong, IsIn, Below, Stands, Steps, FirstStands}
use Rattle.st_laws.proofs.HeapSteps.{put_same}
use Rattle.st_laws.proofs.Placing.{each_after, print_none}
use Rattle.st_laws.proofs.Sequence.{newest_of, EndStands, ending, sequence, sequential}
use Rattle.st_model.proofs.Steps.{run_is_from}
use Rattle.st_laws.proofs.First.{start_stands}
use Rattle.st_laws.proofs.Later.{HasStopped, no_step, stopped_stays, ended_stopped, run_there}
use Rattle.st_laws.proofs.Beyond.{AllBeyond, beyond_step, beyond_run, stands_beyond, counted_run, early_counts, key_same}
use Rattle.st_model.specs.Memory.{Data}
use Rattle.st_model.proofs.RunFlow.{always_defined}

-- ---- the answer, from the heap in which the newest thread has stopped with its event
-- what had ended at a state of the ordinary run, or has a greater key, or is the thread of the event itself
abbrev NoneBefore : Heap → Path → ℕ → Type 0
NoneBefore g e f = (q : Path) (u : Thread) → g.thread q ≡ Some u → HasStopped u.standing → q ≢ e → IsEvent u.standing → ⊥

abbrev stands_going : Option Thread → Type 0
stands_going None = ⊥
stands_going (Some t) = HasStopped t.standing

pub among_going : (g : Heap) (out : ℕ) (others : List Activation) (parents : List Tally) (kept : File) (handle : Reg) (child q : Path) (u : Thread) → Below g out others parents kept handle child → IsAmong q parents → g.thread q ≡ Some u → HasStopped u.standing → ⊥
among_going g out others [] kept handle child q u below among here stopped = among
among_going g out others (parent ∷ parents) kept handle child q u below among here stopped =
    let s = below.0 in
    elim among [
      | inl e ↦
          let at : g.thread parent.path ≡ Some u = subst (λ x. g.thread x ≡ Some u) e here in
          subst stands_going (sym at ∙ s.here) stopped
      | inr among ↦ among_going g out s.rest parents _ parent.handle parent.path q u below.1 among here stopped
    ]

there_at : (f : Path → Option Thread) (p q : Path) (t : Thread) → q ≡ p → f p ≡ Some t → (u : Thread) × (f q ≡ Some u)
there_at f p q t e here = (t, subst (λ x. f x ≡ Some t) (sym e) here)

among_there : (g : Heap) (out : ℕ) (others : List Activation) (parents : List Tally) (kept : File) (handle : Reg) (child q : Path) → Below g out others parents kept handle child → IsAmong q parents → (u : Thread) × (g.thread q ≡ Some u)
among_there g out others [] kept handle child q below among = absurd among
among_there g out others (parent ∷ parents) kept handle child q below among =
    let s = below.0 in
    elim among [
      | inl e ↦ there_at g.thread parent.path q _ e s.here
      | inr among ↦ among_there g out s.rest parents _ parent.handle parent.path q below.1 among
    ]

none_before : (s : State) (g : Heap) → Stands s g → NoneBefore g s.rest.thread.path s.rest.thread.forks
none_before s g st q u here stopped ne event =
    elim (st.facts.whole q u here) [
      | inl x ↦ subst IsEvent x.1 event
      | inr x ↦ elim x [
        | inl same ↦ ne same
        | inr among ↦ among_going g _ st.others s.rest.parents _ s.rest.thread.handle s.rest.thread.path q u st.below among here stopped
      ]
    ]

not_greater : (o : Ordering) → (o ≡ Less) ⊎ (o ≡ Equal) → o ≢ Greater
not_greater o (inl e) g = cc
not_greater o (inr e) g = cc

is_least : (g h : Heap) (e : Path) (t : Thread) → NoneBefore g e t.forks → AllBeyond g e t.forks h → h.thread e ≡ Some t → IsLeast IsEvent h e t
is_least g h e t none all here q u there event =
    elim (all q u there) [
      | inl old ↦ absurd (none q u old.0 old.1 old.2 event)
      | inr x ↦ elim x [
        | inl same ↦
            let at : h.thread e ≡ Some u = subst (λ x. h.thread x ≡ Some u) same.0 there in
            let thread : t ≡ u = cc in
            let keys : key_of e t ≡ key_of q u = (λ i. event_key (sym same.0 i) (thread i).forks) in
            not_greater _ (inr (ap (slice_cmp nat_cmp (key_of e t)) (sym keys) ∙ key_same e t.forks))
        | inr later ↦ not_greater _ (inl later)
      ]
    ]

-- how a stopped thread of the event e stands in each later heap
record Stopped (H : Heap) (e : Path) (t : Thread) (out : List ℕ) : Type 0 where
  here : H.thread e ≡ Some t
  least : IsLeast IsEvent H e t
  bytes : out ≡ counted_bytes e (key_of e t) H.out

stopped_facts : (program : Program) (source : Data) (s : State) (g H : Heap) (t t' : Thread) (more : List Path) → IsNumbered g → Stands s g → t.forks ≡ s.rest.thread.forks → t'.forks ≡ s.rest.thread.forks → HasStopped t'.standing → HStep program source g s.rest.thread.path (after g s.rest.thread.path t (own t')) → Run program source (after g s.rest.thread.path t (own t')) more H → Stopped H s.rest.thread.path t' s.rest.out
stopped_facts program source s g H t t' more numbered st forks forks' stopped hstep run =
    let e = s.rest.thread.path in
    let f = s.rest.thread.forks in
    let h' = after g e t (own t') in
    let at : h'.thread e ≡ Some t' = put_same e (Some t') g.thread in
    let all = beyond_step program source g e f g e h' (stands_beyond s g numbered st) hstep in
    let kept = counted_run program source g e f h' more H t' (numbered_after program source g e h' numbered hstep) all at stopped run in
    let beyond = beyond_run program source g e f h' more H all run in
    let none : NoneBefore g e t'.forks = none_before s g st in
    let now : counted_bytes e (event_key e f) h'.out ≡ bytes_of g.out =
    ap (counted_bytes e (event_key e f)) (print_none e t.forks g.out) ∙ early_counts e f g.out st.facts.early in
    record {
      here = kept.0;
      least = is_least g H e t' none (subst (λ x. AllBeyond g e x H) (sym forks') beyond) kept.0;
      bytes = sym st.facts.printed ∙ sym now ∙ sym kept.1 ∙ ap (λ x. counted_bytes e (event_key e x) H.out) (sym forks');
    }

-- once the root has ended, all threads have
abbrev pub AllEnded : Heap → Type 0
AllEnded h = (q : Path) (u : Thread) → h.thread q ≡ Some u → (v : ℕ) × (u.standing ≡ Ended v)

pub all_ended : (program : Program) (s : State) (g : Heap) (t : Thread) (v : ℕ) → Stands s g → s.rest.parents ≡ [] → AllEnded (after g s.rest.thread.path t (own (record t { standing = Ended v })))
all_ended program s g t v st none =
    each_after (λ q u. (w : ℕ) × (u.standing ≡ Ended w)) g s.rest.thread.path t (own (record t { standing = Ended v })) (v, refl) tt
    (λ q u ne there.
    elim (st.facts.whole q u there) [
      | inl x ↦ (x.0, x.1)
      | inr x ↦ elim x [
        | inl same ↦ absurd (ne same)
        | inr among ↦ absurd (subst (IsAmong q) none among)
      ]
    ])

finish : (program : Program) (source : Data) (s : State) (g H : Heap) (t : Thread) (end : OrdEnd) → IsNumbered g → Stands s g → t.forks ≡ s.rest.thread.forks → EndStands program source g s.rest t end → (IsWait end → ⊥) → ((h' : Heap) → HStep program source g s.rest.thread.path h' → (more : List Path) × Run program source h' more H) → IsEnd program H end
finish program source s g H t EndGoing numbered st forks stands wait to = absurd stands
finish program source s g H t (Waits line path out) numbered st forks stands wait to = absurd (wait tt)
finish program source s g H t (Done out) numbered st forks stands wait to =
    let e = s.rest.thread.path in
    let v = stands.2.0 in
    let h' = after g e t (own (record t { standing = Ended v })) in
    let ended : AllEnded h' = all_ended program s g t v st stands.1 in
    let quiet : IsQuiet program source h' = λ p h'' x. let y = ended p x.thread x.here in no_step program source h' p h'' x.thread x.here (ended_stopped x.thread.standing y.0 y.1) x in
    let more = to h' stands.2.1 in
    let same : h' ≡ H = quiet_stays program source h' more.0 H quiet more.1 in
    let bytes : out ≡ bytes_of h'.out = stands.0 ∙ sym st.facts.printed ∙ ap bytes_of (sym (print_none e t.forks g.out)) in
    let answer : IsEnd program h' (Done out) =
    (λ q u there event. let y = ended q u there in subst IsEvent y.1 event, λ q u there going. let y = ended q u there in subst IsGoing y.1 going, bytes) in
    subst (λ x. IsEnd program x (Done out)) same answer
finish program source s g H t (Trap kind line path out) numbered st forks stands wait to =
    let more = to _ stands.2 in
    let t' = trapped_thread t kind line in
    let x = stopped_facts program source s g H t t' more.0 numbered st forks forks tt stands.2 more.1 in
    let answer : IsAnswer program H (Trapped' kind line s.rest.thread.path) s.rest.out = (t', (x.here, refl, x.least, x.bytes)) in
    subst (λ p. IsAnswer program H (Trapped' kind line p) out) (sym stands.0) (subst (IsAnswer program H (Trapped' kind line s.rest.thread.path)) (sym stands.1) answer)
finish program source s g H t (OutLimit out) numbered st forks stands wait to =
    let more = to _ stands.2 in
    let t' : Thread = record t { standing = Full } in
    let x = stopped_facts program source s g H t t' more.0 numbered st forks forks tt stands.2 more.1 in
    let y : Stopped H [] t' s.rest.out = subst (λ p. Stopped H p t' s.rest.out) stands.0 x in
    let answer : IsAnswer program H OutLimit' s.rest.out = (t', (y.here, refl, y.least, y.bytes ∙ ap bytes_of (all_count (key_of [] t') H.out))) in
    subst (IsAnswer program H OutLimit') (sym stands.1) answer

-- ---- from runs by their number of steps
-- the ordinary run ends so, and has made the steps ps before
abbrev pub Leading : Program → Data → State → ℕ → OrdEnd → Type 0
Leading program source s n end = (ps : List Path) × ((t : State) × ((length ps + 1 ≤ n) × Steps program source s ps t × (step program source t ≡ Over end)))

turn_leads : (program : Program) (source : Data) (n : ℕ) (s : State) (end : OrdEnd) (turn : Turn) → step program source s ≡ turn → ((t : State) → run program source n t ≡ Some end → Leading program source t n end) → after_turn (run program source n) turn ≡ Some end → Leading program source s (suc n) end
turn_leads program source n s end Undefined is more e = cc
turn_leads program source n s end (Goes t) is more e =
    let x = more t e in
    (s.rest.thread.path ∷ x.0, (x.1.0, (let y = x.1.1.0 in omega arith, (refl, (t, is, x.1.1.1)), x.1.1.2)))
turn_leads program source n s end (Over o) is more e = ([], (s, (omega arith, refl, is ∙ ap Over (cc))))

pub run_leads : (program : Program) (source : Data) (n : ℕ) (s : State) (end : OrdEnd) → end ≢ EndGoing → run program source n s ≡ Some end → Leading program source s n end
unfolding run
run_leads program source zero s end ne e = absurd (ne (cc))
run_leads program source (suc n) s end ne e = turn_leads program source n s end (step program source s) refl (λ t. run_leads program source n t end ne) e

abbrev pub Going' : Program → Data → State → ℕ → Type 0
Going' program source s n = (ps : List Path) × ((t : State) × ((length ps ≡ n) × Steps program source s ps t))

pub not_going : (program : Program) (source : Data) (s : State) (h : Heap) (o : OrdEnd) → IsNumbered h → Stands s h → step program source s ≡ Over o → o ≢ EndGoing
not_going program source s h o numbered st is e = subst (EndStands program source h s.rest (newest_of s h st)) e (ending program source s o h numbered st is)

run_going_at : (program : Program) (source : Data) (n : ℕ) (s : State) (h : Heap) → IsNumbered h → Stands s h → (turn : Turn) → step program source s ≡ turn → ((t : State) (h' : Heap) → IsNumbered h' → Stands t h' → run program source n t ≡ Some EndGoing → Going' program source t n) → after_turn (run program source n) turn ≡ Some EndGoing → Going' program source s (suc n)
run_going_at program source n s h numbered st Undefined is more e = cc
run_going_at program source n s h numbered st (Goes t) is more e =
    let one = sequential program source s t h numbered st is in
    let x = more t one.0 (numbered_after program source h s.rest.thread.path one.0 numbered one.1) one.2 e in
    (s.rest.thread.path ∷ x.0, (x.1.0, (let y = x.1.1.0 in omega arith, (refl, (t, is, x.1.1.1)))))
run_going_at program source n s h numbered st (Over o) is more e = absurd (not_going program source s h o numbered st is (cc))

pub run_going : (program : Program) (source : Data) (n : ℕ) (s : State) (h : Heap) → IsNumbered h → Stands s h → run program source n s ≡ Some EndGoing → Going' program source s n
unfolding run
run_going program source zero s h numbered st e = ([], (s, (refl, refl)))
run_going program source (suc n) s h numbered st e =
    run_going_at program source n s h numbered st (step program source s) refl (λ t h'. run_going program source n t h') e

pub first_stands : (program : Program) (source : Data) (s : State) → start program source ≡ Some s → Stands s (first_heap s) × IsNumbered (first_heap s)
first_stands program source s e = subst FirstStands e (start_stands program source)

quiet_from : (program : Program) (source : Data) (s : State) (n : ℕ) (end : OrdEnd) (qs : List Path) (H : Heap) → IsNumbered (first_heap s) → Stands s (first_heap s) → Leading program source s n end → (IsWait end → ⊥) → Run program source (first_heap s) qs H → IsQuiet program source H → IsEnd program H end
quiet_from program source s n end qs H numbered st lead wait run quiet =
    let t = lead.1.0 in
    let x = sequence program source s t (first_heap s) lead.0 numbered st lead.1.1.1 in
    let g = x.0 in
    let numbered' = numbered_run program source (first_heap s) lead.0 g numbered x.1 in
    finish program source t g H (newest_of t g x.2) end numbered' x.2 refl (ending program source t end g numbered' x.2 lead.1.1.2) wait
    (λ h' hstep. quiet_reached program source (first_heap s) (lead.0 ++ t.rest.thread.path ∷ []) qs h' H numbered (run_snoc program source (first_heap s) lead.0 g t.rest.thread.path h' x.1 hstep) run quiet)

pub quiet_gives_end : QuietGivesEnd
quiet_gives_end program source n end h is ne wait r quiet =
    let s = r.first in
    let first = r.is_first in
    let stands = first_stands program source s first in
    let lead = run_leads program source n s end ne (sym (run_is_from program source n s first) ∙ is) in
    quiet_from program source s n end r.steps h stands.1 stands.0 lead wait r.run quiet

has_end_by : (o : Option OrdEnd) → o ≢ None → (o ≡ Some EndGoing → ⊥) → (end : OrdEnd) × ((end ≢ EndGoing) × (o ≡ Some end))
has_end_by None some going = absurd (some refl)
has_end_by (Some EndGoing) some going = absurd (going refl)
has_end_by (Some (Done out)) some going = (_, (λ e. cc, refl))
has_end_by (Some (Trap kind line path out)) some going = (_, (λ e. cc, refl))
has_end_by (Some (Waits line path out)) some going = (_, (λ e. cc, refl))
has_end_by (Some (OutLimit out)) some going = (_, (λ e. cc, refl))

pub quiet_has_end : QuietHasEnd
quiet_has_end program source h r accepted quiet =
    let s = r.first in
    let ps = r.steps in
    let first = r.is_first in
    let stands = first_stands program source s first in
    has_end_by (ordinary_run program source (length ps + 1)) (always_defined program source accepted (length ps + 1))
    (λ e.
    let x = run_going program source (length ps + 1) s (first_heap s) stands.1 stands.0 (sym (run_is_from program source (length ps + 1) s first) ∙ e) in
    let y = sequence program source s x.1.0 (first_heap s) x.0 stands.1 stands.0 x.1.1.1 in
    let le = no_longer program source (first_heap s) x.0 ps y.0 h stands.1 y.1 r.run quiet in
    let size = x.1.1.0 in omega arith)

never_is : (program : Program) (source : Data) (n : ℕ) (end : OrdEnd) → ((line : Line) (path : Path) (out : List ℕ) → ordinary_run program source n ≢ Some (Waits line path out)) → ordinary_run program source n ≡ Some end → IsWait end → ⊥
never_is program source n EndGoing never is w = w
never_is program source n (Done out) never is w = w
never_is program source n (Trap kind line path out) never is w = w
never_is program source n (Waits line path out) never is w = never line path out is
never_is program source n (OutLimit out) never is w = w

pub quiet_is_ordinary : QuietIsOrdinary
quiet_is_ordinary program source h accepted never r quiet =
    let x = quiet_has_end program source h r accepted quiet in
    let n = length r.steps + 1 in
    (x.0, ((x.1.0, (n, x.1.1)), quiet_gives_end program source n x.0 h x.1.1 x.1.0 (never_is program source n x.0 (never n) x.1.1) r quiet))

-- ---- each path of the ordinary run has ended
ended_by : (s : Standing) → (IsEvent s → ⊥) → (IsGoing s → ⊥) → (v : ℕ) × (s ≡ Ended v)
ended_by Going event going = absurd (going tt)
ended_by (Ended v) event going = (v, refl)
ended_by (Trapped kind line) event going = absurd (event tt)
ended_by Full event going = absurd (event tt)

in_there : (s : State) (g : Heap) (p : Path) → Stands s g → IsIn s.rest p → (u : Thread) × (g.thread p ≡ Some u)
in_there s g p st (inl x) = let y = st.facts.ended p x.0 x.1 in (y.0, y.1)
in_there s g p st (inr (inl same)) = there_at g.thread s.rest.thread.path p _ same st.here
in_there s g p st (inr (inr among)) = among_there g _ st.others s.rest.parents _ s.rest.thread.handle s.rest.thread.path p st.below among

one_value : (t u : Thread) (w v : ℕ) → t ≡ u → t.standing ≡ Ended w → u.standing ≡ Ended v → w ≡ v
one_value t u w v same a b = let values : Ended w ≡ Ended v = sym a ∙ ap (λ k. k.standing) same ∙ b in cc

pub quiet_ran_all : QuietRanAll
quiet_ran_all program source t h ps p out r quiet done steps is_in =
    let s = r.first in
    let events = done.0 in
    let going = done.1 in
    let stands = first_stands program source s r.is_first in
    let st = stands.0 in
    let numbered = stands.1 in
    let x = sequence program source s t (first_heap s) ps numbered st steps in
    let numbered' = numbered_run program source (first_heap s) ps x.0 numbered x.1 in
    let more = quiet_reached program source (first_heap s) ps r.steps x.0 h numbered x.1 r.run quiet in
    let there = in_there t x.0 p x.2 is_in in
    let u = run_there program source x.0 more.0 h p there.0 numbered' more.1 there.1 in
    let e = ended_by u.0.standing (events p u.0 u.1) (going p u.0 u.1) in
    let value : (w : ℕ) → value_of t.rest.ended p ≡ Some w → w ≡ e.0 = λ w is.
    let y = x.2.facts.ended p w is in
    let z = stopped_stays program source x.0 more.0 h p y.0 numbered' more.1 y.1 (ended_stopped y.0.standing w y.2) in
    let same : y.0 ≡ u.0 = let c = u.1 in cc in
    one_value y.0 u.0 w e.0 same y.2 e.1 in
    (e.0, ((u.0, u.1, e.1), value))

-- ---- what hasn't ended in a quiet heap
last_stops : (program : Program) (source : Data) (s : State) (g : Heap) (t : Thread) (end : OrdEnd) → EndStands program source g s.rest t end → (IsWait end → ⊥) → (t' : Thread) × (HasStopped t'.standing × HStep program source g s.rest.thread.path (after g s.rest.thread.path t (own t')))
last_stops program source s g t EndGoing stands wait = absurd stands
last_stops program source s g t (Done out) stands wait = (_, (tt, stands.2.1))
last_stops program source s g t (EndTrap kind line path out) stands wait = (_, (tt, stands.2))
last_stops program source s g t (Waits line path out) stands wait = absurd (wait tt)
last_stops program source s g t (EndOutLimit out) stands wait = (_, (tt, stands.2))

pub going_stopped : (s : Standing) → IsGoing s → HasStopped s → ⊥
going_stopped Going going stopped = stopped
going_stopped (Ended v) going stopped = going
going_stopped (Trapped kind line) going stopped = going
going_stopped Full going stopped = going

pub unfinished_is_after : UnfinishedIsAfter
unfinished_is_after program source s t h b ps qs end p u numbered st steps over wait run quiet there going =
    let e = t.rest.thread.path in
    let f = t.rest.thread.forks in
    let x = sequence program source s t h ps numbered st steps in
    let g = x.0 in
    let numbered_g = numbered_run program source h ps g numbered x.1 in
    let last = last_stops program source t g (newest_of t g x.2) end (ending program source t end g numbered_g x.2 over) wait in
    let t' = last.0 in
    let g' = after g e (newest_of t g x.2) (own t') in
    let more = quiet_reached program source h (ps ++ e ∷ []) qs g' b numbered (run_snoc program source h ps g e g' x.1 last.1.1) run quiet in
    let all = beyond_run program source g e f g' more.0 b (beyond_step program source g e f g e g' (stands_beyond t g numbered_g x.2) last.1.1) more.1 in
    elim (all p u there) [
      | inl old ↦ absurd (going_stopped u.standing going old.1)
      | inr y ↦ elim y [
        | inl same ↦
            let at : b.thread e ≡ Some t' = stopped_stays program source g' more.0 b e t' (numbered_after program source g e g' numbered_g last.1.1) more.1 (put_same e (Some t') g.thread) last.1.0 in
            let there' : b.thread e ≡ Some u = subst (λ z. b.thread z ≡ Some u) same.0 there in
            let thread : t' ≡ u = cc in
            absurd (going_stopped u.standing going (subst (λ z. HasStopped z.standing) thread last.1.0))
        | inr later ↦ later
      ]
    ]
