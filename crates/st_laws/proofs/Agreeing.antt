-- Each thread of each reached heap agrees with the ordinary-call run: agrees_with_end, agrees_without_end. Both go by ahead, at one state of the
-- ordinary run: a thread that has made no more steps than there is found at an earlier state (reach); one that has made more is after it.
use Rattle.std.proofs.Common.{◌≡◌, ◌≢◌, ℕ, zero, suc, ◌+◌, ◌-◌, ◌≤◌, ◌<◌, Bool, true, false, cond, List, [], ◌∷◌, ◌++◌, length, Option, Some, None, refl, sym, ap, ◌∙◌, subst, arith, ◌⊎◌, inl, inr}
use Rattle.std.specs.Str.{bytes_eq}
use Rattle.st_base.specs.declared.thread.Standing.TheVariants.{Going, Ended}
use Rattle.st_base.specs.declared.thread.Thread.{Thread}
use Rattle.st_model.specs.declared.program.Program.{Program}
use Rattle.st_model.specs.declared.ordinary.OrdEnd.{OrdEnd}
use Rattle.st_model.specs.declared.ordinary.OrdEnd.TheVariants.{Going as EndGoing, Done, Trap, Waits, OutLimit}
use Rattle.st_model.specs.declared.ordinary.State.{State}
use Rattle.st_model.specs.declared.ordinary.Turn.{Turn}
use Rattle.st_model.specs.declared.ordinary.Turn.TheVariants.{Undefined, Goes, Over}
use Rattle.st_model.specs.Ordinary.{step, run, after_turn}
use Rattle.st_laws.proofs.HeapRuns.{led_together, rests, one_history, run_snoc}
use Rattle.st_laws.proofs.HeapSteps.{decide, same_step, eq_same, eq_other, put_same, standing_or}
use Rattle.st_laws.proofs.Numbering.{numbered_after, numbered_run}
use Rattle.st_model.specs.Heap.{Path, Heap, own, after, HStep, Run, IsNumbered, steps_of}
use Rattle.st_laws.specs.Sequential.{Stands, Steps}
use Rattle.st_laws.specs.Agreement.{EndedAgrees, IsAfter, IsWait, LeadsTo, IsOnRun, AgreesWithEnd, AgreesWithoutEnd, ValueAgrees}
use Rattle.st_model.proofs.Steps.{run_goes}
use Rattle.st_laws.proofs.Placing.{le_or_less}
use Rattle.st_laws.proofs.Sequence.{newest_of, EndStands, ending, sequence, sequential}
use Rattle.st_laws.proofs.Later.{HasStopped, no_step, run_there, stopped_stays, ended_stopped}
use Rattle.st_laws.proofs.Beyond.{beyond_step, beyond_run, stands_beyond, after_less, after_trans}
use Rattle.st_laws.proofs.Quieting.{not_going, among_going}
use Rattle.st_model.specs.Memory.{Data}

-- ---- counting steps
pub own_step : (p q : Path) (qs : List Path) → p ≡ q → steps_of p (q ∷ qs) ≡ steps_of p qs + 1
own_step p q qs e = ap (λ b. cond b (steps_of p qs + 1) (steps_of p qs)) (ap (bytes_eq p) (sym e) ∙ eq_same p)

pub other_step : (p q : Path) (qs : List Path) → p ≢ q → steps_of p (q ∷ qs) ≡ steps_of p qs
other_step p q qs ne = ap (λ b. cond b (steps_of p qs + 1) (steps_of p qs)) (eq_other p q ne)

more_on : (b : Bool) (m n k : ℕ) → m ≡ n + k → cond b (m + 1) m ≡ cond b (n + 1) n + k
more_on true m n k e = omega arith
more_on false m n k e = e

pub steps_append : (p : Path) (ps qs : List Path) → steps_of p (ps ++ qs) ≡ steps_of p ps + steps_of p qs
steps_append p [] qs = omega arith
steps_append p (q ∷ ps) qs = more_on (bytes_eq p q) _ _ _ (steps_append p ps qs)

-- a thread that has stopped makes no steps
stopped_none : (program : Program) (source : Data) (h : Heap) (ps : List Path) (h' : Heap) (p : Path) (t : Thread) → IsNumbered h → Run program source h ps h' → h.thread p ≡ Some t → HasStopped t.standing → steps_of p ps ≡ 0
stopped_none program source h [] h' p t numbered run here stopped = refl
stopped_none program source h (q ∷ ps) h' p t numbered run here stopped =
    let ne : p ≢ q = λ x. no_step program source h q run.0 t (subst (λ y. h.thread y ≡ Some t) x here) stopped run.1 in
    let stays = stopped_stays program source h (q ∷ []) run.0 p t numbered (run.0, run.1, refl) here stopped in
    other_step p q ps ne ∙ stopped_none program source run.0 ps h' p t (numbered_after program source h q run.0 numbered run.1) run.2 stays stopped

-- nor does one that isn't there at the end
absent_none : (program : Program) (source : Data) (h : Heap) (ps : List Path) (h' : Heap) (p : Path) → IsNumbered h → Run program source h ps h' → h'.thread p ≡ None → steps_of p ps ≡ 0
absent_none program source h [] h' p numbered run none = refl
absent_none program source h (q ∷ ps) h' p numbered run none =
    let s = run.1 in
    let numbered' = numbered_after program source h q run.0 numbered s in
    let ne : p ≢ q = λ x.
    let at : h.thread p ≡ Some s.thread = subst (λ y. h.thread y ≡ Some s.thread) (sym x) s.here in
    let there = run_there program source h (q ∷ ps) h' p s.thread numbered run at in
    let there' = there.1 in cc in
    other_step p q ps ne ∙ absent_none program source run.0 ps h' p numbered' run.2 none

-- ---- a thread's state in the ordinary run after fewer steps of its own
record Reached (program : Program) (source : Data) (s : State) (h : Heap) (p : Path) (m : ℕ) : Type 0 where
  steps : List Path
  heap : Heap
  thread : Thread
  leads : LeadsTo program source s h steps heap
  same : steps_of p steps ≡ m
  here : heap.thread p ≡ Some thread

reached_here : (program : Program) (source : Data) (s : State) (h : Heap) (p : Path) (t : Thread) → Stands s h → h.thread p ≡ Some t → Reached program source s h p 0
reached_here program source s h p t st here =
    record { steps = []; heap = h; thread = t; leads = record { state = s; steps = refl; run = refl; stands = st }; same = refl; here = here }

reached_next : (program : Program) (source : Data) (s mid : State) (h g : Heap) (p : Path) (m n : ℕ) → step program source s ≡ Goes mid → HStep program source h s.rest.thread.path g → (r : Reached program source mid g p m) → steps_of p (s.rest.thread.path ∷ r.steps) ≡ n → Reached program source s h p n
reached_next program source s mid h g p m n is hstep r same =
    record {
      steps = s.rest.thread.path ∷ r.steps;
      heap = r.heap;
      thread = r.thread;
      leads =
          record {
            state = r.leads.state;
            steps = (refl, (mid, is, r.leads.steps));
            run = (g, hstep, r.leads.run);
            stands = r.leads.stands;
          };
      same = same;
      here = r.here;
    }

reach_by : (program : Program) (source : Data) (s mid : State) (h g : Heap) (q : Path) (ps : List Path) (p : Path) (m : ℕ) (o : Option Thread) → h.thread p ≡ o → (p ≡ q) ⊎ (p ≢ q) → q ≡ s.rest.thread.path → Stands s h → step program source s ≡ Goes mid → HStep program source h s.rest.thread.path g → m ≤ steps_of p (q ∷ ps) → ((k : ℕ) → k ≤ steps_of p ps → Reached program source mid g p k) → Reached program source s h p m
reach_by program source s mid h g q ps p zero (Some x) there d e st is hstep le more = reached_here program source s h p x st there
reach_by program source s mid h g q ps p zero None there (inl same) e st is hstep le more =
    let at : h.thread p ≡ Some hstep.thread = subst (λ x. h.thread x ≡ Some hstep.thread) (sym (same ∙ e)) hstep.here in cc
reach_by program source s mid h g q ps p zero None there (inr ne) e st is hstep le more =
    let r = more 0 (omega arith) in
    reached_next program source s mid h g p 0 0 is hstep r (other_step p s.rest.thread.path r.steps (λ x. ne (x ∙ sym e)) ∙ r.same)
reach_by program source s mid h g q ps p (suc m) o there (inl same) e st is hstep le more =
    let count = own_step p q ps same in
    let r = more m (omega arith) in
    let n : steps_of p r.steps + 1 ≡ suc m = let x = r.same in omega arith in
    reached_next program source s mid h g p m (suc m) is hstep r (own_step p s.rest.thread.path r.steps (same ∙ e) ∙ n)
reach_by program source s mid h g q ps p (suc m) o there (inr ne) e st is hstep le more =
    let count = other_step p q ps ne in
    let r = more (suc m) (omega arith) in
    reached_next program source s mid h g p (suc m) (suc m) is hstep r (other_step p s.rest.thread.path r.steps (λ x. ne (x ∙ sym e)) ∙ r.same)

reach : (program : Program) (source : Data) (s t : State) (h : Heap) (ps : List Path) (g : Heap) (p : Path) (w : Thread) (m : ℕ) → IsNumbered h → Stands s h → Steps program source s ps t → Run program source h ps g → g.thread p ≡ Some w → m ≤ steps_of p ps → Reached program source s h p m
reach program source s t h [] g p w m numbered st steps run here le =
    let none : 0 ≡ m = omega arith in
    subst (Reached program source s h p) none (reached_here program source s h p w st (subst (λ x. x.thread p ≡ Some w) (sym run) here))
reach program source s t h (q ∷ ps) g p w m numbered st steps run here le =
    let mid = steps.1.0 in
    let is = steps.1.1 in
    let e : q ≡ s.rest.thread.path = steps.0 in
    let one = sequential program source s mid h numbered st is in
    let hstep : HStep program source h s.rest.thread.path run.0 = subst (λ x. HStep program source h x run.0) e run.1 in
    let same : one.0 ≡ run.0 = same_step program source h s.rest.thread.path one.0 run.0 one.1 hstep in
    let st' : Stands mid run.0 = subst (Stands mid) same one.2 in
    let numbered' = numbered_after program source h s.rest.thread.path run.0 numbered hstep in
    reach_by program source s mid h run.0 q ps p m (h.thread p) refl (decide p q) e st is hstep le
    (λ k le'. reach program source mid t run.0 ps g p w k numbered' st' steps.1.2 run.2 here le')

reached_on : (program : Program) (source : Data) (s : State) (h b : Heap) (qs : List Path) (p : Path) (u : Thread) → IsNumbered h → Run program source h qs b → b.thread p ≡ Some u → Reached program source s h p (steps_of p qs) → IsOnRun program source s h p (steps_of p qs) u
reached_on program source s h b qs p u numbered run there r =
    let same : r.thread ≡ u = one_history program source h r.steps qs r.heap b p r.thread u numbered r.leads.run run r.same r.here there in
    record { steps = r.steps; heap = r.heap; ordinary = inl r.leads; same = r.same; here = r.here ∙ ap Some same }

-- ---- at a state of the ordinary run: a state agrees, or it is of the newest thread and past it, or its key is after that of the next step
abbrev Ahead : Program → Data → State → Heap → State → List Path → List Path → Path → Thread → Type 0
Ahead program source s h t ps qs p u =
    IsOnRun program source s h p (steps_of p qs) u
    ⊎ (IsAfter t.rest.thread.path t.rest.thread.forks p u.forks ⊎ ((p ≡ t.rest.thread.path) × (steps_of p ps < steps_of p qs)))

-- a thread that has made more steps than in the ordinary run so far, or isn't there yet
ahead_of : (program : Program) (source : Data) (s : State) (h g b : Heap) (ps qs : List Path) (p : Path) (u : Thread) → IsNumbered h → (l : LeadsTo program source s h ps g) → Run program source h qs b → b.thread p ≡ Some u → steps_of p ps ≤ steps_of p qs → (g.thread p ≡ Some u → HasStopped u.standing → steps_of p ps < steps_of p qs) → IsAfter l.state.rest.thread.path l.state.rest.thread.forks p u.forks ⊎ (p ≡ l.state.rest.thread.path)
ahead_of program source s h g b ps qs p u numbered l run there le more =
    let e = l.state.rest.thread.path in
    let f = l.state.rest.thread.forks in
    let j = led_together program source h ps qs g b numbered l.run run in
    let numbered_g = numbered_run program source h ps g numbered l.run in
    let none : 0 ≡ steps_of p j.more_b = let x = j.steps_b p in omega arith in
    let end = rests program source b j.more_b j.end p u (numbered_run program source h qs b numbered run) j.run_b none there in
    elim (beyond_run program source g e f g j.more_a j.end (stands_beyond l.state g numbered_g l.stands) j.run_a p u end) [
      | inl old ↦
          let a = stopped_none program source g j.more_a j.end p u numbered_g j.run_a old.0 old.1 in
          let b = j.steps_a p in
          let c = more old.0 old.1 in absurd (omega arith)
      | inr x ↦ elim x [
        | inl same ↦ inr same.0
        | inr later ↦ inl later
      ]
    ]

ahead_by : (program : Program) (source : Data) (s : State) (h g b : Heap) (ps qs : List Path) (p : Path) (u : Thread) (o : Option Thread) → g.thread p ≡ o → (steps_of p qs ≤ steps_of p ps) ⊎ (steps_of p ps < steps_of p qs) → IsNumbered h → Stands s h → (l : LeadsTo program source s h ps g) → Run program source h qs b → b.thread p ≡ Some u → Ahead program source s h l.state ps qs p u
ahead_by program source s h g b ps qs p u (Some w) here (inl le) numbered st l run there =
    inl (reached_on program source s h b qs p u numbered run there (reach program source s l.state h ps g p w (steps_of p qs) numbered st l.steps l.run here le))
ahead_by program source s h g b ps qs p u o here (inr less) numbered st l run there =
    elim (ahead_of program source s h g b ps qs p u numbered l run there (omega arith) (λ x y. less)) [
      | inl later ↦ inr (inl later)
      | inr same ↦ inr (inr (same, less))
    ]
ahead_by program source s h g b ps qs p u None here (inl le) numbered st l run there =
    let none = absent_none program source h ps g p numbered l.run here in
    elim (ahead_of program source s h g b ps qs p u numbered l run there (omega arith) (λ x y. cc)) [
      | inl later ↦ inr (inl later)
      | inr same ↦
          let x : g.thread p ≡ Some (newest_of l.state g l.stands) = subst (λ y. g.thread y ≡ Some (newest_of l.state g l.stands)) (sym same) l.stands.here in cc
    ]

ahead : (program : Program) (source : Data) (s : State) (h g b : Heap) (ps qs : List Path) (p : Path) (u : Thread) → IsNumbered h → Stands s h → (l : LeadsTo program source s h ps g) → Run program source h qs b → b.thread p ≡ Some u → Ahead program source s h l.state ps qs p u
ahead program source s h g b ps qs p u numbered st l run there =
    ahead_by program source s h g b ps qs p u (g.thread p) refl (le_or_less (steps_of p qs) (steps_of p ps)) numbered st l run there

leads_by : (program : Program) (source : Data) (s t : State) (h : Heap) (ps : List Path) → IsNumbered h → Stands s h → Steps program source s ps t → (g : Heap) × (Run program source h ps g × Stands t g)
leads_by program source s t h ps numbered st steps = let x = sequence program source s t h ps numbered st steps in (x.0, (x.1, x.2))

-- ---- where the ordinary run ends
-- the newest thread after the step that ends the ordinary run
stops : (program : Program) (source : Data) (s t : State) (h g b : Heap) (ps qs : List Path) (p : Path) (u t' : Thread) (end : OrdEnd) → IsNumbered h → (st : Stands t g) → Steps program source s ps t → Run program source h ps g → step program source t ≡ Over end → Run program source h qs b → b.thread p ≡ Some u → p ≡ t.rest.thread.path → steps_of p ps < steps_of p qs → HasStopped t'.standing → HStep program source g t.rest.thread.path (after g t.rest.thread.path (newest_of t g st) (own t')) → IsOnRun program source s h p (steps_of p qs) u
stops program source s t h g b ps qs p u t' end numbered st steps rg over run there same less stopped last =
    let e = t.rest.thread.path in
    let g' = after g e (newest_of t g st) (own t') in
    let all = ps ++ e ∷ [] in
    let rg' = run_snoc program source h ps g e g' rg last in
    let count : steps_of p all ≡ steps_of p ps + 1 = steps_append p ps (e ∷ []) ∙ ap (λ x. steps_of p ps + x) (own_step p e [] same) in
    let at : g'.thread p ≡ Some t' = subst (λ x. g'.thread x ≡ Some t') (sym same) (put_same e (Some t') g.thread) in
    let j = led_together program source h all qs g' b numbered rg' run in
    let none = stopped_none program source g' j.more_a j.end p t' (numbered_run program source h all g' numbered rg') j.run_a at stopped in
    let own_steps : steps_of p all ≡ steps_of p qs = let x = j.steps_a p in omega arith in
    let thread : t' ≡ u = one_history program source h all qs g' b p t' u numbered rg' run own_steps at there in
    record {
      steps = all;
      heap = g';
      ordinary =
          inr record {
            before = ps;
            heap = g;
            leads = record { state = t; steps = steps; run = rg; stands = st };
            end = end;
            over = over;
            whole = refl;
            last = last;
          };
      same = own_steps;
      here = at ∙ ap Some thread;
    }

with_end : (program : Program) (source : Data) (s t : State) (h g b : Heap) (ps qs : List Path) (p : Path) (u : Thread) (end : OrdEnd) → IsNumbered h → (st : Stands t g) → Steps program source s ps t → Run program source h ps g → step program source t ≡ Over end → Run program source h qs b → b.thread p ≡ Some u → p ≡ t.rest.thread.path → steps_of p ps < steps_of p qs → EndStands program source g t.rest (newest_of t g st) end → IsOnRun program source s h p (steps_of p qs) u ⊎ IsWait end
with_end program source s t h g b ps qs p u EndGoing numbered st steps rg over run there same less stands = absurd stands
with_end program source s t h g b ps qs p u (Done out) numbered st steps rg over run there same less stands =
    inl (stops program source s t h g b ps qs p u _ (Done out) numbered st steps rg over run there same less tt stands.2.1)
with_end program source s t h g b ps qs p u (Trap kind line path out) numbered st steps rg over run there same less stands =
    inl (stops program source s t h g b ps qs p u _ (Trap kind line path out) numbered st steps rg over run there same less tt stands.2)
with_end program source s t h g b ps qs p u (Waits line path out) numbered st steps rg over run there same less stands = inr tt
with_end program source s t h g b ps qs p u (OutLimit out) numbered st steps rg over run there same less stands =
    inl (stops program source s t h g b ps qs p u _ (OutLimit out) numbered st steps rg over run there same less tt stands.2)

pub agrees_with_end : AgreesWithEnd
agrees_with_end program source s t h b ps qs end p u numbered st steps over run there =
    let x = leads_by program source s t h ps numbered st steps in
    let g = x.0 in
    let l : LeadsTo program source s h ps g = record { state = t; steps = steps; run = x.1.0; stands = x.1.1 } in
    elim (ahead program source s h g b ps qs p u numbered st l run there) [
      | inl on ↦ inl on
      | inr y ↦ elim y [
        | inl later ↦ inr (inl later)
        | inr past ↦
            elim (with_end program source s t h g b ps qs p u end numbered x.1.1 steps x.1.0 over run there past.0 past.1 (ending program source t end g (numbered_run program source h ps g numbered x.1.0) x.1.1 over)) [
              | inl on ↦ inl on
              | inr wait ↦ inr (inr (wait, past.0, past.1))
            ]
      ]
    ]

-- ---- where it has no end
run_goes_one : (program : Program) (source : Data) (s t : State) (m n : ℕ) → m ≡ n + 1 → step program source s ≡ Goes t → run program source m s ≡ run program source n t
run_goes_one program source s t m n e is = let n' : m - 1 ≡ n = omega arith in run_goes program source m s t (omega arith) is ∙ ap (λ k. run program source k t) n'

run_after : (program : Program) (source : Data) (s t : State) (ps : List Path) (n : ℕ) → Steps program source s ps t → run program source (length ps + n) s ≡ run program source n t
run_after program source s t [] n steps = let z : 0 + n ≡ n = omega arith in ap (λ k. run program source k s) z ∙ ap (run program source n) steps
run_after program source s t (p ∷ ps) n steps =
    run_goes_one program source s steps.1.0 (length (p ∷ ps) + n) (length ps + n) (omega arith) steps.1.1 ∙ run_after program source steps.1.0 t ps n steps.1.2

goes_by : (program : Program) (source : Data) (s : State) (h : Heap) (turn : Turn) → IsNumbered h → Stands s h → step program source s ≡ turn → after_turn (run program source 0) turn ≡ Some EndGoing → (t : State) × (step program source s ≡ Goes t)
goes_by program source s h Undefined numbered st is e = cc
goes_by program source s h (Goes t) numbered st is e = (t, is)
goes_by program source s h (Over o) numbered st is e = absurd (not_going program source s h o numbered st is (cc))

one_goes : (program : Program) (source : Data) (s : State) (h : Heap) → IsNumbered h → Stands s h → run program source 1 s ≡ Some EndGoing → (t : State) × (step program source s ≡ Goes t)
unfolding run
one_goes program source s h numbered st e = goes_by program source s h (step program source s) numbered st refl e

steps_snoc : (program : Program) (source : Data) (s t u : State) (ps : List Path) → Steps program source s ps t → step program source t ≡ Goes u → Steps program source s (ps ++ t.rest.thread.path ∷ []) u
steps_snoc program source s t u [] steps is = (ap (λ x. x.rest.thread.path) (sym steps), (u, ap (step program source) steps ∙ is, refl))
steps_snoc program source s t u (p ∷ ps) steps is = (steps.0, (steps.1.0, steps.1.1, steps_snoc program source steps.1.0 t u ps steps.1.2 is))

-- the keys of the ordinary run's steps don't fall
keys_grow : (program : Program) (source : Data) (s t : State) (g : Heap) (p : Path) (k : ℕ) → IsNumbered g → Stands s g → step program source s ≡ Goes t → IsAfter t.rest.thread.path t.rest.thread.forks p k → IsAfter s.rest.thread.path s.rest.thread.forks p k
keys_grow program source s t g p k numbered st is later =
    let e = s.rest.thread.path in
    let f = s.rest.thread.forks in
    let one = sequential program source s t g numbered st is in
    let all = beyond_step program source g e f g e one.0 (stands_beyond s g numbered st) one.1 in
    elim (all t.rest.thread.path (newest_of t one.0 one.2) one.2.here) [
      | inl old ↦ absurd old.1
      | inr x ↦ elim x [
        | inl same ↦ after_less e p f t.rest.thread.forks k same.1 (subst (λ y. IsAfter y t.rest.thread.forks p k) same.0 later)
        | inr after ↦ after_trans e t.rest.thread.path p f t.rest.thread.forks k after later
      ]
    ]

-- while the thread is the newest one, it comes nearer by each step
nears : (program : Program) (source : Data) (s t : State) (h b : Heap) (ps qs : List Path) (p : Path) (u : Thread) (fuel : ℕ) → IsNumbered h → Stands s h → ((n : ℕ) → run program source n s ≡ Some EndGoing) → Run program source h qs b → b.thread p ≡ Some u → Steps program source s ps t → steps_of p qs ≤ steps_of p ps + fuel → IsOnRun program source s h p (steps_of p qs) u ⊎ IsAfter t.rest.thread.path t.rest.thread.forks p u.forks
nears program source s t h b ps qs p u zero numbered st endless run there steps le =
    let x = leads_by program source s t h ps numbered st steps in
    let l : LeadsTo program source s h ps x.0 = record { state = t; steps = steps; run = x.1.0; stands = x.1.1 } in
    elim (ahead program source s h x.0 b ps qs p u numbered st l run there) [
      | inl on ↦ inl on
      | inr y ↦ elim y [
        | inl later ↦ inr later
        | inr past ↦ let less = past.1 in absurd (omega arith)
      ]
    ]
nears program source s t h b ps qs p u (suc fuel) numbered st endless run there steps le =
    let x = leads_by program source s t h ps numbered st steps in
    let l : LeadsTo program source s h ps x.0 = record { state = t; steps = steps; run = x.1.0; stands = x.1.1 } in
    let numbered_g = numbered_run program source h ps x.0 numbered x.1.0 in
    elim (ahead program source s h x.0 b ps qs p u numbered st l run there) [
      | inl on ↦ inl on
      | inr y ↦ elim y [
        | inl later ↦ inr later
        | inr past ↦
            let e = t.rest.thread.path in
            let next = one_goes program source t x.0 numbered_g x.1.1 (sym (run_after program source s t ps 1 steps) ∙ endless (length ps + 1)) in
            let steps' = steps_snoc program source s t next.0 ps steps next.1 in
            let count : steps_of p (ps ++ e ∷ []) ≡ steps_of p ps + 1 = steps_append p ps (e ∷ []) ∙ ap (λ z. steps_of p ps + z) (own_step p e [] past.0) in
            elim (nears program source s next.0 h b (ps ++ e ∷ []) qs p u fuel numbered st endless run there steps' (omega arith)) [
              | inl on ↦ inl on
              | inr later ↦ inr (keys_grow program source t next.0 x.0 p u.forks numbered_g x.1.1 next.1 later)
            ]
      ]
    ]

pub agrees_without_end : AgreesWithoutEnd
agrees_without_end program source s t h b ps qs p u numbered st endless run there steps =
    nears program source s t h b ps qs p u (steps_of p qs) numbered st endless run there steps (omega arith)

-- ---- values
pub value_agrees : ValueAgrees
value_agrees program source s h g ps p u v l here ended =
    elim (l.stands.facts.whole p u here) [
      | inl x ↦
          let same : Ended x.0 ≡ Ended v = sym x.1 ∙ ended in
          let value : x.0 ≡ v = cc in x.2 ∙ ap Some value
      | inr x ↦ elim x [
        | inl same ↦
            let at : g.thread l.state.rest.thread.path ≡ Some u = subst (λ y. g.thread y ≡ Some u) same here in
            let going : Some (newest_of l.state g l.stands) ≡ Some u = sym l.stands.here ∙ at in
            let standing : Going ≡ u.standing = ap (λ o. standing_or o u) going in
            let no : Going ≡ Ended v = standing ∙ ended in cc
        | inr among ↦ absurd (among_going g _ l.stands.others l.state.rest.parents _ l.state.rest.thread.handle l.state.rest.thread.path p u l.stands.below among here (ended_stopped u.standing v ended))
      ]
    ]

pub ended_agrees : EndedAgrees
ended_agrees program source s t h b ps qs p v w numbered st steps run ended recorded =
    let x = sequence program source s t h ps numbered st steps in
    let there = x.2.facts.ended p w recorded in
    let j = led_together program source h ps qs x.0 b numbered x.1 run in
    let mine = stopped_stays program source x.0 j.more_a j.end p there.0 (numbered_run program source h ps x.0 numbered x.1) j.run_a there.1 (ended_stopped there.0.standing w there.2) in
    let other = stopped_stays program source b j.more_b j.end p ended.0 (numbered_run program source h qs b numbered run) j.run_b ended.1 (ended_stopped ended.0.standing v ended.2) in
    let same : there.0 ≡ ended.0 = cc in
    let values : Ended w ≡ Ended v = sym there.2 ∙ ap (λ z. z.standing) same ∙ ended.2 in cc
