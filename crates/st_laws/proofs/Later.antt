-- What the threads of a heap are in a longer run: they are there (run_there), have made no fewer forks (step_forks, later_forks), and are as they
-- were where they had stopped (stopped_stays), since a thread that has stopped has no step (no_step).
use Rattle.std.proofs.Common.{◌≡◌, ℕ, ◌≤◌, List, [], ◌∷◌, ◌++◌, Some, sym, ap, subst, arith, inl, inr, ◌≢◌}
use Rattle.st_base.specs.declared.thread.Thread.{Thread}
use Rattle.st_model.specs.declared.program.Program.{Program}
use Rattle.st_model.specs.Heap.{Path, Heap, move, put_child, HStep, Run, IsNumbered, steps_of, Change, move_standing, Enabled}
use Rattle.st_laws.specs.Steps.{LaterForks}
use Rattle.st_laws.proofs.HeapSteps.{put_same, thread_stays, decide}
use Rattle.st_laws.proofs.Numbering.{numbered_after, numbered_run}
use Rattle.st_laws.proofs.ItemChanges.{step_change}
use Rattle.st_laws.proofs.HeapRuns.{rests, led_together}
use Rattle.st_model.specs.Memory.{Data}
use Rattle.st_base.specs.declared.thread.Standing.{Standing}
use Rattle.st_base.specs.declared.thread.Standing.TheVariants.{Going, Ended, Trapped, Full}
use Rattle.st_model.specs.Ordinary.{run}

pub step_forks : (program : Program) (source : Data) (h : Heap) (p r : Path) (h' : Heap) (t : Thread) → IsNumbered h → h.thread r ≡ Some t → HStep program source h p h' → (u : Thread) × (h'.thread r ≡ Some u) × (t.forks ≤ u.forks)
step_forks program source h p r h' t numbered here s =
    elim (decide r p) [
      | inl e ↦
          let at : h.thread p ≡ Some t = subst (λ x. h.thread x ≡ Some t) e here in
          let same : s.thread ≡ t = let x = s.here in cc in
          let grows = (step_change program source h p h' s).forks in
          let forks : s.thread.forks ≡ t.forks = ap (λ x. x.forks) same in
          let new : h'.thread p ≡ Some s.change.own =
          subst (λ x. x.thread p ≡ Some s.change.own) s.next (put_same p (Some s.change.own) (put_child (p ++ s.thread.forks ∷ []) s.change.child h.thread)) in
          (s.change.own, subst (λ x. h'.thread x ≡ Some s.change.own) (sym e) new, omega arith)
      | inr ne ↦
          let stays = thread_stays h p r s.thread t s.change numbered s.here here ne in
          (t, subst (λ x. x.thread r ≡ Some t) s.next stays, omega arith)
    ]

run_forks : (program : Program) (source : Data) (h : Heap) (ps : List Path) (r : Path) (h' : Heap) (t u : Thread) → IsNumbered h → h.thread r ≡ Some t → Run program source h ps h' → h'.thread r ≡ Some u → t.forks ≤ u.forks
run_forks program source h [] r h' t u numbered here s there =
    let x : h'.thread r ≡ Some t = subst (λ x. x.thread r ≡ Some t) s here in
    let same : t ≡ u = cc in
    let forks : t.forks ≡ u.forks = ap (λ x. x.forks) same in omega arith
run_forks program source h (p ∷ ps) r h' t u numbered here s there =
    let one = step_forks program source h p r s.0 t numbered here s.1 in
    let more = run_forks program source s.0 ps r h' one.0 u (numbered_after program source h p s.0 numbered s.1) one.1 s.2 there in
    let first = one.2 in omega arith

pub later_forks : LaterForks
later_forks program source h ps qs a b p t u numbered ra rb le ta ub =
    let j = led_together program source h ps qs a b numbered ra rb in
    let more = j.steps_b p in
    let none : 0 ≡ steps_of p j.more_b = omega arith in
    let end = rests program source b j.more_b j.end p u (numbered_run program source h qs b numbered rb) j.run_b none ub in
    run_forks program source a j.more_a p j.end t u (numbered_run program source h ps a numbered ra) ta j.run_a end

-- ---- threads that have stopped
abbrev pub HasStopped : Standing → Type 0
HasStopped Going = ⊥
HasStopped (Ended v) = Unit {0}
HasStopped (Trapped kind line) = Unit {0}
HasStopped Full = Unit {0}

stopped_by : (program : Program) (source : Data) (h : Heap) (p : Path) (t : Thread) (s : Standing) (c : Change) → HasStopped s → Enabled h (move_standing program source p t s) c → ⊥
stopped_by program source h p t Going c stopped e = stopped
stopped_by program source h p t (Ended v) c stopped e = e
stopped_by program source h p t (Trapped kind line) c stopped e = e
stopped_by program source h p t Full c stopped e = e

-- a thread that has stopped has no step
pub no_step : (program : Program) (source : Data) (h : Heap) (p : Path) (h' : Heap) (t : Thread) → h.thread p ≡ Some t → HasStopped t.standing → HStep program source h p h' → ⊥
unfolding move
no_step program source h p h' t here stopped s =
    let same : t ≡ s.thread = let x = s.here in cc in
    stopped_by program source h p s.thread s.thread.standing s.change (subst (λ x. HasStopped x.standing) same stopped) s.enabled

pub ended_stopped : (s : Standing) (v : ℕ) → s ≡ Ended v → HasStopped s
ended_stopped s v e = subst HasStopped (sym e) tt

pub run_there : (program : Program) (source : Data) (h : Heap) (ps : List Path) (h' : Heap) (p : Path) (t : Thread) → IsNumbered h → Run program source h ps h' → h.thread p ≡ Some t → (u : Thread) × (h'.thread p ≡ Some u)
run_there program source h [] h' p t numbered run here = (t, subst (λ x. x.thread p ≡ Some t) run here)
run_there program source h (q ∷ ps) h' p t numbered run here =
    let one = step_forks program source h q p run.0 t numbered here run.1 in
    run_there program source run.0 ps h' p one.0 (numbered_after program source h q run.0 numbered run.1) run.2 one.1

pub stopped_stays : (program : Program) (source : Data) (h : Heap) (ps : List Path) (h' : Heap) (p : Path) (t : Thread) → IsNumbered h → Run program source h ps h' → h.thread p ≡ Some t → HasStopped t.standing → h'.thread p ≡ Some t
stopped_stays program source h [] h' p t numbered run here stopped = subst (λ x. x.thread p ≡ Some t) run here
stopped_stays program source h (q ∷ ps) h' p t numbered run here stopped =
    let s = run.1 in
    let ne : p ≢ q = λ x. no_step program source h q run.0 t (subst (λ y. h.thread y ≡ Some t) x here) stopped s in
    let stays : run.0.thread p ≡ Some t = subst (λ x. x.thread p ≡ Some t) s.next (thread_stays h q p s.thread t s.change numbered s.here here ne) in
    stopped_stays program source run.0 ps h' p t (numbered_after program source h q run.0 numbered s) run.2 stays stopped
