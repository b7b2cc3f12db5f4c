-- What no run passes, and what some run passes: begun_within and done_within (a run to a quiet heap, and a Done ordinary-call run, bound the items that
-- any run begins), begun_pass_step (items begun at the end of a run count for the limit Step), totals_within (a run to a quiet heap has the greatest
-- sums over its steps).
use Rattle.std.proofs.Common.{◌≡◌, ◌≢◌, ℕ, zero, suc, ◌+◌, ◌≤◌, List, [], ◌∷◌, ◌++◌, length, length-append, Some, refl, sym, ap, ◌∙◌, subst, arith, inl, inr, ◌⊎◌}
use Rattle.st_base.specs.declared.thread.Standing.TheVariants.{Ended}
use Rattle.st_base.specs.declared.thread.Thread.{Thread}
use Rattle.st_model.specs.declared.program.Program.{Program}
use Rattle.st_model.specs.declared.ordinary.OrdEnd.TheVariants.{Done}
use Rattle.st_model.specs.Ordinary.{run}
use Rattle.st_model.specs.Heap.{Path, Heap, own, after, HStep, Run, steps_of, first_heap, IsNumbered}
use Rattle.st_model.specs.Quiet.{IsQuiet}
use Rattle.st_model.specs.Limits.{frame_made, cells_drawn, IsMember, AreDistinct, IsWaiting, total}
use Rattle.st_laws.specs.Begun.{QuietPasses, BegunWithin, DoneWithin, BegunPassStep, TotalsWithin}
use Rattle.st_laws.proofs.HeapSteps.{diamond, decide, same_step}
use Rattle.st_laws.proofs.Numbering.{numbered_after, numbered_run}
use Rattle.st_laws.proofs.HeapRuns.{no_longer, rests, run_snoc, quiet_reached, other_stays, run_append}
use Rattle.st_laws.proofs.Sequence.{newest_of, ending, sequence}
use Rattle.st_model.proofs.Steps.{run_is_from}
use Rattle.st_laws.proofs.Later.{no_step, ended_stopped}
use Rattle.st_laws.proofs.Quieting.{all_ended, first_stands, AllEnded, run_leads, going_stopped}
use Rattle.st_laws.proofs.Agreeing.{steps_append}
use Rattle.st_laws.proofs.Beginning.{distinct_within, begun_are_made, member_steps}
use Rattle.st_model.specs.Memory.{Data}

-- ---- no run begins more items than one to a quiet heap
at_least_one : (n : ℕ) → n ≢ 0 → 1 ≤ n
at_least_one zero ne = absurd (ne refl)
at_least_one (suc n) ne = omega arith

pub begun_within : BegunWithin
begun_within program source h a b ps qs ws left numbered run distinct unfinished to quiet whole =
    let more = quiet_reached program source h ps qs a b numbered run to quiet in
    let each : (p : Path) → IsMember p ws → 1 ≤ steps_of p (more.0 ++ left) = λ p m.
    let u = unfinished p m in
    let sum = steps_append p more.0 left in
    at_least_one (steps_of p (more.0 ++ left)) (λ none.
    let still : 0 ≡ steps_of p more.0 = omega arith in
    let there = rests program source a more.0 b p u.0 (numbered_run program source h ps a numbered run) more.1 still u.1.0 in
    let last = member_steps p left (whole p (u.0, (there, u.1.1))) in
    omega arith) in
    let few = distinct_within ws (more.0 ++ left) distinct each in
    let all = no_longer program source h (ps ++ more.0) qs b b numbered (run_append program source h ps a more.0 b run more.1) to quiet in
    let x = length-append ps more.0 in
    let y = length-append more.0 left in
    omega arith

pub done_within : DoneWithin
done_within program source s n out first is passes =
    let stands = first_stands program source s first in
    let h = first_heap s in
    let lead = run_leads program source n s (Done out) (λ e. cc) (sym (run_is_from program source n s first) ∙ is) in
    let ps = lead.0 in
    let t = lead.1.0 in
    let x = sequence program source s t h ps stands.1 stands.0 lead.1.1.1 in
    let g = x.0 in
    let last = newest_of t g x.2 in
    let done = ending program source t (Done out) g (numbered_run program source h ps g stands.1 x.1) x.2 lead.1.1.2 in
    let e = t.rest.thread.path in
    let v = done.2.0 in
    let g' = after g e last (own (record last { standing = Ended v })) in
    let ended : AllEnded g' = all_ended program t g last v x.2 done.1 in
    let quiet : IsQuiet program source g' = λ p h'' y. let z = ended p y.thread y.here in no_step program source g' p h'' y.thread y.here (ended_stopped y.thread.standing z.0 z.1) y in
    let facts = passes.1.1.1 in
    let within =
    begun_within program source h passes.1.0 g' passes.0 (ps ++ e ∷ []) passes.1.1.0 [] stands.1 facts.0 facts.1 (λ p m. (facts.2 p m).0)
    (run_snoc program source h ps g e g' x.1 done.2.1) quiet
    (λ p u. let z = ended p u.0 u.1.0 in going_stopped u.0.standing u.1.1 (ended_stopped u.0.standing z.0 z.1)) in
    let size = length-append ps (e ∷ []) in
    let fits = lead.1.1.0 in
    let past = facts.3 in
    omega arith

-- ---- begun items and the limit Step
record Parted (program : Program) (source : Data) (end : Heap) (more begun : List Path) : Type 0 where
  made : List Path
  waiting : List Path
  size : length begun ≡ length made + length waiting
  made_in : (p : Path) → IsMember p made → IsMember p begun × (steps_of p more ≡ 1)
  waiting_in : (p : Path) → IsMember p waiting → IsMember p begun × IsWaiting program source end p
  made_distinct : AreDistinct made
  waiting_distinct : AreDistinct waiting

part : (program : Program) (source : Data) (end : Heap) (more begun : List Path) → AreDistinct begun → ((p : Path) → IsMember p begun → (steps_of p more ≡ 1) ⊎ ((steps_of p more ≡ 0) × IsWaiting program source end p)) → Parted program source end more begun
part program source end more [] distinct all =
    record {
      made = [];
      waiting = [];
      size = refl;
      made_in = λ p m. absurd m;
      waiting_in = λ p m. absurd m;
      made_distinct = tt;
      waiting_distinct = tt;
    }
part program source end more (q ∷ qs) distinct all =
    let x = part program source end more qs distinct.1 (λ p m. all p (inr m)) in
    let size = x.size in
    elim (all q (inl refl)) [
      | inl one ↦
          record {
            made = q ∷ x.made;
            waiting = x.waiting;
            size = omega arith;
            made_in = λ p m. elim m [
              | inl same ↦ (inl same, subst (λ y. steps_of y more ≡ 1) (sym same) one)
              | inr rest ↦ let y = x.made_in p rest in (inr y.0, y.1)
            ];
            waiting_in = λ p m. let y = x.waiting_in p m in (inr y.0, y.1);
            made_distinct = (λ m. distinct.0 (x.made_in q m).0, x.made_distinct);
            waiting_distinct = x.waiting_distinct;
          }
      | inr none ↦
          record {
            made = x.made;
            waiting = q ∷ x.waiting;
            size = omega arith;
            made_in = λ p m. let y = x.made_in p m in (inr y.0, y.1);
            waiting_in = λ p m. elim m [
              | inl same ↦ (inl same, subst (IsWaiting program source end) (sym same) none.1)
              | inr rest ↦ let y = x.waiting_in p rest in (inr y.0, y.1)
            ];
            made_distinct = x.made_distinct;
            waiting_distinct = (λ m. distinct.0 (x.waiting_in q m).0, x.waiting_distinct);
          }
    ]

pub begun_pass_step : BegunPassStep
begun_pass_step program source h h' ps begun steps numbered run distinct unfinished less =
    let a = begun_are_made program source h' begun (numbered_run program source h ps h' numbered run) unfinished in
    let x = part program source a.end a.more begun distinct a.made in
    let within = distinct_within x.made a.more x.made_distinct (λ p m. let y = (x.made_in p m).1 in omega arith) in
    let size = x.size in
    let sum = length-append ps a.more in
    (ps ++ a.more, (a.end, (x.waiting, (run_append program source h ps h' a.more a.end run a.run, x.waiting_distinct, λ p m. (x.waiting_in p m).1, omega arith))))

-- ---- sums over the steps of a run
-- the run without its first step of p, whose part of each sum is gone
record Lighter (program : Program) (source : Data) (h hp : Heap) (p : Path) (t : Thread) (ps : List Path) (h' : Heap) (run : Run program source h ps h') : Type 0 where
  rest : List Path
  left : Run program source hp rest h'
  totals : (of : Path → Thread → ℕ) → total program source of h ps h' run ≡ of p t + total program source of hp rest h' left

same_thread : (h : Heap) (p q : Path) (t u : Thread) → p ≡ q → h.thread p ≡ Some t → h.thread q ≡ Some u → t ≡ u
same_thread h p q t u e a b = let x : h.thread q ≡ Some t = subst (λ y. h.thread y ≡ Some t) e a in cc

lighten : (program : Program) (source : Data) (h hp : Heap) (p : Path) (ps : List Path) (h' : Heap) → IsNumbered h → (s : HStep program source h p hp) → (run : Run program source h ps h') → Lighter program source h hp p s.thread ps h' run ⊎ ((end : Heap) × HStep program source h' p end)
lighten program source h hp p [] h' numbered s run = inr (hp, subst (λ x. HStep program source x p hp) run s)
lighten program source h hp p (q ∷ ps) h' numbered s run =
    elim (decide p q) [
      | inl e ↦
          let same : run.0 ≡ hp = same_step program source h p run.0 hp (subst (λ x. HStep program source h x run.0) (sym e) run.1) s in
          let thread : s.thread ≡ run.1.thread = same_thread h p q s.thread run.1.thread e s.here run.1.here in
          let first : Lighter program source h run.0 p s.thread (q ∷ ps) h' run =
          record {
            rest = ps;
            left = run.2;
            totals = λ of. ap (λ n. n + total program source of run.0 ps h' run.2) (λ i. of (sym e i) (sym thread i));
          } in
          inl (subst (λ x. Lighter program source h x p s.thread (q ∷ ps) h' run) same first)
      | inr ne ↦
          let d = diamond program source h p q hp run.0 numbered ne s run.1 in
          let numbered' = numbered_after program source h q run.0 numbered run.1 in
          let mine : d.2.thread ≡ s.thread = same_thread run.0 p p d.2.thread s.thread refl d.2.here (other_stays program source h p q run.0 s.thread numbered s.here ne run.1) in
          let other : d.1.thread ≡ run.1.thread = same_thread hp q q d.1.thread run.1.thread refl d.1.here (other_stays program source h q p hp run.1.thread numbered run.1.here (λ x. ne (sym x)) s) in
          elim (lighten program source run.0 d.0 p ps h' numbered' d.2 run.2) [
            | inl w ↦
                inl record {
                  rest = q ∷ w.rest;
                  left = (d.0, d.1, w.left);
                  totals = λ of.
                      let x = w.totals of in
                      let y : of p d.2.thread ≡ of p s.thread = ap (of p) mine in
                      let z : of q d.1.thread ≡ of q run.1.thread = ap (of q) other in
                      omega arith;
                }
            | inr more ↦ inr more
          ]
    ]

pub totals_within : TotalsWithin
totals_within program source of h [] qs a b r q numbered quiet = omega arith
totals_within program source of h (p ∷ ps) qs a b r q numbered quiet =
    elim (lighten program source h r.0 p qs b numbered r.1 q) [
      | inl w ↦
          let more = totals_within program source of r.0 ps w.rest a b r.2 w.left (numbered_after program source h p r.0 numbered r.1) quiet in
          let all = w.totals of in omega arith
      | inr more ↦ absurd (quiet p more.0 more.1)
    ]

pub quiet_passes : QuietPasses
quiet_passes program source h b qs q limit numbered quiet = (
  λ passes.
      let past = passes.1.1.1 in
      let most = totals_within program source (frame_made program) h passes.0 qs passes.1.0 b passes.1.1.0 q numbered quiet in
      omega arith,
  λ passes.
      let past = passes.1.1.1 in
      let most = totals_within program source (cells_drawn program) h passes.0 qs passes.1.0 b passes.1.1.0 q numbered quiet in
      omega arith,
)
