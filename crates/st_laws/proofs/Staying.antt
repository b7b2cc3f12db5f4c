-- What a run leaves as it is: the laws of specs/Stays.
use Rattle.std.proofs.Common.{◌≡◌, ◌≤◌, [], ◌∷◌, sym, ap, subst, arith}
use Rattle.st_model.specs.Heap.{Stays, Moves, Touch, Join, first_heap}
use Rattle.st_laws.specs.Stays.{ReachedIsNumbered, RunIsNumbered, EndedStays, CountsGrow, SeenEnables, SeenStays, OtherStays, Rests}
use Rattle.st_laws.proofs.HeapSteps.{count_more}
use Rattle.st_laws.proofs.Numbering.{numbered_run}
use Rattle.st_laws.proofs.HeapRuns as runs
use Rattle.st_laws.proofs.Later.{ended_stopped, stopped_stays}
use Rattle.st_laws.proofs.Quieting.{first_stands}

pub reached_is_numbered : ReachedIsNumbered
reached_is_numbered program source h r =
    numbered_run program source (first_heap r.first) r.steps h (first_stands program source r.first r.is_first).1 r.run

pub run_is_numbered : RunIsNumbered
run_is_numbered program source h h' ps numbered run = numbered_run program source h ps h' numbered run

pub ended_stays : EndedStays
ended_stays program source h h' ps p v numbered run e =
    (e.0, stopped_stays program source h ps h' p e.0 numbered run e.1 (ended_stopped e.0.standing v e.2), e.2)

-- ---- counts
pub counts_grow : CountsGrow
counts_grow program source h h' [] p n run = let e : h.count p n ≡ h'.count p n = ap (λ x. x.count p n) run in omega arith
counts_grow program source h h' (q ∷ ps) p n run =
    let one : h.count p n ≤ run.0.count p n = subst (λ x. h.count p n ≤ x.count p n) run.1.next (count_more run.1.change.added h.count p n (h.count p n) (omega arith)) in
    let more = counts_grow program source run.0 h' ps p n run.2 in
    omega arith

-- ---- what was seen
pub seen_enables : SeenEnables
seen_enables h value count Stays c seen e = e
seen_enables h value count (Moves d) c seen e = e
seen_enables h value count (Touch q f) c seen e = (e.0, seen.values q e.0 e.1, e.2)
seen_enables h value count (Join q n least d) c seen e = let enough = e.0 in let less = seen.counts q n in (omega arith, e.1)

pub seen_stays : SeenStays
seen_stays program source h h' ps value count numbered run seen =
    record {
      values = λ p v e. ended_stays program source h h' ps p v numbered run (seen.values p v e);
      counts = λ p n. let less = seen.counts p n in let grow = counts_grow program source h h' ps p n run in omega arith;
    }

-- ---- the steps of others
pub other_stays : OtherStays
other_stays program source h h' p q t numbered here ne s = runs.other_stays program source h p q h' t numbered here ne s

pub rests : Rests
rests program source h h' ps p t numbered run none here = runs.rests program source h ps h' p t numbered run (sym none) here
