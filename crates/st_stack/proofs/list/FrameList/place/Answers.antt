use Rattle.std.proofs.Common.{rules, ◌≡◌, ◌<◌, ◌≤◌, ◌-◌, ◌∙◌, sym, ap, subst, length, take, drop, arith, ltb, leb, true, false}
use Rattle.std.specs.List.Sorted.{IsPartitionedBy, IsPartitionPoint}
use Rattle.std.proofs.lemmas.List.{length-drop}
use Rattle.std.proofs.lemmas.List.Sorted.{IsPartitionPoint-from_clause}
use Rattle.st_stack.specs.Listing.{Listing, FallsLow}
use Rattle.st_stack.specs.Exported.{IsPlaceOf}
use Rattle.st_stack.proofs.Turned.{front_parted, back_parted, front_place, back_place}
use Rattle.st_stack.proofs.list.FrameList.place.Goals as goal

pub returns-then-above-self : goal.returns-then-above-self
returns-then-above-self c =
    let l = c.self.inside in
    let n = l.turn in
    let fs = l.frames.items in
    let within : n ≤ length fs = omega (arith, c.self.invariant) in
    let falls : FallsLow _ = subst (λ (x : Listing). FallsLow x.frames) (sym c.self.view_is) c.requires in
    let front : c.split_at.result.0.now ≡ take n fs = search rules in
    let parted = subst (IsPartitionedBy (λ g. ltb c.args.f.low g.low)) (sym front) (front_parted n fs c.args.f within falls) in
    let point = subst (λ xs. IsPartitionPoint (λ g. ltb c.args.f.low g.low ≡ true) (λ g. ltb c.args.f.low g.low ≡ false) xs c.partition_point-above.result) front (IsPartitionPoint-from_clause (λ g. ltb c.args.f.low g.low) _ _ c.partition_point-above.ensures.partitioned parted (λ a r q k. search rules)) in
    let less : c.partition_point-above.result < n = search rules in
    subst (λ (x : Listing). IsPlaceOf c.args.f x.frames c.partition_point-above.result) c.self.view_is (front_place n fs c.args.f within falls c.partition_point-above.result (omega arith) point less)

pub returns : goal.returns
returns c =
    let l = c.self.inside in
    let n = l.turn in
    let fs = l.frames.items in
    let within : n ≤ length fs = omega (arith, c.self.invariant) in
    let falls : FallsLow _ = subst (λ (x : Listing). FallsLow x.frames) (sym c.self.view_is) c.requires in
    let front : c.split_at.result.0.now ≡ take n fs = search rules in
    let back : c.split_at.result.1.now ≡ drop n fs = search rules in
    let parted = subst (IsPartitionedBy (λ g. ltb c.args.f.low g.low)) (sym front) (front_parted n fs c.args.f within falls) in
    let point = subst (λ xs. IsPartitionPoint (λ g. ltb c.args.f.low g.low ≡ true) (λ g. ltb c.args.f.low g.low ≡ false) xs c.partition_point-above.result) front (IsPartitionPoint-from_clause (λ g. ltb c.args.f.low g.low) _ _ c.partition_point-above.ensures.partitioned parted (λ a r q k. search rules)) in
    let parted' = subst (IsPartitionedBy (λ g. leb g.low c.args.f.low)) (sym back) (back_parted n fs c.args.f within falls) in
    let point' = subst (λ xs. IsPartitionPoint (λ g. leb g.low c.args.f.low ≡ true) (λ g. leb g.low c.args.f.low ≡ false) xs c.partition_point-below.result) back (IsPartitionPoint-from_clause (λ g. leb g.low c.args.f.low) _ _ c.partition_point-below.ensures.partitioned parted' (λ a r q k. search rules)) in
    let few : c.partition_point-above.result ≤ n = search rules in
    let all : n ≤ c.partition_point-above.result = search rules in
    let rest = length-drop n fs in
    let some : c.partition_point-below.result ≤ length fs - n = search rules in
    let whole : length fs - c.partition_point-below.result ≡ c.len.result - c.partition_point-below.result = search rules in
    subst (IsPlaceOf c.args.f _) whole (subst (λ (x : Listing). IsPlaceOf c.args.f x.frames (length fs - c.partition_point-below.result)) c.self.view_is (back_place n fs c.args.f within falls c.partition_point-above.result few point c.partition_point-below.result all some point'))
