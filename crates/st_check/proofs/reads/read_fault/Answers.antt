use Rattle.std.proofs.Common.{◌≡◌, ◌≤◌, sym, subst, length, map, Some, ◌<◌}
use Rattle.std.specs.Prelude.{IfSome, All}
use Rattle.std.proofs.lemmas.Option.{slice_get_within}
use Rattle.st_model.specs.Flow.{UndefinedRead}
use Rattle.st_flow.specs.Undefined.{ReadsPlace, LeavesUndefined, PassesOnce}
use Rattle.st_check.specs.Acceptance.{lines_at}
use Rattle.st_check.proofs.ReadFaults.{read-told, path-inside}
use Rattle.st_check.proofs.reads.read_fault.Goals as goal

pub lines_of-requires : goal.lines_of-requires
lines_of-requires c =
    let reads = subst (λ o. IfSome o (λ bad. ReadsPlace c.args.program.now c.args.function.now bad.item bad.place)) c.in-Some.is c.in_ok-bad.ensures.reads in
    let leaves = subst (λ o. IfSome o (λ bad. LeavesUndefined c.args.function.now bad.place bad.item bad.path)) c.in-Some.is c.in_ok-bad.ensures.undefined in
    subst (λ path. All (λ i. i < length c.args.function.now.items) path) (sym c.as_slice.ensures) (path-inside c.args.program.now c.args.function.now c.in-Some.bad.item c.in-Some.bad.place c.in-Some.bad.path reads leaves)

pub line_at-requires : goal.line_at-requires
line_at-requires c =
    let reads = subst (λ o. IfSome o (λ bad. ReadsPlace c.args.program.now c.args.function.now bad.item bad.place)) c.in-Some.is c.in_ok-bad.ensures.reads in
    slice_get_within c.args.function.now.items c.in-Some.bad.item reads.0 reads.1

pub returns-clause-told : goal.returns-clause-told
returns-clause-told c =
    let reads = subst (λ o. IfSome o (λ bad. ReadsPlace c.args.program.now c.args.function.now bad.item bad.place)) c.in-Some.is c.in_ok-bad.ensures.reads in
    let leaves = subst (λ o. IfSome o (λ bad. LeavesUndefined c.args.function.now bad.place bad.item bad.path)) c.in-Some.is c.in_ok-bad.ensures.undefined in
    let shape = subst (λ o. IfSome o (λ bad. PassesOnce c.args.function.now bad.place bad.path)) c.in-Some.is c.in_ok-bad.ensures.shape in
    let first = subst (λ o. IfSome o (λ bad. (read : UndefinedRead c.args.program.now c.args.function.now) → bad.item ≤ read.at)) c.in-Some.is c.in_ok-bad.ensures.first in
    let told = subst (λ path. map Some c.in_ok-path.path ≡ lines_at c.args.function.now path) c.as_slice.ensures c.in_ok-path.ensures in
    read-told c.args.program.now c.args.function.now c.in-Some.bad.item c.in-Some.bad.place c.in-Some.bad.path c.line_at.result c.in_ok-path.path reads leaves shape first c.line_at.ensures told
