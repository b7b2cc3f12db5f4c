use Rattle.std.proofs.Common.{◌≡◌, true, false, sym, ◌∙◌, arith}
use Rattle.std.specs.Prelude.{nat_eq, string_bytes}
use Rattle.std.specs.Cmp.Lexicographic.{pointwise}
use Rattle.st_base.specs.OutsideMemory.{name_and_bytes}
use Rattle.st_base.proofs.FileSearch.{file_here, file_later, file_none}
use Rattle.st_base.proofs.outside_memory.files.find.Goals as goal

pub loop-file_name-preserved : goal.loop-file_name-preserved
loop-file_name-preserved c =
    let other : pointwise nat_eq (string_bytes c.loop-file_name-item.result.0) c.args.name.now ≡ false = cc (c.as_str.ensures.value, c.eq.ensures, c.if-eq.false) in
    sym (file_later name_and_bytes c.args.files.now c.args.name.now c.loop-file_name.file_name-index c.loop-file_name-item.result (omega arith) c.loop-file_name-item.is other)
    ∙ c.loop-file_name.invariant

pub returns-then-eq : goal.returns-then-eq
returns-then-eq c =
    let same : pointwise nat_eq (string_bytes c.loop-file_name-item.result.0) c.args.name.now ≡ true = cc (c.as_str.ensures.value, c.eq.ensures, c.if-eq.true) in
    let here = file_here name_and_bytes c.args.files.now c.args.name.now c.loop-file_name.file_name-index c.loop-file_name-item.result (omega arith) c.loop-file_name-item.is same in
    cc (here, c.loop-file_name.invariant, c.as_slice.ensures.value)

pub returns : goal.returns
returns c =
    sym c.loop-file_name.invariant
    ∙ file_none name_and_bytes c.args.files.now c.args.name.now c.loop-file_name.file_name-index (omega arith)
