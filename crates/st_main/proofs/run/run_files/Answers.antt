use Rattle.std.proofs.Common.{map, refl}
use Rattle.std.specs.Prelude.{string_bytes}
use Rattle.std.proofs.lemmas.Result.{err_from_is_err_and}
use Rattle.st_plain.specs.Answer.{bounds_of}
use Rattle.st_main.specs.Answer.{RunsTo, intake_of, library_of}
use Rattle.st_main.proofs.Running.{run-refused}
use Rattle.st_main.proofs.run.run_files.Goals as goal

pub returns-in_err-image-clause-answer : goal.returns-in_err-image-clause-answer
returns-in_err-image-clause-answer g c =
    let p = err_from_is_err_and c.from_residual-in_err-image.result c.from_residual-in_err-image.ensures.1 in
    rw (p.1, p.2) (run-refused (RunsTo (bounds_of c.args.limits.now)) (library_of (g.F.Files.contents c.args.files.now) (g.F.Files.faults c.args.files.now) (g.F.Files.faults c.read_files.new.files)) (map (λ n. string_bytes n) c.args.names.now) (intake_of (g.S.Source.left c.args.input.now) (g.S.Source.left c.args.input.now) (g.S.Source.faults c.args.input.now) (g.S.Source.faults c.args.input.now)) (map (λ t. t.items) c.in_ok-texts.texts.items) _ (refl, refl) c.in_ok-texts.ensures.texts (rw c.as_slice.ensures.value at c.in_err-image.ensures.fault))
