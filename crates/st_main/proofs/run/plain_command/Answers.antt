use Rattle.std.proofs.Common.{map, string_bytes, subst, sym}
use Rattle.st_plain.specs.Answer.{bounds_of}
use Rattle.st_main.specs.Answer.{Answers, AnswersRun, RunsTo, intake_of, library_of, output_of}
use Rattle.st_main.proofs.Answering.{comes-about}
use Rattle.st_main.proofs.Completing.{completes-run}
use Rattle.st_main.proofs.run.plain_command.Goals as goal

pub returns-clause-answer : goal.returns-clause-answer
returns-clause-answer g c =
    subst (λ ns. Answers (AnswersRun (RunsTo (bounds_of c.args.args.now.limits)) (library_of (g.F.Files.contents c.args.files.now) (g.F.Files.faults c.args.files.now) (g.F.Files.faults c.run_files.new.files)) ns (intake_of (g.S.Source.left c.args.input.now) (g.S.Source.left c.run_files.new.input) (g.S.Source.faults c.args.input.now) (g.S.Source.faults c.run_files.new.input))) ns (output_of (g.K.Sink.faults c.args.out.now) (g.K.Sink.faults c.finish.new.out) (g.K.Sink.taken c.args.out.now) (g.K.Sink.taken c.finish.new.out)) (output_of (g.K.Sink.faults c.args.err.now) (g.K.Sink.faults c.finish.new.err) (g.K.Sink.taken c.args.err.now) (g.K.Sink.taken c.finish.new.err)) c.finish.result) c.as_slice-names.ensures
    (comes-about (AnswersRun (RunsTo (bounds_of c.args.args.now.limits)) (library_of (g.F.Files.contents c.args.files.now) (g.F.Files.faults c.args.files.now) (g.F.Files.faults c.run_files.new.files)) (map (λ n. string_bytes n) c.as_slice-names.result.now) (intake_of (g.S.Source.left c.args.input.now) (g.S.Source.left c.run_files.new.input) (g.S.Source.faults c.args.input.now) (g.S.Source.faults c.run_files.new.input))) (map (λ n. string_bytes n) c.as_slice-names.result.now) c.of-outcome.result (output_of (g.K.Sink.faults c.args.out.now) (g.K.Sink.faults c.finish.new.out) (g.K.Sink.taken c.args.out.now) (g.K.Sink.taken c.finish.new.out)) (output_of (g.K.Sink.faults c.args.err.now) (g.K.Sink.faults c.finish.new.err) (g.K.Sink.taken c.args.err.now) (g.K.Sink.taken c.finish.new.err)) c.finish.result (subst (AnswersRun (RunsTo (bounds_of c.args.args.now.limits)) (library_of (g.F.Files.contents c.args.files.now) (g.F.Files.faults c.args.files.now) (g.F.Files.faults c.run_files.new.files)) (map (λ n. string_bytes n) c.as_slice-names.result.now) (intake_of (g.S.Source.left c.args.input.now) (g.S.Source.left c.run_files.new.input) (g.S.Source.faults c.args.input.now) (g.S.Source.faults c.run_files.new.input))) (sym c.of-outcome.ensures) c.run_files.ensures.answer) c.finish.ensures)

pub returns-clause-complete : goal.returns-clause-complete
returns-clause-complete g c = completes-run _ _ _ _ _ _ _ (returns-clause-answer g c)
