use Rattle.std.proofs.Common.{map, string_bytes, subst, sym}
use Rattle.st_main.specs.Answer.{Answers, AnswersFiles, IsPostOutcome, library_of, output_of}
use Rattle.st_main.proofs.Answering.{comes-about}
use Rattle.st_main.proofs.Completing.{completes-post}
use Rattle.st_main.proofs.post.post_command.Goals as goal

pub returns-clause-answer : goal.returns-clause-answer
returns-clause-answer g c =
    subst (λ ns. Answers (AnswersFiles IsPostOutcome (library_of (g.F.Files.contents c.args.files.now) (g.F.Files.faults c.args.files.now) (g.F.Files.faults c.post_files.new.files)) ns) ns (output_of (g.K.Sink.faults c.args.out.now) (g.K.Sink.faults c.finish.new.out) (g.K.Sink.taken c.args.out.now) (g.K.Sink.taken c.finish.new.out)) (output_of (g.K.Sink.faults c.args.err.now) (g.K.Sink.faults c.finish.new.err) (g.K.Sink.taken c.args.err.now) (g.K.Sink.taken c.finish.new.err)) c.finish.result) c.as_slice-names.ensures
    (comes-about (AnswersFiles IsPostOutcome (library_of (g.F.Files.contents c.args.files.now) (g.F.Files.faults c.args.files.now) (g.F.Files.faults c.post_files.new.files)) (map (λ n. string_bytes n) c.as_slice-names.result.now)) (map (λ n. string_bytes n) c.as_slice-names.result.now) c.of-outcome.result (output_of (g.K.Sink.faults c.args.out.now) (g.K.Sink.faults c.finish.new.out) (g.K.Sink.taken c.args.out.now) (g.K.Sink.taken c.finish.new.out)) (output_of (g.K.Sink.faults c.args.err.now) (g.K.Sink.faults c.finish.new.err) (g.K.Sink.taken c.args.err.now) (g.K.Sink.taken c.finish.new.err)) c.finish.result (subst (AnswersFiles IsPostOutcome (library_of (g.F.Files.contents c.args.files.now) (g.F.Files.faults c.args.files.now) (g.F.Files.faults c.post_files.new.files)) (map (λ n. string_bytes n) c.as_slice-names.result.now)) (sym c.of-outcome.ensures) c.post_files.ensures.answer) c.finish.ensures)

pub returns-clause-complete : goal.returns-clause-complete
returns-clause-complete g c = completes-post _ _ _ _ _ (returns-clause-answer g c)
