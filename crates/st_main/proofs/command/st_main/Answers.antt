use Rattle.std.proofs.Common.{map}
use Rattle.std.specs.Prelude.{string_bytes}
use Rattle.st_main.specs.Answer.{intake_of, library_of, output_of}
use Rattle.st_main.proofs.Answering.{usage-asks_none, none-is_usage}
use Rattle.st_main.proofs.CompletingJobs.{completes-words}
use Rattle.st_main.proofs.command.st_main.Goals as goal

pub returns-clause-usage : goal.returns-clause-usage
returns-clause-usage g c = usage-asks_none (map (λ n. string_bytes n) c.args.words.now) (library_of (g.F.Files.contents c.args.files.now) (g.F.Files.faults c.args.files.now) (g.F.Files.faults c.answer_words.new.files)) (intake_of (g.S.Source.left c.args.input.now) (g.S.Source.left c.answer_words.new.input) (g.S.Source.faults c.args.input.now) (g.S.Source.faults c.answer_words.new.input)) (output_of (g.K.Sink.faults c.args.out.now) (g.K.Sink.faults c.answer_words.new.out) (g.K.Sink.taken c.args.out.now) (g.K.Sink.taken c.answer_words.new.out)) (output_of (g.K.Sink.faults c.args.err.now) (g.K.Sink.faults c.answer_words.new.err) (g.K.Sink.taken c.args.err.now) (g.K.Sink.taken c.answer_words.new.err)) c.answer_words.result c.answer_words.ensures

pub returns-clause-none : goal.returns-clause-none
returns-clause-none g c = none-is_usage (map (λ n. string_bytes n) c.args.words.now) (library_of (g.F.Files.contents c.args.files.now) (g.F.Files.faults c.args.files.now) (g.F.Files.faults c.answer_words.new.files)) (intake_of (g.S.Source.left c.args.input.now) (g.S.Source.left c.answer_words.new.input) (g.S.Source.faults c.args.input.now) (g.S.Source.faults c.answer_words.new.input)) (output_of (g.K.Sink.faults c.args.out.now) (g.K.Sink.faults c.answer_words.new.out) (g.K.Sink.taken c.args.out.now) (g.K.Sink.taken c.answer_words.new.out)) (output_of (g.K.Sink.faults c.args.err.now) (g.K.Sink.faults c.answer_words.new.err) (g.K.Sink.taken c.args.err.now) (g.K.Sink.taken c.answer_words.new.err)) c.answer_words.result c.answer_words.ensures

pub returns-clause-complete : goal.returns-clause-complete
returns-clause-complete g c = completes-words (map (λ n. string_bytes n) c.args.words.now) (library_of (g.F.Files.contents c.args.files.now) (g.F.Files.faults c.args.files.now) (g.F.Files.faults c.answer_words.new.files)) (intake_of (g.S.Source.left c.args.input.now) (g.S.Source.left c.answer_words.new.input) (g.S.Source.faults c.args.input.now) (g.S.Source.faults c.answer_words.new.input)) (output_of (g.K.Sink.faults c.args.out.now) (g.K.Sink.faults c.answer_words.new.out) (g.K.Sink.taken c.args.out.now) (g.K.Sink.taken c.answer_words.new.out)) (output_of (g.K.Sink.faults c.args.err.now) (g.K.Sink.faults c.answer_words.new.err) (g.K.Sink.taken c.args.err.now) (g.K.Sink.taken c.answer_words.new.err)) c.answer_words.result c.answer_words.ensures
