use Rattle.std.proofs.Common.{inr, map, subst, sym}
use Rattle.std.specs.Prelude.{string_bytes}
use Rattle.std.proofs.lemmas.Result.{err_from_is_err_and}
use Rattle.st_main.specs.Answer.{RefusesTexts, IsRunnable, IsListing, library_of, AnswersFiles, IsPostOutcome, text_outcome}
use Rattle.st_main.proofs.Answering.{refused-answers, made-answers}
use Rattle.st_main.proofs.post.post_files.Goals as goal

pub returns-in_err-text-clause-answer : goal.returns-in_err-text-clause-answer
returns-in_err-text-clause-answer g c =
    let p = err_from_is_err_and c.from_residual-in_err-text.result c.from_residual-in_err-text.ensures.1 in
    rw (p.1, p.2) (refused-answers RefusesTexts IsRunnable IsListing (library_of (g.F.Files.contents c.args.files.now) (g.F.Files.faults c.args.files.now) (g.F.Files.faults c.read_files.new.files)) (map (λ n. string_bytes n) c.args.names.now) (map (λ t. t.items) c.in_ok-texts.texts.items) _ c.in_ok-texts.ensures.texts (rw c.as_slice.ensures.value at c.in_err-text.ensures.fault))

pub returns-clause-answer : goal.returns-clause-answer
returns-clause-answer g c =
    subst (AnswersFiles IsPostOutcome (library_of (g.F.Files.contents c.args.files.now) (g.F.Files.faults c.args.files.now) (g.F.Files.faults c.read_files.new.files)) (map (λ n. string_bytes n) c.args.names.now)) (sym c.of_text.ensures)
    (made-answers IsPostOutcome (library_of (g.F.Files.contents c.args.files.now) (g.F.Files.faults c.args.files.now) (g.F.Files.faults c.read_files.new.files)) (map (λ n. string_bytes n) c.args.names.now) (map (λ t. t.items) c.in_ok-texts.texts.items) (text_outcome c.in_ok-text.text.items) c.in_ok-texts.ensures.texts (inr (rw c.as_slice.ensures.value at c.in_ok-text.ensures.text)))
