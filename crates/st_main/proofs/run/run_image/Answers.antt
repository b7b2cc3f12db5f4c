use Rattle.std.proofs.Common.{List, ℕ, length, map, subst, sym}
use Rattle.std.specs.Prelude.{string_bytes}
use Rattle.std.proofs.lemmas.List.{length-map}
use Rattle.st_main.specs.Answer.{intake_of}
use Rattle.st_main.specs.Running.{IsImageOfFiles}
use Rattle.st_main.proofs.Running.{has-program, input-runs, told-among}
use Rattle.st_main.proofs.run.run_image.Goals as goal

pub outcome_of_image-requires-clause-image : goal.outcome_of_image-requires-clause-image
outcome_of_image-requires-clause-image g c = has-program (length c.args.names.now) c.args.image.now c.requires

pub returns-clause-answer : goal.returns-clause-answer
returns-clause-answer g c = λ parts is.
    input-runs parts c.args.image.now c.in_ok-bytes.bytes.items c.args.limits.now c.in_ok-outcome.outcome (intake_of (g.S.Source.left c.args.input.now) (g.S.Source.left c.read_input.new.input) (g.S.Source.faults c.args.input.now) (g.S.Source.faults c.read_input.new.input)) is (rw c.as_slice.ensures.value at c.in_ok-outcome.ensures) c.in_ok-bytes.ensures.input c.in_ok-bytes.ensures.few

pub returns-clause-names : goal.returns-clause-names
returns-clause-names g c =
    let names : List (List ℕ) = map (λ n. string_bytes n) c.args.names.now in
    let files = subst (λ n. IsImageOfFiles n c.args.image.now) (sym (length-map c.args.names.now (λ n. string_bytes n))) c.requires in
    told-among names c.args.image.now c.as_slice.result.now c.args.limits.now c.in_ok-outcome.outcome files c.in_ok-outcome.ensures
