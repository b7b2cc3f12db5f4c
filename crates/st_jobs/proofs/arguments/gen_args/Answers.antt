use Rattle.std.proofs.Common.{◌≡◌, ◌∙◌, [], sym}
use Rattle.st_jobs.specs.Words.{file_id}
use Rattle.st_jobs.specs.ByClap.{found_values}
use Rattle.st_jobs.proofs.FoundValues.{length-nil}
use Rattle.st_jobs.proofs.arguments.gen_args.Goals as goal

pub returns : goal.returns
returns c =
    let none : found_values c.args.matches.now file_id ≡ [] = length-nil (found_values c.args.matches.now file_id) (sym c.file_count.ensures ∙ c.if-file_count-ne0.false) in
    rw (← c.in_ok-program.ensures.value, ← c.in_ok-workers.ensures.value, none)
