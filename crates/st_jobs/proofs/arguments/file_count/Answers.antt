use Rattle.std.proofs.Common.{map}
use Rattle.std.proofs.lemmas.List.{length-map}
use Rattle.st_jobs.specs.Words.{file_id}
use Rattle.st_jobs.proofs.FoundValues.{found_values-some, found_values-none}
use Rattle.st_jobs.proofs.arguments.file_count.Goals as goal

pub returns-in-Some : goal.returns-in-Some
returns-in-Some c =
    let found = found_values-some c.args.matches.now file_id (map (λ s. s.now) c.in-Some.texts.now) c.in-Some.ensures in
    rw (← found, length-map)

pub returns-in-None : goal.returns-in-None
returns-in-None c =
    let found = found_values-none c.args.matches.now file_id c.in-None.ensures in
    rw (← found)
