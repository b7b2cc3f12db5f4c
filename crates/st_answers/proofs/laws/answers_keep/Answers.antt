use Rattle.st_answers.proofs.Answers.{answers_keep}
use Rattle.st_answers.proofs.laws.answers_keep.Goals as goal

-- src/laws.rt:5:1
pub returns : goal.returns
returns c = answers_keep
