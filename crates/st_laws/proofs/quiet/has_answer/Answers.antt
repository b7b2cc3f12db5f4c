use Rattle.st_laws.proofs.Finding as finding
use Rattle.st_laws.proofs.quiet.has_answer.Goals as goal

pub returns : goal.returns
returns c = finding.has_answer
