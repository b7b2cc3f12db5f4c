use Rattle.st_places.proofs.Kept as proven
use Rattle.st_places.proofs.laws.kept_by_steps.Goals as goal

pub returns : goal.returns
returns c = λ start. proven.kept c.P.Program.means
