use Rattle.st_serving.proofs.Entries.{entries_serve}
use Rattle.st_serving.proofs.laws.entries_serve.Goals as goal

-- src/laws.rt:5:1
pub returns : goal.returns
returns c = entries_serve
