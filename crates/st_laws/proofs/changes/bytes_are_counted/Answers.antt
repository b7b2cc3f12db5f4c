use Rattle.st_laws.proofs.CountBytes as countbytes
use Rattle.st_laws.proofs.changes.bytes_are_counted.Goals as goal

pub returns : goal.returns
returns c = countbytes.bytes_are_counted
