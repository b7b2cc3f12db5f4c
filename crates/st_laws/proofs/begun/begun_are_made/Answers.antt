use Rattle.st_laws.proofs.Beginning as beginning
use Rattle.st_laws.proofs.begun.begun_are_made.Goals as goal

pub returns : goal.returns
returns c = beginning.begun_are_made
