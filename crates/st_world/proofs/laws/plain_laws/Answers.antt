use Rattle.st_world.proofs.OfPlain as proven
use Rattle.st_world.proofs.laws.plain_laws.Goals as goal

pub returns : goal.returns
returns c = record { placed = proven.placed; finds = proven.finds; leaves = proven.leaves }
