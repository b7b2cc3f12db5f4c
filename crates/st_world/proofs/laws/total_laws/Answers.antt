use Rattle.st_world.proofs.Functions as proven
use Rattle.st_world.proofs.laws.total_laws.Goals as goal

pub returns : goal.returns
returns c = record { same = proven.total_same; changes = proven.total_changes; beyond = proven.total_beyond; part = proven.total_part; none = proven.total_none }
