use Rattle.st_step.proofs.RolesSuit.{outer_store_suits}
use Rattle.st_step.proofs.decoded.word_store_role.Goals as goal

pub returns-then-not-is_stack : goal.returns-then-not-is_stack
returns-then-not-is_stack c = outer_store_suits c.args.i c.requires
