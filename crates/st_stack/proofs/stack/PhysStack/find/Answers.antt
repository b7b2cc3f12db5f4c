use Rattle.std.proofs.Common.{◌∙◌, sym, subst, length, rules, ◌<◌}
use Rattle.st_stack.specs.Exported.{Exports, IsPlaceOf}
use Rattle.st_stack.proofs.Frames.{not_there, stands_at}
use Rattle.st_stack.proofs.stack.PhysStack.find.Goals as goal
