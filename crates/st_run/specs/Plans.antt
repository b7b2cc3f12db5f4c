-- What a caller names where it names no program: one without a function, which doesn't start, no data, and the least limits.
use Rattle.std.specs.Prelude.{[]}
use Rattle.std.proofs.Common.{refl, lit≤}
use Rattle.st_base.specs.declared.limits.Limits.{Limits}
use Rattle.st_model.specs.declared.program.Program.{Program}
use Rattle.st_model.specs.Memory.{Data}

abbrev pub no_program : Program
no_program = record { functions = []; main = 0 }

abbrev pub no_data : Data
no_data = record { rodata = []; input = [] }

abbrev pub least_limits : Limits
least_limits = record {
  stack = 1024;
  cells = 16;
  steps = 1;
  stack_least = lit≤ tt;
  stack_most = lit≤ tt;
  stack_multiple = refl;
  cells_least = lit≤ tt;
  cells_most = lit≤ tt;
  steps_least = lit≤ tt;
  steps_most = lit≤ tt;
}
