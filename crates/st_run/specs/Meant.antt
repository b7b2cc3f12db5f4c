-- What a program means to a board is what the heap-frame machine does: is_meant.
use Rattle.std.proofs.Common.{inl, refl}
use Rattle.st_base.specs.declared.limits.Limits.{Limits}
use Rattle.st_model.specs.declared.program.Program.{Program}
use Rattle.st_model.specs.Memory.{Data}
use Rattle.st_rule.specs.Rule.{IsMeant}
use Rattle.st_run.specs.Meanings.{meaning}

pub is_meant : (p : Program) (d : Data) (limits : Limits) → IsMeant (meaning p d limits) p d limits
is_meant p d limits = record {
  items = record { forks = λ t h. h; counts = λ t h. h; ends = λ t value h. h };
  met = λ u code h. h;
  made_ready = λ cargo chain h. h;
  root = λ s e. (inl (record { wait = refl; first = s; begins = e; root = refl; none = refl }), refl);
}
