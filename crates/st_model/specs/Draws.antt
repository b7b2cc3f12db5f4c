-- The cells that items draw: a fork draws one for its child's future, st_counter one for its counter. Read draws; both the bounded run
-- and the limits of the heap-frame machine count by it.
use Rattle.std.specs.Prelude.{ℕ, Option, Some, None}
use Rattle.st_model.specs.declared.program.Item.{Item}
use Rattle.st_model.specs.declared.program.ItemKind.{ItemKind}
use Rattle.st_model.specs.declared.program.ItemKind.TheVariants.{Entry, Fork}
use Rattle.st_model.specs.declared.program.RuntimeCall.{RuntimeCall}
use Rattle.st_model.specs.declared.program.RuntimeCall.TheVariants.{Counter}
use Rattle.st_model.specs.Effect.{runtime_call}

abbrev pub call_draws : Option RuntimeCall → ℕ
call_draws (Some Counter) = 1
call_draws _ = 0

-- the cells that an item of this kind draws
abbrev pub draws : ItemKind → ℕ
draws (Fork f handle) = 1
draws (Entry at) = call_draws (runtime_call at)
draws _ = 0

-- the cells that the next item draws, if there is one
abbrev pub drawn_by : Option Item → ℕ
drawn_by None = 0
drawn_by (Some item) = draws item.kind
