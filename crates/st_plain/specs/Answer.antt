-- What a run of unchanged code answers: the bounded ordinary run. Read IsPlainImage (the image that is run) and answer_of.
use Rattle.std.specs.Prelude.{Option, option_map}
use Rattle.st_base.specs.declared.image.Image.{Image}
use Rattle.st_base.specs.declared.limits.Limits.{Limits}
use Rattle.st_base.specs.declared.limits.LimitKind.TheVariants.{Stack, Cell, Step}
use Rattle.st_model.specs.declared.program.Program.{Program}
use Rattle.st_model.specs.declared.code.Layout.TheVariants.{Unchanged}
use Rattle.st_model.specs.Layout.{IsCodeOf}
use Rattle.st_model.specs.Bounded.{Bounds, BoundedEnd, ended, past_steps, past_cells, past_stack}
use Rattle.st_plain.specs.declared.whole.PlainEnd.{PlainEnd}
use Rattle.st_plain.specs.declared.whole.PlainEnd.TheVariants.{Ended, Limit}

-- the image is of the unchanged code of an accepted program
abbrev pub IsPlainImage : Program → Image → Type 0
IsPlainImage p image = IsCodeOf Unchanged p image

-- there is such a program
abbrev pub HasProgram : Image → Type 0
HasProgram image = (p : Program) × IsPlainImage p image

abbrev pub bounds_of : Limits → Bounds
bounds_of limits = record { steps = limits.steps; cells = limits.cells; stack = limits.stack }

-- a limit is met where the bounded run ends sooner than the ordinary one
abbrev pub end_of : Limits → BoundedEnd → PlainEnd
end_of limits (ended end) = Ended end
end_of limits past_steps = Limit (Step 0)
end_of limits past_cells = Limit (Cell limits.cells)
end_of limits (past_stack frame) = Limit (Stack 0 frame)

abbrev pub answer_of : Limits → Option BoundedEnd → Option PlainEnd
answer_of limits end = option_map (end_of limits) end
