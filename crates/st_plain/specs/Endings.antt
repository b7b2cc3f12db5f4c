-- How the running thread ends a run, in the words of the ordinary-call run. Read end_by.
use Rattle.std.specs.Prelude.{ℕ, List, Option, Some, None}
use Rattle.st_model.specs.declared.ordinary.OrdEnd.{OrdEnd}
use Rattle.st_model.specs.declared.ordinary.OrdEnd.TheVariants as ends
use Rattle.st_plain.specs.declared.cells.Note.{Note}
use Rattle.st_plain.specs.declared.stop.Ending.{Ending}
use Rattle.st_plain.specs.declared.stop.Ending.TheVariants as endings
use Rattle.st_plain.specs.Threads.{path_by}

-- the end of the run, where the running thread ends it so; the notes stand here with the newest first
abbrev pub end_by : List Note → List ℕ → Ending → Option OrdEnd
end_by notes out endings.Done = Some (ends.Done out)
end_by notes out (endings.Trap kind line) = Some (ends.Trap kind line (path_by notes) out)
end_by notes out (endings.Waits line) = Some (ends.Waits line (path_by notes) out)
end_by notes out endings.OutLimit = Some (ends.OutLimit out)
end_by notes out (endings.Limit kind) = None
