use Rattle.st_words.specs.Views.{view_after, no_cargo}
use Rattle.st_run.proofs.run.take_ready.Given as goal

-- the step and nothing else
abbrev pub ghosts-slot_take_by : goal.ghosts-slot_take_by
ghosts-slot_take_by g a = record { after = view_after; cargo = λ _ _ _. no_cargo }
