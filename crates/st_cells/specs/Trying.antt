-- What tests name: the view of a worker that has come to hold the thread of cell 1, and the chains of cells 2 and 3 in its turn.
use Rattle.std.specs.Prelude.{ℕ, [], ◌∷◌}
use Rattle.st_words.specs.declared.view.Known.{Known}
use Rattle.st_words.specs.declared.view.Carried.{Carried}
use Rattle.st_words.specs.declared.view.View.{View}
use Rattle.st_words.specs.Views.{no_known, no_cargo}

abbrev pub thread_of : ℕ → Known
thread_of c = record no_known { note = record { cell = c; forks = 0; counters = 0; bytes = 0 } }

abbrev pub carried_of : ℕ → Carried
carried_of c = record no_cargo.carried { known = thread_of c }

abbrev pub holding : View → View
holding v = record v { threads = thread_of 1 ∷ []; chains = carried_of 2 ∷ carried_of 3 ∷ [] }
