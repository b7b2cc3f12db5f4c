-- The law of steps for where threads are, over worlds with their lists. Read Kept: each careful step keeps it, whatever is answered, where the numbers go as they do.
use Rattle.std.specs.Prelude.{ℕ, ◌<◌}
use Rattle.st_words.specs.declared.view.View.{View}
use Rattle.st_words.specs.Steps.{Step, Answer, Can}
use Rattle.st_words.specs.Views.{Does}
use Rattle.st_words.specs.Careful.{Meaning, Careful}
use Rattle.st_world.specs.World.{World, Finds, world_after}
use Rattle.st_spots.specs.Listing.{Lists}
use Rattle.st_lists.specs.Going.{Goes}
use Rattle.st_seats.specs.Placing.{Places}
use Rattle.st_places.specs.Steps.{IsKnown, ThreadsGo}

-- each kind of step keeps it, whatever is answered, over the lists after it
abbrev pub Kept : Meaning → Type 0
Kept m =
    (x : World) (l : Lists x) (w : ℕ) (s : Step) (a : Answer) (v : View) (l' : Lists (world_after x w s a v)) → Places x l → w < x.workers → Can (x.view w) s → Careful m (x.view w) s → IsKnown x (x.view w) s → Finds x w s a → Does (x.view w) s a v → ThreadsGo (x.view w) s a v → Goes l.spot l.wait l'.spot l'.wait w (x.view w) s a → Places (world_after x w s a v) l'
