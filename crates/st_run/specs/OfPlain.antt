-- When a board over vectors is for a program: PlainIsFor, the rule over the world that its vectors show, with a heap that the heap-frame machine reaches behind it, and cell 0 the root's;
-- and StaysSized.
use Rattle.std.specs.Prelude.{◌≡◌, ◌/◌, List, length, Some}
use Rattle.st_base.specs.declared.limits.Limits.{Limits}
use Rattle.st_words.specs.declared.view.View.{View}
use Rattle.st_words.specs.declared.words.Words.{Words}
use Rattle.st_words.specs.Encodings.{thread_owner}
use Rattle.st_words.specs.Plain.{Cargoes}
use Rattle.st_model.specs.declared.program.Program.{Program}
use Rattle.st_model.specs.declared.ordinary.State.{State}
use Rattle.st_model.specs.Memory.{Data}
use Rattle.st_model.specs.Ordinary.{start}
use Rattle.st_model.specs.Heap.{Heap, first_heap}
use Rattle.st_world.specs.Laws.{IsWhole}
use Rattle.st_world.specs.OfPlain.{world_of, reading}
use Rattle.st_rule.specs.Rule.{Rule}
use Rattle.st_run.specs.Meanings.{meaning}

pub record PlainIsFor (p : Program) (d : Data) (limits : Limits) (x : Words) (ls : Cargoes) (vs : List View) : Type 0 where
  pub whole : IsWhole (limits.stack / 8) x ls vs
  pub first : State
  pub is_first : start p d ≡ Some first
  pub heap : Heap
  pub rule : Rule (meaning p d limits) p d limits (first_heap first) heap (world_of (limits.stack / 8) x ls vs)
  -- cell 0 is named for the root
  pub root : reading x.owners 0 ≡ thread_owner 0 0

-- what keeps it the one that it was: as many workers, cells and words of the stacks, and so, by its sizes, as many words of each kind
pub record StaysSized (x : Words) (vs : List View) (x' : Words) (vs' : List View) : Type 0 where
  pub workers : length vs' ≡ length vs
  pub cells : length x'.owners ≡ length x.owners
  pub stack : length x'.stack ≡ length x.stack
