-- The lease rule. Read Rule, which is of a world and a heap of the heap-frame machine behind it: all groups hold of the words, the slots and the views of all workers. Nothing in it
-- speaks of what keeps the words, so a board over vectors and one over a table have the same rule. IsMeant says what a Meaning has to be for it.
use Rattle.std.specs.Prelude.{◌≡◌, Some}
use Rattle.st_base.specs.declared.limits.Limits.{Limits}
use Rattle.st_words.specs.Careful.{Meaning}
use Rattle.st_words.specs.Plain.{root_cargo, root_chain}
use Rattle.st_model.specs.declared.program.Program.{Program}
use Rattle.st_model.specs.declared.ordinary.State.{State}
use Rattle.st_model.specs.Memory.{Data}
use Rattle.st_model.specs.Ordinary.{start}
use Rattle.st_model.specs.Heap.{Heap, new_thread}
use Rattle.st_made.specs.Items.{MeansItems}
use Rattle.st_world.specs.World.{World, slot_of, cargo_of}
use Rattle.st_spots.specs.Listing.{Lists}
use Rattle.st_seats.specs.Placing.{Places}
use Rattle.st_holders.specs.Leasing.{Leasing}
use Rattle.st_requests.specs.Mailing.{Requests}
use Rattle.st_counts.specs.Counting.{Counts}
use Rattle.st_draws.specs.Drawing.{Draws}
use Rattle.st_knows.specs.Knowing.{Knows}
use Rattle.st_threads.specs.Holding.{Threads}
use Rattle.st_names.specs.Naming.{Named}
use Rattle.st_output.specs.Showing.{Output}
use Rattle.st_limits.specs.Stopping.{MeansLimits, Within}
use Rattle.st_walks.specs.Walking.{Walking}
use Rattle.st_walks.specs.Laws.{MadeReady}

-- what the program means to a board is what the machine does; that a chain walks doesn't hang on whether it counts as active, and the root's first chain does
pub record IsMeant (m : Meaning) (program : Program) (source : Data) (limits : Limits) : Type 0 where
  pub items : MeansItems program source m
  pub met : MeansLimits program source limits m
  pub made_ready : MadeReady m
  pub root : (s : State) → start program source ≡ Some s → m.walks (root_cargo (new_thread s.top s.registers)) root_chain

pub record Rule (m : Meaning) (program : Program) (source : Data) (limits : Limits) (h0 h : Heap) (x : World) : Type 0 where
  -- where the number of each thread that doesn't run is
  pub lists : Lists x
  -- where each thread is
  pub places : Places x lists
  -- who holds each stack word
  pub leases : Leasing x
  -- how far each worker's request is
  pub requests : Requests x
  -- what the active count is the sum of
  pub counts : Counts x
  -- numbers that were drawn, each once
  pub draws : Draws x
  -- what views have seen of cells
  pub knows : Knows x
  -- who holds each thread of the heap
  pub threads : Threads h x
  -- which cell is whose, and what it shows of the heap
  pub names : Named program source h x
  -- what was printed
  pub output : Output h x
  -- the run that leads to the heap, and its limits
  pub within : Within program source limits h0 h x
  -- chains in slots walk
  pub walks : Walking m (slot_of x) (cargo_of x)
