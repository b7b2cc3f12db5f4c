-- The laws of the chains in slots, over worlds. Read Kept (each careful step keeps that they walk, whatever is answered) and First. What a worker does between steps changes
-- no slot.
use Rattle.std.specs.Prelude.{ℕ, ◌/◌}
use Rattle.st_base.specs.declared.chain.Chain.{Chain}
use Rattle.st_base.specs.declared.limits.Limits.{Limits}
use Rattle.st_base.specs.declared.thread.Thread.{Thread}
use Rattle.st_words.specs.declared.view.Cargo.{Cargo}
use Rattle.st_words.specs.declared.view.View.{View}
use Rattle.st_words.specs.Steps.{Step, Answer}
use Rattle.st_words.specs.Plain.{readied, first_words, first_cargoes, first_views, root_cargo, root_chain}
use Rattle.st_words.specs.Careful.{Meaning, Careful}
use Rattle.st_world.specs.World.{World, slot_of, cargo_of, world_after}
use Rattle.st_world.specs.OfPlain.{world_of}
use Rattle.st_walks.specs.Walking.{Walking}

-- a waiter that becomes ready walks as before
abbrev pub MadeReady : Meaning → Type 0
MadeReady m = (cargo : Cargo) (chain : Chain) → m.walks cargo chain → m.walks (readied cargo) chain

abbrev pub Kept : Meaning → Type 0
Kept m = (x : World) (w : ℕ) (s : Step) (a : Answer) (v : View) → MadeReady m → Walking m (slot_of x) (cargo_of x) → Careful m (x.view w) s → Walking m (slot_of (world_after x w s a v)) (cargo_of (world_after x w s a v))

-- a board that is opened for a thread whose first chain walks
abbrev pub First : Meaning → Type 0
First m = (limits : Limits) (workers : ℕ) (thread : Thread) → m.walks (root_cargo thread) root_chain → Walking m (slot_of (world_of (limits.stack / 8) (first_words limits workers) (first_cargoes limits workers thread) (first_views limits workers))) (cargo_of (world_of (limits.stack / 8) (first_words limits workers) (first_cargoes limits workers thread) (first_views limits workers)))
