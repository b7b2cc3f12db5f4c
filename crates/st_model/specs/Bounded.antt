-- The bounded ordinary run: the ordinary run, which ends sooner where it would pass a limit. Read bounded_run and Bounds.
use Rattle.std.specs.Prelude.{◌≡◌, ◌≢◌, ℕ, zero, suc, ◌+◌, ◌-◌, nat_lt, Bool, true, false, List, [], ◌∷◌, length, Option, Some, None}
use Rattle.st_base.specs.declared.thread.Activation.{Activation}
use Rattle.st_model.specs.declared.program.Item.{Item}
use Rattle.st_model.specs.declared.program.ItemKind.{ItemKind}
use Rattle.st_model.specs.declared.program.ItemKind.TheVariants.{Prologue}
use Rattle.st_model.specs.declared.program.Program.{Program}
use Rattle.st_model.specs.declared.ordinary.OrdEnd.{OrdEnd}
use Rattle.st_model.specs.declared.ordinary.OrdEnd.TheVariants.{Going}
use Rattle.st_model.specs.declared.ordinary.State.{State}
use Rattle.st_model.specs.declared.ordinary.Turn.{Turn}
use Rattle.st_model.specs.declared.ordinary.Turn.TheVariants.{Undefined, Goes, Over}
use Rattle.st_model.specs.Memory.{Data}
use Rattle.st_model.specs.Draws.{draws, drawn_by}
use Rattle.st_model.specs.Ordinary.{item_at, step, start}

-- the most items, cells and frame bytes
pub record Bounds : Type 0 where
  pub steps : ℕ
  pub cells : ℕ
  pub stack : ℕ

-- how a bounded run ends: as the ordinary run, at an item past the steps, at a draw past the cells, or at a prologue whose frame, of so
-- many bytes, passes the stack
pub data BoundedEnd : Type 0 where
  ended : OrdEnd → BoundedEnd
  past_steps : BoundedEnd
  past_cells : BoundedEnd
  past_stack : ℕ → BoundedEnd

-- the frame bytes of an activation that has done its prologue, which is its first item
abbrev pub frame_held : ℕ → ℕ → ℕ
frame_held bytes zero = 0
frame_held bytes (suc next) = bytes

abbrev pub frames_held : List Activation → ℕ
frames_held [] = 0
frames_held (a ∷ older) = frame_held (length a.bytes) a.next + frames_held older

-- this item is a prologue whose frame comes past the stack
abbrev pub overflows : ℕ → ItemKind → State → Bool
overflows stack Prologue s = nat_lt stack (length s.top.bytes + frames_held s.rest.older)
overflows stack _ s = false

abbrev pub limit_when : Bool → Bool → ℕ → Option BoundedEnd
limit_when true overflow frame = Some past_cells
limit_when false true frame = Some (past_stack frame)
limit_when false false frame = None

-- the limit of cells or stack that an item passes, with so many cells left
abbrev pub limit_at : ℕ → ℕ → State → Option Item → Option BoundedEnd
limit_at stack cells s None = None
limit_at stack cells s (Some item) = limit_when (nat_lt cells (draws item.kind)) (overflows stack item.kind s) (length s.top.bytes)

abbrev pub bounded_after : (State → Option BoundedEnd) → Turn → Option BoundedEnd
bounded_after go Undefined = None
bounded_after go (Goes s) = go s
bounded_after go (Over e) = Some (ended e)

abbrev pub bounded_turn : (State → Option BoundedEnd) → Option BoundedEnd → Turn → Option BoundedEnd
bounded_turn go (Some limit) turn = Some limit
bounded_turn go None turn = bounded_after go turn

-- with so many items and cells left; the items are tried first
unfoldable pub bounded : Program → Data → ℕ → ℕ → ℕ → State → Option BoundedEnd
bounded p d stack zero cells s = Some past_steps
bounded p d stack (suc n) cells s =
    bounded_turn (bounded p d stack n (cells - drawn_by (item_at p s.top))) (limit_at stack cells s (item_at p s.top)) (step p d s)

-- the root draws a cell before its first item
abbrev pub bounded_root : Bool → Program → Data → Bounds → State → Option BoundedEnd
bounded_root true p d b s = Some past_cells
bounded_root false p d b s = bounded p d b.stack b.steps (b.cells - 1) s

abbrev pub bounded_from : Program → Data → Bounds → Option State → Option BoundedEnd
bounded_from p d b None = None
bounded_from p d b (Some s) = bounded_root (nat_lt b.cells 1) p d b s

-- the bounded run from `main`, or none where something undefined was read
unfoldable pub bounded_run : Program → Data → Bounds → Option BoundedEnd
bounded_run p d b = bounded_from p d b (start p d)

-- a bounded run answers as the ordinary run of as many steps, where it passes no limit of cells or stack
abbrev pub AgreesWith : Option OrdEnd → Option BoundedEnd → Type 0
AgreesWith o None = o ≡ None
AgreesWith o (Some (ended end)) = (end ≢ Going) × (o ≡ Some end)
AgreesWith o (Some past_steps) = o ≡ Some Going
AgreesWith o (Some past_cells) = Unit {0}
AgreesWith o (Some (past_stack frame)) = Unit {0}
