-- An end of a run is told at a line of the program. bounded-told: what holds of the line of each item holds of the line of the end.
use Rattle.std.proofs.Common.{◌≡◌, ℕ, suc, zero, ◌-◌, Bool, true, false, List, [], ◌∷◌, length, Option, Some, None, slice_get, refl}
use Rattle.std.specs.Prelude.{nat_lt}
use Rattle.st_base.specs.declared.line.Line.{Line}
use Rattle.st_base.specs.declared.thread.Activation.{Activation}
use Rattle.st_base.specs.declared.thread.Held.{Held}
use Rattle.st_base.specs.declared.thread.Held.TheVariants.{Number, Future, Counter}
use Rattle.st_model.specs.declared.effect.Effect.{Effect}
use Rattle.st_model.specs.declared.effect.Effect.TheVariants as effects
use Rattle.st_model.specs.declared.ordinary.OrdEnd.{OrdEnd}
use Rattle.st_model.specs.declared.ordinary.OrdEnd.TheVariants as ends
use Rattle.st_model.specs.declared.ordinary.Rest.{Rest}
use Rattle.st_model.specs.declared.ordinary.State.{State}
use Rattle.st_model.specs.declared.ordinary.Tally.{Tally}
use Rattle.st_model.specs.declared.ordinary.Turn.{Turn}
use Rattle.st_model.specs.declared.ordinary.Turn.TheVariants as turns
use Rattle.st_model.specs.declared.program.Item.{Item}
use Rattle.st_model.specs.declared.program.Program.{Program}
use Rattle.st_model.specs.declared.program.ProgramFunction.{ProgramFunction}
use Rattle.st_model.specs.Bounded.{Bounds, BoundedEnd, ended, overflows, limit_when, limit_at, bounded_turn, bounded, bounded_root, bounded_from, bounded_run}
use Rattle.st_model.specs.Draws.{draws, drawn_by}
use Rattle.st_model.specs.Effect.{File, item_effect}
use Rattle.st_model.specs.Memory.{Data}
use Rattle.st_model.specs.Ordinary.{returned_to, is_root, printed_when, ended_in, value_of, got, count_of, joined_when, touched, added, joined, item_at, apply, step_at, step, start}

module _ (P : Line → Type 0) where
  -- the line of an end, where it has one
  abbrev pub EndTold : OrdEnd → Type 0
  EndTold (ends.Trap kind line path out) = P line
  EndTold (ends.Waits line path out) = P line
  EndTold _ = Prim.Unit

  abbrev TurnTold : Turn → Type 0
  TurnTold (turns.Over end) = EndTold end
  TurnTold _ = Prim.Unit

  abbrev pub BoundedTold : Option BoundedEnd → Type 0
  BoundedTold (Some (ended end)) = EndTold end
  BoundedTold _ = Prim.Unit

  -- ---- one step

  returned-told : (older : List Activation) (rest : Rest) (file : File) → TurnTold (returned_to older rest file)
  returned-told [] rest file = tt
  returned-told (top ∷ older) rest file = tt

  printed-told : (root room : Bool) (rest : Rest) (line : Line) (byte : ℕ) (top : Activation) (file : File) → P line → TurnTold (printed_when root room rest line byte top file)
  printed-told true true rest line byte top file p = tt
  printed-told true false rest line byte top file p = tt
  printed-told false room rest line byte top file p = p

  ended-told : (parents : List Tally) (older : List Activation) (rest : Rest) (v : ℕ) (kept : File) → TurnTold (ended_in parents older rest v kept)
  ended-told [] older rest v kept = tt
  ended-told (parent ∷ parents) [] rest v kept = tt
  ended-told (parent ∷ parents) (top ∷ older) rest v kept = tt

  got-told : (o : Option ℕ) (rest : Rest) (top : Activation) (file : File) → TurnTold (got o rest top file)
  got-told None rest top file = tt
  got-told (Some v) rest top file = tt

  touched-told : (rest : Rest) (line : Line) (name : Held) (top : Activation) (file : File) → P line → TurnTold (touched rest line name top file)
  touched-told rest line (Number n) top file p = p
  touched-told rest line (Future path) top file p = got-told (value_of rest.ended path) rest top file
  touched-told rest line (Counter path n) top file p = p

  added-told : (rest : Rest) (line : Line) (name : Held) (top : Activation) (file : File) → P line → TurnTold (added rest line name top file)
  added-told rest line (Number n) top file p = p
  added-told rest line (Future path) top file p = p
  added-told rest line (Counter maker n) top file p = tt

  joined_when-told : (short : Bool) (rest : Rest) (line : Line) (top : Activation) (file : File) → P line → TurnTold (joined_when short rest line top file)
  joined_when-told true rest line top file p = p
  joined_when-told false rest line top file p = tt

  joined-told : (rest : Rest) (line : Line) (name : Held) (least : ℕ) (top : Activation) (file : File) → P line → TurnTold (joined rest line name least top file)
  joined-told rest line (Number n) least top file p = p
  joined-told rest line (Future path) least top file p = p
  joined-told rest line (Counter maker n) least top file p = joined_when-told (nat_lt (count_of rest.counts maker n) least) rest line top file p

  apply-told : (rest : Rest) (line : Line) (effect : Effect) → P line → TurnTold (apply rest line effect)
  apply-told rest line effects.Undefined p = tt
  apply-told rest line (effects.Goes top file) p = tt
  apply-told rest line (effects.Calls top callee file) p = tt
  apply-told rest line (effects.Returns file) p = returned-told rest.older rest file
  apply-told rest line (effects.Ends v kept) p = ended-told rest.parents rest.older rest v kept
  apply-told rest line (effects.Traps kind) p = p
  apply-told rest line (effects.Prints byte top file) p = printed-told (is_root rest.thread.path) (nat_lt (length rest.out) 1048576) rest line byte top file p
  apply-told rest line (effects.Forks top child handle passed file) p = tt
  apply-told rest line (effects.Touches name top file) p = touched-told rest line name top file p
  apply-told rest line (effects.Counts top file) p = tt
  apply-told rest line (effects.Adds name top file) p = added-told rest line name top file p
  apply-told rest line (effects.Joins name least top file) p = joined-told rest line name least top file p

  -- ---- the run

  -- each item's line is so
  abbrev pub ItemLines : Program → Type 0
  ItemLines p = (f i : ℕ) (function : ProgramFunction) (item : Item) → slice_get p.functions f ≡ Some function → slice_get function.items i ≡ Some item → P item.line

  -- the item of this place, as `item_at` has it
  abbrev item_of : Option ProgramFunction → ℕ → Option Item
  item_of None next = None
  item_of (Some function) next = slice_get function.items next

  item_of-line : (p : Program) (f next : ℕ) (o : Option ProgramFunction) (item : Item) → ItemLines p → slice_get p.functions f ≡ o → item_of o next ≡ Some item → P item.line
  item_of-line p f next None item lines at is = let no : ⊥ = cc in absurd no
  item_of-line p f next (Some function) item lines at is = lines f next function item at is

  step_at-told : (p : Program) (d : Data) (s : State) (o : Option Item) → ItemLines p → item_at p s.top ≡ o → TurnTold (step_at p d s o)
  step_at-told p d s None lines at = tt
  step_at-told p d s (Some item) lines at =
      apply-told s.rest item.line (item_effect p d item.kind s.top s.registers) (item_of-line p s.top.function s.top.next (slice_get p.functions s.top.function) item lines refl at)

  step-told : (p : Program) (d : Data) (s : State) → ItemLines p → TurnTold (step p d s)
  unfolding step
  step-told p d s lines = step_at-told p d s (item_at p s.top) lines refl

  turn-told : (go : State → Option BoundedEnd) (limit : Option BoundedEnd) (turn : Turn) → BoundedTold limit → ((s : State) → BoundedTold (go s)) → TurnTold turn → BoundedTold (bounded_turn go limit turn)
  turn-told go (Some limit) turn l g t = l
  turn-told go None turns.Undefined l g t = tt
  turn-told go None (turns.Goes s) l g t = g s
  turn-told go None (turns.Over end) l g t = t

  limit_when-told : (cells stack : Bool) (frame : ℕ) → BoundedTold (limit_when cells stack frame)
  limit_when-told true stack frame = tt
  limit_when-told false true frame = tt
  limit_when-told false false frame = tt

  limit-told : (stack cells : ℕ) (s : State) (o : Option Item) → BoundedTold (limit_at stack cells s o)
  limit-told stack cells s None = tt
  limit-told stack cells s (Some item) = limit_when-told (nat_lt cells (draws item.kind)) (overflows stack item.kind s) (length s.top.bytes)

  bounded-from : (p : Program) (d : Data) (stack n cells : ℕ) (s : State) → ItemLines p → BoundedTold (bounded p d stack n cells s)
  unfolding bounded
  bounded-from p d stack zero cells s lines = tt
  bounded-from p d stack (suc n) cells s lines =
      turn-told (bounded p d stack n (cells - drawn_by (item_at p s.top))) (limit_at stack cells s (item_at p s.top)) (step p d s) (limit-told stack cells s (item_at p s.top)) (λ t. bounded-from p d stack n (cells - drawn_by (item_at p s.top)) t lines) (step-told p d s lines)

  root-told : (none : Bool) (p : Program) (d : Data) (b : Bounds) (s : State) → ItemLines p → BoundedTold (bounded_root none p d b s)
  root-told true p d b s lines = tt
  root-told false p d b s lines = bounded-from p d b.stack b.steps (b.cells - 1) s lines

  start-told : (p : Program) (d : Data) (b : Bounds) (o : Option State) → ItemLines p → BoundedTold (bounded_from p d b o)
  start-told p d b None lines = tt
  start-told p d b (Some s) lines = root-told (nat_lt b.cells 1) p d b s lines

  pub bounded-told : (p : Program) (d : Data) (b : Bounds) → ItemLines p → BoundedTold (bounded_run p d b)
  unfolding bounded_run
  bounded-told p d b lines = start-told p d b (start p d) lines
