-- A bounded run beside the ordinary run.
use Rattle.std.proofs.Common.{◌≢◌, ℕ, zero, suc, ◌-◌, List, [], ◌∷◌, Bool, true, false, Option, Some, None, refl}
use Rattle.st_base.specs.declared.line.Line.{Line}
use Rattle.st_base.specs.declared.thread.Activation.{Activation}
use Rattle.st_base.specs.declared.thread.Held.TheVariants.{Number, Future, Counter}
use Rattle.st_model.specs.declared.program.Program.{Program}
use Rattle.st_model.specs.declared.program.Item.{Item}
use Rattle.st_model.specs.declared.ordinary.OrdEnd.{OrdEnd}
use Rattle.st_model.specs.declared.ordinary.OrdEnd.TheVariants.{Going}
use Rattle.st_model.specs.declared.ordinary.Tally.{Tally}
use Rattle.st_model.specs.declared.ordinary.Rest.{Rest}
use Rattle.st_model.specs.declared.ordinary.State.{State}
use Rattle.st_model.specs.declared.ordinary.Turn.{Turn}
use Rattle.st_model.specs.declared.ordinary.Turn.TheVariants.{Undefined, Goes, Over}
use Rattle.st_model.specs.declared.effect.Effect.{Effect}
use Rattle.st_model.specs.declared.effect.Effect.TheVariants.{Undefined as EUndefined, Goes as EGoes, Calls, Returns, Ends, Traps, Prints, Forks, Touches, Counts, Adds, Joins}
use Rattle.st_model.specs.Memory.{Data}
use Rattle.st_model.specs.Effect.{File, item_effect}
use Rattle.st_model.specs.Ordinary.{step, step_at, run, run_from, ordinary_run, after_turn, apply, item_at, start, returned_to, ended_in, got, printed_when, joined_when}
use Rattle.st_model.specs.Draws.{drawn_by}
use Rattle.st_model.specs.Bounded.{Bounds, BoundedEnd, limit_when, limit_at, bounded_after, bounded_turn, bounded, bounded_root, bounded_from, bounded_run, AgreesWith}
use Rattle.st_model.specs.Laws.{BoundedAgrees}

-- a turn that is over does not go on
abbrev EndsWell : Turn → Type 0
EndsWell Undefined = Unit {0}
EndsWell (Goes s) = Unit {0}
EndsWell (Over e) = e ≢ Going

returned_well : (older : List Activation) (rest : Rest) (file : File) → EndsWell (returned_to older rest file)
returned_well [] rest file = tt
returned_well (a ∷ older) rest file = tt

ended_well : (parents : List Tally) (older : List Activation) (rest : Rest) (v : ℕ) (kept : File) → EndsWell (ended_in parents older rest v kept)
ended_well [] older rest v kept = λ e. cc
ended_well (p ∷ parents) [] rest v kept = tt
ended_well (p ∷ parents) (a ∷ older) rest v kept = tt

got_well : (v : Option ℕ) (rest : Rest) (top : Activation) (file : File) → EndsWell (got v rest top file)
got_well None rest top file = tt
got_well (Some v) rest top file = tt

printed_well : (root room : Bool) (rest : Rest) (line : Line) (byte : ℕ) (top : Activation) (file : File) → EndsWell (printed_when root room rest line byte top file)
printed_well true true rest line byte top file = tt
printed_well true false rest line byte top file = λ e. cc
printed_well false room rest line byte top file = λ e. cc

joined_well : (short : Bool) (rest : Rest) (line : Line) (top : Activation) (file : File) → EndsWell (joined_when short rest line top file)
joined_well true rest line top file = λ e. cc
joined_well false rest line top file = tt

apply_well : (rest : Rest) (line : Line) (effect : Effect) → EndsWell (apply rest line effect)
apply_well rest line EUndefined = tt
apply_well rest line (EGoes top file) = tt
apply_well rest line (Calls top callee file) = tt
apply_well rest line (Returns file) = returned_well rest.older rest file
apply_well rest line (Ends v kept) = ended_well rest.parents rest.older rest v kept
apply_well rest line (Traps kind) = λ e. cc
apply_well rest line (Prints byte top file) = printed_well _ _ rest line byte top file
apply_well rest line (Forks top child handle passed file) = tt
apply_well rest line (Touches (Number m) top file) = λ e. cc
apply_well rest line (Touches (Future path) top file) = got_well _ rest top _
apply_well rest line (Touches (Counter path m) top file) = λ e. cc
apply_well rest line (Counts top file) = tt
apply_well rest line (Adds (Number m) top file) = λ e. cc
apply_well rest line (Adds (Future path) top file) = λ e. cc
apply_well rest line (Adds (Counter path m) top file) = tt
apply_well rest line (Joins (Number m) least top file) = λ e. cc
apply_well rest line (Joins (Future path) least top file) = λ e. cc
apply_well rest line (Joins (Counter path m) least top file) = joined_well _ rest line top file

step_at_well : (p : Program) (d : Data) (s : State) (o : Option Item) → EndsWell (step_at p d s o)
step_at_well p d s None = tt
step_at_well p d s (Some item) = apply_well s.rest item.line (item_effect p d item.kind s.top s.registers)

pub step_well : (p : Program) (d : Data) (s : State) → EndsWell (step p d s)
unfolding step
step_well p d s = step_at_well p d s (item_at p s.top)

after_agrees : (on : State → Option OrdEnd) (go : State → Option BoundedEnd) (turn : Turn) → EndsWell turn → ((s : State) → AgreesWith (on s) (go s)) → AgreesWith (after_turn on turn) (bounded_after go turn)
after_agrees on go Undefined well h = refl
after_agrees on go (Goes s) well h = h s
after_agrees on go (Over e) well h = (well, refl)

when_agrees : (o : Option OrdEnd) (go : State → Option BoundedEnd) (short overflow : Bool) (frame : ℕ) (turn : Turn) → AgreesWith o (bounded_after go turn) → AgreesWith o (bounded_turn go (limit_when short overflow frame) turn)
when_agrees o go true overflow frame turn h = tt
when_agrees o go false true frame turn h = tt
when_agrees o go false false frame turn h = h

limit_agrees : (o : Option OrdEnd) (go : State → Option BoundedEnd) (stack cells : ℕ) (s : State) (item : Option Item) (turn : Turn) → AgreesWith o (bounded_after go turn) → AgreesWith o (bounded_turn go (limit_at stack cells s item) turn)
limit_agrees o go stack cells s None turn h = h
limit_agrees o go stack cells s (Some item) turn h = when_agrees o go _ _ _ turn h

bounded_agrees : (p : Program) (d : Data) (stack n cells : ℕ) (s : State) → AgreesWith (run p d n s) (bounded p d stack n cells s)
unfolding run bounded
bounded_agrees p d stack zero cells s = refl
bounded_agrees p d stack (suc n) cells s =
    let left = cells - drawn_by (item_at p s.top) in
    limit_agrees _ (bounded p d stack n left) stack cells s (item_at p s.top) (step p d s)
    (after_agrees (run p d n) (bounded p d stack n left) (step p d s) (step_well p d s) (λ t. bounded_agrees p d stack n left t))

root_agrees : (none : Bool) (p : Program) (d : Data) (b : Bounds) (s : State) → AgreesWith (run p d b.steps s) (bounded_root none p d b s)
root_agrees true p d b s = tt
root_agrees false p d b s = bounded_agrees p d b.stack b.steps (b.cells - 1) s

from_agrees : (p : Program) (d : Data) (b : Bounds) (o : Option State) → AgreesWith (run_from p d b.steps o) (bounded_from p d b o)
from_agrees p d b None = refl
from_agrees p d b (Some s) = root_agrees _ p d b s

pub agrees : BoundedAgrees
unfolding ordinary_run bounded_run
agrees p d b = from_agrees p d b (start p d)
