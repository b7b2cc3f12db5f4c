-- The next item of a thread that hasn't stopped reads nothing undefined: next_defined, by the law of reached heaps (heap_defined). An effect that is defined makes a move: effect_moves.
use Rattle.std.proofs.Common.{◌≡◌, ◌≢◌, ℕ, Bool, true, false, List, ◌∷◌, Option, refl, subst}
use Rattle.st_base.specs.declared.line.Line.{Line}
use Rattle.st_base.specs.declared.thread.Activation.{Activation}
use Rattle.st_base.specs.declared.thread.Held.{Held}
use Rattle.st_base.specs.declared.thread.Held.TheVariants.{Number, Future, Counter}
use Rattle.st_base.specs.declared.thread.Standing.{Standing}
use Rattle.st_base.specs.declared.thread.Standing.TheVariants.{Going, Ended, Trapped, Full}
use Rattle.st_base.specs.declared.thread.Thread.{Thread}
use Rattle.st_model.specs.declared.program.Item.{Item}
use Rattle.st_model.specs.declared.effect.Effect.{Effect}
use Rattle.st_model.specs.declared.effect.Effect.TheVariants.{Undefined, Goes, Calls, Returns, Ends, Traps, Prints, Forks, Touches, Counts, Adds, Joins}
use Rattle.st_model.specs.Heap.{Path, Stays, move, move_standing, move_of, move_at, effect_move, printed_move, touch_move, add_move, join_move}
use Rattle.st_model.specs.Quiet.{IsGoing}
use Rattle.st_laws.proofs.HeapFlow.{heap_defined}
use Rattle.st_run.specs.Behind.{NextDefined}

going_is : (s : Standing) → IsGoing s → s ≡ Going
going_is Going going = refl
going_is (Ended v) going = absurd going
going_is (Trapped kind line) going = absurd going
going_is Full going = absurd going

-- ---- moves

printed_moves : (root room : Bool) (byte : ℕ) (t next : Thread) (line : Line) → printed_move root room byte t next line ≢ Stays
printed_moves true true byte t next line e = cc
printed_moves true false byte t next line e = cc
printed_moves false room byte t next line e = cc

touch_moves : (name : Held) (t next : Thread) (line : Line) → touch_move name t next line ≢ Stays
touch_moves (Number n) t next line e = cc
touch_moves (Future q) t next line e = cc
touch_moves (Counter q n) t next line e = cc

add_moves : (name : Held) (t next : Thread) (line : Line) → add_move name t next line ≢ Stays
add_moves (Number n) t next line e = cc
add_moves (Future q) t next line e = cc
add_moves (Counter q n) t next line e = cc

join_moves : (name : Held) (least : ℕ) (t next : Thread) (line : Line) → join_move name least t next line ≢ Stays
join_moves (Number n) least t next line e = cc
join_moves (Future q) least t next line e = cc
join_moves (Counter q n) least t next line e = cc

effect_moves : (p : Path) (t : Thread) (older : List Activation) (line : Line) (effect : Effect) → effect ≢ Undefined → effect_move p t older line effect ≢ Stays
effect_moves p t older line Undefined defined e = defined refl
effect_moves p t older line (Goes top file) defined e = cc
effect_moves p t older line (Calls top callee file) defined e = cc
effect_moves p t older line (Returns file) defined e = cc
effect_moves p t older line (Ends v kept) defined e = cc
effect_moves p t older line (Traps kind) defined e = cc
effect_moves p t older line (Prints byte top file) defined e = printed_moves _ _ byte t _ line e
effect_moves p t older line (Forks top child handle passed file) defined e = cc
effect_moves p t older line (Touches name top file) defined e = touch_moves name t _ line e
effect_moves p t older line (Counts top file) defined e = cc
effect_moves p t older line (Adds name top file) defined e = add_moves name t _ line e
effect_moves p t older line (Joins name least top file) defined e = join_moves name least t _ line e

-- ---- the next item

pub next_defined : NextDefined
unfolding move
next_defined p d u t accepted behind at going stays =
    let k = t.thread in
    let standing : k.standing ≡ Going = going_is k.standing going in
    let next = heap_defined p d behind.heap t.path k accepted behind.reached (behind.are_in.each t at) standing in
    let top = next.0 in
    let older = next.1.0 in
    let item = next.1.1.1.0 in
    let by_standing : move_of p d t.path k k.activations ≡ Stays = subst (λ (s : Standing). move_standing p d t.path k s ≡ Stays) standing stays in
    let by_top : move_of p d t.path k (top ∷ older) ≡ Stays = subst (λ (xs : List Activation). move_of p d t.path k xs ≡ Stays) next.1.1.0 by_standing in
    let by_item = subst (λ (o : Option Item). move_at p d t.path k top older o ≡ Stays) next.1.1.1.1.0 by_top in
    effect_moves t.path k older item.line _ next.1.1.1.1.1 by_item
