-- What an item changes: item_changes, by one walk over the effects (effect_changes), in which each has one clause; step_change is the same of a
-- step, and step_counters that a thread's counters don't fall. A new fact of all effects is a field of ItemChange, and what kept, goes and traps say of most of them.
use Rattle.std.proofs.Common.{◌≡◌, ◌≢◌, ℕ, ◌+◌, ◌≤◌, Bool, true, false, List, [], ◌∷◌, Option, Some, None, refl, sym, ap, ◌∙◌, subst, arith, inl, inr, ◌⊎◌}
use Rattle.st_base.specs.declared.thread.Held.{Held}
use Rattle.st_base.specs.declared.thread.Held.TheVariants.{Number, Future, Counter}
use Rattle.st_base.specs.declared.thread.Activation.{Activation}
use Rattle.st_base.specs.declared.line.Line.{Line}
use Rattle.st_base.specs.declared.thread.TrapKind.{TrapKind}
use Rattle.st_base.specs.declared.thread.Standing.{Standing}
use Rattle.st_base.specs.declared.thread.Standing.TheVariants.{Going, Ended, Trapped, Full}
use Rattle.st_base.specs.declared.thread.Thread.{Thread}
use Rattle.st_model.specs.declared.program.Program.{Program}
use Rattle.st_model.specs.declared.program.Item.{Item}
use Rattle.st_model.specs.declared.effect.Effect.{Effect}
use Rattle.st_model.specs.declared.effect.Effect.TheVariants.{Undefined, Goes, Calls, Returns, Ends, Traps, Prints, Forks, Touches, Counts, Adds, Joins}
use Rattle.st_model.specs.Memory.{Data}
use Rattle.st_model.specs.Effect.{item_effect}
use Rattle.st_model.specs.Draws.{draws, drawn_by}
use Rattle.st_model.specs.Ordinary.{item_at, is_root}
use Rattle.st_model.specs.Heap.{Path, Heap, Change, Move, Stays, Moves, Touch, Join, own, trapped_thread, move, move_standing, move_of, move_at, effect_move, printed_move, touch_move, add_move, join_move, Enabled, HStep}
use Rattle.st_model.specs.Limits.{drawn_at, cells_drawn}
use Rattle.st_laws.specs.Changes.{one_if, ItemChange, ItemChanges, TalliesStay, OneIsDrawn}
use Rattle.st_laws.proofs.Placing.{root_is}
use Rattle.st_laws.proofs.ItemDraws.{Draws, item_draws}

abbrev MoveChanges : Path → ℕ → Thread → Move → Type 0
MoveChanges p n t Stays = Unit {0}
MoveChanges p n t (Moves c) = ItemChange p n t c
MoveChanges p n t (Touch q f) = (v : ℕ) → ItemChange p n t (f v)
MoveChanges p n t (Join q k least c) = ItemChange p n t c

-- ---- changes without a child, a counter or a byte
abbrev Same : Thread → Thread → Type 0
Same t next = (next.forks ≡ t.forks) × (next.counters ≡ t.counters) × (next.bytes ≡ t.bytes) × (next.standing ≡ t.standing)

is_some : {A : Type 0} (a : A) → Some a ≢ None
is_some a e = cc

not_full : (p : Path) (s : Standing) → s ≡ Going → s ≡ Full → p ≡ []
not_full p s g f = let x : Going ≡ Full = sym g ∙ f in cc

kept : (p : Path) (n : ℕ) (t next : Thread) (added : Option (Path × ℕ)) → t.standing ≡ Going → n ≡ 0 → next.forks ≡ t.forks → next.counters ≡ t.counters → next.bytes ≡ t.bytes → (next.standing ≡ Full → p ≡ []) → ItemChange p n t record { own = next; child = None; added = added; printed = None }
kept p n t next added going none forks counters bytes full =
    record {
      going = going;
      forks = omega arith;
      counters = omega arith;
      bytes = omega arith;
      prints = λ some. absurd (some refl);
      full = full;
      child = tt;
      fork = λ some. absurd (some refl);
      draws = λ some. absurd (some none);
    }

goes : (p : Path) (n : ℕ) (t next : Thread) (added : Option (Path × ℕ)) → t.standing ≡ Going → n ≡ 0 → Same t next → ItemChange p n t record { own = next; child = None; added = added; printed = None }
goes p n t next added going none same = kept p n t next added going none same.0 same.1 same.2 (not_full p next.standing (same.3 ∙ going))

traps : (p : Path) (n : ℕ) (t : Thread) (kind : TrapKind) (line : Line) → t.standing ≡ Going → n ≡ 0 → ItemChange p n t (own (trapped_thread t kind line))
traps p n t kind line going none = kept p n t _ None going none refl refl refl (λ e. cc)

-- ---- one effect
print_changes : (p : Path) (n : ℕ) (root room : Bool) (byte : ℕ) (t next : Thread) (line : Line) → is_root p ≡ root → t.standing ≡ Going → n ≡ 0 → next.forks ≡ t.forks → next.counters ≡ t.counters → next.bytes ≡ t.bytes + 1 → next.standing ≡ t.standing → MoveChanges p n t (printed_move root room byte t next line)
print_changes p n true true byte t next line root going none forks counters bytes same =
    record {
      going = going;
      forks = omega arith;
      counters = omega arith;
      bytes = bytes;
      prints = λ some. root_is p root;
      full = λ e. root_is p root;
      child = tt;
      fork = λ some. absurd (some refl);
      draws = λ some. absurd (some none);
    }
print_changes p n true false byte t next line root going none forks counters bytes same =
    kept p n t _ None going none refl refl refl (λ e. root_is p root)
print_changes p n false room byte t next line root going none forks counters bytes same = traps p n t _ line going none

touch_changes : (p : Path) (n : ℕ) (name : Held) (t next : Thread) (line : Line) → t.standing ≡ Going → n ≡ 0 → Same t next → MoveChanges p n t (touch_move name t next line)
touch_changes p n (Number k) t next line going none same = traps p n t _ line going none
touch_changes p n (Future q) t next line going none same = λ v. goes p n t _ None going none same
touch_changes p n (Counter q k) t next line going none same = traps p n t _ line going none

add_changes : (p : Path) (n : ℕ) (name : Held) (t next : Thread) (line : Line) → t.standing ≡ Going → n ≡ 0 → Same t next → MoveChanges p n t (add_move name t next line)
add_changes p n (Number k) t next line going none same = traps p n t _ line going none
add_changes p n (Future q) t next line going none same = traps p n t _ line going none
add_changes p n (Counter q k) t next line going none same = goes p n t next _ going none same

join_changes : (p : Path) (n : ℕ) (name : Held) (least : ℕ) (t next : Thread) (line : Line) → t.standing ≡ Going → n ≡ 0 → Same t next → MoveChanges p n t (join_move name least t next line)
join_changes p n (Number k) least t next line going none same = traps p n t _ line going none
join_changes p n (Future q) least t next line going none same = traps p n t _ line going none
join_changes p n (Counter q k) least t next line going none same = goes p n t next None going none same

effect_changes : (p : Path) (n : ℕ) (t : Thread) (older : List Activation) (line : Line) (effect : Effect) → t.standing ≡ Going → Draws n effect → MoveChanges p n t (effect_move p t older line effect)
effect_changes p n t older line Undefined going d = tt
effect_changes p n t older line (Goes top file) going d = goes p n t _ None going d (refl, refl, refl, refl)
effect_changes p n t older line (Calls top callee file) going d = goes p n t _ None going d (refl, refl, refl, refl)
effect_changes p n t older line (Returns file) going d = goes p n t _ None going d (refl, refl, refl, refl)
effect_changes p n t older line (Ends v kept_file) going d = kept p n t _ None going d refl refl refl (λ e. cc)
effect_changes p n t older line (Traps kind) going d = traps p n t kind line going d
effect_changes p n t older line (Prints byte top file) going d = print_changes p n (is_root p) _ byte t _ line refl going d refl refl refl refl
effect_changes p n t older line (Forks top child handle passed file) going d =
    record {
      going = going;
      forks = refl;
      counters = omega arith;
      bytes = omega arith;
      prints = λ some. absurd (some refl);
      full = not_full p t.standing going;
      child = (refl, refl, refl, refl);
      fork = λ some. refl;
      draws = λ some. (d, going, refl, refl);
    }
effect_changes p n t older line (Touches name top file) going d = touch_changes p n name t _ line going d (refl, refl, refl, refl)
effect_changes p n t older line (Counts top file) going d =
    record {
      going = going;
      forks = omega arith;
      counters = omega arith;
      bytes = omega arith;
      prints = λ some. absurd (some refl);
      full = not_full p t.standing going;
      child = tt;
      fork = λ some. absurd (some refl);
      draws = λ some. (d, going, refl, refl);
    }
effect_changes p n t older line (Adds name top file) going d = add_changes p n name t _ line going d (refl, refl, refl, refl)
effect_changes p n t older line (Joins name least top file) going d = join_changes p n name least t _ line going d (refl, refl, refl, refl)

-- ---- the next item
at_changes : (program : Program) (source : Data) (p : Path) (t : Thread) (top : Activation) (older : List Activation) (o : Option Item) → t.standing ≡ Going → MoveChanges p (drawn_by o) t (move_at program source p t top older o)
at_changes program source p t top older None going = tt
at_changes program source p t top older (Some item) going =
    effect_changes p (draws item.kind) t older item.line (item_effect program source item.kind top t.registers) going
    (item_draws program source item.kind top t.registers)

of_changes : (program : Program) (source : Data) (p : Path) (t : Thread) (activations : List Activation) → t.standing ≡ Going → MoveChanges p (drawn_at program activations) t (move_of program source p t activations)
of_changes program source p t [] going = tt
of_changes program source p t (top ∷ older) going = at_changes program source p t top older (item_at program top) going

standing_changes : (program : Program) (source : Data) (p : Path) (t : Thread) (s : Standing) → t.standing ≡ s → MoveChanges p (cells_drawn program p t) t (move_standing program source p t s)
standing_changes program source p t Going is = of_changes program source p t t.activations is
standing_changes program source p t (Ended v) is = tt
standing_changes program source p t (Trapped kind line) is = tt
standing_changes program source p t Full is = tt

move_changes : (program : Program) (source : Data) (p : Path) (t : Thread) → MoveChanges p (cells_drawn program p t) t (move program source p t)
unfolding move
move_changes program source p t = standing_changes program source p t t.standing refl

enabled_changes : (h : Heap) (p : Path) (n : ℕ) (t : Thread) (m : Move) (c : Change) → MoveChanges p n t m → Enabled h m c → ItemChange p n t c
enabled_changes h p n t Stays c all e = absurd e
enabled_changes h p n t (Moves d) c all e = subst (ItemChange p n t) e all
enabled_changes h p n t (Touch q f) c all e = subst (ItemChange p n t) e.2 (all e.0)
enabled_changes h p n t (Join q k least d) c all e = subst (ItemChange p n t) e.1 all

pub item_changes : ItemChanges
item_changes program source h p t c enabled =
    enabled_changes h p (cells_drawn program p t) t (move program source p t) c (move_changes program source p t) enabled

pub step_change : (program : Program) (source : Data) (h : Heap) (p : Path) (h' : Heap) → (s : HStep program source h p h') → ItemChange p (cells_drawn program p s.thread) s.thread s.change
step_change program source h p h' s = item_changes program source h p s.thread s.change s.enabled

-- ---- what most items leave, and which draw
no_child_by : (n old new : ℕ) (o : Option Thread) → new + one_if o ≡ old + n → (o ≢ None → new ≡ old) → n ≡ 0 → o ≡ None
no_child_by n old new None sum fork none = refl
no_child_by n old new (Some child) sum fork none = let same = fork (is_some child) in absurd (omega arith)

pub tallies_stay : TalliesStay
tallies_stay program source h p t c enabled none silent =
    let x = item_changes program source h p t c enabled in
    let child = no_child_by (cells_drawn program p t) t.counters c.own.counters c.child x.counters x.fork none in
    let no_child : one_if c.child ≡ 0 = ap one_if child in
    let no_byte : one_if c.printed ≡ 0 = ap one_if silent in
    let forks = x.forks in
    let counters = x.counters in
    let bytes = x.bytes in
    (child, omega arith, omega arith, omega arith)

draws_by : (n old new : ℕ) (o : Option Thread) → new + one_if o ≡ old + n → (o ≢ None → new ≡ old) → (o ≢ None) ⊎ (new ≢ old) → n ≢ 0
draws_by n old new None sum fork (inl some) none = some refl
draws_by n old new None sum fork (inr other) none = let same : new ≡ old = omega arith in other same
draws_by n old new (Some child) sum fork makes none = let same = fork (is_some child) in omega arith

pub one_is_drawn : OneIsDrawn
one_is_drawn program source h p t c enabled =
    let x = item_changes program source h p t c enabled in (
      λ makes. (x.draws (draws_by (cells_drawn program p t) t.counters c.own.counters c.child x.counters x.fork makes)).0,
      λ none same. let no_child : one_if c.child ≡ 0 = ap one_if none in let sum = x.counters in omega arith,
    )

-- ---- counters don't fall
counters_by : (n old new : ℕ) (o : Option Thread) → new + one_if o ≡ old + n → (o ≢ None → new ≡ old) → old ≤ new
counters_by n old new None sum fork = omega arith
counters_by n old new (Some child) sum fork = let same = fork (is_some child) in omega arith

pub step_counters : (program : Program) (source : Data) (h : Heap) (p : Path) (h' : Heap) → (s : HStep program source h p h') → s.thread.counters ≤ s.change.own.counters
step_counters program source h p h' s =
    let x = step_change program source h p h' s in
    counters_by (cells_drawn program p s.thread) s.thread.counters s.change.own.counters s.change.child x.counters x.fork
