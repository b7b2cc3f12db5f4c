-- A run, a step at a time.
use Rattle.std.proofs.Common.{◌≡◌, ℕ, zero, suc, ◌+◌, ◌-◌, ◌<◌, ◌≤◌, List, [], ◌∷◌, Bool, true, false, ◌≢◌, Option, Some, None, refl, ap, ◌∙◌, subst, arith}
use Rattle.st_base.specs.declared.line.Line.{Line}
use Rattle.st_base.specs.declared.thread.Activation.{Activation}
use Rattle.st_base.specs.declared.thread.Held.TheVariants.{Number, Future, Counter}
use Rattle.st_model.specs.declared.program.Program.{Program}
use Rattle.st_model.specs.declared.program.Item.{Item}
use Rattle.st_model.specs.declared.ordinary.OrdEnd.{OrdEnd}
use Rattle.st_model.specs.declared.ordinary.OrdEnd.TheVariants.{Going}
use Rattle.st_model.specs.declared.ordinary.Tally.{Tally}
use Rattle.st_model.specs.declared.ordinary.Rest.{Rest}
use Rattle.st_model.specs.declared.ordinary.State.{State}
use Rattle.st_model.specs.declared.ordinary.Turn.{Turn}
use Rattle.st_model.specs.declared.ordinary.Turn.TheVariants.{Undefined, Goes, Over}
use Rattle.st_model.specs.Memory.{Data}
use Rattle.st_model.specs.declared.effect.Effect.{Effect}
use Rattle.st_model.specs.declared.effect.Effect.TheVariants.{Undefined as EUndefined, Goes as EGoes, Calls, Returns, Ends, Traps, Prints, Forks, Touches, Counts, Adds, Joins}
use Rattle.st_model.specs.Effect.{File, item_effect}
use Rattle.st_model.specs.Ordinary.{step, step_at, run, after_turn, apply, item_at, TalliesWithin, AllWithin, returned_to, ended_in, got, printed_when, joined_when, start, run_from, ordinary_run}

run_next : (p : Program) (d : Data) (n : ℕ) (s : State) → 0 < n → run p d n s ≡ after_turn (run p d (n - 1)) (step p d s)
unfolding run
run_next p d zero s h = absurd (omega arith)
run_next p d (suc n) s h = let e : n ≡ suc n - 1 = omega arith in ap (λ k. after_turn (run p d k) (step p d s)) e

pub run_goes : (p : Program) (d : Data) (n : ℕ) (s t : State) → 0 < n → step p d s ≡ Goes t → run p d n s ≡ run p d (n - 1) t
run_goes p d n s t h e = run_next p d n s h ∙ ap (after_turn (run p d (n - 1))) e

pub run_over : (p : Program) (d : Data) (n : ℕ) (s : State) (end : OrdEnd) → 0 < n → step p d s ≡ Over end → run p d n s ≡ Some end
run_over p d n s end h e = run_next p d n s h ∙ ap (after_turn (run p d (n - 1))) e

pub run_undefined : (p : Program) (d : Data) (n : ℕ) (s : State) → 0 < n → step p d s ≡ Undefined → run p d n s ≡ None
run_undefined p d n s h e = run_next p d n s h ∙ ap (after_turn (run p d (n - 1))) e

pub run_ended : (p : Program) (d : Data) (n : ℕ) (s : State) → n ≤ 0 → run p d n s ≡ Some Going
unfolding run
run_ended p d zero s h = refl
run_ended p d (suc n) s h = absurd (omega arith)

-- no thread of the state after the turn has made more than n forks
abbrev TurnWithin : ℕ → Turn → Type 0
TurnWithin n Undefined = Unit {0}
TurnWithin n (Goes s) = TalliesWithin n s.rest
TurnWithin n (Over e) = Unit {0}

all_within_more : (n : ℕ) (ts : List Tally) → AllWithin n ts → AllWithin (n + 1) ts
all_within_more n [] h = tt
all_within_more n (t ∷ ts) h = let a = h.0 in let b = h.1 in (omega arith, omega arith, all_within_more n ts h.2)

within_more : (n : ℕ) (rest : Rest) → TalliesWithin n rest → TalliesWithin (n + 1) rest
within_more n rest h = record { thread = let a = h.thread in omega arith; counters = let a = h.counters in omega arith; parents = all_within_more n rest.parents h.parents }

returned_within : (n : ℕ) (older : List Activation) (rest : Rest) (file : File) → TalliesWithin n rest → TurnWithin n (returned_to older rest file)
returned_within n [] rest file h = tt
returned_within n (a ∷ older) rest file h = record { thread = h.thread; counters = h.counters; parents = h.parents }

ended_within : (n : ℕ) (parents : List Tally) (older : List Activation) (rest : Rest) (v : ℕ) (kept : File) → AllWithin n parents → TurnWithin n (ended_in parents older rest v kept)
ended_within n [] older rest v kept h = tt
ended_within n (p ∷ parents) [] rest v kept h = tt
ended_within n (p ∷ parents) (a ∷ older) rest v kept h = record { thread = h.0; counters = h.1; parents = h.2 }

got_within : (n : ℕ) (v : Option ℕ) (rest : Rest) (top : Activation) (file : File) → TalliesWithin n rest → TurnWithin n (got v rest top file)
got_within n None rest top file h = tt
got_within n (Some v) rest top file h = h

printed_within : (n : ℕ) (root room : Bool) (rest : Rest) (line : Line) (byte : ℕ) (top : Activation) (file : File) → TalliesWithin n rest → TurnWithin n (printed_when root room rest line byte top file)
printed_within n true true rest line byte top file h = record { thread = h.thread; counters = h.counters; parents = h.parents }
printed_within n true false rest line byte top file h = tt
printed_within n false room rest line byte top file h = tt

joined_within : (n : ℕ) (short : Bool) (rest : Rest) (line : Line) (top : Activation) (file : File) → TalliesWithin n rest → TurnWithin n (joined_when short rest line top file)
joined_within n true rest line top file h = tt
joined_within n false rest line top file h = h

apply_within : (n : ℕ) (rest : Rest) (line : Line) (effect : Effect) → TalliesWithin n rest → TurnWithin (n + 1) (apply rest line effect)
apply_within n rest line EUndefined h = tt
apply_within n rest line (EGoes top file) h = within_more n rest h
apply_within n rest line (Calls top callee file) h = let w = within_more n rest h in record { thread = w.thread; counters = w.counters; parents = w.parents }
apply_within n rest line (Returns file) h = returned_within (n + 1) rest.older rest file (within_more n rest h)
apply_within n rest line (Ends v kept) h = ended_within (n + 1) rest.parents rest.older rest v kept (all_within_more n rest.parents h.parents)
apply_within n rest line (Traps kind) h = tt
apply_within n rest line (Prints byte top file) h = printed_within (n + 1) _ _ rest line byte top file (within_more n rest h)
apply_within n rest line (Forks top child handle passed file) h =
    let a = h.thread in
    let b = h.counters in
    record { thread = omega arith; counters = omega arith; parents = (omega arith, omega arith, all_within_more n rest.parents h.parents) }
apply_within n rest line (Touches (Number m) top file) h = tt
apply_within n rest line (Touches (Future path) top file) h = got_within (n + 1) _ rest top _ (within_more n rest h)
apply_within n rest line (Touches (Counter path m) top file) h = tt
apply_within n rest line (Counts top file) h =
    let w = within_more n rest h in let b = h.counters in record { thread = w.thread; counters = omega arith; parents = w.parents }
apply_within n rest line (Adds (Number m) top file) h = tt
apply_within n rest line (Adds (Future path) top file) h = tt
apply_within n rest line (Adds (Counter path m) top file) h = let w = within_more n rest h in record { thread = w.thread; counters = w.counters; parents = w.parents }
apply_within n rest line (Joins (Number m) least top file) h = tt
apply_within n rest line (Joins (Future path) least top file) h = tt
apply_within n rest line (Joins (Counter path m) least top file) h = joined_within (n + 1) _ rest line top file (within_more n rest h)

step_at_within : (n : ℕ) (p : Program) (d : Data) (s : State) (o : Option Item) → TalliesWithin n s.rest → TurnWithin (n + 1) (step_at p d s o)
step_at_within n p d s None h = tt
step_at_within n p d s (Some item) h = apply_within n s.rest item.line (item_effect p d item.kind s.top s.registers) h

step_turn_within : (n : ℕ) (p : Program) (d : Data) (s : State) → TalliesWithin n s.rest → TurnWithin (n + 1) (step p d s)
unfolding step
step_turn_within n p d s h = step_at_within n p d s (item_at p s.top) h

pub step_within : (n : ℕ) (p : Program) (d : Data) (s t : State) → TalliesWithin n s.rest → step p d s ≡ Goes t → TalliesWithin (n + 1) t.rest
step_within n p d s t h e = subst (TurnWithin (n + 1)) e (step_turn_within n p d s h)

pub ruleset steps = (run_goes, run_over, run_undefined, run_ended)

pub run_is_from : (p : Program) (d : Data) (n : ℕ) (s : State) → start p d ≡ Some s → ordinary_run p d n ≡ run p d n s
unfolding ordinary_run
run_is_from p d n s e = ap (run_from p d n) e

pub none_is_from : (p : Program) (d : Data) (n : ℕ) → start p d ≡ None → ordinary_run p d n ≡ None
unfolding ordinary_run
none_is_from p d n e = ap (run_from p d n) e

-- an end stays with more steps
after_lasts : (go on : State → Option OrdEnd) (turn : Turn) (end : OrdEnd) → ((s : State) → go s ≡ Some end → on s ≡ Some end) → after_turn go turn ≡ Some end → after_turn on turn ≡ Some end
after_lasts go on Undefined end more e = e
after_lasts go on (Goes s) end more e = more s e
after_lasts go on (Over x) end more e = e

pub run_lasts : (p : Program) (d : Data) (n m : ℕ) (s : State) (end : OrdEnd) → end ≢ Going → n ≤ m → run p d n s ≡ Some end → run p d m s ≡ Some end
unfolding run
run_lasts p d zero m s end ne le e = absurd (ne (cc))
run_lasts p d (suc n) zero s end ne le e = absurd (omega arith)
run_lasts p d (suc n) (suc m) s end ne le e = after_lasts (run p d n) (run p d m) (step p d s) end (λ t. run_lasts p d n m t end ne (omega arith)) e

after_goes : (go on : State → Option OrdEnd) (turn : Turn) → ((s : State) → on s ≡ Some Going → go s ≡ Some Going) → after_turn on turn ≡ Some Going → after_turn go turn ≡ Some Going
after_goes go on Undefined less e = e
after_goes go on (Goes s) less e = less s e
after_goes go on (Over x) less e = e

-- what has not ended had not ended earlier
pub run_went : (p : Program) (d : Data) (n m : ℕ) (s : State) → n ≤ m → run p d m s ≡ Some Going → run p d n s ≡ Some Going
unfolding run
run_went p d zero m s le e = refl
run_went p d (suc n) zero s le e = absurd (omega arith)
run_went p d (suc n) (suc m) s le e = after_goes (run p d n) (run p d m) (step p d s) (λ t. run_went p d n m t (omega arith)) e
