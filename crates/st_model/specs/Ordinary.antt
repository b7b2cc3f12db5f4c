-- The ordinary-call run: one list of activations, in which a fork is a call that runs at once. Read ordinary_run (at most n steps
-- from main), EndsWith (the run ends so) and NeverWaits; step is one item.
use Rattle.std.specs.Prelude.{◌≡◌, ◌≢◌, ℕ, zero, suc, ◌+◌, ◌-◌, ◌≤◌, ◌^◌, ◌&&◌, min, max, Bool, true, false, cond, nat_lt, nat_eq, ◌==◌, List, [], ◌∷◌, ◌++◌, length, Option, Some, None, slice_get}
use Rattle.std.specs.Cmp.Lexicographic.{pointwise}
use Rattle.st_base.specs.declared.reg.Reg.{Reg}
use Rattle.st_base.specs.declared.reg.Reg.TheVariants.{A0, A6, Zero}
use Rattle.st_base.specs.declared.thread.Held.{Held}
use Rattle.st_base.specs.declared.thread.Held.TheVariants.{Number, Future, Counter}
use Rattle.st_base.specs.declared.thread.Activation.{Activation}
use Rattle.st_base.specs.declared.thread.ActivationKind.TheVariants.{Root}
use Rattle.st_base.specs.declared.line.Line.{Line}
use Rattle.st_base.specs.declared.thread.TrapKind.{TrapKind}
use Rattle.st_base.specs.declared.thread.TrapKind.TheVariants.{WrongHandle, PutInChild}
use Rattle.st_base.specs.Registers.{write_register, picked, zeroed}
use Rattle.st_base.specs.declared.registers.Pick.TheVariants.{Arguments}
use Rattle.st_model.specs.declared.program.Item.{Item}
use Rattle.st_model.specs.declared.program.Program.{Program}
use Rattle.st_model.specs.declared.program.ProgramFunction.{ProgramFunction}
use Rattle.st_model.specs.declared.effect.Effect.{Effect}
use Rattle.st_model.specs.declared.effect.Effect.TheVariants.{Undefined, Goes, Calls, Returns, Ends, Traps, Prints, Forks, Touches, Counts, Adds, Joins}
use Rattle.st_model.specs.declared.ordinary.OrdEnd.{OrdEnd}
use Rattle.st_model.specs.declared.ordinary.OrdEnd.TheVariants.{Going, Done, Trap, Waits, OutLimit}
use Rattle.st_model.specs.declared.ordinary.Turn.{Turn}
use Rattle.st_model.specs.declared.ordinary.Turn.TheVariants.{Undefined as Undefined', Goes as Goes', Over}
use Rattle.st_model.specs.declared.ordinary.Ended.{Ended}
use Rattle.st_model.specs.declared.ordinary.Tally.{Tally}
use Rattle.st_model.specs.declared.ordinary.Tallied.{Tallied}
use Rattle.st_model.specs.declared.ordinary.Rest.{Rest}
use Rattle.st_model.specs.declared.ordinary.State.{State}
use Rattle.st_model.specs.Memory.{Data}
use Rattle.st_model.specs.Effect.{File, item_effect, entered}

abbrev pub goes_on : Activation → File → Rest → Turn
goes_on top file rest = Goes' record { top = top; registers = file; rest = rest }

-- back in the caller
abbrev pub returned_to : List Activation → Rest → File → Turn
returned_to [] rest file = Undefined'
returned_to (top ∷ older) rest file = goes_on top file (record rest { older = older })

abbrev pub returned : Rest → File → Turn
returned rest file = returned_to rest.older rest file

abbrev pub called : Rest → Activation → Activation → File → Turn
called rest caller top file = goes_on top file (record rest { older = caller ∷ rest.older })

abbrev pub trapped : Rest → TrapKind → Line → Turn
trapped rest kind line = Over (Trap kind line rest.thread.path rest.out)

abbrev pub is_root : List ℕ → Bool
is_root [] = true
is_root (k ∷ p) = false

abbrev pub printed_when : Bool → Bool → Rest → Line → ℕ → Activation → File → Turn
printed_when true true rest line byte top file = goes_on top file (record rest { out = rest.out ++ byte ∷ [] })
printed_when true false rest line byte top file = Over (OutLimit rest.out)
printed_when false room rest line byte top file = trapped rest PutInChild line

abbrev pub printed : Rest → Line → ℕ → Activation → File → Turn
printed rest line byte top file = printed_when (is_root rest.thread.path) (nat_lt (length rest.out) 1048576) rest line byte top file

-- the fork's parent goes on with the future's name
abbrev pub ended_in : List Tally → List Activation → Rest → ℕ → File → Turn
ended_in [] older rest v kept = Over (Done rest.out)
ended_in (parent ∷ parents) [] rest v kept = Undefined'
ended_in (parent ∷ parents) (top ∷ older) rest v kept =
    goes_on top (write_register kept rest.thread.handle (Future rest.thread.path))
    record {
      older = older;
      thread = parent;
      parents = parents;
      ended = rest.ended ++ record { path = rest.thread.path; value = v } ∷ [];
      counts = rest.counts;
      out = rest.out;
    }

abbrev pub finished : Rest → ℕ → File → Turn
finished rest v kept = ended_in rest.parents rest.older rest v kept

abbrev pub forked : Rest → Activation → Activation → Reg → File → Turn
forked rest parent child handle passed =
    goes_on child passed
    record {
      older = parent ∷ rest.older;
      thread = record { path = rest.thread.path ++ rest.thread.forks ∷ []; forks = 0; counters = 0; handle = handle };
      parents = record rest.thread { forks = rest.thread.forks + 1 } ∷ rest.parents;
      ended = rest.ended;
      counts = rest.counts;
      out = rest.out;
    }

-- the value of the thread of a path, if it has ended
abbrev pub value_of : List Ended → List ℕ → Option ℕ
value_of [] path = None
value_of (e ∷ es) path = cond (pointwise nat_eq e.path path) (Some e.value) (value_of es path)

abbrev pub got : Option ℕ → Rest → Activation → File → Turn
got None rest top file = Undefined'
got (Some v) rest top file = goes_on top (write_register file A0 (Number v)) rest

abbrev pub touched : Rest → Line → Held → Activation → File → Turn
touched rest line (Number n) top file = trapped rest WrongHandle line
touched rest line (Future path) top file = got (value_of rest.ended path) rest top file
touched rest line (Counter path n) top file = trapped rest WrongHandle line

-- a count stands still at its end
abbrev pub counted : ℕ → ℕ
counted n = max n (min (n + 1) (2 ^ 47 - 1))

abbrev pub is_counter : Tallied → List ℕ → ℕ → Bool
is_counter c maker n = pointwise nat_eq c.maker maker && (c.number == n)

-- the count of a counter: 0 where nobody has added
abbrev pub count_of : List Tallied → List ℕ → ℕ → ℕ
count_of [] maker n = 0
count_of (c ∷ cs) maker n = cond (is_counter c maker n) c.count (count_of cs maker n)

abbrev pub counted_up : List Tallied → List ℕ → ℕ → List Tallied
counted_up [] maker n = record { maker = maker; number = n; count = 1 } ∷ []
counted_up (c ∷ cs) maker n =
    cond (is_counter c maker n) (record { maker = maker; number = n; count = counted c.count } ∷ cs) (c ∷ counted_up cs maker n)

-- a new counter of the thread, with count 0
abbrev pub made_counter : Rest → Activation → File → Turn
made_counter rest top file =
    goes_on top (write_register file A6 (Counter rest.thread.path rest.thread.counters))
    (record rest {
      thread = record rest.thread { counters = rest.thread.counters + 1 };
      counts = rest.counts ++ record { maker = rest.thread.path; number = rest.thread.counters; count = 0 } ∷ [];
    })

abbrev pub added : Rest → Line → Held → Activation → File → Turn
added rest line (Number n) top file = trapped rest WrongHandle line
added rest line (Future path) top file = trapped rest WrongHandle line
added rest line (Counter maker n) top file = goes_on top file (record rest { counts = counted_up rest.counts maker n })

abbrev pub joined_when : Bool → Rest → Line → Activation → File → Turn
joined_when true rest line top file = Over (Waits line rest.thread.path rest.out)
joined_when false rest line top file = goes_on top file rest

abbrev pub joined : Rest → Line → Held → ℕ → Activation → File → Turn
joined rest line (Number n) least top file = trapped rest WrongHandle line
joined rest line (Future path) least top file = trapped rest WrongHandle line
joined rest line (Counter maker n) least top file = joined_when (nat_lt (count_of rest.counts maker n) least) rest line top file

abbrev item_in : Option ProgramFunction → ℕ → Option Item
item_in None next = None
item_in (Some function) next = slice_get function.items next

-- the item that an activation is at
abbrev pub item_at : Program → Activation → Option Item
item_at p top = item_in (slice_get p.functions top.function) top.next

-- what an effect makes of a state
abbrev pub apply : Rest → Line → Effect → Turn
apply rest line Undefined = Undefined'
apply rest line (Goes top file) = goes_on top file rest
apply rest line (Calls top callee file) = called rest top callee file
apply rest line (Returns file) = returned rest file
apply rest line (Ends v kept) = finished rest v kept
apply rest line (Traps kind) = trapped rest kind line
apply rest line (Prints byte top file) = printed rest line byte top file
apply rest line (Forks top child handle passed file) = forked rest top child handle passed
apply rest line (Touches name top file) = touched rest line name top file
apply rest line (Counts top file) = made_counter rest top file
apply rest line (Adds name top file) = added rest line name top file
apply rest line (Joins name least top file) = joined rest line name least top file

abbrev pub step_at : Program → Data → State → Option Item → Turn
step_at p d s None = Undefined'
step_at p d s (Some item) = apply s.rest item.line (item_effect p d item.kind s.top s.registers)

-- one step
unfoldable pub step : Program → Data → State → Turn
step p d s = step_at p d s (item_at p s.top)

-- goes on from a turn; none where something undefined was read
abbrev pub after_turn : (State → Option OrdEnd) → Turn → Option OrdEnd
after_turn go Undefined' = None
after_turn go (Goes' s) = go s
after_turn go (Over e) = Some e

-- at most n steps
unfoldable pub run : Program → Data → ℕ → State → Option OrdEnd
run p d zero s = Some Going
run p d (suc n) s = after_turn (run p d n) (step p d s)

abbrev pub AllWithin : ℕ → List Tally → Type 0
AllWithin n [] = Unit {0}
AllWithin n (t ∷ ts) = (t.forks ≤ n) × (t.counters ≤ n) × AllWithin n ts

-- no thread of the list has made more than n forks or counters
pub record TalliesWithin (n : ℕ) (rest : Rest) : Type 0 where
  pub thread : rest.thread.forks ≤ n
  pub counters : rest.thread.counters ≤ n
  pub parents : AllWithin n rest.parents

abbrev pub started : Program → ℕ → Option ProgramFunction → Option State
started p input None = None
started p input (Some function) =
    Some
    record {
      top = entered p.main function zeroed Root;
      registers = picked (Arguments function.ints 0) (write_register zeroed A0 (Number input));
      rest =
          record {
            older = [];
            thread = record { path = []; forks = 0; counters = 0; handle = Zero };
            parents = [];
            ended = [];
            counts = [];
            out = [];
          };
    }

-- the first state; `main` is given the length of the input
abbrev pub start : Program → Data → Option State
start p d = started p (length d.input) (slice_get p.functions p.main)

abbrev pub run_from : Program → Data → ℕ → Option State → Option OrdEnd
run_from p d n None = None
run_from p d n (Some s) = run p d n s

-- at most n steps from `main`, or none where something undefined was read
unfoldable pub ordinary_run : Program → Data → ℕ → Option OrdEnd
ordinary_run p d n = run_from p d n (start p d)

-- the ordinary run ends so
abbrev pub EndsWith : Program → Data → OrdEnd → Type 0
EndsWith p d end = (end ≢ Going) × ((n : ℕ) × (ordinary_run p d n ≡ Some end))

-- nothing undefined is ever read
abbrev pub IsDefined : Program → Data → Type 0
IsDefined p d = (n : ℕ) → ordinary_run p d n ≢ None

-- no number of steps makes it wait at a join
abbrev pub NeverWaits : Program → Data → Type 0
NeverWaits p d = (n : ℕ) (line : Line) (path out : List ℕ) → ordinary_run p d n ≢ Some (Waits line path out)
