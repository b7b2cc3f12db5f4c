-- In each state of the ordinary-call run the futures that it names have ended: futures_are_there.
use Rattle.std.proofs.Common.{◌≡◌, ℕ, Bool, true, false, cond, List, [], ◌∷◌, ◌++◌, length, replicate, Option, Some, None, refl, ap, subst}
use Rattle.std.specs.Prelude.{slice_get}
use Rattle.std.specs.Str.{bytes_eq}
use Rattle.st_base.specs.declared.thread.Held.{Held}
use Rattle.st_base.specs.declared.thread.Held.TheVariants.{Number, Future, Counter}
use Rattle.st_base.specs.declared.thread.Activation.{Activation}
use Rattle.st_base.specs.declared.line.Line.{Line}
use Rattle.st_base.specs.declared.reg.Reg.TheVariants.{A0, A6}
use Rattle.st_base.specs.declared.registers.Pick.TheVariants.{Arguments}
use Rattle.st_base.specs.Registers.{zeroed, write_register}
use Rattle.st_model.specs.declared.program.Program.{Program}
use Rattle.st_model.specs.declared.program.ProgramFunction.{ProgramFunction}
use Rattle.st_model.specs.declared.program.Item.{Item}
use Rattle.st_model.specs.declared.effect.Effect.{Effect}
use Rattle.st_model.specs.declared.effect.Effect.TheVariants.{Undefined, Goes, Calls, Returns, Ends, Traps, Prints, Forks, Touches, Counts, Adds, Joins}
use Rattle.st_model.specs.declared.ordinary.Ended.{Ended}
use Rattle.st_model.specs.declared.ordinary.Tally.{Tally}
use Rattle.st_model.specs.declared.ordinary.Rest.{Rest}
use Rattle.st_model.specs.declared.ordinary.State.{State}
use Rattle.st_model.specs.declared.ordinary.Turn.{Turn}
use Rattle.st_model.specs.declared.ordinary.Turn.TheVariants.{Undefined as Undefined', Goes as Goes', Over}
use Rattle.st_model.specs.Effect.{File, item_effect}
use Rattle.st_model.specs.Ordinary.{step, step_at, item_at, apply, returned_to, ended_in, value_of, got, printed_when, joined_when, started}
use Rattle.st_model.specs.Heap.{Path}
use Rattle.st_laws.specs.Sequential.{Steps}
use Rattle.st_laws.specs.Names.{IsKnown, IsKnownCell, AreKnown, KnowsNames, AllKnowNames, NamesEnded, FuturesAreThere}
use Rattle.st_laws.proofs.Naming.{known_set, known_write, known_picked, known_replicate, EffectKnows, item_knows}
use Rattle.st_laws.proofs.Placing.{value_of_old}
use Rattle.st_laws.proofs.HeapSteps.{eq_same}
use Rattle.st_model.specs.Memory.{Data}

-- ---- more names
module _ (F G : Path → Type 0) (C D : Path → ℕ → Type 0) (f : (p : Path) → F p → G p) (c : (p : Path) (n : ℕ) → C p n → D p n) where
  pub more_held : (held : Held) → IsKnown F C held → IsKnown G D held
  more_held (Number n) k = tt
  more_held (Future p) k = f p k
  more_held (Counter p n) k = c p n k

  more_cell : (o : Option Held) → IsKnownCell F C o → IsKnownCell G D o
  more_cell None k = tt
  more_cell (Some held) k = more_held held k

  pub more_cells : (cells : List (Option Held)) → AreKnown F C cells → AreKnown G D cells
  more_cells cells k i = more_cell _ (k i)

  pub more_frame : (a : Activation) → KnowsNames F C a → KnowsNames G D a
  more_frame a k = (more_cells a.kept k.0, more_cells a.handles k.1)

  pub more_frames : (older : List Activation) → AllKnowNames F C older → AllKnowNames G D older
  more_frames [] k = tt
  more_frames (a ∷ older) k = (more_frame a k.0, more_frames older k.1)

-- ---- the ordinary machine
abbrev E : List Ended → Path → Type 0
E es p = (v : ℕ) × (value_of es p ≡ Some v)

abbrev T : Path → ℕ → Type 0
T p n = Unit {0}

abbrev TurnNames : Turn → Type 0
TurnNames Undefined' = Unit {0}
TurnNames (Goes' t) = NamesEnded t
TurnNames (Over e) = Unit {0}

there_by : (b : Bool) (x : ℕ) (o : Option ℕ) → (w : ℕ) × (o ≡ Some w) → (w : ℕ) × (cond b (Some x) o ≡ Some w)
there_by true x o k = (x, refl)
there_by false x o k = k

value_there : (es : List Ended) (e : Ended) → (w : ℕ) × (value_of (es ++ e ∷ []) e.path ≡ Some w)
value_there [] e = (e.value, ap (λ b. cond b (Some e.value) None) (eq_same e.path))
value_there (x ∷ es) e = there_by (bytes_eq x.path e.path) x.value (value_of (es ++ e ∷ []) e.path) (value_there es e)

returned_names : (older : List Activation) (rest : Rest) (file : File) → AllKnowNames (E rest.ended) T older → AreKnown (E rest.ended) T file → TurnNames (returned_to older rest file)
returned_names [] rest file o f = tt
returned_names (a ∷ older) rest file o f = (f, o.0, o.1)

ended_names : (parents : List Tally) (older : List Activation) (rest : Rest) (v : ℕ) (kept : File) → AllKnowNames (E rest.ended) T older → AreKnown (E rest.ended) T kept → TurnNames (ended_in parents older rest v kept)
ended_names [] older rest v kept o k = tt
ended_names (parent ∷ parents) [] rest v kept o k = tt
ended_names (parent ∷ parents) (top ∷ older) rest v kept o k =
    let e : Ended = record { path = rest.thread.path; value = v } in
    let es = rest.ended ++ e ∷ [] in
    let f : (p : Path) → E rest.ended p → E es p = λ p x. (x.0, value_of_old rest.ended e p x.0 x.1) in
    let c : (p : Path) (n : ℕ) → T p n → T p n = λ p n x. x in (
      known_write (E es) T kept rest.thread.handle (Future rest.thread.path) (more_cells (E rest.ended) (E es) T T f c kept k) (value_there rest.ended e),
      more_frame (E rest.ended) (E es) T T f c top o.0,
      more_frames (E rest.ended) (E es) T T f c older o.1,
    )

got_names : (o : Option ℕ) (rest : Rest) (top : Activation) (file : File) → AllKnowNames (E rest.ended) T rest.older → KnowsNames (E rest.ended) T top → AreKnown (E rest.ended) T file → TurnNames (got o rest top file)
got_names None rest top file o t f = tt
got_names (Some v) rest top file o t f = (known_write (E rest.ended) T file A0 (Number v) f tt, t, o)

printed_names : (root room : Bool) (rest : Rest) (line : Line) (byte : ℕ) (top : Activation) (file : File) → AllKnowNames (E rest.ended) T rest.older → KnowsNames (E rest.ended) T top → AreKnown (E rest.ended) T file → TurnNames (printed_when root room rest line byte top file)
printed_names true true rest line byte top file o t f = (f, t, o)
printed_names true false rest line byte top file o t f = tt
printed_names false room rest line byte top file o t f = tt

joined_names : (short : Bool) (rest : Rest) (line : Line) (top : Activation) (file : File) → AllKnowNames (E rest.ended) T rest.older → KnowsNames (E rest.ended) T top → AreKnown (E rest.ended) T file → TurnNames (joined_when short rest line top file)
joined_names true rest line top file o t f = tt
joined_names false rest line top file o t f = (f, t, o)

apply_names : (rest : Rest) (line : Line) (effect : Effect) → AllKnowNames (E rest.ended) T rest.older → EffectKnows (E rest.ended) T effect → TurnNames (apply rest line effect)
apply_names rest line Undefined o k = tt
apply_names rest line (Goes top file) o k = (k.1, k.0, o)
apply_names rest line (Calls top callee file) o k = (k.2, k.1, (k.0, o))
apply_names rest line (Returns file) o k = returned_names rest.older rest file o k
apply_names rest line (Ends v kept) o k = ended_names rest.parents rest.older rest v kept o k
apply_names rest line (Traps kind) o k = tt
apply_names rest line (Prints byte top file) o k = printed_names _ _ rest line byte top file o k.0 k.1
apply_names rest line (Forks top child handle passed file) o k = (k.2, k.1, (k.0, o))
apply_names rest line (Touches (Number n) top file) o k = tt
apply_names rest line (Touches (Future p) top file) o k = got_names _ rest top file o k.1 k.2
apply_names rest line (Touches (Counter p n) top file) o k = tt
apply_names rest line (Counts top file) o k = (known_write (E rest.ended) T file A6 (Counter rest.thread.path rest.thread.counters) k.1 tt, k.0, o)
apply_names rest line (Adds (Number n) top file) o k = tt
apply_names rest line (Adds (Future p) top file) o k = tt
apply_names rest line (Adds (Counter p n) top file) o k = (k.2, k.1, o)
apply_names rest line (Joins (Number n) least top file) o k = tt
apply_names rest line (Joins (Future p) least top file) o k = tt
apply_names rest line (Joins (Counter p n) least top file) o k = joined_names _ rest line top file o k.1 k.2

step_names : (p : Program) (source : Data) (s : State) (o : Option Item) → NamesEnded s → TurnNames (step_at p source s o)
step_names p source s None names = tt
step_names p source s (Some item) names =
    apply_names s.rest item.line (item_effect p source item.kind s.top s.registers) names.2
    (item_knows (E s.rest.ended) T p source item.kind s.top s.registers names.1 names.0)

next_names : (p : Program) (source : Data) (s t : State) → NamesEnded s → step p source s ≡ Goes' t → NamesEnded t
unfolding step
next_names p source s t names is = subst TurnNames is (step_names p source s (item_at p s.top) names)

run_names : (p : Program) (source : Data) (s t : State) (ps : List Path) → NamesEnded s → Steps p source s ps t → NamesEnded t
run_names p source s t [] names steps = subst NamesEnded steps names
run_names p source s t (q ∷ ps) names steps = run_names p source steps.1.0 t ps (next_names p source s steps.1.0 names steps.1.1) steps.1.2

pub known_zeroed : (F : Path → Type 0) (C : Path → ℕ → Type 0) → AreKnown F C zeroed
unfolding zeroed
known_zeroed F C = known_set F C (replicate 32 None) 0 (Number 0) (known_replicate F C 32) tt

abbrev pub OptionNames : Option State → Type 0
OptionNames None = Unit {0}
OptionNames (Some s) = NamesEnded s

started_names : (p : Program) (input : ℕ) (o : Option ProgramFunction) → OptionNames (started p input o)
started_names p input None = tt
started_names p input (Some function) =
    (known_picked (E []) T (Arguments function.ints 0) (write_register zeroed A0 (Number input)) (known_write (E []) T zeroed A0 (Number input) (known_zeroed (E []) T) tt), (known_zeroed (E []) T, known_replicate (E []) T function.slots), tt)

pub futures_are_there : FuturesAreThere
futures_are_there program source s t ps first steps =
    run_names program source s t ps (subst OptionNames first (started_names program (length source.input) (slice_get program.functions program.main))) steps
