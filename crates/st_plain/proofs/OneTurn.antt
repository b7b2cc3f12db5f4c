-- One instruction of a run that is under way with an item: it goes on with the item, comes to the next one, or ends the run (instruction_turns).
-- At an entry the run is at the end of what the item calls (is_served_there).
use Rattle.std.proofs.Common.{◌≡◌, ◌≢◌, ◌⊎◌, inl, inr, ℕ, zero, suc, ◌+◌, ◌/◌, ◌<◌, ◌≤◌, Bool, true, false, if◌then◌else◌, List, length, reverse, nat_lt, ◌*◌, Some, None, slice_get, refl, ap, ◌∙◌, sym, subst, arith}
use Rattle.st_base.specs.declared.image.Image.{Image}
use Rattle.st_base.specs.declared.line.Line.{Line}
use Rattle.st_base.specs.declared.limits.Limits.{Limits}
use Rattle.st_base.specs.declared.limits.LimitKind.TheVariants.{Stack}
use Rattle.st_base.specs.declared.thread.Held.{Held}
use Rattle.st_rv.specs.declared.ins.Ins.{Ins}
use Rattle.st_model.specs.declared.program.Program.{Program}
use Rattle.st_model.specs.Accepted.{IsAccepted}
use Rattle.st_model.specs.declared.ordinary.OrdEnd.TheVariants as ends
use Rattle.st_model.specs.declared.ordinary.State.{State}
use Rattle.st_model.specs.declared.ordinary.Turn.TheVariants.{Undefined, Goes}
use Rattle.st_model.specs.Bounded.{past_stack}
use Rattle.st_model.specs.Draws.{drawn_by}
use Rattle.st_model.specs.Memory.{Data}
use Rattle.st_model.specs.Ordinary.{run, after_turn, step, item_at}
use Rattle.st_words.specs.declared.plain.PlainBoard.{PlainBoard}
use Rattle.st_step.specs.declared.machine.Machine.{Machine}
use Rattle.st_step.specs.declared.machine.StepEnd.{StepEnd}
use Rattle.st_step.specs.declared.machine.StepEnd.TheVariants as stepped
use Rattle.st_step.specs.Moves.{Stops, move_of}
use Rattle.st_step.specs.Runs.{Situation, moved}
use Rattle.st_plain.specs.declared.run.PlainRun.{PlainRun}
use Rattle.st_plain.specs.declared.stop.Ending.TheVariants as endings
use Rattle.st_items.specs.Code.{code_at, word_index, IsSized}
use Rattle.st_items.specs.Tables.{begins_of, instructions_of}
use Rattle.std.proofs.lemmas.Bool.{le-ltb, lt-ltb}
use Rattle.st_model.specs.declared.code.Layout.TheVariants.{Unchanged}
use Rattle.st_model.specs.Layout.{code_of, code_start, program_words}
use Rattle.st_items.specs.Ways.{Makes, OnWay}
use Rattle.st_plain.specs.Running.{EndsBy, GoesOn, HasTables, IsAmid, IsAtEntry, IsDefinedFrom, IsKept, IsPast, IsUnderWay, Starts, Calls, Passes, limit_met}
use Rattle.st_plain.specs.Standing.{on_stack, situation, Stands, AtCall, AtEnd}
use Rattle.std.proofs.Math.Logic.{∥∥₁_elim}
use Rattle.std.proofs.Math.Bridge.{le_prop}
use Rattle.std.proofs.Math.Dec.{T}
use Rattle.std.proofs.lemmas.Option.{slice_get_within}
use Rattle.st_step.specs.Acts.{IsBounded}
use Rattle.st_step.proofs.Fetching.{bounded_some}
use Rattle.st_items.proofs.Tables.{fetched_at, begins_length}
use Rattle.st_items.proofs.Words.{program-length, code-length}
use Rattle.std.proofs.lemmas.List.{length-map}
use Rattle.st_plain.specs.Answer.{IsPlainImage}
use Rattle.st_plain.proofs.ItemBegins.{entry_low}
use Rattle.st_items.proofs.Addresses.{place_bounds, sized}
use Rattle.st_plain.proofs.Beginning.{Begins, GoesAlone, StopsAs, item_begins}
use Rattle.st_plain.proofs.Executing.{MovesOf, SpeaksWithin, speaks_prop, speaks_within, executes, keeps_long, stops}
use Rattle.st_plain.proofs.ForkHandles.{step_handles}
use Rattle.st_plain.proofs.Naming.{same_older}
use Rattle.st_plain.proofs.Notes.{notes_same, path_of_notes}

-- ---- what is defined

pub first_defined : (p : Program) (d : Data) (s : State) → IsDefinedFrom p d s → step p d s ≢ Undefined
unfolding run
first_defined p d s defined is = defined 1 (ap (after_turn (run p d 0)) is)

pub next_defined : (p : Program) (d : Data) (s s' : State) → IsDefinedFrom p d s → step p d s ≡ Goes s' → IsDefinedFrom p d s'
unfolding run
next_defined p d s s' defined is n none = defined (suc n) (ap (after_turn (run p d n)) is ∙ none)

-- ---- after an instruction

-- the run with another machine and board
abbrev pub moved_run : PlainRun → Machine → PlainBoard → PlainRun
moved_run r machine board = record r { machine = machine; board = board }

tables_stay : (p : Program) (image : Image) (limits : Limits) (r : PlainRun) (machine : Machine) (board : PlainBoard) → HasTables p image limits r → length board.words.stack ≡ length r.board.words.stack → HasTables p image limits (moved_run r machine board)
tables_stay p image limits r machine board tables long = record { is_plain = tables.is_plain; instructions = tables.instructions; begins = tables.begins; handles = tables.handles; most = tables.most; long = long ∙ tables.long }

-- what the cells, notes and bytes stand for, where the item needs nothing of the runtime
kept_alone : (p : Program) (d : Data) (limits : Limits) (r : PlainRun) (names : List Held) (v : Situation) (drawn : ℕ) (s : State) → IsKept p limits names r.threads.cells.items.items r.threads.notes.items.items r.threads.out.items.items s
    → (goes : GoesAlone p d limits drawn names v s) → IsKept p limits names r.threads.cells.items.items r.threads.notes.items.items r.threads.out.items.items goes.s'
kept_alone p d limits r names v drawn s kept goes = record {
  stand = same_older names r.threads.cells.items.items s.rest goes.s'.rest goes.s'.rest.older s.rest.out kept.stand goes.rest;
  notes_stand = notes_same names (reverse r.threads.notes.items.items) s.rest goes.s'.rest (ap (λ x. x.thread) goes.rest) (ap (λ x. x.parents) goes.rest) kept.notes_stand;
  printed = ap (λ x. x.out) goes.rest ∙ kept.printed;
  few_cells = kept.few_cells;
  few_bytes = kept.few_bytes;
  handles = step_handles p d s goes.s' goes.steps kept.handles;
}

-- ---- the instruction at the pc

code_there : (p : Program) (pc : ℕ) (ins : Ins) (instructions : List Ins) → instructions ≡ code_of Unchanged p → 0x10000 ≤ pc → slice_get instructions (word_index pc) ≡ Some ins → code_at Unchanged p pc ≡ Some ins
code_there p pc ins instructions are high there =
    ap (λ (b : Bool). if b then None else slice_get (code_of Unchanged p) (word_index pc)) (le-ltb pc code_start high)
    ∙ ap (λ (xs : List Ins). slice_get xs (word_index pc)) (sym are)
    ∙ there

-- it is the one that leads on
made_by : (p : Program) (d : Data) (stack : ℕ) (t u : Situation) (ins : Ins) → Makes Unchanged p d (on_stack stack) t u → code_at Unchanged p t.state.pc ≡ Some ins → moved (on_stack stack) t (move_of d t.state ins) ≡ Some u
made_by p d stack t u ins makes there =
    let same : makes.ins ≡ ins = (let e = makes.there in cc) in
    subst (λ (i : Ins). moved (on_stack stack) t (move_of d t.state i) ≡ Some u) same makes.goes

-- what it comes to
abbrev pub TurnsAs : Program → Image → Data → Limits → ℕ → PlainRun → Machine → PlainBoard → State → ℕ → StepEnd → Type 0
TurnsAs p image d limits drawn r machine board s left stepped.Ran =
    ((less : ℕ) × (less < left) × (less < 42) × IsUnderWay p image d limits drawn (moved_run r machine board) s less) ⊎ IsPast p image d limits drawn (moved_run r machine board) s
TurnsAs p image d limits drawn r machine board s left (stepped.Trap kind) =
    (line : Line) × (slice_get image.lines (word_index r.machine.pc) ≡ Some line) × EndsBy p d limits drawn r.threads.notes.items.items r.threads.out.items.items s (endings.Trap kind line)
TurnsAs p image d limits drawn r machine board s left (stepped.StackFull frame) = EndsBy p d limits drawn r.threads.notes.items.items r.threads.out.items.items s (endings.Limit (Stack 0 frame))
TurnsAs p image d limits drawn r machine board s left (stepped.Entry entry) = ⊥

module _ (p : Program) (image : Image) (d : Data) (limits : Limits) (drawn : ℕ) (r : PlainRun) (machine : Machine) (board : PlainBoard) (s : State) (left : ℕ) (ins : Ins) (end : StepEnd) (tables : HasTables p image limits r) (defined : IsDefinedFrom p d s) (there : code_at Unchanged p r.machine.pc ≡ Some ins) (moves : MovesOf r.board r.machine (move_of d r.machine ins) end machine board) where
  still : HasTables p image limits (moved_run r machine board)
  still = tables_stay p image limits r machine board tables (keeps_long r.board board r.machine machine (move_of d r.machine ins) end moves)

  -- where it leads on
  led : (u : Situation) → Makes Unchanged p d (on_stack limits.stack) (situation r.machine r.board.words.stack) u → (end ≡ stepped.Ran) × (situation machine board.words.stack ≡ u)
  led u makes = executes r.board board r.machine machine (move_of d r.machine ins) end u limits.stack tables.long (made_by p d limits.stack (situation r.machine r.board.words.stack) u ins makes there) moves

  ran : TurnsAs p image d limits drawn r machine board s left stepped.Ran → end ≡ stepped.Ran → TurnsAs p image d limits drawn r machine board s left end
  ran turns is = subst (TurnsAs p image d limits drawn r machine board s left) (sym is) turns

  -- on the way to an entry
  calls_on : (names : List Held) (m : ℕ) (u t : Situation) → m ≤ 20 → m + 21 < left → Makes Unchanged p d (on_stack limits.stack) (situation r.machine r.board.words.stack) u → OnWay Unchanged p d (on_stack limits.stack) m u t → AtCall p limits.stack names t s ⊎ AtEnd p limits.stack names t s
      → IsKept p limits names r.threads.cells.items.items r.threads.notes.items.items r.threads.out.items.items s → length r.threads.cells.items.items ≡ drawn → TurnsAs p image d limits drawn r machine board s left end
  calls_on names m u t small few makes way at kept drawn_yet =
      let on = led u makes in
      ran (inl (
        m + 21,
        few,
        omega arith,
        record {
          tables = still;
          defined = defined;
          amid = inr (inl (record { names = names; n = m; small = small; few = omega arith; t = t; way = subst (λ (x : Situation). OnWay Unchanged p d (on_stack limits.stack) m x t) (sym on.1) way; at = at; kept = kept; drawn_yet = drawn_yet }));
        },
      )) on.0

  -- on the way to the next item, of which so many instructions are left
  passes_on : (names : List Held) (m : ℕ) (u t : Situation) (s' : State) → m ≤ 20 → m < left → limit_met p limits drawn s ≡ None → step p d s ≡ Goes s' → Makes Unchanged p d (on_stack limits.stack) (situation r.machine r.board.words.stack) u → OnWay Unchanged p d (on_stack limits.stack) m u t → Stands p limits.stack names t s'
      → IsKept p limits names r.threads.cells.items.items r.threads.notes.items.items r.threads.out.items.items s' → length r.threads.cells.items.items ≡ drawn + drawn_by (item_at p s.top) → TurnsAs p image d limits drawn r machine board s left end
  passes_on names zero u t s' small few passes steps makes way stands kept drew =
      let on = led u makes in
      ran (inr (record {
        passes = passes;
        s' = s';
        steps = steps;
        ready = record { tables = still; at = record { names = names; kept = kept; stands = subst (λ (x : Situation). Stands p limits.stack names x s') (sym (on.1 ∙ way)) stands }; defined = next_defined p d s s' defined steps };
        drew = drew;
      })) on.0
  passes_on names (suc m) u t s' small few passes steps makes way stands kept drew =
      let on = led u makes in
      let goes : GoesOn p d limits drawn (moved_run r machine board) s = record {
        passes = passes;
        s' = s';
        steps = steps;
        comes = record { names = names; n = suc m; few = small; t = t; way = subst (λ (x : Situation). OnWay Unchanged p d (on_stack limits.stack) (suc m) x t) (sym on.1) way; stands = stands; kept = kept };
        drew = drew;
      } in
      ran (inl (suc m, few, omega arith, record { tables = still; defined = defined; amid = inr (inr (record { goes = goes; some = omega arith; few = omega arith })) })) on.0

  -- a stop ends the run
  stopped_by : (stop : StepEnd) → StopsAs p image d limits drawn (situation r.machine r.board.words.stack) s stop → (names : List Held) → IsKept p limits names r.threads.cells.items.items r.threads.notes.items.items r.threads.out.items.items s → TurnsAs p image d limits drawn r machine board s left stop
  stopped_by stepped.Ran as_it names kept = absurd as_it
  stopped_by (stepped.Entry entry) as_it names kept = absurd as_it
  stopped_by (stepped.StackFull frame) as_it names kept = inl (past_stack frame, as_it, (Stack 0 frame, refl, refl))
  stopped_by (stepped.Trap kind) as_it names kept =
      let line = as_it.1.0 in
      let path = path_of_notes names r.threads.cells.items.items (reverse r.threads.notes.items.items) s.rest kept.stand kept.notes_stand in (
        line,
        as_it.1.1,
        inr (
          as_it.0,
          (
            ends.Trap kind line s.rest.thread.path s.rest.out,
            as_it.1.2,
            ap (λ (path : List ℕ). Some (ends.Trap kind line path r.threads.out.items.items)) (sym path) ∙ ap (λ (out : List ℕ). Some (ends.Trap kind line s.rest.thread.path out)) (sym kept.printed),
          ),
        ),
      )

  starts_on : Starts p limits drawn r s left → TurnsAs p image d limits drawn r machine board s left end
  starts_on begins =
      let at = begins.2 in
      let kept = at.kept in
      let first = item_begins p image d limits drawn at.names (situation r.machine r.board.words.stack) s tables.is_plain limits.stack_most limits.stack_multiple at.stands (first_defined p d s defined) in
      starts_by at.names kept begins.0 begins.1 first
    where
      starts_by : (names : List Held) → IsKept p limits names r.threads.cells.items.items r.threads.notes.items.items r.threads.out.items.items s → 42 ≤ left → length r.threads.cells.items.items ≡ drawn → Begins p image d limits drawn names (situation r.machine r.board.words.stack) s → TurnsAs p image d limits drawn r machine board s left end
      starts_by names kept long drawn_yet (inl (v, leads, inl at)) = calls_on names leads.2.0 leads.0 v leads.2.1 (let few = leads.2.1 in omega arith) leads.1 leads.2.2 at kept drawn_yet
      starts_by names kept long drawn_yet (inl (v, leads, inr alone)) =
          passes_on names leads.2.0 leads.0 v alone.s' leads.2.1 (let few = leads.2.1 in omega arith) alone.passes alone.steps leads.1 leads.2.2 alone.stands (kept_alone p d limits r names v drawn s kept alone) (let none = alone.draws_none in omega (arith, none, drawn_yet))
      starts_by names kept long drawn_yet (inr stopping) =
          let same : stopping.ins ≡ ins = (let e = stopping.there in cc) in
          let halts = subst (λ (i : Ins). move_of d r.machine i ≡ Stops stopping.end) same stopping.halts in
          let ended = stops r.board board r.machine machine (move_of d r.machine ins) end stopping.end halts moves in
          subst (TurnsAs p image d limits drawn r machine board s left) (sym ended.0) (stopped_by stopping.end stopping.alike names kept)

  calls_further : 0x10000 ≤ r.machine.pc → (calls : Calls p d limits drawn r s left) → (n : ℕ) → calls.n ≡ n → OnWay Unchanged p d (on_stack limits.stack) n (situation r.machine r.board.words.stack) calls.t → TurnsAs p image d limits drawn r machine board s left end
  calls_further high calls zero is way =
      absurd (let low = entry_low p limits.stack calls.names (situation r.machine r.board.words.stack) s tables.is_plain.accepted (subst (λ (x : Situation). AtCall p limits.stack calls.names x s ⊎ AtEnd p limits.stack calls.names x s) (sym way) calls.at) in omega (arith, low, high))
  calls_further high calls (suc m) is way =
      let small = calls.small in
      let few = calls.few in
      calls_on calls.names m way.1.0 calls.t (omega arith) (omega arith) way.1.1 way.1.2 calls.at calls.kept calls.drawn_yet

  passes_further : (passing : Passes p d limits drawn r s left) → (n : ℕ) → passing.goes.comes.n ≡ n → OnWay Unchanged p d (on_stack limits.stack) n (situation r.machine r.board.words.stack) passing.goes.comes.t → TurnsAs p image d limits drawn r machine board s left end
  passes_further passing zero is way = absurd (let some = passing.some in omega (arith, some, is))
  passes_further passing (suc m) is way =
      let goes = passing.goes in
      let small = goes.comes.few in
      let few = passing.few in
      passes_on goes.comes.names m way.1.0 goes.comes.t goes.s' (omega (arith, small, is)) (omega (arith, few, is)) goes.passes goes.steps way.1.1 way.1.2 goes.comes.stands goes.comes.kept goes.drew

  amid_on : 0x10000 ≤ r.machine.pc → IsAmid p d limits drawn r s left → TurnsAs p image d limits drawn r machine board s left end
  amid_on high (inl begins) = starts_on begins
  amid_on high (inr (inl calls)) = calls_further high calls calls.n refl calls.way
  amid_on high (inr (inr passing)) = passes_further passing passing.goes.comes.n refl passing.goes.comes.way

-- one instruction of a run that is under way
pub instruction_turns : (p : Program) (image : Image) (d : Data) (limits : Limits) (drawn : ℕ) (r : PlainRun) (machine : Machine) (board : PlainBoard) (s : State) (left : ℕ) (ins : Ins) (end : StepEnd) → IsUnderWay p image d limits drawn r s left → 0x10000 ≤ r.machine.pc → slice_get (instructions_of r.code.instructions.items) (word_index r.machine.pc) ≡ Some ins
    → MovesOf r.board r.machine (move_of d r.machine ins) end machine board → TurnsAs p image d limits drawn r machine board s left end
instruction_turns p image d limits drawn r machine board s left ins end under high there moves =
    amid_on p image d limits drawn r machine board s left ins end under.tables under.defined (code_there p r.machine.pc ins (instructions_of r.code.instructions.items) under.tables.instructions high there) moves high under.amid

-- ---- at an entry

-- such a run is at the entry itself
pub record IsServedThere (p : Program) (limits : Limits) (drawn : ℕ) (r : PlainRun) (s : State) (left : ℕ) : Type 0 where
  pub names : List Held
  pub entry : IsAtEntry p limits r names s
  pub drawn_yet : length r.threads.cells.items.items ≡ drawn
  pub many : 21 ≤ left

no_code : (p : Program) (d : Data) (stack : ℕ) (t u : Situation) → t.state.pc < 0x10000 → Makes Unchanged p d (on_stack stack) t u → ⊥
no_code p d stack t u low makes =
    let none : code_at Unchanged p t.state.pc ≡ None = ap (λ (b : Bool). if b then None else slice_get (code_of Unchanged p) (word_index t.state.pc)) (lt-ltb t.state.pc code_start low) in
    let e = makes.there in
    cc

served_at : (p : Program) (d : Data) (limits : Limits) (drawn : ℕ) (r : PlainRun) (s : State) (left : ℕ) → r.machine.pc < 0x10000 → (calls : Calls p d limits drawn r s left) → (n : ℕ) → calls.n ≡ n → OnWay Unchanged p d (on_stack limits.stack) n (situation r.machine r.board.words.stack) calls.t → IsServedThere p limits drawn r s left
served_at p d limits drawn r s left low calls zero is way = record {
  names = calls.names;
  entry = record { kept = calls.kept; at = subst (λ (x : Situation). AtCall p limits.stack calls.names x s ⊎ AtEnd p limits.stack calls.names x s) (sym way) calls.at };
  drawn_yet = calls.drawn_yet;
  many = let few = calls.few in omega arith;
}
served_at p d limits drawn r s left low calls (suc m) is way = absurd (no_code p d limits.stack (situation r.machine r.board.words.stack) way.1.0 low way.1.1)

passing_no : (p : Program) (d : Data) (limits : Limits) (drawn : ℕ) (r : PlainRun) (s : State) (left : ℕ) → r.machine.pc < 0x10000 → (passing : Passes p d limits drawn r s left) → (n : ℕ) → passing.goes.comes.n ≡ n → OnWay Unchanged p d (on_stack limits.stack) n (situation r.machine r.board.words.stack) passing.goes.comes.t → ⊥
passing_no p d limits drawn r s left low passing zero is way = let some = passing.some in omega (arith, some, is)
passing_no p d limits drawn r s left low passing (suc m) is way = no_code p d limits.stack (situation r.machine r.board.words.stack) way.1.0 low way.1.1

served_amid : (p : Program) (d : Data) (limits : Limits) (drawn : ℕ) (r : PlainRun) (s : State) (left : ℕ) → IsSized Unchanged p → r.machine.pc < 0x10000 → IsAmid p d limits drawn r s left → IsServedThere p limits drawn r s left
served_amid p d limits drawn r s left size low (inl begins) =
    let stands = begins.2.stands in
    let bound = (place_bounds Unchanged p s.top.function stands.stands.function s.top.next size stands.stands.here).0 in
    let at = stands.at in
    absurd (omega (arith, low, bound, at))
served_amid p d limits drawn r s left size low (inr (inl calls)) = served_at p d limits drawn r s left low calls calls.n refl calls.way
served_amid p d limits drawn r s left size low (inr (inr passing)) = absurd (passing_no p d limits drawn r s left low passing passing.goes.comes.n refl passing.goes.comes.way)

pub is_served_there : (p : Program) (image : Image) (d : Data) (limits : Limits) (drawn : ℕ) (r : PlainRun) (s : State) (left : ℕ) → r.machine.pc < 0x10000 → IsUnderWay p image d limits drawn r s left → IsServedThere p limits drawn r s left
is_served_there p image d limits drawn r s left low under = served_amid p d limits drawn r s left (sized Unchanged p under.tables.is_plain.accepted under.tables.is_plain.size) low under.amid

-- what the entry came to
served_on : (p : Program) (image : Image) (d : Data) (limits : Limits) (drawn : ℕ) (r : PlainRun) (s : State) (left : ℕ) → 21 ≤ left → HasTables p image limits r → IsDefinedFrom p d s → (goes : GoesOn p d limits drawn r s) → (n : ℕ) → goes.comes.n ≡ n → OnWay Unchanged p d (on_stack limits.stack) n (situation r.machine r.board.words.stack) goes.comes.t
    → ((less : ℕ) × (less < left) × (less < 42) × IsUnderWay p image d limits drawn r s less) ⊎ IsPast p image d limits drawn r s
served_on p image d limits drawn r s left many tables defined goes zero is way = inr (record {
  passes = goes.passes;
  s' = goes.s';
  steps = goes.steps;
  ready = record { tables = tables; at = record { names = goes.comes.names; kept = goes.comes.kept; stands = subst (λ (x : Situation). Stands p limits.stack goes.comes.names x goes.s') (sym way) goes.comes.stands }; defined = next_defined p d s goes.s' defined goes.steps };
  drew = goes.drew;
})
served_on p image d limits drawn r s left many tables defined goes (suc m) is way =
    let few = goes.comes.few in
    inl (goes.comes.n, omega arith, omega arith, record { tables = tables; defined = defined; amid = inr (inr (record { goes = goes; some = omega (arith, is); few = omega arith })) })

pub entry_turns : (p : Program) (image : Image) (d : Data) (limits : Limits) (drawn : ℕ) (r new : PlainRun) (s : State) (left : ℕ) → IsUnderWay p image d limits drawn r s left → 21 ≤ left → new.board ≡ r.board → new.code ≡ r.code → new.threads.cells.most ≡ r.threads.cells.most → GoesOn p d limits drawn new s
    → ((less : ℕ) × (less < left) × (less < 42) × IsUnderWay p image d limits drawn new s less) ⊎ IsPast p image d limits drawn new s
entry_turns p image d limits drawn r new s left under many board code most goes =
    let tables : HasTables p image limits new = record {
      is_plain = under.tables.is_plain;
      instructions = ap (λ x. instructions_of x.instructions.items) code ∙ under.tables.instructions;
      begins = ap (λ x. begins_of x.instructions.items) code ∙ under.tables.begins;
      handles = ap (λ x. x.handles.items) code ∙ under.tables.handles;
      most = most ∙ under.tables.most;
      long = ap (λ x. length x.words.stack) board ∙ under.tables.long;
    } in
    served_on p image d limits drawn new s left many tables under.defined goes goes.comes.n refl goes.comes.way

-- ---- the instruction is there

coded_begin : (p : Program) (image : Image) (d : Data) (limits : Limits) (drawn : ℕ) (names : List Held) (t : Situation) (s : State) → Begins p image d limits drawn names t s → (ins : Ins) × (code_at Unchanged p t.state.pc ≡ Some ins)
coded_begin p image d limits drawn names t s (inl led) = (led.1.1.ins, led.1.1.there)
coded_begin p image d limits drawn names t s (inr stopping) = (stopping.ins, stopping.there)

coded_way : (p : Program) (d : Data) (stack n : ℕ) (t u : Situation) → 1 ≤ n → OnWay Unchanged p d (on_stack stack) n t u → (ins : Ins) × (code_at Unchanged p t.state.pc ≡ Some ins)
coded_way p d stack zero t u some way = absurd (omega (arith, some))
coded_way p d stack (suc n) t u some way = (way.1.1.ins, way.1.1.there)

coded_call : (p : Program) (image : Image) (d : Data) (limits : Limits) (drawn : ℕ) (r : PlainRun) (s : State) (left : ℕ) → IsAccepted p → 0x10000 ≤ r.machine.pc → (calls : Calls p d limits drawn r s left) → (n : ℕ) → calls.n ≡ n → OnWay Unchanged p d (on_stack limits.stack) n (situation r.machine r.board.words.stack) calls.t → (ins : Ins) × (code_at Unchanged p r.machine.pc ≡ Some ins)
coded_call p image d limits drawn r s left accepted high calls zero is way =
    absurd (let low = entry_low p limits.stack calls.names (situation r.machine r.board.words.stack) s accepted (subst (λ (x : Situation). AtCall p limits.stack calls.names x s ⊎ AtEnd p limits.stack calls.names x s) (sym way) calls.at) in omega (arith, low, high))
coded_call p image d limits drawn r s left accepted high calls (suc m) is way = coded_way p d limits.stack (suc m) (situation r.machine r.board.words.stack) calls.t (omega arith) way

coded_amid : (p : Program) (image : Image) (d : Data) (limits : Limits) (drawn : ℕ) (r : PlainRun) (s : State) (left : ℕ) → HasTables p image limits r → IsDefinedFrom p d s → 0x10000 ≤ r.machine.pc → IsAmid p d limits drawn r s left → (ins : Ins) × (code_at Unchanged p r.machine.pc ≡ Some ins)
coded_amid p image d limits drawn r s left tables defined high (inl begins) =
    coded_begin p image d limits drawn begins.2.names (situation r.machine r.board.words.stack) s
    (item_begins p image d limits drawn begins.2.names (situation r.machine r.board.words.stack) s tables.is_plain limits.stack_most limits.stack_multiple begins.2.stands (first_defined p d s defined))
coded_amid p image d limits drawn r s left tables defined high (inr (inl calls)) = coded_call p image d limits drawn r s left tables.is_plain.accepted high calls calls.n refl calls.way
coded_amid p image d limits drawn r s left tables defined high (inr (inr passing)) = coded_way p d limits.stack passing.goes.comes.n (situation r.machine r.board.words.stack) passing.goes.comes.t passing.some passing.goes.comes.way

read_code : (p : Program) (pc : ℕ) (ins : Ins) → 0x10000 ≤ pc → code_at Unchanged p pc ≡ Some ins → slice_get (code_of Unchanged p) (word_index pc) ≡ Some ins
read_code p pc ins high there = ap (λ (b : Bool). if b then None else slice_get (code_of Unchanged p) (word_index pc)) (sym (le-ltb pc code_start high)) ∙ there

-- an instruction stands at the pc
pub is_coded : (p : Program) (image : Image) (d : Data) (limits : Limits) (drawn : ℕ) (r : PlainRun) (s : State) (left : ℕ) → 0x10000 ≤ r.machine.pc → IsUnderWay p image d limits drawn r s left → (ins : Ins) × (slice_get (instructions_of r.code.instructions.items) (word_index r.machine.pc) ≡ Some ins)
is_coded p image d limits drawn r s left high under =
    let found = coded_amid p image d limits drawn r s left under.tables under.defined high under.amid in
    (found.0, ap (λ (xs : List Ins). slice_get xs (word_index r.machine.pc)) under.tables.instructions ∙ read_code p r.machine.pc found.0 high found.1)

pub code_inside : (image : Image) (d : Data) (r : PlainRun) → 0x10000 ≤ r.machine.pc → ∥ ((p : Program) × (limits : Limits) × (drawn : ℕ) × (s : State) × (left : ℕ) × IsUnderWay p image d limits drawn r s left) ∥₁ → word_index r.machine.pc < length (instructions_of r.code.instructions.items)
code_inside image d r high amid = ∥∥₁_elim amid le_prop (λ x. let there = is_coded x.0 image d x.1 x.2 r x.3 x.4 high x.5 in slice_get_within (instructions_of r.code.instructions.items) (word_index r.machine.pc) there.0 there.1)

-- there are as many lines
lines-length : (p : Program) (image : Image) → IsPlainImage p image → length image.lines ≡ length (code_of Unchanged p)
lines-length p image pi = ap length pi.is_image.lines ∙ length-map (program_words Unchanged p) (λ w. w.line) ∙ program-length Unchanged p ∙ sym (code-length Unchanged p)

pub line_inside : (image : Image) (d : Data) (r : PlainRun) → 0x10000 ≤ r.machine.pc → ∥ ((p : Program) × (limits : Limits) × (drawn : ℕ) × (s : State) × (left : ℕ) × IsUnderWay p image d limits drawn r s left) ∥₁ → word_index r.machine.pc < length image.lines
line_inside image d r high amid =
    ∥∥₁_elim amid le_prop (λ x.
    let inside = code_inside image d r high amid in
    let tables = x.5.tables in
    let lines = lines-length x.0 image tables.is_plain in
    let codes = ap length tables.instructions in
    omega (arith, inside, lines, codes))

pub beginning_inside : (p : Program) (image : Image) (d : Data) (limits : Limits) (drawn : ℕ) (r : PlainRun) (s : State) (left : ℕ) → 0x10000 ≤ r.machine.pc → IsUnderWay p image d limits drawn r s left → word_index r.machine.pc < length image.begins
beginning_inside p image d limits drawn r s left high under =
    let there = is_coded p image d limits drawn r s left high under in
    let inside = slice_get_within (instructions_of r.code.instructions.items) (word_index r.machine.pc) there.0 there.1 in
    let begins = begins_length Unchanged p image under.tables.is_plain in
    let codes = ap length under.tables.instructions in
    omega (arith, inside, begins, codes)

-- ---- bounds

t_prop : (b : Bool) → IsProp (T b)
t_prop true = λ x y. refl
t_prop false = λ x y. absurd x

bounded_prop : (i : Ins) → IsProp (IsBounded i)
bounded_prop i = λ x y. λ k. record { le = t_prop _ x.le y.le k }

coded_bounded : (p : Program) (image : Image) (pc : ℕ) (ins : Ins) → IsPlainImage p image → 0x10000 ≤ pc → code_at Unchanged p pc ≡ Some ins → IsBounded ins
coded_bounded p image pc ins pi high there =
    let same : word_index (0x10000 + 4 * word_index pc) ≡ word_index pc = omega arith in
    let again = ap (λ (k : ℕ). slice_get (code_of Unchanged p) k) same ∙ read_code p pc ins high there in
    let fetched = fetched_at Unchanged p image (0x10000 + 4 * word_index pc) (word_index pc) ins pi refl (code_there p (0x10000 + 4 * word_index pc) ins (code_of Unchanged p) refl (omega arith) again) in
    bounded_some fetched.word (Some ins) fetched.row

-- the instruction at the pc
pub code_bounded : (image : Image) (d : Data) (r : PlainRun) (ins : Ins) → 0x10000 ≤ r.machine.pc → ∥ ((p : Program) × (limits : Limits) × (drawn : ℕ) × (s : State) × (left : ℕ) × IsUnderWay p image d limits drawn r s left) ∥₁ → slice_get (instructions_of r.code.instructions.items) (word_index r.machine.pc) ≡ Some ins → IsBounded ins
code_bounded image d r ins high amid there = ∥∥₁_elim amid (bounded_prop ins) (λ x. coded_bounded x.0 image r.machine.pc ins x.5.tables.is_plain high (code_there x.0 r.machine.pc ins (instructions_of r.code.instructions.items) x.5.tables.instructions high there))

-- what it speaks of
made_within : (p : Program) (d : Data) (stack n : ℕ) (t u : Situation) (ins : Ins) → n ≡ stack / 8 → Makes Unchanged p d (on_stack stack) t u → code_at Unchanged p t.state.pc ≡ Some ins → SpeaksWithin n (move_of d t.state ins)
made_within p d stack n t u ins long makes there =
    speaks_within n t u (move_of d t.state ins) (subst (λ (k : ℕ). moved (λ q. nat_lt q k) t (move_of d t.state ins) ≡ Some u) (sym long) (made_by p d stack t u ins makes there))

way_within : (p : Program) (d : Data) (stack count n : ℕ) (t u : Situation) (ins : Ins) → count ≡ stack / 8 → 1 ≤ n → OnWay Unchanged p d (on_stack stack) n t u → code_at Unchanged p t.state.pc ≡ Some ins → SpeaksWithin count (move_of d t.state ins)
way_within p d stack count zero t u ins long some way there = absurd (omega (arith, some))
way_within p d stack count (suc n) t u ins long some way there = made_within p d stack count t way.1.0 ins long way.1.1 there

begin_within : (p : Program) (image : Image) (d : Data) (limits : Limits) (drawn : ℕ) (names : List Held) (t : Situation) (s : State) (count : ℕ) (ins : Ins) → count ≡ limits.stack / 8 → Begins p image d limits drawn names t s → code_at Unchanged p t.state.pc ≡ Some ins → SpeaksWithin count (move_of d t.state ins)
begin_within p image d limits drawn names t s count ins long (inl led) there = made_within p d limits.stack count t led.1.0 ins long led.1.1 there
begin_within p image d limits drawn names t s count ins long (inr stopping) there =
    let same : stopping.ins ≡ ins = (let e = stopping.there in cc) in
    subst (SpeaksWithin count) (sym (subst (λ (i : Ins). move_of d t.state i ≡ Stops stopping.end) same stopping.halts)) tt

call_within : (p : Program) (d : Data) (limits : Limits) (drawn : ℕ) (r : PlainRun) (s : State) (left count : ℕ) (ins : Ins) → IsAccepted p → count ≡ limits.stack / 8 → 0x10000 ≤ r.machine.pc → (calls : Calls p d limits drawn r s left) → (n : ℕ) → calls.n ≡ n → OnWay Unchanged p d (on_stack limits.stack) n (situation r.machine r.board.words.stack) calls.t → code_at Unchanged p r.machine.pc ≡ Some ins → SpeaksWithin count (move_of d r.machine ins)
call_within p d limits drawn r s left count ins accepted long high calls zero is way there =
    absurd (let low = entry_low p limits.stack calls.names (situation r.machine r.board.words.stack) s accepted (subst (λ (x : Situation). AtCall p limits.stack calls.names x s ⊎ AtEnd p limits.stack calls.names x s) (sym way) calls.at) in omega (arith, low, high))
call_within p d limits drawn r s left count ins accepted long high calls (suc m) is way there = way_within p d limits.stack count (suc m) (situation r.machine r.board.words.stack) calls.t ins long (omega arith) way there

amid_within : (p : Program) (image : Image) (d : Data) (limits : Limits) (drawn : ℕ) (r : PlainRun) (s : State) (left : ℕ) (ins : Ins) → HasTables p image limits r → IsDefinedFrom p d s → 0x10000 ≤ r.machine.pc → IsAmid p d limits drawn r s left → code_at Unchanged p r.machine.pc ≡ Some ins → SpeaksWithin (length r.board.words.stack) (move_of d r.machine ins)
amid_within p image d limits drawn r s left ins tables defined high (inl begins) there =
    begin_within p image d limits drawn begins.2.names (situation r.machine r.board.words.stack) s (length r.board.words.stack) ins tables.long
    (item_begins p image d limits drawn begins.2.names (situation r.machine r.board.words.stack) s tables.is_plain limits.stack_most limits.stack_multiple begins.2.stands (first_defined p d s defined))
    there
amid_within p image d limits drawn r s left ins tables defined high (inr (inl calls)) there = call_within p d limits drawn r s left (length r.board.words.stack) ins tables.is_plain.accepted tables.long high calls calls.n refl calls.way there
amid_within p image d limits drawn r s left ins tables defined high (inr (inr passing)) there = way_within p d limits.stack (length r.board.words.stack) passing.goes.comes.n (situation r.machine r.board.words.stack) passing.goes.comes.t ins tables.long passing.some passing.goes.comes.way there

pub code_within : (image : Image) (d : Data) (r : PlainRun) (ins : Ins) → 0x10000 ≤ r.machine.pc → ∥ ((p : Program) × (limits : Limits) × (drawn : ℕ) × (s : State) × (left : ℕ) × IsUnderWay p image d limits drawn r s left) ∥₁ → slice_get (instructions_of r.code.instructions.items) (word_index r.machine.pc) ≡ Some ins → SpeaksWithin (length r.board.words.stack) (move_of d r.machine ins)
code_within image d r ins high amid there =
    ∥∥₁_elim amid (speaks_prop (length r.board.words.stack) (move_of d r.machine ins)) (λ x.
    amid_within x.0 image d x.1 x.2 r x.3 x.4 ins x.5.tables x.5.defined high x.5.amid (code_there x.0 r.machine.pc ins (instructions_of r.code.instructions.items) x.5.tables.instructions high there))
