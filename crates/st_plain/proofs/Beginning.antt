-- What the first instruction of an item leads to (item_begins): the machine goes on, to the next item or to an entry, or it stops, where
-- the ordinary-call run traps or a frame passes the stack. Read Begins.
use Rattle.std.proofs.Common.{◌≡◌, ◌≢◌, ◌⊎◌, inl, inr, ℕ, ◌+◌, ◌-◌, ◌*◌, ◌%◌, ◌≤◌, nat_lt, Bool, true, false, List, length, Option, Some, None, slice_get, refl, ap, ◌∙◌, sym, subst, arith}
use Rattle.std.proofs.lemmas.Bool.{le-ltb}
use Rattle.st_base.specs.declared.image.Image.{Image}
use Rattle.st_base.specs.declared.line.Line.{Line}
use Rattle.st_base.specs.declared.limits.Limits.{Limits}
use Rattle.st_base.specs.declared.thread.Held.{Held}
use Rattle.st_base.specs.declared.thread.ActivationKind.{ActivationKind}
use Rattle.st_base.specs.declared.thread.ActivationKind.TheVariants.{Called, Forked, Root}
use Rattle.st_rv.specs.declared.ins.Ins.{Ins}
use Rattle.st_model.specs.declared.program.Item.{Item}
use Rattle.st_model.specs.declared.program.ItemKind.{ItemKind}
use Rattle.st_model.specs.declared.program.ItemKind.TheVariants as items
use Rattle.st_model.specs.declared.program.Program.{Program}
use Rattle.st_model.specs.declared.ordinary.OrdEnd.TheVariants as ends
use Rattle.st_model.specs.declared.ordinary.State.{State}
use Rattle.st_model.specs.declared.ordinary.Turn.{Turn}
use Rattle.st_model.specs.declared.ordinary.Turn.TheVariants.{Undefined, Goes, Over}
use Rattle.st_model.specs.Bounded.{past_stack, limit_at, limit_when, overflows}
use Rattle.st_model.specs.Draws.{draws, drawn_by}
use Rattle.st_model.specs.Effect.{IsFirst}
use Rattle.st_model.specs.declared.code.Layout.TheVariants.{Unchanged}
use Rattle.st_model.specs.Memory.{Data}
use Rattle.st_model.specs.Ordinary.{step, step_at, item_at}
use Rattle.st_step.specs.declared.machine.StepEnd.{StepEnd}
use Rattle.st_step.specs.declared.machine.StepEnd.TheVariants as stepped
use Rattle.st_step.specs.Moves.{Stops, move_of}
use Rattle.st_step.specs.Runs.{Situation}
use Rattle.st_plain.specs.Answer.{IsPlainImage}
use Rattle.st_items.specs.Code.{code_at, word_index}
use Rattle.st_step.specs.Frames.{address_in}
use Rattle.st_items.specs.Ways.{Leads}
use Rattle.st_plain.specs.Running.{limit_met}
use Rattle.st_plain.specs.Standing.{Stands, AtCall, AtEnd, on_stack}
use Rattle.st_plain.proofs.Prologues.{prologue_goes, prologue_stops}
use Rattle.st_plain.proofs.Epilogues.{return_goes, ends as thread_ends}
use Rattle.st_plain.proofs.Calls.{call_goes, enters, IsEntering}
use Rattle.st_items.specs.Code.{IsSized}
use Rattle.st_items.proofs.Addresses.{sized}
use Rattle.st_plain.proofs.Lines.{line_goes}
use Rattle.st_items.specs.Body.{IsLine}
use Rattle.st_items.proofs.Tables.{lines_at}
use Rattle.st_plain.proofs.Turning.{TurnGoes}
use Rattle.st_items.proofs.ItemCode.{item_of}
use Rattle.st_plain.proofs.ItemBegins.{has_word}

-- the item needs nothing of the runtime: it passes no limit, draws no cell, and the machine comes to the next one
pub record GoesAlone (p : Program) (d : Data) (limits : Limits) (drawn : ℕ) (names : List Held) (v : Situation) (s : State) : Type 0 where
  pub passes : limit_met p limits drawn s ≡ None
  pub s' : State
  pub steps : step p d s ≡ Goes s'
  pub stands : Stands p limits.stack names v s'
  pub rest : s'.rest ≡ record s.rest { older = s'.rest.older }
  pub draws_none : drawn_by (item_at p s.top) ≡ 0

-- the machine comes to such a situation
abbrev pub Arrives : Program → Data → Limits → ℕ → List Held → Situation → State → Type 0
Arrives p d limits drawn names v s = (AtCall p limits.stack names v s ⊎ AtEnd p limits.stack names v s) ⊎ GoesAlone p d limits drawn names v s

-- the machine stops as the run does
abbrev pub StopsAs : Program → Image → Data → Limits → ℕ → Situation → State → StepEnd → Type 0
StopsAs p image d limits drawn t s (stepped.Trap kind) =
    (limit_met p limits drawn s ≡ None) × ((line : Line) × (slice_get image.lines (word_index t.state.pc) ≡ Some line) × (step p d s ≡ Over (ends.Trap kind line s.rest.thread.path s.rest.out)))
StopsAs p image d limits drawn t s (stepped.StackFull frame) = limit_met p limits drawn s ≡ Some (past_stack frame)
StopsAs p image d limits drawn t s _ = ⊥

pub record Stopping (p : Program) (image : Image) (d : Data) (limits : Limits) (drawn : ℕ) (t : Situation) (s : State) : Type 0 where
  pub ins : Ins
  pub there : code_at Unchanged p t.state.pc ≡ Some ins
  pub end : StepEnd
  pub halts : move_of d t.state ins ≡ Stops end
  pub alike : StopsAs p image d limits drawn t s end

abbrev pub Begins : Program → Image → Data → Limits → ℕ → List Held → Situation → State → Type 0
Begins p image d limits drawn names t s = ((v : Situation) × Leads Unchanged p d (on_stack limits.stack) t v × Arrives p d limits drawn names v s) ⊎ Stopping p image d limits drawn t s

-- ---- limits

none_below : (n : ℕ) → nat_lt n 0 ≡ false
none_below n = le-ltb n 0 (omega arith)

no_limit : (limits : Limits) (cells : ℕ) (s : State) (o : Option Item) (item : Item) → o ≡ Some item → draws item.kind ≡ 0 → overflows limits.stack item.kind s ≡ false → limit_at limits.stack cells s o ≡ None
no_limit limits cells s o item is draw over =
    ap (limit_at limits.stack cells s) is
    ∙ ap (λ (n : ℕ). limit_when (nat_lt cells n) (overflows limits.stack item.kind s) (length s.top.bytes)) draw
    ∙ ap (λ (b : Bool). limit_when b (overflows limits.stack item.kind s) (length s.top.bytes)) (none_below cells)
    ∙ ap (λ (b : Bool). limit_when false b (length s.top.bytes)) over

full_stack : (limits : Limits) (cells : ℕ) (s : State) (o : Option Item) (item : Item) → o ≡ Some item → draws item.kind ≡ 0 → overflows limits.stack item.kind s ≡ true → limit_at limits.stack cells s o ≡ Some (past_stack (length s.top.bytes))
full_stack limits cells s o item is draw over =
    ap (limit_at limits.stack cells s) is
    ∙ ap (λ (n : ℕ). limit_when (nat_lt cells n) (overflows limits.stack item.kind s) (length s.top.bytes)) draw
    ∙ ap (λ (b : Bool). limit_when b (overflows limits.stack item.kind s) (length s.top.bytes)) (none_below cells)
    ∙ ap (λ (b : Bool). limit_when false b (length s.top.bytes)) over

-- ---- items

module _ (p : Program) (image : Image) (d : Data) (limits : Limits) (drawn : ℕ) (names : List Held) (t : Situation) (s : State) (item : Item) (pi : IsPlainImage p image) (stands : Stands p limits.stack names t s) (there : item_at p s.top ≡ Some item) where
  size_is : IsSized Unchanged p
  size_is = sized Unchanged p pi.accepted pi.size

  line_there : slice_get image.lines (word_index t.state.pc) ≡ Some item.line
  line_there =
      let st = stands.stands in
      let has = item_of p s.top st.function item st.here there in
      let first : address_in Unchanged p s.top.function st.function s.top.next + 4 * 0 ≡ t.state.pc = (let at = stands.at in omega (arith, at)) in
      subst (λ (pc : ℕ). slice_get image.lines (word_index pc) ≡ Some item.line) first (lines_at Unchanged p image s.top.function st.function s.top.next item 0 pi has (has_word st.function item.kind))

  -- by the turn of the ordinary-call run
  by_turn : (turn : Turn) → step p d s ≡ turn → turn ≢ Undefined → draws item.kind ≡ 0 → overflows limits.stack item.kind s ≡ false → TurnGoes p d limits.stack names t s item turn → Begins p image d limits drawn names t s
  by_turn Undefined is defined draw over goes = absurd (defined refl)
  by_turn (Goes s') is defined draw over goes =
      inl (
        goes.0,
        goes.1,
        inr (record {
          passes = no_limit limits (limits.cells - drawn) s (item_at p s.top) item there draw over;
          s' = s';
          steps = is;
          stands = goes.2;
          rest = goes.3;
          draws_none = ap drawn_by there ∙ draw;
        }),
      )
  by_turn (Over end) is defined draw over goes =
      inr (record {
        ins = goes.1.0;
        there = goes.1.1;
        end = stepped.Trap goes.0;
        halts = goes.1.2;
        alike = (no_limit limits (limits.cells - drawn) s (item_at p s.top) item there draw over, (item.line, line_there, is ∙ ap Over goes.2));
      })

  alone : step p d s ≢ Undefined → draws item.kind ≡ 0 → overflows limits.stack item.kind s ≡ false → TurnGoes p d limits.stack names t s item (step p d s) → Begins p image d limits drawn names t s
  alone defined draw over goes = by_turn (step p d s) refl defined draw over goes

  prologue_begins : item.kind ≡ items.Prologue → limits.stack ≤ 1048576 → limits.stack % 16 ≡ 0 → step p d s ≢ Undefined → (full : Bool) → overflows limits.stack items.Prologue s ≡ full → Begins p image d limits drawn names t s
  prologue_begins kind few multiple defined false room =
      alone defined (ap draws kind) (ap (λ (k : ItemKind). overflows limits.stack k s) kind ∙ room) (prologue_goes p d limits.stack names t s item pi.accepted size_is few multiple stands there kind room)
  prologue_begins kind few multiple defined true room =
      let stop = prologue_stops p d limits.stack names t s item pi.accepted size_is stands there kind room in
      inr (record {
        ins = stop.0;
        there = stop.1;
        end = stepped.StackFull (length s.top.bytes);
        halts = stop.2;
        alike = full_stack limits (limits.cells - drawn) s (item_at p s.top) item there (ap draws kind) (ap (λ (k : ItemKind). overflows limits.stack k s) kind ∙ room);
      })

  epilogue_begins : item.kind ≡ items.Epilogue → limits.stack ≤ 1048576 → limits.stack % 16 ≡ 0 → step p d s ≢ Undefined → (by : ActivationKind) → s.top.kind ≡ by → Begins p image d limits drawn names t s
  epilogue_begins kind few multiple defined Called by =
      alone defined (ap draws kind) (ap (λ (k : ItemKind). overflows limits.stack k s) kind) (return_goes p d limits.stack names t s item pi.accepted size_is few multiple stands there kind by)
  epilogue_begins kind few multiple defined Forked by =
      let ended = thread_ends p d limits.stack names t s item pi.accepted size_is few multiple stands there kind (subst IsFirst (sym by) tt) defined in
      inl (ended.0, ended.1, inl (inr ended.2))
  epilogue_begins kind few multiple defined Root by =
      let ended = thread_ends p d limits.stack names t s item pi.accepted size_is few multiple stands there kind (subst IsFirst (sym by) tt) defined in
      inl (ended.0, ended.1, inl (inr ended.2))

  call_enters : limits.stack ≤ 1048576 → limits.stack % 16 ≡ 0 → IsEntering item.kind → Begins p image d limits drawn names t s
  call_enters few multiple is = let entered = enters p d limits.stack names t s item pi.accepted size_is few multiple stands there is in inl (entered.0, entered.1, inl (inl entered.2))

  kind_begins : limits.stack ≤ 1048576 → limits.stack % 16 ≡ 0 → step p d s ≢ Undefined → (kind : ItemKind) → item.kind ≡ kind → Begins p image d limits drawn names t s
  kind_begins few multiple defined items.Prologue kind = prologue_begins kind few multiple defined (overflows limits.stack items.Prologue s) refl
  kind_begins few multiple defined items.Epilogue kind = epilogue_begins kind few multiple defined s.top.kind refl
  kind_begins few multiple defined (items.Plain i) kind = alone defined (ap draws kind) (ap (λ (k : ItemKind). overflows limits.stack k s) kind) (line_goes p d limits.stack names t s item pi.accepted size_is stands few multiple there (subst IsLine (sym kind) tt))
  kind_begins few multiple defined (items.Li rd value) kind = alone defined (ap draws kind) (ap (λ (k : ItemKind). overflows limits.stack k s) kind) (line_goes p d limits.stack names t s item pi.accepted size_is stands few multiple there (subst IsLine (sym kind) tt))
  kind_begins few multiple defined (items.Branch op rs1 rs2 to) kind = alone defined (ap draws kind) (ap (λ (k : ItemKind). overflows limits.stack k s) kind) (line_goes p d limits.stack names t s item pi.accepted size_is stands few multiple there (subst IsLine (sym kind) tt))
  kind_begins few multiple defined (items.Jump to) kind = alone defined (ap draws kind) (ap (λ (k : ItemKind). overflows limits.stack k s) kind) (line_goes p d limits.stack names t s item pi.accepted size_is stands few multiple there (subst IsLine (sym kind) tt))
  kind_begins few multiple defined (items.Call g) kind = alone defined (ap draws kind) (ap (λ (k : ItemKind). overflows limits.stack k s) kind) (call_goes p d limits.stack names t s item g pi.accepted size_is few multiple stands there kind)
  kind_begins few multiple defined (items.Entry at) kind = call_enters few multiple (subst IsEntering (sym kind) tt)
  kind_begins few multiple defined (items.Fork g handle) kind = call_enters few multiple (subst IsEntering (sym kind) tt)

no_item : (p : Program) (d : Data) (s : State) → item_at p s.top ≡ None → step p d s ≡ Undefined
unfolding step
no_item p d s none = ap (step_at p d s) none

begins_by : (p : Program) (image : Image) (d : Data) (limits : Limits) (drawn : ℕ) (names : List Held) (t : Situation) (s : State) → IsPlainImage p image → limits.stack ≤ 1048576 → limits.stack % 16 ≡ 0 → Stands p limits.stack names t s → step p d s ≢ Undefined → (o : Option Item) → item_at p s.top ≡ o → Begins p image d limits drawn names t s
begins_by p image d limits drawn names t s pi few multiple stands defined None is = absurd (defined (no_item p d s is))
begins_by p image d limits drawn names t s pi few multiple stands defined (Some item) is = kind_begins p image d limits drawn names t s item pi stands is few multiple defined item.kind refl

pub item_begins : (p : Program) (image : Image) (d : Data) (limits : Limits) (drawn : ℕ) (names : List Held) (t : Situation) (s : State) → IsPlainImage p image → limits.stack ≤ 1048576 → limits.stack % 16 ≡ 0 → Stands p limits.stack names t s → step p d s ≢ Undefined → Begins p image d limits drawn names t s
item_begins p image d limits drawn names t s pi few multiple stands defined = begins_by p image d limits drawn names t s pi few multiple stands defined (item_at p s.top) refl
