-- A run of unchanged code over the crate of items: what is older than an activation on the run's one stack is a context of that crate (Stacked), which
-- sees no change below it (stacked_sees). Where a run stands, its newest activation is a body of that crate (body_of), or one that is entered (entered_of),
-- with what is older as its context (OlderThan); and a body or an activation that is entered, over that context, is where a run stands (stands_at,
-- stands_entered).
use Rattle.std.proofs.Common.{◌≡◌, inl, ℕ, zero, suc, ◌+◌, ◌%◌, ◌<◌, ◌≤◌, List, [], ◌∷◌, refl, ap, sym, ◌∙◌, subst, arith}
use Rattle.st_base.specs.declared.reg.Reg.TheVariants as registers
use Rattle.st_base.specs.declared.thread.Activation.{Activation}
use Rattle.st_base.specs.declared.thread.Held.{Held}
use Rattle.st_model.specs.declared.code.Layout.TheVariants.{Unchanged}
use Rattle.st_model.specs.declared.ordinary.State.{State}
use Rattle.st_model.specs.declared.ordinary.Tally.{Tally}
use Rattle.st_model.specs.declared.program.Item.{Item}
use Rattle.st_model.specs.declared.program.ItemKind.TheVariants as items
use Rattle.st_model.specs.declared.program.Program.{Program}
use Rattle.st_model.specs.declared.program.ProgramFunction.{ProgramFunction}
use Rattle.st_model.specs.Accepted.{IsAccepted, IsPrologue, HasFrame}
use Rattle.st_model.specs.Layout.{saved_of}
use Rattle.st_step.specs.Frames.{value_in, with_saved_values}
use Rattle.st_step.specs.Moves.{register}
use Rattle.st_step.specs.Runs.{Situation, return_word, caller_word}
use Rattle.st_items.specs.Body.{Ends, IsOn, Context, SeesOutside, IsFramed, IsInBody, IsAtLine, StandsAt}
use Rattle.st_items.specs.Called.{Calling, AtEntry}
use Rattle.st_items.specs.Code.{HasItem, IsSized}
use Rattle.st_items.specs.Entered.{IsEntered}
use Rattle.st_items.proofs.ItemCode.{formed_of}
use Rattle.st_items.proofs.Returning.{calling_sees}
use Rattle.st_plain.specs.Frames.{by_place, HasSlots, HasParent, parents_below, Below}
use Rattle.st_plain.specs.Standing.{stack_start, on_stack, IsMachine, HasFrames, StandsIn, Stands, AtCall}
use Rattle.st_plain.proofs.FrameSums.{below_sum, below_multiple, holds_frame}

-- ---- what is older

-- the activations of one stack whose frames begin at `low`
abbrev pub Stacked : Program → ℕ → List Held → ℕ → List Activation → List Tally → Context
Stacked p stack names low older parents kind kept word value fp ret = Below p names word (stack_start + stack) value low fp ret kind kept older parents

-- they see no change of the words of a frame below them
pub stacked_sees : (p : Program) (stack : ℕ) (names : List Held) (low bottom base : ℕ) (older : List Activation) (parents : List Tally) → IsAccepted p → stack_start ≤ low → base ≤ low → SeesOutside (Stacked p stack names low older parents) bottom base
stacked_sees p stack names low bottom base [] parents accepted above under kind kept word word' value value' fp ret outside same below = below
stacked_sees p stack names low bottom base (a ∷ older) parents accepted above under kind kept word word' value value' fp ret outside same (function, caller, has_parent, below) =
    let fp_is = caller.base in
    let rest = stacked_sees p stack names fp bottom base older (parents_below kind parents) accepted (omega arith) (omega arith) in
    let seen = calling_sees Unchanged p (by_place names) (Stacked p stack names fp older (parents_below kind parents)) low function a bottom base accepted (record { above = above; apart = inl under; sees = rest }) kind kept word word' value value' fp ret outside same (caller, below) in
    (function, seen.0, has_parent, seen.1)

-- ---- the machine

-- the ends of a machine's stack, sp and gp
abbrev pub ends_at : Situation → Ends
ends_at t = record { lo = t.state.lo; hi = t.state.hi; sp = register t.state registers.Sp; gp = register t.state registers.Gp }

-- they are those of a stack of so many bytes
pub record AreEnds (stack : ℕ) (ends : Ends) : Type 0 where
  pub lo : ends.lo ≡ stack_start
  pub hi : ends.hi ≡ stack_start + stack
  pub above : stack_start ≤ ends.sp

pub are_ends : (stack : ℕ) (t : Situation) → IsMachine stack t → AreEnds stack (ends_at t)
are_ends stack t machine = record { lo = machine.lo; hi = machine.hi; above = machine.above }

pub on_ends : (stack : ℕ) (t : Situation) → IsMachine stack t → IsOn (ends_at t) t
on_ends stack t machine = record { has_registers = machine.has_registers; values = machine.values; words = machine.words; lo = refl; hi = refl; sp = refl; gp = refl }

pub machine_on : (stack : ℕ) (ends : Ends) (u : Situation) → AreEnds stack ends → IsOn ends u → IsMachine stack u
machine_on stack ends u are on = record {
  has_registers = on.has_registers;
  values = on.values;
  words = on.words;
  lo = on.lo ∙ are.lo;
  hi = on.hi ∙ are.hi;
  above = subst (λ (n : ℕ). stack_start ≤ n) (sym on.sp) are.above;
}

-- ---- behind a prologue

framed_of : (p : Program) (stack : ℕ) (names : List Held) (t : Situation) (s : State) (function : ProgramFunction) (next : ℕ) → 0 < next → HasFrames p stack names t function s next
    → IsFramed (by_place names) (Stacked p stack names (register t.state registers.S0) s.rest.older s.rest.parents) t.word (value_in t.state) (register t.state registers.Sp) (register t.state registers.S0) function s.top
framed_of p stack names t s function zero some frames = absurd (omega arith)
framed_of p stack names t s function (suc next) some frames = record { base = frames.0; slots = frames.1; below = frames.2 }

pub frames_of : (p : Program) (stack : ℕ) (names : List Held) (u : Situation) (s : State) (function : ProgramFunction) (bottom low next : ℕ) → 0 < next → bottom ≡ register u.state registers.Sp → low ≡ register u.state registers.S0
    → IsFramed (by_place names) (Stacked p stack names low s.rest.older s.rest.parents) u.word (value_in u.state) bottom (register u.state registers.S0) function s.top → HasFrames p stack names u function s next
frames_of p stack names u s function bottom low zero some sp_is fp_is framed = absurd (omega arith)
frames_of p stack names u s function bottom low (suc next) some sp_is fp_is framed =
    let b = register u.state registers.S0 in (
      framed.base ∙ ap (λ (n : ℕ). n + function.frame_bytes) sp_is,
      subst (λ (n : ℕ). HasSlots names function s.top u.word n) sp_is framed.slots,
      subst (λ (n : ℕ). Below p names u.word (stack_start + stack) (with_saved_values u.word b 0 (saved_of function) (value_in u.state)) n (u.word (caller_word b)) (u.word (return_word b)) s.top.kind s.top.kept s.rest.older s.rest.parents) fp_is framed.below,
    )

-- what is older than the newest activation of a run, where it has its frame
abbrev pub OlderThan : Program → ℕ → List Held → Situation → State → Context
OlderThan p stack names t s = Stacked p stack names (register t.state registers.S0) s.rest.older s.rest.parents

module _ (p : Program) (stack : ℕ) (names : List Held) (t : Situation) (s : State) where
  pub body_of : (stands : StandsIn p stack names t s) → 0 < s.top.next → IsInBody p (by_place names) (OlderThan p stack names t s) (ends_at t) (register t.state registers.Sp) t s.top s.registers stands.function
  body_of stands some = record {
    here = stands.here;
    machine = on_ends stack t stands.machine;
    file = stands.file;
    frameless = stands.frameless;
    framed = framed_of p stack names t s stands.function s.top.next some stands.frames;
  }

  pub older_sees : IsAccepted p → (stands : StandsIn p stack names t s) → 0 < s.top.next → SeesOutside (OlderThan p stack names t s) (register t.state registers.Sp) (register t.state registers.Sp + stands.function.frame_bytes)
  older_sees accepted stands some =
      let framed = framed_of p stack names t s stands.function s.top.next some stands.frames in
      let base = framed.base in
      let above = stands.machine.above in
      stacked_sees p stack names (register t.state registers.S0) (register t.state registers.Sp) (register t.state registers.Sp + stands.function.frame_bytes) s.rest.older s.rest.parents accepted (omega arith) (omega arith)

  -- at an item behind the prologue
  pub at_line : (item : Item) → IsAccepted p → IsSized Unchanged p → stack ≤ 1048576 → stack % 16 ≡ 0 → (stands : Stands p stack names t s) → 0 < s.top.next → HasItem p s.top.function stands.stands.function s.top.next item
      → IsAtLine Unchanged p (on_stack stack) (by_place names) (OlderThan p stack names t s) (ends_at t) (register t.state registers.Sp) t s.top s.registers stands.stands.function item
  at_line item accepted size few multiple stands some has =
      let st = stands.stands in
      let function = st.function in
      let b = register t.state registers.S0 in
      let value = with_saved_values t.word b 0 (saved_of function) (value_in t.state) in
      let body = body_of st some in
      let base = body.framed.base in
      let high : (stack_start + stack) % 16 ≡ 0 = omega arith in
      let sum = below_sum p names t.word (stack_start + stack) value b (t.word (caller_word b)) (t.word (return_word b)) s.top.kind s.top.kept s.rest.older s.rest.parents body.framed.below in
      let even = below_multiple p names t.word (stack_start + stack) value b (t.word (caller_word b)) (t.word (return_word b)) s.top.kind s.top.kept s.rest.older s.rest.parents accepted high body.framed.below in
      let frame : HasFrame function = (formed_of p s.top.function function accepted st.here).frame in
      let bytes = frame.multiple in
      let to : register t.state registers.Sp + function.frame_bytes ≤ stack_start + stack = omega arith in
      record {
        accepted = accepted;
        size = size;
        has = has;
        body = body;
        frame = record { above = st.machine.above; multiple = omega arith; high = omega arith; holds = holds_frame stack function.frame_bytes (register t.state registers.Sp + function.frame_bytes) to };
        sees = older_sees accepted st some;
        at = stands.at;
        whole = stands.whole;
      }

  -- at an entry that an item has called
  pub at_entry : (at : AtCall p stack names t s) → 0 < s.top.next → AtEntry Unchanged p (by_place names) (OlderThan p stack names t s) (ends_at t) (register t.state registers.Sp) t s.top s.registers at.stands.function t.state.pc
  at_entry at some = record { body = body_of at.stands some; at = refl; back = at.back; whole = at.whole }

-- a body over the activations of one stack, of which the frame lies at sp and ends where theirs begin
abbrev pub stands_in : (p : Program) (stack : ℕ) (names : List Held) (ends : Ends) (bottom low : ℕ) (u : Situation) (s : State) (function : ProgramFunction) → AreEnds stack ends → ends.sp ≡ bottom → low ≡ bottom + function.frame_bytes → 0 < s.top.next
    → IsInBody p (by_place names) (Stacked p stack names low s.rest.older s.rest.parents) ends bottom u s.top s.registers function → StandsIn p stack names u s
stands_in p stack names ends bottom low u s function are lies low_is some body = record {
  function = function;
  here = body.here;
  machine = machine_on stack ends u are body.machine;
  file = body.file;
  frameless = body.frameless;
  frames = frames_of p stack names u s function bottom low s.top.next some (sym (body.machine.sp ∙ lies)) (low_is ∙ sym body.framed.base) body.framed;
}

-- that stands at an item
pub stands_at : (p : Program) (stack : ℕ) (names : List Held) (ends : Ends) (bottom low : ℕ) (u : Situation) (s : State) (function : ProgramFunction) (older : List Activation) (parents : List Tally) → AreEnds stack ends → ends.sp ≡ bottom → low ≡ bottom + function.frame_bytes → older ≡ s.rest.older → parents ≡ s.rest.parents
    → StandsAt Unchanged p (by_place names) (Stacked p stack names low older parents) ends bottom u s.top s.registers function → Stands p stack names u s
stands_at p stack names ends bottom low u s function older parents are lies low_is older_is parents_are at =
    let at_older = subst (λ (l : List Activation). StandsAt Unchanged p (by_place names) (Stacked p stack names low l parents) ends bottom u s.top s.registers function) older_is at in
    let at_both = subst (λ (ts : List Tally). StandsAt Unchanged p (by_place names) (Stacked p stack names low s.rest.older ts) ends bottom u s.top s.registers function) parents_are at_older in
    record { stands = stands_in p stack names ends bottom low u s function are lies low_is at_both.begun at_both.body; at = at_both.at; whole = at_both.whole }

-- ---- before a prologue

pub entered_of : (p : Program) (stack : ℕ) (names : List Held) (t : Situation) (s : State) (item : Item) → IsAccepted p → IsSized Unchanged p → (stands : Stands p stack names t s) → HasItem p s.top.function stands.stands.function s.top.next item → item.kind ≡ items.Prologue
    → IsEntered Unchanged p (by_place names) (Stacked p stack names (register t.state registers.Sp) s.rest.older s.rest.parents) (ends_at t) t s.top s.registers stands.stands.function item
entered_of p stack names t s item accepted size stands has kind =
    let st = stands.stands in
    let first = (formed_of p s.top.function st.function accepted st.here).once s.top.next item has.placed (subst IsPrologue (sym kind) tt) in
    let frames : HasFrames p stack names t st.function s 0 = subst (λ (n : ℕ). HasFrames p stack names t st.function s n) first st.frames in
    record {
      accepted = accepted;
      size = size;
      first = first;
      has = has;
      kind = kind;
      machine = on_ends stack t st.machine;
      holding = st.file;
      frameless = st.frameless;
      bytes = frames.0;
      handles = frames.1;
      below = frames.2;
      at = stands.at;
      whole = stands.whole;
    }

-- an activation that another one has called, whose frame lies at sp
pub stands_entered : (p : Program) (stack : ℕ) (names : List Held) (ends : Ends) (bottom low : ℕ) (u : Situation) (s : State) (function callee : ProgramFunction) (a : Activation) (older : List Activation) (parents : List Tally) (first : Item) → AreEnds stack ends → ends.sp ≡ bottom → low ≡ bottom + function.frame_bytes
    → s.rest.older ≡ a ∷ older → HasParent s.top.kind s.rest.parents → parents ≡ parents_below s.top.kind s.rest.parents
    → IsEntered Unchanged p (by_place names) (Calling Unchanged p (by_place names) (Stacked p stack names low older parents) bottom function a) ends u s.top s.registers callee first → Stands p stack names u s
stands_entered p stack names ends bottom low u s function callee a older parents first are lies low_is older_is has_parent parents_are entered =
    let (caller, below) = entered.below in
    let b = register u.state registers.S0 in
    let sp_is : bottom ≡ register u.state registers.Sp = sym (entered.machine.sp ∙ lies) in
    let fp_is : low ≡ b = low_is ∙ sym caller.base in
    let under =
    subst (λ (n : ℕ). Below p names u.word (stack_start + stack) (with_saved_values u.word b 0 (saved_of function) (value_in u.state)) n (u.word (caller_word b)) (u.word (return_word b)) a.kind a.kept older (parents_below s.top.kind s.rest.parents)) fp_is
    (subst (λ (ts : List Tally). Below p names u.word (stack_start + stack) (with_saved_values u.word b 0 (saved_of function) (value_in u.state)) low (u.word (caller_word b)) (u.word (return_word b)) a.kind a.kept older ts) parents_are below) in
    let all : Below p names u.word (stack_start + stack) (value_in u.state) bottom b (register u.state registers.Ra) s.top.kind s.top.kept (a ∷ older) s.rest.parents = (function, caller, has_parent, under) in
    let at_sp =
    subst (λ (n : ℕ). Below p names u.word (stack_start + stack) (value_in u.state) n b (register u.state registers.Ra) s.top.kind s.top.kept s.rest.older s.rest.parents) sp_is
    (subst (λ (l : List Activation). Below p names u.word (stack_start + stack) (value_in u.state) bottom b (register u.state registers.Ra) s.top.kind s.top.kept l s.rest.parents) (sym older_is) all) in
    record {
      stands = record {
        function = callee;
        here = entered.has.named;
        machine = machine_on stack ends u are entered.machine;
        file = entered.holding;
        frameless = entered.frameless;
        frames = subst (λ (n : ℕ). HasFrames p stack names u callee s n) (sym entered.first) (entered.bytes, entered.handles, at_sp);
      };
      at = entered.at;
      whole = entered.whole;
    }
