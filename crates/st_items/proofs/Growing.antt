-- Names grow, and contexts widen: what stands under a naming and a context stands under a naming that knows more, and a context that says less. Read
-- held_grows (a register or a slot), files_grow, slots_grow, caller_grows, calling_grows (contexts of callers), body_grows, stands_grows and
-- entered_grows; and left_as, for an activation that has left, of which what is older may be said otherwise at the one place where it stands.
use Rattle.std.proofs.Common.{ℕ}
use Rattle.st_base.specs.declared.reg.Reg.TheVariants as registers
use Rattle.st_base.specs.declared.thread.Held.{Held}
use Rattle.st_base.specs.declared.thread.Held.TheVariants.{Number, Future, Counter}
use Rattle.st_base.specs.declared.thread.Activation.{Activation}
use Rattle.st_base.specs.declared.thread.ActivationKind.{ActivationKind}
use Rattle.st_model.specs.declared.code.Layout.{Layout}
use Rattle.st_model.specs.declared.program.Item.{Item}
use Rattle.st_model.specs.declared.program.Program.{Program}
use Rattle.st_model.specs.declared.program.ProgramFunction.{ProgramFunction}
use Rattle.st_model.specs.Effect.{File}
use Rattle.st_model.specs.Layout.{saved_of}
use Rattle.st_step.specs.Moves.{register}
use Rattle.st_step.specs.Runs.{Situation, return_word, caller_word}
use Rattle.st_step.specs.Frames.{Naming, IsHeldAs, value_in, HasFile, HasSlots, IsCaller, with_saved_values}
use Rattle.st_items.specs.Body.{Ends, Context, Grows, Widens, IsFramed, IsInBody, StandsAt}
use Rattle.st_items.specs.Entered.{IsEntered}
use Rattle.st_items.specs.Left.{Left}
use Rattle.st_items.specs.Called.{Calling}

module _ (names names' : Naming) (grows : Grows names names') where
  pub held_grows : (held : Held) (n : ℕ) → IsHeldAs names held n → IsHeldAs names' held n
  held_grows (Number k) n is = is
  held_grows (Future path) n is = grows (Future path) n is
  held_grows (Counter maker k) n is = grows (Counter maker k) n is

  pub files_grow : (file : File) (value : ℕ → ℕ) → HasFile names file value → HasFile names' file value
  files_grow file value has x held there = held_grows held (value x) (has x held there)

  pub slots_grow : (function : ProgramFunction) (a : Activation) (word : ℕ → ℕ) (low : ℕ) → HasSlots names function a word low → HasSlots names' function a word low
  slots_grow function a word low slots = record {
    bytes_long = slots.bytes_long;
    handles_long = slots.handles_long;
    bytes = slots.bytes;
    handles = λ k held few there. held_grows held _ (slots.handles k held few there);
  }

  pub caller_grows : (layout : Layout) (p : Program) (word value : ℕ → ℕ) (low fp ret : ℕ) (kind : ActivationKind) (kept : File) (a : Activation) (function : ProgramFunction) → IsCaller layout p names word value low fp ret kind kept a function → IsCaller layout p names' word value low fp ret kind kept a function
  caller_grows layout p word value low fp ret kind kept a function caller = record {
    here = caller.here;
    begun = caller.begun;
    base = caller.base;
    back = caller.back;
    file = files_grow kept value caller.file;
    long = caller.long;
    holds = caller.holds;
    slots = slots_grow function a word low caller.slots;
  }

  module _ (older older' : Context) (widens : Widens older older') where
    framed_grows : (word value : ℕ → ℕ) (bottom fp : ℕ) (function : ProgramFunction) (a : Activation) → IsFramed names older word value bottom fp function a → IsFramed names' older' word value bottom fp function a
    framed_grows word value bottom fp function a framed = record {
      base = framed.base;
      slots = slots_grow function a word bottom framed.slots;
      below = widens a.kind a.kept word (with_saved_values word fp 0 (saved_of function) value) (word (caller_word fp)) (word (return_word fp)) framed.below;
    }

    pub body_grows : (p : Program) (ends : Ends) (bottom : ℕ) (t : Situation) (top : Activation) (file : File) (function : ProgramFunction) → IsInBody p names older ends bottom t top file function → IsInBody p names' older' ends bottom t top file function
    body_grows p ends bottom t top file function body = record {
      here = body.here;
      machine = body.machine;
      file = files_grow file (value_in t.state) body.file;
      frameless = body.frameless;
      framed = framed_grows t.word (value_in t.state) bottom _ function top body.framed;
    }

    pub calling_grows : (layout : Layout) (p : Program) (low : ℕ) (function : ProgramFunction) (a : Activation) → Widens (Calling layout p names older low function a) (Calling layout p names' older' low function a)
    calling_grows layout p low function a kind kept word value fp ret (caller, below) =
        (caller_grows layout p word value low fp ret kind kept a function caller, widens a.kind a.kept word (with_saved_values word fp 0 (saved_of function) value) (word (caller_word fp)) (word (return_word fp)) below)

    pub stands_grows : (layout : Layout) (p : Program) (ends : Ends) (bottom : ℕ) (t : Situation) (top : Activation) (file : File) (function : ProgramFunction) → StandsAt layout p names older ends bottom t top file function → StandsAt layout p names' older' ends bottom t top file function
    stands_grows layout p ends bottom t top file function stands =
        record { body = body_grows p ends bottom t top file function stands.body; begun = stands.begun; at = stands.at; whole = stands.whole }

    pub entered_grows : (layout : Layout) (p : Program) (ends : Ends) (t : Situation) (top : Activation) (file : File) (function : ProgramFunction) (item : Item) → IsEntered layout p names older ends t top file function item → IsEntered layout p names' older' ends t top file function item
    entered_grows layout p ends t top file function item entered = record {
      accepted = entered.accepted;
      size = entered.size;
      first = entered.first;
      has = entered.has;
      kind = entered.kind;
      machine = entered.machine;
      holding = files_grow file (value_in t.state) entered.holding;
      frameless = entered.frameless;
      bytes = entered.bytes;
      handles = entered.handles;
      below = widens top.kind top.kept t.word (value_in t.state) (register t.state registers.S0) (register t.state registers.Ra) entered.below;
      at = entered.at;
      whole = entered.whole;
    }

-- what is older said otherwise, where it stands
pub left_as : (layout : Layout) (older older' : Context) (ends : Ends) (b : ℕ) (t : Situation) (top : Activation) (u : Situation) → Left layout older ends b t top u → older' top.kind top.kept u.word (value_in u.state) (register u.state registers.S0) u.state.pc → Left layout older' ends b t top u
left_as layout older older' ends b t top u left stands = record { how = left.how; machine = left.machine; pc = left.pc; stands = stands; a0 = left.a0; whole = left.whole }
