-- The machine at an item of one line, and what such an item's effect asks (EffectStands): a result in a register (line_result), other
-- slots (line_stored), another item (line_goes_to) or a trap (line_traps); nothing where a number or a name isn't defined (number_cases, name_cases).
use Rattle.std.proofs.Common.{Bool, true, false, ◌≡◌, ℕ, ◌+◌, ◌^◌, ◌<◌, List, Option, Some, None, refl, ap, ◌∙◌, arith}
use Rattle.std.proofs.Math.Nat.{mod-eq_of_lt}
use Rattle.st_base.specs.declared.reg.Reg.{Reg}
use Rattle.st_base.specs.Reg.{reg_number}
use Rattle.st_base.specs.declared.thread.Held.{Held}
use Rattle.st_base.specs.declared.thread.Held.TheVariants.{Number, Future, Counter}
use Rattle.st_base.specs.declared.thread.Activation.{Activation}
use Rattle.st_base.specs.declared.thread.TrapKind.{TrapKind}
use Rattle.st_base.specs.Registers.{read_register, write_register}
use Rattle.st_rv.specs.declared.ins.Ins.{Ins}
use Rattle.st_model.specs.declared.program.Item.{Item}
use Rattle.st_model.specs.declared.program.Program.{Program}
use Rattle.st_model.specs.declared.program.ProgramFunction.{ProgramFunction}
use Rattle.st_model.specs.declared.code.Layout.{Layout}
use Rattle.st_model.specs.declared.effect.Effect.{Effect}
use Rattle.st_model.specs.declared.effect.Effect.TheVariants.{Goes, Traps}
use Rattle.st_model.specs.Accepted.{Fits, MayWrite}
use Rattle.st_model.specs.Effect.{File, int, number_of, name_of, with_number, with_name, within, at_item, goes}
use Rattle.st_model.specs.Layout.{item_size}
use Rattle.st_model.specs.Memory.{Data}
use Rattle.st_step.specs.declared.machine.StepEnd.TheVariants.{Trap}
use Rattle.st_step.specs.declared.state.State.{State as MachineState}
use Rattle.st_step.specs.Moves.{Stops, move_of, register, written, results, at_place, next_pc}
use Rattle.st_step.specs.Runs.{Situation, AreWords, moved}
use Rattle.st_step.proofs.Writes.{pc-written}
use Rattle.st_items.specs.Code.{code_at}
use Rattle.st_step.specs.Frames.{address_in, Naming, IsHeldAs, value_in, HasFile, HasSlots}
use Rattle.st_items.proofs.Addresses.{address_bounds, next_address}
use Rattle.st_items.proofs.Registers.{IsOfBody}
use Rattle.st_items.proofs.Ways.{leads_once}
use Rattle.st_items.proofs.Body.{AgreeOutside, with_slots, body_written, body_stored}
use Rattle.st_items.specs.Body.{Ends, Context, IsAtLine, StandsAt, EffectStands}
use Rattle.st_items.specs.Ways.{Leads}

-- ---- effects

pub goes_there : (layout : Layout) (p : Program) (d : Data) (held : ℕ → Bool) (names : Naming) (older : Context) (ends : Ends) (bottom : ℕ) (t u : Situation) (function : ProgramFunction) (top : Activation) (file : File) → Leads layout p d held t u
    → StandsAt layout p names older ends bottom u top file function → EffectStands layout p d held names older ends bottom t function (Goes top file)
goes_there layout p d held names older ends bottom t u function top file leads stands = (u, leads, stands)

module _ (layout : Layout) (p : Program) (d : Data) (held : ℕ → Bool) (names : Naming) (older : Context) (ends : Ends) (bottom : ℕ) (t : Situation) (top : Activation) (file : File) (function : ProgramFunction) (item : Item) where
  -- nothing is asked where a number or a name isn't defined
  pub number_cases : (o : Option ℕ) (go : ℕ → Effect) → ((n : ℕ) → o ≡ Some n → EffectStands layout p d held names older ends bottom t function (go n)) → EffectStands layout p d held names older ends bottom t function (with_number o go)
  number_cases None go each = tt
  number_cases (Some n) go each = each n refl

  pub name_cases : (o : Option Held) (go : Held → Effect) → ((name : Held) → o ≡ Some name → EffectStands layout p d held names older ends bottom t function (go name)) → EffectStands layout p d held names older ends bottom t function (with_name o go)
  name_cases None go each = tt
  name_cases (Some name) go each = each name refl

  pub within_cases : (b : Bool) (effect : Effect) → (b ≡ true → EffectStands layout p d held names older ends bottom t function effect) → EffectStands layout p d held names older ends bottom t function (within b effect)
  within_cases true effect each = each refl
  within_cases false effect each = tt

  pub line_traps : (i : Ins) (kind : TrapKind) → code_at layout p t.state.pc ≡ Some i → move_of d t.state i ≡ Stops (Trap kind) → EffectStands layout p d held names older ends bottom t function (Traps kind)
  line_traps i kind there stops = (i, there, stops)

module _ (layout : Layout) (p : Program) (d : Data) (held : ℕ → Bool) (names : Naming) (older : Context) (ends : Ends) (bottom : ℕ) (t : Situation) (top : Activation) (file : File) (function : ProgramFunction) (item : Item) (line : IsAtLine layout p held names older ends bottom t top file function item) where
  pub line_fits : Fits p function item.kind
  line_fits = (line.accepted.functions top.function function line.has.named).formed.fits top.next item line.has.placed

  -- the next item of an item of one word
  pub line_low : item_size layout function item.kind ≡ 1 → t.state.pc + 4 < 2 ^ 32
  line_low one =
      let bounds = address_bounds layout p top.function function top.next item line.size line.has in
      let high = bounds.1 in
      let at = line.at in
      omega arith

  pub line_next : item_size layout function item.kind ≡ 1 → next_pc t.state.pc ≡ address_in layout p top.function function (top.next + 1)
  line_next one =
      let next = next_address layout p top.function function top.next item line.has in
      let at = line.at in
      let low = line_low one in
      let same : next_pc t.state.pc ≡ t.state.pc + 4 = mod-eq_of_lt low in
      let further : t.state.pc + 4 ≡ address_in layout p top.function function (top.next + 1) = omega arith in
      same ∙ further

  -- a result in a register
  pub line_result : (i : Ins) (r : Reg) (n : ℕ) (value : Held) → item_size layout function item.kind ≡ 1 → code_at layout p t.state.pc ≡ Some i → moved held t (move_of d t.state i) ≡ Some (record { state = results t.state r n; word = t.word })
      → MayWrite function r → IsOfBody r → IsHeldAs names value n → n < 2 ^ 64 → EffectStands layout p d held names older ends bottom t function (goes top (write_register file r value))
  line_result i r n value one there does may of_body holds less =
      let next = top.next + 1 in
      let pc = next_pc (written t.state r n).pc in
      goes_there layout p d held names older ends bottom t (record { state = results t.state r n; word = t.word }) function (at_item next top) (write_register file r value)
      (leads_once layout p d held t (record { state = results t.state r n; word = t.word }) i there does)
      (record {
        body = body_written p names older ends bottom t top file function r value n pc next line.sees may of_body holds less line.body;
        begun = omega arith;
        at = ap next_pc (pc-written t.state r n) ∙ line_next one;
        whole = refl;
      })

  -- other slots, where the next item follows
  pub line_stored : (word : ℕ → ℕ) (bytes : List (Option ℕ)) (handles : List (Option Held)) → item_size layout function item.kind ≡ 1 → Leads layout p d held t (record { state = at_place (next_pc t.state.pc) t.state; word = word }) → AreWords word
      → AgreeOutside function bottom t.word word → HasSlots names function (with_slots top (top.next + 1) bytes handles) word bottom
      → EffectStands layout p d held names older ends bottom t function (Goes (with_slots top (top.next + 1) bytes handles) file)
  line_stored word bytes handles one leads words agree slots =
      let next = top.next + 1 in
      goes_there layout p d held names older ends bottom t (record { state = at_place (next_pc t.state.pc) t.state; word = word }) function (with_slots top next bytes handles) file leads
      (record {
        body = body_stored p names older ends bottom t top file function (next_pc t.state.pc) next word bytes handles line.accepted line.frame.above line.sees words agree slots line.body;
        begun = omega arith;
        at = line_next one;
        whole = refl;
      })

  -- another item of the activation
  pub line_goes_to : (to pc : ℕ) → 0 < to → pc ≡ address_in layout p top.function function to → Leads layout p d held t (record { state = at_place pc t.state; word = t.word }) → EffectStands layout p d held names older ends bottom t function (Goes (at_item to top) file)
  line_goes_to to pc some there leads =
      goes_there layout p d held names older ends bottom t (record { state = at_place pc t.state; word = t.word }) function (at_item to top) file leads
      (record {
        body = body_stored p names older ends bottom t top file function pc to t.word top.bytes top.handles line.accepted line.frame.above line.sees line.body.machine.words (λ q outside. refl)
            (record { bytes_long = line.body.framed.slots.bytes_long; handles_long = line.body.framed.slots.handles_long; bytes = line.body.framed.slots.bytes; handles = line.body.framed.slots.handles }) line.body;
        begun = some;
        at = there;
        whole = refl;
      })

-- ---- what registers hold

pub number_held : (names : Naming) (file : File) (m : MachineState) (r : Reg) (n : ℕ) → HasFile names file (value_in m) → int file r ≡ Some n → register m r ≡ n
number_held names file m r n has number = by_held (read_register file r) refl number
  where
    by_held : (o : Option Held) → read_register file r ≡ o → number_of o ≡ Some n → register m r ≡ n
    by_held None there number = absurd (let never : ⊥ = cc in never)
    by_held (Some (Number k)) there number = let holds = has (reg_number r) (Number k) there in let same : k ≡ n = cc in holds ∙ same
    by_held (Some (Future path)) there number = absurd (let never : ⊥ = cc in never)
    by_held (Some (Counter maker k)) there number = absurd (let never : ⊥ = cc in never)

-- a name that is defined is what is held
pub name_is : (o : Option Held) (name : Held) → name_of o ≡ Some name → o ≡ Some name
name_is None name same = absurd (let never : ⊥ = cc in never)
name_is (Some (Number k)) name same = absurd (let never : ⊥ = cc in never)
name_is (Some (Future path)) name same = same
name_is (Some (Counter maker k)) name same = same
