-- The machine that goes on with a chain, with the limit of the stack in gp: what is on it is the thread of the chain. Read lands_plain, lands_value and lands_root (it is on the same stack), and came.
use Rattle.std.proofs.Common.{◌≡◌, ◌≢◌, inl, ℕ, false, List, length, Option, None, refl, sym, ap, ◌∙◌, subst, arith}
use Rattle.st_base.specs.declared.chain.Chain.{Chain}
use Rattle.st_base.specs.declared.chain.Frame.{Frame}
use Rattle.st_base.specs.declared.reg.Reg.{Reg}
use Rattle.st_base.specs.declared.reg.Reg.TheVariants as registers
use Rattle.st_base.specs.Reg.{reg_number}
use Rattle.st_base.specs.declared.thread.Held.{Held}
use Rattle.st_words.specs.declared.view.Known.{Known}
use Rattle.st_model.specs.declared.program.Program.{Program}
use Rattle.st_model.specs.Accepted.{IsAccepted}
use Rattle.st_model.specs.Memory.{Data}
use Rattle.st_step.specs.declared.state.State.{State}
use Rattle.st_step.specs.Frames.{value_in, is_kept}
use Rattle.st_step.specs.Moves.{register, written, at_place}
use Rattle.st_step.specs.Runs.{HasRegisters, AreValues, AreWords}
use Rattle.st_step.proofs.Writes.{length-written, lo-written, hi-written, zero-written, pc-written, register-written_same, register-written_other, written-apart, written-written}
use Rattle.st_items.proofs.KeptFiles.{not_kept}
use Rattle.st_items.proofs.SavedRegisters.{value-written_other}
use Rattle.st_chain.specs.Walk.{word_in}
use Rattle.st_chain.specs.Chains.{StandsFor, CanGoOn, saved_value}
use Rattle.st_chain.specs.Logical.{restarted}
use Rattle.st_chain.specs.Seen.{SameKept}
use Rattle.st_chain.proofs.LawsHold.{restarts}
use Rattle.st_chain.proofs.Restarting.{stands_same}
use Rattle.st_moving.specs.Moving.{Came}
use Rattle.st_phases.specs.Coming.{first_machine}
use Rattle.st_fits.specs.Threads.{ends_of}
use Rattle.st_rounds.proofs.Arriving.{Lands, lands_on}
use Rattle.st_rounds.proofs.Carrying.{same_held}

-- ---- a machine with the chain's place and registers

record IsBack (c : Chain) (m n : State) : Type 0 where
  pc : n.pc ≡ c.pc
  fp : register n registers.S0 ≡ c.fp
  saved : SameKept (saved_value c.saved) (value_in n)
  lo : n.lo ≡ m.lo
  hi : n.hi ≡ m.hi
  count : length n.registers ≡ length m.registers
  origin : register n registers.Zero ≡ register m registers.Zero
  sp : register n registers.Sp ≡ register m registers.Sp
  whole : n.half ≡ None

back_first : (c : Chain) (m : State) → HasRegisters m → IsBack c m (restarted c m)
back_first c m has =
    let is = restarts c m has in
    record {
      pc = is.pc;
      fp = is.fp;
      saved = is.saved;
      lo = is.lo;
      hi = is.hi;
      count = is.count;
      origin = is.others 0 (λ e. absurd (omega (arith, e))) (λ e. absurd (omega (arith, e))) (inl (omega arith));
      sp = is.others 2 (λ e. absurd (omega (arith, e))) (λ e. absurd (omega (arith, e))) (inl (omega arith));
      whole = is.whole;
    }

-- a register is written that no call keeps
record IsFree (r : Reg) : Type 0 where
  kept : is_kept (reg_number r) ≡ false
  fp : reg_number registers.S0 ≢ reg_number r
  sp : reg_number registers.Sp ≢ reg_number r

back_written : (c : Chain) (m n : State) (r : Reg) (k : ℕ) → IsFree r → (written n r k).half ≡ n.half → IsBack c m n → IsBack c m (written n r k)
back_written c m n r k free half is = record {
  pc = pc-written n r k ∙ is.pc;
  fp = register-written_other n r registers.S0 k free.fp ∙ is.fp;
  saved = λ x kept. is.saved x kept ∙ sym (value-written_other n r k x (not_kept x (reg_number r) kept free.kept));
  lo = lo-written n r k ∙ is.lo;
  hi = hi-written n r k ∙ is.hi;
  count = length-written n r k ∙ is.count;
  origin = zero-written n r k ∙ is.origin;
  sp = register-written_other n r registers.Sp k free.sp ∙ is.sp;
  whole = half ∙ is.whole;
}

free_gp : IsFree registers.Gp
free_gp = record { kept = refl; fp = λ e. absurd (omega (arith, e)); sp = λ e. absurd (omega (arith, e)) }

free_a0 : IsFree registers.A0
free_a0 = record { kept = refl; fp = λ e. absurd (omega (arith, e)); sp = λ e. absurd (omega (arith, e)) }

-- gp is written last
lands_last : (c : Chain) (m n : State) (limit : ℕ) → HasRegisters m → IsBack c m n → AreValues (written n registers.Gp limit) → Lands m (written n registers.Gp limit) limit
lands_last c m n limit has back values =
    let is = back_written c m n registers.Gp limit free_gp refl back in
    let few : length n.registers ≡ 32 = back.count ∙ has.count in
    record { lo = is.lo; hi = is.hi; count = is.count; origin = is.origin; sp = is.sp; gp = register-written_same n registers.Gp limit (omega (arith, few)) refl; values = values }

-- without a value
abbrev pub plain_machine : Chain → ℕ → State → State
plain_machine c limit m = written (restarted c m) registers.Gp limit

-- with one in a0
abbrev pub value_machine : Chain → ℕ → ℕ → State → State
value_machine c k limit m = written (written (restarted c m) registers.A0 k) registers.Gp limit

pub lands_plain : (c : Chain) (m : State) (limit : ℕ) → HasRegisters m → AreValues (plain_machine c limit m) → Lands m (plain_machine c limit m) limit
lands_plain c m limit has values = lands_last c m (restarted c m) limit has (back_first c m has) values

pub lands_value : (c : Chain) (k : ℕ) (m : State) (limit : ℕ) → HasRegisters m → AreValues (value_machine c k limit m) → Lands m (value_machine c k limit m) limit
lands_value c k m limit has values = lands_last c m (written (restarted c m) registers.A0 k) limit has (back_written c m (restarted c m) registers.A0 k free_a0 refl (back_first c m has)) values

-- the value is there
pub value_there : (c : Chain) (k : ℕ) (m : State) (limit : ℕ) → written (value_machine c k limit m) registers.A0 k ≡ value_machine c k limit m
value_there c k m limit =
    written-apart (written (restarted c m) registers.A0 k) registers.Gp registers.A0 limit k (λ e. absurd (omega (arith, e)))
    ∙ ap (λ (n : State). written n registers.Gp limit) (written-written (restarted c m) registers.A0 k k)

-- ---- it stands for the thread

module _ (p : Program) (d : Data) (accepted : IsAccepted p) (names : List (Held × ℕ)) (held : List (Option ℕ)) (words : AreWords (word_in held)) (c : Chain) (k : Known) (fs : List Frame) (can : CanGoOn p c.wait k.thread) (stands : StandsFor p names held c.wait c.pc c.fp (saved_value c.saved) k.thread fs) where
  came : (m n : State) (limit : ℕ) → HasRegisters m → IsBack c m n → Lands m n limit → Came p d names held (ends_of n) n k fs c.wait
  came m n limit has back lands = record {
    machine = lands_on m n limit held words has lands;
    whole = back.whole;
    stands =
        subst (λ pc. StandsFor p names held c.wait pc (register n registers.S0) (value_in n) k.thread fs) (sym back.pc)
        (subst (λ fp. StandsFor p names held c.wait c.pc fp (value_in n) k.thread fs) (sym back.fp)
        (stands_same names names (λ name cell at. at) p held held c.wait c.pc c.fp (saved_value c.saved) (value_in n) k.thread fs accepted (same_held held fs) back.saved stands));
    can = can;
  }

  pub came_plain : (m : State) (limit : ℕ) → HasRegisters m → AreValues (plain_machine c limit m) → Came p d names held (ends_of (plain_machine c limit m)) (plain_machine c limit m) k fs c.wait
  came_plain m limit has values = came m (plain_machine c limit m) limit has (back_written c m (restarted c m) registers.Gp limit free_gp refl (back_first c m has)) (lands_plain c m limit has values)

  pub came_value : (m : State) (v limit : ℕ) → HasRegisters m → AreValues (value_machine c v limit m) → Came p d names held (ends_of (value_machine c v limit m)) (value_machine c v limit m) k fs c.wait
  came_value m v limit has values =
      came m (value_machine c v limit m) limit has (back_written c m (written (restarted c m) registers.A0 v) registers.Gp limit free_gp refl (back_written c m (restarted c m) registers.A0 v free_a0 refl (back_first c m has))) (lands_value c v m limit has values)

-- ---- the root begins

abbrev pub root_machine : Chain → ℕ → ℕ → ℕ → State → State
root_machine c long main_at limit m = written (first_machine long main_at (restarted c m)) registers.Gp limit

pub lands_root : (c : Chain) (long main_at : ℕ) (m : State) (limit : ℕ) → HasRegisters m → AreValues (root_machine c long main_at limit m) → Lands m (root_machine c long main_at limit m) limit
lands_root c long main_at m limit has values =
    let back = back_first c m has in
    let one = restarted c m in
    let two = written one registers.Ra 0x30 in
    let three = written two registers.A0 long in
    let four = at_place main_at (written three registers.S0 0) in
    let few : length one.registers ≡ 32 = back.count ∙ has.count in
    let count : length four.registers ≡ length one.registers = length-written three registers.S0 0 ∙ length-written two registers.A0 long ∙ length-written one registers.Ra 0x30 in
    let sp : register four registers.Sp ≡ register one registers.Sp =
    register-written_other three registers.S0 registers.Sp 0 (λ e. absurd (omega (arith, e))) ∙ register-written_other two registers.A0 registers.Sp long (λ e. absurd (omega (arith, e))) ∙ register-written_other one registers.Ra registers.Sp 0x30 (λ e. absurd (omega (arith, e))) in
    record {
      lo = lo-written four registers.Gp limit ∙ lo-written three registers.S0 0 ∙ lo-written two registers.A0 long ∙ lo-written one registers.Ra 0x30 ∙ back.lo;
      hi = hi-written four registers.Gp limit ∙ hi-written three registers.S0 0 ∙ hi-written two registers.A0 long ∙ hi-written one registers.Ra 0x30 ∙ back.hi;
      count = length-written four registers.Gp limit ∙ count ∙ back.count;
      origin = zero-written four registers.Gp limit ∙ zero-written three registers.S0 0 ∙ zero-written two registers.A0 long ∙ zero-written one registers.Ra 0x30 ∙ back.origin;
      sp = register-written_other four registers.Gp registers.Sp limit (λ e. absurd (omega (arith, e))) ∙ sp ∙ back.sp;
      gp = register-written_same four registers.Gp limit (omega (arith, count, few)) refl;
      values = values;
    }

-- it comes back to the entry that ends it, and has the length of the input
pub root_registers : (c : Chain) (long main_at : ℕ) (m : State) (limit : ℕ) → HasRegisters m → (register (root_machine c long main_at limit m) registers.Ra ≡ 0x30) × (register (root_machine c long main_at limit m) registers.A0 ≡ long)
root_registers c long main_at m limit has =
    let back = back_first c m has in
    let one = restarted c m in
    let two = written one registers.Ra 0x30 in
    let three = written two registers.A0 long in
    let four = at_place main_at (written three registers.S0 0) in
    let few : length one.registers ≡ 32 = back.count ∙ has.count in
    let more : length two.registers ≡ length one.registers = length-written one registers.Ra 0x30 in (
      register-written_other four registers.Gp registers.Ra limit (λ e. absurd (omega (arith, e))) ∙ register-written_other three registers.S0 registers.Ra 0 (λ e. absurd (omega (arith, e))) ∙ register-written_other two registers.A0 registers.Ra long (λ e. absurd (omega (arith, e)))
          ∙ register-written_same one registers.Ra 0x30 (omega (arith, few)) refl,
      register-written_other four registers.Gp registers.A0 limit (λ e. absurd (omega (arith, e))) ∙ register-written_other three registers.S0 registers.A0 0 (λ e. absurd (omega (arith, e))) ∙ register-written_same two registers.A0 long (omega (arith, few, more)) refl,
    )
