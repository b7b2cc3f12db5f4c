-- The registers of a machine that is back in the caller of a frame (IsBack): what an epilogue of either kind, or a pure copy, leaves. Read called_back
-- (the loads of a frame give them), back_written (sp may be written behind them) and back_over (a machine that was written at tp before).
use Rattle.std.proofs.Common.{◌≡◌, ◌≢◌, ℕ, ◌+◌, ◌^◌, ◌<◌, true, false, List, [], ◌∷◌, refl, sym, ◌∙◌, arith}
use Rattle.st_base.specs.declared.reg.Reg.{Reg}
use Rattle.st_base.specs.declared.reg.Reg.TheVariants as registers
use Rattle.st_model.specs.declared.program.ProgramFunction.{ProgramFunction}
use Rattle.st_model.specs.Layout.{saved_of}
use Rattle.st_step.specs.declared.state.State.{State as MachineState}
use Rattle.st_step.specs.Moves.{register, written}
use Rattle.st_step.specs.Runs.{HasRegisters, AreValues, AreWords, saved_word, caller_word, return_word, restored, with_caller}
use Rattle.st_step.specs.Frames.{value_in, is_kept, with_saved_values}
use Rattle.st_step.proofs.Writes.{length-written, lo-written, hi-written, zero-written, values-written}
use Rattle.st_items.proofs.SavedRegisters.{value-written_other, value-written_same, saved_same, saved_unkept, saved_rising, restored_value}
use Rattle.st_items.proofs.KeptFiles.{not_kept}

-- ---- a machine on its stack, whatever its pc

pub record IsMachine (lo hi : ℕ) (m : MachineState) : Type 0 where
  pub has_registers : HasRegisters m
  pub values : AreValues m
  pub low : m.lo ≡ lo
  pub high : m.hi ≡ hi

pub machine_written : (lo hi : ℕ) (m : MachineState) (r : Reg) (n : ℕ) → n < 2 ^ 64 → IsMachine lo hi m → IsMachine lo hi (written m r n)
machine_written lo hi m r n less is = record {
  has_registers = record { count = length-written m r n ∙ is.has_registers.count; origin = zero-written m r n ∙ is.has_registers.origin };
  values = values-written m r n is.values less;
  low = lo-written m r n ∙ is.low;
  high = hi-written m r n ∙ is.high;
}

pub machine_restored : (lo hi : ℕ) (word : ℕ → ℕ) (b k : ℕ) (rs : List Reg) (m : MachineState) → AreWords word → IsMachine lo hi m → IsMachine lo hi (restored word b k rs m)
machine_restored lo hi word b k [] m words is = is
machine_restored lo hi word b k (r ∷ rs) m words is =
    machine_restored lo hi word b (k + 1) rs (written m r (word (saved_word b k))) words (machine_written lo hi m r (word (saved_word b k)) (words (saved_word b k)) is)

-- ---- back in the caller

-- of a frame with base b, which saves these registers, from a machine m
pub record IsBack (lo hi : ℕ) (word : ℕ → ℕ) (b : ℕ) (saved : List Reg) (m n : MachineState) : Type 0 where
  pub machine : IsMachine lo hi n
  pub fp : register n registers.S0 ≡ word (caller_word b)
  pub value : (x : ℕ) → x ≢ 1 → x ≢ 2 → x ≢ 4 → x ≢ 8 → value_in n x ≡ with_saved_values word b 0 saved (value_in m) x

pub called_back : (lo hi : ℕ) (word : ℕ → ℕ) (b : ℕ) (function : ProgramFunction) (m : MachineState) → AreWords word → IsMachine lo hi m → IsBack lo hi word b (saved_of function) m (with_caller word b (saved_of function) m)
called_back lo hi word b function m words is =
    let saved = saved_of function in
    let ret = word (return_word b) in
    let fp = word (caller_word b) in
    let first = written m registers.Ra ret in
    let loaded = restored word b 0 saved first in
    let is_first = machine_written lo hi m registers.Ra ret (words (return_word b)) is in
    let is_loaded = machine_restored lo hi word b 0 saved first words is_first in
    record {
      machine = machine_written lo hi loaded registers.S0 fp (words (caller_word b)) is_loaded;
      fp = value-written_same loaded registers.S0 fp is_loaded.has_registers.count refl;
      value = λ x ra sp tp s0.
          value-written_other loaded registers.S0 fp x s0
          ∙ restored_value word b 0 8 saved first x (saved_rising function) is_first.has_registers.count
          ∙ saved_same word b 0 saved (value_in first) (value_in m) x (value-written_other m registers.Ra ret x ra);
    }

-- sp stays
pub called_sp : (lo hi : ℕ) (word : ℕ → ℕ) (b : ℕ) (function : ProgramFunction) (m : MachineState) → IsMachine lo hi m → register (with_caller word b (saved_of function) m) registers.Sp ≡ register m registers.Sp
called_sp lo hi word b function m is =
    let saved = saved_of function in
    let ret = word (return_word b) in
    let first = written m registers.Ra ret in
    let loaded = restored word b 0 saved first in
    value-written_other loaded registers.S0 (word (caller_word b)) 2 (λ e. absurd (omega (arith, e)))
    ∙ restored_value word b 0 8 saved first 2 (saved_rising function) (length-written m registers.Ra ret ∙ is.has_registers.count)
    ∙ saved_unkept word b 0 8 saved (value_in first) 2 (saved_rising function) refl
    ∙ value-written_other m registers.Ra ret 2 (λ e. absurd (omega (arith, e)))

-- another sp
pub back_written : (lo hi : ℕ) (word : ℕ → ℕ) (b : ℕ) (saved : List Reg) (m n : MachineState) (sp : ℕ) → sp < 2 ^ 64 → IsBack lo hi word b saved m n → IsBack lo hi word b saved m (written n registers.Sp sp)
back_written lo hi word b saved m n sp less back = record {
  machine = machine_written lo hi n registers.Sp sp less back.machine;
  fp = value-written_other n registers.Sp sp 8 (λ e. absurd (omega (arith, e))) ∙ back.fp;
  value = λ x ra not_sp tp s0. value-written_other n registers.Sp sp x not_sp ∙ back.value x ra not_sp tp s0;
}

-- tp was written before
pub back_over : (lo hi : ℕ) (word : ℕ → ℕ) (b : ℕ) (saved : List Reg) (m n : MachineState) (tp : ℕ) → IsBack lo hi word b saved (written m registers.Tp tp) n → IsBack lo hi word b saved m n
back_over lo hi word b saved m n tp back = record {
  machine = back.machine;
  fp = back.fp;
  value = λ x ra sp not_tp s0. back.value x ra sp not_tp s0 ∙ saved_same word b 0 saved (value_in (written m registers.Tp tp)) (value_in m) x (value-written_other m registers.Tp tp x not_tp);
}

-- ---- what is read there

-- the registers that a call keeps
pub back_kept : (lo hi : ℕ) (word : ℕ → ℕ) (b : ℕ) (saved : List Reg) (m n : MachineState) → IsBack lo hi word b saved m n → (x : ℕ) → is_kept x ≡ true → with_saved_values word b 0 saved (value_in m) x ≡ value_in n x
back_kept lo hi word b saved m n back x is = sym (back.value x (not_kept x 1 is refl) (not_kept x 2 is refl) (not_kept x 4 is refl) (not_kept x 8 is refl))

-- the others stay: a0 and gp
pub back_other : (lo hi : ℕ) (word : ℕ → ℕ) (b : ℕ) (function : ProgramFunction) (m n : MachineState) (x : ℕ) → IsBack lo hi word b (saved_of function) m n → is_kept x ≡ false → x ≢ 1 → x ≢ 2 → x ≢ 4 → x ≢ 8 → value_in n x ≡ value_in m x
back_other lo hi word b function m n x back other ra sp tp s0 = back.value x ra sp tp s0 ∙ saved_unkept word b 0 8 (saved_of function) (value_in m) x (saved_rising function) other
