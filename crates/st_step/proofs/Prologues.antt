-- A prologue makes its frame (prologue_law): it lowers sp, stores ra, s0 and the saved registers (stores_run), and leaves s0 at the base.
use Rattle.std.proofs.Common.{◌≡◌, ◌≢◌, ℕ, suc, ◌+◌, ◌-◌, ◌*◌, ◌%◌, ◌^◌, ◌<◌, ◌≤◌, ℤ, pos, ◌-ℤ◌, Bool, true, List, [], ◌∷◌, ◌++◌, length, Option, Some, refl, ap, ◌∙◌, arith, length-append}
use Rattle.st_base.specs.declared.reg.Reg.{Reg}
use Rattle.st_base.specs.declared.reg.Reg.TheVariants as registers
use Rattle.st_base.specs.Reg.{reg_number}
use Rattle.st_rv.specs.declared.ins.Op.TheVariants as ops
use Rattle.st_rv.specs.declared.ins.Ins.{Ins}
use Rattle.st_rv.specs.Results.{word_of}
use Rattle.st_model.specs.Memory.{Data}
use Rattle.st_model.specs.declared.code.PostedIns.{PostedIns}
use Rattle.st_model.specs.Layout.{saved_of, prologue_ins, stores, addi, sd, store_ins}
use Rattle.st_words.specs.Steps.{place_of}
use Rattle.st_step.specs.declared.state.State.{State}
use Rattle.st_step.specs.Moves.{register, written, at_place}
use Rattle.st_step.specs.Runs.{Situation, IsStretch, IsBase, HoldsFrame, HasCode, RunsStretch, stored, with_saved, with_frame, saved_word, RunsPrologue}
use Rattle.st_step.proofs.Writes.{register-within, register-written_same, register-written_other}
use Rattle.st_step.proofs.SavedList.{AreAbove, saved_above, saved_fit}
use Rattle.st_step.proofs.Paths.{ran, cut, has-cut, stretch}
use Rattle.st_step.proofs.Straight.{plain_code, code_behind, step, stays, after, after_store, adds, frames, stores_word, word_at, IsWordAddress}

-- a word of a frame has an address on the stack
pub frame_word : (lo bytes b off : ℕ) → IsBase lo bytes b → 8 ≤ off → off ≤ bytes → off % 8 ≡ 0 → IsWordAddress (b - off)
frame_word lo bytes b off base least most multiple =
    let m = base.multiple in
    let s = base.stack in
    let r = base.room in
    let h = base.high in
    record { multiple = omega arith; low = omega arith; high = omega arith }

-- and is held with the frame
pub frame_held : (held : ℕ → Bool) (lo bytes b off : ℕ) → IsBase lo bytes b → HoldsFrame held bytes b → 8 ≤ off → off ≤ bytes → off % 8 ≡ 0 → held (place_of (b - off)) ≡ true
frame_held held lo bytes b off base holds least most multiple =
    let s = base.stack in
    let r = base.room in
    let from : place_of (b - bytes) ≤ place_of (b - off) = omega arith in
    let to : place_of (b - off) < place_of b = omega arith in
    holds (place_of (b - off)) from to

-- its address from a register that is lower than the base by `top`
pub frame_address : (lo bytes b off top n : ℕ) → IsBase lo bytes b → top ≤ bytes → off ≤ bytes → n ≡ b - top → (n + word_of (pos top -ℤ pos off)) % 2 ^ 64 ≡ b - off
frame_address lo bytes b off top n base lower most same =
    let r = base.room in
    let h = base.high in
    ap (λ (k : ℕ). (k + word_of (pos top -ℤ pos off)) % 2 ^ 64) same ∙ word_at (pos top -ℤ pos off) b top off refl (omega arith) (omega arith) (omega arith)

-- the stores of the saved registers from the k-th on
pub stores_run : (d : Data) (code : ℕ → Option Ins) (held : ℕ → Bool) (m : State) (lo bytes b : ℕ) → IsBase lo bytes b → HoldsFrame held bytes b → 2 < length m.registers → (rs : List Reg) (rest : List PostedIns) (k pc at end n count : ℕ) (word : ℕ → ℕ) (r : Option Situation)
    → AreAbove rs → 16 + 8 * (k + length rs) ≤ bytes → end ≡ pc + 4 * length rs → end < 2 ^ 32 → count ≡ length rs + n → HasCode code pc at (stores registers.Sp (pos bytes) k rs ++ rest)
    → ran d code held n (record { state = at_place end (written m registers.Sp (b - bytes)); word = with_saved m b k rs word }) ≡ r
    → ran d code held count (record { state = at_place pc (written m registers.Sp (b - bytes)); word = word }) ≡ r
stores_run d code held m lo bytes b base holds there [] rest k pc at end n count word r above room last low counts has goes =
    let e : pc ≡ end = omega arith in
    let c : count ≡ n = omega arith in
    ap (λ (p : ℕ). ran d code held count (record { state = at_place p (written m registers.Sp (b - bytes)); word = word })) e
    ∙ ap (λ (j : ℕ). ran d code held j (record { state = at_place end (written m registers.Sp (b - bytes)); word = word })) c
    ∙ goes
stores_run d code held m lo bytes b base holds there (x ∷ rs) rest k pc at end n count word r above room last low counts has goes =
    let s : Situation = record { state = at_place pc (written m registers.Sp (b - bytes)); word = word } in
    let ab = above.0 in
    let other : reg_number x ≢ 2 = omega arith in
    let one : pc + 4 < 2 ^ 32 = omega arith in
    let later : 16 + 8 * (k + 1 + length rs) ≤ bytes = omega arith in
    step d code held s (after_store s (b - (24 + 8 * k)) (register m x)) r (store_ins ops.Sd registers.Sp x (pos bytes -ℤ pos (24 + 8 * k))) (length rs + n) count (omega arith)
    (plain_code code pc _ has.0)
    (stores_word d held s registers.Sp x (pos bytes -ℤ pos (24 + 8 * k)) (b - (24 + 8 * k)) (register m x) refl refl
    (frame_address lo bytes b (24 + 8 * k) bytes _ base (omega arith) (omega arith) (register-written_same m registers.Sp (b - bytes) there refl))
    (frame_word lo bytes b (24 + 8 * k) base (omega arith) (omega arith) (omega arith))
    (frame_held held lo bytes b (24 + 8 * k) base holds (omega arith) (omega arith) (omega arith))
    (register-written_other m registers.Sp x (b - bytes) other) one)
    (stores_run d code held m lo bytes b base holds there rs rest (k + 1) (pc + 4) (at + 1) end n (length rs + n) (stored (saved_word b k) (register m x) word) r above.1 later (omega arith) low (omega arith) has.1 goes)

length-stores : (base : Reg) (top : ℤ) (k : ℕ) (rs : List Reg) → length (stores base top k rs) ≡ length rs
length-stores base top k [] = refl
length-stores base top k (r ∷ rs) = ap suc (length-stores base top (k + 1) rs)

-- for any saved registers
prologue_runs : (d : Data) (code : ℕ → Option Ins) (held : ℕ → Bool) (bytes : ℕ) (saved : List Reg) (s : Situation) (at : ℕ) → AreAbove saved → 16 + 8 * length saved ≤ bytes → bytes ≤ 2032 → HasCode code s.state.pc at (prologue_ins bytes saved) → IsBase s.state.lo bytes (register s.state registers.Sp) → HoldsFrame held bytes (register s.state registers.Sp) → IsStretch s.state.pc (4 + length saved)
    → RunsStretch d code held (4 + length saved) (4 + length saved) s (record {
      state = at_place (s.state.pc + 4 * (4 + length saved)) (written (written s.state registers.Sp (register s.state registers.Sp - bytes)) registers.S0 (register s.state registers.Sp));
      word = with_frame s.state (register s.state registers.Sp) saved s.word;
    })
prologue_runs d code held bytes saved s at above room most has base holds stretched =
    let m = s.state in
    let b = register s.state registers.Sp in
    let low = stretched.below in
    let inside = base.room in
    let high = base.high in
    let stack = base.stack in
    let there = register-within m registers.Sp (omega arith) in
    let lowered = written m registers.Sp (b - bytes) in
    let sp = register-written_same m registers.Sp (b - bytes) there refl in
    let s1 = after s registers.Sp (b - bytes) in
    let s2 = after_store s1 (b - 8) (register m registers.Ra) in
    let s3 = after_store s2 (b - 16) (register m registers.S0) in
    let end = m.pc + 4 + 4 + 4 + 4 * length saved in
    let s4 : Situation = record { state = at_place end lowered; word = with_frame m b saved s.word } in
    let s5 = after s4 registers.S0 b in
    let made : Option Situation = Some (record { state = at_place (m.pc + 4 * (4 + length saved)) (written lowered registers.S0 b); word = s4.word }) in
    let up : (b - bytes + bytes) % 2 ^ 64 ≡ b = omega arith in
    let last : m.pc + 4 + 4 + 4 + 4 * length saved + 4 ≡ m.pc + 4 * (4 + length saved) = omega arith in
    let tail = stores registers.Sp (pos bytes) 0 saved ++ addi registers.S0 registers.Sp (pos bytes) ∷ [] in
    let stored_long = length-stores registers.Sp (pos bytes) 0 saved in
    let tail_long = length-append (stores registers.Sp (pos bytes) 0 saved) (addi registers.S0 registers.Sp (pos bytes) ∷ []) in
    let rest = cut code (m.pc + 4) (3 + length saved) in
    let behind = has-cut code (m.pc + 4) (3 + length saved) (m.pc + 4) (at + 1) (sd registers.Ra (pos bytes -ℤ pos 8) registers.Sp ∷ sd registers.S0 (pos bytes -ℤ pos 16) registers.Sp ∷ tail) 0 (omega arith) (omega arith) has.1 in
    stretch d code held (4 + length saved) (3 + length saved) (3 + length saved) (4 + length saved) s s1 (record { state = at_place (m.pc + 4 * (4 + length saved)) (written lowered registers.S0 b); word = s4.word }) _ (omega arith) (omega arith)
    (plain_code code m.pc _ has.0)
    (frames d held s bytes (omega arith) (omega arith) inside (omega arith) (omega arith))
    (step d rest held s1 s2 made _ (2 + length saved) (3 + length saved) (omega arith)
    (plain_code rest (m.pc + 4) _ behind.0)
    (stores_word d held s1 registers.Sp registers.Ra (pos bytes -ℤ pos 8) (b - 8) (register m registers.Ra) refl refl
    (frame_address m.lo bytes b 8 bytes _ base (omega arith) (omega arith) sp)
    (frame_word m.lo bytes b 8 base (omega arith) (omega arith) refl)
    (frame_held held m.lo bytes b 8 base holds (omega arith) (omega arith) refl)
    (register-written_other m registers.Sp registers.Ra (b - bytes) (λ e. absurd (omega (arith, e)))) (omega arith))
    (step d rest held s2 s3 made _ (1 + length saved) (2 + length saved) (omega arith)
    (plain_code rest (m.pc + 4 + 4) _ behind.1.0)
    (stores_word d held s2 registers.Sp registers.S0 (pos bytes -ℤ pos 16) (b - 16) (register m registers.S0) refl refl
    (frame_address m.lo bytes b 16 bytes _ base (omega arith) (omega arith) sp)
    (frame_word m.lo bytes b 16 base (omega arith) (omega arith) refl)
    (frame_held held m.lo bytes b 16 base holds (omega arith) (omega arith) refl)
    (register-written_other m registers.Sp registers.S0 (b - bytes) (λ e. absurd (omega (arith, e)))) (omega arith))
    (stores_run d rest held m m.lo bytes b base holds there saved (addi registers.S0 registers.Sp (pos bytes) ∷ []) 0 (m.pc + 4 + 4 + 4) (at + 1 + 1 + 1) end 1 (1 + length saved) s3.word made above (omega arith) (omega arith) (omega arith) (omega arith) behind.1.1
    (step d rest held s4 s5 made _ 0 1 refl
    (plain_code rest end _ (code_behind rest (m.pc + 4 + 4 + 4) (at + 1 + 1 + 1) (length saved) (stores registers.Sp (pos bytes) 0 saved) _ (length-stores registers.Sp (pos bytes) 0 saved) behind.1.1).0)
    (adds d held s4 registers.S0 registers.Sp (pos bytes) b refl (ap (λ (n : ℕ). (n + bytes) % 2 ^ 64) sp ∙ up) (omega arith))
    (stays d rest held s5 ∙ ap (λ (p : ℕ). Some (record { state = at_place p (written lowered registers.S0 b); word = s4.word })) last)))))

pub prologue_law : RunsPrologue
prologue_law d code held function s at has code_is base holds stretched = prologue_runs d code held function.frame_bytes (saved_of function) s at (saved_above function) (saved_fit function has) has.most code_is base holds stretched
