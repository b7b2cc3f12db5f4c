-- An epilogue as written gives the caller's registers, frees the frame and returns (epilogue_law). It loads s0 before the saved registers,
-- so that restored-written exchanges them.
use Rattle.std.proofs.Common.{◌≡◌, ◌≢◌, ℕ, ◌+◌, ◌-◌, ◌*◌, ◌%◌, ◌^◌, ◌≤◌, pos, ◌-ℤ◌, Bool, List, [], ◌∷◌, length, Option, Some, refl, ap, ◌∙◌, arith, length-append, ◌++◌}
use Rattle.std.proofs.lemmas.Bool.{le-ltb}
use Rattle.st_base.specs.declared.reg.Reg.{Reg}
use Rattle.st_base.specs.declared.reg.Reg.TheVariants as registers
use Rattle.st_base.specs.Reg.{reg_number}
use Rattle.st_rv.specs.declared.ins.Ins.{Ins}
use Rattle.st_model.specs.Memory.{Data}
use Rattle.st_model.specs.Layout.{saved_of, epilogue_ins, loads, ld, addi, return}
use Rattle.st_step.specs.declared.state.State.{State}
use Rattle.st_step.specs.Moves.{register, written, at_place}
use Rattle.st_step.specs.Runs.{Situation, AreWords, IsStretch, IsBase, HoldsFrame, IsReturn, HasCode, RunsStretch, restored, with_caller, saved_word, return_word, caller_word, RunsEpilogue}
use Rattle.st_step.proofs.Writes.{written-apart, register-within, register-written_same, register-written_other}
use Rattle.st_step.proofs.SavedList.{AreAbove, saved_above, saved_fit}
use Rattle.st_step.proofs.Paths.{cut, has-cut, stretch}
use Rattle.st_step.proofs.Straight.{plain_code, code_behind, step, stays, after, adds, loads_word, returns}
use Rattle.st_step.proofs.Prologues.{frame_word, frame_held, frame_address}
use Rattle.st_step.proofs.Restoring.{length-loads, loads_run, restored-other}

-- a write to a register that isn't restored may come first or last
restored-written : (word : ℕ → ℕ) (b k : ℕ) (rs : List Reg) (m : State) (q : Reg) (n : ℕ) → AreAbove rs → reg_number q ≤ 8 → restored word b k rs (written m q n) ≡ written (restored word b k rs m) q n
restored-written word b k [] m q n above few = refl
restored-written word b k (x ∷ rs) m q n above few =
    let ab = above.0 in
    let apart : reg_number q ≢ reg_number x = omega arith in
    ap (restored word b (k + 1) rs) (written-apart m q x n (word (saved_word b k)) apart)
    ∙ restored-written word b (k + 1) rs (written m x (word (saved_word b k))) q n above.1 few

-- what is left of the machine: the caller's registers, with sp at the base
abbrev caller : (ℕ → ℕ) → ℕ → List Reg → State → State
caller word b saved m = written (with_caller word b saved m) registers.Sp b

epilogue_runs : (d : Data) (code : ℕ → Option Ins) (held : ℕ → Bool) (lo bytes : ℕ) (saved : List Reg) (s : Situation) (at b : ℕ) → AreWords s.word → AreAbove saved → 16 + 8 * length saved ≤ bytes → HasCode code s.state.pc at (epilogue_ins bytes saved) → IsBase lo bytes b → HoldsFrame held bytes b → register s.state registers.Sp ≡ b - bytes → IsReturn (s.word (return_word b)) → IsStretch s.state.pc (4 + length saved)
    → RunsStretch d code held (4 + length saved) (4 + length saved) s (record { state = at_place (s.word (return_word b)) (caller s.word b saved s.state); word = s.word })
epilogue_runs d code held lo bytes saved s at b words above room has base holds sp target stretched =
    let m = s.state in
    let w = s.word in
    let low = stretched.below in
    let inside = base.room in
    let high = base.high in
    let stack = base.stack in
    let there = register-within m registers.Sp (omega arith) in
    let first = written m registers.Ra (w (return_word b)) in
    let second = written first registers.S0 (w (caller_word b)) in
    let loaded = restored w b 0 saved second in
    let final = written loaded registers.Sp b in
    let first_sp = register-written_other m registers.Ra registers.Sp (w (return_word b)) (λ e. absurd (omega (arith, e))) ∙ sp in
    let second_sp = register-written_other first registers.S0 registers.Sp (w (caller_word b)) (λ e. absurd (omega (arith, e))) ∙ first_sp in
    let loaded_sp = restored-other w b 0 saved second registers.Sp above (omega arith) ∙ second_sp in
    let ra =
    register-written_other loaded registers.Sp registers.Ra b (λ e. absurd (omega (arith, e)))
    ∙ restored-other w b 0 saved second registers.Ra above (omega arith)
    ∙ register-written_other first registers.S0 registers.Ra (w (caller_word b)) (λ e. absurd (omega (arith, e)))
    ∙ register-written_same m registers.Ra (w (return_word b)) (omega arith) refl in
    let end = m.pc + 4 + 4 + 4 * length saved in
    let s1 = after s registers.Ra (w (return_word b)) in
    let s2 : Situation = record { state = at_place (m.pc + 4 + 4) second; word = w } in
    let s3 : Situation = record { state = at_place end loaded; word = w } in
    let s4 : Situation = record { state = at_place (end + 4) final; word = w } in
    let s5 : Situation = record { state = at_place (w (return_word b)) final; word = w } in
    let last = addi registers.Sp registers.Sp (pos bytes) ∷ return ∷ [] in
    let loads_long = length-loads registers.Sp (pos bytes) 0 saved in
    let long = length-append (loads registers.Sp (pos bytes) 0 saved) last in
    let rest = cut code (m.pc + 4) (3 + length saved) in
    let left = has-cut code (m.pc + 4) (3 + length saved) (m.pc + 4) (at + 1) (ld registers.S0 (pos bytes -ℤ pos 16) registers.Sp ∷ loads registers.Sp (pos bytes) 0 saved ++ last) 0 (omega arith) (omega arith) has.1 in
    let behind = code_behind rest (m.pc + 4 + 4) (at + 1 + 1) (length saved) (loads registers.Sp (pos bytes) 0 saved) last (length-loads registers.Sp (pos bytes) 0 saved) left.1 in
    let made : Option Situation = Some (record { state = at_place (w (return_word b)) (caller w b saved m); word = w }) in
    let up : (b - bytes + bytes) % 2 ^ 64 ≡ b = omega arith in
    stretch d code held (4 + length saved) (3 + length saved) (3 + length saved) (4 + length saved) s s1 (record { state = at_place (w (return_word b)) (caller w b saved m); word = w }) _ (omega arith) (omega arith)
    (plain_code code m.pc _ has.0)
    (loads_word d held s registers.Ra registers.Sp (pos bytes -ℤ pos 8) (b - 8) refl
    (frame_address lo bytes b 8 bytes (register m registers.Sp) base (omega arith) (omega arith) sp)
    (frame_word lo bytes b 8 base (omega arith) (omega arith) refl)
    (frame_held held lo bytes b 8 base holds (omega arith) (omega arith) refl)
    (words (return_word b)) (omega arith))
    (step d rest held s1 s2 made _ (2 + length saved) (3 + length saved) (omega arith)
    (plain_code rest (m.pc + 4) _ left.0)
    (loads_word d held s1 registers.S0 registers.Sp (pos bytes -ℤ pos 16) (b - 16) refl
    (frame_address lo bytes b 16 bytes (register first registers.Sp) base (omega arith) (omega arith) first_sp)
    (frame_word lo bytes b 16 base (omega arith) (omega arith) refl)
    (frame_held held lo bytes b 16 base holds (omega arith) (omega arith) refl)
    (words (caller_word b)) (omega arith))
    (loads_run d rest held registers.Sp lo bytes b bytes w refl (omega arith) base holds (omega arith) words saved last second 0 (m.pc + 4 + 4) (at + 1 + 1) end 2 (2 + length saved) made
    second_sp above (omega arith) refl (omega arith) (omega arith) left.1
    (step d rest held s3 s4 made _ 1 2 refl
    (plain_code rest end _ behind.0)
    (adds d held s3 registers.Sp registers.Sp (pos bytes) b (le-ltb bytes 0 (omega arith)) (ap (λ (n : ℕ). (n + bytes) % 2 ^ 64) loaded_sp ∙ up) (omega arith))
    (step d rest held s4 s5 made _ 0 1 refl
    (plain_code rest (end + 4) _ behind.1.0)
    (returns d held s4 (w (return_word b)) ra target)
    (stays d rest held s5 ∙ ap (λ (u : State). Some (record { state = at_place (w (return_word b)) (written u registers.Sp b); word = w })) (restored-written w b 0 saved first registers.S0 (w (caller_word b)) above (omega arith)))))))

pub epilogue_law : RunsEpilogue
epilogue_law d code held function s lo at b words has code_is base holds sp target stretched =
    epilogue_runs d code held lo function.frame_bytes (saved_of function) s at b words (saved_above function) (saved_fit function has) code_is base holds sp target stretched
