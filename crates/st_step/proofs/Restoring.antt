-- The caller's registers are loaded from a frame (loads_run, loading_run), and what the other registers have then (restored-other,
-- caller-ra, caller-low). A pure copy does just that and returns (pure_copy_law).
use Rattle.std.proofs.Common.{◌≡◌, ◌≢◌, ℕ, suc, ◌+◌, ◌-◌, ◌*◌, ◌%◌, ◌^◌, ◌<◌, ◌≤◌, ℤ, pos, ◌-ℤ◌, Bool, true, List, [], ◌∷◌, ◌++◌, length, Option, Some, refl, ap, ◌∙◌, subst, arith, append_assoc, length-append}
use Rattle.st_base.specs.declared.reg.Reg.{Reg}
use Rattle.st_base.specs.declared.reg.Reg.TheVariants as registers
use Rattle.st_base.specs.Reg.{reg_number}
use Rattle.st_rv.specs.declared.ins.Op.TheVariants as ops
use Rattle.st_rv.specs.declared.ins.Ins.{Ins}
use Rattle.st_model.specs.Memory.{Data}
use Rattle.st_model.specs.declared.code.PostedIns.{PostedIns}
use Rattle.st_model.specs.Layout.{saved_of, pure_copy_ins, restoring_ins, loads, ld, immediate_ins, below, return}
use Rattle.st_step.specs.declared.state.State.{State}
use Rattle.st_step.specs.Moves.{register, written, at_place, is_stack}
use Rattle.st_step.specs.Runs.{Situation, AreWords, IsStretch, IsBase, HoldsFrame, IsReturn, HasCode, RunsStretch, restored, with_caller, saved_word, return_word, caller_word, RunsPureCopy}
use Rattle.st_step.proofs.Writes.{written-at_place, length-written, register-within, register-written_same, register-written_other}
use Rattle.st_step.proofs.SavedList.{AreAbove, saved_above, saved_fit}
use Rattle.st_step.proofs.Paths.{ran, cut, has-cut, stretch}
use Rattle.st_step.proofs.Straight.{plain_code, code_behind, step, stays, after, at_pc, adds, loads_word, returns}
use Rattle.st_step.proofs.Prologues.{frame_word, frame_held, frame_address}

-- ---- loads

pub length-loads : (base : Reg) (top : ℤ) (k : ℕ) (rs : List Reg) → length (loads base top k rs) ≡ length rs
length-loads base top k [] = refl
length-loads base top k (r ∷ rs) = ap suc (length-loads base top (k + 1) rs)

pub loads_run : (d : Data) (code : ℕ → Option Ins) (held : ℕ → Bool) (base : Reg) (lo bytes b top : ℕ) (word : ℕ → ℕ) → is_stack base ≡ true → reg_number base ≤ 8 → IsBase lo bytes b → HoldsFrame held bytes b → top ≤ bytes → ((q : ℕ) → word q < 2 ^ 64)
    → (rs : List Reg) (rest : List PostedIns) (m : State) (k pc at end n count : ℕ) (r : Option Situation)
    → register m base ≡ b - top → AreAbove rs → 16 + 8 * (k + length rs) ≤ bytes → end ≡ pc + 4 * length rs → end < 2 ^ 32 → count ≡ length rs + n → HasCode code pc at (loads base (pos top) k rs ++ rest)
    → ran d code held n (record { state = at_place end (restored word b k rs m); word = word }) ≡ r
    → ran d code held count (record { state = at_place pc m; word = word }) ≡ r
loads_run d code held base lo bytes b top word stack low_base frame holds lower small [] rest m k pc at end n count r value above room last low counts has goes =
    let e : pc ≡ end = omega arith in
    let c : count ≡ n = omega arith in
    ap (λ (p : ℕ). ran d code held count (record { state = at_place p m; word = word })) e
    ∙ ap (λ (j : ℕ). ran d code held j (record { state = at_place end m; word = word })) c
    ∙ goes
loads_run d code held base lo bytes b top word stack low_base frame holds lower small (x ∷ rs) rest m k pc at end n count r value above room last low counts has goes =
    let s : Situation = record { state = at_place pc m; word = word } in
    let v = word (saved_word b k) in
    let t : Situation = record { state = at_place (pc + 4) (written m x v); word = word } in
    let ab = above.0 in
    let other : reg_number base ≢ reg_number x = omega arith in
    let one : pc + 4 < 2 ^ 32 = omega arith in
    let later : 16 + 8 * (k + 1 + length rs) ≤ bytes = omega arith in
    step d code held s t r (immediate_ins ops.Ld x base (pos top -ℤ pos (24 + 8 * k))) (length rs + n) count (omega arith)
    (plain_code code pc _ has.0)
    (loads_word d held s x base (pos top -ℤ pos (24 + 8 * k)) (b - (24 + 8 * k)) stack
    (frame_address lo bytes b (24 + 8 * k) top (register m base) frame lower (omega arith) value)
    (frame_word lo bytes b (24 + 8 * k) frame (omega arith) (omega arith) (omega arith))
    (frame_held held lo bytes b (24 + 8 * k) frame holds (omega arith) (omega arith) (omega arith))
    (small (saved_word b k)) one
    ∙ ap (λ (u : State). Some (record { state = u; word = word })) (written-at_place pc (pc + 4) m x v))
    (loads_run d code held base lo bytes b top word stack low_base frame holds lower small rs rest (written m x v) (k + 1) (pc + 4) (at + 1) end n (length rs + n) r
    (register-written_other m x base v other ∙ value) above.1 later (omega arith) low (omega arith) has.1 goes)

-- ---- what the registers have then

pub restored-other : (word : ℕ → ℕ) (b k : ℕ) (rs : List Reg) (m : State) (q : Reg) → AreAbove rs → reg_number q ≤ 8 → register (restored word b k rs m) q ≡ register m q
restored-other word b k [] m q above few = refl
restored-other word b k (x ∷ rs) m q above few =
    let ab = above.0 in
    let other : reg_number q ≢ reg_number x = omega arith in
    restored-other word b (k + 1) rs (written m x (word (saved_word b k))) q above.1 few ∙ register-written_other m x q (word (saved_word b k)) other

pub length-restored : (word : ℕ → ℕ) (b k : ℕ) (rs : List Reg) (m : State) → length (restored word b k rs m).registers ≡ length m.registers
length-restored word b k [] m = refl
length-restored word b k (x ∷ rs) m = length-restored word b (k + 1) rs (written m x (word (saved_word b k))) ∙ length-written m x (word (saved_word b k))

-- ra is that of the frame
pub caller-ra : (word : ℕ → ℕ) (b : ℕ) (rs : List Reg) (m : State) → AreAbove rs → 1 < length m.registers → register (with_caller word b rs m) registers.Ra ≡ word (return_word b)
caller-ra word b rs m above there =
    register-written_other (restored word b 0 rs (written m registers.Ra (word (return_word b)))) registers.S0 registers.Ra (word (caller_word b)) (λ e. absurd (omega (arith, e)))
    ∙ restored-other word b 0 rs (written m registers.Ra (word (return_word b))) registers.Ra above (omega arith)
    ∙ register-written_same m registers.Ra (word (return_word b)) there refl

-- the others below s0 are as they were
pub caller-low : (word : ℕ → ℕ) (b : ℕ) (rs : List Reg) (m : State) (q : Reg) → AreAbove rs → reg_number q < 8 → reg_number q ≢ 1 → register (with_caller word b rs m) q ≡ register m q
caller-low word b rs m q above few other =
    let apart : reg_number q ≢ 8 = omega arith in
    register-written_other (restored word b 0 rs (written m registers.Ra (word (return_word b)))) registers.S0 q (word (caller_word b)) apart
    ∙ restored-other word b 0 rs (written m registers.Ra (word (return_word b))) q above (omega arith)
    ∙ register-written_other m registers.Ra q (word (return_word b)) other

-- ---- the loads of augmented epilogues and pure copies, behind the first instruction, which has put the base into tp

-- the words that load so many saved registers beside ra and s0
abbrev pub loading_ins : List Reg → List PostedIns → List PostedIns
loading_ins saved rest = ld registers.Ra (below 8) registers.Tp ∷ (loads registers.Tp (pos 0) 0 saved ++ (ld registers.S0 (below 16) registers.Tp ∷ rest))

-- behind them
abbrev pub loaded_pc : ℕ → ℕ → ℕ
loaded_pc pc n = pc + 4 + 4 * n + 4

pub length-loading : (saved : List Reg) (rest : List PostedIns) → length (loading_ins saved rest) ≡ 2 + length saved + length rest
length-loading saved rest =
    let all = length-append (loads registers.Tp (pos 0) 0 saved) (ld registers.S0 (below 16) registers.Tp ∷ rest) in
    let few = length-loads registers.Tp (pos 0) 0 saved in
    omega arith

-- the code behind the first word
pub loading_code : (code : ℕ → Option Ins) (pc at : ℕ) (saved : List Reg) (rest : List PostedIns) → HasCode code pc at (restoring_ins saved ++ rest) → HasCode code (pc + 4) (at + 1) (loading_ins saved rest)
loading_code code pc at saved rest has =
    let joined = append_assoc (loads registers.Tp (pos 0) 0 saved) (ld registers.S0 (below 16) registers.Tp ∷ []) rest in
    subst (λ (is : List PostedIns). HasCode code (pc + 4) (at + 1) (ld registers.Ra (below 8) registers.Tp ∷ is)) joined has.1

pub loading_run : (d : Data) (code : ℕ → Option Ins) (held : ℕ → Bool) (lo bytes b : ℕ) (saved : List Reg) (rest : List PostedIns) (top : State) (w : ℕ → ℕ) (pc at n count : ℕ) (r : Option Situation)
    → AreWords w → AreAbove saved → 16 + 8 * length saved ≤ bytes → IsBase lo bytes b → HoldsFrame held bytes b → register top registers.Tp ≡ b → loaded_pc pc (length saved) < 2 ^ 32 → count ≡ 2 + length saved + n
    → HasCode code pc at (loading_ins saved rest)
    → (HasCode code (loaded_pc pc (length saved)) (at + 1 + length saved + 1) rest → ran d code held n (record { state = at_place (loaded_pc pc (length saved)) (with_caller w b saved top); word = w }) ≡ r)
    → ran d code held count (record { state = at_place pc top; word = w }) ≡ r
loading_run d code held lo bytes b saved rest top w pc at n count r words above room base holds tp low counts has goes =
    let stack = base.stack in
    let inside = base.room in
    let high = base.high in
    let first = written top registers.Ra (w (return_word b)) in
    let first_tp = register-written_other top registers.Ra registers.Tp (w (return_word b)) (λ e. absurd (omega (arith, e))) ∙ tp in
    let loaded = restored w b 0 saved first in
    let s1 : Situation = record { state = at_place pc top; word = w } in
    let s2 : Situation = record { state = at_place (pc + 4) first; word = w } in
    let end = pc + 4 + 4 * length saved in
    let s3 : Situation = record { state = at_place end loaded; word = w } in
    let s4 : Situation = record { state = at_place (end + 4) (written loaded registers.S0 (w (caller_word b))); word = w } in
    let zero_top : b ≡ b - 0 = omega arith in
    let last = ld registers.S0 (below 16) registers.Tp in
    let behind = code_behind code (pc + 4) (at + 1) (length saved) (loads registers.Tp (pos 0) 0 saved) (last ∷ rest) (length-loads registers.Tp (pos 0) 0 saved) has.1 in
    step d code held s1 s2 r _ (1 + length saved + n) count (omega arith)
    (plain_code code pc _ has.0)
    (loads_word d held s1 registers.Ra registers.Tp (below 8) (b - 8) refl
    (frame_address lo bytes b 8 0 (register top registers.Tp) base (omega arith) (omega arith) (tp ∙ zero_top))
    (frame_word lo bytes b 8 base (omega arith) (omega arith) refl)
    (frame_held held lo bytes b 8 base holds (omega arith) (omega arith) refl)
    (words (return_word b)) (omega arith)
    ∙ ap (λ (u : State). Some (record { state = u; word = w })) (written-at_place pc (pc + 4) top registers.Ra (w (return_word b))))
    (loads_run d code held registers.Tp lo bytes b 0 w refl (omega arith) base holds (omega arith) words saved (last ∷ rest) first 0 (pc + 4) (at + 1) end (1 + n) (1 + length saved + n) r
    (first_tp ∙ zero_top) above (omega arith) refl (omega arith) (omega arith) has.1
    (step d code held s3 s4 r _ n (1 + n) (omega arith)
    (plain_code code end _ behind.0)
    (loads_word d held s3 registers.S0 registers.Tp (below 16) (b - 16) refl
    (frame_address lo bytes b 16 0 (register loaded registers.Tp) base (omega arith) (omega arith) (restored-other w b 0 saved first registers.Tp above (omega arith) ∙ first_tp ∙ zero_top))
    (frame_word lo bytes b 16 base (omega arith) (omega arith) refl)
    (frame_held held lo bytes b 16 base holds (omega arith) (omega arith) refl)
    (words (caller_word b)) (omega arith)
    ∙ ap (λ (u : State). Some (record { state = u; word = w })) (written-at_place end (end + 4) loaded registers.S0 (w (caller_word b))))
    (goes behind.1)))

-- ---- pure copies

pure_copy_runs : (d : Data) (code : ℕ → Option Ins) (held : ℕ → Bool) (lo bytes : ℕ) (saved : List Reg) (s : Situation) (at : ℕ) → AreWords s.word → AreAbove saved → 16 + 8 * length saved ≤ bytes → HasCode code s.state.pc at (pure_copy_ins saved) → IsBase lo bytes (register s.state registers.S0) → HoldsFrame held bytes (register s.state registers.S0) → IsReturn (s.word (return_word (register s.state registers.S0))) → IsStretch s.state.pc (4 + length saved)
    → RunsStretch d code held (4 + length saved) (4 + length saved) s (record {
      state = at_place (s.word (return_word (register s.state registers.S0))) (with_caller s.word (register s.state registers.S0) saved (written s.state registers.Tp (register s.state registers.S0)));
      word = s.word;
    })
pure_copy_runs d code held lo bytes saved s at words above room has base holds target stretched =
    let low = stretched.below in
    let b = register s.state registers.S0 in
    let pc = s.state.pc + 4 in
    let top = written s.state registers.Tp b in
    let stack = base.stack in
    let inside = base.room in
    let high = base.high in
    let there = register-within s.state registers.S0 (omega arith) in
    let longer = length-written s.state registers.Tp b in
    let ra = caller-ra s.word b saved top above (omega arith) in
    let tp = register-written_same s.state registers.Tp b (omega arith) refl in
    let same : (b + 0) % 2 ^ 64 ≡ b = omega arith in
    let t : Situation = record { state = at_place (loaded_pc pc (length saved)) (with_caller s.word b saved top); word = s.word } in
    let long = length-loading saved (return ∷ []) in
    let rest = cut code pc (3 + length saved) in
    let behind = has-cut code pc (3 + length saved) pc (at + 1) (loading_ins saved (return ∷ [])) 0 (omega arith) (omega arith) (loading_code code s.state.pc at saved (return ∷ []) has) in
    stretch d code held (4 + length saved) (3 + length saved) (3 + length saved) (4 + length saved) s (after s registers.Tp b) (at_pc t (s.word (return_word b))) _ (omega arith) (omega arith)
    (plain_code code s.state.pc _ has.0)
    (adds d held s registers.Tp registers.S0 (pos 0) b refl same (omega arith))
    (loading_run d rest held lo bytes b saved (return ∷ []) top s.word pc (at + 1) 1 (3 + length saved) _ words above room base holds tp (omega arith) (omega arith) behind
    (λ last. step d rest held t (at_pc t (s.word (return_word b))) _ _ 0 1 refl
    (plain_code rest t.state.pc _ last.0)
    (returns d held t (s.word (return_word b)) ra target)
    (stays d rest held (at_pc t (s.word (return_word b))))))

pub pure_copy_law : RunsPureCopy
pure_copy_law d code held function s lo at words has code_is base holds target stretched = pure_copy_runs d code held lo function.frame_bytes (saved_of function) s at words (saved_above function) (saved_fit function has) code_is base holds target stretched
