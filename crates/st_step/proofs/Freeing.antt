-- An augmented epilogue gives the caller's registers, and then frees its frame or marks it (augmented_law). Behind the loads of the frame
-- stand two branches: both pass where sp is below the base and the base is at most gp (frees), else one of them is taken (marks).
use Rattle.std.proofs.Common.{◌≡◌, ◌≢◌, ◌⊎◌, ℕ, suc, ◌+◌, ◌-◌, ◌*◌, ◌%◌, ◌^◌, ◌<◌, ◌≤◌, ℤ, pos, negsuc, ◌-ℤ◌, Bool, true, false, not, List, length, Option, Some, refl, ap, ◌∙◌, arith, inl, inr}
use Rattle.std.proofs.lemmas.Bool.{lt-ltb, le-ltb}
use Rattle.std.proofs.lemmas.Int.{ints}
use Rattle.st_base.specs.declared.reg.Reg.{Reg}
use Rattle.st_base.specs.declared.reg.Reg.TheVariants as registers
use Rattle.st_base.specs.Reg.{reg_number}
use Rattle.st_rv.specs.declared.ins.Op.TheVariants as ops
use Rattle.st_rv.specs.declared.ins.Ins.{Ins}
use Rattle.st_rv.specs.Results.{word_of, is_taken}
use Rattle.st_model.specs.Memory.{Data}
use Rattle.st_model.specs.Layout.{saved_of, augmented_ins, freeing_ins, distance}
use Rattle.st_step.specs.declared.state.State.{State}
use Rattle.st_step.specs.Moves.{register, written, at_place, from_pc}
use Rattle.st_step.specs.Runs.{Situation, AreWords, IsStretch, IsBase, HoldsFrame, IsReturn, HasCode, RunsStretch, stored, with_caller, return_word, RunsAugmented}
use Rattle.st_step.proofs.Writes.{length-written, register-within, register-written_same, register-written_other}
use Rattle.st_step.proofs.SavedList.{AreAbove, saved_above, saved_fit}
use Rattle.st_step.proofs.Paths.{ran, cut, has-cut, stretch}
use Rattle.st_step.proofs.Straight.{plain_code, step, stays, after, adds, marks_word, branches, passes, returns}
use Rattle.st_step.proofs.Prologues.{frame_word, frame_held, frame_address}
use Rattle.st_step.proofs.Restoring.{loading_ins, loaded_pc, length-loading, loading_code, loading_run, caller-ra, caller-low}

-- ---- branches forward

word_of_gap : (z : ℤ) (x y : ℕ) → z ≡ pos x -ℤ pos y → y ≤ x → word_of z ≡ x - y
word_of_gap (pos n) x y is above = omega (arith, ints)
word_of_gap (negsuc n) x y is above = absurd (omega (arith, ints))

pub forward : (pc at to n : ℕ) → to ≡ at + n → pc + 4 * n < 2 ^ 32 → from_pc pc (distance at to) ≡ pc + 4 * n
forward pc at to n is low =
    let above : 4 * at ≤ 4 * to = omega arith in
    let gap = word_of_gap (distance at to) (4 * to) (4 * at) refl above in
    let e : (pc + (4 * to - 4 * at)) % 2 ^ 32 ≡ pc + 4 * n = omega arith in
    ap (λ (k : ℕ). (pc + k) % 2 ^ 32) gap ∙ e

-- ---- the freeing part, from the caller's registers with the base b in tp

-- the state behind the loads
pub record IsRestored (held : ℕ → Bool) (lo bytes b ra pc : ℕ) (s : Situation) : Type 0 where
  pub base : IsBase lo bytes b
  pub holds : HoldsFrame held bytes b
  pub room : 8 ≤ bytes
  pub tp : register s.state registers.Tp ≡ b
  pub ra_is : register s.state registers.Ra ≡ ra
  pub target : IsReturn ra
  pub low : pc + 24 < 2 ^ 32

pub bgeu_passes : (a b n : ℕ) → b ≡ n → a < n → is_taken ops.Bgeu a b ≡ false
unfolding is_taken
bgeu_passes a b n same less = let lt : a < b = omega arith in ap not (lt-ltb a b lt)

pub bgeu_taken : (a b n : ℕ) → b ≡ n → n ≤ a → is_taken ops.Bgeu a b ≡ true
unfolding is_taken
bgeu_taken a b n same most = let le : b ≤ a = omega arith in ap not (le-ltb a b le)

bltu_passes : (a b n : ℕ) → b ≡ n → n ≤ a → is_taken ops.Bltu a b ≡ false
unfolding is_taken
bltu_passes a b n same most = let le : b ≤ a = omega arith in le-ltb a b le

pub bltu_taken : (a b n : ℕ) → b ≡ n → a < n → is_taken ops.Bltu a b ≡ true
unfolding is_taken
bltu_taken a b n same less = let lt : a < b = omega arith in lt-ltb a b lt

frees : (d : Data) (code : ℕ → Option Ins) (held : ℕ → Bool) (lo bytes b ra pc at keep : ℕ) (m : State) (word : ℕ → ℕ) → IsRestored held lo bytes b ra pc (record { state = at_place pc m; word = word }) → HasCode code pc at (freeing_ins keep) → register m registers.Sp < b → b ≤ register m registers.Gp
    → ran d code held 4 (record { state = at_place pc m; word = word }) ≡ Some (record { state = at_place ra (written m registers.Sp b); word = word })
frees d code held lo bytes b ra pc at keep m word is has less most =
    let s0 : Situation = record { state = at_place pc m; word = word } in
    let s1 : Situation = record { state = at_place (pc + 4) m; word = word } in
    let s2 : Situation = record { state = at_place (pc + 4 + 4) m; word = word } in
    let s3 : Situation = record { state = at_place (pc + 4 + 4 + 4) (written m registers.Sp b); word = word } in
    let s4 : Situation = record { state = at_place ra (written m registers.Sp b); word = word } in
    let l = is.low in
    let base = is.base in
    let high = base.high in
    let same : (b + 0) % 2 ^ 64 ≡ b = omega arith in
    let sum = ap (λ (n : ℕ). (n + 0) % 2 ^ 64) is.tp ∙ same in
    let ra_is = register-written_other m registers.Sp registers.Ra b (λ e. absurd (omega (arith, e))) ∙ is.ra_is in
    step d code held s0 s1 _ _ 3 4 refl (plain_code code pc _ has.0)
    (passes d held s0 ops.Bgeu registers.Sp registers.Tp (distance at keep) refl (bgeu_passes (register m registers.Sp) (register m registers.Tp) b is.tp less) (omega arith))
    (step d code held s1 s2 _ _ 2 3 refl (plain_code code (pc + 4) _ has.1.0)
    (passes d held s1 ops.Bltu registers.Gp registers.Tp (distance (at + 1) keep) refl (bltu_passes (register m registers.Gp) (register m registers.Tp) b is.tp most) (omega arith))
    (step d code held s2 s3 _ _ 1 2 refl (plain_code code (pc + 4 + 4) _ has.1.1.0)
    (adds d held s2 registers.Sp registers.Tp (pos 0) b refl sum (omega arith))
    (step d code held s3 s4 _ _ 0 1 refl (plain_code code (pc + 4 + 4 + 4) _ has.1.1.1.0)
    (returns d held s3 ra ra_is is.target)
    (stays d code held s4))))

-- the last two instructions
keeps : (d : Data) (code : ℕ → Option Ins) (held : ℕ → Bool) (lo bytes b ra pc at keep : ℕ) (m : State) (word : ℕ → ℕ) → IsRestored held lo bytes b ra pc (record { state = at_place pc m; word = word }) → HasCode code pc at (freeing_ins keep)
    → ran d code held 2 (record { state = at_place (pc + 4 + 4 + 4 + 4) m; word = word }) ≡ Some (record { state = at_place ra m; word = stored (return_word b) 0 word })
keeps d code held lo bytes b ra pc at keep m word is has =
    let s4 : Situation = record { state = at_place (pc + 4 + 4 + 4 + 4) m; word = word } in
    let s5 : Situation = record { state = at_place (pc + 4 + 4 + 4 + 4 + 4) m; word = stored (return_word b) 0 word } in
    let s6 : Situation = record { state = at_place ra m; word = stored (return_word b) 0 word } in
    let l = is.low in
    let base = is.base in
    let high = base.high in
    let holds = is.holds in
    let room = is.room in
    let tp = is.tp in
    let value : register m registers.Tp ≡ b - 0 = omega arith in
    step d code held s4 s5 _ _ 1 2 refl (plain_code code (pc + 4 + 4 + 4 + 4) _ has.1.1.1.1.0)
    (marks_word d held s4 (b - 8) (frame_address lo bytes b 8 0 (register m registers.Tp) base (omega arith) room value) (frame_word lo bytes b 8 base (omega arith) room refl) (frame_held held lo bytes b 8 base holds (omega arith) room refl) (omega arith))
    (step d code held s5 s6 _ _ 0 1 refl (plain_code code (pc + 4 + 4 + 4 + 4 + 4) _ has.1.1.1.1.1.0)
    (returns d held s5 ra is.ra_is is.target)
    (stays d code held s6))

marks_first : (d : Data) (code : ℕ → Option Ins) (held : ℕ → Bool) (lo bytes b ra pc at keep : ℕ) (m : State) (word : ℕ → ℕ) → keep ≡ at + 4 → IsRestored held lo bytes b ra pc (record { state = at_place pc m; word = word }) → HasCode code pc at (freeing_ins keep) → b ≤ register m registers.Sp
    → ran d code held 3 (record { state = at_place pc m; word = word }) ≡ Some (record { state = at_place ra m; word = stored (return_word b) 0 word })
marks_first d code held lo bytes b ra pc at keep m word there is has most =
    let s0 : Situation = record { state = at_place pc m; word = word } in
    let s4 : Situation = record { state = at_place (pc + 4 + 4 + 4 + 4) m; word = word } in
    let l = is.low in
    let target : pc + 4 * 4 ≡ pc + 4 + 4 + 4 + 4 = omega arith in
    step d code held s0 s4 _ _ 2 3 refl (plain_code code pc _ has.0)
    (branches d held s0 ops.Bgeu registers.Sp registers.Tp (distance at keep) (pc + 4 + 4 + 4 + 4) refl (bgeu_taken (register m registers.Sp) (register m registers.Tp) b is.tp most) (forward pc at keep 4 there (omega arith) ∙ target))
    (keeps d code held lo bytes b ra pc at keep m word is has)

marks_second : (d : Data) (code : ℕ → Option Ins) (held : ℕ → Bool) (lo bytes b ra pc at keep : ℕ) (m : State) (word : ℕ → ℕ) → keep ≡ at + 4 → IsRestored held lo bytes b ra pc (record { state = at_place pc m; word = word }) → HasCode code pc at (freeing_ins keep) → register m registers.Sp < b → register m registers.Gp < b
    → ran d code held 4 (record { state = at_place pc m; word = word }) ≡ Some (record { state = at_place ra m; word = stored (return_word b) 0 word })
marks_second d code held lo bytes b ra pc at keep m word there is has less beyond =
    let s0 : Situation = record { state = at_place pc m; word = word } in
    let s1 : Situation = record { state = at_place (pc + 4) m; word = word } in
    let s4 : Situation = record { state = at_place (pc + 4 + 4 + 4 + 4) m; word = word } in
    let l = is.low in
    let target : pc + 4 + 4 * 3 ≡ pc + 4 + 4 + 4 + 4 = omega arith in
    step d code held s0 s1 _ _ 3 4 refl (plain_code code pc _ has.0)
    (passes d held s0 ops.Bgeu registers.Sp registers.Tp (distance at keep) refl (bgeu_passes (register m registers.Sp) (register m registers.Tp) b is.tp less) (omega arith))
    (step d code held s1 s4 _ _ 2 3 refl (plain_code code (pc + 4) _ has.1.0)
    (branches d held s1 ops.Bltu registers.Gp registers.Tp (distance (at + 1) keep) (pc + 4 + 4 + 4 + 4) refl (bltu_taken (register m registers.Gp) (register m registers.Tp) b is.tp beyond) (forward (pc + 4) (at + 1) keep 3 (omega arith) (omega arith) ∙ target))
    (keeps d code held lo bytes b ra pc at keep m word is has))

-- ---- augmented epilogues, behind the first instruction

-- what is known there
pub record IsLeaving (code : ℕ → Option Ins) (held : ℕ → Bool) (lo bytes b : ℕ) (saved : List Reg) (top : State) (word : ℕ → ℕ) (pc at keep : ℕ) : Type 0 where
  pub words : AreWords word
  pub above : AreAbove saved
  pub room : 16 + 8 * length saved ≤ bytes
  pub base : IsBase lo bytes b
  pub holds : HoldsFrame held bytes b
  pub tp : register top registers.Tp ≡ b
  pub long : 1 < length top.registers
  pub low : pc + 4 * (8 + length saved) < 2 ^ 32
  pub keep_is : keep ≡ at + 6 + length saved
  pub code_is : HasCode code pc at (loading_ins saved (freeing_ins keep))
  pub target : IsReturn (word (return_word b))

module _ (d : Data) (code : ℕ → Option Ins) (held : ℕ → Bool) (lo bytes b : ℕ) (saved : List Reg) (top : State) (word : ℕ → ℕ) (pc at keep : ℕ) (is : IsLeaving code held lo bytes b saved top word pc at keep) where
  pub low_is : (q : Reg) → reg_number q < 8 → reg_number q ≢ 1 → register (with_caller word b saved top) q ≡ register top q
  low_is q few other = caller-low word b saved top q is.above few other

  pub restored_is : IsRestored held lo bytes b (word (return_word b)) (loaded_pc pc (length saved)) (record { state = at_place (loaded_pc pc (length saved)) (with_caller word b saved top); word = word })
  restored_is =
      let low = is.low in
      let room = is.room in
      record {
        base = is.base;
        holds = is.holds;
        room = omega arith;
        tp = low_is registers.Tp (omega arith) (λ e. absurd (omega (arith, e))) ∙ is.tp;
        ra_is = caller-ra word b saved top is.above is.long;
        target = is.target;
        low = omega arith;
      }

  leaving_frees : register top registers.Sp < b → b ≤ register top registers.Gp → ran d code held (6 + length saved) (record { state = at_place pc top; word = word }) ≡ Some (record { state = at_place (word (return_word b)) (written (with_caller word b saved top) registers.Sp b); word = word })
  leaving_frees less most =
      let low = is.low in
      let sp = low_is registers.Sp (omega arith) (λ e. absurd (omega (arith, e))) in
      let gp = low_is registers.Gp (omega arith) (λ e. absurd (omega (arith, e))) in
      loading_run d code held lo bytes b saved (freeing_ins keep) top word pc at 4 (6 + length saved) _ is.words is.above is.room is.base is.holds is.tp (omega arith) (omega arith) is.code_is
      (λ rest. frees d code held lo bytes b (word (return_word b)) (loaded_pc pc (length saved)) (at + 1 + length saved + 1) keep (with_caller word b saved top) word restored_is rest (omega arith) (omega arith))

  leaving_first : b ≤ register top registers.Sp → ran d code held (5 + length saved) (record { state = at_place pc top; word = word }) ≡ Some (record { state = at_place (word (return_word b)) (with_caller word b saved top); word = stored (return_word b) 0 word })
  leaving_first most =
      let low = is.low in
      let keep_is = is.keep_is in
      let sp = low_is registers.Sp (omega arith) (λ e. absurd (omega (arith, e))) in
      loading_run d code held lo bytes b saved (freeing_ins keep) top word pc at 3 (5 + length saved) _ is.words is.above is.room is.base is.holds is.tp (omega arith) (omega arith) is.code_is
      (λ rest. marks_first d code held lo bytes b (word (return_word b)) (loaded_pc pc (length saved)) (at + 1 + length saved + 1) keep (with_caller word b saved top) word (omega arith) restored_is rest (omega arith))

  leaving_second : register top registers.Sp < b → register top registers.Gp < b → ran d code held (6 + length saved) (record { state = at_place pc top; word = word }) ≡ Some (record { state = at_place (word (return_word b)) (with_caller word b saved top); word = stored (return_word b) 0 word })
  leaving_second less beyond =
      let low = is.low in
      let keep_is = is.keep_is in
      let sp = low_is registers.Sp (omega arith) (λ e. absurd (omega (arith, e))) in
      let gp = low_is registers.Gp (omega arith) (λ e. absurd (omega (arith, e))) in
      loading_run d code held lo bytes b saved (freeing_ins keep) top word pc at 4 (6 + length saved) _ is.words is.above is.room is.base is.holds is.tp (omega arith) (omega arith) is.code_is
      (λ rest. marks_second d code held lo bytes b (word (return_word b)) (loaded_pc pc (length saved)) (at + 1 + length saved + 1) keep (with_caller word b saved top) word (omega arith) restored_is rest (omega arith) (omega arith))

-- ---- augmented epilogues

pub sides : (a b : ℕ) → (a < b) ⊎ (b ≤ a)
sides a b = grind arith

module _ (d : Data) (code : ℕ → Option Ins) (held : ℕ → Bool) (lo bytes : ℕ) (saved : List Reg) (s : Situation) (at : ℕ) (words : AreWords s.word) (above : AreAbove saved) (room : 16 + 8 * length saved ≤ bytes) (has : HasCode code s.state.pc at (augmented_ins at saved)) (base : IsBase lo bytes (register s.state registers.S0)) (holds : HoldsFrame held bytes (register s.state registers.S0)) (target : IsReturn (s.word (return_word (register s.state registers.S0)))) (stretched : IsStretch s.state.pc (9 + length saved)) where
  abbrev pub b : ℕ
  b = register s.state registers.S0

  abbrev pub top : State
  top = written s.state registers.Tp b

  abbrev pub keep : ℕ
  keep = at + length saved + 7

  -- the code behind the first word
  abbrev pub rest : ℕ → Option Ins
  rest = cut code (s.state.pc + 4) (8 + length saved)

  pub is_leaving : IsLeaving rest held lo bytes b saved top s.word (s.state.pc + 4) (at + 1) keep
  is_leaving =
      let low = stretched.below in
      let stack = base.stack in
      let inside = base.room in
      let there = register-within s.state registers.S0 (omega arith) in
      let longer = length-written s.state registers.Tp b in
      let long = length-loading saved (freeing_ins keep) in
      record {
        words = words;
        above = above;
        room = room;
        base = base;
        holds = holds;
        tp = register-written_same s.state registers.Tp b (omega arith) refl;
        long = omega arith;
        low = omega arith;
        keep_is = omega arith;
        code_is = has-cut code (s.state.pc + 4) (8 + length saved) (s.state.pc + 4) (at + 1) (loading_ins saved (freeing_ins keep)) 0 (omega arith) (omega arith) (loading_code code s.state.pc at saved (freeing_ins keep) has);
        target = target;
      }

  -- the first instruction, and the rest behind it
  pub leaves : (n count : ℕ) (t : Situation) → count ≡ suc n → ran d rest held n (record { state = at_place (s.state.pc + 4) top; word = s.word }) ≡ Some t → RunsStretch d code held (9 + length saved) count s t
  leaves n count t counts goes =
      let low = stretched.below in
      let high = base.high in
      let same : (b + 0) % 2 ^ 64 ≡ b = omega arith in
      stretch d code held (9 + length saved) (8 + length saved) n count s (after s registers.Tp b) t _ (omega arith) counts
      (plain_code code s.state.pc _ has.0)
      (adds d held s registers.Tp registers.S0 (pos 0) b refl same (omega arith))
      goes

  pub apart : (q : Reg) → reg_number q < 4 → register top q ≡ register s.state q
  apart q few = register-written_other s.state registers.Tp q b (λ e. absurd (omega (arith, e)))

  augmented_frees : register s.state registers.Sp < b → b ≤ register s.state registers.Gp → RunsStretch d code held (9 + length saved) (7 + length saved) s (record { state = at_place (s.word (return_word b)) (written (with_caller s.word b saved top) registers.Sp b); word = s.word })
  augmented_frees less most =
      let sp = apart registers.Sp (omega arith) in
      let gp = apart registers.Gp (omega arith) in
      leaves (6 + length saved) (7 + length saved) _ (omega arith) (leaving_frees d rest held lo bytes b saved top s.word (s.state.pc + 4) (at + 1) keep is_leaving (omega arith) (omega arith))

  abbrev Marks : ℕ → Type 0
  Marks count = RunsStretch d code held (9 + length saved) count s (record { state = at_place (s.word (return_word b)) (with_caller s.word b saved top); word = stored (return_word b) 0 s.word })

  marked_first : b ≤ register s.state registers.Sp → Marks (6 + length saved)
  marked_first most =
      let sp = apart registers.Sp (omega arith) in
      leaves (5 + length saved) (6 + length saved) _ (omega arith) (leaving_first d rest held lo bytes b saved top s.word (s.state.pc + 4) (at + 1) keep is_leaving (omega arith))

  marked_second : register s.state registers.Sp < b → register s.state registers.Gp < b → Marks (7 + length saved)
  marked_second less beyond =
      let sp = apart registers.Sp (omega arith) in
      let gp = apart registers.Gp (omega arith) in
      leaves (6 + length saved) (7 + length saved) _ (omega arith) (leaving_second d rest held lo bytes b saved top s.word (s.state.pc + 4) (at + 1) keep is_leaving (omega arith) (omega arith))

  augmented_marks : (b ≤ register s.state registers.Sp) ⊎ (register s.state registers.Gp < b) → (count : ℕ) × (count ≤ 7 + length saved) × Marks count
  augmented_marks (inl most) = (6 + length saved, omega arith, marked_first most)
  augmented_marks (inr beyond) = elim (sides (register s.state registers.Sp) b) [ inl less ↦ (7 + length saved, omega arith, marked_second less beyond) | inr most ↦ (6 + length saved, omega arith, marked_first most) ]

pub augmented_law : RunsAugmented
augmented_law d code held function s lo at words has code_is base holds target stretched = (
  augmented_frees d code held lo function.frame_bytes (saved_of function) s at words (saved_above function) (saved_fit function has) code_is base holds target stretched,
  augmented_marks d code held lo function.frame_bytes (saved_of function) s at words (saved_above function) (saved_fit function has) code_is base holds target stretched,
)
