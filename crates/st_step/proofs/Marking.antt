-- An augmented epilogue that marks its frame comes to the mark with the caller's registers (to_mark_law): the loads are run, and then one of the two
-- branches to the mark is taken. What the mark and the jump back behind it do is told by marks_move and back_move.
use Rattle.std.proofs.Common.{◌≡◌, ◌⊎◌, ℕ, ◌+◌, ◌-◌, ◌*◌, ◌/◌, ◌%◌, ◌^◌, ◌<◌, ◌≤◌, pos, Bool, List, [], ◌∷◌, length, Option, Some, suc, ap, ◌∙◌, subst, refl, arith, inl, inr, length-append, if◌then◌else◌}
use Rattle.std.proofs.lemmas.Bool.{lt-ltb}
use Rattle.std.proofs.Math.Nat.{mod-eq_of_lt}
use Rattle.st_base.specs.declared.reg.Reg.{Reg}
use Rattle.st_base.specs.declared.reg.Reg.TheVariants as registers
use Rattle.st_rv.specs.declared.ins.Op.TheVariants as ops
use Rattle.st_rv.specs.declared.ins.Ins.{Ins}
use Rattle.st_rv.specs.Results.{word_of, access_size}
use Rattle.st_model.specs.Memory.{Data}
use Rattle.st_model.specs.Layout.{saved_of, augmented_ins, restoring_ins, freeing_ins, loads, ld, below, distance}
use Rattle.st_words.specs.Steps.{place_of}
use Rattle.st_step.specs.declared.state.State.{State}
use Rattle.st_step.specs.Moves.{Goes, Marks, Outside, move_of, register, written, at_place, goes_on, word_store, stack_store, indirect_move}
use Rattle.st_step.specs.Runs.{Situation, AreWords, IsStretch, IsBase, HoldsFrame, IsReturn, HasCode, RunsStretch, with_caller, return_word, mark_ins, back_ins, at_mark, IsAtMark, RunsToMark}
use Rattle.st_step.proofs.SavedList.{AreAbove, saved_above, saved_fit}
use Rattle.st_step.proofs.Paths.{ran}
use Rattle.st_step.proofs.Straight.{IsWordAddress, in_word, plain_code, code_behind, step, stays, branches, passes}
use Rattle.st_step.proofs.Prologues.{frame_word, frame_address}
use Rattle.st_step.proofs.Restoring.{length-loads, loaded_pc, loading_run, caller-ra}
use Rattle.st_step.proofs.Freeing.{IsRestored, IsLeaving, forward, bgeu_passes, bgeu_taken, bltu_taken, low_is, restored_is, is_leaving, rest as code_left, leaves, apart, sides}

-- ---- the two instructions

marks_move : (d : Data) (m : State) (a : ℕ) → (register m registers.Tp + word_of (below 8)) % 2 ^ 64 ≡ a → IsWordAddress a → move_of d m mark_ins ≡ Marks (place_of a) (goes_on m)
unfolding move_of access_size
marks_move d m a address is = ap (λ (x : ℕ). stack_store m mark_ins x) address ∙ ap (λ (b : Bool). if b then word_store m mark_ins (place_of a) else Outside) (in_word a is)

back_move : (d : Data) (m : State) (n : ℕ) → register m registers.Ra ≡ n → IsReturn n → move_of d m back_ins ≡ Goes (at_place n m)
unfolding move_of
back_move d m n same is =
    let few = is.below in
    let fours = is.multiple in
    let e : (n + 0) % 2 ^ 64 ≡ n = omega arith in
    let even : n / 2 * 2 ≡ n = omega arith in
    ap (λ (x : ℕ). indirect_move m back_ins ((x + 0) % 2 ^ 64)) same
    ∙ ap (λ (x : ℕ). indirect_move m back_ins x) e
    ∙ ap (λ (b : Bool). if b then Goes (at_place (n / 2 * 2) m) else Outside) (lt-ltb n (2 ^ 32) few)
    ∙ ap (λ (x : ℕ). Goes (at_place x m)) even

-- ---- the freeing part, from the caller's registers with the base b in tp

first_branch : (d : Data) (code : ℕ → Option Ins) (held : ℕ → Bool) (lo bytes b ra pc at keep : ℕ) (m : State) (word : ℕ → ℕ) → keep ≡ at + 4 → IsRestored held lo bytes b ra pc (record { state = at_place pc m; word = word }) → HasCode code pc at (freeing_ins keep) → b ≤ register m registers.Sp
    → ran d code held 1 (record { state = at_place pc m; word = word }) ≡ Some (record { state = at_place (pc + 4 + 4 + 4 + 4) m; word = word })
first_branch d code held lo bytes b ra pc at keep m word there is has most =
    let s0 : Situation = record { state = at_place pc m; word = word } in
    let s4 : Situation = record { state = at_place (pc + 4 + 4 + 4 + 4) m; word = word } in
    let l = is.low in
    let target : pc + 4 * 4 ≡ pc + 4 + 4 + 4 + 4 = omega arith in
    step d code held s0 s4 _ _ 0 1 refl (plain_code code pc _ has.0)
    (branches d held s0 ops.Bgeu registers.Sp registers.Tp (distance at keep) (pc + 4 + 4 + 4 + 4) refl (bgeu_taken (register m registers.Sp) (register m registers.Tp) b is.tp most) (forward pc at keep 4 there (omega arith) ∙ target))
    (stays d code held s4)

second_branch : (d : Data) (code : ℕ → Option Ins) (held : ℕ → Bool) (lo bytes b ra pc at keep : ℕ) (m : State) (word : ℕ → ℕ) → keep ≡ at + 4 → IsRestored held lo bytes b ra pc (record { state = at_place pc m; word = word }) → HasCode code pc at (freeing_ins keep) → register m registers.Sp < b → register m registers.Gp < b
    → ran d code held 2 (record { state = at_place pc m; word = word }) ≡ Some (record { state = at_place (pc + 4 + 4 + 4 + 4) m; word = word })
second_branch d code held lo bytes b ra pc at keep m word there is has less beyond =
    let s0 : Situation = record { state = at_place pc m; word = word } in
    let s1 : Situation = record { state = at_place (pc + 4) m; word = word } in
    let s4 : Situation = record { state = at_place (pc + 4 + 4 + 4 + 4) m; word = word } in
    let l = is.low in
    let target : pc + 4 + 4 * 3 ≡ pc + 4 + 4 + 4 + 4 = omega arith in
    step d code held s0 s1 _ _ 1 2 refl (plain_code code pc _ has.0)
    (passes d held s0 ops.Bgeu registers.Sp registers.Tp (distance at keep) refl (bgeu_passes (register m registers.Sp) (register m registers.Tp) b is.tp less) (omega arith))
    (step d code held s1 s4 _ _ 0 1 refl (plain_code code (pc + 4) _ has.1.0)
    (branches d held s1 ops.Bltu registers.Gp registers.Tp (distance (at + 1) keep) (pc + 4 + 4 + 4 + 4) refl (bltu_taken (register m registers.Gp) (register m registers.Tp) b is.tp beyond) (forward (pc + 4) (at + 1) keep 3 (omega arith) (omega arith) ∙ target))
    (stays d code held s4))

-- ---- augmented epilogues, behind the first instruction

module _ (d : Data) (code : ℕ → Option Ins) (held : ℕ → Bool) (lo bytes b : ℕ) (saved : List Reg) (top : State) (word : ℕ → ℕ) (pc at keep : ℕ) (is : IsLeaving code held lo bytes b saved top word pc at keep) where
  -- at the mark
  abbrev marking : Situation
  marking = record { state = at_place (loaded_pc pc (length saved) + 4 + 4 + 4 + 4) (with_caller word b saved top); word = word }

  comes_first : b ≤ register top registers.Sp → ran d code held (3 + length saved) (record { state = at_place pc top; word = word }) ≡ Some marking
  comes_first most =
      let low = is.low in
      let keep_is = is.keep_is in
      let sp = low_is d code held lo bytes b saved top word pc at keep is registers.Sp (omega arith) (λ e. absurd (omega (arith, e))) in
      loading_run d code held lo bytes b saved (freeing_ins keep) top word pc at 1 (3 + length saved) _ is.words is.above is.room is.base is.holds is.tp (omega arith) (omega arith) is.code_is
      (λ rest. first_branch d code held lo bytes b (word (return_word b)) (loaded_pc pc (length saved)) (at + 1 + length saved + 1) keep (with_caller word b saved top) word (omega arith) (restored_is d code held lo bytes b saved top word pc at keep is) rest (omega arith))

  comes_second : register top registers.Sp < b → register top registers.Gp < b → ran d code held (4 + length saved) (record { state = at_place pc top; word = word }) ≡ Some marking
  comes_second less beyond =
      let low = is.low in
      let keep_is = is.keep_is in
      let sp = low_is d code held lo bytes b saved top word pc at keep is registers.Sp (omega arith) (λ e. absurd (omega (arith, e))) in
      let gp = low_is d code held lo bytes b saved top word pc at keep is registers.Gp (omega arith) (λ e. absurd (omega (arith, e))) in
      loading_run d code held lo bytes b saved (freeing_ins keep) top word pc at 2 (4 + length saved) _ is.words is.above is.room is.base is.holds is.tp (omega arith) (omega arith) is.code_is
      (λ rest. second_branch d code held lo bytes b (word (return_word b)) (loaded_pc pc (length saved)) (at + 1 + length saved + 1) keep (with_caller word b saved top) word (omega arith) (restored_is d code held lo bytes b saved top word pc at keep is) rest (omega arith) (omega arith))

-- ---- augmented epilogues

length-restoring : (saved : List Reg) → length (restoring_ins saved) ≡ 3 + length saved
length-restoring saved =
    let all = length-append (loads registers.Tp (pos 0) 0 saved) (ld registers.S0 (below 16) registers.Tp ∷ []) in
    let few = length-loads registers.Tp (pos 0) 0 saved in
    omega arith

module _ (d : Data) (code : ℕ → Option Ins) (held : ℕ → Bool) (lo bytes : ℕ) (saved : List Reg) (s : Situation) (at : ℕ) (words : AreWords s.word) (above : AreAbove saved) (room : 16 + 8 * length saved ≤ bytes) (has : HasCode code s.state.pc at (augmented_ins at saved)) (base : IsBase lo bytes (register s.state registers.S0)) (holds : HoldsFrame held bytes (register s.state registers.S0)) (target : IsReturn (s.word (return_word (register s.state registers.S0)))) (stretched : IsStretch s.state.pc (9 + length saved)) where
  abbrev b : ℕ
  b = register s.state registers.S0

  abbrev top : State
  top = written s.state registers.Tp b

  abbrev keep : ℕ
  keep = at + length saved + 7

  -- the code behind the first word, as Freeing has it
  abbrev behind : ℕ → Option Ins
  behind = code_left d code held lo bytes saved s at words above room has base holds target stretched

  is : IsLeaving behind held lo bytes b saved top s.word (s.state.pc + 4) (at + 1) keep
  is = is_leaving d code held lo bytes saved s at words above room has base holds target stretched

  -- the place of the mark
  place_is : loaded_pc (s.state.pc + 4) (length saved) + 4 + 4 + 4 + 4 ≡ s.state.pc + 4 * (7 + length saved)
  place_is = omega arith

  abbrev Comes : ℕ → Type 0
  Comes count = RunsStretch d code held (9 + length saved) count s (at_mark saved s)

  comes_by : (n count : ℕ) → count ≡ suc n → ran d behind held n (record { state = at_place (s.state.pc + 4) top; word = s.word }) ≡ Some (marking d behind held lo bytes b saved top s.word (s.state.pc + 4) (at + 1) keep is) → Comes count
  comes_by n count counts goes =
      leaves d code held lo bytes saved s at words above room has base holds target stretched n count (at_mark saved s) counts
      (goes ∙ ap (λ (k : ℕ). Some (record { state = at_place k (with_caller s.word b saved top); word = s.word })) place_is)

  to_first : b ≤ register s.state registers.Sp → Comes (4 + length saved)
  to_first most =
      let sp = apart d code held lo bytes saved s at words above room has base holds target stretched registers.Sp (omega arith) in
      comes_by (3 + length saved) (4 + length saved) (omega arith) (comes_first d behind held lo bytes b saved top s.word (s.state.pc + 4) (at + 1) keep is (omega arith))

  to_second : register s.state registers.Sp < b → register s.state registers.Gp < b → Comes (5 + length saved)
  to_second less beyond =
      let sp = apart d code held lo bytes saved s at words above room has base holds target stretched registers.Sp (omega arith) in
      let gp = apart d code held lo bytes saved s at words above room has base holds target stretched registers.Gp (omega arith) in
      comes_by (4 + length saved) (5 + length saved) (omega arith) (comes_second d behind held lo bytes b saved top s.word (s.state.pc + 4) (at + 1) keep is (omega arith) (omega arith))

  to_mark : (b ≤ register s.state registers.Sp) ⊎ (register s.state registers.Gp < b) → (count : ℕ) × (count ≤ 5 + length saved) × Comes count
  to_mark (inl most) = (4 + length saved, omega arith, to_first most)
  to_mark (inr beyond) = elim (sides (register s.state registers.Sp) b) [ inl less ↦ (5 + length saved, omega arith, to_second less beyond) | inr most ↦ (4 + length saved, omega arith, to_first most) ]

  is_at_mark : IsAtMark d code b (at_mark saved s)
  is_at_mark =
      let low = stretched.below in
      let high = base.high in
      let ra = caller-ra s.word b saved top above is.long in
      let tp = low_is d behind held lo bytes b saved top s.word (s.state.pc + 4) (at + 1) keep is registers.Tp (omega arith) (λ e. absurd (omega (arith, e))) ∙ is.tp in
      let freeing = code_behind code s.state.pc at (3 + length saved) (restoring_ins saved) (freeing_ins keep) (length-restoring saved) has in
      let here : s.state.pc + 4 * (3 + length saved) + 4 + 4 + 4 + 4 ≡ s.state.pc + 4 * (7 + length saved) = omega arith in
      let value : register (with_caller s.word b saved top) registers.Tp ≡ b - 0 = omega arith in
      let m = at_place (s.state.pc + 4 * (7 + length saved)) (with_caller s.word b saved top) in
      record {
        tp = tp;
        ra = ra;
        mark = subst (λ (k : ℕ). code k ≡ Some mark_ins) here (plain_code code (s.state.pc + 4 * (3 + length saved) + 4 + 4 + 4 + 4) _ freeing.1.1.1.1.0);
        marks = marks_move d m (b - 8) (frame_address lo bytes b 8 0 (register m registers.Tp) base (omega arith) (omega arith) value) (frame_word lo bytes b 8 base (omega arith) (omega arith) refl);
        next = mod-eq_of_lt (omega arith);
        back = subst (λ (k : ℕ). code (k + 4) ≡ Some back_ins) here (plain_code code (s.state.pc + 4 * (3 + length saved) + 4 + 4 + 4 + 4 + 4) _ freeing.1.1.1.1.1.0);
        goes = back_move d (goes_on m) (s.word (return_word b)) ra target;
      }

pub to_mark_law : RunsToMark
to_mark_law d code held function s lo at words has code_is base holds target stretched why = (
  to_mark d code held lo function.frame_bytes (saved_of function) s at words (saved_above function) (saved_fit function has) code_is base holds target stretched why,
  is_at_mark d code held lo function.frame_bytes (saved_of function) s at words (saved_above function) (saved_fit function has) code_is base holds target stretched,
)
