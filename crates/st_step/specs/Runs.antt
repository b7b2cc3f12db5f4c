-- What stretches of laid out code do on the machine with its stack words: a prologue, an epilogue as written, an augmented epilogue, a pure
-- copy, and `li`. Read RunsStretch (a stretch is run from its first word, and no place on the way begins another stretch), HasCode (the code at an
-- address), and the laws: RunsPrologue, RunsEpilogue, RunsPureCopy, RunsAugmented, RunsToMark (its run split at the mark), RunsLi. A frame has its base b at the value of sp before
-- its prologue: the return address stands at b - 8, the caller's s0 at b - 16, the k-th saved register at b - 24 - 8k. Its words may lie on
-- the machine's own stack or on another: the stack that a base is on is told by its low end alone.
use Rattle.std.specs.Prelude.{Bool, true, false, ◌≡◌, ◌⊎◌, ℕ, zero, suc, ◌+◌, ◌*◌, ◌-◌, ◌%◌, ◌^◌, ◌<◌, ◌≤◌, ℤ, pos, ◌==◌, List, [], ◌∷◌, length, Option, Some, None, slice_index, if◌then◌else◌}
use Rattle.st_base.specs.declared.reg.Reg.{Reg}
use Rattle.st_base.specs.declared.reg.Reg.TheVariants as registers
use Rattle.st_rv.specs.declared.ins.Ins.{Ins}
use Rattle.st_rv.specs.declared.ins.Op.TheVariants as ops
use Rattle.st_rv.specs.Results.{word_of}
use Rattle.st_model.specs.Memory.{Data}
use Rattle.st_model.specs.declared.program.ProgramFunction.{ProgramFunction}
use Rattle.st_model.specs.declared.code.PostedIns.{PostedIns}
use Rattle.st_model.specs.declared.code.PostedIns.TheVariants as posted
use Rattle.st_model.specs.Accepted.{HasFrame}
use Rattle.st_model.specs.Layout.{saved_of, prologue_ins, epilogue_ins, augmented_ins, pure_copy_ins, li_ins, branch_ins, store_ins, immediate_ins, below, distance, IsWordValue}
use Rattle.st_words.specs.Steps.{place_of}
use Rattle.st_step.specs.declared.state.State.{State}
use Rattle.st_step.specs.Moves.{Move, Goes, Reads, Writes, Marks, Stops, Outside, move_of, register, written, at_place, goes_on, next_pc}

-- ---- runs

-- the machine, and the words of the stacks by their places
pub record Situation : Type 0 where
  pub state : State
  pub word : ℕ → ℕ

-- 32 registers, of which zero is 0
pub record HasRegisters (m : State) : Type 0 where
  pub count : length m.registers ≡ 32
  pub origin : register m registers.Zero ≡ 0

-- so that a load gives all of a word
abbrev pub AreWords : (ℕ → ℕ) → Type 0
AreWords word = (q : ℕ) → word q < 2 ^ 64

-- each register is below 2 ^ 64
abbrev pub AreValues : State → Type 0
AreValues m = (x : ℕ) → slice_index m.registers x < 2 ^ 64

abbrev pub stored : ℕ → ℕ → (ℕ → ℕ) → ℕ → ℕ
stored p n word q = if q == p then n else word q

-- a word that isn't held is not spoken of
abbrev pub where_held : Bool → Situation → Option Situation
where_held true s = Some s
where_held false s = None

-- after a move, where the words of these places are held; none where it stops, or speaks of a word that isn't held
abbrev pub moved : (ℕ → Bool) → Situation → Move → Option Situation
moved held s (Goes m) = Some (record { state = m; word = s.word })
moved held s (Reads p go) = where_held (held p) (record { state = go (s.word p); word = s.word })
moved held s (Writes p n m) = where_held (held p) (record { state = m; word = stored p n s.word })
moved held s (Marks p m) = where_held (held p) (record { state = m; word = stored p 0 s.word })
moved held s (Stops end) = None
moved held s Outside = None

abbrev pub moved_by : Data → (ℕ → Bool) → Situation → Option Ins → Option Situation
moved_by d held s None = None
moved_by d held s (Some i) = moved held s (move_of d s.state i)

-- the place is that of one of so many words from an address on
pub record IsAmong (from words place : ℕ) : Type 0 where
  pub k : ℕ
  pub few : k < words
  pub at : place ≡ from + 4 * k

-- so many instructions lead from one situation to another: each is the one at the pc, stands among so many words from an address on, and speaks of
-- held words alone
abbrev pub Path : Data → (ℕ → Option Ins) → (ℕ → Bool) → ℕ → ℕ → ℕ → Situation → Situation → Type 0
Path d code held from words zero s t = s ≡ t
Path d code held from words (suc n) s t = IsAmong from words s.state.pc × ((u : Situation) × (moved_by d held s (code s.state.pc) ≡ Some u) × Path d code held from words n u t)

-- A stretch of so many words that begins at the pc is run by so many instructions: the first is that of its first word, and each of the others is that
-- of a later one, so that no place on the way begins an item. (`count` may be less than `words`, where some are jumped over.)
pub record RunsStretch (d : Data) (code : ℕ → Option Ins) (held : ℕ → Bool) (words count : ℕ) (s t : Situation) : Type 0 where
  pub rest : ℕ
  pub counts : count ≡ suc rest
  pub first : Situation
  pub begins : moved_by d held s (code s.state.pc) ≡ Some first
  pub path : Path d code held (s.state.pc + 4) (words - 1) rest first t

-- the instruction of a word that names no function and no entry, the word `at` of its function
abbrev pub local_ins : ℕ → PostedIns → Option Ins
local_ins at (posted.Plain i) = Some i
local_ins at (posted.Branch op rs1 rs2 to) = Some (branch_ins op rs1 rs2 (distance at to))
local_ins at _ = None

-- these instructions stand at an address, which is that of the word `at` of their function
abbrev pub HasCode : (ℕ → Option Ins) → ℕ → ℕ → List PostedIns → Type 0
HasCode code pc at [] = Prim.Unit
HasCode code pc at (i ∷ is) = ((x : Ins) × (local_ins at i ≡ Some x) × (code pc ≡ Some x)) × HasCode code (pc + 4) (at + 1) is

-- ---- frames in memory

-- a base that a frame of so many bytes may have on a stack that begins at lo
pub record IsBase (lo bytes b : ℕ) : Type 0 where
  pub multiple : b % 16 ≡ 0
  pub stack : 0x8000_0000 ≤ lo
  pub room : lo + bytes ≤ b
  pub high : b < 0x8000_0000 + 2 ^ 32

-- all words of the frame of so many bytes with this base are held
abbrev pub HoldsFrame : (ℕ → Bool) → ℕ → ℕ → Type 0
HoldsFrame held bytes b = (q : ℕ) → place_of (b - bytes) ≤ q → q < place_of b → held q ≡ true

-- a stretch of so many instructions from an address lies below 2 ^ 32
pub record IsStretch (pc count : ℕ) : Type 0 where
  pub below : pc + 4 * count < 2 ^ 32

-- a return address
pub record IsReturn (n : ℕ) : Type 0 where
  pub multiple : n % 4 ≡ 0
  pub below : n < 2 ^ 32

abbrev pub return_word : ℕ → ℕ
return_word b = place_of (b - 8)

abbrev pub caller_word : ℕ → ℕ
caller_word b = place_of (b - 16)

abbrev pub saved_word : ℕ → ℕ → ℕ
saved_word b k = place_of (b - (24 + 8 * k))

-- the registers are stored as the k-th saved ones and on
abbrev pub with_saved : State → ℕ → ℕ → List Reg → (ℕ → ℕ) → ℕ → ℕ
with_saved m b k [] word = word
with_saved m b k (r ∷ rs) word = with_saved m b (k + 1) rs (stored (saved_word b k) (register m r) word)

-- the words that a prologue makes
abbrev pub with_frame : State → ℕ → List Reg → (ℕ → ℕ) → ℕ → ℕ
with_frame m b saved word = with_saved m b 0 saved (stored (caller_word b) (register m registers.S0) (stored (return_word b) (register m registers.Ra) word))

-- the registers are loaded from there
abbrev pub restored : (ℕ → ℕ) → ℕ → ℕ → List Reg → State → State
restored word b k [] m = m
restored word b k (r ∷ rs) m = restored word b (k + 1) rs (written m r (word (saved_word b k)))

-- the caller's registers: ra, the saved ones and s0, from the frame with base b
abbrev pub with_caller : (ℕ → ℕ) → ℕ → List Reg → State → State
with_caller word b saved m = written (restored word b 0 saved (written m registers.Ra (word (return_word b)))) registers.S0 (word (caller_word b))

-- ---- marks

-- the mark of the frame whose base is in tp
abbrev pub mark_ins : Ins
mark_ins = store_ins ops.Sd registers.Tp registers.Zero (below 8)

-- the jump to the return place in ra
abbrev pub back_ins : Ins
back_ins = immediate_ins ops.Jalr registers.Zero registers.Ra (pos 0)

-- from the first word of an augmented epilogue to the word of its mark, which is its last but one: the caller's registers are loaded
abbrev pub at_mark : List Reg → Situation → Situation
at_mark saved s = record {
  state = at_place (s.state.pc + 4 * (7 + length saved)) (with_caller s.word (register s.state registers.S0) saved (written s.state registers.Tp (register s.state registers.S0)));
  word = s.word;
}

-- at the mark of the frame with base b. Behind it stands the jump back, which reads no word: its place is in ra already.
pub record IsAtMark (d : Data) (code : ℕ → Option Ins) (b : ℕ) (s : Situation) : Type 0 where
  pub tp : register s.state registers.Tp ≡ b
  pub ra : register s.state registers.Ra ≡ s.word (return_word b)
  pub mark : code s.state.pc ≡ Some mark_ins
  pub marks : move_of d s.state mark_ins ≡ Marks (return_word b) (goes_on s.state)
  pub next : next_pc s.state.pc ≡ s.state.pc + 4
  pub back : code (s.state.pc + 4) ≡ Some back_ins
  pub goes : move_of d (goes_on s.state) back_ins ≡ Goes (at_place (s.word (return_word b)) s.state)

-- ---- the laws

-- a prologue makes a frame at sp and leaves s0 at its base
abbrev pub RunsPrologue : Type 0
RunsPrologue = (d : Data) (code : ℕ → Option Ins) (held : ℕ → Bool) (function : ProgramFunction) (s : Situation) (at : ℕ) → HasFrame function → HasCode code s.state.pc at (prologue_ins function.frame_bytes (saved_of function)) → IsBase s.state.lo function.frame_bytes (register s.state registers.Sp) → HoldsFrame held function.frame_bytes (register s.state registers.Sp) → IsStretch s.state.pc (4 + length (saved_of function)) → RunsStretch d code held (4 + length (saved_of function)) (4 + length (saved_of function)) s (record {
  state = at_place (s.state.pc + 4 * (4 + length (saved_of function))) (written (written s.state registers.Sp (register s.state registers.Sp - function.frame_bytes)) registers.S0 (register s.state registers.Sp));
  word = with_frame s.state (register s.state registers.Sp) (saved_of function) s.word;
})

-- an epilogue as written gives the caller's registers, frees the frame, whose base is b, and returns
abbrev pub RunsEpilogue : Type 0
RunsEpilogue = (d : Data) (code : ℕ → Option Ins) (held : ℕ → Bool) (function : ProgramFunction) (s : Situation) (lo at b : ℕ) → AreWords s.word → HasFrame function → HasCode code s.state.pc at (epilogue_ins function.frame_bytes (saved_of function)) → IsBase lo function.frame_bytes b → HoldsFrame held function.frame_bytes b → register s.state registers.Sp ≡ b - function.frame_bytes → IsReturn (s.word (return_word b)) → IsStretch s.state.pc (4 + length (saved_of function)) → RunsStretch d code held (4 + length (saved_of function)) (4 + length (saved_of function)) s (record {
  state = at_place (s.word (return_word b)) (written (with_caller s.word b (saved_of function) s.state) registers.Sp b);
  word = s.word;
})

-- a pure copy gives the caller's registers from the frame whose base is s0, on whichever stack it lies, leaves sp, changes no word, and returns;
-- tp has the base
abbrev pub RunsPureCopy : Type 0
RunsPureCopy = (d : Data) (code : ℕ → Option Ins) (held : ℕ → Bool) (function : ProgramFunction) (s : Situation) (lo at : ℕ) → AreWords s.word → HasFrame function → HasCode code s.state.pc at (pure_copy_ins (saved_of function)) → IsBase lo function.frame_bytes (register s.state registers.S0) → HoldsFrame held function.frame_bytes (register s.state registers.S0) → IsReturn (s.word (return_word (register s.state registers.S0))) → IsStretch s.state.pc (4 + length (saved_of function)) → RunsStretch d code held (4 + length (saved_of function)) (4 + length (saved_of function)) s (record {
  state = at_place (s.word (return_word (register s.state registers.S0))) (with_caller s.word (register s.state registers.S0) (saved_of function) (written s.state registers.Tp (register s.state registers.S0)));
  word = s.word;
})

-- an augmented epilogue gives the same registers, from a frame on whichever stack. Exactly where sp is below the base and the base is at most gp, it
-- sets sp to the base and changes no word; else it stores 0 to the return word, changes no other word, and leaves sp. It has nine words beside those
-- that load saved registers, of which at most seven are run.
abbrev pub RunsAugmented : Type 0
RunsAugmented = (d : Data) (code : ℕ → Option Ins) (held : ℕ → Bool) (function : ProgramFunction) (s : Situation) (lo at : ℕ) → AreWords s.word → HasFrame function → HasCode code s.state.pc at (augmented_ins at (saved_of function)) → IsBase lo function.frame_bytes (register s.state registers.S0) → HoldsFrame held function.frame_bytes (register s.state registers.S0) → IsReturn (s.word (return_word (register s.state registers.S0))) → IsStretch s.state.pc (9 + length (saved_of function)) → (register s.state registers.Sp < register s.state registers.S0 → register s.state registers.S0 ≤ register s.state registers.Gp → RunsStretch d code held (9 + length (saved_of function)) (7 + length (saved_of function)) s (record {
  state = at_place (s.word (return_word (register s.state registers.S0))) (written (with_caller s.word (register s.state registers.S0) (saved_of function) (written s.state registers.Tp (register s.state registers.S0))) registers.Sp (register s.state registers.S0));
  word = s.word;
})) × ((register s.state registers.S0 ≤ register s.state registers.Sp) ⊎ (register s.state registers.Gp < register s.state registers.S0) → (count : ℕ) × (count ≤ 7 + length (saved_of function)) × RunsStretch d code held (9 + length (saved_of function)) count s (record {
  state = at_place (s.word (return_word (register s.state registers.S0))) (with_caller s.word (register s.state registers.S0) (saved_of function) (written s.state registers.Tp (register s.state registers.S0)));
  word = stored (return_word (register s.state registers.S0)) 0 s.word;
}))

-- where an augmented epilogue marks its frame, a run of it comes to the mark first, and has changed no word there
abbrev pub RunsToMark : Type 0
RunsToMark = (d : Data) (code : ℕ → Option Ins) (held : ℕ → Bool) (function : ProgramFunction) (s : Situation) (lo at : ℕ) → AreWords s.word → HasFrame function → HasCode code s.state.pc at (augmented_ins at (saved_of function)) → IsBase lo function.frame_bytes (register s.state registers.S0) → HoldsFrame held function.frame_bytes (register s.state registers.S0) → IsReturn (s.word (return_word (register s.state registers.S0))) → IsStretch s.state.pc (9 + length (saved_of function)) → (register s.state registers.S0 ≤ register s.state registers.Sp) ⊎ (register s.state registers.Gp < register s.state registers.S0)
    → ((count : ℕ) × (count ≤ 5 + length (saved_of function)) × RunsStretch d code held (9 + length (saved_of function)) count s (at_mark (saved_of function) s)) × IsAtMark d code (register s.state registers.S0) (at_mark (saved_of function) s)

-- the words of `li` give its value
abbrev pub RunsLi : Type 0
RunsLi = (d : Data) (code : ℕ → Option Ins) (held : ℕ → Bool) (s : Situation) (at : ℕ) (rd : Reg) (value : ℤ) → HasRegisters s.state → IsWordValue value → HasCode code s.state.pc at (li_ins rd value) → IsStretch s.state.pc (length (li_ins rd value)) → RunsStretch d code held (length (li_ins rd value)) (length (li_ins rd value)) s (record { state = at_place (s.state.pc + 4 * length (li_ins rd value)) (written s.state rd (word_of value)); word = s.word })
