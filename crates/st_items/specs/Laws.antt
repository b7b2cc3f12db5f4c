-- Laws of laid out code that name no context, for either layout. Of code: CodesFit, CodeOfItems, ItemsLieLow, ItemsFollow and NoEntries (where items
-- stand), ImagesTell and RowsFound (what an image has of them). Of jumps: CallsJump, GotosJump, EntriesJump, ForksJump, BranchesGo and
-- ThirdsEnd. Of ways: StretchesLead, and CopiesLead and CopiesRead for pure copies. Of frames: FramesFound (what a prologue stores is found again), FramesAlone
-- (and nothing else is changed) and WritesHidden (callers see no write of the registers that a function may
-- write).
use Rattle.std.specs.Prelude.{◌≡◌, ℕ, ◌+◌, ◌-◌, ◌*◌, ◌<◌, ◌≤◌, ◌==◌, Bool, true, false, List, length, replicate, Some, slice_get}
use Rattle.st_base.specs.declared.image.Image.{Image}
use Rattle.st_base.specs.declared.reg.Reg.{Reg}
use Rattle.st_base.specs.declared.reg.Reg.TheVariants as registers
use Rattle.st_base.specs.declared.thread.Activation.{Activation}
use Rattle.st_base.specs.declared.thread.ActivationKind.TheVariants.{Forked}
use Rattle.st_rv.specs.declared.ins.Op.{Op}
use Rattle.st_rv.specs.declared.ins.Ins.{Ins}
use Rattle.st_model.specs.declared.code.Layout.{Layout}
use Rattle.st_model.specs.declared.code.Layout.TheVariants.{Postprocessed}
use Rattle.st_model.specs.declared.code.PostedIns.{PostedIns}
use Rattle.st_model.specs.declared.program.Item.{Item}
use Rattle.st_model.specs.declared.program.ItemKind.TheVariants as items
use Rattle.st_model.specs.declared.program.Program.{Program}
use Rattle.st_model.specs.declared.program.ProgramFunction.{ProgramFunction}
use Rattle.st_model.specs.Accepted.{IsAccepted, HasFrame, MayWrite}
use Rattle.st_model.specs.Layout.{HasSize, IsCodeOf, saved_of, branch_ins, distance, item_ins, item_size, item_place, function_address, function_size, fork_in, fork_out, resolved, rows_of, row_at}
use Rattle.st_model.specs.Memory.{Data}
use Rattle.st_words.specs.Steps.{place_of}
use Rattle.st_step.specs.declared.state.State.{State}
use Rattle.st_step.specs.Moves.{is_entry, register, written, from_pc}
use Rattle.st_step.specs.Runs.{Situation, RunsStretch, return_word, caller_word, with_frame}
use Rattle.st_step.specs.Frames.{address_in, value_in, is_kept, with_saved_values, ComesBack}
use Rattle.st_items.specs.Code.{word_index, code_at, HasItem, IsSized}
use Rattle.st_items.specs.Tables.{handles_of}
use Rattle.st_items.specs.Rows.{row_behind, AreAscending}
use Rattle.st_items.specs.Ways.{LeadsBy, JumpsTo}
use Rattle.st_items.specs.Body.{Ends}
use Rattle.st_items.specs.Called.{IsThird}
use Rattle.st_items.specs.Copied.{copy_address, is_reading, IsAtCopy, Older}

-- ---- code

-- what is accepted and has its size has at most 196,608 words
abbrev pub CodesFit : Type 0
CodesFit = (layout : Layout) (p : Program) → IsAccepted p → HasSize p → IsSized layout p

-- the instruction of each word of an item
abbrev pub CodeOfItems : Type 0
CodeOfItems =
    (layout : Layout) (p : Program) (f : ℕ) (function : ProgramFunction) (i : ℕ) (item : Item) (k : ℕ) (x : PostedIns) → HasItem p f function i item → slice_get (item_ins layout function (item_place layout function i) item.kind) k ≡ Some x → code_at layout p (address_in layout p f function i + 4 * k) ≡ Some (resolved layout p (address_in layout p f function i + 4 * k) (item_place layout function i + k) x)

abbrev pub ItemsLieLow : Type 0
ItemsLieLow =
    (layout : Layout) (p : Program) (f : ℕ) (function : ProgramFunction) (i : ℕ) (item : Item) → IsSized layout p → HasItem p f function i item → (0x10000 ≤ address_in layout p f function i) × (address_in layout p f function i + 4 * item_size layout function item.kind ≤ 0x10000 + 4 * 196608)

-- the next item's first word is behind an item's last
abbrev pub ItemsFollow : Type 0
ItemsFollow =
    (layout : Layout) (p : Program) (f : ℕ) (function : ProgramFunction) (i : ℕ) (item : Item) → HasItem p f function i item → address_in layout p f function (i + 1) ≡ address_in layout p f function i + 4 * item_size layout function item.kind

-- no word of code is an entry
abbrev pub NoEntries : Type 0
NoEntries = (layout : Layout) (p : Program) (f : ℕ) (function : ProgramFunction) (i k : ℕ) → is_entry (address_in layout p f function i + 4 * k) ≡ false

-- an image has of each word of an item that it begins it or not, and its line; and the register of a fork's handle at its first jump
abbrev pub ImagesTell : Type 0
ImagesTell =
    (layout : Layout) (p : Program) (image : Image) (f : ℕ) (function : ProgramFunction) (i : ℕ) (item : Item) → IsCodeOf layout p image → HasItem p f function i item
    → ((k : ℕ) → k < item_size layout function item.kind → (slice_get image.begins (word_index (address_in layout p f function i + 4 * k)) ≡ Some (k == 0)) × (slice_get image.lines (word_index (address_in layout p f function i + 4 * k)) ≡ Some item.line))
    × ((g : ℕ) (handle : Reg) → item.kind ≡ items.Fork g handle → slice_get (handles_of image.forks (replicate (length image.words) registers.Zero)) (word_index (address_in layout p f function i)) ≡ Some handle)

-- the rows of a program ascend, and that of a function is found by each address of its code
abbrev pub RowsFound : Type 0
RowsFound =
    (layout : Layout) (p : Program) → AreAscending 0 (rows_of layout p) × ((f : ℕ) (function : ProgramFunction) (pc : ℕ) → slice_get p.functions f ≡ Some function → function_address layout p f ≤ pc → pc < function_address layout p f + 4 * function_size layout function → row_behind (rows_of layout p) pc ≡ Some (row_at layout (function_address layout p f) function))

-- ---- jumps

abbrev pub CallsJump : Type 0
CallsJump =
    (layout : Layout) (p : Program) (f : ℕ) (function : ProgramFunction) (i : ℕ) (item : Item) (g : ℕ) → IsSized layout p → HasItem p f function i item → item.kind ≡ items.Call g → JumpsTo layout p (address_in layout p f function i) registers.Ra (function_address layout p g)

abbrev pub GotosJump : Type 0
GotosJump =
    (layout : Layout) (p : Program) (f : ℕ) (function : ProgramFunction) (i : ℕ) (item : Item) (to : ℕ) → IsSized layout p → HasItem p f function i item → item.kind ≡ items.Jump to → JumpsTo layout p (address_in layout p f function i) registers.Zero (address_in layout p f function to)

-- of an accepted program
abbrev pub EntriesJump : Type 0
EntriesJump =
    (layout : Layout) (p : Program) (f : ℕ) (function : ProgramFunction) (i : ℕ) (item : Item) (at : ℕ) → IsAccepted p → IsSized layout p → HasItem p f function i item → item.kind ≡ items.Entry at → JumpsTo layout p (address_in layout p f function i) registers.Ra at

-- the three jumps of a fork
abbrev pub ForksJump : Type 0
ForksJump =
    (layout : Layout) (p : Program) (f : ℕ) (function : ProgramFunction) (i : ℕ) (item : Item) (g : ℕ) (handle : Reg) → IsSized layout p → HasItem p f function i item → item.kind ≡ items.Fork g handle
    → JumpsTo layout p (address_in layout p f function i) registers.Ra fork_in × JumpsTo layout p (address_in layout p f function i + 4) registers.Ra (function_address layout p g) × JumpsTo layout p (address_in layout p f function i + 8) registers.Ra fork_out

-- a branch stands at its item, and goes to another of its function
abbrev pub BranchesGo : Type 0
BranchesGo =
    (layout : Layout) (p : Program) (f : ℕ) (function : ProgramFunction) (i : ℕ) (item : Item) (op : Op) (rs1 rs2 : Reg) (to : ℕ) → IsSized layout p → HasItem p f function i item → item.kind ≡ items.Branch op rs1 rs2 to
    → (code_at layout p (address_in layout p f function i) ≡ Some (branch_ins op rs1 rs2 (distance (item_place layout function i) (item_place layout function to)))) × (from_pc (address_in layout p f function i) (distance (item_place layout function i) (item_place layout function to)) ≡ address_in layout p f function to)

-- where a fork's call comes back to stands its third jump
abbrev pub ThirdsEnd : Type 0
ThirdsEnd = (layout : Layout) (p : Program) (a : Activation) (function : ProgramFunction) (ret : ℕ) → IsSized layout p → slice_get p.functions a.function ≡ Some function → 0 < a.next → ComesBack layout p Forked a function ret → IsThird layout p ret

-- ---- ways

-- a stretch of an item's words that is run from its first leads to where its run ends
abbrev pub StretchesLead : Type 0
StretchesLead =
    (layout : Layout) (p : Program) (d : Data) (held : ℕ → Bool) (f : ℕ) (function : ProgramFunction) (i : ℕ) (item : Item) → HasItem p f function i item → (words count : ℕ) (s t : Situation) → s.state.pc ≡ address_in layout p f function i → words - 1 < item_size layout function item.kind → RunsStretch d (code_at layout p) held words count s t → LeadsBy layout p d held (count - 1) s t

-- a pure copy leads from a frame to its caller
abbrev pub CopiesLead : Type 0
CopiesLead =
    (p : Program) (d : Data) (held : ℕ → Bool) (ends : Ends) (bottom : ℕ) (t : Situation) (f : ℕ) (function : ProgramFunction) → IsAtCopy p held ends bottom t f function → (u : Situation) × RunsStretch d (code_at Postprocessed p) held (4 + length (saved_of function)) (4 + length (saved_of function)) t u × Older ends (register t.state registers.S0) function t u

-- at each word of a pure copy stands an instruction that adds, loads or returns
abbrev pub CopiesRead : Type 0
CopiesRead = (p : Program) (f : ℕ) (function : ProgramFunction) (k : ℕ) → slice_get p.functions f ≡ Some function → k < 4 + length (saved_of function) → (i : Ins) × (code_at Postprocessed p (copy_address p f function + 4 * k) ≡ Some i) × (is_reading i.op ≡ true)

-- ---- frames

-- what a prologue stores is found again: the return place, the caller's s0, and its registers
abbrev pub FramesFound : Type 0
FramesFound =
    (m : State) (b : ℕ) (rs : List Reg) (word value : ℕ → ℕ) (x : ℕ) → 0x8000_0000 + 16 + 8 * length rs ≤ b → (with_frame m b rs word (return_word b) ≡ register m registers.Ra) × (with_frame m b rs word (caller_word b) ≡ register m registers.S0) × (value x ≡ value_in m x → with_saved_values (with_frame m b rs word) b 0 rs value x ≡ value_in m x)

-- no word outside of the frame is changed
abbrev pub FramesAlone : Type 0
FramesAlone =
    (m : State) (b : ℕ) (function : ProgramFunction) (word : ℕ → ℕ) (q : ℕ) → HasFrame function → 0x8000_0000 + function.frame_bytes ≤ b → (q < place_of (b - function.frame_bytes) → with_frame m b (saved_of function) word q ≡ word q) × (place_of b ≤ q → with_frame m b (saved_of function) word q ≡ word q)

-- callers see no write of a register that the function may write
abbrev pub WritesHidden : Type 0
WritesHidden =
    (function : ProgramFunction) (word : ℕ → ℕ) (b : ℕ) (m : State) (r : Reg) (n x : ℕ) → MayWrite function r → is_kept x ≡ true → with_saved_values word b 0 (saved_of function) (value_in m) x ≡ with_saved_values word b 0 (saved_of function) (value_in (written m r n)) x
