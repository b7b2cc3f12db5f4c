-- One instruction at a time on the machine with its stack words. What each of these does, where it stops nowhere: `addi` (adds) and the one
-- that makes a frame (frames), the words of `li` (uppers, low_adds), a store and a load of a word at an address on a stack (stores_word,
-- loads_word), the mark (marks_word), a branch that is taken or not (branches, passes) and the return (returns). An address on a stack is
-- that of word_at. Runs are put together by step, over code that plain_code and code_behind read.
use Rattle.std.proofs.Common.{◌≡◌, ℕ, zero, suc, ◌+◌, ◌-◌, ◌*◌, ◌/◌, ◌%◌, ◌^◌, ◌<◌, ◌≤◌, ℤ, pos, negsuc, neg_ℤ, ◌-ℤ◌, int_lt, Bool, true, false, ◌&&◌, List, [], ◌∷◌, ◌++◌, length, Option, Some, option_and_then, refl, ap, ◌∙◌, subst, arith, nat_lt, if◌then◌else◌}
use Rattle.std.proofs.lemmas.Bool.{and_from, le-leb, lt-ltb, le-ltb}
use Rattle.std.proofs.Math.Bool.{and-false}
use Rattle.std.proofs.Math.Nat.{mod-eq_of_lt}
use Rattle.std.proofs.lemmas.Int.{ints}
use Rattle.st_base.specs.declared.reg.Reg.{Reg}
use Rattle.st_base.specs.declared.reg.Reg.TheVariants as registers
use Rattle.st_rv.specs.declared.ins.Op.{Op}
use Rattle.st_rv.specs.declared.ins.Op.TheVariants as ops
use Rattle.st_rv.specs.declared.ins.OpKind.{OpKind}
use Rattle.st_rv.specs.declared.ins.OpKind.TheVariants as kinds
use Rattle.st_rv.specs.Op.{kind_of}
use Rattle.st_rv.specs.declared.ins.Ins.{Ins}
use Rattle.st_rv.specs.Results.{word_of, alu, is_taken, access_size, extended}
use Rattle.st_model.specs.Memory.{Data}
use Rattle.st_model.specs.declared.code.PostedIns.{PostedIns}
use Rattle.st_model.specs.Layout.{immediate_ins, upper_ins, store_ins, branch_ins, below}
use Rattle.st_words.specs.Steps.{place_of}
use Rattle.st_step.specs.declared.state.State.{State}
use Rattle.st_step.specs.declared.machine.StepEnd.TheVariants.{StackFull}
use Rattle.st_step.specs.Moves.{Goes, Reads, Writes, Marks, Stops, Outside, move_of, register, written, at_place, results, goes_on, next_pc, from_pc, makes_frame, frame_of, positive_part, lacks_room, immediate_move, address_of, in_one_word, bytes_of, stack_load, data_load, move_as, is_stack, is_mark, word_store, stack_store, indirect_move}
use Rattle.st_step.specs.Runs.{Situation, stored, where_held, moved, moved_by, HasCode, IsReturn}
use Rattle.st_step.proofs.Paths.{ran}
use Rattle.st_step.proofs.Writes.{pc-written}

-- ---- code

pub plain_code : (code : ℕ → Option Ins) (pc : ℕ) (i : Ins) → ((x : Ins) × (Some i ≡ Some x) × (code pc ≡ Some x)) → code pc ≡ Some i
plain_code code pc i has = let e = has.1 in let f = has.2 in cc

-- the code behind some instructions
pub code_behind : (code : ℕ → Option Ins) (pc at n : ℕ) (xs ys : List PostedIns) → length xs ≡ n → HasCode code pc at (xs ++ ys) → HasCode code (pc + 4 * n) (at + n) ys
code_behind code pc at n [] ys e has =
    let p : pc ≡ pc + 4 * n = omega arith in
    let q : at ≡ at + n = omega arith in
    subst (λ (k : ℕ). HasCode code (pc + 4 * n) k ys) q (subst (λ (k : ℕ). HasCode code k at ys) p has)
code_behind code pc at n (x ∷ xs) ys e has =
    let one : length xs ≡ n - 1 = omega arith in
    let p : pc + 4 + 4 * (n - 1) ≡ pc + 4 * n = omega arith in
    let q : at + 1 + (n - 1) ≡ at + n = omega arith in
    subst (λ (k : ℕ). HasCode code (pc + 4 * n) k ys) q (subst (λ (k : ℕ). HasCode code k (at + 1 + (n - 1)) ys) p (code_behind code (pc + 4) (at + 1) (n - 1) xs ys one has.1))

-- ---- runs

pub step : (d : Data) (code : ℕ → Option Ins) (held : ℕ → Bool) (s t : Situation) (r : Option Situation) (i : Ins) (n k : ℕ) → k ≡ suc n → code s.state.pc ≡ Some i → moved held s (move_of d s.state i) ≡ Some t → ran d code held n t ≡ r → ran d code held k s ≡ r
unfolding ran
step d code held s t r i n k count here does rest =
    ap (λ (j : ℕ). ran d code held j s) count
    ∙ ap (λ (x : Option Ins). option_and_then (ran d code held n) (moved_by d held s x)) here
    ∙ ap (λ (x : Option Situation). option_and_then (ran d code held n) x) does
    ∙ rest

pub stays : (d : Data) (code : ℕ → Option Ins) (held : ℕ → Bool) (s : Situation) → ran d code held 0 s ≡ Some s
unfolding ran
stays d code held s = refl

-- ---- the state after one instruction

abbrev pub after : Situation → Reg → ℕ → Situation
after s r n = record { state = at_place (s.state.pc + 4) (written s.state r n); word = s.word }

next : (pc : ℕ) → pc + 4 < 2 ^ 32 → next_pc pc ≡ pc + 4
next pc low = mod-eq_of_lt low

results_are : (m : State) (r : Reg) (n : ℕ) → m.pc + 4 < 2 ^ 32 → results m r n ≡ at_place (m.pc + 4) (written m r n)
results_are m r n low = ap (λ (k : ℕ). at_place (next_pc k) (written m r n)) (pc-written m r n) ∙ ap (λ (k : ℕ). at_place k (written m r n)) (next m.pc low)

goes_on_is : (m : State) → m.pc + 4 < 2 ^ 32 → goes_on m ≡ at_place (m.pc + 4) m
goes_on_is m low = ap (λ (k : ℕ). at_place k m) (next m.pc low)

-- ---- immediates

immediate_goes : (held : ℕ → Bool) (s : Situation) (i : Ins) (v : ℕ) → lacks_room s.state i ≡ false → alu i.op (register s.state i.rs1) (word_of i.imm) ≡ v → s.state.pc + 4 < 2 ^ 32 → moved held s (immediate_move s.state i) ≡ Some (after s i.rd v)
immediate_goes held s i v room same low =
    ap (λ (b : Bool). moved held s (if b then Stops (StackFull (frame_of i)) else Goes (results s.state i.rd (alu i.op (register s.state i.rs1) (word_of i.imm))))) room
    ∙ ap (λ (n : ℕ). Some (record { state = results s.state i.rd n; word = s.word })) same
    ∙ ap (λ (m : State). Some (record { state = m; word = s.word })) (results_are s.state i.rd v low)

-- a sum in a register, where the instruction makes no frame
pub adds : (d : Data) (held : ℕ → Bool) (s : Situation) (rd rs : Reg) (imm : ℤ) (v : ℕ) → makes_frame (immediate_ins ops.Addi rd rs imm) ≡ false → (register s.state rs + word_of imm) % 2 ^ 64 ≡ v → s.state.pc + 4 < 2 ^ 32 → moved held s (move_of d s.state (immediate_ins ops.Addi rd rs imm)) ≡ Some (after s rd v)
unfolding move_of alu
adds d held s rd rs imm v none same low =
    immediate_goes held s (immediate_ins ops.Addi rd rs imm) v (ap (λ (b : Bool). b && nat_lt (register s.state registers.Sp) (s.state.lo + frame_of (immediate_ins ops.Addi rd rs imm))) none) same low

frame_is : (n : ℕ) → positive_part (neg_ℤ (below n)) ≡ n
frame_is zero = refl
frame_is (suc n) = refl

word_below : (n : ℕ) → 0 < n → n < 2 ^ 64 → word_of (below n) ≡ 2 ^ 64 - n
word_below zero some most = absurd (omega arith)
word_below (suc n) some most = refl

-- a frame, for which there is room
pub frames : (d : Data) (held : ℕ → Bool) (s : Situation) (bytes : ℕ) → 0 < bytes → bytes < 2 ^ 32 → s.state.lo + bytes ≤ register s.state registers.Sp → register s.state registers.Sp < 2 ^ 63 → s.state.pc + 4 < 2 ^ 32 → moved held s (move_of d s.state (immediate_ins ops.Addi registers.Sp registers.Sp (below bytes))) ≡ Some (after s registers.Sp (register s.state registers.Sp - bytes))
unfolding move_of alu
frames d held s bytes some most room high low =
    let w = word_below bytes some (omega arith) in
    let e : (register s.state registers.Sp + (2 ^ 64 - bytes)) % 2 ^ 64 ≡ register s.state registers.Sp - bytes = omega arith in
    immediate_goes held s (immediate_ins ops.Addi registers.Sp registers.Sp (below bytes)) (register s.state registers.Sp - bytes)
    (ap (λ (k : ℕ). int_lt (below bytes) (pos 0) && nat_lt (register s.state registers.Sp) (s.state.lo + k)) (frame_is bytes)
    ∙ ap (λ (b : Bool). int_lt (below bytes) (pos 0) && b) (le-ltb (register s.state registers.Sp) (s.state.lo + bytes) room)
    ∙ and-false (int_lt (below bytes) (pos 0)))
    (ap (λ (k : ℕ). (register s.state registers.Sp + k) % 2 ^ 64) w ∙ e)
    low

-- ---- the two words of `li`

pub uppers : (d : Data) (held : ℕ → Bool) (s : Situation) (rd : Reg) (imm : ℤ) (v : ℕ) → alu ops.Lui 0 (word_of imm) ≡ v → s.state.pc + 4 < 2 ^ 32 → moved held s (move_of d s.state (upper_ins ops.Lui rd imm)) ≡ Some (after s rd v)
unfolding move_of
uppers d held s rd imm v same low =
    ap (λ (n : ℕ). Some (record { state = results s.state rd n; word = s.word })) same
    ∙ ap (λ (m : State). Some (record { state = m; word = s.word })) (results_are s.state rd v low)

pub low_adds : (d : Data) (held : ℕ → Bool) (s : Situation) (rd rs : Reg) (imm : ℤ) (v : ℕ) → alu ops.Addiw (register s.state rs) (word_of imm) ≡ v → s.state.pc + 4 < 2 ^ 32 → moved held s (move_of d s.state (immediate_ins ops.Addiw rd rs imm)) ≡ Some (after s rd v)
unfolding move_of
low_adds d held s rd rs imm v same low = immediate_goes held s (immediate_ins ops.Addiw rd rs imm) v refl same low

-- ---- addresses

-- a number so far below another, from a base that is lower by `top`
pub word_at : (z : ℤ) (b top off : ℕ) → z ≡ pos top -ℤ pos off → top ≤ b → off ≤ b → b < 2 ^ 63 → (b - top + word_of z) % 2 ^ 64 ≡ b - off
word_at (pos n) b top off is low lower high = let e : n + off ≡ top = omega (arith, ints) in omega arith
word_at (negsuc n) b top off is low lower high = let e : suc n + top ≡ off = omega (arith, ints) in omega arith

-- an address of a word on a stack
pub record IsWordAddress (a : ℕ) : Type 0 where
  pub multiple : a % 8 ≡ 0
  pub low : 0x8000_0000 ≤ a
  pub high : a < 0x8000_0000 + 2 ^ 32

pub in_word : (a : ℕ) → IsWordAddress a → in_one_word a 8 ≡ true
in_word a is =
    let e = is.multiple in
    let whole : a % 8 + 8 ≤ 8 = omega arith in
    and_from _ _ (and_from _ _ (le-leb _ _ is.low) (lt-ltb _ _ is.high)) (le-leb _ _ whole)

-- ---- words of the stacks

-- a word that is held may be spoken of
spoken : (b : Bool) (s : Situation) → b ≡ true → where_held b s ≡ Some s
spoken b s holds = ap (λ (x : Bool). where_held x s) holds

-- with a word stored
abbrev pub after_store : Situation → ℕ → ℕ → Situation
after_store s a n = record { state = at_place (s.state.pc + 4) s.state; word = stored (place_of a) n s.word }

pub stores_word : (d : Data) (held : ℕ → Bool) (s : Situation) (rs1 rs2 : Reg) (imm : ℤ) (a n : ℕ) → is_stack rs1 ≡ true → is_mark (store_ins ops.Sd rs1 rs2 imm) ≡ false → (register s.state rs1 + word_of imm) % 2 ^ 64 ≡ a → IsWordAddress a → held (place_of a) ≡ true → register s.state rs2 ≡ n → s.state.pc + 4 < 2 ^ 32 → moved held s (move_of d s.state (store_ins ops.Sd rs1 rs2 imm)) ≡ Some (after_store s a n)
unfolding move_of access_size
stores_word d held s rs1 rs2 imm a n stack unmarked address is holds same low =
    ap (λ (b : Bool). moved held s (if b then stack_store s.state (store_ins ops.Sd rs1 rs2 imm) (address_of s.state (store_ins ops.Sd rs1 rs2 imm)) else Outside)) stack
    ∙ ap (λ (x : ℕ). moved held s (stack_store s.state (store_ins ops.Sd rs1 rs2 imm) x)) address
    ∙ ap (λ (b : Bool). moved held s (if b then word_store s.state (store_ins ops.Sd rs1 rs2 imm) (place_of a) else Outside)) (in_word a is)
    ∙ ap (λ (b : Bool). moved held s (if b then Marks (place_of a) (goes_on s.state) else Writes (place_of a) (register s.state rs2) (goes_on s.state))) unmarked
    ∙ spoken (held (place_of a)) (record { state = goes_on s.state; word = stored (place_of a) (register s.state rs2) s.word }) holds
    ∙ ap (λ (m : State). Some (record { state = m; word = stored (place_of a) (register s.state rs2) s.word })) (goes_on_is s.state low)
    ∙ ap (λ (x : ℕ). Some (after_store s a x)) same

pub marks_word : (d : Data) (held : ℕ → Bool) (s : Situation) (a : ℕ) → (register s.state registers.Tp + word_of (below 8)) % 2 ^ 64 ≡ a → IsWordAddress a → held (place_of a) ≡ true → s.state.pc + 4 < 2 ^ 32 → moved held s (move_of d s.state (store_ins ops.Sd registers.Tp registers.Zero (below 8))) ≡ Some (after_store s a 0)
unfolding move_of access_size
marks_word d held s a address is holds low =
    ap (λ (x : ℕ). moved held s (stack_store s.state (store_ins ops.Sd registers.Tp registers.Zero (below 8)) x)) address
    ∙ ap (λ (b : Bool). moved held s (if b then word_store s.state (store_ins ops.Sd registers.Tp registers.Zero (below 8)) (place_of a) else Outside)) (in_word a is)
    ∙ spoken (held (place_of a)) (record { state = goes_on s.state; word = stored (place_of a) 0 s.word }) holds
    ∙ ap (λ (m : State). Some (record { state = m; word = stored (place_of a) 0 s.word })) (goes_on_is s.state low)

whole_word : (n at : ℕ) → at ≡ 0 → n < 2 ^ 64 → bytes_of n at 8 ≡ n
whole_word n at first less = let e : n / 1 % 2 ^ 64 ≡ n = omega arith in ap (λ (k : ℕ). bytes_of n k 8) first ∙ e

pub loads_word : (d : Data) (held : ℕ → Bool) (s : Situation) (rd rs1 : Reg) (imm : ℤ) (a : ℕ) → is_stack rs1 ≡ true → (register s.state rs1 + word_of imm) % 2 ^ 64 ≡ a → IsWordAddress a → held (place_of a) ≡ true → s.word (place_of a) < 2 ^ 64 → s.state.pc + 4 < 2 ^ 32 → moved held s (move_of d s.state (immediate_ins ops.Ld rd rs1 imm)) ≡ Some (after s rd (s.word (place_of a)))
unfolding move_of access_size extended
loads_word d held s rd rs1 imm a stack address is holds less low =
    ap (λ (b : Bool). moved held s (if b then stack_load s.state (immediate_ins ops.Ld rd rs1 imm) (address_of s.state (immediate_ins ops.Ld rd rs1 imm)) else data_load d s.state (immediate_ins ops.Ld rd rs1 imm) (address_of s.state (immediate_ins ops.Ld rd rs1 imm)))) stack
    ∙ ap (λ (x : ℕ). moved held s (stack_load s.state (immediate_ins ops.Ld rd rs1 imm) x)) address
    ∙ ap (λ (b : Bool). moved held s (if b then Reads (place_of a) (λ (n : ℕ). results s.state rd (bytes_of n (a % 8) 8)) else Outside)) (in_word a is)
    ∙ spoken (held (place_of a)) (record { state = results s.state rd (bytes_of (s.word (place_of a)) (a % 8) 8); word = s.word }) holds
    ∙ ap (λ (n : ℕ). Some (record { state = results s.state rd n; word = s.word })) (whole_word (s.word (place_of a)) (a % 8) is.multiple less)
    ∙ ap (λ (m : State). Some (record { state = m; word = s.word })) (results_are s.state rd (s.word (place_of a)) low)

-- ---- jumps

-- to another address
abbrev pub at_pc : Situation → ℕ → Situation
at_pc s pc = record { state = at_place pc s.state; word = s.word }

pub branches : (d : Data) (held : ℕ → Bool) (s : Situation) (op : Op) (rs1 rs2 : Reg) (imm : ℤ) (to : ℕ) → kind_of op ≡ kinds.Branch → is_taken op (register s.state rs1) (register s.state rs2) ≡ true → from_pc s.state.pc imm ≡ to → moved held s (move_of d s.state (branch_ins op rs1 rs2 imm)) ≡ Some (at_pc s to)
unfolding move_of
branches d held s op rs1 rs2 imm to kind taken target =
    ap (λ (k : OpKind). moved held s (move_as k d s.state (branch_ins op rs1 rs2 imm))) kind
    ∙ ap (λ (b : Bool). Some (at_pc s (if b then from_pc s.state.pc imm else next_pc s.state.pc))) taken
    ∙ ap (λ (k : ℕ). Some (at_pc s k)) target

pub passes : (d : Data) (held : ℕ → Bool) (s : Situation) (op : Op) (rs1 rs2 : Reg) (imm : ℤ) → kind_of op ≡ kinds.Branch → is_taken op (register s.state rs1) (register s.state rs2) ≡ false → s.state.pc + 4 < 2 ^ 32 → moved held s (move_of d s.state (branch_ins op rs1 rs2 imm)) ≡ Some (at_pc s (s.state.pc + 4))
unfolding move_of
passes d held s op rs1 rs2 imm kind not_taken low =
    ap (λ (k : OpKind). moved held s (move_as k d s.state (branch_ins op rs1 rs2 imm))) kind
    ∙ ap (λ (b : Bool). Some (at_pc s (if b then from_pc s.state.pc imm else next_pc s.state.pc))) not_taken
    ∙ ap (λ (k : ℕ). Some (at_pc s k)) (next s.state.pc low)

pub returns : (d : Data) (held : ℕ → Bool) (s : Situation) (n : ℕ) → register s.state registers.Ra ≡ n → IsReturn n → moved held s (move_of d s.state (immediate_ins ops.Jalr registers.Zero registers.Ra (pos 0))) ≡ Some (at_pc s n)
unfolding move_of
returns d held s n same is =
    let few = is.below in
    let fours = is.multiple in
    let e : (n + 0) % 2 ^ 64 ≡ n = omega arith in
    let even : n / 2 * 2 ≡ n = omega arith in
    ap (λ (x : ℕ). moved held s (indirect_move s.state (immediate_ins ops.Jalr registers.Zero registers.Ra (pos 0)) ((x + 0) % 2 ^ 64))) same
    ∙ ap (λ (x : ℕ). moved held s (indirect_move s.state (immediate_ins ops.Jalr registers.Zero registers.Ra (pos 0)) x)) e
    ∙ ap (λ (b : Bool). moved held s (if b then Goes (at_place (n / 2 * 2) s.state) else Outside)) (lt-ltb n (2 ^ 32) few)
    ∙ ap (λ (x : ℕ). Some (at_pc s x)) even
