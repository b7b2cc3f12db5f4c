-- One instruction, whichever it is, on the machine with its stack words: where one that doesn't jump goes (goes_straight), what each leaves
-- (keeps), and that what fits a word stays so (results_fit). It is one statement on a situation and the one behind it (Follows), shown for
-- each kind of instruction (leads) and read where a move was made (follows_move).
use Rattle.std.proofs.Common.{◌≡◌, ℕ, ◌+◌, ◌*◌, ◌/◌, ◌%◌, ◌^◌, ◌<◌, ◌≤◌, Bool, true, false, ◌&&◌, ◌==◌, Option, Some, None, IfSome, refl, sym, subst, ◌∙◌, arith, nat_le, nat_lt, if◌then◌else◌}
use Rattle.std.proofs.lemmas.Bool.{ltb-true, leb-true}
use Rattle.std.proofs.lemmas.Nat.{mod_below}
use Rattle.std.proofs.Math.Nat.{mod-eq_of_lt}
use Rattle.st_base.specs.declared.reg.Reg.{Reg}
use Rattle.st_base.specs.declared.reg.Reg.TheVariants as registers
use Rattle.st_base.specs.Reg.{reg_number}
use Rattle.st_rv.specs.declared.ins.Op.{Op}
use Rattle.st_rv.specs.declared.ins.Op.TheVariants as ops
use Rattle.st_rv.specs.declared.ins.OpKind.{OpKind}
use Rattle.st_rv.specs.declared.ins.OpKind.TheVariants as kinds
use Rattle.st_rv.specs.Op.{kind_of, op_number}
use Rattle.st_rv.specs.declared.ins.Ins.{Ins}
use Rattle.st_rv.specs.Results.{word_of, alu, is_taken, access_size, extended}
use Rattle.st_model.specs.Memory.{Data, data_byte, load_from}
use Rattle.st_words.specs.Steps.{place_of}
use Rattle.st_step.specs.Moves.{Move, Goes, Reads, Writes, Marks, Stops, Outside, move_of, move_as, register, written, at_place, results, goes_on, next_pc, from_pc, bytes_of, with_bytes, in_one_word, lacks_room, data_when, data_load, stack_load, is_stack, is_mark, word_store, short_store, stack_store, address_of, branch_move, jump_move}
use Rattle.st_step.specs.Runs.{Situation, HasRegisters, AreWords, AreValues, stored, where_held, moved}
use Rattle.st_step.proofs.Writes.{length-written, lo-written, hi-written, pc-written, zero-written, values-written}
use Rattle.st_step.proofs.WordParts.{joined_fits}
use Rattle.st_step.proofs.ResultBounds.{alu_fits, extended_fits, bytes_fit, load_fits}

-- ---- behind a move

-- the situation behind a move, where it goes on, has the property
abbrev Leads : (Situation → Type 0) → Situation → Move → Type 0
Leads P s (Goes m) = P (record { state = m; word = s.word })
Leads P s (Reads p go) = P (record { state = go (s.word p); word = s.word })
Leads P s (Writes p n m) = P (record { state = m; word = stored p n s.word })
Leads P s (Marks p m) = P (record { state = m; word = stored p 0 s.word })
Leads P s (Stops end) = Unit {0}
Leads P s Outside = Unit {0}

behind_word : (P : Situation → Type 0) (b : Bool) (s t : Situation) → P s → where_held b s ≡ Some t → P t
behind_word P true s t has same = let e : s ≡ t = cc in subst P e has
behind_word P false s t has same = absurd (let never : ⊥ = cc in never)

behind_move : (P : Situation → Type 0) (held : ℕ → Bool) (s t : Situation) (x : Move) → Leads P s x → moved held s x ≡ Some t → P t
behind_move P held s t (Goes m) has same = behind_word P true (record { state = m; word = s.word }) t has same
behind_move P held s t (Reads p go) has same = behind_word P (held p) (record { state = go (s.word p); word = s.word }) t has same
behind_move P held s t (Writes p n m) has same = behind_word P (held p) (record { state = m; word = stored p n s.word }) t has same
behind_move P held s t (Marks p m) has same = behind_word P (held p) (record { state = m; word = stored p 0 s.word }) t has same
behind_move P held s t (Stops end) has same = absurd (let never : ⊥ = cc in never)
behind_move P held s t Outside has same = absurd (let never : ⊥ = cc in never)

either_leads : (P : Situation → Type 0) (s : Situation) (b : Bool) (x y : Move) → (b ≡ true → Leads P s x) → (b ≡ false → Leads P s y) → Leads P s (if b then x else y)
either_leads P s true x y first second = first refl
either_leads P s false x y first second = second refl

-- ---- what holds of a situation and the one behind it

-- registers, words of the stacks and a store that is half done are below 2 ^ 64, and the pc is below 2 ^ 32
pub record FitsWords (s : Situation) : Type 0 where
  pub values : AreValues s.state
  pub words : AreWords s.word
  pub half : IfSome s.state.half (λ n. n < 2 ^ 64)
  pub pc : s.state.pc < 2 ^ 32

-- the stack stays, and so do the 32 registers, of which zero is 0
pub record Keeps (s t : Situation) : Type 0 where
  pub lo : t.state.lo ≡ s.state.lo
  pub hi : t.state.hi ≡ s.state.hi
  pub registers : HasRegisters s.state → HasRegisters t.state

-- an instruction that is straight is followed by the next one, and leaves no store half done
record Follows (straight : Bool) (i : Ins) (s t : Situation) : Type 0 where
  keeps : Keeps s t
  fits : word_of i.imm < 2 ^ 64 → FitsWords s → FitsWords t
  goes : straight ≡ true → s.state.pc + 4 < 2 ^ 32 → (t.state.pc ≡ s.state.pc + 4) × (t.state.half ≡ None)

stored_fits : (p n q : ℕ) (word : ℕ → ℕ) → AreWords word → n < 2 ^ 64 → stored p n word q < 2 ^ 64
stored_fits p n q word words less = choose (q == p)
  where
    choose : (b : Bool) → (if b then n else word q) < 2 ^ 64
    choose true = less
    choose false = words q

-- with a number in a register, at another address
follows : (straight : Bool) (i : Ins) (s : Situation) (r : Reg) (n pc : ℕ) (word : ℕ → ℕ)
    → (word_of i.imm < 2 ^ 64 → FitsWords s → (n < 2 ^ 64) × (pc < 2 ^ 32) × AreWords word) → (straight ≡ true → s.state.pc + 4 < 2 ^ 32 → pc ≡ s.state.pc + 4)
    → Follows straight i s (record { state = at_place pc (written s.state r n); word = word })
follows straight i s r n pc word less next = record {
  keeps = record {
    lo = lo-written s.state r n;
    hi = hi-written s.state r n;
    registers = λ has. record { count = length-written s.state r n ∙ has.count; origin = zero-written s.state r n ∙ has.origin };
  };
  fits = λ small fits.
      let l = less small fits in
      record { values = values-written s.state r n fits.values l.0; words = l.2; half = tt; pc = l.1 };
  goes = λ is low. (next is low, refl);
}

-- with a result in a register
follows_result : (straight : Bool) (i : Ins) (s : Situation) (r : Reg) (n : ℕ) → (word_of i.imm < 2 ^ 64 → FitsWords s → n < 2 ^ 64) → Follows straight i s (record { state = results s.state r n; word = s.word })
follows_result straight i s r n less =
    subst (λ (pc : ℕ). Follows straight i s (record { state = at_place (next_pc pc) (written s.state r n); word = s.word })) (sym (pc-written s.state r n))
    (follows straight i s r n (next_pc s.state.pc) s.word (λ small fits. (less small fits, mod_below (s.state.pc + 4) (2 ^ 32) (omega arith), fits.words)) (λ is low. mod-eq_of_lt low))

-- with a word stored
follows_store : (straight : Bool) (i : Ins) (s : Situation) (p n : ℕ) → (FitsWords s → n < 2 ^ 64) → Follows straight i s (record { state = goes_on s.state; word = stored p n s.word })
follows_store straight i s p n less =
    follows straight i s registers.Zero 0 (next_pc s.state.pc) (stored p n s.word)
    (λ small fits. (omega arith, mod_below (s.state.pc + 4) (2 ^ 32) (omega arith), λ q. stored_fits p n q s.word fits.words (less fits)))
    (λ is low. mod-eq_of_lt low)

-- with a store that is half done
follows_half : (straight : Bool) (i : Ins) (s : Situation) (n : ℕ) → (straight ≡ true → ⊥) → (FitsWords s → n < 2 ^ 64) → Follows straight i s (record { state = record s.state { half = Some n }; word = s.word })
follows_half straight i s n short less = record {
  keeps = record { lo = refl; hi = refl; registers = λ has. record { count = has.count; origin = has.origin } };
  fits = λ small fits. record { values = fits.values; words = fits.words; half = less fits; pc = fits.pc };
  goes = λ is low. absurd (short is);
}

-- behind a jump
follows_jump : (i : Ins) (s : Situation) (r : Reg) (n pc : ℕ) → (FitsWords s → n < 2 ^ 64) → pc < 2 ^ 32 → Follows false i s (record { state = at_place pc (written s.state r n); word = s.word })
follows_jump i s r n pc less low = follows false i s r n pc s.word (λ small fits. (less fits, low, fits.words)) (λ is most. absurd (let never : ⊥ = cc in never))

-- ---- loads

data_leads : (straight : Bool) (i : Ins) (s : Situation) (b : Bool) (o : Option ℕ) → IfSome o (λ n. n < 2 ^ 64) → Leads (Follows straight i s) s (data_when s.state i b o)
data_leads straight i s false o less = tt
data_leads straight i s true None less = tt
data_leads straight i s true (Some n) less = follows_result straight i s i.rd (extended i.op n) (λ small fits. extended_fits i.op n less)

load_leads : (straight : Bool) (d : Data) (i : Ins) (s : Situation) (address : ℕ) → Leads (Follows straight i s) s (if is_stack i.rs1 then stack_load s.state i address else data_load d s.state i address)
load_leads straight d i s address =
    either_leads (Follows straight i s) s (is_stack i.rs1) (stack_load s.state i address) (data_load d s.state i address)
    (λ e. either_leads (Follows straight i s) s (in_one_word address (access_size i.op)) _ Outside
    (λ within.
    let word = s.word (place_of address) in
    let bytes = bytes_of word (address % 8) (access_size i.op) in
    follows_result straight i s i.rd (extended i.op bytes) (λ small fits. extended_fits i.op bytes (bytes_fit word (address % 8) (access_size i.op) (fits.words (place_of address)))))
    (λ past. tt))
    (λ e. data_leads straight i s (address % access_size i.op == 0) (load_from (data_byte d) address (access_size i.op)) (load_fits (data_byte d) address (access_size i.op)))

-- ---- stores

-- a store of less than eight bytes isn't `sd`
short_apart : (op : Op) → (access_size op == 8) ≡ false → (op_number op == op_number ops.Sd) ≡ true → ⊥
unfolding access_size
short_apart ops.Sb short same = cc
short_apart ops.Sh short same = cc
short_apart ops.Sw short same = cc
short_apart ops.Lb short same = cc
short_apart ops.Lbu short same = cc
short_apart ops.Lh short same = cc
short_apart ops.Lhu short same = cc
short_apart ops.Lw short same = cc
short_apart ops.Lwu short same = cc
short_apart _ short same = cc

within_word : (a : Bool) (at size : ℕ) → (a && nat_le (at + size) 8) ≡ true → at + size ≤ 8
within_word true at size within = leb-true (at + size) 8 within
within_word false at size within = absurd (let never : ⊥ = cc in never)

short_leads : (straight : Bool) (i : Ins) (s : Situation) (address : ℕ) (o : Option ℕ) → (straight ≡ true → ⊥) → address % 8 + access_size i.op ≤ 8 → (FitsWords s → IfSome o (λ n. n < 2 ^ 64)) → Leads (Follows straight i s) s (short_store s.state i address o)
short_leads straight i s address None short within half = follows_half straight i s (s.word (place_of address)) short (λ fits. fits.words (place_of address))
short_leads straight i s address (Some word) short within half =
    follows_store straight i s (place_of address) (with_bytes word (address % 8) (access_size i.op) (register s.state i.rs2))
    (λ fits. joined_fits word (address % 8) (access_size i.op) (register s.state i.rs2) (half fits) within)

word_leads : (straight : Bool) (i : Ins) (s : Situation) (p : ℕ) → Leads (Follows straight i s) s (word_store s.state i p)
word_leads straight i s p =
    either_leads (Follows straight i s) s (is_mark i) (Marks p (goes_on s.state)) (Writes p (register s.state i.rs2) (goes_on s.state))
    (λ e. follows_store straight i s p 0 (λ fits. omega arith))
    (λ e. follows_store straight i s p (register s.state i.rs2) (λ fits. fits.values (reg_number i.rs2)))

store_leads : (i : Ins) (s : Situation) (address : ℕ) → Leads (Follows (op_number i.op == op_number ops.Sd) i s) s (if is_stack i.rs1 then stack_store s.state i address else Outside)
store_leads i s address =
    let straight = op_number i.op == op_number ops.Sd in
    either_leads (Follows straight i s) s (is_stack i.rs1) (stack_store s.state i address) Outside
    (λ e. either_leads (Follows straight i s) s (in_one_word address (access_size i.op)) _ Outside
    (λ within. either_leads (Follows straight i s) s (access_size i.op == 8) (word_store s.state i (place_of address)) (short_store s.state i address s.state.half)
    (λ whole. word_leads straight i s (place_of address))
    (λ short. short_leads straight i s address s.state.half (short_apart i.op short) (within_word _ (address % 8) (access_size i.op) within) (λ fits. fits.half)))
    (λ past. tt))
    (λ e. tt)

-- ---- jumps

either_low : (b : Bool) (x y : ℕ) → x < 2 ^ 32 → y < 2 ^ 32 → (if b then x else y) < 2 ^ 32
either_low true x y first second = first
either_low false x y first second = second

branch_leads : (i : Ins) (s : Situation) → Leads (Follows false i s) s (branch_move s.state i)
branch_leads i s =
    follows_jump i s registers.Zero 0 (if is_taken i.op (register s.state i.rs1) (register s.state i.rs2) then from_pc s.state.pc i.imm else next_pc s.state.pc) (λ fits. omega arith)
    (either_low (is_taken i.op (register s.state i.rs1) (register s.state i.rs2)) (from_pc s.state.pc i.imm) (next_pc s.state.pc) (mod_below (s.state.pc + word_of i.imm) (2 ^ 32) (omega arith)) (mod_below (s.state.pc + 4) (2 ^ 32) (omega arith)))

-- the address behind an instruction fits a word
link_fits : (s : Situation) → FitsWords s → s.state.pc + 4 < 2 ^ 64
link_fits s fits = let low = fits.pc in omega arith

jump_leads : (b : Bool) (i : Ins) (s : Situation) → Leads (Follows false i s) s (jump_move b s.state i)
jump_leads true i s =
    either_leads (Follows false i s) s (nat_lt (address_of s.state i) (2 ^ 32)) _ Outside
    (λ near. let low = ltb-true (address_of s.state i) (2 ^ 32) near in follows_jump i s i.rd (s.state.pc + 4) (address_of s.state i / 2 * 2) (link_fits s) (omega arith))
    (λ far. tt)
jump_leads false i s = follows_jump i s i.rd (s.state.pc + 4) (from_pc s.state.pc i.imm) (link_fits s) (mod_below (s.state.pc + word_of i.imm) (2 ^ 32) (omega arith))

-- ---- all of them

abbrev pub straight_kind : OpKind → Op → Bool
straight_kind kinds.Register op = true
straight_kind kinds.Immediate op = true
straight_kind kinds.Upper op = true
straight_kind kinds.Load op = true
straight_kind kinds.Store op = op_number op == op_number ops.Sd
straight_kind _ op = false

-- the next instruction follows at once: it is no jump and no store of less than eight bytes
abbrev pub is_straight : Op → Bool
is_straight op = straight_kind (kind_of op) op

leads : (k : OpKind) (d : Data) (i : Ins) (s : Situation) → Leads (Follows (straight_kind k i.op) i s) s (move_as k d s.state i)
leads kinds.Register d i s =
    let a = register s.state i.rs1 in
    let b = register s.state i.rs2 in
    follows_result true i s i.rd (alu i.op a b) (λ small fits. alu_fits i.op a b (fits.values (reg_number i.rs1)) (fits.values (reg_number i.rs2)))
leads kinds.Immediate d i s =
    let a = register s.state i.rs1 in
    either_leads (Follows true i s) s (lacks_room s.state i) _ _
    (λ full. tt)
    (λ room. follows_result true i s i.rd (alu i.op a (word_of i.imm)) (λ small fits. alu_fits i.op a (word_of i.imm) (fits.values (reg_number i.rs1)) small))
leads kinds.Upper d i s = follows_result true i s i.rd (alu i.op 0 (word_of i.imm)) (λ small fits. alu_fits i.op 0 (word_of i.imm) (omega arith) small)
leads kinds.Load d i s = load_leads true d i s (address_of s.state i)
leads kinds.Store d i s = store_leads i s (address_of s.state i)
leads kinds.Branch d i s = branch_leads i s
leads kinds.Jump d i s = jump_leads (op_number i.op == op_number ops.Jalr) i s
leads kinds.Break d i s = tt

every_move : (d : Data) (i : Ins) (s : Situation) → Leads (Follows (is_straight i.op) i s) s (move_of d s.state i)
unfolding move_of
every_move d i s = leads (kind_of i.op) d i s

follows_move : (d : Data) (held : ℕ → Bool) (s t : Situation) (i : Ins) → moved held s (move_of d s.state i) ≡ Some t → Follows (is_straight i.op) i s t
follows_move d held s t i same = behind_move (Follows (is_straight i.op) i s) held s t (move_of d s.state i) (every_move d i s) same

pub goes_straight : (d : Data) (held : ℕ → Bool) (s t : Situation) (i : Ins) → is_straight i.op ≡ true → moved held s (move_of d s.state i) ≡ Some t → s.state.pc + 4 < 2 ^ 32 → (t.state.pc ≡ s.state.pc + 4) × (t.state.half ≡ None)
goes_straight d held s t i straight same low = (follows_move d held s t i same).goes straight low

pub keeps : (d : Data) (held : ℕ → Bool) (s t : Situation) (i : Ins) → moved held s (move_of d s.state i) ≡ Some t → Keeps s t
keeps d held s t i same = (follows_move d held s t i same).keeps

pub results_fit : (d : Data) (held : ℕ → Bool) (s t : Situation) (i : Ins) → word_of i.imm < 2 ^ 64 → FitsWords s → moved held s (move_of d s.state i) ≡ Some t → FitsWords t
results_fit d held s t i small fits same = (follows_move d held s t i same).fits small fits
