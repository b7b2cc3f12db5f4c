-- What an instruction stores, and what it leads to. Read IsQuiet (it stores no number: each that is no store, not_store, and the mark, mark_quiet), store_place
-- (where a store stores), and what the machine is behind an instruction: result_after (one that has a result) and store_after (a store).
use Rattle.std.proofs.Common.{◌≡◌, ◌≢◌, ◌⊎◌, inl, inr, ℕ, Bool, true, false, Option, Some, None, refl, ap, sym, ◌∙◌}
use Rattle.std.specs.Prelude.{if◌then◌else◌, ◌==◌, ◌%◌}
use Rattle.st_rv.specs.declared.ins.Ins.{Ins}
use Rattle.st_rv.specs.declared.ins.Op.TheVariants as ops
use Rattle.st_rv.specs.declared.ins.OpKind.{OpKind}
use Rattle.st_rv.specs.declared.ins.OpKind.TheVariants as kinds
use Rattle.st_rv.specs.Op.{kind_of, op_number}
use Rattle.st_rv.specs.Results.{word_of, alu, access_size, extended}
use Rattle.st_model.specs.Memory.{Data, data_byte, load_from}
use Rattle.st_words.specs.Steps.{place_of}
use Rattle.st_step.specs.declared.state.State.{State}
use Rattle.st_step.specs.declared.machine.StepEnd.{StepEnd}
use Rattle.st_step.specs.Moves.{Move, Goes, Reads, Writes, Marks, Stops, Outside, move_of, move_as, register, results, goes_on, in_one_word, is_stack, is_mark, address_of, stack_store, word_store, short_store, stack_load, data_load, data_when, jump_move, lacks_room, bytes_of}
use Rattle.st_step.specs.Runs.{Situation, moved, where_held, mark_ins}
use Rattle.st_items.proofs.Computes.{moves_as}

-- ---- what it stores

-- it stores no number to a stack word
abbrev pub IsQuiet : Ins → Type 0
IsQuiet i = (d : Data) (m : State) (q n : ℕ) (m' : State) → move_of d m i ≡ Writes q n m' → ⊥

-- the move is no such store
abbrev NoStore : Move → Type 0
NoStore move = (q n : ℕ) (m : State) → move ≡ Writes q n m → ⊥

either_quiet : (b : Bool) (x y : Move) → NoStore x → NoStore y → NoStore (if b then x else y)
either_quiet true x y one other q n m is = one q n m is
either_quiet false x y one other q n m is = other q n m is

goes_quiet : (m : State) → NoStore (Goes m)
goes_quiet m q n m' is = cc

stops_quiet : (e : StepEnd) → NoStore (Stops e)
stops_quiet e q n m' is = cc

outside_quiet : NoStore Outside
outside_quiet q n m' is = cc

reads_quiet : (p : ℕ) (go : ℕ → State) → NoStore (Reads p go)
reads_quiet p go q n m' is = cc

marks_quiet : (p : ℕ) (m : State) → NoStore (Marks p m)
marks_quiet p m q n m' is = cc

data_quiet : (m : State) (i : Ins) (b : Bool) (o : Option ℕ) → NoStore (data_when m i b o)
data_quiet m i false o q n m' is = cc
data_quiet m i true None q n m' is = cc
data_quiet m i true (Some x) q n m' is = cc

jump_quiet : (b : Bool) (m : State) (i : Ins) → NoStore (jump_move b m i)
jump_quiet true m i = either_quiet _ _ _ (goes_quiet _) outside_quiet
jump_quiet false m i = goes_quiet _

kind_quiet : (k : OpKind) (d : Data) (m : State) (i : Ins) → k ≢ kinds.Store → NoStore (move_as k d m i)
kind_quiet kinds.Register d m i other = goes_quiet _
kind_quiet kinds.Immediate d m i other = either_quiet (lacks_room m i) (Stops _) (Goes _) (stops_quiet _) (goes_quiet _)
kind_quiet kinds.Upper d m i other = goes_quiet _
kind_quiet kinds.Load d m i other =
    either_quiet (is_stack i.rs1) (stack_load m i (address_of m i)) (data_load d m i (address_of m i))
    (either_quiet (in_one_word (address_of m i) (access_size i.op)) (Reads _ _) Outside (reads_quiet _ _) outside_quiet)
    (data_quiet m i (address_of m i % access_size i.op == 0) (load_from (data_byte d) (address_of m i) (access_size i.op)))
kind_quiet kinds.Store d m i other = absurd (other refl)
kind_quiet kinds.Branch d m i other = goes_quiet _
kind_quiet kinds.Jump d m i other = jump_quiet (op_number i.op == op_number ops.Jalr) m i
kind_quiet kinds.Break d m i other = stops_quiet _

pub not_store : (i : Ins) → kind_of i.op ≢ kinds.Store → IsQuiet i
not_store i other d m q n m' is = kind_quiet (kind_of i.op) d m i other q n m' (sym (moves_as (kind_of i.op) d m i refl) ∙ is)

pub mark_quiet : IsQuiet mark_ins
unfolding move_of access_size
mark_quiet d m q n m' is = either_quiet (in_one_word (address_of m mark_ins) 8) (Marks (place_of (address_of m mark_ins)) (goes_on m)) Outside (marks_quiet _ _) outside_quiet q n m' is

-- ---- where a store stores

module _ (m : State) (i : Ins) (q n : ℕ) (m' : State) where
  word_place : (b : Bool) (place : ℕ) → (if b then Marks place (goes_on m) else Writes place (register m i.rs2) (goes_on m)) ≡ Writes q n m' → q ≡ place
  word_place true place is = absurd (let never : ⊥ = cc in never)
  word_place false place is = cc

  short_place : (o : Option ℕ) (address : ℕ) → short_store m i address o ≡ Writes q n m' → q ≡ place_of address
  short_place None address is = absurd (let never : ⊥ = cc in never)
  short_place (Some word) address is = cc

  size_place : (b : Bool) (address : ℕ) → (if b then word_store m i (place_of address) else short_store m i address m.half) ≡ Writes q n m' → q ≡ place_of address
  size_place true address is = word_place (is_mark i) (place_of address) is
  size_place false address is = short_place m.half address is

  stack_place : (b : Bool) (address : ℕ) → (if b then (if access_size i.op == 8 then word_store m i (place_of address) else short_store m i address m.half) else Outside) ≡ Writes q n m' → q ≡ place_of address
  stack_place true address is = size_place (access_size i.op == 8) address is
  stack_place false address is = absurd (let never : ⊥ = cc in never)

  move_place : (b : Bool) (address : ℕ) → (if b then stack_store m i address else Outside) ≡ Writes q n m' → q ≡ place_of address
  move_place true address is = stack_place (in_one_word address (access_size i.op)) address is
  move_place false address is = absurd (let never : ⊥ = cc in never)

pub store_place : (d : Data) (m : State) (i : Ins) (q n : ℕ) (m' : State) → kind_of i.op ≡ kinds.Store → move_of d m i ≡ Writes q n m' → q ≡ place_of (address_of m i)
store_place d m i q n m' kind is = move_place m i q n m' (is_stack i.rs1) (address_of m i) (sym (moves_as kinds.Store d m i kind) ∙ is)

-- ---- what it leads to

state_is : (s : Situation) (o : Option Situation) (m : State) (word : ℕ → ℕ) → o ≡ Some (record { state = m; word = word }) → o ≡ Some s → s.state ≡ m
state_is s o m word one other = let same : s ≡ record { state = m; word = word } = cc in ap (λ (x : Situation). x.state) same

held_is : (b : Bool) (s u : Situation) → where_held b s ≡ Some u → u.state ≡ s.state
held_is true s u is = let same : u ≡ s = cc in ap (λ (x : Situation). x.state) same
held_is false s u is = absurd (let never : ⊥ = cc in never)

-- the next instruction, or the same one with a word in hand
abbrev pub AfterStore : State → State → Type 0
AfterStore m m' = (m' ≡ goes_on m) ⊎ ((half : Option ℕ) × (m' ≡ record m { half = half }))

module _ (held : ℕ → Bool) (s u : Situation) (i : Ins) where
  word_after : (b : Bool) (place : ℕ) → moved held s (if b then Marks place (goes_on s.state) else Writes place (register s.state i.rs2) (goes_on s.state)) ≡ Some u → AfterStore s.state u.state
  word_after true place is = inl (held_is (held place) _ u is)
  word_after false place is = inl (held_is (held place) _ u is)

  short_after : (o : Option ℕ) (address : ℕ) → moved held s (short_store s.state i address o) ≡ Some u → AfterStore s.state u.state
  short_after None address is = inr (Some (s.word (place_of address)), held_is (held (place_of address)) _ u is)
  short_after (Some word) address is = inl (held_is (held (place_of address)) _ u is)

  size_after : (b : Bool) (address : ℕ) → moved held s (if b then word_store s.state i (place_of address) else short_store s.state i address s.state.half) ≡ Some u → AfterStore s.state u.state
  size_after true address is = word_after (is_mark i) (place_of address) is
  size_after false address is = short_after s.state.half address is

  stack_after : (b : Bool) (address : ℕ) → moved held s (if b then (if access_size i.op == 8 then word_store s.state i (place_of address) else short_store s.state i address s.state.half) else Outside) ≡ Some u → AfterStore s.state u.state
  stack_after true address is = size_after (access_size i.op == 8) address is
  stack_after false address is = absurd (let never : ⊥ = cc in never)

  move_after : (b : Bool) (address : ℕ) → moved held s (if b then stack_store s.state i address else Outside) ≡ Some u → AfterStore s.state u.state
  move_after true address is = stack_after (in_one_word address (access_size i.op)) address is
  move_after false address is = absurd (let never : ⊥ = cc in never)

pub store_after : (d : Data) (held : ℕ → Bool) (s u : Situation) (i : Ins) → kind_of i.op ≡ kinds.Store → moved held s (move_of d s.state i) ≡ Some u → AfterStore s.state u.state
store_after d held s u i kind is = move_after held s u i (is_stack i.rs1) (address_of s.state i) (sym (ap (moved held s) (moves_as kinds.Store d s.state i kind)) ∙ is)

-- it has a result in its register
abbrev pub HasResult : OpKind → Type 0
HasResult kinds.Register = Prim.Unit
HasResult kinds.Immediate = Prim.Unit
HasResult kinds.Upper = Prim.Unit
HasResult kinds.Load = Prim.Unit
HasResult _ = ⊥

-- the next instruction, with some result
abbrev pub AfterResult : Ins → State → State → Type 0
AfterResult i m m' = (n : ℕ) × (m' ≡ results m i.rd n)

module _ (held : ℕ → Bool) (s u : Situation) (i : Ins) where
  goes_after : (n : ℕ) → moved held s (Goes (results s.state i.rd n)) ≡ Some u → AfterResult i s.state u.state
  goes_after n is = (n, held_is true (record { state = results s.state i.rd n; word = s.word }) u is)

  room_after : (b : Bool) (n : ℕ) (e : Move) → moved held s e ≡ None → moved held s (if b then e else Goes (results s.state i.rd n)) ≡ Some u → AfterResult i s.state u.state
  room_after true n e none is = absurd (let never : ⊥ = cc in never)
  room_after false n e none is = goes_after n is

  stack_loaded : (b : Bool) (place : ℕ) (go : ℕ → ℕ) → moved held s (if b then Reads place (λ n. results s.state i.rd (go n)) else Outside) ≡ Some u → AfterResult i s.state u.state
  stack_loaded true place go is = (go (s.word place), held_is (held place) (record { state = results s.state i.rd (go (s.word place)); word = s.word }) u is)
  stack_loaded false place go is = absurd (let never : ⊥ = cc in never)

  data_loaded : (b : Bool) (o : Option ℕ) → moved held s (data_when s.state i b o) ≡ Some u → AfterResult i s.state u.state
  data_loaded false o is = absurd (let never : ⊥ = cc in never)
  data_loaded true None is = absurd (let never : ⊥ = cc in never)
  data_loaded true (Some n) is = goes_after (extended i.op n) is

  loaded : (b : Bool) (d : Data) (address : ℕ) → moved held s (if b then stack_load s.state i address else data_load d s.state i address) ≡ Some u → AfterResult i s.state u.state
  loaded true d address is = stack_loaded (in_one_word address (access_size i.op)) (place_of address) (λ n. extended i.op (bytes_of n (address % 8) (access_size i.op))) is
  loaded false d address is = data_loaded (address % access_size i.op == 0) (load_from (data_byte d) address (access_size i.op)) is

  kind_after : (k : OpKind) (d : Data) → HasResult k → moved held s (move_as k d s.state i) ≡ Some u → AfterResult i s.state u.state
  kind_after kinds.Register d has is = goes_after _ is
  kind_after kinds.Immediate d has is = room_after (lacks_room s.state i) (alu i.op (register s.state i.rs1) (word_of i.imm)) (Stops _) refl is
  kind_after kinds.Upper d has is = goes_after _ is
  kind_after kinds.Load d has is = loaded (is_stack i.rs1) d (address_of s.state i) is
  kind_after _ d has is = absurd has

pub result_after : (d : Data) (held : ℕ → Bool) (s u : Situation) (i : Ins) → HasResult (kind_of i.op) → moved held s (move_of d s.state i) ≡ Some u → AfterResult i s.state u.state
result_after d held s u i has is = kind_after held s u i (kind_of i.op) d has (sym (ap (moved held s) (moves_as (kind_of i.op) d s.state i refl)) ∙ is)
