-- Plain instructions that compute: of two registers (register_goes), of a register and an immediate, `mv` of a name among them (immediate_goes),
-- and of an immediate alone (upper_goes); and the one that traps (break_goes). Read also plain_there, the code of a plain item.
use Rattle.st_base.specs.declared.thread.Activation.{Activation}
use Rattle.std.proofs.Common.{◌≡◌, ◌⊎◌, inl, inr, ℕ, ◌+◌, ◌%◌, ◌^◌, ◌<◌, ℤ, pos, int_lt, nat_lt, ◌==◌, Bool, true, false, Option, Some, None, refl, ap, ◌∙◌, subst, arith, if◌then◌else◌}
use Rattle.std.proofs.lemmas.Bool.{and_left, and_right, eqb-true, ne_eqb}
use Rattle.st_base.specs.declared.reg.Reg.{Reg}
use Rattle.st_base.specs.declared.reg.Reg.TheVariants as registers
use Rattle.st_base.specs.Reg.{reg_number}
use Rattle.st_base.specs.declared.thread.Held.{Held}
use Rattle.st_base.specs.declared.thread.Held.TheVariants.{Number, Future, Counter}
use Rattle.st_base.specs.declared.thread.TrapKind.TheVariants.{Abort}
use Rattle.st_base.specs.Registers.{read_register, write_register}
use Rattle.st_rv.specs.declared.ins.Op.{Op}
use Rattle.st_rv.specs.declared.ins.Op.TheVariants as ops
use Rattle.st_rv.specs.declared.ins.OpKind.{OpKind}
use Rattle.st_rv.specs.declared.ins.OpKind.TheVariants as kinds
use Rattle.st_rv.specs.declared.ins.Ins.{Ins}
use Rattle.st_rv.specs.Op.{kind_of, op_number}
use Rattle.st_rv.specs.Results.{word_of, alu}
use Rattle.st_model.specs.declared.program.Item.{Item}
use Rattle.st_model.specs.declared.program.ItemKind.TheVariants.{Plain}
use Rattle.st_model.specs.declared.program.Program.{Program}
use Rattle.st_model.specs.declared.program.ProgramFunction.{ProgramFunction}
use Rattle.st_model.specs.declared.code.Layout.{Layout}
use Rattle.st_model.specs.declared.effect.Effect.TheVariants.{Traps}
use Rattle.st_model.specs.Accepted.{IsInt, IsHandle, MayWrite, PlainFitsAs}
use Rattle.st_model.specs.Effect.{File, int, is_move, goes, moved as moved_effect, name_moved, compute_effect, immediate_effect}
use Rattle.st_model.specs.Layout.{item_size}
use Rattle.st_model.specs.Memory.{Data}
use Rattle.st_step.specs.declared.machine.StepEnd.TheVariants.{StackFull}
use Rattle.st_step.specs.declared.state.State.{State as MachineState}
use Rattle.st_step.specs.Moves.{Goes, Stops, move_of, move_as, register, results, lacks_room, frame_of}
use Rattle.st_step.specs.Runs.{Situation, moved}
use Rattle.st_step.proofs.ResultBounds.{alu_fits}
use Rattle.st_step.proofs.Straight.{plain_code}
use Rattle.st_items.specs.Code.{code_at}
use Rattle.st_step.specs.Frames.{Naming, IsHeldAs}
use Rattle.st_items.proofs.ItemCode.{item_words}
use Rattle.st_items.proofs.Registers.{IsOfBody, IsApart, body_apart}
use Rattle.st_items.proofs.AtLine.{number_cases, line_result, line_traps, number_held}
use Rattle.st_items.specs.Body.{Ends, Context, IsAtLine, EffectStands}

-- ---- a plain item's instruction

pub plain_size : (layout : Layout) (function : ProgramFunction) (item : Item) (i : Ins) → item.kind ≡ Plain i → item_size layout function item.kind ≡ 1
plain_size layout function item i is = ap (item_size layout function) is

pub plain_there : (layout : Layout) (p : Program) (held : ℕ → Bool) (names : Naming) (older : Context) (ends : Ends) (bottom : ℕ) (t : Situation) (top : Activation) (file : File) (function : ProgramFunction) (item : Item) (i : Ins) → IsAtLine layout p held names older ends bottom t top file function item → item.kind ≡ Plain i → code_at layout p t.state.pc ≡ Some i
plain_there layout p held names older ends bottom t top file function item i line is =
    plain_code (code_at layout p) t.state.pc i (item_words layout p top.function function top.next item (Plain i) t.state.pc line.has is tt line.at).0

-- what it does by its kind
pub moves_as : (k : OpKind) (d : Data) (m : MachineState) (i : Ins) → kind_of i.op ≡ k → move_of d m i ≡ move_as k d m i
unfolding move_of
moves_as k d m i kind = ap (λ (x : OpKind). move_as x d m i) kind

-- ---- no frame is made

pub no_frame : (m : MachineState) (i : Ins) → IsApart i.rd → lacks_room m i ≡ false
no_frame m i apart =
    let other = ne_eqb (reg_number i.rd) 2 apart.sp in
    and_left _ (nat_lt (register m registers.Sp) (m.lo + frame_of i))
    (and_left _ (int_lt i.imm (pos 0)) (and_left _ (reg_number i.rs1 == reg_number registers.Sp) (and_right (op_number i.op == op_number ops.Addi) (reg_number i.rd == 2) other)))

-- ---- `mv`

pub move_keeps : (op : Op) (imm : ℤ) (n : ℕ) → n < 2 ^ 64 → is_move op imm ≡ true → alu op n (word_of imm) ≡ n
unfolding alu
move_keeps ops.Addi imm n less is =
    let none = eqb-true (word_of imm) 0 is in
    let same : (n + 0) % 2 ^ 64 ≡ n = omega arith in
    ap (λ (w : ℕ). (n + w) % 2 ^ 64) none ∙ same
move_keeps _ imm n less is = absurd (let never : ⊥ = cc in never)

module _ (layout : Layout) (p : Program) (d : Data) (held : ℕ → Bool) (names : Naming) (older : Context) (ends : Ends) (bottom : ℕ) (t : Situation) (top : Activation) (file : File) (function : ProgramFunction) (item : Item) (line : IsAtLine layout p held names older ends bottom t top file function item) (i : Ins) (is : item.kind ≡ Plain i) where
  -- a result in its register
  pub plain_result : (n : ℕ) (value : Held) → moved held t (move_of d t.state i) ≡ Some (record { state = results t.state i.rd n; word = t.word }) → MayWrite function i.rd → IsOfBody i.rd → IsHeldAs names value n → n < 2 ^ 64
      → EffectStands layout p d held names older ends bottom t function (goes top (write_register file i.rd value))
  plain_result n value does may of_body holds less =
      line_result layout p d held names older ends bottom t top file function item line i i.rd n value (plain_size layout function item i is) (plain_there layout p held names older ends bottom t top file function item i line is) does may of_body holds less

  pub value_fits : (r : Reg) (n : ℕ) → register t.state r ≡ n → n < 2 ^ 64
  value_fits r n same = subst (λ (x : ℕ). x < 2 ^ 64) same (line.body.machine.values (reg_number r))

  pub register_goes : kind_of i.op ≡ kinds.Register → PlainFitsAs kinds.Register function i → EffectStands layout p d held names older ends bottom t function (compute_effect i top file)
  register_goes kind fits =
      number_cases layout p d held names older ends bottom t top file function item (int file i.rs1) _ (λ a first. number_cases layout p d held names older ends bottom t top file function item (int file i.rs2) _ (λ b second.
      let x = number_held names file t.state i.rs1 a line.body.file first in
      let y = number_held names file t.state i.rs2 b line.body.file second in
      let does = ap (moved held t) (moves_as kinds.Register d t.state i kind)
      ∙ ap (λ (v : ℕ). Some (record { state = results t.state i.rd (alu i.op v (register t.state i.rs2)); word = t.word })) x
      ∙ ap (λ (v : ℕ). Some (record { state = results t.state i.rd (alu i.op a v); word = t.word })) y in
      plain_result (alu i.op a b) (Number (alu i.op a b)) does fits.3 (inl fits.0) refl (alu_fits i.op a b (value_fits i.rs1 a x) (value_fits i.rs2 b y))))

  pub upper_goes : kind_of i.op ≡ kinds.Upper → PlainFitsAs kinds.Upper function i → word_of i.imm < 2 ^ 64 → EffectStands layout p d held names older ends bottom t function (goes top (write_register file i.rd (Number (alu i.op 0 (word_of i.imm)))))
  upper_goes kind fits small =
      plain_result (alu i.op 0 (word_of i.imm)) (Number (alu i.op 0 (word_of i.imm))) (ap (moved held t) (moves_as kinds.Upper d t.state i kind)) fits.1 (inl fits.0) refl
      (alu_fits i.op 0 (word_of i.imm) (omega arith) small)

  pub break_goes : kind_of i.op ≡ kinds.Break → EffectStands layout p d held names older ends bottom t function (Traps Abort)
  break_goes kind = line_traps layout p d held names older ends bottom t top file function item i Abort (plain_there layout p held names older ends bottom t top file function item i line is) (moves_as kinds.Break d t.state i kind)

  immediate_does : kind_of i.op ≡ kinds.Immediate → IsOfBody i.rd → (v n : ℕ) → register t.state i.rs1 ≡ v → alu i.op v (word_of i.imm) ≡ n → moved held t (move_of d t.state i) ≡ Some (record { state = results t.state i.rd n; word = t.word })
  immediate_does kind of_body v n value result =
      ap (moved held t) (moves_as kinds.Immediate d t.state i kind)
      ∙ ap (λ (b : Bool). moved held t (if b then Stops (StackFull (frame_of i)) else Goes (results t.state i.rd (alu i.op (register t.state i.rs1) (word_of i.imm))))) (no_frame t.state i (body_apart i.rd of_body))
      ∙ ap (λ (x : ℕ). Some (record { state = results t.state i.rd (alu i.op x (word_of i.imm)); word = t.word })) value
      ∙ ap (λ (x : ℕ). Some (record { state = results t.state i.rd x; word = t.word })) result

  name_goes : (b : Bool) (name : Held) → is_move i.op i.imm ≡ b → kind_of i.op ≡ kinds.Immediate → IsOfBody i.rd → MayWrite function i.rd → IsHeldAs names name (register t.state i.rs1) → EffectStands layout p d held names older ends bottom t function (name_moved b i name top file)
  name_goes true name moves kind of_body may holds =
      let less = line.body.machine.values (reg_number i.rs1) in
      plain_result (register t.state i.rs1) name (immediate_does kind of_body (register t.state i.rs1) (register t.state i.rs1) refl (move_keeps i.op i.imm (register t.state i.rs1) less moves)) may of_body holds less
  name_goes false name moves kind of_body may holds = tt

  held_goes : (o : Option Held) → read_register file i.rs1 ≡ o → kind_of i.op ≡ kinds.Immediate → IsOfBody i.rd → MayWrite function i.rd → word_of i.imm < 2 ^ 64 → EffectStands layout p d held names older ends bottom t function (moved_effect i top file o)
  held_goes None there kind of_body may small = tt
  held_goes (Some (Number a)) there kind of_body may small =
      let value : register t.state i.rs1 ≡ a = line.body.file (reg_number i.rs1) (Number a) there in
      let n = alu i.op a (word_of i.imm) in
      plain_result n (Number n) (immediate_does kind of_body a n value refl) may of_body refl (alu_fits i.op a (word_of i.imm) (value_fits i.rs1 a value) small)
  held_goes (Some (Future path)) there kind of_body may small = name_goes (is_move i.op i.imm) (Future path) refl kind of_body may (line.body.file (reg_number i.rs1) (Future path) there)
  held_goes (Some (Counter maker k)) there kind of_body may small = name_goes (is_move i.op i.imm) (Counter maker k) refl kind of_body may (line.body.file (reg_number i.rs1) (Counter maker k) there)

  either_body : (IsInt i.rd × IsInt i.rs1) ⊎ (IsHandle i.rd × IsHandle i.rs1 × (is_move i.op i.imm ≡ true)) → IsOfBody i.rd
  either_body (inl ints) = inl ints.0
  either_body (inr handles) = inr handles.0

  pub immediate_goes : kind_of i.op ≡ kinds.Immediate → PlainFitsAs kinds.Immediate function i → word_of i.imm < 2 ^ 64 → EffectStands layout p d held names older ends bottom t function (immediate_effect i top file)
  immediate_goes kind fits small = held_goes (read_register file i.rs1) refl kind (either_body fits.0) fits.1 small
