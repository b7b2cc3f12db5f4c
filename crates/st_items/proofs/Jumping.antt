-- Items that go elsewhere, and `li`: the words of `li` lead to the next item (li_goes), a branch to its item or the next (branch_goes), and a jump
-- to its item (jump_goes).
use Rattle.std.proofs.Common.{◌≡◌, inl, inr, ℕ, ◌+◌, ◌-◌, ◌*◌, ◌^◌, ◌<◌, ◌≤◌, ℤ, int_lt, pos, not, ◌&&◌, Bool, true, false, cond, List, [], ◌∷◌, length, Some, refl, ap, sym, ◌∙◌, subst, arith, if◌then◌else◌}
use Rattle.st_base.specs.declared.reg.Reg.{Reg}
use Rattle.st_base.specs.declared.reg.Reg.TheVariants as registers
use Rattle.st_base.specs.declared.thread.Held.TheVariants.{Number}
use Rattle.st_base.specs.Registers.{write_register}
use Rattle.st_rv.specs.declared.ins.Op.{Op}
use Rattle.st_rv.specs.declared.ins.Op.TheVariants as ops
use Rattle.st_rv.specs.declared.ins.OpKind.TheVariants as kinds
use Rattle.st_rv.specs.Op.{kind_of}
use Rattle.st_rv.specs.Results.{word_of, is_taken}
use Rattle.st_model.specs.declared.program.Item.{Item}
use Rattle.st_model.specs.declared.program.ItemKind.{ItemKind}
use Rattle.st_model.specs.declared.program.ItemKind.TheVariants.{Li, Branch, Jump}
use Rattle.st_model.specs.declared.program.Program.{Program}
use Rattle.st_model.specs.declared.program.ProgramFunction.{ProgramFunction}
use Rattle.st_model.specs.declared.code.Layout.{Layout}
use Rattle.st_model.specs.declared.code.PostedIns.{PostedIns}
use Rattle.st_model.specs.declared.code.PostedIns.TheVariants as posted
use Rattle.st_model.specs.declared.effect.Effect.TheVariants.{Goes}
use Rattle.st_model.specs.Accepted.{IsInt, MayWrite}
use Rattle.st_model.specs.Effect.{File, int, at_item, advanced, branch_effect, li_effect}
use Rattle.st_model.specs.Flow.{IsNext}
use Rattle.st_model.specs.Layout.{item_size, item_place, addi, immediate_ins, upper_ins, branch_ins, distance, is_short, low_part, high_part, with_low_part, li_ins, HasWordValue}
use Rattle.st_model.specs.Memory.{Data}
use Rattle.st_step.specs.Moves.{move_of, register, written, at_place, from_pc}
use Rattle.st_step.specs.Runs.{Situation, moved}
use Rattle.st_step.proofs.LiRuns.{li_law}
use Rattle.st_step.proofs.ResultBounds.{word_small}
use Rattle.st_step.proofs.Straight.{at_pc, branches, passes}
use Rattle.st_items.specs.Code.{code_at}
use Rattle.st_step.specs.Frames.{address_in, Naming}
use Rattle.st_items.proofs.Addresses.{address_bounds, next_address}
use Rattle.st_items.proofs.Jumps.{goto_jumps, branch_code, branch_target}
use Rattle.st_items.proofs.Ways.{leads, leads_once, item_leads}
use Rattle.st_items.proofs.ItemCode.{item_words}
use Rattle.st_items.proofs.Body.{body_written}
use Rattle.st_items.proofs.AtLine.{goes_there, number_cases, number_held, line_low, line_goes_to}
use Rattle.st_items.specs.Body.{Ends, Context, IsAtLine, EffectStands}
use Rattle.st_base.specs.declared.thread.Activation.{Activation}

-- ---- `li`

-- one or two words
record IsLiCode (is : List PostedIns) : Type 0 where
  some : 0 < length is
  few : length is ≤ 2

either_code : (b : Bool) (xs ys : List PostedIns) → IsLiCode xs → IsLiCode ys → IsLiCode (if b then xs else ys)
either_code true xs ys first second = first
either_code false xs ys first second = second

li_two : (rd : Reg) (value : ℤ) (b : Bool) → IsLiCode (posted.Plain (upper_ins ops.Lui rd (pos (high_part value))) ∷ (if b then [] else posted.Plain (immediate_ins ops.Addiw rd rd (low_part value)) ∷ []))
li_two rd value true = record { some = omega arith; few = omega arith }
li_two rd value false = record { some = omega arith; few = omega arith }

li_code : (rd : Reg) (value : ℤ) → IsLiCode (li_ins rd value)
li_code rd value =
    either_code (is_short value) (addi rd registers.Zero value ∷ []) (posted.Plain (upper_ins ops.Lui rd (pos (high_part value))) ∷ with_low_part rd (low_part value))
    (record { some = omega arith; few = omega arith })
    (li_two rd value (not (int_lt (low_part value) (pos 0)) && not (int_lt (pos 0) (low_part value))))

module _ (layout : Layout) (p : Program) (d : Data) (held : ℕ → Bool) (names : Naming) (older : Context) (ends : Ends) (bottom : ℕ) (t : Situation) (top : Activation) (file : File) (function : ProgramFunction) (item : Item) (line : IsAtLine layout p held names older ends bottom t top file function item) where
  pub li_goes : (rd : Reg) (value : ℤ) → item.kind ≡ Li rd value → IsInt rd × MayWrite function rd → EffectStands layout p d held names older ends bottom t function (li_effect rd value top file)
  li_goes rd value is fits =
      let code = li_code rd value in
      let count = length (li_ins rd value) in
      let size : item_size layout function item.kind ≡ count = ap (item_size layout function) is in
      let bounds = address_bounds layout p top.function function top.next item line.size line.has in
      let high = bounds.1 in
      let here = line.at in
      let low : t.state.pc + 4 * count < 2 ^ 32 = omega arith in
      let word_value = subst HasWordValue is (line.size.size.values top.function top.next function item line.has.named line.has.placed) in
      let words = item_words layout p top.function function top.next item (Li rd value) t.state.pc line.has is tt line.at in
      let at = item_place layout function top.next in
      let runs = li_law d (code_at layout p) held t at rd value line.body.machine.has_registers word_value words (record { below = low }) in
      let few = code.few in
      let some = code.some in
      let u = record t { state = at_place (t.state.pc + 4 * count) (written t.state rd (word_of value)) } in
      let next = next_address layout p top.function function top.next item line.has in
      goes_there layout p d held names older ends bottom t u function (at_item (top.next + 1) top) (write_register file rd (Number (word_of value)))
      (leads layout p d held (count - 1) t u (omega arith) (item_leads layout p d held top.function function top.next item line.has count count t u line.at (omega arith) runs))
      (record {
        body = body_written p names older ends bottom t top file function rd (Number (word_of value)) (word_of value) (t.state.pc + 4 * count) (top.next + 1) line.sees fits.1 (inl fits.0) refl (word_small value word_value.1) line.body;
        begun = omega arith;
        at = omega arith;
        whole = refl;
      })

  -- ---- branches and jumps

  -- no way leads to the prologue
  goes_inside : (kind : ItemKind) (to : ℕ) → item.kind ≡ kind → IsNext kind top.next to → 0 < to
  goes_inside kind to is next =
      ((line.accepted.functions top.function function line.has.named).formed.stays top.next to item line.has.placed (subst (λ (k : ItemKind). IsNext k top.next to) (sym is) next)).0

  pub branch_goes : (op : Op) (rs1 rs2 : Reg) (to : ℕ) → item.kind ≡ Branch op rs1 rs2 to → kind_of op ≡ kinds.Branch → EffectStands layout p d held names older ends bottom t function (branch_effect op rs1 rs2 to top file)
  branch_goes op rs1 rs2 to is kind =
      number_cases layout p d held names older ends bottom t top file function item (int file rs1) _ (λ a first. number_cases layout p d held names older ends bottom t top file function item (int file rs2) _ (λ b second.
      let x = number_held names file t.state rs1 a line.body.file first in
      let y = number_held names file t.state rs2 b line.body.file second in
      by_test (is_taken op a b) (ap (λ (v : ℕ). is_taken op v (register t.state rs2)) x ∙ ap (is_taken op a) y)))
    where
      from_here : ℤ
      from_here = distance (item_place layout function top.next) (item_place layout function to)

      there : code_at layout p t.state.pc ≡ Some (branch_ins op rs1 rs2 from_here)
      there = ap (code_at layout p) line.at ∙ branch_code layout p top.function function top.next item op rs1 rs2 to line.has is

      low : t.state.pc + 4 < 2 ^ 32
      low =
          let size : item_size layout function item.kind ≡ 1 = ap (item_size layout function) is in
          line_low layout p d held names older ends bottom t top file function item line size

      by_test : (b : Bool) → is_taken op (register t.state rs1) (register t.state rs2) ≡ b → EffectStands layout p d held names older ends bottom t function (Goes (cond b (at_item to top) (advanced top)) file)
      by_test true taken =
          let target = ap (λ (pc : ℕ). from_pc pc from_here) line.at ∙ branch_target layout p top.function function top.next to line.size line.has.named in
          line_goes_to layout p d held names older ends bottom t top file function item line to (address_in layout p top.function function to) (goes_inside (Branch op rs1 rs2 to) to is (inr refl)) refl
          (leads_once layout p d held t (at_pc t (address_in layout p top.function function to)) (branch_ins op rs1 rs2 from_here) there
          (branches d held t op rs1 rs2 from_here (address_in layout p top.function function to) kind taken target))
      by_test false not_taken =
          let size : item_size layout function item.kind ≡ 1 = ap (item_size layout function) is in
          let next = next_address layout p top.function function top.next item line.has in
          let here = line.at in
          line_goes_to layout p d held names older ends bottom t top file function item line (top.next + 1) (t.state.pc + 4) (omega arith) (omega arith)
          (leads_once layout p d held t (at_pc t (t.state.pc + 4)) (branch_ins op rs1 rs2 from_here) there (passes d held t op rs1 rs2 from_here kind not_taken low))

  jump_moves : (far : ℤ) (to : ℕ) → from_pc t.state.pc far ≡ to → moved held t (move_of d t.state (upper_ins ops.Jal registers.Zero far)) ≡ Some (at_pc t to)
  unfolding move_of
  jump_moves far to target = ap (λ (pc : ℕ). Some (at_pc t pc)) target

  pub jump_goes : (to : ℕ) → item.kind ≡ Jump to → EffectStands layout p d held names older ends bottom t function (Goes (at_item to top) file)
  jump_goes to is =
      let jump = goto_jumps layout p top.function function top.next item to line.size line.has is in
      let there = ap (code_at layout p) line.at ∙ jump.there in
      let target = ap (λ (pc : ℕ). from_pc pc jump.distance) line.at ∙ jump.goes in
      line_goes_to layout p d held names older ends bottom t top file function item line to (address_in layout p top.function function to) (goes_inside (Jump to) to is refl) refl
      (leads_once layout p d held t (at_pc t (address_in layout p top.function function to)) (upper_ins ops.Jal registers.Zero jump.distance) there (jump_moves jump.distance (address_in layout p top.function function to) target))
