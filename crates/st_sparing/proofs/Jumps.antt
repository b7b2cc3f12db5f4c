-- Items that go elsewhere by their first word: branches (branch_spares) and jumps (jump_spares), to an item, a function or an entry. A jump leads to its target
-- (jumps_out).
use Rattle.std.proofs.Common.{◌≡◌, ℕ, suc, ◌+◌, ℤ, Bool, true, false, None, Some, refl, ap, sym, ◌∙◌, subst, arith}
use Rattle.st_base.specs.declared.reg.Reg.{Reg}
use Rattle.st_rv.specs.declared.ins.Ins.{Ins}
use Rattle.st_rv.specs.declared.ins.Op.{Op}
use Rattle.st_rv.specs.declared.ins.Op.TheVariants as ops
use Rattle.st_rv.specs.declared.ins.OpKind.TheVariants as kinds
use Rattle.st_rv.specs.Op.{kind_of}
use Rattle.st_rv.specs.Results.{is_taken}
use Rattle.st_model.specs.declared.code.Layout.{Layout}
use Rattle.st_model.specs.declared.program.Item.{Item}
use Rattle.st_model.specs.declared.program.ItemKind.TheVariants as items
use Rattle.st_model.specs.declared.program.Program.{Program}
use Rattle.st_model.specs.declared.program.ProgramFunction.{ProgramFunction}
use Rattle.st_model.specs.Layout.{item_size, item_place, branch_ins, upper_ins, distance}
use Rattle.st_model.specs.Memory.{Data}
use Rattle.st_step.specs.declared.state.State.{State}
use Rattle.st_step.specs.Frames.{address_in}
use Rattle.st_step.specs.Moves.{move_of, register, written, at_place, from_pc}
use Rattle.st_step.specs.Runs.{Situation, moved}
use Rattle.st_step.proofs.Straight.{at_pc, branches, passes}
use Rattle.st_items.specs.Code.{code_at, HasItem, IsSized}
use Rattle.st_items.specs.Ways.{IsInside, Makes, LeadsBy, JumpsTo}
use Rattle.st_items.proofs.Addresses.{address_bounds, next_address}
use Rattle.st_items.proofs.Jumps.{branch_code, branch_target}
use Rattle.st_sparing.specs.Sparing.{Spares, AllSpare}
use Rattle.st_sparing.proofs.Places.{out_of_items}
use Rattle.st_sparing.proofs.Stores.{IsQuiet, not_store}
use Rattle.st_sparing.proofs.Ways.{makes_by, quiet_spares, spared_once}

-- the machine is at a place, in the middle of no store
abbrev pub IsAt : ℕ → State → Type 0
IsAt pc m = (m.pc ≡ pc) × (m.half ≡ None)

situation_is : (u v : Situation) (pc : ℕ) → IsAt pc v.state → Some v ≡ Some u → IsAt pc u.state
situation_is u v pc at same = let is : v ≡ u = cc in subst (λ (x : Situation). IsAt pc x.state) is at

module _ (layout : Layout) (p : Program) (d : Data) (held kept : ℕ → Bool) where
  -- ---- jumps

  jump_goes : (s : Situation) (rd : Reg) (far : ℤ) (target : ℕ) → from_pc s.state.pc far ≡ target → moved held s (move_of d s.state (upper_ins ops.Jal rd far)) ≡ Some (record { state = at_place target (written s.state rd (s.state.pc + 4)); word = s.word })
  unfolding move_of
  jump_goes s rd far target goes = ap (λ (pc : ℕ). Some (record { state = at_place pc (written s.state rd (s.state.pc + 4)); word = s.word })) goes

  pub jumps_out : (s u : Situation) (rd : Reg) (target : ℕ) → JumpsTo layout p s.state.pc rd target → Makes layout p d held s u → IsAt target u.state
  jumps_out s u rd target jumps makes =
      situation_is u (record { state = at_place target (written s.state rd (s.state.pc + 4)); word = s.word }) target (refl, refl)
      (sym (jump_goes s rd jumps.distance target jumps.goes) ∙ makes_by layout p d held s u (upper_ins ops.Jal rd jumps.distance) jumps.there makes)

  jal_quiet : (rd : Reg) (far : ℤ) → IsQuiet (upper_ins ops.Jal rd far)
  jal_quiet rd far = not_store (upper_ins ops.Jal rd far) (λ e. let never : ⊥ = cc in never)

  quiet_at : (s : Situation) (i : Ins) → code_at layout p s.state.pc ≡ Some i → IsQuiet i → Spares layout p d kept s
  quiet_at s i there quiet = quiet_spares layout p d held kept s (λ j here. let same : i ≡ j = cc in subst IsQuiet same quiet)

  pub jump_quiet : (s : Situation) (rd : Reg) (target : ℕ) → JumpsTo layout p s.state.pc rd target → Spares layout p d kept s
  jump_quiet s rd target jumps = quiet_at s (upper_ins ops.Jal rd jumps.distance) jumps.there (jal_quiet rd jumps.distance)

  -- out of items
  pub jump_spares : (n : ℕ) (t w : Situation) (rd : Reg) (target : ℕ) → JumpsTo layout p t.state.pc rd target → ((m : State) → IsAt target m → IsInside layout p m → ⊥) → LeadsBy layout p d held n t w → AllSpare layout p d held kept (suc n) t
  jump_spares n t w rd target jumps out way =
      spared_once layout p d held kept n t w (jump_quiet t rd target jumps) (λ u makes inside. out u.state (jumps_out t u rd target jumps makes) inside) way

  -- ---- branches

  module _ (f : ℕ) (function : ProgramFunction) (i : ℕ) (item : Item) (size : IsSized layout p) (has : HasItem p f function i item) (op : Op) (rs1 rs2 : Reg) (to : ℕ) (is : item.kind ≡ items.Branch op rs1 rs2 to) (kind : kind_of op ≡ kinds.Branch) (t : Situation) (at : t.state.pc ≡ address_in layout p f function i) where
    abbrev far : ℤ
    far = distance (item_place layout function i) (item_place layout function to)

    there : code_at layout p t.state.pc ≡ Some (branch_ins op rs1 rs2 far)
    there = ap (code_at layout p) at ∙ branch_code layout p f function i item op rs1 rs2 to has is

    by_test : (b : Bool) (u : Situation) → is_taken op (register t.state rs1) (register t.state rs2) ≡ b → Makes layout p d held t u → IsInside layout p u.state → ⊥
    by_test true u taken makes inside =
        let target = ap (λ (pc : ℕ). from_pc pc far) at ∙ branch_target layout p f function i to size has.named in
        let (pc, whole) = situation_is u (at_pc t (address_in layout p f function to)) (address_in layout p f function to) (refl, refl) (sym (branches d held t op rs1 rs2 far (address_in layout p f function to) kind taken target) ∙ makes_by layout p d held t u (branch_ins op rs1 rs2 far) there makes) in
        out_of_items layout p f function to u.state has.named whole pc inside
    by_test false u not_taken makes inside =
        let one : item_size layout function item.kind ≡ 1 = ap (item_size layout function) is in
        let bounds = address_bounds layout p f function i item size has in
        let high = bounds.1 in
        let follows = next_address layout p f function i item has in
        let (pc, whole) = situation_is u (at_pc t (t.state.pc + 4)) (t.state.pc + 4) (refl, refl) (sym (passes d held t op rs1 rs2 far kind not_taken (omega arith)) ∙ makes_by layout p d held t u (branch_ins op rs1 rs2 far) there makes) in
        out_of_items layout p f function (i + 1) u.state has.named whole (omega arith) inside

    pub branch_spares : (n : ℕ) (w : Situation) → LeadsBy layout p d held n t w → AllSpare layout p d held kept (suc n) t
    branch_spares n w way =
        spared_once layout p d held kept n t w (quiet_at t (branch_ins op rs1 rs2 far) there (not_store (branch_ins op rs1 rs2 far) (λ e. let never : ⊥ = cc in never))) (λ u makes inside. by_test (is_taken op (register t.state rs1) (register t.state rs2)) u refl makes inside) way
