-- Loads: of a slot, or of the read-only data and the input, of which a load that isn't aligned or that reads past them traps (load_goes).
use Rattle.std.proofs.Common.{◌≡◌, inl, ℕ, ◌+◌, ◌%◌, ◌^◌, ◌<◌, ◌==◌, Bool, true, false, Option, Some, None, IfSome, refl, ap, ◌∙◌, if◌then◌else◌}
use Rattle.st_base.specs.declared.thread.Held.TheVariants.{Number}
use Rattle.st_base.specs.declared.thread.TrapKind.TheVariants.{LoadRange, Misaligned}
use Rattle.st_rv.specs.declared.ins.OpKind.TheVariants as kinds
use Rattle.st_rv.specs.declared.ins.Ins.{Ins}
use Rattle.st_rv.specs.Op.{kind_of}
use Rattle.st_rv.specs.Results.{word_of, access_size, extended}
use Rattle.st_model.specs.declared.program.Item.{Item}
use Rattle.st_model.specs.declared.program.ItemKind.TheVariants.{Plain}
use Rattle.st_model.specs.declared.program.Program.{Program}
use Rattle.st_model.specs.declared.program.ProgramFunction.{ProgramFunction}
use Rattle.st_model.specs.Accepted.{IsInt, MayWrite, LoadFits, PlainFitsAs}
use Rattle.st_model.specs.Effect.{File, int, is_frame, data_when, load_by, load_effect}
use Rattle.st_model.specs.Memory.{Data, load_from, data_byte}
use Rattle.st_step.specs.Moves.{Move, move_of, register, address_of, is_stack, stack_load, data_load}
use Rattle.st_step.specs.Moves as moves
use Rattle.st_step.specs.Runs.{Situation, moved}
use Rattle.st_step.proofs.ResultBounds.{extended_fits, load_fits}
use Rattle.st_items.proofs.Registers.{int_no_stack}
use Rattle.st_items.proofs.AtLine.{number_cases, number_held, line_traps}
use Rattle.st_items.proofs.Computes.{plain_there, plain_result, moves_as}
use Rattle.st_items.proofs.Slots.{frame_load_goes}
use Rattle.st_items.specs.Body.{Ends, Context, IsAtLine, EffectStands}
use Rattle.st_model.specs.declared.code.Layout.{Layout}
use Rattle.st_step.specs.Frames.{Naming}
use Rattle.st_base.specs.declared.thread.Activation.{Activation}

module _ (layout : Layout) (p : Program) (d : Data) (held : ℕ → Bool) (names : Naming) (older : Context) (ends : Ends) (bottom : ℕ) (t : Situation) (top : Activation) (file : File) (function : ProgramFunction) (item : Item) (line : IsAtLine layout p held names older ends bottom t top file function item) (i : Ins) (is : item.kind ≡ Plain i) where
  -- by whether it is aligned, and what is there
  when_goes : (b : Bool) (o : Option ℕ) → move_of d t.state i ≡ moves.data_when t.state i b o → IfSome o (λ n. n < 2 ^ 64) → IsInt i.rd → MayWrite function i.rd → EffectStands layout p d held names older ends bottom t function (data_when b o i top file)
  when_goes false o does less ints may = line_traps layout p d held names older ends bottom t top file function item i Misaligned (plain_there layout p held names older ends bottom t top file function item i line is) does
  when_goes true None does less ints may = line_traps layout p d held names older ends bottom t top file function item i LoadRange (plain_there layout p held names older ends bottom t top file function item i line is) does
  when_goes true (Some v) does less ints may =
      plain_result layout p d held names older ends bottom t top file function item line i is (extended i.op v) (Number (extended i.op v)) (ap (moved held t) does) may (inl ints) refl (extended_fits i.op v less)

  data_load_goes : kind_of i.op ≡ kinds.Load → IsInt i.rd → IsInt i.rs1 → MayWrite function i.rd → EffectStands layout p d held names older ends bottom t function (load_by false d i top file)
  data_load_goes kind ints base_int may =
      number_cases layout p d held names older ends bottom t top file function item (int file i.rs1) _ (λ base there.
      let address = (base + word_of i.imm) % 2 ^ 64 in
      let size = access_size i.op in
      let same = number_held names file t.state i.rs1 base line.body.file there in
      when_goes (address % size == 0) (load_from (data_byte d) address size)
      (moves_as kinds.Load d t.state i kind
      ∙ ap (λ (b : Bool). if b then stack_load t.state i (address_of t.state i) else data_load d t.state i (address_of t.state i)) (int_no_stack i.rs1 base_int)
      ∙ ap (λ (x : ℕ). data_load d t.state i ((x + word_of i.imm) % 2 ^ 64)) same)
      (load_fits (data_byte d) address size) ints may)

  by_base : (b : Bool) → is_frame i.rs1 ≡ b → kind_of i.op ≡ kinds.Load → LoadFits b function i → MayWrite function i.rd → EffectStands layout p d held names older ends bottom t function (load_by b d i top file)
  by_base true frame kind fits may = frame_load_goes layout p d held names older ends bottom t top file function item line i is kind frame fits may
  by_base false frame kind fits may = data_load_goes kind fits.0 fits.1 may

  pub load_goes : kind_of i.op ≡ kinds.Load → PlainFitsAs kinds.Load function i → EffectStands layout p d held names older ends bottom t function (load_effect d i top file)
  load_goes kind fits = by_base (is_frame i.rs1) refl kind fits.0 fits.1
