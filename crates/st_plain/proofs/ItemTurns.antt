-- Amid an item a turn is left (none_left).
use Rattle.std.proofs.Common.{◌≡◌, inl, inr, ℕ, arith}
use Rattle.st_base.specs.declared.image.Image.{Image}
use Rattle.st_base.specs.declared.limits.Limits.{Limits}
use Rattle.st_model.specs.declared.ordinary.State.{State}
use Rattle.st_model.specs.declared.program.Program.{Program}
use Rattle.st_model.specs.Memory.{Data}
use Rattle.st_plain.specs.declared.run.PlainRun.{PlainRun}
use Rattle.st_plain.specs.Running.{IsAmid, IsUnderWay}

none_left_amid : (p : Program) (d : Data) (limits : Limits) (drawn : ℕ) (r : PlainRun) (s : State) (left : ℕ) → left ≡ 0 → IsAmid p d limits drawn r s left → ⊥
none_left_amid p d limits drawn r s left none (inl starts) = omega (arith, none, starts.0)
none_left_amid p d limits drawn r s left none (inr (inl calls)) = omega (arith, none, calls.few)
none_left_amid p d limits drawn r s left none (inr (inr passes)) = omega (arith, none, passes.some, passes.few)

pub none_left : (p : Program) (image : Image) (d : Data) (limits : Limits) (drawn : ℕ) (r : PlainRun) (s : State) (left : ℕ) → left ≡ 0 → IsUnderWay p image d limits drawn r s left → ⊥
none_left p image d limits drawn r s left none under = none_left_amid p d limits drawn r s left none under.amid
