-- The register of a fork: a handle that a call keeps, which is none of zero and the registers that hold the frames. Read IsForkRegister, which holds of an
-- accepted fork's (fork_register, behind_register). A write to it on the machine is one to what the thread has (file_put, holds_put).
use Rattle.std.proofs.Common.{◌≡◌, ◌≢◌, inr, ℕ, ◌-◌, ◌==◌, Bool, true, false, cond, List, [], ◌∷◌, length, Some, None, slice_set, slice_index_or, ap, sym, ◌∙◌, subst, refl}
use Rattle.std.proofs.lemmas.Bool.{eqb-true, eqb-false}
use Rattle.std.proofs.lemmas.List.{get_or-set_other}
use Rattle.st_base.specs.declared.reg.Reg.{Reg}
use Rattle.st_base.specs.declared.reg.Reg.TheVariants as registers
use Rattle.st_base.specs.Reg.{reg_number}
use Rattle.st_base.specs.declared.thread.Activation.{Activation}
use Rattle.st_base.specs.declared.thread.Held.{Held}
use Rattle.st_base.specs.Registers.{write_register}
use Rattle.st_model.specs.declared.program.ItemKind.{ItemKind}
use Rattle.st_model.specs.declared.program.ItemKind.TheVariants.{Fork}
use Rattle.st_model.specs.declared.program.Program.{Program}
use Rattle.st_model.specs.Accepted.{IsAccepted, Fits}
use Rattle.st_model.specs.Effect.{File}
use Rattle.st_model.specs.Flow.{between}
use Rattle.st_step.specs.declared.state.State.{State}
use Rattle.st_step.specs.Frames.{Naming, value_in, HasFile, IsHeldAs, HoldsKept, is_kept}
use Rattle.st_step.specs.Moves.{written}
use Rattle.st_items.proofs.ItemCode.{formed_of}
use Rattle.st_items.proofs.Registers.{IsOfBody, IsApart, body_apart, fork_handle}
use Rattle.st_chain.specs.Threads.{HasForked, put_value}
use Rattle.st_chain.proofs.Suspending.{put_written}

pub record IsForkRegister (r : Reg) : Type 0 where
  pub of_body : IsOfBody r
  pub apart : IsApart r
  pub some : (reg_number r == 0) ≡ false
  pub kept : is_kept (reg_number r) ≡ true

some_number : (r : Reg) → between 24 28 (reg_number r) ≡ true → (reg_number r == 0) ≡ false
some_number registers.S8 is = refl
some_number registers.S9 is = refl
some_number registers.S10 is = refl
some_number registers.S11 is = refl
some_number _ is = absurd (let never : ⊥ = cc in never)

kept_number : (r : Reg) → between 24 28 (reg_number r) ≡ true → is_kept (reg_number r) ≡ true
kept_number registers.S8 is = refl
kept_number registers.S9 is = refl
kept_number registers.S10 is = refl
kept_number registers.S11 is = refl
kept_number _ is = absurd (let never : ⊥ = cc in never)

pub fork_register : (r : Reg) → between 24 28 (reg_number r) ≡ true → IsForkRegister r
fork_register r is = record { of_body = inr (fork_handle r is); apart = body_apart r (inr (fork_handle r is)); some = some_number r is; kept = kept_number r is }

pub behind_register : (p : Program) (ret : ℕ) (handle : Reg) (acts : List Activation) → IsAccepted p → HasForked p ret handle acts → IsForkRegister handle
behind_register p ret handle [] accepted forked = absurd forked
behind_register p ret handle (a ∷ older) accepted forked =
    let fits : Fits p forked.function (Fork forked.g handle) = subst (λ (c : ItemKind). Fits p forked.function c) forked.forks ((formed_of p a.function forked.function accepted forked.has.named).fits (a.next - 1) forked.item forked.has.placed) in
    fork_register handle fits.1

-- ---- a write to it

module _ (r : Reg) (is_fork : IsForkRegister r) where
  pub same_put : (m : State) (n : ℕ) → length m.registers ≡ 32 → (x : ℕ) → put_value (reg_number r) n (value_in m) x ≡ value_in (written m r n) x
  same_put m n count x = put_written m r n x count is_fork.some

  pub file_put : (names : Naming) (file : File) (m : State) (n : ℕ) → length m.registers ≡ 32 → HasFile names file (put_value (reg_number r) n (value_in m)) → HasFile names file (value_in (written m r n))
  file_put names file m n count has x held there = subst (λ (v : ℕ). IsHeldAs names held v) (same_put m n count x) (has x held there)

  pub put_file : (names : Naming) (file : File) (m : State) (n : ℕ) → length m.registers ≡ 32 → HasFile names file (value_in (written m r n)) → HasFile names file (put_value (reg_number r) n (value_in m))
  put_file names file m n count has x held there = subst (λ (v : ℕ). IsHeldAs names held v) (sym (same_put m n count x)) (has x held there)

  -- a file that holds nothing that a call takes still holds nothing of that kind
  pub holds_put : (file : File) (held : Held) → HoldsKept file → HoldsKept (write_register file r held)
  holds_put file held holds x there is = by_case (reg_number r == x) (eqb-true (reg_number r) x) (eqb-false (reg_number r) x)
    where
      set : slice_index_or (slice_set file (reg_number r) (Some held)) x None ≡ Some there
      set = sym (ap (λ (b : Bool). slice_index_or (cond b file (slice_set file (reg_number r) (Some held))) x None) is_fork.some) ∙ is

      by_case : (b : Bool) → (b ≡ true → reg_number r ≡ x) → (b ≡ false → reg_number r ≢ x) → is_kept x ≡ true
      by_case true same other = subst (λ (y : ℕ). is_kept y ≡ true) (same refl) is_fork.kept
      by_case false same other = let not = other refl in holds x there (sym (get_or-set_other file (reg_number r) x (Some held) None (λ e. not (sym e))) ∙ set)
