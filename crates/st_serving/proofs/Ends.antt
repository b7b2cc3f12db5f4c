-- A child has ended, and the thread below it goes on behind its fork: read end_goes_on.
use Rattle.std.proofs.Common.{◌≡◌, inr, ℕ, ◌+◌, ◌^◌, ◌<◌, Bool, List, ◌∷◌, refl, sym, subst}
use Rattle.st_base.specs.declared.chain.Frame.{Frame}
use Rattle.st_base.specs.declared.reg.Reg.{Reg}
use Rattle.st_base.specs.declared.reg.Reg.TheVariants as registers
use Rattle.st_base.specs.Reg.{reg_number}
use Rattle.st_base.specs.declared.thread.Held.{Held}
use Rattle.st_model.specs.declared.code.Layout.TheVariants.{Postprocessed}
use Rattle.st_model.specs.declared.program.Program.{Program}
use Rattle.st_model.specs.Accepted.{IsAccepted}
use Rattle.st_words.specs.declared.view.Known.{Known}
use Rattle.st_step.specs.declared.state.State.{State}
use Rattle.st_step.specs.Frames.{value_in}
use Rattle.st_step.specs.Moves.{register}
use Rattle.st_step.specs.Runs.{Situation}
use Rattle.st_step.proofs.Writes.{register-written_other}
use Rattle.st_items.specs.Body.{Ends}
use Rattle.st_items.specs.Code.{IsSized}
use Rattle.st_items.proofs.Body.{machine_written}
use Rattle.st_items.proofs.KeptFiles.{frameless_kept}
use Rattle.st_chain.specs.Walk.{named_by, FromNewest}
use Rattle.st_chain.specs.Threads.{HasForked, HoldsOver, put_value}
use Rattle.st_standing.specs.Standing.{under, StandsOn, AtLast}
use Rattle.st_serving.specs.Serving.{back_with}
use Rattle.st_serving.proofs.ForkRegisters.{IsForkRegister, behind_register, same_put, file_put}
use Rattle.st_serving.proofs.Unchanged.{newest_sees}

module _ (p : Program) (names : List (Held × ℕ)) (holds : ℕ → Bool) (ends : Ends) (u : Situation) (cell value : ℕ) (k : Known) (fs : List Frame) (ks : List Known) (rest : List (List Frame)) (accepted : IsAccepted p) (less : cell < 2 ^ 64) (at : AtLast p names holds ends u cell value (k ∷ ks) (fs ∷ rest)) (ret : ℕ) (handle : Reg) (back : register u.state registers.Ra ≡ ret + 4) (forked : HasForked p ret handle k.thread.activations) where
  abbrev m : State
  m = back_with handle cell u.state

  abbrev put : ℕ → ℕ
  put = put_value (reg_number handle) cell (value_in u.state)

  is_fork : IsForkRegister handle
  is_fork = behind_register p ret handle k.thread.activations accepted forked

  behind : FromNewest p (named_by names) holds (under p names holds k.note.cell ks rest) 0 (ret + 4) (register u.state registers.S0) u.word put k.thread.activations fs
      → FromNewest p (named_by names) holds (under p names holds k.note.cell ks rest) 0 (register u.state registers.Ra) (register m registers.S0) u.word (value_in m) k.thread.activations fs
  behind newest =
      let end = under p names holds k.note.cell ks rest in
      let read = newest_sees p names holds accepted k.note.cell ks rest u.word k.thread.activations fs 0 (ret + 4) (register u.state registers.S0) put (value_in m) (λ x kept. same_put handle is_fork u.state cell at.machine.has_registers.count x) newest in
      subst (λ (pc : ℕ). FromNewest p (named_by names) holds end 0 pc (register m registers.S0) u.word (value_in m) k.thread.activations fs) (sym back)
      (subst (λ (fp : ℕ). FromNewest p (named_by names) holds end 0 (ret + 4) fp u.word (value_in m) k.thread.activations fs) (sym (register-written_other u.state handle registers.S0 cell (λ e. is_fork.apart.fp (sym e)))) read)

  stands : HoldsOver (named_by names) k.thread.registers put → FromNewest p (named_by names) holds (under p names holds k.note.cell ks rest) 0 (ret + 4) (register u.state registers.S0) u.word put k.thread.activations fs
      → StandsOn p names holds ends (record { state = m; word = u.word }) k fs ks rest
  stands over newest = record {
    machine = machine_written ends u handle cell (register u.state registers.Ra) is_fork.apart less at.machine;
    whole = refl;
    file = file_put handle is_fork (named_by names) k.thread.registers u.state cell at.machine.has_registers.count over.file;
    frameless = frameless_kept k.thread.registers over.long over.holds;
    stands = inr (behind newest);
  }

pub end_goes_on : (p : Program) (names : List (Held × ℕ)) (holds : ℕ → Bool) (ends : Ends) (u : Situation) (cell value : ℕ) (k : Known) (fs : List Frame) (ks : List Known) (rest : List (List Frame)) → IsAccepted p → IsSized Postprocessed p → cell < 2 ^ 64 → AtLast p names holds ends u cell value (k ∷ ks) (fs ∷ rest)
    → (ret : ℕ) × (handle : Reg) × (register u.state registers.Ra ≡ ret + 4) × HasForked p ret handle k.thread.activations × StandsOn p names holds ends (record { state = back_with handle cell u.state; word = u.word }) k fs ks rest
end_goes_on p names holds ends u cell value k fs ks rest accepted size less at =
    let (pc, (ret, handle, back, forked, over, newest)) = at.last in
    (ret, handle, back, forked, stands p names holds ends u cell value k fs ks rest accepted less at ret handle back forked over newest)
