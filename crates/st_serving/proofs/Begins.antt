-- A child that has just been forked begins: one jump leads to the first item of its thread. Read forked_goes.
use Rattle.std.proofs.Common.{◌≡◌, inl, inr, ℕ, ◌+◌, ◌^◌, ◌<◌, Bool, List, [], ◌∷◌, refl, sym, subst, arith}
use Rattle.st_base.specs.declared.chain.Frame.{Frame}
use Rattle.st_base.specs.declared.reg.Reg.TheVariants as registers
use Rattle.st_base.specs.declared.thread.Activation.{Activation}
use Rattle.st_base.specs.declared.thread.ActivationKind.{ActivationKind}
use Rattle.st_base.specs.declared.thread.ActivationKind.TheVariants.{Forked}
use Rattle.st_base.specs.declared.thread.Held.{Held}
use Rattle.st_model.specs.declared.code.Layout.TheVariants.{Postprocessed}
use Rattle.st_model.specs.declared.program.Program.{Program}
use Rattle.st_model.specs.Accepted.{IsAccepted}
use Rattle.st_model.specs.Memory.{Data}
use Rattle.st_words.specs.declared.view.Known.{Known}
use Rattle.st_step.specs.Frames.{address_in, value_in}
use Rattle.st_step.specs.Moves.{register}
use Rattle.st_step.specs.Runs.{Situation}
use Rattle.st_items.specs.Body.{Ends}
use Rattle.st_items.specs.Code.{IsSized}
use Rattle.st_items.specs.Ways.{OnWay, linked}
use Rattle.st_items.proofs.Addresses.{address_bounds}
use Rattle.st_items.proofs.KeptFiles.{file_over, not_kept}
use Rattle.st_items.proofs.Linking.{linked_other, linked_ra, linked_on}
use Rattle.st_items.proofs.Ways.{jump_makes}
use Rattle.st_chain.specs.Walk.{named_by}
use Rattle.st_standing.specs.Standing.{under, Before, StandsOn, IsForked}
use Rattle.st_serving.proofs.Unchanged.{under_sees}

module _ (p : Program) (d : Data) (names : List (Held × ℕ)) (holds : ℕ → Bool) (ends : Ends) (t : Situation) (k : Known) (ks : List Known) (rest : List (List Frame)) (accepted : IsAccepted p) (size : IsSized Postprocessed p) (is : IsForked p names holds ends t k ks rest) where
  abbrev target : ℕ
  target = address_in Postprocessed p is.first.function is.function is.first.next

  abbrev u : Situation
  u = linked t target

  low : t.state.pc + 4 < 2 ^ 64
  low =
      let behind = is.behind in
      let bounds = (address_bounds Postprocessed p behind.f behind.function behind.i behind.item size behind.has).1 in
      let few = behind.few in
      let at = behind.at in
      omega (arith, bounds, few, at)

  begun : Before p names holds (under p names holds k.note.cell ks rest) u (is.first ∷ []) []
  begun = (
    is.function,
    record {
      here = is.here;
      first = is.start;
      bytes = is.bytes;
      handles = is.handles;
      at = refl;
      below =
          subst (λ (kind : ActivationKind). under p names holds k.note.cell ks rest kind is.first.kept u.word (value_in u.state) (register u.state registers.S0) (register u.state registers.Ra)) (sym is.kind)
          (subst (λ (ret : ℕ). under p names holds k.note.cell ks rest Forked is.first.kept u.word (value_in u.state) (register u.state registers.S0) ret) (sym (linked_ra ends t target is.machine))
          (subst (λ (fp : ℕ). under p names holds k.note.cell ks rest Forked is.first.kept u.word (value_in u.state) fp (t.state.pc + 4)) (sym (linked_other t target 8 (λ e. absurd (omega (arith, e)))))
          (under_sees p names holds accepted k.note.cell ks rest t.word Forked is.first.kept (value_in t.state) (value_in u.state) (register t.state registers.S0) (t.state.pc + 4) (λ x kept. sym (linked_other t target x (not_kept x 1 kept refl))) is.below)));
    },
  )

  stands : StandsOn p names holds ends u k [] ks rest
  stands = record {
    machine = linked_on ends t target low is.machine;
    whole = refl;
    file = file_over (named_by names) k.thread.registers (value_in t.state) (value_in u.state) is.frameless (λ x not_ra not_sp not_fp. sym (linked_other t target x not_ra)) is.file;
    frameless = is.frameless;
    stands = inl (subst (λ (acts : List Activation). Before p names holds (under p names holds k.note.cell ks rest) u acts []) (sym is.acts) begun);
  }

  goes : (v : Situation) × OnWay Postprocessed p d holds 1 t v × (v.word ≡ t.word) × StandsOn p names holds ends v k [] ks rest
  goes = (u, (inr is.behind, (u, jump_makes Postprocessed p d holds t target is.jumps, refl)), refl, stands)

pub forked_goes : (p : Program) (d : Data) (names : List (Held × ℕ)) (holds : ℕ → Bool) (ends : Ends) (t : Situation) (k : Known) (ks : List Known) (rest : List (List Frame)) → IsAccepted p → IsSized Postprocessed p → IsForked p names holds ends t k ks rest
    → (u : Situation) × OnWay Postprocessed p d holds 1 t u × (u.word ≡ t.word) × StandsOn p names holds ends u k [] ks rest
forked_goes p d names holds ends t k ks rest accepted size is = goes p d names holds ends t k ks rest accepted size is
