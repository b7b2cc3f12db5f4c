-- The end of a child, and its parent behind the fork: an epilogue of a forked activation leads on by the fork's third jump to the entry that ends
-- the child (forked_ends); and from there, with the child's cell in the fork's register, the parent stands at its next item (parent_goes_on).
use Rattle.std.proofs.Common.{◌≡◌, inr, ℕ, suc, ◌+◌, ◌-◌, ◌^◌, ◌<◌, Bool, refl, ◌∙◌, subst, arith}
use Rattle.st_base.specs.declared.reg.Reg.{Reg}
use Rattle.st_base.specs.declared.reg.Reg.TheVariants as registers
use Rattle.st_base.specs.declared.thread.Held.{Held}
use Rattle.st_base.specs.declared.thread.Activation.{Activation}
use Rattle.st_base.specs.declared.thread.ActivationKind.{ActivationKind}
use Rattle.st_base.specs.declared.thread.ActivationKind.TheVariants.{Forked}
use Rattle.st_base.specs.Registers.{write_register}
use Rattle.st_model.specs.declared.code.Layout.{Layout}
use Rattle.st_model.specs.declared.program.Item.{Item}
use Rattle.st_model.specs.declared.program.ItemKind.{ItemKind}
use Rattle.st_model.specs.declared.program.ItemKind.TheVariants.{Fork}
use Rattle.st_model.specs.declared.program.Program.{Program}
use Rattle.st_model.specs.declared.program.ProgramFunction.{ProgramFunction}
use Rattle.st_model.specs.Accepted.{IsAccepted, Fits}
use Rattle.st_model.specs.Effect.{File}
use Rattle.st_model.specs.Layout.{fork_out}
use Rattle.st_model.specs.Memory.{Data}
use Rattle.st_step.specs.Moves.{register, written, at_place}
use Rattle.st_step.specs.Runs.{Situation}
use Rattle.st_step.specs.Frames.{Naming, IsHeldAs, value_in, ComesBack}
use Rattle.st_items.specs.Code.{HasItem, IsSized}
use Rattle.st_items.specs.Ways.{Leads, linked}
use Rattle.st_items.specs.Body.{Ends, IsOn, Context, SeesOutside, IsInBody, StandsAt}
use Rattle.st_items.specs.Left.{Left}
use Rattle.st_items.specs.Called.{Calling, AtChildEnd}
use Rattle.st_items.proofs.Addresses.{address_bounds}
use Rattle.st_items.proofs.Body.{body_written}
use Rattle.st_items.proofs.ItemCode.{formed_of}
use Rattle.st_items.proofs.KeptFiles.{frameless_kept}
use Rattle.st_items.proofs.Leaving.{Comes}
use Rattle.st_items.proofs.Linking.{linked_other, linked_ra, body_linked}
use Rattle.st_items.proofs.Registers.{fork_handle}
use Rattle.st_items.proofs.Returning.{forked_returns}
use Rattle.st_items.proofs.Ways.{leads, leads_further, jump_makes}

module _ (layout : Layout) (p : Program) (names : Naming) (older : Context) (low : ℕ) (function : ProgramFunction) (a : Activation) where
  -- a caller, over the registers that it kept
  pub caller_body : (ends : Ends) (u : Situation) (kind : ActivationKind) (kept : File) (ret : ℕ) → IsOn ends u → Calling layout p names older low function a kind kept u.word (value_in u.state) (register u.state registers.S0) ret → IsInBody p names older ends low u a kept function
  caller_body ends u kind kept ret on (caller, below) = record {
    here = caller.here;
    machine = on;
    file = caller.file;
    frameless = frameless_kept kept caller.long caller.holds;
    framed = record { base = caller.base; slots = caller.slots; below = below };
  }

  pub forked_ends : (d : Data) (held : ℕ → Bool) (ends : Ends) (b : ℕ) (t u : Situation) (top : Activation) → IsSized layout p → SeesOutside older low (low + function.frame_bytes) → Comes layout p d held t u → Left layout (Calling layout p names older low function a) ends b t top u → top.kind ≡ Forked
      → (v : Situation) × Leads layout p d held t v × (v.word ≡ u.word) × AtChildEnd layout p names older (record ends { sp = register u.state registers.Sp }) low v a top.kept function (register t.state registers.A0)
  forked_ends d held ends b t u top size sees (n, few, way) left forked =
      let third = forked_returns layout p names older low function a ends b t u top size left forked in
      let behind = third.behind in
      let bounds = address_bounds layout p behind.f behind.function behind.i behind.item size behind.has in
      let inside = behind.few in
      let at = behind.at in
      let most = bounds.1 in
      let here : IsOn (record ends { sp = register u.state registers.Sp }) u = left.machine in
      let stands = left.stands in
      let back : ComesBack layout p Forked a function u.state.pc = subst (λ (k : ActivationKind). ComesBack layout p k a function u.state.pc) forked stands.0.back in
      let next = back.0 in
      let ra = linked_ra (record ends { sp = register u.state registers.Sp }) u fork_out here in
      let body = caller_body (record ends { sp = register u.state registers.Sp }) u top.kind top.kept u.state.pc here stands in (
        linked u fork_out,
        leads layout p d held (suc n) t (linked u fork_out) (omega arith) (leads_further layout p d held n t u (linked u fork_out) way (inr behind) (jump_makes layout p d held u fork_out third.jumps)),
        refl,
        record {
          body = body_linked p names older (record ends { sp = register u.state registers.Sp }) low u fork_out a top.kept function (omega arith) sees body;
          begun = stands.0.begun;
          at = refl;
          back = ra ∙ next;
          value_is = linked_other u fork_out 10 (λ e. absurd (omega (arith, e))) ∙ left.a0;
          whole = refl;
        },
      )

  -- the name of the child's cell is in the fork's register
  pub parent_goes_on : (ends : Ends) (u : Situation) (kept : File) (value : ℕ) (item : Item) (g : ℕ) (handle : Reg) (name : Held) (cell : ℕ) → IsAccepted p → SeesOutside older low (low + function.frame_bytes) → HasItem p a.function function (a.next - 1) item → item.kind ≡ Fork g handle → IsHeldAs names name cell → cell < 2 ^ 64
      → AtChildEnd layout p names older ends low u a kept function value
      → StandsAt layout p names older ends low (record { state = at_place (register u.state registers.Ra) (written u.state handle cell); word = u.word }) a (write_register kept handle name) function
  parent_goes_on ends u kept value item g handle name cell accepted sees has kind holds less ended =
      let fits : Fits p function (Fork g handle) = subst (λ (k : ItemKind). Fits p function k) kind ((formed_of p a.function function accepted has.named).fits (a.next - 1) item has.placed) in
      record {
        body = body_written p names older ends low u a kept function handle name cell (register u.state registers.Ra) a.next sees fits.2 (inr (fork_handle handle fits.1)) holds less ended.body;
        begun = ended.begun;
        at = ended.back;
        whole = refl;
      }
