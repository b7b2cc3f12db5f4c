use Rattle.std.proofs.Common.{sym, subst}
use Rattle.std.specs.List.{Contains}
use Rattle.st_stack.specs.Exported.{Exports, IsFrameOn}
use Rattle.st_stack.proofs.Frames.{on_of, lie_apart}
use Rattle.st_stack.proofs.stack.PhysStack.frames_lie_apart.Goals as goal

pub returns-clause-on : goal.returns-clause-on
returns-clause-on c =
    let s = c.self.inside in
    λ f there.
    subst (λ (x : Exports). IsFrameOn x.lo x.hi f) c.self.view_is (on_of s.lo s.hi s.frames.frames f c.self.invariant.on (subst (λ (x : Exports). Contains x.exported f) (sym c.self.view_is) there))

pub returns-clause-apart : goal.returns-clause-apart
returns-clause-apart c =
    λ f g there too other.
    lie_apart c.self.inside.frames.frames c.self.invariant.descending f g (subst (λ (x : Exports). Contains x.exported f) (sym c.self.view_is) there) (subst (λ (x : Exports). Contains x.exported g) (sym c.self.view_is) too) other
