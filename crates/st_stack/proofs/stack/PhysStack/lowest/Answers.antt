use Rattle.std.proofs.Common.{◌≡◌, ◌<◌, ◌-◌, sym, subst, length}
use Rattle.std.specs.List.{Contains}
use Rattle.std.specs.Option.{IfSome}
use Rattle.st_stack.specs.Exported.{Exports, IsLowest, IsFrameOn, frame_at}
use Rattle.st_stack.proofs.Frames.{for_some, last_is_lowest, on_of}
use Rattle.st_stack.proofs.stack.PhysStack.lowest.Goals as goal

pub returns-clause-some : goal.returns-clause-some
returns-clause-some c =
    let s = c.self.inside in
    let kept = c.self.invariant in
    let fs = s.frames.frames in
    for_some c.last.result (λ f. IsLowest c.args.self.now.exported f) (λ f e.
    let last : (0 < length fs) × (frame_at fs (length fs - 1) ≡ f) = subst (λ o. IfSome o (λ g. (0 < length fs) × (frame_at fs (length fs - 1) ≡ g))) e c.last.ensures.some in
    subst (λ (x : Exports). IsLowest x.exported f) c.self.view_is (last_is_lowest s.lo s.hi fs f kept.on kept.descending last.0 last.1))

pub returns-clause-on : goal.returns-clause-on
returns-clause-on c =
    let s = c.self.inside in
    λ f there.
    subst (λ (x : Exports). IsFrameOn x.lo x.hi f) c.self.view_is (on_of s.lo s.hi s.frames.frames f c.self.invariant.on (subst (λ (x : Exports). Contains x.exported f) (sym c.self.view_is) there))
