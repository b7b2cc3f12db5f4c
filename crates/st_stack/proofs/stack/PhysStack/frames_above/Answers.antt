use Rattle.std.proofs.Common.{subst}
use Rattle.st_stack.specs.Exported.{Exports, IsPlaceOf}
use Rattle.st_stack.proofs.Frames.{falls_to}
use Rattle.st_stack.proofs.stack.PhysStack.frames_above.Goals as goal

pub place-requires : goal.place-requires
place-requires c =
    let s = c.self.inside in
    falls_to s.lo s.hi s.frames.frames c.self.invariant.on c.self.invariant.descending

pub returns : goal.returns
returns c = subst (λ (x : Exports). IsPlaceOf c.args.f x.exported c.place.result) c.self.view_is c.place.ensures
