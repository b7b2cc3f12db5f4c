use Rattle.std.proofs.Common.{sym, subst, arith, ◌<◌, ◌≤◌}
use Rattle.std.specs.List.{Contains, insert}
use Rattle.st_stack.specs.Exported.{Exports, AllOn, IsDescending, IsWith, IsFrameOn, IsPlaceOf, MayExport}
use Rattle.st_stack.specs.FrameLaw.{FrameLaw}
use Rattle.st_stack.proofs.Frames.{inserted_on, inserted_falls, inserted_with, one_more, a_limit}
use Rattle.st_stack.proofs.Laws.{export_keeps}
use Rattle.st_stack.proofs.stack.PhysStack.export.Goals as goal

pub invariant_of-self : goal.invariant_of-self
invariant_of-self c =
    let s = c.self.inside in
    let kept = c.self.invariant in
    let on = subst (λ (x : Exports). IsFrameOn x.lo x.hi c.args.f) (sym c.self.view_is) c.requires.on in
    let apart = subst (λ (x : Exports). MayExport x.exported c.args.f) (sym c.self.view_is) c.requires.apart in
    let found = subst (λ (x : Exports). (Contains x.exported c.args.f → ⊥) × IsPlaceOf c.args.f x.exported c.in-Err.at) (sym c.self.view_is) c.in-Err.ensures in
    record {
      range = kept.range;
      on = subst (AllOn s.lo s.hi) (sym c.insert.ensures.frames) (inserted_on s.lo s.hi s.frames.frames c.args.f c.in-Err.at kept.on kept.descending found.1 on found.0 apart);
      descending = subst IsDescending (sym c.insert.ensures.frames) (inserted_falls s.lo s.hi s.frames.frames c.args.f c.in-Err.at kept.on kept.descending found.1 on found.0 apart);
      room = omega (arith, kept.room, c.insert.ensures.room);
    }

pub insert-requires-clause-room : goal.insert-requires-clause-room
insert-requires-clause-room c =
    let s = c.self.inside in
    let kept = c.self.invariant in
    let on = subst (λ (x : Exports). IsFrameOn x.lo x.hi c.args.f) (sym c.self.view_is) c.requires.on in
    let apart = subst (λ (x : Exports). MayExport x.exported c.args.f) (sym c.self.view_is) c.requires.apart in
    let found = subst (λ (x : Exports). (Contains x.exported c.args.f → ⊥) × IsPlaceOf c.args.f x.exported c.in-Err.at) (sym c.self.view_is) c.in-Err.ensures in
    let wide : s.lo < s.hi = kept.range.some in
    let h = one_more s.lo s.hi s.frames.frames c.args.f c.in-Err.at kept.on kept.descending found.1 on found.0 apart (omega arith) in
    omega (arith, h, kept.room)

pub returns-clause-added : goal.returns-clause-added
returns-clause-added c =
    let s = c.self.inside in
    let kept = c.self.invariant in
    let on = subst (λ (x : Exports). IsFrameOn x.lo x.hi c.args.f) (sym c.self.view_is) c.requires.on in
    let apart = subst (λ (x : Exports). MayExport x.exported c.args.f) (sym c.self.view_is) c.requires.apart in
    let found = subst (λ (x : Exports). (Contains x.exported c.args.f → ⊥) × IsPlaceOf c.args.f x.exported c.in-Err.at) (sym c.self.view_is) c.in-Err.ensures in
    let more = inserted_with s.lo s.hi s.frames.frames c.args.f c.in-Err.at kept.on kept.descending found.1 on found.0 apart in
    (c.in-Err.ensures.0, subst (IsWith c.args.self.now.exported c.args.f) (sym c.insert.ensures.frames) (subst (λ (x : Exports). IsWith x.exported c.args.f (insert s.frames.frames c.in-Err.at c.args.f)) c.self.view_is more))

pub returns-clause-law : goal.returns-clause-law
returns-clause-law c =
    let s = c.self.inside in
    let kept = c.self.invariant in
    let on = subst (λ (x : Exports). IsFrameOn x.lo x.hi c.args.f) (sym c.self.view_is) c.requires.on in
    let apart = subst (λ (x : Exports). MayExport x.exported c.args.f) (sym c.self.view_is) c.requires.apart in
    let found = subst (λ (x : Exports). (Contains x.exported c.args.f → ⊥) × IsPlaceOf c.args.f x.exported c.in-Err.at) (sym c.self.view_is) c.in-Err.ensures in
    let more = subst (IsWith s.frames.frames c.args.f) (sym c.insert.ensures.frames) (inserted_with s.lo s.hi s.frames.frames c.args.f c.in-Err.at kept.on kept.descending found.1 on found.0 apart) in
    let limit = a_limit s.lo s.hi s.frames.frames kept.on kept.descending in
    λ is_zero sp live own law joins.
    let held = subst (λ (x : Exports). FrameLaw is_zero x.hi sp x.exported live own) (sym c.self.view_is) law in
    export_keeps is_zero s.hi sp s.frames.frames _ live own c.args.f limit.0 limit.1 more apart held (let a : sp ≤ c.args.f.low = joins.above in let b : c.args.f.low < c.args.f.base = on.some in let d : c.args.f.base ≤ s.hi = on.to in omega arith) joins
