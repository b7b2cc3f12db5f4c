use Rattle.std.proofs.Common.{rules, ◌≡◌, ◌∙◌, sym, subst, ap, length, take, ◌-◌}
use Rattle.st_stack.specs.Exported.{Exports, AllOn, IsDescending, IsWithout, IsLowest}
use Rattle.st_stack.proofs.Frames.{lowest_is_last, rest_without, rest_on, rest_falls}
use Rattle.st_stack.proofs.stack.PhysStack.take_back.Goals as goal

pub invariant_of-self : goal.invariant_of-self
invariant_of-self c =
    let s = c.self.inside in
    let kept = c.self.invariant in
    let fs = s.frames.frames in
    let lowest = subst (λ (x : Exports). IsLowest x.exported c.args.f) (sym c.self.view_is) c.requires in
    let last = lowest_is_last s.lo s.hi fs c.args.f kept.on kept.descending lowest in
    let rest : c.pop.new.self.frames ≡ take (length fs - 1) fs = c.pop.ensures.frames in
    record {
      range = kept.range;
      on = subst (AllOn s.lo s.hi) (sym rest) (rest_on s.lo s.hi fs c.args.f kept.on kept.descending last.0 last.1);
      descending = subst IsDescending (sym rest) (rest_falls s.lo s.hi fs c.args.f kept.on kept.descending last.0 last.1);
      room = search (rules, kept.room, c.pop.ensures.room);
    }

pub returns-clause-without : goal.returns-clause-without
returns-clause-without c =
    let s = c.self.inside in
    let kept = c.self.invariant in
    let fs = s.frames.frames in
    let lowest = subst (λ (x : Exports). IsLowest x.exported c.args.f) (sym c.self.view_is) c.requires in
    let last = lowest_is_last s.lo s.hi fs c.args.f kept.on kept.descending lowest in
    let rest : c.pop.new.self.frames ≡ take (length fs - 1) fs = c.pop.ensures.frames in
    subst (λ (x : Exports). IsWithout x.exported c.args.f c.pop.new.self.frames) c.self.view_is (subst (IsWithout fs c.args.f) (sym rest) (rest_without s.lo s.hi fs c.args.f kept.on kept.descending last.0 last.1))
