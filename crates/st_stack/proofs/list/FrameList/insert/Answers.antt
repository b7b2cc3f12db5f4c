use Rattle.std.proofs.Common.{rules, ap, ◌≡◌, ◌∙◌, length, ◌-◌}
use Rattle.std.specs.List.{insert}
use Rattle.st_stack.specs.Listing.{Listing}
use Rattle.st_stack.proofs.Turned.{turned-at}
use Rattle.st_stack.proofs.list.FrameList.insert.Goals as goal

pub returns-clause-frames : goal.returns-clause-frames
returns-clause-frames c =
    let whole : c.insert.new.self.items ≡ insert c.args.self.now.frames c.args.at c.args.f = c.in-Ok.ensures.items ∙ ap (λ xs. insert xs c.args.at c.args.f) c.straighten.ensures.frames ∙ ap (λ (x : Listing). insert x.frames c.args.at c.args.f) c.self.view_is in
    let last : c.len.result - 1 ≡ length c.insert.new.self.items - 1 = search rules in
    turned-at (c.len.result - 1) c.insert.new.self.items last ∙ whole
