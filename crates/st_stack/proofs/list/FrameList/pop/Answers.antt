use Rattle.std.proofs.Common.{rules, ◌≡◌, ◌∙◌, ap, length, take, ◌-◌}
use Rattle.st_stack.specs.Listing.{Listing}
use Rattle.st_stack.proofs.Turned.{turned-at}
use Rattle.st_stack.proofs.list.FrameList.pop.Goals as goal

pub returns-clause-frames : goal.returns-clause-frames
returns-clause-frames c =
    let same : c.straighten.new.frames.items ≡ c.args.self.now.frames = c.straighten.ensures.frames ∙ ap (λ (x : Listing). x.frames) c.self.view_is in
    let rest : c.pop.new.self.items ≡ take (length c.args.self.now.frames - 1) c.args.self.now.frames = c.pop.ensures.rest ∙ ap (λ n. take (n - 1) c.straighten.new.frames.items) (search rules) ∙ ap (λ xs. take (length xs - 1) xs) same in
    let last : c.saturating_sub-self-inside.result ≡ length c.pop.new.self.items - 1 = search rules in
    turned-at c.saturating_sub-self-inside.result c.pop.new.self.items last ∙ rest
