use Rattle.std.proofs.Common.{rules, ◌≡◌, ◌<◌, ◌≤◌, ◌-◌, ◌+◌, ◌∙◌, sym, ap, subst, length, arith, Some}
use Rattle.st_stack.specs.Listing.{Listing, turned}
use Rattle.st_stack.specs.Exported.{frame_at}
use Rattle.st_stack.proofs.Frames.{for_some}
use Rattle.st_stack.proofs.Turned.{at_behind, length-turned}
use Rattle.st_stack.proofs.list.FrameList.get.Goals as goal

pub returns-clause-some : goal.returns-clause-some
returns-clause-some c =
    let l = c.self.inside in
    let n = l.turn in
    let fs = l.frames.items in
    let within : n ≤ length fs = omega (arith, c.self.invariant) in
    let whole = length-turned n fs within in
    for_some c.copied-2.result (λ f. (c.args.at < length c.args.self.now.frames) × (frame_at c.args.self.now.frames c.args.at ≡ f)) (λ f e.
    let here : frame_at fs (n + c.in_ok-behind.behind) ≡ f = search (rules, e) in
    let low : n ≤ c.args.at = search rules in
    let few : c.args.at < length fs = search rules in
    let place : n + c.in_ok-behind.behind ≡ length fs - 1 - (c.args.at - n) = search rules in
    subst (λ (x : Listing). (c.args.at < length x.frames) × (frame_at x.frames c.args.at ≡ f)) c.self.view_is (omega (arith, whole, few), at_behind n fs within c.args.at low few ∙ ap (frame_at fs) (sym place) ∙ here))
