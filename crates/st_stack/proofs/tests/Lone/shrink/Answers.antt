use Rattle.std.proofs.Common.{subst}
use Rattle.st_words.specs.Plain.{Exact, view_at}
use Rattle.st_stack.specs.Exported.{IsFrameOn}
use Rattle.st_stack.proofs.Trying.{asks_look, own_stack, IsWhole, shrink_keeps}
use Rattle.st_stack.proofs.tests.Lone.shrink.Goals as goal

pub shrink_step-requires-clause-stack : goal.shrink_step-requires-clause-stack
shrink_step-requires-clause-stack c = own_stack c.args.stack.now.lo c.args.stack.now.hi c.requires.0 c.requires.1

pub shrink_step-requires-clause-may : goal.shrink_step-requires-clause-may
shrink_step-requires-clause-may c =
    let s = c.args.self.now in
    let stack = c.args.stack.now in
    λ f lowest on. record {
      serves = s.serves;
      may = asks_look (Exact s.board.words s.board.kept.cargoes 0) (view_at s.board.kept.views 0) f s.holds (subst (λ hi. IsFrameOn 0x8000_0000 hi f) c.requires.1 (subst (λ lo. IsFrameOn lo stack.hi f) c.requires.0 on));
    }

pub invariant_of-self : goal.invariant_of-self
invariant_of-self c =
    let s = c.args.self.now in
    let kept : IsWhole c.shrink_step.new.board = shrink_keeps s.board c.shrink_step.new.board c.args.stack.now.hi c.args.stack.now.exported c.shrink_step.new.self.exported c.args.top c.shrink_step.result (record { serves = s.serves; words = s.words; holds = s.holds }) c.shrink_step.ensures.shrunk in
    record { serves = kept.serves; words = kept.words; holds = kept.holds }
