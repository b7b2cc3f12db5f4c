use Rattle.std.proofs.Common.{◌≡◌, ◌∙◌, ap, length, arith, ◌*◌, ◌/◌}
use Rattle.st_words.specs.Plain.{view_at}
use Rattle.st_words.proofs.Opening.{first_view_at, first_views_count, first_sizes}
use Rattle.st_stack.proofs.Trying.{first_holds}
use Rattle.st_stack.proofs.tests.Lone.open.Goals as goal

pub invariant_of-result : goal.invariant_of-result
invariant_of-result c =
    let limits = c.limits-limits.result in
    let board = c.in_ok-board.board in
    let opened = c.in_ok-board.ensures in
    let count : length board.kept.views ≡ 1 = first_views_count limits 1 board.kept.views opened.views in
    let sizes = first_sizes limits 1 board.words opened.words in
    record {
      serves = omega (arith, count);
      words = sizes.2 ∙ ap (λ n. 1 * (n / 8)) c.limits-limits.ensures;
      holds = first_holds (view_at board.kept.views 0) limits c.limits-limits.ensures (ap (λ vs. view_at vs 0) opened.views ∙ first_view_at limits 1 0 (omega arith));
    }
