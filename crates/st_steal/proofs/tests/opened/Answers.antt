use Rattle.std.proofs.Common.{◌≡◌, ◌∙◌, ap, length, arith}
use Rattle.st_words.specs.Plain.{view_at}
use Rattle.st_words.proofs.Opening.{first_view_at, first_views_count}
use Rattle.st_steal.proofs.Trying.{first_asker, first_answerer, first_mail}
use Rattle.st_steal.proofs.tests.opened.Goals as goal

pub returns-clause-serves : goal.returns-clause-serves
returns-clause-serves c =
    let board = c.in_ok-board.board in
    let count : length board.kept.views ≡ 2 = first_views_count c.limits-limits.result 2 board.kept.views c.in_ok-board.ensures.views in
    omega (arith, count)

pub returns-clause-asker : goal.returns-clause-asker
returns-clause-asker c =
    let board = c.in_ok-board.board in
    let limits = c.limits-limits.result in
    first_asker limits (view_at board.kept.views 0) (ap (λ vs. view_at vs 0) c.in_ok-board.ensures.views ∙ first_view_at limits 2 0 (omega arith))

pub returns-clause-answerer : goal.returns-clause-answerer
returns-clause-answerer c =
    let board = c.in_ok-board.board in
    let limits = c.limits-limits.result in
    first_answerer limits (view_at board.kept.views 1) (ap (λ vs. view_at vs 1) c.in_ok-board.ensures.views ∙ first_view_at limits 2 1 (omega arith))

pub returns-clause-mail : goal.returns-clause-mail
returns-clause-mail c = first_mail c.limits-limits.result c.in_ok-board.board.words c.in_ok-board.ensures.words
