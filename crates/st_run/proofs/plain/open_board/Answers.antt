use Rattle.std.proofs.Common.{◌≡◌}
use Rattle.st_words.specs.declared.plain.PlainBoard.{PlainBoard}
use Rattle.st_words.specs.Plain.{first_words, first_cargoes, first_views}
use Rattle.st_model.specs.Ordinary.{start}
use Rattle.st_run.specs.OfPlain.{PlainIsFor}
use Rattle.st_run.specs.Rules.{rules}
use Rattle.st_run.proofs.Opened.{root_thread, opened, if_all}
use Rattle.st_run.proofs.plain.open_board.Goals as goal

pub returns-clause-here : goal.returns-clause-here
returns-clause-here g c =
    let p = g.P.Plan.program in
    let d = g.P.Plan.source in
    let limits = g.P.Plan.limits in
    let given = c.args.limits.now in
    let workers = c.args.workers in
    if_all (λ (b : PlainBoard). b.words ≡ first_words given workers) (λ (b : PlainBoard). b.kept.cargoes ≡ first_cargoes given workers (root_thread (start p d))) (λ (b : PlainBoard). b.kept.views ≡ first_views given workers) (λ (b : PlainBoard). PlainIsFor p d limits b.words b.kept.cargoes b.kept.views)
    (λ b words cargoes views. opened p d limits (rules p d limits) workers c.requires.most c.requires.begins given c.requires.same b.words b.kept.cargoes b.kept.views words cargoes views)
    c.open.result c.open.ensures.words c.open.ensures.cargoes c.open.ensures.views
