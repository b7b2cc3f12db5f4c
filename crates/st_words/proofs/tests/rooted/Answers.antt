use Rattle.std.proofs.Common.{◌≡◌, ap, ◌∙◌, arith}
use Rattle.std.specs.Int.{from_bool}
use Rattle.st_words.specs.Plain.{Exact, view_at, first_view}
use Rattle.st_words.specs.Steps.{RootTake}
use Rattle.st_words.specs.Views.{no_known}
use Rattle.st_words.proofs.Naming.{plain_asks}
use Rattle.st_words.proofs.Opening.{first_view_at, first_views_count}
use Rattle.st_words.proofs.Rooting.{root_view, root_seen, asks_root, root_found, root_share}
use Rattle.st_words.proofs.tests.rooted.Goals as goal

pub root_take-requires : goal.root_take-requires
root_take-requires c =
    let l = first_views_count c.args.limits.now 2 c.in_ok-board.board.kept.views c.in_ok-board.ensures.views in
    record { may = record { serves = omega (arith, l); may = plain_asks (Exact c.in_ok-board.board.words c.in_ok-board.board.kept.cargoes 0) (view_at c.in_ok-board.board.kept.views 0) RootTake tt } }

pub slot_take-requires : goal.slot_take-requires
slot_take-requires c =
    let first : view_at c.in_ok-board.board.kept.views 0 ≡ first_view c.args.limits.now 2 0 = ap (λ vs. view_at vs 0) c.in_ok-board.ensures.views ∙ first_view_at c.args.limits.now 2 0 (omega arith) in
    let seen : view_at c.root_take.new.self.kept.views 0 ≡ root_view c.args.limits.now = root_seen c.args.limits.now c.in_ok-board.board.words (view_at c.in_ok-board.board.kept.views 0) (view_at c.root_take.new.self.kept.views 0) (from_bool c.root_take.result) c.in_ok-board.ensures.words c.root_take.ensures.made.said first c.root_take.ensures.made.view in
    record { may = record { serves = c.root_take.ensures.made.serves; may = asks_root (Exact c.root_take.new.self.words c.root_take.new.self.kept.cargoes 0) c.args.limits.now (view_at c.root_take.new.self.kept.views 0) c.requires.cells seen } }

pub returns-clause-share : goal.returns-clause-share
returns-clause-share c =
    let first : view_at c.in_ok-board.board.kept.views 0 ≡ first_view c.args.limits.now 2 0 = ap (λ vs. view_at vs 0) c.in_ok-board.ensures.views ∙ first_view_at c.args.limits.now 2 0 (omega arith) in
    let seen : view_at c.root_take.new.self.kept.views 0 ≡ root_view c.args.limits.now = root_seen c.args.limits.now c.in_ok-board.board.words (view_at c.in_ok-board.board.kept.views 0) (view_at c.root_take.new.self.kept.views 0) (from_bool c.root_take.result) c.in_ok-board.ensures.words c.root_take.ensures.made.said first c.root_take.ensures.made.view in
    let told = c.slot_take.ensures.told in
    let found = root_found c.args.limits.now c.in_ok-board.board.words c.root_take.new.self.words (from_bool c.root_take.result) c.slot_take.result c.requires.cells c.in_ok-board.ensures.words c.root_take.ensures.made.did.words told.1.said.0 in
    root_share c.args.limits.now no_known.thread c.root_take.new.self.kept.cargoes (view_at c.root_take.new.self.kept.views 0) (view_at c.slot_take.new.self.kept.views 0) c.slot_take.result told.0 c.requires.cells (c.root_take.ensures.made.did.cargoes ∙ c.in_ok-board.ensures.cargoes) seen found told.1.said.1 told.1.view
