use Rattle.st_words.specs.Steps.{CellChange, Number, found_by}
use Rattle.st_words.specs.Plain.{words_after, Exact}
use Rattle.st_words.proofs.Stays.{board_sized, board_made}
use Rattle.st_words.proofs.plain.PlainBoardBoard.cell_change.Goals as goal

pub invariant_of-self : goal.invariant_of-self
unfolding words_after
invariant_of-self g c = record { sized = board_sized c.args.self.now.words _ c.args.self.now.kept.cargoes _ c.args.self.now.kept.views _ c.args.w (CellChange c.args.c c.args.old c.args.new) (Number (found_by c.args.old c.cell_change-found.result)) (Exact c.args.self.now.words c.args.self.now.kept.cargoes c.args.w) g.N.NamesView.after c.args.self.now.sized c.requires.may.serves c.requires.may.may c.cell_change-found.ensures.found c.cell_change-found.ensures.left c.kept_by-self.ensures.cargoes c.kept_by-self.ensures.views }

pub returns-clause-made : goal.returns-clause-made
unfolding words_after
returns-clause-made g c = board_made g.N.NamesView.after c.args.self.now _ c.args.w (CellChange c.args.c c.args.old c.args.new) (Number (found_by c.args.old c.cell_change-found.result)) c.requires.may.serves c.cell_change-found.ensures.found c.cell_change-found.ensures.left c.kept_by-self.ensures.cargoes c.kept_by-self.ensures.views
