use Rattle.st_words.specs.Steps.{SlotPut, Done}
use Rattle.st_words.specs.Plain.{words_after, Exact, view_at}
use Rattle.st_words.proofs.Stays.{board_sized, board_made}
use Rattle.st_words.proofs.plain.PlainBoardBoard.slot_put.Goals as goal

pub invariant_of-self : goal.invariant_of-self
unfolding words_after
invariant_of-self g c = record { sized = board_sized c.args.self.now.words _ c.args.self.now.kept.cargoes _ c.args.self.now.kept.views _ c.args.w (SlotPut c.args.slot c.args.chain (g.N.NamesView.cargo (view_at c.args.self.now.kept.views c.args.w) c.args.slot c.args.chain)) Done (Exact c.args.self.now.words c.args.self.now.kept.cargoes c.args.w) g.N.NamesView.after c.args.self.now.sized c.requires.may.serves c.requires.may.may tt c.slot_put.ensures c.kept_by-self.ensures.cargoes c.kept_by-self.ensures.views }

pub returns : goal.returns
unfolding words_after
returns g c = record { made = board_made g.N.NamesView.after c.args.self.now _ c.args.w (SlotPut c.args.slot c.args.chain (g.N.NamesView.cargo (view_at c.args.self.now.kept.views c.args.w) c.args.slot c.args.chain)) Done c.requires.may.serves tt c.slot_put.ensures c.kept_by-self.ensures.cargoes c.kept_by-self.ensures.views }
