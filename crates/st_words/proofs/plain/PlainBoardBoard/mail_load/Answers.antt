use Rattle.st_words.specs.Steps.{MailLoad, Number}
use Rattle.st_words.specs.Plain.{words_after, Exact}
use Rattle.st_words.proofs.Stays.{board_sized, board_made}
use Rattle.std.proofs.Common.{refl}
use Rattle.st_words.proofs.plain.PlainBoardBoard.mail_load.Goals as goal

pub invariant_of-self : goal.invariant_of-self
unfolding words_after
invariant_of-self g c = record { sized = board_sized c.args.self.now.words _ c.args.self.now.kept.cargoes _ c.args.self.now.kept.views _ c.args.w MailLoad (Number c.mail_load-found.result) (Exact c.args.self.now.words c.args.self.now.kept.cargoes c.args.w) g.N.NamesView.after c.args.self.now.sized c.requires.may.serves c.requires.may.may c.mail_load-found.ensures refl c.kept_by-self.ensures.cargoes c.kept_by-self.ensures.views }

pub returns : goal.returns
unfolding words_after
returns g c = record { made = board_made g.N.NamesView.after c.args.self.now _ c.args.w MailLoad (Number c.mail_load-found.result) c.requires.may.serves c.mail_load-found.ensures refl c.kept_by-self.ensures.cargoes c.kept_by-self.ensures.views }
