use Rattle.st_words.specs.Steps.{Look, Looked}
use Rattle.st_words.specs.Plain.{words_after, view_at, Exact, stack_cargo}
use Rattle.st_words.proofs.Stays.{board_sized, board_made}
use Rattle.st_words.proofs.Sizes.{moved_here}
use Rattle.std.proofs.Common.{refl, sym, subst, ◌≡◌}
use Rattle.st_words.proofs.plain.PlainBoardBoard.look.Goals as goal

pub invariant_of-self : goal.invariant_of-self
unfolding words_after
invariant_of-self g c = record { sized = board_sized c.args.self.now.words _ c.args.self.now.kept.cargoes _ c.args.self.now.kept.views _ c.args.w (Look c.args.place) (Looked c.stack_load-found.result (stack_cargo c.args.self.now.words)) (Exact c.args.self.now.words c.args.self.now.kept.cargoes c.args.w) g.N.NamesView.after c.args.self.now.sized c.requires.may.serves c.requires.may.may (c.stack_load-found.ensures, refl) refl c.kept_by-self.ensures.cargoes c.kept_by-self.ensures.views }

pub returns : goal.returns
unfolding words_after
returns g c = record { told = (stack_cargo c.args.self.now.words, board_made g.N.NamesView.after c.args.self.now _ c.args.w (Look c.args.place) (Looked c.stack_load-found.result (stack_cargo c.args.self.now.words)) c.requires.may.serves (c.stack_load-found.ensures, refl) refl c.kept_by-self.ensures.cargoes c.kept_by-self.ensures.views) }
