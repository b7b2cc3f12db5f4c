use Rattle.st_words.specs.Steps.{SlotTake, Took}
use Rattle.st_words.specs.Plain.{words_after, view_at, Exact, cargo_in}
use Rattle.st_words.proofs.Stays.{board_sized, board_made}
use Rattle.st_words.proofs.Sizes.{moved_here}
use Rattle.std.proofs.Common.{refl, sym, subst, ◌≡◌}
use Rattle.st_words.proofs.plain.PlainBoardBoard.slot_take.Goals as goal

pub invariant_of-self : goal.invariant_of-self
unfolding words_after
invariant_of-self g c = record { sized = board_sized c.args.self.now.words _ c.args.self.now.kept.cargoes _ c.args.self.now.kept.views _ c.args.w (SlotTake c.args.slot) (Took c.slot_take-found.result (cargo_in c.args.self.now.kept.cargoes c.args.slot)) (Exact c.args.self.now.words c.args.self.now.kept.cargoes c.args.w) g.N.NamesView.after c.args.self.now.sized c.requires.may.serves c.requires.may.may (c.slot_take-found.ensures.found, refl) c.slot_take-found.ensures.left c.kept_by-self.ensures.cargoes c.kept_by-self.ensures.views }

pub returns : goal.returns
unfolding words_after
returns g c = record { told = (cargo_in c.args.self.now.kept.cargoes c.args.slot, board_made g.N.NamesView.after c.args.self.now _ c.args.w (SlotTake c.args.slot) (Took c.slot_take-found.result (cargo_in c.args.self.now.kept.cargoes c.args.slot)) c.requires.may.serves (c.slot_take-found.ensures.found, refl) c.slot_take-found.ensures.left c.kept_by-self.ensures.cargoes c.kept_by-self.ensures.views) }
