use Rattle.st_phases.proofs.Notes.{left}
use Rattle.st_phases.proofs.automaton.Automaton.drop_top.Goals as goal

pub returns : goal.returns
returns c =
    let notes = left c.args.self.now.threads.notes c.pop-top.new.self.notes c.pop-top.result c.requires c.pop-top.ensures.popped in
    let room = c.pop-top.ensures.room in
    let stays = c.pop-top.ensures.stays in
    λ i. record (c.args.self.now) { threads = record { notes = notes i; room = room i; «open» = stays i } }
