use Rattle.std.proofs.Common.{◌<◌, length, subst, sym, ◌∙◌}
use Rattle.st_phases.proofs.Notes.{replaces, popped_room}
use Rattle.st_phases.proofs.automaton.Automaton.set_top.Goals as goal

pub push-requires : goal.push-requires
push-requires c =
    let few = popped_room c.args.self.now.threads.notes c.pop-old.new.self.notes c.pop-old.result c.args.self.now.threads.room c.requires.some c.pop-old.ensures.popped c.requires.room in
    subst (λ n. length c.pop-old.new.self.notes < n) (sym c.pop-old.ensures.room) few

pub returns : goal.returns
returns c =
    let notes = c.push.ensures.notes ∙ replaces c.args.self.now.threads.notes c.pop-old.new.self.notes c.pop-old.result c.args.note c.requires.some c.pop-old.ensures.popped in
    let room = c.push.ensures.room ∙ c.pop-old.ensures.room in
    let stays = c.push.ensures.stays ∙ c.pop-old.ensures.stays in
    λ i. record (c.args.self.now) { threads = record { notes = notes i; room = room i; «open» = stays i } }
