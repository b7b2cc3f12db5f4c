-- What each entry does is served: its own contract says so, of every image.
use Rattle.std.proofs.Common.{sym, ◌∙◌}
use Rattle.std.proofs.Math.Logic.{∥∥₁_map}
use Rattle.st_plain.proofs.ThreadEnds.{end_done}
use Rattle.st_plain.proofs.run.PlainRun.enter.Goals as goal

pub fork_in-requires-clause-serving : goal.fork_in-requires-clause-serving
fork_in-requires-clause-serving c = ∥∥₁_map c.requires (λ serving. (c.args.image.now, serving))

pub fork_out-requires-clause-serving : goal.fork_out-requires-clause-serving
fork_out-requires-clause-serving c = ∥∥₁_map c.requires (λ serving. (c.args.image.now, serving))

pub counter-requires-clause-serving : goal.counter-requires-clause-serving
counter-requires-clause-serving c = ∥∥₁_map c.requires (λ serving. (c.args.image.now, serving))

pub poll-requires-clause-serving : goal.poll-requires-clause-serving
poll-requires-clause-serving c = ∥∥₁_map c.requires (λ serving. (c.args.image.now, serving))

pub returns-in-16 : goal.returns-in-16
returns-in-16 c = let served = c.fork_in.ensures c.args.image.now in record { board = served.board; code = served.code; most = served.most; going = served.going; over = served.over }

pub returns-in-32 : goal.returns-in-32
returns-in-32 c = let served = c.fork_out.ensures c.args.image.now in record { board = served.board; code = served.code; most = served.most; going = served.going; over = served.over }

pub returns-in-48-clause-over : goal.returns-in-48-clause-over
returns-in-48-clause-over c p d limits names s tables entry defined = end_done p d c.args.image.now limits c.args.self.now c.args.self.now names s tables entry (sym c.pc.ensures ∙ c.in-48.is)

pub returns-in-80 : goal.returns-in-80
returns-in-80 c = let served = c.counter.ensures c.args.image.now in record { board = served.board; code = served.code; most = served.most; going = served.going; over = served.over }

pub returns-in_default : goal.returns-in_default
returns-in_default c = let served = c.poll.ensures c.args.image.now in record { board = served.board; code = served.code; most = served.most; going = served.going; over = served.over }
