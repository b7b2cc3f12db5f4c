use Rattle.std.proofs.Common.{ap}
use Rattle.st_plain.proofs.Printing.{poll_goes}
use Rattle.st_plain.proofs.Serving.{way_back}
use Rattle.st_plain.proofs.run.PlainRun.poll.Goals as goal

-- src/entries.rt:218:9
pub go_back-requires : goal.go_back-requires
go_back-requires c = (way_back c.args.self.now c.requires.serving c.requires.fork_out c.requires.end).1

-- src/entries.rt:206:5
pub returns : goal.returns
returns c image =
    let back = c.go_back.ensures in
    let old = c.args.self.now in
    let new = c.go_back.new.self in
    let asked = c.requires in
    record {
      board = back.board;
      code = back.code;
      most = ap (λ threads. threads.cells.most) back.threads;
      going = λ none p d limits names s tables entry defined.
          poll_goes p d image limits old new names s tables entry defined asked.fork_in asked.fork_out asked.end asked.touch asked.counter asked.done asked.join asked.putc back.machine (ap (λ board. board.words.stack) back.board) back.threads;
      over = tt;
    }
