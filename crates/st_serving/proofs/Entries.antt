-- All entries of the runtime: read entries_serve.
use Rattle.std.proofs.Common.{ℕ, Bool, List}
use Rattle.st_base.specs.declared.chain.Frame.{Frame}
use Rattle.st_base.specs.declared.thread.Held.{Held}
use Rattle.st_model.specs.declared.program.Program.{Program}
use Rattle.st_model.specs.Memory.{Data}
use Rattle.st_words.specs.declared.view.Known.{Known}
use Rattle.st_step.specs.Runs.{Situation}
use Rattle.st_items.specs.Body.{Ends}
use Rattle.st_items.proofs.ItemCode.{formed_of}
use Rattle.st_serving.specs.Serving.{CanServe, Serves}
use Rattle.st_serving.proofs.Forking.{forks}
use Rattle.st_serving.proofs.Handles.{touches, makes, adds, joins, polls}
use Rattle.st_serving.proofs.Moves.{known_entry}
use Rattle.st_serving.proofs.Printing.{prints}

pub entries_serve : (p : Program) (d : Data) (names : List (Held × ℕ)) (holds : ℕ → Bool) (ends : Ends) (u : Situation) (k : Known) (fs : List Frame) (ks : List Known) (rest : List (List Frame)) (entry : ℕ) (can : CanServe p d names holds ends u k fs ks rest entry)
    → Serves p d names holds ends u k fs ks rest entry can.at.item.line
entries_serve p d names holds ends u k fs ks rest entry can =
    let at = can.at in
    record {
      known = known_entry p at.function at.item.kind entry ((formed_of p at.top.function at.function can.accepted at.has.named).fits at.top.next at.item at.has.placed) at.enters;
      forks = forks p d names holds ends u k fs ks rest entry can;
      touches = touches p d names holds ends u k fs ks rest entry can;
      makes = makes p d names holds ends u k fs ks rest entry can;
      adds = adds p d names holds ends u k fs ks rest entry can;
      joins = joins p d names holds ends u k fs ks rest entry can;
      polls = polls p d names holds ends u k fs ks rest entry can;
      prints = prints p d names holds ends u k fs ks rest entry can;
    }
