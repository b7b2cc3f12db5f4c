use Rattle.std.proofs.Common.{◌<◌, arith}
use Rattle.st_words.proofs.Sizes.{out_bound}
use Rattle.st_words.specs.Plain.{Exact, view_at}
use Rattle.st_words.proofs.Trying.{asks_out_store}
use Rattle.st_words.proofs.tests.printed_word.Goals as goal

pub out_store-requires : goal.out_store-requires
out_store-requires c = record { may = record { serves = c.in_ok-board.ensures.serves; may = asks_out_store (Exact c.in_ok-board.board.words c.in_ok-board.board.kept.cargoes 0) (view_at c.in_ok-board.board.kept.views 0) } }

pub get-requires : goal.get-requires
get-requires c =
    let least : 3 < 1048576 = omega arith in
    out_bound _ 3 c.out_store.new.self.sized.words.out least
