use Rattle.st_rv.proofs.Table.{rows_apart}
use Rattle.st_rv.proofs.code.check_table.Goals as goal

pub returns : goal.returns
returns c = record { answer = c.check_rows.ensures.1 rows_apart; apart = rows_apart }
