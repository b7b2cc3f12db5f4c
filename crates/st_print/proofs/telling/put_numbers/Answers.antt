use Rattle.st_print.proofs.Putting.{puts-then, puts-stop, numbers_text-first}
use Rattle.st_print.proofs.telling.put_numbers.Goals as goal

pub returns-in_err-put_number-in-len1-up : goal.returns-in_err-put_number-in-len1-up
returns-in_err-put_number-in-len1-up g c = puts-stop _ _ (numbers_text-first _ _ c.in-len1-up.len_at_least) c.from_residual.ensures.0 c.in_err-put_number-in-len1-up.ensures

pub returns-in_ok-put_number-in-len1-up : goal.returns-in_ok-put_number-in-len1-up
returns-in_ok-put_number-in-len1-up g c = puts-then _ (numbers_text-first _ _ c.in-len1-up.len_at_least) c.in_ok-put_number-in-len1-up.ensures c.put_numbers_after.ensures
