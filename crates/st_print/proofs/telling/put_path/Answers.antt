use Rattle.std.proofs.Common.{refl, ◌∷◌, [], ◌++◌}
use Rattle.st_print.specs.Telling.{numbers_text}
use Rattle.st_print.proofs.Putting.{puts-then, puts-stop, path_pieces}
use Rattle.st_print.proofs.telling.put_path.Goals as goal

pub returns-in_err-put_all : goal.returns-in_err-put_all
returns-in_err-put_all g c =
    puts-stop _ (numbers_text c.args.path.now ++ 93 ∷ [] ++ 10 ∷ []) refl c.from_residual.ensures.0 c.in_err-put_all.ensures

pub returns-in_err-put_numbers : goal.returns-in_err-put_numbers
returns-in_err-put_numbers g c =
    puts-stop _ (93 ∷ 10 ∷ []) (path_pieces _ _ c.numbers.ensures) c.from_residual-in_err-put_numbers.ensures.0
    (puts-then (91 ∷ numbers_text c.numbers.result.now) refl c.in_ok-put_all.ensures c.in_err-put_numbers.ensures)

pub returns : goal.returns
returns g c =
    puts-then _ (path_pieces _ _ c.numbers.ensures)
    (puts-then (91 ∷ numbers_text c.numbers.result.now) refl c.in_ok-put_all.ensures c.in_ok-put_numbers.ensures) c.put_all-2.ensures
