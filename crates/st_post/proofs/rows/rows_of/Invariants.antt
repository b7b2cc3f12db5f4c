use Rattle.std.proofs.Common.{◌≡◌, ◌≤◌, ◌+◌, ◌*◌, ◌++◌, drop}
use Rattle.st_model.specs.Layout.{code_start, functions_size, rows_from}
use Rattle.st_post.specs.Size.{code_end}
use Rattle.st_post.proofs.rows.rows_of.Given as goal

abbrev pub invariant-loop-function : goal.invariant-loop-function
invariant-loop-function l = record {
  above : code_start ≤ l.from;
  low : l.from + 4 * functions_size l.layout (drop l.function-index l.functions) ≤ code_end;
  rest : l.rows ++ rows_from l.layout l.from (drop l.function-index l.functions) ≡ rows_from l.layout code_start l.functions;
}
