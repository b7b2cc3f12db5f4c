use Rattle.std.proofs.Common.{◌∙◌, ap, ◌-◌, ◌%◌, ◌==◌}
use Rattle.st_cells.proofs.Owners.{read_back}
use Rattle.st_cells.proofs.encodings.owner_in.Goals as goal

pub returns : goal.returns
returns c = (λ owner fits word. read_back c.saturating_sub-rest.result owner fits (c.saturating_sub-rest.ensures ∙ ap (λ n. n - 1) word), ap (λ n. n % 2 == 1) c.saturating_sub-rest.ensures)
