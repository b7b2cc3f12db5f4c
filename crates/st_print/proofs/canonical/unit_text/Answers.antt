use Rattle.std.proofs.Common.{◌<◌, subst}
use Rattle.std.specs.Prelude.{All}
use Rattle.std.proofs.Math.Logic.{∥∥₁_map}
use Rattle.st_print.proofs.ReadBack.{reads_back}
use Rattle.st_print.proofs.canonical.unit_text.Goals as goal

pub returns-clause-reads_back : goal.returns-clause-reads_back
returns-clause-reads_back c =
    ∥∥₁_map c.args.u.now.is_unit (λ unit. reads_back c.args.u.now.functions c.args.u.now.rodata unit (subst (All (λ b. b < 256)) c.as_slice-rodata.ensures c.are_bytes.ensures))
