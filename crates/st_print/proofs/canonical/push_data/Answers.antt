use Rattle.std.proofs.Common.{[], ◌∷◌, codes, refl}
use Rattle.std.proofs.lemmas.Result.{on_ok_weaker}
use Rattle.st_print.specs.Canonical.{with_operands, byte_lines}
use Rattle.st_print.specs.Canonical.Piece.{Word}
use Rattle.st_print.proofs.Lines.{lines-then}
use Rattle.st_print.proofs.canonical.push_data.Goals as goal

pub returns : goal.returns
returns c spots are =
    on_ok_weaker c.push_bytes.result
    (λ e. lines-then _ _ _ _ (with_operands (codes ".section") (Word (codes ".rodata") ∷ []) ∷ []) (byte_lines spots 0 c.args.rodata.now) c.in_ok-push_pieces.ensures e refl)
    (c.push_bytes.ensures spots are)
