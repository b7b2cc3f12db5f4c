use Rattle.std.proofs.Common.{[], ◌∷◌, codes, ◌∙◌}
use Rattle.std.proofs.lemmas.Result.{on_ok_weaker}
use Rattle.st_line.specs.declared.source.Target.TheVariants.{Data}
use Rattle.st_print.specs.Canonical.{spot_lines, with_operands, number}
use Rattle.st_print.proofs.Lines.{lines-then, byte_text}
use Rattle.st_print.proofs.canonical.push_byte.Goals as goal

pub returns : goal.returns
returns c spots are =
    on_ok_weaker c.push_pieces.result
    (λ e. lines-then _ _ _ _ (spot_lines spots (Data c.args.offset)) (with_operands (codes ".byte") (number c.args.byte ∷ []) ∷ []) (c.in_ok-push_offset.ensures spots are) e (byte_text c.args.byte _ (c.as_bytes.ensures.value ∙ c.format.ensures.text)))
    c.push_pieces.ensures
