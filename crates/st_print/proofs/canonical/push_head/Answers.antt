use Rattle.std.proofs.Common.{ap, ◌++◌, ◌∙◌}
use Rattle.std.proofs.lemmas.Result.{on_ok_weaker}
use Rattle.st_print.proofs.Lines.{head_text}
use Rattle.st_print.proofs.canonical.push_head.Goals as goal

pub returns : goal.returns
returns c =
    let f = c.args.function.now in
    let text = head_text c.args.function.now.name c.as_bytes.result.now c.as_bytes-2.result.now c.as_bytes-3.result.now c.as_bytes-4.result.now c.args.function.now.ints c.args.function.now.handles c.args.function.now.slots
    c.as_bytes.ensures (c.as_bytes-2.ensures.value ∙ c.format.ensures.text) (c.as_bytes-3.ensures.value ∙ c.format-2.ensures.text) (c.as_bytes-4.ensures.value ∙ c.format-3.ensures.text) in
    on_ok_weaker c.push_pieces.result (λ e. e ∙ ap (λ t. c.args.text.now.items ++ t) text) c.push_pieces.ensures
