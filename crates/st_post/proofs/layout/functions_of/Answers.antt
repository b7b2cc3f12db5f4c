use Rattle.std.proofs.Common.{arith}
use Rattle.st_model.proofs.CodeSize.{function_size-within}
use Rattle.st_post.proofs.layout.functions_of.Goals as goal

pub function_words-requires : goal.function_words-requires
function_words-requires c =
    omega (arith, function_size-within c.args.layout c.args.functions.now c.loop-number.number c.index-functions-number.result (omega arith) c.index-functions-number.is)
