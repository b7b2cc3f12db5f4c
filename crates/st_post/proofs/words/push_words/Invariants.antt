use Rattle.std.proofs.Common.{◌≡◌, ◌++◌, drop}
use Rattle.st_model.specs.Layout.{words_at}
use Rattle.st_post.proofs.words.push_words.Given as goal

abbrev pub invariant-loop-ins : goal.invariant-loop-ins
invariant-loop-ins l =
    l.words.items ++ words_at l.line l.is_first (drop l.ins-index l.instructions) ≡ l.initial.words.items ++ words_at l.line l.begins l.instructions
