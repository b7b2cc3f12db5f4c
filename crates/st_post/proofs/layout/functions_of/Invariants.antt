use Rattle.std.proofs.Common.{◌≡◌, map, take}
use Rattle.st_model.specs.Layout.{function_words}
use Rattle.st_post.specs.Code.{names_of}
use Rattle.st_post.proofs.layout.functions_of.Given as goal

abbrev pub invariant-loop-number : goal.invariant-loop-number
invariant-loop-number l = record {
  names : map (λ f. f.name) l.posted ≡ names_of (take l.number l.sources);
  words : map (λ f. f.words) l.posted ≡ map (function_words l.layout) (take l.number l.functions);
}
