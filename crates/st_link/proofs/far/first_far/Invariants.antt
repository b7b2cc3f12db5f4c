use Rattle.std.proofs.Common.{◌≡◌, drop}
use Rattle.st_link.specs.Encoding.{words_in, first_far_of}
use Rattle.st_link.proofs.far.first_far.Given as goal

abbrev pub invariant-loop-function : goal.invariant-loop-function
invariant-loop-function l = first_far_of (words_in l.functions) ≡ first_far_of (words_in (drop l.function-index l.functions))
