use Rattle.std.proofs.Common.{◌≡◌, ◌≤◌, ◌+◌, ◌*◌, ◌++◌, length, map, drop}
use Rattle.st_model.specs.Layout.{code_start}
use Rattle.st_link.specs.Encoding.{words_in, joined, total, resolved_all, AllFit, AllCalled, Leaves}
use Rattle.st_link.proofs.encoded.encode_all.Given as goal

abbrev pub invariant-loop-function : goal.invariant-loop-function
invariant-loop-function l = record {
  fits : ∥ AllFit (resolved_all l.rows l.address (words_in (drop l.function-index l.functions))) ∥₁;
  calls : AllCalled (length l.rows) (words_in (drop l.function-index l.functions));
  small : l.address + 4 * total (words_in (drop l.function-index l.functions)) ≤ 851968;
  words : Leaves (resolved_all l.rows code_start (words_in l.functions)) (resolved_all l.rows l.address (words_in (drop l.function-index l.functions))) l.encoded.words.items;
  lines : l.encoded.lines.items ++ map (λ w. w.line) (joined (words_in (drop l.function-index l.functions))) ≡ map (λ w. w.line) (joined (words_in l.functions));
  begins : l.encoded.begins.items ++ map (λ w. w.begins) (joined (words_in (drop l.function-index l.functions))) ≡ map (λ w. w.begins) (joined (words_in l.functions));
}
