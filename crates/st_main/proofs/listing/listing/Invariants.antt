use Rattle.std.proofs.Common.{◌≡◌, ◌≤◌, ◌+◌, ◌*◌, ◌++◌, drop}
use Rattle.st_model.specs.Layout.{code_start}
use Rattle.st_main.specs.Listing.{listing_by, words_count}
use Rattle.st_main.proofs.listing.listing.Given as goal

abbrev pub invariant-loop-function : goal.invariant-loop-function
invariant-loop-function l = record {
  small : l.address + 4 * words_count (drop l.function-index l.functions) ≤ 851968;
  lines : l.text.items ++ listing_by l.address (drop l.function-index l.functions) l.rest ≡ listing_by code_start l.functions l.words;
}
