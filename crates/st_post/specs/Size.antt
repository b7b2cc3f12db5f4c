-- How large the code of an accepted program can be: three words for each of its 65,536 lines (proofs/CodeSize.antt of the model says why).
use Rattle.std.specs.Prelude.{ℕ, ◌+◌, ◌*◌}
use Rattle.st_model.specs.Layout.{code_start}

abbrev pub most_words : ℕ
most_words = 3 * 65536

-- the address past them
abbrev pub code_end : ℕ
code_end = code_start + 4 * most_words
