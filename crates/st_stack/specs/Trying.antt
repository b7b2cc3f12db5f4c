-- What tests of shrinking name: the view of a worker that looks at a return word has an exported frame of that one word.
use Rattle.std.specs.Prelude.{ℕ, ◌+◌, ◌*◌, [], ◌∷◌}
use Rattle.st_base.specs.declared.chain.Frame.{Frame}
use Rattle.st_words.specs.declared.view.View.{View}
use Rattle.st_words.specs.Steps.{Step, Look}

-- the frame of the word at a place
abbrev pub one_word : ℕ → Frame
one_word p = record { low = 0x8000_0000 + 8 * p; base = 0x8000_0000 + 8 * (p + 1) }

abbrev pub exporting : View → Step → View
exporting v (Look p) = record v { exported = one_word p ∷ [] }
exporting v _ = v
