-- The listing of postprocessed code (listing_of): for each function its name and a colon, then a line for each word, with its address and
-- itself as eight hexadecimal digits each. listing_by is the same over functions as they are posted.
use Rattle.std.specs.Prelude.{ℕ, ◌+◌, ◌*◌, ◌/◌, ◌%◌, ◌^◌, List, [], ◌∷◌, ◌++◌, map, length, take, drop, nat_lt, if◌then◌else◌}
use Rattle.st_asm.specs.declared.unit.Function.{Function}
use Rattle.st_model.specs.declared.code.Layout.TheVariants.{Postprocessed}
use Rattle.st_model.specs.declared.program.ProgramFunction.{ProgramFunction}
use Rattle.st_model.specs.Layout.{code_start, function_size}
use Rattle.st_check.specs.Programs.{program_of}
use Rattle.st_post.specs.declared.posted.PostedFunction.{PostedFunction}

-- 0 to 9, a to f
abbrev pub hex_digit : ℕ → ℕ
hex_digit d = if nat_lt d 10 then 48 + d else (87 + d)

-- so many hexadecimal digits, the highest first
abbrev pub hex_digits : List ℕ → ℕ → List ℕ
hex_digits places n = map (λ k. hex_digit (n / 16 ^ k % 16)) places

abbrev pub hex_word : ℕ → List ℕ
hex_word n = hex_digits (7 ∷ 6 ∷ 5 ∷ 4 ∷ 3 ∷ 2 ∷ 1 ∷ 0 ∷ []) n

abbrev pub word_line : ℕ → ℕ → List ℕ
word_line address w = hex_word address ++ 32 ∷ hex_word w ++ 10 ∷ []

-- words from an address on
abbrev pub word_lines : ℕ → List ℕ → List ℕ
word_lines address [] = []
word_lines address (w ∷ ws) = word_line address w ++ word_lines (address + 4) ws

-- functions with their names, of which the first is at an address, and the words of all of them
abbrev pub listing_from : ℕ → List Function → List ProgramFunction → List ℕ → List ℕ
listing_from address (s ∷ ss) (f ∷ fs) ws =
    s.name ++ 58 ∷ 10 ∷ word_lines address (take (function_size Postprocessed f) ws) ++ listing_from (address + 4 * function_size Postprocessed f) ss fs (drop (function_size Postprocessed f) ws)
listing_from address _ _ ws = []

-- the listing of the words of a unit's postprocessed code
unfoldable pub listing_of : List Function → List ℕ → List ℕ
listing_of functions ws = listing_from code_start functions (program_of functions).functions ws

-- the same of functions as they are posted
abbrev pub listing_by : ℕ → List PostedFunction → List ℕ → List ℕ
listing_by address [] ws = []
listing_by address (f ∷ fs) ws =
    f.name ++ 58 ∷ 10 ∷ word_lines address (take (length f.words) ws) ++ listing_by (address + 4 * length f.words) fs (drop (length f.words) ws)

-- how many words they have
abbrev pub words_count : List PostedFunction → ℕ
words_count [] = 0
words_count (f ∷ fs) = length f.words + words_count fs
