-- What the values of an option say, and how many file names there may be. The words to use: number_of for an option with a
-- number, schedule_of for `--schedule`, files_in for the file names.
use Rattle.std.specs.Prelude.{◌≡◌, ◌≤◌, ◌%◌, ◌==◌, ◌&&◌, ◌||◌, ◌-◌, ◌++◌, ℕ, zero, suc, Bool, List, [], ◌∷◌, map, length, Option, Some, None, if◌then◌else◌, nat_le, nat_lt}
use Rattle.std.specs.List.{list_all}
use Rattle.std.specs.Char.{is_ascii_digit}
use Rattle.std.specs.Str.Parse.{digits_value}
use Rattle.st_jobs.specs.declared.numbers.NumberRange.{NumberRange}
use Rattle.st_jobs.specs.Words.{Text}

-- ---- numbers

abbrev pub is_in_range : NumberRange → ℕ → Bool
is_in_range range n = nat_le range.least n && (nat_le n range.most && (n % range.multiple_of == 0))

pub record IsWithin (range : NumberRange) (n : ℕ) : Type 0 where
  pub least : range.least ≤ n
  pub most : n ≤ range.most
  pub multiple : n % range.multiple_of ≡ 0

-- one to twenty decimal digits; zeros may lead
abbrev pub is_numeral : Text → Bool
is_numeral text = nat_le 1 (length text) && (nat_le (length text) 20 && list_all is_ascii_digit text)

abbrev pub number_in : NumberRange → Text → Option ℕ
number_in range text =
    if is_numeral text && is_in_range range (digits_value 10 text) then Some (digits_value 10 text) else None

-- the number that the values of an option give: its default where the option isn't given, none where it is given twice
abbrev pub number_of : NumberRange → Option ℕ → List Text → Option ℕ
number_of range default [] = default
number_of range default (value ∷ []) = number_in range value
number_of range default (value ∷ again ∷ more) = None

-- ---- the schedule of `sim`

-- 0 to 9 are the bytes from 48 on, a to f those from 97 on
abbrev pub hex_value : ℕ → ℕ
hex_value byte = if is_ascii_digit byte then byte - 48 else byte - 87

abbrev pub is_turn : ℕ → ℕ → Bool
is_turn workers byte =
    (is_ascii_digit byte || (nat_le 97 byte && nat_le byte 102)) && nat_lt (hex_value byte) workers

-- all workers in order: 0 and so on
abbrev pub workers_in_order : ℕ → List ℕ
workers_in_order zero = []
workers_in_order (suc n) = workers_in_order n ++ n ∷ []

abbrev pub is_schedule : ℕ → Text → Bool
is_schedule workers text =
    nat_le 1 (length text) && (nat_le (length text) 4096 && list_all (is_turn workers) text)

-- the worker of each turn
abbrev pub schedule_of : ℕ → List Text → Option (List ℕ)
schedule_of workers [] = Some (workers_in_order workers)
schedule_of workers (text ∷ []) = if is_schedule workers text then Some (map hex_value text) else None
schedule_of workers (text ∷ again ∷ more) = None

-- ---- file names

abbrev pub files_in : ℕ → ℕ → List Text → Option (List Text)
files_in least most files = if nat_le least (length files) && nat_le (length files) most then Some files else None
