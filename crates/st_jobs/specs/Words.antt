-- The form of the words after a command's name: which of them are file names, which are options, and what value stands
-- with each option. The words to use: mark_of for one word, items_of for a list of them, values_of for what stands under
-- one name.
use Rattle.std.specs.Prelude.{◌==◌, ℕ, Bool, List, [], ◌∷◌, map, filter, Option, Some, None, is_some, if◌then◌else◌, codes, option_map, option_and_then}
use Rattle.std.specs.List.{list_any, before_first, after_first}
use Rattle.std.specs.Str.{bytes_eq}

abbrev pub Text : Type 0
Text = List ℕ

-- ---- one word

-- what follows a hyphen, which is the byte 45
abbrev pub after_dash : Text → Option Text
after_dash [] = None
after_dash (byte ∷ rest) = if byte == 45 then Some rest else None

-- `name`, or `name=value` cut at its first `=`, which is the byte 61
abbrev pub name_and_value : Text → Text × Option Text
name_and_value text = (
  before_first (λ byte. byte == 61) text,
  if list_any (λ byte. byte == 61) text then Some (after_first (λ byte. byte == 61) text) else None,
)

-- the name, and the value if there is one, of a word that begins with two hyphens
abbrev pub option_in : Text → Option (Text × Option Text)
option_in word = option_map name_and_value (option_and_then after_dash (after_dash word))

abbrev pub is_among : List Text → Text → Bool
is_among names name = list_any (λ n. bytes_eq n name) names

-- plain: no hyphen at its front, so it is a file name, or the value of the option before it. named: an option of the
-- command, alone or with its value. wrong: any other word.
pub data Mark : Type 0 where
  plain : Text → Mark
  named : Text → Option Text → Mark
  wrong : Mark

abbrev pub mark_among : List Text → Option (Text × Option Text) → Mark
mark_among names None = wrong
mark_among names (Some p) = if is_among names p.0 then named p.0 p.1 else wrong

-- what a word is, where the command's options have these names
abbrev pub mark_of : List Text → Text → Mark
mark_of names word = if is_some (after_dash word) then mark_among names (option_in word) else plain word

-- ---- all words

-- the name of an option with its value, or the name `file` with a file name; no option is called `file`
pub record Item : Type 0 where
  pub name : Text
  pub text : Text

abbrev pub file_id : Text
file_id = codes "file"

abbrev pub with_item : Text → Text → Option (List Item) → Option (List Item)
with_item name text items = option_map (λ later. record { name = name; text = text } ∷ later) items

-- the items in their order; the second argument is the option before the first word, where it waits for its value
abbrev pub items_from : List Mark → Option Text → Option (List Item)
items_from [] None = Some []
items_from [] (Some name) = None
items_from (plain word ∷ rest) None = with_item file_id word (items_from rest None)
items_from (plain word ∷ rest) (Some name) = with_item name word (items_from rest None)
items_from (named name (Some value) ∷ rest) None = with_item name value (items_from rest None)
items_from (named name None ∷ rest) None = items_from rest (Some name)
items_from (named name value ∷ rest) (Some waiting) = None
items_from (wrong ∷ rest) waiting = None

abbrev pub items_of : List Text → List Text → Option (List Item)
items_of names words = items_from (map (mark_of names) words) None

-- the values of an option, or the file names
abbrev pub values_of : Text → List Item → List Text
values_of name items = map (λ i. i.text) (filter (λ i. bytes_eq i.name name) items)
