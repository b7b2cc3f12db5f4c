-- The command that `clap` is given: one for all commands, with each option that any of them has. The words to use: app for
-- it, found_values for what a parse found under one name, HasItems where that is just what the words say.
use Rattle.std.specs.Prelude.{◌≡◌, true, List, [], ◌∷◌, Some, codes, unwrap_or}
use Rattle.clap.specs.Words.{App, Row, Rule, all_of, new_app, new_rule, rows_of, with_rule, found_of}
use Rattle.clap.specs.declared.builder.action.ArgAction.TheVariants.{Append}
use Rattle.clap.specs.declared.parser.matches.ArgMatches.{ArgMatches}
use Rattle.st_jobs.specs.Words.{Text, Item, file_id, is_among, values_of}

-- an option takes a value each time that it is given
abbrev pub option_rule : Text → Rule
option_rule name = record (new_rule name) { long = Some name; action = Some Append }

abbrev pub file_rule : Rule
file_rule = record (new_rule file_id) { action = Some Append }

-- the names of all options
abbrev pub option_names : List Text
option_names = codes "workers" ∷ codes "stack" ∷ codes "cells" ∷ codes "steps" ∷ codes "schedule" ∷ codes "turns" ∷ codes "number" ∷ []

abbrev pub app : App
app = with_rule (with_rule (with_rule (with_rule (with_rule (with_rule (with_rule (with_rule (new_app (codes "st"))
    (option_rule (codes "workers"))) (option_rule (codes "stack"))) (option_rule (codes "cells"))) (option_rule (codes "steps")))
    (option_rule (codes "schedule"))) (option_rule (codes "turns"))) (option_rule (codes "number"))) file_rule

-- the values under a name in a list of rows
abbrev pub row_values : Text → List Row → List Text
row_values id rows = unwrap_or (all_of id rows) []

-- the values that a parse found under a name
abbrev pub found_values : ArgMatches → Text → List Text
found_values m id = row_values id (rows_of (found_of m))

-- a parse found just the items
abbrev pub HasItems : List Item → ArgMatches → Type 0
HasItems items m = (id : Text) → found_values m id ≡ values_of id items

-- each of the names is an option's
abbrev pub KnowsAll : List Text → Type 0
KnowsAll names = (name : Text) → is_among names name ≡ true → is_among option_names name ≡ true
