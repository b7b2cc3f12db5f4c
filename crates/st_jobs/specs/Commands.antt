-- The commands, and what a command line asks for. `job_of words` is the whole meaning of a command line, and there is none
-- exactly where it is a wrong use. Each command is a row of one table; job_by reads the words after its name by its row.
use Rattle.std.specs.Prelude.{◌-◌, ◌^◌, ◌++◌, ℕ, Bool, true, false, List, [], ◌∷◌, map, find, Option, Some, None, if◌then◌else◌, codes, option_map, option_and_then}
use Rattle.std.specs.Str.{bytes_eq}
use Rattle.std.specs.Option.{option_map_or}
use Rattle.st_jobs.specs.declared.numbers.NumberRange.{NumberRange}
use Rattle.st_jobs.specs.Words.{Text, file_id, items_of, values_of}
use Rattle.st_jobs.specs.Values.{number_of, schedule_of, files_in}

-- ---- the table

-- an option whose value is a number; without a default it has to be given
pub record NumberRow : Type 0 where
  pub name : Text
  pub range : NumberRange
  pub default : Option ℕ

-- a number under the name of its option
pub record Setting : Type 0 where
  pub name : Text
  pub value : ℕ

-- set: what the command sets where it has no such option
pub record CommandRow : Type 0 where
  pub name : Text
  pub numbers : List NumberRow
  pub set : List Setting
  pub has_schedule : Bool
  pub least_files : ℕ
  pub most_files : ℕ

abbrev pub setting : Text → ℕ → Setting
setting name value = record { name = name; value = value }

abbrev pub number_row : Text → ℕ → ℕ → Option ℕ → NumberRow
number_row name least most default =
    record { name = name; range = record { least = least; most = most; multiple_of = 1 }; default = default }

abbrev pub workers_id : Text
workers_id = codes "workers"

abbrev pub schedule_id : Text
schedule_id = codes "schedule"

abbrev pub workers_row : ℕ → NumberRow
workers_row default = number_row workers_id 1 16 (Some default)

-- bytes
abbrev pub stack_row : NumberRow
stack_row = record {
  name = codes "stack";
  range = record { least = 1024; most = 1048576; multiple_of = 16 };
  default = Some 1048576;
}

abbrev pub limit_rows : List NumberRow
limit_rows = stack_row ∷ number_row (codes "cells") 16 65536 (Some 16384)
    ∷ number_row (codes "steps") 1 (2 ^ 40) (Some (2 ^ 32)) ∷ []

abbrev pub run_row : CommandRow
run_row = record {
  name = codes "run";
  numbers = workers_row 1 ∷ limit_rows;
  set = [];
  has_schedule = false;
  least_files = 1;
  most_files = 64;
}

-- one worker, and no option says another number
abbrev pub plain_row : CommandRow
plain_row = record run_row { name = codes "plain"; numbers = limit_rows; set = setting workers_id 1 ∷ [] }

abbrev pub sim_row : CommandRow
sim_row = record run_row {
  name = codes "sim";
  numbers = workers_row 1 ∷ (number_row (codes "turns") 1 (2 ^ 40) (Some (2 ^ 32)) ∷ limit_rows);
  has_schedule = true;
}

abbrev pub check_row : CommandRow
check_row = record run_row { name = codes "check"; numbers = [] }

abbrev pub post_row : CommandRow
post_row = record run_row { name = codes "post"; numbers = [] }

abbrev pub gen_row : CommandRow
gen_row = record {
  name = codes "gen";
  numbers = number_row (codes "number") 0 (2 ^ 64 - 1) None ∷ workers_row 4 ∷ [];
  set = [];
  has_schedule = false;
  least_files = 0;
  most_files = 0;
}

abbrev pub table : List CommandRow
table = run_row ∷ plain_row ∷ sim_row ∷ check_row ∷ post_row ∷ gen_row ∷ []

-- the names of a command's options
abbrev pub names_of : CommandRow → List Text
names_of row = map (λ r. r.name) row.numbers ++ (if row.has_schedule then schedule_id ∷ [] else [])

-- ---- the job

-- what a command line asks for; the schedule is empty but for `sim`
pub record Asked : Type 0 where
  pub command : Text
  pub settings : List Setting
  pub schedule : List ℕ
  pub files : List Text

-- the numbers of all options, in the order of the rows; `values` gives the values that an option was given
abbrev pub settings_of : List NumberRow → (Text → List Text) → Option (List Setting)
settings_of [] values = Some []
settings_of (row ∷ rows) values = option_and_then (λ n. option_map (λ later. setting row.name n ∷ later) (settings_of rows values))
    (number_of row.range row.default (values row.name))

abbrev pub workers_in : List Setting → ℕ
workers_in settings = option_map_or (λ s. s.value) (find (λ s. bytes_eq s.name workers_id) settings) 0

abbrev pub schedule_in : CommandRow → List Setting → (Text → List Text) → Option (List ℕ)
schedule_in row settings values =
    if row.has_schedule then schedule_of (workers_in settings) (values schedule_id) else Some []

abbrev pub asked_by : CommandRow → List Text → List Setting → List ℕ → Option Asked
asked_by row files settings schedule = option_map (λ names. record {
  command = row.name;
  settings = row.set ++ settings;
  schedule = schedule;
  files = names;
}) (files_in row.least_files row.most_files files)

-- what a command is asked for by the values of its options and the file names
abbrev pub job_in : CommandRow → (Text → List Text) → Option Asked
job_in row values = option_and_then (λ settings. option_and_then (asked_by row (values file_id) settings)
    (schedule_in row settings values)) (settings_of row.numbers values)

-- what a command is asked for by the words after its name
abbrev pub job_by : CommandRow → List Text → Option Asked
job_by row words = option_and_then (λ items. job_in row (λ name. values_of name items)) (items_of (names_of row) words)

-- what a command line asks for: its first word is the command's name
abbrev pub job_of : List Text → Option Asked
job_of [] = None
job_of (command ∷ words) =
    option_and_then (λ row. job_by row words) (find (λ row. bytes_eq row.name command) table)
