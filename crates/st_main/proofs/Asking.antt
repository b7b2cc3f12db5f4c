-- The jobs that words ask for. plain-one: the words of `plain` ask for one worker. asks-run, asks-plain: which job the words of a run ask
-- for; workers-asks_none, other-asks_none: words that ask for none that is built.
use Rattle.std.proofs.Common.{◌≡◌, ℕ, Bool, true, false, List, [], ◌∷◌, ◌++◌, Option, Some, None, refl, ap, ◌∙◌, subst}
use Rattle.std.specs.Prelude.{codes, cond, find, IfSome, option_map, option_and_then}
use Rattle.std.specs.Str.{bytes_eq}
use Rattle.std.proofs.lemmas.Slice.Eq.{bytes_eq-Decides}
use Rattle.st_jobs.specs.Commands.{Asked, Setting, CommandRow, setting, workers_id, workers_in, settings_of, schedule_in, asked_by as asked_in, job_in, job_by, job_of, names_of, table, run_row, plain_row, sim_row, check_row, post_row, gen_row}
use Rattle.st_jobs.specs.Words.{Text, file_id, items_of, values_of}
use Rattle.st_jobs.specs.Values.{files_in}
use Rattle.st_jobs.specs.Jobs.{asked_of, limit_settings, file_texts}
use Rattle.st_jobs.specs.declared.job.Job.{Job}
use Rattle.st_jobs.specs.declared.job.Job.TheVariants.{Run, Plain, Sim, Check, Post, Gen}
use Rattle.st_jobs.specs.declared.job.RunArgs.{RunArgs}
use Rattle.st_jobs.specs.declared.job.Names.{Names}
use Rattle.st_plain.specs.Answer.{bounds_of}
use Rattle.st_main.specs.Answer.{Built, Runs, Plains, Checks, Posts, asked_by, AsksFor, AsksForNone}

apart : (a b : List ℕ) → bytes_eq a b ≡ false → a ≡ b → ⊥
apart a b differ e = let same = (bytes_eq-Decides a b).1 e in cc

asked-same : (o : Option Asked) (a b : Asked) → o ≡ Some a → o ≡ Some b → a ≡ b
asked-same o a b p q = cc

-- words whose job is none that is built
asks_none : (words : List (List ℕ)) (asked : Asked) → job_of words ≡ Some asked → ((built : Built) → asked ≡ asked_by built → ⊥) → AsksForNone words
asks_none words asked is none = λ built asks. none built (asked-same (job_of words) asked (asked_by built) is asks)

-- ---- a command whose row sets the number of workers

-- what `plain` is asked for has one worker
abbrev OneWorker : Asked → Type 0
OneWorker asked = bytes_eq asked.command (codes "plain") ≡ true → workers_in asked.settings ≡ 1

then-some : {A B : Type 0} (P : B → Type 0) (f : A → Option B) (o : Option A) → ((a : A) → IfSome (f a) P) → IfSome (option_and_then f o) P
then-some P f None h = tt
then-some P f (Some a) h = h a

map-some : {A B : Type 0} (P : B → Type 0) (f : A → B) (o : Option A) → ((a : A) → P (f a)) → IfSome (option_map f o) P
map-some P f None h = tt
map-some P f (Some a) h = h a

-- whatever a row is given, what it asks for is so
abbrev RowAsks : (Asked → Type 0) → CommandRow → Type 0
RowAsks P row = (files : List Text) (settings : List Setting) (schedule : List ℕ) → IfSome (asked_in row files settings schedule) P

row-asks : (P : Asked → Type 0) (row : CommandRow) (words : List Text) → RowAsks P row → IfSome (job_by row words) P
row-asks P row words h =
    then-some P (λ items. job_in row (λ name. values_of name items)) (items_of (names_of row) words) (λ items.
    then-some P (λ settings. option_and_then (asked_in row (values_of file_id items) settings) (schedule_in row settings (λ name. values_of name items))) (settings_of row.numbers (λ name. values_of name items)) (λ settings.
    then-some P (asked_in row (values_of file_id items) settings) (schedule_in row settings (λ name. values_of name items)) (h (values_of file_id items) settings)))

-- what holds of each row of a table holds of the one that is found
abbrev AllRows : (CommandRow → Type 0) → List CommandRow → Type 0
AllRows Q [] = Prim.Unit
AllRows Q (row ∷ rows) = Q row × AllRows Q rows

found_when : (Q : CommandRow → Type 0) (b : Bool) (row : CommandRow) (o : Option CommandRow) → Q row → IfSome o Q → IfSome (cond b (Some row) o) Q
found_when Q true row o here later = here
found_when Q false row o here later = later

found : (Q : CommandRow → Type 0) (is : CommandRow → Bool) (rows : List CommandRow) → AllRows Q rows → IfSome (find is rows) Q
found Q is [] h = tt
found Q is (row ∷ rows) h = found_when Q (is row) row (find is rows) h.0 (found Q is rows h.1)

then-row : (P : Asked → Type 0) (words : List Text) (o : Option CommandRow) → IfSome o (RowAsks P) → IfSome (option_and_then (λ row. job_by row words) o) P
then-row P words None h = tt
then-row P words (Some row) h = row-asks P row words h

job-row : (P : Asked → Type 0) (words : List Text) → AllRows (RowAsks P) table → IfSome (job_of words) P
job-row P [] h = tt
job-row P (command ∷ words) h =
    let is : CommandRow → Bool = λ row. bytes_eq row.name command in
    then-row P words (find is table) (found (RowAsks P) is table h)

-- an other command than `plain`
other-row : (row : CommandRow) → bytes_eq row.name (codes "plain") ≡ false → RowAsks OneWorker row
other-row row other files settings schedule =
    map-some OneWorker (λ names. record { command = row.name; settings = row.set ++ settings; schedule = schedule; files = names }) (files_in row.least_files row.most_files files)
    (λ names is. (let no : ⊥ = cc in absurd no))

plain-row : RowAsks OneWorker plain_row
plain-row files settings schedule =
    map-some OneWorker (λ names. record { command = codes "plain"; settings = setting workers_id 1 ∷ settings; schedule = schedule; files = names }) (files_in 1 64 files)
    (λ names is. refl)

pub plain-one : (words : List (List ℕ)) (a : RunArgs) → job_of words ≡ Some (asked_of (Plain a)) → a.workers ≡ 1
plain-one words a is =
    let one : OneWorker (asked_of (Plain a)) =
    subst (λ o. IfSome o OneWorker) is (job-row OneWorker words (other-row run_row refl, (plain-row, (other-row sim_row refl, (other-row check_row refl, (other-row post_row refl, (other-row gen_row refl, tt))))))) in
    one refl

-- ---- the job that the words ask for

asks-settings : (a : RunArgs) → a.workers ≡ 1 → asked_of (Run a) ≡ asked_by (Runs (bounds_of a.limits) (file_texts a.names))
asks-settings a one = ap (λ w. record { command = codes "run"; settings = setting workers_id w ∷ limit_settings a.limits; schedule = []; files = file_texts a.names }) one

plain-settings : (a : RunArgs) → a.workers ≡ 1 → asked_of (Plain a) ≡ asked_by (Plains (bounds_of a.limits) (file_texts a.names))
plain-settings a one = ap (λ w. record { command = codes "plain"; settings = setting workers_id w ∷ limit_settings a.limits; schedule = []; files = file_texts a.names }) one

pub asks-run : (words : List (List ℕ)) (job : Job) (a : RunArgs) → job_of words ≡ Some (asked_of job) → job ≡ Run a → a.workers ≡ 1 → AsksFor words (Runs (bounds_of a.limits) (file_texts a.names))
asks-run words job a is run one = is ∙ ap (λ j. Some (asked_of j)) run ∙ ap (λ x. Some x) (asks-settings a one)

pub asks-plain : (words : List (List ℕ)) (job : Job) (a : RunArgs) → job_of words ≡ Some (asked_of job) → job ≡ Plain a → AsksFor words (Plains (bounds_of a.limits) (file_texts a.names))
asks-plain words job a is plain =
    let here : job_of words ≡ Some (asked_of (Plain a)) = is ∙ ap (λ j. Some (asked_of j)) plain in
    here ∙ ap (λ x. Some x) (plain-settings a (plain-one words a here))

-- ---- words that ask for nothing that is built

-- the commands differ, or the workers
other_command : (asked : Asked) → bytes_eq asked.command (codes "run") ≡ false → bytes_eq asked.command (codes "plain") ≡ false → bytes_eq asked.command (codes "check") ≡ false → bytes_eq asked.command (codes "post") ≡ false → (built : Built) → asked ≡ asked_by built → ⊥
other_command asked run plain check post (Runs b files) e = apart asked.command (codes "run") run (ap (λ (x : Asked). x.command) e)
other_command asked run plain check post (Plains b files) e = apart asked.command (codes "plain") plain (ap (λ (x : Asked). x.command) e)
other_command asked run plain check post (Checks files) e = apart asked.command (codes "check") check (ap (λ (x : Asked). x.command) e)
other_command asked run plain check post (Posts files) e = apart asked.command (codes "post") post (ap (λ (x : Asked). x.command) e)

other_workers : (a : RunArgs) → (a.workers ≡ 1 → ⊥) → (built : Built) → asked_of (Run a) ≡ asked_by built → ⊥
other_workers a many (Runs b files) e = many (ap (λ (x : Asked). workers_in x.settings) e)
other_workers a many (Plains b files) e = apart (codes "run") (codes "plain") refl (ap (λ (x : Asked). x.command) e)
other_workers a many (Checks files) e = apart (codes "run") (codes "check") refl (ap (λ (x : Asked). x.command) e)
other_workers a many (Posts files) e = apart (codes "run") (codes "post") refl (ap (λ (x : Asked). x.command) e)

pub workers-asks_none : (words : List (List ℕ)) (job : Job) (a : RunArgs) → job_of words ≡ Some (asked_of job) → job ≡ Run a → (a.workers ≡ 1 → ⊥) → AsksForNone words
workers-asks_none words job a is run many = asks_none words (asked_of (Run a)) (is ∙ ap (λ j. Some (asked_of j)) run) (other_workers a many)

other-not_built : (job : Job) → ((a : RunArgs) → job ≡ Run a → ⊥) → ((a : RunArgs) → job ≡ Plain a → ⊥) → ((n : Names) → job ≡ Check n → ⊥) → ((n : Names) → job ≡ Post n → ⊥) → (built : Built) → asked_of job ≡ asked_by built → ⊥
other-not_built (Run a) not_run not_plain not_check not_post built e = not_run a refl
other-not_built (Plain a) not_run not_plain not_check not_post built e = not_plain a refl
other-not_built (Check n) not_run not_plain not_check not_post built e = not_check n refl
other-not_built (Post n) not_run not_plain not_check not_post built e = not_post n refl
other-not_built (Sim a) not_run not_plain not_check not_post built e = other_command (asked_of (Sim a)) refl refl refl refl built e
other-not_built (Gen a) not_run not_plain not_check not_post built e = other_command (asked_of (Gen a)) refl refl refl refl built e

pub other-asks_none : (words : List (List ℕ)) (job : Job) → job_of words ≡ Some (asked_of job) → ((a : RunArgs) → job ≡ Run a → ⊥) → ((a : RunArgs) → job ≡ Plain a → ⊥) → ((n : Names) → job ≡ Check n → ⊥) → ((n : Names) → job ≡ Post n → ⊥) → AsksForNone words
other-asks_none words job is not_run not_plain not_check not_post = asks_none words (asked_of job) is (other-not_built job not_run not_plain not_check not_post)
