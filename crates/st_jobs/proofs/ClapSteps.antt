-- One step of the walk of `clap`, for each kind of word and each place between two words where the walk can stand. The
-- words to use: standing and due for the places; for each kind of word a law of the turn that it passes (file-passes,
-- option-passes, value-passes) and one of where the walk stands after it (walked-file, walked-option, walked-name,
-- walked-value).
use Rattle.std.proofs.Common.{◌≡◌, ◌∙◌, ◌&&◌, ◌||◌, ◌⊎◌, inl, inr, Bool, true, false, List, [], ◌∷◌, Option, Some, None, refl, ap, ap₂}
use Rattle.std.proofs.lemmas.Slice.Eq.{bytes_eq-Decides}
use Rattle.clap.specs.Walk.{Held, Row, Rule, Walk, Waiting, Step, idle, option, positional, next, value, is_pending, walked, word_met, after_step, to_positional, positional_held, settled_rows}
use Rattle.clap.specs.Simple.{Shape}
use Rattle.clap.specs.Takes.{turn_passes, word_passes, step_passes, settle_passes}
use Rattle.clap.proofs.OnLiterals.{clap_on_literals}
use Rattle.st_jobs.specs.Words.{Text, Item, file_id, is_among}
use Rattle.st_jobs.specs.ByClap.{option_names}
use Rattle.st_jobs.proofs.FoundValues.{put}
use Rattle.st_jobs.proofs.ClapRules.{Serves, IsPlainWord, IsOptionWord, file_built}

-- ---- where the walk stands between two words

-- the item that was read last may not have been put into the rows
abbrev pub settled_with : Option Item → List Row → List Row
settled_with None rows = rows
settled_with (Some i) rows = put i.name i.text rows

abbrev pub IsOpen : Option Item → Type 0
IsOpen None = Unit {0}
IsOpen (Some i) = (is_among option_names i.name ≡ true) ⊎ (i.name ≡ file_id)

abbrev pub pending_of : Option Item → Option (Text × List Text)
pending_of None = None
pending_of (Some i) = Some (i.name, i.text ∷ [])

-- after a file name the walk knows that file names may follow
abbrev pub waiting_after : Bool → Waiting
waiting_after true = positional
waiting_after false = idle

abbrev pub held_with : Option Item → List Row → Held
held_with last rows = record { rows = rows; pending = pending_of last; skip = 0 }

-- no option waits for its value
abbrev pub standing : Option Item → Bool → List Row → Walk
standing last after_file rows = record {
  held = held_with last rows;
  waiting = waiting_after after_file;
  position = 1;
  is_trailing = false;
  stopped = None;
}

abbrev pub held_due : Text → List Row → Held
held_due name rows = record { rows = rows; pending = Some (name, []); skip = 0 }

-- an option waits for its value
abbrev pub due : Text → List Row → Walk
due name rows =
    record { held = held_due name rows; waiting = option name; position = 1; is_trailing = false; stopped = None }

-- ---- the item that was read last is put into the rows

pub settled-rows : (c : List Rule) (s : Serves c) (last : Option Item) → IsOpen last → (rows : List Row)
    → settled_rows c (pending_of last) rows ≡ settled_with last rows
settled-rows c s None h rows = refl
settled-rows c s (Some i) (inl k) rows = rw (s.id i.name k)
settled-rows c s (Some i) (inr e) rows = rw (e, s.file)

pub settled-passes : (c : List Rule) (s : Serves c) (again : Bool) (last : Option Item) → IsOpen last → (rows : List Row)
    → settle_passes c again (held_with last rows) ≡ true
settled-passes c s again None h rows = refl
settled-passes c s again (Some i) (inl k) rows = rw (s.id i.name k)
settled-passes c s again (Some i) (inr e) rows = rw (e, s.file)

-- ---- a file name

and-false : (b : Bool) → (b && false) ≡ false
and-false true = refl
and-false false = refl

or-true : (b : Bool) → (b || true) ≡ true
or-true true = refl
or-true false = refl

abbrev file_item : Text → Item
file_item word = record { name = file_id; text = word }

met-file : (c : List Rule) (b : Bool) (word : Text) (h : Held) → IsPlainWord word
    → word_met c [] false (waiting_after b) 1 word h ≡ (h, value)
met-file c true word h f = rw (f.escape, f.long, f.short)
met-file c false word h f = rw (f.escape, f.long, f.short)

held-file : (c : List Rule) (s : Serves c) (last : Option Item) (rows : List Row) (word : Text) → IsOpen last
    → positional_held c file_built word (held_with last rows) ≡ held_with (Some (file_item word)) (settled_with last rows)
held-file c s last rows word o =
    rw (and-false (is_pending file_built (pending_of last)), settled-rows c s last o rows)

pub walked-file : (c : List Rule) (s : Serves c) (last : Option Item) (b : Bool) (rows : List Row) (word : Text) → IsOpen last → IsPlainWord word
    → walked c [] (standing last b rows) word ≡ standing (Some (record { name = file_id; text = word })) true (settled_with last rows)
unfolding clap_on_literals
walked-file c s last b rows word o f =
    ap (λ (m : Held × Step). after_step c word (standing last b rows) m.0 m.1) (met-file c b word (held_with last rows) f)
    ∙ ap (λ (r : Option Rule). to_positional c r word (standing last b rows) (held_with last rows)) s.index
    ∙ ap (λ (h : Held). walk_with h) (held-file c s last rows word o)
  where
    walk_with : Held → Walk
    walk_with h = record { held = h; waiting = positional; position = 1; is_trailing = false; stopped = None }

word-passes : (s : Shape) (b : Bool) (word : Text) (h : Held) → IsPlainWord word → word_passes s [] false (waiting_after b) word h ≡ true
word-passes s true word h f = rw (f.escape, f.long, f.short)
word-passes s false word h f = rw (f.escape, f.long, f.short)

pub file-passes : (s : Shape) (v : Serves s.rules) (last : Option Item) (b : Bool) (rows : List Row) (word : Text) → IsOpen last → IsPlainWord word
    → turn_passes s [] (standing last b rows) word ≡ true
file-passes s v last b rows word o f =
    ap₂ ◌&&◌ (word-passes s b word (held_with last rows) f)
    (ap (λ (m : Held × Step). step_passes s 1 m.0 m.1) (met-file s.rules b word (held_with last rows) f)
    ∙ rw (v.index, settled-passes s.rules v s.args_override_self last o rows) (or-true _))

-- ---- an option, and the value that it waits for

met-option : (c : List Rule) (s : Serves c) (last : Option Item) (b : Bool) (rows : List Row) (word name v : Text) → IsOpen last
    → is_among option_names name ≡ true → IsOptionWord word (name, Some v)
    → word_met c [] false (waiting_after b) 1 word (held_with last rows) ≡ (held_with None (put name v (settled_with last rows)), next idle)
met-option c s last true rows word name v o k f = rw (f.escape, f.long, s.long name k, settled-rows c s last o rows)
met-option c s last false rows word name v o k f = rw (f.escape, f.long, s.long name k, settled-rows c s last o rows)

met-name : (c : List Rule) (s : Serves c) (last : Option Item) (b : Bool) (rows : List Row) (word name : Text) → IsOpen last
    → is_among option_names name ≡ true → IsOptionWord word (name, None)
    → word_met c [] false (waiting_after b) 1 word (held_with last rows) ≡ (held_due name (settled_with last rows), next (option name))
met-name c s last true rows word name o k f = rw (f.escape, f.long, s.long name k, settled-rows c s last o rows)
met-name c s last false rows word name o k f = rw (f.escape, f.long, s.long name k, settled-rows c s last o rows)

met-value : (c : List Rule) (s : Serves c) (rows : List Row) (word name : Text)
    → is_among option_names name ≡ true → IsPlainWord word
    → word_met c [] false (option name) 1 word (held_due name rows) ≡ (held_with (Some (record { name = name; text = word })) rows, next idle)
met-value c s rows word name k f = rw (f.escape, f.long, f.short, s.id name k, (bytes_eq-Decides name name).1 refl)

pub walked-option : (c : List Rule) (s : Serves c) (last : Option Item) (b : Bool) (rows : List Row) (word name v : Text) → IsOpen last
    → is_among option_names name ≡ true → IsOptionWord word (name, Some v)
    → walked c [] (standing last b rows) word ≡ standing None false (put name v (settled_with last rows))
unfolding clap_on_literals
walked-option c s last b rows word name v o k f =
    ap (λ (m : Held × Step). after_step c word (standing last b rows) m.0 m.1) (met-option c s last b rows word name v o k f)

pub walked-name : (c : List Rule) (s : Serves c) (last : Option Item) (b : Bool) (rows : List Row) (word name : Text) → IsOpen last
    → is_among option_names name ≡ true → IsOptionWord word (name, None)
    → walked c [] (standing last b rows) word ≡ due name (settled_with last rows)
unfolding clap_on_literals
walked-name c s last b rows word name o k f =
    ap (λ (m : Held × Step). after_step c word (standing last b rows) m.0 m.1) (met-name c s last b rows word name o k f)

pub walked-value : (c : List Rule) (s : Serves c) (rows : List Row) (word name : Text)
    → is_among option_names name ≡ true → IsPlainWord word
    → walked c [] (due name rows) word ≡ standing (Some (record { name = name; text = word })) false rows
unfolding clap_on_literals
walked-value c s rows word name k f =
    ap (λ (m : Held × Step). after_step c word (due name rows) m.0 m.1) (met-value c s rows word name k f)

pub option-passes : (s : Shape) (v : Serves s.rules) (last : Option Item) (b : Bool) (rows : List Row) (word name : Text) (w : Option Text) → IsOpen last
    → is_among option_names name ≡ true → IsOptionWord word (name, w)
    → turn_passes s [] (standing last b rows) word ≡ true
option-passes s v last true rows word name (Some w) o k f =
    rw (f.escape, f.long, v.long name k, settled-passes s.rules v s.args_override_self last o rows)
option-passes s v last true rows word name None o k f =
    rw (f.escape, f.long, v.long name k, settled-passes s.rules v s.args_override_self last o rows)
option-passes s v last false rows word name (Some w) o k f =
    rw (f.escape, f.long, v.long name k, settled-passes s.rules v s.args_override_self last o rows)
option-passes s v last false rows word name None o k f =
    rw (f.escape, f.long, v.long name k, settled-passes s.rules v s.args_override_self last o rows)

pub value-passes : (s : Shape) (v : Serves s.rules) (rows : List Row) (word name : Text)
    → is_among option_names name ≡ true → IsPlainWord word
    → turn_passes s [] (due name rows) word ≡ true
value-passes s v rows word name k f = rw (f.escape, f.long, f.short)
