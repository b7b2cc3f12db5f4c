-- The lines of texts (lines_of, located) and the labels that they define (definitions_of). Names that begin with `.L` are local to their
-- file; all others are shared by all files: a label is known by its scope and its name.
use Rattle.std.specs.Prelude.{ℕ, ◌+◌, Bool, true, false, not, ◌&&◌, ◌||◌, ◌==◌, List, [], ◌∷◌, ◌++◌, Option, Some, None, if◌then◌else◌, map, is_some}
use Rattle.std.specs.Str.{bytes_eq}
use Rattle.st_base.specs.declared.line.Line.{Line}
use Rattle.st_base.specs.Entry.{entry_rows}
use Rattle.st_line.specs.Operands.{named_in}
use Rattle.st_line.specs.Statement.{line_label}

-- ---- lines

-- a line of a file
pub record Located : Type 0 where
  pub line : Line
  pub text : List ℕ

abbrev pub onto_first : ℕ → List (List ℕ) → List (List ℕ)
onto_first b [] = (b ∷ []) ∷ []
onto_first b (l ∷ ls) = (b ∷ l) ∷ ls

-- the lines of a text: each ends at a line feed or at the end of the text
abbrev pub lines_of : List ℕ → List (List ℕ)
lines_of [] = [] ∷ []
lines_of (b ∷ bs) = if b == 10 then [] ∷ lines_of bs else onto_first b (lines_of bs)

abbrev pub numbered : ℕ → ℕ → List (List ℕ) → List Located
numbered file n [] = []
numbered file n (l ∷ ls) = record { line = record { file = file; line = n }; text = l } ∷ numbered file (n + 1) ls

-- the lines of files, the first of this number; files and lines are counted from 1
abbrev pub located : ℕ → List (List ℕ) → List Located
located file [] = []
located file (text ∷ texts) = numbered file 1 (lines_of text) ++ located (file + 1) texts

-- ---- names

abbrev pub is_local : List ℕ → Bool
is_local (b ∷ c ∷ bs) = b == 46 && c == 76
is_local _ = false

-- the file of a local name, and 0 for the names that all files share
abbrev pub scope_of : ℕ → List ℕ → ℕ
scope_of file name = if is_local name then file else 0

abbrev pub is_named : List ℕ → List (List ℕ) → Bool
is_named name [] = false
is_named name (n ∷ ns) = bytes_eq n name || is_named name ns

-- the name of an entry of the runtime
abbrev pub is_entry : List ℕ → Bool
is_entry name = is_named name (map (λ row. row.1) entry_rows)

-- the address of an entry
abbrev pub entry_at : List ℕ → Option ℕ
entry_at name = named_in entry_rows name

-- ---- labels

-- a label of a scope, with the line that defines it
pub record Definition : Type 0 where
  pub scope : ℕ
  pub name : List ℕ
  pub line : Line

abbrev pub defined : Line → Option (List ℕ) → List Definition
defined line None = []
defined line (Some name) = record { scope = scope_of line.file name; name = name; line = line } ∷ []

-- all labels, in the order of files and lines
abbrev pub definitions_of : List Located → List Definition
definitions_of [] = []
definitions_of (l ∷ ls) = defined l.line (line_label l.text) ++ definitions_of ls

-- the line on which a name of a scope is a label first
abbrev pub first_line : ℕ → List ℕ → List Definition → Option Line
first_line scope name [] = None
first_line scope name (d ∷ ds) = if (d.scope == scope) && bytes_eq d.name name then Some d.line else first_line scope name ds

abbrev pub is_line : Line → Option Line → Bool
is_line l None = false
is_line l (Some m) = (m.file == l.file) && (m.line == l.line)

-- a line's label is no entry, and is defined on no earlier line
abbrev pub is_single : List Definition → Line → Option (List ℕ) → Bool
is_single ds line None = true
is_single ds line (Some name) = not (is_entry name) && is_line line (first_line (scope_of line.file name) name ds)

-- a name that a line of the file gives is a label or an entry
abbrev pub is_known : List Definition → ℕ → Option (List ℕ) → Bool
is_known ds file None = true
is_known ds file (Some name) = is_entry name || is_some (first_line (scope_of file name) name ds)
