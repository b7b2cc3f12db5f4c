-- Entries by their names: is_entry_from_address. entries_named: the table that the code reads has the entries.
use Rattle.std.proofs.Common.{ℕ, ◌≡◌, Bool, true, false, ◌||◌, List, [], ◌∷◌, Option, Some, cond, refl, map, is_some}
use Rattle.std.specs.Str.{bytes_eq}
use Rattle.st_base.specs.declared.entry.TheConstants.{ENTRIES}
use Rattle.st_base.specs.Entry.{entry_rows}
use Rattle.st_line.specs.Operands.{named_in}
use Rattle.st_asm.specs.Labels.{is_named, is_entry, entry_at}

named_somewhere : (b : Bool) (x : ℕ) (rest : Option ℕ) (others : Bool) → is_some rest ≡ others → is_some (cond b (Some x) rest) ≡ (b || others)
named_somewhere true x rest others e = refl
named_somewhere false x rest others e = e

is_some_named : (rows : List (ℕ × List ℕ)) (name : List ℕ) → is_some (named_in rows name) ≡ is_named name (map (λ row. row.1) rows)
is_some_named [] name = refl
is_some_named (row ∷ rows) name = named_somewhere (bytes_eq row.1 name) row.0 _ _ (is_some_named rows name)

pub is_entry_from_address : (name : List ℕ) → is_some (entry_at name) ≡ is_entry name
is_entry_from_address name = is_some_named entry_rows name

pub entries_named : (name : List ℕ) → named_in (map (λ p. (p.0, p.1.now)) ENTRIES) name ≡ entry_at name
entries_named name = refl
