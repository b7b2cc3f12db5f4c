-- From the places and items of the search to undefined reads: formed_some and formed_stays for what the search requires, least and never
-- for what its answer says.
use Rattle.std.proofs.Common.{◌≡◌, ℕ, ◌<◌, ◌≤◌, Bool, true, false, length, arith, refl}
use Rattle.std.specs.Prelude.{nat_lt}
use Rattle.std.proofs.lemmas.Option.{slice_get_within}
use Rattle.std.proofs.lemmas.Bool.Decides.{Decides-ltb, nat_tests}
use Rattle.st_model.specs.declared.program.Program.{Program}
use Rattle.st_model.specs.declared.program.ProgramFunction.{ProgramFunction}
use Rattle.st_model.specs.Flow.{UndefinedRead}
use Rattle.st_model.specs.Accepted.{IsFormed}
use Rattle.st_flow.specs.Tables.{Stays, IsBad}

pub formed_some : (p : Program) (function : ProgramFunction) → IsFormed p function → 0 < length function.items
formed_some p function formed = slice_get_within function.items 0 formed.begins.0 formed.begins.1

pub formed_stays : (p : Program) (function : ProgramFunction) → IsFormed p function → Stays function
formed_stays p function formed j i next = (formed.stays j i next.0 next.1 next.2).1

read_bad : (p : Program) (function : ProgramFunction) (read : UndefinedRead p function) → IsBad p function read.at read.place
read_bad p function read = ((read.back, read.leads, read.undefined), (read.item, read.here, read.reads))

least_by : (p : Program) (function : ProgramFunction) (n : ℕ) (w : Bool) (read : UndefinedRead p function) → nat_lt read.at n ≡ w → ((i x : ℕ) → i < n → IsBad p function i x → ⊥) → n ≤ read.at
least_by p function n true read e none = absurd (none read.at read.place ((Decides-ltb read.at n).0 e) (read_bad p function read))
least_by p function n false read e none = grind (arith, nat_tests)

pub least : (p : Program) (function : ProgramFunction) (n : ℕ) → ((i x : ℕ) → i < n → IsBad p function i x → ⊥) → (read : UndefinedRead p function) → n ≤ read.at
least p function n none read = least_by p function n (nat_lt read.at n) read refl none

pub never : (p : Program) (function : ProgramFunction) → ((i x : ℕ) → IsBad p function i x → ⊥) → UndefinedRead p function → ⊥
never p function none read = none read.at read.place (read_bad p function read)
