-- The outside held in memory: what its files, source and sink hold, which of the calls on them are to fail, and how many calls and faults
-- there were. The words to use: CallPlan, FailsNext, after_call, planned, file_named.
use Rattle.std.specs.Prelude.{ℕ, Bool, cond, List, [], ◌∷◌, Option, Some, None, Contains, nat_eq, nat_le, ◌+◌, ◌++◌, length, String, Vec, string_bytes}
use Rattle.std.specs.Global.{Global}
use Rattle.std.specs.Cmp.Lexicographic.{pointwise}
use Rattle.st_base.specs.Outside.{next_count}

-- the numbers, from 1, of the calls that are to fail; how many calls were made, and how many faults there were
pub record CallPlan : Type 0 where
  pub fail : List ℕ
  pub made : ℕ
  pub faults : ℕ

-- no call so far
abbrev pub planned : List ℕ → CallPlan
planned fail = record { fail = fail; made = 0; faults = 0 }

-- the next call is to fail
abbrev pub FailsNext : CallPlan → Type 0
FailsNext plan = Contains plan.fail (next_count plan.made)

abbrev pub with_call : CallPlan → CallPlan
with_call plan = record plan { made = next_count plan.made }

abbrev pub with_fault : CallPlan → CallPlan
with_fault plan = record plan { faults = next_count plan.faults }

-- after a call that was good, or failed
abbrev pub after_call : Bool → CallPlan → CallPlan
after_call good plan = cond good (with_call plan) (with_fault (with_call plan))

-- a file's name and its bytes
abbrev pub name_and_bytes : String Global × Vec ℕ Global → List ℕ × List ℕ
name_and_bytes file = (string_bytes file.0, file.1.items)

-- the bytes of the first file of a name
abbrev pub file_named : List (List ℕ × List ℕ) → List ℕ → Option (List ℕ)
file_named [] name = None
file_named (file ∷ files) name = cond (pointwise nat_eq file.0 name) (Some file.1) (file_named files name)

-- files by name; of two files of one name the first counts
pub record MemoryFiles : Type 0 where
  pub files : List (List ℕ × List ℕ)
  pub calls : CallPlan

pub record MemorySource : Type 0 where
  pub left : List ℕ
  pub calls : CallPlan

-- room is how many bytes may be taken in all
pub record MemorySink : Type 0 where
  pub taken : List ℕ
  pub room : ℕ
  pub calls : CallPlan

-- files by name, without calls that are to fail
pub record NamedFiles : Type 0 where
  pub files : List (List ℕ × List ℕ)
  pub faults : ℕ

-- a sink that takes each piece whole; taken is None once a piece didn't fit in the room
pub record RoomSink : Type 0 where
  pub taken : Option (List ℕ)
  pub room : ℕ

-- what such a sink tells after a piece
abbrev pub taken_whole : Option (List ℕ) → List ℕ → ℕ → Option (List ℕ)
taken_whole None piece room = None
taken_whole (Some bytes) piece room = cond (nat_le (length bytes + length piece) room) (Some (bytes ++ piece)) None
