-- Reading files piece by piece. HasStart: what was read of one file; HasRead: what was read of all; IsUnread, IsReadFault: where reading
-- fails.
use Rattle.std.specs.Prelude.{◌≡◌, ◌⊎◌, ℕ, ◌<◌, ◌≤◌, Bool, false, List, length, take, Option, Some, IfSome, IsSomeAnd, Err}
use Rattle.st_base.specs.Outside.{HasRisen}
use Rattle.st_line.specs.declared.fault.AsmFault.{AsmFault}
use Rattle.st_line.specs.declared.fault.AsmKind.TheVariants.{TooLarge}
use Rattle.st_asm.specs.Assembly.{unit_of}
use Rattle.st_print.specs.declared.fault.Fault.{Fault}
use Rattle.st_print.specs.declared.fault.Fault.TheVariants.{ReadFile}
use Rattle.st_main.specs.Answer.{AreTexts, IsUnreadFile, Library}

-- ---- failing

-- the file of this number was not read, since the count rose
abbrev pub IsUnread : ℕ → ℕ → ℕ → Fault → Type 0
IsUnread number before after fault = (fault ≡ ReadFile number) × HasRisen before after

-- one of the files was not read
abbrev pub IsReadFault : Library → List (List ℕ) → Fault → Type 0
IsReadFault library names fault = (file : ℕ) × IsUnreadFile library names file × (fault ≡ ReadFile file)

-- ---- one file

-- the text is the front of the file
pub record IsFront (file text : List ℕ) : Type 0 where
  pub front : text ≡ take (length text) file
  pub within : length text ≤ length file

-- behind the front of a file stands a longer front, or the front was all of it
pub record Extends (file old new : List ℕ) (more : Bool) : Type 0 where
  pub front : IsFront file old → IsFront file new
  pub all : IsFront file old → more ≡ false → new ≡ file

-- the file is there, and is read on behind its front
abbrev pub Reads : Option (List ℕ → Option (List ℕ)) → List ℕ → List ℕ → List ℕ → Bool → Type 0
Reads contents name old new more = IfSome contents (λ files. IsSomeAnd (files name) (λ file. Extends file old new more))

-- all of a file, or a front of it that is longer than there is room for
abbrev pub IsStart : ℕ → List ℕ → List ℕ → Type 0
IsStart room file text = (text ≡ file) ⊎ (IsFront file text × (room < length text))

-- the text is the start of a file, which is the file of the name where the files tell what they hold
pub record HasStart (contents : Option (List ℕ → Option (List ℕ))) (name : List ℕ) (room : ℕ) (text : List ℕ) : Type 0 where
  pub file : List ℕ
  pub is : IfSome contents (λ files. files name ≡ Some file)
  pub start : IsStart room file text

-- ---- all files

-- the fault of texts of which the one with this number, counted from 1, passes the limit
abbrev pub past_limit : ℕ → AsmFault
past_limit file = record { line = record { file = file; line = 1 }; kind = TooLarge }

-- what was read is the texts; or both are refused, since the last of them passes the limit already by what was read of it
abbrev pub IsReadOf : List (List ℕ) → List (List ℕ) → Type 0
IsReadOf texts read =
    (read ≡ texts) ⊎ ((length read ≡ length texts) × (unit_of read ≡ Err (past_limit (length texts))) × (unit_of texts ≡ Err (past_limit (length texts))))

-- what was read comes to the same as the texts of the files
pub record HasRead (contents : Option (List ℕ → Option (List ℕ))) (names read : List (List ℕ)) : Type 0 where
  pub texts : List (List ℕ)
  pub are : AreTexts contents names texts
  pub same : IsReadOf texts read
