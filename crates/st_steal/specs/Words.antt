-- The words of requests and mail that the calls store, and how a result is read from the word that was found.
use Rattle.std.specs.Prelude.{◌≡◌, ◌≢◌, ℕ, ◌≤◌, ◌^◌, Bool, true, false, Result, Ok, Err, Option, Some, None}
use Rattle.st_base.specs.declared.chain.Again.{Again}
use Rattle.st_words.specs.Encodings.{asking, nothing, waiting, given, refused}
use Rattle.st_steal.specs.declared.found.Mail.{Mail}
use Rattle.st_steal.specs.declared.found.Mail.TheVariants as mails

-- what a worker sets its own mail word to
abbrev pub set_word : Bool → ℕ
set_word true = waiting
set_word false = nothing

-- what an answer is told by
abbrev pub told_word : Bool → ℕ
told_word true = given
told_word false = refused

-- a compare and exchange found what was carried in, or another word, which is told
abbrev pub IsTried : ℕ → ℕ → Result Prim.Unit Again → Type 0
IsTried seen found (Ok done) = found ≡ seen
IsTried seen found (Err again) = (found ≢ seen) × (again.now ≡ found)

-- nobody asks, or the worker whose request it is
abbrev pub IsAsker : ℕ → Option ℕ → Type 0
IsAsker found None = found ≡ 0
IsAsker found (Some asker) = (found ≢ 0) × (found ≤ 2 ^ 32 → found ≡ asking asker)

-- what a mail word says; it is at most refused
abbrev pub IsMail : ℕ → Mail → Type 0
IsMail found mails.Nothing = found ≡ nothing
IsMail found mails.Waiting = found ≡ waiting
IsMail found mails.Given = found ≡ given
IsMail found mails.Refused = (found ≢ nothing) × ((found ≢ waiting) × (found ≢ given))
