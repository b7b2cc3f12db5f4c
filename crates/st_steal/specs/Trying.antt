-- What tests keep of two workers, of which worker 0 may ask worker 1: what their views and the words have of requests and mail, by what was answered
-- to them. Read AskerHas, AnswererHas and MailHas; giving is the view of a worker that has come to have a chain to give.
use Rattle.std.specs.Prelude.{◌≡◌, ℕ, ◌≤◌, Bool, true, false, [], ◌∷◌, Option, Some, None, slice_get}
use Rattle.st_base.specs.declared.chain.Chain.{Chain}
use Rattle.st_words.specs.declared.view.Answering.{Answering}
use Rattle.st_words.specs.declared.view.Carried.{Carried}
use Rattle.st_words.specs.declared.view.Slot.TheVariants as slots
use Rattle.st_words.specs.declared.view.View.{View}
use Rattle.st_words.specs.declared.words.Words.{Words}
use Rattle.st_words.specs.Encodings.{waiting, refused}
use Rattle.st_words.specs.Plain.{in_slot}
use Rattle.st_words.specs.Views.{no_known, no_cargo}
use Rattle.st_steal.specs.declared.found.Mail.{Mail}
use Rattle.st_steal.specs.declared.found.Mail.TheVariants as mails

abbrev pub asked_of : Bool → Option ℕ
asked_of true = Some 1
asked_of false = None

abbrev pub answering_of : Bool → Bool → Bool → Option Answering
answering_of true put told = Some (record { asker = 0; put = put; told = told })
answering_of false put told = None

-- worker 0: whether its request stands, its mail word is known to be nothing or waiting, it has read that a chain was given, and it has taken one
pub record AskerHas (v : View) (asks quiet offered taken : Bool) : Type 0 where
  pub number : v.number ≡ 0
  pub workers : v.workers ≡ 2
  pub asked : v.asked ≡ asked_of asks
  pub mail : quiet ≡ true → v.mail ≤ waiting
  pub given : v.given ≡ offered
  pub share : taken ≡ false → v.share ≡ 0

-- worker 1: until it has ended the request, whether it has begun to answer it, has put a chain into the mail, and has told its answer
pub record AnswererHas (u : View) (begun put told ended : Bool) : Type 0 where
  pub number : u.number ≡ 1
  pub workers : u.workers ≡ 2
  pub answering : ended ≡ false → u.answering ≡ answering_of begun put told

-- whether a chain lies in a slot that there is
abbrev pub has_chain : Option (Option Chain) → Option Bool
has_chain None = None
has_chain (Some None) = Some false
has_chain (Some (Some chain)) = Some true

-- the mail of worker 0: its word is one of the mail words, and whether a chain lies in its slot
pub record MailHas (x : Words) (full : Bool) : Type 0 where
  pub word : (n : ℕ) → slice_get x.mail 0 ≡ Some n → n ≤ refused
  pub slot : has_chain (in_slot x (slots.Mail 0)) ≡ Some full

-- what a worker whose request stands reads in its mail: no answer yet, or a chain
abbrev pub waits_on : Mail → Bool
waits_on mails.Nothing = true
waits_on mails.Waiting = true
waits_on mails.Given = false
waits_on mails.Refused = false

abbrev pub gives : Mail → Bool
gives mails.Given = true
gives _ = false

-- a worker that has come to have the chain of cell 7 in its turn
abbrev pub carried : Carried
carried = record no_cargo.carried { known = record no_known { note = record { cell = 7; forks = 0; counters = 0; bytes = 0 } } }

abbrev pub giving : View → View
giving v = record v { chains = carried ∷ [] }
