-- What no step of any worker does to requests and mail. AnswerLaws and GivenLaws are of views: only who has begun an answer may tell it, and a chain
-- that was given is taken once. RequestLaws are of the words of a board over vectors: of a withdrawal and an answer only one succeeds. MailLaws:
-- a chain that is put into mail is in that slot alone. AgainKeeps: where another word was found nothing has changed.
use Rattle.std.specs.Prelude.{◌≡◌, ◌≢◌, ◌⊎◌, ℕ, ◌<◌, true, false, Some, None, length, slice_get}
use Rattle.st_base.specs.declared.chain.Chain.{Chain}
use Rattle.st_words.specs.declared.view.Answering.{Answering}
use Rattle.st_words.specs.declared.view.Cargo.{Cargo}
use Rattle.st_words.specs.declared.view.Slot.{Slot}
use Rattle.st_words.specs.declared.view.Slot.TheVariants.{Mail}
use Rattle.st_words.specs.declared.view.View.{View}
use Rattle.st_words.specs.declared.words.Words.{Words}
use Rattle.st_words.specs.Encodings.{asking, answering_word, given}
use Rattle.st_words.specs.Plain.{Exact, Cargoes, words_after, in_slot}
use Rattle.st_words.specs.Steps.{Step, RequestChange, MailLoad, MailStore, SlotTake, SlotPut, Answer, Done, Number, Took, Can, HasChain}
use Rattle.st_words.specs.Views.{view_after}

-- ---- answers

-- the worker has begun to answer this worker's request
abbrev pub Answers : View → ℕ → Type 0
Answers u asker = (x : Answering) × (u.answering ≡ Some x) × (x.asker ≡ asker)

-- and hasn't told its answer
abbrev pub MayTell : View → ℕ → Type 0
MayTell u asker = (x : Answering) × (u.answering ≡ Some x) × (x.asker ≡ asker) × (x.told ≡ false)

-- it begins by changing its own request word, in which it found the request
abbrev pub Begins : View → Step → Answer → ℕ → Type 0
Begins u s a asker = (s ≡ RequestChange u.number (asking asker) answering_word) × (a ≡ Number (asking asker))

pub record AnswerLaws : Type 0 where
  pub tells : (u : View) (at n : ℕ) → Can u (MailStore at n) → at ≢ u.number → MayTell u at
  pub puts : (u : View) (at : ℕ) (chain : Chain) (cargo : Cargo) → Can u (SlotPut (Mail at) chain cargo) → MayTell u at
  pub begins : (u : View) (s : Step) (a : Answer) (asker : ℕ) → Can u s → Answers (view_after u s a) asker → Answers u asker ⊎ Begins u s a asker

-- ---- chains that are given

-- the worker reads that a chain was given, where its request stood
abbrev pub ReadsGiven : View → Step → Answer → Type 0
ReadsGiven u s a = (s ≡ MailLoad) × (a ≡ Number given) × ((v : ℕ) × (u.asked ≡ Some v))

pub record GivenLaws : Type 0 where
  -- only who has read that a chain was given to it takes it, and not again before it reads that once more
  pub takes : (u : View) (at : ℕ) → Can u (SlotTake (Mail at)) → (at ≡ u.number) × (u.given ≡ true)
  pub once : (u : View) (at : ℕ) (chain : Chain) (cargo : Cargo) → (view_after u (SlotTake (Mail at)) (Took (Some chain) cargo)).given ≡ false
  pub reads : (u : View) (s : Step) (a : Answer) → (view_after u s a).given ≡ true → (u.given ≡ true) ⊎ ReadsGiven u s a

-- ---- request words

-- what a step of the worker leaves of the request word of the worker `at`: it stays, or the worker asks, begins its answer, withdraws or ends
abbrev pub RequestIs : Words → ℕ → ℕ → Type 0
RequestIs x at n = slice_get x.requests at ≡ Some n

abbrev pub Asks : View → ℕ → ℕ → Words → Type 0
Asks u at old x' = (old ≡ 0) × ((at ≢ u.number) × RequestIs x' at (asking u.number))

abbrev pub BeginsAt : View → ℕ → ℕ → Words → Type 0
BeginsAt u at old x' = (at ≡ u.number) × (((asker : ℕ) × (old ≡ asking asker)) × RequestIs x' at answering_word)

abbrev pub Withdraws : View → ℕ → ℕ → Words → Type 0
Withdraws u at old x' = (old ≡ asking u.number) × ((u.asked ≡ Some at) × RequestIs x' at 0)

abbrev pub Ends : View → ℕ → ℕ → Words → Type 0
Ends u at old x' = (at ≡ u.number) × (((x : Answering) × (u.answering ≡ Some x) × (x.told ≡ true)) × ((old ≡ answering_word) × RequestIs x' at 0))

abbrev pub Moves : View → ℕ → ℕ → Words → Type 0
Moves u at old x' = RequestIs x' at old ⊎ (Asks u at old x' ⊎ (BeginsAt u at old x' ⊎ (Withdraws u at old x' ⊎ Ends u at old x')))

pub record RequestLaws : Type 0 where
  pub moves : (x : Words) (ls : Cargoes) (w : ℕ) (u : View) (s : Step) (a : Answer) (at old : ℕ) → Can u s → Exact x ls w s a → RequestIs x at old → Moves u at old (words_after x w s a)
  -- once a request was withdrawn, or its answer was begun, nobody finds it
  pub only_one : (x : Words) (ls : Cargoes) (w v at asker new other n : ℕ) → RequestIs x at (asking asker) → new ≢ asking asker → Exact (words_after x w (RequestChange at (asking asker) new) (Number (asking asker))) ls v (RequestChange at (asking asker) other) (Number n) → (n ≡ new) × (n ≢ asking asker)
  -- and so it stays until the worker asks again; there are at most 31 workers
  pub asks_again : (x : Words) (ls : Cargoes) (w : ℕ) (u : View) (s : Step) (a : Answer) (at old asker : ℕ) → asker < 31 → Can u s → Exact x ls w s a → RequestIs x at old → old ≢ asking asker → RequestIs (words_after x w s a) at (asking asker) → u.number ≡ asker

-- ---- mail

pub record MailLaws : Type 0 where
  -- a chain that is put is there, in no other slot, and in the worker's turn no more
  pub there : (x : Words) (w at : ℕ) (chain : Chain) (cargo : Cargo) → at < length x.mail_slots → in_slot (words_after x w (SlotPut (Mail at) chain cargo) Done) (Mail at) ≡ Some (Some chain)
  pub others : (x : Words) (w at : ℕ) (chain : Chain) (cargo : Cargo) (slot : Slot) → slot ≢ Mail at → in_slot (words_after x w (SlotPut (Mail at) chain cargo) Done) slot ≡ in_slot x slot
  pub turn : (u : View) (at : ℕ) (chain : Chain) (cargo : Cargo) → HasChain (view_after u (SlotPut (Mail at) chain cargo) Done) chain.cell → ⊥
  -- the slot is empty once it was taken
  pub taken : (x : Words) (w at : ℕ) (a : Answer) → at < length x.mail_slots → in_slot (words_after x w (SlotTake (Mail at)) a) (Mail at) ≡ Some None

-- ---- refusals

pub record AgainKeeps : Type 0 where
  pub words : (x : Words) (w at old new n : ℕ) → n ≢ old → words_after x w (RequestChange at old new) (Number n) ≡ x
  pub view : (u : View) (at old new n : ℕ) → n ≢ old → view_after u (RequestChange at old new) (Number n) ≡ u
