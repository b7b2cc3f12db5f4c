-- Requests and mail. Read Requests, which is of a world; `phase` tells how far the request of each worker is, and Mailing ties it to what its view, the
-- request words, its mail word and its mail slot show. No clause is about two views but by the phase.
use Rattle.std.specs.Prelude.{◌≡◌, ◌≢◌, ◌⊎◌, ℕ, suc, ◌≤◌, ◌<◌, Bool, true, false, Option, Some, None}
use Rattle.st_base.specs.declared.chain.Chain.{Chain}
use Rattle.st_words.specs.declared.view.Answering.{Answering}
use Rattle.st_words.specs.declared.view.View.{View}
use Rattle.st_words.specs.Encodings.{answering_word, waiting, given, refused}
use Rattle.st_world.specs.World.{World}

pub data Phase : Type 0 where
  -- no request of it stands, and its mail slot is empty
  Still : Phase
  -- its request stands at this worker, unanswered
  Asks : ℕ → Phase
  -- this worker answers it, and has put a chain into its mail or not
  Answers : ℕ → Bool → Phase
  -- this worker has told its answer, and it hasn't read that
  Told : ℕ → Bool → Phase
  -- it has read that a chain was given, and hasn't taken it
  Given : Phase

abbrev pub IsFilled : Bool → Option Chain → Type 0
IsFilled true o = (chain : Chain) × (o ≡ Some chain)
IsFilled false o = o ≡ None

abbrev pub told_word : Bool → ℕ
told_word true = given
told_word false = refused

-- the parts of the views that are read
abbrev pub asks : (ℕ → View) → ℕ → Option ℕ
asks views w = (views w).asked

abbrev pub answers : (ℕ → View) → ℕ → Option Answering
answers views w = (views w).answering

abbrev pub letters : (ℕ → View) → ℕ → ℕ
letters views w = (views w).mail

abbrev pub gifts : (ℕ → View) → ℕ → Bool
gifts views w = (views w).given

module _ (workers : ℕ) (request mail : ℕ → ℕ) (post : ℕ → Option Chain) (asked : ℕ → Option ℕ) (answering : ℕ → Option Answering) (letter : ℕ → ℕ) (gift : ℕ → Bool) where
  abbrev pub PhaseOk : ℕ → Phase → Type 0
  PhaseOk a Still = (asked a ≡ None) × (gift a ≡ false) × (mail a ≡ letter a) × (mail a ≤ refused) × (post a ≡ None)
  PhaseOk a (Asks v) = (asked a ≡ Some v) × (gift a ≡ false) × (mail a ≡ letter a) × (mail a ≤ waiting) × (post a ≡ None) × (request v ≡ suc a) × (a < workers) × (a ≢ v)
  PhaseOk a (Answers v put) = (asked a ≡ Some v) × (gift a ≡ false) × (mail a ≡ letter a) × (mail a ≤ waiting) × IsFilled put (post a) × (answering v ≡ Some (record { asker = a; put = put; told = false }))
  PhaseOk a (Told v gave) = (asked a ≡ Some v) × (gift a ≡ false) × (mail a ≡ told_word gave) × IsFilled gave (post a)
  PhaseOk a Given = (asked a ≡ None) × (gift a ≡ true) × (mail a ≡ given) × (letter a ≡ given) × IsFilled true (post a)

  module _ (phase : ℕ → Phase) where
    -- the request word of a worker, by what it answers
    abbrev pub AnswerOk : ℕ → Option Answering → Type 0
    AnswerOk v None = (request v ≡ 0) ⊎ ((a : ℕ) × (request v ≡ suc a) × (phase a ≡ Asks v))
    AnswerOk v (Some x) = (request v ≡ answering_word) × (x.told ≡ false → phase x.asker ≡ Answers v x.put) × (x.asker < workers) × (x.asker ≢ v)

    pub record Mailing : Type 0 where
      pub each : (a : ℕ) → PhaseOk a (phase a)
      pub answers : (v : ℕ) → AnswerOk v (answering v)

-- a view has its worker's number and the number of workers
abbrev pub IsNumbered : ℕ → ℕ → View → Type 0
IsNumbered workers w v = (v.number ≡ w) × (v.workers ≡ workers)

pub record Asking (workers : ℕ) (request mail : ℕ → ℕ) (post : ℕ → Option Chain) (view : ℕ → View) : Type 0 where
  pub phase : ℕ → Phase
  pub few : workers ≤ 31
  pub numbered : (w : ℕ) → w < workers → IsNumbered workers w (view w)
  pub mailing : Mailing workers request mail post (asks view) (answers view) (letters view) (gifts view) phase

abbrev pub Requests : World → Type 0
Requests x = Asking x.workers x.request x.mail x.post x.view
