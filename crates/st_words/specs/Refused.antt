-- Steps of a wrong worker, by which a list, a value, a unit or a thread would be lost: none of them is careful. Each law says by what the wrong step is
-- known, and that Careful refuses it. The last is of a move.
use Rattle.std.specs.Prelude.{◌≡◌, ◌≢◌, ℕ, ◌+◌, ◌*◌, ◌^◌, ◌≤◌, ◌<◌, true, false, List, [], ◌∷◌, Option, Some, None}
use Rattle.std.specs.List.{Contains}
use Rattle.st_base.specs.declared.chain.Chain.{Chain}
use Rattle.st_base.specs.declared.chain.Frame.{Frame}
use Rattle.st_base.specs.declared.chain.Waiting.TheVariants as waits
use Rattle.st_words.specs.declared.view.CellWord.TheVariants as words
use Rattle.st_words.specs.declared.view.Slot.TheVariants as slots
use Rattle.st_words.specs.declared.view.Known.{Known}
use Rattle.st_words.specs.declared.view.Carried.{Carried}
use Rattle.st_words.specs.declared.view.Cargo.{Cargo}
use Rattle.st_words.specs.declared.view.Waiter.{Waiter}
use Rattle.st_words.specs.declared.view.Child.{Child}
use Rattle.st_words.specs.declared.view.View.{View}
use Rattle.st_words.specs.Encodings.{thread_owner, counter_owner, counter_word, full_word, running, trap_word, stop_kind}
use Rattle.st_words.specs.Steps.{CellStore, CellChange, Draw, ActiveAdd, SlotTake, SlotPut, Done, place_of, HasInHand, IsChild, IsFuture, IsCounter, taken_share}
use Rattle.st_words.specs.Views.{view_after, without_waiter}
use Rattle.st_words.specs.Tidy.{TidyNumbers}
use Rattle.st_words.specs.Careful.{Meaning, Careful, IsAtHome}
use Rattle.st_words.specs.Moves.{MayExport}

-- what is behind the waiter isn't known yet
abbrev pub Leads : View → ℕ → Type 0
Leads u c = (x : Waiter) → Contains u.hand x → x.cell ≡ c → x.leads ≡ true

-- a chain of the turn that was suspended has stopped with a kind, and its Trap word shows another
abbrev pub ShowsOtherKind : View → ℕ → ℕ → ℕ → ℕ → Type 0
ShowsOtherKind u c pc shown kind = (x : Carried) → Contains u.chains x → x.known.note.cell ≡ c → (x.trap ≡ Some (trap_word pc shown)) × (stop_kind x.known.thread.standing ≡ Some kind)

pub record Refused (m : Meaning) : Type 0 where
  -- a waiter that leads a list becomes ready, is linked or is parked before its Next word is read
  pub leader_ready : (u : View) (c : ℕ) → Leads u c → Careful m u (CellStore c words.Standing 3) → ⊥
  pub leader_linked : (u : View) (c n : ℕ) → Leads u c → Careful m u (CellStore c words.Next n) → ⊥
  pub leader_parked : (u : View) (c cell old : ℕ) → TidyNumbers u → u.cells ≤ 65536 → Leads u c → c < 65536 → (IsCounter u cell → ⊥) → Careful m u (CellChange cell old (c + 1)) → ⊥
  pub leader_joined : (u : View) (c cell old count : ℕ) → TidyNumbers u → u.cells ≤ 65536 → Leads u c → c < 65536 → (IsFuture u cell → ⊥) → Careful m u (CellChange cell old (counter_word count (c + 1))) → ⊥
  -- another value is stored, and the future made full with the first
  pub one_value : (u : View) (c n k : ℕ) → Contains (view_after u (CellStore c words.Value k) Done).valued (c, n) → n ≡ k
  pub other_value : (u : View) (t : Known) (rest : List Known) (old k : ℕ) → TidyNumbers u → u.cells ≤ 65536 → u.threads ≡ t ∷ rest → (m.ends t k → ⊥) → (IsCounter u t.note.cell → ⊥) → Careful m (view_after u (CellStore t.note.cell words.Value k) Done) (CellChange t.note.cell old full_word) → ⊥
  -- Standing 0; another Standing word than 3 of a thread that is neither here nor has ended here
  pub no_thread : (u : View) (c : ℕ) → Careful m u (CellStore c words.Standing 0) → ⊥
  pub at_home : (u : View) (c n : ℕ) → IsAtHome u c → (IsChild u c → ⊥) → (Contains u.filled c → ⊥) → n ≢ 3 → Careful m u (CellStore c words.Standing n) → ⊥
  -- a thread that has stopped, with the kind of another trap
  pub other_kind : (u : View) (c pc shown kind : ℕ) → ShowsOtherKind u c pc shown kind → shown < 16 → kind < 16 → shown ≢ kind → Careful m u (CellStore c words.Standing 4) → ⊥
  -- a number is drawn while another waits to be named, or after a child was named
  pub drawn_twice : (u : View) (n : ℕ) (ns : List ℕ) → u.drawn ≡ n ∷ ns → Careful m u Draw → ⊥
  pub child_twice : (u : View) (c : Child) → u.child ≡ Some c → Careful m u Draw → ⊥
  -- a waiter's chain is taken with no unit ahead
  pub none_ahead : (u : View) (c : ℕ) → HasInHand u c → u.share ≤ taken_share u → Careful m u (SlotTake (slots.Cell c)) → ⊥
  -- a chain that doesn't go on is put into mail, or one whose number is in the hand; a chain that goes on is put into its cell's slot
  pub waits_in_mail : (u : View) (at : ℕ) (chain : Chain) (cargo : Cargo) → cargo.carried.standing ≢ Some running → Careful m u (SlotPut (slots.Mail at) chain cargo) → ⊥
  pub hand_in_mail : (u : View) (at : ℕ) (chain : Chain) (cargo : Cargo) → TidyNumbers u → HasInHand u cargo.carried.known.note.cell → Careful m u (SlotPut (slots.Mail at) chain cargo) → ⊥
  pub hidden : (u : View) (c : ℕ) (chain : Chain) (cargo : Cargo) → cargo.carried.wait ≡ waits.Ready → Careful m u (SlotPut (slots.Cell c) chain cargo) → ⊥
  -- a cell is named for another item than the top thread's next, or with no thread
  pub other_owner : (u : View) (t : Known) (rest : List Known) (c n : ℕ) → u.threads ≡ t ∷ rest → n ≢ thread_owner t.note.cell t.note.forks → n ≢ counter_owner t.note.cell t.note.counters → Careful m u (CellStore c words.Owner n) → ⊥
  pub no_owner : (u : View) (c n : ℕ) → u.threads ≡ [] → Careful m u (CellStore c words.Owner n) → ⊥
  -- the last unit goes while a number is in the hand
  pub last_unit : (u : View) → u.share ≤ 1 → u.hand ≢ [] → Careful m u (ActiveAdd false) → ⊥
  pub last_unit_ready : (u : View) (c : ℕ) → u.share ≤ 1 → without_waiter c u.hand ≢ [] → Careful m u (CellStore c words.Standing 3) → ⊥
  -- an empty frame is exported
  pub empty_frame : (u : View) (f : Frame) → place_of f.base ≤ place_of f.low → MayExport u f → ⊥
