-- What a worker shows before a step: that it can be asked there and is careful (Safe). Each step that a right worker makes is safe where these laws
-- say so; they stand in the order in which an operation makes its steps, with what the view after has. Whole operations stand in Operations.
use Rattle.std.specs.Prelude.{◌≡◌, ◌≢◌, ◌⊎◌, ℕ, ◌+◌, ◌*◌, ◌-◌, ◌^◌, ◌≤◌, ◌<◌, true, false, List, [], ◌∷◌, ◌++◌, Option, Some, None}
use Rattle.std.specs.List.{Contains}
use Rattle.st_base.specs.declared.chain.Chain.{Chain}
use Rattle.st_base.specs.declared.chain.Frame.{Frame}
use Rattle.st_base.specs.declared.chain.Waiting.{Waiting}
use Rattle.st_base.specs.declared.chain.Waiting.TheVariants as waits
use Rattle.st_base.specs.declared.thread.Held.{Held}
use Rattle.st_base.specs.declared.thread.Held.TheVariants as held
use Rattle.st_words.specs.declared.view.CellWord.TheVariants as words
use Rattle.st_words.specs.declared.view.Slot.TheVariants as slots
use Rattle.st_words.specs.declared.view.Known.{Known}
use Rattle.st_words.specs.declared.view.Carried.{Carried}
use Rattle.st_words.specs.declared.view.Cargo.{Cargo}
use Rattle.st_words.specs.declared.view.Waiter.{Waiter}
use Rattle.st_words.specs.declared.view.Answering.{Answering}
use Rattle.st_words.specs.declared.view.View.{View}
use Rattle.st_words.specs.Encodings.{thread_owner, counter_owner, counter_word, count_in, head_in, count_after, full_word, running, waits_word, ready, asking, cell_code}
use Rattle.st_words.specs.Steps.{Step, CellLoad, CellStore, CellChange, Draw, ActiveAdd, StopSet, RequestLoad, RequestChange, MailLoad, MailStore, OutStore, SlotTake, SlotPut, Done, Number, Took, Can, HasThread, HasChain, HasInHand, IsChild, IsFuture, IsCounter, IsWaiting, taken_share}
use Rattle.st_words.specs.Views.{view_after, kind_seen, kind_of, with_state_by, followed, common_wait, seen_waiting, without_waiter}
use Rattle.st_words.specs.Promises.{Promises, IsActive, IsGoingOn}
use Rattle.st_words.specs.Laws.{HasFrames, cargo_of, putting, taking, TakesForFuture, TakesForCounter}
use Rattle.st_words.specs.Tidy.{TidyNames}
use Rattle.st_words.specs.Careful.{Meaning, Careful, IsOver, IsAtHome, InHand, CanSpare, ShowsPlace, standing_of}
use Rattle.st_words.specs.Moves.{MayBegin}

pub record Safe (m : Meaning) (u : View) (s : Step) : Type 0 where
  pub can : Can u s
  pub careful : Careful m u s

-- the waiter that comes into the hand
abbrev pub waiter_in : ℕ → Waiting → Waiter
waiter_in c wait = record { cell = c; wait = Some wait; next = None; leads = false }

-- of two views only what was seen differs
abbrev pub SeesMore : View → View → Type 0
SeesMore u v = (v.hand ≡ u.hand) × (v.chains ≡ u.chains) × (v.share ≡ u.share) × (v.threads ≡ u.threads) × (v.cells ≡ u.cells)

-- A thread comes onto a worker: a child is forked, a chain is taken; a counter is made.
pub record StartingLaws (m : Meaning) : Type 0 where
  pub draw_safe : (u : View) (t : Known) (rest : List Known) → u.drawn ≡ [] → u.child ≡ None → u.threads ≡ t ∷ rest → m.forks t ⊎ m.counts t → Safe m u Draw
  pub child_safe : (u : View) (c : ℕ) (t : Known) (rest : List Known) → c < u.cells → u.drawn ≡ c ∷ [] → u.child ≡ None → u.threads ≡ t ∷ rest → m.forks t → t.note.cell < u.cells → t.note.forks < 2 ^ 32 → Safe m u (CellStore c words.Owner (thread_owner t.note.cell t.note.forks))
  pub counter_safe : (u : View) (c : ℕ) (t : Known) (rest : List Known) → c < u.cells → u.drawn ≡ c ∷ [] → u.threads ≡ t ∷ rest → m.counts t → t.note.cell < u.cells → t.note.counters < 2 ^ 32 → Safe m u (CellStore c words.Owner (counter_owner t.note.cell t.note.counters))
  pub child_runs : (u : View) (c : ℕ) → c < u.cells → IsChild u c → Safe m u (CellStore c words.Standing 1)
  pub root_safe : (u : View) → 0 < u.cells → u.root ≡ true → u.hand ≡ [] → u.share + 1 < 2 ^ 32 → Safe m u (SlotTake (slots.Cell 0))
  pub ready_safe : (u : View) (c : ℕ) → c < u.cells → Contains u.ready c → (HasInHand u c → ⊥) → u.share + 1 < 2 ^ 32 → Safe m u (SlotTake (slots.Cell c))
  pub mail_safe : (u : View) → u.number < u.workers → u.given ≡ true → u.share + 1 < 2 ^ 32 → Safe m u (SlotTake (slots.Mail u.number))
  pub value_load : (u : View) (c : ℕ) → c < u.cells → Safe m u (CellLoad c words.Value)
  -- what the view after has
  pub drawn_after : (u : View) (n : ℕ) → u.drawn ≡ [] → (view_after u Draw (Number n)).drawn ≡ n ∷ []
  pub child_after : (u : View) (c : ℕ) (t : Known) → u.drawn ≡ c ∷ [] → ((view_after u (CellStore c words.Owner (thread_owner t.note.cell t.note.forks)) Done).child ≡ Some (record { cell = c; stands = false })) × ((view_after u (CellStore c words.Owner (thread_owner t.note.cell t.note.forks)) Done).drawn ≡ [])
  pub named_after : (u : View) (c : ℕ) (t : Known) (rest : List Known) → u.threads ≡ t ∷ rest → Contains (view_after u (CellStore c words.Owner (thread_owner t.note.cell t.note.forks)) Done).names (held.Future (t.path ++ t.note.forks ∷ []), c)
  pub counter_after : (u : View) (c : ℕ) (t : Known) (rest : List Known) → u.drawn ≡ c ∷ [] → u.threads ≡ t ∷ rest → let v = view_after u (CellStore c words.Owner (counter_owner t.note.cell t.note.counters)) Done in (v.child ≡ u.child) × (v.drawn ≡ []) × Contains v.names (held.Counter t.path t.note.counters, c)
  pub may_begin : (u : View) (child : Known) → u.child ≡ Some (record { cell = child.note.cell; stands = false }) → u.drawn ≡ [] → let v = view_after u (CellStore child.note.cell words.Standing 1) Done in MayBegin v child
  pub active_taken : (u : View) (c : ℕ) (chain : Chain) (cargo : Cargo) → Promises u (SlotTake (slots.Cell c)) (Took (Some chain) cargo) → IsActive u (slots.Cell c) → let v = taking u (slots.Cell c) chain cargo in Contains v.chains cargo.carried × (cargo.carried.standing ≡ Some ready) × (v.share ≡ u.share + 1) × (v.threads ≡ u.threads) × (cargo.carried.known.note.cell ≡ c)
  pub mail_taken : (u : View) (at : ℕ) (chain : Chain) (cargo : Cargo) → Promises u (SlotTake (slots.Mail at)) (Took (Some chain) cargo) → let v = taking u (slots.Mail at) chain cargo in Contains v.chains cargo.carried × (cargo.carried.standing ≡ Some running) × (v.share ≡ u.share + 1) × (v.given ≡ false)
  pub touched_full : (u : View) (x : Carried) (cell n : ℕ) → Promises u (CellLoad cell words.State) (Number n) → Contains u.chains x → IsGoingOn x → x.wait ≡ waits.Touch cell → n ≡ full_word
  pub joined_enough : (u : View) (x : Carried) (cell least n : ℕ) → Promises u (CellLoad cell words.State) (Number n) → Contains u.chains x → IsGoingOn x → x.wait ≡ waits.Join cell least → least ≤ count_in n
  pub named_kind : (u : View) (name : Held) (c : ℕ) → TidyNames u → Contains u.names (name, c) → kind_seen c u ≡ kind_of name
  pub value_seen : (u : View) (c n : ℕ) → Contains u.full c → Contains (view_after u (CellLoad c words.Value) (Number n)).values (c, n)

-- A thread waits or has stopped, and a waiter becomes ready.
pub record WaitingLaws (m : Meaning) : Type 0 where
  pub trap_safe : (u : View) (x : Carried) (n : ℕ) → Contains u.chains x → x.known.note.cell < u.cells → x.standing ≡ None → Safe m u (CellStore x.known.note.cell words.Trap n)
  pub standing_safe : (u : View) (x : Carried) (n : ℕ) → n ≤ 5 → Contains u.chains x → x.known.note.cell < u.cells → x.standing ≡ None → standing_of x.wait ≡ Some n → ShowsPlace m x x.wait → Safe m u (CellStore x.known.note.cell words.Standing n)
  pub put_safe : (u : View) (x : Carried) (chain : Chain) (fs : List Frame) (n : ℕ) → HasFrames u chain x fs → chain.cell < u.cells → m.walks (cargo_of u x fs 0) chain → standing_of x.wait ≡ Some n → x.standing ≡ Some n → ShowsPlace m x x.wait → Safe m u (SlotPut (slots.Cell chain.cell) chain (cargo_of u x fs 0))
  pub link_safe : (u : View) (c n : ℕ) → c < u.cells → n ≤ u.cells → IsAtHome u c → InHand u c (λ x. x.leads ≡ false) → Safe m u (CellStore c words.Next n)
  pub park_safe : (u : View) (cell seen waiter : ℕ) → cell < u.cells → IsFuture u cell → seen ≢ full_word → IsAtHome u waiter → InHand u waiter (λ x. (x.next ≡ Some seen) × (x.wait ≡ Some (waits.Touch cell))) → Safe m u (CellChange cell seen (waiter + 1))
  pub join_safe : (u : View) (cell seen waiter least : ℕ) → cell < u.cells → IsCounter u cell → count_in seen < least → IsAtHome u waiter → InHand u waiter (λ x. (x.next ≡ Some (head_in seen)) × (x.wait ≡ Some (waits.Join cell least))) → Safe m u (CellChange cell seen (counter_word (count_in seen) (waiter + 1)))
  pub ready_safe : (u : View) (c : ℕ) (wait : Waiting) → c < u.cells → InHand u c (λ x. (x.leads ≡ false) × (x.wait ≡ Some wait)) → IsOver u wait → IsAtHome u c → taken_share u < u.share → CanSpare u (without_waiter c u.hand) → Safe m u (CellStore c words.Standing 3)
  pub by_hand_safe : (u : View) (c : ℕ) → c < u.cells → HasInHand u c → IsAtHome u c → taken_share u < u.share → u.share + 1 < 2 ^ 32 → Safe m u (SlotTake (slots.Cell c))
  pub run_safe : (u : View) (x : Carried) → Contains u.chains x → x.known.note.cell < u.cells → IsGoingOn x → Safe m u (CellStore x.known.note.cell words.Standing 1)
  pub up_safe : (u : View) → 1 ≤ u.share → u.share + 1 < 2 ^ 32 → Safe m u (ActiveAdd true)
  pub down_safe : (u : View) → taken_share u < u.share → CanSpare u u.hand → Safe m u (ActiveAdd false)
  -- what the view after has
  pub put_hand : (u : View) (c : ℕ) (chain : Chain) (cargo : Cargo) → IsWaiting chain.wait → u.hand ≡ [] → (putting u (slots.Cell c) chain cargo).hand ≡ waiter_in c chain.wait ∷ []
  pub put_home : (u : View) (chain : Chain) (cargo : Cargo) → IsAtHome (putting u (slots.Cell chain.cell) chain cargo) chain.cell
  pub put_share : (u : View) (c : ℕ) (chain : Chain) (cargo : Cargo) → cargo.unit ≡ 0 → (putting u (slots.Cell c) chain cargo).share ≡ u.share
  pub parked_hand : (u : View) (cell seen waiter : ℕ) (x : Waiter) → TakesForFuture u cell → waiter + 1 ≢ full_word → u.hand ≡ x ∷ [] → x.cell ≡ waiter → (view_after u (CellChange cell seen (waiter + 1)) (Number seen)).hand ≡ []
  pub joined_hand : (u : View) (cell seen waiter : ℕ) (x : Waiter) → TakesForCounter u cell → waiter + 1 < 2 ^ 17 → u.hand ≡ x ∷ [] → x.cell ≡ waiter → (view_after u (CellChange cell seen (counter_word (count_in seen) (waiter + 1))) (Number seen)).hand ≡ []
  pub again_more : (u : View) (cell seen new n : ℕ) → n ≢ seen → SeesMore u (view_after u (CellChange cell seen new) (Number n))
  pub seen_full : (u : View) (cell n : ℕ) → kind_seen cell u ≡ Some false → n ≡ full_word → IsOver (with_state_by (kind_seen cell u) cell n u) (waits.Touch cell)
  pub seen_count : (u : View) (cell n least : ℕ) → kind_seen cell u ≡ Some true → least ≤ count_in n → IsOver (with_state_by (kind_seen cell u) cell n u) (waits.Join cell least)

-- A thread ends, a counter grows, a byte is printed; a waiter that leads is seen.
pub record EndingLaws (m : Meaning) : Type 0 where
  pub value_safe : (u : View) (t : Known) (rest : List Known) (n : ℕ) → t.note.cell < u.cells → u.threads ≡ t ∷ rest → m.ends t n → (Contains u.full t.note.cell → ⊥) → Safe m u (CellStore t.note.cell words.Value n)
  pub fill_safe : (u : View) (t : Known) (rest : List Known) (seen n : ℕ) → t.note.cell < u.cells → u.threads ≡ t ∷ rest → m.ends t n → Contains u.valued (t.note.cell, n) → seen ≢ full_word → Safe m u (CellChange t.note.cell seen full_word)
  pub ended_safe : (u : View) (c : ℕ) → c < u.cells → Contains u.filled c → Safe m u (CellStore c words.Standing 5)
  pub done_safe : (u : View) (c seen : ℕ) → c < u.cells → IsCounter u c → Safe m u (CellChange c seen (counter_word (count_after (count_in seen)) 0))
  pub out_safe : (u : View) (i forks byte : ℕ) → i < 1048576 → HasThread u 0 → byte < 256 → Safe m u (OutStore i (forks * 2 ^ 9 + 256 + byte))
  -- what the view after has
  pub value_stored : (u : View) (c n : ℕ) → Contains (view_after u (CellStore c words.Value n) Done).valued (c, n)
  pub fill_hand : (u : View) (c seen : ℕ) → TakesForFuture u c → let v = view_after u (CellChange c seen full_word) (Number seen) in Contains v.filled c × IsOver v (waits.Touch c) × (v.hand ≡ followed (Some (waits.Touch c)) seen u.hand) × (v.share ≡ u.share)
  pub next_hand : (u : View) (c n : ℕ) (x : Waiter) → u.hand ≡ x ∷ [] → x.cell ≡ c → x.leads ≡ true → (view_after u (CellLoad c words.Next) (Number n)).hand ≡ record x { leads = false } ∷ followed (common_wait x.wait) n []
  pub next_few : (u : View) (c n : ℕ) (x : Waiter) → Promises u (CellLoad c words.Next) (Number n) → Contains u.hand x → x.cell ≡ c → x.leads ≡ true → n ≤ u.cells
  pub hand_taken : (u : View) (c : ℕ) (chain : Chain) (cargo : Cargo) (x : Waiter) (xs : List Waiter) → Promises u (SlotTake (slots.Cell c)) (Took (Some chain) cargo) → u.hand ≡ x ∷ xs → x.cell ≡ c → let v = taking u (slots.Cell c) chain cargo in Contains v.chains cargo.carried × IsWaiting cargo.carried.wait × (cargo.carried.standing ≡ Some waits_word) × (v.share ≡ u.share) × (v.threads ≡ u.threads) × (v.hand ≡ record x { wait = Some cargo.carried.wait } ∷ seen_waiting c cargo.carried.wait xs)
  pub back_hand : (u : View) (c : ℕ) (chain : Chain) (cargo : Cargo) → HasInHand u c → (putting u (slots.Cell c) chain cargo).hand ≡ u.hand
  pub ready_hand : (u : View) (c : ℕ) (x : Waiter) (xs : List Waiter) → u.hand ≡ x ∷ xs → x.cell ≡ c → let v = view_after u (CellStore c words.Standing 3) Done in (v.hand ≡ without_waiter c xs) × Contains v.ready c × (v.share ≡ u.share - 1) × (v.threads ≡ u.threads)

-- A worker asks another for a thread, and is asked; a limit is met.
pub record AskingLaws (m : Meaning) : Type 0 where
  pub set_safe : (u : View) (n : ℕ) → u.number < u.workers → u.asked ≡ None → u.given ≡ false → n ≤ 1 → Safe m u (MailStore u.number n)
  pub ask_safe : (u : View) (at : ℕ) → at < u.workers → at ≢ u.number → u.asked ≡ None → u.mail ≤ 1 → u.given ≡ false → Safe m u (RequestChange at 0 (u.number + 1))
  pub withdraw_safe : (u : View) (at : ℕ) → at < u.workers → u.asked ≡ Some at → Safe m u (RequestChange at (u.number + 1) 0)
  pub begin_safe : (u : View) (asker : ℕ) → u.number < u.workers → u.answering ≡ None → asker < u.workers → asker ≢ u.number → Safe m u (RequestChange u.number (asker + 1) 32)
  pub give_safe : (u : View) (x : Carried) (chain : Chain) (fs : List Frame) (a : Answering) → HasFrames u chain x fs → m.walks (cargo_of u x fs 1) chain → x.standing ≡ Some running → CanSpare u u.hand → 1 ≤ u.share → u.answering ≡ Some a → a.asker < u.workers → a.asker ≢ u.number → a.put ≡ false → a.told ≡ false → Safe m u (SlotPut (slots.Mail a.asker) chain (cargo_of u x fs 1))
  pub tell_given_safe : (u : View) (a : Answering) → a.asker < u.workers → u.answering ≡ Some a → a.told ≡ false → a.put ≡ true → Safe m u (MailStore a.asker 2)
  pub tell_refused_safe : (u : View) (a : Answering) → a.asker < u.workers → u.answering ≡ Some a → a.told ≡ false → a.put ≡ false → Safe m u (MailStore a.asker 3)
  pub clear_safe : (u : View) (a : Answering) → u.number < u.workers → u.answering ≡ Some a → a.told ≡ true → Safe m u (RequestChange u.number 32 0)
  pub stop_safe : (u : View) (code : ℕ) → Can u (StopSet code) → m.meets u code → Safe m u (StopSet code)
  pub cells_safe : (u : View) (n : ℕ) → u.drawn ≡ n ∷ [] → u.cells ≤ n → Safe m u (StopSet (cell_code u.number))
  -- what the view after has
  pub asked_by : (u : View) (n : ℕ) → Promises u (RequestLoad u.number) (Number n) → u.answering ≡ None → (n ≡ 0) ⊎ ((asker : ℕ) × (asker < u.workers) × (asker ≢ u.number) × (n ≡ asking asker))
  pub asked_after : (u : View) (at : ℕ) → at ≢ u.number → (view_after u (RequestChange at 0 (u.number + 1)) (Number 0)).asked ≡ Some at
  pub withdrawn_after : (u : View) (at : ℕ) → at ≢ u.number → (view_after u (RequestChange at (u.number + 1) 0) (Number (u.number + 1))).asked ≡ None
  pub begun_after : (u : View) (asker : ℕ) → (view_after u (RequestChange u.number (asker + 1) 32) (Number (asker + 1))).answering ≡ Some (record { asker = asker; put = false; told = false })
  pub put_after : (u : View) (at : ℕ) (chain : Chain) (cargo : Cargo) (a : Answering) → u.answering ≡ Some a → (putting u (slots.Mail at) chain cargo).answering ≡ Some (record a { put = true })
  pub told_after : (u : View) (n : ℕ) (a : Answering) → u.answering ≡ Some a → a.asker ≢ u.number → (view_after u (MailStore a.asker n) Done).answering ≡ Some (record a { told = true })
  pub cleared_after : (u : View) → (view_after u (RequestChange u.number 32 0) (Number 32)).answering ≡ None
  pub given_after : (u : View) (at : ℕ) → u.asked ≡ Some at → let v = view_after u MailLoad (Number 2) in (v.given ≡ true) × (v.asked ≡ None)
  pub refused_after : (u : View) (at : ℕ) → u.asked ≡ Some at → let v = view_after u MailLoad (Number 3) in (v.given ≡ false) × (v.asked ≡ None)
