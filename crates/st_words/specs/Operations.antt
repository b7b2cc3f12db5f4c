-- Whole operations of a right worker, step by step: for each one the views behind its steps, what is so before it, and that each of its steps is
-- safe (Safe). Read the last record of a part. What its board promises and what its program's laws tell stands among the premises. A worker names
-- these views, and shows with these laws that each step may be made.
use Rattle.std.specs.Prelude.{◌≡◌, ◌≢◌, ◌⊎◌, ℕ, ◌+◌, ◌^◌, ◌≤◌, ◌<◌, true, false, List, [], ◌∷◌, Option, Some, None}
use Rattle.std.specs.List.{Contains}
use Rattle.st_base.specs.declared.chain.Chain.{Chain}
use Rattle.st_base.specs.declared.chain.Frame.{Frame}
use Rattle.st_base.specs.declared.chain.Waiting.{Waiting}
use Rattle.st_base.specs.declared.chain.Waiting.TheVariants as waits
use Rattle.st_base.specs.declared.thread.Held.TheVariants as held
use Rattle.st_words.specs.declared.view.CellWord.TheVariants as words
use Rattle.st_words.specs.declared.view.Slot.TheVariants as slots
use Rattle.st_words.specs.declared.view.Known.{Known}
use Rattle.st_words.specs.declared.view.Carried.{Carried}
use Rattle.st_words.specs.declared.view.Cargo.{Cargo}
use Rattle.st_words.specs.declared.view.Waiter.{Waiter}
use Rattle.st_words.specs.declared.view.Answering.{Answering}
use Rattle.st_words.specs.declared.view.View.{View}
use Rattle.st_words.specs.Encodings.{full_word, is_counter, thread_owner, running, trap_word, stop_kind}
use Rattle.st_words.specs.Steps.{CellLoad, CellStore, CellChange, Draw, ActiveAdd, RootTake, RequestChange, MailLoad, MailStore, SlotTake, SlotPut, Done, Number, Took, taken_share, some_thread}
use Rattle.st_words.specs.Views.{view_after, kind_seen, followed, common_wait, seen_waiting, without_waiter}
use Rattle.st_words.specs.Promises.{Promises}
use Rattle.st_words.specs.Laws.{HasFrames, cargo_of, putting, taking, named, TakesForFuture}
use Rattle.st_words.specs.Tidy.{TidyNumbers, TidyNames}
use Rattle.st_words.specs.Careful.{Meaning, IsAtHome, ShowsPlace}
use Rattle.st_words.specs.Moves.{suspended, suspending, given_chain, giving, MayGive, MayBegin, MayRestart}
use Rattle.st_words.specs.Safely.{Safe}

-- ---- the root is begun: Root, its slot, Standing; then it is restarted

abbrev pub root_seen : View → View
root_seen u = view_after u RootTake (Number 1)

abbrev pub root_taken : View → Chain → Cargo → View
root_taken u chain cargo = taking (root_seen u) (slots.Cell 0) chain cargo

abbrev pub root_begun : View → Chain → Cargo → View
root_begun u chain cargo = view_after (root_taken u chain cargo) (CellStore 0 words.Standing 1) Done

pub record IsIdle (u : View) : Type 0 where
  pub none : u.threads ≡ []
  pub empty : u.hand ≡ []
  pub some : 0 < u.cells
  pub few : u.share + 1 < 2 ^ 32

pub record RootSteps (m : Meaning) (u : View) (chain : Chain) (cargo : Cargo) : Type 0 where
  pub finds : Safe m u RootTake
  pub takes : Safe m (root_seen u) (SlotTake (slots.Cell 0))
  pub stands : Promises (root_seen u) (SlotTake (slots.Cell 0)) (Took (Some chain) cargo) → Safe m (root_taken u chain cargo) (CellStore cargo.carried.known.note.cell words.Standing 1)
  pub restarts : Promises (root_seen u) (SlotTake (slots.Cell 0)) (Took (Some chain) cargo) → MayRestart (root_begun u chain cargo) (record cargo.carried { standing = Some 1 })

-- ---- a chain was given: the own mail word, the mail slot, the mail word again; the chain goes on

abbrev pub mail_heard : View → View
mail_heard u = view_after u MailLoad (Number 2)

abbrev pub mail_in : View → Chain → Cargo → View
mail_in u chain cargo = taking (mail_heard u) (slots.Mail u.number) chain cargo

pub record Hears (u : View) (at : ℕ) : Type 0 where
  pub asked : u.asked ≡ Some at
  pub below : u.number < u.workers
  pub few : u.share + 1 < 2 ^ 32

pub record MailSteps (m : Meaning) (u : View) (chain : Chain) (cargo : Cargo) : Type 0 where
  pub hears : Safe m u MailLoad
  pub takes : Safe m (mail_heard u) (SlotTake (slots.Mail u.number))
  pub clears : Promises (mail_heard u) (SlotTake (slots.Mail u.number)) (Took (Some chain) cargo) → Safe m (mail_in u chain cargo) (MailStore (mail_in u chain cargo).number 0)
  pub goes_on : Promises (mail_heard u) (SlotTake (slots.Mail u.number)) (Took (Some chain) cargo) → Contains (mail_in u chain cargo).chains cargo.carried × (cargo.carried.standing ≡ Some running)

-- ---- a chain whose touch is over is restarted: State, Value

abbrev pub touch_state : View → ℕ → ℕ → View
touch_state u cell n = view_after u (CellLoad cell words.State) (Number n)

abbrev pub touch_value : View → ℕ → ℕ → ℕ → View
touch_value u cell n v = view_after (touch_state u cell n) (CellLoad cell words.Value) (Number v)

pub record Touched (u : View) (x : Carried) (cell : ℕ) (q : List ℕ) : Type 0 where
  pub at : Contains u.chains x
  pub stands : x.standing ≡ Some running
  pub wait : x.wait ≡ waits.Touch cell
  -- the thread's a6 names the cell
  pub name : Contains u.names (held.Future q, cell)
  pub tidy : TidyNames u
  pub none : u.threads ≡ []

pub record TouchSteps (m : Meaning) (u : View) (x : Carried) (cell n v : ℕ) : Type 0 where
  pub reads_state : Safe m u (CellLoad cell words.State)
  pub reads_value : Safe m (touch_state u cell n) (CellLoad cell words.Value)
  pub restarts : Promises u (CellLoad cell words.State) (Number n) → MayRestart (touch_value u cell n v) x

-- ---- a fork: Draw, Owner, Standing; then the child is begun

abbrev pub fork_drawn : View → ℕ → View
fork_drawn u c = view_after u Draw (Number c)

abbrev pub fork_named : View → Known → ℕ → View
fork_named u t c = view_after (fork_drawn u c) (CellStore c words.Owner (thread_owner t.note.cell t.note.forks)) Done

abbrev pub fork_stands : View → Known → ℕ → View
fork_stands u t c = view_after (fork_named u t c) (CellStore c words.Standing 1) Done

pub record AtFork (m : Meaning) (u : View) (t : Known) (rest : List Known) (c : ℕ) : Type 0 where
  pub is : u.threads ≡ t ∷ rest
  pub none : u.drawn ≡ []
  pub no_child : u.child ≡ None
  pub forks : m.forks t
  pub parent : t.note.cell < u.cells
  pub number : t.note.forks < 2 ^ 32
  -- the answer of the draw is below the number of cells
  pub below : c < u.cells

pub record ForkSteps (m : Meaning) (u : View) (t : Known) (c : ℕ) : Type 0 where
  pub draws : Safe m u Draw
  pub names : Safe m (fork_drawn u c) (CellStore c words.Owner (thread_owner t.note.cell t.note.forks))
  pub runs : Safe m (fork_named u t c) (CellStore c words.Standing 1)
  pub begins : (child : Known) → child.note.cell ≡ c → MayBegin (fork_stands u t c) child

-- ---- a touch of a future that isn't full waits: the thread is suspended, Trap, Standing, its slot, Next, and it is parked; where the future is full
-- meanwhile it becomes ready

module _ (u : View) (t : Known) (rest : List Known) (cell pc seen : ℕ) (chain : Chain) (fs : List Frame) where
  abbrev pub wait_suspended : View
  wait_suspended = suspending t rest (waits.Touch cell) u

  abbrev pub wait_trap : View
  wait_trap = view_after wait_suspended (CellStore t.note.cell words.Trap (trap_word pc 0)) Done

  abbrev pub wait_standing : View
  wait_standing = view_after wait_trap (CellStore t.note.cell words.Standing 2) Done

  abbrev pub wait_chain : Carried
  wait_chain = record { known = t; wait = waits.Touch cell; trap = Some (trap_word pc 0); standing = Some 2 }

  abbrev pub wait_cargo : Cargo
  wait_cargo = cargo_of wait_standing wait_chain fs 0

  abbrev pub wait_put : View
  wait_put = putting wait_standing (slots.Cell chain.cell) chain wait_cargo

  abbrev pub wait_linked : View
  wait_linked = view_after wait_put (CellStore chain.cell words.Next seen) Done

  abbrev pub wait_parked : View
  wait_parked = view_after wait_linked (CellChange cell seen (chain.cell + 1)) (Number seen)

  abbrev pub wait_again : View
  wait_again = view_after wait_linked (CellChange cell seen (chain.cell + 1)) (Number full_word)

  -- what is so when the touch has read Owner and State
  pub record Waits (m : Meaning) (owner : ℕ) : Type 0 where
    pub is : u.threads ≡ t ∷ rest
    pub empty : u.hand ≡ []
    pub below : t.note.cell < u.cells
    pub cell_below : cell < u.cells
    pub owned : Contains u.owners (cell, owner)
    pub future : is_counter owner ≡ false
    pub takes : TakesForFuture u cell
    pub kind : kind_seen cell u ≡ Some false
    pub no_chains : u.chains ≡ []
    -- where a thread lies below a unit was added ahead
    pub covers : some_thread rest + 1 ≤ u.share
    pub at : m.at t pc
    pub other : seen ≢ full_word
    pub few : seen ≤ u.cells
    pub no_more : u.cells ≤ 65536

  -- what the walk gives, of the view behind the Standing word
  pub record Walked (m : Meaning) : Type 0 where
    pub has : HasFrames wait_standing chain wait_chain fs
    pub walks : m.walks wait_cargo chain

  pub record WaitSteps (m : Meaning) : Type 0 where
    pub traps : Safe m wait_suspended (CellStore t.note.cell words.Trap (trap_word pc 0))
    pub stands : Safe m wait_trap (CellStore t.note.cell words.Standing 2)
    pub puts : Safe m wait_standing (SlotPut (slots.Cell chain.cell) chain wait_cargo)
    pub links : Safe m wait_put (CellStore chain.cell words.Next seen)
    pub parks : Safe m wait_linked (CellChange cell seen (chain.cell + 1))
    -- parked
    pub empty : wait_parked.hand ≡ []
    pub lowers : taken_share wait_parked < wait_parked.share → Safe m wait_parked (ActiveAdd false)
    -- found full
    pub readies : Safe m wait_again (CellStore chain.cell words.Standing 3)

-- ---- a thread that has stopped is put away: Trap, Standing, its slot

module _ (u : View) (t : Known) (rest : List Known) (pc kind : ℕ) (chain : Chain) (fs : List Frame) where
  abbrev pub stop_suspended : View
  stop_suspended = suspending t rest waits.Trapped u

  abbrev pub stop_trap : View
  stop_trap = view_after stop_suspended (CellStore t.note.cell words.Trap (trap_word pc kind)) Done

  abbrev pub stop_standing : View
  stop_standing = view_after stop_trap (CellStore t.note.cell words.Standing 4) Done

  abbrev pub stop_chain : Carried
  stop_chain = record { known = t; wait = waits.Trapped; trap = Some (trap_word pc kind); standing = Some 4 }

  abbrev pub stop_cargo : Cargo
  stop_cargo = cargo_of stop_standing stop_chain fs 0

  abbrev pub stop_put : View
  stop_put = putting stop_standing (slots.Cell chain.cell) chain stop_cargo

  pub record HasStopped (m : Meaning) : Type 0 where
    pub empty : u.hand ≡ []
    pub below : t.note.cell < u.cells
    pub at : m.at t pc
    pub stops : stop_kind t.thread.standing ≡ Some kind
    pub has : HasFrames stop_standing chain stop_chain fs
    pub walks : m.walks stop_cargo chain

  pub record StopSteps (m : Meaning) : Type 0 where
    pub traps : Safe m stop_suspended (CellStore t.note.cell words.Trap (trap_word pc kind))
    pub stands : Safe m stop_trap (CellStore t.note.cell words.Standing 4)
    pub puts : Safe m stop_standing (SlotPut (slots.Cell chain.cell) chain stop_cargo)
    -- its number is in no hand, so the unit of a last thread can be taken
    pub lowers : taken_share stop_put < stop_put.share → Safe m stop_put (ActiveAdd false)

-- ---- a thread ends: Value, State, Standing. Its waiters come into the hand

module _ (u : View) (t : Known) (rest : List Known) (n seen : ℕ) where
  abbrev pub end_valued : View
  end_valued = view_after u (CellStore t.note.cell words.Value n) Done

  -- the item goes with the fill: the thread is gone
  abbrev pub end_filled : View
  end_filled = named (record { threads = rest; items = u.items; frame_bytes = u.frame_bytes }) end_valued (CellChange t.note.cell seen full_word) (Number seen)

  pub record AtEnd (m : Meaning) : Type 0 where
    pub is : u.threads ≡ t ∷ rest
    pub ends : m.ends t n
    pub below : t.note.cell < u.cells
    pub takes : TakesForFuture u t.note.cell
    -- the State word that was read isn't full
    pub other : seen ≢ full_word
    pub tidy : TidyNumbers u

  pub record EndSteps (m : Meaning) : Type 0 where
    pub values : Safe m u (CellStore t.note.cell words.Value n)
    pub fills : Safe m end_valued (CellChange t.note.cell seen full_word)
    pub stands : Safe m end_filled (CellStore t.note.cell words.Standing 5)
    -- each waits for this future
    pub hands_out : end_filled.hand ≡ followed (Some (waits.Touch t.note.cell)) seen u.hand

-- ---- a waiter of a future was handed out: Next, a unit ahead, Standing

module _ (u : View) (x : Waiter) (cell n k : ℕ) where
  abbrev pub wake_next : View
  wake_next = view_after u (CellLoad x.cell words.Next) (Number n)

  abbrev pub wake_added : View
  wake_added = view_after wake_next (ActiveAdd true) (Number k)

  abbrev pub wake_ready : View
  wake_ready = view_after wake_added (CellStore x.cell words.Standing 3) Done

  pub record HandedOut : Type 0 where
    pub hand : u.hand ≡ x ∷ []
    pub leads : x.leads ≡ true
    pub wait : x.wait ≡ Some (waits.Touch cell)
    pub full : Contains u.full cell
    pub no_chains : u.chains ≡ []
    pub below : x.cell < u.cells
    pub share : 1 ≤ u.share
    pub covers : taken_share u ≤ u.share
    pub few : u.share + 1 < 2 ^ 32

  pub record WakeSteps (m : Meaning) : Type 0 where
    pub reads_next : Safe m u (CellLoad x.cell words.Next)
    pub adds : Safe m wake_next (ActiveAdd true)
    pub readies : Safe m wake_added (CellStore x.cell words.Standing 3)
    -- what is behind it leads then, and the share is as it was
    pub goes_on : (wake_ready.hand ≡ without_waiter x.cell (followed (common_wait x.wait) n [])) × Contains wake_ready.ready x.cell × (wake_ready.share ≡ u.share) × (wake_ready.threads ≡ u.threads)

-- ---- a waiter of a counter was handed out, what is behind it was read, and a unit was added ahead: its chain is taken by hand, seen and put back

module _ (u : View) (x : Waiter) (xs : List Waiter) (chain : Chain) (cargo : Cargo) where
  abbrev pub hand_in : View
  hand_in = taking u (slots.Cell x.cell) chain cargo

  abbrev pub hand_cargo : Cargo
  hand_cargo = cargo_of hand_in cargo.carried cargo.frames 0

  abbrev pub hand_back : View
  hand_back = putting hand_in (slots.Cell chain.cell) chain hand_cargo

  pub record ByHand : Type 0 where
    pub hand : u.hand ≡ x ∷ xs
    pub no_chains : u.chains ≡ []
    pub below : x.cell < u.cells
    pub covers : taken_share u < u.share
    pub few : u.share + 1 < 2 ^ 32

  -- what its board tells: promise and law
  pub record ToldByHand (m : Meaning) : Type 0 where
    pub told : Promises u (SlotTake (slots.Cell x.cell)) (Took (Some chain) cargo)
    pub place : ShowsPlace m cargo.carried cargo.carried.wait

  pub record ByHandSteps (m : Meaning) : Type 0 where
    pub takes : Safe m u (SlotTake (slots.Cell x.cell))
    -- it is put back as it came, with the frames that came
    pub puts_back : ToldByHand m → HasFrames hand_in chain cargo.carried cargo.frames → m.walks hand_cargo chain → Safe m hand_in (SlotPut (slots.Cell chain.cell) chain hand_cargo)
    -- it is known what it waits for, and it is at home
    pub seen : ToldByHand m → (hand_back.hand ≡ record x { wait = Some cargo.carried.wait } ∷ seen_waiting x.cell cargo.carried.wait xs) × IsAtHome hand_back chain.cell × (hand_back.share ≡ u.share) × (hand_back.threads ≡ u.threads)

-- ---- the bottom thread is given, where its worker has begun to answer: the asker's slot, its mail word, the own request word

module _ (u : View) (t : Known) (above : List Known) (chain : Chain) (fs : List Frame) (a : Answering) where
  abbrev pub give_out : View
  give_out = giving t above u

  abbrev pub give_cargo : Cargo
  give_cargo = cargo_of give_out (given_chain t) fs 1

  abbrev pub give_sent : View
  give_sent = putting give_out (slots.Mail a.asker) chain give_cargo

  abbrev pub give_told : View
  give_told = view_after give_sent (MailStore a.asker 2) Done

  -- a unit was added ahead
  pub record Giving (m : Meaning) : Type 0 where
    pub may : MayGive u t above
    pub spare : 2 ≤ u.share
    pub answers : u.answering ≡ Some a
    pub below : a.asker < u.workers
    pub other : a.asker ≢ u.number
    pub not_put : a.put ≡ false
    pub not_told : a.told ≡ false
    pub number : u.number < u.workers
    pub has : HasFrames give_out chain (given_chain t) fs
    pub walks : m.walks give_cargo chain

  pub record GiveSteps (m : Meaning) : Type 0 where
    pub puts : Safe m give_out (SlotPut (slots.Mail a.asker) chain give_cargo)
    pub tells : Safe m give_sent (MailStore a.asker 2)
    pub clears : Safe m give_told (RequestChange give_told.number 32 0)

-- ---- a ready chain is given: its slot, Standing, the asker's slot; then as above

module _ (u : View) (c : ℕ) (chain : Chain) (cargo : Cargo) (fs : List Frame) (a : Answering) where
  abbrev pub send_in : View
  send_in = taking u (slots.Cell c) chain cargo

  abbrev pub send_runs : View
  send_runs = view_after send_in (CellStore cargo.carried.known.note.cell words.Standing 1) Done

  abbrev pub send_chain : Carried
  send_chain = record cargo.carried { standing = Some 1 }

  pub record Sends (m : Meaning) : Type 0 where
    pub ready : Contains u.ready c
    pub empty : u.hand ≡ []
    pub below : c < u.cells
    pub few : u.share + 1 < 2 ^ 32
    pub answers : u.answering ≡ Some a
    pub asker : a.asker < u.workers
    pub other : a.asker ≢ u.number
    pub not_put : a.put ≡ false
    pub not_told : a.told ≡ false
    pub told : Promises u (SlotTake (slots.Cell c)) (Took (Some chain) cargo)
    pub has : HasFrames send_runs chain send_chain fs
    pub walks : m.walks (cargo_of send_runs send_chain fs 1) chain

  pub record SendSteps (m : Meaning) : Type 0 where
    pub takes : Safe m u (SlotTake (slots.Cell c))
    pub runs : Safe m send_in (CellStore cargo.carried.known.note.cell words.Standing 1)
    pub puts : Safe m send_runs (SlotPut (slots.Mail a.asker) chain (cargo_of send_runs send_chain fs 1))

-- ---- all of them

pub record OperationLaws (m : Meaning) : Type 0 where
  pub root : (u : View) (chain : Chain) (cargo : Cargo) → IsIdle u → RootSteps m u chain cargo
  pub mail : (u : View) (at : ℕ) (chain : Chain) (cargo : Cargo) → Hears u at → MailSteps m u chain cargo
  pub touch : (u : View) (x : Carried) (cell n v : ℕ) (q : List ℕ) → Touched u x cell q → TouchSteps m u x cell n v
  pub fork : (u : View) (t : Known) (rest : List Known) (c : ℕ) → AtFork m u t rest c → ForkSteps m u t c
  pub wait : (u : View) (t : Known) (rest : List Known) (cell pc seen : ℕ) (chain : Chain) (fs : List Frame) (owner : ℕ) → Waits u t rest cell pc seen chain fs m owner → Walked u t rest cell pc seen chain fs m → WaitSteps u t rest cell pc seen chain fs m
  pub stop : (u : View) (t : Known) (rest : List Known) (pc kind : ℕ) (chain : Chain) (fs : List Frame) → HasStopped u t rest pc kind chain fs m → StopSteps u t rest pc kind chain fs m
  pub end_thread : (u : View) (t : Known) (rest : List Known) (n seen : ℕ) → AtEnd u t rest n seen m → EndSteps u t rest n seen m
  pub wake : (u : View) (x : Waiter) (cell n k : ℕ) → HandedOut u x cell n k → WakeSteps u x cell n k m
  pub by_hand : (u : View) (x : Waiter) (xs : List Waiter) (chain : Chain) (cargo : Cargo) → ByHand u x xs chain cargo → ByHandSteps u x xs chain cargo m
  pub give : (u : View) (t : Known) (above : List Known) (chain : Chain) (fs : List Frame) (a : Answering) → Giving u t above chain fs a m → GiveSteps u t above chain fs a m
  pub send : (u : View) (c : ℕ) (chain : Chain) (cargo : Cargo) (fs : List Frame) (a : Answering) → Sends u c chain cargo fs a m → SendSteps u c chain cargo fs a m
