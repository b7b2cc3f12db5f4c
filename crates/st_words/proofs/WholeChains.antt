-- The whole operations, of which operation_laws is all. Here those on chains of the turn: one whose wait is over is restarted; a thread that has stopped is put away; a ready chain is given to who asks.
use Rattle.std.proofs.Common.{◌≡◌, ◌≢◌, ◌⊎◌, inl, inr, ⊎_elim, ℕ, zero, suc, ◌+◌, ◌*◌, ◌-◌, ◌/◌, ◌%◌, ◌^◌, ◌≤◌, ◌<◌, Bool, true, false, cond, not, ◌&&◌, ◌||◌, ◌==◌, List, [], ◌∷◌, ◌++◌, map, length, Option, Some, None, is_some, refl, sym, ap, ◌∙◌, subst, arith, eq-eqb, ne_eqb}
use Rattle.std.specs.List.{Contains}
use Rattle.st_base.specs.declared.chain.Chain.{Chain}
use Rattle.st_base.specs.declared.chain.Frame.{Frame}
use Rattle.st_base.specs.declared.chain.Waiting.{Waiting}
use Rattle.st_base.specs.declared.chain.Waiting.TheVariants as waits
use Rattle.st_base.specs.declared.thread.Held.TheVariants as held
use Rattle.st_words.specs.declared.view.CellWord.TheVariants as words
use Rattle.st_words.specs.declared.view.Slot.TheVariants as slots
use Rattle.st_words.specs.declared.view.Known.{Known}
use Rattle.st_words.specs.declared.view.Carried.{Carried}
use Rattle.st_words.specs.declared.view.Cargo.{Cargo}
use Rattle.st_words.specs.declared.view.Waiter.{Waiter}
use Rattle.st_words.specs.declared.view.Answering.{Answering}
use Rattle.st_words.specs.declared.view.View.{View}
use Rattle.st_words.specs.Encodings.{full_word, running, given, refused, count_in, trap_word, stop_kind}
use Rattle.st_words.specs.Steps.{CellLoad, CellStore, SlotTake, SlotPut, ActiveAdd, MailLoad, MailStore, Done, Number, Took, taken_share, some_thread}
use Rattle.st_words.specs.Views.{view_after, kind_seen, with_state_by, with_value, has_number, seen_waiting, waiter_of, mail_when}
use Rattle.st_words.specs.Promises.{Promises, IsGoingOn}
use Rattle.st_words.specs.Laws.{HasFrames, cargo_of, putting, taking}
use Rattle.st_words.specs.Tidy.{TidyNames}
use Rattle.st_words.specs.Careful.{Meaning, IsOver, CanSpare}
use Rattle.st_words.specs.Moves.{suspended, suspending, MayRestart, WasSeen}
use Rattle.st_words.proofs.Lists.{contains_here, contains_none}
use Rattle.st_words.specs.Safely.{Safe}
use Rattle.st_words.specs.Operations.{touch_state, touch_value, Touched, TouchSteps, stop_suspended, stop_trap, stop_standing, stop_chain, stop_put, HasStopped, StopSteps, send_in, send_runs, send_chain, Sends, SendSteps, mail_heard, mail_in, Hears, MailSteps, OperationLaws}
use Rattle.st_words.proofs.Safe.{load, mail_load, trap_stored, standing_stored}
use Rattle.st_words.proofs.Starting.{mail_safe, mail_taken, ready_safe, active_taken, touched_full, joined_enough, named_kind, value_seen, value_load, may_restart}
use Rattle.st_words.proofs.Waiting.{run_safe, trap_safe, standing_safe, put_safe, down_safe, seen_full, seen_count, state_more}
use Rattle.st_words.proofs.Asking.{give_safe, set_safe, given_after}
use Rattle.st_words.proofs.Naming.{size_laws}
use Rattle.st_words.proofs.Whole.{wait_steps}
use Rattle.st_words.proofs.WholeMore.{fork_steps, wake_steps, by_hand_steps, give_steps, end_steps, root_steps}

-- ---- a chain whose wait is over is restarted: State, Value

module _ (m : Meaning) (u : View) (x : Carried) (cell n v : ℕ) (q : List ℕ) where
  abbrev state_read : View
  state_read = touch_state u cell n

  abbrev value_read : View
  value_read = touch_value u cell n v

  reads_state : Touched u x cell q → Safe m u (CellLoad cell words.State)
  reads_state t = load m u cell words.State (t.tidy.below (held.Future q) cell t.name)

  is_full : Touched u x cell q → Promises u (CellLoad cell words.State) (Number n) → Contains state_read.full cell
  unfolding view_after
  is_full t told = seen_full u cell n (named_kind u (held.Future q) cell t.tidy t.name) (touched_full u x cell n told t.at (inl t.stands) t.wait)

  reads_value : Touched u x cell q → Safe m state_read (CellLoad cell words.Value)
  unfolding view_after
  reads_value t = value_load m state_read cell (subst (λ (k : ℕ). cell < k) (sym (state_more (kind_seen cell u) cell n u).4) (t.tidy.below (held.Future q) cell t.name))

  -- a Value word that is read adds to the values alone
  value_more : (b : Bool) (s : View) → ((with_value cell v b s).threads ≡ s.threads) × ((with_value cell v b s).chains ≡ s.chains) × ((with_value cell v b s).hand ≡ s.hand)
  value_more true s = (refl, refl, refl)
  value_more false s = (refl, refl, refl)

  abbrev state_now : View
  state_now = with_state_by (kind_seen cell u) cell n u

  restarts : Touched u x cell q → Promises u (CellLoad cell words.State) (Number n) → MayRestart value_read x
  unfolding view_after
  restarts t told =
      let more = state_more (kind_seen cell u) cell n u in
      let same = value_more (has_number state_read.full cell) state_read in
      let threads : value_read.threads ≡ u.threads = same.0 ∙ more.3 in
      let chains : value_read.chains ≡ u.chains = same.1 ∙ more.1 in
      may_restart value_read x (threads ∙ t.none) (subst (λ (xs : List Carried). Contains xs x) (sym chains) t.at) t.stands
      (subst (WasSeen value_read) (sym t.wait) (v, value_seen state_read cell v (is_full t told)))

  pub touch_steps : Touched u x cell q → TouchSteps m u x cell n v
  touch_steps t = record { reads_state = reads_state t; reads_value = reads_value t; restarts = restarts t }

-- ---- a thread that has stopped is put away

module _ (m : Meaning) (u : View) (t : Known) (rest : List Known) (pc kind : ℕ) (chain : Chain) (fs : List Frame) where
  abbrev thread : ℕ
  thread = t.note.cell

  abbrev out0 : View
  out0 = stop_suspended u t rest pc kind chain fs

  abbrev out1 : View
  out1 = stop_trap u t rest pc kind chain fs

  abbrev out2 : View
  out2 = stop_standing u t rest pc kind chain fs

  abbrev stopped : Carried
  stopped = stop_chain u t rest pc kind chain fs

  abbrev out3 : View
  out3 = stop_put u t rest pc kind chain fs

  abbrev trap_set : Carried
  trap_set = record (suspended t waits.Trapped) { trap = Some (trap_word pc kind) }

  trap_word_first : HasStopped u t rest pc kind chain fs m → Safe m out0 (CellStore thread words.Trap (trap_word pc kind))
  trap_word_first s = trap_safe m out0 (suspended t waits.Trapped) (trap_word pc kind) (contains_here (suspended t waits.Trapped) u.chains) s.below refl

  standing_word_then : HasStopped u t rest pc kind chain fs m → Safe m out1 (CellStore thread words.Standing 4)
  unfolding view_after
  standing_word_then s = standing_safe m out1 trap_set 4 (omega arith) (trap_stored out0 thread (trap_word pc kind) (suspended t waits.Trapped) (contains_here (suspended t waits.Trapped) u.chains) refl) s.below refl refl (pc, kind, s.at, s.stops, refl)

  cell_is : HasStopped u t rest pc kind chain fs m → chain.cell ≡ t.note.cell
  cell_is s = sym (ap (λ n. n.cell) s.has.note ∙ s.has.cell)

  puts_away : HasStopped u t rest pc kind chain fs m → Safe m out2 (SlotPut (slots.Cell chain.cell) chain (cargo_of out2 stopped fs 0))
  unfolding view_after
  puts_away s = put_safe m out2 stopped chain fs 4 s.has (subst (λ (c : ℕ). c < u.cells) (sym (cell_is s)) s.below) s.walks refl refl (pc, kind, s.at, s.stops, refl)

  hand_stays : (c : ℕ) (wait : Waiting) → waits.Trapped ≡ wait → (hand : List Waiter) → waiter_of c wait hand ≡ hand
  hand_stays c wait e hand = subst (λ (k : Waiting). waiter_of c k hand ≡ hand) e refl

  -- its number is in no hand, so the unit of a last thread can be taken
  takes_unit : HasStopped u t rest pc kind chain fs m → taken_share out3 < out3.share → Safe m out3 (ActiveAdd false)
  unfolding view_after
  takes_unit s covers = down_safe m out3 covers (inr (hand_stays chain.cell chain.wait s.has.wait u.hand ∙ s.empty))

  pub stop_steps : HasStopped u t rest pc kind chain fs m → StopSteps u t rest pc kind chain fs m
  stop_steps s = record { traps = trap_word_first s; stands = standing_word_then s; puts = puts_away s; lowers = takes_unit s }

-- ---- a ready chain is given to who asks

module _ (m : Meaning) (u : View) (c : ℕ) (chain : Chain) (cargo : Cargo) (fs : List Frame) (a : Answering) where
  abbrev in_turn : View
  in_turn = send_in u c chain cargo fs a

  abbrev goes_on : View
  goes_on = send_runs u c chain cargo fs a

  abbrev going : Carried
  going = send_chain u c chain cargo fs a

  takes_ready : Sends u c chain cargo fs a m → Safe m u (SlotTake (slots.Cell c))
  takes_ready s = ready_safe m u c s.below s.ready (λ h. contains_none h.0 (subst (λ (xs : List Waiter). Contains xs h.0) s.empty h.1)) s.few

  goes_first : Sends u c chain cargo fs a m → Safe m in_turn (CellStore cargo.carried.known.note.cell words.Standing 1)
  unfolding view_after
  goes_first s = let t = active_taken u c chain cargo s.told (inl s.ready) in run_safe m in_turn cargo.carried t.0 (subst (λ (k : ℕ). k < u.cells) (sym t.4) s.below) (inr t.1)

  hand_still : Sends u c chain cargo fs a m → goes_on.hand ≡ []
  unfolding view_after
  hand_still s = ap (seen_waiting c cargo.carried.wait) s.empty

  share_now : Sends u c chain cargo fs a m → 1 ≤ goes_on.share
  unfolding view_after
  share_now s = let t = active_taken u c chain cargo s.told (inl s.ready) in let e = t.2 in omega (arith, e)

  sends : Sends u c chain cargo fs a m → Safe m goes_on (SlotPut (slots.Mail a.asker) chain (cargo_of goes_on going fs 1))
  unfolding view_after
  sends s = give_safe m goes_on going chain fs a s.has s.walks refl (inr (hand_still s)) (share_now s) s.answers s.asker s.other s.not_put s.not_told

  pub send_steps : Sends u c chain cargo fs a m → SendSteps u c chain cargo fs a m
  send_steps s = record { takes = takes_ready s; runs = goes_first s; puts = sends s }

-- ---- a chain was given

module _ (m : Meaning) (u : View) (at : ℕ) (chain : Chain) (cargo : Cargo) where
  abbrev heard : View
  heard = mail_heard u

  abbrev inside : View
  inside = mail_in u chain cargo

  heard_share : Hears u at → heard.share ≡ u.share
  unfolding view_after
  heard_share h = ap (λ (o : Option ℕ). (mail_when (is_some o && ((2 == given) || (2 == refused))) 2 u).share) h.asked

  takes_mail : Hears u at → Safe m heard (SlotTake (slots.Mail u.number))
  takes_mail h =
      let n : heard.number ≡ u.number = size_laws.number u MailLoad (Number 2) in
      let w : heard.workers ≡ u.workers = size_laws.workers u MailLoad (Number 2) in
      let s = heard_share h in
      let few = h.few in
      let below = h.below in
      subst (λ (k : ℕ). Safe m heard (SlotTake (slots.Mail k))) n (mail_safe m heard (omega (arith, n, w, below)) (given_after u at h.asked).0 (omega (arith, s, few)))

  asked_still : Hears u at → inside.asked ≡ None
  unfolding view_after
  asked_still h = (given_after u at h.asked).1

  clears_mail : Hears u at → Promises heard (SlotTake (slots.Mail u.number)) (Took (Some chain) cargo) → Safe m inside (MailStore inside.number 0)
  clears_mail h told =
      let n : inside.number ≡ u.number = size_laws.number heard (SlotTake (slots.Mail u.number)) (Took (Some chain) cargo) ∙ size_laws.number u MailLoad (Number 2) in
      let w : inside.workers ≡ u.workers = size_laws.workers heard (SlotTake (slots.Mail u.number)) (Took (Some chain) cargo) ∙ size_laws.workers u MailLoad (Number 2) in
      let below = h.below in
      set_safe m inside 0 (omega (arith, n, w, below)) (asked_still h) (mail_taken heard u.number chain cargo told).3 (omega arith)

  pub mail_steps : Hears u at → MailSteps m u chain cargo
  mail_steps h = record {
    hears = mail_load m u;
    takes = takes_mail h;
    clears = clears_mail h;
    goes_on = λ told. let t = mail_taken heard u.number chain cargo told in (t.0, t.1);
  }

-- ---- all of them

pub operation_laws : (m : Meaning) → OperationLaws m
operation_laws m = record {
  root = root_steps m;
  mail = mail_steps m;
  touch = λ u x cell n v q. touch_steps m u x cell n v q;
  fork = fork_steps m;
  wait = λ u t rest cell pc seen chain fs owner. wait_steps u t rest cell pc seen chain fs m owner;
  stop = stop_steps m;
  end_thread = end_steps m;
  wake = wake_steps m;
  by_hand = by_hand_steps m;
  give = give_steps m;
  send = send_steps m;
}
