-- What a worker shows before a step: that it can be asked there and is careful (Safe), by the kind of step. And what the view after it has.
use Rattle.std.proofs.Common.{◌≡◌, ◌≢◌, ◌⊎◌, inl, inr, ⊎_elim, ℕ, zero, suc, ◌+◌, ◌*◌, ◌-◌, ◌/◌, ◌%◌, ◌^◌, ◌≤◌, ◌<◌, Bool, true, false, cond, not, ◌&&◌, ◌||◌, ◌==◌, List, [], ◌∷◌, ◌++◌, map, length, Option, Some, None, refl, sym, ap, ◌∙◌, subst, arith, eq-eqb, ne_eqb}
use Rattle.std.specs.List.{Contains, filter}
use Rattle.st_base.specs.declared.chain.Chain.{Chain}
use Rattle.st_base.specs.declared.chain.Frame.{Frame}
use Rattle.st_base.specs.declared.chain.Waiting.{Waiting}
use Rattle.st_base.specs.declared.chain.Waiting.TheVariants as waits
use Rattle.st_words.specs.declared.view.CellWord.{CellWord}
use Rattle.st_words.specs.declared.view.CellWord.TheVariants as words
use Rattle.st_words.specs.declared.view.Slot.{Slot}
use Rattle.st_words.specs.declared.view.Slot.TheVariants as slots
use Rattle.st_words.specs.declared.view.Known.{Known}
use Rattle.st_words.specs.declared.view.Carried.{Carried}
use Rattle.st_words.specs.declared.view.Cargo.{Cargo}
use Rattle.st_words.specs.declared.view.Waiter.{Waiter}
use Rattle.st_words.specs.declared.view.View.{View}
use Rattle.st_words.specs.Encodings.{thread_owner, counter_owner, is_counter, running, waits_word, ready, ended, full_word}
use Rattle.st_words.specs.Steps.{Step, CellLoad, CellStore, CellChange, Draw, ActiveAdd, ActiveLoad, StopLoad, StopSet, RootTake, RequestLoad, RequestChange, MailLoad, MailStore, OutStore, SlotTake, SlotPut, OutLoad, Done, Number, Took, Can, MayStore, MayChange, MayRequest, MayMail, MayAdd, HasChain, HasInHand, StackStore, Holds, IsLeased, return_place, taken_share}
use Rattle.st_words.specs.Views.{view_after, with_trap, with_standing, without_waiter, without_number, in_hand, made_ready, made_running, with_name, child_named, is_at, other_cell, linked, with_next, seen_waiting}
use Rattle.st_words.specs.Careful.{Meaning, Careful, Stores, Changes, Puts, Takes, Lowers, DrawsFor, StopsFor, Writes, InTurn, InHand}
use Rattle.st_words.specs.Safely.{Safe}
use Rattle.st_words.proofs.Lists.{contains_here, contains_later, contains_none, contains_case, filter_in, map_in}
use Rattle.st_words.proofs.Puts.{has_in_hand}

module _ (m : Meaning) (u : View) where
  pub store : (c : ℕ) (word : CellWord) (n : ℕ) → c < u.cells → MayStore u c word n → Stores m u (CellStore c word n) → Safe m u (CellStore c word n)
  store c word n within may stores = record {
    can = (within, may);
    careful = record { writes = tt; puts = tt; takes = tt; stores = stores; changes = tt; lowers = tt; draws = tt; stops = tt };
  }

  pub change : (c old new : ℕ) → c < u.cells → MayChange u c old new → Changes m u (CellChange c old new) → Safe m u (CellChange c old new)
  change c old new within may changes = record {
    can = (within, may);
    careful = record { writes = tt; puts = tt; takes = tt; stores = tt; changes = changes; lowers = tt; draws = tt; stops = tt };
  }

  pub load : (c : ℕ) (word : CellWord) → c < u.cells → Safe m u (CellLoad c word)
  load c word within = record {
    can = within;
    careful = record { writes = tt; puts = tt; takes = tt; stores = tt; changes = tt; lowers = tt; draws = tt; stops = tt };
  }

  pub write : (p n : ℕ) → Holds u p → n < 2 ^ 64 → (n ≡ 0 → (f : Frame) → IsLeased u f → return_place f ≢ p) → Safe m u (StackStore p n)
  write p n holds few keeps = record { can = holds; careful = record { writes = (few, keeps); puts = tt; takes = tt; stores = tt; changes = tt; lowers = tt; draws = tt; stops = tt } }

  pub draw : DrawsFor m u Draw → Safe m u Draw
  draw draws = record { can = tt; careful = record { writes = tt; puts = tt; takes = tt; stores = tt; changes = tt; lowers = tt; draws = draws; stops = tt } }

  pub add : (up : Bool) → MayAdd u up → Lowers m u (ActiveAdd up) → Safe m u (ActiveAdd up)
  add up may lowers = record { can = may; careful = record { writes = tt; puts = tt; takes = tt; stores = tt; changes = tt; lowers = lowers; draws = tt; stops = tt } }

  pub stop : (code : ℕ) → Can u (StopSet code) → StopsFor m u (StopSet code) → Safe m u (StopSet code)
  stop code can stops = record { can = can; careful = record { writes = tt; puts = tt; takes = tt; stores = tt; changes = tt; lowers = tt; draws = tt; stops = stops } }

  pub take : (slot : Slot) → Can u (SlotTake slot) → Takes m u (SlotTake slot) → Safe m u (SlotTake slot)
  take slot can takes = record { can = can; careful = record { writes = tt; puts = tt; takes = takes; stores = tt; changes = tt; lowers = tt; draws = tt; stops = tt } }

  pub put : (slot : Slot) (chain : Chain) (cargo : Cargo) → Can u (SlotPut slot chain cargo) → Puts m u (SlotPut slot chain cargo) → Safe m u (SlotPut slot chain cargo)
  put slot chain cargo can puts = record { can = can; careful = record { writes = tt; puts = puts; takes = tt; stores = tt; changes = tt; lowers = tt; draws = tt; stops = tt } }

  pub request : (at old new : ℕ) → at < u.workers → MayRequest u at old new → Safe m u (RequestChange at old new)
  request at old new within may = record { can = (within, may); careful = record { writes = tt; puts = tt; takes = tt; stores = tt; changes = tt; lowers = tt; draws = tt; stops = tt } }

  pub mail : (at n : ℕ) → at < u.workers → MayMail u at n → Safe m u (MailStore at n)
  mail at n within may = record { can = (within, may); careful = record { writes = tt; puts = tt; takes = tt; stores = tt; changes = tt; lowers = tt; draws = tt; stops = tt } }

  pub out : (i n : ℕ) → Can u (OutStore i n) → Safe m u (OutStore i n)
  out i n can = record { can = can; careful = record { writes = tt; puts = tt; takes = tt; stores = tt; changes = tt; lowers = tt; draws = tt; stops = tt } }

  pub request_load : (at : ℕ) → at < u.workers → Safe m u (RequestLoad at)
  request_load at within = record { can = within; careful = record { writes = tt; puts = tt; takes = tt; stores = tt; changes = tt; lowers = tt; draws = tt; stops = tt } }

  pub root_take : Safe m u RootTake
  root_take = record { can = tt; careful = record { writes = tt; puts = tt; takes = tt; stores = tt; changes = tt; lowers = tt; draws = tt; stops = tt } }

  pub mail_load : Safe m u MailLoad
  mail_load = record { can = tt; careful = record { writes = tt; puts = tt; takes = tt; stores = tt; changes = tt; lowers = tt; draws = tt; stops = tt } }

  pub active_load : Safe m u ActiveLoad
  active_load = record { can = tt; careful = record { writes = tt; puts = tt; takes = tt; stores = tt; changes = tt; lowers = tt; draws = tt; stops = tt } }

  pub stop_load : Safe m u StopLoad
  stop_load = record { can = tt; careful = record { writes = tt; puts = tt; takes = tt; stores = tt; changes = tt; lowers = tt; draws = tt; stops = tt } }

-- ---- chains of the turn: their Trap and Standing words

abbrev trap_of : ℕ → ℕ → Carried → Carried
trap_of c n x = cond (x.known.note.cell == c) (record x { trap = Some n }) x

pub trap_stored : (u : View) (c n : ℕ) (x : Carried) → Contains u.chains x → x.known.note.cell ≡ c → Contains (view_after u (CellStore c words.Trap n) Done).chains (record x { trap = Some n })
unfolding view_after
trap_stored u c n x at cell = subst (λ (y : Carried). Contains (with_trap c n u.chains) y) (ap (λ (b : Bool). cond b (record x { trap = Some n }) x) (eq-eqb x.known.note.cell c cell)) (map_in (trap_of c n) u.chains x at)

abbrev standing_of : ℕ → ℕ → Carried → Carried
standing_of c n x = cond (x.known.note.cell == c) (record x { standing = Some n }) x

standing_with : (chains : List Carried) (c n : ℕ) (x : Carried) → Contains chains x → x.known.note.cell ≡ c → Contains (with_standing c n chains) (record x { standing = Some n })
standing_with chains c n x at cell = subst (λ (y : Carried). Contains (with_standing c n chains) y) (ap (λ (b : Bool). cond b (record x { standing = Some n }) x) (eq-eqb x.known.note.cell c cell)) (map_in (standing_of c n) chains x at)

-- a Standing word that isn't 3 changes nothing else, but that of a child
pub stood_plainly : (u : View) (c n : ℕ) → n ≢ 3 → view_after u (CellStore c words.Standing n) Done ≡ made_running (n == 1) c (record u { chains = with_standing c n u.chains })
unfolding view_after
stood_plainly u c n other = ap (λ (b : Bool). made_ready (b && in_hand c u.hand) c (made_running (n == 1) c (record u { chains = with_standing c n u.chains }))) (ne_eqb n 3 other)

running_chains : (b : Bool) (c : ℕ) (v : View) → (made_running b c v).chains ≡ v.chains
running_chains true c v = refl
running_chains false c v = refl

pub standing_stored : (u : View) (c n : ℕ) (x : Carried) → n ≢ 3 → Contains u.chains x → x.known.note.cell ≡ c → Contains (view_after u (CellStore c words.Standing n) Done).chains (record x { standing = Some n })
standing_stored u c n x other at cell = subst (λ (xs : List Carried). Contains xs (record x { standing = Some n })) (sym (ap (λ (v : View). v.chains) (stood_plainly u c n other) ∙ running_chains (n == 1) c (record u { chains = with_standing c n u.chains }))) (standing_with u.chains c n x at cell)

-- ---- numbers in the hand

-- a waiter whose number is in the hand becomes ready
pub readied : (u : View) (c : ℕ) → HasInHand u c → view_after u (CellStore c words.Standing 3) Done ≡ record u { chains = with_standing c 3 u.chains; hand = without_waiter c u.hand; ready = c ∷ u.ready; share = u.share - 1 }
unfolding view_after
readied u c h = ap (λ (b : Bool). made_ready b c (record u { chains = with_standing c 3 u.chains })) (has_in_hand c u.hand h.0 h.1 h.2)

abbrev link_of : ℕ → ℕ → Waiter → Waiter
link_of c n x = cond (x.cell == c) (record x { next = Some n }) x

pub link_stored : (u : View) (c n : ℕ) (x : Waiter) → Contains u.hand x → x.cell ≡ c → Contains (view_after u (CellStore c words.Next n) Done).hand (record x { next = Some n })
unfolding view_after
link_stored u c n x at cell = subst (λ (y : Waiter). Contains (linked c n u.hand) y) (ap (λ (b : Bool). cond b (record x { next = Some n }) x) (eq-eqb x.cell c cell)) (map_in (link_of c n) u.hand x at)

-- ---- names

pub thread_kind : (parent number : ℕ) → is_counter (thread_owner parent number) ≡ false
thread_kind parent number =
    let e : (1 + 2 * parent + 2 ^ 18 * number - 1) % 2 ≡ 0 = omega arith in
    ap (λ k. k == 1) e

pub counter_kind : (parent number : ℕ) → is_counter (counter_owner parent number) ≡ true
counter_kind parent number =
    let e : (2 + 2 * parent + 2 ^ 18 * number - 1) % 2 ≡ 1 = omega arith in
    ap (λ k. k == 1) e

pub without_only : (c : ℕ) → without_number c (c ∷ []) ≡ []
without_only c = ap (λ (b : Bool). cond (not b) (c ∷ []) []) (eq-eqb c c refl)

-- the cell of the next child is named
pub child_stored : (u : View) (c n : ℕ) → is_counter n ≡ false → (view_after u (CellStore c words.Owner n) Done).child ≡ Some (record { cell = c; stands = false })
unfolding view_after
child_stored u c n e = ap (λ (b : Bool). child_named b c u.child) e

pub child_stays : (u : View) (c n : ℕ) → is_counter n ≡ true → (view_after u (CellStore c words.Owner n) Done).child ≡ u.child
unfolding view_after
child_stays u c n e = ap (λ (b : Bool). child_named b c u.child) e

pub drawn_named : (u : View) (c n : ℕ) → u.drawn ≡ c ∷ [] → (view_after u (CellStore c words.Owner n) Done).drawn ≡ []
unfolding view_after
drawn_named u c n e = ap (without_number c) e ∙ without_only c
