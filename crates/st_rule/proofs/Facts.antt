-- What the groups know of each other: for a careful step of a worker on a board with the rule, the premises that each group's law names.
use Rattle.std.proofs.Common.{◌≡◌, ◌≢◌, ◌⊎◌, inl, inr, ⊎_elim, ℕ, ◌+◌, ◌^◌, ◌≤◌, ◌<◌, ◌-◌, nat_lt, Bool, true, false, if◌then◌else◌, None, refl, ◌∙◌, ap, subst, arith}
use Rattle.std.specs.List.{Contains}
use Rattle.st_base.specs.declared.chain.Chain.{Chain}
use Rattle.st_base.specs.declared.chain.Waiting.{Waiting}
use Rattle.st_base.specs.declared.chain.Waiting.TheVariants as waits
use Rattle.st_base.specs.declared.limits.Limits.{Limits}
use Rattle.st_words.specs.declared.view.CellWord.TheVariants.{Owner, Standing, Value}
use Rattle.st_words.specs.declared.view.Slot.{Slot}
use Rattle.st_words.specs.declared.view.Slot.TheVariants.{Cell, Mail}
use Rattle.st_words.specs.declared.view.Cargo.{Cargo}
use Rattle.st_words.specs.declared.view.Waiter.{Waiter}
use Rattle.st_words.specs.declared.view.View.{View}
use Rattle.st_words.specs.Encodings.{count_in, ready, counter_word, count_after}
use Rattle.st_words.specs.Steps.{Step, CellStore, CellChange, SlotTake, SlotPut, Draw, StopSet, Can, IsFuture, IsCounter, HasInHand, MayTake}
use Rattle.st_words.specs.Careful.{Meaning, Careful, IsAtHome, IsOver as HasSeenOver}
use Rattle.st_model.specs.declared.program.Program.{Program}
use Rattle.st_model.specs.Memory.{Data}
use Rattle.st_model.specs.Heap.{Heap}
use Rattle.st_made.specs.Runs.{HasSeen}
use Rattle.st_world.specs.World.{World, slot_of}
use Rattle.st_spots.specs.Listing.{Held, counters}
use Rattle.st_lists.specs.Laws.{KnowsKind, IsKnown as ListsKnow}
use Rattle.st_seats.specs.Placing.{IsOver}
use Rattle.st_lists.proofs.Cautious.{not_ready}
use Rattle.st_places.specs.Steps.{IsKnown as PlacesKnow}
use Rattle.st_leases.specs.Laws.{IsVacant, Tends as LeasesTend}
use Rattle.st_counts.specs.Laws.{IsWeighed}
use Rattle.st_draws.specs.Laws.{IsKnown as DrawsKnow}
use Rattle.st_knows.specs.Laws.{IsKnown as KnowsKnow}
use Rattle.st_threads.specs.Laws.{AreSingle, IsKnown as ThreadsKnow}
use Rattle.st_named.specs.Laws.{IsKnown as NamesKnow}
use Rattle.st_limits.specs.Laws.{IsKnown as LimitsKnow}
use Rattle.st_rule.specs.Rule.{Rule}
use Rattle.st_rule.proofs.Groups.{Groups}

counted : (count head : ℕ) → head < 2 ^ 17 → count_in (counter_word count head) ≡ count
counted count head l = omega arith

-- a count grows, or stands still
more_by : (b : Bool) (count : ℕ) → count ≤ (if b then count + 1 else count)
more_by true count = omega arith
more_by false count = omega arith

after_more : (count : ℕ) → count ≤ count_after count
after_more count = more_by (nat_lt count (2 ^ 47 - 1)) count

grown : (old new : ℕ) → new ≡ counter_word (count_after (count_in old)) 0 → count_in old ≤ count_in new
grown old new e =
    let f : count_in new ≡ count_after (count_in old) = ap count_in e ∙ counted (count_after (count_in old)) 0 (omega arith) in
    let l = after_more (count_in old) in
    omega (arith, f, l)

module _ (m : Meaning) (g : Groups m) (program : Program) (source : Data) (limits : Limits) (h0 h : Heap) (x : World) (r : Rule m program source limits h0 h x) (w : ℕ) (is : w < x.workers) where
  abbrev u : View
  u = x.view w

  -- ---- cells

  pub kind_known : (c : ℕ) → IsFuture u c ⊎ IsCounter u c → KnowsKind (x.owner c) u c
  kind_known c k = g.knows_told.kind x w c r.knows (λ t. (g.places_told.unfilled x r.lists w c r.places (inl t)).1) k

  pub named_known : (c : ℕ) → IsFuture u c ⊎ IsCounter u c → x.owner c ≢ 0
  named_known c k = g.knows_told.named x w c r.knows (λ t. (g.places_told.unfilled x r.lists w c r.places (inl t)).0) k

  pub changes_cell : (c old new : ℕ) → Careful m u (CellChange c old new) → IsFuture u c ⊎ IsCounter u c
  changes_cell c old new careful = ⊎_elim (λ f. inl f.0) (λ k. inr k.0) careful.changes

  -- numbers in the hand are small
  pub hand_small : (y : Waiter) → Contains u.hand y → y.cell < 65536
  hand_small y at =
      let b = g.lists_view.below x w y.cell r.lists is (inl (y, at, refl)) in
      let s = r.lists.sized w is in
      let f = r.lists.few in
      omega (arith, b, s, f)

  -- a count doesn't fall
  pub rises : (c old new : ℕ) → Careful m u (CellChange c old new) → IsCounter u c → count_in old ≤ count_in new
  rises c old new careful counter = ⊎_elim
      (λ f. let k = kind_known c (inl f.0) in let a = k.0 f.0 in let b = k.1 counter in let no : ⊥ = cc in absurd no)
      (λ k. ⊎_elim
      (λ j.
      let small = hand_small j.5.0 j.5.1 in
      let same : j.5.0.cell ≡ j.0 = j.5.2 in
      let e : count_in new ≡ count_in old = ap count_in j.2 ∙ counted (count_in old) (j.0 + 1) (omega (arith, small, same)) in
      omega (arith, e))
      (λ d. grown old new d.1) k.1) careful.changes

  -- what the view has seen to be over is over
  pub seen_over : (k : Waiting) → HasSeenOver u k → IsOver (counters x.owner) x.state k
  seen_over waits.Start s = absurd s
  seen_over waits.Ready s = absurd s
  seen_over (waits.Touch c) s = let f = (r.knows.views w).full c s in (f.0.kind, f.1)
  seen_over (waits.Join c least) s =
      let f = (r.knows.views w).counts c s.0 s.1 in
      let l = f.1 in
      let k = s.2 in
      (f.0.kind, omega (arith, l, k))
  seen_over waits.Trapped s = absurd s

  pub seen_heap : HasSeen h u
  seen_heap = (g.names_told program source).has_seen h x w r.names
      (λ c n at. let f = (r.knows.views w).values c n at in (f.1, f.2))
      (λ c k at. ((r.knows.views w).counts c k at).1)

  -- ---- slots

  -- a chain is put into an empty slot
  pub vacant : (slot : Slot) (chain : Chain) (cargo : Cargo) → Can u (SlotPut slot chain cargo) → slot_of x slot ≡ None
  vacant (Cell c) chain cargo can = (g.slots.empty x r.lists w c r.places can.1.1).0
  vacant (Mail at) chain cargo can = g.mail.empty x w at chain r.requests is can.1

  pub single : AreSingle u
  single y z a b e = g.places_told.chains x r.lists w y z r.places a b e

  pub ready_at_home : (c : ℕ) → Careful m u (CellStore c Standing ready) → HasInHand u c × IsAtHome u c
  ready_at_home c careful = ⊎_elim
      (λ a. let e = a.0 in let no : ⊥ = omega (arith, e) in absurd no)
      (λ more. ⊎_elim
      (λ t. absurd (not_ready t.0.wait t.3.1))
      (λ more. ⊎_elim (λ k. let i = k.1 in ((i.0, i.1, i.2), k.2)) (λ e. let f = e.0 in let no : ⊥ = omega (arith, f) in absurd no) more) more) careful.stores

  held_hand : (c : ℕ) → r.lists.spot c ≡ Held w → HasInHand u c
  held_hand c e = ((r.lists.listing.hands w).has c e).0

  taken_home : (c : ℕ) → r.lists.spot c ≡ Held w → MayTake u (Cell c) → IsAtHome u c
  taken_home c e (inl a) = let b = g.lists_told.readies x r.lists w c a in let no : ⊥ = cc in absurd no
  taken_home c e (inr (inl a)) = a.1
  taken_home c e (inr (inr a)) =
      let b = g.lists_told.root x r.lists w a.1 in
      let f = ap r.lists.spot a.0 in
      let no : ⊥ = cc in
      absurd no

  -- ---- by group

  pub lists_know : (s : Step) → Can u s → Careful m u s → ListsKnow x r.lists w s
  lists_know (CellStore c Owner n) can careful = (g.draws_told.unnamed x w c r.draws can.1.0).1
  lists_know (CellChange c old new) can careful = kind_known c (changes_cell c old new careful)
  lists_know (SlotTake (Cell c)) can careful = λ e. (g.slots.waiting x r.lists w c r.places (held_hand c e) (taken_home c e can.1)).2
  lists_know (SlotPut (Cell c) chain cargo) can careful = λ none. g.slots.nowhere x r.lists w c r.places can.1.1 none
  lists_know s can careful = tt

  pub places_know : (s : Step) → Can u s → Careful m u s → PlacesKnow x u s
  places_know (CellStore c Owner n) can careful = g.draws_told.unnamed x w c r.draws can.1.0
  places_know (CellStore c Standing n) can careful = λ is k s. seen_over k s
  places_know (CellChange c old new) can careful = kind_known c (changes_cell c old new careful)
  places_know (SlotPut (Mail at) chain cargo) can careful =
      let b = can.0 in
      let e = (r.counts.numbered w is).0 in
      (vacant (Mail at) chain cargo can, omega (arith, b, e))
  places_know s can careful = tt

  pub draws_know : (s : Step) → Careful m u s → DrawsKnow x u s
  draws_know (CellChange c old new) careful = named_known c (changes_cell c old new careful)
  draws_know s careful = tt

  pub knows_know : (s : Step) → Can u s → Careful m u s → KnowsKnow x u s
  knows_know (CellStore c Owner n) can careful = (g.draws_told.unnamed x w c r.draws can.1.0).0
  knows_know (CellStore c Value n) can careful = (g.places_told.unfilled x r.lists w c r.places (inl can.1.0)).2
  knows_know (CellChange c old new) can careful =
      let k = changes_cell c old new careful in
      (named_known c k, kind_known c k, rises c old new careful)
  knows_know s can careful = tt

  pub leases_vacant : (s : Step) → Can u s → IsVacant x s
  leases_vacant (SlotPut slot chain cargo) can = vacant slot chain cargo can
  leases_vacant s can = tt

  pub leases_tend : (s : Step) → Careful m u s → LeasesTend u s
  leases_tend (SlotPut slot chain cargo) careful = let p = careful.puts in p.carries
  leases_tend s careful = careful.writes

  pub counts_weigh : (s : Step) → Can u s → Careful m u s → IsWeighed x u s
  counts_weigh (SlotTake (Cell c)) can careful = λ a. (g.slots.active x r.lists w (Cell c) r.places can.1 (g.slots.filled x r.lists w c r.places can.1) a).0
  counts_weigh (SlotPut slot chain cargo) can careful = vacant slot chain cargo can
  counts_weigh (CellStore c Standing n) can careful = λ e has.
      let three : Careful m u (CellStore c Standing ready) = subst (λ (k : ℕ). Careful m u (CellStore c Standing k)) e careful in
      let found = g.slots.waiting x r.lists w c r.places has (ready_at_home c three).1 in
      (found.0, found.1)
  counts_weigh s can careful = tt

  pub threads_know : (s : Step) → Can u s → ThreadsKnow x u s
  threads_know (SlotPut slot chain cargo) can = (vacant slot chain cargo can, single)
  threads_know s can = tt

  pub names_know : (s : Step) → Can u s → Careful m u s → NamesKnow x u s
  names_know (CellStore c Owner n) can careful =
      let b = can.0 in
      let e = r.lists.sized w is in
      ((g.draws_told.unnamed x w c r.draws can.1.0).0, omega (arith, b, e))
  names_know (CellChange c old new) can careful =
      let k = changes_cell c old new careful in
      (named_known c k, kind_known c k, hand_small)
  names_know s can careful = tt

  pub limits_know : (s : Step) → Can u s → LimitsKnow x w u s
  limits_know Draw can = g.draws_told.rises x r.draws
  limits_know (StopSet code) can = ((r.requests.numbered w is).0, (r.counts.numbered w is).1, (r.draws.views w).below)
  limits_know (SlotPut slot chain cargo) can = threads_know (SlotPut slot chain cargo) can
  limits_know s can = tt
