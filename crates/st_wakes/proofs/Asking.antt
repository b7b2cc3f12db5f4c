-- A worker with waiters in hand may make the step of each of its phases: a lemma for each.
use Rattle.std.proofs.Common.{List, None, Option, Some, [], ap, arith, false, inl, inr, length, refl, subst, sym, true, ℕ, ◌+◌, ◌-◌, ◌<◌, ◌∙◌, ◌∷◌, ◌≡◌}
use Rattle.std.specs.List.{Contains}
use Rattle.st_base.specs.declared.chain.Chain.{Chain}
use Rattle.st_base.specs.declared.chain.Waiting.{Waiting}
use Rattle.st_base.specs.declared.image.Image.{Image}
use Rattle.st_base.specs.declared.limits.Limits.{Limits}
use Rattle.st_cargo.proofs.Carrying.{chains_carried}
use Rattle.st_cargo.specs.Cargo.{goes_with}
use Rattle.st_fits.specs.Bags.{CanPark, IsNamed, LowersTo, Settles, common, leader}
use Rattle.st_fits.specs.Fits.{ByPhase}
use Rattle.st_fits.specs.Laws.{IsReady, MayAsk}
use Rattle.st_kept.proofs.Stepping.{no_item_asks}
use Rattle.st_model.specs.Memory.{Data}
use Rattle.st_model.specs.declared.program.Program.{Program}
use Rattle.st_phases.specs.Turning.{MayPhase}
use Rattle.st_phases.specs.Waking.{MayPark, cell_of, parked_word}
use Rattle.st_phases.specs.declared.automaton.Automaton.{Automaton}
use Rattle.st_phases.specs.declared.phase.Phase.{Phase}
use Rattle.st_phases.specs.declared.phase.Rest.{Rest}
use Rattle.st_phases.specs.declared.phase.Settling.{Settling}
use Rattle.st_run.specs.Meanings.{meaning}
use Rattle.st_wakes.proofs.Bags.{AreFar, first_below, first_in, first_there, leader_is, leads_at, read_at, without_first}
use Rattle.st_wakes.proofs.Parked.{park_asks}
use Rattle.st_wakes.proofs.Seeing.{named_below}
use Rattle.st_wakes.proofs.Waking.{by_of, hand_by, ready_of, settles_bag, thread_few}
use Rattle.st_words.proofs.Lists.{contains_none}
use Rattle.st_words.proofs.Safe.{load, put}
use Rattle.st_words.proofs.Waiting.{by_hand_safe, down_safe, join_safe, link_safe, park_safe, ready_safe, up_safe}
use Rattle.st_words.specs.Careful.{CanSpare, IsAtHome, Shows, standing_of}
use Rattle.st_words.specs.Encodings.{head_in, waits_word}
use Rattle.st_words.specs.Promises.{Promises}
use Rattle.st_words.specs.Safely.{Safe}
use Rattle.st_words.specs.Steps.{ActiveAdd, CellChange, CellLoad, CellStore, SlotPut, SlotTake, Step, some_thread, taken_share}
use Rattle.st_words.specs.Views.{without_waiter}
use Rattle.st_words.specs.declared.view.Carried.{Carried}
use Rattle.st_words.specs.declared.view.Slot.{Slot}
use Rattle.st_words.specs.declared.view.View.{View}
use Rattle.st_base.specs.declared.chain.Waiting.TheVariants as waits
use Rattle.st_words.specs.declared.view.CellWord.TheVariants as words
use Rattle.st_words.specs.declared.view.Slot.TheVariants as slots
use Rattle.st_phases.specs.declared.phase.Phase.TheVariants as phases

standing_named : (wait : Waiting) (u : View) → IsNamed wait u → standing_of wait ≡ Some waits_word
standing_named (waits.Touch cell) u named = refl
standing_named (waits.Join cell least) u named = refl
standing_named waits.Ready u named = absurd named
standing_named waits.Start u named = absurd named
standing_named waits.Trapped u named = absurd named

module _ (p : Program) (d : Data) (limits : Limits) (image : Image) (input : List ℕ) (x : Automaton) (u : View) (ready : IsReady p d limits image input x u) where
  abbrev Asks : Step → Type 0
  Asks s = MayAsk p d limits u s

  abbrev May : Phase → Type 0
  May phase = MayPhase Asks (λ s a. Promises u s a) (λ slot chain. goes_with p u slot chain) image input x phase

  at : (phase : Phase) → x.phase ≡ phase → ByPhase p d limits phase x u
  at phase is = by_of p d limits image input x u ready phase is

  -- no chain is in the turn
  no_chains : (c : ℕ) → u.chains ≡ [] → IsAtHome u c
  no_chains c none has = contains_none has.0 (subst (λ (xs : List Carried). Contains xs has.0) none has.1)

  taken_none : u.chains ≡ [] → taken_share u ≡ some_thread u.threads
  taken_none none = let e : length u.chains ≡ 0 = ap length none in omega (arith, e)

  covers_two : u.chains ≡ [] → u.share ≡ 2 → taken_share u < u.share
  covers_two none share = let few = thread_few u.threads in let e = taken_none none in omega (arith, few, e, share)

  below_few : (c : ℕ) → c < u.cells → c < 65536
  below_few c below = omega (arith, below, ready.fits.holds.few_cells)

  pub following_may : (rest : Rest) → x.phase ≡ phases.Following rest → May (phases.Following rest)
  following_may rest is =
      let b = at (phases.Following rest) is in
      let hand = b.2.1.hand ∙ leader_is (common rest) rest.next b.1 in
      let below = first_below u (leads_at (rest.next - 1) (common rest)) [] hand ready.tidy.numbers in
      (b.1, omega (arith, b.0.next, ready.fits.holds.few_cells), no_item_asks p d limits u (CellLoad (rest.next - 1) words.Next) tt (load (meaning p d limits) u (rest.next - 1) words.Next below))

  pub raising_may : (waiter : ℕ) (rest : Rest) → x.phase ≡ phases.Raising waiter rest → May (phases.Raising waiter rest)
  raising_may waiter rest is =
      let share : u.share ≡ 1 = (at (phases.Raising waiter rest) is).1.1.share in
      no_item_asks p d limits u (ActiveAdd true) tt (up_safe (meaning p d limits) u (omega (arith, share)) (omega (arith, share)))

  pub peeking_may : (waiter : ℕ) (rest : Rest) → x.phase ≡ phases.Peeking waiter rest → May (phases.Peeking waiter rest)
  peeking_may waiter rest is =
      let bag = (at (phases.Peeking waiter rest) is).2.1 in
      let share : u.share ≡ 2 = bag.share in (
        no_item_asks p d limits u (SlotTake (slots.Cell waiter)) tt
            (by_hand_safe (meaning p d limits) u waiter (first_below u (read_at waiter None None) (leader rest) bag.hand ready.tidy.numbers) (first_in u (read_at waiter None None) (leader rest) bag.hand) (no_chains waiter bag.chains) (covers_two bag.chains share) (omega (arith, share))),
        λ cargo said. said.there refl,
      )

  pub returning_may : (chain : Chain) (rest : Rest) → x.phase ≡ phases.Returning chain rest → May (phases.Returning chain rest)
  returning_may chain rest is =
      let b = at (phases.Returning chain rest) is in
      let slot : Slot = slots.Cell chain.cell in
      let of = chains_carried p d u slot chain b.carried b.frames ready.fits.is_for.code.accepted b.carries.has in
      let cell : b.carried.known.note.cell ≡ chain.cell = ap (λ k. k.cell) b.carries.has.note ∙ b.carries.has.cell in
      no_item_asks p d limits u (SlotPut slot chain (goes_with p u slot chain)) tt
      (put (meaning p d limits) u slot chain (goes_with p u slot chain) (b.carries.below, (refl, (b.carried, b.carries.has.there, cell)), omega arith, omega arith) (record {
        carries = of.carries;
        unit = refl;
        walks = of.walks;
        shows = subst (λ (y : Carried). Shows (meaning p d limits) u slot y) (sym of.found_is) (waits_word, ap standing_of b.carries.has.wait ∙ standing_named chain.wait u b.named, b.carries.stands, b.shows);
      }))

  pub owning_may : (s : Settling) → x.phase ≡ phases.Owning s → May (phases.Owning s)
  owning_may s is = no_item_asks p d limits u (CellLoad (cell_of s.wait) words.Owner) tt (load (meaning p d limits) u (cell_of s.wait) words.Owner (named_below s.wait u ready.tidy.names (at (phases.Owning s) is).0))

  pub weighing_may : (s : Settling) → x.phase ≡ phases.Weighing s → May (phases.Weighing s)
  weighing_may s is = no_item_asks p d limits u (CellLoad (cell_of s.wait) words.State) tt (load (meaning p d limits) u (cell_of s.wait) words.State (named_below s.wait u ready.tidy.names (at (phases.Weighing s) is).0))

  -- ---- a waiter that is settled

  -- it is first in the hand
  is_first : (s : Settling) (next : Option ℕ) → Settles s next s.rest u → u.hand ≡ read_at s.waiter (Some s.wait) next ∷ hand_by s.rest
  is_first s next h = (settles_bag s next s.rest u h).0.hand

  none_in_turn : (s : Settling) (next : Option ℕ) (rest : Option Rest) → Settles s next rest u → u.chains ≡ []
  none_in_turn s next (Some rest) h = h.0.chains
  none_in_turn s next None h = h.chains

  covers_settling : (s : Settling) (next : Option ℕ) (rest : Option Rest) → Settles s next rest u → taken_share u < u.share
  covers_settling s next (Some rest) h = covers_two h.0.chains h.0.share
  covers_settling s next None h = let e = taken_none h.chains in let share : u.share ≡ some_thread u.threads + 1 = h.share in omega (arith, e, share)

  spares_settling : (s : Settling) (next : Option ℕ) (rest : Option Rest) → Settles s next rest u → CanSpare u (without_waiter s.waiter u.hand)
  spares_settling s next (Some rest) h = let share : u.share ≡ 2 = h.0.share in inl (omega (arith, share))
  spares_settling s next None h =
      let far : AreFar s.waiter [] = λ y is. absurd (contains_none y is) in
      inr (ap (without_waiter s.waiter) h.hand ∙ without_first s.waiter (read_at s.waiter (Some s.wait) next) [] refl far)

  pub readying_may : (s : Settling) → x.phase ≡ phases.Readying s → May (phases.Readying s)
  readying_may s is =
      let b = at (phases.Readying s) is in
      let next = b.1.0 in
      let hand = is_first s next b.1.1 in
      let first = read_at s.waiter (Some s.wait) next in
      let were = ready_of p d limits image input x u ready (phases.Readying s) is (record { taken = refl; most = λ n. refl; taking = refl }) in
      let few = ready.behind.fewer_ready x.ready.numbers s.waiter were.once were.ready (first_in u first (hand_by s.rest) hand) in
      let room : u.cells ≡ x.ready.room = sym ready.fits.holds.cells ∙ ready.fits.is_for.cells ∙ sym ready.fits.is_for.ready_room in (
        subst (λ (n : ℕ). length x.ready.numbers < n) room few,
        no_item_asks p d limits u (CellStore s.waiter words.Standing 3) tt
            (ready_safe (meaning p d limits) u s.waiter s.wait (first_below u first (hand_by s.rest) hand ready.tidy.numbers) (first, first_there u first (hand_by s.rest) hand, refl, (refl, refl)) b.0 (no_chains s.waiter (none_in_turn s next s.rest b.1.1)) (covers_settling s next s.rest b.1.1)
            (spares_settling s next s.rest b.1.1)),
      )

  pub linking_may : (s : Settling) → x.phase ≡ phases.Linking s → May (phases.Linking s)
  linking_may s is =
      let b = at (phases.Linking s) is in
      let next = b.2.0 in
      let hand = is_first s next b.2.1 in
      let first = read_at s.waiter (Some s.wait) next in
      no_item_asks p d limits u (CellStore s.waiter words.Next (head_in s.seen)) tt
      (link_safe (meaning p d limits) u s.waiter (head_in s.seen) (first_below u first (hand_by s.rest) hand ready.tidy.numbers) b.0.head (no_chains s.waiter (none_in_turn s next s.rest b.2.1)) (first, first_there u first (hand_by s.rest) hand, refl, refl))

  park_is_safe : (wait : Waiting) (seen waiter : ℕ) → CanPark (record { waiter = waiter; wait = wait; seen = seen; rest = None }) u → MayPark wait seen → IsAtHome u waiter → Contains u.hand (read_at waiter (Some wait) (Some (head_in seen))) →
      Safe (meaning p d limits) u (CellChange (cell_of wait) seen (parked_word wait waiter seen))
  park_is_safe (waits.Touch cell) seen waiter can may home there =
      let small = can.small cell refl may in
      let low : head_in seen ≡ seen = omega (arith, small, ready.fits.holds.few_cells) in
      park_safe (meaning p d limits) u cell seen waiter can.kind.0 can.kind.1 may home (read_at waiter (Some (waits.Touch cell)) (Some (head_in seen)), there, refl, (ap (λ n. Some n) low, refl))
  park_is_safe (waits.Join cell least) seen waiter can may home there = join_safe (meaning p d limits) u cell seen waiter least can.kind.0 can.kind.1 may home (read_at waiter (Some (waits.Join cell least)) (Some (head_in seen)), there, refl, (refl, refl))
  park_is_safe waits.Ready seen waiter can may home there = absurd may
  park_is_safe waits.Start seen waiter can may home there = absurd may
  park_is_safe waits.Trapped seen waiter can may home there = absurd may

  pub parking_may : (s : Settling) → x.phase ≡ phases.Parking s → May (phases.Parking s)
  parking_may s is =
      let b = at (phases.Parking s) is in
      let next = Some (head_in s.seen) in
      let hand = is_first s next b.2 in
      let first = read_at s.waiter (Some s.wait) next in
      let few = below_few s.waiter (first_below u first (hand_by s.rest) hand ready.tidy.numbers) in
      let can : CanPark (record { waiter = s.waiter; wait = s.wait; seen = s.seen; rest = None }) u = record { named = b.0.named; kind = b.0.kind; head = b.0.head; small = b.0.small } in (
        few,
        b.1,
        park_asks p d u ready.tidy.names limits s.wait s.seen s.waiter b.0.named b.0.kind few (park_is_safe s.wait s.seen s.waiter can b.1 (no_chains s.waiter (none_in_turn s next s.rest b.2)) (first_there u first (hand_by s.rest) hand)),
      )

  lowers_safe : (rest : Option Rest) → LowersTo rest u → Safe (meaning p d limits) u (ActiveAdd false)
  lowers_safe (Some rest) h = let share : u.share ≡ 2 = h.0.share in down_safe (meaning p d limits) u (covers_two h.0.chains share) (inl (omega (arith, share)))
  lowers_safe None h = let e = taken_none h.chains in let share : u.share ≡ some_thread u.threads + 1 = h.share in down_safe (meaning p d limits) u (omega (arith, e, share)) (inr h.hand)

  pub lowering_may : (rest : Option Rest) → x.phase ≡ phases.Lowering rest → May (phases.Lowering rest)
  lowering_may rest is = no_item_asks p d limits u (ActiveAdd false) tt (lowers_safe rest (at (phases.Lowering rest) is).0)
