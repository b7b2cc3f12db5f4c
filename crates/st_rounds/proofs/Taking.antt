-- A chain is taken to run by a worker without a thread: its own ready one, the root, or one that was given. Read has_come (what the worker has then).
use Rattle.std.proofs.Common.{◌≡◌, ◌≢◌, ◌⊎◌, inl, inr, ⊎_elim, ℕ, suc, ◌+◌, ◌*◌, ◌/◌, ◌^◌, ◌≤◌, ◌<◌, Bool, true, false, not, ◌&&◌, ◌==◌, List, [], ◌∷◌, ◌++◌, Option, Some, None, refl, sym, ap, ◌∙◌, subst, arith, eq-eqb, ne_eqb}
use mathlib.Core.Logic.{dite}
use native.Mathlib.Decide.{ℕ_discrete}
use Rattle.std.specs.List.{Contains}
use Rattle.std.specs.Int.{from_bool}
use Rattle.std.proofs.lemmas.Bool.{cases_lt}
use Rattle.std.proofs.Math.Nat.{mul-le-mul_right, mul_left_comm, div-mul-le_self, lt-div-mul-add}
use Rattle.st_base.specs.declared.chain.Chain.{Chain}
use Rattle.st_base.specs.declared.chain.Frame.{Frame}
use Rattle.st_base.specs.declared.image.Image.{Image}
use Rattle.st_base.specs.declared.limits.Limits.{Limits}
use Rattle.st_words.specs.declared.view.Cargo.{Cargo}
use Rattle.st_words.specs.declared.view.Carried.{Carried}
use Rattle.st_words.specs.declared.view.Slot.{Slot}
use Rattle.st_words.specs.declared.view.Slot.TheVariants as slots
use Rattle.st_words.specs.declared.view.View.{View}
use Rattle.st_words.specs.declared.view.Waiter.{Waiter}
use Rattle.st_words.specs.Encodings.{running, ready}
use Rattle.st_words.specs.Promises.{Promises, IsActive, IsGoingOn}
use Rattle.st_words.specs.Safely.{Safe}
use Rattle.st_words.specs.Steps.{SlotTake, RootTake, Number, Took, HasInHand, Inside, return_place, place_of, home_of, kept}
use Rattle.st_words.specs.Views.{view_after, without_number, seen_waiting, slot_taken}
use Rattle.st_words.proofs.Lists.{contains_none, contains_case, contains_here, contains_later, filter_in, filter_out}
use Rattle.st_words.proofs.Starting.{root_safe, ready_safe, mail_safe}
use Rattle.st_model.specs.declared.program.Program.{Program}
use Rattle.st_model.specs.Accepted.{IsAccepted}
use Rattle.st_model.specs.Memory.{Data}
use Rattle.st_seats.specs.Placing.{AreOnce}
use Rattle.st_step.specs.Runs.{AreWords}
use Rattle.st_stack.specs.Exported.{IsRange}
use Rattle.st_framed.specs.Framed.{IsElsewhere}
use Rattle.st_chain.specs.Walk.{word_in, is_held, number_or, named_by}
use Rattle.st_chain.specs.Chains.{Walks}
use Rattle.st_chain.specs.Seen.{IsWhole}
use Rattle.st_chain.specs.Taking.{AllApart, notes_of}
use Rattle.st_run.specs.Meanings.{meaning}
use Rattle.st_phases.specs.declared.automaton.Automaton.{Automaton}
use Rattle.st_phases.specs.declared.phase.Behind.TheVariants as behinds
use Rattle.st_phases.specs.declared.phase.Phase.{Phase}
use Rattle.st_phases.specs.declared.phase.Phase.TheVariants as phases
use Rattle.st_phases.specs.declared.turn.Turn.{Turn}
use Rattle.st_phases.specs.Automaton.{with_phase, with_ready}
use Rattle.st_phases.specs.Idle.{MayTakeOwn, TakesOwn, root_taken}
use Rattle.st_phases.specs.Waking.{NeverEmpty}
use Rattle.st_fits.specs.Bags.{HasBag, units, with_chain}
use Rattle.st_fits.specs.Before.{after}
use Rattle.st_fits.specs.Fits.{HasCome, ByPhase, FitsIn}
use Rattle.st_fits.specs.Laws.{Told, MayAsk, Does, IsReady}
use Rattle.st_fits.specs.Threads.{HasNone, Rests, Carries, MayCome}
use Rattle.st_kept.specs.Keeping.{SameNumbers}
use Rattle.st_kept.proofs.Chains.{taken_rests, taken_carries}
use Rattle.st_kept.proofs.Laid.{cargo_laid}
use Rattle.st_kept.proofs.Keeping.{same_for, same_holds}
use Rattle.st_kept.proofs.Stepping.{numbers, no_item_asks}
use Rattle.st_rounds.proofs.Hearing.{hears, heard_of, root_heard, ask_root}
use Rattle.st_rounds.proofs.Idle.{Turns, to_phase, IsCalm, same_machine, round_fits, fits_as, none_same, bag_heard}
use Rattle.st_rounds.proofs.Once.{alone_apart}
use Rattle.st_rounds.proofs.Round.{by_in, goes}
use Rattle.st_rounds.proofs.Rounds.{law_of}
use Rattle.st_rounds.specs.Rounds.{ChainsTaken}

-- ---- frames

-- one of another stack than the worker's lies below it or above it
module _ (n e : ℕ) (f : Frame) (whole : IsWhole f) where
  first : Inside f (place_of f.low)
  first = let some = whole.some in let above = whole.above in (omega arith, omega (arith, some, above))

  last : Inside f (return_place f)
  last = let some = whole.some in let above = whole.above in (omega (arith, some, above), omega (arith, some, above))

  below_it : home_of e (return_place f) < n → 0 < e → f.base ≤ 2147483648 + 8 * (n * e)
  below_it less some =
      let most : return_place f < home_of e (return_place f) * e + e = lt-div-mul-add some in
      let all : suc (home_of e (return_place f)) * e ≤ n * e = mul-le-mul_right e less in
      let one : suc (home_of e (return_place f)) * e ≡ home_of e (return_place f) * e + e = omega arith in
      let even = whole.even.base in
      omega (arith, most, all, one, even)

  above_it : n < home_of e (place_of f.low) → 2147483648 + 8 * (n * e + e) ≤ f.low
  above_it more =
      let least : home_of e (place_of f.low) * e ≤ place_of f.low = div-mul-le_self (place_of f.low) e in
      let all : suc n * e ≤ home_of e (place_of f.low) * e = mul-le-mul_right e more in
      let one : suc n * e ≡ n * e + e = omega arith in
      let above = whole.above in
      omega (arith, least, all, one, above)

  pub elsewhere : (stack lo hi : ℕ) → lo ≡ 2147483648 + n * stack → hi ≡ lo + stack → IsRange lo hi → e ≡ stack / 8 → home_of e (place_of f.low) ≡ home_of e (return_place f) → home_of e (return_place f) ≢ n → IsElsewhere lo hi f
  elsewhere stack lo hi low high range each one other =
      let low_even = range.low_even in
      let high_even = range.high_even in
      let some = range.some in
      let size : stack ≡ 8 * e = omega (arith, low_even, high_even, high, each) in
      let all : n * stack ≡ 8 * (n * e) = ap (λ k. n * k) size ∙ mul_left_comm n 8 e in
      ⊎_elim
      (λ (less : home_of e (return_place f) < n). inl (let under = below_it less (omega (arith, size, some, high)) in omega (arith, under, low, all)))
      (λ (most : n ≤ home_of e (return_place f)). inr (let over = above_it (omega (arith, most, other, one)) in omega (arith, over, low, high, all, size))) (cases_lt (home_of e (return_place f)) n)

-- ---- words

pub are_words : (held : List (Option ℕ)) → ((q n : ℕ) → kept held q ≡ Some n → n < 2 ^ 64) → AreWords (word_in held)
are_words held small q = by (kept held q) refl
  where
    by : (o : Option ℕ) → kept held q ≡ o → number_or (kept held q) < 2 ^ 64
    by None e = subst (λ o. number_or o < 2 ^ 64) (sym e) (omega arith)
    by (Some n) e = subst (λ o. number_or o < 2 ^ 64) (sym e) (small q n e)

-- ---- what has come

-- the worker had no thread and no chain
record IsBare (x : Automaton) (u : View) : Type 0 where
  none : HasNone x u []
  chains : u.chains ≡ []
  hand : u.hand ≡ []
  share : u.share ≡ 0
  drawn : u.drawn ≡ []
  child : u.child ≡ None
  answering : u.answering ≡ None

-- the view after it has the chain, and what was told of others
bag_own : (p : Program) (d : Data) (x : Automaton) (u : View) (c : ℕ) (chain : Chain) (cargo : Cargo) → IsBare x u → u.given ≡ false → (u.root && not (c == 0)) ≡ false → cargo.unit ≡ 1 → HasBag (with_chain cargo.carried (units 1)) (after p d u (SlotTake (slots.Cell c)) (Took (Some chain) cargo))
unfolding after view_after
bag_own p d x u c chain cargo bare given root unit = record {
  chains = ap (λ (cs : List Carried). cargo.carried ∷ cs) bare.chains;
  hand = ap (λ (xs : List Waiter). seen_waiting c cargo.carried.wait xs) bare.hand;
  share = (let none : u.share ≡ 0 = bare.share in omega (arith, none, unit));
  drawn = bare.drawn;
  child = bare.child;
  answering = bare.answering;
  given = given;
  root = root;
}

bag_given : (p : Program) (d : Data) (x : Automaton) (u : View) (at : ℕ) (chain : Chain) (cargo : Cargo) → IsBare x u → u.root ≡ false → cargo.unit ≡ 1 → HasBag (with_chain cargo.carried (units 1)) (after p d u (SlotTake (slots.Mail at)) (Took (Some chain) cargo))
unfolding after view_after
bag_given p d x u at chain cargo bare root unit = record {
  chains = ap (λ (cs : List Carried). cargo.carried ∷ cs) bare.chains;
  hand = bare.hand;
  share = (let none : u.share ≡ 0 = bare.share in omega (arith, none, unit));
  drawn = bare.drawn;
  child = bare.child;
  answering = bare.answering;
  given = refl;
  root = root;
}

others_taken : (u : View) (slot : Slot) (cargo : Cargo) → ((slot_taken slot cargo u).asked ≡ u.asked) × ((slot_taken slot cargo u).exported ≡ u.exported)
others_taken u (slots.Cell c) cargo = (refl, refl)
others_taken u (slots.Mail at) cargo = (refl, refl)

view_taken : (p : Program) (d : Data) (u : View) (slot : Slot) (chain : Chain) (cargo : Cargo) → ((after p d u (SlotTake slot) (Took (Some chain) cargo)).asked ≡ u.asked) × ((after p d u (SlotTake slot) (Took (Some chain) cargo)).exported ≡ u.exported)
unfolding after view_after
view_taken p d u slot chain cargo = others_taken u slot cargo

ready_own : (p : Program) (d : Data) (u : View) (c : ℕ) (chain : Chain) (cargo : Cargo) → (after p d u (SlotTake (slots.Cell c)) (Took (Some chain) cargo)).ready ≡ without_number c u.ready
unfolding after view_after
ready_own p d u c chain cargo = refl

ready_given : (p : Program) (d : Data) (u : View) (at : ℕ) (chain : Chain) (cargo : Cargo) → (after p d u (SlotTake (slots.Mail at)) (Took (Some chain) cargo)).ready ≡ u.ready
unfolding after view_after
ready_given p d u at chain cargo = refl

module _ (p : Program) (d : Data) (limits : Limits) (image : Image) (input : List ℕ) (x : Automaton) (u : View) (ready_is : IsReady p d limits image input x u) (bare : IsBare x u) (slot : Slot) (chain : Chain) (cargo : Cargo) (v : View) (told : Told p d limits u (SlotTake slot) (Took (Some chain) cargo) v) where
  accepted : IsAccepted p
  accepted = ready_is.fits.is_for.code.accepted

  words : AreWords (word_in v.held)
  words = are_words v.held told.behind.words

  walks : Walks p d chain cargo
  walks = told.comes.0

  threads_are : v.threads ≡ []
  unfolding after
  threads_are = ap (λ (w : View). w.threads) told.is ∙ bare.none.is

  none_by : (y : Automaton) → Rests p d y v cargo.frames → HasNone y v cargo.frames
  none_by y (inl none) = none
  none_by y (inr polls) = absurd (let some = polls.is in let empty = threads_are in let no : ⊥ = cc in no)

  none_comes : (y : Automaton) → y.machine ≡ x.machine → y.stack ≡ x.stack → HasNone y v cargo.frames
  none_comes y machine stack = none_by y (taken_rests p d x y u v slot chain cargo accepted told.promised walks told.is told.tidy words machine stack (inl bare.none))

  whole : (f : Frame) → Contains cargo.frames f → IsWhole f
  whole f at = (cargo_laid p d accepted chain cargo walks f at).whole

  all_apart : (walks : Walks p d chain cargo) → AllApart cargo.frames
  all_apart (inl unbegun, begun) = subst AllApart (sym unbegun.none) tt
  all_apart (inr ((ahead, far, waits, keeps, newest), can), begun) =
      alone_apart p ready_is.fits.is_for.size (named_by cargo.names) (is_held cargo.words) (word_in cargo.words) cargo.carried.known.thread.activations cargo.frames ahead chain.pc chain.fp _ newest whole told.promised.whole.apart

  on_others : (f : Frame) → Contains cargo.frames f → Contains x.stack.exported f ⊎ IsElsewhere x.stack.lo x.stack.hi f
  on_others f at = dite (ℕ_discrete (home_of u.each (return_place f)) u.number)
      (λ (own : home_of u.each (return_place f) ≡ u.number). inl (ready_is.fits.holds.all_exported f (told.promised.own f at own)))
      (λ (other : home_of u.each (return_place f) ≢ u.number).
      let is = ready_is.fits.is_for in
      let holds = ready_is.fits.holds in
      inr (elsewhere x.number u.each f (whole f at) limits.stack x.stack.lo x.stack.hi is.lo (is.hi ∙ ap (λ k. k + limits.stack) (sym is.lo)) bare.none.lies.framed.stack.range holds.each
      (told.promised.whole.one_home f (place_of f.low) at (first x.number u.each f (whole f at))) (λ same. other (same ∙ holds.number))))

  may_come : (y : Automaton) → y.stack ≡ x.stack → MayCome y v cargo.frames
  may_come y stack = record {
    apart = all_apart walks;
    some = λ f at. let some = (whole f at).some in omega (arith, some);
    others = λ f at. subst (λ s. Contains s.exported f ⊎ IsElsewhere s.lo s.hi f) (sym stack) (on_others f at);
  }

  has_come : (y : Automaton) (standing : ℕ) → y.machine ≡ x.machine → y.stack ≡ x.stack → cargo.carried.standing ≡ Some standing → IsGoingOn cargo.carried → HasBag (with_chain cargo.carried (units 1)) v → HasCome p d limits chain standing y v
  has_come y standing machine stack stands going bag =
      let carries = taken_carries p d u v slot chain cargo accepted told.promised walks told.is bare.chains in
      record {
        carried = cargo.carried;
        frames = cargo.frames;
        carries = subst (λ o. Carries p d v chain o cargo.carried cargo.frames) stands carries;
        bag = bag;
        goes = λ trapped. told.behind.going cargo.carried carries.has.there going (told.promised.of.1 ∙ trapped);
        none = none_comes y machine stack;
        may = may_come y stack;
      }

  -- the numbers that are ready then
  record Readied (ns : List ℕ) : Type 0 where
    once : AreOnce ns
    are : (c : ℕ) → Contains ns c → Contains v.ready c
    all_are : (c : ℕ) → Contains v.ready c → Contains ns c

  takes_fits : (φ : Phase) (ns : List ℕ) → IsCalm x.phase → IsCalm φ → Readied ns → ByPhase p d limits φ (with_phase φ (with_ready ns x)) v → FitsIn p d limits image input (with_phase φ (with_ready ns x)) v
  takes_fits φ ns one two readied by =
      let same = view_taken p d u slot chain cargo in
      let is = ready_is.fits.is_for in
      let holds = ready_is.fits.holds in
      let calm = ap (λ (ms : List ℕ). ms ++ ns) two.none in
      record {
        is_for = same_for p d limits image input x (with_phase φ (with_ready ns x)) is
            (record { number = refl; code = refl; length_is = refl; steps = refl; cells = refl; room = refl; ready_room = refl; lo = refl; hi = refl; low = refl; high = refl });
        holds = same_holds limits x (with_phase φ (with_ready ns x)) u v holds (subst (λ w. SameNumbers u w) (sym told.is) (numbers p d u (SlotTake slot) (Took (Some chain) cargo))) (ap (λ (w : View). w.exported) told.is ∙ same.1)
            (record { number = refl; workers = refl; cells = refl; items = refl; frame_bytes = refl; exported = refl; last = refl; machine = refl; most = λ n. two.most n ∙ sym (one.most n); opened = refl; taking = λ none. one.taking })
            (record {
              notes = holds.notes ∙ ap notes_of (bare.none.is ∙ sym threads_are);
              ready_once = subst AreOnce (sym calm) readied.once;
              ready = λ c at. readied.are c (subst (λ (ms : List ℕ). Contains ms c) calm at);
              all_ready = λ c at. subst (λ (ms : List ℕ). Contains ms c) (sym calm) (readied.all_are c at);
              asked = ap (λ (w : View). w.asked) told.is ∙ same.0 ∙ holds.asked;
            }) refl;
        by = by;
      }

-- ---- the three phases

module _ (p : Program) (d : Data) (limits : Limits) (image : Image) (input : List ℕ) (x : Automaton) (u : View) (ready_is : IsReady p d limits image input x u) where
  bare_of : (b : Bool) (c : Bool) → HasNone x u [] → HasBag (record (units 0) { given = b; root = c }) u → IsBare x u
  bare_of b c none bag = record { none = none; chains = bag.chains; hand = bag.hand; share = bag.share; drawn = bag.drawn; child = bag.child; answering = bag.answering }

  -- the ready numbers of the worker, in a phase that has taken none out
  ready_here : (φ : Phase) → x.phase ≡ φ → IsCalm φ → AreOnce x.ready.numbers × ((c : ℕ) → Contains x.ready.numbers c → Contains u.ready c) × ((c : ℕ) → Contains u.ready c → Contains x.ready.numbers c)
  ready_here φ e calm =
      let none = ap (λ (ms : List ℕ). ms ++ x.ready.numbers) ((subst IsCalm (sym e) calm).none) in
      let holds = ready_is.fits.holds in (
        subst AreOnce none holds.ready_once,
        λ c at. holds.ready c (subst (λ (ms : List ℕ). Contains ms c) (sym none) at),
        λ c at. subst (λ (ms : List ℕ). Contains ms c) none (holds.all_ready c at),
      )

  other_number : (c k : ℕ) → c ≢ k → not (c == k) ≡ true
  other_number c k other = ap not (ne_eqb c k other)

  not_other : (c k : ℕ) → not (c == k) ≡ true → c ≢ k
  not_other c k is same = (let it = eq-eqb c k same in let no = ap not it in let never : ⊥ = cc in never)

  -- ---- a ready one

  own_fits : (cell : ℕ) (cells : List ℕ) (cargo : Cargo) (chain : Chain) (v : View) → x.phase ≡ phases.Own → x.ready.numbers ≡ cell ∷ cells → Told p d limits u (SlotTake (slots.Cell cell)) (Took (Some chain) cargo) v → FitsIn p d limits image input (with_phase (phases.Coming chain) (with_ready cells x)) v
  own_fits cell cells cargo chain v e is told =
      let idle = by_in p d limits image input x u ready_is phases.Own e in
      let bare = bare_of false false idle.0 idle.1 in
      let here = ready_here phases.Own e (record { none = refl; most = λ n. refl; taking = refl }) in
      let once : AreOnce (cell ∷ cells) = subst AreOnce is here.0 in
      let at : Contains u.ready cell = here.1 cell (subst (λ (ms : List ℕ). Contains ms cell) (sym is) (contains_here cell cells)) in
      let active : IsActive u (slots.Cell cell) = inl at in
      let told_of = told.promised.active active in
      let ready_now = ap (λ (w : View). w.ready) told.is ∙ ready_own p d u cell chain cargo in
      let root : (u.root && not (cell == 0)) ≡ false = ap (λ (b : Bool). b && not (cell == 0)) idle.1.root in
      takes_fits p d limits image input x u ready_is bare (slots.Cell cell) chain cargo v told (phases.Coming chain) cells (subst IsCalm (sym e) (record { none = refl; most = λ n. refl; taking = refl })) (record { none = refl; most = λ n. refl; taking = refl })
      (record {
        once = once.1;
        are = λ c in'. subst (λ (ms : List ℕ). Contains ms c) (sym ready_now)
            (filter_in (λ k. not (k == cell)) u.ready c (here.1 c (subst (λ (ms : List ℕ). Contains ms c) (sym is) (later cell cells c in'))) (other_number c cell (λ same. once.0 (subst (λ k. Contains cells k) same in'))));
        all_are = λ c in'.
            let out = filter_out (λ k. not (k == cell)) u.ready c (subst (λ (ms : List ℕ). Contains ms c) ready_now in') in
            ⊎_elim (λ (same : cell ≡ c). absurd (not_other c cell out.1 (sym same))) (λ more. more) (contains_case c cell cells (subst (λ (ms : List ℕ). Contains ms c) is (here.2 c out.0)));
      })
      (has_come p d limits image input x u ready_is bare (slots.Cell cell) chain cargo v told (with_phase (phases.Coming chain) (with_ready cells x)) ready refl refl told_of.1.0 (inr told_of.1.0)
      (subst (λ w. HasBag (with_chain cargo.carried (units 1)) w) (sym told.is) (bag_own p d x u cell chain cargo bare idle.1.given root told_of.0)))
    where
      later : (c : ℕ) (cs : List ℕ) (k : ℕ) → Contains cs k → Contains (c ∷ cs) k
      later c cs k at = contains_later k c cs at

  -- ---- the Root word

  rooted : (found : Bool) → x.phase ≡ phases.Own → x.ready.numbers ≡ [] → FitsIn p d limits image input (root_taken found x) (hears (heard_of (view_after u RootTake (Number (from_bool found)))) u)
  unfolding view_after
  rooted true e empty =
      let idle = by_in p d limits image input x u ready_is phases.Own e in
      let t : Turns = to_phase phases.First x in
      let holds = ready_is.fits.holds in
      round_fits p d limits image input x t u (heard_of (record u { root = true })) phases.First refl (same_machine x.machine) (subst IsCalm (sym e) (record { none = refl; most = λ n. refl; taking = refl })) (record { none = refl; most = λ n. refl; taking = refl })
      (record { asked = holds.asked; other = holds.asked_other; last = holds.last }) ready_is.fits
      ((none_same x t u (heard_of (record u { root = true })) [] refl idle.0, bag_heard (units 0) u (heard_of (record u { root = true })) false true idle.1 idle.1.answering idle.1.given refl), empty)
  rooted false e empty =
      goes p d limits image input x u ready_is phases.Own phases.Request x.since phases.Request u refl e (record { none = refl; most = λ n. refl; taking = refl }) (record { none = refl; most = λ n. refl; taking = refl }) (by_in p d limits image input x u ready_is phases.Own e) (record { asked = refl; answering = refl; given = refl; root = refl }) (λ idle. idle)

  owns : (ns : List ℕ) (y : Automaton) (v : View) (turn : Turn) → x.phase ≡ phases.Own → x.ready.numbers ≡ ns → TakesOwn (λ s a b. Told p d limits u s a b) ns x turn y v → FitsIn p d limits image input y v
  owns [] y v turn e empty (found, told, is, ran) = fits_as p d limits image input y _ v _ is (told.is ∙ root_heard p d u (from_bool found)) (rooted found e empty)
  owns (cell ∷ cells) y v turn e some (cargo, chain, told, is, ran) = fits_as p d limits image input y _ v v is refl (own_fits cell cells cargo chain v e some told)

  pub takes_own : (y : Automaton) (old v : View) (turn : Turn) → x.phase ≡ phases.Own → Does p d limits image input u old x turn y v phases.Own → FitsIn p d limits image input y v
  takes_own y old v turn e does = owns x.ready.numbers y v turn e refl does

  no_hand : (c : ℕ) → u.hand ≡ [] → HasInHand u c → ⊥
  no_hand c empty (w, at, is) = contains_none w (subst (λ (ws : List Waiter). Contains ws w) empty at)

  own_may : (ns : List ℕ) → x.phase ≡ phases.Own → x.ready.numbers ≡ ns → MayTakeOwn (λ s. MayAsk p d limits u s) (λ s a. Promises u s a) ns
  own_may [] e empty = ask_root p d limits u
  own_may (cell ∷ cells) e some =
      let idle = by_in p d limits image input x u ready_is phases.Own e in
      let here = ready_here phases.Own e (record { none = refl; most = λ n. refl; taking = refl }) in
      let at : Contains u.ready cell = here.1 cell (subst (λ (ms : List ℕ). Contains ms cell) (sym some) (contains_here cell cells)) in
      let share = idle.1.share in (
        no_item_asks p d limits u (SlotTake (slots.Cell cell)) tt (ready_safe (meaning p d limits) u cell (ready_is.tidy.numbers.below cell (inr (inr (inr at)))) at (no_hand cell idle.1.hand) (omega (arith, share))),
        λ cargo told. told.there refl,
      )

  pub may_own : x.phase ≡ phases.Own → MayTakeOwn (λ s. MayAsk p d limits u s) (λ s a. Promises u s a) x.ready.numbers
  may_own e = own_may x.ready.numbers e refl

  -- ---- the root

  some_cells : 0 < u.cells
  some_cells = let one = ready_is.fits.holds.cells in let two = ready_is.fits.is_for.cells in let least = limits.cells_least in omega (arith, one, two, least)

  pub may_first : x.phase ≡ phases.First → MayAsk p d limits u (SlotTake (slots.Cell 0)) × NeverEmpty (λ a. Promises u (SlotTake (slots.Cell 0)) a)
  may_first e =
      let bag = (by_in p d limits image input x u ready_is phases.First e).0.1 in
      let share = bag.share in
      (no_item_asks p d limits u (SlotTake (slots.Cell 0)) tt (root_safe (meaning p d limits) u some_cells bag.root bag.hand (omega (arith, share))), λ cargo told. told.there refl)

  pub takes_first : (y : Automaton) (old v : View) (turn : Turn) → x.phase ≡ phases.First → Does p d limits image input u old x turn y v phases.First → FitsIn p d limits image input y v
  takes_first y old v turn e (cargo, chain, told, (is, ran)) =
      let by = by_in p d limits image input x u ready_is phases.First e in
      let bag = by.0.1 in
      let bare = bare_of false true by.0.0 bag in
      let here = ready_here phases.First e (record { none = refl; most = λ n. refl; taking = refl }) in
      let told_of = told.promised.active (inr (refl, bag.root)) in
      let ready_now = ap (λ (w : View). w.ready) told.is ∙ ready_own p d u 0 chain cargo in
      let root : (u.root && not (0 == 0)) ≡ false = ap (λ (b : Bool). b && not (0 == 0)) bag.root in
      fits_as p d limits image input y (with_phase (phases.Coming chain) x) v v is refl
      (takes_fits p d limits image input x u ready_is bare (slots.Cell 0) chain cargo v told (phases.Coming chain) x.ready.numbers (subst IsCalm (sym e) (record { none = refl; most = λ n. refl; taking = refl })) (record { none = refl; most = λ n. refl; taking = refl })
      (record {
        once = here.0;
        are = λ c in'. absurd (contains_none c (subst (λ (ms : List ℕ). Contains ms c) by.1 in'));
        all_are = λ c in'. here.2 c ((filter_out (λ k. not (k == 0)) u.ready c (subst (λ (ms : List ℕ). Contains ms c) ready_now in')).0);
      })
      (has_come p d limits image input x u ready_is bare (slots.Cell 0) chain cargo v told (with_phase (phases.Coming chain) x) ready refl refl told_of.1.0 (inr told_of.1.0)
      (subst (λ w. HasBag (with_chain cargo.carried (units 1)) w) (sym told.is) (bag_own p d x u 0 chain cargo bare bag.given root told_of.0))))

  -- ---- one that was given

  pub may_open : x.phase ≡ phases.Opening → MayAsk p d limits u (SlotTake (slots.Mail x.number)) × NeverEmpty (λ a. Promises u (SlotTake (slots.Mail x.number)) a)
  may_open e =
      let bag = (by_in p d limits image input x u ready_is phases.Opening e).0.1 in
      let holds = ready_is.fits.holds in
      let share = bag.share in
      (no_item_asks p d limits u (SlotTake (slots.Mail x.number)) tt (subst (λ n. Safe (meaning p d limits) u (SlotTake (slots.Mail n))) (sym holds.number) (mail_safe (meaning p d limits) u holds.below bag.given (omega (arith, share)))), λ cargo told. told.there refl)

  pub takes_given : (y : Automaton) (old v : View) (turn : Turn) → x.phase ≡ phases.Opening → Does p d limits image input u old x turn y v phases.Opening → FitsIn p d limits image input y v
  takes_given y old v turn e (cargo, chain, told, (is, ran)) =
      let by = by_in p d limits image input x u ready_is phases.Opening e in
      let bag = by.0.1 in
      let bare = bare_of true false by.0.0 bag in
      let here = ready_here phases.Opening e (record { none = refl; most = λ n. refl; taking = refl }) in
      let told_of = told.promised.active tt in
      let ready_now = ap (λ (w : View). w.ready) told.is ∙ ready_given p d u x.number chain cargo in
      fits_as p d limits image input y (with_phase (phases.Emptying (behinds.Chain chain)) x) v v is refl
      (takes_fits p d limits image input x u ready_is bare (slots.Mail x.number) chain cargo v told (phases.Emptying (behinds.Chain chain)) x.ready.numbers (subst IsCalm (sym e) (record { none = refl; most = λ n. refl; taking = refl })) (record { none = refl; most = λ n. refl; taking = refl })
      (record {
        once = here.0;
        are = λ c in'. subst (λ (ms : List ℕ). Contains ms c) (sym ready_now) (here.1 c in');
        all_are = λ c in'. here.2 c (subst (λ (ms : List ℕ). Contains ms c) ready_now in');
      }) (
        ap (λ (w : View). w.asked) told.is ∙ (view_taken p d u (slots.Mail x.number) chain cargo).0 ∙ by.1,
        has_come p d limits image input x u ready_is bare (slots.Mail x.number) chain cargo v told (with_phase (phases.Emptying (behinds.Chain chain)) x) running refl refl told_of.1 (inl told_of.1)
            (subst (λ w. HasBag (with_chain cargo.carried (units 1)) w) (sym told.is) (bag_given p d x u x.number chain cargo bare bag.root told_of.0)),
      ))

-- ---- their laws

pub chains_taken : ChainsTaken
chains_taken p d limits image input = record {
  own = law_of p d limits image input phases.Own (λ x u e ready. may_own p d limits image input x u ready e) (λ x u ready y old v turn e does. takes_own p d limits image input x u ready y old v turn e does);
  first = law_of p d limits image input phases.First (λ x u e ready. may_first p d limits image input x u ready e) (λ x u ready y old v turn e does. takes_first p d limits image input x u ready y old v turn e does);
  opening = law_of p d limits image input phases.Opening (λ x u e ready. may_open p d limits image input x u ready e) (λ x u ready y old v turn e does. takes_given p d limits image input x u ready y old v turn e does);
}
