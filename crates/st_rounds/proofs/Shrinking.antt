-- A round begins: an exported frame whose return word is 0 is taken back, or sp comes to the limit of the stack. Read may_shrink and settled_fits.
use Rattle.std.proofs.Common.{◌≡◌, ◌≢◌, inl, inr, ⊎_elim, ℕ, zero, suc, ◌+◌, ◌*◌, ◌/◌, ◌^◌, ◌≤◌, ◌<◌, Bool, true, false, ◌==◌, List, [], length, Option, Some, None, refl, sym, ap, ◌∙◌, subst, arith}
use Rattle.std.specs.Prelude.{if◌then◌else◌}
use Rattle.std.specs.List.{Contains}
use Rattle.std.proofs.lemmas.Bool.{eqb-true, eqb-false}
use Rattle.std.proofs.Math.Nat.{mul-le-mul_right, mul_left_comm}
use Rattle.st_base.specs.declared.chain.Frame.{Frame}
use Rattle.st_base.specs.declared.image.Image.{Image}
use Rattle.st_base.specs.declared.limits.Limits.{Limits}
use Rattle.st_base.specs.declared.reg.Reg.TheVariants as registers
use Rattle.st_words.specs.declared.view.Cargo.{Cargo}
use Rattle.st_words.specs.declared.view.View.{View}
use Rattle.st_words.specs.Laws.{OneEach}
use Rattle.st_words.specs.Leased.{KeepsLeased}
use Rattle.st_words.specs.Promises.{Promises}
use Rattle.st_words.specs.Steps.{StopLoad, Look, Answer, Done, Number, Looked, Took, Holds as HoldsWord, IsLeased, Inside, return_place}
use Rattle.st_words.specs.Views.{view_after, taken_back, frame_returning}
use Rattle.st_words.proofs.Lists.{contains_none}
use Rattle.st_words.proofs.Looks.{look_laws}
use Rattle.st_words.proofs.Naming.{size_laws}
use Rattle.st_words.proofs.Returning.{apart_each, return_inside}
use Rattle.st_model.specs.declared.program.Program.{Program}
use Rattle.st_model.specs.Memory.{Data}
use Rattle.st_made.specs.Events.{NoItem}
use Rattle.st_stack.specs.declared.stack.Shrunk.{Shrunk}
use Rattle.st_stack.specs.declared.stack.Shrunk.TheVariants as shrunks
use Rattle.st_stack.specs.Exported.{Exports, IsRange, IsFrameOn, IsLowest, IsWithout, IsLimit}
use Rattle.st_step.specs.declared.state.State.{State}
use Rattle.st_step.specs.Moves.{register, written}
use Rattle.st_step.specs.Runs.{HasRegisters}
use Rattle.st_step.proofs.Writes.{length-written, lo-written, hi-written, zero-written, values-written, register-written_same, register-written_other}
use Rattle.st_framed.specs.Framed.{Framed}
use Rattle.st_framed.proofs.Shrinking.{shrinking_frames}
use Rattle.st_framed.proofs.Stacks.{limit_within}
use Rattle.st_cargo.specs.Cargo.{goes_with}
use Rattle.st_phases.specs.declared.automaton.Automaton.{Automaton}
use Rattle.st_phases.specs.declared.phase.Phase.{Phase}
use Rattle.st_phases.specs.declared.phase.Phase.TheVariants as phases
use Rattle.st_phases.specs.declared.turn.Turn.{Turn}
use Rattle.st_phases.specs.Automaton.{with_phase}
use Rattle.st_phases.specs.Idle.{RoundBegins, IsShrunkIdle}
use Rattle.st_phases.specs.Polling.{with_sp}
use Rattle.st_phases.specs.Turning.{MayShrink}
use Rattle.st_fits.specs.Bags.{units}
use Rattle.st_fits.specs.Before.{after}
use Rattle.st_fits.specs.Fits.{Idle, ByPhase, FitsIn}
use Rattle.st_fits.specs.Laws.{Told, MayAsk, Does, IsReady, Shrinks}
use Rattle.st_fits.specs.Threads.{HasNone, ends_of}
use Rattle.st_rounds.proofs.Hearing.{Heard, hears, heard_of, stop_heard}
use Rattle.st_rounds.proofs.Idle.{Turns, turned, to_phase, IsCalm, IsLike, round_fits, fits_as, none_at, bag_heard}
use Rattle.st_rounds.proofs.Round.{Unmoved, stop_unmoved, by_in, calm_in}

-- ---- sp at the limit

-- the ends of a machine whose sp is written
ends_raised : (m : State) (n : ℕ) → HasRegisters m → ends_of (written m registers.Sp n) ≡ record (ends_of m) { sp = n }
ends_raised m n has =
    let few : length m.registers ≡ 32 = has.count in
    let sp : register (written m registers.Sp n) registers.Sp ≡ n = register-written_same m registers.Sp n (omega (arith, few)) refl in
    let gp : register (written m registers.Sp n) registers.Gp ≡ register m registers.Gp = register-written_other m registers.Sp registers.Gp n (λ e. absurd (omega (arith, e))) in
    λ i. record { lo = m.lo; hi = m.hi; sp = sp i; gp = gp i }

pub like_written : (m : State) (n : ℕ) → n < 2 ^ 64 → IsLike m (written m registers.Sp n)
like_written m n less = record {
  lo = lo-written m registers.Sp n;
  hi = hi-written m registers.Sp n;
  registers = λ is. record { count = length-written m registers.Sp n ∙ is.count; origin = zero-written m registers.Sp n ∙ is.origin };
  values = λ is. values-written m registers.Sp n is less;
}

-- of a worker without a thread
raised_frames : (s : Exports) (m : State) (limit : ℕ) → HasRegisters m → IsLimit s.hi s.exported limit → Framed s (ends_of m) [] → Framed s (ends_of (written m registers.Sp limit)) []
raised_frames s m limit has is framed =
    shrinking_frames (λ q. true) s s (ends_of m) (ends_of (written m registers.Sp limit)) [] None (shrunks.Done limit) framed (λ f there z. contains_none f there) refl refl refl (refl, ends_raised m limit has, (limit, is, refl))

pub none_raised : (x : Automaton) (t : Turns) (u : View) (h : Heard) (limit : ℕ) → HasRegisters x.machine → IsLimit x.stack.hi x.stack.exported limit → t.machine ≡ written x.machine registers.Sp limit → HasNone x u [] → HasNone (turned t x) (hears h u) []
none_raised x t u h limit has is same none =
    let above : register x.machine registers.Sp ≤ limit = none.lies.framed.stack.limit limit is in
    let used : x.stack.hi ≤ register x.machine registers.Sp + u.frame_bytes = none.lies.used in
    let few : length x.machine.registers ≡ 32 = has.count in
    let sp : register (written x.machine registers.Sp limit) registers.Sp ≡ limit = register-written_same x.machine registers.Sp limit (omega (arith, few)) refl in
    none_at x t u h [] (ap (λ (m : State). m.pc) same)
    (subst (λ m. Framed x.stack (ends_of m) []) (sym same) (raised_frames x.stack x.machine limit has is none.lies.framed))
    (subst (λ m. x.stack.hi ≤ register m registers.Sp + u.frame_bytes) (sym same) (omega (arith, above, used, sp))) none

-- ---- the word that is looked at

-- only held words and exported frames change
look_back : (u : View) (q : ℕ) (words : List (Option ℕ)) (o : Option Frame) → taken_back q words o u ≡ record u { held = (taken_back q words o u).held; exported = (taken_back q words o u).exported }
look_back u q words None = refl
look_back u q words (Some f) = refl

look_view : (u : View) (q n : ℕ) (cargo : Cargo) → view_after u (Look q) (Looked n cargo) ≡ record u { held = (view_after u (Look q) (Looked n cargo)).held; exported = (view_after u (Look q) (Looked n cargo)).exported }
unfolding view_after
look_view u q zero cargo = look_back u q cargo.words (frame_returning q u.exported)
look_view u q (suc n) cargo = refl

-- the words of a worker's own stack are on the board
place_on : (n w stack : ℕ) (f : Frame) → n < w → IsRange (2147483648 + n * stack) (2147483648 + n * stack + stack) → IsFrameOn (2147483648 + n * stack) (2147483648 + n * stack + stack) f → return_place f < w * (stack / 8)
place_on n w stack f less range on =
    let e : ℕ = stack / 8 in
    let low = range.low_even in
    let high = range.high_even in
    let whole : stack ≡ 8 * (stack / 8) = omega (arith, low, high) in
    let all : n * stack ≡ 8 * (n * (stack / 8)) = ap (λ k. n * k) whole ∙ mul_left_comm n 8 (stack / 8) in
    let more : suc n * (stack / 8) ≤ w * (stack / 8) = mul-le-mul_right (stack / 8) less in
    let from = on.from in
    let some = on.some in
    let to = on.to in
    let one : suc n * (stack / 8) ≡ n * (stack / 8) + stack / 8 = omega arith in
    omega (arith, whole, all, more, from, some, to, one)

-- ---- a frame is taken back

-- the exported frames of another view are those but one
module _ (x : Automaton) (u : View) (f : Frame) (s : Exports) (cargo : Cargo) (leased : KeepsLeased u) (there : Contains u.exported f) (within : return_place f < length u.held) (told : Promises u (Look (return_place f)) (Looked 0 cargo)) where
  abbrev back : View
  back = view_after u (Look (return_place f)) (Looked 0 cargo)

  one_each : OneEach u
  one_each = apart_each u leased.apart

  still_there : (g : Frame) → Contains back.exported g → Contains u.exported g × (g ≢ f)
  still_there g at = (look_laws.were u (return_place f) 0 cargo g at, λ same. look_laws.gone u f cargo there (subst (Contains back.exported) same at))

  stays_there : (g : Frame) → Contains u.exported g → g ≢ f → Contains back.exported g
  stays_there g at other = look_laws.stay u (return_place f) 0 cargo g (λ same. other (one_each g f (inl at) (inl there) same)) at

  -- of a worker without a thread no word of a leased frame is held
  none_held : HasNone x u [] → (g : Frame) → IsLeased back g → HoldsWord back (return_place g) → ⊥
  none_held none g is (n, held) = ⊎_elim (λ at. exported at (still_there g at)) (λ at. away (subst (λ (fs : List Frame). Contains fs g) (look_laws.away u (return_place f) 0 cargo) at)) is
    where
      of_other : IsLeased u g → (Inside f (return_place g) → ⊥) → ⊥
      of_other is out = contains_none g (none.leases g is (n, sym (look_laws.others u f cargo (return_place g) one_each there out) ∙ held))

      exported : Contains back.exported g → Contains u.exported g × (g ≢ f) → ⊥
      exported at (was, other) = of_other (inl was) (λ inside. other (leased.apart.apart g f (return_place g) (inl was) (inl there) (return_inside g (leased.apart.some_word g (inl was))) inside))

      away : Contains u.away g → ⊥
      away at = contains_none g (none.leases g (inr at) (leased.holds g (return_place g) at (return_inside g (leased.apart.some_word g (inr at)))))

-- with these held words and exported frames
abbrev with_frames : List (Option ℕ) → List Frame → View → View
with_frames held exported u = record u { held = held; exported = exported }

module _ (p : Program) (d : Data) (limits : Limits) (image : Image) (input : List ℕ) (x : Automaton) (u : View) (ready : IsReady p d limits image input x u) (e : x.phase ≡ phases.Settled) where
  has_none : HasNone x u []
  has_none = (by_in p d limits image input x u ready phases.Settled e).0

  -- it fits the view with fewer exported frames
  fewer_fits : (s : Exports) (held : List (Option ℕ)) (exported : List Frame) → s.lo ≡ x.stack.lo → s.hi ≡ x.stack.hi → length held ≡ length u.held → ((f : Frame) → Contains s.exported f → Contains exported f) → ((f : Frame) → Contains exported f → Contains s.exported f)
      → Framed s (ends_of x.machine) [] → ((g : Frame) → IsLeased (with_frames held exported u) g → HoldsWord (with_frames held exported u) (return_place g) → ⊥) → FitsIn p d limits image input (record x { stack = s }) (with_frames held exported u)
  fewer_fits s held exported lo hi words to from framed no_lease =
      let is = ready.fits.is_for in
      let holds = ready.fits.holds in
      let none = has_none in
      let bag = (by_in p d limits image input x u ready phases.Settled e).1 in
      record {
        is_for = record {
          code = is.code;
          size = is.size;
          source = is.source;
          instructions = is.instructions;
          begins = is.begins;
          input_is = is.input_is;
          steps = is.steps;
          cells = is.cells;
          room = is.room;
          ready_room = is.ready_room;
          lo = lo ∙ is.lo;
          hi = hi ∙ is.hi;
          low = is.low ∙ sym lo;
          high = is.high ∙ sym hi;
        };
        holds = record {
          number = holds.number;
          below = holds.below;
          workers = holds.workers;
          few_workers = holds.few_workers;
          cells = holds.cells;
          few_cells = holds.few_cells;
          each = holds.each;
          words = words ∙ holds.words;
          notes = holds.notes;
          items = holds.items;
          frame_bytes = holds.frame_bytes;
          few_items = holds.few_items;
          few_bytes = holds.few_bytes;
          not_open = holds.not_open;
          ready_once = holds.ready_once;
          ready = holds.ready;
          all_ready = holds.all_ready;
          asked = holds.asked;
          asked_other = holds.asked_other;
          exported = to;
          all_exported = from;
          last = holds.last;
          registers = holds.registers;
          values = holds.values;
        };
        by = subst (λ φ. ByPhase p d limits φ (record x { stack = s }) (with_frames held exported u)) (sym e) (
          record {
            is = none.is;
            place = none.place;
            lies = record { framed = framed; used = subst (λ n. n ≤ register x.machine registers.Sp + u.frame_bytes) (sym hi) none.lies.used; away = λ f there. absurd (contains_none f there) };
            leases = λ g is held. absurd (no_lease g is held);
          },
          record { chains = bag.chains; hand = bag.hand; share = bag.share; drawn = bag.drawn; child = bag.child; answering = bag.answering; given = bag.given; root = bag.root },
        );
      }

  -- the exported frame is one of the view, and its return word is on the board
  range : IsRange x.stack.lo x.stack.hi
  range = has_none.lies.framed.stack.range

  look_within : (f : Frame) → IsFrameOn x.stack.lo x.stack.hi f → return_place f < length u.held
  look_within f on =
      let is = ready.fits.is_for in
      let holds = ready.fits.holds in
      let less : x.number < u.workers = subst (λ n. n < u.workers) (sym holds.number) holds.below in
      subst (λ n. return_place f < n) (sym (holds.words ∙ ap (λ k. u.workers * k) holds.each))
      (place_on x.number u.workers limits.stack f less (subst (λ n. IsRange (2147483648 + x.number * limits.stack) n) is.hi (subst (λ n. IsRange n x.stack.hi) is.lo range)) (subst (λ n. IsFrameOn (2147483648 + x.number * limits.stack) n f) is.hi (subst (λ n. IsFrameOn n x.stack.hi f) is.lo on)))

  on_stack : (f : Frame) → Contains x.stack.exported f → IsFrameOn x.stack.lo x.stack.hi f
  on_stack f there = has_none.lies.framed.stack.on f there

  -- ---- what it may ask

  ask_look : (f : Frame) → Contains x.stack.exported f → MayAsk p d limits u (Look (return_place f))
  unfolding after
  ask_look f there = record {
    safe = record {
      can = ((f, ready.fits.holds.exported f there, refl), look_within f (on_stack f there));
      careful = record { writes = tt; puts = tt; takes = tt; stores = tt; changes = tt; lowers = tt; draws = tt; stops = tt };
    };
    event = λ a told. by a told;
  }
    where
      by : (a : Answer) → Promises u (Look (return_place f)) a → NoItem u (after p d u (Look (return_place f)) a)
      by (Looked n cargo) told = let is = look_view u (return_place f) n cargo in record { threads = refl; items = ap (λ (v : View). v.items) is; bytes = ap (λ (v : View). v.frame_bytes) is }
      by (Number n) told = absurd told
      by Done told = absurd told
      by (Took chain cargo) told = absurd told

  pub may_shrink : MayShrink (λ s. MayAsk p d limits u s) (λ s a. Promises u s a) (λ slot chain. goes_with p u slot chain) image input x
  may_shrink =
      let is = ready.fits.is_for in
      let holds = ready.fits.holds in
      let below : u.number < u.workers = holds.below in
      let few : u.workers ≤ 16 = holds.few_workers in
      let number = holds.number in
      let lo = is.lo in
      let hi = is.hi in
      record {
        stack = record { worker = omega (arith, below, few, number); low = (limits.stack, lo, hi ∙ ap (λ n. n + limits.stack) (sym lo)) };
        looks = λ f lowest on. ask_look f lowest.there;
      }

  -- ---- and what it does

  abbrev Steps : Frame → ℕ → View → Type 0
  Steps f n v = (cargo : Cargo) × Told p d limits u (Look (return_place f)) (Looked n cargo) v

  -- a frame is taken back
  more_fits : (f : Frame) (s : Exports) (v : View) → IsLowest x.stack.exported f → Steps f 0 v → IsWithout x.stack.exported f s.exported → s.lo ≡ x.stack.lo → s.hi ≡ x.stack.hi → FitsIn p d limits image input (record x { stack = s }) v
  unfolding after
  more_fits f s v lowest (cargo, told) less lo hi =
      let holds = ready.fits.holds in
      let there : Contains u.exported f = holds.exported f lowest.there in
      let leased : KeepsLeased u = ready.tidy.leased in
      let within = look_within f (on_stack f lowest.there) in
      let w : View = view_after u (Look (return_place f)) (Looked 0 cargo) in
      let is : v ≡ with_frames w.held w.exported u = told.is ∙ ap (λ (k : View). record k { threads = u.threads }) (look_view u (return_place f) 0 cargo) in
      fits_as p d limits image input _ _ v _ refl is
      (fewer_fits s w.held w.exported lo hi (size_laws.held u (Look (return_place f)) (Looked 0 cargo))
      (λ g at. let other : g ≢ f = (λ same. less.gone (subst (Contains s.exported) same at)) in stays_there x u f s cargo leased there within told.promised g (holds.exported g (less.were g at)) other)
      (λ g at. let was = still_there x u f s cargo leased there within told.promised g at in less.stay g was.1 (holds.all_exported g was.0))
      (shrinking_frames (λ q. true) x.stack s (ends_of x.machine) (ends_of x.machine) [] None shrunks.More has_none.lies.framed (λ g at z. contains_none g at) refl lo hi (refl, (f, lowest, refl, less)))
      (λ g is held. none_held x u f s cargo leased there within told.promised has_none g (subst_lease g is) held))
    where
      subst_lease : (g : Frame) → IsLeased (with_frames (view_after u (Look (return_place f)) (Looked 0 cargo)).held (view_after u (Look (return_place f)) (Looked 0 cargo)).exported u) g → IsLeased (view_after u (Look (return_place f)) (Looked 0 cargo)) g
      subst_lease g (inl at) = inl at
      subst_lease g (inr at) = inr (subst (λ (fs : List Frame). Contains fs g) (sym (look_laws.away u (return_place f) 0 cargo)) at)

  -- sp comes to the limit
  rises : (φ : Phase) (next : Phase) (since limit : ℕ) (v : View) → next ≡ φ → IsCalm φ → IsLimit x.stack.hi x.stack.exported limit → Unmoved u v
      → (Idle p d limits (record x { machine = written x.machine registers.Sp limit; since = since; phase = next }) (hears (heard_of v) u) (units 0) → ByPhase p d limits φ (record x { machine = written x.machine registers.Sp limit; since = since; phase = next }) (hears (heard_of v) u))
      → FitsIn p d limits image input (record x { machine = written x.machine registers.Sp limit; since = since; phase = next }) (hears (heard_of v) u)
  rises φ next since limit v is calm limit_is moved by =
      let t : Turns = record (to_phase next x) { since = since; machine = written x.machine registers.Sp limit } in
      let stack = has_none.lies.framed.stack in
      let within : limit ≤ x.stack.hi = limit_within x.stack (ends_of x.machine) limit stack limit_is in
      let high : x.stack.hi < 2147483648 + 2 ^ 32 = stack.high in
      let bag = (by_in p d limits image input x u ready phases.Settled e).1 in
      round_fits p d limits image input x t u (heard_of v) φ is (like_written x.machine limit (omega (arith, within, high))) (calm_in p d limits image input x u ready phases.Settled e (record { none = refl; most = λ n. refl; taking = refl })) calm
      (record { asked = moved.asked ∙ ready.fits.holds.asked; other = ready.fits.holds.asked_other; last = ready.fits.holds.last }) ready.fits
      (by (none_raised x t u (heard_of v) limit ready.fits.holds.registers limit_is refl has_none, bag_heard (units 0) u (heard_of v) false false bag (moved.answering ∙ bag.answering) (moved.given ∙ bag.given) (moved.root ∙ bag.root)))

  -- the least exported frame lives still
  lives : (f : Frame) (n limit : ℕ) (s : Exports) (v : View) → n ≢ 0 → Steps f n v → IsLimit x.stack.hi x.stack.exported limit → s ≡ x.stack → FitsIn p d limits image input (with_phase phases.Stop (with_sp limit (record x { stack = s }))) v
  unfolding after
  lives f n limit s v alive (cargo, told) limit_is same =
      let is : v ≡ u = told.is ∙ ap (λ (k : View). record k { threads = u.threads }) (look_laws.alive u (return_place f) n cargo alive) in
      fits_as p d limits image input _ _ v _ (ap (λ (k : Exports). with_phase phases.Stop (with_sp limit (record x { stack = k }))) same) is
      (rises phases.Stop phases.Stop x.since limit u refl (record { none = refl; most = λ n. refl; taking = refl }) limit_is (record { asked = refl; answering = refl; given = refl; root = refl }) (λ idle. idle))

  stops : (b : Bool) (limit n : ℕ) → IsLimit x.stack.hi x.stack.exported limit → FitsIn p d limits image input (record x { machine = written x.machine registers.Sp limit; since = 0; phase = if b then phases.Active else x.phase }) (hears (heard_of (view_after u StopLoad (Number n))) u)
  stops true limit n is = rises phases.Active phases.Active 0 limit (view_after u StopLoad (Number n)) refl (record { none = refl; most = λ n. refl; taking = refl }) is (stop_unmoved u n) (λ idle. idle)
  stops false limit n is = rises phases.Settled x.phase 0 limit (view_after u StopLoad (Number n)) e (record { none = refl; most = λ n. refl; taking = refl }) is (stop_unmoved u n) (λ idle. idle)

  shrinks : (shrunk : Shrunk) (y : Automaton) (old v : View) → x.stack.exported ≢ [] → Shrinks p d limits u old x.stack.hi x.stack.exported y.stack.exported None shrunk v → IsShrunkIdle shrunk x y → FitsIn p d limits image input y v
  shrinks shrunks.More y old v some (f, lowest, steps, less) (is, lo, hi) = fits_as p d limits image input y _ v v is refl (more_fits f y.stack v lowest steps less lo hi)
  shrinks (shrunks.Done sp) y old v some (same, (limit, limit_is, at), inl (none, left)) is = absurd (some none)
  shrinks (shrunks.Done sp) y old v some (same, (limit, limit_is, at), inr (f, n, lowest, steps, alive)) (is, lo, hi) =
      let stack : y.stack ≡ x.stack = λ i. record { exported = same i; lo = lo i; hi = hi i } in
      fits_as p d limits image input y _ v v (is ∙ ap (λ n. with_phase phases.Stop (with_sp n (record x { stack = y.stack }))) at) refl (lives f n limit y.stack v alive steps limit_is stack)

  -- there is an exported frame where the limit isn't the end of the stack
  some_exported : (limit : ℕ) → IsLimit x.stack.hi x.stack.exported limit → limit ≢ x.machine.hi → x.stack.exported ≢ []
  some_exported limit (inl (none, is)) other empty = other (is ∙ sym ready.fits.is_for.high)
  some_exported limit (inr (f, lowest, is)) other empty = contains_none f (subst (λ (fs : List Frame). Contains fs f) empty lowest.there)

  begins : (b : Bool) (limit : ℕ) (y : Automaton) (old v : View) (turn : Turn) → (limit == x.machine.hi) ≡ b → IsLimit x.stack.hi x.stack.exported limit
      → RoundBegins (λ fs fs' top shrunk b. Shrinks p d limits u old x.stack.hi fs fs' top shrunk b) (λ s a b. Told p d limits u s a b) b x turn y v → FitsIn p d limits image input y v
  begins true limit y old v turn is limit_is (n, told, same, ran) =
      let at : limit ≡ x.machine.hi = eqb-true limit x.machine.hi is in
      fits_as p d limits image input y _ v _ same (told.is ∙ stop_heard p d u n) (stops (n == 0) x.machine.hi n (subst (λ k. IsLimit x.stack.hi x.stack.exported k) at limit_is))
  begins false limit y old v turn is limit_is (shrunk, does, left, ran) = shrinks shrunk y old v (some_exported limit limit_is (eqb-false limit x.machine.hi is)) does left

  pub settled_fits : (y : Automaton) (old v : View) (turn : Turn) → Does p d limits image input u old x turn y v phases.Settled → FitsIn p d limits image input y v
  settled_fits y old v turn (limit, is, does) = begins (limit == x.machine.hi) limit y old v turn refl is does
