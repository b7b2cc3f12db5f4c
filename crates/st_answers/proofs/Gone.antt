-- The bottom thread was given away: its chain is to go to the worker that asks. Read given_fits (the worker fits the view in which the thread has become a chain).
use Rattle.std.proofs.Common.{◌≡◌, ◌≢◌, ◌⊎◌, inl, inr, ⊎_elim, ℕ, suc, ◌+◌, ◌*◌, ◌/◌, ◌<◌, ◌≤◌, List, [], ◌∷◌, Option, Some, None, refl, sym, ap, ◌∙◌, subst, arith}
use Rattle.std.specs.List.{Contains}
use Rattle.std.proofs.Math.Nat.{div-mul-le_self, lt-div-mul-add, mul_left_comm}
use Rattle.std.proofs.lemmas.List.Elements.{Contains-append_right, Contains-append_cases}
use Rattle.st_base.specs.declared.chain.Chain.{Chain}
use Rattle.st_base.specs.declared.chain.Frame.{Frame}
use Rattle.st_base.specs.declared.chain.Waiting.{Waiting}
use Rattle.st_base.specs.declared.chain.Waiting.TheVariants as waits
use Rattle.st_base.specs.declared.image.Image.{Image}
use Rattle.st_base.specs.declared.limits.Limits.{Limits}
use Rattle.st_words.specs.declared.view.Carried.{Carried}
use Rattle.st_words.specs.declared.view.Known.{Known}
use Rattle.st_words.specs.declared.view.View.{View}
use Rattle.st_words.specs.Moves.{given_chain}
use Rattle.st_words.specs.Steps.{IsLeased, home_of, return_place, some_thread}
use Rattle.st_words.proofs.Lists.{contains_here, contains_case, contains_none}
use Rattle.st_model.specs.declared.code.Layout.TheVariants.{Postprocessed}
use Rattle.st_model.specs.declared.program.Program.{Program}
use Rattle.st_model.specs.Accepted.{IsAccepted}
use Rattle.st_model.specs.Memory.{Data}
use Rattle.st_items.specs.Code.{IsSized}
use Rattle.st_stack.specs.Exported.{Exports, IsFrameOn, IsRange}
use Rattle.st_chain.specs.Chains.{CanGoOn, HasBegun, StandsFor, saved_value}
use Rattle.st_chain.specs.Logical.{Threads}
use Rattle.st_chain.specs.Seen.{IsWhole}
use Rattle.st_chain.specs.Taking.{IsTaken, TopStands, notes_of}
use Rattle.st_framed.specs.Framed.{AreRising, IsElsewhere}
use Rattle.st_phases.specs.declared.automaton.Automaton.{Automaton}
use Rattle.st_phases.specs.declared.phase.Phase.{Phase}
use Rattle.st_phases.specs.declared.phase.Phase.TheVariants as phases
use Rattle.st_phases.specs.Automaton.{with_phase}
use Rattle.st_fits.specs.Fits.{FitsIn, HasToGo, taken_of, most_items}
use Rattle.st_fits.specs.Laws.{IsReady}
use Rattle.st_fits.specs.Threads.{Carries, GivesOut, Polls}
use Rattle.st_kept.proofs.Keeping.{same_for}
use Rattle.st_answers.proofs.Given.{given_laid}
use Rattle.st_answers.proofs.Going.{with_left, joined_middle}
use Rattle.st_answers.proofs.Polling.{by_in}
use Rattle.st_answers.proofs.Staying.{with_given, staying_rests}
use Rattle.st_answers.proofs.Turned.{IsReadyIn, ready_of, thread_one, words_held}

-- ---- whose stack a frame is on

-- a frame elsewhere has its return word elsewhere
not_home : (n e stack lo hi : ℕ) (f : Frame) → lo ≡ 0x8000_0000 + n * stack → hi ≡ lo + stack → IsRange lo hi → e ≡ stack / 8 → IsWhole f → IsElsewhere lo hi f → home_of e (return_place f) ≡ n → ⊥
not_home n e stack lo hi f low high range each whole away home =
    let low_even = range.low_even in
    let high_even = range.high_even in
    let some = range.some in
    let size : stack ≡ 8 * e = omega (arith, low_even, high_even, high, each) in
    let all : n * stack ≡ 8 * (n * e) = ap (λ (k : ℕ). n * k) size ∙ mul_left_comm n 8 e in
    let q : ℕ = return_place f in
    let least : q / e * e ≤ q = div-mul-le_self q e in
    let most : q < q / e * e + e = lt-div-mul-add (omega (arith, size, some, high)) in
    let same : q / e * e ≡ n * e = ap (λ (k : ℕ). k * e) home in
    let above = whole.above in
    let wide = whole.some in
    let low_frame = whole.even.low in
    let base_frame = whole.even.base in
    ⊎_elim (λ (under : f.base ≤ lo). omega (arith, under, low, all, least, same, above, wide)) (λ (over : hi ≤ f.low). omega (arith, over, low, high, all, size, most, same, above, wide)) away

-- of frames that lie somewhere each is on the stack or elsewhere, or was exported
rising_on : (s : Exports) (n : ℕ) (fs : List Frame) (f : Frame) → AreRising s n fs → Contains fs f → IsFrameOn s.lo s.hi f
rising_on s n [] f rising there = absurd (contains_none f there)
rising_on s n (g ∷ gs) f (low, on, own, rest) there = ⊎_elim (λ (same : g ≡ f). subst (IsFrameOn s.lo s.hi) same on) (λ later. rising_on s g.base gs f rest later) (contains_case f g gs there)

no_chain_more : (x y : Carried) → Contains (x ∷ []) y → y ≡ x
no_chain_more x y there = ⊎_elim (λ (same : x ≡ y). sym same) (λ (none : Contains [] y). absurd (contains_none y none)) (contains_case y x [] there)

module _ (p : Program) (d : Data) (limits : Limits) (image : Image) (input : List ℕ) (x : Automaton) (u : View) (ready : IsReady p d limits image input x u) (asker : ℕ) (e : x.phase ≡ phases.Giving asker) where
  abbrev pub g : GivesOut p d x u
  g = (by_in p d limits image input x u ready (phases.Giving asker) e).0

  accepted : IsAccepted p
  accepted = ready.fits.is_for.code.accepted

  module _ (s : Exports) (threads : Threads) (chain : Chain) (exported : List Frame) (none : g.t.below ≡ []) (no_frames : g.t.below_frames ≡ []) (is_ready : g.t.wait ≡ waits.Ready) (lo : s.lo ≡ x.stack.lo) (hi : s.hi ≡ x.stack.hi) (taken : IsTaken g.t g.t.held chain s) (among : (f : Frame) → Contains exported f → Contains s.exported f) (all : (f : Frame) → Contains s.exported f → Contains exported f) (stands : TopStands g.t.p g.t.names g.t.held x.machine g.t.above g.t.above_frames) (notes : threads.notes ≡ notes_of g.t.above) (room : threads.room ≡ x.threads.room) (open_is : threads.open ≡ None) where
    abbrev carried : Carried
    carried = given_chain g.t.taken

    abbrev y : Automaton
    y = with_phase (phases.Mailing asker chain) (with_left s threads x)

    abbrev w : View
    w = with_given g.t.above (carried ∷ []) exported u

    wait_is : chain.wait ≡ waits.Ready
    wait_is = taken.is_wait ∙ is_ready

    laid : (f : Frame) → Contains g.t.frames f → IsWhole f
    laid f there =
        (given_laid g.t (subst IsAccepted (sym g.of.program) accepted) (subst (IsSized Postprocessed) (sym g.of.program) ready.fits.is_for.size) x.threads.notes x.threads.open x.machine x.stack (suc g.n) g.gives f there).0.whole

    -- each of its frames is exported or away
    frame_lies : (f : Frame) → Contains g.t.frames f → Contains exported f ⊎ IsElsewhere x.stack.lo x.stack.hi f
    frame_lies f there =
        let framed = g.of.framed in
        ⊎_elim (λ (young : Contains framed.young f). inl (all f (taken.exported.all f (g.of.will.come f there (rising_on g.of.start _ framed.young f framed.rising young)))))
        (λ (old : Contains framed.old f). ⊎_elim (λ was. inl (all f (taken.exported.all f (g.of.will.stay f was)))) (λ (away : IsElsewhere g.of.start.lo g.of.start.hi f). inr (subst (λ (l : ℕ). IsElsewhere l x.stack.hi f) g.of.lo (subst (λ (h : ℕ). IsElsewhere g.of.start.lo h f) g.of.hi away))) (framed.others f old))
        (Contains-append_cases framed.young framed.old f (subst (λ (fs : List Frame). Contains fs f) framed.parts (joined_middle g.t.above_frames g.t.below_frames g.t.frames f there)))

    is_leased : (f : Frame) → Contains g.t.frames f → IsLeased w f
    is_leased f there = ⊎_elim (λ here. inl here) (λ away. inr (g.of.away f (joined_middle g.t.above_frames g.t.below_frames g.t.frames f there) away)) (frame_lies f there)

    own : (f : Frame) → Contains g.t.frames f → home_of u.each (return_place f) ≡ u.number → Contains exported f
    own f there home =
        let is = ready.fits.is_for in
        let holds = ready.fits.holds in
        let number = holds.number in
        ⊎_elim (λ here. here)
        (λ away.
        absurd (not_home x.number u.each limits.stack x.stack.lo x.stack.hi f is.lo (is.hi ∙ ap (λ (n : ℕ). n + limits.stack) (sym is.lo)) (range_of g.of.framed.stack.range) holds.each (laid f there) away (home ∙ sym number)))
        (frame_lies f there)
      where
        range_of : IsRange g.of.start.lo g.of.start.hi → IsRange x.stack.lo x.stack.hi
        range_of range = subst (λ (l : ℕ). IsRange l x.stack.hi) g.of.lo (subst (λ (h : ℕ). IsRange g.of.start.lo h) g.of.hi range)

    in_threads : Contains u.threads g.t.taken
    in_threads = subst (λ (ts : List Known). Contains ts g.t.taken) g.of.threads (Contains-append_right g.t.above (g.t.taken ∷ g.t.below) g.t.taken (contains_here g.t.taken g.t.below))

    chain_stands : StandsFor p u.names u.held chain.wait chain.pc chain.fp (saved_value chain.saved) g.t.taken.thread g.t.frames
    chain_stands =
        subst (λ (q : Program). StandsFor q u.names u.held chain.wait chain.pc chain.fp (saved_value chain.saved) g.t.taken.thread g.t.frames) g.of.program
        (subst (λ ns. StandsFor g.t.p ns u.held chain.wait chain.pc chain.fp (saved_value chain.saved) g.t.taken.thread g.t.frames) g.of.names
        (subst (λ (h : List (Option ℕ)). StandsFor g.t.p g.t.names h chain.wait chain.pc chain.fp (saved_value chain.saved) g.t.taken.thread g.t.frames) g.of.held taken.stands))

    carries : Carries p d w chain (Some 1) carried g.t.frames
    carries =
        let plain = g.plain g.t.taken in_threads in
        record {
          only = refl;
          has = record {
            there = contains_here carried [];
            single = λ z there same. no_chain_more carried z there;
            note = sym taken.is_note;
            cell = ap (λ k. k.cell) taken.is_note ∙ sym taken.is_cell;
            wait = sym wait_is;
            stands = inr (chain_stands, subst (λ (wait : Waiting). CanGoOn p wait g.t.taken.thread) (sym wait_is) plain.going);
            begun = subst (λ (wait : Waiting). HasBegun wait g.t.taken.begun) (sym wait_is) plain.not_yet;
            leased = is_leased;
            own = own;
            knows = λ name is has. ready.tidy.names.knows name is (inl (g.t.taken, in_threads, has));
          };
          stands = refl;
          below = subst (λ (c : ℕ). c < u.cells) (sym taken.is_cell) (ready.tidy.numbers.below g.t.taken.note.cell (inl (g.t.taken, in_threads, refl)));
        }

    -- the threads above rest
    rests : Polls p d y w g.t.frames
    rests = staying_rests p d accepted x u g s threads (phases.Mailing asker chain) chain (carried ∷ []) exported none no_frames lo hi taken among ready.fits.holds.exported (words_held u.held ready.behind.words) stands

    some_above : g.t.above ≢ []
    some_above nothing = let polls = rests in let no : polls.top ∷ polls.below ≡ [] = sym polls.is ∙ nothing in some_first polls.top polls.below no
      where
        some_first : (k : Known) (ks : List Known) → k ∷ ks ≡ [] → ⊥
        some_first k ks is = cc

    to_go : HasToGo p d limits asker chain 1 y w
    to_go =
        let b = by_in p d limits image input x u ready (phases.Giving asker) e in
        let share : u.share ≡ 2 = b.1.share in
        let one : some_thread g.t.above ≡ 1 = thread_one g.t.above some_above in
        record {
          carried = carried;
          frames = g.t.frames;
          carries = carries;
          bag = record { chains = refl; hand = b.1.hand; share = share ∙ sym (ap (λ (n : ℕ). n + 1) one); drawn = b.1.drawn; child = b.1.child; answering = b.1.answering; given = b.1.given; root = b.1.root };
          goes = λ trapped. not_trapped (sym wait_is ∙ trapped);
          rests = inr rests;
          asks = b.2;
        }
      where
        not_trapped : waits.Ready ≡ waits.Trapped → ⊥
        not_trapped is = cc

    pub given_fits : FitsIn p d limits image input y w
    given_fits =
        let h = ready.fits.holds in
        let r : IsReadyIn x.ready.numbers u = ready_of p d limits image input x u h (ap taken_of e) in
        record {
          is_for = same_for p d limits image input x y ready.fits.is_for (record { number = refl; code = refl; length_is = refl; steps = refl; cells = refl; room = room; ready_room = refl; lo = lo; hi = hi; low = refl; high = refl });
          holds = record {
            number = h.number;
            below = h.below;
            workers = h.workers;
            few_workers = h.few_workers;
            cells = h.cells;
            few_cells = h.few_cells;
            each = h.each;
            words = h.words;
            notes = notes;
            items = h.items;
            frame_bytes = h.frame_bytes;
            few_items = subst (λ (φ : Phase). x.items ≤ most_items φ limits.steps) e h.few_items;
            few_bytes = h.few_bytes;
            ready_once = r.once;
            ready = r.ready;
            all_ready = r.all_ready;
            asked = h.asked;
            asked_other = h.asked_other;
            exported = all;
            all_exported = among;
            last = h.last;
            not_open = λ calm. open_is;
            registers = h.registers;
            values = h.values;
          };
          by = to_go;
        }
