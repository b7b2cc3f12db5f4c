-- A worker that polls takes back frames that its stack lent, and sp rises. Read may_shrink, shrinking_fits.
use Rattle.std.proofs.Common.{◌≡◌, ◌≢◌, inl, inr, ⊎_elim, ◌⊎◌, ℕ, zero, suc, ◌+◌, ◌*◌, ◌/◌, ◌^◌, ◌≤◌, ◌<◌, false, ◌==◌, List, [], ◌∷◌, ◌++◌, length, Option, Some, None, is_some, refl, sym, ap, ◌∙◌, subst, arith, eq-eqb}
use Rattle.std.specs.List.{Contains}
use Rattle.std.proofs.lemmas.Bool.{eqb-true}
use Rattle.std.proofs.lemmas.List.Elements.{Contains-append_left}
use Rattle.std.proofs.Math.Nat.{mul-le-mul_right, mul_left_comm}
use Rattle.st_base.specs.declared.chain.Frame.{Frame}
use Rattle.st_base.specs.declared.image.Image.{Image}
use Rattle.st_base.specs.declared.limits.Limits.{Limits}
use Rattle.st_base.specs.declared.reg.Reg.TheVariants as registers
use Rattle.st_words.specs.declared.view.Cargo.{Cargo}
use Rattle.st_words.specs.declared.view.Known.{Known}
use Rattle.st_words.specs.declared.view.View.{View}
use Rattle.st_words.specs.Laws.{OneEach}
use Rattle.st_words.specs.Leased.{KeepsLeased}
use Rattle.st_words.specs.Promises.{Promises}
use Rattle.st_words.specs.Steps.{Look, Answer, Done, Number, Looked, Took, Holds as HoldsWord, IsLeased, Inside, kept, return_place}
use Rattle.st_words.specs.Views.{view_after, taken_back, frame_returning}
use Rattle.st_words.proofs.Lists.{contains_here, contains_later, contains_none}
use Rattle.st_words.proofs.Looks.{look_laws}
use Rattle.st_words.proofs.Naming.{size_laws}
use Rattle.st_words.proofs.Returning.{apart_each, return_inside}
use Rattle.st_model.specs.declared.program.Program.{Program}
use Rattle.st_model.specs.Memory.{Data}
use Rattle.st_made.specs.Events.{NoItem}
use Rattle.st_made.specs.Runs.{all_known, known_of}
use Rattle.st_stack.specs.declared.stack.Shrunk.{Shrunk}
use Rattle.st_stack.specs.declared.stack.Shrunk.TheVariants as shrunks
use Rattle.st_stack.specs.Exported.{Exports, IsRange, IsFrameOn, IsLowest, IsWithout, IsLimit}
use Rattle.st_stack.specs.Shrinking.{lesser}
use Rattle.st_step.specs.declared.state.State.{State}
use Rattle.st_step.specs.Moves.{register, written}
use Rattle.st_step.specs.Runs.{HasRegisters, AreWords}
use Rattle.st_step.proofs.Writes.{length-written, lo-written, hi-written, zero-written, values-written, register-written_same, register-written_other}
use Rattle.st_items.specs.Rows.{AreAscending, row_behind}
use Rattle.st_cargo.specs.Cargo.{goes_with}
use Rattle.st_cargo.proofs.Words.{held_number}
use Rattle.st_chain.specs.Laws.{AllSameHeld}
use Rattle.st_chain.specs.Seen.{joined}
use Rattle.st_chain.specs.Walk.{word_in, number_or}
use Rattle.st_chain.proofs.Suspending.{rows_in}
use Rattle.st_framed.specs.Framed.{IsNewest, IsElsewhere, AreRising}
use Rattle.st_framed.proofs.Shrinking.{shrinking_frames}
use Rattle.st_framed.proofs.Stacks.{limit_within}
use Rattle.st_phases.specs.declared.automaton.Automaton.{Automaton}
use Rattle.st_phases.specs.declared.phase.Phase.{Phase}
use Rattle.st_phases.specs.declared.phase.Phase.TheVariants as phases
use Rattle.st_phases.specs.declared.turn.Turn.{Turn}
use Rattle.st_phases.specs.Polling.{with_sp, IsTopFrame, IsShrunk, AnswersOrRuns}
use Rattle.st_phases.specs.Turning.{MayShrink}
use Rattle.st_fits.specs.Bags.{HasBag, units, own_and}
use Rattle.st_fits.specs.Before.{after}
use Rattle.st_fits.specs.Fits.{ByPhase, FitsIn, IsAsked, taken_of, is_taking, most_items}
use Rattle.st_fits.specs.Laws.{Told, MayAsk, Does, IsReady, Shrinks}
use Rattle.st_fits.specs.Threads.{Polls, IsPlain, ends_of}
use Rattle.st_kept.proofs.Going.{poll_set, spares_gp}
use Rattle.st_kept.proofs.Keeping.{same_for}
use Rattle.st_kept.proofs.Laid.{poll_laid}
use Rattle.st_kept.proofs.Standing.{poll_over}
use Rattle.st_answers.proofs.Alive.{poll_returns, poll_newest}
use Rattle.st_answers.proofs.Polling.{by_in}
use Rattle.st_answers.proofs.Turned.{IsReadyIn, MakesMost, fits_as, ready_of, runs_fits, thread_one, words_held}

-- ---- the word that is looked at

-- only held words and exported frames change
look_back : (u : View) (q : ℕ) (words : List (Option ℕ)) (o : Option Frame) → taken_back q words o u ≡ record u { held = (taken_back q words o u).held; exported = (taken_back q words o u).exported }
look_back u q words None = refl
look_back u q words (Some f) = refl

look_view : (u : View) (q n : ℕ) (cargo : Cargo) → view_after u (Look q) (Looked n cargo) ≡ record u { held = (view_after u (Look q) (Looked n cargo)).held; exported = (view_after u (Look q) (Looked n cargo)).exported }
unfolding view_after
look_view u q zero cargo = look_back u q cargo.words (frame_returning q u.exported)
look_view u q (suc n) cargo = refl

-- the words of a worker's own stack are on the board
place_on : (n w stack : ℕ) (f : Frame) → n < w → IsRange (2147483648 + n * stack) (2147483648 + n * stack + stack) → IsFrameOn (2147483648 + n * stack) (2147483648 + n * stack + stack) f → return_place f < w * (stack / 8)
place_on n w stack f less range on =
    let e : ℕ = stack / 8 in
    let low = range.low_even in
    let high = range.high_even in
    let whole : stack ≡ 8 * (stack / 8) = omega (arith, low, high) in
    let all : n * stack ≡ 8 * (n * (stack / 8)) = ap (λ k. n * k) whole ∙ mul_left_comm n 8 (stack / 8) in
    let more : suc n * (stack / 8) ≤ w * (stack / 8) = mul-le-mul_right (stack / 8) less in
    let from = on.from in
    let some = on.some in
    let to = on.to in
    let one : suc n * (stack / 8) ≡ n * (stack / 8) + stack / 8 = omega arith in
    omega (arith, whole, all, more, from, some, to, one)

-- frames that have the same words
all_same : (held held' : List (Option ℕ)) (fs : List Frame) → ((f : Frame) (q : ℕ) → Contains fs f → Inside f q → kept held' q ≡ kept held q) → AllSameHeld held held' fs
all_same held held' [] same = tt
all_same held held' (f ∷ fs) same = (
  record {
    held = λ q inside is. ap is_some (same f q (contains_here f fs) inside) ∙ is;
    words = λ q inside. sym (ap number_or (same f q (contains_here f fs) inside));
  },
  all_same held held' fs (λ g q in' inside. same g q (contains_later g f fs in') inside),
)

-- with these held words and exported frames
abbrev with_frames : List (Option ℕ) → List Frame → View → View
with_frames held exported u = record u { held = held; exported = exported }

-- ---- sp rises

-- the ends of a machine whose sp is written
ends_raised : (m : State) (n : ℕ) → HasRegisters m → ends_of (written m registers.Sp n) ≡ record (ends_of m) { sp = n }
ends_raised m n has =
    let few : length m.registers ≡ 32 = has.count in
    let sp : register (written m registers.Sp n) registers.Sp ≡ n = register-written_same m registers.Sp n (omega (arith, few)) refl in
    let gp : register (written m registers.Sp n) registers.Gp ≡ register m registers.Gp = register-written_other m registers.Sp registers.Gp n (λ e. absurd (omega (arith, e))) in
    λ i. record { lo = m.lo; hi = m.hi; sp = sp i; gp = gp i }

first_frame : (f g : Frame) (fs gs : List Frame) → f ∷ fs ≡ g ∷ gs → f ≡ g
first_frame f g fs gs e = cc

-- the newest frame, where it is on the stack and not exported, lies above sp
newest_low : (s : Exports) (sp : ℕ) (f : Frame) (fs young old : List Frame) → f ∷ fs ≡ young ++ old → AreRising s sp young → ((g : Frame) → Contains old g → Contains s.exported g ⊎ IsElsewhere s.lo s.hi g) → IsFrameOn s.lo s.hi f → (Contains s.exported f → ⊥) → sp ≤ f.low
newest_low s sp f fs [] old parts rising others on own =
    let from = on.from in
    let some = on.some in
    let to = on.to in
    ⊎_elim (λ there. absurd (own there)) (λ (away : IsElsewhere s.lo s.hi f). ⊎_elim (λ (under : f.base ≤ s.lo). omega (arith, under, from, some)) (λ (over : s.hi ≤ f.low). omega (arith, over, some, to)) away) (others f (subst (λ (gs : List Frame). Contains gs f) parts (contains_here f fs)))
newest_low s sp f fs (g ∷ young) old parts (low, on', own', rest) others on own =
    let same : f ≡ g = first_frame f g fs (young ++ old) parts in
    subst (λ (h : Frame). sp ≤ h.low) (sym same) low

lesser_high : (s : Exports) (sp limit : ℕ) (frames young old : List Frame) (top : Option Frame) → sp ≤ limit → frames ≡ young ++ old → AreRising s sp young → ((g : Frame) → Contains old g → Contains s.exported g ⊎ IsElsewhere s.lo s.hi g) → IsNewest s frames top → sp ≤ lesser limit top
lesser_high s sp limit frames young old None above parts rising others newest = above
lesser_high s sp limit [] young old (Some top) above parts rising others newest = absurd (let no : ⊥ = cc in no)
lesser_high s sp limit (f ∷ fs) young old (Some top) above parts rising others (is, on, own) =
    let low : sp ≤ f.low = newest_low s sp f fs young old parts rising others on own in
    let same : top.low ≡ f.low = ap (λ (g : Frame). g.low) is in
    omega (arith, low, same, above)

lesser_low : (limit : ℕ) (top : Option Frame) → lesser limit top ≤ limit
lesser_low limit None = omega arith
lesser_low limit (Some f) = omega arith

module _ (p : Program) (d : Data) (limits : Limits) (image : Image) (input : List ℕ) (x : Automaton) (u : View) (ready : IsReady p d limits image input x u) (asker : Option ℕ) (e : x.phase ≡ phases.Shrinking asker) where
  polls : Polls p d x u []
  polls = (by_in p d limits image input x u ready (phases.Shrinking asker) e).0.0

  bag : HasBag (units 1) u
  bag = (by_in p d limits image input x u ready (phases.Shrinking asker) e).0.1

  asked : IsAsked p d limits asker u
  asked = (by_in p d limits image input x u ready (phases.Shrinking asker) e).1

  abbrev frames : List Frame
  frames = joined (polls.frames ∷ polls.lower)

  -- ---- what may be asked

  range : IsRange x.stack.lo x.stack.hi
  range = polls.lies.framed.stack.range

  look_within : (f : Frame) → IsFrameOn x.stack.lo x.stack.hi f → return_place f < length u.held
  look_within f on =
      let is = ready.fits.is_for in
      let holds = ready.fits.holds in
      let less : x.number < u.workers = subst (λ n. n < u.workers) (sym holds.number) holds.below in
      subst (λ n. return_place f < n) (sym (holds.words ∙ ap (λ k. u.workers * k) holds.each))
      (place_on x.number u.workers limits.stack f less (subst (λ n. IsRange (2147483648 + x.number * limits.stack) n) is.hi (subst (λ n. IsRange n x.stack.hi) is.lo range)) (subst (λ n. IsFrameOn (2147483648 + x.number * limits.stack) n f) is.hi (subst (λ n. IsFrameOn n x.stack.hi f) is.lo on)))

  on_stack : (f : Frame) → Contains x.stack.exported f → IsFrameOn x.stack.lo x.stack.hi f
  on_stack f there = polls.lies.framed.stack.on f there

  ask_look : (f : Frame) → Contains x.stack.exported f → MayAsk p d limits u (Look (return_place f))
  unfolding after
  ask_look f there = record {
    safe = record {
      can = ((f, ready.fits.holds.exported f there, refl), look_within f (on_stack f there));
      careful = record { writes = tt; puts = tt; takes = tt; stores = tt; changes = tt; lowers = tt; draws = tt; stops = tt };
    };
    event = λ a told. by a told;
  }
    where
      by : (a : Answer) → Promises u (Look (return_place f)) a → NoItem u (after p d u (Look (return_place f)) a)
      by (Looked n cargo) told = let is = look_view u (return_place f) n cargo in record { threads = refl; items = ap (λ (v : View). v.items) is; bytes = ap (λ (v : View). v.frame_bytes) is }
      by (Number n) told = absurd told
      by Done told = absurd told
      by (Took chain cargo) told = absurd told

  pub may_shrink : AreAscending 0 image.rows × MayShrink (λ s. MayAsk p d limits u s) (λ s a. Promises u s a) (λ slot chain. goes_with p u slot chain) image input x
  may_shrink =
      let is = ready.fits.is_for in
      let holds = ready.fits.holds in
      let below : u.number < u.workers = holds.below in
      let few : u.workers ≤ 16 = holds.few_workers in
      let number = holds.number in
      let lo = is.lo in
      let hi = is.hi in (
        rows_in p image is.code,
        record {
          stack = record { worker = omega (arith, below, few, number); low = (limits.stack, lo, hi ∙ ap (λ n. n + limits.stack) (sym lo)) };
          looks = λ f lowest on. ask_look f lowest.there;
        },
      )

  -- ---- a frame is taken back

  module _ (f : Frame) (cargo : Cargo) (s : Exports) (v : View) (lowest : IsLowest x.stack.exported f) (told : Told p d limits u (Look (return_place f)) (Looked 0 cargo) v) (less : IsWithout x.stack.exported f s.exported) (lo : s.lo ≡ x.stack.lo) (hi : s.hi ≡ x.stack.hi) (top : Option Frame) (newest : IsNewest x.stack frames top) where
    abbrev back : View
    back = view_after u (Look (return_place f)) (Looked 0 cargo)

    abbrev fewer : View
    fewer = with_frames back.held back.exported u

    there : Contains u.exported f
    there = ready.fits.holds.exported f lowest.there

    leased : KeepsLeased u
    leased = ready.tidy.leased

    one_each : OneEach u
    one_each = apart_each u leased.apart

    within : return_place f < length u.held
    within = look_within f (on_stack f lowest.there)

    still_there : (g : Frame) → Contains back.exported g → Contains u.exported g × (g ≢ f)
    still_there g at = (look_laws.were u (return_place f) 0 cargo g at, λ same. look_laws.gone u f cargo there (subst (Contains back.exported) same at))

    stays_there : (g : Frame) → Contains u.exported g → g ≢ f → Contains back.exported g
    stays_there g at other = look_laws.stay u (return_place f) 0 cargo g (λ same. other (one_each g f (inl at) (inl there) same)) at

    -- no frame of the threads is given up
    not_mine : (g : Frame) → Contains frames g → return_place g ≢ return_place f
    not_mine g mine same =
        let laid = poll_laid p ready.fits.is_for.code.accepted u.names u.held (ends_of x.machine) x.machine polls.top polls.frames polls.below polls.lower polls.at.1 g mine in
        let some = polls.lies.framed.some g mine in
        let above = laid.whole.above in
        let wide = laid.whole.some in
        let number = held_number u.held (return_place g) (laid.held (return_place g) (return_inside g (omega (arith, above, wide)))) in
        let zero_is : 0 ≡ number.0 = told.looks number.0 (subst (λ (q : ℕ). kept u.held q ≡ Some number.0) same number.1) in
        poll_returns p u.names u.held (ends_of x.machine) x.machine polls.top polls.frames polls.below polls.lower ready.fits.is_for.size polls.at.1 g mine (ap number_or number.1 ∙ sym zero_is)

    out_of : (g : Frame) (q : ℕ) → Contains frames g → Inside g q → Inside f q → ⊥
    out_of g q mine (low, high) (low', high') =
        ⊎_elim (λ (under : g.base ≤ f.low). omega (arith, under, low', high)) (λ (over : f.base ≤ g.low). omega (arith, over, low, high'))
        (polls.lies.framed.clear g f mine lowest.there (λ same. not_mine g mine (ap return_place same)))

    same_words : (g : Frame) (q : ℕ) → Contains frames g → Inside g q → kept back.held q ≡ kept u.held q
    same_words g q mine inside = look_laws.others u f cargo q one_each there (λ here. out_of g q mine inside here)

    still_mine : (g : Frame) → IsLeased fewer g → HoldsWord fewer (return_place g) → Contains (frames ++ []) g
    still_mine g (inl at) (n, held) =
        let was = still_there g at in
        let out : Inside f (return_place g) → ⊥ = λ inside. was.1 (leased.apart.apart g f (return_place g) (inl was.0) (inl there) (return_inside g (leased.apart.some_word g (inl was.0))) inside) in
        polls.leases g (inl was.0) (n, sym (look_laws.others u f cargo (return_place g) one_each there out) ∙ held)
    still_mine g (inr at) held = polls.leases g (inr at) (leased.holds g (return_place g) at (return_inside g (leased.apart.some_word g (inr at))))

    same_lo : (g : Frame) → IsElsewhere s.lo s.hi g → IsElsewhere x.stack.lo x.stack.hi g
    same_lo g away = subst (λ (n : ℕ). IsElsewhere n x.stack.hi g) lo (subst (λ (n : ℕ). IsElsewhere s.lo n g) hi away)

    view_is : v ≡ fewer
    unfolding after
    view_is = told.is ∙ ap (λ (k : View). record k { threads = u.threads }) (look_view u (return_place f) 0 cargo)

    words_now : AreWords (word_in back.held)
    words_now = words_held back.held (subst (λ (k : View). (q n : ℕ) → kept k.held q ≡ Some n → n < 2 ^ 64) view_is told.behind.words)

    polls_less : Polls p d (record x { stack = s }) fewer []
    polls_less = record {
      top = polls.top;
      below = polls.below;
      is = polls.is;
      frames = polls.frames;
      lower = polls.lower;
      at = (polls.at.0, poll_over p ready.fits.is_for.code.accepted u.names u.names u.held back.held (ends_of x.machine) x.machine polls.top polls.frames polls.below polls.lower (record { names_have = λ name c in'. in'; same = all_same u.held back.held frames same_words; words = words_now }) polls.at.1);
      plain = polls.plain;
      lies = record {
        framed = shrinking_frames (λ (q : ℕ). q == return_place f) x.stack s (ends_of x.machine) (ends_of x.machine) frames top shrunks.More polls.lies.framed (λ g mine zero_is. not_mine g mine (eqb-true (return_place g) (return_place f) zero_is)) newest lo hi (refl, (f, lowest, eq-eqb (return_place f) (return_place f) refl, less));
        used = subst (λ n. n ≤ register x.machine registers.Sp + u.frame_bytes) (sym hi) polls.lies.used;
        away = λ g mine away. polls.lies.away g mine (same_lo g away);
      };
      leases = still_mine;
      apart = λ g h mine none. absurd (contains_none h none);
    }

    fewer_fits : FitsIn p d limits image input (record x { stack = s }) fewer
    fewer_fits =
        let holds = ready.fits.holds in
        record {
          is_for = same_for p d limits image input x (record x { stack = s }) ready.fits.is_for (record { number = refl; code = refl; length_is = refl; steps = refl; cells = refl; room = refl; ready_room = refl; lo = lo; hi = hi; low = refl; high = refl });
          holds = record {
            number = holds.number;
            below = holds.below;
            workers = holds.workers;
            few_workers = holds.few_workers;
            cells = holds.cells;
            few_cells = holds.few_cells;
            each = holds.each;
            words = size_laws.held u (Look (return_place f)) (Looked 0 cargo) ∙ holds.words;
            notes = holds.notes;
            items = holds.items;
            frame_bytes = holds.frame_bytes;
            few_items = holds.few_items;
            few_bytes = holds.few_bytes;
            ready_once = holds.ready_once;
            ready = holds.ready;
            all_ready = holds.all_ready;
            asked = holds.asked;
            asked_other = holds.asked_other;
            exported = λ g at. let other : g ≢ f = (λ same. less.gone (subst (Contains s.exported) same at)) in stays_there g (holds.exported g (less.were g at)) other;
            all_exported = λ g at. let was = still_there g at in less.stay g was.1 (holds.all_exported g was.0);
            last = holds.last;
            not_open = holds.not_open;
            registers = holds.registers;
            values = holds.values;
          };
          by = subst (λ φ. ByPhase p d limits φ (record x { stack = s }) fewer) (sym e)
              ((polls_less, record { chains = bag.chains; hand = bag.hand; share = bag.share; drawn = bag.drawn; child = bag.child; answering = bag.answering; given = bag.given; root = bag.root }), still_asked asker asked);
        }
      where
        still_asked : (o : Option ℕ) → IsAsked p d limits o u → IsAsked p d limits o fewer
        still_asked None is = tt
        still_asked (Some k) is = is

    more_fits : FitsIn p d limits image input (record x { stack = s }) v
    more_fits = subst (λ (k : View). FitsIn p d limits image input (record x { stack = s }) k) (sym view_is) fewer_fits

  -- ---- sp rises

  module _ (limit : ℕ) (top : Option Frame) (limit_is : IsLimit x.stack.hi x.stack.exported limit) (newest : IsNewest x.stack frames top) where
    abbrev sp : ℕ
    sp = lesser limit top

    abbrev risen : State
    risen = written x.machine registers.Sp sp

    few : sp < 2 ^ 64
    few =
        let stack = polls.lies.framed.stack in
        let within = limit_within x.stack (ends_of x.machine) limit stack limit_is in
        let high = stack.high in
        let low = lesser_low limit top in
        omega (arith, within, high, low)

    above : register x.machine registers.Sp ≤ sp
    above = let framed = polls.lies.framed in lesser_high x.stack (register x.machine registers.Sp) limit frames framed.young framed.old top (framed.stack.limit limit limit_is) framed.parts framed.rising framed.others newest

    sp_is : register risen registers.Sp ≡ sp
    sp_is = let count : length x.machine.registers ≡ 32 = ready.fits.holds.registers.count in register-written_same x.machine registers.Sp sp (omega (arith, count)) refl

    top_in : Contains (all_known u) polls.top
    top_in = Contains-append_left u.threads (known_of u.chains) polls.top (subst (λ (ts : List Known). Contains ts polls.top) (sym polls.is) (contains_here polls.top polls.below))

    polls_risen : (φ : Phase) → Polls p d (record x { machine = risen; phase = φ }) u []
    polls_risen φ =
        let accepted = ready.fits.is_for.code.accepted in
        let used : x.stack.hi ≤ register x.machine registers.Sp + u.frame_bytes = polls.lies.used in
        record {
          top = polls.top;
          below = polls.below;
          is = polls.is;
          frames = polls.frames;
          lower = polls.lower;
          at = (polls.at.0, poll_set p u.names u.held (ends_of x.machine) x.machine registers.Sp sp polls.top polls.frames polls.below polls.lower accepted tt few (spares_gp p d u polls.top accepted ready.behind top_in) polls.at.1);
          plain = polls.plain;
          lies = record {
            framed = shrinking_frames (λ (q : ℕ). false) x.stack x.stack (ends_of x.machine) (ends_of risen) frames top (shrunks.Done sp) polls.lies.framed (λ g mine never. absurd (let no : ⊥ = cc in no)) newest refl refl (refl, ends_raised x.machine sp ready.fits.holds.registers, (limit, limit_is, refl));
            used = omega (arith, used, above, sp_is);
            away = polls.lies.away;
          };
          leases = polls.leases;
          apart = polls.apart;
        }

    risen_fits : (φ : Phase) → taken_of φ ≡ [] → MakesMost φ → ByPhase p d limits φ (record x { machine = risen; phase = φ }) u → FitsIn p d limits image input (record x { machine = risen; phase = φ }) u
    risen_fits φ none calm by =
        let z : Automaton = record x { machine = risen; phase = φ } in
        let h = ready.fits.holds in
        let r : IsReadyIn (taken_of φ ++ x.ready.numbers) u = subst (λ (cs : List ℕ). IsReadyIn (cs ++ x.ready.numbers) u) (sym none) (ready_of p d limits image input x u h (ap taken_of e)) in
        record {
          is_for = same_for p d limits image input x z ready.fits.is_for
              (record { number = refl; code = refl; length_is = refl; steps = refl; cells = refl; room = refl; ready_room = refl; lo = refl; hi = refl; low = lo-written x.machine registers.Sp sp; high = hi-written x.machine registers.Sp sp });
          holds = record {
            number = h.number;
            below = h.below;
            workers = h.workers;
            few_workers = h.few_workers;
            cells = h.cells;
            few_cells = h.few_cells;
            each = h.each;
            words = h.words;
            notes = h.notes;
            items = h.items;
            frame_bytes = h.frame_bytes;
            few_items = subst (λ (n : ℕ). x.items ≤ n) (sym (calm limits.steps)) (subst (λ (φ : Phase). x.items ≤ most_items φ limits.steps) e h.few_items);
            few_bytes = h.few_bytes;
            ready_once = r.once;
            ready = r.ready;
            all_ready = r.all_ready;
            asked = h.asked;
            asked_other = h.asked_other;
            exported = h.exported;
            all_exported = h.all_exported;
            last = h.last;
            not_open = λ none. h.not_open (ap is_taking e);
            registers = record { count = length-written x.machine registers.Sp sp ∙ h.registers.count; origin = zero-written x.machine registers.Sp sp ∙ h.registers.origin };
            values = values-written x.machine registers.Sp sp h.values few;
          };
          by = by;
        }

    some_threads : u.threads ≢ []
    some_threads none = let same : polls.top ∷ polls.below ≡ [] = sym polls.is ∙ none in let no : ⊥ = cc in no

    own_bag : HasBag (own_and 0 u) u
    own_bag = subst (λ (n : ℕ). HasBag (units (n + 0)) u) (sym (thread_one u.threads some_threads)) bag

    goes_on : (o : Option ℕ) (y : Automaton) → IsAsked p d limits o u → AnswersOrRuns o (with_sp sp x) y → FitsIn p d limits image input y u
    goes_on (Some k) y is same = fits_as p d limits image input y (record x { machine = risen; phase = phases.Answering k }) u u same refl (risen_fits (phases.Answering k) refl (λ n. refl) ((inr (polls_risen (phases.Answering k)), own_bag), is))
    goes_on None y is runs =
        let z : Automaton = record x { machine = risen; phase = phases.Polling } in
        runs_fits p d limits image input z y u refl ready.behind (risen_fits phases.Polling refl (λ n. refl) (polls_risen phases.Polling, bag)) (polls_risen phases.Polling) bag (record { limit = runs.limit; is_limit = runs.is_limit; same = runs.same })

  -- ---- whatever was found

  -- the least exported frame lives still
  same_view : (f : Frame) (n : ℕ) (v : View) → n ≢ 0 → (cargo : Cargo) × Told p d limits u (Look (return_place f)) (Looked n cargo) v → v ≡ u
  unfolding after
  same_view f n v alive (cargo, told) = told.is ∙ ap (λ (k : View). record k { threads = u.threads }) (look_laws.alive u (return_place f) n cargo alive)

  shrinks : (shrunk : Shrunk) (top : Option Frame) (y : Automaton) (old v : View) → (x.stack.exported ≡ [] → u ≡ old) → IsTopFrame (row_behind image.rows x.machine.pc) x top → Shrinks p d limits u old x.stack.hi x.stack.exported y.stack.exported top shrunk v → IsShrunk asker shrunk x y → FitsIn p d limits image input y v
  shrinks shrunks.More top y old v none top_is (f, lowest, (cargo, told), less) (is, lo, hi) =
      let newest = poll_newest p image ready.fits.is_for.code ready.fits.is_for.size x u.names u.held (ends_of x.machine) polls.top polls.frames polls.below polls.lower top polls.at.1 top_is in
      fits_as p d limits image input y (record x { stack = y.stack }) v v is refl (more_fits f cargo y.stack v lowest told less lo hi top newest)
  shrinks (shrunks.Done n) top y old v none top_is (same, (limit, limit_is, at), found) (goes, lo, hi) =
      let newest = poll_newest p image ready.fits.is_for.code ready.fits.is_for.size x u.names u.held (ends_of x.machine) polls.top polls.frames polls.below polls.lower top polls.at.1 top_is in
      let stack : y.stack ≡ x.stack = λ i. record { exported = same i; lo = lo i; hi = hi i } in
      let view : v ≡ u = ⊎_elim (λ empty. empty.1 ∙ sym (none empty.0)) (λ alive. same_view alive.0 alive.1 v alive.4 alive.3) found in
      let on : AnswersOrRuns asker (with_sp (lesser limit top) x) y = subst (λ (k : ℕ). AnswersOrRuns asker (with_sp k x) y) at (subst (λ (k : Exports). AnswersOrRuns asker (with_sp n (record x { stack = k })) y) stack goes) in
      fits_as p d limits image input y y v u refl view (goes_on limit top limit_is newest asker y asked on)

  pub shrinking_fits : (y : Automaton) (old v : View) (turn : Turn) → (x.stack.exported ≡ [] → u ≡ old) → Does p d limits image input u old x turn y v (phases.Shrinking asker) → FitsIn p d limits image input y v
  shrinking_fits y old v turn none (top, shrunk, top_is, does, left, ran) = shrinks shrunk top y old v none top_is does left

  pub top_thread : (top : Known) × (below : List Known) × (u.threads ≡ top ∷ below) × IsPlain top
  top_thread = (polls.top, polls.below, polls.is, polls.at.0)
