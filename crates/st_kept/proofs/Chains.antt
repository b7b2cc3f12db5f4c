-- A chain comes to a worker with its words, or goes from it: the threads of the worker rest over the words that are held then. Read taken_rests, taken_carries and put_rests.
use Rattle.std.proofs.Common.{◌≡◌, ◌⊎◌, inl, inr, ⊎_elim, ℕ, ◌+◌, ◌^◌, ◌<◌, ◌≤◌, true, List, [], ◌∷◌, ◌++◌, Option, Some, None, is_some, refl, sym, ap, ◌∙◌, subst, arith}
use Rattle.std.specs.List.{Contains}
use Rattle.std.proofs.lemmas.List.Elements.{Contains-append_left, Contains-append_right, Contains-append_cases}
use Rattle.st_base.specs.declared.chain.Chain.{Chain}
use Rattle.st_base.specs.declared.chain.Frame.{Frame}
use Rattle.st_base.specs.declared.thread.Held.{Held}
use Rattle.st_words.specs.declared.view.Cargo.{Cargo}
use Rattle.st_words.specs.declared.view.Carried.{Carried}
use Rattle.st_words.specs.declared.view.Known.{Known}
use Rattle.st_words.specs.declared.view.Slot.{Slot}
use Rattle.st_words.specs.declared.view.Slot.TheVariants.{Cell, Mail}
use Rattle.st_words.specs.declared.view.View.{View}
use Rattle.st_words.specs.Promises.{Promises}
use Rattle.st_words.specs.Steps.{SlotTake, SlotPut, Done, Took, Inside, IsLeased, Holds, return_place, kept, home_of}
use Rattle.st_words.specs.Tidy.{Tidy}
use Rattle.st_words.specs.Views.{slot_taken, slot_put, foreign, view_after}
use Rattle.st_words.proofs.Lists.{contains_none, contains_case, contains_here}
use Rattle.st_words.proofs.Puts.{put_laws}
use Rattle.st_words.proofs.Takes.{take_laws}
use Rattle.st_model.specs.declared.program.Program.{Program}
use Rattle.st_model.specs.Accepted.{IsAccepted}
use Rattle.st_model.specs.Memory.{Data}
use Rattle.st_step.specs.declared.state.State.{State}
use Rattle.st_step.specs.Runs.{AreWords}
use Rattle.st_stack.specs.Exported.{Apart}
use Rattle.st_chain.specs.Walk.{named_by, word_in, is_held, number_or}
use Rattle.st_chain.specs.Threads.{AtEnd}
use Rattle.st_chain.proofs.Restarting.{stands_same}
use Rattle.st_base.specs.declared.chain.Note.{Note}
use Rattle.st_chain.specs.Chains.{IsUnbegun, StandsFor, CanGoOn, saved_value, Walks}
use Rattle.st_chain.specs.Copying.{over}
use Rattle.st_chain.specs.Laws.{AllSameHeld, HasNames}
use Rattle.st_chain.specs.Seen.{IsWhole, joined}
use Rattle.st_chain.proofs.Joining.{contains_more}
use Rattle.st_cargo.specs.Cargo.{HasFrames, goes_with, IsCarried}
use Rattle.st_cargo.proofs.Carrying.{chains_carried}
use Rattle.st_cargo.proofs.Words.{held_number}
use Rattle.st_standing.specs.Laws.{SeesSame}
use Rattle.st_framed.proofs.Lists.{not_itself}
use Rattle.st_moving.specs.Moving.{AtPoll}
use Rattle.st_phases.specs.declared.automaton.Automaton.{Automaton}
use Rattle.st_fits.specs.Before.{after}
use Rattle.st_fits.specs.Threads.{ends_of, IsPlain, Lies, Leases, Stands, HasNone, Polls, Rests, Carries}
use Rattle.st_kept.specs.Keeping.{SameNumbers}
use Rattle.st_kept.specs.Resting.{TakenRests, TakenCarries, PutRests, ChainLaws}
use Rattle.st_kept.proofs.Laid.{IsLaid, return_inside, apart_laid, newest_laid, poll_laid, cargo_laid}
use Rattle.st_kept.proofs.Stepping.{numbers}
use Rattle.st_kept.proofs.Standing.{lies_over, stands_over, poll_over}

-- ---- words

-- the word is told, or it isn't
told_or : (o : Option ℕ) → (o ≡ None) ⊎ ((n : ℕ) × (o ≡ Some n))
told_or None = inl refl
told_or (Some n) = inr (n, refl)

no_number : (o : Option ℕ) (n : ℕ) → o ≡ None → o ≡ Some n → ⊥
no_number o n none some = let never : ⊥ = cc in never

-- frames that have the same words
all_same : (held held' : List (Option ℕ)) (fs : List Frame) → ((f : Frame) (q : ℕ) → Contains fs f → Inside f q → kept held' q ≡ kept held q) → AllSameHeld held held' fs
all_same held held' [] same = tt
all_same held held' (f ∷ fs) same = (
  record {
    held = λ q inside is. ap is_some (same f q (contains_here f fs) inside) ∙ is;
    words = λ q inside. sym (ap number_or (same f q (contains_here f fs) inside));
  },
  all_same held held' fs (λ g q in' inside. same g q (contains_more f g fs in') inside),
)

-- ---- a worker whose threads rest, over another view

-- what is so of the frames of its threads
record Rested (u v : View) (others others' : List Frame) (frames : List Frame) : Type 0 where
  same : (f : Frame) (q : ℕ) → Contains frames f → Inside f q → kept v.held q ≡ kept u.held q
  away : (f : Frame) → Contains frames f → Contains u.away f → Contains v.away f
  leases : Leases v (frames ++ others')
  apart : (f g : Frame) → Contains frames f → Contains others' g → Apart f g

-- frames of which all words are held, and what else the worker had leased
record Resting (u : View) (others : List Frame) (frames : List Frame) : Type 0 where
  laid : (f : Frame) → Contains frames f → IsLaid (is_held u.held) f
  some : (f : Frame) → Contains frames f → f.low < f.base
  leases : Leases u (frames ++ others)
  apart : (f g : Frame) → Contains frames f → Contains others g → Apart f g

module _ (p : Program) (d : Data) (x y : Automaton) (u v : View) (others others' : List Frame) (accepted : IsAccepted p) (words : AreWords (word_in v.held)) (machine : y.machine ≡ x.machine) (stack : y.stack ≡ x.stack) (names : HasNames u.names v.names) (threads : v.threads ≡ u.threads) (bytes : v.frame_bytes ≡ u.frame_bytes) (comes : (frames : List Frame) → Resting u others frames → Rested u v others others' frames) where
  abbrev AtRest : State → View → Known → List Frame → List Known → List (List Frame) → Type 0
  AtRest m w t fs ts rest = IsPlain t × AtPoll p w.names (is_held w.held) (ends_of m) (over w.held m) t fs ts rest

  none_over : HasNone x u others → HasNone y v others'
  none_over none =
      let rested = comes [] (record { laid = λ f in'. absurd (contains_none f in'); some = λ f in'. absurd (contains_none f in'); leases = none.leases; apart = λ f g in' there. absurd (contains_none f in') }) in
      record {
        is = threads ∙ none.is;
        place = subst (λ (m : State). m.pc + 4 < 2 ^ 32) (sym machine) none.place;
        lies = subst (λ (m : State). Lies y v (ends_of m) []) (sym machine) (lies_over x y u v (ends_of x.machine) [] stack bytes (λ f in' there. absurd (contains_none f in')) none.lies);
        leases = rested.leases;
      }

  polls_over : Polls p d x u others → Polls p d y v others'
  polls_over s =
      let frames = joined (s.frames ∷ s.lower) in
      let rested = comes frames (record { laid = poll_laid p accepted u.names u.held (ends_of x.machine) x.machine s.top s.frames s.below s.lower s.at.1; some = s.lies.framed.some; leases = s.leases; apart = s.apart }) in
      let sees : SeesSame u.names v.names (is_held u.held) (is_held v.held) (word_in u.held) (word_in v.held) frames = record { names_have = names; same = all_same u.held v.held frames rested.same; words = words } in
      let at = poll_over p accepted u.names v.names u.held v.held (ends_of x.machine) x.machine s.top s.frames s.below s.lower sees s.at.1 in
      subst (λ (m : State). Stands (AtRest m v) y v (ends_of m) others') (sym machine)
      (stands_over (AtRest x.machine u) (AtRest x.machine v) x y u v (ends_of x.machine) others others' s stack threads bytes (s.at.0, at) rested.away rested.leases rested.apart)

  rests_over : Rests p d x u others → Rests p d y v others'
  rests_over (inl none) = inl (none_over none)
  rests_over (inr polls) = inr (polls_over polls)

-- ---- a chain is taken

away_stays : (u : View) (slot : Slot) (cargo : Cargo) (f : Frame) → Contains u.away f → Contains (slot_taken slot cargo u).away f
away_stays u (Cell c) cargo f in' = Contains-append_right (foreign u cargo.frames) u.away f in'
away_stays u (Mail at) cargo f in' = Contains-append_right (foreign u cargo.frames) u.away f in'

threads_taken : (u : View) (slot : Slot) (cargo : Cargo) → ((slot_taken slot cargo u).threads ≡ u.threads) × ((slot_taken slot cargo u).frame_bytes ≡ u.frame_bytes)
threads_taken u (Cell c) cargo = (refl, refl)
threads_taken u (Mail at) cargo = (refl, refl)

chains_taken : (u : View) (slot : Slot) (cargo : Cargo) → (slot_taken slot cargo u).chains ≡ cargo.carried ∷ u.chains
chains_taken u (Cell c) cargo = refl
chains_taken u (Mail at) cargo = refl

-- the view after it, as it is needed here
record IsTaken (u : View) (cargo : Cargo) (v : View) : Type 0 where
  told : (q n : ℕ) → kept cargo.words q ≡ Some n → kept v.held q ≡ Some n
  untold : (q : ℕ) → kept cargo.words q ≡ None → kept v.held q ≡ kept u.held q
  leased : (f : Frame) → Contains cargo.frames f → IsLeased v f
  stays : (f : Frame) → IsLeased u f → IsLeased v f
  were : (f : Frame) → IsLeased v f → IsLeased u f ⊎ Contains cargo.frames f
  away : (f : Frame) → Contains u.away f → Contains v.away f
  exported : v.exported ≡ u.exported
  names : (name : Held) (c : ℕ) → Contains cargo.names (name, c) ⊎ Contains u.names (name, c) → Contains v.names (name, c)
  threads : v.threads ≡ u.threads
  bytes : v.frame_bytes ≡ u.frame_bytes
  chains : v.chains ≡ cargo.carried ∷ u.chains

module _ (p : Program) (d : Data) (u : View) (slot : Slot) (chain : Chain) (cargo : Cargo) (promised : Promises u (SlotTake slot) (Took (Some chain) cargo)) where
  is_taken : IsTaken u cargo (after p d u (SlotTake slot) (Took (Some chain) cargo))
  unfolding after view_after
  is_taken = record {
    told = λ q n is. take_laws.words u slot chain cargo q n promised is;
    untold = λ q none. take_laws.others u slot chain cargo q none;
    leased = λ f in'. take_laws.frames u slot chain cargo f promised in';
    stays = λ f is. take_laws.stay u slot chain cargo f is;
    were = λ f is. take_laws.were u slot chain cargo f is;
    away = λ f in'. away_stays u slot cargo f in';
    exported = take_laws.exported u slot chain cargo;
    names = λ name c in'. take_laws.names u slot chain cargo name c in';
    threads = refl;
    bytes = (threads_taken u slot cargo).1;
    chains = chains_taken u slot cargo;
  }

  -- a word that the worker held doesn't come
  held_stays : (v : View) (q : ℕ) → IsTaken u cargo v → is_held u.held q ≡ true → kept v.held q ≡ kept u.held q
  held_stays v q taken is = ⊎_elim
      (λ none. taken.untold q none)
      (λ some. absurd (let had = held_number u.held q is in no_number (kept u.held q) had.0 (promised.whole.fresh q some.0 some.1) had.1)) (told_or (kept cargo.words q))

  module _ (v : View) (taken : IsTaken u cargo v) (tidy : Tidy v) (accepted : IsAccepted p) (walks : Walks p d chain cargo) where
    leased_is : (frames : List Frame) (f : Frame) → Leases u (frames ++ []) → IsLeased v f → Holds v (return_place f) → Contains (frames ++ cargo.frames) f
    leased_is frames f leases leased (n, is) =
        let apart = tidy.leased.apart in
        ⊎_elim
        (λ (was : IsLeased u f).
        ⊎_elim
        (λ (none : kept cargo.words (return_place f) ≡ None).
        ⊎_elim (λ (here : Contains frames f). Contains-append_left frames cargo.frames f here) (λ (never : Contains [] f). absurd (contains_none f never))
        (Contains-append_cases frames [] f (leases f was (n, sym (taken.untold (return_place f) none) ∙ is))))
        (λ (some : (m : ℕ) × (kept cargo.words (return_place f) ≡ Some m)).
        let inside = (promised.whole.inside (return_place f) some.0 some.1).1 in
        let words = apart.some_word f leased in
        let same = apart.apart f inside.0 (return_place f) leased (taken.leased inside.0 inside.1) (omega (arith, words), omega (arith, words)) inside.2 in
        Contains-append_right frames cargo.frames f (subst (λ (g : Frame). Contains cargo.frames g) (sym same) inside.1)) (told_or (kept cargo.words (return_place f))))
        (λ (came : Contains cargo.frames f). Contains-append_right frames cargo.frames f came) (taken.were f leased)

    taken_rested : (frames : List Frame) → Resting u [] frames → Rested u v [] cargo.frames frames
    taken_rested frames resting = record {
      same = λ f q in' inside. held_stays v q taken ((resting.laid f in').held q inside);
      away = λ f in' there. taken.away f there;
      leases = λ f leased held. leased_is frames f resting.leases leased held;
      apart = λ f g in' there.
          let one = resting.laid f in' in
          let two = cargo_laid p d accepted chain cargo walks g there in
          apart_laid f g one.whole two.whole
          (λ q inside within.
          let had = held_number u.held q (one.held q inside) in
          let told = held_number cargo.words q (two.held q within) in
          no_number (kept u.held q) had.0 (promised.whole.fresh q told.0 told.1) had.1);
    }

pub taken_rests : (p : Program) (d : Data) → TakenRests p d
taken_rests p d x y u v slot chain cargo accepted promised walks is tidy words machine stack rests =
    let taken : IsTaken u cargo v = subst (IsTaken u cargo) (sym is) (is_taken p d u slot chain cargo promised) in
    rests_over p d x y u v [] cargo.frames accepted words machine stack (λ name c in'. taken.names name c (inr in')) taken.threads taken.bytes (taken_rested p d u slot chain cargo promised v taken tidy accepted walks) rests

-- ---- what has come

module _ (p : Program) (d : Data) (u v : View) (slot : Slot) (chain : Chain) (cargo : Cargo) (accepted : IsAccepted p) (promised : Promises u (SlotTake slot) (Took (Some chain) cargo)) (walks : Walks p d chain cargo) (taken : IsTaken u cargo v) (numbers_are : SameNumbers u v) (none : u.chains ≡ []) where
  only_one : v.chains ≡ cargo.carried ∷ []
  only_one = taken.chains ∙ ap (λ (cs : List Carried). cargo.carried ∷ cs) none

  single : (y : Carried) → Contains v.chains y → y ≡ cargo.carried
  single y in' = ⊎_elim (λ (is : cargo.carried ≡ y). sym is) (λ (never : Contains [] y). absurd (contains_none y never)) (contains_case y cargo.carried [] (subst (λ (cs : List Carried). Contains cs y) only_one in'))

  same_words : AllSameHeld cargo.words v.held cargo.frames
  same_words = all_same cargo.words v.held cargo.frames (λ f q in' inside. let told = promised.whole.whole f q in' inside in taken.told q told.0 told.1 ∙ sym told.1)

  stands : IsUnbegun p d chain cargo.carried.known.thread cargo.frames ⊎ (StandsFor p v.names v.held chain.wait chain.pc chain.fp (saved_value chain.saved) cargo.carried.known.thread cargo.frames × CanGoOn p chain.wait cargo.carried.known.thread)
  stands = ⊎_elim
      (λ root. inl root)
      (λ begun. inr (stands_same cargo.names v.names (λ name c in'. taken.names name c (inl in')) p cargo.words v.held chain.wait chain.pc chain.fp (saved_value chain.saved) (saved_value chain.saved) cargo.carried.known.thread cargo.frames accepted same_words (λ r kept. refl) begun.0, begun.1)) walks.0

  has_frames : HasFrames p d v chain cargo.carried cargo.frames
  has_frames = record {
    there = subst (λ (cs : List Carried). Contains cs cargo.carried) (sym only_one) (contains_here cargo.carried []);
    single = λ y in' cell. single y in';
    note = promised.of.0;
    cell = promised.of.2;
    wait = promised.of.1;
    stands = stands;
    begun = walks.1;
    leased = λ f in'. taken.leased f in';
    own = λ f in' home.
        let here : home_of u.each (return_place f) ≡ u.number = ap (λ (n : ℕ). home_of n (return_place f)) (sym numbers_are.each) ∙ home ∙ numbers_are.number in
        subst (λ (fs : List Frame). Contains fs f) (sym taken.exported) (promised.own f in' here);
    knows = λ name is has. let (c, in') = promised.names name is has in (c, taken.names name c (inl in'));
  }

  carries : Carries p d v chain cargo.carried.standing cargo.carried cargo.frames
  carries = record {
    only = only_one;
    has = has_frames;
    stands = refl;
    below = subst (λ (n : ℕ). n < v.cells) (ap (λ (note : Note). note.cell) promised.of.0 ∙ promised.of.2) (subst (λ (n : ℕ). cargo.carried.known.note.cell < n) (sym numbers_are.cells) promised.below);
  }

pub taken_carries : (p : Program) (d : Data) → TakenCarries p d
taken_carries p d u v slot chain cargo accepted promised walks is none =
    let taken : IsTaken u cargo v = subst (IsTaken u cargo) (sym is) (is_taken p d u slot chain cargo promised) in
    let same : SameNumbers u v = subst (SameNumbers u) (sym is) (numbers p d u (SlotTake slot) (Took (Some chain) cargo)) in
    carries p d u v slot chain cargo accepted promised walks taken same none

-- ---- a chain is put

put_others : (u : View) (slot : Slot) (chain : Chain) (cargo : Cargo) → ((slot_put slot chain cargo u).frame_bytes ≡ u.frame_bytes) × ((slot_put slot chain cargo u).names ≡ u.names)
put_others u (Cell c) chain cargo = (refl, refl)
put_others u (Mail at) chain cargo = (refl, refl)

record IsPut (u : View) (cargo : Cargo) (v : View) : Type 0 where
  told : (q n : ℕ) → kept cargo.words q ≡ Some n → kept v.held q ≡ None
  untold : (q : ℕ) → kept cargo.words q ≡ None → kept v.held q ≡ kept u.held q
  stays : (f : Frame) → (Contains cargo.frames f → ⊥) → Contains u.away f → Contains v.away f
  were : (f : Frame) → Contains v.away f → Contains u.away f
  exported : v.exported ≡ u.exported
  threads : v.threads ≡ u.threads
  bytes : v.frame_bytes ≡ u.frame_bytes
  names : v.names ≡ u.names

is_put : (p : Program) (d : Data) (u : View) (slot : Slot) (chain : Chain) (cargo : Cargo) → IsPut u cargo (after p d u (SlotPut slot chain cargo) Done)
unfolding after view_after
is_put p d u slot chain cargo = record {
  told = λ q n is. put_laws.words u slot chain cargo q n is;
  untold = λ q none. put_laws.others u slot chain cargo q none;
  stays = λ f out in'. put_laws.stay u slot chain cargo f out in';
  were = λ f in'. put_laws.were u slot chain cargo f in';
  exported = put_laws.exported u slot chain cargo;
  threads = refl;
  bytes = (put_others u slot chain cargo).0;
  names = (put_others u slot chain cargo).1;
}

-- the frames of a chain of the turn
turn_laid : (p : Program) (d : Data) (u : View) (chain : Chain) (c : Carried) (frames : List Frame) → IsAccepted p → HasFrames p d u chain c frames → (f : Frame) → Contains frames f → IsWhole f
turn_laid p d u chain c frames accepted has f in' = ⊎_elim
    (λ root. absurd (contains_none f (subst (λ (fs : List Frame). Contains fs f) root.none in')))
    (λ begun.
    let (ahead, words, waiting, keeps, newest) = begun.0 in
    (newest_laid p (named_by u.names) (is_held u.held) (word_in u.held) accepted AtEnd c.known.thread.activations frames ahead chain.pc chain.fp _ f newest in').whole) has.stands

module _ (p : Program) (d : Data) (u v : View) (slot : Slot) (chain : Chain) (c : Carried) (others : List Frame) (accepted : IsAccepted p) (has : HasFrames p d u chain c others) where
  abbrev cargo : Cargo
  cargo = goes_with p u slot chain

  carried : IsCarried p d u slot chain c others
  carried = chains_carried p d u slot chain c others accepted has

  module _ (put : IsPut u cargo v) where
    was_leased : (f : Frame) → IsLeased v f → IsLeased u f
    was_leased f (inl in') = inl (subst (λ (fs : List Frame). Contains fs f) put.exported in')
    was_leased f (inr in') = inr (put.were f in')

    of_others : (f : Frame) → Contains cargo.frames f → Contains others f
    of_others f in' = subst (λ (fs : List Frame). Contains fs f) carried.frames_are in'

    -- no word of a frame that is apart goes
    not_told : (f : Frame) (q : ℕ) → ((g : Frame) → Contains others g → Apart f g) → Inside f q → kept v.held q ≡ kept u.held q
    not_told f q apart (from, to) = ⊎_elim
        (λ none. put.untold q none)
        (λ some.
        let (g, in', (low, high)) = (carried.carries.words q some.0 some.1).1 in
        ⊎_elim (λ (under : f.base ≤ g.low). absurd (omega (arith, under, low, to))) (λ (over : g.base ≤ f.low). absurd (omega (arith, over, high, from))) (apart g (of_others g in'))) (told_or (kept cargo.words q))

    held_was : (q : ℕ) (n : ℕ) (o : Option ℕ) → kept cargo.words q ≡ o → kept v.held q ≡ Some n → (o ≡ None) × (kept u.held q ≡ Some n)
    held_was q n None none is = (refl, sym (put.untold q none) ∙ is)
    held_was q n (Some m) some is = absurd (no_number (kept v.held q) n (put.told q m some) is)

    still_leases : (frames : List Frame) (f : Frame) → Leases u (frames ++ others) → IsLeased v f → Holds v (return_place f) → Contains (frames ++ []) f
    still_leases frames f leases leased (n, is) =
        let (none, was) = held_was (return_place f) n (kept cargo.words (return_place f)) refl is in
        ⊎_elim
        (λ (here : Contains frames f). Contains-append_left frames [] f here)
        (λ (other : Contains others f).
        let there = carried.carries.whole f (return_place f) (subst (λ (fs : List Frame). Contains fs f) (sym carried.frames_are) other) (return_inside f (turn_laid p d u chain c others accepted has f other)) in
        absurd (no_number (kept cargo.words (return_place f)) there.0 none there.1)) (Contains-append_cases frames others f (leases f (was_leased f leased) (n, was)))

    put_rested : (frames : List Frame) → Resting u others frames → Rested u v others [] frames
    put_rested frames resting = record {
      same = λ f q in' inside. not_told f q (λ g there. resting.apart f g in' there) inside;
      away = λ f in' there. put.stays f (λ gone. not_itself f (resting.some f in') (resting.apart f f in' (of_others f gone))) there;
      leases = λ f leased held. still_leases frames f resting.leases leased held;
      apart = λ f g in' there. absurd (contains_none g there);
    }

pub put_rests : (p : Program) (d : Data) → PutRests p d
put_rests p d x y u v slot chain c frames accepted has is words machine stack rests =
    let put : IsPut u (goes_with p u slot chain) v = subst (IsPut u (goes_with p u slot chain)) (sym is) (is_put p d u slot chain (goes_with p u slot chain)) in
    rests_over p d x y u v frames [] accepted words machine stack (λ name n in'. subst (λ (ns : List (Held × ℕ)). Contains ns (name, n)) (sym put.names) in') put.threads put.bytes (put_rested p d u v slot chain c frames accepted has put) rests

pub chain_laws : (p : Program) (d : Data) → ChainLaws p d
chain_laws p d = record { taken_rests = taken_rests p d; taken_carries = taken_carries p d; put_rests = put_rests p d }
