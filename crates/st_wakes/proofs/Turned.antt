-- A worker in its next phase, over the view after its step: turned. Read fits_turned (it fits that view, where its bag and threads do), rests_turned (its threads rest as before a step off the stack)
-- and fits_after (so it fits the view that its board has then).
use Rattle.std.proofs.Common.{List, None, Option, false, Some, [], ap, arith, refl, subst, sym, ℕ, ⊎_elim, ◌++◌, ◌<◌, ◌^◌, ◌∙◌, ◌∷◌, ◌≡◌, ◌≢◌}
use Rattle.std.specs.List.{Contains}
use Rattle.st_base.specs.declared.chain.Frame.{Frame}
use Rattle.st_base.specs.declared.image.Image.{Image}
use Rattle.st_base.specs.declared.limits.Limits.{Limits}
use Rattle.st_chain.specs.Taking.{notes_of}
use Rattle.st_chain.specs.Walk.{number_or, word_in}
use Rattle.st_fits.specs.Before.{after}
use Rattle.st_fits.specs.Fits.{ByPhase, Fits, FitsIn, Holds, IsFor, most_items, taken_of, is_taking}
use Rattle.st_fits.specs.Threads.{HasNone, Polls, Rests}
use Rattle.st_kept.proofs.Keeping.{same_for, same_holds}
use Rattle.st_kept.proofs.Standing.{rests_kept}
use Rattle.st_kept.proofs.Stepping.{numbers, untouched}
use Rattle.st_kept.specs.Keeping.{IsOffStack, SameNumbers}
use Rattle.st_made.specs.Moves.{Made}
use Rattle.st_model.specs.Memory.{Data}
use Rattle.st_model.specs.declared.program.Program.{Program}
use Rattle.st_phases.specs.Automaton.{with_phase, with_ready}
use Rattle.st_phases.specs.Waking.{behind}
use Rattle.st_phases.specs.declared.automaton.Automaton.{Automaton}
use Rattle.st_phases.specs.declared.phase.Phase.{Phase}
use Rattle.st_run.specs.Behind.{IsBehind}
use Rattle.st_seats.specs.Placing.{AreOnce}
use Rattle.st_settled.proofs.Settled.{settled}
use Rattle.st_step.specs.Runs.{AreWords}
use Rattle.st_words.specs.Steps.{Answer, Step, kept}
use Rattle.st_words.specs.declared.view.Known.{Known}
use Rattle.st_words.specs.declared.view.View.{View}

-- in another phase, with other ready numbers
abbrev pub turned : Phase → List ℕ → Automaton → Automaton
turned phase numbers x = with_phase phase (with_ready numbers x)

-- the ready numbers are those of the view
pub record IsReadyIn (numbers : List ℕ) (v : View) : Type 0 where
  pub once : AreOnce numbers
  pub ready : (c : ℕ) → Contains numbers c → Contains v.ready c
  pub all_ready : (c : ℕ) → Contains v.ready c → Contains numbers c

pub words_held : (held : List (Option ℕ)) → ((q n : ℕ) → kept held q ≡ Some n → n < 2 ^ 64) → AreWords (word_in held)
words_held held few q = by_word (kept held q) (few q)
  where
    by_word : (h : Option ℕ) → ((n : ℕ) → h ≡ Some n → n < 2 ^ 64) → number_or h < 2 ^ 64
    by_word None small = omega arith
    by_word (Some n) small = small n refl

-- a worker with a thread polls, and one without has none
pub none_rests : (p : Program) (d : Data) (x : Automaton) (u : View) (others : List Frame) → u.threads ≡ [] → Rests p d x u others → HasNone x u others
none_rests p d x u others none h = ⊎_elim (λ k. k) (λ polls. absurd (some_none polls.top polls.below (sym polls.is ∙ none))) h
  where
    some_none : (t : Known) (ts : List Known) → t ∷ ts ≡ [] → ⊥
    some_none t ts e = let no : ⊥ = cc in no

pub polls_rests : (p : Program) (d : Data) (x : Automaton) (u : View) (others : List Frame) → u.threads ≢ [] → Rests p d x u others → Polls p d x u others
polls_rests p d x u others some h = ⊎_elim (λ none. absurd (some none.is)) (λ polls. polls) h

module _ (p : Program) (d : Data) (limits : Limits) (image : Image) (input : List ℕ) (x : Automaton) where
  -- it has no number out of its ready ones, and has begun no more items than it may
  pub record IsOwn (phase : Phase) : Type 0 where
    pub taken : taken_of phase ≡ []
    pub most : (n : ℕ) → most_items phase n ≡ n
    pub taking : is_taking phase ≡ false

  pub ready_in : (u : View) → Holds limits x u → IsOwn x.phase → IsReadyIn x.ready.numbers u
  ready_in u h own =
      let e : taken_of x.phase ++ x.ready.numbers ≡ x.ready.numbers = ap (λ (ns : List ℕ). ns ++ x.ready.numbers) own.taken in
      record {
        once = subst AreOnce e h.ready_once;
        ready = λ c is. h.ready c (subst (λ (ns : List ℕ). Contains ns c) (sym e) is);
        all_ready = λ c is. subst (λ (ns : List ℕ). Contains ns c) e (h.all_ready c is);
      }

  -- what a step leaves of the worker, which has such a phase, and of its view
  pub record Leaves (u v : View) (numbers : List ℕ) : Type 0 where
    pub is_for : IsFor p d limits image input x
    pub held : Holds limits x u
    pub own : IsOwn x.phase
    pub same : SameNumbers u v
    pub exported : v.exported ≡ u.exported
    pub threads : v.threads ≡ u.threads
    pub asked : v.asked ≡ u.asked
    pub ready : IsReadyIn numbers v

  pub fits_turned : (phase : Phase) (numbers : List ℕ) (u v : View) → Leaves u v numbers → IsOwn phase → ByPhase p d limits phase (turned phase numbers x) v → FitsIn p d limits image input (turned phase numbers x) v
  fits_turned phase numbers u v l is by =
      let e : taken_of phase ++ numbers ≡ numbers = ap (λ (ns : List ℕ). ns ++ numbers) is.taken in
      record {
        is_for = same_for p d limits image input x (turned phase numbers x) l.is_for (record { number = refl; code = refl; length_is = refl; steps = refl; cells = refl; room = refl; ready_room = refl; lo = refl; hi = refl; low = refl; high = refl });
        holds =
            same_holds limits x (turned phase numbers x) u v l.held l.same l.exported
            (record { number = refl; workers = refl; cells = refl; items = refl; frame_bytes = refl; exported = refl; last = refl; machine = refl; most = λ n. is.most n ∙ sym (l.own.most n); opened = refl; taking = λ none. l.own.taking })
            (record {
              notes = l.held.notes ∙ ap notes_of (sym l.threads);
              ready_once = subst AreOnce (sym e) l.ready.once;
              ready = λ c in'. l.ready.ready c (subst (λ (ns : List ℕ). Contains ns c) e in');
              all_ready = λ c in'. subst (λ (ns : List ℕ). Contains ns c) (sym e) (l.ready.all_ready c in');
              asked = l.asked ∙ l.held.asked;
            }) refl;
        by = by;
      }

  -- by a step off the stack
  pub rests_turned : (phase : Phase) (numbers : List ℕ) (u : View) (s : Step) (a : Answer) → IsFor p d limits image input x → IsOffStack s → IsBehind p d (after p d u s a) → (after p d u s a).threads ≡ u.threads → Rests p d x u [] → Rests p d (turned phase numbers x) (after p d u s a) []
  rests_turned phase numbers u s a is_for off behind threads rests =
      rests_kept p d x (turned phase numbers x) u (after p d u s a) is_for.code.accepted (words_held (after p d u s a).held behind.words) refl refl (untouched p d u s a off) threads [] rests

-- it fits the view that its board has then
pub fits_after : (p : Program) (d : Data) (limits : Limits) (image : Image) (input : List ℕ) (y : Automaton) (v : View) → FitsIn p d limits image input y v → Fits p d limits image input y v
fits_after p d limits image input y v is =
    let e = settled p d limits image input y v is in
    record { made = subst (λ (w : View). Made p d v w) (sym e) ([], refl); fits = subst (λ (w : View). FitsIn p d limits image input y w) (sym e) is }
