-- A worker that polls: the own request word is read, and the stop word. Read asks_request, polling_fits, heeding_fits.
use Rattle.std.proofs.Common.{◌≡◌, ◌≢◌, ◌⊎◌, inl, inr, ℕ, ◌<◌, ◌≤◌, Bool, true, false, ◌==◌, List, [], ◌++◌, Option, Some, None, refl, sym, subst, arith}
use Rattle.std.specs.Prelude.{if◌then◌else◌}
use Rattle.st_base.specs.declared.image.Image.{Image}
use Rattle.st_base.specs.declared.limits.Limits.{Limits}
use Rattle.st_words.specs.declared.view.View.{View}
use Rattle.st_words.specs.Encodings.{asking}
use Rattle.st_words.specs.Promises.{Promises}
use Rattle.st_words.specs.Steps.{Step, StopLoad, RequestLoad, Answer, Number}
use Rattle.st_words.proofs.Asking.{asked_by}
use Rattle.st_words.proofs.Safe.{request_load, stop_load}
use Rattle.st_model.specs.declared.program.Program.{Program}
use Rattle.st_model.specs.Memory.{Data}
use Rattle.st_run.specs.Behind.{IsBehind}
use Rattle.st_run.specs.Meanings.{meaning}
use Rattle.st_steal.specs.Words.{IsAsker}
use Rattle.st_phases.specs.declared.automaton.Automaton.{Automaton}
use Rattle.st_phases.specs.declared.phase.Phase.{Phase}
use Rattle.st_phases.specs.declared.phase.Phase.TheVariants as phases
use Rattle.st_phases.specs.declared.turn.Turn.{Turn}
use Rattle.st_fits.specs.Bags.{units}
use Rattle.st_fits.specs.Before.{after}
use Rattle.st_fits.specs.Fits.{ByPhase, FitsIn, IsAsked, taken_of}
use Rattle.st_fits.specs.Laws.{Does, IsReady, MayAsk}
use Rattle.st_fits.specs.Threads.{Polls, Rests}
use Rattle.st_kept.specs.Keeping.{IsOffStack, HasNoItem}
use Rattle.st_kept.proofs.Standing.{polls_kept, rests_kept}
use Rattle.st_kept.proofs.Stepping.{no_item_asks, no_item_threads, numbers, untouched}
use Rattle.st_answers.proofs.Hearing.{Quiet, request_read, stop_read, bag_still}
use Rattle.st_answers.proofs.Turned.{turned, IsReadyIn, IsCalm, MakesMost, Leaves, fits_turned, fits_as, ready_of, ready_same, words_held}

module _ (p : Program) (d : Data) (limits : Limits) (image : Image) (input : List ℕ) (x : Automaton) (u : View) (ready : IsReady p d limits image input x u) where
  pub by_in : (φ : Phase) → x.phase ≡ φ → ByPhase p d limits φ x u
  by_in φ e = subst (λ φ. ByPhase p d limits φ x u) e ready.fits.by

  -- a step off the stack without an item, which leaves the request and the ready numbers
  pub left_by : (s : Step) (a : Answer) → IsOffStack s → HasNoItem s → Quiet u (after p d u s a) → Leaves p d limits image input u (after p d u s a)
  left_by s a off none quiet = record { same = numbers p d u s a; exported = (untouched p d u s a off).exported; threads = no_item_threads p d u s a none; asked = quiet.asked }

  pub calm_in : (φ : Phase) → x.phase ≡ φ → IsCalm φ → IsCalm x.phase
  calm_in φ e calm = subst IsCalm (sym e) calm

  -- its threads rest as before
  pub rests_on : (φ : Phase) (ns : List ℕ) (since : ℕ) (s : Step) (a : Answer) → IsOffStack s → HasNoItem s → IsBehind p d (after p d u s a) → Rests p d x u [] → Rests p d (turned φ ns since x) (after p d u s a) []
  rests_on φ ns since s a off none behind rests = rests_kept p d x (turned φ ns since x) u (after p d u s a) ready.fits.is_for.code.accepted (words_held (after p d u s a).held behind.words) refl refl (untouched p d u s a off) (no_item_threads p d u s a none) [] rests

  pub polls_on : (φ : Phase) (ns : List ℕ) (since : ℕ) (s : Step) (a : Answer) → IsOffStack s → HasNoItem s → IsBehind p d (after p d u s a) → Polls p d x u [] → Polls p d (turned φ ns since x) (after p d u s a) []
  polls_on φ ns since s a off none behind polls = polls_kept p d x (turned φ ns since x) u (after p d u s a) ready.fits.is_for.code.accepted (words_held (after p d u s a).held behind.words) refl refl (untouched p d u s a off) (no_item_threads p d u s a none) [] polls

  -- to another phase, with the same numbers
  pub goes_quiet : (φ ψ : Phase) (since : ℕ) (s : Step) (a : Answer) → x.phase ≡ φ → taken_of φ ≡ [] → taken_of ψ ≡ [] → IsCalm φ → MakesMost ψ → IsOffStack s → HasNoItem s → Quiet u (after p d u s a) → ByPhase p d limits ψ (turned ψ x.ready.numbers since x) (after p d u s a)
      → FitsIn p d limits image input (turned ψ x.ready.numbers since x) (after p d u s a)
  goes_quiet φ ψ since s a e was none one two off item quiet by =
      fits_turned p d limits image input x ψ x.ready.numbers since u (after p d u s a) ready.fits (calm_in φ e one) two (left_by s a off item quiet)
      (subst (λ (cs : List ℕ). IsReadyIn (cs ++ x.ready.numbers) (after p d u s a)) (sym none) (ready_same x.ready.numbers u (after p d u s a) quiet.ready (ready_of p d limits image input x u ready.fits.holds (subst (λ (φ : Phase). taken_of φ ≡ []) (sym e) was)))) by

  -- ---- the own request word

  pub own_below : x.number < u.workers
  own_below = subst (λ n. n < u.workers) (sym ready.fits.holds.number) ready.fits.holds.below

  pub asks_request : MayAsk p d limits u (RequestLoad x.number)
  asks_request = no_item_asks p d limits u (RequestLoad x.number) tt (request_load (meaning p d limits) u x.number own_below)

  pub asks_stop : MayAsk p d limits u StopLoad
  asks_stop = no_item_asks p d limits u StopLoad tt (stop_load (meaning p d limits) u)

  -- the worker that asks is another one
  asker_is : (n : ℕ) (asker : Option ℕ) → IsAsker n asker → (n ≡ 0) ⊎ ((k : ℕ) × (k < u.workers) × (k ≢ u.number) × (n ≡ asking k)) → (w : View) → w.workers ≡ u.workers → w.number ≡ u.number → IsAsked p d limits asker w
  asker_is n None is found w workers number = tt
  asker_is n (Some asker) (some, is) (inl none) w workers number = absurd (some none)
  asker_is n (Some asker) (some, is) (inr (k, few, other, found)) w workers number =
      let least : u.workers ≤ 16 = ready.fits.holds.few_workers in
      let same : n ≡ asking asker = is (omega (arith, few, found, least)) in
      let one : k ≡ asker = omega (arith, same, found) in
      (subst (λ n. n < w.workers) one (subst (λ n. k < n) (sym workers) few), subst (λ n. n ≢ w.number) one (subst (λ n. k ≢ n) (sym number) other))

  pub polling_fits : (y : Automaton) (old v : View) (turn : Turn) → x.phase ≡ phases.Polling → Does p d limits image input u old x turn y v phases.Polling → FitsIn p d limits image input y v
  polling_fits y old v turn e (n, asker, told, asks, is, ran) =
      let b = by_in phases.Polling e in
      let s : Step = RequestLoad x.number in
      let w : View = after p d u s (Number n) in
      let behind : IsBehind p d w = subst (IsBehind p d) told.is told.behind in
      let still = request_read p d u x.number n in
      let found = asked_by u n (subst (λ at. Promises u (RequestLoad at) (Number n)) ready.fits.holds.number told.promised) b.1.answering in
      fits_as p d limits image input y (turned (phases.Heeding asker) x.ready.numbers x.since x) v w is told.is
      (goes_quiet phases.Polling (phases.Heeding asker) x.since s (Number n) e refl refl (refl, λ n. refl) (λ n. refl) tt tt still.quiet
      ((polls_on (phases.Heeding asker) x.ready.numbers x.since s (Number n) tt tt behind b.0, bag_still p d u (units 1) w still b.1), asker_is n asker asks found w (numbers p d u s (Number n)).workers (numbers p d u s (Number n)).number))

  -- ---- the stop word

  asked_still : (asker : Option ℕ) (w : View) → w.workers ≡ u.workers → w.number ≡ u.number → IsAsked p d limits asker u → IsAsked p d limits asker w
  asked_still None w workers number asked = tt
  asked_still (Some asker) w workers number asked = (subst (λ n. asker < n) (sym workers) asked.0, subst (λ n. asker ≢ n) (sym number) asked.1)

  heeds : (asker : Option ℕ) (n : ℕ) (b : Bool) → x.phase ≡ phases.Heeding asker → IsBehind p d (after p d u StopLoad (Number n)) → FitsIn p d limits image input (record x { since = 0; phase = if b then phases.Shrinking asker else x.phase }) (after p d u StopLoad (Number n))
  heeds asker n true e behind =
      let b = by_in (phases.Heeding asker) e in
      let w : View = after p d u StopLoad (Number n) in
      let same = numbers p d u StopLoad (Number n) in
      goes_quiet (phases.Heeding asker) (phases.Shrinking asker) 0 StopLoad (Number n) e refl refl (refl, λ n. refl) (λ n. refl) tt tt (stop_read p d u n).quiet
      ((polls_on (phases.Shrinking asker) x.ready.numbers 0 StopLoad (Number n) tt tt behind b.0.0, bag_still p d u (units 1) w (stop_read p d u n) b.0.1), asked_still asker w same.workers same.number b.1)
  heeds asker n false e behind =
      let b = by_in (phases.Heeding asker) e in
      let w : View = after p d u StopLoad (Number n) in
      let same = numbers p d u StopLoad (Number n) in
      subst (λ (φ : Phase). FitsIn p d limits image input (record x { since = 0; phase = φ }) w) (sym e)
      (goes_quiet (phases.Heeding asker) (phases.Heeding asker) 0 StopLoad (Number n) e refl refl (refl, λ n. refl) (λ n. refl) tt tt (stop_read p d u n).quiet
      ((polls_on (phases.Heeding asker) x.ready.numbers 0 StopLoad (Number n) tt tt behind b.0.0, bag_still p d u (units 1) w (stop_read p d u n) b.0.1), asked_still asker w same.workers same.number b.1))

  pub heeding_fits : (asker : Option ℕ) (y : Automaton) (old v : View) (turn : Turn) → x.phase ≡ phases.Heeding asker → Does p d limits image input u old x turn y v (phases.Heeding asker) → FitsIn p d limits image input y v
  heeding_fits asker y old v turn e (n, told, is, ran) =
      let w : View = after p d u StopLoad (Number n) in
      fits_as p d limits image input y (record x { since = 0; phase = if n == 0 then phases.Shrinking asker else x.phase }) v w is told.is (heeds asker n (n == 0) e (subst (IsBehind p d) told.is told.behind))
