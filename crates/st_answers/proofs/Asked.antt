-- A request is answered: the own request word is changed, and at the end changed back. Read may_answer, answering_fits, may_clear and clearing_fits.
use Rattle.std.proofs.Common.{◌≡◌, ◌≢◌, ℕ, ◌+◌, ◌<◌, ◌^◌, Bool, true, false, ◌==◌, ◌&&◌, ◌||◌, List, [], ◌∷◌, ◌++◌, length, Option, Some, None, refl, sym, ap, ◌∙◌, subst}
use Rattle.std.specs.Prelude.{if◌then◌else◌, not, nat_lt, is_some}
use Rattle.std.proofs.lemmas.Bool.{eqb-true}
use Rattle.st_base.specs.declared.chain.Note.{Note}
use Rattle.st_base.specs.declared.image.ForkRow.{ForkRow}
use Rattle.st_base.specs.declared.image.Image.{Image}
use Rattle.st_base.specs.declared.limits.Limits.{Limits}
use Rattle.st_words.specs.declared.view.Known.{Known}
use Rattle.st_words.specs.declared.view.View.{View}
use Rattle.st_words.specs.Encodings.{asking, answering_word}
use Rattle.st_words.specs.Promises.{Promises}
use Rattle.st_words.specs.Safely.{Safe}
use Rattle.st_words.specs.Steps.{Step, RequestChange, Answer, Number, some_thread}
use Rattle.st_words.proofs.Asking.{begin_safe, clear_safe}
use Rattle.st_model.specs.declared.program.Program.{Program}
use Rattle.st_model.specs.Memory.{Data}
use Rattle.st_chain.specs.Forks.{AreRising, handle_behind}
use Rattle.st_chain.specs.Taking.{notes_of}
use Rattle.st_chain.proofs.ForkPlaces.{forks_rise}
use Rattle.st_run.specs.Behind.{IsBehind}
use Rattle.st_run.specs.Meanings.{meaning}
use Rattle.st_steal.specs.Ready.{IsPopped}
use Rattle.st_phases.specs.declared.automaton.Automaton.{Automaton}
use Rattle.st_phases.specs.declared.phase.Phase.{Phase}
use Rattle.st_phases.specs.declared.phase.Phase.TheVariants as phases
use Rattle.st_phases.specs.declared.turn.Turn.{Turn}
use Rattle.st_phases.specs.Answering.{GoesOnAnswered, has_two, chosen, answers}
use Rattle.st_phases.specs.Automaton.{with_ready}
use Rattle.st_fits.specs.Bags.{HasBag, units, own_and, answers as answering_bag}
use Rattle.st_fits.specs.Before.{after}
use Rattle.st_fits.specs.Fits.{ByPhase, FitsIn, IsAsking, InHand, taken_of}
use Rattle.st_fits.specs.Laws.{Does, IsReady, MayAsk}
use Rattle.st_fits.specs.Threads.{Polls, Rests}
use Rattle.st_kept.specs.Keeping.{IsOffStack, HasNoItem}
use Rattle.st_kept.proofs.Stepping.{no_item_asks, no_item_threads, numbers}
use Rattle.st_answers.proofs.Hearing.{Quiet, Answers, begun, not_changed, cleared, bag_still, bag_answers}
use Rattle.st_answers.proofs.Places.{rest_place}
use Rattle.st_answers.proofs.Polling.{by_in, left_by, calm_in, rests_on, polls_on, goes_quiet}
use Rattle.st_answers.proofs.Turned.{turned, IsReadyIn, IsCalm, MakesMost, fits_turned, fits_as, ready_of, ready_same, none_rests, polls_rests, no_notes, some_notes, thread_one, runs_fits}

-- who has two threads has one
two_some : (forks : List ForkRow) (x : Automaton) → has_two forks x ≡ true → x.threads.notes ≢ []
two_some forks x two none =
    let few : length x.threads.notes ≡ 0 = ap length none in
    let first : nat_lt 2 (length x.threads.notes) ≡ false = ap (λ (n : ℕ). nat_lt 2 n) few in
    let second : (length x.threads.notes == 2) ≡ false = ap (λ (n : ℕ). n == 2) few in
    let both : has_two forks x ≡ false = ap (λ (b : Bool). b || ((length x.threads.notes == 2) && not (is_some (handle_behind forks (x.machine.pc + 4))))) first ∙ ap (λ (b : Bool). b && not (is_some (handle_behind forks (x.machine.pc + 4)))) second in
    let no : ⊥ = cc in no

module _ (p : Program) (d : Data) (limits : Limits) (image : Image) (input : List ℕ) (x : Automaton) (u : View) (ready : IsReady p d limits image input x u) where
  -- ---- what may be asked

  number_is : x.number ≡ u.number
  number_is = ready.fits.holds.number

  pub may_answer : (asker : ℕ) → x.phase ≡ phases.Answering asker → AreRising 0 image.forks × (x.machine.pc + 4 < 2 ^ 32) × MayAsk p d limits u (RequestChange x.number (asking asker) answering_word)
  may_answer asker e =
      let b = by_in p d limits image input x u ready (phases.Answering asker) e in (
        forks_rise p image ready.fits.is_for.code,
        rest_place p d x u [] ready.fits.is_for.size b.0.0,
        no_item_asks p d limits u (RequestChange x.number (asking asker) answering_word) tt (subst (λ (n : ℕ). Safe (meaning p d limits) u (RequestChange n (asker + 1) 32)) (sym number_is) (begin_safe (meaning p d limits) u asker ready.fits.holds.below b.0.1.answering b.1.0 b.1.1)),
      )

  pub may_clear : x.phase ≡ phases.Clearing → MayAsk p d limits u (RequestChange x.number answering_word 0)
  may_clear e =
      let (asker, put, b) = by_in p d limits image input x u ready phases.Clearing e in
      no_item_asks p d limits u (RequestChange x.number answering_word 0) tt
      (subst (λ (n : ℕ). Safe (meaning p d limits) u (RequestChange n 32 0)) (sym number_is) (clear_safe (meaning p d limits) u (record { asker = asker; put = put; told = true }) ready.fits.holds.below b.1.answering refl))

  -- ---- the worker goes on without an answer

  no_threads : x.threads.notes ≡ [] → u.threads ≡ []
  no_threads none = no_notes u.threads (sym ready.fits.holds.notes ∙ none)

  some_threads : (n : Note) (ns : List Note) → x.threads.notes ≡ n ∷ ns → u.threads ≢ []
  some_threads n ns is = some_notes u.threads n ns (sym ready.fits.holds.notes ∙ is)

  pub goes_on : (φ : Phase) (s : Step) (a : Answer) (y : Automaton) (notes : List Note) → x.phase ≡ φ → taken_of φ ≡ [] → IsCalm φ → IsOffStack s → HasNoItem s → Quiet u (after p d u s a) → IsBehind p d (after p d u s a) → Rests p d x u [] → HasBag (own_and 0 u) (after p d u s a) → x.threads.notes ≡ notes
      → GoesOnAnswered notes x y → FitsIn p d limits image input y (after p d u s a)
  goes_on φ s a y [] e was calm off item quiet behind rests bag none is =
      let w : View = after p d u s a in
      let empty : u.threads ≡ [] = no_threads none in
      let there : w.threads ≡ [] = no_item_threads p d u s a item ∙ empty in
      fits_as p d limits image input y (turned phases.Mail x.ready.numbers x.since x) w w is refl
      (goes_quiet p d limits image input x u ready φ phases.Mail x.since s a e was refl calm (λ n. refl) off item quiet
      (none_rests p d (turned phases.Mail x.ready.numbers x.since x) w [] there (rests_on p d limits image input x u ready phases.Mail x.ready.numbers x.since s a off item behind rests), subst (λ (ts : List Known). HasBag (units (some_thread ts + 0)) w) empty bag))
  goes_on φ s a y (n ∷ ns) e was calm off item quiet behind rests bag some is =
      let w : View = after p d u s a in
      let have : u.threads ≢ [] = some_threads n ns some in
      let z : Automaton = turned phases.Polling x.ready.numbers x.since x in
      let polls : Polls p d z w [] = polls_on p d limits image input x u ready phases.Polling x.ready.numbers x.since s a off item behind (polls_rests p d x u [] have rests) in
      let one : HasBag (units 1) w = subst (λ (k : ℕ). HasBag (units (k + 0)) w) (thread_one u.threads have) bag in
      let fits : FitsIn p d limits image input z w = goes_quiet p d limits image input x u ready φ phases.Polling x.since s a e was refl calm (λ n. refl) off item quiet (polls, one) in
      runs_fits p d limits image input z y w refl behind fits polls one (record { limit = is.limit; is_limit = is.is_limit; same = is.same })

  -- ---- the answer begins

  -- it is begun, and the number that was taken out is the first ready one, if there is one
  module _ (asker : ℕ) (e : x.phase ≡ phases.Answering asker) (behind : IsBehind p d (after p d u (RequestChange u.number (asker + 1) 32) (Number (asker + 1)))) where
    abbrev s : Step
    s = RequestChange u.number (asker + 1) 32

    abbrev w : View
    w = after p d u s (Number (asker + 1))

    hand : InHand p d limits x u (own_and 0 u)
    hand = (by_in p d limits image input x u ready (phases.Answering asker) e).0

    asks : IsAsking p d limits asker w
    asks =
        let was = (by_in p d limits image input x u ready (phases.Answering asker) e).1 in
        let same = numbers p d u s (Number (asker + 1)) in
        (subst (λ n. asker < n) (sym same.workers) was.0, subst (λ n. asker ≢ n) (sym same.number) was.1)

    changed : Answers p d u (Some (record { asker = asker; put = false; told = false })) w
    changed = begun p d u asker

    bag : HasBag (answering_bag asker false false (own_and 0 u)) w
    bag = bag_answers p d u (own_and 0 u) (Some (record { asker = asker; put = false; told = false })) w changed hand.1

    threads : w.threads ≡ u.threads
    threads = no_item_threads p d u s (Number (asker + 1)) tt

    bag_now : HasBag (answering_bag asker false false (own_and 0 w)) w
    bag_now = subst (λ (ts : List Known). HasBag (answering_bag asker false false (units (some_thread ts + 0))) w) (sym threads) bag

    numbers_now : IsReadyIn x.ready.numbers w
    numbers_now = ready_same x.ready.numbers u w changed.quiet.ready (ready_of p d limits image input x u ready.fits.holds (ap taken_of e))

    goes_to : (ψ : Phase) (ns : List ℕ) → MakesMost ψ → taken_of ψ ++ ns ≡ x.ready.numbers → ByPhase p d limits ψ (turned ψ ns x.since x) w → FitsIn p d limits image input (turned ψ ns x.since x) w
    goes_to ψ ns calm same by =
        fits_turned p d limits image input x ψ ns x.since u w ready.fits (calm_in p d limits image input x u ready (phases.Answering asker) e (refl, λ n. refl)) calm (left_by p d limits image input x u ready s (Number (asker + 1)) tt tt changed.quiet)
        (subst (λ (cs : List ℕ). IsReadyIn cs w) (sym same) numbers_now) by

    rests : (ψ : Phase) (ns : List ℕ) → Rests p d (turned ψ ns x.since x) w []
    rests ψ ns = rests_on p d limits image input x u ready ψ ns x.since s (Number (asker + 1)) tt tt behind hand.0

    shares : (ns : List ℕ) (b : Bool) → ns ≡ x.ready.numbers → has_two image.forks x ≡ b → FitsIn p d limits image input (turned (if b then phases.Sharing asker else phases.Telling asker false) ns x.since x) w
    shares ns true same two =
        let some : u.threads ≢ [] = (λ none. two_some image.forks x two (ready.fits.holds.notes ∙ ap notes_of none)) in
        let one : HasBag (answering_bag asker false false (units 1)) w = subst (λ (k : ℕ). HasBag (answering_bag asker false false (units (k + 0))) w) (thread_one u.threads some) bag in
        goes_to (phases.Sharing asker) ns (λ n. refl) same (
          (polls_on p d limits image input x u ready (phases.Sharing asker) ns x.since s (Number (asker + 1)) tt tt behind (polls_rests p d x u [] some hand.0), one),
          subst (λ (forks : List ForkRow). has_two forks x ≡ true) ready.fits.is_for.code.is_image.forks two,
          asks,
        )
    shares ns false same two = goes_to (phases.Telling asker false) ns (λ n. refl) same ((rests (phases.Telling asker false) ns, bag_now), asks)

    pub pops : (popped : Option ℕ) (ns : List ℕ) → IsPopped x.ready.numbers popped ns → FitsIn p d limits image input (chosen asker popped image.forks (with_ready ns x)) w
    pops (Some cell) ns is = goes_to (phases.Picking asker cell) ns (λ n. refl) (sym is) ((rests (phases.Picking asker cell) ns, bag_now), asks)
    pops None ns (old, new) = shares ns (has_two image.forks x) (new ∙ sym old) refl

  own_change : (old new n : ℕ) (v : View) → v ≡ after p d u (RequestChange x.number old new) (Number n) → v ≡ after p d u (RequestChange u.number old new) (Number n)
  own_change old new n v is = is ∙ ap (λ (k : ℕ). after p d u (RequestChange k old new) (Number n)) number_is

  by_found : (asker n : ℕ) (b : Bool) (y : Automaton) (v : View) → (n == asker + 1) ≡ b → x.phase ≡ phases.Answering asker → v ≡ after p d u (RequestChange u.number (asker + 1) 32) (Number n) → IsBehind p d v → answers b asker image.forks x y → FitsIn p d limits image input y v
  by_found asker n true y v found e is behind (popped, is_popped, same) =
      let w : View = after p d u (RequestChange u.number (asker + 1) 32) (Number (asker + 1)) in
      let here : v ≡ w = is ∙ ap (λ (k : ℕ). after p d u (RequestChange u.number (asker + 1) 32) (Number k)) (eqb-true n (asker + 1) found) in
      fits_as p d limits image input y (chosen asker popped image.forks (with_ready y.ready.numbers x)) v w same here (pops asker e (subst (IsBehind p d) here behind) popped y.ready.numbers is_popped)
  by_found asker n false y v found e is behind goes =
      let s : Step = RequestChange u.number (asker + 1) 32 in
      let w : View = after p d u s (Number n) in
      let b = (by_in p d limits image input x u ready (phases.Answering asker) e).0 in
      let still = not_changed p d u u.number (asker + 1) 32 n found in
      fits_as p d limits image input y y v w refl is
      (goes_on (phases.Answering asker) s (Number n) y x.threads.notes e refl (refl, λ n. refl) tt tt still.quiet (subst (IsBehind p d) is behind) b.0 (bag_still p d u (own_and 0 u) w still b.1) refl goes)

  pub answering_fits : (asker : ℕ) (y : Automaton) (old v : View) (turn : Turn) → x.phase ≡ phases.Answering asker → Does p d limits image input u old x turn y v (phases.Answering asker) → FitsIn p d limits image input y v
  answering_fits asker y old v turn e (n, told, answered, ran) = by_found asker n (n == asker + 1) y v refl e (own_change (asker + 1) 32 n v told.is) told.behind answered

  -- ---- the answer ends

  pub clearing_fits : (y : Automaton) (old v : View) (turn : Turn) → x.phase ≡ phases.Clearing → Does p d limits image input u old x turn y v phases.Clearing → FitsIn p d limits image input y v
  clearing_fits y old v turn e (n, told, goes, ran) =
      let (asker, put, b) = by_in p d limits image input x u ready phases.Clearing e in
      let s : Step = RequestChange u.number 32 0 in
      let w : View = after p d u s (Number n) in
      let is : v ≡ w = own_change 32 0 n v told.is in
      let promised : Promises u (RequestChange u.number 32 0) (Number n) = subst (λ (k : ℕ). Promises u (RequestChange k 32 0) (Number n)) number_is told.promised in
      let found : n ≡ 32 = promised.answers (record { asker = asker; put = put; told = true }) refl b.1.answering in
      let changed = cleared p d u n found in
      fits_as p d limits image input y y v w refl is
      (goes_on phases.Clearing s (Number n) y x.threads.notes e refl (refl, λ n. refl) tt tt changed.quiet (subst (IsBehind p d) is told.behind) b.0 (bag_answers p d u (answering_bag asker put true (own_and 0 u)) None w changed b.1) refl goes)
