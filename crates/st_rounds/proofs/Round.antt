-- The phases of a round that read and store words of requests, mail, the stop word and the active count: what each may ask, and that the worker fits the view after it.
use Rattle.std.proofs.Common.{◌≡◌, ◌≢◌, ◌⊎◌, inl, inr, ℕ, zero, suc, ◌+◌, ◌≤◌, ◌<◌, Bool, true, false, ◌==◌, List, [], Option, Some, None, refl, sym, ◌∙◌, subst, arith, eq-eqb}
use Rattle.std.specs.Prelude.{if◌then◌else◌}
use Rattle.st_base.specs.declared.image.Image.{Image}
use Rattle.st_base.specs.declared.limits.Limits.{Limits}
use Rattle.st_words.specs.declared.view.View.{View}
use Rattle.st_words.specs.Encodings.{asking, given}
use Rattle.st_words.specs.Promises.{Promises}
use Rattle.st_words.specs.Steps.{ActiveLoad, StopLoad, RequestLoad, MailStore, Done, Number, some_thread}
use Rattle.st_words.specs.Views.{view_after, mail_sent}
use Rattle.st_words.proofs.Asking.{asked_by}
use Rattle.st_model.specs.declared.program.Program.{Program}
use Rattle.st_model.specs.Memory.{Data}
use Rattle.st_steal.specs.Words.{IsAsker}
use Rattle.st_phases.specs.declared.automaton.Automaton.{Automaton}
use Rattle.st_phases.specs.declared.phase.Phase.{Phase}
use Rattle.st_phases.specs.declared.phase.Phase.TheVariants as phases
use Rattle.st_phases.specs.declared.turn.Turn.{Turn}
use Rattle.st_phases.specs.Automaton.{with_phase}
use Rattle.st_phases.specs.Idle.{request_read}
use Rattle.st_fits.specs.Bags.{HasBag, units}
use Rattle.st_fits.specs.Fits.{Idle, ByPhase, FitsIn}
use Rattle.st_fits.specs.Laws.{Told, Does, IsReady}
use Rattle.st_rounds.proofs.Hearing.{Heard, hears, heard_of, stop_heard, active_heard, request_heard}
use Rattle.st_rounds.proofs.Idle.{Turns, turned, to_phase, IsCalm, same_machine, Asks, round_fits, fits_as, none_same, bag_heard}

-- ---- what a step leaves as it was

pub record Unmoved (u v : View) : Type 0 where
  pub asked : v.asked ≡ u.asked
  pub answering : v.answering ≡ u.answering
  pub given : v.given ≡ u.given
  pub root : v.root ≡ u.root

pub stop_unmoved : (u : View) (n : ℕ) → Unmoved u (view_after u StopLoad (Number n))
unfolding view_after
stop_unmoved u zero = record { asked = refl; answering = refl; given = refl; root = refl }
stop_unmoved u (suc n) = record { asked = refl; answering = refl; given = refl; root = refl }

active_unmoved : (u : View) (n : ℕ) → Unmoved u (view_after u ActiveLoad (Number n))
unfolding view_after
active_unmoved u zero = record { asked = refl; answering = refl; given = refl; root = refl }
active_unmoved u (suc n) = record { asked = refl; answering = refl; given = refl; root = refl }

request_unmoved : (u : View) (at n : ℕ) → Unmoved u (view_after u (RequestLoad at) (Number n))
unfolding view_after
request_unmoved u at n = record { asked = refl; answering = refl; given = refl; root = refl }

-- the own mail word is stored
sent_own : (u : View) (b : Bool) (n : ℕ) → b ≡ true → mail_sent b n u ≡ record u { mail = n }
sent_own u true n e = refl
sent_own u false n e = absurd (cc)

pub own_mail : (u : View) (n : ℕ) → view_after u (MailStore u.number n) Done ≡ record u { mail = n }
unfolding view_after
own_mail u n = sent_own u (u.number == u.number) n (eq-eqb u.number u.number refl)

-- ---- the next phase

module _ (p : Program) (d : Data) (limits : Limits) (image : Image) (input : List ℕ) where
  pub idle_heard : (x : Automaton) (t : Turns) (u : View) (h : Heard) → t.machine ≡ x.machine → Idle p d limits x u (units 0) → h.answering ≡ None → h.given ≡ false → h.root ≡ false → Idle p d limits (turned t x) (hears h u) (units 0)
  idle_heard x t u h same (none, bag) answering given root = (none_same x t u h [] same none, bag_heard (units 0) u h false false bag answering given root)

  -- where the step has left all but one word
  pub idle_unmoved : (x : Automaton) (t : Turns) (u v : View) → t.machine ≡ x.machine → Idle p d limits x u (units 0) → Unmoved u v → Idle p d limits (turned t x) (hears (heard_of v) u) (units 0)
  idle_unmoved x t u v same (none, bag) moved = idle_heard x t u (heard_of v) same (none, bag) (moved.answering ∙ bag.answering) (moved.given ∙ bag.given) (moved.root ∙ bag.root)

  pub asks_unmoved : (x : Automaton) (u v : View) (φ : Phase) (since : ℕ) → FitsIn p d limits image input x u → Unmoved u v → Asks (record (to_phase φ x) { since = since }) (heard_of v) u
  asks_unmoved x u v φ since fits moved = record { asked = moved.asked ∙ fits.holds.asked; other = fits.holds.asked_other; last = fits.holds.last }

  module _ (x : Automaton) (u : View) (ready : IsReady p d limits image input x u) where
    -- in which the worker may be without a thread
    pub by_in : (φ : Phase) → x.phase ≡ φ → ByPhase p d limits φ x u
    by_in φ e = subst (λ φ. ByPhase p d limits φ x u) e ready.fits.by

    pub calm_in : (φ : Phase) → x.phase ≡ φ → IsCalm φ → IsCalm x.phase
    calm_in φ e calm = subst IsCalm (sym e) calm

    -- to another phase, where a step has left all but one word
    pub goes : (φ ψ : Phase) (since : ℕ) (next : Phase) (v : View) → next ≡ ψ → x.phase ≡ φ → IsCalm φ → IsCalm ψ → Idle p d limits x u (units 0) → Unmoved u v
        → (Idle p d limits (turned (record (to_phase next x) { since = since }) x) (hears (heard_of v) u) (units 0) → ByPhase p d limits ψ (turned (record (to_phase next x) { since = since }) x) (hears (heard_of v) u))
        → FitsIn p d limits image input (turned (record (to_phase next x) { since = since }) x) (hears (heard_of v) u)
    goes φ ψ since next v is e one two idle moved by =
        round_fits p d limits image input x (record (to_phase next x) { since = since }) u (heard_of v) ψ is (same_machine x.machine) (calm_in φ e one) two (asks_unmoved x u v next since ready.fits moved) ready.fits
        (by (idle_unmoved x (record (to_phase next x) { since = since }) u v refl idle moved))

    -- ---- the stop word

    heeds : (b : Bool) (n : ℕ) → x.phase ≡ phases.Stop → FitsIn p d limits image input (record x { since = 0; phase = if b then phases.Active else x.phase }) (hears (heard_of (view_after u StopLoad (Number n))) u)
    heeds true n e = goes phases.Stop phases.Active 0 phases.Active (view_after u StopLoad (Number n)) refl e (record { none = refl; most = λ n. refl; taking = refl }) (record { none = refl; most = λ n. refl; taking = refl }) (by_in phases.Stop e) (stop_unmoved u n) (λ idle. idle)
    heeds false n e = goes phases.Stop phases.Stop 0 x.phase (view_after u StopLoad (Number n)) e e (record { none = refl; most = λ n. refl; taking = refl }) (record { none = refl; most = λ n. refl; taking = refl }) (by_in phases.Stop e) (stop_unmoved u n) (λ idle. idle)

    pub stop_fits : (y : Automaton) (old v : View) (turn : Turn) → x.phase ≡ phases.Stop → Does p d limits image input u old x turn y v phases.Stop → FitsIn p d limits image input y v
    stop_fits y old v turn e (n, told, is, ran) = fits_as p d limits image input y _ v _ is (told.is ∙ stop_heard p d u n) (heeds (n == 0) n e)

    -- ---- the active count

    reads : (b : Bool) (n : ℕ) → x.phase ≡ phases.Active → FitsIn p d limits image input (if b then x else with_phase phases.Own x) (hears (heard_of (view_after u ActiveLoad (Number n))) u)
    reads true n e = goes phases.Active phases.Active x.since x.phase (view_after u ActiveLoad (Number n)) e e (record { none = refl; most = λ n. refl; taking = refl }) (record { none = refl; most = λ n. refl; taking = refl }) (by_in phases.Active e) (active_unmoved u n) (λ idle. idle)
    reads false n e = goes phases.Active phases.Own x.since phases.Own (view_after u ActiveLoad (Number n)) refl e (record { none = refl; most = λ n. refl; taking = refl }) (record { none = refl; most = λ n. refl; taking = refl }) (by_in phases.Active e) (active_unmoved u n) (λ idle. idle)

    pub active_fits : (y : Automaton) (old v : View) (turn : Turn) → x.phase ≡ phases.Active → Does p d limits image input u old x turn y v phases.Active → FitsIn p d limits image input y v
    active_fits y old v turn e (n, told, is, ran) = fits_as p d limits image input y _ v _ is (told.is ∙ active_heard p d u n) (reads (n == 0) n e)

    -- ---- the own request word

    -- the worker that asks is another one
    asker_is : (n asker : ℕ) → IsAsker n (Some asker) → (n ≡ 0) ⊎ ((k : ℕ) × (k < u.workers) × (k ≢ u.number) × (n ≡ asking k)) → (asker < u.workers) × (asker ≢ u.number)
    asker_is n asker (some, is) (inl none) = absurd (some none)
    asker_is n asker (some, is) (inr (k, few, other, found)) =
        let least : u.workers ≤ 16 = ready.fits.holds.few_workers in
        let same : n ≡ asking asker = is (omega (arith, few, found, least)) in
        let one : k ≡ asker = omega (arith, same, found) in
        (subst (λ n. n < u.workers) one few, subst (λ n. n ≢ u.number) one other)

    found_by : (n : ℕ) (v : View) → Told p d limits u (RequestLoad x.number) (Number n) v → x.phase ≡ phases.Request → (n ≡ 0) ⊎ ((k : ℕ) × (k < u.workers) × (k ≢ u.number) × (n ≡ asking k))
    found_by n v told e = asked_by u n (subst (λ at. Promises u (RequestLoad at) (Number n)) ready.fits.holds.number told.promised) ((by_in phases.Request e).1.answering)

    requests : (asker : Option ℕ) (n : ℕ) → x.phase ≡ phases.Request → IsAsker n asker → (n ≡ 0) ⊎ ((k : ℕ) × (k < u.workers) × (k ≢ u.number) × (n ≡ asking k))
        → FitsIn p d limits image input (request_read asker x) (hears (heard_of (view_after u (RequestLoad x.number) (Number n))) u)
    requests None n e is found = goes phases.Request phases.Mail x.since phases.Mail (view_after u (RequestLoad x.number) (Number n)) refl e (record { none = refl; most = λ n. refl; taking = refl }) (record { none = refl; most = λ n. refl; taking = refl }) (by_in phases.Request e) (request_unmoved u x.number n) (λ idle. idle)
    requests (Some asker) n e is found = goes phases.Request (phases.Answering asker) x.since (phases.Answering asker) (view_after u (RequestLoad x.number) (Number n)) refl e (record { none = refl; most = λ n. refl; taking = refl }) (record { none = refl; most = λ n. refl; taking = refl }) (by_in phases.Request e) (request_unmoved u x.number n)
        (λ idle. ((inl idle.0, own_bag idle.0.is idle.1), asker_is n asker is found))
      where
        own_bag : {w : View} → w.threads ≡ [] → HasBag (units 0) w → HasBag (units (some_thread w.threads + 0)) w
        own_bag {w} none bag = subst (λ ts. HasBag (units (some_thread ts + 0)) w) (sym none) bag

    pub request_fits : (y : Automaton) (old v : View) (turn : Turn) → x.phase ≡ phases.Request → Does p d limits image input u old x turn y v phases.Request → FitsIn p d limits image input y v
    request_fits y old v turn e (n, asker, told, asks, is, ran) = fits_as p d limits image input y _ v _ is (told.is ∙ request_heard p d u x.number n) (requests asker n e asks (found_by n v told e))
