-- The phases of a round that speak of the worker's own request: its mail is read, another worker is asked, and the request is withdrawn.
use Rattle.std.proofs.Common.{◌≡◌, ◌≢◌, ⊎_elim, ℕ, suc, ◌+◌, ◌%◌, ◌≤◌, ◌<◌, Bool, true, false, ◌&&◌, ◌||◌, ◌==◌, List, [], Option, Some, None, is_some, refl, sym, ap, ◌∙◌, subst, arith, ne_eqb}
use Rattle.std.specs.Prelude.{if◌then◌else◌}
use Rattle.std.proofs.lemmas.Bool.{eqb-true, eqb-false, cases_lt}
use Rattle.std.proofs.Math.Nat.{mod-lt, mod_self, mod-eq_of_lt}
use Rattle.st_base.specs.declared.image.Image.{Image}
use Rattle.st_base.specs.declared.limits.Limits.{Limits}
use Rattle.st_words.specs.declared.view.View.{View}
use Rattle.st_words.specs.Encodings.{asking, waiting, given, refused, nothing}
use Rattle.st_words.specs.Safely.{Safe}
use Rattle.st_words.specs.Steps.{RequestChange, MailLoad, MailStore, Done, Number}
use Rattle.st_words.specs.Views.{view_after, request_by, other_request, requested, mail_when}
use Rattle.st_words.proofs.Asking.{set_safe, ask_safe, withdraw_safe}
use Rattle.st_model.specs.declared.program.Program.{Program}
use Rattle.st_model.specs.Memory.{Data}
use Rattle.st_chain.specs.Taking.{notes_of}
use Rattle.st_run.specs.Meanings.{meaning}
use Rattle.st_phases.specs.declared.automaton.Automaton.{Automaton}
use Rattle.st_phases.specs.declared.phase.Phase.{Phase}
use Rattle.st_phases.specs.declared.phase.Phase.TheVariants as phases
use Rattle.st_phases.specs.declared.phase.Behind.TheVariants as behinds
use Rattle.st_phases.specs.declared.turn.Turn.{Turn}
use Rattle.st_phases.specs.Automaton.{with_phase}
use Rattle.st_phases.specs.Idle.{no_request, seventh_or_round, MaySeventh, Sevenths, next_other}
use Rattle.st_fits.specs.Bags.{HasBag, units}
use Rattle.st_fits.specs.Fits.{Idle, ByPhase, FitsIn}
use Rattle.st_fits.specs.Laws.{Told, MayAsk, Does, IsReady}
use Rattle.st_rounds.proofs.Hearing.{hears, heard_of, change_heard, mail_heard, store_heard, ask_change, ask_store}
use Rattle.st_rounds.proofs.Idle.{Turns, turned, to_phase, IsCalm, IsLike, same_machine, Asks, round_fits, fits_as, none_same, bag_heard}
use Rattle.st_rounds.proofs.Round.{own_mail, idle_heard, by_in, calm_in, goes}

-- ---- views

mail_after : (u : View) (n : ℕ) → view_after u MailLoad (Number n) ≡ mail_when (is_some u.asked && ((n == given) || (n == refused))) n u
unfolding view_after
mail_after u n = refl

change_after : (u : View) (at old new n : ℕ) → view_after u (RequestChange at old new) (Number n) ≡ requested (n == old) at old new u
unfolding view_after
change_after u at old new n = refl

-- another worker's request word is changed
other_changed : (u : View) (at old new : ℕ) → at ≢ u.number → requested true at old new u ≡ other_request at new u
other_changed u at old new other = ap (λ b. request_by b at old new u) (ne_eqb at u.number other)

asked_now : (u : View) (at n : ℕ) → other_request at (n + 1) u ≡ record u { asked = Some at }
asked_now u at n = let e : n + 1 ≡ suc n = omega arith in ap (λ k. other_request at k u) e

-- ---- who is asked next

not_own_is : (v : ℕ) (x : Automaton) (b : Bool) → (v == x.number) ≡ b → 2 ≤ x.workers → v < x.workers → x.number < x.workers
    → ((if b then (v + 1) % x.workers else v) < x.workers) × ((if b then (v + 1) % x.workers else v) ≢ x.number)
not_own_is v x false e two few below = (few, eqb-false v x.number e)
not_own_is v x true e two few below =
    let same : v ≡ x.number = eqb-true v x.number e in (
      mod-lt (v + 1) (omega (arith, two)),
      ⊎_elim
          (λ (less : v + 1 < x.workers). λ is. let small : (v + 1) % x.workers ≡ v + 1 = mod-eq_of_lt less in omega (arith, small, is, same))
          (λ (most : x.workers ≤ v + 1). λ is.
          let all : v + 1 ≡ x.workers = omega (arith, most, few) in
          let none : (v + 1) % x.workers ≡ 0 = ap (λ k. k % x.workers) all ∙ mod_self x.workers in
          omega (arith, none, is, same, all, two)) (cases_lt (v + 1) x.workers),
    )

next_is : (x : Automaton) → 2 ≤ x.workers → x.number < x.workers → (next_other x < x.workers) × (next_other x ≢ x.number)
next_is x two below = not_own_is ((x.last + 1) % x.workers) x (((x.last + 1) % x.workers) == x.number) refl two (mod-lt (x.last + 1) (omega (arith, two))) below

-- ---- the phases

module _ (p : Program) (d : Data) (limits : Limits) (image : Image) (input : List ℕ) (x : Automaton) (u : View) (ready : IsReady p d limits image input x u) where
  own_below : x.number < x.workers
  own_below = let at = ready.fits.holds.number in let of = ready.fits.holds.workers in let below : u.number < u.workers = ready.fits.holds.below in omega (arith, at, of, below)

  -- there is another worker
  two_workers : u.workers ≢ 1 → 2 ≤ x.workers
  two_workers more = let of = ready.fits.holds.workers in let below : u.number < u.workers = ready.fits.holds.below in omega (arith, of, below, more)

  asked_more : (at : ℕ) → x.asked ≡ Some at → u.workers ≢ 1
  asked_more at e one = let other = ready.fits.holds.asked_other at e in let few = other.0 in let not_own = other.1 in let below : u.number < u.workers = ready.fits.holds.below in not_own (omega (arith, few, below, one))

  some_asked : (o : Option ℕ) → x.asked ≡ o → is_some o ≡ true → u.workers ≢ 1
  some_asked (Some at) e some = asked_more at e
  some_asked None e some = absurd (cc)

  -- ---- the mail is read

  turns_on : (φ : Phase) (u' : View) → IsCalm φ → x.phase ≡ phases.Mail → u'.asked ≡ None → u'.answering ≡ u.answering → u'.root ≡ u.root → (g : Bool) → u'.given ≡ g
      → ((none : Idle p d limits (no_request φ x) (hears (heard_of u') u) (record (units 0) { given = g })) → ByPhase p d limits φ (no_request φ x) (hears (heard_of u') u))
      → FitsIn p d limits image input (no_request φ x) (hears (heard_of u') u)
  turns_on φ u' calm e asked answering root g given by =
      let t : Turns = record (to_phase φ x) { asked = None; begun = false } in
      let idle = by_in p d limits image input x u ready phases.Mail e in
      round_fits p d limits image input x t u (heard_of u') φ refl (same_machine x.machine) (calm_in p d limits image input x u ready phases.Mail e (record { none = refl; most = λ n. refl; taking = refl })) calm
      (record { asked = asked; other = λ at some. absurd (cc); last = ready.fits.holds.last }) ready.fits
      (by (none_same x t u (heard_of u') [] refl idle.0, bag_heard (units 0) u (heard_of u') g false idle.1 (answering ∙ idle.1.answering) given (root ∙ idle.1.root)))

  seeks : (b : Bool) (n : ℕ) → x.phase ≡ phases.Mail → ((x.workers == 1) || x.begun) ≡ b → FitsIn p d limits image input (with_phase (if b then phases.Settled else phases.Seventh) x) (hears (heard_of (record u { mail = n })) u)
  seeks true n e is = goes p d limits image input x u ready phases.Mail phases.Settled x.since phases.Settled (record u { mail = n }) refl e (record { none = refl; most = λ n. refl; taking = refl }) (record { none = refl; most = λ n. refl; taking = refl }) (by_in p d limits image input x u ready phases.Mail e) (record { asked = refl; answering = refl; given = refl; root = refl }) (λ idle. idle)
  seeks false n e is = goes p d limits image input x u ready phases.Mail phases.Seventh x.since phases.Seventh (record u { mail = n }) refl e (record { none = refl; most = λ n. refl; taking = refl }) (record { none = refl; most = λ n. refl; taking = refl }) (by_in p d limits image input x u ready phases.Mail e) (record { asked = refl; answering = refl; given = refl; root = refl })
      (λ idle. (idle, λ one. eqb-false x.workers 1 (first (x.workers == 1) x.begun is) (ready.fits.holds.workers ∙ one)))
    where
      first : (a b : Bool) → (a || b) ≡ false → a ≡ false
      first true b e = e
      first false b e = refl

  mails : (s g r : Bool) (n : ℕ) → x.phase ≡ phases.Mail → is_some x.asked ≡ s → (n == given) ≡ g
      → FitsIn p d limits image input (if s && g then no_request phases.Opening x else (if s && r then no_request (phases.Emptying behinds.Seventh) x else with_phase (seventh_or_round x) x)) (hears (heard_of (mail_when (s && (g || r)) n u)) u)
  mails true true r n e some is = turns_on phases.Opening (mail_when true n u) (record { none = refl; most = λ n. refl; taking = refl }) e refl refl refl true is (λ idle. (idle, refl))
  mails true false true n e some is = turns_on (phases.Emptying behinds.Seventh) (mail_when true n u) (record { none = refl; most = λ n. refl; taking = refl }) e refl refl refl false is (λ idle. (refl, (idle, some_asked x.asked refl some)))
  mails true false false n e some is = seeks ((x.workers == 1) || x.begun) n e refl
  mails false g r n e some is = seeks ((x.workers == 1) || x.begun) n e refl

  pub mail_fits : (y : Automaton) (old v : View) (turn : Turn) → x.phase ≡ phases.Mail → Does p d limits image input u old x turn y v phases.Mail → FitsIn p d limits image input y v
  mail_fits y old v turn e (n, told, is, ran) =
      let view = mail_after u n ∙ ap (λ (o : Option ℕ). mail_when (is_some o && ((n == given) || (n == refused))) n u) ready.fits.holds.asked in
      fits_as p d limits image input y _ v _ is (told.is ∙ mail_heard p d u n ∙ ap (λ (w : View). hears (heard_of w) u) view) (mails (is_some x.asked) (n == given) (n == refused) n e refl refl)

  -- ---- a request is withdrawn, or the own mail word becomes waiting

  own_asked : u.asked ≡ x.asked
  own_asked = ready.fits.holds.asked

  may_by : (o : Option ℕ) → x.asked ≡ o → HasBag (units 0) u → MaySeventh (λ s. MayAsk p d limits u s) x o
  may_by (Some at) e bag = ask_change p d limits u at (asking x.number) 0 (subst (λ n. Safe (meaning p d limits) u (RequestChange at (n + 1) 0)) (sym ready.fits.holds.number) (withdraw_safe (meaning p d limits) u at ((ready.fits.holds.asked_other at e).0) (own_asked ∙ e)))
  may_by None e bag = ask_store p d limits u x.number waiting (subst (λ n. Safe (meaning p d limits) u (MailStore n waiting)) (sym ready.fits.holds.number) (set_safe (meaning p d limits) u waiting ready.fits.holds.below (own_asked ∙ e) bag.given (omega arith)))

  pub may_seventh : x.phase ≡ phases.Seventh → MaySeventh (λ s. MayAsk p d limits u s) x x.asked
  may_seventh e = may_by x.asked refl ((by_in p d limits image input x u ready phases.Seventh e).0.1)

  -- the worker goes on where its request stands no more, or has become another one
  asks_on : (t : Turns) (φ ψ : Phase) (u' : View) → t.phase ≡ ψ → t.machine ≡ x.machine → x.phase ≡ φ → IsCalm φ → IsCalm ψ → Asks t (heard_of u') u → Idle p d limits x u (units 0) → u'.answering ≡ u.answering → u'.given ≡ u.given → u'.root ≡ u.root
      → (Idle p d limits (turned t x) (hears (heard_of u') u) (units 0) → ByPhase p d limits ψ (turned t x) (hears (heard_of u') u)) → FitsIn p d limits image input (turned t x) (hears (heard_of u') u)
  asks_on t φ ψ u' is machine e one two asks idle answering given root by =
      round_fits p d limits image input x t u (heard_of u') ψ is (subst (λ m. IsLike x.machine m) (sym machine) (same_machine x.machine)) (calm_in p d limits image input x u ready φ e one) two asks ready.fits
      (by (idle_heard p d limits image input x t u (heard_of u') machine idle (answering ∙ idle.1.answering) (given ∙ idle.1.given) (root ∙ idle.1.root)))

  withdraws : (b : Bool) (at : ℕ) → x.phase ≡ phases.Seventh → x.asked ≡ Some at → FitsIn p d limits image input (if b then record x { asked = None; phase = phases.Emptying behinds.Round } else record x { begun = true; phase = phases.Settled }) (hears (heard_of (requested b at (asking x.number) 0 u)) u)
  withdraws true at e some =
      let idle = (by_in p d limits image input x u ready phases.Seventh e).0 in
      let view = other_changed u at (asking x.number) 0 ((ready.fits.holds.asked_other at some).1) in
      fits_as p d limits image input _ _ _ _ refl (ap (λ (w : View). hears (heard_of w) u) view)
      (asks_on (record (to_phase (phases.Emptying behinds.Round) x) { asked = None }) phases.Seventh (phases.Emptying behinds.Round) (record u { asked = None }) refl refl e (record { none = refl; most = λ n. refl; taking = refl }) (record { none = refl; most = λ n. refl; taking = refl })
      (record { asked = refl; other = λ at some. absurd (cc); last = ready.fits.holds.last }) idle refl refl refl (λ idle. (refl, idle)))
  withdraws false at e some =
      let idle = (by_in p d limits image input x u ready phases.Seventh e).0 in
      asks_on (record (to_phase phases.Settled x) { begun = true }) phases.Seventh phases.Settled u refl refl e (record { none = refl; most = λ n. refl; taking = refl }) (record { none = refl; most = λ n. refl; taking = refl })
      (record { asked = ready.fits.holds.asked; other = ready.fits.holds.asked_other; last = ready.fits.holds.last }) idle refl refl refl (λ idle. idle)

  waits_for_mail : x.phase ≡ phases.Seventh → x.asked ≡ None → FitsIn p d limits image input (with_phase phases.Placing x) (hears (heard_of (record u { mail = waiting })) u)
  waits_for_mail e none =
      let by = by_in p d limits image input x u ready phases.Seventh e in
      asks_on (to_phase phases.Placing x) phases.Seventh phases.Placing (record u { mail = waiting }) refl refl e (record { none = refl; most = λ n. refl; taking = refl }) (record { none = refl; most = λ n. refl; taking = refl })
      (record { asked = ready.fits.holds.asked; other = ready.fits.holds.asked_other; last = ready.fits.holds.last }) by.0 refl refl refl (λ idle. (idle, by.1, own_asked ∙ none, refl))

  store_own : (n : ℕ) → view_after u (MailStore x.number n) Done ≡ record u { mail = n }
  store_own n = ap (λ k. view_after u (MailStore k n) Done) ready.fits.holds.number ∙ own_mail u n

  sevenths : (o : Option ℕ) (y : Automaton) (v : View) (turn : Turn) → x.phase ≡ phases.Seventh → x.asked ≡ o → Sevenths (λ s a b. Told p d limits u s a b) x o turn y v → FitsIn p d limits image input y v
  sevenths (Some at) y v turn e some (n, told, is, ran) =
      fits_as p d limits image input y _ v _ is (told.is ∙ change_heard p d u at (asking x.number) 0 n ∙ ap (λ (w : View). hears (heard_of w) u) (change_after u at (asking x.number) 0 n)) (withdraws (n == asking x.number) at e some)
  sevenths None y v turn e none (told, is, ran) =
      fits_as p d limits image input y _ v _ is (told.is ∙ store_heard p d u x.number waiting ∙ ap (λ (w : View). hears (heard_of w) u) (store_own waiting)) (waits_for_mail e none)

  pub seventh_fits : (y : Automaton) (old v : View) (turn : Turn) → x.phase ≡ phases.Seventh → Does p d limits image input u old x turn y v phases.Seventh → FitsIn p d limits image input y v
  seventh_fits y old v turn e does = sevenths x.asked y v turn e refl does

  -- ---- another worker is asked

  next_other_is : x.phase ≡ phases.Placing → (next_other x < u.workers) × (next_other x ≢ u.number)
  next_other_is e =
      let by = by_in p d limits image input x u ready phases.Placing e in
      let is = next_is x (two_workers by.1) own_below in
      (subst (λ n. next_other x < n) ready.fits.holds.workers is.0, subst (λ n. next_other x ≢ n) ready.fits.holds.number is.1)

  pub may_place : x.phase ≡ phases.Placing → (x.last < x.workers) × (x.workers ≤ 16) × MayAsk p d limits u (RequestChange (next_other x) 0 (asking x.number))
  may_place e =
      let by = by_in p d limits image input x u ready phases.Placing e in
      let next = next_other_is e in
      let holds = ready.fits.holds in (
        subst (λ n. x.last < n) (sym holds.workers) holds.last,
        subst (λ n. n ≤ 16) (sym holds.workers) holds.few_workers,
        ask_change p d limits u (next_other x) 0 (asking x.number)
            (subst (λ n. Safe (meaning p d limits) u (RequestChange (next_other x) 0 (n + 1))) (sym holds.number) (ask_safe (meaning p d limits) u (next_other x) next.0 next.1 by.2 (let mail = by.3 in omega (arith, mail)) (by.0.1.given))),
      )

  places : (b : Bool) → x.phase ≡ phases.Placing → FitsIn p d limits image input (record x { last = next_other x; asked = if b then Some (next_other x) else x.asked; phase = phases.Settled }) (hears (heard_of (requested b (next_other x) 0 (asking x.number) u)) u)
  places true e =
      let by = by_in p d limits image input x u ready phases.Placing e in
      let next = next_other_is e in
      let view = other_changed u (next_other x) 0 (asking x.number) next.1 ∙ asked_now u (next_other x) x.number in
      fits_as p d limits image input _ _ _ _ refl (ap (λ (w : View). hears (heard_of w) u) view)
      (asks_on (record (to_phase phases.Settled x) { last = next_other x; asked = Some (next_other x) }) phases.Placing phases.Settled (record u { asked = Some (next_other x) }) refl refl e (record { none = refl; most = λ n. refl; taking = refl }) (record { none = refl; most = λ n. refl; taking = refl })
      (record { asked = refl; other = λ at some. let one : next_other x ≡ at = (let it = some in cc) in (subst (λ n. n < u.workers) one next.0, subst (λ n. n ≢ u.number) one next.1); last = next.0 }) by.0 refl refl refl (λ idle. idle))
  places false e =
      let by = by_in p d limits image input x u ready phases.Placing e in
      let next = next_other_is e in
      asks_on (record (to_phase phases.Settled x) { last = next_other x }) phases.Placing phases.Settled u refl refl e (record { none = refl; most = λ n. refl; taking = refl }) (record { none = refl; most = λ n. refl; taking = refl })
      (record { asked = ready.fits.holds.asked; other = ready.fits.holds.asked_other; last = next.0 }) by.0 refl refl refl (λ idle. idle)

  pub placing_fits : (y : Automaton) (old v : View) (turn : Turn) → x.phase ≡ phases.Placing → Does p d limits image input u old x turn y v phases.Placing → FitsIn p d limits image input y v
  placing_fits y old v turn e (n, told, is, ran) =
      fits_as p d limits image input y _ v _ is (told.is ∙ change_heard p d u (next_other x) 0 (asking x.number) n ∙ ap (λ (w : View). hears (heard_of w) u) (change_after u (next_other x) 0 (asking x.number) n)) (places (n == 0) e)

  -- ---- the own mail word becomes nothing

  pub no_notes : u.threads ≡ [] → x.threads.notes ≡ []
  no_notes none = ready.fits.holds.notes ∙ ap notes_of none

  pub may_empty : u.asked ≡ None → u.given ≡ false → MayAsk p d limits u (MailStore x.number nothing)
  may_empty none given = ask_store p d limits u x.number nothing (subst (λ n. Safe (meaning p d limits) u (MailStore n nothing)) (sym ready.fits.holds.number) (set_safe (meaning p d limits) u nothing ready.fits.holds.below none given (omega arith)))

  pub emptied : (v : View) → Told p d limits u (MailStore x.number nothing) Done v → v ≡ hears (heard_of (record u { mail = nothing })) u
  emptied v told = told.is ∙ store_heard p d u x.number nothing ∙ ap (λ (w : View). hears (heard_of w) u) (store_own nothing)

  emptying_asks : (φ : Phase) → Asks (to_phase φ x) (heard_of (record u { mail = nothing })) u
  emptying_asks φ = record { asked = ready.fits.holds.asked; other = ready.fits.holds.asked_other; last = ready.fits.holds.last }

  pub seventh_emptied : (y : Automaton) (old v : View) (turn : Turn) → x.phase ≡ phases.Emptying behinds.Seventh → Does p d limits image input u old x turn y v (phases.Emptying behinds.Seventh) → FitsIn p d limits image input y v
  seventh_emptied y old v turn e (told, (ran, is)) =
      let by = by_in p d limits image input x u ready (phases.Emptying behinds.Seventh) e in
      fits_as p d limits image input y _ v _ is (emptied v told)
      (asks_on (to_phase phases.Seventh x) (phases.Emptying behinds.Seventh) phases.Seventh (record u { mail = nothing }) refl refl e (record { none = refl; most = λ n. refl; taking = refl }) (record { none = refl; most = λ n. refl; taking = refl }) (emptying_asks phases.Seventh) by.1.0 refl refl refl (λ idle. (idle, by.1.1)))

  pub round_emptied : (y : Automaton) (old v : View) (turn : Turn) → x.phase ≡ phases.Emptying behinds.Round → Does p d limits image input u old x turn y v (phases.Emptying behinds.Round) → FitsIn p d limits image input y v
  round_emptied y old v turn e (told, (ran, is)) =
      let by = by_in p d limits image input x u ready (phases.Emptying behinds.Round) e in
      fits_as p d limits image input y _ v _ is (emptied v told)
      (asks_on (to_phase phases.Settled x) (phases.Emptying behinds.Round) phases.Settled (record u { mail = nothing }) refl refl e (record { none = refl; most = λ n. refl; taking = refl }) (record { none = refl; most = λ n. refl; taking = refl }) (emptying_asks phases.Settled) by.1 refl refl refl (λ idle. idle))
