-- The phases of a chain that comes to run: its Standing word becomes 1, what it waits for is seen, and its thread runs. Read chains_come.
use Rattle.std.proofs.Common.{◌≡◌, inl, inr, ⊎_elim, ℕ, List, [], ◌∷◌, Option, Some, None, refl, sym, ap, ◌∙◌, subst}
use Rattle.std.specs.List.{Contains}
use Rattle.st_base.specs.declared.chain.Chain.{Chain}
use Rattle.st_base.specs.declared.chain.Frame.{Frame}
use Rattle.st_base.specs.declared.chain.Note.{Note}
use Rattle.st_base.specs.declared.chain.Waiting.{Waiting}
use Rattle.st_base.specs.declared.chain.Waiting.TheVariants as waits
use Rattle.st_base.specs.declared.image.Image.{Image}
use Rattle.st_base.specs.declared.limits.Limits.{Limits}
use Rattle.st_base.specs.declared.thread.Held.TheVariants.{Future, Counter}
use Rattle.st_words.specs.declared.view.Carried.{Carried}
use Rattle.st_words.specs.declared.view.CellWord.TheVariants as words
use Rattle.st_words.specs.declared.view.View.{View}
use Rattle.st_words.specs.Careful.{IsOver}
use Rattle.st_words.specs.Encodings.{running, ready, nothing}
use Rattle.st_words.specs.Steps.{IsWaiting, CellLoad, CellStore, MailStore, Answer, Step, Done, Number}
use Rattle.st_words.specs.Tidy.{Tidy}
use Rattle.st_words.proofs.Lists.{contains_none}
use Rattle.st_words.proofs.Starting.{touched_full, joined_enough, named_kind}
use Rattle.st_words.proofs.Waiting.{seen_full, seen_count}
use Rattle.st_model.specs.declared.program.Program.{Program}
use Rattle.st_model.specs.Accepted.{IsAccepted}
use Rattle.st_model.specs.Memory.{Data}
use Rattle.st_step.specs.Runs.{AreValues, AreWords}
use Rattle.st_chain.specs.Chains.{WaitsFor}
use Rattle.st_chain.specs.Seen.{IsWhole}
use Rattle.st_chain.specs.Taking.{notes_of}
use Rattle.st_chain.specs.Threads.{AtEnd}
use Rattle.st_chain.specs.Walk.{word_in, is_held, named_by}
use Rattle.st_cargo.specs.Cargo.{HasFrames}
use Rattle.st_run.specs.Behind.{IsBehind}
use Rattle.st_phases.specs.declared.automaton.Automaton.{Automaton}
use Rattle.st_phases.specs.declared.phase.Behind.TheVariants as behinds
use Rattle.st_phases.specs.declared.phase.Phase.{Phase}
use Rattle.st_phases.specs.declared.phase.Phase.TheVariants as phases
use Rattle.st_phases.specs.declared.turn.Turn.{Turn}
use Rattle.st_phases.specs.Automaton.{with_phase}
use Rattle.st_phases.specs.Coming.{with_value, started, resumed, TakesOn, Sees}
use Rattle.st_phases.specs.Polling.{RunsOn}
use Rattle.st_phases.specs.Waking.{cell_of}
use Rattle.st_settled.proofs.Late.{fits_here}
use Rattle.st_fits.specs.Bags.{with_chain, units}
use Rattle.st_fits.specs.Before.{after, before}
use Rattle.st_fits.specs.Fits.{Holds, HasCome, IsToWait, IsSeen, ByPhase, Fits}
use Rattle.st_fits.specs.Laws.{Told, Does, IsReady}
use Rattle.st_kept.specs.Keeping.{Untouched, SameNumbers, IsOffStack}
use Rattle.st_kept.proofs.Keeping.{for_with_phase, same_holds, holds_with_phase}
use Rattle.st_kept.proofs.Laid.{newest_laid}
use Rattle.st_kept.proofs.Stepping.{numbers, untouched}
use Rattle.st_rounds.specs.Rounds.{ComingLaws, ChainsCome}
use Rattle.st_rounds.proofs.Arriving.{Arriving}
use Rattle.st_rounds.proofs.Carrying.{standing_at, come_over, may_run, may_see, may_get}
use Rattle.st_rounds.proofs.Idle.{IsCalm, fits_as}
use Rattle.st_rounds.proofs.Mailing.{may_empty, no_notes}
use Rattle.st_rounds.proofs.Round.{by_in}
use Rattle.st_rounds.proofs.Starting.{ready_runs, root_runs, join_runs, touch_runs}
use Rattle.st_rounds.proofs.Taking.{are_words}
use Rattle.st_rounds.proofs.Turns.{SameTurn, turn_bag, state_turn, value_turn, mail_turn, stood_turn, value_first, full_now, counts_now}

-- the frames of a chain of the turn are whole
whole_of : (p : Program) (d : Data) (v : View) (chain : Chain) (k : Carried) (frames : List Frame) → IsAccepted p → HasFrames p d v chain k frames → (f : Frame) → Contains frames f → IsWhole f
whole_of p d v chain k frames accepted has f at = ⊎_elim
    (λ unbegun. absurd (contains_none f (subst (λ (fs : List Frame). Contains fs f) unbegun.none at)))
    (λ begun. let (ahead, far, waiting, keeps, newest) = begun.0 in (newest_laid p (named_by v.names) (is_held v.held) (word_in v.held) accepted AtEnd k.known.thread.activations frames ahead chain.pc chain.fp _ f newest at).whole) has.stands

-- ---- behind a step that leaves all but a word

module _ (p : Program) (d : Data) (limits : Limits) (image : Image) (input : List ℕ) (x : Automaton) (u : View) (ready_is : IsReady p d limits image input x u) (calm : IsCalm x.phase) (chain : Chain) (first : ℕ) (come : HasCome p d limits chain first x u) (v : View) (tidy : Tidy v) (behind : IsBehind p d v) (left : Untouched u v) (same : SameNumbers u v) (turn_is : SameTurn u v) (chains : v.chains ≡ standing_at running come.carried ∷ []) where
  accepted : IsAccepted p
  accepted = ready_is.fits.is_for.code.accepted

  are : AreWords (word_in v.held)
  are = are_words v.held behind.words

  come_at : (y : Automaton) → y.machine ≡ x.machine → y.stack ≡ x.stack → HasCome p d limits chain running y v
  come_at y machine stack = come_over p d limits chain x y u v accepted are machine stack left turn_is.threads first running come chains (turn_bag (with_chain come.carried (units 1)) u v (standing_at running come.carried ∷ []) turn_is chains come.bag)

  holds_at : Holds limits x v
  holds_at =
      let holds = ready_is.fits.holds in
      same_holds limits x x u v holds same left.exported (record { number = refl; workers = refl; cells = refl; items = refl; frame_bytes = refl; exported = refl; last = refl; machine = refl; opened = refl; most = λ n. refl; taking = λ none. none })
      (record {
        notes = holds.notes ∙ ap notes_of (sym turn_is.threads);
        ready_once = holds.ready_once;
        ready = λ c at. subst (λ (ms : List ℕ). Contains ms c) (sym turn_is.ready) (holds.ready c at);
        all_ready = λ c at. holds.all_ready c (subst (λ (ms : List ℕ). Contains ms c) turn_is.ready at);
        asked = turn_is.asked ∙ holds.asked;
      }) refl

  arriving : Arriving p d limits image input chain x v
  arriving = record {
    is_for = ready_is.fits.is_for;
    holds = holds_at;
    come = come_at x refl refl;
    tidy = tidy;
    behind = behind;
    calm = calm;
    words = are;
    whole = λ f at. whole_of p d v chain (come_at x refl refl).carried (come_at x refl refl).frames accepted (come_at x refl refl).carries.has f at;
  }

  fits_at : (φ : Phase) → IsCalm φ → ByPhase p d limits φ (with_phase φ x) v → (y : Automaton) → y ≡ with_phase φ x → Fits p d limits image input y v
  fits_at φ two by y is = fits_here p d limits image input y v (fits_as p d limits image input y (with_phase φ x) v v is refl (record {
    is_for = for_with_phase p d limits image input x φ ready_is.fits.is_for;
    holds = holds_with_phase limits x u v φ ready_is.fits.holds same left.exported turn_is.threads turn_is.ready turn_is.asked (two.none ∙ sym calm.none) (λ n. two.most n ∙ sym (calm.most n)) (λ none. calm.taking);
    by = by;
  }))

  -- the thread runs, with that in a0
  abbrev RunsBy : Option ℕ → Automaton → Waiting → Type 0
  RunsBy value y w = RunsOn (with_value value (started w image.main_at (resumed chain x))) y

  ready_fits : (y : Automaton) → chain.wait ≡ waits.Ready → RunsBy None y chain.wait → (AreValues x.machine → AreValues y.machine) → Fits p d limits image input y v
  ready_fits y wait runs values =
      let on = subst (RunsBy None y) wait runs in
      subst (λ z. Fits p d limits image input z v) (sym on.same)
      (ready_runs p d limits image input chain x v arriving on.limit on.is_limit (subst (λ (z : Automaton). AreValues z.machine) on.same (values ready_is.fits.holds.values)) wait)

  root_fits : (y : Automaton) → chain.wait ≡ waits.Start → RunsBy None y chain.wait → (AreValues x.machine → AreValues y.machine) → Fits p d limits image input y v
  root_fits y wait runs values =
      let on = subst (RunsBy None y) wait runs in
      subst (λ z. Fits p d limits image input z v) (sym on.same)
      (root_runs p d limits image input chain x v arriving on.limit on.is_limit (subst (λ (z : Automaton). AreValues z.machine) on.same (values ready_is.fits.holds.values)) wait)

  join_fits : (y : Automaton) (cell least : ℕ) → chain.wait ≡ waits.Join cell least → IsOver v (waits.Join cell least) → RunsBy None y chain.wait → (AreValues x.machine → AreValues y.machine) → Fits p d limits image input y v
  join_fits y cell least wait over runs values =
      let on = subst (RunsBy None y) wait runs in
      subst (λ z. Fits p d limits image input z v) (sym on.same)
      (join_runs p d limits image input chain x v arriving on.limit on.is_limit (subst (λ (z : Automaton). AreValues z.machine) on.same (values ready_is.fits.holds.values)) cell least wait over)

  touch_fits : (y : Automaton) (cell k : ℕ) (rest : List (ℕ × ℕ)) → chain.wait ≡ waits.Touch cell → v.values ≡ (cell, k) ∷ rest → RunsBy (Some k) y chain.wait → (AreValues x.machine → AreValues y.machine) → Fits p d limits image input y v
  touch_fits y cell k rest wait loaded runs values =
      let on = subst (RunsBy (Some k) y) wait runs in
      subst (λ z. Fits p d limits image input z v) (sym on.same)
      (touch_runs p d limits image input chain x v arriving on.limit on.is_limit k (subst (λ (z : Automaton). AreValues z.machine) on.same (values ready_is.fits.holds.values)) cell rest wait loaded)

  -- what it waits for is looked at first, or it runs
  takes_on : (w : Waiting) (turn : Turn) (y : Automaton) → chain.wait ≡ w → TakesOn w chain image.main_at x turn y → Fits p d limits image input y v
  takes_on (waits.Touch cell) turn y wait (ran, is) = fits_at (phases.Seeing chain) (record { none = refl; most = λ n. refl; taking = refl }) (come_at (with_phase (phases.Seeing chain) x) refl refl, subst (IsToWait p d limits) (sym wait) tt) y is
  takes_on (waits.Join cell least) turn y wait (ran, is) = fits_at (phases.Seeing chain) (record { none = refl; most = λ n. refl; taking = refl }) (come_at (with_phase (phases.Seeing chain) x) refl refl, subst (IsToWait p d limits) (sym wait) tt) y is
  takes_on waits.Ready turn y wait (ran, runs, values) = ready_fits y wait runs values
  takes_on waits.Start turn y wait (ran, runs, values) = root_fits y wait runs values
  takes_on waits.Trapped turn y wait does = absurd (come.goes wait)

-- ---- the phases

running_still : (k : Carried) → k.standing ≡ Some running → k ≡ standing_at running k
running_still k is = λ i. record k { standing = is i }

-- what is named where it waits
named_at : (p : Program) (d : Data) (u : View) (chain : Chain) (k : Carried) (frames : List Frame) → HasFrames p d u chain k frames → IsWaiting chain.wait → WaitsFor (named_by u.names) k.known.thread chain.wait
named_at p d u chain k frames has to = ⊎_elim (λ unbegun. absurd (subst IsWaiting unbegun.wait to)) (λ begun. begun.0.2) has.stands

touch_name : (p : Program) (d : Data) (u : View) (chain : Chain) (k : Carried) (frames : List Frame) (cell : ℕ) → HasFrames p d u chain k frames → chain.wait ≡ waits.Touch cell → (q : List ℕ) × Contains u.names (Future q, cell)
touch_name p d u chain k frames cell has wait =
    let named = subst (λ w. WaitsFor (named_by u.names) k.known.thread w) wait (named_at p d u chain k frames has (subst IsWaiting (sym wait) tt)) in
    (named.0, named.2)

join_name : (p : Program) (d : Data) (u : View) (chain : Chain) (k : Carried) (frames : List Frame) (cell least : ℕ) → HasFrames p d u chain k frames → chain.wait ≡ waits.Join cell least → (q : List ℕ) × (i : ℕ) × Contains u.names (Counter q i, cell)
join_name p d u chain k frames cell least has wait =
    let named = subst (λ w. WaitsFor (named_by u.names) k.known.thread w) wait (named_at p d u chain k frames has (subst IsWaiting (sym wait) tt)) in
    (named.0, named.1, named.3)

module _ (p : Program) (d : Data) (limits : Limits) (image : Image) (input : List ℕ) (x : Automaton) (u : View) (ready_is : IsReady p d limits image input x u) (chain : Chain) where
  left_by : (s : Step) (a : Answer) (v : View) → IsOffStack s → v ≡ after p d u s a → Untouched u v
  left_by s a v off is = subst (λ w. Untouched u w) (sym is) (untouched p d u s a off)

  same_by : (s : Step) (a : Answer) (v : View) → v ≡ after p d u s a → SameNumbers u v
  same_by s a v is = subst (λ w. SameNumbers u w) (sym is) (numbers p d u s a)

  -- ---- its Standing word becomes 1

  pub coming_keeps : (y : Automaton) (old v : View) (turn : Turn) → x.phase ≡ phases.Coming chain → Does p d limits image input u old x turn y v (phases.Coming chain) → Fits p d limits image input y v
  coming_keeps y old v turn e (told, does) =
      let come = by_in p d limits image input x u ready_is (phases.Coming chain) e in
      let k = come.carried in
      let cell : k.known.note.cell ≡ chain.cell = ap (λ (n : Note). n.cell) come.carries.has.note ∙ come.carries.has.cell in
      let is : v ≡ after p d u (CellStore k.known.note.cell words.Standing running) Done = told.is ∙ ap (λ c. after p d u (CellStore c words.Standing running) Done) (sym cell) in
      let turned = subst (λ (w : View). SameTurn u w × (w.chains ≡ standing_at running k ∷ [])) (sym is) (stood_turn p d u k come.carries.only come.bag.child) in
      takes_on p d limits image input x u ready_is (subst IsCalm (sym e) (record { none = refl; most = λ n. refl; taking = refl })) chain ready come v told.tidy told.behind (left_by (CellStore chain.cell words.Standing running) Done v tt told.is) (same_by (CellStore chain.cell words.Standing running) Done v told.is) turned.0 turned.1
      chain.wait turn y refl does

  -- ---- one that was given: the own mail word becomes nothing

  pub given_keeps : (y : Automaton) (old v : View) (turn : Turn) → x.phase ≡ phases.Emptying (behinds.Chain chain) → Does p d limits image input u old x turn y v (phases.Emptying (behinds.Chain chain)) → Fits p d limits image input y v
  given_keeps y old v turn e (told, does) =
      let come = (by_in p d limits image input x u ready_is (phases.Emptying (behinds.Chain chain)) e).1 in
      let k = come.carried in
      let still = come.carries.only ∙ ap (λ (c : Carried). c ∷ []) (running_still k come.carries.stands) in
      let turned = subst (λ (w : View). SameTurn u w × (w.chains ≡ u.chains)) (sym told.is) (mail_turn p d u x.number nothing come.bag.answering) in
      takes_on p d limits image input x u ready_is (subst IsCalm (sym e) (record { none = refl; most = λ n. refl; taking = refl })) chain running come v told.tidy told.behind (left_by (MailStore x.number nothing) Done v tt told.is) (same_by (MailStore x.number nothing) Done v told.is) turned.0 (turned.1 ∙ still)
      chain.wait turn y refl does

  -- ---- what it waits for is seen

  module _ (come : HasCome p d limits chain running x u) (calm : IsCalm x.phase) (n : ℕ) (v : View) where
    still : u.chains ≡ standing_at running come.carried ∷ []
    still = come.carries.only ∙ ap (λ (c : Carried). c ∷ []) (running_still come.carried come.carries.stands)

    sees : (w : Waiting) (y : Automaton) (turn : Turn) → chain.wait ≡ w → IsToWait p d limits w → Told p d limits u (CellLoad (cell_of w) words.State) (Number n) v → Sees w chain image.main_at x turn y → Fits p d limits image input y v
    sees (waits.Touch cell) y turn wait to told (ran, is) =
        let has = come.carries.has in
        let turned = subst (λ (w : View). SameTurn u w × (w.chains ≡ u.chains)) (sym told.is) (state_turn p d u cell n) in
        let name = touch_name p d u chain come.carried come.frames cell has wait in
        let full = touched_full u come.carried cell n told.promised has.there (inl come.carries.stands) (has.wait ∙ wait) in
        let over = full_now p d u cell n (seen_full u cell n (named_kind u (Future name.0) cell ready_is.tidy.names name.1) full) in
        let full_there : Contains v.full cell = subst (λ (w : View). Contains w.full cell) (sym told.is) over in
        let left = left_by (CellLoad cell words.State) (Number n) v tt told.is in
        let same = same_by (CellLoad cell words.State) (Number n) v told.is in
        fits_at p d limits image input x u ready_is calm chain running come v told.tidy told.behind left same turned.0 (turned.1 ∙ still) (phases.Getting chain) (record { none = refl; most = λ n. refl; taking = refl })
        (come_at p d limits image input x u ready_is calm chain running come v told.tidy told.behind left same turned.0 (turned.1 ∙ still) (with_phase (phases.Getting chain) x) refl refl, subst (λ w. IsSeen p d limits v w) (sym wait) full_there) y is
    sees (waits.Join cell least) y turn wait to told (ran, runs, values) =
        let has = come.carries.has in
        let turned = subst (λ (w : View). SameTurn u w × (w.chains ≡ u.chains)) (sym told.is) (state_turn p d u cell n) in
        let name = join_name p d u chain come.carried come.frames cell least has wait in
        let enough = joined_enough u come.carried cell least n told.promised has.there (inl come.carries.stands) (has.wait ∙ wait) in
        let over = seen_count u cell n least (named_kind u (Counter name.0 name.1) cell ready_is.tidy.names name.2) enough in
        let counts = ap (λ (w : View). w.counts) told.is ∙ counts_now p d u cell n in
        let over_there : IsOver v (waits.Join cell least) = (over.0, subst (λ (xs : List (ℕ × ℕ)). Contains xs (cell, over.0)) (sym counts) over.1, over.2) in
        join_fits p d limits image input x u ready_is calm chain running come v told.tidy told.behind (left_by (CellLoad cell words.State) (Number n) v tt told.is) (same_by (CellLoad cell words.State) (Number n) v told.is) turned.0 (turned.1 ∙ still) y cell least wait over_there runs values
    sees waits.Ready y turn wait to told does = absurd to
    sees waits.Start y turn wait to told does = absurd to
    sees waits.Trapped y turn wait to told does = absurd to

    -- and a future's value is loaded
    gets : (w : Waiting) (y : Automaton) → chain.wait ≡ w → IsSeen p d limits u w → Told p d limits u (CellLoad (cell_of w) words.Value) (Number n) v → RunsOn (with_value (Some n) (started chain.wait image.main_at (resumed chain x))) y → (AreValues x.machine → AreValues y.machine) → Fits p d limits image input y v
    gets (waits.Touch cell) y wait full told runs values =
        let turned = subst (λ (w : View). SameTurn u w × (w.chains ≡ u.chains)) (sym told.is) (value_turn p d u cell n) in
        let loaded = ap (λ (w : View). w.values) told.is ∙ value_first p d u cell n full in
        touch_fits p d limits image input x u ready_is calm chain running come v told.tidy told.behind (left_by (CellLoad cell words.Value) (Number n) v tt told.is) (same_by (CellLoad cell words.Value) (Number n) v told.is) turned.0 (turned.1 ∙ still) y cell n u.values wait loaded runs values
    gets (waits.Join cell least) y wait full told runs values = absurd full
    gets waits.Ready y wait full told runs values = absurd full
    gets waits.Start y wait full told runs values = absurd full
    gets waits.Trapped y wait full told runs values = absurd full

  pub seeing_keeps : (y : Automaton) (old v : View) (turn : Turn) → x.phase ≡ phases.Seeing chain → Does p d limits image input u old x turn y v (phases.Seeing chain) → Fits p d limits image input y v
  seeing_keeps y old v turn e (n, told, does) =
      let by = by_in p d limits image input x u ready_is (phases.Seeing chain) e in
      sees by.0 (subst IsCalm (sym e) (record { none = refl; most = λ n. refl; taking = refl })) n v chain.wait y turn refl by.1 told does

  pub getting_keeps : (y : Automaton) (old v : View) (turn : Turn) → x.phase ≡ phases.Getting chain → Does p d limits image input u old x turn y v (phases.Getting chain) → Fits p d limits image input y v
  getting_keeps y old v turn e (n, told, runs, values, ran) =
      let by = by_in p d limits image input x u ready_is (phases.Getting chain) e in
      gets by.0 (subst IsCalm (sym e) (record { none = refl; most = λ n. refl; taking = refl })) n v chain.wait y refl by.1 told runs values

  seen_waits : (w : Waiting) → IsSeen p d limits u w → IsToWait p d limits w
  seen_waits (waits.Touch cell) full = tt
  seen_waits (waits.Join cell least) full = tt
  seen_waits waits.Ready full = absurd full
  seen_waits waits.Start full = absurd full
  seen_waits waits.Trapped full = absurd full

-- ---- their laws

coming_laws : (p : Program) (d : Data) (limits : Limits) (image : Image) (input : List ℕ) → ComingLaws p d limits image input
coming_laws p d limits image input = record {
  coming = λ chain. record {
    may = λ x u e ready_is. let come = by_in p d limits image input x u ready_is (phases.Coming chain) e in (no_notes p d limits image input x u ready_is come.none.is, may_run p d limits image input x u ready_is chain ready (inr refl) come);
    keeps = λ x y old v turn e ready_is made does. coming_keeps p d limits image input x (before p d x old) ready_is chain y old v turn e does;
  };
  seeing = λ chain. record {
    may = λ x u e ready_is. let by = by_in p d limits image input x u ready_is (phases.Seeing chain) e in (no_notes p d limits image input x u ready_is by.0.none.is, may_see p d limits image input x u ready_is chain running by.0 by.1);
    keeps = λ x y old v turn e ready_is made does. seeing_keeps p d limits image input x (before p d x old) ready_is chain y old v turn e does;
  };
  getting = λ chain. record {
    may = λ x u e ready_is.
        let by = by_in p d limits image input x u ready_is (phases.Getting chain) e in
        (no_notes p d limits image input x u ready_is by.0.none.is, may_get p d limits image input x u ready_is chain running by.0 (seen_waits p d limits image input x u ready_is chain chain.wait by.1));
    keeps = λ x y old v turn e ready_is made does. getting_keeps p d limits image input x (before p d x old) ready_is chain y old v turn e does;
  };
  given = λ chain. record {
    may = λ x u e ready_is.
        let by = by_in p d limits image input x u ready_is (phases.Emptying (behinds.Chain chain)) e in
        (no_notes p d limits image input x u ready_is by.1.none.is, may_empty p d limits image input x u ready_is by.0 by.1.bag.given);
    keeps = λ x y old v turn e ready_is made does. given_keeps p d limits image input x (before p d x old) ready_is chain y old v turn e does;
  };
}

pub chains_come : ChainsCome
chains_come p d limits image input = coming_laws p d limits image input
