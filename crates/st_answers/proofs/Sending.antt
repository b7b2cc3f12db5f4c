-- A chain is sent to the worker that asks: a ready one is taken, runs, and is put into its mail, and the answer is told. Read may_pick, picking_fits, may_wave, waving_fits, may_mail, mailing_fits, may_tell and
-- telling_fits.
use Rattle.std.proofs.Common.{◌≡◌, ◌≢◌, inl, inr, ⊎_elim, ℕ, ◌+◌, ◌-◌, ◌<◌, Bool, true, false, ◌==◌, ◌&&◌, List, [], ◌∷◌, ◌++◌, Option, Some, refl, sym, ap, ◌∙◌, subst, arith, eq-eqb, cond}
use Rattle.std.specs.Prelude.{if◌then◌else◌, not}
use Rattle.std.specs.List.{Contains}
use Rattle.st_base.specs.declared.chain.Chain.{Chain}
use Rattle.st_base.specs.declared.chain.Frame.{Frame}
use Rattle.st_base.specs.declared.chain.Waiting.{Waiting}
use Rattle.st_base.specs.declared.chain.Waiting.TheVariants as waits
use Rattle.st_base.specs.declared.image.Image.{Image}
use Rattle.st_base.specs.declared.limits.Limits.{Limits}
use Rattle.st_words.specs.declared.view.Cargo.{Cargo}
use Rattle.st_words.specs.declared.view.Carried.{Carried}
use Rattle.st_words.specs.declared.view.CellWord.TheVariants as words
use Rattle.st_words.specs.declared.view.Known.{Known}
use Rattle.st_words.specs.declared.view.Slot.{Slot}
use Rattle.st_words.specs.declared.view.Slot.TheVariants as slots
use Rattle.st_words.specs.declared.view.View.{View}
use Rattle.st_words.specs.Careful.{Shows}
use Rattle.st_words.specs.Encodings.{running}
use Rattle.st_words.specs.Promises.{Promises}
use Rattle.st_words.specs.Safely.{Safe}
use Rattle.st_words.specs.Steps.{Step, CellStore, MailStore, SlotTake, SlotPut, Answer, Done, Took, some_thread}
use Rattle.st_words.specs.Tidy.{Tidy}
use Rattle.st_words.specs.Views.{view_after, without_number, without_chain, seen_waiting, child_stands, with_standing, put_into_mail}
use Rattle.st_words.proofs.Asking.{tell_given_safe, tell_refused_safe}
use Rattle.st_words.proofs.Lists.{contains_here, contains_later, contains_none, contains_case, filter_in, filter_out, other_true}
use Rattle.st_words.proofs.Safe.{put, stood_plainly}
use Rattle.st_words.proofs.Starting.{ready_safe}
use Rattle.st_words.proofs.Waiting.{run_safe}
use Rattle.st_model.specs.declared.program.Program.{Program}
use Rattle.st_model.specs.Memory.{Data}
use Rattle.st_seats.specs.Placing.{AreOnce}
use Rattle.st_cargo.specs.Cargo.{HasFrames, goes_with}
use Rattle.st_cargo.proofs.Carrying.{chains_carried}
use Rattle.st_run.specs.Behind.{IsBehind}
use Rattle.st_run.specs.Meanings.{meaning}
use Rattle.st_steal.specs.Words.{told_word}
use Rattle.st_phases.specs.declared.automaton.Automaton.{Automaton}
use Rattle.st_phases.specs.declared.phase.Phase.{Phase}
use Rattle.st_phases.specs.declared.phase.Phase.TheVariants as phases
use Rattle.st_phases.specs.declared.turn.Turn.{Turn}
use Rattle.st_phases.specs.Waking.{NeverEmpty}
use Rattle.st_fits.specs.Bags.{Bag, HasBag, units, own_and, with_chain, answers as answering_bag}
use Rattle.st_fits.specs.Before.{after}
use Rattle.st_fits.specs.Fits.{FitsIn, IsAsking, InHand, HasToGo, taken_of}
use Rattle.st_fits.specs.Laws.{Does, IsReady, MayAsk}
use Rattle.st_fits.specs.Threads.{Carries, Rests}
use Rattle.st_kept.proofs.Chains.{taken_rests, taken_carries, put_rests}
use Rattle.st_kept.proofs.Standing.{rests_kept}
use Rattle.st_kept.proofs.Stepping.{no_item_asks, no_item_threads, numbers, untouched}
use Rattle.st_answers.proofs.Hearing.{told, bag_answers}
use Rattle.st_answers.proofs.Polling.{by_in, calm_in, rests_on, goes_quiet}
use Rattle.st_answers.proofs.Turned.{turned, IsReadyIn, fits_turned, fits_as, ready_of, ready_same, words_held, thread_few}

-- ---- views

module _ (p : Program) (d : Data) (u : View) where
  -- a ready chain is taken
  pub record TakenOwn (c : ℕ) (cargo : Cargo) (v : View) : Type 0 where
    pub asked : v.asked ≡ u.asked
    pub ready : v.ready ≡ without_number c u.ready
    pub exported : v.exported ≡ u.exported

  pub taken_own : (c : ℕ) (chain : Chain) (cargo : Cargo) → TakenOwn c cargo (after p d u (SlotTake (slots.Cell c)) (Took (Some chain) cargo))
  unfolding after view_after
  taken_own c chain cargo = record { asked = refl; ready = refl; exported = refl }

  pub taken_bag : (b : Bag) (c : ℕ) (chain : Chain) (cargo : Cargo) → b.chains ≡ [] → b.hand ≡ [] → b.root ≡ false → cargo.unit ≡ 1 → HasBag b u → HasBag (record b { chains = cargo.carried ∷ []; share = b.share + 1 }) (after p d u (SlotTake (slots.Cell c)) (Took (Some chain) cargo))
  unfolding after view_after
  taken_bag b c chain cargo no_chains no_hand no_root unit h = record {
    chains = ap (λ (xs : List Carried). cargo.carried ∷ xs) (h.chains ∙ no_chains);
    hand = ap (seen_waiting c cargo.carried.wait) (h.hand ∙ no_hand) ∙ sym no_hand;
    share = ap (λ (n : ℕ). n + cargo.unit) h.share ∙ ap (λ (n : ℕ). b.share + n) unit;
    drawn = h.drawn;
    child = h.child;
    answering = h.answering;
    given = h.given;
    root = ap (λ (r : Bool). r && not (c == 0)) (h.root ∙ no_root) ∙ sym no_root;
  }

  -- a chain of the turn goes on
  abbrev pub waved : Carried → View
  waved x = record u { chains = record x { standing = Some 1 } ∷ []; child = child_stands x.known.note.cell u.child }

  only_stands : (x : Carried) → with_standing x.known.note.cell 1 (x ∷ []) ≡ record x { standing = Some 1 } ∷ []
  only_stands x = ap (λ (b : Bool). (if b then record x { standing = Some 1 } else x) ∷ []) (eq-eqb x.known.note.cell x.known.note.cell refl)

  pub waved_view : (x : Carried) → u.chains ≡ x ∷ [] → after p d u (CellStore x.known.note.cell words.Standing 1) Done ≡ waved x
  unfolding after
  waved_view x only =
      ap (λ (w : View). record w { threads = u.threads }) (stood_plainly u x.known.note.cell 1 (λ e. absurd (omega (arith, e))))
      ∙ ap (λ (xs : List Carried). record u { chains = xs; child = child_stands x.known.note.cell u.child }) (ap (with_standing x.known.note.cell 1) only ∙ only_stands x)

  -- it is put into a worker's mail
  pub record PutOwn (v : View) : Type 0 where
    pub asked : v.asked ≡ u.asked
    pub ready : v.ready ≡ u.ready
    pub exported : v.exported ≡ u.exported

  pub put_own : (at : ℕ) (chain : Chain) (cargo : Cargo) → PutOwn (after p d u (SlotPut (slots.Mail at) chain cargo) Done)
  unfolding after view_after
  put_own at chain cargo = record { asked = refl; ready = refl; exported = refl }

  pub put_bag : (b : Bag) (at : ℕ) (chain : Chain) (x : Carried) (cargo : Cargo) → x.known.note.cell ≡ chain.cell → cargo.unit ≡ 1 → HasBag (record b { chains = x ∷ [] }) u → HasBag (record b { chains = []; share = b.share - 1; answering = put_into_mail b.answering }) (after p d u (SlotPut (slots.Mail at) chain cargo) Done)
  unfolding after view_after
  put_bag b at chain x cargo same unit h = record {
    chains = ap (without_chain chain.cell) h.chains ∙ ap (λ (b : Bool). cond (not b) (x ∷ []) []) (eq-eqb x.known.note.cell chain.cell same);
    hand = h.hand;
    share = ap (λ (n : ℕ). n - cargo.unit) h.share ∙ ap (λ (n : ℕ). b.share - n) unit;
    drawn = h.drawn;
    child = h.child;
    answering = ap put_into_mail h.answering;
    given = h.given;
    root = h.root;
  }

module _ (p : Program) (d : Data) (limits : Limits) (image : Image) (input : List ℕ) (x : Automaton) (u : View) (ready : IsReady p d limits image input x u) where
  pub still_asking : (asker : ℕ) (s : Step) (a : Answer) → IsAsking p d limits asker u → IsAsking p d limits asker (after p d u s a)
  still_asking asker s a was = let same = numbers p d u s a in (subst (λ n. asker < n) (sym same.workers) was.0, subst (λ n. asker ≢ n) (sym same.number) was.1)

  -- ---- a ready chain is taken

  pub may_pick : (asker cell : ℕ) → x.phase ≡ phases.Picking asker cell → MayAsk p d limits u (SlotTake (slots.Cell cell)) × NeverEmpty (λ a. Promises u (SlotTake (slots.Cell cell)) a)
  may_pick asker cell e =
      let b = by_in p d limits image input x u ready (phases.Picking asker cell) e in
      let is_ready : Contains u.ready cell = ready.fits.holds.ready cell (subst (λ (φ : Phase). Contains (taken_of φ ++ x.ready.numbers) cell) (sym e) (contains_here cell x.ready.numbers)) in
      let few = thread_few u.threads in
      let share : u.share ≡ some_thread u.threads + 0 = b.0.1.share in (
        no_item_asks p d limits u (SlotTake (slots.Cell cell)) tt (ready_safe (meaning p d limits) u cell (ready.tidy.numbers.below cell (inr (inr (inr is_ready)))) is_ready (λ hand. ready.tidy.numbers.ready cell is_ready (inr hand)) (omega (arith, few, share))),
        λ cargo said. said.there refl,
      )

  pub picking_fits : (asker cell : ℕ) (y : Automaton) (old v : View) (turn : Turn) → x.phase ≡ phases.Picking asker cell → Does p d limits image input u old x turn y v (phases.Picking asker cell) → FitsIn p d limits image input y v
  picking_fits asker cell y old v turn e (cargo, chain, tells, (is, ran)) =
      let b = by_in p d limits image input x u ready (phases.Picking asker cell) e in
      let s : Step = SlotTake (slots.Cell cell) in
      let a : Answer = Took (Some chain) cargo in
      let w : View = after p d u s a in
      let ψ : Phase = phases.Waving asker chain in
      let z : Automaton = turned ψ x.ready.numbers x.since x in
      let behind : IsBehind p d w = subst (IsBehind p d) tells.is tells.behind in
      let tidy : Tidy w = subst Tidy tells.is tells.tidy in
      let was : IsReadyIn (cell ∷ x.ready.numbers) u = record {
        once = subst (λ (φ : Phase). AreOnce (taken_of φ ++ x.ready.numbers)) e ready.fits.holds.ready_once;
        ready = λ c at. ready.fits.holds.ready c (subst (λ (φ : Phase). Contains (taken_of φ ++ x.ready.numbers) c) (sym e) at);
        all_ready = λ c at. subst (λ (φ : Phase). Contains (taken_of φ ++ x.ready.numbers) c) e (ready.fits.holds.all_ready c at);
      } in
      let is_ready : Contains u.ready cell = was.ready cell (contains_here cell x.ready.numbers) in
      let own = taken_own p d u cell chain cargo in
      let active = tells.promised.active (inl is_ready) in
      let numbers_now : IsReadyIn x.ready.numbers w = record {
        once = was.once.1;
        ready = λ c at. subst (λ (rs : List ℕ). Contains rs c) (sym own.ready) (filter_in (λ q. not (q == cell)) u.ready c (was.ready c (contains_later c cell x.ready.numbers at)) (other_true c cell (λ same. was.once.0 (subst (Contains x.ready.numbers) same at))));
        all_ready = λ c at.
            let there = filter_out (λ q. not (q == cell)) u.ready c (subst (λ (rs : List ℕ). Contains rs c) own.ready at) in
            ⊎_elim (λ (same : cell ≡ c). absurd (not_itself c cell same there.1)) (λ (later : Contains x.ready.numbers c). later) (contains_case c cell x.ready.numbers (was.all_ready c there.0));
      } in
      let carries : Carries p d w chain (Some 3) cargo.carried cargo.frames = subst (λ (standing : Option ℕ). Carries p d w chain standing cargo.carried cargo.frames) active.1.0 (taken_carries p d u w (slots.Cell cell) chain cargo ready.fits.is_for.code.accepted tells.promised tells.comes.0 refl b.0.1.chains) in
      let threads : w.threads ≡ u.threads = no_item_threads p d u s a tt in
      let bag : HasBag (answering_bag asker false false (with_chain cargo.carried (units (some_thread u.threads + 0 + 1)))) w = taken_bag p d u (answering_bag asker false false (own_and 0 u)) cell chain cargo refl refl refl active.0 b.0.1 in
      let count : some_thread u.threads + 0 + 1 ≡ some_thread w.threads + 1 = ap (λ (n : ℕ). n + 1) (zero_more (some_thread u.threads)) ∙ ap (λ (ts : List Known). some_thread ts + 1) (sym threads) in
      let goes : chain.wait ≢ waits.Trapped = subst (λ (wait : Waiting). wait ≢ waits.Trapped) tells.promised.of.1 (behind.going cargo.carried carries.has.there (inr active.1.0)) in
      fits_as p d limits image input y z v w is tells.is
      (fits_turned p d limits image input x ψ x.ready.numbers x.since u w ready.fits (calm_in p d limits image input x u ready (phases.Picking asker cell) e (refl, λ n. refl)) (λ n. refl) (record { same = numbers p d u s a; exported = own.exported; threads = threads; asked = own.asked }) numbers_now
      (record {
        carried = cargo.carried;
        frames = cargo.frames;
        carries = carries;
        bag = subst (λ (n : ℕ). HasBag (answering_bag asker false false (with_chain cargo.carried (units n))) w) count bag;
        goes = goes;
        rests = taken_rests p d x z u w (slots.Cell cell) chain cargo ready.fits.is_for.code.accepted tells.promised tells.comes.0 refl tidy (words_held w.held behind.words) refl refl b.0.0;
        asks = still_asking asker s a b.1;
      }))
    where
      not_itself : (c k : ℕ) → k ≡ c → not (c == k) ≡ true → ⊥
      not_itself c k same other = let is : (c == k) ≡ true = eq-eqb c k (sym same) in let no : not true ≡ true = ap not (sym is) ∙ other in let none : ⊥ = cc in none

      zero_more : (n : ℕ) → n + 0 ≡ n
      zero_more n = omega arith

  -- ---- it goes on

  cell_is : (chain : Chain) (c : Carried) (frames : List Frame) → HasFrames p d u chain c frames → c.known.note.cell ≡ chain.cell
  cell_is chain c frames has = ap (λ k. k.cell) has.note ∙ has.cell

  pub may_wave : (asker : ℕ) (chain : Chain) → x.phase ≡ phases.Waving asker chain → MayAsk p d limits u (CellStore chain.cell words.Standing running)
  may_wave asker chain e =
      let b = by_in p d limits image input x u ready (phases.Waving asker chain) e in
      let same = cell_is chain b.carried b.frames b.carries.has in
      no_item_asks p d limits u (CellStore chain.cell words.Standing running) tt
      (subst (λ (c : ℕ). Safe (meaning p d limits) u (CellStore c words.Standing 1)) same (run_safe (meaning p d limits) u b.carried b.carries.has.there (subst (λ (c : ℕ). c < u.cells) (sym same) b.carries.below) (inr b.carries.stands)))

  pub waving_fits : (asker : ℕ) (chain : Chain) (y : Automaton) (old v : View) (turn : Turn) → x.phase ≡ phases.Waving asker chain → Does p d limits image input u old x turn y v (phases.Waving asker chain) → FitsIn p d limits image input y v
  waving_fits asker chain y old v turn e (tells, (is, ran)) =
      let b = by_in p d limits image input x u ready (phases.Waving asker chain) e in
      let c : Carried = b.carried in
      let s : Step = CellStore c.known.note.cell words.Standing 1 in
      let has = b.carries.has in
      let same = cell_is chain c b.frames has in
      let w : View = after p d u s Done in
      let here : v ≡ w = tells.is ∙ ap (λ (k : ℕ). after p d u (CellStore k words.Standing 1) Done) (sym same) in
      let behind : IsBehind p d w = subst (IsBehind p d) here tells.behind in
      let view : w ≡ waved p d u c = waved_view p d u c b.carries.only in
      let ψ : Phase = phases.Mailing asker chain in
      let z : Automaton = turned ψ x.ready.numbers x.since x in
      let c' : Carried = record c { standing = Some 1 } in
      let rests : Rests p d z w b.frames = rests_kept p d x z u w ready.fits.is_for.code.accepted (words_held w.held behind.words) refl refl (untouched p d u s Done tt) (no_item_threads p d u s Done tt) b.frames b.rests in
      let go : HasToGo p d limits asker chain 1 z (waved p d u c) = record {
        carried = c';
        frames = b.frames;
        carries = record {
          only = refl;
          has = record {
            there = contains_here c' [];
            single = λ y there at. ⊎_elim (λ (it : c' ≡ y). sym it) (λ (none : Contains [] y). absurd (contains_none y none)) (contains_case y c' [] there);
            note = has.note;
            cell = has.cell;
            wait = has.wait;
            stands = has.stands;
            begun = has.begun;
            leased = has.leased;
            own = has.own;
            knows = has.knows;
          };
          stands = refl;
          below = b.carries.below;
        };
        bag = record { chains = refl; hand = b.bag.hand; share = b.bag.share; drawn = b.bag.drawn; child = ap (child_stands c.known.note.cell) b.bag.child; answering = b.bag.answering; given = b.bag.given; root = b.bag.root };
        goes = b.goes;
        rests = subst (λ (k : View). Rests p d z k b.frames) view rests;
        asks = b.asks;
      } in
      fits_as p d limits image input y z v w is here
      (fits_turned p d limits image input x ψ x.ready.numbers x.since u w ready.fits (calm_in p d limits image input x u ready (phases.Waving asker chain) e (refl, λ n. refl)) (λ n. refl)
      (record { same = numbers p d u s Done; exported = (untouched p d u s Done tt).exported; threads = no_item_threads p d u s Done tt; asked = ap (λ (k : View). k.asked) view }) (ready_same x.ready.numbers u w (ap (λ (k : View). k.ready) view) (ready_of p d limits image input x u ready.fits.holds (ap taken_of e)))
      (subst (λ (k : View). HasToGo p d limits asker chain 1 z k) (sym view) go))

  -- ---- it is put into mail

  pub may_mail : (asker : ℕ) (chain : Chain) → x.phase ≡ phases.Mailing asker chain → MayAsk p d limits u (SlotPut (slots.Mail asker) chain (goes_with p u (slots.Mail asker) chain))
  may_mail asker chain e =
      let b = by_in p d limits image input x u ready (phases.Mailing asker chain) e in
      let slot : Slot = slots.Mail asker in
      let of = chains_carried p d u slot chain b.carried b.frames ready.fits.is_for.code.accepted b.carries.has in
      let share : u.share ≡ some_thread u.threads + 1 = b.bag.share in
      no_item_asks p d limits u (SlotPut slot chain (goes_with p u slot chain)) tt
      (put (meaning p d limits) u slot chain (goes_with p u slot chain) (b.asks.0, ((b.carried, b.carries.has.there, cell_is chain b.carried b.frames b.carries.has), b.asks.1, (record { asker = asker; put = false; told = false }, b.bag.answering, refl, refl, refl)), omega arith, omega (arith, share)) (record {
        carries = of.carries;
        unit = refl;
        walks = of.walks;
        shows = subst (λ (y : Carried). Shows (meaning p d limits) u slot y) (sym of.found_is) (b.carries.stands, inr b.bag.hand);
      }))

  pub mailing_fits : (asker : ℕ) (chain : Chain) (y : Automaton) (old v : View) (turn : Turn) → x.phase ≡ phases.Mailing asker chain → Does p d limits image input u old x turn y v (phases.Mailing asker chain) → FitsIn p d limits image input y v
  mailing_fits asker chain y old v turn e (tells, (is, ran)) =
      let b = by_in p d limits image input x u ready (phases.Mailing asker chain) e in
      let slot : Slot = slots.Mail asker in
      let cargo : Cargo = goes_with p u slot chain in
      let s : Step = SlotPut slot chain cargo in
      let w : View = after p d u s Done in
      let behind : IsBehind p d w = subst (IsBehind p d) tells.is tells.behind in
      let ψ : Phase = phases.Telling asker true in
      let z : Automaton = turned ψ x.ready.numbers x.since x in
      let own = put_own p d u asker chain cargo in
      let threads : w.threads ≡ u.threads = no_item_threads p d u s Done tt in
      let bag : HasBag (answering_bag asker true false (units (some_thread u.threads + 1 - 1))) w = put_bag p d u (answering_bag asker false false (own_and 1 u)) asker chain b.carried cargo (cell_is chain b.carried b.frames b.carries.has) refl b.bag in
      let count : some_thread u.threads + 1 - 1 ≡ some_thread w.threads + 0 = one_less (some_thread u.threads) ∙ ap (λ (ts : List Known). some_thread ts + 0) (sym threads) in
      fits_as p d limits image input y z v w is tells.is
      (fits_turned p d limits image input x ψ x.ready.numbers x.since u w ready.fits (calm_in p d limits image input x u ready (phases.Mailing asker chain) e (refl, λ n. refl)) (λ n. refl)
      (record { same = numbers p d u s Done; exported = own.exported; threads = threads; asked = own.asked }) (ready_same x.ready.numbers u w own.ready (ready_of p d limits image input x u ready.fits.holds (ap taken_of e))) (
        (put_rests p d x z u w slot chain b.carried b.frames ready.fits.is_for.code.accepted b.carries.has refl (words_held w.held behind.words) refl refl b.rests, subst (λ (n : ℕ). HasBag (answering_bag asker true false (units n)) w) count bag),
        still_asking asker s Done b.asks,
      ))
    where
      one_less : (n : ℕ) → n + 1 - 1 ≡ n + 0
      one_less n = omega arith

  -- ---- the answer is told

  tell_by : (asker : ℕ) (given : Bool) → InHand p d limits x u (answering_bag asker given false (own_and 0 u)) → IsAsking p d limits asker u → Safe (meaning p d limits) u (MailStore asker (told_word given))
  tell_by asker true (rests, bag) asks = tell_given_safe (meaning p d limits) u (record { asker = asker; put = true; told = false }) asks.0 bag.answering refl refl
  tell_by asker false (rests, bag) asks = tell_refused_safe (meaning p d limits) u (record { asker = asker; put = false; told = false }) asks.0 bag.answering refl refl

  pub may_tell : (asker : ℕ) (given : Bool) → x.phase ≡ phases.Telling asker given → MayAsk p d limits u (MailStore asker (told_word given))
  may_tell asker given e = let b = by_in p d limits image input x u ready (phases.Telling asker given) e in no_item_asks p d limits u (MailStore asker (told_word given)) tt (tell_by asker given b.0 b.1)

  pub telling_fits : (asker : ℕ) (given : Bool) (y : Automaton) (old v : View) (turn : Turn) → x.phase ≡ phases.Telling asker given → Does p d limits image input u old x turn y v (phases.Telling asker given) → FitsIn p d limits image input y v
  telling_fits asker given y old v turn e (tells, (is, ran)) =
      let b = by_in p d limits image input x u ready (phases.Telling asker given) e in
      let s : Step = MailStore asker (told_word given) in
      let w : View = after p d u s Done in
      let behind : IsBehind p d w = subst (IsBehind p d) tells.is tells.behind in
      let changed = told p d u (record { asker = asker; put = given; told = false }) (told_word given) b.0.1.answering b.1.1 in
      let bag = bag_answers p d u (answering_bag asker given false (own_and 0 u)) (Some (record { asker = asker; put = given; told = true })) w changed b.0.1 in
      let threads : w.threads ≡ u.threads = no_item_threads p d u s Done tt in
      fits_as p d limits image input y (turned phases.Clearing x.ready.numbers x.since x) v w is tells.is
      (goes_quiet p d limits image input x u ready (phases.Telling asker given) phases.Clearing x.since s Done e refl refl (refl, λ n. refl) (λ n. refl) tt tt changed.quiet
      (asker, given, (rests_on p d limits image input x u ready phases.Clearing x.ready.numbers x.since s Done tt tt behind b.0.0, subst (λ (ts : List Known). HasBag (answering_bag asker given true (units (some_thread ts + 0))) w) (sym threads) bag)))
