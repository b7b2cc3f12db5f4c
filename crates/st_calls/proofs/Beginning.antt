-- A child whose cell is named begins above its parent: beginning.
use Rattle.st_ahead.proofs.Named.{pushed_made}
use Rattle.st_ahead.specs.Naming.{pushed, exported, on}
use Rattle.st_ahead.specs.NamingLaws.{MayPush}
use Rattle.st_base.specs.declared.chain.Frame.{Frame}
use Rattle.st_base.specs.declared.chain.Note.{Note}
use Rattle.st_base.specs.declared.image.Image.{Image}
use Rattle.st_base.specs.declared.limits.Limits.{Limits}
use Rattle.st_base.specs.declared.thread.Held.TheVariants.{Future}
use Rattle.st_calls.proofs.Back.{at_back, back_state, top_note}
use Rattle.st_calls.proofs.Called as calling
use Rattle.st_calls.proofs.Making.{note_went}
use Rattle.st_calls.proofs.Naming as naming
use Rattle.st_calls.proofs.Phase.{by_in, calm_in}
use Rattle.st_calls.proofs.Tops as tops
use Rattle.st_calls.proofs.Turning.{IsCalm, StepLeaves, fits_forward, fits_to, goes_to}
use Rattle.st_chain.proofs.Suspending.{notes_length}
use Rattle.st_chain.specs.Taking.{notes_of}
use Rattle.st_chain.specs.Walk.{is_held, word_in}
use Rattle.st_fits.specs.Bags.{Bag, HasBag, units}
use Rattle.st_fits.specs.Before.{before, after, with_items, with_child, come, taken_out, is_held_up}
use Rattle.st_fits.specs.Fits.{Fits, IsForChild}
use Rattle.st_fits.specs.Laws.{IsReady, KeepsLaw, MayAsk, MayLaw, PhaseLaw}
use Rattle.st_fits.specs.Threads.{IsCalled, IsPlain, Polls, ends_of, now}
use Rattle.st_kept.proofs.Stepping.{no_item_asks}
use Rattle.st_made.specs.Items.{born, child_path, went}
use Rattle.st_made.specs.Moves.{Made}
use Rattle.st_model.specs.Memory.{Data}
use Rattle.st_model.specs.declared.program.Program.{Program}
use Rattle.st_phases.specs.Automaton.{back, own_note, replaced}
use Rattle.st_phases.specs.Entries.{begins_child, child_note}
use Rattle.st_phases.specs.declared.automaton.Automaton.{Automaton}
use Rattle.st_phases.specs.declared.phase.Phase.TheVariants as phases
use Rattle.st_phases.specs.declared.phase.Phase.{Phase}
use Rattle.st_run.specs.Meanings.{meaning}
use Rattle.st_serving.specs.Serving as serves
use Rattle.st_settled.proofs.Forward.{exported_none, on_still}
use Rattle.st_standing.specs.Standing.{IsForked}
use Rattle.st_step.specs.Moves.{at_place}
use Rattle.st_step.specs.declared.state.State.{State}
use Rattle.st_words.proofs.Lists.{contains_case, contains_none}
use Rattle.st_words.proofs.Starting.{child_runs}
use Rattle.st_words.specs.Encodings.{running}
use Rattle.st_words.specs.Steps.{CellStore, Done, Step}
use Rattle.st_words.specs.Views as views
use Rattle.st_words.specs.Views.{view_after}
use Rattle.st_words.specs.declared.view.Carried.{Carried}
use Rattle.st_words.specs.declared.view.CellWord.TheVariants as words
use Rattle.st_words.specs.declared.view.Child.{Child}
use Rattle.st_words.specs.declared.view.Known.{Known}
use Rattle.st_words.specs.declared.view.View.{View}
use Rattle.std.proofs.Common.{◌≡◌, inl, inr, ℕ, ◌+◌, ◌-◌, Bool, true, false, List, [], ◌∷◌, ◌++◌, Option, Some, None, refl, sym, ap, ◌∙◌, subst, arith, ◌⊎◌, ◌^◌, ◌<◌, eq-eqb, length}
use Rattle.std.specs.List.{Contains}
use Rattle.std.specs.Prelude.{if◌then◌else◌}

-- the worker is ahead by the child
pushed_forward : (p : Program) (d : Data) (y : Automaton) (v w : View) → y.phase ≡ phases.Polling → pushed p d v ≡ w → y.items ≡ w.items → on p d w ≡ w → ((f : Frame) → Contains y.stack.exported f → Contains w.exported f) → before p d y v ≡ w
unfolding before
pushed_forward p d y v w phase pushes items still are =
    let none : y.items - w.items ≡ 0 = omega (arith, items) in
    ap (λ φ. exported y.stack.exported (taken_out φ (with_items p d (is_held_up y φ) (y.items - (with_child p d φ (come φ v)).items) (with_child p d φ (come φ v))))) phase
    ∙ ap (λ (z : View). exported y.stack.exported (with_items p d false (y.items - z.items) z)) pushes
    ∙ ap (λ (n : ℕ). exported y.stack.exported (with_items p d false n w)) none
    ∙ ap (λ (z : View). exported y.stack.exported z) still
    ∙ exported_none y.stack.exported w are

one_top : (t k : Known) (ts ks : List Known) → t ∷ ts ≡ k ∷ ks → t ≡ k
one_top t k ts ks is = cc

module _ (p : Program) (d : Data) (limits : Limits) (image : Image) (input : List ℕ) (cell : ℕ) where
  abbrev φ : Phase
  φ = phases.Beginning cell

  abbrev step : Step
  step = CellStore cell words.Standing running

  abbrev waiting : Bag
  waiting = record (units 1) { child = Some (record { cell = cell; stands = false }) }

  module _ (x : Automaton) (u : View) (ready : IsReady p d limits image input x u) (called : IsCalled p d 0x10 x u) (here : cell < u.cells) (bag : HasBag waiting u) (name : Contains u.names (Future (child_path called.top), cell)) where
    abbrev top : Known
    top = called.top

    forks : serves.Forks p d u.names (is_held u.held) (ends_of x.machine) (now x u) called.top called.frames called.below called.lower
    forks = (calling.served p d limits image input x u ready 0x10 called).forks refl

    child_there : (u.child ≡ None) → ⊥
    child_there none = let is = bag.child in let never : ⊥ = cc in never

    room : length x.threads.notes < x.threads.room
    room =
        let few = ready.behind.room child_there in
        let size : length x.threads.notes ≡ length u.threads = ap length ready.fits.holds.notes ∙ notes_length u.threads in
        let room : x.threads.room ≡ u.cells = ready.fits.is_for.room ∙ sym ready.fits.is_for.cells ∙ ready.fits.holds.cells in
        omega (arith, few, size, room)

    asks_step : MayAsk p d limits u step
    asks_step = no_item_asks p d limits u step tt (child_runs (meaning p d limits) u cell here (record { cell = cell; stands = false }, bag.child, refl))

    -- its Standing word is stored
    abbrev stood : View
    stood = record u { child = Some (record { cell = cell; stands = true }) }

    stands_is : after p d u step Done ≡ stood
    unfolding after view_after
    stands_is =
        ap (λ (xs : List Carried). record u { chains = xs; child = views.child_stands cell u.child }) (ap (views.with_standing cell running) bag.chains ∙ sym bag.chains)
        ∙ ap (λ (o : Option Child). record u { child = o }) (ap (views.child_stands cell) bag.child ∙ ap (λ (b : Bool). if b then Some (record { cell = cell; stands = true }) else Some (record { cell = cell; stands = false })) (eq-eqb cell cell refl))

    -- it begins
    abbrev child : Known
    child = born cell (child_path top) forks.child

    abbrev parent : Known
    parent = went top forks.next

    abbrev w : View
    w = record stood { threads = child ∷ parent ∷ called.below; child = None }

    abbrev may_push : MayPush p d stood
    may_push = record {
      top = top;
      rest = called.below;
      is = called.is;
      begun = called.at.0.begun;
      child = record { cell = cell; stands = true };
      named = refl;
      stands = refl;
      none_drawn = bag.drawn;
      change = record { own = forks.next; child = Some forks.child; added = None; printed = None };
      moves = forks.moves;
      thread = forks.child;
      made = refl;
      name = name;
    }

    pushes : (pushed p d stood ≡ w) × Made p d stood (pushed p d stood)
    pushes = pushed_made p d stood may_push

    -- ---- where its worker polls

    abbrev m : State
    m = at_place (back x.machine) x.machine

    abbrev notes : List Note
    notes = replaced (record (own_note x) { forks = (own_note x).forks + 1 }) x.threads.notes ++ child_note cell ∷ []

    abbrev y : Automaton
    y = goes_to m notes phases.Polling x

    small : cell < 2 ^ 64
    small = let most = ready.fits.holds.few_cells in omega (arith, here, most)

    forked : IsForked p u.names (is_held u.held) (ends_of x.machine) (record { state = m; word = word_in u.held }) child (parent ∷ called.below) (called.frames ∷ called.lower)
    forked =
        subst (λ (n : State). IsForked p u.names (is_held u.held) (ends_of x.machine) (record { state = n; word = word_in u.held }) child (parent ∷ called.below) (called.frames ∷ called.lower)) (sym (back_state p d limits image input x u ready 0x10 called))
        (forks.goes u.names cell small (λ held c in'. in') name)

    polls : Polls p d y w []
    polls = record {
      top = child;
      below = parent ∷ called.below;
      is = refl;
      frames = [];
      lower = called.frames ∷ called.lower;
      at = (record { going = forks.going; not_yet = refl }, inr (refl, forked));
      plain = λ t in'. plain_by t (contains_case t parent called.below in');
      lies = record { framed = called.lies.framed; used = called.lies.used; away = called.lies.away };
      leases = called.leases;
      apart = λ f g in' none. absurd (contains_none g none);
    }
      where
        plain_by : (t : Known) → (parent ≡ t) ⊎ Contains called.below t → IsPlain t
        plain_by t (inl is) = subst IsPlain is (record { going = forks.counts.going; not_yet = refl })
        plain_by t (inr in') = called.plain t in'

    parent_note : record (own_note x) { forks = (own_note x).forks + 1 } ≡ parent.note
    parent_note =
        let is = top_note p d limits image input x u ready 0x10 called in
        let c : top.note.counters ≡ top.note.counters + 0 = omega arith in
        let b : top.note.bytes ≡ top.note.bytes + 0 = omega arith in
        ap (λ (k : Note). record k { forks = k.forks + 1 }) (naming.own_is p d limits image input x u ready 0x10 called) ∙ (λ i. record { cell = top.note.cell; forks = top.note.forks + 1; counters = c i; bytes = b i }) ∙ sym (note_went top forks.next u.cells 1 0 0 is forks.counts)

    notes_are : notes ≡ notes_of w.threads
    notes_are =
        ap (λ (ns : List Note). ns ++ child_note cell ∷ [])
        (tops.replaced_is x.threads.notes (notes_of called.below) called.top.note (naming.notes_split p d limits image input x u ready 0x10 called) (record (own_note x) { forks = (own_note x).forks + 1 }) ∙ ap (λ (k : Note). notes_of called.below ++ k ∷ []) parent_note)

    leaves : StepLeaves u w
    leaves = record { untouched = record { number = refl; workers = refl; cells = refl; each = refl; held = refl; exported = refl; away = refl; items = refl; frame_bytes = refl; names = λ name c in'. in' }; words = refl; ready = refl; asked = refl }

    begins_fits : IsCalm x.phase → Fits p d limits image input y stood
    begins_fits calm =
        fits_forward p d limits image input y stood w
        (pushed_forward p d y stood w refl pushes.0 ready.fits.holds.items (on_still p d w (inl refl)) ready.fits.holds.exported)
        (subst (λ (z : View). Made p d stood z) pushes.0 pushes.1)
        (fits_to p d limits image input x m notes phases.Polling u w (at_back x.machine (back x.machine) ready.fits.holds.registers ready.fits.holds.values) calm (record { none = refl; most = λ n. refl; taking = refl }) notes_are leaves ready.fits
        (polls, record { chains = bag.chains; hand = bag.hand; share = bag.share; drawn = bag.drawn; child = refl; answering = bag.answering; given = bag.given; root = bag.root }))

  name_of_top : (x : Automaton) (u : View) (called : IsCalled p d 0x10 x u) → IsForChild cell u → Contains u.names (Future (child_path called.top), cell)
  name_of_top x u called (t, ts, is, name) = subst (λ (k : Known). Contains u.names (Future (child_path k), cell)) (one_top t called.top ts called.below (sym is ∙ called.is)) name

  may : MayLaw p d limits image input φ
  may x u phase ready =
      let (here, named, (at, called, bag)) = by_in p d limits image input x u ready φ phase in
      let name = name_of_top x u called named in (
        tops.some_is x.threads.notes (notes_of called.below) called.top.note (naming.notes_split p d limits image input x u ready 0x10 called),
        room x u ready called here bag name,
        naming.few_forks p d limits image input x u ready 0x10 called,
        asks_step x u ready called here bag name,
      )

  keeps : KeepsLaw p d limits image input φ
  keeps x z old v turn phase ready made (told, is, ran) =
      let u = before p d x old in
      let (here, named, (at, called, bag)) = by_in p d limits image input x u ready φ phase in
      let name = name_of_top x u called named in
      subst (λ (k : Automaton). Fits p d limits image input k v) (sym is)
      (subst (λ (k : View). Fits p d limits image input (begins_child cell x) k) (sym (told.is ∙ stands_is x u ready called here bag name)) (begins_fits x u ready called here bag name (calm_in p d limits image input x u ready φ phase (record { none = refl; most = λ n. refl; taking = refl }))))

  pub beginning : PhaseLaw p d limits image input φ
  beginning = record { may = may; keeps = keeps }
