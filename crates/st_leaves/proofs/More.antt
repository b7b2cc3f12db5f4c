-- A step of taking a thread out that isn't the last one. Read more_fits: the worker fits its board's view behind it, if the frames that it had exported stay so.
use Rattle.std.proofs.Common.{true, ◌≡◌, ◌⊎◌, inl, inr, ⊎_elim, ℕ, suc, ◌+◌, ◌-◌, ◌≤◌, List, [], ◌∷◌, Option, Some, None, refl, sym, ap, ◌∙◌, subst, arith}
use Rattle.std.specs.List.{Contains}
use Rattle.st_base.specs.declared.chain.Frame.{Frame}
use Rattle.st_base.specs.declared.chain.Note.{Note}
use Rattle.st_base.specs.declared.chain.Waiting.{Waiting}
use Rattle.st_base.specs.declared.image.Image.{Image}
use Rattle.st_base.specs.declared.limits.Limits.{Limits}
use Rattle.st_base.specs.declared.reg.Reg.TheVariants as registers
use Rattle.st_base.specs.declared.thread.Activation.{Activation}
use Rattle.st_model.specs.declared.program.Program.{Program}
use Rattle.st_model.specs.Accepted.{IsAccepted}
use Rattle.st_model.specs.Memory.{Data}
use Rattle.st_words.specs.declared.view.View.{View}
use Rattle.st_step.specs.Moves.{register}
use Rattle.st_step.specs.declared.state.State.{State}
use Rattle.st_stack.specs.Exported.{Exports}
use Rattle.st_chain.specs.Seen.{joined}
use Rattle.st_chain.specs.declared.walk.Stage.{Stage}
use Rattle.st_chain.specs.declared.walk.Stage.TheVariants as stages
use Rattle.st_chain.specs.declared.walk.Walk.{Walk}
use Rattle.st_chain.specs.Taking.{Suspending, Suspends, Taking, beneath, frames_of}
use Rattle.st_chain.specs.Walking.{IsAt, steps_of}
use Rattle.st_framed.specs.Framed.{IsElsewhere}
use Rattle.st_kept.proofs.Keeping.{same_for}
use Rattle.st_made.specs.Moves.{Made}
use Rattle.st_phases.specs.declared.automaton.Automaton.{Automaton}
use Rattle.st_phases.specs.declared.phase.Leaving.{Leaving}
use Rattle.st_phases.specs.declared.phase.Phase.{Phase}
use Rattle.st_phases.specs.declared.phase.Phase.TheVariants as phases
use Rattle.st_fits.specs.Before.{before}
use Rattle.st_fits.specs.Fits.{ByPhase, Fits, FitsIn, Holds as HoldsOf, is_taking}
use Rattle.st_fits.specs.Laws.{IsReady}
use Rattle.st_fits.specs.Threads.{IsOf, Leases, Leaves}
use Rattle.st_leaves.proofs.Chained.{of_wait_still}
use Rattle.st_leaves.proofs.Forward.{MayCome, before_forward, forward, forward_made}
use Rattle.st_leaves.proofs.Left.{by_of}
use Rattle.st_leaves.proofs.Taken.{can_export, exported_apart, in_joined}
use Rattle.st_leaves.proofs.Unexported.{waits_so, with_exports}

-- a step is left
some_steps : (program : Program) (acts : List Activation) → 1 ≤ steps_of program acts
some_steps program [] = omega arith
some_steps program (a ∷ older) = let more = some_steps program older in omega (arith, more)

steps_left : (t : Taking) (walk : Walk) (notes : List Note) (m : State) (s : Exports) (n : ℕ) → Suspending t notes walk m s n → 1 ≤ n
steps_left t walk notes m s n is = by_stage walk.stage is.at
  where
    by_stage : (stage : Stage) → IsAt t.p t.d t.names t.held (beneath t t.taken.note.cell t.below t.below_frames) stage walk.machine is.acts is.fs n → 1 ≤ n
    by_stage stages.Frame at = let some = some_steps t.p is.acts in let total = at.3 in omega (arith, some, total)
    by_stage (stages.Copy left) at = let some = some_steps t.p is.acts in let total = at.1.1.4 in omega (arith, some, total)

stays_exported : (t : Taking) (wait : Waiting) (notes : List Note) (walk : Option Walk) (m : State) (s : Exports) (n : ℕ) → Suspends t wait notes walk m s n → (f : Frame) → Contains s.exported f → Contains t.exported f
stays_exported t wait notes None m s n is f there = is.exports.stay f there
stays_exported t wait notes (Some walk) m s n is f there = is.exports.stay f there

module _ (p : Program) (d : Data) (limits : Limits) (image : Image) (input : List ℕ) (accepted : IsAccepted p) (leaving : Leaving) (x : Automaton) (u : View) (ready : IsReady p d limits image input x u) (phase : x.phase ≡ phases.Suspending leaving) where
  abbrev pub by : ByPhase p d limits (phases.Suspending leaving) x u
  by = by_of p d limits image input accepted x u (phases.Suspending leaving) phase ready

  abbrev pub h : Leaves p d leaving x u
  h = by.0

  -- what such a step leaves of the worker
  pub record GoesFurther (y : Automaton) : Type 0 where
    pub same : y ≡ record x { stack = y.stack; threads = y.threads }
    pub room : y.threads.room ≡ x.threads.room
    pub lo : y.stack.lo ≡ x.stack.lo
    pub hi : y.stack.hi ≡ x.stack.hi
    pub notes : y.threads.notes ≡ x.threads.notes
    pub walk : Walk
    pub walks : y.threads.open ≡ Some walk
    pub n : ℕ
    pub suspending : Suspending h.t x.threads.notes walk x.machine y.stack n
    pub stay : (f : Frame) → Contains x.stack.exported f → Contains y.stack.exported f

  module _ (y : Automaton) (goes : GoesFurther y) where
    -- an exported frame is one that was, or one of the thread's
    came : (f : Frame) → Contains y.stack.exported f → Contains u.exported f ⊎ Contains h.t.frames f
    came f is = ⊎_elim (λ was. inl (ready.fits.holds.exported f (h.of.were f was))) (λ come. inr come.0) (h.of.will.were f (goes.suspending.exports.stay f is))

    will : (f : Frame) → Contains y.stack.exported f → Contains h.t.exported f
    will f is = goes.suspending.exports.stay f is

    was_will : (f : Frame) → Contains u.exported f → Contains h.t.exported f
    was_will f is = stays_exported h.t leaving.wait x.threads.notes x.threads.open x.machine x.stack (suc h.n) h.suspends f (ready.fits.holds.all_exported f is)

    frames_may : MayCome p d leaving u y.stack.exported
    frames_may = record {
      each = λ f is. ⊎_elim (λ was. inl (ready.fits.holds.exported f (h.of.were f was))) (λ come. inr (can_export p d limits image input accepted leaving x u ready h f come.0 come.1)) (h.of.will.were f (will f is));
      apart = λ f g is there other. exported_apart p d limits image input accepted leaving x u ready h f g (will f is) (⊎_elim (λ was. was_will g was) (λ come. will g come) there) other;
    }

    -- the worker as it is then, over u with these exported frames
    abbrev further : Automaton
    further = record x { stack = y.stack; threads = y.threads }

    module _ (frames : List Frame) (only : (f : Frame) → Contains frames f → Contains u.exported f ⊎ Contains y.stack.exported f) (has : (f : Frame) → Contains y.stack.exported f → Contains frames f) where
      leases_further : Leases (with_exports frames u) (joined (frames_of h.t))
      leases_further f (inl is) held =
          ⊎_elim (λ was. h.of.leases f (inl was) held) (λ new. ⊎_elim (λ was. h.of.leases f (inl was) held) (λ own. in_joined p d limits image input accepted leaving x u ready h f own) (came f new)) (only f is)
      leases_further f (inr is) held = h.of.leases f (inr is) held

      of_further : IsOf p d further (with_exports frames u) h.t
      of_further = record {
        program = h.of.program;
        source = h.of.source;
        names = h.of.names;
        held = h.of.held;
        threads = h.of.threads;
        start = h.of.start;
        lo = h.of.lo ∙ sym goes.lo;
        hi = h.of.hi ∙ sym goes.hi;
        framed = h.of.framed;
        will = h.of.will;
        were = λ f is. goes.stay f (h.of.were f is);
        used = subst (λ (k : ℕ). k ≤ register x.machine registers.Sp + u.frame_bytes) (sym goes.hi) h.of.used;
        away = λ f is elsewhere. h.of.away f is (subst (λ (k : ℕ). IsElsewhere k x.stack.hi f) goes.lo (subst (λ (k : ℕ). IsElsewhere y.stack.lo k f) goes.hi elsewhere));
        leases = leases_further;
      }

      suspends_further : Suspends h.t leaving.wait y.threads.notes y.threads.open x.machine y.stack (suc (goes.n - 1))
      suspends_further =
          let some = steps_left h.t goes.walk x.threads.notes x.machine y.stack goes.n goes.suspending in
          let count : goes.n ≡ suc (goes.n - 1) = omega (arith, some) in
          subst (λ (ns : List Note). Suspends h.t leaving.wait ns y.threads.open x.machine y.stack (suc (goes.n - 1))) (sym goes.notes)
          (subst (λ (o : Option Walk). Suspends h.t leaving.wait x.threads.notes o x.machine y.stack (suc (goes.n - 1))) (sym goes.walks) (subst (λ (k : ℕ). Suspending h.t x.threads.notes goes.walk x.machine y.stack k) count goes.suspending))

      leaves_further : Leaves p d leaving further (with_exports frames u)
      leaves_further = record {
        t = h.t;
        n = goes.n - 1;
        of = of_further;
        suspends = suspends_further;
        wait = h.wait;
        waits = waits_so p d frames u h.t.taken leaving.wait h.waits;
        kind = h.kind;
        can = h.can;
        begun = h.begun;
        place = h.place;
        below = h.below;
        plain = h.plain;
      }

      holds_further : HoldsOf limits further (with_exports frames u)
      holds_further =
          let holds = ready.fits.holds in
          record {
            number = holds.number;
            below = holds.below;
            workers = holds.workers;
            few_workers = holds.few_workers;
            cells = holds.cells;
            few_cells = holds.few_cells;
            each = holds.each;
            words = holds.words;
            notes = goes.notes ∙ holds.notes;
            items = holds.items;
            frame_bytes = holds.frame_bytes;
            few_items = holds.few_items;
            few_bytes = holds.few_bytes;
            not_open = λ none. absurd (let taking : is_taking x.phase ≡ true = ap (λ (φ : Phase). is_taking φ) phase in let never : ⊥ = cc in never);
            ready_once = holds.ready_once;
            ready = holds.ready;
            all_ready = holds.all_ready;
            asked = holds.asked;
            asked_other = holds.asked_other;
            exported = has;
            all_exported = λ f is. ⊎_elim (λ was. goes.stay f (holds.all_exported f was)) (λ new. new) (only f is);
            last = holds.last;
            registers = holds.registers;
            values = holds.values;
          }

      fits_further : FitsIn p d limits image input further (with_exports frames u)
      fits_further =
          let bag = by.2 in
          record {
            is_for =
                same_for p d limits image input x further ready.fits.is_for (record { number = refl; code = refl; length_is = refl; steps = refl; cells = refl; room = goes.room; ready_room = refl; lo = goes.lo; hi = goes.hi; low = refl; high = refl });
            holds = holds_further;
            by = subst (λ (φ : Phase). ByPhase p d limits φ further (with_exports frames u)) (sym phase) (
              leaves_further,
              of_wait_still p d limits leaving u (with_exports frames u) (record { names = refl; owners = refl; threads = refl; cells = refl }) leaving.wait by.1,
              record { chains = bag.chains; hand = bag.hand; share = bag.share; drawn = bag.drawn; child = bag.child; answering = bag.answering; given = bag.given; root = bag.root },
            );
          }

    -- over any view of its board from which u is reached
    pub more_fits : (old : View) → before p d x old ≡ u → Made p d old u → Fits p d limits image input y old
    more_fits old is made =
        let w : View = forward p d leaving x old u is phase made y.stack.exported in
        let f = forward_made p d leaving x old u is phase made y.stack.exported frames_may in
        let same_phase : y.phase ≡ phases.Suspending leaving = ap (λ (a : Automaton). a.phase) goes.same ∙ phase in
        let e : before p d y old ≡ w = before_forward p d leaving x old u is phase made y same_phase (ap (λ (a : Automaton). a.items) goes.same) in
        let fits = fits_further w.exported f.only f.has in
        let there : FitsIn p d limits image input y w = subst (λ (a : Automaton). FitsIn p d limits image input a w) (sym goes.same) (subst (λ (v : View). FitsIn p d limits image input further v) (sym f.same) fits) in
        record { made = subst (λ (v : View). Made p d old v) (sym e) f.made; fits = subst (λ (v : View). FitsIn p d limits image input y v) (sym e) there }
