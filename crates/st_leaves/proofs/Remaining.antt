-- The threads that stay when the top one is taken out: none_stays, where there is none, and below_stays, where the one below goes on.
use Rattle.std.proofs.Common.{◌≡◌, ◌⊎◌, inl, inr, ⊎_elim, ℕ, suc, ◌+◌, ◌<◌, ◌≤◌, ◌^◌, List, [], ◌∷◌, ◌++◌, Option, sym, ap, ◌∙◌, subst, refl, None, Some}
use Rattle.std.specs.List.{Contains}
use Rattle.st_base.specs.declared.chain.Chain.{Chain}
use Rattle.st_base.specs.declared.chain.Frame.{Frame}
use Rattle.st_base.specs.declared.image.Image.{Image}
use Rattle.st_base.specs.declared.limits.Limits.{Limits}
use Rattle.st_base.specs.declared.reg.Reg.TheVariants as registers
use Rattle.st_model.specs.declared.program.Program.{Program}
use Rattle.st_model.specs.Accepted.{IsAccepted}
use Rattle.st_model.specs.Memory.{Data}
use Rattle.st_words.specs.Steps.{Holds, return_place}
use Rattle.st_words.specs.declared.view.View.{View}
use Rattle.st_stack.specs.Exported.{Apart, Exports}
use Rattle.st_chain.specs.Seen.{joined}
use Rattle.st_chain.specs.Taking.{AllApart, GoesOn, IsTaken, Suspends, Taking, frames_of}
use Rattle.st_base.specs.declared.chain.Note.{Note}
use Rattle.st_base.specs.declared.thread.Held.{Held}
use Rattle.st_words.specs.declared.view.Known.{Known}
use Rattle.st_base.specs.declared.chain.Waiting.{Waiting}
use Rattle.st_chain.specs.declared.walk.Walk.{Walk}
use Rattle.st_chain.specs.Copying.{over}
use Rattle.st_chain.specs.Walk.{is_held, word_in}
use Rattle.st_items.specs.Body.{Ends, IsOn}
use Rattle.st_moving.proofs.Below.{below_goes_on}
use Rattle.st_standing.specs.Standing.{Behind, StandsOn, under}
use Rattle.st_step.specs.Runs.{AreValues, AreWords, HasRegisters}
use Rattle.st_step.specs.declared.state.State.{State}
use Rattle.st_words.proofs.Lists.{contains_here, contains_later}
use Rattle.st_framed.proofs.AllLaws.{framed_laws}
use Rattle.st_framed.proofs.Lists.{apart_across}
use Rattle.st_framed.specs.Framed.{Exporting, Framed, IsElsewhere}
use Rattle.st_step.specs.Moves.{register}
use Rattle.st_phases.specs.declared.automaton.Automaton.{Automaton}
use Rattle.st_phases.specs.declared.phase.Leaving.{Leaving}
use Rattle.st_fits.specs.Laws.{IsReady}
use Rattle.st_fits.specs.Threads.{HasNone, Leases, Leaves, Lies, Polls, ends_of}
use Rattle.st_leaves.proofs.Carrying.{left_view}
use Rattle.st_leaves.proofs.Exporting.{contains_early, contains_either, contains_late}
use Rattle.st_leaves.proofs.Taken.{in_joined, stood_so}

-- ---- where a machine stands

on_any : (e : Ends) (held : List (Option ℕ)) (m : State) → IsOn e (over held m) → IsOn (ends_of m) (over held m)
on_any e held m on = record { has_registers = on.has_registers; values = on.values; words = on.words; lo = refl; hi = refl; sp = refl; gp = refl }

on_ends : (t : Taking) (wait : Waiting) (notes : List Note) (walk : Option Walk) (m : State) (s : Exports) (n : ℕ) → Suspends t wait notes walk m s n → IsOn (ends_of m) (over t.held m)
on_ends t wait notes None m s n is = on_any is.ends t.held m is.machine
on_ends t wait notes (Some walk) m s n is = on_any is.ends t.held m is.machine

abbrev Stood : Program → List (Held × ℕ) → List (Option ℕ) → Ends → State → Known → List Frame → List Known → List (List Frame) → Type 0
Stood program names held e m k fs ks more = StandsOn program names (is_held held) e (over held m) k fs ks more × Behind program names (is_held held) (under program names (is_held held) k.note.cell ks more) 0 (over held m) k.thread.activations fs

at_poll : (p : Program) (t : Taking) (held : List (Option ℕ)) (e e' : Ends) (m : State) (k : Known) (fs : List Frame) (ks : List Known) (more : List (List Frame)) (names : List (Held × ℕ)) → e ≡ e' → t.p ≡ p → t.names ≡ names → Stood t.p t.names held e m k fs ks more → Stood p names held e' m k fs ks more
at_poll p t held e e' m k fs ks more names ends program same stands =
    subst (λ (g : Ends). Stood p names held g m k fs ks more) ends (subst (λ (q : Program). Stood q names held e m k fs ks more) program (subst (λ (ns : List (Held × ℕ)). Stood t.p ns held e m k fs ks more) same stands))

-- ---- the threads that stay

module _ (p : Program) (d : Data) (limits : Limits) (image : Image) (input : List ℕ) (accepted : IsAccepted p) (leaving : Leaving) (x : Automaton) (u : View) (ready : IsReady p d limits image input x u) (h : Leaves p d leaving x u) (none : u.chains ≡ [])
    (held : List (Option ℕ)) (same_held : (q : ℕ) → Holds (record u { held = held }) q → Holds u q) (chain : Chain) (y : Automaton) (taken : IsTaken h.t held chain y.stack) (lo : y.stack.lo ≡ x.stack.lo) (hi : y.stack.hi ≡ x.stack.hi) (frames : List Frame)
    (has : (f : Frame) → Contains y.stack.exported f → Contains frames f) (only : (f : Frame) → Contains frames f → Contains u.exported f ⊎ Contains y.stack.exported f) where
  abbrev view : View
  view = left_view p d limits image input accepted leaving x u ready h none held chain y.stack taken frames has

  -- the frames of the threads that stay
  abbrev pub rest : List Frame
  rest = joined h.t.below_frames

  all_frames : joined (frames_of h.t) ≡ h.t.frames ++ rest
  all_frames = ap (λ (above : List (List Frame)). joined (above ++ h.t.frames ∷ h.t.below_frames)) (stood_so h.t leaving.wait x.threads.notes x.threads.open x.machine x.stack (suc h.n) h.suspends).alone

  exporting : Exporting h.of.start y.stack h.t.frames
  exporting = record {
    lo = lo ∙ sym h.of.lo;
    hi = hi ∙ sym h.of.hi;
    stay = λ f is. taken.exported.all f (h.of.will.stay f is);
    come = λ f is on. taken.exported.all f (h.of.will.come f is on);
    were = λ f is. h.of.will.were f (taken.exported.only f is);
  }

  framed_rest : Framed y.stack (ends_of x.machine) rest
  framed_rest = framed_laws.top h.of.start y.stack (ends_of x.machine) h.t.frames rest (subst (λ (fs : List Frame). Framed h.of.start (ends_of x.machine) fs) all_frames h.of.framed) exporting

  -- they lie as before, to the same sp
  pub lies_rest : Lies y view (ends_of x.machine) rest
  lies_rest = record {
    framed = framed_rest;
    used = subst (λ (k : ℕ). k ≤ register x.machine registers.Sp + u.frame_bytes) (sym hi) h.of.used;
    away = λ f is elsewhere. h.of.away f (subst (λ (fs : List Frame). Contains fs f) (sym all_frames) (later f is)) (subst (λ (k : ℕ). IsElsewhere k x.stack.hi f) lo (subst (λ (k : ℕ). IsElsewhere y.stack.lo k f) hi elsewhere));
  }
    where
      later : (f : Frame) → Contains rest f → Contains (h.t.frames ++ rest) f
      later f is = contains_late f h.t.frames rest is

  -- the worker has no other leased frames than theirs and the chain's
  leases_all : Leases view (h.t.frames ++ rest)
  leases_all f (inl is) there =
      subst (λ (fs : List Frame). Contains fs f) all_frames
      (⊎_elim (λ was. h.of.leases f (inl was) (same_held (return_place f) there))
      (λ new. ⊎_elim (λ was. h.of.leases f (inl (ready.fits.holds.exported f (h.of.were f was))) (same_held (return_place f) there)) (λ come. in_joined p d limits image input accepted leaving x u ready h f come.0) (h.of.will.were f (taken.exported.only f new))) (only f is))
  leases_all f (inr is) there = subst (λ (fs : List Frame). Contains fs f) all_frames (h.of.leases f (inr is) (same_held (return_place f) there))

  pub leases_rest : Leases view (rest ++ h.t.frames)
  leases_rest f is there = ⊎_elim (λ own. contains_late f rest h.t.frames own) (λ others. contains_early f rest h.t.frames others) (contains_either f h.t.frames rest (leases_all f is there))

  pub apart_rest : (f g : Frame) → Contains rest f → Contains h.t.frames g → Apart f g
  apart_rest f g is own = turned (apart_across h.t.frames rest g f (subst AllApart all_frames h.of.framed.all_apart) own is)
    where
      turned : Apart g f → Apart f g
      turned (inl below) = inr below
      turned (inr above) = inl above

  -- none is left
  pub none_stays : h.t.below ≡ [] → h.t.below_frames ≡ [] → y.machine ≡ x.machine → HasNone y view h.t.frames
  none_stays no_threads no_frames machine =
      let empty : rest ≡ [] = ap joined no_frames in
      record {
        is = no_threads;
        place = subst (λ (pc : ℕ). pc + 4 < 2 ^ 32) (sym (ap (λ m. m.pc) machine)) h.below;
        lies = subst (λ (ends : _). Lies y view ends []) (sym (ap ends_of machine)) (subst (λ (fs : List Frame). Lies y view (ends_of x.machine) fs) empty lies_rest);
        leases = subst (λ (fs : List Frame). Leases view (fs ++ h.t.frames)) empty leases_rest;
      }

  -- the one below goes on, behind its fork
  pub below_stays : (k : Known) (ks : List Known) (fs : List Frame) (more : List (List Frame)) → h.t.below ≡ k ∷ ks → h.t.below_frames ≡ fs ∷ more → GoesOn h.t held k fs ks more x.machine y.machine → HasRegisters y.machine → AreValues y.machine → AreWords (word_in held) → Polls p d y view h.t.frames
  below_stays k ks fs more threads_are frames_are goes has_registers values words =
      let t = h.t in
      let m = x.machine in
      let was : IsOn (ends_of m) (over t.held m) = on_ends t leaving.wait x.threads.notes x.threads.open m x.stack (suc h.n) h.suspends in
      let stands = below_goes_on t held (ends_of m) m y.machine k fs ks more (subst IsAccepted (sym h.of.program) accepted) was has_registers values words goes in
      let on = stands.0.machine in
      let ends : ends_of m ≡ ends_of y.machine = λ i. record { lo = sym on.lo i; hi = sym on.hi i; sp = sym on.sp i; gp = sym on.gp i } in
      let plain = λ (q : Known) (is : Contains (k ∷ ks) q). h.plain q (subst (λ (ts : List Known). Contains ts q) (sym threads_are) is) in
      let rest_is : rest ≡ joined (fs ∷ more) = ap joined frames_are in
      record {
        top = k;
        below = ks;
        is = threads_are;
        frames = fs;
        lower = more;
        at = (plain k (contains_here k ks), inl (at_poll p t held (ends_of m) (ends_of y.machine) y.machine k fs ks more u.names ends h.of.program h.of.names stands));
        plain = λ q is. plain q (contains_later q k ks is);
        lies = subst (λ (e : Ends). Lies y view e (joined (fs ∷ more))) ends (subst (λ (gs : List Frame). Lies y view (ends_of m) gs) rest_is lies_rest);
        leases = subst (λ (gs : List Frame). Leases view (gs ++ h.t.frames)) rest_is leases_rest;
        apart = λ f g is own. apart_rest f g (subst (λ (gs : List Frame). Contains gs f) (sym rest_is) is) own;
      }
