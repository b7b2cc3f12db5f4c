-- The chain of a thread that was taken out, over the view in which it is the only one of the turn: left_carries.
use Rattle.std.proofs.Common.{◌≡◌, ◌⊎◌, inl, inr, ⊎_elim, ℕ, ◌<◌, List, [], ◌∷◌, Option, None, refl, sym, ap, ◌∙◌, subst}
use Rattle.std.specs.List.{Contains}
use Rattle.st_base.specs.declared.chain.Chain.{Chain}
use Rattle.st_base.specs.declared.chain.Frame.{Frame}
use Rattle.st_base.specs.declared.chain.Waiting.{Waiting}
use Rattle.st_base.specs.declared.image.Image.{Image}
use Rattle.st_base.specs.declared.limits.Limits.{Limits}
use Rattle.st_base.specs.declared.thread.Held.{Held}
use Rattle.st_model.specs.declared.program.Program.{Program}
use Rattle.st_model.specs.Accepted.{IsAccepted}
use Rattle.st_model.specs.Memory.{Data}
use Rattle.st_words.proofs.Lists.{contains_case, contains_here, contains_none}
use Rattle.st_words.specs.Moves.{suspended, suspending}
use Rattle.st_words.specs.declared.view.Carried.{Carried}
use Rattle.st_words.specs.declared.view.Known.{Known}
use Rattle.st_words.specs.declared.view.View.{View}
use Rattle.st_stack.specs.Exported.{Exports, IsFrameOn}
use Rattle.st_chain.specs.Chains.{CanGoOn, HasBegun, StandsFor, saved_value}
use Rattle.st_chain.specs.Seen.{joined}
use Rattle.st_chain.specs.Taking.{IsTaken, frames_of}
use Rattle.st_framed.specs.Framed.{AreRising, Framed, IsElsewhere}
use Rattle.st_cargo.specs.Cargo.{HasFrames}
use Rattle.st_phases.specs.declared.automaton.Automaton.{Automaton}
use Rattle.st_phases.specs.declared.phase.Leaving.{Leaving}
use Rattle.st_fits.specs.Laws.{IsReady}
use Rattle.st_fits.specs.Threads.{Carries, Leaves}
use Rattle.st_leaves.proofs.Exporting.{contains_either}
use Rattle.st_leaves.proofs.Parting.{threads_are}
use Rattle.st_leaves.proofs.Taken.{in_joined}
use Rattle.st_leaves.proofs.Unexported.{with_exports}

rising_on : (s : Exports) (at : ℕ) (fs : List Frame) (f : Frame) → AreRising s at fs → Contains fs f → IsFrameOn s.lo s.hi f
rising_on s at [] f rising is = absurd (contains_none f is)
rising_on s at (g ∷ fs) f rising is = ⊎_elim (λ (e : g ≡ f). subst (λ (k : Frame). IsFrameOn s.lo s.hi k) e rising.1) (λ later. rising_on s g.base fs f rising.3 later) (contains_case f g fs is)

-- a frame of the worker's threads lies on its stack or on another
pub on_or_elsewhere : (s : Exports) (ends : _) (frames : List Frame) (f : Frame) → Framed s ends frames → Contains frames f → IsFrameOn s.lo s.hi f ⊎ IsElsewhere s.lo s.hi f
on_or_elsewhere s ends frames f framed is =
    ⊎_elim (λ young. inl (rising_on s ends.sp framed.young f framed.rising young)) (λ old. ⊎_elim (λ was. inl (framed.stack.on f was)) (λ elsewhere. inr elsewhere) (framed.others f old))
    (contains_either f framed.young framed.old (subst (λ (fs : List Frame). Contains fs f) framed.parts is))

module _ (p : Program) (d : Data) (limits : Limits) (image : Image) (input : List ℕ) (accepted : IsAccepted p) (leaving : Leaving) (x : Automaton) (u : View) (ready : IsReady p d limits image input x u) (h : Leaves p d leaving x u) (none : u.chains ≡ [])
    (held : List (Option ℕ)) (chain : Chain) (s : Exports) (taken : IsTaken h.t held chain s) (frames : List Frame) (has : (f : Frame) → Contains s.exported f → Contains frames f) where
  -- over the words that are held then
  abbrev pub left_view : View
  left_view = with_exports frames (suspending h.t.taken h.t.below leaving.wait (record u { held = held }))

  abbrev pub left_chain : Carried
  left_chain = suspended h.t.taken leaving.wait

  leased_so : (f : Frame) → Contains h.t.frames f → Contains frames f ⊎ Contains u.away f
  leased_so f is =
      ⊎_elim (λ on. inl (has f (taken.exported.all f (h.of.will.come f is on)))) (λ elsewhere. inr (h.of.away f (in_joined p d limits image input accepted leaving x u ready h f is) (other f elsewhere)))
      (on_or_elsewhere h.of.start _ (joined (frames_of h.t)) f h.of.framed (in_joined p d limits image input accepted leaving x u ready h f is))
    where
      other : (f : Frame) → IsElsewhere h.of.start.lo h.of.start.hi f → IsElsewhere x.stack.lo x.stack.hi f
      other f elsewhere = subst (λ (k : ℕ). IsElsewhere k x.stack.hi f) h.of.lo (subst (λ (k : ℕ). IsElsewhere h.of.start.lo k f) h.of.hi elsewhere)

  wait_is : chain.wait ≡ leaving.wait
  wait_is = taken.is_wait ∙ h.wait

  stands_so : StandsFor p u.names held chain.wait chain.pc chain.fp (saved_value chain.saved) h.t.taken.thread h.t.frames
  stands_so =
      subst (λ (program : Program). StandsFor program u.names held chain.wait chain.pc chain.fp (saved_value chain.saved) h.t.taken.thread h.t.frames) h.of.program
      (subst (λ (ns : List (Held × ℕ)). StandsFor h.t.p ns held chain.wait chain.pc chain.fp (saved_value chain.saved) h.t.taken.thread h.t.frames) h.of.names taken.stands)

  top_there : Contains u.threads h.t.taken
  top_there = subst (λ (ts : List Known). Contains ts h.t.taken) (sym (threads_are p d leaving x u h)) (contains_here h.t.taken h.t.below)

  has_frames : HasFrames p d left_view chain left_chain h.t.frames
  has_frames = record {
    there = contains_here left_chain u.chains;
    single = λ y is same. ⊎_elim (λ (e : left_chain ≡ y). sym e) (λ later. absurd (contains_none y (subst (λ (xs : List Carried). Contains xs y) none later))) (contains_case y left_chain u.chains is);
    note = sym taken.is_note;
    cell = ap (λ n. n.cell) taken.is_note ∙ sym taken.is_cell;
    wait = sym wait_is;
    stands = inr (stands_so, subst (λ (w : Waiting). CanGoOn p w h.t.taken.thread) (sym wait_is) h.can);
    begun = subst (λ (w : Waiting). HasBegun w h.t.taken.begun) (sym wait_is) h.begun;
    leased = leased_so;
    own = λ f is home. ⊎_elim (λ there. there) (λ away. absurd (ready.behind.foreign f away home)) (leased_so f is);
    knows = λ name is thread. ready.tidy.names.knows name is (inl (h.t.taken, top_there, thread));
  }

  pub left_carries : Carries p d left_view chain None left_chain h.t.frames
  left_carries = record {
    only = ap (λ (xs : List Carried). left_chain ∷ xs) none;
    has = has_frames;
    stands = refl;
    below = subst (λ (c : ℕ). c < u.cells) (sym taken.is_cell) (ready.tidy.numbers.below h.t.taken.note.cell (inl (h.t.taken, top_there, refl)));
  }
