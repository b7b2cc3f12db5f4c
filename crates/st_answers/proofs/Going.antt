-- A step of giving the bottom thread away that isn't the last leaves a worker that fits: more_fits. Read IsBase (the view behind the step, before the worker's frames are exported), gives_on and more_fits.
use Rattle.std.proofs.Common.{◌≡◌, ◌⊎◌, inl, inr, ⊎_elim, ℕ, suc, ◌+◌, ◌≤◌, true, false, List, [], ◌∷◌, ◌++◌, length, Option, Some, refl, sym, ap, ◌∙◌, subst}
use Rattle.std.specs.List.{Contains}
use Rattle.std.proofs.lemmas.List.Elements.{Contains-append_left, Contains-append_right}
use Rattle.st_base.specs.declared.chain.Frame.{Frame}
use Rattle.st_base.specs.declared.image.Image.{Image}
use Rattle.st_base.specs.declared.limits.Limits.{Limits}
use Rattle.st_words.specs.declared.view.View.{View}
use Rattle.st_words.specs.Steps.{Holds as HoldsWord, IsLeased, kept, return_place}
use Rattle.st_model.specs.declared.program.Program.{Program}
use Rattle.st_model.specs.Memory.{Data}
use Rattle.st_base.specs.declared.reg.Reg.TheVariants as registers
use Rattle.st_step.specs.Moves.{register}
use Rattle.st_stack.specs.Exported.{Exports, IsFrameOn}
use Rattle.st_chain.specs.Logical.{Threads}
use Rattle.st_chain.specs.declared.walk.Walk.{Walk}
use Rattle.st_chain.specs.Seen.{joined}
use Rattle.st_chain.specs.Taking.{Taking, Gives, GivingAbove, GivingBottom, over_words, frames_of}
use Rattle.st_framed.specs.Framed.{IsElsewhere}
use Rattle.st_phases.specs.declared.automaton.Automaton.{Automaton}
use Rattle.st_phases.specs.declared.phase.Phase.{Phase}
use Rattle.st_phases.specs.declared.phase.Phase.TheVariants as phases
use Rattle.st_fits.specs.Fits.{ByPhase, FitsIn, is_taking}
use Rattle.st_fits.specs.Laws.{IsReady}
use Rattle.st_fits.specs.Threads.{GivesOut}
use Rattle.st_kept.proofs.Keeping.{same_for}
use Rattle.st_answers.proofs.Polling.{by_in}

-- these words are held where those are
abbrev pub HoldsNoMore : List (Option ℕ) → List (Option ℕ) → Type 0
HoldsNoMore held held' = (q n : ℕ) → kept held' q ≡ Some n → (m : ℕ) × (kept held q ≡ Some m)

-- the frames of one thread among those of all
pub joined_middle : (fss gss : List (List Frame)) (fs : List Frame) (f : Frame) → Contains fs f → Contains (joined (fss ++ fs ∷ gss)) f
joined_middle [] gss fs f there = Contains-append_left fs (joined gss) f there
joined_middle (gs ∷ fss) gss fs f there = Contains-append_right gs (joined (fss ++ fs ∷ gss)) f (joined_middle fss gss fs f there)

-- the walk goes on over these words
abbrev pub WalkGoesOn : Taking → List (Option ℕ) → Automaton → Walk → Exports → ℕ → Type 0
WalkGoesOn t held x walk s n = GivingAbove (over_words held t) x.threads.notes walk x.machine s n ⊎ GivingBottom (over_words held t) x.threads.notes walk x.machine s n

-- no frame is exported but in the end
exports_within : (t : Taking) (held : List (Option ℕ)) (x : Automaton) (walk : Walk) (s : Exports) (n : ℕ) → WalkGoesOn t held x walk s n → (f : Frame) → Contains s.exported f → Contains t.exported f
exports_within t held x walk s n (inl above) f there = above.exports.stay f there
exports_within t held x walk s n (inr bottom) f there = bottom.exports.stay f there

-- what is left of the stack and the threads
pub record Left (x : Automaton) (s : Exports) (threads : Threads) (walk : Walk) : Type 0 where
  pub lo : s.lo ≡ x.stack.lo
  pub hi : s.hi ≡ x.stack.hi
  pub stay : (f : Frame) → Contains x.stack.exported f → Contains s.exported f
  pub notes : threads.notes ≡ x.threads.notes
  pub room : threads.room ≡ x.threads.room
  pub open_is : threads.open ≡ Some walk

abbrev pub with_left : Exports → Threads → Automaton → Automaton
with_left s threads x = record x { stack = s; threads = threads }

abbrev pub with_words : List (Option ℕ) → List Frame → View → View
with_words held exported u = record u { held = held; exported = exported }

module _ (p : Program) (d : Data) (x : Automaton) (u : View) (g : GivesOut p d x u) (xe : (f : Frame) → Contains x.stack.exported f → Contains u.exported f) where
  -- a frame that is exported after the step was so, or is one of the thread that is given
  pub exported_from : (held : List (Option ℕ)) (walk : Walk) (s : Exports) (n : ℕ) → WalkGoesOn g.t held x walk s n → (f : Frame) → Contains s.exported f → Contains x.stack.exported f ⊎ (Contains g.t.frames f × IsFrameOn x.stack.lo x.stack.hi f)
  exported_from held walk s n goes f there =
      ⊎_elim (λ was. inl (g.of.were f was)) (λ (mine : Contains g.t.frames f × IsFrameOn g.of.start.lo g.of.start.hi f). inr (mine.0, subst (λ (lo : ℕ). IsFrameOn lo x.stack.hi f) g.of.lo (subst (λ (hi : ℕ). IsFrameOn g.of.start.lo hi f) g.of.hi mine.1)))
      (g.of.will.were f (exports_within g.t held x walk s n goes f there))

  pub gives_on : (held : List (Option ℕ)) (exported : List Frame) (s : Exports) (threads : Threads) (walk : Walk) (n : ℕ) → HoldsNoMore u.held held → ((f : Frame) → Contains exported f → Contains s.exported f) → Left x s threads walk → WalkGoesOn g.t held x walk s (suc n)
      → GivesOut p d (with_left s threads x) (with_words held exported u)
  gives_on held exported s threads walk n holds among left goes = record {
    t = over_words held g.t;
    n = n;
    of = record {
      program = g.of.program;
      source = g.of.source;
      names = g.of.names;
      held = refl;
      threads = g.of.threads;
      start = g.of.start;
      lo = g.of.lo ∙ sym left.lo;
      hi = g.of.hi ∙ sym left.hi;
      framed = g.of.framed;
      will = g.of.will;
      were = λ f there. left.stay f (g.of.were f there);
      used = subst (λ (n : ℕ). n ≤ register x.machine registers.Sp + u.frame_bytes) (sym left.hi) g.of.used;
      away = λ f there away. g.of.away f there (subst (λ (lo : ℕ). IsElsewhere lo x.stack.hi f) left.lo (subst (λ (hi : ℕ). IsElsewhere s.lo hi f) left.hi away));
      leases = λ f leased word. leases f leased (holds (return_place f) word.0 word.1);
    };
    gives = subst (λ (o : Option Walk). Gives (over_words held g.t) threads.notes o x.machine s (suc n)) (sym left.open_is) (subst (λ ns. GivingAbove (over_words held g.t) ns walk x.machine s (suc n) ⊎ GivingBottom (over_words held g.t) ns walk x.machine s (suc n)) (sym left.notes) goes);
    plain = g.plain;
    first = g.first;
    top = g.top;
    rest = g.rest;
    is_top = g.is_top;
    frames = g.frames;
    lower = g.lower;
    are_frames = g.are_frames;
    polls = g.polls;
  }
    where
      leases : (f : Frame) → IsLeased (with_words held exported u) f → HoldsWord u (return_place f) → Contains (joined (frames_of g.t)) f
      leases f (inl there) word = ⊎_elim (λ was. g.of.leases f (inl (xe f was)) word) (λ (mine : Contains g.t.frames f × IsFrameOn x.stack.lo x.stack.hi f). joined_middle g.t.above_frames g.t.below_frames g.t.frames f mine.0) (exported_from held walk s (suc n) goes f (among f there))
      leases f (inr there) word = g.of.leases f (inr there) word

module _ (p : Program) (d : Data) (limits : Limits) (image : Image) (input : List ℕ) (x : Automaton) (u : View) (ready : IsReady p d limits image input x u) (asker : ℕ) (e : x.phase ≡ phases.Giving asker) where
  out : GivesOut p d x u
  out = (by_in p d limits image input x u ready (phases.Giving asker) e).0

  -- the words are those of as many places, and the frames are those of the stack
  pub more_fits : (held : List (Option ℕ)) (exported : List Frame) (s : Exports) (threads : Threads) (walk : Walk) (n : ℕ) → length held ≡ length u.held → HoldsNoMore u.held held → ((f : Frame) → Contains exported f → Contains s.exported f) → ((f : Frame) → Contains s.exported f → Contains exported f) → Left x s threads walk
      → WalkGoesOn (by_in p d limits image input x u ready (phases.Giving asker) e).0.t held x walk s (suc n) → FitsIn p d limits image input (with_left s threads x) (with_words held exported u)
  more_fits held exported s threads walk n words holds_no_more among all left goes =
      let b = by_in p d limits image input x u ready (phases.Giving asker) e in
      let y : Automaton = with_left s threads x in
      let w : View = with_words held exported u in
      let h = ready.fits.holds in
      record {
        is_for = same_for p d limits image input x y ready.fits.is_for (record { number = refl; code = refl; length_is = refl; steps = refl; cells = refl; room = left.room; ready_room = refl; lo = left.lo; hi = left.hi; low = refl; high = refl });
        holds = record {
          number = h.number;
          below = h.below;
          workers = h.workers;
          few_workers = h.few_workers;
          cells = h.cells;
          few_cells = h.few_cells;
          each = h.each;
          words = words ∙ h.words;
          notes = left.notes ∙ h.notes;
          items = h.items;
          frame_bytes = h.frame_bytes;
          few_items = h.few_items;
          few_bytes = h.few_bytes;
          ready_once = h.ready_once;
          ready = h.ready;
          all_ready = h.all_ready;
          asked = h.asked;
          asked_other = h.asked_other;
          exported = all;
          all_exported = among;
          last = h.last;
          not_open = λ none. absurd (taking (sym (ap is_taking e) ∙ none));
          registers = h.registers;
          values = h.values;
        };
        by = subst (λ (φ : Phase). ByPhase p d limits φ y w) (sym e) (
          gives_on p d x u b.0 h.exported held exported s threads walk n holds_no_more among left goes,
          record { chains = b.1.chains; hand = b.1.hand; share = b.1.share; drawn = b.1.drawn; child = b.1.child; answering = b.1.answering; given = b.1.given; root = b.1.root },
          b.2,
        );
      }
    where
      taking : true ≡ false → ⊥
      taking never = cc
