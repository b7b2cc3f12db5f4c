-- The threads that stay where the bottom one was given away rest: staying_rests.
use Rattle.std.proofs.Common.{◌≡◌, inl, inr, ⊎_elim, ℕ, ◌+◌, ◌≤◌, List, [], ◌∷◌, ◌++◌, Option, refl, sym, ap, ◌∙◌, subst, append_assoc, append-nil}
use Rattle.std.specs.List.{Contains}
use Rattle.std.proofs.lemmas.List.Elements.{Contains-append_left, Contains-append_right}
use Rattle.st_base.specs.declared.chain.Chain.{Chain}
use Rattle.st_base.specs.declared.chain.Frame.{Frame}
use Rattle.st_base.specs.declared.reg.Reg.TheVariants as registers
use Rattle.st_words.specs.declared.view.Carried.{Carried}
use Rattle.st_words.specs.declared.view.Known.{Known}
use Rattle.st_words.specs.declared.view.View.{View}
use Rattle.st_words.specs.Steps.{Holds, IsLeased, return_place}
use Rattle.st_words.proofs.Lists.{contains_here, contains_later}
use Rattle.st_model.specs.declared.program.Program.{Program}
use Rattle.st_model.specs.Accepted.{IsAccepted}
use Rattle.st_model.specs.Memory.{Data}
use Rattle.st_step.specs.Moves.{register}
use Rattle.st_step.specs.Runs.{AreWords}
use Rattle.st_stack.specs.Exported.{Exports, IsFrameOn}
use Rattle.st_chain.specs.Copying.{over}
use Rattle.st_chain.specs.Logical.{Threads}
use Rattle.st_chain.specs.Seen.{joined}
use Rattle.st_chain.specs.Taking.{IsTaken, TopStands, frames_of}
use Rattle.st_chain.specs.Walk.{is_held, word_in}
use Rattle.st_framed.specs.Framed.{Framed, Exporting, IsElsewhere}
use Rattle.st_framed.proofs.Leaving.{bottom_leaves}
use Rattle.st_framed.proofs.Lists.{apart_across}
use Rattle.st_moving.specs.Moving.{AtPoll}
use Rattle.st_moving.proofs.Polling.{all_poll}
use Rattle.st_phases.specs.declared.automaton.Automaton.{Automaton}
use Rattle.st_phases.specs.declared.phase.Phase.{Phase}
use Rattle.st_phases.specs.Automaton.{with_phase}
use Rattle.st_fits.specs.Threads.{GivesOut, Polls, IsPlain, ends_of}
use Rattle.st_answers.proofs.Going.{with_left}

-- the threads above alone, and the chain of the bottom one
abbrev pub with_given : List Known → List Carried → List Frame → View → View
with_given above chains exported u = record u { threads = above; chains = chains; exported = exported }

-- the first ones of two lists
first_known : (k t : Known) (ks ts : List Known) → k ∷ ks ≡ t ∷ ts → k ≡ t
first_known k t ks ts e = cc

first_frames : (f g : List Frame) (fs gs : List (List Frame)) → f ∷ fs ≡ g ∷ gs → f ≡ g
first_frames f g fs gs e = cc

joined_last : (fss : List (List Frame)) (fs : List Frame) → joined (fss ++ fs ∷ []) ≡ joined fss ++ fs
joined_last [] fs = append-nil fs
joined_last (gs ∷ fss) fs = ap (λ (l : List Frame). gs ++ l) (joined_last fss fs) ∙ sym (append_assoc gs (joined fss) fs)

module _ (p : Program) (d : Data) (accepted : IsAccepted p) (x : Automaton) (u : View) (g : GivesOut p d x u) (s : Exports) (threads : Threads) (φ : Phase) (chain : Chain) (chains : List Carried) (exported : List Frame) (none : g.t.below ≡ []) (no_frames : g.t.below_frames ≡ []) (lo : s.lo ≡ x.stack.lo) (hi : s.hi ≡ x.stack.hi) (taken : IsTaken g.t g.t.held chain s) (among : (f : Frame) → Contains exported f → Contains s.exported f) (xe : (f : Frame) → Contains x.stack.exported f → Contains u.exported f) (words : AreWords (word_in u.held)) where
  abbrev y : Automaton
  y = with_phase φ (with_left s threads x)

  abbrev w : View
  w = with_given g.t.above chains exported u

  frames_are : joined (frames_of g.t) ≡ joined g.t.above_frames ++ g.t.frames
  frames_are = ap (λ (fss : List (List Frame)). joined (g.t.above_frames ++ g.t.frames ∷ fss)) no_frames ∙ joined_last g.t.above_frames g.t.frames

  exporting : Exporting g.of.start s g.t.frames
  exporting = record {
    lo = lo ∙ sym g.of.lo;
    hi = hi ∙ sym g.of.hi;
    stay = λ f there. taken.exported.all f (g.of.will.stay f there);
    come = λ f there on. taken.exported.all f (g.of.will.come f there on);
    were = λ f there. g.of.will.were f (taken.exported.only f there);
  }

  all_framed : Framed g.of.start (ends_of x.machine) (joined g.t.above_frames ++ g.t.frames)
  all_framed = subst (λ (fs : List Frame). Framed g.of.start (ends_of x.machine) fs) frames_are g.of.framed

  framed : Framed s (ends_of x.machine) (joined g.t.above_frames)
  framed = bottom_leaves g.of.start s (ends_of x.machine) (joined g.t.above_frames) g.t.frames all_framed exporting

  in_all : (f : Frame) → Contains (joined g.t.above_frames) f → Contains (joined (frames_of g.t)) f
  in_all f there = subst (λ (fs : List Frame). Contains fs f) (sym frames_are) (Contains-append_left (joined g.t.above_frames) g.t.frames f there)

  leases : (f : Frame) → IsLeased w f → Holds w (return_place f) → Contains (joined g.t.above_frames ++ g.t.frames) f
  leases f (inl there) held = ⊎_elim (λ was. subst (λ (fs : List Frame). Contains fs f) frames_are (g.of.leases f (inl (xe f (g.of.were f was))) held)) (λ (mine : Contains g.t.frames f × IsFrameOn g.of.start.lo g.of.start.hi f). Contains-append_right (joined g.t.above_frames) g.t.frames f mine.0)
      (g.of.will.were f (taken.exported.only f (among f there)))
  leases f (inr there) held = subst (λ (fs : List Frame). Contains fs f) frames_are (g.of.leases f (inr there) held)

  is_plain : (k : Known) → Contains g.t.above k → IsPlain k
  is_plain k there = g.plain k (subst (λ (ts : List Known). Contains ts k) g.of.threads (Contains-append_left g.t.above (g.t.taken ∷ g.t.below) k there))

  polls_by : (k : Known) (ks : List Known) (fs : List Frame) (fss : List (List Frame)) → g.t.above ≡ k ∷ ks → g.t.above_frames ≡ fs ∷ fss → TopStands p u.names u.held x.machine (k ∷ ks) (fs ∷ fss) → Polls p d y w g.t.frames
  polls_by k ks fs fss above above_frames stands =
      let same : k ≡ g.top = first_known k g.top (ks ++ g.t.taken ∷ g.t.below) g.rest (ap (λ (us : List Known). us ++ g.t.taken ∷ g.t.below) (sym above) ∙ g.is_top) in
      let same_frames : fs ≡ g.frames = first_frames fs g.frames (fss ++ g.t.frames ∷ g.t.below_frames) g.lower (ap (λ (gss : List (List Frame)). gss ++ g.t.frames ∷ g.t.below_frames) (sym above_frames) ∙ g.are_frames) in
      let was : AtPoll p u.names (is_held g.first) (ends_of x.machine) (over g.first x.machine) k fs g.rest g.lower = subst (λ (t : Known). AtPoll p u.names (is_held g.first) (ends_of x.machine) (over g.first x.machine) t fs g.rest g.lower) (sym same) (subst (λ (hs : List Frame). AtPoll p u.names (is_held g.first) (ends_of x.machine) (over g.first x.machine) g.top hs g.rest g.lower) (sym same_frames) g.polls) in
      record {
        top = k;
        below = ks;
        is = above;
        frames = fs;
        lower = fss;
        at = (is_plain k (subst (λ (us : List Known). Contains us k) (sym above) (contains_here k ks)), (all_poll p accepted).stays u.names g.first u.held (ends_of x.machine) x.machine k fs g.rest ks g.lower fss words was stands);
        plain = λ t there. is_plain t (subst (λ (us : List Known). Contains us t) (sym above) (contains_later t k ks there));
        lies = record {
          framed = subst (λ (gss : List (List Frame)). Framed s (ends_of x.machine) (joined gss)) above_frames framed;
          used = subst (λ (n : ℕ). n ≤ register x.machine registers.Sp + u.frame_bytes) (sym hi) g.of.used;
          away = λ f there away. g.of.away f (in_all f (subst (λ (gss : List (List Frame)). Contains (joined gss) f) (sym above_frames) there)) (subst (λ (l : ℕ). IsElsewhere l x.stack.hi f) lo (subst (λ (h : ℕ). IsElsewhere s.lo h f) hi away));
        };
        leases = subst (λ (gss : List (List Frame)). (f : Frame) → IsLeased w f → Holds w (return_place f) → Contains (joined gss ++ g.t.frames) f) above_frames leases;
        apart = λ f h there other. apart_across (joined g.t.above_frames) g.t.frames f h all_framed.all_apart (subst (λ (gss : List (List Frame)). Contains (joined gss) f) (sym above_frames) there) other;
      }

  by_lists : (us : List Known) (fss : List (List Frame)) → g.t.above ≡ us → g.t.above_frames ≡ fss → TopStands p u.names u.held x.machine us fss → Polls p d y w g.t.frames
  by_lists [] fss above above_frames stands = absurd stands
  by_lists (k ∷ ks) [] above above_frames stands = absurd stands
  by_lists (k ∷ ks) (fs ∷ fss) above above_frames stands = polls_by k ks fs fss above above_frames stands

  pub staying_rests : TopStands g.t.p g.t.names g.t.held x.machine g.t.above g.t.above_frames → Polls p d y w g.t.frames
  staying_rests stands =
      by_lists g.t.above g.t.above_frames refl refl
      (subst (λ (q : Program). TopStands q u.names u.held x.machine g.t.above g.t.above_frames) g.of.program
      (subst (λ ns. TopStands g.t.p ns u.held x.machine g.t.above g.t.above_frames) g.of.names (subst (λ (h : List (Option ℕ)). TopStands g.t.p g.t.names h x.machine g.t.above g.t.above_frames) g.of.held stands)))
