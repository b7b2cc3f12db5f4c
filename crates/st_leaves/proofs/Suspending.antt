-- A thread is taken out, a step at a time. Read suspending_may (each step that this may need may be asked) and more_fits (the worker fits its board's view behind each step but the last, if the frames that it had exported
-- stay so).
use Rattle.std.proofs.Common.{◌≡◌, ◌≢◌, ℕ, suc, Bool, true, List, [], ◌∷◌, Option, Some, refl, sym, ap, ◌∙◌, subst, arith}
use Rattle.std.specs.List.{Contains}
use Rattle.st_base.specs.declared.chain.Frame.{Frame}
use Rattle.st_base.specs.declared.image.Image.{Image}
use Rattle.st_base.specs.declared.limits.Limits.{Limits}
use Rattle.st_base.specs.declared.thread.Activation.{Activation}
use Rattle.st_model.specs.declared.code.Layout.TheVariants.{Postprocessed}
use Rattle.st_model.specs.declared.program.Program.{Program}
use Rattle.st_model.specs.Accepted.{IsAccepted}
use Rattle.st_model.specs.Layout.{IsCodeOf}
use Rattle.st_model.specs.Memory.{Data, data_of}
use Rattle.st_words.proofs.Lists.{contains_here, contains_later}
use Rattle.st_words.proofs.Safe.{write}
use Rattle.st_words.specs.Steps.{Holds, StackLoad, StackStore, kept, return_place}
use Rattle.st_words.specs.declared.view.View.{View}
use Rattle.st_step.specs.Runs.{return_word}
use Rattle.st_chain.specs.Taking.{MaySuspend, beneath, bottom_word}
use Rattle.st_chain.specs.Walk.{FromNewest, is_held, named_by, word_in}
use Rattle.st_items.specs.Body.{Context}
use Rattle.st_kept.proofs.Laid.{newest_laid, return_inside}
use Rattle.st_kept.proofs.Stepping.{no_item_asks}
use Rattle.st_run.specs.Meanings.{meaning}
use Rattle.st_phases.specs.declared.automaton.Automaton.{Automaton}
use Rattle.st_phases.specs.declared.phase.Leaving.{Leaving}
use Rattle.st_phases.specs.declared.phase.Phase.TheVariants as phases
use Rattle.st_fits.specs.Laws.{IsReady, MayAsk, MayLaw}
use Rattle.st_fits.specs.Threads.{Leaves}
use Rattle.st_leaves.proofs.Left.{by_of}
use Rattle.st_leaves.proofs.Living.{holds_by, return_same}
use Rattle.st_leaves.proofs.Taken.{StoodSo, stood_so}

-- ---- the word that cuts

-- it is the return word of one of the frames
bottom_of : (fs : List Frame) → fs ≢ [] → (g : Frame) × Contains fs g × (bottom_word fs ≡ return_word g.base)
bottom_of [] some = absurd (some refl)
bottom_of (f ∷ []) some = (f, contains_here f [], refl)
bottom_of (f ∷ g ∷ fs) some =
    let below = bottom_of (g ∷ fs) (λ e. let no : ⊥ = cc in no) in
    (below.0, contains_later below.0 f (g ∷ fs) below.1, below.2)

some_frame : (p : Program) (names : _) (holds : ℕ → Bool) (end : Context) (ahead pc fp : ℕ) (word value : ℕ → ℕ) (acts : List Activation) (fs : List Frame) → FromNewest p names holds end ahead pc fp word value acts fs → fs ≢ []
some_frame p names holds end ahead pc fp word value (a ∷ older) (f ∷ fs) newest e = let no : ⊥ = cc in no
some_frame p names holds end ahead pc fp word value [] fs newest e = absurd newest
some_frame p names holds end ahead pc fp word value (a ∷ older) [] newest e = absurd newest

module _ (p : Program) (d : Data) (limits : Limits) (image : Image) (input : List ℕ) (accepted : IsAccepted p) (leaving : Leaving) (x : Automaton) (u : View) (ready : IsReady p d limits image input x u) (h : Leaves p d leaving x u) where
  stood : StoodSo h.t
  stood = stood_so h.t leaving.wait x.threads.notes x.threads.open x.machine x.stack (suc h.n) h.suspends

  -- that word is held
  cut_held : Holds u (bottom_word h.t.frames)
  cut_held =
      let t = h.t in
      let some = some_frame t.p (named_by t.names) (is_held t.held) (beneath t t.taken.note.cell t.below t.below_frames) stood.ahead stood.pc stood.fp (word_in t.held) stood.value t.taken.thread.activations t.frames stood.newest in
      let (g, is, same) = bottom_of t.frames some in
      let laid = newest_laid t.p (named_by t.names) (is_held t.held) (word_in t.held) (subst IsAccepted (sym h.of.program) accepted) (beneath t t.taken.note.cell t.below t.below_frames) t.taken.thread.activations t.frames stood.ahead stood.pc stood.fp stood.value g stood.newest is in
      let there = holds_by t.held (return_place g) (laid.held (return_place g) (return_inside g laid.whole)) in
      subst (λ (held : List (Option ℕ)). (n : ℕ) × (kept held (bottom_word t.frames) ≡ Some n)) h.of.held (subst (λ (q : ℕ). (n : ℕ) × (kept t.held q ≡ Some n)) (sym (same ∙ return_same g laid.whole)) there)

  pub code_of_taking : IsCodeOf Postprocessed h.t.p image
  code_of_taking = subst (λ (program : Program). IsCodeOf Postprocessed program image) (sym h.of.program) ready.fits.is_for.code

  pub data_of_taking : h.t.d ≡ data_of image.rodata []
  data_of_taking = h.of.source ∙ ap (λ (e : Data). data_of e.rodata []) ready.fits.is_for.source

  pub asks_load : (q : ℕ) → is_held h.t.held q ≡ true → MayAsk p d limits u (StackLoad q)
  asks_load q is =
      no_item_asks p d limits u (StackLoad q) tt
      (record { can = subst (λ (held : List (Option ℕ)). (n : ℕ) × (kept held q ≡ Some n)) h.of.held (holds_by h.t.held q is); careful = record { writes = tt; puts = tt; takes = tt; stores = tt; changes = tt; lowers = tt; draws = tt; stops = tt } })

  pub asks_cut : MayAsk p d limits u (StackStore (bottom_word h.t.frames) 0x30)
  asks_cut = no_item_asks p d limits u (StackStore (bottom_word h.t.frames) 0x30) tt (write (meaning p d limits) u (bottom_word h.t.frames) 0x30 cut_held (omega arith) (λ e. absurd (let no : ⊥ = omega (arith, e) in no)))

  pub may_suspend : MaySuspend (λ s. MayAsk p d limits u s) image (data_of image.rodata []) leaving.wait x.threads.notes x.threads.open x.machine x.stack
  may_suspend = record { t = h.t; code = code_of_taking; data_is = data_of_taking; n = h.n; suspends = h.suspends; loads = asks_load; cut = λ some. asks_cut }

pub suspending_may : (p : Program) (d : Data) (limits : Limits) (image : Image) (input : List ℕ) → IsAccepted p → (leaving : Leaving) → MayLaw p d limits image input (phases.Suspending leaving)
suspending_may p d limits image input accepted leaving x u is ready = may_suspend p d limits image input accepted leaving x u ready (by_of p d limits image input accepted x u (phases.Suspending leaving) is ready).0
