-- The bottom thread is taken out: what a step of that may ask. Read may_give; the word that cuts the thread off is one of a frame that stays (cut_held).
use Rattle.std.proofs.Common.{◌≡◌, ◌≢◌, inl, inr, ⊎_elim, ℕ, suc, ◌+◌, ◌≤◌, Bool, true, List, [], ◌∷◌, ◌++◌, length, Option, Some, None, refl, sym, ap, ◌∙◌, subst, arith}
use Rattle.std.specs.List.{Contains}
use Rattle.std.proofs.lemmas.List.Elements.{Contains-append_left, Contains-append_right, Contains-append_cases}
use Rattle.st_base.specs.declared.chain.Frame.{Frame}
use Rattle.st_base.specs.declared.chain.Note.{Note}
use Rattle.st_base.specs.declared.image.Image.{Image}
use Rattle.st_base.specs.declared.limits.Limits.{Limits}
use Rattle.st_base.specs.declared.thread.Activation.{Activation}
use Rattle.st_base.specs.declared.thread.ActivationKind.{ActivationKind}
use Rattle.st_base.specs.declared.thread.ActivationKind.TheVariants.{Forked}
use Rattle.st_base.specs.declared.thread.Held.{Held}
use Rattle.st_words.specs.declared.view.Known.{Known}
use Rattle.st_words.specs.declared.view.View.{View}
use Rattle.st_words.specs.Steps.{StackLoad, StackStore, return_place}
use Rattle.st_words.proofs.Lists.{contains_here, contains_later, contains_none}
use Rattle.st_words.proofs.Safe.{write}
use Rattle.st_model.specs.declared.code.Layout.TheVariants.{Postprocessed}
use Rattle.st_model.specs.declared.program.Program.{Program}
use Rattle.st_model.specs.Accepted.{IsAccepted}
use Rattle.st_model.specs.Effect.{File}
use Rattle.st_model.specs.Layout.{IsCodeOf}
use Rattle.st_model.specs.Memory.{Data, data_of}
use Rattle.st_step.specs.declared.state.State.{State}
use Rattle.st_step.specs.Frames.{Naming, value_in}
use Rattle.st_step.specs.Moves.{register}
use Rattle.st_step.specs.Runs.{return_word}
use Rattle.st_base.specs.declared.reg.Reg.TheVariants as registers
use Rattle.st_stack.specs.Exported.{Exports}
use Rattle.st_items.specs.Body.{Context, Ends}
use Rattle.st_items.specs.Code.{IsSized}
use Rattle.st_items.proofs.Addresses.{place_bounds}
use Rattle.st_cargo.proofs.Words.{held_number}
use Rattle.st_chain.specs.declared.walk.Walk.{Walk}
use Rattle.st_chain.specs.Copying.{over}
use Rattle.st_chain.specs.Seen.{joined}
use Rattle.st_chain.specs.Taking.{Taking, TopStands, Gives, MayGive, threads_of, frames_of, cut_word, bottom_word}
use Rattle.st_chain.specs.Threads.{Lower}
use Rattle.st_chain.specs.Walk.{FromNewest, is_held, named_by, word_in}
use Rattle.st_standing.specs.Standing.{under}
use Rattle.st_moving.specs.Moving.{AtPoll}
use Rattle.st_run.specs.Meanings.{meaning}
use Rattle.st_phases.specs.declared.automaton.Automaton.{Automaton}
use Rattle.st_phases.specs.declared.phase.Phase.TheVariants as phases
use Rattle.st_fits.specs.Laws.{IsReady, MayAsk}
use Rattle.st_kept.proofs.Laid.{IsLaid, return_inside}
use Rattle.st_kept.proofs.Stepping.{no_item_asks}
use Rattle.st_answers.proofs.Alive.{top_long, top_laid}
use Rattle.st_answers.proofs.Polling.{by_in}

-- ---- where the machine is

newest_low : (p : Program) (names : Naming) (holds : ℕ → Bool) (end : Context) (pc fp : ℕ) (word value : ℕ → ℕ) (acts : List Activation) (fs : List Frame) → IsSized Postprocessed p → FromNewest p names holds end 0 pc fp word value acts fs → 0x10000 ≤ pc
newest_low p names holds end pc fp word value (a ∷ older) (f ∷ fs) size (function, is) =
    let low = (place_bounds Postprocessed p a.function function a.next size is.here).0 in
    let at = is.at in
    omega (arith, at, low)
newest_low p names holds end pc fp word value [] fs size newest = absurd newest
newest_low p names holds end pc fp word value (a ∷ older) [] size newest = absurd newest

-- within the code
poll_low : (p : Program) (names : List (Held × ℕ)) (held : List (Option ℕ)) (ends : Ends) (m : State) (k : Known) (fs : List Frame) (ks : List Known) (rest : List (List Frame)) → IsSized Postprocessed p → AtPoll p names (is_held held) ends (over held m) k fs ks rest → 0x10000 ≤ m.pc
poll_low p names held ends m k fs ks rest size (inl (on, newest)) = newest_low p _ _ _ m.pc _ _ _ k.thread.activations fs size newest
poll_low p names held ends m k fs ks rest size (inr (none, forked)) =
    let b = forked.behind in
    let low = (place_bounds Postprocessed p b.f b.function b.i size b.has.named).0 in
    let at = b.at in
    omega (arith, low, at)

-- ---- the frames of the threads above

no_frame : (p : Program) (names : Naming) (holds : ℕ → Bool) (end : Context) (ahead pc fp : ℕ) (word value : ℕ → ℕ) (acts : List Activation) → FromNewest p names holds end ahead pc fp word value acts [] → ⊥
no_frame p names holds end ahead pc fp word value [] newest = newest
no_frame p names holds end ahead pc fp word value (a ∷ older) newest = newest

some_first : (f : Frame) (fs : List Frame) → f ∷ fs ≢ []
some_first f fs e = cc

-- a thread below another one has a frame
lower_some : (p : Program) (names : Naming) (holds : ℕ → Bool) (cell : ℕ) (us : List Known) (gs : List Frame) (rest : List (List Frame)) (kind : ActivationKind) (kept : File) (word value : ℕ → ℕ) (fp ret : ℕ) → Lower p names holds cell us (gs ∷ rest) kind kept word value fp ret → joined (gs ∷ rest) ≢ []
lower_some p names holds cell [] gs rest kind kept word value fp ret lower = absurd lower
lower_some p names holds cell (t ∷ ts) [] rest kind kept word value fp ret (handle, forked, behind, holds_over, newest) = absurd (no_frame p names holds (Lower p names holds t.note.cell ts rest) 0 (ret + 4) fp word _ t.thread.activations newest)
lower_some p names holds cell (t ∷ ts) (g ∷ gs) rest kind kept word value fp ret lower = some_first g (gs ++ joined rest)

-- of threads that stand on the machine with nothing below them one has a frame
bottom_some : (p : Program) (names : List (Held × ℕ)) (held : List (Option ℕ)) (m : State) (us : List Known) (fss : List (List Frame)) → 0x10000 ≤ m.pc → TopStands p names held m us fss → joined fss ≢ []
bottom_some p names held m [] fss low stands = absurd stands
bottom_some p names held m (u ∷ us) [] low stands = absurd stands
bottom_some p names held m (u ∷ us) ((f ∷ fs) ∷ rest) low stands = some_first f (fs ++ joined rest)
bottom_some p names held m (u ∷ us) ([] ∷ rest) low (inl newest) = absurd (no_frame p (named_by names) (is_held held) (under p names (is_held held) u.note.cell us rest) 0 m.pc (register m registers.S0) (word_in held) (value_in m) u.thread.activations newest)
bottom_some p names held m (u ∷ []) ([] ∷ []) low (inr (none, (kept, (first, ret)))) = absurd (omega (arith, low, ret))
bottom_some p names held m (u ∷ k ∷ us) ([] ∷ []) low (inr (none, (kept, lower))) = absurd lower
bottom_some p names held m (u ∷ us) ([] ∷ gs ∷ rest) low (inr (none, (kept, lower))) = lower_some p (named_by names) (is_held held) u.note.cell us gs rest _ kept (word_in held) (value_in m) (register m registers.S0) (m.pc + 4) lower

one_longer : (us : List Known) (u : Known) → length (us ++ u ∷ []) ≡ suc (length us)
one_longer [] u = refl
one_longer (k ∷ ks) u = ap suc (one_longer ks u)

-- above the bottom one there is a frame
above_some : (p : Program) (names : List (Held × ℕ)) (held : List (Option ℕ)) (m : State) (above : List Known) (above_frames : List (List Frame)) (taken : Known) (frames : List Frame) → IsSized Postprocessed p → TopStands p names held m (above ++ taken ∷ []) (above_frames ++ frames ∷ []) → above ≢ [] → above_frames ≢ [] ∷ [] → joined above_frames ≢ []
above_some p names held m [] fss taken frames size stands some framed = absurd (some refl)
above_some p names held m (u ∷ us) [] taken frames size stands some framed =
    let long = top_long p names held m u frames (us ++ taken ∷ []) [] size stands in
    let more = one_longer us taken in
    absurd (omega (arith, long, more))
above_some p names held m (u ∷ us) ((f ∷ fs) ∷ rest) taken frames size stands some framed = some_first f (fs ++ joined rest)
above_some p names held m (u ∷ us) ([] ∷ []) taken frames size stands some framed = absurd (framed refl)
above_some p names held m (u ∷ us) ([] ∷ gs ∷ rest) taken frames size (inl newest) some framed = absurd (no_frame p (named_by names) (is_held held) (under p names (is_held held) u.note.cell (us ++ taken ∷ []) (gs ∷ (rest ++ frames ∷ []))) 0 m.pc (register m registers.S0) (word_in held) (value_in m) u.thread.activations newest)
above_some p names held m (u ∷ us) ([] ∷ [] ∷ rest) taken frames size (inr (none, (kept, lower))) some framed = absurd (lower_none (us ++ taken ∷ []) lower)
  where
    lower_none : (ks : List Known) → Lower p (named_by names) (is_held held) u.note.cell ks ([] ∷ (rest ++ frames ∷ [])) Forked kept (word_in held) (value_in m) (register m registers.S0) (m.pc + 4) → ⊥
    lower_none [] l = l
    lower_none (k ∷ ks) (handle, forked, behind, holds_over, newest) = no_frame p (named_by names) (is_held held) (Lower p (named_by names) (is_held held) k.note.cell ks (rest ++ frames ∷ [])) 0 (m.pc + 4 + 4) (register m registers.S0) (word_in held) _ k.thread.activations newest
above_some p names held m (u ∷ us) ([] ∷ (g ∷ gs) ∷ rest) taken frames size (inr (none, (kept, lower))) some framed = some_first g (gs ++ joined rest)

-- ---- the word that cuts

frame_last : (f : Frame) (fs : List Frame) → (g : Frame) × Contains (f ∷ fs) g × (bottom_word (f ∷ fs) ≡ return_word g.base)
frame_last f [] = (f, contains_here f [], refl)
frame_last f (g ∷ gs) = let (h, there, is) = frame_last g gs in (h, contains_later h f (g ∷ gs) there, is)

last_of : (fs : List Frame) → fs ≢ [] → (g : Frame) × Contains fs g × (bottom_word fs ≡ return_word g.base)
last_of [] some = absurd (some refl)
last_of (f ∷ fs) some = frame_last f fs

joined_early : (fss gss : List (List Frame)) (f : Frame) → Contains (joined fss) f → Contains (joined (fss ++ gss)) f
joined_early [] gss f there = absurd (contains_none f there)
joined_early (fs ∷ fss) gss f there = ⊎_elim (λ here. Contains-append_left fs (joined (fss ++ gss)) f here) (λ later. Contains-append_right fs (joined (fss ++ gss)) f (joined_early fss gss f later)) (Contains-append_cases fs (joined fss) f there)

stands_laid : (p : Program) (names : List (Held × ℕ)) (held : List (Option ℕ)) (m : State) (us : List Known) (fss : List (List Frame)) → IsAccepted p → IsSized Postprocessed p → TopStands p names held m us fss → (g : Frame) → Contains (joined fss) g → IsLaid (is_held held) g
stands_laid p names held m [] fss accepted size stands g there = absurd stands
stands_laid p names held m (u ∷ us) [] accepted size stands g there = absurd stands
stands_laid p names held m (u ∷ us) (fs ∷ rest) accepted size stands g there = (top_laid p accepted names held m u fs us rest size stands g there).0

laid_return : (holds : ℕ → Bool) (g : Frame) → IsLaid holds g → holds (return_word g.base) ≡ true
laid_return holds g laid =
    let above = laid.whole.above in
    let some = laid.whole.some in
    let even = laid.whole.even.base in
    let same : return_place g ≡ return_word g.base = omega (arith, above, some, even) in
    subst (λ (q : ℕ). holds q ≡ true) same (laid.held (return_place g) (return_inside g laid.whole))

module _ (t : Taking) (accepted : IsAccepted t.p) (size : IsSized Postprocessed t.p) (m : State) (low : 0x10000 ≤ m.pc) where
  cut_of : (us : List Known) (fss : List (List Frame)) → TopStands t.p t.names t.held m us fss → ((f : Frame) → Contains (joined t.above_frames) f → Contains (joined fss) f) → joined t.above_frames ≢ [] → is_held t.held (cut_word t) ≡ true
  cut_of us fss stands among some =
      let (g, there, is) = last_of (joined t.above_frames) some in
      subst (λ (q : ℕ). is_held t.held q ≡ true) (sym is) (laid_return (is_held t.held) g (stands_laid t.p t.names t.held m us fss accepted size stands g (among g there)))

  -- all threads stand on the machine
  cut_all : t.below ≡ [] → t.below_frames ≡ [] → TopStands t.p t.names t.held m (threads_of t) (frames_of t) → t.above ≢ [] → t.above_frames ≢ [] ∷ [] → is_held t.held (cut_word t) ≡ true
  cut_all none no_frames stands some framed =
      let alone : TopStands t.p t.names t.held m (t.above ++ t.taken ∷ []) (t.above_frames ++ t.frames ∷ []) = subst (λ (ks : List Known). TopStands t.p t.names t.held m (t.above ++ t.taken ∷ ks) (t.above_frames ++ t.frames ∷ [])) none (subst (λ (fss : List (List Frame)). TopStands t.p t.names t.held m (threads_of t) (t.above_frames ++ t.frames ∷ fss)) no_frames stands) in
      cut_of (threads_of t) (frames_of t) stands (λ f there. joined_early t.above_frames (t.frames ∷ t.below_frames) f there) (above_some t.p t.names t.held m t.above t.above_frames t.taken t.frames size alone some framed)

  some_middle : (us ks : List Known) (k : Known) → us ++ k ∷ ks ≢ []
  some_middle [] ks k e = cc
  some_middle (u ∷ us) ks k e = cc

  pub cut_held : (notes : List Note) (o : Option Walk) (s : Exports) (n : ℕ) → Gives t notes o m s n → is_held t.held (cut_word t) ≡ true
  cut_held notes None s n can = cut_all can.bottom.alone can.bottom.alone_frames can.stands can.some can.framed
  cut_held notes (Some walk) s n (inl above) = cut_all above.bottom.alone above.bottom.alone_frames above.stands (λ none. some_middle above.upper above.between above.u (sym above.parts ∙ none)) above.framed
  cut_held notes (Some walk) s n (inr bottom) = cut_of t.above t.above_frames bottom.stands (λ f there. there) (bottom_some t.p t.names t.held m t.above t.above_frames low bottom.stands)

-- ---- what may be asked

module _ (p : Program) (d : Data) (limits : Limits) (image : Image) (input : List ℕ) (x : Automaton) (u : View) (ready : IsReady p d limits image input x u) where
  asks_load : (q : ℕ) → is_held u.held q ≡ true → MayAsk p d limits u (StackLoad q)
  asks_load q is = no_item_asks p d limits u (StackLoad q) tt (record { can = held_number u.held q is; careful = record { writes = tt; puts = tt; takes = tt; stores = tt; changes = tt; lowers = tt; draws = tt; stops = tt } })

  asks_cut : (q : ℕ) → is_held u.held q ≡ true → MayAsk p d limits u (StackStore q 0x30)
  asks_cut q is = no_item_asks p d limits u (StackStore q 0x30) tt (write (meaning p d limits) u q 0x30 (held_number u.held q is) (omega arith) (λ zero_is. absurd (omega (arith, zero_is))))

  pub may_give : (asker : ℕ) → x.phase ≡ phases.Giving asker → MayGive (λ s. MayAsk p d limits u s) image (data_of image.rodata []) x.threads.notes x.threads.open x.machine x.stack
  may_give asker e =
      let g = (by_in p d limits image input x u ready (phases.Giving asker) e).0 in
      let is = ready.fits.is_for in
      let code : IsCodeOf Postprocessed g.t.p image = subst (λ (q : Program). IsCodeOf Postprocessed q image) (sym g.of.program) is.code in
      let size : IsSized Postprocessed g.t.p = subst (IsSized Postprocessed) (sym g.of.program) is.size in
      let low = poll_low p u.names g.first _ x.machine g.top g.frames g.rest g.lower is.size g.polls in
      record {
        t = g.t;
        code = code;
        data_is = g.of.source ∙ ap (λ (k : Data). data_of k.rodata []) is.source;
        n = g.n;
        gives = g.gives;
        loads = λ q held. asks_load q (subst (λ (h : List (Option ℕ)). is_held h q ≡ true) g.of.held held);
        cut = asks_cut (cut_word g.t) (subst (λ (h : List (Option ℕ)). is_held h (cut_word g.t) ≡ true) g.of.held (cut_held g.t code.accepted size x.machine low x.threads.notes x.threads.open x.stack (suc g.n) g.gives));
      }
