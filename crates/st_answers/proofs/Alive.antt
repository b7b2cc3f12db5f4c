-- The frames of a worker that polls: no return word of them is 0 (poll_returns), and the newest one is that of the function whose code the machine is in (poll_newest).
use Rattle.std.proofs.Common.{◌≡◌, ◌≢◌, inl, inr, ⊎_elim, ℕ, suc, ◌+◌, ◌-◌, ◌*◌, ◌<◌, Bool, List, [], ◌∷◌, ◌++◌, length, Option, Some, None, refl, sym, ap, ◌∙◌, subst, arith}
use Rattle.std.specs.Prelude.{slice_get}
use Rattle.std.specs.List.{Contains}
use Rattle.std.proofs.lemmas.List.Elements.{Contains-append_cases}
use Rattle.st_base.specs.declared.chain.Frame.{Frame}
use Rattle.st_base.specs.declared.image.FrameRow.{FrameRow}
use Rattle.st_base.specs.declared.image.Image.{Image}
use Rattle.st_base.specs.declared.reg.Reg.{Reg}
use Rattle.st_base.specs.declared.reg.Reg.TheVariants as registers
use Rattle.st_base.specs.declared.thread.Activation.{Activation}
use Rattle.st_base.specs.declared.thread.ActivationKind.{ActivationKind}
use Rattle.st_base.specs.declared.thread.ActivationKind.TheVariants.{Called, Forked, Root}
use Rattle.st_base.specs.declared.thread.Held.{Held}
use Rattle.st_words.specs.declared.view.Known.{Known}
use Rattle.st_words.specs.Steps.{return_place}
use Rattle.st_words.proofs.Lists.{contains_none, contains_case}
use Rattle.st_model.specs.declared.code.Layout.TheVariants.{Postprocessed}
use Rattle.st_model.specs.declared.program.Program.{Program}
use Rattle.st_model.specs.declared.program.ProgramFunction.{ProgramFunction}
use Rattle.st_model.specs.Effect.{File}
use Rattle.st_model.specs.Layout.{IsCodeOf, row_at, item_size, function_address, rows_of}
use Rattle.st_model.proofs.CodeSize.{copy_length}
use Rattle.st_step.specs.declared.state.State.{State}
use Rattle.st_step.specs.Frames.{Naming, address_in, value_in, ComesBack}
use Rattle.st_step.specs.Moves.{register}
use Rattle.st_step.specs.Runs.{return_word}
use Rattle.st_stack.specs.Exported.{Exports, IsFrameOn}
use Rattle.st_items.specs.Body.{Context, Ends}
use Rattle.st_items.specs.Code.{IsSized}
use Rattle.st_items.specs.Rows.{row_behind}
use Rattle.st_items.proofs.Addresses.{place_bounds, next_address}
use Rattle.st_items.proofs.Rows.{row_found, row_of_item}
use Rattle.st_chain.specs.Walk.{LiesAt, Below, FromNewest, named_by, is_held, word_in}
use Rattle.st_chain.specs.Threads.{AtEnd, Lower, HasForked}
use Rattle.st_chain.specs.Copying.{over}
use Rattle.st_chain.specs.Places.{frame_of}
use Rattle.st_chain.specs.Seen.{joined}
use Rattle.st_chain.proofs.ForkPlaces.{take_size}
use Rattle.st_chain.specs.Taking.{TopStands}
use Rattle.st_standing.specs.Standing.{under}
use Rattle.st_kept.proofs.Laid.{IsLaid, newest_laid, lower_laid}
use Rattle.st_model.specs.Accepted.{IsAccepted}
use Rattle.st_framed.specs.Framed.{IsNewest}
use Rattle.st_moving.specs.Moving.{AtPoll}
use Rattle.st_phases.specs.declared.automaton.Automaton.{Automaton}
use Rattle.st_phases.specs.Polling.{IsTopFrame}

-- what stands behind an activation names a place that isn't 0
abbrev ComesSomewhere : Context → Type 0
ComesSomewhere end = (kind : ActivationKind) (kept : File) (word value : ℕ → ℕ) (fp ret : ℕ) → end kind kept word value fp ret → ret ≢ 0

comes_back : (p : Program) (kind : ActivationKind) (a : Activation) (function : ProgramFunction) (ret : ℕ) → IsSized Postprocessed p → slice_get p.functions a.function ≡ Some function → ComesBack Postprocessed p kind a function ret → ret ≢ 0
comes_back p Called a function ret size here back none = let low = (place_bounds Postprocessed p a.function function a.next size here).0 in omega (arith, low, back, none)
comes_back p Forked a function ret size here back none = let low = (place_bounds Postprocessed p a.function function a.next size here).0 in let at = back.0 in omega (arith, low, at, none)
comes_back p Root a function ret size here back none = absurd back

return_at : (holds : ℕ → Bool) (function : ProgramFunction) (fp : ℕ) (f : Frame) → LiesAt holds function fp f → fp ≡ f.low + function.frame_bytes → return_word fp ≡ return_place f
return_at holds function fp f lies size = let base = lies.base in let above = lies.place.above in omega (arith, base, above, size)

module _ (p : Program) (names : Naming) (holds : ℕ → Bool) (word : ℕ → ℕ) (size : IsSized Postprocessed p) where
  module _ (end : Context) (good : ComesSomewhere end) where
    below_comes : (older : List Activation) (fs : List Frame) → ComesSomewhere (Below p names holds end older fs)
    below_comes [] [] kind kept w value fp ret below none = good kind kept w value fp ret below none
    below_comes (a ∷ older) (f ∷ fs) kind kept w value fp ret (function, called, lies, (caller, below)) none = comes_back p kind a function ret size caller.here caller.back none
    below_comes [] (f ∷ fs) kind kept w value fp ret below none = absurd below
    below_comes (a ∷ older) [] kind kept w value fp ret below none = absurd below

    below_returns : (older : List Activation) (fs : List Frame) (kind : ActivationKind) (kept : File) (value : ℕ → ℕ) (fp ret : ℕ) (g : Frame) → Below p names holds end older fs kind kept word value fp ret → Contains fs g → word (return_place g) ≢ 0
    below_returns [] [] kind kept value fp ret g below in' = absurd (contains_none g in')
    below_returns (a ∷ older) (f ∷ fs) kind kept value fp ret g (function, called, lies, (caller, below)) in' =
        ⊎_elim (λ (e : f ≡ g). subst (λ (h : Frame). word (return_place h) ≢ 0) e (subst (λ (q : ℕ). word q ≢ 0) (return_at holds function fp f lies caller.base) (below_comes older fs _ _ _ _ _ _ below))) (λ (later : Contains fs g). below_returns older fs _ _ _ _ _ g below later) (contains_case g f fs in')
    below_returns [] (f ∷ fs) kind kept value fp ret g below in' = absurd below
    below_returns (a ∷ older) [] kind kept value fp ret g below in' = absurd below

    newest_returns : (acts : List Activation) (fs : List Frame) (ahead pc fp : ℕ) (value : ℕ → ℕ) (g : Frame) → FromNewest p names holds end ahead pc fp word value acts fs → Contains fs g → word (return_place g) ≢ 0
    newest_returns (a ∷ older) (f ∷ fs) ahead pc fp value g (function, is) in' =
        ⊎_elim (λ (e : f ≡ g). subst (λ (h : Frame). word (return_place h) ≢ 0) e (subst (λ (q : ℕ). word q ≢ 0) (return_at holds function fp f is.lies is.framed.base) (below_comes older fs _ _ _ _ _ _ is.framed.below))) (λ (later : Contains fs g). below_returns older fs _ _ _ _ _ g is.framed.below later) (contains_case g f fs in')
    newest_returns [] fs ahead pc fp value g newest in' = absurd newest
    newest_returns (a ∷ older) [] ahead pc fp value g newest in' = absurd newest

    -- what stands behind its first activation
    record EndStands : Type 0 where
      kind : ActivationKind
      kept : File
      value : ℕ → ℕ
      fp : ℕ
      ret : ℕ
      stands : end kind kept word value fp ret

    below_end : (older : List Activation) (fs : List Frame) (kind : ActivationKind) (kept : File) (value : ℕ → ℕ) (fp ret : ℕ) → Below p names holds end older fs kind kept word value fp ret → EndStands
    below_end [] [] kind kept value fp ret below = record { kind = kind; kept = kept; value = value; fp = fp; ret = ret; stands = below }
    below_end (a ∷ older) (f ∷ fs) kind kept value fp ret (function, called, lies, (caller, below)) = below_end older fs _ _ _ _ _ below
    below_end [] (f ∷ fs) kind kept value fp ret below = absurd below
    below_end (a ∷ older) [] kind kept value fp ret below = absurd below

    newest_end : (acts : List Activation) (fs : List Frame) (ahead pc fp : ℕ) (value : ℕ → ℕ) → FromNewest p names holds end ahead pc fp word value acts fs → EndStands
    newest_end (a ∷ older) (f ∷ fs) ahead pc fp value (function, is) = below_end older fs _ _ _ _ _ is.framed.below
    newest_end [] fs ahead pc fp value newest = absurd newest
    newest_end (a ∷ older) [] ahead pc fp value newest = absurd newest

  forked_comes : (acts : List Activation) (fs : List Frame) (end : Context) (ret fp : ℕ) (handle : Reg) (w value : ℕ → ℕ) → HasForked p ret handle acts → ret ≢ 0
  forked_comes [] fs end ret fp handle w value forked none = absurd forked
  forked_comes (a ∷ older) fs end ret fp handle w value forked none =
      let third = forked.third in
      let bounds = place_bounds Postprocessed p a.function forked.function a.next size forked.has.named in
      let low = bounds.0 in
      omega (arith, third, low, none)

  lower_comes : (cell : ℕ) (ts : List Known) (rest : List (List Frame)) → ComesSomewhere (Lower p names holds cell ts rest)
  lower_comes cell [] [] kind kept w value fp ret (first, is) none = omega (arith, is, none)
  lower_comes cell (t ∷ ts) (fs ∷ rest) kind kept w value fp ret (handle, forked, behind, over, newest) none = forked_comes t.thread.activations fs (Lower p names holds t.note.cell ts rest) ret fp handle w value behind none
  lower_comes cell [] (fs ∷ rest) kind kept w value fp ret lower none = absurd lower
  lower_comes cell (t ∷ ts) [] kind kept w value fp ret lower none = absurd lower

  lower_returns : (cell : ℕ) (ts : List Known) (rest : List (List Frame)) (kind : ActivationKind) (kept : File) (value : ℕ → ℕ) (fp ret : ℕ) (g : Frame) → Lower p names holds cell ts rest kind kept word value fp ret → Contains (joined rest) g → word (return_place g) ≢ 0
  lower_returns cell [] [] kind kept value fp ret g lower in' = absurd (contains_none g in')
  lower_returns cell (t ∷ ts) (fs ∷ rest) kind kept value fp ret g (handle, forked, behind, over, newest) in' =
      let end = Lower p names holds t.note.cell ts rest in
      let good = lower_comes t.note.cell ts rest in
      ⊎_elim (λ (here : Contains fs g). newest_returns end good t.thread.activations fs _ _ _ _ g newest here)
      (λ (later : Contains (joined rest) g). let last = newest_end end good t.thread.activations fs _ _ _ _ newest in lower_returns t.note.cell ts rest last.kind last.kept last.value last.fp last.ret g last.stands later) (Contains-append_cases fs (joined rest) g in')
  lower_returns cell [] (fs ∷ rest) kind kept value fp ret g lower in' = absurd lower
  lower_returns cell (t ∷ ts) [] kind kept value fp ret g lower in' = absurd lower

pub poll_returns : (p : Program) (names : List (Held × ℕ)) (held : List (Option ℕ)) (ends : Ends) (m : State) (t : Known) (fs : List Frame) (ts : List Known) (rest : List (List Frame)) → IsSized Postprocessed p → AtPoll p names (is_held held) ends (over held m) t fs ts rest → (g : Frame) → Contains (joined (fs ∷ rest)) g → word_in held (return_place g) ≢ 0
poll_returns p names held ends m t fs ts rest size (inl (on, behind)) g in' =
    let under_it = under p names (is_held held) t.note.cell ts rest in
    let good = lower_comes p (named_by names) (is_held held) (word_in held) size t.note.cell ts rest in
    ⊎_elim (λ (here : Contains fs g). newest_returns p (named_by names) (is_held held) (word_in held) size under_it good t.thread.activations fs 0 m.pc (register m registers.S0) (value_in m) g behind here)
    (λ (later : Contains (joined rest) g).
    let end = newest_end p (named_by names) (is_held held) (word_in held) size under_it good t.thread.activations fs 0 m.pc (register m registers.S0) (value_in m) behind in
    lower_returns p (named_by names) (is_held held) (word_in held) size t.note.cell ts rest end.kind end.kept end.value end.fp end.ret g end.stands later) (Contains-append_cases fs (joined rest) g in')
poll_returns p names held ends m t fs ts rest size (inr (none, forked)) g in' =
    ⊎_elim (λ (here : Contains fs g). absurd (contains_none g (subst (λ (gs : List Frame). Contains gs g) none here)))
    (λ (later : Contains (joined rest) g). lower_returns p (named_by names) (is_held held) (word_in held) size t.note.cell ts rest _ _ _ _ _ g forked.below later) (Contains-append_cases fs (joined rest) g in')

-- of a thread with nothing below it
pub alone_returns : (p : Program) (names : Naming) (holds : ℕ → Bool) (word : ℕ → ℕ) → IsSized Postprocessed p → (acts : List Activation) (fs : List Frame) (ahead pc fp : ℕ) (value : ℕ → ℕ) (g : Frame) → FromNewest p names holds AtEnd ahead pc fp word value acts fs → Contains fs g → word (return_place g) ≢ 0
alone_returns p names holds word size acts fs ahead pc fp value g newest in' = newest_returns p names holds word size AtEnd (λ kind kept w v fp' ret last none. let at = last.1 in omega (arith, at, none)) acts fs ahead pc fp value g newest in'

-- ---- as many frames lists as threads

module _ (p : Program) (names : Naming) (holds : ℕ → Bool) (word : ℕ → ℕ) (size : IsSized Postprocessed p) where
  lower_long : (cell : ℕ) (ts : List Known) (rest : List (List Frame)) (kind : ActivationKind) (kept : File) (value : ℕ → ℕ) (fp ret : ℕ) → Lower p names holds cell ts rest kind kept word value fp ret → length ts ≡ length rest
  lower_long cell [] [] kind kept value fp ret lower = refl
  lower_long cell (t ∷ ts) (fs ∷ rest) kind kept value fp ret (handle, forked, behind, over, newest) =
      let last = newest_end p names holds word size (Lower p names holds t.note.cell ts rest) (lower_comes p names holds word size t.note.cell ts rest) t.thread.activations fs _ _ _ _ newest in
      ap suc (lower_long t.note.cell ts rest last.kind last.kept last.value last.fp last.ret last.stands)
  lower_long cell [] (fs ∷ rest) kind kept value fp ret lower = absurd lower
  lower_long cell (t ∷ ts) [] kind kept value fp ret lower = absurd lower

-- a machine that stands at the top one of threads
pub top_long : (p : Program) (names : List (Held × ℕ)) (held : List (Option ℕ)) (m : State) (t : Known) (fs : List Frame) (ts : List Known) (rest : List (List Frame)) → IsSized Postprocessed p → TopStands p names held m (t ∷ ts) (fs ∷ rest) → length ts ≡ length rest
top_long p names held m t fs ts rest size (inl newest) =
    let last = newest_end p (named_by names) (is_held held) (word_in held) size (under p names (is_held held) t.note.cell ts rest) (lower_comes p (named_by names) (is_held held) (word_in held) size t.note.cell ts rest) t.thread.activations fs 0 m.pc (register m registers.S0) (value_in m) newest in
    lower_long p (named_by names) (is_held held) (word_in held) size t.note.cell ts rest last.kind last.kept last.value last.fp last.ret last.stands
top_long p names held m t fs ts rest size (inr (none, (kept, lower))) = lower_long p (named_by names) (is_held held) (word_in held) size t.note.cell ts rest Forked kept (value_in m) (register m registers.S0) (m.pc + 4) lower

-- all words of its threads' frames are held, and their return words aren't 0
pub top_laid : (p : Program) (accepted : IsAccepted p) (names : List (Held × ℕ)) (held : List (Option ℕ)) (m : State) (t : Known) (fs : List Frame) (ts : List Known) (rest : List (List Frame)) → IsSized Postprocessed p → TopStands p names held m (t ∷ ts) (fs ∷ rest) → (g : Frame) → Contains (joined (fs ∷ rest)) g → IsLaid (is_held held) g × (word_in held (return_place g) ≢ 0)
top_laid p accepted names held m t fs ts rest size (inl newest) g in' =
    let under_it = under p names (is_held held) t.note.cell ts rest in
    let good = lower_comes p (named_by names) (is_held held) (word_in held) size t.note.cell ts rest in
    ⊎_elim
    (λ (here : Contains fs g). (
      newest_laid p (named_by names) (is_held held) (word_in held) accepted under_it t.thread.activations fs 0 m.pc (register m registers.S0) (value_in m) g newest here,
      newest_returns p (named_by names) (is_held held) (word_in held) size under_it good t.thread.activations fs 0 m.pc (register m registers.S0) (value_in m) g newest here,
    ))
    (λ (later : Contains (joined rest) g).
    let end = newest_end p (named_by names) (is_held held) (word_in held) size under_it good t.thread.activations fs 0 m.pc (register m registers.S0) (value_in m) newest in (
      lower_laid p (named_by names) (is_held held) (word_in held) accepted t.note.cell ts rest end.kind end.kept end.value end.fp end.ret g end.stands later,
      lower_returns p (named_by names) (is_held held) (word_in held) size t.note.cell ts rest end.kind end.kept end.value end.fp end.ret g end.stands later,
    )) (Contains-append_cases fs (joined rest) g in')
top_laid p accepted names held m t fs ts rest size (inr (none, (kept, lower))) g in' =
    ⊎_elim (λ (here : Contains fs g). absurd (contains_none g (subst (λ (gs : List Frame). Contains gs g) none here)))
    (λ (later : Contains (joined rest) g). (
      lower_laid p (named_by names) (is_held held) (word_in held) accepted t.note.cell ts rest Forked kept (value_in m) (register m registers.S0) (m.pc + 4) g lower later,
      lower_returns p (named_by names) (is_held held) (word_in held) size t.note.cell ts rest Forked kept (value_in m) (register m registers.S0) (m.pc + 4) g lower later,
    )) (Contains-append_cases fs (joined rest) g in')

-- ---- the newest frame

newest_by : (s : Exports) (row : FrameRow) (x : Automaton) (f : Frame) (fs : List Frame) (top : Option Frame) → s ≡ x.stack → f ≡ frame_of row x.machine → IsTopFrame (Some row) x top → IsNewest s (f ∷ fs) top
newest_by s row x f fs None same is not = λ on. subst (λ (k : Exports). Contains k.exported f) (sym same) (subst (Contains x.stack.exported) (sym is) (not (subst (IsFrameOn x.stack.lo x.stack.hi) is (subst (λ (k : Exports). IsFrameOn k.lo k.hi f) same on))))
newest_by s row x f fs (Some top) same is (at, on, own) =
    let here : top ≡ f = at ∙ sym is in
    (here, subst (λ (k : Exports). IsFrameOn k.lo k.hi f) (sym same) (subst (IsFrameOn x.stack.lo x.stack.hi) here on), λ there. own (subst (Contains x.stack.exported) (sym here) (subst (λ (k : Exports). Contains k.exported f) same there)))

row_frame : (function : ProgramFunction) (from : ℕ) (holds : ℕ → Bool) (m : State) (f : Frame) → LiesAt holds function (register m registers.S0) f → register m registers.S0 ≡ f.low + function.frame_bytes → f ≡ frame_of (row_at Postprocessed from function) m
row_frame function from holds m f lies size =
    let base : register m registers.S0 ≡ f.base = lies.base in
    let low : f.low ≡ register m registers.S0 - function.frame_bytes = omega (arith, size) in
    λ i. record { low = low i; base = sym base i }

module _ (p : Program) (image : Image) (code : IsCodeOf Postprocessed p image) (size : IsSized Postprocessed p) (x : Automaton) (names : List (Held × ℕ)) (held : List (Option ℕ)) where
  rows_are : image.rows ≡ rows_of Postprocessed p
  rows_are = code.is_image.rows

  found_top : (f : Frame) (fs : List Frame) (row : FrameRow) (top : Option Frame) → row_behind (rows_of Postprocessed p) x.machine.pc ≡ Some row → f ≡ frame_of row x.machine → IsTopFrame (row_behind image.rows x.machine.pc) x top → IsNewest x.stack (f ∷ fs) top
  found_top f fs row top found is top_is = newest_by x.stack row x f fs top refl is (subst (λ (o : Option FrameRow). IsTopFrame o x top) (ap (λ (rows : List FrameRow). row_behind rows x.machine.pc) rows_are ∙ found) top_is)

  at_newest : (end : Context) (word value : ℕ → ℕ) (acts : List Activation) (fs more : List Frame) (top : Option Frame) → FromNewest p (named_by names) (is_held held) end 0 x.machine.pc (register x.machine registers.S0) word value acts fs → IsTopFrame (row_behind image.rows x.machine.pc) x top → IsNewest x.stack (fs ++ more) top
  at_newest end word value (a ∷ older) (f ∷ fs) more top (function, is) top_is =
      let at = is.at in
      let place = take_size function function.items a.next in
      let long = copy_length function in
      let found = row_found Postprocessed p a.function function x.machine.pc is.here (omega arith) (omega (arith, at, place, long)) in
      found_top f (fs ++ more) (row_at Postprocessed (function_address Postprocessed p a.function) function) top found (row_frame function (function_address Postprocessed p a.function) (is_held held) x.machine f is.lies is.framed.base) top_is
  at_newest end word value [] fs more top newest top_is = absurd newest
  at_newest end word value (a ∷ older) [] more top newest top_is = absurd newest

  -- a thread that was just forked has no frame: the newest one is its parent's
  at_parent : (end : Context) (handle : Reg) (word value : ℕ → ℕ) (acts : List Activation) (fs more : List Frame) (top : Option Frame) → HasForked p (x.machine.pc + 4) handle acts → FromNewest p (named_by names) (is_held held) end 0 (x.machine.pc + 4 + 4) (register x.machine registers.S0) word value acts fs → IsTopFrame (row_behind image.rows x.machine.pc) x top → IsNewest x.stack (fs ++ more) top
  at_parent end handle word value (a ∷ older) (f ∷ fs) more top forked (function, is) top_is =
      let some : 0 < a.next = is.begun in
      let follows = next_address Postprocessed p a.function forked.function (a.next - 1) forked.item forked.has in
      let back : a.next - 1 + 1 ≡ a.next = omega (arith, some) in
      let there = ap (address_in Postprocessed p a.function forked.function) back in
      let three = ap (item_size Postprocessed forked.function) forked.forks in
      let third = forked.third in
      let pc : address_in Postprocessed p a.function forked.function (a.next - 1) + 4 * 1 ≡ x.machine.pc = omega (arith, follows, there, three, third) in
      let found = row_of_item Postprocessed p a.function forked.function (a.next - 1) forked.item 1 forked.has (omega (arith, three)) in
      let same : forked.function ≡ function = cc_some forked.function function (sym forked.has.named ∙ is.here) in
      let row : FrameRow = row_at Postprocessed (function_address Postprocessed p a.function) forked.function in
      found_top f (fs ++ more) row top (subst (λ (n : ℕ). row_behind (rows_of Postprocessed p) n ≡ Some row) pc found)
      (row_frame forked.function (function_address Postprocessed p a.function) (is_held held) x.machine f (subst (λ (g : ProgramFunction). LiesAt (is_held held) g (register x.machine registers.S0) f) (sym same) is.lies) (subst (λ (g : ProgramFunction). register x.machine registers.S0 ≡ f.low + g.frame_bytes) (sym same) is.framed.base)) top_is
    where
      cc_some : (g h : ProgramFunction) → Some g ≡ Some h → g ≡ h
      cc_some g h e = cc
  at_parent end handle word value [] fs more top forked newest top_is = absurd newest
  at_parent end handle word value (a ∷ older) [] more top forked newest top_is = absurd newest

  under_newest : (cell : ℕ) (ts : List Known) (rest : List (List Frame)) (kind : ActivationKind) (kept : File) (word value : ℕ → ℕ) (top : Option Frame) → x.machine.pc + 4 ≢ 0x30 → Lower p (named_by names) (is_held held) cell ts rest kind kept word value (register x.machine registers.S0) (x.machine.pc + 4)
      → IsTopFrame (row_behind image.rows x.machine.pc) x top → IsNewest x.stack (joined rest) top
  under_newest cell [] [] kind kept word value top other (first, is) top_is = absurd (other is)
  under_newest cell (t ∷ ts) (fs ∷ rest) kind kept word value top other (handle, forked, behind, over, newest) top_is = at_parent (Lower p (named_by names) (is_held held) t.note.cell ts rest) handle word _ t.thread.activations fs (joined rest) top behind newest top_is
  under_newest cell [] (fs ∷ rest) kind kept word value top other lower top_is = absurd lower
  under_newest cell (t ∷ ts) [] kind kept word value top other lower top_is = absurd lower

  pub poll_newest : (ends : Ends) (t : Known) (fs : List Frame) (ts : List Known) (rest : List (List Frame)) (top : Option Frame) → AtPoll p names (is_held held) ends (over held x.machine) t fs ts rest → IsTopFrame (row_behind image.rows x.machine.pc) x top → IsNewest x.stack (joined (fs ∷ rest)) top
  poll_newest ends t fs ts rest top (inl (on, behind)) top_is = at_newest (under p names (is_held held) t.note.cell ts rest) (word_in held) (value_in x.machine) t.thread.activations fs (joined rest) top behind top_is
  poll_newest ends t fs ts rest top (inr (none, forked)) top_is =
      let b = forked.behind in
      let low = (place_bounds Postprocessed p b.f b.function b.i size b.has.named).0 in
      let at = b.at in
      subst (λ (gs : List Frame). IsNewest x.stack (gs ++ joined rest) top) (sym none) (under_newest t.note.cell ts rest Forked _ (word_in held) (value_in x.machine) top (λ e. omega (arith, low, at, e)) forked.below top_is)
