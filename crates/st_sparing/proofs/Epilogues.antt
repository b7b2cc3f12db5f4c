-- An augmented epilogue stores no number: it frees its frame or marks it. Behind its jump back at most the third jump of a fork follows (epilogue_spares).
use Rattle.std.proofs.Common.{◌≡◌, ◌⊎◌, inl, inr, ℕ, zero, suc, ◌+◌, ◌-◌, Bool, List, [], ◌∷◌, length, None, Some, refl, ap, sym, ◌∙◌, subst, arith}
use Rattle.std.proofs.lemmas.Bool.{cases_lt}
use Rattle.st_base.specs.declared.chain.Frame.{Frame}
use Rattle.st_base.specs.declared.reg.Reg.{Reg}
use Rattle.st_base.specs.declared.reg.Reg.TheVariants as registers
use Rattle.st_base.specs.declared.thread.Activation.{Activation}
use Rattle.st_base.specs.declared.thread.ActivationKind.{ActivationKind}
use Rattle.st_base.specs.declared.thread.Held.{Held}
use Rattle.st_model.specs.declared.code.Layout.TheVariants.{Postprocessed}
use Rattle.st_model.specs.declared.program.Program.{Program}
use Rattle.st_model.specs.declared.program.ItemKind.TheVariants as items
use Rattle.st_model.specs.Effect.{File}
use Rattle.st_model.specs.Layout.{saved_of, item_place, fork_out}
use Rattle.st_model.specs.Memory.{Data}
use Rattle.st_words.specs.declared.view.Known.{Known}
use Rattle.st_step.specs.declared.state.State.{State}
use Rattle.st_step.specs.Frames.{value_in, with_saved_values, ComesBack, IsFork}
use Rattle.st_step.specs.Moves.{register}
use Rattle.st_step.specs.Runs.{Situation, moved_by, Path, RunsStretch, return_word, caller_word}
use Rattle.st_step.proofs.Freeing.{augmented_law}
use Rattle.st_items.specs.Body.{Ends, Context}
use Rattle.st_items.specs.Called.{IsThird}
use Rattle.st_items.specs.Code.{code_at, IsSized}
use Rattle.st_items.specs.Left.{IsAtEpilogue}
use Rattle.st_items.specs.Ways.{IsInside, Makes, LeadsBy}
use Rattle.st_items.proofs.Leaving
use Rattle.st_items.proofs.Linking.{third_jump}
use Rattle.st_chain.specs.Threads.{Lower, HasForked}
use Rattle.st_chain.specs.Walk.{named_by, Below, FromNewest}
use Rattle.st_running.specs.Running.{CanRun}
use Rattle.st_running.proofs.AtItem.{Older, AtItem}
use Rattle.st_running.proofs.FramesLeft.{comes_back}
use Rattle.st_sparing.specs.Sparing.{Spares, AllSpare}
use Rattle.st_sparing.proofs.Jumps.{jumps_out, jump_quiet}
use Rattle.st_sparing.proofs.Places.{out_of_items, at_entry}
use Rattle.st_sparing.proofs.Ways.{quiet_spares, spared}
use Rattle.st_sparing.proofs.Words.{augmented_quiet, quiet_there}

-- ---- behind it

module _ (p : Program) (names : List (Held × ℕ)) (holds : ℕ → Bool) (size : IsSized Postprocessed p) where
  third_behind : (end : Context) (pc fp ret : ℕ) (word value : ℕ → ℕ) (handle : Reg) (acts : List Activation) (fs : List Frame) → HasForked p ret handle acts → FromNewest p (named_by names) holds end 0 pc fp word value acts fs → IsThird Postprocessed p ret
  third_behind end pc fp ret word value handle (a ∷ older) (f ∷ fs) behind (function, is) =
      third_jump Postprocessed p a behind.function ret size behind.has.named is.begun (behind.third, (behind.item, behind.has.placed, subst IsFork (sym behind.forks) tt))
  third_behind end pc fp ret word value handle (a ∷ older) [] behind newest = absurd newest
  third_behind end pc fp ret word value handle [] fs behind newest = absurd behind

  lower_third : (cell : ℕ) (ts : List Known) (frames : List (List Frame)) (kind : ActivationKind) (kept : File) (word value : ℕ → ℕ) (fp ret : ℕ) (m : State) → Lower p (named_by names) holds cell ts frames kind kept word value fp ret → m.pc ≡ ret → m.half ≡ None → IsInside Postprocessed p m → IsThird Postprocessed p ret
  lower_third cell [] [] kind kept word value fp ret m (first, end) at whole inside = absurd (at_entry Postprocessed p m whole (omega arith) inside)
  lower_third cell (t ∷ ts) (fs ∷ rest) kind kept word value fp ret m (handle, forked, behind, over, newest) at whole inside =
      third_behind (Lower p (named_by names) holds t.note.cell ts rest) (ret + 4) fp ret word _ handle t.thread.activations fs behind newest
  lower_third cell [] (fs ∷ rest) kind kept word value fp ret m lower at whole inside = absurd lower
  lower_third cell (t ∷ ts) [] kind kept word value fp ret m lower at whole inside = absurd lower

  -- where the call of an activation comes back to inside of an item, a fork's third jump stands
  third_there : (cell : ℕ) (ts : List Known) (frames : List (List Frame)) (older : List Activation) (fs : List Frame) (kind : ActivationKind) (kept : File) (word value : ℕ → ℕ) (fp ret : ℕ) (m : State)
      → Below p (named_by names) holds (Lower p (named_by names) holds cell ts frames) older fs kind kept word value fp ret → m.pc ≡ ret → m.half ≡ None → IsInside Postprocessed p m → IsThird Postprocessed p ret
  third_there cell ts frames [] [] kind kept word value fp ret m below at whole inside = lower_third cell ts frames kind kept word value fp ret m below at whole inside
  third_there cell ts frames (a ∷ older) (f ∷ fs) kind kept word value fp ret m (function, called, lies, (caller, below)) at whole inside =
      let back = subst (λ (x : ActivationKind). ComesBack Postprocessed p x a function ret) called caller.back in
      absurd (out_of_items Postprocessed p a.function function a.next m caller.here whole (at ∙ back) inside)
  third_there cell ts frames [] (f ∷ fs) kind kept word value fp ret m below at whole inside = absurd below
  third_there cell ts frames (a ∷ older) [] kind kept word value fp ret m below at whole inside = absurd below

-- ---- its words

module _ (p : Program) (d : Data) (names : List (Held × ℕ)) (holds kept : ℕ → Bool) (ends : Ends) (t : Situation) (k : Known) (fs : List Frame) (ks : List Known) (rest : List (List Frame)) (can : CanRun p d names holds ends t k fs ks rest) (at : AtItem p d names holds ends t k fs ks rest) (kind : at.item.kind ≡ items.Epilogue) where
  abbrev b : ℕ
  b = register t.state registers.S0

  abbrev ret : ℕ
  ret = t.word (return_word b)

  abbrev older : Context
  older = Older p names holds k.note.cell ks rest at.older at.gs

  abbrev words : ℕ
  words = 9 + length (saved_of at.function)

  epilogue : IsAtEpilogue Postprocessed p holds (named_by names) older ends at.f.low t at.top k.thread.registers at.function at.item
  epilogue = record {
    line = at.line;
    kind = kind;
    back = comes_back p (named_by names) holds can.size k.note.cell ks rest at.older at.gs at.top.kind at.top.kept t.word (with_saved_values t.word b 0 (saved_of at.function) (value_in t.state)) (t.word (caller_word b)) ret at.line.body.framed.below;
    low = tt;
  }

  -- a run of it comes back to its caller
  record Runs : Type 0 where
    last : Situation
    back : last.state.pc ≡ ret
    whole : last.state.half ≡ None
    count : ℕ
    runs : RunsStretch d (code_at Postprocessed p) holds words count t last

  it_runs : Runs
  it_runs =
      let far = Leaving.low Postprocessed p d holds (named_by names) older ends at.f.low t at.top k.thread.registers at.function at.item epilogue in
      let law = augmented_law d (code_at Postprocessed p) holds at.function t 0x8000_0000 (item_place Postprocessed at.function at.top.next) at.line.body.machine.words
      (Leaving.frame Postprocessed p d holds (named_by names) older ends at.f.low t at.top k.thread.registers at.function at.item epilogue)
      (Leaving.code Postprocessed p d holds (named_by names) older ends at.f.low t at.top k.thread.registers at.function at.item epilogue)
      (Leaving.base Postprocessed p d holds (named_by names) older ends at.f.low t at.top k.thread.registers at.function at.item epilogue)
      (Leaving.holds Postprocessed p d holds (named_by names) older ends at.f.low t at.top k.thread.registers at.function at.item epilogue)
      epilogue.back (record { below = omega arith }) in
      elim (cases_lt (register t.state registers.Sp) b) [
        | inl less ↦ elim (cases_lt (register t.state registers.Gp) b) [
          | inl beyond ↦ let (count, few, runs) = law.1 (inr beyond) in record { last = _; back = refl; whole = refl; count = count; runs = runs }
          | inr most ↦ record { last = _; back = refl; whole = refl; count = _; runs = law.0 less most }
        ]
        | inr most ↦ let (count, few, runs) = law.1 (inl most) in record { last = _; back = refl; whole = refl; count = count; runs = runs }
      ]

  module _ (run : Runs) where
    -- on the way behind the first word, or at a fork's third jump
    abbrev OnTheWay : Situation → Type 0
    OnTheWay s = ((m : ℕ) × Path d (code_at Postprocessed p) holds (t.state.pc + 4) (words - 1) (suc m) s run.last) ⊎ IsThird Postprocessed p s.state.pc

    spares : (s : Situation) → OnTheWay s → Spares Postprocessed p d kept s
    spares s (inl (m, (among, path))) =
        quiet_spares Postprocessed p d holds kept s (λ ins there.
        let few = among.few in
        let here = among.at in
        let first = at.line.at in
        quiet_there Postprocessed p at.top.function at.function at.top.next at.item items.Epilogue (among.k + 1) s.state.pc ins at.line.has kind (augmented_quiet Postprocessed p (item_place Postprocessed at.function at.top.next) (saved_of at.function)) (omega arith) (omega arith) there)
    spares s (inr third) = jump_quiet Postprocessed p d holds kept s registers.Ra fork_out third.jumps

    -- a way of so many instructions to the end of the run
    is_on : (m : ℕ) (u : Situation) → Path d (code_at Postprocessed p) holds (t.state.pc + 4) (words - 1) m u run.last → IsInside Postprocessed p u.state → OnTheWay u
    is_on zero u same inside =
        let pc : u.state.pc ≡ ret = ap (λ (x : Situation). x.state.pc) same ∙ run.back in
        let whole : u.state.half ≡ None = ap (λ (x : Situation). x.state.half) same ∙ run.whole in
        inr (subst (IsThird Postprocessed p) (sym pc) (third_there p names holds can.size k.note.cell ks rest at.older at.gs at.top.kind at.top.kept t.word (with_saved_values t.word b 0 (saved_of at.function) (value_in t.state)) (t.word (caller_word b)) ret u.state at.line.body.framed.below pc whole inside))
    is_on (suc m) u path inside = inl (m, path)

    -- the path goes by the same instruction
    goes_by : (s u v : Situation) → Makes Postprocessed p d holds s u → moved_by d holds s (code_at Postprocessed p s.state.pc) ≡ Some v → v ≡ u
    goes_by s u v makes goes =
        let there = ap (moved_by d holds s) makes.there in
        let other = makes.goes in
        cc

    next : (s u : Situation) → OnTheWay s → Makes Postprocessed p d holds s u → IsInside Postprocessed p u.state → OnTheWay u
    next s u (inl (m, (among, (v, goes, path)))) makes inside =
        is_on m u (subst (λ (x : Situation). Path d (code_at Postprocessed p) holds (t.state.pc + 4) (words - 1) m x run.last) (goes_by s u v makes goes) path) inside
    next s u (inr third) makes inside =
        let (pc, whole) = jumps_out Postprocessed p d holds kept s u registers.Ra fork_out third.jumps makes in
        absurd (at_entry Postprocessed p u.state whole (omega arith) inside)

    run_spares : (n : ℕ) (w : Situation) → LeadsBy Postprocessed p d holds n t w → AllSpare Postprocessed p d holds kept (suc n) t
    run_spares n w way =
        spared Postprocessed p d holds kept OnTheWay spares next n t w
        (quiet_spares Postprocessed p d holds kept t (λ ins there.
        let first = at.line.at in
        quiet_there Postprocessed p at.top.function at.function at.top.next at.item items.Epilogue 0 t.state.pc ins at.line.has kind (augmented_quiet Postprocessed p (item_place Postprocessed at.function at.top.next) (saved_of at.function)) (omega arith) (omega arith) there))
        (λ u makes inside. is_on run.runs.rest u (subst (λ (x : Situation). Path d (code_at Postprocessed p) holds (t.state.pc + 4) (words - 1) run.runs.rest x run.last) (goes_by t u run.runs.first makes run.runs.begins) run.runs.path) inside)
        way

  pub epilogue_spares : (n : ℕ) (w : Situation) → LeadsBy Postprocessed p d holds n t w → AllSpare Postprocessed p d holds kept (suc n) t
  epilogue_spares n w way = run_spares it_runs n w way
