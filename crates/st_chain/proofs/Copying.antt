-- An instruction of a copy on the machine: its step of the board may be asked (may_step), and the copy leads on (copied_on). A copy begins at the first
-- word behind a function's items (copy_begins), and leads from a thread's newest activation to the older one (copy_leads).
use Rattle.std.proofs.Common.{◌≡◌, ◌⊎◌, inl, inr, ℕ, zero, suc, ◌+◌, ◌-◌, ◌*◌, ◌^◌, ◌<◌, Bool, true, false, List, ◌∷◌, length, take, Option, Some, None, refl, ap, sym, ◌∙◌, subst, arith, if◌then◌else◌}
use Rattle.std.specs.Prelude.{◌==◌, nat_lt}
use Rattle.st_base.specs.declared.chain.Frame.{Frame}
use Rattle.st_base.specs.declared.image.Image.{Image}
use Rattle.st_base.specs.declared.reg.Reg.TheVariants as registers
use Rattle.st_base.specs.declared.thread.Activation.{Activation}
use Rattle.st_base.specs.declared.thread.ActivationKind.{ActivationKind}
use Rattle.st_rv.specs.declared.ins.Ins.{Ins}
use Rattle.st_rv.specs.declared.ins.Op.{Op}
use Rattle.st_rv.specs.declared.ins.Op.TheVariants as ops
use Rattle.st_rv.specs.declared.ins.OpKind.TheVariants as kinds
use Rattle.st_rv.specs.Op.{kind_of, op_number}
use Rattle.st_rv.specs.Results.{access_size}
use Rattle.st_model.specs.declared.code.Layout.TheVariants.{Postprocessed}
use Rattle.st_model.specs.declared.program.Program.{Program}
use Rattle.st_model.specs.declared.program.ProgramFunction.{ProgramFunction}
use Rattle.st_model.specs.Accepted.{IsAccepted}
use Rattle.st_model.specs.Effect.{File}
use Rattle.st_model.specs.Layout.{saved_of, items_size, functions_size}
use Rattle.st_model.specs.Memory.{Data}
use Rattle.st_words.specs.Steps.{Step, StackLoad, Answer, kept}
use Rattle.st_step.specs.declared.state.State.{State}
use Rattle.st_step.specs.declared.machine.StepEnd.{StepEnd}
use Rattle.st_step.specs.Moves.{Move, Goes, Reads, Writes, Marks, Stops, Outside, move_of, MayMove, MayStep, Moves, Stepped, is_entry, lacks_room, is_stack, in_one_word, address_of, data_when, jump_move, register}
use Rattle.st_step.specs.Runs.{Situation, IsReturn, Path, RunsStretch, moved, moved_by, where_held, return_word}
use Rattle.st_step.specs.Frames.{Naming, ComesBack, address_in, value_in}
use Rattle.st_items.specs.Body.{Context, Ends, IsOn, SeesOutside}
use Rattle.st_items.specs.Code.{code_at, IsSized}
use Rattle.st_items.specs.Copied.{copy_address, IsAtCopy, Older, is_reading}
use Rattle.st_items.proofs.Addresses.{behind_entries}
use Rattle.st_items.proofs.Computes.{moves_as}
use Rattle.st_items.proofs.Copying.{copies, copy_reads, copy_stands}
use Rattle.st_items.proofs.Tables.{fetched_at}
use Rattle.st_chain.specs.Walk.{word_in, is_held, number_or, IsActivation, Below, FromNewest}
use Rattle.st_chain.specs.Copying.{over, CopyRuns, MayCopy, Loads, Copied}

-- ---- the instruction, and where it leads

record IsNext (p : Program) (d : Data) (held : List (Option ℕ)) (f : ℕ) (function : ProgramFunction) (left : ℕ) (m last : State) : Type 0 where
  pub i : Ins
  pub place : ℕ
  pub at : m.pc ≡ 0x10000 + 4 * place
  pub there : code_at Postprocessed p m.pc ≡ Some i
  pub reads : is_reading i.op ≡ true
  pub next : Situation
  pub goes : moved (is_held held) (over held m) (move_of d m i) ≡ Some next
  pub rest : Path d (code_at Postprocessed p) (is_held held) (copy_address p f function) (4 + length (saved_of function)) left next (over held last)

next_of : (p : Program) (d : Data) (held : List (Option ℕ)) (f : ℕ) (function : ProgramFunction) (left : ℕ) (m last : State) → CopyRuns p d held f function (suc left) m last → IsNext p d held f function left m last
next_of p d held f function left m last runs =
    let (among, (u, goes, rest)) = runs.path in
    let (i, there, reads) = copy_reads p f function among.k runs.here among.few in
    let at = among.at in
    let here : code_at Postprocessed p m.pc ≡ Some i = ap (code_at Postprocessed p) at ∙ there in
    record { i = i; place = functions_size Postprocessed (take f p.functions) + items_size Postprocessed function function.items + among.k; at = omega arith; there = here; reads = reads; next = u; goes = sym (ap (moved_by d (is_held held) (over held m)) here) ∙ goes; rest = rest }

-- ---- its move

-- it changes no word
abbrev IsQuiet : Move → Type 0
IsQuiet (Writes q n m) = ⊥
IsQuiet (Marks q m) = ⊥
IsQuiet _ = Prim.Unit

quiet_if : (b : Bool) (x y : Move) → IsQuiet x → IsQuiet y → IsQuiet (if b then x else y)
quiet_if true x y first second = first
quiet_if false x y first second = second

quiet_data : (m : State) (i : Ins) (b : Bool) (o : Option ℕ) → IsQuiet (data_when m i b o)
quiet_data m i false o = tt
quiet_data m i true None = tt
quiet_data m i true (Some n) = tt

quiet_jump : (b : Bool) (m : State) (i : Ins) → IsQuiet (jump_move b m i)
quiet_jump true m i = quiet_if (nat_lt (address_of m i) (2 ^ 32)) _ _ tt tt
quiet_jump false m i = tt

reading_kind : (op : Op) → is_reading op ≡ true → (kind_of op ≡ kinds.Immediate) ⊎ ((kind_of op ≡ kinds.Load) ⊎ (kind_of op ≡ kinds.Jump))
reading_kind ops.Addi is = inl refl
reading_kind ops.Ld is = inr (inl refl)
reading_kind ops.Jalr is = inr (inr refl)
reading_kind _ is = absurd (let never : ⊥ = cc in never)

quiet_move : (d : Data) (m : State) (i : Ins) → is_reading i.op ≡ true → IsQuiet (move_of d m i)
quiet_move d m i is =
    elim (reading_kind i.op is) [
      | inl immediate ↦ subst IsQuiet (sym (moves_as kinds.Immediate d m i immediate)) (quiet_if (lacks_room m i) _ _ tt tt)
      | inr (inl load) ↦ subst IsQuiet (sym (moves_as kinds.Load d m i load)) (quiet_if (is_stack i.rs1) _ _ (quiet_if (in_one_word (address_of m i) (access_size i.op)) _ _ tt tt) (quiet_data m i _ _))
      | inr (inr jump) ↦ subst IsQuiet (sym (moves_as kinds.Jump d m i jump)) (quiet_jump (op_number i.op == op_number ops.Jalr) m i)
    ]

held_some : (b : Bool) (s u : Situation) → where_held b s ≡ Some u → (b ≡ true) × (s ≡ u)
held_some true s u e = (refl, let same : s ≡ u = cc in same)
held_some false s u e = absurd (let never : ⊥ = cc in never)

may_move : (asks : Step → Type 0) (held : List (Option ℕ)) (s u : Situation) (move : Move) → IsQuiet move → moved (is_held held) s move ≡ Some u → ((q : ℕ) → is_held held q ≡ true → asks (StackLoad q)) → MayMove asks move
may_move asks held s u (Goes m) quiet e may = tt
may_move asks held s u (Reads q go) quiet e may = may q (held_some (is_held held q) _ u e).0
may_move asks held s u (Writes q n m) quiet e may = absurd quiet
may_move asks held s u (Marks q m) quiet e may = absurd quiet
may_move asks held s u (Stops end) quiet e may = tt
may_move asks held s u Outside quiet e may = absurd (let never : ⊥ = cc in never)

pub may_step : (asks : Step → Type 0) (image : Image) (d : Data) (m : State) → MayCopy asks image d m → MayStep asks image d m
may_step asks image d m c =
    let x = next_of c.p d c.held c.f c.function c.left m c.last c.runs in
    inr (x.i, fetched_at Postprocessed c.p image m.pc x.place x.i c.code x.at x.there, may_move asks c.held (over c.held m) x.next (move_of d m x.i) (quiet_move d m x.i x.reads) x.goes c.may)

-- ---- what it comes to

module _ {Board : Type 0} (made : Step → Answer → Board → Type 0) (old new : Board) (m m' : State) (end : StepEnd) where
  module _ (p : Program) (d : Data) (held : List (Option ℕ)) (f : ℕ) (function : ProgramFunction) (left : ℕ) (last : State) where
    -- the copy runs on from there
    abbrev RunsOn : Situation → Type 0
    RunsOn s = Path d (code_at Postprocessed p) (is_held held) (copy_address p f function) (4 + length (saved_of function)) left s (over held last)

    by_move : (next : Situation) (move : Move) → IsQuiet move → moved (is_held held) (over held m) move ≡ Some next → RunsOn next → Moves made old m move end m' new → Loads made old held new (RunsOn (over held m'))
    by_move next (Goes m1) quiet e runs (ends, same, stays) =
        let is_next : over held m1 ≡ next = cc in
        inl (stays, subst (λ (k : State). RunsOn (over held k)) (sym same) (subst RunsOn (sym is_next) runs))
    by_move next (Reads q go) quiet e runs (ends, (n, was_made, same)) =
        let (there, is_next) = held_some (is_held held q) _ next e in
        inr (
          q,
          n,
          there,
          was_made,
          λ told.
              let value : word_in held q ≡ n = ap number_or told in
              subst (λ (k : State). RunsOn (over held k)) (sym same) (subst (λ (v : ℕ). RunsOn (over held (go v))) value (subst RunsOn (sym is_next) runs)),
        )
    by_move next (Writes q n m1) quiet e runs moves = absurd quiet
    by_move next (Marks q m1) quiet e runs moves = absurd quiet
    by_move next (Stops stop) quiet e runs moves = absurd (let never : ⊥ = cc in never)
    by_move next Outside quiet e runs moves = absurd moves

  loads_so : (held : List (Option ℕ)) (A B : Type 0) → (A → B) → Loads made old held new A → Loads made old held new B
  loads_so held A B so (inl (stays, goes)) = inl (stays, so goes)
  loads_so held A B so (inr (q, n, there, was_made, goes)) = inr (q, n, there, was_made, λ told. so (goes told))

  pub copied_on : (image : Image) (d : Data) → Stepped made old m image d end m' new → Copied made old image d m m' new
  copied_on image d stepped p held f function left last code runs =
      let x = next_of p d held f function left m last runs in
      let at = x.at in
      let out : is_entry m.pc ≡ false = behind_entries m.pc (omega arith) in
      let fetches = fetched_at Postprocessed p image m.pc x.place x.i code x.at x.there in
      loads_so held _ _ (λ path. record { here = runs.here; path = path }) (by_move p d held f function left last x.next (move_of d m x.i) (quiet_move d m x.i x.reads) x.goes x.rest (stepped.moved out x.i fetches))

-- ---- from one activation to the older one

-- a path goes among more words
wider : (d : Data) (code : ℕ → Option Ins) (held : ℕ → Bool) (from words more n : ℕ) (s t : Situation) → words < more → Path d code held (from + 4) words n s t → Path d code held from more n s t
wider d code held from words more zero s t wide same = same
wider d code held from words more (suc n) s t wide (among, (u, goes, rest)) =
    let few = among.few in
    let at = among.at in
    (record { k = suc among.k; few = omega arith; at = omega arith }, (u, goes, wider d code held from words more n u t wide rest))

-- all instructions of a stretch
whole : (d : Data) (code : ℕ → Option Ins) (held : ℕ → Bool) (words count : ℕ) (s t : Situation) → 0 < words → RunsStretch d code held words count s t → Path d code held s.state.pc words count s t
whole d code held words count s t some runs =
    subst (λ (n : ℕ). Path d code held s.state.pc words n s t) (sym runs.counts)
    (record { k = 0; few = some; at = omega arith }, (runs.first, runs.begins, wider d code held s.state.pc (words - 1) words runs.rest runs.first t (omega arith) runs.path))

module _ (p : Program) (d : Data) (held : List (Option ℕ)) (ends : Ends) (m : State) where
  pub copy_begins : (bottom f : ℕ) (function : ProgramFunction) → IsAtCopy p (is_held held) ends bottom (over held m) f function
      → (last : State) × CopyRuns p d held f function (4 + length (saved_of function)) m last × Older ends (register m registers.S0) function (over held m) (over held last)
  copy_begins bottom f function at =
      let (u, runs, older) = copies p d (is_held held) ends bottom (over held m) f function at in
      let same : u ≡ over held u.state = λ i. record { state = u.state; word = older.word i } in
      let path = subst (λ (n : ℕ). Path d (code_at Postprocessed p) (is_held held) n (4 + length (saved_of function)) (4 + length (saved_of function)) (over held m) u) at.at (whole d (code_at Postprocessed p) (is_held held) (4 + length (saved_of function)) (4 + length (saved_of function)) (over held m) u (omega arith) runs) in (
        u.state,
        record { here = at.here; path = subst (λ (v : Situation). Path d (code_at Postprocessed p) (is_held held) (copy_address p f function) (4 + length (saved_of function)) (4 + length (saved_of function)) (over held m) v) same path },
        subst (λ (v : Situation). Older ends (register m registers.S0) function (over held m) v) same older,
      )

  -- where the older activation stands: it has called the newest one, or what lies below the thread stands
  pub copy_leads : (names : Naming) (end : Context) (a : Activation) (older : List Activation) (f : Frame) (fs : List Frame) (ahead pc : ℕ) (function : ProgramFunction) → IsAccepted p → IsSized Postprocessed p → IsOn ends (over held m) → m.pc ≡ copy_address p a.function function
      → IsActivation p names (is_held held) (Below p names (is_held held) end older fs) (word_in held) (value_in m) ahead pc (register m registers.S0) a function f → IsReturn (word_in held (return_word (register m registers.S0))) → SeesOutside (Below p names (is_held held) end older fs) f.low (f.low + function.frame_bytes)
      → (last : State) × CopyRuns p d held a.function function (4 + length (saved_of function)) m last × Older ends (register m registers.S0) function (over held m) (over held last) × Below p names (is_held held) end older fs a.kind a.kept (word_in held) (value_in last) (register last registers.S0) last.pc
  copy_leads names end a older f fs ahead pc function accepted size on at is back sees =
      let (last, runs, leads) = copy_begins f.low a.function function (record { accepted = accepted; size = size; here = is.here; machine = on; frame = is.lies.place; base = is.framed.base; back = back; at = at }) in
      (last, runs, leads, copy_stands names (Below p names (is_held held) end older fs) ends f.low (over held m) (over held last) function a sees is.framed leads)

-- an activation that has called one of its thread is the newest one of what is left of it
pub below_newest : (p : Program) (names : Naming) (holds : ℕ → Bool) (end : Context) (a : Activation) (older : List Activation) (f : Frame) (fs : List Frame) (kind : ActivationKind) (kept : File) (word value : ℕ → ℕ) (fp ret : ℕ) → Below p names holds end (a ∷ older) (f ∷ fs) kind kept word value fp ret → FromNewest p names holds end 0 ret fp word value (a ∷ older) (f ∷ fs)
below_newest p names holds end a older f fs kind kept word value fp ret (function, called, lies, (caller, below)) =
    let back : ret ≡ address_in Postprocessed p a.function function a.next = subst (λ (k : ActivationKind). ComesBack Postprocessed p k a function ret) called caller.back in
    (function, record { here = caller.here; begun = caller.begun; at = omega arith; lies = lies; framed = record { base = caller.base; slots = caller.slots; below = below } })
