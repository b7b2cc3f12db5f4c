-- A worker's thread goes on where it polls. Read spares_gp (of a view), poll_set (another number in sp or gp) and goes_running.
use Rattle.std.proofs.Common.{◌≡◌, ◌≢◌, inl, inr, ⊎_elim, length, ℕ, ℤ, ◌+◌, ◌%◌, ◌^◌, ◌<◌, ◌≤◌, Bool, false, List, [], ◌∷◌, Option, Some, None, refl, sym, ap, ◌∙◌, subst, arith}
use Rattle.std.specs.Prelude.{slice_index_or}
use Rattle.std.specs.List.{Contains}
use Rattle.std.proofs.lemmas.List.Elements.{Contains-append_left}
use Rattle.st_base.specs.declared.chain.Frame.{Frame}
use Rattle.st_base.specs.declared.reg.Reg.{Reg}
use Rattle.st_base.specs.declared.reg.Reg.TheVariants as registers
use Rattle.st_base.specs.Reg.{reg_number}
use Rattle.st_base.specs.declared.thread.ActivationKind.TheVariants.{Forked}
use Rattle.st_base.specs.declared.thread.Held.{Held}
use Rattle.st_rv.specs.declared.ins.Ins.{Ins}
use Rattle.st_rv.specs.declared.ins.Op.TheVariants as ops
use Rattle.st_words.specs.declared.view.Known.{Known}
use Rattle.st_words.specs.declared.view.View.{View}
use Rattle.st_words.proofs.Lists.{contains_here}
use Rattle.st_model.specs.declared.code.Layout.TheVariants.{Postprocessed}
use Rattle.st_model.specs.declared.program.Program.{Program}
use Rattle.st_model.specs.Accepted.{IsAccepted}
use Rattle.st_model.specs.Effect.{File}
use Rattle.st_model.specs.Layout.{upper_ins}
use Rattle.st_model.specs.Memory.{Data}
use Rattle.st_made.specs.Runs.{all_known, known_of}
use Rattle.st_step.specs.declared.state.State.{State}
use Rattle.st_step.specs.Frames.{address_in, value_in, HasFile, IsHeldAs, is_kept}
use Rattle.st_step.specs.Moves.{register, written, move_of, Writes}
use Rattle.st_step.specs.Runs.{Situation, HasRegisters, AreValues}
use Rattle.st_step.proofs.Writes.{length-written, zero-written, values-written, register-written_same}
use Rattle.st_stack.specs.Exported.{Exports, IsLimit}
use Rattle.st_items.specs.Body.{Ends, IsOn}
use Rattle.st_items.specs.Code.{IsSized}
use Rattle.st_items.specs.Ways.{IsBehind as IsBehindWord, JumpsTo}
use Rattle.st_items.proofs.KeptFiles.{not_kept}
use Rattle.st_items.proofs.SavedRegisters.{value-written_other}
use Rattle.st_chain.specs.Walk.{word_in, is_held, named_by, FromNewest}
use Rattle.st_chain.specs.Copying.{over}
use Rattle.st_chain.specs.Seen.{SameKept, joined}
use Rattle.st_standing.specs.Standing.{under, Behind, StandsOn, IsForked}
use Rattle.st_serving.proofs.Begins.{forked_goes}
use Rattle.st_serving.proofs.Unchanged.{under_sees, newest_sees}
use Rattle.st_framed.specs.Framed.{Framed, AreRising}
use Rattle.st_framed.proofs.Stacks.{limit_within}
use Rattle.st_moving.specs.Moving.{AtPoll}
use Rattle.st_run.specs.Behind.{IsBehind}
use Rattle.st_phases.specs.declared.automaton.Automaton.{Automaton}
use Rattle.st_phases.specs.declared.phase.Phase.TheVariants as phases
use Rattle.st_fits.specs.Threads.{ends_of, now, Lies, Stands, Polls, Runs, Spares as SparesWord, Arrives, IsAtItem, OnItsWay}
use Rattle.st_kept.specs.Going.{SparesGp, PollSet, GoesRunning, GoingLaws}
use Rattle.st_kept.proofs.Sparing.{spares_reached}

pub spares_gp : (p : Program) (d : Data) → SparesGp p d
spares_gp p d u t accepted behind in' = spares_reached p d accepted behind.heap t.path t.thread behind.reached (behind.are_in.each t in')

-- ---- a machine with another number in one register

record ElseSame (m m' : State) (at : ℕ) : Type 0 where
  pc : m'.pc ≡ m.pc
  half : m'.half ≡ m.half
  others : (x : ℕ) → x ≢ at → value_in m' x ≡ value_in m x
  has_registers : HasRegisters m → HasRegisters m'
  values : AreValues m → AreValues m'

-- of no call, and nothing stands there
record IsFree (at : ℕ) (file : File) : Type 0 where
  none : slice_index_or file at None ≡ None
  unkept : is_kept at ≡ false
  fp : 8 ≢ at

else_same : (m : State) (r : Reg) (n : ℕ) → m.half ≡ (written m r n).half → n < 2 ^ 64 → (written m r n).pc ≡ m.pc → ElseSame m (written m r n) (reg_number r)
else_same m r n half less pc = record {
  pc = pc;
  half = sym half;
  others = λ x other. value-written_other m r n x other;
  has_registers = λ has. record { count = length-written m r n ∙ has.count; origin = zero-written m r n ∙ has.origin };
  values = λ values. values-written m r n values less;
}

nothing_there : (file : File) (x y : ℕ) (held : Held) → slice_index_or file x None ≡ Some held → slice_index_or file y None ≡ None → x ≢ y
nothing_there file x y held there nothing e = let same = ap (λ (z : ℕ). slice_index_or file z None) e in cc

module _ (p : Program) (accepted : IsAccepted p) (names : List (Held × ℕ)) (held : List (Option ℕ)) (ends : Ends) (m m' : State) (at : ℕ) (same : ElseSame m m' at) (t : Known) (ts : List Known) (rest : List (List Frame)) (free : IsFree at t.thread.registers) where
  on_set : IsOn ends (over held m) → IsOn (ends_of m') (over held m')
  on_set on = record { has_registers = same.has_registers on.has_registers; values = same.values on.values; words = on.words; lo = refl; hi = refl; sp = refl; gp = refl }

  kept_set : SameKept (value_in m) (value_in m')
  kept_set x kept = sym (same.others x (not_kept x at kept free.unkept))

  fp_set : register m registers.S0 ≡ register m' registers.S0
  fp_set = sym (same.others 8 free.fp)

  file_set : HasFile (named_by names) t.thread.registers (value_in m) → HasFile (named_by names) t.thread.registers (value_in m')
  file_set has x name there = subst (λ (n : ℕ). IsHeldAs (named_by names) name n) (sym (same.others x (nothing_there t.thread.registers x at name there free.none))) (has x name there)

  module _ (fs : List Frame) where
    behind_set : Behind p names (is_held held) (under p names (is_held held) t.note.cell ts rest) 0 (over held m) t.thread.activations fs → Behind p names (is_held held) (under p names (is_held held) t.note.cell ts rest) 0 (over held m') t.thread.activations fs
    behind_set behind =
        let seen = newest_sees p names (is_held held) accepted t.note.cell ts rest (word_in held) t.thread.activations fs 0 m.pc (register m registers.S0) (value_in m) (value_in m') kept_set behind in
        let under_it = under p names (is_held held) t.note.cell ts rest in
        subst (λ (pc : ℕ). FromNewest p (named_by names) (is_held held) under_it 0 pc (register m' registers.S0) (word_in held) (value_in m') t.thread.activations fs) (sym same.pc)
        (subst (λ (fp : ℕ). FromNewest p (named_by names) (is_held held) under_it 0 m.pc fp (word_in held) (value_in m') t.thread.activations fs) fp_set seen)

  forked_set : IsForked p names (is_held held) ends (over held m) t ts rest → IsForked p names (is_held held) (ends_of m') (over held m') t ts rest
  forked_set is =
      let lower = under_sees p names (is_held held) accepted t.note.cell ts rest (word_in held) Forked is.first.kept (value_in m) (value_in m') (register m registers.S0) (m.pc + 4) kept_set is.below in
      let under_it = under p names (is_held held) t.note.cell ts rest in
      record {
        machine = on_set is.machine;
        whole = same.half ∙ is.whole;
        file = file_set is.file;
        frameless = is.frameless;
        first = is.first;
        acts = is.acts;
        function = is.function;
        here = is.here;
        start = is.start;
        bytes = is.bytes;
        handles = is.handles;
        kind = is.kind;
        behind = subst (IsBehindWord Postprocessed p) (sym same.pc) is.behind;
        jumps = subst (λ (pc : ℕ). JumpsTo Postprocessed p pc registers.Ra (address_in Postprocessed p is.first.function is.function is.first.next)) (sym same.pc) is.jumps;
        below = subst (λ (pc : ℕ). under_it Forked is.first.kept (word_in held) (value_in m') (register m' registers.S0) (pc + 4)) (sym same.pc)
            (subst (λ (fp : ℕ). under_it Forked is.first.kept (word_in held) (value_in m') fp (m.pc + 4)) fp_set lower);
      }

  poll_set_by : (fs : List Frame) → AtPoll p names (is_held held) ends (over held m) t fs ts rest → AtPoll p names (is_held held) (ends_of m') (over held m') t fs ts rest
  poll_set_by fs (inl (on, behind)) = let newest = behind_set fs behind in inl (record { machine = on_set on.machine; whole = same.half ∙ on.whole; file = file_set on.file; frameless = on.frameless; stands = inr newest }, newest)
  poll_set_by fs (inr (none, forked)) = inr (none, forked_set forked)

frameless_at : (p : Program) (names : List (Held × ℕ)) (holds : ℕ → Bool) (ends : Ends) (s : Situation) (t : Known) (fs : List Frame) (ts : List Known) (rest : List (List Frame)) → AtPoll p names holds ends s t fs ts rest → slice_index_or t.thread.registers 2 None ≡ None
frameless_at p names holds ends s t fs ts rest (inl (on, behind)) = on.frameless.sp
frameless_at p names holds ends s t fs ts rest (inr (none, forked)) = forked.frameless.sp

pub poll_set : (p : Program) → PollSet p
poll_set p names held ends m registers.Sp n t fs ts rest accepted is less spares at =
    poll_set_by p accepted names held ends m (written m registers.Sp n) 2 (else_same m registers.Sp n refl less refl) t ts rest
    (record { none = frameless_at p names (is_held held) ends (over held m) t fs ts rest at; unkept = refl; fp = λ e. absurd (omega (arith, e)) }) fs at
poll_set p names held ends m registers.Gp n t fs ts rest accepted is less spares at =
    poll_set_by p accepted names held ends m (written m registers.Gp n) 3 (else_same m registers.Gp n refl less refl) t ts rest (record { none = spares; unkept = refl; fp = λ e. absurd (omega (arith, e)) }) fs at
poll_set p names held ends m _ n t fs ts rest accepted is less spares at = absurd is

-- ---- the thread runs

-- where frames lie is nothing of gp
pub framed_ends : (s : Exports) (ends ends' : Ends) (frames : List Frame) → ends'.lo ≡ ends.lo → ends'.hi ≡ ends.hi → ends'.sp ≡ ends.sp → Framed s ends frames → Framed s ends' frames
framed_ends s ends ends' frames lo hi sp framed =
    let stack = framed.stack in
    record {
      stack = record {
        range = stack.range;
        lo = lo ∙ stack.lo;
        hi = hi ∙ stack.hi;
        low = stack.low;
        high = stack.high;
        above = subst (λ (n : ℕ). n ≤ ends'.sp) (sym lo) (subst (λ (n : ℕ). ends.lo ≤ n) (sym sp) stack.above);
        even = subst (λ (n : ℕ). n % 16 ≡ 0) (sym sp) stack.even;
        limit = λ n is. subst (λ (m : ℕ). m ≤ n) (sym sp) (stack.limit n is);
        on = stack.on;
        apart = stack.apart;
      };
      all_apart = framed.all_apart;
      some = framed.some;
      clear = framed.clear;
      young = framed.young;
      old = framed.old;
      parts = framed.parts;
      rising = subst (λ (n : ℕ). AreRising s n framed.young) (sym sp) framed.rising;
      others = framed.others;
    }

-- a jump stores no number
no_write : (d : Data) (m m' : State) (i : Ins) (rd : Reg) (distance : ℤ) (q n : ℕ) → i ≡ upper_ins ops.Jal rd distance → move_of d m i ≡ Writes q n m' → ⊥
unfolding move_of
no_write d m m' i rd distance q n is writes =
    let goes = subst (λ (j : Ins). move_of d m j ≡ Writes q n m') is writes in
    let never : ⊥ = cc in never

module _ (p : Program) (d : Data) (x : Automaton) (u : View) (limit : ℕ) (accepted : IsAccepted p) (size : IsSized Postprocessed p) (behind : IsBehind p d u) (s : Polls p d x u []) (is_limit : IsLimit x.stack.hi x.stack.exported limit) where
  abbrev y : Automaton
  y = record x { machine = written x.machine registers.Gp limit; phase = phases.Running }

  low : limit < 2 ^ 64
  low =
      let stack = s.lies.framed.stack in
      let within = limit_within x.stack (ends_of x.machine) limit stack is_limit in
      let high = stack.high in
      omega (arith, within, high)

  top_in : Contains (all_known u) s.top
  top_in = Contains-append_left u.threads (known_of u.chains) s.top (subst (λ (ts : List Known). Contains ts s.top) (sym s.is) (contains_here s.top s.below))

  at : AtPoll p u.names (is_held u.held) (ends_of y.machine) (now y u) s.top s.frames s.below s.lower
  at = poll_set p u.names u.held (ends_of x.machine) x.machine registers.Gp limit s.top s.frames s.below s.lower accepted tt low (spares_gp p d u s.top accepted behind top_in) s.at.1

  sp_is : (ends_of y.machine).sp ≡ (ends_of x.machine).sp
  sp_is = value-written_other x.machine registers.Gp limit 2 (λ e. absurd (omega (arith, e)))

  gp_is : HasRegisters y.machine → (ends_of y.machine).gp ≡ limit
  gp_is has =
      let long : length x.machine.registers ≡ 32 = sym (length-written x.machine registers.Gp limit) ∙ has.count in
      register-written_same x.machine registers.Gp limit (omega (arith, long)) refl

  lies : Lies y u (ends_of y.machine) (joined (s.frames ∷ s.lower))
  lies =
      let was = s.lies in
      record {
        framed = framed_ends x.stack (ends_of x.machine) (ends_of y.machine) (joined (s.frames ∷ s.lower)) refl refl sp_is was.framed;
        used = subst (λ (n : ℕ). x.stack.hi ≤ n + u.frame_bytes) (sym sp_is) was.used;
        away = was.away;
      }

  stands : (t : Situation) → StandsOn p u.names (is_held u.held) (ends_of y.machine) t s.top s.frames s.below s.lower → Stands (IsAtItem p d u (ends_of y.machine) t) y u (ends_of y.machine) []
  stands t on = record { top = s.top; below = s.below; is = s.is; frames = s.frames; lower = s.lower; at = (s.at.0, on); plain = s.plain; lies = lies; leases = s.leases; apart = s.apart }

  comes : (t : Situation) → HasRegisters y.machine → StandsOn p u.names (is_held u.held) (ends_of y.machine) t s.top s.frames s.below s.lower → Arrives p d y u (ends_of y.machine) t
  comes t has on = inl (stands t on, subst (IsLimit x.stack.hi x.stack.exported) (sym (gp_is has)) is_limit)

  -- the jump to its first item stores nothing
  spares : IsForked p u.names (is_held u.held) (ends_of y.machine) (now y u) s.top s.below s.lower → SparesWord p d u (now y u)
  spares forked ins q n m there writes none f leased is =
      let jumps = forked.jumps.there in
      let same : ins ≡ upper_ins ops.Jal registers.Ra forked.jumps.distance = cc in
      no_write d y.machine m ins registers.Ra forked.jumps.distance q n same writes

  forked_runs : s.frames ≡ [] → IsForked p u.names (is_held u.held) (ends_of y.machine) (now y u) s.top s.below s.lower → OnItsWay p d y u
  forked_runs none forked =
      let (last, way, words, on) = forked_goes p d u.names (is_held u.held) (ends_of y.machine) (now y u) s.top s.below s.lower accepted size forked in
      record {
        left = 1;
        few = omega arith;
        last = last;
        ends = ends_of y.machine;
        way = (way.0, spares forked, way.1);
        arrives = comes last forked.machine.has_registers (subst (λ (fs : List Frame). StandsOn p u.names (is_held u.held) (ends_of y.machine) last s.top fs s.below s.lower) (sym none) on);
      }

  runs : Runs p d y u
  runs = ⊎_elim
      (λ stood. inl (record { left = 0; few = omega arith; last = now y u; ends = ends_of y.machine; way = refl; arrives = comes (now y u) stood.0.machine.has_registers stood.0 }))
      (λ forked. inl (forked_runs forked.0 forked.1)) at

pub goes_running : (p : Program) (d : Data) → GoesRunning p d
goes_running p d x y u accepted size behind polls on = subst (λ (z : Automaton). Runs p d z u) (sym on.same) (runs p d x u on.limit accepted size behind polls on.is_limit)

pub going_laws : (p : Program) (d : Data) → GoingLaws p d
going_laws p d = record { spares = spares_gp p d; poll_set = poll_set p; goes_running = goes_running p d }
