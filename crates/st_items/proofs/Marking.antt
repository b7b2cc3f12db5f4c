-- An augmented epilogue that marks its frame leads to the mark first (marks_at), and then by the jump back (back_way) to where the epilogue leads to
-- (leaves_split, which is `leaves` of Leaving with the split way).
use Rattle.std.proofs.Common.{◌≡◌, ◌⊎◌, inl, inr, ℕ, suc, ◌+◌, ◌*◌, ◌<◌, ◌≤◌, Bool, List, length, refl, ap, sym, ◌∙◌, subst, arith}
use Rattle.std.proofs.lemmas.Bool.{cases_lt}
use Rattle.st_base.specs.declared.reg.Reg.{Reg}
use Rattle.st_base.specs.declared.reg.Reg.TheVariants as registers
use Rattle.st_base.specs.declared.thread.Activation.{Activation}
use Rattle.st_model.specs.declared.code.Layout.TheVariants.{Postprocessed}
use Rattle.st_model.specs.declared.program.Item.{Item}
use Rattle.st_model.specs.declared.program.Program.{Program}
use Rattle.st_model.specs.declared.program.ProgramFunction.{ProgramFunction}
use Rattle.st_model.specs.Effect.{File}
use Rattle.st_model.specs.Layout.{saved_of, item_place}
use Rattle.st_model.specs.Memory.{Data}
use Rattle.st_step.specs.Frames.{Naming}
use Rattle.st_step.specs.Moves.{Move, register, goes_on, at_place}
use Rattle.st_step.specs.Runs.{Situation, moved, return_word, back_ins, at_mark}
use Rattle.st_step.proofs.Marking.{to_mark_law}
use Rattle.st_items.specs.Code.{code_at}
use Rattle.st_items.specs.Ways.{IsBehind, Makes}
use Rattle.st_items.specs.Body.{Ends, Context}
use Rattle.st_items.specs.Left.{IsAtEpilogue, Left}
use Rattle.st_items.specs.Marked.{IsAway, NeedsNoWords, MarksAt, Marked}
use Rattle.st_items.proofs.Leaving.{Comes, comes_leads, frame, base, holds, code, size_is, low, epilogue_leads, freed, marked_there, marked}

-- ---- behind the mark

back_makes : (p : Program) (d : Data) (held held' : ℕ → Bool) (word : ℕ → ℕ) (b : ℕ) (t s : Situation) → MarksAt p d held b t s → Makes Postprocessed p d held' (record { state = goes_on s.state; word = word }) (record { state = at_place (s.word (return_word b)) s.state; word = word })
back_makes p d held held' word b t s is = record {
  ins = back_ins;
  there = ap (code_at Postprocessed p) is.mark.next ∙ is.mark.back;
  goes = ap (λ (m : Move). moved held' (record { state = goes_on s.state; word = word }) m) is.mark.goes;
}

-- the jump back, and what comes behind it
pub back_way : (p : Program) (d : Data) (held : ℕ → Bool) (b n : ℕ) (t s u : Situation) → MarksAt p d held b t s → NeedsNoWords Postprocessed p d n (at_place (s.word (return_word b)) s.state) u.state → NeedsNoWords Postprocessed p d (suc n) (goes_on s.state) u.state
back_way p d held b n t s u is way held' word = (
  inr (subst (IsBehind Postprocessed p) (sym is.mark.next) is.behind),
  (record { state = at_place (s.word (return_word b)) s.state; word = word }, back_makes p d held held' word b t s is, way held' word),
)

-- ---- the way to the mark

-- what an augmented epilogue leads to, and by its mark where it marks its frame
abbrev pub LeavesSplit : Program → Data → (ℕ → Bool) → Context → Ends → Situation → Activation → Type 0
LeavesSplit p d held older ends t top =
    (u : Situation) × Comes Postprocessed p d held t u × Left Postprocessed older ends (register t.state registers.S0) t top u × (IsAway ends (register t.state registers.S0) → Marked p d held (register t.state registers.S0) t u)

module _ (p : Program) (d : Data) (held : ℕ → Bool) (names : Naming) (older : Context) (ends : Ends) (bottom : ℕ) (t : Situation) (top : Activation) (file : File) (function : ProgramFunction) (item : Item) (at : IsAtEpilogue Postprocessed p held names older ends bottom t top file function item) where
  abbrev fp : ℕ
  fp = register t.state registers.S0

  abbrev regs : List Reg
  regs = saved_of function

  -- at the mark
  abbrev there : Situation
  there = at_mark regs t

  behind_first : (k pc : ℕ) → 0 < k → k < 9 + length regs → pc ≡ t.state.pc + 4 * k → IsBehind Postprocessed p pc
  behind_first k pc some few here =
      let line_at = at.line.at in
      let size = size_is Postprocessed p d held names older ends bottom t top file function item at in
      record { f = top.function; function = function; i = top.next; item = item; has = at.line.has; k = k; some = some; few = omega arith; at = omega arith }

  pub marks_at : IsAway ends fp → MarksAt p d held fp t there
  marks_at why =
      let machine = at.line.body.machine in
      let sp = machine.sp in
      let gp = machine.gp in
      let away : (fp ≤ register t.state registers.Sp) ⊎ (register t.state registers.Gp < fp) = elim why [ inl most ↦ inl (omega arith) | inr beyond ↦ inr (omega arith) ] in
      let far = low Postprocessed p d held names older ends bottom t top file function item at in
      let law = to_mark_law d (code_at Postprocessed p) held function t 0x8000_0000 (item_place Postprocessed function top.next) machine.words (frame Postprocessed p d held names older ends bottom t top file function item at) (code Postprocessed p d held names older ends bottom t top file function item at)
      (base Postprocessed p d held names older ends bottom t top file function item at) (holds Postprocessed p d held names older ends bottom t top file function item at) at.back (record { below = omega arith }) away in
      let (count, few, runs) = law.0 in
      record {
        leads = comes_leads Postprocessed p d held t there (epilogue_leads Postprocessed p d held names older ends bottom t top file function item at (9 + length regs) count there refl (omega arith) (omega arith) runs);
        words = refl;
        whole = refl;
        mark = law.1;
        inside = behind_first (7 + length regs) there.state.pc (omega arith) (omega arith) refl;
        behind = behind_first (8 + length regs) (there.state.pc + 4) (omega arith) (omega arith) (omega arith);
      }

  by_mark : IsAway ends fp → LeavesSplit p d held older ends t top
  by_mark why =
      let (way, left) = marked p d held names older ends bottom t top file function item at why in
      (marked_there p d held names older ends bottom t top file function item at, way, left, λ away. record { s = there; marks = marks_at away; comes = refl })

  by_freeing : ends.sp < fp → fp ≤ ends.gp → LeavesSplit p d held older ends t top
  by_freeing less most =
      let (u, way, left) = freed p d held names older ends bottom t top file function item at less most in
      (u, way, left, λ away. elim away [ inl above ↦ absurd (omega arith) | inr beyond ↦ absurd (omega arith) ])

  pub leaves_split : LeavesSplit p d held older ends t top
  leaves_split =
      elim (cases_lt ends.sp fp) [
        | inl less ↦ elim (cases_lt ends.gp fp) [ inl beyond ↦ by_mark (inr beyond) | inr most ↦ by_freeing less most ]
        | inr most ↦ by_mark (inl most)
      ]
