-- How a run ends at an entry, as the ordinary-call run does: by a trap (trap_ends), at a join (waits_end), past the printed bytes (bytes_end), with
-- the root's first call (done_ends), or because no cell is left (cells_end; cells_left where one is).
use Rattle.std.proofs.Common.{◌≡◌, inl, inr, ℕ, ◌-◌, Bool, true, false, List, Some, None, refl, ap, sym, ◌∙◌, arith}
use Rattle.std.specs.Prelude.{nat_lt, reverse}
use Rattle.std.proofs.lemmas.Bool.{lt-ltb, le-ltb, ltb-true, ltb-false}
use Rattle.st_base.specs.declared.limits.Limits.{Limits}
use Rattle.st_base.specs.declared.limits.LimitKind.TheVariants as limit_kinds
use Rattle.st_base.specs.declared.line.Line.{Line}
use Rattle.st_base.specs.declared.thread.Held.{Held}
use Rattle.st_base.specs.declared.thread.TrapKind.{TrapKind}
use Rattle.st_model.specs.declared.ordinary.OrdEnd.TheVariants as ends
use Rattle.st_model.specs.declared.ordinary.State.{State}
use Rattle.st_model.specs.declared.ordinary.Turn.TheVariants.{Over}
use Rattle.st_model.specs.declared.program.Program.{Program}
use Rattle.st_model.specs.Bounded.{past_cells, limit_when}
use Rattle.st_model.specs.Memory.{Data}
use Rattle.st_model.specs.Ordinary.{step, trapped}
use Rattle.st_plain.specs.declared.cells.Cell.{Cell}
use Rattle.st_plain.specs.declared.cells.Note.{Note}
use Rattle.st_plain.specs.declared.stop.Ending.TheVariants as endings
use Rattle.st_plain.specs.declared.whole.PlainEnd.TheVariants as PlainEnds
use Rattle.st_plain.specs.Running.{IsKept, EndsBy, limit_met}
use Rattle.st_plain.specs.Threads.{path_by}
use Rattle.st_plain.proofs.Naming.{path_of_notes}

-- ---- the ordinary-call run's ends

module _ (p : Program) (d : Data) (limits : Limits) (drawn : ℕ) (names : List Held) (cells : List Cell) (notes : List Note) (out : List ℕ) (s : State) (kept : IsKept p limits names cells notes out s) (passes : limit_met p limits drawn s ≡ None) where
  path_there : path_by (reverse notes) ≡ s.rest.thread.path
  path_there = sym (path_of_notes names cells (reverse notes) s.rest kept.stand kept.notes_stand)

  pub trap_ends : (kind : TrapKind) (line : Line) → step p d s ≡ trapped s.rest kind line → EndsBy p d limits drawn notes out s (endings.Trap kind line)
  trap_ends kind line steps =
      inr (passes, (ends.Trap kind line s.rest.thread.path s.rest.out, steps, ap (λ (path : List ℕ). Some (ends.Trap kind line path out)) path_there ∙ ap (λ (bytes : List ℕ). Some (ends.Trap kind line s.rest.thread.path bytes)) (sym kept.printed)))

  pub waits_end : (line : Line) → step p d s ≡ Over (ends.Waits line s.rest.thread.path s.rest.out) → EndsBy p d limits drawn notes out s (endings.Waits line)
  waits_end line steps =
      inr (passes, (ends.Waits line s.rest.thread.path s.rest.out, steps, ap (λ (path : List ℕ). Some (ends.Waits line path out)) path_there ∙ ap (λ (bytes : List ℕ). Some (ends.Waits line s.rest.thread.path bytes)) (sym kept.printed)))

  pub bytes_end : step p d s ≡ Over (ends.OutLimit s.rest.out) → EndsBy p d limits drawn notes out s endings.OutLimit
  bytes_end steps = inr (passes, (ends.OutLimit s.rest.out, steps, ap (λ (bytes : List ℕ). Some (ends.OutLimit bytes)) (sym kept.printed)))

  pub done_ends : step p d s ≡ Over (ends.Done s.rest.out) → EndsBy p d limits drawn notes out s endings.Done
  done_ends steps = inr (passes, (ends.Done s.rest.out, steps, ap (λ (bytes : List ℕ). Some (ends.Done bytes)) (sym kept.printed)))

-- ---- cells

-- a draw past the cells
pub cells_end : (p : Program) (d : Data) (limits : Limits) (drawn most bytes : ℕ) (notes : List Note) (out : List ℕ) (s : State) → limit_met p limits drawn s ≡ limit_when (nat_lt (limits.cells - drawn) 1) false bytes → most ≡ limits.cells → nat_lt drawn most ≡ false
    → EndsBy p d limits drawn notes out s (endings.Limit (limit_kinds.Cell most))
cells_end p d limits drawn most bytes notes out s limit is full =
    let past = ltb-false drawn most full in
    let less : nat_lt (limits.cells - drawn) 1 ≡ true = lt-ltb (limits.cells - drawn) 1 (omega (arith, past, is)) in
    inl (past_cells, limit ∙ ap (λ (b : Bool). limit_when b false bytes) less, (limit_kinds.Cell most, refl, ap (λ (n : ℕ). PlainEnds.Limit (limit_kinds.Cell n)) (sym is)))

pub cells_left : (p : Program) (limits : Limits) (drawn most bytes : ℕ) (s : State) → limit_met p limits drawn s ≡ limit_when (nat_lt (limits.cells - drawn) 1) false bytes → most ≡ limits.cells → nat_lt drawn most ≡ true
    → limit_met p limits drawn s ≡ None
cells_left p limits drawn most bytes s limit is room =
    let less = ltb-true drawn most room in
    limit ∙ ap (λ (b : Bool). limit_when b false bytes) (le-ltb (limits.cells - drawn) 1 (omega (arith, less, is)))
