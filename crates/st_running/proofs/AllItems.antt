-- The next item of a worker's top thread, whatever it is (items_do).
use Rattle.std.proofs.Common.{◌≡◌, inl, inr, ℕ, Bool, List, refl, sym, subst, arith}
use Rattle.st_base.specs.declared.chain.Frame.{Frame}
use Rattle.st_base.specs.declared.thread.Held.{Held}
use Rattle.st_model.specs.declared.program.ItemKind.{ItemKind}
use Rattle.st_model.specs.declared.program.ItemKind.TheVariants as items
use Rattle.st_model.specs.declared.program.Program.{Program}
use Rattle.st_model.specs.Accepted.{IsPrologue}
use Rattle.st_model.specs.Layout.{fork_in}
use Rattle.st_model.specs.Memory.{Data}
use Rattle.st_words.specs.declared.view.Known.{Known}
use Rattle.st_step.specs.Runs.{Situation}
use Rattle.st_items.specs.Body.{Ends, IsLine}
use Rattle.st_items.specs.Called.{Enters}
use Rattle.st_items.proofs.ItemCode.{formed_of}
use Rattle.st_running.specs.Running.{CanRun, ItemDoes, ItemsDo}
use Rattle.st_running.proofs.AtItem.{AtItem, where_it_is}
use Rattle.st_running.proofs.Calls.{call_does, entry_does}
use Rattle.st_running.proofs.Epilogues.{epilogue_does}
use Rattle.st_running.proofs.Lines.{line_does}
use Rattle.st_running.proofs.Prologues.{prologue_does}

module _ (p : Program) (d : Data) (names : List (Held × ℕ)) (holds : ℕ → Bool) (ends : Ends) (t : Situation) (k : Known) (fs : List Frame) (ks : List Known) (rest : List (List Frame)) (can : CanRun p d names holds ends t k fs ks rest) where
  -- behind the prologue
  by_kind : (at : AtItem p d names holds ends t k fs ks rest) (kind : ItemKind) → at.item.kind ≡ kind → ItemDoes p d names holds ends t k fs ks rest
  by_kind at items.Prologue is =
      let first = (formed_of p at.top.function at.function can.accepted at.line.has.named).once at.top.next at.item at.line.has.placed (subst IsPrologue (sym is) tt) in
      let begun = at.begun in
      let never : ⊥ = omega (arith, first, begun) in
      absurd never
  by_kind at items.Epilogue is = epilogue_does p d names holds ends t k fs ks rest can at is
  by_kind at (items.Plain i) is = line_does p d names holds ends t k fs ks rest can at (subst IsLine (sym is) tt)
  by_kind at (items.Li rd value) is = line_does p d names holds ends t k fs ks rest can at (subst IsLine (sym is) tt)
  by_kind at (items.Branch op rs1 rs2 to) is = line_does p d names holds ends t k fs ks rest can at (subst IsLine (sym is) tt)
  by_kind at (items.Jump to) is = line_does p d names holds ends t k fs ks rest can at (subst IsLine (sym is) tt)
  by_kind at (items.Call g) is = call_does p d names holds ends t k fs ks rest can at g is
  by_kind at (items.Entry entry) is = entry_does p d names holds ends t k fs ks rest can at entry (subst (λ (x : ItemKind). Enters x entry) (sym is) refl)
  by_kind at (items.Fork g handle) is = entry_does p d names holds ends t k fs ks rest can at fork_in (subst (λ (x : ItemKind). Enters x fork_in) (sym is) refl)

  item_does : ItemDoes p d names holds ends t k fs ks rest
  item_does = elim (where_it_is p d names holds ends t k fs ks rest can) [
    | inl at ↦ prologue_does p d names holds ends t k fs ks rest can at
    | inr at ↦ by_kind at at.item.kind refl
  ]

pub items_do : ItemsDo
items_do p d names holds ends t k fs ks rest can = item_does p d names holds ends t k fs ks rest can
