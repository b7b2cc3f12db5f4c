-- The next item of a worker's top thread spares the return words of its frames, whatever it is (items_spare).
use Rattle.std.proofs.Common.{◌≡◌, inl, inr, ℕ, suc, ◌^◌, ◌<◌, Bool, List, ◌∷◌, refl, ap, sym, ◌∙◌, subst, arith}
use Rattle.st_base.specs.declared.chain.Frame.{Frame}
use Rattle.st_base.specs.declared.reg.Reg.{Reg}
use Rattle.st_base.specs.declared.reg.Reg.TheVariants as registers
use Rattle.st_base.specs.declared.thread.Held.{Held}
use Rattle.st_rv.specs.declared.ins.Ins.{Ins}
use Rattle.st_rv.specs.declared.ins.OpKind.{OpKind}
use Rattle.st_rv.specs.declared.ins.OpKind.TheVariants as kinds
use Rattle.st_rv.specs.Op.{kind_of}
use Rattle.st_model.specs.declared.code.Layout.TheVariants.{Postprocessed}
use Rattle.st_model.specs.declared.program.ItemKind.{ItemKind}
use Rattle.st_model.specs.declared.program.ItemKind.TheVariants as items
use Rattle.st_model.specs.declared.program.Program.{Program}
use Rattle.st_model.specs.Accepted.{Fits, IsPrologue, PlainFitsAs}
use Rattle.st_model.specs.Layout.{item_ins, item_size, item_place, function_address, fork_in}
use Rattle.st_model.specs.Memory.{Data}
use Rattle.st_words.specs.declared.view.Known.{Known}
use Rattle.st_step.specs.declared.state.State.{State}
use Rattle.st_step.specs.Frames.{address_in}
use Rattle.st_step.specs.Runs.{Situation, moved}
use Rattle.st_items.specs.Body.{Ends}
use Rattle.st_items.specs.Ways.{IsInside, LeadsBy, JumpsTo}
use Rattle.st_items.proofs.Addresses.{first_address}
use Rattle.st_items.proofs.Computes.{moves_as, plain_there}
use Rattle.st_items.proofs.ItemCode.{formed_of}
use Rattle.st_items.proofs.Jumps.{call_jumps, goto_jumps, entry_jumps, entry_small, fork_in_jumps}
use Rattle.st_chain.specs.Seen.{joined}
use Rattle.st_chain.specs.Walk.{named_by}
use Rattle.st_running.specs.Running.{CanRun}
use Rattle.st_running.proofs.AtItem.{Older, AtItem, where_it_is}
use Rattle.st_sparing.specs.Sparing.{AllSpare, AreReturnWords, ItemsSpare}
use Rattle.st_sparing.proofs.Epilogues.{epilogue_spares}
use Rattle.st_sparing.proofs.Jumps.{IsAt, jump_spares, branch_spares}
use Rattle.st_sparing.proofs.Places.{out_of_items, at_entry}
use Rattle.st_sparing.proofs.Prologues.{prologue_spares}
use Rattle.st_sparing.proofs.StoreItems.{store_spares}
use Rattle.st_sparing.proofs.Stores.{HasResult}
use Rattle.st_sparing.proofs.Straight.{IsStraight, li_straight, li_some, straight_spares}
use Rattle.st_sparing.proofs.Ways.{makes_by}
use Rattle.st_sparing.proofs.Words.{EachWord}

module _ (p : Program) (d : Data) (names : List (Held × ℕ)) (holds kept : ℕ → Bool) (ends : Ends) (t : Situation) (k : Known) (fs : List Frame) (ks : List Known) (rest : List (List Frame)) (can : CanRun p d names holds ends t k fs ks rest) (returns : AreReturnWords holds kept (joined (fs ∷ rest))) where
  -- its way spares them
  abbrev Spared : Type 0
  Spared = (n : ℕ) (w : Situation) → LeadsBy Postprocessed p d holds n t w → AllSpare Postprocessed p d holds kept (suc n) t

  module _ (at : AtItem p d names holds ends t k fs ks rest) where
    abbrev f : ℕ
    f = at.top.function

    fits : (kind : ItemKind) → at.item.kind ≡ kind → Fits p at.function kind
    fits kind is = subst (Fits p at.function) is ((formed_of p f at.function can.accepted at.line.has.named).fits at.top.next at.item at.line.has.placed)

    -- it jumps to a place that is inside of no item
    jumps : (rd : Reg) (target : ℕ) → JumpsTo Postprocessed p (address_in Postprocessed p f at.function at.top.next) rd target → ((m : State) → IsAt target m → IsInside Postprocessed p m → ⊥) → Spared
    jumps rd target jump out n w way = jump_spares Postprocessed p d holds kept n t w rd target (subst (λ (pc : ℕ). JumpsTo Postprocessed p pc rd target) (sym at.line.at) jump) out way

    to_entry : (entry : ℕ) → entry < 2 ^ 16 → (m : State) → IsAt entry m → IsInside Postprocessed p m → ⊥
    to_entry entry small m (pc, whole) inside = at_entry Postprocessed p m whole (omega arith) inside

    straight : (kind : ItemKind) → at.item.kind ≡ kind → EachWord IsStraight (item_ins Postprocessed at.function (item_place Postprocessed at.function at.top.next) kind) → 0 < item_size Postprocessed at.function kind → Spared
    straight kind is all some n w way = straight_spares Postprocessed p d holds kept f at.function at.top.next at.item can.size at.line.has kind is all n t w some at.line.at way

    by_plain : (i : Ins) → at.item.kind ≡ items.Plain i → (o : OpKind) → kind_of i.op ≡ o → PlainFitsAs o at.function i → Spared
    by_plain i is kinds.Register kind fit = straight (items.Plain i) is (subst HasResult (sym kind) tt, tt) (omega arith)
    by_plain i is kinds.Immediate kind fit = straight (items.Plain i) is (subst HasResult (sym kind) tt, tt) (omega arith)
    by_plain i is kinds.Upper kind fit = straight (items.Plain i) is (subst HasResult (sym kind) tt, tt) (omega arith)
    by_plain i is kinds.Load kind fit = straight (items.Plain i) is (subst HasResult (sym kind) tt, tt) (omega arith)
    by_plain i is kinds.Store kind fit = store_spares p d names holds kept ends t k fs ks rest can returns at i is kind fit.0 fit.1
    by_plain i is kinds.Branch kind fit = absurd fit
    by_plain i is kinds.Jump kind fit = absurd fit
    by_plain i is kinds.Break kind fit = λ n w (u, makes, way).
        let there = plain_there Postprocessed p holds (named_by names) (Older p names holds k.note.cell ks rest at.older at.gs) ends at.f.low t at.top k.thread.registers at.function at.item i at.line is in
        let goes = makes_by Postprocessed p d holds t u i there makes in
        let none = ap (moved holds t) (moves_as kinds.Break d t.state i kind) in
        absurd (let never : ⊥ = cc in never)

    by_kind : (kind : ItemKind) → at.item.kind ≡ kind → Spared
    by_kind items.Prologue is =
        let first = (formed_of p f at.function can.accepted at.line.has.named).once at.top.next at.item at.line.has.placed (subst IsPrologue (sym is) tt) in
        let begun = at.begun in
        let never : ⊥ = omega (arith, first, begun) in
        absurd never
    by_kind items.Epilogue is = epilogue_spares p d names holds kept ends t k fs ks rest can at is
    by_kind (items.Plain i) is = by_plain i is (kind_of i.op) refl (fits (items.Plain i) is).1
    by_kind (items.Li rd value) is = straight (items.Li rd value) is (li_straight rd value) (li_some rd value)
    by_kind (items.Branch op rs1 rs2 to) is =
        branch_spares Postprocessed p d holds kept f at.function at.top.next at.item can.size at.line.has op rs1 rs2 to is (fits (items.Branch op rs1 rs2 to) is).0 t at.line.at
    by_kind (items.Jump to) is =
        jumps registers.Zero (address_in Postprocessed p f at.function to) (goto_jumps Postprocessed p f at.function at.top.next at.item to can.size at.line.has is)
        (λ m (pc, whole) inside. out_of_items Postprocessed p f at.function to m at.line.has.named whole pc inside)
    by_kind (items.Call g) is =
        let (callee, named) = fits (items.Call g) is in
        jumps registers.Ra (function_address Postprocessed p g) (call_jumps Postprocessed p f at.function at.top.next at.item g can.size at.line.has is)
        (λ m (pc, whole) inside. out_of_items Postprocessed p g callee 0 m named whole (pc ∙ sym (first_address Postprocessed p g callee)) inside)
    by_kind (items.Entry entry) is =
        let small = entry_small Postprocessed p f at.function at.top.next at.item entry can.accepted at.line.has is in
        jumps registers.Ra entry (entry_jumps Postprocessed p f at.function at.top.next at.item entry can.size at.line.has is small) (to_entry entry small)
    by_kind (items.Fork g handle) is =
        jumps registers.Ra fork_in (fork_in_jumps Postprocessed p f at.function at.top.next at.item g handle can.size at.line.has is) (to_entry fork_in (omega arith))

  item_spares : Spared
  item_spares = elim (where_it_is p d names holds ends t k fs ks rest can) [
    | inl at ↦ prologue_spares p d names holds kept ends t k fs ks rest can returns at
    | inr at ↦ by_kind at at.item.kind refl
  ]

pub items_spare : ItemsSpare
items_spare p d names holds ends t k fs ks rest kept can returns n w way = item_spares p d names holds kept ends t k fs ks rest can returns n w way
