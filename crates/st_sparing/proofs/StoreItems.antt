-- A slot's store is in the newest frame, below its return word (store_spares); a short one takes two instructions at its word.
use Rattle.std.proofs.Common.{◌≡◌, inl, inr, ℕ, suc, ◌+◌, ◌-◌, ◌%◌, ◌^◌, ◌<◌, ◌≤◌, Bool, true, false, List, ◌∷◌, Some, refl, ap, sym, ◌∙◌, arith}
use Rattle.st_base.specs.declared.chain.Frame.{Frame}
use Rattle.st_base.specs.declared.thread.Held.{Held}
use Rattle.st_rv.specs.declared.ins.Ins.{Ins}
use Rattle.st_rv.specs.declared.ins.OpKind.TheVariants as kinds
use Rattle.st_rv.specs.Op.{kind_of}
use Rattle.st_rv.specs.Results.{access_size}
use Rattle.st_model.specs.declared.code.Layout.TheVariants.{Postprocessed}
use Rattle.st_model.specs.declared.program.ItemKind.TheVariants as items
use Rattle.st_model.specs.declared.program.Program.{Program}
use Rattle.st_model.specs.Accepted.{HasFrame, IsSlot}
use Rattle.st_model.specs.Effect.{is_frame}
use Rattle.st_model.specs.Memory.{Data, slot_place}
use Rattle.st_words.specs.declared.view.Known.{Known}
use Rattle.st_words.specs.Steps.{place_of}
use Rattle.st_step.specs.declared.state.State.{State}
use Rattle.st_step.specs.Frames.{address_in}
use Rattle.st_step.specs.Moves.{address_of, move_of}
use Rattle.st_step.specs.Runs.{Situation}
use Rattle.st_items.specs.Body.{Ends}
use Rattle.st_items.specs.Code.{code_at}
use Rattle.st_items.specs.Ways.{IsInside, Makes, LeadsBy}
use Rattle.st_items.proofs.AtLine.{line_next}
use Rattle.st_items.proofs.Computes.{plain_size, plain_there}
use Rattle.st_items.proofs.ItemCode.{formed_of}
use Rattle.st_items.proofs.SlotPlaces.{IsSlotAt, slot_at}
use Rattle.st_chain.specs.Seen.{joined}
use Rattle.st_chain.specs.Walk.{named_by}
use Rattle.st_running.specs.Running.{CanRun}
use Rattle.st_running.proofs.AtItem.{Older, AtItem}
use Rattle.st_sparing.specs.Sparing.{Spares, AllSpare, AreReturnWords}
use Rattle.st_sparing.proofs.Places.{out_of_items}
use Rattle.st_sparing.proofs.ReturnWords.{spared_in_frame}
use Rattle.st_sparing.proofs.Stores.{AfterStore, store_place, store_after}
use Rattle.st_sparing.proofs.Ways.{makes_by, spared}

-- what lies below a frame's words of its own is not its return word
in_slots : (low bytes base at size : ℕ) → 0x8000_0000 ≤ low → low % 16 ≡ 0 → base ≡ low + bytes → 16 ≤ bytes → 0 < size → at + size ≤ bytes - 16 → (place_of low ≤ place_of (low + at)) × (suc (place_of (low + at)) < place_of base)
in_slots low bytes base at size above multiple whole least some inside = (omega arith, omega arith)

module _ (p : Program) (d : Data) (names : List (Held × ℕ)) (holds kept : ℕ → Bool) (ends : Ends) (t : Situation) (k : Known) (fs : List Frame) (ks : List Known) (rest : List (List Frame)) (can : CanRun p d names holds ends t k fs ks rest) (returns : AreReturnWords holds kept (joined (fs ∷ rest))) (at : AtItem p d names holds ends t k fs ks rest) (i : Ins) (is : at.item.kind ≡ items.Plain i) (kind : kind_of i.op ≡ kinds.Store) (frame : is_frame i.rs1 ≡ true) (fits : IsSlot at.function i i.rs2) where
  abbrev place : ℕ
  place = slot_place at.function.frame_bytes i.imm

  slot : IsSlotAt holds at.function t i at.f.low place
  slot = slot_at Postprocessed p holds (named_by names) (Older p names holds k.note.cell ks rest at.older at.gs) ends at.f.low t at.top k.thread.registers at.function at.item i i.rs2 at.line frame fits

  there : code_at Postprocessed p t.state.pc ≡ Some i
  there = plain_there Postprocessed p holds (named_by names) (Older p names holds k.note.cell ks rest at.older at.gs) ends at.f.low t at.top k.thread.registers at.function at.item i at.line is

  -- the word of the slot
  slot_spared : kept (place_of (at.f.low + place)) ≡ false
  slot_spared =
      let frame_is : HasFrame at.function = (formed_of p at.top.function at.function can.accepted at.line.has.named).frame in
      let least = frame_is.least in
      let room = frame_is.room in
      let within = slot.within in
      let some = slot.some in
      let base : at.f.base ≡ at.f.low + at.function.frame_bytes = at.base ∙ at.line.body.framed.base in
      let (from, to) = in_slots at.f.low at.function.frame_bytes at.f.base place (access_size i.op) slot.above slot.multiple base least some (omega arith) in
      spared_in_frame p d names holds kept ends t k fs ks rest can returns at.f at.gs (place_of (at.f.low + place)) at.frames slot.held from to

  -- at the store, which may be half done
  record AtStore (s : Situation) : Type 0 where
    here : s.state.pc ≡ t.state.pc
    address : address_of s.state i ≡ at.f.low + place

  spares : (s : Situation) → AtStore s → Spares Postprocessed p d kept s
  spares s store ins q n m found moves none =
      let code = ap (code_at Postprocessed p) store.here in
      let known = there in
      let same : ins ≡ i = cc in
      let stored = store_place d s.state i q n m kind (ap (move_of d s.state) (sym same) ∙ moves) in
      ap kept (stored ∙ ap place_of store.address) ∙ slot_spared

  after : (s u : Situation) → AtStore s → AfterStore s.state u.state → IsInside Postprocessed p u.state → AtStore u
  after s u store (inl done) inside =
      let one = plain_size Postprocessed at.function at.item i is in
      let next = line_next Postprocessed p d holds (named_by names) (Older p names holds k.note.cell ks rest at.older at.gs) ends at.f.low t at.top k.thread.registers at.function at.item at.line one in
      let pc : u.state.pc ≡ address_in Postprocessed p at.top.function at.function (at.top.next + 1) = ap (λ (m : State). m.pc) done ∙ ap (λ (n : ℕ). (n + 4) % 2 ^ 32) store.here ∙ next in
      absurd (out_of_items Postprocessed p at.top.function at.function (at.top.next + 1) u.state at.line.has.named (ap (λ (m : State). m.half) done) pc inside)
  after s u store (inr (half, begun)) inside = record {
    here = ap (λ (m : State). m.pc) begun ∙ store.here;
    address = ap (λ (m : State). address_of m i) begun ∙ store.address;
  }

  next : (s u : Situation) → AtStore s → Makes Postprocessed p d holds s u → IsInside Postprocessed p u.state → AtStore u
  next s u store makes inside = after s u store (store_after d holds s u i kind (makes_by Postprocessed p d holds s u i (ap (code_at Postprocessed p) store.here ∙ there) makes)) inside

  pub store_spares : (n : ℕ) (w : Situation) → LeadsBy Postprocessed p d holds n t w → AllSpare Postprocessed p d holds kept (suc n) t
  store_spares n w way =
      let first : AtStore t = record { here = refl; address = slot.address } in
      spared Postprocessed p d holds kept AtStore spares next n t w (spares t first) (λ u makes inside. next t u first makes inside) way
