-- Items of which each word has a result and leads to the next one: plain instructions that store nothing, and `li` (straight_spares).
use Rattle.std.proofs.Common.{◌≡◌, ◌≢◌, inl, inr, ℕ, suc, ◌+◌, ◌*◌, ◌^◌, ◌<◌, ℤ, pos, not, ◌&&◌, Bool, true, false, List, [], ◌∷◌, length, None, Some, ap, sym, ◌∙◌, subst, arith}
use Rattle.std.specs.Prelude.{int_lt, if◌then◌else◌}
use Rattle.std.proofs.lemmas.Bool.{cases_lt}
use Rattle.st_base.specs.declared.reg.Reg.{Reg}
use Rattle.st_base.specs.declared.reg.Reg.TheVariants as registers
use Rattle.st_rv.specs.declared.ins.Ins.{Ins}
use Rattle.st_rv.specs.declared.ins.Op.TheVariants as ops
use Rattle.st_rv.specs.declared.ins.OpKind.{OpKind}
use Rattle.st_rv.specs.declared.ins.OpKind.TheVariants as kinds
use Rattle.st_rv.specs.Op.{kind_of}
use Rattle.st_model.specs.declared.code.Layout.{Layout}
use Rattle.st_model.specs.declared.code.PostedIns.{PostedIns}
use Rattle.st_model.specs.declared.code.PostedIns.TheVariants as posted
use Rattle.st_model.specs.declared.program.Item.{Item}
use Rattle.st_model.specs.declared.program.ItemKind.{ItemKind}
use Rattle.st_model.specs.declared.program.Program.{Program}
use Rattle.st_model.specs.declared.program.ProgramFunction.{ProgramFunction}
use Rattle.st_model.specs.Layout.{item_ins, item_size, item_place, resolved, li_ins, addi, immediate_ins, upper_ins, is_short, high_part, low_part, with_low_part}
use Rattle.st_model.specs.Memory.{Data}
use Rattle.st_step.specs.declared.state.State.{State}
use Rattle.st_step.specs.Frames.{address_in}
use Rattle.st_step.specs.Moves.{next_pc}
use Rattle.st_step.specs.Runs.{Situation}
use Rattle.st_step.proofs.Writes.{pc-written}
use Rattle.st_items.specs.Code.{code_at, HasItem, IsSized}
use Rattle.st_items.specs.Ways.{IsInside, Makes, LeadsBy}
use Rattle.st_items.proofs.Addresses.{address_bounds, next_address}
use Rattle.st_sparing.specs.Sparing.{Spares, AllSpare}
use Rattle.st_sparing.proofs.Places.{out_of_items}
use Rattle.st_sparing.proofs.Stores.{not_store, HasResult, AfterResult, result_after}
use Rattle.st_sparing.proofs.Ways.{quiet_spares, spared}
use Rattle.st_sparing.proofs.Words.{EachWord, word_there}

-- it has a result
abbrev pub IsStraight : PostedIns → Type 0
IsStraight (posted.Plain i) = HasResult (kind_of i.op)
IsStraight _ = ⊥

-- ---- `li`

either_straight : (b : Bool) (xs ys : List PostedIns) → EachWord IsStraight xs → EachWord IsStraight ys → EachWord IsStraight (if b then xs else ys)
either_straight true xs ys one other = one
either_straight false xs ys one other = other

pub li_straight : (rd : Reg) (value : ℤ) → EachWord IsStraight (li_ins rd value)
li_straight rd value =
    either_straight (is_short value) (addi rd registers.Zero value ∷ []) (posted.Plain (upper_ins ops.Lui rd (pos (high_part value))) ∷ with_low_part rd (low_part value)) (tt, tt)
    (tt, either_straight (not (int_lt (low_part value) (pos 0)) && not (int_lt (pos 0) (low_part value))) [] (posted.Plain (immediate_ins ops.Addiw rd rd (low_part value)) ∷ []) tt (tt, tt))

two_some : (b : Bool) (x : PostedIns) (xs : List PostedIns) (y : PostedIns) (ys : List PostedIns) → 0 < length (if b then x ∷ xs else y ∷ ys)
two_some true x xs y ys = omega arith
two_some false x xs y ys = omega arith

pub li_some : (rd : Reg) (value : ℤ) → 0 < length (li_ins rd value)
li_some rd value = two_some (is_short value) _ _ _ _

-- ---- what has a result is no store

result_kind : (k : OpKind) → HasResult k → k ≢ kinds.Store
result_kind k has is = subst HasResult is has

straight_result : (layout : Layout) (p : Program) (address at : ℕ) (x : PostedIns) → IsStraight x → HasResult (kind_of (resolved layout p address at x).op)
straight_result layout p address at (posted.Plain i) straight = straight
straight_result layout p address at (posted.Branch op rs1 rs2 to) straight = absurd straight
straight_result layout p address at (posted.Jump to) straight = absurd straight
straight_result layout p address at (posted.Call f) straight = absurd straight
straight_result layout p address at (posted.Entry entry) straight = absurd straight

-- the machine is behind such an instruction
pub next_place : (i : Ins) (m m' : State) → AfterResult i m m' → (m'.pc ≡ next_pc m.pc) × (m'.half ≡ None)
next_place i m m' (n, is) = (ap (λ (x : State). x.pc) is ∙ ap next_pc (pc-written m i.rd n), ap (λ (x : State). x.half) is)

pub next_low : (pc : ℕ) → pc + 4 < 2 ^ 32 → next_pc pc ≡ pc + 4
next_low pc low = omega arith

-- ---- the way

module _ (layout : Layout) (p : Program) (d : Data) (held kept : ℕ → Bool) (f : ℕ) (function : ProgramFunction) (i : ℕ) (item : Item) (size : IsSized layout p) (has : HasItem p f function i item) (kind : ItemKind) (is : item.kind ≡ kind) (all : EachWord IsStraight (item_ins layout function (item_place layout function i) kind)) where
  -- at a word of the item
  record AtWord (s : Situation) : Type 0 where
    at_word : ℕ
    few : at_word < item_size layout function kind
    place : s.state.pc ≡ address_in layout p f function i + 4 * at_word

  result_there : (s : Situation) (ins : Ins) → AtWord s → code_at layout p s.state.pc ≡ Some ins → HasResult (kind_of ins.op)
  result_there s ins at there =
      let (x, straight, same) = word_there layout p f function i item has kind is IsStraight at.at_word s.state.pc ins all at.few at.place there in
      subst (λ (y : Ins). HasResult (kind_of y.op)) (sym same) (straight_result layout p _ _ x straight)

  spares : (s : Situation) → AtWord s → Spares layout p d kept s
  spares s at = quiet_spares layout p d held kept s (λ ins there. not_store ins (result_kind (kind_of ins.op) (result_there s ins at there)))

  next : (s u : Situation) → AtWord s → Makes layout p d held s u → IsInside layout p u.state → AtWord u
  next s u at makes inside =
      let few = at.few in
      let place = at.place in
      let bounds = address_bounds layout p f function i item size has in
      let high = bounds.1 in
      let sizes : item_size layout function item.kind ≡ item_size layout function kind = ap (item_size layout function) is in
      let (pc, whole) = next_place makes.ins s.state u.state (result_after d held s u makes.ins (result_there s makes.ins at makes.there) makes.goes) in
      let low = next_low s.state.pc (omega arith) in
      let there : u.state.pc ≡ s.state.pc + 4 = pc ∙ low in
      let follows = next_address layout p f function i item has in
      elim (cases_lt (at.at_word + 1) (item_size layout function kind)) [
        | inl less ↦ record { at_word = at.at_word + 1; few = less; place = omega arith }
        | inr more ↦ absurd (out_of_items layout p f function (i + 1) u.state has.named whole (omega arith) inside)
      ]

  pub straight_spares : (n : ℕ) (t w : Situation) → 0 < item_size layout function kind → t.state.pc ≡ address_in layout p f function i → LeadsBy layout p d held n t w → AllSpare layout p d held kept (suc n) t
  straight_spares n t w some at way =
      let first : AtWord t = record { at_word = 0; few = some; place = omega arith } in
      spared layout p d held kept AtWord spares next n t w (spares t first) (λ u makes inside. next t u first makes inside) way
