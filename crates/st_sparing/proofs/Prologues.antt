-- A prologue stores in the frame that it makes, below the old sp (prologue_spares): behind its first word sp stays.
use Rattle.std.proofs.Common.{◌≡◌, ◌⊎◌, inl, inr, ℕ, suc, ◌+◌, ◌-◌, ◌*◌, ◌^◌, ◌<◌, ◌≤◌, pos, ◌-ℤ◌, Bool, false, List, [], ◌∷◌, ◌++◌, length, None, Some, refl, ap, sym, ◌∙◌, subst, arith}
use Rattle.std.proofs.lemmas.Bool.{cases_lt}
use Rattle.st_base.specs.declared.chain.Frame.{Frame}
use Rattle.st_base.specs.declared.reg.Reg.{Reg}
use Rattle.st_base.specs.declared.reg.Reg.TheVariants as registers
use Rattle.st_base.specs.declared.thread.Held.{Held}
use Rattle.st_rv.specs.declared.ins.Ins.{Ins}
use Rattle.st_rv.specs.declared.ins.Op.TheVariants as ops
use Rattle.st_model.specs.declared.code.Layout.TheVariants.{Postprocessed}
use Rattle.st_model.specs.declared.code.PostedIns.{PostedIns}
use Rattle.st_model.specs.declared.program.ItemKind.{ItemKind}
use Rattle.st_model.specs.declared.program.ItemKind.TheVariants as items
use Rattle.st_model.specs.declared.program.Program.{Program}
use Rattle.st_model.specs.Accepted.{HasFrame}
use Rattle.st_model.specs.Layout.{saved_of, item_size, item_place, item_ins, stores, addi, sd, immediate_ins, store_ins, resolved, below}
use Rattle.st_model.specs.Memory.{Data}
use Rattle.st_words.specs.declared.view.Known.{Known}
use Rattle.st_words.specs.Steps.{place_of}
use Rattle.st_step.specs.declared.state.State.{State}
use Rattle.st_step.specs.Frames.{address_in}
use Rattle.st_step.specs.Moves.{move_of, register, next_pc, Writes}
use Rattle.st_step.specs.Runs.{Situation, IsBase, moved}
use Rattle.st_step.proofs.Prologues.{frame_address}
use Rattle.st_step.proofs.SavedList.{saved_fit}
use Rattle.st_step.proofs.Straight.{after, frames}
use Rattle.st_step.proofs.Writes.{register-written_same, register-written_other, register-within}
use Rattle.st_items.specs.Body.{Ends}
use Rattle.st_items.specs.Code.{code_at}
use Rattle.st_items.specs.Ways.{IsInside, Makes, LeadsBy}
use Rattle.st_items.proofs.Addresses.{address_bounds, next_address}
use Rattle.st_items.proofs.Entering.{prologue_stops}
use Rattle.st_items.proofs.ItemCode.{formed_of}
use Rattle.st_items.proofs.Words.{item-length}
use Rattle.st_chain.specs.Seen.{joined}
use Rattle.st_chain.specs.Walk.{named_by}
use Rattle.st_running.specs.Running.{CanRun}
use Rattle.st_running.proofs.AtItem.{Older, AtFirst}
use Rattle.st_sparing.specs.Sparing.{Spares, AllSpare, AreReturnWords}
use Rattle.st_sparing.proofs.Places.{out_of_items}
use Rattle.st_sparing.proofs.ReturnWords.{spared_below}
use Rattle.st_sparing.proofs.Stores.{IsQuiet, not_store, AfterStore, store_place, store_after, AfterResult, result_after}
use Rattle.st_sparing.proofs.Straight.{next_low, next_place}
use Rattle.st_sparing.proofs.Ways.{makes_by, quiet_spares, spared}
use Rattle.st_sparing.proofs.Words.{EachWord, each_joined, each_at, word_ins}

-- ---- its words behind the first

-- a store of a register in a frame of so many bytes, by its distance from the base
record IsFrameStore (bytes : ℕ) (x : PostedIns) : Type 0 where
  rs : Reg
  off : ℕ
  least : 8 ≤ off
  most : off ≤ bytes
  word : x ≡ sd rs (pos bytes -ℤ pos off) registers.Sp

-- or the one that leaves the base in s0
abbrev IsFrameWord : ℕ → PostedIns → Type 0
IsFrameWord bytes x = IsFrameStore bytes x ⊎ (x ≡ addi registers.S0 registers.Sp (pos bytes))

stores_frame : (bytes k : ℕ) (rs : List Reg) → 16 + 8 * (k + length rs) ≤ bytes → EachWord (IsFrameWord bytes) (stores registers.Sp (pos bytes) k rs)
stores_frame bytes k [] room = tt
stores_frame bytes k (r ∷ rs) room = (inl (record { rs = r; off = 24 + 8 * k; least = omega arith; most = omega arith; word = refl }), stores_frame bytes (k + 1) rs (omega arith))

abbrev behind_first : ℕ → List Reg → List PostedIns
behind_first bytes saved =
    sd registers.Ra (pos bytes -ℤ pos 8) registers.Sp ∷ sd registers.S0 (pos bytes -ℤ pos 16) registers.Sp ∷ stores registers.Sp (pos bytes) 0 saved ++ addi registers.S0 registers.Sp (pos bytes) ∷ []

behind_frame : (bytes : ℕ) (saved : List Reg) → 16 + 8 * length saved ≤ bytes → EachWord (IsFrameWord bytes) (behind_first bytes saved)
behind_frame bytes saved room = (
  inl (record { rs = registers.Ra; off = 8; least = omega arith; most = omega arith; word = refl }),
  (
    inl (record { rs = registers.S0; off = 16; least = omega arith; most = omega arith; word = refl }),
    each_joined (IsFrameWord bytes) (stores registers.Sp (pos bytes) 0 saved) (addi registers.S0 registers.Sp (pos bytes) ∷ []) (stores_frame bytes 0 saved (omega arith)) (inr refl, tt),
  ),
)

module _ (p : Program) (d : Data) (names : List (Held × ℕ)) (holds kept : ℕ → Bool) (ends : Ends) (t : Situation) (k : Known) (fs : List Frame) (ks : List Known) (rest : List (List Frame)) (can : CanRun p d names holds ends t k fs ks rest) (returns : AreReturnWords holds kept (joined (fs ∷ rest))) (at : AtFirst p d names holds ends t k fs ks rest) where
  abbrev bytes : ℕ
  bytes = at.function.frame_bytes

  abbrev saved : List Reg
  saved = saved_of at.function

  abbrev start : ℕ
  start = address_in Postprocessed p at.top.function at.function at.top.next

  frame : HasFrame at.function
  frame = (formed_of p at.top.function at.function can.accepted at.entered.has.named).frame

  low : start + 4 * (4 + length saved) < 2 ^ 32
  low =
      let bounds = address_bounds Postprocessed p at.top.function at.function at.top.next at.item can.size at.entered.has in
      let high = bounds.1 in
      let size = ap (item_size Postprocessed at.function) at.entered.kind in
      omega arith

  module _ (fits : ends.lo + at.function.frame_bytes ≤ ends.sp) where
    base : IsBase ends.lo bytes ends.sp
    base =
        let lowest = can.room.low in
        let high = can.room.high in
        let within = can.room.within in
        record { multiple = can.room.even; stack = lowest; room = fits; high = omega arith }

    -- at a word of it behind the first, with sp lowered
    record IsBehindFirst (s : Situation) : Type 0 where
      word : ℕ
      few : suc word < 4 + length saved
      place : s.state.pc ≡ start + 4 * suc word
      sp : register s.state registers.Sp ≡ ends.sp - bytes

    -- the instruction there
    record IsIns (ins : Ins) : Type 0 where
      x : PostedIns
      is : IsFrameWord bytes x
      address : ℕ
      nth : ℕ
      same : ins ≡ resolved Postprocessed p address nth x

    ins_there : (s : Situation) (ins : Ins) → IsBehindFirst s → code_at Postprocessed p s.state.pc ≡ Some ins → IsIns ins
    ins_there s ins behind there =
        let few = behind.few in
        let long : length (item_ins Postprocessed at.function (item_place Postprocessed at.function at.top.next) items.Prologue) ≡ 4 + length saved = item-length Postprocessed at.function (item_place Postprocessed at.function at.top.next) items.Prologue in
        let (x, word, is) = each_at (IsFrameWord bytes) (behind_first bytes saved) behind.word (omega arith) (behind_frame bytes saved (saved_fit at.function frame)) in
        record { x = x; is = is; address = _; nth = _; same = word_ins Postprocessed p at.top.function at.function at.top.next at.item at.entered.has items.Prologue at.entered.kind (suc behind.word) s.state.pc x ins word behind.place there }

    abbrev frame_store : Reg → ℕ → Ins
    frame_store rs off = store_ins ops.Sd registers.Sp rs (pos bytes -ℤ pos off)

    abbrev base_set : Ins
    base_set = immediate_ins ops.Addi registers.S0 registers.Sp (pos bytes)

    -- either of the two
    by_word : (ins : Ins) → IsIns ins → (Goal : Ins → Type 0) → ((rs : Reg) (off : ℕ) → 8 ≤ off → off ≤ bytes → Goal (frame_store rs off)) → Goal base_set → Goal ins
    by_word ins there Goal store set = elim there.is [
      | inl is ↦ subst Goal (sym (there.same ∙ ap (resolved Postprocessed p there.address there.nth) is.word)) (store is.rs is.off is.least is.most)
      | inr is ↦ subst Goal (sym (there.same ∙ ap (resolved Postprocessed p there.address there.nth) is)) set
    ]

    in_frame : (off : ℕ) → 8 ≤ off → off ≤ bytes → kept (place_of (ends.sp - off)) ≡ false
    in_frame off least most =
        let stack = base.stack in
        spared_below p d names holds kept ends t k fs ks rest can returns (place_of (ends.sp - off)) (omega arith) (omega arith)

    spares : (s : Situation) → IsBehindFirst s → Spares Postprocessed p d kept s
    spares s behind ins q n m there =
        by_word ins (ins_there s ins behind there) (λ (i : Ins). move_of d s.state i ≡ Writes q n m → n ≡ 0 → kept q ≡ false)
        (λ rs off least most moves none.
        let stored = store_place d s.state (frame_store rs off) q n m refl moves in
        let address = frame_address ends.lo bytes ends.sp off bytes (register s.state registers.Sp) base (omega arith) most behind.sp in
        ap kept (stored ∙ ap place_of address) ∙ in_frame off least most)
        (λ moves none. absurd (not_store base_set (λ e. let never : ⊥ = cc in never) d s.state q n m moves))

    -- sp stays, and the pc stays or is the next one's
    abbrev Steps : State → State → Type 0
    Steps m m' = (register m' registers.Sp ≡ register m registers.Sp) × ((m'.pc ≡ m.pc) ⊎ ((m'.pc ≡ next_pc m.pc) × (m'.half ≡ None)))

    store_steps : (m m' : State) → AfterStore m m' → Steps m m'
    store_steps m m' (inl done) = (ap (λ (x : State). register x registers.Sp) done, inr (ap (λ (x : State). x.pc) done, ap (λ (x : State). x.half) done))
    store_steps m m' (inr (half, begun)) = (ap (λ (x : State). register x registers.Sp) begun, inl (ap (λ (x : State). x.pc) begun))

    set_steps : (m m' : State) → AfterResult base_set m m' → Steps m m'
    set_steps m m' (n, is) = (ap (λ (x : State). register x registers.Sp) is ∙ register-written_other m registers.S0 registers.Sp n (λ e. absurd (omega (arith, e))), inr (next_place base_set m m' (n, is)))

    steps : (s u : Situation) → IsBehindFirst s → Makes Postprocessed p d holds s u → Steps s.state u.state
    steps s u behind makes =
        by_word makes.ins (ins_there s makes.ins behind makes.there) (λ (i : Ins). moved holds s (move_of d s.state i) ≡ Some u → Steps s.state u.state)
        (λ rs off least most goes. store_steps s.state u.state (store_after d holds s u (frame_store rs off) refl goes))
        (λ goes. set_steps s.state u.state (result_after d holds s u base_set tt goes))
        makes.goes

    follows : address_in Postprocessed p at.top.function at.function (at.top.next + 1) ≡ start + 4 * (4 + length saved)
    follows = next_address Postprocessed p at.top.function at.function at.top.next at.item at.entered.has ∙ ap (λ (c : ItemKind). start + 4 * item_size Postprocessed at.function c) at.entered.kind

    by_steps : (s u : Situation) → IsBehindFirst s → Steps s.state u.state → IsInside Postprocessed p u.state → IsBehindFirst u
    by_steps s u behind (sp, inl stays) inside = record { word = behind.word; few = behind.few; place = stays ∙ behind.place; sp = sp ∙ behind.sp }
    by_steps s u behind (sp, inr (goes, whole)) inside =
        let few = behind.few in
        let place = behind.place in
        let far = low in
        let further : next_pc s.state.pc ≡ s.state.pc + 4 = next_low s.state.pc (omega arith) in
        let after_all = follows in
        elim (cases_lt (suc (suc behind.word)) (4 + length saved)) [
          | inl less ↦ record { word = suc behind.word; few = less; place = omega arith; sp = sp ∙ behind.sp }
          | inr more ↦ absurd (out_of_items Postprocessed p at.top.function at.function (at.top.next + 1) u.state at.entered.has.named whole (omega arith) inside)
        ]

    next : (s u : Situation) → IsBehindFirst s → Makes Postprocessed p d holds s u → IsInside Postprocessed p u.state → IsBehindFirst u
    next s u behind makes inside = by_steps s u behind (steps s u behind makes) inside

    -- behind the first word
    begun : (u : Situation) → Makes Postprocessed p d holds t u → IsBehindFirst u
    begun u makes =
        let sp_is = at.entered.machine.sp in
        let lo_is = at.entered.machine.lo in
        let here = at.entered.at in
        let far = low in
        let least = frame.least in
        let most = frame.most in
        let high = base.high in
        let code = word_ins Postprocessed p at.top.function at.function at.top.next at.item at.entered.has items.Prologue at.entered.kind 0 t.state.pc (addi registers.Sp registers.Sp (below bytes)) makes.ins refl (omega arith) makes.there in
        let first = frames d holds t bytes (omega arith) (omega arith) (omega arith) (omega arith) (omega arith) in
        let lowered = after t registers.Sp (register t.state registers.Sp - bytes) in
        let does = makes_by Postprocessed p d holds t u (immediate_ins ops.Addi registers.Sp registers.Sp (below bytes)) (makes.there ∙ ap Some code) makes in
        let is : lowered ≡ u = cc in
        let there = register-within t.state registers.Sp (omega arith) in
        record {
          word = 0;
          few = omega arith;
          place = ap (λ (x : Situation). x.state.pc) (sym is) ∙ omega arith;
          sp = ap (λ (x : Situation). register x.state registers.Sp) (sym is) ∙ register-written_same t.state registers.Sp (register t.state registers.Sp - bytes) there refl ∙ ap (λ (n : ℕ). n - bytes) sp_is;
        }

  first_quiet : (ins : Ins) → code_at Postprocessed p t.state.pc ≡ Some ins → IsQuiet ins
  first_quiet ins there =
      let here = at.entered.at in
      let code = word_ins Postprocessed p at.top.function at.function at.top.next at.item at.entered.has items.Prologue at.entered.kind 0 t.state.pc (addi registers.Sp registers.Sp (below bytes)) ins refl (omega arith) there in
      subst IsQuiet (sym code) (not_store (immediate_ins ops.Addi registers.Sp registers.Sp (below bytes)) (λ e. let never : ⊥ = cc in never))

  by_room : (n : ℕ) (w : Situation) → (ends.sp < ends.lo + bytes) ⊎ (ends.lo + bytes ≤ ends.sp) → LeadsBy Postprocessed p d holds n t w → AllSpare Postprocessed p d holds kept (suc n) t
  by_room n w (inl full) (u, makes, way) =
      let (i, there, stops) = prologue_stops Postprocessed p d (named_by names) (Older p names holds k.note.cell ks rest at.older fs) ends t at.top k.thread.registers at.function at.item at.entered full in
      let goes = makes_by Postprocessed p d holds t u i there makes in
      let none = ap (moved holds t) stops in
      absurd (let never : ⊥ = cc in never)
  by_room n w (inr fits) way =
      spared Postprocessed p d holds kept (IsBehindFirst fits) (spares fits) (next fits) n t w (quiet_spares Postprocessed p d holds kept t first_quiet) (λ u makes inside. begun fits u makes) way

  pub prologue_spares : (n : ℕ) (w : Situation) → LeadsBy Postprocessed p d holds n t w → AllSpare Postprocessed p d holds kept (suc n) t
  prologue_spares n w way = by_room n w (cases_lt ends.sp (ends.lo + bytes)) way
