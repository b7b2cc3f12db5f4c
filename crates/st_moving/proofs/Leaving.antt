-- A thread that leaves its worker stands as its chain has to: from an entry of the runtime (from_entry), whose address is low (low_entry), and from an
-- item's first word (from_item), whose address isn't. all_leave has both.
use Rattle.std.proofs.Common.{◌≡◌, ◌≢◌, ℕ, ◌≤◌, ◌==◌, Bool, true, false, cond, List, [], ◌∷◌, Option, Some, None, refl, ap, sym, ◌∙◌, subst, arith}
use Rattle.std.specs.Prelude.{nat_lt, slice_index_or}
use Rattle.std.proofs.lemmas.Bool.{ne_eqb, ltb-false, le-ltb}
use Rattle.st_base.specs.declared.chain.Frame.{Frame}
use Rattle.st_base.specs.declared.chain.Waiting.{Waiting}
use Rattle.st_base.specs.declared.chain.Waiting.TheVariants as waits
use Rattle.st_base.specs.declared.reg.Reg.TheVariants as registers
use Rattle.st_base.specs.declared.thread.Activation.{Activation}
use Rattle.st_base.specs.declared.thread.Held.{Held}
use Rattle.st_base.specs.declared.thread.Thread.{Thread}
use Rattle.st_model.specs.declared.code.Layout.TheVariants.{Postprocessed}
use Rattle.st_model.specs.declared.program.ItemKind.{ItemKind}
use Rattle.st_model.specs.declared.program.ItemKind.TheVariants as items
use Rattle.st_model.specs.declared.program.Program.{Program}
use Rattle.st_model.specs.declared.program.ProgramFunction.{ProgramFunction}
use Rattle.st_model.specs.declared.program.RuntimeCall.{RuntimeCall}
use Rattle.st_model.specs.Accepted.{IsAccepted, Fits}
use Rattle.st_model.specs.Effect.{File, runtime_call}
use Rattle.st_words.specs.declared.view.Known.{Known}
use Rattle.st_step.specs.declared.state.State.{State}
use Rattle.st_step.specs.Frames.{Naming, HasFile, value_in}
use Rattle.st_step.specs.Moves.{register}
use Rattle.st_items.specs.Body.{Context, Ends}
use Rattle.st_items.specs.Called.{Enters}
use Rattle.st_items.specs.Code.{IsSized}
use Rattle.st_items.proofs.Addresses.{place_bounds}
use Rattle.st_items.proofs.ItemCode.{formed_of}
use Rattle.st_chain.specs.Walk.{word_in, is_held, named_by, FromNewest}
use Rattle.st_chain.specs.Chains.{words_ahead, WaitsFor, KeepsFile, StandsOver}
use Rattle.st_chain.specs.Copying.{over}
use Rattle.st_chain.specs.Taking.{place_in}
use Rattle.st_standing.specs.Standing.{under, Behind, StandsOn, AtCall}
use Rattle.st_moving.specs.Moving.{HasThose, AllLeave}

-- ---- entries

other_call : {X : Type 0} (n at : ℕ) (x y : X) → at ≢ n → cond (at == n) x y ≡ y
other_call n at x y other = ap (λ (b : Bool). cond b x y) (ne_eqb at n other)

-- no runtime call has an address so high
no_call : (at : ℕ) → 0x10000 ≤ at → runtime_call at ≡ None
no_call at high =
    let touch : at ≢ 0x40 = λ e. absurd (omega (arith, e, high)) in
    let counter : at ≢ 0x50 = λ e. absurd (omega (arith, e, high)) in
    let done : at ≢ 0x60 = λ e. absurd (omega (arith, e, high)) in
    let join : at ≢ 0x70 = λ e. absurd (omega (arith, e, high)) in
    let poll : at ≢ 0x80 = λ e. absurd (omega (arith, e, high)) in
    let putc : at ≢ 0x90 = λ e. absurd (omega (arith, e, high)) in
    other_call 0x40 at _ _ touch ∙ other_call 0x50 at _ _ counter ∙ other_call 0x60 at _ _ done ∙ other_call 0x70 at _ _ join ∙ other_call 0x80 at _ _ poll ∙ other_call 0x90 at _ None putc

called : (at : ℕ) (call : RuntimeCall) → runtime_call at ≡ Some call → 0x10000 ≤ at → ⊥
called at call is high = let none = no_call at high in let never : ⊥ = cc in never

-- an entry that an item of an accepted program calls isn't there
low_entry : (p : Program) (function : ProgramFunction) (kind : ItemKind) (entry : ℕ) → Fits p function kind → Enters kind entry → 0x10000 ≤ entry → ⊥
low_entry p function (items.Entry at) entry fits enters high = called at fits.0 fits.1 (omega (arith, enters, high))
low_entry p function (items.Fork f handle) entry fits enters high = let never : ⊥ = omega (arith, enters, high) in never
low_entry p function items.Prologue entry fits enters high = enters
low_entry p function items.Epilogue entry fits enters high = enters
low_entry p function (items.Plain i) entry fits enters high = enters
low_entry p function (items.Li rd value) entry fits enters high = enters
low_entry p function (items.Branch op rs1 rs2 to) entry fits enters high = enters
low_entry p function (items.Jump to) entry fits enters high = enters
low_entry p function (items.Call f) entry fits enters high = enters

place_low : (m : State) → (0x10000 ≤ m.pc → ⊥) → place_in m ≡ register m registers.Ra
place_low m low = by_case (nat_lt m.pc 0x10000) refl
  where
    by_case : (b : Bool) → nat_lt m.pc 0x10000 ≡ b → place_in m ≡ register m registers.Ra
    by_case true is = ap (λ (b : Bool). cond b (value_in m 1) m.pc) is
    by_case false is = absurd (low (ltb-false m.pc 0x10000 is))

place_high : (m : State) → 0x10000 ≤ m.pc → place_in m ≡ m.pc
place_high m high = ap (λ (b : Bool). cond b (value_in m 1) m.pc) (le-ltb m.pc 0x10000 high)

-- ---- a thread

-- the file that a chain reads is one that the registers hold
keeps_file : (names : Naming) (file file' : File) (value : ℕ → ℕ) → file ≡ file' → HasFile names file' value → KeepsFile names file value
keeps_file names file file' value same has x held kept there = has x held (ap (λ (l : File). slice_index_or l x None) (sym same) ∙ there)

abbrev Newest : Program → List (Held × ℕ) → List (Option ℕ) → Context → State → ℕ → ℕ → List Activation → List Frame → Type 0
Newest p names held end m ahead pc acts fs = FromNewest p (named_by names) (is_held held) end ahead pc (register m registers.S0) (word_in held) (value_in m) acts fs

-- where an activation behind its prologue stands, is no entry
high_pc : (p : Program) (names : List (Held × ℕ)) (held : List (Option ℕ)) (end : Context) (m : State) (pc : ℕ) (acts : List Activation) (fs : List Frame) → IsSized Postprocessed p → Newest p names held end m 0 pc acts fs → 0x10000 ≤ pc
high_pc p names held end m pc (a ∷ older) (f ∷ fs) size (function, is) =
    let bounds = place_bounds Postprocessed p a.function function a.next size is.here in
    let least = bounds.0 in
    let at = is.at in
    omega (arith, least, at)
high_pc p names held end m pc [] fs size newest = absurd newest
high_pc p names held end m pc (a ∷ older) [] size newest = absurd newest

module _ (p : Program) (names : List (Held × ℕ)) (held : List (Option ℕ)) (ends : Ends) (m : State) (k : Known) (fs : List Frame) (ks : List Known) (rest : List (List Frame)) (thread : Thread) (accepted : IsAccepted p) (those : HasThose thread k) where
  abbrev end : Context
  end = under p names (is_held held) k.note.cell ks rest

  newest_by : (ahead pc : ℕ) → pc ≡ place_in m → Newest p names held end m ahead pc k.thread.activations fs → Newest p names held end m ahead (place_in m) thread.activations fs
  newest_by ahead pc is newest =
      subst (λ (acts : List Activation). Newest p names held end m ahead (place_in m) acts fs) (sym those.activations)
      (subst (λ (n : ℕ). Newest p names held end m ahead n k.thread.activations fs) is newest)

  pub from_entry : (entry : ℕ) (wait : Waiting) → AtCall p names (is_held held) ends (over held m) k fs ks rest entry → words_ahead wait 1 → WaitsFor (named_by names) thread wait
      → StandsOver p names held end wait (place_in m) (register m registers.S0) (value_in m) thread fs
  from_entry entry wait at ahead waiting =
      let body = at.call.body in
      let fits : Fits p at.function at.item.kind = (formed_of p at.top.function at.function accepted at.has.named).fits at.top.next at.item at.has.placed in
      let pc = at.call.at in
      let low : 0x10000 ≤ m.pc → ⊥ = λ high. low_entry p at.function at.item.kind entry fits at.enters (omega (arith, pc, high)) in
      let newest : Newest p names held end m 1 (register m registers.Ra) (at.top ∷ at.older) (at.f ∷ at.gs) =
      (at.function, record { here = at.has.named; begun = at.begun; at = at.call.back; lies = at.lies; framed = body.framed }) in
      let framed = subst (λ (gs : List Frame). Newest p names held end m 1 (register m registers.Ra) (at.top ∷ at.older) gs) (sym at.frames) newest in
      let whole = subst (λ (acts : List Activation). Newest p names held end m 1 (register m registers.Ra) acts fs) (sym at.acts) framed in
      (1, ahead, waiting, keeps_file (named_by names) thread.registers k.thread.registers (value_in m) those.registers body.file, newest_by 1 (register m registers.Ra) (sym (place_low m low)) whole)

  pub from_item : IsSized Postprocessed p → StandsOn p names (is_held held) ends (over held m) k fs ks rest → Behind p names (is_held held) end 0 (over held m) k.thread.activations fs
      → StandsOver p names held end waits.Trapped (place_in m) (register m registers.S0) (value_in m) thread fs
  from_item size on behind =
      let high = high_pc p names held end m m.pc k.thread.activations fs size behind in
      (0, omega arith, tt, keeps_file (named_by names) thread.registers k.thread.registers (value_in m) those.registers on.file, newest_by 0 m.pc (sym (place_high m high)) behind)

pub all_leave : AllLeave
all_leave p accepted size = record {
  call = λ names held ends m k fs ks rest entry wait thread at those ahead waiting. from_entry p names held ends m k fs ks rest thread accepted those entry wait at ahead waiting;
  trap = λ names held ends m k fs ks rest thread on behind those. from_item p names held ends m k fs ks rest thread accepted those size on behind;
}
