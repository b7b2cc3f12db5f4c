-- Which item a thread is at where it has called an entry, and the move that the heap-frame machine makes there: by the item's kind (moves_by), at the entry
-- of a runtime call (called_kind, calling_moves), and at a fork's (fork_kind). An accepted program calls six entries (known_call, known_entry). Where nothing
-- undefined is read, a6 has a name (name_there) and a0 a number (number_there).
use Rattle.std.proofs.Common.{◌≡◌, ◌≢◌, ◌⊎◌, inl, inr, ℕ, ◌==◌, Bool, true, false, cond, List, ◌∷◌, Option, Some, None, slice_get, refl, ap, sym, ◌∙◌, subst}
use Rattle.std.proofs.lemmas.Bool.{eqb-true}
use Rattle.st_base.specs.declared.line.Line.{Line}
use Rattle.st_base.specs.declared.reg.Reg.{Reg}
use Rattle.st_base.specs.declared.thread.Activation.{Activation}
use Rattle.st_base.specs.declared.thread.Held.{Held}
use Rattle.st_base.specs.declared.thread.Held.TheVariants.{Number, Future, Counter}
use Rattle.st_base.specs.declared.thread.Standing.{Standing}
use Rattle.st_base.specs.declared.thread.Standing.TheVariants.{Going}
use Rattle.st_base.specs.declared.thread.Thread.{Thread}
use Rattle.st_model.specs.declared.effect.Effect.{Effect}
use Rattle.st_model.specs.declared.program.Item.{Item}
use Rattle.st_model.specs.declared.program.ItemKind.{ItemKind}
use Rattle.st_model.specs.declared.program.ItemKind.TheVariants as items
use Rattle.st_model.specs.declared.program.Program.{Program}
use Rattle.st_model.specs.declared.program.ProgramFunction.{ProgramFunction}
use Rattle.st_model.specs.declared.program.RuntimeCall.{RuntimeCall}
use Rattle.st_model.specs.Accepted.{Fits}
use Rattle.st_model.specs.Effect.{runtime_call, runtime_effect, entry_effect, item_effect, number_of, name_of, with_number, with_name}
use Rattle.st_model.specs.Heap.{Path, Stays, move, move_standing, move_of, move_at, effect_move}
use Rattle.st_model.specs.Memory.{Data}
use Rattle.st_model.specs.Ordinary.{item_at}
use Rattle.st_items.specs.Called.{Enters}
use Rattle.st_items.specs.Code.{HasItem}

-- ---- the move

item_there : (p : Program) (top : Activation) (function : ProgramFunction) (item : Item) → slice_get p.functions top.function ≡ Some function → slice_get function.items top.next ≡ Some item → item_at p top ≡ Some item
item_there p top function item here placed = rw here placed

pub moves_by : (p : Program) (d : Data) (path : Path) (t : Thread) (top : Activation) (older : List Activation) (function : ProgramFunction) (item : Item) (kind : ItemKind) → t.standing ≡ Going → t.activations ≡ top ∷ older → HasItem p top.function function top.next item → item.kind ≡ kind
    → move p d path t ≡ effect_move path t older item.line (item_effect p d kind top t.registers)
unfolding move
moves_by p d path t top older function item kind going acts has is =
    ap (λ (s : Standing). move_standing p d path t s) going
    ∙ ap (λ (acts : List Activation). move_of p d path t acts) acts
    ∙ ap (λ (o : Option Item). move_at p d path t top older o) (item_there p top function item has.named has.placed)
    ∙ ap (λ (k : ItemKind). effect_move path t older item.line (item_effect p d k top t.registers)) is

pub calling_moves : (p : Program) (d : Data) (path : Path) (t : Thread) (top : Activation) (older : List Activation) (function : ProgramFunction) (item : Item) (n : ℕ) (call : RuntimeCall) → t.standing ≡ Going → t.activations ≡ top ∷ older → HasItem p top.function function top.next item → item.kind ≡ items.Entry n → runtime_call n ≡ Some call
    → move p d path t ≡ effect_move path t older item.line (entry_effect call top t.registers)
calling_moves p d path t top older function item n call going acts has is called =
    moves_by p d path t top older function item (items.Entry n) going acts has is
    ∙ ap (λ (o : Option RuntimeCall). effect_move path t older item.line (runtime_effect o top t.registers)) called

-- ---- the item

pub called_kind : (kind : ItemKind) (entry n : ℕ) → Enters kind entry → entry ≡ n → n ≢ 0x10 → kind ≡ items.Entry n
called_kind (items.Entry at) entry n enters is other = ap items.Entry (sym enters ∙ is)
called_kind (items.Fork f handle) entry n enters is other = absurd (other (sym is ∙ enters))
called_kind items.Prologue entry n enters is other = absurd enters
called_kind items.Epilogue entry n enters is other = absurd enters
called_kind (items.Plain i) entry n enters is other = absurd enters
called_kind (items.Li rd value) entry n enters is other = absurd enters
called_kind (items.Branch op rs1 rs2 to) entry n enters is other = absurd enters
called_kind (items.Jump to) entry n enters is other = absurd enters
called_kind (items.Call f) entry n enters is other = absurd enters

pub fork_kind : (p : Program) (function : ProgramFunction) (kind : ItemKind) (entry : ℕ) → Fits p function kind → Enters kind entry → entry ≡ 0x10 → (g : ℕ) × (handle : Reg) × (kind ≡ items.Fork g handle)
fork_kind p function (items.Entry at) entry fits enters is =
    let called = fits.1 in
    let none : runtime_call at ≡ None = ap runtime_call (sym enters ∙ is) in
    absurd (let never : ⊥ = cc in never)
fork_kind p function (items.Fork f handle) entry fits enters is = (f, handle, refl)
fork_kind p function items.Prologue entry fits enters is = absurd enters
fork_kind p function items.Epilogue entry fits enters is = absurd enters
fork_kind p function (items.Plain i) entry fits enters is = absurd enters
fork_kind p function (items.Li rd value) entry fits enters is = absurd enters
fork_kind p function (items.Branch op rs1 rs2 to) entry fits enters is = absurd enters
fork_kind p function (items.Jump to) entry fits enters is = absurd enters
fork_kind p function (items.Call f) entry fits enters is = absurd enters

-- ---- the entries

either : (n e : ℕ) (x y : Option RuntimeCall) (call : RuntimeCall) → cond (n == e) x y ≡ Some call → (n ≡ e) ⊎ (y ≡ Some call)
either n e x y call is = by_case (n == e) (eqb-true n e) is
  where
    by_case : (b : Bool) → (b ≡ true → n ≡ e) → cond b x y ≡ Some call → (n ≡ e) ⊎ (y ≡ Some call)
    by_case true same is = inl (same refl)
    by_case false same is = inr is

-- the six entries of the runtime that an item calls by itself
abbrev pub IsCallEntry : ℕ → Type 0
IsCallEntry n = (n ≡ 0x40) ⊎ ((n ≡ 0x50) ⊎ ((n ≡ 0x60) ⊎ ((n ≡ 0x70) ⊎ ((n ≡ 0x80) ⊎ (n ≡ 0x90)))))

pub known_call : (n : ℕ) (call : RuntimeCall) → runtime_call n ≡ Some call → IsCallEntry n
known_call n call is =
    elim (either n 0x40 _ _ call is) [
      | inl e ↦ inl e
      | inr is ↦ inr (elim (either n 0x50 _ _ call is) [
        | inl e ↦ inl e
        | inr is ↦ inr (elim (either n 0x60 _ _ call is) [
          | inl e ↦ inl e
          | inr is ↦ inr (elim (either n 0x70 _ _ call is) [
            | inl e ↦ inl e
            | inr is ↦ inr (elim (either n 0x80 _ _ call is) [
              | inl e ↦ inl e
              | inr is ↦ inr (elim (either n 0x90 _ _ call is) [ inl e ↦ e | inr is ↦ absurd (let never : ⊥ = cc in never) ])
            ])
          ])
        ])
      ])
    ]

pub known_entry : (p : Program) (function : ProgramFunction) (kind : ItemKind) (entry : ℕ) → Fits p function kind → Enters kind entry → (entry ≡ 0x10) ⊎ IsCallEntry entry
known_entry p function (items.Entry at) entry fits enters = inr (subst IsCallEntry (sym enters) (known_call at fits.0 fits.1))
known_entry p function (items.Fork f handle) entry fits enters = inl enters
known_entry p function items.Prologue entry fits enters = absurd enters
known_entry p function items.Epilogue entry fits enters = absurd enters
known_entry p function (items.Plain i) entry fits enters = absurd enters
known_entry p function (items.Li rd value) entry fits enters = absurd enters
known_entry p function (items.Branch op rs1 rs2 to) entry fits enters = absurd enters
known_entry p function (items.Jump to) entry fits enters = absurd enters
known_entry p function (items.Call f) entry fits enters = absurd enters

-- ---- names and numbers in registers

module _ (path : Path) (t : Thread) (older : List Activation) (line : Line) where
  -- a future's name is there, or a counter's
  abbrev pub NameThere : Option Held → (Held → Effect) → Type 0
  NameThere o go =
      ((q : Path) × (o ≡ Some (Future q)) × (with_name (name_of o) go ≡ go (Future q))) ⊎ ((q : Path) × (i : ℕ) × (o ≡ Some (Counter q i)) × (with_name (name_of o) go ≡ go (Counter q i)))

  pub name_there : (o : Option Held) (go : Held → Effect) → effect_move path t older line (with_name (name_of o) go) ≢ Stays → NameThere o go
  name_there None go defined = absurd (defined refl)
  name_there (Some (Number n)) go defined = absurd (defined refl)
  name_there (Some (Future q)) go defined = inl (q, refl, refl)
  name_there (Some (Counter q i)) go defined = inr (q, i, refl, refl)

  pub number_there : (o : Option Held) (go : ℕ → Effect) → effect_move path t older line (with_number (number_of o) go) ≢ Stays → (n : ℕ) × (o ≡ Some (Number n)) × (with_number (number_of o) go ≡ go n)
  number_there None go defined = absurd (defined refl)
  number_there (Some (Number n)) go defined = (n, refl, refl)
  number_there (Some (Future q)) go defined = absurd (defined refl)
  number_there (Some (Counter q i)) go defined = absurd (defined refl)
