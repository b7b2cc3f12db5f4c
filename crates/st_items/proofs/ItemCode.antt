-- What the lemmas on items begin with: the item of an activation (item_of), that its function has the forms (formed_of), that what isn't a
-- prologue stands behind one (behind_prologue), and its code (item_words).
use Rattle.std.proofs.Common.{◌≡◌, ℕ, zero, suc, ◌<◌, Option, Some, slice_get, sym, subst, arith}
use Rattle.st_base.specs.declared.thread.Activation.{Activation}
use Rattle.st_model.specs.declared.program.Item.{Item}
use Rattle.st_model.specs.declared.program.ItemKind.{ItemKind}
use Rattle.st_model.specs.declared.program.Program.{Program}
use Rattle.st_model.specs.declared.program.ProgramFunction.{ProgramFunction}
use Rattle.st_model.specs.declared.code.Layout.{Layout}
use Rattle.st_model.specs.Accepted.{IsAccepted, IsFormed, IsPrologue}
use Rattle.st_model.specs.Layout.{item_ins, item_place}
use Rattle.st_model.specs.Ordinary.{item_at}
use Rattle.st_step.specs.Runs.{HasCode}
use Rattle.st_items.specs.Code.{code_at, HasItem}
use Rattle.st_step.specs.Frames.{address_in}
use Rattle.st_items.proofs.Addresses.{IsLocal, local_code}

-- ---- the item

pub item_of : (p : Program) (a : Activation) (function : ProgramFunction) (item : Item) → slice_get p.functions a.function ≡ Some function → item_at p a ≡ Some item → HasItem p a.function function a.next item
item_of p a function item here there = record { named = here; placed = rw here at there }

pub formed_of : (p : Program) (f : ℕ) (function : ProgramFunction) → IsAccepted p → slice_get p.functions f ≡ Some function → IsFormed p function
formed_of p f function accepted here = (accepted.functions f function here).formed

-- the first item alone is a prologue
same_item : (o : Option Item) (x y : Item) → o ≡ Some x → o ≡ Some y → x ≡ y
same_item o x y first second = cc

pub behind_prologue : (p : Program) (function : ProgramFunction) (next : ℕ) (item : Item) → IsFormed p function → slice_get function.items next ≡ Some item → (IsPrologue item.kind → ⊥) → 0 < next
behind_prologue p function zero item formed there other =
    let (first, at, is) = formed.begins in
    absurd (other (subst (λ (x : Item). IsPrologue x.kind) (same_item (slice_get function.items 0) first item at there) is))
behind_prologue p function (suc next) item formed there other = omega arith

-- ---- its code

pub item_words : (layout : Layout) (p : Program) (f : ℕ) (function : ProgramFunction) (i : ℕ) (item : Item) (kind : ItemKind) (pc : ℕ) → HasItem p f function i item → item.kind ≡ kind → IsLocal kind → pc ≡ address_in layout p f function i
    → HasCode (code_at layout p) pc (item_place layout function i) (item_ins layout function (item_place layout function i) kind)
item_words layout p f function i item kind pc has is local at =
    subst (λ (n : ℕ). HasCode (code_at layout p) n (item_place layout function i) (item_ins layout function (item_place layout function i) kind)) (sym at)
    (subst (λ (k : ItemKind). HasCode (code_at layout p) (address_in layout p f function i) (item_place layout function i) (item_ins layout function (item_place layout function i) k)) is
    (local_code layout p f function i item has (subst (λ (k : ItemKind). IsLocal k) (sym is) local)))
