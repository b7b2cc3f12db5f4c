-- The words of an item: what is so of each of them is so of the one at an address (word_there). No word of an augmented epilogue stores a number
-- (augmented_quiet, with quiet_there).
use Rattle.std.proofs.Common.{◌≡◌, ℕ, zero, suc, ◌+◌, ◌*◌, ◌<◌, ℤ, pos, List, [], ◌∷◌, ◌++◌, length, Some, slice_get, refl, ap, sym, subst, arith}
use Rattle.st_base.specs.declared.reg.Reg.{Reg}
use Rattle.st_base.specs.declared.reg.Reg.TheVariants as registers
use Rattle.st_rv.specs.declared.ins.Ins.{Ins}
use Rattle.st_rv.specs.declared.ins.Op.{Op}
use Rattle.st_rv.specs.declared.ins.Op.TheVariants as ops
use Rattle.st_rv.specs.declared.ins.OpKind.TheVariants as kinds
use Rattle.st_rv.specs.Op.{kind_of}
use Rattle.st_model.specs.declared.code.Layout.{Layout}
use Rattle.st_model.specs.declared.code.PostedIns.{PostedIns}
use Rattle.st_model.specs.declared.code.PostedIns.TheVariants as posted
use Rattle.st_model.specs.declared.program.Item.{Item}
use Rattle.st_model.specs.declared.program.ItemKind.{ItemKind}
use Rattle.st_model.specs.declared.program.Program.{Program}
use Rattle.st_model.specs.declared.program.ProgramFunction.{ProgramFunction}
use Rattle.st_model.specs.Layout.{item_ins, item_size, item_place, resolved, addi, ld, loads, restoring_ins, freeing_ins, augmented_ins, return, immediate_ins, below}
use Rattle.st_step.specs.Frames.{address_in}
use Rattle.st_items.specs.Code.{code_at, HasItem}
use Rattle.st_items.proofs.Addresses.{item_code}
use Rattle.st_items.proofs.Words.{item-length}
use Rattle.st_sparing.proofs.Stores.{IsQuiet, not_store, mark_quiet}

-- ---- words

-- it is so of each of these
abbrev pub EachWord : (PostedIns → Type 0) → List PostedIns → Type 0
EachWord Is [] = Prim.Unit
EachWord Is (x ∷ xs) = Is x × EachWord Is xs

pub each_joined : (Is : PostedIns → Type 0) (xs ys : List PostedIns) → EachWord Is xs → EachWord Is ys → EachWord Is (xs ++ ys)
each_joined Is [] ys one other = other
each_joined Is (x ∷ xs) ys (first, one) other = (first, each_joined Is xs ys one other)

pub each_at : (Is : PostedIns → Type 0) (xs : List PostedIns) (k : ℕ) → k < length xs → EachWord Is xs → (x : PostedIns) × (slice_get xs k ≡ Some x) × Is x
each_at Is [] k few all = absurd (omega arith)
each_at Is (x ∷ xs) zero few (first, all) = (x, refl, first)
each_at Is (x ∷ xs) (suc k) few (first, all) = each_at Is xs k (omega arith) all

module _ (layout : Layout) (p : Program) (f : ℕ) (function : ProgramFunction) (i : ℕ) (item : Item) (has : HasItem p f function i item) (kind : ItemKind) (is : item.kind ≡ kind) where
  -- the instruction of the k-th word
  pub word_ins : (k pc : ℕ) (x : PostedIns) (ins : Ins) → slice_get (item_ins layout function (item_place layout function i) kind) k ≡ Some x → pc ≡ address_in layout p f function i + 4 * k → code_at layout p pc ≡ Some ins → ins ≡ resolved layout p (address_in layout p f function i + 4 * k) (item_place layout function i + k) x
  word_ins k pc x ins word at there =
      let here = item_code layout p f function i item k x has (subst (λ (c : ItemKind). slice_get (item_ins layout function (item_place layout function i) c) k ≡ Some x) (sym is) word) in
      let same = ap (code_at layout p) at in
      cc

  pub word_there : (Is : PostedIns → Type 0) (k pc : ℕ) (ins : Ins) → EachWord Is (item_ins layout function (item_place layout function i) kind) → k < item_size layout function kind → pc ≡ address_in layout p f function i + 4 * k → code_at layout p pc ≡ Some ins
      → (x : PostedIns) × Is x × (ins ≡ resolved layout p (address_in layout p f function i + 4 * k) (item_place layout function i + k) x)
  word_there Is k pc ins all few at there =
      let long = item-length layout function (item_place layout function i) kind in
      let (x, word, so) = each_at Is (item_ins layout function (item_place layout function i) kind) k (omega (arith, long)) all in
      (x, so, word_ins k pc x ins word at there)

-- ---- words that store no number

abbrev IsQuietWord : Layout → Program → PostedIns → Type 0
IsQuietWord layout p x = (address at : ℕ) → IsQuiet (resolved layout p address at x)

module _ (layout : Layout) (p : Program) where
  abbrev AreQuiet : List PostedIns → Type 0
  AreQuiet xs = EachWord (IsQuietWord layout p) xs

  immediate_quiet : (rd rs1 : Reg) (imm : ℤ) → IsQuietWord layout p (addi rd rs1 imm)
  immediate_quiet rd rs1 imm address at = not_store (immediate_ins ops.Addi rd rs1 imm) (λ e. let never : ⊥ = cc in never)

  load_quiet : (rd : Reg) (imm : ℤ) (rs1 : Reg) → IsQuietWord layout p (ld rd imm rs1)
  load_quiet rd imm rs1 address at = not_store (immediate_ins ops.Ld rd rs1 imm) (λ e. let never : ⊥ = cc in never)

  return_quiet : IsQuietWord layout p return
  return_quiet address at = not_store (immediate_ins ops.Jalr registers.Zero registers.Ra (pos 0)) (λ e. let never : ⊥ = cc in never)

  branch_quiet : (op : Op) (rs1 rs2 : Reg) (to : ℕ) → kind_of op ≡ kinds.Branch → IsQuietWord layout p (posted.Branch op rs1 rs2 to)
  branch_quiet op rs1 rs2 to kind address at = not_store (resolved layout p address at (posted.Branch op rs1 rs2 to)) (λ e. let never : ⊥ = cc in never)

  loads_quiet : (base : Reg) (top : ℤ) (k : ℕ) (rs : List Reg) → AreQuiet (loads base top k rs)
  loads_quiet base top k [] = tt
  loads_quiet base top k (r ∷ rs) = (load_quiet r _ base, loads_quiet base top (k + 1) rs)

  restoring_quiet : (saved : List Reg) → AreQuiet (restoring_ins saved)
  restoring_quiet saved =
      (immediate_quiet _ _ _, (load_quiet _ _ _, each_joined (IsQuietWord layout p) (loads registers.Tp (pos 0) 0 saved) (ld registers.S0 (below 16) registers.Tp ∷ []) (loads_quiet registers.Tp (pos 0) 0 saved) (load_quiet _ _ _, tt)))

  freeing_quiet : (keep : ℕ) → AreQuiet (freeing_ins keep)
  freeing_quiet keep = (branch_quiet _ _ _ _ refl, (branch_quiet _ _ _ _ refl, (immediate_quiet _ _ _, (return_quiet, ((λ address at. mark_quiet), (return_quiet, tt))))))

  pub augmented_quiet : (at : ℕ) (saved : List Reg) → EachWord (IsQuietWord layout p) (augmented_ins at saved)
  augmented_quiet at saved = each_joined (IsQuietWord layout p) (restoring_ins saved) (freeing_ins (at + length saved + 7)) (restoring_quiet saved) (freeing_quiet (at + length saved + 7))

-- the instruction at a word of such an item
pub quiet_there : (layout : Layout) (p : Program) (f : ℕ) (function : ProgramFunction) (i : ℕ) (item : Item) (kind : ItemKind) (k pc : ℕ) (ins : Ins) → HasItem p f function i item → item.kind ≡ kind → EachWord (IsQuietWord layout p) (item_ins layout function (item_place layout function i) kind) → k < item_size layout function kind
    → pc ≡ address_in layout p f function i + 4 * k → code_at layout p pc ≡ Some ins → IsQuiet ins
quiet_there layout p f function i item kind k pc ins has is all few at there =
    let (x, quiet, same) = word_there layout p f function i item has kind is (IsQuietWord layout p) k pc ins all few at there in
    subst IsQuiet (sym same) (quiet _ _)
