-- Branches that reach: where no branch of a program is too far in the postprocessed layout, each branch item is near its target in either
-- layout (near-in). Reach for far-each (the words of each function), near-items (the items of one) and near-in.
use Rattle.std.proofs.Common.{◌≡◌, ◌∙◌, inl, inr, ℕ, zero, suc, ◌+◌, ◌^◌, Bool, true, false, List, [], ◌∷◌, ◌++◌, Option, Some, None, length, take, slice_get, refl, sym, subst, arith}
use Rattle.std.specs.Prelude.{ℤ, if◌then◌else◌}
use Rattle.st_base.specs.declared.line.Line.{Line}
use Rattle.st_rv.specs.Fields.{IsSigned}
use Rattle.st_model.specs.declared.program.Item.{Item}
use Rattle.st_model.specs.declared.program.ItemKind.{ItemKind}
use Rattle.st_model.specs.declared.program.ItemKind.TheVariants as items
use Rattle.st_model.specs.declared.program.Program.{Program}
use Rattle.st_model.specs.declared.program.ProgramFunction.{ProgramFunction}
use Rattle.st_model.specs.declared.code.Layout.{Layout}
use Rattle.st_model.specs.declared.code.Layout.TheVariants.{Postprocessed}
use Rattle.st_model.specs.declared.code.PostedWord.{PostedWord}
use Rattle.st_model.specs.Layout.{distance, reaches, first_of, far_at, far_among, far_in, far_branch, item_ins, item_size, items_size, item_place, words_at, items_words, function_words, function_line, copy_by}
use Rattle.st_link.proofs.Distances.{reach-signed, signed-nearer, signed-nearer-back, either-way}
use Rattle.st_link.proofs.Sizes.{items-grow, words-length, item-length}

-- a branch item at a word is near its target
abbrev pub IsNear : Layout → ProgramFunction → ℕ → ItemKind → Type 0
IsNear layout function at (items.Branch op rs1 rs2 to) = IsSigned (2 ^ 12) (distance at (item_place layout function to))
IsNear layout function at _ = Unit {0}

-- ---- none among words

pub none-of : (a b : Option (Line × ℤ)) → first_of a b ≡ None → (a ≡ None) × (b ≡ None)
none-of None b e = (refl, e)
none-of (Some far) b e = cc

pub far-append : (at : ℕ) (vs ws : List PostedWord) → far_among at (vs ++ ws) ≡ None → (far_among at vs ≡ None) × (far_among (at + length vs) ws ≡ None)
far-append at [] ws e = (refl, subst (λ k. far_among k ws ≡ None) (omega arith) e)
far-append at (v ∷ vs) ws e =
    let parts = none-of (far_at at v.line v.ins) (far_among (at + 1) (vs ++ ws)) e in
    let rest = far-append (at + 1) vs ws parts.1 in
    (subst (λ o. first_of o (far_among (at + 1) vs) ≡ None) (sym parts.0) rest.0, subst (λ k. far_among k ws ≡ None) (omega arith) rest.1)

pub far-each : (fs : List ProgramFunction) → far_in fs ≡ None → (f : ℕ) (function : ProgramFunction) → slice_get fs f ≡ Some function → far_among 0 (function_words Postprocessed function) ≡ None
far-each [] e f function here = cc
far-each (g ∷ fs) e zero function here =
    let same : g ≡ function = cc in
    subst (λ (h : ProgramFunction). far_among 0 (function_words Postprocessed h) ≡ None) same (none-of (far_among 0 (function_words Postprocessed g)) (far_in fs) e).0
far-each (g ∷ fs) e (suc f) function here = far-each fs (none-of (far_among 0 (function_words Postprocessed g)) (far_in fs) e).1 f function here

pub branch-each : (p : Program) → far_branch p ≡ None → (f : ℕ) (function : ProgramFunction) → slice_get p.functions f ≡ Some function → far_among 0 (function_words Postprocessed function) ≡ None
unfolding far_branch
branch-each p e f function here = far-each p.functions e f function here

-- ---- items

reach-of : (b : Bool) (far : Line × ℤ) (later : Option (Line × ℤ)) → first_of (if b then None else Some far) later ≡ None → b ≡ true
reach-of true far later e = refl
reach-of false far later e = cc

near-first : (function : ProgramFunction) (at : ℕ) (line : Line) (kind : ItemKind) (ws : List PostedWord) → far_among at (words_at line true (item_ins Postprocessed function at kind) ++ ws) ≡ None → IsNear Postprocessed function at kind
near-first function at line (items.Branch op rs1 rs2 to) ws e =
    reach-signed (distance at (item_place Postprocessed function to))
    (reach-of (reaches (distance at (item_place Postprocessed function to))) (line, distance at (item_place Postprocessed function to)) (far_among (at + 1) ws) e)
near-first function at line items.Prologue ws e = tt
near-first function at line items.Epilogue ws e = tt
near-first function at line (items.Plain i) ws e = tt
near-first function at line (items.Li rd value) ws e = tt
near-first function at line (items.Jump to) ws e = tt
near-first function at line (items.Call f) ws e = tt
near-first function at line (items.Entry address) ws e = tt
near-first function at line (items.Fork f handle) ws e = tt

pub near-items : (function : ProgramFunction) (at : ℕ) (xs : List Item) → far_among at (items_words Postprocessed function at xs) ≡ None → (k : ℕ) (item : Item) → slice_get xs k ≡ Some item → IsNear Postprocessed function (at + items_size Postprocessed function (take k xs)) item.kind
near-items function at [] e k item here = cc
near-items function at (x ∷ xs) e zero item here =
    let same : x ≡ item = cc in
    let first = near-first function at x.line x.kind (items_words Postprocessed function (at + item_size Postprocessed function x.kind) xs) e in
    let there : at ≡ at + 0 = omega arith in
    subst (λ n. IsNear Postprocessed function n item.kind) there (subst (λ (y : Item). IsNear Postprocessed function at y.kind) same first)
near-items function at (x ∷ xs) e (suc k) item here =
    let size = item_size Postprocessed function x.kind in
    let parts = far-append at (words_at x.line true (item_ins Postprocessed function at x.kind)) (items_words Postprocessed function (at + size) xs) e in
    let long : length (words_at x.line true (item_ins Postprocessed function at x.kind)) ≡ size = words-length x.line true (item_ins Postprocessed function at x.kind) ∙ item-length Postprocessed function at x.kind in
    let rest : far_among (at + size) (items_words Postprocessed function (at + size) xs) ≡ None = subst (λ n. far_among (at + n) (items_words Postprocessed function (at + size) xs) ≡ None) long parts.1 in
    let there : at + size + items_size Postprocessed function (take k xs) ≡ at + (size + items_size Postprocessed function (take k xs)) = omega arith in
    subst (λ n. IsNear Postprocessed function n item.kind) there (near-items function (at + size) xs rest k item here)

near-kind : (layout : Layout) (function : ProgramFunction) (i : ℕ) (kind : ItemKind) → IsNear Postprocessed function (item_place Postprocessed function i) kind → IsNear layout function (item_place layout function i) kind
near-kind layout function i (items.Branch op rs1 rs2 to) near =
    elim (either-way i to) [
      | inl le ↦ let g = items-grow layout function function.items i to le in let h = items-grow Postprocessed function function.items i to le in
          signed-nearer (item_place Postprocessed function i) (item_place Postprocessed function to) (item_place layout function i) (item_place layout function to) h.later g.later g.grown near
      | inr le ↦ let g = items-grow layout function function.items to i le in let h = items-grow Postprocessed function function.items to i le in
          signed-nearer-back (item_place Postprocessed function i) (item_place Postprocessed function to) (item_place layout function i) (item_place layout function to) h.later g.later g.grown near
    ]
near-kind layout function i items.Prologue near = tt
near-kind layout function i items.Epilogue near = tt
near-kind layout function i (items.Plain x) near = tt
near-kind layout function i (items.Li rd value) near = tt
near-kind layout function i (items.Jump to) near = tt
near-kind layout function i (items.Call f) near = tt
near-kind layout function i (items.Entry address) near = tt
near-kind layout function i (items.Fork f handle) near = tt

-- each item of a function none of whose branches is too far
pub near-in : (layout : Layout) (function : ProgramFunction) → far_among 0 (function_words Postprocessed function) ≡ None → (i : ℕ) (item : Item) → slice_get function.items i ≡ Some item → IsNear layout function (item_place layout function i) item.kind
unfolding function_words
near-in layout function e i item here =
    let parts = far-append 0 (items_words Postprocessed function 0 function.items) (words_at (function_line function) false (copy_by Postprocessed function)) e in
    let near = near-items function 0 function.items parts.0 i item here in
    let there : 0 + item_place Postprocessed function i ≡ item_place Postprocessed function i = omega arith in
    near-kind layout function i item.kind (subst (λ n. IsNear Postprocessed function n item.kind) there near)
