-- Branches that don't reach, by their lines. far_among-told, function-tells: what is said of the lines of a function's items holds of the
-- line that is told, since the words of a pure copy are no branches. first-far: what is told first by the order of functions and words is
-- first by file and line, where the items of the program stand in that order.
use Rattle.std.proofs.Common.{◌≡◌, ◌⊎◌, ⊎_elim, inl, inr, ℕ, zero, suc, ◌+◌, Bool, true, false, List, [], ◌∷◌, ◌++◌, Option, Some, None, slice_get, refl, ap, subst, arith}
use Rattle.std.specs.Prelude.{ℤ, pos, if◌then◌else◌, All, AllPairs}
use Rattle.std.proofs.Math.Logic.{∥∥₁_elim}
use Rattle.st_base.specs.declared.line.Line.{Line}
use Rattle.st_base.specs.declared.reg.Reg.{Reg}
use Rattle.st_base.specs.declared.reg.Reg.TheVariants as registers
use Rattle.st_asm.specs.Unit.{IsEarlier}
use Rattle.st_asm.proofs.InOrder.{pairs-head, pairs-tail, pairs-front, pairs-back, pairs-across}
use Rattle.st_asm.proofs.LineOrder.{earlier-not_same, earlier-not_later}
use Rattle.st_model.specs.declared.code.Layout.{Layout}
use Rattle.st_model.specs.declared.code.Layout.TheVariants.{Postprocessed}
use Rattle.st_model.specs.declared.code.PostedIns.{PostedIns}
use Rattle.st_model.specs.declared.code.PostedIns.TheVariants as posted
use Rattle.st_model.specs.declared.code.PostedWord.{PostedWord}
use Rattle.st_model.specs.declared.program.Item.{Item}
use Rattle.st_model.specs.declared.program.Program.{Program}
use Rattle.st_model.specs.declared.program.ProgramFunction.{ProgramFunction}
use Rattle.st_model.specs.Layout.{below, ld, loads, return, saved_of, restoring_ins, pure_copy_ins, item_ins, item_size, words_at, items_words, function_line, function_words, distance, reaches, far_at, first_of, far_among, far_in, far_branch}
use Rattle.st_check.specs.Acceptance.{program_lines, HasOrder}
use Rattle.st_check.proofs.ItemOrder.{item_lines, items-all, order-all}
use Rattle.st_link.specs.Refusal.{IsFirstFar}
use Rattle.st_link.proofs.Near.{none-of}

-- ---- the line that is told

pub first-case : (a b : Option (Line × ℤ)) (x : Line × ℤ) → first_of a b ≡ Some x → (a ≡ Some x) ⊎ ((a ≡ None) × (b ≡ Some x))
first-case None b x e = inr (refl, e)
first-case (Some y) b x e = inl e

far_when : (flag : Bool) (line : Line) (d : ℤ) (x : Line × ℤ) → (if flag then None else Some (line, d)) ≡ Some x → line ≡ x.0
far_when true line d x e = let no : ⊥ = cc in absurd no
far_when false line d x e = let same : (line, d) ≡ x = cc in ap (λ (y : Line × ℤ). y.0) same

far_at-line : (at : ℕ) (line : Line) (i : PostedIns) (x : Line × ℤ) → far_at at line i ≡ Some x → line ≡ x.0
far_at-line at line (posted.Plain i) x e = let no : ⊥ = cc in absurd no
far_at-line at line (posted.Branch op rs1 rs2 to) x e = far_when (reaches (distance at to)) line (distance at to) x e
far_at-line at line (posted.Jump to) x e = let no : ⊥ = cc in absurd no
far_at-line at line (posted.Call f) x e = let no : ⊥ = cc in absurd no
far_at-line at line (posted.Entry address) x e = let no : ⊥ = cc in absurd no

-- a far branch at this word is told at a line that P is said of
abbrev pub Tells : (Line → Type 0) → PostedWord → Type 0
Tells P w = (at : ℕ) (x : Line × ℤ) → far_at at w.line w.ins ≡ Some x → P x.0

abbrev pub AllTell : (Line → Type 0) → List PostedWord → Type 0
AllTell P [] = Unit {0}
AllTell P (w ∷ ws) = Tells P w × AllTell P ws

tell-append : (P : Line → Type 0) (vs ws : List PostedWord) → AllTell P vs → AllTell P ws → AllTell P (vs ++ ws)
tell-append P [] ws a b = b
tell-append P (v ∷ vs) ws a b = (a.0, tell-append P vs ws a.1 b)

pub far_among-told : (P : Line → Type 0) (at : ℕ) (ws : List PostedWord) (x : Line × ℤ) → AllTell P ws → far_among at ws ≡ Some x → P x.0
far_among-told P at [] x all e = let no : ⊥ = cc in absurd no
far_among-told P at (w ∷ ws) x all e =
    ⊎_elim (λ here. all.0 at x here) (λ later. far_among-told P (at + 1) ws x all.1 later.1) (first-case (far_at at w.line w.ins) (far_among (at + 1) ws) x e)

line-tells : (P : Line → Type 0) (line : Line) (begins : Bool) (is : List PostedIns) → P line → AllTell P (words_at line begins is)
line-tells P line begins [] p = tt
line-tells P line begins (i ∷ is) p = (λ at x e. subst P (far_at-line at line i x e) p, line-tells P line false is p)

-- instructions that are no branches
abbrev IsNoBranch : PostedIns → Type 0
IsNoBranch (posted.Branch op rs1 rs2 to) = ⊥
IsNoBranch _ = Unit {0}

abbrev NoBranches : List PostedIns → Type 0
NoBranches [] = Unit {0}
NoBranches (i ∷ is) = IsNoBranch i × NoBranches is

no_branches-append : (is js : List PostedIns) → NoBranches is → NoBranches js → NoBranches (is ++ js)
no_branches-append [] js a b = b
no_branches-append (i ∷ is) js a b = (a.0, no_branches-append is js a.1 b)

loads-no_branches : (base : Reg) (top : ℤ) (k : ℕ) (saved : List Reg) → NoBranches (loads base top k saved)
loads-no_branches base top k [] = tt
loads-no_branches base top k (r ∷ rs) = (tt, loads-no_branches base top (k + 1) rs)

no_branch-tells : (P : Line → Type 0) (line : Line) (i : PostedIns) (at : ℕ) (x : Line × ℤ) → IsNoBranch i → far_at at line i ≡ Some x → P x.0
no_branch-tells P line (posted.Plain i) at x none e = let not : ⊥ = cc in absurd not
no_branch-tells P line (posted.Branch op rs1 rs2 to) at x none e = absurd none
no_branch-tells P line (posted.Jump to) at x none e = let not : ⊥ = cc in absurd not
no_branch-tells P line (posted.Call f) at x none e = let not : ⊥ = cc in absurd not
no_branch-tells P line (posted.Entry address) at x none e = let not : ⊥ = cc in absurd not

plain-tells : (P : Line → Type 0) (line : Line) (begins : Bool) (is : List PostedIns) → NoBranches is → AllTell P (words_at line begins is)
plain-tells P line begins [] none = tt
plain-tells P line begins (i ∷ is) none = (λ at x e. no_branch-tells P line i at x none.0 e, plain-tells P line false is none.1)

restoring-no_branches : (saved : List Reg) → NoBranches (restoring_ins saved)
restoring-no_branches saved =
    let last : NoBranches (ld registers.S0 (below 16) registers.Tp ∷ []) = (tt, tt) in
    (tt, (tt, no_branches-append (loads registers.Tp (pos 0) 0 saved) (ld registers.S0 (below 16) registers.Tp ∷ []) (loads-no_branches registers.Tp (pos 0) 0 saved) last))

copy-no_branches : (saved : List Reg) → NoBranches (pure_copy_ins saved)
copy-no_branches saved = no_branches-append (restoring_ins saved) (return ∷ []) (restoring-no_branches saved) (tt, tt)

items-tell : (P : Line → Type 0) (layout : Layout) (function : ProgramFunction) (at : ℕ) (xs : List Item) → ((i : ℕ) (item : Item) → slice_get xs i ≡ Some item → P item.line) → AllTell P (items_words layout function at xs)
items-tell P layout function at [] all = tt
items-tell P layout function at (x ∷ xs) all =
    tell-append P (words_at x.line true (item_ins layout function at x.kind)) _ (line-tells P x.line true (item_ins layout function at x.kind) (all 0 x refl))
    (items-tell P layout function (at + item_size layout function x.kind) xs (λ i item e. all (suc i) item e))

pub function-tells : (P : Line → Type 0) (function : ProgramFunction) → ((i : ℕ) (item : Item) → slice_get function.items i ≡ Some item → P item.line) → AllTell P (function_words Postprocessed function)
unfolding function_words
function-tells P function all =
    tell-append P (items_words Postprocessed function 0 function.items) _ (items-tell P Postprocessed function 0 function.items all)
    (plain-tells P (function_line function) false (pure_copy_ins (saved_of function)) (copy-no_branches (saved_of function)))

-- ---- words in the order of lines

-- a place that isn't behind another
abbrev NotLater : Line → Line → Type 0
NotLater a b = IsEarlier b a → ⊥

-- no far branch is told at an earlier line than those before it
abbrev InLineOrder : List PostedWord → Type 0
InLineOrder [] = Unit {0}
InLineOrder (w ∷ ws) = Tells (λ line. AllTell (NotLater line) ws) w × InLineOrder ws

tell-at : (P : Line → Type 0) (ws : List PostedWord) (k : ℕ) (word : PostedWord) → AllTell P ws → slice_get ws k ≡ Some word → Tells P word
tell-at P [] k word all here = let no : ⊥ = cc in absurd no
tell-at P (w ∷ ws) zero word all here = let same : w ≡ word = cc in subst (Tells P) same all.0
tell-at P (w ∷ ws) (suc k) word all here = tell-at P ws k word all.1 here

tell-any : (P : Line → Type 0) (ws : List PostedWord) → ((line : Line) → P line) → AllTell P ws
tell-any P [] each = tt
tell-any P (w ∷ ws) each = (λ at x e. each x.0, tell-any P ws each)

ordered-append : (vs ws : List PostedWord) → InLineOrder vs → InLineOrder ws → AllTell (λ line. AllTell (NotLater line) ws) vs → InLineOrder (vs ++ ws)
ordered-append [] ws a b across = b
ordered-append (v ∷ vs) ws a b across = (λ at x e. tell-append (NotLater x.0) vs ws (a.0 at x e) (across.0 at x e), ordered-append vs ws a.1 b across.1)

ordered-line : (line : Line) (begins : Bool) (is : List PostedIns) → InLineOrder (words_at line begins is)
ordered-line line begins [] = tt
ordered-line line begins (i ∷ is) = (
  λ at x e. line-tells (NotLater x.0) line false is (λ earlier. earlier-not_same x.0 (subst (λ l. IsEarlier l x.0) (far_at-line at line i x e) earlier)),
  ordered-line line false is,
)

ordered-items : (layout : Layout) (function : ProgramFunction) (at : ℕ) (xs : List Item) → AllPairs IsEarlier (item_lines xs) → InLineOrder (items_words layout function at xs)
ordered-items layout function at [] order = tt
ordered-items layout function at (x ∷ xs) order =
    let own : List PostedWord = words_at x.line true (item_ins layout function at x.kind) in
    let behind : List PostedWord = items_words layout function (at + item_size layout function x.kind) xs in
    let later : AllTell (NotLater x.line) behind =
    items-tell (NotLater x.line) layout function (at + item_size layout function x.kind) xs (λ i item here. earlier-not_later x.line item.line (items-all (IsEarlier x.line) xs i item (pairs-head IsEarlier x.line (item_lines xs) order) here)) in
    ordered-append own behind (ordered-line x.line true (item_ins layout function at x.kind)) (ordered-items layout function (at + item_size layout function x.kind) xs (pairs-tail IsEarlier x.line (item_lines xs) order))
    (line-tells (λ line. AllTell (NotLater line) behind) x.line true (item_ins layout function at x.kind) later)

function-ordered : (function : ProgramFunction) → AllPairs IsEarlier (item_lines function.items) → InLineOrder (function_words Postprocessed function)
unfolding function_words
function-ordered function order =
    let own : List PostedWord = items_words Postprocessed function 0 function.items in
    let copy : List PostedWord = words_at (function_line function) false (pure_copy_ins (saved_of function)) in
    ordered-append own copy (ordered-items Postprocessed function 0 function.items order) (ordered-line (function_line function) false (pure_copy_ins (saved_of function)))
    (tell-any (λ line. AllTell (NotLater line) copy) own (λ line. plain-tells (NotLater line) (function_line function) false (pure_copy_ins (saved_of function)) (copy-no_branches (saved_of function))))

-- ---- the first line that is told

far_among-none : (at : ℕ) (ws : List PostedWord) → far_among at ws ≡ None → (k : ℕ) (word : PostedWord) (y : Line × ℤ) → slice_get ws k ≡ Some word → far_at (at + k) word.line word.ins ≡ Some y → ⊥
far_among-none at [] none k word y here far = cc
far_among-none at (w ∷ ws) none zero word y here far =
    let parts = none-of (far_at at w.line w.ins) (far_among (at + 1) ws) none in
    let same : word ≡ w = cc in
    let e : at + 0 ≡ at = omega arith in
    let there : far_at at w.line w.ins ≡ Some y = subst (λ n. far_at n w.line w.ins ≡ Some y) e (subst (λ (v : PostedWord). far_at (at + 0) v.line v.ins ≡ Some y) same far) in
    let not : far_at at w.line w.ins ≡ None = parts.0 in
    cc
far_among-none at (w ∷ ws) none (suc k) word y here far =
    let parts = none-of (far_at at w.line w.ins) (far_among (at + 1) ws) none in
    let e : at + suc k ≡ at + 1 + k = omega arith in
    far_among-none (at + 1) ws parts.1 k word y here (subst (λ n. far_at n word.line word.ins ≡ Some y) e far)

far_among-first : (at : ℕ) (ws : List PostedWord) (x : Line × ℤ) → InLineOrder ws → far_among at ws ≡ Some x → (k : ℕ) (word : PostedWord) (y : Line × ℤ) → slice_get ws k ≡ Some word → far_at (at + k) word.line word.ins ≡ Some y → IsEarlier y.0 x.0 → ⊥
far_among-first at [] x order e k word y here far earlier = cc
far_among-first at (w ∷ ws) x order e zero word y here far earlier =
    let same : word ≡ w = cc in
    let z : at + 0 ≡ at = omega arith in
    let there : far_at at w.line w.ins ≡ Some y = subst (λ n. far_at n w.line w.ins ≡ Some y) z (subst (λ (v : PostedWord). far_at (at + 0) v.line v.ins ≡ Some y) same far) in
    elim (first-case (far_at at w.line w.ins) (far_among (at + 1) ws) x e) [
      | inl own ↦
          let equal : y ≡ x = cc in
          earlier-not_same x.0 (subst (λ (p : Line × ℤ). IsEarlier p.0 x.0) equal earlier)
      | inr later ↦
          let not : far_at at w.line w.ins ≡ None = later.0 in
          let no : ⊥ = cc in
          absurd no
    ]
far_among-first at (w ∷ ws) x order e (suc k) word y here far earlier =
    let z : at + suc k ≡ at + 1 + k = omega arith in
    elim (first-case (far_at at w.line w.ins) (far_among (at + 1) ws) x e) [
      | inl own ↦ tell-at (NotLater x.0) ws k word (order.0 at x own) here (at + suc k) y far earlier
      | inr later ↦ far_among-first (at + 1) ws x order.1 later.1 k word y here (subst (λ n. far_at n word.line word.ins ≡ Some y) z far) earlier
    ]

far_in-first : (fs : List ProgramFunction) (x : Line × ℤ) → AllPairs IsEarlier (program_lines fs) → far_in fs ≡ Some x → (f : ℕ) (function : ProgramFunction) (k : ℕ) (word : PostedWord) (y : Line × ℤ) → slice_get fs f ≡ Some function → slice_get (function_words Postprocessed function) k ≡ Some word → far_at k word.line word.ins ≡ Some y → IsEarlier y.0 x.0 → ⊥
far_in-first [] x order e f function k word y there here far earlier = cc
far_in-first (g ∷ gs) x order e zero function k word y there here far earlier =
    let same : function ≡ g = cc in
    let z : k ≡ 0 + k = omega arith in
    let own_word = subst (λ (it : ProgramFunction). slice_get (function_words Postprocessed it) k ≡ Some word) same here in
    let own_far = subst (λ n. far_at n word.line word.ins ≡ Some y) z far in
    elim (first-case (far_among 0 (function_words Postprocessed g)) (far_in gs) x e) [
      | inl own ↦ far_among-first 0 (function_words Postprocessed g) x (function-ordered g (pairs-front IsEarlier (item_lines g.items) (program_lines gs) order)) own k word y own_word own_far earlier
      | inr later ↦ far_among-none 0 (function_words Postprocessed g) later.0 k word y own_word own_far
    ]
far_in-first (g ∷ gs) x order e (suc f) function k word y there here far earlier =
    elim (first-case (far_among 0 (function_words Postprocessed g)) (far_in gs) x e) [
      | inl own ↦
          let across = pairs-across IsEarlier (item_lines g.items) (program_lines gs) order in
          let P : Line → Type 0 = λ line. All (IsEarlier line) (program_lines gs) in
          let first : P x.0 = far_among-told P 0 (function_words Postprocessed g) x (function-tells P g (λ i item h. items-all P g.items i item across h)) own in
          let later : IsEarlier x.0 y.0 = tell-at (IsEarlier x.0) (function_words Postprocessed function) k word (function-tells (IsEarlier x.0) function (λ i item h. order-all (IsEarlier x.0) gs f i function item first there h)) here k y far in
          earlier-not_later y.0 x.0 earlier later
      | inr later ↦ far_in-first gs x (pairs-back IsEarlier (item_lines g.items) (program_lines gs) order) later.1 f function k word y there here far earlier
    ]

-- the first by the order of functions and words is the first by file and line
pub first-far : (p : Program) (line : Line) (distance : ℤ) → ∥ HasOrder p ∥₁ → far_branch p ≡ Some (line, distance) → IsFirstFar p line distance
unfolding far_branch
first-far p line distance order e =
    let prop : IsProp ⊥ = hlevel in (
      e,
      λ l d is earlier. ∥∥₁_elim order prop (λ o. far_in-first p.functions (line, distance) o e is.f is.function is.at is.word (l, d) is.there is.placed is.far earlier),
    )
