-- Where an item of a body without a fault goes on, an item stands behind it (line-goes_on); and the item to which a branch goes is in the
-- function, behind its prologue (number-stays).
use Rattle.std.proofs.Common.{◌≡◌, ◌∙◌, ℕ, suc, ◌+◌, ◌<◌, ◌≤◌, Bool, true, false, not, ◌&&◌, ◌||◌, ◌==◌, List, [], ◌∷◌, refl, ap, sym, subst, cond, slice_get, length, Some, arith}
use Rattle.std.proofs.lemmas.Bool.{eqb-true}
use Rattle.st_line.specs.declared.source.SourceIns.{SourceIns}
use Rattle.st_line.specs.declared.source.SourceIns.TheVariants as source
use Rattle.st_asm.specs.declared.unit.SourceLine.{SourceLine}
use Rattle.st_asm.specs.declared.unit.Function.{Function}
use Rattle.st_check.specs.Shape.{Formed, Group, epilogue, single}
use Rattle.st_check.specs.Faults.{group_faults, line_faults, only_forks, falls_out, forks_right, forks_before, calls_function, is_fork_register, is_fork, ends, begins_group}
use Rattle.st_check.specs.Programs.{items_of, item_number}
use Rattle.st_check.proofs.Frames.{and-both}
use Rattle.st_check.proofs.LineRight.{append-none, line-right}
use Rattle.st_check.proofs.BodyPlaces.{AreAt}

and-left-false : (a b : Bool) → (a && not b) ≡ false → b ≡ false → a ≡ false
and-left-false true true h e = cc
and-left-false true false h e = cc
and-left-false false b h e = refl

-- groups that aren't lines `.st_fork` alone have an item
pub items-some : (functions : List Function) (gs hs : List (ℕ × Group)) → only_forks hs ≡ false → 0 < length (items_of functions gs false hs)
items-some functions gs [] some = cc
items-some functions gs ((at, epilogue line) ∷ hs) some = omega arith
items-some functions gs ((at, single l) ∷ hs) some = omega arith

call-goes_on : (functions : List Function) (ins : SourceIns) (labelled : Bool) (behind : List (ℕ × Group)) → (calls_function functions ins && not labelled) ≡ true → falls_out ins behind ≡ false → only_forks behind ≡ false
call-goes_on functions (source.Call name) labelled behind calls falls = and-left-false (only_forks behind) false falls refl
call-goes_on functions _ labelled behind calls falls = cc

fork-goes_on : (functions : List Function) (f h : ℕ) (shape : Formed) (gs behind : List (ℕ × Group)) → forks_before functions behind ≡ true → group_faults functions f h shape behind ≡ [] → 0 < length (items_of functions gs true behind)
fork-goes_on functions f h shape gs [] forks none = cc
fork-goes_on functions f h shape gs ((at, epilogue line) ∷ behind) forks none = cc
fork-goes_on functions f h shape gs ((at, single l) ∷ behind) forks none =
    let right = line-right functions f h shape l behind (append-none (line_faults functions f h shape l behind) _ none).0 in
    items-some functions gs behind (call-goes_on functions l.ins l.labelled behind forks right.goes_on)

pub line-goes_on : (functions : List Function) (f h : ℕ) (shape : Formed) (gs : List (ℕ × Group)) (ins : SourceIns) (behind : List (ℕ × Group)) → falls_out ins behind ≡ false → forks_right functions ins behind ≡ true → group_faults functions f h shape behind ≡ [] → ends ins ≡ false → 0 < length (items_of functions gs (is_fork ins) behind)
line-goes_on functions f h shape gs (source.Fork handle) behind falls forks none goes =
    fork-goes_on functions f h shape gs behind (and-both (is_fork_register handle) (forks_before functions behind) forks).1 none
line-goes_on functions f h shape gs ins behind falls forks none goes =
    items-some functions gs behind (and-left-false (only_forks behind) (ends ins) falls goes)

-- ---- branches

abbrev pub Counts : ℕ → ℕ → ℕ → Type 0
Counts n count number = (n ≤ number) × (number < n + count)

counts-more : (n count number : ℕ) → Counts (n + 1) count number → Counts n (suc count) number
counts-more n count number c =
    let a : n + 1 ≤ number = c.0 in
    let b : number < n + 1 + count = c.1 in
    (omega (arith, a), omega (arith, b))

-- a group that begins an item, or another behind it
number-begins : (b : Bool) (n count number : ℕ) (rest : Bool) → (b || rest) ≡ true → (rest ≡ true → Counts (n + 1) count number) → Counts n (suc count) (cond b n number)
number-begins true n count number rest begins each = (omega arith, omega arith)
number-begins false n count number rest begins each = counts-more n count number (each begins)

-- the call behind a fork has no label, so that no branch goes there
call-unlabelled : (functions : List Function) (items : List SourceLine) (at b : ℕ) (l : SourceLine) (rest : Bool) (test : Bool) → (b == at) ≡ test → slice_get items b ≡ Some l → (calls_function functions l.ins && not l.labelled) ≡ true → ((item : SourceLine) → slice_get items at ≡ Some item → item.labelled ≡ true) → (test || rest) ≡ true → rest ≡ true
call-unlabelled functions items at b l rest false same here forks labelled begins = begins
call-unlabelled functions items at b l rest true same here forks labelled begins =
    let there : slice_get items at ≡ Some l = subst (λ n. slice_get items n ≡ Some l) (eqb-true b at same) here in
    let is : l.labelled ≡ true = labelled l there in
    let free : not l.labelled ≡ true = (and-both (calls_function functions l.ins) (not l.labelled) forks).1 in
    let never : false ≡ true = sym (ap not is) ∙ free in
    cc

-- behind a fork stands its call
abbrev pub IsForked : List Function → Bool → List (ℕ × Group) → Type 0
IsForked functions true hs = forks_before functions hs ≡ true
IsForked functions false hs = Unit {0}

fork-forked : (functions : List Function) (ins : SourceIns) (behind : List (ℕ × Group)) → forks_right functions ins behind ≡ true → IsForked functions (is_fork ins) behind
fork-forked functions (source.Fork handle) behind forks = (and-both (is_fork_register handle) (forks_before functions behind) forks).1
fork-forked functions _ behind forks = tt

pub number-stays : (functions : List Function) (items : List SourceLine) (f h : ℕ) (shape : Formed) (at : ℕ) (gs : List (ℕ × Group)) (n : ℕ) (forked : Bool) (hs : List (ℕ × Group)) → ((item : SourceLine) → slice_get items at ≡ Some item → item.labelled ≡ true) → AreAt items hs → group_faults functions f h shape hs ≡ [] → IsForked functions forked hs → begins_group at hs ≡ true → Counts n (length (items_of functions gs forked hs)) (item_number n forked at hs)
number-stays functions items f h shape at gs n forked [] labelled are none is begins = cc
number-stays functions items f h shape at gs n true ((b, epilogue line) ∷ hs) labelled are none is begins = cc
number-stays functions items f h shape at gs n true ((b, single l) ∷ hs) labelled are none is begins =
    number-stays functions items f h shape at gs n false hs labelled are.1 (append-none (line_faults functions f h shape l hs) _ none).1 tt
    (call-unlabelled functions items at b l (begins_group at hs) (b == at) refl are.0 is labelled begins)
number-stays functions items f h shape at gs n false ((b, epilogue line) ∷ hs) labelled are none is begins =
    number-begins (b == at) n (length (items_of functions gs false hs)) (item_number (n + 1) false at hs) (begins_group at hs) begins (λ more. number-stays functions items f h shape at gs (n + 1) false hs labelled are none tt more)
number-stays functions items f h shape at gs n false ((b, single l) ∷ hs) labelled are none is begins =
    let parts = append-none (line_faults functions f h shape l hs) _ none in
    let right = line-right functions f h shape l hs parts.0 in
    number-begins (b == at) n (length (items_of functions gs (is_fork l.ins) hs)) (item_number (n + 1) (is_fork l.ins) at hs) (begins_group at hs) begins (λ more. number-stays functions items f h shape at gs (n + 1) (is_fork l.ins) hs labelled are.1 parts.1 (fork-forked functions l.ins hs right.forks) more)
