-- The least of faults: of two lists (least_onto-append), of the faults of a line (least_onto-line), of all (least_fault-onto).
use Rattle.std.proofs.Common.{◌≡◌, ◌∙◌, ℕ, ◌+◌, ◌<◌, List, [], ◌∷◌, ◌++◌, refl, ap, sym, length, drop, get_or, Option, Some, None}
use Rattle.st_base.specs.declared.line.Line.{Line}
use Rattle.st_asm.specs.declared.unit.Function.{Function}
use Rattle.st_asm.specs.declared.unit.SourceLine.{SourceLine}
use Rattle.st_check.specs.declared.body.Group.{Group as Group'}
use Rattle.st_check.specs.declared.body.Placed.{Placed}
use Rattle.st_check.specs.Shape.{Fault, Formed, Group, epilogue, single}
use Rattle.st_check.specs.Faults.{lesser, least_fault, group_faults, function_faults, functions_faults, line_before}
use Rattle.st_check.specs.Views.{least_onto, first_faults, group_view, groups_view}
use Rattle.st_check.proofs.Drops.{drop-read}

pub least_onto-append : (xs ys : List Fault) (best : Option Fault) → least_onto (xs ++ ys) best ≡ least_onto xs (least_onto ys best)
least_onto-append [] ys best = refl
least_onto-append (x ∷ xs) ys best = ap (λ b. Some (lesser x b)) (least_onto-append xs ys best)

pub least_fault-onto : (xs : List Fault) → least_fault xs ≡ least_onto xs None
least_fault-onto [] = refl
least_fault-onto (x ∷ xs) = ap (λ b. Some (lesser x b)) (least_fault-onto xs)

-- the least of the faults of a line, kind by kind from the last
pub least_onto-line : (a b c d e f g : List Fault) (r0 r1 r2 r3 r4 r5 r6 r7 : Option Fault) → r1 ≡ least_onto g r0 → r2 ≡ least_onto f r1 → r3 ≡ least_onto e r2 → r4 ≡ least_onto d r3 → r5 ≡ least_onto c r4 → r6 ≡ least_onto b r5 → r7 ≡ least_onto a r6 → r7 ≡ least_onto (a ++ b ++ c ++ d ++ e ++ f ++ g) r0
least_onto-line a b c d e f g r0 r1 r2 r3 r4 r5 r6 r7 e1 e2 e3 e4 e5 e6 e7 =
    e7
    ∙ ap (least_onto a) (e6 ∙ ap (least_onto b) (e5 ∙ ap (least_onto c) (e4 ∙ ap (least_onto d) (e3 ∙ ap (least_onto e) (e2 ∙ ap (least_onto f) e1)))))
    ∙ sym (simp least_onto-append)

group_faults-first : (functions : List Function) (f h at : ℕ) (shape : Formed) (g : Group) (gs : List (ℕ × Group)) → group_faults functions f h shape ((at, g) ∷ gs) ≡ first_faults functions f h shape g gs ++ group_faults functions f h shape gs
group_faults-first functions f h at shape (epilogue line) gs = refl
group_faults-first functions f h at shape (single l) gs = refl

pub groups_view-read : (groups : List Placed) (i j : ℕ) (p : Placed) → j ≡ i + 1 → i < length groups → p ≡ get_or groups i p → groups_view (drop i groups) ≡ (p.at, group_view p.group) ∷ groups_view (drop j groups)
groups_view-read groups i j p next inside here = ap groups_view (drop-read groups i p inside here) ∙ (λ k. (p.at, group_view p.group) ∷ groups_view (drop (sym next k) groups))

-- a group more
pub least_onto-group : (functions : List Function) (f h : ℕ) (shape : Formed) (groups : List Placed) (i j : ℕ) (p : Placed) (q : Group') (b b' r : Option Fault) → j ≡ i + 1 → i < length groups → p ≡ get_or groups i p → q ≡ p.group → r ≡ least_onto (first_faults functions f h shape (group_view q) (groups_view (drop j groups))) b' → b' ≡ least_onto (group_faults functions f h shape (groups_view (drop j groups))) b → r ≡ least_onto (group_faults functions f h shape (groups_view (drop i groups))) b
least_onto-group functions f h shape groups i j p q b b' r next inside here same e rest =
    e
    ∙ (λ k. least_onto (first_faults functions f h shape (group_view (same k)) (groups_view (drop j groups))) (rest k))
    ∙ sym (least_onto-append (first_faults functions f h shape (group_view p.group) (groups_view (drop j groups))) (group_faults functions f h shape (groups_view (drop j groups))) b)
    ∙ ap (λ xs. least_onto xs b) (sym (group_faults-first functions f h p.at shape (group_view p.group) (groups_view (drop j groups))))
    ∙ ap (λ gs. least_onto (group_faults functions f h shape gs) b) (sym (groups_view-read groups i j p next inside here))

-- a function more
pub least_onto-function : (functions : List Function) (i j : ℕ) (g q : Function) (b b' r : Option Fault) (gs : List Function) → j ≡ i + 1 → i < length gs → g ≡ get_or gs i g → q ≡ g → r ≡ least_onto (function_faults functions i q) b' → b' ≡ least_onto (functions_faults functions j (drop j gs)) b → r ≡ least_onto (functions_faults functions i (drop i gs)) b
least_onto-function functions i j g q b b' r gs next inside here same e rest =
    e
    ∙ (λ k. least_onto (function_faults functions i (same k)) (rest k))
    ∙ sym (least_onto-append (function_faults functions i g) (functions_faults functions j (drop j gs)) b)
    ∙ (λ k. least_onto (function_faults functions i g ++ functions_faults functions (next k) (drop (next k) gs)) b)
    ∙ ap (λ xs. least_onto (functions_faults functions i xs) b) (sym (drop-read gs i g inside here))

pub line_before-none : (line : Line) (ls : List SourceLine) → line_before line 0 ls ≡ line
line_before-none line [] = refl
line_before-none line (l ∷ ls) = refl
