-- Items of groups one by one: a call that belongs to the fork before it (items_of-skips), and a group that is an item (items_of-steps).
use Rattle.std.proofs.Common.{◌≡◌, ◌∙◌, ℕ, ◌+◌, ◌<◌, Bool, true, false, List, [], ◌∷◌, ◌++◌, refl, ap, sym, append_assoc, length, drop, get_or}
use Rattle.st_asm.specs.declared.unit.Function.{Function}
use Rattle.st_model.specs.declared.program.Item.{Item}
use Rattle.st_check.specs.declared.body.Group.{Group as Group'}
use Rattle.st_check.specs.declared.body.Placed.{Placed}
use Rattle.st_check.specs.Shape.{Group, epilogue, single}
use Rattle.st_check.specs.Programs.{items_of, is_fork_group}
use Rattle.st_check.specs.Views.{item_of, group_view, groups_view}
use Rattle.st_check.proofs.LeastFaults.{groups_view-read}

items_of-begins : (functions : List Function) (gs : List (ℕ × Group)) (at : ℕ) (g : Group) (rest : List (ℕ × Group)) → items_of functions gs false ((at, g) ∷ rest) ≡ item_of functions gs g rest ∷ items_of functions gs (is_fork_group g) rest
items_of-begins functions gs at (epilogue line) rest = refl
items_of-begins functions gs at (single l) rest = refl

pub items_of-skips : (functions : List Function) (gs : List (ℕ × Group)) (groups : List Placed) (at : ℕ) (p : Placed) (forked : Bool) → at < length groups → p ≡ get_or groups at p → forked ≡ true → items_of functions gs false (groups_view (drop (at + 1) groups)) ≡ items_of functions gs forked (groups_view (drop at groups))
items_of-skips functions gs groups at p forked inside here e =
    sym (λ j. items_of functions gs (e j) (groups_view-read groups at (at + 1) p refl inside here j))

pub items_of-steps : (functions : List Function) (gs : List (ℕ × Group)) (groups : List Placed) (at : ℕ) (p : Placed) (q : Group') (items items' : List Item) (item : Item) (old new : Bool) → at < length groups → p ≡ get_or groups at p → q ≡ p.group → old ≡ false → item ≡ item_of functions gs (group_view q) (groups_view (drop (at + 1) groups)) → items' ≡ items ++ item ∷ [] → new ≡ is_fork_group (group_view q) → items' ++ items_of functions gs new (groups_view (drop (at + 1) groups)) ≡ items ++ items_of functions gs old (groups_view (drop at groups))
items_of-steps functions gs groups at p q items items' item old new inside here same none is grown fork =
    let rest = groups_view (drop (at + 1) groups) in
    (λ j. grown j ++ items_of functions gs (fork j) rest)
    ∙ append_assoc items (item ∷ []) (items_of functions gs (is_fork_group (group_view q)) rest)
    ∙ (λ j. items ++ (is j ∷ items_of functions gs (is_fork_group (group_view q)) rest))
    ∙ ap (λ g. items ++ (item_of functions gs (group_view g) rest ∷ items_of functions gs (is_fork_group (group_view g)) rest)) same
    ∙ ap (λ t. items ++ t) (sym (items_of-begins functions gs p.at (group_view p.group) rest))
    ∙ (λ j. items ++ items_of functions gs (sym none j) (sym (groups_view-read groups at (at + 1) p refl inside here) j))
