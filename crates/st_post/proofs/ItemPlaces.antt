-- Where items stand: what the table of places tells of a number within it (place-within) and past it (place-past), that no place is past
-- the items' size (items_size-take), and how places and words go on by one item (items_size-next, items_words-next).
use Rattle.std.proofs.Common.{◌≡◌, ◌∙◌, ℕ, zero, suc, ◌+◌, ◌-◌, ◌<◌, ◌≤◌, true, List, [], ◌∷◌, ◌++◌, append_assoc, ap, sym, subst, refl, length, take, drop, get_or, arith}
use Rattle.st_model.specs.declared.code.Layout.{Layout}
use Rattle.st_model.specs.declared.code.PostedIns.{PostedIns}
use Rattle.st_model.specs.declared.code.PostedWord.{PostedWord}
use Rattle.st_model.specs.declared.program.Item.{Item}
use Rattle.st_model.specs.declared.program.ProgramFunction.{ProgramFunction}
use Rattle.st_model.specs.Layout.{item_size, items_size, item_place, item_ins, items_words, words_at}
use Rattle.std.proofs.lemmas.List.{get_or_default}
use Rattle.st_check.proofs.Drops.{drop-read}
use Rattle.st_post.specs.Places.{places_from}

pub length-places_from : (layout : Layout) (function : ProgramFunction) (at : ℕ) (xs : List Item) → length (places_from layout function at xs) ≡ length xs + 1
length-places_from layout function at [] = omega arith
length-places_from layout function at (x ∷ xs) =
    omega (arith, length-places_from layout function (at + item_size layout function x.kind) xs)

pub places_from-within : (layout : Layout) (function : ProgramFunction) (at : ℕ) (xs : List Item) (k : ℕ) → k ≤ length xs → get_or (places_from layout function at xs) k 0 ≡ at + items_size layout function (take k xs)
places_from-within layout function at [] zero h = omega arith
places_from-within layout function at [] (suc k) h = absurd (omega arith)
places_from-within layout function at (x ∷ xs) zero h = omega arith
places_from-within layout function at (x ∷ xs) (suc k) h =
    omega (arith, places_from-within layout function (at + item_size layout function x.kind) xs k (omega arith))

pub items_size-take : (layout : Layout) (function : ProgramFunction) (xs : List Item) (k : ℕ) → items_size layout function (take k xs) ≤ items_size layout function xs
items_size-take layout function [] zero = omega arith
items_size-take layout function [] (suc k) = omega arith
items_size-take layout function (x ∷ xs) zero = omega arith
items_size-take layout function (x ∷ xs) (suc k) = omega (arith, items_size-take layout function xs k)

pub items_size-next : (layout : Layout) (function : ProgramFunction) (xs : List Item) (k : ℕ) (x : Item) → k < length xs → x ≡ get_or xs k x → items_size layout function (take (k + 1) xs) ≡ items_size layout function (take k xs) + item_size layout function x.kind
items_size-next layout function [] k x inside here = absurd (omega arith)
items_size-next layout function (y ∷ ys) zero x inside here =
    let e : item_size layout function x.kind ≡ item_size layout function y.kind = ap (λ (i : Item). item_size layout function i.kind) here in
    omega (arith, e)
items_size-next layout function (y ∷ ys) (suc k) x inside here =
    let same : suc (k + 1) ≡ suc k + 1 = omega arith in
    let e : items_size layout function (take (suc (k + 1)) (y ∷ ys)) ≡ items_size layout function (take (suc k + 1) (y ∷ ys)) = ap (λ n. items_size layout function (take n (y ∷ ys))) same in
    omega (arith, e, items_size-next layout function ys k x (omega arith) here)

pub take-past : {A : Type 0} (xs : List A) (k : ℕ) → length xs ≤ k → take k xs ≡ xs
take-past [] zero h = refl
take-past [] (suc k) h = refl
take-past (x ∷ xs) zero h = absurd (omega arith)
take-past (x ∷ xs) (suc k) h = ap (λ t. x ∷ t) (take-past xs k (omega arith))

pub length-places : (layout : Layout) (function : ProgramFunction) (places : List ℕ) → places ≡ places_from layout function 0 function.items → length places ≡ length function.items + 1
length-places layout function places are = ap (λ (ps : List ℕ). length ps) are ∙ length-places_from layout function 0 function.items

-- what the table tells of a number within it, and past it
pub place-within : (layout : Layout) (function : ProgramFunction) (places : List ℕ) (k : ℕ) → places ≡ places_from layout function 0 function.items → k < length places → get_or places k 0 ≡ item_place layout function k
place-within layout function places k are inside =
    let e : get_or places k 0 ≡ get_or (places_from layout function 0 function.items) k 0 = ap (λ ps. get_or ps k 0) are in
    let here : k ≤ length function.items = omega (arith, length-places layout function places are) in
    omega (arith, e, places_from-within layout function 0 function.items k here)

pub place-read : (layout : Layout) (function : ProgramFunction) (places : List ℕ) (k place : ℕ) → places ≡ places_from layout function 0 function.items → k < length places → place ≡ get_or places k place → place ≡ item_place layout function k
place-read layout function places k place are inside read = read ∙ get_or_default places k place 0 inside ∙ place-within layout function places k are inside

pub place-past : (layout : Layout) (function : ProgramFunction) (places : List ℕ) (k : ℕ) → places ≡ places_from layout function 0 function.items → length places ≤ k → get_or places (length places - 1) 0 ≡ item_place layout function k
place-past layout function places k are past =
    let few : length places ≡ length function.items + 1 = length-places layout function places are in
    let last : length places - 1 < length places = omega arith in
    let there : length places - 1 ≡ length function.items = omega arith in
    place-within layout function places (length places - 1) are last
    ∙ ap (item_place layout function) there
    ∙ ap (items_size layout function) (take-past function.items (length function.items) (omega arith) ∙ sym (take-past function.items k (omega arith)))

pub items_words-next : (layout : Layout) (function : ProgramFunction) (xs : List Item) (k : ℕ) (x : Item) → k < length xs → x ≡ get_or xs k x → items_words layout function (items_size layout function (take k xs)) (drop k xs) ≡ words_at x.line true (item_ins layout function (items_size layout function (take k xs)) x.kind) ++ items_words layout function (items_size layout function (take (k + 1) xs)) (drop (k + 1) xs)
items_words-next layout function xs k x inside here =
    let at = items_size layout function (take k xs) in
    ap (items_words layout function at) (drop-read xs k x inside here)
    ∙ ap (λ n. words_at x.line true (item_ins layout function at x.kind) ++ items_words layout function n (drop (k + 1) xs)) (sym (items_size-next layout function xs k x inside here))

-- the words of one more item are pushed
pub items_words-pushed : (layout : Layout) (function : ProgramFunction) (xs : List Item) (k : ℕ) (d : Item) (old words whole : List PostedWord) (none ins : List PostedIns) (at : ℕ) → xs ≡ function.items → k < length xs → at ≡ item_place layout function k → none ≡ [] → ins ≡ none ++ item_ins layout function at (get_or xs k d).kind → words ≡ old ++ words_at (get_or xs k d).line true ins → old ++ items_words layout function (item_place layout function k) (drop k function.items) ≡ whole → words ++ items_words layout function (item_place layout function (k + 1)) (drop (k + 1) function.items) ≡ whole
items_words-pushed layout function xs k d old words whole none ins at are inside place empty added pushed before =
    let x = get_or xs k d in
    let made : ins ≡ item_ins layout function at x.kind = added ∙ ap (λ is. is ++ item_ins layout function at x.kind) empty in
    let rest = items_words layout function (item_place layout function (k + 1)) (drop (k + 1) function.items) in
    let long : k < length function.items = subst (λ (ys : List Item). k < length ys) are inside in
    let here : x ≡ get_or function.items k x = get_or_default xs k d x inside ∙ ap (λ ys. get_or ys k x) are in
    let these : words ≡ old ++ words_at x.line true (item_ins layout function (item_place layout function k) x.kind) = pushed ∙ ap (λ is. old ++ words_at x.line true is) made ∙ ap (λ n. old ++ words_at x.line true (item_ins layout function n x.kind)) place in
    ap (λ ws. ws ++ rest) these
    ∙ append_assoc old (words_at x.line true (item_ins layout function (item_place layout function k) x.kind)) rest
    ∙ ap (λ ws. old ++ ws) (sym (items_words-next layout function function.items k x long here))
    ∙ before
