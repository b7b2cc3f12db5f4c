-- The test of the form, word by word and name by name. The laws to reach for: fits-step for a word, is_among-step for a
-- name, items-some and items-none for what the test of all words says.
use Rattle.std.proofs.Common.{◌≡◌, ◌∙◌, ◌<◌, ◌+◌, ◌-◌, ℕ, Bool, true, false, is_some, List, [], ◌∷◌, map, length, get_or, take, drop, Option, Some, None, refl, sym, ap, add-one, sub-one, drop-cons, arith}
use Rattle.std.proofs.lemmas.List.{take_all}
use Rattle.std.specs.Borrow.{Bor}
use Rattle.std.specs.Str.{bytes_eq}
use Rattle.std.specs.Prelude.{suc, if◌then◌else◌, String, string_bytes}
use Rattle.std.specs.Option.{option_map_or}
use Rattle.st_jobs.specs.Words.{Text, Mark, plain, named, wrong, Item, is_among, mark_of, with_item, items_from, items_of}
use Rattle.st_jobs.specs.Form.{fits, next_waiting}

with_item-some : (name text : Text) (items : Option (List Item)) → is_some (with_item name text items) ≡ is_some items
with_item-some name text None = refl
with_item-some name text (Some later) = refl

-- which option waits makes no difference to the form
waiting-same : (marks : List Mark) (a b : Text) → is_some (items_from marks (Some a)) ≡ is_some (items_from marks (Some b))
waiting-same [] a b = refl
waiting-same (plain word ∷ rest) a b =
    with_item-some a word (items_from rest None) ∙ sym (with_item-some b word (items_from rest None))
waiting-same (named name None ∷ rest) a b = refl
waiting-same (named name (Some value) ∷ rest) a b = refl
waiting-same (wrong ∷ rest) a b = refl

fits-cons : (mark : Mark) (rest : List Mark) (waiting : Bool)
    → fits (mark ∷ rest) waiting ≡ option_map_or (fits rest) (next_waiting mark waiting) false
fits-cons (plain word) rest true = with_item-some [] word (items_from rest None)
fits-cons (plain word) rest false = with_item-some _ word (items_from rest None)
fits-cons (named name None) rest true = refl
fits-cons (named name (Some value)) rest true = refl
fits-cons (named name None) rest false = waiting-same rest name []
fits-cons (named name (Some value)) rest false = with_item-some name value (items_from rest None)
fits-cons wrong rest true = refl
fits-cons wrong rest false = refl

module _ {Z : Type 0} where
  pub fits-step : (names : List Text) (words : List (String Z)) (i : ℕ) (word : String Z) (waiting : Bool) → i < length words → word ≡ get_or words i word
      → fits (map (mark_of names) (map string_bytes (drop i words))) waiting
      ≡ option_map_or (fits (map (mark_of names) (map string_bytes (drop (i + 1) words)))) (next_waiting (mark_of names (string_bytes word)) waiting) false
  fits-step names words i word waiting lt e =
      let cut : drop i words ≡ word ∷ drop (i + 1) words = rw (add-one, drop-cons words i word) (ap (λ w. w ∷ drop (suc i) words) (sym e)) in
      ap (λ ws. fits (map (mark_of names) (map string_bytes ws)) waiting) cut
      ∙ fits-cons (mark_of names (string_bytes word)) (map (mark_of names) (map string_bytes (drop (i + 1) words))) waiting

-- ---- a list of names

is_among-cons : (known : Bor Text) (names : List (Bor Text)) (name : Text) (same : Bool) → same ≡ bytes_eq known.now name
    → is_among (map (λ s. s.now) (known ∷ names)) name ≡ (if same then true else is_among (map (λ s. s.now) names) name)
is_among-cons known names name true e = rw (← e)
is_among-cons known names name false e = rw (← e)

pub is_among-step : (names : List (Bor Text)) (name : Text) (i : ℕ) (d : Bor Text) (same : Bool) → i < length names → same ≡ bytes_eq (get_or names i d).now name
    → is_among (map (λ s. s.now) (drop i names)) name ≡ (if same then true else is_among (map (λ s. s.now) (drop (i + 1) names)) name)
is_among-step names name i d same lt e =
    let cut : drop i names ≡ get_or names i d ∷ drop (i + 1) names = rw (add-one, drop-cons names i d) in
    ap (λ ns. is_among (map (λ s. s.now) ns) name) cut ∙ is_among-cons (get_or names i d) (drop (i + 1) names) name same e

-- ---- what the test says of the words after the first

some-there : {X : Type 0} (o : Option X) → is_some o ≡ true → (x : X) × (o ≡ Some x)
some-there None e = cc
some-there (Some x) e = (x, refl)

none-there : {X : Type 0} (o : Option X) → is_some o ≡ false → o ≡ None
none-there None e = refl
none-there (Some x) e = cc

module _ {Z : Type 0} where
  -- the words after the first, as a slice and as a list
  rest-drop : (words : List (String Z)) → map string_bytes (take (length words - 1) (drop 1 words)) ≡ drop 1 (map string_bytes words)
  rest-drop [] = refl
  rest-drop (word ∷ words) = ap (map string_bytes) (take_all (length (word ∷ words) - 1) words (omega (arith, sub-one)))

  pub items-some : (names : List Text) (words : List (String Z)) (r : Bool)
      → r ≡ is_some (items_of names (map string_bytes (take (length words - 1) (drop 1 words)))) → r ≡ true
      → (items : List Item) × (items_of names (drop 1 (map string_bytes words)) ≡ Some items)
  items-some names words r e t = some-there (items_of names (drop 1 (map string_bytes words)))
      (ap (λ ws. is_some (items_of names ws)) (sym (rest-drop words)) ∙ sym e ∙ t)

  pub items-none : (names : List Text) (words : List (String Z)) (r : Bool)
      → r ≡ is_some (items_of names (map string_bytes (take (length words - 1) (drop 1 words)))) → r ≡ false
      → items_of names (drop 1 (map string_bytes words)) ≡ None
  items-none names words r e t = none-there (items_of names (drop 1 (map string_bytes words)))
      (ap (λ ws. is_some (items_of names ws)) (sym (rest-drop words)) ∙ sym e ∙ t)
