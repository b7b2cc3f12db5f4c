-- Listings, as loops write them: drop-at takes the next word off what is left, and lines-next writes its line.
use Rattle.std.proofs.Common.{◌≡◌, ◌∙◌, ℕ, suc, ◌+◌, ◌<◌, List, ◌∷◌, ◌++◌, length, drop, get_or, ap, sym, arith}
use Rattle.std.proofs.Math.Seq.{drop-cons}
use Rattle.std.proofs.lemmas.List.{append_assoc}
use Rattle.st_main.specs.Listing.{word_line, word_lines}

-- what is left of a list from an index on begins with the element there, which is read by any default
pub drop-at : {A : Type 0} → (xs : List A) (i : ℕ) (d : A) → i < length xs → drop i xs ≡ get_or xs i d ∷ drop (i + 1) xs
drop-at xs i d inside =
    let e : suc i ≡ i + 1 = omega arith in
    drop-cons xs i d inside ∙ ap (λ k. get_or xs i d ∷ drop k xs) e

-- the lines of what is left, once the next word's is written
pub lines-next : (old new whole : List ℕ) (address w : ℕ) (rest left : List ℕ) → new ≡ old ++ word_line address w → left ≡ w ∷ rest → old ++ word_lines address left ≡ whole → new ++ word_lines (address + 4) rest ≡ whole
lines-next old new whole address w rest left made next before =
    ap (λ bs. bs ++ word_lines (address + 4) rest) made ∙ append_assoc old (word_line address w) (word_lines (address + 4) rest) ∙ ap (λ ws. old ++ word_lines address ws) (sym next) ∙ before
