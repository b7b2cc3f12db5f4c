-- Texts and their lines: bytes that stand before the end of the first line (onto_line), taken one at a time.
use Rattle.std.proofs.Common.{ℕ, suc, ◌≡◌, ◌+◌, ◌<◌, true, false, List, [], ◌∷◌, ◌++◌, refl, ap, sym, ◌∙◌, cond, take, drop, length, get_or, append_assoc, append-nil, ◌==◌, add-one}
use Rattle.std.proofs.Math.Seq.{drop-cons, drop-length, take-length}
use Rattle.std.proofs.lemmas.List.{take_more}
use Rattle.st_asm.specs.Labels.{onto_first, lines_of}

-- bytes before the first of these lines
abbrev pub onto_line : List ℕ → List (List ℕ) → List (List ℕ)
onto_line xs [] = xs ∷ []
onto_line xs (l ∷ ls) = (xs ++ l) ∷ ls

onto_line-onto_first : (xs : List ℕ) (b : ℕ) (ls : List (List ℕ)) → onto_line xs (onto_first b ls) ≡ onto_line (xs ++ b ∷ []) ls
onto_line-onto_first xs b [] = refl
onto_line-onto_first xs b (l ∷ ls) = ap (λ t. t ∷ ls) (sym (append_assoc xs (b ∷ []) l))

onto_line-first : (b : ℕ) (ls : List (List ℕ)) → onto_first b ls ≡ onto_line [] (onto_first b ls)
onto_line-first b [] = refl
onto_line-first b (l ∷ ls) = refl

-- no bytes before a text
pub onto_line_nothing : (bs : List ℕ) → lines_of bs ≡ onto_line [] (lines_of bs)
onto_line_nothing [] = refl
onto_line_nothing (b ∷ bs) = elim (b == 10) as (λ c. cond c ([] ∷ lines_of bs) (onto_first b (lines_of bs)) ≡ onto_line [] (cond c ([] ∷ lines_of bs) (onto_first b (lines_of bs)))) [ true ↦ refl | false ↦ onto_line-first b (lines_of bs) ]

-- a byte that ends no line
pub onto_line_more : (text : List ℕ) (i d : ℕ) → i < length text → (get_or text i d == 10) ≡ false → onto_line (take i text) (lines_of (drop i text)) ≡ onto_line (take (i + 1) text) (lines_of (drop (i + 1) text))
onto_line_more text i d h n =
    ap (λ t. onto_line (take i text) (lines_of t)) (drop-cons text i d h)
    ∙ ap (λ c. onto_line (take i text) (cond c ([] ∷ lines_of (drop (suc i) text)) (onto_first (get_or text i d) (lines_of (drop (suc i) text))))) n
    ∙ onto_line-onto_first (take i text) (get_or text i d) (lines_of (drop (suc i) text))
    ∙ (λ k. onto_line (sym (take_more text i d h) k) (lines_of (drop (sym (add-one i) k) text)))

-- a line feed
pub onto_line_cut : (text : List ℕ) (i d : ℕ) → i < length text → (get_or text i d == 10) ≡ true → onto_line (take i text) (lines_of (drop i text)) ≡ take i text ∷ lines_of (drop (i + 1) text)
onto_line_cut text i d h y =
    ap (λ t. onto_line (take i text) (lines_of t)) (drop-cons text i d h)
    ∙ ap (λ c. onto_line (take i text) (cond c ([] ∷ lines_of (drop (suc i) text)) (onto_first (get_or text i d) (lines_of (drop (suc i) text))))) y
    ∙ (λ k. append-nil (take i text) k ∷ lines_of (drop (sym (add-one i) k) text))

-- the end of a text
pub onto_line_end : (text : List ℕ) → onto_line (take (length text) text) (lines_of (drop (length text) text)) ≡ text ∷ []
onto_line_end text = rw (drop-length text) (ap (λ (l : List ℕ). l ∷ []) (append-nil (take (length text) text) ∙ take-length text))
