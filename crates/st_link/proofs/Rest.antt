-- What is left of a list from an index on, as loops go over it: drop-at takes the next element off, and append-next moves an element over.
use Rattle.std.proofs.Common.{◌≡◌, ◌∙◌, ℕ, suc, ◌+◌, ◌<◌, false, List, [], ◌∷◌, ◌++◌, length, map, drop, get_or, pos, ap, sym, arith}
use Rattle.std.proofs.Math.Seq.{drop-cons}
use Rattle.std.proofs.lemmas.List.{append_assoc, map-append}
use Rattle.st_base.specs.declared.reg.Reg.TheVariants.{Zero}
use Rattle.st_rv.specs.declared.ins.Op.TheVariants.{Add}
use Rattle.st_rv.specs.declared.ins.Ins.{Ins}
use Rattle.st_model.specs.declared.code.PostedIns.TheVariants.{Plain}
use Rattle.st_model.specs.declared.code.PostedWord.{PostedWord}
use Rattle.st_link.specs.Encoding.{AllFit}

-- an element is read by any default
pub drop-at : {A : Type 0} → (xs : List A) (i : ℕ) (d : A) → i < length xs → drop i xs ≡ get_or xs i d ∷ drop (i + 1) xs
drop-at xs i d inside =
    let e : suc i ≡ i + 1 = omega arith in
    drop-cons xs i d inside ∙ ap (λ k. get_or xs i d ∷ drop k xs) e

pub drop-next : {A : Type 0} → (xs : List A) (i : ℕ) (x : A) → i < length xs → x ≡ get_or xs i x → drop i xs ≡ x ∷ drop (i + 1) xs
drop-next xs i x inside read = drop-at xs i x inside ∙ ap (λ y. y ∷ drop (i + 1) xs) (sym read)

-- some word, to read words by
abbrev pub some_word : PostedWord
some_word = record { line = record { file = 0; line = 0 }; begins = false; ins = Plain (record { op = Add; rd = Zero; rs1 = Zero; rs2 = Zero; imm = pos 0 }) }

-- what was added, by what is left
pub added-one : {A B : Type 0} → (f : A → B) (old new whole : List B) (x : A) (rest left : List A) → new ≡ old ++ f x ∷ [] → left ≡ x ∷ rest → old ++ map f left ≡ whole → new ++ map f rest ≡ whole
added-one f old new whole x rest left made next before =
    ap (λ bs. bs ++ map f rest) made ∙ append_assoc old (f x ∷ []) (map f rest) ∙ ap (λ xs. old ++ map f xs) (sym next) ∙ before

pub added-many : {A B : Type 0} → (f : A → B) (old new whole : List B) (xs rest left : List A) → new ≡ old ++ map f xs → left ≡ xs ++ rest → old ++ map f left ≡ whole → new ++ map f rest ≡ whole
added-many f old new whole xs rest left made next before =
    ap (λ bs. bs ++ map f rest) made ∙ append_assoc old (map f xs) (map f rest) ∙ ap (λ bs. old ++ bs) (sym (map-append f xs rest)) ∙ ap (λ ys. old ++ map f ys) (sym next) ∙ before

pub fit-parts : (is js : List Ins) → AllFit (is ++ js) → AllFit is × AllFit js
fit-parts [] js all = (tt, all)
fit-parts (i ∷ is) js all = let rest = fit-parts is js all.1 in ((all.0, rest.0), rest.1)
