-- The path of the running thread has a number for each note but the last.
use Rattle.std.proofs.Common.{◌≡◌, ◌+◌, ◌-◌, ◌<◌, ℕ, suc, List, [], ◌∷◌, ◌++◌, length, take, reverse, get_or, ap, sym, ◌∙◌, arith}
use Rattle.std.proofs.lemmas.List.{reverse-append, take_all}
use Rattle.std.proofs.Math.Seq.{take-suc}
use Rattle.st_plain.specs.declared.cells.Note.{Note}
use Rattle.st_plain.specs.Threads.{path_above, path_by}
use Rattle.st_plain.proofs.threads.Threads.into_path.Goals as goal

path_of_all : (notes : List Note) (n : ℕ) → (0 < length notes → n + 1 ≡ length notes) → path_above (reverse (take n notes)) ≡ path_by (reverse notes)
path_of_all [] n all = ap (λ (ns : List Note). path_above (reverse ns)) (take_all n [] (omega arith))
path_of_all (x ∷ xs) n all =
    let count : n + 1 ≡ length (x ∷ xs) = all (omega arith) in
    let last = get_or (x ∷ xs) n x in
    let split : take n (x ∷ xs) ++ last ∷ [] ≡ x ∷ xs = sym (take-suc (x ∷ xs) n x (omega (arith, count))) ∙ take_all (suc n) (x ∷ xs) (omega (arith, count)) in
    ap path_by (sym (reverse-append (take n (x ∷ xs)) (last ∷ [])) ∙ ap reverse split)

pub returns-clause-path : goal.returns-clause-path
returns-clause-path c =
    c.from_vec.ensures
    ∙ (c.loop-i.invariant.path ∙ path_of_all c.args.self.notes.items.items (c.loop-i.i - 1) (λ some. omega (arith, some)))
