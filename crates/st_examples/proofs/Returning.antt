-- The function that returns at once is formed: returning_formed.
use Rattle.std.proofs.Common.{◌≡◌, ℕ, zero, suc, ◌+◌, ◌≤◌, List, [], ◌∷◌, Some, refl, sym, ap, ◌∙◌, subst, arith}
use Rattle.std.specs.Prelude.{slice_get, count_ones}
use Rattle.std.proofs.lemmas.Nat.{ones_le_self}
use Rattle.st_model.specs.declared.program.Program.{Program}
use Rattle.st_model.specs.declared.program.ProgramFunction.{ProgramFunction}
use Rattle.st_model.specs.declared.program.Item.{Item}
use Rattle.st_model.specs.declared.program.ItemKind.TheVariants.{Prologue, Epilogue}
use Rattle.st_model.specs.Flow.{IsNext}
use Rattle.st_model.specs.Accepted.{IsFormed, Fits, IsPrologue}

abbrev returning : ℕ → Item → Item → ProgramFunction
returning ints a b = record { ints = ints; handles = 0; frame_bytes = 16; saved = 0; slots = 0; items = a ∷ b ∷ [] }

two_cases : {P : Type 0} (a b x : Item) (i : ℕ) → slice_get (a ∷ b ∷ []) i ≡ Some x → (i ≡ 0 → x ≡ a → P) → (i ≡ 1 → x ≡ b → P) → P
two_cases a b x zero e first second = first refl (cc)
two_cases a b x (suc zero) e first second = second refl (cc)
two_cases a b x (suc (suc i)) e first second = absurd (cc)

formed : (p : Program) (ints : ℕ) (a b : Item) → ints ≤ 6 → a.kind ≡ Prologue → b.kind ≡ Epilogue → IsFormed p (returning ints a b)
formed p ints a b few first last =
    record {
      ints = few;
      handles = omega arith;
      frame = record { multiple = refl; least = omega arith; most = omega arith; saved = omega arith; room = let none : count_ones 0 ≤ 0 = ones_le_self 0 in omega (arith, none) };
      begins = (a, refl, subst IsPrologue (sym first) tt);
      once = λ i x e is.
          two_cases a b x i e (λ at same. at)
          (λ at same. let k : x.kind ≡ Epilogue = ap (λ y. y.kind) same ∙ last in absurd (subst IsPrologue k is));
      fits = λ i x e.
          two_cases a b x i e
          (λ at same. subst (Fits p (returning ints a b)) (sym (ap (λ y. y.kind) same ∙ first)) tt)
          (λ at same. subst (Fits p (returning ints a b)) (sym (ap (λ y. y.kind) same ∙ last)) tt);
      stays = λ i j x e next.
          two_cases a b x i e
          (λ at same. let n : j ≡ i + 1 = subst (λ k. IsNext k i j) (ap (λ y. y.kind) same ∙ first) next in (omega arith, omega arith))
          (λ at same. absurd (subst (λ k. IsNext k i j) (ap (λ y. y.kind) same ∙ last) next));
    }

pub returning_formed : (p : Program) (ints : ℕ) (a b : Item) (items : List Item) → ints ≤ 6 → items ≡ a ∷ b ∷ [] → a.kind ≡ Prologue → b.kind ≡ Epilogue → IsFormed p (record { ints = ints; handles = 0; frame_bytes = 16; saved = 0; slots = 0; items = items })
returning_formed p ints a b items few e first last =
    subst (λ l. IsFormed p (record { ints = ints; handles = 0; frame_bytes = 16; saved = 0; slots = 0; items = l })) (sym e) (formed p ints a b few first last)
