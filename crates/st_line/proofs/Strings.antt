-- A byte more in front of what is left of a string (with_front_more).
use Rattle.std.proofs.Common.{ℕ, ◌≡◌, List, [], ◌∷◌, ◌++◌, Option, Some, None, refl, ap, append_assoc}
use Rattle.st_line.specs.Operands.{with_byte}
use Rattle.st_line.specs.Views.{with_front}

pub with_front_more : (front : List ℕ) (b : ℕ) (left : Option (List ℕ)) → with_front (front ++ b ∷ []) left ≡ with_front front (with_byte (Some b) left)
with_front_more front b None = refl
with_front_more front b (Some bs) = ap Some (append_assoc front (b ∷ []) bs)
