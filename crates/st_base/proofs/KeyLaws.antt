-- Where the keys of a thread stand, and those of its child and of the child's descendants.
use Rattle.std.proofs.Common.{◌+◌, ◌*◌, [], ◌∷◌, refl, ◌∙◌, arith}
use Rattle.st_base.specs.EventKey.{ChildComesAfter, ChildComesBefore}
use Rattle.st_base.proofs.KeyOrder.{cmp_less, cmp_equal, then_less, then_equal}

pub key_after : ChildComesAfter
key_after [] [] k j n h = then_less _ _ (cmp_less (2 * n) (2 * k + 1) (omega arith))
key_after [] (y ∷ q) k j n h = then_less _ _ (cmp_less (2 * n) (2 * k + 1) (omega arith))
key_after (x ∷ p) q k j n h = then_equal _ _ (cmp_equal (2 * x + 1) (2 * x + 1) refl) ∙ key_after p q k j n h

pub key_before : ChildComesBefore
key_before [] [] k j n h = then_less _ _ (cmp_less (2 * k + 1) (2 * n) (omega arith))
key_before [] (y ∷ q) k j n h = then_less _ _ (cmp_less (2 * k + 1) (2 * n) (omega arith))
key_before (x ∷ p) q k j n h = then_equal _ _ (cmp_equal (2 * x + 1) (2 * x + 1) refl) ∙ key_before p q k j n h

pub ruleset key_laws = (key_after, key_before)
