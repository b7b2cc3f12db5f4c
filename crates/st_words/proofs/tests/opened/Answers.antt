use Rattle.std.proofs.Common.{◌≡◌, ◌*◌, ◌/◌, ap, ◌∙◌, length, IfOk, Result, Ok, Err}
use Rattle.st_base.specs.declared.limits.Limits.{Limits}
use Rattle.st_words.specs.declared.words.Words.{Words}
use Rattle.st_words.specs.Plain.{first_words}
use Rattle.st_words.specs.Sizes.{SizedWords}
use Rattle.st_words.proofs.Opening.{first_sizes}
use Rattle.st_words.proofs.tests.opened.Goals as goal

sized : {E : Type 0} (limits : Limits) (r : Result Words E) → limits.cells ≡ 16 → limits.stack ≡ 1024 → IfOk r (λ x. x ≡ first_words limits 2) → IfOk r (λ x. SizedWords x 2 × (length x.owners ≡ 16) × (length x.stack ≡ 256))
sized limits (Ok x) cells stack e = let s = first_sizes limits 2 x e in (s.0, s.1 ∙ cells, s.2 ∙ ap (λ n. 2 * (n / 8)) stack)
sized limits (Err x) cells stack e = tt

pub returns : goal.returns
returns c = sized c.small.result c.open.result c.small.ensures.cells c.small.ensures.stack c.open.ensures
