-- What follows for a number that is drawn, and for one that is named: told_laws.
use Rattle.std.proofs.Common.{◌≡◌, ℕ, sym, ap, ◌∙◌, arith}
use Rattle.std.specs.List.{Contains}
use Rattle.st_world.specs.World.{World}
use Rattle.st_draws.specs.Drawing.{Draws}
use Rattle.st_draws.specs.Laws.{ToldLaws}
use Rattle.st_draws.proofs.Drawings as drawings
use Rattle.st_draws.proofs.Steps.{one_more_is}

fresh_now : (x : World) (n : ℕ) → Draws x → n ≡ x.drawn → (x.owner n ≡ 0) × (x.state n ≡ 0) × ((v : ℕ) → Contains (x.view v).drawn n → ⊥)
fresh_now x n D f =
    let none : x.owner n ≡ 0 = ap x.owner f ∙ drawings.fresh x.workers x.cells x.drawn x.owner x.state x.view D in
    (none, D.unnamed n none, λ v m. let l = (D.views v).below n m in omega (arith, l, f))

pub told_laws : ToldLaws
told_laws = record {
  fresh = λ x w n D f. fresh_now x n D f;
  one_drawer = λ x v w c D m n. sym ((D.views v).drew c m) ∙ (D.views w).drew c n;
  unnamed = λ x w c D m. let none = (D.views w).unnamed c m in (none, D.unnamed c none);
  within = λ x D. drawings.most x.workers x.cells x.drawn x.owner x.state x.view D;
  rises = one_more_is;
}
