use Rattle.std.proofs.Common.{◌≡◌, ◌<◌, ℕ, length, subst, sym}
use Rattle.std.specs.Prelude.{◌↔◌}
use Rattle.std.proofs.lemmas.Result.{IfOk-weaker}
use Rattle.st_flow.specs.Graph.{HasBit}
use Rattle.st_flow.proofs.TableRows.{reach_exact}
use Rattle.st_flow.proofs.tables.reached.Goals as goal

pub returns-clause-bits : goal.returns-clause-bits
returns-clause-bits c =
    IfOk-weaker c.spread.result _ _
    (λ sets v i.
    reach_exact c.args.nodes.now _ _ _ i
    (subst (λ l. (i : ℕ) → HasBit l i 0 ↔ (i ≡ 0)) (sym c.deref.ensures.value) c.in_ok-seeds.ensures.bits)
    (subst (λ l. (i : ℕ) → i < length c.args.nodes.now → HasBit l i 0) (sym c.deref-2.ensures.value) c.in_ok-keeps.ensures.bits) v)
    c.spread.ensures
