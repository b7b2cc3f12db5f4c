use Rattle.std.proofs.Common.{◌∙◌, ◌<◌, ℕ, subst}
use Rattle.std.specs.Prelude.{IfSome, IfNone}
use Rattle.st_flow.specs.Tables.{IsBad}
use Rattle.st_flow.proofs.Answering.{formed_some, formed_stays, least, never}
use Rattle.st_flow.proofs.Joining.{turned_undefined, turned_once}
use Rattle.st_flow.proofs.first_undefined.Goals as goal

pub map_of-requires-clause-some : goal.map_of-requires-clause-some
map_of-requires-clause-some c = formed_some c.args.program.now c.args.function.now c.requires

pub map_of-requires-clause-stays : goal.map_of-requires-clause-stays
map_of-requires-clause-stays c = formed_stays c.args.program.now c.args.function.now c.requires

pub returns-in_default-clause-none : goal.returns-in_default-clause-none
returns-in_default-clause-none c =
    never c.args.program.now c.args.function.now
    (subst (λ o. IfNone o ((i x : ℕ) → IsBad c.args.program.now c.args.function.now i x → ⊥)) c.in_default.is c.in_ok-hit.ensures.none)

pub returns-clause-undefined : goal.returns-clause-undefined
returns-clause-undefined c =
    turned_undefined c.args.function.now c.in-Some.hit.place c.in-Some.hit.item c.in_ok-path.path.items _ c.in_ok-path.ensures (c.from_vec.ensures ∙ c.reverse.ensures.items)

pub returns-clause-shape : goal.returns-clause-shape
returns-clause-shape c =
    turned_once c.args.function.now c.in-Some.hit.place c.in-Some.hit.item c.in_ok-path.path.items _ c.in_ok-path.ensures (c.from_vec.ensures ∙ c.reverse.ensures.items)

pub returns-clause-first : goal.returns-clause-first
returns-clause-first c =
    least c.args.program.now c.args.function.now c.in-Some.hit.item
    (subst (λ o. IfSome o (λ hit. (i x : ℕ) → i < hit.item → IsBad c.args.program.now c.args.function.now i x → ⊥)) c.in-Some.is c.in_ok-hit.ensures.first)
