-- At an entry a turn is what the runtime does there.
use Rattle.std.proofs.Common.{ℕ, Option, IfSome, None, Some, sym, subst}
use Rattle.std.proofs.Math.Logic.{∥∥₁_map}
use Rattle.st_plain.specs.Running.{EndsBy, GoesOn, HasBoard}
use Rattle.st_plain.proofs.OneTurn.{entry_turns, first_defined, is_served_there}
use Rattle.st_plain.proofs.run.PlainRun.serve.Goals as goal

pub enter-requires : goal.enter-requires
enter-requires c = ∥∥₁_map c.requires.amid (λ x.
    let at = is_served_there x.0 c.args.image.now x.1 x.2 x.3 c.args.self.now x.4 x.5 c.requires.entry x.6 in
    (x.0, x.1, x.2, at.names, x.4, x.6.tables, at.entry, first_defined x.0 x.1 x.4 x.6.defined))

pub returns-clause-board : goal.returns-clause-board
returns-clause-board c = subst HasBoard (sym c.enter.ensures.board) c.requires.board

pub returns-clause-going : goal.returns-clause-going
returns-clause-going c none p d limits drawn s left under =
    let at = is_served_there p c.args.image.now d limits drawn c.args.self.now s left c.requires.entry under in
    let served = c.enter.ensures in
    entry_turns p c.args.image.now d limits drawn c.args.self.now c.enter.new.self s left under at.many served.board served.code served.most
    (subst (λ (n : ℕ). GoesOn p d limits n c.enter.new.self s) at.drawn_yet (served.going none p d limits at.names s under.tables at.entry (first_defined p d s under.defined)))

if_some : {A : Type 0} {P Q : A → Type 0} (o : Option A) → ((x : A) → P x → Q x) → IfSome o P → IfSome o Q
if_some None go is = is
if_some (Some x) go is = go x is

pub returns-clause-over : goal.returns-clause-over
returns-clause-over c =
    let new = c.enter.new.self in
    if_some c.enter.result
    (λ ending over p d limits drawn s left under.
    let at = is_served_there p c.args.image.now d limits drawn c.args.self.now s left c.requires.entry under in
    subst (λ (n : ℕ). EndsBy p d limits n new.threads.notes.items.items new.threads.out.items.items s ending) at.drawn_yet (over p d limits at.names s under.tables at.entry (first_defined p d s under.defined)))
    c.enter.ensures.over
