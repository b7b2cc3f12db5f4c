use Rattle.std.proofs.Common.{◌≡◌, inr, ◌<◌, Bool, true, refl, sym, ap, ◌∙◌, subst, arith}
use Rattle.std.specs.Int.{from_bool}
use Rattle.st_base.specs.declared.limits.Limits.{Limits}
use Rattle.st_words.specs.declared.view.Slot.TheVariants.{Cell}
use Rattle.st_words.specs.declared.view.View.{View}
use Rattle.st_words.specs.Laws.{named, progress_of}
use Rattle.st_words.specs.Plain.{Exact, view_at, first_view}
use Rattle.st_words.specs.Steps.{RootTake, SlotTake, Number, Can}
use Rattle.st_words.specs.Views.{view_after}
use Rattle.st_words.proofs.Naming.{plain_asks}
use Rattle.st_words.proofs.Opening.{first_view_at, first_views_count}
use Rattle.st_words.proofs.tests.takes_root.Goals as goal

after_root : (limits : Limits) → 0 < limits.cells → Can (named (progress_of (first_view limits 2 0)) (first_view limits 2 0) RootTake (Number 1)) (SlotTake (Cell 0))
unfolding view_after
after_root limits l = (l, inr (inr (refl, refl)), omega arith)

may_take : (limits : Limits) (v u : View) (b : Bool) → 0 < limits.cells → v ≡ first_view limits 2 0 → b ≡ true → u ≡ named (progress_of v) v RootTake (Number (from_bool b)) → Can u (SlotTake (Cell 0))
may_take limits v u b l first found after =
    let e : u ≡ named (progress_of (first_view limits 2 0)) (first_view limits 2 0) RootTake (Number 1) = after ∙ ap (λ (x : Bool). named (progress_of v) v RootTake (Number (from_bool x))) found ∙ ap (λ (x : View). named (progress_of x) x RootTake (Number 1)) first in
    subst (λ (x : View). Can x (SlotTake (Cell 0))) (sym e) (after_root limits l)

pub root_take-requires : goal.root_take-requires
root_take-requires c = record { may = record { serves = omega (arith, first_views_count c.args.limits.now 2 c.args.board.now.kept.views c.requires.views); may = plain_asks (Exact c.args.board.now.words c.args.board.now.kept.cargoes 0) (view_at c.args.board.now.kept.views 0) RootTake tt } }

pub slot_take-found-requires : goal.slot_take-found-requires
slot_take-found-requires c = record { may = record { serves = c.root_take.ensures.made.serves; may = plain_asks (Exact c.root_take.new.self.words c.root_take.new.self.kept.cargoes 0) (view_at c.root_take.new.self.kept.views 0) (SlotTake (Cell 0)) (may_take c.args.limits.now (view_at c.args.board.now.kept.views 0) (view_at c.root_take.new.self.kept.views 0) c.root_take.result c.requires.cells (ap (λ vs. view_at vs 0) c.requires.views ∙ first_view_at c.args.limits.now 2 0 (omega arith)) c.if-root_take.true c.root_take.ensures.made.view) } }
