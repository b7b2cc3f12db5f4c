-- Ways whose instructions all spare some places: spared (by what is so of each situation on the way inside of items) and spared_once (the instruction leads out of
-- items). An instruction leads to one situation alone (same_makes).
use Rattle.std.proofs.Common.{◌≡◌, ℕ, zero, suc, Bool, Some, ap, ◌∙◌, subst}
use Rattle.st_rv.specs.declared.ins.Ins.{Ins}
use Rattle.st_model.specs.declared.code.Layout.{Layout}
use Rattle.st_model.specs.declared.program.Program.{Program}
use Rattle.st_model.specs.Memory.{Data}
use Rattle.st_step.specs.Moves.{move_of}
use Rattle.st_step.specs.Runs.{Situation, moved}
use Rattle.st_items.specs.Code.{code_at}
use Rattle.st_items.specs.Ways.{IsInside, Makes, OnWay, LeadsBy}
use Rattle.st_sparing.specs.Sparing.{Spares, AllSpare}
use Rattle.st_sparing.proofs.Stores.{IsQuiet}

module _ (layout : Layout) (p : Program) (d : Data) (held : ℕ → Bool) where
  -- by the instruction that stands there
  pub makes_by : (s u : Situation) (i : Ins) → code_at layout p s.state.pc ≡ Some i → Makes layout p d held s u → moved held s (move_of d s.state i) ≡ Some u
  makes_by s u i there makes =
      let other = makes.there in
      let same : i ≡ makes.ins = cc in
      ap (λ (x : Ins). moved held s (move_of d s.state x)) same ∙ makes.goes

  pub same_makes : (s u v : Situation) → Makes layout p d held s u → Makes layout p d held s v → u ≡ v
  same_makes s u v one other =
      let first = one.goes in
      let second = makes_by s v one.ins one.there other in
      cc

module _ (layout : Layout) (p : Program) (d : Data) (held kept : ℕ → Bool) where
  pub quiet_spares : (s : Situation) → ((i : Ins) → code_at layout p s.state.pc ≡ Some i → IsQuiet i) → Spares layout p d kept s
  quiet_spares s quiet ins q n m there is none = absurd (quiet ins there d s.state q n m is)

  module _ (Is : Situation → Type 0) (spares : (s : Situation) → Is s → Spares layout p d kept s) (next : (s u : Situation) → Is s → Makes layout p d held s u → IsInside layout p u.state → Is u) where
    on_way : (n : ℕ) (s w : Situation) → (IsInside layout p s.state → Is s) → OnWay layout p d held n s w → AllSpare layout p d held kept n s
    on_way zero s w is way = tt
    on_way (suc n) s w is (inside, (u, makes, way)) =
        (spares s (is inside), λ v again. subst (AllSpare layout p d held kept n) (same_makes layout p d held s u v makes again) (on_way n u w (next s u (is inside) makes) way))

    -- from a situation whose next one is so where it is inside of an item
    pub spared : (n : ℕ) (s w : Situation) → Spares layout p d kept s → ((u : Situation) → Makes layout p d held s u → IsInside layout p u.state → Is u) → LeadsBy layout p d held n s w → AllSpare layout p d held kept (suc n) s
    spared n s w first second (u, makes, way) =
        (first, λ v again. subst (AllSpare layout p d held kept n) (same_makes layout p d held s u v makes again) (on_way n u w (second u makes) way))

  pub spared_once : (n : ℕ) (s w : Situation) → Spares layout p d kept s → ((u : Situation) → Makes layout p d held s u → IsInside layout p u.state → ⊥) → LeadsBy layout p d held n s w → AllSpare layout p d held kept (suc n) s
  spared_once n s w first out way = spared (λ u. ⊥) (λ u never. absurd never) (λ u v never makes inside. never) n s w first out way
