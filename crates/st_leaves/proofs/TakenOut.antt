-- The view to which a worker brings its board's view forward once its top thread is taken out: left_forward. Over it the thread is a chain of the turn, and these frames are exported.
use Rattle.std.proofs.Common.{◌≡◌, ◌≢◌, ◌⊎◌, inl, inr, ⊎_elim, List, [], refl, sym, ap, ◌∙◌, subst}
use Rattle.std.specs.List.{Contains}
use Rattle.st_base.specs.declared.chain.Chain.{Chain}
use Rattle.st_base.specs.declared.chain.Frame.{Frame}
use Rattle.st_model.specs.declared.program.Program.{Program}
use Rattle.st_model.specs.Memory.{Data}
use Rattle.st_words.specs.Moves.{MaySuspend, suspending}
use Rattle.st_words.specs.declared.view.Carried.{Carried}
use Rattle.st_words.specs.declared.view.Known.{Known}
use Rattle.st_words.specs.declared.view.View.{View}
use Rattle.st_made.proofs.Making.{made_follows}
use Rattle.st_made.specs.Items.{WaitsAt}
use Rattle.st_made.specs.Moves.{Made}
use Rattle.st_ahead.proofs.Named.{all_named}
use Rattle.st_ahead.specs.Naming.{exported, left}
use Rattle.st_stack.specs.Exported.{Apart}
use Rattle.st_phases.specs.declared.automaton.Automaton.{Automaton}
use Rattle.st_phases.specs.declared.phase.Leaving.{Leaving}
use Rattle.st_phases.specs.declared.phase.Phase.{Phase}
use Rattle.st_phases.specs.declared.phase.Phase.TheVariants as phases
use Rattle.st_fits.specs.Before.{before, left_where_none}
use Rattle.st_leaves.proofs.Forward.{IsForward, core}
use Rattle.st_leaves.proofs.Taken.{all_may}
use Rattle.st_leaves.proofs.Unexported.{CanExport, can_still, waits_so, with_exports}

module _ (p : Program) (d : Data) (leaving : Leaving) where
  -- the thread goes out last, but for the exported frames
  abbrev out : View → View
  out v = left_where_none leaving.wait v.chains v

  marking_is : (y : Automaton) (v : View) (chain : Chain) → before p d (record y { phase = phases.Marking chain leaving }) v ≡ exported y.stack.exported (out (core p d leaving y.items v))
  unfolding before
  marking_is y v chain = refl

  pub before_out : (y : Automaton) (v : View) (chain : Chain) → y.phase ≡ phases.Marking chain leaving → before p d y v ≡ exported y.stack.exported (out (core p d leaving y.items v))
  before_out y v chain is = subst (λ (φ : Phase). before p d (record y { phase = φ }) v ≡ exported y.stack.exported (out (core p d leaving y.items v))) (sym is) (marking_is y v chain)

  -- these frames may be exported beside those that the board's view v has; u has more of them
  pub record MayFollow (v u : View) (frames : List Frame) : Type 0 where
    pub were : (f : Frame) → Contains v.exported f → Contains u.exported f
    pub each : (f : Frame) → Contains frames f → Contains v.exported f ⊎ CanExport u f
    pub apart : (f g : Frame) → Contains frames f → Contains v.exported g ⊎ Contains frames g → f ≢ g → Apart f g

  module _ (y : Automaton) (v u : View) (chain : Chain) (top : Known) (rest : List Known) (phase : y.phase ≡ phases.Marking chain leaving) (is : core p d leaving y.items v ≡ with_exports v.exported u) (made : Made p d v (with_exports v.exported u)) (none : u.chains ≡ []) (may : MaySuspend u top rest leaving.wait) (waits : WaitsAt p d u top leaving.wait)
      (follow : MayFollow v u y.stack.exported) where
    -- the thread is a chain of u, which has what the board's view has exported
    abbrev base : View
    base = with_exports v.exported u

    abbrev gone : View
    gone = suspending top rest leaving.wait base

    abbrev pub taken_out : View
    taken_out = exported y.stack.exported gone

    leaves_base : (left leaving.wait base ≡ gone) × Made p d base (left leaving.wait base)
    leaves_base = (all_named p d).left_made base top rest leaving.wait (record { is = may.is; none_drawn = may.none_drawn; no_child = may.no_child; covers = may.covers }) (waits_so p d v.exported u top leaving.wait waits)

    pub before_taken : before p d y v ≡ taken_out
    before_taken =
        before_out y v chain phase
        ∙ ap (λ (z : View). exported y.stack.exported (out z)) is
        ∙ ap (λ (xs : List Carried). exported y.stack.exported (left_where_none leaving.wait xs base)) none
        ∙ ap (exported y.stack.exported) leaves_base.0

    still : (f : Frame) → CanExport u f → CanExport gone f
    still f can = can_still u gone f (record { number = refl; each = refl; held = refl; away = refl }) can

    pub left_forward : IsForward p d leaving v (suspending top rest leaving.wait u) y.stack.exported taken_out
    left_forward = record {
      same = (all_named p d).same gone y.stack.exported;
      only = λ f there. ⊎_elim (λ was. inl (follow.were f was)) (λ come. inr come) ((all_named p d).only gone y.stack.exported f there);
      has = λ f there. (all_named p d).exports gone y.stack.exported f (inr there);
      made =
          made_follows p d v base taken_out made
          (made_follows p d base gone taken_out (subst (λ (z : View). Made p d base z) leaves_base.0 leaves_base.1)
          ((all_named p d).exported_made gone y.stack.exported (all_may y.stack.exported gone (λ f there. ⊎_elim (λ was. inl was) (λ can. inr (still f can)) (follow.each f there)) follow.apart)));
    }
