-- What is so before a phase's own step: the stop word was read in its place (late_keeps), and a turn is counted (turns_tick). fits_here: a worker that fits a view fits it as its board's view.
use Rattle.std.proofs.Common.{Bool, List, Option, Some, [], false, if◌then◌else◌, refl, subst, suc, sym, true, zero, ℕ, ◌+◌, ◌==◌, ◌∙◌, ◌∷◌, ◌≡◌}
use Rattle.st_base.specs.declared.image.Image.{Image}
use Rattle.st_base.specs.declared.limits.Limits.{Limits}
use Rattle.st_words.specs.Steps.{Number, StopLoad}
use Rattle.st_words.specs.Views.{view_after}
use Rattle.st_words.specs.declared.view.Loaded.TheVariants as loads
use Rattle.st_words.specs.declared.view.Loaded.TheVariants as loads
use Rattle.st_words.specs.declared.view.View.{View}
use Rattle.st_model.specs.Memory.{Data}
use Rattle.st_model.specs.declared.program.Program.{Program}
use Rattle.st_phases.specs.Turning.{ticked}
use Rattle.st_phases.specs.declared.automaton.Automaton.{Automaton}
use Rattle.st_fits.specs.Before.{after, before}
use Rattle.st_fits.specs.Fits.{Fits, FitsIn}
use Rattle.st_settled.proofs.Settled.{settled}
use Rattle.st_settled.proofs.Unread.{unread_fits}
use Rattle.st_settled.specs.Settling.{LateKeeps, TurnsTick, Unread, with_since, with_unread}

pub fits_here : (p : Program) (d : Data) (limits : Limits) (image : Image) (input : List ℕ) (x : Automaton) (v : View) → FitsIn p d limits image input x v → Fits p d limits image input x v
fits_here p d limits image input x v fits =
    let same = settled p d limits image input x v fits in
    record { made = ([], sym same); fits = subst (λ (u : View). FitsIn p d limits image input x u) (sym same) fits }

-- ---- the stop word

-- the view behind it
abbrev stop_by : ℕ → View → Option ℕ
stop_by zero u = u.stop
stop_by (suc n) u = Some (suc n)

abbrev behind_stop : ℕ → View → Unread
behind_stop found u = record { values = u.values; inactive = u.inactive; stop = stop_by found u; loaded = (loads.Stop, found) ∷ u.loaded }

stop_read : (p : Program) (d : Data) (u : View) (found : ℕ) → after p d u StopLoad (Number found) ≡ with_unread (behind_stop found u) u
unfolding after view_after
stop_read p d u zero = refl
stop_read p d u (suc n) = refl

same_phase : (b : Bool) (x : Automaton) → record x { since = 0; phase = if b then x.phase else x.phase } ≡ with_since 0 x.begun x
same_phase true x = refl
same_phase false x = refl

pub late_keeps : LateKeeps
late_keeps p d limits image input x y old v found fits told same =
    let u = before p d x old in
    let kept = unread_fits p d limits image input 0 x.begun (behind_stop found u) x u fits.fits in
    let of_view : v ≡ with_unread (behind_stop found u) u = told.is ∙ stop_read p d u found in
    let of_worker : y ≡ with_since 0 x.begun x = same ∙ same_phase (found == 0) x in
    fits_here p d limits image input y v (subst (λ (w : View). FitsIn p d limits image input y w) (sym of_view) (subst (λ (z : Automaton). FitsIn p d limits image input z (with_unread (behind_stop found u) u)) (sym of_worker) kept))

-- ---- turns

same_before : (p : Program) (d : Data) (x : Automaton) (v : View) → before p d (ticked x) v ≡ before p d x v
unfolding before
same_before p d x v = refl

abbrev as_it_is : View → Unread
as_it_is u = record { values = u.values; inactive = u.inactive; stop = u.stop; loaded = u.loaded }

pub turns_tick : TurnsTick
turns_tick p d limits image input x = record { before = same_before p d x; fits = λ u fits. unread_fits p d limits image input (x.since + 1) x.begun (as_it_is u) x u fits }
