-- The phases of a round: their laws.
use Rattle.std.proofs.Common.{◌≡◌, ℕ, ◌<◌, List, sym, subst}
use Rattle.st_base.specs.declared.image.Image.{Image}
use Rattle.st_base.specs.declared.limits.Limits.{Limits}
use Rattle.st_words.specs.declared.view.View.{View}
use Rattle.st_words.specs.Steps.{RequestLoad}
use Rattle.st_words.proofs.Safe.{request_load}
use Rattle.st_model.specs.declared.program.Program.{Program}
use Rattle.st_model.specs.Memory.{Data}
use Rattle.st_run.specs.Meanings.{meaning}
use Rattle.st_phases.specs.declared.automaton.Automaton.{Automaton}
use Rattle.st_phases.specs.declared.phase.Behind.TheVariants as behinds
use Rattle.st_phases.specs.declared.phase.Phase.{Phase}
use Rattle.st_phases.specs.declared.phase.Phase.TheVariants as phases
use Rattle.st_phases.specs.declared.turn.Turn.{Turn}
use Rattle.st_fits.specs.Before.{before}
use Rattle.st_fits.specs.Fits.{FitsIn}
use Rattle.st_fits.specs.Laws.{Does, IsReady, MayAsk, MayLaw, PhaseLaw}
use Rattle.st_settled.proofs.Late.{fits_here}
use Rattle.st_rounds.specs.Rounds.{RoundLaws, RoundsKeep}
use Rattle.st_rounds.proofs.Hearing.{ask_stop, ask_active, ask_request, ask_mail}
use Rattle.st_rounds.proofs.Round.{by_in, stop_fits, active_fits, request_fits}
use Rattle.st_rounds.proofs.Mailing.{mail_fits, may_seventh, seventh_fits, may_place, placing_fits, no_notes, may_empty, seventh_emptied, round_emptied}
use Rattle.st_rounds.proofs.Shrinking.{may_shrink, settled_fits}

module _ (p : Program) (d : Data) (limits : Limits) (image : Image) (input : List ℕ) where
  -- a phase that leads to a view which the worker fits as it is
  abbrev pub Stays : Phase → Type 0
  Stays phase = (x : Automaton) (u : View) (ready : IsReady p d limits image input x u) (y : Automaton) (old v : View) (turn : Turn) → x.phase ≡ phase → Does p d limits image input u old x turn y v phase → FitsIn p d limits image input y v

  pub law_of : (phase : Phase) → MayLaw p d limits image input phase → Stays phase → PhaseLaw p d limits image input phase
  law_of phase may stays = record {
    may = may;
    keeps = λ x y old v turn e ready made does. fits_here p d limits image input y v (stays x (before p d x old) ready y old v turn e does);
  }

  ask_own : (x : Automaton) (u : View) → IsReady p d limits image input x u → MayAsk p d limits u (RequestLoad x.number)
  ask_own x u ready = ask_request p d limits u x.number (request_load (meaning p d limits) u x.number (subst (λ n. n < u.workers) (sym ready.fits.holds.number) ready.fits.holds.below))

  pub round_laws : RoundLaws p d limits image input
  round_laws = record {
    settled = law_of phases.Settled (λ x u e ready. (may_shrink p d limits image input x u ready e, ask_stop p d limits u)) (λ x u ready y old v turn e does. settled_fits p d limits image input x u ready e y old v turn does);
    stop = law_of phases.Stop (λ x u e ready. ask_stop p d limits u) (λ x u ready y old v turn e does. stop_fits p d limits image input x u ready y old v turn e does);
    active = law_of phases.Active (λ x u e ready. ask_active p d limits u) (λ x u ready y old v turn e does. active_fits p d limits image input x u ready y old v turn e does);
    request = law_of phases.Request (λ x u e ready. ask_own x u ready) (λ x u ready y old v turn e does. request_fits p d limits image input x u ready y old v turn e does);
    mail = law_of phases.Mail (λ x u e ready. ask_mail p d limits u) (λ x u ready y old v turn e does. mail_fits p d limits image input x u ready y old v turn e does);
    seventh = law_of phases.Seventh (λ x u e ready. may_seventh p d limits image input x u ready e) (λ x u ready y old v turn e does. seventh_fits p d limits image input x u ready y old v turn e does);
    placing = law_of phases.Placing (λ x u e ready. may_place p d limits image input x u ready e) (λ x u ready y old v turn e does. placing_fits p d limits image input x u ready y old v turn e does);
    refused = law_of (phases.Emptying behinds.Seventh)
        (λ x u e ready. let by = by_in p d limits image input x u ready (phases.Emptying behinds.Seventh) e in (no_notes p d limits image input x u ready (by.1.0.0.is), may_empty p d limits image input x u ready by.0 (by.1.0.1.given)))
        (λ x u ready y old v turn e does. seventh_emptied p d limits image input x u ready y old v turn e does);
    withdrawn = law_of (phases.Emptying behinds.Round)
        (λ x u e ready. let by = by_in p d limits image input x u ready (phases.Emptying behinds.Round) e in (no_notes p d limits image input x u ready (by.1.0.is), may_empty p d limits image input x u ready by.0 (by.1.1.given)))
        (λ x u ready y old v turn e does. round_emptied p d limits image input x u ready y old v turn e does);
  }

pub rounds_keep : RoundsKeep
rounds_keep p d limits image input = round_laws p d limits image input
