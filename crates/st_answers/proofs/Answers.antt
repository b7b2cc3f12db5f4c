-- The laws of the phases that read and answer requests: answers_keep.
use Rattle.std.proofs.Common.{◌≡◌, ℕ, List, Option}
use Rattle.st_base.specs.declared.image.Image.{Image}
use Rattle.st_base.specs.declared.limits.Limits.{Limits}
use Rattle.st_words.specs.declared.view.View.{View}
use Rattle.st_model.specs.declared.program.Program.{Program}
use Rattle.st_model.specs.Memory.{Data}
use Rattle.st_phases.specs.declared.automaton.Automaton.{Automaton}
use Rattle.st_phases.specs.declared.phase.Phase.{Phase}
use Rattle.st_phases.specs.declared.phase.Phase.TheVariants as phases
use Rattle.st_phases.specs.declared.turn.Turn.{Turn}
use Rattle.st_fits.specs.Before.{before}
use Rattle.st_fits.specs.Fits.{FitsIn}
use Rattle.st_fits.specs.Laws.{Does, IsReady, MayLaw, PhaseLaw}
use Rattle.st_settled.proofs.Late.{fits_here}
use Rattle.st_answers.specs.Answers.{AnswersKeep}
use Rattle.st_answers.proofs.Asked.{may_answer, answering_fits, may_clear, clearing_fits}
use Rattle.st_answers.proofs.Giving.{may_give}
use Rattle.st_answers.proofs.Polling.{asks_request, asks_stop, polling_fits, heeding_fits}
use Rattle.st_answers.proofs.Ahead.{nothing_ahead}
use Rattle.st_answers.proofs.Sharing.{may_share, sharing_fits}
use Rattle.st_answers.proofs.Shrinking.{may_shrink, shrinking_fits, top_thread}
use Rattle.st_answers.proofs.Sending.{may_pick, picking_fits, may_wave, waving_fits, may_mail, mailing_fits, may_tell, telling_fits}

module _ (p : Program) (d : Data) (limits : Limits) (image : Image) (input : List ℕ) where
  -- a phase that leads to a view which the worker fits as it is
  abbrev pub Stays : Phase → Type 0
  Stays phase = (x : Automaton) (u : View) (ready : IsReady p d limits image input x u) (y : Automaton) (old v : View) (turn : Turn) → x.phase ≡ phase → Does p d limits image input u old x turn y v phase → FitsIn p d limits image input y v

  pub law_of : (phase : Phase) → MayLaw p d limits image input phase → Stays phase → PhaseLaw p d limits image input phase
  law_of phase may stays = record {
    may = may;
    keeps = λ x y old v turn e ready made does. fits_here p d limits image input y v (stays x (before p d x old) ready y old v turn e does);
  }

-- where no frame is exported the view is the one that the board has
shrinking_law : (p : Program) (d : Data) (limits : Limits) (image : Image) (input : List ℕ) (asker : Option ℕ) → PhaseLaw p d limits image input (phases.Shrinking asker)
shrinking_law p d limits image input asker = record {
  may = λ x u e ready. may_shrink p d limits image input x u ready asker e;
  keeps = λ x y old v turn e ready made does.
      let u : View = before p d x old in
      let (top, below, is, plain) = top_thread p d limits image input x u ready asker e in
      fits_here p d limits image input y v (shrinking_fits p d limits image input x u ready asker e y old v turn (λ none. nothing_ahead p d asker x old top below e none is plain) does);
}

pub answers_keep : AnswersKeep
answers_keep p d limits image input = record {
  polling = law_of p d limits image input phases.Polling (λ x u e ready. asks_request p d limits image input x u ready) (λ x u ready y old v turn e does. polling_fits p d limits image input x u ready y old v turn e does);
  heeding = λ asker. law_of p d limits image input (phases.Heeding asker) (λ x u e ready. asks_stop p d limits image input x u ready) (λ x u ready y old v turn e does. heeding_fits p d limits image input x u ready asker y old v turn e does);
  shrinking = λ asker. shrinking_law p d limits image input asker;
  answering = λ asker. law_of p d limits image input (phases.Answering asker) (λ x u e ready. may_answer p d limits image input x u ready asker e) (λ x u ready y old v turn e does. answering_fits p d limits image input x u ready asker y old v turn e does);
  picking = λ asker cell. law_of p d limits image input (phases.Picking asker cell) (λ x u e ready. may_pick p d limits image input x u ready asker cell e) (λ x u ready y old v turn e does. picking_fits p d limits image input x u ready asker cell y old v turn e does);
  waving = λ asker chain. law_of p d limits image input (phases.Waving asker chain) (λ x u e ready. may_wave p d limits image input x u ready asker chain e) (λ x u ready y old v turn e does. waving_fits p d limits image input x u ready asker chain y old v turn e does);
  mailing = λ asker chain. law_of p d limits image input (phases.Mailing asker chain) (λ x u e ready. may_mail p d limits image input x u ready asker chain e) (λ x u ready y old v turn e does. mailing_fits p d limits image input x u ready asker chain y old v turn e does);
  sharing = λ asker. law_of p d limits image input (phases.Sharing asker) (λ x u e ready. may_share p d limits image input x u ready asker e) (λ x u ready y old v turn e does. sharing_fits p d limits image input x u ready asker y old v turn e does);
  giving = λ asker x u e ready. may_give p d limits image input x u ready asker e;
  telling = λ asker given. law_of p d limits image input (phases.Telling asker given) (λ x u e ready. may_tell p d limits image input x u ready asker given e) (λ x u ready y old v turn e does. telling_fits p d limits image input x u ready asker given y old v turn e does);
  clearing = law_of p d limits image input phases.Clearing (λ x u e ready. may_clear p d limits image input x u ready e) (λ x u ready y old v turn e does. clearing_fits p d limits image input x u ready y old v turn e does);
}
