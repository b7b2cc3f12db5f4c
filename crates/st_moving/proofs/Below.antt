-- The thread below one that was suspended stands on the machine that the suspension leaves: read below_goes_on. Machines that are on their ends stay so
-- over other words: over_words.
use Rattle.std.proofs.Common.{inr, ℕ, List, Option, refl, ◌∙◌, arith}
use Rattle.st_base.specs.declared.chain.Frame.{Frame}
use Rattle.st_words.specs.declared.view.Known.{Known}
use Rattle.st_step.specs.declared.state.State.{State}
use Rattle.st_step.specs.Runs.{HasRegisters, AreValues, AreWords}
use Rattle.st_items.specs.Body.{Ends, IsOn}
use Rattle.st_items.proofs.KeptFiles.{frameless_kept}
use Rattle.st_chain.specs.Walk.{word_in}
use Rattle.st_chain.specs.Copying.{over}
use Rattle.st_chain.specs.Taking.{Taking, GoesOn}
use Rattle.st_moving.specs.Moving.{BelowGoesOn}

pub over_words : (ends : Ends) (m : State) (held held' : List (Option ℕ)) → AreWords (word_in held') → IsOn ends (over held m) → IsOn ends (over held' m)
over_words ends m held held' words on = record { has_registers = on.has_registers; values = on.values; words = words; lo = on.lo; hi = on.hi; sp = on.sp; gp = on.gp }

-- sp and gp are among the registers that stay
goes_machine : (t : Taking) (held : List (Option ℕ)) (ends : Ends) (m m' : State) (k : Known) (fs : List Frame) (ks : List Known) (rest : List (List Frame)) → IsOn ends (over t.held m) → HasRegisters m' → AreValues m' → AreWords (word_in held) → GoesOn t held k fs ks rest m m' → IsOn ends (over held m')
goes_machine t held ends m m' k fs ks rest on has values words goes = record {
  has_registers = has;
  values = values;
  words = words;
  lo = goes.lo ∙ on.lo;
  hi = goes.hi ∙ on.hi;
  sp = goes.others 2 (λ e. absurd (omega (arith, e))) refl ∙ on.sp;
  gp = goes.others 3 (λ e. absurd (omega (arith, e))) refl ∙ on.gp;
}

pub below_goes_on : BelowGoesOn
below_goes_on t held ends m m' k fs ks rest accepted on has values words goes = (
  record {
    machine = goes_machine t held ends m m' k fs ks rest on has values words goes;
    whole = goes.whole;
    file = goes.holds.file;
    frameless = frameless_kept k.thread.registers goes.holds.long goes.holds.holds;
    stands = inr goes.thread;
  },
  goes.thread,
)
