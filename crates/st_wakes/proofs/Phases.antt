-- The laws of all phases of waiters: waiters_fit.
use Rattle.std.proofs.Common.{List, Option, Some, false, subst, sym, true, ℕ, ◌-◌, ◌≡◌}
use Rattle.st_base.specs.declared.chain.Chain.{Chain}
use Rattle.st_base.specs.declared.image.Image.{Image}
use Rattle.st_base.specs.declared.limits.Limits.{Limits}
use Rattle.st_cargo.specs.Cargo.{goes_with}
use Rattle.st_fits.specs.Before.{after, before}
use Rattle.st_fits.specs.Fits.{Fits, FitsIn}
use Rattle.st_fits.specs.Laws.{PhaseLaw}
use Rattle.st_model.specs.Memory.{Data}
use Rattle.st_model.specs.declared.program.Program.{Program}
use Rattle.st_phases.specs.Automaton.{with_phase}
use Rattle.st_phases.specs.Waking.{behind, cell_of, followed, parked, parked_word, raised, readied, returned, settled}
use Rattle.st_phases.specs.declared.automaton.Automaton.{Automaton}
use Rattle.st_phases.specs.declared.phase.Phase.{Phase}
use Rattle.st_phases.specs.declared.phase.Rest.{Rest}
use Rattle.st_phases.specs.declared.phase.Settling.{Settling}
use Rattle.st_run.specs.Behind.{IsBehind}
use Rattle.st_wakes.proofs.Asking.{following_may, linking_may, lowering_may, owning_may, parking_may, peeking_may, raising_may, readying_may, returning_may, weighing_may}
use Rattle.st_wakes.proofs.Turned.{fits_after}
use Rattle.st_wakes.proofs.Waking.{following_fits, linking_fits, lowering_fits, owning_fits, parking_fits, peeking_fits, raising_fits, readying_fits, returning_fits, weighing_fits}
use Rattle.st_wakes.specs.Waiters.{WaitersFit}
use Rattle.st_words.specs.Encodings.{head_in}
use Rattle.st_words.specs.Steps.{ActiveAdd, CellChange, CellLoad, CellStore, Done, Number, SlotPut, SlotTake, Took}
use Rattle.st_words.specs.Tidy.{Tidy}
use Rattle.st_words.specs.declared.view.View.{View}
use Rattle.st_words.specs.declared.view.CellWord.TheVariants as words
use Rattle.st_words.specs.declared.view.Slot.TheVariants as slots
use Rattle.st_phases.specs.declared.phase.Phase.TheVariants as phases

module _ (p : Program) (d : Data) (limits : Limits) (image : Image) (input : List ℕ) where
  abbrev Fitted : Automaton → View → Type 0
  Fitted y v = Fits p d limits image input y v

  abbrev Law : Phase → Type 0
  Law phase = PhaseLaw p d limits image input phase

  -- it fits the view that was told, if it fits the one that the step gives
  told_fits : (y z : Automaton) (u v w : View) → y ≡ z → v ≡ w → FitsIn p d limits image input z w → Fitted y v
  told_fits y z u v w same is fits = fits_after p d limits image input y v (subst (λ (a : Automaton). FitsIn p d limits image input a v) (sym same) (subst (λ (b : View). FitsIn p d limits image input z b) (sym is) fits))

  following : (rest : Rest) → Law (phases.Following rest)
  following rest = record {
    may = λ x u is ready. following_may p d limits image input x u ready rest is;
    keeps = λ x y old v turn is ready made does.
        let u = before p d x old in
        told_fits y (followed rest does.0 x) u v (after p d u (CellLoad (rest.next - 1) words.Next) (Number does.0)) does.2.0 does.1.is
        (following_fits p d limits image input x u ready rest does.0 is does.1.promised (subst (IsBehind p d) does.1.is does.1.behind));
  }

  raising : (waiter : ℕ) (rest : Rest) → Law (phases.Raising waiter rest)
  raising waiter rest = record {
    may = λ x u is ready. raising_may p d limits image input x u ready waiter rest is;
    keeps = λ x y old v turn is ready made does.
        let u = before p d x old in
        told_fits y (raised waiter rest x) u v (after p d u (ActiveAdd true) (Number does.0)) does.2.0 does.1.is
        (raising_fits p d limits image input x u ready waiter rest does.0 is (subst (IsBehind p d) does.1.is does.1.behind));
  }

  peeking : (waiter : ℕ) (rest : Rest) → Law (phases.Peeking waiter rest)
  peeking waiter rest = record {
    may = λ x u is ready. peeking_may p d limits image input x u ready waiter rest is;
    keeps = λ x y old v turn is ready made does.
        let u = before p d x old in
        told_fits y (with_phase (phases.Returning does.1 rest) x) u v (after p d u (SlotTake (slots.Cell waiter)) (Took (Some does.1) does.0)) does.3.0 does.2.is
        (peeking_fits p d limits image input x u ready waiter rest does.1 does.0 is does.2.promised does.2.comes.0 does.2.comes.1 (subst Tidy does.2.is does.2.tidy) (subst (IsBehind p d) does.2.is does.2.behind));
  }

  returning : (chain : Chain) (rest : Rest) → Law (phases.Returning chain rest)
  returning chain rest = record {
    may = λ x u is ready. returning_may p d limits image input x u ready chain rest is;
    keeps = λ x y old v turn is ready made does.
        let u = before p d x old in
        told_fits y (returned chain rest x) u v (after p d u (SlotPut (slots.Cell chain.cell) chain (goes_with p u (slots.Cell chain.cell) chain)) Done) does.1.0 does.0.is
        (returning_fits p d limits image input x u ready chain rest is (subst (IsBehind p d) does.0.is does.0.behind));
  }

  owning : (s : Settling) → Law (phases.Owning s)
  owning s = record {
    may = λ x u is ready. owning_may p d limits image input x u ready s is;
    keeps = λ x y old v turn is ready made does.
        let u = before p d x old in
        told_fits y (with_phase (phases.Weighing s) x) u v (after p d u (CellLoad (cell_of s.wait) words.Owner) (Number does.0)) does.2.0 does.1.is
        (owning_fits p d limits image input x u ready s does.0 is does.1.promised (subst (IsBehind p d) does.1.is does.1.behind));
  }

  weighing : (s : Settling) → Law (phases.Weighing s)
  weighing s = record {
    may = λ x u is ready. weighing_may p d limits image input x u ready s is;
    keeps = λ x y old v turn is ready made does.
        let u = before p d x old in
        told_fits y (settled (record s { seen = does.0 }) x) u v (after p d u (CellLoad (cell_of s.wait) words.State) (Number does.0)) does.2.0 does.1.is
        (weighing_fits p d limits image input x u ready s does.0 is does.1.promised (subst (IsBehind p d) does.1.is does.1.behind));
  }

  readying : (s : Settling) → Law (phases.Readying s)
  readying s = record {
    may = λ x u is ready. readying_may p d limits image input x u ready s is;
    keeps = λ x y old v turn is ready made does.
        let u = before p d x old in
        told_fits y (readied s x) u v (after p d u (CellStore s.waiter words.Standing 3) Done) does.1.0 does.0.is
        (readying_fits p d limits image input x u ready s is (subst (IsBehind p d) does.0.is does.0.behind));
  }

  linking : (s : Settling) → Law (phases.Linking s)
  linking s = record {
    may = λ x u is ready. linking_may p d limits image input x u ready s is;
    keeps = λ x y old v turn is ready made does.
        let u = before p d x old in
        told_fits y (with_phase (phases.Parking s) x) u v (after p d u (CellStore s.waiter words.Next (head_in s.seen)) Done) does.1.0 does.0.is
        (linking_fits p d limits image input x u ready s is (subst (IsBehind p d) does.0.is does.0.behind));
  }

  parking : (s : Settling) → Law (phases.Parking s)
  parking s = record {
    may = λ x u is ready. parking_may p d limits image input x u ready s is;
    keeps = λ x y old v turn is ready made does.
        let u = before p d x old in
        told_fits y (parked s does.0 x) u v (after p d u (CellChange (cell_of s.wait) s.seen (parked_word s.wait s.waiter s.seen)) (Number does.0)) does.2.0 does.1.is
        (parking_fits p d limits image input x u ready s does.0 is does.1.promised (subst (IsBehind p d) does.1.is does.1.behind));
  }

  lowering : (rest : Option Rest) → Law (phases.Lowering rest)
  lowering rest = record {
    may = λ x u is ready. lowering_may p d limits image input x u ready rest is;
    keeps = λ x y old v turn is ready made does.
        let u = before p d x old in
        told_fits y (behind rest x) u v (after p d u (ActiveAdd false) (Number does.0)) does.2.0 does.1.is
        (lowering_fits p d limits image input x u ready rest does.0 is (subst (IsBehind p d) does.1.is does.1.behind));
  }

pub waiters_fit : WaitersFit
waiters_fit p d limits image input = record {
  following = following p d limits image input;
  raising = raising p d limits image input;
  peeking = peeking p d limits image input;
  returning = returning p d limits image input;
  owning = owning p d limits image input;
  weighing = weighing p d limits image input;
  readying = readying p d limits image input;
  linking = linking p d limits image input;
  parking = parking p d limits image input;
  lowering = lowering p d limits image input;
}
