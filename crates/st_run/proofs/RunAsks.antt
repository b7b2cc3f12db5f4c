-- By the laws of a board for a program a caller meets what a step asks (run_asks), and has what the step leaves (run_leaves). For the chain of a ready
-- number, by which the worker's threads make no item: it may be asked (ready_asked), and ready_left has what the step leaves.
use Rattle.std.proofs.Common.{◌≡◌, ◌≢◌, inr, ℕ, ◌+◌, ◌^◌, ◌<◌, [], Option, Some, None, refl, sym, subst}
use Rattle.std.specs.List.{Contains}
use Rattle.st_base.specs.declared.chain.Chain.{Chain}
use Rattle.st_base.specs.declared.limits.Limits.{Limits}
use Rattle.st_words.specs.declared.view.Slot.TheVariants.{Cell}
use Rattle.st_words.specs.declared.view.Cargo.{Cargo}
use Rattle.st_words.specs.declared.view.View.{View}
use Rattle.st_words.specs.Steps.{Step, Answer, Done, Number, Looked, Took, SlotTake}
use Rattle.st_words.specs.Views.{view_after}
use Rattle.st_words.specs.Laws.{does_alone}
use Rattle.st_words.specs.Made.{Asked, StepMade}
use Rattle.st_words.specs.Careful.{Meaning}
use Rattle.st_words.specs.RunLaws.{RunLaws, May, Names, Suffices, Leaves}
use Rattle.st_words.proofs.Starting.{ready_safe}
use Rattle.st_model.specs.declared.program.Program.{Program}
use Rattle.st_model.specs.Memory.{Data}
use Rattle.st_made.specs.Moves.{Made}
use Rattle.st_made.specs.Events.{NoItem, Event}
use Rattle.st_chain.specs.Chains.{Walks}
use Rattle.st_run.specs.Meanings.{meaning}

-- a chain that is taken comes into the turn, so the threads and the two numbers stay
took_none : (u : View) (c : ℕ) (found : Option Chain) (cargo : Cargo) → NoItem u (view_after u (SlotTake (Cell c)) (Took found cargo))
unfolding view_after
took_none u c None cargo = record { threads = refl; items = refl; bytes = refl }
took_none u c (Some chain) cargo = record { threads = refl; items = refl; bytes = refl }

taken_event : (p : Program) (d : Data) (u : View) (c : ℕ) (a : Answer) → Event p d u (SlotTake (Cell c)) a (view_after u (SlotTake (Cell c)) a)
unfolding view_after
taken_event p d u c Done = record { threads = refl; items = refl; bytes = refl }
taken_event p d u c (Number n) = record { threads = refl; items = refl; bytes = refl }
taken_event p d u c (Looked n cargo) = record { threads = refl; items = refl; bytes = refl }
taken_event p d u c (Took found cargo) = took_none u c found cargo

module _ {Self : Type 0} (view : Self → ℕ → View) (serves : Self → ℕ → Type 0) (forward : Self → View → View → Type 0) (moves : Self → View → Step → Answer → View → Type 0) (says : Self → ℕ → Step → Answer → Type 0) (did : Self → ℕ → Step → Answer → Self → Type 0) where
  module _ (IsFor : Self → Type 0) (Stays : Self → Self → Type 0) (m : Meaning) (Makes : View → View → Type 0) (Goes : View → Step → Answer → View → Type 0) where
    abbrev Laws : Type 0
    Laws = RunLaws view serves forward moves says did IsFor Stays m Makes Goes

    pub run_asks : Laws → (after : View → Step → Answer → View) → Suffices view serves forward moves says did IsFor Stays m Makes Goes after
    run_asks laws after b w u s may names = (u, laws.forward_so b w u s may, may.can, λ a said. laws.moves_so b w u s a (after (view b w) s a) may said (names a said (laws.promises b w u s a may said)))

    pub run_leaves : Laws → (after : View → Step → Answer → View) → Leaves view serves forward moves says did IsFor Stays m Makes Goes after
    run_leaves laws after b w u s a b' may names made =
        let now : Names view serves forward moves says did IsFor Stays m Makes Goes u s a (view b' w) = subst (λ (v : View). Names view serves forward moves says did IsFor Stays m Makes Goes u s a v) (sym made.view) names in
        (laws.keeps b w u s a b' may made.said now made.did made.others, laws.stays_so b w s a b' made.did, laws.promises b w u s a may made.said)

  -- ---- the chain of a ready number

  module _ (IsFor : Self → Type 0) (Stays : Self → Self → Type 0) (p : Program) (d : Data) (limits : Limits) (laws : RunLaws view serves forward moves says did IsFor Stays (meaning p d limits) (Made p d) (Event p d)) (b : Self) (w c : ℕ) (here : IsFor b) (served : serves b w) (ready : Contains (view b w).ready c) (few : (view b w).share + 1 < 2 ^ 32) where
    abbrev take : Step
    take = SlotTake (Cell c)

    ready_may : May view serves forward moves says did IsFor Stays (meaning p d limits) (Made p d) (Event p d) b w (view b w) take
    ready_may =
        let n = (laws.tidy b w (view b w) here served ([], refl)).numbers in
        let s = ready_safe (meaning p d limits) (view b w) c (n.below c (inr (inr (inr ready)))) ready (λ h. n.ready c ready (inr h)) few in
        record { here = here; serving = served; made = ([], refl); can = s.can; careful = s.careful }

    pub ready_asked : Asked view serves says forward moves view_after b w take
    ready_asked = record {
      serves = served;
      may = run_asks IsFor Stays (meaning p d limits) (Made p d) (Event p d) laws view_after b w (view b w) take ready_may (λ a said promised. (does_alone (view b w) take a, taken_event p d (view b w) c a));
    }

    pub record Left (found : Option Chain) (b' : Self) : Type 0 where
      pub some : found ≢ None
      pub taken : (cargo : Cargo) × StepMade view serves says did view_after b w take (Took found cargo) b' × ((chain : Chain) → found ≡ Some chain → Walks p d chain cargo)
      pub still : IsFor b'
      pub stays : Stays b b'

    pub ready_left : (found : Option Chain) (cargo : Cargo) (b' : Self) → StepMade view serves says did view_after b w take (Took found cargo) b' → Left found b'
    ready_left found cargo b' made =
        let left = run_leaves IsFor Stays (meaning p d limits) (Made p d) (Event p d) laws view_after b w (view b w) take (Took found cargo) b' ready_may (does_alone (view b w) take (Took found cargo), taken_event p d (view b w) c (Took found cargo)) made in
        record {
          some = left.2.there;
          taken = (cargo, made, λ chain e. (laws.comes b w (view b w) (Cell c) chain cargo ready_may (subst (λ (o : Option Chain). says b w take (Took o cargo)) e made.said)).0);
          still = left.0;
          stays = left.1;
        }
