-- The words that go with frames of which all are held: they read the same there as those that are held (all_same).
use Rattle.std.proofs.Common.{◌≡◌, ℕ, true, List, [], ◌∷◌, Option, Some, None, refl, sym, ap, ◌∙◌, is_some}
use Rattle.std.specs.List.{Contains}
use Rattle.st_base.specs.declared.chain.Frame.{Frame}
use Rattle.st_words.specs.declared.view.Carried.{Carried}
use Rattle.st_words.specs.declared.view.View.{View}
use Rattle.st_words.specs.Laws.{cargo_of}
use Rattle.st_words.specs.Steps.{Inside, kept}
use Rattle.st_words.proofs.Carrying.{cargo_laws}
use Rattle.st_words.proofs.Lists.{contains_here, contains_later}
use Rattle.st_chain.specs.Walk.{is_held, number_or}
use Rattle.st_chain.specs.Laws.{AllSameHeld}

some_number : (h : Option ℕ) → is_some h ≡ true → (n : ℕ) × (h ≡ Some n)
some_number None is = let never : ⊥ = cc in absurd never
some_number (Some n) is = (n, refl)

pub held_number : (held : List (Option ℕ)) (q : ℕ) → is_held held q ≡ true → (n : ℕ) × (kept held q ≡ Some n)
held_number held q is = some_number (kept held q) is

module _ (u : View) (x : Carried) (fs : List Frame) (unit : ℕ) where
  same_of : (gs : List Frame) → ((f : Frame) → Contains gs f → Contains fs f) → ((f : Frame) (q : ℕ) → Contains fs f → Inside f q → is_held u.held q ≡ true) → AllSameHeld u.held (cargo_of u x fs unit).words gs
  same_of [] among all = tt
  same_of (g ∷ gs) among all = (
    record {
      held = λ q inside is. let n = held_number u.held q is in ap is_some (cargo_laws.whole u x fs unit g q n.0 (among g (contains_here g gs)) inside n.1);
      words = λ q inside. let n = held_number u.held q (all g q (among g (contains_here g gs)) inside) in ap number_or n.1 ∙ ap number_or (sym (cargo_laws.whole u x fs unit g q n.0 (among g (contains_here g gs)) inside n.1));
    },
    same_of gs (λ f in'. among f (contains_later f g gs in')) all,
  )

  pub all_same : ((f : Frame) (q : ℕ) → Contains fs f → Inside f q → is_held u.held q ≡ true) → AllSameHeld u.held (cargo_of u x fs unit).words fs
  all_same all = same_of fs (λ f in'. in') all
