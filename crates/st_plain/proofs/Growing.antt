-- Lists that grow at their end, and names that do: a name keeps its number, so that what is older than an activation stands under more names
-- (stacked_widens), and a run at an entry does (call_grows).
use Rattle.std.proofs.Common.{◌≡◌, ℕ, zero, suc, ◌<◌, List, [], ◌∷◌, ◌++◌, length, Some, slice_get, refl, ap, inl, inr, ◌⊎◌}
use Rattle.st_base.specs.declared.reg.Reg.TheVariants as registers
use Rattle.st_base.specs.declared.thread.Activation.{Activation}
use Rattle.st_base.specs.declared.thread.Held.{Held}
use Rattle.st_model.specs.declared.code.Layout.TheVariants.{Unchanged}
use Rattle.st_model.specs.declared.ordinary.State.{State}
use Rattle.st_model.specs.declared.ordinary.Tally.{Tally}
use Rattle.st_model.specs.declared.program.Program.{Program}
use Rattle.st_model.specs.Layout.{saved_of}
use Rattle.st_step.specs.Frames.{with_saved_values}
use Rattle.st_step.specs.Moves.{register}
use Rattle.st_step.specs.Runs.{Situation, return_word, caller_word}
use Rattle.st_items.specs.Body.{Grows, Widens}
use Rattle.st_items.proofs.Growing.{caller_grows, body_grows}
use Rattle.st_items.proofs.Words.{get_front}
use Rattle.st_plain.specs.Frames.{by_place, parents_below}
use Rattle.st_plain.specs.Standing.{AtCall}
use Rattle.st_plain.proofs.OnItems.{Stacked, OlderThan, ends_at, are_ends, body_of, stands_in}

-- ---- lists

pub get_new : {A : Type 0} (xs : List A) (x : A) → slice_get (xs ++ x ∷ []) (length xs) ≡ Some x
get_new [] x = refl
get_new (y ∷ xs) x = get_new xs x

pub get_cases : {A : Type 0} (xs : List A) (y x : A) (n : ℕ) → slice_get (xs ++ y ∷ []) n ≡ Some x → (slice_get xs n ≡ Some x) ⊎ ((n ≡ length xs) × (x ≡ y))
get_cases [] y x zero e = inr (refl, cc)
get_cases [] y x (suc n) e = let no : ⊥ = cc in absurd no
get_cases (z ∷ xs) y x zero e = inl e
get_cases (z ∷ xs) y x (suc n) e = elim (get_cases xs y x n e) [ inl old ↦ inl old | inr new ↦ inr (ap suc new.0, new.1) ]

-- ---- names

module _ (names more : List Held) where
  pub names_grow : Grows (by_place names) (by_place (names ++ more))
  names_grow held n there = get_front names more n held there

  pub stacked_widens : (p : Program) (stack low : ℕ) (older : List Activation) (parents : List Tally) → Widens (Stacked p stack names low older parents) (Stacked p stack (names ++ more) low older parents)
  stacked_widens p stack low [] parents kind kept word value fp ret below = below
  stacked_widens p stack low (a ∷ older) parents kind kept word value fp ret (function, caller, has_parent, below) = (
    function,
    caller_grows (by_place names) (by_place (names ++ more)) names_grow Unchanged p word value low fp ret kind kept a function caller,
    has_parent,
    stacked_widens p stack fp older (parents_below kind parents) a.kind a.kept word (with_saved_values word fp 0 (saved_of function) value) (word (caller_word fp)) (word (return_word fp)) below,
  )

  abbrev pub call_grows : (p : Program) (stack : ℕ) (t : Situation) (s : State) → 0 < s.top.next → AtCall p stack names t s → AtCall p stack (names ++ more) t s
  call_grows p stack t s begun at = record {
    stands =
        stands_in p stack (names ++ more) (ends_at t) (register t.state registers.Sp) (register t.state registers.S0) t s at.stands.function (are_ends stack t at.stands.machine) refl (body_of p stack names t s at.stands begun).framed.base begun
        (body_grows (by_place names) (by_place (names ++ more)) names_grow (OlderThan p stack names t s) (OlderThan p stack (names ++ more) t s) (stacked_widens p stack (register t.state registers.S0) s.rest.older s.rest.parents) p (ends_at t) (register t.state registers.Sp) t s.top s.registers at.stands.function
        (body_of p stack names t s at.stands begun));
    item = at.item;
    placed = at.placed;
    enters = at.enters;
    back = at.back;
    whole = at.whole;
  }
