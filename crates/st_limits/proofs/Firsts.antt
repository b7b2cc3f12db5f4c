-- A board that is opened is at the start of a run: first_limits.
use Rattle.std.proofs.Common.{◌≡◌, inl, ⊎_elim, ℕ, suc, ◌≤◌, [], length, None, refl, sym, subst, arith}
use Rattle.std.proofs.lemmas.List.{get_or_past}
use Rattle.std.proofs.Math.Decide.{dec_le}
use mathlib.Core.Logic.{dite}
use Rattle.st_base.specs.declared.limits.Limits.{Limits}
use Rattle.st_words.specs.declared.view.View.{View}
use Rattle.st_words.specs.Plain.{view_at, no_view, first_view, first_views, first_words}
use Rattle.st_words.proofs.Opening.{first_view_at, first_views_count, first_sizes}
use Rattle.st_model.specs.declared.program.Program.{Program}
use Rattle.st_model.specs.Memory.{Data}
use Rattle.st_limits.specs.Stopping.{HasPending, HasNumbers}
use Rattle.st_limits.specs.Laws.{First}

none_pending : (program : Program) (source : Data) (v : View) → v.drawn ≡ [] → v.child ≡ None → HasPending program source v → ⊥
none_pending program source v drawn child p = ⊎_elim (λ d. d drawn) (λ c. c child) p

first_numbers : (program : Program) (source : Data) (limits : Limits) (workers w : ℕ) → HasNumbers program source 0 0 (view_at (first_views limits workers) w)
first_numbers program source limits workers w = dite (dec_le (suc w) workers)
    (λ (l : suc w ≤ workers). subst (HasNumbers program source 0 0) (sym (first_view_at limits workers w l)) (record { items_within = omega arith; bytes_within = omega arith; pending = λ p. absurd (none_pending program source (first_view limits workers w) refl refl p); one = inl refl }))
    (λ (o : suc w ≤ workers → ⊥).
    let count : length (first_views limits workers) ≡ workers = first_views_count limits workers (first_views limits workers) refl in
    subst (HasNumbers program source 0 0) (sym (get_or_past (first_views limits workers) w no_view (omega arith))) (record { items_within = omega arith; bytes_within = omega arith; pending = λ p. absurd (none_pending program source no_view refl refl p); one = inl refl }))

one_drawn : (limits : Limits) (workers : ℕ) → (first_words limits workers).drawn ≡ 1
unfolding first_words
one_drawn limits workers = refl

no_stop : (limits : Limits) (workers : ℕ) → (first_words limits workers).stop ≡ 0
unfolding first_words
no_stop limits workers = refl

pub first_limits : First
first_limits program source s limits workers first =
    let one = one_drawn limits workers in
    record {
      steps = [];
      run = refl;
      begun = [];
      drawing = [];
      sized = (first_sizes limits workers (first_words limits workers) refl).1;
      are_begun = record { distinct = tt; unfinished = λ p m. absurd m; somewhere = λ p m. absurd m };
      are_drawing = record { distinct = tt; somewhere = λ p m. absurd m };
      numbers = first_numbers program source limits workers;
      draws = omega (arith, one);
      stops = λ some. absurd (some (no_stop limits workers));
    }
