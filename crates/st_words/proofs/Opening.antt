-- A board that is opened has its sizes: first_sized, and opened_sized by the equations of its parts. first_view_at: the view of
-- each worker. first_sizes: how many words it has.
use Rattle.std.proofs.Common.{◌≡◌, ℕ, ◌*◌, ◌/◌, ◌<◌, List, length, replicate, None, refl, sym, ap, ◌∙◌, subst, arith, slice_set, length-set}
use Rattle.std.proofs.lemmas.List.{length-replicate}
use Rattle.std.proofs.lemmas.List.FromFn.{length-map-range_with_len, get_or-map-range_with_len}
use Rattle.st_base.specs.declared.limits.Limits.{Limits}
use Rattle.st_base.specs.declared.thread.Thread.{Thread}
use Rattle.st_words.specs.declared.view.View.{View}
use Rattle.st_words.specs.declared.words.Words.{Words}
use Rattle.st_words.specs.Encodings.{ready, out_bytes}
use Rattle.st_words.specs.Plain.{Cargoes, view_at, no_view, led_by, first_view, first_views, first_words, first_cargoes}
use Rattle.st_words.specs.Sizes.{SizedWords, SizedCargoes, SizedView, SizedViews, Sized}

first_count : (limits : Limits) (workers : ℕ) → length (first_views limits workers) ≡ workers
first_count limits workers = length-map-range_with_len (first_view limits workers) 0 workers

filled_length : {X : Type 0} (n : ℕ) (x y : X) → length (slice_set (replicate n x) 0 y) ≡ n
filled_length n x y = length-set (replicate n x) 0 y ∙ length-replicate n x

same_count : {X : Type 0} (n m : ℕ) (x : X) → length (replicate n x) ≡ length (led_by m n)
same_count n m x = length-replicate n x ∙ sym (filled_length n 0 m)

sized_first : (limits : Limits) (workers : ℕ) → SizedWords (first_words limits workers) workers
unfolding first_words
sized_first limits workers = record {
  states = same_count limits.cells 1 0;
  values = same_count limits.cells 1 0;
  nexts = same_count limits.cells 1 0;
  standings = filled_length limits.cells 0 ready ∙ sym (filled_length limits.cells 0 1);
  traps = same_count limits.cells 1 0;
  cell_slots = filled_length limits.cells None _ ∙ sym (filled_length limits.cells 0 1);
  requests = length-replicate workers 0;
  mail = length-replicate workers 0;
  mail_slots = length-replicate workers None;
  out = length-replicate out_bytes 0;
}

first_stack : (limits : Limits) (workers : ℕ) → length (first_words limits workers).stack ≡ workers * (limits.stack / 8)
unfolding first_words
first_stack limits workers = length-replicate (workers * (limits.stack / 8)) 0

first_cells : (limits : Limits) (workers : ℕ) → length (first_words limits workers).owners ≡ limits.cells
unfolding first_words
first_cells limits workers = filled_length limits.cells 0 1

sized_view : (limits : Limits) (workers w : ℕ) → SizedView workers limits.cells (workers * (limits.stack / 8)) w (first_view limits workers w)
sized_view limits workers w = record {
  number = refl;
  workers = refl;
  cells = refl;
  each = refl;
  held = length-map-range_with_len _ 0 (workers * (limits.stack / 8));
}

pub first_view_at : (limits : Limits) (workers w : ℕ) → w < workers → view_at (first_views limits workers) w ≡ first_view limits workers w
first_view_at limits workers w l = get_or-map-range_with_len (first_view limits workers) 0 workers w w no_view l (omega arith)

sized_views : (limits : Limits) (workers : ℕ) → SizedViews (first_views limits workers) limits.cells (workers * (limits.stack / 8))
sized_views limits workers w l =
    let count : length (first_views limits workers) ≡ workers = first_count limits workers in
    let within : w < workers = omega arith in
    let at : view_at (first_views limits workers) w ≡ first_view limits workers w = first_view_at limits workers w within in
    subst (λ (n : ℕ). SizedView n limits.cells (workers * (limits.stack / 8)) w (view_at (first_views limits workers) w)) (sym count)
    (subst (λ (v : View). SizedView workers limits.cells (workers * (limits.stack / 8)) w v) (sym at) (sized_view limits workers w))

sized_cargoes : (limits : Limits) (workers : ℕ) (thread : Thread) → SizedCargoes (first_cargoes limits workers thread) limits.cells workers
unfolding first_cargoes
sized_cargoes limits workers thread = record { cells = filled_length limits.cells _ _; mail = length-replicate workers _ }

pub first_sized : (limits : Limits) (workers : ℕ) (thread : Thread) → Sized (first_words limits workers) (first_cargoes limits workers thread) (first_views limits workers)
first_sized limits workers thread =
    let count : length (first_views limits workers) ≡ workers = first_count limits workers in
    record {
      words = subst (λ (n : ℕ). SizedWords (first_words limits workers) n) (sym count) (sized_first limits workers);
      cargoes = subst (λ (n : ℕ). SizedCargoes (first_cargoes limits workers thread) n (length (first_views limits workers))) (sym (first_cells limits workers)) (subst (λ (n : ℕ). SizedCargoes (first_cargoes limits workers thread) limits.cells n) (sym count) (sized_cargoes limits workers thread));
      views = subst (λ (n : ℕ). SizedViews (first_views limits workers) n (length (first_words limits workers).stack)) (sym (first_cells limits workers)) (subst (λ (n : ℕ). SizedViews (first_views limits workers) limits.cells n) (sym (first_stack limits workers)) (sized_views limits workers));
    }

-- by the equations of a board's parts
pub opened_sized : (limits : Limits) (workers : ℕ) (thread : Thread) (x : Words) (ls : Cargoes) (vs : List View) → x ≡ first_words limits workers → ls ≡ first_cargoes limits workers thread → vs ≡ first_views limits workers → Sized x ls vs
opened_sized limits workers thread x ls vs ex el ev =
    subst (λ (y : Words). Sized y ls vs) (sym ex) (subst (λ (z : Cargoes). Sized (first_words limits workers) z vs) (sym el) (subst (λ (z : List View). Sized (first_words limits workers) (first_cargoes limits workers thread) z) (sym ev) (first_sized limits workers thread)))

pub first_sizes : (limits : Limits) (workers : ℕ) (x : Words) → x ≡ first_words limits workers → SizedWords x workers × (length x.owners ≡ limits.cells) × (length x.stack ≡ workers * (limits.stack / 8))
first_sizes limits workers x e = subst (λ (y : Words). SizedWords y workers × (length y.owners ≡ limits.cells) × (length y.stack ≡ workers * (limits.stack / 8))) (sym e) (sized_first limits workers, first_cells limits workers, first_stack limits workers)

-- as many views as workers
pub first_views_count : (limits : Limits) (workers : ℕ) (vs : List View) → vs ≡ first_views limits workers → length vs ≡ workers
first_views_count limits workers vs e = ap length e ∙ first_count limits workers
