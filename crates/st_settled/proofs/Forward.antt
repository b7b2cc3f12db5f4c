-- By what a view is not brought forward. Reach for exported_none (frames that are exported), on_still and still_items (the next item of the top thread is not begun, or is none of its own) and
-- pushed_none (no child is named).
use Rattle.std.proofs.Common.{Bool, List, None, Option, Some, [], ap, arith, false, if◌then◌else◌, inl, inr, is_none, refl, true, true≢false, ℕ, ⊎_elim, ◌&&◌, ◌+◌, ◌-◌, ◌==◌, ◌||◌, ◌∙◌, ◌∷◌, ◌≡◌, ◌⊎◌}
use Rattle.std.proofs.lemmas.Bool.{and_from, and_right, cond-true, eq-eqb, or_left, or_right}
use Rattle.std.specs.List.{Contains}
use Rattle.st_base.specs.declared.chain.Frame.{Frame}
use Rattle.st_base.specs.declared.thread.Standing.TheVariants.{Ended, Full, Going, Trapped}
use Rattle.st_base.specs.declared.thread.Standing.{Standing}
use Rattle.st_base.specs.declared.thread.Thread.{Thread}
use Rattle.st_words.proofs.Lists.{contains_case, contains_here, contains_later, contains_none}
use Rattle.st_words.specs.Moves.{exporting}
use Rattle.st_words.specs.Views.{is_among}
use Rattle.st_words.specs.declared.view.Child.{Child}
use Rattle.st_words.specs.declared.view.Known.{Known}
use Rattle.st_words.specs.declared.view.View.{View}
use Rattle.st_model.specs.Heap.{Change, Move, Stays, move, move_standing}
use Rattle.st_model.specs.Limits.{frame_made}
use Rattle.st_model.specs.Memory.{Data}
use Rattle.st_model.specs.Quiet.{IsEvent}
use Rattle.st_model.specs.declared.program.Program.{Program}
use Rattle.st_made.specs.Items.{EndsWith, ending, next_move, went}
use Rattle.st_ahead.specs.Ahead.{is_live, is_private, or_else, seen_change}
use Rattle.st_ahead.specs.Naming.{exported, finished, finished_by, on, pushed, pushed_by}
use Rattle.st_fits.specs.Before.{with_items}

-- ---- frames

among_here : (g f : Frame) (b : Bool) → g ≡ f → (((g.low == f.low) && (g.base == f.base)) || b) ≡ true
among_here g f b same = or_left ((g.low == f.low) && (g.base == f.base)) b (and_from (g.low == f.low) (g.base == f.base) (eq-eqb g.low f.low (ap (λ h. h.low) same)) (eq-eqb g.base f.base (ap (λ h. h.base) same)))

is_there : (gs : List Frame) (f : Frame) → Contains gs f → is_among gs f ≡ true
is_there [] f there = absurd (contains_none f there)
is_there (g ∷ gs) f there =
    ⊎_elim (λ (same : g ≡ f). among_here g f (is_among gs f) same) (λ (later : Contains gs f). or_right ((g.low == f.low) && (g.base == f.base)) (is_among gs f) (is_there gs f later)) (contains_case f g gs there)

-- frames that are exported in the view
pub exported_none : (fs : List Frame) (u : View) → ((f : Frame) → Contains fs f → Contains u.exported f) → exported fs u ≡ u
exported_none [] u are = refl
exported_none (f ∷ fs) u are =
    ap (λ (v : View). exported fs v) (cond-true (is_among u.exported f) u (exporting f u) (is_there u.exported f (are f (contains_here f fs)))) ∙ exported_none fs u (λ g there. are g (contains_later g f fs there))

module _ (p : Program) (d : Data) where
  -- ---- items

  stops : (t : Known) (s : Standing) → IsEvent s → move_standing p d t.path t.thread s ≡ Stays
  stops t Going event = absurd event
  stops t (Ended value) event = absurd event
  stops t (Trapped kind line) event = refl
  stops t Full event = refl

  -- a thread that has stopped has no next item
  pub stopped_stays : (t : Known) → IsEvent t.thread.standing → next_move p d t ≡ Stays
  unfolding move
  stopped_stays t event = stops t t.thread.standing event

  -- the next item isn't begun, or ends the thread, or there is none
  abbrev pub IsStill : Known → Type 0
  IsStill t = (t.begun ≡ false) ⊎ (((value : ℕ) × EndsWith p d t value) ⊎ IsEvent t.thread.standing)

  -- so is the top thread of these, or there is none
  abbrev pub AreStill : List Known → Type 0
  AreStill [] = Prim.Unit
  AreStill (t ∷ ts) = IsStill t

  -- an item that ends its thread isn't a private one
  not_private : (t : Thread) (value : ℕ) → is_private t (ending t value) ≡ false
  not_private t value =
      let c = ending t value in
      and_right ((is_none c.child && is_none c.added) && (is_none c.printed && (c.own.counters == t.counters))) ((c.own.bytes == t.bytes) && is_live c.own.standing) (and_right (c.own.bytes == t.bytes) (is_live c.own.standing) refl)

  by_change : (u : View) (t : Known) (ts : List Known) (c : Change) → is_private t.thread c ≡ false → finished_by p d u t ts (Some c) ≡ None
  by_change u t ts c differs = by_test (is_private t.thread c) differs
    where
      by_test : (b : Bool) → b ≡ false → (if b then Some (record u { threads = went t c.own ∷ ts; frame_bytes = u.frame_bytes + frame_made p t.path t.thread }) else None) ≡ None
      by_test true is = absurd (true≢false is)
      by_test false is = refl

  by_move : (u : View) (t : Known) (ts : List Known) → ((value : ℕ) × EndsWith p d t value) ⊎ IsEvent t.thread.standing → finished_by p d u t ts (seen_change u (next_move p d t)) ≡ None
  by_move u t ts (inl (value, ends)) = ap (λ (m : Move). finished_by p d u t ts (seen_change u m)) ends ∙ by_change u t ts (ending t.thread value) (not_private t.thread value)
  by_move u t ts (inr event) = ap (λ (m : Move). finished_by p d u t ts (seen_change u m)) (stopped_stays t event)

  unmade : (u : View) (t : Known) (ts : List Known) (b : Bool) → (b ≡ false) ⊎ (finished_by p d u t ts (seen_change u (next_move p d t)) ≡ None) → (if b then finished_by p d u t ts (seen_change u (next_move p d t)) else None) ≡ None
  unmade u t ts true (inl e) = absurd (true≢false e)
  unmade u t ts true (inr none) = none
  unmade u t ts false either = refl

  finished_none : (u : View) (ts : List Known) → AreStill ts → finished p d u ts ≡ None
  finished_none u [] still = refl
  finished_none u (t ∷ ts) (inl begun) = unmade u t ts t.begun (inl begun)
  finished_none u (t ∷ ts) (inr rest) = unmade u t ts t.begun (inr (by_move u t ts rest))

  pub on_still : (u : View) → AreStill u.threads → on p d u ≡ u
  on_still u still = ap (λ (o : Option View). or_else p d o u (λ v. v)) (finished_none u u.threads still)

  begun_or_made : (held_up : Bool) (u : View) → on p d u ≡ u → with_items p d held_up 0 u ≡ u
  begun_or_made true u still = refl
  begun_or_made false u still = still

  -- so the worker, which has begun no item more, is ahead by none
  pub still_items : (held_up : Bool) (n : ℕ) (u : View) → n ≡ u.items → AreStill u.threads ⊎ (held_up ≡ true) → with_items p d held_up (n - u.items) u ≡ u
  still_items held_up n u same why =
      let none : n - u.items ≡ 0 = omega arith in
      ap (λ (k : ℕ). with_items p d held_up k u) none ∙ ⊎_elim (λ (still : AreStill u.threads). begun_or_made held_up u (on_still u still)) (λ (held : held_up ≡ true). ap (λ (b : Bool). with_items p d b 0 u) held) why

  -- ---- children

  pushed_by_none : (u : View) (ts : List Known) → pushed_by p d u ts None ≡ u
  pushed_by_none u [] = refl
  pushed_by_none u (t ∷ ts) = refl

  pub pushed_none : (u : View) → u.child ≡ None → pushed p d u ≡ u
  pushed_none u none = ap (λ (o : Option Child). pushed_by p d u u.threads o) none ∙ pushed_by_none u u.threads
