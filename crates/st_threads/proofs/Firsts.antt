-- A board that is opened for the root's thread has the first heap behind it: first_threads.
use Rattle.std.proofs.Common.{◌≡◌, ◌≢◌, ⊎_elim, ℕ, suc, ◌/◌, ◌<◌, ◌≤◌, List, [], ◌∷◌, ◌++◌, length, Option, Some, None, refl, sym, ap, ◌∙◌, subst, arith}
use Rattle.std.proofs.lemmas.List.{get_or_past}
use Rattle.std.proofs.Math.Decide.{dec_le}
use mathlib.Core.Logic.{dite}
use Rattle.st_base.specs.declared.chain.Chain.{Chain}
use Rattle.st_base.specs.declared.limits.Limits.{Limits}
use Rattle.st_base.specs.declared.thread.Thread.{Thread}
use Rattle.st_words.specs.declared.view.Slot.{Slot}
use Rattle.st_words.specs.declared.view.Slot.TheVariants.{Cell, Mail}
use Rattle.st_words.specs.declared.view.Known.{Known}
use Rattle.st_words.specs.declared.view.Cargo.{Cargo}
use Rattle.st_words.specs.Views.{no_cargo}
use Rattle.st_words.specs.Plain.{no_view, first_views, first_words, first_cargoes, root_cargo, root_chain}
use Rattle.st_words.proofs.Lists.{contains_none}
use Rattle.st_words.proofs.Opening.{first_view_at, first_views_count}
use Rattle.st_model.specs.declared.ordinary.State.{State}
use Rattle.st_model.specs.Heap.{Path, Heap, put, new_thread, first_heap}
use Rattle.st_laws.proofs.HeapSteps.{decide, put_same, put_other}
use Rattle.st_laws.proofs.First.{no_child, alone_thread}
use Rattle.st_made.specs.Runs.{all_known}
use Rattle.st_world.specs.World.{World, slot_of, cargo_of}
use Rattle.st_world.specs.OfPlain.{world_of}
use Rattle.st_world.specs.Holders.{Holder, InView, InSlot, Nobody}
use Rattle.st_world.proofs.Opened.{alike, led_first, led_other}
use Rattle.st_threads.specs.Holding.{times, HasThreads, SlotHas, Holding}
use Rattle.st_threads.specs.Laws.{First}
use Rattle.st_threads.proofs.Keepers.{times_none}
use Rattle.st_threads.proofs.Holdings.{same_slot, slot_not_view, slot_not_nobody}

-- ---- lists

module _ (s : State) (limits : Limits) (workers : ℕ) where
  abbrev thread : Thread
  thread = new_thread s.top s.registers

  abbrev heap : Heap
  heap = first_heap s

  abbrev x : World
  x = world_of (limits.stack / 8) (first_words limits workers) (first_cargoes limits workers thread) (first_views limits workers)

  -- the root's thread is in its cell's slot, and nobody has another one
  abbrev keeper : Path → Holder
  keeper = put [] (InSlot (Cell 0)) (λ p. Nobody)

  some_cells : 0 < limits.cells
  some_cells = let l = limits.cells_least in omega (arith, l)

  root_there : slot_of x (Cell 0) ≡ Some root_chain
  unfolding first_words
  root_there = led_first limits.cells None (Some root_chain) some_cells

  root_with : cargo_of x (Cell 0) ≡ root_cargo thread
  unfolding first_cargoes
  root_with = led_first limits.cells no_cargo (root_cargo thread) some_cells

  no_other : (z : Slot) → z ≢ Cell 0 → slot_of x z ≡ None
  unfolding first_words
  no_other (Cell c) n = led_other limits.cells c None (Some root_chain) (λ e. n (ap Cell e))
  no_other (Mail a) n = alike workers a None

  holds : keeper [] ≡ InSlot (Cell 0)
  holds = put_same [] (InSlot (Cell 0)) (λ p. Nobody)

  -- a keeper of a path is the root's slot, and it is the root's path, or it is nobody
  by_keeper : (P : Type 0) (p : Path) (k : Holder) → keeper p ≡ k → (p ≡ [] → InSlot (Cell 0) ≡ k → P) → (Nobody ≡ k → P) → P
  by_keeper P p k e root other = ⊎_elim
      (λ (is : p ≡ []). root is (sym holds ∙ (ap keeper (sym is) ∙ e)))
      (λ (n : p ≢ []). other (sym (put_other [] p (InSlot (Cell 0)) (λ q. Nobody) n) ∙ e))
      (decide p [])

  no_worker : (w : ℕ) (p : Path) → times (keeper p) w ≡ 0
  no_worker w p = times_none (keeper p) w (λ e. by_keeper ⊥ p (InView w) e (λ is f. slot_not_view (Cell 0) w f) (λ f. cc))

  no_thread : (w : ℕ) → all_known (x.view w) ≡ []
  no_thread w = dite (dec_le (suc w) workers)
      (λ (l : suc w ≤ workers). ap all_known (first_view_at limits workers w l))
      (λ (o : suc w ≤ workers → ⊥). let count : length (first_views limits workers) ≡ workers = first_views_count limits workers (first_views limits workers) refl in ap all_known (get_or_past (first_views limits workers) w no_view (omega arith)))

  root_has : SlotHas heap keeper (Cell 0) (Some root_chain) (root_cargo thread)
  root_has = record {
    of = record { there = put_same [] (Some thread) (λ p. None); live = tt; forks = refl; counters = refl; bytes = refl };
    holds = holds;
    alone = λ p e. by_keeper (p ≡ []) p (InSlot (Cell 0)) e (λ is f. is) (λ f. absurd (slot_not_nobody (Cell 0) (sym f)));
  }

  child_free : (p : Path) (k : ℕ) → heap.thread (p ++ k ∷ []) ≡ None
  child_free p k = put_other [] (p ++ k ∷ []) (Some thread) (λ q. None) (no_child p k)

  first_holding : Holding heap (slot_of x) (cargo_of x) x.view
  first_holding = record {
    keeper = keeper;
    views = λ w. subst (λ (ts : List Known). HasThreads heap keeper w ts) (sym (no_thread w)) (record { once = λ p. sym (no_worker w p); each = λ t m. absurd (contains_none t m) });
    slots = λ z. ⊎_elim
        (λ (e : z ≡ Cell 0). subst (λ (d : Slot). SlotHas heap keeper d (slot_of x d) (cargo_of x d)) (sym e)
        (subst (λ (o : Option Chain). SlotHas heap keeper (Cell 0) o (cargo_of x (Cell 0))) (sym root_there) (subst (λ (c : Cargo). SlotHas heap keeper (Cell 0) (Some root_chain) c) (sym root_with) root_has)))
        (λ (n : z ≢ Cell 0). subst (λ (o : Option Chain). SlotHas heap keeper z o (cargo_of x z)) (sym (no_other z n))
        (λ p e. by_keeper ⊥ p (InSlot z) e (λ is f. n cc) (λ f. slot_not_nobody z (sym f))))
        (same_slot z (Cell 0));
    held = λ p t e live none. by_keeper ⊥ p Nobody none (λ is f. slot_not_nobody (Cell 0) f)
        (λ f. let root = alone_thread thread p t e in slot_not_nobody (Cell 0) (sym holds ∙ (ap keeper (sym root.0) ∙ none)));
    numbered = record { orphan = λ p k e. child_free p k; free = λ p t k e l. child_free p k };
  }

pub first_threads : First
first_threads s limits workers = first_holding s limits workers
