-- A board that is opened for the root's thread has the root's cell named, and no other: first_names.
use Rattle.std.proofs.Common.{◌≡◌, ◌≢◌, inl, ⊎_elim, ℕ, suc, ◌/◌, ◌<◌, ◌≤◌, [], length, replicate, Option, Some, None, refl, sym, ap, ◌∙◌, subst, arith, slice_set}
use Rattle.std.specs.Prelude.{slice_get}
use Rattle.std.proofs.lemmas.List.{get_or_past}
use Rattle.std.proofs.Math.Decide.{dec_le}
use mathlib.Core.Logic.{dite}
use native.Mathlib.Decide.{ℕ_discrete}
use Rattle.st_base.specs.declared.limits.Limits.{Limits}
use Rattle.st_base.specs.declared.thread.Held.{Held}
use Rattle.st_base.specs.declared.thread.Held.TheVariants.{Number, Future}
use Rattle.st_base.specs.declared.thread.Standing.TheVariants.{Ended}
use Rattle.st_base.specs.declared.thread.Thread.{Thread}
use Rattle.st_base.specs.declared.registers.Pick.TheVariants.{Arguments}
use Rattle.st_base.specs.declared.reg.Reg.TheVariants.{A0}
use Rattle.st_base.specs.Registers.{zeroed, write_register}
use Rattle.st_words.specs.declared.view.Slot.{Slot}
use Rattle.st_words.specs.declared.view.Slot.TheVariants.{Cell, Mail}
use Rattle.st_words.specs.declared.view.View.{View}
use Rattle.st_words.specs.Views.{no_cargo}
use Rattle.st_words.specs.Plain.{view_at, no_view, first_view, first_views, first_words, first_cargoes, root_cargo, root_chain}
use Rattle.st_words.proofs.Lists.{contains_none}
use Rattle.st_words.proofs.Opening.{first_view_at, first_views_count, first_sizes}
use Rattle.st_model.specs.declared.program.Program.{Program}
use Rattle.st_model.specs.declared.program.ProgramFunction.{ProgramFunction}
use Rattle.st_model.specs.declared.ordinary.State.{State}
use Rattle.st_model.specs.Memory.{Data}
use Rattle.st_model.specs.Ordinary.{start, started}
use Rattle.st_model.specs.Heap.{Path, Heap, new_thread, first_heap}
use Rattle.st_laws.specs.Names.{IsThread}
use Rattle.st_laws.proofs.First.{alone_thread}
use Rattle.st_laws.proofs.HeapSteps.{put_same}
use Rattle.st_laws.proofs.Naming.{known_write, known_picked, known_replicate}
use Rattle.st_laws.proofs.NamesHold.{known_zeroed}
use Rattle.st_world.specs.Functions.{put}
use Rattle.st_world.specs.OfPlain.{reading, reading_slot, reading_cargo, world_of}
use Rattle.st_world.specs.World.{slot_of, cargo_of}
use Rattle.st_world.proofs.Functions.{put_case, put_all}
use Rattle.st_world.proofs.Opened.{alike, led_first, led_other}
use Rattle.st_names.specs.Naming.{CellHolds, ViewNames, SlotNames, Named}
use Rattle.st_names.specs.Laws.{First}
use Rattle.st_names.proofs.Known.{KnowsAll, ThreadKnows, knows_of}
use Rattle.st_names.proofs.Told.{Parts, parts_view}

-- ---- lists

-- ---- the root's thread has no names

abbrev FirstKnows : (Path → Type 0) → (Path → ℕ → Type 0) → Option State → Type 0
FirstKnows F C None = Prim.Unit
FirstKnows F C (Some s) = KnowsAll F C (new_thread s.top s.registers)

first_knows : (F : Path → Type 0) (C : Path → ℕ → Type 0) (program : Program) (input : ℕ) (o : Option ProgramFunction) → FirstKnows F C (started program input o)
first_knows F C program input None = tt
first_knows F C program input (Some function) = (known_picked F C (Arguments function.ints 0) (write_register zeroed A0 (Number input)) (known_write F C zeroed A0 (Number input) (known_zeroed F C) tt), ((known_zeroed F C, known_replicate F C function.slots), tt))

none_known : (program : Program) (source : Data) (s : State) → start program source ≡ Some s → ThreadKnows [] (new_thread s.top s.registers)
none_known program source s e = knows_of [] (new_thread s.top s.registers) (subst (FirstKnows _ _) e (first_knows _ _ program (length source.input) (slice_get program.functions program.main)))

-- ---- the board

module _ (program : Program) (source : Data) (s : State) (limits : Limits) (workers : ℕ) (is : start program source ≡ Some s) where
  abbrev root : Thread
  root = new_thread s.top s.registers

  abbrev h : Heap
  h = first_heap s

  abbrev name : ℕ → Option Held
  name = put (λ c. None) 0 (Some (Future []))

  abbrev cell : Held → ℕ
  cell n = 0

  some_cells : 0 < limits.cells
  some_cells = let l = limits.cells_least in omega (arith, l)

  root_first : (n : Held) (c : ℕ) → name c ≡ Some n → (c ≡ 0) × (Future [] ≡ n)
  root_first n c e = ⊎_elim (λ (m : (c ≡ 0) × (Some (Future []) ≡ Some n)). let f = m.1 in (m.0, cc)) (λ (m : (c ≢ 0) × (None ≡ Some n)). let f = m.1 in let no : ⊥ = cc in absurd no) (put_case (λ (d : ℕ). None) 0 (Some (Future [])) c (Some n) e)

  abbrev words : ℕ → ℕ → ℕ → ℕ → Option Held → Type 0
  words c owner state value o = CellHolds program source h name cell c owner state value o

  holds : (c : ℕ) → words c (reading (first_words limits workers).owners c) (reading (first_words limits workers).states c) (reading (first_words limits workers).values c) (name c)
  unfolding first_words
  holds c =
      let none : reading (replicate limits.cells 0) c ≡ 0 = alike limits.cells c 0 in
      put_all (λ (k : ℕ) (o : Option Held). words k (reading (first_words limits workers).owners k) (reading (first_words limits workers).states k) (reading (first_words limits workers).values k) o) (λ (d : ℕ). None) 0 (Some (Future [])) c
      (λ (e : c ≡ 0). record {
        owner_word = inl (refl, ap (reading (slice_set (replicate limits.cells 0) 0 1)) e ∙ led_first limits.cells 0 1 some_cells);
        one = sym e;
        shows = record {
          full = λ f. let no : ⊥ = omega (arith, f, none) in absurd no;
          ended = λ n f. let t = (alone_thread root [] f.0 f.1).1 in let going : root.standing ≡ Ended n = ap (λ (u : Thread). u.standing) (sym t) ∙ f.2 in let no : ⊥ = cc in absurd no;
        };
      })
      (λ (d : c ≢ 0). (led_other limits.cells c 0 1 d, none))

  view_all : (P : View → Type 0) (w : ℕ) → P (first_view limits workers w) → P no_view → P (view_at (first_views limits workers) w)
  view_all P w a b = dite (dec_le (suc w) workers)
      (λ (l : suc w ≤ workers). subst P (sym (first_view_at limits workers w l)) a)
      (λ (o : suc w ≤ workers → ⊥). let count : length (first_views limits workers) ≡ workers = first_views_count limits workers (first_views limits workers) refl in subst P (sym (get_or_past (first_views limits workers) w no_view (omega arith))) b)

  nothing : (value : ℕ → ℕ) → Parts program source h name value [] [] [] None []
  nothing value = record {
    told = record { named = λ n c m. absurd (contains_none (n, c) m); each = λ t m. absurd (contains_none t m) };
    coming = λ d e. let no : ⊥ = cc in absurd no;
    stored = λ c n m. absurd (contains_none (c, n) m);
  }

  first_views_named : (value : ℕ → ℕ) (w : ℕ) → ViewNames program source h name cell value (view_at (first_views limits workers) w)
  first_views_named value w = view_all (ViewNames program source h name cell value) w (parts_view program source h name cell value (first_view limits workers w) (nothing value)) (parts_view program source h name cell value no_view (nothing value))

  home_named : (c : ℕ) → SlotNames program source h name cell (reading_slot (first_words limits workers).cell_slots c) (reading_cargo (first_cargoes limits workers root).cells c)
  unfolding first_words first_cargoes
  home_named c = dite (ℕ_discrete c 0)
      (λ (e : c ≡ 0).
      subst (λ d. SlotNames program source h name cell (reading_slot (first_words limits workers).cell_slots d) (reading_cargo (first_cargoes limits workers root).cells d)) (sym e)
      (subst (λ o. SlotNames program source h name cell o (reading_cargo (first_cargoes limits workers root).cells 0)) (sym (led_first limits.cells None (Some root_chain) some_cells))
      (subst (λ k. SlotNames program source h name cell (Some root_chain) k) (sym (led_first limits.cells no_cargo (root_cargo root) some_cells))
      (record { names = λ n c m. absurd (contains_none (n, c) m); note = refl; knows = none_known program source s is }))))
      (λ (d : c ≢ 0). subst (λ o. SlotNames program source h name cell o (reading_cargo (first_cargoes limits workers root).cells c)) (sym (led_other limits.cells c None (Some root_chain) d)) tt)

  post_named : (c : ℕ) → SlotNames program source h name cell (reading_slot (first_words limits workers).mail_slots c) (reading_cargo (first_cargoes limits workers root).mail c)
  unfolding first_words
  post_named c = subst (λ o. SlotNames program source h name cell o (reading_cargo (first_cargoes limits workers root).mail c)) (sym (alike workers c None)) tt

  first_slots : (z : Slot) → SlotNames program source h name cell (slot_of (world_of (limits.stack / 8) (first_words limits workers) (first_cargoes limits workers root) (first_views limits workers)) z) (cargo_of (world_of (limits.stack / 8) (first_words limits workers) (first_cargoes limits workers root) (first_views limits workers)) z)
  first_slots (Cell c) = home_named c
  first_slots (Mail v) = post_named v

  first_world : Named program source h (world_of (limits.stack / 8) (first_words limits workers) (first_cargoes limits workers root) (first_views limits workers))
  first_world = record {
    name = name;
    cell = cell;
    cell_holds = holds;
    below = λ c n e. let z = (root_first n c e).0 in let l = some_cells in let size = (first_sizes limits workers (first_words limits workers) refl).1 in omega (arith, z, l, size);
    threads = λ p t. ap (λ q. Some (Future q)) (sym (alone_thread root p t.0 t.1).0);
    counters = λ p k m. let e = ap (λ (u : Thread). u.counters) (alone_thread root p m.0 m.1.0).1 in let l = m.1.1 in let no : ⊥ = omega (arith, e, l) in absurd no;
    counts = λ p k d. absurd (d refl);
    children = λ c p e. let f = (root_first (Future p) c e).1 in let same : [] ≡ p = cc in inl (subst (IsThread h) same (root, put_same [] (Some root) (λ q. None)));
    views = first_views_named (reading (first_words limits workers).values);
    slots = first_slots;
  }

pub first_names : First
first_names program source s limits workers is = first_world program source s limits workers is
