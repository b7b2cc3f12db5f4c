-- A chain is taken from a slot or put into one (taken_kept, put_kept), and one in a slot becomes ready (readied_kept).
use Rattle.std.proofs.Common.{◌≡◌, ◌≢◌, inl, ⊎_elim, ℕ, Bool, true, false, ◌∷◌, ◌++◌, Option, Some, None, refl, sym, ap, ◌∙◌, subst}
use Rattle.std.specs.List.{Contains}
use Rattle.std.proofs.lemmas.List.Elements.{Contains-append_left, Contains-append_right, Contains-append_cases}
use Rattle.st_base.specs.declared.chain.Chain.{Chain}
use Rattle.st_base.specs.declared.thread.Held.{Held}
use Rattle.st_words.specs.declared.view.Slot.{Slot}
use Rattle.st_words.specs.declared.view.Slot.TheVariants.{Cell, Mail}
use Rattle.st_words.specs.declared.view.Cargo.{Cargo}
use Rattle.st_words.specs.declared.view.View.{View}
use Rattle.st_words.specs.Plain.{readied}
use Rattle.st_words.specs.Views.{Progress, with_progress, took, slot_put, without_chain}
use Rattle.st_words.specs.Careful.{MayCarry}
use Rattle.st_model.specs.declared.program.Program.{Program}
use Rattle.st_model.specs.Memory.{Data}
use Rattle.st_model.specs.Heap.{Heap}
use Rattle.st_made.specs.Runs.{known_of}
use Rattle.st_world.specs.Functions.{put}
use Rattle.st_world.specs.World.{World, slot_of, cargo_of, with_chain, seen, waking}
use Rattle.st_world.proofs.Functions.{put_here, put_other, put_all}
use Rattle.st_threads.proofs.Lists.{known_in, left_back}
use Rattle.st_names.specs.Naming.{SlotNames, Named}
use Rattle.st_names.proofs.Told.{PartsOf, child_cell, told_fewer, told_joined, cargo_tells}
use Rattle.st_named.proofs.Keeping.{kept, parts, parts_at, parts_same, heap_same}
use Rattle.st_named.proofs.Moves.{among}

-- two functions are put at one place
both_put : {X Y : Type 0} (P : X → Y → Type 0) (f : ℕ → X) (g : ℕ → Y) (i : ℕ) (x : X) (y : Y) → P x y → ((j : ℕ) → P (f j) (g j)) → (j : ℕ) → P (put f i x j) (put g i y j)
both_put {X} {Y} P f g i x y here others j = put_all (λ (k : ℕ) (a : X). P a (put g i y j)) f i x j
    (λ (e : j ≡ i). subst (λ (b : Y). P x b) (sym (ap (put g i y) e ∙ put_here g i y)) here)
    (λ (d : j ≢ i). subst (λ (b : Y). P (f j) b) (sym (put_other g i y j d)) (others j))

module _ (program : Program) (source : Data) (h : Heap) (x : World) (N : Named program source h x) (w : ℕ) where
  abbrev u : View
  u = x.view w

  P : PartsOf program source h N.name x.value u
  P = parts program source h x N w

  abbrev Names : Option Chain → Cargo → Type 0
  Names o k = SlotNames program source h N.name N.cell o k

  each_slot : (slot : Slot) (o : Option Chain) (k : Cargo) → Names o k → (z : Slot) → Names (slot_of (with_chain slot o k x) z) (cargo_of (with_chain slot o k x) z)
  each_slot (Cell c) o k s (Cell d) = both_put Names x.home x.home_cargo c o k s (λ j. N.slots (Cell j)) d
  each_slot (Cell c) o k s (Mail v) = N.slots (Mail v)
  each_slot (Mail v) o k s (Cell d) = N.slots (Cell d)
  each_slot (Mail v) o k s (Mail q) = both_put Names x.post x.post_cargo v o k s (λ j. N.slots (Mail j)) q

  slot_kept : (slot : Slot) (o : Option Chain) (k : Cargo) (v : View) → Names o k → child_cell v.child ≡ child_cell u.child → PartsOf program source h N.name x.value v → Named program source h (seen w v (with_chain slot o k x))
  slot_kept (Cell c) o k v s child view = kept program source h x N w h x.state x.value (slot_of (with_chain (Cell c) o k x)) (cargo_of (with_chain (Cell c) o k x)) v
      (record { heap = heap_same program source h x N w; empty = λ c e z. z; shows = λ c n e s. s; stays = λ c n p e f z. z; coming = λ c e. inl (child ∙ e); view = view; slots = each_slot (Cell c) o k s })
  slot_kept (Mail c) o k v s child view = kept program source h x N w h x.state x.value (slot_of (with_chain (Mail c) o k x)) (cargo_of (with_chain (Mail c) o k x)) v
      (record { heap = heap_same program source h x N w; empty = λ c e z. z; shows = λ c n e s. s; stays = λ c n p e f z. z; coming = λ c e. inl (child ∙ e); view = view; slots = each_slot (Mail c) o k s })

  -- ---- a chain is taken

  abbrev Takes : Slot → Option Chain → Cargo → Progress → Type 0
  Takes slot o k pr = (child_cell (took slot o k u).child ≡ child_cell u.child) × PartsOf program source h N.name x.value (with_progress pr (took slot o k u))

  taken_parts : (k : Cargo) (chain : Chain) (v : View) → Names (Some chain) k → v.names ≡ k.names ++ u.names → v.threads ≡ u.threads → known_of v.chains ≡ k.carried.known ∷ known_of u.chains → child_cell v.child ≡ child_cell u.child → v.valued ≡ u.valued → PartsOf program source h N.name x.value v
  taken_parts k chain v s names threads turn child valued = parts_at program source h N.name x.value v (k.names ++ u.names) u.threads (k.carried.known ∷ known_of u.chains) (child_cell u.child) u.valued names threads turn child valued (record {
    told = told_joined N.name k.names u.names k.carried.known u.threads (known_of u.chains) (cargo_tells program source h N.name N.cell k s) P.told;
    coming = P.coming;
    stored = P.stored;
  })

  takes : (slot : Slot) (o : Option Chain) (k : Cargo) (pr : Progress) → pr.threads ≡ u.threads → Names o k → Takes slot o k pr
  takes slot None k pr t s = (refl, parts_same program source h N.name x.value u (with_progress pr u) (refl, refl, refl, refl) t P)
  takes (Cell c) (Some chain) k pr t s = (refl, taken_parts k chain (with_progress pr (took (Cell c) (Some chain) k u)) s refl t refl refl refl)
  takes (Mail c) (Some chain) k pr t s = (refl, taken_parts k chain (with_progress pr (took (Mail c) (Some chain) k u)) s refl t refl refl refl)

  pub taken_kept : (slot : Slot) (o : Option Chain) (k k' : Cargo) (pr : Progress) → pr.threads ≡ u.threads → o ≡ slot_of x slot → k ≡ cargo_of x slot → Named program source h (seen w (with_progress pr (took slot o k u)) (with_chain slot None k' x))
  taken_kept slot o k k' pr t a b =
      let s : Names o k = subst (λ z. Names z k) (sym a) (subst (λ z. Names (slot_of x slot) z) (sym b) (N.slots slot)) in
      let y = takes slot o k pr t s in
      slot_kept slot None k' (with_progress pr (took slot o k u)) tt y.0 y.1

  -- ---- a chain is put

  put_parts : (c : ℕ) (v : View) → v.names ≡ u.names → v.threads ≡ u.threads → v.chains ≡ without_chain c u.chains → child_cell v.child ≡ child_cell u.child → v.valued ≡ u.valued → PartsOf program source h N.name x.value v
  put_parts c v names threads chains child valued =
      let left = known_of (without_chain c u.chains) in
      parts_at program source h N.name x.value v u.names u.threads left (child_cell u.child) u.valued names threads (ap known_of chains) child valued (record {
        told = told_fewer N.name u.names (u.threads ++ known_of u.chains) (u.threads ++ left) (among (u.threads ++ known_of u.chains) (u.threads ++ left) (λ t m. ⊎_elim
            (λ (a : Contains u.threads t). Contains-append_left u.threads (known_of u.chains) t a)
            (λ (b : Contains left t). Contains-append_right u.threads (known_of u.chains) t (left_back c u.chains t b)) (Contains-append_cases u.threads left t m))) P.told;
        coming = P.coming;
        stored = P.stored;
      })

  carried_names : (chain : Chain) (k : Cargo) → MayCarry u chain k → Names (Some chain) k
  carried_names chain k may = record {
    names = λ n c m. P.told.named n c (may.known n c m);
    note = (P.told.each k.carried.known (Contains-append_right u.threads (known_of u.chains) k.carried.known (known_in u.chains k.carried may.carried))).note;
    knows = may.names;
  }

  pub put_kept : (slot : Slot) (chain : Chain) (k : Cargo) (pr : Progress) → pr.threads ≡ u.threads → MayCarry u chain k → Named program source h (seen w (with_progress pr (slot_put slot chain k u)) (with_chain slot (Some chain) k x))
  put_kept (Cell c) chain k pr t may = slot_kept (Cell c) (Some chain) k (with_progress pr (slot_put (Cell c) chain k u)) (carried_names chain k may) refl (put_parts chain.cell (with_progress pr (slot_put (Cell c) chain k u)) refl t refl refl refl)
  put_kept (Mail c) chain k pr t may = slot_kept (Mail c) (Some chain) k (with_progress pr (slot_put (Mail c) chain k u)) (carried_names chain k may) refl (put_parts chain.cell (with_progress pr (slot_put (Mail c) chain k u)) refl t refl refl refl)

-- ---- a chain in a slot becomes ready

readied_names : (program : Program) (source : Data) (h : Heap) (name : ℕ → Option Held) (cell : Held → ℕ) (o : Option Chain) (k : Cargo) → SlotNames program source h name cell o k → SlotNames program source h name cell o (readied k)
readied_names program source h name cell None k s = tt
readied_names program source h name cell (Some chain) k s = record { names = s.names; note = s.note; knows = s.knows }

pub readied_kept : (program : Program) (source : Data) (h : Heap) (x : World) (b : Bool) (c w : ℕ) (v : View) → Named program source h (seen w v x) → Named program source h (seen w v (waking b c x))
readied_kept program source h x false c w v K = K
readied_kept program source h x true c w v K = record {
  name = K.name;
  cell = K.cell;
  cell_holds = K.cell_holds;
  below = K.below;
  threads = K.threads;
  counters = K.counters;
  counts = K.counts;
  children = K.children;
  views = K.views;
  slots = each;
}
  where
    each : (z : Slot) → SlotNames program source h K.name K.cell (slot_of (waking true c x) z) (cargo_of (waking true c x) z)
    each (Cell d) = put_all (λ (j : ℕ) (y : Cargo). SlotNames program source h K.name K.cell (x.home j) y) x.home_cargo c (readied (x.home_cargo c)) d
        (λ (e : d ≡ c). subst (λ j. SlotNames program source h K.name K.cell (x.home j) (readied (x.home_cargo c))) (sym e) (readied_names program source h K.name K.cell (x.home c) (x.home_cargo c) (K.slots (Cell c))))
        (λ (n : d ≢ c). K.slots (Cell d))
    each (Mail v) = K.slots (Mail v)
