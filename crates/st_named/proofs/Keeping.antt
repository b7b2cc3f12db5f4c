-- What is kept where no cell is named: kept, by what is so then (Next). heap_same and heap_goes: of the heap, by an item that makes no counter. Parts of a view: parts_same (nothing
-- that is read changes) and goes_view (the top thread after an item). calm and item_kept: no word is changed, with no item or one of the top thread.
use Rattle.std.proofs.Common.{◌≡◌, ◌≢◌, ◌⊎◌, inl, inr, ℕ, List, ◌∷◌, ◌++◌, Option, Some, None, refl, sym, ap, ◌∙◌, subst, arith}
use Rattle.std.specs.List.{Contains}
use mathlib.Core.Logic.{dite}
use native.Mathlib.Decide.{ℕ_discrete}
use Rattle.st_base.specs.declared.chain.Chain.{Chain}
use Rattle.st_base.specs.declared.thread.Held.{Held}
use Rattle.st_base.specs.declared.thread.Held.TheVariants.{Future, Counter}
use Rattle.st_words.specs.declared.view.Slot.{Slot}
use Rattle.st_words.specs.declared.view.Known.{Known}
use Rattle.st_words.specs.declared.view.Cargo.{Cargo}
use Rattle.st_words.specs.declared.view.Child.{Child}
use Rattle.st_words.specs.declared.view.View.{View}
use Rattle.st_words.specs.Careful.{TopIs}
use Rattle.st_words.proofs.Lists.{contains_here}
use Rattle.st_model.specs.declared.program.Program.{Program}
use Rattle.st_model.specs.Memory.{Data}
use Rattle.st_model.specs.Heap.{Path, Heap, Change, Enabled, IsNumbered}
use Rattle.st_laws.specs.Names.{IsThread, IsMade}
use Rattle.st_made.specs.Items.{IsLive, went, child_path, next_move, IsAtFork}
use Rattle.st_made.specs.Runs.{known_of}
use Rattle.st_world.specs.Functions.{put}
use Rattle.st_world.specs.World.{World, slot_of, cargo_of, seen}
use Rattle.st_world.proofs.Functions.{put_here, put_other, put_all}
use Rattle.st_threads.specs.Behind.{heap_on}
use Rattle.st_threads.specs.Holding.{IsOf, Threads}
use Rattle.st_names.specs.Naming.{ShowsName, WillEnd, CellHolds, ViewNames, SlotNames, Naming, Named}
use Rattle.st_names.proofs.Heaps.{Grows, grows_same, grows_after, enabled_is, threads_back, made_back, count_case, NameStays, stays_of, shows_on}
use Rattle.st_names.proofs.Told.{Tells, Extends, Parts, PartsOf, child_cell, child_of, told_cons, told_here, told_rest, told_went, parts_on, view_parts, parts_view}
use Rattle.st_named.proofs.ViewsAfter.{SameParts}

-- a chain in a slot has the same names
pub slot_on : (program : Program) (source : Data) (h h' : Heap) (name name' : ℕ → Option Held) (cell cell' : Held → ℕ) (o : Option Chain) (cargo : Cargo) → Extends name name' → SlotNames program source h name cell o cargo → SlotNames program source h' name' cell' o cargo
slot_on program source h h' name name' cell cell' None cargo extends k = tt
slot_on program source h h' name name' cell cell' (Some chain) cargo extends k = record {
  names = λ n c m. extends c n (k.names n c m);
  note = extends cargo.carried.known.note.cell (Future cargo.carried.known.path) k.note;
  knows = k.knows;
}

module _ (program : Program) (source : Data) (h : Heap) (x : World) (N : Named program source h x) (w : ℕ) where
  pub record HeapOn (h' : Heap) : Type 0 where
    pub grows : Grows program source h h'
    pub threads : (p : Path) → IsThread h' p → N.name (N.cell (Future p)) ≡ Some (Future p)
    pub counters : (p : Path) (k : ℕ) → IsMade h' p k → N.name (N.cell (Counter p k)) ≡ Some (Counter p k)
    pub counts : (p : Path) (k : ℕ) → h'.count p k ≢ 0 → IsMade h' p k

  pub record Next (h' : Heap) (state' value' : ℕ → ℕ) (slot' : Slot → Option Chain) (cargo' : Slot → Cargo) (v : View) : Type 0 where
    pub heap : HeapOn h'
    pub empty : (c : ℕ) → x.owner c ≡ 0 → x.state c ≡ 0 → state' c ≡ 0
    pub shows : (c : ℕ) (n : Held) → N.name c ≡ Some n → ShowsName h (x.state c) (x.value c) n → ShowsName h' (state' c) (value' c) n
    pub stays : (c n : ℕ) (p : Path) → N.name c ≡ Some (Future p) → WillEnd program source h p n → x.value c ≡ n → value' c ≡ n
    -- the child that was next is next still, or is there
    pub coming : (c : ℕ) → child_cell (x.view w).child ≡ Some c → (child_cell v.child ≡ Some c) ⊎ ((p : Path) → N.name c ≡ Some (Future p) → IsThread h' p)
    pub view : PartsOf program source h' N.name value' v
    pub slots : (z : Slot) → SlotNames program source h' N.name N.cell (slot' z) (cargo' z)

  -- each named cell of a thread that isn't there is of a next child still
  pub children_on : (h' : Heap) (v : View) → Grows program source h h' → ((c : ℕ) → child_cell (x.view w).child ≡ Some c → (child_cell v.child ≡ Some c) ⊎ ((p : Path) → N.name c ≡ Some (Future p) → IsThread h' p)) → (c : ℕ) (p : Path) → N.name c ≡ Some (Future p) → IsThread h' p ⊎ ((q : ℕ) × (y : Child) × ((put x.view w v q).child ≡ Some y) × (y.cell ≡ c))
  children_on h' v grows coming c p e = elim (N.children c p e) [
    | inl there ↦ inl (grows.there p there)
    | inr y ↦ dite (ℕ_discrete y.0 w)
        (λ (s : y.0 ≡ w). elim (coming y.1.cell (ap child_cell (subst (λ q. (x.view q).child ≡ Some y.1) s y.2))) [
          | inl still ↦ let z = child_of v.child y.1.cell still in inr (w, z.0, ap (λ (k : View). k.child) (put_here x.view w v) ∙ z.1, z.2 ∙ y.3)
          | inr there ↦ inl (there p (ap N.name y.3 ∙ e))
        ])
        (λ (d : y.0 ≢ w). inr (y.0, y.1, ap (λ (k : View). k.child) (put_other x.view w v y.0 d) ∙ y.2, y.3))
  ]

  module _ (h' : Heap) (state' value' : ℕ → ℕ) (slot' : Slot → Option Chain) (cargo' : Slot → Cargo) (v : View) (X : Next h' state' value' slot' cargo' v) where
    cell_kept : (c : ℕ) (o : Option Held) → N.name c ≡ o → CellHolds program source h N.name N.cell c (x.owner c) (x.state c) (x.value c) o → CellHolds program source h' N.name N.cell c (x.owner c) (state' c) (value' c) o
    cell_kept c None e k = (k.0, X.empty c k.0 k.1)
    cell_kept c (Some n) e k = record { owner_word = k.owner_word; one = k.one; shows = X.shows c n e k.shows }

    pub kept : Naming program source h' x.cells x.owner state' value' slot' cargo' (put x.view w v)
    kept = record {
      name = N.name;
      cell = N.cell;
      cell_holds = λ c. cell_kept c (N.name c) refl (N.cell_holds c);
      below = N.below;
      threads = X.heap.threads;
      counters = X.heap.counters;
      counts = X.heap.counts;
      children = λ c p e. children_on h' v X.heap.grows X.coming c p e;
      views = λ q. put_all (λ (k : ℕ) (y : View). ViewNames program source h' N.name N.cell value' y) x.view w v q
          (λ e. parts_view program source h' N.name N.cell value' v X.view)
          (λ d. parts_view program source h' N.name N.cell value' (x.view q) (parts_on program source h h' N.name N.name x.value value' (x.view q) (λ c n e. e) X.heap.grows X.stays (view_parts program source h N.name N.cell x.value (x.view q) (N.views q))));
      slots = X.slots;
    }

  pub slots_same : (h' : Heap) (z : Slot) → SlotNames program source h' N.name N.cell (slot_of x z) (cargo_of x z)
  slots_same h' z = slot_on program source h h' N.name N.name N.cell N.cell (slot_of x z) (cargo_of x z) (λ c n e. e) (N.slots z)

  pub parts : PartsOf program source h N.name x.value (x.view w)
  parts = view_parts program source h N.name N.cell x.value (x.view w) (N.views w)

  pub heap_same : HeapOn h
  heap_same = record { grows = grows_same program source h; threads = N.threads; counters = N.counters; counts = N.counts }

  -- no word and no slot is changed
  pub calm : (h' : Heap) (v : View) → HeapOn h' → ((n : Held) → NameStays h h' n) → ((c : ℕ) → child_cell (x.view w).child ≡ Some c → (child_cell v.child ≡ Some c) ⊎ ((p : Path) → N.name c ≡ Some (Future p) → IsThread h' p)) → PartsOf program source h' N.name x.value v → Named program source h' (seen w v x)
  calm h' v on stays coming view = kept h' x.state x.value (slot_of x) (cargo_of x) v (record {
    heap = on;
    empty = λ c e z. z;
    shows = λ c n e k. shows_on program source h h' (x.state c) (x.value c) n on.grows (stays n) k;
    stays = λ c n p e k z. z;
    coming = coming;
    view = view;
    slots = slots_same h';
  })

  -- an item that makes no counter; a child's cell is named, and a counter that is added to is there
  pub heap_goes : (top : Known) (c : Change) → IsNumbered h → h.thread top.path ≡ Some top.thread → Enabled h (next_move program source top) c → (c.child ≢ None → N.name (N.cell (Future (child_path top))) ≡ Some (Future (child_path top))) → c.own.counters ≡ top.thread.counters → ((q : Path) (i : ℕ) → c.added ≡ Some (q, i) → IsMade h q i) → HeapOn (heap_on h top c)
  heap_goes top c numbered here enabled child same adds =
      let grows = grows_after program source h top.path top.thread c numbered here enabled in
      record {
        grows = grows;
        threads = λ p there. elim (threads_back program source h top.path top.thread c here enabled p there) [
          | inl old ↦ N.threads p old
          | inr new ↦ subst (λ q. N.name (N.cell (Future q)) ≡ Some (Future q)) (sym new.0) (child new.1)
        ];
        counters = λ p k m. elim (made_back program source h top.path top.thread c here enabled p k m) [
          | inl old ↦ N.counters p k old
          | inr new ↦ let a = new.1 in let b = new.2 in let no : ⊥ = omega (arith, a, b, same) in absurd no
        ];
        counts = λ p k ne. elim (count_case c.added h.count p k) [
          | inl e ↦ grows.made p k (adds p k e)
          | inr e ↦ grows.made p k (N.counts p k (λ z. ne (e ∙ z)))
        ];
      }

-- the top thread is in the heap
pub top_of : (h : Heap) (x : World) (w : ℕ) (top : Known) (below : List Known) → Threads h x → (x.view w).threads ≡ top ∷ below → IsOf h top
top_of h x w top below T is = (T.views w).each top (subst (λ l. Contains (l ++ known_of (x.view w).chains) top) (sym is) (contains_here top (below ++ known_of (x.view w).chains)))

-- ---- the view that changes

-- the parts of a view, by equal ones
pub parts_at : (program : Program) (source : Data) (h : Heap) (name : ℕ → Option Held) (value : ℕ → ℕ) (v : View) (names : List (Held × ℕ)) (threads turn : List Known) (child : Option ℕ) (valued : List (ℕ × ℕ)) → v.names ≡ names → v.threads ≡ threads → known_of v.chains ≡ turn → child_cell v.child ≡ child → v.valued ≡ valued → Parts program source h name value names threads turn child valued → PartsOf program source h name value v
parts_at program source h name value v names threads turn child valued a b c d e P =
    subst (λ z. Parts program source h name value v.names v.threads (known_of v.chains) (child_cell v.child) z) (sym e)
    (subst (λ z. Parts program source h name value v.names v.threads (known_of v.chains) z valued) (sym d)
    (subst (λ z. Parts program source h name value v.names v.threads z child valued) (sym c)
    (subst (λ z. Parts program source h name value v.names z turn child valued) (sym b)
    (subst (λ z. Parts program source h name value z threads turn child valued) (sym a) P))))

pub parts_same : (program : Program) (source : Data) (h : Heap) (name : ℕ → Option Held) (value : ℕ → ℕ) (u v : View) → SameParts u v → v.threads ≡ u.threads → PartsOf program source h name value u → PartsOf program source h name value v
parts_same program source h name value u v s t P = parts_at program source h name value v u.names u.threads (known_of u.chains) (child_cell u.child) u.valued s.0 t s.1 s.2 s.3 P

-- the top thread in front of the others
pub told_top : (program : Program) (source : Data) (h : Heap) (name : ℕ → Option Held) (value : ℕ → ℕ) (u : View) (top : Known) (below : List Known) → u.threads ≡ top ∷ below → PartsOf program source h name value u → Tells name u.names (top ∷ (below ++ known_of u.chains))
told_top program source h name value u top below is P = subst (λ l. Tells name u.names (l ++ known_of u.chains)) is P.told

-- who makes an item without a child has no next child
pub none_coming : (program : Program) (source : Data) (h : Heap) (name : ℕ → Option Held) (value : ℕ → ℕ) (u : View) (top : Known) (below : List Known) (c : Change) → u.threads ≡ top ∷ below → Enabled h (next_move program source top) c → c.child ≡ None → PartsOf program source h name value u → (d : ℕ) → child_cell u.child ≡ Some d → ⊥
none_coming program source h name value u top below c is enabled none P d e =
    let fork : IsAtFork program source top = (subst (λ l. TopIs l (λ t. (name d ≡ Some (Future (child_path t))) × IsAtFork program source t)) is (P.coming d e)).1 in
    fork.2 (ap (λ (y : Change). y.child) (sym (enabled_is h (next_move program source top) c fork.0 fork.1 enabled)) ∙ none)

-- the top thread after an item that makes no child and no counter
pub goes_view : (program : Program) (source : Data) (h h' : Heap) (name : ℕ → Option Held) (value : ℕ → ℕ) (u v : View) (top : Known) (below : List Known) (c : Change) → u.threads ≡ top ∷ below → v.threads ≡ went top c.own ∷ below → SameParts u v → Enabled h (next_move program source top) c → c.child ≡ None → c.own.counters ≡ top.thread.counters → Grows program source h h' → PartsOf program source h name value u → PartsOf program source h' name value v
goes_view program source h h' name value u v top below c is then' same enabled none counters grows P =
    let turn = known_of u.chains in
    let told = told_top program source h name value u top below is P in
    let on = parts_on program source h h' name name value value u (λ c n e. e) grows (λ c n p e w z. z) P in
    parts_at program source h' name value v u.names (went top c.own ∷ below) turn (child_cell u.child) u.valued same.0 then' same.1 same.2 same.3 (record {
      told = told_cons name u.names (went top c.own) (below ++ turn)
          (told_went program source h name u.names top c enabled (λ some. absurd (some none)) (λ other. absurd (other counters)) (told_here name u.names top (below ++ turn) told))
          (told_rest name u.names top (below ++ turn) told);
      coming = λ d e. absurd (none_coming program source h name value u top below c is enabled none P d e);
      stored = on.stored;
    })

-- an item that changes no word: it makes nothing, adds to nothing and doesn't end the thread
pub item_kept : (program : Program) (source : Data) (h : Heap) (x : World) (N : Named program source h x) (w : ℕ) → Threads h x → (v : View) (top : Known) (below : List Known) (c : Change) → (x.view w).threads ≡ top ∷ below → v.threads ≡ went top c.own ∷ below → SameParts (x.view w) v → Enabled h (next_move program source top) c → c.child ≡ None → c.added ≡ None → c.own.counters ≡ top.thread.counters → IsLive c.own.standing → Named program source (heap_on h top c) (seen w v x)
item_kept program source h x N w T v top below c is threads same enabled child added counters live =
    let here = (top_of h x w top below T is).there in
    let none : (q : Path) (i : ℕ) → c.added ≡ Some (q, i) → ⊥ = λ q i e. let no : ⊥ = cc in no in
    let on = heap_goes program source h x N w top c T.numbered here enabled (λ some. absurd (some child)) counters (λ q i e. absurd (none q i e)) in
    calm program source h x N w (heap_on h top c) v on (λ n. stays_of program source h top.path top.thread c n here enabled (inl live) (λ q i e. absurd (none q i e))) (λ d e. inl (same.2 ∙ e))
    (goes_view program source h (heap_on h top c) N.name x.value (x.view w) v top below c is threads same enabled child counters on.grows (parts program source h x N w))
