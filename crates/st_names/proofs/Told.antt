-- What a view and a cargo tell of names, by their parts: Parts, with view_parts and parts_view, and Tells, which is of a list of names and of threads. Reach for told_fewer (fewer
-- threads), told_cons (one more), told_more (one name more), told_joined (a chain that comes into the turn), told_went (the thread after an item) and parts_on (what others do).
use Rattle.std.proofs.Common.{◌≡◌, ◌≢◌, inl, inr, ⊎_elim, ℕ, List, [], ◌∷◌, ◌++◌, Option, Some, None, refl, sym, ap, ◌∙◌, subst}
use Rattle.std.specs.List.{Contains}
use Rattle.std.proofs.lemmas.List.Elements.{Contains-append_left, Contains-append_right, Contains-append_cases}
use Rattle.st_base.specs.declared.thread.Held.{Held}
use Rattle.st_base.specs.declared.thread.Held.TheVariants.{Future, Counter}
use Rattle.st_base.specs.declared.thread.Thread.{Thread}
use Rattle.st_words.specs.declared.view.Known.{Known}
use Rattle.st_words.specs.declared.view.Carried.{Carried}
use Rattle.st_words.specs.declared.view.Cargo.{Cargo}
use Rattle.st_words.specs.declared.view.Child.{Child}
use Rattle.st_words.specs.declared.view.View.{View}
use Rattle.st_words.specs.Names.{ThreadHas}
use Rattle.st_words.specs.Careful.{TopIs}
use Rattle.st_words.proofs.Lists.{contains_here, contains_later, contains_none, contains_case}
use Rattle.st_model.specs.declared.program.Program.{Program}
use Rattle.st_model.specs.Memory.{Data}
use Rattle.st_model.specs.Heap.{Path, Heap, Change, Enabled}
use Rattle.st_made.specs.Items.{went, child_path, next_move, IsAtFork}
use Rattle.st_made.specs.Runs.{known_of}
use Rattle.st_threads.proofs.Lists.{known_case, known_in}
use Rattle.st_names.specs.Naming.{WillEnd, ViewNames, CargoNames}
use Rattle.st_names.proofs.Heaps.{Grows}
use Rattle.st_names.proofs.Known.{ThreadKnows, own_knows}

-- ---- threads and names

-- the cell of a thread is its own, and the names that it has are known
pub record IsTold (name : ℕ → Option Held) (names : List (Held × ℕ)) (t : Known) : Type 0 where
  pub note : name t.note.cell ≡ Some (Future t.path)
  pub knows : ThreadKnows names t.thread

pub record Tells (name : ℕ → Option Held) (names : List (Held × ℕ)) (ts : List Known) : Type 0 where
  pub named : (n : Held) (c : ℕ) → Contains names (n, c) → name c ≡ Some n
  pub each : (t : Known) → Contains ts t → IsTold name names t

-- the second threads are among the first, but for what is counted and begun of them
abbrev pub Covers : List Known → List Known → Type 0
Covers ts us = (t : Known) → Contains us t → (s : Known) × Contains ts s × (s.note.cell ≡ t.note.cell) × (s.path ≡ t.path) × (s.thread ≡ t.thread)

-- names stay
abbrev pub Extends : (ℕ → Option Held) → (ℕ → Option Held) → Type 0
Extends name name' = (c : ℕ) (n : Held) → name c ≡ Some n → name' c ≡ Some n

pub told_fewer : (name : ℕ → Option Held) (names : List (Held × ℕ)) (ts us : List Known) → Covers ts us → Tells name names ts → Tells name names us
told_fewer name names ts us covers told = record {
  named = told.named;
  each = λ t m. let x = covers t m in let a = told.each x.0 x.1 in record { note = ap name (sym x.2) ∙ (a.note ∙ ap (λ p. Some (Future p)) x.3); knows = subst (ThreadKnows names) x.4 a.knows };
}

pub told_cons : (name : ℕ → Option Held) (names : List (Held × ℕ)) (t : Known) (ts : List Known) → IsTold name names t → Tells name names ts → Tells name names (t ∷ ts)
told_cons name names t ts is told = record {
  named = told.named;
  each = λ s m. ⊎_elim (λ (e : t ≡ s). subst (IsTold name names) e is) (λ (n : Contains ts s). told.each s n) (contains_case s t ts m);
}

pub told_here : (name : ℕ → Option Held) (names : List (Held × ℕ)) (t : Known) (ts : List Known) → Tells name names (t ∷ ts) → IsTold name names t
told_here name names t ts told = told.each t (contains_here t ts)

pub told_rest : (name : ℕ → Option Held) (names : List (Held × ℕ)) (t : Known) (ts : List Known) → Tells name names (t ∷ ts) → Tells name names ts
told_rest name names t ts told = record { named = told.named; each = λ s m. told.each s (contains_later s t ts m) }

pub told_extends : (name name' : ℕ → Option Held) (names : List (Held × ℕ)) (ts : List Known) → Extends name name' → Tells name names ts → Tells name' names ts
told_extends name name' names ts extends told = record {
  named = λ n c m. extends c n (told.named n c m);
  each = λ t m. let a = told.each t m in record { note = extends t.note.cell (Future t.path) a.note; knows = a.knows };
}

more_knows : (names more : List (Held × ℕ)) (t : Thread) → ((n : Held) (c : ℕ) → Contains names (n, c) → Contains more (n, c)) → ThreadKnows names t → ThreadKnows more t
more_knows names more t within k n is has = let x = k n is has in (x.0, within n x.0 x.1)

pub told_more : (name : ℕ → Option Held) (names : List (Held × ℕ)) (ts : List Known) (n : Held) (c : ℕ) → name c ≡ Some n → Tells name names ts → Tells name ((n, c) ∷ names) ts
told_more name names ts n c is told = record {
  named = λ m d i. ⊎_elim (λ (e : (n, c) ≡ (m, d)). ap (λ (y : Held × ℕ). name y.1) (sym e) ∙ (is ∙ ap (λ (y : Held × ℕ). Some y.0) e)) (λ (k : Contains names (m, d)). told.named m d k) (contains_case (m, d) (n, c) names i);
  each = λ t i. let a = told.each t i in record { note = a.note; knows = more_knows names ((n, c) ∷ names) t.thread (λ m d k. contains_later (m, d) (n, c) names k) a.knows };
}

pub told_joined : (name : ℕ → Option Held) (ns names : List (Held × ℕ)) (k : Known) (threads turn : List Known) → Tells name ns (k ∷ []) → Tells name names (threads ++ turn) → Tells name (ns ++ names) (threads ++ k ∷ turn)
told_joined name ns names k threads turn new told =
    let old : (t : Known) → Contains (threads ++ turn) t → IsTold name (ns ++ names) t = λ t m. let a = told.each t m in record { note = a.note; knows = more_knows names (ns ++ names) t.thread (λ n c i. Contains-append_right ns names (n, c) i) a.knows } in
    let mine : IsTold name (ns ++ names) k = let a = new.each k (contains_here k []) in record { note = a.note; knows = more_knows ns (ns ++ names) k.thread (λ n c i. Contains-append_left ns names (n, c) i) a.knows } in
    record {
      named = λ n c i. ⊎_elim (λ (a : Contains ns (n, c)). new.named n c a) (λ (b : Contains names (n, c)). told.named n c b) (Contains-append_cases ns names (n, c) i);
      each = λ t m. ⊎_elim
          (λ (a : Contains threads t). old t (Contains-append_left threads turn t a))
          (λ (b : Contains (k ∷ turn) t). ⊎_elim (λ (e : k ≡ t). subst (IsTold name (ns ++ names)) e mine) (λ (d : Contains turn t). old t (Contains-append_right threads turn t d)) (contains_case t k turn b))
          (Contains-append_cases threads (k ∷ turn) t m);
    }

-- the top thread after an item, where the names that it makes are known
pub told_went : (program : Program) (source : Data) (h : Heap) (name : ℕ → Option Held) (names : List (Held × ℕ)) (top : Known) (c : Change) → Enabled h (next_move program source top) c → (c.child ≢ None → (d : ℕ) × Contains names (Future (child_path top), d)) → (c.own.counters ≢ top.thread.counters → (d : ℕ) × Contains names (Counter top.path top.thread.counters, d)) → IsTold name names top → IsTold name names (went top c.own)
told_went program source h name names top c enabled made counter is = record { note = is.note; knows = own_knows names program source h top.path top.thread c is.knows enabled made counter }

-- ---- the next child, and what was stored

abbrev pub child_cell : Option Child → Option ℕ
child_cell None = None
child_cell (Some x) = Some x.cell

abbrev pub ChildIs : Program → Data → (ℕ → Option Held) → Option ℕ → List Known → Type 0
ChildIs program source name o ts = (c : ℕ) → o ≡ Some c → TopIs ts (λ t. (name c ≡ Some (Future (child_path t))) × IsAtFork program source t)

abbrev pub HasStored : Program → Data → Heap → (ℕ → Option Held) → (ℕ → ℕ) → List (ℕ × ℕ) → Type 0
HasStored program source h name value valued = (c n : ℕ) → Contains valued (c, n) → (p : Path) × (name c ≡ Some (Future p)) × WillEnd program source h p n × (value c ≡ n)

pub top_map : (ts : List Known) (P Q : Known → Type 0) → ((t : Known) → P t → Q t) → TopIs ts P → TopIs ts Q
top_map [] P Q f top = top
top_map (t ∷ ts) P Q f top = f t top

child_to : (program : Program) (source : Data) (name : ℕ → Option Held) (o : Option Child) (ts : List Known) → ((x : Child) → o ≡ Some x → TopIs ts (λ t. (name x.cell ≡ Some (Future (child_path t))) × IsAtFork program source t)) → ChildIs program source name (child_cell o) ts
child_to program source name None ts f c e = let no : ⊥ = cc in absurd no
child_to program source name (Some x) ts f c e = let s : x.cell ≡ c = cc in subst (λ d. TopIs ts (λ t. (name d ≡ Some (Future (child_path t))) × IsAtFork program source t)) s (f x refl)

pub child_of : (o : Option Child) (c : ℕ) → child_cell o ≡ Some c → (x : Child) × (o ≡ Some x) × (x.cell ≡ c)
child_of None c e = let no : ⊥ = cc in absurd no
child_of (Some x) c e = (x, refl, cc)

-- ---- views

pub record Parts (program : Program) (source : Data) (h : Heap) (name : ℕ → Option Held) (value : ℕ → ℕ) (names : List (Held × ℕ)) (threads turn : List Known) (child : Option ℕ) (valued : List (ℕ × ℕ)) : Type 0 where
  pub told : Tells name names (threads ++ turn)
  pub coming : ChildIs program source name child threads
  pub stored : HasStored program source h name value valued

abbrev pub PartsOf : Program → Data → Heap → (ℕ → Option Held) → (ℕ → ℕ) → View → Type 0
PartsOf program source h name value v = Parts program source h name value v.names v.threads (known_of v.chains) (child_cell v.child) v.valued

module _ (program : Program) (source : Data) (h : Heap) (name : ℕ → Option Held) (cell : Held → ℕ) (value : ℕ → ℕ) (v : View) where
  pub view_parts : ViewNames program source h name cell value v → PartsOf program source h name value v
  view_parts V = record {
    told = record {
      named = V.names;
      each = λ t m. record {
        note = V.notes t m;
        knows = λ n is has. ⊎_elim (λ (a : Contains v.threads t). V.knows n is (inl (t, a, has)))
            (λ (b : Contains (known_of v.chains) t). let x = known_case v.chains t b in V.knows n is (inr (x.0, x.1, subst (λ (k : Known). ThreadHas k.thread n) (sym x.2) has))) (Contains-append_cases v.threads (known_of v.chains) t m);
      };
    };
    coming = child_to program source name v.child v.threads V.child;
    stored = V.stored;
  }

  pub parts_view : PartsOf program source h name value v → ViewNames program source h name cell value v
  parts_view P = record {
    names = P.told.named;
    notes = λ t m. (P.told.each t m).note;
    child = λ x e. P.coming x.cell (ap child_cell e);
    knows = λ n is has. ⊎_elim
        (λ (a : (t : Known) × Contains v.threads t × ThreadHas t.thread n). (P.told.each a.0 (Contains-append_left v.threads (known_of v.chains) a.0 a.1)).knows n is a.2)
        (λ (b : (x : Carried) × Contains v.chains x × ThreadHas x.known.thread n). (P.told.each b.0.known (Contains-append_right v.threads (known_of v.chains) b.0.known (known_in v.chains b.0 b.1))).knows n is b.2) has;
    stored = P.stored;
  }

-- what others do leaves a view as it is
pub parts_on : (program : Program) (source : Data) (h h' : Heap) (name name' : ℕ → Option Held) (value value' : ℕ → ℕ) (v : View) → Extends name name' → Grows program source h h' → ((c n : ℕ) (p : Path) → name c ≡ Some (Future p) → WillEnd program source h p n → value c ≡ n → value' c ≡ n) → PartsOf program source h name value v → PartsOf program source h' name' value' v
parts_on program source h h' name name' value value' v extends grows stays P = record {
  told = told_extends name name' v.names (v.threads ++ known_of v.chains) extends P.told;
  coming = λ c e. top_map v.threads _ _ (λ t a. (extends c (Future (child_path t)) a.0, a.1)) (P.coming c e);
  stored = λ c n m. let a = P.stored c n m in (a.0, extends c (Future a.0) a.1, grows.will a.0 n a.2, stays c n a.0 a.1 a.2 a.3);
}

-- ---- cargoes

module _ (program : Program) (source : Data) (h : Heap) (name : ℕ → Option Held) (cell : Held → ℕ) (cargo : Cargo) where
  pub cargo_tells : CargoNames program source h name cell cargo → Tells name cargo.names (cargo.carried.known ∷ [])
  cargo_tells k = record { named = k.names; each = λ t m. ⊎_elim (λ (e : cargo.carried.known ≡ t). subst (IsTold name cargo.names) e (record { note = k.note; knows = k.knows })) (λ (n : Contains [] t). absurd (contains_none t n)) (contains_case t cargo.carried.known [] m) }
