-- The names of a thread after an item are among those before it, beside that of a child or a counter that it makes: own_knows, by one walk over the effects. ThreadKnows says of a
-- list of names that each name of a thread is there.
use Rattle.std.proofs.Common.{◌≡◌, ◌≢◌, inl, inr, ⊎_elim, ℕ, Bool, true, false, List, [], ◌∷◌, ◌++◌, Option, Some, None, refl, subst, arith}
use Rattle.std.specs.Prelude.{slice_index_or}
use Rattle.std.specs.List.{Contains}
use Rattle.st_base.specs.declared.thread.Held.{Held}
use Rattle.st_base.specs.declared.thread.Held.TheVariants.{Number, Future, Counter}
use Rattle.st_base.specs.declared.thread.Activation.{Activation}
use Rattle.st_base.specs.declared.line.Line.{Line}
use Rattle.st_base.specs.declared.thread.Standing.{Standing}
use Rattle.st_base.specs.declared.thread.Standing.TheVariants.{Going, Ended, Trapped, Full}
use Rattle.st_base.specs.declared.thread.Thread.{Thread}
use Rattle.st_base.specs.declared.reg.Reg.TheVariants.{A0, A6}
use Rattle.st_base.specs.Registers.{write_register}
use Rattle.st_words.specs.Names.{HasHeld, ThreadHas, IsName}
use Rattle.st_words.proofs.Lists.{contains_here, contains_later, contains_none, contains_case}
use Rattle.st_model.specs.declared.program.Program.{Program}
use Rattle.st_model.specs.declared.program.Item.{Item}
use Rattle.st_model.specs.declared.effect.Effect.{Effect}
use Rattle.st_model.specs.declared.effect.Effect.TheVariants.{Undefined, Goes, Calls, Returns, Ends, Traps, Prints, Forks, Touches, Counts, Adds, Joins}
use Rattle.st_model.specs.Memory.{Data}
use Rattle.st_model.specs.Effect.{item_effect}
use Rattle.st_model.specs.Ordinary.{item_at}
use Rattle.st_model.specs.Heap.{Path, Heap, Change, Move, Stays, Moves, Touch, Join, new_thread, move, move_standing, move_of, move_at, effect_move, printed_move, touch_move, add_move, join_move, Enabled}
use Rattle.st_laws.specs.Names.{IsKnown, IsKnownCell, AreKnown, KnowsNames, AllKnowNames}
use Rattle.st_laws.proofs.Naming.{known_write, EffectKnows, item_knows}

-- ---- the walk

module _ (F : Path → Type 0) (C : Path → ℕ → Type 0) where
  -- all names of a thread are among those of which F or C holds
  abbrev pub KnowsAll : Thread → Type 0
  KnowsAll t = AreKnown F C t.registers × AllKnowNames F C t.activations

  abbrev pub ChildKnows : Option Thread → Type 0
  ChildKnows None = Prim.Unit
  ChildKnows (Some child) = KnowsAll child

  module _ (p : Path) (t : Thread) where
    -- where the names that the item makes are among them
    pub record ChangeKnows (c : Change) : Type 0 where
      pub all : (c.child ≢ None → F (p ++ t.forks ∷ [])) → (c.own.counters ≢ t.counters → C p t.counters) → KnowsAll c.own × ChildKnows c.child

    abbrev MoveKnows : Move → Type 0
    MoveKnows Stays = Prim.Unit
    MoveKnows (Moves c) = ChangeKnows c
    MoveKnows (Touch q f) = (v : ℕ) → ChangeKnows (f v)
    MoveKnows (Join q n least c) = ChangeKnows c

    alone : (next : Thread) (added : Option (Path × ℕ)) (printed : Option ℕ) → KnowsAll next → ChangeKnows record { own = next; child = None; added = added; printed = printed }
    alone next added printed k = record { all = λ made counter. (k, tt) }

    printed_knows : (root room : Bool) (byte : ℕ) (next : Thread) (line : Line) → KnowsAll t → KnowsAll next → MoveKnows (printed_move root room byte t next line)
    printed_knows true true byte next line k n = alone next None (Some byte) n
    printed_knows true false byte next line k n = alone (record t { standing = Full }) None None k
    printed_knows false room byte next line k n = alone _ None None k

    touch_knows : (name : Held) (next : Thread) (line : Line) → KnowsAll t → KnowsAll next → MoveKnows (touch_move name t next line)
    touch_knows (Number n) next line k x = alone _ None None k
    touch_knows (Future q) next line k x = λ v. alone (record next { registers = write_register next.registers A0 (Number v) }) None None (known_write F C next.registers A0 (Number v) x.0 tt, x.1)
    touch_knows (Counter q n) next line k x = alone _ None None k

    add_knows : (name : Held) (next : Thread) (line : Line) → KnowsAll t → KnowsAll next → MoveKnows (add_move name t next line)
    add_knows (Number n) next line k x = alone _ None None k
    add_knows (Future q) next line k x = alone _ None None k
    add_knows (Counter q n) next line k x = alone next (Some (q, n)) None x

    join_knows : (name : Held) (least : ℕ) (next : Thread) (line : Line) → KnowsAll t → KnowsAll next → MoveKnows (join_move name least t next line)
    join_knows (Number n) least next line k x = alone _ None None k
    join_knows (Future q) least next line k x = alone _ None None k
    join_knows (Counter q n) least next line k x = alone next None None x

    effect_knows : (older : List Activation) (line : Line) (effect : Effect) → KnowsAll t → AllKnowNames F C older → EffectKnows F C effect → MoveKnows (effect_move p t older line effect)
    effect_knows older line Undefined k o e = tt
    effect_knows older line (Goes top file) k o e = alone _ None None (e.1, (e.0, o))
    effect_knows older line (Calls top callee file) k o e = alone _ None None (e.2, (e.1, (e.0, o)))
    effect_knows older line (Returns file) k o e = alone _ None None (e, o)
    effect_knows older line (Ends v kept) k o e = alone _ None None k
    effect_knows older line (Traps kind) k o e = alone _ None None k
    effect_knows older line (Prints byte top file) k o e = printed_knows _ _ byte _ line k (e.1, (e.0, o))
    effect_knows older line (Forks top child handle passed file) k o e = record { all = λ made counter. ((known_write F C file handle (Future (p ++ t.forks ∷ [])) e.3 (made (some_is (new_thread child passed))), (e.0, o)), (e.2, (e.1, tt))) }
      where
        some_is : (u : Thread) → Some u ≢ None
        some_is u e = cc
    effect_knows older line (Touches name top file) k o e = touch_knows name _ line k (e.2, (e.1, o))
    effect_knows older line (Counts top file) k o e = record { all = λ made counter. ((known_write F C file A6 (Counter p t.counters) e.1 (counter (λ e. omega (arith, e))), (e.0, o)), tt) }
    effect_knows older line (Adds name top file) k o e = add_knows name _ line k (e.2, (e.1, o))
    effect_knows older line (Joins name least top file) k o e = join_knows name least _ line k (e.2, (e.1, o))

    at_knows : (program : Program) (source : Data) (top : Activation) (older : List Activation) (o : Option Item) → KnowsAll t → AllKnowNames F C (top ∷ older) → MoveKnows (move_at program source p t top older o)
    at_knows program source top older None k frames = tt
    at_knows program source top older (Some item) k frames = effect_knows older item.line (item_effect program source item.kind top t.registers) k frames.1 (item_knows F C program source item.kind top t.registers frames.0 k.0)

    of_knows : (program : Program) (source : Data) (activations : List Activation) → KnowsAll t → AllKnowNames F C activations → MoveKnows (move_of program source p t activations)
    of_knows program source [] k frames = tt
    of_knows program source (top ∷ older) k frames = at_knows program source top older (item_at program top) k frames

    standing_knows : (program : Program) (source : Data) (s : Standing) → KnowsAll t → MoveKnows (move_standing program source p t s)
    standing_knows program source Going k = of_knows program source t.activations k k.1
    standing_knows program source (Ended v) k = tt
    standing_knows program source (Trapped kind line) k = tt
    standing_knows program source Full k = tt

    move_knows : (program : Program) (source : Data) → KnowsAll t → MoveKnows (move program source p t)
    unfolding move
    move_knows program source k = standing_knows program source t.standing k

    enabled_knows : (h : Heap) (m : Move) (c : Change) → MoveKnows m → Enabled h m c → ChangeKnows c
    enabled_knows h Stays c k e = absurd e
    enabled_knows h (Moves d) c k e = subst ChangeKnows e k
    enabled_knows h (Touch q f) c k e = subst ChangeKnows e.2 (k e.0)
    enabled_knows h (Join q n least d) c k e = subst ChangeKnows e.1 k

    pub all_known_after : (program : Program) (source : Data) (h : Heap) (c : Change) → KnowsAll t → Enabled h (move program source p t) c → ChangeKnows c
    all_known_after program source h c k e = enabled_knows h (move program source p t) c (move_knows program source k) e

-- ---- by a list of names

-- each name that the thread has stands there with a cell
abbrev pub ThreadKnows : List (Held × ℕ) → Thread → Type 0
ThreadKnows names t = (n : Held) → IsName n → ThreadHas t n → (c : ℕ) × Contains names (n, c)

module _ (names : List (Held × ℕ)) where
  abbrev F : Path → Type 0
  F q = (c : ℕ) × Contains names (Future q, c)

  abbrev C : Path → ℕ → Type 0
  C q k = (c : ℕ) × Contains names (Counter q k, c)

  is_there : (n : Held) → IsName n → IsKnown F C n → (c : ℕ) × Contains names (n, c)
  is_there (Number n) is k = absurd is
  is_there (Future q) is k = k
  is_there (Counter q i) is k = k

  known_is : (n : Held) → (IsName n → (c : ℕ) × Contains names (n, c)) → IsKnown F C n
  known_is (Number n) k = tt
  known_is (Future q) k = k tt
  known_is (Counter q i) k = k tt

  cell_is : (o : Option Held) → ((n : Held) → o ≡ Some n → IsName n → (c : ℕ) × Contains names (n, c)) → IsKnownCell F C o
  cell_is None k = tt
  cell_is (Some n) k = known_is n (k n refl)

  cells_are : (cells : List (Option Held)) → ((n : Held) → IsName n → HasHeld cells n → (c : ℕ) × Contains names (n, c)) → AreKnown F C cells
  cells_are cells k i = cell_is (slice_index_or cells i None) (λ n e is. k n is (i, e))

  in_cells : (cells : List (Option Held)) → AreKnown F C cells → (n : Held) → IsName n → HasHeld cells n → (c : ℕ) × Contains names (n, c)
  in_cells cells k n is has = is_there n is (subst (IsKnownCell F C) has.1 (k has.0))

  frames_are : (list : List Activation) → ((a : Activation) → Contains list a → KnowsNames F C a) → AllKnowNames F C list
  frames_are [] k = tt
  frames_are (a ∷ list) k = (k a (contains_here a list), frames_are list (λ b m. k b (contains_later b a list m)))

  in_frames : (list : List Activation) → AllKnowNames F C list → (a : Activation) → Contains list a → KnowsNames F C a
  in_frames [] k a m = absurd (contains_none a m)
  in_frames (b ∷ list) k a m = ⊎_elim (λ (e : b ≡ a). subst (KnowsNames F C) e k.0) (λ (n : Contains list a). in_frames list k.1 a n) (contains_case a b list m)

  pub all_of : (t : Thread) → ThreadKnows names t → KnowsAll F C t
  all_of t k = (
    cells_are t.registers (λ n is has. k n is (inl has)),
    frames_are t.activations (λ a m. (cells_are a.kept (λ n is has. k n is (inr (a, m, inr has))), cells_are a.handles (λ n is has. k n is (inr (a, m, inl has))))),
  )

  pub knows_of : (t : Thread) → KnowsAll F C t → ThreadKnows names t
  knows_of t k n is (inl has) = in_cells t.registers k.0 n is has
  knows_of t k n is (inr x) = let a = in_frames t.activations k.1 x.0 x.1 in ⊎_elim (λ (has : HasHeld x.0.handles n). in_cells x.0.handles a.1 n is has) (λ (has : HasHeld x.0.kept n). in_cells x.0.kept a.0 n is has) x.2

  -- the thread after an item, where the names that it makes are there
  pub own_knows : (program : Program) (source : Data) (h : Heap) (p : Path) (t : Thread) (c : Change) → ThreadKnows names t → Enabled h (move program source p t) c → (c.child ≢ None → (d : ℕ) × Contains names (Future (p ++ t.forks ∷ []), d)) → (c.own.counters ≢ t.counters → (d : ℕ) × Contains names (Counter p t.counters, d)) → ThreadKnows names c.own
  own_knows program source h p t c k e made counter = knows_of c.own ((all_known_after F C p t program source h c (all_of t k) e).all made counter).0

  child_of : (o : Option Thread) (u : Thread) → o ≡ Some u → ChildKnows F C o → KnowsAll F C u
  child_of o u e k = subst (ChildKnows F C) e k

  pub child_knows : (program : Program) (source : Data) (h : Heap) (p : Path) (t : Thread) (c : Change) (u : Thread) → c.child ≡ Some u → ThreadKnows names t → Enabled h (move program source p t) c → (d : ℕ) × Contains names (Future (p ++ t.forks ∷ []), d) → (c.own.counters ≢ t.counters → (d : ℕ) × Contains names (Counter p t.counters, d)) → ThreadKnows names u
  child_knows program source h p t c u is k e made counter = knows_of u (child_of c.child u is ((all_known_after F C p t program source h c (all_of t k) e).all (λ n. made) counter).1)
