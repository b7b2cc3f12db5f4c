-- In each reached heap the names that threads hold are of threads and counters that are there: names_are_there.
use Rattle.std.proofs.Common.{◌≡◌, ◌≢◌, ℕ, ◌+◌, ◌<◌, Bool, true, false, cond, List, [], ◌∷◌, ◌++◌, length, Option, Some, None, refl, sym, ap, ◌∙◌, subst, arith, ◌⊎◌, inl, inr, ◌==◌}
use Rattle.std.specs.Prelude.{slice_get, ◌&&◌}
use Rattle.std.specs.Str.{bytes_eq}
use Rattle.st_base.specs.declared.thread.Held.{Held}
use Rattle.st_base.specs.declared.thread.Held.TheVariants.{Number, Future, Counter}
use Rattle.st_base.specs.declared.thread.Activation.{Activation}
use Rattle.st_base.specs.declared.line.Line.{Line}
use Rattle.st_base.specs.declared.thread.ActivationKind.TheVariants.{Root}
use Rattle.st_base.specs.declared.thread.Standing.{Standing}
use Rattle.st_base.specs.declared.thread.Standing.TheVariants.{Going, Ended, Trapped, Full}
use Rattle.st_base.specs.declared.thread.Thread.{Thread}
use Rattle.st_base.specs.declared.reg.Reg.TheVariants.{A0, A6, Zero}
use Rattle.st_base.specs.declared.registers.Pick.TheVariants.{Arguments}
use Rattle.st_base.specs.Registers.{zeroed, write_register, picked}
use Rattle.st_model.specs.declared.program.Program.{Program}
use Rattle.st_model.specs.declared.program.ProgramFunction.{ProgramFunction}
use Rattle.st_model.specs.declared.program.Item.{Item}
use Rattle.st_model.specs.declared.effect.Effect.{Effect}
use Rattle.st_model.specs.declared.effect.Effect.TheVariants.{Undefined, Goes, Calls, Returns, Ends, Traps, Prints, Forks, Touches, Counts, Adds, Joins}
use Rattle.st_model.specs.declared.ordinary.State.{State}
use Rattle.st_model.specs.Effect.{item_effect, entered}
use Rattle.st_model.specs.Ordinary.{item_at, started, counted}
use Rattle.st_model.specs.Heap.{Path, Heap, Change, Move, Stays, Moves, Touch, Join, move, move_standing, move_of, move_at, effect_move, printed_move, touch_move, add_move, join_move, Enabled, put, put_child, count_up, after, HStep, Run, IsNumbered, first_heap}
use Rattle.st_laws.specs.Sequential.{thread_of}
use Rattle.st_laws.specs.Names.{IsKnown, AreKnown, KnowsNames, AllKnowNames, IsThread, IsMade, NamesStand, NamesAreThere}
use Rattle.st_laws.proofs.HeapSteps.{put_same, put_other, decide}
use Rattle.st_laws.proofs.Numbering.{longer, numbered_after}
use Rattle.st_laws.proofs.First.{alone_thread}
use Rattle.st_laws.proofs.ItemChanges.{step_counters}
use Rattle.st_laws.proofs.HeapRuns.{other_stays}
use Rattle.st_laws.proofs.Later.{step_forks}
use Rattle.st_laws.proofs.Placing.{OfChild, each_after, same_counter}
use Rattle.st_laws.proofs.Naming.{known_write, known_picked, known_replicate, EffectKnows, item_knows}
use Rattle.st_laws.proofs.NamesHold.{more_cells, more_frames, known_zeroed}
use Rattle.st_laws.proofs.Quieting.{first_stands}
use Rattle.st_model.specs.Memory.{Data}

-- a child was made
abbrev IsThere : Option Thread → Type 0
IsThere None = ⊥
IsThere (Some child) = Unit {0}

abbrev Thread' : Heap → Path → Thread → Option Thread → Path → Type 0
Thread' h p t child q = IsThread h q ⊎ ((q ≡ p ++ t.forks ∷ []) × IsThere child)

abbrev Made' : Heap → Path → ℕ → Path → ℕ → Type 0
Made' h p counters q n = IsMade h q n ⊎ ((q ≡ p) × (n < counters))

abbrev KnowsAll : (Path → Type 0) → (Path → ℕ → Type 0) → Thread → Type 0
KnowsAll F C t = AreKnown F C t.registers × AllKnowNames F C t.activations

more_all : (F G : Path → Type 0) (C D : Path → ℕ → Type 0) → ((p : Path) → F p → G p) → ((p : Path) (n : ℕ) → C p n → D p n) → (t : Thread) → KnowsAll F C t → KnowsAll G D t
more_all F G C D f c t k = (more_cells F G C D f c t.registers k.0, more_frames F G C D f c t.activations k.1)

abbrev ChildKnows : Heap → Option Thread → Type 0
ChildKnows h None = Unit {0}
ChildKnows h (Some child) = KnowsAll (IsThread h) (IsMade h) child

abbrev AddedKnown : Heap → Option (Path × ℕ) → Type 0
AddedKnown h None = Unit {0}
AddedKnown h (Some c) = IsMade h c.0 c.1

record ChangeKnows (h : Heap) (p : Path) (t : Thread) (c : Change) : Type 0 where
  own : KnowsAll (Thread' h p t c.child) (Made' h p c.own.counters) c.own
  child : ChildKnows h c.child
  added : AddedKnown h c.added

abbrev MoveKnows : Heap → Path → Thread → Move → Type 0
MoveKnows h p t Stays = Unit {0}
MoveKnows h p t (Moves c) = ChangeKnows h p t c
MoveKnows h p t (Touch q f) = (v : ℕ) → ChangeKnows h p t (f v)
MoveKnows h p t (Join q n least c) = ChangeKnows h p t c

module _ (h : Heap) (p : Path) (t : Thread) where
  alone_knows : (next : Thread) (added : Option (Path × ℕ)) (printed : Option ℕ) → KnowsAll (IsThread h) (IsMade h) next → AddedKnown h added → ChangeKnows h p t record { own = next; child = None; added = added; printed = printed }
  alone_knows next added printed k a =
      record {
        own = more_all (IsThread h) (Thread' h p t None) (IsMade h) (Made' h p next.counters) (λ q x. inl x) (λ q n x. inl x) next k;
        child = tt;
        added = a;
      }

  printed_knows : (root room : Bool) (byte : ℕ) (next : Thread) (line : Line) → KnowsAll (IsThread h) (IsMade h) t → KnowsAll (IsThread h) (IsMade h) next → MoveKnows h p t (printed_move root room byte t next line)
  printed_knows true true byte next line k n = alone_knows next None (Some byte) n tt
  printed_knows true false byte next line k n = alone_knows (record t { standing = Full }) None None k tt
  printed_knows false room byte next line k n = alone_knows _ None None k tt

  touch_knows : (name : Held) (next : Thread) (line : Line) → KnowsAll (IsThread h) (IsMade h) t → KnowsAll (IsThread h) (IsMade h) next → MoveKnows h p t (touch_move name t next line)
  touch_knows (Number n) next line k x = alone_knows _ None None k tt
  touch_knows (Future q) next line k x = λ v.
      alone_knows (record next { registers = write_register next.registers A0 (Number v) }) None None
      (known_write (IsThread h) (IsMade h) next.registers A0 (Number v) x.0 tt, x.1) tt
  touch_knows (Counter q n) next line k x = alone_knows _ None None k tt

  add_knows : (name : Held) (next : Thread) (line : Line) → IsKnown (IsThread h) (IsMade h) name → KnowsAll (IsThread h) (IsMade h) t → KnowsAll (IsThread h) (IsMade h) next → MoveKnows h p t (add_move name t next line)
  add_knows (Number n) next line known k x = alone_knows _ None None k tt
  add_knows (Future q) next line known k x = alone_knows _ None None k tt
  add_knows (Counter q n) next line known k x = alone_knows next (Some (q, n)) None x known

  join_knows : (name : Held) (least : ℕ) (next : Thread) (line : Line) → KnowsAll (IsThread h) (IsMade h) t → KnowsAll (IsThread h) (IsMade h) next → MoveKnows h p t (join_move name least t next line)
  join_knows (Number n) least next line k x = alone_knows _ None None k tt
  join_knows (Future q) least next line k x = alone_knows _ None None k tt
  join_knows (Counter q n) least next line k x = alone_knows next None None x tt

  effect_knows : (older : List Activation) (line : Line) (effect : Effect) → KnowsAll (IsThread h) (IsMade h) t → AllKnowNames (IsThread h) (IsMade h) older → EffectKnows (IsThread h) (IsMade h) effect → MoveKnows h p t (effect_move p t older line effect)
  effect_knows older line Undefined k o e = tt
  effect_knows older line (Goes top file) k o e = alone_knows _ None None (e.1, (e.0, o)) tt
  effect_knows older line (Calls top callee file) k o e = alone_knows _ None None (e.2, (e.1, (e.0, o))) tt
  effect_knows older line (Returns file) k o e = alone_knows _ None None (e, o) tt
  effect_knows older line (Ends v kept) k o e = alone_knows _ None None k tt
  effect_knows older line (Traps kind) k o e = alone_knows _ None None k tt
  effect_knows older line (Prints byte top file) k o e = printed_knows _ _ byte _ line k (e.1, (e.0, o))
  effect_knows older line (Forks top child handle passed file) k o e =
      let child' : Thread = record { activations = child ∷ []; registers = passed; forks = 0; counters = 0; bytes = 0; standing = Going } in
      let F = Thread' h p t (Some child') in
      let C = Made' h p t.counters in
      let f : (q : Path) → IsThread h q → F q = λ q x. inl x in
      let c : (q : Path) (n : ℕ) → IsMade h q n → C q n = λ q n x. inl x in
      record {
        own = (
          known_write F C file handle (Future (p ++ t.forks ∷ [])) (more_cells (IsThread h) F (IsMade h) C f c file e.3) (inr (refl, tt)),
          more_frames (IsThread h) F (IsMade h) C f c (top ∷ older) (e.0, o),
        );
        child = (e.2, (e.1, tt));
        added = tt;
      }
  effect_knows older line (Touches name top file) k o e = touch_knows name _ line k (e.2, (e.1, o))
  effect_knows older line (Counts top file) k o e =
      let F = Thread' h p t None in
      let C = Made' h p (t.counters + 1) in
      let f : (q : Path) → IsThread h q → F q = λ q x. inl x in
      let c : (q : Path) (n : ℕ) → IsMade h q n → C q n = λ q n x. inl x in
      record {
        own = (
          known_write F C file A6 (Counter p t.counters) (more_cells (IsThread h) F (IsMade h) C f c file e.1) (inr (refl, omega arith)),
          more_frames (IsThread h) F (IsMade h) C f c (top ∷ older) (e.0, o),
        );
        child = tt;
        added = tt;
      }
  effect_knows older line (Adds name top file) k o e = add_knows name _ line e.0 k (e.2, (e.1, o))
  effect_knows older line (Joins name least top file) k o e = join_knows name least _ line k (e.2, (e.1, o))

  at_knows : (program : Program) (source : Data) (top : Activation) (older : List Activation) (o : Option Item) → KnowsAll (IsThread h) (IsMade h) t → AllKnowNames (IsThread h) (IsMade h) (top ∷ older) → MoveKnows h p t (move_at program source p t top older o)
  at_knows program source top older None k frames = tt
  at_knows program source top older (Some item) k frames =
      effect_knows older item.line (item_effect program source item.kind top t.registers) k frames.1
      (item_knows (IsThread h) (IsMade h) program source item.kind top t.registers frames.0 k.0)

  of_knows : (program : Program) (source : Data) (activations : List Activation) → KnowsAll (IsThread h) (IsMade h) t → AllKnowNames (IsThread h) (IsMade h) activations → MoveKnows h p t (move_of program source p t activations)
  of_knows program source [] k frames = tt
  of_knows program source (top ∷ older) k frames = at_knows program source top older (item_at program top) k frames

  standing_knows : (program : Program) (source : Data) (s : Standing) → KnowsAll (IsThread h) (IsMade h) t → MoveKnows h p t (move_standing program source p t s)
  standing_knows program source Going k = of_knows program source t.activations k k.1
  standing_knows program source (Ended v) k = tt
  standing_knows program source (Trapped kind line) k = tt
  standing_knows program source Full k = tt

  move_knows : (program : Program) (source : Data) → KnowsAll (IsThread h) (IsMade h) t → MoveKnows h p t (move program source p t)
  unfolding move
  move_knows program source k = standing_knows program source t.standing k

  enabled_knows : (m : Move) (c : Change) → MoveKnows h p t m → Enabled h m c → ChangeKnows h p t c
  enabled_knows Stays c k e = absurd e
  enabled_knows (Moves d) c k e = subst (ChangeKnows h p t) e k
  enabled_knows (Touch q f) c k e = subst (ChangeKnows h p t) e.2 (k e.0)
  enabled_knows (Join q n least d) c k e = subst (ChangeKnows h p t) e.1 k

-- ---- after a step
new_there : (h : Heap) (p : Path) (t own : Thread) (child : Option Thread) (added : Option (Path × ℕ)) (printed : Option ℕ) → IsThere child → IsThread (after h p t record { own = own; child = child; added = added; printed = printed }) (p ++ t.forks ∷ [])
new_there h p t own None added printed new = absurd new
new_there h p t own (Some child) added printed new =
    let p' = p ++ t.forks ∷ [] in
    (child, put_other p p' (Some own) (put_child p' (Some child) h.thread) (longer p t.forks) ∙ put_same p' (Some child) h.thread)

child_knows : (h : Heap) (F : Path → Type 0) (C : Path → ℕ → Type 0) (p : Path) (child : Option Thread) → ((q : Path) → IsThread h q → F q) → ((q : Path) (n : ℕ) → IsMade h q n → C q n) → ChildKnows h child → OfChild (λ q u. KnowsAll F C u) p child
child_knows h F C p None f c k = tt
child_knows h F C p (Some child) f c k = more_all (IsThread h) F (IsMade h) C f c child k

counts_by : (b : Bool) (x : ℕ) (Q : Type 0) → (b ≡ true → Q) → (x ≢ 0 → Q) → cond b (counted x) x ≢ 0 → Q
counts_by true x Q same old ne = same refl
counts_by false x Q same old ne = old ne

counts_known : (h : Heap) (D : Path → ℕ → Type 0) (added : Option (Path × ℕ)) (q : Path) (n : ℕ) → AddedKnown h added → ((r : Path) (k : ℕ) → IsMade h r k → D r k) → ((r : Path) (k : ℕ) → h.count r k ≢ 0 → IsMade h r k) → count_up added h.count q n ≢ 0 → D q n
counts_known h D None q n a more old ne = more q n (old q n ne)
counts_known h D (Some c) q n a more old ne =
    counts_by (bytes_eq q c.0 && (n == c.1)) (h.count q n) (D q n)
    (λ t. let s = same_counter q n c.0 c.1 t in subst (λ x. D x n) (sym s.0) (subst (D c.0) (sym s.1) (more c.0 c.1 a)))
    (λ x. more q n (old q n x)) ne

names_step : (program : Program) (source : Data) (h : Heap) (p : Path) (h' : Heap) → IsNumbered h → NamesStand h → HStep program source h p h' → NamesStand h'
names_step program source h p h' numbered names s =
    let t = s.thread in
    let c = s.change in
    let g = after h p t c in
    let hstep : HStep program source h p g = record { thread = t; change = c; here = s.here; enabled = s.enabled; next = refl } in
    let k = enabled_knows h p t (move program source p t) c (move_knows h p t program source (names.registers p t s.here, names.activations p t s.here)) s.enabled in
    let own_there : g.thread p ≡ Some c.own = put_same p (Some c.own) (put_child (p ++ t.forks ∷ []) c.child h.thread) in
    let thread : (q : Path) → IsThread h q → IsThread g q = λ q x. let y = step_forks program source h p q g x.0 numbered x.1 hstep in (y.0, y.1) in
    let made : (q : Path) (n : ℕ) → IsMade h q n → IsMade g q n = λ q n x.
    elim (decide q p) [
      | inl e ↦
          let at : h.thread p ≡ Some x.0 = subst (λ y. h.thread y ≡ Some x.0) e x.1.0 in
          let same : x.0 ≡ t = let y = s.here in cc in
          let counters : x.0.counters ≡ t.counters = ap (λ y. y.counters) same in
          let less = x.1.1 in
          let le = step_counters program source h p h' s in
          (c.own, (subst (λ y. g.thread y ≡ Some c.own) (sym e) own_there, omega arith))
      | inr ne ↦ (x.0, (other_stays program source h q p g x.0 numbered x.1.0 ne hstep, x.1.1))
    ] in
    let thread' : (q : Path) → Thread' h p t c.child q → IsThread g q = λ q x.
    elim x [
      | inl old ↦ thread q old
      | inr new ↦ subst (IsThread g) (sym new.0) (new_there h p t c.own c.child c.added c.printed new.1)
    ] in
    let made' : (q : Path) (n : ℕ) → Made' h p c.own.counters q n → IsMade g q n = λ q n x.
    elim x [
      | inl old ↦ made q n old
      | inr new ↦ (c.own, (subst (λ y. g.thread y ≡ Some c.own) (sym new.0) own_there, new.1))
    ] in
    let all : (q : Path) (u : Thread) → g.thread q ≡ Some u → KnowsAll (IsThread g) (IsMade g) u =
    each_after (λ q u. KnowsAll (IsThread g) (IsMade g) u) h p t c
    (more_all (Thread' h p t c.child) (IsThread g) (Made' h p c.own.counters) (IsMade g) thread' made' c.own k.own)
    (child_knows h (IsThread g) (IsMade g) (p ++ t.forks ∷ []) c.child thread made k.child)
    (λ q u ne there. more_all (IsThread h) (IsThread g) (IsMade h) (IsMade g) thread made u (names.registers q u there, names.activations q u there)) in
    let stand : NamesStand g =
    record {
      registers = λ q u there. (all q u there).0;
      activations = λ q u there. (all q u there).1;
      counts = λ q n ne. counts_known h (IsMade g) c.added q n k.added made names.counts ne;
    } in
    subst NamesStand s.next stand

names_run : (program : Program) (source : Data) (h : Heap) (ps : List Path) (h' : Heap) → IsNumbered h → NamesStand h → Run program source h ps h' → NamesStand h'
names_run program source h [] h' numbered names run = subst NamesStand run names
names_run program source h (p ∷ ps) h' numbered names run =
    names_run program source run.0 ps h' (numbered_after program source h p run.0 numbered run.1) (names_step program source h p run.0 numbered names run.1) run.2

-- ---- at the start no name is held
abbrev NoThread : Path → Type 0
NoThread p = ⊥

abbrev NoneMade : Path → ℕ → Type 0
NoneMade p n = ⊥

alone_names : (t : Thread) → KnowsAll NoThread NoneMade t → NamesStand record { thread = put [] (Some t) (λ p. None); count = λ p k. 0; out = [] }
alone_names t known =
    let h : Heap = record { thread = put [] (Some t) (λ p. None); count = λ p k. 0; out = [] } in
    let all : (p : Path) (u : Thread) → h.thread p ≡ Some u → KnowsAll (IsThread h) (IsMade h) u = λ p u is.
    subst (KnowsAll (IsThread h) (IsMade h)) (sym (alone_thread t p u is).1)
    (more_all NoThread (IsThread h) NoneMade (IsMade h) (λ q x. absurd x) (λ q n x. absurd x) t known) in
    record { registers = λ p u is. (all p u is).0; activations = λ p u is. (all p u is).1; counts = λ p n ne. absurd (ne refl) }

abbrev FirstNames : Option State → Type 0
FirstNames None = Unit {0}
FirstNames (Some s) = NamesStand (first_heap s)

first_names : (program : Program) (input : ℕ) (o : Option ProgramFunction) → FirstNames (started program input o)
first_names program input None = tt
first_names program input (Some function) =
    let file = write_register zeroed A0 (Number input) in
    let registers = known_picked NoThread NoneMade (Arguments function.ints 0) file (known_write NoThread NoneMade zeroed A0 (Number input) (known_zeroed NoThread NoneMade) tt) in
    let top : KnowsNames NoThread NoneMade (entered program.main function zeroed Root) = (known_zeroed NoThread NoneMade, known_replicate NoThread NoneMade function.slots) in
    let t = thread_of (entered program.main function zeroed Root) [] (picked (Arguments function.ints 0) file) (record { path = []; forks = 0; counters = 0; handle = Zero }) 0 in
    let known : KnowsAll NoThread NoneMade t = (registers, (top, tt)) in
    alone_names t known

pub names_are_there : NamesAreThere
names_are_there program source h r =
    let stands = first_stands program source r.first r.is_first in
    names_run program source (first_heap r.first) r.steps h stands.1
    (subst FirstNames r.is_first (first_names program (length source.input) (slice_get program.functions program.main))) r.run
