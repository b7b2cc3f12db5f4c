-- Each step of the ordinary-call run is a step of the heap-frame machine by its newest thread, and Stands holds again: sequential, and sequence for
-- many steps. The step that ends the ordinary run is one too: ending. all_agree: a thread with as many steps of its own is as there.
use Rattle.std.proofs.Common.{◌≡◌, ◌≢◌, ℕ, ◌+◌, ◌≤◌, Bool, true, false, cond, List, [], ◌∷◌, ◌++◌, ◌==◌, ◌<◌, length, Option, Some, None, refl, sym, ap, ◌∙◌, subst, arith, inl, inr, length-append}
use Rattle.std.specs.Prelude.{nat_lt, ◌&&◌}
use Rattle.std.proofs.lemmas.Bool.Decides.{nat_tests}
use Rattle.st_model.specs.declared.ordinary.Tallied.{Tallied}
use Rattle.st_model.specs.declared.ordinary.OrdEnd.{OrdEnd}
use Rattle.st_model.specs.declared.ordinary.OrdEnd.TheVariants.{Going as EndGoing, Done, Trap, Waits, OutLimit}
use Rattle.st_base.specs.declared.thread.TrapKind.{TrapKind}
use Rattle.st_base.specs.declared.thread.TrapKind.TheVariants.{WrongHandle, PutInChild}
use Rattle.st_laws.proofs.Placing.{count_new, count_up_of, early_more, last_fork, last_return, le_or_less, print_none, printed_early, printed_list, root_is, value_of_new, value_of_old, value_of_push, whole_after}
use Rattle.std.specs.Str.{bytes_eq}
use Rattle.st_base.specs.declared.reg.Reg.{Reg}
use Rattle.st_base.specs.declared.reg.Reg.TheVariants.{A0, A6}
use Rattle.st_base.specs.declared.thread.Held.TheVariants.{Number, Future, Counter}
use Rattle.st_base.specs.declared.thread.Activation.{Activation}
use Rattle.st_base.specs.declared.thread.ActivationKind.TheVariants.{Called}
use Rattle.st_base.specs.declared.line.Line.{Line}
use Rattle.st_base.specs.declared.thread.Standing.TheVariants.{Going, Ended as EndedWith, Full}
use Rattle.st_base.specs.declared.thread.Thread.{Thread}
use Rattle.st_base.specs.Registers.{write_register}
use Rattle.st_model.specs.declared.program.Program.{Program}
use Rattle.st_model.specs.declared.program.Item.{Item}
use Rattle.st_model.specs.declared.effect.Effect.{Effect}
use Rattle.st_model.specs.declared.effect.Effect.TheVariants.{Undefined, Goes, Calls, Returns, Ends, Traps, Prints, Forks, Touches, Counts, Adds, Joins}
use Rattle.std.proofs.lemmas.Bool.{true≢false}
use Rattle.st_model.specs.declared.ordinary.Ended.{Ended}
use Rattle.st_model.specs.declared.ordinary.Tally.{Tally}
use Rattle.st_model.specs.declared.ordinary.Rest.{Rest}
use Rattle.st_model.specs.declared.ordinary.State.{State}
use Rattle.st_model.specs.declared.ordinary.Turn.{Turn}
use Rattle.st_model.specs.declared.ordinary.Turn.TheVariants.{Undefined as Undefined', Goes as Goes', Over}
use Rattle.st_model.specs.Effect.{File, item_effect, IsFirst}
use Rattle.st_model.specs.Ordinary.{step, step_at, item_at, apply, returned_to, ended_in, value_of, got, is_root, printed_when, joined_when, trapped, counted, count_of, counted_up}
use Rattle.st_model.specs.Heap.{Path, Heap, Change, Move, own, Moves, Join, printed_move, move, move_at, effect_move, HasEnded, Enabled, after, HStep, IsNumbered, Run, put_child, with_frames, trapped_thread, count_up}
use Rattle.st_model.specs.Quiet.{bytes_of}
use Rattle.st_laws.specs.Sequential.{AreFrames, first_kept, root_bytes, thread_of, Suspended, Below, IsAmong, Placed, last_print, AreEarly, Facts, Stands, IsSequential, Steps, AllAgree}
use Rattle.st_model.proofs.EffectFlow.{SameEntry}
use Rattle.st_laws.proofs.Shapes.{HasShape, item_shape}
use Rattle.st_laws.proofs.HeapSteps.{put_same, put_other, thread_stays, standing_or}
use Rattle.st_laws.proofs.Numbering.{longer, numbered_after}
use Rattle.st_laws.proofs.HeapRuns.{one_history}
use Rattle.st_model.specs.Memory.{Data}

-- ---- what a step leaves
ended_stays : (h : Heap) (p : Path) (t : Thread) (c : Change) (q : Path) (v : ℕ) → IsNumbered h → h.thread p ≡ Some t → t.standing ≡ Going → HasEnded h q v → HasEnded (after h p t c) q v
ended_stays h p t c q v numbered here going e =
    let other : q ≢ p = λ same. let x = sym going ∙ ap (λ o. standing_or o t) (sym here ∙ ap h.thread (sym same) ∙ e.1) ∙ e.2 in cc in
    (e.0, thread_stays h p q t e.0 c numbered here e.1 other, e.2)

shorter : (parent child p : Path) (k : ℕ) → child ≡ parent ++ k ∷ [] → length child ≤ length p → parent ≢ p
shorter parent child p k name le e =
    let a = ap length name in let b = length-append parent (k ∷ []) in let c = ap length e in omega arith

below_stays : (h : Heap) (p : Path) (t : Thread) (c : Change) (out : ℕ) (others : List Activation) (parents : List Tally) (kept : File) (handle : Reg) (child : Path) → IsNumbered h → h.thread p ≡ Some t → length child ≤ length p → Below h out others parents kept handle child → Below (after h p t c) out others parents kept handle child
below_stays h p t c out others [] kept handle child numbered here le b = tt
below_stays h p t c out others (parent ∷ parents) kept handle child numbered here le b =
    let s = b.0 in
    let s' : Suspended (after h p t c) out others parent kept handle child =
    record {
      number = s.number;
      top = s.top;
      mine = s.mine;
      rest = s.rest;
      name = s.name;
      split = s.split;
      frames = s.frames;
      here = thread_stays h p parent.path t _ c numbered here s.here (shorter parent.path child p s.number s.name le);
    } in
    let less : length parent.path ≤ length p = let a = ap length s.name in let l = length-append parent.path (s.number ∷ []) in omega arith in
    (s', below_stays h p t c out s.rest parents (first_kept s.top s.mine) parent.handle parent.path numbered here less b.1)

frames_same : (a b : Activation) (mine : List Activation) → SameEntry a b → AreFrames a mine → AreFrames b mine
frames_same a b [] e f = subst IsFirst (sym e.kind) f
frames_same a b (x ∷ mine) e f = (e.kind ∙ f.0, f.1)

first_same : (a b : Activation) (mine : List Activation) → SameEntry a b → first_kept b mine ≡ first_kept a mine
first_same a b [] e = e.kept
first_same a b (x ∷ mine) e = refl

-- ---- what a step makes of the heap
-- the newest thread waits at a join
abbrev pub IsJoining : Program → Data → Heap → Path → Thread → Type 0
IsJoining program source h p t = (q : Path) × ((n : ℕ) × ((least : ℕ) × ((c : Change) × ((move program source p t ≡ Join q n least c) × (h.count q n < least)))))

-- how the step that ends the ordinary run leaves the heap
abbrev pub EndStands : Program → Data → Heap → Rest → Thread → OrdEnd → Type 0
EndStands program source h rest t EndGoing = ⊥
EndStands program source h rest t (Done out) =
    (out ≡ rest.out) × (rest.parents ≡ []) × ((v : ℕ) × HStep program source h rest.thread.path (after h rest.thread.path t (own (record t { standing = EndedWith v }))))
EndStands program source h rest t (Trap kind line path out) =
    (path ≡ rest.thread.path) × (out ≡ rest.out) × HStep program source h rest.thread.path (after h rest.thread.path t (own (trapped_thread t kind line)))
EndStands program source h rest t (Waits line path out) = (path ≡ rest.thread.path) × (out ≡ rest.out) × IsJoining program source h rest.thread.path t
EndStands program source h rest t (OutLimit out) =
    (rest.thread.path ≡ []) × (out ≡ rest.out) × HStep program source h rest.thread.path (after h rest.thread.path t (own (record t { standing = Full })))

abbrev pub TurnStands : Program → Data → Heap → Rest → Thread → Turn → Type 0
TurnStands program source h rest t Undefined' = Unit {0}
TurnStands program source h rest t (Goes' s) = (h' : Heap) × HStep program source h rest.thread.path h' × Stands s h'
TurnStands program source h rest t (Over e) = EndStands program source h rest t e

-- the newest thread before a step
pub record Before (h : Heap) (top : Activation) (file : File) (rest : Rest) (mine others : List Activation) : Type 0 where
  numbered : IsNumbered h
  here : h.thread rest.thread.path ≡ Some (thread_of top mine file rest.thread (length rest.out))
  below : Below h (length rest.out) others rest.parents (first_kept top mine) rest.thread.handle rest.thread.path
  facts : Facts rest h
  split : rest.older ≡ mine ++ others
  frames : AreFrames top mine

abbrev pub newest : Activation → File → Rest → List Activation → Thread
newest top file rest mine = thread_of top mine file rest.thread (length rest.out)

made : (program : Program) (source : Data) (h : Heap) (p : Path) (t : Thread) (m : Move) (c : Change) → h.thread p ≡ Some t → move program source p t ≡ m → Enabled h m c → HStep program source h p (after h p t c)
made program source h p t m c here is e = record { thread = t; change = c; here = here; enabled = subst (λ m. Enabled h m c) (sym is) e; next = refl }

module _ (program : Program) (source : Data) (h : Heap) (line : Line) where
  -- a step that makes no thread, ends none and prints nothing
  same_stands : (top top' : Activation) (file file' : File) (rest : Rest) (older' mine mine' others : List Activation) (counters : ℕ) (counts : List Tallied) (added : Option (Path × ℕ)) → Before h top file rest mine others → older' ≡ mine' ++ others → AreFrames top' mine' → first_kept top' mine' ≡ first_kept top mine → ((q : Path) (k : ℕ) → count_of counts q k ≡ count_up added h.count q k) → Stands record { top = top'; registers = file'; rest = record rest { older = older'; thread = record rest.thread { counters = counters }; counts = counts } } (after h rest.thread.path (newest top file rest mine) record { own = thread_of top' mine' file' (record rest.thread { counters = counters }) (length rest.out); child = None; added = added; printed = None })
  same_stands top top' file file' rest older' mine mine' others counters counts added b split frames first counted =
      let p = rest.thread.path in
      let t = newest top file rest mine in
      let tally : Tally = record rest.thread { counters = counters } in
      let rest' : Rest = record rest { older = older'; thread = tally; counts = counts } in
      let c : Change = record { own = thread_of top' mine' file' tally (length rest.out); child = None; added = added; printed = None } in
      let same = print_none p rest.thread.forks h.out in
      record {
        mine = mine';
        others = others;
        split = split;
        frames = frames;
        here = put_same p (Some c.own) h.thread;
        below =
            subst
            (λ kept. Below (after h p t c) (length rest.out) others rest.parents kept rest.thread.handle p)
            (sym first)
            (below_stays h p t c (length rest.out) others rest.parents (first_kept top mine) rest.thread.handle p b.numbered b.here (omega arith) b.below);
        facts =
            record {
              ended = λ q v is. ended_stays h p t c q v b.numbered b.here refl (b.facts.ended q v is);
              whole = whole_after h p t c rest' (inr (inl refl)) tt (λ q u ne there. b.facts.whole q u there);
              counts = counted;
              printed = ap bytes_of same ∙ b.facts.printed;
              early = subst (AreEarly (last_print p rest.thread.forks)) (sym same) b.facts.early;
            };
      }

  plain_stands : (top top' : Activation) (file file' : File) (rest : Rest) (older' mine mine' others : List Activation) → Before h top file rest mine others → older' ≡ mine' ++ others → AreFrames top' mine' → first_kept top' mine' ≡ first_kept top mine → Stands record { top = top'; registers = file'; rest = record rest { older = older' } } (after h rest.thread.path (newest top file rest mine) (own (thread_of top' mine' file' rest.thread (length rest.out))))
  plain_stands top top' file file' rest older' mine mine' others b split frames first =
      same_stands top top' file file' rest older' mine mine' others rest.thread.counters rest.counts None b split frames first b.facts.counts

  -- a trap ends the newest thread
  trap_stands : (kind : TrapKind) (top : Activation) (file : File) (rest : Rest) (mine others : List Activation) → Before h top file rest mine others → move program source rest.thread.path (newest top file rest mine) ≡ Moves (own (trapped_thread (newest top file rest mine) kind line)) → TurnStands program source h rest (newest top file rest mine) (trapped rest kind line)
  trap_stands kind top file rest mine others b is = (refl, refl, made program source h rest.thread.path (newest top file rest mine) _ _ b.here is refl)

  -- back in the caller, which is of the same thread
  returned_stands : (top : Activation) (file file' : File) (rest : Rest) (mine others : List Activation) → Before h top file rest mine others → top.kind ≡ Called → move program source rest.thread.path (newest top file rest mine) ≡ effect_move rest.thread.path (newest top file rest mine) mine line (Returns file') → TurnStands program source h rest (newest top file rest mine) (returned_to (mine ++ others) rest file')
  returned_stands top file file' rest [] others b called is = absurd (subst IsFirst called b.frames)
  returned_stands top file file' rest (a ∷ mine) others b called is =
      (_, made program source h rest.thread.path (newest top file rest (a ∷ mine)) _ (own (thread_of a mine file' rest.thread (length rest.out))) b.here is refl, plain_stands top a file file' rest (mine ++ others) (a ∷ mine) mine others b refl b.frames.1 refl)

  finished_stands : (top : Activation) (file kept : File) (rest : Rest) (v : ℕ) (parents : List Tally) (older others : List Activation) → Before h top file rest [] others → kept ≡ top.kept → rest.parents ≡ parents → rest.older ≡ older → move program source rest.thread.path (newest top file rest []) ≡ effect_move rest.thread.path (newest top file rest []) [] line (Ends v kept) → TurnStands program source h rest (newest top file rest []) (ended_in parents older rest v kept)
  finished_stands top file kept rest v [] older others b same_kept is_parents is_older is =
      (refl, is_parents, (v, made program source h rest.thread.path (newest top file rest []) _ _ b.here is refl))
  finished_stands top file kept rest v (parent ∷ parents) older others b same_kept is_parents is_older is =
      let p = rest.thread.path in
      let below : Below h (length rest.out) others (parent ∷ parents) kept rest.thread.handle p =
      subst (λ x. Below h (length rest.out) others x kept rest.thread.handle p) is_parents
      (subst (λ x. Below h (length rest.out) others rest.parents x rest.thread.handle p) (sym same_kept) b.below) in
      let s = below.0 in
      let t = newest top file rest [] in
      let t' = record t { standing = EndedWith v } in
      let c = own t' in
      let h' = after h p t c in
      let entry : Ended = record { path = p; value = v } in
      let same = print_none p rest.thread.forks h.out in
      let child_there : h.thread (parent.path ++ s.number ∷ []) ≡ Some t = subst (λ x. h.thread x ≡ Some t) s.name b.here in
      let number : s.number ≤ parent.forks =
      elim (le_or_less parent.forks s.number) [
        | inl le ↦ let none = b.numbered.free parent.path _ s.number s.here le in cc
        | inr less ↦ omega arith
      ] in
      let less_child : length parent.path ≤ length p = let a = ap length s.name in let l = length-append parent.path (s.number ∷ []) in omega arith in
      let next : State =
      record {
        top = s.top;
        registers = write_register kept rest.thread.handle (Future p);
        rest =
            record {
              older = s.mine ++ s.rest;
              thread = parent;
              parents = parents;
              ended = rest.ended ++ entry ∷ [];
              counts = rest.counts;
              out = rest.out;
            };
      } in
      let none : (w : ℕ) → value_of rest.ended p ≡ Some w → ⊥ = λ w e.
      let x = b.facts.ended p w e in
      let y : EndedWith w ≡ Going = sym x.2 ∙ ap (λ o. standing_or o t) (sym x.1 ∙ b.here) in cc in
      let placed : (q : Path) (u : Thread) → q ≢ p → h.thread q ≡ Some u → Placed next.rest q u = λ q u ne there.
      elim (b.facts.whole q u there) [
        | inl e ↦ inl (e.0, e.1, value_of_old rest.ended entry q e.0 e.2)
        | inr e ↦ elim e [
          | inl new ↦ absurd (ne new)
          | inr among ↦ inr (subst (IsAmong q) is_parents among)
        ]
      ] in
      let stands : Stands next h' =
      record {
        mine = s.mine;
        others = s.rest;
        split = refl;
        frames = s.frames;
        here = thread_stays h p parent.path t _ c b.numbered b.here s.here (shorter parent.path p p s.number s.name (omega arith));
        below =
            below_stays h p t c (length rest.out) s.rest parents (first_kept s.top s.mine) parent.handle parent.path b.numbered b.here less_child below.1;
        facts =
            record {
              ended = λ q w is.
                  elim (value_of_push rest.ended entry q w is) [
                    | inl e ↦ ended_stays h p t c q w b.numbered b.here refl (b.facts.ended q w e)
                    | inr e ↦ subst (λ x. HasEnded h' x w) e.0 (subst (λ x. HasEnded h' p x) e.1 (t', put_same p (Some t') h.thread, refl))
                  ];
              whole = whole_after h p t c next.rest (inl (v, refl, value_of_new rest.ended entry none)) tt placed;
              counts = b.facts.counts;
              printed = ap bytes_of same ∙ b.facts.printed;
              early =
                  subst (AreEarly (last_print parent.path parent.forks)) (sym same)
                  (early_more (last_print p rest.thread.forks) (last_print parent.path parent.forks) h.out
                  (subst (λ x. last_print x rest.thread.forks ≤ last_print parent.path parent.forks) (sym s.name) (last_return parent.path s.number parent.forks rest.thread.forks number))
                  b.facts.early);
            };
      } in
      let turn : TurnStands program source h rest t (ended_in (parent ∷ parents) (s.top ∷ (s.mine ++ s.rest)) rest v kept) =
      (h', made program source h p t _ _ b.here is refl, stands) in
      subst (λ o. TurnStands program source h rest t (ended_in (parent ∷ parents) o rest v kept)) (sym (sym is_older ∙ b.split ∙ s.split)) turn

  got_stands : (o : Option ℕ) (q : Path) (top next : Activation) (file file' : File) (rest : Rest) (mine others : List Activation) → Before h top file rest mine others → SameEntry top next → value_of rest.ended q ≡ o → move program source rest.thread.path (newest top file rest mine) ≡ effect_move rest.thread.path (newest top file rest mine) mine line (Touches (Future q) next file') → TurnStands program source h rest (newest top file rest mine) (got o rest next file')
  got_stands None q top next file file' rest mine others b same value is = tt
  got_stands (Some v) q top next file file' rest mine others b same value is = (
    _,
    made program source h rest.thread.path (newest top file rest mine) _ (own (thread_of next mine (write_register file' A0 (Number v)) rest.thread (length rest.out))) b.here is (v, b.facts.ended q v value, refl),
    plain_stands top next file (write_register file' A0 (Number v)) rest rest.older mine mine others b b.split (frames_same top next mine same b.frames) (first_same top next mine same),
  )

  not_root : (p : Path) (k : ℕ) (out : ℕ) → root_bytes (p ++ k ∷ []) out ≡ 0
  not_root [] k out = refl
  not_root (j ∷ p) k out = refl

  forked_stands : (top next child : Activation) (handle : Reg) (file passed file' : File) (rest : Rest) (mine others : List Activation) → Before h top file rest mine others → SameEntry top next → IsFirst child.kind → child.kept ≡ file' → move program source rest.thread.path (newest top file rest mine) ≡ effect_move rest.thread.path (newest top file rest mine) mine line (Forks next child handle passed file') → TurnStands program source h rest (newest top file rest mine) (apply rest line (Forks next child handle passed file'))
  forked_stands top next child handle file passed file' rest mine others b same first kept is =
      let p = rest.thread.path in
      let k = rest.thread.forks in
      let p' = p ++ k ∷ [] in
      let out = length rest.out in
      let t = newest top file rest mine in
      let parent : Tally = record rest.thread { forks = k + 1 } in
      let t' = thread_of next mine (write_register file' handle (Future p')) parent out in
      let new : Thread = record { activations = child ∷ []; registers = passed; forks = 0; counters = 0; bytes = 0; standing = Going } in
      let c : Change = record { own = t'; child = Some new; added = None; printed = None } in
      let h' = after h p t c in
      let tally : Tally = record { path = p'; forks = 0; counters = 0; handle = handle } in
      let rest' : Rest = record rest { older = next ∷ rest.older; thread = tally; parents = parent ∷ rest.parents } in
      let bytes_same = print_none p k h.out in
      let zero_bytes : new ≡ thread_of child [] passed tally out =
      ap (λ n. let x : Thread = record { activations = child ∷ []; registers = passed; forks = 0; counters = 0; bytes = n; standing = Going } in x) (sym (not_root p k out)) in
      let waits : Suspended h' out (next ∷ rest.older) parent child.kept handle p' =
      record {
        number = k;
        top = next;
        mine = mine;
        rest = others;
        name = refl;
        split = ap (λ x. next ∷ x) b.split;
        frames = frames_same top next mine same b.frames;
        here =
            put_same p (Some t') (put_child p' (Some new) h.thread)
            ∙ ap (λ x. Some (thread_of next mine (write_register x handle (Future p')) parent out)) (sym kept);
      } in
      let placed : (q : Path) (u : Thread) → q ≢ p → h.thread q ≡ Some u → Placed rest' q u = λ q u ne there.
      elim (b.facts.whole q u there) [
        | inl e ↦ inl e
        | inr e ↦ inr (inr e)
      ] in (
        h',
        made program source h p t _ c b.here is refl,
        record {
          mine = [];
          others = next ∷ rest.older;
          split = refl;
          frames = first;
          here = put_other p p' (Some t') (put_child p' (Some new) h.thread) (longer p k) ∙ put_same p' (Some new) h.thread ∙ ap Some zero_bytes;
          below = (
            waits,
            subst (λ x. Below h' out others rest.parents x rest.thread.handle p) (sym (first_same top next mine same))
                (below_stays h p t c out others rest.parents (first_kept top mine) rest.thread.handle p b.numbered b.here (omega arith) b.below),
          );
          facts =
              record {
                ended = λ q v is. ended_stays h p t c q v b.numbered b.here refl (b.facts.ended q v is);
                whole = whole_after h p t c rest' (inr (inr (inl refl))) (inr (inl refl)) placed;
                counts = b.facts.counts;
                printed = ap bytes_of bytes_same ∙ b.facts.printed;
                early =
                    subst (AreEarly (last_print p' 0)) (sym bytes_same)
                    (early_more (last_print p k) (last_print p' 0) h.out (last_fork p k) b.facts.early);
              };
        },
      )

  snoc_not_root : (p : Path) (k : ℕ) → is_root (p ++ k ∷ []) ≡ false
  snoc_not_root [] k = refl
  snoc_not_root (j ∷ p) k = refl

  root_below : (g : Heap) (out out' : ℕ) (others : List Activation) (parents : List Tally) (kept : File) (handle : Reg) (child : Path) → is_root child ≡ true → Below h out others parents kept handle child → Below g out' others parents kept handle child
  root_below g out out' others [] kept handle child root below = tt
  root_below g out out' others (parent ∷ parents) kept handle child root below =
      let s = below.0 in
      let no : is_root child ≡ false = ap is_root s.name ∙ snoc_not_root parent.path s.number in
      absurd (true≢false (sym root ∙ no))

  printed_stands : (root room : Bool) (byte : ℕ) (top next : Activation) (file file' : File) (rest : Rest) (mine others : List Activation) → Before h top file rest mine others → SameEntry top next → is_root rest.thread.path ≡ root → nat_lt (length rest.out) 1048576 ≡ room → move program source rest.thread.path (newest top file rest mine) ≡ effect_move rest.thread.path (newest top file rest mine) mine line (Prints byte next file') → TurnStands program source h rest (newest top file rest mine) (printed_when root room rest line byte next file')
  printed_stands false room byte top next file file' rest mine others b same is_r is_room is =
      let p = rest.thread.path in
      let n = length rest.out in
      let t = newest top file rest mine in
      let t' : Thread = record (with_frames t (next ∷ mine) file') { bytes = root_bytes p n + 1 } in
      let moves : move program source p t ≡ Moves (own (trapped_thread t PutInChild line)) =
      is ∙ (λ i. printed_move (is_r i) (nat_lt (root_bytes p n) 1048576) byte t t' line) in
      trap_stands PutInChild top file rest mine others b moves
  printed_stands true false byte top next file file' rest mine others b same is_r is_room is =
      let p = rest.thread.path in
      let n = length rest.out in
      let t = newest top file rest mine in
      let t' : Thread = record (with_frames t (next ∷ mine) file') { bytes = root_bytes p n + 1 } in
      let moves : move program source p t ≡ Moves (own (record t { standing = Full })) =
      is ∙ (λ i. printed_move (is_r i) (nat_lt (cond (is_r i) n 0) 1048576) byte t t' line) ∙ ap (λ b. printed_move true b byte t t' line) is_room in
      (root_is p is_r, refl, made program source h p t _ _ b.here moves refl)
  printed_stands true true byte top next file file' rest mine others b same is_r is_room is =
      let p = rest.thread.path in
      let n = length rest.out in
      let t = newest top file rest mine in
      let t' : Thread = record (with_frames t (next ∷ mine) file') { bytes = root_bytes p n + 1 } in
      let c : Change = record { own = t'; child = None; added = None; printed = Some byte } in
      let h' = after h p t c in
      let out' = rest.out ++ byte ∷ [] in
      let rest' : Rest = record rest { out = out' } in
      let moves : move program source p t ≡ Moves c =
      is ∙ (λ i. printed_move (is_r i) (nat_lt (cond (is_r i) n 0) 1048576) byte t t' line) ∙ ap (λ b. printed_move true b byte t t' line) is_room in
      let more : root_bytes p n + 1 ≡ root_bytes p (length out') =
      (λ i. cond (is_r i) n 0 + 1) ∙ sym (length-append rest.out (byte ∷ [])) ∙ sym (λ i. cond (is_r i) (length out') 0) in
      let counted : t' ≡ thread_of next mine file' rest.thread (length out') = λ i. record (with_frames t (next ∷ mine) file') { bytes = more i } in (
        h',
        made program source h p t _ c b.here moves refl,
        record {
          mine = mine;
          others = others;
          split = b.split;
          frames = frames_same top next mine same b.frames;
          here = put_same p (Some t') h.thread ∙ ap Some counted;
          below = root_below h' n (length out') others rest.parents (first_kept next mine) rest.thread.handle p is_r
              (subst (λ x. Below h n others rest.parents x rest.thread.handle p) (sym (first_same top next mine same)) b.below);
          facts =
              record {
                ended = λ q v is. ended_stays h p t c q v b.numbered b.here refl (b.facts.ended q v is);
                whole = whole_after h p t c rest' (inr (inl refl)) tt (λ q u ne there. b.facts.whole q u there);
                counts = b.facts.counts;
                printed = printed_list p rest.thread.forks byte h.out is_r ∙ ap (λ o. o ++ byte ∷ []) b.facts.printed;
                early = printed_early p rest.thread.forks byte h.out is_r b.facts.early;
              };
        },
      )

  joined_stands : (short : Bool) (q : Path) (n least : ℕ) (top next : Activation) (file file' : File) (rest : Rest) (mine others : List Activation) → Before h top file rest mine others → SameEntry top next → nat_lt (count_of rest.counts q n) least ≡ short → move program source rest.thread.path (newest top file rest mine) ≡ effect_move rest.thread.path (newest top file rest mine) mine line (Joins (Counter q n) least next file') → TurnStands program source h rest (newest top file rest mine) (joined_when short rest line next file')
  joined_stands true q n least top next file file' rest mine others b same is_short is =
      let count = b.facts.counts q n in
      let less : count_of rest.counts q n < least = grind (arith, nat_tests) in
      let less' : h.count q n < least = omega arith in
      (refl, refl, (q, (n, (least, (_, (is, less'))))))
  joined_stands false q n least top next file file' rest mine others b same is_short is =
      let count = b.facts.counts q n in
      let reached : least ≤ count_of rest.counts q n = grind (arith, nat_tests) in
      let reached' : least ≤ h.count q n = omega arith in (
        _,
        made program source h rest.thread.path (newest top file rest mine) _ (own (thread_of next mine file' rest.thread (length rest.out))) b.here is (reached', refl),
        plain_stands top next file file' rest rest.older mine mine others b b.split (frames_same top next mine same b.frames) (first_same top next mine same),
      )

  pub effect_stands : (effect : Effect) (top : Activation) (file : File) (rest : Rest) (mine others : List Activation) → Before h top file rest mine others → HasShape top effect → move program source rest.thread.path (newest top file rest mine) ≡ effect_move rest.thread.path (newest top file rest mine) mine line effect → TurnStands program source h rest (newest top file rest mine) (apply rest line effect)
  effect_stands Undefined top file rest mine others b shape is = tt
  effect_stands (Goes next file') top file rest mine others b shape is =
      (_, made program source h rest.thread.path (newest top file rest mine) _ (own (thread_of next mine file' rest.thread (length rest.out))) b.here is refl, plain_stands top next file file' rest rest.older mine mine others b b.split (frames_same top next mine shape b.frames) (first_same top next mine shape))
  effect_stands (Calls next callee file') top file rest mine others b shape is =
      (_, made program source h rest.thread.path (newest top file rest mine) _ (own (thread_of callee (next ∷ mine) file' rest.thread (length rest.out))) b.here is refl, plain_stands top callee file file' rest (next ∷ rest.older) mine (next ∷ mine) others b (ap (λ x. next ∷ x) b.split) (shape.1, frames_same top next mine shape.0 b.frames) (first_same top next mine shape.0))
  effect_stands (Returns file') top file rest mine others b shape is =
      subst (λ o. TurnStands program source h rest (newest top file rest mine) (returned_to o rest file')) (sym b.split)
      (returned_stands top file file' rest mine others b shape is)
  effect_stands (Ends v kept) top file rest [] others b shape is =
      finished_stands top file kept rest v rest.parents rest.older others b shape.1 refl refl is
  effect_stands (Ends v kept) top file rest (a ∷ mine) others b shape is = absurd (subst IsFirst b.frames.0 shape.0)
  effect_stands (Traps kind) top file rest mine others b shape is = trap_stands kind top file rest mine others b is
  effect_stands (Prints byte next file') top file rest mine others b shape is =
      printed_stands _ _ byte top next file file' rest mine others b shape refl refl is
  effect_stands (Forks next child handle passed file') top file rest mine others b shape is =
      forked_stands top next child handle file passed file' rest mine others b shape.0 shape.1 shape.2 is
  effect_stands (Touches (Number n) next file') top file rest mine others b shape is = trap_stands WrongHandle top file rest mine others b is
  effect_stands (Touches (Future q) next file') top file rest mine others b shape is =
      got_stands (value_of rest.ended q) q top next file file' rest mine others b shape refl is
  effect_stands (Touches (Counter q n) next file') top file rest mine others b shape is = trap_stands WrongHandle top file rest mine others b is
  effect_stands (Counts next file') top file rest mine others b shape is =
      let p = rest.thread.path in
      let n = rest.thread.counters in
      let file'' = write_register file' A6 (Counter p n) in (
        _,
        made program source h p (newest top file rest mine) _ (own (thread_of next mine file'' (record rest.thread { counters = n + 1 }) (length rest.out))) b.here is refl,
        same_stands top next file file'' rest rest.older mine mine others (n + 1) (rest.counts ++ record { maker = p; number = n; count = 0 } ∷ []) None b b.split (frames_same top next mine shape b.frames) (first_same top next mine shape)
            (λ q k. count_new rest.counts p n q k ∙ b.facts.counts q k),
      )
  effect_stands (Adds (Number n) next file') top file rest mine others b shape is = trap_stands WrongHandle top file rest mine others b is
  effect_stands (Adds (Future q) next file') top file rest mine others b shape is = trap_stands WrongHandle top file rest mine others b is
  effect_stands (Adds (Counter m n) next file') top file rest mine others b shape is = (
    _,
    made program source h rest.thread.path (newest top file rest mine) _ record { own = thread_of next mine file' rest.thread (length rest.out); child = None; added = Some (m, n); printed = None } b.here is refl,
    same_stands top next file file' rest rest.older mine mine others rest.thread.counters (counted_up rest.counts m n) (Some (m, n)) b b.split (frames_same top next mine shape b.frames) (first_same top next mine shape)
        (λ q k. count_up_of rest.counts m n q k ∙ ap (λ x. cond (bytes_eq q m && (k == n)) (counted x) x) (b.facts.counts q k)),
  )
  effect_stands (Joins (Number n) least next file') top file rest mine others b shape is = trap_stands WrongHandle top file rest mine others b is
  effect_stands (Joins (Future q) least next file') top file rest mine others b shape is = trap_stands WrongHandle top file rest mine others b is
  effect_stands (Joins (Counter q n) least next file') top file rest mine others b shape is =
      joined_stands (nat_lt (count_of rest.counts q n) least) q n least top next file file' rest mine others b shape refl is

abbrev pub newest_of : (s : State) (h : Heap) → Stands s h → Thread
newest_of s h st = thread_of s.top st.mine s.registers s.rest.thread (length s.rest.out)

step_stands : (program : Program) (source : Data) (h : Heap) (s : State) (o : Option Item) → IsNumbered h → (st : Stands s h) → item_at program s.top ≡ o → TurnStands program source h s.rest (newest_of s h st) (step_at program source s o)
unfolding move
step_stands program source h s None numbered st is = tt
step_stands program source h s (Some item) numbered st is =
    let p = s.rest.thread.path in
    let t = newest_of s h st in
    let b : Before h s.top s.registers s.rest st.mine st.others =
    record { numbered = numbered; here = st.here; below = st.below; facts = st.facts; split = st.split; frames = st.frames } in
    effect_stands program source h item.line (item_effect program source item.kind s.top s.registers) s.top s.registers s.rest st.mine st.others b (item_shape program source item.kind s.top s.registers) (ap (move_at program source p t s.top st.mine) is)

pub sequential : IsSequential
unfolding step
sequential program source s t h numbered st is = subst (TurnStands program source h s.rest (newest_of s h st)) is (step_stands program source h s (item_at program s.top) numbered st refl)

-- the step that ends the ordinary run
pub ending : (program : Program) (source : Data) (s : State) (e : OrdEnd) (h : Heap) → IsNumbered h → (st : Stands s h) → step program source s ≡ Over e → EndStands program source h s.rest (newest_of s h st) e
unfolding step
ending program source s e h numbered st is = subst (TurnStands program source h s.rest (newest_of s h st)) is (step_stands program source h s (item_at program s.top) numbered st refl)

pub sequence : (program : Program) (source : Data) (s t : State) (h : Heap) (ps : List Path) → IsNumbered h → Stands s h → Steps program source s ps t → (h' : Heap) × Run program source h ps h' × Stands t h'
sequence program source s t h [] numbered st is = (h, refl, subst (λ x. Stands x h) is st)
sequence program source s t h (p ∷ ps) numbered st is =
    let mid = is.1 in
    let one = sequential program source s mid.0 h numbered st mid.1 in
    let here : HStep program source h p one.0 = subst (λ x. HStep program source h x one.0) (sym is.0) one.1 in
    let more = sequence program source mid.0 t one.0 ps (numbered_after program source h p one.0 numbered here) one.2 mid.2 in
    (more.0, (one.0, here, more.1), more.2)

pub all_agree : AllAgree
all_agree program source s t h b ps qs numbered st steps run =
    let o = sequence program source s t h ps numbered st steps in
    (o.0, o.2, λ p u w same there here. sym (one_history program source h ps qs o.0 b p w u numbered o.1 run same here there))
