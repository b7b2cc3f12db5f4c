-- Where a worker's top thread stands, as the lemmas of st_items ask it: read AtFirst (its newest activation is before its prologue, which is its next
-- item) and AtItem (at an item behind it), both over what is older than that activation (Older); where_it_is tells them of what CanRun says. What the
-- thread would do next is told by the item's effect (next_is). stands_behind puts a thread on the machine again.
use Rattle.std.proofs.Common.{◌≡◌, ◌⊎◌, inl, inr, ℕ, ◌+◌, ◌<◌, Bool, List, [], ◌∷◌, Option, Some, None, slice_get, refl, ap, sym, ◌∙◌, subst, arith}
use Rattle.st_base.specs.declared.chain.Frame.{Frame}
use Rattle.st_base.specs.declared.reg.Reg.TheVariants as registers
use Rattle.st_base.specs.declared.thread.Activation.{Activation}
use Rattle.st_base.specs.declared.thread.Held.{Held}
use Rattle.st_base.specs.declared.thread.Standing.{Standing}
use Rattle.st_model.specs.declared.code.Layout.TheVariants.{Postprocessed}
use Rattle.st_model.specs.declared.program.Item.{Item}
use Rattle.st_model.specs.declared.program.ItemKind.{ItemKind}
use Rattle.st_model.specs.declared.program.ItemKind.TheVariants as items
use Rattle.st_model.specs.declared.program.Program.{Program}
use Rattle.st_model.specs.declared.program.ProgramFunction.{ProgramFunction}
use Rattle.st_model.specs.Accepted.{IsPrologue}
use Rattle.st_model.specs.Effect.{File, item_effect}
use Rattle.st_model.specs.Heap.{with_frames, effect_move, move_standing, move_at, move_of, move}
use Rattle.st_model.specs.Memory.{Data}
use Rattle.st_model.specs.Ordinary.{item_at}
use Rattle.st_words.specs.declared.view.Known.{Known}
use Rattle.st_step.specs.Moves.{register}
use Rattle.st_step.specs.Runs.{Situation}
use Rattle.st_items.specs.Body.{Ends, Context, SeesOutside, IsFrameAt, IsAtLine, StandsAt}
use Rattle.st_items.specs.Code.{HasItem}
use Rattle.st_items.specs.Entered.{IsEntered}
use Rattle.st_items.proofs.ItemCode.{item_of, formed_of}
use Rattle.st_chain.specs.Seen.{joined}
use Rattle.st_chain.specs.Taking.{AllApart}
use Rattle.st_chain.specs.Walk.{named_by, Below}
use Rattle.st_chain.proofs.Joining.{split_apart}
use Rattle.st_chain.proofs.Outside.{sees_outside}
use Rattle.st_made.specs.Items.{next_move, went}
use Rattle.st_standing.specs.Standing.{under, Before, Behind, StandsOn}
use Rattle.st_running.specs.Running.{CanRun}

-- what is older than an activation of a thread of this cell
abbrev pub Older : Program → List (Held × ℕ) → (ℕ → Bool) → ℕ → List Known → List (List Frame) → List Activation → List Frame → Context
Older p names holds cell ks rest older gs = Below p (named_by names) holds (under p names holds cell ks rest) older gs

-- before its prologue
pub record AtFirst (p : Program) (d : Data) (names : List (Held × ℕ)) (holds : ℕ → Bool) (ends : Ends) (t : Situation) (k : Known) (fs : List Frame) (ks : List Known) (rest : List (List Frame)) : Type 0 where
  pub top : Activation
  pub older : List Activation
  pub acts : k.thread.activations ≡ top ∷ older
  pub function : ProgramFunction
  pub item : Item
  pub entered : IsEntered Postprocessed p (named_by names) (Older p names holds k.note.cell ks rest older fs) ends t top k.thread.registers function item
  pub moves : next_move p d k ≡ effect_move k.path k.thread older item.line (item_effect p d item.kind top k.thread.registers)

-- behind it
pub record AtItem (p : Program) (d : Data) (names : List (Held × ℕ)) (holds : ℕ → Bool) (ends : Ends) (t : Situation) (k : Known) (fs : List Frame) (ks : List Known) (rest : List (List Frame)) : Type 0 where
  pub top : Activation
  pub older : List Activation
  pub acts : k.thread.activations ≡ top ∷ older
  pub f : Frame
  pub gs : List Frame
  pub frames : fs ≡ f ∷ gs
  pub base : f.base ≡ register t.state registers.S0
  pub function : ProgramFunction
  pub item : Item
  pub begun : 0 < top.next
  pub line : IsAtLine Postprocessed p holds (named_by names) (Older p names holds k.note.cell ks rest older gs) ends f.low t top k.thread.registers function item
  pub moves : next_move p d k ≡ effect_move k.path k.thread older item.line (item_effect p d item.kind top k.thread.registers)

-- ---- what it would do

pub there_of : (p : Program) (a : Activation) (function : ProgramFunction) (item : Item) → HasItem p a.function function a.next item → item_at p a ≡ Some item
there_of p a function item has =
    let here = has.named in
    let at : item_at p a ≡ slice_get function.items a.next = rw here refl in
    at ∙ has.placed

module _ (p : Program) (d : Data) (names : List (Held × ℕ)) (holds : ℕ → Bool) (ends : Ends) (t : Situation) (k : Known) (fs : List Frame) (ks : List Known) (rest : List (List Frame)) (can : CanRun p d names holds ends t k fs ks rest) where
  next_at : (top : Activation) (older : List Activation) (o : Option Item) → k.thread.activations ≡ top ∷ older → item_at p top ≡ o → next_move p d k ≡ move_at p d k.path k.thread top older o
  unfolding move
  next_at top older o acts there =
      ap (λ (s : Standing). move_standing p d k.path k.thread s) can.going
      ∙ ap (λ (l : List Activation). move_of p d k.path k.thread l) acts
      ∙ ap (λ (x : Option Item). move_at p d k.path k.thread top older x) there

  next_is : (top : Activation) (older : List Activation) (item : Item) → k.thread.activations ≡ top ∷ older → item_at p top ≡ Some item → next_move p d k ≡ effect_move k.path k.thread older item.line (item_effect p d item.kind top k.thread.registers)
  next_is top older item acts there = next_at top older (Some item) acts there

  -- it does something, so there is an item
  some_item : (top : Activation) (older : List Activation) (o : Option Item) → k.thread.activations ≡ top ∷ older → item_at p top ≡ o → (item : Item) × (item_at p top ≡ Some item)
  some_item top older None acts there = absurd (can.defined (next_at top older None acts there))
  some_item top older (Some item) acts there = (item, there)

  -- ---- before the prologue

  prologue_is : (kind : ItemKind) → IsPrologue kind → kind ≡ items.Prologue
  prologue_is items.Prologue is = refl
  prologue_is _ is = absurd is

  before_at : (acts : List Activation) → k.thread.activations ≡ acts → Before p names holds (under p names holds k.note.cell ks rest) t acts fs → AtFirst p d names holds ends t k fs ks rest
  before_at [] is before = absurd before
  before_at (a ∷ older) is (function, before) =
      let (item, placed, prologue) = (formed_of p a.function function can.accepted before.here).begins in
      let has : HasItem p a.function function a.next item = record { named = before.here; placed = subst (λ (n : ℕ). slice_get function.items n ≡ Some item) (sym before.first) placed } in
      record {
        top = a;
        older = older;
        acts = is;
        function = function;
        item = item;
        entered = record {
          accepted = can.accepted;
          size = can.size;
          first = before.first;
          has = has;
          kind = prologue_is item.kind prologue;
          machine = can.on.machine;
          holding = can.on.file;
          frameless = can.on.frameless;
          bytes = before.bytes;
          handles = before.handles;
          below = before.below;
          at = before.at;
          whole = can.on.whole;
        };
        moves = next_is a older item is (there_of p a function item has);
      }

  -- ---- behind it

  behind_at : (acts : List Activation) (frames : List Frame) → k.thread.activations ≡ acts → fs ≡ frames → Behind p names holds (under p names holds k.note.cell ks rest) 0 t acts frames → AtItem p d names holds ends t k fs ks rest
  behind_at (a ∷ older) (f ∷ gs) is frames (function, newest) =
      let (item, there) = some_item a older (item_at p a) is refl in
      let all : AllApart (joined ((f ∷ gs) ∷ rest)) = subst (λ (l : List Frame). AllApart (joined (l ∷ rest))) frames can.apart in
      let apart = split_apart f gs (joined rest) all.1 in
      let sees = sees_outside p (named_by names) holds can.accepted f all.0 older gs k.note.cell ks rest apart.0 apart.1 in
      let base = newest.lies.base in
      let long = newest.framed.base in
      let at = newest.at in
      record {
        top = a;
        older = older;
        acts = is;
        f = f;
        gs = gs;
        frames = frames;
        base = sym base;
        function = function;
        item = item;
        begun = newest.begun;
        line = record {
          accepted = can.accepted;
          size = can.size;
          has = item_of p a function item newest.here there;
          body = record { here = newest.here; machine = can.on.machine; file = can.on.file; frameless = can.on.frameless; framed = newest.framed };
          frame = newest.lies.place;
          sees = subst (λ (n : ℕ). SeesOutside (Older p names holds k.note.cell ks rest older gs) f.low n) (sym base ∙ long) sees;
          at = omega arith;
          whole = can.on.whole;
        };
        moves = next_is a older item is there;
      }
  behind_at (a ∷ older) [] is frames behind = absurd behind
  behind_at [] frames is same behind = absurd behind

  pub where_it_is : AtFirst p d names holds ends t k fs ks rest ⊎ AtItem p d names holds ends t k fs ks rest
  where_it_is = elim can.on.stands [
    | inl before ↦ inl (before_at k.thread.activations refl before)
    | inr behind ↦ inr (behind_at k.thread.activations fs refl refl behind)
  ]

-- ---- on the machine again

-- a thread of which the newest activation stands at its next item, behind its prologue
pub stands_behind : (p : Program) (names : List (Held × ℕ)) (holds : ℕ → Bool) (ends : Ends) (u : Situation) (k : Known) (ks : List Known) (rest : List (List Frame)) (a : Activation) (older : List Activation) (file : File) (function : ProgramFunction) (f : Frame) (gs : List Frame) → IsFrameAt holds f.low function → f.base ≡ f.low + function.frame_bytes
    → StandsAt Postprocessed p (named_by names) (Older p names holds k.note.cell ks rest older gs) ends f.low u a file function → StandsOn p names holds ends u (went k (with_frames k.thread (a ∷ older) file)) (f ∷ gs) ks rest
stands_behind p names holds ends u k ks rest a older file function f gs place long at =
    let base = at.body.framed.base in
    let here = at.at in
    record {
      machine = at.body.machine;
      whole = at.whole;
      file = at.body.file;
      frameless = at.body.frameless;
      stands = inr (function, record { here = at.body.here; begun = at.begun; at = omega arith; lies = record { base = omega arith; place = place }; framed = at.body.framed });
    }
