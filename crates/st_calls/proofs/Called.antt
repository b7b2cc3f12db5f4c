-- A worker that fits its board's view and whose top thread has called an entry: what the entry serves (served), and that behind the call the activation has its next item (polls_acts and those of the
-- other entries).
use Rattle.st_base.specs.Registers.{picked, read_register}
use Rattle.st_base.specs.declared.image.Image.{Image}
use Rattle.st_base.specs.declared.limits.Limits.{Limits}
use Rattle.st_base.specs.declared.reg.Reg.TheVariants as registers
use Rattle.st_base.specs.declared.registers.Pick.TheVariants.{Saved}
use Rattle.st_base.specs.declared.thread.Activation.{Activation}
use Rattle.st_base.specs.declared.thread.Held.TheVariants.{Counter, Future}
use Rattle.st_base.specs.declared.thread.Held.{Held}
use Rattle.st_base.specs.declared.thread.Thread.{Thread}
use Rattle.st_chain.specs.Walk.{is_held}
use Rattle.st_fits.specs.Laws.{IsReady}
use Rattle.st_fits.specs.Threads.{IsCalled, ends_of, now}
use Rattle.st_made.specs.Items.{next_move}
use Rattle.st_made.specs.Runs.{all_known, known_of}
use Rattle.st_model.specs.Accepted.{IsAccepted}
use Rattle.st_model.specs.Effect.{File, advanced, entry_effect, name_of, number_of, runtime_call, with_name, with_number}
use Rattle.st_model.specs.Heap.{Change, Join, Move, Moves, Path, Touch, effect_move, printed_move, with_frames, Stays}
use Rattle.st_model.specs.Limits.{frame_made, prologue_bytes, frame_at, frame_of}
use Rattle.st_model.specs.Memory.{Data}
use Rattle.st_model.specs.Ordinary.{is_root, item_at}
use Rattle.st_model.specs.Quiet.{IsGoing}
use Rattle.st_model.specs.declared.effect.Effect.TheVariants as effects
use Rattle.st_model.specs.declared.effect.Effect.{Effect}
use Rattle.st_model.specs.declared.program.Item.{Item}
use Rattle.st_model.specs.declared.program.ItemKind.{ItemKind}
use Rattle.st_model.specs.declared.program.Program.{Program}
use Rattle.st_model.specs.declared.program.ProgramFunction.{ProgramFunction}
use Rattle.st_model.specs.declared.program.RuntimeCall.TheVariants as calls
use Rattle.st_model.specs.declared.program.RuntimeCall.{RuntimeCall}
use Rattle.st_phases.specs.declared.automaton.Automaton.{Automaton}
use Rattle.st_run.proofs.NextDefined.{next_defined}
use Rattle.st_serving.proofs.Entries.{entries_serve}
use Rattle.st_serving.proofs.Handles.{does, kind_at}
use Rattle.st_serving.proofs.Moves.{number_there}
use Rattle.st_serving.specs.Serving as serves
use Rattle.st_serving.specs.Serving.{CanServe, Serves}
use Rattle.st_step.specs.Moves.{register}
use Rattle.st_words.proofs.Lists.{contains_here}
use Rattle.st_words.specs.declared.view.Known.{Known}
use Rattle.st_words.specs.declared.view.View.{View}
use Rattle.std.proofs.Common.{◌≡◌, ◌≢◌, inl, ℕ, ◌+◌, Bool, List, [], ◌∷◌, Option, Some, refl, sym, ap, ◌∙◌, subst, arith, ◌%◌, ◌<◌, length, true}
use Rattle.std.proofs.lemmas.Bool.{lt-ltb}
use Rattle.std.proofs.lemmas.List.Elements.{Contains-append_left}
use Rattle.std.specs.List.{Contains}
use Rattle.std.specs.Prelude.{nat_lt, slice_get}

-- the activations of the thread behind its item, where a value comes to a touch
abbrev pub acts_by : ℕ → Move → List Activation
acts_by v Stays = []
acts_by v (Moves c) = c.own.activations
acts_by v (Touch q f) = (f v).own.activations
acts_by v (Join q i n c) = c.own.activations

module _ (p : Program) (d : Data) (limits : Limits) (image : Image) (input : List ℕ) (x : Automaton) (u : View) (ready : IsReady p d limits image input x u) (entry : ℕ) (called : IsCalled p d entry x u) where
  pub accepted : IsAccepted p
  accepted = ready.fits.is_for.code.accepted

  pub top_in : Contains (all_known u) called.top
  top_in = Contains-append_left u.threads (known_of u.chains) called.top (subst (λ (ts : List Known). Contains ts called.top) (sym called.is) (contains_here called.top called.below))

  pub top_here : Contains u.threads called.top
  top_here = subst (λ (ts : List Known). Contains ts called.top) (sym called.is) (contains_here called.top called.below)

  abbrev pub can : CanServe p d u.names (is_held u.held) (ends_of x.machine) (now x u) called.top called.frames called.below called.lower entry
  can = record {
    accepted = accepted;
    size = ready.fits.is_for.size;
    going = called.at.0.going;
    defined = next_defined p d u called.top accepted ready.behind top_in (subst IsGoing (sym called.at.0.going) tt);
    at = called.at.1;
    apart = called.lies.framed.all_apart;
  }

  pub served : Serves p d u.names (is_held u.held) (ends_of x.machine) (now x u) called.top called.frames called.below called.lower entry called.at.1.item.line
  served = entries_serve p d u.names (is_held u.held) (ends_of x.machine) (now x u) called.top called.frames called.below called.lower entry can

  -- the cell of the thread is one of the board's
  pub cell_below : called.top.note.cell < u.cells
  cell_below = ready.tidy.numbers.below called.top.note.cell (inl (called.top, top_here, refl))

  -- ---- behind the call

  abbrev pub Behind : List Activation
  Behind = advanced called.at.1.top ∷ called.at.1.older

  abbrev Makes : Effect → Move
  Makes effect = effect_move called.top.path called.top.thread called.at.1.older called.at.1.item.line effect

  abbrev file : File
  file = called.top.thread.registers

  moves_by : (n : ℕ) (call : RuntimeCall) → entry ≡ n → n ≢ 0x10 → runtime_call n ≡ Some call → next_move p d called.top ≡ Makes (entry_effect call called.at.1.top file)
  moves_by n call is other known = does p d u.names (is_held u.held) (ends_of x.machine) (now x u) called.top called.frames called.below called.lower entry can n call is other known

  acts_are : (m : Move) (v : ℕ) (effect : Effect) → next_move p d called.top ≡ m → next_move p d called.top ≡ Makes effect → acts_by v m ≡ acts_by v (Makes effect)
  acts_are m v effect one two = sym (ap (acts_by v) one) ∙ ap (acts_by v) two

  pub polls_acts : (is : entry ≡ 0x80) (s : serves.Polls p d u.names (is_held u.held) (ends_of x.machine) (now x u) called.top called.frames called.below called.lower) → s.next.activations ≡ Behind
  polls_acts is s = acts_are _ 0 (entry_effect calls.Poll called.at.1.top file) s.moves (moves_by 0x80 calls.Poll is (λ e. omega arith) refl)

  pub makes_acts : (is : entry ≡ 0x50) (s : serves.MakesCounter p d u.names (is_held u.held) (ends_of x.machine) (now x u) called.top called.frames called.below called.lower) → s.next.activations ≡ Behind
  makes_acts is s = acts_are _ 0 (entry_effect calls.Counter called.at.1.top file) s.moves (moves_by 0x50 calls.Counter is (λ e. omega arith) refl)

  -- the name in a6 is known
  abbrev named_effect : (Held → Effect) → Option Held → Effect
  named_effect go o = with_name (name_of o) go

  pub touches_acts : (is : entry ≡ 0x40) (s : serves.TouchesFuture p d u.names (is_held u.held) (ends_of x.machine) (now x u) called.top called.frames called.below called.lower) (v : ℕ) → (s.next v).activations ≡ Behind
  touches_acts is s v =
      let moves = moves_by 0x40 calls.Touch is (λ e. omega arith) refl ∙ ap (λ (o : Option Held). Makes (named_effect (λ name. effects.Touches name (advanced called.at.1.top) (picked Saved file)) o)) s.named.held in
      ap (λ (c : Change). c.own.activations) (sym (s.changes v)) ∙ acts_are _ v (effects.Touches (Future s.q) (advanced called.at.1.top) (picked Saved file)) s.moves moves

  pub adds_acts : (is : entry ≡ 0x60) (s : serves.AddsToCounter p d u.names (is_held u.held) (ends_of x.machine) (now x u) called.top called.frames called.below called.lower) → s.next.activations ≡ Behind
  adds_acts is s =
      let moves = moves_by 0x60 calls.Done is (λ e. omega arith) refl ∙ ap (λ (o : Option Held). Makes (named_effect (λ name. effects.Adds name (advanced called.at.1.top) (picked Saved file)) o)) s.named.held in
      acts_are _ 0 (effects.Adds (Counter s.q s.i) (advanced called.at.1.top) (picked Saved file)) s.moves moves

  pub joins_acts : (is : entry ≡ 0x70) (s : serves.JoinsCounter p d u.names (is_held u.held) (ends_of x.machine) (now x u) called.top called.frames called.below called.lower) → s.next.activations ≡ Behind
  joins_acts is s =
      let joins : Option Held → Option Held → Effect = λ o least. with_name (name_of o) (λ name. with_number (number_of least) (λ n. effects.Joins name n (advanced called.at.1.top) (picked Saved file))) in
      let moves = moves_by 0x70 calls.Join is (λ e. omega arith) refl ∙ ap (λ (o : Option Held). Makes (joins o (read_register file registers.A0))) s.named.held ∙ ap (λ (o : Option Held). Makes (joins (Some (Counter s.q s.i)) o)) s.least in
      acts_are _ 0 (effects.Joins (Counter s.q s.i) (register x.machine registers.A0) (advanced called.at.1.top) (picked Saved file)) s.moves moves

  pub prints_acts : (is : entry ≡ 0x90) (s : serves.Prints p d u.names (is_held u.held) (ends_of x.machine) (now x u) called.top called.frames called.below called.lower) → s.next.activations ≡ Behind
  prints_acts is s =
      let prints : ℕ → Effect = λ n. effects.Prints (n % 256) (advanced called.at.1.top) (picked Saved file) in
      let by_item = moves_by 0x90 calls.Putc is (λ e. omega arith) refl in
      let (n, held, number) = number_there called.top.path called.top.thread called.at.1.older called.at.1.item.line (read_register file registers.A0) prints (λ e. can.defined (by_item ∙ e)) in
      let next : Thread = record (with_frames called.top.thread Behind (picked Saved file)) { bytes = called.top.thread.bytes + 1 } in
      let printed : Bool → Bool → Move = λ root room. printed_move root room (n % 256) called.top.thread next called.at.1.item.line in
      let moves : next_move p d called.top ≡ printed true true =
      by_item ∙ ap Makes number ∙ ap (λ (path : Path). printed (is_root path) (nat_lt called.top.thread.bytes 1048576)) s.root ∙ ap (λ (b : Bool). printed true b) (lt-ltb called.top.thread.bytes 1048576 s.room) in
      sym (ap (acts_by 0) s.moves) ∙ ap (acts_by 0) moves

  -- the item makes no frame
  pub no_frame : (n : ℕ) → entry ≡ n → n ≢ 0x10 → frame_made p called.top.path called.top.thread ≡ 0
  no_frame n is other =
      let kind = kind_at p d u.names (is_held u.held) (ends_of x.machine) (now x u) called.top called.frames called.below called.lower entry can n is other in
      ap (λ (acts : List Activation). frame_at p acts) called.at.1.acts ∙ ap (λ (o : Option Item). frame_of called.at.1.top o) (there p called.at.1.top called.at.1.function called.at.1.item called.at.1.has.named called.at.1.has.placed)
      ∙ ap (λ (k : ItemKind). prologue_bytes k (length called.at.1.top.bytes)) kind
    where
      there : (p : Program) (top : Activation) (function : ProgramFunction) (item : Item) → slice_get p.functions top.function ≡ Some function → slice_get function.items top.next ≡ Some item → item_at p top ≡ Some item
      there p top function item here placed = rw here placed
