-- In the heap-frame machine no thread of an accepted program reads what is undefined: heap_defined. As for the ordinary run, a path of items leads
-- to each activation's next item (Flows); here a thread's own frames are enough, since a touch waits for the thread that it names.
use Rattle.std.proofs.Common.{◌≡◌, ◌≢◌, ℕ, ◌+◌, ◌≤◌, Bool, true, false, cond, List, [], ◌∷◌, ◌++◌, length, Option, Some, None, refl, sym, subst}
use Rattle.std.specs.Prelude.{slice_get}
use Rattle.std.specs.Str.{bytes_eq}
use Rattle.st_base.specs.declared.reg.Reg.TheVariants.{A0}
use Rattle.st_base.specs.declared.thread.Held.TheVariants.{Number, Future, Counter}
use Rattle.st_base.specs.declared.thread.Activation.{Activation}
use Rattle.st_base.specs.declared.thread.ActivationKind.{ActivationKind}
use Rattle.st_base.specs.declared.thread.ActivationKind.TheVariants.{Called, Forked, Root}
use Rattle.st_base.specs.declared.line.Line.{Line}
use Rattle.st_base.specs.declared.thread.Standing.{Standing}
use Rattle.st_base.specs.declared.thread.Standing.TheVariants.{Going, Ended, Trapped, Full}
use Rattle.st_base.specs.declared.thread.Thread.{Thread}
use Rattle.st_base.specs.Registers.{write_register}
use Rattle.st_model.specs.declared.program.Program.{Program}
use Rattle.st_model.specs.declared.program.ProgramFunction.{ProgramFunction}
use Rattle.st_model.specs.declared.ordinary.State.{State}
use Rattle.st_model.specs.declared.effect.Effect.{Effect}
use Rattle.st_model.specs.declared.effect.Effect.TheVariants.{Undefined, Goes, Calls, Returns, Ends, Traps, Prints, Forks, Touches, Counts, Adds, Joins}
use Rattle.st_model.specs.Effect.{File, item_effect}
use Rattle.st_model.specs.Ordinary.{started, is_root}
use Rattle.st_model.specs.Heap.{Path, Heap, Change, Move, Stays, Moves, Touch, Join, move, move_standing, move_of, move_at, effect_move, printed_move, own, with_frames, Enabled, put_child, HStep, Run, first_heap}
use Rattle.st_model.specs.Memory.{Data}
use Rattle.st_model.specs.Accepted.{IsAccepted}
use Rattle.st_laws.specs.Defined.{HasNext, HeapDefined}
use Rattle.st_model.proofs.Flowing.{Known}
use Rattle.st_model.proofs.EffectFlow.{Flows, SameEntry, or_is, EffectFlows, flows_wider}
use Rattle.st_model.proofs.ItemFlow.{item_flows}
use Rattle.st_model.proofs.StartFlow.{start_flows}

-- a touch waits for the thread of a name, so each name is good
abbrev any : Known
any q = Unit {0}

abbrev Below : Program → ActivationKind → File → List Activation → Type 0
Below p Called kept [] = ⊥
Below p Called kept (a ∷ older) = ((v : ℕ) → Flows any p a (write_register kept A0 (Number v))) × Below p a.kind a.kept older
Below p Forked kept older = Unit {0}
Below p Root kept older = Unit {0}

abbrev FramesSound : Program → List Activation → File → Type 0
FramesSound p [] file = ⊥
FramesSound p (top ∷ older) file = Flows any p top file × Below p top.kind top.kept older

abbrev StandingSound : Program → Thread → Standing → Type 0
StandingSound p t Going = FramesSound p t.activations t.registers
StandingSound p t (Ended v) = Unit {0}
StandingSound p t (Trapped kind line) = Unit {0}
StandingSound p t Full = Unit {0}

abbrev ThreadSound : Program → Thread → Type 0
ThreadSound p t = StandingSound p t t.standing

abbrev OptionSound : Program → Option Thread → Type 0
OptionSound p None = Unit {0}
OptionSound p (Some t) = ThreadSound p t

abbrev HeapSound : Program → Heap → Type 0
HeapSound p h = (q : Path) → OptionSound p (h.thread q)

record ChangeSound (p : Program) (c : Change) : Type 0 where
  own : ThreadSound p c.own
  child : OptionSound p c.child

below_same : (p : Program) (top next : Activation) (older : List Activation) → SameEntry top next → Below p top.kind top.kept older → Below p next.kind next.kept older
below_same p top next older same b =
    subst (λ k. Below p k next.kept older) (sym same.kind) (subst (λ f. Below p top.kind f older) (sym same.kept) b)

-- a thread with good frames is good however it stands
standing_sound : (p : Program) (t : Thread) (s : Standing) → FramesSound p t.activations t.registers → StandingSound p t s
standing_sound p t Going f = f
standing_sound p t (Ended v) f = tt
standing_sound p t (Trapped kind line) f = tt
standing_sound p t Full f = tt

own_sound : (p : Program) (t : Thread) → FramesSound p t.activations t.registers → ChangeSound p (own t)
own_sound p t f = record { own = standing_sound p t t.standing f; child = tt }

abbrev MoveSound : Program → Move → Type 0
MoveSound p Stays = Unit {0}
MoveSound p (Moves c) = ChangeSound p c
MoveSound p (Touch q f) = (v : ℕ) → ChangeSound p (f v)
MoveSound p (Join q n least c) = ChangeSound p c

enabled_sound : (p : Program) (h : Heap) (m : Move) (c : Change) → MoveSound p m → Enabled h m c → ChangeSound p c
enabled_sound p h Stays c m e = absurd e
enabled_sound p h (Moves d) c m e = subst (ChangeSound p) e m
enabled_sound p h (Touch q f) c m e = subst (ChangeSound p) e.2 (m e.0)
enabled_sound p h (Join q n least d) c m e = subst (ChangeSound p) e.1 m

returned_frames : (p : Program) (kind : ActivationKind) (kept file : File) (v : ℕ) (older : List Activation) → kind ≡ Called → file ≡ write_register kept A0 (Number v) → Below p kind kept older → FramesSound p older file
returned_frames p Called kept file v [] is e b = absurd b
returned_frames p Called kept file v (a ∷ older) is e b = (subst (Flows any p a) (sym e) (b.0 v), b.1)
returned_frames p Forked kept file v older is e b = absurd (cc)
returned_frames p Root kept file v older is e b = absurd (cc)

printed_sound : (p : Program) (root room : Bool) (byte : ℕ) (t next : Thread) (line : Line) → FramesSound p next.activations next.registers → MoveSound p (printed_move root room byte t next line)
printed_sound p true true byte t next line f = record { own = standing_sound p next next.standing f; child = tt }
printed_sound p true false byte t next line f = record { own = tt; child = tt }
printed_sound p false room byte t next line f = record { own = tt; child = tt }

effect_sound : (p : Program) (path : Path) (t : Thread) (top : Activation) (older : List Activation) (line : Line) (effect : Effect) → EffectFlows any p top effect → Below p top.kind top.kept older → MoveSound p (effect_move path t older line effect)
effect_sound p path t top older line Undefined f b = absurd f
effect_sound p path t top older line (Goes next file) f b = own_sound p (with_frames t (next ∷ older) file) (f.1, below_same p top next older f.0 b)
effect_sound p path t top older line (Calls next callee file) f b =
    own_sound p (with_frames t (callee ∷ next ∷ older) file)
    (f.2, subst (λ k. Below p k callee.kept (next ∷ older)) (sym f.1) (f.3, below_same p top next older f.0 b))
effect_sound p path t top older line (Returns file) f b = own_sound p (with_frames t older file) (returned_frames p top.kind top.kept file f.1.0 older f.0 f.1.1 b)
effect_sound p path t top older line (Ends v kept) f b = record { own = tt; child = tt }
effect_sound p path t top older line (Traps kind) f b = record { own = tt; child = tt }
effect_sound p path t top older line (Prints byte next file) f b =
    printed_sound p (is_root path) _ byte t (record (with_frames t (next ∷ older) file) { bytes = t.bytes + 1 }) line (f.1, below_same p top next older f.0 b)
effect_sound p path t top older line (Forks next child handle passed file) f b =
    let q = path ++ t.forks ∷ [] in
    let flows : Flows any p next (write_register child.kept handle (Future q)) = flows_wider (or_is any q) any p next _ (λ r k. tt) (f.4 q) in
    let frames : FramesSound p (next ∷ older) (write_register file handle (Future q)) =
    (subst (λ k. Flows any p next (write_register k handle (Future q))) f.2 flows, below_same p top next older f.0 b) in
    record {
      own = standing_sound p (record (with_frames t (next ∷ older) (write_register file handle (Future q))) { forks = t.forks + 1 }) t.standing frames;
      child = (f.3, subst (λ k. Below p k child.kept []) (sym f.1) tt);
    }
effect_sound p path t top older line (Touches (Number n) next file) f b = record { own = tt; child = tt }
effect_sound p path t top older line (Touches (Future q) next file) f b = λ v. own_sound p _ (f.2 v, below_same p top next older f.0 b)
effect_sound p path t top older line (Touches (Counter q n) next file) f b = record { own = tt; child = tt }
effect_sound p path t top older line (Counts next file) f b = own_sound p _ (f.1 path t.counters, below_same p top next older f.0 b)
effect_sound p path t top older line (Adds (Number n) next file) f b = record { own = tt; child = tt }
effect_sound p path t top older line (Adds (Future q) next file) f b = record { own = tt; child = tt }
effect_sound p path t top older line (Adds (Counter q n) next file) f b = record { own = standing_sound p (with_frames t (next ∷ older) file) t.standing (f.2, below_same p top next older f.0 b); child = tt }
effect_sound p path t top older line (Joins (Number n) least next file) f b = record { own = tt; child = tt }
effect_sound p path t top older line (Joins (Future q) least next file) f b = record { own = tt; child = tt }
effect_sound p path t top older line (Joins (Counter q n) least next file) f b = own_sound p (with_frames t (next ∷ older) file) (f.2, below_same p top next older f.0 b)

frames_sound : (p : Program) (source : Data) (path : Path) (t : Thread) (frames : List Activation) → IsAccepted p → FramesSound p frames t.registers → MoveSound p (move_of p source path t frames)
frames_sound p source path t [] accepted f = absurd f
frames_sound p source path t (top ∷ older) accepted f =
    let a = item_flows any p source top t.registers accepted f.0 in
    subst (λ o. MoveSound p (move_at p source path t top older o)) (sym a.1) (effect_sound p path t top older a.0.line (item_effect p source a.0.kind top t.registers) a.2 f.1)

move_sound : (p : Program) (source : Data) (path : Path) (t : Thread) (s : Standing) → IsAccepted p → StandingSound p t s → MoveSound p (move_standing p source path t s)
move_sound p source path t Going accepted f = frames_sound p source path t t.activations accepted f
move_sound p source path t (Ended v) accepted f = tt
move_sound p source path t (Trapped kind line) accepted f = tt
move_sound p source path t Full accepted f = tt

put_sound : (p : Program) (b : Bool) (o u : Option Thread) → OptionSound p o → OptionSound p u → OptionSound p (cond b o u)
put_sound p true o u f g = f
put_sound p false o u f g = g

child_sound : (p : Program) (path q : Path) (child : Option Thread) (f : Path → Option Thread) → OptionSound p child → OptionSound p (f q) → OptionSound p (put_child path child f q)
child_sound p path q None f g h = h
child_sound p path q (Some c) f g h = put_sound p (bytes_eq q path) (Some c) (f q) g h

step_sound : (p : Program) (source : Data) (h : Heap) (path : Path) (h' : Heap) → IsAccepted p → HeapSound p h → HStep p source h path h' → HeapSound p h'
unfolding move
step_sound p source h path h' accepted sound step =
    let t = step.thread in
    let here : ThreadSound p t = subst (OptionSound p) step.here (sound path) in
    let c : ChangeSound p step.change = enabled_sound p h (move p source path t) step.change (move_sound p source path t t.standing accepted here) step.enabled in
    subst (HeapSound p) step.next
    (λ q. put_sound p (bytes_eq q path) (Some step.change.own) _ c.own (child_sound p (path ++ t.forks ∷ []) q step.change.child h.thread c.child (sound q)))

run_sound : (p : Program) (source : Data) (h : Heap) (ps : List Path) (h' : Heap) → IsAccepted p → HeapSound p h → Run p source h ps h' → HeapSound p h'
run_sound p source h [] h' accepted sound run = subst (HeapSound p) run sound
run_sound p source h (q ∷ ps) h' accepted sound run = run_sound p source run.0 ps h' accepted (step_sound p source h q run.0 accepted sound run.1) run.2

abbrev FirstSound : Program → Option State → Type 0
FirstSound p None = Unit {0}
FirstSound p (Some s) = HeapSound p (first_heap s)

first_sound : (p : Program) (input : ℕ) (main : ProgramFunction) (s : State) → IsAccepted p → slice_get p.functions p.main ≡ Some main → main.ints ≤ 1 → main.handles ≡ 0 → started p input (Some main) ≡ Some s → HeapSound p (first_heap s)
first_sound p input main s accepted here few none is =
    let first : FirstSound p (started p input (Some main)) = λ q. put_sound p (bytes_eq q []) (Some _) None (start_flows any p input main accepted here few none, tt) tt in
    subst (FirstSound p) is first

effect_is : (p : Program) (top : Activation) (effect : Effect) → EffectFlows any p top effect → effect ≢ Undefined
effect_is p top effect f = λ e. subst (EffectFlows any p top) e f

next_of : (p : Program) (source : Data) (t : Thread) (frames : List Activation) → IsAccepted p → t.activations ≡ frames → FramesSound p frames t.registers → HasNext p source t
next_of p source t [] accepted is f = absurd f
next_of p source t (top ∷ older) accepted is f =
    let a = item_flows any p source top t.registers accepted f.0 in
    (top, (older, (is, (a.0, (a.1, effect_is p top _ a.2)))))

pub heap_defined : HeapDefined
heap_defined p source h q t accepted r here going =
    let s = r.first in
    let is = r.is_first in
    let first = first_sound p (length source.input) accepted.main s accepted accepted.has_main accepted.main_ints accepted.main_handles (subst (λ o. started p (length source.input) o ≡ Some s) accepted.has_main is) in
    let sound = run_sound p source (first_heap s) r.steps h accepted first r.run in
    let good : ThreadSound p t = subst (OptionSound p) here (sound q) in
    next_of p source t t.activations accepted refl (subst (StandingSound p t) going good)
