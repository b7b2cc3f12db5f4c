-- An epilogue frees its activation's frame: it goes back to the caller (return_goes), or to the entry that ends a thread (ends).
use Rattle.std.proofs.Common.{◌≡◌, ◌≢◌, ℕ, ◌+◌, ◌<◌, ◌≤◌, ◌%◌, List, [], ◌∷◌, Option, Some, None, refl, ap, sym, ◌∙◌, subst, arith, slice_get}
use Rattle.st_base.specs.declared.reg.Reg.TheVariants as registers
use Rattle.st_base.specs.declared.thread.Activation.{Activation}
use Rattle.st_base.specs.declared.thread.ActivationKind.{ActivationKind}
use Rattle.st_base.specs.declared.thread.ActivationKind.TheVariants.{Called, Forked, Root}
use Rattle.st_base.specs.declared.thread.Held.{Held}
use Rattle.st_base.specs.declared.thread.Held.TheVariants.{Number, Future, Counter}
use Rattle.st_base.specs.Registers.{read_register, write_register}
use Rattle.st_model.specs.declared.code.Layout.TheVariants.{Unchanged}
use Rattle.st_model.specs.declared.ordinary.State.{State}
use Rattle.st_model.specs.declared.ordinary.Tally.{Tally}
use Rattle.st_model.specs.declared.ordinary.Turn.{Turn}
use Rattle.st_model.specs.declared.ordinary.Turn.TheVariants.{Undefined}
use Rattle.st_model.specs.declared.program.Item.{Item}
use Rattle.st_model.specs.declared.program.ItemKind.{ItemKind}
use Rattle.st_model.specs.declared.program.ItemKind.TheVariants as items
use Rattle.st_model.specs.declared.program.Program.{Program}
use Rattle.st_model.specs.declared.program.ProgramFunction.{ProgramFunction}
use Rattle.st_model.specs.Accepted.{IsAccepted, IsPrologue}
use Rattle.st_model.specs.Effect.{File, number_of, int, with_number, left_by, IsFirst}
use Rattle.st_model.specs.Layout.{saved_of}
use Rattle.st_model.specs.Memory.{Data}
use Rattle.st_model.specs.Ordinary.{step, item_at, apply, returned_to}
use Rattle.st_step.specs.Frames.{value_in, with_saved_values}
use Rattle.st_step.specs.Moves.{register}
use Rattle.st_step.specs.Runs.{Situation, IsReturn, return_word, caller_word}
use Rattle.st_items.specs.Body.{Ends}
use Rattle.st_items.specs.Called.{Calling}
use Rattle.st_items.specs.Code.{IsSized}
use Rattle.st_items.specs.Left.{Left}
use Rattle.st_items.specs.Ways.{Leads}
use Rattle.st_items.proofs.Addresses.{address_multiple, place_bounds}
use Rattle.st_items.proofs.Ending.{forked_ends}
use Rattle.st_items.proofs.Growing.{left_as}
use Rattle.st_items.proofs.ItemCode.{item_of, formed_of, behind_prologue}
use Rattle.st_items.proofs.Leaving.{Comes, Leaves, comes_leads, leaves}
use Rattle.st_items.proofs.Returning.{returns}
use Rattle.st_plain.specs.Frames.{by_place, ComesBack, IsCaller, end_entry, parents_below, Below}
use Rattle.st_plain.specs.Standing.{stack_start, on_stack, IsMachine, Stands, EndsAt, AtEnd}
use Rattle.st_plain.proofs.OnItems.{Stacked, stacked_sees, OlderThan, ends_at, AreEnds, machine_on, body_of, at_line, stands_at}
use Rattle.st_plain.proofs.Turning.{TurnGoes, step_is}

-- ---- where a call comes back to

back_return : (p : Program) (kind : ActivationKind) (a : Activation) (function : ProgramFunction) (ret : ℕ) → IsSized Unchanged p → slice_get p.functions a.function ≡ Some function → ComesBack p kind a function ret → IsReturn ret
back_return p Called a function ret size here back =
    let bounds = place_bounds Unchanged p a.function function a.next size here in
    let fours = address_multiple Unchanged p a.function function a.next in
    record { multiple = omega arith; below = omega arith }
back_return p Forked a function ret size here back =
    let bounds = place_bounds Unchanged p a.function function a.next size here in
    let fours = address_multiple Unchanged p a.function function a.next in
    let e = back.0 in
    record { multiple = omega arith; below = omega arith }
back_return p Root a function ret size here back = absurd back

below_return : (p : Program) (names : List Held) (word : ℕ → ℕ) (high : ℕ) (value : ℕ → ℕ) (low fp ret : ℕ) (kind : ActivationKind) (kept : File) (older : List Activation) (parents : List Tally) → IsSized Unchanged p
    → Below p names word high value low fp ret kind kept older parents → IsReturn ret
below_return p names word high value low fp ret kind kept [] parents size below = let e = below.1 in record { multiple = omega arith; below = omega arith }
below_return p names word high value low fp ret kind kept (a ∷ older) parents size (function, caller, has_parent, below) = back_return p kind a function ret size caller.here caller.back

below_root : (p : Program) (names : List Held) (word : ℕ → ℕ) (high : ℕ) (value : ℕ → ℕ) (low fp ret : ℕ) (kept : File) (older : List Activation) (parents : List Tally)
    → Below p names word high value low fp ret Root kept older parents → ret ≡ end_entry
below_root p names word high value low fp ret kept [] parents below = below.1
below_root p names word high value low fp ret kept (a ∷ older) parents (function, caller, has_parent, below) = absurd caller.back

-- ---- the epilogue

abbrev Frees : Program → Data → ℕ → List Held → Situation → State → Type 0
Frees p d stack names t s = Leaves Unchanged p d (on_stack stack) (OlderThan p stack names t s) (ends_at t) t s.top

frees : (p : Program) (d : Data) (stack : ℕ) (names : List Held) (t : Situation) (s : State) (item : Item) → IsAccepted p → IsSized Unchanged p → stack ≤ 1048576 → stack % 16 ≡ 0 → Stands p stack names t s
    → item_at p s.top ≡ Some item → item.kind ≡ items.Epilogue → Frees p d stack names t s
frees p d stack names t s item accepted size few multiple stands there kind =
    let st = stands.stands in
    let function = st.function in
    let b = register t.state registers.S0 in
    let has = item_of p s.top function item st.here there in
    let some = behind_prologue p function s.top.next item (formed_of p s.top.function function accepted st.here) has.placed (λ is. subst (λ (k : ItemKind). IsPrologue k) kind is) in
    let line = at_line p stack names t s item accepted size few multiple stands some has in
    let back =
    below_return p names t.word (stack_start + stack) (with_saved_values t.word b 0 (saved_of function) (value_in t.state)) b (t.word (caller_word b)) (t.word (return_word b)) s.top.kind s.top.kept s.rest.older s.rest.parents size line.body.framed.below in
    leaves Unchanged p d (on_stack stack) (by_place names) (OlderThan p stack names t s) (ends_at t) (register t.state registers.Sp) t s.top s.registers function item (record { line = line; kind = kind; back = back; low = refl })

-- behind it sp is the base of the frame
freed_ends : (stack : ℕ) (t : Situation) (sp : ℕ) → IsMachine stack t → stack_start ≤ register t.state registers.S0 → sp ≡ register t.state registers.S0 → AreEnds stack (record (ends_at t) { sp = sp })
freed_ends stack t sp machine above is = record { lo = machine.lo; hi = machine.hi; above = omega arith }

base_above : (p : Program) (stack : ℕ) (names : List Held) (t : Situation) (s : State) → Stands p stack names t s → 0 < s.top.next → stack_start ≤ register t.state registers.S0
base_above p stack names t s stands some =
    let base = (body_of p stack names t s stands.stands some).framed.base in
    let above = stands.stands.machine.above in
    omega arith

begun : (p : Program) (stack : ℕ) (names : List Held) (t : Situation) (s : State) (item : Item) → IsAccepted p → Stands p stack names t s → item_at p s.top ≡ Some item → item.kind ≡ items.Epilogue → 0 < s.top.next
begun p stack names t s item accepted stands there kind =
    let st = stands.stands in
    let has = item_of p s.top st.function item st.here there in
    behind_prologue p st.function s.top.next item (formed_of p s.top.function st.function accepted st.here) has.placed (λ is. subst (λ (k : ItemKind). IsPrologue k) kind is)

-- ---- back in the caller

int_held : (o : Option Held) (v : ℕ) → number_of o ≡ Some v → o ≡ Some (Number v)
int_held None v is = absurd (let never : ⊥ = cc in never)
int_held (Some (Number n)) v is = let e : n ≡ v = cc in ap (λ (k : ℕ). Some (Number k)) e
int_held (Some (Future path)) v is = absurd (let never : ⊥ = cc in never)
int_held (Some (Counter maker n)) v is = absurd (let never : ⊥ = cc in never)

returns_to : (p : Program) (d : Data) (stack : ℕ) (names : List Held) (t u : Situation) (s : State) (item : Item) (v : ℕ) (older : List Activation) → IsMachine stack t → stack_start ≤ register t.state registers.S0 → Leads Unchanged p d (on_stack stack) t u
    → Left Unchanged (Stacked p stack names (register t.state registers.S0) older s.rest.parents) (ends_at t) (register t.state registers.S0) t s.top u → s.top.kind ≡ Called → register t.state registers.A0 ≡ v
    → TurnGoes p d stack names t s item (returned_to older s.rest (write_register s.top.kept registers.A0 (Number v)))
returns_to p d stack names t u s item v [] machine above leads left called a0 = tt
returns_to p d stack names t u s item v (a ∷ older) machine above leads left called a0 =
    let (function, caller, has_parent, below) = left.stands in
    let b = register t.state registers.S0 in
    let low = register u.state registers.S0 in
    let parents = parents_below s.top.kind s.rest.parents in
    let named = by_place names in
    let lower = Stacked p stack names low older parents in
    let left' = left_as Unchanged (Stacked p stack names b (a ∷ older) s.rest.parents) (Calling Unchanged p named lower b function a) (ends_at t) b t s.top u left (caller, below) in
    let at = returns Unchanged p named lower b function a (ends_at t) b t u s.top (Number v) left' called a0 in
    let s' : State = record { top = a; registers = write_register s.top.kept registers.A0 (Number v); rest = record s.rest { older = older } } in (
      u,
      leads,
      stands_at p stack names (record (ends_at t) { sp = register u.state registers.Sp }) b low u s' function older parents (freed_ends stack t (register u.state registers.Sp) machine above left.how.1) left.how.1 caller.base refl
          (ap (λ (k : ActivationKind). parents_below k s.rest.parents) called) at,
      refl,
    )

returns_by : (p : Program) (d : Data) (stack : ℕ) (names : List Held) (t : Situation) (s : State) (item : Item) (o : Option ℕ) → int s.registers registers.A0 ≡ o → Stands p stack names t s → stack_start ≤ register t.state registers.S0 → Frees p d stack names t s → s.top.kind ≡ Called
    → TurnGoes p d stack names t s item (apply s.rest item.line (with_number o (left_by s.top.kind s.top.kept)))
returns_by p d stack names t s item None is stands above freed kind = tt
returns_by p d stack names t s item (Some v) is stands above (u, comes, left) kind =
    let a0 = stands.stands.file 10 (Number v) (int_held (read_register s.registers registers.A0) v is) in
    subst (λ (k : ActivationKind). TurnGoes p d stack names t s item (apply s.rest item.line (left_by k s.top.kept v))) (sym kind)
    (returns_to p d stack names t u s item v s.rest.older stands.stands.machine above (comes_leads Unchanged p d (on_stack stack) t u comes) left kind a0)

pub return_goes : (p : Program) (d : Data) (stack : ℕ) (names : List Held) (t : Situation) (s : State) (item : Item) → IsAccepted p → IsSized Unchanged p → stack ≤ 1048576 → stack % 16 ≡ 0 → Stands p stack names t s
    → item_at p s.top ≡ Some item → item.kind ≡ items.Epilogue → s.top.kind ≡ Called → TurnGoes p d stack names t s item (step p d s)
return_goes p d stack names t s item accepted size few multiple stands there kind called =
    let above = base_above p stack names t s stands (begun p stack names t s item accepted stands there kind) in
    subst (λ (x : Turn). TurnGoes p d stack names t s item x) (sym (step_is p d s item items.Epilogue there kind))
    (returns_by p d stack names t s item (int s.registers registers.A0) refl stands above (frees p d stack names t s item accepted size few multiple stands there kind) called)

-- ---- at the end of a thread

-- the machine at the entry that ends it
record IsEnded (p : Program) (d : Data) (stack : ℕ) (names : List Held) (t : Situation) (s : State) (older : List Activation) : Type 0 where
  last : Situation
  way : Leads Unchanged p d (on_stack stack) t last
  whole : last.state.half ≡ None
  machine : IsMachine stack last
  a0 : register last.state registers.A0 ≡ register t.state registers.A0
  ret : ℕ
  ends : EndsAt s.top.kind ret last.state.pc (register last.state registers.Ra)
  below : Below p names last.word (stack_start + stack) (value_in last.state) (register last.state registers.Sp) (register last.state registers.S0) ret s.top.kind s.top.kept older s.rest.parents

module _ (p : Program) (d : Data) (stack : ℕ) (names : List Held) (t u : Situation) (s : State) (accepted : IsAccepted p) (size : IsSized Unchanged p) (machine : IsMachine stack t) (above : stack_start ≤ register t.state registers.S0) (comes : Comes Unchanged p d (on_stack stack) t u) where
  abbrev b : ℕ
  b = register t.state registers.S0

  abbrev freed : Ends
  freed = record (ends_at t) { sp = register u.state registers.Sp }

  root_ends : (older : List Activation) → Left Unchanged (Stacked p stack names b older s.rest.parents) (ends_at t) b t s.top u → s.top.kind ≡ Root → IsEnded p d stack names t s older
  root_ends older left root =
      let kept = subst (λ (k : ActivationKind). Below p names u.word (stack_start + stack) (value_in u.state) b (register u.state registers.S0) u.state.pc k s.top.kept older s.rest.parents) root left.stands in
      record {
        last = u;
        way = comes_leads Unchanged p d (on_stack stack) t u comes;
        whole = left.whole;
        machine = machine_on stack freed u (freed_ends stack t (register u.state registers.Sp) machine above left.how.1) left.machine;
        a0 = left.a0;
        ret = u.state.pc;
        ends =
            subst (λ (k : ActivationKind). EndsAt k u.state.pc u.state.pc (register u.state registers.Ra)) (sym root)
            (below_root p names u.word (stack_start + stack) (value_in u.state) b (register u.state registers.S0) u.state.pc s.top.kept older s.rest.parents kept);
        below = subst (λ (n : ℕ). Below p names u.word (stack_start + stack) (value_in u.state) n (register u.state registers.S0) u.state.pc s.top.kind s.top.kept older s.rest.parents) (sym left.how.1) left.stands;
      }

  child_ends : (older : List Activation) → Left Unchanged (Stacked p stack names b older s.rest.parents) (ends_at t) b t s.top u → s.top.kind ≡ Forked → IsEnded p d stack names t s older
  child_ends [] left forked = absurd (let root = left.stands.0 in let never : ⊥ = cc in never)
  child_ends (a ∷ older) left forked =
      let (function, caller, has_parent, below) = left.stands in
      let low = register u.state registers.S0 in
      let parents = parents_below s.top.kind s.rest.parents in
      let named = by_place names in
      let lower = Stacked p stack names low older parents in
      let base = caller.base in
      let left' = left_as Unchanged (Stacked p stack names b (a ∷ older) s.rest.parents) (Calling Unchanged p named lower b function a) (ends_at t) b t s.top u left (caller, below) in
      let sees = stacked_sees p stack names low b (b + function.frame_bytes) older parents accepted (omega arith) (omega arith) in
      let (v, way, words, ended) = forked_ends Unchanged p named lower b function a d (on_stack stack) (ends_at t) b t u s.top size sees comes left' forked in
      let framed = ended.body.framed in
      let back : ComesBack p Forked a function u.state.pc = subst (λ (k : ActivationKind). ComesBack p k a function u.state.pc) forked caller.back in
      let sp_is : b ≡ register v.state registers.Sp = sym (ended.body.machine.sp ∙ left.how.1) in
      let fp = register v.state registers.S0 in
      let fp_is : low ≡ fp = base ∙ sym framed.base in
      let caller' : IsCaller p names v.word (value_in v.state) b fp u.state.pc s.top.kind s.top.kept a function = record {
        here = caller.here;
        begun = caller.begun;
        base = framed.base;
        back = caller.back;
        file = ended.body.file;
        long = caller.long;
        holds = caller.holds;
        slots = framed.slots;
      } in
      let under = subst (λ (n : ℕ). Below p names v.word (stack_start + stack) (with_saved_values v.word fp 0 (saved_of function) (value_in v.state)) n (v.word (caller_word fp)) (v.word (return_word fp)) a.kind a.kept older parents) fp_is framed.below in
      let all : Below p names v.word (stack_start + stack) (value_in v.state) b fp u.state.pc s.top.kind s.top.kept (a ∷ older) s.rest.parents = (function, caller', has_parent, under) in
      record {
        last = v;
        way = way;
        whole = ended.whole;
        machine = machine_on stack freed v (freed_ends stack t (register u.state registers.Sp) machine above left.how.1) ended.body.machine;
        a0 = ended.value_is;
        ret = u.state.pc;
        ends = subst (λ (k : ActivationKind). EndsAt k u.state.pc v.state.pc (register v.state registers.Ra)) (sym forked) (ended.at, ended.back ∙ sym back.0);
        below = subst (λ (n : ℕ). Below p names v.word (stack_start + stack) (value_in v.state) n fp u.state.pc s.top.kind s.top.kept (a ∷ older) s.rest.parents) sp_is all;
      }

  thread_ends : (kind : ActivationKind) → Left Unchanged (OlderThan p stack names t s) (ends_at t) b t s.top u → s.top.kind ≡ kind → IsFirst kind → IsEnded p d stack names t s s.rest.older
  thread_ends Called left kind first = absurd first
  thread_ends Root left kind first = root_ends s.rest.older left kind
  thread_ends Forked left kind first = child_ends s.rest.older left kind

-- a number is in a0 where the epilogue's turn is defined
defined_a0 : (s : State) (item : Item) (o : Option ℕ) → apply s.rest item.line (with_number o (left_by s.top.kind s.top.kept)) ≢ Undefined → (v : ℕ) × (o ≡ Some v)
defined_a0 s item None defined = absurd (defined refl)
defined_a0 s item (Some v) defined = (v, refl)

pub ends : (p : Program) (d : Data) (stack : ℕ) (names : List Held) (t : Situation) (s : State) (item : Item) → IsAccepted p → IsSized Unchanged p → stack ≤ 1048576 → stack % 16 ≡ 0 → Stands p stack names t s
    → item_at p s.top ≡ Some item → item.kind ≡ items.Epilogue → IsFirst s.top.kind → step p d s ≢ Undefined → (u : Situation) × Leads Unchanged p d (on_stack stack) t u × AtEnd p stack names u s
ends p d stack names t s item accepted size few multiple stands there kind first defined =
    let st = stands.stands in
    let has = item_of p s.top st.function item st.here there in
    let above = base_above p stack names t s stands (begun p stack names t s item accepted stands there kind) in
    let (u, comes, left) = frees p d stack names t s item accepted size few multiple stands there kind in
    let ended = thread_ends p d stack names t u s accepted size st.machine above comes s.top.kind left refl first in
    let (v, is) = defined_a0 s item (int s.registers registers.A0) (λ e. defined (step_is p d s item items.Epilogue there kind ∙ e)) in
    let a0 : register ended.last.state registers.A0 ≡ v = ended.a0 ∙ st.file 10 (Number v) (int_held (read_register s.registers registers.A0) v is) in (
      ended.last,
      ended.way,
      record {
        function = st.function;
        here = st.here;
        item = item;
        placed = has.placed;
        epilogue = kind;
        machine = ended.machine;
        value = is ∙ ap Some (sym a0);
        ret = ended.ret;
        ends = ended.ends;
        below = ended.below;
        whole = ended.whole;
      },
    )
