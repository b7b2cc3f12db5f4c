-- A jump that leaves the address behind it in ra (linked): what stands over it (linked_on, body_linked). So a call leads to the first word of its
-- function, where the new activation stands before its prologue (call_enters); a fork's second jump does so likewise (fork_enters), and its
-- third leads to the entry that ends the child (third_jump); and an item that calls an entry leads there (entry_leads), and from there on
-- (entry_back, fork_back).
use Rattle.std.proofs.Common.{◌≡◌, ◌≢◌, ℕ, ◌+◌, ◌-◌, ◌^◌, ◌<◌, Bool, Some, None, slice_get, refl, ap, sym, ◌∙◌, subst, arith}
use Rattle.st_base.specs.declared.reg.Reg.{Reg}
use Rattle.st_base.specs.declared.reg.Reg.TheVariants as registers
use Rattle.st_base.specs.declared.registers.Pick.TheVariants.{Saved, Arguments}
use Rattle.st_base.specs.Registers.{picked}
use Rattle.st_base.specs.declared.thread.Activation.{Activation}
use Rattle.st_base.specs.declared.thread.ActivationKind.{ActivationKind}
use Rattle.st_base.specs.declared.thread.ActivationKind.TheVariants.{Called, Forked}
use Rattle.st_model.specs.declared.code.Layout.{Layout}
use Rattle.st_model.specs.declared.program.Item.{Item}
use Rattle.st_model.specs.declared.program.ItemKind.{ItemKind}
use Rattle.st_model.specs.declared.program.ItemKind.TheVariants as items
use Rattle.st_model.specs.declared.program.Program.{Program}
use Rattle.st_model.specs.declared.program.ProgramFunction.{ProgramFunction}
use Rattle.st_model.specs.Accepted.{IsAccepted, IsPrologue}
use Rattle.st_model.specs.Effect.{File, advanced, entered}
use Rattle.st_model.specs.Layout.{item_size, saved_of, function_address, fork_out}
use Rattle.st_model.specs.Memory.{Data}
use Rattle.st_step.specs.Moves.{register, at_place}
use Rattle.st_step.specs.Runs.{Situation, return_word, caller_word}
use Rattle.st_step.specs.Frames.{address_in, Naming, value_in, with_saved_values, ComesBack, IsFork, IsCaller}
use Rattle.st_items.specs.Code.{HasItem, IsSized}
use Rattle.st_items.specs.Ways.{Makes, Leads, JumpsTo, linked}
use Rattle.st_items.specs.Body.{Ends, IsOn, Context, SeesOutside, IsFramed, IsInBody, IsAtLine, StandsAt}
use Rattle.st_items.specs.Entered.{IsEntered}
use Rattle.st_items.specs.Called.{Calling, Enters, AtEntry, IsAtSecond, IsThird}
use Rattle.st_items.proofs.Addresses.{address_bounds, next_address, first_address}
use Rattle.st_items.proofs.Body.{body_moved}
use Rattle.st_items.proofs.Callers.{IsMachine, machine_written}
use Rattle.st_items.proofs.ItemCode.{formed_of}
use Rattle.st_items.proofs.Jumps.{call_jumps, entry_jumps, entry_small, fork_in_jumps, fork_call_jumps, fork_out_jumps}
use Rattle.st_items.proofs.KeptFiles.{not_kept, picked_long, picked_file, holds_saved, frameless_arguments, file_over}
use Rattle.st_items.proofs.SavedRegisters.{value-written_other, value-written_same, saved_same}
use Rattle.st_items.proofs.Ways.{jump_makes, jump_leads}

-- ---- the machine

pub linked_other : (t : Situation) (target x : ℕ) → x ≢ 1 → value_in (linked t target).state x ≡ value_in t.state x
linked_other t target x other = value-written_other t.state registers.Ra (t.state.pc + 4) x other

pub linked_ra : (ends : Ends) (t : Situation) (target : ℕ) → IsOn ends t → register (linked t target).state registers.Ra ≡ t.state.pc + 4
linked_ra ends t target on = value-written_same t.state registers.Ra (t.state.pc + 4) on.has_registers.count refl

pub linked_on : (ends : Ends) (t : Situation) (target : ℕ) → t.state.pc + 4 < 2 ^ 64 → IsOn ends t → IsOn ends (linked t target)
linked_on ends t target low on =
    let is : IsMachine ends.lo ends.hi t.state = record { has_registers = on.has_registers; values = on.values; low = on.lo; high = on.hi } in
    let is_linked = machine_written ends.lo ends.hi t.state registers.Ra (t.state.pc + 4) low is in
    record {
      has_registers = record { count = is_linked.has_registers.count; origin = is_linked.has_registers.origin };
      values = is_linked.values;
      words = on.words;
      lo = is_linked.low;
      hi = is_linked.high;
      sp = linked_other t target 2 (λ e. absurd (omega (arith, e))) ∙ on.sp;
      gp = linked_other t target 3 (λ e. absurd (omega (arith, e))) ∙ on.gp;
    }

-- ---- the activation

-- an activation is where it was, and what is older too
pub framed_linked : (names : Naming) (older : Context) (t : Situation) (target bottom : ℕ) (function : ProgramFunction) (a : Activation) → SeesOutside older bottom (bottom + function.frame_bytes)
    → IsFramed names older t.word (value_in t.state) bottom (register t.state registers.S0) function a → IsFramed names older t.word (value_in (linked t target).state) bottom (register (linked t target).state registers.S0) function a
framed_linked names older t target bottom function a sees framed =
    let b = register t.state registers.S0 in
    let saved = saved_of function in
    let value = value_in t.state in
    let value' = value_in (linked t target).state in
    let fp = linked_other t target 8 (λ e. absurd (omega (arith, e))) in
    let below = sees a.kind a.kept t.word t.word (with_saved_values t.word b 0 saved value) (with_saved_values t.word b 0 saved value') (t.word (caller_word b)) (t.word (return_word b)) (λ q out. refl)
    (λ x is. saved_same t.word b 0 saved value value' x (sym (linked_other t target x (not_kept x 1 is refl)))) framed.below in
    record {
      base = fp ∙ framed.base;
      slots = framed.slots;
      below = subst (λ (n : ℕ). older a.kind a.kept t.word (with_saved_values t.word n 0 saved value') (t.word (caller_word n)) (t.word (return_word n))) (sym fp) below;
    }

pub body_linked : (p : Program) (names : Naming) (older : Context) (ends : Ends) (bottom : ℕ) (t : Situation) (target : ℕ) (top : Activation) (file : File) (function : ProgramFunction) → t.state.pc + 4 < 2 ^ 64 → SeesOutside older bottom (bottom + function.frame_bytes)
    → IsInBody p names older ends bottom t top file function → IsInBody p names older ends bottom (linked t target) top file function
body_linked p names older ends bottom t target top file function low sees body = record {
  here = body.here;
  machine = linked_on ends t target low body.machine;
  file = file_over names file (value_in t.state) (value_in (linked t target).state) body.frameless (λ x not_ra not_sp not_fp. sym (linked_other t target x not_ra)) body.file;
  frameless = body.frameless;
  framed = framed_linked names older t target bottom function top sees body.framed;
}

-- ---- a function that is called

prologue_is : (kind : ItemKind) → IsPrologue kind → kind ≡ items.Prologue
prologue_is items.Prologue is = refl
prologue_is _ is = absurd is

-- what a call makes: an activation before its prologue, above its caller
abbrev pub Entering : Layout → Program → Naming → Context → Ends → ℕ → Situation → Activation → File → ProgramFunction → ActivationKind → ℕ → ProgramFunction → Type 0
Entering layout p names older ends bottom u top file function kind g callee =
    (first : Item) × IsEntered layout p names (Calling layout p names older bottom function (advanced top)) ends u (entered g callee (picked Saved file) kind) (picked (Arguments callee.ints callee.handles) file) callee first

-- by the caller's body, over the machine at the first word of the function
pub enters_by : (layout : Layout) (p : Program) (names : Naming) (older : Context) (ends : Ends) (bottom : ℕ) (u : Situation) (top : Activation) (file : File) (function : ProgramFunction) (kind : ActivationKind) (g : ℕ) (callee : ProgramFunction) → IsAccepted p → IsSized layout p → slice_get p.functions g ≡ Some callee
    → IsInBody p names older ends bottom u top file function → ComesBack layout p kind (advanced top) function (register u.state registers.Ra) → u.state.pc ≡ function_address layout p g → u.state.half ≡ None → Entering layout p names older ends bottom u top file function kind g callee
enters_by layout p names older ends bottom u top file function kind g callee accepted size callee_is body back at whole =
    let (first, placed, is) = (formed_of p g callee accepted callee_is).begins in
    let slots = body.framed.slots in
    let caller : IsCaller layout p names u.word (value_in u.state) bottom (register u.state registers.S0) (register u.state registers.Ra) kind (picked Saved file) (advanced top) function = record {
      here = body.here;
      begun = omega arith;
      base = body.framed.base;
      back = back;
      file = picked_file names Saved file (value_in u.state) body.file;
      long = picked_long Saved file;
      holds = holds_saved file;
      slots = record { bytes_long = slots.bytes_long; handles_long = slots.handles_long; bytes = slots.bytes; handles = slots.handles };
    } in (
      first,
      record {
        accepted = accepted;
        size = size;
        first = refl;
        has = record { named = callee_is; placed = placed };
        kind = prologue_is first.kind is;
        machine = body.machine;
        holding = picked_file names (Arguments callee.ints callee.handles) file (value_in u.state) body.file;
        frameless = frameless_arguments callee.ints callee.handles file;
        bytes = refl;
        handles = refl;
        below = (caller, body.framed.below);
        at = at ∙ sym (first_address layout p g callee);
        whole = whole;
      },
    )

pub call_enters : (layout : Layout) (p : Program) (d : Data) (held : ℕ → Bool) (names : Naming) (older : Context) (ends : Ends) (bottom : ℕ) (t : Situation) (top : Activation) (file : File) (function : ProgramFunction) (item : Item) (g : ℕ) (callee : ProgramFunction) → IsAtLine layout p held names older ends bottom t top file function item → item.kind ≡ items.Call g → slice_get p.functions g ≡ Some callee
    → (u : Situation) × Leads layout p d held t u × (u.word ≡ t.word) × Entering layout p names older ends bottom u top file function Called g callee
call_enters layout p d held names older ends bottom t top file function item g callee line kind callee_is =
    let target = function_address layout p g in
    let u = linked t target in
    let jumps = subst (λ (n : ℕ). JumpsTo layout p n registers.Ra target) (sym line.at) (call_jumps layout p top.function function top.next item g line.size line.has kind) in
    let bounds = address_bounds layout p top.function function top.next item line.size line.has in
    let far = bounds.1 in
    let at = line.at in
    let one : item_size layout function item.kind ≡ 1 = ap (λ (k : ItemKind). item_size layout function k) kind in
    let next = next_address layout p top.function function top.next item line.has in
    let ra = linked_ra ends t target line.body.machine in
    let back : register u.state registers.Ra ≡ address_in layout p top.function function (top.next + 1) = omega arith in (
      u,
      jump_leads layout p d held t target jumps,
      refl,
      enters_by layout p names older ends bottom u top file function Called g callee line.accepted line.size callee_is (body_linked p names older ends bottom t target top file function (omega arith) line.sees line.body) back refl refl,
    )

-- ---- an entry of the runtime

entry_by : (layout : Layout) (p : Program) (d : Data) (held : ℕ → Bool) (names : Naming) (older : Context) (ends : Ends) (bottom : ℕ) (t : Situation) (top : Activation) (file : File) (function : ProgramFunction) (item : Item) (entry : ℕ) → IsAtLine layout p held names older ends bottom t top file function item
    → 0 < item_size layout function item.kind → JumpsTo layout p (address_in layout p top.function function top.next) registers.Ra entry → (u : Situation) × Leads layout p d held t u × (u.word ≡ t.word) × AtEntry layout p names older ends bottom u top file function entry
entry_by layout p d held names older ends bottom t top file function item entry line some jumps =
    let bounds = address_bounds layout p top.function function top.next item line.size line.has in
    let far = bounds.1 in
    let at = line.at in
    let ra = linked_ra ends t entry line.body.machine in (
      linked t entry,
      jump_leads layout p d held t entry (subst (λ (n : ℕ). JumpsTo layout p n registers.Ra entry) (sym line.at) jumps),
      refl,
      record {
        body = body_linked p names older ends bottom t entry top file function (omega arith) line.sees line.body;
        at = refl;
        back = omega arith;
        whole = refl;
      },
    )

entry_as : (layout : Layout) (p : Program) (d : Data) (held : ℕ → Bool) (names : Naming) (older : Context) (ends : Ends) (bottom : ℕ) (t : Situation) (top : Activation) (file : File) (function : ProgramFunction) (item : Item) (kind : ItemKind) (entry : ℕ) → IsAtLine layout p held names older ends bottom t top file function item
    → item.kind ≡ kind → Enters kind entry → (u : Situation) × Leads layout p d held t u × (u.word ≡ t.word) × AtEntry layout p names older ends bottom u top file function entry
entry_as layout p d held names older ends bottom t top file function item (items.Entry at) entry line is enters =
    let one : item_size layout function item.kind ≡ 1 = ap (λ (k : ItemKind). item_size layout function k) is in
    let low = entry_small layout p top.function function top.next item at line.accepted line.has is in
    entry_by layout p d held names older ends bottom t top file function item entry line (omega arith)
    (subst (λ (n : ℕ). JumpsTo layout p (address_in layout p top.function function top.next) registers.Ra n) (sym enters) (entry_jumps layout p top.function function top.next item at line.size line.has is low))
entry_as layout p d held names older ends bottom t top file function item (items.Fork g handle) entry line is enters =
    let three : item_size layout function item.kind ≡ 3 = ap (λ (k : ItemKind). item_size layout function k) is in
    entry_by layout p d held names older ends bottom t top file function item entry line (omega arith)
    (subst (λ (n : ℕ). JumpsTo layout p (address_in layout p top.function function top.next) registers.Ra n) (sym enters) (fork_in_jumps layout p top.function function top.next item g handle line.size line.has is))
entry_as layout p d held names older ends bottom t top file function item items.Prologue entry line is enters = absurd enters
entry_as layout p d held names older ends bottom t top file function item items.Epilogue entry line is enters = absurd enters
entry_as layout p d held names older ends bottom t top file function item (items.Plain i) entry line is enters = absurd enters
entry_as layout p d held names older ends bottom t top file function item (items.Li rd value) entry line is enters = absurd enters
entry_as layout p d held names older ends bottom t top file function item (items.Branch op rs1 rs2 to) entry line is enters = absurd enters
entry_as layout p d held names older ends bottom t top file function item (items.Jump to) entry line is enters = absurd enters
entry_as layout p d held names older ends bottom t top file function item (items.Call g) entry line is enters = absurd enters

pub entry_leads : (layout : Layout) (p : Program) (d : Data) (held : ℕ → Bool) (names : Naming) (older : Context) (ends : Ends) (bottom : ℕ) (t : Situation) (top : Activation) (file : File) (function : ProgramFunction) (item : Item) (entry : ℕ) → IsAtLine layout p held names older ends bottom t top file function item
    → Enters item.kind entry → (u : Situation) × Leads layout p d held t u × (u.word ≡ t.word) × AtEntry layout p names older ends bottom u top file function entry
entry_leads layout p d held names older ends bottom t top file function item entry line enters = entry_as layout p d held names older ends bottom t top file function item item.kind entry line refl enters

-- behind an item that called an entry, where the runtime has changed no register and goes back
pub entry_back : (layout : Layout) (p : Program) (names : Naming) (older : Context) (ends : Ends) (bottom : ℕ) (u : Situation) (top : Activation) (file : File) (function : ProgramFunction) (item : Item) (at entry : ℕ) → HasItem p top.function function top.next item → item.kind ≡ items.Entry at → AtEntry layout p names older ends bottom u top file function entry
    → StandsAt layout p names older ends bottom (record { state = at_place (register u.state registers.Ra) u.state; word = u.word }) (advanced top) file function
entry_back layout p names older ends bottom u top file function item at entry has kind called =
    let one : item_size layout function item.kind ≡ 1 = ap (λ (k : ItemKind). item_size layout function k) kind in
    let next = next_address layout p top.function function top.next item has in
    let back = called.back in
    record {
      body = body_moved p names older ends bottom u top file function (register u.state registers.Ra) (top.next + 1) called.body;
      begun = omega arith;
      at = omega arith;
      whole = refl;
    }

-- ---- forks

-- behind its first jump, where the runtime has changed no register and goes back
pub fork_back : (layout : Layout) (p : Program) (names : Naming) (older : Context) (ends : Ends) (bottom : ℕ) (u : Situation) (top : Activation) (file : File) (function : ProgramFunction) (item : Item) (g : ℕ) (handle : Reg) (entry : ℕ) → IsAccepted p → IsSized layout p → HasItem p top.function function top.next item → item.kind ≡ items.Fork g handle → SeesOutside older bottom (bottom + function.frame_bytes) → AtEntry layout p names older ends bottom u top file function entry
    → IsAtSecond layout p names older ends bottom (record { state = at_place (register u.state registers.Ra) u.state; word = u.word }) top file function item g handle
fork_back layout p names older ends bottom u top file function item g handle entry accepted size has kind sees called = record {
  accepted = accepted;
  size = size;
  has = has;
  kind = kind;
  body = body_moved p names older ends bottom u top file function (register u.state registers.Ra) top.next called.body;
  sees = sees;
  at = called.back;
  whole = refl;
}

-- the second jump of a fork calls its function
pub fork_enters : (layout : Layout) (p : Program) (d : Data) (held : ℕ → Bool) (names : Naming) (older : Context) (ends : Ends) (bottom : ℕ) (t : Situation) (top : Activation) (file : File) (function : ProgramFunction) (item : Item) (g : ℕ) (handle : Reg) (callee : ProgramFunction) → IsAtSecond layout p names older ends bottom t top file function item g handle → slice_get p.functions g ≡ Some callee
    → (u : Situation) × Makes layout p d held t u × (u.word ≡ t.word) × Entering layout p names older ends bottom u top file function Forked g callee
fork_enters layout p d held names older ends bottom t top file function item g handle callee second callee_is =
    let target = function_address layout p g in
    let u = linked t target in
    let jumps = subst (λ (n : ℕ). JumpsTo layout p n registers.Ra target) (sym second.at) (fork_call_jumps layout p top.function function top.next item g handle second.size second.has second.kind) in
    let bounds = address_bounds layout p top.function function top.next item second.size second.has in
    let far = bounds.1 in
    let at = second.at in
    let three : item_size layout function item.kind ≡ 3 = ap (λ (k : ItemKind). item_size layout function k) second.kind in
    let next = next_address layout p top.function function top.next item second.has in
    let ra = linked_ra ends t target second.body.machine in
    let back : register u.state registers.Ra + 4 ≡ address_in layout p top.function function (top.next + 1) = omega arith in
    let same : top.next ≡ top.next + 1 - 1 = omega arith in
    let placed : slice_get function.items (top.next + 1 - 1) ≡ Some item = subst (λ (n : ℕ). slice_get function.items n ≡ Some item) same second.has.placed in (
      u,
      jump_makes layout p d held t target jumps,
      refl,
      enters_by layout p names older ends bottom u top file function Forked g callee second.accepted second.size callee_is (body_linked p names older ends bottom t target top file function (omega arith) second.sees second.body)
          (back, (item, placed, subst (λ (k : ItemKind). IsFork k) (sym second.kind) tt)) refl refl,
    )

fork_is : (kind : ItemKind) → IsFork kind → (g : ℕ) × (handle : Reg) × (kind ≡ items.Fork g handle)
fork_is items.Prologue is = absurd is
fork_is items.Epilogue is = absurd is
fork_is (items.Plain i) is = absurd is
fork_is (items.Li rd value) is = absurd is
fork_is (items.Branch op rs1 rs2 to) is = absurd is
fork_is (items.Jump to) is = absurd is
fork_is (items.Call f) is = absurd is
fork_is (items.Entry at) is = absurd is
fork_is (items.Fork g handle) is = (g, handle, refl)

-- where a fork's call comes back to stands its third jump
pub third_jump : (layout : Layout) (p : Program) (a : Activation) (function : ProgramFunction) (ret : ℕ) → IsSized layout p → slice_get p.functions a.function ≡ Some function → 0 < a.next → ComesBack layout p Forked a function ret → IsThird layout p ret
third_jump layout p a function ret size here begun (next, (item, placed, is)) =
    let (g, handle, kind) = fork_is item.kind is in
    let i = a.next - 1 in
    let has : HasItem p a.function function i item = record { named = here; placed = placed } in
    let after = next_address layout p a.function function i item has in
    let three : item_size layout function item.kind ≡ 3 = ap (λ (k : ItemKind). item_size layout function k) kind in
    let same : i + 1 ≡ a.next = omega arith in
    let address = ap (λ (k : ℕ). address_in layout p a.function function k) same in
    let third : address_in layout p a.function function i + 8 ≡ ret = omega arith in
    record {
      jumps = subst (λ (n : ℕ). JumpsTo layout p n registers.Ra fork_out) third (fork_out_jumps layout p a.function function i item g handle size has kind);
      behind = record { f = a.function; function = function; i = i; item = item; has = has; k = 2; some = omega arith; few = omega arith; at = omega arith };
    }
