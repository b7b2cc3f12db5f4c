-- Where jumps and branches of code go, in either layout. At an address stands a jump to another (JumpsTo): to a called function (call_jumps), to the
-- item of a jump (goto_jumps), to a runtime entry (entry_jumps, with entry_small), and the three of a fork (fork_in_jumps,
-- fork_call_jumps, fork_out_jumps). A branch stands at its item (branch_code), and where it is taken it goes to another (branch_target).
use Rattle.std.proofs.Common.{◌≡◌, ◌∙◌, inl, inr, ℕ, ◌+◌, ◌-◌, ◌*◌, ◌%◌, ◌^◌, ◌≤◌, ◌<◌, pos, negsuc, ◌-ℤ◌, Bool, true, false, Option, Some, None, cond, slice_get, refl, ap, sym, subst, arith, lit<}
use Rattle.std.specs.Prelude.{ℤ, ◌==◌}
use Rattle.std.proofs.lemmas.Bool.{cases_lt, eqb-true}
use Rattle.std.proofs.lemmas.Int.{ints}
use Rattle.st_base.specs.declared.reg.Reg.{Reg}
use Rattle.st_base.specs.declared.reg.Reg.TheVariants as registers
use Rattle.st_rv.specs.declared.ins.Op.{Op}
use Rattle.st_rv.specs.declared.ins.Op.TheVariants as ops
use Rattle.st_rv.specs.Results.{word_of}
use Rattle.st_model.specs.declared.code.Layout.{Layout}
use Rattle.st_model.specs.declared.code.PostedIns.{PostedIns}
use Rattle.st_model.specs.declared.code.PostedIns.TheVariants as posted
use Rattle.st_model.specs.declared.program.Item.{Item}
use Rattle.st_model.specs.declared.program.ItemKind.{ItemKind}
use Rattle.st_model.specs.declared.program.ItemKind.TheVariants as items
use Rattle.st_model.specs.declared.program.Program.{Program}
use Rattle.st_model.specs.declared.program.ProgramFunction.{ProgramFunction}
use Rattle.st_model.specs.declared.program.RuntimeCall.{RuntimeCall}
use Rattle.st_model.specs.declared.program.RuntimeCall.TheVariants.{Touch, Counter as CounterCall, Done, Join, Poll, Putc}
use Rattle.st_model.specs.Accepted.{IsAccepted, Fits}
use Rattle.st_model.specs.Effect.{runtime_call}
use Rattle.st_model.specs.Layout.{branch_ins, upper_ins, distance, item_ins, item_size, item_place, function_address, fork_in, fork_out, resolved}
use Rattle.st_step.specs.Moves.{from_pc}
use Rattle.st_items.specs.Code.{code_at, HasItem, IsSized}
use Rattle.st_step.specs.Frames.{address_in}
use Rattle.st_items.specs.Ways.{JumpsTo}
use Rattle.st_items.proofs.Addresses.{address_bounds, place_bounds, function_bounds, item_code}

-- ---- distances

word_of_ahead : (z : ℤ) (x y : ℕ) → z ≡ pos x -ℤ pos y → y ≤ x → word_of z ≡ x - y
word_of_ahead (pos n) x y is ahead = omega (arith, ints)
word_of_ahead (negsuc n) x y is ahead = absurd (omega (arith, ints))

word_of_behind : (z : ℤ) (x y : ℕ) → z ≡ pos x -ℤ pos y → x < y → y ≤ x + 2 ^ 32 → word_of z + (y - x) ≡ 2 ^ 64
word_of_behind (pos n) x y is behind near = absurd (omega (arith, ints))
word_of_behind (negsuc n) x y is behind near = omega (arith, ints)

-- from an address of 32 bits to another
pub from_pc_to : (pc x y target : ℕ) → pc < 2 ^ 32 → target < 2 ^ 32 → pc + x ≡ target + y → from_pc pc (pos x -ℤ pos y) ≡ target
from_pc_to pc x y target low near is =
    elim (cases_lt x y) [
      | inl behind ↦
          let word : word_of (pos x -ℤ pos y) + (y - x) ≡ 2 ^ 64 = word_of_behind (pos x -ℤ pos y) x y refl behind (omega arith) in
          let sum : pc + word_of (pos x -ℤ pos y) ≡ 2 ^ 64 + target = omega (arith, word) in
          ap (λ (n : ℕ). n % 2 ^ 32) sum ∙ omega arith
      | inr ahead ↦
          let word : word_of (pos x -ℤ pos y) ≡ x - y = word_of_ahead (pos x -ℤ pos y) x y refl ahead in
          let sum : pc + word_of (pos x -ℤ pos y) ≡ target = omega (arith, word) in
          ap (λ (n : ℕ). n % 2 ^ 32) sum ∙ omega arith
    ]

-- ---- jumps

module _ (layout : Layout) where
  -- the instruction x of an item's k-th word, which is a jump to a target
  jumps-by : (p : Program) (f : ℕ) (function : ProgramFunction) (i : ℕ) (item : Item) (kind : ItemKind) (k : ℕ) (x : PostedIns) (rd : Reg) (a b target : ℕ) → IsSized layout p → HasItem p f function i item → item.kind ≡ kind → k < item_size layout function kind → slice_get (item_ins layout function (item_place layout function i) kind) k ≡ Some x → resolved layout p (address_in layout p f function i + 4 * k) (item_place layout function i + k) x ≡ upper_ins ops.Jal rd (pos a -ℤ pos b) → target < 2 ^ 31 → address_in layout p f function i + 4 * k + a ≡ target + b → JumpsTo layout p (address_in layout p f function i + 4 * k) rd target
  jumps-by p f function i item kind k x rd a b target size has is inside e jal low gap =
      let bounds = address_bounds layout p f function i item size has in
      let within : k < item_size layout function item.kind = subst (λ (c : ItemKind). k < item_size layout function c) (sym is) inside in
      let word = subst (λ (c : ItemKind). slice_get (item_ins layout function (item_place layout function i) c) k ≡ Some x) (sym is) e in
      record {
        distance = pos a -ℤ pos b;
        there = item_code layout p f function i item k x has word ∙ ap Some jal;
        goes = from_pc_to (address_in layout p f function i + 4 * k) a b target (omega (arith, bounds.1, within)) (omega arith) gap;
      }

  -- at an item's first word
  first-jumps : (p : Program) (f : ℕ) (function : ProgramFunction) (i : ℕ) (rd : Reg) (target : ℕ) → JumpsTo layout p (address_in layout p f function i + 4 * 0) rd target → JumpsTo layout p (address_in layout p f function i) rd target
  first-jumps p f function i rd target jumps =
      let here : address_in layout p f function i + 4 * 0 ≡ address_in layout p f function i = omega arith in
      subst (λ a. JumpsTo layout p a rd target) here jumps

  pub call_jumps : (p : Program) (f : ℕ) (function : ProgramFunction) (i : ℕ) (item : Item) (g : ℕ) → IsSized layout p → HasItem p f function i item → item.kind ≡ items.Call g → JumpsTo layout p (address_in layout p f function i) registers.Ra (function_address layout p g)
  call_jumps p f function i item g size has is =
      let low = function_bounds layout p g size in
      first-jumps p f function i registers.Ra (function_address layout p g)
      (jumps-by p f function i item (items.Call g) 0 (posted.Call g) registers.Ra (function_address layout p g) (address_in layout p f function i + 4 * 0) (function_address layout p g) size has is (lit< tt) refl refl (omega (arith, low.1)) (omega arith))

  pub goto_jumps : (p : Program) (f : ℕ) (function : ProgramFunction) (i : ℕ) (item : Item) (to : ℕ) → IsSized layout p → HasItem p f function i item → item.kind ≡ items.Jump to → JumpsTo layout p (address_in layout p f function i) registers.Zero (address_in layout p f function to)
  goto_jumps p f function i item to size has is =
      let low = place_bounds layout p f function to size has.named in
      first-jumps p f function i registers.Zero (address_in layout p f function to)
      (jumps-by p f function i item (items.Jump to) 0 (posted.Jump (item_place layout function to)) registers.Zero (4 * item_place layout function to) (4 * (item_place layout function i + 0)) (address_in layout p f function to) size has is (lit< tt) refl refl (omega (arith, low.1)) (omega arith))

  pub entry_jumps : (p : Program) (f : ℕ) (function : ProgramFunction) (i : ℕ) (item : Item) (at : ℕ) → IsSized layout p → HasItem p f function i item → item.kind ≡ items.Entry at → at < 2 ^ 16 → JumpsTo layout p (address_in layout p f function i) registers.Ra at
  entry_jumps p f function i item at size has is low =
      first-jumps p f function i registers.Ra at
      (jumps-by p f function i item (items.Entry at) 0 (posted.Entry at) registers.Ra at (address_in layout p f function i + 4 * 0) at size has is (lit< tt) refl refl (omega arith) (omega arith))

  low-or : (b : Bool) (at n : ℕ) (first call : RuntimeCall) (rest : Option RuntimeCall) → (at == n) ≡ b → n ≤ 0x90 → (rest ≡ Some call → at ≤ 0x90) → cond b (Some first) rest ≡ Some call → at ≤ 0x90
  low-or true at n first call rest is low later e = omega (arith, eqb-true at n is)
  low-or false at n first call rest is low later e = later e

  -- the entries of the runtime's calls are low
  entry-low : (at : ℕ) (call : RuntimeCall) → runtime_call at ≡ Some call → at ≤ 0x90
  entry-low at call e =
      low-or (at == 0x40) at 0x40 Touch call _ refl (omega arith)
      (low-or (at == 0x50) at 0x50 CounterCall call _ refl (omega arith)
      (low-or (at == 0x60) at 0x60 Done call _ refl (omega arith)
      (low-or (at == 0x70) at 0x70 Join call _ refl (omega arith)
      (low-or (at == 0x80) at 0x80 Poll call _ refl (omega arith)
      (low-or (at == 0x90) at 0x90 Putc call None refl (omega arith) (λ none. cc)))))) e

  -- those that an accepted program calls
  pub entry_small : (p : Program) (f : ℕ) (function : ProgramFunction) (i : ℕ) (item : Item) (at : ℕ) → IsAccepted p → HasItem p f function i item → item.kind ≡ items.Entry at → at < 2 ^ 16
  entry_small p f function i item at accepted has is =
      let fits : Fits p function (items.Entry at) = subst (Fits p function) is ((accepted.functions f function has.named).formed.fits i item has.placed) in
      omega (arith, entry-low at fits.0 fits.1)

  pub fork_in_jumps : (p : Program) (f : ℕ) (function : ProgramFunction) (i : ℕ) (item : Item) (g : ℕ) (handle : Reg) → IsSized layout p → HasItem p f function i item → item.kind ≡ items.Fork g handle → JumpsTo layout p (address_in layout p f function i) registers.Ra fork_in
  fork_in_jumps p f function i item g handle size has is =
      first-jumps p f function i registers.Ra fork_in
      (jumps-by p f function i item (items.Fork g handle) 0 (posted.Entry fork_in) registers.Ra fork_in (address_in layout p f function i + 4 * 0) fork_in size has is (lit< tt) refl refl (lit< tt) (omega arith))

  pub fork_call_jumps : (p : Program) (f : ℕ) (function : ProgramFunction) (i : ℕ) (item : Item) (g : ℕ) (handle : Reg) → IsSized layout p → HasItem p f function i item → item.kind ≡ items.Fork g handle → JumpsTo layout p (address_in layout p f function i + 4) registers.Ra (function_address layout p g)
  fork_call_jumps p f function i item g handle size has is =
      let low = function_bounds layout p g size in
      jumps-by p f function i item (items.Fork g handle) 1 (posted.Call g) registers.Ra (function_address layout p g) (address_in layout p f function i + 4) (function_address layout p g) size has is (lit< tt) refl refl (omega (arith, low.1)) (omega arith)

  pub fork_out_jumps : (p : Program) (f : ℕ) (function : ProgramFunction) (i : ℕ) (item : Item) (g : ℕ) (handle : Reg) → IsSized layout p → HasItem p f function i item → item.kind ≡ items.Fork g handle → JumpsTo layout p (address_in layout p f function i + 8) registers.Ra fork_out
  fork_out_jumps p f function i item g handle size has is =
      jumps-by p f function i item (items.Fork g handle) 2 (posted.Entry fork_out) registers.Ra fork_out (address_in layout p f function i + 8) fork_out size has is (lit< tt) refl refl (lit< tt) (omega arith)

  -- ---- branches

  pub branch_code : (p : Program) (f : ℕ) (function : ProgramFunction) (i : ℕ) (item : Item) (op : Op) (rs1 rs2 : Reg) (to : ℕ) → HasItem p f function i item → item.kind ≡ items.Branch op rs1 rs2 to → code_at layout p (address_in layout p f function i) ≡ Some (branch_ins op rs1 rs2 (distance (item_place layout function i) (item_place layout function to)))
  branch_code p f function i item op rs1 rs2 to has is =
      let here : address_in layout p f function i ≡ address_in layout p f function i + 4 * 0 = omega arith in
      let first : item_place layout function i + 0 ≡ item_place layout function i = omega arith in
      let word = ap (λ (c : ItemKind). slice_get (item_ins layout function (item_place layout function i) c) 0) is in
      ap (code_at layout p) here
      ∙ item_code layout p f function i item 0 (posted.Branch op rs1 rs2 (item_place layout function to)) has word
      ∙ ap (λ m. Some (branch_ins op rs1 rs2 (distance m (item_place layout function to)))) first

  pub branch_target : (p : Program) (f : ℕ) (function : ProgramFunction) (i to : ℕ) → IsSized layout p → slice_get p.functions f ≡ Some function → from_pc (address_in layout p f function i) (distance (item_place layout function i) (item_place layout function to)) ≡ address_in layout p f function to
  branch_target p f function i to size named =
      let low = place_bounds layout p f function i size named in
      let near = place_bounds layout p f function to size named in
      from_pc_to (address_in layout p f function i) (4 * item_place layout function to) (4 * item_place layout function i) (address_in layout p f function to) (omega (arith, low.1)) (omega (arith, near.1)) (omega arith)
