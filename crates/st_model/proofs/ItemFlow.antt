-- An activation of an accepted program that is reached along a path has a next item, and the item's effect leads on: item_flows, which
-- serves each machine. It goes by the kinds of items; kind_flows has one clause a kind.
use Rattle.std.proofs.Common.{◌≡◌, ℕ, ◌+◌, ◌<◌, Bool, true, false, cond, List, [], ◌∷◌, length, Option, Some, None, refl, sym, ap, ◌∙◌, subst, ◌⊎◌, inl, inr, arith}
use Rattle.std.specs.Prelude.{slice_get, ◌||◌}
use Rattle.std.proofs.lemmas.Option.{slice_get_cases, slice_get_within}
use Rattle.std.proofs.lemmas.Bool.{or_left, or_right, true_from_ne_false, false≢true}
use Rattle.st_base.specs.declared.reg.Reg.TheVariants.{A0}
use Rattle.st_base.specs.declared.thread.Held.TheVariants.{Number}
use Rattle.st_base.specs.declared.thread.Activation.{Activation}
use Rattle.st_base.specs.Registers.{read_register}
use Rattle.st_base.specs.declared.thread.Held.{Held}
use Rattle.st_base.specs.declared.thread.Held.TheVariants.{Future, Counter}
use Rattle.st_rv.specs.declared.ins.Ins.{Ins}
use Rattle.st_rv.specs.declared.ins.OpKind.{OpKind}
use Rattle.st_rv.specs.declared.ins.OpKind.TheVariants.{Register, Immediate, Upper, Load, Store, Branch as Branch', Jump as Jump', Break}
use Rattle.st_rv.specs.Op.{kind_of}
use Rattle.st_rv.specs.Results.{alu, is_taken, word_of}
use Rattle.st_model.specs.declared.program.Program.{Program}
use Rattle.st_model.specs.declared.program.ProgramFunction.{ProgramFunction}
use Rattle.st_model.specs.declared.program.Item.{Item}
use Rattle.st_model.specs.declared.program.ItemKind.{ItemKind}
use Rattle.st_model.specs.declared.program.ItemKind.TheVariants.{Prologue, Epilogue, Plain, Li, Branch, Jump, Call, Entry, Fork}
use Rattle.st_model.specs.declared.effect.Effect.TheVariants.{Goes}
use Rattle.st_model.specs.Memory.{Data}
use Rattle.st_model.specs.Effect.{File, is_frame, is_move, runtime_call, at_item, advanced, moved, name_moved, plain_as, left_by, item_effect}
use Rattle.st_model.specs.Flow.{Defined, flow, flow_of, gives_as, reads_as, gives, takes, reads, IsNextOfPlain, IsNext, Leads, defined_after}
use Rattle.st_model.specs.Accepted.{IsInt, IsHandle, PlainFitsAs, Fits, IsFormed, IsAccepted}
use Rattle.st_model.specs.Ordinary.{item_at}
use Rattle.st_model.proofs.Places.{nothing, fork_handle}
use Rattle.st_model.proofs.Flowing.{Known, IsName, IsNamed, IsNumber, HasFile, HasSlots, file_number, file_name}
use Rattle.st_model.proofs.EffectFlow.{Flows, EffectFlows, or_is, At, Onward, place_of, place_self, int_flows, goes_flows, number_written, name_written}
use Rattle.st_model.proofs.SlotFlow.{load_flows, store_flows}
use Rattle.st_model.proofs.CallFlow.{call_flows, fork_flows, runtime_flows, left_flows}

module _ (known : Known) (p : Program) (function : ProgramFunction) (top : Activation) (file : File) (d : Defined) where
  -- ---- instructions

  computed_flows : (r : Defined) (i : Ins) (o : Option Held) → At known p function r (place_of i.rd) nothing Onward top file d → IsInt i.rd → IsNumber o → EffectFlows known p top (moved i top file o)
  computed_flows r i None c fits is = is
  computed_flows r i (Some (Number n)) c fits is = number_written known p function top file d r i.rd (alu i.op n (word_of i.imm)) c fits
  computed_flows r i (Some (Future q)) c fits is = absurd is
  computed_flows r i (Some (Counter q n)) c fits is = absurd is

  name_moved_flows : (r : Defined) (i : Ins) (b : Bool) (name : Held) → At known p function r (place_of i.rd) nothing Onward top file d → IsHandle i.rd → b ≡ true → IsName known name → EffectFlows known p top (name_moved b i name top file)
  name_moved_flows r i true name c fits move is = name_written known p function top file d r i.rd name c fits is
  name_moved_flows r i false name c fits move is = absurd (false≢true move)

  moved_flows : (r : Defined) (i : Ins) (o : Option Held) → At known p function r (place_of i.rd) nothing Onward top file d → IsHandle i.rd → is_move i.op i.imm ≡ true → IsNamed known o → EffectFlows known p top (moved i top file o)
  moved_flows r i None c fits move is = is
  moved_flows r i (Some (Number n)) c fits move is = absurd is
  moved_flows r i (Some (Future q)) c fits move is = name_moved_flows r i (is_move i.op i.imm) (Future q) c fits move is
  moved_flows r i (Some (Counter q n)) c fits move is = name_moved_flows r i (is_move i.op i.imm) (Counter q n) c fits move is

  immediate_flows : (i : Ins) → At known p function (place_of i.rs1) (place_of i.rd) nothing Onward top file d → (IsInt i.rd × IsInt i.rs1) ⊎ (IsHandle i.rd × IsHandle i.rs1 × (is_move i.op i.imm ≡ true)) → EffectFlows known p top (moved i top file (read_register file i.rs1))
  immediate_flows i c (inl fits) =
      computed_flows (place_of i.rs1) i (read_register file i.rs1) c fits.0 (file_number known d file i.rs1 c.has fits.1 (c.reads _ (place_self i.rs1)))
  immediate_flows i c (inr fits) =
      moved_flows (place_of i.rs1) i (read_register file i.rs1) c fits.0 fits.2 (file_name known d file i.rs1 c.has fits.1 (c.reads _ (place_self i.rs1)))

  plain_flows : (kind : OpKind) (source : Data) (i : Ins) → At known p function (reads_as kind function.frame_bytes i) (gives_as kind function.frame_bytes i) nothing (IsNextOfPlain kind) top file d → PlainFitsAs kind function i → EffectFlows known p top (plain_as kind source i top file)
  plain_flows Register source i c fits =
      int_flows known p function top file d (reads_as Register function.frame_bytes i) (place_of i.rd) nothing Onward i.rs1 _ c fits.1 (or_left _ _ (place_self i.rs1))
      (λ a. int_flows known p function top file d (reads_as Register function.frame_bytes i) (place_of i.rd) nothing Onward i.rs2 _ c fits.2 (or_right _ _ (place_self i.rs2))
      (λ b. number_written known p function top file d (reads_as Register function.frame_bytes i) i.rd (alu i.op a b) c fits.0))
  plain_flows Immediate source i c fits = immediate_flows i c fits.0
  plain_flows Upper source i c fits = number_written known p function top file d nothing i.rd (alu i.op 0 (word_of i.imm)) c fits.0
  plain_flows Load source i c fits = load_flows known p function top file d (is_frame i.rs1) source i c fits.0
  plain_flows Store source i c fits = store_flows known p function top file d i c fits
  plain_flows Branch' source i c fits = absurd fits
  plain_flows Jump' source i c fits = absurd fits
  plain_flows Break source i c fits = tt

  -- ---- items

  taken_flows : (r : Defined) (b : Bool) (to : ℕ) → At known p function r nothing nothing (λ i j. (j ≡ i + 1) ⊎ (j ≡ to)) top file d → EffectFlows known p top (Goes (cond b (at_item to top) (advanced top)) file)
  taken_flows r true to c = goes_flows known p function top file d r _ to c (inr refl)
  taken_flows r false to c = goes_flows known p function top file d r _ (top.next + 1) c (inl refl)

  kind_flows : (source : Data) (kind : ItemKind) → At known p function (reads p function.frame_bytes kind) (gives function.frame_bytes kind) (takes kind) (IsNext kind) top file d → Fits p function kind → EffectFlows known p top (item_effect p source kind top file)
  kind_flows source Prologue c fits = goes_flows known p function top file d nothing Onward (top.next + 1) c refl
  kind_flows source Epilogue c fits =
      int_flows known p function top file d (place_of A0) nothing nothing (λ i j. ⊥) A0 (left_by top.kind top.kept) c refl refl (λ v. left_flows known p top top.kind v refl)
  kind_flows source (Plain i) c fits = plain_flows (kind_of i.op) source i c fits.1
  kind_flows source (Li rd value) c fits = number_written known p function top file d nothing rd (word_of value) c fits.0
  kind_flows source (Branch op rs1 rs2 to) c fits =
      int_flows known p function top file d (λ x. place_of rs1 x || place_of rs2 x) nothing nothing (λ i j. (j ≡ i + 1) ⊎ (j ≡ to)) rs1 _ c fits.1 (or_left _ _ (place_self rs1))
      (λ a. int_flows known p function top file d (λ x. place_of rs1 x || place_of rs2 x) nothing nothing (λ i j. (j ≡ i + 1) ⊎ (j ≡ to)) rs2 _ c fits.2 (or_right _ _ (place_self rs2))
      (λ b. taken_flows (λ x. place_of rs1 x || place_of rs2 x) (is_taken op a b) to c))
  kind_flows source (Jump to) c fits = goes_flows known p function top file d nothing (λ i j. j ≡ to) to c refl
  kind_flows source (Call f) c fits = call_flows known p function top file d f (slice_get p.functions f) refl c fits
  kind_flows source (Entry at) c fits = runtime_flows known p function top file d (runtime_call at) c fits
  kind_flows source (Fork f handle) c fits =
      fork_flows known p function top file d f handle (slice_get p.functions f) refl c fits.0 (fork_handle handle fits.1)

-- ---- paths

-- a path stays in the function
path_within : (p : Program) (function : ProgramFunction) (back : List ℕ) (i : ℕ) → IsFormed p function → Leads function back i → i < length function.items
path_within p function [] i formed leads = subst (λ j. j < length function.items) (sym leads) (slice_get_within _ 0 _ formed.begins.1)
path_within p function (j ∷ back) i formed leads = (formed.stays j i leads.1.0 leads.1.1 leads.1.2).1

item_within : (items : List Item) (i : ℕ) → i < length items → (item : Item) × (slice_get items i ≡ Some item)
item_within items i lt = elim (slice_get_cases items i).1 [ inl a ↦ (a.0, a.2) | inr b ↦ let past = b.0 in absurd (omega arith) ]

-- one item more
path_onward : (known : Known) (p : Program) (function : ProgramFunction) (top next : Activation) (after : File) (back : List ℕ) (item : Item) → slice_get p.functions top.function ≡ Some function → Leads function back top.next → slice_get function.items top.next ≡ Some item → next.function ≡ top.function → IsNext item.kind top.next next.next → HasFile known (flow function.frame_bytes item.kind (defined_after function back)) after → HasSlots known function (flow function.frame_bytes item.kind (defined_after function back)) next → Flows known p next after
path_onward known p function top next after back item here leads there same is has slots =
    let e : flow_of function.frame_bytes (slice_get function.items top.next) (defined_after function back) ≡ flow function.frame_bytes item.kind (defined_after function back) =
    ap (λ o. flow_of function.frame_bytes o (defined_after function back)) there in
    record {
      function = function;
      here = ap (slice_get p.functions) same ∙ here;
      back = top.next ∷ back;
      leads = (leads, (item, there, is));
      has = subst (λ d. HasFile known d after) (sym e) has;
      slots = subst (λ d. HasSlots known function d next) (sym e) slots;
    }

pub item_flows : (known : Known) (p : Program) (source : Data) (top : Activation) (file : File) → IsAccepted p → Flows known p top file → (item : Item) × (item_at p top ≡ Some item) × EffectFlows known p top (item_effect p source item.kind top file)
item_flows known p source top file accepted a =
    let function = a.function in
    let ok = accepted.functions top.function function a.here in
    let there = item_within function.items top.next (path_within p function a.back top.next ok.formed a.leads) in
    let item = there.0 in
    let c : At known p function (reads p function.frame_bytes item.kind) (gives function.frame_bytes item.kind) (takes item.kind) (IsNext item.kind) top file (defined_after function a.back) =
    record {
      accepted = accepted;
      has = a.has;
      slots = a.slots;
      reads = λ x is.
          true_from_ne_false (defined_after function a.back x)
          (λ none. ok.defined record { back = a.back; at = top.next; item = item; place = x; leads = a.leads; here = there.1; reads = is; undefined = none });
      go = λ next after same is has slots. path_onward known p function top next after a.back item a.here a.leads there.1 same is has slots;
      go_or = λ q next after same is has slots. path_onward (or_is known q) p function top next after a.back item a.here a.leads there.1 same is has slots;
    } in (
      item,
      rw a.here there.1,
      kind_flows known p function top file (defined_after function a.back) source item.kind c (ok.formed.fits top.next item there.1),
    )
