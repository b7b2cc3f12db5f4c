-- Effects that lead on. Flows says that a path of items leads to an activation's next item, and that the registers and the slots hold
-- what is defined after that path. EffectFlows says of an effect that it is not undefined and that Flows holds again of what it leads
-- to: one clause an effect. An item is treated with its kind left out, over At: only what it reads, gives and takes, and its next items.
-- Reach for goes_flows (the next item, nothing written), write_flows (a register is written), number_flows and name_flows (a read),
-- within_flows (a slot) and flows_wider (more names are known).
use Rattle.std.proofs.Common.{◌≡◌, ℕ, ◌+◌, ◌≤◌, Bool, true, false, ◌==◌, List, Option, Some, None, refl, sym, ◌∙◌, ◌⊎◌, inl, inr, arith}
use Rattle.std.specs.Prelude.{slice_get}
use Rattle.std.proofs.lemmas.Bool.{eqb-true, eq-eqb, false≢true}
use Rattle.st_base.specs.declared.reg.Reg.{Reg}
use Rattle.st_base.specs.declared.reg.Reg.TheVariants.{A0, A6}
use Rattle.st_base.specs.declared.thread.Held.{Held}
use Rattle.st_base.specs.declared.thread.Held.TheVariants.{Number, Future, Counter}
use Rattle.st_base.specs.declared.thread.Activation.{Activation}
use Rattle.st_base.specs.declared.thread.ActivationKind.TheVariants.{Called, Forked}
use Rattle.st_base.specs.Reg.{reg_number}
use Rattle.st_base.specs.Registers.{read_register, write_register}
use Rattle.st_model.specs.declared.program.Program.{Program}
use Rattle.st_model.specs.declared.program.ProgramFunction.{ProgramFunction}
use Rattle.st_model.specs.declared.effect.Effect.{Effect}
use Rattle.st_model.specs.declared.effect.Effect.TheVariants.{Undefined, Goes, Calls, Returns, Ends, Traps, Prints, Forks, Touches, Counts, Adds, Joins}
use Rattle.st_model.specs.Effect.{File, IsFirst, with_number, with_name, within, int, name_of, at_item, goes}
use Rattle.st_model.specs.Flow.{Defined, Leads, defined_after}
use Rattle.st_model.specs.Accepted.{IsInt, IsHandle, IsAccepted}
use Rattle.st_model.proofs.Places.{number_below, handle_number, nothing, after_item, after_item_cases, after_item_stays}
use Rattle.st_model.proofs.Flowing.{Known, IsName, IsNamed, IsThere, Classed, HasFile, HasSlots, number_there, file_number, file_name, file_less, file_write, file_wider, slots_wider, slots_on}

-- ---- the definitions

-- an activation has what a path to its next item defines
pub record Flows (known : Known) (p : Program) (a : Activation) (file : File) : Type 0 where
  pub function : ProgramFunction
  pub here : slice_get p.functions a.function ≡ Some function
  pub back : List ℕ
  pub leads : Leads function back a.next
  pub has : HasFile known (defined_after function back) file
  pub slots : HasSlots known function (defined_after function back) a

-- both activations were made by the same call
pub record SameEntry (a b : Activation) : Type 0 where
  pub kind : b.kind ≡ a.kind
  pub kept : b.kept ≡ a.kept

-- one thread more is known
abbrev pub or_is : Known → List ℕ → Known
or_is known q r = known r ⊎ (r ≡ q)

abbrev pub EffectFlows : Known → Program → Activation → Effect → Type 0
EffectFlows known p top Undefined = ⊥
EffectFlows known p top (Goes next file) = SameEntry top next × Flows known p next file
EffectFlows known p top (Calls next callee file) =
    SameEntry top next × (callee.kind ≡ Called) × Flows known p callee file × ((v : ℕ) → Flows known p next (write_register callee.kept A0 (Number v)))
EffectFlows known p top (Returns file) = (top.kind ≡ Called) × ((v : ℕ) × (file ≡ write_register top.kept A0 (Number v)))
EffectFlows known p top (Ends v kept) = IsFirst top.kind × (kept ≡ top.kept)
EffectFlows known p top (Traps kind) = Unit {0}
EffectFlows known p top (Prints byte next file) = SameEntry top next × Flows known p next file
EffectFlows known p top (Forks next child handle passed file) =
    SameEntry top next × (child.kind ≡ Forked) × (child.kept ≡ file) × Flows known p child passed × ((q : List ℕ) → Flows (or_is known q) p next (write_register child.kept handle (Future q)))
EffectFlows known p top (Touches name next file) =
    SameEntry top next × IsName known name × ((v : ℕ) → Flows known p next (write_register file A0 (Number v)))
EffectFlows known p top (Counts next file) = SameEntry top next × ((q : List ℕ) (n : ℕ) → Flows known p next (write_register file A6 (Counter q n)))
EffectFlows known p top (Adds name next file) = SameEntry top next × IsName known name × Flows known p next file
EffectFlows known p top (Joins name least next file) = SameEntry top next × IsName known name × Flows known p next file

-- the activation is at an item of the function that reads r, gives g and takes t, and whose next items are those of `to`
pub record At (known : Known) (p : Program) (function : ProgramFunction) (r g t : Defined) (to : ℕ → ℕ → Type 0) (top : Activation) (file : File) (d : Defined) : Type 0 where
  pub accepted : IsAccepted p
  pub has : HasFile known d file
  pub slots : HasSlots known function d top
  pub reads : (x : ℕ) → r x ≡ true → d x ≡ true
  pub go : (next : Activation) (after : File) → next.function ≡ top.function → to top.next next.next → HasFile known (after_item g t d) after → HasSlots known function (after_item g t d) next → Flows known p next after
  pub go_or : (q : List ℕ) (next : Activation) (after : File) → next.function ≡ top.function → to top.next next.next → HasFile (or_is known q) (after_item g t d) after → HasSlots (or_is known q) function (after_item g t d) next → Flows (or_is known q) p next after

-- the item after this one
abbrev pub Onward : ℕ → ℕ → Type 0
Onward i j = j ≡ i + 1

-- the place of a register
abbrev pub place_of : Reg → Defined
place_of r x = x == reg_number r

pub place_self : (r : Reg) → place_of r (reg_number r) ≡ true
place_self r = eq-eqb (reg_number r) (reg_number r) refl

pub place_low : (r : Reg) (x : ℕ) → 32 ≤ x → place_of r x ≡ true → ⊥
place_low r x low e =
    let same = eqb-true x (reg_number r) e in
    let lt = number_below r in
    omega arith

pub nothing_low : (x : ℕ) → 32 ≤ x → nothing x ≡ true → ⊥
nothing_low x low e = false≢true e

-- ---- more names are known

pub flows_wider : (known more : Known) (p : Program) (a : Activation) (file : File) → ((q : List ℕ) → known q → more q) → Flows known p a file → Flows more p a file
flows_wider known more p a file wider f =
    record {
      function = f.function;
      here = f.here;
      back = f.back;
      leads = f.leads;
      has = file_wider known more (defined_after f.function f.back) file wider f.has;
      slots = slots_wider known more f.function (defined_after f.function f.back) a wider f.slots;
    }

-- ---- reads

module _ (known : Known) (p : Program) (top : Activation) where
  pub number_flows : (o : Option ℕ) (go : ℕ → Effect) → IsThere o → ((n : ℕ) → EffectFlows known p top (go n)) → EffectFlows known p top (with_number o go)
  number_flows None go is h = is
  number_flows (Some n) go is h = h n

  pub name_flows : (o : Option Held) (go : Held → Effect) → IsNamed known o → ((name : Held) → IsName known name → EffectFlows known p top (go name)) → EffectFlows known p top (with_name (name_of o) go)
  name_flows None go is h = is
  name_flows (Some (Number n)) go is h = is
  name_flows (Some (Future q)) go is h = h (Future q) is
  name_flows (Some (Counter q n)) go is h = h (Counter q n) is

  pub within_flows : (b : Bool) (effect : Effect) → b ≡ true → EffectFlows known p top effect → EffectFlows known p top (within b effect)
  within_flows true effect is h = h
  within_flows false effect is h = absurd (false≢true is)

-- ---- steps

module _ (known : Known) (p : Program) (function : ProgramFunction) (top : Activation) (file : File) (d : Defined) where
  -- an integer register that the item reads
  pub int_flows : (r g t : Defined) (to : ℕ → ℕ → Type 0) (s : Reg) (go : ℕ → Effect) → At known p function r g t to top file d → IsInt s → r (reg_number s) ≡ true → ((n : ℕ) → EffectFlows known p top (go n)) → EffectFlows known p top (with_number (int file s) go)
  int_flows r g t to s go c fits is h =
      number_flows known p top (int file s) go (number_there _ (file_number known d file s c.has fits (c.reads (reg_number s) is))) h

  -- a handle register that the item reads
  pub handle_flows : (r g t : Defined) (to : ℕ → ℕ → Type 0) (s : Reg) (go : Held → Effect) → At known p function r g t to top file d → IsHandle s → r (reg_number s) ≡ true → ((name : Held) → IsName known name → EffectFlows known p top (go name)) → EffectFlows known p top (with_name (name_of (read_register file s)) go)
  handle_flows r g t to s go c fits is h =
      name_flows known p top (read_register file s) go (file_name known d file s c.has fits (c.reads (reg_number s) is)) h

  -- the item of place n, the registers as they are
  pub goes_flows : (r : Defined) (to : ℕ → ℕ → Type 0) (n : ℕ) → At known p function r nothing nothing to top file d → to top.next n → EffectFlows known p top (Goes (at_item n top) file)
  goes_flows r to n c next = (
    record { kind = refl; kept = refl },
    c.go (at_item n top) file refl next
        (file_less known d (after_item nothing nothing d) file c.has (after_item_stays nothing nothing d 0 c.has.first refl)
        (λ x lt is. elim (after_item_cases nothing nothing d x is) [ inl a ↦ absurd (false≢true a) | inr b ↦ b.0 ]))
        (slots_on known function nothing nothing d top n c.slots nothing_low),
  )

  -- the next item, with a register written
  pub write_flows : (r : Defined) (rd : Reg) (held : Held) → At known p function r (place_of rd) nothing Onward top file d → Classed known (reg_number rd) (Some held) → EffectFlows known p top (goes top (write_register file rd held))
  write_flows r rd held c good = (
    record { kind = refl; kept = refl },
    c.go (at_item (top.next + 1) top) (write_register file rd held) refl refl
        (file_write known d (after_item (place_of rd) nothing d) file rd held c.has good (after_item_stays (place_of rd) nothing d 0 c.has.first refl)
        (λ x lt is. elim (after_item_cases (place_of rd) nothing d x is) [ inl a ↦ inl (eqb-true x (reg_number rd) a) | inr b ↦ inr b.0 ]))
        (slots_on known function (place_of rd) nothing d top (top.next + 1) c.slots (place_low rd)),
  )

  -- the next item, with a number or a name in a register of its class
  pub number_written : (r : Defined) (rd : Reg) (n : ℕ) → At known p function r (place_of rd) nothing Onward top file d → IsInt rd → EffectFlows known p top (goes top (write_register file rd (Number n)))
  number_written r rd n c fits = write_flows r rd (Number n) c (inl (fits, tt))

  pub name_written : (r : Defined) (rd : Reg) (name : Held) → At known p function r (place_of rd) nothing Onward top file d → IsHandle rd → IsName known name → EffectFlows known p top (goes top (write_register file rd name))
  name_written r rd name c fits is = write_flows r rd name c (inr (sym (handle_number rd) ∙ fits, is))
