-- Register files and slots that hold what is defined. HasFile says that each register of a set of places holds what its class wants: an
-- integer register a number, a handle register a name that is known. HasSlots says the same of the bytes and the handle slots of an
-- activation. `known` says which threads' futures are good names; it is a parameter of everything here, so that each machine brings
-- its own. Reach for file_write, file_less and file_picked (what a new file has), file_number and file_name (what a register of a class
-- holds), file_wider and slots_wider (more names are known), load_there and store_there (bytes).
use Rattle.std.proofs.Common.{◌≡◌, ℕ, zero, suc, ◌+◌, ◌*◌, ◌/◌, ◌%◌, ◌<◌, ◌≤◌, Bool, true, false, cond, ◌==◌, List, length, Option, Some, None, refl, sym, ap, ◌∙◌, subst, arith, get_or-set_other, get_or-set_same, ◌⊎◌, inl, inr}
use Rattle.std.specs.Prelude.{◌||◌, slice_index_or, slice_set, map}
use Rattle.std.specs.List.{range_with_len}
use Rattle.std.proofs.lemmas.List.{length-set}
use Rattle.std.proofs.lemmas.List.FromFn.{get_or-map-range_with_len, length-map-range_with_len}
use Rattle.std.proofs.lemmas.Bool.{or_left, or_right, cases_eq, eqb-true}
use Rattle.st_base.specs.declared.reg.Reg.{Reg}
use Rattle.st_base.specs.declared.registers.Pick.{Pick}
use Rattle.st_base.specs.declared.thread.Held.{Held}
use Rattle.st_base.specs.declared.thread.Held.TheVariants.{Number, Future, Counter}
use Rattle.st_base.specs.declared.thread.Activation.{Activation}
use Rattle.st_base.specs.Reg.{reg_number}
use Rattle.st_base.specs.Slots.{store_bytes}
use Rattle.st_base.specs.Registers.{write_register, read_register, picked, picked_at, is_picked}
use Rattle.st_model.specs.declared.program.ProgramFunction.{ProgramFunction}
use Rattle.st_model.specs.Memory.{byte_below, load_from}
use Rattle.st_model.specs.Effect.{File, at_item, number_of}
use Rattle.st_model.specs.Flow.{Defined}
use Rattle.st_model.specs.Accepted.{is_int, IsInt, IsHandle}
use Rattle.st_model.proofs.Places.{number_below, is_handle_place, handle_number, classes_apart, after_item, after_item_cases}

-- ---- the definitions

-- which threads' futures are good names
abbrev pub Known : Type 1
Known = List ℕ → Type 0

abbrev pub IsName : Known → Held → Type 0
IsName known (Number n) = ⊥
IsName known (Future q) = known q
IsName known (Counter q n) = Unit {0}

-- a good name is there
abbrev pub IsNamed : Known → Option Held → Type 0
IsNamed known None = ⊥
IsNamed known (Some held) = IsName known held

-- a number is there
abbrev pub IsNumber : Option Held → Type 0
IsNumber None = ⊥
IsNumber (Some (Number n)) = Unit {0}
IsNumber (Some (Future q)) = ⊥
IsNumber (Some (Counter q n)) = ⊥

abbrev pub IsThere : Option ℕ → Type 0
IsThere None = ⊥
IsThere (Some n) = Unit {0}

-- what the register of this number holds is of its class
abbrev pub Classed : Known → ℕ → Option Held → Type 0
Classed known x o = ((is_int x ≡ true) × IsNumber o) ⊎ ((is_handle_place x ≡ true) × IsNamed known o)

pub record HasFile (known : Known) (d : Defined) (file : File) : Type 0 where
  pub long : length file ≡ 32
  pub first : d 0 ≡ true
  pub each : (x : ℕ) → x < 32 → d x ≡ true → Classed known x (slice_index_or file x None)

pub record HasSlots (known : Known) (function : ProgramFunction) (d : Defined) (a : Activation) : Type 0 where
  pub bytes_long : length a.bytes ≡ function.frame_bytes
  pub handles_long : length a.handles ≡ function.slots
  pub bytes : (b : ℕ) → 8 * function.slots ≤ b → b < function.frame_bytes → d (32 + b) ≡ true → IsThere (slice_index_or a.bytes b None)
  pub handles : (s : ℕ) → s < function.slots → d (32 + 8 * s) ≡ true → IsNamed known (slice_index_or a.handles s None)

-- ---- cells

-- what held of a cell holds of it after a write, where it holds of what is written
pub set_holds : {A : Type 0} (P : Option A → Type 0) (cells : List (Option A)) (at i : ℕ) (o : Option A) → at < length cells → P o → (i ≡ at) ⊎ P (slice_index_or cells i None) → P (slice_index_or (slice_set cells at o) i None)
set_holds P cells at i o within new (inl same) =
    subst (λ j. P (slice_index_or (slice_set cells at o) j None)) (sym same) (subst P (sym (get_or-set_same cells at o None within)) new)
set_holds P cells at i o within new (inr old) =
    elim (cases_eq i at) as (λ w. P (slice_index_or (slice_set cells at o) i None)) [
      | inl same ↦ subst (λ j. P (slice_index_or (slice_set cells at o) j None)) (sym same) (subst P (sym (get_or-set_same cells at o None within)) new)
      | inr other ↦ subst P (sym (get_or-set_other cells at i o None other)) old
    ]

below_there : (o more : Option ℕ) → IsThere o → IsThere more → IsThere (byte_below o more)
below_there None more first rest = first
below_there (Some b) None first rest = rest
below_there (Some b) (Some v) first rest = tt

pub load_there : (byte : ℕ → Option ℕ) (at k : ℕ) → ((b : ℕ) → at ≤ b → b < at + k → IsThere (byte b)) → IsThere (load_from byte at k)
unfolding load_from
load_there byte at zero all = tt
load_there byte at (suc k) all =
    below_there (byte at) (load_from byte (at + 1) k) (all at (omega arith) (omega arith))
    (load_there byte (at + 1) k (λ b low high. all b (omega arith) (omega arith)))

pub length-store_bytes : (cells : List (Option ℕ)) (at k v : ℕ) → length (store_bytes cells at k v) ≡ length cells
unfolding store_bytes
length-store_bytes cells at zero v = refl
length-store_bytes cells at (suc k) v = length-store_bytes (slice_set cells at (Some (v % 256))) (at + 1) k (v / 256) ∙ length-set cells at (Some (v % 256))

-- the first byte of a store is there, and the others are still to be written
stored_first : (cells : List (Option ℕ)) (at k x b : ℕ) → at + suc k ≤ length cells → (b ≡ at) ⊎ (b ≡ at → ⊥) → ((at ≤ b) × (b < at + suc k)) ⊎ IsThere (slice_index_or cells b None) → ((at + 1 ≤ b) × (b < at + 1 + k)) ⊎ IsThere (slice_index_or (slice_set cells at (Some x)) b None)
stored_first cells at k x b within (inl same) is = inr (set_holds IsThere cells at b (Some x) (omega arith) tt (inl same))
stored_first cells at k x b within (inr other) (inl e) =
    let low = e.0 in
    let high = e.1 in
    inl (omega arith, omega arith)
stored_first cells at k x b within (inr other) (inr there) = inr (set_holds IsThere cells at b (Some x) (omega arith) tt (inr there))

pub store_there : (cells : List (Option ℕ)) (at k v b : ℕ) → at + k ≤ length cells → ((at ≤ b) × (b < at + k)) ⊎ IsThere (slice_index_or cells b None) → IsThere (slice_index_or (store_bytes cells at k v) b None)
unfolding store_bytes
store_there cells at zero v b within (inl e) = absurd (let low = e.0 in let high = e.1 in omega arith)
store_there cells at zero v b within (inr there) = there
store_there cells at (suc k) v b within is =
    let room : at + 1 + k ≤ length (slice_set cells at (Some (v % 256))) = rw length-set (omega arith) in
    store_there (slice_set cells at (Some (v % 256))) (at + 1) k (v / 256) b room (stored_first cells at k (v % 256) b within (cases_eq b at) is)

-- ---- what a register or a slot holds

pub number_there : (o : Option Held) → IsNumber o → IsThere (number_of o)
number_there None is = is
number_there (Some (Number n)) is = tt
number_there (Some (Future q)) is = is
number_there (Some (Counter q n)) is = is

name_wider : (known more : Known) (o : Option Held) → ((q : List ℕ) → known q → more q) → IsNamed known o → IsNamed more o
name_wider known more None wider is = is
name_wider known more (Some (Number n)) wider is = is
name_wider known more (Some (Future q)) wider is = wider q is
name_wider known more (Some (Counter q n)) wider is = is

classed_wider : (known more : Known) (x : ℕ) (o : Option Held) → ((q : List ℕ) → known q → more q) → Classed known x o → Classed more x o
classed_wider known more x o wider (inl a) = inl a
classed_wider known more x o wider (inr a) = inr (a.0, name_wider known more o wider a.1)

pub file_wider : (known more : Known) (d : Defined) (file : File) → ((q : List ℕ) → known q → more q) → HasFile known d file → HasFile more d file
file_wider known more d file wider has =
    record { long = has.long; first = has.first; each = λ x lt is. classed_wider known more x _ wider (has.each x lt is) }

pub slots_wider : (known more : Known) (function : ProgramFunction) (d : Defined) (a : Activation) → ((q : List ℕ) → known q → more q) → HasSlots known function d a → HasSlots more function d a
slots_wider known more function d a wider has =
    record {
      bytes_long = has.bytes_long;
      handles_long = has.handles_long;
      bytes = has.bytes;
      handles = λ s lt is. name_wider known more _ wider (has.handles s lt is);
    }

module _ (known : Known) where
  classed_number : (x : ℕ) (o : Option Held) → x < 32 → is_int x ≡ true → Classed known x o → IsNumber o
  classed_number x o lt is (inl a) = a.1
  classed_number x o lt is (inr a) = absurd (classes_apart x lt is a.0)

  classed_name : (x : ℕ) (o : Option Held) → x < 32 → is_handle_place x ≡ true → Classed known x o → IsNamed known o
  classed_name x o lt is (inl a) = absurd (classes_apart x lt a.0 is)
  classed_name x o lt is (inr a) = a.1

  pub classed_class : (x : ℕ) (o : Option Held) → Classed known x o → is_int x || is_handle_place x ≡ true
  classed_class x o (inl a) = or_left _ _ a.0
  classed_class x o (inr a) = or_right _ _ a.0

  -- ---- register files

  pub file_number : (d : Defined) (file : File) (r : Reg) → HasFile known d file → IsInt r → d (reg_number r) ≡ true → IsNumber (read_register file r)
  file_number d file r has is there =
      classed_number (reg_number r) _ (number_below r) is (has.each (reg_number r) (number_below r) there)

  pub file_name : (d : Defined) (file : File) (r : Reg) → HasFile known d file → IsHandle r → d (reg_number r) ≡ true → IsNamed known (read_register file r)
  file_name d file r has is there =
      classed_name (reg_number r) _ (number_below r) (sym (handle_number r) ∙ is) (has.each (reg_number r) (number_below r) there)

  pub file_less : (d less : Defined) (file : File) → HasFile known d file → less 0 ≡ true → ((x : ℕ) → x < 32 → less x ≡ true → d x ≡ true) → HasFile known less file
  file_less d less file has first sub = record { long = has.long; first = first; each = λ x lt is. has.each x lt (sub x lt is) }

  pub file_picked : (pick : Pick) (d less : Defined) (file : File) → HasFile known d file → less 0 ≡ true → ((x : ℕ) → x < 32 → less x ≡ true → (d x ≡ true) × (is_picked pick x ≡ true)) → HasFile known less (picked pick file)
  unfolding picked
  file_picked pick d less file has first sub =
      record {
        long = length-map-range_with_len (picked_at pick file) 0 32;
        first = first;
        each = λ x lt is.
            let both = sub x lt is in
            let there : slice_index_or (map (picked_at pick file) (range_with_len 0 32)) x None ≡ slice_index_or file x None =
            get_or-map-range_with_len (picked_at pick file) 0 32 x x None lt (omega arith) ∙ ap (λ b. cond b (slice_index_or file x None) None) both.1 in
            subst (Classed known x) (sym there) (has.each x lt both.0);
      }

  -- a write to the register of number k, which a write to zero leaves out
  written_long : (z : Bool) (file : File) (k : ℕ) (o : Option Held) → length file ≡ 32 → length (cond z file (slice_set file k o)) ≡ 32
  written_long true file k o long = long
  written_long false file k o long = length-set file k o ∙ long

  written_each : (d : Defined) (file : File) (k x : ℕ) (held : Held) (z : Bool) → k == 0 ≡ z → HasFile known d file → k < 32 → x < 32 → Classed known k (Some held) → (x ≡ k) ⊎ (d x ≡ true) → Classed known x (slice_index_or (cond z file (slice_set file k (Some held))) x None)
  written_each d file k x held true z has lt xlt good (inl same) =
      has.each x xlt (subst (λ y. d y ≡ true) (sym (same ∙ eqb-true k 0 z)) has.first)
  written_each d file k x held true z has lt xlt good (inr old) = has.each x xlt old
  written_each d file k x held false z has lt xlt good (inl same) =
      set_holds (Classed known x) file k x (Some held) (let l = has.long in omega arith) (subst (λ y. Classed known y (Some held)) (sym same) good) (inl same)
  written_each d file k x held false z has lt xlt good (inr old) =
      elim (cases_eq x k) as (λ w. Classed known x (slice_index_or (slice_set file k (Some held)) x None)) [
        | inl same ↦ set_holds (Classed known x) file k x (Some held) (let l = has.long in omega arith) (subst (λ y. Classed known y (Some held)) (sym same) good) (inl same)
        | inr other ↦ subst (Classed known x) (sym (get_or-set_other file k x (Some held) None other)) (has.each x xlt old)
      ]

  pub file_write : (d after : Defined) (file : File) (r : Reg) (held : Held) → HasFile known d file → Classed known (reg_number r) (Some held) → after 0 ≡ true → ((x : ℕ) → x < 32 → after x ≡ true → (x ≡ reg_number r) ⊎ (d x ≡ true)) → HasFile known after (write_register file r held)
  file_write d after file r held has good first sub =
      record {
        long = written_long (reg_number r == 0) file (reg_number r) (Some held) has.long;
        first = first;
        each = λ x lt is. written_each d file (reg_number r) x held (reg_number r == 0) refl has (number_below r) lt good (sub x lt is);
      }

  -- ---- slots

  -- an item that gives no slot leaves them
  pub slots_on : (function : ProgramFunction) (g t d : Defined) (top : Activation) (next : ℕ) → HasSlots known function d top → ((x : ℕ) → 32 ≤ x → g x ≡ true → ⊥) → HasSlots known function (after_item g t d) (at_item next top)
  slots_on function g t d top next has never =
      let less : (x : ℕ) → 32 ≤ x → after_item g t d x ≡ true → d x ≡ true =
      λ x low is. elim (after_item_cases g t d x is) [ inl a ↦ absurd (never x low a) | inr b ↦ b.0 ] in
      record {
        bytes_long = has.bytes_long;
        handles_long = has.handles_long;
        bytes = λ b low high is. has.bytes b low high (less (32 + b) (omega arith) is);
        handles = λ s lt is. has.handles s lt (less (32 + 8 * s) (omega arith) is);
      }
