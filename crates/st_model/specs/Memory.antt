-- Loads: from the slot bytes of an activation, and from the read-only data and the input.
use Rattle.std.specs.Prelude.{ℕ, ℤ, zero, suc, ◌+◌, ◌-◌, ◌*◌, ◌%◌, ◌^◌, cond, nat_lt, List, Option, Some, None, slice_get, slice_index_or}
use Rattle.st_rv.specs.Results.{word_of}

-- what a program reads beside its own state
pub record Data : Type 0 where
  pub rodata : List ℕ
  pub input : List ℕ

abbrev pub data_of : List ℕ → List ℕ → Data
data_of rodata input = record { rodata = rodata; input = input }

abbrev pub byte_below : Option ℕ → Option ℕ → Option ℕ
byte_below None more = None
byte_below (Some b) None = None
byte_below (Some b) (Some v) = Some (((v * 256) % 2 ^ 64 + b) % 2 ^ 64)

-- the little-endian number in k bytes, at most eight, where each of them is there
unfoldable pub load_from : (ℕ → Option ℕ) → ℕ → ℕ → Option ℕ
load_from byte at zero = Some 0
load_from byte at (suc k) = byte_below (byte at) (load_from byte (at + 1) k)

abbrev pub slot_byte : List (Option ℕ) → ℕ → Option ℕ
slot_byte bytes at = slice_index_or bytes at None

-- the byte at an address of a stretch of memory that begins at the base
abbrev pub region : List ℕ → ℕ → ℕ → Option ℕ
region bytes base at = cond (nat_lt at base) None (slice_get bytes (at - base))

abbrev pub either : Option ℕ → Option ℕ → Option ℕ
either None o = o
either (Some b) o = Some b

-- the byte at an address: the read-only data stand from 0x2000_0000, the input from 0x4000_0000
abbrev pub data_byte : Data → ℕ → Option ℕ
data_byte d at = either (region d.rodata 0x2000_0000 at) (region d.input 0x4000_0000 at)

-- the place of a slot access, counted from the frame's low end; s0 stands at its high end
abbrev pub slot_place : ℕ → ℤ → ℕ
slot_place frame_bytes offset = (frame_bytes + word_of offset) % 2 ^ 64
