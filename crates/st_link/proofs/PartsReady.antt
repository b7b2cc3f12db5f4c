-- The parts that items are laid out in are ready to be encoded: every immediate in them is short. Reach for li-ready, prologue-ready,
-- epilogue-ready, restoring-ready and freeing-ready (the two halves of an augmented epilogue) and copy-ready; saved-length bounds the
-- saved registers.
use Rattle.std.proofs.Common.{◌≡◌, ℕ, ◌+◌, ◌*◌, ◌%◌, ◌/◌, ◌^◌, ◌≤◌, ◌<◌, Bool, true, false, not, ◌&&◌, List, [], ◌∷◌, ◌++◌, length, refl, arith, nat_lt}
use Rattle.std.specs.Prelude.{ℤ, pos, ◌-ℤ◌, int_lt, if◌then◌else◌, ◌==◌}
use Rattle.std.specs.Int.{bit_at}
use Rattle.std.proofs.lemmas.Int.{ints}
use Rattle.std.proofs.lemmas.Bool.{and_parts, ltb-true, ltb-false}
use Rattle.st_base.specs.declared.reg.Reg.{Reg}
use Rattle.st_base.specs.declared.reg.Reg.TheVariants as registers
use Rattle.st_rv.specs.Fields.{IsSigned, IsUnsigned}
use Rattle.st_rv.specs.Results.{word_of}
use Rattle.st_rv.specs.declared.ins.Op.TheVariants as ops
use Rattle.st_model.specs.declared.program.ProgramFunction.{ProgramFunction}
use Rattle.st_model.specs.declared.code.Layout.{Layout}
use Rattle.st_model.specs.declared.code.Layout.TheVariants.{Postprocessed, Unchanged}
use Rattle.st_model.specs.declared.code.PostedIns.TheVariants as posted
use Rattle.st_model.specs.Layout.{below, is_short, low_part, high_part, with_low_part, li_ins, addi, ld, return, upper_ins, immediate_ins, saveable, saved_among, saved_of, stores, loads, prologue_ins, epilogue_ins, restoring_ins, freeing_ins, copy_by}
use Rattle.st_link.proofs.Rows.{fits-addi, fits-ld, fits-sd, fits-jalr, fits-addiw, fits-lui}
use Rattle.st_link.proofs.Distances.{less, not-less, signed-near}
use Rattle.st_link.proofs.Ready.{IsReady, AreReady, ready-append}

-- ---- `li`

short-signed : (value : ℤ) → is_short value ≡ true → IsSigned (2 ^ 11) value
short-signed value e = let parts = and_parts _ _ e in (not-less value (below 2048) parts.0, less value (pos 2048) parts.1)

extended-signed : (b : Bool) (n : ℕ) → nat_lt n (2 ^ 11) ≡ b → n < 2 ^ 12 → IsSigned (2 ^ 11) (if b then pos n else pos n -ℤ pos (2 * 2 ^ 11))
extended-signed true n e small = let low = ltb-true n (2 ^ 11) e in (omega (arith, ints), omega (arith, ints))
extended-signed false n e small = let high = ltb-false n (2 ^ 11) e in (omega (arith, ints), omega (arith, ints))

low-signed : (value : ℤ) → IsSigned (2 ^ 11) (low_part value)
low-signed value = extended-signed (nat_lt (word_of value % 2 ^ 12) (2 ^ 11)) (word_of value % 2 ^ 12) refl (omega arith)

high-below : (n : ℕ) → n % 2 ^ 32 / 2 ^ 12 < 2 ^ 20
high-below n = omega arith

high-unsigned : (value : ℤ) → IsUnsigned (2 ^ 20) (pos (high_part value))
high-unsigned value = let low = high-below (word_of value + 0x800) in (omega (arith, ints), omega (arith, ints, low))

low-ready : (n at : ℕ) (rd : Reg) (value : ℤ) (b : Bool) → IsSigned (2 ^ 11) value → AreReady n at (if b then [] else posted.Plain (immediate_ins ops.Addiw rd rd value) ∷ [])
low-ready n at rd value true is = tt
low-ready n at rd value false is = (fits-addiw rd rd value is, tt)

li-by : (n at : ℕ) (rd : Reg) (value : ℤ) (b : Bool) → is_short value ≡ b → AreReady n at (if b then addi rd registers.Zero value ∷ [] else posted.Plain (upper_ins ops.Lui rd (pos (high_part value))) ∷ with_low_part rd (low_part value))
li-by n at rd value true e = (fits-addi rd registers.Zero value (short-signed value e), tt)
li-by n at rd value false e = (fits-lui rd (pos (high_part value)) (high-unsigned value), low-ready n (at + 1) rd (low_part value) (not (int_lt (low_part value) (pos 0)) && not (int_lt (pos 0) (low_part value))) (low-signed value))

pub li-ready : (n at : ℕ) (rd : Reg) (value : ℤ) → AreReady n at (li_ins rd value)
li-ready n at rd value = li-by n at rd value (is_short value) refl

-- ---- saved registers

among-length : (bits k : ℕ) (rs : List Reg) → length (saved_among bits k rs) ≤ length rs
among-length bits k [] = omega arith
among-length bits k (r ∷ rs) =
    let rest = among-length bits (k + 1) rs in
    (elim (bit_at bits k == 1) as (λ b. length (if b then r ∷ saved_among bits (k + 1) rs else saved_among bits (k + 1) rs) ≤ length (r ∷ rs)) [
      | true ↦ omega (arith, rest)
      | false ↦ omega (arith, rest)
    ])

pub saved-length : (function : ProgramFunction) → length (saved_of function) ≤ 11
saved-length function = among-length function.saved 0 saveable

loads-ready : (n at : ℕ) (base : Reg) (top k : ℕ) (saved : List Reg) → top ≤ 2032 → k + length saved ≤ 11 → AreReady n at (loads base (pos top) k saved)
loads-ready n at base top k [] low few = tt
loads-ready n at base top k (r ∷ rs) low few =
    (fits-ld r base (pos top -ℤ pos (24 + 8 * k)) (omega (arith, ints), omega (arith, ints)), loads-ready n (at + 1) base top (k + 1) rs low (omega arith))

stores-ready : (n at : ℕ) (base : Reg) (top k : ℕ) (saved : List Reg) → top ≤ 2032 → k + length saved ≤ 11 → AreReady n at (stores base (pos top) k saved)
stores-ready n at base top k [] low few = tt
stores-ready n at base top k (r ∷ rs) low few =
    (fits-sd base r (pos top -ℤ pos (24 + 8 * k)) (omega (arith, ints), omega (arith, ints)), stores-ready n (at + 1) base top (k + 1) rs low (omega arith))

-- ---- prologues and epilogues

return-ready : (n at : ℕ) → IsReady n at return
return-ready n at = fits-jalr registers.Zero registers.Ra (pos 0) (omega (arith, ints), omega (arith, ints))

pub prologue-ready : (n at frame : ℕ) (saved : List Reg) → 16 ≤ frame → frame ≤ 2032 → length saved ≤ 11 → AreReady n at (prologue_ins frame saved)
prologue-ready n at frame saved least most few =
    let next = at + 1 + 1 + 1 in
    let last : AreReady n (next + length (stores registers.Sp (pos frame) 0 saved)) (addi registers.S0 registers.Sp (pos frame) ∷ []) = (fits-addi registers.S0 registers.Sp (pos frame) (omega (arith, ints), omega (arith, ints)), tt) in
    let rest : AreReady n next (stores registers.Sp (pos frame) 0 saved ++ addi registers.S0 registers.Sp (pos frame) ∷ []) = ready-append n next (stores registers.Sp (pos frame) 0 saved) _ (stores-ready n next registers.Sp frame 0 saved most (omega arith)) last in
    (fits-addi registers.Sp registers.Sp (below frame) (omega (arith, ints), omega (arith, ints)), (fits-sd registers.Sp registers.Ra (pos frame -ℤ pos 8) (omega (arith, ints), omega (arith, ints)), (fits-sd registers.Sp registers.S0 (pos frame -ℤ pos 16) (omega (arith, ints), omega (arith, ints)), rest)))

pub epilogue-ready : (n at frame : ℕ) (saved : List Reg) → 16 ≤ frame → frame ≤ 2032 → length saved ≤ 11 → AreReady n at (epilogue_ins frame saved)
epilogue-ready n at frame saved least most few =
    let next = at + 1 + 1 in
    let last : AreReady n (next + length (loads registers.Sp (pos frame) 0 saved)) (addi registers.Sp registers.Sp (pos frame) ∷ return ∷ []) = (fits-addi registers.Sp registers.Sp (pos frame) (omega (arith, ints), omega (arith, ints)), (return-ready n 0, tt)) in
    let rest : AreReady n next (loads registers.Sp (pos frame) 0 saved ++ addi registers.Sp registers.Sp (pos frame) ∷ return ∷ []) = ready-append n next (loads registers.Sp (pos frame) 0 saved) _ (loads-ready n next registers.Sp frame 0 saved most (omega arith)) last in
    (fits-ld registers.Ra registers.Sp (pos frame -ℤ pos 8) (omega (arith, ints), omega (arith, ints)), (fits-ld registers.S0 registers.Sp (pos frame -ℤ pos 16) (omega (arith, ints), omega (arith, ints)), rest))

pub restoring-ready : (n at : ℕ) (saved : List Reg) → length saved ≤ 11 → AreReady n at (restoring_ins saved)
restoring-ready n at saved few =
    let next = at + 1 + 1 in
    let last : AreReady n (next + length (loads registers.Tp (pos 0) 0 saved)) (ld registers.S0 (below 16) registers.Tp ∷ []) = (fits-ld registers.S0 registers.Tp (below 16) (omega (arith, ints), omega (arith, ints)), tt) in
    let rest : AreReady n next (loads registers.Tp (pos 0) 0 saved ++ ld registers.S0 (below 16) registers.Tp ∷ []) = ready-append n next (loads registers.Tp (pos 0) 0 saved) _ (loads-ready n next registers.Tp 0 0 saved (omega arith) (omega arith)) last in
    (fits-addi registers.Tp registers.S0 (pos 0) (omega (arith, ints), omega (arith, ints)), (fits-ld registers.Ra registers.Tp (below 8) (omega (arith, ints), omega (arith, ints)), rest))

pub freeing-ready : (n at keep : ℕ) → at + 1 ≤ keep → keep ≤ at + 8 → AreReady n at (freeing_ins keep)
freeing-ready n at keep from to = (
  (refl, signed-near at keep (omega arith) to),
  (
    (refl, signed-near (at + 1) keep from (omega arith)),
    (fits-addi registers.Sp registers.Tp (pos 0) (omega (arith, ints), omega (arith, ints)), (return-ready n 0, (fits-sd registers.Tp registers.Zero (below 8) (omega (arith, ints), omega (arith, ints)), (return-ready n 0, tt)))),
  ),
)

pub copy-ready : (layout : Layout) (n at : ℕ) (function : ProgramFunction) → AreReady n at (copy_by layout function)
copy-ready Unchanged n at function = tt
copy-ready Postprocessed n at function = ready-append n at (restoring_ins (saved_of function)) (return ∷ []) (restoring-ready n at (saved_of function) (saved-length function)) (return-ready n 0, tt)
