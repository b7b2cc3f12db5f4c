-- The instruction at the pc: its immediate is bounded (bounded_some), and it is the one of which a step speaks (must_fetch, may_move, stepped).
-- The immediate of an instruction that fits the table is bounded too (fits_bounded), and its word is below 2 ^ 64 (fits_word).
use Rattle.std.proofs.Common.{◌≡◌, ℕ, ◌+◌, ◌*◌, ◌<◌, ◌≤◌, ◌^◌, sym, subst, arith, Bool, true, false, List, [], ◌∷◌, Option, Some, None, IfSome, inl, inr, ℤ, pos, neg_ℤ, ◌-ℤ◌, ◌≤ℤ◌, cond, nat_lt, get_or, slice_get}
use Rattle.std.proofs.lemmas.Int.{ints}
use Rattle.std.proofs.lemmas.Option.{get_or_from_slice_get}
use Rattle.st_base.specs.declared.image.Image.{Image}
use Rattle.st_rv.specs.declared.ins.Ins.{Ins}
use Rattle.st_rv.specs.declared.rows.Row.{Row}
use Rattle.st_rv.specs.declared.rows.Form.{Form}
use Rattle.st_rv.specs.declared.rows.Form.TheVariants.{R, I, Shift6, Shift5, S, B, U, J, Fixed}
use Rattle.st_rv.specs.declared.rows.TheConstants.{ROWS}
use Rattle.st_rv.specs.Fields.{immediate, field, FitsForm}
use Rattle.st_rv.specs.Results.{word_of}
use Rattle.st_rv.specs.Rows.{IsRow, GivesRow, FitsRow, FitsTable, SomeRow}
use Rattle.st_model.specs.Memory.{Data}
use Rattle.st_words.specs.Steps.{Step, Answer}
use Rattle.st_step.specs.declared.state.State.{State}
use Rattle.st_step.specs.declared.machine.StepEnd.{StepEnd}
use Rattle.st_step.specs.Moves.{Move, Fetches, MayStep, MayMove, Moves, Stepped, move_of, is_entry}
use Rattle.st_step.specs.Acts.{IsBounded}
use Rattle.st_step.proofs.ResultBounds.{word_small}

-- a number in two's complement is no less than minus its range
extended_bounded : (b : Bool) (n half : ℕ) → half ≤ 2 ^ 20 → neg_ℤ (pos (2 ^ 31)) ≤ℤ (cond b (pos n) (pos n -ℤ pos (2 * half)))
extended_bounded true n half most = omega (arith, ints)
extended_bounded false n half most = omega (arith, ints)

immediate_bounded : (f : Form) (w : ℕ) → neg_ℤ (pos (2 ^ 31)) ≤ℤ immediate f w
immediate_bounded R w = omega (arith, ints)
immediate_bounded I w = extended_bounded (nat_lt (field w 20 12) (2 ^ 11)) (field w 20 12) (2 ^ 11) (omega arith)
immediate_bounded Shift6 w = omega (arith, ints)
immediate_bounded Shift5 w = omega (arith, ints)
immediate_bounded S w = extended_bounded (nat_lt (field w 25 7 * 2 ^ 5 + field w 7 5) (2 ^ 11)) (field w 25 7 * 2 ^ 5 + field w 7 5) (2 ^ 11) (omega arith)
immediate_bounded B w = extended_bounded _ (field w 31 1 * 2 ^ 12 + field w 7 1 * 2 ^ 11 + field w 25 6 * 2 ^ 5 + field w 8 4 * 2) (2 ^ 12) (omega arith)
immediate_bounded U w = omega (arith, ints)
immediate_bounded J w = extended_bounded _ (field w 31 1 * 2 ^ 20 + field w 12 8 * 2 ^ 12 + field w 20 1 * 2 ^ 11 + field w 21 10 * 2) (2 ^ 20) (omega arith)
immediate_bounded Fixed w = omega (arith, ints)

rows_bounded : (rows : List Row) (i : Ins) (w : ℕ) → SomeRow (GivesRow i w) rows → IsBounded i
rows_bounded [] i w row = absurd row
rows_bounded (r ∷ rows) i w row = elim row [ inl gives ↦ subst (λ (z : ℤ). neg_ℤ (pos (2 ^ 31)) ≤ℤ z) (sym gives.word.fields.imm) (immediate_bounded r.form w) | inr later ↦ rows_bounded rows i w later ]

row_bounded : (i : Ins) (w : ℕ) → IsRow i w → IsBounded i
unfolding IsRow
row_bounded i w row = rows_bounded ROWS i w row

form_bounded : (f : Form) (i : Ins) → FitsForm f i → IsBounded i
form_bounded R i fits = let e = fits in omega (arith, ints)
form_bounded I i fits = let e = fits.0.0 in omega (arith, ints)
form_bounded Shift6 i fits = let e = fits.0.0 in omega (arith, ints)
form_bounded Shift5 i fits = let e = fits.0.0 in omega (arith, ints)
form_bounded S i fits = let e = fits.0.0 in omega (arith, ints)
form_bounded B i fits = let e = fits.0.0 in omega (arith, ints)
form_bounded U i fits = let e = fits.0.0 in omega (arith, ints)
form_bounded J i fits = let e = fits.0.0 in omega (arith, ints)
form_bounded Fixed i fits = let e = fits.0 in omega (arith, ints)

form_word : (f : Form) (i : Ins) → FitsForm f i → word_of i.imm < 2 ^ 64
form_word R i fits = let e = fits in word_small i.imm (omega (arith, ints))
form_word I i fits = let e = fits.0.1 in word_small i.imm (omega (arith, ints))
form_word Shift6 i fits = let e = fits.0.1 in word_small i.imm (omega (arith, ints))
form_word Shift5 i fits = let e = fits.0.1 in word_small i.imm (omega (arith, ints))
form_word S i fits = let e = fits.0.1 in word_small i.imm (omega (arith, ints))
form_word B i fits = let e = fits.0.1 in word_small i.imm (omega (arith, ints))
form_word U i fits = let e = fits.0.1 in word_small i.imm (omega (arith, ints))
form_word J i fits = let e = fits.0.1 in word_small i.imm (omega (arith, ints))
form_word Fixed i fits = let e = fits.0 in word_small i.imm (omega (arith, ints))

-- what follows from each form follows from the table
by_form : (P : Type 0) (rows : List Row) (i : Ins) → ((f : Form) → FitsForm f i → P) → SomeRow (FitsRow i) rows → P
by_form P [] i each row = absurd row
by_form P (r ∷ rows) i each row = elim row [ inl fits ↦ each r.form fits.form | inr later ↦ by_form P rows i each later ]

pub fits_bounded : (i : Ins) → FitsTable i → IsBounded i
unfolding FitsTable
fits_bounded i fits = by_form (IsBounded i) ROWS i (λ f. form_bounded f i) fits

pub fits_word : (i : Ins) → FitsTable i → word_of i.imm < 2 ^ 64
unfolding FitsTable
fits_word i fits = by_form (word_of i.imm < 2 ^ 64) ROWS i (λ f. form_word f i) fits

pub bounded_some : (w : ℕ) (r : Option Ins) → IfSome r (λ i. IsRow i w) → IfSome r (λ i. IsBounded i)
bounded_some w None h = h
bounded_some w (Some i) h = row_bounded i w h

-- the word at a place, as it was read
pub word_read : (slice words : List ℕ) (index place word found : ℕ) → slice ≡ words → index ≡ place → found ≡ get_or slice index 0 → slice_get words place ≡ Some word → word ≡ found
word_read slice words index place word found same at read there = let e = get_or_from_slice_get words place word 0 there in cc

-- where the pc is no entry's, there is an instruction
pub must_fetch : (asks : Step → Type 0) (image : Image) (d : Data) (m : State) → is_entry m.pc ≡ false → MayStep asks image d m → (r : Option Ins) → ((i : Ins) → Fetches image m.pc i → r ≡ Some i) → r ≡ None → ⊥
must_fetch asks image d m entry may r only none = elim may [ inl is ↦ cc | inr (i, fetches, move) ↦ let e = only i fetches in cc ]

-- and its step of the board may be asked
pub may_move : (asks : Step → Type 0) (image : Image) (d : Data) (m : State) (i : Ins) (x : Move) → is_entry m.pc ≡ false → MayStep asks image d m → ((j : Ins) → Fetches image m.pc j → Some i ≡ Some j) → x ≡ move_of d m i → MayMove asks x
may_move asks image d m i x entry may only same =
    subst (λ (y : Move). MayMove asks y) (sym same)
    (elim may [
      | inl is ↦ absurd (let never : ⊥ = cc in never)
      | inr (j, fetches, move) ↦ let e = only j fetches in let one : j ≡ i = cc in subst (λ (k : Ins). MayMove asks (move_of d m k)) one move
    ])

-- and what was done is the step
pub stepped : {Board : Type 0} (made : Step → Answer → Board → Type 0) (old : Board) (m : State) (image : Image) (d : Data) (end : StepEnd) (new : State) (board : Board) (i : Ins) (x : Move)
    → is_entry m.pc ≡ false → ((j : Ins) → Fetches image m.pc j → Some i ≡ Some j) → x ≡ move_of d m i → Moves made old m x end new board → Stepped made old m image d end new board
stepped made old m image d end new board i x entry only same moves = record {
  entry = λ is. absurd (let never : ⊥ = cc in never);
  moved = λ no_entry j fetches.
      let e = only j fetches in
      let one : i ≡ j = cc in
      subst (λ (k : Ins). Moves made old m (move_of d m k) end new board) one
      (subst (λ (y : Move). Moves made old m y end new board) same moves);
}
