-- Room for a statement: is_small_from_added says that what it adds decides whether the limits are kept.
use Rattle.std.proofs.Common.{ℕ, ◌≡◌, ◌+◌, ◌^◌, ◌≤◌, subst, Bool, true, false, ◌&&◌, nat_le, List, ◌++◌, length, refl, ap, sym, ◌∙◌, add-zero, length-append, Some, None, Option, cond, ◌==◌}
use Rattle.std.proofs.lemmas.List.{length-replicate}
use Rattle.st_base.specs.declared.line.Line.{Line}
use Rattle.st_asm.specs.declared.unit.Function.{Function}
use Rattle.st_asm.specs.Labels.{is_local}
use Rattle.st_line.specs.declared.source.Statement.{Statement}
use Rattle.st_line.specs.declared.source.Statement.TheVariants as statements
use Rattle.st_asm.specs.Assembly.{Assembly, labelled, label_in, local_label, begin_line, begin_file, with_statement, is_small, padding, zeros, aligned}
use Rattle.st_asm.specs.Reading.{added_instructions, added_bytes, IsAligned}

within : ℕ → ℕ → Bool
within i n = nat_le i 65536 && nat_le n 1048576

same : (i j n m : ℕ) → i ≡ j → n ≡ m → (nat_le i 65536 && nat_le n 1048576) ≡ (nat_le j 65536 && nat_le m 1048576)
same i j n m e f = λ k. nat_le (e k) 65536 && nat_le (f k) 1048576

longer : (xs ys : List ℕ) (n : ℕ) → length ys ≡ n → length xs + n ≡ length (xs ++ ys)
longer xs ys n e = ap (λ k. length xs + k) (sym e) ∙ sym (length-append xs ys)

padded : (in_data : Bool) (power : ℕ) (a : Assembly) → (nat_le (a.instructions + 0) 65536 && nat_le (length a.rodata + added_bytes (statements.Align power) in_data (length a.rodata)) 1048576) ≡ is_small (aligned in_data power a)
padded true power a = same _ _ _ _ (add-zero a.instructions) (longer a.rodata (zeros (padding (2 ^ power) (length a.rodata))) _ (length-replicate _ 0))
padded false power a = same _ _ _ _ (add-zero a.instructions) (add-zero (length a.rodata))

pub is_small_from_added : (line : Line) (s : Statement) (a : Assembly) → (nat_le (a.instructions + added_instructions s) 65536 && nat_le (length a.rodata + added_bytes s a.standing.in_data (length a.rodata)) 1048576) ≡ is_small (with_statement line s a)
is_small_from_added line statements.Ignored a = same _ _ _ _ (add-zero a.instructions) (add-zero (length a.rodata))
is_small_from_added line statements.Code a = same _ _ _ _ (add-zero a.instructions) (add-zero (length a.rodata))
is_small_from_added line statements.Rodata a = same _ _ _ _ (add-zero a.instructions) (add-zero (length a.rodata))
is_small_from_added line (statements.Align power) a = padded a.standing.in_data power a
is_small_from_added line (statements.Data bytes) a = same _ _ _ _ (add-zero a.instructions) (longer a.rodata bytes _ refl)
is_small_from_added line (statements.Zeros count) a = same _ _ _ _ (add-zero a.instructions) (longer a.rodata (zeros count) _ (length-replicate _ 0))
is_small_from_added line (statements.Arguments ints handles) a = same _ _ _ _ (add-zero a.instructions) (add-zero (length a.rodata))
is_small_from_added line (statements.Handles slots) a = same _ _ _ _ (add-zero a.instructions) (add-zero (length a.rodata))
is_small_from_added line (statements.Instruction ins) a = same _ _ _ _ refl (add-zero (length a.rodata))

labelled-small : (line : Line) (label : Option (List ℕ)) (a : Assembly) → ((labelled line label a).instructions ≡ a.instructions) × ((labelled line label a).rodata ≡ a.rodata)
labelled-small line None a = (refl, refl)
labelled-small line (Some name) a = in_place a.standing.in_data (is_local name) a.current
  where
    local : (current : Option Function) → ((local_label line name current a).instructions ≡ a.instructions) × ((local_label line name current a).rodata ≡ a.rodata)
    local None = (refl, refl)
    local (Some f) = (refl, refl)

    in_place : (in_data is_local : Bool) (current : Option Function) → ((label_in in_data is_local line name a).instructions ≡ a.instructions) × ((label_in in_data is_local line name a).rodata ≡ a.rodata)
    in_place true is_local current = (refl, refl)
    in_place false true current = local a.current
    in_place false false current = (refl, refl)

begin_line-small : (line : Line) (a : Assembly) → ((begin_line line a).instructions ≡ a.instructions) × ((begin_line line a).rodata ≡ a.rodata)
begin_line-small line a = elim (line.line == 1) as (λ b. ((cond b (begin_file a) a).instructions ≡ a.instructions) × ((cond b (begin_file a) a).rodata ≡ a.rodata)) [ true ↦ (refl, refl) | false ↦ (refl, refl) ]

pub instructions_kept : (line : Line) (label : Option (List ℕ)) (a : Assembly) → (labelled line label (begin_line line a)).instructions ≡ a.instructions
instructions_kept line label a = (labelled-small line label (begin_line line a)).0 ∙ (begin_line-small line a).0

pub rodata_kept : (line : Line) (label : Option (List ℕ)) (a : Assembly) → (labelled line label (begin_line line a)).rodata ≡ a.rodata
rodata_kept line label a = (labelled-small line label (begin_line line a)).1 ∙ (begin_line-small line a).1

-- the power of an alignment that was read
pub power-small : (s : Statement) (power : ℕ) → s ≡ statements.Align power → IsAligned (Some s) → power ≤ 12
power-small s power e h = let P : Statement → Type 0 = λ s. IsAligned (Some s) in subst P e h
