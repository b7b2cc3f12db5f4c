-- Register files over calls: what a call passes and keeps is picked from the caller's file (picked_held), so it holds no frame register
-- (frameless_saved, frameless_arguments) and nothing that a call takes (holds_saved). A file still stands for the machine's registers where
-- these differ in ra, sp and s0 alone (file_over); what a call keeps holds none of them
-- (frameless_kept), and stands with its value in a0 (file_returned).
use Rattle.std.proofs.Common.{◌≡◌, ◌≢◌, ℕ, ◌<◌, ◌≤◌, Bool, true, false, cond, length, Option, Some, None, refl, ap, sym, ◌∙◌, subst, arith}
use Rattle.std.specs.Prelude.{◌==◌, ◌||◌, ◌&&◌, not, nat_lt, nat_le, slice_index_or, slice_set}
use Rattle.std.proofs.lemmas.List.{get_or_past, get_or-set_same, get_or-set_other, length-set}
use Rattle.std.proofs.lemmas.List.FromFn.{get_or-map-range_with_len, length-map-range_with_len}
use Rattle.std.proofs.lemmas.Bool.{eqb-true, eqb-false, ltb-true, ltb-false, lt-leb, le-leb}
use Rattle.st_base.specs.declared.reg.Reg.TheVariants as registers
use Rattle.st_base.specs.declared.thread.Held.{Held}
use Rattle.st_base.specs.declared.registers.Pick.{Pick}
use Rattle.st_base.specs.declared.registers.Pick.TheVariants.{Saved, Arguments}
use Rattle.st_base.specs.Registers.{picked, picked_at, is_picked, write_register}
use Rattle.st_model.specs.Effect.{File}
use Rattle.st_step.specs.Frames.{Naming, IsHeldAs, HasFile, IsFrameless, is_kept, HoldsKept}

-- ---- what is picked

pub picked_long : (pick : Pick) (file : File) → length (picked pick file) ≡ 32
unfolding picked
picked_long pick file = length-map-range_with_len (picked_at pick file) 0 32

pub picked_is : (pick : Pick) (file : File) (x : ℕ) → x < 32 → slice_index_or (picked pick file) x None ≡ picked_at pick file x
unfolding picked
picked_is pick file x few = get_or-map-range_with_len (picked_at pick file) 0 32 x x None few (omega arith)

when_picked : (b : Bool) (o : Option Held) (held : Held) → cond b o None ≡ Some held → (b ≡ true) × (o ≡ Some held)
when_picked true o held is = (refl, is)
when_picked false o held is = absurd (let never : ⊥ = cc in never)

held_by : (b : Bool) (pick : Pick) (file : File) (x : ℕ) (held : Held) → (b ≡ true → x < 32) → (b ≡ false → 32 ≤ x) → slice_index_or (picked pick file) x None ≡ Some held → (is_picked pick x ≡ true) × (slice_index_or file x None ≡ Some held)
held_by true pick file x held few many there = when_picked (is_picked pick x) (slice_index_or file x None) held (sym (picked_is pick file x (few refl)) ∙ there)
held_by false pick file x held few many there =
    let long = picked_long pick file in
    let past = many refl in
    let nothing = get_or_past (picked pick file) x None (omega arith) in
    absurd (let never : ⊥ = cc in never)

-- what a picked file holds is picked, and the file holds it
pub picked_held : (pick : Pick) (file : File) (x : ℕ) (held : Held) → slice_index_or (picked pick file) x None ≡ Some held → (is_picked pick x ≡ true) × (slice_index_or file x None ≡ Some held)
picked_held pick file x held there = held_by (nat_lt x 32) pick file x held (ltb-true x 32) (ltb-false x 32) there

pub picked_file : (names : Naming) (pick : Pick) (file : File) (value : ℕ → ℕ) → HasFile names file value → HasFile names (picked pick file) value
picked_file names pick file value has = λ x held there. has x held (picked_held pick file x held there).1

not_less : (b c : Bool) → (b ≡ true → c ≡ false) → (b ≡ false → c ≡ true) → not b ≡ c
not_less true c low high = sym (low refl)
not_less false c low high = sym (high refl)

-- a call keeps zero and s1 to s11
pub holds_saved : (file : File) → HoldsKept (picked Saved file)
holds_saved file = λ x held there.
    let from : not (nat_lt x 18) ≡ nat_le 18 x = not_less (nat_lt x 18) (nat_le 18 x) (λ low. lt-leb 18 x (ltb-true x 18 low)) (λ high. le-leb 18 x (ltb-false x 18 high)) in
    ap (λ (b : Bool). x == 0 || x == 9 || (b && nat_lt x 28)) (sym from) ∙ (picked_held Saved file x held there).0

pub frameless_saved : (file : File) → IsFrameless (picked Saved file)
frameless_saved file = record {
  long = picked_long Saved file;
  ra = picked_is Saved file 1 (omega arith);
  sp = picked_is Saved file 2 (omega arith);
  fp = picked_is Saved file 8 (omega arith);
}

pub frameless_arguments : (ints handles : ℕ) (file : File) → IsFrameless (picked (Arguments ints handles) file)
frameless_arguments ints handles file = record {
  long = picked_long (Arguments ints handles) file;
  ra = picked_is (Arguments ints handles) file 1 (omega arith);
  sp = picked_is (Arguments ints handles) file 2 (omega arith);
  fp = picked_is (Arguments ints handles) file 8 (omega arith);
}

-- ---- files and registers

not_held : (file : File) (x y : ℕ) (held : Held) → slice_index_or file x None ≡ Some held → slice_index_or file y None ≡ None → x ≢ y
not_held file x y held there nothing e = let same = ap (λ (z : ℕ). slice_index_or file z None) e in cc

pub file_over : (names : Naming) (file : File) (value value' : ℕ → ℕ) → IsFrameless file → ((x : ℕ) → x ≢ 1 → x ≢ 2 → x ≢ 8 → value x ≡ value' x) → HasFile names file value → HasFile names file value'
file_over names file value value' frameless same has = λ x held there.
    subst (λ (n : ℕ). IsHeldAs names held n) (same x (not_held file x 1 held there frameless.ra) (not_held file x 2 held there frameless.sp) (not_held file x 8 held there frameless.fp)) (has x held there)

-- a call keeps none of these
pub not_kept : (x y : ℕ) → is_kept x ≡ true → is_kept y ≡ false → x ≢ y
not_kept x y kept other e = let same = ap is_kept e in cc

kept_nothing : (kept : File) (x : ℕ) (o : Option Held) → HoldsKept kept → is_kept x ≡ false → slice_index_or kept x None ≡ o → o ≡ None
kept_nothing kept x None holds other is = refl
kept_nothing kept x (Some held) holds other is = absurd (let e = holds x held is in let never : ⊥ = cc in never)

-- what a call keeps
pub frameless_kept : (kept : File) → length kept ≡ 32 → HoldsKept kept → IsFrameless kept
frameless_kept kept long holds = record {
  long = long;
  ra = kept_nothing kept 1 _ holds refl refl;
  sp = kept_nothing kept 2 _ holds refl refl;
  fp = kept_nothing kept 8 _ holds refl refl;
}

-- what a call keeps, with its value in a0
pub frameless_returned : (kept : File) (held : Held) → length kept ≡ 32 → HoldsKept kept → IsFrameless (write_register kept registers.A0 held)
frameless_returned kept held long holds = record {
  long = length-set kept 10 (Some held) ∙ long;
  ra = get_or-set_other kept 10 1 (Some held) None (λ e. absurd (omega (arith, e))) ∙ kept_nothing kept 1 _ holds refl refl;
  sp = get_or-set_other kept 10 2 (Some held) None (λ e. absurd (omega (arith, e))) ∙ kept_nothing kept 2 _ holds refl refl;
  fp = get_or-set_other kept 10 8 (Some held) None (λ e. absurd (omega (arith, e))) ∙ kept_nothing kept 8 _ holds refl refl;
}

returned_at : (b : Bool) (names : Naming) (kept : File) (held : Held) (value : ℕ → ℕ) → length kept ≡ 32 → HasFile names kept value → IsHeldAs names held (value 10) → (x : ℕ) (there : Held) → (b ≡ true → x ≡ 10) → (b ≡ false → x ≢ 10)
    → slice_index_or (write_register kept registers.A0 held) x None ≡ Some there → IsHeldAs names there (value x)
returned_at true names kept held value long has first x there same other is =
    let e = same refl in
    let at = get_or-set_same kept 10 (Some held) None (omega arith) in
    let is_ten = ap (λ (y : ℕ). slice_index_or (slice_set kept 10 (Some held)) y None) e in
    let held_is : held ≡ there = cc in
    subst (λ (y : ℕ). IsHeldAs names there (value y)) (sym e) (subst (λ (h : Held). IsHeldAs names h (value 10)) held_is first)
returned_at false names kept held value long has first x there same other is =
    has x there (sym (get_or-set_other kept 10 x (Some held) None (other refl)) ∙ is)

pub file_returned : (names : Naming) (kept : File) (held : Held) (value : ℕ → ℕ) → length kept ≡ 32 → HasFile names kept value → IsHeldAs names held (value 10) → HasFile names (write_register kept registers.A0 held) value
file_returned names kept held value long has first = λ x there is. returned_at (x == 10) names kept held value long has first x there (eqb-true x 10) (eqb-false x 10) is
