-- Places of a function: registers by their numbers, and what is defined of them after an item. A number test that holds of all 32 numbers
-- is used by register_implies, which computes. Reach for number_below (a register is below 32), handle_number (the handle registers as
-- a test of numbers), classes_apart (no register is of both classes), saved_picked (what a call does not take, the caller gets back)
-- and after_item_cases (what is defined after an item was given by it, or was there and is not taken).
use Rattle.std.proofs.Common.{◌≡◌, ℕ, ◌<◌, ◌≤◌, Bool, true, false, refl, sym, ◌∙◌, lit<, ◌⊎◌, inl, inr}
use Rattle.std.specs.Prelude.{◌||◌, ◌&&◌, not}
use Rattle.std.proofs.lemmas.Bool.{agree_below, agree_below_at, and_parts, and_from, or_right, not_from_false, false≢true, leb-true, ltb-true, le-leb, lt-ltb}
use Rattle.st_base.specs.declared.reg.Reg.{Reg}
use Rattle.st_base.specs.declared.reg.Reg.TheVariants.{Zero}
use Rattle.st_base.specs.declared.registers.Pick.TheVariants.{Saved}
use Rattle.st_base.specs.Reg.{reg_number}
use Rattle.st_base.specs.Registers.{is_picked}
use Rattle.st_model.specs.Effect.{is_handle}
use Rattle.st_model.specs.Flow.{Defined, between, taken_by_call}
use Rattle.st_model.specs.Accepted.{is_int, IsInt, IsHandle}

-- ---- tests

pub between_holds : (low high x : ℕ) → between low high x ≡ true → (low ≤ x) × (x < high)
between_holds low high x e = let parts = and_parts _ _ e in (leb-true low x parts.0, ltb-true x high parts.1)

pub between_from : (low high x : ℕ) → low ≤ x → x < high → between low high x ≡ true
between_from low high x a b = and_from _ _ (le-leb low x a) (lt-ltb x high b)

implied : (a b : Bool) → not a || b ≡ true → a ≡ true → b ≡ true
implied true b h e = h
implied false b h e = absurd (false≢true e)

-- one test implies another at the numbers of registers: the third argument is refl
pub register_implies : (f g : ℕ → Bool) (x : ℕ) → agree_below (λ k. not (f k) || g k) (λ k. true) 32 ≡ true → x < 32 → f x ≡ true → g x ≡ true
register_implies f g x all lt is = implied (f x) (g x) (agree_below_at (λ k. not (f k) || g k) (λ k. true) 32 x all lt) is

-- ---- registers

pub number_below : (r : Reg) → reg_number r < 32
number_below Zero = lit< tt
number_below _ = lit< tt

-- the handle registers by their numbers
abbrev pub is_handle_place : ℕ → Bool
is_handle_place x = between 16 18 x || between 24 28 x

pub handle_number : (r : Reg) → is_handle r ≡ is_handle_place (reg_number r)
handle_number Zero = refl
handle_number _ = refl

pub fork_handle : (r : Reg) → between 24 28 (reg_number r) ≡ true → is_handle r ≡ true
fork_handle r e = handle_number r ∙ or_right _ _ e

pub classes_apart : (x : ℕ) → x < 32 → is_int x ≡ true → is_handle_place x ≡ true → ⊥
classes_apart x lt a b =
    false≢true (register_implies (λ k. is_int k && is_handle_place k) (λ k. false) x refl lt (and_from _ _ a b))

pub register_apart : (r : Reg) → IsInt r → IsHandle r → ⊥
register_apart r a b = classes_apart (reg_number r) (number_below r) a (sym (handle_number r) ∙ b)

pub saved_picked : (x : ℕ) → x < 32 → is_int x || is_handle_place x ≡ true → taken_by_call x ≡ false → is_picked Saved x ≡ true
saved_picked x lt a b =
    register_implies (λ k. (is_int k || is_handle_place k) && not (taken_by_call k)) (is_picked Saved) x refl lt (and_from _ _ a (not_from_false _ b))

-- ---- what is defined after an item

abbrev pub nothing : Defined
nothing x = false

-- the item gives g and takes t
abbrev pub after_item : (g t : Defined) → Defined → Defined
after_item g t d x = g x || (d x && not (t x))

cases_of : (g d t : Bool) → g || (d && not t) ≡ true → (g ≡ true) ⊎ ((d ≡ true) × (t ≡ false))
cases_of true d t e = inl refl
cases_of false true true e = absurd (false≢true e)
cases_of false true false e = inr (refl, refl)
cases_of false false t e = absurd (false≢true e)

pub after_item_cases : (g t d : Defined) (x : ℕ) → after_item g t d x ≡ true → (g x ≡ true) ⊎ ((d x ≡ true) × (t x ≡ false))
after_item_cases g t d x e = cases_of (g x) (d x) (t x) e

pub after_item_stays : (g t d : Defined) (x : ℕ) → d x ≡ true → t x ≡ false → after_item g t d x ≡ true
after_item_stays g t d x e k = or_right _ _ (and_from _ _ e (not_from_false _ k))
