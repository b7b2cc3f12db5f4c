-- Values of options: the numbers that `parse` reads, and schedules. The laws to reach for: number_in-refused for a numeral
-- that is too large to be read, schedule_of-IsTurns for what each schedule keeps.
use Rattle.std.proofs.Common.{◌≡◌, ◌∙◌, ◌<◌, ◌≤◌, ◌^◌, ◌&&◌, ◌++◌, ℕ, true, false, refl, sym, ap, ap₂, arith, List, [], ◌∷◌, Bool, length, map, Some, None, Result, Ok, Err, length-append}
use Rattle.std.specs.Prelude.{nat_le, nat_lt, zero, suc}
use Rattle.std.specs.List.{list_all}
use Rattle.std.specs.Char.{is_ascii_digit}
use Rattle.std.specs.Str.{all_ascii_digits}
use Rattle.std.specs.Str.Parse.{ParsesUnsigned, digits_value}
use Rattle.std.proofs.lemmas.Str.Parse.{IsNumeralModel, numerals_by_value, parse_digits, tells_all_ascii_digits}
use Rattle.std.proofs.lemmas.Bool.Decides.{nat_tests}
use Rattle.std.proofs.lemmas.List.{length-map}
use Rattle.clap.proofs.WalkLemmas.{both}
use Rattle.st_jobs.specs.declared.numbers.NumberRange.{NumberRange}
use Rattle.st_jobs.specs.Words.{Text}
use Rattle.st_jobs.specs.Values.{is_numeral, is_in_range, number_in, hex_value, is_turn, is_schedule, workers_in_order, schedule_of}

-- ---- numbers

numeral_model : IsNumeralModel (λ ds. all_ascii_digits ds ≡ true) (digits_value 10)
numeral_model = numerals_by_value _ tells_all_ascii_digits

and-false : (b : Bool) → (b && false) ≡ false
and-false true = refl
and-false false = refl

list_all-digits : (text : Text) → list_all is_ascii_digit text ≡ all_ascii_digits text
list_all-digits [] = refl
list_all-digits (c ∷ cs) = ap (λ b. is_ascii_digit c && b) (list_all-digits cs)

record IsNumeral (text : Text) : Type 0 where
  some : nat_le 1 (length text) ≡ true
  few : nat_le (length text) 20 ≡ true
  digits : all_ascii_digits text ≡ true

is_numeral-IsNumeral : (text : Text) → is_numeral text ≡ true → IsNumeral text
is_numeral-IsNumeral text e =
    let parts = both _ _ e in let more = both _ _ parts.1 in
    record { some = parts.0; few = more.0; digits = sym (list_all-digits text) ∙ more.1 }

is_in_range-past : (range : NumberRange) (n : ℕ) → range.most < 2 ^ 64 → (n < 2 ^ 64 → ⊥) → is_in_range range n ≡ false
is_in_range-past range n most large = go (nat_le n range.most) refl
  where
    go : (t : Bool) → nat_le n range.most ≡ t → is_in_range range n ≡ false
    go true is = let le : n ≤ range.most = grind (arith, nat_tests) in absurd (large (omega arith))
    go false is = rw is (and-false (nat_le range.least n))

-- a numeral that `parse` refuses is past each range
pub number_in-refused : {E : Type 0} (range : NumberRange) (text : Text) (r : Result ℕ E) (x : E) → is_numeral text ≡ true → range.most < 2 ^ 64
    → ParsesUnsigned 64 10 text r → r ≡ Err x → None ≡ number_in range text
number_in-refused range text (Ok n) x e most p is = cc
number_in-refused range text (Err y) x e most p is =
    let numeral = is_numeral-IsNumeral text e in
    let refused = parse_digits numeral_model 64 text (Err y) p numeral.digits in
    let some : 0 < length text = let s = numeral.some in grind (arith, nat_tests) in
    let large : digits_value 10 text < 2 ^ 64 → ⊥ = λ lt. refused (some, lt) in
    let out : is_in_range range (digits_value 10 text) ≡ false = is_in_range-past range (digits_value 10 text) most large in
    rw (e, out)

-- ---- schedules

-- so many turns of so many workers
pub record IsTurns (workers : ℕ) (turns : List ℕ) : Type 0 where
  pub some : 1 ≤ length turns
  pub few : length turns ≤ 4096
  pub below : list_all (λ worker. nat_lt worker workers) turns ≡ true

list_all-append : (p : ℕ → Bool) (xs ys : List ℕ) → list_all p xs ≡ true → list_all p ys ≡ true → list_all p (xs ++ ys) ≡ true
list_all-append p [] ys a b = b
list_all-append p (x ∷ xs) ys a b =
    let parts = both _ _ a in ap₂ ◌&&◌ parts.0 (list_all-append p xs ys parts.1 b)

in_order-below : (n workers : ℕ) → n ≤ workers → list_all (λ worker. nat_lt worker workers) (workers_in_order n) ≡ true
in_order-below zero workers le = refl
in_order-below (suc n) workers le =
    let lt : n < workers = omega arith in
    let last : nat_lt n workers ≡ true = grind (arith, nat_tests) in
    list_all-append (λ worker. nat_lt worker workers) (workers_in_order n) (n ∷ []) (in_order-below n workers (omega arith)) (ap₂ ◌&&◌ last refl)

length-in_order : (n : ℕ) → length (workers_in_order n) ≡ n
length-in_order zero = refl
length-in_order (suc n) = rw (length-append, length-in_order n) (omega arith)

turns-below : (workers : ℕ) (text : Text) → list_all (is_turn workers) text ≡ true
    → list_all (λ worker. nat_lt worker workers) (map hex_value text) ≡ true
turns-below workers [] e = refl
turns-below workers (c ∷ cs) e =
    let parts = both _ _ e in ap₂ ◌&&◌ (both _ _ parts.0).1 (turns-below workers cs parts.1)

record HasTurns (workers : ℕ) (text : Text) : Type 0 where
  some : nat_le 1 (length text) ≡ true
  few : nat_le (length text) 4096 ≡ true
  turns : list_all (is_turn workers) text ≡ true

is_schedule-HasTurns : (workers : ℕ) (text : Text) → is_schedule workers text ≡ true → HasTurns workers text
is_schedule-HasTurns workers text e =
    let parts = both _ _ e in let more = both _ _ parts.1 in
    record { some = parts.0; few = more.0; turns = more.1 }

-- each schedule has 1 to 4,096 turns, each of a worker
pub schedule_of-IsTurns : (workers : ℕ) (values : List Text) (turns : List ℕ) → 1 ≤ workers → workers ≤ 16
    → schedule_of workers values ≡ Some turns → IsTurns workers turns
schedule_of-IsTurns workers [] turns least most e =
    let same : workers_in_order workers ≡ turns = cc in
    let long = length-in_order workers in
    rw (← same) (record {
      some = omega (arith, long);
      few = omega (arith, long);
      below = in_order-below workers workers (omega arith);
    })
schedule_of-IsTurns workers (text ∷ []) turns least most e = go (is_schedule workers text) refl
  where
    go : (t : Bool) → is_schedule workers text ≡ t → IsTurns workers turns
    go false is = let none : None ≡ Some turns = rw is at e in cc
    go true is =
        let here : Some (map hex_value text) ≡ Some turns = rw is at e in
        let same : map hex_value text ≡ turns = cc in
        let parts = is_schedule-HasTurns workers text is in
        let some : 1 ≤ length text = let s = parts.some in grind (arith, nat_tests) in
        let few : length text ≤ 4096 = let s = parts.few in grind (arith, nat_tests) in
        let long : length (map hex_value text) ≡ length text = length-map text hex_value in
        rw (← same) (record {
          some = omega (arith, long);
          few = omega (arith, long);
          below = turns-below workers text parts.turns;
        })
schedule_of-IsTurns workers (text ∷ again ∷ more) turns least most e = cc
