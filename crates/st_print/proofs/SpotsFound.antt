-- The numbers of a unit's spots: number-at (a number gives back its place), spots-tell (a place of the unit has a number just where an
-- operand names it), spots-below (there are no more numbers than lines and one).
use Rattle.std.proofs.Common.{ℕ, zero, suc, ◌≡◌, ◌+◌, ◌-◌, ◌<◌, ◌≤◌, Bool, true, false, ◌||◌, List, [], ◌∷◌, ◌++◌, length, refl, ap, sym, ◌∙◌, arith, nat_eq, cond, Some, is_some, codes}
use Rattle.std.specs.List.{filter, slice_get}
use Rattle.std.proofs.lemmas.List.{length-append}
use Rattle.st_line.specs.declared.source.Target.{Target}
use Rattle.st_line.specs.declared.source.Target.TheVariants as targets
use Rattle.st_line.proofs.Runs.{and-true, true-and}
use Rattle.st_asm.specs.declared.unit.SourceLine.{SourceLine}
use Rattle.st_asm.specs.declared.unit.Function.{Function}
use Rattle.st_print.specs.Spots.{is_spot, is_named, item_places, function_places, data_places, places_of, spots_of, number_from, spot_number}
use Rattle.st_print.specs.Canonical.{Piece, spelled, lines_text, number, with_operands, ins_pieces, spot_lines, item_lines, function_lines, functions_lines, byte_lines, data_lines, needs_data, is_some_byte, have_address, names_data, unit_lines, unit_text}

-- ---- the same place

pub same-number : (m n : ℕ) → nat_eq m n ≡ true → m ≡ n
same-number m n h = grind arith

pub number-same : (n : ℕ) → nat_eq n n ≡ true
number-same n = grind arith

pub spot-same : (p q : Target) → is_spot p q ≡ true → p ≡ q
spot-same (targets.Place f i) (targets.Place g j) h =
    let s = and-true (nat_eq f g) (nat_eq i j) h in
    let e = same-number f g s.0 in
    let k = same-number i j s.1 in
    λ t. targets.Place (e t) (k t)
spot-same (targets.Place f i) (targets.Data n) h = cc
spot-same (targets.Place f i) (targets.Name n) h = cc
spot-same (targets.Data m) (targets.Data n) h = ap (λ k. targets.Data k) (same-number m n h)
spot-same (targets.Data m) (targets.Place g j) h = cc
spot-same (targets.Data m) (targets.Name n) h = cc
spot-same (targets.Name m) q h = cc

-- ---- numbers

pub number-at : (j : ℕ) (p : Target) (ss : List Target) (k : ℕ) → number_from j p ss ≡ Some k → (j ≤ k) × (k < j + length ss) × (slice_get ss (k - j) ≡ Some p)
number-at j p [] k h = cc
number-at j p (s ∷ ss) k h =
    (elim (is_spot p s) as (λ b. is_spot p s ≡ b → cond b (Some j) (number_from (j + 1) p ss) ≡ Some k → (j ≤ k) × (k < j + length (s ∷ ss)) × (slice_get (s ∷ ss) (k - j) ≡ Some p)) [
      | true ↦ λ e h. let same : j ≡ k = cc in let z : k - j ≡ 0 = omega arith in (omega arith, omega arith, rw z (ap Some (sym (spot-same p s e))))
      | false ↦ λ e h. let r = number-at (j + 1) p ss k h in let z : k - j ≡ suc (k - (j + 1)) = omega arith in (omega arith, omega arith, rw z r.2)
    ]) refl h

-- one of the list is the place
abbrev pub is_among : Target → List Target → Bool
is_among p [] = false
is_among p (s ∷ ss) = is_spot p s || is_among p ss

pub number-there : (P : Target → Bool) (j : ℕ) (p : Target) (xs : List Target) → P p ≡ true → is_among p xs ≡ true → is_some (number_from j p (filter P xs)) ≡ true
number-there P j p [] h k = cc
number-there P j p (x ∷ xs) h k =
    (elim (is_spot p x) as (λ b. is_spot p x ≡ b → b || is_among p xs ≡ true → is_some (number_from j p (filter P (x ∷ xs))) ≡ true) [
      | true ↦ λ e k. let same : P x ≡ true = ap P (sym (spot-same p x e)) ∙ h in rw (same, e) refl
      | false ↦ λ e k. elim (P x) as (λ b. is_some (number_from j p (cond b (x ∷ filter P xs) (filter P xs))) ≡ true) [
        | true ↦ rw e (number-there P (j + 1) p xs h k)
        | false ↦ number-there P j p xs h k
      ]
    ]) refl k

pub number-passes : (P : Target → Bool) (j : ℕ) (p : Target) (xs : List Target) → P p ≡ false → is_some (number_from j p (filter P xs)) ≡ false
number-passes P j p [] h = refl
number-passes P j p (x ∷ xs) h =
    (elim (P x) as (λ b. P x ≡ b → is_some (number_from j p (cond b (x ∷ filter P xs) (filter P xs))) ≡ false) [
      | true ↦ λ e. (elim (is_spot p x) as (λ b. is_spot p x ≡ b → is_some (cond b (Some j) (number_from (j + 1) p (filter P xs))) ≡ false) [
        | true ↦ λ d. let same : P p ≡ P x = ap P (spot-same p x d) in cc
        | false ↦ λ d. number-passes P (j + 1) p xs h
      ]) refl
      | false ↦ λ e. number-passes P j p xs h
    ]) refl

number-tells : (P : Target → Bool) (p : Target) (xs : List Target) → is_among p xs ≡ true → (b : Bool) → P p ≡ b → is_some (number_from 0 p (filter P xs)) ≡ b
number-tells P p xs h true e = number-there P 0 p xs e h
number-tells P p xs h false e = number-passes P 0 p xs e

-- ---- places

among-left : (p : Target) (xs ys : List Target) → is_among p xs ≡ true → is_among p (xs ++ ys) ≡ true
among-left p [] ys h = cc
among-left p (x ∷ xs) ys h =
    (elim (is_spot p x) as (λ b. b || is_among p xs ≡ true → b || is_among p (xs ++ ys) ≡ true) [
      | true ↦ λ h. refl
      | false ↦ λ h. among-left p xs ys h
    ]) h

among-right : (p : Target) (xs ys : List Target) → is_among p ys ≡ true → is_among p (xs ++ ys) ≡ true
among-right p [] ys h = h
among-right p (x ∷ xs) ys h =
    elim (is_spot p x) as (λ b. b || is_among p (xs ++ ys) ≡ true) [
      | true ↦ refl
      | false ↦ among-right p xs ys h
    ]

among-first : (p : Target) (xs : List Target) → is_spot p p ≡ true → is_among p (p ∷ xs) ≡ true
among-first p xs h = rw h refl

pub among-later : (p x : Target) (xs : List Target) → is_among p xs ≡ true → is_among p (x ∷ xs) ≡ true
among-later p x xs h = elim (is_spot p x) as (λ b. b || is_among p xs ≡ true) [ true ↦ refl | false ↦ h ]

place-same : (f i : ℕ) → is_spot (targets.Place f i) (targets.Place f i) ≡ true
place-same f i = true-and (nat_eq f f) (nat_eq i i) (number-same f) (number-same i)

data-same : (n : ℕ) → is_spot (targets.Data n) (targets.Data n) ≡ true
data-same n = number-same n

different : (i j : ℕ) → i ≤ j → nat_eq i j ≡ false → i + 1 ≤ j
different i j h k = grind arith

among-items : (f i : ℕ) (items : List SourceLine) (j : ℕ) → i ≤ j → j ≤ i + length items → is_among (targets.Place f j) (item_places f i items) ≡ true
among-items f i [] j h k = let e : i ≡ j = omega arith in ap (λ n. is_among (targets.Place f j) (targets.Place f n ∷ [])) e ∙ among-first (targets.Place f j) [] (place-same f j)
among-items f i (item ∷ items) j h k =
    (elim (nat_eq i j) as (λ b. nat_eq i j ≡ b → is_among (targets.Place f j) (item_places f i (item ∷ items)) ≡ true) [
      | true ↦ λ e. ap (λ n. is_among (targets.Place f j) (targets.Place f n ∷ item_places f (i + 1) items)) (same-number i j e) ∙ among-first (targets.Place f j) (item_places f (i + 1) items) (place-same f j)
      | false ↦ λ e. among-later (targets.Place f j) (targets.Place f i) (item_places f (i + 1) items) (among-items f (i + 1) items j (different i j h e) (omega arith))
    ]) refl

among-functions : (f : ℕ) (gs : List Function) (m j : ℕ) (g : Function) → slice_get gs m ≡ Some g → j ≤ length g.items → is_among (targets.Place (f + m) j) (function_places f gs) ≡ true
among-functions f [] m j g h k = cc
among-functions f (x ∷ gs) zero j g h k =
    let same : x ≡ g = cc in
    let n : j ≤ 0 + length x.items = omega (arith, ap (λ (y : Function). length y.items) same) in
    let e : f + 0 ≡ f = omega arith in
    ap (λ n. is_among (targets.Place n j) (function_places f (x ∷ gs))) e ∙ among-left (targets.Place f j) (item_places f 0 x.items) (function_places (f + 1) gs) (among-items f 0 x.items j (omega arith) n)
among-functions f (x ∷ gs) (suc m) j g h k =
    let e : f + suc m ≡ f + 1 + m = omega arith in
    ap (λ n. is_among (targets.Place n j) (function_places f (x ∷ gs))) e ∙ among-right (targets.Place (f + 1 + m) j) (item_places f 0 x.items) (function_places (f + 1) gs) (among-functions (f + 1) gs m j g h k)

among-data : (at : ℕ) (bs : List ℕ) (n : ℕ) → at ≤ n → n ≤ at + length bs → is_among (targets.Data n) (data_places at bs) ≡ true
among-data at [] n h k = let e : at ≡ n = omega arith in ap (λ m. is_among (targets.Data n) (targets.Data m ∷ [])) e ∙ among-first (targets.Data n) [] (data-same n)
among-data at (b ∷ bs) n h k =
    (elim (nat_eq at n) as (λ t. nat_eq at n ≡ t → is_among (targets.Data n) (data_places at (b ∷ bs)) ≡ true) [
      | true ↦ λ e. ap (λ m. is_among (targets.Data n) (targets.Data m ∷ data_places (at + 1) bs)) (same-number at n e) ∙ among-first (targets.Data n) (data_places (at + 1) bs) (data-same n)
      | false ↦ λ e. among-later (targets.Data n) (targets.Data at) (data_places (at + 1) bs) (among-data (at + 1) bs n (different at n h e) (omega arith))
    ]) refl

-- a place of the unit
abbrev pub IsThere : List Function → List ℕ → Target → Type 0
IsThere functions rodata (targets.Place f i) = (g : Function) × (slice_get functions f ≡ Some g) × (i ≤ length g.items)
IsThere functions rodata (targets.Data n) = n ≤ length rodata
IsThere functions rodata (targets.Name name) = ⊥

there-among : (functions : List Function) (rodata : List ℕ) (p : Target) → IsThere functions rodata p → is_among p (places_of functions rodata) ≡ true
there-among functions rodata (targets.Place f i) h =
    let e : f ≡ 0 + f = omega arith in
    among-left (targets.Place f i) (function_places 0 functions) (data_places 0 rodata) (ap (λ n. is_among (targets.Place n i) (function_places 0 functions)) e ∙ among-functions 0 functions f i h.0 h.1 h.2)
there-among functions rodata (targets.Data n) h =
    let l : n ≤ length rodata = h in
    among-right (targets.Data n) (function_places 0 functions) (data_places 0 rodata) (among-data 0 rodata n (omega arith) (omega arith))
there-among functions rodata (targets.Name name) h = elim h [ ]

pub spots-tell : (functions : List Function) (rodata : List ℕ) (p : Target) → IsThere functions rodata p → is_some (spot_number (spots_of functions rodata) p) ≡ is_named functions p
spots-tell functions rodata p h = number-tells (λ spot. is_named functions spot) p (places_of functions rodata) (there-among functions rodata p h) (is_named functions p) refl

-- ---- how many

kept-below : (P : Target → Bool) (xs : List Target) → length (filter P xs) ≤ length xs
kept-below P [] = omega arith
kept-below P (x ∷ xs) = let h = kept-below P xs in elim (P x) as (λ b. length (cond b (x ∷ filter P xs) (filter P xs)) ≤ length (x ∷ xs)) [ true ↦ omega arith | false ↦ omega arith ]

items-count : (spots : List Target) (f i : ℕ) (items : List SourceLine) → length (item_places f i items) ≤ length (item_lines spots f i items) + 1
items-count spots f i [] = omega arith
items-count spots f i (item ∷ items) =
    let h = items-count spots f (i + 1) items in
    omega (arith, length-append (spot_lines spots (targets.Place f i)) (ins_pieces spots item.ins ∷ item_lines spots f (i + 1) items))

functions-count : (spots : List Target) (f : ℕ) (gs : List Function) → length (function_places f gs) ≤ length (functions_lines spots f gs)
functions-count spots f [] = omega arith
functions-count spots f (g ∷ gs) =
    let h = items-count spots f 0 g.items in
    let k = functions-count spots (f + 1) gs in
    omega (arith, length-append (item_places f 0 g.items) (function_places (f + 1) gs), length-append (function_lines spots f g) (functions_lines spots (f + 1) gs))

bytes-count : (spots : List Target) (at : ℕ) (bs : List ℕ) → length (data_places at bs) ≤ length (byte_lines spots at bs) + 1
bytes-count spots at [] = omega arith
bytes-count spots at (b ∷ bs) =
    let h = bytes-count spots (at + 1) bs in
    omega (arith, length-append (spot_lines spots (targets.Data at)) (with_operands (codes ".byte") (number b ∷ []) ∷ byte_lines spots (at + 1) bs))

data-count : (rodata : List ℕ) (spots : List Target) (needed : Bool) → (is_some_byte rodata ≡ true → needed ≡ true) → length (data_places 0 rodata) ≤ length (data_lines needed spots rodata) + 1
data-count [] spots needed h = omega arith
data-count (b ∷ bs) spots needed h = let k = bytes-count spots 0 (b ∷ bs) in let e : needed ≡ true = h refl in rw e (omega arith)

data-needed : (a b c : Bool) → a ≡ true → a || b || c ≡ true
data-needed a b c h = rw h refl

lines-below : (lines : List (List Piece)) → length lines ≤ length (lines_text lines)
lines-below [] = omega arith
lines-below (line ∷ lines) = let h = lines-below lines in omega (arith, length-append (spelled line) (10 ∷ lines_text lines))

pub spots-below : (functions : List Function) (rodata : List ℕ) → length (unit_text functions rodata) ≤ 1048576 → length (spots_of functions rodata) ≤ 1048577
unfolding unit_text unit_lines
spots-below functions rodata h =
    let spots = spots_of functions rodata in
    let kept = kept-below (λ spot. is_named functions spot) (places_of functions rodata) in
    let code = functions-count spots 0 functions in
    let needs = data-count rodata spots (needs_data functions rodata) (data-needed (is_some_byte rodata) (have_address functions) (names_data spots)) in
    let lines = lines-below (functions_lines spots 0 functions ++ data_lines (needs_data functions rodata) spots rodata) in
    omega (arith, length-append (function_places 0 functions) (data_places 0 rodata), length-append (functions_lines spots 0 functions) (data_lines (needs_data functions rodata) spots rodata))
