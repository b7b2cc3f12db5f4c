-- What value_of and count_of give where a thread ends, and where a counter is made or added to.
use Rattle.std.proofs.Common.{◌≡◌, ◌≢◌, ℕ, ◌<◌, ◌==◌, ◌&&◌, List, [], ◌∷◌, ◌++◌, length, get_or, Bool, true, false, cond, Option, Some, None, refl, sym, ap, ◌∙◌, arith, eq-eqb, length-append}
use Rattle.std.specs.Prelude.{nat_eq}
use Rattle.std.specs.Cmp.Lexicographic.{pointwise, bytes_decides}
use Rattle.std.proofs.Math.Seq.{get_or-append_seam}
use Rattle.st_model.specs.declared.ordinary.Ended.{Ended}
use Rattle.st_model.specs.declared.ordinary.Tallied.{Tallied}
use Rattle.st_model.specs.Ends.{NoneOf, Distinct}
use Rattle.st_model.specs.Ordinary.{value_of, counted, is_counter, count_of, counted_up}
use Rattle.st_model.proofs.Ending.{value_found}
use Rattle.st_words.proofs.Lists.{both_true, same_true}

passed_over : {X : Type 0} (b : Bool) (x y : X) → (b ≡ true → ⊥) → cond b x y ≡ y
passed_over true x y other = absurd (other refl)
passed_over false x y other = refl

-- ---- values

pub value_none : (es : List Ended) (path : List ℕ) → NoneOf es path → value_of es path ≡ None
value_none [] path none = refl
value_none (e ∷ es) path none =
    passed_over (pointwise nat_eq e.path path) (Some e.value) (value_of es path) (λ same. none.0 ((bytes_decides e.path path).0 same)) ∙ value_none es path none.1

pub value_kept : (es : List Ended) (x : Ended) (path : List ℕ) → x.path ≢ path → value_of (es ++ x ∷ []) path ≡ value_of es path
value_kept [] x path other = passed_over (pointwise nat_eq x.path path) (Some x.value) None (λ same. other ((bytes_decides x.path path).0 same))
value_kept (e ∷ es) x path other = ap (λ (o : Option ℕ). cond (pointwise nat_eq e.path path) (Some e.value) o) (value_kept es x path other)

pub value_new : (es : List Ended) (x : Ended) → Distinct (es ++ x ∷ []) → value_of (es ++ x ∷ []) x.path ≡ Some x.value
value_new es x distinct =
    let at : get_or (es ++ x ∷ []) (length es) x ≡ x = get_or-append_seam es x [] x in
    let within : length es < length (es ++ x ∷ []) = simp length-append (omega arith) in
    let here : pointwise nat_eq (get_or (es ++ x ∷ []) (length es) x).path x.path ≡ true = ap (λ (y : Ended). pointwise nat_eq y.path x.path) at ∙ (bytes_decides x.path x.path).1 refl in
    value_found (es ++ x ∷ []) x.path (length es) x distinct within here ∙ ap (λ (y : Ended). Some y.value) at

-- ---- counts

counter_is : (c : Tallied) (maker : List ℕ) (n : ℕ) → is_counter c maker n ≡ true → (c.maker ≡ maker) × (c.number ≡ n)
counter_is c maker n e = let both = both_true (pointwise nat_eq c.maker maker) (c.number == n) e in ((bytes_decides c.maker maker).0 both.0, same_true c.number n both.1)

counter_own : (maker : List ℕ) (n count : ℕ) → is_counter (record { maker = maker; number = n; count = count }) maker n ≡ true
counter_own maker n count = ap (λ (b : Bool). b && (n == n)) ((bytes_decides maker maker).1 refl) ∙ eq-eqb n n refl

-- no count of the list is of this counter
abbrev pub NotAmong : List Tallied → List ℕ → ℕ → Type 0
NotAmong [] maker n = Unit {0}
NotAmong (c ∷ cs) maker n = (c.maker ≡ maker → c.number ≡ n → ⊥) × NotAmong cs maker n

pub count_none : (cs : List Tallied) (maker : List ℕ) (n : ℕ) → NotAmong cs maker n → count_of cs maker n ≡ 0
count_none [] maker n none = refl
count_none (c ∷ cs) maker n none =
    passed_over (is_counter c maker n) c.count (count_of cs maker n) (λ e. let both = counter_is c maker n e in none.0 both.0 both.1) ∙ count_none cs maker n none.1

same_anyhow : (b : Bool) (n : ℕ) → cond b n n ≡ n
same_anyhow true n = refl
same_anyhow false n = refl

-- a new counter has count 0, as one that isn't there
pub count_made : (cs : List Tallied) (maker maker' : List ℕ) (n n' : ℕ) → count_of (cs ++ record { maker = maker; number = n; count = 0 } ∷ []) maker' n' ≡ count_of cs maker' n'
count_made [] maker maker' n n' = same_anyhow (is_counter (record { maker = maker; number = n; count = 0 }) maker' n') 0
count_made (c ∷ cs) maker maker' n n' = ap (λ k. cond (is_counter c maker' n') c.count k) (count_made cs maker maker' n n')

up_by : (b : Bool) (c : Tallied) (cs ups : List Tallied) (maker : List ℕ) (n : ℕ) → is_counter c maker n ≡ b → count_of ups maker n ≡ counted (count_of cs maker n)
    → count_of (cond b (record { maker = maker; number = n; count = counted c.count } ∷ cs) (c ∷ ups)) maker n ≡ counted (cond b c.count (count_of cs maker n))
up_by true c cs ups maker n e more = ap (λ b. cond b (counted c.count) (count_of cs maker n)) (counter_own maker n (counted c.count))
up_by false c cs ups maker n e more = ap (λ b. cond b c.count (count_of ups maker n)) e ∙ more

pub count_up : (cs : List Tallied) (maker : List ℕ) (n : ℕ) → count_of (counted_up cs maker n) maker n ≡ counted (count_of cs maker n)
count_up [] maker n = ap (λ b. cond b 1 0) (counter_own maker n 1)
count_up (c ∷ cs) maker n = up_by (is_counter c maker n) c cs (counted_up cs maker n) maker n refl (count_up cs maker n)

other_by : (b : Bool) (c : Tallied) (cs ups : List Tallied) (maker maker' : List ℕ) (n n' : ℕ) → is_counter c maker n ≡ b → (maker ≡ maker' → n ≡ n' → ⊥) → count_of ups maker' n' ≡ count_of cs maker' n'
    → count_of (cond b (record { maker = maker; number = n; count = counted c.count } ∷ cs) (c ∷ ups)) maker' n' ≡ cond (is_counter c maker' n') c.count (count_of cs maker' n')
other_by true c cs ups maker maker' n n' e other same =
    let own = counter_is c maker n e in
    let rest = count_of cs maker' n' in
    let new : Tallied = record { maker = maker; number = n; count = counted c.count } in
    passed_over (is_counter new maker' n') (counted c.count) rest (λ z. let both = counter_is new maker' n' z in other both.0 both.1)
    ∙ sym (passed_over (is_counter c maker' n') c.count rest (λ z. let both = counter_is c maker' n' z in other (sym own.0 ∙ both.0) (sym own.1 ∙ both.1)))
other_by false c cs ups maker maker' n n' e other same = ap (λ k. cond (is_counter c maker' n') c.count k) same

pub count_other : (cs : List Tallied) (maker maker' : List ℕ) (n n' : ℕ) → (maker ≡ maker' → n ≡ n' → ⊥) → count_of (counted_up cs maker n) maker' n' ≡ count_of cs maker' n'
count_other [] maker maker' n n' other =
    let new : Tallied = record { maker = maker; number = n; count = 1 } in
    passed_over (is_counter new maker' n') 1 0 (λ z. let both = counter_is new maker' n' z in other both.0 both.1)
count_other (c ∷ cs) maker maker' n n' other = other_by (is_counter c maker n) c cs (counted_up cs maker n) maker maker' n n' refl other (count_other cs maker maker' n n' other)
