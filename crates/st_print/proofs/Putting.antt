-- Texts that are put in two steps. puts-then: both were put; puts-stop: the first failed; puts-as: under another form of the text;
-- numbers_after-more: one number more.
use Rattle.std.proofs.Common.{◌≡◌, ℕ, ◌+◌, ◌-◌, ◌<◌, ◌≤◌, List, [], ◌∷◌, ◌++◌, length, take, drop, get_or, refl, Option, Result, Ok, Err, sym, ap, ◌∙◌, append_assoc, subst, arith, suc, zero, add-one, ℤ}
use Rattle.std.proofs.lemmas.List.{append-nil, take_rest}
use Rattle.std.specs.Prelude.{IsErr, codes, decimal}
use Rattle.std.proofs.lemmas.Result.{on_err_weaker, on_ok_weaker}
use Rattle.st_base.specs.Outside.{Appends}
use Rattle.st_print.specs.Joined.{Puts}
use Rattle.std.specs.Fmt.{signed_decimal}
use Rattle.st_base.specs.declared.line.Line.{Line}
use Rattle.st_base.specs.declared.thread.TrapKind.{TrapKind}
use Rattle.st_print.specs.declared.fault.Fault.{Fault}
use Rattle.st_print.specs.declared.fault.Fault.TheVariants as faults
use Rattle.st_base.specs.declared.limits.LimitKind.{LimitKind}
use Rattle.st_base.specs.declared.limits.LimitKind.TheVariants as limits
use Rattle.st_print.specs.Telling.{numbers_after, numbers_text, limit_text, fault_text, line_text, path_text, trap_text}
use Rattle.st_print.proofs.Appending.{appends-both, appends-front_of, appends-behind_of, risen-earlier}

append-some : (a b : List ℕ) → (b ≡ [] → ⊥) → a ++ b ≡ [] → ⊥
append-some [] b some e = some e
append-some (x ∷ a) b some e = cc

append-some_front : (a b : List ℕ) → (a ≡ [] → ⊥) → a ++ b ≡ [] → ⊥
append-some_front [] b some e = some refl
append-some_front (x ∷ a) b some e = cc

pub puts-then : {T E T' E' : Type 0} {x : T} {r : Result T' E'} {a b : List ℕ} {f0 f1 f2 : ℕ} {t0 t1 t2 : Option (List ℕ)} → (text : List ℕ) → text ≡ a ++ b → Puts {T = T} {E = E} a (Ok x) f0 f1 t0 t1 → Puts b r f1 f2 t1 t2 → Puts text r f0 f2 t0 t2
puts-then {r = r} {a = a} {b = b} {f0 = f0} {f1 = f1} {f2 = f2} {t0 = t0} {t1 = t1} {t2 = t2} text e p q = record {
  faults = let h = p.faults in let k = q.faults in omega (arith, h, k);
  taken = on_ok_weaker r (λ more. subst (Appends t0 t2) (sym e) (appends-both t0 t1 t2 a b p.taken more)) q.taken;
  some = on_err_weaker r (λ more none. append-some a b more (sym e ∙ none)) q.some;
  failed = on_err_weaker r (λ h. risen-earlier f0 f1 f2 p.faults h) q.failed;
  prefix = on_err_weaker r (λ more. appends-behind_of t0 t1 t2 text a b e p.taken more) q.prefix;
}

pub puts-stop : {T E T' E' : Type 0} {s : Result T' E'} {x : E} {a : List ℕ} {f0 f1 : ℕ} {t0 t1 : Option (List ℕ)} → (text b : List ℕ) → text ≡ a ++ b → IsErr s → Puts {T = T} {E = E} a (Err x) f0 f1 t0 t1 → Puts text s f0 f1 t0 t1
puts-stop {s = Ok y} text b e h p = let no : ⊥ = (cc) in absurd no
puts-stop {s = Err y} {a = a} {t0 = t0} {t1 = t1} text b e h p = record {
  faults = p.faults;
  taken = tt;
  some = λ none. append-some_front a b p.some (sym e ∙ none);
  failed = p.failed;
  prefix = appends-front_of t0 t1 text a b e p.prefix;
}

-- what a loop has put so far
pub puts-so_far : {T E : Type 0} {x : T} {a : List ℕ} {f0 f1 : ℕ} {t0 t1 : Option (List ℕ)} → f0 ≤ f1 → Appends t0 t1 a → Puts {T = T} {E = E} a (Ok x) f0 f1 t0 t1
puts-so_far h k = record { faults = h; taken = k; some = tt; failed = tt; prefix = tt }

-- what was put under another form of its text
pub puts-as : {T E : Type 0} {r : Result T E} {a : List ℕ} {f0 f1 : ℕ} {t0 t1 : Option (List ℕ)} → (text : List ℕ) → text ≡ a → Puts a r f0 f1 t0 t1 → Puts text r f0 f1 t0 t1
puts-as {r = r} {f0 = f0} {f1 = f1} {t0 = t0} {t1 = t1} text e p = subst (λ t. Puts t r f0 f1 t0 t1) (sym e) p

-- a number and the others
pub numbers_text-first : (xs : List ℕ) (d : ℕ) → 1 ≤ length xs → numbers_text xs ≡ decimal (get_or xs 0 d) ++ numbers_after (take (length xs - 1) (drop 1 xs))
numbers_text-first [] d h = absurd (omega arith)
numbers_text-first (x ∷ xs) d h = ap (λ t. decimal x ++ numbers_after t) (sym (take_rest (x ∷ xs) 1))

-- the numbers up to a place, and from it on
pub numbers_after-split : (i : ℕ) (xs : List ℕ) → numbers_after xs ≡ numbers_after (take i xs) ++ numbers_after (drop i xs)
numbers_after-split zero xs = refl
numbers_after-split (suc i) [] = refl
numbers_after-split (suc i) (x ∷ xs) = ap (λ t. (codes "," ++ decimal x) ++ t) (numbers_after-split i xs) ∙ sym (append_assoc (codes "," ++ decimal x) (numbers_after (take i xs)) (numbers_after (drop i xs)))

numbers_after-next : (i : ℕ) (xs : List ℕ) (d : ℕ) → i < length xs → numbers_after (take (suc i) xs) ≡ numbers_after (take i xs) ++ (codes "," ++ decimal (get_or xs i d))
numbers_after-next i [] d h = absurd (omega arith)
numbers_after-next zero (x ∷ xs) d h = append-nil (codes "," ++ decimal x)
numbers_after-next (suc i) (x ∷ xs) d h =
    ap (λ t. (codes "," ++ decimal x) ++ t) (numbers_after-next i xs d (omega arith))
    ∙ sym (append_assoc (codes "," ++ decimal x) (numbers_after (take i xs)) (codes "," ++ decimal (get_or xs i d)))

pub numbers_after-more : (i : ℕ) (xs : List ℕ) (d : ℕ) → i < length xs → numbers_after (take (i + 1) xs) ≡ numbers_after (take i xs) ++ (codes "," ++ decimal (get_or xs i d))
numbers_after-more i xs d h = ap (λ n. numbers_after (take n xs)) (add-one i) ∙ numbers_after-next i xs d h

numbers_after-drop : (i : ℕ) (xs : List ℕ) (d : ℕ) → i < length xs → numbers_after (drop i xs) ≡ (codes "," ++ decimal (get_or xs i d)) ++ numbers_after (drop (suc i) xs)
numbers_after-drop i [] d h = absurd (omega arith)
numbers_after-drop zero (x ∷ xs) d h = refl
numbers_after-drop (suc i) (x ∷ xs) d h = numbers_after-drop i xs d (omega arith)

-- all numbers, those before a place, the one at it, and the others
pub numbers_after-at : (i : ℕ) (xs : List ℕ) (d : ℕ) → i < length xs → numbers_after xs ≡ (numbers_after (take i xs) ++ (codes "," ++ decimal (get_or xs i d))) ++ numbers_after (drop (suc i) xs)
numbers_after-at i xs d h =
    numbers_after-split i xs
    ∙ ap (λ t. numbers_after (take i xs) ++ t) (numbers_after-drop i xs d h)
    ∙ sym (append_assoc (numbers_after (take i xs)) (codes "," ++ decimal (get_or xs i d)) (numbers_after (drop (suc i) xs)))

-- ---- texts of faults as they are put

pub limit_stack : (kind : LimitKind) (w f : ℕ) (a b : List ℕ) → kind ≡ limits.Stack w f → a ≡ decimal w → b ≡ decimal f → limit_text kind ++ codes "\n" ≡ codes "limit Stack worker " ++ (a ++ (codes " frame " ++ (b ++ codes "\n")))
limit_stack kind w f a b e h k = rw (e, h, k) (simp append_assoc)

pub distance-told : (p n number : List ℕ) (d : ℤ) → number ≡ signed_decimal d → (p ++ codes "L1 BranchRange " ++ signed_decimal d) ++ n ≡ p ++ (codes "L1 BranchRange " ++ (number ++ n))
distance-told p n number d h = rw h (simp append_assoc)

trap_pieces : (p kind path n name : List ℕ) → name ≡ kind → (p ++ codes "trap " ++ kind ++ codes " in thread " ++ path) ++ n ≡ (p ++ (codes "trap " ++ (name ++ codes " in thread "))) ++ (path ++ n)
trap_pieces p kind path n name h = rw h (simp append_assoc)

pub trap-told : (names : List (List ℕ)) (f : Fault) (line : Line) (kind : TrapKind) (path name : List ℕ) → f ≡ faults.Trap line kind path → name ≡ trap_text kind → fault_text names f ≡ (line_text names line ++ (codes "trap " ++ (name ++ codes " in thread "))) ++ (path_text path ++ codes "\n")
unfolding fault_text
trap-told names f line kind path name e h = ap (fault_text names) e ∙ trap_pieces (line_text names line) (trap_text kind) (path_text path) (codes "\n") name h

pub deadlock-told : (names : List (List ℕ)) (f : Fault) (line : Line) (path : List ℕ) → f ≡ faults.Deadlock line path → fault_text names f ≡ (line_text names line ++ codes "deadlock in thread ") ++ (path_text path ++ codes "\n")
unfolding fault_text
deadlock-told names f line path e = ap (fault_text names) e ∙ append_assoc (line_text names line ++ codes "deadlock in thread ") (path_text path) (codes "\n")

pub waits-told : (names : List (List ℕ)) (f : Fault) (line : Line) (path : List ℕ) → f ≡ faults.Waits line path → fault_text names f ≡ (line_text names line ++ codes "waits in thread ") ++ (path_text path ++ codes "\n")
unfolding fault_text
waits-told names f line path e = ap (fault_text names) e ∙ append_assoc (line_text names line ++ codes "waits in thread ") (path_text path) (codes "\n")

pub path_pieces : (path numbers : List ℕ) → numbers ≡ path → path_text path ++ codes "\n" ≡ (91 ∷ numbers_text numbers) ++ (93 ∷ 10 ∷ [])
path_pieces path numbers h = rw h (ap (λ t. 91 ∷ t) (append_assoc (numbers_text path) (93 ∷ []) (10 ∷ [])))
