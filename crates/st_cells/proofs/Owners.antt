-- An owner is read from its word.
use Rattle.std.proofs.Common.{◌≡◌, ℕ, ◌+◌, ◌-◌, ◌*◌, ◌/◌, ◌<◌, Bool, true, false, ap, ◌∙◌, arith, eq-eqb}
use Rattle.std.specs.Prelude.{◌%◌, nat_eq}
use Rattle.st_cells.specs.declared.found.Owner.{Owner}
use Rattle.st_cells.specs.Cells.{owner_word, FitsWord}

abbrev read_owner : ℕ → Owner
read_owner rest = record { counter = nat_eq (rest % 2) 1; parent = rest / 2 % 131072; number = rest / 262144 % 4294967296 }

made : (kind : Bool) (rest parent number : ℕ) → nat_eq (rest % 2) 1 ≡ kind → rest / 2 % 131072 ≡ parent → rest / 262144 % 4294967296 ≡ number → read_owner rest ≡ record { counter = kind; parent = parent; number = number }
made kind rest parent number a b c =
    ap (λ (t : Bool). let o : Owner = record { counter = t; parent = rest / 2 % 131072; number = rest / 262144 % 4294967296 } in o) a ∙ ap (λ (n : ℕ). let o : Owner = record { counter = kind; parent = n; number = rest / 262144 % 4294967296 } in o) b
    ∙ ap (λ (n : ℕ). let o : Owner = record { counter = kind; parent = parent; number = n } in o) c

by_kind : (kind : Bool) (parent number rest : ℕ) → parent < 131072 → number < 4294967296 → rest ≡ owner_word (record { counter = kind; parent = parent; number = number }) - 1 → read_owner rest ≡ record { counter = kind; parent = parent; number = number }
by_kind true parent number rest p n e =
    let whole : rest ≡ 1 + 2 * parent + 262144 * number = omega (arith, e) in
    made true rest parent number (eq-eqb (rest % 2) 1 (omega arith)) (omega arith) (omega arith)
by_kind false parent number rest p n e =
    let whole : rest ≡ 2 * parent + 262144 * number = omega (arith, e) in
    let none : rest % 2 ≡ 0 = omega arith in
    made false rest parent number (ap (λ k. nat_eq k 1) none) (omega arith) (omega arith)

pub read_back : (rest : ℕ) (owner : Owner) → FitsWord owner → rest ≡ owner_word owner - 1 → read_owner rest ≡ owner
read_back rest owner fits e = by_kind owner.counter owner.parent owner.number rest fits.0 fits.1 e
