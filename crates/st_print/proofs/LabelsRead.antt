-- The labels that lines define (labels_in), by what the lines say: definitions-read gives the definitions, singles that each label is
-- defined once where all are distinct, and first-known that a label is known.
use Rattle.std.proofs.Common.{ℕ, ◌≡◌, ◌+◌, true, false, ◌&&◌, List, [], ◌∷◌, ◌++◌, refl, ap, sym, subst, ◌∙◌, nat_eq, cond, Some, None, is_some, append_assoc, map, ◌⊎◌, inl, inr}
use Rattle.std.specs.Str.{bytes_eq}
use Rattle.std.proofs.lemmas.Slice.Eq.{bytes_eq-Decides}
use Rattle.st_base.specs.declared.line.Line.{Line}
use Rattle.st_line.proofs.Runs.{true-and}
use Rattle.st_asm.specs.Labels.{numbered, is_entry, scope_of, Definition, defined, definitions_of, first_line, is_single}
use Rattle.st_print.specs.Canonical.{Piece, spelled}
use Rattle.st_print.proofs.LineShapes.{Said, label_said}
use Rattle.st_print.proofs.LineShapes.Said.{Labels, States}
use Rattle.st_print.proofs.SpotsFound.{number-same}
use Rattle.st_print.proofs.SaidLines.{AreRead, Each}

-- ---- names

pub name-same : (y : List ℕ) → bytes_eq y y ≡ true
name-same y = (bytes_eq-Decides y y).1 refl

pub same-name : (y z : List ℕ) → bytes_eq y z ≡ true → y ≡ z
same-name y z h = (bytes_eq-Decides y z).0 h

pub other-name : (y z : List ℕ) → (y ≡ z → ⊥) → bytes_eq y z ≡ false
other-name y z h =
    (elim (bytes_eq y z) as (λ b. bytes_eq y z ≡ b → b ≡ false) [
      | true ↦ λ e. absurd (h (same-name y z e))
      | false ↦ λ e. refl
    ]) refl

abbrev pub Among : List ℕ → List (List ℕ) → Type 0
Among x [] = ⊥
Among x (y ∷ ys) = (x ≡ y) ⊎ Among x ys

pub among-each : (P : List ℕ → Type 0) (x : List ℕ) (ys : List (List ℕ)) → Among x ys → Each P ys → P x
among-each P x [] h k = elim h [ ]
among-each P x (y ∷ ys) h k = elim h [
  | inl e ↦ subst P (sym e) k.0
  | inr m ↦ among-each P x ys m k.1
]

abbrev pub Distinct : List (List ℕ) → Type 0
Distinct [] = Unit {0}
Distinct (x ∷ xs) = Each (λ y. x ≡ y → ⊥) xs × Distinct xs

-- ---- labels of lines

abbrev pub line_at : ℕ → Line
line_at n = record { file = 1; line = n }

abbrev pub labels_in : List Said → List (List ℕ)
labels_in [] = []
labels_in (Labels name ∷ ss) = name ∷ labels_in ss
labels_in (States s ∷ ss) = labels_in ss

pub labels-append : (ss ts : List Said) → labels_in (ss ++ ts) ≡ labels_in ss ++ labels_in ts
labels-append [] ts = refl
labels-append (Labels name ∷ ss) ts = ap (λ ls. name ∷ ls) (labels-append ss ts)
labels-append (States s ∷ ss) ts = labels-append ss ts

abbrev pub definitions_at : ℕ → List Said → List Definition
definitions_at n [] = []
definitions_at n (s ∷ ss) = defined (line_at n) (label_said s) ++ definitions_at (n + 1) ss

pub definitions-read : (ls : List (List Piece)) (ss : List Said) (n : ℕ) → AreRead ls ss → definitions_of (numbered 1 n (map spelled ls ++ [] ∷ [])) ≡ definitions_at n ss
definitions-read [] [] n h = refl
definitions-read [] (s ∷ ss) n h = elim h [ ]
definitions-read (l ∷ ls) [] n h = elim h [ ]
definitions-read (l ∷ ls) (s ∷ ss) n h =
    ap (λ o. defined (line_at n) o ++ definitions_of (numbered 1 (n + 1) (map spelled ls ++ [] ∷ []))) h.0.label
    ∙ ap (λ ds. defined (line_at n) (label_said s) ++ ds) (definitions-read ls ss (n + 1) h.1)

-- ---- a label is known

is-itself : (sc : ℕ) (y : List ℕ) → nat_eq sc sc && bytes_eq y y ≡ true
is-itself sc y = true-and (nat_eq sc sc) (bytes_eq y y) (number-same sc) (name-same y)

found-first : (name : List ℕ) (n : ℕ) (ds : List Definition) → first_line (scope_of 1 name) name (defined (line_at n) (Some name) ++ ds) ≡ Some (line_at n)
found-first name n ds = let t = is-itself (scope_of 1 name) name in rw t refl

pub first-known : (name : List ℕ) (n : ℕ) (ss : List Said) → Among name (labels_in ss) → is_some (first_line (scope_of 1 name) name (definitions_at n ss)) ≡ true
first-known name n [] h = elim h [ ]
first-known name n (States s ∷ ss) h = first-known name (n + 1) ss h
first-known name n (Labels y ∷ ss) h = elim h [
  | inl e ↦ ap (λ z. is_some (first_line (scope_of 1 name) name (defined (line_at n) (Some z) ++ definitions_at (n + 1) ss))) (sym e) ∙ ap is_some (found-first name n (definitions_at (n + 1) ss))
  | inr m ↦ elim (nat_eq (scope_of 1 y) (scope_of 1 name) && bytes_eq y name) as (λ b. is_some (cond b (Some (line_at n)) (first_line (scope_of 1 name) name (definitions_at (n + 1) ss))) ≡ true) [
    | true ↦ refl
    | false ↦ first-known name (n + 1) ss m
  ]
]

-- ---- a label is defined once

first-skip : (sc : ℕ) (name : List ℕ) (ds es : List Definition) → first_line sc name ds ≡ None → first_line sc name (ds ++ es) ≡ first_line sc name es
first-skip sc name [] es h = refl
first-skip sc name (d ∷ ds) es h =
    (elim (nat_eq d.scope sc && bytes_eq d.name name) as (λ b. cond b (Some d.line) (first_line sc name ds) ≡ None → cond b (Some d.line) (first_line sc name (ds ++ es)) ≡ first_line sc name es) [
      | true ↦ λ h. cc
      | false ↦ λ h. first-skip sc name ds es h
    ]) h

none-more : (sc : ℕ) (y z : List ℕ) (n : ℕ) (ds : List Definition) → first_line sc z ds ≡ None → (y ≡ z → ⊥) → first_line sc z (ds ++ defined (line_at n) (Some y)) ≡ None
none-more sc y z n ds h k =
    let e = other-name y z k in
    first-skip sc z ds (defined (line_at n) (Some y)) h
    ∙ elim (nat_eq (scope_of 1 y) sc) as (λ b. cond (b && bytes_eq y z) (Some (line_at n)) None ≡ None) [ true ↦ rw e refl | false ↦ refl ]

abbrev IsNew : List Definition → List ℕ → Type 0
IsNew ds y = (sc : ℕ) → first_line sc y ds ≡ None

all-new : (y : List ℕ) (n : ℕ) (ds : List Definition) (zs : List (List ℕ)) → Each (IsNew ds) zs → Each (λ z. y ≡ z → ⊥) zs → Each (IsNew (ds ++ defined (line_at n) (Some y))) zs
all-new y n ds [] h k = tt
all-new y n ds (z ∷ zs) h k = ((λ sc. none-more sc y z n ds (h.0 sc) k.0), all-new y n ds zs h.1 k.1)

abbrev pub Singles : List Definition → ℕ → List Said → Type 0
Singles ds n [] = Unit {0}
Singles ds n (s ∷ ss) = (is_single ds (line_at n) (label_said s) ≡ true) × Singles ds (n + 1) ss

single-here : (y : List ℕ) (n : ℕ) (ds es : List Definition) → is_entry y ≡ false → first_line (scope_of 1 y) y ds ≡ None → is_single (ds ++ (defined (line_at n) (Some y) ++ es)) (line_at n) (Some y) ≡ true
single-here y n ds es h k =
    let e : first_line (scope_of 1 y) y (ds ++ (defined (line_at n) (Some y) ++ es)) ≡ Some (line_at n) = first-skip (scope_of 1 y) y ds (defined (line_at n) (Some y) ++ es) k ∙ found-first y n es in
    let t = number-same n in
    rw (h, e, t) refl

singles-behind : (ds : List Definition) (n : ℕ) (ss : List Said) → Each (IsNew ds) (labels_in ss) → Distinct (labels_in ss) → Each (λ y. is_entry y ≡ false) (labels_in ss) → Singles (ds ++ definitions_at n ss) n ss
singles-behind ds n [] h k l = tt
singles-behind ds n (States s ∷ ss) h k l = (refl, singles-behind ds (n + 1) ss h k l)
singles-behind ds n (Labels y ∷ ss) h k l = (
  single-here y n ds (definitions_at (n + 1) ss) l.0 (h.0 (scope_of 1 y)),
  subst (λ es. Singles es (n + 1) ss) (append_assoc ds (defined (line_at n) (Some y)) (definitions_at (n + 1) ss))
      (singles-behind (ds ++ defined (line_at n) (Some y)) (n + 1) ss (all-new y n ds (labels_in ss) h.1 k.0) k.1 l.1),
)

all-unseen : (zs : List (List ℕ)) → Each (IsNew []) zs
all-unseen [] = tt
all-unseen (z ∷ zs) = ((λ sc. refl), all-unseen zs)

pub singles : (n : ℕ) (ss : List Said) → Distinct (labels_in ss) → Each (λ y. is_entry y ≡ false) (labels_in ss) → Singles (definitions_at n ss) n ss
singles n ss k l = singles-behind [] n ss (all-unseen (labels_in ss)) k l
