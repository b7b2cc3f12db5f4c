-- The lines of texts have distinct places: AreApart-located.
use Rattle.std.proofs.Common.{ℕ, ◌≡◌, ◌+◌, ◌≤◌, List, [], ◌∷◌, ◌++◌, refl, arith, All}
use Rattle.std.proofs.lemmas.List.Elements.{All-nil, All-cons, All-head, All-tail, All-append, All-weaker}
use Rattle.st_asm.specs.Labels.{Located, lines_of, numbered, located}
use Rattle.st_asm.proofs.Keeping.{IsApart}
use Rattle.st_asm.proofs.Kept.{AreApart}

-- a line of this file, not before this number
pub record IsFrom (file n : ℕ) (l : Located) : Type 0 where
  pub own : l.line.file ≡ file
  pub later : n ≤ l.line.line

-- a line of this file or a later one
pub record IsOf (file : ℕ) (l : Located) : Type 0 where
  pub later : file ≤ l.line.file

pub numbered-from : (file n : ℕ) (ts : List (List ℕ)) → All (IsFrom file n) (numbered file n ts)
numbered-from file n [] = All-nil (IsFrom file n)
numbered-from file n (t ∷ ts) = All-cons (IsFrom file n) _ (numbered file (n + 1) ts) (record { own = refl; later = omega arith })
    (All-weaker (IsFrom file (n + 1)) (IsFrom file n) (λ l h. record { own = h.own; later = let b = h.later in omega arith }) (numbered file (n + 1) ts) (numbered-from file (n + 1) ts))

numbered-apart : (file n : ℕ) (ts : List (List ℕ)) → AreApart (numbered file n ts)
numbered-apart file n [] = tt
numbered-apart file n (t ∷ ts) = (
  All-weaker (IsFrom file (n + 1)) (λ m. IsApart (record { file = file; line = n }) m.line) (λ l h. record { apart = λ e o. let b = h.later in omega arith }) (numbered file (n + 1) ts) (numbered-from file (n + 1) ts),
  numbered-apart file (n + 1) ts,
)

pub located-of : (file : ℕ) (texts : List (List ℕ)) → All (IsOf file) (located file texts)
located-of file [] = All-nil (IsOf file)
located-of file (t ∷ ts) = All-append (IsOf file) (numbered file 1 (lines_of t)) (located (file + 1) ts)
    (All-weaker (IsFrom file 1) (IsOf file) (λ l h. record { later = let e = h.own in omega arith }) (numbered file 1 (lines_of t)) (numbered-from file 1 (lines_of t)))
    (All-weaker (IsOf (file + 1)) (IsOf file) (λ l h. record { later = let b = h.later in omega arith }) (located (file + 1) ts) (located-of (file + 1) ts))

AreApart-append : (ls ms : List Located) → AreApart ls → AreApart ms → All (λ l. All (λ m. IsApart l.line m.line) ms) ls → AreApart (ls ++ ms)
AreApart-append [] ms a b h = b
AreApart-append (l ∷ ls) ms a b h =
    let P : Located → Type 0 = λ l. All (λ m. IsApart l.line m.line) ms in
    (All-append (λ m. IsApart l.line m.line) ls ms a.0 (All-head P l ls h), AreApart-append ls ms a.1 b (All-tail P l ls h))

pub AreApart-located : (file : ℕ) (texts : List (List ℕ)) → AreApart (located file texts)
AreApart-located file [] = tt
AreApart-located file (t ∷ ts) =
    AreApart-append (numbered file 1 (lines_of t)) (located (file + 1) ts) (numbered-apart file 1 (lines_of t)) (AreApart-located (file + 1) ts)
    (All-weaker (IsFrom file 1) (λ l. All (λ m. IsApart l.line m.line) (located (file + 1) ts))
    (λ l h. All-weaker (IsOf (file + 1)) (λ m. IsApart l.line m.line) (λ m o. record { apart = λ e p. let c = h.own in let b = o.later in omega arith }) (located (file + 1) ts) (located-of (file + 1) ts))
    (numbered file 1 (lines_of t)) (numbered-from file 1 (lines_of t)))
