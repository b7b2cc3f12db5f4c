-- The frames that are exported once a thread is taken out: taken_frames. Read will_export.
use Rattle.std.proofs.Common.{◌≡◌, ◌⊎◌, inl, inr, ⊎_elim, ℕ, ◌%◌, Bool, true, ◌&&◌, ◌==◌, nat_le, nat_lt, List, [], ◌∷◌, ◌++◌, subst, eq-eqb}
use Rattle.std.proofs.lemmas.Bool.{eqb-true, le-leb, leb-true, lt-ltb, ltb-true}
use Rattle.std.specs.List.{Contains, filter}
use Rattle.st_base.specs.declared.chain.Frame.{Frame}
use Rattle.st_words.proofs.Lists.{both_true, contains_case, contains_here, contains_later, contains_none, filter_in, filter_out}
use Rattle.st_items.specs.Body.{Ends}
use Rattle.st_stack.specs.Exported.{Exports, IsFrameOn}
use Rattle.st_chain.specs.Taking.{WillExport}
use Rattle.st_framed.proofs.AllLaws.{framed_laws}
use Rattle.st_framed.specs.Framed.{Framed}

pub contains_early : {X : Type 0} (x : X) (xs ys : List X) → Contains xs x → Contains (xs ++ ys) x
contains_early x [] ys is = absurd (contains_none x is)
contains_early x (y ∷ xs) ys is = ⊎_elim (λ e. subst (λ z. Contains (y ∷ (xs ++ ys)) z) e (contains_here y (xs ++ ys))) (λ more. contains_later x y (xs ++ ys) (contains_early x xs ys more)) (contains_case x y xs is)

pub contains_late : {X : Type 0} (x : X) (xs ys : List X) → Contains ys x → Contains (xs ++ ys) x
contains_late x [] ys is = is
contains_late x (y ∷ xs) ys is = contains_later x y (xs ++ ys) (contains_late x xs ys is)

pub contains_either : {X : Type 0} (x : X) (xs ys : List X) → Contains (xs ++ ys) x → Contains xs x ⊎ Contains ys x
contains_either x [] ys is = inr is
contains_either x (y ∷ xs) ys is =
    ⊎_elim (λ e. inl (subst (λ z. Contains (y ∷ xs) z) e (contains_here y xs))) (λ more. ⊎_elim (λ early. inl (contains_later x y xs early)) (λ late. inr late) (contains_either x xs ys more)) (contains_case x y (xs ++ ys) is)

-- ---- frames on the stack

abbrev is_on : ℕ → ℕ → Frame → Bool
is_on lo hi f = (nat_le lo f.low && nat_lt f.low f.base) && (nat_le f.base hi && ((f.low % 16 == 0) && (f.base % 16 == 0)))

on_true : (lo hi : ℕ) (f : Frame) → IsFrameOn lo hi f → is_on lo hi f ≡ true
on_true lo hi f on =
    let a = le-leb lo f.low on.from in let b = lt-ltb f.low f.base on.some in let c = le-leb f.base hi on.to in let e = eq-eqb (f.low % 16) 0 on.low_even in let g = eq-eqb (f.base % 16) 0 on.base_even in cc

true_on : (lo hi : ℕ) (f : Frame) → is_on lo hi f ≡ true → IsFrameOn lo hi f
true_on lo hi f is =
    let parts = both_true (nat_le lo f.low && nat_lt f.low f.base) (nat_le f.base hi && ((f.low % 16 == 0) && (f.base % 16 == 0))) is in
    let low = both_true (nat_le lo f.low) (nat_lt f.low f.base) parts.0 in
    let high = both_true (nat_le f.base hi) ((f.low % 16 == 0) && (f.base % 16 == 0)) parts.1 in
    let even = both_true (f.low % 16 == 0) (f.base % 16 == 0) high.1 in
    record { from = leb-true lo f.low low.0; some = ltb-true f.low f.base low.1; to = leb-true f.base hi high.0; low_even = eqb-true (f.low % 16) 0 even.0; base_even = eqb-true (f.base % 16) 0 even.1 }

-- those that are, and these where they lie on the stack
abbrev pub taken_frames : Exports → List Frame → List Frame
taken_frames s fs = s.exported ++ filter (is_on s.lo s.hi) fs

pub will_export : (s : Exports) (ends : Ends) (fs rest : List Frame) → Framed s ends (fs ++ rest) → WillExport s fs (taken_frames s fs)
will_export s ends fs rest framed = record {
  stay = λ g is. contains_early g s.exported (filter (is_on s.lo s.hi) fs) is;
  come = λ g is on. contains_late g s.exported (filter (is_on s.lo s.hi) fs) (filter_in (is_on s.lo s.hi) fs g is (on_true s.lo s.hi g on));
  were = λ g is. ⊎_elim (λ was. inl was) (λ come. let out = filter_out (is_on s.lo s.hi) fs g come in inr (out.0, true_on s.lo s.hi g out.1)) (contains_either g s.exported (filter (is_on s.lo s.hi) fs) is);
  may = λ g is on h was other. framed_laws.may s ends (fs ++ rest) g framed (contains_early g fs rest is) h was other;
}
