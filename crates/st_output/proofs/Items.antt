-- What an item makes of the output: silent_shows (nothing is printed), print_shows (the root prints a byte).
use Rattle.std.proofs.Common.{◌≡◌, ◌≢◌, ◌⊎◌, inl, inr, ⊎_elim, ℕ, zero, suc, ◌+◌, List, [], ◌∷◌, ◌++◌, length, length-append, Option, Some, None, refl, sym, ap, ◌∙◌, subst, arith, slice_get}
use mathlib.Core.Logic.{dite}
use native.Mathlib.Decide.{ℕ_discrete}
use Rattle.st_base.specs.declared.thread.Thread.{Thread}
use Rattle.st_words.specs.Encodings.{printed}
use Rattle.st_model.specs.declared.output.Printed.{Printed}
use Rattle.st_model.specs.Heap.{Path, Heap, Change, put_child, print, after}
use Rattle.st_laws.proofs.HeapSteps.{decide, put_same, put_other, put_child_other}
use Rattle.st_laws.proofs.Placing.{print_none}
use Rattle.st_world.specs.Functions.{put}
use Rattle.st_world.proofs.Functions as functions
use Rattle.st_output.specs.Showing.{out_word, Showing}

-- ---- the root's thread

no_child : (p : Path) (k : ℕ) → [] ≢ p ++ k ∷ []
no_child [] k e = let no : ⊥ = cc in no
no_child (j ∷ p) k e = let no : ⊥ = cc in no

one : {A : Type 0} {x y : A} → Some x ≡ Some y → x ≡ y
one e = cc

-- it has made the item, or is as it was
root_after : (h : Heap) (p : Path) (t : Thread) (c : Change) (u : Thread) → (after h p t c).thread [] ≡ Some u → ((p ≡ []) × (c.own ≡ u)) ⊎ (h.thread [] ≡ Some u)
root_after h p t c u e =
    let f = put_child (p ++ t.forks ∷ []) c.child h.thread in
    ⊎_elim
    (λ (same : [] ≡ p). inl (sym same, one (sym (put_same p (Some c.own) f) ∙ subst (λ (q : Path). (after h p t c).thread q ≡ Some u) same e)))
    (λ (n : [] ≢ p). inr (sym (put_other p [] (Some c.own) f n ∙ put_child_other (p ++ t.forks ∷ []) [] c.child h.thread (no_child p t.forks)) ∙ e))
    (decide [] p)

-- ---- nothing is printed

pub silent_shows : (h : Heap) (out : ℕ → ℕ) (p : Path) (t : Thread) (c : Change) → h.thread p ≡ Some t → c.printed ≡ None → c.own.bytes ≡ t.bytes → Showing h out → Showing (after h p t c) out
silent_shows h out p t c here silent bytes S =
    let same : (after h p t c).out ≡ h.out = ap (λ (o : Option ℕ). print p o t.forks h.out) silent ∙ print_none p t.forks h.out in
    record {
      each = λ i. S.each i ∙ ap (λ (l : List Printed). out_word (slice_get l i)) (sym same);
      root = λ u e. ⊎_elim
          (λ (own : (p ≡ []) × (c.own ≡ u)).
          let there : h.thread [] ≡ Some t = subst (λ (q : Path). h.thread q ≡ Some t) own.0 here in
          ap (λ (s : Thread). s.bytes) (sym own.1) ∙ (bytes ∙ (S.root t there ∙ ap length (sym same))))
          (λ (was : h.thread [] ≡ Some u). S.root u was ∙ ap length (sym same))
          (root_after h p t c u e);
    }

-- ---- a byte is printed

get_push_here : (bs : List Printed) (b : Printed) → slice_get (bs ++ b ∷ []) (length bs) ≡ Some b
get_push_here [] b = refl
get_push_here (x ∷ bs) b = get_push_here bs b

get_push_there : (bs : List Printed) (b : Printed) (i : ℕ) → i ≢ length bs → slice_get (bs ++ b ∷ []) i ≡ slice_get bs i
get_push_there [] b zero ne = absurd (ne refl)
get_push_there [] b (suc i) ne = refl
get_push_there (x ∷ bs) b zero ne = refl
get_push_there (x ∷ bs) b (suc i) ne = get_push_there bs b i (λ e. ne (ap suc e))

pub print_shows : (h : Heap) (out : ℕ → ℕ) (p : Path) (t : Thread) (c : Change) (i n byte : ℕ) → h.thread p ≡ Some t → p ≡ [] → i ≡ t.bytes → c.printed ≡ Some byte → n ≡ printed t.forks byte → c.own.bytes ≡ t.bytes + 1 → Showing h out → Showing (after h p t c) (put out i n)
print_shows h out p t c i n byte here root place prints word bytes S =
    let b : Printed = record { byte = byte; forks = t.forks } in
    let e : (after h p t c).out ≡ h.out ++ b ∷ [] = λ j. print (root j) (prints j) t.forks h.out in
    let at : i ≡ length h.out = place ∙ S.root t (subst (λ (q : Path). h.thread q ≡ Some t) root here) in
    let l : length (h.out ++ b ∷ []) ≡ length h.out + 1 = length-append h.out (b ∷ []) in
    record {
      each = λ j. dite (ℕ_discrete j i)
          (λ (same : j ≡ i). ap (put out i n) same ∙ (functions.put_here out i n ∙ (word ∙ sym (ap out_word (ap (λ (l : List Printed). slice_get l j) e ∙ (ap (slice_get (h.out ++ b ∷ [])) (same ∙ at) ∙ get_push_here h.out b))))))
          (λ (ne : j ≢ i). functions.put_other out i n j ne ∙ (S.each j ∙ sym (ap out_word (ap (λ (l : List Printed). slice_get l j) e ∙ get_push_there h.out b j (λ y. ne (y ∙ sym at))))));
      root = λ u is. ⊎_elim
          (λ (own : (p ≡ []) × (c.own ≡ u)).
          let a : c.own.bytes ≡ u.bytes = ap (λ (s : Thread). s.bytes) own.1 in
          let long : length (after h p t c).out ≡ length (h.out ++ b ∷ []) = ap length e in
          omega (arith, a, long, l, bytes, place, at))
          (λ (was : h.thread [] ≡ Some u).
          let f = put_child (p ++ t.forks ∷ []) c.child h.thread in
          let own : c.own ≡ u = one (sym (put_same p (Some c.own) f) ∙ subst (λ (q : Path). (after h p t c).thread q ≡ Some u) (sym root) is) in
          let a : c.own.bytes ≡ u.bytes = ap (λ (s : Thread). s.bytes) own in
          let long : length (after h p t c).out ≡ length (h.out ++ b ∷ []) = ap length e in
          omega (arith, a, long, l, bytes, place, at))
          (root_after h p t c u is);
    }
