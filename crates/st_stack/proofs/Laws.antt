-- What an export and a step of shrinking keep of the law of frames.
use Rattle.std.proofs.Common.{◌≡◌, ◌⊎◌, inl, inr, ℕ, ◌<◌, ◌≤◌, Bool, true, List, length, Option, Some, None, refl, sym, ap, ◌∙◌, subst, arith}
use Rattle.std.specs.List.{Contains}
use Rattle.st_base.specs.declared.chain.Frame.{Frame}
use Rattle.st_words.specs.Steps.{return_place}
use Rattle.st_stack.specs.Exported.{Apart, MayExport, IsWith, IsWithout, IsLowest, IsLimit}
use Rattle.st_stack.specs.FrameLaw.{FrameLaw, MayJoin, IsTop}
use Rattle.st_stack.specs.Shrinking.{lesser}

-- ---- limits

pub limit_of_lowest : (hi : ℕ) (fs : List Frame) (f : Frame) → IsLowest fs f → IsLimit hi fs f.low
limit_of_lowest hi fs f lowest = inr (f, lowest, refl)

-- a limit is at most each low end
limit_below : (hi n : ℕ) (fs : List Frame) → IsLimit hi fs n → (g : Frame) → Contains fs g → n ≤ g.low
limit_below hi n fs (inl none) g c = absurd (let l : c.0 < 0 = subst (λ xs. c.0 < length xs) none.0 c.1 in omega arith)
limit_below hi n fs (inr some) g c = let h : some.0.low ≤ g.low = some.1.least g c in let e : n ≡ some.0.low = some.2 in omega arith

-- what is at most each low end and the high end is at most a limit
below_limit : (hi sp : ℕ) (fs : List Frame) → sp ≤ hi → ((f : Frame) → Contains fs f → sp ≤ f.low) → (n : ℕ) → IsLimit hi fs n → sp ≤ n
below_limit hi sp fs high low n (inl none) = let e : n ≡ hi = none.1 in omega arith
below_limit hi sp fs high low n (inr some) = let h : sp ≤ some.0.low = low some.0 some.1.there in let e : n ≡ some.0.low = some.2 in omega arith

-- a limit is at most any other
same_limit : (hi n m : ℕ) (fs : List Frame) → IsLimit hi fs n → IsLimit hi fs m → n ≤ m
same_limit hi n m fs limit (inr some) = let h : n ≤ some.0.low = limit_below hi n fs limit some.0 some.1.there in let e : m ≡ some.0.low = some.2 in omega arith
same_limit hi n m fs (inl none) (inl too) = let a : n ≡ hi = none.1 in let b : m ≡ hi = too.1 in omega arith
same_limit hi n m fs (inr some) (inl none) = absurd (let l : some.1.there.0 < 0 = subst (λ xs. some.1.there.0 < length xs) none.0 some.1.there.1 in omega arith)

turned : (f g : Frame) → Apart f g → Apart g f
turned f g (inl a) = inr a
turned f g (inr a) = inl a

-- ---- exports

pub export_keeps : (is_zero : ℕ → Bool) (hi sp : ℕ) (fs fs' live own : List Frame) (f : Frame) (n : ℕ) → IsLimit hi fs n → IsWith fs f fs' → MayExport fs f → FrameLaw is_zero hi sp fs live own → sp ≤ hi → MayJoin is_zero sp live f → FrameLaw is_zero hi sp fs' live own
export_keeps is_zero hi sp fs fs' live own f n limit more may law high joins = record {
  above = law.above;
  placed = λ g c. elim (law.placed g c) [ inl mine ↦ inl mine | inr there ↦ inr (more.stay g there) ];
  own_live = law.own_live;
  limit = below_limit hi sp fs' high (λ g c.
      elim (more.were g c) [
        | inl same ↦ (let e : g.low ≡ f.low = ap (λ x. x.low) same in let h : sp ≤ f.low = joins.above in omega arith)
        | inr there ↦ (let a : n ≤ g.low = limit_below hi n fs limit g there in let b : sp ≤ n = law.limit n limit in omega arith)
      ]);
  apart = λ g h c d other.
      elim (more.were g c) [
        | inl same ↦ elim (more.were h d) [
          | inl too ↦ absurd (other (same ∙ sym too))
          | inr there ↦ subst (λ x. Apart x h) (sym same) (may h there (λ e. other (same ∙ sym e)))
        ]
        | inr there ↦ elim (more.were h d) [
          | inl same ↦ subst (Apart g) (sym same) (turned f g (may g there (λ e. other (e ∙ sym same))))
          | inr too ↦ law.apart g h there too other
        ]
      ];
  clear = λ g h c zero d.
      elim (more.were g c) [
        | inl same ↦ subst (λ x. Apart x h) (sym same) (joins.clear h (subst (λ x. is_zero (return_place x) ≡ true) same zero) d)
        | inr there ↦ law.clear g h there zero d
      ];
}

-- ---- shrinking

-- the frame that is taken back overlaps itself, so it isn't live
pub taken_keeps : (is_zero : ℕ → Bool) (hi sp : ℕ) (fs fs' live own : List Frame) (f : Frame) → sp ≤ hi → f.low < f.base → IsLowest fs f → IsWithout fs f fs' → is_zero (return_place f) ≡ true → FrameLaw is_zero hi sp fs live own → FrameLaw is_zero hi sp fs' live own
taken_keeps is_zero hi sp fs fs' live own f high some lowest less zero law = record {
  above = law.above;
  placed = λ h c. elim (law.placed h c) [
    | inl mine ↦ inl mine
    | inr there ↦ inr (less.stay h (λ same. elim (law.clear f h lowest.there zero c) [
      | inl a ↦ (let e : h.low ≡ f.low = ap (λ x. x.low) same in omega (arith, e))
      | inr a ↦ (let e : h.base ≡ f.base = ap (λ x. x.base) same in omega (arith, e))
    ]) there)
  ];
  own_live = law.own_live;
  limit = below_limit hi sp fs' high (λ h c.
      let a : f.low ≤ h.low = lowest.least h (less.were h c) in
      let b : sp ≤ f.low = law.limit f.low (limit_of_lowest hi fs f lowest) in
      omega arith);
  apart = λ h k c d e. law.apart h k (less.were h c) (less.were k d) e;
  clear = λ h k c z d. law.clear h k (less.were h c) z d;
}

lesser_limit : (n : ℕ) (top : Option Frame) → lesser n top ≤ n
lesser_limit n None = omega arith
lesser_limit n (Some f) = omega arith

-- where sp may lie, no live frame is below
raised : (is_zero : ℕ → Bool) (hi sp n : ℕ) (fs live own : List Frame) (top : Option Frame) → IsLimit hi fs n → IsTop fs own top → (f : Frame) → Contains own f ⊎ Contains fs f → lesser n top ≤ f.low
raised is_zero hi sp n fs live own top limit is (f) (inr there) = let a : n ≤ f.low = limit_below hi n fs limit f there in let b : lesser n top ≤ n = lesser_limit n top in omega arith
raised is_zero hi sp n fs live own None limit is f (inl mine) = limit_below hi n fs limit f (is f mine)
raised is_zero hi sp n fs live own (Some top) limit is f (inl mine) =
    elim (is.1 f mine) [
      | inl there ↦ (let a : n ≤ f.low = limit_below hi n fs limit f there in omega arith)
      | inr below ↦ omega arith
    ]

-- the worker's own frames are live
not_lowered : (sp n : ℕ) (top : Option Frame) → sp ≤ n → ((f : Frame) → top ≡ Some f → sp ≤ f.low) → sp ≤ lesser n top
not_lowered sp n None l h = l
not_lowered sp n (Some f) l h = let a : sp ≤ f.low = h f refl in omega arith

top_own : (fs own : List Frame) (top : Option Frame) → IsTop fs own top → (f : Frame) → top ≡ Some f → Contains own f
top_own fs own None is f e = absurd (cc)
top_own fs own (Some top) is f e = subst (Contains own) (let s : Some top ≡ Some f = e in cc) is.0

pub done_keeps : (is_zero : ℕ → Bool) (hi sp n : ℕ) (fs live own : List Frame) (top : Option Frame) → IsLimit hi fs n → IsTop fs own top → FrameLaw is_zero hi sp fs live own → FrameLaw is_zero hi (lesser n top) fs live own × (sp ≤ lesser n top)
done_keeps is_zero hi sp n fs live own top limit is law = (
  record {
    above = λ f c. raised is_zero hi sp n fs live own top limit is f (law.placed f c);
    placed = law.placed;
    own_live = law.own_live;
    limit = λ m other. let a : lesser n top ≤ n = lesser_limit n top in let e : n ≤ m = same_limit hi n m fs limit other in omega arith;
    apart = law.apart;
    clear = law.clear;
  },
  not_lowered sp n top (law.limit n limit) (λ f e. law.above f (law.own_live f (top_own fs own top is f e))),
)
