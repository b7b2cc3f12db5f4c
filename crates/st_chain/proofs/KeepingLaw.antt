-- A taking keeps the law of frames on a stack (keeps_law): what is exported anew is the worker's, and live, so it doesn't lie below sp.
use Rattle.std.proofs.Common.{◌≡◌, inl, inr, ℕ, ◌<◌, ◌≤◌, Bool, true, false, T, List, length, subst, sym, ◌∙◌, arith}
use Rattle.std.specs.List.{Contains}
use Rattle.st_base.specs.declared.chain.Frame.{Frame}
use Rattle.st_stack.specs.Exported.{IsLimit}
use Rattle.st_chain.specs.Taking.{KeepsFrameLaw}

at_limit : (hi n : ℕ) (fs : List Frame) → IsLimit hi fs n → (g : Frame) → Contains fs g → n ≤ g.low
at_limit hi n fs (inl none) g c = absurd (let l : c.0 < 0 = subst (λ xs. c.0 < length xs) none.0 c.1 in omega arith)
at_limit hi n fs (inr some) g c = let h : some.0.low ≤ g.low = some.1.least g c in let e : n ≡ some.0.low = some.2 in omega arith

below_all : (hi sp : ℕ) (fs : List Frame) → sp ≤ hi → ((f : Frame) → Contains fs f → sp ≤ f.low) → (n : ℕ) → IsLimit hi fs n → sp ≤ n
below_all hi sp fs high low n (inl none) = let e : n ≡ hi = none.1 in omega arith
below_all hi sp fs high low n (inr some) = let h : sp ≤ some.0.low = low some.0 some.1.there in let e : n ≡ some.0.low = some.2 in omega arith

pub keeps_law : KeepsFrameLaw
keeps_law is_zero hi sp n exported exported' live own own' limit high taken law = record {
  above = law.above;
  placed = λ g c. elim (law.placed g c) [ inl mine ↦ taken.gone g mine | inr there ↦ inr (taken.stay g there) ];
  own_live = λ g c. law.own_live g (taken.left g c);
  limit = below_all hi sp exported' high (λ g c.
      elim (taken.come g c) [
        | inl there ↦ (let a : n ≤ g.low = at_limit hi n exported limit g there in let b : sp ≤ n = law.limit n limit in omega arith)
        | inr mine ↦ law.above g (law.own_live g mine)
      ]);
  apart = taken.apart;
  clear = λ g h c zero d.
      elim (taken.come g c) [
        | inl there ↦ law.clear g h there zero d
        | inr mine ↦ (let both : true ≡ false = sym zero ∙ taken.lives g mine in absurd (subst (λ (b : Bool). T b) both tt))
      ];
}
