-- What follows for the words that are read, and where the numbers of a view are: told_laws.
use Rattle.std.proofs.Common.{◌≡◌, ◌≢◌, ◌⊎◌, inl, inr, ℕ, suc, ◌≤◌, ◌<◌, Bool, true, false, [], ◌∷◌, length, Some, None, sym, ap, ◌∙◌, subst, arith, ◌==◌, ne_eqb}
use Rattle.std.specs.List.{Contains}
use Rattle.std.specs.Int.{from_bool}
use mathlib.Core.Logic.{dite}
use native.Mathlib.Decide.{ℕ_discrete}
use Rattle.st_words.specs.declared.view.Waiter.{Waiter}
use Rattle.st_words.specs.Encodings.{full_word, is_counter}
use Rattle.st_world.specs.World.{World}
use Rattle.st_spots.specs.Listing.{Spot, Listed, Behind, Rooted, IsList, IsTail, Lists, head_by}
use Rattle.st_lists.specs.Laws.{ToldLaws}
use Rattle.st_lists.proofs.States.{future_head}
use Rattle.st_spots.proofs.Tidies.{held}

-- a word that leads to a list, whose numbers are below the number of cells
word_below : (cells : ℕ) (next : ℕ → ℕ) (spot at : ℕ → Spot) (word : ℕ) → ((d k : ℕ) → spot d ≡ at k → d < cells) → IsList next spot at word → word ≤ cells
word_below cells next spot at word below ([], h, m) = omega (arith, h)
word_below cells next spot at word below (d ∷ ds, h, m) = let e = h.0 in let l = below d (length ds) h.1 in omega (arith, e, l)

module _ (x : World) (l : Lists x) where
  -- who finds Root 1 is right about its word
  root_one : (n : ℕ) → suc n ≡ from_bool (x.root == 1) → x.root ≡ 1
  root_one n f = dite (ℕ_discrete x.root 1) (λ (e : x.root ≡ 1). e)
      (λ (d : x.root ≢ 1). let z : suc n ≡ 0 = f ∙ ap (λ (b : Bool). from_bool b) (ne_eqb x.root 1 d) in let no : ⊥ = omega (arith, z) in absurd no)

  -- once a worker has found it, nobody finds it again
  root_gone : (w n : ℕ) → n ≡ from_bool (x.root == 1) → (x.view w).root ≡ true → n ≡ 0
  root_gone w n f r = dite (ℕ_discrete x.root 1)
      (λ (e : x.root ≡ 1). let t : Rooted None ≡ Rooted (Some w) = sym (l.rooting.untaken e) ∙ l.rooting.finder w r in let no : ⊥ = cc in absurd no)
      (λ (d : x.root ≢ 1). f ∙ ap (λ (b : Bool). from_bool b) (ne_eqb x.root 1 d))

  head_below : (c : ℕ) (b : Bool) → is_counter (x.owner c) ≡ b → head_by b (x.state c) ≤ x.cells
  head_below c b e = subst (λ (b : Bool). head_by b (x.state c) ≤ x.cells) e (word_below x.cells x.next l.spot (Listed c) (head_by (is_counter (x.owner c)) (x.state c)) (λ d k q. l.below d (λ z. let no : ⊥ = cc in no)) (l.listing.lists c))

  future_below : (c : ℕ) → is_counter (x.owner c) ≡ false → (x.state c ≡ full_word) ⊎ (x.state c ≤ x.cells)
  future_below c kind = dite (ℕ_discrete (x.state c) full_word)
      (λ (e : x.state c ≡ full_word). inl e)
      (λ (d : x.state c ≢ full_word). inr (subst (λ (n : ℕ). n ≤ x.cells) (future_head (x.state c) d) (head_below c false kind)))

  next_below : (w : ℕ) (y : Waiter) → Contains (x.view w).hand y → y.leads ≡ true → x.next y.cell ≤ x.cells
  next_below w y m leads = word_below x.cells x.next l.spot (Behind w y.cell) (x.next y.cell) (λ d k q. l.below d (λ z. let no : ⊥ = cc in no))
      (subst (λ (b : Bool). IsTail x.workers l.spot l.wait x.next w y.cell b) leads ((l.listing.hands w).entries y m).tail)

pub told_laws : ToldLaws
told_laws = record {
  takes = λ x l w n f. root_gone x l w n f;
  finds = λ x l w n f. l.rooting.untaken (root_one x l n f);
  future = future_below;
  counter = λ x l c kind. head_below x l c true kind;
  leads = next_below;
  hand = λ x l w c has. held x w c l has;
  readies = λ x l w c m. (l.listing.readies w).of c m;
  root = λ x l w r. l.rooting.finder w r;
}
