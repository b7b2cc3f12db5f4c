-- What steps leave of what a worker has in hand and has seen: SameHand. Read bag_same and leaves_off (what a step off the stack leaves), load_same (a load of a cell's word but Next), value_loaded and
-- state_full (what it has seen then).
use Rattle.st_calls.proofs.Turning.{StepLeaves}
use Rattle.st_fits.specs.Bags.{Bag, HasBag}
use Rattle.st_fits.specs.Before.{after, change_after}
use Rattle.st_kept.proofs.Stepping.{numbers, untouched}
use Rattle.st_kept.specs.Keeping.{IsOffStack}
use Rattle.st_model.specs.Memory.{Data}
use Rattle.st_model.specs.declared.program.Program.{Program}
use Rattle.st_words.proofs.Lists.{contains_case, contains_here, contains_later, contains_none}
use Rattle.st_words.specs.Encodings.{count_in, full_word}
use Rattle.st_words.specs.Steps.{Answer, CellLoad, IsCounter, IsFuture, Number, Step, CellChange}
use Rattle.st_words.specs.Views as views
use Rattle.st_words.specs.Views.{view_after}
use Rattle.st_words.specs.declared.view.CellWord.TheVariants as words
use Rattle.st_words.specs.declared.view.CellWord.{CellWord}
use Rattle.st_words.specs.declared.view.Known.{Known}
use Rattle.st_words.specs.declared.view.View.{View}
use Rattle.std.proofs.Common.{◌≡◌, inl, inr, ℕ, zero, suc, Bool, true, false, List, [], ◌∷◌, Option, Some, None, refl, sym, ap, ◌∙◌, subst, ◌==◌, eq-eqb, ⊎_elim}
use Rattle.std.proofs.lemmas.Bool.{or_left, or_right}
use Rattle.std.specs.List.{Contains}

pub record SameHand (u v : View) : Type 0 where
  pub chains : v.chains ≡ u.chains
  pub hand : v.hand ≡ u.hand
  pub share : v.share ≡ u.share
  pub drawn : v.drawn ≡ u.drawn
  pub child : v.child ≡ u.child
  pub answering : v.answering ≡ u.answering
  pub given : v.given ≡ u.given
  pub root : v.root ≡ u.root
  pub ready : v.ready ≡ u.ready
  pub asked : v.asked ≡ u.asked
  pub valued : v.valued ≡ u.valued
  pub names : v.names ≡ u.names
  pub owners : (e : ℕ × ℕ) → Contains u.owners e → Contains v.owners e
  pub full : (c : ℕ) → Contains u.full c → Contains v.full c

pub bag_same : (b : Bag) (u v : View) → SameHand u v → HasBag b u → HasBag b v
bag_same b u v same bag = record {
  chains = same.chains ∙ bag.chains;
  hand = same.hand ∙ bag.hand;
  share = same.share ∙ bag.share;
  drawn = same.drawn ∙ bag.drawn;
  child = same.child ∙ bag.child;
  answering = same.answering ∙ bag.answering;
  given = same.given ∙ bag.given;
  root = same.root ∙ bag.root;
}

abbrev itself : (u : View) → SameHand u u
itself u = record { chains = refl; hand = refl; share = refl; drawn = refl; child = refl; answering = refl; given = refl; root = refl; ready = refl; asked = refl; valued = refl; names = refl; owners = λ e in'. in'; full = λ c in'. in' }

seen_owner : (c n : ℕ) (u : View) → SameHand u (views.with_owner c n u)
seen_owner c zero u = itself u
seen_owner c (suc n) u = record { chains = refl; hand = refl; share = refl; drawn = refl; child = refl; answering = refl; given = refl; root = refl; ready = refl; asked = refl; valued = refl; names = refl; owners = λ e in'. contains_later e (c, suc n) u.owners in'; full = λ k in'. in' }

seen_when : (c n : ℕ) (counts is_full : Bool) (u : View) → SameHand u (views.state_when c n counts is_full u)
seen_when c n true is_full u = record { chains = refl; hand = refl; share = refl; drawn = refl; child = refl; answering = refl; given = refl; root = refl; ready = refl; asked = refl; valued = refl; names = refl; owners = λ e in'. in'; full = λ k in'. in' }
seen_when c n false true u = record { chains = refl; hand = refl; share = refl; drawn = refl; child = refl; answering = refl; given = refl; root = refl; ready = refl; asked = refl; valued = refl; names = refl; owners = λ e in'. in'; full = λ k in'. contains_later k c u.full in' }
seen_when c n false false u = itself u

pub seen_state : (kind : Option Bool) (c n : ℕ) (u : View) → SameHand u (views.with_state_by kind c n u)
seen_state None c n u = itself u
seen_state (Some counter) c n u = seen_when c n counter (n == full_word) u

seen_value : (c n : ℕ) (b : Bool) (u : View) → SameHand u (views.with_value c n b u)
seen_value c n true u = record { chains = refl; hand = refl; share = refl; drawn = refl; child = refl; answering = refl; given = refl; root = refl; ready = refl; asked = refl; valued = refl; names = refl; owners = λ e in'. in'; full = λ k in'. in' }
seen_value c n false u = itself u

-- each word but that of a waiter
abbrev pub IsNotNext : CellWord → Type 0
IsNotNext words.Next = ⊥
IsNotNext _ = Prim.Unit

seen_cell : (c : ℕ) (word : CellWord) (n : ℕ) (u : View) → IsNotNext word → SameHand u (views.cell_seen c word n u)
seen_cell c words.Owner n u is = seen_owner c n u
seen_cell c words.State n u is = seen_state (views.kind_seen c u) c n u
seen_cell c words.Value n u is = seen_value c n (views.has_number u.full c) u
seen_cell c words.Next n u is = absurd is
seen_cell c words.Standing n u is = itself u
seen_cell c words.Trap n u is = itself u

-- it is a step off the stack
module _ (p : Program) (d : Data) (u : View) where
  pub leaves_off : (s : Step) (a : Answer) → IsOffStack s → SameHand u (after p d u s a) → StepLeaves u (after p d u s a)
  leaves_off s a off same = record { untouched = untouched p d u s a off; words = (numbers p d u s a).words; ready = same.ready; asked = same.asked }

  pub load_same : (c : ℕ) (word : CellWord) (n : ℕ) → IsNotNext word → SameHand u (after p d u (CellLoad c word) (Number n))
  unfolding after view_after
  load_same c word n is = let same = seen_cell c word n u is in record {
    chains = same.chains;
    hand = same.hand;
    share = same.share;
    drawn = same.drawn;
    child = same.child;
    answering = same.answering;
    given = same.given;
    root = same.root;
    ready = same.ready;
    asked = same.asked;
    valued = same.valued;
    names = same.names;
    owners = same.owners;
    full = same.full;
  }

  has_it : (full : List ℕ) (c : ℕ) → Contains full c → views.has_number full c ≡ true
  has_it [] c in' = absurd (contains_none c in')
  has_it (k ∷ ks) c in' = ⊎_elim (λ (same : k ≡ c). or_left (k == c) (views.has_number ks c) (eq-eqb k c same)) (λ later. or_right (k == c) (views.has_number ks c) (has_it ks c later)) (contains_case c k ks in')

  -- the value of a future that was seen full
  pub value_loaded : (c n : ℕ) → Contains u.full c → (after p d u (CellLoad c words.Value) (Number n)).values ≡ (c, n) ∷ u.values
  unfolding after view_after
  value_loaded c n full = ap (λ (b : Bool). (views.with_value c n b u).values) (has_it u.full c full)

  -- the State word of a future that is full, and a count
  pub state_full : (c n : ℕ) → views.kind_seen c u ≡ Some false → n ≡ full_word → Contains (after p d u (CellLoad c words.State) (Number n)).full c
  unfolding after view_after
  state_full c n kind full =
      subst (λ (k : Option Bool). Contains (views.with_state_by k c n u).full c) (sym kind) (subst (λ (b : Bool). Contains (views.state_when c n false b u).full c) (sym (eq-eqb n full_word full)) (contains_here c u.full))

  pub state_counts : (c n : ℕ) → views.kind_seen c u ≡ Some true → Contains (after p d u (CellLoad c words.State) (Number n)).counts (c, count_in n)
  unfolding after view_after
  state_counts c n kind = subst (λ (k : Option Bool). Contains (views.with_state_by k c n u).counts (c, count_in n)) (sym kind) (contains_here (c, count_in n) u.counts)

-- futures and counters that were known are so
module _ (u v : View) (same : SameHand u v) (threads : v.threads ≡ u.threads) where
  pub still_future : (c : ℕ) → IsFuture u c → IsFuture v c
  still_future c (inl (owner, in', kind)) = inl (owner, same.owners (c, owner) in', kind)
  still_future c (inr (t, in', is)) = inr (t, subst (λ (ts : List Known). Contains ts t) (sym threads) in', is)

  pub still_counter : (c : ℕ) → IsCounter u c → IsCounter v c
  still_counter c (owner, in', kind) = (owner, same.owners (c, owner) in', kind)

-- ---- a State word that was found to be another

module _ (p : Program) (d : Data) (u : View) (c old new found : ℕ) (other : (found == old) ≡ false) where
  tries : after p d u (CellChange c old new) (Number found) ≡ record (views.with_state c found u) { threads = u.threads }
  unfolding after view_after
  tries = ap (λ (b : Bool). record (views.cell_changed b c old new found u) { threads = change_after p d b c new u }) other

  tried_hand : SameHand u (views.with_state c found u) → SameHand u (record (views.with_state c found u) { threads = u.threads })
  tried_hand same = record {
    chains = same.chains;
    hand = same.hand;
    share = same.share;
    drawn = same.drawn;
    child = same.child;
    answering = same.answering;
    given = same.given;
    root = same.root;
    ready = same.ready;
    asked = same.asked;
    valued = same.valued;
    names = same.names;
    owners = same.owners;
    full = same.full;
  }

  pub tried_same : SameHand u (after p d u (CellChange c old new) (Number found))
  tried_same = subst (λ (v : View). SameHand u v) (sym tries) (tried_hand (seen_state (views.kind_seen c u) c found u))

  pub tried_threads : (after p d u (CellChange c old new) (Number found)).threads ≡ u.threads
  tried_threads = ap (λ (v : View). v.threads) tries
