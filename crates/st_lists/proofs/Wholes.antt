-- The group anew from its parts, where one view is changed: rebuilt; and what the change of a spot leaves of the root and of the numbers below the
-- number of cells. quiet_view is for all that changes nothing that is read.
use Rattle.std.proofs.Common.{◌≡◌, ◌≢◌, ℕ, ◌<◌, Bool, List, Option, Some, None, refl, sym, ◌∙◌, subst}
use mathlib.Core.Logic.{dite}
use native.Mathlib.Decide.{ℕ_discrete}
use Rattle.st_base.specs.declared.chain.Waiting.{Waiting}
use Rattle.st_words.specs.declared.view.Waiter.{Waiter}
use Rattle.st_words.specs.declared.view.View.{View}
use Rattle.st_world.specs.Functions.{put}
use Rattle.st_world.specs.World.{World, seen}
use Rattle.st_world.proofs.Functions.{put_other, put_keeps, put_was, put_all, put_part, put_same, function_same}
use Rattle.st_spots.specs.Listing.{Spot, Nowhere, Rooted, Listing, Rooting, Numbers, Lists, hands, readies, finders, counters}
use Rattle.st_lists.specs.Going.{Stays}
use Rattle.st_lists.specs.Laws.{Staying}
use Rattle.st_lists.proofs.ViewsAfter.{SameParts}

-- a part of the views is put, or stays
pub part_eq : {Y : Type 0} (part : View → Y) (views : ℕ → View) (w : ℕ) (v : View) → put (λ k. part (views k)) w (part v) ≡ (λ k. part (put views w v k))
part_eq {Y} part views w v = function_same (put (λ k. part (views k)) w (part v)) (λ k. part (put views w v k)) (λ k. put_part part views w v k)

pub part_same : {Y : Type 0} (part : View → Y) (views : ℕ → View) (w : ℕ) (v : View) → part v ≡ part (views w) → ◌≡◌ {A = ℕ → Y} (λ k. part (views k)) (λ k. part (put views w v k))
part_same {Y} part views w v e = function_same (λ k. part (views k)) (λ k. part (put views w v k)) (λ k. put_same part views w v e k)

module _ (workers cells : ℕ) (owner state next : ℕ → ℕ) (root : ℕ) (view : ℕ → View) (G : Numbers workers cells owner state next root view) (w : ℕ) (v : View) where
  sized : v.cells ≡ (view w).cells → (u : ℕ) → u < workers → (put view w v u).cells ≡ cells
  sized e u l = put_all (λ (k : ℕ) (y : View). k < workers → y.cells ≡ cells) view w v u (λ q m. e ∙ G.sized w (subst (λ (k : ℕ). k < workers) q m)) (λ q m. G.sized u m) l

  pub rebuilt : (P : (ℕ → Spot) → (ℕ → Waiting) → Type 0) (owner' state' next' : ℕ → ℕ) (root' : ℕ) (spot' : ℕ → Spot) (wait' : ℕ → Waiting) (h : ℕ → List Waiter) (r : ℕ → List ℕ) (f : ℕ → Bool) → P spot' wait' → v.cells ≡ (view w).cells → h ≡ hands (put view w v) → r ≡ readies (put view w v) → f ≡ finders (put view w v) → ((d : ℕ) → spot' d ≢ Nowhere → d < cells) → Listing workers spot' wait' next' (counters owner') state' h r → Rooting spot' root' f → (n : Numbers workers cells owner' state' next' root' (put view w v)) × P n.spot n.wait
  rebuilt P owner' state' next' root' spot' wait' h r f so e p q t below l o = (
    record {
      spot = spot';
      wait = wait';
      few = G.few;
      below = below;
      sized = sized e;
      listing = subst (λ (x : ℕ → List ℕ). Listing workers spot' wait' next' (counters owner') state' (hands (put view w v)) x) q (subst (λ (x : ℕ → List Waiter). Listing workers spot' wait' next' (counters owner') state' x r) p l);
      rooting = subst (λ (x : ℕ → Bool). Rooting spot' root' x) t o;
    },
    so,
  )

-- nothing that is read is changed
pub quiet_view : (x : World) (l : Lists x) (w : ℕ) (v : View) → SameParts (x.view w) v → Staying x l (seen w v x)
quiet_view x l w v s = rebuilt x.workers x.cells x.owner x.state x.next x.root x.view l w v (λ t k. Stays l.spot l.wait t k) x.owner x.state x.next x.root l.spot l.wait (hands x.view) (readies x.view) (finders x.view) (λ d. refl, λ d. refl) s.3
    (part_same (λ (y : View). y.hand) x.view w v s.0) (part_same (λ (y : View). y.ready) x.view w v s.1) (part_same (λ (y : View). y.root) x.view w v s.2) l.below l.listing l.rooting

-- ---- the root

abbrev pub SameRoot : Spot → Spot → Type 0
SameRoot s t = (o : Option ℕ) → (s ≡ Rooted o → t ≡ Rooted o) × (t ≡ Rooted o → s ≡ Rooted o)

pub root_same : (spot spot' : ℕ → Spot) (root : ℕ) (found : ℕ → Bool) → SameRoot (spot 0) (spot' 0) → Rooting spot root found → Rooting spot' root found
root_same spot spot' root found s r = record {
  untaken = λ e. (s None).0 (r.untaken e);
  taken = λ e. r.taken ((s None).1 e);
  finder = λ w e. (s (Some w)).0 (r.finder w e);
  finds = λ w e. r.finds w ((s (Some w)).1 e);
}

pub root_put : (spot : ℕ → Spot) (d : ℕ) (s : Spot) → ((o : Option ℕ) → spot d ≢ Rooted o) → ((o : Option ℕ) → s ≢ Rooted o) → SameRoot (spot 0) (put spot d s 0)
root_put spot d s a b o = (λ e. put_keeps spot d s 0 (Rooted o) e (a o), λ e. put_was spot d s 0 (Rooted o) e (b o))

-- ---- numbers below the number of cells

pub below_put : (cells : ℕ) (spot : ℕ → Spot) (d : ℕ) (s : Spot) → d < cells → ((e : ℕ) → spot e ≢ Nowhere → e < cells) → (e : ℕ) → put spot d s e ≢ Nowhere → e < cells
below_put cells spot d s l h e n = dite (ℕ_discrete e d)
    (λ (q : e ≡ d). subst (λ (k : ℕ). k < cells) (sym q) l)
    (λ (q : e ≢ d). h e (λ z. n (put_other spot d s e q ∙ z)))
