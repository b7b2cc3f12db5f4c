-- What is always so of a view where the rule holds: rule_tidy.
use Rattle.std.proofs.Common.{inl, inr, ⊎_elim, ℕ, ◌<◌, List, [], ◌∷◌, arith}
use Rattle.st_base.specs.declared.limits.Limits.{Limits}
use Rattle.st_words.specs.declared.view.Waiter.{Waiter}
use Rattle.st_words.specs.declared.view.View.{View}
use Rattle.st_words.specs.Careful.{Meaning}
use Rattle.st_words.specs.Tidy.{AreOnce, TidyNumbers, TidyNames}
use Rattle.st_model.specs.declared.program.Program.{Program}
use Rattle.st_model.specs.Memory.{Data}
use Rattle.st_model.specs.Heap.{Heap}
use Rattle.st_world.specs.World.{World}
use Rattle.st_spots.specs.Listing.{Once}
use Rattle.st_rule.specs.Rule.{Rule}
use Rattle.st_rule.specs.Laws.{RuleTidy}
use Rattle.st_rule.proofs.Groups.{Groups}

hand_once : (hand : List Waiter) → Once hand → AreOnce hand
hand_once [] o = tt
hand_once (y ∷ ys) o = (λ z at e. o.0 (z, at, e), hand_once ys o.1)

module _ (m : Meaning) (g : Groups m) (program : Program) (source : Data) (limits : Limits) (h0 h : Heap) (x : World) (r : Rule m program source limits h0 h x) (w : ℕ) (is : w < x.workers) where
  abbrev u : View
  u = x.view w

  below_cells : (c : ℕ) → c < x.cells → c < u.cells
  below_cells c l = let s = r.lists.sized w is in omega (arith, l, s)

  numbers : TidyNumbers u
  numbers = record {
    below = λ c at. ⊎_elim
        (λ t. below_cells c (g.places_told.below x r.lists w c r.places (inl t)))
        (λ more. ⊎_elim
        (λ k. below_cells c (g.places_told.below x r.lists w c r.places (inr (inl k))))
        (λ n. g.lists_view.below x w c r.lists is n) more) at;
    hand = hand_once u.hand (g.lists_view.once x w r.lists);
    chains = λ y z a b e. g.places_told.chains x r.lists w y z r.places a b e;
    threads = λ c t more. g.places_told.threads x r.lists w c r.places t more;
    ready = λ c a more. ⊎_elim (λ k. g.places_told.ready x r.lists w c r.places a k) (λ n. g.lists_view.apart x w w c r.lists a n) more;
    waits = λ y a n. g.places_told.waits x r.lists w y r.places a n;
    unfinished = λ c t full. (g.places_told.unfilled x r.lists w c r.places (inl t)).2 (g.knows_told.full x w c r.knows full);
    linked = λ y n a e. g.lists_view.linked x w y n r.lists a e;
  }

  names : TidyNames u
  names =
      let told = g.names_told program source in
      record {
        knows = told.knows h x w r.names;
        below = λ name c at. below_cells c (told.below h x w c name r.names at);
        one_name = λ a b c e f. told.one_name h x w c a b r.names e f;
        one_cell = λ a c d e f. told.one_cell h x w c d a r.names e f;
        owners = g.knows_told.one_owner x w r.knows;
        kinds = λ name c n e f. g.knows_told.kinds x w name c n r.knows e f;
        child = λ c k. below_cells c (g.places_told.below x r.lists w c r.places (inr (inr k)));
      }

module _ (m : Meaning) (g : Groups m) (program : Program) (source : Data) (limits : Limits) where
  pub rule_tidy : RuleTidy m program source limits
  rule_tidy h0 h x w r is =
      let covered = g.counts_told.covered x w r.counts in
      record {
        numbers = numbers m g program source limits h0 h x r w is;
        names = names m g program source limits h0 h x r w is;
        leased = g.leases_told.keeps x w r.leases is;
        covers = covered.covers;
        holds = covered.holds;
      }
