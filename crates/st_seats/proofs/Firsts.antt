-- A board that is opened has the root's chain in its slot, and no other thread: first_places.
use Rattle.std.proofs.Common.{◌≡◌, ◌≢◌, ℕ, ◌/◌, List, [], Option, Some, None, refl, sym, ap, subst, arith}
use Rattle.std.specs.List.{Contains}
use Rattle.st_base.specs.declared.chain.Chain.{Chain}
use Rattle.st_base.specs.declared.limits.Limits.{Limits}
use Rattle.st_base.specs.declared.thread.Thread.{Thread}
use Rattle.st_words.specs.declared.view.Known.{Known}
use Rattle.st_words.specs.declared.view.Carried.{Carried}
use Rattle.st_words.specs.declared.view.View.{View}
use Rattle.st_words.specs.Encodings.{is_counter, ready}
use Rattle.st_words.specs.Plain.{first_views, first_words, first_cargoes, root_cargo, root_chain}
use Rattle.st_words.proofs.Lists.{contains_none}
use Rattle.st_world.specs.Functions.{put}
use Rattle.st_world.specs.World.{World}
use Rattle.st_world.specs.OfPlain.{world_of, reading}
use Rattle.st_world.proofs.Functions.{put_all}
use Rattle.st_world.proofs.Opened.{home_first, home_other, post_none, some_cells, cargo_first, cargo_other, post_cargo_none, alike, led_first, view_part}
use Rattle.st_spots.specs.Listing.{Spot, Nowhere, Rooted, Lists, counters}
use Rattle.st_seats.specs.Placing.{Place, Gone, Home, Rests, WaitsFor, IsOver, AreOnce, cells_of, chain_cells, Places}
use Rattle.st_seats.specs.Laws.{First}
use Rattle.st_seats.proofs.Seats.{Holds, HoldsHome, ThreadAt, Views, MailAt}

-- ---- lists that are opened

no_one : {X : Type 0} (xs : List X) (x : X) → xs ≡ [] → Contains xs x → ⊥
no_one {X} xs x e m = contains_none x (subst (λ (ys : List X). Contains ys x) e m)

-- ---- the parts

module _ (limits : Limits) (n : ℕ) (thread : Thread) where
  owner_first : reading (first_words limits n).owners 0 ≡ 1
  unfolding first_words
  owner_first = led_first limits.cells 0 1 (some_cells limits n)

  state_first : reading (first_words limits n).states 0 ≡ 0
  unfolding first_words
  state_first = alike limits.cells 0 0

  standing_first : reading (first_words limits n).standings 0 ≡ ready
  unfolding first_words
  standing_first = led_first limits.cells 0 ready (some_cells limits n)

  abbrev first_world : World
  first_world = world_of (limits.stack / 8) (first_words limits n) (first_cargoes limits n thread) (first_views limits n)

  abbrev first_place : ℕ → Place
  first_place = put (λ (d : ℕ). Gone) 0 Home

  module _ (l : Lists first_world) (root : l.spot 0 ≡ Rooted None) (others : (c : ℕ) → c ≢ 0 → l.spot c ≡ Nowhere) where
    root_thread : ThreadAt first_world l.spot l.wait first_place 0
    root_thread = record {
      below = l.below 0 (λ z. let no : ⊥ = cc in no);
      named = λ z. let e = owner_first in omega (arith, z, e);
      future = ap is_counter owner_first;
      unfilled = λ z. let e = state_first in omega (arith, z, e);
    }

    root_home : HoldsHome first_world l.spot l.wait first_place 0 root_chain (root_cargo thread)
    root_home = record {
      at = home_first limits n;
      cell = refl;
      of = (refl, refl, refl, omega arith);
      rests = subst (λ (s : Spot). Rests (IsOver (counters first_world.owner) first_world.state) (root_cargo thread).carried.wait 0 s (first_world.standing 0) (root_cargo thread).unit) (sym root) (refl, refl, standing_first, refl);
      waits = subst (λ (s : Spot). WaitsFor (l.wait 0) s (root_cargo thread).carried.wait) (sym root) tt;
      stands = ap Some (sym standing_first);
      traps = λ k e. let no : ⊥ = cc in absurd no;
    }

    root_holds : Holds first_world l.spot l.wait first_place 0 Home
    root_holds = (root_thread, (root_chain, subst (HoldsHome first_world l.spot l.wait first_place 0 root_chain) (sym (cargo_first limits n thread)) root_home))

    each_holds : (c : ℕ) → Holds first_world l.spot l.wait first_place c (first_place c)
    each_holds c = put_all (Holds first_world l.spot l.wait first_place) (λ (d : ℕ). Gone) 0 Home c
        (λ (e : c ≡ 0). subst (λ (d : ℕ). Holds first_world l.spot l.wait first_place d Home) (sym e) root_holds)
        (λ (d : c ≢ 0). ((home_other limits n c d, cargo_other limits n thread c d), others c d))

    each_mail : (v : ℕ) → MailAt first_world l.spot l.wait first_place v (first_world.post v) (first_world.post_cargo v)
    each_mail v = subst (λ (o : Option Chain). MailAt first_world l.spot l.wait first_place v o (first_world.post_cargo v)) (sym (post_none limits n v)) (post_cargo_none limits n thread v)

    each_view : (w : ℕ) → Views first_world l.spot l.wait first_place w (first_world.view w)
    each_view w =
        let v : View = first_world.view w in
        let chains : v.chains ≡ [] = view_part limits n (λ k. k.chains) [] (λ w. refl) refl w in
        let threads : v.threads ≡ [] = view_part limits n (λ k. k.threads) [] (λ w. refl) refl w in
        let child : v.child ≡ None = view_part limits n (λ k. k.child) None (λ w. refl) refl w in
        let filled : v.filled ≡ [] = view_part limits n (λ k. k.filled) [] (λ w. refl) refl w in
        record {
          turn = λ y m. absurd (no_one v.chains y chains m);
          stack = λ c m. absurd (no_one (cells_of v.threads) c (ap cells_of threads) m);
          child = λ y e. let no : ⊥ = cc in absurd no;
          chains_once = subst (λ (ys : List Carried). AreOnce (chain_cells ys)) (sym chains) tt;
          threads_once = subst (λ (ts : List Known). AreOnce (cells_of ts)) (sym threads) tt;
          filled = λ c m. absurd (no_one v.filled c filled m);
        }

    first_placing : Places first_world l
    first_placing = record { place = first_place; each = each_holds; mail = each_mail; views = each_view }

pub first_places : First
first_places limits n thread l root others = first_placing limits n thread l root others
