-- What a worker does between its steps keeps the rule: one move (one_kept), and a list of them (moves_kept).
use Rattle.std.proofs.Common.{◌≡◌, ◌≢◌, ◌⊎◌, inl, inr, ℕ, ◌<◌, true, List, [], ◌∷◌, refl, sym, ◌∙◌, ap, subst, arith}
use mathlib.Core.Logic.{dite}
use native.Mathlib.Decide.{ℕ_discrete}
use Rattle.st_base.specs.declared.limits.Limits.{Limits}
use Rattle.st_words.specs.declared.view.Known.{Known}
use Rattle.st_words.specs.declared.view.View.{View}
use Rattle.st_words.specs.Steps.{some_thread}
use Rattle.st_words.specs.Views.{Progress, with_progress}
use Rattle.st_words.specs.Careful.{Meaning}
use Rattle.st_model.specs.declared.program.Program.{Program}
use Rattle.st_model.specs.Memory.{Data}
use Rattle.st_model.specs.Heap.{Path, Heap, HStep}
use Rattle.st_made.specs.Items.{went, born, child_path}
use Rattle.st_made.specs.Moves.{OneMove, AllMoves, Begins, MakesItem, MakesFork, Suspends, Gives, Restarts, Exports}
use Rattle.st_world.specs.Functions.{put}
use Rattle.st_world.specs.World.{World, seen}
use Rattle.st_world.proofs.Functions.{put_here, put_other, put_id, function_same}
use Rattle.st_spots.specs.Listing.{Lists}
use Rattle.st_seats.specs.Placing.{Places, cells_of}
use Rattle.st_holders.specs.Leasing.{Leasing}
use Rattle.st_requests.specs.Mailing.{Requests}
use Rattle.st_counts.specs.Counting.{Counts}
use Rattle.st_counts.specs.Laws.{NoneBegun}
use Rattle.st_draws.specs.Drawing.{Draws}
use Rattle.st_knows.specs.Knowing.{Knows}
use Rattle.st_rule.specs.Rule.{Rule}
use Rattle.st_rule.specs.Laws.{OneOn, RunOn, RuleMoves}
use Rattle.st_rule.proofs.Groups.{Groups}
use Rattle.st_rule.proofs.Facts.{seen_heap, single}
use Rattle.st_walks.proofs.Walks.{over}

-- the groups that no heap is behind
record Ground (y : World) : Type 0 where
  lists : Lists y
  places : Places y lists
  leases : Leasing y
  requests : Requests y
  counts : Counts y
  draws : Draws y
  knows : Knows y

module _ (m : Meaning) (g : Groups m) (program : Program) (source : Data) (limits : Limits) (h0 h : Heap) (x : World) (r : Rule m program source limits h0 h x) (w : ℕ) (is : w < x.workers) where
  abbrev On : View → Type 0
  On u = Ground (seen w u x)

  progressed : (progress : Progress) → cells_of progress.threads ≡ cells_of (x.view w).threads → NoneBegun (x.view w) progress.threads → On (with_progress progress (x.view w))
  progressed progress cells none =
      let l = g.lists_moves.progresses x r.lists w progress in
      record {
        lists = l.0;
        places = g.places_moves.progresses x r.lists w progress l.0 r.places cells l.1;
        leases = g.leases_moves.progresses x w progress r.leases;
        requests = g.requests_moves.progresses x w progress r.requests;
        counts = g.counts_moves.progresses x w progress r.counts none;
        draws = g.draws_moves.progresses x w progress r.draws;
        knows = g.knows_moves.progresses x w progress r.knows;
      }

  -- the top thread has another state
  top_changed : (top now : Known) (rest : List Known) (items bytes : ℕ) → (x.view w).threads ≡ top ∷ rest → now.note.cell ≡ top.note.cell → On (with_progress (record { threads = now ∷ rest; items = items; frame_bytes = bytes }) (x.view w))
  top_changed top now rest items bytes e same =
      let some : some_thread (x.view w).threads ≡ 1 = ap some_thread e in
      progressed (record { threads = now ∷ rest; items = items; frame_bytes = bytes }) (ap (λ (c : ℕ). c ∷ cells_of rest) same ∙ sym (ap cells_of e)) (omega (arith, some))

  begins : (u : View) → Begins program source (x.view w) u → On u
  begins u e = subst On (sym e.after) (top_changed e.top (record e.top { begun = true }) e.rest _ (x.view w).frame_bytes e.is refl)

  makes : (u : View) → MakesItem program source (x.view w) u → On u
  makes u e = subst On (sym e.after) (top_changed e.top (went e.top e.change.own) e.rest (x.view w).items _ e.is refl)

  forks : (u : View) → MakesFork program source (x.view w) u → On u
  forks u e =
      let child = born e.cell (child_path e.top) e.child in
      let parent = went e.top e.change.own in
      let l = g.lists_moves.begins x r.lists w child parent e.rest in
      subst On (sym e.after) (record {
        lists = l.0;
        places = g.places_moves.begins x r.lists w child parent e.top e.rest l.0 r.places is e.may e.is refl l.1;
        leases = g.leases_moves.begins x w child parent e.rest r.leases;
        requests = g.requests_moves.begins x w child parent e.rest r.requests;
        counts = g.counts_moves.begins x w child parent e.rest r.counts (λ n. let t = e.is in let no : ⊥ = cc in no);
        draws = g.draws_moves.begins x w child parent e.rest r.draws;
        knows = g.knows_moves.begins x w child parent e.rest r.knows;
      })

  suspends : (u : View) → Suspends program source (x.view w) u → On u
  suspends u e =
      let l = g.lists_moves.suspends x r.lists w e.top e.rest e.wait in
      subst On (sym e.after) (record {
        lists = l.0;
        places = g.places_moves.suspends x r.lists w e.top e.rest e.wait l.0 r.places is e.may l.1;
        leases = g.leases_moves.suspends x w e.top e.rest e.wait r.leases;
        requests = g.requests_moves.suspends x w e.top e.rest e.wait r.requests;
        counts = g.counts_moves.suspends x w e.top e.rest e.wait r.counts e.may;
        draws = g.draws_moves.suspends x w e.top e.rest e.wait r.draws;
        knows = g.knows_moves.suspends x w e.top e.rest e.wait r.knows;
      })

  gives : (u : View) → Gives program source (x.view w) u → On u
  gives u e =
      let l = g.lists_moves.gives x r.lists w e.bottom e.above in
      subst On (sym e.after) (record {
        lists = l.0;
        places = g.places_moves.gives x r.lists w e.bottom e.above l.0 r.places is e.may l.1;
        leases = g.leases_moves.gives x w e.bottom e.above r.leases;
        requests = g.requests_moves.gives x w e.bottom e.above r.requests;
        counts = g.counts_moves.gives x w e.bottom e.above r.counts e.may;
        draws = g.draws_moves.gives x w e.bottom e.above r.draws;
        knows = g.knows_moves.gives x w e.bottom e.above r.knows;
      })

  restarts : (u : View) → Restarts program source (x.view w) u → On u
  restarts u e =
      let l = g.lists_moves.restarts x r.lists w e.chain in
      subst On (sym e.after) (record {
        lists = l.0;
        places = g.places_moves.restarts x r.lists w e.chain l.0 r.places is e.may l.1;
        leases = g.leases_moves.restarts x w e.chain r.leases;
        requests = g.requests_moves.restarts x w e.chain r.requests;
        counts = g.counts_moves.restarts x w e.chain r.counts e.may;
        draws = g.draws_moves.restarts x w e.chain r.draws;
        knows = g.knows_moves.restarts x w e.chain r.knows;
      })

  exports : (u : View) → Exports program source (x.view w) u → On u
  exports u e =
      let l = g.lists_moves.exports x r.lists w e.frame in
      subst On (sym e.after) (record {
        lists = l.0;
        places = g.places_moves.exports x r.lists w e.frame l.0 r.places l.1;
        leases = g.leases_moves.exports x w e.frame r.leases is e.may;
        requests = g.requests_moves.exports x w e.frame r.requests;
        counts = g.counts_moves.exports x w e.frame r.counts;
        draws = g.draws_moves.exports x w e.frame r.draws;
        knows = g.knows_moves.exports x w e.frame r.knows;
      })

  ground : (u : View) → OneMove program source (x.view w) u → On u
  ground u (inl e) = begins u e
  ground u (inr (inl e)) = makes u e
  ground u (inr (inr (inl e))) = forks u e
  ground u (inr (inr (inr (inl e)))) = suspends u e
  ground u (inr (inr (inr (inr (inl e))))) = gives u e
  ground u (inr (inr (inr (inr (inr (inl e)))))) = restarts u e
  ground u (inr (inr (inr (inr (inr (inr e)))))) = exports u e

  pub one_kept : (u : View) → OneMove program source (x.view w) u → OneOn m program source limits h0 h (seen w u x)
  one_kept u move =
      let told = seen_heap m g program source limits h0 h x r w is in
      let alone = single m g program source limits h0 h x r w is in
      let behind = g.move_goes program source h x w u r.threads told move in
      let on = ground u move in
      record {
        heap = behind.0;
        goes = behind.2;
        rule = record {
          lists = on.lists;
          places = on.places;
          leases = on.leases;
          requests = on.requests;
          counts = on.counts;
          draws = on.draws;
          knows = on.knows;
          threads = g.threads_moves program source h behind.0 x w u r.threads is told alone behind.1;
          names = g.names_moves program source h behind.0 x w u r.threads r.names is told behind.1;
          output = g.output_moves program source h behind.0 x w u r.threads told r.output behind.1;
          within = g.limits_moves program source limits h0 h behind.0 x w u r.threads r.within is told alone behind.1;
          walks = over m x r.walks (seen w u x) refl refl refl refl;
        };
      }

-- ---- lists of moves

twice : (f : ℕ → View) (w : ℕ) (a b : View) → put (put f w a) w b ≡ put f w b
twice f w a b = function_same (put (put f w a) w b) (put f w b) (λ j. dite (ℕ_discrete j w)
    (λ (s : j ≡ w). ap (put (put f w a) w b) s ∙ (put_here (put f w a) w b ∙ (sym (put_here f w b) ∙ ap (put f w b) (sym s))))
    (λ (n : j ≢ w). put_other (put f w a) w b j n ∙ (put_other f w a j n ∙ sym (put_other f w b j n))))

module _ (m : Meaning) (g : Groups m) (program : Program) (source : Data) (limits : Limits) (h0 : Heap) (w : ℕ) where
  abbrev RuleOf : Heap → World → Type 0
  RuleOf h x = Rule m program source limits h0 h x

  -- one step more at the front
  first_one : (h mid : Heap) (y : World) → (mid ≡ h) ⊎ ((p : Path) × HStep program source h p mid) → RunOn m program source limits h0 mid y → RunOn m program source limits h0 h y
  first_one h mid y (inl e) on = subst (λ (k : Heap). RunOn m program source limits h0 k y) e on
  first_one h mid y (inr s) on = record { heap = on.heap; steps = s.0 ∷ on.steps; run = (mid, s.1, on.run); rule = on.rule }

  all_kept : (xs : List View) (h : Heap) (x : World) (u : View) → RuleOf h x → w < x.workers → AllMoves program source (x.view w) xs u → RunOn m program source limits h0 h (seen w u x)
  all_kept [] h x u r is e =
      let same : put x.view w u ≡ x.view = ap (put x.view w) (sym e) ∙ put_id x.view w in
      record { heap = h; steps = []; run = refl; rule = subst (λ (f : ℕ → View). RuleOf h (record x { view = f })) (sym same) r }
  all_kept (y ∷ ys) h x u r is moves =
      let one = one_kept m g program source limits h0 h x r w is y moves.0 in
      let now : (seen w y x).view w ≡ y = put_here x.view w y in
      let more = all_kept ys one.heap (seen w y x) u one.rule is (subst (λ (v : View). AllMoves program source v ys u) (sym now) moves.1) in
      let on = first_one h one.heap (seen w u (seen w y x)) one.goes more in
      subst (λ (f : ℕ → View). RunOn m program source limits h0 h (record x { view = f })) (twice x.view w y u) on

module _ (m : Meaning) (g : Groups m) (program : Program) (source : Data) (limits : Limits) where
  pub moves_kept : RuleMoves m program source limits
  moves_kept h0 h x w u r is made = all_kept m g program source limits h0 w made.0 h x u r is made.1
