-- Steps that change nothing that the places read but where numbers are: calm_kept. passes is what a number that passes leaves of its cell.
use Rattle.std.proofs.Common.{◌≡◌, ◌≢◌, inl, inr, ⊎_elim, ℕ, zero, suc, Bool, Some, None, sym, ap, ◌∙◌, subst, ◌==◌, ne_eqb}
use Rattle.std.specs.Int.{from_bool}
use mathlib.Core.Logic.{dite}
use native.Mathlib.Decide.{ℕ_discrete}
use Rattle.st_base.specs.declared.chain.Waiting.{Waiting}
use Rattle.st_words.specs.declared.view.CellWord.TheVariants.{Owner, State, Value, Next, Standing, Trap}
use Rattle.st_words.specs.declared.view.Carried.{Carried}
use Rattle.st_words.specs.declared.view.View.{View}
use Rattle.st_words.specs.Steps.{Step, CellLoad, CellStore, CellChange, StopSet, RootTake, RequestChange, SlotTake, SlotPut, Answer, Number}
use Rattle.st_words.specs.Views.{Progress, with_progress, view_after}
use Rattle.st_world.specs.Functions.{put}
use Rattle.st_world.specs.World.{World, seen, Finds, world_after}
use Rattle.st_world.proofs.Functions.{put_here, put_other}
use Rattle.st_spots.specs.Listing.{Spot, Nowhere, Rooted, Lists}
use Rattle.st_lists.specs.Going.{IsQueued, Passes, GoesRooted, Goes}
use Rattle.st_seats.specs.Placing.{Home, InTurn, Places, cells_of}
use Rattle.st_seats.proofs.MovedLists.{map_out}
use Rattle.st_seats.proofs.Seats.{Placed, at_place, some_spot, rooted_home}
use Rattle.st_seats.proofs.Changed.{NumbersStay, calm}
use Rattle.st_places.proofs.ChangedViews.{IsCalm, same_after}

module _ (x : World) (l : Lists x) (P : Places x l) (w : ℕ) where
  some_queued : (s : Spot) → IsQueued s → s ≢ Nowhere
  some_queued s q e = subst IsQueued e q

  pub passes : (spot' : ℕ → Spot) (wait' : ℕ → Waiting) → Passes l.spot l.wait spot' wait' w (x.view w) → NumbersStay P.place l.spot l.wait spot' wait'
  passes spot' wait' g = (
    λ d. ⊎_elim (λ e. inl e) (λ q. inr (
      ⊎_elim (λ h. h) (λ r.
          let own = q.2 r.0 r.2 in
          let m = (at_place x l.spot l.wait P d (InTurn w) (r.1 ∙ ap InTurn own.0)).2 in
          let z = map_out (λ (y : Carried). y.known.note.cell) (x.view w).chains d m in
          absurd (own.1 (z.0, z.1, z.2))) (some_spot x l.spot l.wait P d (some_queued (l.spot d) q.0)),
      inl (q.0, q.1),
    )) (g.0 d),
    g.1,
  )

  rooted : (n : ℕ) (spot' : ℕ → Spot) (wait' : ℕ → Waiting) → n ≡ from_bool (x.root == 1) → GoesRooted l.spot l.wait spot' wait' w n → NumbersStay P.place l.spot l.wait spot' wait'
  rooted zero spot' wait' f g = (λ d. inl (g.0 d), g.1)
  rooted (suc n) spot' wait' f g =
      let is : x.root ≡ 1 = dite (ℕ_discrete x.root 1) (λ (e : x.root ≡ 1). e) (λ (d : x.root ≢ 1). let e = f ∙ ap (λ (b : Bool). from_bool b) (ne_eqb x.root 1 d) in let no : ⊥ = cc in absurd no) in
      let at = l.rooting.untaken is in (
        λ d. dite (ℕ_discrete d 0)
            (λ (e : d ≡ 0). inr (subst (λ (k : ℕ). P.place k ≡ Home) (sym e) (rooted_home x l.spot l.wait P None 0 at), inr (None, Some w, ap l.spot e ∙ at, g.0 d ∙ (ap (put l.spot 0 (Rooted (Some w))) e ∙ put_here l.spot 0 (Rooted (Some w))))))
            (λ (n : d ≢ 0). inl (g.0 d ∙ put_other l.spot 0 (Rooted (Some w)) d n)),
        g.1,
      )

  stay_numbers : (s : Step) (a : Answer) (spot' : ℕ → Spot) (wait' : ℕ → Waiting) → IsCalm s → Finds x w s a → Goes l.spot l.wait spot' wait' w (x.view w) s a → NumbersStay P.place l.spot l.wait spot' wait'
  stay_numbers (CellLoad c Next) a spot' wait' q f g = passes spot' wait' g
  stay_numbers RootTake (Number n) spot' wait' q f g = rooted n spot' wait' f g
  stay_numbers (CellStore c Owner n) a spot' wait' q f g = absurd q
  stay_numbers (CellStore c State n) a spot' wait' q f g = absurd q
  stay_numbers (CellStore c Standing n) a spot' wait' q f g = absurd q
  stay_numbers (CellStore c Trap n) a spot' wait' q f g = absurd q
  stay_numbers (CellChange c old new) a spot' wait' q f g = absurd q
  stay_numbers (SlotTake slot) a spot' wait' q f g = absurd q
  stay_numbers (SlotPut slot chain cargo) a spot' wait' q f g = absurd q
  stay_numbers s a spot' wait' q f g = (λ d. inl (g.0 d), g.1)

  calm_world : (v : View) (s : Step) (a : Answer) (spot' : ℕ → Spot) (wait' : ℕ → Waiting) → IsCalm s → Placed (seen w v x) spot' wait' → Placed (world_after x w s a v) spot' wait'
  calm_world v (CellStore c Owner n) a spot' wait' q h = absurd q
  calm_world v (CellStore c State n) a spot' wait' q h = absurd q
  calm_world v (CellStore c Standing n) a spot' wait' q h = absurd q
  calm_world v (CellStore c Trap n) a spot' wait' q h = absurd q
  calm_world v (CellChange c old new) a spot' wait' q h = absurd q
  calm_world v (SlotTake slot) a spot' wait' q h = absurd q
  calm_world v (SlotPut slot chain cargo) a spot' wait' q h = absurd q
  calm_world v (CellStore c Value n) a spot' wait' q h = h
  calm_world v (CellStore c Next n) a spot' wait' q h = h
  calm_world v (StopSet code) (Number n) spot' wait' q h = h
  calm_world v (RequestChange at old new) (Number n) spot' wait' q h = h
  calm_world v s a spot' wait' q h = h

  pub calm_kept : (s : Step) (a : Answer) (pr : Progress) (spot' : ℕ → Spot) (wait' : ℕ → Waiting) → IsCalm s → Finds x w s a → cells_of pr.threads ≡ cells_of (x.view w).threads → Goes l.spot l.wait spot' wait' w (x.view w) s a → Placed (world_after x w s a (with_progress pr (view_after (x.view w) s a))) spot' wait'
  calm_kept s a pr spot' wait' q f threads g = calm_world (with_progress pr (view_after (x.view w) s a)) s a spot' wait' q (calm x l.spot l.wait P w (with_progress pr (view_after (x.view w) s a)) spot' wait' (same_after (x.view w) s a q) threads (stay_numbers s a spot' wait' q f g))
