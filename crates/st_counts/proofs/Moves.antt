-- What a worker does between its steps keeps the count: move_laws.
use Rattle.std.proofs.Common.{◌≡◌, ◌≢◌, ℕ, ◌≤◌, true, List, [], refl, sym, ap, ◌∙◌, arith}
use Rattle.st_words.specs.declared.view.Known.{Known}
use Rattle.st_words.specs.declared.view.Carried.{Carried}
use Rattle.st_words.specs.declared.view.View.{View}
use Rattle.st_words.specs.Steps.{some_thread, taken_share}
use Rattle.st_words.specs.Moves.{suspending, giving, restarting, beginning, exporting, MayRestart}
use Rattle.st_words.specs.Shares.{Covered}
use Rattle.st_world.specs.World.{World, seen}
use Rattle.st_counts.specs.Counting.{Counts}
use Rattle.st_counts.specs.Laws.{NoneBegun, MoveLaws}
use Rattle.st_counts.proofs.Sums.{some_thread_there, chain_out}
use Rattle.st_counts.proofs.Changes.{SameNumbers, stays}
use Rattle.st_counts.proofs.ViewsAfter.{SameParts}

-- the share stays, and covers what the worker has then
pub world_stays : (x : World) (w : ℕ) (v : View) → Counts x → SameNumbers (x.view w) v → v.share ≡ (x.view w).share → Covered v → (v.inactive ≡ true → x.active ≡ 0) → Counts (seen w v x)
world_stays x w v C s e covered own = stays x.workers x.cells x.active x.home x.home_cargo x.post x.post_cargo x.view C w v s e covered own

pub covered_still : (u v : View) → Covered u → SameParts u v → NoneBegun u v.threads → Covered v
covered_still u v r p n =
    let e = p.0.0 in
    let k = p.0.1 in
    let l = r.covers in
    record { covers = omega (arith, e, k, l, n); holds = λ d. let one = r.holds (p.1 d) in omega (arith, e, one) }

-- all that is read stays, but for threads that go
pub quiet_view : (x : World) (w : ℕ) (v : View) → Counts x → SameNumbers (x.view w) v → SameParts (x.view w) v → NoneBegun (x.view w) v.threads → Counts (seen w v x)
quiet_view x w v C s p n = world_stays x w v C s p.0.0 (covered_still (x.view w) v (C.covered w) p n) (λ i. C.inactive w (sym p.0.2 ∙ i))

-- the hand stays
moved : (x : World) (w : ℕ) (v : View) → Counts x → SameNumbers (x.view w) v → v.share ≡ (x.view w).share → v.hand ≡ (x.view w).hand → v.inactive ≡ (x.view w).inactive → taken_share v ≤ (x.view w).share → Counts (seen w v x)
moved x w v C s e h i l = world_stays x w v C s e
    (record { covers = omega (arith, e, l); holds = λ d. let one = (C.covered w).holds (λ z. d (h ∙ z)) in omega (arith, e, one) })
    (λ z. C.inactive w (sym i ∙ z))

restarted : (x : World) (w : ℕ) (carried : Carried) → Counts x → MayRestart (x.view w) carried → Counts (seen w (restarting carried (x.view w)) x)
restarted x w carried C may =
    let u : View = x.view w in
    let l = (C.covered w).covers in
    let none : some_thread u.threads ≡ 0 = ap some_thread may.none in
    let out = chain_out carried.known.note.cell u.chains carried may.carried refl in
    moved x w (restarting carried u) C (refl, refl) refl refl refl (omega (arith, l, none, out))

begun : (x : World) (w : ℕ) (child parent : Known) (rest : List Known) → Counts x → (x.view w).threads ≢ [] → Counts (seen w (beginning child parent rest (x.view w)) x)
begun x w child parent rest C some =
    let u : View = x.view w in
    let l = (C.covered w).covers in
    let one = some_thread_there u.threads some in
    moved x w (beginning child parent rest u) C (refl, refl) refl refl refl (omega (arith, l, one))

pub move_laws : MoveLaws
move_laws = record {
  progresses = λ x w progress C n. quiet_view x w _ C (refl, refl) ((refl, refl, refl), λ d. d) n;
  suspends = λ x w t rest wait C may. moved x w (suspending t rest wait (x.view w)) C (refl, refl) refl refl refl may.covers;
  gives = λ x w t above C may. moved x w (giving t above (x.view w)) C (refl, refl) refl refl refl may.covers;
  restarts = restarted;
  begins = begun;
  exports = λ x w f C. moved x w (exporting f (x.view w)) C (refl, refl) refl refl refl (C.covered w).covers;
}
