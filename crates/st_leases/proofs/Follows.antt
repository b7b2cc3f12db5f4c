-- What follows from the leases: move_laws and told_laws. careful_tends: what a careful step keeps of them.
use Rattle.std.proofs.Common.{◌≡◌, ℕ, ◌^◌, ◌<◌, length, Some, refl, sym, ap, ◌∙◌, subst, arith}
use Rattle.std.specs.List.{Contains}
use Rattle.st_base.specs.declared.chain.Frame.{Frame}
use Rattle.st_words.specs.declared.view.Slot.{Slot}
use Rattle.st_words.specs.declared.view.Cargo.{Cargo}
use Rattle.st_words.specs.declared.view.View.{View}
use Rattle.st_words.specs.Steps.{Step, SlotPut, Inside, return_place, place_of, home_of, kept, Holds, IsLeased}
use Rattle.st_words.specs.Promises.{ComesWhole}
use Rattle.st_words.specs.Careful.{Meaning, Careful}
use Rattle.st_words.specs.Moves.{MayExport, exporting}
use Rattle.st_world.specs.Functions.{put}
use Rattle.st_world.specs.World.{World, slot_of, cargo_of, seen}
use Rattle.st_holders.specs.Leasing.{Leasing}
use Rattle.st_leases.specs.Laws.{Tends, MoveLaws, ToldLaws}
use Rattle.st_holders.proofs.Held.{in_frame}
use Rattle.st_holders.proofs.Shifts.{one}
use Rattle.st_holders.proofs.Changes.{put_here, is_leased, leased_word}
use Rattle.st_holders.proofs.Chains.{comes_own, comes_within, comes_whole, comes_inside, comes_fresh, comes_home, comes_some, comes_apart}
use Rattle.st_holders.proofs.Exports.{Exports, exported}
use Rattle.st_leases.proofs.Steps.{around, quiet_world, the_same, frame_told}

-- ---- moves

exports : (x : World) (w : ℕ) (f : Frame) → Leasing x → w < x.workers → MayExport (x.view w) f → Leasing (seen w (exporting f (x.view w)) x)
exports x w f G less may =
    let u : View = x.view w in
    let v : View = exporting f u in
    let sized = G.sized w less in
    let lives = may.lives in
    exported x.workers x.each x.stack (slot_of x) (cargo_of x) x.view G w f (slot_of (seen w v x)) (cargo_of (seen w v x)) (put x.view w v)
    (around x x w v G (refl, refl, refl, λ c. (refl, refl), refl) (refl, refl, refl))
    (subst (λ (q : View). Exports (home_of x.each) w x.stack f u q) (sym (put_here x.view w v)) (record {
      some_word = may.some_word;
      own = λ p i. sym (ap (λ (k : ℕ). home_of k p) sized.stack) ∙ (may.own p i ∙ sized.number);
      holds = may.holds;
      lives = λ z. lives.2 (sym ((G.views w).held (return_place f) lives.0 lives.1).2 ∙ z);
      apart = may.apart;
      held = refl;
      exported = refl;
      away = refl;
    }))

pub move_laws : MoveLaws
move_laws = record {
  progresses = λ x w progress G. quiet_world x x w _ (the_same x) G (refl, refl, refl) (refl, refl, refl);
  suspends = λ x w t rest wait G. quiet_world x x w _ (the_same x) G (refl, refl, refl) (refl, refl, refl);
  gives = λ x w t above G. quiet_world x x w _ (the_same x) G (refl, refl, refl) (refl, refl, refl);
  restarts = λ x w carried G. quiet_world x x w _ (the_same x) G (refl, refl, refl) (refl, refl, refl);
  begins = λ x w child parent rest G. quiet_world x x w _ (the_same x) G (refl, refl, refl) (refl, refl, refl);
  exports = exports;
}

-- ---- answers

whole_in : (x : World) (w : ℕ) (z : Slot) → Leasing x → w < x.workers → ComesWhole (x.view w) (cargo_of x z)
whole_in x w z G less = let stack : (x.view w).each ≡ x.each = (G.sized w less).stack in record {
  whole = λ f p m i. comes_whole x.workers x.each x.stack (slot_of x) (cargo_of x) x.view G z f p m i;
  inside = λ p n e. comes_inside x.workers x.each x.stack (slot_of x) (cargo_of x) x.view G z p n e;
  fresh = λ p n e. comes_fresh x.workers x.each x.stack (slot_of x) (cargo_of x) x.view G z w p n e;
  one_home = λ f p m i. ap (λ (k : ℕ). home_of k p) stack ∙ (comes_home x.workers x.each x.stack (slot_of x) (cargo_of x) x.view G z f p m i ∙ sym (ap (λ (k : ℕ). home_of k (return_place f)) stack));
  some_word = λ f m. comes_some x.workers x.each x.stack (slot_of x) (cargo_of x) x.view G z f m;
  apart = λ f g p m k i j. comes_apart x.workers x.each x.stack (slot_of x) (cargo_of x) x.view G z f g p m k i j;
}

own_in : (x : World) (w : ℕ) (z : Slot) (f : Frame) → Leasing x → w < x.workers → Contains (cargo_of x z).frames f → home_of (x.view w).each (return_place f) ≡ (x.view w).number → Contains (x.view w).exported f
own_in x w z f G less m e = let sized = G.sized w less in comes_own x.workers x.each x.stack (slot_of x) (cargo_of x) x.view G z w f m (sym (ap (λ (k : ℕ). home_of k (return_place f)) sized.stack) ∙ (e ∙ sized.number))

within_in : (x : World) (w : ℕ) (z : Slot) (p n : ℕ) → Leasing x → w < x.workers → kept (cargo_of x z).words p ≡ Some n → p < length (x.view w).held
within_in x w z p n G less e = subst (λ (k : ℕ). p < k) (sym (G.sized w less).held) (comes_within x.workers x.each x.stack (slot_of x) (cargo_of x) x.view G z p n e)

away_held : (x : World) (w p : ℕ) (f : Frame) → Leasing x → Contains (x.view w).away f → Inside f p → Holds (x.view w) p
away_held x w p f G m i =
    let h = (G.views w).away f m in
    let deep = h.0 in
    let below = i.1 in
    let lw = leased_word x.workers x.each x.stack (slot_of x) (cargo_of x) x.view G (return_place f) f h.0 h.1 in
    (G.views w).all p (omega (arith, deep, below)) ((lw.all p i).1 ∙ h.2)

frame_home : (x : World) (w p : ℕ) (f : Frame) → Leasing x → w < x.workers → Contains (x.view w).exported f → Inside f p → home_of (x.view w).each p ≡ (x.view w).number
frame_home x w p f G less m i =
    let h = (G.views w).exported f m in
    let sized = G.sized w less in
    let lw = leased_word x.workers x.each x.stack (slot_of x) (cargo_of x) x.view G (return_place f) f h.0 h.1 in
    ap (λ (k : ℕ). home_of k p) sized.stack ∙ ((lw.all p i).2 ∙ (h.2 ∙ sym sized.number))

has_word : (x : World) (w : ℕ) (f : Frame) → Leasing x → IsLeased (x.view w) f → place_of f.low < place_of f.base
has_word x w f G m =
    let h = is_leased x.workers x.each x.stack (slot_of x) (cargo_of x) x.view G w f m in
    let i = (leased_word x.workers x.each x.stack (slot_of x) (cargo_of x) x.view G (return_place f) f h.0 h.1).inside in
    let a = i.0 in
    let b = i.1 in
    omega (arith, a, b)

pub told_laws : ToldLaws
told_laws = record {
  loads = λ x w p n G can e. can.1 ∙ ap Some (sym ((G.views w).held p can.0 can.1).2 ∙ sym e);
  looks = λ x w p n cargo G e. subst (λ (k : Cargo). (n ≡ 0 → (f : Frame) → Contains (x.view w).exported f → return_place f ≡ p → (q : ℕ) → Inside f q → (m : ℕ) × (kept k.words q ≡ Some m) × (m < 2 ^ 64))) (sym e.1) (frame_told x w p n G);
  whole = λ x w z chain cargo G less e. subst (λ (k : Cargo). ComesWhole (x.view w) k) (sym e.1) (whole_in x w z G less);
  own = λ x w z chain cargo f G less e m at. own_in x w z f G less (subst (λ (k : Cargo). Contains k.frames f) e.1 m) at;
  within = λ x w z chain cargo p n G less e at. within_in x w z p n G less (sym (ap (λ (k : Cargo). kept k.words p) e.1) ∙ at);
  keeps = λ x w G less. record {
    apart = record {
      some_word = λ f m. has_word x w f G m;
      apart = λ f g p m k i j. one (sym (in_frame x w p f G m i) ∙ in_frame x w p g G k j);
    };
    holds = λ f p m i. away_held x w p f G m i;
    home = λ f p m i. frame_home x w p f G less m i;
  };
}

-- ---- careful steps

pub careful_tends : (m : Meaning) (u : View) (s : Step) → Careful m u s → Tends u s
careful_tends m u (SlotPut slot chain cargo) c = c.puts.carries
careful_tends m u s c = c.writes
