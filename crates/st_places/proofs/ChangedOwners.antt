-- A cell is named for a counter, or for the next child of the top thread: owner_kept.
use Rattle.std.proofs.Common.{◌≡◌, ◌≢◌, inl, inr, ⊎_elim, ℕ, ◌<◌, Bool, true, false, List, [], ◌∷◌, Some, None, refl, sym, ap, ◌∙◌, subst, arith}
use Rattle.std.specs.List.{Contains}
use mathlib.Core.Logic.{dite}
use native.Mathlib.Decide.{ℕ_discrete}
use Rattle.st_base.specs.declared.chain.Waiting.{Waiting}
use Rattle.st_base.specs.declared.chain.Waiting.TheVariants as waits
use Rattle.st_words.specs.declared.view.Known.{Known}
use Rattle.st_words.specs.declared.view.Child.{Child}
use Rattle.st_words.specs.declared.view.View.{View}
use Rattle.st_words.specs.Encodings.{is_counter}
use Rattle.st_words.specs.Steps.{IsChild}
use Rattle.st_words.specs.Careful.{Meaning, TopIs, IsNext}
use Rattle.st_words.specs.Views.{Progress, with_progress, named_cell}
use Rattle.st_words.proofs.Safe.{thread_kind, counter_kind}
use Rattle.st_world.specs.Functions.{put}
use Rattle.st_world.specs.World.{World, seen}
use Rattle.st_world.proofs.Functions.{put_here, put_other}
use Rattle.st_spots.specs.Listing.{Spot, Lists, counters}
use Rattle.st_lists.specs.Going.{Stays}
use Rattle.st_seats.specs.Placing.{Place, Gone, Named, InTurn, OnStack, Places, AreOnce, cells_of}
use Rattle.st_seats.proofs.Seats.{Of, Placed, Holds, ThreadAt, at_place, Begins}
use Rattle.st_seats.proofs.Changed.{StaysOver, One, thread_same, one_kept, one_mail, apart, cell_stays, same_kept}
use Rattle.st_places.proofs.ChangedWords.{place_gone}

top_is : (ts : List Known) (Q : Known → Type 0) → TopIs ts Q → (t : Known) × Q t
top_is [] Q h = absurd h
top_is (t ∷ ts) Q h = (t, h)

module _ (x : World) (l : Lists x) (P : Places x l) (w : ℕ) (less : w < x.workers) (pr : Progress) (spot' : ℕ → Spot) (wait' : ℕ → Waiting) (g : Stays l.spot l.wait spot' wait') (same : cells_of pr.threads ≡ cells_of (x.view w).threads) (c n : ℕ) (below : c < x.cells) (unnamed : x.owner c ≡ 0) (empty : x.state c ≡ 0) where
  abbrev u : View
  u = x.view w

  abbrev named : World
  named = record x { owner = put x.owner c n }

  abbrev named_view : Bool → View
  named_view b = with_progress pr (named_cell b c n u)

  gone : P.place c ≡ Gone
  gone = place_gone x l P c (λ t. t.named unnamed)

  other_owner : (d : ℕ) → d ≢ c → counters x.owner d ≡ counters (put x.owner c n) d
  other_owner d m = ap is_counter (sym (put_other x.owner c n d m))

  still_over : StaysOver x named
  still_over (waits.Touch e) h = dite (ℕ_discrete e c)
      (λ (s : e ≡ c). let a = ap x.state s in let b = h.1 in let no : ⊥ = omega (arith, a, b, empty) in absurd no)
      (λ (m : e ≢ c). (sym (other_owner e m) ∙ h.0, h.1))
  still_over (waits.Join e least) h = dite (ℕ_discrete e c)
      (λ (s : e ≡ c). let a = ap is_counter (ap x.owner s ∙ unnamed) in let b = h.0 in let no : ⊥ = cc in absurd no)
      (λ (m : e ≢ c). (sym (other_owner e m) ∙ h.0, h.1))
  still_over k h = h

  still_thread : (v : View) (place' : ℕ → Place) (d : ℕ) → ThreadAt x l.spot l.wait P.place d → ThreadAt (seen w v named) spot' wait' place' d
  still_thread v place' d t = thread_same x l.spot l.wait P w named v spot' wait' place' d refl (put_other x.owner c n d (λ z. t.named (ap x.owner z ∙ unnamed))) refl t

  -- a counter has no thread
  counter_kept : Placed (seen w (named_view true) named) spot' wait'
  counter_kept = same_kept x l.spot l.wait P w (put x.owner c n) x.state (named_view true) spot' wait' still_over (still_thread (named_view true) P.place) (refl, refl, refl) same (λ d. inl (g.0 d), g.1)

  abbrev place' : ℕ → Place
  place' = put P.place c (Named w)

  child_kept : is_counter n ≡ false → n ≢ 0 → u.child ≡ None → Placed (seen w (named_view false) named) spot' wait'
  child_kept kind some none =
      let V = P.views w in
      let v : View = named_view false in
      let h = at_place x l.spot l.wait P c Gone gone in
      let O : One x l.spot l.wait P w named v spot' wait' place' c = record {
        others = λ d m. cell_stays x l.spot l.wait P w (put x.owner c n) x.state v spot' wait' place' d (put_other P.place c (Named w) d m) (λ e. inl (g.0 e), g.1) (still_thread v place' d) (λ q. q) (subst (λ (ds : List ℕ). Contains ds d) (sym same)) (λ h. let e = h.1 in let no : ⊥ = cc in absurd no);
        mine = λ k o. absurd (subst (Of k) gone o);
        here = subst (Holds (seen w v named) spot' wait' place' c) (sym (put_here P.place c (Named w))) (
          h.0,
          g.0 c ∙ h.1,
          record { below = below; named = λ z. some (sym (put_here x.owner c n) ∙ z); future = ap is_counter (put_here x.owner c n) ∙ kind; unfilled = λ z. let no : ⊥ = omega (arith, empty, z) in no },
          subst (λ (y : View). IsChild y c) (sym (put_here x.view w v)) (record { cell = c; stands = false }, refl, refl),
          less,
        );
        turn = λ z m. inl (m, apart P.place c z.known.note.cell Gone (InTurn w) gone (V.turn z m).there (λ q. let no : ⊥ = cc in no));
        stack = λ d m. let k = subst (λ (ds : List ℕ). Contains ds d) same m in inl (k, apart P.place c d Gone (OnStack w) gone (V.stack d k).there (λ q. let no : ⊥ = cc in no));
        child = λ z e. inr (subst (Begins (seen w v named) spot' wait' place' w) (one_child z e) (record { there = put_here P.place c (Named w); stands = λ q. let no : ⊥ = cc in absurd no }));
        chains_once = V.chains_once;
        threads_once = subst AreOnce (sym same) V.threads_once;
        filled = λ d m. inl m;
      } in
      one_kept x l.spot l.wait P w named v spot' wait' place' refl still_over c O (λ k. one_mail x l.spot l.wait P w named v spot' wait' place' refl still_over c O (λ j z. let e = gone in let no : ⊥ = cc in no) k refl refl)
    where
      one_child : (z : Child) → Some (record { cell = c; stands = false }) ≡ Some z → record { cell = c; stands = false } ≡ z
      one_child z e = cc

  pub owner_kept : (m : Meaning) → TopIs u.threads (IsNext m u n) → Placed (seen w (with_progress pr (named_cell (is_counter n) c n u)) named) spot' wait'
  owner_kept m top =
      let t = top_is u.threads (IsNext m u n) top in
      let note = t.0.note in
      ⊎_elim
      (λ h. let is = h.0 in let kind : is_counter n ≡ false = ap is_counter h.0 ∙ thread_kind note.cell note.forks in
      subst (λ (b : Bool). Placed (seen w (named_view b) named) spot' wait') (sym kind) (child_kept kind (λ z. let no : ⊥ = omega (arith, is, z) in no) h.2))
      (λ h. subst (λ (b : Bool). Placed (seen w (named_view b) named) spot' wait') (sym (ap is_counter h.0 ∙ counter_kind note.cell note.counters)) counter_kept) t.1
