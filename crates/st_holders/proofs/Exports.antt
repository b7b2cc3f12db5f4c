-- A frame of the worker's own stack is exported, which keeps the leases: exported.
use Rattle.std.proofs.Common.{◌≡◌, inl, inr, ⊎_elim, ℕ, ◌*◌, ◌<◌, List, ◌∷◌, Option, Some, None, refl, sym, ap, ◌∙◌, subst, arith}
use Rattle.std.specs.List.{Contains}
use Rattle.st_base.specs.declared.chain.Chain.{Chain}
use Rattle.st_base.specs.declared.chain.Frame.{Frame}
use Rattle.st_words.specs.declared.view.Slot.{Slot}
use Rattle.st_words.specs.declared.view.Cargo.{Cargo}
use Rattle.st_words.specs.declared.view.View.{View}
use Rattle.st_words.specs.Steps.{Inside, return_place, place_of, home_of, kept, IsLeased, Holds}
use Rattle.st_words.proofs.Lists.{inside_case, contains_here, contains_later, contains_case}
use Rattle.st_world.specs.Holders.{InView}
use Rattle.st_holders.specs.Leasing.{Keeping, WordHolds, ViewHolds, Leases}
use Rattle.st_holders.proofs.Shifts.{one, view_slot, view_nobody, view_other, assembled}
use Rattle.st_holders.proofs.Changes.{within, within_in, within_out, Around, around_bare, leased_word, free_word, knows}

-- the frame lies on the worker's stack; it holds all words of it, the return word isn't 0, and no other leased frame of which it knows overlaps it
pub record Exports (home : ℕ → ℕ) (w : ℕ) (word : ℕ → ℕ) (f : Frame) (v v' : View) : Type 0 where
  pub some_word : place_of f.low < place_of f.base
  pub own : (p : ℕ) → Inside f p → home p ≡ w
  pub holds : (p : ℕ) → Inside f p → Holds v p
  pub lives : word (return_place f) ≡ 0 → ⊥
  pub apart : (g : Frame) (p : ℕ) → IsLeased v g → Inside f p → Inside g p → ⊥
  pub held : v'.held ≡ v.held
  pub exported : v'.exported ≡ f ∷ v.exported
  pub away : v'.away ≡ v.away

module _ (workers each : ℕ) (word : ℕ → ℕ) (chain : Slot → Option Chain) (cargo : Slot → Cargo) (view : ℕ → View) (G : Leases workers each word chain cargo view) (w : ℕ) (f : Frame) (chain' : Slot → Option Chain) (cargo' : Slot → Cargo) (view' : ℕ → View) (a : Around workers each word chain cargo view G w chain' cargo' view') (ex : Exports (home_of each) w word f (view w) (view' w)) where
  abbrev leased : Keeping
  leased = record { holder = G.keeping.holder; frame = λ p. within f p (Some f) (G.keeping.frame p) }

  e_in : (p : ℕ) → Inside f p → leased.frame p ≡ Some f
  e_in p i = within_in f p (Some f) (G.keeping.frame p) i

  e_out : (p : ℕ) → (Inside f p → ⊥) → leased.frame p ≡ G.keeping.frame p
  e_out p n = within_out f p (Some f) (G.keeping.frame p) n

  e_held : (p : ℕ) → Inside f p → (p < workers * each) × (G.keeping.holder p ≡ InView w)
  e_held p i = let h = ex.holds p i in let t = (G.views w).held p h.0 h.1 in (t.0, t.1)

  -- a word of another leased frame isn't inside
  e_apart : (g : Frame) (p : ℕ) → p < workers * each → G.keeping.frame p ≡ Some g → Inside f p → ⊥
  e_apart g p l e i = ex.apart g p (knows workers each word chain cargo view G w p g l e (e_held p i).1) i (leased_word workers each word chain cargo view G p g l e).inside

  f_return : Inside f (return_place f)
  f_return = let s = ex.some_word in (omega (arith, s), omega (arith, s))

  e_word : (q : ℕ) (o : Option Frame) → q < workers * each → G.keeping.frame q ≡ o → (Inside f q → ⊥) → WordHolds (workers * each) each word leased q o
  e_word q None l e n = free_word workers each word chain cargo view G q l e
  e_word q (Some g) l e n = let lw = leased_word workers each word chain cargo view G q g l e in let d = lw.deep in record {
    inside = lw.inside;
    deep = lw.deep;
    all = λ r j. let h = lw.all r j in let below = j.1 in (e_out r (e_apart g r (omega (arith, d, below)) h.0) ∙ h.0, h.1, h.2);
    given = lw.given;
    gave = lw.gave;
  }

  e_words : (q : ℕ) → q < workers * each → WordHolds (workers * each) each word leased q (leased.frame q)
  e_words q l = ⊎_elim
      (λ (i : Inside f q). subst (WordHolds (workers * each) each word leased q) (sym (e_in q i)) (record {
        inside = i;
        deep = (e_held (return_place f) f_return).0;
        all = λ r j. (e_in r j, (e_held r j).1 ∙ sym (e_held q i).1, ex.own r j ∙ sym (ex.own q i));
        given = λ z. absurd (ex.lives z);
        gave = λ z. absurd (view_nobody w (sym (e_held q i).1 ∙ z));
      }))
      (λ (n : Inside f q → ⊥). subst (WordHolds (workers * each) each word leased q) (sym (e_out q n)) (e_word q (G.keeping.frame q) l refl n)) (inside_case f q)

  e_view : ViewHolds (workers * each) each word leased w (view' w)
  e_view = let ok = G.views w in record {
    held = λ p n e. ok.held p n (sym (ap (λ (x : List (Option ℕ)). kept x p) ex.held) ∙ e);
    all = λ p l e. let h = ok.all p l e in (h.0, ap (λ (x : List (Option ℕ)). kept x p) ex.held ∙ h.1);
    exported = λ g m. ⊎_elim
        (λ (s : f ≡ g). subst (λ (g : Frame). (return_place g < workers * each) × (leased.frame (return_place g) ≡ Some g) × (home_of each (return_place g) ≡ w)) s ((e_held (return_place f) f_return).0, e_in (return_place f) f_return, ex.own (return_place f) f_return))
        (λ (k : Contains (view w).exported g). let h = ok.exported g k in (h.0, e_out (return_place g) (e_apart g (return_place g) h.0 h.1) ∙ h.1, h.2))
        (contains_case g f (view w).exported (subst (λ (fs : List Frame). Contains fs g) ex.exported m));
    exports = λ g p l e s. subst (λ (fs : List Frame). Contains fs g) (sym ex.exported) (⊎_elim
        (λ (i : Inside f p). subst (λ (g : Frame). Contains (f ∷ (view w).exported) g) (one (sym (e_in p i) ∙ e)) (contains_here f (view w).exported))
        (λ (n : Inside f p → ⊥). contains_later g f (view w).exported (ok.exports g p l (sym (e_out p n) ∙ e) s)) (inside_case f p));
    away = λ g m. let h = ok.away g (subst (λ (fs : List Frame). Contains fs g) ex.away m) in (h.0, e_out (return_place g) (e_apart g (return_place g) h.0 h.1) ∙ h.1, h.2, h.3);
    aways = λ g p l e s far. subst (λ (fs : List Frame). Contains fs g) (sym ex.away) (ok.aways g p l (sym (e_out p (λ i. far (ex.own p i))) ∙ e) s far);
  }

  pub exported : Leases workers each word chain' cargo' view'
  exported = assembled workers each word chain cargo view G word chain' cargo' view' w (InView w) (InView w) leased (record {
    shift = record {
      places = λ p l. ⊎_elim (λ (i : Inside f p). let h = (e_held p i).1 in inr (h, h)) (λ (n : Inside f p → ⊥). inl (refl, refl, e_out p n)) (inside_case f p);
      frames = λ p l far. e_out p (λ i. far (ex.own p i));
    };
    apart = λ u d. (view_other u w d, view_other u w d);
    small = G.small;
    words = e_words;
    own = e_view;
    others = a.others;
    slots = λ z. inl (λ e. view_slot w z (sym e), λ e. view_slot w z (sym e), a.same z);
    bare = around_bare workers each word chain cargo view G w chain' cargo' view' a;
    sized = a.sized;
  })
