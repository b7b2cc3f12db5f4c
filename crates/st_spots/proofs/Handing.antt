-- A list is handed out: its head becomes an entry of a hand, and the others are behind it. What that leaves of lists, hands and ready numbers.
use Rattle.std.proofs.Common.{◌≡◌, ◌≢◌, ◌⊎◌, inl, inr, ⊎_elim, ℕ, suc, ◌≤◌, ◌<◌, List, [], ◌∷◌, length, Option, Some, refl, sym, ap, ◌∙◌, subst, arith}
use Rattle.st_base.specs.declared.chain.Waiting.{Waiting}
use Rattle.st_words.specs.declared.view.Waiter.{Waiter}
use Rattle.st_spots.specs.Listing.{Spot, Held, Behind, Readied, Among, Spells, IsList, EntryHolds, HandHolds, ReadyHolds, Alike}
use Rattle.st_spots.proofs.Lists.{list_same, spells_same, handed, was, at_one, at_tail, at_head}
use Rattle.st_spots.proofs.Apart.{held_behind, held_readied, behind_held, behind_readied}
use Rattle.st_spots.proofs.Untouched.{Mine, entry_stays, hand_stays}

-- each number of a list has its rank
pub among_rank : (next : ℕ → ℕ) (spot at : ℕ → Spot) (word : ℕ) (ds : List ℕ) (d : ℕ) → Spells next spot at word ds → Among d ds → (k : ℕ) × (k < length ds) × (spot d ≡ at k)
among_rank next spot at word [] d h m = absurd m
among_rank next spot at word (e ∷ es) d h (inl q) = let l : length es < suc (length es) = omega arith in (length es, l, subst (λ (z : ℕ). spot z ≡ at (length es)) q h.1)
among_rank next spot at word (e ∷ es) d h (inr m) = let r = among_rank next spot at (next e) es d h.2 m in let less = r.1 in let l : r.0 < suc (length es) = omega (arith, less) in (r.0, l, r.2)

module _ (at : ℕ → Spot) (rank : Spot → Option ℕ) (here : (k : ℕ) → rank (at k) ≡ Some k) (only : (s : Spot) (k : ℕ) → rank s ≡ Some k → s ≡ at k) (n w x : ℕ) where
  abbrev out : Spot → Spot
  out s = handed rank n w x s

  pub keeps : (s t : Spot) → s ≡ t → ((k : ℕ) → t ≢ at k) → handed rank n w x s ≡ t
  keeps s t e d = ⊎_elim (λ h. absurd (d n (sym e ∙ h.0))) (λ r. ⊎_elim (λ h. absurd (d h.0 (sym e ∙ h.1))) (λ h. h.1 ∙ e) r) (was at rank here only n w x s)

  pub back : (s t : Spot) → handed rank n w x s ≡ t → Held w ≢ t → ((k : ℕ) → Behind w x k ≢ t) → s ≡ t
  back s t e a b = ⊎_elim (λ h. absurd (a (sym h.1 ∙ e))) (λ r. ⊎_elim (λ h. absurd (b h.0 (sym h.3 ∙ e))) (λ h. sym h.1 ∙ e) r) (was at rank here only n w x s)

  -- no number of the list is at one of these spots any more
  pub left : (s : Spot) (k : ℕ) → ((j : ℕ) → Held w ≢ at j) → ((i j : ℕ) → Behind w x i ≢ at j) → handed rank n w x s ≢ at k
  left s k a b e = ⊎_elim (λ h. a k (sym h.1 ∙ e)) (λ r. ⊎_elim (λ h. b h.0 k (sym h.3 ∙ e)) (λ h. h.0 k (sym h.1 ∙ e)) r) (was at rank here only n w x s)

  module _ (workers : ℕ) (spot : ℕ → Spot) (wait : ℕ → Waiting) (next : ℕ → ℕ) (atheld : (v k : ℕ) → at k ≢ Held v) where
    pub other_list : (at' : ℕ → Spot) (word : ℕ) → ((j k : ℕ) → at' j ≢ at k) → ((k : ℕ) → Held w ≢ at' k) → ((i k : ℕ) → Behind w x i ≢ at' k) → IsList next spot at' word → IsList next (λ d. handed rank n w x (spot d)) at' word
    other_list at' word a b c l = list_same next next spot (λ d. handed rank n w x (spot d)) at' word (λ d k e. (keeps (spot d) (at' k) e (a k), refl)) (λ d k e. back (spot d) (at' k) e (b k) (λ i. c i k)) l

    pub other_hand : (v : ℕ) (h : List Waiter) → v ≢ w → ((t : Spot) (k : ℕ) → Mine v t → t ≢ at k) → HandHolds workers spot wait next v h → HandHolds workers (λ d. handed rank n w x (spot d)) wait next v h
    other_hand v h d a ok = hand_stays workers spot (λ d. handed rank n w x (spot d)) wait next next v h (record {
      stays = λ e t m q. (keeps (spot e) t q (λ k. a t k m), refl);
      back = λ e t m q. back (spot e) t q (λ z. d (sym (subst (Mine v) (sym z) m))) (λ k z. d (sym (subst (Mine v) (sym z) m)));
    }) ok

    pub other_ready : (v : ℕ) (r : List ℕ) → ((k : ℕ) → Readied v ≢ at k) → ReadyHolds workers spot wait next v r → ReadyHolds workers (λ d. handed rank n w x (spot d)) wait next v r
    other_ready v r a ok = record {
      of = λ c m. keeps (spot c) (Readied v) (ok.of c m) a;
      has = λ c e. ok.has c (back (spot c) (Readied v) e (λ z. held_readied z) (λ k z. behind_readied z));
    }

    -- an entry that was in the hand, and isn't the one that led the list
    pub old_entry : (y : Waiter) → ((k j : ℕ) → Behind w y.cell k ≢ at j) → y.cell ≢ x → EntryHolds workers spot wait next w y → EntryHolds workers (λ d. handed rank n w x (spot d)) wait next w y
    old_entry y a b o = entry_stays workers spot (λ d. handed rank n w x (spot d)) wait next next w y (keeps (spot y.cell) (Held w) o.held (λ k z. atheld w k (sym z))) refl
        (λ d k e. (keeps (spot d) (Behind w y.cell k) e (a k), refl))
        (λ d k e. back (spot d) (Behind w y.cell k) e (λ z. held_behind z) (λ i z. let t : x ≡ y.cell = cc in b (sym t))) o

    -- the list behind its head
    module _ (es : List ℕ) (size : length es ≡ n) (h : Spells next spot at (suc x) (x ∷ es)) (among : (d k : ℕ) → spot d ≡ at k → Among d (x ∷ es)) (none : (d k : ℕ) → spot d ≢ Behind w x k) where
      pub head_held : handed rank n w x (spot x) ≡ Held w
      head_held = at_head at rank here only n w x (spot x) (h.1 ∙ ap at size)

      tail_case : (d : ℕ) → handed rank n w x (spot d) ≢ Held w → (k : ℕ) → spot d ≡ at k → k ≢ n → Among d (x ∷ es) → Among d es
      tail_case d q k e m (inl s) = absurd (m (at_one at rank here only n w x k n (sym e ∙ (ap spot (sym s) ∙ (h.1 ∙ ap at size)))))
      tail_case d q k e m (inr r) = r

      pub tail_list : IsList next (λ d. handed rank n w x (spot d)) (Behind w x) (next x)
      tail_list =
          let l : length es ≤ length es = omega arith in (
            es,
            spells_same next next spot (λ d. handed rank n w x (spot d)) at (Behind w x) (next x) es (length es) l (λ d k less e. (at_tail at rank here only n w x (spot d) k e (λ z. let s = size in omega (arith, less, z, s)), refl)) h.2,
            λ d k e. ⊎_elim (λ z. absurd (held_behind (sym z.1 ∙ e))) (λ r. ⊎_elim
                (λ z. tail_case d (λ q. behind_held (sym e ∙ q)) z.0 z.1 z.2 (among d z.0 z.1))
                (λ z. absurd (none d k (sym z.1 ∙ e))) r) (was at rank here only n w x (spot d)),
          )

      head_is : (d : ℕ) → spot d ≡ at n → Among d (x ∷ es) → d ≡ x
      head_is d e (inl s) = sym s
      head_is d e (inr m) =
          let r = among_rank next spot at (next x) es d h.2 m in
          let q : r.0 ≡ n = at_one at rank here only n w x r.0 n (sym r.2 ∙ e) in
          let less = r.1 in
          let no : ⊥ = omega (arith, less, q, size) in absurd no

      -- who is in the hand
      pub held_case : (d : ℕ) → handed rank n w x (spot d) ≡ Held w → (d ≡ x) ⊎ (spot d ≡ Held w)
      held_case d e = ⊎_elim (λ z. inl (head_is d z.0 (among d n z.0))) (λ r. ⊎_elim (λ z. absurd (behind_held (sym z.3 ∙ e))) (λ z. inr (sym z.1 ∙ e)) r) (was at rank here only n w x (spot d))

      -- who is behind whom
      pub behind_case : ((d d' k k' : ℕ) → spot d ≡ at k → spot d' ≡ at k' → Alike (wait d) (wait d')) → ((f v m k : ℕ) → spot f ≡ Behind v m k → (spot m ≡ Held v) × Alike (wait m) (wait f)) → (f v m k : ℕ) → handed rank n w x (spot f) ≡ Behind v m k → (handed rank n w x (spot m) ≡ Held v) × Alike (wait m) (wait f)
      behind_case alike behind f v m k e = ⊎_elim (λ z. absurd (held_behind (sym z.1 ∙ e))) (λ r. ⊎_elim
          (λ z. let q : Behind w x z.0 ≡ Behind v m k = sym z.3 ∙ e in let a : w ≡ v = cc in let b : x ≡ m = cc in
          (subst (λ (y : ℕ). handed rank n w x (spot y) ≡ Held v) b (head_held ∙ ap Held a), subst (λ (y : ℕ). Alike (wait y) (wait f)) b (alike x f (length es) z.0 h.1 z.1)))
          (λ z. let q = behind f v m k (sym z.1 ∙ e) in (keeps (spot m) (Held v) q.0 (λ j y. atheld v j (sym y)), q.1)) r) (was at rank here only n w x (spot f))
