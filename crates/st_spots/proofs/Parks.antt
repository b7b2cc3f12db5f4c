-- A number leaves the hand and heads a list.
use Rattle.std.proofs.Common.{◌≡◌, ◌≢◌, ⊎_elim, ℕ, suc, Bool, false, not, List, length, Some, refl, sym, ap, ◌∙◌, subst, ◌==◌}
use Rattle.std.specs.List.{Contains}
use Rattle.st_base.specs.declared.chain.Waiting.{Waiting}
use Rattle.st_words.specs.declared.view.Waiter.{Waiter}
use Rattle.st_words.specs.Views.{without_waiter}
use Rattle.st_world.specs.Functions.{put}
use Rattle.st_spots.specs.Listing.{Spot, Listed, Held, Behind, IsList, IsTail, EntryHolds, HandHolds, Listing, head_by, IsOpen, Alike}
use Rattle.st_world.proofs.Functions.{put_other, put_case, put_keeps, put_was, put_all}
use Rattle.st_spots.proofs.Lists.{list_cons}
use Rattle.st_spots.proofs.Apart.{listed_held, listed_behind, listed_readied, held_listed, held_behind, held_readied}
use Rattle.st_spots.proofs.Untouched.{Mine, once_filter, hand_without, hand_was, entry_stays, hand_stays, untouched_put, list_put, ready_put}

-- a number in the hand that leads nothing goes out of the hand
pub hand_out : (workers : ℕ) (spot : ℕ → Spot) (wait : ℕ → Waiting) (next : ℕ → ℕ) (w d : ℕ) (s : Spot) (hand : List Waiter) → spot d ≡ Held w → ((v : ℕ) → s ≢ Held v) → ((v m k : ℕ) → s ≢ Behind v m k) → HandHolds workers spot wait next w hand → HandHolds workers (put spot d s) wait next w (without_waiter d hand)
hand_out workers spot wait next w d s hand e a b ok = record {
  once = once_filter (λ (y : Waiter). not (y.cell == d)) hand ok.once;
  entries = λ y m.
      let r = hand_was d hand y m in
      let o = ok.entries y r.0 in
      entry_stays workers spot (put spot d s) wait next next w y (put_other spot d s y.cell r.1 ∙ o.held) refl (λ f k q. (put_keeps spot d s f (Behind w y.cell k) q (λ z. held_behind (sym e ∙ z)), refl)) (λ f k q. put_was spot d s f (Behind w y.cell k) q (b w y.cell k)) o;
  has = λ f q. ⊎_elim (λ (z : (f ≡ d) × (s ≡ Held w)). absurd (a w z.1)) (λ (z : (f ≢ d) × (spot f ≡ Held w)). let h = ok.has f z.1 in (hand_without d f hand z.0 h.0, h.1)) (put_case spot d s f (Held w) q);
}

-- nothing is behind an entry that doesn't lead
pub none_behind : (workers : ℕ) (spot : ℕ → Spot) (wait : ℕ → Waiting) (next : ℕ → ℕ) (w d : ℕ) (x : Waiter) → EntryHolds workers spot wait next w x → x.cell ≡ d → x.leads ≡ false → (e k : ℕ) → spot e ≢ Behind w d k
none_behind workers spot wait next w d x ok c l = subst (λ (z : ℕ). IsTail workers spot wait next w z false) c (subst (λ (b : Bool). IsTail workers spot wait next w x.cell b) l ok.tail)

-- who is behind whom, where a number without a tail goes out of the hand
pub behind_out : (spot : ℕ → Spot) (wait : ℕ → Waiting) (w d : ℕ) (s : Spot) → spot d ≡ Held w → ((v m k : ℕ) → s ≢ Behind v m k) → ((e k : ℕ) → spot e ≢ Behind w d k) → ((f v m k : ℕ) → spot f ≡ Behind v m k → (spot m ≡ Held v) × Alike (wait m) (wait f)) → (f v m k : ℕ) → put spot d s f ≡ Behind v m k → (put spot d s m ≡ Held v) × Alike (wait m) (wait f)
behind_out spot wait w d s e b none behind f v m k q =
    let was : spot f ≡ Behind v m k = put_was spot d s f (Behind v m k) q (b v m k) in
    let r = behind f v m k was in
    let other : m ≢ d = λ (z : m ≡ d).
    let h : Held w ≡ Held v = sym e ∙ (ap spot (sym z) ∙ r.0) in
    let u : w ≡ v = cc in
    none f k (subst (λ (y : ℕ). spot f ≡ Behind w y k) z (subst (λ (y : ℕ). spot f ≡ Behind y m k) (sym u) was)) in
    (put_other spot d s m other ∙ r.0, r.1)

module _ (workers : ℕ) (spot : ℕ → Spot) (wait : ℕ → Waiting) (next : ℕ → ℕ) (counter : ℕ → Bool) (state : ℕ → ℕ) (hand : ℕ → List Waiter) (ready : ℕ → List ℕ) (L : Listing workers spot wait next counter state hand ready) where
  pub park : (w c d new : ℕ) (x : Waiter) → Contains (hand w) x → x.cell ≡ d → x.next ≡ Some (head_by (counter c) (state c)) → head_by (counter c) new ≡ suc d → IsOpen (counter c) new c (wait d) → ((k : Waiting) → IsOpen (counter c) (state c) c k → IsOpen (counter c) new c k) →
      Listing workers (put spot d (Listed c (length (L.lists c).0))) wait next counter (put state c new) (put hand w (without_waiter d (hand w))) ready
  park w c d new x m cell lk head isopen opens =
      let n : ℕ = length (L.lists c).0 in
      let s : Spot = Listed c n in
      let ok = L.hands w in
      let o = ok.entries x m in
      let e : spot d ≡ Held w = subst (λ (z : ℕ). spot z ≡ Held w) cell o.held in
      let l = o.linked (head_by (counter c) (state c)) lk in
      let linked : next d ≡ head_by (counter c) (state c) = subst (λ (z : ℕ). next z ≡ head_by (counter c) (state c)) cell l.0 in
      let none : (f k : ℕ) → spot f ≢ Behind w d k = none_behind workers spot wait next w d x o cell l.1 in
      record {
        lists = λ f. put_all (λ (g : ℕ) (z : ℕ). IsList next (put spot d s) (Listed g) (head_by (counter g) z)) state c new f
            (λ (q : f ≡ c). subst (λ (g : ℕ). IsList next (put spot d s) (Listed g) (head_by (counter g) new)) (sym q)
            (subst (λ (word : ℕ). IsList next (put spot d s) (Listed c) word) (sym head) (list_cons next spot (Listed c) (head_by (counter c) (state c)) d (L.lists c) (λ k z. held_listed (sym e ∙ z)) linked)))
            (λ (q : f ≢ c). list_put workers spot wait next d s (Listed f) (head_by (counter f) (state f)) (λ k z. held_listed (sym e ∙ z)) (λ k z. let t : c ≡ f = cc in q (sym t)) (L.lists f));
        waiting = λ f g k q. put_all (λ (h : ℕ) (z : ℕ). h ≡ g → IsOpen (counter h) z h (wait f)) state c new g
            (λ (t : g ≡ c) r. subst (λ (h : ℕ). IsOpen (counter h) new h (wait f)) (sym t) (⊎_elim
            (λ (z : (f ≡ d) × (s ≡ Listed g k)). subst (λ (h : ℕ). IsOpen (counter c) new c (wait h)) (sym z.0) isopen)
            (λ (z : (f ≢ d) × (spot f ≡ Listed g k)). opens (wait f) (subst (λ (h : ℕ). IsOpen (counter h) (state h) h (wait f)) t (L.waiting f g k z.1))) (put_case spot d s f (Listed g k) q)))
            (λ (t : g ≢ c) r. L.waiting f g k (put_was spot d s f (Listed g k) q (λ z. let u : c ≡ g = cc in t (sym u)))) refl;
        hands = λ v. put_all (λ (u : ℕ) (h : List Waiter). HandHolds workers (put spot d s) wait next u h) hand w (without_waiter d (hand w)) v
            (λ (q : v ≡ w). subst (λ (u : ℕ). HandHolds workers (put spot d s) wait next u (without_waiter d (hand w))) (sym q) (hand_out workers spot wait next w d s (hand w) e (λ u z. listed_held z) (λ u b k z. listed_behind z) ok))
            (λ (q : v ≢ w). hand_stays workers spot (put spot d s) wait next next v (hand v) (untouched_put workers spot wait next d s v (λ z. q (sym (subst (Mine v) e z))) (λ z. z)) (L.hands v));
        behind = behind_out spot wait w d s e (λ v b k z. listed_behind z) none L.behind;
        readies = λ v. ready_put workers spot wait next d s v (ready v) (λ z. held_readied (sym e ∙ z)) (λ z. listed_readied z) (L.readies v);
      }
