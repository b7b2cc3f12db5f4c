-- The Next word of a number that leads a list is read.
use Rattle.std.proofs.Common.{◌≡◌, ◌≢◌, inl, inr, ⊎_elim, ℕ, suc, ◌<◌, Bool, true, List, [], ◌∷◌, length, Option, Some, None, refl, sym, ap, ◌∙◌, subst, arith}
use Rattle.std.specs.List.{Contains}
use Rattle.st_base.specs.declared.chain.Waiting.{Waiting}
use Rattle.st_base.specs.declared.chain.Waiting.TheVariants as waits
use Rattle.st_words.specs.declared.view.Waiter.{Waiter}
use Rattle.st_words.specs.Views.{with_next, common_wait}
use Rattle.st_world.specs.Functions.{put}
use Rattle.st_spots.specs.Listing.{Spot, Listed, Held, Behind, Among, Spells, IsList, HandHas, IsTail, EntryHolds, HandHolds, Listing, head_by, Alike}
use Rattle.st_world.proofs.Functions.{put_all}
use Rattle.st_spots.proofs.Lists.{handed, rest_of}
use Rattle.st_spots.proofs.Apart.{listed_behind, held_listed, held_behind, behind_held, behind_listed, readied_behind}
use Rattle.st_spots.proofs.Untouched.{Mine}
use Rattle.st_spots.proofs.Ranks.{ranked, ranked_here, ranked_only}
use Rattle.st_spots.proofs.Handing as handing
use Rattle.st_spots.proofs.Nexts.{led, leaves, Leads, NextWas, next_was, next_has, next_new, next_once}

pub alike_back : (a b : Waiting) → Alike a b → Alike b a
alike_back a b h e = ((h e).1, (h e).0)

pub alike_on : (a b c : Waiting) → Alike a b → Alike b c → Alike a c
alike_on a b c h k e = (λ q. (k e).0 ((h e).0 q), λ q. (h e).1 ((k e).1 q))

common_touch : (o : Option Waiting) (k : Waiting) → common_wait o ≡ Some k → (e : ℕ) × (o ≡ Some (waits.Touch e)) × (k ≡ waits.Touch e)
common_touch (Some (waits.Touch e)) k q = let t : k ≡ waits.Touch e = cc in (e, refl, t)
common_touch (Some (waits.Join e n)) k q = let no : ⊥ = cc in absurd no
common_touch (Some waits.Start) k q = let no : ⊥ = cc in absurd no
common_touch (Some waits.Ready) k q = let no : ⊥ = cc in absurd no
common_touch (Some waits.Trapped) k q = let no : ⊥ = cc in absurd no
common_touch None k q = let no : ⊥ = cc in absurd no

module _ (workers : ℕ) (spot : ℕ → Spot) (wait : ℕ → Waiting) (next : ℕ → ℕ) where
  -- an entry that leads no more
  left_entry : (spot' : ℕ → Spot) (w : ℕ) (x : Waiter) → spot' x.cell ≡ Held w → ((d k : ℕ) → spot' d ≢ Behind w x.cell k) → x.leads ≡ true → EntryHolds workers spot wait next w x → EntryHolds workers spot' wait next w (leaves x)
  left_entry spot' w x h n l o = record {
    held = h;
    tail = n;
    linked = λ k e. let r = (o.linked k e).1 in let no : ⊥ = cc in absurd no;
    told = o.told;
  }

  module _ (counter : ℕ → Bool) (state : ℕ → ℕ) (hand : ℕ → List Waiter) (ready : ℕ → List ℕ) (L : Listing workers spot wait next counter state hand ready) where
    list_behind : (w c : ℕ) (x : Waiter) → Leads (hand w) c x → IsList next spot (Behind w c) (next c)
    list_behind w c x l = subst (λ (z : ℕ). IsTail workers spot wait next w z true) l.1 (subst (λ (b : Bool). IsTail workers spot wait next w x.cell b) l.2 ((L.hands w).entries x l.0).tail)

    pub follow_none : (w c : ℕ) (x : Waiter) → Leads (hand w) c x → next c ≡ 0 → Listing workers spot wait next counter state (put hand w (with_next c 0 (hand w))) ready
    follow_none w c x l z =
        let t = list_behind w c x l in
        let none : (d k : ℕ) → spot d ≢ Behind w c k = λ d k e. none_in t.0 t.1 d (t.2 d k e) in
        let ok = L.hands w in
        record {
          lists = L.lists;
          waiting = L.waiting;
          hands = λ v. put_all (λ (u : ℕ) (h : List Waiter). HandHolds workers spot wait next u h) hand w (with_next c 0 (hand w)) v
              (λ (q : v ≡ w). subst (λ (u : ℕ). HandHolds workers spot wait next u (with_next c 0 (hand w))) (sym q) (record {
                once = next_once c 0 (hand w) (λ e s h. omega (arith, s)) ok.once;
                entries = λ y m. entry y (next_was c 0 (hand w) x y l ok.once m) none;
                has = λ d e. let h = ok.has d e in (next_has c 0 d (hand w) h.0, h.1);
              }))
              (λ (q : v ≢ w). L.hands v);
          behind = L.behind;
          readies = L.readies;
        }
      where
        none_in : (ds : List ℕ) → Spells next spot (Behind w c) (next c) ds → (d : ℕ) → Among d ds → ⊥
        none_in [] s d m = m
        none_in (f ∷ fs) s d m = let t = s.0 in omega (arith, z, t)

        entry : (y : Waiter) → NextWas c 0 (hand w) y → ((d k : ℕ) → spot d ≢ Behind w c k) → EntryHolds workers spot wait next w y
        entry y (inl r) none = (L.hands w).entries y r.0
        entry y (inr (inl r)) none =
            let o = (L.hands w).entries r.0 r.1.0 in
            subst (λ (u : Waiter). EntryHolds workers spot wait next w u) (sym r.2) (left_entry spot w r.0 o.held (subst (λ (b : ℕ). (d k : ℕ) → spot d ≢ Behind w b k) (sym r.1.1) none) r.1.2 o)
        entry y (inr (inr r)) none = let s = r.2.1 in let no : ⊥ = omega (arith, s) in absurd no

    pub follow : (w c e : ℕ) (x : Waiter) → w < workers → Leads (hand w) c x → next c ≡ suc e → (n : ℕ) × Listing workers (λ d. handed (ranked w c) n w e (spot d)) wait next counter state (put hand w (with_next c (suc e) (hand w))) ready
    follow w c e x less l z =
        let r = rest_of next spot (Behind w c) e (subst (λ (word : ℕ). IsList next spot (Behind w c) word) z (list_behind w c x l)) in
        let es : List ℕ = r.0 in
        let n : ℕ = length es in
        let at_e : spot e ≡ Behind w c n = r.1.1 in
        let ok = L.hands w in
        let at_c : spot c ≡ Held w = subst (λ (u : ℕ). spot u ≡ Held w) l.1 (ok.entries x l.0).held in
        let none : (d k : ℕ) → spot d ≢ Behind w e k = λ d k q. held_behind (sym (L.behind d w e k q).0 ∙ at_e) in
        let held : (v k : ℕ) → Behind w c k ≢ Held v = λ v k q. behind_held q in
        let e_c : e ≢ c = λ q. held_behind (sym at_c ∙ (ap spot (sym q) ∙ at_e)) in
        let spot' : ℕ → Spot = λ d. handed (ranked w c) n w e (spot d) in
        let gone : (s : Spot) (k : ℕ) → handed (ranked w c) n w e s ≢ Behind w c k = λ s k. handing.left (Behind w c) (ranked w c) (ranked_here w c) (ranked_only w c) n w e s k (λ j q. held_behind q) (λ i j q. let t : e ≡ c = cc in e_c t) in
        let no_e : (y : Waiter) → Contains (hand w) y → y.cell ≢ e = λ y m q. held_behind (sym (ok.entries y m).held ∙ (ap spot q ∙ at_e)) in
        let new : (o : Option Waiting) → ((k : Waiting) → o ≡ Some k → wait e ≡ k) → EntryHolds workers spot' wait next w (led o e) = λ o told. record {
          held = handing.head_held (Behind w c) (ranked w c) (ranked_here w c) (ranked_only w c) n w e workers spot wait next held es refl r.1 r.2 none;
          tail = handing.tail_list (Behind w c) (ranked w c) (ranked_here w c) (ranked_only w c) n w e workers spot wait next held es refl r.1 r.2 none;
          linked = λ k q. let no : ⊥ = cc in absurd no;
          told = told;
        } in
        let old : (y : Waiter) → Contains (hand w) y → y.cell ≢ c → EntryHolds workers spot' wait next w y = λ y m d. handing.old_entry (Behind w c) (ranked w c) (ranked_here w c) (ranked_only w c) n w e workers spot wait next held y (λ k j q. let t : y.cell ≡ c = cc in d t) (no_e y m) (ok.entries y m) in (
          n,
          record {
            lists = λ f. handing.other_list (Behind w c) (ranked w c) (ranked_here w c) (ranked_only w c) n w e workers spot wait next held (Listed f) (head_by (counter f) (state f)) (λ j k q. listed_behind q) (λ k q. held_listed q) (λ i k q. behind_listed q) (L.lists f);
            waiting = λ f g k q. L.waiting f g k (handing.back (Behind w c) (ranked w c) (ranked_here w c) (ranked_only w c) n w e (spot f) (Listed g k) q (λ t. held_listed t) (λ i t. behind_listed t));
            hands = λ v. put_all (λ (u : ℕ) (h : List Waiter). HandHolds workers spot' wait next u h) hand w (with_next c (suc e) (hand w)) v
                (λ (q : v ≡ w). subst (λ (u : ℕ). HandHolds workers spot' wait next u (with_next c (suc e) (hand w))) (sym q) (record {
                  once = next_once c (suc e) (hand w) (λ f s h. no_e h.0 h.1 (h.2 ∙ (let t : f ≡ e = omega (arith, s) in t))) ok.once;
                  entries = λ y m. entry spot' y (next_was c (suc e) (hand w) x y l ok.once m) old
                      (handing.keeps (Behind w c) (ranked w c) (ranked_here w c) (ranked_only w c) n w e (spot c) (Held w) at_c (λ k t. held_behind t)) (λ d k t. gone (spot d) k t) new;
                  has = λ d q. ⊎_elim
                      (λ (s : d ≡ e). (subst (λ (u : ℕ). HandHas (with_next c (suc e) (hand w)) u) (sym s) (next_new c e (hand w) x l), less))
                      (λ (s : spot d ≡ Held w). let h = ok.has d s in (next_has c (suc e) d (hand w) h.0, h.1))
                      (handing.held_case (Behind w c) (ranked w c) (ranked_here w c) (ranked_only w c) n w e workers spot wait next held es refl r.1 r.2 none d q);
                }))
                (λ (q : v ≢ w). handing.other_hand (Behind w c) (ranked w c) (ranked_here w c) (ranked_only w c) n w e workers spot wait next held v (hand v) q (λ t k m s. q (sym (subst (Mine v) s m))) (L.hands v));
            behind = handing.behind_case (Behind w c) (ranked w c) (ranked_here w c) (ranked_only w c) n w e workers spot wait next held es refl r.1 r.2 none
                (λ d f i j p q. alike_on (wait d) (wait c) (wait f) (alike_back (wait c) (wait d) (L.behind d w c i p).1) (L.behind f w c j q).1) L.behind;
            readies = λ v. handing.other_ready (Behind w c) (ranked w c) (ranked_here w c) (ranked_only w c) n w e workers spot wait next held v (ready v) (λ k q. readied_behind q) (L.readies v);
          },
        )
      where
        entry : (spot' : ℕ → Spot) (y : Waiter) → NextWas c (suc e) (hand w) y → ((y : Waiter) → Contains (hand w) y → y.cell ≢ c → EntryHolds workers spot' wait next w y) → spot' c ≡ Held w → ((d k : ℕ) → spot' d ≢ Behind w c k) → ((o : Option Waiting) → ((k : Waiting) → o ≡ Some k → wait e ≡ k) → EntryHolds workers spot' wait next w (led o e)) → EntryHolds workers spot' wait next w y
        entry spot' y (inl r) old h none new = old y r.0 r.1
        entry spot' y (inr (inl r)) old h none new =
            subst (λ (u : Waiter). EntryHolds workers spot' wait next w u) (sym r.2) (left_entry spot' w r.0 (subst (λ (u : ℕ). spot' u ≡ Held w) (sym r.1.1) h) (subst (λ (b : ℕ). (d k : ℕ) → spot' d ≢ Behind w b k) (sym r.1.1) none) r.1.2 ((L.hands w).entries r.0 r.1.0))
        entry spot' y (inr (inr r)) old h none new =
            let s = r.2.1 in
            let t : r.2.0 ≡ e = omega (arith, s) in
            let leader = r.0 in
            let o = (L.hands w).entries leader r.1.0 in
            subst (λ (u : Waiter). EntryHolds workers spot' wait next w u) (sym (r.2.2 ∙ ap (led (common_wait leader.wait)) t)) (new (common_wait leader.wait) (λ k q.
            let u = common_touch leader.wait k q in
            let a : wait c ≡ waits.Touch u.0 = subst (λ (b : ℕ). wait b ≡ waits.Touch u.0) r.1.1 (o.told (waits.Touch u.0) u.1) in
            let b = (follow_rank r.2.0) in
            b k u.0 a u.2))
          where
            follow_rank : (f : ℕ) → (k : Waiting) (i : ℕ) → wait c ≡ waits.Touch i → k ≡ waits.Touch i → wait e ≡ k
            follow_rank f k i a b =
                let q = rest_of next spot (Behind w c) e (subst (λ (word : ℕ). IsList next spot (Behind w c) word) z (list_behind w c x l)) in
                ((L.behind e w c (length q.0) q.1.1).1 i).0 a ∙ sym b
