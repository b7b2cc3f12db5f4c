-- One number goes into a hand, is linked, becomes ready, or goes out with its chain; what a chain waits for is seen.
use Rattle.std.proofs.Common.{◌≡◌, ◌≢◌, ⊎_elim, ℕ, ◌<◌, Bool, true, false, cond, not, List, [], ◌∷◌, map, Option, Some, None, refl, sym, ap, ◌∙◌, subst, eq-eqb, ◌==◌}
use Rattle.std.specs.List.{Contains}
use Rattle.st_base.specs.declared.chain.Waiting.{Waiting}
use Rattle.st_words.specs.declared.view.Waiter.{Waiter}
use Rattle.st_words.specs.Views.{linked, seen_waiting, without_waiter, without_number}
use Rattle.st_words.proofs.Lists.{contains_here, contains_later, contains_case, contains_none, filter_in, filter_out, other_true, other_false, same_true}
use Rattle.st_world.specs.Functions.{put}
use Rattle.st_spots.specs.Listing.{Spot, Nowhere, Listed, Held, Behind, Readied, Rooted, HandHas, Once, IsTail, EntryHolds, HandHolds, ReadyHolds, Listing, head_by, IsOpen, Alike}
use Rattle.st_world.proofs.Functions.{put_here, put_other, put_case, put_keeps, put_was, put_all}
use Rattle.st_spots.proofs.Lists.{list_same}
use Rattle.st_spots.proofs.Apart.{held_listed, held_behind, held_readied, readied_listed, readied_held, readied_behind, nowhere_listed, nowhere_held, nowhere_behind, nowhere_readied, rooted_listed, rooted_held, rooted_readied}
use Rattle.st_spots.proofs.Untouched.{Mine, Untouched, entry_stays, hand_stays, untouched_put, list_put, ready_put}
use Rattle.st_spots.proofs.Parks.{hand_out, none_behind, behind_out}

-- ---- entries that are made anew, each with its cell

pub map_out : (f : Waiter → Waiter) (xs : List Waiter) (y : Waiter) → Contains (map f xs) y → (x : Waiter) × Contains xs x × (f x ≡ y)
map_out f [] y m = absurd (contains_none y m)
map_out f (x ∷ xs) y m = ⊎_elim (λ (s : f x ≡ y). (x, contains_here x xs, s)) (λ q. let r = map_out f xs y q in (r.0, contains_later r.0 x xs r.1, r.2)) (contains_case y (f x) (map f xs) m)

map_has : (f : Waiter → Waiter) (xs : List Waiter) (d : ℕ) → ((x : Waiter) → (f x).cell ≡ x.cell) → HandHas xs d → HandHas (map f xs) d
map_has f [] d c h = absurd (contains_none h.0 h.1)
map_has f (x ∷ xs) d c h = ⊎_elim
    (λ (s : x ≡ h.0). (f x, contains_here (f x) (map f xs), c x ∙ (ap (λ (y : Waiter). y.cell) s ∙ h.2)))
    (λ q. let r = map_has f xs d c (h.0, q, h.2) in (r.0, contains_later r.0 (f x) (map f xs) r.1, r.2)) (contains_case h.0 x xs h.1)

map_once : (f : Waiter → Waiter) (xs : List Waiter) → ((x : Waiter) → (f x).cell ≡ x.cell) → Once xs → Once (map f xs)
map_once f [] c o = o
map_once f (x ∷ xs) c o = (λ h. let r = map_out f xs h.0 h.1 in o.0 (r.0, r.1, sym (c r.0) ∙ (ap (λ (y : Waiter). y.cell) r.2 ∙ (h.2 ∙ c x))), map_once f xs c o.1)

pub hand_map : (workers : ℕ) (spot spot' : ℕ → Spot) (wait : ℕ → Waiting) (next next' : ℕ → ℕ) (w : ℕ) (f : Waiter → Waiter) (hand : List Waiter) → ((x : Waiter) → (f x).cell ≡ x.cell) → ((x : Waiter) → Contains hand x → EntryHolds workers spot' wait next' w (f x)) → ((d : ℕ) → spot' d ≡ Held w → spot d ≡ Held w) → HandHolds workers spot wait next w hand → HandHolds workers spot' wait next' w (map f hand)
hand_map workers spot spot' wait next next' w f hand c e back ok = record {
  once = map_once f hand c ok.once;
  entries = λ y m. let r = map_out f hand y m in subst (λ (z : Waiter). EntryHolds workers spot' wait next' w z) r.2 (e r.0 r.1);
  has = λ d q. let h = ok.has d (back d q) in (map_has f hand d c h.0, h.1);
}

-- ---- a Next word is stored

pub set_next : (workers : ℕ) (spot : ℕ → Spot) (wait : ℕ → Waiting) (next : ℕ → ℕ) (counter : ℕ → Bool) (state : ℕ → ℕ) (hand : ℕ → List Waiter) (ready : ℕ → List ℕ) (L : Listing workers spot wait next counter state hand ready) (w c n : ℕ) → HandHas (hand w) c → ((x : Waiter) → Contains (hand w) x → x.cell ≡ c → x.leads ≡ false) →
    Listing workers spot wait (put next c n) counter state (put hand w (linked c n (hand w))) ready
set_next workers spot wait next counter state hand ready L w c n has none =
    let e : spot c ≡ Held w = subst (λ (z : ℕ). spot z ≡ Held w) has.2 ((L.hands w).entries has.0 has.1).held in
    let other : (d : ℕ) (s : Spot) → spot d ≡ s → Held w ≢ s → put next c n d ≡ next d = λ d s q a. put_other next c n d (λ (z : d ≡ c). a (sym e ∙ (ap spot (sym z) ∙ q))) in
    let untouched : (v : ℕ) → v ≢ w → Untouched workers spot spot wait next (put next c n) v = λ v d. record { stays = λ f s m q. (q, other f s q (λ z. d (sym (subst (Mine v) (sym z) m)))); back = λ f s m q. q } in
    let entry : (x : Waiter) → Contains (hand w) x → (b : Bool) → (x.cell == c) ≡ b → EntryHolds workers spot wait (put next c n) w (cond b (record x { next = Some n }) x) = λ x m. by x ((L.hands w).entries x m) (none x m) other in
    record {
      lists = λ f. list_same next (put next c n) spot spot (Listed f) (head_by (counter f) (state f)) (λ d k q. (q, other d (Listed f k) q (λ z. held_listed z))) (λ d k q. q) (L.lists f);
      waiting = L.waiting;
      hands = λ v. put_all (λ (u : ℕ) (h : List Waiter). HandHolds workers spot wait (put next c n) u h) hand w (linked c n (hand w)) v
          (λ (q : v ≡ w). subst (λ (u : ℕ). HandHolds workers spot wait (put next c n) u (linked c n (hand w))) (sym q)
          (hand_map workers spot spot wait next (put next c n) w (λ (x : Waiter). cond (x.cell == c) (record x { next = Some n }) x) (hand w) (λ x. cell_of (x.cell == c) x) (λ x m. entry x m (x.cell == c) refl) (λ d z. z) (L.hands w)))
          (λ (q : v ≢ w). hand_stays workers spot spot wait next (put next c n) v (hand v) (untouched v q) (L.hands v));
      behind = L.behind;
      readies = λ v. record { of = (L.readies v).of; has = (L.readies v).has };
    }
  where
    cell_of : (b : Bool) (x : Waiter) → (cond b (record x { next = Some n }) x).cell ≡ x.cell
    cell_of true x = refl
    cell_of false x = refl

    isnt : (x : Waiter) → (x.cell == c) ≡ false → x.cell ≢ c
    isnt x q s = let f = eq-eqb x.cell c s in let no : ⊥ = cc in no

    by : (x : Waiter) → EntryHolds workers spot wait next w x → (x.cell ≡ c → x.leads ≡ false) → ((d : ℕ) (s : Spot) → spot d ≡ s → Held w ≢ s → put next c n d ≡ next d) → (b : Bool) → (x.cell == c) ≡ b → EntryHolds workers spot wait (put next c n) w (cond b (record x { next = Some n }) x)
    by x o l other true q =
        let s = same_true x.cell c q in
        record {
          held = o.held;
          tail = subst (λ (b : Bool). IsTail workers spot wait (put next c n) w x.cell b) (sym (l s)) (λ d k z. no_tail x o (l s) d k z);
          linked = λ k z. let t : n ≡ k = cc in ((ap (put next c n) s ∙ put_here next c n) ∙ t, l s);
          told = o.told;
        }
      where
        no_tail : (x : Waiter) → EntryHolds workers spot wait next w x → x.leads ≡ false → (d k : ℕ) → spot d ≢ Behind w x.cell k
        no_tail x o l = none_behind workers spot wait next w x.cell x o refl l
    by x o l other false q = entry_stays workers spot spot wait next (put next c n) w x o.held (put_other next c n x.cell (isnt x q)) (λ d k z. (z, other d (Behind w x.cell k) z (λ t. held_behind t))) (λ d k z. z) o

-- ---- a chain is taken: what it waits for is known

abbrev waiting_at : ℕ → Waiting → Waiter → Waiter
waiting_at c k x = cond (x.cell == c) (record x { wait = Some k }) x

pub hand_seen : (workers : ℕ) (spot : ℕ → Spot) (wait : ℕ → Waiting) (next : ℕ → ℕ) (w c : ℕ) (k : Waiting) (hand : List Waiter) → (spot c ≡ Held w → wait c ≡ k) → HandHolds workers spot wait next w hand → HandHolds workers spot wait next w (seen_waiting c k hand)
hand_seen workers spot wait next w c k hand known ok = hand_map workers spot spot wait next next w (waiting_at c k) hand (λ x. cell_of (x.cell == c) x) (λ x m. by x (x.cell == c) refl (ok.entries x m)) (λ d q. q) ok
  where
    cell_of : (b : Bool) (x : Waiter) → (cond b (record x { wait = Some k }) x).cell ≡ x.cell
    cell_of true x = refl
    cell_of false x = refl

    by : (x : Waiter) (b : Bool) → (x.cell == c) ≡ b → EntryHolds workers spot wait next w x → EntryHolds workers spot wait next w (cond b (record x { wait = Some k }) x)
    by x true q o =
        let s : x.cell ≡ c = same_true x.cell c q in
        record { held = o.held; tail = o.tail; linked = o.linked; told = λ j z. let t : k ≡ j = cc in ap wait s ∙ (known (subst (λ (d : ℕ). spot d ≡ Held w) s o.held) ∙ t) }
    by x false q o = o

-- ---- one number, whose spot is in no list before and after

module _ (workers : ℕ) (spot : ℕ → Spot) (wait : ℕ → Waiting) (next : ℕ → ℕ) (counter : ℕ → Bool) (state : ℕ → ℕ) (hand : ℕ → List Waiter) (ready : ℕ → List ℕ) (L : Listing workers spot wait next counter state hand ready) where
  single : (c : ℕ) (s : Spot) (hand' : ℕ → List Waiter) (ready' : ℕ → List ℕ) → ((f k : ℕ) → spot c ≢ Listed f k) → ((f k : ℕ) → s ≢ Listed f k) → ((v : ℕ) → HandHolds workers (put spot c s) wait next v (hand' v)) →
      ((f v m k : ℕ) → put spot c s f ≡ Behind v m k → (put spot c s m ≡ Held v) × Alike (wait m) (wait f)) → ((v : ℕ) → ReadyHolds workers (put spot c s) wait next v (ready' v)) → Listing workers (put spot c s) wait next counter state hand' ready'
  single c s hand' ready' a b hands behind readies = record {
    lists = λ f. list_put workers spot wait next c s (Listed f) (head_by (counter f) (state f)) (a f) (b f) (L.lists f);
    waiting = λ f g k q. L.waiting f g k (put_was spot c s f (Listed g k) q (b g k));
    hands = hands;
    behind = behind;
    readies = readies;
  }

  -- what a number waits for that is nowhere isn't read
  pub waits_anew : (c : ℕ) (k : Waiting) → spot c ≡ Nowhere → Listing workers spot (put wait c k) next counter state hand ready
  waits_anew c k e =
      let same : (d : ℕ) (s : Spot) → spot d ≡ s → Nowhere ≢ s → wait d ≡ put wait c k d = λ d s q n. sym (put_other wait c k d (λ z. n (sym e ∙ (ap spot (sym z) ∙ q)))) in
      record {
        lists = L.lists;
        waiting = λ d f j q. subst (λ (t : Waiting). IsOpen (counter f) (state f) f t) (same d (Listed f j) q (λ z. nowhere_listed z)) (L.waiting d f j q);
        hands = λ v. record {
          once = (L.hands v).once;
          entries = λ y m.
              let o = (L.hands v).entries y m in
              record { held = o.held; tail = o.tail; linked = o.linked; told = λ j q. sym (same y.cell (Held v) o.held (λ z. nowhere_held z)) ∙ o.told j q };
          has = (L.hands v).has;
        };
        behind = λ d v m j q.
            let b = L.behind d v m j q in
            (b.0, subst (λ (t : Waiting). Alike t (put wait c k d)) (same m (Held v) b.0 (λ z. nowhere_held z)) (subst (λ (t : Waiting). Alike (wait m) t) (same d (Behind v m j) q (λ z. nowhere_behind z)) b.1));
        readies = λ v. record { of = (L.readies v).of; has = (L.readies v).has };
      }

  -- the number of a chain that is put comes into the hand
  pub into_hand : (w c : ℕ) → w < workers → spot c ≡ Nowhere → Listing workers (put spot c (Held w)) wait next counter state (put hand w (record { cell = c; wait = Some (wait c); next = None; leads = false } ∷ hand w)) ready
  into_hand w c less e =
      let x : Waiter = record { cell = c; wait = Some (wait c); next = None; leads = false } in
      let none : (f v k : ℕ) → spot f ≢ Behind v c k = λ f v k q. nowhere_held (sym e ∙ (L.behind f v c k q).0) in
      let out : (y : Waiter) → Contains (hand w) y → y.cell ≢ c = λ y m q. nowhere_held (sym e ∙ (ap spot (sym q) ∙ ((L.hands w).entries y m).held)) in
      single c (Held w) (put hand w (x ∷ hand w)) ready (λ f k q. nowhere_listed (sym e ∙ q)) (λ f k q. held_listed q)
      (λ v. put_all (λ (u : ℕ) (h : List Waiter). HandHolds workers (put spot c (Held w)) wait next u h) hand w (x ∷ hand w) v
      (λ (q : v ≡ w). subst (λ (u : ℕ). HandHolds workers (put spot c (Held w)) wait next u (x ∷ hand w)) (sym q) (record {
        once = (λ h. out h.0 h.1 h.2, (L.hands w).once);
        entries = λ y m. ⊎_elim
            (λ (s : x ≡ y). subst (λ (z : Waiter). EntryHolds workers (put spot c (Held w)) wait next w z) s (record {
              held = put_here spot c (Held w);
              tail = λ d k z. none d w k (put_was spot c (Held w) d (Behind w c k) z (λ t. held_behind t));
              linked = λ k z. let no : ⊥ = cc in absurd no;
              told = λ k z. cc;
            }))
            (λ (o : Contains (hand w) y). entry_stays workers spot (put spot c (Held w)) wait next next w y (put_keeps spot c (Held w) y.cell (Held w) ((L.hands w).entries y o).held (λ z. nowhere_held (sym e ∙ z))) refl
            (λ d k z. (put_keeps spot c (Held w) d (Behind w y.cell k) z (λ t. nowhere_behind (sym e ∙ t)), refl)) (λ d k z. put_was spot c (Held w) d (Behind w y.cell k) z (λ t. held_behind t)) ((L.hands w).entries y o))
            (contains_case y x (hand w) m);
        has = λ d z. ⊎_elim
            (λ (s : (d ≡ c) × (Held w ≡ Held w)). ((x, contains_here x (hand w), sym s.0), less))
            (λ (s : (d ≢ c) × (spot d ≡ Held w)). let o = (L.hands w).has d s.1 in ((o.0.0, contains_later o.0.0 x (hand w) o.0.1, o.0.2), o.1))
            (put_case spot c (Held w) d (Held w) z);
      }))
      (λ (q : v ≢ w). hand_stays workers spot (put spot c (Held w)) wait next next v (hand v) (untouched_put workers spot wait next c (Held w) v (λ z. subst (Mine v) e z) (λ z. q (sym z))) (L.hands v)))
      (λ f v m k q. let b = L.behind f v m k (put_was spot c (Held w) f (Behind v m k) q (λ t. held_behind t)) in (put_keeps spot c (Held w) m (Held v) b.0 (λ z. nowhere_held (sym e ∙ z)), b.1))
      (λ v. ready_put workers spot wait next c (Held w) v (ready v) (λ z. nowhere_readied (sym e ∙ z)) (λ z. held_readied z) (L.readies v))

  -- a number in the hand, which leads nothing, becomes ready
  pub make_ready : (w c : ℕ) → HandHas (hand w) c → ((x : Waiter) → Contains (hand w) x → x.cell ≡ c → x.leads ≡ false) → Listing workers (put spot c (Readied w)) wait next counter state (put hand w (without_waiter c (hand w))) (put ready w (c ∷ ready w))
  make_ready w c has none =
      let o = (L.hands w).entries has.0 has.1 in
      let e : spot c ≡ Held w = subst (λ (z : ℕ). spot z ≡ Held w) has.2 o.held in
      let alone : (f k : ℕ) → spot f ≢ Behind w c k = none_behind workers spot wait next w c has.0 o has.2 (none has.0 has.1 has.2) in
      single c (Readied w) (put hand w (without_waiter c (hand w))) (put ready w (c ∷ ready w)) (λ f k q. held_listed (sym e ∙ q)) (λ f k q. readied_listed q)
      (λ v. put_all (λ (u : ℕ) (h : List Waiter). HandHolds workers (put spot c (Readied w)) wait next u h) hand w (without_waiter c (hand w)) v
      (λ (q : v ≡ w). subst (λ (u : ℕ). HandHolds workers (put spot c (Readied w)) wait next u (without_waiter c (hand w))) (sym q) (hand_out workers spot wait next w c (Readied w) (hand w) e (λ u z. readied_held z) (λ u m k z. readied_behind z) (L.hands w)))
      (λ (q : v ≢ w). hand_stays workers spot (put spot c (Readied w)) wait next next v (hand v) (untouched_put workers spot wait next c (Readied w) v (λ z. q (sym (subst (Mine v) e z))) (λ z. z)) (L.hands v)))
      (behind_out spot wait w c (Readied w) e (λ v m k z. readied_behind z) alone L.behind)
      (λ v. put_all (λ (u : ℕ) (r : List ℕ). ReadyHolds workers (put spot c (Readied w)) wait next u r) ready w (c ∷ ready w) v
      (λ (q : v ≡ w). subst (λ (u : ℕ). ReadyHolds workers (put spot c (Readied w)) wait next u (c ∷ ready w)) (sym q) (record {
        of = λ d m. ⊎_elim (λ (s : c ≡ d). subst (λ (z : ℕ). put spot c (Readied w) z ≡ Readied w) s (put_here spot c (Readied w))) (λ (t : Contains (ready w) d). put_keeps spot c (Readied w) d (Readied w) ((L.readies w).of d t) (λ z. held_readied (sym e ∙ z))) (contains_case d c (ready w) m);
        has = λ d z. ⊎_elim (λ (s : (d ≡ c) × (Readied w ≡ Readied w)). subst (λ (t : ℕ). Contains (c ∷ ready w) t) (sym s.0) (contains_here c (ready w))) (λ (s : (d ≢ c) × (spot d ≡ Readied w)). contains_later d c (ready w) ((L.readies w).has d s.1)) (put_case spot c (Readied w) d (Readied w) z);
      }))
      (λ (q : v ≢ w). ready_put workers spot wait next c (Readied w) v (ready v) (λ z. held_readied (sym e ∙ z)) (λ z. let t : w ≡ v = cc in q (sym t)) (L.readies v)))

  -- what a chain waits for is seen
  pub hand_told : (w c : ℕ) (k : Waiting) → (spot c ≡ Held w → wait c ≡ k) → Listing workers spot wait next counter state (put hand w (seen_waiting c k (hand w))) ready
  hand_told w c k known = record {
    lists = L.lists;
    waiting = L.waiting;
    hands = λ v. put_all (λ (u : ℕ) (h : List Waiter). HandHolds workers spot wait next u h) hand w (seen_waiting c k (hand w)) v
        (λ (q : v ≡ w). subst (λ (u : ℕ). HandHolds workers spot wait next u (seen_waiting c k (hand w))) (sym q) (hand_seen workers spot wait next w c k (hand w) known (L.hands w)))
        (λ (q : v ≢ w). L.hands v);
    behind = L.behind;
    readies = L.readies;
  }

  -- a ready chain is taken: its number is nowhere
  pub take_ready : (w c : ℕ) → spot c ≡ Readied w → Listing workers (put spot c Nowhere) wait next counter state hand (put ready w (without_number c (ready w)))
  take_ready w c e = single c Nowhere hand (put ready w (without_number c (ready w))) (λ f j q. readied_listed (sym e ∙ q)) (λ f j q. nowhere_listed q)
      (λ v. hand_stays workers spot (put spot c Nowhere) wait next next v (hand v) (untouched_put workers spot wait next c Nowhere v (λ z. subst (Mine v) e z) (λ z. z)) (L.hands v))
      (λ f v m j q. let b = L.behind f v m j (put_was spot c Nowhere f (Behind v m j) q (λ t. nowhere_behind t)) in (put_keeps spot c Nowhere m (Held v) b.0 (λ z. readied_held (sym e ∙ z)), b.1))
      (λ v. put_all (λ (u : ℕ) (r : List ℕ). ReadyHolds workers (put spot c Nowhere) wait next u r) ready w (without_number c (ready w)) v
      (λ (q : v ≡ w). subst (λ (u : ℕ). ReadyHolds workers (put spot c Nowhere) wait next u (without_number c (ready w))) (sym q) (record {
        of = λ d m. let r = filter_out (λ (d : ℕ). not (d == c)) (ready w) d m in put_other spot c Nowhere d (other_false d c r.1) ∙ (L.readies w).of d r.0;
        has = λ d z. ⊎_elim (λ (s : (d ≡ c) × (Nowhere ≡ Readied w)). absurd (nowhere_readied s.1)) (λ (s : (d ≢ c) × (spot d ≡ Readied w)). filter_in (λ (d : ℕ). not (d == c)) (ready w) d ((L.readies w).has d s.1) (other_true d c s.0)) (put_case spot c Nowhere d (Readied w) z);
      }))
      (λ (q : v ≢ w). ready_put workers spot wait next c Nowhere v (ready v) (λ z. let t : w ≡ v = cc in q (sym t)) (λ z. nowhere_readied z) (L.readies v)))

  -- the root's chain is found, or taken
  pub change_root : (s : Spot) (o : Option ℕ) → spot 0 ≡ Rooted o → ((f k : ℕ) → s ≢ Listed f k) → ((v : ℕ) → Mine v s → ⊥) → ((v m k : ℕ) → s ≢ Behind v m k) → ((v : ℕ) → s ≢ Readied v) → Listing workers (put spot 0 s) wait next counter state hand ready
  change_root s o e a b c d = single 0 s hand ready (λ f k q. rooted_listed (sym e ∙ q)) a
      (λ v. hand_stays workers spot (put spot 0 s) wait next next v (hand v) (untouched_put workers spot wait next 0 s v (λ z. subst (Mine v) e z) (b v)) (L.hands v))
      (λ f v m k q. let r = L.behind f v m k (put_was spot 0 s f (Behind v m k) q (c v m k)) in (put_keeps spot 0 s m (Held v) r.0 (λ z. rooted_held (sym e ∙ z)), r.1))
      (λ v. ready_put workers spot wait next 0 s v (ready v) (λ z. rooted_readied (sym e ∙ z)) (d v) (L.readies v))
