-- A list is handed out by the change of a State word.
use Rattle.std.proofs.Common.{◌≡◌, ◌≢◌, ⊎_elim, ℕ, suc, ◌<◌, Bool, true, false, List, [], ◌∷◌, length, Option, Some, None, refl, sym, ap, ◌∙◌, subst, arith}
use Rattle.std.specs.List.{Contains}
use Rattle.st_base.specs.declared.chain.Waiting.{Waiting}
use Rattle.st_base.specs.declared.chain.Waiting.TheVariants as waits
use Rattle.st_words.specs.declared.view.Waiter.{Waiter}
use Rattle.st_words.specs.Views.{followed}
use Rattle.st_words.proofs.Lists.{contains_here, contains_later, contains_case}
use Rattle.st_world.specs.Functions.{put}
use Rattle.st_spots.specs.Listing.{Spot, Listed, Held, Behind, Among, Spells, IsList, EntryHolds, HandHolds, Listing, head_by, IsOpen, Alike}
use Rattle.st_world.proofs.Functions.{put_all}
use Rattle.st_spots.proofs.Lists.{handed, rest_of}
use Rattle.st_spots.proofs.Apart.{listed_held, held_listed, behind_listed, readied_listed}
use Rattle.st_spots.proofs.Untouched.{Mine}
use Rattle.st_spots.proofs.Ranks.{listed_in, listed_here, listed_only}
use Rattle.st_spots.proofs.Handing as handing

touch_alike : (e f c : ℕ) → e ≡ c → f ≡ c → Alike (waits.Touch e) (waits.Touch f)
touch_alike e f c a b q = (λ t. cc, λ t. cc)

join_alike : (e f m n : ℕ) → Alike (waits.Join e m) (waits.Join f n)
join_alike e f m n q = (λ t. let no : ⊥ = cc in absurd no, λ t. let no : ⊥ = cc in absurd no)

-- what waits at one cell is alike
pub open_alike : (b : Bool) (state c : ℕ) (i j : Waiting) → IsOpen b state c i → IsOpen b state c j → Alike i j
open_alike false state c (waits.Touch e) (waits.Touch f) p q = touch_alike e f c p.0 q.0
open_alike true state c (waits.Join e m) (waits.Join f n) p q = join_alike e f m n
open_alike false state c (waits.Touch e) (waits.Join f n) p q = absurd q
open_alike false state c (waits.Touch e) waits.Start p q = absurd q
open_alike false state c (waits.Touch e) waits.Ready p q = absurd q
open_alike false state c (waits.Touch e) waits.Trapped p q = absurd q
open_alike true state c (waits.Join e m) (waits.Touch f) p q = absurd q
open_alike true state c (waits.Join e m) waits.Start p q = absurd q
open_alike true state c (waits.Join e m) waits.Ready p q = absurd q
open_alike true state c (waits.Join e m) waits.Trapped p q = absurd q
open_alike false state c (waits.Join e m) j p q = absurd p
open_alike true state c (waits.Touch e) j p q = absurd p
open_alike false state c waits.Start j p q = absurd p
open_alike true state c waits.Start j p q = absurd p
open_alike false state c waits.Ready j p q = absurd p
open_alike true state c waits.Ready j p q = absurd p
open_alike false state c waits.Trapped j p q = absurd p
open_alike true state c waits.Trapped j p q = absurd p

module _ (workers : ℕ) (spot : ℕ → Spot) (wait : ℕ → Waiting) (next : ℕ → ℕ) (counter : ℕ → Bool) (state : ℕ → ℕ) (hand : ℕ → List Waiter) (ready : ℕ → List ℕ) (L : Listing workers spot wait next counter state hand ready) where
  -- nobody waits there
  pub none_waits : (c : ℕ) → head_by (counter c) (state c) ≡ 0 → (d k : ℕ) → spot d ≢ Listed c k
  none_waits c h d k e = none_in (L.lists c).0 (L.lists c).1 ((L.lists c).2 d k e)
    where
      none_in : (ds : List ℕ) → Spells next spot (Listed c) (head_by (counter c) (state c)) ds → Among d ds → ⊥
      none_in [] s m = m
      none_in (f ∷ fs) s m = let t = s.0 in omega (arith, h, t)

  pub fill_none : (c new : ℕ) → head_by (counter c) (state c) ≡ 0 → head_by (counter c) new ≡ 0 → Listing workers spot wait next counter (put state c new) hand ready
  fill_none c new h z = record {
    lists = λ f. put_all (λ (g : ℕ) (n : ℕ). IsList next spot (Listed g) (head_by (counter g) n)) state c new f
        (λ (q : f ≡ c). subst (λ (g : ℕ). IsList next spot (Listed g) (head_by (counter g) new)) (sym q) ([], z, λ d k e. none_waits c h d k e))
        (λ (q : f ≢ c). L.lists f);
    waiting = λ f g k q. put_all (λ (e : ℕ) (n : ℕ). e ≡ g → IsOpen (counter e) n e (wait f)) state c new g
        (λ (t : g ≡ c) r. absurd (none_waits c h f k (subst (λ (e : ℕ). spot f ≡ Listed e k) t q)))
        (λ (t : g ≢ c) r. L.waiting f g k q) refl;
    hands = L.hands;
    behind = L.behind;
    readies = L.readies;
  }

  pub fill : (w c new x : ℕ) (known : Option Waiting) → w < workers → head_by (counter c) (state c) ≡ suc x → head_by (counter c) new ≡ 0 → ((d k : ℕ) → spot d ≡ Listed c k → (z : Waiting) → known ≡ Some z → wait d ≡ z) →
      (n : ℕ) × Listing workers (λ d. handed (listed_in c) n w x (spot d)) wait next counter (put state c new) (put hand w (followed known (suc x) (hand w))) ready
  fill w c new x known less h z told =
      let r = rest_of next spot (Listed c) x (subst (λ (word : ℕ). IsList next spot (Listed c) word) h (L.lists c)) in
      let es : List ℕ = r.0 in
      let n : ℕ = length es in
      let at_x : spot x ≡ Listed c n = r.1.1 in
      let none : (d k : ℕ) → spot d ≢ Behind w x k = λ d k e. held_listed (sym (L.behind d w x k e).0 ∙ at_x) in
      let held : (v k : ℕ) → Listed c k ≢ Held v = λ v k e. listed_held e in
      let spot' : ℕ → Spot = λ d. handed (listed_in c) n w x (spot d) in
      let gone : (s : Spot) (k : ℕ) → handed (listed_in c) n w x s ≢ Listed c k = λ s k. handing.left (Listed c) (listed_in c) (listed_here c) (listed_only c) n w x s k (λ j e. held_listed e) (λ i j e. behind_listed e) in
      let entry : Waiter = record { cell = x; wait = known; next = None; leads = true } in
      let no_x : (y : Waiter) → Contains (hand w) y → y.cell ≢ x = λ y m e. held_listed (sym ((L.hands w).entries y m).held ∙ (ap spot e ∙ at_x)) in (
        n,
        record {
          lists = λ f. put_all (λ (g : ℕ) (k : ℕ). IsList next spot' (Listed g) (head_by (counter g) k)) state c new f
              (λ (q : f ≡ c). subst (λ (g : ℕ). IsList next spot' (Listed g) (head_by (counter g) new)) (sym q) ([], z, λ d k e. gone (spot d) k e))
              (λ (q : f ≢ c). handing.other_list (Listed c) (listed_in c) (listed_here c) (listed_only c) n w x workers spot wait next held (Listed f) (head_by (counter f) (state f)) (λ j k e. let t : f ≡ c = cc in q t) (λ k e. held_listed e) (λ i k e. behind_listed e) (L.lists f));
          waiting = λ f g k q. put_all (λ (e : ℕ) (m : ℕ). e ≡ g → IsOpen (counter e) m e (wait f)) state c new g
              (λ (t : g ≡ c) p. absurd (gone (spot f) k (subst (λ (e : ℕ). spot' f ≡ Listed e k) t q)))
              (λ (t : g ≢ c) p. L.waiting f g k (handing.back (Listed c) (listed_in c) (listed_here c) (listed_only c) n w x (spot f) (Listed g k) q (λ e. held_listed e) (λ i e. behind_listed e))) refl;
          hands = λ v. put_all (λ (u : ℕ) (h : List Waiter). HandHolds workers spot' wait next u h) hand w (entry ∷ hand w) v
              (λ (q : v ≡ w). subst (λ (u : ℕ). HandHolds workers spot' wait next u (entry ∷ hand w)) (sym q) (record {
                once = (λ y. no_x y.0 y.1 y.2, (L.hands w).once);
                entries = λ y m. ⊎_elim
                    (λ (s : entry ≡ y). subst (λ (u : Waiter). EntryHolds workers spot' wait next w u) s (record {
                      held = handing.head_held (Listed c) (listed_in c) (listed_here c) (listed_only c) n w x workers spot wait next held es refl r.1 r.2 none;
                      tail = handing.tail_list (Listed c) (listed_in c) (listed_here c) (listed_only c) n w x workers spot wait next held es refl r.1 r.2 none;
                      linked = λ k e. let no : ⊥ = cc in absurd no;
                      told = λ k e. told x n at_x k e;
                    }))
                    (λ (o : Contains (hand w) y). handing.old_entry (Listed c) (listed_in c) (listed_here c) (listed_only c) n w x workers spot wait next held y (λ k j e. behind_listed e) (no_x y o) ((L.hands w).entries y o))
                    (contains_case y entry (hand w) m);
                has = λ d e. ⊎_elim
                    (λ (s : d ≡ x). ((entry, contains_here entry (hand w), sym s), less))
                    (λ (s : spot d ≡ Held w). let o = (L.hands w).has d s in ((o.0.0, contains_later o.0.0 entry (hand w) o.0.1, o.0.2), o.1))
                    (handing.held_case (Listed c) (listed_in c) (listed_here c) (listed_only c) n w x workers spot wait next held es refl r.1 r.2 none d e);
              }))
              (λ (q : v ≢ w). handing.other_hand (Listed c) (listed_in c) (listed_here c) (listed_only c) n w x workers spot wait next held v (hand v) q (λ t k m e. subst (Mine v) e m) (L.hands v));
          behind = handing.behind_case (Listed c) (listed_in c) (listed_here c) (listed_only c) n w x workers spot wait next held es refl r.1 r.2 none
              (λ d e i j p q. open_alike (counter c) (state c) c (wait d) (wait e) (L.waiting d c i p) (L.waiting e c j q)) L.behind;
          readies = λ v. handing.other_ready (Listed c) (listed_in c) (listed_here c) (listed_only c) n w x workers spot wait next held v (ready v) (λ k e. readied_listed e) (L.readies v);
        },
      )
