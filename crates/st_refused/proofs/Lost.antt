-- A thread is lost where a list is cut: lost. It says so of a number whose chain waits in its slot, after any step that makes no queue longer and leaves nothing of the queue in which the number was.
-- Reach for reached and behind_there (a list with a number in it), and for home_queued (the number of a chain that waits in its slot).
use Rattle.std.proofs.Common.{◌≡◌, ◌≢◌, ◌⊎◌, ⊎_elim, ℕ, Bool, true, false, List, [], ◌∷◌, map, length, None, refl, sym, ap, ◌∙◌, subst, arith}
use Rattle.std.specs.List.{Contains}
use Rattle.st_base.specs.declared.chain.Waiting.{Waiting}
use Rattle.st_words.specs.declared.view.Carried.{Carried}
use Rattle.st_words.specs.declared.view.Waiter.{Waiter}
use Rattle.st_words.specs.Encodings.{waits_word}
use Rattle.st_words.proofs.Lists.{contains_here, contains_later, contains_case, contains_none}
use Rattle.st_world.specs.World.{World}
use Rattle.st_spots.specs.Listing.{Spot, Nowhere, Listed, Held, Behind, Readied, Rooted, Among, Spells, IsList, HandHas, IsTail, Lists, counters, head_by}
use Rattle.st_lists.specs.Going.{IsQueued}
use Rattle.st_spots.proofs.Apart.{listed_held, behind_held}
use Rattle.st_spots.proofs.Nexts.{Leads}
use Rattle.st_spots.proofs.Tidies.{held}
use Rattle.st_seats.specs.Placing.{Place, Home, InTurn, IsOver, Rests, IsTurnSpot, PlaceHolds, Places}

-- a word from which a number is reached isn't 0
pub reached : (next : ℕ → ℕ) (spot at : ℕ → Spot) (word d : ℕ) (es : List ℕ) → Spells next spot at word es → Among d es → word ≢ 0
reached next spot at word d [] t m z = m
reached next spot at word d (e ∷ es) t m z = omega (arith, t.0, z)

-- the Next words from the same word spell the same numbers
spelled : (next next' : ℕ → ℕ) (spot spot' at at' : ℕ → Spot) (word d : ℕ) (ds es : List ℕ) → ((e k : ℕ) → spot e ≡ at k → next' e ≡ next e) → Spells next spot at word ds → Spells next' spot' at' word es → Among d es → (k : ℕ) × (spot d ≡ at k)
spelled next next' spot spot' at at' word d ds [] same s t m = absurd m
spelled next next' spot spot' at at' word d [] (e ∷ es) same s t m = let no : ⊥ = omega (arith, s, t.0) in absurd no
spelled next next' spot spot' at at' word d (c ∷ ds) (e ∷ es) same s t m =
    let one : e ≡ c = omega (arith, s.0, t.0) in
    ⊎_elim
    (λ (q : e ≡ d). (length ds, ap spot (sym q ∙ one) ∙ s.1))
    (λ (r : Among d es). spelled next next' spot spot' at at' (next c) d ds es same s.2 (subst (λ (n : ℕ). Spells next' spot' at' n es) (ap next' one ∙ same c (length ds) s.1) t.2) r)
    m

-- what an entry that leads has behind it
pub tail_of : (x : World) (l : Lists x) (v m : ℕ) (z : Waiter) → Leads (x.view v).hand m z → IsList x.next l.spot (Behind v m) (x.next m)
tail_of x l v m z leads =
    let t : IsTail x.workers l.spot l.wait x.next v z.cell true = subst (λ (b : Bool). IsTail x.workers l.spot l.wait x.next v z.cell b) leads.2 ((l.listing.hands v).entries z leads.0).tail in
    subst (λ (c : ℕ). IsList x.next l.spot (Behind v c) (x.next c)) leads.1 t

-- a number is behind an entry that leads
pub behind_there : (x : World) (l : Lists x) (v m d k : ℕ) → l.spot d ≡ Behind v m k → (z : Waiter) × Leads (x.view v).hand m z
behind_there x l v m d k q = let h = ((l.listing.hands v).has m (l.listing.behind d v m k q).0).0 in by h.0 h.1 h.2 h.0.leads refl
  where
    by : (z : Waiter) → Contains (x.view v).hand z → z.cell ≡ m → (b : Bool) → z.leads ≡ b → (z : Waiter) × Leads (x.view v).hand m z
    by z at e true leads = (z, (at, e, leads))
    by z at e false leads =
        let t : IsTail x.workers l.spot l.wait x.next v z.cell false = subst (λ (b : Bool). IsTail x.workers l.spot l.wait x.next v z.cell b) leads ((l.listing.hands v).entries z at).tail in
        absurd (t d k (subst (λ (c : ℕ). l.spot d ≡ Behind v c k) (sym e) q))

part_of : {X Y : Type 0} (f : X → Y) (xs : List X) (y : Y) → Contains (map f xs) y → (x : X) × Contains xs x × (f x ≡ y)
part_of f [] y m = absurd (contains_none y m)
part_of f (x ∷ xs) y m = ⊎_elim (λ (s : f x ≡ y). (x, contains_here x xs, s)) (λ q. let r = part_of f xs y q in (r.0, contains_later r.0 x xs r.1, r.2)) (contains_case y (f x) (map f xs) m)

queued_waits : (Over : Waiting → Type 0) (k : Waiting) (c : ℕ) (s : Spot) (standing unit : ℕ) → IsQueued s → Rests Over k c s standing unit → standing ≡ waits_word
queued_waits Over k c (Listed e n) standing unit q r = r.1
queued_waits Over k c (Held w) standing unit q r = r.1
queued_waits Over k c (Behind w m n) standing unit q r = r.1
queued_waits Over k c s standing unit q r = absurd q

waits_queued : (Over : Waiting → Type 0) (k : Waiting) (c : ℕ) (s : Spot) (standing unit : ℕ) → standing ≡ waits_word → Rests Over k c s standing unit → IsQueued s
waits_queued Over k c Nowhere standing unit w r = omega (arith, r.1, w)
waits_queued Over k c (Readied v) standing unit w r = omega (arith, r.1, w)
waits_queued Over k c (Rooted o) standing unit w r = omega (arith, r.2, w)
waits_queued Over k c s standing unit w r = tt

turn_held : (w : ℕ) (s : Spot) (k : Waiting) (x : Carried) → IsQueued s → ((v : ℕ) → s ≢ Held v) → IsTurnSpot w s k x → ⊥
turn_held w (Held v) k x q d t = d v refl
turn_held w Nowhere k x q d t = q
turn_held w s k x q d t = t

module _ (x : World) (l : Lists x) (p : Places x l) (d : ℕ) where
  abbrev At : Place → Type 0
  At place = PlaceHolds x.workers x.cells l.spot l.wait x.owner x.state x.standing x.trap x.home x.home_cargo x.post x.post_cargo x.view p.place d place

  abbrev Over : Waiting → Type 0
  Over k = IsOver (counters x.owner) x.state k

  queued_at : (place : Place) → At place → IsQueued (l.spot d) → ((v : ℕ) → l.spot d ≢ Held v) → (x.home d ≢ None) × (x.standing d ≡ waits_word)
  queued_at Home h q n = let r = h.1.1 in let at = r.at in (λ e. let no : ⊥ = cc in no, queued_waits Over (x.home_cargo d).carried.wait d (l.spot d) (x.standing d) (x.home_cargo d).unit q r.rests)
  queued_at (InTurn w) h q n =
      let c = part_of (λ (y : Carried). y.known.note.cell) (x.view w).chains d h.2 in
      absurd (turn_held w (l.spot d) (l.wait d) c.0 q n (subst (λ (e : ℕ). IsTurnSpot w (l.spot e) (l.wait e) c.0) c.2 ((p.views w).turn c.0 c.1).number))
  queued_at place h q n = absurd (subst IsQueued h.1 q)

  home_at : (place : Place) → At place → x.home d ≢ None → x.standing d ≡ waits_word → IsQueued (l.spot d)
  home_at Home h n w = waits_queued Over (x.home_cargo d).carried.wait d (l.spot d) (x.standing d) (x.home_cargo d).unit w h.1.1.rests
  home_at place h n w = absurd (n h.0.0)

  pub home_queued : x.home d ≢ None → x.standing d ≡ waits_word → IsQueued (l.spot d)
  home_queued n w = home_at (p.place d) (p.each d) n w

abbrev pub head_of : World → ℕ → ℕ
head_of x c = head_by (counters x.owner c) (x.state c)

-- each list of a cell is as it was or empty; each number in a hand was there; each entry that leads did so, before the same list, or leads nothing. The Next words of numbers that were in hands may have
-- changed. Where the number d was, nothing is left of the list
pub record Cut (x : World) (l : Lists x) (y : World) (d : ℕ) : Type 0 where
  pub heads : (c : ℕ) → (head_of y c ≡ head_of x c) ⊎ (head_of y c ≡ 0)
  pub nexts : (e : ℕ) → ((v : ℕ) → l.spot e ≢ Held v) → y.next e ≡ x.next e
  pub hands : (v e : ℕ) → HandHas (y.view v).hand e → HandHas (x.view v).hand e
  pub leads : (v c : ℕ) (z : Waiter) → Leads (y.view v).hand c z → (y.next c ≡ 0) ⊎ (((was : Waiter) × Leads (x.view v).hand c was) × (y.next c ≡ x.next c))
  pub queued : IsQueued (l.spot d)
  pub no_hand : (v : ℕ) → l.spot d ≢ Held v
  pub no_list : (c k : ℕ) → l.spot d ≡ Listed c k → head_of y c ≡ 0
  pub no_tail : (v c k : ℕ) → l.spot d ≡ Behind v c k → y.next c ≡ 0

module _ (x : World) (l : Lists x) (y : World) (d : ℕ) (k : Cut x l y d) (l' : Lists y) where
  nowhere : (s : Spot) → l'.spot d ≡ s → IsQueued s → ⊥
  nowhere (Listed c n) q queued =
      let t = l'.listing.lists c in
      let s = l.listing.lists c in
      let some : head_of y c ≢ 0 = reached y.next l'.spot (Listed c) (head_of y c) d t.0 t.1 (t.2 d n q) in
      ⊎_elim
      (λ (e : head_of y c ≡ head_of x c).
      let r = spelled x.next y.next l.spot l'.spot (Listed c) (Listed c) (head_of x c) d s.0 t.0 (λ e j r. k.nexts e (λ v h. listed_held (sym r ∙ h))) s.1 (subst (λ (word : ℕ). Spells y.next l'.spot (Listed c) word t.0) e t.1) (t.2 d n q) in
      some (k.no_list c r.0 r.1))
      (λ (z : head_of y c ≡ 0). some z) (k.heads c)
  nowhere (Held v) q queued = k.no_hand v (held x v d l (k.hands v d ((l'.listing.hands v).has d q).0))
  nowhere (Behind v c n) q queued =
      let b = behind_there y l' v c d n q in
      let t = tail_of y l' v c b.0 b.1 in
      let some : y.next c ≢ 0 = reached y.next l'.spot (Behind v c) (y.next c) d t.0 t.1 (t.2 d n q) in
      ⊎_elim
      (λ (z : y.next c ≡ 0). some z)
      (λ h.
      let s = tail_of x l v c h.0.0 h.0.1 in
      let r = spelled x.next y.next l.spot l'.spot (Behind v c) (Behind v c) (x.next c) d s.0 t.0 (λ e j r. k.nexts e (λ u h. behind_held (sym r ∙ h))) s.1 (subst (λ (word : ℕ). Spells y.next l'.spot (Behind v c) word t.0) h.1 t.1) (t.2 d n q) in
      some (k.no_tail v c r.0 r.1))
      (k.leads v c b.0 b.1)
  nowhere s q queued = queued

  -- its chain waits in its slot, and no queue leads to it
  pub lost : Places x l → Places y l' → y.home d ≡ x.home d → y.standing d ≡ x.standing d → ⊥
  lost p p' home stands =
      let h = queued_at x l p d (p.place d) (p.each d) k.queued k.no_hand in
      nowhere (l'.spot d) refl (home_queued y l' p' d (λ e. h.0 (sym home ∙ e)) (stands ∙ h.1))
