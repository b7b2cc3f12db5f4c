-- What the tests of a view tell. Reach for going_decides and private_decides (the tests of a thread and of a change), seen_enough (what the view can tell is what
-- it has seen enough for) and enough_seen (the other way, where a name has one cell and a cell one value).
use Rattle.std.proofs.Common.{◌≡◌, ◌⊎◌, inl, inr, ⊎_elim, ℕ, ◌≤◌, Bool, true, false, ◌==◌, nat_le, Decides, List, [], ◌∷◌, Option, Some, None, is_none, if◌then◌else◌, refl, sym, ap, ◌∙◌, subst}
use Rattle.std.specs.List.{Contains}
use Rattle.std.proofs.lemmas.Bool.{le-leb, true≢false, cond-true}
use Rattle.std.proofs.lemmas.Bool.Decides.{Decides-and, Decides-or, Decides-eqb, Decides-like, leb_tells}
use Rattle.std.proofs.lemmas.Option.{same_Some, none-some, cond_some}
use Rattle.std.proofs.lemmas.Slice.Eq.{bytes_eq-Decides}
use Rattle.st_base.specs.declared.thread.Held.{Held}
use Rattle.st_base.specs.declared.thread.Held.TheVariants.{Number, Future, Counter}
use Rattle.st_base.specs.declared.thread.Standing.{Standing}
use Rattle.st_base.specs.declared.thread.Standing.TheVariants.{Going, Ended, Trapped, Full}
use Rattle.st_base.specs.declared.thread.Thread.{Thread}
use Rattle.st_words.specs.declared.view.View.{View}
use Rattle.st_words.proofs.Lists.{contains_here, contains_later, contains_none, contains_case}
use Rattle.st_model.specs.Heap.{Path, Change, Move, Stays, Moves, Touch, Join}
use Rattle.st_model.specs.Quiet.{IsGoing}
use Rattle.st_made.specs.Items.{IsLive, SeenEnough, IsPrivate}
use Rattle.st_ahead.specs.Ahead.{is_future, is_counter, cell_of, value_at, reaches, by_value, touched, joined, seen_change, is_going, is_live, is_private}
use Rattle.st_ahead.specs.Laws.{SeesOne}

-- ---- tests of a thread and of a change

no_false : {P : Type 0} → false ≡ true → P
no_false e = absurd (true≢false (sym e))

pub going_decides : (s : Standing) → Decides (is_going s) (IsGoing s)
going_decides Going = (λ _. tt, λ _. refl)
going_decides (Ended n) = (λ e. no_false e, λ no. absurd no)
going_decides (Trapped kind line) = (λ e. no_false e, λ no. absurd no)
going_decides Full = (λ e. no_false e, λ no. absurd no)

live_decides : (s : Standing) → Decides (is_live s) (IsLive s)
live_decides Going = (λ _. tt, λ _. refl)
live_decides (Ended n) = (λ e. no_false e, λ no. absurd no)
live_decides (Trapped kind line) = (λ _. tt, λ _. refl)
live_decides Full = (λ _. tt, λ _. refl)

none_decides : {A : Type 0} (o : Option A) → Decides (is_none o) (o ≡ None)
none_decides None = (λ _. refl, λ _. refl)
none_decides (Some a) = (λ e. no_false e, λ e. absurd (none-some a (sym e)))

pub private_decides : (t : Thread) (c : Change) → Decides (is_private t c) (IsPrivate t c)
private_decides t c = Decides-like (is_private t c)
    (λ p. record { child = p.0.0.0; added = p.0.0.1; printed = p.0.1.0; counters = p.0.1.1; bytes = p.1.0; live = p.1.1 })
    (λ p. (((p.child, p.added), (p.printed, p.counters)), (p.bytes, p.live)))
    (Decides-and _ _
    (Decides-and _ _ (Decides-and _ _ (none_decides c.child) (none_decides c.added)) (Decides-and _ _ (none_decides c.printed) (Decides-eqb c.own.counters t.counters)))
    (Decides-and _ _ (Decides-eqb c.own.bytes t.bytes) (live_decides c.own.standing)))

-- ---- names

future_decides : (q : Path) (name : Held) → Decides (is_future q name) (name ≡ Future q)
future_decides q (Number n) = (λ e. no_false e, λ e. let no : ⊥ = cc in absurd no)
future_decides q (Future p) = (λ e. ap Future ((bytes_eq-Decides p q).0 e), λ e. (bytes_eq-Decides p q).1 cc)
future_decides q (Counter p i) = (λ e. no_false e, λ e. let no : ⊥ = cc in absurd no)

counter_decides : (q : Path) (k : ℕ) (name : Held) → Decides (is_counter q k name) (name ≡ Counter q k)
counter_decides q k (Number n) = (λ e. no_false e, λ e. let no : ⊥ = cc in absurd no)
counter_decides q k (Future p) = (λ e. no_false e, λ e. let no : ⊥ = cc in absurd no)
counter_decides q k (Counter p i) = Decides-like (is_counter q k (Counter p i))
    (λ (z : (p ≡ q) × (i ≡ k)). let a : p ≡ q = z.0 in let b : i ≡ k = z.1 in cc)
    (λ e. (cc, cc))
    (Decides-and _ _ (bytes_eq-Decides p q) (Decides-eqb i k))

-- ---- entries

if_cases : {A : Type 0} (b : Bool) (x z : A) (o : Option A) → (if b then Some x else o) ≡ Some z → ((b ≡ true) × (x ≡ z)) ⊎ (o ≡ Some z)
if_cases true x z o e = inl (refl, same_Some x z e)
if_cases false x z o e = inr e

if_some : {A : Type 0} (b : Bool) (x : A) (o : Option A) → (d : A) × (o ≡ Some d) → (d : A) × ((if b then Some x else o) ≡ Some d)
if_some true x o more = (x, refl)
if_some false x o more = more

if_here : {A : Type 0} (b : Bool) (x : A) (o : Option A) → b ≡ true → (d : A) × ((if b then Some x else o) ≡ Some d)
if_here b x o e = (x, cond-true b (Some x) o e)

cell_named : (is : Held → Bool) (names : List (Held × ℕ)) (c : ℕ) → cell_of is names ≡ Some c → (name : Held) × (is name ≡ true) × Contains names (name, c)
cell_named is [] c e = absurd (none-some c e)
cell_named is (entry ∷ entries) c e = ⊎_elim
    (λ (z : (is entry.0 ≡ true) × (entry.1 ≡ c)). (entry.0, z.0, subst (λ n. Contains (entry ∷ entries) (entry.0, n)) z.1 (contains_here entry entries)))
    (λ (more : cell_of is entries ≡ Some c). let x = cell_named is entries c more in (x.0, x.1, contains_later (x.0, c) entry entries x.2))
    (if_cases (is entry.0) entry.1 c (cell_of is entries) e)

some_cell : (is : Held → Bool) (names : List (Held × ℕ)) (name : Held) (c : ℕ) → Contains names (name, c) → is name ≡ true → (d : ℕ) × (cell_of is names ≡ Some d)
some_cell is [] name c m t = absurd (contains_none (name, c) m)
some_cell is (entry ∷ entries) name c m t = ⊎_elim
    (λ (e : entry ≡ (name, c)). if_here (is entry.0) entry.1 (cell_of is entries) (ap (λ (x : Held × ℕ). is x.0) e ∙ t))
    (λ (n : Contains entries (name, c)). if_some (is entry.0) entry.1 (cell_of is entries) (some_cell is entries name c n t))
    (contains_case (name, c) entry entries m)

value_seen : (c : ℕ) (values : List (ℕ × ℕ)) (n : ℕ) → value_at c values ≡ Some n → Contains values (c, n)
value_seen c [] n e = absurd (none-some n e)
value_seen c (entry ∷ entries) n e = ⊎_elim
    (λ (z : ((entry.0 == c) ≡ true) × (entry.1 ≡ n)).
    subst (λ k. Contains (entry ∷ entries) (k, n)) ((Decides-eqb entry.0 c).0 z.0) (subst (λ k. Contains (entry ∷ entries) (entry.0, k)) z.1 (contains_here entry entries)))
    (λ (more : value_at c entries ≡ Some n). contains_later (c, n) entry entries (value_seen c entries n more))
    (if_cases (entry.0 == c) entry.1 n (value_at c entries) e)

some_value : (c : ℕ) (values : List (ℕ × ℕ)) (n : ℕ) → Contains values (c, n) → (m : ℕ) × (value_at c values ≡ Some m)
some_value c [] n m = absurd (contains_none (c, n) m)
some_value c (entry ∷ entries) n m = ⊎_elim
    (λ (e : entry ≡ (c, n)). if_here (entry.0 == c) entry.1 (value_at c entries) ((Decides-eqb entry.0 c).1 (ap (λ (x : ℕ × ℕ). x.0) e)))
    (λ (k : Contains entries (c, n)). if_some (entry.0 == c) entry.1 (value_at c entries) (some_value c entries n k))
    (contains_case (c, n) entry entries m)

le_decides : (a b : ℕ) → Decides (nat_le a b) (a ≤ b)
le_decides a b = (λ e. ⊎_elim (λ x. x.1) (λ x. let f = x.0 in let no : ⊥ = cc in absurd no) (leb_tells a b), λ l. le-leb a b l)

-- the test of one entry, and of the others
reach_decides : (least c : ℕ) (entry : ℕ × ℕ) (entries : List (ℕ × ℕ)) → Decides (reaches least c (entry ∷ entries)) (((entry.0 ≡ c) × (least ≤ entry.1)) ⊎ (reaches least c entries ≡ true))
reach_decides least c entry entries = Decides-or _ _ (Decides-and _ _ (Decides-eqb entry.0 c) (le_decides least entry.1)) (λ e. e, λ e. e)

count_seen : (least c : ℕ) (counts : List (ℕ × ℕ)) → reaches least c counts ≡ true → (k : ℕ) × Contains counts (c, k) × (least ≤ k)
count_seen least c [] e = no_false e
count_seen least c (entry ∷ entries) e = ⊎_elim
    (λ (z : (entry.0 ≡ c) × (least ≤ entry.1)). (entry.1, subst (λ k. Contains (entry ∷ entries) (k, entry.1)) z.0 (contains_here entry entries), z.1))
    (λ (more : reaches least c entries ≡ true). let x = count_seen least c entries more in (x.0, contains_later (c, x.0) entry entries x.1, x.2))
    ((reach_decides least c entry entries).0 e)

count_reaches : (least c k : ℕ) (counts : List (ℕ × ℕ)) → Contains counts (c, k) → least ≤ k → reaches least c counts ≡ true
count_reaches least c k [] m l = absurd (contains_none (c, k) m)
count_reaches least c k (entry ∷ entries) m l = (reach_decides least c entry entries).1 (⊎_elim
    (λ (e : entry ≡ (c, k)). inl (ap (λ (x : ℕ × ℕ). x.0) e, subst (λ (x : ℕ × ℕ). least ≤ x.1) (sym e) l))
    (λ (n : Contains entries (c, k)). inr (count_reaches least c k entries n l))
    (contains_case (c, k) entry entries m))

-- ---- what the next item makes

-- a name that is so is the one named
cell_seen : (is : Held → Bool) (names : List (Held × ℕ)) (name : Held) (c : ℕ) → ((x : Held) → is x ≡ true → x ≡ name) → cell_of is names ≡ Some c → Contains names (name, c)
cell_seen is names name c only e = let x = cell_named is names c e in subst (λ z. Contains names (z, c)) (only x.0 x.1) x.2

the_cell : (v : View) (is : Held → Bool) (name : Held) (c : ℕ) → SeesOne v → ((x : Held) → Decides (is x) (x ≡ name)) → Contains v.names (name, c) → cell_of is v.names ≡ Some c
the_cell v is name c one decides m =
    let x = some_cell is v.names name c m ((decides name).1 refl) in
    x.1 ∙ ap Some (one.cells name x.0 c (cell_seen is v.names name x.0 (λ y e. (decides y).0 e) x.1) m)

the_value : (v : View) (c n : ℕ) → SeesOne v → Contains v.values (c, n) → value_at c v.values ≡ Some n
the_value v c n one m = let x = some_value c v.values n m in x.1 ∙ ap Some (one.values c x.0 n (value_seen c v.values x.0 x.1) m)

by_value_seen : (f : ℕ → Change) (o : Option ℕ) (c : Change) → by_value f o ≡ Some c → (n : ℕ) × (o ≡ Some n) × (f n ≡ c)
by_value_seen f None c e = absurd (none-some c e)
by_value_seen f (Some n) c e = (n, refl, same_Some (f n) c e)

touch_seen : (v : View) (q : Path) (f : ℕ → Change) (c : Change) (o : Option ℕ) → cell_of (is_future q) v.names ≡ o → touched f v.values o ≡ Some c → SeenEnough v (Touch q f) c
touch_seen v q f c None e s = absurd (none-some c s)
touch_seen v q f c (Some cell) e s =
    let x = by_value_seen f (value_at cell v.values) c s in
    (cell, x.0, cell_seen (is_future q) v.names (Future q) cell (λ y t. (future_decides q y).0 t) e, value_seen cell v.values x.0 x.1, x.2)

join_seen : (v : View) (q : Path) (i least : ℕ) (d c : Change) (o : Option ℕ) → cell_of (is_counter q i) v.names ≡ o → joined d least v.counts o ≡ Some c → SeenEnough v (Join q i least d) c
join_seen v q i least d c None e s = absurd (none-some c s)
join_seen v q i least d c (Some cell) e s =
    let x = cond_some (reaches least cell v.counts) d c s in
    let y = count_seen least cell v.counts x.0 in
    (cell, y.0, cell_seen (is_counter q i) v.names (Counter q i) cell (λ z t. (counter_decides q i z).0 t) e, y.1, y.2, x.1)

pub seen_enough : (v : View) (m : Move) (c : Change) → seen_change v m ≡ Some c → SeenEnough v m c
seen_enough v Stays c e = absurd (none-some c e)
seen_enough v (Moves d) c e = same_Some d c e
seen_enough v (Touch q f) c e = touch_seen v q f c (cell_of (is_future q) v.names) refl e
seen_enough v (Join q i least d) c e = join_seen v q i least d c (cell_of (is_counter q i) v.names) refl e

pub enough_seen : (v : View) (m : Move) (c : Change) → SeesOne v → SeenEnough v m c → seen_change v m ≡ Some c
enough_seen v Stays c one e = absurd e
enough_seen v (Moves d) c one e = ap Some e
enough_seen v (Touch q f) c one e =
    ap (λ o. touched f v.values o) (the_cell v (is_future q) (Future q) e.0 one (future_decides q) e.2)
    ∙ (ap (λ o. by_value f o) (the_value v e.0 e.1 one e.3) ∙ ap Some e.4)
enough_seen v (Join q i least d) c one e =
    ap (λ o. joined d least v.counts o) (the_cell v (is_counter q i) (Counter q i) e.0 one (counter_decides q i) e.2)
    ∙ (cond-true (reaches least e.0 v.counts) (Some d) None (count_reaches least e.0 e.1 v.counts e.3 e.4) ∙ ap Some e.5)
