-- What a worker sees of the cell at which a waiter waits: its Owner and its State, by a load or by a park that found another word. Read SeesOnly (nothing else of the view changes), kind_seen_now
-- (the kind of the cell is known), over_seen (the wait is over) and can_park (it can be parked by that word).
use Rattle.std.proofs.Common.{Bool, List, None, Option, Some, arith, eq-eqb, false, inl, inr, ne_eqb, refl, subst, suc, sym, true, zero, ℕ, ⊎_elim, ◌%◌, ◌-◌, ◌<◌, ◌==◌, ◌∙◌, ◌≡◌, ◌≢◌, ◌≤◌, ◌⊎◌}
use Rattle.std.proofs.lemmas.Bool.{eqb-true, le-leb, leb-true}
use Rattle.std.specs.List.{Contains}
use Rattle.st_base.specs.declared.chain.Chain.{Chain}
use Rattle.st_base.specs.declared.chain.Waiting.{Waiting}
use Rattle.st_base.specs.declared.thread.Held.{Held}
use Rattle.st_base.specs.declared.thread.Held.TheVariants.{Counter, Future}
use Rattle.st_base.specs.declared.thread.Thread.{Thread}
use Rattle.st_chain.specs.Chains.{WaitsFor, Walks}
use Rattle.st_chain.specs.Walk.{named_by}
use Rattle.st_fits.specs.Bags.{Bag, CanPark, HasBag, IsNamed, IsOfKind}
use Rattle.st_fits.specs.Before.{after}
use Rattle.st_model.specs.Memory.{Data}
use Rattle.st_model.specs.declared.program.Program.{Program}
use Rattle.st_phases.specs.Waking.{MayPark, cell_of, is_over}
use Rattle.st_phases.specs.declared.phase.Settling.{Settling}
use Rattle.st_words.proofs.Lists.{contains_here, contains_later}
use Rattle.st_words.proofs.Starting.{named_kind}
use Rattle.st_words.proofs.Waiting.{seen_count, seen_full}
use Rattle.st_words.specs.Careful.{IsOver}
use Rattle.st_words.specs.Encodings.{count_in, counter_owner, full_word, head_in, is_counter, thread_owner}
use Rattle.st_words.specs.Promises.{OwnerIs, StateIs}
use Rattle.st_words.specs.Steps.{CellLoad, IsWaiting, Number}
use Rattle.st_words.specs.Tidy.{TidyNames}
use Rattle.st_words.specs.Views.{kind_seen, note_loaded, state_when, view_after, with_owner, with_state_by}
use Rattle.st_words.specs.declared.view.Cargo.{Cargo}
use Rattle.st_words.specs.declared.view.Known.{Known}
use Rattle.st_words.specs.declared.view.Loaded.{Loaded}
use Rattle.st_words.specs.declared.view.View.{View}
use Rattle.st_words.specs.declared.view.Loaded.TheVariants as loads
use Rattle.st_base.specs.declared.chain.Waiting.TheVariants as waits
use Rattle.st_words.specs.declared.view.CellWord.TheVariants as words

-- of the view v only what was seen of cells differs
pub record SeesOnly (u v : View) : Type 0 where
  pub chains : v.chains ≡ u.chains
  pub hand : v.hand ≡ u.hand
  pub share : v.share ≡ u.share
  pub drawn : v.drawn ≡ u.drawn
  pub child : v.child ≡ u.child
  pub answering : v.answering ≡ u.answering
  pub given : v.given ≡ u.given
  pub root : v.root ≡ u.root
  pub exported : v.exported ≡ u.exported
  pub cells : v.cells ≡ u.cells
  pub threads : v.threads ≡ u.threads
  pub names : v.names ≡ u.names
  pub asked : v.asked ≡ u.asked
  pub ready : v.ready ≡ u.ready
  pub owners : (q : ℕ × ℕ) → Contains u.owners q → Contains v.owners q
  pub full : (q : ℕ) → Contains u.full q → Contains v.full q

pub bag_seen : (b : Bag) (u v : View) → SeesOnly u v → HasBag b u → HasBag b v
bag_seen b u v s h = record {
  chains = s.chains ∙ h.chains;
  hand = s.hand ∙ h.hand;
  share = s.share ∙ h.share;
  drawn = s.drawn ∙ h.drawn;
  child = s.child ∙ h.child;
  answering = s.answering ∙ h.answering;
  given = s.given ∙ h.given;
  root = s.root ∙ h.root;
}

-- ---- the view after

pub loaded_sees : (u w : View) (word : Loaded) (n : ℕ) → SeesOnly u w → SeesOnly u (record (note_loaded word n w) { threads = u.threads })
loaded_sees u w word n s = record {
  chains = s.chains;
  hand = s.hand;
  share = s.share;
  drawn = s.drawn;
  child = s.child;
  answering = s.answering;
  given = s.given;
  root = s.root;
  exported = s.exported;
  cells = s.cells;
  threads = refl;
  names = s.names;
  asked = s.asked;
  ready = s.ready;
  owners = s.owners;
  full = s.full;
}

pub again_sees : (u w : View) → SeesOnly u w → SeesOnly u (record w { threads = u.threads })
again_sees u w s = record {
  chains = s.chains;
  hand = s.hand;
  share = s.share;
  drawn = s.drawn;
  child = s.child;
  answering = s.answering;
  given = s.given;
  root = s.root;
  exported = s.exported;
  cells = s.cells;
  threads = refl;
  names = s.names;
  asked = s.asked;
  ready = s.ready;
  owners = s.owners;
  full = s.full;
}

owner_sees : (c n : ℕ) (u : View) → SeesOnly u (with_owner c n u)
owner_sees c zero u = record {
  chains = refl;
  hand = refl;
  share = refl;
  drawn = refl;
  child = refl;
  answering = refl;
  given = refl;
  root = refl;
  exported = refl;
  cells = refl;
  threads = refl;
  names = refl;
  asked = refl;
  ready = refl;
  owners = λ q is. is;
  full = λ q is. is;
}
owner_sees c (suc k) u = record {
  chains = refl;
  hand = refl;
  share = refl;
  drawn = refl;
  child = refl;
  answering = refl;
  given = refl;
  root = refl;
  exported = refl;
  cells = refl;
  threads = refl;
  names = refl;
  asked = refl;
  ready = refl;
  owners = λ q is. contains_later q (c, suc k) u.owners is;
  full = λ q is. is;
}

when_sees : (counter is_full : Bool) (c n : ℕ) (u : View) → SeesOnly u (state_when c n counter is_full u)
when_sees true is_full c n u = record {
  chains = refl;
  hand = refl;
  share = refl;
  drawn = refl;
  child = refl;
  answering = refl;
  given = refl;
  root = refl;
  exported = refl;
  cells = refl;
  threads = refl;
  names = refl;
  asked = refl;
  ready = refl;
  owners = λ q is. is;
  full = λ q is. is;
}
when_sees false true c n u = record {
  chains = refl;
  hand = refl;
  share = refl;
  drawn = refl;
  child = refl;
  answering = refl;
  given = refl;
  root = refl;
  exported = refl;
  cells = refl;
  threads = refl;
  names = refl;
  asked = refl;
  ready = refl;
  owners = λ q is. is;
  full = λ q is. contains_later q c u.full is;
}
when_sees false false c n u = record {
  chains = refl;
  hand = refl;
  share = refl;
  drawn = refl;
  child = refl;
  answering = refl;
  given = refl;
  root = refl;
  exported = refl;
  cells = refl;
  threads = refl;
  names = refl;
  asked = refl;
  ready = refl;
  owners = λ q is. is;
  full = λ q is. is;
}

pub state_sees : (kind : Option Bool) (c n : ℕ) (u : View) → SeesOnly u (with_state_by kind c n u)
state_sees None c n u = record {
  chains = refl;
  hand = refl;
  share = refl;
  drawn = refl;
  child = refl;
  answering = refl;
  given = refl;
  root = refl;
  exported = refl;
  cells = refl;
  threads = refl;
  names = refl;
  asked = refl;
  ready = refl;
  owners = λ q is. is;
  full = λ q is. is;
}
state_sees (Some counter) c n u = when_sees counter (n == full_word) c n u

pub sees_owner : (p : Program) (d : Data) (u : View) (c n : ℕ) → SeesOnly u (after p d u (CellLoad c words.Owner) (Number n))
unfolding after view_after
sees_owner p d u c n = loaded_sees u (with_owner c n u) (loads.Cell c words.Owner) n (owner_sees c n u)

pub sees_state : (p : Program) (d : Data) (u : View) (c n : ℕ) → SeesOnly u (after p d u (CellLoad c words.State) (Number n))
unfolding after view_after
sees_state p d u c n = loaded_sees u (with_state_by (kind_seen c u) c n u) (loads.Cell c words.State) n (state_sees (kind_seen c u) c n u)

-- ---- the cell of a wait

pub named_same : (wait : Waiting) (u v : View) → v.names ≡ u.names → IsNamed wait u → IsNamed wait v
named_same (waits.Touch cell) u v same h = (h.0, subst (λ (names : List (Held × ℕ)). Contains names (Future h.0, cell)) (sym same) h.1)
named_same (waits.Join cell least) u v same h = (h.0, h.1, subst (λ (names : List (Held × ℕ)). Contains names (Counter h.0 h.1, cell)) (sym same) h.2)
named_same waits.Ready u v same h = h
named_same waits.Start u v same h = h
named_same waits.Trapped u v same h = h

pub kind_same : (wait : Waiting) (u v : View) → v.cells ≡ u.cells → v.threads ≡ u.threads → ((q : ℕ × ℕ) → Contains u.owners q → Contains v.owners q) → IsOfKind wait u → IsOfKind wait v
kind_same (waits.Touch cell) u v cells threads more h = (
  subst (λ (k : ℕ). cell < k) (sym cells) h.0,
  ⊎_elim (λ o. inl (o.0, more (cell, o.0) o.1, o.2)) (λ t. inr (t.0, subst (λ (ts : List Known). Contains ts t.0) (sym threads) t.1, t.2)) h.1,
)
kind_same (waits.Join cell least) u v cells threads more h = (subst (λ (k : ℕ). cell < k) (sym cells) h.0, (h.1.0, more (cell, h.1.0) h.1.1, h.1.2))
kind_same waits.Ready u v cells threads more h = h
kind_same waits.Start u v cells threads more h = h
kind_same waits.Trapped u v cells threads more h = h

pub named_below : (wait : Waiting) (u : View) → TidyNames u → IsNamed wait u → cell_of wait < u.cells
named_below (waits.Touch cell) u tidy h = tidy.below (Future h.0) cell h.1
named_below (waits.Join cell least) u tidy h = tidy.below (Counter h.0 h.1) cell h.2
named_below waits.Ready u tidy h = absurd h
named_below waits.Start u tidy h = absurd h
named_below waits.Trapped u tidy h = absurd h

-- ---- its Owner was read

thread_word : (n parent k : ℕ) → n ≡ thread_owner parent k → (n ≢ 0) × (is_counter n ≡ false)
thread_word n parent k is = (λ z. omega (arith, is, z), ne_eqb ((n - 1) % 2) 1 (λ e. omega (arith, is, e)))

counter_word_is : (n parent k : ℕ) → n ≡ counter_owner parent k → (n ≢ 0) × (is_counter n ≡ true)
counter_word_is n parent k is = let odd : (n - 1) % 2 ≡ 1 = omega (arith, is) in (λ z. omega (arith, is, z), eq-eqb ((n - 1) % 2) 1 odd)

owner_here : (p : Program) (d : Data) (u : View) (c n : ℕ) → n ≢ 0 → Contains (after p d u (CellLoad c words.Owner) (Number n)).owners (c, n)
unfolding after view_after
owner_here p d u c zero some = absurd (some refl)
owner_here p d u c (suc k) some = contains_here (c, suc k) u.owners

pub kind_seen_now : (p : Program) (d : Data) (wait : Waiting) (u : View) (n : ℕ) → TidyNames u → IsNamed wait u → OwnerIs u (cell_of wait) n → IsOfKind wait (after p d u (CellLoad (cell_of wait) words.Owner) (Number n))
kind_seen_now p d (waits.Touch cell) u n tidy h owner =
    let w = ⊎_elim (λ r. thread_word n 0 0 r.1) (λ r. thread_word n r.2 r.1 r.4) (owner.1 (Future h.0) h.1) in
    (subst (λ (k : ℕ). cell < k) (sym (sees_owner p d u cell n).cells) (tidy.below (Future h.0) cell h.1), inl (n, owner_here p d u cell n w.0, w.1))
kind_seen_now p d (waits.Join cell least) u n tidy h owner =
    let r = owner.1 (Counter h.0 h.1) h.2 in
    let w = counter_word_is n r.0 h.1 r.1 in
    (subst (λ (k : ℕ). cell < k) (sym (sees_owner p d u cell n).cells) (tidy.below (Counter h.0 h.1) cell h.2), (n, owner_here p d u cell n w.0, w.1))
kind_seen_now p d waits.Ready u n tidy h owner = absurd h
kind_seen_now p d waits.Start u n tidy h owner = absurd h
kind_seen_now p d waits.Trapped u n tidy h owner = absurd h

-- ---- its State was read

pub over_by : (wait : Waiting) (v w : View) → v.full ≡ w.full → v.counts ≡ w.counts → IsOver w wait → IsOver v wait
over_by (waits.Touch cell) v w full counts h = subst (λ (cs : List ℕ). Contains cs cell) (sym full) h
over_by (waits.Join cell least) v w full counts h = (h.0, subst (λ (cs : List (ℕ × ℕ)). Contains cs (cell, h.0)) (sym counts) h.1, h.2)
over_by waits.Ready v w full counts h = h
over_by waits.Start v w full counts h = h
over_by waits.Trapped v w full counts h = h

pub over_seen : (wait : Waiting) (u : View) (n : ℕ) → TidyNames u → IsNamed wait u → is_over wait n ≡ true → IsOver (with_state_by (kind_seen (cell_of wait) u) (cell_of wait) n u) wait
over_seen (waits.Touch cell) u n tidy h over = seen_full u cell n (named_kind u (Future h.0) cell tidy h.1) (eqb-true n full_word over)
over_seen (waits.Join cell least) u n tidy h over = seen_count u cell n least (named_kind u (Counter h.0 h.1) cell tidy h.2) (leb-true least (count_in n) over)
over_seen waits.Ready u n tidy h over = absurd h
over_seen waits.Start u n tidy h over = absurd h
over_seen waits.Trapped u n tidy h over = absurd h

pub state_over : (p : Program) (d : Data) (wait : Waiting) (u : View) (n : ℕ) → TidyNames u → IsNamed wait u → is_over wait n ≡ true → IsOver (after p d u (CellLoad (cell_of wait) words.State) (Number n)) wait
unfolding after view_after
state_over p d wait u n tidy h over = over_by wait (record (note_loaded (loads.Cell (cell_of wait) words.State) n (with_state_by (kind_seen (cell_of wait) u) (cell_of wait) n u)) { threads = u.threads }) (with_state_by (kind_seen (cell_of wait) u) (cell_of wait) n u) refl refl (over_seen wait u n tidy h over)

-- it isn't, and the waiter may be parked by that word

pub may_park : (wait : Waiting) (u : View) (n : ℕ) → IsNamed wait u → is_over wait n ≡ false → MayPark wait n
may_park (waits.Touch cell) u n h over = λ e. let yes = eq-eqb n full_word e in let no : ⊥ = cc in no
may_park (waits.Join cell least) u n h over = ⊎_elim (λ l. let yes = le-leb least (count_in n) l in let no : ⊥ = cc in absurd no) (λ l. l) (le_or_less least (count_in n))
  where
    le_or_less : (a b : ℕ) → (a ≤ b) ⊎ (b < a)
    le_or_less a b = grind arith
may_park waits.Ready u n h over = absurd h
may_park waits.Start u n h over = absurd h
may_park waits.Trapped u n h over = absurd h

few_head : (n cells : ℕ) → (n ≡ full_word) ⊎ (n ≤ cells) → head_in n ≤ cells
few_head n cells (inl e) = omega (arith, e)
few_head n cells (inr l) = omega (arith, l)

head_few : (wait : Waiting) (u : View) (n : ℕ) → IsOfKind wait u → StateIs u (cell_of wait) n → head_in n ≤ u.cells
head_few (waits.Touch cell) u n kind state = few_head n u.cells (state.future kind.1)
head_few (waits.Join cell least) u n kind state = state.counter kind.1
head_few waits.Ready u n kind state = absurd kind
head_few waits.Start u n kind state = absurd kind
head_few waits.Trapped u n kind state = absurd kind

small_word : (wait : Waiting) (u : View) (n : ℕ) (cell : ℕ) → wait ≡ waits.Touch cell → IsOfKind wait u → StateIs u (cell_of wait) n → n ≢ full_word → n ≤ u.cells
small_word (waits.Touch at) u n cell is kind state other = ⊎_elim (λ e. absurd (other e)) (λ l. l) (state.future kind.1)
small_word (waits.Join at least) u n cell is kind state other = let no : ⊥ = cc in absurd no
small_word waits.Ready u n cell is kind state other = absurd kind
small_word waits.Start u n cell is kind state other = absurd kind
small_word waits.Trapped u n cell is kind state other = absurd kind

pub can_park : (s : Settling) (u v : View) → SeesOnly u v → IsNamed s.wait u → IsOfKind s.wait u → StateIs u (cell_of s.wait) s.seen → CanPark s v
can_park s u v sees named kind state = record {
  named = named_same s.wait u v sees.names named;
  kind = kind_same s.wait u v sees.cells sees.threads sees.owners kind;
  head = subst (λ (k : ℕ). head_in s.seen ≤ k) (sym sees.cells) (head_few s.wait u s.seen kind state);
  small = λ cell is other. subst (λ (k : ℕ). s.seen ≤ k) (sym sees.cells) (small_word s.wait u s.seen cell is kind state other);
}

-- as it could before
pub can_park_still : (s : Settling) (u v : View) → v.cells ≡ u.cells → v.threads ≡ u.threads → v.names ≡ u.names → v.owners ≡ u.owners → CanPark s u → CanPark s v
can_park_still s u v cells threads names owners h = record {
  named = named_same s.wait u v names h.named;
  kind = kind_same s.wait u v cells threads (λ q is. subst (λ (os : List (ℕ × ℕ)). Contains os q) (sym owners) is) h.kind;
  head = subst (λ (k : ℕ). head_in s.seen ≤ k) (sym cells) h.head;
  small = λ cell is other. subst (λ (k : ℕ). s.seen ≤ k) (sym cells) (h.small cell is other);
}

-- what a chain that was taken waits for is named with it

waits_named : (names : List (Held × ℕ)) (thread : Thread) (wait : Waiting) (v : View) → IsWaiting wait → WaitsFor (named_by names) thread wait → ((name : Held) (c : ℕ) → Contains names (name, c) → Contains v.names (name, c)) → IsNamed wait v
waits_named names thread (waits.Touch cell) v is_waiting h more = (h.0, more (Future h.0) cell h.2)
waits_named names thread (waits.Join cell least) v is_waiting h more = (h.0, h.1, more (Counter h.0 h.1) cell h.3)
waits_named names thread waits.Ready v is_waiting h more = absurd is_waiting
waits_named names thread waits.Start v is_waiting h more = absurd is_waiting
waits_named names thread waits.Trapped v is_waiting h more = absurd is_waiting

pub named_walks : (p : Program) (d : Data) (chain : Chain) (cargo : Cargo) (v : View) → Walks p d chain cargo → IsWaiting chain.wait → ((name : Held) (c : ℕ) → Contains cargo.names (name, c) → Contains v.names (name, c)) → IsNamed chain.wait v
named_walks p d chain cargo v walks is_waiting more = ⊎_elim (λ root. absurd (subst IsWaiting root.wait is_waiting)) (λ stands. waits_named cargo.names cargo.carried.known.thread chain.wait v is_waiting stands.0.2 more) walks.0
