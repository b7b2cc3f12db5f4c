-- A thread comes onto a worker: the root's chain, a ready one or one from the mail is taken and restarted; a child is forked. A counter is made. Each
-- step is safe, by what the steps before it left and what their answers promise.
use Rattle.std.proofs.Common.{◌≡◌, ◌≢◌, ◌⊎◌, inl, inr, ⊎_elim, ℕ, zero, suc, ◌+◌, ◌*◌, ◌-◌, ◌/◌, ◌%◌, ◌^◌, ◌≤◌, ◌<◌, Bool, true, false, cond, not, ◌&&◌, ◌||◌, ◌==◌, List, [], ◌∷◌, ◌++◌, map, length, Option, Some, None, refl, sym, ap, ◌∙◌, subst, arith, eq-eqb, ne_eqb}
use Rattle.std.specs.List.{Contains, filter}
use mathlib.Core.Logic.{dite}
use native.Mathlib.Decide.{ℕ_discrete}
use Rattle.st_base.specs.declared.chain.Chain.{Chain}
use Rattle.st_base.specs.declared.chain.Waiting.{Waiting}
use Rattle.st_base.specs.declared.chain.Waiting.TheVariants as waits
use Rattle.st_base.specs.declared.thread.Held.{Held}
use Rattle.st_base.specs.declared.thread.Held.TheVariants as held
use Rattle.st_words.specs.declared.view.CellWord.TheVariants as words
use Rattle.st_words.specs.declared.view.Slot.{Slot}
use Rattle.st_words.specs.declared.view.Slot.TheVariants as slots
use Rattle.st_words.specs.declared.view.Known.{Known}
use Rattle.st_words.specs.declared.view.Carried.{Carried}
use Rattle.st_words.specs.declared.view.Cargo.{Cargo}
use Rattle.st_words.specs.declared.view.Waiter.{Waiter}
use Rattle.st_words.specs.declared.view.View.{View}
use Rattle.st_words.specs.Names.{IsName}
use Rattle.st_words.specs.Encodings.{thread_owner, counter_owner, running, ready, full_word, count_in, is_counter}
use Rattle.st_words.specs.Steps.{CellLoad, CellStore, Draw, RootTake, SlotTake, Done, Number, Took, HasChain, HasInHand, HasThread, IsChild}
use Rattle.st_words.specs.Views.{view_after, kind_seen, kind_by, kind_of, kind_named, owner_seen, is_at, has_number, with_value, with_name, name_for, child_named, child_stands}
use Rattle.st_words.specs.Laws.{taking}
use Rattle.st_words.specs.Promises.{Promises, TakenFrom, IsActive, IsGoingOn, ShowsOver}
use Rattle.st_words.specs.Tidy.{TidyNames}
use Rattle.st_words.specs.Careful.{Meaning, TopIs}
use Rattle.st_words.specs.Moves.{MayRestart, WasSeen, MayBegin}
use Rattle.st_words.proofs.Lists.{contains_here, contains_later, contains_none, contains_case, same_true}
use Rattle.st_words.proofs.Takes.{take_laws}
use Rattle.st_words.specs.Safely.{Safe, StartingLaws}
use Rattle.st_words.proofs.Safe.{store, draw, take, thread_kind, counter_kind, child_stored, child_stays, drawn_named, stood_plainly}

module _ (m : Meaning) (u : View) where
  -- ---- a fork: draw, name, stand, begin

  pub draw_safe : (t : Known) (rest : List Known) → u.drawn ≡ [] → u.child ≡ None → u.threads ≡ t ∷ rest → m.forks t ⊎ m.counts t → Safe m u Draw
  draw_safe t rest none no_child is draws = draw m u (none, no_child, subst (λ (ts : List Known). TopIs ts (λ k. m.forks k ⊎ m.counts k)) (sym is) draws)

  pub child_safe : (c : ℕ) (t : Known) (rest : List Known) → c < u.cells → u.drawn ≡ c ∷ [] → u.child ≡ None → u.threads ≡ t ∷ rest → m.forks t → t.note.cell < u.cells → t.note.forks < 2 ^ 32 → Safe m u (CellStore c words.Owner (thread_owner t.note.cell t.note.forks))
  child_safe c t rest below drawn none is forks parent number =
      let n : ℕ = thread_owner t.note.cell t.note.forks in
      store m u c words.Owner n below
      (subst (λ (xs : List ℕ). Contains xs c) (sym drawn) (contains_here c []), (t.note.cell, t.note.forks, parent, number, inl refl))
      (subst (λ (ts : List Known). TopIs ts (λ k. ((n ≡ thread_owner k.note.cell k.note.forks) × m.forks k × (u.child ≡ None)) ⊎ ((n ≡ counter_owner k.note.cell k.note.counters) × m.counts k))) (sym is) (inl (refl, forks, none)))

  pub counter_safe : (c : ℕ) (t : Known) (rest : List Known) → c < u.cells → u.drawn ≡ c ∷ [] → u.threads ≡ t ∷ rest → m.counts t → t.note.cell < u.cells → t.note.counters < 2 ^ 32 → Safe m u (CellStore c words.Owner (counter_owner t.note.cell t.note.counters))
  counter_safe c t rest below drawn is counts parent number =
      let n : ℕ = counter_owner t.note.cell t.note.counters in
      store m u c words.Owner n below
      (subst (λ (xs : List ℕ). Contains xs c) (sym drawn) (contains_here c []), (t.note.cell, t.note.counters, parent, number, inr refl))
      (subst (λ (ts : List Known). TopIs ts (λ k. ((n ≡ thread_owner k.note.cell k.note.forks) × m.forks k × (u.child ≡ None)) ⊎ ((n ≡ counter_owner k.note.cell k.note.counters) × m.counts k))) (sym is) (inr (refl, counts)))

  -- the child's Standing word, before its note is pushed
  pub child_runs : (c : ℕ) → c < u.cells → IsChild u c → Safe m u (CellStore c words.Standing 1)
  child_runs c below child = store m u c words.Standing 1 below (omega arith, inr (inr (inr (inl child)))) (inl (refl, inl child))

  -- ---- chains that are taken

  pub root_safe : 0 < u.cells → u.root ≡ true → u.hand ≡ [] → u.share + 1 < 2 ^ 32 → Safe m u (SlotTake (slots.Cell 0))
  root_safe below root empty few = take m u (slots.Cell 0) (below, inr (inr (refl, root)), few) (λ h. absurd (contains_none h.0 (subst (λ (xs : List Waiter). Contains xs h.0) empty h.1)))

  pub ready_safe : (c : ℕ) → c < u.cells → Contains u.ready c → (HasInHand u c → ⊥) → u.share + 1 < 2 ^ 32 → Safe m u (SlotTake (slots.Cell c))
  ready_safe c below ready not few = take m u (slots.Cell c) (below, inl ready, few) (λ h. absurd (not h))

  pub mail_safe : u.number < u.workers → u.given ≡ true → u.share + 1 < 2 ^ 32 → Safe m u (SlotTake (slots.Mail u.number))
  mail_safe below given few = take m u (slots.Mail u.number) (below, (refl, given), few) tt

  -- a value is loaded of a future that was seen full
  pub value_load : (c : ℕ) → c < u.cells → Safe m u (CellLoad c words.Value)
  value_load c below = record { can = below; careful = record { writes = tt; puts = tt; takes = tt; stores = tt; changes = tt; lowers = tt; draws = tt; stops = tt } }

-- ---- what the view after has

pub drawn_after : (u : View) (n : ℕ) → u.drawn ≡ [] → (view_after u Draw (Number n)).drawn ≡ n ∷ []
unfolding view_after
drawn_after u n e = ap (λ (xs : List ℕ). n ∷ xs) e

-- a child is named: it may be begun once its Standing word is stored
pub child_after : (u : View) (c : ℕ) (t : Known) → u.drawn ≡ c ∷ [] → ((view_after u (CellStore c words.Owner (thread_owner t.note.cell t.note.forks)) Done).child ≡ Some (record { cell = c; stands = false })) × ((view_after u (CellStore c words.Owner (thread_owner t.note.cell t.note.forks)) Done).drawn ≡ [])
child_after u c t drawn = let n : ℕ = thread_owner t.note.cell t.note.forks in (child_stored u c n (thread_kind t.note.cell t.note.forks), drawn_named u c n drawn)

pub named_after : (u : View) (c : ℕ) (t : Known) (rest : List Known) → u.threads ≡ t ∷ rest → Contains (view_after u (CellStore c words.Owner (thread_owner t.note.cell t.note.forks)) Done).names (held.Future (t.path ++ t.note.forks ∷ []), c)
unfolding view_after
named_after u c t rest is =
    let n : ℕ = thread_owner t.note.cell t.note.forks in
    subst (λ (b : Bool). Contains (with_name b c u.threads u.names) (held.Future (t.path ++ t.note.forks ∷ []), c)) (sym (thread_kind t.note.cell t.note.forks))
    (subst (λ (ts : List Known). Contains (with_name false c ts u.names) (held.Future (t.path ++ t.note.forks ∷ []), c)) (sym is) (contains_here (held.Future (t.path ++ t.note.forks ∷ []), c) u.names))

pub counter_after : (u : View) (c : ℕ) (t : Known) (rest : List Known) → u.drawn ≡ c ∷ [] → u.threads ≡ t ∷ rest → let v = view_after u (CellStore c words.Owner (counter_owner t.note.cell t.note.counters)) Done in (v.child ≡ u.child) × (v.drawn ≡ []) × Contains v.names (held.Counter t.path t.note.counters, c)
unfolding view_after
counter_after u c t rest drawn is =
    let n : ℕ = counter_owner t.note.cell t.note.counters in (
      child_stays u c n (counter_kind t.note.cell t.note.counters),
      drawn_named u c n drawn,
      subst (λ (b : Bool). Contains (with_name b c u.threads u.names) (held.Counter t.path t.note.counters, c)) (sym (counter_kind t.note.cell t.note.counters))
          (subst (λ (ts : List Known). Contains (with_name true c ts u.names) (held.Counter t.path t.note.counters, c)) (sym is) (contains_here (held.Counter t.path t.note.counters, c) u.names)),
    )

pub may_begin : (u : View) (child : Known) → u.child ≡ Some (record { cell = child.note.cell; stands = false }) → u.drawn ≡ [] → let v = view_after u (CellStore child.note.cell words.Standing 1) Done in MayBegin v child
may_begin u child named none =
    let e = stood_plainly u child.note.cell 1 (λ e. omega arith) in
    record {
      named = ap (λ (v : View). v.child) e ∙ ap (child_stands child.note.cell) named ∙ ap (λ (b : Bool). cond b (Some (record { cell = child.note.cell; stands = true })) (Some (record { cell = child.note.cell; stands = false }))) (eq-eqb child.note.cell child.note.cell refl);
      none_drawn = ap (λ (v : View). v.drawn) e ∙ none;
    }

-- Root 1 was found
pub root_found : (u : View) → (view_after u RootTake (Number 1)).root ≡ true
unfolding view_after
root_found u = refl

-- a chain that counts as active goes on; the worker has a unit of the share for it
pub active_taken : (u : View) (c : ℕ) (chain : Chain) (cargo : Cargo) → Promises u (SlotTake (slots.Cell c)) (Took (Some chain) cargo) → IsActive u (slots.Cell c) → let v = taking u (slots.Cell c) chain cargo in Contains v.chains cargo.carried × (cargo.carried.standing ≡ Some ready) × (v.share ≡ u.share + 1) × (v.threads ≡ u.threads) × (cargo.carried.known.note.cell ≡ c)
unfolding view_after
active_taken u c chain cargo told active =
    let e : cargo.unit ≡ 1 = (told.active active).0 in
    (contains_here cargo.carried u.chains, (told.active active).1.0, ap (λ k. u.share + k) e, refl, ap (λ n. n.cell) told.of.0 ∙ told.of.2 ∙ told.cell)

pub mail_taken : (u : View) (at : ℕ) (chain : Chain) (cargo : Cargo) → Promises u (SlotTake (slots.Mail at)) (Took (Some chain) cargo) → let v = taking u (slots.Mail at) chain cargo in Contains v.chains cargo.carried × (cargo.carried.standing ≡ Some running) × (v.share ≡ u.share + 1) × (v.given ≡ false)
unfolding view_after
mail_taken u at chain cargo told =
    let e : cargo.unit ≡ 1 = (told.active tt).0 in
    (contains_here cargo.carried u.chains, (told.active tt).1, ap (λ k. u.share + k) e, refl)

-- what is promised of the State word at which a chain waits that goes on
pub touched_full : (u : View) (x : Carried) (cell n : ℕ) → Promises u (CellLoad cell words.State) (Number n) → Contains u.chains x → IsGoingOn x → x.wait ≡ waits.Touch cell → n ≡ full_word
touched_full u x cell n told at goes wait = (subst (λ (w : Waiting). ShowsOver w cell n) wait (told.over x at goes)) refl

pub joined_enough : (u : View) (x : Carried) (cell least n : ℕ) → Promises u (CellLoad cell words.State) (Number n) → Contains u.chains x → IsGoingOn x → x.wait ≡ waits.Join cell least → least ≤ count_in n
joined_enough u x cell least n told at goes wait = (subst (λ (w : Waiting). ShowsOver w cell n) wait (told.over x at goes)) refl

-- ---- the kind of a cell that has a name

kind_at : (c : ℕ) (name : Held) (y : Held × ℕ) (ys : List (Held × ℕ)) → y.1 ≡ c → kind_of y.0 ≡ kind_of name → kind_named c (y ∷ ys) ≡ kind_of name
kind_at c name y ys e same = ap (λ (b : Bool). cond b (kind_of y.0) (kind_named c ys)) (eq-eqb y.1 c e) ∙ same

kind_later : (c : ℕ) (y : Held × ℕ) (ys : List (Held × ℕ)) → y.1 ≢ c → kind_named c (y ∷ ys) ≡ kind_named c ys
kind_later c y ys n = ap (λ (b : Bool). cond b (kind_of y.0) (kind_named c ys)) (ne_eqb y.1 c n)

at_name : (c : ℕ) (y : Held × ℕ) → y.1 ≡ c → y ≡ (y.0, c)
at_name c y e = λ i. (y.0, e i)

kind_in : (c : ℕ) (name : Held) (names : List (Held × ℕ)) → Contains names (name, c) → ((a : Held) → Contains names (a, c) → a ≡ name) → kind_named c names ≡ kind_of name
kind_in c name [] at one = absurd (contains_none (name, c) at)
kind_in c name (y ∷ ys) at one = dite (ℕ_discrete y.1 c)
    (λ (e : y.1 ≡ c). kind_at c name y ys e (ap kind_of (one y.0 (subst (λ (z : Held × ℕ). Contains (y ∷ ys) z) (at_name c y e) (contains_here y ys)))))
    (λ (n : y.1 ≢ c). kind_later c y ys n ∙ kind_in c name ys
    (⊎_elim (λ (s : y ≡ (name, c)). absurd (n (ap (λ z. z.1) s))) (λ (more : Contains ys (name, c)). more) (contains_case (name, c) y ys at))
    (λ a k. one a (contains_later (a, c) y ys k)))

at_owner : (c : ℕ) (y : ℕ × ℕ) → y.0 ≡ c → y ≡ (c, y.1)
at_owner c y e = λ i. (e i, y.1)

owner_case : (c : ℕ) (owners : List (ℕ × ℕ)) → (owner_seen c owners ≡ None) ⊎ ((n : ℕ) × (owner_seen c owners ≡ Some n) × Contains owners (c, n))
owner_case c [] = inl refl
owner_case c (y ∷ ys) = dite (ℕ_discrete y.0 c)
    (λ (e : y.0 ≡ c). inr (y.1, ap (λ (b : Bool). cond b (Some y.1) (owner_seen c ys)) (eq-eqb y.0 c e), subst (λ (z : ℕ × ℕ). Contains (y ∷ ys) z) (at_owner c y e) (contains_here y ys)))
    (λ (n : y.0 ≢ c). let s = ap (λ (b : Bool). cond b (Some y.1) (owner_seen c ys)) (ne_eqb y.0 c n) in ⊎_elim
    (λ none. inl (s ∙ none))
    (λ r. inr (r.0, s ∙ r.1, contains_later (c, r.0) y ys r.2)) (owner_case c ys))

pub named_kind : (u : View) (name : Held) (c : ℕ) → TidyNames u → Contains u.names (name, c) → kind_seen c u ≡ kind_of name
named_kind u name c tidy at = ⊎_elim
    (λ none. ap (λ (o : Option ℕ). kind_by o (kind_named c u.names)) none ∙ kind_in c name u.names at (λ a k. tidy.one_name a name c k at))
    (λ r. ap (λ (o : Option ℕ). kind_by o (kind_named c u.names)) r.1 ∙ sym (tidy.kinds name c r.0 at r.2)) (owner_case c u.owners)

-- ---- values

has_in : (c : ℕ) (xs : List ℕ) → Contains xs c → has_number xs c ≡ true
has_in c [] at = absurd (contains_none c at)
has_in c (y ∷ ys) at = ⊎_elim (λ (e : y ≡ c). ap (λ (b : Bool). b || has_number ys c) (eq-eqb y c e)) (λ more. ap (λ (b : Bool). (y == c) || b) (has_in c ys more) ∙ or_true (y == c)) (contains_case c y ys at)
  where
    or_true : (b : Bool) → (b || true) ≡ true
    or_true true = refl
    or_true false = refl

pub value_seen : (u : View) (c n : ℕ) → Contains u.full c → Contains (view_after u (CellLoad c words.Value) (Number n)).values (c, n)
unfolding view_after
value_seen u c n full = subst (λ (b : Bool). Contains (with_value c n b u).values (c, n)) (sym (has_in c u.full full)) (contains_here (c, n) u.values)

-- ---- the chain is restarted, once its Standing word is 1 and what it waits for was seen

pub may_restart : (u : View) (x : Carried) → u.threads ≡ [] → Contains u.chains x → x.standing ≡ Some running → WasSeen u x.wait → MayRestart u x
may_restart u x none at stands seen = record { none = none; carried = at; stands = stands; seen = seen }

pub starting_laws : (m : Meaning) → StartingLaws m
starting_laws m = record {
  draw_safe = draw_safe m;
  child_safe = child_safe m;
  counter_safe = counter_safe m;
  child_runs = child_runs m;
  root_safe = root_safe m;
  ready_safe = ready_safe m;
  mail_safe = mail_safe m;
  value_load = value_load m;
  drawn_after = drawn_after;
  child_after = child_after;
  named_after = named_after;
  counter_after = counter_after;
  may_begin = may_begin;
  active_taken = active_taken;
  mail_taken = mail_taken;
  touched_full = touched_full;
  joined_enough = joined_enough;
  named_kind = named_kind;
  value_seen = value_seen;
}
