-- The steps of a wrong worker are refused: refused. Each proof takes the clause of Careful that the step would need, and finds none of its cases.
use Rattle.std.proofs.Common.{◌≡◌, ◌≢◌, ◌⊎◌, inl, inr, ⊎_elim, ℕ, zero, suc, ◌+◌, ◌*◌, ◌/◌, ◌%◌, ◌^◌, ◌≤◌, ◌<◌, Bool, true, false, List, [], ◌∷◌, Option, Some, None, refl, sym, ap, ◌∙◌, subst, arith}
use Rattle.std.specs.List.{Contains, filter}
use Rattle.st_base.specs.declared.chain.Chain.{Chain}
use Rattle.st_base.specs.declared.chain.Waiting.{Waiting}
use Rattle.st_base.specs.declared.chain.Waiting.TheVariants as waits
use Rattle.st_words.specs.declared.view.CellWord.TheVariants as words
use Rattle.st_words.specs.declared.view.Slot.TheVariants as slots
use Rattle.st_words.specs.declared.view.Known.{Known}
use Rattle.st_words.specs.declared.view.Carried.{Carried}
use Rattle.st_words.specs.declared.view.Cargo.{Cargo}
use Rattle.st_words.specs.declared.view.Waiter.{Waiter}
use Rattle.st_words.specs.declared.view.View.{View}
use Rattle.st_words.specs.Encodings.{thread_owner, counter_owner, counter_word, count_in, full_word, running, trap_word, stop_kind, count_after}
use Rattle.st_words.specs.Steps.{CellStore, CellChange, Draw, ActiveAdd, SlotTake, SlotPut, Done, HasInHand, IsChild, IsFuture, IsCounter}
use Rattle.st_words.specs.Views.{view_after, without_waiter, other_cell, is_at}
use Rattle.st_words.specs.Tidy.{TidyNumbers}
use Rattle.st_words.specs.Careful.{Meaning, Careful, CanSpare, Readies, StopsThere, TopIs, IsNext, IsAtHome, Parks, Joins, ShowsPlace, standing_of}
use Rattle.st_words.specs.Refused.{Leads, ShowsOtherKind, Refused}
use Rattle.st_words.proofs.Lists.{contains_case, filter_out, other_false}

some_is : (n k : ℕ) → Some n ≡ Some k → n ≡ k
some_is n k e = cc

-- a chain that doesn't go on stands at 2 or 4
stands_two_four : (wait : Waiting) (n : ℕ) → standing_of wait ≡ Some n → (n ≡ 2) ⊎ ((n ≡ 4) × (wait ≡ waits.Trapped))
stands_two_four (waits.Touch cell) n e = inl (sym (some_is 2 n e))
stands_two_four (waits.Join cell least) n e = inl (sym (some_is 2 n e))
stands_two_four waits.Trapped n e = inr (sym (some_is 4 n e), refl)
stands_two_four waits.Ready n e = let no : ⊥ = cc in absurd no
stands_two_four waits.Start n e = let no : ⊥ = cc in absurd no

true_is_false : (b : Bool) → b ≡ true → b ≡ false → ⊥
true_is_false b t f = let no : ⊥ = cc in no

module _ (m : Meaning) (u : View) where
  -- a Standing word of 3 that is stored makes a waiter ready
  ready_only : (c : ℕ) → Careful m u (CellStore c words.Standing 3) → Readies m u c 3
  ready_only c k = ⊎_elim (λ r. let e = r.0 in let no : ⊥ = omega (arith, e) in absurd no)
      (λ s. ⊎_elim (λ t. absurd (not_three t)) (λ r. ⊎_elim (λ x. x) (λ e. let f = e.0 in let no : ⊥ = omega (arith, f) in absurd no) r) s) k.stores
    where
      not_three : StopsThere m u c 3 → ⊥
      not_three t = ⊎_elim (λ (e : 3 ≡ 2). let no : ⊥ = omega (arith, e) in no) (λ (r : (3 ≡ 4) × (t.0.wait ≡ waits.Trapped)). let e = r.0 in let no : ⊥ = omega (arith, e) in no) (stands_two_four t.0.wait 3 t.3.1)

  leader_ready : (c : ℕ) → Leads u c → Careful m u (CellStore c words.Standing 3) → ⊥
  leader_ready c leads k = let r = (ready_only c k).1 in true_is_false r.0.leads (leads r.0 r.1 r.2) r.3.0

  leader_linked : (c n : ℕ) → Leads u c → Careful m u (CellStore c words.Next n) → ⊥
  leader_linked c n leads k = let r = k.stores.1 in true_is_false r.0.leads (leads r.0 r.1 r.2) r.3

  -- a linked waiter doesn't lead
  no_leader : (c : ℕ) (x : Waiter) (n : ℕ) → TidyNumbers u → Leads u c → Contains u.hand x → x.cell ≡ c → x.next ≡ Some n → ⊥
  no_leader c x n tidy leads at is next = true_is_false x.leads (leads x at is) (tidy.linked x n at next)

  within : (c : ℕ) (x : Waiter) → TidyNumbers u → Contains u.hand x → x.cell ≡ c → c < u.cells
  within c x tidy at is = tidy.below c (inr (inr (inl (x, at, is))))

  leader_parked : (c cell old : ℕ) → TidyNumbers u → u.cells ≤ 65536 → Leads u c → c < 65536 → (IsCounter u cell → ⊥) → Careful m u (CellChange cell old (c + 1)) → ⊥
  leader_parked c cell old tidy few leads l not k = ⊎_elim
      (λ f. ⊎_elim (λ p. parks p) (λ e. let z : c + 1 ≡ full_word = e.0 in let no : ⊥ = omega (arith, z, l) in no) f.1)
      (λ r. not r.0) k.changes
    where
      parks : Parks m u cell old (c + 1) → ⊥
      parks p = let e : c + 1 ≡ p.0 + 1 = p.1 in let h = p.3 in let same : p.0 ≡ c = omega (arith, e) in no_leader c h.0 old tidy leads h.1 (h.2 ∙ same) h.3.0

  leader_joined : (c cell old count : ℕ) → TidyNumbers u → u.cells ≤ 65536 → Leads u c → c < 65536 → (IsFuture u cell → ⊥) → Careful m u (CellChange cell old (counter_word count (c + 1))) → ⊥
  leader_joined c cell old count tidy few leads l not k = ⊎_elim (λ f. not f.0)
      (λ r. ⊎_elim (λ j. joins j) (λ d. let e : count * 2 ^ 17 + (c + 1) ≡ count_after (count_in old) * 2 ^ 17 + 0 = d.1 in let no : ⊥ = omega (arith, e, l) in no) r.1) k.changes
    where
      joins : Joins m u cell old (counter_word count (c + 1)) → ⊥
      joins j =
          let e : count * 2 ^ 17 + (c + 1) ≡ count_in old * 2 ^ 17 + (j.0 + 1) = j.2 in
          let h = j.5 in
          let b : j.0 < u.cells = within j.0 h.0 tidy h.1 h.2 in
          let same : j.0 ≡ c = omega (arith, e, l, b, few) in
          no_leader c h.0 _ tidy leads h.1 (h.2 ∙ same) h.3.0

  at_home : (c n : ℕ) → IsAtHome u c → (IsChild u c → ⊥) → (Contains u.filled c → ⊥) → n ≢ 3 → Careful m u (CellStore c words.Standing n) → ⊥
  at_home c n home no_child open_yet other k = ⊎_elim (λ r. ⊎_elim (λ x. no_child x) (λ t. home (t.0, t.1, t.2)) r.1)
      (λ s. ⊎_elim (λ t. home (t.0, t.1, t.2)) (λ r. ⊎_elim (λ x. other x.0) (λ e. open_yet e.1) r) s) k.stores

  no_thread : (c : ℕ) → Careful m u (CellStore c words.Standing 0) → ⊥
  no_thread c k = ⊎_elim (λ r. let e = r.0 in let no : ⊥ = omega (arith, e) in no)
      (λ s. ⊎_elim (λ t. not_zero t) (λ r. ⊎_elim (λ x. let e = x.0 in let no : ⊥ = omega (arith, e) in no) (λ e. let f = e.0 in let no : ⊥ = omega (arith, f) in no) r) s) k.stores
    where
      not_zero : StopsThere m u c 0 → ⊥
      not_zero t = ⊎_elim (λ (e : 0 ≡ 2). let no : ⊥ = omega (arith, e) in no) (λ (r : (0 ≡ 4) × (t.0.wait ≡ waits.Trapped)). let e = r.0 in let no : ⊥ = omega (arith, e) in no) (stands_two_four t.0.wait 0 t.3.1)

  other_kind : (c pc shown kind : ℕ) → ShowsOtherKind u c pc shown kind → shown < 16 → kind < 16 → shown ≢ kind → Careful m u (CellStore c words.Standing 4) → ⊥
  other_kind c pc shown kind shows a b differ k = ⊎_elim (λ r. let e = r.0 in let no : ⊥ = omega (arith, e) in no)
      (λ s. ⊎_elim (λ t. stops t) (λ r. ⊎_elim (λ x. let e = x.0 in let no : ⊥ = omega (arith, e) in no) (λ e. let f = e.0 in let no : ⊥ = omega (arith, f) in no) r) s) k.stores
    where
      by : (x : Carried) → (x.trap ≡ Some (trap_word pc shown)) × (stop_kind x.known.thread.standing ≡ Some kind) → ShowsPlace m x waits.Trapped → ⊥
      by x s p =
          let f : kind ≡ p.1 = some_is kind p.1 (sym s.1 ∙ p.3) in
          let w : pc * 16 + shown ≡ p.0 * 16 + p.1 = some_is (trap_word pc shown) (trap_word p.0 p.1) (sym s.0 ∙ p.4) in
          let same : shown ≡ kind = omega (arith, f, w, a, b) in
          differ same

      stops : StopsThere m u c 4 → ⊥
      stops t = ⊎_elim (λ (e : 4 ≡ 2). let no : ⊥ = omega (arith, e) in no)
          (λ (r : (4 ≡ 4) × (t.0.wait ≡ waits.Trapped)). by t.0 (shows t.0 t.1 t.2) (subst (λ (w : Waiting). ShowsPlace m t.0 w) r.1 t.3.2)) (stands_two_four t.0.wait 4 t.3.1)

  other_owner : (t : Known) (rest : List Known) (c n : ℕ) → u.threads ≡ t ∷ rest → n ≢ thread_owner t.note.cell t.note.forks → n ≢ counter_owner t.note.cell t.note.counters → Careful m u (CellStore c words.Owner n) → ⊥
  other_owner t rest c n is a b k = ⊎_elim (λ x. a x.0) (λ x. b x.0) (subst (λ (ts : List Known). TopIs ts (IsNext m u n)) is k.stores)

  no_owner : (c n : ℕ) → u.threads ≡ [] → Careful m u (CellStore c words.Owner n) → ⊥
  no_owner c n is k = subst (λ (ts : List Known). TopIs ts (IsNext m u n)) is k.stores

  last_unit_ready : (c : ℕ) → u.share ≤ 1 → without_waiter c u.hand ≢ [] → Careful m u (CellStore c words.Standing 3) → ⊥
  last_unit_ready c few some_more k = ⊎_elim (λ l. let no : ⊥ = omega (arith, l, few) in no) (λ e. some_more e) (ready_only c k).4

-- one value a cell
one_value : (u : View) (c n k : ℕ) → Contains (view_after u (CellStore c words.Value k) Done).valued (c, n) → n ≡ k
unfolding view_after
one_value u c n k at = ⊎_elim (λ (e : (c, k) ≡ (c, n)). sym (ap (λ (z : ℕ × ℕ). z.1) e))
    (λ (more : Contains (filter (other_cell c) u.valued) (c, n)). absurd (other_false c c (filter_out (other_cell c) u.valued (c, n) more).1 refl)) (contains_case (c, n) (c, k) (filter (other_cell c) u.valued) at)

module _ (m : Meaning) where
  no_fill : (v : View) (t : Known) (rest : List Known) (old k : ℕ) → ((x : Waiter) → Contains v.hand x → x.cell < 65536) → v.threads ≡ t ∷ rest → ((n : ℕ) → Contains v.valued (t.note.cell, n) → n ≡ k) → (m.ends t k → ⊥) → (IsCounter v t.note.cell → ⊥) → Careful m v (CellChange t.note.cell old full_word) → ⊥
  no_fill v t rest old k few is one doesnt not_counter c = ⊎_elim (λ f. ⊎_elim (λ p. parks p) (λ e. fills e.1) f.1) (λ r. not_counter r.0) c.changes
    where
      parks : Parks m v t.note.cell old full_word → ⊥
      parks p = let e : 2 ^ 32 ≡ p.0 + 1 = p.1 in let h = p.3 in let l = few h.0 h.1 in let s = h.2 in let no : ⊥ = omega (arith, e, l, s) in no

      by : (t.note.cell ≡ t.note.cell) × ((value : ℕ) × m.ends t value × Contains v.valued (t.note.cell, value)) → ⊥
      by p = doesnt (subst (λ (n : ℕ). m.ends t n) (one p.1.0 p.1.2) p.1.1)

      fills : TopIs v.threads (λ x. (x.note.cell ≡ t.note.cell) × ((value : ℕ) × m.ends x value × Contains v.valued (t.note.cell, value))) → ⊥
      fills top = by (subst (λ (ts : List Known). TopIs ts (λ x. (x.note.cell ≡ t.note.cell) × ((value : ℕ) × m.ends x value × Contains v.valued (t.note.cell, value)))) is top)

  other_value : (u : View) (t : Known) (rest : List Known) (old k : ℕ) → TidyNumbers u → u.cells ≤ 65536 → u.threads ≡ t ∷ rest → (m.ends t k → ⊥) → (IsCounter u t.note.cell → ⊥) → Careful m (view_after u (CellStore t.note.cell words.Value k) Done) (CellChange t.note.cell old full_word) → ⊥
  unfolding view_after
  other_value u t rest old k tidy few is doesnt not_counter c =
      no_fill (view_after u (CellStore t.note.cell words.Value k) Done) t rest old k (λ x at. let l = tidy.below x.cell (inr (inr (inl (x, at, refl)))) in omega (arith, l, few)) is (λ n at. one_value u t.note.cell n k at) doesnt not_counter c

pub refused : (m : Meaning) → Refused m
refused m = record {
  leader_ready = leader_ready m;
  leader_linked = leader_linked m;
  leader_parked = leader_parked m;
  leader_joined = leader_joined m;
  one_value = one_value;
  other_value = other_value m;
  no_thread = no_thread m;
  at_home = at_home m;
  other_kind = other_kind m;
  drawn_twice = λ u n ns e k. let f = k.draws.0 in let no : ⊥ = cc in no;
  child_twice = λ u c e k. let f = k.draws.1 in let no : ⊥ = cc in no;
  none_ahead = λ u c has few k. let l = k.takes has in let no : ⊥ = omega (arith, l, few) in no;
  waits_in_mail = λ u at chain cargo other k. other k.puts.shows.0;
  hand_in_mail = λ u at chain cargo tidy has k. let e = k.puts.shows.0 in let f = (tidy.waits cargo.carried k.puts.carries.carried has).1 in let g : 1 ≡ 2 = some_is 1 2 (sym e ∙ f) in let no : ⊥ = omega (arith, g) in no;
  hidden = λ u c chain cargo e k. let s = k.puts.shows.1 in let f = ap standing_of e in let no : ⊥ = cc in no;
  other_owner = other_owner m;
  no_owner = no_owner m;
  last_unit = λ u few some_more k. ⊎_elim (λ l. let no : ⊥ = omega (arith, l, few) in no) (λ e. some_more e) k.lowers;
  last_unit_ready = last_unit_ready m;
  empty_frame = λ u f few may. let l = may.some_word in let no : ⊥ = omega (arith, l, few) in no;
}
