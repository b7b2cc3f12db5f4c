-- By careful steps the share keeps covering the threads and the turn, and who has a number in hand keeps a share: covered_laws.
use Rattle.std.proofs.Common.{◌≡◌, ◌≢◌, ◌⊎◌, inl, inr, ⊎_elim, ℕ, zero, suc, ◌+◌, ◌*◌, ◌-◌, ◌/◌, ◌%◌, ◌^◌, ◌≤◌, ◌<◌, Bool, true, false, cond, not, ◌&&◌, ◌||◌, ◌==◌, List, [], ◌∷◌, ◌++◌, map, length, Option, Some, None, refl, sym, ap, ◌∙◌, subst, arith, eq-eqb, ne_eqb}
use Rattle.std.specs.List.{Contains, filter}
use Rattle.std.proofs.lemmas.Bool.{cases_eq}
use Rattle.st_base.specs.declared.chain.Chain.{Chain}
use Rattle.st_base.specs.declared.chain.Waiting.{Waiting}
use Rattle.st_base.specs.declared.chain.Waiting.TheVariants as waits
use Rattle.st_words.specs.declared.view.CellWord.TheVariants as words
use Rattle.st_words.specs.declared.view.Slot.{Slot}
use Rattle.st_words.specs.declared.view.Slot.TheVariants as slots
use Rattle.st_words.specs.declared.view.Known.{Known}
use Rattle.st_words.specs.declared.view.Carried.{Carried}
use Rattle.st_words.specs.declared.view.Cargo.{Cargo}
use Rattle.st_words.specs.declared.view.Waiter.{Waiter}
use Rattle.st_words.specs.declared.view.View.{View}
use Rattle.st_words.specs.Steps.{CellStore, ActiveAdd, SlotTake, SlotPut, Done, Number, Took, Can, HasChain, HasInHand, some_thread, taken_share}
use Rattle.st_words.specs.Views.{view_after, without_chain, without_waiter, with_standing, in_hand, made_ready, made_running}
use Rattle.st_words.specs.Promises.{Promises}
use Rattle.st_words.specs.Laws.{taking, putting}
use Rattle.st_words.specs.Careful.{Meaning, Careful, CanSpare, Readies, standing_of}
use Rattle.st_words.specs.Shares.{Covered, CoveredLaws}
use Rattle.st_words.proofs.Lists.{contains_none, contains_case}
use Rattle.st_words.proofs.Puts.{hand_has}
use Rattle.st_words.proofs.Safe.{readied}

-- a unit is added, or one that can be spared is taken
pub added_covered : (m : Meaning) (u : View) (up : Bool) (n : ℕ) → Covered u → Can u (ActiveAdd up) → Careful m u (ActiveAdd up) → Covered (view_after u (ActiveAdd up) (Number n))
unfolding view_after
added_covered m u true n r can careful = record { covers = let l = r.covers in omega (arith, l); holds = λ h. omega arith }
added_covered m u false n r can careful = record { covers = omega (arith, can); holds = λ h. ⊎_elim (λ (l : 2 ≤ u.share). omega (arith, l)) (λ (e : u.hand ≡ []). absurd (h e)) careful.lowers }

-- a chain is taken
pub taken_covered : (m : Meaning) (u : View) (slot : Slot) (chain : Chain) (cargo : Cargo) → Covered u → Can u (SlotTake slot) → Careful m u (SlotTake slot) → Promises u (SlotTake slot) (Took (Some chain) cargo) → taken_share (taking u slot chain cargo) ≤ (taking u slot chain cargo).share
unfolding view_after
taken_covered m u (slots.Mail at) chain cargo r can careful told = let e : cargo.unit ≡ 1 = (told.active tt).0 in let l = r.covers in omega (arith, e, l)
taken_covered m u (slots.Cell c) chain cargo r can careful told = ⊎_elim
    (λ ready. let e : cargo.unit ≡ 1 = (told.active (inl ready)).0 in let l = r.covers in omega (arith, e, l))
    (λ k. ⊎_elim
    (λ h. let l = careful.takes h.0 in omega (arith, l))
    (λ root. let e : cargo.unit ≡ 1 = (told.active (inr root)).0 in let l = r.covers in omega (arith, e, l)) k) can.1

-- ---- a chain is put

shorter : (b : Bool) (x : Carried) (ys zs : List Carried) → length ys ≤ length zs → length (cond b (x ∷ ys) ys) ≤ suc (length zs)
shorter true x ys zs l = omega (arith, l)
shorter false x ys zs l = omega (arith, l)

at_most : (c : ℕ) (xs : List Carried) → length (without_chain c xs) ≤ length xs
at_most c [] = omega arith
at_most c (x ∷ xs) = shorter (not (x.known.note.cell == c)) x (without_chain c xs) xs (at_most c xs)

less : (b : Bool) (x : Carried) (ys zs : List Carried) → suc (length ys) ≤ length zs → suc (length (cond b (x ∷ ys) ys)) ≤ suc (length zs)
less true x ys zs l = omega (arith, l)
less false x ys zs l = omega (arith, l)

one_less : (c : ℕ) (xs : List Carried) (x : Carried) → Contains xs x → x.known.note.cell ≡ c → suc (length (without_chain c xs)) ≤ length xs
one_less c [] x at e = absurd (contains_none x at)
one_less c (y ∷ ys) x at e = ⊎_elim
    (λ (s : y ≡ x). let k : length (without_chain c (y ∷ ys)) ≡ length (without_chain c ys) = ap (λ (b : Bool). length (cond (not b) (y ∷ without_chain c ys) (without_chain c ys))) (eq-eqb y.known.note.cell c (ap (λ z. z.known.note.cell) s ∙ e)) in let l = at_most c ys in omega (arith, k, l))
    (λ more. less (not (y.known.note.cell == c)) y (without_chain c ys) ys (one_less c ys x more e)) (contains_case x y ys at)

pub put_covered : (m : Meaning) (u : View) (slot : Slot) (chain : Chain) (cargo : Cargo) → Covered u → Can u (SlotPut slot chain cargo) → Careful m u (SlotPut slot chain cargo) → Covered (putting u slot chain cargo)
unfolding view_after
put_covered m u (slots.Cell c) chain cargo r can careful =
    let p = careful.puts in
    let none : cargo.unit ≡ 0 = p.unit in
    let h = can.1.1 in
    let k = one_less c u.chains h.0 h.1 h.2 in
    let e : length (without_chain chain.cell u.chains) ≡ length (without_chain c u.chains) = ap (λ d. length (without_chain d u.chains)) can.1.0 in
    let l = r.covers in
    record { covers = omega (arith, none, k, e, l); holds = λ n. omega (arith, none, k, l) }
put_covered m u (slots.Mail at) chain cargo r can careful =
    let p = careful.puts in
    let one : cargo.unit ≡ 1 = p.unit in
    let h = can.1.0 in
    let k = one_less chain.cell u.chains h.0 h.1 h.2 in
    let l = r.covers in
    record { covers = omega (arith, one, k, l); holds = λ n. ⊎_elim (λ (two : 2 ≤ u.share). omega (arith, one, two)) (λ (e : u.hand ≡ []). absurd (n e)) p.shows.1 }

-- ---- a Standing word of 3 is stored

same_length : (c n : ℕ) (xs : List Carried) → length (with_standing c n xs) ≡ length xs
same_length c n [] = refl
same_length c n (x ∷ xs) = ap suc (same_length c n xs)

is_ready : (m : Meaning) (u : View) (c : ℕ) → HasInHand u c → ((x : Carried) → Contains u.chains x → HasInHand u x.known.note.cell → x.standing ≢ None) → Careful m u (CellStore c words.Standing 3) → Readies m u c 3
is_ready m u c h away careful = ⊎_elim (λ r. let e = r.0 in let no : ⊥ = omega (arith, e) in absurd no)
    (λ s. ⊎_elim (λ t. absurd (away t.0 t.1 (subst (HasInHand u) (sym t.2) h) t.3.0)) (λ r. ⊎_elim (λ x. x) (λ e. let f = e.0 in let no : ⊥ = omega (arith, f) in absurd no) r) s) careful.stores

pub ready_covered : (m : Meaning) (u : View) (c : ℕ) → Covered u → HasInHand u c → ((x : Carried) → Contains u.chains x → HasInHand u x.known.note.cell → x.standing ≢ None) → Careful m u (CellStore c words.Standing 3) → Covered (view_after u (CellStore c words.Standing 3) Done)
ready_covered m u c r h away careful =
    let k = is_ready m u c h away careful in
    let l = k.3 in
    let long = same_length c 3 u.chains in
    subst Covered (sym (readied u c h)) (record {
      covers = omega (arith, l, long);
      holds = λ n. ⊎_elim (λ (two : 2 ≤ u.share). omega (arith, two)) (λ (e : without_waiter c u.hand ≡ []). absurd (n e)) k.4;
    })

pub covered_laws : (m : Meaning) → CoveredLaws m
covered_laws m = record { added_covered = added_covered m; taken_covered = taken_covered m; put_covered = put_covered m; ready_covered = ready_covered m }
