-- What a test shows on whose board the first worker takes the root's chain: that it finds Root 1 (root_seen) and the chain (root_found), and has
-- a share of the active count then (root_share).
use Rattle.std.proofs.Common.{ℕ, ◌+◌, ◌<◌, true, ◌≡◌, ◌==◌, List, length, replicate, slice_get, slice_set, Option, Some, None, inr, refl, sym, ap, ◌∙◌, subst, arith, get_or-set_same}
use Rattle.std.specs.Int.{from_bool}
use Rattle.std.proofs.lemmas.List.{length-replicate}
use Rattle.std.proofs.lemmas.Option.{get_or_from_slice_get}
use Rattle.st_base.specs.declared.chain.Chain.{Chain}
use Rattle.st_base.specs.declared.limits.Limits.{Limits}
use Rattle.st_base.specs.declared.thread.Thread.{Thread}
use Rattle.st_words.specs.declared.view.Cargo.{Cargo}
use Rattle.st_words.specs.declared.view.Slot.TheVariants.{Cell}
use Rattle.st_words.specs.declared.view.View.{View}
use Rattle.st_words.specs.declared.words.Words.{Words}
use Rattle.st_words.specs.Laws.{named, progress_of}
use Rattle.st_words.specs.Plain.{Cargoes, first_view, first_words, first_cargoes, words_after, in_slot, cargo_in, root_chain, root_cargo}
use Rattle.st_words.specs.Steps.{Step, RootTake, SlotTake, ActiveAdd, Answer, Number, Took, Can, Asks}
use Rattle.st_words.specs.Views.{Does, IsFree, view_after, no_cargo}
use Rattle.st_words.proofs.Naming.{plain_asks}

-- the view of a worker that found Root 1
abbrev pub root_view : Limits → View
root_view limits = named (progress_of (first_view limits 2 0)) (first_view limits 2 0) RootTake (Number 1)

pub root_seen : (limits : Limits) (x : Words) (v u : View) (n : ℕ) → x ≡ first_words limits 2 → n ≡ from_bool (x.root == 1) → v ≡ first_view limits 2 0 → u ≡ named (progress_of v) v RootTake (Number n) → u ≡ root_view limits
unfolding first_words
root_seen limits x v u n words said first after =
    let one : n ≡ 1 = said ∙ ap (λ (y : Words). from_bool (y.root == 1)) words in
    after ∙ ap (λ (m : ℕ). named (progress_of v) v RootTake (Number m)) one ∙ ap (λ (w : View). named (progress_of w) w RootTake (Number 1)) first

root_can : (limits : Limits) → 0 < limits.cells → Can (root_view limits) (SlotTake (Cell 0))
unfolding view_after
root_can limits some = (some, inr (inr (refl, refl)), omega arith)

pub asks_root : (says : Step → Answer → Type 0) (limits : Limits) (u : View) → 0 < limits.cells → u ≡ root_view limits → Asks says IsFree Does (λ w t a. named (progress_of w) w t a) u (SlotTake (Cell 0))
asks_root says limits u some seen = plain_asks says u (SlotTake (Cell 0)) (subst (λ (x : View). Can x (SlotTake (Cell 0))) (sym seen) (root_can limits some))

-- the root's chain lies in its slot
abbrev no_chains : Limits → List (Option Chain)
no_chains limits = replicate limits.cells None

pub root_found : (limits : Limits) (x y : Words) (n : ℕ) (found : Option Chain) → 0 < limits.cells → x ≡ first_words limits 2 → y ≡ words_after x 0 RootTake (Number n) → in_slot y (Cell 0) ≡ Some found → found ≡ Some root_chain
unfolding first_words words_after
root_found limits x y n found some words left said =
    let slots : y.cell_slots ≡ slice_set (no_chains limits) 0 (Some root_chain) = ap (λ (z : Words). z.cell_slots) left ∙ ap (λ (z : Words). z.cell_slots) words in
    let there : slice_get (slice_set (no_chains limits) 0 (Some root_chain)) 0 ≡ Some found = subst (λ (l : List (Option Chain)). slice_get l 0 ≡ Some found) slots said in
    let count : length (no_chains limits) ≡ limits.cells = length-replicate limits.cells None in
    sym (get_or_from_slice_get _ 0 found None there) ∙ get_or-set_same (no_chains limits) 0 (Some root_chain) None (omega arith)

-- it counts as active
root_unit : (limits : Limits) (thread : Thread) → 0 < limits.cells → (cargo_in (first_cargoes limits 2 thread) (Cell 0)).unit ≡ 1
unfolding first_cargoes
root_unit limits thread some =
    let count : length (replicate limits.cells no_cargo) ≡ limits.cells = length-replicate limits.cells no_cargo in
    ap (λ (cargo : Cargo). cargo.unit) (get_or-set_same (replicate limits.cells no_cargo) 0 (root_cargo thread) _ (omega arith))

root_taken : (limits : Limits) (chain : Chain) (cargo : Cargo) → (named (progress_of (root_view limits)) (root_view limits) (SlotTake (Cell 0)) (Took (Some chain) cargo)).share ≡ 0 + cargo.unit
unfolding view_after
root_taken limits chain cargo = refl

pub root_share : (limits : Limits) (thread : Thread) (ls : Cargoes) (u v : View) (found : Option Chain) (cargo : Cargo) → 0 < limits.cells → ls ≡ first_cargoes limits 2 thread → u ≡ root_view limits → found ≡ Some root_chain → cargo ≡ cargo_in ls (Cell 0) → v ≡ named (progress_of u) u (SlotTake (Cell 0)) (Took found cargo) → v.share ≡ 1
root_share limits thread ls u v found cargo some cargoes seen there of after =
    let unit : cargo.unit ≡ 1 = ap (λ (l : Cargo). l.unit) of ∙ ap (λ (l : Cargoes). (cargo_in l (Cell 0)).unit) cargoes ∙ root_unit limits thread some in
    let taken : v ≡ named (progress_of (root_view limits)) (root_view limits) (SlotTake (Cell 0)) (Took (Some root_chain) cargo) = after ∙ ap (λ (o : Option Chain). named (progress_of u) u (SlotTake (Cell 0)) (Took o cargo)) there ∙ ap (λ (w : View). named (progress_of w) w (SlotTake (Cell 0)) (Took (Some root_chain) cargo)) seen in
    let share : v.share ≡ 0 + cargo.unit = ap (λ (w : View). w.share) taken ∙ root_taken limits root_chain cargo in
    omega arith

pub asks_active_add : (says : Step → Answer → Type 0) (v : View) → v.share ≡ 1 → Asks says IsFree Does (λ w t a. named (progress_of w) w t a) v (ActiveAdd true)
asks_active_add says v share = plain_asks says v (ActiveAdd true) (omega arith, omega arith)
