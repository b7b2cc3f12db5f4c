-- What a worker is ahead with, that has begun no item: nothing where it shrinks its stack and no frame is exported (nothing_ahead), and its exported frames where it gives its bottom thread away (giving_ahead).
use Rattle.std.proofs.Common.{◌≡◌, ℕ, zero, suc, ◌+◌, ◌-◌, Bool, true, false, ◌&&◌, List, [], ◌∷◌, Option, refl, sym, ap, ◌∙◌, subst, arith}
use Rattle.std.specs.Prelude.{if◌then◌else◌, not}
use Rattle.st_base.specs.declared.chain.Frame.{Frame}
use Rattle.st_base.specs.declared.thread.Standing.{Standing}
use Rattle.st_words.specs.declared.view.Known.{Known}
use Rattle.st_words.specs.declared.view.View.{View}
use Rattle.st_model.specs.declared.program.Program.{Program}
use Rattle.st_model.specs.Memory.{Data}
use Rattle.st_ahead.specs.Ahead.{brought, is_going}
use Rattle.st_ahead.proofs.Exporting.{same}
use Rattle.st_ahead.specs.Naming.{exported, on, opened_by}
use Rattle.st_phases.specs.declared.automaton.Automaton.{Automaton}
use Rattle.st_phases.specs.declared.phase.Phase.{Phase}
use Rattle.st_phases.specs.declared.phase.Phase.TheVariants as phases
use Rattle.st_fits.specs.Before.{before, begun, come, is_held_up, taken_out, with_child, with_items}
use Rattle.st_fits.specs.Threads.{IsPlain}

-- ---- an item that was begun shows

first_is : (t k : Known) (ts ks : List Known) → t ∷ ts ≡ k ∷ ks → t ≡ k
first_is t k ts ks e = cc

opened_when : (w : View) (t : Known) (ts : List Known) (b : Bool) (top : Known) (below : List Known) → (is_going t.thread.standing && not t.begun) ≡ b → w.threads ≡ t ∷ ts → (if b then record w { threads = record t { begun = true } ∷ ts; items = w.items + 1 } else w).threads ≡ top ∷ below → IsPlain top → ⊥
opened_when w t ts true top below test are is plain =
    let same : record t { begun = true } ≡ top = first_is (record t { begun = true }) top ts below is in
    let yes : true ≡ top.begun = ap (λ (k : Known). k.begun) same in
    let no = plain.not_yet in
    let never : ⊥ = cc in never
opened_when w t ts false top below test are is plain =
    let same : t ≡ top = first_is t top ts below (sym are ∙ is) in
    let going : is_going t.thread.standing ≡ true = ap (λ (k : Known). is_going k.thread.standing) same ∙ ap (λ (s : Standing). is_going s) plain.going in
    let not_yet : not t.begun ≡ true = ap (λ (k : Known). not k.begun) same ∙ ap not plain.not_yet in
    let both : (is_going t.thread.standing && not t.begun) ≡ true = ap (λ (b : Bool). b && not t.begun) going ∙ not_yet in
    let never : ⊥ = cc in never

opened_plain : (w : View) (ts : List Known) (top : Known) (below : List Known) → w.threads ≡ ts → (opened_by w ts).threads ≡ top ∷ below → IsPlain top → ⊥
opened_plain w [] top below are is plain = let same : [] ≡ top ∷ below = sym are ∙ is in let never : ⊥ = cc in never
opened_plain w (t ∷ ts) top below are is plain = opened_when w t ts (is_going t.thread.standing && not t.begun) top below refl are is plain

module _ (p : Program) (d : Data) where
  none_begun : (n : ℕ) (v : View) (top : Known) (below : List Known) → (begun p d n v).threads ≡ top ∷ below → IsPlain top → begun p d n v ≡ v
  none_begun zero v top below is plain = refl
  none_begun (suc n) v top below is plain = let w : View = brought p d n (on p d v) in absurd (opened_plain w w.threads top below refl is plain)

  before_shrinking : (asker : Option ℕ) (x : Automaton) (v : View) → x.phase ≡ phases.Shrinking asker → x.stack.exported ≡ [] → before p d x v ≡ begun p d (x.items - v.items) v
  unfolding before
  before_shrinking asker x v e none =
      ap (λ (φ : Phase). exported x.stack.exported (taken_out φ (with_items p d (is_held_up x φ) (x.items - (with_child p d φ (come φ v)).items) (with_child p d φ (come φ v))))) e ∙ ap (λ (fs : List Frame). exported fs (begun p d (x.items - v.items) v)) none

  pub nothing_ahead : (asker : Option ℕ) (x : Automaton) (v : View) (top : Known) (below : List Known) → x.phase ≡ phases.Shrinking asker → x.stack.exported ≡ [] → (before p d x v).threads ≡ top ∷ below → IsPlain top → before p d x v ≡ v
  nothing_ahead asker x v top below e none is plain =
      let at = before_shrinking asker x v e none in
      at ∙ none_begun (x.items - v.items) v top below (subst (λ (w : View). w.threads ≡ top ∷ below) at is) plain

  -- ---- where a thread is given away

  before_giving : (asker : ℕ) (x : Automaton) (v : View) → x.phase ≡ phases.Giving asker → before p d x v ≡ exported x.stack.exported (begun p d (x.items - v.items) v)
  unfolding before
  before_giving asker x v e = ap (λ (φ : Phase). exported x.stack.exported (taken_out φ (with_items p d (is_held_up x φ) (x.items - (with_child p d φ (come φ v)).items) (with_child p d φ (come φ v))))) e

  pub giving_ahead : (asker : ℕ) (x : Automaton) (v : View) (top : Known) (below : List Known) → x.phase ≡ phases.Giving asker → (before p d x v).threads ≡ top ∷ below → IsPlain top → before p d x v ≡ exported x.stack.exported v
  giving_ahead asker x v top below e is plain =
      let at = before_giving asker x v e in
      let w : View = begun p d (x.items - v.items) v in
      let threads : (exported x.stack.exported w).threads ≡ w.threads = ap (λ (k : View). k.threads) (same w x.stack.exported) in
      at ∙ ap (exported x.stack.exported) (none_begun (x.items - v.items) v top below (sym threads ∙ subst (λ (k : View). k.threads ≡ top ∷ below) at is) plain)

  -- behind a step with which no item was begun
  pub giving_behind : (asker : ℕ) (x : Automaton) (v : View) → x.phase ≡ phases.Giving asker → x.items ≡ v.items → before p d x v ≡ exported x.stack.exported v
  giving_behind asker x v e items = before_giving asker x v e ∙ ap (λ (n : ℕ). exported x.stack.exported (begun p d n v)) (let none : x.items - v.items ≡ 0 = omega (arith, items) in none)
