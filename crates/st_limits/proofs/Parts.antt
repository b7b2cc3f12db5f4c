-- Parts of what is kept, where the view of one worker changes: which items draw (not_drawing, draws_one), where a begun thread is (begun_here, begun_to, begun_else), whose draw waits
-- (drawer_here, drawer_else), and the numbers of all workers (numbers_else).
use Rattle.std.proofs.Common.{◌≡◌, ◌≢◌, inl, inr, ℕ, ◌≤◌, true, List, [], ◌∷◌, Option, Some, None, refl, sym, ap, ◌∙◌, subst, arith}
use Rattle.std.specs.List.{Contains}
use mathlib.Core.Logic.{dite}
use native.Mathlib.Decide.{ℕ_discrete}
use Rattle.st_base.specs.declared.chain.Chain.{Chain}
use Rattle.st_words.specs.declared.view.Slot.{Slot}
use Rattle.st_words.specs.declared.view.Known.{Known}
use Rattle.st_words.specs.declared.view.Cargo.{Cargo}
use Rattle.st_words.specs.declared.view.View.{View}
use Rattle.st_words.specs.Careful.{TopIs}
use Rattle.st_model.specs.declared.program.Program.{Program}
use Rattle.st_model.specs.Memory.{Data}
use Rattle.st_model.specs.Heap.{Path, Heap, Change, Move, Moves, Enabled}
use Rattle.st_model.specs.Limits.{cells_drawn}
use Rattle.st_laws.proofs.ItemChanges.{one_is_drawn}
use Rattle.st_world.specs.Functions.{put}
use Rattle.st_world.proofs.Functions.{put_here, put_other, put_all}
use Rattle.st_made.specs.Items.{next_move, IsDrawing}
use Rattle.st_made.specs.Runs.{all_known}
use Rattle.st_made.proofs.MadeRuns.{at_once}
use Rattle.st_limits.specs.Stopping.{IsBegun, HasPending, DrawsFor, HasNumbers}

-- ---- lists

pub none_or : {X : Type 0} (xs : List X) → (xs ≢ [] → ⊥) → xs ≡ []
none_or [] d = refl
none_or (x ∷ xs) d = absurd (d (λ e. let no : ⊥ = cc in no))

pub top_case : (P : Known → Type 0) (ts : List Known) → TopIs ts P → (t : Known) × (below : List Known) × (ts ≡ t ∷ below) × P t
top_case P [] is = absurd is
top_case P (t ∷ ts) is = (t, ts, refl, is)

module _ (program : Program) (source : Data) where
  -- ---- which items draw

  drawing_by : (h : Heap) (t : Known) (m : Move) (c d : Change) → Enabled h m c → m ≡ Moves d → d ≡ c
  drawing_by h t m c d enabled e = subst (λ (k : Move). Enabled h k c) e enabled

  pub not_drawing : (h : Heap) (t : Known) (c : Change) → Enabled h (next_move program source t) c → c.child ≡ None → c.own.counters ≡ t.thread.counters → IsDrawing program source t → ⊥
  not_drawing h t c enabled none same (inl f) = f.2 (ap (λ (d : Change). d.child) (drawing_by h t (next_move program source t) c f.0 enabled f.1) ∙ none)
  not_drawing h t c enabled none same (inr f) = f.2 (ap (λ (d : Change). d.own.counters) (drawing_by h t (next_move program source t) c f.0 enabled f.1) ∙ same)

  -- the change of a thread that draws, and that it draws one
  pub draws_one : (h : Heap) (t : Known) → IsDrawing program source t → (c : Change) × (next_move program source t ≡ Moves c) × (cells_drawn program t.path t.thread ≡ 1)
  draws_one h t (inl f) = (f.0, f.1, (one_is_drawn program source h t.path t.thread f.0 (at_once program source h t f.0 f.1)).0 (inl f.2))
  draws_one h t (inr f) = (f.0, f.1, (one_is_drawn program source h t.path t.thread f.0 (at_once program source h t f.0 f.1)).0 (inr f.2))

  -- ---- one view changes

  module _ (slot : Slot → Option Chain) (cargo : Slot → Cargo) (view : ℕ → View) (w : ℕ) (v : View) where
    pub begun_here : (t : Known) → Contains (all_known v) t → t.begun ≡ true → IsBegun program source slot cargo (put view w v) t.path
    begun_here t m b = inl (w, t, subst (λ (y : View). Contains (all_known y) t) (sym (put_here view w v)) m, refl, b)

    -- another worker has it still, or a slot
    pub begun_to : (slot' : Slot → Option Chain) (cargo' : Slot → Cargo) (p : Path) → ((t : Known) → Contains (all_known (view w)) t → t.path ≡ p → t.begun ≡ true → IsBegun program source slot' cargo' (put view w v) t.path) → ((z : Slot) (b : Chain) → slot z ≡ Some b → (cargo z).carried.known.path ≡ p → (cargo z).carried.known.begun ≡ true → IsBegun program source slot' cargo' (put view w v) p) → IsBegun program source slot cargo view p → IsBegun program source slot' cargo' (put view w v) p
    begun_to slot' cargo' p own slots (inr z) = slots z.0 z.1 z.2 z.3 z.4
    begun_to slot' cargo' p own slots (inl k) = dite (ℕ_discrete k.0 w)
        (λ (e : k.0 ≡ w). subst (IsBegun program source slot' cargo' (put view w v)) k.3 (own k.1 (subst (λ (q : ℕ). Contains (all_known (view q)) k.1) e k.2) k.3 k.4))
        (λ (n : k.0 ≢ w). inl (k.0, k.1, subst (λ (y : View). Contains (all_known y) k.1) (sym (put_other view w v k.0 n)) k.2, k.3, k.4))

    pub begun_else : (p : Path) → ((t : Known) → Contains (all_known (view w)) t → t.path ≡ p → t.begun ≡ true → IsBegun program source slot cargo (put view w v) t.path) → IsBegun program source slot cargo view p → IsBegun program source slot cargo (put view w v) p
    begun_else p own k = begun_to slot cargo p own (λ z b e path flag. inr (z, b, e, path, flag)) k

    abbrev Drawer : (ℕ → View) → Path → Type 0
    Drawer y p = (q : ℕ) × HasPending program source (y q) × TopIs (y q).threads (DrawsFor program source p)

    pub drawer_here : (p : Path) → HasPending program source v → TopIs v.threads (DrawsFor program source p) → Drawer (put view w v) p
    drawer_here p pending top = (w, subst (HasPending program source) (sym (put_here view w v)) pending, subst (λ (y : View). TopIs y.threads (DrawsFor program source p)) (sym (put_here view w v)) top)

    pub drawer_else : (p : Path) → (HasPending program source (view w) → TopIs (view w).threads (DrawsFor program source p) → Drawer (put view w v) p) → Drawer view p → Drawer (put view w v) p
    drawer_else p own k = dite (ℕ_discrete k.0 w)
        (λ (e : k.0 ≡ w). own (subst (λ (q : ℕ). HasPending program source (view q)) e k.1) (subst (λ (q : ℕ). TopIs (view q).threads (DrawsFor program source p)) e k.2))
        (λ (n : k.0 ≢ w). (k.0, subst (HasPending program source) (sym (put_other view w v k.0 n)) k.1, subst (λ (y : View). TopIs y.threads (DrawsFor program source p)) (sym (put_other view w v k.0 n)) k.2))

    pub numbers_else : (items frames more longer : ℕ) → items ≤ more → frames ≤ longer → HasNumbers program source more longer v → ((q : ℕ) → HasNumbers program source items frames (view q)) → (q : ℕ) → HasNumbers program source more longer (put view w v q)
    numbers_else items frames more longer a b own each q = put_all (λ (k : ℕ) (y : View). HasNumbers program source more longer y) view w v q
        (λ e. own)
        (λ n. let z = each q in let i = z.items_within in let f = z.bytes_within in record { items_within = omega (arith, i, a); bytes_within = omega (arith, f, b); pending = z.pending; one = z.one })
