-- What steps change of what limits read of a view. IsQuiet and same_after: the drawn numbers stay, a named child too, and the turn has the same threads. pending_after: which steps, also
-- of slots, leave the drawn numbers and the child as they are.
use Rattle.std.proofs.Common.{◌≡◌, ◌≢◌, ℕ, Bool, true, false, Option, Some, None, refl, sym, ◌∙◌, subst, ◌==◌, ◌&&◌, if◌then◌else◌}
use Rattle.st_words.specs.declared.view.CellWord.TheVariants.{Owner, State, Value, Next, Standing, Trap}
use Rattle.st_words.specs.declared.view.Slot.TheVariants.{Cell, Mail}
use Rattle.st_words.specs.declared.view.Child.{Child}
use Rattle.st_words.specs.declared.view.View.{View}
use Rattle.st_words.specs.Encodings.{running, ready}
use Rattle.st_words.specs.Steps.{Step, CellLoad, CellStore, Draw, SlotTake, SlotPut, Answer, Done}
use Rattle.st_words.specs.Views as views
use Rattle.st_words.specs.Views.{view_after, in_hand, child_stands, with_standing}
use Rattle.st_world.proofs.Untouched.{merged, after_merged}
use Rattle.st_threads.proofs.ViewsAfter.{SameTurn, same_after as turn_after}

-- the same number is drawn, or child named
abbrev pub SamePending : View → View → Type 0
SamePending u v = (v.drawn ≡ u.drawn) × (u.child ≡ None → v.child ≡ None) × (v.child ≡ None → u.child ≡ None)

abbrev pub SameView : View → View → Type 0
SameView u v = SamePending u v × SameTurn u v

abbrev pub IsQuiet : Step → Type 0
IsQuiet (CellStore c Owner n) = ⊥
IsQuiet Draw = ⊥
IsQuiet (SlotTake slot) = ⊥
IsQuiet (SlotPut slot chain cargo) = ⊥
IsQuiet _ = Prim.Unit

-- ---- the drawn numbers and the child

-- a step that changes neither
abbrev pub LeavesPending : Step → Type 0
LeavesPending (CellStore c Owner n) = ⊥
LeavesPending (CellStore c Standing n) = ⊥
LeavesPending Draw = ⊥
LeavesPending _ = Prim.Unit

abbrev Left : View → View → Type 0
Left u v = (v.drawn ≡ u.drawn) × (v.child ≡ u.child)

merged_left : (s : Step) (x u : View) → LeavesPending s → Left u (merged s x u)
merged_left (CellStore c Owner n) x u q = absurd q
merged_left (CellStore c Standing n) x u q = absurd q
merged_left Draw x u q = absurd q
merged_left (CellStore c Value n) x u q = (refl, refl)
merged_left (CellStore c Next n) x u q = (refl, refl)
merged_left (CellStore c Trap n) x u q = (refl, refl)
merged_left (CellStore c word n) x u q = (refl, refl)
merged_left (CellLoad c Owner) x u q = (refl, refl)
merged_left (CellLoad c State) x u q = (refl, refl)
merged_left (CellLoad c Value) x u q = (refl, refl)
merged_left (CellLoad c Next) x u q = (refl, refl)
merged_left (CellLoad c word) x u q = (refl, refl)
merged_left (SlotTake (Cell c)) x u q = (refl, refl)
merged_left (SlotTake (Mail at)) x u q = (refl, refl)
merged_left (SlotPut (Cell c) chain cargo) x u q = (refl, refl)
merged_left (SlotPut (Mail at) chain cargo) x u q = (refl, refl)
merged_left s x u q = (refl, refl)

pub pending_after : (u : View) (s : Step) (a : Answer) → LeavesPending s → Left u (view_after u s a)
pending_after u s a q = subst (λ (v : View). Left u v) (sym (after_merged u s a)) (merged_left s (view_after u s a) u q)

-- a child that stands is named still
stands_if : (b : Bool) (x : Child) → (if b then Some (record x { stands = true }) else Some x) ≢ None
stands_if true x e = let no : ⊥ = cc in no
stands_if false x e = let no : ⊥ = cc in no

stands_none : (c : ℕ) (o : Option Child) → o ≡ None → child_stands c o ≡ None
stands_none c None e = refl
stands_none c (Some x) e = let no : ⊥ = cc in absurd no

stands_back : (c : ℕ) (o : Option Child) → child_stands c o ≡ None → o ≡ None
stands_back c None e = refl
stands_back c (Some x) e = absurd (stands_if (x.cell == c) x e)

stood : (a b : Bool) (c n : ℕ) (v : View) → SamePending v (views.made_ready a c (views.made_running b c (record v { chains = with_standing c n v.chains })))
stood true true c n v = (refl, stands_none c v.child, stands_back c v.child)
stood true false c n v = (refl, λ e. e, λ e. e)
stood false true c n v = (refl, stands_none c v.child, stands_back c v.child)
stood false false c n v = (refl, λ e. e, λ e. e)

-- ---- each step

stands : (c n : ℕ) (a : Answer) (u : View) → SamePending u (view_after u (CellStore c Standing n) a)
unfolding view_after
stands c n Done u = stood ((n == ready) && in_hand c u.hand) (n == running) c n u
stands c n _ u = (refl, λ e. e, λ e. e)

pub same_after : (u : View) (s : Step) (a : Answer) → IsQuiet s → SameView u (view_after u s a)
same_after u (CellStore c Owner n) a q = absurd q
same_after u Draw a q = absurd q
same_after u (SlotTake slot) a q = absurd q
same_after u (SlotPut slot chain cargo) a q = absurd q
same_after u (CellStore c Standing n) a q = (stands c n a u, turn_after u (CellStore c Standing n) a tt)
same_after u s a q = let z = pending_after u s a tt in ((z.0, λ e. z.1 ∙ e, λ e. sym z.1 ∙ e), turn_after u s a tt)
