-- Which steps change nothing of a view that names are read from: IsSame and same_after.
use Rattle.std.proofs.Common.{◌≡◌, ℕ, Bool, true, false, cond, Option, Some, None, refl, sym, subst, ◌==◌, ◌&&◌}
use Rattle.st_words.specs.declared.view.CellWord.TheVariants.{Owner, State, Value, Next, Standing}
use Rattle.st_words.specs.declared.view.Child.{Child}
use Rattle.st_words.specs.declared.view.View.{View}
use Rattle.st_words.specs.Encodings.{running, ready}
use Rattle.st_words.specs.Steps.{Step, CellLoad, CellStore, SlotTake, SlotPut, Answer, Done}
use Rattle.st_words.specs.Views as views
use Rattle.st_words.specs.Views.{view_after, in_hand}
use Rattle.st_world.proofs.Untouched.{merged, after_merged, by_bool}
use Rattle.st_made.specs.Runs.{known_of}
use Rattle.st_threads.proofs.ViewsAfter.{same_after as turn_after}
use Rattle.st_names.proofs.Told.{child_cell}

abbrev pub SameParts : View → View → Type 0
SameParts u v = (v.names ≡ u.names) × (known_of v.chains ≡ known_of u.chains) × (child_cell v.child ≡ child_cell u.child) × (v.valued ≡ u.valued)

abbrev pub IsSame : Step → Type 0
IsSame (CellStore c Owner n) = ⊥
IsSame (CellStore c Value n) = ⊥
IsSame (SlotTake slot) = ⊥
IsSame (SlotPut slot chain cargo) = ⊥
IsSame _ = Prim.Unit

-- all but the turn
abbrev Rest : View → View → Type 0
Rest u v = (v.names ≡ u.names) × (child_cell v.child ≡ child_cell u.child) × (v.valued ≡ u.valued)

abbrev itself : (v : View) → Rest v v
itself v = (refl, refl, refl)

-- ---- a Standing word is stored

same_child : (c : ℕ) (o : Option Child) → child_cell (views.child_stands c o) ≡ child_cell o
same_child c None = refl
same_child c (Some x) = by_bool (λ b. child_cell (cond b (Some (record x { stands = true })) (Some x)) ≡ Some x.cell) refl refl (x.cell == c)

stood : (b r : Bool) (c n : ℕ) (v : View) → Rest v (views.made_ready b c (views.made_running r c (record v { chains = views.with_standing c n v.chains })))
stood true true c n v = (refl, same_child c v.child, refl)
stood false true c n v = (refl, same_child c v.child, refl)
stood true false c n v = itself v
stood false false c n v = itself v

stands : (c n : ℕ) (a : Answer) (u : View) → Rest u (view_after u (CellStore c Standing n) a)
unfolding view_after
stands c n Done u = stood ((n == ready) && in_hand c u.hand) (n == running) c n u
stands c n _ u = itself u

-- ---- each step

-- a step that may change none of these parts
abbrev Leaves : Step → Type 0
Leaves (CellStore c Standing n) = ⊥
Leaves s = IsSame s

merged_rest : (s : Step) (x u : View) → Leaves s → Rest u (merged s x u)
merged_rest (CellStore c Owner n) x u q = absurd q
merged_rest (CellStore c Value n) x u q = absurd q
merged_rest (CellStore c Standing n) x u q = absurd q
merged_rest (SlotTake slot) x u q = absurd q
merged_rest (SlotPut slot chain cargo) x u q = absurd q
merged_rest (CellStore c Next n) x u q = itself u
merged_rest (CellStore c word n) x u q = itself u
merged_rest (CellLoad c Owner) x u q = itself u
merged_rest (CellLoad c State) x u q = itself u
merged_rest (CellLoad c Value) x u q = itself u
merged_rest (CellLoad c Next) x u q = itself u
merged_rest (CellLoad c word) x u q = itself u
merged_rest s x u q = itself u

rest_after : (u : View) (s : Step) (a : Answer) → IsSame s → Rest u (view_after u s a)
rest_after u (CellStore c Standing n) a q = stands c n a u
rest_after u s a q = subst (λ (v : View). Rest u v) (sym (after_merged u s a)) (merged_rest s (view_after u s a) u q)

pub same_after : (u : View) (s : Step) (a : Answer) → IsSame s → SameParts u (view_after u s a)
same_after u (SlotTake slot) a q = absurd q
same_after u (SlotPut slot chain cargo) a q = absurd q
same_after u s a q = let r = rest_after u s a q in (r.0, turn_after u s a tt, r.1, r.2)
