-- What steps change of what the count reads of a view. IsQuiet and same_after: the share stays, the turn is as long, and no number comes into an empty
-- hand. changed_after: so too where a change of a State word finds another word; where it stores, the hand may grow.
use Rattle.std.proofs.Common.{◌≡◌, ◌≢◌, ℕ, Bool, true, false, List, [], ◌∷◌, length, refl, sym, subst, ◌==◌}
use Rattle.st_base.specs.declared.chain.Waiting.{Waiting}
use Rattle.st_words.specs.declared.view.CellWord.TheVariants.{State, Next, Standing, Trap}
use Rattle.st_words.specs.declared.view.Waiter.{Waiter}
use Rattle.st_words.specs.declared.view.View.{View}
use Rattle.st_words.specs.Steps.{Step, CellLoad, CellStore, CellChange, ActiveAdd, ActiveLoad, SlotTake, SlotPut, Answer, Done, Number}
use Rattle.st_words.specs.Views as views
use Rattle.st_words.specs.Views.{view_after, with_next, linked, seen_waiting}
use Rattle.st_world.proofs.Untouched.{merged, after_merged}
use Rattle.st_counts.proofs.Sums.{some_more, same_trap}

-- ---- hands

pub next_more : (c n : ℕ) (hand : List Waiter) → with_next c n hand ≢ [] → hand ≢ []
next_more c n [] d = d
next_more c n (x ∷ xs) d = some_more x xs

pub linked_more : (c n : ℕ) (hand : List Waiter) → linked c n hand ≢ [] → hand ≢ []
linked_more c n [] d = d
linked_more c n (x ∷ xs) d = some_more x xs

pub waiting_more : (c : ℕ) (wait : Waiting) (hand : List Waiter) → seen_waiting c wait hand ≢ [] → hand ≢ []
waiting_more c wait [] d = d
waiting_more c wait (x ∷ xs) d = some_more x xs

-- ---- steps

-- all but the hand
abbrev pub SameTurn : View → View → Type 0
SameTurn u v = (v.share ≡ u.share) × (length v.chains ≡ length u.chains) × (v.inactive ≡ u.inactive)

abbrev pub SameParts : View → View → Type 0
SameParts u v = SameTurn u v × (v.hand ≢ [] → u.hand ≢ [])

abbrev pub IsQuiet : Step → Type 0
IsQuiet (CellStore c Standing n) = ⊥
IsQuiet (CellChange c old new) = ⊥
IsQuiet (ActiveAdd up) = ⊥
IsQuiet ActiveLoad = ⊥
IsQuiet (SlotTake slot) = ⊥
IsQuiet (SlotPut slot chain cargo) = ⊥
IsQuiet _ = Prim.Unit

abbrev itself : (v : View) → SameParts v v
itself v = ((refl, refl, refl), λ d. d)

-- what no step of this kind changes stays
by_merged : (u : View) (s : Step) (a : Answer) → SameParts u (merged s (view_after u s a) u) → SameParts u (view_after u s a)
by_merged u s a same = subst (λ (v : View). SameParts u v) (sym (after_merged u s a)) same

pub same_after : (u : View) (s : Step) (a : Answer) → IsQuiet s → SameParts u (view_after u s a)
unfolding view_after
same_after u (CellStore c Standing n) a q = absurd q
same_after u (CellChange c old new) a q = absurd q
same_after u (ActiveAdd up) a q = absurd q
same_after u ActiveLoad a q = absurd q
same_after u (SlotTake slot) a q = absurd q
same_after u (SlotPut slot chain cargo) a q = absurd q
same_after u (CellLoad c Next) (Number n) q = ((refl, refl, refl), next_more c n u.hand)
same_after u (CellLoad c Next) a q = itself u
same_after u (CellStore c Next n) Done q = ((refl, refl, refl), linked_more c n u.hand)
same_after u (CellStore c Next n) a q = itself u
same_after u (CellStore c Trap n) Done q = ((refl, same_trap c n u.chains, refl), λ d. d)
same_after u (CellStore c Trap n) a q = itself u
same_after u s a q = by_merged u s a (itself u)

-- ---- a State word is changed

-- by whether it was changed
abbrev pub SameChange : Bool → View → View → Type 0
SameChange true u v = SameTurn u v
SameChange false u v = SameParts u v

-- a word that wasn't as expected is read as by a load
same_changed : (b : Bool) (c old new n : ℕ) (u : View) → SameTurn u (views.cell_changed b c old new n u) → SameChange b u (views.cell_changed b c old new n u)
unfolding view_after
same_changed true c old new n u same = same
same_changed false c old new n u same = same_after u (CellLoad c State) (Number n) tt

pub changed_after : (u : View) (c old new n : ℕ) → SameChange (n == old) u (view_after u (CellChange c old new) (Number n))
unfolding view_after
changed_after u c old new n = same_changed (n == old) c old new n u (subst (λ (v : View). SameTurn u v) (sym (after_merged u (CellChange c old new) (Number n))) (refl, refl, refl))
