-- What steps leave of the threads of a worker's turn: same_after (a step that is of no slot leaves them), took_chains and put_chains.
use Rattle.std.proofs.Common.{◌≡◌, ℕ, Bool, true, false, List, [], ◌∷◌, Some, refl, ap, ◌∙◌, cond, map, ◌==◌, ◌&&◌}
use Rattle.st_base.specs.declared.chain.Chain.{Chain}
use Rattle.st_words.specs.declared.view.CellWord.{CellWord}
use Rattle.st_words.specs.declared.view.CellWord.TheVariants.{Owner, State, Value, Next, Standing, Trap}
use Rattle.st_words.specs.declared.view.Slot.{Slot}
use Rattle.st_words.specs.declared.view.Slot.TheVariants.{Cell, Mail}
use Rattle.st_words.specs.declared.view.Carried.{Carried}
use Rattle.st_words.specs.declared.view.Cargo.{Cargo}
use Rattle.st_words.specs.declared.view.View.{View}
use Rattle.st_words.specs.Encodings.{running, ready}
use Rattle.st_words.specs.Steps.{Step, CellLoad, CellStore, SlotTake, SlotPut, Answer, Done}
use Rattle.st_words.specs.Views as views
use Rattle.st_words.specs.Views.{view_after, in_hand, without_chain}
use Rattle.st_world.proofs.Untouched.{merged, after_merged, by_bool}
use Rattle.st_made.specs.Runs.{known_of}

-- ---- turns

-- chains of a cell whose words are changed have the same threads
known_by : (b : Bool) (f : Carried → Carried) (x : Carried) → (f x).known ≡ x.known → (cond b (f x) x).known ≡ x.known
known_by true f x e = e
known_by false f x e = refl

known_map : (f : Carried → Carried) (c : ℕ) (xs : List Carried) → ((x : Carried) → (f x).known ≡ x.known) → known_of (map (λ (x : Carried). cond (x.known.note.cell == c) (f x) x) xs) ≡ known_of xs
known_map f c [] same = refl
known_map f c (x ∷ xs) same = λ i. known_by (x.known.note.cell == c) f x (same x) i ∷ known_map f c xs same i

-- ---- steps

-- the turn has the same threads
abbrev pub SameTurn : View → View → Type 0
SameTurn u v = known_of v.chains ≡ known_of u.chains

-- the step is of no slot
abbrev pub IsOfNoSlot : Step → Type 0
IsOfNoSlot (SlotTake slot) = ⊥
IsOfNoSlot (SlotPut slot chain cargo) = ⊥
IsOfNoSlot _ = Prim.Unit

-- what a step that stores no word of a cell leaves
abbrev StoresNone : Step → Type 0
StoresNone (CellStore c word n) = ⊥
StoresNone _ = Prim.Unit

merged_chains : (s : Step) (x u : View) → IsOfNoSlot s → StoresNone s → (merged s x u).chains ≡ u.chains
merged_chains (SlotTake slot) x u other none = absurd other
merged_chains (SlotPut slot chain cargo) x u other none = absurd other
merged_chains (CellStore c word n) x u other none = absurd none
merged_chains (CellLoad c Owner) x u other none = refl
merged_chains (CellLoad c State) x u other none = refl
merged_chains (CellLoad c Value) x u other none = refl
merged_chains (CellLoad c Next) x u other none = refl
merged_chains (CellLoad c word) x u other none = refl
merged_chains s x u other none = refl

stored : (c : ℕ) (word : CellWord) (n : ℕ) (v : View) → SameTurn v (views.cell_stored c word n v)
stored c Owner n v = refl
stored c State n v = refl
stored c Value n v = refl
stored c Next n v = refl
stored c Standing n v =
    let stood : View = record v { chains = views.with_standing c n v.chains } in
    let runs : View = views.made_running (n == running) c stood in
    by_bool (λ b. SameTurn runs (views.made_ready b c runs)) refl refl ((n == ready) && in_hand c v.hand)
    ∙ (by_bool (λ b. SameTurn stood (views.made_running b c stood)) refl refl (n == running) ∙ known_map (λ x. record x { standing = Some n }) c v.chains (λ x. refl))
stored c Trap n v = known_map (λ x. record x { trap = Some n }) c v.chains (λ x. refl)

pub same_after : (u : View) (s : Step) (a : Answer) → IsOfNoSlot s → SameTurn u (view_after u s a)
unfolding view_after
same_after u (CellStore c word n) Done other = stored c word n u
same_after u (CellStore c word n) a other = refl
same_after u (SlotTake slot) a other = absurd other
same_after u (SlotPut slot chain cargo) a other = absurd other
same_after u s a other = ap (λ (v : View). known_of v.chains) (after_merged u s a) ∙ ap known_of (merged_chains s (view_after u s a) u other tt)

-- ---- slots

pub took_chains : (slot : Slot) (cargo : Cargo) (u : View) → (views.slot_taken slot cargo u).chains ≡ cargo.carried ∷ u.chains
took_chains (Cell c) cargo u = refl
took_chains (Mail at) cargo u = refl

pub put_chains : (slot : Slot) (chain : Chain) (cargo : Cargo) (u : View) → (views.slot_put slot chain cargo u).chains ≡ without_chain chain.cell u.chains
put_chains (Cell c) chain cargo u = refl
put_chains (Mail at) chain cargo u = refl
