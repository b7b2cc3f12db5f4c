-- What the tests show of a board whose first worker holds the thread of cell 1, and the chains of cells 2 and 3: that a step may be asked.
use Rattle.std.proofs.Common.{false, ◌≡◌, ◌⊎◌, inl, inr, ℕ, ◌+◌, ◌<◌, Bool, true, [], ◌∷◌, Some, None, Option, refl, sym, ap, ◌∙◌, subst, arith, eq-eqb}
use Rattle.std.specs.List.{Contains}
use Rattle.std.specs.Prelude.{if◌then◌else◌, ◌==◌}
use Rattle.st_base.specs.declared.chain.Chain.{Chain}
use Rattle.st_base.specs.declared.chain.Waiting.TheVariants as waits
use Rattle.st_words.specs.declared.view.CellWord.TheVariants as words
use Rattle.st_words.specs.declared.view.Slot.TheVariants.{Cell}
use Rattle.st_words.specs.declared.view.View.{View}
use Rattle.st_words.specs.declared.view.Waiter.{Waiter}
use Rattle.st_words.specs.Encodings.{full_word, counter_owner, counter_word, count_after, count_in}
use Rattle.st_words.specs.Plain.{first_view}
use Rattle.st_base.specs.declared.limits.Limits.{Limits}
use Rattle.st_words.specs.Laws.{named, progress_of}
use Rattle.st_words.specs.Steps.{Step, CellLoad, CellStore, CellChange, SlotPut, Draw, Answer, Done, Number, Can, Asks, IsLinked, HasInHand, HasThread, HasChain, IsCounter, IsWaiting}
use Rattle.st_words.specs.Views.{Does, IsFree, view_after, no_cargo, waiter_of, linked}
use Rattle.st_words.proofs.Lists.{contains_here, contains_later, contains_none, map_in}
use Rattle.st_words.proofs.Naming.{named_asks, size_laws}
use Rattle.st_words.proofs.Puts.{put_laws}
use Rattle.st_cells.specs.Trying.{thread_of, carried_of, holding}

abbrev pub MayAsk : (Step → Answer → Type 0) → View → Step → Type 0
MayAsk says v s = Asks says IsFree Does (λ w t a. named (progress_of (holding w)) (holding w) t a) v s

-- the view behind a step
abbrev pub IsAfter : View → Step → Answer → View → Type 0
IsAfter v s a w = w ≡ named (progress_of (holding v)) (holding v) s a

pub asks : (says : Step → Answer → Type 0) (v : View) (s : Step) → Can (holding v) s → MayAsk says v s
asks says v s can = named_asks says v (holding v) (λ t a. progress_of (holding v)) s (record { progress = progress_of (holding v); child = v.child; chains = (holding v).chains; exported = v.exported }, refl) can

pub cells_kept : (v w : View) (s : Step) (a : Answer) → IsAfter v s a w → v.cells ≡ 16 → w.cells ≡ 16
cells_kept v w s a after e = ap (λ (x : View). x.cells) after ∙ size_laws.cells (holding v) s a ∙ e

-- ---- a future

holds_thread : (v : View) → HasThread (holding v) 1
holds_thread v = (thread_of 1, contains_here (thread_of 1) [], refl)

pub asks_load : (says : Step → Answer → Type 0) (v : View) (c : ℕ) (word : Rattle.st_words.specs.declared.view.CellWord.CellWord) → v.cells ≡ 16 → c < 16 → MayAsk says v (CellLoad c word)
asks_load says v c word cells l = asks says v (CellLoad c word) (omega (arith, cells))

pub asks_value : (says : Step → Answer → Type 0) (v : View) (n : ℕ) → v.cells ≡ 16 → v.full ≡ [] → MayAsk says v (CellStore 1 words.Value n)
asks_value says v n cells full = asks says v (CellStore 1 words.Value n) (omega (arith, cells), (holds_thread v, λ c. contains_none 1 (subst (λ xs. Contains xs 1) full c)))

holds_chain : (v : View) (c : ℕ) → (c ≡ 2) ⊎ (c ≡ 3) → HasChain (holding v) c
holds_chain v c (inl e) = (carried_of 2, contains_here (carried_of 2) (carried_of 3 ∷ []), sym e)
holds_chain v c (inr e) = (carried_of 3, contains_later (carried_of 3) (carried_of 2) (carried_of 3 ∷ []) (contains_here (carried_of 3) []), sym e)

pub asks_put : (says : Step → Answer → Type 0) (v : View) (c : ℕ) (chain : Chain) → v.cells ≡ 16 → c < 16 → (c ≡ 2) ⊎ (c ≡ 3) → chain.cell ≡ c → MayAsk says v (SlotPut (Cell c) chain no_cargo)
asks_put says v c chain cells l one e = asks says v (SlotPut (Cell c) chain no_cargo) (omega (arith, cells), (e, holds_chain v c one), omega arith, omega arith)

pub put_in_hand : (v w : View) (c : ℕ) (chain : Chain) → chain.wait ≡ waits.Touch 1 → IsAfter v (SlotPut (Cell c) chain no_cargo) Done w → HasInHand w c
put_in_hand v w c chain wait after = subst (λ (x : View). HasInHand x c) (sym after) (put_laws.hand (holding v) c chain no_cargo (subst IsWaiting (sym wait) tt))

pub asks_link : (says : Step → Answer → Type 0) (v : View) (c : ℕ) → v.cells ≡ 16 → c < 16 → HasInHand v c → MayAsk says v (CellStore c words.Next 0)
asks_link says v c cells l hand = asks says v (CellStore c words.Next 0) (omega (arith, cells), (hand, omega arith))

chosen : (x : Waiter) {test : Bool} → test ≡ true → (if test then record x { next = Some 0 } else x) ≡ record x { next = Some 0 }
chosen x e = ap (λ (t : Bool). if t then record x { next = Some 0 } else x) e

pub linked_in_hand : (v w : View) (c : ℕ) → HasInHand v c → IsAfter v (CellStore c words.Next 0) Done w → IsLinked w c 0
unfolding view_after
linked_in_hand v w c hand after =
    let x : Waiter = hand.0 in
    let same : (x.cell == c) ≡ true = eq-eqb x.cell c hand.2 in
    let there : Contains w.hand (if x.cell == c then record x { next = Some 0 } else x) = subst (λ hs. Contains hs (if x.cell == c then record x { next = Some 0 } else x)) (sym (ap (λ (y : View). y.hand) after)) (map_in (λ (y : Waiter). if y.cell == c then record y { next = Some 0 } else y) v.hand x hand.1) in
    (record x { next = Some 0 }, subst (Contains w.hand) (chosen x same) there, hand.2, refl)

pub asks_park : (says : Step → Answer → Type 0) (v : View) (c : ℕ) → v.cells ≡ 16 → IsLinked v c 0 → MayAsk says v (CellChange 1 0 (c + 1))
asks_park says v c cells linked = asks says v (CellChange 1 0 (c + 1)) (omega (arith, cells), inl (inr (holds_thread v), (λ e. omega (arith, e)), (c, linked, refl)))

pub asks_fill : (says : Step → Answer → Type 0) (v : View) (seen : ℕ) → v.cells ≡ 16 → seen < 16 → MayAsk says v (CellChange 1 seen full_word)
asks_fill says v seen cells l = asks says v (CellChange 1 seen full_word) (omega (arith, cells), inr (inl (inr (holds_thread v), (λ e. omega (arith, e)), refl)))

pub one_of : (c : ℕ) → (c ≡ 2) ⊎ (c ≡ 3) → c < 16
one_of c (inl e) = omega (arith, e)
one_of c (inr e) = omega (arith, e)

-- ---- a board that is opened

pub first_cells : (limits : Limits) (v : View) → limits.cells ≡ 16 → v ≡ first_view limits 2 0 → v.cells ≡ 16
first_cells limits v cells first = ap (λ (x : View). x.cells) first ∙ cells

pub first_full : (limits : Limits) (v : View) → v ≡ first_view limits 2 0 → v.full ≡ []
first_full limits v first = ap (λ (x : View). x.full) first

-- ---- a counter

pub drawn_there : (v w : View) (n : ℕ) → IsAfter v Draw (Number n) w → Contains w.drawn n
unfolding view_after
drawn_there v w n after = subst (λ xs. Contains xs n) (sym (ap (λ (x : View). x.drawn) after)) (contains_here n v.drawn)

pub asks_name : (says : Step → Answer → Type 0) (v : View) (c : ℕ) → v.cells ≡ 16 → c < 16 → Contains v.drawn c → MayAsk says v (CellStore c words.Owner (counter_owner 0 0))
asks_name says v c cells l drawn = asks says v (CellStore c words.Owner (counter_owner 0 0)) (omega (arith, cells), (drawn, (0, 0, omega (arith, cells), omega (arith, cells), inr refl)))

pub counter_there : (v w : View) (c : ℕ) → IsAfter v (CellStore c words.Owner (counter_owner 0 0)) Done w → IsCounter w c
unfolding view_after
counter_there v w c after = (counter_owner 0 0, subst (λ xs. Contains xs (c, counter_owner 0 0)) (sym (ap (λ (x : View). x.owners) after)) (contains_here (c, counter_owner 0 0) v.owners), refl)

pub asks_done : (says : Step → Answer → Type 0) (v : View) (c seen : ℕ) → v.cells ≡ 16 → c < 16 → IsCounter v c → MayAsk says v (CellChange c seen (counter_word (count_after (count_in seen)) 0))
asks_done says v c seen cells l counter = asks says v (CellChange c seen (counter_word (count_after (count_in seen)) 0)) (omega (arith, cells), inr (inr (inl (counter, refl))))

-- ---- a counter that is waited for

pub first_hand : (limits : Limits) (v w : View) (n : ℕ) → v ≡ first_view limits 2 0 → IsAfter v (CellStore 1 words.Value n) Done w → w.hand ≡ []
unfolding view_after
first_hand limits v w n first after = ap (λ (x : View). x.hand) after ∙ ap (λ (x : View). x.hand) first

pub drawn_hand : (v w : View) (n : ℕ) → v.hand ≡ [] → IsAfter v Draw (Number n) w → w.hand ≡ []
unfolding view_after
drawn_hand v w n none after = ap (λ (x : View). x.hand) after ∙ none

pub named_hand : (v w : View) (c n : ℕ) → v.hand ≡ [] → IsAfter v (CellStore c words.Owner n) Done w → w.hand ≡ []
unfolding view_after
named_hand v w c n none after = ap (λ (x : View). x.hand) after ∙ none

abbrev joins_at : ℕ → Option ℕ → Waiter
joins_at cell next = record { cell = 2; wait = Some (waits.Join cell 3); next = next; leads = false }

pub joined_hand : (v w : View) (cell : ℕ) (chain : Chain) → chain.wait ≡ waits.Join cell 3 → v.hand ≡ [] → IsAfter v (SlotPut (Cell 2) chain no_cargo) Done w → w.hand ≡ joins_at cell None ∷ []
unfolding view_after
joined_hand v w cell chain wait none after =
    ap (λ (x : View). x.hand) after ∙ ap (λ hand. waiter_of 2 chain.wait hand) none ∙ ap (λ x. waiter_of 2 x []) wait

pub joined_counter : (v w : View) (c : ℕ) (chain : Chain) → IsCounter v c → IsAfter v (SlotPut (Cell 2) chain no_cargo) Done w → IsCounter w c
unfolding view_after
joined_counter v w c chain counter after = (counter.0, subst (λ xs. Contains xs (c, counter.0)) (sym (ap (λ (x : View). x.owners) after)) counter.1, counter.2)

pub in_hand_of : (w : View) (cell : ℕ) → w.hand ≡ joins_at cell None ∷ [] → HasInHand w 2
in_hand_of w cell hand = (joins_at cell None, subst (λ hs. Contains hs (joins_at cell None)) (sym hand) (contains_here (joins_at cell None) []), refl)

pub linked_hand : (v w : View) (cell : ℕ) → v.hand ≡ joins_at cell None ∷ [] → IsAfter v (CellStore 2 words.Next 0) Done w → w.hand ≡ joins_at cell (Some 0) ∷ []
unfolding view_after
linked_hand v w cell hand after = ap (λ (x : View). x.hand) after ∙ ap (λ hs. linked 2 0 hs) hand

pub linked_counter : (v w : View) (c : ℕ) → IsCounter v c → IsAfter v (CellStore 2 words.Next 0) Done w → IsCounter w c
unfolding view_after
linked_counter v w c counter after = (counter.0, subst (λ xs. Contains xs (c, counter.0)) (sym (ap (λ (x : View). x.owners) after)) counter.1, counter.2)

pub asks_join : (says : Step → Answer → Type 0) (v : View) (c : ℕ) → v.cells ≡ 16 → c < 16 → IsCounter v c → v.hand ≡ joins_at c (Some 0) ∷ [] → MayAsk says v (CellChange c 0 (counter_word (count_in 0) (2 + 1)))
asks_join says v c cells l counter hand =
    let there : Contains v.hand (joins_at c (Some 0)) = subst (λ hs. Contains hs (joins_at c (Some 0))) (sym hand) (contains_here (joins_at c (Some 0)) []) in
    asks says v (CellChange c 0 (counter_word (count_in 0) (2 + 1))) (omega (arith, cells), inr (inr (inr (counter, (2, 3, (joins_at c (Some 0), there, refl, refl), (joins_at c (Some 0), there, refl, refl), omega arith, refl)))))
