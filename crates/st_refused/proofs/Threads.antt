-- Threads: thread_given and thread_dropped.
use Rattle.std.proofs.Common.{◌≡◌, ◌≢◌, ◌⊎◌, inl, inr, ⊎_elim, ℕ, Bool, true, false, ◌==◌, ◌&&◌, Option, Some, None, refl, sym, ap, ◌∙◌, subst}
use mathlib.Core.Logic.{dite}
use native.Mathlib.Decide.{ℕ_discrete}
use Rattle.st_base.specs.declared.chain.Chain.{Chain}
use Rattle.st_words.specs.declared.view.CellWord.TheVariants.{Standing}
use Rattle.st_words.specs.declared.view.Slot.{Slot}
use Rattle.st_words.specs.declared.view.Slot.TheVariants.{Cell, Mail}
use Rattle.st_words.specs.declared.view.Cargo.{Cargo}
use Rattle.st_words.specs.declared.view.View.{View}
use Rattle.st_words.specs.Encodings.{ready}
use Rattle.st_words.specs.Steps.{Step, CellStore, SlotTake, SlotPut, Answer, Number, Done}
use Rattle.st_words.specs.Views.{no_cargo, in_hand}
use Rattle.st_words.specs.Plain.{readied}
use Rattle.st_model.specs.Heap.{Path, Heap}
use Rattle.st_world.specs.Functions.{put}
use Rattle.st_world.specs.World.{World, slot_of, cargo_of, with_word, with_chain, waking, seen, changed, world_after}
use Rattle.st_world.proofs.Functions.{put_here, put_other, put_all}
use Rattle.st_threads.specs.Holding.{Threads}
use Rattle.st_threads.proofs.Holdings.{told_laws}
use Rattle.st_threads.proofs.Holdings.{same_slot}
use Rattle.st_threads.proofs.Steps.{chain_here, chain_there}
use Rattle.st_refused.specs.Unbacked.{HasPath, ThreadGiven, Gives, ThreadDropped}

-- the chain in a slot has this thread
abbrev SlotPath : World → Slot → Path → Type 0
SlotPath x z p = (b : Chain) × (slot_of x z ≡ Some b) × ((cargo_of x z).carried.known.path ≡ p)

-- views change no slot
seen_path : (x : World) (w : ℕ) (v : View) (z : Slot) (p : Path) → SlotPath x z p → SlotPath (seen w v x) z p
seen_path x w v (Cell c) p s = s
seen_path x w v (Mail c) p s = s

unseen_path : (x : World) (w : ℕ) (v : View) (z : Slot) (p : Path) → SlotPath (seen w v x) z p → SlotPath x z p
unseen_path x w v (Cell c) p s = s
unseen_path x w v (Mail c) p s = s

-- a thread is of one view or of one slot
not_both : (h : Heap) (x : World) (w : ℕ) (z : Slot) (p : Path) → Threads h x → HasPath (x.view w) p → SlotPath x z p → ⊥
not_both h x w z p T has s = told_laws.not_both h x w z s.0 has.0 T has.1 s.1 (has.2 ∙ sym s.2)

one_view : (h : Heap) (x : World) (v w : ℕ) (p : Path) → Threads h x → HasPath (x.view v) p → HasPath (x.view w) p → v ≡ w
one_view h x v w p T a b = told_laws.one_view h x v w a.0 b.0 T a.1 b.1 (a.2 ∙ sym b.2)

-- ---- the slots and the views after a step

woken_view : (b : Bool) (c : ℕ) (x : World) → (waking b c x).view ≡ x.view
woken_view true c x = refl
woken_view false c x = refl

-- a step changes no view by itself
views_stay : (x : World) (w : ℕ) (s : Step) (a : Answer) → (changed x w s a).view ≡ x.view
views_stay x w (SlotTake (Cell c)) a = refl
views_stay x w (SlotTake (Mail at)) a = refl
views_stay x w (SlotPut (Cell c) chain cargo) a = refl
views_stay x w (SlotPut (Mail at) chain cargo) a = refl
views_stay x w (CellStore c Standing n) a = woken_view ((n == ready) && in_hand c (x.view w).hand) c (with_word c Standing n x)
views_stay x w s (Number n) = refl
views_stay x w s a = refl

-- a waiter that becomes ready keeps its thread
woken_path : (b : Bool) (c : ℕ) (x : World) (z : Slot) (p : Path) → SlotPath (waking b c x) z p → SlotPath x z p
woken_path true c x (Cell d) p s = (s.0, s.1, sym (put_all (λ (j : ℕ) (g : Cargo). g.carried.known.path ≡ (x.home_cargo j).carried.known.path) x.home_cargo c (readied (x.home_cargo c)) d (λ (e : d ≡ c). ap (λ (j : ℕ). (x.home_cargo j).carried.known.path) (sym e)) (λ n. refl)) ∙ s.2)
woken_path true c x (Mail d) p s = s
woken_path false c x z p s = s

word_path : (x : World) (c n : ℕ) (z : Slot) (p : Path) → SlotPath (with_word c Standing n x) z p → SlotPath x z p
word_path x c n (Cell d) p s = s
word_path x c n (Mail d) p s = s

-- a chain that is put or taken is in one slot alone
chain_path : (x : World) (slot : Slot) (chain : Option Chain) (cargo : Cargo) (z : Slot) (p : Path) → SlotPath (with_chain slot chain cargo x) z p → ((b : Chain) × (chain ≡ Some b) × (cargo.carried.known.path ≡ p)) ⊎ SlotPath x z p
chain_path x slot chain cargo z p s = ⊎_elim
    (λ (e : z ≡ slot).
    let here = chain_here slot chain cargo x in
    let at : SlotPath (with_chain slot chain cargo x) slot p = subst (λ (y : Slot). SlotPath (with_chain slot chain cargo x) y p) e s in
    inl (at.0, sym here.0 ∙ at.1, ap (λ (g : Cargo). g.carried.known.path) (sym here.1) ∙ at.2))
    (λ (n : z ≡ slot → ⊥). let there = chain_there slot chain cargo x z n in inr (s.0, sym there.0 ∙ s.1, ap (λ (g : Cargo). g.carried.known.path) (sym there.1) ∙ s.2))
    (same_slot z slot)

-- what is in a slot after a step was there, or was put there
slot_was : (x : World) (w : ℕ) (s : Step) (a : Answer) (z : Slot) (p : Path) → (Gives s p → ⊥) → SlotPath (changed x w s a) z p → SlotPath x z p
slot_was x w (SlotPut slot chain cargo) a z p other s = ⊎_elim (λ m. absurd (other m.2)) (λ m. m) (chain_path x slot (Some chain) cargo z p s)
slot_was x w (SlotTake slot) a z p other s = ⊎_elim (λ m. let e = m.1 in let no : ⊥ = cc in absurd no) (λ m. m) (chain_path x slot None no_cargo z p s)
slot_was x w (CellStore c Standing n) a z p other s = word_path x c n z p (woken_path ((n == ready) && in_hand c (x.view w).hand) c (with_word c Standing n x) z p s)
slot_was x w s (Number n) (Cell d) p other m = m
slot_was x w s (Number n) (Mail d) p other m = m
slot_was x w s a (Cell d) p other m = m
slot_was x w s a (Mail d) p other m = m

-- who has a thread after a step: the worker by its new view, another as it had it
was_there : (x : World) (w : ℕ) (s : Step) (a : Answer) (v : View) (j : ℕ) (p : Path) → j ≢ w → HasPath ((world_after x w s a v).view j) p → HasPath (x.view j) p
was_there x w s a v j p other has = subst (λ (u : View). HasPath u p) (put_other (changed x w s a).view w v j other ∙ ap (λ (f : ℕ → View). f j) (views_stay x w s a)) has

-- ---- the laws

pub thread_given : ThreadGiven
thread_given h x v w slot chain cargo u other has T =
    let y : World = with_chain slot (Some chain) cargo x in
    let here = chain_here slot (Some chain) cargo x in
    let p : Path = cargo.carried.known.path in
    let there : HasPath (put y.view w u v) p = subst (λ (k : View). HasPath k p) (sym (put_other y.view w u v other ∙ ap (λ (f : ℕ → View). f v) (views_stay x w (SlotPut slot chain cargo) Done))) has in
    not_both h (seen w u y) v slot p T there (seen_path y w u slot p (chain, here.0, ap (λ (g : Cargo). g.carried.known.path) here.1))

pub thread_dropped : ThreadDropped
thread_dropped h h' x w s a v p T has gone other lives T' =
    let y : World = world_after x w s a v in
    ⊎_elim
    (λ m.
    let there : HasPath (y.view m.0) p = (m.1, m.2, m.3) in
    dite (ℕ_discrete m.0 w)
    (λ (e : m.0 ≡ w). gone (subst (λ (u : View). HasPath u p) (ap y.view e ∙ put_here (changed x w s a).view w v) there))
    (λ (n : m.0 ≢ w). n (one_view h x m.0 w p T (was_there x w s a v m.0 p n there) has)))
    (λ m. not_both h x w m.0 p T has (slot_was x w s a m.0 p other (unseen_path (changed x w s a) w v m.0 p (m.1, m.2, m.3))))
    (told_laws.somewhere h' y p lives.0 T' lives.1 lives.2)
