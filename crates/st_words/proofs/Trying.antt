-- What a test shows that makes steps of a board on which its worker has come to hold a thread, a chain in its turn and an exported frame
-- (busy): that a step may be asked there (busy_asks), and that a held word is held behind stores and loads. For the first step of a board of
-- 16 cells and two workers there is one for each kind of step that is tried: asks_cell_load and so on.
use Rattle.std.proofs.Common.{ℕ, ◌<◌, ◌/◌, ◌≡◌, ◌∷◌, [], length, Some, None, inl, inr, refl, sym, ap, ◌∙◌, subst, arith}
use Rattle.std.specs.List.{Contains}
use Rattle.st_base.specs.declared.limits.Limits.{Limits}
use Rattle.st_base.specs.declared.chain.Chain.{Chain}
use Rattle.st_words.specs.declared.view.Carried.{Carried}
use Rattle.st_words.specs.declared.view.CellWord.TheVariants.{Owner, Value}
use Rattle.st_words.specs.declared.view.Slot.TheVariants.{Cell}
use Rattle.st_words.specs.declared.view.View.{View}
use Rattle.st_words.specs.Laws.{named}
use Rattle.st_words.specs.Plain.{first_view, first_held}
use Rattle.st_words.specs.Steps.{Step, StackStore, StackLoad, Mark, CellLoad, CellStore, CellChange, StopSet, RequestLoad, RequestChange, MailStore, OutStore, OutLoad, SlotPut, Answer, Done, Number, Can, Asks, Holds, HasThread, kept}
use Rattle.st_words.specs.Views.{Progress, Does, IsFree, view_after, Free, with_free, no_known, no_cargo}
use Rattle.st_words.proofs.Naming.{named_asks, store_laws, size_laws}
use Rattle.st_words.proofs.Sizes.{held_bound}

abbrev pub busy_progress : Progress
busy_progress = record { threads = no_known ∷ []; items = 0; frame_bytes = 0 }

abbrev pub busy_chain : Carried
busy_chain = record no_cargo.carried { known = record no_known { note = record { cell = 5; forks = 0; counters = 0; bytes = 0 } } }

abbrev pub busy_free : Free
busy_free = record { progress = busy_progress; child = None; chains = busy_chain ∷ []; exported = record { low = 0x8000_0000; base = 0x8000_0010 } ∷ [] }

abbrev pub busy : View → View
busy v = with_free busy_free v

pub busy_asks : (says : Step → Answer → Type 0) (v : View) (s : Step) → Can (busy v) s → Asks says IsFree Does (λ w t a. named busy_progress (busy w) t a) v s
busy_asks says v s can = named_asks says v (busy v) (λ t a. busy_progress) s (busy_free, refl) can

-- the words of the worker's own stack are held at first
pub held_first : (limits : Limits) (v : View) → limits.stack ≡ 1024 → v ≡ first_view limits 2 0 → Holds v 1
held_first limits v stack first =
    subst (λ (x : View). Holds x 1) (sym first) (0, subst (λ (n : ℕ). kept (first_held 2 (n / 8) 0) 1 ≡ Some 0) (sym stack) refl)

pub held_stored : (v w : View) (p n : ℕ) → Holds v p → w ≡ named busy_progress (busy v) (StackStore p n) Done → Holds w p
held_stored v w p n h after = (n, ap (λ (x : View). kept x.held p) after ∙ store_laws.reads (busy v) p n h)

pub held_loaded : (v w : View) (p q n : ℕ) → Holds v p → w ≡ named busy_progress (busy v) (StackLoad q) (Number n) → Holds w p
unfolding view_after
held_loaded v w p q n h after = (h.0, ap (λ (x : View). kept x.held p) after ∙ h.1)

-- the exported frame may be looked at behind the mark of its return word
pub looks_marked : (v w : View) → Holds v 1 → w ≡ named busy_progress (busy v) (Mark 1) Done → 1 < length w.held
looks_marked v w h after =
    let within : 1 < length v.held = held_bound v 1 h in
    let same : length w.held ≡ length v.held = ap (λ (x : View). length x.held) after ∙ size_laws.held (busy v) (Mark 1) Done in
    omega arith

-- ---- one step of a board of two workers that was opened with 16 cells, by its first worker

abbrev pub FirstAsks : (says : Step → Answer → Type 0) (v : View) (s : Step) → Type 0
FirstAsks says v s = Asks says IsFree Does (λ w t a. named busy_progress (busy w) t a) v s

first_asks : (says : Step → Answer → Type 0) (limits : Limits) (v : View) (s : Step) → v ≡ first_view limits 2 0 → Can (busy (first_view limits 2 0)) s → FirstAsks says v s
first_asks says limits v s first can = busy_asks says v s (subst (λ (x : View). Can (busy x) s) (sym first) can)

busy_thread : (v : View) → HasThread (busy v) 0
busy_thread v = (no_known, (0, omega arith, refl), refl)

none_within : (c : ℕ) → Contains [] c → ⊥
none_within c h = let within : h.0 < 0 = h.1 in omega arith

pub asks_cell_load : (says : Step → Answer → Type 0) (limits : Limits) (v : View) → limits.cells ≡ 16 → v ≡ first_view limits 2 0 → FirstAsks says v (CellLoad 0 Owner)
asks_cell_load says limits v cells first = first_asks says limits v (CellLoad 0 Owner) first (omega arith)

pub asks_cell_store : (says : Step → Answer → Type 0) (limits : Limits) (v : View) → limits.cells ≡ 16 → v ≡ first_view limits 2 0 → FirstAsks says v (CellStore 0 Value 7)
asks_cell_store says limits v cells first = first_asks says limits v (CellStore 0 Value 7) first (omega arith, (busy_thread (first_view limits 2 0), λ full. none_within 0 full))

pub asks_cell_change : (says : Step → Answer → Type 0) (limits : Limits) (v : View) → limits.cells ≡ 16 → v ≡ first_view limits 2 0 → FirstAsks says v (CellChange 0 0 4294967296)
asks_cell_change says limits v cells first = first_asks says limits v (CellChange 0 0 4294967296) first (omega arith, inr (inl (inr (busy_thread (first_view limits 2 0)), (λ e. omega arith), refl)))

pub asks_stop_set : (says : Step → Answer → Type 0) (limits : Limits) (v : View) → v ≡ first_view limits 2 0 → FirstAsks says v (StopSet 2)
asks_stop_set says limits v first = first_asks says limits v (StopSet 2) first (inr (inl refl))

pub asks_request_load : (says : Step → Answer → Type 0) (limits : Limits) (v : View) → v ≡ first_view limits 2 0 → FirstAsks says v (RequestLoad 1)
asks_request_load says limits v first = first_asks says limits v (RequestLoad 1) first (omega arith)

pub asks_request_change : (says : Step → Answer → Type 0) (limits : Limits) (v : View) → v ≡ first_view limits 2 0 → FirstAsks says v (RequestChange 1 0 1)
asks_request_change says limits v first = first_asks says limits v (RequestChange 1 0 1) first (omega arith, inl ((λ e. omega arith), refl, omega arith, refl, refl, refl))

pub asks_mail_store : (says : Step → Answer → Type 0) (limits : Limits) (v : View) → v ≡ first_view limits 2 0 → FirstAsks says v (MailStore 0 1)
asks_mail_store says limits v first = first_asks says limits v (MailStore 0 1) first (omega arith, inl (refl, refl, refl, omega arith))

pub asks_out_store : (says : Step → Answer → Type 0) (v : View) → FirstAsks says v (OutStore 3 321)
asks_out_store says v = busy_asks says v (OutStore 3 321) (omega arith, busy_thread v, (0, 65, omega arith, refl))

pub asks_out_load : (says : Step → Answer → Type 0) (v : View) → FirstAsks says v (OutLoad 1048575)
asks_out_load says v = busy_asks says v (OutLoad 1048575) (omega arith)

pub asks_slot_put : (says : Step → Answer → Type 0) (limits : Limits) (v : View) (chain : Chain) → limits.cells ≡ 16 → v ≡ first_view limits 2 0 → chain.cell ≡ 5 → FirstAsks says v (SlotPut (Cell 5) chain no_cargo)
asks_slot_put says limits v chain cells first at = first_asks says limits v (SlotPut (Cell 5) chain no_cargo) first (omega arith, (at, (busy_chain, (0, omega arith, refl), refl)), omega arith, omega arith)
