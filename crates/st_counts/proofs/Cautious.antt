-- A careful step does what the count needs of it (careful_spares), who has changed a State word by a careful step has a thread or a number in hand
-- (careful_work), and so a careful step keeps the count (careful_kept). They speak of what the program means to a board, so they are no contracts.
use Rattle.std.proofs.Common.{◌≡◌, ◌≢◌, inl, inr, ⊎_elim, ℕ, false, List, [], ◌∷◌, Some, ap, ◌∙◌, subst, arith, ◌<◌}
use Rattle.std.specs.List.{Contains}
use Rattle.st_base.specs.declared.chain.Waiting.{Waiting}
use Rattle.st_base.specs.declared.chain.Waiting.TheVariants as waits
use Rattle.st_words.specs.declared.view.CellWord.TheVariants.{Standing}
use Rattle.st_words.specs.declared.view.Slot.TheVariants.{Cell, Mail}
use Rattle.st_words.specs.declared.view.Known.{Known}
use Rattle.st_words.specs.declared.view.Waiter.{Waiter}
use Rattle.st_words.specs.declared.view.View.{View}
use Rattle.st_words.specs.Steps.{Step, CellStore, CellChange, ActiveAdd, SlotTake, SlotPut, Answer, Number, Can, IsDone}
use Rattle.st_words.specs.Careful.{Meaning, Careful, InHand, TopIs, standing_of}
use Rattle.st_words.proofs.Lists.{contains_none}
use Rattle.st_words.specs.Views.{Does}
use Rattle.st_world.specs.World.{World, Finds, world_after}
use Rattle.st_counts.specs.Counting.{Counts}
use Rattle.st_counts.specs.Laws.{Spares, HasWork, IsWeighed, NoneBegun}
use Rattle.st_counts.proofs.Steps.{step_kept}
use Rattle.st_counts.proofs.Sums.{some_more}

some_hand : (u : View) (c : ℕ) (P : Waiter → Type 0) → InHand u c P → u.hand ≢ []
some_hand u c P h e = contains_none h.0 (subst (λ (hand : List Waiter). Contains hand h.0) e h.1)

some_top : (ts : List Known) (P : Known → Type 0) → TopIs ts P → ts ≢ []
some_top [] P h = absurd h
some_top (t ∷ ts) P h = some_more t ts

-- no chain that waits or has stopped is shown as ready
not_ready : (wait : Waiting) → standing_of wait ≡ Some 3 → ⊥
not_ready waits.Start e = let no : ⊥ = cc in no
not_ready waits.Ready e = let no : ⊥ = cc in no
not_ready (waits.Touch cell) e = let no : ⊥ = cc in no
not_ready (waits.Join cell least) e = let no : ⊥ = cc in no
not_ready waits.Trapped e = let no : ⊥ = cc in no

pub careful_spares : (m : Meaning) (u : View) (s : Step) → Careful m u s → Spares u s
careful_spares m u (SlotTake (Cell c)) careful = careful.takes
careful_spares m u (SlotPut (Cell c) chain cargo) careful = let p = careful.puts in (p.unit, tt)
careful_spares m u (SlotPut (Mail at) chain cargo) careful = let p = careful.puts in (p.unit, p.shows.1)
careful_spares m u (CellStore c Standing n) careful = λ is has. ⊎_elim
    (λ r. let e = r.0 in let no : ⊥ = omega (arith, e, is) in absurd no)
    (λ more. ⊎_elim
    (λ t. absurd (not_ready t.0.wait (t.3.1 ∙ ap Some is)))
    (λ more. ⊎_elim (λ r. (r.3, r.4)) (λ e. let f = e.0 in let no : ⊥ = omega (arith, f, is) in absurd no) more) more) careful.stores
careful_spares m u (ActiveAdd false) careful = careful.lowers
careful_spares m u s careful = tt

-- who has counted up has a thread, whose item that is
abbrev pub IsItem : View → Step → Answer → Type 0
IsItem u (CellChange c old new) (Number n) = n ≡ old → IsDone u c old new → u.threads ≢ []
IsItem u s a = Prim.Unit

pub careful_work : (m : Meaning) (u : View) (s : Step) (a : Answer) → Careful m u s → IsItem u s a → HasWork u s a
careful_work m u (CellChange c old new) (Number n) careful item = λ is. ⊎_elim
    (λ f. ⊎_elim (λ p. inr (some_hand u p.0 _ p.3)) (λ q. inl (some_top u.threads _ q.1)) f.1)
    (λ k. ⊎_elim (λ j. inr (some_hand u j.0 _ j.5)) (λ d. inl (item is d)) k.1) careful.changes
careful_work m u s a careful item = tt

-- a careful step keeps the count
pub careful_kept : (m : Meaning) (x : World) (w : ℕ) (s : Step) (a : Answer) (v : View) → Counts x → w < x.workers → Can (x.view w) s → Careful m (x.view w) s → IsItem (x.view w) s a → IsWeighed x (x.view w) s → Finds x w s a → Does (x.view w) s a v → NoneBegun (x.view w) v.threads → Counts (world_after x w s a v)
careful_kept m x w s a v C less can careful item weighed f d n = step_kept x w s a v C less can (careful_spares m (x.view w) s careful) (careful_work m (x.view w) s a careful item) weighed f d n
