-- What holds of words, cells and stop codes wherever the rule does: rule_follows; a future is filled once: fills_once.
use Rattle.std.proofs.Common.{◌≡◌, ◌≢◌, inl, inr, ℕ, ◌<◌, Bool, true, false, ◌==◌, Some, refl, sym, ◌∙◌, ap, subst, eqb-true}
use mathlib.Core.Logic.{dite}
use native.Mathlib.Decide.{ℕ_discrete}
use Rattle.st_base.specs.declared.limits.Limits.{Limits}
use Rattle.st_base.specs.declared.thread.Held.{Held}
use Rattle.st_base.specs.declared.thread.Held.TheVariants.{Future}
use Rattle.st_base.specs.declared.thread.Standing.TheVariants.{Ended}
use Rattle.st_base.specs.declared.thread.Thread.{Thread}
use Rattle.st_words.specs.declared.view.CellWord.TheVariants.{State, Value, Standing as StandingWord}
use Rattle.st_words.specs.declared.view.Slot.TheVariants.{Cell}
use Rattle.st_words.specs.declared.view.View.{View}
use Rattle.st_words.specs.Encodings.{full_word, is_counter}
use Rattle.st_words.specs.Steps.{Step, CellStore, CellChange, StopSet, RequestChange, SlotTake, SlotPut, Answer, Number, Can, IsCounter, MayChange}
use Rattle.st_words.specs.Careful.{Meaning}
use Rattle.st_model.specs.declared.program.Program.{Program}
use Rattle.st_model.specs.Memory.{Data}
use Rattle.st_model.specs.Heap.{Path, Heap, HasEnded}
use Rattle.st_world.specs.World.{World, Finds, put_if, waking, with_word, world_after}
use Rattle.st_world.proofs.Functions.{put_other}
use Rattle.st_names.specs.Naming.{CellHolds}
use Rattle.st_rule.specs.Rule.{Rule}
use Rattle.st_rule.specs.Laws.{Follows, RuleFollows, RuleFillsOnce}
use Rattle.st_rule.proofs.Groups.{Groups}
use Rattle.st_rule.proofs.Facts.{kind_known}

one_end : (h : Heap) (p : Path) (a b : ℕ) → HasEnded h p a → HasEnded h p b → a ≡ b
one_end h p a b k l =
    let e : Some k.0 ≡ Some l.0 = sym k.1 ∙ l.1 in
    let t : k.0 ≡ l.0 = cc in
    let s : Ended a ≡ Ended b = sym k.2 ∙ (ap (λ (u : Thread). u.standing) t ∙ l.2) in
    cc

module _ (m : Meaning) (g : Groups m) (program : Program) (source : Data) (limits : Limits) (h0 h : Heap) (x : World) (r : Rule m program source limits h0 h x) where
  cell_of : (name : Held) (c : ℕ) → r.names.name c ≡ Some name → r.names.cell name ≡ c
  cell_of name c e =
      let holds : CellHolds program source h r.names.name r.names.cell c (x.owner c) (x.state c) (x.value c) (Some name) = subst (CellHolds program source h r.names.name r.names.cell c (x.owner c) (x.state c) (x.value c)) e (r.names.cell_holds c) in
      holds.one

  ended : (p : Path) (n : ℕ) → HasEnded h p n → (c : ℕ) × (r.names.name c ≡ Some (Future p)) × (x.state c ≡ full_word) × (x.value c ≡ n)
  ended p n k =
      let name = r.names.threads p (k.0, k.1) in
      let shows = (g.names_told program source).future h x p r.names name in
      let full = shows.ended n k in
      (r.names.cell (Future p), name, full, one_end h p _ n (shows.full full) k)

  follows : Follows m program source limits h0 h x r
  follows = record {
    value = λ w p n e. g.held.value x w p n r.leases e;
    one_view = λ v w p a b e f. g.held.one_view x v w p a b r.leases e f;
    one_slot = λ y z p a b e f. g.held.one_slot x y z p a b r.leases e f;
    not_both = λ w z p a b e f. g.held.not_both x w z p a b r.leases e f;
    one_cell = λ name c d e f. sym (cell_of name c e) ∙ cell_of name d f;
    ended = ended;
    stops = r.within.stops;
  }

  -- ---- a future is filled once

  module _ (w : ℕ) (is : w < x.workers) (c : ℕ) (future : is_counter (x.owner c) ≡ false) (full : x.state c ≡ full_word) where
    no_count : IsCounter (x.view w) c → ⊥
    no_count k = let e = (kind_known m g program source limits h0 h x r w is c (inr k)).1 k in let no : ⊥ = cc in no

    no_change : (old new : ℕ) → old ≡ full_word → MayChange (x.view w) c old new → ⊥
    no_change old new e (inl p) = p.1 e
    no_change old new e (inr (inl f)) = f.1 e
    no_change old new e (inr (inr (inl d))) = no_count d.0
    no_change old new e (inr (inr (inr j))) = no_count j.0

    change_by : (b : Bool) (d old new n : ℕ) → (n == old) ≡ b → n ≡ x.state d → MayChange (x.view w) d old new → put_if b x.state d new c ≡ full_word
    change_by false d old new n e found may = full
    change_by true d old new n e found may = dite (ℕ_discrete c d)
        (λ (s : c ≡ d).
        let o : old ≡ full_word = sym (eqb-true n old e) ∙ (found ∙ (ap x.state (sym s) ∙ full)) in
        absurd (no_change old new o (subst (λ (k : ℕ). MayChange (x.view w) k old new) (sym s) may)))
        (λ (n : c ≢ d). put_other x.state d new c n ∙ full)

    waking_state : (b : Bool) (d : ℕ) (y : World) → ((waking b d y).state ≡ y.state) × ((waking b d y).value ≡ y.value)
    waking_state true d y = (refl, refl)
    waking_state false d y = (refl, refl)

    state_stays : (s : Step) (a : Answer) (v : View) → Can (x.view w) s → Finds x w s a → (world_after x w s a v).state c ≡ full_word
    state_stays (CellChange d old new) (Number n) v can f = change_by (n == old) d old new n refl f can.1
    state_stays (CellStore d State n) a v can f = absurd can.1
    state_stays (CellStore d Value n) a v can f = full
    state_stays (CellStore d StandingWord n) a v can f = ap (λ (k : ℕ → ℕ). k c) (waking_state _ d (with_word d StandingWord n x)).0 ∙ full
    state_stays (StopSet code) (Number n) v can f = full
    state_stays (RequestChange at old new) (Number n) v can f = full
    state_stays (SlotTake (Cell d)) a v can f = full
    state_stays (SlotPut (Cell d) chain cargo) a v can f = full
    state_stays s a v can f = full

    value_stays : (s : Step) (a : Answer) (v : View) → Can (x.view w) s → Finds x w s a → (world_after x w s a v).value c ≡ x.value c
    value_stays (CellStore d State n) a v can f = refl
    value_stays (CellStore d Value n) a v can f = put_other x.value d n c (λ e. (g.places_told.unfilled x r.lists w d r.places (inl can.1.0)).2 (ap x.state (sym e) ∙ full))
    value_stays (CellStore d StandingWord n) a v can f = ap (λ (k : ℕ → ℕ). k c) (waking_state _ d (with_word d StandingWord n x)).1
    value_stays (CellChange d old new) (Number n) v can f = refl
    value_stays (StopSet code) (Number n) v can f = refl
    value_stays (RequestChange at old new) (Number n) v can f = refl
    value_stays (SlotTake (Cell d)) a v can f = refl
    value_stays (SlotPut (Cell d) chain cargo) a v can f = refl
    value_stays s a v can f = refl

module _ (m : Meaning) (g : Groups m) (program : Program) (source : Data) (limits : Limits) where
  pub rule_follows : RuleFollows m program source limits
  rule_follows h0 h x r = follows m g program source limits h0 h x r

  pub fills_once : RuleFillsOnce m program source limits
  fills_once h0 h x w s a v c r is can f future full = (state_stays m g program source limits h0 h x r w is c future full s a v can f, value_stays m g program source limits h0 h x r w is c future full s a v can f)
