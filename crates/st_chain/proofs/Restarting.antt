-- A chain goes on: s0 and the registers that a call keeps are the chain's, and the others are as they were (restarts). A lone thread in memory is read
-- the same over other words and more names (stands_same), so that a machine that goes on with a chain stands for its thread (restart_stands).
use Rattle.std.proofs.Common.{◌≡◌, ◌≢◌, ◌⊎◌, inl, inr, ℕ, ◌+◌, ◌-◌, ◌<◌, ◌≤◌, ◌==◌, Bool, true, false, List, [], ◌∷◌, length, Option, slice_index, refl, ap, sym, ◌∙◌, subst, arith, if◌then◌else◌, ◌||◌}
use Rattle.std.specs.List.{Contains}
use Rattle.std.proofs.lemmas.Bool.{eqb-true, eqb-false, ne_eqb, or_cases}
use Rattle.st_base.specs.declared.chain.Chain.{Chain}
use Rattle.st_base.specs.declared.chain.Frame.{Frame}
use Rattle.st_base.specs.declared.chain.Waiting.{Waiting}
use Rattle.st_base.specs.declared.chain.Waiting.TheVariants as waits
use Rattle.st_base.specs.declared.reg.Reg.{Reg}
use Rattle.st_base.specs.declared.reg.Reg.TheVariants as registers
use Rattle.st_base.specs.Reg.{reg_number}
use Rattle.st_base.specs.declared.thread.Held.{Held}
use Rattle.st_base.specs.declared.thread.Thread.{Thread}
use Rattle.st_model.specs.declared.program.Program.{Program}
use Rattle.st_model.specs.Accepted.{IsAccepted}
use Rattle.st_model.specs.Flow.{between}
use Rattle.st_model.proofs.Places.{between_holds}
use Rattle.st_step.specs.declared.state.State.{State}
use Rattle.st_step.specs.Frames.{IsHeldAs, value_in, is_kept}
use Rattle.st_step.specs.Moves.{written}
use Rattle.st_step.specs.Runs.{HasRegisters}
use Rattle.st_step.proofs.Writes.{length-written}
use Rattle.st_items.specs.Body.{Grows}
use Rattle.st_items.proofs.Growing.{held_grows}
use Rattle.st_items.proofs.SavedRegisters.{not_zero, value-written_other, value-written_same}
use Rattle.st_chain.specs.Walk.{word_in, is_held, named_by}
use Rattle.st_chain.specs.Threads.{AtEnd}
use Rattle.st_chain.specs.Chains.{saved_value, WaitsFor, StandsFor}
use Rattle.st_chain.specs.Seen.{AllSame, SameKept}
use Rattle.st_chain.specs.Logical.{with_values, restarted, IsRestarted}
use Rattle.st_chain.proofs.Frames.{newest_same, end_same}

-- ---- the registers

-- their numbers are n, n + 1 and on
abbrev AreFrom : ℕ → List Reg → Type 0
AreFrom n [] = Prim.Unit
AreFrom n (r ∷ rs) = (reg_number r ≡ n) × AreFrom (n + 1) rs

put_outside : (k n : ℕ) (rs : List Reg) (values : List ℕ) (m : State) (x : ℕ) → AreFrom n rs → (x < n) ⊎ (n + length rs ≤ x) → value_in (with_values k rs values m) x ≡ value_in m x
put_outside k n [] values m x from out = refl
put_outside k n (r ∷ rs) values m x from out =
    let first = from.0 in
    put_outside (k + 1) (n + 1) rs values (written m r (slice_index values k)) x from.1 (further out) ∙ value-written_other m r (slice_index values k) x (differs out)
  where
    further : (x < n) ⊎ (n + length (r ∷ rs) ≤ x) → (x < n + 1) ⊎ (n + 1 + length rs ≤ x)
    further (inl under) = inl (omega arith)
    further (inr over) = inr (omega arith)

    differs : (x < n) ⊎ (n + length (r ∷ rs) ≤ x) → x ≢ reg_number r
    differs (inl under) e = let first = from.0 in absurd (omega arith)
    differs (inr over) e = let first = from.0 in absurd (omega arith)

above : (n x : ℕ) → n ≤ x → n ≢ x → n + 1 ≤ x
above n x least other = grind arith

put_within : (k n : ℕ) (rs : List Reg) (values : List ℕ) (m : State) (x : ℕ) → length m.registers ≡ 32 → 0 < n → AreFrom n rs → n ≤ x → x < n + length rs → value_in (with_values k rs values m) x ≡ slice_index values (k + (x - n))
put_within k n [] values m x count some from least most = absurd (omega arith)
put_within k n (r ∷ rs) values m x count some from least most =
    by_case (n == x) (eqb-true n x) (eqb-false n x) (λ later. put_within (k + 1) (n + 1) rs values (written m r (slice_index values k)) x (length-written m r (slice_index values k) ∙ count) (omega arith) from.1 later (omega arith))
  where
    by_case : (b : Bool) → (b ≡ true → n ≡ x) → (b ≡ false → n ≢ x) → (n + 1 ≤ x → value_in (with_values (k + 1) rs values (written m r (slice_index values k))) x ≡ slice_index values (k + 1 + (x - (n + 1)))) → value_in (with_values (k + 1) rs values (written m r (slice_index values k))) x ≡ slice_index values (k + (x - n))
    by_case true same other next =
        let is = same refl in
        let first = from.0 in
        let place : k ≡ k + (x - n) = omega arith in
        put_outside (k + 1) (n + 1) rs values (written m r (slice_index values k)) x from.1 (inl (omega arith)) ∙ ap (value_in (written m r (slice_index values k))) (sym is ∙ sym first) ∙ value-written_same m r (slice_index values k) count (not_zero r (omega arith)) ∙ ap (slice_index values) place
    by_case false same other next =
        let not = other refl in
        let later = above n x least not in
        let place : k + 1 + (x - (n + 1)) ≡ k + (x - n) = omega arith in
        next later ∙ ap (slice_index values) place

put_count : (k : ℕ) (rs : List Reg) (values : List ℕ) (m : State) → length (with_values k rs values m).registers ≡ length m.registers
put_count k [] values m = refl
put_count k (r ∷ rs) values m = put_count (k + 1) rs values (written m r (slice_index values k)) ∙ length-written m r (slice_index values k)

-- ---- the machine

-- s2 to s11
abbrev others : List Reg
others = registers.S2 ∷ registers.S3 ∷ registers.S4 ∷ registers.S5 ∷ registers.S6 ∷ registers.S7 ∷ registers.S8 ∷ registers.S9 ∷ registers.S10 ∷ registers.S11 ∷ []

others_from : AreFrom 18 others
others_from = (refl, (refl, (refl, (refl, (refl, (refl, (refl, (refl, (refl, (refl, tt))))))))))

module _ (c : Chain) (m : State) (has : HasRegisters m) where
  abbrev first : State
  first = written m registers.S0 c.fp

  abbrev second : State
  second = written first registers.S1 (slice_index c.saved 0)

  counted : length second.registers ≡ 32
  counted = length-written first registers.S1 (slice_index c.saved 0) ∙ length-written m registers.S0 c.fp ∙ has.count

  unchanged : (x : ℕ) → x ≢ 8 → x ≢ 9 → (x < 18) ⊎ (28 ≤ x) → value_in (restarted c m) x ≡ value_in m x
  unchanged x fp s1 out = put_outside 1 18 others c.saved second x others_from out ∙ value-written_other first registers.S1 (slice_index c.saved 0) x s1 ∙ value-written_other m registers.S0 c.fp x fp

  at_fp : value_in (restarted c m) 8 ≡ c.fp
  at_fp = put_outside 1 18 others c.saved second 8 others_from (inl (omega arith)) ∙ value-written_other first registers.S1 (slice_index c.saved 0) 8 (λ e. absurd (omega (arith, e))) ∙ value-written_same m registers.S0 c.fp has.count refl

  at_s1 : value_in (restarted c m) 9 ≡ slice_index c.saved 0
  at_s1 = put_outside 1 18 others c.saved second 9 others_from (inl (omega arith)) ∙ value-written_same first registers.S1 (slice_index c.saved 0) (length-written m registers.S0 c.fp ∙ has.count) refl

  at_other : (x : ℕ) → 18 ≤ x → x < 28 → saved_value c.saved x ≡ value_in (restarted c m) x
  at_other x least most =
      let place : 1 + (x - 18) ≡ x - 17 = omega arith in
      let not_origin : (x == 0) ≡ false = ne_eqb x 0 (λ e. absurd (omega (arith, e))) in
      let not_s1 : (x == 9) ≡ false = ne_eqb x 9 (λ e. absurd (omega (arith, e))) in
      ap (λ (b : Bool). if b then 0 else (if x == 9 then slice_index c.saved 0 else slice_index c.saved (x - 17))) not_origin
      ∙ ap (λ (b : Bool). if b then slice_index c.saved 0 else slice_index c.saved (x - 17)) not_s1
      ∙ ap (slice_index c.saved) (sym place) ∙ sym (put_within 1 18 others c.saved second x counted (omega arith) others_from least (omega arith))

  kept_value : (x : ℕ) → is_kept x ≡ true → saved_value c.saved x ≡ value_in (restarted c m) x
  kept_value x kept =
      elim (or_cases (x == 0 || x == 9) (between 18 28 x) kept) [
        | inl few ↦ elim (or_cases (x == 0) (x == 9) few) [
          | inl origin ↦ let is = eqb-true x 0 origin in subst (λ (y : ℕ). saved_value c.saved y ≡ value_in (restarted c m) y) (sym is) (sym (unchanged 0 (λ e. absurd (omega (arith, e))) (λ e. absurd (omega (arith, e))) (inl (omega arith)) ∙ has.origin))
          | inr s1 ↦ let is = eqb-true x 9 s1 in subst (λ (y : ℕ). saved_value c.saved y ≡ value_in (restarted c m) y) (sym is) (sym at_s1)
        ]
        | inr later ↦ let range = between_holds 18 28 x later in at_other x range.0 range.1
      ]

  pub restarts : IsRestarted c m (restarted c m)
  restarts = record {
    pc = refl;
    fp = at_fp;
    saved = kept_value;
    others = unchanged;
    count = put_count 1 others c.saved second ∙ length-written first registers.S1 (slice_index c.saved 0) ∙ length-written m registers.S0 c.fp;
    lo = refl;
    hi = refl;
    whole = refl;
  }

-- ---- a lone thread

module _ (names names' : List (Held × ℕ)) (grows : (name : Held) (cell : ℕ) → Contains names (name, cell) → Contains names' (name, cell)) where
  waits_same : (thread : Thread) (wait : Waiting) → WaitsFor (named_by names) thread wait → WaitsFor (named_by names') thread wait
  waits_same thread (waits.Touch cell) (path, there, named) = (path, there, grows _ cell named)
  waits_same thread (waits.Join cell least) (maker, number, there, named, least_is) = (maker, number, there, grows _ cell named, least_is)
  waits_same thread waits.Trapped is = tt
  waits_same thread waits.Ready is = is
  waits_same thread waits.Start is = absurd is

  pub stands_same : (p : Program) (held held' : List (Option ℕ)) (wait : Waiting) (pc fp : ℕ) (value value' : ℕ → ℕ) (thread : Thread) (frames : List Frame) → IsAccepted p → AllSame (is_held held) (is_held held') (word_in held) (word_in held') frames → SameKept value value'
      → StandsFor p names held wait pc fp value thread frames → StandsFor p names' held' wait pc fp value' thread frames
  stands_same p held held' wait pc fp value value' thread frames accepted all same (ahead, words, waiting, keeps, newest) =
      let more : Grows (named_by names) (named_by names') = λ name cell is. grows name cell is in (
        ahead,
        words,
        waits_same thread wait waiting,
        (λ x name kept there. subst (λ (n : ℕ). IsHeldAs (named_by names') name n) (same x kept) (held_grows (named_by names) (named_by names') more name (value x) (keeps x name kept there))),
        newest_same p (named_by names) (named_by names') more (is_held held) (is_held held') (word_in held) (word_in held') accepted AtEnd AtEnd
            (end_same p (named_by names) (named_by names') more (is_held held) (is_held held') (word_in held) (word_in held') accepted) thread.activations frames ahead pc fp value value' all same newest,
      )
