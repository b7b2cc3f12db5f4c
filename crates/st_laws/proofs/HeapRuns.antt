-- Runs from one start. strip takes a thread's step out of a run, or puts it behind it; with it any two runs can be led together (led_together)
-- and have one end where each thread makes as many steps (same_steps),
-- quiet heaps are equal (one_quiet) and reached from each heap of a run (quiet_reached), no run is longer than one to a quiet heap (no_longer),
-- and a thread's state is determined by the number of its own steps (one_history).
use Rattle.std.proofs.Common.{◌≡◌, ◌≢◌, ℕ, ◌+◌, ◌≤◌, Bool, true, false, cond, List, [], ◌∷◌, ◌++◌, length, Some, refl, sym, ap, ◌∙◌, subst, arith, ◌⊎◌, inl, inr}
use Rattle.std.specs.Prelude.{max}
use Rattle.std.specs.Str.{bytes_eq}
use Rattle.std.proofs.lemmas.Slice.Eq.{bytes_eq-Decides}
use Rattle.st_base.specs.declared.thread.Thread.{Thread}
use Rattle.st_model.specs.declared.program.Program.{Program}
use Rattle.st_model.specs.Ordinary.{run}
use Rattle.st_model.specs.Heap.{Path, Heap, HStep, Run, IsNumbered, steps_of}
use Rattle.st_model.specs.Quiet.{IsQuiet}
use Rattle.st_laws.specs.Steps.{OneQuiet, OneHistory, KeepsStep, LedTogether, SameSteps}
use Rattle.st_laws.proofs.HeapSteps.{eq_same, eq_other, thread_stays, diamond, decide, same_step}
use Rattle.st_model.specs.Memory.{Data}
use Rattle.st_laws.proofs.Numbering.{numbered_after, numbered_run}

-- ---- a step against a run
-- the run without one step of p
pub record Without (program : Program) (source : Data) (h : Heap) (p : Path) (ps : List Path) (h' : Heap) : Type 0 where
  pub rest : List Path
  pub size : length rest + 1 ≡ length ps
  pub run : Run program source h rest h'
  pub steps : (r : Path) → steps_of r ps ≡ cond (bytes_eq r p) (steps_of r rest + 1) (steps_of r rest)

-- the same run after a step of p, which can still be made after it
pub record Beside (program : Program) (source : Data) (h : Heap) (p : Path) (ps : List Path) (h' : Heap) : Type 0 where
  pub end : Heap
  pub run : Run program source h ps end
  pub step : HStep program source h' p end
  pub none : steps_of p ps ≡ 0

steps_swap : (b c : Bool) (n : ℕ) → cond b (cond c (n + 1) n + 1) (cond c (n + 1) n) ≡ cond c (cond b (n + 1) n + 1) (cond b (n + 1) n)
steps_swap true true n = refl
steps_swap true false n = refl
steps_swap false true n = refl
steps_swap false false n = refl

pub strip : (program : Program) (source : Data) (h hp : Heap) (p : Path) (ps : List Path) (h' : Heap) → IsNumbered h → HStep program source h p hp → Run program source h ps h' → Without program source hp p ps h' ⊎ Beside program source hp p ps h'
strip program source h hp p [] h' numbered s run = inr record { end = hp; run = refl; step = subst (λ x. HStep program source x p hp) run s; none = refl }
strip program source h hp p (q ∷ ps) h' numbered s run =
    elim (decide p q) [
      | inl e ↦
          let same : run.0 ≡ hp = same_step program source h p run.0 hp (subst (λ x. HStep program source h x run.0) (sym e) run.1) s in
          inl record {
            rest = ps;
            size = omega arith;
            run = subst (λ x. Run program source x ps h') same run.2;
            steps = λ r. ap (λ x. cond (bytes_eq r x) (steps_of r ps + 1) (steps_of r ps)) (sym e);
          }
      | inr ne ↦
          let d = diamond program source h p q hp run.0 numbered ne s run.1 in
          let numbered' = numbered_after program source h q run.0 numbered run.1 in
          elim (strip program source run.0 d.0 p ps h' numbered' d.2 run.2) [
            | inl w ↦
                inl record {
                  rest = q ∷ w.rest;
                  size = let x = w.size in omega arith;
                  run = (d.0, d.1, w.run);
                  steps = λ r. ap (λ n. cond (bytes_eq r q) (n + 1) n) (w.steps r) ∙ steps_swap (bytes_eq r q) (bytes_eq r p) (steps_of r w.rest);
                }
            | inr w ↦
                inr record {
                  end = w.end;
                  run = (d.0, d.1, w.run);
                  step = w.step;
                  none = ap (λ b. cond b (steps_of p ps + 1) (steps_of p ps)) (eq_other p q ne) ∙ w.none;
                }
          ]
    ]

-- a thread that has a step keeps it until it makes it
pub keeps_step : KeepsStep
keeps_step program source h hp h' p qs numbered s run none =
    elim (strip program source h hp p qs h' numbered s run) [
      | inl w ↦
          let count = w.steps p ∙ ap (λ b. cond b (steps_of p w.rest + 1) (steps_of p w.rest)) (eq_same p) in absurd (omega arith)
      | inr w ↦ (w.end, w.step)
    ]

-- ---- quiet heaps
pub one_quiet : OneQuiet
one_quiet program source h [] [] a b numbered s t qa qb = sym s ∙ t
one_quiet program source h [] (q ∷ qs) a b numbered s t qa qb = absurd (qa q t.0 (subst (λ x. HStep program source x q t.0) s t.1))
one_quiet program source h (p ∷ ps) qs a b numbered s t qa qb =
    elim (strip program source h s.0 p qs b numbered s.1 t) [
      | inl w ↦ one_quiet program source s.0 ps w.rest a b (numbered_after program source h p s.0 numbered s.1) s.2 w.run qa qb
      | inr w ↦ absurd (qb p w.end w.step)
    ]

-- no run is longer than one to a quiet heap
pub no_longer : (program : Program) (source : Data) (h : Heap) (ps qs : List Path) (a b : Heap) → IsNumbered h → Run program source h ps a → Run program source h qs b → IsQuiet program source b → length ps ≤ length qs
no_longer program source h [] qs a b numbered s t quiet = omega arith
no_longer program source h (p ∷ ps) qs a b numbered s t quiet =
    elim (strip program source h s.0 p qs b numbered s.1 t) [
      | inl w ↦
          let more = no_longer program source s.0 ps w.rest a b (numbered_after program source h p s.0 numbered s.1) s.2 w.run quiet in
          let size = w.size in omega arith
      | inr w ↦ absurd (quiet p w.end w.step)
    ]

-- ---- one thread's steps
-- a step of another leaves a thread
pub other_stays : (program : Program) (source : Data) (h : Heap) (p q : Path) (h' : Heap) (t : Thread) → IsNumbered h → h.thread p ≡ Some t → p ≢ q → HStep program source h q h' → h'.thread p ≡ Some t
other_stays program source h p q h' t numbered here ne s =
    subst (λ x. x.thread p ≡ Some t) s.next (thread_stays h q p s.thread t s.change numbered s.here here ne)

one_more : (b : Bool) (m n : ℕ) → cond b (m + 1) m ≡ cond b (n + 1) n → m ≡ n
one_more true m n e = omega arith
one_more false m n e = e

pub rests : (program : Program) (source : Data) (h : Heap) (qs : List Path) (b : Heap) (p : Path) (t : Thread) → IsNumbered h → Run program source h qs b → 0 ≡ steps_of p qs → h.thread p ≡ Some t → b.thread p ≡ Some t
rests program source h [] b p t numbered run none here = subst (λ x. x.thread p ≡ Some t) run here
rests program source h (q ∷ qs) b p t numbered run none here =
    elim (decide p q) [
      | inl e ↦ let count = none ∙ ap (λ b. cond b (steps_of p qs + 1) (steps_of p qs)) (ap (bytes_eq p) (sym e) ∙ eq_same p) in absurd (omega arith)
      | inr ne ↦
          let count = none ∙ ap (λ b. cond b (steps_of p qs + 1) (steps_of p qs)) (eq_other p q ne) in
          rests program source run.0 qs b p t (numbered_after program source h q run.0 numbered run.1) run.2 count (other_stays program source h p q run.0 t numbered here ne run.1)
    ]

pub one_history : OneHistory
one_history program source h [] qs a b p t u numbered s run count ta ub =
    let here : h.thread p ≡ Some t = subst (λ x. x.thread p ≡ Some t) (sym s) ta in
    let there = rests program source h qs b p t numbered run count here in cc
one_history program source h (q ∷ ps) qs a b p t u numbered s run count ta ub =
    let numbered' = numbered_after program source h q s.0 numbered s.1 in
    elim (strip program source h s.0 q qs b numbered s.1 run) [
      | inl w ↦ one_history program source s.0 ps w.rest a b p t u numbered' s.2 w.run (one_more _ _ _ (count ∙ w.steps p)) ta ub
      | inr w ↦
          elim (decide p q) [
            | inl e ↦
                let none : steps_of p qs ≡ 0 = subst (λ x. steps_of x qs ≡ 0) (sym e) w.none in
                let one = ap (λ b. cond b (steps_of p ps + 1) (steps_of p ps)) (ap (bytes_eq p) (sym e) ∙ eq_same p) in
                let sum : steps_of p ps + 1 ≡ 0 = sym one ∙ count ∙ none in
                absurd (omega arith)
            | inr ne ↦
                let less = ap (λ b. cond b (steps_of p ps + 1) (steps_of p ps)) (eq_other p q ne) in
                one_history program source s.0 ps qs a w.end p t u numbered' s.2 w.run (sym less ∙ count) ta (other_stays program source b p q w.end u (numbered_run program source h qs b numbered run) ub ne w.step)
          ]
    ]

-- ---- two runs from one start can be led together, each thread making the steps of the one that had made more
both_more : (b : Bool) (x y m : ℕ) → x + m ≡ max x y → cond b (x + 1) x + m ≡ max (cond b (x + 1) x) (cond b (y + 1) y)
both_more true x y m e = omega arith
both_more false x y m e = omega arith

other_more : (b : Bool) (x y m : ℕ) → y + m ≡ max x y → cond b (y + 1) y + m ≡ max (cond b (x + 1) x) (cond b (y + 1) y)
other_more true x y m e = omega arith
other_more false x y m e = omega arith

one_sided : (b : Bool) (x y m : ℕ) → (b ≡ true → y ≡ 0) → x + m ≡ max x y → cond b (x + 1) x + m ≡ max (cond b (x + 1) x) y
one_sided true x y m z e = let w = z refl in omega arith
one_sided false x y m z e = e

other_sided : (b : Bool) (x y m : ℕ) → (b ≡ true → y ≡ 0) → y + m ≡ max x y → y + cond b (m + 1) m ≡ max (cond b (x + 1) x) y
other_sided true x y m z e = let w = z refl in omega arith
other_sided false x y m z e = e

pub led_together : LedTogether
led_together program source h [] qs a b numbered s run =
    record {
      end = b;
      more_a = qs;
      more_b = [];
      run_a = subst (λ x. Run program source x qs b) s run;
      run_b = refl;
      steps_a = λ r. omega arith;
      steps_b = λ r. omega arith;
    }
led_together program source h (q ∷ ps) qs a b numbered s run =
    let numbered' = numbered_after program source h q s.0 numbered s.1 in
    elim (strip program source h s.0 q qs b numbered s.1 run) [
      | inl w ↦
          let j = led_together program source s.0 ps w.rest a b numbered' s.2 w.run in
          record {
            end = j.end;
            more_a = j.more_a;
            more_b = j.more_b;
            run_a = j.run_a;
            run_b = j.run_b;
            steps_a = λ r. both_more (bytes_eq r q) _ _ _ (j.steps_a r) ∙ ap (max (steps_of r (q ∷ ps))) (sym (w.steps r));
            steps_b = λ r. (λ i. w.steps r i + steps_of r j.more_b) ∙ other_more (bytes_eq r q) _ _ _ (j.steps_b r) ∙ ap (max (steps_of r (q ∷ ps))) (sym (w.steps r));
          }
      | inr w ↦
          let j = led_together program source s.0 ps qs a w.end numbered' s.2 w.run in
          let zero : (r : Path) → bytes_eq r q ≡ true → steps_of r qs ≡ 0 = λ r t. subst (λ x. steps_of x qs ≡ 0) (sym ((bytes_eq-Decides r q).0 t)) w.none in
          record {
            end = j.end;
            more_a = j.more_a;
            more_b = q ∷ j.more_b;
            run_a = j.run_a;
            run_b = (w.end, w.step, j.run_b);
            steps_a = λ r. one_sided (bytes_eq r q) (steps_of r ps) (steps_of r qs) (steps_of r j.more_a) (zero r) (j.steps_a r);
            steps_b = λ r. other_sided (bytes_eq r q) (steps_of r ps) (steps_of r qs) (steps_of r j.more_b) (zero r) (j.steps_b r);
          }
    ]

-- ---- two runs with as many steps of each thread
none_made : (ps : List Path) → ((r : Path) → steps_of r ps ≡ 0) → ps ≡ []
none_made [] none = refl
none_made (p ∷ ps) none =
    let one : steps_of p (p ∷ ps) ≡ steps_of p ps + 1 = ap (λ (b : Bool). cond b (steps_of p ps + 1) (steps_of p ps)) (eq_same p) in
    let zero_too = none p in
    absurd (omega arith)

empty_run : (program : Program) (source : Data) (h : Heap) (ps : List Path) (h' : Heap) → ps ≡ [] → Run program source h ps h' → h ≡ h'
empty_run program source h ps h' none run = subst (λ (qs : List Path). Run program source h qs h') none run

pub same_steps : SameSteps
same_steps program source h ps qs a b numbered run other same =
    let j = led_together program source h ps qs a b numbered run other in
    let none_a = none_made j.more_a (λ r. let e = j.steps_a r in let s = same r in omega arith) in
    let none_b = none_made j.more_b (λ r. let e = j.steps_b r in let s = same r in omega arith) in
    empty_run program source a j.more_a j.end none_a j.run_a ∙ sym (empty_run program source b j.more_b j.end none_b j.run_b)

-- ---- longer runs
pub run_snoc : (program : Program) (source : Data) (h : Heap) (ps : List Path) (h' : Heap) (p : Path) (h'' : Heap) → Run program source h ps h' → HStep program source h' p h'' → Run program source h (ps ++ p ∷ []) h''
run_snoc program source h [] h' p h'' run s = (h'', subst (λ x. HStep program source x p h'') (sym run) s, refl)
run_snoc program source h (q ∷ ps) h' p h'' run s = (run.0, run.1, run_snoc program source run.0 ps h' p h'' run.2 s)

pub run_append : (program : Program) (source : Data) (h : Heap) (ps : List Path) (mid : Heap) (qs : List Path) (h' : Heap) → Run program source h ps mid → Run program source mid qs h' → Run program source h (ps ++ qs) h'
run_append program source h [] mid qs h' a b = subst (λ x. Run program source x qs h') (sym a) b
run_append program source h (p ∷ ps) mid qs h' a b = (a.0, a.1, run_append program source a.0 ps mid qs h' a.2 b)

-- a quiet heap has no longer run
pub quiet_stays : (program : Program) (source : Data) (h : Heap) (ps : List Path) (h' : Heap) → IsQuiet program source h → Run program source h ps h' → h ≡ h'
quiet_stays program source h [] h' quiet run = run
quiet_stays program source h (p ∷ ps) h' quiet run = absurd (quiet p run.0 run.1)

-- from each reached heap a run leads to the quiet one
pub quiet_reached : (program : Program) (source : Data) (h : Heap) (ps qs : List Path) (a b : Heap) → IsNumbered h → Run program source h ps a → Run program source h qs b → IsQuiet program source b → (more : List Path) × Run program source a more b
quiet_reached program source h ps qs a b numbered ra rb quiet =
    let j = led_together program source h ps qs a b numbered ra rb in
    (j.more_a, subst (Run program source a j.more_a) (sym (quiet_stays program source b j.more_b j.end quiet j.run_b)) j.run_a)
