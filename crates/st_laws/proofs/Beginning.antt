-- Items that are begun: whether a thread has a step can be decided (step_or), and threads that haven't ended can make their next items one by one,
-- in a longer run (begun_are_made). A run in which each of some threads steps is no shorter than they are many: distinct_within.
use Rattle.std.proofs.Common.{◌≡◌, ◌≢◌, ℕ, zero, suc, ◌+◌, ◌≤◌, ◌<◌, Bool, true, false, List, [], ◌∷◌, length, Option, Some, None, refl, sym, ap, ◌∙◌, subst, arith, ◌⊎◌, inl, inr}
use Rattle.std.specs.Str.{bytes_eq}
use Rattle.st_base.specs.declared.thread.Standing.{Standing}
use Rattle.st_base.specs.declared.thread.Standing.TheVariants.{Going, Ended, Trapped, Full}
use Rattle.st_base.specs.declared.thread.Thread.{Thread}
use Rattle.st_model.specs.declared.program.Program.{Program}
use Rattle.st_model.specs.Heap.{Path, Heap, Change, Move, Stays, Moves, Touch, Join, move, HasEnded, Enabled, after, HStep, IsNumbered, steps_of}
use Rattle.st_model.specs.Limits.{IsMember, AreDistinct, IsUnfinished, IsWaiting}
use Rattle.st_laws.specs.Begun.{AreMade, BegunAreMade}
use Rattle.st_laws.proofs.HeapSteps.{eq_same, eq_other, decide}
use Rattle.st_laws.proofs.HeapRuns.{other_stays}
use Rattle.st_laws.proofs.Numbering.{numbered_after}
use Rattle.st_laws.proofs.Placing.{le_or_less}
use Rattle.st_laws.proofs.Agreeing.{own_step, other_step}
use Rattle.st_model.specs.Memory.{Data}

-- ---- whether a thread has a step
ended_or : (h : Heap) (q : Path) (t : Thread) (s : Standing) → h.thread q ≡ Some t → t.standing ≡ s → ((v : ℕ) × HasEnded h q v) ⊎ ((v : ℕ) → HasEnded h q v → ⊥)
ended_or h q t Going here is = inr (λ v e. let same : e.0 ≡ t = let x = e.1 in cc in let y : Ended v ≡ Going = sym e.2 ∙ ap (λ x. x.standing) same ∙ is in cc)
ended_or h q t (Ended v) here is = inl (v, (t, here, is))
ended_or h q t (Trapped kind line) here is = inr (λ v e. let same : e.0 ≡ t = let x = e.1 in cc in let y : Ended v ≡ Trapped kind line = sym e.2 ∙ ap (λ x. x.standing) same ∙ is in cc)
ended_or h q t Full here is = inr (λ v e. let same : e.0 ≡ t = let x = e.1 in cc in let y : Ended v ≡ Full = sym e.2 ∙ ap (λ x. x.standing) same ∙ is in cc)

ended_at : (h : Heap) (q : Path) (o : Option Thread) → h.thread q ≡ o → ((v : ℕ) × HasEnded h q v) ⊎ ((v : ℕ) → HasEnded h q v → ⊥)
ended_at h q None none = inr (λ v e. let x = e.1 in cc)
ended_at h q (Some t) here = ended_or h q t t.standing here refl

enabled_or : (h : Heap) (m : Move) → ((c : Change) × Enabled h m c) ⊎ ((c : Change) → Enabled h m c → ⊥)
enabled_or h Stays = inr (λ c e. e)
enabled_or h (Moves d) = inl (d, refl)
enabled_or h (Touch q f) =
    elim (ended_at h q (h.thread q) refl) [
      | inl e ↦ inl (f e.0, (e.0, e.1, refl))
      | inr no' ↦ inr (λ c e. no' e.0 e.1)
    ]
enabled_or h (Join q n least d) =
    elim (le_or_less least (h.count q n)) [
      | inl le ↦ inl (d, (le, refl))
      | inr less ↦ inr (λ c e. let x = e.0 in omega arith)
    ]

abbrev Stuck : Program → Data → Heap → Path → Type 0
Stuck program source h p = (h' : Heap) → HStep program source h p h' → ⊥

step_or_at : (program : Program) (source : Data) (h : Heap) (p : Path) (o : Option Thread) → h.thread p ≡ o → ((h' : Heap) × HStep program source h p h') ⊎ Stuck program source h p
step_or_at program source h p None none = inr (λ h' s. let x = s.here in cc)
step_or_at program source h p (Some t) here =
    elim (enabled_or h (move program source p t)) [
      | inl e ↦ inl (after h p t e.0, record { thread = t; change = e.0; here = here; enabled = e.1; next = refl })
      | inr no' ↦ inr (λ h' s.
          let same : s.thread ≡ t = let x = s.here in cc in
          no' s.change (subst (λ x. Enabled h (move program source p x) s.change) same s.enabled))
    ]

pub step_or : (program : Program) (source : Data) (h : Heap) (p : Path) → ((h' : Heap) × HStep program source h p h') ⊎ Stuck program source h p
step_or program source h p = step_or_at program source h p (h.thread p) refl

-- ---- lists of paths without one
abbrev removed_by : Bool → Path → List Path → List Path
removed_by true q qs = qs
removed_by false q qs = q ∷ qs

abbrev pub removed : Path → List Path → List Path
removed p [] = []
removed p (q ∷ qs) = removed_by (bytes_eq p q) q (removed p qs)

removed_is : (p q : Path) (qs : List Path) → p ≡ q → removed p (q ∷ qs) ≡ removed p qs
removed_is p q qs e = ap (λ b. removed_by b q (removed p qs)) (ap (bytes_eq p) (sym e) ∙ eq_same p)

removed_not : (p q : Path) (qs : List Path) → p ≢ q → removed p (q ∷ qs) ≡ q ∷ removed p qs
removed_not p q qs ne = ap (λ b. removed_by b q (removed p qs)) (eq_other p q ne)

pub removed_member : (p r : Path) (qs : List Path) → IsMember r (removed p qs) → IsMember r qs × (r ≢ p)
removed_member p r [] m = absurd m
removed_member p r (q ∷ qs) m =
    elim (decide p q) [
      | inl e ↦ let x = removed_member p r qs (subst (IsMember r) (removed_is p q qs e) m) in (inr x.0, x.1)
      | inr ne ↦ elim (subst (IsMember r) (removed_not p q qs ne) m) [
        | inl same ↦ (inl same, λ e. ne (sym e ∙ same))
        | inr rest ↦ let x = removed_member p r qs rest in (inr x.0, x.1)
      ]
    ]

pub member_removed : (p r : Path) (qs : List Path) → IsMember r qs → r ≢ p → IsMember r (removed p qs)
member_removed p r [] m ne = absurd m
member_removed p r (q ∷ qs) m ne =
    elim (decide p q) [
      | inl e ↦ elim m [
        | inl same ↦ absurd (ne (same ∙ sym e))
        | inr rest ↦ subst (IsMember r) (sym (removed_is p q qs e)) (member_removed p r qs rest ne)
      ]
      | inr other ↦ elim m [
        | inl same ↦ subst (IsMember r) (sym (removed_not p q qs other)) (inl same)
        | inr rest ↦ subst (IsMember r) (sym (removed_not p q qs other)) (inr (member_removed p r qs rest ne))
      ]
    ]

removed_le : (p : Path) (qs : List Path) → length (removed p qs) ≤ length qs
removed_le p [] = omega arith
removed_le p (q ∷ qs) =
    let more = removed_le p qs in
    elim (decide p q) [
      | inl e ↦ let x = ap length (removed_is p q qs e) in omega arith
      | inr ne ↦ let x = ap length (removed_not p q qs ne) in omega arith
    ]

removed_less : (p : Path) (qs : List Path) → IsMember p qs → length (removed p qs) < length qs
removed_less p [] m = absurd m
removed_less p (q ∷ qs) m =
    elim (decide p q) [
      | inl e ↦ let x = ap length (removed_is p q qs e) in let y = removed_le p qs in omega arith
      | inr ne ↦ elim m [
        | inl same ↦ absurd (ne same)
        | inr rest ↦ let x = ap length (removed_not p q qs ne) in let y = removed_less p qs rest in omega arith
      ]
    ]

-- ---- one of the threads that has a step
find_step : (program : Program) (source : Data) (h : Heap) (begun : List Path) → ((p : Path) × (IsMember p begun × ((h' : Heap) × HStep program source h p h'))) ⊎ ((p : Path) → IsMember p begun → Stuck program source h p)
find_step program source h [] = inr (λ p m. absurd m)
find_step program source h (q ∷ qs) =
    elim (step_or program source h q) [
      | inl s ↦ inl (q, (inl refl, s))
      | inr stuck ↦ elim (find_step program source h qs) [
        | inl x ↦ inl (x.0, (inr x.1.0, x.1.1))
        | inr none ↦ inr (λ p m. elim m [
          | inl same ↦ subst (Stuck program source h) (sym same) stuck
          | inr rest ↦ none p rest
        ])
      ]
    ]

make_begun : (fuel : ℕ) (program : Program) (source : Data) (h : Heap) (begun : List Path) → length begun ≤ fuel → IsNumbered h → ((p : Path) → IsMember p begun → IsUnfinished h p) → AreMade program source h begun
make_begun zero program source h [] le numbered there =
    record { more = []; end = h; run = refl; made = λ p m. absurd m; others = λ p none. refl }
make_begun zero program source h (q ∷ qs) le numbered there = absurd (omega arith)
make_begun (suc fuel) program source h begun le numbered there =
    elim (find_step program source h begun) [
      | inr none ↦
          record {
            more = [];
            end = h;
            run = refl;
            made = λ p m. inr (refl, (there p m, none p m));
            others = λ p no'. refl;
          }
      | inl x ↦
          let p = x.0 in
          let s = x.1.1 in
          let left = removed p begun in
          let still : (r : Path) → IsMember r left → IsUnfinished s.0 r = λ r m.
          let y = removed_member p r begun m in
          let t = there r y.0 in
          (t.0, (other_stays program source h r p s.0 t.0 numbered t.1.0 y.1 s.1, t.1.1)) in
          let rest = make_begun fuel program source s.0 left (let z = removed_less p begun x.1.0 in omega arith) (numbered_after program source h p s.0 numbered s.1) still in
          record {
            more = p ∷ rest.more;
            end = rest.end;
            run = (s.0, s.1, rest.run);
            made = λ r m. elim (decide r p) [
              | inl e ↦
                  let none = rest.others r (λ y. (removed_member p r begun y).1 e) in
                  inl (own_step r p rest.more e ∙ ap (λ n. n + 1) none)
              | inr ne ↦
                  subst (λ n. (n ≡ 1) ⊎ ((n ≡ 0) × IsWaiting program source rest.end r)) (sym (other_step r p rest.more ne))
                  (rest.made r (member_removed p r begun m ne))
            ];
            others = λ r no'.
                let ne : r ≢ p = λ e. no' (subst (λ y. IsMember y begun) (sym e) x.1.0) in
                other_step r p rest.more ne ∙ rest.others r (λ y. no' (removed_member p r begun y).0);
          }
    ]

pub begun_are_made : BegunAreMade
begun_are_made program source h begun numbered there = make_begun (length begun) program source h begun (omega arith) numbered there

-- ---- a run in which each of some threads makes a step is no shorter than they are many
removed_distinct : (p : Path) (qs : List Path) → AreDistinct qs → AreDistinct (removed p qs)
removed_distinct p [] d = tt
removed_distinct p (q ∷ qs) d =
    elim (decide p q) [
      | inl e ↦ subst AreDistinct (sym (removed_is p q qs e)) (removed_distinct p qs d.1)
      | inr ne ↦ subst AreDistinct (sym (removed_not p q qs ne)) (λ m. d.0 (removed_member p q qs m).0, removed_distinct p qs d.1)
    ]

not_removed : (p : Path) (qs : List Path) → (IsMember p qs → ⊥) → length (removed p qs) ≡ length qs
not_removed p [] none = refl
not_removed p (q ∷ qs) none =
    let ne : p ≢ q = λ e. none (inl e) in
    ap length (removed_not p q qs ne) ∙ (let x = not_removed p qs (λ m. none (inr m)) in omega arith)

removed_one : (p : Path) (qs : List Path) → AreDistinct qs → length qs ≤ length (removed p qs) + 1
removed_one p [] d = omega arith
removed_one p (q ∷ qs) d =
    elim (decide p q) [
      | inl e ↦
          let x = ap length (removed_is p q qs e) in
          let y = not_removed p qs (λ m. d.0 (subst (λ z. IsMember z qs) e m)) in omega arith
      | inr ne ↦ let x = ap length (removed_not p q qs ne) in let y = removed_one p qs d.1 in omega arith
    ]

pub member_steps : (p : Path) (qs : List Path) → IsMember p qs → 1 ≤ steps_of p qs
member_steps p [] m = absurd m
member_steps p (q ∷ qs) (inl same) = let one = own_step p q qs same in omega arith
member_steps p (q ∷ qs) (inr m) =
    let more = member_steps p qs m in
    elim (decide p q) [
      | inl same ↦ let one = own_step p q qs same in omega arith
      | inr ne ↦ let one = other_step p q qs ne in omega arith
    ]

pub distinct_within : (ws ps : List Path) → AreDistinct ws → ((p : Path) → IsMember p ws → 1 ≤ steps_of p ps) → length ws ≤ length ps
distinct_within [] [] d all = omega arith
distinct_within (w ∷ ws) [] d all = let x = all w (inl refl) in absurd (omega arith)
distinct_within ws (q ∷ ps) d all =
    let more = distinct_within (removed q ws) ps (removed_distinct q ws d)
    (λ p m. let x = removed_member q p ws m in let y = all p x.0 in let z = other_step p q ps x.1 in omega arith) in
    let one = removed_one q ws d in omega arith
