-- What an item of one thread leaves of a heap: Grows (what is there stays, with grows_after), and what is there after it was there before: threads_back,
-- made_back and ended_back. shows_on: a cell whose thread or counter the item leaves alone shows it still.
use Rattle.std.proofs.Common.{◌≡◌, ◌≢◌, ◌⊎◌, inl, inr, ⊎_elim, ℕ, ◌≤◌, ◌<◌, Bool, true, false, cond, ◌==◌, [], ◌∷◌, ◌++◌, Option, Some, None, refl, sym, ap, ◌∙◌, subst, arith, eq-eqb}
use Rattle.std.specs.Prelude.{◌&&◌}
use Rattle.std.specs.Str.{bytes_eq}
use Rattle.st_base.specs.declared.thread.Held.{Held}
use Rattle.st_base.specs.declared.thread.Held.TheVariants.{Number, Future, Counter}
use Rattle.st_base.specs.declared.thread.Standing.{Standing}
use Rattle.st_base.specs.declared.thread.Standing.TheVariants.{Ended}
use Rattle.st_base.specs.declared.thread.Thread.{Thread}
use Rattle.st_model.specs.declared.program.Program.{Program}
use Rattle.st_model.specs.Memory.{Data}
use Rattle.st_model.specs.Ordinary.{counted}
use Rattle.st_model.specs.Heap.{Path, Heap, Change, Move, Moves, move, HasEnded, Enabled, put_child, count_up, after, HStep, IsNumbered}
use Rattle.st_model.specs.Limits.{cells_drawn}
use Rattle.st_laws.specs.Names.{IsThread, IsMade}
use Rattle.st_laws.specs.Changes.{IsNew, ItemChange}
use Rattle.st_laws.proofs.HeapSteps.{decide, eq_same, put_same, same_thread}
use Rattle.st_laws.proofs.ItemChanges.{item_changes, step_counters}
use Rattle.st_laws.proofs.Later.{step_forks}
use Rattle.st_laws.proofs.Placing.{OfChild, each_after, le_or_less, same_counter}
use Rattle.st_laws.proofs.Staying.{ended_stays, other_stays}
use Rattle.st_made.specs.Items.{IsLive, ending}
use Rattle.st_names.specs.Naming.{ShowsName, WillEnd}

-- ---- what is there stays

pub record Grows (program : Program) (source : Data) (h h' : Heap) : Type 0 where
  pub there : (q : Path) → IsThread h q → IsThread h' q
  pub made : (q : Path) (i : ℕ) → IsMade h q i → IsMade h' q i
  pub ended : (q : Path) (n : ℕ) → HasEnded h q n → HasEnded h' q n
  pub will : (q : Path) (n : ℕ) → WillEnd program source h q n → WillEnd program source h' q n

pub grows_same : (program : Program) (source : Data) (h : Heap) → Grows program source h h
grows_same program source h = record { there = λ q t. t; made = λ q i m. m; ended = λ q n e. e; will = λ q n e. e }

pub own_after : (h : Heap) (p : Path) (t : Thread) (c : Change) → (after h p t c).thread p ≡ Some c.own
own_after h p t c = put_same p (Some c.own) (put_child (p ++ t.forks ∷ []) c.child h.thread)

-- a move that is made at once makes its own change
pub enabled_is : (h : Heap) (m : Move) (c d : Change) → m ≡ Moves d → Enabled h m c → c ≡ d
enabled_is h m c d e enabled = sym (subst (λ y. Enabled h y c) e enabled)

pub grows_after : (program : Program) (source : Data) (h : Heap) (p : Path) (t : Thread) (c : Change) → IsNumbered h → h.thread p ≡ Some t → Enabled h (move program source p t) c → Grows program source h (after h p t c)
grows_after program source h p t c numbered here enabled =
    let h' = after h p t c in
    let s : HStep program source h p h' = record { thread = t; change = c; here = here; enabled = enabled; next = refl } in
    let at : (q : Path) (u : Thread) → q ≡ p → h.thread q ≡ Some u → t ≡ u = λ q u same there. same_thread h p t u here (subst (λ r. h.thread r ≡ Some u) same there) in
    let own : (q : Path) → q ≡ p → h'.thread q ≡ Some c.own = λ q same. subst (λ r. h'.thread r ≡ Some c.own) (sym same) (own_after h p t c) in
    let other : (q : Path) (u : Thread) → h.thread q ≡ Some u → q ≢ p → h'.thread q ≡ Some u = λ q u there ne. other_stays program source h h' q p u numbered there ne s in
    let ended : (q : Path) (n : ℕ) → HasEnded h q n → HasEnded h' q n = λ q n e. ended_stays program source h h' (p ∷ []) q n numbered (h', s, refl) e in
    record {
      there = λ q u. let y = step_forks program source h p q h' u.0 numbered u.1 s in (y.0, y.1);
      made = λ q i m. elim (decide q p) [
        | inl same ↦
            let less = m.1.1 in
            let le = step_counters program source h p h' s in
            let one : t.counters ≡ m.0.counters = ap (λ (y : Thread). y.counters) (at q m.0 same m.1.0) in
            (c.own, (own q same, omega arith))
        | inr ne ↦ (m.0, (other q m.0 m.1.0 ne, m.1.1))
      ];
      ended = ended;
      will = λ q n w. elim w [
        | inl e ↦ inl (ended q n e)
        | inr e ↦ elim (decide q p) [
          | inl same ↦
              let is : move program source p t ≡ Moves (ending e.0 n) = (λ i. move program source (sym same i) (at q e.0 same e.1 i)) ∙ e.2 in
              inl (c.own, own q same, ap (λ (y : Change). y.own.standing) (enabled_is h (move program source p t) c (ending e.0 n) is enabled))
          | inr ne ↦ inr (e.0, other q e.0 e.1 ne, e.2)
        ]
      ];
    }

-- ---- what is there was there

module _ (program : Program) (source : Data) (h : Heap) (p : Path) (t : Thread) (c : Change) (here : h.thread p ≡ Some t) (enabled : Enabled h (move program source p t) c) where
  new_child : (Q : Path → Thread → Type 0) (q : Path) (o : Option Thread) → IsNew o → ((u : Thread) → o ≡ Some u → IsNew (Some u) → Q q u) → OfChild Q q o
  new_child Q q None new f = tt
  new_child Q q (Some u) new f = f u refl new

  change : ItemChange p (cells_drawn program p t) t c
  change = item_changes program source h p t c enabled

  back : (Q : Path → Thread → Type 0) → Q p c.own → ((u : Thread) → c.child ≡ Some u → IsNew (Some u) → Q (p ++ t.forks ∷ []) u) → ((q : Path) (u : Thread) → h.thread q ≡ Some u → Q q u) → (q : Path) (u : Thread) → (after h p t c).thread q ≡ Some u → Q q u
  back Q own child others = each_after Q h p t c own (new_child Q (p ++ t.forks ∷ []) c.child change.child child) (λ q u ne there. others q u there)

  pub threads_back : (q : Path) → IsThread (after h p t c) q → IsThread h q ⊎ ((q ≡ p ++ t.forks ∷ []) × (c.child ≢ None))
  threads_back q u = back (λ r v. IsThread h r ⊎ ((r ≡ p ++ t.forks ∷ []) × (c.child ≢ None))) (inl (t, here)) (λ v made new. inr (refl, λ none. let no : ⊥ = cc in no)) (λ r v there. inl (v, there)) q u.0 u.1

  pub made_back : (q : Path) (i : ℕ) → IsMade (after h p t c) q i → IsMade h q i ⊎ ((q ≡ p) × (t.counters ≤ i) × (i < c.own.counters))
  made_back q i m = back (λ r v. i < v.counters → IsMade h r i ⊎ ((r ≡ p) × (t.counters ≤ i) × (i < c.own.counters)))
      (λ less. ⊎_elim (λ (l : t.counters ≤ i). inr (refl, l, less)) (λ (l : i < t.counters). inl (t, (here, l))) (le_or_less t.counters i))
      (λ v made new less. let none = new.2 in let no : ⊥ = omega (arith, less, none) in absurd no)
      (λ r v there less. inl (v, (there, less))) q m.0 m.1.0 m.1.1

  pub ended_back : (q : Path) (n : ℕ) → HasEnded (after h p t c) q n → HasEnded h q n ⊎ ((q ≡ p) × (c.own.standing ≡ Ended n))
  ended_back q n e = back (λ r v. v.standing ≡ Ended n → HasEnded h r n ⊎ ((r ≡ p) × (c.own.standing ≡ Ended n)))
      (λ over. inr (refl, over))
      (λ v made new over. let going = new.0 in let no : ⊥ = cc in absurd no)
      (λ r v there over. inl (v, there, over)) q e.0 e.1 e.2

pub not_live : (s : Standing) (n : ℕ) → s ≡ Ended n → IsLive s → ⊥
not_live s n e live = subst IsLive e live

-- ---- counts

up_by : (b : Bool) (n : ℕ) → (b ≡ true) ⊎ (cond b (counted n) n ≡ n)
up_by true n = inl refl
up_by false n = inr refl

-- it is added to this counter, or its count stays
pub count_case : (a : Option (Path × ℕ)) (f : Path → ℕ → ℕ) (q : Path) (i : ℕ) → (a ≡ Some (q, i)) ⊎ (count_up a f q i ≡ f q i)
count_case None f q i = inr refl
count_case (Some a) f q i = ⊎_elim (λ (e : (bytes_eq q a.0 && (i == a.1)) ≡ true). let s = same_counter q i a.0 a.1 e in inl (ap Some (λ k. (sym s.0 k, sym s.1 k)))) (λ (e : count_up (Some a) f q i ≡ f q i). inr e) (up_by (bytes_eq q a.0 && (i == a.1)) (f q i))

pub count_here : (f : Path → ℕ → ℕ) (q : Path) (i : ℕ) → count_up (Some (q, i)) f q i ≡ counted (f q i)
count_here f q i = ap (λ (b : Bool). cond (b && (i == i)) (counted (f q i)) (f q i)) (eq_same q) ∙ ap (λ (b : Bool). cond b (counted (f q i)) (f q i)) (eq-eqb i i refl)

-- ---- what a cell shows

-- the item leaves the thread or the counter of this name alone
abbrev pub NameStays : Heap → Heap → Held → Type 0
NameStays h h' (Number n) = Prim.Unit
NameStays h h' (Future p) = (n : ℕ) → HasEnded h' p n → HasEnded h p n
NameStays h h' (Counter p i) = h'.count p i ≡ h.count p i

-- an item that doesn't end the thread and adds nothing to the counter
pub stays_of : (program : Program) (source : Data) (h : Heap) (p : Path) (t : Thread) (c : Change) (n : Held) → h.thread p ≡ Some t → Enabled h (move program source p t) c → IsLive c.own.standing ⊎ (n ≢ Future p) → ((q : Path) (i : ℕ) → c.added ≡ Some (q, i) → n ≢ Counter q i) → NameStays h (after h p t c) n
stays_of program source h p t c (Number k) here enabled live other = tt
stays_of program source h p t c (Future q) here enabled live other = λ n e. elim (ended_back program source h p t c here enabled q n e) [
  | inl old ↦ old
  | inr now ↦ elim live [ inl l ↦ absurd (not_live c.own.standing n now.1 l) | inr ne ↦ absurd (ne (ap Future now.0)) ]
]
stays_of program source h p t c (Counter q i) here enabled live other = elim (count_case c.added h.count q i) [ inl e ↦ absurd (other q i e refl) | inr e ↦ e ]

pub stays_same : (h : Heap) (n : Held) → NameStays h h n
stays_same h (Number k) = tt
stays_same h (Future p) = λ n e. e
stays_same h (Counter p i) = refl

pub shows_on : (program : Program) (source : Data) (h h' : Heap) (state value : ℕ) (n : Held) → Grows program source h h' → NameStays h h' n → ShowsName h state value n → ShowsName h' state value n
shows_on program source h h' state value (Number n) grows stays shows = shows
shows_on program source h h' state value (Future p) grows stays shows = record { full = λ e. grows.ended p value (shows.full e); ended = λ n e. shows.ended n (stays n e) }
shows_on program source h h' state value (Counter p i) grows stays shows = (shows.0 ∙ sym stays, grows.made p i shows.1)
