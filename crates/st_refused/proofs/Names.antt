-- Names, and what the words of a cell show: named_twice, full_unended and value_of_none.
use Rattle.std.proofs.Common.{◌≡◌, ◌≢◌, inl, inr, ℕ, zero, suc, ◌+◌, ◌*◌, ◌^◌, ◌≤◌, ◌<◌, [], ◌∷◌, ◌++◌, Option, Some, None, refl, sym, ap, ◌∙◌, subst, arith}
use Rattle.st_base.specs.declared.thread.Held.{Held}
use Rattle.st_base.specs.declared.thread.Held.TheVariants.{Number, Future, Counter}
use Rattle.st_base.specs.declared.thread.Standing.TheVariants.{Ended}
use Rattle.st_base.specs.declared.thread.Thread.{Thread}
use Rattle.st_words.specs.Encodings.{thread_owner, counter_owner}
use Rattle.st_model.specs.declared.program.Program.{Program}
use Rattle.st_model.specs.Memory.{Data}
use Rattle.st_model.specs.Heap.{Path, Heap}
use Rattle.st_laws.proofs.HeapSteps.{same_thread}
use Rattle.st_made.specs.Items.{IsLive}
use Rattle.st_world.specs.World.{World}
use Rattle.st_names.specs.Naming.{OwnerOf, CellHolds, Named}
use Rattle.st_names.proofs.Heaps.{not_live}
use Rattle.st_names.proofs.Follows.{named_of}
use Rattle.st_refused.specs.Unbacked.{NamedTwice, FullUnended, ValueOfNone}

-- the kind of an Owner word, the parent's cell and the number there
abbrev word_of : ℕ → ℕ → ℕ → ℕ
word_of kind parent number = 1 + kind + 2 * parent + 2 ^ 18 * number

same_word : (k l a b m n : ℕ) → k ≤ 1 → l ≤ 1 → a < 65536 → b < 65536 → word_of k a m ≡ word_of l b n → (k ≡ l) × (a ≡ b) × (m ≡ n)
same_word k l a b m n i j p q e = (omega arith, omega arith, omega arith)

abbrev held_by : ℕ → Path → ℕ → Held
held_by zero p number = Future (p ++ number ∷ [])
held_by (suc k) p number = Counter p number

-- what a name's Owner word tells, where it isn't the root's
record Reads (name : ℕ → Option Held) (owner : ℕ) (n : Held) : Type 0 where
  kind : ℕ
  parent : ℕ
  number : ℕ
  path : Path
  small : kind ≤ 1
  is : n ≡ held_by kind path number
  word : owner ≡ word_of kind parent number
  above : name parent ≡ Some (Future path)

reads : (name : ℕ → Option Held) (n : Held) (owner : ℕ) → n ≢ Future [] → OwnerOf name n owner → Reads name owner n
reads name (Number k) owner other of = absurd of
reads name (Future p) owner other (inl root) = absurd (other (ap Future root.0))
reads name (Future p) owner other (inr of) =
    let e : owner ≡ thread_owner of.2 of.1 = of.4 in
    record { kind = 0; parent = of.2; number = of.1; path = of.0; small = omega arith; is = ap Future of.3; word = omega (arith, e); above = of.5 }
reads name (Counter p k) owner other of =
    let e : owner ≡ counter_owner of.0 k = of.1 in
    record { kind = 1; parent = of.0; number = k; path = p; small = omega arith; is = refl; word = omega (arith, e); above = of.2 }

-- a cell whose Owner word isn't 0 has a name
named : (program : Program) (source : Data) (h : Heap) (x : World) (N : Named program source h x) (c : ℕ) (o : Option Held) → N.name c ≡ o → CellHolds program source h N.name N.cell c (x.owner c) (x.state c) (x.value c) o → x.owner c ≢ 0 → (n : Held) × (N.name c ≡ Some n)
named program source h x N c None e k some = absurd (some k.0)
named program source h x N c (Some n) e k some = (n, e)

one_path : {p q : Path} → Some (Future p) ≡ Some (Future q) → p ≡ q
one_path e = cc

-- one word is of one name
one_name : (name : ℕ → Option Held) (a b : Held) (m n : ℕ) (r : Reads name m a) (s : Reads name n b) → n ≡ m → r.parent < 65536 → s.parent < 65536 → a ≡ b
one_name name a b m n r s e low low' =
    let w = same_word r.kind s.kind r.parent s.parent r.number s.number r.small s.small low low' (sym r.word ∙ (sym e ∙ s.word)) in
    let p : r.path ≡ s.path = one_path (sym r.above ∙ (ap name w.1 ∙ s.above)) in
    r.is ∙ ((λ i. held_by (w.0 i) (p i) (w.2 i)) ∙ sym s.is)

pub named_twice : NamedTwice
named_twice program source h x N c d few apart other_c other_d some same =
    let a = named program source h x N c (N.name c) refl (N.cell_holds c) some in
    let b = named program source h x N d (N.name d) refl (N.cell_holds d) (λ e. some (sym same ∙ e)) in
    let C = named_of program source h x N c a.0 a.1 in
    let D = named_of program source h x N d b.0 b.1 in
    let r : Reads N.name (x.owner c) a.0 = reads N.name a.0 (x.owner c) (λ e. other_c (a.1 ∙ ap Some e)) C.owner_word in
    let s : Reads N.name (x.owner d) b.0 = reads N.name b.0 (x.owner d) (λ e. other_d (b.1 ∙ ap Some e)) D.owner_word in
    let low = N.below r.parent (Future r.path) r.above in
    let low' = N.below s.parent (Future s.path) s.above in
    let one : a.0 ≡ b.0 = one_name N.name a.0 b.0 (x.owner c) (x.owner d) r s same (omega (arith, low, few)) (omega (arith, low', few)) in
    apart (sym C.one ∙ (ap N.cell one ∙ D.one))

pub full_unended : FullUnended
full_unended program source h x N c p is lives full =
    let over = (named_of program source h x N c (Future p) is).shows.full full in
    let same : over.0 ≡ lives.0 = same_thread h p over.0 lives.0 over.1 lives.1 in
    not_live over.0.standing (x.value c) over.2 (subst (λ (t : Thread). IsLive t.standing) (sym same) lives.2)

pub value_of_none : ValueOfNone
value_of_none program source h x N c value p is ended other =
    let shows = (named_of program source h x N c (Future p) is).shows in
    let over = shows.full (shows.ended value ended) in
    let same : over.0 ≡ ended.0 = same_thread h p over.0 ended.0 over.1 ended.1 in
    other (one_value (sym over.2 ∙ (ap (λ (t : Thread). t.standing) same ∙ ended.2)))
  where
    one_value : {m n : ℕ} → Ended m ≡ Ended n → m ≡ n
    one_value e = cc
