-- No step of any worker loses a waiter: the list of a cell's waiters by cases on the step.
use Rattle.std.proofs.Common.{◌≡◌, ◌≢◌, ◌⊎◌, inl, inr, ℕ, zero, suc, ◌+◌, ◌*◌, ◌/◌, ◌<◌, ◌≤◌, Bool, true, false, ◌==◌, List, [], ◌∷◌, length, Some, None, refl, sym, ap, ◌∙◌, subst, arith, eqb-true}
use Rattle.std.specs.Prelude.{◌%◌, slice_get, slice_set}
use Rattle.std.specs.List.{Contains}
use Rattle.std.proofs.lemmas.Bool.{cases_eq}
use Rattle.st_words.specs.declared.view.CellWord.TheVariants as words
use Rattle.st_words.specs.declared.view.View.{View}
use Rattle.st_words.specs.declared.view.Slot.TheVariants.{Cell, Mail}
use Rattle.st_words.specs.declared.words.Words.{Words}
use Rattle.st_words.specs.Encodings.{full_word, head_in, count_in, counter_word, count_after}
use Rattle.st_words.specs.Plain.{words_after, changed}
use Rattle.st_words.specs.Steps.{StackLoad, StackStore, Mark, Look, CellLoad, CellStore, CellChange, Draw, ActiveAdd, ActiveLoad, StopLoad, StopSet, RootTake, RequestLoad, RequestChange, MailLoad, MailStore, OutStore, SlotTake, SlotPut, OutLoad, Answer, Done, Number, Looked, Took, IsCounter, IsFuture, HasInHand, IsLinked, MayChange}
use Rattle.st_words.proofs.Lists.{contains_here, contains_later}
use Rattle.st_cells.specs.Waiters.{IsList, head_by, IsOpen, Waits, OneMore, IsEmptied, AllOut, AreKept, IsMistaken, NoneInHand, NoneIsLost, ListsStay}
use Rattle.st_cells.proofs.Staying.{get_set_other, some_same}

-- ---- lists

-- a Next word of a number that isn't in the list is stored
stored_list : (nexts : List ℕ) (d n head : ℕ) (ds : List ℕ) → (Contains ds d → ⊥) → IsList nexts head ds → IsList (slice_set nexts d n) head ds
stored_list nexts d n head [] none is = is
stored_list nexts d n head (e ∷ ds) none is = (
  is.0,
  (is.1.0, get_set_other nexts d e n (λ same. none (subst (Contains (e ∷ ds)) (sym same) (contains_here e ds))) ∙ is.1.1, stored_list nexts d n is.1.0 ds (λ c. none (contains_later d e ds c)) is.1.2),
)

pub lists_stay : ListsStay
unfolding words_after
lists_stay x ls w u (StackLoad p) a head ds can said none is = is
lists_stay x ls w u (StackStore p n) a head ds can said none is = is
lists_stay x ls w u (Mark p) a head ds can said none is = is
lists_stay x ls w u (Look p) a head ds can said none is = is
lists_stay x ls w u (CellLoad d word) a head ds can said none is = is
lists_stay x ls w u Draw a head ds can said none is = is
lists_stay x ls w u (ActiveAdd up) Done head ds can said none is = is
lists_stay x ls w u (ActiveAdd up) (Number m) head ds can said none is = is
lists_stay x ls w u (ActiveAdd up) (Looked m l) head ds can said none is = is
lists_stay x ls w u (ActiveAdd up) (Took k l) head ds can said none is = is
lists_stay x ls w u ActiveLoad a head ds can said none is = is
lists_stay x ls w u StopLoad a head ds can said none is = is
lists_stay x ls w u (StopSet code) Done head ds can said none is = is
lists_stay x ls w u (StopSet code) (Number m) head ds can said none is = is
lists_stay x ls w u (StopSet code) (Looked m l) head ds can said none is = is
lists_stay x ls w u (StopSet code) (Took k l) head ds can said none is = is
lists_stay x ls w u RootTake a head ds can said none is = is
lists_stay x ls w u (RequestLoad at) a head ds can said none is = is
lists_stay x ls w u (RequestChange at old new) Done head ds can said none is = is
lists_stay x ls w u (RequestChange at old new) (Number m) head ds can said none is = is
lists_stay x ls w u (RequestChange at old new) (Looked m l) head ds can said none is = is
lists_stay x ls w u (RequestChange at old new) (Took k l) head ds can said none is = is
lists_stay x ls w u MailLoad a head ds can said none is = is
lists_stay x ls w u (MailStore at n) a head ds can said none is = is
lists_stay x ls w u (OutStore i n) a head ds can said none is = is
lists_stay x ls w u (SlotTake (Cell k)) a head ds can said none is = is
lists_stay x ls w u (SlotTake (Mail k)) a head ds can said none is = is
lists_stay x ls w u (SlotPut (Cell k) chain cargo) a head ds can said none is = is
lists_stay x ls w u (SlotPut (Mail k) chain cargo) a head ds can said none is = is
lists_stay x ls w u (OutLoad i) a head ds can said none is = is
lists_stay x ls w u (CellStore d words.Owner n) a head ds can said none is = is
lists_stay x ls w u (CellStore d words.Next n) a head ds can said none is = stored_list x.nexts d n head ds (λ c. none d c can.1.0) is
lists_stay x ls w u (CellStore d words.Standing n) a head ds can said none is = is
lists_stay x ls w u (CellStore d words.Trap n) a head ds can said none is = is
lists_stay x ls w u (CellStore d words.State n) a head ds can said none is = absurd can.1
lists_stay x ls w u (CellStore d words.Value n) a head ds can said none is = is
lists_stay x ls w u (CellChange d old new) Done head ds can said none is = is
lists_stay x ls w u (CellChange d old new) (Looked m l) head ds can said none is = is
lists_stay x ls w u (CellChange d old new) (Took k l) head ds can said none is = is
lists_stay x ls w u (CellChange d old new) (Number n) head ds can said none is = is

-- ---- State words

get_set_here : (xs : List ℕ) (i n m : ℕ) → slice_get xs i ≡ Some m → slice_get (slice_set xs i n) i ≡ Some n
get_set_here [] i n m e = absurd (let z : None ≡ Some m = e in cc)
get_set_here (x ∷ xs) zero n m e = refl
get_set_here (x ∷ xs) (suc i) n m e = get_set_here xs i n m e

get_within : (xs : List ℕ) (i m : ℕ) → slice_get xs i ≡ Some m → i < length xs
get_within [] i m e = absurd (let z : None ≡ Some m = e in cc)
get_within (x ∷ xs) zero m e = omega arith
get_within (x ∷ xs) (suc i) m e = let l : i < length xs = get_within xs i m e in omega arith

-- the change that a worker may make of a State word which it doesn't take for one of the other kind
future_change : (x : Words) (u : View) (c old new : ℕ) (ds : List ℕ) → length x.nexts ≤ 65536 → MayChange u c old new → (IsCounter u c → ⊥) → slice_get x.states c ≡ Some old → IsList x.nexts old ds → AreKept false x u (Number old) c ds (record x { states = slice_set x.states c new })
future_change x u c old new ds few (inl park) other found is =
    let waiter : ℕ = park.2.0 in
    let new_is : new ≡ waiter + 1 = park.2.2 in
    inr (inl (waiter, old, park.2.1, λ next. let l : waiter < length x.nexts = get_within x.nexts waiter old next in (new, get_set_here x.states c new old found, (λ e. omega (arith, l, few, new_is, e)), (new_is, (old, next, is)))))
future_change x u c old new ds few (inr (inl fill)) other found is = inr (inr (old, refl, is, subst (λ n. slice_get (slice_set x.states c new) c ≡ Some n) fill.2 (get_set_here x.states c new old found)))
future_change x u c old new ds few (inr (inr (inl done))) other found is = absurd (other done.0)
future_change x u c old new ds few (inr (inr (inr join))) other found is = absurd (other join.0)

counter_change : (x : Words) (u : View) (c old new : ℕ) (ds : List ℕ) → length x.nexts ≤ 65536 → MayChange u c old new → (IsFuture u c → ⊥) → slice_get x.states c ≡ Some old → IsList x.nexts (head_in old) ds → AreKept true x u (Number old) c ds (record x { states = slice_set x.states c new })
counter_change x u c old new ds few (inl park) other found is = absurd (other park.0)
counter_change x u c old new ds few (inr (inl fill)) other found is = absurd (other fill.0)
counter_change x u c old new ds few (inr (inr (inl done))) other found is =
    let e : new ≡ count_after (count_in old) * 131072 + 0 = done.1 in
    let none : head_in new ≡ 0 = omega (arith, e) in
    inr (inr (old, refl, is, (new, get_set_here x.states c new old found, tt, none)))
counter_change x u c old new ds few (inr (inr (inr join))) other found is =
    let waiter : ℕ = join.1.0 in
    let e : new ≡ count_in old * 131072 + (waiter + 1) = join.1.5 in
    inr (inl (waiter, head_in old, join.1.3, λ next. let l : waiter < length x.nexts = get_within x.nexts waiter (head_in old) next in let h : head_in new ≡ waiter + 1 = omega (arith, e, l, few) in (new, get_set_here x.states c new old found, tt, (h, (head_in old, next, is)))))

one_change : (counter : Bool) (x : Words) (u : View) (c old new : ℕ) (ds : List ℕ) → length x.nexts ≤ 65536 → MayChange u c old new → (IsMistaken counter u c → ⊥) → slice_get x.states c ≡ Some old → IsList x.nexts (head_by counter old) ds → AreKept counter x u (Number old) c ds (record x { states = slice_set x.states c new })
one_change true x u c old new ds few may other found is = counter_change x u c old new ds few may other found is
one_change false x u c old new ds few may other found is = future_change x u c old new ds few may other found is

-- where another word was found nothing changes; another cell's change leaves this one's State
tried : (test : Bool) (counter : Bool) (x : Words) (u : View) (c d old new n : ℕ) (ds : List ℕ) → (test ≡ true → n ≡ old) → length x.nexts ≤ 65536 → MayChange u d old new → slice_get x.states d ≡ Some n → (IsMistaken counter u c → ⊥) → Waits counter x c ds → AreKept counter x u (Number n) c ds (record x { states = changed test d new x.states })
tried false counter x u c d old new n ds told few may found other waits = inl waits
tried true counter x u c d old new n ds told few may found other waits =
    elim (cases_eq d c) [
      | inr apart ↦ inl (waits.0, get_set_other x.states d c new apart ∙ waits.1, waits.2, waits.3)
      | inl same ↦
          let e : waits.0 ≡ n = some_same (sym waits.1 ∙ ap (slice_get x.states) (sym same) ∙ found) in
          let is : IsList x.nexts (head_by counter n) ds = subst (λ m. IsList x.nexts (head_by counter m) ds) e waits.3 in
          subst (λ k. AreKept counter x u (Number n) k ds (record x { states = slice_set x.states d new })) same (subst (λ m. AreKept counter x u (Number m) d ds (record x { states = slice_set x.states d new })) (sym (told refl)) (one_change counter x u d old new ds few may (λ mistaken. other (subst (IsMistaken counter u) same mistaken)) (subst (λ m. slice_get x.states d ≡ Some m) (told refl) found) (subst (λ m. IsList x.nexts (head_by counter m) ds) (told refl) is)))
    ]

pub none_is_lost : NoneIsLost
unfolding words_after
none_is_lost counter x ls w u (StackLoad p) a c ds few can said other none waits = inl waits
none_is_lost counter x ls w u (StackStore p n) a c ds few can said other none waits = inl waits
none_is_lost counter x ls w u (Mark p) a c ds few can said other none waits = inl waits
none_is_lost counter x ls w u (Look p) a c ds few can said other none waits = inl waits
none_is_lost counter x ls w u (CellLoad d word) a c ds few can said other none waits = inl waits
none_is_lost counter x ls w u Draw a c ds few can said other none waits = inl waits
none_is_lost counter x ls w u (ActiveAdd up) Done c ds few can said other none waits = inl waits
none_is_lost counter x ls w u (ActiveAdd up) (Number m) c ds few can said other none waits = inl waits
none_is_lost counter x ls w u (ActiveAdd up) (Looked m l) c ds few can said other none waits = inl waits
none_is_lost counter x ls w u (ActiveAdd up) (Took k l) c ds few can said other none waits = inl waits
none_is_lost counter x ls w u ActiveLoad a c ds few can said other none waits = inl waits
none_is_lost counter x ls w u StopLoad a c ds few can said other none waits = inl waits
none_is_lost counter x ls w u (StopSet code) Done c ds few can said other none waits = inl waits
none_is_lost counter x ls w u (StopSet code) (Number m) c ds few can said other none waits = inl waits
none_is_lost counter x ls w u (StopSet code) (Looked m l) c ds few can said other none waits = inl waits
none_is_lost counter x ls w u (StopSet code) (Took k l) c ds few can said other none waits = inl waits
none_is_lost counter x ls w u RootTake a c ds few can said other none waits = inl waits
none_is_lost counter x ls w u (RequestLoad at) a c ds few can said other none waits = inl waits
none_is_lost counter x ls w u (RequestChange at old new) Done c ds few can said other none waits = inl waits
none_is_lost counter x ls w u (RequestChange at old new) (Number m) c ds few can said other none waits = inl waits
none_is_lost counter x ls w u (RequestChange at old new) (Looked m l) c ds few can said other none waits = inl waits
none_is_lost counter x ls w u (RequestChange at old new) (Took k l) c ds few can said other none waits = inl waits
none_is_lost counter x ls w u MailLoad a c ds few can said other none waits = inl waits
none_is_lost counter x ls w u (MailStore at n) a c ds few can said other none waits = inl waits
none_is_lost counter x ls w u (OutStore i n) a c ds few can said other none waits = inl waits
none_is_lost counter x ls w u (SlotTake (Cell k)) a c ds few can said other none waits = inl waits
none_is_lost counter x ls w u (SlotTake (Mail k)) a c ds few can said other none waits = inl waits
none_is_lost counter x ls w u (SlotPut (Cell k) chain cargo) a c ds few can said other none waits = inl waits
none_is_lost counter x ls w u (SlotPut (Mail k) chain cargo) a c ds few can said other none waits = inl waits
none_is_lost counter x ls w u (OutLoad i) a c ds few can said other none waits = inl waits
none_is_lost counter x ls w u (CellStore d words.Owner n) a c ds few can said other none waits = inl waits
none_is_lost counter x ls w u (CellStore d words.Next n) a c ds few can said other none waits = inl (waits.0, waits.1, waits.2, stored_list x.nexts d n (head_by counter waits.0) ds (λ e. none d e can.1.0) waits.3)
none_is_lost counter x ls w u (CellStore d words.Standing n) a c ds few can said other none waits = inl waits
none_is_lost counter x ls w u (CellStore d words.Trap n) a c ds few can said other none waits = inl waits
none_is_lost counter x ls w u (CellStore d words.State n) a c ds few can said other none waits = absurd can.1
none_is_lost counter x ls w u (CellStore d words.Value n) a c ds few can said other none waits = inl waits
none_is_lost counter x ls w u (CellChange d old new) Done c ds few can said other none waits = inl waits
none_is_lost counter x ls w u (CellChange d old new) (Looked m l) c ds few can said other none waits = inl waits
none_is_lost counter x ls w u (CellChange d old new) (Took k l) c ds few can said other none waits = inl waits
none_is_lost counter x ls w u (CellChange d old new) (Number n) c ds few can said other none waits = tried (n == old) counter x u c d old new n ds (eqb-true n old) few can.1 said other waits
