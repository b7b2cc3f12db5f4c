-- What steps leave of State and Value words.
use Rattle.std.proofs.Common.{◌≡◌, ◌≢◌, inl, inr, ℕ, zero, suc, Bool, true, false, ◌==◌, List, [], ◌∷◌, Some, refl, sym, ap, ◌∙◌, subst, eqb-true, ne_eqb}
use Rattle.std.specs.List.{Contains}
use Rattle.std.specs.Prelude.{slice_get, slice_set}
use Rattle.std.proofs.lemmas.Bool.{cases_eq}
use Rattle.st_words.specs.declared.view.CellWord.TheVariants as words
use Rattle.st_words.specs.declared.view.View.{View}
use Rattle.st_words.specs.declared.words.Words.{Words}
use Rattle.st_words.specs.Encodings.{full_word}
use Rattle.st_words.specs.Plain.{words_after, changed}
use Rattle.st_words.specs.Steps.{StackLoad, StackStore, Mark, Look, CellLoad, CellStore, CellChange, Draw, ActiveAdd, ActiveLoad, StopLoad, StopSet, RootTake, RequestLoad, RequestChange, MailLoad, MailStore, OutStore, SlotTake, SlotPut, OutLoad, Done, Number, Looked, Took, IsCounter, HasThread, MayChange}
use Rattle.st_words.specs.declared.view.Slot.TheVariants.{Cell, Mail}
use Rattle.st_cells.specs.Laws.{FullStays, ValueStays, AgainKeeps}

pub get_set_other : (xs : List ℕ) (i j n : ℕ) → i ≢ j → slice_get (slice_set xs i n) j ≡ slice_get xs j
get_set_other [] i j n d = refl
get_set_other (x ∷ xs) zero zero n d = absurd (d refl)
get_set_other (x ∷ xs) zero (suc j) n d = refl
get_set_other (x ∷ xs) (suc i) zero n d = refl
get_set_other (x ∷ xs) (suc i) (suc j) n d = get_set_other xs i j n (λ e. d (ap suc e))

-- a State word that is full is changed by no step that may be asked
not_changed : (u : View) (c old new : ℕ) → MayChange u c old new → (IsCounter u c → ⊥) → old ≢ full_word
not_changed u c old new (inl park) other = park.1
not_changed u c old new (inr (inl fill)) other = fill.1
not_changed u c old new (inr (inr (inl done))) other = absurd (other done.0)
not_changed u c old new (inr (inr (inr join))) other = absurd (other join.0)

pub some_same : {m n : ℕ} → Some m ≡ Some n → m ≡ n
some_same e = cc

changed_stays : (test : Bool) (states : List ℕ) (c d old new n : ℕ) → (test ≡ true → n ≡ old) → slice_get states d ≡ Some n → (c ≡ d → old ≢ full_word) → slice_get states c ≡ Some full_word → slice_get (changed test d new states) c ≡ Some full_word
changed_stays false states c d old new n told found may full = full
changed_stays true states c d old new n told found may full =
    elim (cases_eq d c) [
      | inl same ↦ absurd (let e : n ≡ full_word = some_same (sym found ∙ ap (slice_get states) same ∙ full) in may (sym same) (sym (told refl) ∙ e))
      | inr other ↦ get_set_other states d c new other ∙ full
    ]

pub full_stays : FullStays
unfolding words_after
full_stays x ls w u (StackLoad p) a c can said other full = full
full_stays x ls w u (StackStore p n) a c can said other full = full
full_stays x ls w u (Mark p) a c can said other full = full
full_stays x ls w u (Look p) a c can said other full = full
full_stays x ls w u (CellLoad d word) a c can said other full = full
full_stays x ls w u Draw a c can said other full = full
full_stays x ls w u (ActiveAdd up) Done c can said other full = full
full_stays x ls w u (ActiveAdd up) (Number m) c can said other full = full
full_stays x ls w u (ActiveAdd up) (Looked m l) c can said other full = full
full_stays x ls w u (ActiveAdd up) (Took k l) c can said other full = full
full_stays x ls w u ActiveLoad a c can said other full = full
full_stays x ls w u StopLoad a c can said other full = full
full_stays x ls w u (StopSet code) Done c can said other full = full
full_stays x ls w u (StopSet code) (Number m) c can said other full = full
full_stays x ls w u (StopSet code) (Looked m l) c can said other full = full
full_stays x ls w u (StopSet code) (Took k l) c can said other full = full
full_stays x ls w u RootTake a c can said other full = full
full_stays x ls w u (RequestLoad at) a c can said other full = full
full_stays x ls w u (RequestChange at old new) Done c can said other full = full
full_stays x ls w u (RequestChange at old new) (Number m) c can said other full = full
full_stays x ls w u (RequestChange at old new) (Looked m l) c can said other full = full
full_stays x ls w u (RequestChange at old new) (Took k l) c can said other full = full
full_stays x ls w u MailLoad a c can said other full = full
full_stays x ls w u (MailStore at n) a c can said other full = full
full_stays x ls w u (OutStore i n) a c can said other full = full
full_stays x ls w u (SlotTake (Cell k)) a c can said other full = full
full_stays x ls w u (SlotTake (Mail k)) a c can said other full = full
full_stays x ls w u (SlotPut (Cell k) chain cargo) a c can said other full = full
full_stays x ls w u (SlotPut (Mail k) chain cargo) a c can said other full = full
full_stays x ls w u (OutLoad i) a c can said other full = full
full_stays x ls w u (CellStore d words.Owner n) a c can said other full = full
full_stays x ls w u (CellStore d words.Value n) a c can said other full = full
full_stays x ls w u (CellStore d words.Next n) a c can said other full = full
full_stays x ls w u (CellStore d words.Standing n) a c can said other full = full
full_stays x ls w u (CellStore d words.Trap n) a c can said other full = full
full_stays x ls w u (CellStore d words.State n) a c can said other full = absurd can.1
full_stays x ls w u (CellChange d old new) Done c can said other full = full
full_stays x ls w u (CellChange d old new) (Looked m l) c can said other full = full
full_stays x ls w u (CellChange d old new) (Took k l) c can said other full = full
full_stays x ls w u (CellChange d old new) (Number n) c can said other full = changed_stays (n == old) x.states c d old new n (eqb-true n old) said (λ same. not_changed u d old new can.1 (λ counter. other (subst (IsCounter u) (sym same) counter))) full

pub value_stays : ValueStays
unfolding words_after
value_stays x ls w u (StackLoad p) a c can said other = refl
value_stays x ls w u (StackStore p n) a c can said other = refl
value_stays x ls w u (Mark p) a c can said other = refl
value_stays x ls w u (Look p) a c can said other = refl
value_stays x ls w u (CellLoad d word) a c can said other = refl
value_stays x ls w u Draw a c can said other = refl
value_stays x ls w u (ActiveAdd up) Done c can said other = refl
value_stays x ls w u (ActiveAdd up) (Number m) c can said other = refl
value_stays x ls w u (ActiveAdd up) (Looked m l) c can said other = refl
value_stays x ls w u (ActiveAdd up) (Took k l) c can said other = refl
value_stays x ls w u ActiveLoad a c can said other = refl
value_stays x ls w u StopLoad a c can said other = refl
value_stays x ls w u (StopSet code) Done c can said other = refl
value_stays x ls w u (StopSet code) (Number m) c can said other = refl
value_stays x ls w u (StopSet code) (Looked m l) c can said other = refl
value_stays x ls w u (StopSet code) (Took k l) c can said other = refl
value_stays x ls w u RootTake a c can said other = refl
value_stays x ls w u (RequestLoad at) a c can said other = refl
value_stays x ls w u (RequestChange at old new) Done c can said other = refl
value_stays x ls w u (RequestChange at old new) (Number m) c can said other = refl
value_stays x ls w u (RequestChange at old new) (Looked m l) c can said other = refl
value_stays x ls w u (RequestChange at old new) (Took k l) c can said other = refl
value_stays x ls w u MailLoad a c can said other = refl
value_stays x ls w u (MailStore at n) a c can said other = refl
value_stays x ls w u (OutStore i n) a c can said other = refl
value_stays x ls w u (SlotTake (Cell k)) a c can said other = refl
value_stays x ls w u (SlotTake (Mail k)) a c can said other = refl
value_stays x ls w u (SlotPut (Cell k) chain cargo) a c can said other = refl
value_stays x ls w u (SlotPut (Mail k) chain cargo) a c can said other = refl
value_stays x ls w u (OutLoad i) a c can said other = refl
value_stays x ls w u (CellStore d words.Owner n) a c can said other = refl
value_stays x ls w u (CellStore d words.Next n) a c can said other = refl
value_stays x ls w u (CellStore d words.Standing n) a c can said other = refl
value_stays x ls w u (CellStore d words.Trap n) a c can said other = refl
value_stays x ls w u (CellStore d words.State n) a c can said other = absurd can.1
value_stays x ls w u (CellStore d words.Value n) a c can said other = get_set_other x.values d c n (λ same. can.1.1 (subst (Contains u.full) (sym same) (other (subst (HasThread u) same can.1.0))))
value_stays x ls w u (CellChange d old new) Done c can said other = refl
value_stays x ls w u (CellChange d old new) (Looked m l) c can said other = refl
value_stays x ls w u (CellChange d old new) (Took k l) c can said other = refl
value_stays x ls w u (CellChange d old new) (Number n) c can said other = refl

unchanged : (test : Bool) (x : Words) (c new : ℕ) → test ≡ false → record x { states = changed test c new x.states } ≡ x
unchanged false x c new e = refl
unchanged true x c new e = absurd (cc)

pub again_keeps : AgainKeeps
unfolding words_after
again_keeps x w c old new n other = unchanged (n == old) x c new (ne_eqb n old other)
