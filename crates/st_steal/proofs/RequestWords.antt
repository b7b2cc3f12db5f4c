-- What a step leaves of the request words.
use Rattle.std.proofs.Common.{◌≡◌, ◌≢◌, ◌⊎◌, inl, inr, ℕ, zero, suc, ◌+◌, ◌<◌, Bool, true, false, ◌==◌, List, [], ◌∷◌, Some, None, refl, sym, ap, ◌∙◌, subst, arith, eqb-true, eq-eqb}
use Rattle.std.specs.Prelude.{slice_get, slice_set}
use Rattle.std.proofs.lemmas.Bool.{cases_eq}
use Rattle.st_words.specs.declared.view.CellWord.TheVariants as words
use Rattle.st_words.specs.declared.view.Slot.TheVariants.{Cell, Mail}
use Rattle.st_words.specs.declared.view.View.{View}
use Rattle.st_words.specs.declared.words.Words.{Words}
use Rattle.st_words.specs.Encodings.{asking, answering_word}
use Rattle.st_words.specs.Plain.{Exact, Cargoes, words_after, changed}
use Rattle.st_words.specs.Steps.{Step, StackLoad, StackStore, Mark, Look, CellLoad, CellStore, CellChange, Draw, ActiveAdd, ActiveLoad, StopLoad, StopSet, RootTake, RequestLoad, RequestChange, MailLoad, MailStore, OutStore, SlotTake, SlotPut, OutLoad, Answer, Done, Number, Looked, Took, Can, MayRequest}
use Rattle.st_steal.specs.Laws.{RequestIs, Moves, Asks, BeginsAt, Withdraws, Ends, RequestLaws}

some_same : {m n : ℕ} → Some m ≡ Some n → m ≡ n
some_same e = cc

pub set_here : {A : Type 0} (xs : List A) (i : ℕ) (n m : A) → slice_get xs i ≡ Some m → slice_get (slice_set xs i n) i ≡ Some n
set_here [] i n m e = absurd (let z : None ≡ Some m = e in cc)
set_here (x ∷ xs) zero n m e = refl
set_here (x ∷ xs) (suc i) n m e = set_here xs i n m e

pub set_other : {A : Type 0} (xs : List A) (i j : ℕ) (n : A) → i ≢ j → slice_get (slice_set xs i n) j ≡ slice_get xs j
set_other [] i j n d = refl
set_other (x ∷ xs) zero zero n d = absurd (d refl)
set_other (x ∷ xs) zero (suc j) n d = refl
set_other (x ∷ xs) (suc i) zero n d = refl
set_other (x ∷ xs) (suc i) (suc j) n d = set_other xs i j n (λ e. d (ap suc e))

-- ---- one change that found what it compared with

by_right : (x' : Words) (u : View) (at old new : ℕ) → MayRequest u at old new → RequestIs x' at new → Moves u at old x'
by_right x' u at old new (inl ask) is = inr (inl (ask.4, (ask.0, subst (RequestIs x' at) ask.5 is)))
by_right x' u at old new (inr (inl begin)) is = inr (inr (inl (begin.0, ((begin.2.0, begin.2.3), subst (RequestIs x' at) begin.3 is))))
by_right x' u at old new (inr (inr (inl clear))) is = inr (inr (inr (inr (clear.0, (clear.1, (clear.2, subst (RequestIs x' at) clear.3 is))))))
by_right x' u at old new (inr (inr (inr withdraw))) is = inr (inr (inr (inl (withdraw.1, (withdraw.0, subst (RequestIs x' at) withdraw.2 is)))))

tried : (found : Bool) (x : Words) (u : View) (at v old b m n : ℕ) → (found ≡ true → n ≡ b) → MayRequest u v b m → RequestIs x v n → RequestIs x at old → Moves u at old (record x { requests = changed found v m x.requests })
tried false x u at v old b m n told may said is = inl is
tried true x u at v old b m n told may said is =
    elim (cases_eq v at) [
      | inr apart ↦ inl (set_other x.requests v at m apart ∙ is)
      | inl same ↦
          let there : slice_get x.requests at ≡ Some n = ap (slice_get x.requests) (sym same) ∙ said in
          let e : b ≡ old = sym (told refl) ∙ some_same (sym there ∙ is) in
          by_right (record x { requests = slice_set x.requests v m }) u at old m (subst (λ k. MayRequest u at k m) e (subst (λ k. MayRequest u k b m) same may)) (subst (λ k. slice_get (slice_set x.requests k m) at ≡ Some m) (sym same) (set_here x.requests at m old is))
    ]

moves : (x : Words) (ls : Cargoes) (w : ℕ) (u : View) (s : Step) (a : Answer) (at old : ℕ) → Can u s → Exact x ls w s a → RequestIs x at old → Moves u at old (words_after x w s a)
unfolding words_after
moves x ls w u (StackLoad p) a at old can said is = inl is
moves x ls w u (StackStore p m) a at old can said is = inl is
moves x ls w u (Mark p) a at old can said is = inl is
moves x ls w u (Look p) a at old can said is = inl is
moves x ls w u (CellLoad c word) a at old can said is = inl is
moves x ls w u (CellStore c words.Owner m) a at old can said is = inl is
moves x ls w u (CellStore c words.State m) a at old can said is = absurd can.1
moves x ls w u (CellStore c words.Value m) a at old can said is = inl is
moves x ls w u (CellStore c words.Next m) a at old can said is = inl is
moves x ls w u (CellStore c words.Standing m) a at old can said is = inl is
moves x ls w u (CellStore c words.Trap m) a at old can said is = inl is
moves x ls w u (CellChange c b m) Done at old can said is = inl is
moves x ls w u (CellChange c b m) (Number n) at old can said is = inl is
moves x ls w u (CellChange c b m) (Looked n cargo) at old can said is = inl is
moves x ls w u (CellChange c b m) (Took o cargo) at old can said is = inl is
moves x ls w u Draw a at old can said is = inl is
moves x ls w u (ActiveAdd up) Done at old can said is = inl is
moves x ls w u (ActiveAdd up) (Number n) at old can said is = inl is
moves x ls w u (ActiveAdd up) (Looked n cargo) at old can said is = inl is
moves x ls w u (ActiveAdd up) (Took o cargo) at old can said is = inl is
moves x ls w u ActiveLoad a at old can said is = inl is
moves x ls w u StopLoad a at old can said is = inl is
moves x ls w u (StopSet code) Done at old can said is = inl is
moves x ls w u (StopSet code) (Number n) at old can said is = inl is
moves x ls w u (StopSet code) (Looked n cargo) at old can said is = inl is
moves x ls w u (StopSet code) (Took o cargo) at old can said is = inl is
moves x ls w u RootTake a at old can said is = inl is
moves x ls w u (RequestLoad v) a at old can said is = inl is
moves x ls w u (RequestChange v b m) Done at old can said is = inl is
moves x ls w u (RequestChange v b m) (Number n) at old can said is = tried (n == b) x u at v old b m n (eqb-true n b) can.1 said is
moves x ls w u (RequestChange v b m) (Looked n cargo) at old can said is = inl is
moves x ls w u (RequestChange v b m) (Took o cargo) at old can said is = inl is
moves x ls w u MailLoad a at old can said is = inl is
moves x ls w u (MailStore v m) a at old can said is = inl is
moves x ls w u (OutStore i m) a at old can said is = inl is
moves x ls w u (SlotTake (Cell k)) a at old can said is = inl is
moves x ls w u (SlotTake (Mail k)) a at old can said is = inl is
moves x ls w u (SlotPut (Cell k) chain load) a at old can said is = inl is
moves x ls w u (SlotPut (Mail k) chain load) a at old can said is = inl is
moves x ls w u (OutLoad i) a at old can said is = inl is

-- ---- only one succeeds

first_changed : (found : Bool) (x : Words) (at old new : ℕ) → found ≡ true → RequestIs x at old → slice_get (changed found at new x.requests) at ≡ Some new
first_changed true x at old new e is = set_here x.requests at new old is
first_changed false x at old new e is = absurd (cc)

only_one : (x : Words) (ls : Cargoes) (w v at asker new other n : ℕ) → RequestIs x at (asking asker) → new ≢ asking asker → Exact (words_after x w (RequestChange at (asking asker) new) (Number (asking asker))) ls v (RequestChange at (asking asker) other) (Number n) → (n ≡ new) × (n ≢ asking asker)
unfolding words_after
only_one x ls w v at asker new other n is apart found =
    let there : slice_get (changed (asking asker == asking asker) at new x.requests) at ≡ Some new = first_changed (asking asker == asking asker) x at (asking asker) new (eq-eqb (asking asker) (asking asker) refl) is in
    let e : n ≡ new = some_same (sym found ∙ there) in
    (e, λ same. apart (sym e ∙ same))

-- ---- and until it is asked again

asks_moved : (u : View) (at old asker : ℕ) (x' : Words) → asker < 31 → old ≢ asking asker → RequestIs x' at (asking asker) → Moves u at old x' → u.number ≡ asker
asks_moved u at old asker x' few other is (inl stays) = absurd (other (some_same (sym stays ∙ is)))
asks_moved u at old asker x' few other is (inr (inl ask)) = let e : asking u.number ≡ asking asker = some_same (sym ask.1.1 ∙ is) in omega (arith, e)
asks_moved u at old asker x' few other is (inr (inr (inl begin))) = let e : answering_word ≡ asking asker = some_same (sym begin.1.1 ∙ is) in let no : ⊥ = omega (arith, e, few) in absurd no
asks_moved u at old asker x' few other is (inr (inr (inr (inl withdraw)))) = let e : 0 ≡ asking asker = some_same (sym withdraw.1.1 ∙ is) in let no : ⊥ = omega (arith, e) in absurd no
asks_moved u at old asker x' few other is (inr (inr (inr (inr ended)))) = let e : 0 ≡ asking asker = some_same (sym ended.1.1.1 ∙ is) in let no : ⊥ = omega (arith, e) in absurd no

pub request_laws : RequestLaws
request_laws = record {
  moves = moves;
  only_one = only_one;
  asks_again = λ x ls w u s a at old asker few can said is other now. asks_moved u at old asker (words_after x w s a) few other now (moves x ls w u s a at old can said is);
}
