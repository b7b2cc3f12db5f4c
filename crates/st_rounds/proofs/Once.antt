-- The frames of a lone thread overlap none of each other where no two of them share a word: each stands once. Read alone_apart. A frame tells, by its caller's word and its return word, how many lie
-- below it (as_many).
use Rattle.std.proofs.Common.{◌≡◌, ◌≢◌, ⊎_elim, ℕ, suc, ◌<◌, Bool, List, [], ◌∷◌, length, refl, sym, ap, ◌∙◌, subst, arith, slice_get, Some}
use Rattle.std.specs.List.{Contains}
use Rattle.st_base.specs.declared.chain.Frame.{Frame}
use Rattle.st_base.specs.declared.thread.Activation.{Activation}
use Rattle.st_base.specs.declared.thread.ActivationKind.{ActivationKind}
use Rattle.st_base.specs.declared.thread.ActivationKind.TheVariants.{Called}
use Rattle.st_model.specs.declared.code.Layout.TheVariants.{Postprocessed}
use Rattle.st_model.specs.declared.program.Program.{Program}
use Rattle.st_model.specs.declared.program.ProgramFunction.{ProgramFunction}
use Rattle.st_model.specs.Effect.{File}
use Rattle.st_words.specs.Steps.{Inside}
use Rattle.st_words.proofs.Lists.{contains_none, contains_case, contains_here}
use Rattle.st_step.specs.Frames.{Naming, ComesBack}
use Rattle.st_step.specs.Runs.{caller_word, return_word}
use Rattle.st_items.specs.Code.{IsSized}
use Rattle.st_items.proofs.Addresses.{place_bounds}
use Rattle.st_stack.specs.Exported.{Apart}
use Rattle.st_chain.specs.Walk.{Below, FromNewest}
use Rattle.st_chain.specs.Seen.{IsEven, AreApart, IsWhole}
use Rattle.st_chain.specs.Taking.{AllApart}
use Rattle.st_chain.specs.Threads.{AtEnd}
use Rattle.st_chain.proofs.Joining.{contains_more}
use Rattle.st_kept.proofs.Laid.{apart_laid}

module _ (p : Program) (sized : IsSized Postprocessed p) (names : Naming) (holds : ℕ → Bool) (word : ℕ → ℕ) where
  -- a caller's place isn't that of the entry at which a thread ends
  no_end : (a : Activation) (function : ProgramFunction) (kind : ActivationKind) (ret : ℕ) → slice_get p.functions a.function ≡ Some function → kind ≡ Called → ComesBack Postprocessed p kind a function ret → ret ≢ 0x30
  no_end a function kind ret here called back same =
      let at = subst (λ k. ComesBack Postprocessed p k a function ret) called back in
      let low = (place_bounds Postprocessed p a.function function a.next sized here).0 in
      omega (arith, at, low, same)

  as_many : (acts bcts : List Activation) (fs gs : List Frame) (k l : ActivationKind) (file bile : File) (value walue : ℕ → ℕ) (fp gp ret tet : ℕ) → fp ≡ gp → ret ≡ tet → Below p names holds AtEnd acts fs k file word value fp ret → Below p names holds AtEnd bcts gs l bile word walue gp tet → length fs ≡ length gs
  as_many [] [] [] [] k l file bile value walue fp gp ret tet one two above below = refl
  as_many (a ∷ acts) (b ∷ bcts) (f ∷ fs) (g ∷ gs) k l file bile value walue fp gp ret tet one two (function, called, lies, (caller, above)) (gunction, balled, bies, (baller, below)) =
      ap suc (as_many acts bcts fs gs _ _ _ _ _ _ _ _ _ _ (ap (λ n. word (caller_word n)) one) (ap (λ n. word (return_word n)) one) above below)
  as_many [] (b ∷ bcts) [] (g ∷ gs) k l file bile value walue fp gp ret tet one two (first, ends) (gunction, balled, bies, (baller, below)) = absurd (no_end b gunction l tet baller.here balled baller.back (sym two ∙ ends))
  as_many (a ∷ acts) [] (f ∷ fs) [] k l file bile value walue fp gp ret tet one two (function, called, lies, (caller, above)) (first, ends) = absurd (no_end a function k ret caller.here called caller.back (two ∙ ends))
  as_many [] bcts (f ∷ fs) gs k l file bile value walue fp gp ret tet one two above below = absurd above
  as_many (a ∷ acts) bcts [] gs k l file bile value walue fp gp ret tet one two above below = absurd above
  as_many acts [] fs (g ∷ gs) k l file bile value walue fp gp ret tet one two above below = absurd below
  as_many acts (b ∷ bcts) fs [] k l file bile value walue fp gp ret tet one two above below = absurd below

  -- what lies below one of the frames
  record Rest (g : Frame) (n : ℕ) : Type 0 where
    acts : List Activation
    fs : List Frame
    kind : ActivationKind
    file : File
    value : ℕ → ℕ
    fewer : length fs < n
    below : Below p names holds AtEnd acts fs kind file word value (word (caller_word g.base)) (word (return_word g.base))

  rest_more : (g : Frame) (n : ℕ) → Rest g n → Rest g (suc n)
  rest_more g n r = record { acts = r.acts; fs = r.fs; kind = r.kind; file = r.file; value = r.value; fewer = (let few = r.fewer in omega (arith, few)); below = r.below }

  rest_here : (acts : List Activation) (fs : List Frame) (kind : ActivationKind) (file : File) (value : ℕ → ℕ) (fp : ℕ) (g : Frame) → fp ≡ g.base → Below p names holds AtEnd acts fs kind file word value (word (caller_word fp)) (word (return_word fp)) → Rest g (suc (length fs))
  rest_here acts fs kind file value fp g base below = record {
    acts = acts;
    fs = fs;
    kind = kind;
    file = file;
    value = value;
    fewer = omega arith;
    below = subst (λ n. Below p names holds AtEnd acts fs kind file word value (word (caller_word n)) (word (return_word n))) base below;
  }

  rest_at : (acts : List Activation) (fs : List Frame) (kind : ActivationKind) (file : File) (value : ℕ → ℕ) (fp ret : ℕ) (g : Frame) → Below p names holds AtEnd acts fs kind file word value fp ret → Contains fs g → Rest g (length fs)
  rest_at [] [] kind file value fp ret g below at = absurd (contains_none g at)
  rest_at (a ∷ acts) (f ∷ fs) kind file value fp ret g (function, called, lies, (caller, below)) at = ⊎_elim
      (λ (same : f ≡ g).
      let base : fp ≡ g.base = lies.base ∙ ap (λ (h : Frame). h.base) same in
      rest_here acts fs _ _ _ fp g base below)
      (λ (later : Contains fs g). rest_more g (length fs) (rest_at acts fs _ _ _ _ _ g below later)) (contains_case g f fs at)
  rest_at [] (f ∷ fs) kind file value fp ret g below at = absurd below
  rest_at (a ∷ acts) [] kind file value fp ret g below at = absurd below

  -- a frame is none of those below it
  once : (acts : List Activation) (fs : List Frame) (kind : ActivationKind) (file : File) (value : ℕ → ℕ) (fp : ℕ) (f : Frame) → fp ≡ f.base → Below p names holds AtEnd acts fs kind file word value (word (caller_word fp)) (word (return_word fp)) → Contains fs f → ⊥
  once acts fs kind file value fp f base below at =
      let r = rest_at acts fs kind file value (word (caller_word fp)) (word (return_word fp)) f below at in
      let same = as_many acts r.acts fs r.fs kind r.kind file r.file value r.value _ _ _ _ (ap (λ n. word (caller_word n)) base) (ap (λ n. word (return_word n)) base) below r.below in
      let few = r.fewer in
      omega (arith, same, few)

  -- ---- all of them

  are_apart : (f : Frame) (gs : List Frame) → ((g : Frame) → Contains gs g → Apart f g × IsEven g) → AreApart f gs
  are_apart f [] apart = tt
  are_apart f (g ∷ gs) apart = ((apart g (contains_here g gs)).0, (apart g (contains_here g gs)).1, are_apart f gs (λ h at. apart h (contains_more g h gs at)))

  -- each is whole, and no two of them share a word
  record NoneShared (fs : List Frame) : Type 0 where
    whole : (f : Frame) → Contains fs f → IsWhole f
    one : (f g : Frame) (q : ℕ) → Contains fs f → Contains fs g → Inside f q → Inside g q → f ≡ g

  shared_less : (f : Frame) (fs : List Frame) → NoneShared (f ∷ fs) → NoneShared fs
  shared_less f fs none = record { whole = λ g at. none.whole g (contains_more f g fs at); one = λ g h q at there inside within. none.one g h q (contains_more f g fs at) (contains_more f h fs there) inside within }

  first_apart : (f : Frame) (fs : List Frame) → NoneShared (f ∷ fs) → (Contains fs f → ⊥) → AllApart fs → AllApart (f ∷ fs)
  first_apart f fs none once rest = (
    (none.whole f (contains_here f fs)).even,
    are_apart f fs (λ g at. (
      apart_laid f g (none.whole f (contains_here f fs)) (none.whole g (contains_more f g fs at))
          (λ q inside within. once (subst (λ (h : Frame). Contains fs h) (sym (none.one f g q (contains_here f fs) (contains_more f g fs at) inside within)) at)),
      (none.whole g (contains_more f g fs at)).even,
    )),
    rest,
  )

  below_apart : (acts : List Activation) (fs : List Frame) (kind : ActivationKind) (file : File) (value : ℕ → ℕ) (fp ret : ℕ) → Below p names holds AtEnd acts fs kind file word value fp ret → NoneShared fs → AllApart fs
  below_apart [] [] kind file value fp ret below none = tt
  below_apart (a ∷ acts) (f ∷ fs) kind file value fp ret (function, called, lies, (caller, below)) none = first_apart f fs none (once acts fs _ _ _ fp f lies.base below) (below_apart acts fs _ _ _ _ _ below (shared_less f fs none))
  below_apart [] (f ∷ fs) kind file value fp ret below none = absurd below
  below_apart (a ∷ acts) [] kind file value fp ret below none = absurd below

  pub alone_apart : (acts : List Activation) (fs : List Frame) (ahead pc fp : ℕ) (value : ℕ → ℕ) → FromNewest p names holds AtEnd ahead pc fp word value acts fs → ((f : Frame) → Contains fs f → IsWhole f) → ((f g : Frame) (q : ℕ) → Contains fs f → Contains fs g → Inside f q → Inside g q → f ≡ g) → AllApart fs
  alone_apart (a ∷ acts) (f ∷ fs) ahead pc fp value (function, is) whole one =
      let none : NoneShared (f ∷ fs) = record { whole = whole; one = one } in
      first_apart f fs none (once acts fs _ _ _ fp f is.lies.base is.framed.below) (below_apart acts fs _ _ _ _ _ is.framed.below (shared_less f fs none))
  alone_apart [] fs ahead pc fp value newest whole one = absurd newest
  alone_apart (a ∷ acts) [] ahead pc fp value newest whole one = absurd newest
