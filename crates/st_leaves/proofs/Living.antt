-- A frame that a thread which leaves has on its worker's stack may be exported: can_export. Read newest_lives (no return word of a thread's frames is 0) and home_is (the words of the worker's stack).
use Rattle.std.proofs.Common.{◌≡◌, ◌≢◌, inl, inr, ⊎_elim, ℕ, suc, ◌+◌, ◌*◌, ◌/◌, ◌<◌, ◌≤◌, Bool, true, List, [], ◌∷◌, Option, Some, None, refl, sym, ap, ◌∙◌, arith}
use Rattle.std.proofs.Math.Nat.{mul-le-mul_right, mul_left_comm, div-mul-le_self, lt-div-mul-add}
use Rattle.std.proofs.lemmas.Bool.{cases_lt}
use Rattle.std.proofs.Common.{is_some}
use Rattle.std.proofs.lemmas.Bool.{true≢false}
use Rattle.std.specs.List.{Contains}
use Rattle.st_base.specs.declared.chain.Frame.{Frame}
use Rattle.st_base.specs.declared.thread.Activation.{Activation}
use Rattle.st_base.specs.declared.thread.ActivationKind.{ActivationKind}
use Rattle.st_model.specs.declared.code.Layout.TheVariants.{Postprocessed}
use Rattle.st_model.specs.declared.program.Program.{Program}
use Rattle.st_model.specs.Effect.{File}
use Rattle.st_words.proofs.Lists.{contains_case, contains_none}
use Rattle.st_words.specs.Steps.{Inside, home_of, kept, return_place}
use Rattle.st_words.specs.declared.view.Known.{Known}
use Rattle.st_step.specs.Frames.{Naming}
use Rattle.st_step.specs.Runs.{return_word}
use Rattle.st_items.proofs.Addresses.{place_bounds}
use Rattle.st_items.specs.Body.{Context}
use Rattle.st_items.specs.Code.{IsSized}
use Rattle.st_stack.specs.Exported.{Apart, IsFrameOn, IsRange}
use Rattle.st_chain.proofs.Copying.{below_newest}
use Rattle.st_chain.specs.Seen.{IsWhole}
use Rattle.st_chain.specs.Threads.{Lower}
use Rattle.st_chain.specs.Walk.{Below, FromNewest, is_held, number_or, word_in}

-- ---- return words

module _ (p : Program) (names : Naming) (holds : ℕ → Bool) (size : IsSized Postprocessed p) where
  newest_code : (end : Context) (pc fp : ℕ) (word value : ℕ → ℕ) (acts : List Activation) (fs : List Frame) → FromNewest p names holds end 0 pc fp word value acts fs → 0x10000 ≤ pc
  newest_code end pc fp word value (a ∷ older) (f ∷ fs) (function, is) =
      let at = is.at in
      let low = (place_bounds Postprocessed p a.function function a.next size is.here).0 in
      omega (arith, at, low)
  newest_code end pc fp word value [] fs newest = absurd newest
  newest_code end pc fp word value (a ∷ older) [] newest = absurd newest

  lower_lives : (cell : ℕ) (ts : List Known) (rest : List (List Frame)) (kind : ActivationKind) (kept : File) (word value : ℕ → ℕ) (fp ret : ℕ) → Lower p names holds cell ts rest kind kept word value fp ret → ret ≢ 0
  lower_lives cell [] [] kind kept word value fp ret (first, at) none = omega (arith, at, none)
  lower_lives cell (t ∷ ts) (fs ∷ rest) kind kept word value fp ret (handle, forked, behind, over, newest) none =
      let low = newest_code (Lower p names holds t.note.cell ts rest) (ret + 4) fp word _ t.thread.activations fs newest in omega (arith, low, none)
  lower_lives cell [] (fs ∷ rest) kind kept word value fp ret lower none = absurd lower
  lower_lives cell (t ∷ ts) [] kind kept word value fp ret lower none = absurd lower

  module _ (cell : ℕ) (ts : List Known) (rest : List (List Frame)) where
    abbrev Under : Context
    Under = Lower p names holds cell ts rest

    below_lives : (older : List Activation) (fs : List Frame) (kind : ActivationKind) (kept : File) (word value : ℕ → ℕ) (fp ret : ℕ) → Below p names holds Under older fs kind kept word value fp ret → ret ≢ 0
    below_lives [] [] kind kept word value fp ret below none = lower_lives cell ts rest kind kept word value fp ret below none
    below_lives (a ∷ older) (f ∷ fs) kind kept word value fp ret below none =
        let low = newest_code Under ret fp word value (a ∷ older) (f ∷ fs) (below_newest p names holds Under a older f fs kind kept word value fp ret below) in omega (arith, low, none)
    below_lives [] (f ∷ fs) kind kept word value fp ret below none = absurd below
    below_lives (a ∷ older) [] kind kept word value fp ret below none = absurd below

    frames_live : (older : List Activation) (fs : List Frame) (kind : ActivationKind) (kept : File) (word value : ℕ → ℕ) (fp ret : ℕ) (g : Frame) → Below p names holds Under older fs kind kept word value fp ret → Contains fs g → word (return_word g.base) ≢ 0
    frames_live [] [] kind kept word value fp ret g below in' = absurd (contains_none g in')
    frames_live (a ∷ older) (f ∷ fs) kind kept word value fp ret g (function, called, lies, (caller, below)) in' =
        ⊎_elim (λ (e : f ≡ g). λ none. below_lives older fs _ _ word _ _ _ below (ap (λ (b : ℕ). word (return_word b)) (lies.base ∙ ap (λ (h : Frame). h.base) e) ∙ none)) (λ (later : Contains fs g). frames_live older fs _ _ word _ _ _ g below later) (contains_case g f fs in')
    frames_live [] (f ∷ fs) kind kept word value fp ret g below in' = absurd below
    frames_live (a ∷ older) [] kind kept word value fp ret g below in' = absurd below

    pub newest_lives : (acts : List Activation) (fs : List Frame) (ahead pc fp : ℕ) (word value : ℕ → ℕ) (g : Frame) → FromNewest p names holds Under ahead pc fp word value acts fs → Contains fs g → word (return_word g.base) ≢ 0
    newest_lives (a ∷ older) (f ∷ fs) ahead pc fp word value g (function, is) in' =
        ⊎_elim (λ (e : f ≡ g). λ none. below_lives older fs _ _ word _ _ _ is.framed.below (ap (λ (b : ℕ). word (return_word b)) (is.lies.base ∙ ap (λ (h : Frame). h.base) e) ∙ none))
        (λ (later : Contains fs g). frames_live older fs _ _ word _ _ _ g is.framed.below later) (contains_case g f fs in')
    newest_lives [] fs ahead pc fp word value g newest in' = absurd newest
    newest_lives (a ∷ older) [] ahead pc fp word value g newest in' = absurd newest

-- ---- the words of the worker's stack

module _ (n e q : ℕ) where
  home_low : n * e ≤ q → 0 < e → q / e < n → ⊥
  home_low from some less =
      let most : q < q / e * e + e = lt-div-mul-add some in
      let all : suc (q / e) * e ≤ n * e = mul-le-mul_right e less in
      let one : suc (q / e) * e ≡ q / e * e + e = omega arith in
      omega (arith, from, most, all, one)

  home_high : q < n * e + e → n < q / e → ⊥
  home_high to more =
      let least : q / e * e ≤ q = div-mul-le_self q e in
      let all : suc n * e ≤ q / e * e = mul-le-mul_right e more in
      let one : suc n * e ≡ n * e + e = omega arith in
      omega (arith, to, least, all, one)

  home_is : n * e ≤ q → q < n * e + e → 0 < e → q / e ≡ n
  home_is from to some = ⊎_elim (λ (less : q / e < n). absurd (home_low from some less)) (λ (most : n ≤ q / e). ⊎_elim (λ (more : n < q / e). absurd (home_high to more)) (λ (few : q / e ≤ n). omega (arith, most, few)) (cases_lt n (q / e))) (cases_lt (q / e) n)

pub on_own : (n e stack lo hi : ℕ) (f : Frame) → lo ≡ 0x8000_0000 + n * stack → hi ≡ lo + stack → IsRange lo hi → e ≡ stack / 8 → IsFrameOn lo hi f → (q : ℕ) → Inside f q → home_of e q ≡ n
on_own n e stack lo hi f low high range each on q (from, to) =
    let low_even = range.low_even in
    let high_even = range.high_even in
    let some = range.some in
    let size : stack ≡ 8 * e = omega (arith, low_even, high_even, high, each) in
    let all : n * stack ≡ 8 * (n * e) = ap (λ (k : ℕ). n * k) size ∙ mul_left_comm n 8 e in
    let first = on.from in
    let last = on.to in
    home_is n e q (omega (arith, from, first, low, all)) (omega (arith, to, last, low, high, all, size)) (omega (arith, size, some, high))

-- ---- frames that share no word

pub apart_words : (f g : Frame) (q : ℕ) → Apart f g → Inside f q → Inside g q → ⊥
apart_words f g q (inl below) (from, to) (from', to') = omega (arith, below, to, from')
apart_words f g q (inr above) (from, to) (from', to') = omega (arith, above, from, to')

pub return_same : (g : Frame) → IsWhole g → return_word g.base ≡ return_place g
return_same g whole = let above = whole.above in let some = whole.some in omega (arith, above, some)

-- a word that is held, and isn't 0
pub lives_by : (held : List (Option ℕ)) (q : ℕ) → is_held held q ≡ true → word_in held q ≢ 0 → (n : ℕ) × (kept held q ≡ Some n) × (n ≢ 0)
lives_by held q is some = by_word (kept held q) refl is some
  where
    by_word : (o : Option ℕ) → kept held q ≡ o → is_some o ≡ true → number_or o ≢ 0 → (n : ℕ) × (kept held q ≡ Some n) × (n ≢ 0)
    by_word None e held' some' = absurd (true≢false (sym held'))
    by_word (Some n) e held' some' = (n, e, some')

pub holds_by : (held : List (Option ℕ)) (q : ℕ) → is_held held q ≡ true → (n : ℕ) × (kept held q ≡ Some n)
holds_by held q is = by_word (kept held q) refl is
  where
    by_word : (o : Option ℕ) → kept held q ≡ o → is_some o ≡ true → (n : ℕ) × (kept held q ≡ Some n)
    by_word None e held' = absurd (true≢false (sym held'))
    by_word (Some n) e held' = (n, e)
