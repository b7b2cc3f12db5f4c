-- The tokens that are found byte by byte are the tokens of the text (are_tokens).
use Rattle.std.proofs.Common.{ℕ, ◌≡◌, ◌∙◌, inl, inr, ◌+◌, Bool, true, false, cond, List, [], ◌∷◌, ◌++◌, refl, ap, sym, subst, length, arith, append_assoc, append-nil, length-append}
use Rattle.st_line.specs.declared.lexer.Class.{Class}
use Rattle.st_line.specs.declared.lexer.Class.TheVariants.{Blank, LineEnd, Hash, Quote, Backslash, Mark, Other}
use Rattle.st_line.specs.declared.lexer.Mode.{Mode}
use Rattle.st_line.specs.declared.lexer.Mode.TheVariants.{Gap, Comment, Single, Run, Text, Escape, Closed}
use Rattle.st_line.specs.Tokens.{class_of, IsComment, IsGapBehind, IsGap, IsStringRest, IsRunByte, IsRun, IsTokenText, AreTokensFrom, AreTokens, begin, step, continues, closed, tokens_after, tokens_of}

-- ---- gaps and comments

-- a gap goes on with a gap
gap_append : (inside : Bool) (x y : List ℕ) → IsGapBehind inside x → IsGap y → IsGapBehind inside (x ++ y)
gap_append false [] y h k = k
gap_append true [] y h k = absurd h
gap_append false (b ∷ x) y (inl h) k = inl (h.0, gap_append false x y h.1 k)
gap_append false (b ∷ x) y (inr h) k = inr (h.0, gap_append true x y h.1 k)
gap_append true (b ∷ x) y (inl h) k = inl (h.0, gap_append false x y h.1 k)
gap_append true (b ∷ x) y (inr h) k = inr (h.0, gap_append true x y h.1 k)

-- a line's end ends a comment
comment_ends : (comment : List ℕ) (b : ℕ) → IsComment comment → class_of b ≡ LineEnd → IsGapBehind true (comment ++ b ∷ [])
comment_ends [] b h e = inl (e, tt)
comment_ends (c ∷ comment) b h e = inr (h.0, comment_ends comment b h.1 e)

comment_more : (comment : List ℕ) (b : ℕ) → IsComment comment → (class_of b ≡ LineEnd → ⊥) → IsComment (comment ++ b ∷ [])
comment_more [] b h never = (never, tt)
comment_more (c ∷ comment) b h never = (h.0, comment_more comment b h.1 never)

gap_of_comment : (gap comment : List ℕ) (b : ℕ) → IsGap gap → IsComment comment → class_of b ≡ LineEnd → IsGap (gap ++ 35 ∷ (comment ++ b ∷ []))
gap_of_comment gap comment b g h e = gap_append false gap (35 ∷ (comment ++ b ∷ [])) g (inr (refl, comment_ends comment b h e))

hash_is : (b : ℕ) → class_of b ≡ Hash → b ≡ 35
hash_is b h = grind arith

-- ---- runs

run_more : (run : List ℕ) (b : ℕ) → IsRun run → IsRunByte b → IsRun (run ++ b ∷ [])
run_more [] b h k = (k, tt)
run_more (c ∷ run) b h k = (h.0, run_more run b h.1 k)

-- ---- strings

-- bytes behind a first quote with which a string may go on, or end
abbrev GoesOn : List ℕ → Type 0
GoesOn body = (x rest : List ℕ) → IsStringRest x rest → IsStringRest (body ++ x) rest

-- bytes behind a first quote whose last one is the backslash of an escape
abbrev TakesNext : List ℕ → Type 0
TakesNext body = ((c : ℕ) (x rest : List ℕ) → (class_of c ≡ LineEnd → ⊥) → IsStringRest x rest → IsStringRest (body ++ c ∷ x) rest) × ((rest : List ℕ) → IsStringRest [] rest → IsStringRest body rest)

-- an ordinary byte before a string's rest
byte_before : (b : ℕ) (x rest : List ℕ) → (class_of b ≡ Quote → ⊥) → (class_of b ≡ LineEnd → ⊥) → (class_of b ≡ Backslash → ⊥) → IsStringRest x rest → IsStringRest (b ∷ x) rest
byte_before b [] rest q l s h = inr (l, h)
byte_before b (c ∷ x) rest q l s h = inr (q, l, s, h)

goes_on_more : (body : List ℕ) (b : ℕ) → GoesOn body → (class_of b ≡ Quote → ⊥) → (class_of b ≡ LineEnd → ⊥) → (class_of b ≡ Backslash → ⊥) → GoesOn (body ++ b ∷ [])
goes_on_more body b h q l s x rest k = subst (λ bs. IsStringRest bs rest) (sym (append_assoc body (b ∷ []) x)) (h (b ∷ x) rest (byte_before b x rest q l s k))

takes_next : (body : List ℕ) (b : ℕ) → GoesOn body → class_of b ≡ Backslash → TakesNext (body ++ b ∷ [])
takes_next body b h e = (
  λ c x rest never k. subst (λ bs. IsStringRest bs rest) (sym (append_assoc body (b ∷ []) (c ∷ x))) (h (b ∷ c ∷ x) rest (inl (e, never, k))),
  λ rest k. h (b ∷ []) rest (inr ((λ l. cc (e, l)), k)),
)

goes_on_behind : (body : List ℕ) (c : ℕ) → TakesNext body → (class_of c ≡ LineEnd → ⊥) → GoesOn (body ++ c ∷ [])
goes_on_behind body c h never x rest k = subst (λ bs. IsStringRest bs rest) (sym (append_assoc body (c ∷ []) x)) (h.0 c x rest never k)

-- ---- the modes

-- a token has begun behind a gap, and its bytes so far are these
abbrev Opened : Mode → List ℕ → List ℕ → Type 0
Opened m text bs = (a f at : ℕ) (gap : List ℕ) → IsGap gap → f ≡ a + length gap → at ≡ f + length text → AreTokensFrom a ((gap ++ text) ++ bs) (tokens_after m f at bs)

-- what is found behind a gap
abbrev GapFinds : List ℕ → Type 0
GapFinds bs = (a f at : ℕ) (gap : List ℕ) → IsGap gap → at ≡ a + length gap → AreTokensFrom a (gap ++ bs) (tokens_after Gap f at bs)

-- what is found in the bytes that are left, by where the byte before them stands
record Finds (bs : List ℕ) : Type 0 where
  in_gap : GapFinds bs
  in_comment : (a f at : ℕ) (gap comment : List ℕ) → IsGap gap → IsComment comment → at ≡ a + length (gap ++ 35 ∷ comment) → AreTokensFrom a ((gap ++ 35 ∷ comment) ++ bs) (tokens_after Comment f at bs)
  behind_mark : (text : List ℕ) → ((rest : List ℕ) → IsTokenText text rest) → Opened Single text bs
  behind_string : (text : List ℕ) → ((rest : List ℕ) → IsTokenText text rest) → Opened Closed text bs
  in_run : (c : ℕ) (run : List ℕ) → IsRun (c ∷ run) → Opened Run (c ∷ run) bs
  in_string : (q : ℕ) (body : List ℕ) → class_of q ≡ Quote → GoesOn body → Opened Text (q ∷ body) bs
  in_escape : (q : ℕ) (body : List ℕ) → class_of q ≡ Quote → TakesNext body → Opened Escape (q ∷ body) bs

longer : (a at : ℕ) (text : List ℕ) (b : ℕ) → at ≡ a + length text → at + 1 ≡ a + length (text ++ b ∷ [])
longer a at text b e = omega (arith, length-append text (b ∷ []))

extended : (gap text : List ℕ) (b : ℕ) (bs : List ℕ) → (gap ++ (text ++ b ∷ [])) ++ bs ≡ (gap ++ text) ++ b ∷ bs
extended gap text b bs = simp append_assoc

-- a token that ends here
ended : (bs : List ℕ) → GapFinds bs → (text : List ℕ) → IsTokenText text bs → (a f at : ℕ) (gap : List ℕ) → IsGap gap → f ≡ a + length gap → at ≡ f + length text → AreTokensFrom a ((gap ++ text) ++ bs) (record { from = f; to = at } ∷ tokens_after Gap at at bs)
ended bs finds text is a f at gap g e k = (gap, text, bs, refl, g, is, e, k, finds at at at [] tt (omega arith))

-- ---- at the end of a text

gap_last : GapFinds []
gap_last a f at gap g e = inl (subst IsGap (sym (append-nil gap)) g)

finds_none : Finds []
finds_none = record {
  in_gap = gap_last;
  in_comment = λ a f at gap comment g h e. inr (gap, comment, append-nil (gap ++ 35 ∷ comment), g, h);
  behind_mark = λ text is a f at gap g e k. ended [] gap_last text (is []) a f at gap g e k;
  behind_string = λ text is a f at gap g e k. ended [] gap_last text (is []) a f at gap g e k;
  in_run = λ c run is a f at gap g e k. ended [] gap_last (c ∷ run) (inr (inr (is, tt))) a f at gap g e k;
  in_string = λ q body cq goes a f at gap g e k. ended [] gap_last (q ∷ body) (inr (inl (cq, subst (λ bs. IsStringRest bs []) (append-nil body) (goes [] [] tt)))) a f at gap g e k;
  in_escape = λ q body cq takes a f at gap g e k. ended [] gap_last (q ∷ body) (inr (inl (cq, takes.1 [] tt))) a f at gap g e k;
}

-- ---- one byte more

-- a byte behind a gap
gap_step : (b : ℕ) (bs : List ℕ) → Finds bs → GapFinds (b ∷ bs)
gap_step b bs finds a f at gap g e =
    let whole = append_assoc gap (b ∷ []) bs in
    let next : at + 1 ≡ a + length (gap ++ b ∷ []) = longer a at gap b e in
    let one : at + 1 ≡ at + 1 = refl in
    (elim (class_of b) as (λ k. class_of b ≡ k → AreTokensFrom a (gap ++ b ∷ bs) (tokens_after (begin k) at (at + 1) bs)) [
      | Blank ↦ λ c. subst (λ x. AreTokensFrom a x (tokens_after Gap at (at + 1) bs)) whole (finds.in_gap a at (at + 1) (gap ++ b ∷ []) (gap_append false gap (b ∷ []) g (inl (inl c, tt))) next)
      | LineEnd ↦ λ c. subst (λ x. AreTokensFrom a x (tokens_after Gap at (at + 1) bs)) whole (finds.in_gap a at (at + 1) (gap ++ b ∷ []) (gap_append false gap (b ∷ []) g (inl (inr c, tt))) next)
      | Hash ↦ λ c. subst (λ x. AreTokensFrom a (gap ++ x ∷ bs) (tokens_after Comment at (at + 1) bs)) (sym (hash_is b c))
          (subst (λ x. AreTokensFrom a x (tokens_after Comment at (at + 1) bs)) (append_assoc gap (35 ∷ []) bs) (finds.in_comment a at (at + 1) gap [] g tt (longer a at gap 35 e)))
      | Quote ↦ λ c. subst (λ x. AreTokensFrom a x (tokens_after Text at (at + 1) bs)) whole (finds.in_string b [] c (λ x rest h. h) a at (at + 1) gap g e one)
      | Backslash ↦ λ c. subst (λ x. AreTokensFrom a x (tokens_after Run at (at + 1) bs)) whole (finds.in_run b [] (inr c, tt) a at (at + 1) gap g e one)
      | Mark ↦ λ c. subst (λ x. AreTokensFrom a x (tokens_after Single at (at + 1) bs)) whole (finds.behind_mark (b ∷ []) (λ rest. inl (c, refl)) a at (at + 1) gap g e one)
      | Other ↦ λ c. subst (λ x. AreTokensFrom a x (tokens_after Run at (at + 1) bs)) whole (finds.in_run b [] (inl c, tt) a at (at + 1) gap g e one)
    ]) refl

-- a byte in a comment
comment_step : (b : ℕ) (bs : List ℕ) → Finds bs → (a f at : ℕ) (gap comment : List ℕ) → IsGap gap → IsComment comment → at ≡ a + length (gap ++ 35 ∷ comment) → AreTokensFrom a ((gap ++ 35 ∷ comment) ++ b ∷ bs) (tokens_after Comment f at (b ∷ bs))
comment_step b bs finds a f at gap comment g h e =
    let behind = gap ++ 35 ∷ comment in
    let inside = λ (never : class_of b ≡ LineEnd → ⊥). subst (λ x. AreTokensFrom a x (tokens_after Comment at (at + 1) bs)) (extended gap (35 ∷ comment) b bs)
    (finds.in_comment a at (at + 1) gap (comment ++ b ∷ []) g (comment_more comment b h never) (longer a at behind b e ∙ ap (λ x. a + length x) (append_assoc gap (35 ∷ comment) (b ∷ [])))) in
    (elim (class_of b) as (λ k. class_of b ≡ k → AreTokensFrom a (behind ++ b ∷ bs) (tokens_after (step Comment k) at (at + 1) bs)) [
      | Blank ↦ λ c. inside (λ l. cc (c, l))
      | LineEnd ↦ λ c. subst (λ x. AreTokensFrom a x (tokens_after Gap at (at + 1) bs)) (append_assoc behind (b ∷ []) bs)
          (finds.in_gap a at (at + 1) (behind ++ b ∷ []) (subst IsGap (sym (append_assoc gap (35 ∷ comment) (b ∷ []))) (gap_of_comment gap comment b g h c)) (longer a at behind b e))
      | Hash ↦ λ c. inside (λ l. cc (c, l))
      | Quote ↦ λ c. inside (λ l. cc (c, l))
      | Backslash ↦ λ c. inside (λ l. cc (c, l))
      | Mark ↦ λ c. inside (λ l. cc (c, l))
      | Other ↦ λ c. inside (λ l. cc (c, l))
    ]) refl

-- a byte behind a run
run_step : (b : ℕ) (bs : List ℕ) → Finds bs → (d : ℕ) (run : List ℕ) → IsRun (d ∷ run) → Opened Run (d ∷ run) (b ∷ bs)
run_step b bs finds d run is a f at gap g e k =
    let goes = λ (byte : IsRunByte b). subst (λ x. AreTokensFrom a x (tokens_after Run f (at + 1) bs)) (extended gap (d ∷ run) b bs)
    (finds.in_run d (run ++ b ∷ []) (run_more (d ∷ run) b is byte) a f (at + 1) gap g e (longer f at (d ∷ run) b k)) in
    let ends = λ (never : IsRunByte b → ⊥). ended (b ∷ bs) (gap_step b bs finds) (d ∷ run) (inr (inr (is, never))) a f at gap g e k in
    let tail = λ (x : Class). AreTokensFrom a ((gap ++ d ∷ run) ++ b ∷ bs) (record { from = f; to = at } ∷ tokens_after (begin x) at (at + 1) bs) in
    (elim (class_of b) as (λ x. class_of b ≡ x → AreTokensFrom a ((gap ++ d ∷ run) ++ b ∷ bs) (cond (continues Run x) (tokens_after (step Run x) f (at + 1) bs) (closed Run f at ++ tokens_after (step Run x) at (at + 1) bs))) [
      | Blank ↦ λ c. subst tail c (ends (λ r. elim r [ inl o ↦ cc (c, o) | inr o ↦ cc (c, o) ]))
      | LineEnd ↦ λ c. subst tail c (ends (λ r. elim r [ inl o ↦ cc (c, o) | inr o ↦ cc (c, o) ]))
      | Hash ↦ λ c. subst tail c (ends (λ r. elim r [ inl o ↦ cc (c, o) | inr o ↦ cc (c, o) ]))
      | Quote ↦ λ c. subst tail c (ends (λ r. elim r [ inl o ↦ cc (c, o) | inr o ↦ cc (c, o) ]))
      | Backslash ↦ λ c. goes (inr c)
      | Mark ↦ λ c. subst tail c (ends (λ r. elim r [ inl o ↦ cc (c, o) | inr o ↦ cc (c, o) ]))
      | Other ↦ λ c. goes (inl c)
    ]) refl

-- a byte in a string
string_step : (b : ℕ) (bs : List ℕ) → Finds bs → (q : ℕ) (body : List ℕ) → class_of q ≡ Quote → GoesOn body → Opened Text (q ∷ body) (b ∷ bs)
string_step b bs finds q body cq goes a f at gap g e k =
    let next : at + 1 ≡ f + length ((q ∷ body) ++ b ∷ []) = longer f at (q ∷ body) b k in
    let whole = extended gap (q ∷ body) b bs in
    let inside = λ (noq : class_of b ≡ Quote → ⊥) (nol : class_of b ≡ LineEnd → ⊥) (nos : class_of b ≡ Backslash → ⊥). subst (λ x. AreTokensFrom a x (tokens_after Text f (at + 1) bs)) whole
    (finds.in_string q (body ++ b ∷ []) cq (goes_on_more body b goes noq nol nos) a f (at + 1) gap g e next) in
    (elim (class_of b) as (λ x. class_of b ≡ x → AreTokensFrom a ((gap ++ q ∷ body) ++ b ∷ bs) (cond (continues Text x) (tokens_after (step Text x) f (at + 1) bs) (closed Text f at ++ tokens_after (step Text x) at (at + 1) bs))) [
      | Blank ↦ λ c. inside (λ l. cc (c, l)) (λ l. cc (c, l)) (λ l. cc (c, l))
      | LineEnd ↦ λ c. subst (λ x. AreTokensFrom a ((gap ++ q ∷ body) ++ b ∷ bs) (record { from = f; to = at } ∷ tokens_after (begin x) at (at + 1) bs)) c
          (ended (b ∷ bs) (gap_step b bs finds) (q ∷ body) (inr (inl (cq, subst (λ x. IsStringRest x (b ∷ bs)) (append-nil body) (goes [] (b ∷ bs) c)))) a f at gap g e k)
      | Hash ↦ λ c. inside (λ l. cc (c, l)) (λ l. cc (c, l)) (λ l. cc (c, l))
      | Quote ↦ λ c. subst (λ x. AreTokensFrom a x (tokens_after Closed f (at + 1) bs)) whole
          (finds.behind_string (q ∷ (body ++ b ∷ [])) (λ rest. inr (inl (cq, goes (b ∷ []) rest (inl c)))) a f (at + 1) gap g e next)
      | Backslash ↦ λ c. subst (λ x. AreTokensFrom a x (tokens_after Escape f (at + 1) bs)) whole
          (finds.in_escape q (body ++ b ∷ []) cq (takes_next body b goes c) a f (at + 1) gap g e next)
      | Mark ↦ λ c. inside (λ l. cc (c, l)) (λ l. cc (c, l)) (λ l. cc (c, l))
      | Other ↦ λ c. inside (λ l. cc (c, l)) (λ l. cc (c, l)) (λ l. cc (c, l))
    ]) refl

-- a byte behind a string's backslash
escape_step : (b : ℕ) (bs : List ℕ) → Finds bs → (q : ℕ) (body : List ℕ) → class_of q ≡ Quote → TakesNext body → Opened Escape (q ∷ body) (b ∷ bs)
escape_step b bs finds q body cq takes a f at gap g e k =
    let next : at + 1 ≡ f + length ((q ∷ body) ++ b ∷ []) = longer f at (q ∷ body) b k in
    let inside = λ (never : class_of b ≡ LineEnd → ⊥). subst (λ x. AreTokensFrom a x (tokens_after Text f (at + 1) bs)) (extended gap (q ∷ body) b bs)
    (finds.in_string q (body ++ b ∷ []) cq (goes_on_behind body b takes never) a f (at + 1) gap g e next) in
    (elim (class_of b) as (λ x. class_of b ≡ x → AreTokensFrom a ((gap ++ q ∷ body) ++ b ∷ bs) (cond (continues Escape x) (tokens_after (step Escape x) f (at + 1) bs) (closed Escape f at ++ tokens_after (step Escape x) at (at + 1) bs))) [
      | Blank ↦ λ c. inside (λ l. cc (c, l))
      | LineEnd ↦ λ c. subst (λ x. AreTokensFrom a ((gap ++ q ∷ body) ++ b ∷ bs) (record { from = f; to = at } ∷ tokens_after (begin x) at (at + 1) bs)) c
          (ended (b ∷ bs) (gap_step b bs finds) (q ∷ body) (inr (inl (cq, takes.1 (b ∷ bs) c))) a f at gap g e k)
      | Hash ↦ λ c. inside (λ l. cc (c, l))
      | Quote ↦ λ c. inside (λ l. cc (c, l))
      | Backslash ↦ λ c. inside (λ l. cc (c, l))
      | Mark ↦ λ c. inside (λ l. cc (c, l))
      | Other ↦ λ c. inside (λ l. cc (c, l))
    ]) refl

finds_in : (bs : List ℕ) → Finds bs
finds_in [] = finds_none
finds_in (b ∷ bs) =
    let rest = finds_in bs in
    record {
      in_gap = gap_step b bs rest;
      in_comment = comment_step b bs rest;
      behind_mark = λ text is a f at gap g e k. ended (b ∷ bs) (gap_step b bs rest) text (is (b ∷ bs)) a f at gap g e k;
      behind_string = λ text is a f at gap g e k. ended (b ∷ bs) (gap_step b bs rest) text (is (b ∷ bs)) a f at gap g e k;
      in_run = run_step b bs rest;
      in_string = string_step b bs rest;
      in_escape = escape_step b bs rest;
    }

pub are_tokens : (text : List ℕ) → AreTokens text (tokens_of text)
are_tokens text = (finds_in text).in_gap 0 0 0 [] tt refl
