-- What the tests show of a board of one worker, who holds all words of its stack: a step of it may be asked, and its words stay held.
use Rattle.std.proofs.Common.{◌≡◌, inl, inr, ℕ, zero, suc, ◌+◌, ◌*◌, ◌/◌, ◌<◌, ◌≤◌, Bool, true, false, List, [], ◌∷◌, length, map, Option, Some, None, refl, sym, ap, ◌∙◌, subst, arith, if◌then◌else◌, eq-eqb, le-leb, lt-ltb}
use Rattle.std.specs.Prelude.{is_some, nat_le, nat_lt, ◌&&◌, slice_set}
use Rattle.std.specs.List.{Contains}
use Rattle.std.proofs.lemmas.List.FromFn.{get_or-map-range_with_len}
use Rattle.std.proofs.lemmas.List.{length-set}
use Rattle.st_stack.specs.Shrinking.{IsStackOf, LooksAt, Shrinks}
use Rattle.st_stack.specs.declared.stack.Shrunk.{Shrunk}
use Rattle.st_stack.specs.declared.stack.Shrunk.TheVariants.{More, Done}
use Rattle.st_words.specs.declared.plain.PlainBoard.{PlainBoard}
use Rattle.std.proofs.lemmas.Bool.{cases_eq}
use Rattle.st_base.specs.declared.chain.Frame.{Frame}
use Rattle.st_base.specs.declared.limits.Limits.{Limits}
use Rattle.st_words.specs.declared.view.Cargo.{Cargo}
use Rattle.st_words.specs.declared.view.View.{View}
use Rattle.st_words.specs.declared.words.Words.{Words}
use Rattle.st_words.specs.Laws.{named, progress_of}
use Rattle.st_words.specs.Plain.{first_view, first_held, view_at, Exact, Left, Cargoes, stack_cargo, words_after}
use Rattle.st_words.specs.Steps.{Step, StackStore, Look, Answer, Done as Stored, Looked, Asks, Holds, kept, return_place}
use Rattle.st_words.specs.Views.{Does, IsFree, view_after, held_with, taken_back, frame_returning}
use Rattle.st_words.proofs.Lists.{kept_set_here, kept_set_other, inside_case, contains_none}
use Rattle.st_words.proofs.Naming.{named_asks, plain_asks}
use Rattle.st_words.proofs.Returning.{with_inside, with_outside}
use Rattle.st_words.proofs.Sizes.{held_bound}
use Rattle.st_stack.specs.Exported.{IsFrameOn, MayExport, IsAdded}
use Rattle.st_stack.specs.Trying.{one_word, exporting}

-- all words of a stack of 65,536 bytes
abbrev pub HoldsAll : View → Type 0
HoldsAll v = (p : ℕ) → p < 8192 → is_some (kept v.held p) ≡ true

some_of : (o : Option ℕ) → is_some o ≡ true → (n : ℕ) × (o ≡ Some n)
some_of None e = absurd (cc)
some_of (Some n) e = (n, refl)

is_some_of : (o : Option ℕ) (n : ℕ) → o ≡ Some n → is_some o ≡ true
is_some_of o n e = ap is_some e

pub holds : (v : View) → HoldsAll v → (p : ℕ) → p < 8192 → Holds v p
holds v all p l = some_of (kept v.held p) (all p l)

-- the words of a single worker's stack are its own
both_within : (p : ℕ) → p < 8192 → (nat_le (0 * 8192) p && nat_lt p ((0 + 1) * 8192)) ≡ true
both_within p l = let a : nat_le 0 p ≡ true = le-leb 0 p (omega arith) in let b : nat_lt p 8192 ≡ true = lt-ltb p 8192 l in cc

some_when : {A : Type 0} (test : Bool) (x : Option A) → test ≡ true → (if test then x else None) ≡ x
some_when true x e = refl
some_when false x e = absurd (cc)

own_word : (p : ℕ) (zero_word : Option ℕ) → p < 8192 → (if nat_le (0 * 8192) p && nat_lt p ((0 + 1) * 8192) then zero_word else None) ≡ zero_word
own_word p zero_word l = some_when _ zero_word (both_within p l)

pub first_holds : (v : View) (limits : Limits) → limits.stack ≡ 65536 → v ≡ first_view limits 1 0 → HoldsAll v
first_holds v limits stack first p l =
    let here : kept (first_held 1 8192 0) p ≡ Some 0 = get_or-map-range_with_len (λ x. if nat_le (0 * 8192) x && nat_lt x ((0 + 1) * 8192) then Some 0 else None) 0 8192 p p None l (omega arith) ∙ own_word p (Some 0) l in
    is_some_of (kept v.held p) 0 (ap (λ (x : View). kept x.held p) first ∙ ap (λ n. kept (first_held 1 (n / 8) 0) p) stack ∙ here)

-- ---- stores

pub asks_store : (says : Step → Answer → Type 0) (v : View) (p n : ℕ) → HoldsAll v → p < 8192 → Asks says IsFree Does (λ w s a. named (progress_of w) (exporting w s) s a) v (StackStore p n)
asks_store says v p n all l = plain_asks says v (StackStore p n) (holds v all p l)

pub stored_holds : (v w : View) (p n : ℕ) → HoldsAll v → p < 8192 → w ≡ named (progress_of v) (exporting v (StackStore p n)) (StackStore p n) Stored → HoldsAll w
unfolding view_after
stored_holds v w p n all l after q h =
    let same : kept w.held q ≡ kept (slice_set v.held p (Some n)) q = ap (λ (x : View). kept x.held q) after in
    elim (cases_eq q p) [
      | inl here ↦ is_some_of (kept w.held q) n (same ∙ ap (kept (slice_set v.held p (Some n))) here ∙ kept_set_here v.held p n (held_bound v p (holds v all p l)))
      | inr other ↦ is_some_of (kept w.held q) (holds v all q h).0 (same ∙ kept_set_other v.held p q n other ∙ (holds v all q h).1)
    ]

-- ---- looks

returns_there : (p : ℕ) → return_place (one_word p) ≡ p
returns_there p = omega arith

pub asks_look : (says : Step → Answer → Type 0) (v : View) (f : Frame) → HoldsAll v → IsFrameOn 0x8000_0000 0x8001_0000 f → Asks says IsFree Does (λ w s a. named (progress_of w) (exporting w s) s a) v (Look (return_place f))
asks_look says v f all on =
    let p = return_place f in
    let low : 0x8000_0000 ≤ f.low = on.from in
    let some : f.low < f.base = on.some in
    let to : f.base ≤ 0x8001_0000 = on.to in
    let l : p < 8192 = omega arith in
    named_asks says v (exporting v (Look p)) (λ s a. progress_of v) (Look p) (record { progress = progress_of v; child = v.child; chains = v.chains; exported = one_word p ∷ [] }, refl)
    ((one_word p, (0, omega arith, refl), returns_there p), held_bound v p (holds v all p l))

kept_mapped : (xs : List ℕ) (q : ℕ) → q < length xs → (n : ℕ) × (kept (map Some xs) q ≡ Some n)
kept_mapped [] q l = absurd (omega (arith, l))
kept_mapped (x ∷ xs) zero l = (x, refl)
kept_mapped (x ∷ xs) (suc q) l = kept_mapped xs q (omega arith)

with_holds : (f : Frame) (words held : List (Option ℕ)) (q : ℕ) → q < length held → is_some (kept words q) ≡ true → is_some (kept held q) ≡ true → is_some (kept (held_with f words held) q) ≡ true
with_holds f words held q l a b =
    elim (inside_case f q) [ inl i ↦ ap is_some (with_inside f words held q l i) ∙ a | inr n ↦ ap is_some (with_outside f words held q n) ∙ b ]

found_frame : (p : ℕ) → frame_returning p (one_word p ∷ []) ≡ Some (one_word p)
found_frame p = some_when _ (Some (one_word p)) (eq-eqb (return_place (one_word p)) p (returns_there p))

taken_holds : (v : View) (x : Words) (p : ℕ) → HoldsAll v → length x.stack ≡ 8192 → (q : ℕ) → q < 8192 → is_some (kept (held_with (one_word p) (stack_cargo x).words v.held) q) ≡ true
taken_holds v x p all size q h =
    let word = kept_mapped x.stack q (omega (arith, size)) in
    with_holds (one_word p) (map Some x.stack) v.held q (held_bound v q (holds v all q h)) (is_some_of (kept (map Some x.stack) q) word.0 word.1) (all q h)

pub looked_holds : (v w : View) (x : Words) (ls : Cargoes) (p n : ℕ) (cargo : Cargo) → HoldsAll v → length x.stack ≡ 8192 → Exact x ls 0 (Look p) (Looked n cargo) → w ≡ named (progress_of v) (exporting v (Look p)) (Look p) (Looked n cargo) → HoldsAll w
unfolding view_after
looked_holds v w x ls p zero cargo all size said after q h =
    let same : kept w.held q ≡ kept (taken_back p cargo.words (frame_returning p (one_word p ∷ [])) (exporting v (Look p))).held q = ap (λ (y : View). kept y.held q) after in
    let taken : kept (taken_back p cargo.words (frame_returning p (one_word p ∷ [])) (exporting v (Look p))).held q ≡ kept (held_with (one_word p) cargo.words v.held) q = ap (λ o. kept (taken_back p cargo.words o (exporting v (Look p))).held q) (found_frame p) in
    let told : kept (held_with (one_word p) cargo.words v.held) q ≡ kept (held_with (one_word p) (stack_cargo x).words v.held) q = ap (λ (y : Cargo). kept (held_with (one_word p) y.words v.held) q) said.1 in
    ap is_some (same ∙ taken ∙ told) ∙ taken_holds v x p all size q h
looked_holds v w x ls p (suc n) cargo all size said after q h = ap (λ (y : View). is_some (kept y.held q)) after ∙ all q h

-- ---- the board after a step

pub stored_length : (x : Words) (p n : ℕ) → length (words_after x 0 (StackStore p n) Stored).stack ≡ length x.stack
unfolding words_after
stored_length x p n = length-set x.stack p n

pub own_stack : (lo hi : ℕ) → lo ≡ 0x8000_0000 → hi ≡ 0x8001_0000 → IsStackOf 0 lo hi
own_stack lo hi low high = record { worker = omega arith; low = (65536, omega (arith, low), omega (arith, low, high)) }

looked_words : (x : Words) (p n : ℕ) (cargo : Cargo) → words_after x 0 (Look p) (Looked n cargo) ≡ x
unfolding words_after
looked_words x p n cargo = refl

-- what a board over vectors says, leaves and shows of its first worker
abbrev pub PlainShrinks : PlainBoard → ℕ → List Frame → List Frame → Option Frame → Shrunk → PlainBoard → Type 0
PlainShrinks b =
    Shrinks (λ (d : PlainBoard) w. view_at d.kept.views w) (λ (d : PlainBoard) w. w < length d.kept.views) (λ (d : PlainBoard) w s a. Exact d.words d.kept.cargoes w s a) (λ (d : PlainBoard) w s a c. Left d.words d.kept.cargoes d.kept.views w s a c.words c.kept.cargoes c.kept.views)
    (λ v s a. named (progress_of v) (exporting v s) s a) b 0

abbrev pub PlainLooks : PlainBoard → Frame → ℕ → PlainBoard → Type 0
PlainLooks b =
    LooksAt (λ (d : PlainBoard) w. view_at d.kept.views w) (λ (d : PlainBoard) w. w < length d.kept.views) (λ (d : PlainBoard) w s a. Exact d.words d.kept.cargoes w s a) (λ (d : PlainBoard) w s a c. Left d.words d.kept.cargoes d.kept.views w s a c.words c.kept.cargoes c.kept.views)
    (λ v s a. named (progress_of v) (exporting v s) s a) b 0

-- it serves its worker, who holds the whole stack
pub record IsWhole (b : PlainBoard) : Type 0 where
  pub serves : 0 < length b.kept.views
  pub words : length b.words.stack ≡ 8192
  pub holds : HoldsAll (view_at b.kept.views 0)

look_keeps : (b c : PlainBoard) (f : Frame) (n : ℕ) → IsWhole b → PlainLooks b f n c → IsWhole c
look_keeps b c f n whole looks =
    let cargo : Cargo = looks.0 in record {
      serves = looks.1.serves;
      words = ap (λ (x : Words). length x.stack) (looks.1.did.words ∙ looked_words b.words (return_place f) n cargo) ∙ whole.words;
      holds = looked_holds (view_at b.kept.views 0) (view_at c.kept.views 0) b.words b.kept.cargoes (return_place f) n cargo whole.holds whole.words looks.1.said looks.1.view;
    }

pub shrink_keeps : (b c : PlainBoard) (hi : ℕ) (fs fs' : List Frame) (top : Option Frame) (r : Shrunk) → IsWhole b → PlainShrinks b hi fs fs' top r c → IsWhole c
shrink_keeps b c hi fs fs' top More whole shrinks = look_keeps b c shrinks.0 0 whole shrinks.2
shrink_keeps b c hi fs fs' top (Done sp) whole shrinks =
    elim shrinks.2 [
      | inl none ↦ subst IsWhole (sym none.1) whole
      | inr some ↦ look_keeps b c some.0 some.1 whole some.3
    ]

-- ---- exports of one frame

-- where no other frame is exported, none is after its export
pub still_only : (fs fs' : List Frame) (f : Frame) (r : Bool) → ((g : Frame) → Contains fs g → g ≡ f) → IsAdded fs f r fs' → (g : Frame) → Contains fs' g → g ≡ f
still_only fs fs' f true only added g c = elim (added.1.were g c) [ inl same ↦ same | inr there ↦ only g there ]
still_only fs fs' f false only added g c = only g (subst (λ xs. Contains xs g) added.1 c)

pub none_there : (fs : List Frame) (f : Frame) → fs ≡ [] → (g : Frame) → Contains fs g → g ≡ f
none_there fs f none g c = absurd (contains_none g (subst (λ xs. Contains xs g) none c))

pub may_again : (fs : List Frame) (f : Frame) → ((g : Frame) → Contains fs g → g ≡ f) → MayExport fs f
may_again fs f only g c other = absurd (other (only g c))

pub may_below : (fs : List Frame) (f g : Frame) → ((h : Frame) → Contains fs h → h ≡ g) → f.base ≤ g.low → MayExport fs f
may_below fs f g only below h c other = inl (let e : h.low ≡ g.low = ap (λ x. x.low) (only h c) in omega arith)

-- frames stay below an address that is above the one added
pub added_below : (fs fs' : List Frame) (f : Frame) (r : Bool) (n m : ℕ) → ((h : Frame) → Contains fs h → h.base ≤ n) → f.base ≤ m → n ≤ m → IsAdded fs f r fs' → (h : Frame) → Contains fs' h → h.base ≤ m
added_below fs fs' f true n m below low more (new, added) h there =
    elim (added.were h there) [ inl same ↦ let e : h.base ≡ f.base = ap (λ (x : Frame). x.base) same in omega arith | inr old ↦ let o : h.base ≤ n = below h old in omega arith ]
added_below fs fs' f false n m below low more (old, same) h there = let o : h.base ≤ n = below h (subst (λ xs. Contains xs h) same there) in omega arith
