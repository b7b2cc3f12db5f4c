-- Counts, frames, requests, drawn numbers and what was seen: unit_lowered, frame_taken_back, return_cleared, given_untruly, drawn_twice and value_overwritten.
use Rattle.std.proofs.Common.{◌≡◌, ◌≢◌, ℕ, ◌-◌, ◌*◌, ◌<◌, Bool, true, false, List, [], length, Option, Some, None, refl, sym, ap, ◌∙◌, subst, arith}
use Rattle.std.specs.List.{Contains}
use Rattle.st_base.specs.declared.chain.Chain.{Chain}
use Rattle.st_words.specs.declared.view.Slot.{Slot}
use Rattle.st_words.specs.declared.view.Slot.TheVariants.{Cell, Mail}
use Rattle.st_words.specs.declared.view.Waiter.{Waiter}
use Rattle.st_words.specs.declared.view.Answering.{Answering}
use Rattle.st_words.specs.declared.view.View.{View}
use Rattle.st_words.specs.Encodings.{given}
use Rattle.st_words.specs.Steps.{StackStore, Draw, MailStore, Done, Number, return_place, kept, IsLeased}
use Rattle.st_words.specs.Views.{view_after, Does}
use Rattle.st_words.specs.Shares.{Covered}
use Rattle.st_words.proofs.Lists.{contains_here, contains_none}
use Rattle.st_world.specs.Functions.{put}
use Rattle.st_world.specs.World.{World, slot_of, cargo_of, seen, all_words, world_after}
use Rattle.st_world.proofs.Functions.{put_here, put_other, put_all}
use Rattle.st_world.specs.Holders.{Holder, InView, InSlot, Nobody}
use Rattle.st_holders.specs.Leasing.{Leasing}
use Rattle.st_holders.proofs.Shifts.{some_none, view_slot, view_nobody, view_other}
use Rattle.st_holders.proofs.Changes.{is_leased, leased_word}
use Rattle.st_leases.proofs.ViewsAfter.{stores_after, takes_back_after}
use Rattle.st_leases.proofs.Steps.{one_each, word_told, frame_told}
use Rattle.st_requests.specs.Mailing.{Phase, Asks, Answers, Told, PhaseOk, AnswerOk, asks, answers, letters, gifts}
use Rattle.st_refused.specs.Refutations.{UnitLowered, FrameTakenBack, ReturnCleared, GivenUntruly, DrawnTwice, ValueOverwritten}

pub unit_lowered : UnitLowered
unfolding view_after
unit_lowered x w c n v few has d C =
    let hand : v.hand ≡ (x.view w).hand = ap (λ (u : View). u.hand) d.1 in
    let share : v.share ≡ (x.view w).share - 1 = ap (λ (u : View). u.share) d.1 in
    let covered : Covered v = subst Covered (put_here x.view w v) (C.covered w) in
    let one = covered.holds (λ (e : v.hand ≡ []). contains_none has.0 (subst (λ (h : List Waiter). Contains h has.0) (sym hand ∙ e) has.1)) in
    omega (arith, share, few, one)

same_cargo : (x : World) (w : ℕ) (v : View) (z : Slot) → cargo_of (seen w v x) z ≡ cargo_of x z
same_cargo x w v (Cell c) = refl
same_cargo x w v (Mail at) = refl

-- whoever held a word holds it still, so w that didn't hold it does not now
held_on : (x : World) (w p : ℕ) (v : View) (G : Leasing x) (G' : Leasing (seen w v x)) → p < x.workers * x.each → kept (x.view w).held p ≡ None → G'.keeping.holder p ≡ InView w → (h : Holder) → h ≢ Nobody → G.keeping.holder p ≡ h → ⊥
held_on x w p v G G' deep away mine (InView q) some e =
    let a = (G.views q).all p deep e in
    let n : q ≢ w = λ s. some_none a.0 (sym a.1 ∙ (ap (λ (j : ℕ). kept (x.view j).held p) s ∙ away)) in
    view_other q w n (sym ((G'.views q).held p a.0 (ap (λ (u : View). kept u.held p) (put_other x.view w v q n) ∙ a.1)).1 ∙ mine)
held_on x w p v G G' deep away mine (InSlot z) some e =
    let a = (G.slots z).all p deep e in
    view_slot w z (sym mine ∙ ((G'.slots z).has p a.0 (ap (λ g. kept g.words p) (same_cargo x w v z) ∙ a.1)).1)
held_on x w p v G G' deep away mine Nobody some e = some refl

pub frame_taken_back : FrameTakenBack
frame_taken_back x w f v G less m away lives d G' =
    let u : View = x.view w in
    let p : ℕ = return_place f in
    let h = (G.views w).exported f m in
    let deep = h.0 in
    let lw = leased_word x.workers x.each x.stack (slot_of x) (cargo_of x) x.view G p f deep h.1 in
    let bound : p < length u.held = subst (λ (n : ℕ). p < n) (sym (G.sized w less).held) deep in
    let back = takes_back_after d.0 u x.stack f (all_words x) (one_each x w G) m bound (frame_told x w p 0 G) (λ q i. let below = i.1 in word_told x q (omega (arith, deep, below))) in
    let has : kept (put x.view w v w).held p ≡ Some (x.stack p) = ap (λ (y : View). kept y.held p) (put_here x.view w v ∙ d.1) ∙ back.inside p lw.inside in
    held_on x w p v G G' deep away ((G'.views w).held p (x.stack p) has).1 (G.keeping.holder p) (λ e. lives (lw.gave e)) refl

pub return_cleared : ReturnCleared
unfolding view_after
return_cleared x w f v m holds d G =
    let p : ℕ = return_place f in
    let y : World = world_after x w (StackStore p 0) Done v in
    let same = put_here x.view w v ∙ d.1 in
    let i = is_leased y.workers y.each y.stack (slot_of y) (cargo_of y) y.view G w f (subst (λ (u : View). IsLeased u f) (sym same) m) in
    let lw = leased_word y.workers y.each y.stack (slot_of y) (cargo_of y) y.view G p f i.0 i.1 in
    let mine = ((G.views w).held p 0 (ap (λ (u : View). kept u.held p) same ∙ (stores_after d.0 (x.view w) p 0 holds).here)).1 in
    view_nobody w (sym mine ∙ lw.given (put_here x.stack p 0))

-- no phase of a request that stands has the answer given without a chain
phase_none : (workers : ℕ) (request mail : ℕ → ℕ) (post : ℕ → Option Chain) (asked : ℕ → Option ℕ) (answering : ℕ → Option Answering) (letter : ℕ → ℕ) (gift : ℕ → Bool) (a v : ℕ) (p : Phase) → PhaseOk workers request mail post asked answering letter gift a p → asked a ≡ Some v → mail a ≡ given → post a ≡ None → ⊥
phase_none workers request mail post asked answering letter gift a v (Asks u) h stands told none = omega (arith, h.3, told)
phase_none workers request mail post asked answering letter gift a v (Answers u put) h stands told none = omega (arith, h.3, told)
phase_none workers request mail post asked answering letter gift a v (Told u true) h stands told none = some_none h.3.0 (sym h.3.1 ∙ none)
phase_none workers request mail post asked answering letter gift a v (Told u false) h stands told none = omega (arith, h.2, told)
phase_none workers request mail post asked answering letter gift a v phase h stands told none = some_none v (sym stands ∙ h.0)

pub given_untruly : GivenUntruly
given_untruly x w y v R has put_none untold R' =
    let a : ℕ = y.asker in
    let k : AnswerOk x.workers x.request x.mail x.post (asks x.view) (answers x.view) (letters x.view) (gifts x.view) R.phase w (Some y) = subst (λ (o : Option Answering). AnswerOk x.workers x.request x.mail x.post (asks x.view) (answers x.view) (letters x.view) (gifts x.view) R.phase w o) has (R.mailing.answers w) in
    let phase : R.phase a ≡ Answers w false = k.1 untold ∙ ap (Answers w) put_none in
    let h : PhaseOk x.workers x.request x.mail x.post (asks x.view) (answers x.view) (letters x.view) (gifts x.view) a (Answers w false) = subst (λ (p : Phase). PhaseOk x.workers x.request x.mail x.post (asks x.view) (answers x.view) (letters x.view) (gifts x.view) a p) phase (R.mailing.each a) in
    let z : World = world_after x w (MailStore a given) Done v in
    phase_none z.workers z.request z.mail z.post (asks z.view) (answers z.view) (letters z.view) (gifts z.view) a w (R'.phase a) (R'.mailing.each a) (ap (λ (u : View). u.asked) (put_other x.view w v a k.3) ∙ h.0) (put_here x.mail a given) h.4

draws_it : (x : World) (w n : ℕ) (a : View) → Does (x.view w) Draw (Number n) a → Contains a.drawn n
unfolding view_after
draws_it x w n a d = subst (λ (ds : List ℕ). Contains ds n) (sym (ap (λ (u : View). u.drawn) d.1)) (contains_here n (x.view w).drawn)

pub drawn_twice : DrawnTwice
drawn_twice x v w n a b other da db D =
    let views : ℕ → View = put x.view v a in
    let first : Contains (put views w b v).drawn x.drawn = subst (λ (u : View). Contains u.drawn x.drawn) (sym (put_other views w b v other ∙ put_here x.view v a)) (draws_it x v x.drawn a da) in
    let second : Contains (put views w b w).drawn x.drawn = subst (λ (u : View). Contains u.drawn x.drawn) (sym (put_here views w b)) (draws_it x w x.drawn b db) in
    other (sym ((D.views v).drew x.drawn first) ∙ (D.views w).drew x.drawn second)

pub value_overwritten : ValueOverwritten
unfolding view_after
value_overwritten x v w c m n a has other d K =
    let values : a.values ≡ (x.view w).values = ap (λ (u : View). u.values) d.1 in
    let there : Contains (put x.view w a v).values (c, m) = put_all (λ (j : ℕ) (u : View). Contains u.values (c, m)) x.view w a v
    (λ (s : v ≡ w). subst (λ (l : List (ℕ × ℕ)). Contains l (c, m)) (ap (λ (j : ℕ). (x.view j).values) s ∙ sym values) has)
    (λ (t : v ≢ w). has) in
    other (sym (put_here x.value c n) ∙ ((K.views v).values c m there).2)
