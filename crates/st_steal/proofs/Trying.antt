-- What tests show of two workers, of which worker 0 may ask worker 1: that each step may be asked (asks_*), and what their views and the mail of
-- worker 0 have then (*_has).
use Rattle.std.proofs.Common.{◌≡◌, ◌≢◌, inl, inr, ℕ, zero, suc, ◌≤◌, Bool, true, false, ◌==◌, List, [], ◌∷◌, Option, Some, None, Result, Ok, Err, refl, sym, ap, ◌∙◌, subst, arith, eq-eqb, ne_eqb}
use Rattle.std.specs.Prelude.{◌&&◌, ◌||◌, is_some, slice_get, slice_set}
use Rattle.std.specs.Result.{is_ok, is_err}
use Rattle.st_base.specs.declared.chain.Again.{Again}
use Rattle.st_base.specs.declared.chain.Chain.{Chain}
use Rattle.st_base.specs.declared.limits.Limits.{Limits}
use Rattle.st_words.specs.declared.view.Cargo.{Cargo}
use Rattle.st_words.specs.declared.view.Slot.TheVariants as slots
use Rattle.st_words.specs.declared.view.View.{View}
use Rattle.st_words.specs.declared.words.Words.{Words}
use Rattle.st_words.specs.Encodings.{asking, answering_word, waiting, given, refused}
use Rattle.st_words.specs.Laws.{named, progress_of}
use Rattle.st_words.specs.Plain.{Cargoes, Exact, first_view, first_words, words_after}
use Rattle.st_words.specs.Steps.{Step, RequestLoad, RequestChange, MailLoad, MailStore, SlotTake, SlotPut, Answer, Done, Number, Took, Asks}
use Rattle.st_words.specs.Views as views
use Rattle.st_words.specs.Views.{Does, IsFree, view_after, no_cargo}
use Rattle.st_words.proofs.Lists.{contains_here}
use Rattle.st_words.proofs.Naming.{plain_asks, named_asks, size_laws}
use Rattle.st_steal.specs.declared.found.Mail.{Mail}
use Rattle.st_steal.specs.declared.found.Mail.TheVariants as mails
use Rattle.st_steal.specs.Words.{set_word, told_word, IsTried, IsMail}
use Rattle.st_steal.specs.Trying.{asked_of, answering_of, AskerHas, AnswererHas, has_chain, MailHas, waits_on, gives, carried, giving}

abbrev pub MayAsk : (Step → Answer → Type 0) → View → Step → Type 0
MayAsk says v s = Asks says IsFree Does (λ w t a. named (progress_of w) w t a) v s

-- the view behind a step
abbrev pub IsAfter : View → Step → Answer → View → Type 0
IsAfter v s a w = w ≡ named (progress_of v) v s a

-- the same of a worker that has come to have a chain to give
abbrev pub MayGive : (Step → Answer → Type 0) → View → Step → Type 0
MayGive says v s = Asks says IsFree Does (λ w t a. named (progress_of (giving w)) (giving w) t a) v s

abbrev word_in : Option ℕ → ℕ
word_in None = 0
word_in (Some n) = n

-- ---- a board that is opened

pub first_asker : (limits : Limits) (v : View) → v ≡ first_view limits 2 0 → AskerHas v false true false false
first_asker limits v e = record {
  number = ap (λ (x : View). x.number) e;
  workers = ap (λ (x : View). x.workers) e;
  asked = ap (λ (x : View). x.asked) e;
  mail = λ q. let m : v.mail ≡ 0 = ap (λ (x : View). x.mail) e in omega (arith, m);
  given = ap (λ (x : View). x.given) e;
  share = λ t. ap (λ (x : View). x.share) e;
}

pub first_answerer : (limits : Limits) (u : View) → u ≡ first_view limits 2 1 → AnswererHas u false false false false
first_answerer limits u e = record { number = ap (λ (x : View). x.number) e; workers = ap (λ (x : View). x.workers) e; answering = λ n. ap (λ (x : View). x.answering) e }

pub first_mail : (limits : Limits) (x : Words) → x ≡ first_words limits 2 → MailHas x false
unfolding first_words
first_mail limits x e = record {
  word = λ n is.
      let zeros : slice_get x.mail 0 ≡ Some 0 = ap (λ (y : Words). slice_get y.mail 0) e in
      let none : n ≡ 0 = ap word_in (sym is ∙ zeros) in
      omega (arith, none);
  slot = ap (λ (y : Words). has_chain (slice_get y.mail_slots 0)) e;
}

-- ---- the same by equal values

pub asker_is : (v : View) (asks quiet offered taken asks2 quiet2 offered2 taken2 : Bool) → asks ≡ asks2 → quiet ≡ quiet2 → offered ≡ offered2 → taken ≡ taken2 → AskerHas v asks quiet offered taken → AskerHas v asks2 quiet2 offered2 taken2
asker_is v asks quiet offered taken asks2 quiet2 offered2 taken2 a q g t has = record {
  number = has.number;
  workers = has.workers;
  asked = has.asked ∙ ap asked_of a;
  mail = λ e. has.mail (q ∙ e);
  given = has.given ∙ g;
  share = λ e. has.share (t ∙ e);
}

pub answerer_is : (u : View) (begun put told ended begun2 put2 told2 ended2 : Bool) → begun ≡ begun2 → put ≡ put2 → told ≡ told2 → ended ≡ ended2 → AnswererHas u begun put told ended → AnswererHas u begun2 put2 told2 ended2
answerer_is u begun put told ended begun2 put2 told2 ended2 b p t d has = record {
  number = has.number;
  workers = has.workers;
  answering = λ e. has.answering (d ∙ e) ∙ ap (λ x. answering_of x put told) b ∙ ap (λ x. answering_of begun2 x told) p ∙ ap (λ x. answering_of begun2 put2 x) t;
}

pub mail_is : (x : Words) (full full2 : Bool) → full ≡ full2 → MailHas x full → MailHas x full2
mail_is x full full2 e has = subst (MailHas x) e has

-- ---- that a step may be asked

pub asks_ask : (says : Step → Answer → Type 0) (v : View) (taken : Bool) → AskerHas v false true false taken → MayAsk says v (RequestChange 1 0 (asking 0))
asks_ask says v taken has =
    let n : v.number ≡ 0 = has.number in
    let m : v.workers ≡ 2 = has.workers in
    plain_asks says v (RequestChange 1 0 (asking 0)) (omega (arith, m), inl ((λ e. omega (arith, n, e)), has.asked, has.mail refl, has.given, refl, omega (arith, n)))

pub asks_withdraw : (says : Step → Answer → Type 0) (v : View) (quiet offered taken : Bool) → AskerHas v true quiet offered taken → MayAsk says v (RequestChange 1 (asking 0) 0)
asks_withdraw says v quiet offered taken has =
    let n : v.number ≡ 0 = has.number in
    let m : v.workers ≡ 2 = has.workers in
    plain_asks says v (RequestChange 1 (asking 0) 0) (omega (arith, m), inr (inr (inr (has.asked, omega (arith, n), refl))))

set_bound : (b : Bool) → set_word b ≤ waiting
set_bound true = omega arith
set_bound false = omega arith

pub asks_set : (says : Step → Answer → Type 0) (v : View) (quiet taken b : Bool) → AskerHas v false quiet false taken → MayAsk says v (MailStore 0 (set_word b))
asks_set says v quiet taken b has =
    let m : v.workers ≡ 2 = has.workers in
    plain_asks says v (MailStore 0 (set_word b)) (omega (arith, m), inl (sym has.number, has.asked, has.given, set_bound b))

pub asks_mail : (says : Step → Answer → Type 0) (v : View) → MayAsk says v MailLoad
asks_mail says v = plain_asks says v MailLoad tt

pub asks_take : (says : Step → Answer → Type 0) (v : View) (asks quiet : Bool) → AskerHas v asks quiet true false → MayAsk says v (SlotTake (slots.Mail 0))
asks_take says v asks quiet has =
    let m : v.workers ≡ 2 = has.workers in
    let s : v.share ≡ 0 = has.share refl in
    plain_asks says v (SlotTake (slots.Mail 0)) (omega (arith, m), (sym has.number, has.given), omega (arith, s))

pub asks_asked : (says : Step → Answer → Type 0) (u : View) (begun put told ended : Bool) → AnswererHas u begun put told ended → MayAsk says u (RequestLoad 1)
asks_asked says u begun put told ended has = let m : u.workers ≡ 2 = has.workers in plain_asks says u (RequestLoad 1) (omega (arith, m))

pub asks_begin : (says : Step → Answer → Type 0) (u : View) (put told : Bool) → AnswererHas u false put told false → MayAsk says u (RequestChange 1 (asking 0) answering_word)
asks_begin says u put told has =
    let n : u.number ≡ 1 = has.number in
    let m : u.workers ≡ 2 = has.workers in
    plain_asks says u (RequestChange 1 (asking 0) answering_word) (omega (arith, m), inr (inl (sym n, has.answering refl, (0, omega (arith, m), (λ e. omega (arith, n, e)), refl), refl)))

pub asks_put : (says : Step → Answer → Type 0) (u : View) (chain : Chain) → chain.cell ≡ 7 → AnswererHas u true false false false → MayGive says u (SlotPut (slots.Mail 0) chain no_cargo)
asks_put says u chain cell has =
    let n : u.number ≡ 1 = has.number in
    let m : u.workers ≡ 2 = has.workers in
    named_asks says u (giving u) (λ t a. progress_of (giving u)) (SlotPut (slots.Mail 0) chain no_cargo) (record { progress = progress_of (giving u); child = u.child; chains = (giving u).chains; exported = u.exported }, refl)
    (omega (arith, m), ((carried, contains_here carried [], sym cell), (λ e. omega (arith, n, e)), (record { asker = 0; put = false; told = false }, has.answering refl, refl, refl, refl)), omega arith, omega arith)

pub asks_tell : (says : Step → Answer → Type 0) (u : View) (put : Bool) → AnswererHas u true put false false → MayAsk says u (MailStore 0 (told_word put))
asks_tell says u true has = let m : u.workers ≡ 2 = has.workers in plain_asks says u (MailStore 0 given) (omega (arith, m), inr (record { asker = 0; put = true; told = false }, has.answering refl, refl, refl, inl (refl, refl)))
asks_tell says u false has = let m : u.workers ≡ 2 = has.workers in plain_asks says u (MailStore 0 refused) (omega (arith, m), inr (record { asker = 0; put = false; told = false }, has.answering refl, refl, refl, inr (refl, refl)))

pub asks_clear : (says : Step → Answer → Type 0) (u : View) (put : Bool) → AnswererHas u true put true false → MayAsk says u (RequestChange 1 answering_word 0)
asks_clear says u put has =
    let m : u.workers ≡ 2 = has.workers in
    plain_asks says u (RequestChange 1 answering_word 0) (omega (arith, m), inr (inr (inl (sym has.number, (record { asker = 0; put = put; told = true }, has.answering refl, refl), refl, refl))))

-- ---- what a change of a request word leaves

-- the parts of a view that it doesn't touch
abbrev pub SameRest : View → View → Type 0
SameRest v w = (w.mail ≡ v.mail) × (w.given ≡ v.given) × (w.share ≡ v.share)

same_by : (own : Bool) (at old new : ℕ) (v : View) → SameRest v (views.request_by own at old new v)
same_by true at old zero v = (refl, refl, refl)
same_by true at old (suc new) v = (refl, refl, refl)
same_by false at old zero v = (refl, refl, refl)
same_by false at old (suc new) v = (refl, refl, refl)

same_requested : (found : Bool) (at old new : ℕ) (v : View) → SameRest v (views.requested found at old new v)
same_requested true at old new v = same_by (at == v.number) at old new v
same_requested false at old new v = (refl, refl, refl)

same_rest : (at old new n : ℕ) (v w : View) → IsAfter v (RequestChange at old new) (Number n) w → SameRest v w
unfolding view_after
same_rest at old new n v w after =
    let same = same_requested (n == old) at old new v in
    (ap (λ (x : View). x.mail) after ∙ same.0, ap (λ (x : View). x.given) after ∙ same.1, ap (λ (x : View). x.share) after ∙ same.2)

-- another worker's word, where it was found
other_found : (at old new n : ℕ) (v w : View) → IsAfter v (RequestChange at old new) (Number n) w → n ≡ old → at ≢ v.number → w.asked ≡ (views.other_request at new v).asked
unfolding view_after
other_found at old new n v w after e d =
    ap (λ (x : View). x.asked) after ∙ ap (λ (b : Bool). (views.requested b at old new v).asked) (eq-eqb n old e) ∙ ap (λ (b : Bool). (views.request_by b at old new v).asked) (ne_eqb at v.number d)

-- the own word
own_found : (at old new n : ℕ) (v w : View) → IsAfter v (RequestChange at old new) (Number n) w → n ≡ old → at ≡ v.number → w.answering ≡ (views.own_request old new v).answering
unfolding view_after
own_found at old new n v w after e d =
    ap (λ (x : View). x.answering) after ∙ ap (λ (b : Bool). (views.requested b at old new v).answering) (eq-eqb n old e) ∙ ap (λ (b : Bool). (views.request_by b at old new v).answering) (eq-eqb at v.number d)

-- where another word was found nothing changes
not_found : (at old new n : ℕ) (v w : View) → IsAfter v (RequestChange at old new) (Number n) w → n ≢ old → (w.asked ≡ v.asked) × (w.answering ≡ v.answering)
unfolding view_after
not_found at old new n v w after d =
    let no : (n == old) ≡ false = ne_eqb n old d in
    (ap (λ (x : View). x.asked) after ∙ ap (λ (b : Bool). (views.requested b at old new v).asked) no, ap (λ (x : View). x.answering) after ∙ ap (λ (b : Bool). (views.requested b at old new v).answering) no)

-- ---- numbers, which no step changes

number_kept : (v w : View) (s : Step) (a : Answer) → IsAfter v s a w → w.number ≡ v.number
number_kept v w s a after = ap (λ (x : View). x.number) after ∙ size_laws.number v s a

workers_kept : (v w : View) (s : Step) (a : Answer) → IsAfter v s a w → w.workers ≡ v.workers
workers_kept v w s a after = ap (λ (x : View). x.workers) after ∙ size_laws.workers v s a

-- ---- worker 0 then

requested_has : (v w : View) (asks now quiet offered taken : Bool) (old new n : ℕ) → AskerHas v asks quiet offered taken → IsAfter v (RequestChange 1 old new) (Number n) w → w.asked ≡ asked_of now → AskerHas w now quiet offered taken
requested_has v w asks now quiet offered taken old new n has after asked =
    let same = same_rest 1 old new n v w after in
    let m : w.mail ≡ v.mail = same.0 in
    record {
      number = number_kept v w (RequestChange 1 old new) (Number n) after ∙ has.number;
      workers = workers_kept v w (RequestChange 1 old new) (Number n) after ∙ has.workers;
      asked = asked;
      mail = λ q. let l : v.mail ≤ waiting = has.mail q in omega (arith, l, m);
      given = same.1 ∙ has.given;
      share = λ t. same.2 ∙ has.share t;
    }

pub ask_has : (v w : View) (taken : Bool) (n : ℕ) (r : Result Prim.Unit Again) → AskerHas v false true false taken → IsTried 0 n r → IsAfter v (RequestChange 1 0 (asking 0)) (Number n) w → AskerHas w (is_ok r) true false taken
ask_has v w taken n (Ok done) has found after = requested_has v w false true true false taken 0 (asking 0) n has after (let d : v.number ≡ 0 = has.number in other_found 1 0 (asking 0) n v w after found (λ e. omega (arith, d, e)))
ask_has v w taken n (Err again) has found after = requested_has v w false false true false taken 0 (asking 0) n has after ((not_found 1 0 (asking 0) n v w after found.0).0 ∙ has.asked)

pub withdraw_has : (v w : View) (quiet offered taken : Bool) (n : ℕ) (r : Result Prim.Unit Again) → AskerHas v true quiet offered taken → IsTried (asking 0) n r → IsAfter v (RequestChange 1 (asking 0) 0) (Number n) w → AskerHas w (is_err r) quiet offered taken
withdraw_has v w quiet offered taken n (Ok done) has found after = requested_has v w true false quiet offered taken (asking 0) 0 n has after (let d : v.number ≡ 0 = has.number in other_found 1 (asking 0) 0 n v w after found (λ e. omega (arith, d, e)))
withdraw_has v w quiet offered taken n (Err again) has found after = requested_has v w true true quiet offered taken (asking 0) 0 n has after ((not_found 1 (asking 0) 0 n v w after found.0).0 ∙ has.asked)

pub set_has : (v w : View) (quiet taken b : Bool) → AskerHas v false quiet false taken → IsAfter v (MailStore 0 (set_word b)) Done w → AskerHas w false true false taken
unfolding view_after
set_has v w quiet taken b has after =
    let own : (0 == v.number) ≡ true = eq-eqb 0 v.number (sym has.number) in
    let m : w.mail ≡ set_word b = ap (λ (x : View). x.mail) after ∙ ap (λ (t : Bool). (views.mail_sent t (set_word b) v).mail) own in
    let l : set_word b ≤ waiting = set_bound b in
    record {
      number = number_kept v w (MailStore 0 (set_word b)) Done after ∙ has.number;
      workers = workers_kept v w (MailStore 0 (set_word b)) Done after ∙ has.workers;
      asked = ap (λ (x : View). x.asked) after ∙ ap (λ (t : Bool). (views.mail_sent t (set_word b) v).asked) own ∙ has.asked;
      mail = λ q. omega (arith, l, m);
      given = ap (λ (x : View). x.given) after ∙ ap (λ (t : Bool). (views.mail_sent t (set_word b) v).given) own ∙ has.given;
      share = λ t. ap (λ (x : View). x.share) after ∙ ap (λ (o : Bool). (views.mail_sent o (set_word b) v).share) own ∙ has.share t;
    }

-- whether what is read answers a request that stands
abbrev answers : Option ℕ → ℕ → Bool
answers asked n = is_some asked && ((n == given) || (n == refused))

answers_by : (v : View) (n k : ℕ) → v.asked ≡ Some 1 → n ≡ k → answers v.asked n ≡ answers (Some 1) k
answers_by v n k asked same = ap (λ (o : Option ℕ). answers o n) asked ∙ ap (λ (m : ℕ). answers (Some 1) m) same

read_nothing : (v w : View) (quiet taken : Bool) (n : ℕ) → AskerHas v true quiet false taken → answers v.asked n ≡ false → n ≤ waiting → IsAfter v MailLoad (Number n) w → AskerHas w true true false taken
unfolding view_after
read_nothing v w quiet taken n has silent l after =
    let m : w.mail ≡ n = ap (λ (x : View). x.mail) after ∙ ap (λ (t : Bool). (views.mail_when t n v).mail) silent in
    record {
      number = number_kept v w MailLoad (Number n) after ∙ has.number;
      workers = workers_kept v w MailLoad (Number n) after ∙ has.workers;
      asked = ap (λ (x : View). x.asked) after ∙ ap (λ (t : Bool). (views.mail_when t n v).asked) silent ∙ has.asked;
      mail = λ q. omega (arith, l, m);
      given = ap (λ (x : View). x.given) after ∙ ap (λ (t : Bool). (views.mail_when t n v).given) silent ∙ has.given;
      share = λ t. ap (λ (x : View). x.share) after ∙ ap (λ (o : Bool). (views.mail_when o n v).share) silent ∙ has.share t;
    }

read_answer : (v w : View) (quiet taken chain : Bool) (n : ℕ) → AskerHas v true quiet false taken → answers v.asked n ≡ true → (n == given) ≡ chain → IsAfter v MailLoad (Number n) w → AskerHas w false false chain taken
unfolding view_after
read_answer v w quiet taken chain n has told is after = record {
  number = number_kept v w MailLoad (Number n) after ∙ has.number;
  workers = workers_kept v w MailLoad (Number n) after ∙ has.workers;
  asked = ap (λ (x : View). x.asked) after ∙ ap (λ (t : Bool). (views.mail_when t n v).asked) told;
  mail = λ q. absurd (cc);
  given = ap (λ (x : View). x.given) after ∙ ap (λ (t : Bool). (views.mail_when t n v).given) told ∙ is;
  share = λ t. ap (λ (x : View). x.share) after ∙ ap (λ (o : Bool). (views.mail_when o n v).share) told ∙ has.share t;
}

pub mail_has : (v w : View) (quiet taken : Bool) (n : ℕ) (found : Mail) → AskerHas v true quiet false taken → n ≤ refused → IsMail n found → IsAfter v MailLoad (Number n) w → AskerHas w (waits_on found) (waits_on found) (gives found) taken
mail_has v w quiet taken n mails.Nothing has most is after = read_nothing v w quiet taken n has (answers_by v n 0 has.asked is) (omega (arith, is)) after
mail_has v w quiet taken n mails.Waiting has most is after = read_nothing v w quiet taken n has (answers_by v n 1 has.asked is) (omega (arith, is)) after
mail_has v w quiet taken n mails.Given has most is after = read_answer v w quiet taken true n has (answers_by v n 2 has.asked is) (eq-eqb n given is) after
mail_has v w quiet taken n mails.Refused has most is after =
    let a : n ≢ 0 = is.0 in
    let b : n ≢ 1 = is.1.0 in
    let c : n ≢ 2 = is.1.1 in
    let three : n ≡ 3 = omega (arith, most, a, b, c) in
    read_answer v w quiet taken false n has (answers_by v n 3 has.asked three) (ne_eqb n given c) after

pub take_has : (v w : View) (asks quiet : Bool) (chain : Chain) (cargo : Cargo) → AskerHas v asks quiet true false → IsAfter v (SlotTake (slots.Mail 0)) (Took (Some chain) cargo) w → AskerHas w asks quiet false true
unfolding view_after
take_has v w asks quiet chain cargo has after =
    let m : w.mail ≡ v.mail = ap (λ (x : View). x.mail) after in
    record {
      number = ap (λ (x : View). x.number) after ∙ has.number;
      workers = ap (λ (x : View). x.workers) after ∙ has.workers;
      asked = ap (λ (x : View). x.asked) after ∙ has.asked;
      mail = λ q. let l : v.mail ≤ waiting = has.mail q in omega (arith, l, m);
      given = ap (λ (x : View). x.given) after;
      share = λ t. absurd (cc);
    }

-- ---- worker 1 then

pub asked_has : (u w : View) (begun put told ended : Bool) (n : ℕ) → AnswererHas u begun put told ended → IsAfter u (RequestLoad 1) (Number n) w → AnswererHas w begun put told ended
unfolding view_after
asked_has u w begun put told ended n has after = record {
  number = ap (λ (x : View). x.number) after ∙ has.number;
  workers = ap (λ (x : View). x.workers) after ∙ has.workers;
  answering = λ e. ap (λ (x : View). x.answering) after ∙ has.answering e;
}

-- by a change of its own request word
changed_has : (u w : View) (was put told begun : Bool) (old new n : ℕ) → AnswererHas u was put told false → IsAfter u (RequestChange 1 old new) (Number n) w → w.answering ≡ answering_of begun false false → AnswererHas w begun false false false
changed_has u w was put told begun old new n has after answering = record {
  number = number_kept u w (RequestChange 1 old new) (Number n) after ∙ has.number;
  workers = workers_kept u w (RequestChange 1 old new) (Number n) after ∙ has.workers;
  answering = λ e. answering;
}

pub begin_has : (u w : View) (put told : Bool) (n : ℕ) (r : Result Prim.Unit Again) → AnswererHas u false put told false → IsTried (asking 0) n r → IsAfter u (RequestChange 1 (asking 0) answering_word) (Number n) w → AnswererHas w (is_ok r) false false false
begin_has u w put told n (Ok done) has found after = changed_has u w false put told true (asking 0) answering_word n has after (own_found 1 (asking 0) answering_word n u w after found (sym has.number))
begin_has u w put told n (Err again) has found after = changed_has u w false put told false (asking 0) answering_word n has after ((not_found 1 (asking 0) answering_word n u w after found.0).1 ∙ has.answering refl)

pub put_has : (u w : View) (chain : Chain) → AnswererHas u true false false false → w ≡ named (progress_of (giving u)) (giving u) (SlotPut (slots.Mail 0) chain no_cargo) Done → AnswererHas w true true false false
unfolding view_after
put_has u w chain has after = record {
  number = ap (λ (x : View). x.number) after ∙ has.number;
  workers = ap (λ (x : View). x.workers) after ∙ has.workers;
  answering = λ e. ap (λ (x : View). x.answering) after ∙ ap views.put_into_mail (has.answering refl);
}

pub tell_has : (u w : View) (put : Bool) (n : ℕ) → AnswererHas u true put false false → IsAfter u (MailStore 0 n) Done w → AnswererHas w true put true false
unfolding view_after
tell_has u w put n has after =
    let one : u.number ≡ 1 = has.number in
    let other : (0 == u.number) ≡ false = ne_eqb 0 u.number (λ e. omega (arith, one, e)) in
    record {
      number = number_kept u w (MailStore 0 n) Done after ∙ has.number;
      workers = workers_kept u w (MailStore 0 n) Done after ∙ has.workers;
      answering = λ e. ap (λ (x : View). x.answering) after ∙ ap (λ (t : Bool). (views.mail_sent t n u).answering) other ∙ ap views.answered (has.answering refl);
    }

pub clear_has : (u w : View) (begun put told : Bool) (n : ℕ) → AnswererHas u begun put told false → IsAfter u (RequestChange 1 answering_word 0) (Number n) w → AnswererHas w false put told true
clear_has u w begun put told n has after = record {
  number = number_kept u w (RequestChange 1 answering_word 0) (Number n) after ∙ has.number;
  workers = workers_kept u w (RequestChange 1 answering_word 0) (Number n) after ∙ has.workers;
  answering = λ e. absurd (cc);
}

-- the view of the worker that doesn't make the step stays
pub asker_stays : (v w : View) (asks quiet offered taken : Bool) → w ≡ v → AskerHas v asks quiet offered taken → AskerHas w asks quiet offered taken
asker_stays v w asks quiet offered taken same has = subst (λ y. AskerHas y asks quiet offered taken) (sym same) has

pub answerer_stays : (u w : View) (begun put told ended : Bool) → w ≡ u → AnswererHas u begun put told ended → AnswererHas w begun put told ended
answerer_stays u w begun put told ended same has = subst (λ y. AnswererHas y begun put told ended) (sym same) has

-- ---- the mail of worker 0 then

mail_stays : (x y : Words) (full : Bool) → y.mail ≡ x.mail → y.mail_slots ≡ x.mail_slots → MailHas x full → MailHas y full
mail_stays x y full mail slots has = record {
  word = λ n is. has.word n (ap (λ (xs : List ℕ). slice_get xs 0) (sym mail) ∙ is);
  slot = ap (λ xs. has_chain (slice_get xs 0)) slots ∙ has.slot;
}

pub request_leaves : (x y : Words) (w at old new n : ℕ) (full : Bool) → y ≡ words_after x w (RequestChange at old new) (Number n) → MailHas x full → MailHas y full
unfolding words_after
request_leaves x y w at old new n full e has = mail_stays x y full (ap (λ (z : Words). z.mail) e) (ap (λ (z : Words). z.mail_slots) e) has

pub asked_leaves : (x y : Words) (w at n : ℕ) (full : Bool) → y ≡ words_after x w (RequestLoad at) (Number n) → MailHas x full → MailHas y full
unfolding words_after
asked_leaves x y w at n full e has = mail_stays x y full (ap (λ (z : Words). z.mail) e) (ap (λ (z : Words). z.mail_slots) e) has

pub mail_leaves : (x y : Words) (w n : ℕ) (full : Bool) → y ≡ words_after x w MailLoad (Number n) → MailHas x full → MailHas y full
unfolding words_after
mail_leaves x y w n full e has = mail_stays x y full (ap (λ (z : Words). z.mail) e) (ap (λ (z : Words). z.mail_slots) e) has

-- the first place has what was stored, where there is one
set_word_in : (xs : List ℕ) (m n : ℕ) → slice_get (slice_set xs 0 n) 0 ≡ Some m → m ≡ n
set_word_in [] m n e = absurd (let d : None ≡ Some m = e in cc)
set_word_in (x ∷ xs) m n e = ap word_in (sym e)

store_leaves : (x y : Words) (w n : ℕ) (full : Bool) → n ≤ refused → y ≡ words_after x w (MailStore 0 n) Done → MailHas x full → MailHas y full
unfolding words_after
store_leaves x y w n full l e has = record {
  word = λ m is.
      let same : m ≡ n = set_word_in x.mail m n (sym (ap (λ (z : Words). slice_get z.mail 0) e) ∙ is) in
      omega (arith, same, l);
  slot = ap (λ (z : Words). has_chain (slice_get z.mail_slots 0)) e ∙ has.slot;
}

pub set_leaves : (x y : Words) (w : ℕ) (b full : Bool) → y ≡ words_after x w (MailStore 0 (set_word b)) Done → MailHas x full → MailHas y full
set_leaves x y w b full e has = let l : set_word b ≤ waiting = set_bound b in store_leaves x y w (set_word b) full (omega (arith, l)) e has

told_bound : (b : Bool) → told_word b ≤ refused
told_bound true = omega arith
told_bound false = omega arith

pub tell_leaves : (x y : Words) (w : ℕ) (b full : Bool) → y ≡ words_after x w (MailStore 0 (told_word b)) Done → MailHas x full → MailHas y full
tell_leaves x y w b full e has = store_leaves x y w (told_word b) full (told_bound b) e has

slot_set : (xs : List (Option Chain)) (c : Option Chain) (full : Bool) → has_chain (slice_get xs 0) ≡ Some full → slice_get (slice_set xs 0 c) 0 ≡ Some c
slot_set [] c full e = absurd (let d : None ≡ Some full = e in cc)
slot_set (x ∷ xs) c full e = refl

pub put_leaves : (x y : Words) (w : ℕ) (chain : Chain) (cargo : Cargo) (full : Bool) → y ≡ words_after x w (SlotPut (slots.Mail 0) chain cargo) Done → MailHas x full → MailHas y true
unfolding words_after
put_leaves x y w chain cargo full e has = record {
  word = λ n is. has.word n (sym (ap (λ (z : Words). slice_get z.mail 0) e) ∙ is);
  slot = ap (λ (z : Words). has_chain (slice_get z.mail_slots 0)) e ∙ ap has_chain (slot_set x.mail_slots (Some chain) full has.slot);
}

pub take_leaves : (x y : Words) (w : ℕ) (a : Answer) (full : Bool) → y ≡ words_after x w (SlotTake (slots.Mail 0)) a → MailHas x full → MailHas y false
unfolding words_after
take_leaves x y w a full e has = record {
  word = λ n is. has.word n (sym (ap (λ (z : Words). slice_get z.mail 0) e) ∙ is);
  slot = ap (λ (z : Words). has_chain (slice_get z.mail_slots 0)) e ∙ ap has_chain (slot_set x.mail_slots None full has.slot);
}

-- the chain is there
pub is_there : (x : Words) (ls : Cargoes) → MailHas x true → (cargo : Cargo) → Exact x ls 0 (SlotTake (slots.Mail 0)) (Took None cargo) → ⊥
is_there x ls has cargo said = let e : Some true ≡ Some false = sym has.slot ∙ ap has_chain said.0 in cc
