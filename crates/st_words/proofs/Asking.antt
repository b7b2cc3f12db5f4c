-- A worker asks another for a thread, and is asked. Each step is safe, by what the steps before it left and what their answers promise. The last steps
-- are those of a limit.
use Rattle.std.proofs.Common.{◌≡◌, ◌≢◌, ◌⊎◌, inl, inr, ⊎_elim, ℕ, zero, suc, ◌+◌, ◌*◌, ◌-◌, ◌/◌, ◌%◌, ◌^◌, ◌≤◌, ◌<◌, Bool, true, false, cond, not, ◌&&◌, ◌||◌, ◌==◌, List, [], ◌∷◌, ◌++◌, map, length, Option, Some, None, is_some, refl, sym, ap, ◌∙◌, subst, arith, eq-eqb, ne_eqb}
use Rattle.std.specs.List.{Contains}
use Rattle.st_base.specs.declared.chain.Chain.{Chain}
use Rattle.st_base.specs.declared.chain.Frame.{Frame}
use Rattle.st_words.specs.declared.view.Slot.TheVariants as slots
use Rattle.st_words.specs.declared.view.Known.{Known}
use Rattle.st_words.specs.declared.view.Carried.{Carried}
use Rattle.st_words.specs.declared.view.Cargo.{Cargo}
use Rattle.st_words.specs.declared.view.Waiter.{Waiter}
use Rattle.st_words.specs.declared.view.Answering.{Answering}
use Rattle.st_words.specs.declared.view.View.{View}
use Rattle.st_words.specs.Encodings.{running, asking, answering_word, given, refused, cell_code}
use Rattle.st_words.specs.Steps.{RequestLoad, RequestChange, MailLoad, MailStore, SlotPut, StopSet, Done, Number, HasChain, HasInHand, Can}
use Rattle.st_words.specs.Views.{view_after, answered, put_into_mail, requested, request_by, own_request, other_request, mail_sent, mail_when, mail_read}
use Rattle.st_words.specs.Laws.{HasFrames, cargo_of, putting}
use Rattle.st_words.specs.Promises.{Promises, RequestIs}
use Rattle.st_words.specs.Careful.{Meaning, CanSpare}
use Rattle.st_words.proofs.Lists.{contains_here, contains_none}
use Rattle.st_words.proofs.Carrying.{cargo_laws}
use Rattle.st_words.specs.Safely.{Safe, AskingLaws}
use Rattle.st_words.proofs.Safe.{put, request, mail, stop}

module _ (m : Meaning) (u : View) where
  -- ---- who asks: waiting, then the request

  pub set_safe : (n : ℕ) → u.number < u.workers → u.asked ≡ None → u.given ≡ false → n ≤ 1 → Safe m u (MailStore u.number n)
  set_safe n below none not few = mail m u u.number n below (inl (refl, none, not, few))

  pub ask_safe : (at : ℕ) → at < u.workers → at ≢ u.number → u.asked ≡ None → u.mail ≤ 1 → u.given ≡ false → Safe m u (RequestChange at 0 (u.number + 1))
  ask_safe at below other none few not = request m u at 0 (u.number + 1) below (inl (other, none, few, not, refl, refl))

  pub withdraw_safe : (at : ℕ) → at < u.workers → u.asked ≡ Some at → Safe m u (RequestChange at (u.number + 1) 0)
  withdraw_safe at below asked = request m u at (u.number + 1) 0 below (inr (inr (inr (asked, refl, refl))))

  -- ---- who answers: begin, put, tell, end

  pub begin_safe : (asker : ℕ) → u.number < u.workers → u.answering ≡ None → asker < u.workers → asker ≢ u.number → Safe m u (RequestChange u.number (asker + 1) 32)
  begin_safe asker below none few other = request m u u.number (asker + 1) 32 below (inr (inl (refl, none, (asker, few, other, refl), refl)))

  -- a chain that goes on is put into the asker's mail
  pub give_safe : (x : Carried) (chain : Chain) (fs : List Frame) (a : Answering) → HasFrames u chain x fs → m.walks (cargo_of u x fs 1) chain → x.standing ≡ Some running → CanSpare u u.hand → 1 ≤ u.share → u.answering ≡ Some a → a.asker < u.workers → a.asker ≢ u.number → a.put ≡ false → a.told ≡ false →
      Safe m u (SlotPut (slots.Mail a.asker) chain (cargo_of u x fs 1))
  give_safe x chain fs a has walks stands spare some answers below other not_put not_told =
      let cell : x.known.note.cell ≡ chain.cell = ap (λ k. k.cell) has.note ∙ has.cell in
      put m u (slots.Mail a.asker) chain (cargo_of u x fs 1) (below, ((x, has.carried, cell), other, (a, answers, refl, not_put, not_told)), omega arith, some)
      (record { carries = cargo_laws.may_carry u chain x fs 1 has; unit = refl; walks = walks; shows = (stands, spare) })

  pub tell_given_safe : (a : Answering) → a.asker < u.workers → u.answering ≡ Some a → a.told ≡ false → a.put ≡ true → Safe m u (MailStore a.asker 2)
  tell_given_safe a below answers not_told was_put = mail m u a.asker 2 below (inr (a, answers, refl, not_told, inl (was_put, refl)))

  pub tell_refused_safe : (a : Answering) → a.asker < u.workers → u.answering ≡ Some a → a.told ≡ false → a.put ≡ false → Safe m u (MailStore a.asker 3)
  tell_refused_safe a below answers not_told not_put = mail m u a.asker 3 below (inr (a, answers, refl, not_told, inr (not_put, refl)))

  pub clear_safe : (a : Answering) → u.number < u.workers → u.answering ≡ Some a → a.told ≡ true → Safe m u (RequestChange u.number 32 0)
  clear_safe a below answers told = request m u u.number 32 0 below (inr (inr (inl (refl, (a, answers, told), refl, refl))))

  -- ---- limits

  pub stop_safe : (code : ℕ) → Can u (StopSet code) → m.meets u code → Safe m u (StopSet code)
  stop_safe code can meets = stop m u code can (inl meets)

  pub cells_safe : (n : ℕ) → u.drawn ≡ n ∷ [] → u.cells ≤ n → Safe m u (StopSet (cell_code u.number))
  cells_safe n drawn full = stop m u (cell_code u.number) (inr (inl refl)) (inr (refl, (n, subst (λ (xs : List ℕ). Contains xs n) (sym drawn) (contains_here n []), full)))

-- ---- what the view after has

-- the own request word that was read, where no request is answered: nothing, or another worker
pub asked_by : (u : View) (n : ℕ) → Promises u (RequestLoad u.number) (Number n) → u.answering ≡ None → (n ≡ 0) ⊎ ((asker : ℕ) × (asker < u.workers) × (asker ≢ u.number) × (n ≡ asking asker))
asked_by u n told none = ⊎_elim (λ e. inl e) (λ r. ⊎_elim (λ e. absurd (told.still refl none e)) (λ k. inr k) r) told.one

requested_is : (u : View) (at old new : ℕ) → view_after u (RequestChange at old new) (Number old) ≡ request_by (at == u.number) at old new u
unfolding view_after
requested_is u at old new = ap (λ (b : Bool). requested b at old new u) (eq-eqb old old refl)

pub asked_after : (u : View) (at : ℕ) → at ≢ u.number → (view_after u (RequestChange at 0 (u.number + 1)) (Number 0)).asked ≡ Some at
asked_after u at other =
    let s : u.number + 1 ≡ suc u.number = omega arith in
    ap (λ (v : View). v.asked) (requested_is u at 0 (u.number + 1)) ∙ ap (λ (b : Bool). (request_by b at 0 (u.number + 1) u).asked) (ne_eqb at u.number other) ∙ ap (λ (k : ℕ). (other_request at k u).asked) s

pub withdrawn_after : (u : View) (at : ℕ) → at ≢ u.number → (view_after u (RequestChange at (u.number + 1) 0) (Number (u.number + 1))).asked ≡ None
withdrawn_after u at other =
    ap (λ (v : View). v.asked) (requested_is u at (u.number + 1) 0) ∙ ap (λ (b : Bool). (request_by b at (u.number + 1) 0 u).asked) (ne_eqb at u.number other)

pub begun_after : (u : View) (asker : ℕ) → (view_after u (RequestChange u.number (asker + 1) 32) (Number (asker + 1))).answering ≡ Some (record { asker = asker; put = false; told = false })
begun_after u asker =
    let e : asker + 1 - 1 ≡ asker = omega arith in
    ap (λ (v : View). v.answering) (requested_is u u.number (asker + 1) 32) ∙ ap (λ (b : Bool). (request_by b u.number (asker + 1) 32 u).answering) (eq-eqb u.number u.number refl) ∙ ap (λ (k : ℕ). Some (record { asker = k; put = false; told = false })) e

pub put_after : (u : View) (at : ℕ) (chain : Chain) (cargo : Cargo) (a : Answering) → u.answering ≡ Some a → (putting u (slots.Mail at) chain cargo).answering ≡ Some (record a { put = true })
unfolding view_after
put_after u at chain cargo a e = ap put_into_mail e

pub told_after : (u : View) (n : ℕ) (a : Answering) → u.answering ≡ Some a → a.asker ≢ u.number → (view_after u (MailStore a.asker n) Done).answering ≡ Some (record a { told = true })
unfolding view_after
told_after u n a e other = ap (λ (b : Bool). (mail_sent b n u).answering) (ne_eqb a.asker u.number other) ∙ ap answered e

pub cleared_after : (u : View) → (view_after u (RequestChange u.number 32 0) (Number 32)).answering ≡ None
cleared_after u = ap (λ (v : View). v.answering) (requested_is u u.number 32 0) ∙ ap (λ (b : Bool). (request_by b u.number 32 0 u).answering) (eq-eqb u.number u.number refl)

-- given or refused was read where a request stands
pub given_after : (u : View) (at : ℕ) → u.asked ≡ Some at → let v = view_after u MailLoad (Number 2) in (v.given ≡ true) × (v.asked ≡ None)
unfolding view_after
given_after u at e = (ap (λ (o : Option ℕ). (mail_when (is_some o && ((2 == given) || (2 == refused))) 2 u).given) e, ap (λ (o : Option ℕ). (mail_when (is_some o && ((2 == given) || (2 == refused))) 2 u).asked) e)

pub refused_after : (u : View) (at : ℕ) → u.asked ≡ Some at → let v = view_after u MailLoad (Number 3) in (v.given ≡ false) × (v.asked ≡ None)
unfolding view_after
refused_after u at e = (ap (λ (o : Option ℕ). (mail_when (is_some o && ((3 == given) || (3 == refused))) 3 u).given) e, ap (λ (o : Option ℕ). (mail_when (is_some o && ((3 == given) || (3 == refused))) 3 u).asked) e)

pub asking_laws : (m : Meaning) → AskingLaws m
asking_laws m = record {
  set_safe = set_safe m;
  ask_safe = ask_safe m;
  withdraw_safe = withdraw_safe m;
  begin_safe = begin_safe m;
  give_safe = give_safe m;
  tell_given_safe = tell_given_safe m;
  tell_refused_safe = tell_refused_safe m;
  clear_safe = clear_safe m;
  stop_safe = stop_safe m;
  cells_safe = cells_safe m;
  asked_by = asked_by;
  asked_after = asked_after;
  withdrawn_after = withdrawn_after;
  begun_after = begun_after;
  put_after = put_after;
  told_after = told_after;
  cleared_after = cleared_after;
  given_after = given_after;
  refused_after = refused_after;
}
