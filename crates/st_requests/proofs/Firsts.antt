-- A board that is opened has no request and empty mail slots: first_requests.
use Rattle.std.proofs.Common.{◌≡◌, inl, ℕ, ◌≤◌, false, length, Option, None, refl, sym, ◌∙◌, ap, subst, arith}
use Rattle.st_base.specs.declared.limits.Limits.{Limits}
use Rattle.st_words.specs.declared.view.Answering.{Answering}
use Rattle.st_words.specs.declared.view.View.{View}
use Rattle.st_words.specs.Plain.{view_at, first_views, first_words}
use Rattle.st_words.proofs.Opening.{first_view_at, first_views_count}
use Rattle.st_world.specs.OfPlain.{reading, reading_slot}
use Rattle.st_world.proofs.Opened.{alike, view_part}
use Rattle.st_requests.specs.Mailing.{Still, AnswerOk, asks, answers, letters, gifts}
use Rattle.st_requests.specs.Laws.{First}

module _ (limits : Limits) (n : ℕ) where
  request_word : (v : ℕ) → reading (first_words limits n).requests v ≡ 0
  unfolding first_words
  request_word v = alike n v 0

  mail_word : (a : ℕ) → reading (first_words limits n).mail a ≡ 0
  unfolding first_words
  mail_word a = alike n a 0

  empty_slot : (a : ℕ) → reading_slot (first_words limits n).mail_slots a ≡ None
  unfolding first_words
  empty_slot a = alike n a None

  letter : (a : ℕ) → (view_at (first_views limits n) a).mail ≡ 0
  letter = view_part limits n (λ v. v.mail) 0 (λ w. refl) refl

pub first_requests : First
first_requests limits n thread few =
    let vs = first_views limits n in
    let count : length vs ≡ n = first_views_count limits n vs refl in
    let words = first_words limits n in
    record {
      phase = λ a. Still;
      few = (let l : length vs ≤ 31 = omega arith in l);
      numbered = λ w l. (ap (λ (v : View). v.number) (first_view_at limits n w (omega arith)), ap (λ (v : View). v.workers) (first_view_at limits n w (omega arith)) ∙ sym count);
      mailing = record {
        each = λ a.
            let small : reading words.mail a ≡ 0 = mail_word limits n a in (
              view_part limits n (λ v. v.asked) None (λ w. refl) refl a,
              view_part limits n (λ v. v.given) false (λ w. refl) refl a,
              small ∙ sym (letter limits n a),
              (let l : reading words.mail a ≤ 3 = omega arith in l),
              empty_slot limits n a,
            );
        answers = λ v. subst (λ (o : Option Answering). AnswerOk (length vs) (reading words.requests) (reading words.mail) (reading_slot words.mail_slots) (asks (view_at vs)) (answers (view_at vs)) (letters (view_at vs)) (gifts (view_at vs)) (λ a. Still) v o) (sym (view_part limits n (λ v. v.answering) None (λ w. refl) refl v)) (inl (request_word limits n v));
      };
    }
