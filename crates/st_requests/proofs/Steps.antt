-- Each kind of step keeps the requests: step_kept. stays is for all that changes nothing that they read.
use Rattle.std.proofs.Common.{◌≡◌, ◌≢◌, inl, inr, ℕ, suc, ◌-◌, ◌≤◌, ◌<◌, Bool, true, false, ◌||◌, Option, Some, None, refl, sym, ap, ◌∙◌, subst, arith, ◌==◌, ◌&&◌, eq-eqb, ne_eqb, is_some}
use mathlib.Core.Logic.{dite}
use native.Mathlib.Decide.{ℕ_discrete}
use Rattle.st_base.specs.declared.chain.Chain.{Chain}
use Rattle.st_words.specs.declared.view.CellWord.{CellWord}
use Rattle.st_words.specs.declared.view.CellWord.TheVariants.{Owner, State, Value, Next, Standing, Trap}
use Rattle.st_words.specs.declared.view.Slot.TheVariants.{Cell, Mail}
use Rattle.st_words.specs.declared.view.Answering.{Answering}
use Rattle.st_words.specs.declared.view.Cargo.{Cargo}
use Rattle.st_words.specs.declared.view.View.{View}
use Rattle.st_words.specs.Encodings.{asking, answering_word, waiting, given, refused, ready}
use Rattle.st_words.specs.Steps.{Step, StackStore, Mark, CellStore, CellChange, Draw, ActiveAdd, StopSet, RootTake, RequestChange, MailLoad, MailStore, OutStore, SlotTake, SlotPut, Answer, Done, Number, Looked, Took, Can, MayRequest, MayMail, MayTake, MayPut}
use Rattle.st_words.specs.Views.{Progress, with_progress, view_after, Does, requested, request_by, mail_when, mail_sent, answered, put_into_mail, slot_taken, no_cargo, in_hand}
use Rattle.st_words.proofs.Lists.{same_true}
use Rattle.st_words.proofs.Naming.{size_laws}
use Rattle.st_world.specs.Functions.{put}
use Rattle.st_world.specs.World.{World, seen, with_word, waking, woken, put_if, Finds, changed, world_after}
use Rattle.st_requests.specs.Mailing.{Phase, Still, Asks, Answers, Told, Given, told_word, PhaseOk, AnswerOk, Mailing, IsNumbered, Asking, Requests, asks, answers, letters, gifts}
use Rattle.st_requests.proofs.Functions.{put_here, put_other, part_eq, part_same}
use Rattle.st_requests.proofs.Mails as mails
use Rattle.st_requests.proofs.ViewsAfter.{SameParts, IsQuiet, same_after}

abbrev pub SameNumbers : View → View → Type 0
SameNumbers u v = (v.number ≡ u.number) × (v.workers ≡ u.workers)

pub numbers_after : (pr : Progress) (u : View) (s : Step) (a : Answer) → SameNumbers u (with_progress pr (view_after u s a))
numbers_after pr u s a = (size_laws.number u s a, size_laws.workers u s a)

module _ (workers : ℕ) (request mail : ℕ → ℕ) (post : ℕ → Option Chain) (view : ℕ → View) (G : Asking workers request mail post view) (w : ℕ) (v : View) where
  numbered : SameNumbers (view w) v → (u : ℕ) → u < workers → IsNumbered workers u (put view w v u)
  numbered s u l = dite (ℕ_discrete u w)
      (λ (e : u ≡ w). let h = G.numbered w (subst (λ (k : ℕ). k < workers) e l) in subst (λ (k : ℕ). IsNumbered workers k (put view w v k)) (sym e) (subst (λ (y : View). IsNumbered workers w y) (sym (put_here view w v)) (s.0 ∙ h.0, s.1 ∙ h.1)))
      (λ (n : u ≢ w). subst (λ (y : View). IsNumbered workers u y) (sym (put_other view w v u n)) (G.numbered u l))

  -- by the parts of the new views, as they are known
  pub rebuilt : (request' mail' : ℕ → ℕ) (post' : ℕ → Option Chain) (phase' : ℕ → Phase) (a : ℕ → Option ℕ) (b : ℕ → Option Answering) (c : ℕ → ℕ) (d : ℕ → Bool) → SameNumbers (view w) v → a ≡ asks (put view w v) → b ≡ answers (put view w v) → c ≡ letters (put view w v) → d ≡ gifts (put view w v) → Mailing workers request' mail' post' a b c d phase' → Asking workers request' mail' post' (put view w v)
  rebuilt request' mail' post' phase' a b c d s p q r t m = record {
    phase = phase';
    few = G.few;
    numbered = numbered s;
    mailing =
        subst (λ (x : ℕ → Bool). Mailing workers request' mail' post' (asks (put view w v)) (answers (put view w v)) (letters (put view w v)) x phase') t
        (subst (λ (x : ℕ → ℕ). Mailing workers request' mail' post' (asks (put view w v)) (answers (put view w v)) x d phase') r
        (subst (λ (x : ℕ → Option Answering). Mailing workers request' mail' post' (asks (put view w v)) x c d phase') q
        (subst (λ (x : ℕ → Option ℕ). Mailing workers request' mail' post' x b c d phase') p m)));
  }

  pub stays : SameNumbers (view w) v → SameParts (view w) v → Asking workers request mail post (put view w v)
  stays s p = rebuilt request mail post G.phase (asks view) (answers view) (letters view) (gifts view) s
      (part_same (λ (y : View). y.asked) view w v p.0) (part_same (λ (y : View). y.answering) view w v p.1) (part_same (λ (y : View). y.mail) view w v p.2) (part_same (λ (y : View). y.given) view w v p.3) G.mailing

-- ---- steps that change nothing that is read

abbrev pub SameWorld : World → World → Type 0
SameWorld x y = (y.workers ≡ x.workers) × (y.request ≡ x.request) × (y.mail ≡ x.mail) × (y.post ≡ x.post) × (y.view ≡ x.view)

pub quiet_world : (x y : World) (w : ℕ) (v : View) → SameWorld x y → Requests x → SameNumbers (x.view w) v → SameParts (x.view w) v → Requests (seen w v y)
quiet_world x y w v s G n p =
    subst (λ (k : ℕ). Asking k y.request y.mail y.post (put y.view w v)) (sym s.0)
    (subst (λ (f : ℕ → ℕ). Asking x.workers f y.mail y.post (put y.view w v)) (sym s.1)
    (subst (λ (f : ℕ → ℕ). Asking x.workers x.request f y.post (put y.view w v)) (sym s.2)
    (subst (λ (f : ℕ → Option Chain). Asking x.workers x.request x.mail f (put y.view w v)) (sym s.3)
    (subst (λ (f : ℕ → View). Asking x.workers x.request x.mail x.post (put f w v)) (sym s.4) (stays x.workers x.request x.mail x.post x.view G w v n p)))))

abbrev pub the_same : (x : World) → SameWorld x x
the_same x = (refl, refl, refl, refl, refl)

same_waking : (b : Bool) (c : ℕ) (x : World) → SameWorld x (waking b c x)
same_waking true c x = the_same x
same_waking false c x = the_same x

same_cell : (x : World) (u : View) (c : ℕ) (word : CellWord) (n : ℕ) → SameWorld x (woken u c word n (with_word c word n x))
same_cell x u c Owner n = the_same x
same_cell x u c State n = the_same x
same_cell x u c Value n = the_same x
same_cell x u c Next n = the_same x
same_cell x u c Standing n = same_waking ((n == ready) && in_hand c u.hand) c (with_word c Standing n x)
same_cell x u c Trap n = the_same x

same_world : (x : World) (w : ℕ) (s : Step) (a : Answer) → IsQuiet s → SameWorld x (changed x w s a)
same_world x w (RequestChange at old new) a q = absurd q
same_world x w MailLoad a q = absurd q
same_world x w (MailStore at n) a q = absurd q
same_world x w (SlotTake (Mail at)) a q = absurd q
same_world x w (SlotPut (Mail at) chain cargo) a q = absurd q
same_world x w (SlotTake (Cell c)) a q = the_same x
same_world x w (SlotPut (Cell c) chain cargo) a q = the_same x
same_world x w (StackStore p n) a q = the_same x
same_world x w (Mark p) a q = the_same x
same_world x w (CellStore c word n) a q = same_cell x (x.view w) c word n
same_world x w (CellChange c old new) (Number n) q = the_same x
same_world x w Draw a q = the_same x
same_world x w (ActiveAdd up) a q = the_same x
same_world x w (StopSet code) (Number n) q = the_same x
same_world x w RootTake a q = the_same x
same_world x w (OutStore i n) a q = the_same x
same_world x w _ a q = the_same x

pub quiet_kept : (x : World) (w : ℕ) (s : Step) (a : Answer) (v' : View) → IsQuiet s → Requests x → Does (x.view w) s a v' → Requests (world_after x w s a v')
quiet_kept x w s a v' q G d = subst (λ (v : View). Requests (world_after x w s a v)) (sym d.1) (quiet_world x (changed x w s a) w (with_progress d.0 (view_after (x.view w) s a)) (same_world x w s a q) G (numbers_after d.0 (x.view w) s a) (same_after (x.view w) s a q))

-- ---- requests

-- what the group is after a request word was changed
abbrev Requested : World → ℕ → Progress → ℕ → ℕ → ℕ → Bool → Type 0
Requested x w pr at old new b = Requests (seen w (with_progress pr (requested b at old new (x.view w))) (record x { request = put_if b x.request at new }))

module _ (x : World) (G : Requests x) (w : ℕ) (less : w < x.workers) (pr : Progress) where
  abbrev u : View
  u = x.view w

  abbrev number : u.number ≡ w
  number = (G.numbered w less).0

  asked_view : (at old k : ℕ) → at ≢ u.number → requested true at old (suc k) u ≡ record u { asked = Some at }
  asked_view at old k d = ap (λ (b : Bool). request_by b at old (suc k) u) (ne_eqb at u.number d)

  withdrawn_view : (at old : ℕ) → at ≢ u.number → requested true at old 0 u ≡ record u { asked = None }
  withdrawn_view at old d = ap (λ (b : Bool). request_by b at old 0 u) (ne_eqb at u.number d)

  begun_view : (at a : ℕ) → at ≡ u.number → requested true at (suc a) 32 u ≡ record u { answering = Some (record { asker = a; put = false; told = false }) }
  begun_view at a e = let k : suc a - 1 ≡ a = omega arith in ap (λ (b : Bool). request_by b at (suc a) 32 u) (eq-eqb at u.number e) ∙ ap (λ (j : ℕ). record u { answering = Some (record { asker = j; put = false; told = false }) }) k

  cleared_view : (at old : ℕ) → at ≡ u.number → requested true at old 0 u ≡ record u { answering = None }
  cleared_view at old e = ap (λ (b : Bool). request_by b at old 0 u) (eq-eqb at u.number e)

  ask : (at old new : ℕ) → at ≢ u.number → u.asked ≡ None → u.mail ≤ waiting → u.given ≡ false → new ≡ asking u.number → x.request at ≡ 0 → Requested x w pr at old new true
  ask at old new d n small g e z =
      let same : new ≡ suc w = let k = number in omega (arith, e, k) in
      let v : View = with_progress pr (record u { asked = Some at }) in
      subst (λ (k : ℕ). Requested x w pr at old k true) (sym same)
      (subst (λ (y : View). Requests (seen w (with_progress pr y) (record x { request = put x.request at (suc w) }))) (sym (asked_view at old w d))
      (rebuilt x.workers x.request x.mail x.post x.view G w v (put x.request at (suc w)) x.mail x.post (put G.phase w (Asks at)) (put (asks x.view) w (Some at)) (answers x.view) (letters x.view) (gifts x.view) (refl, refl)
      (part_eq (λ (y : View). y.asked) x.view w v) (part_same (λ (y : View). y.answering) x.view w v refl) (part_same (λ (y : View). y.mail) x.view w v refl) (part_same (λ (y : View). y.given) x.view w v refl)
      (mails.ask x.workers G.few x.request x.mail x.post (asks x.view) (answers x.view) (letters x.view) (gifts x.view) G.phase G.mailing w at less (λ q. d (sym q ∙ sym number)) n g small z)))

  begin : (at old new a : ℕ) → at ≡ u.number → a < x.workers → old ≡ asking a → new ≡ answering_word → x.request at ≡ old → Requested x w pr at old new true
  begin at old new a e below o k f =
      let there : at ≡ w = e ∙ number in
      let past : old ≡ suc a = omega (arith, o) in
      let v : View = with_progress pr (record u { answering = Some (record { asker = a; put = false; told = false }) }) in
      subst (λ (k : ℕ). Requested x w pr at old k true) (sym k)
      (subst (λ (i : ℕ). Requested x w pr at i 32 true) (sym past)
      (subst (λ (y : View). Requests (seen w (with_progress pr y) (record x { request = put x.request at 32 }))) (sym (begun_view at a e))
      (subst (λ (i : ℕ). Requests (seen w v (record x { request = put x.request i 32 }))) (sym there)
      (rebuilt x.workers x.request x.mail x.post x.view G w v (put x.request w 32) x.mail x.post (put G.phase a (Answers w false)) (asks x.view) (put (answers x.view) w (Some (record { asker = a; put = false; told = false }))) (letters x.view) (gifts x.view) (refl, refl)
      (part_same (λ (y : View). y.asked) x.view w v refl) (part_eq (λ (y : View). y.answering) x.view w v) (part_same (λ (y : View). y.mail) x.view w v refl) (part_same (λ (y : View). y.given) x.view w v refl)
      (mails.begin x.workers G.few x.request x.mail x.post (asks x.view) (answers x.view) (letters x.view) (gifts x.view) G.phase G.mailing w a below (ap x.request (sym there) ∙ (f ∙ past)))))))

  clear : (at old new : ℕ) (y : Answering) → at ≡ u.number → u.answering ≡ Some y → y.told ≡ true → new ≡ 0 → Requested x w pr at old new true
  clear at old new y e is told k =
      let there : at ≡ w = e ∙ number in
      let v : View = with_progress pr (record u { answering = None }) in
      subst (λ (k : ℕ). Requested x w pr at old k true) (sym k)
      (subst (λ (y : View). Requests (seen w (with_progress pr y) (record x { request = put x.request at 0 }))) (sym (cleared_view at old e))
      (subst (λ (i : ℕ). Requests (seen w v (record x { request = put x.request i 0 }))) (sym there)
      (rebuilt x.workers x.request x.mail x.post x.view G w v (put x.request w 0) x.mail x.post G.phase (asks x.view) (put (answers x.view) w None) (letters x.view) (gifts x.view) (refl, refl)
      (part_same (λ (y : View). y.asked) x.view w v refl) (part_eq (λ (y : View). y.answering) x.view w v) (part_same (λ (y : View). y.mail) x.view w v refl) (part_same (λ (y : View). y.given) x.view w v refl)
      (mails.clear x.workers G.few x.request x.mail x.post (asks x.view) (answers x.view) (letters x.view) (gifts x.view) G.phase G.mailing w y is told))))

  -- a request that is found is unanswered, and stands at another worker
  stands_elsewhere : (at : ℕ) → x.request at ≡ suc w → w ≢ at
  stands_elsewhere at f =
      let r = mails.asker_of x.workers G.few x.request x.mail x.post (asks x.view) (answers x.view) (letters x.view) (gifts x.view) G.phase at w (answers x.view at) (G.mailing.answers at) f less in
      (subst (PhaseOk x.workers x.request x.mail x.post (asks x.view) (answers x.view) (letters x.view) (gifts x.view) w) r.1 (G.mailing.each w)).7

  withdraw : (at old new : ℕ) → old ≡ asking u.number → new ≡ 0 → x.request at ≡ old → Requested x w pr at old new true
  withdraw at old new o k f =
      let found : x.request at ≡ suc w = let q = number in omega (arith, o, q, f) in
      let other : at ≢ u.number = λ e. stands_elsewhere at found (sym (e ∙ number)) in
      let v : View = with_progress pr (record u { asked = None }) in
      subst (λ (k : ℕ). Requested x w pr at old k true) (sym k)
      (subst (λ (y : View). Requests (seen w (with_progress pr y) (record x { request = put x.request at 0 }))) (sym (withdrawn_view at old other))
      (rebuilt x.workers x.request x.mail x.post x.view G w v (put x.request at 0) x.mail x.post (put G.phase w Still) (put (asks x.view) w None) (answers x.view) (letters x.view) (gifts x.view) (refl, refl)
      (part_eq (λ (y : View). y.asked) x.view w v) (part_same (λ (y : View). y.answering) x.view w v refl) (part_same (λ (y : View). y.mail) x.view w v refl) (part_same (λ (y : View). y.given) x.view w v refl)
      (mails.withdraw x.workers G.few x.request x.mail x.post (asks x.view) (answers x.view) (letters x.view) (gifts x.view) G.phase G.mailing w at less found)))

  changes : (at old new : ℕ) → MayRequest u at old new → x.request at ≡ old → Requested x w pr at old new true
  changes at old new (inl h) f = ask at old new h.0 h.1 h.2 h.3 h.5 (f ∙ h.4)
  changes at old new (inr (inl h)) f = let y = h.2 in begin at old new y.0 h.0 (subst (λ (k : ℕ). y.0 < k) (G.numbered w less).1 y.1) y.3 h.3 f
  changes at old new (inr (inr (inl h))) f = let y = h.1 in clear at old new y.0 h.0 y.1 y.2 h.3
  changes at old new (inr (inr (inr h))) f = withdraw at old new h.1 h.2 f

  request_by_found : (at old new n : ℕ) (b : Bool) → (n == old) ≡ b → MayRequest u at old new → n ≡ x.request at → Requested x w pr at old new b
  request_by_found at old new n true e may f = changes at old new may (sym f ∙ same_true n old e)
  request_by_found at old new n false e may f = stays x.workers x.request x.mail x.post x.view G w (with_progress pr u) (refl, refl) (refl, refl, refl, refl)

  pub request_kept : (at old new n : ℕ) → MayRequest u at old new → n ≡ x.request at → Requests (world_after x w (RequestChange at old new) (Number n) (with_progress pr (view_after u (RequestChange at old new) (Number n))))
  unfolding view_after
  request_kept at old new n may f = request_by_found at old new n (n == old) refl may f

  -- ---- the own mail word is read

  same_letter : (n : ℕ) → n ≡ u.mail → Requests (seen w (with_progress pr (record u { mail = n })) x)
  same_letter n e = stays x.workers x.request x.mail x.post x.view G w (with_progress pr (record u { mail = n })) (refl, refl) (refl, refl, e, refl)

  unread : (p : Phase) → PhaseOk x.workers x.request x.mail x.post (asks x.view) (answers x.view) (letters x.view) (gifts x.view) w p → x.mail w ≢ 2 → x.mail w ≢ 3 → x.mail w ≡ u.mail
  unread Still h a b = h.2
  unread (Asks v) h a b = h.2
  unread (Answers v p) h a b = h.2
  unread (Told v true) h a b = absurd (a h.2)
  unread (Told v false) h a b = absurd (b h.2)
  unread Given h a b = absurd (a h.2)

  abbrev Read : ℕ → Option ℕ → Type 0
  Read n o = Requests (seen w (with_progress pr (mail_when (is_some o && ((n == given) || (n == refused))) n u)) x)

  read_given : (v : ℕ) → u.asked ≡ Some v → 2 ≡ x.mail w → Read 2 (Some v)
  read_given v e f =
      let y : View = with_progress pr (record u { mail = 2; asked = None; given = true }) in
      rebuilt x.workers x.request x.mail x.post x.view G w y x.request x.mail x.post (put G.phase w Given) (put (asks x.view) w None) (answers x.view) (put (letters x.view) w 2) (put (gifts x.view) w true) (refl, refl)
      (part_eq (λ (y : View). y.asked) x.view w y) (part_same (λ (y : View). y.answering) x.view w y refl) (part_eq (λ (y : View). y.mail) x.view w y) (part_eq (λ (y : View). y.given) x.view w y)
      (mails.read_given x.workers G.few x.request x.mail x.post (asks x.view) (answers x.view) (letters x.view) (gifts x.view) G.phase G.mailing w v e (sym f))

  read_refused : (v : ℕ) → u.asked ≡ Some v → 3 ≡ x.mail w → Read 3 (Some v)
  read_refused v e f =
      let y : View = with_progress pr (record u { mail = 3; asked = None; given = false }) in
      rebuilt x.workers x.request x.mail x.post x.view G w y x.request x.mail x.post (put G.phase w Still) (put (asks x.view) w None) (answers x.view) (put (letters x.view) w 3) (put (gifts x.view) w false) (refl, refl)
      (part_eq (λ (y : View). y.asked) x.view w y) (part_same (λ (y : View). y.answering) x.view w y refl) (part_eq (λ (y : View). y.mail) x.view w y) (part_eq (λ (y : View). y.given) x.view w y)
      (mails.read_refused x.workers G.few x.request x.mail x.post (asks x.view) (answers x.view) (letters x.view) (gifts x.view) G.phase G.mailing w v e (sym f))

  read_by : (n : ℕ) (o : Option ℕ) → u.asked ≡ o → n ≡ x.mail w → Read n o
  read_by n None e f = same_letter n (f ∙ (mails.mail_promised x.workers G.few x.request x.mail x.post (asks x.view) (answers x.view) (letters x.view) (gifts x.view) G.phase G.mailing w).1 e)
  read_by n (Some v) e f = dite (ℕ_discrete n 2)
      (λ (s : n ≡ 2). subst (λ (n : ℕ). Read n (Some v)) (sym s) (read_given v e (sym s ∙ f)))
      (λ (d : n ≢ 2). dite (ℕ_discrete n 3)
      (λ (s : n ≡ 3). subst (λ (n : ℕ). Read n (Some v)) (sym s) (read_refused v e (sym s ∙ f)))
      (λ (c : n ≢ 3). subst (λ (b : Bool). Requests (seen w (with_progress pr (mail_when b n u)) x)) (sym (ap (λ (b : Bool). b || (n == 3)) (ne_eqb n 2 d) ∙ ne_eqb n 3 c))
      (same_letter n (f ∙ unread (G.phase w) (G.mailing.each w) (λ t. d (f ∙ t)) (λ t. c (f ∙ t))))))

  pub letter_kept : (n : ℕ) → n ≡ x.mail w → Requests (world_after x w MailLoad (Number n) (with_progress pr (view_after u MailLoad (Number n))))
  unfolding view_after
  letter_kept n f = read_by n u.asked refl f

  -- ---- a mail word is stored

  set_own : (at n : ℕ) → at ≡ u.number → u.asked ≡ None → u.given ≡ false → n ≤ waiting → Requests (seen w (with_progress pr (mail_sent (at == u.number) n u)) (record x { mail = put x.mail at n }))
  set_own at n e a g small =
      let there : at ≡ w = e ∙ number in
      let v : View = with_progress pr (record u { mail = n }) in
      subst (λ (b : Bool). Requests (seen w (with_progress pr (mail_sent b n u)) (record x { mail = put x.mail at n }))) (sym (eq-eqb at u.number e))
      (subst (λ (i : ℕ). Requests (seen w v (record x { mail = put x.mail i n }))) (sym there)
      (rebuilt x.workers x.request x.mail x.post x.view G w v x.request (put x.mail w n) x.post (put G.phase w Still) (asks x.view) (answers x.view) (put (letters x.view) w n) (gifts x.view) (refl, refl)
      (part_same (λ (y : View). y.asked) x.view w v refl) (part_same (λ (y : View). y.answering) x.view w v refl) (part_eq (λ (y : View). y.mail) x.view w v) (part_same (λ (y : View). y.given) x.view w v refl)
      (mails.set_mail x.workers G.few x.request x.mail x.post (asks x.view) (answers x.view) (letters x.view) (gifts x.view) G.phase G.mailing w n a g small)))

  -- the worker that is answered is another one
  answers_other : (y : Answering) → u.answering ≡ Some y → y.asker ≢ w
  answers_other y e = (subst (AnswerOk x.workers x.request x.mail x.post (asks x.view) (answers x.view) (letters x.view) (gifts x.view) G.phase w) e (G.mailing.answers w)).3

  tell : (a n : ℕ) (p : Bool) → u.answering ≡ Some (record { asker = a; put = p; told = false }) → n ≡ told_word p → Requests (seen w (with_progress pr (mail_sent (a == u.number) n u)) (record x { mail = put x.mail a n }))
  tell a n p e k =
      let other : a ≢ u.number = λ q. answers_other (record { asker = a; put = p; told = false }) e (q ∙ number) in
      let v : View = with_progress pr (record u { answering = Some (record { asker = a; put = p; told = true }) }) in
      subst (λ (n : ℕ). Requests (seen w (with_progress pr (mail_sent (a == u.number) n u)) (record x { mail = put x.mail a n }))) (sym k)
      (subst (λ (b : Bool). Requests (seen w (with_progress pr (mail_sent b (told_word p) u)) (record x { mail = put x.mail a (told_word p) }))) (sym (ne_eqb a u.number other))
      (subst (λ (o : Option Answering). Requests (seen w (with_progress pr (record u { answering = answered o })) (record x { mail = put x.mail a (told_word p) }))) (sym e)
      (rebuilt x.workers x.request x.mail x.post x.view G w v x.request (put x.mail a (told_word p)) x.post (put G.phase a (Told w p)) (asks x.view) (put (answers x.view) w (Some (record { asker = a; put = p; told = true }))) (letters x.view) (gifts x.view) (refl, refl)
      (part_same (λ (y : View). y.asked) x.view w v refl) (part_eq (λ (y : View). y.answering) x.view w v) (part_same (λ (y : View). y.mail) x.view w v refl) (part_same (λ (y : View). y.given) x.view w v refl)
      (mails.tell x.workers G.few x.request x.mail x.post (asks x.view) (answers x.view) (letters x.view) (gifts x.view) G.phase G.mailing w a p e))))

  same_answer : (y : Answering) (a : ℕ) (p t : Bool) → y.asker ≡ a → y.put ≡ p → y.told ≡ t → y ≡ record { asker = a; put = p; told = t }
  same_answer y a p t d e f = λ i. record { asker = d i; put = e i; told = f i }

  pub mail_kept : (at n : ℕ) → MayMail u at n → Requests (world_after x w (MailStore at n) Done (with_progress pr (view_after u (MailStore at n) Done)))
  unfolding view_after
  mail_kept at n (inl h) = set_own at n h.0 h.1 h.2 h.3
  mail_kept at n (inr (y, is, asker, told, inl h)) = tell at n true (is ∙ ap Some (same_answer y at true false asker h.0 told)) h.1
  mail_kept at n (inr (y, is, asker, told, inr h)) = tell at n false (is ∙ ap Some (same_answer y at false false asker h.0 told)) h.1

  -- ---- mail slots

  -- the slot is filled that a worker may take from
  pub post_filled : (at : ℕ) → MayTake u (Mail at) → (chain : Chain) × (x.post at ≡ Some chain)
  post_filled at may = let t = (mails.take_mail x.workers G.few x.request x.mail x.post (asks x.view) (answers x.view) (letters x.view) (gifts x.view) G.phase G.mailing w may.1).0 in (t.0, ap x.post (may.0 ∙ number) ∙ t.1)

  taken : (at : ℕ) (cargo : Cargo) → MayTake u (Mail at) → Requests (seen w (with_progress pr (slot_taken (Mail at) cargo u)) (record x { post = put x.post at None; post_cargo = put x.post_cargo at no_cargo }))
  taken at cargo may =
      let there : at ≡ w = may.0 ∙ number in
      let v : View = with_progress pr (slot_taken (Mail at) cargo u) in
      subst (λ (i : ℕ). Asking x.workers x.request x.mail (put x.post i None) (put x.view w v)) (sym there)
      (rebuilt x.workers x.request x.mail x.post x.view G w v x.request x.mail (put x.post w None) (put G.phase w Still) (asks x.view) (answers x.view) (letters x.view) (put (gifts x.view) w false) (refl, refl)
      (part_same (λ (y : View). y.asked) x.view w v refl) (part_same (λ (y : View). y.answering) x.view w v refl) (part_same (λ (y : View). y.mail) x.view w v refl) (part_eq (λ (y : View). y.given) x.view w v)
      (mails.take_mail x.workers G.few x.request x.mail x.post (asks x.view) (answers x.view) (letters x.view) (gifts x.view) G.phase G.mailing w may.1).1)

  pub take_kept : (at : ℕ) (o : Option Chain) (cargo : Cargo) → MayTake u (Mail at) → o ≡ x.post at → Requests (world_after x w (SlotTake (Mail at)) (Took o cargo) (with_progress pr (view_after u (SlotTake (Mail at)) (Took o cargo))))
  unfolding view_after
  take_kept at None cargo may f = let t = post_filled at may in let s = t.1 in let no : ⊥ = cc in absurd no
  take_kept at (Some chain) cargo may f = taken at cargo may

  given_answer : (at : ℕ) (chain : Chain) → MayPut u (Mail at) chain → u.answering ≡ Some (record { asker = at; put = false; told = false })
  given_answer at chain may = let y = may.2 in y.1 ∙ ap Some (same_answer y.0 at false false y.2 y.3 y.4)

  -- the slot is empty that a worker may put into
  pub post_empty : (at : ℕ) (chain : Chain) → MayPut u (Mail at) chain → x.post at ≡ None
  post_empty at chain may = mails.post_empty x.workers G.few x.request x.mail x.post (asks x.view) (answers x.view) (letters x.view) (gifts x.view) G.phase G.mailing w at (given_answer at chain may)

  put_by : (at : ℕ) (chain : Chain) (cargo : Cargo) (y : View) → (y.asked ≡ u.asked) × (y.answering ≡ Some (record { asker = at; put = true; told = false })) × (y.mail ≡ u.mail) × (y.given ≡ u.given) → SameNumbers u y → u.answering ≡ Some (record { asker = at; put = false; told = false }) → Asking x.workers x.request x.mail (put x.post at (Some chain)) (put x.view w y)
  put_by at chain cargo y p s e = rebuilt x.workers x.request x.mail x.post x.view G w y x.request x.mail (put x.post at (Some chain)) (put G.phase at (Answers w true)) (asks x.view) (put (answers x.view) w (Some (record { asker = at; put = true; told = false }))) (letters x.view) (gifts x.view) s
      (part_same (λ (y : View). y.asked) x.view w y p.0)
      (ap (λ (o : Option Answering). put (answers x.view) w o) (sym p.1) ∙ part_eq (λ (y : View). y.answering) x.view w y)
      (part_same (λ (y : View). y.mail) x.view w y p.2) (part_same (λ (y : View). y.given) x.view w y p.3)
      (mails.put_mail x.workers G.few x.request x.mail x.post (asks x.view) (answers x.view) (letters x.view) (gifts x.view) G.phase G.mailing w at chain e)

  pub put_kept : (at : ℕ) (chain : Chain) (cargo : Cargo) → MayPut u (Mail at) chain → Requests (world_after x w (SlotPut (Mail at) chain cargo) Done (with_progress pr (view_after u (SlotPut (Mail at) chain cargo) Done)))
  unfolding view_after
  put_kept at chain cargo may = let e = given_answer at chain may in put_by at chain cargo (with_progress pr (view_after u (SlotPut (Mail at) chain cargo) Done)) (refl, ap put_into_mail e, refl, refl) (refl, refl) e

-- ---- each kind of step

pub step_kept : (x : World) (w : ℕ) (s : Step) (a : Answer) (v' : View) → Requests x → w < x.workers → Can (x.view w) s → Finds x w s a → Does (x.view w) s a v' → Requests (world_after x w s a v')
step_kept x w (RequestChange at old new) (Number n) v' G l can f d = subst (λ (v : View). Requests (world_after x w (RequestChange at old new) (Number n) v)) (sym d.1) (request_kept x G w l d.0 at old new n can.1 f)
step_kept x w MailLoad (Number n) v' G l can f d = subst (λ (v : View). Requests (world_after x w MailLoad (Number n) v)) (sym d.1) (letter_kept x G w l d.0 n f)
step_kept x w (MailStore at n) Done v' G l can f d = subst (λ (v : View). Requests (world_after x w (MailStore at n) Done v)) (sym d.1) (mail_kept x G w l d.0 at n can.1)
step_kept x w (SlotTake (Mail at)) (Took o cargo) v' G l can f d = subst (λ (v : View). Requests (world_after x w (SlotTake (Mail at)) (Took o cargo) v)) (sym d.1) (take_kept x G w l d.0 at o cargo can.1 f.0)
step_kept x w (SlotPut (Mail at) chain cargo) Done v' G l can f d = subst (λ (v : View). Requests (world_after x w (SlotPut (Mail at) chain cargo) Done v)) (sym d.1) (put_kept x G w l d.0 at chain cargo can.1)
step_kept x w (RequestChange at old new) Done v' G l can f d = absurd f
step_kept x w (RequestChange at old new) (Looked k c) v' G l can f d = absurd f
step_kept x w (RequestChange at old new) (Took k c) v' G l can f d = absurd f
step_kept x w MailLoad Done v' G l can f d = absurd f
step_kept x w MailLoad (Looked k c) v' G l can f d = absurd f
step_kept x w MailLoad (Took k c) v' G l can f d = absurd f
step_kept x w (MailStore at n) (Number k) v' G l can f d = absurd f
step_kept x w (MailStore at n) (Looked k c) v' G l can f d = absurd f
step_kept x w (MailStore at n) (Took k c) v' G l can f d = absurd f
step_kept x w (SlotTake (Mail at)) Done v' G l can f d = absurd f
step_kept x w (SlotTake (Mail at)) (Number k) v' G l can f d = absurd f
step_kept x w (SlotTake (Mail at)) (Looked k c) v' G l can f d = absurd f
step_kept x w (SlotPut (Mail at) chain cargo) (Number k) v' G l can f d = absurd f
step_kept x w (SlotPut (Mail at) chain cargo) (Looked k c) v' G l can f d = absurd f
step_kept x w (SlotPut (Mail at) chain cargo) (Took k c) v' G l can f d = absurd f
step_kept x w s a v' G l can f d = quiet_kept x w s a v' tt G d
