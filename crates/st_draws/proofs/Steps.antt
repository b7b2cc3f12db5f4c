-- Each careful step keeps the drawn numbers: careful_kept. What a worker does between its steps: move_laws.
use Rattle.std.proofs.Common.{◌≡◌, ◌≢◌, ⊎_elim, ℕ, ◌+◌, ◌*◌, ◌^◌, ◌<◌, Bool, true, false, [], ◌∷◌, refl, sym, ap, ◌∙◌, subst, arith, ◌==◌, ◌&&◌, mod-eq_of_lt}
use Rattle.std.specs.List.{Contains}
use Rattle.st_words.specs.declared.view.CellWord.{CellWord}
use Rattle.st_words.specs.declared.view.CellWord.TheVariants.{Owner, State, Value, Next, Standing, Trap}
use Rattle.st_words.specs.declared.view.Slot.TheVariants.{Cell, Mail}
use Rattle.st_words.specs.declared.view.View.{View}
use Rattle.st_words.specs.Encodings.{ready}
use Rattle.st_words.specs.Steps.{Step, StackStore, Mark, CellStore, CellChange, Draw, ActiveAdd, StopSet, RootTake, RequestChange, MailStore, OutStore, SlotTake, SlotPut, Answer, Done, Number, Looked, Took, Can, IsOwner}
use Rattle.st_words.specs.Views.{Progress, with_progress, view_after, Does, in_hand}
use Rattle.st_words.specs.Plain.{one_more}
use Rattle.st_words.specs.Careful.{Meaning, Careful}
use Rattle.st_words.proofs.Naming.{size_laws}
use Rattle.st_words.proofs.Safe.{drawn_named}
use Rattle.st_world.specs.Functions.{put}
use Rattle.st_world.specs.World.{World, seen, with_word, waking, woken, put_if, Finds, changed, world_after}
use Rattle.st_world.proofs.Functions.{put_all}
use Rattle.st_draws.specs.Drawing.{Draws}
use Rattle.st_draws.specs.Laws.{IsKnown, MoveLaws}
use Rattle.st_draws.proofs.Drawings as drawings
use Rattle.st_draws.proofs.ViewsAfter.{IsQuiet, same_after}

-- ---- steps that draw no number and name no cell

still : (x : World) (w : ℕ) (v : View) → Draws x → v.drawn ≡ (x.view w).drawn → v.cells ≡ (x.view w).cells → Draws (seen w v x)
still x w v D e s = drawings.stays x.workers x.cells x.drawn x.owner x.state x.view D w v e s

quiet_waking : (x : World) (w : ℕ) (v : View) (b : Bool) (c : ℕ) → Draws (seen w v x) → Draws (seen w v (waking b c x))
quiet_waking x w v true c D = D
quiet_waking x w v false c D = D

quiet_stored : (x : World) (w : ℕ) (v u : View) (c : ℕ) (word : CellWord) (n : ℕ) → IsQuiet (CellStore c word n) → Can u (CellStore c word n) → Draws (seen w v x) → Draws (seen w v (woken u c word n (with_word c word n x)))
quiet_stored x w v u c Owner n q can D = absurd q
quiet_stored x w v u c State n q can D = absurd can.1
quiet_stored x w v u c Value n q can D = D
quiet_stored x w v u c Next n q can D = D
quiet_stored x w v u c Standing n q can D = quiet_waking (with_word c Standing n x) w v ((n == ready) && in_hand c u.hand) c D
quiet_stored x w v u c Trap n q can D = D

-- a State word of a named cell is changed
quiet_changed : (x : World) (w : ℕ) (v : View) (b : Bool) (c new : ℕ) → x.owner c ≢ 0 → Draws (seen w v x) → Draws (seen w v (record x { state = put_if b x.state c new }))
quiet_changed x w v true c new some D = drawings.with_states x.workers x.cells x.drawn x.owner x.state (put x.view w v) D (put x.state c new)
    (λ d. put_all (λ (k : ℕ) (n : ℕ). x.owner k ≡ 0 → n ≡ 0) x.state c new d (λ (e : d ≡ c) z. absurd (some (ap x.owner (sym e) ∙ z))) (λ (o : d ≢ c) z. D.unnamed d z))
quiet_changed x w v false c new some D = D

quiet_world : (x : World) (w : ℕ) (v : View) (s : Step) (a : Answer) → IsQuiet s → Can (x.view w) s → IsKnown x (x.view w) s → Draws (seen w v x) → Draws (seen w v (changed x w s a))
quiet_world x w v Draw a q can known D = absurd q
quiet_world x w v (CellStore c word n) a q can known D = quiet_stored x w v (x.view w) c word n q can D
quiet_world x w v (CellChange c old new) (Number n) q can known D = quiet_changed x w v (n == old) c new known D
quiet_world x w v (StackStore p n) a q can known D = D
quiet_world x w v (Mark p) a q can known D = D
quiet_world x w v (ActiveAdd up) a q can known D = D
quiet_world x w v (StopSet code) (Number n) q can known D = D
quiet_world x w v RootTake a q can known D = D
quiet_world x w v (RequestChange at old new) (Number n) q can known D = D
quiet_world x w v (MailStore at n) a q can known D = D
quiet_world x w v (OutStore i n) a q can known D = D
quiet_world x w v (SlotTake (Cell c)) a q can known D = D
quiet_world x w v (SlotTake (Mail at)) a q can known D = D
quiet_world x w v (SlotPut (Cell c) chain cargo) a q can known D = D
quiet_world x w v (SlotPut (Mail at) chain cargo) a q can known D = D
quiet_world x w v s a q can known D = D

quiet_kept : (x : World) (w : ℕ) (s : Step) (a : Answer) (pr : Progress) → IsQuiet s → Draws x → Can (x.view w) s → IsKnown x (x.view w) s → Draws (world_after x w s a (with_progress pr (view_after (x.view w) s a)))
quiet_kept x w s a pr q D can known =
    let v : View = with_progress pr (view_after (x.view w) s a) in
    quiet_world x w v s a q can known (still x w v D (same_after (x.view w) s a q) (size_laws.cells (x.view w) s a))

-- ---- a number is drawn, and a cell is named

pub one_more_is : (x : World) → Draws x → one_more x.drawn ≡ x.drawn + 1
one_more_is x D = let l = drawings.small x.workers x.cells x.drawn x.owner x.state x.view D in mod-eq_of_lt (omega (arith, l))

drawn_kept : (x : World) (w n : ℕ) (pr : Progress) → Draws x → w < x.workers → (x.view w).drawn ≡ [] → n ≡ x.drawn → Draws (world_after x w Draw (Number n) (with_progress pr (view_after (x.view w) Draw (Number n))))
unfolding view_after
drawn_kept x w n pr D l empty f =
    let v : View = with_progress pr (record (x.view w) { drawn = n ∷ (x.view w).drawn }) in
    subst (λ (k : ℕ). Draws (seen w v (record x { drawn = k }))) (sym (one_more_is x D))
    (drawings.draws x.workers x.cells x.drawn x.owner x.state x.view D w l v refl empty (λ i. f i ∷ empty i))

some_owner : (cells n : ℕ) → IsOwner cells n → n ≢ 0
some_owner cells n h z = ⊎_elim (λ (e : n ≡ 1 + 2 * h.0 + 2 ^ 18 * h.1). omega (arith, e, z)) (λ (e : n ≡ 2 + 2 * h.0 + 2 ^ 18 * h.1). omega (arith, e, z)) h.4

named_kept : (x : World) (w c n : ℕ) (pr : Progress) → Draws x → w < x.workers → Can (x.view w) (CellStore c Owner n) → Draws (world_after x w (CellStore c Owner n) Done (with_progress pr (view_after (x.view w) (CellStore c Owner n) Done)))
named_kept x w c n pr D l can =
    let u : View = x.view w in
    let at : Contains u.drawn c = can.1.0 in
    let v : View = with_progress pr (view_after u (CellStore c Owner n) Done) in
    drawings.names x.workers x.cells x.drawn x.owner x.state x.view D w l v (size_laws.cells u (CellStore c Owner n) Done) c n (subst (λ (k : ℕ). c < k) (D.sized w l) can.0) (some_owner u.cells n can.1.1) at
    (drawn_named u c n (drawings.single x.workers x.cells x.drawn x.owner x.state x.view D w c at))

-- ---- each kind of step

answered : (m : Meaning) (x : World) (w : ℕ) (s : Step) (a : Answer) (pr : Progress) → Draws x → w < x.workers → Can (x.view w) s → Careful m (x.view w) s → IsKnown x (x.view w) s → Finds x w s a → Draws (world_after x w s a (with_progress pr (view_after (x.view w) s a)))
answered m x w Draw (Number n) pr D l can careful known f = drawn_kept x w n pr D l careful.draws.0 f
answered m x w Draw Done pr D l can careful known f = absurd f
answered m x w Draw (Looked n cargo) pr D l can careful known f = absurd f
answered m x w Draw (Took chain cargo) pr D l can careful known f = absurd f
answered m x w (CellStore c Owner n) Done pr D l can careful known f = named_kept x w c n pr D l can
answered m x w (CellStore c Owner n) (Number k) pr D l can careful known f = absurd f
answered m x w (CellStore c Owner n) (Looked k cargo) pr D l can careful known f = absurd f
answered m x w (CellStore c Owner n) (Took chain cargo) pr D l can careful known f = absurd f
answered m x w (CellStore c State n) a pr D l can careful known f = quiet_kept x w (CellStore c State n) a pr tt D can known
answered m x w (CellStore c Value n) a pr D l can careful known f = quiet_kept x w (CellStore c Value n) a pr tt D can known
answered m x w (CellStore c Next n) a pr D l can careful known f = quiet_kept x w (CellStore c Next n) a pr tt D can known
answered m x w (CellStore c Standing n) a pr D l can careful known f = quiet_kept x w (CellStore c Standing n) a pr tt D can known
answered m x w (CellStore c Trap n) a pr D l can careful known f = quiet_kept x w (CellStore c Trap n) a pr tt D can known
answered m x w s a pr D l can careful known f = quiet_kept x w s a pr tt D can known

pub careful_kept : (m : Meaning) (x : World) (w : ℕ) (s : Step) (a : Answer) (v : View) → Draws x → w < x.workers → Can (x.view w) s → Careful m (x.view w) s → IsKnown x (x.view w) s → Finds x w s a → Does (x.view w) s a v → Draws (world_after x w s a v)
careful_kept m x w s a v D l can careful known f d = subst (λ (y : View). Draws (world_after x w s a y)) (sym d.1) (answered m x w s a d.0 D l can careful known f)

-- ---- what a worker does between its steps

pub move_laws : MoveLaws
move_laws = record {
  progresses = λ x w progress D. still x w _ D refl refl;
  suspends = λ x w t rest wait D. still x w _ D refl refl;
  gives = λ x w t above D. still x w _ D refl refl;
  restarts = λ x w carried D. still x w _ D refl refl;
  begins = λ x w child parent rest D. still x w _ D refl refl;
  exports = λ x w f D. still x w _ D refl refl;
}
