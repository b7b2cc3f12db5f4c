-- A worker with waiters in hand fits the view after each of its steps. Read step_fits (what a step off the stack leaves), behind_fits (the next waiter of a list comes, or what follows the call), and
-- then a lemma for each phase.
use Rattle.std.proofs.Common.{Bool, List, None, Option, Some, [], ap, arith, eq-eqb, false, if◌then◌else◌, inl, inr, not, refl, subst, sym, true, ℕ, ⊎_elim, ◌++◌, ◌+◌, ◌-◌, ◌<◌, ◌==◌, ◌∙◌, ◌∷◌, ◌≡◌, ◌≢◌, ◌≤◌, ◌⊎◌}
use Rattle.std.proofs.lemmas.Bool.{eqb-true}
use Rattle.std.specs.List.{Contains}
use Rattle.st_base.specs.declared.chain.Chain.{Chain}
use Rattle.st_base.specs.declared.chain.Note.{Note}
use Rattle.st_base.specs.declared.chain.Waiting.{Waiting}
use Rattle.st_base.specs.declared.image.Image.{Image}
use Rattle.st_base.specs.declared.limits.Limits.{Limits}
use Rattle.st_cargo.specs.Cargo.{goes_with}
use Rattle.st_chain.specs.Chains.{Walks}
use Rattle.st_chain.specs.Taking.{notes_of}
use Rattle.st_fits.specs.Bags.{Bag, HasBag, IsNamed, IsOfKind, LowersTo, RestIs, Settles, before_rest, common, common_by, leader, own_and, units}
use Rattle.st_fits.specs.Before.{after}
use Rattle.st_fits.specs.Fits.{ByPhase, FitsIn}
use Rattle.st_fits.specs.Laws.{IsReady}
use Rattle.st_fits.specs.Threads.{Carries, Rests}
use Rattle.st_kept.proofs.Chains.{put_rests, taken_carries, taken_rests}
use Rattle.st_kept.proofs.Stepping.{no_item_threads, numbers, untouched}
use Rattle.st_kept.specs.Keeping.{HasNoItem, IsOffStack, SameNumbers}
use Rattle.st_model.specs.Layout.{below}
use Rattle.st_model.specs.Memory.{Data}
use Rattle.st_model.specs.declared.program.Program.{Program}
use Rattle.st_phases.specs.Automaton.{round_or_poll, unit_or_poll, with_phase, with_ready}
use Rattle.st_phases.specs.Waking.{behind, cell_of, is_over, parked, parked_word, raised, readied, returned, settled}
use Rattle.st_phases.specs.declared.automaton.Automaton.{Automaton}
use Rattle.st_phases.specs.declared.phase.Phase.{Phase}
use Rattle.st_phases.specs.declared.phase.Rest.{Rest}
use Rattle.st_phases.specs.declared.phase.Settling.{Settling}
use Rattle.st_run.specs.Behind.{IsBehind}
use Rattle.st_run.specs.Meanings.{meaning}
use Rattle.st_seats.specs.Placing.{AreOnce}
use Rattle.st_wakes.proofs.Bags.{SameOwn, added_bag, first_below, first_in, first_there, leader_is, leads_at, linked_bag, linked_knows, linked_own, lowered_bag, next_bag, next_own, parked_bag, put_bag, put_own, read_at, readied_asked, readied_bag, readied_full, readied_ready, rest_is, taken_bag, taken_own, unit_own}
use Rattle.st_wakes.proofs.Parked.{over_again, parked_by, parks_again}
use Rattle.st_wakes.proofs.Seeing.{SeesOnly, bag_seen, can_park, can_park_still, kind_seen_now, may_park, named_same, named_walks, sees_owner, sees_state, state_over}
use Rattle.st_wakes.proofs.Turned.{IsOwn, IsReadyIn, Leaves, fits_turned, none_rests, polls_rests, ready_in, rests_turned, turned, words_held}
use Rattle.st_words.proofs.Ending.{next_few}
use Rattle.st_words.proofs.Lists.{contains_case, contains_here, contains_later, contains_none, filter_in, filter_out, other_true}
use Rattle.st_words.specs.Careful.{IsOver, ShowsPlace}
use Rattle.st_words.specs.Encodings.{head_in}
use Rattle.st_words.specs.Promises.{IsByHand, Promises, StateIs}
use Rattle.st_words.specs.Steps.{ActiveAdd, Answer, CellChange, CellLoad, CellStore, Done, IsWaiting, Number, SlotPut, SlotTake, Step, Took, some_thread}
use Rattle.st_words.specs.Tidy.{Tidy}
use Rattle.st_words.specs.Views.{followed}
use Rattle.st_words.specs.declared.view.Cargo.{Cargo}
use Rattle.st_words.specs.declared.view.Known.{Known}
use Rattle.st_words.specs.declared.view.View.{View}
use Rattle.st_words.specs.declared.view.Waiter.{Waiter}
use Rattle.st_base.specs.declared.chain.Waiting.TheVariants as waits
use Rattle.st_words.specs.declared.view.CellWord.TheVariants as words
use Rattle.st_words.specs.declared.view.Slot.TheVariants as slots
use Rattle.st_phases.specs.declared.phase.Phase.TheVariants as phases

-- ---- what is in the hand beside the waiter that is settled

abbrev pub bag_by : Option Rest → View → Bag
bag_by (Some rest) u = units 2
bag_by None u = own_and 1 u

abbrev pub hand_by : Option Rest → List Waiter
hand_by (Some rest) = leader rest
hand_by None = []

abbrev pub ListIs : Option Rest → View → Type 0
ListIs (Some rest) u = RestIs rest u
ListIs None u = Prim.Unit

-- with that waiter
abbrev pub settling_bag : Settling → Option ℕ → Option Rest → View → Bag
settling_bag s next rest u = record (bag_by rest u) { hand = read_at s.waiter (Some s.wait) next ∷ hand_by rest }

pub settles_bag : (s : Settling) (next : Option ℕ) (rest : Option Rest) (u : View) → Settles s next rest u → HasBag (settling_bag s next rest u) u × ListIs rest u
settles_bag s next (Some rest) u h = h
settles_bag s next None u h = (h, tt)

pub bag_settles : (s : Settling) (next : Option ℕ) (rest : Option Rest) (u v : View) → v.threads ≡ u.threads → HasBag (settling_bag s next rest u) v → ListIs rest v → Settles s next rest v
bag_settles s next (Some rest) u v same h list = (h, list)
bag_settles s next None u v same h list = subst (λ (ts : List Known). HasBag (record (units (some_thread ts + 1)) { hand = read_at s.waiter (Some s.wait) next ∷ [] }) v) (sym same) h

pub list_same : (rest : Option Rest) (u v : View) → v.cells ≡ u.cells → ((c : ℕ) → Contains u.full c → Contains v.full c) → ListIs rest u → ListIs rest v
list_same (Some rest) u v cells more h = rest_is rest rest.next u v cells more h.next h
list_same None u v cells more h = tt

pub settles_seen : (s : Settling) (next : Option ℕ) (rest : Option Rest) (u v : View) → SeesOnly u v → Settles s next rest u → Settles s next rest v
settles_seen s next rest u v sees h =
    let b = settles_bag s next rest u h in
    bag_settles s next rest u v sees.threads (bag_seen (settling_bag s next rest u) u v sees b.0) (list_same rest u v sees.cells sees.full b.1)

-- without it
abbrev pub lower_bag : Option Rest → View → Bag
lower_bag rest u = record (bag_by rest u) { hand = hand_by rest }

pub lowers_bag : (rest : Option Rest) (u : View) → LowersTo rest u → HasBag (lower_bag rest u) u × ListIs rest u
lowers_bag (Some rest) u h = h
lowers_bag None u h = (h, tt)

pub bag_lowers : (rest : Option Rest) (u v : View) → v.threads ≡ u.threads → HasBag (lower_bag rest u) v → ListIs rest v → LowersTo rest v
bag_lowers (Some rest) u v same h list = (h, list)
bag_lowers None u v same h list = subst (λ (ts : List Known). HasBag (units (some_thread ts + 1)) v) (sym same) h

-- and with a unit less
abbrev pub less_bag : Option Rest → View → Bag
less_bag rest u = record (lower_bag rest u) { share = (bag_by rest u).share - 1 }

-- ---- numbers

last_more : (ns : List ℕ) (c : ℕ) → Contains (ns ++ c ∷ []) c
last_more [] c = contains_here c []
last_more (n ∷ ns) c = contains_later c n (ns ++ c ∷ []) (last_more ns c)

early_more : (ns : List ℕ) (c q : ℕ) → Contains ns q → Contains (ns ++ c ∷ []) q
early_more [] c q is = absurd (contains_none q is)
early_more (n ∷ ns) c q is = ⊎_elim (λ (e : n ≡ q). subst (λ (z : ℕ). Contains (n ∷ (ns ++ c ∷ [])) z) e (contains_here n (ns ++ c ∷ []))) (λ more. contains_later q n (ns ++ c ∷ []) (early_more ns c q more)) (contains_case q n ns is)

in_more : (ns : List ℕ) (c q : ℕ) → Contains (ns ++ c ∷ []) q → Contains ns q ⊎ (q ≡ c)
in_more [] c q is = ⊎_elim (λ (e : c ≡ q). inr (sym e)) (λ none. absurd (contains_none q none)) (contains_case q c [] is)
in_more (n ∷ ns) c q is = ⊎_elim (λ (e : n ≡ q). inl (subst (λ (z : ℕ). Contains (n ∷ ns) z) e (contains_here n ns))) (λ more. ⊎_elim (λ early. inl (contains_later q n ns early)) (λ e. inr e) (in_more ns c q more)) (contains_case q n (ns ++ c ∷ []) is)

once_more : (ns : List ℕ) (c : ℕ) → AreOnce ns → (Contains ns c → ⊥) → AreOnce (ns ++ c ∷ [])
once_more [] c once other = (contains_none c, tt)
once_more (n ∷ ns) c once other =
    (λ is. ⊎_elim (λ early. once.0 early) (λ (e : n ≡ c). other (subst (λ (z : ℕ). Contains (n ∷ ns) z) e (contains_here n ns))) (in_more ns c n is), once_more ns c once.1 (λ is. other (contains_later c n ns is)))

-- ---- notes and threads

no_notes : (ts : List Known) → notes_of ts ≡ [] → ts ≡ []
no_notes [] e = refl
no_notes (t ∷ ts) e = absurd (some_note (notes_of ts) t.note e)
  where
    some_note : (ns : List Note) (n : Note) → ns ++ n ∷ [] ≡ [] → ⊥
    some_note [] n e' = let no : ⊥ = cc in no
    some_note (m ∷ ms) n e' = let no : ⊥ = cc in no

first_note : (n : Note) (ns : List Note) → n ∷ ns ≡ [] → ⊥
first_note n ns e = let no : ⊥ = cc in no

pub thread_one : (ts : List Known) → ts ≢ [] → some_thread ts ≡ 1
thread_one [] some = absurd (some refl)
thread_one (t ∷ ts) some = refl

pub thread_few : (ts : List Known) → some_thread ts ≤ 1
thread_few [] = omega arith
thread_few (t ∷ ts) = omega arith

-- ---- steps

module _ (p : Program) (d : Data) (limits : Limits) (image : Image) (input : List ℕ) (x : Automaton) (u : View) (ready : IsReady p d limits image input x u) where
  abbrev FitsNext : Phase → List ℕ → View → Type 0
  FitsNext phase ns v = FitsIn p d limits image input (turned phase ns x) v

  abbrev Own : Phase → Type 0
  Own phase = IsOwn p d limits image input x phase

  pub by_of : (phase : Phase) → x.phase ≡ phase → ByPhase p d limits phase x u
  by_of phase is = subst (λ (φ : Phase). ByPhase p d limits φ x u) is ready.fits.by

  pub ready_of : (was : Phase) → x.phase ≡ was → Own was → IsReadyIn x.ready.numbers u
  ready_of was is own = ready_in p d limits image input x u ready.fits.holds (subst Own (sym is) own)

  ready_same : (ns : List ℕ) (v : View) → v.ready ≡ u.ready → IsReadyIn ns u → IsReadyIn ns v
  ready_same ns v same h = record {
    once = h.once;
    ready = λ c is. subst (λ (rs : List ℕ). Contains rs c) (sym same) (h.ready c is);
    all_ready = λ c is. h.all_ready c (subst (λ (rs : List ℕ). Contains rs c) same is);
  }

  -- a step off the stack, with which no thread changes
  pub record Steps (was : Phase) (s : Step) (a : Answer) (ns : List ℕ) : Type 0 where
    pub is : x.phase ≡ was
    pub own : Own was
    pub off : IsOffStack s
    pub threads : (after p d u s a).threads ≡ u.threads
    pub asked : (after p d u s a).asked ≡ u.asked
    pub own_ready : IsReadyIn ns (after p d u s a)
    pub tells : IsBehind p d (after p d u s a)
    pub rests : Rests p d x u []

  pub step_fits : (was phase : Phase) (s : Step) (a : Answer) (ns : List ℕ) → Steps was s a ns → Own phase → (Rests p d (turned phase ns x) (after p d u s a) [] → ByPhase p d limits phase (turned phase ns x) (after p d u s a)) → FitsNext phase ns (after p d u s a)
  step_fits was phase s a ns k own by =
      fits_turned p d limits image input x phase ns u (after p d u s a)
      (record {
        is_for = ready.fits.is_for;
        held = ready.fits.holds;
        own = subst Own (sym k.is) k.own;
        same = numbers p d u s a;
        exported = (untouched p d u s a k.off).exported;
        threads = k.threads;
        asked = k.asked;
        ready = k.own_ready;
      }) own (by (rests_turned p d limits image input x phase ns u s a ready.fits.is_for k.off k.tells k.threads k.rests))

  -- ---- the next of the list, or what follows the call

  bag_units : (v : View) (b : Bag) (n : ℕ) → b.hand ≡ [] → b.share ≡ n → HasBag (record (units 0) { hand = b.hand; share = b.share }) v → HasBag (units n) v
  bag_units v b n hand share h = record { chains = h.chains; hand = h.hand ∙ hand; share = h.share ∙ share; drawn = h.drawn; child = h.child; answering = h.answering; given = h.given; root = h.root }

  module _ (was : Phase) (s : Step) (a : Answer) (ns : List ℕ) (k : Steps was s a ns) where
    now_empty : x.threads.notes ≡ [] → (after p d u s a).threads ≡ []
    now_empty e = k.threads ∙ no_notes u.threads (sym ready.fits.holds.notes ∙ e)

    now_some : (n : Note) (more : List Note) → x.threads.notes ≡ n ∷ more → (after p d u s a).threads ≢ []
    now_some n more e none = first_note n more (sym e ∙ ready.fits.holds.notes ∙ ap notes_of (sym k.threads ∙ none))

    settled_fits : HasBag (less_bag None u) (after p d u s a) → (notes : List Note) → x.threads.notes ≡ notes → FitsNext (round_or_poll notes) ns (after p d u s a)
    settled_fits bag [] e =
        let none = now_empty e in
        let share : some_thread u.threads + 1 - 1 ≡ 0 = ap (λ (ts : List Known). some_thread ts + 1 - 1) (sym k.threads ∙ none) in
        step_fits was phases.Settled s a ns k (record { taken = refl; most = λ n. refl; taking = refl }) (λ rests. (none_rests p d (turned phases.Settled ns x) (after p d u s a) [] none rests, bag_units (after p d u s a) (less_bag None u) 0 refl share bag))
    settled_fits bag (n ∷ more) e =
        let some = now_some n more e in
        let share : some_thread u.threads + 1 - 1 ≡ 1 = ap (λ (k : ℕ). k + 1 - 1) (ap some_thread (sym k.threads) ∙ thread_one (after p d u s a).threads some) in
        step_fits was phases.Polling s a ns k (record { taken = refl; most = λ n. refl; taking = refl }) (λ rests. (polls_rests p d (turned phases.Polling ns x) (after p d u s a) [] some rests, bag_units (after p d u s a) (less_bag None u) 1 refl share bag))

    unit_fits : (rest : Rest) → rest.next ≡ 0 → HasBag (less_bag (Some rest) u) (after p d u s a) → (notes : List Note) → x.threads.notes ≡ notes → FitsNext (unit_or_poll notes) ns (after p d u s a)
    unit_fits rest last bag [] e =
        let none = now_empty e in
        let empty : leader rest ≡ [] = ap (λ (n : ℕ). followed (common rest) n []) last in
        let share : 1 ≡ some_thread (after p d u s a).threads + 1 = ap (λ (ts : List Known). some_thread ts + 1) (sym none) in
        step_fits was (phases.Lowering None) s a ns k (record { taken = refl; most = λ n. refl; taking = refl }) (λ rests. (bag_units (after p d u s a) (less_bag (Some rest) u) (some_thread (after p d u s a).threads + 1) empty share bag, rests))
    unit_fits rest last bag (n ∷ more) e =
        let some = now_some n more e in
        let empty : leader rest ≡ [] = ap (λ (n : ℕ). followed (common rest) n []) last in
        step_fits was phases.Polling s a ns k (record { taken = refl; most = λ n. refl; taking = refl }) (λ rests. (polls_rests p d (turned phases.Polling ns x) (after p d u s a) [] some rests, bag_units (after p d u s a) (less_bag (Some rest) u) 1 empty refl bag))

    list_fits : (rest : Rest) → RestIs rest (after p d u s a) → HasBag (less_bag (Some rest) u) (after p d u s a) → (b : Bool) → (rest.next == 0) ≡ b → FitsNext (if b then unit_or_poll x.threads.notes else phases.Following rest) ns (after p d u s a)
    list_fits rest list bag true e = unit_fits rest (eqb-true rest.next 0 e) bag x.threads.notes refl
    list_fits rest list bag false e =
        step_fits was (phases.Following rest) s a ns k (record { taken = refl; most = λ n. refl; taking = refl }) (λ rests. (list, (λ z. let yes = eq-eqb rest.next 0 z in let no : ⊥ = cc in no), (rests, bag)))

    pub behind_fits : (rest : Option Rest) → ListIs rest (after p d u s a) → HasBag (less_bag rest u) (after p d u s a) → FitsIn p d limits image input (behind rest (with_ready ns x)) (after p d u s a)
    behind_fits (Some rest) list bag = list_fits rest list bag (rest.next == 0) refl
    behind_fits None list bag = settled_fits bag x.threads.notes refl

  -- a step with which no item goes, and no number becomes ready
  pub quiet : (was : Phase) (s : Step) (a : Answer) → x.phase ≡ was → Own was → HasNoItem s → IsOffStack s → SameOwn u (after p d u s a) → IsBehind p d (after p d u s a) → Rests p d x u [] → Steps was s a x.ready.numbers
  quiet was s a is own none off same tells rests = record {
    is = is;
    own = own;
    off = off;
    threads = no_item_threads p d u s a none;
    asked = same.asked;
    own_ready = ready_same x.ready.numbers (after p d u s a) same.ready (ready_of was is own);
    tells = tells;
    rests = rests;
  }

  -- ---- a Next word is read

  pub following_fits : (rest : Rest) (n : ℕ) → x.phase ≡ phases.Following rest → Promises u (CellLoad (rest.next - 1) words.Next) (Number n) → IsBehind p d (after p d u (CellLoad (rest.next - 1) words.Next) (Number n)) →
      FitsNext (phases.Raising (rest.next - 1) (record rest { next = n })) x.ready.numbers (after p d u (CellLoad (rest.next - 1) words.Next) (Number n))
  following_fits rest n is said tells =
      let b = by_of (phases.Following rest) is in
      let hand = b.2.1.hand ∙ leader_is (common rest) rest.next b.1 in
      let few = next_few u (rest.next - 1) n (leads_at (rest.next - 1) (common rest)) said (first_there u (leads_at (rest.next - 1) (common rest)) [] hand) refl refl in
      let s : Step = CellLoad (rest.next - 1) words.Next in
      let same = next_own p d u (rest.next - 1) n in
      step_fits (phases.Following rest) (phases.Raising (rest.next - 1) (record rest { next = n })) s (Number n) x.ready.numbers (quiet (phases.Following rest) s (Number n) is (record { taken = refl; most = λ n. refl; taking = refl }) tt tt same tells b.2.0)
      (record { taken = refl; most = λ n. refl; taking = refl }) (λ rests. (rest_is rest n u (after p d u s (Number n)) (untouched p d u s (Number n) tt).cells same.full few b.0, (rests, next_bag p d u rest n b.1 b.2.1)))

  -- ---- a unit is added: a counter's waiter is looked at, one of a future is ready

  abbrev touching : ℕ → Rest → Settling
  touching waiter rest = record { waiter = waiter; wait = waits.Touch rest.cell; seen = rest.word; rest = Some rest }

  module _ (waiter : ℕ) (rest : Rest) (n : ℕ) (is : x.phase ≡ phases.Raising waiter rest) where
    abbrev raised_view : View
    raised_view = after p d u (ActiveAdd true) (Number n)

    raised_bag : HasBag (record (units 2) { hand = before_rest waiter (common rest) None rest }) raised_view
    raised_bag = added_bag p d u (record (units 1) { hand = before_rest waiter (common rest) None rest }) n (by_of (phases.Raising waiter rest) is).1.1

    raised_list : RestIs rest raised_view
    raised_list =
        let list = (by_of (phases.Raising waiter rest) is).0 in
        rest_is rest rest.next u raised_view (untouched p d u (ActiveAdd true) (Number n) tt).cells (unit_own p d u true n).full list.next list

    raised_steps : IsBehind p d raised_view → Steps (phases.Raising waiter rest) (ActiveAdd true) (Number n) x.ready.numbers
    raised_steps tells = quiet (phases.Raising waiter rest) (ActiveAdd true) (Number n) is (record { taken = refl; most = λ n. refl; taking = refl }) tt tt (unit_own p d u true n) tells (by_of (phases.Raising waiter rest) is).1.0

    raised_by : IsBehind p d raised_view → (counter : Bool) → rest.counter ≡ counter → FitsNext (if counter then phases.Peeking waiter rest else phases.Readying (touching waiter rest)) x.ready.numbers raised_view
    raised_by tells true e =
        let none : common rest ≡ None = ap (λ (b : Bool). common_by b rest.cell) e in
        step_fits (phases.Raising waiter rest) (phases.Peeking waiter rest) (ActiveAdd true) (Number n) x.ready.numbers (raised_steps tells) (record { taken = refl; most = λ n. refl; taking = refl })
        (λ rests. (raised_list, e, (rests, subst (λ (w : Option Waiting). HasBag (record (units 2) { hand = before_rest waiter w None rest }) raised_view) none raised_bag)))
    raised_by tells false e =
        let some : common rest ≡ Some (waits.Touch rest.cell) = ap (λ (b : Bool). common_by b rest.cell) e in
        step_fits (phases.Raising waiter rest) (phases.Readying (touching waiter rest)) (ActiveAdd true) (Number n) x.ready.numbers (raised_steps tells) (record { taken = refl; most = λ n. refl; taking = refl })
        (λ rests. ((raised_list.full e).0, (None, (subst (λ (w : Option Waiting). HasBag (record (units 2) { hand = before_rest waiter w None rest }) raised_view) some raised_bag, raised_list)), rests))

  pub raising_fits : (waiter : ℕ) (rest : Rest) (n : ℕ) → x.phase ≡ phases.Raising waiter rest → IsBehind p d (after p d u (ActiveAdd true) (Number n)) → FitsIn p d limits image input (raised waiter rest x) (after p d u (ActiveAdd true) (Number n))
  raising_fits waiter rest n is tells = raised_by waiter rest n is tells rest.counter refl

  -- ---- the Owner of the cell of a wait is read

  pub owning_fits : (s : Settling) (n : ℕ) → x.phase ≡ phases.Owning s → Promises u (CellLoad (cell_of s.wait) words.Owner) (Number n) → IsBehind p d (after p d u (CellLoad (cell_of s.wait) words.Owner) (Number n)) →
      FitsNext (phases.Weighing s) x.ready.numbers (after p d u (CellLoad (cell_of s.wait) words.Owner) (Number n))
  owning_fits s n is said tells =
      let b = by_of (phases.Owning s) is in
      let v : View = after p d u (CellLoad (cell_of s.wait) words.Owner) (Number n) in
      let sees = sees_owner p d u (cell_of s.wait) n in
      let k = quiet (phases.Owning s) (CellLoad (cell_of s.wait) words.Owner) (Number n) is (record { taken = refl; most = λ n. refl; taking = refl }) tt tt (record { asked = sees.asked; ready = sees.ready; full = sees.full }) tells b.2 in
      step_fits (phases.Owning s) (phases.Weighing s) (CellLoad (cell_of s.wait) words.Owner) (Number n) x.ready.numbers k (record { taken = refl; most = λ n. refl; taking = refl })
      (λ rests. (named_same s.wait u v sees.names b.0, kind_seen_now p d s.wait u n ready.tidy.names b.0 said, settles_seen s None s.rest u v sees b.1, rests))

  -- ---- a waiter is settled by a State word that was found

  pub found_fits : (was : Phase) (s : Settling) (next : Option ℕ) (step : Step) (a : Answer) → Steps was step a x.ready.numbers → SeesOnly u (after p d u step a) → IsNamed s.wait u → IsOfKind s.wait u → StateIs u (cell_of s.wait) s.seen → (is_over s.wait s.seen ≡ true → IsOver (after p d u step a) s.wait) →
      Settles s next s.rest u → FitsIn p d limits image input (settled s x) (after p d u step a)
  found_fits was s next step a k sees named kind state over settles = by_word (is_over s.wait s.seen) refl
    where
      by_word : (b : Bool) → is_over s.wait s.seen ≡ b → FitsNext (if b then phases.Readying s else phases.Linking s) x.ready.numbers (after p d u step a)
      by_word true e = step_fits was (phases.Readying s) step a x.ready.numbers k (record { taken = refl; most = λ n. refl; taking = refl }) (λ rests. (over e, (next, settles_seen s next s.rest u (after p d u step a) sees settles), rests))
      by_word false e = step_fits was (phases.Linking s) step a x.ready.numbers k (record { taken = refl; most = λ n. refl; taking = refl }) (λ rests. (can_park s u (after p d u step a) sees named kind state, e, (next, settles_seen s next s.rest u (after p d u step a) sees settles), rests))

  pub weighing_fits : (s : Settling) (n : ℕ) → x.phase ≡ phases.Weighing s → Promises u (CellLoad (cell_of s.wait) words.State) (Number n) → IsBehind p d (after p d u (CellLoad (cell_of s.wait) words.State) (Number n)) →
      FitsIn p d limits image input (settled (record s { seen = n }) x) (after p d u (CellLoad (cell_of s.wait) words.State) (Number n))
  weighing_fits s n is said tells =
      let b = by_of (phases.Weighing s) is in
      let sees = sees_state p d u (cell_of s.wait) n in
      let k = quiet (phases.Weighing s) (CellLoad (cell_of s.wait) words.State) (Number n) is (record { taken = refl; most = λ n. refl; taking = refl }) tt tt (record { asked = sees.asked; ready = sees.ready; full = sees.full }) tells b.3 in
      found_fits (phases.Weighing s) (record s { seen = n }) None (CellLoad (cell_of s.wait) words.State) (Number n) k sees b.0 b.1 said (λ e. state_over p d s.wait u n ready.tidy.names b.0 e) b.2

  -- ---- a unit is taken away

  pub lowering_fits : (rest : Option Rest) (n : ℕ) → x.phase ≡ phases.Lowering rest → IsBehind p d (after p d u (ActiveAdd false) (Number n)) → FitsIn p d limits image input (behind rest x) (after p d u (ActiveAdd false) (Number n))
  lowering_fits rest n is tells =
      let b = by_of (phases.Lowering rest) is in
      let h = lowers_bag rest u b.0 in
      let same = unit_own p d u false n in
      let k = quiet (phases.Lowering rest) (ActiveAdd false) (Number n) is (record { taken = refl; most = λ n. refl; taking = refl }) tt tt same tells b.1 in
      behind_fits (phases.Lowering rest) (ActiveAdd false) (Number n) x.ready.numbers k rest (list_same rest u (after p d u (ActiveAdd false) (Number n)) (untouched p d u (ActiveAdd false) (Number n) tt).cells same.full h.1)
      (lowered_bag p d u (lower_bag rest u) n h.0)

  -- ---- a waiter becomes ready

  readied_once : (ns : List ℕ) (c : ℕ) (v : View) → v.ready ≡ c ∷ u.ready → (Contains ns c → ⊥) → IsReadyIn ns u → IsReadyIn (ns ++ c ∷ []) v
  readied_once ns c v same other h = record {
    once = once_more ns c h.once other;
    ready = λ q is. subst (λ (rs : List ℕ). Contains rs q) (sym same) (⊎_elim (λ e. contains_later q c u.ready (h.ready q e)) (λ (e : q ≡ c). subst (λ (z : ℕ). Contains (c ∷ u.ready) z) (sym e) (contains_here c u.ready)) (in_more ns c q is));
    all_ready = λ q is. ⊎_elim (λ (e : c ≡ q). subst (λ (z : ℕ). Contains (ns ++ c ∷ []) z) e (last_more ns c)) (λ more. early_more ns c q (h.all_ready q more)) (contains_case q c u.ready (subst (λ (rs : List ℕ). Contains rs q) same is));
  }

  pub readying_fits : (s : Settling) → x.phase ≡ phases.Readying s → IsBehind p d (after p d u (CellStore s.waiter words.Standing 3) Done) → FitsIn p d limits image input (readied s x) (after p d u (CellStore s.waiter words.Standing 3) Done)
  readying_fits s is tells =
      let b = by_of (phases.Readying s) is in
      let h = settles_bag s b.1.0 s.rest u b.1.1 in
      let first = first_in u (read_at s.waiter (Some s.wait) b.1.0) (hand_by s.rest) h.0.hand in
      let own : Own (phases.Readying s) = record { taken = refl; most = λ n. refl; taking = refl } in
      let were = ready_of (phases.Readying s) is own in
      let other = λ (is' : Contains x.ready.numbers s.waiter). ready.tidy.numbers.ready s.waiter (were.ready s.waiter is') (inr first) in
      let k : Steps (phases.Readying s) (CellStore s.waiter words.Standing 3) Done (x.ready.numbers ++ s.waiter ∷ []) = record {
        is = is;
        own = own;
        off = tt;
        threads = no_item_threads p d u (CellStore s.waiter words.Standing 3) Done tt;
        asked = readied_asked p d u s.waiter first;
        own_ready = readied_once x.ready.numbers s.waiter (after p d u (CellStore s.waiter words.Standing 3) Done) (readied_ready p d u s.waiter first) other were;
        tells = tells;
        rests = b.2;
      } in
      behind_fits (phases.Readying s) (CellStore s.waiter words.Standing 3) Done (x.ready.numbers ++ s.waiter ∷ []) k s.rest
      (list_same s.rest u (after p d u (CellStore s.waiter words.Standing 3) Done) (untouched p d u (CellStore s.waiter words.Standing 3) Done tt).cells (λ q full. readied_full p d u s.waiter q first full) h.1)
      (readied_bag p d u (settling_bag s b.1.0 s.rest u) (read_at s.waiter (Some s.wait) b.1.0) (hand_by s.rest) ready.tidy.numbers (no_chains s.rest u) refl h.0)
    where
      no_chains : (rest : Option Rest) (u : View) → (bag_by rest u).chains ≡ []
      no_chains (Some rest) u = refl
      no_chains None u = refl

  -- ---- a waiter is linked

  pub linking_fits : (s : Settling) → x.phase ≡ phases.Linking s → IsBehind p d (after p d u (CellStore s.waiter words.Next (head_in s.seen)) Done) → FitsNext (phases.Parking s) x.ready.numbers (after p d u (CellStore s.waiter words.Next (head_in s.seen)) Done)
  linking_fits s is tells =
      let b = by_of (phases.Linking s) is in
      let v : View = after p d u (CellStore s.waiter words.Next (head_in s.seen)) Done in
      let h = settles_bag s b.2.0 s.rest u b.2.1 in
      let same = linked_own p d u s.waiter (head_in s.seen) in
      let knows = linked_knows p d u s.waiter (head_in s.seen) in
      let cells = (untouched p d u (CellStore s.waiter words.Next (head_in s.seen)) Done tt).cells in
      let threads = no_item_threads p d u (CellStore s.waiter words.Next (head_in s.seen)) Done tt in
      let k = quiet (phases.Linking s) (CellStore s.waiter words.Next (head_in s.seen)) Done is (record { taken = refl; most = λ n. refl; taking = refl }) tt tt same tells b.3 in
      step_fits (phases.Linking s) (phases.Parking s) (CellStore s.waiter words.Next (head_in s.seen)) Done x.ready.numbers k (record { taken = refl; most = λ n. refl; taking = refl })
      (λ rests. (
        can_park_still s u v cells threads knows.0 knows.1 b.0,
        may_park s.wait u s.seen b.0.named b.1,
        bag_settles s (Some (head_in s.seen)) s.rest u v threads (linked_bag p d u (settling_bag s b.2.0 s.rest u) (head_in s.seen) (read_at s.waiter (Some s.wait) b.2.0) (hand_by s.rest) ready.tidy.numbers refl h.0) (list_same s.rest u v cells same.full h.1),
        rests,
      ))

  -- ---- a waiter is parked, or settled by the word that was found

  pub small_waiter : (waiter : ℕ) → waiter < u.cells → waiter < 65536
  small_waiter waiter below = omega (arith, below, ready.fits.holds.few_cells)

  pub parking_fits : (s : Settling) (n : ℕ) → x.phase ≡ phases.Parking s → Promises u (CellChange (cell_of s.wait) s.seen (parked_word s.wait s.waiter s.seen)) (Number n) → IsBehind p d (after p d u (CellChange (cell_of s.wait) s.seen (parked_word s.wait s.waiter s.seen)) (Number n)) →
      FitsIn p d limits image input (parked s n x) (after p d u (CellChange (cell_of s.wait) s.seen (parked_word s.wait s.waiter s.seen)) (Number n))
  parking_fits s n is said tells = by_word (n == s.seen) refl
    where
      by_word : (b : Bool) → (n == s.seen) ≡ b →
          FitsIn p d limits image input (if b then with_phase (phases.Lowering s.rest) x else settled (record s { seen = n }) x) (after p d u (CellChange (cell_of s.wait) s.seen (parked_word s.wait s.waiter s.seen)) (Number n))
      by_word true e =
          let b = by_of (phases.Parking s) is in
          let step : Step = CellChange (cell_of s.wait) s.seen (parked_word s.wait s.waiter s.seen) in
          let h = settles_bag s (Some (head_in s.seen)) s.rest u b.2 in
          let few = small_waiter s.waiter (first_below u (read_at s.waiter (Some s.wait) (Some (head_in s.seen))) (hand_by s.rest) h.0.hand ready.tidy.numbers) in
          let parked = parked_by p d u ready.tidy.names s.wait s.seen s.waiter n b.0.named b.0.kind few (eqb-true n s.seen e) in
          let own : Own (phases.Parking s) = record { taken = refl; most = λ n. refl; taking = refl } in
          let k : Steps (phases.Parking s) step (Number n) x.ready.numbers = record {
            is = is;
            own = own;
            off = tt;
            threads = ap (λ (v : View). v.threads) parked.view;
            asked = ap (λ (v : View). v.asked) parked.view;
            own_ready = ready_same x.ready.numbers (after p d u step (Number n)) (ap (λ (v : View). v.ready) parked.view) (ready_of (phases.Parking s) is own);
            tells = tells;
            rests = b.3;
          } in
          step_fits (phases.Parking s) (phases.Lowering s.rest) step (Number n) x.ready.numbers k (record { taken = refl; most = λ n. refl; taking = refl })
          (λ rests. (
            bag_lowers s.rest u (after p d u step (Number n)) k.threads
                (parked_bag p d u (after p d u step (Number n)) (settling_bag s (Some (head_in s.seen)) s.rest u) (read_at s.waiter (Some s.wait) (Some (head_in s.seen))) (hand_by s.rest) parked.gone ready.tidy.numbers parked.is parked.view refl h.0)
                (list_same s.rest u (after p d u step (Number n)) (ap (λ (v : View). v.cells) parked.view) (λ q full. subst (λ (v : View). Contains v.full q) (sym parked.view) full) h.1),
            rests,
          ))
      by_word false e =
          let b = by_of (phases.Parking s) is in
          let step : Step = CellChange (cell_of s.wait) s.seen (parked_word s.wait s.waiter s.seen) in
          let other = λ (same : n ≡ s.seen). let yes = eq-eqb n s.seen same in let no : ⊥ = cc in no in
          let sees = parks_again p d u ready.tidy.names (cell_of s.wait) s.seen (parked_word s.wait s.waiter s.seen) n other in
          let own : Own (phases.Parking s) = record { taken = refl; most = λ n. refl; taking = refl } in
          let k : Steps (phases.Parking s) step (Number n) x.ready.numbers = record {
            is = is;
            own = own;
            off = tt;
            threads = sees.threads;
            asked = sees.asked;
            own_ready = ready_same x.ready.numbers (after p d u step (Number n)) sees.ready (ready_of (phases.Parking s) is own);
            tells = tells;
            rests = b.3;
          } in
          found_fits (phases.Parking s) (record s { seen = n }) (Some (head_in s.seen)) step (Number n) k sees b.0.named b.0.kind said (λ over. over_again p d u ready.tidy.names s.wait s.seen (parked_word s.wait s.waiter s.seen) n other b.0.named over) b.2

  -- ---- a waiter's chain is taken for a look

  own_leaves : (was : Phase) (v : View) → x.phase ≡ was → Own was → SameNumbers u v → v.exported ≡ u.exported → v.threads ≡ u.threads → v.asked ≡ u.asked → IsReadyIn x.ready.numbers v → Leaves p d limits image input x u v x.ready.numbers
  own_leaves was v is own same exported threads asked numbers = record {
    is_for = ready.fits.is_for;
    held = ready.fits.holds;
    own = subst Own (sym is) own;
    same = same;
    exported = exported;
    threads = threads;
    asked = asked;
    ready = numbers;
  }

  pub peeking_fits : (waiter : ℕ) (rest : Rest) (chain : Chain) (cargo : Cargo) → x.phase ≡ phases.Peeking waiter rest → Promises u (SlotTake (slots.Cell waiter)) (Took (Some chain) cargo) → Walks p d chain cargo →
      (IsByHand u (slots.Cell waiter) → ShowsPlace (meaning p d limits) cargo.carried cargo.carried.wait) → Tidy (after p d u (SlotTake (slots.Cell waiter)) (Took (Some chain) cargo)) → IsBehind p d (after p d u (SlotTake (slots.Cell waiter)) (Took (Some chain) cargo)) →
      FitsNext (phases.Returning chain rest) x.ready.numbers (after p d u (SlotTake (slots.Cell waiter)) (Took (Some chain) cargo))
  peeking_fits waiter rest chain cargo is said walks place tidy tells =
      let b = by_of (phases.Peeking waiter rest) is in
      let step : Step = SlotTake (slots.Cell waiter) in
      let a : Answer = Took (Some chain) cargo in
      let v : View = after p d u step a in
      let first = first_in u (read_at waiter None None) (leader rest) b.2.1.hand in
      let by_hand = said.by_hand first in
      let own : Own (phases.Peeking waiter rest) = record { taken = refl; most = λ n. refl; taking = refl } in
      let were = ready_of (phases.Peeking waiter rest) is own in
      let same = taken_own p d u waiter chain cargo in
      let waiting : IsWaiting chain.wait = subst IsWaiting said.of.1 by_hand.2 in
      let numbers_are : IsReadyIn x.ready.numbers v = record {
        once = were.once;
        ready = λ c in'. subst (λ (rs : List ℕ). Contains rs c) (sym same.ready)
            (filter_in (λ q. not (q == waiter)) u.ready c (were.ready c in') (other_true c waiter (λ e. ready.tidy.numbers.ready waiter (subst (λ (q : ℕ). Contains u.ready q) e (were.ready c in')) (inr first))));
        all_ready = λ c in'. were.all_ready c (filter_out (λ q. not (q == waiter)) u.ready c (subst (λ (rs : List ℕ). Contains rs c) same.ready in')).0;
      } in
      fits_turned p d limits image input x (phases.Returning chain rest) x.ready.numbers u v
      (own_leaves (phases.Peeking waiter rest) v is own (numbers p d u step a) same.exported (no_item_threads p d u step a tt) same.asked numbers_are) (record { taken = refl; most = λ n. refl; taking = refl })
      (record {
        carried = cargo.carried;
        frames = cargo.frames;
        carries = subst (λ (standing : Option ℕ). Carries p d v chain standing cargo.carried cargo.frames) by_hand.1 (taken_carries p d u v (slots.Cell waiter) chain cargo ready.fits.is_for.code.accepted said walks refl b.2.1.chains);
        bag = taken_bag p d u waiter rest chain cargo ready.tidy.numbers said b.2.1;
        named = named_walks p d chain cargo v walks waiting same.names;
        shows = place first;
        rest_is = rest_is rest rest.next u v (numbers p d u step a).cells same.full b.0.next b.0;
        rests =
            taken_rests p d x (turned (phases.Returning chain rest) x.ready.numbers x) u v (slots.Cell waiter) chain cargo ready.fits.is_for.code.accepted said walks refl tidy (words_held v.held tells.words) refl refl b.2.0;
      })

  -- ---- and put back

  pub returning_fits : (chain : Chain) (rest : Rest) → x.phase ≡ phases.Returning chain rest → IsBehind p d (after p d u (SlotPut (slots.Cell chain.cell) chain (goes_with p u (slots.Cell chain.cell) chain)) Done) →
      FitsIn p d limits image input (returned chain rest x) (after p d u (SlotPut (slots.Cell chain.cell) chain (goes_with p u (slots.Cell chain.cell) chain)) Done)
  returning_fits chain rest is tells =
      let b = by_of (phases.Returning chain rest) is in
      let cargo : Cargo = goes_with p u (slots.Cell chain.cell) chain in
      let step : Step = SlotPut (slots.Cell chain.cell) chain cargo in
      let v : View = after p d u step Done in
      let settling : Settling = record { waiter = chain.cell; wait = chain.wait; seen = rest.word; rest = Some rest } in
      let own : Own (phases.Returning chain rest) = record { taken = refl; most = λ n. refl; taking = refl } in
      let same = put_own p d u chain.cell chain cargo in
      fits_turned p d limits image input x (phases.Owning settling) x.ready.numbers u v
      (own_leaves (phases.Returning chain rest) v is own (numbers p d u step Done) same.exported (no_item_threads p d u step Done tt) same.asked (ready_same x.ready.numbers v same.ready (ready_of (phases.Returning chain rest) is own)))
      (record { taken = refl; most = λ n. refl; taking = refl }) (
        named_same chain.wait u v same.names b.named,
        (put_bag p d u rest chain b.carried cargo (ap (λ k. k.cell) b.carries.has.note ∙ b.carries.has.cell) refl b.bag, rest_is rest rest.next u v (numbers p d u step Done).cells same.full b.rest_is.next b.rest_is),
        put_rests p d x (turned (phases.Owning settling) x.ready.numbers x) u v (slots.Cell chain.cell) chain b.carried b.frames ready.fits.is_for.code.accepted b.carries.has refl (words_held v.held tells.words) refl refl b.rests,
      )
