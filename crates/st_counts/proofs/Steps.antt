-- Each kind of step keeps the count: step_kept.
use Rattle.std.proofs.Common.{◌≡◌, ◌≢◌, ◌⊎◌, inl, inr, ⊎_elim, ℕ, zero, suc, ◌+◌, ◌-◌, ◌^◌, ◌≤◌, ◌<◌, Bool, true, false, List, [], length, Option, Some, None, refl, sym, ap, ◌∙◌, subst, arith, ◌==◌, ◌&&◌}
use Rattle.st_base.specs.declared.chain.Chain.{Chain}
use Rattle.st_words.specs.declared.view.CellWord.{CellWord}
use Rattle.st_words.specs.declared.view.CellWord.TheVariants.{Owner, State, Value, Next, Standing, Trap}
use Rattle.st_words.specs.declared.view.Slot.{Slot}
use Rattle.st_words.specs.declared.view.Slot.TheVariants.{Cell, Mail}
use Rattle.st_words.specs.declared.view.Known.{Known}
use Rattle.st_words.specs.declared.view.Cargo.{Cargo}
use Rattle.st_words.specs.declared.view.View.{View}
use Rattle.st_words.specs.Encodings.{running, ready}
use Rattle.st_words.specs.Steps.{Step, StackStore, Mark, CellStore, CellChange, Draw, ActiveAdd, ActiveLoad, StopSet, RootTake, RequestChange, MailStore, OutStore, SlotTake, SlotPut, Answer, Done, Number, Looked, Took, Can, MayAdd, MayTake, some_thread, taken_share}
use Rattle.st_words.specs.Views.{Progress, with_progress, view_after, Does, no_cargo, in_hand, with_standing, without_waiter, made_ready, made_running}
use Rattle.st_words.specs.Plain.{one_more, one_less, readied}
use Rattle.st_words.specs.Careful.{CanSpare}
use Rattle.st_words.specs.Shares.{Covered}
use Rattle.st_words.proofs.Lists.{both_true, same_true}
use Rattle.st_words.proofs.Puts.{hand_has}
use Rattle.st_words.proofs.Naming.{size_laws}
use Rattle.st_world.specs.Functions.{put}
use Rattle.st_world.specs.World.{World, slot_of, cargo_of, with_word, seen, waking, woken, Finds, changed, world_after}
use Rattle.st_world.proofs.Functions.{put_here, put_other, put_all}
use Rattle.st_counts.specs.Counting.{filling, Counts}
use Rattle.st_counts.specs.Laws.{Spares, HasWork, IsWeighed, NoneBegun}
use Rattle.st_counts.proofs.Sums.{shares_put, units_put, filling_some, some_thread_there, chain_out, same_standing}
use Rattle.st_counts.proofs.Changes.{SameNumbers, one_more_is, one_less_is, active_most, share_within, recounted}
use Rattle.st_counts.proofs.ViewsAfter.{SameTurn, IsQuiet, same_after, SameChange, changed_after, waiting_more}
use Rattle.st_counts.proofs.Moves.{world_stays, quiet_view}

numbers_after : (pr : Progress) (u : View) (s : Step) (a : Answer) → SameNumbers u (with_progress pr (view_after u s a))
numbers_after pr u s a = (size_laws.workers u s a, size_laws.cells u s a)

-- two functions are put at one place
both_put : {X Y : Type 0} (P : X → Y → Type 0) (f : ℕ → X) (g : ℕ → Y) (i : ℕ) (x : X) (y : Y) → P x y → ((j : ℕ) → P (f j) (g j)) → (j : ℕ) → P (put f i x j) (put g i y j)
both_put {X} {Y} P f g i x y here others j = put_all (λ (k : ℕ) (a : X). P a (put g i y j)) f i x j
    (λ (e : j ≡ i). subst (λ (b : Y). P x b) (sym (ap (put g i y) e ∙ put_here g i y)) here)
    (λ (d : j ≢ i). subst (λ (b : Y). P (f j) b) (sym (put_other g i y j d)) (others j))

-- ---- steps that change nothing that is read

quiet_stored : (x : World) (w : ℕ) (v u : View) (c : ℕ) (word : CellWord) (n : ℕ) → IsQuiet (CellStore c word n) → Counts (seen w v x) → Counts (seen w v (woken u c word n (with_word c word n x)))
quiet_stored x w v u c Owner n q C = C
quiet_stored x w v u c State n q C = C
quiet_stored x w v u c Value n q C = C
quiet_stored x w v u c Next n q C = C
quiet_stored x w v u c Standing n q C = absurd q
quiet_stored x w v u c Trap n q C = C

quiet_world : (x : World) (w : ℕ) (v : View) (s : Step) (a : Answer) → IsQuiet s → Counts (seen w v x) → Counts (seen w v (changed x w s a))
quiet_world x w v (CellStore c word n) a q C = quiet_stored x w v (x.view w) c word n q C
quiet_world x w v (CellChange c old new) a q C = absurd q
quiet_world x w v (ActiveAdd up) a q C = absurd q
quiet_world x w v (SlotTake slot) a q C = absurd q
quiet_world x w v (SlotPut slot chain cargo) a q C = absurd q
quiet_world x w v (StackStore p n) a q C = C
quiet_world x w v (Mark p) a q C = C
quiet_world x w v Draw a q C = C
quiet_world x w v (StopSet code) (Number n) q C = C
quiet_world x w v RootTake a q C = C
quiet_world x w v (RequestChange at old new) (Number n) q C = C
quiet_world x w v (MailStore at n) a q C = C
quiet_world x w v (OutStore i n) a q C = C
quiet_world x w v s a q C = C

pub quiet_kept : (x : World) (w : ℕ) (s : Step) (a : Answer) (pr : Progress) → IsQuiet s → Counts x → NoneBegun (x.view w) pr.threads → Counts (world_after x w s a (with_progress pr (view_after (x.view w) s a)))
quiet_kept x w s a pr q C n =
    let v : View = with_progress pr (view_after (x.view w) s a) in
    quiet_world x w v s a q (quiet_view x w v C (numbers_after pr (x.view w) s a) (same_after (x.view w) s a q) n)

module _ (x : World) (C : Counts x) (w : ℕ) (less : w < x.workers) (pr : Progress) (n : NoneBegun (x.view w) pr.threads) where
  abbrev u : View
  u = x.view w

  -- ---- a State word is changed

  has_share : (u.threads ≢ []) ⊎ (u.hand ≢ []) → 1 ≤ u.share
  has_share (inl some) = let one = some_thread_there u.threads some in let l = (C.covered w).covers in omega (arith, one, l)
  has_share (inr some) = (C.covered w).holds some

  changed_view : (v : View) → SameNumbers u v → SameTurn u v → some_thread v.threads ≤ some_thread u.threads → 1 ≤ u.share → Counts (seen w v x)
  changed_view v s p fewer one =
      let e = p.0 in
      let k = p.1 in
      let l = (C.covered w).covers in
      world_stays x w v C s e (record { covers = omega (arith, e, k, l, fewer); holds = λ d. omega (arith, e, one) }) (λ i. C.inactive w (sym p.2 ∙ i))

  changed_by : (b : Bool) (v : View) → SameNumbers u (with_progress pr v) → SameChange b u v → (b ≡ true → 1 ≤ u.share) → Counts (seen w (with_progress pr v) x)
  changed_by true v s p one = changed_view (with_progress pr v) s p n (one refl)
  changed_by false v s p one = quiet_view x w (with_progress pr v) C s p n

  pub change_kept : (c old new k : ℕ) → HasWork u (CellChange c old new) (Number k) → Counts (world_after x w (CellChange c old new) (Number k) (with_progress pr (view_after u (CellChange c old new) (Number k))))
  change_kept c old new k work =
      let at : Step = CellChange c old new in
      changed_by (k == old) (view_after u at (Number k)) (numbers_after pr u at (Number k)) (changed_after u c old new k) (λ e. has_share (work (same_true k old e)))

  -- ---- the active count

  -- nothing is active
  loaded : (k : ℕ) → k ≡ x.active → Counts (world_after x w ActiveLoad (Number k) (with_progress pr (view_after u ActiveLoad (Number k))))
  unfolding view_after
  loaded zero f = world_stays x w (with_progress pr (view_after u ActiveLoad (Number 0))) C (refl, refl) refl
      (record { covers = let l = (C.covered w).covers in omega (arith, l, n); holds = (C.covered w).holds }) (λ i. sym f)
  loaded (suc k) f = quiet_view x w (with_progress pr (view_after u ActiveLoad (Number (suc k)))) C (refl, refl) ((refl, refl, refl), λ d. d) n

  some_active : 1 ≤ u.share → 1 ≤ x.active
  some_active one = let a = share_within x.workers x.cells x.active x.home x.home_cargo x.post x.post_cargo x.view C w less in omega (arith, a, one)

  most : x.active ≤ 137438953472
  most = active_most x.workers x.cells x.active x.home x.home_cargo x.post x.post_cargo x.view C

  -- nobody has seen that nothing is active
  seen_active : (k : ℕ) → 1 ≤ u.share → x.active ≡ 0 → k ≡ 0
  seen_active k one z = let a = some_active one in let no : ⊥ = omega (arith, a, z) in absurd no

  added_view : (k : ℕ) (v : View) → 1 ≤ u.share → k + u.share ≡ x.active + v.share → SameNumbers u v → v.inactive ≡ u.inactive → Covered v → v.share < 2 ^ 32 → Counts (seen w v (record x { active = k }))
  added_view k v one e s i covered small =
      let a = shares_put x.view x.workers w v less in
      let sum = C.sum in
      recounted x.workers x.cells x.active x.home x.home_cargo x.post x.post_cargo x.view C w v k x.home x.home_cargo x.post x.post_cargo s (omega (arith, a, sum, e)) covered small C.homes C.posts
      (λ z. seen_active k one (C.inactive w (sym i ∙ z))) (seen_active k one)

  pub add_kept : (up : Bool) (k : ℕ) → MayAdd u up → Spares u (ActiveAdd up) → Counts (world_after x w (ActiveAdd up) (Number k) (with_progress pr (view_after u (ActiveAdd up) (Number k))))
  unfolding view_after
  add_kept true k may spares =
      let m = most in
      let e = one_more_is x.active (omega (arith, m)) in
      let one = may.0 in
      let room = may.1 in
      let l = (C.covered w).covers in
      added_view (one_more x.active) (with_progress pr (record u { share = u.share + 1 })) one (omega (arith, e)) (refl, refl) refl
      (record { covers = omega (arith, l, n); holds = λ d. omega arith }) room
  add_kept false k may spares =
      let m = most in
      let one : 1 ≤ u.share = omega (arith, may) in
      let some = some_active one in
      let e = one_less_is x.active some (omega (arith, m)) in
      let small = C.small w in
      added_view (one_less x.active) (with_progress pr (record u { share = u.share - 1 })) one (omega (arith, e, one)) (refl, refl) refl
      (record { covers = omega (arith, may, n); holds = λ d. ⊎_elim (λ (l : 2 ≤ u.share). omega (arith, l)) (λ (z : u.hand ≡ []). absurd (d z)) spares }) (omega (arith, small))

  pub load_kept : (k : ℕ) → k ≡ x.active → Counts (world_after x w ActiveLoad (Number k) (with_progress pr (view_after u ActiveLoad (Number k))))
  load_kept k f = loaded k f

  -- ---- slots

  in_cells : (c : ℕ) → c < u.cells → c < x.cells
  in_cells c l = subst (λ (k : ℕ). c < k) (C.numbered w less).1 l

  in_workers : (a : ℕ) → a < u.workers → a < x.workers
  in_workers a l = subst (λ (k : ℕ). a < k) (C.numbered w less).0 l

  -- what goes with the chain in a cell's slot is another, and the share makes up for it
  home_view : (c : ℕ) (o : Option Chain) (k : Cargo) (v : View) → c < x.cells → v.share + k.unit ≡ u.share + (x.home_cargo c).unit → k.unit ≤ filling o → SameNumbers u v → v.inactive ≡ u.inactive → Covered v → v.share < 2 ^ 32 → Counts (seen w v (record x { home = put x.home c o; home_cargo = put x.home_cargo c k }))
  home_view c o k v l e light s i covered small =
      let a = shares_put x.view x.workers w v less in
      let b = units_put x.home_cargo x.cells c k l in
      let sum = C.sum in
      recounted x.workers x.cells x.active x.home x.home_cargo x.post x.post_cargo x.view C w v x.active (put x.home c o) (put x.home_cargo c k) x.post x.post_cargo s (omega (arith, a, b, sum, e)) covered small
      (both_put (λ (k : Cargo) (o : Option Chain). k.unit ≤ filling o) x.home_cargo x.home c k o light C.homes) C.posts (λ z. C.inactive w (sym i ∙ z)) (λ z. z)

  post_view : (at : ℕ) (o : Option Chain) (k : Cargo) (v : View) → at < x.workers → v.share + k.unit ≡ u.share + (x.post_cargo at).unit → k.unit ≡ filling o → SameNumbers u v → v.inactive ≡ u.inactive → Covered v → v.share < 2 ^ 32 → Counts (seen w v (record x { post = put x.post at o; post_cargo = put x.post_cargo at k }))
  post_view at o k v l e weight s i covered small =
      let a = shares_put x.view x.workers w v less in
      let b = units_put x.post_cargo x.workers at k l in
      let sum = C.sum in
      recounted x.workers x.cells x.active x.home x.home_cargo x.post x.post_cargo x.view C w v x.active x.home x.home_cargo (put x.post at o) (put x.post_cargo at k) s (omega (arith, a, b, sum, e)) covered small
      C.homes (both_put (λ (k : Cargo) (o : Option Chain). k.unit ≡ filling o) x.post_cargo x.post at k o weight C.posts) (λ z. C.inactive w (sym i ∙ z)) (λ z. z)

  -- the view with no chain taken
  none_covered : Covered (with_progress pr u)
  none_covered = record { covers = let l = (C.covered w).covers in omega (arith, l, n); holds = (C.covered w).holds }

  -- a chain is in the turn, by its unit or by one that was added ahead
  one_more_chain : (v : View) (unit : ℕ) → v.threads ≡ pr.threads → v.share ≡ u.share + unit → length v.chains ≡ suc (length u.chains) → (v.hand ≢ [] → u.hand ≢ []) → (unit ≡ 1) ⊎ (taken_share u < u.share) → Covered v
  one_more_chain v unit t e k h room =
      let f : some_thread v.threads ≡ some_thread pr.threads = ap some_thread t in
      let l = (C.covered w).covers in
      record {
        covers = ⊎_elim (λ (one : unit ≡ 1). omega (arith, f, e, k, l, n, one)) (λ (spare : taken_share u < u.share). omega (arith, f, e, k, n, spare)) room;
        holds = λ d. let one = (C.covered w).holds (h d) in omega (arith, e, one);
      }

  home_room : (c : ℕ) → MayTake u (Cell c) → Spares u (SlotTake (Cell c)) → IsWeighed x u (SlotTake (Cell c)) → ((x.home_cargo c).unit ≡ 1) ⊎ (taken_share u < u.share)
  home_room c (inl r) spares weighed = inl (weighed (inl r))
  home_room c (inr (inl h)) spares weighed = inr (spares h.0)
  home_room c (inr (inr r)) spares weighed = inl (weighed (inr r))

  home_taken : (c : ℕ) (o : Option Chain) → Can u (SlotTake (Cell c)) → Spares u (SlotTake (Cell c)) → IsWeighed x u (SlotTake (Cell c)) → o ≡ x.home c → Counts (world_after x w (SlotTake (Cell c)) (Took o (x.home_cargo c)) (with_progress pr (view_after u (SlotTake (Cell c)) (Took o (x.home_cargo c)))))
  unfolding view_after
  home_taken c None can spares weighed f =
      let light = C.homes c in
      let e : 0 ≡ filling (x.home c) = ap filling f in
      home_view c None no_cargo (with_progress pr u) (in_cells c can.0) (omega (arith, light, e)) (omega arith) (refl, refl) refl none_covered (C.small w)
  home_taken c (Some chain) can spares weighed f =
      let light = C.homes c in
      let e : 1 ≡ filling (x.home c) = ap filling f in
      let room = can.2 in
      let v : View = with_progress pr (view_after u (SlotTake (Cell c)) (Took (Some chain) (x.home_cargo c))) in
      home_view c None no_cargo v (in_cells c can.0) (omega arith) (omega arith) (refl, refl) refl
      (one_more_chain v (x.home_cargo c).unit refl refl refl (waiting_more c (x.home_cargo c).carried.wait u.hand) (home_room c can.1 spares weighed)) (omega (arith, light, e, room))

  post_taken : (at : ℕ) (o : Option Chain) → Can u (SlotTake (Mail at)) → o ≡ x.post at → Counts (world_after x w (SlotTake (Mail at)) (Took o (x.post_cargo at)) (with_progress pr (view_after u (SlotTake (Mail at)) (Took o (x.post_cargo at)))))
  unfolding view_after
  post_taken at None can f =
      let weight = C.posts at in
      let e : 0 ≡ filling (x.post at) = ap filling f in
      post_view at None no_cargo (with_progress pr u) (in_workers at can.0) (omega (arith, weight, e)) refl (refl, refl) refl none_covered (C.small w)
  post_taken at (Some chain) can f =
      let weight = C.posts at in
      let e : 1 ≡ filling (x.post at) = ap filling f in
      let room = can.2 in
      let v : View = with_progress pr (view_after u (SlotTake (Mail at)) (Took (Some chain) (x.post_cargo at))) in
      let one : (x.post_cargo at).unit ≡ 1 = omega (arith, weight, e) in
      post_view at None no_cargo v (in_workers at can.0) (omega arith) refl (refl, refl) refl
      (one_more_chain v (x.post_cargo at).unit refl refl refl (λ d. d) (inl one)) (omega (arith, one, room))

  pub take_kept : (slot : Slot) (o : Option Chain) → Can u (SlotTake slot) → Spares u (SlotTake slot) → IsWeighed x u (SlotTake slot) → o ≡ slot_of x slot → Counts (world_after x w (SlotTake slot) (Took o (cargo_of x slot)) (with_progress pr (view_after u (SlotTake slot) (Took o (cargo_of x slot)))))
  take_kept (Cell c) o can spares weighed f = home_taken c o can spares weighed f
  take_kept (Mail at) o can spares weighed f = post_taken at o can f

  pub put_kept : (slot : Slot) (chain : Chain) (cargo : Cargo) → Can u (SlotPut slot chain cargo) → Spares u (SlotPut slot chain cargo) → slot_of x slot ≡ None → Counts (world_after x w (SlotPut slot chain cargo) Done (with_progress pr (view_after u (SlotPut slot chain cargo) Done)))
  unfolding view_after
  put_kept (Cell c) chain cargo can spares empty =
      let v : View = with_progress pr (view_after u (SlotPut (Cell c) chain cargo) Done) in
      let light = C.homes c in
      let e : filling (x.home c) ≡ 0 = ap filling empty in
      let none : cargo.unit ≡ 0 = spares.0 in
      let h = can.1.1 in
      let out = chain_out chain.cell u.chains h.0 h.1 (h.2 ∙ sym can.1.0) in
      let l = (C.covered w).covers in
      let small = C.small w in
      home_view c (Some chain) cargo v (in_cells c can.0) (omega (arith, light, e, none)) (omega (arith, none)) (refl, refl) refl
      (record { covers = omega (arith, none, out, l, n); holds = λ d. omega (arith, none, out, l) }) (omega (arith, small))
  put_kept (Mail at) chain cargo can spares empty =
      let v : View = with_progress pr (view_after u (SlotPut (Mail at) chain cargo) Done) in
      let weight = C.posts at in
      let e : filling (x.post at) ≡ 0 = ap filling empty in
      let one : cargo.unit ≡ 1 = spares.0 in
      let h = can.1.0 in
      let out = chain_out chain.cell u.chains h.0 h.1 h.2 in
      let l = (C.covered w).covers in
      let small = C.small w in
      post_view at (Some chain) cargo v (in_workers at can.0) (omega (arith, weight, e, one, out, l)) one (refl, refl) refl
      (record { covers = omega (arith, one, out, l, n); holds = λ d. ⊎_elim (λ (two : 2 ≤ u.share). omega (arith, one, two)) (λ (z : u.hand ≡ []). absurd (d z)) spares.1 }) (omega (arith, small))

  -- ---- a Standing word is stored

  abbrev stood_view : Bool → Bool → ℕ → ℕ → View
  stood_view b r c k = with_progress pr (made_ready b c (made_running r c (record u { chains = with_standing c k u.chains })))

  ready_view : (c k : ℕ) (v : View) → c < x.cells → SameNumbers u v → (v.share ≡ u.share - 1) × (length v.chains ≡ length u.chains) × (v.inactive ≡ u.inactive) × (v.hand ≡ without_waiter c u.hand) × (v.threads ≡ pr.threads) →
      (taken_share u < u.share) × CanSpare u (without_waiter c u.hand) → (x.home c ≢ None) × ((x.home_cargo c).unit ≡ 0) → Counts (seen w v (waking true c (with_word c Standing k x)))
  ready_view c k v l s p spare weighed =
      let a = shares_put x.view x.workers w v less in
      let b = units_put x.home_cargo x.cells c (readied (x.home_cargo c)) l in
      let sum = C.sum in
      let e = p.0 in
      let length_is = p.1 in
      let f : some_thread v.threads ≡ some_thread pr.threads = ap some_thread p.4 in
      let ahead = spare.0 in
      let none = weighed.1 in
      let small = C.small w in
      let full : filling (x.home c) ≡ 1 = filling_some (x.home c) weighed.0 in
      recounted x.workers x.cells x.active x.home x.home_cargo x.post x.post_cargo x.view C w v x.active x.home (put x.home_cargo c (readied (x.home_cargo c))) x.post x.post_cargo s (omega (arith, a, b, sum, e, ahead, none))
      (record {
        covers = omega (arith, e, length_is, f, ahead, n);
        holds = λ d. ⊎_elim (λ (two : 2 ≤ u.share). omega (arith, e, two)) (λ (z : without_waiter c u.hand ≡ []). absurd (d (p.3 ∙ z))) spare.1;
      }) (omega (arith, e, small))
      (λ d. put_all (λ (d : ℕ) (k : Cargo). k.unit ≤ filling (x.home d)) x.home_cargo c (readied (x.home_cargo c)) d
      (λ (z : d ≡ c). let g : filling (x.home d) ≡ filling (x.home c) = ap (λ (d : ℕ). filling (x.home d)) z in omega (arith, g, full)) (λ (z : d ≢ c). C.homes d))
      C.posts (λ z. C.inactive w (sym p.2 ∙ z)) (λ z. z)

  readies : (c k : ℕ) (r : Bool) → c < x.cells → (taken_share u < u.share) × CanSpare u (without_waiter c u.hand) → (x.home c ≢ None) × ((x.home_cargo c).unit ≡ 0) → Counts (seen w (stood_view true r c k) (waking true c (with_word c Standing k x)))
  readies c k true l spare weighed = ready_view c k (stood_view true true c k) l (refl, refl) (refl, same_standing c k u.chains, refl, refl, refl) spare weighed
  readies c k false l spare weighed = ready_view c k (stood_view true false c k) l (refl, refl) (refl, same_standing c k u.chains, refl, refl, refl) spare weighed

  stood_by : (c k : ℕ) (b r : Bool) → c < x.cells → Spares u (CellStore c Standing k) → IsWeighed x u (CellStore c Standing k) → ((k == ready) && in_hand c u.hand) ≡ b → Counts (seen w (stood_view b r c k) (waking b c (with_word c Standing k x)))
  stood_by c k true r l spares weighed e =
      let both = both_true (k == ready) (in_hand c u.hand) e in
      let is = same_true k ready both.0 in
      let has = hand_has c u.hand both.1 in
      readies c k r l (spares is has) (weighed is has)
  stood_by c k false true l spares weighed e = quiet_view x w (stood_view false true c k) C (refl, refl) ((refl, same_standing c k u.chains, refl), λ d. d) n
  stood_by c k false false l spares weighed e = quiet_view x w (stood_view false false c k) C (refl, refl) ((refl, same_standing c k u.chains, refl), λ d. d) n

  pub stand_kept : (c k : ℕ) → c < u.cells → Spares u (CellStore c Standing k) → IsWeighed x u (CellStore c Standing k) → Counts (world_after x w (CellStore c Standing k) Done (with_progress pr (view_after u (CellStore c Standing k) Done)))
  unfolding view_after
  stand_kept c k l spares weighed = stood_by c k ((k == ready) && in_hand c u.hand) (k == running) (in_cells c l) spares weighed refl

-- ---- each kind of step

-- by the answer that is found, and by the view after it that is named
answered : (x : World) (w : ℕ) (s : Step) (a : Answer) (pr : Progress) → Counts x → w < x.workers → Can (x.view w) s → Spares (x.view w) s → HasWork (x.view w) s a → IsWeighed x (x.view w) s → Finds x w s a → NoneBegun (x.view w) pr.threads → Counts (world_after x w s a (with_progress pr (view_after (x.view w) s a)))
answered x w (ActiveAdd up) (Number k) pr C l can spares work weighed f n = add_kept x C w l pr n up k can spares
answered x w ActiveLoad (Number k) pr C l can spares work weighed f n = load_kept x C w l pr n k f
answered x w (CellChange c old new) (Number k) pr C l can spares work weighed f n = change_kept x C w l pr n c old new k work
answered x w (CellStore c Standing k) Done pr C l can spares work weighed f n = stand_kept x C w l pr n c k can.0 spares weighed
answered x w (SlotTake slot) (Took o cargo) pr C l can spares work weighed f n = subst (λ (k : Cargo). Counts (world_after x w (SlotTake slot) (Took o k) (with_progress pr (view_after (x.view w) (SlotTake slot) (Took o k))))) (sym f.1) (take_kept x C w l pr n slot o can spares weighed f.0)
answered x w (SlotPut slot chain cargo) Done pr C l can spares work weighed f n = put_kept x C w l pr n slot chain cargo can spares weighed
answered x w (CellStore c Owner k) Done pr C l can spares work weighed f n = quiet_kept x w (CellStore c Owner k) Done pr tt C n
answered x w (CellStore c State k) Done pr C l can spares work weighed f n = quiet_kept x w (CellStore c State k) Done pr tt C n
answered x w (CellStore c Value k) Done pr C l can spares work weighed f n = quiet_kept x w (CellStore c Value k) Done pr tt C n
answered x w (CellStore c Next k) Done pr C l can spares work weighed f n = quiet_kept x w (CellStore c Next k) Done pr tt C n
answered x w (CellStore c Trap k) Done pr C l can spares work weighed f n = quiet_kept x w (CellStore c Trap k) Done pr tt C n
answered x w (ActiveAdd up) Done pr C l can spares work weighed f n = absurd f
answered x w (ActiveAdd up) (Looked k c) pr C l can spares work weighed f n = absurd f
answered x w (ActiveAdd up) (Took k c) pr C l can spares work weighed f n = absurd f
answered x w ActiveLoad Done pr C l can spares work weighed f n = absurd f
answered x w ActiveLoad (Looked k c) pr C l can spares work weighed f n = absurd f
answered x w ActiveLoad (Took k c) pr C l can spares work weighed f n = absurd f
answered x w (CellChange c old new) Done pr C l can spares work weighed f n = absurd f
answered x w (CellChange c old new) (Looked k d) pr C l can spares work weighed f n = absurd f
answered x w (CellChange c old new) (Took k d) pr C l can spares work weighed f n = absurd f
answered x w (CellStore c word k) (Number m) pr C l can spares work weighed f n = absurd f
answered x w (CellStore c word k) (Looked m d) pr C l can spares work weighed f n = absurd f
answered x w (CellStore c word k) (Took m d) pr C l can spares work weighed f n = absurd f
answered x w (SlotTake slot) Done pr C l can spares work weighed f n = absurd f
answered x w (SlotTake slot) (Number k) pr C l can spares work weighed f n = absurd f
answered x w (SlotTake slot) (Looked k c) pr C l can spares work weighed f n = absurd f
answered x w (SlotPut slot chain cargo) (Number k) pr C l can spares work weighed f n = absurd f
answered x w (SlotPut slot chain cargo) (Looked k c) pr C l can spares work weighed f n = absurd f
answered x w (SlotPut slot chain cargo) (Took k c) pr C l can spares work weighed f n = absurd f
answered x w s a pr C l can spares work weighed f n = quiet_kept x w s a pr tt C n

pub step_kept : (x : World) (w : ℕ) (s : Step) (a : Answer) (v : View) → Counts x → w < x.workers → Can (x.view w) s → Spares (x.view w) s → HasWork (x.view w) s a → IsWeighed x (x.view w) s → Finds x w s a → Does (x.view w) s a v → NoneBegun (x.view w) v.threads → Counts (world_after x w s a v)
step_kept x w s a v C l can spares work weighed f d n = subst (λ (v : View). Counts (world_after x w s a v)) (sym d.1)
    (answered x w s a d.0 C l can spares work weighed f (subst (λ (ts : List Known). NoneBegun (x.view w) ts) (ap (λ (y : View). y.threads) d.1) n))
