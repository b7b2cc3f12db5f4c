-- More whole operations, step by step, with the view that is named behind each: a fork; a waiter of a future that was handed out becomes ready; a waiter
-- of a counter that was handed out is seen, and becomes ready or is parked again; the bottom thread is given away.
use Rattle.std.proofs.Common.{◌≡◌, ◌≢◌, ◌⊎◌, inl, inr, ⊎_elim, ℕ, zero, suc, ◌+◌, ◌*◌, ◌-◌, ◌/◌, ◌%◌, ◌^◌, ◌≤◌, ◌<◌, Bool, true, false, cond, not, ◌&&◌, ◌||◌, ◌==◌, List, [], ◌∷◌, ◌++◌, map, length, Option, Some, None, refl, sym, ap, ◌∙◌, subst, arith, eq-eqb, ne_eqb}
use Rattle.std.specs.List.{Contains}
use Rattle.st_base.specs.declared.chain.Chain.{Chain}
use Rattle.st_base.specs.declared.chain.Frame.{Frame}
use Rattle.st_base.specs.declared.chain.Waiting.{Waiting}
use Rattle.st_base.specs.declared.chain.Waiting.TheVariants as waits
use Rattle.st_words.specs.declared.view.CellWord.TheVariants as words
use Rattle.st_words.specs.declared.view.Slot.TheVariants as slots
use Rattle.st_words.specs.declared.view.Known.{Known}
use Rattle.st_words.specs.declared.view.Carried.{Carried}
use Rattle.st_words.specs.declared.view.Cargo.{Cargo}
use Rattle.st_words.specs.declared.view.Waiter.{Waiter}
use Rattle.st_words.specs.declared.view.Answering.{Answering}
use Rattle.st_words.specs.declared.view.View.{View}
use Rattle.st_words.specs.Encodings.{full_word, is_counter, thread_owner, running, waits_word, count_in, head_in, counter_word}
use Rattle.st_words.specs.Steps.{CellLoad, CellStore, CellChange, Draw, SlotTake, SlotPut, RootTake, ActiveAdd, RequestChange, MailStore, Done, Number, Took, HasChain, HasInHand, IsWaiting, IsCounter, taken_share, some_thread}
use Rattle.st_words.specs.Views.{view_after, followed, common_wait, seen_waiting, without_waiter, without_chain, linked, put_into_mail, answered}
use Rattle.st_words.specs.Promises.{Promises}
use Rattle.st_words.specs.Laws.{HasFrames, cargo_of, putting, taking, named, TakesForFuture}
use Rattle.st_words.specs.Tidy.{TidyNumbers}
use Rattle.st_words.specs.Careful.{Meaning, IsOver, IsAtHome, CanSpare, InHand, ShowsPlace, standing_of}
use Rattle.st_words.specs.Moves.{given_chain, giving, MayGive, MayBegin, MayRestart, WasSeen}
use Rattle.st_words.proofs.Lists.{contains_here, contains_later, contains_none}
use Rattle.st_words.proofs.Naming.{size_laws}
use Rattle.st_words.specs.Safely.{Safe}
use Rattle.st_words.specs.Operations.{fork_drawn, fork_named, fork_stands, AtFork, ForkSteps, wake_next, wake_added, HandedOut, WakeSteps, hand_in, hand_back, ByHand, ToldByHand, ByHandSteps, give_out, give_sent, give_told, Giving, GiveSteps, end_valued, end_filled, AtEnd, EndSteps, root_seen, root_taken, root_begun, IsIdle, RootSteps}
use Rattle.st_words.proofs.Safe.{load, root_take, drawn_named, standing_stored}
use Rattle.st_words.proofs.Starting.{draw_safe, child_safe, child_runs, drawn_after, child_after, may_begin, root_safe, active_taken, may_restart}
use Rattle.st_words.proofs.Waiting.{run_safe, up_safe, ready_safe, by_hand_safe, put_safe, link_safe, join_safe, put_home}
use Rattle.st_words.proofs.Ending.{value_safe, fill_safe, ended_safe, value_stored, fill_hand, next_hand, hand_taken, back_hand, ready_hand}
use Rattle.st_words.proofs.Asking.{give_safe, tell_given_safe, clear_safe, put_after, told_after}

-- ---- a fork

module _ (m : Meaning) (u : View) (t : Known) (rest : List Known) (c : ℕ) where
  abbrev drawn : View
  drawn = fork_drawn u c

  abbrev is_named : View
  is_named = fork_named u t c

  abbrev stands : View
  stands = fork_stands u t c

  draws : AtFork m u t rest c → Safe m u Draw
  draws a = draw_safe m u t rest a.none a.no_child a.is (inl a.forks)

  names : AtFork m u t rest c → Safe m drawn (CellStore c words.Owner (thread_owner t.note.cell t.note.forks))
  unfolding view_after
  names a = child_safe m drawn c t rest a.below (drawn_after u c a.none) a.no_child a.is a.forks a.parent a.number

  runs : AtFork m u t rest c → Safe m is_named (CellStore c words.Standing 1)
  unfolding view_after
  runs a = child_runs m is_named c a.below (record { cell = c; stands = false }, (child_after drawn c t (drawn_after u c a.none)).0, refl)

  begins : AtFork m u t rest c → (child : Known) → child.note.cell ≡ c → MayBegin stands child
  begins a child at =
      let n = child_after drawn c t (drawn_after u c a.none) in
      subst (λ (k : ℕ). MayBegin (view_after is_named (CellStore k words.Standing 1) Done) child) at (may_begin is_named child (n.0 ∙ ap (λ (k : ℕ). Some (record { cell = k; stands = false })) (sym at)) n.1)

  pub fork_steps : AtFork m u t rest c → ForkSteps m u t c
  fork_steps a = record { draws = draws a; names = names a; runs = runs a; begins = begins a }

-- ---- a waiter of a future was handed out: what is behind it is read, a unit is added ahead, it becomes ready

module _ (m : Meaning) (u : View) (x : Waiter) (cell n k : ℕ) where
  abbrev next_read : View
  next_read = wake_next u x cell n k

  abbrev added : View
  added = wake_added u x cell n k

  reads_next : HandedOut u x cell n k → Safe m u (CellLoad x.cell words.Next)
  reads_next h = load m u x.cell words.Next h.below

  adds : HandedOut u x cell n k → Safe m next_read (ActiveAdd true)
  unfolding view_after
  adds h = up_safe m next_read h.share h.few

  read_hand : HandedOut u x cell n k → next_read.hand ≡ record x { leads = false } ∷ followed (common_wait x.wait) n []
  read_hand h = next_hand u x.cell n x h.hand refl h.leads

  readies : HandedOut u x cell n k → Safe m added (CellStore x.cell words.Standing 3)
  unfolding view_after
  readies h =
      let y : Waiter = record x { leads = false } in
      let l = h.covers in
      let s = h.share in
      ready_safe m added x.cell (waits.Touch cell) h.below
      (y, subst (λ (ys : List Waiter). Contains ys y) (sym (read_hand h)) (contains_here y (followed (common_wait x.wait) n [])), refl, (refl, h.wait))
      h.full (λ has. contains_none has.0 (subst (λ (xs : List Carried). Contains xs has.0) h.no_chains has.1))
      (omega (arith, l)) (inl (omega (arith, s)))

  -- what is behind it leads then, and the share is as it was
  goes_on : HandedOut u x cell n k → let v = view_after added (CellStore x.cell words.Standing 3) Done in (v.hand ≡ without_waiter x.cell (followed (common_wait x.wait) n [])) × Contains v.ready x.cell × (v.share ≡ u.share) × (v.threads ≡ u.threads)
  unfolding view_after
  goes_on h =
      let r = ready_hand added x.cell (record x { leads = false }) (followed (common_wait x.wait) n []) (read_hand h) refl in
      let e : u.share + 1 - 1 ≡ u.share = omega arith in
      (r.0, r.1, r.2 ∙ e, r.3)

  pub wake_steps : HandedOut u x cell n k → WakeSteps u x cell n k m
  wake_steps h = record { reads_next = reads_next h; adds = adds h; readies = readies h; goes_on = goes_on h }

-- ---- a waiter of a counter was handed out, what is behind it was read, and a unit was added ahead: its chain is taken by hand, seen and put back

module _ (m : Meaning) (u : View) (x : Waiter) (xs : List Waiter) (chain : Chain) (cargo : Cargo) where
  abbrev taken : View
  taken = hand_in u x xs chain cargo

  here : ByHand u x xs chain cargo → HasInHand u x.cell
  here b = (x, subst (λ (ys : List Waiter). Contains ys x) (sym b.hand) (contains_here x xs), refl)

  takes_it : ByHand u x xs chain cargo → Safe m u (SlotTake (slots.Cell x.cell))
  takes_it b = by_hand_safe m u x.cell b.below (here b) (λ has. contains_none has.0 (subst (λ (ys : List Carried). Contains ys has.0) b.no_chains has.1)) b.covers b.few

  stands_so : (wait : Waiting) → IsWaiting wait → (standing_of wait ≡ Some waits_word)
  stands_so (waits.Touch cell) w = refl
  stands_so (waits.Join cell least) w = refl
  stands_so waits.Start w = absurd w
  stands_so waits.Ready w = absurd w
  stands_so waits.Trapped w = absurd w

  -- it is put back as it came, with the frames that came
  puts_back : ByHand u x xs chain cargo → ToldByHand u x xs chain cargo m → HasFrames taken chain cargo.carried cargo.frames → m.walks (cargo_of taken cargo.carried cargo.frames 0) chain → Safe m taken (SlotPut (slots.Cell chain.cell) chain (cargo_of taken cargo.carried cargo.frames 0))
  unfolding view_after
  puts_back b r has walks =
      let f = hand_taken u x.cell chain cargo x xs r.told b.hand refl in
      put_safe m taken cargo.carried chain cargo.frames 2 has (subst (λ (c : ℕ). c < u.cells) (sym r.told.cell) b.below) walks (stands_so cargo.carried.wait f.1) f.2 r.place

  abbrev back : View
  back = hand_back u x xs chain cargo

  -- it is known what it waits for, and it is at home
  seen_wait : ByHand u x xs chain cargo → ToldByHand u x xs chain cargo m → (back.hand ≡ record x { wait = Some cargo.carried.wait } ∷ seen_waiting x.cell cargo.carried.wait xs) × IsAtHome back chain.cell × (back.share ≡ u.share) × (back.threads ≡ u.threads)
  unfolding view_after
  seen_wait b r =
      let f = hand_taken u x.cell chain cargo x xs r.told b.hand refl in
      let y : Waiter = record x { wait = Some cargo.carried.wait } in
      let h : HasInHand taken chain.cell = (y, subst (λ (ys : List Waiter). Contains ys y) (sym f.5) (contains_here y (seen_waiting x.cell cargo.carried.wait xs)), sym r.told.cell) in
      let e : taken.share - 0 ≡ taken.share = omega arith in
      (back_hand taken chain.cell chain (cargo_of taken cargo.carried cargo.frames 0) h ∙ f.5, put_home taken chain (cargo_of taken cargo.carried cargo.frames 0), e ∙ f.3, refl)

  pub by_hand_steps : ByHand u x xs chain cargo → ByHandSteps u x xs chain cargo m
  by_hand_steps b = record { takes = takes_it b; puts_back = puts_back b; seen = seen_wait b }

-- ---- the bottom thread is given away, where its worker has begun to answer

module _ (m : Meaning) (u : View) (t : Known) (above : List Known) (chain : Chain) (fs : List Frame) (a : Answering) where
  abbrev given : View
  given = give_out u t above chain fs a

  abbrev sent : View
  sent = give_sent u t above chain fs a

  abbrev told : View
  told = give_told u t above chain fs a

  gives : Giving u t above chain fs a m → Safe m given (SlotPut (slots.Mail a.asker) chain (cargo_of given (given_chain t) fs 1))
  gives g = let s = g.spare in give_safe m given (given_chain t) chain fs a g.has g.walks refl (inl g.spare) (omega (arith, s)) g.answers g.below g.other g.not_put g.not_told

  tells : Giving u t above chain fs a m → Safe m sent (MailStore a.asker 2)
  unfolding view_after
  tells g = tell_given_safe m sent (record a { put = true }) g.below (put_after given a.asker chain (cargo_of given (given_chain t) fs 1) a g.answers) g.not_told refl

  clears : Giving u t above chain fs a m → Safe m told (RequestChange told.number 32 0)
  unfolding view_after
  clears g =
      let n : told.number ≡ u.number = size_laws.number sent (MailStore a.asker 2) Done in
      let w : told.workers ≡ u.workers = size_laws.workers sent (MailStore a.asker 2) Done in
      let below = g.number in
      clear_safe m told (record a { put = true; told = true }) (omega (arith, n, w, below)) (told_after sent 2 (record a { put = true }) (put_after given a.asker chain (cargo_of given (given_chain t) fs 1) a g.answers) g.other) refl

  pub give_steps : Giving u t above chain fs a m → GiveSteps u t above chain fs a m
  give_steps g = record { puts = gives g; tells = tells g; clears = clears g }

-- ---- a forked thread or the root ends

module _ (m : Meaning) (u : View) (t : Known) (rest : List Known) (n seen : ℕ) where
  abbrev valued : View
  valued = end_valued u t rest n seen

  -- the item goes with the fill: the thread is gone
  abbrev filled : View
  filled = end_filled u t rest n seen

  stores_value : AtEnd u t rest n seen m → Safe m u (CellStore t.note.cell words.Value n)
  stores_value e = value_safe m u t rest n e.below e.is e.ends (e.tidy.unfinished t.note.cell (t, subst (λ (ts : List Known). Contains ts t) (sym e.is) (contains_here t rest), refl))

  fills : AtEnd u t rest n seen m → Safe m valued (CellChange t.note.cell seen full_word)
  unfolding view_after
  fills e = fill_safe m valued t rest seen n e.below e.is e.ends (value_stored u t.note.cell n) e.other

  valued_below : AtEnd u t rest n seen m → t.note.cell < valued.cells
  unfolding view_after
  valued_below e = e.below

  valued_takes : AtEnd u t rest n seen m → TakesForFuture valued t.note.cell
  unfolding view_after
  valued_takes e = e.takes

  ends_standing : AtEnd u t rest n seen m → Safe m filled (CellStore t.note.cell words.Standing 5)
  ends_standing e =
      let f = fill_hand valued t.note.cell seen (valued_takes e) in
      let c : filled.cells ≡ valued.cells = size_laws.cells valued (CellChange t.note.cell seen full_word) (Number seen) in
      ended_safe m filled t.note.cell (subst (λ (k : ℕ). t.note.cell < k) (sym c) (valued_below e)) f.0

  -- the waiters are in the hand, and each waits for this future
  hands_out : AtEnd u t rest n seen m → filled.hand ≡ followed (Some (waits.Touch t.note.cell)) seen u.hand
  unfolding view_after
  hands_out e = (fill_hand valued t.note.cell seen e.takes).2

  pub end_steps : AtEnd u t rest n seen m → EndSteps u t rest n seen m
  end_steps e = record { values = stores_value e; fills = fills e; stands = ends_standing e; hands_out = hands_out e }

-- ---- the root is begun

module _ (m : Meaning) (u : View) (chain : Chain) (cargo : Cargo) where
  abbrev finds : View
  finds = root_seen u

  abbrev takes_root : View
  takes_root = root_taken u chain cargo

  abbrev begun : View
  begun = root_begun u chain cargo

  takes_first : IsIdle u → Safe m finds (SlotTake (slots.Cell 0))
  unfolding view_after
  takes_first i = root_safe m finds i.some refl i.empty i.few

  stands_first : IsIdle u → Promises finds (SlotTake (slots.Cell 0)) (Took (Some chain) cargo) → Safe m takes_root (CellStore cargo.carried.known.note.cell words.Standing 1)
  unfolding view_after
  stands_first i told =
      let t = active_taken finds 0 chain cargo told (inr (refl, refl)) in
      run_safe m takes_root cargo.carried t.0 (subst (λ (c : ℕ). c < u.cells) (sym t.4) i.some) (inr t.1)

  restarts_first : IsIdle u → Promises finds (SlotTake (slots.Cell 0)) (Took (Some chain) cargo) → MayRestart begun (record cargo.carried { standing = Some 1 })
  unfolding view_after
  restarts_first i told =
      let t = active_taken finds 0 chain cargo told (inr (refl, refl)) in
      let start : cargo.carried.wait ≡ waits.Start = ((told.active (inr (refl, refl))).1).1 (refl, refl) in
      may_restart begun (record cargo.carried { standing = Some 1 }) i.none (standing_stored takes_root 0 1 cargo.carried (λ e. omega arith) t.0 t.4) refl (subst (WasSeen begun) (sym start) tt)

  pub root_steps : IsIdle u → RootSteps m u chain cargo
  root_steps i = record { finds = root_take m u; takes = takes_first i; stands = stands_first i; restarts = restarts_first i }
