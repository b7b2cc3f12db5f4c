-- What the answers of steps promise where the rule holds: rule_told; and what a chain that is taken stands for: rule_comes.
use Rattle.std.proofs.Common.{◌≡◌, ◌≢◌, ◌⊎◌, inl, inr, ℕ, ◌≤◌, ◌<◌, true, Option, Some, None, refl, sym, ◌∙◌, ap, subst, arith}
use Rattle.std.specs.List.{Contains}
use Rattle.st_base.specs.declared.chain.Chain.{Chain}
use Rattle.st_base.specs.declared.chain.Waiting.{Waiting}
use Rattle.st_base.specs.declared.chain.Waiting.TheVariants as waits
use Rattle.st_base.specs.declared.limits.Limits.{Limits}
use Rattle.st_words.specs.declared.view.CellWord.TheVariants.{Owner, State, Value, Next, Standing, Trap}
use Rattle.st_words.specs.declared.view.Slot.{Slot}
use Rattle.st_words.specs.declared.view.Slot.TheVariants.{Cell, Mail}
use Rattle.st_words.specs.declared.view.Cargo.{Cargo}
use Rattle.st_words.specs.declared.view.Waiter.{Waiter}
use Rattle.st_words.specs.declared.view.View.{View}
use Rattle.st_words.specs.Encodings.{full_word, head_in}
use Rattle.st_words.specs.Steps.{Step, StackLoad, StackStore, Mark, Look, CellLoad, CellStore, CellChange, Draw, ActiveAdd, ActiveLoad, StopLoad, StopSet, RootTake, RequestLoad, RequestChange, MailLoad, MailStore, OutStore, SlotTake, SlotPut, OutLoad, Answer, Done, Number, Looked, Took, Can, IsFuture, IsCounter, IsWaiting, MayTake}
use Rattle.st_words.specs.Promises.{Promises, StateIs, OwnerIs, TakenFrom, IsByHand, IsFresh}
use Rattle.st_words.specs.Careful.{Meaning, ShowsPlace}
use Rattle.st_model.specs.declared.program.Program.{Program}
use Rattle.st_model.specs.Memory.{Data}
use Rattle.st_model.specs.Heap.{Heap}
use Rattle.st_world.specs.World.{World, slot_of, cargo_of, Finds}
use Rattle.st_rule.specs.Rule.{Rule}
use Rattle.st_walks.specs.Walking.{SlotWalks}
use Rattle.st_rule.specs.Laws.{RuleTold, RuleComes}
use Rattle.st_rule.proofs.Groups.{Groups}
use Rattle.st_rule.proofs.Facts.{kind_known}

module _ (m : Meaning) (g : Groups m) (program : Program) (source : Data) (limits : Limits) (h0 h : Heap) (x : World) (r : Rule m program source limits h0 h x) (w : ℕ) (is : w < x.workers) where
  abbrev u : View
  u = x.view w

  cells_same : u.cells ≡ x.cells
  cells_same = r.lists.sized w is

  -- ---- cells

  future_head : (c : ℕ) → IsFuture u c → (x.state c ≡ full_word) ⊎ (x.state c ≤ u.cells)
  future_head c f =
      let k = (kind_known m g program source limits h0 h x r w is c (inl f)).0 f in
      subst (λ (n : ℕ). (x.state c ≡ full_word) ⊎ (x.state c ≤ n)) (sym cells_same) (g.lists_told.future x r.lists c k)

  counter_head : (c : ℕ) → IsCounter u c → head_in (x.state c) ≤ u.cells
  counter_head c f =
      let k = (kind_known m g program source limits h0 h x r w is c (inr f)).1 f in
      subst (λ (n : ℕ). head_in (x.state c) ≤ n) (sym cells_same) (g.lists_told.counter x r.lists c k)

  state_is : (c : ℕ) → StateIs u c (x.state c)
  state_is c = record {
    full = λ at. g.knows_told.full x w c r.knows at;
    count = λ k at. g.knows_told.counts x w c k r.knows at;
    over = λ y at on. g.places_told.over x r.lists w c y r.places at on;
    future = λ f. future_head c f;
    counter = λ f. counter_head c f;
  }

  state_told : (c n : ℕ) → n ≡ x.state c → StateIs u c n
  state_told c n e = subst (λ (k : ℕ). StateIs u c k) (sym e) (state_is c)

  owner_is : (c n : ℕ) → Finds x w (CellLoad c Owner) (Number n) → OwnerIs u c n
  owner_is c n f = (λ k at. g.knows_told.owners x w c n r.knows f k at, λ name at. (g.names_told program source).owner h x w c n name r.names f at)

  next_is : (c n : ℕ) → n ≡ x.next c → (y : Waiter) → Contains u.hand y → y.cell ≡ c → y.leads ≡ true → n ≤ u.cells
  next_is c n e y at same leads =
      let l = g.lists_told.leads x r.lists w y at leads in
      let s = cells_same in
      let f : x.next y.cell ≡ x.next c = ap x.next same in
      omega (arith, l, s, f, e)

  -- ---- a number that is drawn

  fresh : (n : ℕ) → Finds x w Draw (Number n) → IsFresh u n
  fresh n f =
      let d = g.draws_told.fresh x w n r.draws f in
      let none = g.knows_told.unseen x w n r.knows d.0 in
      record { drawn = d.2 w; owners = none.0; names = none.1 }

  -- ---- slots

  there : (slot : Slot) → MayTake u slot → slot_of x slot ≢ None
  there (Cell c) may = g.slots.filled x r.lists w c r.places may
  there (Mail at) may = λ none. let f = g.mail.filled x w at r.requests is may in let e : Some f.0 ≡ None = sym f.1 ∙ none in let no : ⊥ = cc in no

  some_of : (o : Option Chain) → o ≢ None → (chain : Chain) × (o ≡ Some chain)
  some_of None n = absurd (n refl)
  some_of (Some chain) n = (chain, refl)

  from_slot : (slot : Slot) → Can u (SlotTake slot) → TakenFrom u slot (slot_of x slot) (cargo_of x slot)
  from_slot slot can =
      let here : slot_of x slot ≢ None = there slot can.1 in
      let is_there = some_of (slot_of x slot) here in
      let f : Finds x w (SlotTake slot) (Took (slot_of x slot) (cargo_of x slot)) = (refl, refl) in
      let told = g.names_told program source in
      let of = g.slots.of x r.lists slot r.places in
      let low = g.slots.below x r.lists slot r.places here in
      let same = cells_same in
      record {
        of = of.0;
        there = here;
        cell = of.1;
        below = omega (arith, low, same);
        active = λ a. g.slots.active x r.lists w slot r.places can.1 here a;
        by_hand = λ a. g.slots.by_hand x r.lists w slot r.places can.1 a;
        own = λ k at home. g.leases_told.own x w slot (slot_of x slot) (cargo_of x slot) k r.leases is f at home;
        within = λ p n at. g.leases_told.within x w slot (slot_of x slot) (cargo_of x slot) p n r.leases is f at;
        whole = g.leases_told.whole x w slot (slot_of x slot) (cargo_of x slot) r.leases is f;
        names = λ name some has. told.in_slot h x slot is_there.0 name r.names is_there.1 some has;
        names_below = λ name c at. let b = told.below_in_slot h x slot is_there.0 c name r.names is_there.1 at in omega (arith, b, same);
      }

  taken : (slot : Slot) (found : Option Chain) (cargo : Cargo) → Can u (SlotTake slot) → Finds x w (SlotTake slot) (Took found cargo) → TakenFrom u slot found cargo
  taken slot found cargo can f =
      let a : TakenFrom u slot found (cargo_of x slot) = subst (λ (o : Option Chain). TakenFrom u slot o (cargo_of x slot)) (sym f.0) (from_slot slot can) in
      subst (λ (k : Cargo). TakenFrom u slot found k) (sym f.1) a

  -- ---- each step

  pub told : (s : Step) (a : Answer) → Can u s → Finds x w s a → Promises u s a
  told (StackLoad p) (Number n) can f = g.leases_told.loads x w p n r.leases can f
  told (StackStore p n) Done can f = tt
  told (Mark p) Done can f = tt
  told (Look p) (Looked n cargo) can f = g.leases_told.looks x w p n cargo r.leases f
  told (CellLoad c Owner) (Number n) can f = owner_is c n f
  told (CellLoad c State) (Number n) can f = state_told c n f
  told (CellLoad c Value) (Number n) can f = g.knows_told.values x w c n r.knows f
  told (CellLoad c Next) (Number n) can f = λ y at same leads. next_is c n f y at same leads
  told (CellLoad c Standing) (Number n) can f = tt
  told (CellLoad c Trap) (Number n) can f = tt
  told (CellStore c word n) Done can f = tt
  told (CellChange c old new) (Number n) can f = state_told c n f
  told Draw (Number n) can f = fresh n f
  told (ActiveAdd up) (Number n) can f = g.counts_told.adds x w up n r.counts is f
  told ActiveLoad (Number n) can f = g.counts_told.loads x w n r.counts is f
  told StopLoad (Number n) can f = g.knows_told.stop_load x w n r.knows f
  told (StopSet code) (Number n) can f = g.knows_told.stop_set x w code n r.knows f
  told RootTake (Number n) can f = g.lists_told.takes x r.lists w n f
  told (RequestLoad at) (Number n) can f = g.requests_told.requests x w at n r.requests is f
  told (RequestChange at old new) (Number n) can f = g.requests_told.requests x w at n r.requests is f
  told MailLoad (Number n) can f = g.requests_told.letters x w n r.requests f
  told (MailStore at n) Done can f = tt
  told (OutStore i n) Done can f = tt
  told (SlotTake slot) (Took found cargo) can f = taken slot found cargo can f
  told (SlotPut slot chain cargo) Done can f = tt
  told (OutLoad i) (Number n) can f = tt
  told s a can f = absurd f

  -- ---- a chain that comes

  not_start : (wait : Waiting) → IsWaiting wait → wait ≢ waits.Start
  not_start waits.Start i e = absurd i
  not_start waits.Ready i e = absurd i
  not_start (waits.Touch cell) i e = let no : ⊥ = cc in no
  not_start (waits.Join cell least) i e = let no : ⊥ = cc in no
  not_start waits.Trapped i e = absurd i

  stands_for : (slot : Slot) (chain : Chain) (cargo : Cargo) → (IsByHand u slot → IsWaiting cargo.carried.wait) → SlotWalks m slot (Some chain) cargo → m.walks cargo chain × (IsByHand u slot → ShowsPlace m cargo.carried cargo.carried.wait)
  stands_for (Cell c) chain cargo wait s = (s.0, λ hand. s.1 (not_start cargo.carried.wait (wait hand)))
  stands_for (Mail at) chain cargo wait s = (s, λ hand. absurd hand)

  pub comes : (slot : Slot) (chain : Chain) (cargo : Cargo) → Can u (SlotTake slot) → Finds x w (SlotTake slot) (Took (Some chain) cargo) → m.walks cargo chain × (IsByHand u slot → ShowsPlace m cargo.carried cargo.carried.wait)
  comes slot chain cargo can f =
      let a : SlotWalks m slot (Some chain) (cargo_of x slot) = subst (λ (o : Option Chain). SlotWalks m slot o (cargo_of x slot)) (sym f.0) (r.walks slot) in
      let b : SlotWalks m slot (Some chain) cargo = subst (λ (k : Cargo). SlotWalks m slot (Some chain) k) (sym f.1) a in
      stands_for slot chain cargo (λ hand. ((taken slot (Some chain) cargo can f).by_hand hand).2) b

module _ (m : Meaning) (g : Groups m) (program : Program) (source : Data) (limits : Limits) where
  pub rule_told : RuleTold m program source limits
  rule_told h0 h x w s a r is can f = told m g program source limits h0 h x r w is s a can f

  pub rule_comes : RuleComes m program source limits
  rule_comes h0 h x w slot chain cargo r is can f = comes m g program source limits h0 h x r w is slot chain cargo can f
