-- A board that is opened for the root's thread has the rule: rule_opened; and what it means that nothing is active: rule_rests.
use Rattle.std.proofs.Common.{◌≡◌, ◌≢◌, ◌⊎◌, inl, inr, ⊎_elim, ℕ, ◌<◌, List, [], ◌∷◌, ◌++◌, Option, Some, None, refl, sym, subst}
use Rattle.std.specs.List.{Contains}
use Rattle.st_base.specs.declared.chain.Chain.{Chain}
use Rattle.st_base.specs.declared.limits.Limits.{Limits}
use Rattle.st_base.specs.declared.thread.Thread.{Thread}
use Rattle.st_words.specs.declared.view.Slot.{Slot}
use Rattle.st_words.specs.declared.view.Carried.{Carried}
use Rattle.st_words.specs.declared.view.Slot.TheVariants.{Cell, Mail}
use Rattle.st_words.specs.declared.view.Child.{Child}
use Rattle.st_words.specs.declared.view.Known.{Known}
use Rattle.st_words.specs.Careful.{Meaning, TopIs}
use Rattle.st_model.specs.declared.program.Program.{Program}
use Rattle.st_model.specs.Memory.{Data}
use Rattle.st_model.specs.Heap.{Path, Heap, new_thread}
use Rattle.st_words.proofs.Lists.{contains_here, contains_later, contains_case, contains_none}
use Rattle.st_made.specs.Items.{IsLive}
use Rattle.st_made.specs.Runs.{all_known, known_of}
use Rattle.st_world.specs.World.{World, slot_of, cargo_of}
use Rattle.st_spots.specs.Listing.{Lists}
use Rattle.st_seats.specs.Placing.{Place, InMail, InTurn, OnStack, PlaceHolds, MailHolds, Places}
use Rattle.st_seats.specs.Laws.{IsIdle}
use Rattle.st_seats.proofs.MovedLists.{map_has}
use Rattle.st_threads.proofs.Lists.{known_case}
use Rattle.st_rule.specs.Rule.{Rule}
use Rattle.st_rule.specs.Laws.{RuleOpened, RuleRests}
use Rattle.st_rule.proofs.Groups.{Groups}

-- no child is named where there is no thread
no_top : (P : Known → Type 0) (ts : List Known) → ts ≡ [] → TopIs ts P → ⊥
no_top P [] e t = absurd t
no_top P (t ∷ ts) e top = let no : ⊥ = cc in no

none_named : (o : Option Child) → (o ≢ None → ⊥) → o ≡ None
none_named None n = refl
none_named (Some x) n = absurd (n (λ e. let no : ⊥ = cc in no))

none_in : {X : Type 0} (xs : List X) (y : X) → xs ≡ [] → Contains xs y → ⊥
none_in {X} xs y e at = contains_none y (subst (λ (zs : List X). Contains zs y) e at)

both_case : (ts us : List Known) (k : Known) → Contains (ts ++ us) k → Contains ts k ⊎ Contains us k
both_case [] us k at = inr at
both_case (t ∷ ts) us k at = ⊎_elim
    (λ (e : t ≡ k). inl (subst (λ (z : Known). Contains (z ∷ ts) k) (sym e) (contains_here k ts)))
    (λ (more : Contains (ts ++ us) k). ⊎_elim (λ (n : Contains ts k). inl (contains_later k t ts n)) (λ (n : Contains us k). inr n) (both_case ts us k more))
    (contains_case k t (ts ++ us) at)

abbrev PlaceAt : (x : World) (l : Lists x) → Places x l → ℕ → Place → Type 0
PlaceAt x l p c q = PlaceHolds x.workers x.cells l.spot l.wait x.owner x.state x.standing x.trap x.home x.home_cargo x.post x.post_cargo x.view p.place c q

abbrev MailAt : (x : World) (l : Lists x) → Places x l → ℕ → Option Chain → Type 0
MailAt x l p v o = MailHolds x.workers x.cells l.spot l.wait x.owner x.state x.standing x.trap x.home x.home_cargo x.post x.post_cargo x.view p.place v o (x.post_cargo v)

-- who has a thread is a worker
of_stack : (x : World) (l : Lists x) (p : Places x l) (w : ℕ) (t : Known) → Contains (x.view w).threads t → w < x.workers
of_stack x l p w t at =
    let there = ((p.views w).stack t.note.cell (map_has (λ (k : Known). k.note.cell) (x.view w).threads t t.note.cell at refl)).there in
    let holds : PlaceAt x l p t.note.cell (OnStack w) = subst (PlaceAt x l p t.note.cell) there (p.each t.note.cell) in
    holds.4

of_turn : (x : World) (l : Lists x) (p : Places x l) (w : ℕ) (y : Carried) → Contains (x.view w).chains y → w < x.workers
of_turn x l p w y at =
    let there = ((p.views w).turn y at).there in
    let holds : PlaceAt x l p y.known.note.cell (InTurn w) = subst (PlaceAt x l p y.known.note.cell) there (p.each y.known.note.cell) in
    holds.3

of_mail : (x : World) (l : Lists x) (p : Places x l) (v : ℕ) (chain : Chain) → x.post v ≡ Some chain → v < x.workers
of_mail x l p v chain at =
    let mail : MailAt x l p v (Some chain) = subst (MailAt x l p v) at (p.mail v) in
    let holds : PlaceAt x l p chain.cell (InMail v) = subst (PlaceAt x l p chain.cell) mail.there (p.each chain.cell) in
    holds.4

module _ (m : Meaning) (g : Groups m) (program : Program) (source : Data) (limits : Limits) where
  pub rule_opened : RuleOpened m program source limits
  rule_opened s workers meant start few =
      let thread = new_thread s.top s.registers in
      let l = g.lists_first limits workers thread in
      record {
        lists = l.0;
        places = g.places_first limits workers thread l.0 l.1.0 l.1.1;
        leases = g.leases_first limits workers thread;
        requests = g.requests_first limits workers thread few;
        counts = g.counts_first limits workers thread few;
        draws = g.draws_first limits workers thread few;
        knows = g.knows_first limits workers thread;
        threads = g.threads_first s limits workers;
        names = g.names_first program source s limits workers start;
        output = g.output_first s limits workers;
        within = g.limits_first program source s limits workers start;
        walks = g.walks_first limits workers thread (meant.root s start);
      }

  idle : (h0 h : Heap) (x : World) (r : Rule m program source limits h0 h x) → x.active ≡ 0 → (w : ℕ) → w < x.workers → IsIdle (x.view w)
  idle h0 h x r e w l =
      let threads : (x.view w).threads ≡ [] = g.none.threads x w r.counts l e in
      record {
        threads = threads;
        chains = g.none.chains x w r.counts l e;
        child = none_named (x.view w).child (λ d. no_top _ (x.view w).threads threads ((r.within.numbers w).pending (inr d)));
        hand = g.none.hand x w r.counts l e;
      }

  no_mail : (h0 h : Heap) (x : World) (r : Rule m program source limits h0 h x) → x.active ≡ 0 → (v : ℕ) → v < x.workers → x.post v ≡ None
  no_mail h0 h x r e v l = g.none.post x v r.counts l e

  -- a thread of a view is of a worker, so there is none
  none_here : (h0 h : Heap) (x : World) (r : Rule m program source limits h0 h x) → x.active ≡ 0 → (w : ℕ) (k : Known) → Contains (all_known (x.view w)) k → ⊥
  none_here h0 h x r e w k at = ⊎_elim
      (λ (t : Contains (x.view w).threads k).
      let is = of_stack x r.lists r.places w k t in
      none_in (x.view w).threads k (idle h0 h x r e w is).threads t)
      (λ (t : Contains (known_of (x.view w).chains) k).
      let y = known_case (x.view w).chains k t in
      let is = of_turn x r.lists r.places w y.0 y.1 in
      none_in (x.view w).chains y.0 (idle h0 h x r e w is).chains y.1)
      (both_case (x.view w).threads (known_of (x.view w).chains) k at)

  in_home : (h0 h : Heap) (x : World) (r : Rule m program source limits h0 h x) → x.active ≡ 0 → (p : Path) (t : Thread) (z : Slot) (b : Chain) → slot_of x z ≡ Some b → (cargo_of x z).carried.known.path ≡ p → (cargo_of x z).carried.known.thread ≡ t → (c : ℕ) × (chain : Chain) × (x.home c ≡ Some chain) × ((x.home_cargo c).carried.known.path ≡ p) × ((x.home_cargo c).carried.known.thread ≡ t)
  in_home h0 h x r e p t (Cell c) b at path same = (c, b, at, path, same)
  in_home h0 h x r e p t (Mail v) b at path same = let none = no_mail h0 h x r e v (of_mail x r.lists r.places v b at) in let no : ⊥ = cc in absurd no

  live : (h0 h : Heap) (x : World) (r : Rule m program source limits h0 h x) → x.active ≡ 0 → (p : Path) (t : Thread) → h.thread p ≡ Some t → IsLive t.standing → (c : ℕ) × (chain : Chain) × (x.home c ≡ Some chain) × ((x.home_cargo c).carried.known.path ≡ p) × ((x.home_cargo c).carried.known.thread ≡ t)
  live h0 h x r e p t at is = ⊎_elim
      (λ found. absurd (none_here h0 h x r e found.0 found.1 found.2))
      (λ found. in_home h0 h x r e p t found.0 found.1 found.2 found.3 found.4)
      (g.threads_told.somewhere h x p t r.threads at is)

  pub rule_rests : RuleRests m program source limits
  rule_rests h0 h x r e = record {
    idle = idle h0 h x r e;
    no_mail = no_mail h0 h x r e;
    live = live h0 h x r e;
    still = λ c. (g.rest.still x r.lists r.places (idle h0 h x r e) (no_mail h0 h x r e) (λ c l. g.none.home x c r.counts l e) c).1;
  }
