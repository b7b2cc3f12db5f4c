-- A chain of the turn is put into its cell's slot or into mail: home_put and post_put.
use Rattle.std.proofs.Common.{◌≡◌, ◌≢◌, ◌⊎◌, inl, inr, ⊎_elim, ℕ, ◌<◌, Bool, true, false, Option, Some, None, refl, sym, ap, ◌∙◌, subst, arith}
use Rattle.std.specs.List.{Contains}
use mathlib.Core.Logic.{dite}
use native.Mathlib.Decide.{ℕ_discrete}
use Rattle.st_base.specs.declared.chain.Chain.{Chain}
use Rattle.st_base.specs.declared.chain.Note.{Note}
use Rattle.st_base.specs.declared.chain.Waiting.{Waiting}
use Rattle.st_base.specs.declared.chain.Waiting.TheVariants as waits
use Rattle.st_words.specs.declared.view.Slot.TheVariants.{Cell, Mail}
use Rattle.st_words.specs.declared.view.Carried.{Carried}
use Rattle.st_words.specs.declared.view.Cargo.{Cargo}
use Rattle.st_words.specs.declared.view.View.{View}
use Rattle.st_words.specs.Encodings.{running, waits_word}
use Rattle.st_words.specs.Steps.{IsWaiting}
use Rattle.st_words.specs.Careful.{Meaning, MayBePut, standing_of}
use Rattle.st_words.specs.Views.{Progress, with_progress, in_hand, slot_put}
use Rattle.st_words.proofs.Puts.{hand_has}
use Rattle.st_world.specs.Functions.{put}
use Rattle.st_world.specs.World.{World, seen, with_chain}
use Rattle.st_world.proofs.Functions.{put_here, put_other}
use Rattle.st_spots.specs.Listing.{Spot, Nowhere, Held, Lists, counters}
use Rattle.st_lists.specs.Going.{Stays, ComesInto, GoesPut}
use Rattle.st_seats.specs.Placing.{Place, Home, InMail, InTurn, IsOver, Rests, WaitsFor, IsTurnSpot, Places, cells_of}
use Rattle.st_seats.proofs.MovedLists.{filter_numbers, filter_rest, filter_once}
use Rattle.st_seats.proofs.Seats.{Of, Placed, HoldsHome, at_place, turn_there, turn_spot, MailAt}
use Rattle.st_seats.proofs.ChangedSlots.{Slotted, slotted_kept, slot_mail}

waiting_word : (k : Waiting) (n : ℕ) → IsWaiting k → standing_of k ≡ Some n → n ≡ waits_word
waiting_word (waits.Touch f) n i e = cc
waiting_word (waits.Join f least) n i e = cc
waiting_word k n i e = absurd i

-- how a chain rests that is put, and where the numbers of others are
abbrev RestsPut : (Waiting → Type 0) → (ℕ → Spot) → (ℕ → Waiting) → (ℕ → Spot) → (ℕ → Waiting) → ℕ → Waiting → ℕ → Type 0
RestsPut Over spot wait spot' wait' c k standing = ((d : ℕ) → d ≢ c → (spot' d ≡ spot d) × (wait' d ≡ wait d)) × Rests Over k c (spot' c) standing 0 × WaitsFor (wait' c) (spot' c) k

module _ (Over : Waiting → Type 0) (spot : ℕ → Spot) (wait : ℕ → Waiting) (spot' : ℕ → Spot) (wait' : ℕ → Waiting) (w c : ℕ) (standing : ℕ) where
  held_rests : (k : Waiting) → IsWaiting k → standing ≡ waits_word → spot' c ≡ Held w → k ≡ wait' c → Rests Over k c (spot' c) standing 0 × WaitsFor (wait' c) (spot' c) k
  held_rests k i s e f = subst (λ (t : Spot). Rests Over k c t standing 0 × WaitsFor (wait' c) t k) (sym e) ((i, s, refl), f)

  comes_in : (k : Waiting) → IsWaiting k → standing ≡ waits_word → ComesInto spot wait spot' wait' w c k → RestsPut Over spot wait spot' wait' c k standing
  comes_in k i s g =
      let r = held_rests k i s (g.0 c ∙ put_here spot c (Held w)) (sym (g.1 c ∙ put_here wait c k)) in
      (λ d n. (g.0 d ∙ put_other spot c (Held w) d n, g.1 d ∙ put_other wait c k d n), r.0, r.1)

  -- by whether its number is in the hand
  pub put_rests : (b : Bool) (k : Waiting) → (b ≡ true → spot c ≡ Held w) → (spot c ≡ Nowhere) ⊎ ((spot c ≡ Held w) × IsWaiting k × (k ≡ wait c)) → standing_of k ≡ Some standing → GoesPut spot wait spot' wait' b w c k → RestsPut Over spot wait spot' wait' c k standing
  put_rests true k held turn shows g = ⊎_elim
      (λ q. let h = held refl in let no : ⊥ = cc in absurd no)
      (λ q. let r = held_rests k q.1 (waiting_word k standing q.1 shows) (g.0 c ∙ q.0) (q.2 ∙ sym (g.1 c)) in (λ d m. (g.0 d, g.1 d), r.0, r.1)) turn
  put_rests false (waits.Touch f) held turn shows g = comes_in (waits.Touch f) tt (waiting_word (waits.Touch f) standing tt shows) g
  put_rests false (waits.Join f least) held turn shows g = comes_in (waits.Join f least) tt (waiting_word (waits.Join f least) standing tt shows) g
  put_rests false waits.Trapped held turn shows g = ⊎_elim
      (λ (q : spot c ≡ Nowhere).
      let r : Rests Over waits.Trapped c (spot' c) standing 0 × WaitsFor (wait' c) (spot' c) waits.Trapped = subst (λ (t : Spot). Rests Over waits.Trapped c t standing 0 × WaitsFor (wait' c) t waits.Trapped) (sym (g.0 c ∙ q)) ((refl, cc, refl), tt) in
      (λ d m. (g.0 d, g.1 d), r.0, r.1))
      (λ q. absurd q.1) turn
  put_rests false waits.Start held turn shows g = let no : ⊥ = cc in absurd no
  put_rests false waits.Ready held turn shows g = let no : ⊥ = cc in absurd no

module _ (x : World) (l : Lists x) (P : Places x l) (w : ℕ) (pr : Progress) (spot' : ℕ → Spot) (wait' : ℕ → Waiting) (same : cells_of pr.threads ≡ cells_of (x.view w).threads) where
  abbrev u : View
  u = x.view w

  -- a chain of the turn that is to be put, with its cell
  module _ (z : Carried) (c : ℕ) (m : Contains u.chains z) (cell : z.known.note.cell ≡ c) where
    there : P.place c ≡ InTurn w
    there = turn_there x l.spot l.wait P w c (z, m, cell)

    abbrev Was : ℕ → Type 0
    Was d = IsTurnSpot w (l.spot d) (l.wait d) z × ((n : ℕ) → z.standing ≡ Some n → x.standing d ≡ n) × ((n : ℕ) → z.trap ≡ Some n → x.trap d ≡ n)

    was : Was c
    was = let t = (P.views w).turn z m in subst Was cell (t.number, t.stands, t.traps)

    at_spot : (l.spot c ≡ Nowhere) ⊎ ((l.spot c ≡ Held w) × IsWaiting z.wait × (z.wait ≡ l.wait c) × (z.standing ≡ Some waits_word))
    at_spot = ⊎_elim (λ q. inl q) (λ (q : l.spot c ≡ Held w). let i = subst (λ (s : Spot). IsTurnSpot w s (l.wait c) z) q was.0 in inr (q, i.1, i.2, i.3)) (turn_spot x l.spot l.wait P w c there)

  -- ---- into the slot of its cell

  at_home : (m : Meaning) (chain : Chain) (cargo : Cargo) → MayBePut m u (Cell chain.cell) chain cargo → GoesPut l.spot l.wait spot' wait' (in_hand chain.cell u.hand) w chain.cell chain.wait → Placed (seen w (with_progress pr (slot_put (Cell chain.cell) chain cargo u)) (with_chain (Cell chain.cell) (Some chain) cargo x)) spot' wait'
  at_home m chain cargo may g =
      let c : ℕ = chain.cell in
      let z : Carried = cargo.carried in
      let v : View = with_progress pr (slot_put (Cell c) chain cargo u) in
      let home' : ℕ → Option Chain = put x.home c (Some chain) in
      let cargo' : ℕ → Cargo = put x.home_cargo c cargo in
      let place' : ℕ → Place = put P.place c Home in
      let Now : World = seen w v (with_chain (Cell c) (Some chain) cargo x) in
      let carries = may.carries in
      let cell : z.known.note.cell ≡ c = ap (λ (n : Note). n.cell) carries.note ∙ carries.cell in
      let at = there z c carries.carried cell in
      let told = was z c carries.carried cell in
      let h = at_place x l.spot l.wait P c (InTurn w) at in
      let unit : cargo.unit ≡ 0 = may.unit in
      let shows = may.shows in
      let word : z.standing ≡ Some (x.standing c) = shows.2 ∙ ap (λ (n : ℕ). Some n) (sym (told.1 shows.0 shows.2)) in
      let stands : standing_of z.wait ≡ Some (x.standing c) = shows.1 ∙ (sym shows.2 ∙ word) in
      let rests : RestsPut (IsOver (counters x.owner) x.state) l.spot l.wait spot' wait' c z.wait (x.standing c) = put_rests (IsOver (counters x.owner) x.state) l.spot l.wait spot' wait' w c (x.standing c) (in_hand c u.hand) z.wait
      (λ b. let y = hand_has c u.hand b in subst (λ (d : ℕ). l.spot d ≡ Held w) y.2 ((l.listing.hands w).entries y.0 y.1).held)
      (⊎_elim (λ q. inl q) (λ q. inr (q.0, q.1, q.2)) (at_spot z c carries.carried cell)) stands
      (subst (λ (k : Waiting). GoesPut l.spot l.wait spot' wait' (in_hand c u.hand) w c k) (sym carries.wait) g) in
      let S : Slotted x l P w c Home v spot' wait' home' cargo' x.post x.post_cargo = record {
        others = λ d n. let o = rests.0 d n in (o.0, o.1, put_other x.home c (Some chain) d n, put_other x.home_cargo c cargo d n);
        posts = λ k y e n. e;
        turns = λ d n q. filter_numbers c d u.chains q n;
        same = (same, refl, refl);
        mine = λ k f. sym (subst (Of k) at f);
        no_stack = λ k. let no : ⊥ = cc in no;
        no_child = λ k. let no : ⊥ = cc in no;
        here = (
          record { below = h.1.below; named = h.1.named; future = h.1.future; unfilled = h.1.unfilled },
          (
            chain,
            subst (HoldsHome Now spot' wait' place' c chain) (sym (put_here x.home_cargo c cargo)) (record {
              at = put_here x.home c (Some chain);
              cell = refl;
              of = (carries.note, carries.wait, carries.cell, omega (arith, unit));
              rests = subst (Rests (IsOver (counters x.owner) x.state) z.wait c (spot' c) (x.standing c)) (sym unit) rests.1;
              waits = rests.2;
              stands = word;
              traps = told.2;
            }),
          ),
        );
        turn = λ y q. inl (filter_rest c u.chains y q);
        once = filter_once c u.chains (P.views w).chains_once;
      } in
      slotted_kept x l P w c Home v spot' wait' home' cargo' x.post x.post_cargo S
      (λ k. slot_mail x l P w c Home v spot' wait' home' cargo' x.post x.post_cargo S k (λ z. let no : ⊥ = cc in no) refl refl)

  pub home_put : (m : Meaning) (c : ℕ) (chain : Chain) (cargo : Cargo) → chain.cell ≡ c → MayBePut m u (Cell c) chain cargo → GoesPut l.spot l.wait spot' wait' (in_hand c u.hand) w c chain.wait → Placed (seen w (with_progress pr (slot_put (Cell c) chain cargo u)) (with_chain (Cell c) (Some chain) cargo x)) spot' wait'
  home_put m c chain cargo e = subst (λ (d : ℕ). MayBePut m u (Cell d) chain cargo → GoesPut l.spot l.wait spot' wait' (in_hand d u.hand) w d chain.wait → Placed (seen w (with_progress pr (slot_put (Cell d) chain cargo u)) (with_chain (Cell d) (Some chain) cargo x)) spot' wait') e (at_home m chain cargo)

  -- ---- into mail

  pub post_put : (m : Meaning) (at : ℕ) (chain : Chain) (cargo : Cargo) → MayBePut m u (Mail at) chain cargo → (x.post at ≡ None) × (at < x.workers) → Stays l.spot l.wait spot' wait' → Placed (seen w (with_progress pr (slot_put (Mail at) chain cargo u)) (with_chain (Mail at) (Some chain) cargo x)) spot' wait'
  post_put m at chain cargo may known g =
      let c : ℕ = chain.cell in
      let z : Carried = cargo.carried in
      let v : View = with_progress pr (slot_put (Mail at) chain cargo u) in
      let post' : ℕ → Option Chain = put x.post at (Some chain) in
      let post_cargo' : ℕ → Cargo = put x.post_cargo at cargo in
      let place' : ℕ → Place = put P.place c (InMail at) in
      let Now : World = seen w v (with_chain (Mail at) (Some chain) cargo x) in
      let carries = may.carries in
      let cell : z.known.note.cell ≡ c = ap (λ (n : Note). n.cell) carries.note ∙ carries.cell in
      let turn = there z c carries.carried cell in
      let told = was z c carries.carried cell in
      let h = at_place x l.spot l.wait P c (InTurn w) turn in
      let unit : cargo.unit ≡ 1 = may.unit in
      let word : z.standing ≡ Some running = may.shows.0 in
      let none : l.spot c ≡ Nowhere = ⊎_elim (λ q. q) (λ q. let f = q.3 in let no : ⊥ = cc in absurd no) (at_spot z c carries.carried cell) in
      let S : Slotted x l P w c (InMail at) v spot' wait' x.home x.home_cargo post' post_cargo' = record {
        others = λ d n. (g.0 d, g.1 d, refl, refl);
        posts = λ k y f n. put_other x.post at (Some chain) k (λ s. let t = sym f ∙ (ap x.post s ∙ known.0) in let no : ⊥ = cc in no) ∙ f;
        turns = λ d n q. filter_numbers c d u.chains q n;
        same = (same, refl, refl);
        mine = λ k f. sym (subst (Of k) turn f);
        no_stack = λ k. let no : ⊥ = cc in no;
        no_child = λ k. let no : ⊥ = cc in no;
        here = (h.0, g.0 c ∙ none, record { below = h.1.below; named = h.1.named; future = h.1.future; unfilled = h.1.unfilled }, (chain, put_here x.post at (Some chain), refl), known.1);
        turn = λ y q. inl (filter_rest c u.chains y q);
        once = filter_once c u.chains (P.views w).chains_once;
      } in
      slotted_kept x l P w c (InMail at) v spot' wait' x.home x.home_cargo post' post_cargo' S
      (λ k. dite (ℕ_discrete k at)
      (λ (s : k ≡ at). subst (λ (j : ℕ). MailAt Now spot' wait' place' j (post' j) (post_cargo' j)) (sym s)
      (subst (λ (y : Option Chain). MailAt Now spot' wait' place' at y (post_cargo' at)) (sym (put_here x.post at (Some chain)))
      (subst (λ (y : Cargo). MailAt Now spot' wait' place' at (Some chain) y) (sym (put_here x.post_cargo at cargo)) (record {
        there = put_here P.place c (InMail at);
        of = (carries.note, carries.wait, carries.cell, omega (arith, unit));
        over = ((P.views w).turn z carries.carried).over (inl word);
        unit = unit;
        stands = (word, told.1 running word);
        traps = told.2;
      }))))
      (λ (n : k ≢ at). slot_mail x l P w c (InMail at) v spot' wait' x.home x.home_cargo post' post_cargo' S k (λ z. let no : ⊥ = cc in no) (put_other x.post at (Some chain) k n) (put_other x.post_cargo at cargo k n)))
