-- A chain is taken from its cell's slot or from mail: home_taken and post_taken.
use Rattle.std.proofs.Common.{◌≡◌, ◌≢◌, ◌⊎◌, inl, inr, ⊎_elim, ℕ, ◌<◌, Bool, true, false, List, ◌∷◌, Option, Some, None, refl, sym, ap, ◌∙◌, subst, arith}
use Rattle.std.specs.List.{Contains}
use mathlib.Core.Logic.{dite}
use native.Mathlib.Decide.{ℕ_discrete}
use Rattle.st_base.specs.declared.chain.Chain.{Chain}
use Rattle.st_base.specs.declared.chain.Note.{Note}
use Rattle.st_base.specs.declared.chain.Waiting.{Waiting}
use Rattle.st_words.specs.declared.view.Slot.TheVariants.{Cell, Mail}
use Rattle.st_words.specs.declared.view.Carried.{Carried}
use Rattle.st_words.specs.declared.view.Cargo.{Cargo}
use Rattle.st_words.specs.declared.view.View.{View}
use Rattle.st_words.specs.Encodings.{running, ready}
use Rattle.st_words.specs.Promises.{IsGoingOn}
use Rattle.st_words.specs.Views.{Progress, with_progress, in_hand, took, no_cargo}
use Rattle.st_words.proofs.Lists.{contains_here, contains_later, contains_case}
use Rattle.st_words.proofs.Puts.{hand_has}
use Rattle.st_world.specs.Functions.{put}
use Rattle.st_world.specs.World.{World, seen, with_chain}
use Rattle.st_world.proofs.Functions.{put_here, put_other, put_id}
use Rattle.st_spots.specs.Listing.{Spot, Nowhere, Held, Readied, Rooted, Lists, counters}
use Rattle.st_lists.specs.Going.{Stays, GoesTaken}
use Rattle.st_seats.specs.Placing.{Place, Home, InMail, InTurn, IsOver, Rests, WaitsFor, IsTurnSpot, Places, cells_of, chain_cells}
use Rattle.st_seats.proofs.Seats.{Of, Placed, at_place, chain_there, in_slot, Turn, MailAt}
use Rattle.st_seats.proofs.Slots.{slot_case, home_told, home_filled}
use Rattle.st_seats.proofs.Changed.{calm}
use Rattle.st_seats.proofs.ChangedSlots.{Slotted, slotted_kept, slot_mail}

-- a chain in a slot goes on only where its wait is over
going_over : (counter : ℕ → Bool) (state : ℕ → ℕ) (k : Waiting) (c : ℕ) (s : Spot) (standing unit : ℕ) → (standing ≡ running) ⊎ (standing ≡ ready) → Rests (IsOver counter state) k c s standing unit → IsOver counter state k
going_over counter state k c (Readied w) standing unit g r = r.0
going_over counter state k c (Rooted o) standing unit g r = subst (IsOver counter state) (sym r.1) tt
going_over counter state k c s standing unit g r = let a = r.1 in let no : ⊥ = ⊎_elim (λ z. omega (arith, a, z)) (λ z. omega (arith, a, z)) g in absurd no

goes_by : (z : Carried) (n : ℕ) → z.standing ≡ Some n → IsGoingOn z → (n ≡ running) ⊎ (n ≡ ready)
goes_by z n e (inl g) = let s : n ≡ running = cc in inl s
goes_by z n e (inr g) = let s : n ≡ ready = cc in inr s

-- the spot of a number that was taken
taken_others : {A : Type 0} (spot : ℕ → Spot) (wait : ℕ → Waiting) (spot' : ℕ → Spot) (wait' : ℕ → Waiting) (b : Bool) (a : A) (c : ℕ) → GoesTaken spot wait spot' wait' b (Some a) c → ((d : ℕ) → d ≢ c → spot' d ≡ spot d) × ((d : ℕ) → wait' d ≡ wait d)
taken_others spot wait spot' wait' true a c g = (λ d n. g.0 d, g.1)
taken_others spot wait spot' wait' false a c g = (λ d n. g.0 d ∙ put_other spot c Nowhere d n, g.1)

taken_here : {A : Type 0} (spot : ℕ → Spot) (wait : ℕ → Waiting) (spot' : ℕ → Spot) (wait' : ℕ → Waiting) (b : Bool) (a : A) (c : ℕ) → GoesTaken spot wait spot' wait' b (Some a) c → ((b ≡ true) × (spot' c ≡ spot c)) ⊎ (spot' c ≡ Nowhere)
taken_here spot wait spot' wait' true a c g = inl (refl, g.0 c)
taken_here spot wait spot' wait' false a c g = inr (g.0 c ∙ put_here spot c Nowhere)

taken_none : (spot : ℕ → Spot) (wait : ℕ → Waiting) (spot' : ℕ → Spot) (wait' : ℕ → Waiting) (b : Bool) (o : Option Chain) (c : ℕ) → o ≡ None → GoesTaken spot wait spot' wait' b o c → Stays spot wait spot' wait'
taken_none spot wait spot' wait' true o c e g = g
taken_none spot wait spot' wait' false None c e g = g
taken_none spot wait spot' wait' false (Some chain) c e g = let no : ⊥ = cc in absurd no

module _ (x : World) (l : Lists x) (P : Places x l) (w : ℕ) (less : w < x.workers) (pr : Progress) (spot' : ℕ → Spot) (wait' : ℕ → Waiting) (same : cells_of pr.threads ≡ cells_of (x.view w).threads) where
  abbrev u : View
  u = x.view w

  -- one more chain in the turn
  one_more : (v : View) (z : Carried) (c : ℕ) (T : Carried → Type 0) → v.chains ≡ z ∷ u.chains → z.known.note.cell ≡ c → P.place c ≢ InTurn w → T z → (y : Carried) → Contains v.chains y → (Contains u.chains y × (y.known.note.cell ≢ c)) ⊎ T y
  one_more v z c T e cell out t y m = ⊎_elim (λ (s : z ≡ y). inr (subst T s t)) (λ k. inl (k, λ s. out (ap P.place (sym s) ∙ ((P.views w).turn y k).there))) (contains_case y z u.chains (subst (λ (zs : List Carried). Contains zs y) e m))

  -- ---- from the slot of its cell

  some_taken : (c : ℕ) (chain : Chain) → x.home c ≡ Some chain → GoesTaken l.spot l.wait spot' wait' (in_hand c u.hand) (Some chain) c → Placed (seen w (with_progress pr (took (Cell c) (Some chain) (x.home_cargo c) u)) (with_chain (Cell c) None no_cargo x)) spot' wait'
  some_taken c chain e g =
      let v : View = with_progress pr (took (Cell c) (Some chain) (x.home_cargo c) u) in
      let home' : ℕ → Option Chain = put x.home c None in
      let cargo' : ℕ → Cargo = put x.home_cargo c no_cargo in
      let place' : ℕ → Place = put P.place c (InTurn w) in
      let Now : World = seen w v (with_chain (Cell c) None no_cargo x) in
      let at : P.place c ≡ Home = home_filled x l P c chain e in
      let h = in_slot x l.spot l.wait P c at in
      let o = h.1.1 in
      let cargo : Cargo = x.home_cargo c in
      let z : Carried = cargo.carried in
      let cell : z.known.note.cell ≡ c = ap (λ (n : Note). n.cell) o.of.0 ∙ (o.of.2 ∙ o.cell) in
      let out : P.place c ≢ InTurn w = λ k. let no : ⊥ = cc in no in
      let others = taken_others l.spot l.wait spot' wait' (in_hand c u.hand) chain c g in
      let number : IsTurnSpot w (spot' c) (wait' c) z = ⊎_elim
      (λ k.
      let hand = hand_has c u.hand k.0 in
      let held : l.spot c ≡ Held w = subst (λ (d : ℕ). l.spot d ≡ Held w) hand.2 ((l.listing.hands w).entries hand.0 hand.1).held in
      let rests = subst (λ (s : Spot). Rests (IsOver (counters x.owner) x.state) z.wait c s (x.standing c) cargo.unit) held o.rests in
      let waits : z.wait ≡ l.wait c = subst (λ (s : Spot). WaitsFor (l.wait c) s z.wait) held o.waits in
      subst (λ (s : Spot). IsTurnSpot w s (wait' c) z) (sym (k.1 ∙ held)) (refl, rests.0, waits ∙ sym (others.1 c), o.stands ∙ ap (λ (n : ℕ). Some n) rests.1))
      (λ k. subst (λ (s : Spot). IsTurnSpot w s (wait' c) z) (sym k) tt)
      (taken_here l.spot l.wait spot' wait' (in_hand c u.hand) chain c g) in
      let turn : Turn Now spot' wait' place' w z = record {
        there = ap place' cell ∙ put_here P.place c (InTurn w);
        number = subst (λ (d : ℕ). IsTurnSpot w (spot' d) (wait' d) z) (sym cell) number;
        stands = λ n k. let s : x.standing c ≡ n = some_one (x.standing c) n (sym o.stands ∙ k) in ap x.standing cell ∙ s;
        traps = λ n k. ap x.trap cell ∙ o.traps n k;
        over = λ k. going_over (counters x.owner) x.state z.wait c (l.spot c) (x.standing c) cargo.unit (goes_by z (x.standing c) o.stands k) o.rests;
      } in
      let S : Slotted x l P w c (InTurn w) v spot' wait' home' cargo' x.post x.post_cargo = record {
        others = λ d n. (others.0 d n, others.1 d, put_other x.home c None d n, put_other x.home_cargo c no_cargo d n);
        posts = λ k chain e n. e;
        turns = λ d n m. contains_later d z.known.note.cell (chain_cells u.chains) m;
        same = (same, refl, refl);
        mine = λ k f. absurd (subst (Of k) at f);
        no_stack = λ k. let no : ⊥ = cc in no;
        no_child = λ k. let no : ⊥ = cc in no;
        here = (
          (put_here x.home c None, put_here x.home_cargo c no_cargo),
          record { below = h.0.below; named = h.0.named; future = h.0.future; unfilled = h.0.unfilled },
          subst (λ (y : View). Contains (chain_cells y.chains) c) (sym (put_here x.view w v)) (subst (Contains (z.known.note.cell ∷ chain_cells u.chains)) cell (contains_here z.known.note.cell (chain_cells u.chains))),
          less,
        );
        turn = one_more v z c (Turn Now spot' wait' place' w) refl cell out turn;
        once = (λ m. out (chain_there x l.spot l.wait P w c (subst (Contains (chain_cells u.chains)) cell m)), (P.views w).chains_once);
      } in
      slotted_kept x l P w c (InTurn w) v spot' wait' home' cargo' x.post x.post_cargo S
      (λ k. slot_mail x l P w c (InTurn w) v spot' wait' home' cargo' x.post x.post_cargo S k (λ z. let no : ⊥ = cc in no) refl refl)
    where
      some_one : (a b : ℕ) → Some a ≡ Some b → a ≡ b
      some_one a b e = cc

  -- nothing goes with no chain
  none_there : (c : ℕ) → x.home c ≡ None → x.home_cargo c ≡ no_cargo
  none_there c e = ⊎_elim (λ h. h.1) (λ p. let h = (home_told x l P c p).1.at in let no : ⊥ = cc in absurd no) (slot_case x l P c)

  -- a slot that is empty stays so
  put_none : {X : Type 0} (f : ℕ → X) (i : ℕ) (a : X) → f i ≡ a → put f i a ≡ f
  put_none {X} f i a e = ap (λ (z : X). put f i z) (sym e) ∙ put_id f i

  pub home_taken : (c : ℕ) (o : Option Chain) → o ≡ x.home c → GoesTaken l.spot l.wait spot' wait' (in_hand c u.hand) o c → Placed (seen w (with_progress pr (took (Cell c) o (x.home_cargo c) u)) (with_chain (Cell c) None no_cargo x)) spot' wait'
  home_taken c (Some chain) e g = some_taken c chain (sym e) g
  home_taken c None e g =
      let s = taken_none l.spot l.wait spot' wait' (in_hand c u.hand) None c refl g in
      subst (λ (f : ℕ → Option Chain). Placed (seen w (with_progress pr u) (record x { home = f; home_cargo = put x.home_cargo c no_cargo })) spot' wait') (sym (put_none x.home c None (sym e)))
      (subst (λ (f : ℕ → Cargo). Placed (seen w (with_progress pr u) (record x { home_cargo = f })) spot' wait') (sym (put_none x.home_cargo c no_cargo (none_there c (sym e))))
      (calm x l.spot l.wait P w (with_progress pr u) spot' wait' (refl, refl, refl) same (λ d. inl (s.0 d), s.1)))

  -- ---- from mail

  post_some : (at : ℕ) (chain : Chain) → x.post at ≡ Some chain → Stays l.spot l.wait spot' wait' → Placed (seen w (with_progress pr (took (Mail at) (Some chain) (x.post_cargo at) u)) (with_chain (Mail at) None no_cargo x)) spot' wait'
  post_some at chain e g =
      let v : View = with_progress pr (took (Mail at) (Some chain) (x.post_cargo at) u) in
      let post' : ℕ → Option Chain = put x.post at None in
      let post_cargo' : ℕ → Cargo = put x.post_cargo at no_cargo in
      let c : ℕ = chain.cell in
      let place' : ℕ → Place = put P.place c (InTurn w) in
      let Now : World = seen w v (with_chain (Mail at) None no_cargo x) in
      let cargo : Cargo = x.post_cargo at in
      let z : Carried = cargo.carried in
      let o = subst (λ (k : Option Chain). MailAt x l.spot l.wait P.place at k cargo) e (P.mail at) in
      let was : P.place c ≡ InMail at = o.there in
      let h = at_place x l.spot l.wait P c (InMail at) was in
      let cell : z.known.note.cell ≡ c = ap (λ (n : Note). n.cell) o.of.0 ∙ o.of.2 in
      let out : P.place c ≢ InTurn w = λ k. let no : ⊥ = cc in no in
      let turn : Turn Now spot' wait' place' w z = record {
        there = ap place' cell ∙ put_here P.place c (InTurn w);
        number = subst (λ (s : Spot). IsTurnSpot w s (wait' z.known.note.cell) z) (sym (ap spot' cell ∙ (g.0 c ∙ h.1))) tt;
        stands = λ n k. let f = o.stands.0 in let s : running ≡ n = cc in ap x.standing cell ∙ (o.stands.1 ∙ s);
        traps = λ n k. ap x.trap cell ∙ o.traps n k;
        over = λ k. o.over;
      } in
      let S : Slotted x l P w c (InTurn w) v spot' wait' x.home x.home_cargo post' post_cargo' = record {
        others = λ d n. (g.0 d, g.1 d, refl, refl);
        posts = λ k y f n. put_other x.post at None k (λ s. let t = ap x.post s in n (one_cell y (sym f ∙ (t ∙ e)))) ∙ f;
        turns = λ d n m. contains_later d z.known.note.cell (chain_cells u.chains) m;
        same = (same, refl, refl);
        mine = λ k f. absurd (subst (Of k) was f);
        no_stack = λ k. let no : ⊥ = cc in no;
        no_child = λ k. let no : ⊥ = cc in no;
        here = (
          h.0,
          record { below = h.2.below; named = h.2.named; future = h.2.future; unfilled = h.2.unfilled },
          subst (λ (y : View). Contains (chain_cells y.chains) c) (sym (put_here x.view w v)) (subst (Contains (z.known.note.cell ∷ chain_cells u.chains)) cell (contains_here z.known.note.cell (chain_cells u.chains))),
          less,
        );
        turn = one_more v z c (Turn Now spot' wait' place' w) refl cell out turn;
        once = (λ m. out (chain_there x l.spot l.wait P w c (subst (Contains (chain_cells u.chains)) cell m)), (P.views w).chains_once);
      } in
      slotted_kept x l P w c (InTurn w) v spot' wait' x.home x.home_cargo post' post_cargo' S
      (λ k. dite (ℕ_discrete k at)
      (λ (s : k ≡ at). subst (λ (y : Option Chain). MailAt Now spot' wait' place' k y (post_cargo' k)) (sym (ap post' s ∙ put_here x.post at None)) (ap post_cargo' s ∙ put_here x.post_cargo at no_cargo))
      (λ (n : k ≢ at). slot_mail x l P w c (InTurn w) v spot' wait' x.home x.home_cargo post' post_cargo' S k (λ z. let t : InMail k ≡ InMail at = sym z ∙ was in let b : k ≡ at = cc in n b) (put_other x.post at None k n) (put_other x.post_cargo at no_cargo k n)))
    where
      one_cell : (y : Chain) → Some y ≡ Some chain → y.cell ≡ chain.cell
      one_cell y f = let s : y ≡ chain = cc in ap (λ (k : Chain). k.cell) s

  pub post_taken : (at : ℕ) (o : Option Chain) → o ≡ x.post at → Stays l.spot l.wait spot' wait' → Placed (seen w (with_progress pr (took (Mail at) o (x.post_cargo at) u)) (with_chain (Mail at) None no_cargo x)) spot' wait'
  post_taken at (Some chain) e g = post_some at chain (sym e) g
  post_taken at None e g =
      subst (λ (f : ℕ → Option Chain). Placed (seen w (with_progress pr u) (record x { post = f; post_cargo = put x.post_cargo at no_cargo })) spot' wait') (sym (put_none x.post at None (sym e)))
      (subst (λ (f : ℕ → Cargo). Placed (seen w (with_progress pr u) (record x { post_cargo = f })) spot' wait') (sym (put_none x.post_cargo at no_cargo (subst (λ (k : Option Chain). MailAt x l.spot l.wait P.place at k (x.post_cargo at)) (sym e) (P.mail at))))
      (calm x l.spot l.wait P w (with_progress pr u) spot' wait' (refl, refl, refl) same (λ d. inl (g.0 d), g.1)))
