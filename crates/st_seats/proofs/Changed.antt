-- What a step of the worker w leaves of the places, where x is the world before it and y has the words and slots after it. Stays is what a cell keeps whose thread stays where it is;
-- Mine, that no other worker has the thread. Reach for all_stay where all cells stay, and for One and one_kept where one doesn't; mail_stays and one_mail
-- are for what lies in mail; cell_stays, same_kept and calm are for changes of owners, of State words, or of no word.
use Rattle.std.proofs.Common.{◌≡◌, ◌≢◌, ◌⊎◌, inl, inr, ⊎_elim, ℕ, ◌<◌, List, Option, Some, None, refl, sym, ap, ◌∙◌, subst}
use Rattle.std.specs.List.{Contains}
use mathlib.Core.Logic.{dite}
use native.Mathlib.Decide.{ℕ_discrete}
use Rattle.st_base.specs.declared.chain.Chain.{Chain}
use Rattle.st_base.specs.declared.chain.Waiting.{Waiting}
use Rattle.st_base.specs.declared.chain.Waiting.TheVariants as waits
use Rattle.st_words.specs.declared.view.Carried.{Carried}
use Rattle.st_words.specs.declared.view.Cargo.{Cargo}
use Rattle.st_words.specs.declared.view.Child.{Child}
use Rattle.st_words.specs.declared.view.View.{View}
use Rattle.st_words.specs.Encodings.{waits_word}
use Rattle.st_words.specs.Steps.{IsWaiting, IsChild}
use Rattle.st_world.specs.Functions.{put}
use Rattle.st_world.specs.World.{World, seen}
use Rattle.st_world.proofs.Functions.{put_all}
use Rattle.st_spots.specs.Listing.{Spot, Nowhere, Listed, Held, Behind, Readied, Rooted, counters}
use Rattle.st_lists.specs.Going.{IsQueued}
use Rattle.st_seats.specs.Placing.{Place, Gone, Named, Home, InMail, InTurn, OnStack, IsOver, Rests, WaitsFor, IsTurnSpot, AreOnce, cells_of, chain_cells}
use Rattle.st_seats.proofs.Seats.{Of, Placed, Holds, HoldsHome, ThreadAt, Views, Turn, Stack, Begins, MailAt}

-- the chains, the named child, and the cells that were made full are the same
abbrev pub SameParts : View → View → Type 0
SameParts u v = (v.chains ≡ u.chains) × (v.child ≡ u.child) × (v.filled ≡ u.filled)

-- what is over stays so
abbrev pub StaysOver : World → World → Type 0
StaysOver x y = (k : Waiting) → IsOver (counters x.owner) x.state k → IsOver (counters y.owner) y.state k

-- ---- spots

-- both in a list or a hand, or both of the root
abbrev pub Kin : Spot → Spot → Type 0
Kin s s' = (IsQueued s × IsQueued s') ⊎ ((o : Option ℕ) × (o' : Option ℕ) × (s ≡ Rooted o) × (s' ≡ Rooted o'))

-- the number stays, or goes from list or hand to list or hand, and the chain is in its slot
abbrev pub NumbersStay : (ℕ → Place) → (ℕ → Spot) → (ℕ → Waiting) → (ℕ → Spot) → (ℕ → Waiting) → Type 0
NumbersStay place spot wait spot' wait' = ((d : ℕ) → (spot' d ≡ spot d) ⊎ ((place d ≡ Home) × Kin (spot d) (spot' d))) × ((d : ℕ) → wait' d ≡ wait d)

queued_rests : (Over : Waiting → Type 0) (k : Waiting) (c : ℕ) (s : Spot) (standing unit : ℕ) → IsQueued s → Rests Over k c s standing unit ≡ (IsWaiting k × (standing ≡ waits_word) × (unit ≡ 0))
queued_rests Over k c (Listed e n) standing unit q = refl
queued_rests Over k c (Held w) standing unit q = refl
queued_rests Over k c (Behind w m n) standing unit q = refl
queued_rests Over k c s standing unit q = absurd q

queued_waits : (wait k : Waiting) (s : Spot) → IsQueued s → WaitsFor wait s k ≡ (k ≡ wait)
queued_waits wait k (Listed e n) q = refl
queued_waits wait k (Held w) q = refl
queued_waits wait k (Behind w m n) q = refl
queued_waits wait k s q = absurd q

kin_rests : (Over : Waiting → Type 0) (k : Waiting) (c : ℕ) (s s' : Spot) (standing unit : ℕ) → Kin s s' → Rests Over k c s standing unit → Rests Over k c s' standing unit
kin_rests Over k c s s' standing unit (inl q) r = subst (λ (T : Type 0). T) (queued_rests Over k c s standing unit q.0 ∙ sym (queued_rests Over k c s' standing unit q.1)) r
kin_rests Over k c s s' standing unit (inr q) r = subst (λ (t : Spot). Rests Over k c t standing unit) (sym q.3) (subst (λ (t : Spot). Rests Over k c t standing unit) q.2 r)

kin_waits : (wait k : Waiting) (s s' : Spot) → Kin s s' → WaitsFor wait s k → WaitsFor wait s' k
kin_waits wait k s s' (inl q) r = subst (λ (T : Type 0). T) (queued_waits wait k s q.0 ∙ sym (queued_waits wait k s' q.1)) r
kin_waits wait k s s' (inr q) r = subst (λ (t : Spot). WaitsFor wait t k) (sym q.3) tt

rests_over : (Over Over' : Waiting → Type 0) (k : Waiting) (c : ℕ) (s : Spot) (standing unit : ℕ) → ((k : Waiting) → Over k → Over' k) → Rests Over k c s standing unit → Rests Over' k c s standing unit
rests_over Over Over' k c (Readied w) standing unit f r = (f k r.0, r.1, r.2)
rests_over Over Over' k c s standing unit f r = r

-- ---- who has a thread

-- no worker but this one has it
abbrev pub Mine : ℕ → Place → Type 0
Mine w p = (v : ℕ) → Of v p → v ≡ w

-- cells with other places are others
pub apart : (place : ℕ → Place) (c d : ℕ) (p q : Place) → place c ≡ p → place d ≡ q → p ≢ q → d ≢ c
apart place c d p q e f n z = n (sym e ∙ (ap place (sym z) ∙ f))

module _ (x : World) (spot : ℕ → Spot) (wait : ℕ → Waiting) (P : Placed x spot wait) (w : ℕ) (y : World) (v : View) (spot' : ℕ → Spot) (wait' : ℕ → Waiting) (place' : ℕ → Place) where
  abbrev pub now : World
  now = record y { view = put x.view w v }

  pub record Stays (d : ℕ) : Type 0 where
    pub there : place' d ≡ P.place d
    pub number : (spot' d ≡ spot d) ⊎ ((P.place d ≡ Home) × Kin (spot d) (spot' d))
    pub waits : wait' d ≡ wait d
    pub of : ThreadAt x spot wait P.place d → ThreadAt now spot' wait' place' d
    pub standing : y.standing d ≡ x.standing d
    pub trap : y.trap d ≡ x.trap d
    pub home : y.home d ≡ x.home d
    pub cargo : y.home_cargo d ≡ x.home_cargo d
    pub mail : (u : ℕ) (chain : Chain) → x.post u ≡ Some chain → chain.cell ≡ d → y.post u ≡ Some chain
    pub turn : Contains (chain_cells (x.view w).chains) d → Contains (chain_cells v.chains) d
    pub stack : Contains (cells_of (x.view w).threads) d → Contains (cells_of v.threads) d
    pub child : IsChild (x.view w) d → IsChild v d

  -- its cell is named and not full as before
  pub thread_same : (d : ℕ) → y.cells ≡ x.cells → y.owner d ≡ x.owner d → y.state d ≡ x.state d → ThreadAt x spot wait P.place d → ThreadAt now spot' wait' place' d
  thread_same d n o s t = record {
    below = subst (λ (k : ℕ). d < k) (sym n) t.below;
    named = λ z. t.named (sym o ∙ z);
    future = ap (λ (k : ℕ). counters (λ (i : ℕ). k) d) o ∙ t.future;
    unfilled = λ z. t.unfilled (sym s ∙ z);
  }

  -- the thread of one cell goes, or its words are others: all that the view has was there, of another cell, or holds anew
  pub record One (c : ℕ) : Type 0 where
    pub others : (d : ℕ) → d ≢ c → Stays d
    pub mine : Mine w (P.place c)
    pub here : Holds now spot' wait' place' c (place' c)
    pub turn : (z : Carried) → Contains v.chains z → (Contains (x.view w).chains z × (z.known.note.cell ≢ c)) ⊎ Turn now spot' wait' place' w z
    pub stack : (d : ℕ) → Contains (cells_of v.threads) d → (Contains (cells_of (x.view w).threads) d × (d ≢ c)) ⊎ Stack now spot' wait' place' w d
    pub child : (z : Child) → v.child ≡ Some z → (((x.view w).child ≡ Some z) × (z.cell ≢ c)) ⊎ Begins now spot' wait' place' w z
    pub chains_once : AreOnce (chain_cells v.chains)
    pub threads_once : AreOnce (cells_of v.threads)
    pub filled : (d : ℕ) → Contains v.filled d → Contains (x.view w).filled d ⊎ IsOver (counters y.owner) y.state (waits.Touch d)

  module _ (many : y.workers ≡ x.workers) (over : StaysOver x y) where
    -- ---- cells

    still_spot : (d : ℕ) (s : Spot) → Stays d → P.place d ≢ Home → spot d ≡ s → spot' d ≡ s
    still_spot d s k n e = ⊎_elim (λ (h : spot' d ≡ spot d). h ∙ e) (λ h. absurd (n h.0)) k.number

    home_stays : (d : ℕ) (chain : Chain) → Stays d → HoldsHome x spot wait P.place d chain (x.home_cargo d) → HoldsHome now spot' wait' place' d chain (y.home_cargo d)
    home_stays d chain s h =
        let cargo : Cargo = x.home_cargo d in
        let k : Waiting = cargo.carried.wait in
        let Now : Waiting → Type 0 = IsOver (counters y.owner) y.state in
        let rests : Rests Now k d (spot d) (x.standing d) cargo.unit = rests_over (IsOver (counters x.owner) x.state) Now k d (spot d) (x.standing d) cargo.unit over h.rests in
        subst (HoldsHome now spot' wait' place' d chain) (sym s.cargo) (record {
          at = s.home ∙ h.at;
          cell = h.cell;
          of = h.of;
          rests = subst (λ (n : ℕ). Rests Now k d (spot' d) n cargo.unit) (sym s.standing)
              (⊎_elim (λ (e : spot' d ≡ spot d). subst (λ (t : Spot). Rests Now k d t (x.standing d) cargo.unit) (sym e) rests) (λ q. kin_rests Now k d (spot d) (spot' d) (x.standing d) cargo.unit q.1 rests) s.number);
          waits = subst (λ (j : Waiting). WaitsFor j (spot' d) k) (sym s.waits)
              (⊎_elim (λ (e : spot' d ≡ spot d). subst (λ (t : Spot). WaitsFor (wait d) t k) (sym e) h.waits) (λ q. kin_waits (wait d) k (spot d) (spot' d) q.1 h.waits) s.number);
          stands = h.stands ∙ ap (λ (n : ℕ). Some n) (sym s.standing);
          traps = λ n e. s.trap ∙ h.traps n e;
        })

    at_view : (Has : View → Type 0) → (Has (x.view w) → Has v) → (u : ℕ) → Has (x.view u) → Has (put x.view w v u)
    at_view Has f u = put_all (λ (k : ℕ) (z : View). Has (x.view k) → Has z) x.view w v u (λ (e : u ≡ w) h. f (subst (λ (k : ℕ). Has (x.view k)) e h)) (λ (n : u ≢ w) h. h)

    place_stays : (d : ℕ) → Stays d → (p : Place) → P.place d ≡ p → Holds x spot wait P.place d p → Holds now spot' wait' place' d p
    place_stays d s Gone e h = ((s.home ∙ h.0.0, s.cargo ∙ h.0.1), still_spot d Nowhere s (λ z. let no : ⊥ = cc in no) h.1)
    place_stays d s (Named u) e h = ((s.home ∙ h.0.0, s.cargo ∙ h.0.1), still_spot d Nowhere s (λ z. let no : ⊥ = cc in no) h.1, s.of h.2, at_view (λ (k : View). IsChild k d) s.child u h.3, subst (λ (n : ℕ). u < n) (sym many) h.4)
    place_stays d s Home e h = (s.of h.0, (h.1.0, home_stays d h.1.0 s h.1.1))
    place_stays d s (InMail u) e h = ((s.home ∙ h.0.0, s.cargo ∙ h.0.1), still_spot d Nowhere s (λ z. let no : ⊥ = cc in no) h.1, s.of h.2, (h.3.0, s.mail u h.3.0 h.3.1 h.3.2, h.3.2), subst (λ (n : ℕ). u < n) (sym many) h.4)
    place_stays d s (InTurn u) e h = ((s.home ∙ h.0.0, s.cargo ∙ h.0.1), s.of h.1, at_view (λ (k : View). Contains (chain_cells k.chains) d) s.turn u h.2, subst (λ (n : ℕ). u < n) (sym many) h.3)
    place_stays d s (OnStack u) e h = ((s.home ∙ h.0.0, s.cargo ∙ h.0.1), still_spot d Nowhere s (λ z. let no : ⊥ = cc in no) h.1, s.of h.2, at_view (λ (k : View). Contains (cells_of k.threads) d) s.stack u h.3, subst (λ (n : ℕ). u < n) (sym many) h.4)

    -- ---- mail

    mail_holds : (u : ℕ) (o : Option Chain) (cargo : Cargo) → ((d : ℕ) → P.place d ≡ InMail u → Stays d) → MailAt x spot wait P.place u o cargo → MailAt now spot' wait' place' u o cargo
    mail_holds u None cargo s h = h
    mail_holds u (Some chain) cargo s h =
        let k = s chain.cell h.there in
        record { there = k.there ∙ h.there; of = h.of; over = over cargo.carried.wait h.over; unit = h.unit; stands = (h.stands.0, k.standing ∙ h.stands.1); traps = λ n e. k.trap ∙ h.traps n e }

    pub mail_stays : (u : ℕ) → y.post u ≡ x.post u → y.post_cargo u ≡ x.post_cargo u → ((d : ℕ) → P.place d ≡ InMail u → Stays d) → MailAt now spot' wait' place' u (y.post u) (y.post_cargo u)
    mail_stays u e f s =
        subst (λ (o : Option Chain). MailAt now spot' wait' place' u o (y.post_cargo u)) (sym e)
        (subst (MailAt now spot' wait' place' u (x.post u)) (sym f) (mail_holds u (x.post u) (x.post_cargo u) s (P.mail u)))

    -- ---- views

    turn_stays : (u : ℕ) (z : Carried) → Stays z.known.note.cell → Turn x spot wait P.place u z → Turn now spot' wait' place' u z
    turn_stays u z s t =
        let c : ℕ = z.known.note.cell in
        let same : spot' c ≡ spot c = still_spot c (spot c) s (λ h. let e = t.there in let no : ⊥ = cc in no) refl in
        record {
          there = s.there ∙ t.there;
          number = subst (λ (k : Spot). IsTurnSpot u k (wait' c) z) (sym same) (subst (λ (k : Waiting). IsTurnSpot u (spot c) k z) (sym s.waits) t.number);
          stands = λ n e. s.standing ∙ t.stands n e;
          traps = λ n e. s.trap ∙ t.traps n e;
          over = λ g. over z.wait (t.over g);
        }

    stack_stays : (u c : ℕ) → Stays c → Stack x spot wait P.place u c → Stack now spot' wait' place' u c
    stack_stays u c s t = record { there = s.there ∙ t.there; stands = s.standing ∙ t.stands }

    child_stays : (u : ℕ) (z : Child) → Stays z.cell → Begins x spot wait P.place u z → Begins now spot' wait' place' u z
    child_stays u z s t = record { there = s.there ∙ t.there; stands = λ e. s.standing ∙ t.stands e }

    filled_stays : (u c : ℕ) → Contains (x.view u).filled c → IsOver (counters y.owner) y.state (waits.Touch c)
    filled_stays u c m = over (waits.Touch c) ((P.views u).filled c m)

    -- all that a worker has stays
    view_stays : (u : ℕ) → ((d : ℕ) → Of u (P.place d) → Stays d) → Views now spot' wait' place' u (x.view u)
    view_stays u s =
        let V = P.views u in
        record {
          turn = λ z m. let t = V.turn z m in turn_stays u z (s z.known.note.cell (subst (Of u) (sym t.there) refl)) t;
          stack = λ c m. let t = V.stack c m in stack_stays u c (s c (subst (Of u) (sym t.there) refl)) t;
          child = λ z e. let t = V.child z e in child_stays u z (s z.cell (subst (Of u) (sym t.there) refl)) t;
          chains_once = V.chains_once;
          threads_once = V.threads_once;
          filled = filled_stays u;
        }

    -- ---- the whole

    -- each cell stays, or holds anew and was no other worker's
    kept : ((d : ℕ) → Stays d ⊎ (Mine w (P.place d) × Holds now spot' wait' place' d (place' d))) → ((u : ℕ) → MailAt now spot' wait' place' u (y.post u) (y.post_cargo u)) → Views now spot' wait' place' w v → Placed now spot' wait'
    kept each mail own = record {
      place = place';
      each = λ d. ⊎_elim (λ (s : Stays d). subst (Holds now spot' wait' place' d) (sym s.there) (place_stays d s (P.place d) refl (P.each d))) (λ h. h.1) (each d);
      mail = mail;
      views = λ u. put_all (λ (k : ℕ) (z : View). Views now spot' wait' place' k z) x.view w v u
          (λ (e : u ≡ w). subst (λ (k : ℕ). Views now spot' wait' place' k v) (sym e) own)
          (λ (n : u ≢ w). view_stays u (λ d o. ⊎_elim (λ s. s) (λ h. absurd (n (h.0 u o))) (each d)));
    }

    -- one cell changes
    pub one_kept : (c : ℕ) → One c → ((u : ℕ) → MailAt now spot' wait' place' u (y.post u) (y.post_cargo u)) → Placed now spot' wait'
    one_kept c o mail =
        let V = P.views w in
        kept (λ d. dite (ℕ_discrete d c)
        (λ (e : d ≡ c). inr (subst (λ (k : ℕ). Mine w (P.place k) × Holds now spot' wait' place' k (place' k)) (sym e) (o.mine, o.here)))
        (λ (n : d ≢ c). inl (o.others d n))) mail (record {
          turn = λ z m. ⊎_elim (λ h. turn_stays w z (o.others z.known.note.cell h.1) (V.turn z h.0)) (λ h. h) (o.turn z m);
          stack = λ d m. ⊎_elim (λ h. stack_stays w d (o.others d h.1) (V.stack d h.0)) (λ h. h) (o.stack d m);
          child = λ z e. ⊎_elim (λ h. child_stays w z (o.others z.cell h.1) (V.child z h.0)) (λ h. h) (o.child z e);
          chains_once = o.chains_once;
          threads_once = o.threads_once;
          filled = λ d m. ⊎_elim (filled_stays w d) (λ h. h) (o.filled d m);
        })

    -- what lies in mail is of other cells, and stays
    pub one_mail : (c : ℕ) → One c → ((u : ℕ) → P.place c ≢ InMail u) → (u : ℕ) → y.post u ≡ x.post u → y.post_cargo u ≡ x.post_cargo u → MailAt now spot' wait' place' u (y.post u) (y.post_cargo u)
    one_mail c o n u e f = mail_stays u e f (λ d k. o.others d (λ z. n u (ap P.place (sym z) ∙ k)))

    -- all cells stay
    pub all_stay : ((d : ℕ) → Stays d) → ((u : ℕ) → y.post u ≡ x.post u) → ((u : ℕ) → y.post_cargo u ≡ x.post_cargo u) → SameParts (x.view w) v → cells_of v.threads ≡ cells_of (x.view w).threads → Placed now spot' wait'
    all_stay s post cargo same threads =
        let V = view_stays w (λ d o. s d) in
        kept (λ d. inl (s d)) (λ u. mail_stays u (post u) (cargo u) (λ d e. s d)) (record {
          turn = λ z m. V.turn z (subst (λ (zs : List Carried). Contains zs z) same.0 m);
          stack = λ c m. V.stack c (subst (λ (cs : List ℕ). Contains cs c) threads m);
          child = λ z e. V.child z (sym same.1 ∙ e);
          chains_once = subst (λ (zs : List Carried). AreOnce (chain_cells zs)) (sym same.0) V.chains_once;
          threads_once = subst AreOnce (sym threads) V.threads_once;
          filled = λ c m. V.filled c (subst (λ (cs : List ℕ). Contains cs c) same.2 m);
        })

-- ---- no words change but the owners and the State words

module _ (x : World) (spot : ℕ → Spot) (wait : ℕ → Waiting) (P : Placed x spot wait) (w : ℕ) (owner' state' : ℕ → ℕ) (v : View) (spot' : ℕ → Spot) (wait' : ℕ → Waiting) where
  abbrev named : World
  named = record x { owner = owner'; state = state' }

  pub cell_stays : (place' : ℕ → Place) (d : ℕ) → place' d ≡ P.place d → NumbersStay P.place spot wait spot' wait' → (ThreadAt x spot wait P.place d → ThreadAt (seen w v named) spot' wait' place' d) → (Contains (chain_cells (x.view w).chains) d → Contains (chain_cells v.chains) d) → (Contains (cells_of (x.view w).threads) d → Contains (cells_of v.threads) d) → (IsChild (x.view w) d → IsChild v d) → Stays x spot wait P w named v spot' wait' place' d
  cell_stays place' d there g of turn stack child = record {
    there = there;
    number = g.0 d;
    waits = g.1 d;
    of = of;
    standing = refl;
    trap = refl;
    home = refl;
    cargo = refl;
    mail = λ u chain e f. e;
    turn = turn;
    stack = stack;
    child = child;
  }

  -- all threads stay where they are
  pub same_kept : StaysOver x named → ((d : ℕ) → ThreadAt x spot wait P.place d → ThreadAt (seen w v named) spot' wait' P.place d) → SameParts (x.view w) v → cells_of v.threads ≡ cells_of (x.view w).threads → NumbersStay P.place spot wait spot' wait' → Placed (seen w v named) spot' wait'
  same_kept over of same threads g = all_stay x spot wait P w named v spot' wait' P.place refl over
      (λ d. cell_stays P.place d refl g (of d) (subst (λ (zs : List Carried). Contains (chain_cells zs) d) (sym same.0)) (subst (λ (cs : List ℕ). Contains cs d) (sym threads)) (λ h. (h.0, same.1 ∙ h.1, h.2)))
      (λ u. refl) (λ u. refl) same threads

-- the words and slots are as they were
pub calm : (x : World) (spot : ℕ → Spot) (wait : ℕ → Waiting) (P : Placed x spot wait) (w : ℕ) (v : View) (spot' : ℕ → Spot) (wait' : ℕ → Waiting) → SameParts (x.view w) v → cells_of v.threads ≡ cells_of (x.view w).threads → NumbersStay P.place spot wait spot' wait' → Placed (seen w v x) spot' wait'
calm x spot wait P w v spot' wait' same threads g = same_kept x spot wait P w x.owner x.state v spot' wait' (λ k h. h) (λ d t. thread_same x spot wait P w x v spot' wait' P.place d refl refl refl t) same threads g
