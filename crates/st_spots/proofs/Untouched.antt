-- What the change of one number's spot leaves of lists, hands and ready numbers.
use Rattle.std.proofs.Common.{◌≡◌, ◌≢◌, ℕ, Bool, true, false, cond, not, List, [], ◌∷◌, refl, sym, ◌∙◌, subst, ◌==◌}
use Rattle.std.specs.List.{Contains, filter}
use Rattle.st_base.specs.declared.chain.Waiting.{Waiting}
use Rattle.st_words.specs.declared.view.Waiter.{Waiter}
use Rattle.st_words.specs.Views.{without_waiter}
use Rattle.st_words.proofs.Lists.{filter_in, filter_out, other_true, other_false}
use Rattle.st_world.specs.Functions.{put}
use Rattle.st_spots.specs.Listing.{Spot, Held, Behind, Readied, IsList, HandHas, Once, IsTail, EntryHolds, HandHolds, ReadyHolds}
use Rattle.st_world.proofs.Functions.{put_keeps, put_was}
use Rattle.st_spots.proofs.Lists.{list_same}

-- ---- hands

once_cond : (b : Bool) (x : Waiter) (xs ys : List Waiter) → (HandHas ys x.cell → ⊥) → Once ys → Once (cond b (x ∷ ys) ys)
once_cond true x xs ys n o = (n, o)
once_cond false x xs ys n o = o

pub once_filter : (test : Waiter → Bool) (xs : List Waiter) → Once xs → Once (filter test xs)
once_filter test [] o = o
once_filter test (x ∷ xs) o = once_cond (test x) x xs (filter test xs) (λ h. o.0 (h.0, (filter_out test xs h.0 h.1).0, h.2)) (once_filter test xs o.1)

-- the number goes out of the hand, and others stay
pub hand_without : (d e : ℕ) (hand : List Waiter) → e ≢ d → HandHas hand e → HandHas (without_waiter d hand) e
hand_without d e hand n h = (h.0, filter_in (λ (y : Waiter). not (y.cell == d)) hand h.0 h.1 (other_true h.0.cell d (λ (s : h.0.cell ≡ d). n (sym h.2 ∙ s))), h.2)

pub hand_was : (d : ℕ) (hand : List Waiter) (x : Waiter) → Contains (without_waiter d hand) x → Contains hand x × (x.cell ≢ d)
hand_was d hand x m = let r = filter_out (λ (y : Waiter). not (y.cell == d)) hand x m in (r.0, other_false x.cell d r.1)

-- a spot in the hand of a worker
abbrev pub Mine : ℕ → Spot → Type 0
Mine v (Held u) = u ≡ v
Mine v (Behind u c k) = u ≡ v
Mine v _ = ⊥

module _ (workers : ℕ) (spot spot' : ℕ → Spot) (wait : ℕ → Waiting) (next next' : ℕ → ℕ) where
  pub tail_stays : (v c : ℕ) (b : Bool) → next' c ≡ next c → ((d k : ℕ) → spot d ≡ Behind v c k → (spot' d ≡ Behind v c k) × (next' d ≡ next d)) → ((d k : ℕ) → spot' d ≡ Behind v c k → spot d ≡ Behind v c k) → IsTail workers spot wait next v c b → IsTail workers spot' wait next' v c b
  tail_stays v c true n f back t = subst (λ (word : ℕ). IsList next' spot' (Behind v c) word) (sym n) (list_same next next' spot spot' (Behind v c) (next c) f back t)
  tail_stays v c false n f back t = λ d k e. t d k (back d k e)

  pub entry_stays : (v : ℕ) (x : Waiter) → spot' x.cell ≡ Held v → next' x.cell ≡ next x.cell → ((d k : ℕ) → spot d ≡ Behind v x.cell k → (spot' d ≡ Behind v x.cell k) × (next' d ≡ next d)) → ((d k : ℕ) → spot' d ≡ Behind v x.cell k → spot d ≡ Behind v x.cell k) → EntryHolds workers spot wait next v x → EntryHolds workers spot' wait next' v x
  entry_stays v x s n f back ok = record {
    held = s;
    tail = tail_stays v x.cell x.leads n f back ok.tail;
    linked = λ k e. let l = ok.linked k e in (n ∙ l.0, l.1);
    told = ok.told;
  }

  pub record Untouched (v : ℕ) : Type 0 where
    pub stays : (d : ℕ) (s : Spot) → Mine v s → spot d ≡ s → (spot' d ≡ s) × (next' d ≡ next d)
    pub back : (d : ℕ) (s : Spot) → Mine v s → spot' d ≡ s → spot d ≡ s

  pub hand_stays : (v : ℕ) (h : List Waiter) → Untouched v → HandHolds workers spot wait next v h → HandHolds workers spot' wait next' v h
  hand_stays v h c ok = record {
    once = ok.once;
    entries = λ x m. let o = ok.entries x m in let t = c.stays x.cell (Held v) refl o.held in
        entry_stays v x t.0 t.1 (λ d k e. c.stays d (Behind v x.cell k) refl e) (λ d k e. c.back d (Behind v x.cell k) refl e) o;
    has = λ d e. ok.has d (c.back d (Held v) refl e);
  }

-- ---- one number's spot is changed

module _ (workers : ℕ) (spot : ℕ → Spot) (wait : ℕ → Waiting) (next : ℕ → ℕ) (d : ℕ) (s : Spot) where
  pub list_put : (at : ℕ → Spot) (word : ℕ) → ((k : ℕ) → spot d ≢ at k) → ((k : ℕ) → s ≢ at k) → IsList next spot at word → IsList next (put spot d s) at word
  list_put at word a b l = list_same next next spot (put spot d s) at word (λ e k m. (put_keeps spot d s e (at k) m (a k), refl)) (λ e k m. put_was spot d s e (at k) m (b k)) l

  pub untouched_put : (v : ℕ) → (Mine v (spot d) → ⊥) → (Mine v s → ⊥) → Untouched workers spot (put spot d s) wait next next v
  untouched_put v a b = record {
    stays = λ e z m h. (put_keeps spot d s e z h (λ q. a (subst (Mine v) (sym q) m)), refl);
    back = λ e z m h. put_was spot d s e z h (λ q. b (subst (Mine v) (sym q) m));
  }

  pub ready_put : (v : ℕ) (r : List ℕ) → spot d ≢ Readied v → s ≢ Readied v → ReadyHolds workers spot wait next v r → ReadyHolds workers (put spot d s) wait next v r
  ready_put v r a b ok = record {
    of = λ c m. put_keeps spot d s c (Readied v) (ok.of c m) a;
    has = λ c e. ok.has c (put_was spot d s c (Readied v) e b);
  }
