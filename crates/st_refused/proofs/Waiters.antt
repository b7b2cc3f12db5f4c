-- Numbers and threads that wait: leader_linked, tail_unlinked, tail_lost, waiter_forgotten, listed_at_full, waiter_left, readied_in_turn and waits_in_mail.
use Rattle.std.proofs.Common.{◌≡◌, ◌≢◌, ◌⊎◌, inl, inr, ⊎_elim, ℕ, ◌-◌, Bool, true, false, cond, List, ◌∷◌, map, Option, Some, refl, sym, ap, ◌∙◌, subst, arith, eq-eqb, ◌==◌}
use Rattle.std.specs.List.{Contains}
use mathlib.Core.Logic.{dite}
use native.Mathlib.Decide.{ℕ_discrete}
use Rattle.st_base.specs.declared.chain.Chain.{Chain}
use Rattle.st_base.specs.declared.chain.Waiting.{Waiting}
use Rattle.st_base.specs.declared.chain.Waiting.TheVariants as waits
use Rattle.st_words.specs.declared.view.CellWord.TheVariants.{Next, Standing}
use Rattle.st_words.specs.declared.view.Slot.TheVariants.{Mail}
use Rattle.st_words.specs.declared.view.Carried.{Carried}
use Rattle.st_words.specs.declared.view.Cargo.{Cargo}
use Rattle.st_words.specs.declared.view.Waiter.{Waiter}
use Rattle.st_words.specs.declared.view.View.{View}
use Rattle.st_words.specs.Encodings.{full_word, ready}
use Rattle.st_words.specs.Steps.{CellStore, CellChange, SlotPut, Done, Number}
use Rattle.st_words.specs.Views.{with_progress, view_after, with_next, with_standing, without_waiter, in_hand}
use Rattle.st_words.proofs.Lists.{contains_here, map_in}
use Rattle.st_words.proofs.Safe.{readied}
use Rattle.st_world.specs.Functions.{put}
use Rattle.st_world.specs.World.{World, with_word, waking, seen, world_after, put_if}
use Rattle.st_world.proofs.Functions.{put_here, put_other, put_all}
use Rattle.st_spots.specs.Listing.{Spot, Listed, Behind, Among, Spells, HandHas, Lists, counters, head_by}
use Rattle.st_lists.specs.Going.{IsQueued}
use Rattle.st_spots.proofs.Apart.{listed_held, listed_behind, behind_listed, behind_held}
use Rattle.st_spots.proofs.Lists.{rest_of}
use Rattle.st_spots.proofs.Nexts.{Leads, next_was}
use Rattle.st_spots.proofs.Tidies.{held}
use Rattle.st_seats.specs.Placing.{IsOver, IsTurnSpot, PostHolds, MailHolds}
use Rattle.st_refused.specs.Refutations.{LeaderLinked, TailUnlinked, TailLost, ending_at, WaiterForgotten, ListedAtFull, WaiterLeft, ReadiedInTurn, WaitsInMail}
use Rattle.st_refused.proofs.Lost.{reached, tail_of, behind_there, home_queued, head_of, Cut, lost}

-- the element with this number is changed
changed_there : {X : Type 0} (number : X → ℕ) (change : X → X) (c : ℕ) (xs : List X) (x : X) → Contains xs x → number x ≡ c → Contains (map (λ (y : X). cond (number y == c) (change y) y) xs) (change x)
changed_there {X} number change c xs x m e = subst (λ (z : X). Contains (map (λ (y : X). cond (number y == c) (change y) y) xs) z) (ap (λ (b : Bool). cond b (change x) x) (eq-eqb (number x) c e)) (map_in (λ (y : X). cond (number y == c) (change y) y) xs x m)

-- what is so of the hand of w and of each hand that stays
hand_by : (x : World) (w : ℕ) (u : View) (Q : List Waiter → List Waiter → Type 0) → Q u.hand (x.view w).hand → ((h : List Waiter) → Q h h) → (v : ℕ) → Q (put x.view w u v).hand (x.view v).hand
hand_by x w u Q here others v = put_all (λ (j : ℕ) (z : View). Q z.hand (x.view j).hand) x.view w u v (λ (s : v ≡ w). subst (λ (j : ℕ). Q u.hand (x.view j).hand) (sym s) here) (λ (n : v ≢ w). others (x.view v).hand)

pub leader_linked : LeaderLinked
unfolding view_after
leader_linked x w c n v has d l =
    let y : Waiter = record has.0 { next = Some n } in
    let at : Contains (put x.view w v w).hand y = subst (λ (u : View). Contains u.hand y) (sym (put_here x.view w v ∙ d.1)) (changed_there (λ (z : Waiter). z.cell) (λ (z : Waiter). record z { next = Some n }) c (x.view w).hand has.0 has.1 has.2) in
    let leads : y.leads ≡ true = has.3 in
    let no_more : y.leads ≡ false = (((l.listing.hands w).entries y at).linked n refl).1 in
    let no : ⊥ = cc in no

pub tail_unlinked : TailUnlinked
tail_unlinked x l w c d k none q =
    let b = behind_there x l w c d k q in
    let t = tail_of x l w c b.0 b.1 in
    reached x.next l.spot (Behind w c) (x.next c) d t.0 t.1 (t.2 d k q) none

-- an entry of the hand whose list is taken to end was there, or has the number of one that was and doesn't lead
ended_was : (c : ℕ) (x : World) (l : Lists x) (w : ℕ) (y z : Waiter) → Leads (x.view w).hand c y → Contains (with_next c 0 (x.view w).hand) z → Contains (x.view w).hand z ⊎ (((q : Waiter) × Contains (x.view w).hand q × (q.cell ≡ z.cell)) × (z.leads ≡ false))
ended_was c x l w y z leads m = ⊎_elim
    (λ r. inl r.0)
    (λ more. inr (⊎_elim (λ r. let t = r.1 in ((r.0, t.0, ap (λ (q : Waiter). q.cell) (sym r.2)), ap (λ (q : Waiter). q.leads) r.2)) (λ r. let no : ⊥ = omega (arith, r.2.1) in absurd no) more))
    (next_was c 0 (x.view w).hand y z leads (l.listing.hands w).once m)

pub tail_lost : TailLost
tail_lost x l w c d p has points l' p' =
    let leads : Leads (x.view w).hand c has.0 = (has.1, has.2, has.3) in
    let y : World = seen w (ending_at c (x.view w)) (with_word c Next 0 x) in
    let t = rest_of x.next l.spot (Behind w c) d (subst (λ (n : ℕ). (ds : List ℕ) × Spells x.next l.spot (Behind w c) n ds × ((d k : ℕ) → l.spot d ≡ Behind w c k → Among d ds)) points (tail_of x l w c has.0 leads)) in
    let q = t.1.1 in
    let cut : Cut x l y d = record {
      heads = λ e. inl refl;
      nexts = λ e n. put_other x.next c 0 e (λ s. n w (ap l.spot s ∙ held x w c l (has.0, has.1, has.2)));
      hands = λ v e. hand_by x w (ending_at c (x.view w)) (λ a b. HandHas a e → HandHas b e) (λ h. ⊎_elim (λ m. (h.0, m, h.2)) (λ r. let was = r.0 in (was.0, was.1, was.2 ∙ h.2)) (ended_was c x l w has.0 h.0 leads h.1)) (λ a h. h) v;
      leads = λ v e z m. dite (ℕ_discrete e c)
          (λ (s : e ≡ c). inl (ap (put x.next c 0) s ∙ put_here x.next c 0))
          (λ (n : e ≢ c). inr ((z, hand_by x w (ending_at c (x.view w)) (λ a b. Leads a e z → Leads b e z) (λ h. ⊎_elim (λ m. (m, h.1, h.2)) (λ r. let a = r.1 in let b = h.2 in let no : ⊥ = cc in absurd no) (ended_was c x l w has.0 z leads h.0)) (λ a h. h) v m), put_other x.next c 0 e n));
      queued = subst IsQueued (sym q) tt;
      no_hand = λ v e. behind_held (sym q ∙ e);
      no_list = λ e k r. absurd (behind_listed (sym q ∙ r));
      no_tail = λ v e k r. let same : c ≡ e = cc in ap (put x.next c 0) (sym same) ∙ put_here x.next c 0;
    } in
    lost x l y d cut l' p p' refl refl

pub waiter_forgotten : WaiterForgotten
waiter_forgotten x l d p home stands none = none (home_queued x l p d home stands)

-- a full future has no list
full_head : (b : Bool) (state : ℕ) → b ≡ false → state ≡ full_word → head_by b state ≡ 0
full_head b state kind full = ap (λ (c : Bool). head_by c state) kind ∙ ap (λ (t : Bool). cond t 0 state) (eq-eqb state full_word full)

pub listed_at_full : ListedAtFull
listed_at_full x l c d k kind full q =
    let t = l.listing.lists c in
    reached x.next l.spot (Listed c) (head_of x c) d t.0 t.1 (t.2 d k q) (full_head (counters x.owner c) (x.state c) kind full)

pub waiter_left : WaiterLeft
waiter_left x l w c d k v p kind q same l' p' =
    let y : World = world_after x w (CellChange c (x.state c) full_word) (Number (x.state c)) v in
    let stored : (e : ℕ) → y.state e ≡ put x.state c full_word e = λ e. ap (λ (b : Bool). put_if b x.state c full_word e) (eq-eqb (x.state c) (x.state c) refl) in
    let empty : (e : ℕ) → e ≡ c → head_of y e ≡ 0 = λ e s. full_head (counters x.owner e) (y.state e) (ap (counters x.owner) s ∙ kind) (ap y.state s ∙ (stored c ∙ put_here x.state c full_word)) in
    let hand : (u : ℕ) → (put x.view w v u).hand ≡ (x.view u).hand = hand_by x w v (λ a b. a ≡ b) same (λ h. refl) in
    let cut : Cut x l y d = record {
      heads = λ e. dite (ℕ_discrete e c) (λ (s : e ≡ c). inr (empty e s)) (λ (n : e ≢ c). inl (ap (head_by (counters x.owner e)) (stored e ∙ put_other x.state c full_word e n)));
      nexts = λ e n. refl;
      hands = λ u e h. subst (λ (a : List Waiter). HandHas a e) (hand u) h;
      leads = λ u e z m. inr ((z, subst (λ (a : List Waiter). Leads a e z) (hand u) m), refl);
      queued = subst IsQueued (sym q) tt;
      no_hand = λ u e. listed_held (sym q ∙ e);
      no_list = λ e j r. let here : e ≡ c = cc in empty e here;
      no_tail = λ u e j r. absurd (listed_behind (sym q ∙ r));
    } in
    lost x l y d cut l' p p' refl refl

pub readied_in_turn : ReadiedInTurn
readied_in_turn x w c v chain has d l p =
    let u : View = x.view w in
    let y : World = world_after x w (CellStore c Standing ready) Done v in
    let z : Carried = record chain.0 { standing = Some ready } in
    let now : View = record u { chains = with_standing c ready u.chains; hand = without_waiter c u.hand; ready = c ∷ u.ready; share = u.share - 1 } in
    let same : y.view w ≡ with_progress d.0 now = put_here (waking (in_hand c u.hand) c (with_word c Standing ready x)).view w v ∙ (d.1 ∙ ap (with_progress d.0) (readied u c has)) in
    let in_turn : Contains (y.view w).chains z = subst (λ (q : View). Contains q.chains z) (sym same) (changed_there (λ (q : Carried). q.known.note.cell) (λ (q : Carried). record q { standing = Some ready }) c u.chains chain.0 chain.1 chain.2) in
    let is_ready : Contains (y.view w).ready c = subst (λ (q : View). Contains q.ready c) (sym same) (contains_here c u.ready) in
    subst (λ (s : Spot). IsTurnSpot w s (l.wait z.known.note.cell) z) (ap l.spot chain.2 ∙ (l.listing.readies w).of c is_ready) ((p.views w).turn z in_turn).number

pub waits_in_mail : WaitsInMail
waits_in_mail x w at e chain cargo v wait isnt l p =
    let y : World = world_after x w (SlotPut (Mail at) chain cargo) Done v in
    let there : PostHolds y.workers y.cells l.spot l.wait y.owner y.state y.standing y.trap y.home y.home_cargo y.post y.post_cargo y.view p.place at chain (put x.post_cargo at cargo at) = subst (λ (o : Option Chain). MailHolds y.workers y.cells l.spot l.wait y.owner y.state y.standing y.trap y.home y.home_cargo y.post y.post_cargo y.view p.place at o (put x.post_cargo at cargo at)) (put_here x.post at (Some chain)) (p.mail at) in
    let over : IsOver (counters x.owner) x.state (waits.Touch e) = subst (λ (k : Waiting). IsOver (counters x.owner) x.state k) (ap (λ (g : Cargo). g.carried.wait) (put_here x.post_cargo at cargo) ∙ wait) there.over in
    isnt over.1
