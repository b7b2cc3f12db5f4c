-- Each careful step keeps what views have seen: careful_kept. What a worker does between its steps: move_laws.
use Rattle.std.proofs.Common.{◌≡◌, ◌≢◌, ⊎_elim, ℕ, zero, suc, ◌+◌, ◌*◌, ◌^◌, ◌<◌, Bool, true, false, List, [], ◌∷◌, ◌++◌, Option, Some, None, refl, sym, ap, ◌∙◌, subst, arith, ◌==◌, ◌&&◌, eq-eqb, ne_eqb}
use Rattle.std.specs.List.{Contains}
use Rattle.st_base.specs.declared.chain.Chain.{Chain}
use Rattle.st_base.specs.declared.thread.Held.{Held}
use Rattle.st_words.specs.declared.view.CellWord.{CellWord}
use Rattle.st_words.specs.declared.view.CellWord.TheVariants.{Owner, State, Value, Next, Standing, Trap}
use Rattle.st_words.specs.declared.view.Slot.{Slot}
use Rattle.st_words.specs.declared.view.Slot.TheVariants.{Cell, Mail}
use Rattle.st_words.specs.declared.view.Known.{Known}
use Rattle.st_words.specs.declared.view.Cargo.{Cargo}
use Rattle.st_words.specs.declared.view.View.{View}
use Rattle.st_words.specs.Encodings.{is_counter, full_word, ready}
use Rattle.st_words.specs.Steps.{Step, StackStore, Mark, CellLoad, CellStore, CellChange, Draw, ActiveAdd, StopLoad, StopSet, RootTake, RequestChange, MailStore, OutStore, SlotTake, SlotPut, Answer, Done, Number, Looked, Took, Can, IsOwner}
use Rattle.st_words.specs.Views.{Progress, with_progress, view_after, Does, cell_seen, with_value, has_number, in_hand, with_name, name_for, kind_of, with_stop, stop_tried, took, no_cargo}
use Rattle.st_words.specs.Plain.{readied, stopped}
use Rattle.st_words.specs.Careful.{Meaning, Careful}
use Rattle.st_words.proofs.Lists.{contains_none}
use Rattle.st_world.specs.Functions.{put}
use Rattle.st_world.specs.World.{World, cargo_of, cell_word, seen, with_word, with_chain, waking, woken, Finds, changed, world_after}
use Rattle.st_world.proofs.Functions.{put_here, put_other, put_all}
use Rattle.st_knows.specs.Knowing.{KnowsKinds, Knows}
use Rattle.st_knows.specs.Laws.{IsKnown, MoveLaws}
use Rattle.st_knows.proofs.Seeing.{each_of, has_contains}
use Rattle.st_knows.proofs.ViewsAfter.{SameParts, IsQuiet, itself, same_after}
use Rattle.st_knows.proofs.Words as words
use Rattle.st_knows.proofs.Words.{kinds_and}
use Rattle.st_knows.proofs.Changes.{seen_after, stay, KnowsOf, still, same_view}
use Rattle.st_knows.proofs.States.{change_kept}

-- ---- steps that change nothing that is read

quiet_waking : (x : World) (w : ℕ) (v : View) (b : Bool) (c : ℕ) → Knows (seen w v x) → Knows (seen w v (waking b c x))
quiet_waking x w v false c K = K
quiet_waking x w v true c K = record { views = K.views; slots = slots }
  where
    slots : (z : Slot) → KnowsKinds x.owner (cargo_of (waking true c x) z).names
    slots (Cell d) = put_all (λ (k : ℕ) (cargo : Cargo). KnowsKinds x.owner cargo.names) x.home_cargo c (readied (x.home_cargo c)) d (λ (e : d ≡ c). K.slots (Cell c)) (λ (o : d ≢ c). K.slots (Cell d))
    slots (Mail a) = K.slots (Mail a)

quiet_stored : (x : World) (w : ℕ) (v u : View) (c : ℕ) (word : CellWord) (n : ℕ) → IsQuiet (CellStore c word n) → Knows (seen w v x) → Knows (seen w v (woken u c word n (with_word c word n x)))
quiet_stored x w v u c Owner n q K = absurd q
quiet_stored x w v u c State n q K = absurd q
quiet_stored x w v u c Value n q K = absurd q
quiet_stored x w v u c Next n q K = K
quiet_stored x w v u c Standing n q K = quiet_waking (with_word c Standing n x) w v ((n == ready) && in_hand c u.hand) c K
quiet_stored x w v u c Trap n q K = K

quiet_world : (x : World) (w : ℕ) (v : View) (s : Step) (a : Answer) → IsQuiet s → Knows (seen w v x) → Knows (seen w v (changed x w s a))
quiet_world x w v (CellStore c word n) a q K = quiet_stored x w v (x.view w) c word n q K
quiet_world x w v (CellChange c old new) a q K = absurd q
quiet_world x w v (StopSet code) a q K = absurd q
quiet_world x w v (SlotTake slot) a q K = absurd q
quiet_world x w v (SlotPut slot chain cargo) a q K = absurd q
quiet_world x w v (StackStore p n) a q K = K
quiet_world x w v (Mark p) a q K = K
quiet_world x w v Draw a q K = K
quiet_world x w v (ActiveAdd up) a q K = K
quiet_world x w v RootTake a q K = K
quiet_world x w v (RequestChange at old new) (Number n) q K = K
quiet_world x w v (MailStore at n) a q K = K
quiet_world x w v (OutStore i n) a q K = K
quiet_world x w v s a q K = K

quiet_kept : (x : World) (w : ℕ) (s : Step) (a : Answer) (pr : Progress) → IsQuiet s → Knows x → Knows (world_after x w s a (with_progress pr (view_after (x.view w) s a)))
quiet_kept x w s a pr q K =
    let v : View = with_progress pr (view_after (x.view w) s a) in
    quiet_world x w v s a q (still x w v K (same_view x (x.view w) v (same_after (x.view w) s a q)))

-- ---- what an Owner word tells

some_owner : (cells n : ℕ) → IsOwner cells n → n ≢ 0
some_owner cells n h z = ⊎_elim (λ (e : n ≡ 1 + 2 * h.0 + 2 ^ 18 * h.1). omega (arith, e, z)) (λ (e : n ≡ 2 + 2 * h.0 + 2 ^ 18 * h.1). omega (arith, e, z)) h.4

name_kind : (b : Bool) (t : Known) → kind_of (name_for b t) ≡ Some b
name_kind true t = refl
name_kind false t = refl

named_kinds : (owner : ℕ → ℕ) (c n : ℕ) (ts : List Known) (names : List (Held × ℕ)) → owner c ≡ n → n ≢ 0 → KnowsKinds owner names → KnowsKinds owner (with_name (is_counter n) c ts names)
named_kinds owner c n [] names is some k = k
named_kinds owner c n (t ∷ ts) names is some k = λ name d. each_of (λ (y : Held × ℕ). (owner y.1 ≢ 0) × (kind_of y.0 ≡ Some (is_counter (owner y.1)))) (name_for (is_counter n) t, c) names
    ((λ z. some (sym is ∙ z)), name_kind (is_counter n) t ∙ ap (λ (m : ℕ). Some (is_counter m)) (sym is)) (λ y. k y.0 y.1) (name, d)

module _ (x : World) (K : Knows x) (w : ℕ) (pr : Progress) where
  abbrev u : View
  u = x.view w

  -- ---- loads

  value_loaded : (c n : ℕ) (b : Bool) → has_number u.full c ≡ b → n ≡ x.value c → KnowsOf x u → KnowsOf x (with_value c n b u)
  value_loaded c n true e f k = words.know_value x.owner x.state x.value x.stop u k c n (has_contains c u.full e) (sym f)
  value_loaded c n false e f k = k

  loaded : (c : ℕ) (word : CellWord) (n : ℕ) → n ≡ cell_word x word c → KnowsOf x u → KnowsOf x (cell_seen c word n u)
  loaded c Owner n f k = words.know_word x.owner x.state x.value x.stop u k c n (sym f)
  loaded c State n f k = words.know_state x.owner x.state x.value x.stop u k c n (sym f)
  loaded c Value n f k = value_loaded c n (has_number u.full c) refl f k
  loaded c Next n f k = same_view x u (cell_seen c Next n u) (itself u) k
  loaded c Standing n f k = k
  loaded c Trap n f k = k

  load_kept : (c : ℕ) (word : CellWord) (n : ℕ) → n ≡ cell_word x word c → Knows (world_after x w (CellLoad c word) (Number n) (with_progress pr (view_after u (CellLoad c word) (Number n))))
  unfolding view_after
  load_kept c word n f = still x w _ K (λ k. same_view x (cell_seen c word n u) (with_progress pr (view_after u (CellLoad c word) (Number n))) (itself (cell_seen c word n u)) (loaded c word n f k))

  -- ---- the stop word

  stop_load_kept : (n : ℕ) → n ≡ x.stop → Knows (world_after x w StopLoad (Number n) (with_progress pr (view_after u StopLoad (Number n))))
  unfolding view_after
  stop_load_kept n f = still x w _ K (λ k. same_view x (with_stop n u) (with_progress pr (view_after u StopLoad (Number n))) (itself (with_stop n u)) (words.know_stop x.owner x.state x.value x.stop u k n (sym f)))

  stop_set : (code n : ℕ) → n ≡ x.stop → Knows (seen w (with_progress pr (stop_tried code n u)) (record x { stop = stopped (n == 0) code x.stop }))
  stop_set code zero f =
      let v : View = with_progress pr (with_stop code u) in
      let y : World = record x { stop = code } in
      subst (λ (b : Bool). Knows (seen w v (record x { stop = stopped b code x.stop }))) (sym (eq-eqb 0 0 refl))
      (seen_after x.owner x.state x.value x.stop x.owner x.state x.value code
      (record { owners = λ c k. refl; full = λ c k e. (e, refl); counts = λ c k. omega arith; stops = λ z. absurd (z (sym f)) })
      (cargo_of x) (cargo_of x) x.view K K.slots w v (λ k. same_view y (with_stop code u) v (itself (with_stop code u)) (words.know_stop x.owner x.state x.value code u k code refl)))
  stop_set code (suc n) f =
      let v : View = with_progress pr (with_stop (suc n) u) in
      subst (λ (b : Bool). Knows (seen w v (record x { stop = stopped b code x.stop }))) (sym (ne_eqb (suc n) 0 (λ z. omega (arith, z))))
      (still x w v K (λ k. same_view x (with_stop (suc n) u) v (itself (with_stop (suc n) u)) (words.know_stop x.owner x.state x.value x.stop u k (suc n) (sym f))))

  stop_set_kept : (code n : ℕ) → n ≡ x.stop → Knows (world_after x w (StopSet code) (Number n) (with_progress pr (view_after u (StopSet code) (Number n))))
  unfolding view_after
  stop_set_kept code n f = stop_set code n f

  -- ---- a cell is named

  name_kept : (c n : ℕ) → x.owner c ≡ 0 → n ≢ 0 → Knows (world_after x w (CellStore c Owner n) Done (with_progress pr (view_after u (CellStore c Owner n) Done)))
  unfolding view_after
  name_kept c n free some =
      let v : View = with_progress pr (view_after u (CellStore c Owner n) Done) in
      let owner' = put x.owner c n in
      let is : owner' c ≡ n = put_here x.owner c n in
      let y : World = record x { owner = owner' } in
      let one : View = record u { owners = (c, n) ∷ u.owners } in
      let names = with_name (is_counter n) c u.threads u.names in
      seen_after x.owner x.state x.value x.stop owner' x.state x.value x.stop
      (record { owners = λ d k. put_other x.owner c n d (λ (e : d ≡ c). k (ap x.owner e ∙ free)); full = λ d k e. (e, refl); counts = λ d k. omega arith; stops = λ z. refl })
      (cargo_of x) (cargo_of x) x.view K K.slots w v
      (λ k. same_view y (record one { names = names }) v (itself v) (words.know_names owner' x.state x.value x.stop one (words.know_owner owner' x.state x.value x.stop u k c n is some) names (named_kinds owner' c n u.threads u.names is some k.names)))

  -- ---- a value is stored, while its future isn't full

  value_kept : (c n : ℕ) → x.state c ≢ full_word → Knows (world_after x w (CellStore c Value n) Done (with_progress pr (view_after u (CellStore c Value n) Done)))
  unfolding view_after
  value_kept c n free =
      let v : View = with_progress pr (view_after u (CellStore c Value n) Done) in
      let y : World = record x { value = put x.value c n } in
      seen_after x.owner x.state x.value x.stop x.owner x.state (put x.value c n) x.stop
      (record { owners = λ d k. refl; full = λ d k e. (e, put_other x.value c n d (λ (s : d ≡ c). free (ap x.state (sym s) ∙ e))); counts = λ d k. omega arith; stops = λ z. refl })
      (cargo_of x) (cargo_of x) x.view K K.slots w v (same_view y u v (itself u))

  -- ---- slots

  slots_after : (slot : Slot) (o : Option Chain) (cargo : Cargo) → KnowsKinds x.owner cargo.names → (z : Slot) → KnowsKinds x.owner (cargo_of (with_chain slot o cargo x) z).names
  slots_after (Cell c) o cargo k (Cell d) = put_all (λ (i : ℕ) (y : Cargo). KnowsKinds x.owner y.names) x.home_cargo c cargo d (λ (e : d ≡ c). k) (λ (n : d ≢ c). K.slots (Cell d))
  slots_after (Cell c) o cargo k (Mail a) = K.slots (Mail a)
  slots_after (Mail a) o cargo k (Cell d) = K.slots (Cell d)
  slots_after (Mail a) o cargo k (Mail b) = put_all (λ (i : ℕ) (y : Cargo). KnowsKinds x.owner y.names) x.post_cargo a cargo b (λ (e : b ≡ a). k) (λ (n : b ≢ a). K.slots (Mail b))

  slot_kept : (slot : Slot) (o : Option Chain) (cargo : Cargo) (v : View) → KnowsKinds x.owner cargo.names → (KnowsOf x u → KnowsOf x v) → Knows (seen w v (with_chain slot o cargo x))
  slot_kept (Cell c) o cargo v k own = seen_after x.owner x.state x.value x.stop x.owner x.state x.value x.stop (stay x.owner x.state x.value x.stop) (cargo_of x) (cargo_of (with_chain (Cell c) o cargo x)) x.view K (slots_after (Cell c) o cargo k) w v own
  slot_kept (Mail a) o cargo v k own = seen_after x.owner x.state x.value x.stop x.owner x.state x.value x.stop (stay x.owner x.state x.value x.stop) (cargo_of x) (cargo_of (with_chain (Mail a) o cargo x)) x.view K (slots_after (Mail a) o cargo k) w v own

  -- the names that come with a chain
  abbrev named_and : Cargo → View
  named_and cargo = record u { names = cargo.names ++ u.names }

  names_known : (cargo : Cargo) → KnowsKinds x.owner cargo.names → KnowsOf x u → KnowsOf x (named_and cargo)
  names_known cargo names k = words.know_names x.owner x.state x.value x.stop u k (cargo.names ++ u.names) (kinds_and x.owner cargo.names u.names names k.names)

  took_known : (slot : Slot) (o : Option Chain) (cargo : Cargo) → KnowsKinds x.owner cargo.names → KnowsOf x u → KnowsOf x (took slot o cargo u)
  took_known slot None cargo names k = k
  took_known (Cell c) (Some chain) cargo names k = same_view x (named_and cargo) (took (Cell c) (Some chain) cargo u) (itself (named_and cargo)) (names_known cargo names k)
  took_known (Mail a) (Some chain) cargo names k = same_view x (named_and cargo) (took (Mail a) (Some chain) cargo u) (itself (named_and cargo)) (names_known cargo names k)

  take_kept : (slot : Slot) (o : Option Chain) (cargo : Cargo) → cargo ≡ cargo_of x slot → Knows (world_after x w (SlotTake slot) (Took o cargo) (with_progress pr (view_after u (SlotTake slot) (Took o cargo))))
  unfolding view_after
  take_kept slot o cargo f = slot_kept slot None no_cargo (with_progress pr (took slot o cargo u)) (λ name c m. absurd (contains_none (name, c) m))
      (λ k. same_view x (took slot o cargo u) (with_progress pr (took slot o cargo u)) (itself (took slot o cargo u)) (took_known slot o cargo (subst (λ (y : Cargo). KnowsKinds x.owner y.names) (sym f) (K.slots slot)) k))

  put_same : (slot : Slot) (chain : Chain) (cargo : Cargo) → SameParts u (with_progress pr (view_after u (SlotPut slot chain cargo) Done))
  unfolding view_after
  put_same (Cell c) chain cargo = itself u
  put_same (Mail a) chain cargo = itself u

  put_kept : (slot : Slot) (chain : Chain) (cargo : Cargo) → ((name : Held) (c : ℕ) → Contains cargo.names (name, c) → Contains u.names (name, c)) → Knows (world_after x w (SlotPut slot chain cargo) Done (with_progress pr (view_after u (SlotPut slot chain cargo) Done)))
  put_kept slot chain cargo known = slot_kept slot (Some chain) cargo (with_progress pr (view_after u (SlotPut slot chain cargo) Done)) (λ name c m. (K.views w).names name c (known name c m)) (same_view x u _ (put_same slot chain cargo))

-- ---- each kind of step

answered : (m : Meaning) (x : World) (w : ℕ) (s : Step) (a : Answer) (pr : Progress) → Knows x → Can (x.view w) s → Careful m (x.view w) s → IsKnown x (x.view w) s → Finds x w s a → Knows (world_after x w s a (with_progress pr (view_after (x.view w) s a)))
answered m x w (CellLoad c word) (Number n) pr K can careful known f = load_kept x K w pr c word n f
answered m x w (CellLoad c word) Done pr K can careful known f = absurd f
answered m x w (CellLoad c word) (Looked n cargo) pr K can careful known f = absurd f
answered m x w (CellLoad c word) (Took chain cargo) pr K can careful known f = absurd f
answered m x w (CellStore c Owner n) Done pr K can careful known f = name_kept x K w pr c n known (some_owner (x.view w).cells n can.1.1)
answered m x w (CellStore c State n) a pr K can careful known f = absurd can.1
answered m x w (CellStore c Value n) Done pr K can careful known f = value_kept x K w pr c n known
answered m x w (CellStore c Next n) Done pr K can careful known f = quiet_kept x w (CellStore c Next n) Done pr tt K
answered m x w (CellStore c Standing n) Done pr K can careful known f = quiet_kept x w (CellStore c Standing n) Done pr tt K
answered m x w (CellStore c Trap n) Done pr K can careful known f = quiet_kept x w (CellStore c Trap n) Done pr tt K
answered m x w (CellStore c word n) (Number k) pr K can careful known f = absurd f
answered m x w (CellStore c word n) (Looked k cargo) pr K can careful known f = absurd f
answered m x w (CellStore c word n) (Took chain cargo) pr K can careful known f = absurd f
answered m x w (CellChange c old new) (Number n) pr K can careful known f = change_kept x K w pr c old new n f can.1 known
answered m x w (CellChange c old new) Done pr K can careful known f = absurd f
answered m x w (CellChange c old new) (Looked n cargo) pr K can careful known f = absurd f
answered m x w (CellChange c old new) (Took chain cargo) pr K can careful known f = absurd f
answered m x w StopLoad (Number n) pr K can careful known f = stop_load_kept x K w pr n f
answered m x w StopLoad Done pr K can careful known f = absurd f
answered m x w StopLoad (Looked n cargo) pr K can careful known f = absurd f
answered m x w StopLoad (Took chain cargo) pr K can careful known f = absurd f
answered m x w (StopSet code) (Number n) pr K can careful known f = stop_set_kept x K w pr code n f
answered m x w (StopSet code) Done pr K can careful known f = absurd f
answered m x w (StopSet code) (Looked n cargo) pr K can careful known f = absurd f
answered m x w (StopSet code) (Took chain cargo) pr K can careful known f = absurd f
answered m x w (SlotTake slot) (Took o cargo) pr K can careful known f = take_kept x K w pr slot o cargo f.1
answered m x w (SlotTake slot) Done pr K can careful known f = absurd f
answered m x w (SlotTake slot) (Number n) pr K can careful known f = absurd f
answered m x w (SlotTake slot) (Looked n cargo) pr K can careful known f = absurd f
answered m x w (SlotPut slot chain cargo) Done pr K can careful known f = let p = careful.puts in put_kept x K w pr slot chain cargo p.carries.known
answered m x w (SlotPut slot chain cargo) (Number n) pr K can careful known f = absurd f
answered m x w (SlotPut slot chain cargo) (Looked n other) pr K can careful known f = absurd f
answered m x w (SlotPut slot chain cargo) (Took o other) pr K can careful known f = absurd f
answered m x w s a pr K can careful known f = quiet_kept x w s a pr tt K

pub careful_kept : (m : Meaning) (x : World) (w : ℕ) (s : Step) (a : Answer) (v : View) → Knows x → w < x.workers → Can (x.view w) s → Careful m (x.view w) s → IsKnown x (x.view w) s → Finds x w s a → Does (x.view w) s a v → Knows (world_after x w s a v)
careful_kept m x w s a v K l can careful known f d = subst (λ (y : View). Knows (world_after x w s a y)) (sym d.1) (answered m x w s a d.0 K can careful known f)

-- ---- what a worker does between its steps

moved : (x : World) (w : ℕ) (v : View) → SameParts (x.view w) v → Knows x → Knows (seen w v x)
moved x w v p K = still x w v K (same_view x (x.view w) v p)

pub move_laws : MoveLaws
move_laws = record {
  progresses = λ x w progress K. moved x w _ (itself (x.view w)) K;
  suspends = λ x w t rest wait K. moved x w _ (itself (x.view w)) K;
  gives = λ x w t above K. moved x w _ (itself (x.view w)) K;
  restarts = λ x w carried K. moved x w _ (itself (x.view w)) K;
  begins = λ x w child parent rest K. moved x w _ (itself (x.view w)) K;
  exports = λ x w f K. moved x w _ (itself (x.view w)) K;
}
