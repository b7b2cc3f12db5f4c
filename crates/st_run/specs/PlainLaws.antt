-- A board over vectors has the laws of a board for a program: plain_laws, by those of the rule, for any type whose values show words, cargoes and views of such a board; and a worker that looks
-- at a word that it holds finds it (plain_looks), as the State word of a thread that is here isn't full (plain_unfilled).
-- The proof stands here since the laws of an impl may name no proofs of its crate.
use Rattle.std.proofs.Common.{◌≡◌, ◌≢◌, inl, ℕ, ◌*◌, ◌/◌, ◌<◌, List, length, Some, refl, sym, ◌∙◌, ap, subst, arith, slice_set, length-set, get_or-set_other}
use Rattle.std.specs.List.{Contains}
use Rattle.st_base.specs.declared.chain.Chain.{Chain}
use Rattle.st_base.specs.declared.limits.Limits.{Limits}
use Rattle.st_words.specs.declared.view.CellWord.{CellWord}
use Rattle.st_words.specs.declared.view.CellWord.TheVariants.{Owner, State, Value, Next, Standing, Trap}
use Rattle.st_words.specs.declared.view.Slot.{Slot}
use Rattle.st_words.specs.declared.view.Slot.TheVariants.{Cell, Mail}
use Rattle.st_words.specs.declared.view.Cargo.{Cargo}
use Rattle.st_words.specs.declared.view.View.{View}
use Rattle.st_words.specs.declared.words.Words.{Words}
use Rattle.st_words.specs.Encodings.{thread_owner, full_word}
use Rattle.st_words.specs.Steps.{Step, HasThread, CellLoad, StackStore, Mark, Look, CellStore, CellChange, StopSet, RequestChange, SlotTake, SlotPut, Answer, Done, Number, Looked, Took, Can}
use Rattle.st_words.specs.Steps as steps
use Rattle.st_words.specs.Views.{Does, IsFree}
use Rattle.st_words.specs.Plain.{Cargoes, view_at, Exact, Left, words_after}
use Rattle.st_words.specs.Sizes.{Sized}
use Rattle.st_words.specs.Promises.{Promises, IsByHand}
use Rattle.st_words.specs.Careful.{Meaning, Careful}
use Rattle.st_words.specs.Tidy.{Tidy}
use Rattle.st_words.specs.RunLaws.{RunLaws, May, Names, OthersStay, Comes}
use Rattle.st_words.proofs.Sizes.{moved_here}
use Rattle.st_model.specs.declared.program.Program.{Program}
use Rattle.st_model.specs.Memory.{Data}
use Rattle.st_model.specs.Heap.{first_heap}
use Rattle.st_laws.proofs.Quieting.{first_stands}
use Rattle.st_made.specs.Moves.{Made}
use Rattle.st_made.specs.Events.{Event}
use Rattle.st_made.proofs.Making.{made_is_free, made_stays}
use Rattle.st_world.specs.World.{World}
use Rattle.st_world.specs.OfPlain.{world_of, reading}
use Rattle.st_world.proofs.OfPlain.{placed, finds, leaves}
use Rattle.st_rule.specs.Rule.{Rule}
use Rattle.st_rule.specs.Laws.{RuleLaws}
use Rattle.st_run.specs.Meanings.{meaning}
use Rattle.st_run.specs.OfPlain.{PlainIsFor, StaysSized}
use Rattle.st_run.specs.Meant.{is_meant}
use Rattle.st_run.specs.Looking.{Looks, Unfilled}
use Rattle.st_seats.proofs.Told.{told_laws as seats_told}
use Rattle.st_run.specs.Brought.{brought, left_brought, sets_brought}

-- ---- no step changes how many words there are

cell_owners : (x : Words) (w c : ℕ) (word : CellWord) (n : ℕ) (a : Answer) → (length (words_after x w (CellStore c word n) a).owners ≡ length x.owners) × (length (words_after x w (CellStore c word n) a).stack ≡ length x.stack)
unfolding words_after
cell_owners x w c Owner n a = (length-set x.owners c n, refl)
cell_owners x w c State n a = (refl, refl)
cell_owners x w c Value n a = (refl, refl)
cell_owners x w c Next n a = (refl, refl)
cell_owners x w c Standing n a = (refl, refl)
cell_owners x w c Trap n a = (refl, refl)

same_counts : (x : Words) (w : ℕ) (s : Step) (a : Answer) → (length (words_after x w s a).owners ≡ length x.owners) × (length (words_after x w s a).stack ≡ length x.stack)
unfolding words_after
same_counts x w (StackStore p n) a = (refl, length-set x.stack p n)
same_counts x w (Mark p) a = (refl, length-set x.stack p 0)
same_counts x w (CellStore c word n) a = cell_owners x w c word n a
same_counts x w (CellChange c old new) (Number n) = (refl, refl)
same_counts x w (StopSet code) (Number n) = (refl, refl)
same_counts x w (RequestChange at old new) (Number n) = (refl, refl)
same_counts x w (SlotTake (Cell c)) a = (refl, refl)
same_counts x w (SlotTake (Mail v)) a = (refl, refl)
same_counts x w (SlotPut (Cell c) chain cargo) a = (refl, refl)
same_counts x w (SlotPut (Mail v) chain cargo) a = (refl, refl)
same_counts x w s a = (refl, refl)

left_counts : (x : Words) (ls : Cargoes) (vs : List View) (w : ℕ) (s : Step) (a : Answer) (x' : Words) (ls' : Cargoes) (vs' : List View) → Left x ls vs w s a x' ls' vs' → StaysSized x vs x' vs'
left_counts x ls vs w s a x' ls' vs' left =
    let same = same_counts x w s a in
    record { workers = left.workers; cells = ap (λ (y : Words). length y.owners) left.words ∙ same.0; stack = ap (λ (y : Words). length y.stack) left.words ∙ same.1 }

-- ---- nor what cell 0 is named for, since only a cell that isn't named yet is named

abbrev NamesNew : Words → Step → Type 0
NamesNew x (CellStore c Owner n) = reading x.owners c ≡ 0
NamesNew x s = Prim.Unit

names_new : (x : Words) (u : View) (s : Step) → Can u s → ((c : ℕ) → Contains u.drawn c → reading x.owners c ≡ 0) → NamesNew x s
names_new x u (CellStore c Owner n) can unnamed = unnamed c can.1.0
names_new x u s can unnamed = tt

cell_root : (x : Words) (w c : ℕ) (word : CellWord) (n : ℕ) (a : Answer) → NamesNew x (CellStore c word n) → reading x.owners 0 ≡ thread_owner 0 0 → reading (words_after x w (CellStore c word n) a).owners 0 ≡ thread_owner 0 0
unfolding words_after
cell_root x w c Owner n a new root =
    let other : 0 ≢ c = λ e. let none : reading x.owners 0 ≡ 0 = subst (λ (d : ℕ). reading x.owners d ≡ 0) (sym e) new in omega (arith, none, root) in
    get_or-set_other x.owners c 0 n 0 other ∙ root
cell_root x w c State n a new root = root
cell_root x w c Value n a new root = root
cell_root x w c Next n a new root = root
cell_root x w c Standing n a new root = root
cell_root x w c Trap n a new root = root

root_stays : (x : Words) (w : ℕ) (s : Step) (a : Answer) → NamesNew x s → reading x.owners 0 ≡ thread_owner 0 0 → reading (words_after x w s a).owners 0 ≡ thread_owner 0 0
unfolding words_after
root_stays x w (CellStore c word n) a new root = cell_root x w c word n a new root
root_stays x w (CellChange c old new) (Number n) none root = root
root_stays x w (StopSet code) (Number n) new root = root
root_stays x w (RequestChange at old new) (Number n) none root = root
root_stays x w (SlotTake (Cell c)) a new root = root
root_stays x w (SlotTake (Mail v)) a new root = root
root_stays x w (SlotPut (Cell c) chain cargo) a new root = root
root_stays x w (SlotPut (Mail v) chain cargo) a new root = root
root_stays x w s a new root = root

-- ---- the laws

module _ {Self : Type 0} (words : Self → Words) (cargoes : Self → Cargoes) (views : Self → List View) (sized : (b : Self) → Sized (words b) (cargoes b) (views b)) (p : Program) (d : Data) (limits : Limits) (laws : RuleLaws (meaning p d limits)) where
  abbrev view : Self → ℕ → View
  view b w = view_at (views b) w

  abbrev serves : Self → ℕ → Type 0
  serves b w = w < length (views b)

  abbrev forward : Self → View → View → Type 0
  forward b v u = IsFree v u

  abbrev moves : Self → View → Step → Answer → View → Type 0
  moves b u s a v = Does u s a v

  abbrev says : Self → ℕ → Step → Answer → Type 0
  says b w s a = Exact (words b) (cargoes b) w s a

  abbrev did : Self → ℕ → Step → Answer → Self → Type 0
  did b w s a c = Left (words b) (cargoes b) (views b) w s a (words c) (cargoes c) (views c)

  abbrev is_for : Self → Type 0
  is_for b = PlainIsFor p d limits (words b) (cargoes b) (views b)

  abbrev stays : Self → Self → Type 0
  stays b c = StaysSized (words b) (views b) (words c) (views c)

  abbrev means : Meaning
  means = meaning p d limits

  abbrev MayAsk : Self → ℕ → View → Step → Type 0
  MayAsk b w u s = May view serves forward moves says did is_for stays means (Made p d) (Event p d) b w u s

  abbrev each : ℕ
  each = limits.stack / 8

  -- the world of a board whose worker w is brought to the view u
  abbrev shown : Self → ℕ → View → World
  shown b w u = world_of each (words b) (cargoes b) (slice_set (views b) w u)

  here : (b : Self) (w : ℕ) (u : View) → serves b w → view_at (slice_set (views b) w u) w ≡ u
  here b w u l = moved_here (views b) w u l

  there : (b : Self) (w : ℕ) (u : View) → serves b w → w < length (slice_set (views b) w u)
  there b w u l = subst (λ (n : ℕ). w < n) (sym (length-set (views b) w u)) l

  goes : (b : Self) (w : ℕ) (u : View) → is_for b → serves b w → Made p d (view b w) u → PlainIsFor p d limits (words b) (cargoes b) (slice_set (views b) w u)
  goes b w u r l made = brought p d limits laws (words b) (cargoes b) (views b) w u r l made

  is_tidy : (b : Self) (w : ℕ) (u : View) → is_for b → serves b w → Made p d (view b w) u → Tidy u
  is_tidy b w u r l made =
      let g = goes b w u r l made in
      subst Tidy (here b w u l) (laws.tidy p d limits (first_heap g.first) g.heap (shown b w u) w g.rule (there b w u l))

  can_there : (b : Self) (w : ℕ) (u : View) (s : Step) → serves b w → Can u s → Can (view_at (slice_set (views b) w u) w) s
  can_there b w u s l can = subst (λ (v : View). Can v s) (sym (here b w u l)) can

  promised : (b : Self) (w : ℕ) (u : View) (s : Step) (a : Answer) → MayAsk b w u s → says b w s a → Promises u s a
  promised b w u s a may said =
      let g = goes b w u may.here may.serving may.made in
      let f = finds each (words b) (cargoes b) (slice_set (views b) w u) w s a g.whole said in
      subst (λ (v : View). Promises v s a) (here b w u may.serving) (laws.told p d limits (first_heap g.first) g.heap (shown b w u) w s a g.rule (there b w u may.serving) (can_there b w u s may.serving may.can) f)

  comes_so : (b : Self) (w : ℕ) (u : View) (slot : Slot) (chain : Chain) (cargo : Cargo) → MayAsk b w u (SlotTake slot) → says b w (SlotTake slot) (Took (Some chain) cargo) → Comes view serves forward moves says did is_for stays means (Made p d) (Event p d) u slot chain cargo
  comes_so b w u slot chain cargo may said =
      let g = goes b w u may.here may.serving may.made in
      let f = finds each (words b) (cargoes b) (slice_set (views b) w u) w (SlotTake slot) (Took (Some chain) cargo) g.whole said in
      let come = laws.comes p d limits (first_heap g.first) g.heap (shown b w u) w slot chain cargo g.rule (there b w u may.serving) (can_there b w u (SlotTake slot) may.serving may.can) f in
      (come.0, λ hand. come.1 (subst (λ (v : View). IsByHand v slot) (sym (here b w u may.serving)) hand))

  kept : (b : Self) (w : ℕ) (u : View) (s : Step) (a : Answer) (c : Self) → MayAsk b w u s → says b w s a → Names view serves forward moves says did is_for stays means (Made p d) (Event p d) u s a (view c w) → did b w s a c → OthersStay view serves forward moves says did b w c → is_for c
  kept b w u s a c may said names left others =
      let l = may.serving in
      let us = slice_set (views b) w u in
      let v = view c w in
      let g = goes b w u may.here l may.made in
      let back = sym (here b w u l) in
      let can = can_there b w u s l may.can in
      let careful = subst (λ (y : View). Careful means y s) back may.careful in
      let does = subst (λ (y : View). Does y s a v) back names.0 in
      let event = subst (λ (y : View). Event p d y s a v) back names.1 in
      let is_placed = placed each (words b) (cargoes b) us w s g.whole (there b w u l) can in
      let found = finds each (words b) (cargoes b) us w s a g.whole said in
      let left_now = left_brought each (words b) (cargoes b) (views b) w u s a (words c) (cargoes c) (views c) l ((made_stays p d (view b w) u may.made).hand) left in
      let sets = sets_brought each (words b) (cargoes b) (views b) w u (views c) left.workers (λ q n m. (others q n m).1) in
      let same = leaves each (words b) (cargoes b) us w s a v (words c) (cargoes c) (views c) g.whole is_placed left_now sets in
      let on = laws.kept p d limits (first_heap g.first) g.heap (shown b w u) w s a v (is_meant p d limits) (first_stands p d g.first g.is_first).1 g.rule (there b w u l) can careful found does event in
      let counts = left_counts (words b) (cargoes b) (views b) w s a (words c) (cargoes c) (views c) left in
      record {
        whole = record { sized = sized c; stack = (counts.stack ∙ may.here.whole.stack) ∙ ap (λ (n : ℕ). n * each) (sym counts.workers) };
        first = g.first;
        is_first = g.is_first;
        heap = on.heap;
        rule = subst (λ (y : World). Rule means p d limits (first_heap g.first) on.heap y) (sym same) on.rule;
        root = subst (λ (y : Words). reading y.owners 0 ≡ thread_owner 0 0) (sym left.words) (root_stays (words b) w s a (names_new (words b) (view_at us w) s can ((g.rule.draws.views w).unnamed)) may.here.root);
      }

  pub plain_laws : RunLaws view serves forward moves says did is_for stays means (Made p d) (Event p d)
  plain_laws = record {
    tidy = is_tidy;
    forward_so = λ b w u s may. made_is_free p d (view b w) u may.made;
    moves_so = λ b w u s a v may said names. names.0;
    promises = promised;
    comes = comes_so;
    keeps = kept;
    stays = λ b. record { workers = refl; cells = refl; stack = refl };
    stays_on = λ b c e one two. record { workers = two.workers ∙ one.workers; cells = two.cells ∙ one.cells; stack = two.stack ∙ one.stack };
    stays_so = λ b w s a c left. left_counts (words b) (cargoes b) (views b) w s a (words c) (cargoes c) (views c) left;
  }

  -- the word that is there is the one that the worker's view holds
  pub plain_looks : Looks view serves forward moves says did is_for stays means (Made p d) (Event p d)
  plain_looks b w u q n cargo m may said holds =
      let g = goes b w u may.here may.serving may.made in
      let f = finds each (words b) (cargoes b) (slice_set (views b) w u) w (Look q) (Looked n cargo) g.whole said in
      f.0 ∙ ((g.rule.leases.views w).held q m (subst (λ (v : View). steps.kept v.held q ≡ Some m) (sym (here b w u may.serving)) holds)).2

  -- a thread that is here has a future that isn't full
  unfilled_state : (b : Self) (w : ℕ) (u : View) (c : ℕ) → is_for b → serves b w → Made p d (view b w) u → HasThread u c → (shown b w u).state c ≢ full_word
  unfilled_state b w u c is l made thread =
      let g = goes b w u is l made in
      (seats_told.unfilled (shown b w u) g.rule.lists w c g.rule.places (inl (subst (λ (v : View). HasThread v c) (sym (here b w u l)) thread))).2

  pub plain_unfilled : Unfilled view serves forward moves says did is_for stays means (Made p d) (Event p d)
  plain_unfilled b w u (CellLoad c State) (Number n) may said =
      let g = goes b w u may.here may.serving may.made in
      let is = finds each (words b) (cargoes b) (slice_set (views b) w u) w (CellLoad c State) (Number n) g.whole said in
      λ thread full. unfilled_state b w u c may.here may.serving may.made thread (sym is ∙ full)
  plain_unfilled b w u (CellChange c old new) (Number n) may said =
      let g = goes b w u may.here may.serving may.made in
      let is = finds each (words b) (cargoes b) (slice_set (views b) w u) w (CellChange c old new) (Number n) g.whole said in
      λ thread full. unfilled_state b w u c may.here may.serving may.made thread (sym is ∙ full)
  plain_unfilled b w u (CellLoad c State) Done may said = tt
  plain_unfilled b w u (CellLoad c State) (Looked n cargo) may said = tt
  plain_unfilled b w u (CellLoad c State) (Took chain cargo) may said = tt
  plain_unfilled b w u (CellLoad c Owner) a may said = tt
  plain_unfilled b w u (CellLoad c Value) a may said = tt
  plain_unfilled b w u (CellLoad c Next) a may said = tt
  plain_unfilled b w u (CellLoad c Standing) a may said = tt
  plain_unfilled b w u (CellLoad c Trap) a may said = tt
  plain_unfilled b w u (CellChange c old new) Done may said = tt
  plain_unfilled b w u (CellChange c old new) (Looked n cargo) may said = tt
  plain_unfilled b w u (CellChange c old new) (Took chain cargo) may said = tt
  plain_unfilled b w u s a may said = tt
