-- A board over vectors and its world: placed, finds, leaves. Each change of a list is a put (read_set).
use Rattle.std.proofs.Common.{◌≡◌, ◌≢◌, ℕ, suc, ◌+◌, ◌*◌, ◌<◌, Bool, true, false, ◌&&◌, ◌==◌, List, [], ◌∷◌, length, map, Option, Some, None, refl, sym, ap, ◌∙◌, subst, arith, slice_get, slice_set, slice_index_or, length-set, get_or-set_same, get_or-set_other}
use Rattle.std.specs.List.{range_with_len}
use Rattle.std.proofs.lemmas.Option.{get_or_from_slice_get}
use mathlib.Core.Logic.{dite}
use native.Mathlib.Decide.{ℕ_discrete}
use Rattle.st_base.specs.declared.chain.Chain.{Chain}
use Rattle.st_words.specs.declared.view.CellWord.{CellWord}
use Rattle.st_words.specs.declared.view.CellWord.TheVariants.{Owner, State, Value, Next, Standing, Trap}
use Rattle.st_words.specs.declared.view.Slot.{Slot}
use Rattle.st_words.specs.declared.view.Slot.TheVariants.{Cell, Mail}
use Rattle.st_words.specs.declared.view.Cargo.{Cargo}
use Rattle.st_words.specs.declared.view.View.{View}
use Rattle.st_words.specs.declared.words.Words.{Words}
use Rattle.st_words.specs.Encodings.{ready, out_bytes}
use Rattle.st_words.specs.Steps.{Step, StackLoad, StackStore, Mark, Look, CellLoad, CellStore, CellChange, Draw, ActiveAdd, ActiveLoad, StopLoad, StopSet, RootTake, RequestLoad, RequestChange, MailLoad, MailStore, OutStore, SlotTake, SlotPut, OutLoad, Answer, Done, Number, Looked, Took, Can, Holds}
use Rattle.st_words.specs.Views.{no_cargo, in_hand}
use Rattle.st_words.specs.Plain.{Cargoes, view_at, Exact, Left, words_after, cargoes_after, ready_cargo, cargo_in, readied, changed, cell_words, in_slot, stack_cargo}
use Rattle.st_words.proofs.Lists.{kept_within}
use Rattle.st_world.specs.Functions.{put}
use Rattle.st_world.specs.World.{World, Finds, world_after, seen, slot_of, cargo_of, cell_word, with_word, woken, waking, put_if, all_words}
use Rattle.st_world.specs.World as worlds
use Rattle.st_world.specs.OfPlain.{world_of, reading, reading_cargo}
use Rattle.st_world.specs.Laws.{IsWhole, IsPlaced, HasSlot, SetsView}
use Rattle.st_world.proofs.Functions.{put_here, put_other, function_same}

-- ---- lists as functions

-- an element of a list is set
pub read_set : {X : Type 0} (xs : List X) (i : ℕ) (x d : X) → i < length xs → (λ j. slice_index_or (slice_set xs i x) j d) ≡ put (λ j. slice_index_or xs j d) i x
read_set {X} xs i x d l = function_same (λ j. slice_index_or (slice_set xs i x) j d) (put (λ j. slice_index_or xs j d) i x) (λ j. dite (ℕ_discrete j i)
    (λ (e : j ≡ i). (ap (λ (k : ℕ). slice_index_or (slice_set xs i x) k d) e ∙ get_or-set_same xs i x d l) ∙ sym (ap (put (λ j. slice_index_or xs j d) i x) e ∙ put_here (λ j. slice_index_or xs j d) i x))
    (λ (n : j ≢ i). get_or-set_other xs i j x d n ∙ sym (put_other (λ j. slice_index_or xs j d) i x j n)))

read : {X : Type 0} (xs : List X) (i : ℕ) (x d : X) → slice_get xs i ≡ Some x → x ≡ slice_index_or xs i d
read {X} xs i x d e = sym (get_or_from_slice_get xs i x d e)

-- a list by its elements, which a function has from a place on
spelled_from : (xs : List ℕ) (a : ℕ) (f : ℕ → ℕ) → ((i : ℕ) → i < length xs → f (a + i) ≡ slice_index_or xs i 0) → map Some xs ≡ map (λ p. Some (f p)) (range_with_len a (length xs))
spelled_from [] a f e = refl
spelled_from (y ∷ ys) a f e =
    let sum : a + 0 ≡ a = omega arith in
    let head : y ≡ f a = sym (sym (ap f sum) ∙ e 0 (omega arith)) in
    let tail : map Some ys ≡ map (λ p. Some (f p)) (range_with_len (a + 1) (length ys)) = spelled_from ys (a + 1) f (λ i l. let moved : a + 1 + i ≡ a + suc i = omega arith in ap f moved ∙ e (suc i) (omega (arith, l))) in
    λ i. Some (head i) ∷ tail i

spelled : (xs : List ℕ) → map Some xs ≡ map (λ p. Some (slice_index_or xs p 0)) (range_with_len 0 (length xs))
spelled xs = spelled_from xs 0 (λ p. slice_index_or xs p 0) (λ i l. let same : 0 + i ≡ i = omega arith in ap (λ (p : ℕ). slice_index_or xs p 0) same)

-- ---- what may be asked is there

small_out : (i : ℕ) → i < 1048576 → i < out_bytes
unfolding out_bytes
small_out i l = l

module _ (each : ℕ) (x : Words) (ls : Cargoes) (vs : List View) (w : ℕ) where
  abbrev shown : World
  shown = world_of each x ls vs

  on_stack : (p : ℕ) → IsWhole each x ls vs → w < length vs → Holds (view_at vs w) p → p < length vs * each
  on_stack p r l h =
      let a = kept_within (view_at vs w).held p h.0 h.1 in
      let b = (r.sized.views w l).held in
      let c = r.stack in
      omega (arith, a, b, c)

  cell_there : (c : ℕ) → IsWhole each x ls vs → w < length vs → c < (view_at vs w).cells → c < length x.owners
  cell_there c r l h = subst (λ (k : ℕ). c < k) (r.sized.views w l).cells h

  worker_there : (v : ℕ) → IsWhole each x ls vs → w < length vs → v < (view_at vs w).workers → v < length vs
  worker_there v r l h = subst (λ (k : ℕ). v < k) (r.sized.views w l).workers h

  pub placed : (s : Step) → IsWhole each x ls vs → w < length vs → Can (view_at vs w) s → IsPlaced shown s
  placed (StackStore p n) r l can = on_stack p r l can
  placed (Mark p) r l can = on_stack p r l can
  placed (CellStore c word n) r l can = cell_there c r l can.0
  placed (CellChange c old new) r l can = cell_there c r l can.0
  placed (RequestChange at old new) r l can = worker_there at r l can.0
  placed (MailStore at n) r l can = worker_there at r l can.0
  placed (OutStore i n) r l can = small_out i can.0
  placed (SlotTake (Cell c)) r l can = cell_there c r l can.0
  placed (SlotTake (Mail v)) r l can = worker_there v r l can.0
  placed (SlotPut (Cell c) chain cargo) r l can = cell_there c r l can.0
  placed (SlotPut (Mail v) chain cargo) r l can = worker_there v r l can.0
  placed (StackLoad p) r l can = tt
  placed (Look p) r l can = tt
  placed (CellLoad c word) r l can = tt
  placed Draw r l can = tt
  placed (ActiveAdd up) r l can = tt
  placed ActiveLoad r l can = tt
  placed StopLoad r l can = tt
  placed (StopSet code) r l can = tt
  placed RootTake r l can = tt
  placed (RequestLoad at) r l can = tt
  placed MailLoad r l can = tt
  placed (OutLoad i) r l can = tt

  -- ---- what is found

  cell_found : (c : ℕ) (word : CellWord) (n : ℕ) → slice_get (cell_words x word) c ≡ Some n → n ≡ cell_word shown word c
  cell_found c Owner n e = read x.owners c n 0 e
  cell_found c State n e = read x.states c n 0 e
  cell_found c Value n e = read x.values c n 0 e
  cell_found c Next n e = read x.nexts c n 0 e
  cell_found c Standing n e = read x.standings c n 0 e
  cell_found c Trap n e = read x.traps c n 0 e

  slot_found : (slot : Slot) (chain : Option Chain) → in_slot x slot ≡ Some chain → chain ≡ slot_of shown slot
  slot_found (Cell c) chain e = read x.cell_slots c chain None e
  slot_found (Mail v) chain e = read x.mail_slots v chain None e

  cargo_found : (slot : Slot) → cargo_in ls slot ≡ cargo_of shown slot
  cargo_found (Cell c) = refl
  cargo_found (Mail v) = refl

  words_found : IsWhole each x ls vs → stack_cargo x ≡ all_words shown
  words_found r = ap (λ (ws : List (Option ℕ)). record no_cargo { words = ws }) (spelled x.stack ∙ ap (λ (n : ℕ). map (λ p. Some (reading x.stack p)) (range_with_len 0 n)) r.stack)

  pub finds : (s : Step) (a : Answer) → IsWhole each x ls vs → Exact x ls w s a → Finds shown w s a
  finds (StackLoad p) (Number n) r e = read x.stack p n 0 e
  finds (StackStore p n) Done r e = tt
  finds (Mark p) Done r e = tt
  finds (Look p) (Looked n cargo) r e = (read x.stack p n 0 e.0, e.1 ∙ words_found r)
  finds (CellLoad c word) (Number n) r e = cell_found c word n e
  finds (CellStore c word n) Done r e = tt
  finds (CellChange c old new) (Number n) r e = read x.states c n 0 e
  finds Draw (Number n) r e = e
  finds (ActiveAdd up) (Number n) r e = e
  finds ActiveLoad (Number n) r e = e
  finds StopLoad (Number n) r e = e
  finds (StopSet code) (Number n) r e = e
  finds RootTake (Number n) r e = e
  finds (RequestLoad at) (Number n) r e = read x.requests at n 0 e
  finds (RequestChange at old new) (Number n) r e = read x.requests at n 0 e
  finds MailLoad (Number n) r e = read x.mail w n 0 e
  finds (MailStore at n) Done r e = tt
  finds (OutStore i n) Done r e = tt
  finds (SlotTake slot) (Took chain cargo) r e = (slot_found slot chain e.0, e.1 ∙ cargo_found slot)
  finds (SlotPut slot chain cargo) Done r e = tt
  finds (OutLoad i) (Number n) r e = read x.out i n 0 e
  finds (StackLoad p) Done r e = elim e [ ]
  finds (StackLoad p) (Looked n cargo) r e = elim e [ ]
  finds (StackLoad p) (Took chain cargo) r e = elim e [ ]
  finds (StackStore p n) (Number _) r e = elim e [ ]
  finds (StackStore p n) (Looked _ cargo) r e = elim e [ ]
  finds (StackStore p n) (Took chain cargo) r e = elim e [ ]
  finds (Mark p) (Number n) r e = elim e [ ]
  finds (Mark p) (Looked n cargo) r e = elim e [ ]
  finds (Mark p) (Took chain cargo) r e = elim e [ ]
  finds (Look p) Done r e = elim e [ ]
  finds (Look p) (Number n) r e = elim e [ ]
  finds (Look p) (Took chain cargo) r e = elim e [ ]
  finds (CellLoad c word) Done r e = elim e [ ]
  finds (CellLoad c word) (Looked n cargo) r e = elim e [ ]
  finds (CellLoad c word) (Took chain cargo) r e = elim e [ ]
  finds (CellStore c word n) (Number _) r e = elim e [ ]
  finds (CellStore c word n) (Looked _ cargo) r e = elim e [ ]
  finds (CellStore c word n) (Took chain cargo) r e = elim e [ ]
  finds (CellChange c old new) Done r e = elim e [ ]
  finds (CellChange c old new) (Looked n cargo) r e = elim e [ ]
  finds (CellChange c old new) (Took chain cargo) r e = elim e [ ]
  finds Draw Done r e = elim e [ ]
  finds Draw (Looked n cargo) r e = elim e [ ]
  finds Draw (Took chain cargo) r e = elim e [ ]
  finds (ActiveAdd up) Done r e = elim e [ ]
  finds (ActiveAdd up) (Looked n cargo) r e = elim e [ ]
  finds (ActiveAdd up) (Took chain cargo) r e = elim e [ ]
  finds ActiveLoad Done r e = elim e [ ]
  finds ActiveLoad (Looked n cargo) r e = elim e [ ]
  finds ActiveLoad (Took chain cargo) r e = elim e [ ]
  finds StopLoad Done r e = elim e [ ]
  finds StopLoad (Looked n cargo) r e = elim e [ ]
  finds StopLoad (Took chain cargo) r e = elim e [ ]
  finds (StopSet code) Done r e = elim e [ ]
  finds (StopSet code) (Looked n cargo) r e = elim e [ ]
  finds (StopSet code) (Took chain cargo) r e = elim e [ ]
  finds RootTake Done r e = elim e [ ]
  finds RootTake (Looked n cargo) r e = elim e [ ]
  finds RootTake (Took chain cargo) r e = elim e [ ]
  finds (RequestLoad at) Done r e = elim e [ ]
  finds (RequestLoad at) (Looked n cargo) r e = elim e [ ]
  finds (RequestLoad at) (Took chain cargo) r e = elim e [ ]
  finds (RequestChange at old new) Done r e = elim e [ ]
  finds (RequestChange at old new) (Looked n cargo) r e = elim e [ ]
  finds (RequestChange at old new) (Took chain cargo) r e = elim e [ ]
  finds MailLoad Done r e = elim e [ ]
  finds MailLoad (Looked n cargo) r e = elim e [ ]
  finds MailLoad (Took chain cargo) r e = elim e [ ]
  finds (MailStore at n) (Number _) r e = elim e [ ]
  finds (MailStore at n) (Looked _ cargo) r e = elim e [ ]
  finds (MailStore at n) (Took chain cargo) r e = elim e [ ]
  finds (OutStore i n) (Number _) r e = elim e [ ]
  finds (OutStore i n) (Looked _ cargo) r e = elim e [ ]
  finds (OutStore i n) (Took chain cargo) r e = elim e [ ]
  finds (SlotTake slot) Done r e = elim e [ ]
  finds (SlotTake slot) (Number n) r e = elim e [ ]
  finds (SlotTake slot) (Looked n cargo) r e = elim e [ ]
  finds (SlotPut slot chain cargo) (Number n) r e = elim e [ ]
  finds (SlotPut slot chain cargo) (Looked n _) r e = elim e [ ]
  finds (SlotPut slot chain cargo) (Took _ _) r e = elim e [ ]
  finds (OutLoad i) Done r e = elim e [ ]
  finds (OutLoad i) (Looked n cargo) r e = elim e [ ]
  finds (OutLoad i) (Took chain cargo) r e = elim e [ ]

  -- ---- what is left

  -- the words and slots after a step of the worker with this view
  abbrev left : Step → Answer → World
  left s a = world_of each (words_after x w s a) (cargoes_after (view_at vs w) ls s) vs

  within : (n c : ℕ) → n ≡ length x.owners → c < length x.owners → c < n
  within n c e l = omega (arith, e, l)

  cell_left : (c : ℕ) (word : CellWord) (n : ℕ) (a : Answer) → IsWhole each x ls vs → c < length x.owners → left (CellStore c word n) a ≡ worlds.changed shown w (CellStore c word n) a
  unfolding words_after
  cell_left c Owner n a r l = λ i. record shown { owner = read_set x.owners c n 0 l i; cells = length-set x.owners c n i }
  cell_left c State n a r l = λ i. record shown { state = read_set x.states c n 0 (within _ c r.sized.words.states l) i }
  cell_left c Value n a r l = λ i. record shown { value = read_set x.values c n 0 (within _ c r.sized.words.values l) i }
  cell_left c Next n a r l = λ i. record shown { next = read_set x.nexts c n 0 (within _ c r.sized.words.nexts l) i }
  cell_left c Trap n a r l = λ i. record shown { trap = read_set x.traps c n 0 (within _ c r.sized.words.traps l) i }
  cell_left c Standing n a r l = by ((n == ready) && in_hand c (view_at vs w).hand)
    where
      stands : reading (slice_set x.standings c n) ≡ put (reading x.standings) c n
      stands = read_set x.standings c n 0 (within _ c r.sized.words.standings l)

      by : (b : Bool) → world_of each (record x { standings = slice_set x.standings c n }) (ready_cargo b c ls) vs ≡ waking b c (with_word c Standing n shown)
      by true = λ i. record shown { standing = stands i; home_cargo = read_set ls.cells c (readied (reading_cargo ls.cells c)) no_cargo (within _ c r.sized.cargoes.cells l) i }
      by false = λ i. record shown { standing = stands i }

  slot_taken : (slot : Slot) (a : Answer) → IsWhole each x ls vs → HasSlot shown slot → left (SlotTake slot) a ≡ worlds.changed shown w (SlotTake slot) a
  unfolding words_after
  slot_taken (Cell c) a r l = λ i. record shown { home = read_set x.cell_slots c None None (within _ c r.sized.words.cell_slots l) i; home_cargo = read_set ls.cells c no_cargo no_cargo (within _ c r.sized.cargoes.cells l) i }
  slot_taken (Mail v) a r l = λ i. record shown { post = read_set x.mail_slots v None None (omega (arith, r.sized.words.mail_slots, l)) i; post_cargo = read_set ls.mail v no_cargo no_cargo (omega (arith, r.sized.cargoes.mail, l)) i }

  slot_put : (slot : Slot) (chain : Chain) (cargo : Cargo) (a : Answer) → IsWhole each x ls vs → HasSlot shown slot → left (SlotPut slot chain cargo) a ≡ worlds.changed shown w (SlotPut slot chain cargo) a
  unfolding words_after
  slot_put (Cell c) chain cargo a r l = λ i. record shown { home = read_set x.cell_slots c (Some chain) None (within _ c r.sized.words.cell_slots l) i; home_cargo = read_set ls.cells c cargo no_cargo (within _ c r.sized.cargoes.cells l) i }
  slot_put (Mail v) chain cargo a r l = λ i. record shown { post = read_set x.mail_slots v (Some chain) None (omega (arith, r.sized.words.mail_slots, l)) i; post_cargo = read_set ls.mail v cargo no_cargo (omega (arith, r.sized.cargoes.mail, l)) i }

  -- a compare and exchange
  read_changed : (b : Bool) (xs : List ℕ) (c new : ℕ) → c < length xs → reading (changed b c new xs) ≡ put_if b (reading xs) c new
  read_changed true xs c new l = read_set xs c new 0 l
  read_changed false xs c new l = refl

  words_left : (s : Step) (a : Answer) → IsWhole each x ls vs → IsPlaced shown s → left s a ≡ worlds.changed shown w s a
  unfolding words_after
  words_left (StackStore p n) a r l = λ i. record shown { stack = read_set x.stack p n 0 (omega (arith, r.stack, l)) i }
  words_left (Mark p) a r l = λ i. record shown { stack = read_set x.stack p 0 0 (omega (arith, r.stack, l)) i }
  words_left (CellStore c word n) a r l = cell_left c word n a r l
  words_left (CellChange c old new) (Number n) r l = λ i. record shown { state = read_changed (n == old) x.states c new (within _ c r.sized.words.states l) i }
  words_left (CellChange c old new) Done r l = refl
  words_left (CellChange c old new) (Looked n cargo) r l = refl
  words_left (CellChange c old new) (Took chain cargo) r l = refl
  words_left Draw a r l = refl
  words_left (ActiveAdd up) a r l = refl
  words_left (StopSet code) (Number n) r l = refl
  words_left (StopSet code) Done r l = refl
  words_left (StopSet code) (Looked n cargo) r l = refl
  words_left (StopSet code) (Took chain cargo) r l = refl
  words_left RootTake a r l = refl
  words_left (RequestChange at old new) (Number n) r l = λ i. record shown { request = read_changed (n == old) x.requests at new (omega (arith, r.sized.words.requests, l)) i }
  words_left (RequestChange at old new) Done r l = refl
  words_left (RequestChange at old new) (Looked n cargo) r l = refl
  words_left (RequestChange at old new) (Took chain cargo) r l = refl
  words_left (MailStore at n) a r l = λ i. record shown { mail = read_set x.mail at n 0 (omega (arith, r.sized.words.mail, l)) i }
  words_left (OutStore j n) a r l = λ i. record shown { out = read_set x.out j n 0 (omega (arith, r.sized.words.out, l)) i }
  words_left (SlotTake slot) a r l = slot_taken slot a r l
  words_left (SlotPut slot chain cargo) a r l = slot_put slot chain cargo a r l
  words_left (StackLoad p) a r l = refl
  words_left (Look p) a r l = refl
  words_left (CellLoad c word) a r l = refl
  words_left ActiveLoad a r l = refl
  words_left StopLoad a r l = refl
  words_left (RequestLoad at) a r l = refl
  words_left MailLoad a r l = refl
  words_left (OutLoad i) a r l = refl

  views_left : (x' : Words) (ls' : Cargoes) (v : View) (vs' : List View) → length vs' ≡ length vs → SetsView vs w v vs' → world_of each x' ls' vs' ≡ seen w v (world_of each x' ls' vs)
  views_left x' ls' v vs' count sets = λ i. record (world_of each x' ls' vs) { workers = count i; view = all i }
    where
      all : view_at vs' ≡ put (view_at vs) w v
      all = function_same (view_at vs') (put (view_at vs) w v) (λ q. dite (ℕ_discrete q w)
          (λ (e : q ≡ w). (ap (view_at vs') e ∙ sets.own) ∙ sym (ap (put (view_at vs) w v) e ∙ put_here (view_at vs) w v))
          (λ (n : q ≢ w). sets.others q n ∙ sym (put_other (view_at vs) w v q n)))

  pub leaves : (s : Step) (a : Answer) (v : View) (x' : Words) (ls' : Cargoes) (vs' : List View) → IsWhole each x ls vs → IsPlaced shown s → Left x ls vs w s a x' ls' vs' → SetsView vs w v vs' → world_of each x' ls' vs' ≡ world_after shown w s a v
  leaves s a v x' ls' vs' r l left_so sets =
      views_left x' ls' v vs' left_so.workers sets
      ∙ ap (seen w v) ((λ i. world_of each (left_so.words i) (left_so.cargoes i) vs) ∙ words_left s a r l)
