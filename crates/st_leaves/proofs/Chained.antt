-- The one chain of the turn of a thread that has left, whose Trap and Standing words are stored, and which is put into its slot. Read trap_view, standing_view and put_view (the view after each), carries_with (the
-- chain is carried with its new word), left_with (and its thread has left), and what the kind of a leaving says of its wait: shows_place, few_kind and standing_is.
use Rattle.std.proofs.Common.{◌≡◌, ◌≢◌, ⊎_elim, ℕ, ◌<◌, ◌≤◌, ◌==◌, Bool, true, false, cond, if◌then◌else◌, not, List, [], ◌∷◌, Option, Some, None, refl, sym, ap, ◌∙◌, subst, arith, eq-eqb, ne_eqb, inl, inr}
use Rattle.std.specs.List.{Contains}
use Rattle.st_base.specs.declared.chain.Chain.{Chain}
use Rattle.st_base.specs.declared.chain.Frame.{Frame}
use Rattle.st_base.specs.declared.chain.Waiting.{Waiting}
use Rattle.st_base.specs.declared.chain.Waiting.TheVariants as waits
use Rattle.st_base.specs.declared.limits.Limits.{Limits}
use Rattle.st_base.specs.declared.thread.Held.{Held}
use Rattle.st_base.specs.declared.thread.Held.TheVariants.{Counter, Future}
use Rattle.st_model.specs.declared.program.Program.{Program}
use Rattle.st_model.specs.Memory.{Data}
use Rattle.st_words.proofs.Waiting.{put_share}
use Rattle.st_words.proofs.Lists.{contains_case, contains_here, contains_none}
use Rattle.st_words.specs.Careful.{ShowsPlace, standing_of}
use Rattle.st_words.specs.Encodings.{head_in, trap_word, waits_word, trapped}
use Rattle.st_words.specs.Steps.{CellStore, Done, IsCounter, IsFuture, IsWaiting, SlotPut}
use Rattle.st_words.specs.Views.{view_after, with_trap, with_standing, without_chain, stood, waiter_of}
use Rattle.st_words.specs.declared.view.Cargo.{Cargo}
use Rattle.st_words.specs.declared.view.Carried.{Carried}
use Rattle.st_words.specs.declared.view.CellWord.TheVariants as words
use Rattle.st_words.specs.declared.view.Known.{Known}
use Rattle.st_words.specs.declared.view.Slot.TheVariants as slots
use Rattle.st_words.specs.declared.view.View.{View}
use Rattle.st_cargo.specs.Cargo.{HasFrames}
use Rattle.st_run.specs.Meanings.{IsAt, meaning}
use Rattle.st_phases.specs.Leaving.{standing_word}
use Rattle.st_phases.specs.Waking.{MayPark}
use Rattle.st_phases.specs.declared.automaton.Automaton.{Automaton}
use Rattle.st_phases.specs.declared.phase.Leaving.{Leaving}
use Rattle.st_fits.specs.Bags.{Bag, CanPark, HasBag, IsNamed, IsOfKind, with_chain}
use Rattle.st_fits.specs.Before.{after}
use Rattle.st_fits.specs.Fits.{HasLeft, OfWait}
use Rattle.st_fits.specs.Threads.{Carries, OfKind, Rests}

-- ---- one chain of a turn

abbrev pub with_words : Option ℕ → Option ℕ → Carried → Carried
with_words trap standing x = record x { trap = trap; standing = standing }

-- it is the only one
abbrev pub with_only : Carried → View → View
with_only x u = record u { chains = x ∷ [] }

only_one : {X : Type 0} (x y : X) → Contains (x ∷ []) y → y ≡ x
only_one x y is = ⊎_elim (λ (e : x ≡ y). sym e) (λ more. absurd (contains_none y more)) (contains_case y x [] is)

-- ---- views

module _ (p : Program) (d : Data) (u : View) (x : Carried) (c : ℕ) (only : u.chains ≡ x ∷ []) (cell : x.known.note.cell ≡ c) where
  pub trap_view : (n : ℕ) → after p d u (CellStore c words.Trap n) Done ≡ with_only (record x { trap = Some n }) u
  unfolding after view_after
  trap_view n = ap (λ (xs : List Carried). record u { chains = with_trap c n xs }) only ∙ ap (λ (b : Bool). record u { chains = (if b then record x { trap = Some n } else x) ∷ [] }) (eq-eqb x.known.note.cell c cell)

  -- of a thread that waits or has stopped
  stood_view : (n : ℕ) → after p d u (CellStore c words.Standing n) Done ≡ record (stood c n u) { threads = u.threads }
  unfolding after view_after
  stood_view n = refl

  chain_stands : (n : ℕ) → record u { chains = with_standing c n u.chains } ≡ with_only (record x { standing = Some n }) u
  chain_stands n = ap (λ (xs : List Carried). record u { chains = with_standing c n xs }) only ∙ ap (λ (b : Bool). record u { chains = (if b then record x { standing = Some n } else x) ∷ [] }) (eq-eqb x.known.note.cell c cell)

  by_kind : (waits : Bool) → after p d u (CellStore c words.Standing (if waits then waits_word else trapped)) Done ≡ with_only (record x { standing = Some (if waits then waits_word else trapped) }) u
  by_kind true = stood_view waits_word ∙ chain_stands waits_word
  by_kind false = stood_view trapped ∙ chain_stands trapped

  pub standing_view : (kind : ℕ) → after p d u (CellStore c words.Standing (standing_word kind)) Done ≡ with_only (record x { standing = Some (standing_word kind) }) u
  standing_view kind = by_kind (kind == 0)

-- ---- the chain is carried with its new words

module _ (p : Program) (d : Data) (u : View) (chain : Chain) (x : Carried) (fs : List Frame) (trap standing : Option ℕ) where
  pub frames_with : u.chains ≡ x ∷ [] → HasFrames p d u chain x fs → HasFrames p d (with_only (with_words trap standing x) u) chain (with_words trap standing x) fs
  frames_with only h = record {
    there = contains_here (with_words trap standing x) [];
    single = λ y is same. only_one (with_words trap standing x) y is;
    note = h.note;
    cell = h.cell;
    wait = h.wait;
    stands = h.stands;
    begun = h.begun;
    leased = h.leased;
    own = h.own;
    knows = h.knows;
  }

  pub carries_with : (was : Option ℕ) → Carries p d u chain was x fs → Carries p d (with_only (with_words trap standing x) u) chain standing (with_words trap standing x) fs
  carries_with was h = record { only = refl; has = frames_with h.only h.has; stands = refl; below = h.below }

-- ---- what it waits for

-- the two views know the same of it
pub record SameKnown (u v : View) : Type 0 where
  pub names : v.names ≡ u.names
  pub owners : v.owners ≡ u.owners
  pub threads : v.threads ≡ u.threads
  pub cells : v.cells ≡ u.cells

module _ (u v : View) (same : SameKnown u v) where
  pub named_still : (wait : Waiting) → IsNamed wait u → IsNamed wait v
  named_still (waits.Touch cell) h = (h.0, subst (λ (ns : List (Held × ℕ)). Contains ns (Future h.0, cell)) (sym same.names) h.1)
  named_still (waits.Join cell least) h = (h.0, h.1, subst (λ (ns : List (Held × ℕ)). Contains ns (Counter h.0 h.1, cell)) (sym same.names) h.2)
  named_still waits.Ready h = absurd h
  named_still waits.Start h = absurd h
  named_still waits.Trapped h = absurd h

  future_still : (cell : ℕ) → IsFuture u cell → IsFuture v cell
  future_still cell h =
      ⊎_elim (λ owner. inl (owner.0, subst (λ (os : List (ℕ × ℕ)). Contains os (cell, owner.0)) (sym same.owners) owner.1, owner.2)) (λ thread. inr (thread.0, subst (λ (ts : List Known). Contains ts thread.0) (sym same.threads) thread.1, thread.2)) h

  counter_still : (cell : ℕ) → IsCounter u cell → IsCounter v cell
  counter_still cell h = (h.0, subst (λ (os : List (ℕ × ℕ)). Contains os (cell, h.0)) (sym same.owners) h.1, h.2)

  pub kind_still : (wait : Waiting) → IsOfKind wait u → IsOfKind wait v
  kind_still (waits.Touch cell) h = (subst (λ (k : ℕ). cell < k) (sym same.cells) h.0, future_still cell h.1)
  kind_still (waits.Join cell least) h = (subst (λ (k : ℕ). cell < k) (sym same.cells) h.0, counter_still cell h.1)
  kind_still waits.Ready h = absurd h
  kind_still waits.Start h = absurd h
  kind_still waits.Trapped h = absurd h

  -- the waiter may be another
  pub can_park_still : (waiter other : ℕ) (wait : Waiting) (seen : ℕ) → CanPark (record { waiter = other; wait = wait; seen = seen; rest = None }) u → CanPark (record { waiter = waiter; wait = wait; seen = seen; rest = None }) v
  can_park_still waiter other wait seen h = record {
    named = named_still wait h.named;
    kind = kind_still wait h.kind;
    head = subst (λ (k : ℕ). head_in seen ≤ k) (sym same.cells) h.head;
    small = λ cell is not_full. subst (λ (k : ℕ). seen ≤ k) (sym same.cells) (h.small cell is not_full);
  }

-- ---- what the kind of a leaving says of its wait

module _ (p : Program) (d : Data) (limits : Limits) (leaving : Leaving) where
  pub of_wait_still : (u v : View) → SameKnown u v → (wait : Waiting) → OfWait p d limits leaving u wait → OfWait p d limits leaving v wait
  of_wait_still u v same (waits.Touch cell) h = (h.0, can_park_still u v same 0 0 (waits.Touch cell) leaving.seen h.1, h.2)
  of_wait_still u v same (waits.Join cell least) h = (h.0, can_park_still u v same 0 0 (waits.Join cell least) leaving.seen h.1, h.2)
  of_wait_still u v same waits.Ready h = absurd h.2
  of_wait_still u v same waits.Start h = absurd h.2
  of_wait_still u v same waits.Trapped h = h

  module _ (u : View) where
    pub few_kind : (wait : Waiting) → OfWait p d limits leaving u wait → leaving.kind < 16
    few_kind (waits.Touch cell) h = let e = h.0 in omega (arith, e)
    few_kind (waits.Join cell least) h = let e = h.0 in omega (arith, e)
    few_kind waits.Ready h = absurd h.2
    few_kind waits.Start h = absurd h.2
    few_kind waits.Trapped h = h.1

    waiting_is : leaving.kind ≡ 0 → Some waits_word ≡ Some (standing_word leaving.kind)
    waiting_is e = ap (λ (b : Bool). Some (if b then waits_word else trapped)) (sym (eq-eqb leaving.kind 0 e))

    pub standing_is : (wait : Waiting) → OfWait p d limits leaving u wait → standing_of wait ≡ Some (standing_word leaving.kind)
    standing_is (waits.Touch cell) h = waiting_is h.0
    standing_is (waits.Join cell least) h = waiting_is h.0
    standing_is waits.Ready h = absurd h.2
    standing_is waits.Start h = absurd h.2
    standing_is waits.Trapped h = ap (λ (b : Bool). Some (if b then waits_word else trapped)) (sym (ne_eqb leaving.kind 0 h.0))

    -- it waits, by its kind
    pub waits_so : (wait : Waiting) → leaving.kind ≡ 0 → OfWait p d limits leaving u wait → CanPark (record { waiter = 0; wait = wait; seen = leaving.seen; rest = None }) u × MayPark wait leaving.seen × IsWaiting wait
    waits_so (waits.Touch cell) e h = (h.1, h.2, tt)
    waits_so (waits.Join cell least) e h = (h.1, h.2, tt)
    waits_so waits.Ready e h = absurd h.2
    waits_so waits.Start e h = absurd h.2
    waits_so waits.Trapped e h = absurd (h.0 e)

    pub traps_so : (wait : Waiting) → leaving.kind ≢ 0 → OfWait p d limits leaving u wait → wait ≡ waits.Trapped
    traps_so (waits.Touch cell) other h = absurd (other h.0)
    traps_so (waits.Join cell least) other h = absurd (other h.0)
    traps_so waits.Ready other h = absurd h.2
    traps_so waits.Start other h = absurd h.2
    traps_so waits.Trapped other h = refl

  -- the Trap word tells its place and its kind
  trap_zero : (pc : ℕ) (trap : Option ℕ) → leaving.kind ≡ 0 → trap ≡ Some (trap_word pc leaving.kind) → trap ≡ Some (trap_word pc 0)
  trap_zero pc trap zero_kind is = is ∙ ap (λ (k : ℕ). Some (trap_word pc k)) zero_kind

  pub shows_place : (wait : Waiting) (t : Carried) (pc : ℕ) → IsAt p t.known.thread.activations pc → OfKind p d leaving t.known wait → t.trap ≡ Some (trap_word pc leaving.kind) → ShowsPlace (meaning p d limits) t wait
  shows_place (waits.Touch cell) t pc at kind is = (pc, at, trap_zero pc t.trap kind is)
  shows_place (waits.Join cell least) t pc at kind is = (pc, at, trap_zero pc t.trap kind is)
  shows_place waits.Ready t pc at kind is = (pc, at, trap_zero pc t.trap kind is)
  shows_place waits.Start t pc at kind is = (pc, at, trap_zero pc t.trap kind is)
  shows_place waits.Trapped t pc at kind is = (pc, leaving.kind, at, kind, is)

  -- and it still does behind its Standing word
  pub shows_still : (wait : Waiting) (x : Carried) (standing : Option ℕ) → ShowsPlace (meaning p d limits) x wait → ShowsPlace (meaning p d limits) (with_words x.trap standing x) wait
  shows_still (waits.Touch cell) x standing h = h
  shows_still (waits.Join cell least) x standing h = h
  shows_still waits.Ready x standing h = h
  shows_still waits.Start x standing h = h
  shows_still waits.Trapped x standing h = h

  -- ---- a thread that has left, with a new word

  pub left_with : (chain : Chain) (was : Option ℕ) (Shows Shows' : Carried → Type 0) (x y : Automaton) (u : View) (trap standing : Option ℕ) → (h : HasLeft p d limits chain leaving was Shows x u) → Shows' (with_words trap standing h.carried) → Rests p d y (with_only (with_words trap standing h.carried) u) h.frames →
      HasLeft p d limits chain leaving standing Shows' y (with_only (with_words trap standing h.carried) u)
  left_with chain was Shows Shows' x y u trap standing h shows rests = record {
    carried = with_words trap standing h.carried;
    frames = h.frames;
    carries = carries_with p d u chain h.carried h.frames trap standing was h.carries;
    bag = record {
      chains = refl;
      hand = h.bag.hand;
      share = h.bag.share;
      drawn = h.bag.drawn;
      child = h.bag.child;
      answering = h.bag.answering;
      given = h.bag.given;
      root = h.bag.root;
    };
    wait = h.wait;
    of_wait = of_wait_still u (with_only (with_words trap standing h.carried) u) (record { names = refl; owners = refl; threads = refl; cells = refl }) leaving.wait h.of_wait;
    kind = h.kind;
    shows = shows;
    place = h.place;
    rests = rests;
  }

-- ---- the chain is put into its slot

-- what is known stays
pub record PutSame (u v : View) : Type 0 where
  pub known : SameKnown u v
  pub ready : v.ready ≡ u.ready
  pub asked : v.asked ≡ u.asked
  pub exported : v.exported ≡ u.exported

module _ (p : Program) (d : Data) (u : View) where
  pub put_same : (c : ℕ) (chain : Chain) (cargo : Cargo) → PutSame u (after p d u (SlotPut (slots.Cell c) chain cargo) Done)
  unfolding after view_after
  put_same c chain cargo = record { known = record { names = refl; owners = refl; threads = refl; cells = refl }; ready = refl; asked = refl; exported = refl }

  pub put_bag : (b : Bag) (chain : Chain) (x : Carried) (cargo : Cargo) → x.known.note.cell ≡ chain.cell → cargo.unit ≡ 0 → b.hand ≡ [] → HasBag (with_chain x b) u → HasBag (record b { chains = []; hand = waiter_of chain.cell chain.wait [] }) (after p d u (SlotPut (slots.Cell chain.cell) chain cargo) Done)
  unfolding after view_after
  put_bag b chain x cargo same none empty h = record {
    chains = ap (without_chain chain.cell) h.chains ∙ ap (λ (t : Bool). cond (not t) (x ∷ []) []) (eq-eqb x.known.note.cell chain.cell same);
    hand = ap (waiter_of chain.cell chain.wait) (h.hand ∙ empty);
    share = put_share u chain.cell chain cargo none ∙ h.share;
    drawn = h.drawn;
    child = h.child;
    answering = h.answering;
    given = h.given;
    root = h.root;
  }
