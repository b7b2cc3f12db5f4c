-- The laws of the rule. Read RuleKept (each careful step, with the item that goes with it, keeps the rule, of a heap to which the item leads), RuleMoves (so does all that a worker does
-- between steps, one worker or all of them: RuleSettles), RuleTold, RuleComes and RuleTidy (what the answers promise, what a chain that is taken stands for, and what is always so of a view),
-- RuleFollows and RuleFillsOnce (what holds of words, cells and stop codes), RuleRests (what it means that nothing is active) and RuleOpened.
use Rattle.std.specs.Prelude.{◌≡◌, ◌≢◌, ◌⊎◌, ℕ, ◌/◌, ◌≤◌, ◌<◌, nat_lt, false, if◌then◌else◌, List, Some, None}
use Rattle.st_base.specs.declared.chain.Chain.{Chain}
use Rattle.st_base.specs.declared.limits.Limits.{Limits}
use Rattle.st_base.specs.declared.thread.Held.{Held}
use Rattle.st_base.specs.declared.thread.Held.TheVariants.{Future}
use Rattle.st_base.specs.declared.thread.Thread.{Thread}
use Rattle.st_words.specs.declared.view.Slot.{Slot}
use Rattle.st_words.specs.declared.view.Cargo.{Cargo}
use Rattle.st_words.specs.declared.view.View.{View}
use Rattle.st_words.specs.Encodings.{full_word, is_counter}
use Rattle.st_words.specs.Steps.{Step, SlotTake, Answer, Took, Can, kept}
use Rattle.st_words.specs.Views.{Does}
use Rattle.st_words.specs.Plain.{first_words, first_cargoes, first_views}
use Rattle.st_words.specs.Promises.{Promises, IsByHand}
use Rattle.st_words.specs.Careful.{Meaning, Careful, ShowsPlace}
use Rattle.st_words.specs.Tidy.{Tidy}
use Rattle.st_model.specs.declared.program.Program.{Program}
use Rattle.st_model.specs.declared.ordinary.State.{State}
use Rattle.st_model.specs.Memory.{Data}
use Rattle.st_model.specs.Ordinary.{start}
use Rattle.st_model.specs.Heap.{Path, Heap, HStep, Run, HasEnded, IsNumbered, new_thread, first_heap}
use Rattle.st_made.specs.Items.{IsLive}
use Rattle.st_made.specs.Moves.{Made}
use Rattle.st_made.specs.Events.{Event}
use Rattle.st_world.specs.World.{World, cargo_of, seen, Finds, world_after}
use Rattle.st_world.specs.OfPlain.{world_of}
use Rattle.st_seats.specs.Laws.{IsStill, IsIdle}
use Rattle.st_limits.specs.Stopping.{StopMeans}
use Rattle.st_rule.specs.Rule.{IsMeant, Rule}

module _ (m : Meaning) (program : Program) (source : Data) (limits : Limits) where
  -- the rule holds of a heap that is the one before, or one step of the machine from there
  pub record OneOn (h0 h : Heap) (y : World) : Type 0 where
    pub heap : Heap
    pub goes : (heap ≡ h) ⊎ ((p : Path) × HStep program source h p heap)
    pub rule : Rule m program source limits h0 heap y

  -- of one to which a run leads from there
  pub record RunOn (h0 h : Heap) (y : World) : Type 0 where
    pub heap : Heap
    pub steps : List Path
    pub run : Run program source h steps heap
    pub rule : Rule m program source limits h0 heap y

  -- each careful step keeps the rule, whatever is answered
  abbrev pub RuleKept : Type 0
  RuleKept = (h0 h : Heap) (x : World) (w : ℕ) (s : Step) (a : Answer) (v : View) → IsMeant m program source limits → IsNumbered h0 → Rule m program source limits h0 h x → w < x.workers → Can (x.view w) s → Careful m (x.view w) s → Finds x w s a → Does (x.view w) s a v → Event program source (x.view w) s a v → OneOn h0 h (world_after x w s a v)

  -- so does what a worker does by itself
  abbrev pub RuleMoves : Type 0
  RuleMoves = (h0 h : Heap) (x : World) (w : ℕ) (u : View) → Rule m program source limits h0 h x → w < x.workers → Made program source (x.view w) u → RunOn h0 h (seen w u x)

  -- so does what all workers do by themselves, each since its last step: the workers are read as settled
  abbrev pub settled : (ℕ → View) → World → World
  settled own x = record x { view = λ w. if nat_lt w x.workers then own w else x.view w }

  abbrev pub RuleSettles : Type 0
  RuleSettles = (h0 h : Heap) (x : World) (own : ℕ → View) → Rule m program source limits h0 h x → ((w : ℕ) → w < x.workers → Made program source (x.view w) (own w)) → RunOn h0 h (settled own x)

  -- ---- what follows

  abbrev pub RuleTold : Type 0
  RuleTold = (h0 h : Heap) (x : World) (w : ℕ) (s : Step) (a : Answer) → Rule m program source limits h0 h x → w < x.workers → Can (x.view w) s → Finds x w s a → Promises (x.view w) s a

  abbrev pub RuleTidy : Type 0
  RuleTidy = (h0 h : Heap) (x : World) (w : ℕ) → Rule m program source limits h0 h x → w < x.workers → Tidy (x.view w)

  abbrev pub RuleComes : Type 0
  RuleComes = (h0 h : Heap) (x : World) (w : ℕ) (slot : Slot) (chain : Chain) (cargo : Cargo) → Rule m program source limits h0 h x → w < x.workers → Can (x.view w) (SlotTake slot) → Finds x w (SlotTake slot) (Took (Some chain) cargo) → m.walks cargo chain × (IsByHand (x.view w) slot → ShowsPlace m cargo.carried cargo.carried.wait)

  -- where nothing is active, no worker has a thread, a chain, a named child or a number in hand, no chain is in mail, and each thread is gone, or in its slot, where it
  -- has trapped or waits, listed, for what isn't so yet
  pub record AtRest (h0 h : Heap) (x : World) (r : Rule m program source limits h0 h x) : Type 0 where
    pub idle : (w : ℕ) → w < x.workers → IsIdle (x.view w)
    pub no_mail : (v : ℕ) → v < x.workers → x.post v ≡ None
    pub still : (c : ℕ) → IsStill x r.lists c
    -- each thread of the heap that hasn't ended is that of the chain in the slot of its cell
    pub live : (p : Path) (t : Thread) → h.thread p ≡ Some t → IsLive t.standing → (c : ℕ) × (chain : Chain) × (x.home c ≡ Some chain) × ((x.home_cargo c).carried.known.path ≡ p) × ((x.home_cargo c).carried.known.thread ≡ t)

  abbrev pub RuleRests : Type 0
  RuleRests = (h0 h : Heap) (x : World) (r : Rule m program source limits h0 h x) → x.active ≡ 0 → AtRest h0 h x r

  -- what holds of words, cells and stop codes wherever the rule does
  pub record Follows (h0 h : Heap) (x : World) (r : Rule m program source limits h0 h x) : Type 0 where
    -- a held word has its keeper's value, and one keeper
    pub value : (w p n : ℕ) → kept (x.view w).held p ≡ Some n → x.stack p ≡ n
    pub one_view : (v w p a b : ℕ) → kept (x.view v).held p ≡ Some a → kept (x.view w).held p ≡ Some b → v ≡ w
    pub one_slot : (y z : Slot) (p a b : ℕ) → kept (cargo_of x y).words p ≡ Some a → kept (cargo_of x z).words p ≡ Some b → y ≡ z
    pub not_both : (w : ℕ) (z : Slot) (p a b : ℕ) → kept (x.view w).held p ≡ Some a → kept (cargo_of x z).words p ≡ Some b → ⊥
    -- a name has one cell; a thread that has ended has filled its cell with its value
    pub one_cell : (name : Held) (c d : ℕ) → r.names.name c ≡ Some name → r.names.name d ≡ Some name → c ≡ d
    pub ended : (p : Path) (n : ℕ) → HasEnded h p n → (c : ℕ) × (r.names.name c ≡ Some (Future p)) × (x.state c ≡ full_word) × (x.value c ≡ n)
    -- where a worker has stopped all, some run of the program passes that limit
    pub stops : x.stop ≢ 0 → StopMeans program source limits h0 x.workers x.stop

  abbrev pub RuleFollows : Type 0
  RuleFollows = (h0 h : Heap) (x : World) (r : Rule m program source limits h0 h x) → Follows h0 h x r

  -- a future is filled once: it stays full, with its value, by each step that may be asked
  abbrev pub RuleFillsOnce : Type 0
  RuleFillsOnce = (h0 h : Heap) (x : World) (w : ℕ) (s : Step) (a : Answer) (v : View) (c : ℕ) → Rule m program source limits h0 h x → w < x.workers → Can (x.view w) s → Finds x w s a → is_counter (x.owner c) ≡ false → x.state c ≡ full_word → ((world_after x w s a v).state c ≡ full_word) × ((world_after x w s a v).value c ≡ x.value c)

  -- a board that is opened for the root's thread has the rule
  abbrev pub RuleOpened : Type 0
  RuleOpened = (s : State) (workers : ℕ) → IsMeant m program source limits → start program source ≡ Some s → workers ≤ 31 → Rule m program source limits (first_heap s) (first_heap s) (world_of (limits.stack / 8) (first_words limits workers) (first_cargoes limits workers (new_thread s.top s.registers)) (first_views limits workers))

-- all of them, for any program and input and any limits
pub record RuleLaws (m : Meaning) : Type 0 where
  pub kept : (program : Program) (source : Data) (limits : Limits) → RuleKept m program source limits
  pub moves : (program : Program) (source : Data) (limits : Limits) → RuleMoves m program source limits
  pub settles : (program : Program) (source : Data) (limits : Limits) → RuleSettles m program source limits
  pub told : (program : Program) (source : Data) (limits : Limits) → RuleTold m program source limits
  pub tidy : (program : Program) (source : Data) (limits : Limits) → RuleTidy m program source limits
  pub comes : (program : Program) (source : Data) (limits : Limits) → RuleComes m program source limits
  pub follows : (program : Program) (source : Data) (limits : Limits) → RuleFollows m program source limits
  pub fills_once : (program : Program) (source : Data) (limits : Limits) → RuleFillsOnce m program source limits
  pub rests : (program : Program) (source : Data) (limits : Limits) → RuleRests m program source limits
  pub opened : (program : Program) (source : Data) (limits : Limits) → RuleOpened m program source limits
