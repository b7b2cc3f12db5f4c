-- A worker without a thread that fits its board's view goes from phase to phase. Read Turns (what a step of its round changes), round_fits (the worker fits a view that has been told more), none_same and
-- none_at (it has no thread still), and bag_heard (what it has in hand).
use Rattle.std.proofs.Common.{◌≡◌, ◌≢◌, ℕ, ◌+◌, ◌^◌, ◌<◌, ◌≤◌, Bool, false, List, [], ◌++◌, Option, Some, refl, sym, ap, ◌∙◌, subst}
use Rattle.std.specs.List.{Contains}
use Rattle.st_base.specs.declared.chain.Frame.{Frame}
use Rattle.st_base.specs.declared.image.Image.{Image}
use Rattle.st_base.specs.declared.limits.Limits.{Limits}
use Rattle.st_words.specs.declared.view.View.{View}
use Rattle.st_model.specs.declared.program.Program.{Program}
use Rattle.st_model.specs.Memory.{Data}
use Rattle.st_seats.specs.Placing.{AreOnce}
use Rattle.st_step.specs.declared.state.State.{State}
use Rattle.st_step.specs.Runs.{HasRegisters, AreValues}
use Rattle.st_framed.specs.Framed.{Framed}
use Rattle.st_phases.specs.declared.automaton.Automaton.{Automaton}
use Rattle.st_phases.specs.declared.phase.Phase.{Phase}
use Rattle.st_fits.specs.Bags.{Bag, HasBag}
use Rattle.st_fits.specs.Fits.{IsFor, Holds, taken_of, most_items, ByPhase, FitsIn, is_taking}
use Rattle.st_fits.specs.Threads.{HasNone, ends_of}
use Rattle.st_rounds.proofs.Hearing.{Heard, hears}

-- ---- what changes of a worker

pub record Turns : Type 0 where
  pub machine : State
  pub phase : Phase
  pub since : ℕ
  pub asked : Option ℕ
  pub begun : Bool
  pub last : ℕ

abbrev pub turned : Turns → Automaton → Automaton
turned t x = record x { machine = t.machine; phase = t.phase; since = t.since; asked = t.asked; begun = t.begun; last = t.last }

-- it goes to another phase alone
abbrev pub to_phase : Phase → Automaton → Turns
to_phase φ x = record { machine = x.machine; phase = φ; since = x.since; asked = x.asked; begun = x.begun; last = x.last }

-- a phase in which no number was taken out of the ready ones, and which doesn't stop
pub record IsCalm (φ : Phase) : Type 0 where
  pub none : taken_of φ ≡ []
  pub most : (n : ℕ) → most_items φ n ≡ n
  pub taking : is_taking φ ≡ false

-- another machine of the same stack
pub record IsLike (m n : State) : Type 0 where
  pub lo : n.lo ≡ m.lo
  pub hi : n.hi ≡ m.hi
  pub registers : HasRegisters m → HasRegisters n
  pub values : AreValues m → AreValues n

pub same_machine : (m : State) → IsLike m m
same_machine m = record { lo = refl; hi = refl; registers = λ is. is; values = λ is. is }

-- ---- it fits

-- the request and the worker that it has asked last are so
pub record Asks (t : Turns) (h : Heard) (u : View) : Type 0 where
  pub asked : h.asked ≡ t.asked
  pub other : (at : ℕ) → t.asked ≡ Some at → (at < u.workers) × (at ≢ u.number)
  pub last : t.last < u.workers

module _ (p : Program) (d : Data) (limits : Limits) (image : Image) (input : List ℕ) where
  pub for_turned : (x : Automaton) (t : Turns) → IsLike x.machine t.machine → IsFor p d limits image input x → IsFor p d limits image input (turned t x)
  for_turned x t like is = record {
    code = is.code;
    size = is.size;
    source = is.source;
    instructions = is.instructions;
    begins = is.begins;
    input_is = is.input_is;
    steps = is.steps;
    cells = is.cells;
    room = is.room;
    ready_room = is.ready_room;
    lo = is.lo;
    hi = is.hi;
    low = like.lo ∙ is.low;
    high = like.hi ∙ is.high;
  }

  ready_calm : (φ ψ : Phase) (ns : List ℕ) → IsCalm φ → IsCalm ψ → taken_of φ ++ ns ≡ taken_of ψ ++ ns
  ready_calm φ ψ ns one two = ap (λ (ms : List ℕ). ms ++ ns) (one.none ∙ sym two.none)

  pub holds_turned : (x : Automaton) (t : Turns) (u : View) (h : Heard) → IsLike x.machine t.machine → IsCalm x.phase → IsCalm t.phase → Asks t h u → Holds limits x u → Holds limits (turned t x) (hears h u)
  holds_turned x t u h like one two asks is =
      let same = ready_calm x.phase t.phase x.ready.numbers one two in
      record {
        number = is.number;
        below = is.below;
        workers = is.workers;
        few_workers = is.few_workers;
        cells = is.cells;
        few_cells = is.few_cells;
        each = is.each;
        words = is.words;
        notes = is.notes;
        items = is.items;
        frame_bytes = is.frame_bytes;
        few_items = subst (λ n. x.items ≤ n) (one.most limits.steps ∙ sym (two.most limits.steps)) is.few_items;
        few_bytes = is.few_bytes;
        not_open = λ none. is.not_open one.taking;
        ready_once = subst AreOnce same is.ready_once;
        ready = λ c at. is.ready c (subst (λ (ns : List ℕ). Contains ns c) (sym same) at);
        all_ready = λ c at. subst (λ (ns : List ℕ). Contains ns c) same (is.all_ready c at);
        asked = asks.asked;
        asked_other = asks.other;
        exported = is.exported;
        all_exported = is.all_exported;
        last = asks.last;
        registers = like.registers is.registers;
        values = like.values is.values;
      }

  -- in the phase φ
  pub round_fits : (x : Automaton) (t : Turns) (u : View) (h : Heard) (φ : Phase) → t.phase ≡ φ → IsLike x.machine t.machine → IsCalm x.phase → IsCalm φ → Asks t h u → FitsIn p d limits image input x u → ByPhase p d limits φ (turned t x) (hears h u) → FitsIn p d limits image input (turned t x) (hears h u)
  round_fits x t u h φ is like one two asks fits by = record {
    is_for = for_turned x t like fits.is_for;
    holds = holds_turned x t u h like one (subst IsCalm (sym is) two) asks fits.holds;
    by = subst (λ φ. ByPhase p d limits φ (turned t x) (hears h u)) (sym is) by;
  }

  -- in other words
  pub fits_as : (y z : Automaton) (v w : View) → y ≡ z → v ≡ w → FitsIn p d limits image input z w → FitsIn p d limits image input y v
  fits_as y z v w here there fits = subst (λ k. FitsIn p d limits image input k v) (sym here) (subst (λ k. FitsIn p d limits image input z k) (sym there) fits)

-- ---- it has no thread

-- its machine may be another one, where its stack may be so
pub none_at : (x : Automaton) (t : Turns) (u : View) (h : Heard) (others : List Frame) → t.machine.pc ≡ x.machine.pc → Framed x.stack (ends_of t.machine) [] → x.stack.hi ≤ (ends_of t.machine).sp + u.frame_bytes → HasNone x u others → HasNone (turned t x) (hears h u) others
none_at x t u h others pc framed used none = record {
  is = none.is;
  place = subst (λ n. n + 4 < 2 ^ 32) (sym pc) none.place;
  lies = record { framed = framed; used = used; away = none.lies.away };
  leases = none.leases;
}

pub none_same : (x : Automaton) (t : Turns) (u : View) (h : Heard) (others : List Frame) → t.machine ≡ x.machine → HasNone x u others → HasNone (turned t x) (hears h u) others
none_same x t u h others same none = none_at x t u h others (ap (λ (m : State). m.pc) same) (subst (λ m. Framed x.stack (ends_of m) []) (sym same) none.lies.framed) (subst (λ m. x.stack.hi ≤ (ends_of m).sp + u.frame_bytes) (sym same) none.lies.used) none

-- ---- what it has in hand

pub bag_heard : (b : Bag) (u : View) (h : Heard) (g r : Bool) → HasBag b u → h.answering ≡ b.answering → h.given ≡ g → h.root ≡ r → HasBag (record b { given = g; root = r }) (hears h u)
bag_heard b u h g r is answering given root = record {
  chains = is.chains;
  hand = is.hand;
  share = is.share;
  drawn = is.drawn;
  child = is.child;
  answering = answering;
  given = given;
  root = root;
}
