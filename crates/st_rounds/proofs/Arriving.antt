-- The thread of a chain is alone on the machine: the worker fits a view in which it is the only thread, and no chain is in the turn. Read lands_fits.
use Rattle.std.proofs.Common.{◌≡◌, ◌≢◌, inl, ⊎_elim, ℕ, ◌+◌, ◌≤◌, List, [], ◌∷◌, ◌++◌, length, Option, refl, sym, ap, ◌∙◌, subst, arith}
use Rattle.std.specs.List.{Contains}
use Rattle.st_base.specs.declared.chain.Chain.{Chain}
use Rattle.st_base.specs.declared.chain.Frame.{Frame}
use Rattle.st_base.specs.declared.chain.Note.{Note}
use Rattle.st_base.specs.declared.image.Image.{Image}
use Rattle.st_base.specs.declared.limits.Limits.{Limits}
use Rattle.st_base.specs.declared.reg.Reg.TheVariants as registers
use Rattle.st_words.specs.declared.view.Known.{Known}
use Rattle.st_words.specs.declared.view.View.{View}
use Rattle.st_words.specs.Encodings.{running}
use Rattle.st_words.specs.Tidy.{Tidy}
use Rattle.st_words.proofs.Lists.{contains_none}
use Rattle.st_model.specs.declared.program.Program.{Program}
use Rattle.st_model.specs.Memory.{Data}
use Rattle.st_seats.specs.Placing.{AreOnce}
use Rattle.st_stack.specs.Exported.{IsFrameOn, IsLimit, Apart}
use Rattle.st_step.specs.declared.state.State.{State}
use Rattle.st_step.specs.Moves.{register}
use Rattle.st_step.specs.Runs.{HasRegisters, AreValues, AreWords}
use Rattle.st_items.specs.Body.{IsOn}
use Rattle.st_chain.specs.Walk.{word_in, is_held}
use Rattle.st_chain.specs.Copying.{over}
use Rattle.st_chain.specs.Seen.{IsWhole, joined}
use Rattle.st_standing.specs.Standing.{StandsOn}
use Rattle.st_framed.specs.Framed.{Framed, IsElsewhere}
use Rattle.st_framed.proofs.Coming.{comes_framed}
use Rattle.st_run.specs.Behind.{IsBehind}
use Rattle.st_phases.specs.declared.automaton.Automaton.{Automaton}
use Rattle.st_phases.specs.declared.phase.Phase.TheVariants as phases
use Rattle.st_fits.specs.Fits.{IsFor, Holds, HasCome, FitsIn}
use Rattle.st_fits.specs.Threads.{ends_of, now, IsPlain, Lies, Comes, Runs}
use Rattle.st_kept.proofs.Going.{framed_ends}
use Rattle.st_kept.proofs.Laid.{apart_laid}
use Rattle.st_rounds.proofs.Idle.{IsCalm}

-- ---- a machine that has come to the chain's place

-- on the same stack; gp is the limit
pub record Lands (m n : State) (limit : ℕ) : Type 0 where
  pub lo : n.lo ≡ m.lo
  pub hi : n.hi ≡ m.hi
  pub count : length n.registers ≡ length m.registers
  pub origin : register n registers.Zero ≡ register m registers.Zero
  pub sp : register n registers.Sp ≡ register m registers.Sp
  pub gp : register n registers.Gp ≡ limit
  pub values : AreValues n

pub lands_registers : (m n : State) (limit : ℕ) → HasRegisters m → Lands m n limit → HasRegisters n
lands_registers m n limit has lands = record { count = lands.count ∙ has.count; origin = lands.origin ∙ has.origin }

pub lands_on : (m n : State) (limit : ℕ) (held : List (Option ℕ)) → AreWords (word_in held) → HasRegisters m → Lands m n limit → IsOn (ends_of n) (over held n)
lands_on m n limit held words has lands = record { has_registers = lands_registers m n limit has lands; values = lands.values; words = words; lo = refl; hi = refl; sp = refl; gp = refl }

-- the only thread, and no chain
abbrev pub landed : Known → View → View
landed k v = record v { threads = k ∷ []; chains = [] }

-- the worker with the thread of a chain on that machine
abbrev pub lander : State → Note → Automaton → Automaton
lander n note x = record x { machine = n; threads = record x.threads { notes = note ∷ [] }; phase = phases.Running }

on_whole : (lo hi : ℕ) (f : Frame) → 2147483648 ≤ lo → IsFrameOn lo hi f → IsWhole f
on_whole lo hi f low on =
    let from = on.from in
    let some = on.some in
    let one = on.low_even in
    let two = on.base_even in
    record { above = omega (arith, low, from); even = record { low = one; base = two }; some = omega (arith, some, one, two) }

join_one : (fs : List Frame) → joined (fs ∷ []) ≡ fs
join_one [] = refl
join_one (f ∷ fs) = ap (λ (gs : List Frame). f ∷ gs) (join_one fs)

more_none : (fs : List Frame) → fs ++ [] ≡ fs
more_none [] = refl
more_none (f ∷ fs) = ap (λ (gs : List Frame). f ∷ gs) (more_none fs)

-- ---- it fits

-- a worker whose chain stands at a view
pub record Arriving (p : Program) (d : Data) (limits : Limits) (image : Image) (input : List ℕ) (chain : Chain) (x : Automaton) (v : View) : Type 0 where
  pub is_for : IsFor p d limits image input x
  pub holds : Holds limits x v
  pub come : HasCome p d limits chain running x v
  pub tidy : Tidy v
  pub behind : IsBehind p d v
  pub calm : IsCalm x.phase
  pub words : AreWords (word_in v.held)
  pub whole : (f : Frame) → Contains come.frames f → IsWhole f

module _ (p : Program) (d : Data) (limits : Limits) (image : Image) (input : List ℕ) (chain : Chain) (x : Automaton) (v : View) (a : Arriving p d limits image input chain x v) (n : State) (limit : ℕ) (lands : Lands x.machine n limit) (limit_is : IsLimit x.stack.hi x.stack.exported limit) where
  framed_there : Framed x.stack (ends_of n) []
  framed_there = framed_ends x.stack (ends_of x.machine) (ends_of n) [] lands.lo lands.hi lands.sp a.come.none.lies.framed

  -- a frame of the chain and an exported one, where they aren't the same
  clear : (f g : Frame) → Contains a.come.frames f → Contains x.stack.exported g → f ≢ g → Apart f g
  clear f g at there other =
      let stack = framed_there.stack in
      apart_laid f g (a.whole f at) (on_whole x.stack.lo x.stack.hi g stack.low (stack.on g there))
      (λ q inside within. other (a.tidy.leased.apart.apart f g q (a.come.carries.has.leased f at) (inl (a.holds.exported g there)) inside within))

  chain_framed : Framed x.stack (ends_of n) a.come.frames
  chain_framed = comes_framed x.stack (ends_of n) a.come.frames framed_there.stack a.come.may.apart a.come.may.some clear a.come.may.others

  away_there : (f : Frame) → Contains a.come.frames f → IsElsewhere x.stack.lo x.stack.hi f → Contains v.away f
  away_there f at elsewhere = ⊎_elim
      (λ exported.
      let on = framed_there.stack.on f (a.holds.all_exported f exported) in
      let from = on.from in
      let some = on.some in
      let to = on.to in
      absurd (⊎_elim (λ (under : f.base ≤ x.stack.lo). let no : ⊥ = omega (arith, under, from, some) in no) (λ (over : x.stack.hi ≤ f.low). let no : ⊥ = omega (arith, over, to, some) in no) elsewhere))
      (λ away. away) (a.come.carries.has.leased f at)

  module _ (k : Known) (plain : IsPlain k) (note : chain.note ≡ k.note) (stands : StandsOn p v.names (is_held v.held) (ends_of n) (over v.held n) k a.come.frames [] []) where
    lands_lies : Lies (lander n chain.note x) (landed k v) (ends_of n) a.come.frames
    lands_lies =
        let used : x.stack.hi ≤ register x.machine registers.Sp + v.frame_bytes = a.come.none.lies.used in
        let sp : register n registers.Sp ≡ register x.machine registers.Sp = lands.sp in
        record { framed = chain_framed; used = omega (arith, used, sp); away = away_there }

    comes : Comes p d (lander n chain.note x) (landed k v) (ends_of n) (now (lander n chain.note x) (landed k v))
    comes = (
      record {
        top = k;
        below = [];
        is = refl;
        frames = a.come.frames;
        lower = [];
        at = (plain, stands);
        plain = λ t at. absurd (contains_none t at);
        lies = subst (λ (fs : List Frame). Lies (lander n chain.note x) (landed k v) (ends_of n) fs) (sym (join_one a.come.frames)) lands_lies;
        leases = λ f is held. subst (λ (fs : List Frame). Contains fs f) (sym (more_none (joined (a.come.frames ∷ [])) ∙ join_one a.come.frames)) (a.come.none.leases f is held);
        apart = λ f g at there. absurd (contains_none g there);
      },
      subst (λ l. IsLimit x.stack.hi x.stack.exported l) (sym lands.gp) limit_is,
    )

    runs : Runs p d (lander n chain.note x) (landed k v)
    runs = inl (record { left = 0; few = omega arith; last = now (lander n chain.note x) (landed k v); ends = ends_of n; way = refl; arrives = inl comes })

    pub lands_fits : FitsIn p d limits image input (lander n chain.note x) (landed k v)
    lands_fits =
        let is = a.is_for in
        let holds = a.holds in
        let bag = a.come.bag in
        let same = ap (λ (ms : List ℕ). ms ++ x.ready.numbers) a.calm.none in
        record {
          is_for = record {
            code = is.code;
            size = is.size;
            source = is.source;
            instructions = is.instructions;
            begins = is.begins;
            input_is = is.input_is;
            steps = is.steps;
            cells = is.cells;
            room = is.room;
            ready_room = is.ready_room;
            lo = is.lo;
            hi = is.hi;
            low = lands.lo ∙ is.low;
            high = lands.hi ∙ is.high;
          };
          holds = record {
            number = holds.number;
            below = holds.below;
            workers = holds.workers;
            few_workers = holds.few_workers;
            cells = holds.cells;
            few_cells = holds.few_cells;
            each = holds.each;
            words = holds.words;
            notes = ap (λ (m : Note). m ∷ []) note;
            items = holds.items;
            frame_bytes = holds.frame_bytes;
            few_items = subst (λ m. x.items ≤ m) (a.calm.most limits.steps) holds.few_items;
            few_bytes = holds.few_bytes;
            not_open = λ none. holds.not_open a.calm.taking;
            ready_once = subst AreOnce same holds.ready_once;
            ready = λ c at. holds.ready c (subst (λ (ms : List ℕ). Contains ms c) (sym same) at);
            all_ready = λ c at. subst (λ (ms : List ℕ). Contains ms c) same (holds.all_ready c at);
            asked = holds.asked;
            asked_other = holds.asked_other;
            exported = holds.exported;
            all_exported = holds.all_exported;
            last = holds.last;
            registers = lands_registers x.machine n limit holds.registers lands;
            values = lands.values;
          };
          by = (runs, record { chains = refl; hand = bag.hand; share = bag.share; drawn = bag.drawn; child = bag.child; answering = bag.answering; given = bag.given; root = bag.root });
        }
