-- What a worker that fits doesn't speak of may be other, in the worker and in its view: unread_fits. Each lemma is of the definition that it is named after, in the order of the definitions.
use Rattle.std.proofs.Common.{Bool, List, None, Option, Some, [], false, inl, inr, refl, subst, suc, zero, ℕ, ◌∷◌, ◌≡◌, ◌⊎◌}
use Rattle.st_base.specs.declared.chain.Chain.{Chain}
use Rattle.st_base.specs.declared.chain.Frame.{Frame}
use Rattle.st_base.specs.declared.chain.Waiting.TheVariants as waits
use Rattle.st_base.specs.declared.chain.Waiting.{Waiting}
use Rattle.st_base.specs.declared.image.Image.{Image}
use Rattle.st_base.specs.declared.limits.LimitKind.TheVariants as kinds
use Rattle.st_base.specs.declared.limits.LimitKind.{LimitKind}
use Rattle.st_base.specs.declared.limits.Limits.{Limits}
use Rattle.st_words.specs.Careful.{IsOver, standing_of}
use Rattle.st_words.specs.Encodings.{head_in, running, waits_word, ready}
use Rattle.st_words.specs.Steps.{Done, IsCounter, Mark, return_place}
use Rattle.st_words.specs.Views.{view_after}
use Rattle.st_words.specs.declared.view.Carried.{Carried}
use Rattle.st_words.specs.declared.view.Known.{Known}
use Rattle.st_words.specs.declared.view.View.{View}
use Rattle.st_model.specs.Memory.{Data}
use Rattle.st_model.specs.declared.program.Program.{Program}
use Rattle.st_made.specs.Items.{WaitsAt}
use Rattle.st_step.specs.Runs.{Situation}
use Rattle.st_items.specs.Body.{Ends}
use Rattle.st_chain.specs.Copying.{over}
use Rattle.st_chain.specs.Seen.{joined}
use Rattle.st_chain.specs.Taking.{Taking}
use Rattle.st_serving.specs.Serving.{back}
use Rattle.st_cargo.specs.Cargo.{HasFrames}
use Rattle.st_phases.specs.declared.automaton.Automaton.{Automaton}
use Rattle.st_phases.specs.declared.phase.Behind.TheVariants as behinds
use Rattle.st_phases.specs.declared.phase.Behind.{Behind}
use Rattle.st_phases.specs.declared.phase.Leaving.{Leaving}
use Rattle.st_phases.specs.declared.phase.Phase.TheVariants as phases
use Rattle.st_phases.specs.declared.phase.Phase.{Phase}
use Rattle.st_phases.specs.declared.phase.Rest.{Rest}
use Rattle.st_phases.specs.declared.phase.Settling.{Settling}
use Rattle.st_fits.specs.Bags.{Bag, CanPark, HasBag, IsNamed, IsOfKind, LowersTo, RestIs, Settles, answers, own_and, units, with_chain}
use Rattle.st_fits.specs.Before.{after}
use Rattle.st_fits.specs.Fits.{AtCell, AtEntry, ByPhase, Draws, Empties, HasCome, HasLeft, HasLooked, HasToGo, InHand, IsAsked, IsFor, IsSeen, Meets, OfWait, OnTop, leaving_units, Holds, Idle, Ends as Finishes, SeesFuture}
use Rattle.st_fits.specs.Threads.{Arrives, AtRest, Carries, GivesOut, HasCalled, HasNone, IsAtEnd, IsAtItem, IsCalled, IsCalling, IsOf, IsPolling, Lasts, Leaves, Lies, MayCome, OnItsWay, Polls, Rests, Runs, Stands, ToMark, WayTo, ends_of, now}
use Rattle.st_settled.specs.Settling.{Unread, UnreadStays, with_since, with_unread}

module _ (since : ℕ) (begun : Bool) (o : Unread) where
  abbrev later : Automaton → Automaton
  later x = with_since since begun x

  abbrev seen : View → View
  seen u = with_unread o u

  -- ---- bags

  bag : (b : Bag) (u : View) → HasBag b u → HasBag b (seen u)
  bag b u has = record { chains = has.chains; hand = has.hand; share = has.share; drawn = has.drawn; child = has.child; answering = has.answering; given = has.given; root = has.root }

  rest_is : (rest : Rest) (u : View) → RestIs rest u → RestIs rest (seen u)
  rest_is rest u is = record { here = is.here; next = is.next; full = is.full }

  named : (wait : Waiting) (u : View) → IsNamed wait u → IsNamed wait (seen u)
  named waits.Start u is = is
  named waits.Ready u is = is
  named (waits.Touch cell) u is = is
  named (waits.Join cell least) u is = is
  named waits.Trapped u is = is

  of_kind : (wait : Waiting) (u : View) → IsOfKind wait u → IsOfKind wait (seen u)
  of_kind waits.Start u is = is
  of_kind waits.Ready u is = is
  of_kind (waits.Touch cell) u is = is
  of_kind (waits.Join cell least) u is = is
  of_kind waits.Trapped u is = is

  over_is : (wait : Waiting) (u : View) → IsOver u wait → IsOver (seen u) wait
  over_is wait u is = is

  settles : (s : Settling) (next : Option ℕ) (rest : Option Rest) (u : View) → Settles s next rest u → Settles s next rest (seen u)
  settles s next (Some rest) u (has, is) = (bag _ u has, rest_is rest u is)
  settles s next None u has = bag _ u has

  can_park : (s : Settling) (u : View) → CanPark s u → CanPark s (seen u)
  can_park s u can = record { named = named s.wait u can.named; kind = of_kind s.wait u can.kind; head = can.head; small = can.small }

  lowers : (rest : Option Rest) (u : View) → LowersTo rest u → LowersTo rest (seen u)
  lowers (Some rest) u (has, is) = (bag _ u has, rest_is rest u is)
  lowers None u has = bag _ u has

  -- ---- threads

  lies : (x : Automaton) (u : View) (ends : Ends) (frames : List Frame) → Lies x u ends frames → Lies (later x) (seen u) ends frames
  lies x u ends frames are = record { framed = are.framed; used = are.used; away = are.away }

  stands : (At : Known → List Frame → List Known → List (List Frame) → Type 0) (x : Automaton) (u : View) (ends : Ends) (others : List Frame) → Stands At x u ends others → Stands At (later x) (seen u) ends others
  stands At x u ends others is = record {
    top = is.top;
    below = is.below;
    is = is.is;
    frames = is.frames;
    lower = is.lower;
    at = is.at;
    plain = is.plain;
    lies = lies x u ends (joined (is.frames ∷ is.lower)) is.lies;
    leases = is.leases;
    apart = is.apart;
  }

  has_none : (x : Automaton) (u : View) (others : List Frame) → HasNone x u others → HasNone (later x) (seen u) others
  has_none x u others is = record { is = is.is; place = is.place; lies = lies x u (ends_of x.machine) [] is.lies; leases = is.leases }

  may_come : (x : Automaton) (u : View) (fs : List Frame) → MayCome x u fs → MayCome (later x) (seen u) fs
  may_come x u fs may = record { apart = may.apart; some = may.some; others = may.others }

  module _ (p : Program) (d : Data) where
    way : (u : View) (n : ℕ) (s t : Situation) → WayTo p d u n s t → WayTo p d (seen u) n s t
    way u zero s t same = same
    way u (suc n) s t (inside, spares, (r, makes, further)) = (inside, spares, (r, makes, way u n r t further))

    polls : (x : Automaton) (u : View) (others : List Frame) → Polls p d x u others → Polls p d (later x) (seen u) others
    polls x u others is = stands (AtRest p d x u) x u (ends_of x.machine) others is

    rests : (x : Automaton) (u : View) (others : List Frame) → Rests p d x u others → Rests p d (later x) (seen u) others
    rests x u others (inl none) = inl (has_none x u others none)
    rests x u others (inr is) = inr (polls x u others is)

    called : (entry : ℕ) (x : Automaton) (u : View) → IsCalled p d entry x u → IsCalled p d entry (later x) (seen u)
    called entry x u is = stands (HasCalled p d entry x u) x u (ends_of x.machine) [] is

    lasts : (x : Automaton) (u : View) (ends : Ends) (s : Situation) → Lasts p d x u ends s → Lasts p d (later x) (seen u) ends s
    lasts x u ends s (value, is) = (value, stands (IsAtEnd p d u ends s value) x u ends [] is)

    arrives : (x : Automaton) (u : View) (ends : Ends) (s : Situation) → Arrives p d x u ends s → Arrives p d (later x) (seen u) ends s
    arrives x u ends s (inl (is, limit)) = inl (stands (IsAtItem p d u ends s) x u ends [] is, limit)
    arrives x u ends s (inr is) = inr (lasts x u ends s is)

    on_its_way : (x : Automaton) (u : View) → OnItsWay p d x u → OnItsWay p d (later x) (seen u)
    on_its_way x u is = record { left = is.left; few = is.few; last = is.last; ends = is.ends; way = way u is.left (now x u) is.last is.way; arrives = arrives x u is.ends is.last is.arrives }

    marked_after : (u : View) (q : ℕ) → seen (after p d u (Mark q) Done) ≡ after p d (seen u) (Mark q) Done
    unfolding after view_after
    marked_after u q = refl

    to_mark : (x : Automaton) (u : View) → ToMark p d x u → ToMark p d (later x) (seen u)
    to_mark x u is =
        let v = after p d u (Mark (return_place is.frame)) Done in
        record {
          frame = is.frame;
          leased = is.leased;
          holds = is.holds;
          left = is.left;
          few = is.few;
          mark = is.mark;
          way = way u is.left (now x u) is.mark is.way;
          words = is.words;
          whole = is.whole;
          marks = is.marks;
          inside = is.inside;
          further = is.further;
          few_more = is.few_more;
          last = is.last;
          rest = is.rest;
          ends = is.ends;
          arrives = subst (λ (w : View). Arrives p d (later x) w is.ends (over w.held is.last)) (marked_after u (return_place is.frame)) (arrives x v is.ends (over v.held is.last) is.arrives);
        }

    is_polling : (x : Automaton) (u : View) → IsPolling p d x u → IsPolling p d (later x) (seen u)
    is_polling x u is = record { at = is.at; goes = polls (record x { machine = back x.machine }) u [] is.goes }

    is_calling : (x : Automaton) (u : View) → IsCalling p d x u → IsCalling p d (later x) (seen u)
    is_calling x u is = record { entry = is.entry; other = is.other; called = called is.entry x u is.called }

    runs : (x : Automaton) (u : View) → Runs p d x u → Runs p d (later x) (seen u)
    runs x u (inl is) = inl (on_its_way x u is)
    runs x u (inr (inl is)) = inr (inl (to_mark x u is))
    runs x u (inr (inr (inl is))) = inr (inr (inl (is_polling x u is)))
    runs x u (inr (inr (inr is))) = inr (inr (inr (is_calling x u is)))

    is_of : (x : Automaton) (u : View) (t : Taking) → IsOf p d x u t → IsOf p d (later x) (seen u) t
    is_of x u t is = record {
      program = is.program;
      source = is.source;
      names = is.names;
      held = is.held;
      threads = is.threads;
      start = is.start;
      lo = is.lo;
      hi = is.hi;
      framed = is.framed;
      will = is.will;
      were = is.were;
      used = is.used;
      away = is.away;
      leases = is.leases;
    }

    waits_at : (u : View) (t : Known) (wait : Waiting) → WaitsAt p d u t wait → WaitsAt p d (seen u) t wait
    waits_at u t wait is = is

    leaves : (leaving : Leaving) (x : Automaton) (u : View) → Leaves p d leaving x u → Leaves p d leaving (later x) (seen u)
    leaves leaving x u is = record {
      t = is.t;
      n = is.n;
      of = is_of x u is.t is.of;
      suspends = is.suspends;
      wait = is.wait;
      waits = waits_at u is.t.taken leaving.wait is.waits;
      kind = is.kind;
      can = is.can;
      begun = is.begun;
      place = is.place;
      below = is.below;
      plain = is.plain;
    }

    gives_out : (x : Automaton) (u : View) → GivesOut p d x u → GivesOut p d (later x) (seen u)
    gives_out x u is = record {
      t = is.t;
      n = is.n;
      of = is_of x u is.t is.of;
      gives = is.gives;
      plain = is.plain;
      first = is.first;
      top = is.top;
      rest = is.rest;
      is_top = is.is_top;
      frames = is.frames;
      lower = is.lower;
      are_frames = is.are_frames;
      polls = is.polls;
    }

    has_frames : (u : View) (chain : Chain) (c : Carried) (fs : List Frame) → HasFrames p d u chain c fs → HasFrames p d (seen u) chain c fs
    has_frames u chain c fs has = record { there = has.there; single = has.single; note = has.note; cell = has.cell; wait = has.wait; stands = has.stands; begun = has.begun; leased = has.leased; own = has.own; knows = has.knows }

    carries : (u : View) (chain : Chain) (standing : Option ℕ) (c : Carried) (fs : List Frame) → Carries p d u chain standing c fs → Carries p d (seen u) chain standing c fs
    carries u chain standing c fs is = record { only = is.only; has = has_frames u chain c fs is.has; stands = is.stands; below = is.below }

    -- ---- what never changes, and what it keeps

    module _ (limits : Limits) where
      is_for : (image : Image) (input : List ℕ) (x : Automaton) → IsFor p d limits image input x → IsFor p d limits image input (later x)
      is_for image input x is = record {
        code = is.code;
        size = is.size;
        source = is.source;
        instructions = is.instructions;
        begins = is.begins;
        input_is = is.input_is;
        steps = is.steps;
        cells = is.cells;
        room = is.room;
        ready_room = is.ready_room;
        lo = is.lo;
        hi = is.hi;
        low = is.low;
        high = is.high;
      }

      holds : (x : Automaton) (u : View) → Holds limits x u → Holds limits (later x) (seen u)
      holds x u has = record {
        number = has.number;
        below = has.below;
        workers = has.workers;
        few_workers = has.few_workers;
        cells = has.cells;
        few_cells = has.few_cells;
        each = has.each;
        words = has.words;
        notes = has.notes;
        items = has.items;
        frame_bytes = has.frame_bytes;
        few_items = has.few_items;
        few_bytes = has.few_bytes;
        not_open = has.not_open;
        ready_once = has.ready_once;
        ready = has.ready;
        all_ready = has.all_ready;
        asked = has.asked;
        asked_other = has.asked_other;
        exported = has.exported;
        all_exported = has.all_exported;
        last = has.last;
        registers = has.registers;
        values = has.values;
      }

      -- ---- by its phase

      in_hand : (x : Automaton) (u : View) (b : Bag) → InHand p d limits x u b → InHand p d limits (later x) (seen u) b
      in_hand x u b (is, has) = (rests x u [] is, bag b u has)

      on_top : (x : Automaton) (u : View) (b : Bag) → OnTop p d limits x u b → OnTop p d limits (later x) (seen u) b
      on_top x u b (is, has) = (polls x u [] is, bag b u has)

      idle : (x : Automaton) (u : View) (b : Bag) → Idle p d limits x u b → Idle p d limits (later x) (seen u) b
      idle x u b (is, has) = (has_none x u [] is, bag b u has)

      at_entry : (entry : ℕ) (x : Automaton) (u : View) (b : Bag) → AtEntry p d limits entry x u b → AtEntry p d limits entry (later x) (seen u) b
      at_entry entry x u b (at, is, has) = (at, called entry x u is, bag b u has)

      draws : (x : Automaton) (u : View) (b : Bag) → Draws p d limits x u b → Draws p d limits (later x) (seen u) b
      draws x u b (inl is) = inl (at_entry 0x10 x u b is)
      draws x u b (inr is) = inr (at_entry 0x50 x u b is)

      at_cell : (cell : ℕ) (x : Automaton) (u : View) → AtCell p d limits cell x u → AtCell p d limits cell (later x) (seen u)
      at_cell cell x u is = record { handle = is.handle; below = is.below; kind = kind is.kind }
        where
          kind : ((AtEntry p d limits 0x40 x u (units 1)) × SeesFuture u cell) ⊎ ((AtEntry p d limits 0x60 x u (units 1) ⊎ AtEntry p d limits 0x70 x u (units 1)) × IsCounter u cell)
              → ((AtEntry p d limits 0x40 (later x) (seen u) (units 1)) × SeesFuture (seen u) cell) ⊎ ((AtEntry p d limits 0x60 (later x) (seen u) (units 1) ⊎ AtEntry p d limits 0x70 (later x) (seen u) (units 1)) × IsCounter (seen u) cell)
          kind (inl (at, future)) = inl (at_entry 0x40 x u (units 1) at, future)
          kind (inr (inl at, counter)) = inr (inl (at_entry 0x60 x u (units 1) at), counter)
          kind (inr (inr at, counter)) = inr (inr (at_entry 0x70 x u (units 1) at), counter)

      finishes : (x : Automaton) (u : View) → Finishes p d limits x u → Finishes p d limits (later x) (seen u)
      finishes x u is = record { lasts = lasts x u (ends_of x.machine) (now x u) is.lasts; value = is.value; bag = bag (units 1) u is.bag }

      of_wait : (leaving : Leaving) (u : View) (wait : Waiting) → OfWait p d limits leaving u wait → OfWait p d limits leaving (seen u) wait
      of_wait leaving u waits.Start (none, can, may) = absurd may
      of_wait leaving u waits.Ready (none, can, may) = absurd may
      of_wait leaving u (waits.Touch cell) (none, can, may) = (none, can_park _ u can, may)
      of_wait leaving u (waits.Join cell least) (none, can, may) = (none, can_park _ u can, may)
      of_wait leaving u waits.Trapped is = is

      has_left : (chain : Chain) (leaving : Leaving) (standing : Option ℕ) (Shows : Carried → Type 0) (x : Automaton) (u : View) → HasLeft p d limits chain leaving standing Shows x u → HasLeft p d limits chain leaving standing Shows (later x) (seen u)
      has_left chain leaving standing Shows x u is = record {
        carried = is.carried;
        frames = is.frames;
        carries = carries u chain standing is.carried is.frames is.carries;
        bag = bag (with_chain is.carried (own_and 1 u)) u is.bag;
        wait = is.wait;
        of_wait = of_wait leaving u leaving.wait is.of_wait;
        kind = is.kind;
        shows = is.shows;
        place = is.place;
        rests = rests x u is.frames is.rests;
      }

      meets : (kind : LimitKind) (x : Automaton) (u : View) → Meets p d limits kind x u → Meets p d limits kind (later x) (seen u)
      meets (kinds.Stack worker frame) x u (own, met, has) = (own, met, bag (units 1) u has)
      meets (kinds.Step worker) x u (own, more, has) = (own, more, bag (units 1) u has)
      meets (kinds.Cell cells) x u (same, (n, beyond, has)) = (same, (n, beyond, bag _ u has))
      meets kind x u is = absurd is

      has_come : (chain : Chain) (standing : ℕ) (x : Automaton) (u : View) → HasCome p d limits chain standing x u → HasCome p d limits chain standing (later x) (seen u)
      has_come chain standing x u is = record {
        carried = is.carried;
        frames = is.frames;
        carries = carries u chain (Some standing) is.carried is.frames is.carries;
        bag = bag (with_chain is.carried (units 1)) u is.bag;
        goes = is.goes;
        none = has_none x u is.frames is.none;
        may = may_come x u is.frames is.may;
      }

      has_to_go : (asker : ℕ) (chain : Chain) (standing : ℕ) (x : Automaton) (u : View) → HasToGo p d limits asker chain standing x u → HasToGo p d limits asker chain standing (later x) (seen u)
      has_to_go asker chain standing x u is = record {
        carried = is.carried;
        frames = is.frames;
        carries = carries u chain (Some standing) is.carried is.frames is.carries;
        bag = bag (answers asker false false (with_chain is.carried (own_and 1 u))) u is.bag;
        goes = is.goes;
        rests = rests x u is.frames is.rests;
        asks = is.asks;
      }

      has_looked : (chain : Chain) (rest : Rest) (x : Automaton) (u : View) → HasLooked p d limits chain rest x u → HasLooked p d limits chain rest (later x) (seen u)
      has_looked chain rest x u is = record {
        carried = is.carried;
        frames = is.frames;
        carries = carries u chain (Some waits_word) is.carried is.frames is.carries;
        bag = bag _ u is.bag;
        named = named chain.wait u is.named;
        shows = is.shows;
        rest_is = rest_is rest u is.rest_is;
        rests = rests x u is.frames is.rests;
      }

      empties : (next : Behind) (x : Automaton) (u : View) → Empties p d limits next x u → Empties p d limits next (later x) (seen u)
      empties (behinds.Chain chain) x u is = has_come chain running x u is
      empties behinds.Seventh x u (is, others) = (idle x u (units 0) is, others)
      empties behinds.Round x u is = idle x u (units 0) is

      is_asked : (asker : Option ℕ) (u : View) → IsAsked p d limits asker u → IsAsked p d limits asker (seen u)
      is_asked None u is = tt
      is_asked (Some asker) u is = is

      is_seen : (wait : Waiting) (u : View) → IsSeen p d limits u wait → IsSeen p d limits (seen u) wait
      is_seen wait u is = is

      by_phase : (phase : Phase) (x : Automaton) (u : View) → ByPhase p d limits phase x u → ByPhase p d limits phase (later x) (seen u)
      by_phase phases.Running x u (is, has) = (runs x u is, bag (units 1) u has)
      by_phase (phases.Stopping kind) x u (some, is) = (some, meets kind x u is)
      by_phase (phases.Naming cell) x u (below, is) = (below, draws x u _ is)
      by_phase (phases.Beginning cell) x u (below, named, is) = (below, named, at_entry 0x10 x u _ is)
      by_phase (phases.Looking cell) x u is = at_cell cell x u is
      by_phase (phases.Valuing cell) x u (is, full, at) = (at_cell cell x u is, full, at)
      by_phase (phases.Adding cell word) x u (is, at, head) = (at_cell cell x u is, at, head)
      by_phase phases.Finding x u is = finishes x u is
      by_phase (phases.Filling word) x u (is, other, small) = (finishes x u is, other, small)
      by_phase (phases.Ending cell head) x u (below, filled, full, small, is) = (below, filled, full, small, in_hand x u _ is)
      by_phase (phases.Following rest) x u (is, some, are) = (rest_is rest u is, some, in_hand x u _ are)
      by_phase (phases.Raising waiter rest) x u (is, are) = (rest_is rest u is, in_hand x u _ are)
      by_phase (phases.Peeking waiter rest) x u (is, counter, are) = (rest_is rest u is, counter, in_hand x u _ are)
      by_phase (phases.Returning chain rest) x u is = has_looked chain rest x u is
      by_phase (phases.Owning s) x u (is_named, is, are) = (named s.wait u is_named, settles s None s.rest u is, rests x u [] are)
      by_phase (phases.Weighing s) x u (is_named, kind, is, are) = (named s.wait u is_named, of_kind s.wait u kind, settles s None s.rest u is, rests x u [] are)
      by_phase (phases.Readying s) x u (ended, (next, is), are) = (over_is s.wait u ended, (next, settles s next s.rest u is), rests x u [] are)
      by_phase (phases.Linking s) x u (can, not_yet, (next, is), are) = (can_park s u can, not_yet, (next, settles s next s.rest u is), rests x u [] are)
      by_phase (phases.Parking s) x u (can, may, is, are) = (can_park s u can, may, settles s (Some (head_in s.seen)) s.rest u is, rests x u [] are)
      by_phase (phases.Lowering rest) x u (is, are) = (lowers rest u is, rests x u [] are)
      by_phase (phases.Parting leaving) x u (is, of, has, more) = (leaves leaving x u is, of_wait leaving u leaving.wait of, bag (units 1) u has, more)
      by_phase (phases.Suspending leaving) x u (is, of, has) = (leaves leaving x u is, of_wait leaving u leaving.wait of, bag (leaving_units p d limits u.threads) u has)
      by_phase (phases.Marking chain leaving) x u is = has_left chain leaving None _ x u is
      by_phase (phases.Standing chain leaving) x u is = has_left chain leaving None _ x u is
      by_phase (phases.Slotting chain leaving) x u is = has_left chain leaving (standing_of chain.wait) _ x u is
      by_phase phases.Polling x u is = on_top x u (units 1) is
      by_phase (phases.Heeding asker) x u (is, asked) = (on_top x u (units 1) is, is_asked asker u asked)
      by_phase (phases.Shrinking asker) x u (is, asked) = (on_top x u (units 1) is, is_asked asker u asked)
      by_phase (phases.Answering asker) x u (is, asks) = (in_hand x u _ is, asks)
      by_phase (phases.Picking asker cell) x u (is, asks) = (in_hand x u _ is, asks)
      by_phase (phases.Waving asker chain) x u is = has_to_go asker chain ready x u is
      by_phase (phases.Sharing asker) x u (is, two, asks) = (on_top x u _ is, two, asks)
      by_phase (phases.Giving asker) x u (is, has, asks) = (gives_out x u is, bag _ u has, asks)
      by_phase (phases.Mailing asker chain) x u is = has_to_go asker chain running x u is
      by_phase (phases.Telling asker told) x u (is, asks) = (in_hand x u _ is, asks)
      by_phase phases.Clearing x u (asker, put, is) = (asker, put, in_hand x u _ is)
      by_phase (phases.Coming chain) x u is = has_come chain ready x u is
      by_phase (phases.Seeing chain) x u (is, to_wait) = (has_come chain running x u is, to_wait)
      by_phase (phases.Getting chain) x u (is, was) = (has_come chain running x u is, is_seen chain.wait u was)
      by_phase phases.Settled x u is = idle x u _ is
      by_phase phases.Stop x u is = idle x u _ is
      by_phase phases.Active x u is = idle x u _ is
      by_phase phases.Own x u is = idle x u _ is
      by_phase phases.First x u (is, none) = (idle x u _ is, none)
      by_phase phases.Request x u is = idle x u _ is
      by_phase phases.Mail x u is = idle x u _ is
      by_phase phases.Opening x u (is, none) = (idle x u _ is, none)
      by_phase phases.Seventh x u (is, others) = (idle x u _ is, others)
      by_phase phases.Placing x u (is, others, none, mail) = (idle x u _ is, others, none, mail)
      by_phase (phases.Emptying next) x u (none, is) = (none, empties next x u is)

pub unread_fits : UnreadStays
unread_fits p d limits image input since begun o x u fits = record {
  is_for = is_for since begun o p d limits image input x fits.is_for;
  holds = holds since begun o p d limits x u fits.holds;
  by = by_phase since begun o p d limits x.phase x u fits.by;
}
