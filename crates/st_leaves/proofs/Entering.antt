-- A thread begins to leave its worker: entering_laws. Read leaves_by: what is needed of where it stands.
use Rattle.std.proofs.Common.{◌≡◌, ◌≢◌, inl, inr, ℕ, suc, ◌+◌, ◌-◌, ◌^◌, ◌<◌, ◌≤◌, Bool, true, cond, List, [], ◌∷◌, ◌++◌, Option, Some, None, refl, sym, ap, ◌∙◌, subst, arith}
use Rattle.std.specs.List.{Contains}
use Rattle.st_base.specs.declared.chain.Frame.{Frame}
use Rattle.st_base.specs.declared.chain.Waiting.{Waiting}
use Rattle.st_base.specs.declared.chain.Waiting.TheVariants as waits
use Rattle.st_base.specs.declared.reg.Reg.TheVariants as registers
use Rattle.st_base.specs.declared.thread.Held.{Held}
use Rattle.st_model.specs.declared.code.Layout.TheVariants.{Postprocessed}
use Rattle.st_model.specs.declared.program.Program.{Program}
use Rattle.st_model.specs.Memory.{Data, data_of}
use Rattle.st_words.specs.declared.view.Known.{Known}
use Rattle.st_words.specs.declared.view.View.{View}
use Rattle.st_words.specs.Steps.{IsLeased, kept, return_place}
use Rattle.st_made.specs.Items.{WaitsAt}
use Rattle.st_step.specs.Frames.{address_in, value_in}
use Rattle.st_step.specs.Moves.{register}
use Rattle.st_step.specs.declared.state.State.{State}
use Rattle.st_items.proofs.Addresses.{place_bounds}
use Rattle.st_items.specs.Body.{Context, Ends, IsOn}
use Rattle.st_items.specs.Called.{Enters}
use Rattle.st_model.specs.Layout.{fork_in}
use Rattle.st_model.specs.declared.program.ItemKind.{ItemKind}
use Rattle.st_model.specs.declared.program.ItemKind.TheVariants as items
use Rattle.st_base.specs.declared.thread.Activation.{Activation}
use Rattle.st_step.specs.Runs.{Situation}
use Rattle.std.proofs.lemmas.Bool.{le-ltb, lt-ltb}
use Rattle.std.proofs.Common.{append-nil}
use Rattle.st_items.specs.Code.{IsSized}
use Rattle.st_stack.specs.Exported.{Exports}
use Rattle.st_chain.specs.Chains.{CanGoOn, HasBegun, IsAtEntry, StandsOver, WaitsFor, words_ahead}
use Rattle.st_chain.specs.Copying.{over}
use Rattle.st_chain.specs.Seen.{joined}
use Rattle.st_chain.specs.Taking.{Suspends, Taking, notes_of, place_in}
use Rattle.st_chain.specs.declared.walk.Walk.{Walk}
use Rattle.st_chain.specs.Walk.{is_held, named_by}
use Rattle.st_chain.specs.Walking.{steps_of}
use Rattle.st_standing.specs.Standing.{AtCall, Behind, under}
use Rattle.st_moving.proofs.Leaving.{all_leave}
use Rattle.st_moving.specs.Moving.{HasThose}
use Rattle.st_framed.specs.Framed.{Framed, IsElsewhere}
use Rattle.st_run.specs.Meanings.{IsAt}
use Rattle.st_phases.specs.Leaving.{item_place}
use Rattle.st_phases.specs.declared.automaton.Automaton.{Automaton}
use Rattle.st_phases.specs.declared.phase.Leaving.{Leaving}
use Rattle.st_fits.specs.Threads.{ArePlain, Leases, Leaves, Lies, OfKind, Stands, ends_of, now}
use Rattle.st_leaves.proofs.Exporting.{taken_frames, will_export}
use Rattle.st_leaves.specs.Entering.{EnteringLaws, LeavesCall, LeavesThere, LeavesTrap, StoodThere, WaitsThere}

-- ---- where it stands

-- the top thread stands as a chain has to, with its frames and those of the threads below it
pub record StandsThere (p : Program) (y : Automaton) (v : View) (wait : Waiting) (k : Known) (fs : List Frame) (ks : List Known) (rest : List (List Frame)) : Type 0 where
  pub notes : y.threads.notes ≡ notes_of v.threads
  pub none : y.threads.open ≡ None
  pub threads : v.threads ≡ k ∷ ks
  pub machine : IsOn (ends_of y.machine) (now y v)
  pub whole : y.machine.half ≡ None
  pub stands : StandsOver p v.names v.held (under p v.names (is_held v.held) k.note.cell ks rest) wait (place_in y.machine) (register y.machine registers.S0) (value_in y.machine) k.thread fs
  pub lies : Lies y v (ends_of y.machine) (joined (fs ∷ rest))
  pub leases : Leases v (joined (fs ∷ rest))
  pub plain : ArePlain ks
  pub below : y.machine.pc + 4 < 2 ^ 32

module _ (p : Program) (d : Data) where
  abbrev taking_of : Automaton → View → Waiting → Known → List Frame → List Known → List (List Frame) → Taking
  taking_of y v wait k fs ks rest = record {
    p = p;
    d = data_of d.rodata [];
    names = v.names;
    held = v.held;
    above = [];
    above_frames = [];
    taken = k;
    frames = fs;
    below = ks;
    below_frames = rest;
    exported = taken_frames y.stack fs;
    wait = wait;
    place = place_in y.machine;
  }

  pub leaves_by : (y : Automaton) (v : View) (leaving : Leaving) (k : Known) (fs : List Frame) (ks : List Known) (rest : List (List Frame)) → StandsThere p y v leaving.wait k fs ks rest → WaitsAt p d v k leaving.wait → OfKind p d leaving k leaving.wait → CanGoOn p leaving.wait k.thread → HasBegun leaving.wait k.begun
      → IsAt p k.thread.activations (item_place (place_in y.machine) leaving.at_call) → Leaves p d leaving y v
  leaves_by y v leaving k fs ks rest there waits kind can begun at =
      let will = will_export y.stack (ends_of y.machine) fs (joined rest) there.lies.framed in
      record {
        t = taking_of y v leaving.wait k fs ks rest;
        n = steps_of p k.thread.activations;
        of = record {
          program = refl;
          source = refl;
          names = refl;
          held = refl;
          threads = sym there.threads;
          start = y.stack;
          lo = refl;
          hi = refl;
          framed = there.lies.framed;
          will = will;
          were = λ f is. is;
          used = there.lies.used;
          away = there.lies.away;
          leases = there.leases;
        };
        suspends =
            subst (λ (walk : Option Walk). Suspends (taking_of y v leaving.wait k fs ks rest) leaving.wait y.threads.notes walk y.machine y.stack (suc (steps_of p k.thread.activations))) (sym there.none)
            (record {
              top = record { alone = refl; alone_frames = refl; notes_are = there.notes ∙ ap notes_of there.threads; apart = there.lies.framed.all_apart };
              is_wait = refl;
              at_place = refl;
              ends = ends_of y.machine;
              machine = there.machine;
              whole = there.whole;
              stands = there.stands;
              exports = will;
              steps = refl;
            });
        wait = refl;
        waits = waits;
        kind = kind;
        can = can;
        begun = begun;
        place = at;
        below = there.below;
        plain = there.plain;
      }

  -- ---- what stays of the view

  module _ (x y : Automaton) (u v : View) (stood k : Known) (below : List Known) (there : LeavesThere x y u v stood k below) where
    was_leased : (f : Frame) → IsLeased v f → IsLeased u f
    was_leased f (inl is) = inl (subst (λ (fs : List Frame). Contains fs f) there.exported is)
    was_leased f (inr is) = inr (subst (λ (fs : List Frame). Contains fs f) there.away is)

    still_leases : (fs : List Frame) → Leases u (fs ++ []) → Leases v fs
    still_leases fs leases f leased held =
        subst (λ (gs : List Frame). Contains gs f) (append-nil fs) (leases f (was_leased f leased) (subst (λ (h : List (Option ℕ)). (n : ℕ) × (kept h (return_place f) ≡ Some n)) there.held held))

    still_lies : (frames : List Frame) → Lies x u (ends_of x.machine) frames → Lies y v (ends_of y.machine) frames
    still_lies frames lies = record {
      framed = subst (λ (m : State). Framed y.stack (ends_of m) frames) (sym there.machine) (subst (λ (s : Exports). Framed s (ends_of x.machine) frames) (sym there.stack) lies.framed);
      used =
          let used = lies.used in
          let more = there.bytes in
          subst (λ (m : State). y.stack.hi ≤ register m registers.Sp + v.frame_bytes) (sym there.machine) (subst (λ (s : Exports). s.hi ≤ register x.machine registers.Sp + v.frame_bytes) (sym there.stack) (omega (arith, used, more)));
      away = λ f is elsewhere. subst (λ (fs : List Frame). Contains fs f) (sym there.away) (lies.away f is (subst (λ (s : Exports). IsElsewhere s.lo s.hi f) there.stack elsewhere));
    }

    still_machine : IsOn (ends_of x.machine) (now x u) → IsOn (ends_of y.machine) (now y v)
    still_machine on = subst (λ (m : State). IsOn (ends_of m) (over v.held m)) (sym there.machine) (subst (λ (h : List (Option ℕ)). IsOn (ends_of x.machine) (over h x.machine)) (sym there.held) on)

    still_stands : (wait : Waiting) (fs : List Frame) (rest : List (List Frame)) → StandsOver p u.names u.held (under p u.names (is_held u.held) stood.note.cell below rest) wait (place_in x.machine) (register x.machine registers.S0) (value_in x.machine) k.thread fs
        → StandsOver p v.names v.held (under p v.names (is_held v.held) k.note.cell below rest) wait (place_in y.machine) (register y.machine registers.S0) (value_in y.machine) k.thread fs
    still_stands wait fs rest stands =
        subst (λ (m : State). StandsOver p v.names v.held (under p v.names (is_held v.held) k.note.cell below rest) wait (place_in m) (register m registers.S0) (value_in m) k.thread fs) (sym there.machine)
        (subst (λ (c : ℕ). StandsOver p v.names v.held (under p v.names (is_held v.held) c below rest) wait (place_in x.machine) (register x.machine registers.S0) (value_in x.machine) k.thread fs) (sym there.cell)
        (subst (λ (h : List (Option ℕ)). StandsOver p v.names h (under p v.names (is_held h) stood.note.cell below rest) wait (place_in x.machine) (register x.machine registers.S0) (value_in x.machine) k.thread fs) (sym there.held)
        (subst (λ (ns : List (Held × ℕ)). StandsOver p ns u.held (under p ns (is_held u.held) stood.note.cell below rest) wait (place_in x.machine) (register x.machine registers.S0) (value_in x.machine) k.thread fs) (sym there.names) stands)))

    stands_there : (wait : Waiting) (fs : List Frame) (rest : List (List Frame)) → IsOn (ends_of x.machine) (now x u) → x.machine.half ≡ None
        → StandsOver p u.names u.held (under p u.names (is_held u.held) stood.note.cell below rest) wait (place_in x.machine) (register x.machine registers.S0) (value_in x.machine) k.thread fs
        → Lies x u (ends_of x.machine) (joined (fs ∷ rest)) → Leases u (joined (fs ∷ rest) ++ []) → ArePlain below → x.machine.pc + 4 < 2 ^ 32 → StandsThere p y v wait k fs below rest
    stands_there wait fs rest on whole stands lies leases plain low = record {
      notes = there.notes;
      none = there.none;
      threads = there.threads;
      machine = still_machine on;
      whole = ap (λ (m : State). m.half) there.machine ∙ whole;
      stands = still_stands wait fs rest stands;
      lies = still_lies (joined (fs ∷ rest)) lies;
      leases = still_leases (joined (fs ∷ rest)) leases;
      plain = plain;
      below = subst (λ (m : State). m.pc + 4 < 2 ^ 32) (sym there.machine) low;
    }

  -- ---- from an entry

  ahead_there : (wait : Waiting) (entry : ℕ) (k : Known) → WaitsThere wait entry k → words_ahead wait 1
  ahead_there (waits.Touch cell) entry k is = refl
  ahead_there (waits.Join cell least) entry k is = refl
  ahead_there waits.Ready entry k is = absurd is
  ahead_there waits.Start entry k is = absurd is
  ahead_there waits.Trapped entry k is = omega arith

  begun_there : (wait : Waiting) (entry : ℕ) (k : Known) → WaitsThere wait entry k → HasBegun wait k.begun
  begun_there (waits.Touch cell) entry k is = is.2
  begun_there (waits.Join cell least) entry k is = is.2
  begun_there waits.Ready entry k is = absurd is
  begun_there waits.Start entry k is = absurd is
  begun_there waits.Trapped entry k is = tt

  -- the item calls that entry
  entry_of : (kind : ItemKind) (entry at : ℕ) → Enters kind entry → entry ≡ at → at ≢ fork_in → kind ≡ items.Entry at
  entry_of (items.Entry to) entry at enters is other = ap (λ (n : ℕ). items.Entry n) (sym enters ∙ is)
  entry_of (items.Fork f handle) entry at enters is other = absurd (other (sym is ∙ enters))
  entry_of items.Prologue entry at enters is other = absurd enters
  entry_of items.Epilogue entry at enters is other = absurd enters
  entry_of (items.Plain i) entry at enters is other = absurd enters
  entry_of (items.Li rd value) entry at enters is other = absurd enters
  entry_of (items.Branch op rs1 rs2 to) entry at enters is other = absurd enters
  entry_of (items.Jump to) entry at enters is other = absurd enters
  entry_of (items.Call f) entry at enters is other = absurd enters

  module _ (names : List (Held × ℕ)) (holds : ℕ → Bool) (ends : Ends) (s : Situation) (stood : Known) (fs : List Frame) (ks : List Known) (rest : List (List Frame)) (entry : ℕ) (at : AtCall p names holds ends s stood fs ks rest entry) where
    at_entry : (to : ℕ) → entry ≡ to → to ≢ fork_in → IsAtEntry p to stood.thread.activations
    at_entry to is other = subst (λ (acts : List Activation). IsAtEntry p to acts) (sym at.acts) (at.function, at.item, at.has, entry_of at.item.kind entry to at.enters is other)

    can_there : (wait : Waiting) (k : Known) → HasThose k.thread stood → WaitsThere wait entry k → CanGoOn p wait k.thread
    can_there (waits.Touch cell) k those is = (is.1, subst (λ (acts : List Activation). IsAtEntry p 0x40 acts) (sym those.activations) (at_entry 0x40 is.0 (λ e. omega (arith, e))))
    can_there (waits.Join cell least) k those is = (is.1, subst (λ (acts : List Activation). IsAtEntry p 0x70 acts) (sym those.activations) (at_entry 0x70 is.0 (λ e. omega (arith, e))))
    can_there waits.Ready k those is = absurd is
    can_there waits.Start k those is = absurd is
    can_there waits.Trapped k those is = tt

    -- its item is one word before the place at which it goes on
    item_there : (k : Known) → HasThose k.thread stood → (m : State) → s.state ≡ m → entry < 0x10000 → IsAt p k.thread.activations (item_place (place_in m) true)
    item_there k those m is low =
        let pc : m.pc ≡ entry = ap (λ (n : State). n.pc) (sym is) ∙ at.call.at in
        let place : place_in m ≡ value_in m 1 = ap (λ (b : Bool). cond b (value_in m 1) m.pc) (lt-ltb m.pc 0x10000 (omega (arith, pc, low))) in
        let back : value_in m 1 ≡ address_in Postprocessed p at.top.function at.function at.top.next + 4 = ap (λ (n : State). value_in n 1) (sym is) ∙ at.call.back in
        subst (λ (acts : List Activation). IsAt p acts (place_in m - 4)) (sym (those.activations ∙ at.acts)) (at.function, at.has.named, omega (arith, place, back))

  pub leaves_call : LeavesCall p d
  leaves_call x y u v entry leaving k accepted size low called there at_call so waiting waits kind =
      let at = called.at.1 in
      let held = u.held in
      let stands =
      (all_leave p accepted size).call u.names u.held (ends_of x.machine) x.machine called.top called.frames called.below called.lower entry leaving.wait k.thread at there.those (ahead_there leaving.wait entry k so)
      (subst (λ (ns : List (Held × ℕ)). WaitsFor (named_by ns) k.thread leaving.wait) there.names waiting) in
      let pc = at.call.at in
      let place = item_there u.names (is_held u.held) (ends_of x.machine) (now x u) called.top called.frames called.below called.lower entry at k there.those x.machine refl low in
      leaves_by y v leaving k called.frames called.below called.lower
      (stands_there x y u v called.top k called.below there leaving.wait called.frames called.lower at.call.body.machine at.call.whole stands called.lies called.leases called.plain (omega (arith, pc, low)))
      waits kind (can_there u.names (is_held u.held) (ends_of x.machine) (now x u) called.top called.frames called.below called.lower entry at leaving.wait k there.those so) (begun_there leaving.wait entry k so)
      (subst (λ (b : Bool). IsAt p k.thread.activations (item_place (place_in y.machine) b)) (sym at_call) (subst (λ (m : State). IsAt p k.thread.activations (item_place (place_in m) true)) (sym there.machine) place))

  -- ---- from an item that has trapped

  -- the place is that item's
  behind_at : (names : List (Held × ℕ)) (holds : ℕ → Bool) (end : Context) (s : Situation) (acts : List Activation) (fs : List Frame) → Behind p names holds end 0 s acts fs → IsAt p acts s.state.pc
  behind_at names holds end s [] fs behind = absurd behind
  behind_at names holds end s (a ∷ older) [] behind = absurd behind
  behind_at names holds end s (a ∷ older) (f ∷ fs) (function, is) = let at = is.at in (function, is.here, omega (arith, at))

  at_low : (acts : List Activation) (pc : ℕ) → IsSized Postprocessed p → IsAt p acts pc → (0x10000 ≤ pc) × (pc + 4 < 2 ^ 32)
  at_low [] pc size at = absurd at
  at_low (a ∷ older) pc size (function, here, is) =
      let bounds = place_bounds Postprocessed p a.function function a.next size here in
      let least = bounds.0 in
      let most = bounds.1 in (omega (arith, least, is), omega (arith, most, is))

  pub leaves_trap : LeavesTrap p d
  leaves_trap x y u v leaving k accepted size stood there at_item is_trap waiting kind =
      let on = stood.at.0 in
      let behind = stood.at.1 in
      let at = behind_at u.names (is_held u.held) (under p u.names (is_held u.held) stood.top.note.cell stood.below stood.lower) (now x u) stood.top.thread.activations stood.frames behind in
      let bounds = at_low stood.top.thread.activations x.machine.pc size at in
      let stands = (all_leave p accepted size).trap u.names u.held (ends_of x.machine) x.machine stood.top stood.frames stood.below stood.lower k.thread on behind there.those in
      let place : place_in x.machine ≡ x.machine.pc = ap (λ (b : Bool). cond b (value_in x.machine 1) x.machine.pc) (le-ltb x.machine.pc 0x10000 bounds.0) in
      let here : IsAt p k.thread.activations (place_in x.machine) = subst (λ (n : ℕ). IsAt p k.thread.activations n) (sym place) (subst (λ (acts : List Activation). IsAt p acts x.machine.pc) (sym there.those.activations) at) in
      leaves_by y v leaving k stood.frames stood.below stood.lower
      (stands_there x y u v stood.top k stood.below there leaving.wait stood.frames stood.lower on.machine on.whole (over_wait x u k stood stands) stood.lies stood.leases stood.plain bounds.1)
      (subst (λ (w : Waiting). WaitsAt p d v k w) (sym is_trap) waiting) (subst (λ (w : Waiting). OfKind p d leaving k w) (sym is_trap) kind) (subst (λ (w : Waiting). CanGoOn p w k.thread) (sym is_trap) tt) (subst (λ (w : Waiting). HasBegun w k.begun) (sym is_trap) tt)
      (subst (λ (b : Bool). IsAt p k.thread.activations (item_place (place_in y.machine) b)) (sym at_item) (subst (λ (m : State). IsAt p k.thread.activations (place_in m)) (sym there.machine) here))
    where
      over_wait : (x : Automaton) (u : View) (k : Known) (stood : Stands (StoodThere p d x u) x u (ends_of x.machine) []) → StandsOver p u.names u.held (under p u.names (is_held u.held) stood.top.note.cell stood.below stood.lower) waits.Trapped (place_in x.machine) (register x.machine registers.S0) (value_in x.machine) k.thread stood.frames
          → StandsOver p u.names u.held (under p u.names (is_held u.held) stood.top.note.cell stood.below stood.lower) leaving.wait (place_in x.machine) (register x.machine registers.S0) (value_in x.machine) k.thread stood.frames
      over_wait x u k stood stands = subst (λ (w : Waiting). StandsOver p u.names u.held (under p u.names (is_held u.held) stood.top.note.cell stood.below stood.lower) w (place_in x.machine) (register x.machine registers.S0) (value_in x.machine) k.thread stood.frames) (sym is_trap) stands

pub entering_laws : (p : Program) (d : Data) → EnteringLaws p d
entering_laws p d = record { call = leaves_call p d; trap = leaves_trap p d }
