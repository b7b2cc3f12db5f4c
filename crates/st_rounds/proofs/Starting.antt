-- A chain comes to run by how it waited: ready_runs, root_runs, touch_runs and join_runs.
use Rattle.std.proofs.Common.{◌≡◌, ◌≢◌, ⊎_elim, ℕ, ◌^◌, ◌≤◌, ◌<◌, Bool, true, false, ◌==◌, List, [], ◌∷◌, ◌++◌, length, Option, Some, None, refl, sym, ap, ◌∙◌, subst, arith}
use Rattle.std.specs.Prelude.{if◌then◌else◌}
use Rattle.std.specs.List.{Contains}
use Rattle.st_base.specs.declared.chain.Chain.{Chain}
use Rattle.st_base.specs.declared.chain.Frame.{Frame}
use Rattle.st_base.specs.declared.chain.Waiting.TheVariants as waits
use Rattle.st_base.specs.declared.image.Image.{Image}
use Rattle.st_base.specs.declared.limits.Limits.{Limits}
use Rattle.st_base.specs.declared.reg.Reg.TheVariants as registers
use Rattle.st_base.specs.declared.thread.Activation.{Activation}
use Rattle.st_base.specs.declared.thread.Held.{Held}
use Rattle.st_base.specs.declared.thread.Held.TheVariants.{Future, Counter}
use Rattle.st_base.specs.declared.thread.Standing.TheVariants.{Ended}
use Rattle.st_base.specs.declared.thread.Thread.{Thread}
use Rattle.st_words.specs.declared.view.Carried.{Carried}
use Rattle.st_words.specs.declared.view.Known.{Known}
use Rattle.st_words.specs.declared.view.View.{View}
use Rattle.st_words.specs.Careful.{IsOver}
use Rattle.st_words.specs.Moves.{WasSeen}
use Rattle.st_words.specs.Tidy.{Tidy}
use Rattle.st_words.proofs.Lists.{contains_none, contains_case, contains_here}
use Rattle.st_model.specs.declared.code.Layout.TheVariants.{Postprocessed}
use Rattle.st_model.specs.declared.program.Item.{Item}
use Rattle.st_model.specs.declared.program.ItemKind.{ItemKind}
use Rattle.st_model.specs.declared.program.Program.{Program}
use Rattle.st_model.specs.declared.program.ProgramFunction.{ProgramFunction}
use Rattle.st_model.specs.Accepted.{IsAccepted}
use Rattle.st_model.specs.Heap.{Heap, Path, Change, Touch, Join, Enabled}
use Rattle.st_model.specs.Limits.{frame_at, frame_of}
use Rattle.st_model.specs.Memory.{Data}
use Rattle.st_model.specs.Ordinary.{item_at}
use Rattle.st_laws.proofs.ItemChanges.{item_changes}
use Rattle.st_laws.specs.Changes.{one_if}
use Rattle.st_made.specs.Items.{IsPrivate, next_move, went}
use Rattle.st_made.specs.Runs.{all_known, known_of}
use Rattle.st_ahead.specs.Ahead.{seen_change, touched, by_value, value_at, cell_of, is_future}
use Rattle.st_ahead.specs.Laws.{SeesOne}
use Rattle.st_ahead.proofs.Seen.{enough_seen}
use Rattle.st_stack.specs.Exported.{IsLimit}
use Rattle.st_step.specs.declared.state.State.{State}
use Rattle.st_step.specs.Moves.{register, written}
use Rattle.st_step.specs.Runs.{AreValues}
use Rattle.st_step.proofs.Writes.{register-written_same, register-written_other}
use Rattle.st_items.specs.Code.{HasItem, IsSized}
use Rattle.st_items.proofs.Addresses.{place_bounds}
use Rattle.st_chain.specs.Chains.{IsUnbegun, StandsFor, CanGoOn, words_ahead, HasBegun, IsAtEntry, saved_value}
use Rattle.st_chain.specs.Walk.{FromNewest, named_by, is_held, word_in}
use Rattle.st_chain.specs.Threads.{AtEnd}
use Rattle.st_chain.specs.Logical.{restarted}
use Rattle.st_chain.proofs.LawsHold.{restarts}
use Rattle.st_chain.specs.Copying.{over}
use Rattle.st_standing.specs.Standing.{StandsOn}
use Rattle.st_moving.specs.Moving.{Came, Coming, IsPast, Starts}
use Rattle.st_moving.proofs.Coming.{all_come}
use Rattle.st_run.specs.Behind.{NoteIs}
use Rattle.st_phases.specs.declared.automaton.Automaton.{Automaton}
use Rattle.st_fits.specs.Fits.{Fits}
use Rattle.st_fits.specs.Threads.{ends_of}
use Rattle.st_rounds.proofs.Arriving.{Arriving, lander, lands_on}
use Rattle.st_rounds.proofs.Coming.{still_fits, moved_fits}
use Rattle.st_rounds.proofs.Landing.{plain_machine, value_machine, lands_plain, lands_value, value_there, came_plain, came_value, root_machine, lands_root, root_registers}

-- ---- what the item at which it waited changes

-- the worker counts as before
own_note : (p : Program) (d : Data) (cells : ℕ) (h : Heap) (k : Known) (c : Change) → Enabled h (next_move p d k) c → IsPrivate k.thread c → NoteIs cells k → k.note ≡ (went k c.own).note
own_note p d cells h k c enabled private is =
    let forks : k.note.forks ≡ c.own.forks = (let same = (item_changes p d h k.path k.thread c enabled).forks in let none = ap one_if private.child in let was = is.forks in omega (arith, same, none, was)) in
    let counters : k.note.counters ≡ c.own.counters = is.counters ∙ sym private.counters in
    let bytes : k.note.bytes ≡ c.own.bytes = is.bytes ∙ sym private.bytes in
    λ i. record { cell = k.note.cell; forks = forks i; counters = counters i; bytes = bytes i }

item_there : (p : Program) (a : Activation) (function : ProgramFunction) (item : Item) → HasItem p a.function function a.next item → item_at p a ≡ Some item
item_there p a function item has = rw has.named has.placed

-- a call of an entry makes no frame
no_frame_at : (p : Program) (entry : ℕ) (acts : List Activation) → IsAtEntry p entry acts → frame_at p acts ≡ 0
no_frame_at p entry [] at = absurd at
no_frame_at p entry (a ∷ older) (function, item, has, kind) =
    ap (λ (o : Option Item). frame_of a o) (item_there p a function item has) ∙ ap (λ (k : ItemKind). frame_of a (Some (record item { kind = k }))) kind

-- ---- what the view has seen

one_by : (v : View) (values : List (ℕ × ℕ)) → Tidy v → ((c m n : ℕ) → Contains values (c, m) → Contains values (c, n) → m ≡ n) → SeesOne (record v { values = values })
one_by v values tidy one = record { cells = tidy.names.one_cell; values = one }

only_value : (cell k : ℕ) (c m n : ℕ) → Contains {X = ℕ × ℕ} ((cell, k) ∷ []) (c, m) → Contains {X = ℕ × ℕ} ((cell, k) ∷ []) (c, n) → m ≡ n
only_value cell k c m n one two = ⊎_elim
    (λ (e : (cell, k) ≡ (c, m)). ⊎_elim (λ (f : (cell, k) ≡ (c, n)). sym (ap (λ (z : ℕ × ℕ). z.1) e) ∙ ap (λ (z : ℕ × ℕ). z.1) f) (λ (never : Contains {X = ℕ × ℕ} [] (c, n)). absurd (contains_none (c, n) never)) (contains_case (c, n) (cell, k) [] two))
    (λ (never : Contains {X = ℕ × ℕ} [] (c, m)). absurd (contains_none (c, m) never)) (contains_case (c, m) (cell, k) [] one)

more_values : (f : ℕ → Change) (c : Change) (k : ℕ) (b : Bool) (o : Option ℕ) → by_value f (if b then Some k else None) ≡ Some c → by_value f (if b then Some k else o) ≡ Some c
more_values f c k true o e = e
more_values f c k false o e = (let it = e in let no : ⊥ = cc in absurd no)

touched_more : (f : ℕ → Change) (c : Change) (cell k : ℕ) (rest : List (ℕ × ℕ)) (o : Option ℕ) → touched f ((cell, k) ∷ []) o ≡ Some c → touched f ((cell, k) ∷ rest) o ≡ Some c
touched_more f c cell k rest None e = e
touched_more f c cell k rest (Some at) e = more_values f c k (cell == at) (value_at at rest) e

touch_seen : (v : View) (q : Path) (f : ℕ → Change) (cell k : ℕ) (rest : List (ℕ × ℕ)) → Tidy v → Contains v.names (Future q, cell) → v.values ≡ (cell, k) ∷ rest → seen_change v (Touch q f) ≡ Some (f k)
touch_seen v q f cell k rest tidy name values =
    let one = enough_seen (record v { values = (cell, k) ∷ [] }) (Touch q f) (f k) (one_by v ((cell, k) ∷ []) tidy (only_value cell k)) (cell, k, name, contains_here (cell, k) [], refl) in
    ap (λ (xs : List (ℕ × ℕ)). touched f xs (cell_of (is_future q) v.names)) values ∙ touched_more f (f k) cell k rest (cell_of (is_future q) v.names) one

join_seen : (v : View) (q : Path) (i cell least : ℕ) (c : Change) → Tidy v → Contains v.names (Counter q i, cell) → IsOver v (waits.Join cell least) → seen_change v (Join q i least c) ≡ Some c
join_seen v q i cell least c tidy name (count, at, enough) = enough_seen (record v { values = [] }) (Join q i least c) c (one_by v [] tidy (λ e m n one two. absurd (contains_none (e, m) one))) (cell, count, name, at, enough, refl)

-- ---- where it stands

far_place : (p : Program) (sized : IsSized Postprocessed p) (names : List (Held × ℕ)) (held : List (Option ℕ)) (ahead pc fp : ℕ) (value : ℕ → ℕ) (acts : List Activation) (fs : List Frame) → FromNewest p (named_by names) (is_held held) AtEnd ahead pc fp (word_in held) value acts fs → 256 ≤ pc
far_place p sized names held ahead pc fp value (a ∷ older) (f ∷ fs) (function, is) =
    let low = (place_bounds Postprocessed p a.function function a.next sized is.here).0 in
    let at = is.at in
    omega (arith, low, at)
far_place p sized names held ahead pc fp value [] fs newest = absurd newest
far_place p sized names held ahead pc fp value (a ∷ older) [] newest = absurd newest

module _ (p : Program) (d : Data) (limits : Limits) (image : Image) (input : List ℕ) (chain : Chain) (x : Automaton) (v : View) (a : Arriving p d limits image input chain x v) (limit : ℕ) (limit_is : IsLimit x.stack.hi x.stack.exported limit) where
  abbrev carried : Carried
  carried = a.come.carried

  accepted : IsAccepted p
  accepted = a.is_for.code.accepted

  all : Coming p d
  all = all_come p d accepted a.is_for.size

  note_is : NoteIs v.cells carried.known
  note_is = a.behind.notes carried.known (subst (λ (ts : List Known). Contains ts carried.known) (sym known) (contains_here carried.known []))
    where
      known : all_known v ≡ carried.known ∷ []
      known = ap (λ (ts : List Known). ts ++ known_of v.chains) a.come.none.is ∙ ap (λ (cs : List Carried). known_of cs) a.come.carries.only

  -- it has begun, where it waits otherwise than at its start
  begun_stands : chain.wait ≢ waits.Start → StandsFor p v.names v.held chain.wait chain.pc chain.fp (saved_value chain.saved) carried.known.thread a.come.frames × CanGoOn p chain.wait carried.known.thread
  begun_stands other = ⊎_elim (λ unbegun. absurd (other unbegun.wait)) (λ begun. begun) a.come.carries.has.stands

  module _ (values : AreValues (plain_machine chain limit x.machine)) where
    abbrev plain_there : State
    plain_there = plain_machine chain limit x.machine

    came_there : chain.wait ≢ waits.Start → Came p d v.names v.held (ends_of plain_there) plain_there carried.known a.come.frames chain.wait
    came_there other = let stands = begun_stands other in came_plain p d accepted v.names v.held a.words chain carried.known a.come.frames stands.1 stands.0 x.machine limit a.holds.registers values

    pub ready_runs : chain.wait ≡ waits.Ready → Fits p d limits image input (lander plain_there chain.note x) v
    ready_runs wait =
        let other : chain.wait ≢ waits.Start = (λ start. let no : ⊥ = cc in no) in
        let can = subst (λ w. CanGoOn p w carried.known.thread) wait ((begun_stands other).1) in
        let begun = subst (λ w. HasBegun w carried.known.begun) wait a.come.carries.has.begun in
        let alone = all.ready v.names v.held (ends_of plain_there) plain_there carried.known a.come.frames (subst (λ w. Came p d v.names v.held (ends_of plain_there) plain_there carried.known a.come.frames w) wait (came_there other)) in
        still_fits p d limits image input chain x v a plain_there limit (lands_plain chain x.machine limit a.holds.registers values) limit_is (subst (λ w. WasSeen v w) (sym wait) tt) (sym a.come.carries.has.note) (record { going = can; not_yet = begun }) alone.0

    pub join_runs : (cell least : ℕ) → chain.wait ≡ waits.Join cell least → IsOver v (waits.Join cell least) → Fits p d limits image input (lander plain_there chain.note x) v
    join_runs cell least wait over =
        let other : chain.wait ≢ waits.Start = (λ start. let no : ⊥ = cc in no) in
        let can = subst (λ w. CanGoOn p w carried.known.thread) wait ((begun_stands other).1) in
        let begun = subst (λ w. HasBegun w carried.known.begun) wait a.come.carries.has.begun in
        let came = subst (λ w. Came p d v.names v.held (ends_of plain_there) plain_there carried.known a.come.frames w) wait (came_there other) in
        let joined = all.join v.names v.held (ends_of plain_there) plain_there carried.known a.come.frames cell least came in
        let change = joined.change in
        let h : Heap = record { thread = λ q. None; count = λ q i. least; out = [] } in
        let least_is : least ≤ least = omega arith in
        let same = own_note p d v.cells h carried.known change (subst (λ m. Enabled h m change) (sym joined.moves) (least_is, refl)) joined.past.private note_is in
        moved_fits p d limits image input chain x v a plain_there limit (lands_plain chain x.machine limit a.holds.registers values) limit_is (subst (λ w. WasSeen v w) (sym wait) over) change begun
        (ap (seen_change v) joined.moves ∙ join_seen v joined.q joined.i cell least change a.tidy joined.name over) joined.past.private (no_frame_at p 0x70 carried.known.thread.activations can.1)
        (far_place p a.is_for.size v.names v.held came.stands.0 plain_there.pc _ _ carried.known.thread.activations a.come.frames came.stands.4)
        (sym a.come.carries.has.note ∙ same) (record { going = joined.past.going; not_yet = refl }) joined.past.stands.0

  module _ (k : ℕ) (values : AreValues (value_machine chain k limit x.machine)) where
    abbrev value_here : State
    value_here = value_machine chain k limit x.machine

    small : k < 2 ^ 64
    small =
        let first = written (restarted chain x.machine) registers.A0 k in
        let gp : register value_here registers.A0 ≡ register first registers.A0 = register-written_other first registers.Gp registers.A0 limit (λ e. absurd (omega (arith, e))) in
        let has = came_value' in
        let at = values 10 in
        omega (arith, gp, has, at)
      where
        came_value' : register (written (restarted chain x.machine) registers.A0 k) registers.A0 ≡ k
        came_value' = let few = restarted_count in register-written_same (restarted chain x.machine) registers.A0 k (omega (arith, few)) refl
          where
            restarted_count : length (restarted chain x.machine).registers ≡ 32
            restarted_count = (restarts chain x.machine a.holds.registers).count ∙ a.holds.registers.count

    pub touch_runs : (cell : ℕ) (rest : List (ℕ × ℕ)) → chain.wait ≡ waits.Touch cell → v.values ≡ (cell, k) ∷ rest → Fits p d limits image input (lander value_here chain.note x) v
    touch_runs cell rest wait loaded =
        let other : chain.wait ≢ waits.Start = (λ start. let no : ⊥ = cc in no) in
        let stands = begun_stands other in
        let can = subst (λ w. CanGoOn p w carried.known.thread) wait stands.1 in
        let begun = subst (λ w. HasBegun w carried.known.begun) wait a.come.carries.has.begun in
        let came = subst (λ w. Came p d v.names v.held (ends_of value_here) value_here carried.known a.come.frames w) wait (came_value p d accepted v.names v.held a.words chain carried.known a.come.frames stands.1 stands.0 x.machine k limit a.holds.registers values) in
        let touch = all.touch v.names v.held (ends_of value_here) value_here carried.known a.come.frames cell k small came in
        let change = touch.f k in
        let past : IsPast p v.names v.held (ends_of value_here) value_here carried.known a.come.frames change = subst (λ m. IsPast p v.names v.held (ends_of value_here) m carried.known a.come.frames change) (value_there chain k x.machine limit) touch.past in
        let h : Heap = record { thread = λ q. Some (record carried.known.thread { standing = Ended k }); count = λ q i. 0; out = [] } in
        let same = own_note p d v.cells h carried.known change (subst (λ m. Enabled h m change) (sym touch.moves) (k, (record carried.known.thread { standing = Ended k }, refl, refl), refl)) past.private note_is in
        let seen : WasSeen v (waits.Touch cell) = (k, subst (λ (xs : List (ℕ × ℕ)). Contains xs (cell, k)) (sym loaded) (contains_here (cell, k) rest)) in
        moved_fits p d limits image input chain x v a value_here limit (lands_value chain k x.machine limit a.holds.registers values) limit_is (subst (λ w. WasSeen v w) (sym wait) seen) change begun
        (ap (seen_change v) touch.moves ∙ touch_seen v touch.q touch.f cell k rest a.tidy touch.name loaded) past.private (no_frame_at p 0x40 carried.known.thread.activations can.1)
        (far_place p a.is_for.size v.names v.held came.stands.0 value_here.pc _ _ carried.known.thread.activations a.come.frames came.stands.4)
        (sym a.come.carries.has.note ∙ same) (record { going = past.going; not_yet = refl }) past.stands.0

  -- ---- the root

  module _ (values : AreValues (root_machine chain x.length image.main_at limit x.machine)) where
    abbrev root_there : State
    root_there = root_machine chain x.length image.main_at limit x.machine

    starts : IsUnbegun p d chain carried.known.thread a.come.frames → Starts p d root_there carried.known
    starts is =
        let registers_are = root_registers chain x.length image.main_at x.machine limit a.holds.registers in
        record {
          first = is.first;
          begins = is.begins;
          root = is.root;
          pc = a.is_for.code.is_image.main;
          ret = registers_are.0;
          length_is = registers_are.1 ∙ a.is_for.input_is ∙ ap (λ (e : Data). length e.input) (sym a.is_for.source);
        }

    unbegun_is : chain.wait ≡ waits.Start → IsUnbegun p d chain carried.known.thread a.come.frames
    unbegun_is wait = ⊎_elim (λ unbegun. unbegun) (λ begun. absurd (subst (λ w. words_ahead w begun.0.0) wait begun.0.1)) a.come.carries.has.stands

    pub root_runs : chain.wait ≡ waits.Start → Fits p d limits image input (lander root_there chain.note x) v
    root_runs wait =
        let is = unbegun_is wait in
        let begun = subst (λ w. HasBegun w carried.known.begun) wait a.come.carries.has.begun in
        let lands = lands_root chain x.length image.main_at x.machine limit a.holds.registers values in
        let stands = all.root v.names v.held (ends_of root_there) root_there carried.known (lands_on x.machine root_there limit v.held a.words a.holds.registers lands) refl (starts is) in
        still_fits p d limits image input chain x v a root_there limit lands limit_is (subst (λ w. WasSeen v w) (sym wait) tt) (sym a.come.carries.has.note)
        (record { going = ap (λ (t : Thread). t.standing) is.root; not_yet = begun })
        (subst (λ (fs : List Frame). StandsOn p v.names (is_held v.held) (ends_of root_there) (over v.held root_there) carried.known fs [] []) (sym is.none) stands)
