-- A run of all its items: at an item it stands for a state from which the bounded run answers as from main (IsOnRun), as from its beginning
-- (first_on_run), and amid one it has begun that item of this state (IsInItem, in_item), from turn to turn (Stage, next_stage). It answers
-- as the bounded run where an item ends it (item_ends) or none is left where one begins (none_begins, steps_passed), and no end of it is
-- Going (never_going).
use Rattle.std.proofs.Common.{◌≡◌, ◌≢◌, ◌⊎◌, inl, inr, ℕ, zero, suc, ◌+◌, ◌*◌, ◌-◌, ◌<◌, ◌≤◌, true, List, length, reverse, Option, Some, None, slice_get, refl, ap, ap₂, sym, ◌∙◌, subst, arith}
use Rattle.std.proofs.lemmas.Bool.{le-ltb}
use Rattle.std.proofs.lemmas.List.{length-map}
use Rattle.st_base.specs.declared.image.Image.{Image}
use Rattle.st_base.specs.declared.limits.LimitKind.TheVariants.{Step}
use Rattle.st_base.specs.declared.limits.LimitKind.{LimitKind}
use Rattle.st_base.specs.declared.limits.Limits.{Limits}
use Rattle.st_model.specs.declared.ordinary.OrdEnd.TheVariants.{Going}
use Rattle.st_model.specs.declared.ordinary.OrdEnd.{OrdEnd}
use Rattle.st_model.specs.declared.ordinary.State.{State}
use Rattle.st_model.specs.declared.ordinary.Turn.TheVariants.{Goes, Over}
use Rattle.st_model.specs.declared.ordinary.Turn.{Turn}
use Rattle.st_model.specs.declared.program.Program.{Program}
use Rattle.st_model.specs.declared.program.ProgramFunction.{ProgramFunction}
use Rattle.st_model.specs.Accepted.{IsAccepted}
use Rattle.st_model.specs.Bounded.{BoundedEnd, Bounds, bounded, bounded_from, bounded_root, bounded_run, bounded_turn, limit_at, past_steps}
use Rattle.st_model.specs.Draws.{drawn_by}
use Rattle.st_model.specs.Memory.{Data}
use Rattle.st_model.specs.Ordinary.{item_at, ordinary_run, run_from, start, started, step}
use Rattle.st_model.proofs.RunFlow.{always_defined}
use Rattle.st_plain.specs.declared.cells.Note.{Note}
use Rattle.st_plain.specs.declared.run.PlainRun.{PlainRun}
use Rattle.st_plain.specs.declared.stop.Ending.TheVariants as endings
use Rattle.st_plain.specs.declared.stop.Ending.{Ending}
use Rattle.st_plain.specs.declared.whole.PlainEnd.TheVariants.{Ended, Limit}
use Rattle.st_plain.specs.declared.whole.PlainEnd.{PlainEnd}
use Rattle.st_plain.specs.Answer.{IsPlainImage, answer_of, bounds_of}
use Rattle.st_plain.specs.Endings.{end_by}
use Rattle.st_plain.specs.Running.{EndsBy, HasTables, IsDefinedFrom, IsReady, IsUnderWay, TurnLeads}
use Rattle.std.proofs.lemmas.Option.{slice_get_within}
use Rattle.st_items.specs.Code.{word_index}
use Rattle.st_items.proofs.Addresses.{place_bounds, sized}
use Rattle.st_plain.proofs.ItemBegins.{begins_ready}
use Rattle.st_plain.proofs.ItemTurns.{none_left}
use Rattle.st_plain.proofs.OneTurn.{beginning_inside}
use Rattle.st_model.specs.declared.code.Layout.TheVariants.{Unchanged}

-- ---- the first state

some_start : (p : Program) (input : ℕ) (main : ProgramFunction) (o : Option ProgramFunction) → o ≡ Some main → (s : State) × (started p input o ≡ Some s)
some_start p input main None is = let never : ⊥ = cc in absurd never
some_start p input main (Some function) is = (_, refl)

pub first_state : (p : Program) (d : Data) → IsAccepted p → (s : State) × (start p d ≡ Some s)
first_state p d accepted = some_start p (length d.input) accepted.main (slice_get p.functions p.main) accepted.has_main

pub first_defined : (p : Program) (d : Data) (s : State) → IsAccepted p → start p d ≡ Some s → IsDefinedFrom p d s
unfolding ordinary_run
first_defined p d s accepted starts n none = always_defined p d accepted n (ap (run_from p d n) starts ∙ none)

-- ---- the bounded run

first_bounded : (p : Program) (d : Data) (b : Bounds) (s : State) → start p d ≡ Some s → 1 ≤ b.cells → bounded p d b.stack b.steps (b.cells - 1) s ≡ bounded_run p d b
unfolding bounded_run
first_bounded p d b s starts least =
    sym (ap (bounded_from p d b) starts ∙ ap (λ few. bounded_root few p d b s) (le-ltb b.cells 1 least))

bounded_by : (p : Program) (d : Data) (stack n cells : ℕ) (s : State) (limit : Option BoundedEnd) (turn : Turn) → limit_at stack cells s (item_at p s.top) ≡ limit → step p d s ≡ turn → bounded p d stack (suc n) cells s ≡ bounded_turn (bounded p d stack n (cells - drawn_by (item_at p s.top))) limit turn
unfolding bounded
bounded_by p d stack n cells s limit turn is steps =
    ap₂ (bounded_turn (bounded p d stack n (cells - drawn_by (item_at p s.top)))) is steps

no_items : (p : Program) (d : Data) (stack cells : ℕ) (s : State) → bounded p d stack 0 cells s ≡ Some past_steps
unfolding bounded
no_items p d stack cells s = refl

-- ---- on the run

-- the run is ready for a state from which the bounded run, with so many items left and the cells that aren't drawn, answers as from main
pub record IsOnRun (p : Program) (image : Image) (d : Data) (limits : Limits) (r : PlainRun) (left : ℕ) : Type 0 where
  pub s : State
  pub ready : IsReady p image d limits r s
  pub rest : bounded p d limits.stack left (limits.cells - length r.threads.cells.items.items) s ≡ bounded_run p d (bounds_of limits)

pub first_on_run : (p : Program) (image : Image) (d : Data) (limits : Limits) (r : PlainRun) → IsPlainImage p image → 1 ≤ limits.cells → length r.threads.cells.items.items ≡ 1
    → ((s : State) → start p d ≡ Some s → IsDefinedFrom p d s → IsReady p image d limits r s) → IsOnRun p image d limits r limits.steps
first_on_run p image d limits r pi least one ready =
    let first = first_state p d pi.accepted in
    record {
      s = first.0;
      ready = ready first.0 first.1 (first_defined p d first.0 pi.accepted first.1);
      rest = ap (λ n. bounded p d limits.stack limits.steps (limits.cells - n) first.0) one ∙ first_bounded p d (bounds_of limits) first.0 first.1 least;
    }

-- the run is amid an item, with at most so many turns left of it; the bounded run from its state, with this item and those that are left,
-- answers as from main. No item has more than 64 turns
pub record IsInItem (p : Program) (image : Image) (d : Data) (limits : Limits) (r : PlainRun) (left made : ℕ) : Type 0 where
  pub drawn : ℕ
  pub s : State
  pub turns : ℕ
  pub under : IsUnderWay p image d limits drawn r s turns
  pub rest : bounded p d limits.stack (suc left) (limits.cells - drawn) s ≡ bounded_run p d (bounds_of limits)
  pub soon : made + 64 * left + turns ≤ 64 * limits.steps

-- before a turn, of which so many were made, the run is at an item, or amid one that it has begun before
abbrev pub Stage : Program → Image → Data → Limits → PlainRun → ℕ → ℕ → Type 0
Stage p image d limits r left made =
    (IsOnRun p image d limits r left × (made + 64 * left ≤ 64 * limits.steps)) ⊎ ((x : IsInItem p image d limits r left made) × (x.turns < 42))

-- at an item it begins that one, and amid one it goes on
pub in_item : (p : Program) (image : Image) (d : Data) (limits : Limits) (r : PlainRun) (left rest made begun : ℕ) → Stage p image d limits r left made → ((s : State) → IsReady p image d limits r s → begun ≡ 1)
    → ((drawn : ℕ) (s : State) (turns : ℕ) → IsUnderWay p image d limits drawn r s turns → turns < 42 → begun ≡ 0) → rest + begun ≡ left → IsInItem p image d limits r rest made
in_item p image d limits r left rest made begun (inl at) ready amid taken =
    let one = ready at.0.s at.0.ready in
    let more : left ≡ suc rest = omega (arith, one, taken) in
    let soon = at.1 in
    let cells = limits.cells - length r.threads.cells.items.items in
    let long : 42 ≤ 64 = omega arith in
    record {
      drawn = length r.threads.cells.items.items;
      s = at.0.s;
      turns = 64;
      under = record { tables = at.0.ready.tables; defined = at.0.ready.defined; amid = inl (long, refl, at.0.ready.at) };
      rest = ap (λ n. bounded p d limits.stack n cells at.0.s) (sym more) ∙ at.0.rest;
      soon = omega (arith, more, soon);
    }
in_item p image d limits r left rest made begun (inr x) ready amid taken =
    let none = amid x.0.drawn x.0.s x.0.turns x.0.under x.1 in
    let same : left ≡ rest = omega (arith, none, taken) in
    subst (λ n. IsInItem p image d limits r n made) same x.0

-- at an item, with none left
pub none_begins : (p : Program) (image : Image) (d : Data) (limits : Limits) (r : PlainRun) (left made begun : ℕ) → Stage p image d limits r left made → ((s : State) → IsReady p image d limits r s → begun ≡ 1)
    → ((drawn : ℕ) (s : State) (turns : ℕ) → IsUnderWay p image d limits drawn r s turns → turns < 42 → begun ≡ 0) → left < begun → IsOnRun p image d limits r 0
none_begins p image d limits r left made begun (inl at) ready amid less =
    let one = ready at.0.s at.0.ready in
    let none : left ≡ 0 = omega (arith, one, less) in
    subst (IsOnRun p image d limits r) none at.0
none_begins p image d limits r left made begun (inr x) ready amid less = let none = amid x.0.drawn x.0.s x.0.turns x.0.under x.1 in absurd (omega (arith, none, less))

-- an entry is amid an item
pub at_entry : (p : Program) (image : Image) (d : Data) (limits : Limits) (r : PlainRun) (left made : ℕ) → r.machine.pc < 0x10000 → Stage p image d limits r left made → IsInItem p image d limits r left made
at_entry p image d limits r left made low (inl at) =
    let stands = at.0.ready.at.stands in
    let high = (place_bounds Unchanged p at.0.s.top.function stands.stands.function at.0.s.top.next (sized Unchanged p at.0.ready.tables.is_plain.accepted at.0.ready.tables.is_plain.size) stands.stands.here).0 in
    let there = stands.at in
    absurd (omega (arith, low, high, there))
at_entry p image d limits r left made low (inr x) = x.0

-- the table of beginnings has the word at the pc
pub begins_inside : (p : Program) (image : Image) (d : Data) (limits : Limits) (r : PlainRun) (left made : ℕ) → 0x10000 ≤ r.machine.pc → Stage p image d limits r left made → word_index r.machine.pc < length image.begins
begins_inside p image d limits r left made high (inl at) = slice_get_within image.begins (word_index r.machine.pc) true (begins_ready p image d limits r at.0.s at.0.ready)
begins_inside p image d limits r left made high (inr x) = beginning_inside p image d limits x.0.drawn r x.0.s x.0.turns high x.0.under

run_tables : (p : Program) (image : Image) (d : Data) (limits : Limits) (r : PlainRun) (left made : ℕ) → Stage p image d limits r left made → HasTables p image limits r
run_tables p image d limits r left made (inl at) = at.0.ready.tables
run_tables p image d limits r left made (inr x) = x.0.under.tables

-- so has that of the instructions
pub rows_inside : (p : Program) (image : Image) (d : Data) (limits : Limits) (r : PlainRun) (left made : ℕ) → 0x10000 ≤ r.machine.pc → Stage p image d limits r left made → word_index r.machine.pc < length r.code.instructions.items
rows_inside p image d limits r left made high stage =
    let inside = begins_inside p image d limits r left made high stage in
    let tables = run_tables p image d limits r left made stage in
    let same = ap length tables.begins in
    let long = length-map r.code.instructions.items (λ t. t.begins) in
    omega (arith, inside, same, long)

some_left : (turns : ℕ) → (turns ≡ 0 → ⊥) → 1 ≤ turns
some_left zero some = absurd (some refl)
some_left (suc turns) some = omega arith

-- a turn leads on in the item, or to the next one
pub next_stage : (p : Program) (image : Image) (d : Data) (limits : Limits) (r next : PlainRun) (left made : ℕ) (x : IsInItem p image d limits r left made) → TurnLeads p image d limits x.drawn next x.s x.turns → Stage p image d limits next left (made + 1)
next_stage p image d limits r next left made x (inl under) =
    let soon = x.soon in
    let less = under.1 in
    inr (record { drawn = x.drawn; s = x.s; turns = under.0; under = under.3; rest = x.rest; soon = omega (arith, soon, less) }, under.2)
next_stage p image d limits r next left made x (inr past) =
    let soon = x.soon in
    let some = some_left x.turns (λ none. none_left p image d limits x.drawn r x.s x.turns none x.under) in
    let cells : limits.cells - length next.threads.cells.items.items ≡ limits.cells - x.drawn - drawn_by (item_at p x.s.top) = omega (arith, past.drew) in
    inl (
      record {
        s = past.s';
        ready = past.ready;
        rest =
            ap (λ many. bounded p d limits.stack left many past.s') cells
            ∙ sym (bounded_by p d limits.stack left (limits.cells - x.drawn) x.s None (Goes past.s') past.passes past.steps)
            ∙ x.rest;
      },
      omega (arith, soon, some),
    )

-- so many turns aren't made
pub past_all : (p : Program) (image : Image) (d : Data) (limits : Limits) (r : PlainRun) (left made : ℕ) → 64 * limits.steps < made → Stage p image d limits r left made → ⊥
past_all p image d limits r left made far (inl at) = let soon = at.1 in omega (arith, far, soon)
past_all p image d limits r left made far (inr x) = let soon = x.0.soon in omega (arith, far, soon)

-- ---- the end

-- the end that the ending gives, by the state of the threads in which it is given
abbrev pub GivesEnd : List Note → List ℕ → Ending → PlainEnd → Type 0
GivesEnd notes out ending end =
    ((e : OrdEnd) → end_by (reverse notes) out ending ≡ Some e → end ≡ Ended e) × ((kind : LimitKind) → ending ≡ endings.Limit kind → end ≡ Limit kind)

ends_so : (p : Program) (d : Data) (limits : Limits) (drawn n : ℕ) (notes : List Note) (out : List ℕ) (s : State) (ending : Ending) (end : PlainEnd) → GivesEnd notes out ending end → EndsBy p d limits drawn notes out s ending
    → answer_of limits (bounded p d limits.stack (suc n) (limits.cells - drawn) s) ≡ Some end
ends_so p d limits drawn n notes out s ending end gives (inl met) =
    ap (answer_of limits) (bounded_by p d limits.stack n (limits.cells - drawn) s (Some met.0) (step p d s) met.1 refl)
    ∙ ap Some (met.2.2 ∙ sym (gives.1 met.2.0 met.2.1))
ends_so p d limits drawn n notes out s ending end gives (inr over) =
    ap (answer_of limits) (bounded_by p d limits.stack n (limits.cells - drawn) s None (Over over.1.0) over.0 over.1.1)
    ∙ ap Some (sym (gives.0 over.1.0 over.1.2))

pub item_ends : (p : Program) (image : Image) (d : Data) (limits : Limits) (r : PlainRun) (left made : ℕ) (notes : List Note) (out : List ℕ) (ending : Ending) (end : PlainEnd) (x : IsInItem p image d limits r left made) → GivesEnd notes out ending end → EndsBy p d limits x.drawn notes out x.s ending
    → answer_of limits (bounded_run p d (bounds_of limits)) ≡ Some end
item_ends p image d limits r left made notes out ending end x gives over = ap (answer_of limits) (sym x.rest) ∙ ends_so p d limits x.drawn left notes out x.s ending end gives over

pub steps_passed : (p : Program) (image : Image) (d : Data) (limits : Limits) (r : PlainRun) → IsOnRun p image d limits r 0 → answer_of limits (bounded_run p d (bounds_of limits)) ≡ Some (Limit (Step 0))
steps_passed p image d limits r on =
    ap (answer_of limits) (sym on.rest ∙ no_items p d limits.stack (limits.cells - length r.threads.cells.items.items) on.s)

not_going : (notes : List Note) (out : List ℕ) (ending : Ending) → end_by notes out ending ≢ Some Going
not_going notes out endings.Done is = cc
not_going notes out (endings.Trap kind line) is = cc
not_going notes out (endings.Waits line) is = cc
not_going notes out endings.OutLimit is = cc
not_going notes out (endings.Limit kind) is = cc

pub never_going : (p : Program) (d : Data) (limits : Limits) (drawn : ℕ) (notes : List Note) (out : List ℕ) (s : State) (ending : Ending) (end : PlainEnd) → GivesEnd notes out ending end → EndsBy p d limits drawn notes out s ending → end ≢ Ended Going
never_going p d limits drawn notes out s ending end gives (inl met) is = let kind = gives.1 met.2.0 met.2.1 in cc
never_going p d limits drawn notes out s ending end gives (inr over) is =
    let ends = gives.0 over.1.0 over.1.2 in
    let going : over.1.0 ≡ Going = cc in
    not_going (reverse notes) out ending (over.1.2 ∙ ap (λ e. Some e) going)
