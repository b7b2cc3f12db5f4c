-- The view from which a worker goes on whose chain has just come to run: its thread is the only one, and has made the item at which it waited. Read still_fits (it waited at none) and moved_fits.
use Rattle.std.proofs.Common.{◌≡◌, inl, ℕ, ◌+◌, ◌-◌, ◌≤◌, ◌<◌, Bool, true, false, cond, not, ◌&&◌, ◌==◌, List, [], ◌∷◌, Option, Some, None, is_some, refl, sym, ap, ◌∙◌, subst, arith, eq-eqb, ne_eqb}
use Rattle.std.specs.Prelude.{if◌then◌else◌}
use Rattle.st_base.specs.Entry.{entry_among, entries, address_of}
use Rattle.st_base.specs.declared.entry.Entry.{Entry}
use Rattle.st_base.specs.declared.entry.Entry.TheVariants as entry_names
use Rattle.st_base.specs.declared.chain.Chain.{Chain}
use Rattle.st_base.specs.declared.image.Image.{Image}
use Rattle.st_base.specs.declared.limits.Limits.{Limits}
use Rattle.st_words.specs.declared.view.Carried.{Carried}
use Rattle.st_words.specs.declared.view.Known.{Known}
use Rattle.st_words.specs.declared.view.View.{View}
use Rattle.st_words.specs.Moves.{WasSeen, MayRestart}
use Rattle.st_words.specs.Views.{without_chain}
use Rattle.st_model.specs.declared.program.Program.{Program}
use Rattle.st_model.specs.Heap.{Change}
use Rattle.st_model.specs.Limits.{frame_made}
use Rattle.st_model.specs.Memory.{Data}
use Rattle.st_made.specs.Items.{IsPrivate, next_move, went}
use Rattle.st_made.specs.Moves.{Made}
use Rattle.st_made.proofs.Making.{made_follows}
use Rattle.st_ahead.specs.Ahead.{seen_change, or_else}
use Rattle.st_ahead.specs.Naming.{on, resumed, exported, finished, finished_by}
use Rattle.st_ahead.proofs.Named.{resumed_made, on_made}
use Rattle.st_ahead.proofs.Seen.{private_decides}
use Rattle.st_stack.specs.Exported.{IsLimit}
use Rattle.st_step.specs.declared.state.State.{State}
use Rattle.st_chain.specs.Walk.{is_held}
use Rattle.st_chain.specs.Copying.{over}
use Rattle.st_standing.specs.Standing.{StandsOn}
use Rattle.st_settled.proofs.Forward.{exported_none, still_items}
use Rattle.st_phases.specs.declared.automaton.Automaton.{Automaton}
use Rattle.st_phases.specs.declared.phase.Phase.TheVariants as phases
use Rattle.st_fits.specs.Before.{before, come, has_come, is_running, is_at_entry, with_items}
use Rattle.st_fits.specs.Fits.{FitsIn, Fits}
use Rattle.st_fits.specs.Threads.{IsPlain, ends_of}
use Rattle.st_rounds.proofs.Arriving.{Lands, Arriving, landed, lander, lands_fits}

-- ---- addresses

low_entry : (e : Entry) → address_of e < 256
low_entry entry_names.ForkIn = omega arith
low_entry entry_names.ForkOut = omega arith
low_entry entry_names.End = omega arith
low_entry entry_names.Touch = omega arith
low_entry entry_names.Counter = omega arith
low_entry entry_names.Done = omega arith
low_entry entry_names.Join = omega arith
low_entry entry_names.Poll = omega arith
low_entry entry_names.Putc = omega arith

no_entry : (es : List Entry) (pc : ℕ) → 256 ≤ pc → entry_among es pc ≡ None
no_entry [] pc far = refl
no_entry (e ∷ es) pc far =
    let low = low_entry e in
    ap (λ (b : Bool). cond b (Some e) (entry_among es pc)) (ne_eqb pc (address_of e) (λ same. let no : ⊥ = omega (arith, low, far, same) in no)) ∙ no_entry es pc far

pub far_from_entries : (pc : ℕ) → 256 ≤ pc → is_at_entry pc ≡ false
far_from_entries pc far = ap (λ (o : Option Entry). is_some o && not (pc == 0x80)) (no_entry entries pc far)

-- ---- the thread is there

only_gone : (k : Carried) → without_chain k.known.note.cell (k ∷ []) ≡ []
only_gone k = ap (λ (b : Bool). cond (not b) (k ∷ []) []) (eq-eqb k.known.note.cell k.known.note.cell refl)

-- the item that was begun is made
on_is : (p : Program) (d : Data) (w : View) (top : Known) (c : Change) → w.threads ≡ top ∷ [] → top.begun ≡ true → seen_change w (next_move p d top) ≡ Some c → IsPrivate top.thread c → on p d w ≡ record w { threads = went top c.own ∷ []; frame_bytes = w.frame_bytes + frame_made p top.path top.thread }
on_is p d w top c is begun seen private =
    ap (λ (ts : List Known). or_else p d (finished p d w ts) w (λ u. u)) is
    ∙ ap (λ (b : Bool). or_else p d (if b then finished_by p d w top [] (seen_change w (next_move p d top)) else None) w (λ u. u)) begun
    ∙ ap (λ (o : Option Change). or_else p d (finished_by p d w top [] o) w (λ u. u)) seen
    ∙ ap (λ (b : Bool). or_else p d (if b then Some (record w { threads = went top c.own ∷ []; frame_bytes = w.frame_bytes + frame_made p top.path top.thread }) else None) w (λ u. u)) ((private_decides top.thread c).1 private)

module _ (p : Program) (d : Data) (limits : Limits) (image : Image) (input : List ℕ) (chain : Chain) (x : Automaton) (v : View) (a : Arriving p d limits image input chain x v) (n : State) (limit : ℕ) (lands : Lands x.machine n limit) (limit_is : IsLimit x.stack.hi x.stack.exported limit) (seen : WasSeen v chain.wait) where
  abbrev pub carried : Carried
  carried = a.come.carried

  may : MayRestart v carried
  may = record { none = a.come.none.is; carried = a.come.carries.has.there; stands = a.come.carries.stands; seen = subst (λ w. WasSeen v w) (sym a.come.carries.has.wait) seen }

  resumed_is : resumed v ≡ landed carried.known v
  resumed_is = (resumed_made p d v carried a.come.carries.only may).0 ∙ ap (λ (cs : List Carried). record v { threads = carried.known ∷ []; chains = cs }) (ap (λ (cs : List Carried). without_chain carried.known.note.cell cs) a.come.carries.only ∙ only_gone carried)

  comes_to : come phases.Running v ≡ landed carried.known v
  comes_to = ap (λ (b : Bool). if b then resumed v else v) (ap has_come a.come.carries.only ∙ ap is_running a.come.carries.stands) ∙ resumed_is

  there_made : Made p d v (landed carried.known v)
  there_made = subst (λ w. Made p d v w) resumed_is ((resumed_made p d v carried a.come.carries.only may).1)

  -- before the next step, by its items
  before_is : before p d (lander n chain.note x) v ≡ exported x.stack.exported (with_items p d (is_at_entry n.pc) (x.items - v.items) (landed carried.known v))
  unfolding before
  before_is = ap (λ (w : View). exported x.stack.exported (with_items p d (is_at_entry n.pc) (x.items - w.items) w)) comes_to

  -- it waited at no item
  pub still_fits : (note : chain.note ≡ carried.known.note) → IsPlain carried.known → StandsOn p v.names (is_held v.held) (ends_of n) (over v.held n) carried.known a.come.frames [] [] → Fits p d limits image input (lander n chain.note x) v
  still_fits note plain stands =
      let w = landed carried.known v in
      let is = before_is ∙ ap (exported x.stack.exported) (still_items p d (is_at_entry n.pc) x.items w a.holds.items (inl (inl plain.not_yet))) ∙ exported_none x.stack.exported w a.holds.exported in
      record {
        made = subst (λ u. Made p d v u) (sym is) there_made;
        fits = subst (λ u. FitsIn p d limits image input (lander n chain.note x) u) (sym is) (lands_fits p d limits image input chain x v a n limit lands limit_is carried.known plain note stands);
      }

  -- it has made the item at which it waited, which makes no frame
  module _ (c : Change) (begun : carried.known.begun ≡ true) (sees : seen_change v (next_move p d carried.known) ≡ Some c) (private : IsPrivate carried.known.thread c) (no_frame : frame_made p carried.known.path carried.known.thread ≡ 0) (far : 256 ≤ n.pc) where
    on_there : on p d (landed carried.known v) ≡ landed (went carried.known c.own) v
    on_there =
        let none : v.frame_bytes + frame_made p carried.known.path carried.known.thread ≡ v.frame_bytes = omega (arith, no_frame) in
        on_is p d (landed carried.known v) carried.known c refl begun sees private ∙ ap (λ b. record (landed (went carried.known c.own) v) { frame_bytes = b }) none

    pub moved_fits : (note : chain.note ≡ (went carried.known c.own).note) → IsPlain (went carried.known c.own) → StandsOn p v.names (is_held v.held) (ends_of n) (over v.held n) (went carried.known c.own) a.come.frames [] [] → Fits p d limits image input (lander n chain.note x) v
    moved_fits note plain stands =
        let w = landed carried.known v in
        let items = a.holds.items in
        let none : x.items - v.items ≡ 0 = omega (arith, items) in
        let last = landed (went carried.known c.own) v in
        let is =
        before_is ∙ ap (λ (b : Bool). exported x.stack.exported (with_items p d b (x.items - v.items) w)) (far_from_entries n.pc far) ∙ ap (λ (k : ℕ). exported x.stack.exported (with_items p d false k w)) none
        ∙ ap (exported x.stack.exported) on_there ∙ exported_none x.stack.exported last a.holds.exported in
        record {
          made = subst (λ u. Made p d v u) (sym is) (made_follows p d v w last there_made (subst (λ u. Made p d w u) on_there (on_made p d w)));
          fits = subst (λ u. FitsIn p d limits image input (lander n chain.note x) u) (sym is) (lands_fits p d limits image input chain x v a n limit lands limit_is (went carried.known c.own) plain note stands);
        }
