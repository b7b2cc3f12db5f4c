-- A thread at the entry that ends it, whose value is stored: its note (own_is), that it stays there (still_ends), and what is left when it goes out (gone_fits).
use Rattle.st_base.specs.Reg.{reg_number}
use Rattle.st_base.specs.declared.chain.Frame.{Frame}
use Rattle.st_base.specs.declared.chain.Note.{Note}
use Rattle.st_base.specs.declared.chain.Waiting.TheVariants as waits
use Rattle.st_base.specs.declared.image.ForkRow.{ForkRow}
use Rattle.st_base.specs.declared.image.Image.{Image}
use Rattle.st_base.specs.declared.limits.Limits.{Limits}
use Rattle.st_base.specs.declared.reg.Reg.TheVariants as registers
use Rattle.st_base.specs.declared.reg.Reg.{Reg}
use Rattle.st_base.specs.declared.thread.Activation.{Activation}
use Rattle.st_calls.proofs.Back.{at_back_with, ends_with}
use Rattle.st_calls.proofs.Tops as tops
use Rattle.st_calls.proofs.Turning.{IsCalm, StepLeaves, fits_to, goes_to, same_machine}
use Rattle.st_chain.proofs.ForkPlaces.{third_found}
use Rattle.st_chain.specs.Forks.{handle_behind}
use Rattle.st_chain.specs.Seen.{joined}
use Rattle.st_chain.specs.Taking.{notes_of}
use Rattle.st_chain.specs.Threads.{HasForked}
use Rattle.st_chain.specs.Walk.{is_held, word_in}
use Rattle.st_fits.specs.Bags.{HasBag, units}
use Rattle.st_fits.specs.Before.{before, after}
use Rattle.st_fits.specs.Fits.{ByPhase, FitsIn}
use Rattle.st_fits.specs.Laws.{IsReady}
use Rattle.st_fits.specs.Threads.{ArePlain, HasNone, IsAtEnd, Leases, Lies, Polls, Rests, ends_of, now, Stands}
use Rattle.st_items.proofs.Addresses.{address_bounds, next_address}
use Rattle.st_items.proofs.ItemCode.{behind_prologue, formed_of}
use Rattle.st_items.specs.Body.{Ends}
use Rattle.st_items.specs.Code.{IsSized}
use Rattle.st_model.proofs.Places.{between_holds}
use Rattle.st_model.specs.Accepted as forms
use Rattle.st_model.specs.Accepted.{IsPrologue}
use Rattle.st_model.specs.Layout.{IsCodeOf, item_size}
use Rattle.st_model.specs.Memory.{Data}
use Rattle.st_model.specs.declared.code.Layout.TheVariants.{Postprocessed}
use Rattle.st_model.specs.declared.program.ItemKind.TheVariants as items
use Rattle.st_model.specs.declared.program.Program.{Program}
use Rattle.st_moving.specs.Moving.{AtPoll}
use Rattle.st_phases.specs.Automaton.{back, own_note, popped, with_phase}
use Rattle.st_phases.specs.Ending.{below_goes_on, in_handle, moved_to}
use Rattle.st_phases.specs.declared.automaton.Automaton.{Automaton}
use Rattle.st_phases.specs.declared.phase.Phase.TheVariants as phases
use Rattle.st_phases.specs.declared.phase.Phase.{Phase}
use Rattle.st_serving.proofs.Ends.{end_goes_on}
use Rattle.st_serving.specs.Serving as serves
use Rattle.st_standing.specs.Standing as standing
use Rattle.st_standing.specs.Standing.{AtLast, StandsOn, under}
use Rattle.st_step.specs.Frames.{address_in}
use Rattle.st_step.specs.Moves.{at_place, written, register}
use Rattle.st_step.specs.Runs.{Situation}
use Rattle.st_step.specs.declared.state.State.{State}
use Rattle.st_words.proofs.Lists.{contains_here, contains_later, contains_none}
use Rattle.st_words.specs.Steps.{HasThread}
use Rattle.st_words.specs.Views as views
use Rattle.st_words.specs.declared.view.Known.{Known}
use Rattle.st_words.specs.declared.view.View.{View}
use Rattle.std.proofs.Common.{◌≡◌, inl, inr, ℕ, ◌+◌, ◌-◌, Bool, List, [], ◌∷◌, ◌++◌, Option, Some, refl, sym, ap, ◌∙◌, subst, arith, ◌⊎◌, ◌^◌, ◌<◌, ◌≤◌, eq-eqb, length, ne_eqb, take}
use Rattle.std.specs.List.{Contains}
use Rattle.std.specs.Prelude.{if◌then◌else◌}

-- the handle of a fork, which stands behind it
pub record Behind (p : Program) (image : Image) (ret : ℕ) (handle : Reg) (acts : List Activation) : Type 0 where
  pub first : Activation
  pub older : List Activation
  pub are : acts ≡ first ∷ older
  pub begun : 0 < first.next
  pub found : handle_behind image.forks ret ≡ Some handle
  pub few : ret + 4 < 2 ^ 32
  pub within : (24 ≤ reg_number handle) × (reg_number handle < 28)

pub behind_fork : (p : Program) (image : Image) (ret : ℕ) (handle : Reg) (acts : List Activation) → IsCodeOf Postprocessed p image → IsSized Postprocessed p → HasForked p ret handle acts → Behind p image ret handle acts
behind_fork p image ret handle [] code size is = absurd is
behind_fork p image ret handle (a ∷ older) code size is =
    let formed = formed_of p a.function is.function code.accepted is.has.named in
    let begun = behind_prologue p is.function (a.next - 1) is.item formed is.has.placed (λ prologue. absurd (subst IsPrologue is.forks prologue)) in
    let next : a.next - 1 + 1 ≡ a.next = omega (arith, begun) in
    let follows = next_address Postprocessed p a.function is.function (a.next - 1) is.item is.has in
    let there = ap (address_in Postprocessed p a.function is.function) next in
    let three = ap (item_size Postprocessed is.function) is.forks in
    let third = is.third in
    let at : ret ≡ address_in Postprocessed p a.function is.function (a.next - 1) + 8 = omega (arith, follows, there, three, third) in
    let bounds = (address_bounds Postprocessed p a.function is.function (a.next - 1) is.item size is.has).1 in
    let fits : forms.Fits p is.function (items.Fork is.g handle) = subst (forms.Fits p is.function) is.forks (formed.fits (a.next - 1) is.item is.has.placed) in
    record {
      first = a;
      older = older;
      are = refl;
      begun = omega (arith, begun);
      found = third_found p image a.function is.function (a.next - 1) is.item is.g handle ret code is.has is.forks at;
      few = omega (arith, bounds, at);
      within = between_holds 24 28 (reg_number handle) fits.1;
    }

module _ (p : Program) (d : Data) (limits : Limits) (image : Image) (input : List ℕ) (x : Automaton) (u : View) (ready : IsReady p d limits image input x u) (value : ℕ) (s : Stands (IsAtEnd p d u (ends_of x.machine) (now x u) value) x u (ends_of x.machine) []) where
  pub notes_split : x.threads.notes ≡ notes_of s.below ++ s.top.note ∷ []
  notes_split = ready.fits.holds.notes ∙ ap notes_of s.is

  pub own_is : own_note x ≡ s.top.note
  own_is = tops.top_is x.threads.notes (notes_of s.below) s.top.note notes_split

  pub cell_is : (own_note x).cell ≡ s.top.note.cell
  cell_is = ap (λ (n : Note). n.cell) own_is

  pub thread_here : HasThread u (own_note x).cell
  thread_here = (s.top, subst (λ (ts : List Known). Contains ts s.top) (sym s.is) (contains_here s.top s.below), sym cell_is)

  pub own_below : (own_note x).cell < u.cells
  own_below = ready.tidy.numbers.below (own_note x).cell (inl thread_here)

  pub a0_is : register x.machine registers.A0 ≡ value
  a0_is = s.at.3.value_is

  -- ---- it goes out

  abbrev pub notes : List Note
  notes = take (length x.threads.notes - 1) x.threads.notes

  notes_left : notes ≡ notes_of s.below
  notes_left = tops.popped_is x.threads.notes (notes_of s.below) s.top.note notes_split

  module _ (forks : List ForkRow) (seen : ℕ) (is_image : forks ≡ image.forks) (bag : HasBag (units 1) u) (few : seen ≤ u.cells) (calm : IsCalm x.phase) where
    abbrev c : ℕ
    c = (own_note x).cell

    -- the view then
    abbrev pub gone : List Known → View
    gone ks = record u { full = c ∷ u.full; filled = c ∷ u.filled; hand = views.followed (Some (waits.Touch c)) seen u.hand; threads = ks }

    leaves : (ks : List Known) → StepLeaves u (gone ks)
    leaves ks = record {
      untouched = record { number = refl; workers = refl; cells = refl; each = refl; held = refl; exported = refl; away = refl; items = refl; frame_bytes = refl; names = λ name c in'. in' };
      words = refl;
      ready = refl;
      asked = refl;
    }

    abbrev φ : Phase
    φ = phases.Ending c seen

    abbrev by_rests : (y : Automaton) (ks : List Known) → Rests p d y (gone ks) [] → ByPhase p d limits φ y (gone ks)
    by_rests y ks rests = (own_below, contains_here c u.filled, contains_here c u.full, few, (rests, record { chains = bag.chains; hand = ap (λ hand. views.followed (Some (waits.Touch c)) seen hand) bag.hand; share = bag.share; drawn = bag.drawn; child = bag.child; answering = bag.answering; given = bag.given; root = bag.root }))

    abbrev At : List Known → List (List Frame) → Type 0
    At ks rest = AtLast p u.names (is_held u.held) (ends_of x.machine) (now x u) c value ks rest

    -- below it
    module _ (k : Known) (ks : List Known) (fs : List Frame) (rest : List (List Frame)) (at : At (k ∷ ks) (fs ∷ rest)) (plain : ArePlain (k ∷ ks)) (lies : Lies x u (ends_of x.machine) (joined (fs ∷ rest))) (leases : Leases u (joined (fs ∷ rest) ++ [])) where
      small : c < 2 ^ 64
      small = let below = own_below in let most = ready.fits.holds.few_cells in omega (arith, below, most)

      goes : (ret : ℕ) × (handle : Reg) × (register x.machine registers.Ra ≡ ret + 4) × HasForked p ret handle k.thread.activations × StandsOn p u.names (is_held u.held) (ends_of x.machine) (record { state = serves.back_with handle c x.machine; word = word_in u.held }) k fs ks rest
      goes = end_goes_on p u.names (is_held u.held) (ends_of x.machine) (now x u) c value k fs ks rest ready.fits.is_for.code.accepted ready.fits.is_for.size small at

      module _ (ret : ℕ) (handle : Reg) (ra : register x.machine registers.Ra ≡ ret + 4) (forked : HasForked p ret handle k.thread.activations) (stands : StandsOn p u.names (is_held u.held) (ends_of x.machine) (record { state = serves.back_with handle c x.machine; word = word_in u.held }) k fs ks rest) where
        behind : Behind p image ret handle k.thread.activations
        behind = behind_fork p image ret handle k.thread.activations ready.fits.is_for.code ready.fits.is_for.size forked

        abbrev m : State
        m = at_place (back x.machine) (written x.machine handle c)

        back_ret : back x.machine ≡ ret + 4
        back_ret = let few = behind.few in omega (arith, ra, few)

        place : m ≡ serves.back_with handle c x.machine
        place = ap (λ (pc : ℕ). at_place pc (written x.machine handle c)) (back_ret ∙ sym ra)

        ends : ends_of m ≡ ends_of x.machine
        ends = let is = behind.within in ends_with x.machine handle c (back x.machine) (λ e. absurd (omega (arith, is, e))) (λ e. absurd (omega (arith, is, e)))

        abbrev Over : State → Situation
        Over n = record { state = n; word = word_in u.held }

        not_before : standing.Before p u.names (is_held u.held) (under p u.names (is_held u.held) k.note.cell ks rest) (Over (serves.back_with handle c x.machine)) k.thread.activations fs → ⊥
        not_before before =
            let (function, is) = subst (λ (xs : List Activation). standing.Before p u.names (is_held u.held) (under p u.names (is_held u.held) k.note.cell ks rest) (Over (serves.back_with handle c x.machine)) xs fs) behind.are before in
            let first : behind.first.next ≡ 0 = is.first in
            let begun = behind.begun in
            omega (arith, first, begun)

        behind_its : standing.Before p u.names (is_held u.held) (under p u.names (is_held u.held) k.note.cell ks rest) (Over (serves.back_with handle c x.machine)) k.thread.activations fs ⊎ standing.Behind p u.names (is_held u.held) (under p u.names (is_held u.held) k.note.cell ks rest) 0 (Over (serves.back_with handle c x.machine)) k.thread.activations fs
            → standing.Behind p u.names (is_held u.held) (under p u.names (is_held u.held) k.note.cell ks rest) 0 (Over (serves.back_with handle c x.machine)) k.thread.activations fs
        behind_its (inl before) = absurd (not_before before)
        behind_its (inr after) = after

        polls_there : AtPoll p u.names (is_held u.held) (ends_of m) (Over m) k fs ks rest
        polls_there =
            subst (λ (e : Ends). AtPoll p u.names (is_held u.held) e (Over m) k fs ks rest) (sym ends)
            (subst (λ (n : State). AtPoll p u.names (is_held u.held) (ends_of x.machine) (Over n) k fs ks rest) (sym place) (inl (stands, behind_its stands.stands)))

        polls : Polls p d (goes_to m notes φ x) (gone (k ∷ ks)) []
        polls = record {
          top = k;
          below = ks;
          is = refl;
          frames = fs;
          lower = rest;
          at = (plain k (contains_here k ks), polls_there);
          plain = λ t in'. plain t (contains_later t k ks in');
          lies = subst (λ (e : Ends). Lies (goes_to m notes φ x) (gone (k ∷ ks)) e (joined (fs ∷ rest))) (sym ends) (record { framed = lies.framed; used = lies.used; away = lies.away });
          leases = leases;
          apart = λ f g in' none. absurd (contains_none g none);
        }

        other_fits : notes ≡ notes_of (k ∷ ks) → FitsIn p d limits image input (goes_to m notes φ x) (gone (k ∷ ks))
        other_fits notes_are =
            fits_to p d limits image input x m notes φ u (gone (k ∷ ks)) (at_back_with x.machine handle c (back x.machine) small ready.fits.holds.registers ready.fits.holds.values) calm (record { none = refl; most = λ n. refl; taking = refl }) notes_are (leaves (k ∷ ks)) ready.fits
            (by_rests (goes_to m notes φ x) (k ∷ ks) (inr polls))

        -- by what the worker does
        handle_is : handle_behind forks (back x.machine - 4) ≡ Some handle
        handle_is = ap (λ (rows : List ForkRow). handle_behind rows (back x.machine - 4)) is_image ∙ ap (λ (n : ℕ). handle_behind image.forks n) (let is = back_ret in let e : back x.machine - 4 ≡ ret = omega (arith, is) in e) ∙ behind.found

        goes_is : x.machine.pc ≡ 0x20 → with_phase φ (below_goes_on forks c (popped x)) ≡ goes_to m notes φ x
        goes_is at =
            ap (λ (b : Bool). with_phase φ (if b then moved_to (back x.machine) (in_handle (handle_behind forks (back x.machine - 4)) c (popped x)) else popped x)) (eq-eqb x.machine.pc 0x20 at)
            ∙ ap (λ (o : Option Reg). with_phase φ (moved_to (back x.machine) (in_handle o c (popped x)))) handle_is

      below_fits : notes ≡ notes_of (k ∷ ks) → FitsIn p d limits image input (with_phase φ (below_goes_on forks c (popped x))) (gone (k ∷ ks))
      below_fits notes_are =
          let (ret, handle, ra, forked, stands) = goes in
          subst (λ (y : Automaton). FitsIn p d limits image input y (gone (k ∷ ks))) (sym (goes_is ret handle ra forked stands at.last.0)) (other_fits ret handle ra forked stands notes_are)

    -- nothing
    none_fits : At [] [] → Lies x u (ends_of x.machine) [] → Leases u [] → notes ≡ [] → FitsIn p d limits image input (with_phase φ (below_goes_on forks c (popped x))) (gone [])
    none_fits at lies leases notes_are =
        let pc : x.machine.pc ≡ 0x30 = at.last in
        let same : with_phase φ (below_goes_on forks c (popped x)) ≡ goes_to x.machine notes φ x =
        ap (λ (b : Bool). with_phase φ (if b then moved_to (back x.machine) (in_handle (handle_behind forks (back x.machine - 4)) c (popped x)) else popped x)) (ne_eqb x.machine.pc 0x20 (λ e. absurd (omega (arith, pc, e)))) in
        let none : HasNone (goes_to x.machine notes φ x) (gone []) [] = record { is = refl; place = omega (arith, pc); lies = record { framed = lies.framed; used = lies.used; away = lies.away }; leases = leases } in
        subst (λ (y : Automaton). FitsIn p d limits image input y (gone [])) (sym same)
        (fits_to p d limits image input x x.machine notes φ u (gone []) (same_machine x.machine ready.fits.holds.registers ready.fits.holds.values) calm (record { none = refl; most = λ n. refl; taking = refl }) notes_are (leaves []) ready.fits (by_rests (goes_to x.machine notes φ x) [] (inl none)))

    by_below : (ks : List Known) (rest : List (List Frame)) → At ks rest → ArePlain ks → Lies x u (ends_of x.machine) (joined rest) → Leases u (joined rest ++ []) → notes ≡ notes_of ks → FitsIn p d limits image input (with_phase φ (below_goes_on forks c (popped x))) (gone ks)
    by_below [] [] at plain lies leases notes_are = none_fits at lies leases notes_are
    by_below [] (fs ∷ rest) at plain lies leases notes_are = absurd at.last
    by_below (k ∷ ks) [] at plain lies leases notes_are = absurd at.last
    by_below (k ∷ ks) (fs ∷ rest) at plain lies leases notes_are = below_fits k ks fs rest at plain lies leases notes_are

    pub gone_fits : FitsIn p d limits image input (with_phase φ (below_goes_on forks c (popped x))) (gone s.below)
    gone_fits =
        let no_frames : joined (s.frames ∷ s.lower) ≡ joined s.lower = ap (λ (fs : List Frame). joined (fs ∷ s.lower)) s.at.1 in
        by_below s.below s.lower (subst (λ (k : ℕ). AtLast p u.names (is_held u.held) (ends_of x.machine) (now x u) k value s.below s.lower) (sym cell_is) s.at.3) s.plain (subst (λ (fs : List Frame). Lies x u (ends_of x.machine) fs) no_frames s.lies)
        (subst (λ (fs : List Frame). Leases u (fs ++ [])) no_frames s.leases) notes_left
