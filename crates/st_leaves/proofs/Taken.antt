-- The frames of a thread that leaves: can_export (each on the worker's stack may be exported), exported_apart (those that are exported once it is taken overlap no other), and all_may (so they may be exported, one behind
-- the other).
use Rattle.std.proofs.Common.{◌≡◌, ◌≢◌, ◌⊎◌, inl, inr, ⊎_elim, ℕ, suc, ◌+◌, ◌*◌, Bool, true, false, ◌&&◌, ◌||◌, ◌==◌, if◌then◌else◌, List, [], ◌∷◌, ◌++◌, Option, Some, None, refl, sym, ap, ◌∙◌, subst, arith, eq-eqb}
use Rattle.std.specs.List.{Contains}
use Rattle.st_base.specs.declared.chain.Frame.{Frame}
use Rattle.st_base.specs.declared.chain.Note.{Note}
use Rattle.st_base.specs.declared.chain.Waiting.{Waiting}
use Rattle.st_base.specs.declared.image.Image.{Image}
use Rattle.st_base.specs.declared.limits.Limits.{Limits}
use Rattle.st_model.specs.declared.code.Layout.TheVariants.{Postprocessed}
use Rattle.st_model.specs.declared.program.Program.{Program}
use Rattle.st_model.specs.Accepted.{IsAccepted}
use Rattle.st_model.specs.Memory.{Data}
use Rattle.st_words.proofs.Lists.{contains_case, contains_here, contains_later, contains_none}
use Rattle.st_words.specs.Moves.{exporting}
use Rattle.st_words.specs.Steps.{Inside, home_of, kept, return_place}
use Rattle.st_words.specs.Views.{is_among}
use Rattle.st_words.specs.declared.view.View.{View}
use Rattle.st_ahead.specs.NamingLaws.{AllMayExport}
use Rattle.st_step.specs.declared.state.State.{State}
use Rattle.st_items.specs.Code.{IsSized}
use Rattle.st_stack.specs.Exported.{Apart, Exports, IsFrameOn}
use Rattle.st_chain.specs.declared.walk.Walk.{Walk}
use Rattle.st_chain.specs.Seen.{joined}
use Rattle.st_chain.specs.Taking.{Suspends, Taking, beneath, frames_of}
use Rattle.st_chain.specs.Walk.{FromNewest, is_held, named_by, word_in}
use Rattle.st_framed.proofs.Lists.{apart_of}
use Rattle.st_kept.proofs.Laid.{newest_laid, return_inside}
use Rattle.st_phases.specs.declared.automaton.Automaton.{Automaton}
use Rattle.st_phases.specs.declared.phase.Leaving.{Leaving}
use Rattle.st_fits.specs.Laws.{IsReady}
use Rattle.st_fits.specs.Threads.{Leaves}
use Rattle.st_leaves.proofs.Exporting.{contains_early}
use Rattle.st_leaves.proofs.Living.{apart_words, holds_by, lives_by, newest_lives, on_own, return_same}
use Rattle.st_leaves.proofs.Unexported.{CanExport}

-- ---- where the thread stands

pub record StoodSo (t : Taking) : Type 0 where
  pub ahead : ℕ
  pub pc : ℕ
  pub fp : ℕ
  pub value : ℕ → ℕ
  pub alone : t.above_frames ≡ []
  pub newest : FromNewest t.p (named_by t.names) (is_held t.held) (beneath t t.taken.note.cell t.below t.below_frames) ahead pc fp (word_in t.held) value t.taken.thread.activations t.frames

pub stood_so : (t : Taking) (wait : Waiting) (notes : List Note) (walk : Option Walk) (m : State) (s : Exports) (n : ℕ) → Suspends t wait notes walk m s n → StoodSo t
stood_so t wait notes None m s n h = record { ahead = h.stands.0; pc = _; fp = _; value = _; alone = h.top.alone_frames; newest = h.stands.4 }
stood_so t wait notes (Some walk) m s n h = record { ahead = h.stands.0; pc = _; fp = _; value = _; alone = h.top.alone_frames; newest = h.stands.4 }

-- ---- one frame

module _ (p : Program) (d : Data) (limits : Limits) (image : Image) (input : List ℕ) (accepted : IsAccepted p) (leaving : Leaving) (x : Automaton) (u : View) (ready : IsReady p d limits image input x u) (h : Leaves p d leaving x u) where
  stood : StoodSo h.t
  stood = stood_so h.t leaving.wait x.threads.notes x.threads.open x.machine x.stack (suc h.n) h.suspends

  pub in_joined : (f : Frame) → Contains h.t.frames f → Contains (joined (frames_of h.t)) f
  in_joined f is = subst (λ (above : List (List Frame)). Contains (joined (above ++ h.t.frames ∷ h.t.below_frames)) f) (sym stood.alone) (contains_early f h.t.frames (joined h.t.below_frames) is)

  own_words : (f : Frame) → IsFrameOn h.of.start.lo h.of.start.hi f → (q : ℕ) → Inside f q → home_of u.each q ≡ u.number
  own_words f on q is =
      let holds = ready.fits.holds in
      let for = ready.fits.is_for in
      let low : h.of.start.lo ≡ 0x8000_0000 + u.number * limits.stack = h.of.lo ∙ for.lo ∙ ap (λ (k : ℕ). 0x8000_0000 + k * limits.stack) holds.number in
      let high : h.of.start.hi ≡ h.of.start.lo + limits.stack = h.of.hi ∙ for.hi ∙ ap (λ (k : ℕ). k + limits.stack) (sym for.lo ∙ sym h.of.lo) in
      on_own u.number u.each limits.stack h.of.start.lo h.of.start.hi f low high h.of.framed.stack.range holds.each on q is

  pub can_export : (f : Frame) → Contains h.t.frames f → IsFrameOn h.of.start.lo h.of.start.hi f → CanExport u f
  can_export f is on =
      let t = h.t in
      let laid = newest_laid t.p (named_by t.names) (is_held t.held) (word_in t.held) (subst IsAccepted (sym h.of.program) accepted) (beneath t t.taken.note.cell t.below t.below_frames) t.taken.thread.activations t.frames stood.ahead stood.pc stood.fp stood.value f stood.newest is in
      let above = laid.whole.above in
      let some = laid.whole.some in
      let back = return_inside f laid.whole in
      record {
        some_word = omega (arith, above, some);
        own = own_words f on;
        holds = λ q inside. subst (λ (held : List (Option ℕ)). (n : ℕ) × (kept held q ≡ Some n)) h.of.held (holds_by t.held q (laid.held q inside));
        lives =
            subst (λ (held : List (Option ℕ)). (n : ℕ) × (kept held (return_place f) ≡ Some n) × (n ≢ 0)) h.of.held
            (lives_by t.held (return_place f) (laid.held (return_place f) back)
            (λ none.
            newest_lives t.p (named_by t.names) (is_held t.held) (subst (λ (program : Program). IsSized Postprocessed program) (sym h.of.program) ready.fits.is_for.size) t.taken.note.cell t.below t.below_frames t.taken.thread.activations t.frames stood.ahead stood.pc stood.fp (word_in t.held) stood.value f stood.newest is
            (ap (word_in t.held) (return_same f laid.whole) ∙ none)));
        away = λ g q there inside within.
            let word = ready.tidy.leased.apart.some_word g (inr there) in
            let held = ready.tidy.leased.holds g (return_place g) there (omega (arith, word), omega (arith, word)) in
            let among = h.of.leases g (inr there) held in
            let other : f ≢ g = λ e. ready.behind.foreign g there (own_words g (subst (λ (k : Frame). IsFrameOn h.of.start.lo h.of.start.hi k) e on) (return_place g) (omega (arith, word), omega (arith, word))) in
            apart_words f g q (apart_of (joined (frames_of h.t)) f g h.of.framed.all_apart (in_joined f is) among other) inside within;
      }

  -- ---- two of them

  pub exported_apart : (f g : Frame) → Contains h.t.exported f → Contains h.t.exported g → f ≢ g → Apart f g
  exported_apart f g a b other = by_both (h.of.will.were f a) (h.of.will.were g b)
    where
      by_both : Contains h.of.start.exported f ⊎ (Contains h.t.frames f × IsFrameOn h.of.start.lo h.of.start.hi f) → Contains h.of.start.exported g ⊎ (Contains h.t.frames g × IsFrameOn h.of.start.lo h.of.start.hi g) → Apart f g
      by_both (inl was) (inl were) = h.of.framed.stack.apart f g was were other
      by_both (inl was) (inr come) = turned (h.of.framed.clear g f (in_joined g come.0) was (λ e. other (sym e)))
        where
          turned : Apart g f → Apart f g
          turned (inl below) = inr below
          turned (inr above) = inl above
      by_both (inr came) (inl were) = h.of.framed.clear f g (in_joined f came.0) were other
      by_both (inr came) (inr come) = apart_of (joined (frames_of h.t)) f g h.of.framed.all_apart (in_joined f came.0) (in_joined g come.0) other

-- ---- one behind the other

same_frame : (f g : Frame) → f ≡ g → ((f.low == g.low) && (f.base == g.base)) ≡ true
same_frame f g e =
    let low = eq-eqb f.low g.low (ap (λ (k : Frame). k.low) e) in
    let base = eq-eqb f.base g.base (ap (λ (k : Frame). k.base) e) in cc

pub among_true : (gs : List Frame) (f : Frame) → Contains gs f → is_among gs f ≡ true
among_true [] f is = absurd (contains_none f is)
among_true (g ∷ gs) f is = ⊎_elim (λ (e : g ≡ f). let here = same_frame g f e in cc) (λ (later : Contains gs f). or_true ((g.low == f.low) && (g.base == f.base)) (is_among gs f) (among_true gs f later)) (contains_case f g gs is)
  where
    or_true : (a b : Bool) → b ≡ true → (a || b) ≡ true
    or_true true b e = refl
    or_true false b e = e

one_more : (v : View) (b : Bool) (f g : Frame) → CanExport v g → CanExport (if b then v else exporting f v) g
one_more v true f g can = can
one_more v false f g can = record { some_word = can.some_word; own = can.own; holds = can.holds; lives = can.lives; away = can.away }

one_stays : (v : View) (b : Bool) (f g : Frame) → Contains v.exported g → Contains (if b then v else exporting f v).exported g
one_stays v true f g is = is
one_stays v false f g is = contains_later g f v.exported is

one_was : (v : View) (b : Bool) (f g : Frame) → Contains (if b then v else exporting f v).exported g → Contains v.exported g ⊎ (f ≡ g)
one_was v true f g is = inl is
one_was v false f g is = ⊎_elim (λ e. inr e) (λ was. inl was) (contains_case g f v.exported is)

-- each is exported yet, or may be; and no two overlap
pub all_may : (fs : List Frame) (v : View) → ((f : Frame) → Contains fs f → Contains v.exported f ⊎ CanExport v f) → ((f g : Frame) → Contains fs f → Contains v.exported g ⊎ Contains fs g → f ≢ g → Apart f g) → AllMayExport v fs
all_may [] v each apart = tt
all_may (f ∷ fs) v each apart = (
  λ new.
      let fresh : Contains v.exported f → ⊥ = λ was. let yes = among_true v.exported f was in let no : ⊥ = cc in no in
      ⊎_elim (λ was. absurd (fresh was))
      (λ (can : CanExport v f). record {
        some_word = can.some_word;
        own = can.own;
        holds = can.holds;
        lives = can.lives;
        apart = λ g q leased inside within.
            ⊎_elim (λ (was : Contains v.exported g). apart_words f g q (apart f g (contains_here f fs) (inl was) (λ e. fresh (subst (λ (k : Frame). Contains v.exported k) (sym e) was))) inside within) (λ (there : Contains v.away g). can.away g q there inside within) leased;
      }) (each f (contains_here f fs)),
  all_may fs (if is_among v.exported f then v else exporting f v) (λ g is. ⊎_elim (λ was. inl (one_stays v (is_among v.exported f) f g was)) (λ can. inr (one_more v (is_among v.exported f) f g can)) (each g (contains_later g f fs is)))
      (λ g k is there other. apart g k (contains_later g f fs is) (⊎_elim (λ (was : Contains (if is_among v.exported f then v else exporting f v).exported k). ⊎_elim (λ before. inl before) (λ (e : f ≡ k). inr (subst (λ (z : Frame). Contains (f ∷ fs) z) e (contains_here f fs))) (one_was v (is_among v.exported f) f k was)) (λ later. inr (contains_later k f fs later)) there) other),
)
