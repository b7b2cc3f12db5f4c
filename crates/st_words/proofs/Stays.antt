-- What a step of a plain board leaves: board_sized, that its sizes stay, and board_made, which is all that a method ensures. Both take what a
-- method has: the equation of each part after the step.
use Rattle.std.proofs.Common.{◌≡◌, ◌≢◌, ℕ, ◌<◌, Bool, true, false, List, length, Option, Some, None, refl, sym, ap, ◌∙◌, subst, slice_set, length-set, ◌==◌, ◌&&◌}
use Rattle.st_base.specs.declared.chain.Chain.{Chain}
use Rattle.st_words.specs.declared.view.CellWord.{CellWord}
use Rattle.st_words.specs.declared.view.CellWord.TheVariants.{Owner, State, Value, Next, Standing, Trap}
use Rattle.st_words.specs.declared.view.Slot.{Slot}
use Rattle.st_words.specs.declared.view.Slot.TheVariants.{Cell, Mail}
use Rattle.st_words.specs.declared.view.Cargo.{Cargo}
use Rattle.st_words.specs.declared.view.View.{View}
use Rattle.st_words.specs.declared.words.Words.{Words}
use Rattle.st_words.specs.Encodings.{ready}
use Rattle.st_words.specs.Steps.{Step, StackStore, Mark, CellStore, CellChange, Draw, ActiveAdd, StopSet, RootTake, RequestChange, MailStore, OutStore, SlotTake, SlotPut, Answer, Number, Asks}
use Rattle.st_words.specs.Views.{Does, IsFree, in_hand, no_cargo}
use Rattle.st_words.specs.Plain.{Cargoes, view_at, words_after, cargoes_after, views_after, changed, with_cell, with_slot, with_cargo, ready_cargo, Exact, Left}
use Rattle.st_words.specs.Sizes.{SizedWords, SizedViews, Sized}
use Rattle.st_words.specs.Made.{StepMade}
use Rattle.st_words.specs.declared.plain.PlainBoard.{PlainBoard}
use Rattle.st_words.proofs.Sizes.{SameSizes, sized_moved, asked_sizes, moved_here, moved_other}

-- the words have as many of each kind
abbrev SameWords : Words → Words → Type 0
SameWords x y =
    (length y.stack ≡ length x.stack) × (length y.owners ≡ length x.owners) × (length y.states ≡ length x.states) × (length y.values ≡ length x.values) × (length y.nexts ≡ length x.nexts) × (length y.standings ≡ length x.standings) × (length y.traps ≡ length x.traps) × (length y.requests ≡ length x.requests) × (length y.mail ≡ length x.mail) × (length y.out ≡ length x.out) × (length y.cell_slots ≡ length x.cell_slots) × (length y.mail_slots ≡ length x.mail_slots)

abbrev itself : (x : Words) → SameWords x x
itself x = (refl, refl, refl, refl, refl, refl, refl, refl, refl, refl, refl, refl)

changed_length : (b : Bool) (at new : ℕ) (words : List ℕ) → length (changed b at new words) ≡ length words
changed_length true at new words = length-set words at new
changed_length false at new words = refl

same_cell : (x : Words) (c : ℕ) (word : CellWord) (n : ℕ) → SameWords x (with_cell x c word n)
same_cell x c Owner n = (refl, length-set x.owners c n, refl, refl, refl, refl, refl, refl, refl, refl, refl, refl)
same_cell x c State n = (refl, refl, length-set x.states c n, refl, refl, refl, refl, refl, refl, refl, refl, refl)
same_cell x c Value n = (refl, refl, refl, length-set x.values c n, refl, refl, refl, refl, refl, refl, refl, refl)
same_cell x c Next n = (refl, refl, refl, refl, length-set x.nexts c n, refl, refl, refl, refl, refl, refl, refl)
same_cell x c Standing n = (refl, refl, refl, refl, refl, length-set x.standings c n, refl, refl, refl, refl, refl, refl)
same_cell x c Trap n = (refl, refl, refl, refl, refl, refl, length-set x.traps c n, refl, refl, refl, refl, refl)

same_slot : (x : Words) (slot : Slot) (chain : Option Chain) → SameWords x (with_slot x slot chain)
same_slot x (Cell c) chain = (refl, refl, refl, refl, refl, refl, refl, refl, refl, refl, length-set x.cell_slots c chain, refl)
same_slot x (Mail at) chain = (refl, refl, refl, refl, refl, refl, refl, refl, refl, refl, refl, length-set x.mail_slots at chain)

same_words : (x : Words) (w : ℕ) (s : Step) (a : Answer) → SameWords x (words_after x w s a)
unfolding words_after
same_words x w (StackStore p n) a = (length-set x.stack p n, refl, refl, refl, refl, refl, refl, refl, refl, refl, refl, refl)
same_words x w (Mark p) a = (length-set x.stack p 0, refl, refl, refl, refl, refl, refl, refl, refl, refl, refl, refl)
same_words x w (CellStore c word n) a = same_cell x c word n
same_words x w (CellChange c old new) (Number n) = (refl, refl, changed_length (n == old) c new x.states, refl, refl, refl, refl, refl, refl, refl, refl, refl)
same_words x w Draw a = itself x
same_words x w (ActiveAdd up) a = itself x
same_words x w (StopSet code) (Number n) = itself x
same_words x w RootTake a = itself x
same_words x w (RequestChange at old new) (Number n) = (refl, refl, refl, refl, refl, refl, refl, changed_length (n == old) at new x.requests, refl, refl, refl, refl)
same_words x w (MailStore at n) a = (refl, refl, refl, refl, refl, refl, refl, refl, length-set x.mail at n, refl, refl, refl)
same_words x w (OutStore i n) a = (refl, refl, refl, refl, refl, refl, refl, refl, refl, length-set x.out i n, refl, refl)
same_words x w (SlotTake slot) a = same_slot x slot None
same_words x w (SlotPut slot chain cargo) a = same_slot x slot (Some chain)
same_words x w _ a = itself x

sized_words : (x y : Words) (crew : ℕ) → SizedWords x crew → SameWords x y → SizedWords y crew
sized_words x y crew r s = record {
  states = s.2 ∙ r.states ∙ sym s.1;
  values = s.3 ∙ r.values ∙ sym s.1;
  nexts = s.4 ∙ r.nexts ∙ sym s.1;
  standings = s.5 ∙ r.standings ∙ sym s.1;
  traps = s.6 ∙ r.traps ∙ sym s.1;
  cell_slots = s.10 ∙ r.cell_slots ∙ sym s.1;
  requests = s.7 ∙ r.requests;
  mail = s.8 ∙ r.mail;
  mail_slots = s.11 ∙ r.mail_slots;
  out = s.9 ∙ r.out;
}

-- ---- what goes with the chains

abbrev SameCargoes : Cargoes → Cargoes → Type 0
SameCargoes ls ms = (length ms.cells ≡ length ls.cells) × (length ms.mail ≡ length ls.mail)

same_cargo : (ls : Cargoes) (slot : Slot) (cargo : Cargo) → SameCargoes ls (with_cargo ls slot cargo)
same_cargo ls (Cell c) cargo = (length-set ls.cells c cargo, refl)
same_cargo ls (Mail at) cargo = (refl, length-set ls.mail at cargo)

same_ready : (b : Bool) (c : ℕ) (ls : Cargoes) → SameCargoes ls (ready_cargo b c ls)
same_ready true c ls = same_cargo ls (Cell c) _
same_ready false c ls = (refl, refl)

same_stored : (v : View) (ls : Cargoes) (c : ℕ) (word : CellWord) (n : ℕ) → SameCargoes ls (cargoes_after v ls (CellStore c word n))
same_stored v ls c Owner n = (refl, refl)
same_stored v ls c State n = (refl, refl)
same_stored v ls c Value n = (refl, refl)
same_stored v ls c Next n = (refl, refl)
same_stored v ls c Standing n = same_ready ((n == ready) && in_hand c v.hand) c ls
same_stored v ls c Trap n = (refl, refl)

same_cargoes : (v : View) (ls : Cargoes) (s : Step) → SameCargoes ls (cargoes_after v ls s)
same_cargoes v ls (CellStore c word n) = same_stored v ls c word n
same_cargoes v ls (SlotTake slot) = same_cargo ls slot no_cargo
same_cargoes v ls (SlotPut slot chain cargo) = same_cargo ls slot cargo
same_cargoes v ls _ = (refl, refl)

-- ---- both

stays_sized : (x y : Words) (ls ms : Cargoes) (vs : List View) (w : ℕ) (v : View) → Sized x ls vs → w < length vs → SameSizes (view_at vs w) v → SameWords x y → SameCargoes ls ms → Sized y ms (slice_set vs w v)
stays_sized x y ls ms vs w v r l same s t =
    let long : length (slice_set vs w v) ≡ length vs = length-set vs w v in
    let all : SizedViews (slice_set vs w v) (length x.owners) (length x.stack) = sized_moved vs (length x.owners) (length x.stack) w v r.views l same in
    record {
      words = subst (λ (n : ℕ). SizedWords y n) (sym long) (sized_words x y (length vs) r.words s);
      cargoes = record { cells = t.0 ∙ r.cargoes.cells ∙ sym s.1; mail = t.1 ∙ r.cargoes.mail ∙ sym long };
      views = subst (λ (n : ℕ). SizedViews (slice_set vs w v) n (length y.stack)) (sym s.1) (subst (λ (n : ℕ). SizedViews (slice_set vs w v) (length x.owners) n) (sym s.0) all);
    }

pub board_sized : (x y : Words) (ls ms : Cargoes) (vs us : List View) (w : ℕ) (s : Step) (a : Answer) (says : Step → Answer → Type 0) (after : View → Step → Answer → View) → Sized x ls vs → w < length vs → Asks says IsFree Does after (view_at vs w) s → says s a → y ≡ words_after x w s a → ms ≡ cargoes_after (view_at vs w) ls s → us ≡ views_after after vs w s a → Sized y ms us
board_sized x y ls ms vs us w s a says after r l may said ey em eu =
    let v : View = after (view_at vs w) s a in
    subst (λ (z : List View). Sized y ms z) (sym eu) (stays_sized x y ls ms vs w v r l (asked_sizes says after (view_at vs w) s a may said)
    (subst (λ (z : Words). SameWords x z) (sym ey) (same_words x w s a)) (subst (λ (z : Cargoes). SameCargoes ls z) (sym em) (same_cargoes (view_at vs w) ls s)))

-- the views after the step: the worker's is the one that was named, and the others stay
view_there : (vs us : List View) (w : ℕ) (s : Step) (a : Answer) (after : View → Step → Answer → View) → w < length vs → us ≡ views_after after vs w s a → view_at us w ≡ after (view_at vs w) s a
view_there vs us w s a after l e = subst (λ (z : List View). view_at z w ≡ after (view_at vs w) s a) (sym e) (moved_here vs w (after (view_at vs w) s a) l)

serves_still : (vs us : List View) (w x : ℕ) (s : Step) (a : Answer) (after : View → Step → Answer → View) → x < length vs → us ≡ views_after after vs w s a → x < length us
serves_still vs us w x s a after l e = subst (λ (n : ℕ). x < n) (sym (ap length e ∙ length-set vs w (after (view_at vs w) s a))) l

other_there : (vs us : List View) (w x : ℕ) (s : Step) (a : Answer) (after : View → Step → Answer → View) → x ≢ w → us ≡ views_after after vs w s a → view_at us x ≡ view_at vs x
other_there vs us w x s a after n e = subst (λ (z : List View). view_at z x ≡ view_at vs x) (sym e) (moved_other vs w x (after (view_at vs w) s a) n)

pub board_made : (after : View → Step → Answer → View) (old new : PlainBoard) (w : ℕ) (s : Step) (a : Answer) → w < length old.kept.views → Exact old.words old.kept.cargoes w s a → new.words ≡ words_after old.words w s a → new.kept.cargoes ≡ cargoes_after (view_at old.kept.views w) old.kept.cargoes s → new.kept.views ≡ views_after after old.kept.views w s a →
    StepMade (λ (b : PlainBoard) (w : ℕ). view_at b.kept.views w) (λ (b : PlainBoard) (w : ℕ). w < length b.kept.views) (λ (b : PlainBoard) (w : ℕ) (s : Step) (a : Answer). Exact b.words b.kept.cargoes w s a) (λ (b : PlainBoard) (w : ℕ) (s : Step) (a : Answer) (c : PlainBoard). Left b.words b.kept.cargoes b.kept.views w s a c.words c.kept.cargoes c.kept.views) after old w s a new
board_made after old new w s a l said ey em eu = record {
  said = said;
  did = record { words = ey; cargoes = em; workers = ap length eu ∙ length-set old.kept.views w (after (view_at old.kept.views w) s a) };
  view = view_there old.kept.views new.kept.views w s a after l eu;
  serves = serves_still old.kept.views new.kept.views w w s a after l eu;
  others = λ other n served. (serves_still old.kept.views new.kept.views w other s a after served eu, other_there old.kept.views new.kept.views w other s a after n eu);
}
