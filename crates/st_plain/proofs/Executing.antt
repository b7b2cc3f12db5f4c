-- One instruction on the machine over a plain board whose words are all held: it may be asked where it goes somewhere (may_execute), and
-- then goes there (executes).
use Rattle.std.proofs.Common.{◌≡◌, ◌≢◌, ℕ, ◌/◌, ◌<◌, ◌==◌, nat_lt, Bool, true, false, List, [], length, inl, inr, Some, slice_index, slice_set, refl, ap, ◌∙◌, sym, subst, arith, if◌then◌else◌}
use Rattle.std.proofs.lemmas.Bool.{ltb-true}
use Rattle.std.proofs.Math.Bridge.{le_prop}
use Rattle.st_rv.proofs.Apart.{equal_true as same_true, true_equal}
use Rattle.st_words.proofs.Marks.{mark_laws}
use Rattle.st_words.proofs.Lists.{contains_none}
use Rattle.std.specs.List.{Contains}
use Rattle.std.proofs.Math.Path.{fun_ext}
use Rattle.std.proofs.lemmas.List.{length-set, get_or-set_other}
use Rattle.std.proofs.lemmas.Grind.{get_or-set_at}
use Rattle.std.proofs.lemmas.Option.{get_or_from_slice_get}
use Rattle.st_base.specs.declared.chain.Frame.{Frame}
use Rattle.st_words.specs.declared.plain.PlainBoard.{PlainBoard}
use Rattle.st_words.specs.declared.view.View.{View}
use Rattle.st_words.specs.Laws.{named, progress_of}
use Rattle.st_words.specs.Plain.{Exact, Left, view_at, words_after}
use Rattle.st_words.specs.Made.{Asked, StepMade}
use Rattle.st_words.specs.Steps.{Step, StackLoad, StackStore, Mark, Answer, Done, Number, Can, Holds, IsLeased}
use Rattle.st_words.specs.Views.{Does, IsFree, view_after, without_returning}
use Rattle.st_words.proofs.Naming.{plain_asks, store_laws}
use Rattle.st_step.specs.declared.state.State.{State as MachineState}
use Rattle.st_step.specs.declared.machine.StepEnd.{StepEnd}
use Rattle.st_step.specs.declared.machine.StepEnd.TheVariants.{Ran}
use Rattle.st_step.specs.Moves.{Move, Goes, Reads, Writes, Marks, Stops, Outside, MayMove, Moves}
use Rattle.st_step.specs.Runs.{Situation, moved, where_held, stored}
use Rattle.st_plain.specs.Running.{HasBoard}
use Rattle.st_plain.specs.Standing.{on_stack, situation}

-- the view that the run names after a step
abbrev pub after : View → Step → Answer → View
after v s a = named (progress_of v) v s a

abbrev pub view_of : PlainBoard → View
view_of board = view_at board.kept.views 0

-- the members of the board, of any worker
abbrev view_on : PlainBoard → ℕ → View
view_on board w = view_at board.kept.views w

abbrev serves_on : PlainBoard → ℕ → Type 0
serves_on board w = w < length board.kept.views

abbrev says_on : PlainBoard → ℕ → Step → Answer → Type 0
says_on board w s a = Exact board.words board.kept.cargoes w s a

abbrev did_on : PlainBoard → ℕ → Step → Answer → PlainBoard → Type 0
did_on board w s a new = Left board.words board.kept.cargoes board.kept.views w s a new.words new.kept.cargoes new.kept.views

-- what the one worker asks of a step
abbrev pub AskedOf : PlainBoard → Step → Type 0
AskedOf board s = Asked {Board = PlainBoard} view_on serves_on says_on (λ b. IsFree) (λ b. Does) after board 0 s

-- and what the step leaves
abbrev pub MadeOf : PlainBoard → Step → Answer → PlainBoard → Type 0
MadeOf board s a new = StepMade {Board = PlainBoard} view_on serves_on says_on did_on after board 0 s a new

held_there : (held : Bool) (s t : Situation) → where_held held s ≡ Some t → held ≡ true
held_there true s t e = refl
held_there false s t e = cc

goes_there : (held : Bool) (s t : Situation) → where_held held s ≡ Some t → s ≡ t
goes_there true s t e = cc
goes_there false s t e = cc

within : (n p : ℕ) → nat_lt p n ≡ true → p < n
within n p e = ltb-true p n e

-- the move speaks of words among so many, or stops
abbrev pub SpeaksWithin : ℕ → Move → Type 0
SpeaksWithin n (Goes m) = Unit {0}
SpeaksWithin n (Reads p go) = p < n
SpeaksWithin n (Writes p v m) = p < n
SpeaksWithin n (Marks p m) = p < n
SpeaksWithin n (Stops end) = Unit {0}
SpeaksWithin n Outside = ⊥

pub speaks_prop : (n : ℕ) (move : Move) → IsProp (SpeaksWithin n move)
speaks_prop n (Goes m) = λ x y. refl
speaks_prop n (Reads p go) = le_prop
speaks_prop n (Writes p v m) = le_prop
speaks_prop n (Marks p m) = le_prop
speaks_prop n (Stops end) = λ x y. refl
speaks_prop n Outside = λ x y. absurd x

-- where the move goes somewhere
pub speaks_within : (n : ℕ) (s t : Situation) (move : Move) → moved (λ q. nat_lt q n) s move ≡ Some t → SpeaksWithin n move
speaks_within n s t (Goes m) e = tt
speaks_within n s t (Reads p go) e = within n p (held_there _ _ t e)
speaks_within n s t (Writes p v m) e = within n p (held_there _ _ t e)
speaks_within n s t (Marks p m) e = within n p (held_there _ _ t e)
speaks_within n s t (Stops end) e = cc
speaks_within n s t Outside e = cc

may_ask : (board : PlainBoard) (s : Step) → HasBoard board → Can (view_of board) s → AskedOf board s
may_ask board s has can = let one = has.one in record { serves = omega arith; may = plain_asks (says_on board 0) (view_of board) s can }

pub may_execute : (board : PlainBoard) (move : Move) → HasBoard board → SpeaksWithin (length board.words.stack) move → MayMove (AskedOf board) move
may_execute board (Goes m) has within_it = tt
may_execute board (Reads p go) has within_it = may_ask board (StackLoad p) has (has.holds p within_it)
may_execute board (Writes p n m) has within_it = may_ask board (StackStore p n) has (has.holds p within_it)
may_execute board (Marks p m) has within_it = may_ask board (Mark p) has (has.holds p within_it)
may_execute board (Stops end) has within_it = tt
may_execute board Outside has within_it = absurd within_it

-- ---- what it leaves of the board

board_left : (board new : PlainBoard) (v : View) → length new.kept.views ≡ length board.kept.views → HasBoard board → view_of new ≡ v → ((q : ℕ) → q < length new.words.stack → Holds v q) → v.exported ≡ [] → v.away ≡ [] → HasBoard new
board_left board new v workers has view holds exported away = record {
  one = workers ∙ has.one;
  holds = λ q few. subst (λ (w : View). Holds w q) (sym view) (holds q few);
  none_exported = ap (λ (w : View). w.exported) view ∙ exported;
  none_away = ap (λ (w : View). w.away) view ∙ away;
}

-- after a load
loaded_view : (v : View) (p n : ℕ) → after v (StackLoad p) (Number n) ≡ v
unfolding view_after
loaded_view v p n = refl

loaded_words : (board : PlainBoard) (p n : ℕ) → words_after board.words 0 (StackLoad p) (Number n) ≡ board.words
unfolding words_after
loaded_words board p n = refl

-- after a store
stored_there : (v : View) (p n q : ℕ) (same : Bool) → (q == p) ≡ same → Holds v q → Holds (after v (StackStore p n) Done) q
stored_there v p n q true e here =
    let there : Holds v p = subst (λ (k : ℕ). Holds v k) (same_true q p e) here in
    subst (λ (k : ℕ). Holds (after v (StackStore p n) Done) k) (sym (same_true q p e)) (n, store_laws.reads v p n there)
stored_there v p n q false e here =
    let apart : q ≢ p = (λ f. let g = true_equal q p f in cc) in
    (here.0, store_laws.others v p q n apart ∙ here.1)

store_frames : (v : View) (p n : ℕ) → ((after v (StackStore p n) Done).exported ≡ v.exported) × ((after v (StackStore p n) Done).away ≡ v.away)
unfolding view_after
store_frames v p n = (refl, refl)

stored_stack : (board : PlainBoard) (p n : ℕ) → (words_after board.words 0 (StackStore p n) Done).stack ≡ slice_set board.words.stack p n
unfolding words_after
stored_stack board p n = refl

-- after a mark
marked_stack : (board : PlainBoard) (p : ℕ) → (words_after board.words 0 (Mark p) Done).stack ≡ slice_set board.words.stack p 0
unfolding words_after
marked_stack board p = refl

-- no frame is leased
none_leased : (v : View) (f : Frame) → v.exported ≡ [] → v.away ≡ [] → IsLeased v f → ⊥
none_leased v f exported away (inl is) = contains_none f (subst (λ (fs : List Frame). Contains fs f) exported is)
none_leased v f exported away (inr is) = contains_none f (subst (λ (fs : List Frame). Contains fs f) away is)

marked_there : (v : View) (p q : ℕ) (same : Bool) → (q == p) ≡ same → v.exported ≡ [] → v.away ≡ [] → Holds v q → Holds (after v (Mark p) Done) q
marked_there v p q true e exported away here =
    let there : Holds v p = subst (λ (k : ℕ). Holds v k) (same_true q p e) here in
    subst (λ (k : ℕ). Holds (after v (Mark p) Done) k) (sym (same_true q p e)) (0, mark_laws.zero_there v p there (λ f leased. absurd (none_leased v f exported away leased)))
marked_there v p q false e exported away here =
    let apart : q ≢ p = (λ f. let g = true_equal q p f in cc) in
    (here.0, mark_laws.zero_others v p q (λ f leased. absurd (none_leased v f exported away leased)) apart ∙ here.1)

mark_away : (v : View) (p : ℕ) → v.away ≡ [] → (after v (Mark p) Done).away ≡ []
unfolding view_after
mark_away v p away = ap (λ (fs : List Frame). without_returning p fs) away

-- ---- what a move leaves

abbrev pub MovesOf : PlainBoard → MachineState → Move → StepEnd → MachineState → PlainBoard → Type 0
MovesOf board m move end m' new = Moves {Board = PlainBoard} (MadeOf board) board m move end m' new

pub keeps_board : (board new : PlainBoard) (m m' : MachineState) (move : Move) (end : StepEnd) → HasBoard board → MovesOf board m move end m' new → HasBoard new
keeps_board board new m m' (Goes next) end has moves = subst HasBoard (sym moves.2) has
keeps_board board new m m' (Reads p go) end has moves =
    let n = moves.1.0 in
    let did = moves.1.1.did in
    let view = moves.1.1.view ∙ loaded_view (view_of board) p n in
    let long : length new.words.stack ≡ length board.words.stack = ap (λ x. length x.stack) (did.words ∙ loaded_words board p n) in
    board_left board new (view_of board) did.workers has view (λ q few. has.holds q (omega (arith, few, long))) has.none_exported has.none_away
keeps_board board new m m' (Writes p n next) end has moves =
    let did = moves.2.did in
    let v = view_of board in
    let long : length new.words.stack ≡ length board.words.stack = ap (λ x. length x.stack) did.words ∙ ap length (stored_stack board p n) ∙ length-set board.words.stack p n in
    board_left board new (after v (StackStore p n) Done) did.workers has moves.2.view (λ q few. stored_there v p n q (q == p) refl (has.holds q (omega (arith, few, long)))) ((store_frames v p n).0 ∙ has.none_exported) ((store_frames v p n).1 ∙ has.none_away)
keeps_board board new m m' (Marks p next) end has moves =
    let did = moves.2.did in
    let v = view_of board in
    let long : length new.words.stack ≡ length board.words.stack = ap (λ x. length x.stack) did.words ∙ ap length (marked_stack board p) ∙ length-set board.words.stack p 0 in
    board_left board new (after v (Mark p) Done) did.workers has moves.2.view (λ q few. marked_there v p q (q == p) refl has.none_exported has.none_away (has.holds q (omega (arith, few, long)))) (mark_laws.exported v p ∙ has.none_exported) (mark_away v p has.none_away)
keeps_board board new m m' (Stops e) end has moves = subst HasBoard (sym moves.2) has
keeps_board board new m m' Outside end has moves = absurd moves

-- there are as many words as before
pub keeps_long : (board new : PlainBoard) (m m' : MachineState) (move : Move) (end : StepEnd) → MovesOf board m move end m' new → length new.words.stack ≡ length board.words.stack
keeps_long board new m m' (Goes next) end moves = ap (λ (b : PlainBoard). length b.words.stack) moves.2
keeps_long board new m m' (Reads p go) end moves = ap (λ x. length x.stack) (moves.1.1.did.words ∙ loaded_words board p moves.1.0)
keeps_long board new m m' (Writes p n next) end moves = ap (λ x. length x.stack) moves.2.did.words ∙ ap length (stored_stack board p n) ∙ length-set board.words.stack p n
keeps_long board new m m' (Marks p next) end moves = ap (λ x. length x.stack) moves.2.did.words ∙ ap length (marked_stack board p) ∙ length-set board.words.stack p 0
keeps_long board new m m' (Stops e) end moves = ap (λ (b : PlainBoard). length b.words.stack) moves.2
keeps_long board new m m' Outside end moves = absurd moves

-- the words after a store
stored_are : (words : List ℕ) (p n q : ℕ) (same : Bool) → (q == p) ≡ same → p < length words → (if same then n else slice_index words q) ≡ slice_index (slice_set words p n) q
stored_are words p n q true e inside = sym (get_or-set_at words p q n 0 (same_true q p e) inside)
stored_are words p n q false e inside =
    let apart : q ≢ p = (λ f. let g = true_equal q p f in cc) in
    sym (get_or-set_other words p q n 0 apart)

-- the situation to which a move leads
pub executes : (board new : PlainBoard) (m m' : MachineState) (move : Move) (end : StepEnd) (t : Situation) (stack : ℕ) → length board.words.stack ≡ stack / 8 → moved (on_stack stack) (situation m board.words.stack) move ≡ Some t → MovesOf board m move end m' new
    → (end ≡ Ran) × (situation m' new.words.stack ≡ t)
executes board new m m' (Goes next) end t stack long e moves =
    let f : situation next board.words.stack ≡ t = cc in
    (moves.0, ap (λ (b : PlainBoard). situation m' b.words.stack) moves.2 ∙ ap (λ (k : MachineState). situation k board.words.stack) moves.1 ∙ f)
executes board new m m' (Reads p go) end t stack long e moves =
    let n = moves.1.0 in
    let did = moves.1.1.did in
    let f = goes_there _ _ t e in
    let word : slice_index board.words.stack p ≡ n = get_or_from_slice_get board.words.stack p n 0 moves.1.1.said in
    (moves.0, ap (λ x. situation m' x.stack) (did.words ∙ loaded_words board p n) ∙ ap (λ (k : MachineState). situation k board.words.stack) (moves.1.2 ∙ ap go (sym word)) ∙ f)
executes board new m m' (Writes p n next) end t stack long e moves =
    let did = moves.2.did in
    let f = goes_there _ _ t e in
    let inside : p < length board.words.stack = (let g = within _ p (held_there _ _ t e) in omega (arith, g, long)) in
    let words : (λ q. slice_index (slice_set board.words.stack p n) q) ≡ stored p n (λ q. slice_index board.words.stack q) = fun_ext (λ q. sym (stored_are board.words.stack p n q (q == p) refl inside)) in
    (moves.0, ap (λ (x : List ℕ). situation m' x) (ap (λ x. x.stack) did.words ∙ stored_stack board p n) ∙ ap (λ (k : MachineState). situation k (slice_set board.words.stack p n)) moves.1 ∙ ap (λ (w : ℕ → ℕ). record { state = next; word = w }) words ∙ f)
executes board new m m' (Marks p next) end t stack long e moves =
    let did = moves.2.did in
    let f = goes_there _ _ t e in
    let inside : p < length board.words.stack = (let g = within _ p (held_there _ _ t e) in omega (arith, g, long)) in
    let words : (λ q. slice_index (slice_set board.words.stack p 0) q) ≡ stored p 0 (λ q. slice_index board.words.stack q) = fun_ext (λ q. sym (stored_are board.words.stack p 0 q (q == p) refl inside)) in
    (moves.0, ap (λ (x : List ℕ). situation m' x) (ap (λ x. x.stack) did.words ∙ marked_stack board p) ∙ ap (λ (k : MachineState). situation k (slice_set board.words.stack p 0)) moves.1 ∙ ap (λ (w : ℕ → ℕ). record { state = next; word = w }) words ∙ f)
executes board new m m' (Stops e') end t stack long e moves = cc
executes board new m m' Outside end t stack long e moves = absurd moves

-- a stop changes nothing
pub stops : (board new : PlainBoard) (m m' : MachineState) (move : Move) (end e : StepEnd) → move ≡ Stops e → MovesOf board m move end m' new → (end ≡ e) × (m' ≡ m) × (new ≡ board)
stops board new m m' move end e is moves = subst (λ (k : Move). MovesOf board m k end m' new) is moves
