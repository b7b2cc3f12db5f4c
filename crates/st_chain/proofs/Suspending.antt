-- A suspension, step by step: it begins (starts), an instruction of a copy (may_go, went_on), a frame (begins), and its end with nothing below (ended) or
-- with a thread below (cut_at, forked).
use Rattle.std.proofs.Common.{◌≡◌, ◌≢◌, ◌⊎◌, inl, inr, ℕ, zero, suc, ◌+◌, ◌-◌, ◌^◌, ◌<◌, ◌≤◌, ◌==◌, ◌||◌, Bool, true, false, List, [], ◌∷◌, ◌++◌, length, Option, Some, None, is_some, slice_index, slice_set, refl, ap, sym, ◌∙◌, subst, arith, length-append, if◌then◌else◌}
use Rattle.std.proofs.lemmas.Bool.{ne_eqb, eqb-true, eqb-false, or_cases}
use Rattle.st_base.specs.declared.chain.Chain.{Chain}
use Rattle.st_base.specs.declared.chain.Frame.{Frame}
use Rattle.st_base.specs.declared.chain.Note.{Note}
use Rattle.st_base.specs.declared.chain.Waiting.{Waiting}
use Rattle.st_base.specs.declared.chain.Waiting.TheVariants as waits
use Rattle.st_base.specs.declared.image.FrameRow.{FrameRow}
use Rattle.st_base.specs.declared.image.Image.{Image}
use Rattle.st_base.specs.declared.reg.Reg.{Reg}
use Rattle.st_base.specs.declared.reg.Reg.TheVariants as registers
use Rattle.st_base.specs.Reg.{reg_number}
use Rattle.st_base.specs.declared.thread.Activation.{Activation}
use Rattle.st_base.specs.declared.thread.ActivationKind.{ActivationKind}
use Rattle.st_base.specs.declared.thread.Held.{Held}
use Rattle.st_base.specs.declared.thread.Thread.{Thread}
use Rattle.st_model.specs.declared.code.Layout.TheVariants.{Postprocessed}
use Rattle.st_model.specs.declared.program.Program.{Program}
use Rattle.st_model.specs.Accepted.{IsAccepted}
use Rattle.st_model.specs.Effect.{File}
use Rattle.st_model.specs.Flow.{between}
use Rattle.st_model.specs.Layout.{IsCodeOf}
use Rattle.st_model.proofs.Places.{between_holds, between_from}
use Rattle.st_words.specs.declared.view.Known.{Known}
use Rattle.st_words.specs.Steps.{Step, StackLoad, StackStore, Answer, Done, place_of}
use Rattle.st_step.specs.declared.state.State.{State}
use Rattle.st_step.specs.Frames.{IsHeldAs, is_kept, value_in}
use Rattle.st_step.specs.Moves.{register, written, at_place}
use Rattle.st_step.specs.Runs.{HasRegisters, AreWords, return_word}
use Rattle.st_step.proofs.Writes.{length-written}
use Rattle.st_items.specs.Body.{Context, Ends, IsOn}
use Rattle.st_items.specs.Rows.{row_behind, AreAscending}
use Rattle.st_items.proofs.Rows.{rows_ascend}
use Rattle.st_items.proofs.SavedRegisters.{not_zero, value-written_other, value-written_same}
use Rattle.st_stack.specs.Exported.{Exports, IsFrameOn, MayExport}
use Rattle.st_chain.specs.declared.walk.Place.TheVariants as places
use Rattle.st_chain.specs.declared.walk.Stage.{Stage}
use Rattle.st_chain.specs.declared.walk.Stage.TheVariants as stages
use Rattle.st_chain.specs.declared.walk.Walk.{Walk}
use Rattle.st_chain.specs.Walk.{word_in, is_held, named_by, FromNewest}
use Rattle.st_chain.specs.Threads.{AtEnd, Lower, put_value}
use Rattle.st_chain.specs.Chains.{saved_value, words_ahead, StandsOver, StandsFor}
use Rattle.st_chain.specs.Seen.{SameKept, joined, AreApart, IsCut, IsWhole}
use Rattle.st_chain.specs.Logical.{restarted, IsPopped}
use Rattle.st_chain.specs.Laws.{AllSameHeld}
use Rattle.st_chain.specs.Copying.{over, MayCopy, Loads, Copied}
use Rattle.st_chain.specs.Forks.{handle_behind}
use Rattle.st_chain.specs.Places.{place_by, place_at, place_of as walk_place, counted, begun, frame_of, Joins, saved_in, chain_at, first_walk, downward}
use Rattle.st_chain.specs.Walking.{Remaining, IsAt}
use Rattle.st_chain.specs.Taking.{Taking, notes_of, beneath, AllApart, bottom_word, WillExport, AreExported, IsRead, place_in, IsTop, CanSuspend, Suspending, Suspends, IsTaken, NextGoesOn, Cuts}
use Rattle.st_chain.proofs.Frames.{newest_same, lower_same, apart_same}
use Rattle.st_chain.proofs.Joining.{will_export, are_exported, read_more, read_all, rest_apart, split_apart, contains_left, apart_before}
use Rattle.st_chain.proofs.LawsHold.{stored_cut, still_held, decide, thread_cut, restarts}
use Rattle.st_chain.proofs.Walked.{IsThirdOf, forked_third, frame_here, end_here, fork_here, CopyBegun, copy_begun, copied, oldest, loads_map, newest_few}

-- ---- registers

-- the registers of a chain
ten : (m : State) (k : ℕ) → k < 10 → slice_index (saved_in m) (k + 1) ≡ value_in m (18 + k)
ten m zero few = refl
ten m (suc zero) few = refl
ten m (suc (suc zero)) few = refl
ten m (suc (suc (suc zero))) few = refl
ten m (suc (suc (suc (suc zero)))) few = refl
ten m (suc (suc (suc (suc (suc zero))))) few = refl
ten m (suc (suc (suc (suc (suc (suc zero)))))) few = refl
ten m (suc (suc (suc (suc (suc (suc (suc zero))))))) few = refl
ten m (suc (suc (suc (suc (suc (suc (suc (suc zero)))))))) few = refl
ten m (suc (suc (suc (suc (suc (suc (suc (suc (suc zero))))))))) few = refl
ten m (suc (suc (suc (suc (suc (suc (suc (suc (suc (suc k)))))))))) few = absurd (omega (arith, few))

saved_later : (m : State) (x : ℕ) → 18 ≤ x → x < 28 → saved_value (saved_in m) x ≡ value_in m x
saved_later m x least most =
    let place : x - 18 + 1 ≡ x - 17 = omega arith in
    let there : 18 + (x - 18) ≡ x = omega arith in
    let not_origin : (x == 0) ≡ false = ne_eqb x 0 (λ e. absurd (omega (arith, e))) in
    let not_s1 : (x == 9) ≡ false = ne_eqb x 9 (λ e. absurd (omega (arith, e))) in
    ap (λ (b : Bool). if b then 0 else (if x == 9 then slice_index (saved_in m) 0 else slice_index (saved_in m) (x - 17))) not_origin
    ∙ ap (λ (b : Bool). if b then slice_index (saved_in m) 0 else slice_index (saved_in m) (x - 17)) not_s1
    ∙ ap (slice_index (saved_in m)) (sym place) ∙ ten m (x - 18) (omega arith) ∙ ap (value_in m) there

pub saved_same : (m : State) → HasRegisters m → SameKept (value_in m) (saved_value (saved_in m))
saved_same m has x kept =
    elim (or_cases (x == 0 || x == 9) (between 18 28 x) kept) [
      | inl few ↦ elim (or_cases (x == 0) (x == 9) few) [
        | inl origin ↦ let is = eqb-true x 0 origin in subst (λ (y : ℕ). value_in m y ≡ saved_value (saved_in m) y) (sym is) has.origin
        | inr s1 ↦ let is = eqb-true x 9 s1 in subst (λ (y : ℕ). value_in m y ≡ saved_value (saved_in m) y) (sym is) refl
      ]
      | inr later ↦ let range = between_holds 18 28 x later in sym (saved_later m x range.0 range.1)
    ]

pub put_written : (m : State) (r : Reg) (n x : ℕ) → length m.registers ≡ 32 → (reg_number r == 0) ≡ false → put_value (reg_number r) n (value_in m) x ≡ value_in (written m r n) x
put_written m r n x count some = by_case (reg_number r == x) (eqb-true (reg_number r) x) (eqb-false (reg_number r) x)
  where
    by_case : (b : Bool) → (b ≡ true → reg_number r ≡ x) → (b ≡ false → reg_number r ≢ x) → (if b then n else value_in m x) ≡ value_in (written m r n) x
    by_case true same other = let is = same refl in sym (value-written_same m r n count some) ∙ ap (value_in (written m r n)) is
    by_case false same other = let not = other refl in sym (value-written_other m r n x (λ e. not (sym e)))

or_right : (c b : Bool) → b ≡ true → (c || b) ≡ true
or_right true b is = refl
or_right false b is = is

less_or : (a b : ℕ) → (a < b) ⊎ (b ≤ a)
less_or a b = grind arith

pub nine_kept : (x : ℕ) → is_kept x ≡ false → x ≢ 9
nine_kept x kept e = let at : is_kept x ≡ true = ap is_kept e in let no : ⊥ = cc in no

pub unkept_out : (x : ℕ) → is_kept x ≡ false → (x < 18) ⊎ (28 ≤ x)
unkept_out x kept = elim (less_or x 18) [ inl under ↦ inl under | inr least ↦ elim (less_or x 28) [ inl most ↦ absurd (never least most) | inr over ↦ inr over ] ]
  where
    never : 18 ≤ x → x < 28 → ⊥
    never least most = let at : is_kept x ≡ true = or_right (x == 0 || x == 9) (between 18 28 x) (between_from 18 28 x least most) in let no : ⊥ = cc in no

-- ---- machines and threads

pub on_at : (ends : Ends) (held : List (Option ℕ)) (pc : ℕ) (m : State) → IsOn ends (over held m) → IsOn ends (over held (at_place pc m))
on_at ends held pc m on = record { has_registers = record { count = on.has_registers.count; origin = on.has_registers.origin }; values = on.values; words = on.words; lo = on.lo; hi = on.hi; sp = on.sp; gp = on.gp }

pub words_few : (wait : Waiting) (ahead : ℕ) → words_ahead wait ahead → ahead ≤ 1
words_few (waits.Touch cell) ahead is = omega arith
words_few (waits.Join cell least) ahead is = omega arith
words_few waits.Trapped ahead is = is
words_few waits.Ready ahead is = omega arith
words_few waits.Start ahead is = absurd is

pub remaining_newest : (p : Program) (names : List (Held × ℕ)) (held : List (Option ℕ)) (end : Context) (ahead pc fp : ℕ) (word value : ℕ → ℕ) (acts : List Activation) (fs : List Frame) → FromNewest p (named_by names) (is_held held) end ahead pc fp word value acts fs → Remaining p (named_by names) (is_held held) end ahead pc fp word value acts fs
remaining_newest p names held end ahead pc fp word value [] fs newest = absurd newest
remaining_newest p names held end ahead pc fp word value (a ∷ older) fs newest = newest

pub some_frames : (p : Program) (names : List (Held × ℕ)) (held : List (Option ℕ)) (end : Context) (ahead pc fp : ℕ) (word value : ℕ → ℕ) (acts : List Activation) (fs : List Frame) → FromNewest p (named_by names) (is_held held) end ahead pc fp word value acts fs → fs ≢ []
some_frames p names held end ahead pc fp word value [] fs newest = absurd newest
some_frames p names held end ahead pc fp word value (a ∷ older) [] newest = absurd newest
some_frames p names held end ahead pc fp word value (a ∷ older) (f ∷ fs) newest = λ e. let no : ⊥ = cc in no

pub all_self : (held : List (Option ℕ)) (fs : List Frame) → AllSameHeld held held fs
all_self held [] = tt
all_self held (f ∷ fs) = (record { held = λ q inside here. here; words = λ q inside. refl }, all_self held fs)

-- a thread over others is read the same by the registers that a call keeps
pub over_kept : (p : Program) (accepted : IsAccepted p) (names : List (Held × ℕ)) (held : List (Option ℕ)) (cell : ℕ) (ts : List Known) (frames : List (List Frame)) (wait : Waiting) (pc fp : ℕ) (value value' : ℕ → ℕ) (thread : Thread) (fs : List Frame) → SameKept value value'
    → StandsOver p names held (Lower p (named_by names) (is_held held) cell ts frames) wait pc fp value thread fs → StandsOver p names held (Lower p (named_by names) (is_held held) cell ts frames) wait pc fp value' thread fs
over_kept p accepted names held cell ts frames wait pc fp value value' thread fs same (ahead, words, waiting, keeps, newest) = (
  ahead,
  words,
  waiting,
  (λ x name kept there. subst (λ (n : ℕ). IsHeldAs (named_by names) name n) (same x kept) (keeps x name kept there)),
  newest_same p (named_by names) (named_by names) (λ name n is. is) (is_held held) (is_held held) (word_in held) (word_in held) accepted (Lower p (named_by names) (is_held held) cell ts frames) (Lower p (named_by names) (is_held held) cell ts frames)
      (lower_same p (named_by names) (named_by names) (λ name n is. is) (is_held held) (is_held held) (word_in held) (word_in held) accepted ts frames cell (all_self held (joined frames))) thread.activations fs ahead pc fp value value' (all_self held fs) same newest,
)

-- ---- notes

pub notes_length : (us : List Known) → length (notes_of us) ≡ length us
notes_length [] = refl
notes_length (u ∷ us) = let rest = notes_length us in let all = length-append (notes_of us) (u.note ∷ []) in omega (arith, rest, all)

pub top_notes : (t : Taking) (notes : List Note) → IsTop t notes → notes ≡ notes_of t.below ++ t.taken.note ∷ []
top_notes t notes top = top.notes_are ∙ ap (λ (us : List Known). notes_of (us ++ t.taken ∷ t.below)) top.alone

last_same : (xs ys : List Note) (x y : Note) → xs ++ x ∷ [] ≡ ys ++ y ∷ [] → xs ≡ ys
last_same [] [] x y same = refl
last_same (a ∷ xs) (b ∷ ys) x y same = let first : a ≡ b = cc in let rest : xs ++ x ∷ [] ≡ ys ++ y ∷ [] = cc in (λ i. first i ∷ last_same xs ys x y rest i)
last_same [] (b ∷ []) x y same = absurd (let no : ⊥ = cc in no)
last_same [] (b ∷ c ∷ ys) x y same = absurd (let no : ⊥ = cc in no)
last_same (a ∷ []) [] x y same = absurd (let no : ⊥ = cc in no)
last_same (a ∷ c ∷ xs) [] x y same = absurd (let no : ⊥ = cc in no)

-- ---- places

not_copy : (b : Bool) (o : Option Reg) → (if b then places.End else place_by o) ≡ places.Copy → ⊥
not_copy true o is = let no : ⊥ = cc in no
not_copy false None is = let no : ⊥ = cc in no
not_copy false (Some r) is = let no : ⊥ = cc in no

module _ (image : Image) (t : Taking) (code : IsCodeOf Postprocessed t.p image) (notes : List Note) where
  abbrev Behind : Context
  Behind = beneath t t.taken.note.cell t.below t.below_frames

  abbrev At : Stage → State → List Activation → List Frame → ℕ → Type 0
  At stage m acts fs n = IsAt t.p t.d t.names t.held Behind stage m acts fs n

  -- the thread's frames and those below
  top_apart : IsTop t notes → AllApart (t.frames ++ joined t.below_frames)
  top_apart top = subst (λ (xs : List (List Frame)). AllApart (joined (xs ++ t.frames ∷ t.below_frames))) top.alone_frames top.apart

  -- ---- the first step

  pub place_few : (m : State) (s : Exports) (wait : Waiting) (n : ℕ) → CanSuspend t notes m s wait n → place_in m < 2 ^ 32
  place_few m s wait n can =
      let (ahead, words, waiting, keeps, newest) = can.stands in
      newest_few t.p t.d image code t.names t.held Behind ahead (place_in m) (register m registers.S0) (word_in t.held) (value_in m) t.taken.thread.activations t.frames (words_few wait ahead words) newest

  pub starts : (m : State) (s : Exports) (wait : Waiting) (n : ℕ) → CanSuspend t notes m s wait (suc n) → Suspending t notes (first_walk m (place_in m) t.taken.note wait (length (notes_of t.below))) m s n
  starts m s wait n can =
      let (ahead, words, waiting, keeps, newest) = can.stands in
      let steps = can.steps in
      record {
        top = can.top;
        ends = can.ends;
        machine = can.machine;
        chain = chain_at m (place_in m) t.taken.note wait;
        is_chain = refl;
        is_note = refl;
        is_cell = refl;
        is_wait = can.is_wait;
        at_place = can.at_place;
        stands = over_kept t.p code.accepted t.names t.held t.taken.note.cell t.below t.below_frames wait (place_in m) (register m registers.S0) (value_in m) (saved_value (saved_in m)) t.taken.thread t.frames (saved_same m can.machine.has_registers) can.stands;
        thread = notes_length t.below;
        acts = t.taken.thread.activations;
        fs = t.frames;
        at = (
          ahead,
          words_few wait ahead words,
          record {
            ends = can.ends;
            machine = on_at can.ends t.held (place_in m) m can.machine;
            whole = refl;
            remaining = remaining_newest t.p t.names t.held Behind ahead (place_in m) (register m registers.S0) (word_in t.held) (value_in m) t.taken.thread.activations t.frames newest;
          },
          omega arith,
        );
        read = record { before = []; parts = refl; last = λ some. absurd (some refl) };
        exports = can.exports;
      }

  -- ---- an instruction of a copy

  pub may_by : (asks : Step → Type 0) (stage : Stage) (m : State) (acts : List Activation) (fs : List Frame) (n : ℕ) → walk_place image.forks stage m.pc ≡ places.Copy → ((q : ℕ) → is_held t.held q ≡ true → asks (StackLoad q)) → At stage m acts fs n → MayCopy asks image t.d m
  may_by asks stages.Frame m acts fs n is may at = absurd (not_copy (m.pc == 0x30) (handle_behind image.forks m.pc) is)
  may_by asks (stages.Copy zero) m acts fs n is may (f, (function, (last, runs, stands, some, total))) = absurd (omega (arith, some))
  may_by asks (stages.Copy (suc left)) m acts fs n is may (f, (function, (last, runs, stands, some, total))) = record { p = t.p; code = code; held = t.held; f = f; function = function; left = left; last = last; runs = runs; may = may }

  pub may_go : (asks : Step → Type 0) (walk : Walk) (m : State) (s : Exports) (n : ℕ) → walk_place image.forks walk.stage walk.machine.pc ≡ places.Copy → ((q : ℕ) → is_held t.held q ≡ true → asks (StackLoad q)) → Suspending t notes walk m s n → MayCopy asks image t.d walk.machine
  may_go asks walk m s n is may g = may_by asks walk.stage walk.machine g.acts g.fs n is may g.at

  module _ {Board : Type 0} (made : Step → Answer → Board → Type 0) (old new : Board) where
    pub copied_by : (stage : Stage) (m m' : State) (acts : List Activation) (fs : List Frame) (n : ℕ) → walk_place image.forks stage m.pc ≡ places.Copy → Copied made old image t.d m m' new → At stage m acts fs (suc n) → Loads made old t.held new (At (counted stage) m' acts fs n)
    copied_by stages.Frame m m' acts fs n is goes at = absurd (not_copy (m.pc == 0x30) (handle_behind image.forks m.pc) is)
    copied_by (stages.Copy left) m m' acts fs n is goes at = copied t.p t.d image code t.names t.held made old new Behind left m m' acts fs n goes at

    pub went_on : (walk : Walk) (m' m : State) (s : Exports) (n : ℕ) → walk_place image.forks walk.stage walk.machine.pc ≡ places.Copy → Copied made old image t.d walk.machine m' new → Suspending t notes walk m s (suc n) → Loads made old t.held new (Suspending t notes (record walk { machine = m'; stage = counted walk.stage }) m s n)
    went_on walk m' m s n is goes g =
        loads_map made old new t.held _ _
        (λ (at : At (counted walk.stage) m' g.acts g.fs n).
        record { top = g.top; ends = g.ends; machine = g.machine; chain = g.chain; is_chain = g.is_chain; is_note = g.is_note; is_cell = g.is_cell; is_wait = g.is_wait; at_place = g.at_place; stands = g.stands; thread = g.thread; acts = g.acts; fs = g.fs; at = at; read = g.read; exports = g.exports })
        (copied_by walk.stage walk.machine m' g.acts g.fs n is goes g.at)

  -- ---- a frame

  pub record Begins (walk : Walk) (m : State) (s : Exports) (n : ℕ) : Type 0 where
    pub row : FrameRow
    pub found : row_behind image.rows walk.machine.pc ≡ Some row
    pub may : IsFrameOn s.lo s.hi (frame_of row walk.machine) → MayExport s.exported (frame_of row walk.machine)
    pub next : (s' : Exports) → Joins true s (frame_of row walk.machine) s' → Suspending t notes (begun row walk) m s' n

  begins_with : (walk : Walk) (m : State) (s : Exports) (n : ℕ) (older : List Activation) (f : Frame) (fs : List Frame) → Suspending t notes walk m s (suc n) → IsRead t.frames walk.base (f ∷ fs) → WillExport s (f ∷ fs) t.exported → AreApart f fs → CopyBegun t.p t.d image code t.names t.held Behind walk.machine older f fs n → Begins walk m s n
  begins_with walk m s n older f fs g read exports apart b =
      let base : register walk.machine registers.S0 ≡ f.base = sym (ap (λ (h : Frame). h.base) b.frame) in
      record {
        row = b.row;
        found = b.found;
        may = λ on. subst (MayExport s.exported) b.frame (exports.may f (0, omega arith, refl) (subst (IsFrameOn s.lo s.hi) (sym b.frame) on));
        next = λ s' joins.
            record {
              top = g.top;
              ends = g.ends;
              machine = g.machine;
              chain = g.chain;
              is_chain = g.is_chain;
              is_note = g.is_note;
              is_cell = g.is_cell;
              is_wait = g.is_wait;
              at_place = g.at_place;
              stands = g.stands;
              thread = g.thread;
              acts = older;
              fs = fs;
              at = subst (λ (left : ℕ). At (stages.Copy left) (at_place b.row.pure_at walk.machine) older fs n) (sym b.is_left) b.at;
              read = read_more t.frames walk.base (register walk.machine registers.S0) f fs base read;
              exports = will_export s s' f fs t.exported apart exports (subst (λ (h : Frame). Joins true s h s') (sym b.frame) joins);
            };
      }

  -- what lies below ends the thread, or has forked it
  pub not_frame : (cell : ℕ) (us : List Known) (rest : List (List Frame)) (kind : ActivationKind) (kept : File) (word value : ℕ → ℕ) (fp pc : ℕ) → place_at image.forks pc ≡ places.Frame → Lower t.p (named_by t.names) (is_held t.held) cell us rest kind kept word value fp pc → ⊥
  not_frame cell [] [] kind kept word value fp pc is (first, at) = let end = end_here t.p t.d image code t.names t.held pc at in let no : ⊥ = cc in no
  not_frame cell (u ∷ us) (fs ∷ rest) kind kept word value fp pc is (handle, forked, behind, over, newest) =
      let fork = fork_here t.p t.d image code t.names t.held pc handle (forked_third t.p t.d image code t.names t.held (Lower t.p (named_by t.names) (is_held t.held) u.note.cell us rest) word (put_value (reg_number handle) cell value) 0 (pc + 4) fp pc handle u.thread.activations fs behind newest) in
      let no : ⊥ = cc in no
  not_frame cell [] (fs ∷ rest) kind kept word value fp pc is lower = absurd lower
  not_frame cell (u ∷ us) [] kind kept word value fp pc is lower = absurd lower

  begins_by : (walk : Walk) (m : State) (s : Exports) (n : ℕ) (stage : Stage) (acts : List Activation) (fs : List Frame) → walk_place image.forks stage walk.machine.pc ≡ places.Frame → Suspending t notes walk m s (suc n) → AllApart (fs ++ joined t.below_frames) → IsRead t.frames walk.base fs → WillExport s fs t.exported → At stage walk.machine acts fs (suc n) → Begins walk m s n
  begins_by walk m s n (stages.Copy left) acts fs is g all read exports at = absurd (let no : ⊥ = cc in no)
  begins_by walk m s n stages.Frame (a ∷ older) (f ∷ fs) is g all read exports (ahead, few, stands, total) =
      let apart = split_apart f fs (joined t.below_frames) all.1 in
      begins_with walk m s n older f fs g read exports apart.0
      (copy_begun t.p t.d image code t.names t.held t.taken.note.cell t.below t.below_frames stands.ends walk.machine ahead a older f fs n few stands.machine total apart.0 apart.1 stands.remaining)
  begins_by walk m s n stages.Frame [] [] is g all read exports (ahead, few, stands, total) =
      let (kind, (kept, lower)) = stands.remaining in
      absurd (not_frame t.taken.note.cell t.below t.below_frames kind kept (word_in t.held) (value_in walk.machine) (register walk.machine registers.S0) walk.machine.pc is lower)
  begins_by walk m s n stages.Frame [] (f ∷ fs) is g all read exports (ahead, few, stands, total) = absurd stands.remaining
  begins_by walk m s n stages.Frame (a ∷ older) [] is g all read exports (ahead, few, stands, total) = absurd stands.remaining

  pub begins : (walk : Walk) (m : State) (s : Exports) (n : ℕ) → walk_place image.forks walk.stage walk.machine.pc ≡ places.Frame → Suspending t notes walk m s (suc n) → Begins walk m s n
  begins walk m s n is g = begins_by walk m s n walk.stage g.acts g.fs is g (rest_apart t.frames walk.base g.fs (joined t.below_frames) (top_apart g.top) g.read) g.read g.exports g.at

  -- ---- nothing lies below

  pub record IsEnd (walk : Walk) (s : Exports) (us : List Known) (rest : List (List Frame)) : Type 0 where
    pub none : us ≡ []
    pub none_frames : rest ≡ []
    pub exports : AreExported s t.exported

  pub ends_lower : (s : Exports) (walk : Walk) (cell : ℕ) (us : List Known) (rest : List (List Frame)) (kind : ActivationKind) (kept : File) (word value : ℕ → ℕ) (fp pc : ℕ) → place_at image.forks pc ≡ places.End → WillExport s [] t.exported → Lower t.p (named_by t.names) (is_held t.held) cell us rest kind kept word value fp pc → IsEnd walk s us rest
  ends_lower s walk cell [] [] kind kept word value fp pc is exports lower = record { none = refl; none_frames = refl; exports = are_exported s t.exported exports }
  ends_lower s walk cell (u ∷ us) (fs ∷ rest) kind kept word value fp pc is exports (handle, forked, behind, over, newest) =
      let fork = fork_here t.p t.d image code t.names t.held pc handle (forked_third t.p t.d image code t.names t.held (Lower t.p (named_by t.names) (is_held t.held) u.note.cell us rest) word (put_value (reg_number handle) cell value) 0 (pc + 4) fp pc handle u.thread.activations fs behind newest) in
      absurd (let no : ⊥ = cc in no)
  ends_lower s walk cell [] (fs ∷ rest) kind kept word value fp pc is exports lower = absurd lower
  ends_lower s walk cell (u ∷ us) [] kind kept word value fp pc is exports lower = absurd lower

  ends_by : (walk : Walk) (s : Exports) (n : ℕ) (stage : Stage) (acts : List Activation) (fs : List Frame) → walk_place image.forks stage walk.machine.pc ≡ places.End → WillExport s fs t.exported → At stage walk.machine acts fs n → IsEnd walk s t.below t.below_frames
  ends_by walk s n (stages.Copy left) acts fs is exports at = absurd (let no : ⊥ = cc in no)
  ends_by walk s n stages.Frame [] [] is exports (ahead, few, stands, total) =
      let (kind, (kept, lower)) = stands.remaining in
      ends_lower s walk t.taken.note.cell t.below t.below_frames kind kept (word_in t.held) (value_in walk.machine) (register walk.machine registers.S0) walk.machine.pc is exports lower
  ends_by walk s n stages.Frame [] (f ∷ fs) is exports (ahead, few, stands, total) = absurd stands.remaining
  ends_by walk s n stages.Frame (a ∷ older) fs is exports (ahead, few, stands, total) =
      let frame = frame_here t.p t.d image code t.names t.held Behind ahead walk.machine.pc (register walk.machine registers.S0) (word_in t.held) (value_in walk.machine) (a ∷ older) fs few stands.remaining in
      absurd (let no : ⊥ = cc in no)

  module _ {Board : Type 0} (made : Step → Answer → Board → Type 0) (old : Board) where
    cuts_none : (us : List Known) (so : List (Option ℕ) → Type 0) → us ≡ [] → so t.held → Cuts made old t us old so
    cuts_none [] so none here = (refl, here)
    cuts_none (u ∷ us) so none here = absurd (let no : ⊥ = cc in no)

    next_none : (m : State) (us : List Known) (rest : List (List Frame)) → us ≡ [] → NextGoesOn t t.held us rest m m
    next_none m [] rest none = refl
    next_none m (u ∷ us) rest none = absurd (let no : ⊥ = cc in no)

    pub ended : (walk : Walk) (chain : Chain) (m : State) (s : Exports) (n : ℕ) → walk_place image.forks walk.stage walk.machine.pc ≡ places.End → walk.chain ≡ Some chain → Suspending t notes walk m s n → Cuts made old t t.below old (λ held. IsTaken t held chain s × NextGoesOn t held t.below t.below_frames m m)
    ended walk chain m s n is has g =
        let e = ends_by walk s n walk.stage g.acts g.fs is g.exports g.at in
        let same : g.chain ≡ chain = cc (g.is_chain, has) in
        let first = subst (λ (us : List Known). StandsOver t.p t.names t.held (beneath t t.taken.note.cell us t.below_frames) g.chain.wait g.chain.pc g.chain.fp (saved_value g.chain.saved) t.taken.thread t.frames) e.none g.stands in
        let alone : StandsFor t.p t.names t.held g.chain.wait g.chain.pc g.chain.fp (saved_value g.chain.saved) t.taken.thread t.frames = subst (λ (rest : List (List Frame)). StandsOver t.p t.names t.held (beneath t t.taken.note.cell [] rest) g.chain.wait g.chain.pc g.chain.fp (saved_value g.chain.saved) t.taken.thread t.frames) e.none_frames first in
        let taken : IsTaken t t.held g.chain s = record { is_note = g.is_note; is_cell = g.is_cell; is_wait = g.is_wait; stands = alone; exported = e.exports } in
        cuts_none t.below _ e.none (subst (λ (c : Chain). IsTaken t t.held c s) same taken, next_none m t.below t.below_frames e.none)

  -- ---- a thread lies below

  -- the word that is cut, and the frame that it is of
  differs : (g : Frame) (q : ℕ) → IsWhole g → (q < place_of g.low) ⊎ (place_of g.base ≤ q) → q ≢ return_word g.base
  differs g q whole (inl under) e = let above = whole.above in let some = whole.some in let low = whole.even.low in let base = whole.even.base in absurd (omega (arith, e))
  differs g q whole (inr over) e = let above = whole.above in let some = whole.some in let low = whole.even.low in let base = whole.even.base in absurd (omega (arith, e))

  cut_words : (word word' : ℕ → ℕ) (g : Frame) → IsCut word word' g → AreWords word → (q : ℕ) → (q ≡ return_word g.base) ⊎ (q ≢ return_word g.base) → word' q < 2 ^ 64
  cut_words word word' g cut words q (inl same) = let is = ap word' same ∙ cut.cut in omega (arith, is)
  cut_words word word' g cut words q (inr other) = subst (λ (n : ℕ). n < 2 ^ 64) (cut.others q other) (words q)

  pub record IsCutAt (walk : Walk) (held' : List (Option ℕ)) : Type 0 where
    pub bottom : bottom_word t.frames ≡ return_word walk.base
    pub few : return_word walk.base < 2 ^ 32
    pub is : held' ≡ slice_set t.held (bottom_word t.frames) (Some 0x30)
    pub alone : (ahead pc fp : ℕ) (value : ℕ → ℕ) (acts : List Activation) → FromNewest t.p (named_by t.names) (is_held t.held) Behind ahead pc fp (word_in t.held) value acts t.frames → FromNewest t.p (named_by t.names) (is_held held') AtEnd ahead pc fp (word_in held') value acts t.frames
    pub below : AllSameHeld t.held held' (joined t.below_frames)
    pub beside : (xs : List Frame) → AllApart (xs ++ (t.frames ++ joined t.below_frames)) → AllSameHeld t.held held' xs
    pub words : AreWords (word_in t.held) → AreWords (word_in held')

  pub cut_by : (walk : Walk) (ahead pc fp : ℕ) (value : ℕ → ℕ) (acts : List Activation) (frames : List Frame) → t.frames ≡ frames → AllApart (frames ++ joined t.below_frames) → bottom_word t.frames ≡ return_word walk.base → FromNewest t.p (named_by t.names) (is_held t.held) Behind ahead pc fp (word_in t.held) value acts frames
      → IsCutAt walk (slice_set t.held (bottom_word t.frames) (Some 0x30))
  cut_by walk ahead pc fp value acts [] same all bottom newest = absurd (some_frames t.p t.names t.held Behind ahead pc fp (word_in t.held) value acts [] newest refl)
  cut_by walk ahead pc fp value acts (f ∷ fs) same all bottom newest =
      let o = oldest t.p t.d image code t.names t.held Behind ahead pc fp (word_in t.held) value acts f fs (joined t.below_frames) all newest in
      let word : bottom_word t.frames ≡ return_word o.g.base = ap bottom_word same ∙ o.bottom in
      let few = o.few in
      let held' = slice_set t.held (return_word o.g.base) (Some 0x30) in
      let is : held' ≡ slice_set t.held (bottom_word t.frames) (Some 0x30) = ap (λ (q : ℕ). slice_set t.held q (Some 0x30)) (sym word) in
      let cut = stored_cut t.held o.g o.there in
      let outside = apart_same (is_held t.held) (is_held held') (word_in t.held) (word_in held') o.g (joined t.below_frames) o.whole.even (λ q out. cut.others q (differs o.g q o.whole out)) (λ q here. still_held t.held (return_word o.g.base) q o.there (decide (return_word o.g.base) q) here) o.apart in
      record {
        bottom = bottom;
        few = omega (arith, few, word, bottom);
        is = refl;
        alone = λ a b c v acts' newest'.
            subst (λ (h : List (Option ℕ)). FromNewest t.p (named_by t.names) (is_held h) AtEnd a b c (word_in h) v acts' t.frames) is
            (subst (λ (gs : List Frame). FromNewest t.p (named_by t.names) (is_held held') AtEnd a b c (word_in held') v acts' gs) (sym same)
            (thread_cut t.p t.names t.held o.g f fs t.taken.note.cell t.below t.below_frames a b c v acts' code.accepted o.whole o.is o.there (subst (λ (gs : List Frame). FromNewest t.p (named_by t.names) (is_held t.held) Behind a b c (word_in t.held) v acts' gs) same newest')));
        below = subst (λ (h : List (Option ℕ)). AllSameHeld t.held h (joined t.below_frames)) is outside;
        beside = λ xs all'.
            subst (λ (h : List (Option ℕ)). AllSameHeld t.held h xs) is
            (apart_same (is_held t.held) (is_held held') (word_in t.held) (word_in held') o.g xs o.whole.even (λ q out. cut.others q (differs o.g q o.whole out)) (λ q here. still_held t.held (return_word o.g.base) q o.there (decide (return_word o.g.base) q) here)
            (apart_before o.g xs ((f ∷ fs) ++ joined t.below_frames) (subst (λ (gs : List Frame). AllApart (xs ++ (gs ++ joined t.below_frames))) same all') (contains_left (f ∷ fs) (joined t.below_frames) o.g o.inside)));
        words = λ words. subst (λ (h : List (Option ℕ)). AreWords (word_in h)) is (λ q. cut_words (word_in t.held) (word_in held') o.g cut words q (decide (return_word o.g.base) q));
      }

  -- ---- the thread below goes on

  -- behind a fork, with the frame pointer and the registers that a call keeps, of which the fork's has the cell
  pub record IsResumed (handle : Reg) (cell : ℕ) (value : ℕ → ℕ) (pc fp : ℕ) (m m' : State) : Type 0 where
    pub place : m'.pc ≡ pc + 4
    pub base : register m' registers.S0 ≡ fp
    pub same : SameKept (put_value (reg_number handle) cell value) (value_in m')
    pub others : (x : ℕ) → x ≢ 8 → is_kept x ≡ false → value_in m' x ≡ value_in m x
    pub count : length m'.registers ≡ length m.registers
    pub lo : m'.lo ≡ m.lo
    pub hi : m'.hi ≡ m.hi
    pub whole : m'.half ≡ None

  pub all_split : (held held' : List (Option ℕ)) (fs gs : List Frame) → AllSameHeld held held' (fs ++ gs) → AllSameHeld held held' fs × AllSameHeld held held' gs
  all_split held held' [] gs all = (tt, all)
  all_split held held' (f ∷ fs) gs all = let rest = all_split held held' fs gs all.1 in ((all.0, rest.0), rest.1)

  -- the fork that made the thread, and that the thread below goes on behind it
  pub record IsFork (handle : Reg) (cell pc fp : ℕ) (value : ℕ → ℕ) (us : List Known) (rest : List (List Frame)) : Type 0 where
    pub third : IsThirdOf image pc handle
    pub some : us ≢ []
    pub goes : (held' : List (Option ℕ)) (m m' : State) → AllSameHeld t.held held' (joined rest) → IsResumed handle cell value pc fp m m' → NextGoesOn t held' us rest m m'

  forks_lower : (handle : Reg) (cell : ℕ) (us : List Known) (rest : List (List Frame)) (kind : ActivationKind) (kept : File) (value : ℕ → ℕ) (fp pc : ℕ) → place_at image.forks pc ≡ places.Fork handle → Lower t.p (named_by t.names) (is_held t.held) cell us rest kind kept (word_in t.held) value fp pc → IsFork handle cell pc fp value us rest
  forks_lower handle cell [] [] kind kept value fp pc is (first, at) = let end = end_here t.p t.d image code t.names t.held pc at in absurd (let no : ⊥ = cc in no)
  forks_lower handle cell (u ∷ us) (fs ∷ rest) kind kept value fp pc is (handle', forked, behind, over, newest) =
      let third = forked_third t.p t.d image code t.names t.held (Lower t.p (named_by t.names) (is_held t.held) u.note.cell us rest) (word_in t.held) (put_value (reg_number handle') cell value) 0 (pc + 4) fp pc handle' u.thread.activations fs behind newest in
      let fork = fork_here t.p t.d image code t.names t.held pc handle' third in
      let same : handle' ≡ handle = cc in
      record {
        third = subst (IsThirdOf image pc) same third;
        some = λ e. let no : ⊥ = cc in no;
        goes = λ held' m m' all resumed.
            let parts = all_split t.held held' fs (joined rest) all in
            let kept_same = subst (λ (r : Reg). SameKept (put_value (reg_number r) cell value) (value_in m')) (sym same) resumed.same in
            let thread = newest_same t.p (named_by t.names) (named_by t.names) (λ name n has. has) (is_held t.held) (is_held held') (word_in t.held) (word_in held') code.accepted (Lower t.p (named_by t.names) (is_held t.held) u.note.cell us rest) (Lower t.p (named_by t.names) (is_held held') u.note.cell us rest)
            (lower_same t.p (named_by t.names) (named_by t.names) (λ name n has. has) (is_held t.held) (is_held held') (word_in t.held) (word_in held') code.accepted us rest u.note.cell parts.1) u.thread.activations fs 0 (pc + 4) fp (put_value (reg_number handle') cell value) (value_in m') parts.0 kept_same newest in
            record {
              holds = record { file = λ x held there. subst (λ (n : ℕ). IsHeldAs (named_by t.names) held n) (kept_same x (over.holds x held there)) (over.file x held there); long = over.long; holds = over.holds };
              thread = subst (λ (n : ℕ). FromNewest t.p (named_by t.names) (is_held held') (Lower t.p (named_by t.names) (is_held held') u.note.cell us rest) 0 n (register m' registers.S0) (word_in held') (value_in m') u.thread.activations fs) (sym resumed.place)
                  (subst (λ (n : ℕ). FromNewest t.p (named_by t.names) (is_held held') (Lower t.p (named_by t.names) (is_held held') u.note.cell us rest) 0 (pc + 4) n (word_in held') (value_in m') u.thread.activations fs) (sym resumed.base) thread);
              others = resumed.others;
              count = resumed.count;
              lo = resumed.lo;
              hi = resumed.hi;
              whole = resumed.whole;
            };
      }
  forks_lower handle cell [] (fs ∷ rest) kind kept value fp pc is lower = absurd lower
  forks_lower handle cell (u ∷ us) [] kind kept value fp pc is lower = absurd lower

  -- all frames of the thread are read, and a fork made it
  pub record ForkIs (walk : Walk) (handle : Reg) (fs : List Frame) : Type 0 where
    pub none : fs ≡ []
    pub has : HasRegisters walk.machine
    pub fork : IsFork handle t.taken.note.cell walk.machine.pc (register walk.machine registers.S0) (value_in walk.machine) t.below t.below_frames

  pub forks_by : (walk : Walk) (handle : Reg) (n : ℕ) (stage : Stage) (acts : List Activation) (fs : List Frame) → walk_place image.forks stage walk.machine.pc ≡ places.Fork handle → At stage walk.machine acts fs n → ForkIs walk handle fs
  forks_by walk handle n (stages.Copy left) acts fs is at = absurd (let no : ⊥ = cc in no)
  forks_by walk handle n stages.Frame [] [] is (ahead, few, stands, total) =
      let (kind, (kept, lower)) = stands.remaining in
      record { none = refl; has = stands.machine.has_registers; fork = forks_lower handle t.taken.note.cell t.below t.below_frames kind kept (value_in walk.machine) (register walk.machine registers.S0) walk.machine.pc is lower }
  forks_by walk handle n stages.Frame [] (f ∷ fs) is (ahead, few, stands, total) = absurd stands.remaining
  forks_by walk handle n stages.Frame (a ∷ older) fs is (ahead, few, stands, total) =
      let frame = frame_here t.p t.d image code t.names t.held Behind ahead walk.machine.pc (register walk.machine registers.S0) (word_in t.held) (value_in walk.machine) (a ∷ older) fs few stands.remaining in
      absurd (let no : ⊥ = cc in no)

  fork_at : (walk : Walk) (handle : Reg) (m : State) (s : Exports) (n : ℕ) → walk_place image.forks walk.stage walk.machine.pc ≡ places.Fork handle → (g : Suspending t notes walk m s n) → ForkIs walk handle g.fs
  fork_at walk handle m s n is g = forks_by walk handle n walk.stage g.acts g.fs is g.at

  cut_at : (walk : Walk) (m : State) (s : Exports) (n : ℕ) → (g : Suspending t notes walk m s n) → g.fs ≡ [] → IsCutAt walk (slice_set t.held (bottom_word t.frames) (Some 0x30))
  cut_at walk m s n g none =
      let (ahead, words, waiting, keeps, newest) = g.stands in
      let some = some_frames t.p t.names t.held Behind ahead g.chain.pc g.chain.fp (word_in t.held) (saved_value g.chain.saved) t.taken.thread.activations t.frames newest in
      cut_by walk ahead g.chain.pc g.chain.fp (saved_value g.chain.saved) t.taken.thread.activations t.frames refl (top_apart g.top) (read_all t.frames walk.base some (subst (IsRead t.frames walk.base) none g.read)) newest

  -- what the cut and the way down ask
  pub record MayCut (asks : Step → Type 0) (walk : Walk) : Type 0 where
    pub few : return_word walk.base < 2 ^ 32
    pub may : asks (StackStore (return_word walk.base) 0x30)
    pub place : walk.machine.pc + 4 < 2 ^ 32

  pub may_cut : (asks : Step → Type 0) (walk : Walk) (handle : Reg) (m : State) (s : Exports) (n : ℕ) → walk_place image.forks walk.stage walk.machine.pc ≡ places.Fork handle → (t.below ≢ [] → asks (StackStore (bottom_word t.frames) 0x30)) → Suspending t notes walk m s n → MayCut asks walk
  may_cut asks walk handle m s n is may g =
      let f = fork_at walk handle m s n is g in
      let cut = cut_at walk m s n g f.none in
      record { few = cut.few; may = subst (λ (q : ℕ). asks (StackStore q 0x30)) cut.bottom (may f.fork.some); place = f.fork.third.high }

  resumed_by : (handle : Reg) (cell : ℕ) (wm m : State) (note : Note) (wait : Waiting) → between 24 28 (reg_number handle) ≡ true → HasRegisters wm → HasRegisters m → IsResumed handle cell (value_in wm) wm.pc (register wm registers.S0) m (restarted (chain_at (downward wm handle cell) (wm.pc + 4) note wait) m)
  resumed_by handle cell wm m note wait kept has_w has =
      let range = between_holds 24 28 (reg_number handle) kept in
      let low = range.0 in
      let down = downward wm handle cell in
      let c = chain_at down (wm.pc + 4) note wait in
      let r = restarts c m has in
      let some = not_zero handle (omega arith) in
      let origin : value_in down 0 ≡ 0 = value-written_other wm handle cell 0 (λ e. absurd (omega (arith, e))) ∙ has_w.origin in
      let has_down : HasRegisters down = record { count = length-written wm handle cell ∙ has_w.count; origin = origin } in
      record {
        place = r.pc;
        base = r.fp ∙ value-written_other wm handle cell 8 (λ e. absurd (omega (arith, e)));
        same = λ x is. put_written wm handle cell x has_w.count some ∙ saved_same down has_down x is ∙ r.saved x is;
        others = λ x fp unkept. r.others x fp (nine_kept x unkept) (unkept_out x unkept);
        count = r.count;
        lo = r.lo;
        hi = r.hi;
        whole = r.whole;
      }

  module _ {Board : Type 0} (made : Step → Answer → Board → Type 0) (old new : Board) where
    cuts_some : (us : List Known) (so : List (Option ℕ) → Type 0) → us ≢ [] → made (StackStore (bottom_word t.frames) 0x30) Done new → so (slice_set t.held (bottom_word t.frames) (Some 0x30)) → Cuts made old t us new so
    cuts_some [] so some was here = absurd (some refl)
    cuts_some (u ∷ us) so some was here = (was, here)

    pub forked : (walk : Walk) (chain : Chain) (handle : Reg) (note : Note) (wait : Waiting) (m : State) (s : Exports) (n : ℕ) → walk_place image.forks walk.stage walk.machine.pc ≡ places.Fork handle → walk.chain ≡ Some chain → made (StackStore (return_word walk.base) 0x30) Done new → Suspending t notes walk m s n
        → Cuts made old t t.below new (λ held. IsTaken t held chain s × NextGoesOn t held t.below t.below_frames m (restarted (chain_at (downward walk.machine handle chain.cell) (walk.machine.pc + 4) note wait) m))
    forked walk chain handle note wait m s n is has was g =
        let f = fork_at walk handle m s n is g in
        let cut = cut_at walk m s n g f.none in
        let same : g.chain ≡ chain = cc (g.is_chain, has) in
        let (ahead, words, waiting, keeps, newest) = g.stands in
        let held' = slice_set t.held (bottom_word t.frames) (Some 0x30) in
        let cell : t.taken.note.cell ≡ chain.cell = sym g.is_cell ∙ ap (λ (c : Chain). c.cell) same in
        let taken : IsTaken t held' g.chain s = record {
          is_note = g.is_note;
          is_cell = g.is_cell;
          is_wait = g.is_wait;
          stands = (ahead, words, waiting, keeps, cut.alone ahead g.chain.pc g.chain.fp (saved_value g.chain.saved) t.taken.thread.activations newest);
          exported = are_exported s t.exported (subst (λ (fs : List Frame). WillExport s fs t.exported) f.none g.exports);
        } in
        let goes = f.fork.goes held' m (restarted (chain_at (downward walk.machine handle t.taken.note.cell) (walk.machine.pc + 4) note wait) m) cut.below (resumed_by handle t.taken.note.cell walk.machine m note wait f.fork.third.kept f.has g.machine.has_registers) in
        cuts_some t.below _ f.fork.some (subst (λ (q : ℕ). made (StackStore q 0x30) Done new) (sym cut.bottom) was)
        (subst (λ (c : Chain). IsTaken t held' c s) same taken, subst (λ (k : ℕ). NextGoesOn t held' t.below t.below_frames m (restarted (chain_at (downward walk.machine handle k) (walk.machine.pc + 4) note wait) m)) cell goes)

-- ---- as the code has them

pub with_walk : (t : Taking) (wait : Waiting) (notes notes' : List Note) (o : Option Walk) (walk : Walk) (m : State) (s : Exports) (n : ℕ) → notes ≡ notes' → o ≡ Some walk → Suspends t wait notes o m s n → Suspending t notes' walk m s n
with_walk t wait notes notes' o walk m s n same is g = subst (λ (xs : List Note). Suspending t xs walk m s n) same (subst (λ (x : Option Walk). Suspends t wait notes x m s n) is g)

pub without_walk : (t : Taking) (wait : Waiting) (notes notes' : List Note) (o : Option Walk) (m : State) (s : Exports) (n : ℕ) → notes ≡ notes' → o ≡ None → Suspends t wait notes o m s n → CanSuspend t notes' m s wait n
without_walk t wait notes notes' o m s n same is g = subst (λ (xs : List Note). CanSuspend t xs m s wait n) same (subst (λ (x : Option Walk). Suspends t wait notes x m s n) is g)

-- there is a top thread
pub some_notes : (t : Taking) (notes : List Note) → IsTop t notes → 0 < length notes
some_notes t notes top = let all = ap length (top_notes t notes top) in let long = length-append (notes_of t.below) (t.taken.note ∷ []) in omega (arith, all, long)

-- the chain's place is the one where the suspension began
pub chain_place : (t : Taking) (notes : List Note) (walk : Walk) (chain : Chain) (m : State) (s : Exports) (n : ℕ) → walk.chain ≡ Some chain → Suspending t notes walk m s n → chain.pc ≡ t.place
chain_place t notes walk chain m s n has g =
    let same : chain ≡ g.chain = cc (g.is_chain, has) in
    ap (λ (c : Chain). c.pc) same ∙ g.at_place

pub has_chain : (t : Taking) (notes : List Note) (walk : Walk) (m : State) (s : Exports) (n : ℕ) → Suspending t notes walk m s n → is_some walk.chain ≡ true
has_chain t notes walk m s n g = ap is_some g.is_chain

-- what is left of the notes
pub left_notes : (t : Taking) (notes new : List Note) (o : Option Note) → IsTop t notes → IsPopped notes o new → new ≡ notes_of t.below
left_notes t notes new (Some top) is popped = last_same new (notes_of t.below) top t.taken.note (sym popped ∙ top_notes t notes is)
left_notes t notes new None is popped =
    let some = some_notes t notes is in
    let none = ap length popped.0 in
    absurd (omega (arith, some, none))

pub rows_in : (p : Program) (image : Image) → IsCodeOf Postprocessed p image → AreAscending 0 image.rows
rows_in p image code = subst (AreAscending 0) (sym code.is_image.rows) (rows_ascend Postprocessed p)

pub top_of : (t : Taking) (notes notes' : List Note) → notes ≡ notes' → IsTop t notes → IsTop t notes'
top_of t notes notes' same top = subst (IsTop t) same top

pub may_row : (s : Exports) (walk : Walk) (row row' : FrameRow) → Some row ≡ Some row' → (IsFrameOn s.lo s.hi (frame_of row walk.machine) → MayExport s.exported (frame_of row walk.machine)) → IsFrameOn s.lo s.hi (frame_of row' walk.machine) → MayExport s.exported (frame_of row' walk.machine)
may_row s walk row row' same may =
    let is : row ≡ row' = cc in
    subst (λ (r : FrameRow). IsFrameOn s.lo s.hi (frame_of r walk.machine) → MayExport s.exported (frame_of r walk.machine)) is may
