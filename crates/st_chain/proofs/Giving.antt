-- A giving, step by step: it begins (starts), an instruction of a copy (may_go, went_on), a frame (begins), a fork with the bottom thread below (cut_off) or
-- another one (lowered), and its end (ended).
use Rattle.std.proofs.Common.{◌≡◌, ◌≢◌, ◌⊎◌, inl, inr, ℕ, zero, suc, ◌+◌, ◌-◌, ◌*◌, ◌^◌, ◌<◌, ◌≤◌, Bool, true, false, List, [], ◌∷◌, ◌++◌, length, Option, Some, None, is_some, slice_get, slice_set, refl, ap, sym, ◌∙◌, subst, arith, length-append, append_assoc, if◌then◌else◌}
use Rattle.st_base.specs.declared.chain.Chain.{Chain}
use Rattle.st_base.specs.declared.chain.Frame.{Frame}
use Rattle.st_base.specs.declared.chain.Note.{Note}
use Rattle.st_base.specs.declared.chain.Waiting.TheVariants as waits
use Rattle.st_base.specs.declared.image.FrameRow.{FrameRow}
use Rattle.st_base.specs.declared.image.Image.{Image}
use Rattle.st_base.specs.declared.reg.Reg.{Reg}
use Rattle.st_base.specs.declared.reg.Reg.TheVariants as registers
use Rattle.st_base.specs.Reg.{reg_number}
use Rattle.st_base.specs.declared.thread.Activation.{Activation}
use Rattle.st_base.specs.declared.thread.ActivationKind.{ActivationKind}
use Rattle.st_base.specs.declared.thread.Held.{Held}
use Rattle.st_model.specs.declared.code.Layout.TheVariants.{Postprocessed}
use Rattle.st_model.specs.declared.program.Program.{Program}
use Rattle.st_model.specs.Effect.{File}
use Rattle.st_model.specs.Flow.{between}
use Rattle.st_model.specs.Layout.{IsCodeOf}
use Rattle.st_base.specs.declared.thread.ActivationKind.TheVariants.{Forked}
use Rattle.st_model.proofs.Places.{between_holds}
use Rattle.st_words.specs.declared.view.Known.{Known}
use Rattle.st_words.specs.Steps.{Step, StackLoad, Answer}
use Rattle.st_step.specs.declared.state.State.{State}
use Rattle.st_step.specs.Frames.{value_in}
use Rattle.st_step.specs.Moves.{register, at_place}
use Rattle.st_step.specs.Runs.{HasRegisters, AreWords, return_word}
use Rattle.st_step.proofs.Writes.{length-written, lo-written, hi-written}
use Rattle.st_items.proofs.Body.{machine_written}
use Rattle.st_items.proofs.Addresses.{place_bounds}
use Rattle.st_model.specs.declared.program.ProgramFunction.{ProgramFunction}
use Rattle.st_chain.proofs.ForkPlaces.{third_missed}
use Rattle.st_step.specs.Frames.{address_in}
use Rattle.st_items.specs.Body.{Context, Ends, IsOn}
use Rattle.st_items.specs.Rows.{row_behind}
use Rattle.st_items.proofs.SavedRegisters.{not_zero, value-written_other}
use Rattle.st_stack.specs.Exported.{Exports, IsFrameOn, MayExport}
use Rattle.st_chain.specs.declared.walk.Place.TheVariants as places
use Rattle.st_chain.specs.declared.walk.Stage.{Stage}
use Rattle.st_chain.specs.declared.walk.Stage.TheVariants as stages
use Rattle.st_chain.specs.declared.walk.Walk.{Walk}
use Rattle.st_chain.specs.Walk.{word_in, is_held, named_by, Below, FromNewest}
use Rattle.st_chain.specs.Threads.{AtEnd, Lower, put_value}
use Rattle.st_chain.specs.Chains.{saved_value}
use Rattle.st_chain.specs.Seen.{SameKept, joined, AreApart}
use Rattle.st_chain.specs.Laws.{AllSameHeld}
use Rattle.st_chain.specs.Copying.{over, MayCopy, Copied}
use Rattle.st_chain.specs.Places.{place_of as walk_place, counted, begun, frame_of, Joins, saved_in, chain_at, downward, first_place, whole_walk, gone_below, gone_to_bottom}
use Rattle.st_chain.specs.Walking.{Stands, IsAt, steps_of}
use Rattle.st_chain.specs.Taking.{Taking, threads_of, frames_of, notes_of, beneath, AllApart, bottom_word, WillExport, AreExported, IsRead, GoesOn, IsTaken, TopStands, IsBottom, threads_steps, all_steps, CanGive, GivingAbove, GivingBottom, Gives, over_words, cut_word, Goes}
use Rattle.st_chain.proofs.Frames.{newest_same, lower_same}
use Rattle.st_chain.proofs.Joining.{contains_here, will_same, will_export, are_exported, read_more, read_all, rest_apart, split_apart, all_tail}
use Rattle.st_chain.proofs.Walked.{IsThirdOf, is_sized, forked_third, frame_here, fork_here, CopyBegun, copy_begun, loads_map}
use Rattle.st_chain.proofs.Suspending.{notes_length}
use Rattle.st_chain.proofs.Suspending as suspending

-- ---- lists of threads

joined_append : (xs ys : List (List Frame)) → joined (xs ++ ys) ≡ joined xs ++ joined ys
joined_append [] ys = refl
joined_append (x ∷ xs) ys = ap (λ (fs : List Frame). x ++ fs) (joined_append xs ys) ∙ sym (append_assoc x (joined xs) (joined ys))

slice_get_first : (xs ys : List Note) (k : ℕ) (n : Note) → slice_get xs k ≡ Some n → slice_get (xs ++ ys) k ≡ Some n
slice_get_first [] ys k n is = absurd (let no : ⊥ = cc in no)
slice_get_first (x ∷ xs) ys zero n is = is
slice_get_first (x ∷ xs) ys (suc k) n is = slice_get_first xs ys k n is

slice_get_at : (xs : List Note) (n : Note) → slice_get (xs ++ n ∷ []) (length xs) ≡ Some n
slice_get_at [] n = refl
slice_get_at (x ∷ xs) n = slice_get_at xs n

got_inside : (xs : List Note) (k : ℕ) (n : Note) → slice_get xs k ≡ Some n → k < length xs
got_inside [] k n is = absurd (let no : ⊥ = cc in no)
got_inside (x ∷ xs) zero n is = omega arith
got_inside (x ∷ xs) (suc k) n is = let rest = got_inside xs k n is in omega arith

-- the note of a thread is at its place
note_there : (us : List Known) (u : Known) (vs : List Known) → slice_get (notes_of (us ++ u ∷ vs)) (length vs) ≡ Some u.note
note_there [] u vs = subst (λ (k : ℕ). slice_get (notes_of vs ++ u.note ∷ []) k ≡ Some u.note) (notes_length vs) (slice_get_at (notes_of vs) u.note)
note_there (v ∷ us) u vs = slice_get_first (notes_of (us ++ u ∷ vs)) (v.note ∷ []) (length vs) u.note (note_there us u vs)

bottom_first : (us : List Known) (u : Known) → notes_of (us ++ u ∷ []) ≡ u.note ∷ notes_of us
bottom_first [] u = refl
bottom_first (v ∷ us) u = ap (λ (ns : List Note). ns ++ v.note ∷ []) (bottom_first us u)

pub one_more : {A : Type 0} (xs : List A) (x : A) → length (xs ++ x ∷ []) ≡ suc (length xs)
one_more [] x = refl
one_more (y ∷ xs) x = ap suc (one_more xs x)

steps_some : (p : Program) (acts : List Activation) → 1 ≤ steps_of p acts
steps_some p [] = omega arith
steps_some p (a ∷ older) = let rest = steps_some p older in omega arith

-- ---- lists of threads are as long as those of their frames

module _ (p : Program) (names : List (Held × ℕ)) (held : List (Option ℕ)) where
  record Reached (end : Context) (word : ℕ → ℕ) : Type 0 where
    pub kind : ActivationKind
    pub kept : File
    pub value : ℕ → ℕ
    pub fp : ℕ
    pub ret : ℕ
    pub there : end kind kept word value fp ret

  below_reaches : (end : Context) (older : List Activation) (fs : List Frame) (kind : ActivationKind) (kept : File) (word value : ℕ → ℕ) (fp ret : ℕ) → Below p (named_by names) (is_held held) end older fs kind kept word value fp ret → Reached end word
  below_reaches end [] [] kind kept word value fp ret below = record { kind = kind; kept = kept; value = value; fp = fp; ret = ret; there = below }
  below_reaches end (a ∷ older) (f ∷ fs) kind kept word value fp ret (function, called, lies, (caller, below)) = below_reaches end older fs a.kind a.kept word _ _ _ below
  below_reaches end [] (f ∷ fs) kind kept word value fp ret below = absurd below
  below_reaches end (a ∷ older) [] kind kept word value fp ret below = absurd below

  newest_reaches : (end : Context) (ahead pc fp : ℕ) (word value : ℕ → ℕ) (acts : List Activation) (fs : List Frame) → FromNewest p (named_by names) (is_held held) end ahead pc fp word value acts fs → Reached end word
  newest_reaches end ahead pc fp word value (a ∷ older) (f ∷ fs) (function, is) = below_reaches end older fs a.kind a.kept word _ _ _ is.framed.below
  newest_reaches end ahead pc fp word value [] fs newest = absurd newest
  newest_reaches end ahead pc fp word value (a ∷ older) [] newest = absurd newest

  lower_long : (cell : ℕ) (us : List Known) (rest : List (List Frame)) (kind : ActivationKind) (kept : File) (word value : ℕ → ℕ) (fp ret : ℕ) → Lower p (named_by names) (is_held held) cell us rest kind kept word value fp ret → length rest ≡ length us
  lower_long cell [] [] kind kept word value fp ret lower = refl
  lower_long cell (u ∷ us) (fs ∷ rest) kind kept word value fp ret (handle, forked, behind, over, newest) =
      let r = newest_reaches (Lower p (named_by names) (is_held held) u.note.cell us rest) 0 (ret + 4) fp word (put_value (reg_number handle) cell value) u.thread.activations fs newest in
      ap suc (lower_long u.note.cell us rest r.kind r.kept word r.value r.fp r.ret r.there)
  lower_long cell [] (fs ∷ rest) kind kept word value fp ret lower = absurd lower
  lower_long cell (u ∷ us) [] kind kept word value fp ret lower = absurd lower

  stands_long : (m : State) (us : List Known) (rest : List (List Frame)) → TopStands p names held m us rest → length rest ≡ length us
  stands_long m [] rest stands = absurd stands
  stands_long m (u ∷ us) [] stands = absurd stands
  stands_long m (u ∷ us) (fs ∷ rest) (inl newest) =
      let r = newest_reaches (Lower p (named_by names) (is_held held) u.note.cell us rest) 0 m.pc (register m registers.S0) (word_in held) (value_in m) u.thread.activations fs newest in
      ap suc (lower_long u.note.cell us rest r.kind r.kept (word_in held) r.value r.fp r.ret r.there)
  stands_long m (u ∷ us) (fs ∷ rest) (inr (none, (kept, lower))) = ap suc (lower_long u.note.cell us rest Forked kept (word_in held) (value_in m) (register m registers.S0) (m.pc + 4) lower)

-- ---- one taking

module _ (image : Image) (t : Taking) (code : IsCodeOf Postprocessed t.p image) (notes : List Note) where
  -- the taking of another thread of the worker
  abbrev of_thread : Known → List Frame → List Known → List (List Frame) → Taking
  of_thread u fs us rest = record t { taken = u; frames = fs; below = us; below_frames = rest }

  abbrev Giving : Walk → State → Exports → ℕ → Type 0
  Giving walk m s n = GivingAbove t notes walk m s n ⊎ GivingBottom t notes walk m s n

  -- ---- an instruction of a copy

  pub may_go : (asks : Step → Type 0) (walk : Walk) (m : State) (s : Exports) (n : ℕ) → walk_place image.forks walk.stage walk.machine.pc ≡ places.Copy → ((q : ℕ) → is_held t.held q ≡ true → asks (StackLoad q)) → Giving walk m s n → MayCopy asks image t.d walk.machine
  may_go asks walk m s n is may (inl g) = suspending.may_by image (of_thread g.u g.u_frames (g.between ++ t.taken ∷ []) (g.between_frames ++ t.frames ∷ [])) code notes asks walk.stage walk.machine g.acts g.fs g.steps is may g.at
  may_go asks walk m s n is may (inr g) = suspending.may_by image (of_thread t.taken t.frames [] []) code notes asks walk.stage walk.machine g.acts g.fs n is may g.at

  at_some : (end : Context) (stage : Stage) (m : State) (acts : List Activation) (fs : List Frame) (n : ℕ) → IsAt t.p t.d t.names t.held end stage m acts fs n → n ≡ suc (n - 1)
  at_some end stages.Frame m acts fs n (ahead, few, stands, total) = let some = steps_some t.p acts in omega (arith, some, total)
  at_some end (stages.Copy left) m acts fs n (f, (function, (last, runs, stands, some, total))) = omega (arith, some, total)

  module _ {Board : Type 0} (made : Step → Answer → Board → Type 0) (old new : Board) where
    abbrev Gone : Walk → State → Exports → ℕ → List (Option ℕ) → Type 0
    Gone walk m s n held = GivingAbove (over_words held t) notes walk m s n ⊎ GivingBottom (over_words held t) notes walk m s n

    pub went_on : (walk : Walk) (m' m : State) (s : Exports) (n : ℕ) → walk_place image.forks walk.stage walk.machine.pc ≡ places.Copy → Copied made old image t.d walk.machine m' new → Giving walk m s (suc n) → Goes made old t new (Gone (record walk { machine = m'; stage = counted walk.stage }) m s n)
    went_on walk m' m s n is goes (inl g) =
        let end = beneath t g.u.note.cell (g.between ++ t.taken ∷ []) (g.between_frames ++ t.frames ∷ []) in
        let fewer = at_some end walk.stage walk.machine g.acts g.fs g.steps g.at in
        let total = g.total in
        inl (loads_map made old new t.held _ _
        (λ (at : IsAt t.p t.d t.names t.held end (counted walk.stage) m' g.acts g.fs (g.steps - 1)).
        inl (record {
          bottom = g.bottom;
          framed = g.framed;
          stands = g.stands;
          none = g.none;
          upper = g.upper;
          upper_frames = g.upper_frames;
          u = g.u;
          u_frames = g.u_frames;
          between = g.between;
          between_frames = g.between_frames;
          parts = g.parts;
          frame_parts = g.frame_parts;
          thread = g.thread;
          acts = g.acts;
          fs = g.fs;
          steps = g.steps - 1;
          at = at;
          read = g.read;
          exports = g.exports;
          total = omega (arith, total, fewer);
        }))
        (suspending.copied_by image (of_thread g.u g.u_frames (g.between ++ t.taken ∷ []) (g.between_frames ++ t.frames ∷ [])) code notes made old new walk.stage walk.machine m' g.acts g.fs (g.steps - 1) is goes
        (subst (λ (k : ℕ). IsAt t.p t.d t.names t.held end walk.stage walk.machine g.acts g.fs k) fewer g.at)))
    went_on walk m' m s n is goes (inr g) =
        inl (loads_map made old new t.held _ _
        (λ (at : IsAt t.p t.d t.names t.held AtEnd (counted walk.stage) m' g.acts g.fs n).
        inr (record {
          bottom = g.bottom;
          stands = g.stands;
          chain = g.chain;
          is_chain = g.is_chain;
          is_note = g.is_note;
          is_cell = g.is_cell;
          is_wait = g.is_wait;
          chain_stands = g.chain_stands;
          thread = g.thread;
          acts = g.acts;
          fs = g.fs;
          at = at;
          read = g.read;
          exports = g.exports;
        }))
        (suspending.copied_by image (of_thread t.taken t.frames [] []) code notes made old new walk.stage walk.machine m' g.acts g.fs n is goes g.at))

  -- ---- where the walk is among the threads

  threads_parts : (walk : Walk) (m : State) (s : Exports) (n : ℕ) (g : GivingAbove t notes walk m s n) → threads_of t ≡ g.upper ++ g.u ∷ (g.between ++ t.taken ∷ [])
  threads_parts walk m s n g = (λ i. g.parts i ++ t.taken ∷ g.bottom.alone i) ∙ append_assoc g.upper (g.u ∷ g.between) (t.taken ∷ [])

  frames_parts : (walk : Walk) (m : State) (s : Exports) (n : ℕ) (g : GivingAbove t notes walk m s n) → frames_of t ≡ g.upper_frames ++ g.u_frames ∷ (g.between_frames ++ t.frames ∷ [])
  frames_parts walk m s n g = (λ i. g.frame_parts i ++ t.frames ∷ g.bottom.alone_frames i) ∙ append_assoc g.upper_frames (g.u_frames ∷ g.between_frames) (t.frames ∷ [])

  above_apart : (walk : Walk) (m : State) (s : Exports) (n : ℕ) (g : GivingAbove t notes walk m s n) → AllApart (joined g.upper_frames ++ (g.u_frames ++ joined (g.between_frames ++ t.frames ∷ [])))
  above_apart walk m s n g = subst AllApart (ap joined (frames_parts walk m s n g) ∙ joined_append g.upper_frames (g.u_frames ∷ (g.between_frames ++ t.frames ∷ []))) g.bottom.apart

  bottom_apart : IsBottom t notes → AllApart (t.frames ++ joined [])
  bottom_apart bottom =
      let parts : frames_of t ≡ t.above_frames ++ t.frames ∷ [] = ap (λ (rest : List (List Frame)). t.above_frames ++ t.frames ∷ rest) bottom.alone_frames in
      all_tail (joined t.above_frames) (t.frames ++ joined []) (subst AllApart (ap joined parts ∙ joined_append t.above_frames (t.frames ∷ [])) bottom.apart)

  -- ---- a frame

  pub record Begins (walk : Walk) (m : State) (s : Exports) (n : ℕ) : Type 0 where
    pub row : FrameRow
    pub found : row_behind image.rows walk.machine.pc ≡ Some row
    pub may : is_some walk.chain ≡ true → IsFrameOn s.lo s.hi (frame_of row walk.machine) → MayExport s.exported (frame_of row walk.machine)
    pub next : (s' : Exports) → Joins (is_some walk.chain) s (frame_of row walk.machine) s' → Giving (begun row walk) m s' n

  -- the copy of a frame that is the next of a thread
  record NextFrame (walk : Walk) (cell : ℕ) (us : List Known) (rest : List (List Frame)) (fs : List Frame) (n : ℕ) : Type 0 where
    pub older : List Activation
    pub f : Frame
    pub later : List Frame
    pub is : fs ≡ f ∷ later
    pub apart : AreApart f later
    pub begins : CopyBegun t.p t.d image code t.names t.held (beneath t cell us rest) walk.machine older f later n

  next_frame : (walk : Walk) (u : Known) (u_frames : List Frame) (us : List Known) (rest : List (List Frame)) (n : ℕ) (stage : Stage) (acts : List Activation) (fs : List Frame) → walk_place image.forks stage walk.machine.pc ≡ places.Frame → AllApart (fs ++ joined rest) → IsAt t.p t.d t.names t.held (beneath t u.note.cell us rest) stage walk.machine acts fs (suc n) → NextFrame walk u.note.cell us rest fs n
  next_frame walk u u_frames us rest n (stages.Copy left) acts fs is all at = absurd (let no : ⊥ = cc in no)
  next_frame walk u u_frames us rest n stages.Frame (a ∷ older) (f ∷ fs) is all (ahead, few, stands, total) =
      let apart = split_apart f fs (joined rest) all.1 in
      record { older = older; f = f; later = fs; is = refl; apart = apart.0; begins = copy_begun t.p t.d image code t.names t.held u.note.cell us rest stands.ends walk.machine ahead a older f fs n few stands.machine total apart.0 apart.1 stands.remaining }
  next_frame walk u u_frames us rest n stages.Frame [] [] is all (ahead, few, stands, total) =
      let (kind, (kept, lower)) = stands.remaining in
      absurd (suspending.not_frame image (of_thread u u_frames us rest) code notes u.note.cell us rest kind kept (word_in t.held) (value_in walk.machine) (register walk.machine registers.S0) walk.machine.pc is lower)
  next_frame walk u u_frames us rest n stages.Frame [] (f ∷ fs) is all (ahead, few, stands, total) = absurd stands.remaining
  next_frame walk u u_frames us rest n stages.Frame (a ∷ older) [] is all (ahead, few, stands, total) = absurd stands.remaining

  pub begins : (walk : Walk) (m : State) (s : Exports) (n : ℕ) → walk_place image.forks walk.stage walk.machine.pc ≡ places.Frame → Giving walk m s (suc n) → Begins walk m s n
  begins walk m s n is (inl g) =
      let us = g.between ++ t.taken ∷ [] in
      let rest = g.between_frames ++ t.frames ∷ [] in
      let end = beneath t g.u.note.cell us rest in
      let fewer = at_some end walk.stage walk.machine g.acts g.fs g.steps g.at in
      let total = g.total in
      let none : is_some walk.chain ≡ false = ap is_some g.none in
      let all = rest_apart g.u_frames walk.base g.fs (joined rest) (all_tail (joined g.upper_frames) (g.u_frames ++ joined rest) (above_apart walk m s (suc n) g)) g.read in
      let x = next_frame walk g.u g.u_frames us rest (g.steps - 1) walk.stage g.acts g.fs is all (subst (λ (k : ℕ). IsAt t.p t.d t.names t.held end walk.stage walk.machine g.acts g.fs k) fewer g.at) in
      let b = x.begins in
      let base : register walk.machine registers.S0 ≡ x.f.base = sym (ap (λ (h : Frame). h.base) b.frame) in
      record {
        row = b.row;
        found = b.found;
        may = λ some. absurd (let no : ⊥ = cc (none, some) in no);
        next = λ s' joins.
            inl (record {
              bottom = g.bottom;
              framed = g.framed;
              stands = g.stands;
              none = g.none;
              upper = g.upper;
              upper_frames = g.upper_frames;
              u = g.u;
              u_frames = g.u_frames;
              between = g.between;
              between_frames = g.between_frames;
              parts = g.parts;
              frame_parts = g.frame_parts;
              thread = g.thread;
              acts = x.older;
              fs = x.later;
              steps = g.steps - 1;
              at = subst (λ (left : ℕ). IsAt t.p t.d t.names t.held end (stages.Copy left) (at_place b.row.pure_at walk.machine) x.older x.later (g.steps - 1)) (sym b.is_left) b.at;
              read = read_more g.u_frames walk.base (register walk.machine registers.S0) x.f x.later base (subst (IsRead g.u_frames walk.base) x.is g.read);
              exports = will_same s s' (frame_of b.row walk.machine) t.frames t.exported (subst (λ (taken : Bool). Joins taken s (frame_of b.row walk.machine) s') none joins) g.exports;
              total = omega (arith, total, fewer);
            });
      }
  begins walk m s n is (inr g) =
      let some : is_some walk.chain ≡ true = ap is_some g.is_chain in
      let all = rest_apart t.frames walk.base g.fs (joined []) (bottom_apart g.bottom) g.read in
      let x = next_frame walk t.taken t.frames [] [] n walk.stage g.acts g.fs is all g.at in
      let b = x.begins in
      let base : register walk.machine registers.S0 ≡ x.f.base = sym (ap (λ (h : Frame). h.base) b.frame) in
      let exports = subst (λ (fs : List Frame). WillExport s fs t.exported) x.is g.exports in
      record {
        row = b.row;
        found = b.found;
        may = λ taken on. subst (MayExport s.exported) b.frame (exports.may x.f (contains_here x.f x.later) (subst (IsFrameOn s.lo s.hi) (sym b.frame) on));
        next = λ s' joins.
            inr (record {
              bottom = g.bottom;
              stands = g.stands;
              chain = g.chain;
              is_chain = g.is_chain;
              is_note = g.is_note;
              is_cell = g.is_cell;
              is_wait = g.is_wait;
              chain_stands = g.chain_stands;
              thread = g.thread;
              acts = x.older;
              fs = x.later;
              at = subst (λ (left : ℕ). IsAt t.p t.d t.names t.held AtEnd (stages.Copy left) (at_place b.row.pure_at walk.machine) x.older x.later n) (sym b.is_left) b.at;
              read = read_more t.frames walk.base (register walk.machine registers.S0) x.f x.later base (subst (IsRead t.frames walk.base) x.is g.read);
              exports = will_export s s' x.f x.later t.exported x.apart exports (subst (λ (h : Frame). Joins true s h s') (sym b.frame) (subst (λ (taken : Bool). Joins taken s (frame_of b.row walk.machine) s') some joins));
            });
      }

  -- ---- the first step

  record Next (end_at : ℕ) : Type 0 where
    pub handle : Reg
    pub third : IsThirdOf image end_at handle

  third_lower : (cell : ℕ) (us : List Known) (rest : List (List Frame)) (kind : ActivationKind) (kept : File) (word value : ℕ → ℕ) (fp ret : ℕ) → us ≢ [] → Lower t.p (named_by t.names) (is_held t.held) cell us rest kind kept word value fp ret → Next ret
  third_lower cell [] rest kind kept word value fp ret some lower = absurd (some refl)
  third_lower cell (u ∷ us) [] kind kept word value fp ret some lower = absurd lower
  third_lower cell (u ∷ us) (fs ∷ rest) kind kept word value fp ret some (handle, forked, behind, over, newest) =
      record { handle = handle; third = forked_third t.p t.d image code t.names t.held (Lower t.p (named_by t.names) (is_held t.held) u.note.cell us rest) word (put_value (reg_number handle) cell value) 0 (ret + 4) fp ret handle u.thread.activations fs behind newest }

  some_last : (us : List Known) (u : Known) → us ++ u ∷ [] ≢ []
  some_last us u none = let long = one_more us u in let zero_long = ap length none in absurd (omega (arith, long, zero_long))

  pub record Starts (m : State) (s : Exports) (n : ℕ) : Type 0 where
    pub few : m.pc + 4 < 2 ^ 32
    pub next : GivingAbove t notes (whole_walk image.forks m (length t.above)) m s n

  starts_framed : (m : State) (s : Exports) (n : ℕ) (u : Known) (between : List Known) (fs : List Frame) (bfs : List (List Frame)) → t.above ≡ u ∷ between → t.above_frames ≡ fs ∷ bfs → CanGive t notes m s (suc n) → n ≡ steps_of t.p u.thread.activations + threads_steps t.p (between ++ t.taken ∷ []) → (function : ProgramFunction) (a : Activation) (older : List Activation) → u.thread.activations ≡ a ∷ older → slice_get t.p.functions a.function ≡ Some function → m.pc ≡ address_in Postprocessed t.p a.function function a.next + 4 * 0
      → FromNewest t.p (named_by t.names) (is_held t.held) (beneath t u.note.cell (between ++ t.taken ∷ []) (bfs ++ t.frames ∷ [])) 0 m.pc (register m registers.S0) (word_in t.held) (value_in m) u.thread.activations fs → Starts m s n
  starts_framed m s n u between fs bfs is is_frames can total function a older acts here at newest =
      let bounds = place_bounds Postprocessed t.p a.function function a.next (is_sized t.p t.d image code) here in
      let high = bounds.1 in
      let none = third_missed t.p image a.function function a.next 1 (m.pc + 4) code here (omega arith) (omega (arith, at)) in
      let place : first_place image.forks m.pc ≡ m.pc = ap (λ (o : Option Reg). if is_some o then m.pc + 4 else m.pc) none in
      let end = beneath t u.note.cell (between ++ t.taken ∷ []) (bfs ++ t.frames ∷ []) in
      let stands : Stands t.p t.names t.held end 0 (at_place m.pc m) u.thread.activations fs = record { ends = can.ends; machine = suspending.on_at can.ends t.held m.pc m can.machine; whole = refl; remaining = suspending.remaining_newest t.p t.names t.held end 0 m.pc (register m registers.S0) (word_in t.held) (value_in m) u.thread.activations fs newest } in
      record {
        few = omega (arith, at, high);
        next = record {
          bottom = can.bottom;
          framed = can.framed;
          stands = can.stands;
          none = refl;
          upper = [];
          upper_frames = [];
          u = u;
          u_frames = fs;
          between = between;
          between_frames = bfs;
          parts = is;
          frame_parts = is_frames;
          thread = ap length is;
          acts = u.thread.activations;
          fs = fs;
          steps = steps_of t.p u.thread.activations;
          at = (0, omega arith, subst (λ (pc : ℕ). Stands t.p t.names t.held end 0 (at_place pc m) u.thread.activations fs) (sym place) stands, refl);
          read = record { before = []; parts = refl; last = λ some. absurd (some refl) };
          exports = can.exports;
          total = total;
        };
      }

  starts_with : (m : State) (s : Exports) (n : ℕ) (above : List Known) (above_frames : List (List Frame)) → t.above ≡ above → t.above_frames ≡ above_frames → CanGive t notes m s (suc n) → TopStands t.p t.names t.held m (above ++ t.taken ∷ []) (above_frames ++ t.frames ∷ []) → n ≡ all_steps t.p (above ++ t.taken ∷ []) (above_frames ++ t.frames ∷ []) → Starts m s n
  starts_with m s n [] above_frames is is_frames can stands total = absurd (can.some is)
  starts_with m s n (u ∷ between) [] is is_frames can stands total =
      let long = stands_long t.p t.names t.held m ((u ∷ between) ++ t.taken ∷ []) (t.frames ∷ []) stands in
      let more = one_more between t.taken in
      absurd (omega (arith, long, more))
  starts_with m s n (u ∷ between) ([] ∷ bfs) is is_frames can (inl newest) total =
      absurd (suspending.some_frames t.p t.names t.held (beneath t u.note.cell (between ++ t.taken ∷ []) (bfs ++ t.frames ∷ [])) 0 m.pc (register m registers.S0) (word_in t.held) (value_in m) u.thread.activations [] newest refl)
  starts_with m s n (u ∷ between) ((f ∷ fs) ∷ bfs) is is_frames can (inl newest) total = by_acts u.thread.activations refl newest
    where
      by_acts : (acts : List Activation) → u.thread.activations ≡ acts → FromNewest t.p (named_by t.names) (is_held t.held) (beneath t u.note.cell (between ++ t.taken ∷ []) (bfs ++ t.frames ∷ [])) 0 m.pc (register m registers.S0) (word_in t.held) (value_in m) acts (f ∷ fs) → Starts m s n
      by_acts [] same there = absurd there
      by_acts (a ∷ older) same (function, at) = starts_framed m s n u between (f ∷ fs) bfs is is_frames can total function a older same at.here at.at newest
  starts_with m s n (u ∷ between) ((f ∷ fs) ∷ bfs) is is_frames can (inr (none, lower)) total = absurd (let no : ⊥ = cc in no)
  starts_with m s n (u ∷ between) ([] ∷ bfs) is is_frames can (inr (none, (kept, lower))) total =
      let us = between ++ t.taken ∷ [] in
      let rest = bfs ++ t.frames ∷ [] in
      let next = third_lower u.note.cell us rest Forked kept (word_in t.held) (value_in m) (register m registers.S0) (m.pc + 4) (some_last between t.taken) lower in
      let high = next.third.high in
      let place : first_place image.forks m.pc ≡ m.pc + 4 = ap (λ (o : Option Reg). if is_some o then m.pc + 4 else m.pc) next.third.found in
      let stands : Stands t.p t.names t.held (beneath t u.note.cell us rest) 0 (at_place (m.pc + 4) m) [] [] = record { ends = can.ends; machine = suspending.on_at can.ends t.held (m.pc + 4) m can.machine; whole = refl; remaining = (Forked, (kept, lower)) } in
      record {
        few = omega arith;
        next = record {
          bottom = can.bottom;
          framed = can.framed;
          stands = can.stands;
          none = refl;
          upper = [];
          upper_frames = [];
          u = u;
          u_frames = [];
          between = between;
          between_frames = bfs;
          parts = is;
          frame_parts = is_frames;
          thread = ap length is;
          acts = [];
          fs = [];
          steps = 1;
          at = (0, omega arith, subst (λ (pc : ℕ). Stands t.p t.names t.held (beneath t u.note.cell us rest) 0 (at_place pc m) [] []) (sym place) stands, refl);
          read = record { before = []; parts = refl; last = λ some. absurd (some refl) };
          exports = can.exports;
          total = total;
        };
      }

  pub starts : (m : State) (s : Exports) (n : ℕ) → CanGive t notes m s (suc n) → Starts m s n
  starts m s n can =
      let steps = can.steps in
      let threads : threads_of t ≡ t.above ++ t.taken ∷ [] = ap (λ (us : List Known). t.above ++ t.taken ∷ us) can.bottom.alone in
      let frames : frames_of t ≡ t.above_frames ++ t.frames ∷ [] = ap (λ (us : List (List Frame)). t.above_frames ++ t.frames ∷ us) can.bottom.alone_frames in
      let total = ap (λ (us : List Known). all_steps t.p us (frames_of t)) threads ∙ ap (all_steps t.p (t.above ++ t.taken ∷ [])) frames in
      starts_with m s n t.above t.above_frames refl refl can
      (subst (TopStands t.p t.names t.held m (t.above ++ t.taken ∷ [])) frames (subst (λ (us : List Known). TopStands t.p t.names t.held m us (frames_of t)) threads can.stands))
      (omega (arith, steps, total))

  pub notes_count : IsBottom t notes → length notes ≡ length t.above + 1
  notes_count bottom =
      let all = ap length bottom.notes_are in
      let threads = ap (λ (us : List Known). length (t.above ++ t.taken ∷ us)) bottom.alone in
      let more = one_more t.above t.taken in
      let long = notes_length (threads_of t) in
      omega (arith, all, threads, more, long)

  -- ---- the third jump of a fork

  record AtFork (walk : Walk) (stage : Stage) (us : List Known) (rest : List (List Frame)) (n : ℕ) : Type 0 where
    pub frame : stage ≡ stages.Frame
    pub one : n ≡ 1
    pub long : length rest ≡ length us
    pub ends : Ends
    pub machine : IsOn ends (over t.held walk.machine)

  at_fork : (walk : Walk) (handle : Reg) (cell : ℕ) (us : List Known) (rest : List (List Frame)) (n : ℕ) (stage : Stage) (acts : List Activation) (fs : List Frame) → walk_place image.forks stage walk.machine.pc ≡ places.Fork handle → IsAt t.p t.d t.names t.held (beneath t cell us rest) stage walk.machine acts fs n → AtFork walk stage us rest n
  at_fork walk handle cell us rest n (stages.Copy left) acts fs is at = absurd (let no : ⊥ = cc in no)
  at_fork walk handle cell us rest n stages.Frame [] [] is (ahead, few, stands, total) =
      let (kind, (kept, lower)) = stands.remaining in
      record { frame = refl; one = total; long = lower_long t.p t.names t.held cell us rest kind kept (word_in t.held) (value_in walk.machine) (register walk.machine registers.S0) walk.machine.pc lower; ends = stands.ends; machine = stands.machine }
  at_fork walk handle cell us rest n stages.Frame [] (f ∷ fs) is (ahead, few, stands, total) = absurd stands.remaining
  at_fork walk handle cell us rest n stages.Frame (a ∷ older) fs is (ahead, few, stands, total) =
      let frame = frame_here t.p t.d image code t.names t.held (beneath t cell us rest) ahead walk.machine.pc (register walk.machine registers.S0) (word_in t.held) (value_in walk.machine) (a ∷ older) fs few stands.remaining in
      absurd (let no : ⊥ = cc in no)

  down_is : (u : Known) (u_frames : List Frame) (us : List Known) (rest : List (List Frame)) (handle : Reg) (cell : ℕ) (wm : State) → between 24 28 (reg_number handle) ≡ true → HasRegisters wm → suspending.IsResumed image (of_thread u u_frames us rest) code notes handle cell (value_in wm) wm.pc (register wm registers.S0) wm (downward wm handle cell)
  down_is u u_frames us rest handle cell wm kept has =
      let range = between_holds 24 28 (reg_number handle) kept in
      let low = range.0 in
      let high = range.1 in
      let some = not_zero handle (omega arith) in
      record {
        place = refl;
        base = value-written_other wm handle cell 8 (λ e. absurd (omega (arith, e)));
        same = λ x is. suspending.put_written wm handle cell x has.count some;
        others = λ x fp unkept. value-written_other wm handle cell x (λ e. elim (suspending.unkept_out x unkept) [ inl under ↦ absurd (omega (arith, e, under, low)) | inr over ↦ absurd (omega (arith, e, over, high)) ]);
        count = length-written wm handle cell;
        lo = lo-written wm handle cell;
        hi = hi-written wm handle cell;
        whole = refl;
      }

  on_down : (ends : Ends) (held' : List (Option ℕ)) (wm : State) (handle : Reg) (cell : ℕ) → between 24 28 (reg_number handle) ≡ true → cell < 2 ^ 32 → AreWords (word_in held') → IsOn ends (over t.held wm) → IsOn ends (over held' (downward wm handle cell))
  on_down ends held' wm handle cell kept few words on =
      let range = between_holds 24 28 (reg_number handle) kept in
      let low = range.0 in
      let w = machine_written ends (over t.held wm) handle cell (wm.pc + 4) (record { ra = λ e. absurd (omega (arith, e)); sp = λ e. absurd (omega (arith, e)); fp = λ e. absurd (omega (arith, e)); gp = λ e. absurd (omega (arith, e)) }) (omega arith) on in
      record { has_registers = record { count = w.has_registers.count; origin = w.has_registers.origin }; values = w.values; words = words; lo = w.lo; hi = w.hi; sp = w.sp; gp = w.gp }

  pub fork_few : (walk : Walk) (handle : Reg) (m : State) (s : Exports) (n : ℕ) → walk_place image.forks walk.stage walk.machine.pc ≡ places.Fork handle → GivingAbove t notes walk m s n → walk.machine.pc + 4 < 2 ^ 32
  fork_few walk handle m s n is g = (suspending.forks_by image (of_thread g.u g.u_frames (g.between ++ t.taken ∷ []) (g.between_frames ++ t.frames ∷ [])) code notes walk handle g.steps walk.stage g.acts g.fs is g.at).fork.third.high

  pub not_bottom : (walk : Walk) (handle : Reg) (m : State) (s : Exports) (n : ℕ) → walk_place image.forks walk.stage walk.machine.pc ≡ places.Fork handle → Giving walk m s n → GivingAbove t notes walk m s n
  not_bottom walk handle m s n is (inl g) = g
  not_bottom walk handle m s n is (inr g) = absurd ((suspending.forks_by image (of_thread t.taken t.frames [] []) code notes walk handle n walk.stage g.acts g.fs is g.at).fork.some refl)

  pub note_here : (walk : Walk) (m : State) (s : Exports) (n : ℕ) (g : GivingAbove t notes walk m s n) → slice_get notes walk.thread ≡ Some g.u.note
  note_here walk m s n g =
      let all = g.bottom.notes_are ∙ ap notes_of (threads_parts walk m s n g) in
      let place : length (g.between ++ t.taken ∷ []) ≡ walk.thread = one_more g.between t.taken ∙ sym g.thread in
      subst (λ (k : ℕ). slice_get notes k ≡ Some g.u.note) place (ap (λ (ns : List Note). slice_get ns (length (g.between ++ t.taken ∷ []))) all ∙ note_there g.upper g.u (g.between ++ t.taken ∷ []))

  pub bottom_note : IsBottom t notes → slice_get notes 0 ≡ Some t.taken.note
  bottom_note bottom = ap (λ (ns : List Note). slice_get ns 0) (bottom.notes_are ∙ ap (λ (us : List Known). notes_of (t.above ++ t.taken ∷ us)) bottom.alone) ∙ note_there t.above t.taken []

  -- ---- another thread lies below

  lowered_to : (walk : Walk) (handle : Reg) (m : State) (s : Exports) (n : ℕ) (bs : List Known) (bfs : List (List Frame)) (g : GivingAbove t notes walk m s (suc n)) → g.between ≡ bs → g.between_frames ≡ bfs → walk_place image.forks walk.stage walk.machine.pc ≡ places.Fork handle → walk.thread ≢ 1 → g.u.note.cell < 2 ^ 32
      → IsAt t.p t.d t.names t.held (beneath t g.u.note.cell (bs ++ t.taken ∷ []) (bfs ++ t.frames ∷ [])) walk.stage walk.machine g.acts g.fs g.steps → suc n ≡ g.steps + threads_steps t.p (bs ++ t.taken ∷ []) → GivingAbove t notes (gone_below walk handle g.u.note.cell) m s n
  lowered_to walk handle m s n [] bfs g same same_frames is other few at total = absurd (other (g.thread ∙ ap (λ (us : List Known). suc (length us)) same))
  lowered_to walk handle m s n (v ∷ bs) [] g same same_frames is other few at total =
      let fork = at_fork walk handle g.u.note.cell ((v ∷ bs) ++ t.taken ∷ []) (t.frames ∷ []) g.steps walk.stage g.acts g.fs is at in
      let long = fork.long in
      let more = one_more bs t.taken in
      absurd (omega (arith, long, more))
  lowered_to walk handle m s n (v ∷ bs) (gs ∷ bfs) g same same_frames is other few at total =
      let us = (v ∷ bs) ++ t.taken ∷ [] in
      let rest = (gs ∷ bfs) ++ t.frames ∷ [] in
      let here = at_fork walk handle g.u.note.cell us rest g.steps walk.stage g.acts g.fs is at in
      let f = suspending.forks_by image (of_thread g.u g.u_frames us rest) code notes walk handle g.steps walk.stage g.acts g.fs is at in
      let dm = downward walk.machine handle g.u.note.cell in
      let goes : GoesOn (of_thread g.u g.u_frames us rest) t.held v gs (bs ++ t.taken ∷ []) (bfs ++ t.frames ∷ []) walk.machine dm = f.fork.goes t.held walk.machine dm (suspending.all_self t.held (joined rest)) (down_is g.u g.u_frames us rest handle g.u.note.cell walk.machine f.fork.third.kept f.has) in
      let one = here.one in
      let place = g.thread ∙ ap (λ (us : List Known). suc (length us)) same in
      record {
        bottom = g.bottom;
        framed = g.framed;
        stands = g.stands;
        none = g.none;
        upper = g.upper ++ g.u ∷ [];
        upper_frames = g.upper_frames ++ g.u_frames ∷ [];
        u = v;
        u_frames = gs;
        between = bs;
        between_frames = bfs;
        parts = g.parts ∙ ap (λ (us : List Known). g.upper ++ g.u ∷ us) same ∙ sym (append_assoc g.upper (g.u ∷ []) (v ∷ bs));
        frame_parts = g.frame_parts ∙ ap (λ (us : List (List Frame)). g.upper_frames ++ g.u_frames ∷ us) same_frames ∙ sym (append_assoc g.upper_frames (g.u_frames ∷ []) (gs ∷ bfs));
        thread = omega (arith, place);
        acts = v.thread.activations;
        fs = gs;
        steps = steps_of t.p v.thread.activations;
        at = subst (λ (stage : Stage). IsAt t.p t.d t.names t.held (beneath t v.note.cell (bs ++ t.taken ∷ []) (bfs ++ t.frames ∷ [])) stage dm v.thread.activations gs (steps_of t.p v.thread.activations)) (sym here.frame) (
          0,
          omega arith,
          record {
            ends = here.ends;
            machine = on_down here.ends t.held walk.machine handle g.u.note.cell f.fork.third.kept few here.machine.words here.machine;
            whole = refl;
            remaining = suspending.remaining_newest t.p t.names t.held (beneath t v.note.cell (bs ++ t.taken ∷ []) (bfs ++ t.frames ∷ [])) 0 dm.pc (register dm registers.S0) (word_in t.held) (value_in dm) v.thread.activations gs goes.thread;
          },
          refl,
        );
        read = record { before = []; parts = refl; last = λ some. absurd (some refl) };
        exports = g.exports;
        total = omega (arith, total, one);
      }

  pub lowered : (walk : Walk) (handle : Reg) (m : State) (s : Exports) (n : ℕ) (g : GivingAbove t notes walk m s (suc n)) → walk_place image.forks walk.stage walk.machine.pc ≡ places.Fork handle → walk.thread ≢ 1 → g.u.note.cell < 2 ^ 32 → GivingAbove t notes (gone_below walk handle g.u.note.cell) m s n
  lowered walk handle m s n g is other few = lowered_to walk handle m s n g.between g.between_frames g refl refl is other few g.at g.total

  pub may_row : (walk : Walk) (m : State) (s : Exports) (n : ℕ) (b : Begins walk m s n) (row : FrameRow) → row_behind image.rows walk.machine.pc ≡ Some row → is_some walk.chain ≡ true → IsFrameOn s.lo s.hi (frame_of row walk.machine) → MayExport s.exported (frame_of row walk.machine)
  may_row walk m s n b row there taken on = suspending.may_row s walk b.row row (sym b.found ∙ there) (b.may taken) on

  -- ---- the bottom thread lies below

  -- a thread among others stands somewhere
  record StandsAmong (u : Known) (fs : List Frame) (us : List Known) (rest : List (List Frame)) : Type 0 where
    pub ahead : ℕ
    pub pc : ℕ
    pub fp : ℕ
    pub value : ℕ → ℕ
    pub newest : FromNewest t.p (named_by t.names) (is_held t.held) (beneath t u.note.cell us rest) ahead pc fp (word_in t.held) value u.thread.activations fs

  lower_among : (u : Known) (fs : List Frame) (vs : List Known) (more : List (List Frame)) (cell : ℕ) (us : List Known) (rest : List (List Frame)) (kind : ActivationKind) (kept : File) (value : ℕ → ℕ) (fp ret : ℕ) → length rest ≡ length us → Lower t.p (named_by t.names) (is_held t.held) cell (us ++ u ∷ vs) (rest ++ fs ∷ more) kind kept (word_in t.held) value fp ret → StandsAmong u fs vs more
  lower_among u fs vs more cell [] [] kind kept value fp ret long (handle, forked, behind, over, newest) = record { ahead = 0; pc = ret + 4; fp = fp; value = put_value (reg_number handle) cell value; newest = newest }
  lower_among u fs vs more cell (v ∷ us) (gs ∷ rest) kind kept value fp ret long (handle, forked, behind, over, newest) =
      let r = newest_reaches t.p t.names t.held (beneath t v.note.cell (us ++ u ∷ vs) (rest ++ fs ∷ more)) 0 (ret + 4) fp (word_in t.held) (put_value (reg_number handle) cell value) v.thread.activations gs newest in
      lower_among u fs vs more v.note.cell us rest r.kind r.kept r.value r.fp r.ret (omega (arith, long)) r.there
  lower_among u fs vs more cell [] (gs ∷ rest) kind kept value fp ret long lower = absurd (omega (arith, long))
  lower_among u fs vs more cell (v ∷ us) [] kind kept value fp ret long lower = absurd (omega (arith, long))

  top_among : (m : State) (u : Known) (fs : List Frame) (vs : List Known) (more : List (List Frame)) (us : List Known) (rest : List (List Frame)) → length rest ≡ length us → (us ≡ [] → fs ≢ []) → TopStands t.p t.names t.held m (us ++ u ∷ vs) (rest ++ fs ∷ more) → StandsAmong u fs vs more
  top_among m u fs vs more [] [] long some (inl newest) = record { ahead = 0; pc = m.pc; fp = register m registers.S0; value = value_in m; newest = newest }
  top_among m u fs vs more [] [] long some (inr (none, (kept, lower))) = absurd (some refl none)
  top_among m u fs vs more (v ∷ us) (gs ∷ rest) long some (inl newest) =
      let r = newest_reaches t.p t.names t.held (beneath t v.note.cell (us ++ u ∷ vs) (rest ++ fs ∷ more)) 0 m.pc (register m registers.S0) (word_in t.held) (value_in m) v.thread.activations gs newest in
      lower_among u fs vs more v.note.cell us rest r.kind r.kept r.value r.fp r.ret (omega (arith, long)) r.there
  top_among m u fs vs more (v ∷ us) (gs ∷ rest) long some (inr (none, (kept, lower))) = lower_among u fs vs more v.note.cell us rest Forked kept (value_in m) (register m registers.S0) (m.pc + 4) (omega (arith, long)) lower
  top_among m u fs vs more [] (gs ∷ rest) long some stands = absurd (omega (arith, long))
  top_among m u fs vs more (v ∷ us) [] long some stands = absurd (omega (arith, long))

  -- over the words after the cut, by which the thread u has nothing below it
  module _ (held' : List (Option ℕ)) (u : Known) (fs : List Frame) (vs : List Known) (more : List (List Frame))
      (alone : (ahead pc fp : ℕ) (value : ℕ → ℕ) (acts : List Activation) → FromNewest t.p (named_by t.names) (is_held t.held) (beneath t u.note.cell vs more) ahead pc fp (word_in t.held) value acts fs → FromNewest t.p (named_by t.names) (is_held held') AtEnd ahead pc fp (word_in held') value acts fs) where
    abbrev Cut : List Known → List (List Frame) → ℕ → Context
    Cut us rest cell = Lower t.p (named_by t.names) (is_held held') cell (us ++ u ∷ []) (rest ++ fs ∷ [])

    newest_kept : (v : Known) (gs : List Frame) (us : List Known) (rest : List (List Frame)) (pc fp : ℕ) (value : ℕ → ℕ)
        → ((kind : ActivationKind) (kept : File) (value value' : ℕ → ℕ) (fp ret : ℕ) → SameKept value value' → Lower t.p (named_by t.names) (is_held t.held) v.note.cell (us ++ u ∷ vs) (rest ++ fs ∷ more) kind kept (word_in t.held) value fp ret → Cut us rest v.note.cell kind kept (word_in held') value' fp ret)
        → AllSameHeld t.held held' gs → FromNewest t.p (named_by t.names) (is_held t.held) (beneath t v.note.cell (us ++ u ∷ vs) (rest ++ fs ∷ more)) 0 pc fp (word_in t.held) value v.thread.activations gs → FromNewest t.p (named_by t.names) (is_held held') (Cut us rest v.note.cell) 0 pc fp (word_in held') value v.thread.activations gs
    newest_kept v gs us rest pc fp value passes all newest =
        newest_same t.p (named_by t.names) (named_by t.names) (λ name n is. is) (is_held t.held) (is_held held') (word_in t.held) (word_in held') code.accepted (beneath t v.note.cell (us ++ u ∷ vs) (rest ++ fs ∷ more)) (Cut us rest v.note.cell) passes v.thread.activations gs 0 pc fp value value all (λ x is. refl) newest

    lower_cut : (us : List Known) (rest : List (List Frame)) (cell : ℕ) → length rest ≡ length us → AllSameHeld t.held held' (joined rest) → (kind : ActivationKind) (kept : File) (value value' : ℕ → ℕ) (fp ret : ℕ) → SameKept value value' → Lower t.p (named_by t.names) (is_held t.held) cell (us ++ u ∷ vs) (rest ++ fs ∷ more) kind kept (word_in t.held) value fp ret → Cut us rest cell kind kept (word_in held') value' fp ret
    lower_cut [] [] cell long all kind kept value value' fp ret same lower =
        let (handle, forked, behind, over, newest) = lower_same t.p (named_by t.names) (named_by t.names) (λ name n is. is) (is_held t.held) (is_held t.held) (word_in t.held) (word_in t.held) code.accepted (u ∷ vs) (fs ∷ more) cell (suspending.all_self t.held (joined (fs ∷ more))) kind kept value value' fp ret same lower in
        (handle, forked, behind, over, alone 0 (ret + 4) fp (put_value (reg_number handle) cell value') u.thread.activations newest)
    lower_cut (v ∷ us) (gs ∷ rest) cell long all kind kept value value' fp ret same lower =
        let (handle, forked, behind, over, newest) = lower_same t.p (named_by t.names) (named_by t.names) (λ name n is. is) (is_held t.held) (is_held t.held) (word_in t.held) (word_in t.held) code.accepted (v ∷ (us ++ u ∷ vs)) (gs ∷ (rest ++ fs ∷ more)) cell (suspending.all_self t.held (joined (gs ∷ (rest ++ fs ∷ more)))) kind kept value value' fp ret same lower in
        let parts = suspending.all_split image t code notes t.held held' gs (joined rest) all in
        (handle, forked, behind, over, newest_kept v gs us rest (ret + 4) fp (put_value (reg_number handle) cell value') (lower_cut us rest v.note.cell (omega (arith, long)) parts.1) parts.0 newest)
    lower_cut [] (gs ∷ rest) cell long all kind kept value value' fp ret same lower = absurd (omega (arith, long))
    lower_cut (v ∷ us) [] cell long all kind kept value value' fp ret same lower = absurd (omega (arith, long))

    top_cut : (m : State) (us : List Known) (rest : List (List Frame)) → length rest ≡ length us → (us ≡ [] → fs ≢ []) → AllSameHeld t.held held' (joined rest) → TopStands t.p t.names t.held m (us ++ u ∷ vs) (rest ++ fs ∷ more) → TopStands t.p t.names held' m (us ++ u ∷ []) (rest ++ fs ∷ [])
    top_cut m [] [] long some all (inl newest) = inl (alone 0 m.pc (register m registers.S0) (value_in m) u.thread.activations newest)
    top_cut m [] [] long some all (inr (none, (kept, lower))) = absurd (some refl none)
    top_cut m (v ∷ us) (gs ∷ rest) long some all (inl newest) =
        let parts = suspending.all_split image t code notes t.held held' gs (joined rest) all in
        inl (newest_kept v gs us rest m.pc (register m registers.S0) (value_in m) (lower_cut us rest v.note.cell (omega (arith, long)) parts.1) parts.0 newest)
    top_cut m (v ∷ us) (gs ∷ rest) long some all (inr (none, (kept, lower))) =
        let parts = suspending.all_split image t code notes t.held held' gs (joined rest) all in
        inr (none, (kept, lower_cut us rest v.note.cell (omega (arith, long)) parts.1 Forked kept (value_in m) (value_in m) (register m registers.S0) (m.pc + 4) (λ x is. refl) lower))
    top_cut m [] (gs ∷ rest) long some all stands = absurd (omega (arith, long))
    top_cut m (v ∷ us) [] long some all stands = absurd (omega (arith, long))

  bottom_append : (xs ys : List Frame) → ys ≢ [] → bottom_word (xs ++ ys) ≡ bottom_word ys
  bottom_append [] ys some = refl
  bottom_append (x ∷ []) [] some = absurd (some refl)
  bottom_append (x ∷ []) (y ∷ ys) some = refl
  bottom_append (x ∷ z ∷ xs) ys some = bottom_append (z ∷ xs) ys some

  no_more : (fs : List Frame) → fs ++ [] ≡ fs
  no_more [] = refl
  no_more (f ∷ fs) = ap (λ (xs : List Frame). f ∷ xs) (no_more fs)

  -- what is known where the walk has come to the fork of the bottom thread
  pub record AtCut (walk : Walk) (handle : Reg) (m : State) (s : Exports) (n : ℕ) : Type 0 where
    pub few : return_word walk.base < 2 ^ 32
    pub word : return_word walk.base ≡ cut_word t
    pub place : walk.machine.pc + 4 < 2 ^ 32
    pub note : Note
    pub there : slice_get notes 1 ≡ Some note
    pub next : note.cell < 2 ^ 32 → GivingBottom (over_words (slice_set t.held (cut_word t) (Some 0x30)) t) notes (gone_to_bottom walk handle note.cell t.taken.note) m s n

  cut_to : (walk : Walk) (handle : Reg) (m : State) (s : Exports) (n : ℕ) (bs : List Known) (bfs : List (List Frame)) (g : GivingAbove t notes walk m s (suc n)) → g.between ≡ bs → g.between_frames ≡ bfs → walk_place image.forks walk.stage walk.machine.pc ≡ places.Fork handle → walk.thread ≡ 1
      → IsAt t.p t.d t.names t.held (beneath t g.u.note.cell (bs ++ t.taken ∷ []) (bfs ++ t.frames ∷ [])) walk.stage walk.machine g.acts g.fs g.steps → suc n ≡ g.steps + threads_steps t.p (bs ++ t.taken ∷ [])
      → AllApart (joined g.upper_frames ++ (g.u_frames ++ joined (bfs ++ t.frames ∷ []))) → TopStands t.p t.names t.held m (g.upper ++ g.u ∷ (bs ++ t.taken ∷ [])) (g.upper_frames ++ g.u_frames ∷ (bfs ++ t.frames ∷ [])) → AtCut walk handle m s n
  cut_to walk handle m s n (v ∷ bs) bfs g same same_frames is one at total apart stands = let place = sym one ∙ g.thread ∙ ap (λ (us : List Known). suc (length us)) same in absurd (omega (arith, place))
  cut_to walk handle m s n [] (gs ∷ bfs) g same same_frames is one at total apart stands =
      let fork = at_fork walk handle g.u.note.cell (t.taken ∷ []) ((gs ∷ bfs) ++ t.frames ∷ []) g.steps walk.stage g.acts g.fs is at in
      let long = fork.long in
      let more = one_more bfs t.frames in
      absurd (omega (arith, long, more))
  cut_to walk handle m s n [] [] g same same_frames is one at total apart stands =
      let us = t.taken ∷ [] in
      let rest = t.frames ∷ [] in
      let tu = of_thread g.u g.u_frames us rest in
      let here = at_fork walk handle g.u.note.cell us rest g.steps walk.stage g.acts g.fs is at in
      let f = suspending.forks_by image tu code notes walk handle g.steps walk.stage g.acts g.fs is at in
      let parts : t.above ≡ g.upper ++ g.u ∷ [] = g.parts ∙ ap (λ (xs : List Known). g.upper ++ g.u ∷ xs) same in
      let frame_parts : t.above_frames ≡ g.upper_frames ++ g.u_frames ∷ [] = g.frame_parts ∙ ap (λ (xs : List (List Frame)). g.upper_frames ++ g.u_frames ∷ xs) same_frames in
      let total_long = stands_long t.p t.names t.held m (g.upper ++ g.u ∷ us) (g.upper_frames ++ g.u_frames ∷ rest) stands in
      let long_one = length-append g.upper (g.u ∷ us) in
      let long_two = length-append g.upper_frames (g.u_frames ∷ rest) in
      let long : length g.upper_frames ≡ length g.upper = omega (arith, total_long, long_one, long_two) in
      let framed : g.upper ≡ [] → g.u_frames ≢ [] = λ none empty. g.framed (frame_parts ∙ (λ i. no_frames g.upper_frames (long ∙ ap length none) i ++ empty i ∷ [])) in
      let among = top_among m g.u g.u_frames us rest g.upper g.upper_frames long framed stands in
      let some = suspending.some_frames t.p t.names t.held (beneath t g.u.note.cell us rest) among.ahead among.pc among.fp (word_in t.held) among.value g.u.thread.activations g.u_frames among.newest in
      let read : bottom_word g.u_frames ≡ return_word walk.base = read_all g.u_frames walk.base some (subst (IsRead g.u_frames walk.base) f.none g.read) in
      let cut = suspending.cut_by image tu code notes walk among.ahead among.pc among.fp among.value g.u.thread.activations g.u_frames refl (all_tail (joined g.upper_frames) (g.u_frames ++ joined rest) apart) read among.newest in
      let word : bottom_word g.u_frames ≡ cut_word t =
      sym (ap (λ (xs : List (List Frame)). bottom_word (joined xs)) frame_parts ∙ ap bottom_word (joined_append g.upper_frames (g.u_frames ∷ [])) ∙ bottom_append (joined g.upper_frames) (g.u_frames ++ []) (λ none. some (sym (no_more g.u_frames) ∙ none)) ∙ ap bottom_word (no_more g.u_frames)) in
      let held' = slice_set t.held (bottom_word g.u_frames) (Some 0x30) in
      let dm = downward walk.machine handle g.u.note.cell in
      let goes : GoesOn tu held' t.taken t.frames [] [] walk.machine dm = f.fork.goes held' walk.machine dm cut.below (down_is g.u g.u_frames us rest handle g.u.note.cell walk.machine f.fork.third.kept f.has) in
      let one_step = here.one in
      let stands' = top_cut held' g.u g.u_frames us rest cut.alone m g.upper g.upper_frames long framed (cut.beside (joined g.upper_frames) apart) stands in
      let here_stands = subst (λ (xs : List (List Frame)). TopStands t.p t.names held' m t.above xs) (sym frame_parts) (subst (λ (xs : List Known). TopStands t.p t.names held' m xs (g.upper_frames ++ g.u_frames ∷ [])) (sym parts) stands') in
      let after : g.u.note.cell < 2 ^ 32 → GivingBottom (over_words held' t) notes (gone_to_bottom walk handle g.u.note.cell t.taken.note) m s n = λ few.
      let on = on_down here.ends held' walk.machine handle g.u.note.cell f.fork.third.kept few (cut.words here.machine.words) here.machine in
      record {
        bottom = record { alone = g.bottom.alone; alone_frames = g.bottom.alone_frames; ready = g.bottom.ready; notes_are = g.bottom.notes_are; apart = g.bottom.apart };
        stands = here_stands;
        chain = chain_at dm (walk.machine.pc + 4) t.taken.note waits.Ready;
        is_chain = refl;
        is_note = refl;
        is_cell = refl;
        is_wait = sym g.bottom.ready;
        chain_stands = suspending.over_kept t.p code.accepted t.names held' t.taken.note.cell [] [] waits.Ready (walk.machine.pc + 4) (register dm registers.S0) (value_in dm) (saved_value (saved_in dm)) t.taken.thread t.frames (suspending.saved_same dm on.has_registers)
            (0, refl, (goes.holds.holds, goes.holds.long), (λ x name kept there. goes.holds.file x name there), goes.thread);
        thread = refl;
        acts = t.taken.thread.activations;
        fs = t.frames;
        at = subst (λ (stage : Stage). IsAt t.p t.d t.names held' AtEnd stage dm t.taken.thread.activations t.frames n) (sym here.frame) (
          0,
          omega arith,
          record { ends = here.ends; machine = on; whole = refl; remaining = suspending.remaining_newest t.p t.names held' AtEnd 0 dm.pc (register dm registers.S0) (word_in held') (value_in dm) t.taken.thread.activations t.frames goes.thread },
          omega (arith, total, one_step),
        );
        read = record { before = []; parts = refl; last = λ some. absurd (some refl) };
        exports = g.exports;
      } in
      record {
        few = cut.few;
        word = sym read ∙ word;
        place = f.fork.third.high;
        note = g.u.note;
        there = subst (λ (k : ℕ). slice_get notes k ≡ Some g.u.note) one (note_here walk m s (suc n) g);
        next = λ few. subst (λ (q : ℕ). GivingBottom (over_words (slice_set t.held q (Some 0x30)) t) notes (gone_to_bottom walk handle g.u.note.cell t.taken.note) m s n) word (after few);
      }
    where
      no_frames : (xs : List (List Frame)) → length xs ≡ 0 → xs ≡ []
      no_frames [] long = refl
      no_frames (x ∷ xs) long = absurd (omega (arith, long))

  pub cut_off : (walk : Walk) (handle : Reg) (m : State) (s : Exports) (n : ℕ) → GivingAbove t notes walk m s (suc n) → walk_place image.forks walk.stage walk.machine.pc ≡ places.Fork handle → walk.thread ≡ 1 → AtCut walk handle m s n
  cut_off walk handle m s n g is one =
      cut_to walk handle m s n g.between g.between_frames g refl refl is one g.at g.total (above_apart walk m s (suc n) g)
      (subst (λ (xs : List (List Frame)). TopStands t.p t.names t.held m (g.upper ++ g.u ∷ (g.between ++ t.taken ∷ [])) xs) (frames_parts walk m s (suc n) g) (subst (λ (xs : List Known). TopStands t.p t.names t.held m xs (frames_of t)) (threads_parts walk m s (suc n) g) g.stands))

  -- ---- the end

  not_end : (walk : Walk) (cell : ℕ) (us : List Known) (rest : List (List Frame)) (n : ℕ) (stage : Stage) (acts : List Activation) (fs : List Frame) → us ≢ [] → walk_place image.forks stage walk.machine.pc ≡ places.End → IsAt t.p t.d t.names t.held (beneath t cell us rest) stage walk.machine acts fs n → ⊥
  not_end walk cell us rest n (stages.Copy left) acts fs some is at = let no : ⊥ = cc in no
  not_end walk cell us rest n stages.Frame [] [] some is (ahead, few, stands, total) =
      let (kind, (kept, lower)) = stands.remaining in
      let next = third_lower cell us rest kind kept (word_in t.held) (value_in walk.machine) (register walk.machine registers.S0) walk.machine.pc some lower in
      let fork = fork_here t.p t.d image code t.names t.held walk.machine.pc next.handle next.third in
      let no : ⊥ = cc in no
  not_end walk cell us rest n stages.Frame [] (f ∷ fs) some is (ahead, few, stands, total) = absurd stands.remaining
  not_end walk cell us rest n stages.Frame (a ∷ older) fs some is (ahead, few, stands, total) =
      let frame = frame_here t.p t.d image code t.names t.held (beneath t cell us rest) ahead walk.machine.pc (register walk.machine registers.S0) (word_in t.held) (value_in walk.machine) (a ∷ older) fs few stands.remaining in
      let no : ⊥ = cc in no

  pub is_bottom : (walk : Walk) (m : State) (s : Exports) (n : ℕ) → walk_place image.forks walk.stage walk.machine.pc ≡ places.End → Giving walk m s n → GivingBottom t notes walk m s n
  is_bottom walk m s n is (inl g) = absurd (not_end walk g.u.note.cell (g.between ++ t.taken ∷ []) (g.between_frames ++ t.frames ∷ []) g.steps walk.stage g.acts g.fs (some_last g.between t.taken) is g.at)
  is_bottom walk m s n is (inr g) = g

  all_exported : (walk : Walk) (s : Exports) (n : ℕ) (stage : Stage) (acts : List Activation) (fs : List Frame) → walk_place image.forks stage walk.machine.pc ≡ places.End → WillExport s fs t.exported → IsAt t.p t.d t.names t.held AtEnd stage walk.machine acts fs n → AreExported s t.exported
  all_exported walk s n (stages.Copy left) acts fs is exports at = absurd (let no : ⊥ = cc in no)
  all_exported walk s n stages.Frame [] [] is exports (ahead, few, stands, total) = are_exported s t.exported exports
  all_exported walk s n stages.Frame [] (f ∷ fs) is exports (ahead, few, stands, total) = absurd stands.remaining
  all_exported walk s n stages.Frame (a ∷ older) fs is exports (ahead, few, stands, total) =
      let frame = frame_here t.p t.d image code t.names t.held AtEnd ahead walk.machine.pc (register walk.machine registers.S0) (word_in t.held) (value_in walk.machine) (a ∷ older) fs few stands.remaining in
      absurd (let no : ⊥ = cc in no)

  pub ended : (walk : Walk) (chain : Chain) (m : State) (s : Exports) (n : ℕ) → walk_place image.forks walk.stage walk.machine.pc ≡ places.End → walk.chain ≡ Some chain → GivingBottom t notes walk m s n → IsTaken t t.held chain s
  ended walk chain m s n is has g =
      let same : g.chain ≡ chain = cc (g.is_chain, has) in
      let taken : IsTaken t t.held g.chain s = record { is_note = g.is_note; is_cell = g.is_cell; is_wait = g.is_wait; stands = g.chain_stands; exported = all_exported walk s n walk.stage g.acts g.fs is g.exports g.at } in
      subst (λ (c : Chain). IsTaken t t.held c s) same taken

  pub notes_left : IsBottom t notes → notes ≡ t.taken.note ∷ notes_of t.above
  notes_left bottom = bottom.notes_are ∙ ap (λ (us : List Known). notes_of (t.above ++ t.taken ∷ us)) bottom.alone ∙ bottom_first t.above t.taken

-- ---- as the code has them

module _ (t : Taking) (notes : List Note) (o : Option Walk) (m : State) (s : Exports) (n : ℕ) where
  pub with_walk : (walk : Walk) → o ≡ Some walk → Gives t notes o m s n → GivingAbove t notes walk m s n ⊎ GivingBottom t notes walk m s n
  with_walk walk is g = subst (λ (x : Option Walk). Gives t notes x m s n) is g

  pub without_walk : o ≡ None → Gives t notes o m s n → CanGive t notes m s n
  without_walk is g = subst (λ (x : Option Walk). Gives t notes x m s n) is g

pub got_inside_of : (notes notes' : List Note) (k : ℕ) (n : Note) → notes' ≡ notes → slice_get notes k ≡ Some n → k < length notes'
got_inside_of notes notes' k n same is = subst (λ (xs : List Note). k < length xs) (sym same) (got_inside notes k n is)
