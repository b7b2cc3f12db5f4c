-- A walk, step by step: what it finds at a place (frame_here, end_here, fork_here), a copy that begins at a frame (copy_begun) and goes on (copied), and
-- where what is older comes back to (below_back). The oldest frame of a thread: oldest.
use Rattle.std.proofs.Common.{◌≡◌, inl, inr, ℕ, zero, suc, ◌+◌, ◌-◌, ◌/◌, ◌%◌, ◌^◌, ◌<◌, ◌≤◌, Bool, true, List, [], ◌∷◌, ◌++◌, length, Option, Some, refl, ap, sym, ◌∙◌, subst, arith, if◌then◌else◌}
use Rattle.std.specs.List.{Contains}
use Rattle.std.proofs.lemmas.Bool.{lt-ltb, ne_eqb, eq-eqb}
use Rattle.st_base.specs.declared.chain.Frame.{Frame}
use Rattle.st_base.specs.declared.image.FrameRow.{FrameRow}
use Rattle.st_base.specs.declared.image.Image.{Image}
use Rattle.st_base.specs.declared.reg.Reg.{Reg}
use Rattle.st_base.specs.declared.reg.Reg.TheVariants as registers
use Rattle.st_base.specs.Reg.{reg_number}
use Rattle.st_base.specs.declared.thread.Activation.{Activation}
use Rattle.st_base.specs.declared.thread.ActivationKind.{ActivationKind}
use Rattle.st_base.specs.declared.thread.Held.{Held}
use Rattle.st_model.specs.declared.code.Layout.TheVariants.{Postprocessed}
use Rattle.st_model.specs.declared.program.Item.{Item}
use Rattle.st_model.specs.declared.program.ItemKind.TheVariants as items
use Rattle.st_model.specs.declared.program.Program.{Program}
use Rattle.st_model.specs.declared.program.ProgramFunction.{ProgramFunction}
use Rattle.st_model.specs.Accepted.{HasFrame, Fits}
use Rattle.st_model.specs.Effect.{File}
use Rattle.st_model.specs.Flow.{between}
use Rattle.st_model.specs.Layout.{IsCodeOf, row_at, saved_of, item_size, function_address}
use Rattle.st_model.specs.Memory.{Data}
use Rattle.st_model.proofs.CodeSize.{copy_length}
use Rattle.st_words.specs.declared.view.Known.{Known}
use Rattle.st_words.specs.Steps.{Step, Answer}
use Rattle.st_step.specs.declared.state.State.{State}
use Rattle.st_step.specs.Frames.{address_in, value_in, with_saved_values}
use Rattle.st_step.specs.Moves.{register, at_place}
use Rattle.st_step.specs.Runs.{IsReturn, Situation, return_word, caller_word}
use Rattle.st_items.specs.Body.{Context, Ends, IsOn}
use Rattle.st_items.specs.Code.{HasItem, IsSized}
use Rattle.st_items.specs.Rows.{row_behind}
use Rattle.st_items.proofs.Addresses.{sized, address_bounds, place_bounds, address_multiple, next_address}
use Rattle.st_items.proofs.ItemCode.{formed_of}
use Rattle.st_items.proofs.Rows.{row_found}
use Rattle.st_chain.specs.declared.walk.Place.TheVariants as places
use Rattle.st_chain.specs.declared.walk.Stage.{Stage}
use Rattle.st_chain.specs.declared.walk.Stage.TheVariants as stages
use Rattle.st_chain.specs.Walk.{word_in, is_held, named_by, LiesAt, Below, FromNewest}
use Rattle.st_chain.specs.Threads.{Lower, IsBehindFork, HasForked}
use Rattle.st_chain.specs.Seen.{joined, AreApart, IsWhole, IsOldest}
use Rattle.st_chain.specs.Copying.{over, CopyRuns, Loads, Copied}
use Rattle.st_chain.specs.Forks.{handle_behind}
use Rattle.st_chain.specs.Places.{place_by, place_at, counted, frame_of}
use Rattle.st_chain.specs.Walking.{Remaining, Stands, IsAt, steps_of, copy_steps}
use Rattle.st_chain.specs.Taking.{AllApart, bottom_word}
use Rattle.st_chain.proofs.Copying.{below_newest}
use Rattle.st_chain.proofs.ForkPlaces.{third_missed, third_found, take_size}
use Rattle.st_chain.proofs.Joining.{contains_here, contains_more, apart_at, turned, split_apart}
use Rattle.st_chain.proofs.LawsHold.{copies_give}

-- what follows where it goes, follows behind a load
module _ {Board : Type 0} (made : Step → Answer → Board → Type 0) (old new : Board) where
  pub loads_map : (held : List (Option ℕ)) (A B : Type 0) → (A → B) → Loads made old held new A → Loads made old held new B
  loads_map held A B so (inl (stays, goes)) = inl (stays, so goes)
  loads_map held A B so (inr (q, n, there, was_made, goes)) = inr (q, n, there, was_made, λ told. so (goes told))

-- ---- the third jump of a fork

record Third (p : Program) (ret : ℕ) (handle : Reg) : Type 0 where
  pub f : ℕ
  pub function : ProgramFunction
  pub i : ℕ
  pub item : Item
  pub g : ℕ
  pub has : HasItem p f function i item
  pub forks : item.kind ≡ items.Fork g handle
  pub at : ret ≡ address_in Postprocessed p f function i + 8

third_of : (p : Program) (ret : ℕ) (handle : Reg) (a : Activation) → 0 < a.next → IsBehindFork p ret handle a → Third p ret handle
third_of p ret handle a begun behind =
    let next : a.next - 1 + 1 ≡ a.next = omega arith in
    let follows = next_address Postprocessed p a.function behind.function (a.next - 1) behind.item behind.has in
    let there = ap (address_in Postprocessed p a.function behind.function) next in
    let three = ap (item_size Postprocessed behind.function) behind.forks in
    let third = behind.third in
    record { f = a.function; function = behind.function; i = a.next - 1; item = behind.item; g = behind.g; has = behind.has; forks = behind.forks; at = omega (arith, follows, there, three, third) }

-- what is known of it
pub record IsThirdOf (image : Image) (ret : ℕ) (handle : Reg) : Type 0 where
  pub found : handle_behind image.forks ret ≡ Some handle
  pub low : 0x10000 ≤ ret
  pub high : ret + 4 < 2 ^ 32
  pub multiple : ret % 4 ≡ 0
  pub kept : between 24 28 (reg_number handle) ≡ true

module _ (p : Program) (d : Data) (image : Image) (code : IsCodeOf Postprocessed p image) where
  pub is_sized : IsSized Postprocessed p
  is_sized = sized Postprocessed p code.accepted code.size

  handle_kept : (f i : ℕ) (function : ProgramFunction) (item : Item) (g : ℕ) (handle : Reg) → HasItem p f function i item → item.kind ≡ items.Fork g handle → between 24 28 (reg_number handle) ≡ true
  handle_kept f i function item g handle has forks =
      let fits = (formed_of p f function code.accepted has.named).fits i item has.placed in
      let parts : Fits p function (items.Fork g handle) = subst (Fits p function) forks fits in
      parts.1

  third_is : (ret : ℕ) (handle : Reg) → Third p ret handle → IsThirdOf image ret handle
  third_is ret handle t =
      let at = t.at in
      let bounds = address_bounds Postprocessed p t.f t.function t.i t.item is_sized t.has in
      let low = bounds.0 in
      let high = bounds.1 in
      let even = address_multiple Postprocessed p t.f t.function t.i in
      record {
        found = third_found p image t.f t.function t.i t.item t.g handle ret code t.has t.forks t.at;
        low = omega arith;
        high = omega arith;
        multiple = omega (arith, even, at);
        kept = handle_kept t.f t.i t.function t.item t.g handle t.has t.forks;
      }

  module _ (names : List (Held × ℕ)) (held : List (Option ℕ)) where
    abbrev Under : ℕ → List Known → List (List Frame) → Context
    Under cell ts frames = Lower p (named_by names) (is_held held) cell ts frames

    abbrev Newest : Context → ℕ → ℕ → ℕ → (ℕ → ℕ) → (ℕ → ℕ) → List Activation → List Frame → Type 0
    Newest end ahead pc fp word value acts fs = FromNewest p (named_by names) (is_held held) end ahead pc fp word value acts fs

    -- the thread below has forked there
    pub forked_third : (end : Context) (word value : ℕ → ℕ) (ahead pc fp ret : ℕ) (handle : Reg) (acts : List Activation) (fs : List Frame) → HasForked p ret handle acts → Newest end ahead pc fp word value acts fs → IsThirdOf image ret handle
    forked_third end word value ahead pc fp ret handle (a ∷ older) (f ∷ fs) behind (function, is) = third_is ret handle (third_of p ret handle a is.begun behind)
    forked_third end word value ahead pc fp ret handle (a ∷ older) [] behind newest = absurd newest
    forked_third end word value ahead pc fp ret handle [] fs behind newest = absurd behind

    -- ---- where what is older comes back to

    end_back : (cell : ℕ) (ts : List Known) (frames : List (List Frame)) (kind : ActivationKind) (kept : File) (word value : ℕ → ℕ) (fp ret : ℕ) → Under cell ts frames kind kept word value fp ret → IsReturn ret
    end_back cell [] [] kind kept word value fp ret (first, at) = record { multiple = ap (λ (n : ℕ). n % 4) at; below = omega arith }
    end_back cell (t ∷ ts) (fs ∷ rest) kind kept word value fp ret (handle, forked, behind, over, newest) =
        let third = forked_third (Under t.note.cell ts rest) word _ 0 (ret + 4) fp ret handle t.thread.activations fs behind newest in
        let high = third.high in
        record { multiple = third.multiple; below = omega arith }
    end_back cell [] (fs ∷ rest) kind kept word value fp ret lower = absurd lower
    end_back cell (t ∷ ts) [] kind kept word value fp ret lower = absurd lower

    below_back : (cell : ℕ) (ts : List Known) (frames : List (List Frame)) (older : List Activation) (fs : List Frame) (kind : ActivationKind) (kept : File) (word value : ℕ → ℕ) (fp ret : ℕ) → Below p (named_by names) (is_held held) (Under cell ts frames) older fs kind kept word value fp ret → IsReturn ret
    below_back cell ts frames [] [] kind kept word value fp ret below = end_back cell ts frames kind kept word value fp ret below
    below_back cell ts frames (a ∷ older) (f ∷ fs) kind kept word value fp ret below =
        let (function, is) = below_newest p (named_by names) (is_held held) (Under cell ts frames) a older f fs kind kept word value fp ret below in
        let at = is.at in
        let bounds = place_bounds Postprocessed p a.function function a.next is_sized is.here in
        let high = bounds.1 in
        let even = address_multiple Postprocessed p a.function function a.next in
        record { multiple = omega (arith, even, at); below = omega arith }
    below_back cell ts frames [] (f ∷ fs) kind kept word value fp ret below = absurd below
    below_back cell ts frames (a ∷ older) [] kind kept word value fp ret below = absurd below

    pub remaining_of : (end : Context) (older : List Activation) (fs : List Frame) (kind : ActivationKind) (kept : File) (word value : ℕ → ℕ) (fp ret : ℕ) → Below p (named_by names) (is_held held) end older fs kind kept word value fp ret → Remaining p (named_by names) (is_held held) end 0 ret fp word value older fs
    remaining_of end [] [] kind kept word value fp ret below = (kind, (kept, below))
    remaining_of end (a ∷ older) (f ∷ fs) kind kept word value fp ret below = below_newest p (named_by names) (is_held held) end a older f fs kind kept word value fp ret below
    remaining_of end [] (f ∷ fs) kind kept word value fp ret below = absurd below
    remaining_of end (a ∷ older) [] kind kept word value fp ret below = absurd below

    -- ---- what stands at a place

    pub frame_here : (end : Context) (ahead pc fp : ℕ) (word value : ℕ → ℕ) (acts : List Activation) (fs : List Frame) → ahead ≤ 1 → Newest end ahead pc fp word value acts fs → place_at image.forks pc ≡ places.Frame
    frame_here end ahead pc fp word value (a ∷ older) (f ∷ fs) few (function, is) =
        let at = is.at in
        let bounds = place_bounds Postprocessed p a.function function a.next is_sized is.here in
        let low = bounds.0 in
        let none = third_missed p image a.function function a.next ahead pc code is.here few at in
        ap (λ (b : Bool). if b then places.End else place_by (handle_behind image.forks pc)) (ne_eqb pc 0x30 (λ e. absurd (omega (arith, e)))) ∙ ap place_by none
    frame_here end ahead pc fp word value (a ∷ older) [] few newest = absurd newest
    frame_here end ahead pc fp word value [] fs few newest = absurd newest

    pub newest_few : (end : Context) (ahead pc fp : ℕ) (word value : ℕ → ℕ) (acts : List Activation) (fs : List Frame) → ahead ≤ 1 → Newest end ahead pc fp word value acts fs → pc < 2 ^ 32
    newest_few end ahead pc fp word value (a ∷ older) (f ∷ fs) few (function, is) =
        let at = is.at in
        let bounds = place_bounds Postprocessed p a.function function a.next is_sized is.here in
        let high = bounds.1 in
        omega arith
    newest_few end ahead pc fp word value (a ∷ older) [] few newest = absurd newest
    newest_few end ahead pc fp word value [] fs few newest = absurd newest

    pub end_here : (pc : ℕ) → pc ≡ 0x30 → place_at image.forks pc ≡ places.End
    end_here pc at = ap (λ (b : Bool). if b then places.End else place_by (handle_behind image.forks pc)) (eq-eqb pc 0x30 at)

    pub fork_here : (pc : ℕ) (handle : Reg) → IsThirdOf image pc handle → place_at image.forks pc ≡ places.Fork handle
    fork_here pc handle third =
        let low = third.low in
        ap (λ (b : Bool). if b then places.End else place_by (handle_behind image.forks pc)) (ne_eqb pc 0x30 (λ e. absurd (omega (arith, e)))) ∙ ap place_by third.found

    -- ---- a copy begins

    pub record CopyBegun (end : Context) (m : State) (older : List Activation) (f : Frame) (fs : List Frame) (n : ℕ) : Type 0 where
      pub row : FrameRow
      pub found : row_behind image.rows m.pc ≡ Some row
      pub frame : f ≡ frame_of row m
      pub left : ℕ
      pub is_left : (row.code_to - row.pure_at) / 4 ≡ left
      pub at : IsAt p d names held end (stages.Copy left) (at_place row.pure_at m) older fs n

    pub copy_begun : (cell : ℕ) (ts : List Known) (frames : List (List Frame)) (ends : Ends) (m : State) (ahead : ℕ) (a : Activation) (older : List Activation) (f : Frame) (fs : List Frame) (n : ℕ) → ahead ≤ 1 → IsOn ends (over held m) → suc n ≡ steps_of p (a ∷ older) → AreApart f fs → AreApart f (joined frames)
        → Newest (Under cell ts frames) ahead m.pc (register m registers.S0) (word_in held) (value_in m) (a ∷ older) (f ∷ fs) → CopyBegun (Under cell ts frames) m older f fs n
    copy_begun cell ts frames ends m ahead a older f fs n few on total apart apart_lower (function, is) =
        let from = function_address Postprocessed p a.function in
        let row = row_at Postprocessed from function in
        let at = is.at in
        let base = is.framed.base in
        let same = is.lies.base in
        let place = take_size function function.items a.next in
        let long = copy_length function in
        let found = row_found Postprocessed p a.function function m.pc is.here (omega arith) (omega (arith, at, place, long, few)) in
        let started = at_place row.pure_at m in
        let on' : IsOn ends (over held started) = record { has_registers = record { count = on.has_registers.count; origin = on.has_registers.origin }; values = on.values; words = on.words; lo = on.lo; hi = on.hi; sp = on.sp; gp = on.gp } in
        let (last, runs, leads, below) = copies_give p d names held ends started a older f fs cell ts frames ahead m.pc function code.accepted is_sized on' refl apart apart_lower
        (below_back cell ts frames older fs a.kind a.kept (word_in held) (with_saved_values (word_in held) (register m registers.S0) 0 (saved_of function) (value_in m)) (word_in held (caller_word (register m registers.S0))) (word_in held (return_word (register m registers.S0))) is.framed.below) is in
        let count : steps_of p (a ∷ older) ≡ 5 + length (saved_of function) + steps_of p older = ap (λ (o : Option ProgramFunction). copy_steps o + steps_of p older) is.here in
        let low : f.low ≡ register m registers.S0 - function.frame_bytes = omega arith in
        record {
          row = row;
          found = ap (λ rows. row_behind rows m.pc) code.is_image.rows ∙ found;
          frame = λ i. record { low = low i; base = sym same i };
          left = 4 + length (saved_of function);
          is_left = omega (arith, long);
          at = (a.function, (function, (last, runs, record { ends = ends; machine = leads.machine; whole = leads.whole; remaining = remaining_of (Under cell ts frames) older fs a.kind a.kept (word_in held) (value_in last) (register last registers.S0) last.pc below }, omega arith, omega (arith, count, total))));
        }

    -- ---- a copy goes on

    counted_some : (k : ℕ) → counted (stages.Copy (suc (suc k))) ≡ stages.Copy (suc k)
    counted_some k =
        let fewer : suc (suc k) - 1 ≡ suc k = omega arith in
        ap (λ (b : Bool). if b then stages.Copy (suc (suc k) - 1) else stages.Frame) (lt-ltb 1 (suc (suc k)) (omega arith)) ∙ ap stages.Copy fewer

    at_next : (end : Context) (f : ℕ) (function : ProgramFunction) (left : ℕ) (m' last : State) (acts : List Activation) (fs : List Frame) (n : ℕ) → Stands p names held end 0 last acts fs → n ≡ left + steps_of p acts → CopyRuns p d held f function left m' last → IsAt p d names held end (counted (stages.Copy (suc left))) m' acts fs n
    at_next end f function zero m' last acts fs n stands total runs =
        let same : m' ≡ last = ap (λ (s : Situation). s.state) runs.path in
        (0, omega arith, subst (λ (m : State). Stands p names held end 0 m acts fs) (sym same) stands, omega arith)
    at_next end f function (suc k) m' last acts fs n stands total runs =
        subst (λ (s : Stage). IsAt p d names held end s m' acts fs n) (sym (counted_some k)) (f, (function, (last, runs, stands, omega arith, total)))

    module _ {Board : Type 0} (made : Step → Answer → Board → Type 0) (old new : Board) where
      pub copied : (end : Context) (left : ℕ) (m m' : State) (acts : List Activation) (fs : List Frame) (n : ℕ) → Copied made old image d m m' new → IsAt p d names held end (stages.Copy left) m acts fs (suc n) → Loads made old held new (IsAt p d names held end (counted (stages.Copy left)) m' acts fs n)
      copied end zero m m' acts fs n goes (f, (function, (last, runs, stands, some, total))) = absurd (omega (arith, some))
      copied end (suc left) m m' acts fs n goes (f, (function, (last, runs, stands, some, total))) =
          loads_map made old new held _ _ (at_next end f function left m' last acts fs n stands (omega (arith, total))) (goes p held f function left last code runs)

    -- ---- the oldest frame

    -- a frame of which the return word is held
    record IsHeldWhole (f : Frame) : Type 0 where
      pub whole : IsWhole f
      pub there : is_held held (return_word f.base) ≡ true
      pub high : f.base < 0x8000_0000 + 2 ^ 32

    held_whole : (function : ProgramFunction) (fp : ℕ) (f : Frame) → HasFrame function → LiesAt (is_held held) function fp f → fp ≡ f.low + function.frame_bytes → IsHeldWhole f
    held_whole function fp f frame lies size =
        let base = lies.base in
        let least = frame.least in
        let multiple = frame.multiple in
        let even = lies.place.multiple in
        let above = lies.place.above in
        let high = lies.place.high in
        record {
          whole = record { above = lies.place.above; even = record { low = even; base = omega arith }; some = omega arith };
          there = lies.place.holds (return_word f.base) (omega arith) (omega arith);
          high = omega arith;
        }

    pub record Oldest (f : Frame) (fs more : List Frame) : Type 0 where
      pub g : Frame
      pub inside : Contains (f ∷ fs) g
      pub is : IsOldest g f fs
      pub bottom : bottom_word (f ∷ fs) ≡ return_word g.base
      pub whole : IsWhole g
      pub there : is_held held (return_word g.base) ≡ true
      pub few : return_word g.base < 2 ^ 32
      pub apart : AreApart g more

    oldest_below : (end : Context) (f : Frame) (older : List Activation) (fs more : List Frame) (kind : ActivationKind) (kept : File) (word value : ℕ → ℕ) (fp ret : ℕ) → IsHeldWhole f → AllApart (f ∷ (fs ++ more)) → Below p (named_by names) (is_held held) end older fs kind kept word value fp ret → Oldest f fs more
    oldest_below end f [] [] more kind kept word value fp ret here all below =
        let high = here.high in
        record { g = f; inside = contains_here f []; is = refl; bottom = refl; whole = here.whole; there = here.there; few = omega arith; apart = all.1 }
    oldest_below end f (a ∷ older) (h ∷ hs) more kind kept word value fp ret here all (function, called, lies, (caller, below)) =
        let frame : HasFrame function = (formed_of p a.function function code.accepted caller.here).frame in
        let next = oldest_below end h older hs more a.kind a.kept word _ _ _ (held_whole function fp h frame lies caller.base) all.2 below in
        let beside = split_apart f (h ∷ hs) more all.1 in
        record { g = next.g; inside = contains_more f next.g (h ∷ hs) next.inside; is = (turned f next.g (apart_at f next.g (h ∷ hs) beside.0 next.inside), next.is); bottom = next.bottom; whole = next.whole; there = next.there; few = next.few; apart = next.apart }
    oldest_below end f [] (h ∷ hs) more kind kept word value fp ret here all below = absurd below
    oldest_below end f (a ∷ older) [] more kind kept word value fp ret here all below = absurd below

    pub oldest : (end : Context) (ahead pc fp : ℕ) (word value : ℕ → ℕ) (acts : List Activation) (f : Frame) (fs more : List Frame) → AllApart (f ∷ (fs ++ more)) → Newest end ahead pc fp word value acts (f ∷ fs) → Oldest f fs more
    oldest end ahead pc fp word value (a ∷ older) f fs more all (function, is) =
        let frame : HasFrame function = (formed_of p a.function function code.accepted is.here).frame in
        oldest_below end f older fs more a.kind a.kept word _ _ _ (held_whole function fp f frame is.lies is.framed.base) all is.framed.below
    oldest end ahead pc fp word value [] f fs more all newest = absurd newest
