-- The bottom thread is to be given away: a unit is added, and the giving begins. Read may_share, sharing_fits.
use Rattle.std.proofs.Common.{◌≡◌, ◌≢◌, inl, inr, ⊎_elim, ℕ, suc, ◌+◌, Bool, true, false, ◌==◌, ◌&&◌, ◌||◌, nat_lt, nat_le, List, [], ◌∷◌, ◌++◌, length, Option, Some, None, is_some, refl, sym, ap, ◌∙◌, subst, arith, append_assoc, append-nil, eq-eqb, ◌%◌}
use Rattle.std.specs.Prelude.{not}
use Rattle.std.proofs.lemmas.Bool.{eqb-true, le-leb, leb-true, lt-ltb, ltb-true}
use Rattle.std.specs.List.{Contains, filter}
use Rattle.std.proofs.lemmas.List.Elements.{Contains-append_left, Contains-append_right, Contains-append_cases}
use Rattle.st_base.specs.declared.chain.Frame.{Frame}
use Rattle.st_base.specs.declared.chain.Note.{Note}
use Rattle.st_base.specs.declared.chain.Waiting.TheVariants as waits
use Rattle.st_base.specs.declared.image.ForkRow.{ForkRow}
use Rattle.st_base.specs.declared.image.Image.{Image}
use Rattle.st_base.specs.declared.limits.Limits.{Limits}
use Rattle.st_base.specs.declared.reg.Reg.TheVariants as registers
use Rattle.st_base.specs.declared.thread.Held.{Held}
use Rattle.st_words.specs.declared.view.Known.{Known}
use Rattle.st_words.specs.declared.view.View.{View}
use Rattle.st_words.specs.Steps.{Step, ActiveAdd, Number}
use Rattle.st_words.proofs.Lists.{both_true, contains_case, filter_in, filter_out}
use Rattle.st_words.proofs.Waiting.{up_safe}
use Rattle.st_model.specs.declared.code.Layout.TheVariants.{Postprocessed}
use Rattle.st_model.specs.declared.program.Program.{Program}
use Rattle.st_model.specs.Layout.{IsCodeOf}
use Rattle.st_model.specs.Memory.{Data, data_of}
use Rattle.st_step.specs.declared.state.State.{State}
use Rattle.st_step.specs.Frames.{Naming, value_in}
use Rattle.st_step.specs.Moves.{register}
use Rattle.st_items.specs.Body.{Ends, IsOn}
use Rattle.st_items.specs.Code.{IsSized}
use Rattle.st_stack.specs.Exported.{Exports, IsFrameOn}
use Rattle.st_chain.specs.Copying.{over}
use Rattle.st_chain.specs.Forks.{handle_behind}
use Rattle.st_chain.specs.Seen.{joined}
use Rattle.st_chain.specs.Taking.{Taking, WillExport, TopStands, CanGive, Gives, notes_of, threads_of, frames_of, all_steps}
use Rattle.st_chain.specs.Walk.{FromNewest, is_held, named_by, word_in}
use Rattle.st_standing.specs.Standing.{under}
use Rattle.st_base.specs.declared.thread.Activation.{Activation}
use Rattle.st_items.specs.Body.{Context}
use Rattle.st_chain.specs.Threads.{Lower}
use Rattle.st_chain.specs.declared.walk.Walk.{Walk}
use Rattle.st_chain.proofs.Walked.{forked_third}
use Rattle.st_framed.specs.Framed.{Framed}
use Rattle.st_framed.proofs.Coming.{may_be_exported}
use Rattle.st_moving.specs.Moving.{AtPoll}
use Rattle.st_moving.proofs.Polling.{all_poll}
use Rattle.st_run.specs.Behind.{IsBehind}
use Rattle.st_run.specs.Meanings.{meaning}
use Rattle.st_phases.specs.declared.automaton.Automaton.{Automaton}
use Rattle.st_phases.specs.declared.phase.Phase.TheVariants as phases
use Rattle.st_phases.specs.declared.turn.Turn.{Turn}
use Rattle.st_phases.specs.Answering.{has_two}
use Rattle.st_fits.specs.Bags.{HasBag, units, answers as answering_bag}
use Rattle.st_fits.specs.Before.{after}
use Rattle.st_fits.specs.Fits.{FitsIn, is_taking}
use Rattle.st_fits.specs.Laws.{Does, IsReady, MayAsk}
use Rattle.st_fits.specs.Threads.{IsPlain, Polls, GivesOut, ends_of}
use Rattle.st_kept.proofs.Stepping.{no_item_asks, no_item_threads}
use Rattle.st_answers.proofs.Alive.{top_long}
use Rattle.st_answers.proofs.Hearing.{unit_added, bag_quiet}
use Rattle.st_answers.proofs.Polling.{by_in, goes_quiet, polls_on}
use Rattle.st_answers.proofs.Sending.{still_asking}
use Rattle.st_answers.proofs.Turned.{turned, fits_as}

-- ---- the bottom one of some threads, with its frames

pub record IsSplit (ts : List Known) (fss : List (List Frame)) : Type 0 where
  pub above : List Known
  pub above_frames : List (List Frame)
  pub taken : Known
  pub frames : List Frame
  pub parts : ts ≡ above ++ taken ∷ []
  pub frame_parts : fss ≡ above_frames ++ frames ∷ []
  pub joined_is : joined fss ≡ joined above_frames ++ frames

pub split_last : (t : Known) (ts : List Known) (fs : List Frame) (fss : List (List Frame)) → length ts ≡ length fss → IsSplit (t ∷ ts) (fs ∷ fss)
split_last t [] fs [] e = record { above = []; above_frames = []; taken = t; frames = fs; parts = refl; frame_parts = refl; joined_is = append-nil fs }
split_last t (k ∷ ks) fs (gs ∷ rest) e =
    let s = split_last k ks gs rest (let one : suc (length ks) ≡ suc (length rest) = e in omega (arith, one)) in
    record {
      above = t ∷ s.above;
      above_frames = fs ∷ s.above_frames;
      taken = s.taken;
      frames = s.frames;
      parts = ap (λ (l : List Known). t ∷ l) s.parts;
      frame_parts = ap (λ (l : List (List Frame)). fs ∷ l) s.frame_parts;
      joined_is = ap (λ (l : List Frame). fs ++ l) s.joined_is ∙ sym (append_assoc fs (joined s.above_frames) s.frames);
    }
split_last t [] fs (gs ∷ rest) e = let none : 0 ≡ suc (length rest) = e in absurd (omega (arith, none))
split_last t (k ∷ ks) fs [] e = let none : suc (length ks) ≡ 0 = e in absurd (omega (arith, none))

notes_long : (ts : List Known) → length (notes_of ts) ≡ length ts
notes_long [] = refl
notes_long (t ∷ ts) = one_longer (notes_of ts) t.note ∙ ap suc (notes_long ts)
  where
    one_longer : (ns : List Note) (n : Note) → length (ns ++ n ∷ []) ≡ suc (length ns)
    one_longer [] n = refl
    one_longer (m ∷ ms) n = ap suc (one_longer ms n)

-- ---- frames on the stack

abbrev is_on : ℕ → ℕ → Frame → Bool
is_on lo hi f = (nat_le lo f.low && nat_lt f.low f.base) && (nat_le f.base hi && ((f.low % 16 == 0) && (f.base % 16 == 0)))

on_true : (lo hi : ℕ) (f : Frame) → IsFrameOn lo hi f → is_on lo hi f ≡ true
on_true lo hi f on =
    let a = le-leb lo f.low on.from in let b = lt-ltb f.low f.base on.some in let c = le-leb f.base hi on.to in let e = eq-eqb (f.low % 16) 0 on.low_even in let g = eq-eqb (f.base % 16) 0 on.base_even in cc

true_on : (lo hi : ℕ) (f : Frame) → is_on lo hi f ≡ true → IsFrameOn lo hi f
true_on lo hi f is =
    let parts = both_true (nat_le lo f.low && nat_lt f.low f.base) (nat_le f.base hi && ((f.low % 16 == 0) && (f.base % 16 == 0))) is in
    let low = both_true (nat_le lo f.low) (nat_lt f.low f.base) parts.0 in
    let high = both_true (nat_le f.base hi) ((f.low % 16 == 0) && (f.base % 16 == 0)) parts.1 in
    let even = both_true (f.low % 16 == 0) (f.base % 16 == 0) high.1 in
    record { from = leb-true lo f.low low.0; some = ltb-true f.low f.base low.1; to = leb-true f.base hi high.0; low_even = eqb-true (f.low % 16) 0 even.0; base_even = eqb-true (f.base % 16) 0 even.1 }

-- those that are exported, and these where they lie on the stack
abbrev lent : Exports → List Frame → List Frame
lent s fs = s.exported ++ filter (is_on s.lo s.hi) fs

will_lend : (s : Exports) (ends : Ends) (above fs : List Frame) → Framed s ends (above ++ fs) → WillExport s fs (lent s fs)
will_lend s ends above fs framed = record {
  stay = λ g is. Contains-append_left s.exported (filter (is_on s.lo s.hi) fs) g is;
  come = λ g is on. Contains-append_right s.exported (filter (is_on s.lo s.hi) fs) g (filter_in (is_on s.lo s.hi) fs g is (on_true s.lo s.hi g on));
  were = λ g is. ⊎_elim (λ was. inl was) (λ come. let out = filter_out (is_on s.lo s.hi) fs g come in inr (out.0, true_on s.lo s.hi g out.1)) (Contains-append_cases s.exported (filter (is_on s.lo s.hi) fs) g is);
  may = λ g is on h was other. may_be_exported s ends (above ++ fs) g framed (Contains-append_right above fs g is) h was other;
}

-- ---- the giving begins

poll_machine : (p : Program) (names : List (Held × ℕ)) (held : List (Option ℕ)) (ends : Ends) (m : State) (t : Known) (fs : List Frame) (ts : List Known) (rest : List (List Frame)) → AtPoll p names (is_held held) ends (over held m) t fs ts rest → IsOn ends (over held m) × (m.half ≡ None)
poll_machine p names held ends m t fs ts rest (inl (on, behind)) = (on.machine, on.whole)
poll_machine p names held ends m t fs ts rest (inr (none, forked)) = (forked.machine, forked.whole)

no_frame : (p : Program) (names : Naming) (holds : ℕ → Bool) (end : Context) (pc fp : ℕ) (word value : ℕ → ℕ) (acts : List Activation) → FromNewest p names holds end 0 pc fp word value acts [] → ⊥
no_frame p names holds end pc fp word value [] newest = newest
no_frame p names holds end pc fp word value (a ∷ older) newest = newest

-- behind a fork that was just made there is its handle
just_forked : (p : Program) (d : Data) (image : Image) (names : List (Held × ℕ)) (held : List (Option ℕ)) (ends : Ends) (m : State) (t : Known) (fs gs : List Frame) (k : Known) → IsCodeOf Postprocessed p image → AtPoll p names (is_held held) ends (over held m) t fs (k ∷ []) (gs ∷ []) → fs ≡ [] → is_some (handle_behind image.forks (m.pc + 4)) ≡ true
just_forked p d image names held ends m t fs gs k code (inl (on, behind)) none =
    absurd (no_frame p (named_by names) (is_held held) (under p names (is_held held) t.note.cell (k ∷ []) (gs ∷ [])) m.pc (register m registers.S0) (word_in held) (value_in m) t.thread.activations
    (subst (λ (hs : List Frame). FromNewest p (named_by names) (is_held held) (under p names (is_held held) t.note.cell (k ∷ []) (gs ∷ [])) 0 m.pc (register m registers.S0) (word_in held) (value_in m) t.thread.activations hs) none behind))
just_forked p d image names held ends m t fs gs k code (inr (is, forked)) none =
    let (handle, kind, behind, holds, newest) = forked.below in
    ap is_some (forked_third p d image code names held (Lower p (named_by names) (is_held held) k.note.cell [] []) (word_in held) _ 0 (m.pc + 4 + 4) (register m registers.S0) (m.pc + 4) handle k.thread.activations gs behind newest).found

-- who has two threads, so that the second one from the bottom has a frame
two_more : (forks : List ForkRow) (x : Automaton) → has_two forks x ≡ true → length x.threads.notes ≡ 2 → is_some (handle_behind forks (x.machine.pc + 4)) ≡ true → ⊥
two_more forks x two long found =
    let few : nat_lt 2 (length x.threads.notes) ≡ false = ap (λ (n : ℕ). nat_lt 2 n) long in
    let same : (length x.threads.notes == 2) ≡ true = ap (λ (n : ℕ). n == 2) long in
    let both : has_two forks x ≡ false = ap (λ (b : Bool). b || ((length x.threads.notes == 2) && not (is_some (handle_behind forks (x.machine.pc + 4))))) few ∙ ap (λ (b : Bool). b && not (is_some (handle_behind forks (x.machine.pc + 4)))) same ∙ ap not found in
    let no : ⊥ = cc in no

two_long : (forks : List ForkRow) (x : Automaton) → has_two forks x ≡ true → length x.threads.notes ≡ 1 → ⊥
two_long forks x two long =
    let few : nat_lt 2 (length x.threads.notes) ≡ false = ap (λ (n : ℕ). nat_lt 2 n) long in
    let same : (length x.threads.notes == 2) ≡ false = ap (λ (n : ℕ). n == 2) long in
    let both : has_two forks x ≡ false = ap (λ (b : Bool). b || ((length x.threads.notes == 2) && not (is_some (handle_behind forks (x.machine.pc + 4))))) few ∙ ap (λ (b : Bool). b && not (is_some (handle_behind forks (x.machine.pc + 4)))) same in
    let no : ⊥ = cc in no

module _ (p : Program) (d : Data) (image : Image) (code : IsCodeOf Postprocessed p image) (size : IsSized Postprocessed p) (z : Automaton) (w : View) (polls : Polls p d z w []) (open_is : z.threads.open ≡ None) (notes : z.threads.notes ≡ notes_of w.threads) (two : has_two image.forks z ≡ true) where
  at : AtPoll p w.names (is_held w.held) (ends_of z.machine) (over w.held z.machine) polls.top polls.frames polls.below polls.lower
  at = polls.at.1

  stands : TopStands p w.names w.held z.machine (polls.top ∷ polls.below) (polls.frames ∷ polls.lower)
  stands = (all_poll p code.accepted).top w.names w.held (ends_of z.machine) z.machine polls.top polls.frames polls.below polls.lower at

  split : IsSplit (polls.top ∷ polls.below) (polls.frames ∷ polls.lower)
  split = split_last polls.top polls.below polls.frames polls.lower (top_long p w.names w.held z.machine polls.top polls.frames polls.below polls.lower size stands)

  abbrev t : Taking
  t = record {
    p = p;
    d = data_of d.rodata [];
    names = w.names;
    held = w.held;
    above = split.above;
    above_frames = split.above_frames;
    taken = split.taken;
    frames = split.frames;
    below = [];
    below_frames = [];
    exported = lent z.stack split.frames;
    wait = waits.Ready;
    place = 0;
  }

  count : length z.threads.notes ≡ length (polls.top ∷ polls.below)
  count = ap length notes ∙ notes_long w.threads ∙ ap length polls.is

  some_above : split.above ≢ []
  some_above none =
      let parts : polls.top ∷ polls.below ≡ split.taken ∷ [] = split.parts ∙ ap (λ (us : List Known). us ++ split.taken ∷ []) none in
      two_long image.forks z two (count ∙ ap length parts)

  framed_above : split.above_frames ≢ [] ∷ []
  framed_above none =
      let parts : polls.frames ∷ polls.lower ≡ [] ∷ (split.frames ∷ []) = split.frame_parts ∙ ap (λ (fss : List (List Frame)). fss ++ split.frames ∷ []) none in
      let lower : polls.lower ≡ split.frames ∷ [] = rest_is polls.frames [] polls.lower (split.frames ∷ []) parts in
      let long : length polls.below ≡ 1 = top_long p w.names w.held z.machine polls.top polls.frames polls.below polls.lower size stands ∙ ap length lower in
      by_below polls.below refl (first_is polls.frames [] polls.lower (split.frames ∷ []) parts) lower long
    where
      rest_is : (f g : List Frame) (fs gs : List (List Frame)) → f ∷ fs ≡ g ∷ gs → fs ≡ gs
      rest_is f g fs gs e = cc

      first_is : (f g : List Frame) (fs gs : List (List Frame)) → f ∷ fs ≡ g ∷ gs → f ≡ g
      first_is f g fs gs e = cc

      by_below : (ks : List Known) → polls.below ≡ ks → polls.frames ≡ [] → polls.lower ≡ split.frames ∷ [] → length polls.below ≡ 1 → ⊥
      by_below [] is no_frames lower long = let one : 0 ≡ 1 = ap length (sym is) ∙ long in omega (arith, one)
      by_below (k ∷ []) is no_frames lower long =
          let here : AtPoll p w.names (is_held w.held) (ends_of z.machine) (over w.held z.machine) polls.top polls.frames (k ∷ []) (split.frames ∷ []) = subst (λ (ks : List Known). AtPoll p w.names (is_held w.held) (ends_of z.machine) (over w.held z.machine) polls.top polls.frames ks (split.frames ∷ [])) is
          (subst (λ (fss : List (List Frame)). AtPoll p w.names (is_held w.held) (ends_of z.machine) (over w.held z.machine) polls.top polls.frames polls.below fss) lower at) in
          two_more image.forks z two (count ∙ ap suc long) (just_forked p d image w.names w.held (ends_of z.machine) z.machine polls.top polls.frames split.frames k code here no_frames)
      by_below (k ∷ k' ∷ ks) is no_frames lower long = let more : suc (suc (length ks)) ≡ 1 = ap length (sym is) ∙ long in omega (arith, more)

  framed : Framed z.stack (ends_of z.machine) (joined (frames_of t))
  framed = subst (λ (fss : List (List Frame)). Framed z.stack (ends_of z.machine) (joined fss)) split.frame_parts polls.lies.framed

  will : WillExport z.stack split.frames (lent z.stack split.frames)
  will = will_lend z.stack (ends_of z.machine) (joined split.above_frames) split.frames (subst (λ (fs : List Frame). Framed z.stack (ends_of z.machine) fs) split.joined_is polls.lies.framed)

  threads_are : threads_of t ≡ w.threads
  threads_are = sym split.parts ∙ sym polls.is

  stands_split : TopStands p w.names w.held z.machine (threads_of t) (frames_of t)
  stands_split = subst (λ (us : List Known). TopStands p w.names w.held z.machine us (frames_of t)) split.parts (subst (λ (fss : List (List Frame)). TopStands p w.names w.held z.machine (polls.top ∷ polls.below) fss) split.frame_parts stands)

  can_give : CanGive t z.threads.notes z.machine z.stack (suc (all_steps p (threads_of t) (frames_of t)))
  can_give = record {
    bottom = record { alone = refl; alone_frames = refl; ready = refl; notes_are = notes ∙ ap notes_of (sym threads_are); apart = framed.all_apart };
    ends = ends_of z.machine;
    machine = (poll_machine p w.names w.held (ends_of z.machine) z.machine polls.top polls.frames polls.below polls.lower at).0;
    whole = (poll_machine p w.names w.held (ends_of z.machine) z.machine polls.top polls.frames polls.below polls.lower at).1;
    some = some_above;
    framed = framed_above;
    stands = stands_split;
    exports = will;
    steps = refl;
  }

  pub gives_out : GivesOut p d z w
  gives_out = record {
    t = t;
    n = all_steps p (threads_of t) (frames_of t);
    of = record {
      program = refl;
      source = refl;
      names = refl;
      held = refl;
      threads = threads_are;
      start = z.stack;
      lo = refl;
      hi = refl;
      framed = framed;
      will = will;
      were = λ f there. there;
      used = polls.lies.used;
      away = λ f there away. polls.lies.away f (subst (λ (fss : List (List Frame)). Contains (joined fss) f) (sym split.frame_parts) there) away;
      leases = λ f leased held. subst (λ (fss : List (List Frame)). Contains (joined fss) f) split.frame_parts (subst (λ (fs : List Frame). Contains fs f) (append-nil (joined (polls.frames ∷ polls.lower))) (polls.leases f leased held));
    };
    gives = subst (λ (o : Option Walk). Gives t z.threads.notes o z.machine z.stack (suc (all_steps p (threads_of t) (frames_of t)))) (sym open_is) can_give;
    plain = λ k there. ⊎_elim (λ (same : polls.top ≡ k). subst IsPlain same polls.at.0) (λ (later : Contains polls.below k). polls.plain k later) (contains_case k polls.top polls.below (subst (λ (ts : List Known). Contains ts k) polls.is there));
    first = w.held;
    top = polls.top;
    rest = polls.below;
    is_top = sym split.parts;
    frames = polls.frames;
    lower = polls.lower;
    are_frames = sym split.frame_parts;
    polls = at;
  }

-- ---- the phase

module _ (p : Program) (d : Data) (limits : Limits) (image : Image) (input : List ℕ) (x : Automaton) (u : View) (ready : IsReady p d limits image input x u) where
  pub may_share : (asker : ℕ) → x.phase ≡ phases.Sharing asker → MayAsk p d limits u (ActiveAdd true)
  may_share asker e =
      let share : u.share ≡ 1 = (by_in p d limits image input x u ready (phases.Sharing asker) e).0.1.share in
      no_item_asks p d limits u (ActiveAdd true) tt (up_safe (meaning p d limits) u (omega (arith, share)) (omega (arith, share)))

  pub sharing_fits : (asker : ℕ) (y : Automaton) (old v : View) (turn : Turn) → x.phase ≡ phases.Sharing asker → Does p d limits image input u old x turn y v (phases.Sharing asker) → FitsIn p d limits image input y v
  sharing_fits asker y old v turn e (n, told, (is, ran)) =
      let b = by_in p d limits image input x u ready (phases.Sharing asker) e in
      let s : Step = ActiveAdd true in
      let w : View = after p d u s (Number n) in
      let behind : IsBehind p d w = subst (IsBehind p d) told.is told.behind in
      let z : Automaton = turned (phases.Giving asker) x.ready.numbers x.since x in
      let (quiet, share, answers) = unit_added p d u n in
      let code = ready.fits.is_for.code in
      let polls : Polls p d z w [] = polls_on p d limits image input x u ready (phases.Giving asker) x.ready.numbers x.since s (Number n) tt tt behind b.0.0 in
      let bag : HasBag (answering_bag asker false false (units 2)) w = bag_quiet (answering_bag asker false false (units 1)) u w 2 (Some (record { asker = asker; put = false; told = false })) quiet b.0.1 (share ∙ ap (λ (k : ℕ). k + 1) b.0.1.share) (answers ∙ b.0.1.answering) in
      let two : has_two image.forks z ≡ true = subst (λ (forks : List ForkRow). has_two forks x ≡ true) (sym code.is_image.forks) b.1 in
      let threads : w.threads ≡ u.threads = no_item_threads p d u s (Number n) tt in
      fits_as p d limits image input y z v w is told.is
      (goes_quiet p d limits image input x u ready (phases.Sharing asker) (phases.Giving asker) x.since s (Number n) e refl refl (refl, λ n. refl) (λ n. refl) tt tt quiet
      (gives_out p d image code ready.fits.is_for.size z w polls (ready.fits.holds.not_open (ap is_taking e)) (ready.fits.holds.notes ∙ ap notes_of (sym threads)) two, bag, still_asking p d limits image input x u ready asker s (Number n) b.2))
