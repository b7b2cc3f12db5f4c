-- A worker's threads over another view: stands_over puts what is said of them together again; on_over, behind_over, poll_over, call_over and last_over carry what is said of the top one; and polls_kept,
-- rests_kept, none_kept, called_kept and lasts_kept are of a view with the same words.
use Rattle.std.proofs.Common.{◌≡◌, inl, inr, ℕ, ◌+◌, ◌^◌, ◌<◌, ◌≤◌, Bool, List, [], ◌∷◌, ◌++◌, Option, Some, refl, sym, ◌∙◌, subst}
use Rattle.std.specs.List.{Contains}
use Rattle.st_base.specs.declared.chain.Frame.{Frame}
use Rattle.st_base.specs.declared.reg.Reg.TheVariants as registers
use Rattle.st_base.specs.declared.thread.Held.{Held}
use Rattle.st_words.specs.declared.view.Known.{Known}
use Rattle.st_words.specs.declared.view.View.{View}
use Rattle.st_words.specs.Steps.{IsLeased, return_place, kept}
use Rattle.st_model.specs.declared.program.Program.{Program}
use Rattle.st_model.specs.Accepted.{IsAccepted}
use Rattle.st_model.specs.Memory.{Data}
use Rattle.st_step.specs.declared.state.State.{State}
use Rattle.st_step.specs.Frames.{value_in}
use Rattle.st_step.specs.Moves.{register}
use Rattle.st_step.specs.Runs.{AreWords}
use Rattle.st_stack.specs.Exported.{Exports, Apart}
use Rattle.st_items.specs.Body.{Ends}
use Rattle.st_chain.specs.Walk.{word_in, is_held, named_by}
use Rattle.st_chain.specs.Copying.{over}
use Rattle.st_chain.specs.Laws.{AllSameHeld}
use Rattle.st_chain.specs.Seen.{AllSame, joined}
use Rattle.st_chain.proofs.Frames.{newest_same, lower_same}
use Rattle.st_standing.specs.Standing.{StandsOn, AtCall, AtLast, Behind, under}
use Rattle.st_standing.specs.Laws.{SeesSame}
use Rattle.st_standing.proofs.Same.{same}
use Rattle.st_serving.proofs.Unchanged.{all_same}
use Rattle.st_moving.specs.Moving.{AtPoll}
use Rattle.st_framed.specs.Framed.{Framed, IsElsewhere}
use Rattle.st_phases.specs.declared.automaton.Automaton.{Automaton}
use Rattle.st_fits.specs.Threads.{ends_of, IsPlain, IsOpen, Lies, Leases, Stands, HasNone, Polls, Rests, IsCalled, IsAtEnd, Lasts, now}
use Rattle.st_kept.specs.Keeping.{Untouched}
use Rattle.st_kept.specs.Resting.{RestingLaws}

-- ---- put together again

pub lies_over : (x y : Automaton) (u v : View) (ends : Ends) (frames : List Frame) → y.stack ≡ x.stack → v.frame_bytes ≡ u.frame_bytes → ((f : Frame) → Contains frames f → Contains u.away f → Contains v.away f) → Lies x u ends frames → Lies y v ends frames
lies_over x y u v ends frames stack bytes away lies = record {
  framed = subst (λ (s : Exports). Framed s ends frames) (sym stack) lies.framed;
  used = subst (λ (s : Exports). s.hi ≤ ends.sp + v.frame_bytes) (sym stack) (subst (λ (n : ℕ). x.stack.hi ≤ ends.sp + n) (sym bytes) lies.used);
  away = λ f in' there. away f in' (lies.away f in' (subst (λ (s : Exports). IsElsewhere s.lo s.hi f) stack there));
}

module _ (At At' : Known → List Frame → List Known → List (List Frame) → Type 0) (x y : Automaton) (u v : View) (ends : Ends) (others others' : List Frame) (s : Stands At x u ends others) where
  abbrev pub frames_of : List Frame
  frames_of = joined (s.frames ∷ s.lower)

  pub stands_over : y.stack ≡ x.stack → v.threads ≡ u.threads → v.frame_bytes ≡ u.frame_bytes → At' s.top s.frames s.below s.lower → ((f : Frame) → Contains frames_of f → Contains u.away f → Contains v.away f) → Leases v (frames_of ++ others')
      → ((f g : Frame) → Contains frames_of f → Contains others' g → Apart f g) → Stands At' y v ends others'
  stands_over stack threads bytes at away leases apart = record {
    top = s.top;
    below = s.below;
    is = threads ∙ s.is;
    frames = s.frames;
    lower = s.lower;
    at = at;
    plain = s.plain;
    lies = lies_over x y u v ends frames_of stack bytes away s.lies;
    leases = leases;
    apart = apart;
  }

-- ---- frames that read the same

split_all : (holds holds' : ℕ → Bool) (word word' : ℕ → ℕ) (fs gs : List Frame) → AllSame holds holds' word word' (fs ++ gs) → AllSame holds holds' word word' fs × AllSame holds holds' word word' gs
split_all holds holds' word word' [] gs all = (tt, all)
split_all holds holds' word word' (f ∷ fs) gs all = let rest = split_all holds holds' word word' fs gs all.1 in ((all.0, rest.0), rest.1)

pub same_held : (held held' : List (Option ℕ)) (fs : List Frame) → held' ≡ held → AllSameHeld held held' fs
same_held held held' fs is = subst (λ (h : List (Option ℕ)). AllSameHeld held h fs) (sym is) (all_same (is_held held) (word_in held) fs)

-- ---- where a worker polls

module _ (p : Program) (accepted : IsAccepted p) (names names' : List (Held × ℕ)) (held held' : List (Option ℕ)) (ends : Ends) (m : State) where
  abbrev Sees : List Frame → Type 0
  Sees fs = SeesSame names names' (is_held held) (is_held held') (word_in held) (word_in held') fs

  sees_rest : (fs : List Frame) (rest : List (List Frame)) → Sees (joined (fs ∷ rest)) → Sees (joined rest)
  sees_rest fs rest sees = record { names_have = sees.names_have; same = (split_all (is_held held) (is_held held') (word_in held) (word_in held') fs (joined rest) sees.same).1; words = sees.words }

  pub on_over : (t : Known) (fs : List Frame) (ts : List Known) (rest : List (List Frame)) → Sees (joined (fs ∷ rest)) → StandsOn p names (is_held held) ends (over held m) t fs ts rest → StandsOn p names' (is_held held') ends (over held' m) t fs ts rest
  on_over t fs ts rest sees on = (same p names names' (is_held held) (is_held held') (word_in held) (word_in held') ends m accepted).on t fs ts rest sees on

  pub behind_over : (ahead : ℕ) (t : Known) (fs : List Frame) (ts : List Known) (rest : List (List Frame)) → Sees (joined (fs ∷ rest)) → Behind p names (is_held held) (under p names (is_held held) t.note.cell ts rest) ahead (over held m) t.thread.activations fs
      → Behind p names' (is_held held') (under p names' (is_held held') t.note.cell ts rest) ahead (over held' m) t.thread.activations fs
  behind_over ahead t fs ts rest sees behind =
      let parts = split_all (is_held held) (is_held held') (word_in held) (word_in held') fs (joined rest) sees.same in
      newest_same p (named_by names) (named_by names') sees.names_have (is_held held) (is_held held') (word_in held) (word_in held') accepted (under p names (is_held held) t.note.cell ts rest) (under p names' (is_held held') t.note.cell ts rest)
      (lower_same p (named_by names) (named_by names') sees.names_have (is_held held) (is_held held') (word_in held) (word_in held') accepted ts rest t.note.cell parts.1) t.thread.activations fs ahead m.pc (register m registers.S0) (value_in m) (value_in m) parts.0 (λ r kept. refl) behind

  pub poll_over : (t : Known) (fs : List Frame) (ts : List Known) (rest : List (List Frame)) → Sees (joined (fs ∷ rest)) → AtPoll p names (is_held held) ends (over held m) t fs ts rest → AtPoll p names' (is_held held') ends (over held' m) t fs ts rest
  poll_over t fs ts rest sees (inl (on, behind)) = inl (on_over t fs ts rest sees on, behind_over 0 t fs ts rest sees behind)
  poll_over t fs ts rest sees (inr (none, forked)) = inr (none, (same p names names' (is_held held) (is_held held') (word_in held) (word_in held') ends m accepted).forked t ts rest (sees_rest fs rest sees) forked)

  pub call_over : (t : Known) (fs : List Frame) (ts : List Known) (rest : List (List Frame)) (entry : ℕ) → Sees (joined (fs ∷ rest)) → AtCall p names (is_held held) ends (over held m) t fs ts rest entry → AtCall p names' (is_held held') ends (over held' m) t fs ts rest entry
  call_over t fs ts rest entry sees at = (same p names names' (is_held held) (is_held held') (word_in held) (word_in held') ends m accepted).call t fs ts rest entry sees at

  pub last_over : (cell value : ℕ) (fs : List Frame) (ts : List Known) (rest : List (List Frame)) → Sees (joined (fs ∷ rest)) → AtLast p names (is_held held) ends (over held m) cell value ts rest → AtLast p names' (is_held held') ends (over held' m) cell value ts rest
  last_over cell value fs ts rest sees at = (same p names names' (is_held held) (is_held held') (word_in held) (word_in held') ends m accepted).last cell value ts rest (sees_rest fs rest sees) at

-- ---- the same words

module _ (u v : View) (untouched : Untouched u v) where
  was_away : (f : Frame) → Contains u.away f → Contains v.away f
  was_away f in' = subst (λ (fs : List Frame). Contains fs f) (sym untouched.away) in'

  was_leased : (f : Frame) → IsLeased v f → IsLeased u f
  was_leased f (inl in') = inl (subst (λ (fs : List Frame). Contains fs f) untouched.exported in')
  was_leased f (inr in') = inr (subst (λ (fs : List Frame). Contains fs f) untouched.away in')

  still_leases : (fs : List Frame) → Leases u fs → Leases v fs
  still_leases fs leases f leased held = leases f (was_leased f leased) (subst (λ (h : List (Option ℕ)). (n : ℕ) × (kept h (return_place f) ≡ Some n)) untouched.held held)

  sees_same : (fs : List Frame) → AreWords (word_in v.held) → SeesSame u.names v.names (is_held u.held) (is_held v.held) (word_in u.held) (word_in v.held) fs
  sees_same fs words = record { names_have = untouched.names; same = same_held u.held v.held fs untouched.held; words = words }

module _ (p : Program) (d : Data) (x y : Automaton) (u v : View) (accepted : IsAccepted p) (words : AreWords (word_in v.held)) (machine : y.machine ≡ x.machine) (stack : y.stack ≡ x.stack) (untouched : Untouched u v) (threads : v.threads ≡ u.threads) where
  pub none_kept : (others : List Frame) → HasNone x u others → HasNone y v others
  none_kept others none = record {
    is = threads ∙ none.is;
    place = subst (λ (m : State). m.pc + 4 < 2 ^ 32) (sym machine) none.place;
    lies = subst (λ (m : State). Lies y v (ends_of m) []) (sym machine) (lies_over x y u v (ends_of x.machine) [] stack untouched.frame_bytes (λ f in' there. was_away u v untouched f there) none.lies);
    leases = still_leases u v untouched others none.leases;
  }

  -- what is said of the top thread, on a machine
  abbrev AtRest : State → View → Known → List Frame → List Known → List (List Frame) → Type 0
  AtRest m w t fs ts rest = IsPlain t × AtPoll p w.names (is_held w.held) (ends_of m) (over w.held m) t fs ts rest

  abbrev Called : ℕ → State → View → Known → List Frame → List Known → List (List Frame) → Type 0
  Called entry m w t fs ts rest = IsOpen t × AtCall p w.names (is_held w.held) (ends_of m) (over w.held m) t fs ts rest entry

  abbrev Ended : ℕ → State → View → Known → List Frame → List Known → List (List Frame) → Type 0
  Ended value m w t fs ts rest = IsAtEnd p d w (ends_of m) (over w.held m) value t fs ts rest

  pub polls_kept : (others : List Frame) → Polls p d x u others → Polls p d y v others
  polls_kept others s =
      let at = poll_over p accepted u.names v.names u.held v.held (ends_of x.machine) x.machine s.top s.frames s.below s.lower (sees_same u v untouched (joined (s.frames ∷ s.lower)) words) s.at.1 in
      subst (λ (m : State). Stands (AtRest m v) y v (ends_of m) others) (sym machine)
      (stands_over (AtRest x.machine u) (AtRest x.machine v) x y u v (ends_of x.machine) others others s stack threads untouched.frame_bytes (s.at.0, at) (λ f in' there. was_away u v untouched f there) (still_leases u v untouched (joined (s.frames ∷ s.lower) ++ others) s.leases) s.apart)

  pub rests_kept : (others : List Frame) → Rests p d x u others → Rests p d y v others
  rests_kept others (inl none) = inl (none_kept others none)
  rests_kept others (inr polls) = inr (polls_kept others polls)

  pub called_kept : (entry : ℕ) → IsCalled p d entry x u → IsCalled p d entry y v
  called_kept entry s =
      let at = call_over p accepted u.names v.names u.held v.held (ends_of x.machine) x.machine s.top s.frames s.below s.lower entry (sees_same u v untouched (joined (s.frames ∷ s.lower)) words) s.at.1 in
      subst (λ (m : State). Stands (Called entry m v) y v (ends_of m) []) (sym machine)
      (stands_over (Called entry x.machine u) (Called entry x.machine v) x y u v (ends_of x.machine) [] [] s stack threads untouched.frame_bytes (s.at.0, at) (λ f in' there. was_away u v untouched f there) (still_leases u v untouched (joined (s.frames ∷ s.lower) ++ []) s.leases) s.apart)

  pub lasts_kept : Lasts p d x u (ends_of x.machine) (now x u) → Lasts p d y v (ends_of y.machine) (now y v)
  lasts_kept (value, s) =
      let at = last_over p accepted u.names v.names u.held v.held (ends_of x.machine) x.machine s.top.note.cell value s.frames s.below s.lower (sees_same u v untouched (joined (s.frames ∷ s.lower)) words) s.at.3 in (
        value,
        subst (λ (m : State). Stands (Ended value m v) y v (ends_of m) []) (sym machine)
            (stands_over (Ended value x.machine u) (Ended value x.machine v) x y u v (ends_of x.machine) [] [] s stack threads untouched.frame_bytes (s.at.0, s.at.1, s.at.2, at) (λ f in' there. was_away u v untouched f there) (still_leases u v untouched (joined (s.frames ∷ s.lower) ++ []) s.leases) s.apart),
      )

pub resting_laws : (p : Program) (d : Data) → RestingLaws p d
resting_laws p d = record {
  none = λ others x y u v accepted words machine stack untouched threads is. none_kept p d x y u v accepted words machine stack untouched threads others is;
  polls = λ others x y u v accepted words machine stack untouched threads is. polls_kept p d x y u v accepted words machine stack untouched threads others is;
  rests = λ others x y u v accepted words machine stack untouched threads is. rests_kept p d x y u v accepted words machine stack untouched threads others is;
  called = λ entry x y u v accepted words machine stack untouched threads is. called_kept p d x y u v accepted words machine stack untouched threads entry is;
  lasts = λ x y u v accepted words machine stack untouched threads is. lasts_kept p d x y u v accepted words machine stack untouched threads is;
}
