-- A worker's threads stand over more names, and over words that are the same in their frames: on_same, forked_same, call_same and last_same, and all of them as same.
use Rattle.std.proofs.Common.{◌≡◌, inl, inr, ℕ, ◌+◌, ◌++◌, Bool, List, [], ◌∷◌, refl, subst}
use Rattle.st_base.specs.declared.chain.Frame.{Frame}
use Rattle.st_base.specs.declared.reg.Reg.TheVariants as registers
use Rattle.st_base.specs.declared.thread.Activation.{Activation}
use Rattle.st_base.specs.declared.thread.ActivationKind.{ActivationKind}
use Rattle.st_base.specs.declared.thread.ActivationKind.TheVariants.{Forked}
use Rattle.st_base.specs.declared.thread.Held.{Held}
use Rattle.st_model.specs.declared.program.Program.{Program}
use Rattle.st_model.specs.declared.program.ProgramFunction.{ProgramFunction}
use Rattle.st_model.specs.Accepted.{IsAccepted}
use Rattle.st_model.specs.Effect.{File}
use Rattle.st_words.specs.declared.view.Known.{Known}
use Rattle.st_step.specs.declared.state.State.{State}
use Rattle.st_step.specs.Frames.{value_in}
use Rattle.st_step.specs.Moves.{register}
use Rattle.st_step.specs.Runs.{Situation, AreWords}
use Rattle.st_items.specs.Body.{Context, Ends, IsOn, IsFramed}
use Rattle.st_items.proofs.Growing.{files_grow}
use Rattle.st_chain.specs.Walk.{named_by, LiesAt, FromNewest, Below}
use Rattle.st_chain.specs.Laws.{HasNames}
use Rattle.st_chain.specs.Seen.{AllSame, SameKept, joined}
use Rattle.st_chain.proofs.Frames.{below_same, newest_same, lower_same}
use Rattle.st_standing.specs.Standing.{Before, Behind, StandsOn, IsForked, AtCall, IsLast, AtLast, under}
use Rattle.st_standing.specs.Laws.{Same}

-- the frames of two lists that are the same
split : (holds holds' : ℕ → Bool) (word word' : ℕ → ℕ) (fs gs : List Frame) → AllSame holds holds' word word' (fs ++ gs) → AllSame holds holds' word word' fs × AllSame holds holds' word word' gs
split holds holds' word word' [] gs all = (tt, all)
split holds holds' word word' (f ∷ fs) gs all = let rest = split holds holds' word word' fs gs all.1 in ((all.0, rest.0), rest.1)

module _ (p : Program) (names names' : List (Held × ℕ)) (holds holds' : ℕ → Bool) (word word' : ℕ → ℕ) (ends : Ends) (m : State) (accepted : IsAccepted p) (grows : HasNames names names') (small : AreWords word') where
  abbrev before : Situation
  before = record { state = m; word = word }

  abbrev after : Situation
  after = record { state = m; word = word' }

  abbrev Sames : List Frame → Type 0
  Sames frames = AllSame holds holds' word word' frames

  abbrev Passes : Context → Context → Type 0
  Passes older older' = (kind : ActivationKind) (kept : File) (value value' : ℕ → ℕ) (fp ret : ℕ) → SameKept value value' → older kind kept word value fp ret → older' kind kept word' value' fp ret

  kept_self : SameKept (value_in m) (value_in m)
  kept_self x is = refl

  on_words : IsOn ends before → IsOn ends after
  on_words on = record { has_registers = on.has_registers; values = on.values; words = small; lo = on.lo; hi = on.hi; sp = on.sp; gp = on.gp }

  -- what lies below a thread
  under_same : (cell : ℕ) (ks : List Known) (rest : List (List Frame)) → Sames (joined rest) → Passes (under p names holds cell ks rest) (under p names' holds' cell ks rest)
  under_same cell ks rest all = lower_same p (named_by names) (named_by names') grows holds holds' word word' accepted ks rest cell all

  -- ---- at an item

  before_same : (end end' : Context) → Passes end end' → (acts : List Activation) (fs : List Frame) → Sames fs → Before p names holds end before acts fs → Before p names' holds' end' after acts fs
  before_same end end' passes [] fs all is = absurd is
  before_same end end' passes (a ∷ older) fs all (function, is) = (
    function,
    record {
      here = is.here;
      first = is.first;
      bytes = is.bytes;
      handles = is.handles;
      at = is.at;
      below = below_same p (named_by names) (named_by names') grows holds holds' word word' accepted end end' passes older fs all a.kind a.kept (value_in m) (value_in m) (register m registers.S0) (register m registers.Ra) kept_self is.below;
    },
  )

  behind_same : (end end' : Context) → Passes end end' → (ahead : ℕ) (acts : List Activation) (fs : List Frame) → Sames fs → Behind p names holds end ahead before acts fs → Behind p names' holds' end' ahead after acts fs
  behind_same end end' passes ahead acts fs all is = newest_same p (named_by names) (named_by names') grows holds holds' word word' accepted end end' passes acts fs ahead m.pc (register m registers.S0) (value_in m) (value_in m) all kept_self is

  pub on_same : (k : Known) (fs : List Frame) (ks : List Known) (rest : List (List Frame)) → Sames (joined (fs ∷ rest)) → StandsOn p names holds ends before k fs ks rest → StandsOn p names' holds' ends after k fs ks rest
  on_same k fs ks rest all on =
      let parts = split holds holds' word word' fs (joined rest) all in
      let end = under p names holds k.note.cell ks rest in
      let end' = under p names' holds' k.note.cell ks rest in
      let passes = under_same k.note.cell ks rest parts.1 in
      record {
        machine = on_words on.machine;
        whole = on.whole;
        file = files_grow (named_by names) (named_by names') grows k.thread.registers (value_in m) on.file;
        frameless = on.frameless;
        stands = elim on.stands [
          | inl is ↦ inl (before_same end end' passes k.thread.activations fs parts.0 is)
          | inr is ↦ inr (behind_same end end' passes 0 k.thread.activations fs parts.0 is)
        ];
      }

  -- ---- just forked

  pub forked_same : (k : Known) (ks : List Known) (rest : List (List Frame)) → Sames (joined rest) → IsForked p names holds ends before k ks rest → IsForked p names' holds' ends after k ks rest
  forked_same k ks rest all is = record {
    machine = on_words is.machine;
    whole = is.whole;
    file = files_grow (named_by names) (named_by names') grows k.thread.registers (value_in m) is.file;
    frameless = is.frameless;
    first = is.first;
    acts = is.acts;
    function = is.function;
    here = is.here;
    start = is.start;
    bytes = is.bytes;
    handles = is.handles;
    kind = is.kind;
    behind = is.behind;
    jumps = is.jumps;
    below = under_same k.note.cell ks rest all Forked is.first.kept (value_in m) (value_in m) (register m registers.S0) (m.pc + 4) kept_self is.below;
  }

  -- ---- at an entry

  pub call_same : (k : Known) (fs : List Frame) (ks : List Known) (rest : List (List Frame)) (entry : ℕ) → Sames (joined (fs ∷ rest)) → AtCall p names holds ends before k fs ks rest entry → AtCall p names' holds' ends after k fs ks rest entry
  call_same k fs ks rest entry all at =
      let parts = split holds holds' word word' fs (joined rest) all in
      let end = under p names holds k.note.cell ks rest in
      let end' = under p names' holds' k.note.cell ks rest in
      let passes = under_same k.note.cell ks rest parts.1 in
      let mine = subst Sames at.frames parts.0 in
      let body = at.call.body in
      let newest : FromNewest p (named_by names) holds end 1 (register m registers.Ra) (register m registers.S0) word (value_in m) (at.top ∷ at.older) (at.f ∷ at.gs) =
      (at.function, record { here = at.has.named; begun = at.begun; at = at.call.back; lies = at.lies; framed = body.framed }) in
      let (function, is) = newest_same p (named_by names) (named_by names') grows holds holds' word word' accepted end end' passes (at.top ∷ at.older) (at.f ∷ at.gs) 1 (register m registers.Ra) (register m registers.S0) (value_in m) (value_in m) mine kept_self newest in
      let one : function ≡ at.function = cc (is.here, at.has.named) in
      record {
        top = at.top;
        older = at.older;
        acts = at.acts;
        f = at.f;
        gs = at.gs;
        frames = at.frames;
        function = at.function;
        item = at.item;
        has = at.has;
        begun = at.begun;
        enters = at.enters;
        lies = subst (λ (x : ProgramFunction). LiesAt holds' x (register m registers.S0) at.f) one is.lies;
        call = record {
          body = record {
            here = at.has.named;
            machine = on_words body.machine;
            file = files_grow (named_by names) (named_by names') grows k.thread.registers (value_in m) body.file;
            frameless = body.frameless;
            framed = subst (λ (x : ProgramFunction). IsFramed (named_by names') (Below p (named_by names') holds' end' at.older at.gs) word' (value_in m) at.f.low (register m registers.S0) x at.top) one is.framed;
          };
          at = at.call.at;
          back = at.call.back;
          whole = at.call.whole;
        };
      }

  -- ---- at the end

  is_last_same : (cell : ℕ) (ks : List Known) (rest : List (List Frame)) → Sames (joined rest) → IsLast p names holds before cell ks rest → IsLast p names' holds' after cell ks rest
  is_last_same cell [] [] all last = last
  is_last_same cell [] (fs ∷ rest) all last = absurd last
  is_last_same cell (k ∷ ks) [] all last = absurd last
  is_last_same cell (k ∷ ks) (fs ∷ rest) all (pc, (ret, handle, back, forked, over, newest)) =
      let (handle', kind, forked', over', newest') = under_same cell (k ∷ ks) (fs ∷ rest) all Forked [] (value_in m) (value_in m) (register m registers.S0) ret kept_self (handle, refl, forked, over, newest) in
      (pc, (ret, handle', back, forked', over', newest'))

  pub last_same : (cell value : ℕ) (ks : List Known) (rest : List (List Frame)) → Sames (joined rest) → AtLast p names holds ends before cell value ks rest → AtLast p names' holds' ends after cell value ks rest
  last_same cell value ks rest all at = record { machine = on_words at.machine; whole = at.whole; value_is = at.value_is; last = is_last_same cell ks rest all at.last }

pub same : (p : Program) (names names' : List (Held × ℕ)) (holds holds' : ℕ → Bool) (word word' : ℕ → ℕ) (ends : Ends) (m : State) → IsAccepted p → Same p names names' holds holds' word word' ends m
same p names names' holds holds' word word' ends m accepted = record {
  on = λ k fs ks rest see is. on_same p names names' holds holds' word word' ends m accepted see.names_have see.words k fs ks rest see.same is;
  forked = λ k ks rest see is. forked_same p names names' holds holds' word word' ends m accepted see.names_have see.words k ks rest see.same is;
  call = λ k fs ks rest entry see is. call_same p names names' holds holds' word word' ends m accepted see.names_have see.words k fs ks rest entry see.same is;
  last = λ cell value ks rest see is. last_same p names names' holds holds' word word' ends m accepted see.names_have see.words cell value ks rest see.same is;
}
