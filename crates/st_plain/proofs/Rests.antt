-- What a turn leaves of the threads, futures and counters. Read forked_rest, ended_rest, counter_rest, added_rest and first_rest, and below them
-- forked_gives to started_gives: where the ordinary-call run goes on from such a turn, it does so with that rest.
use Rattle.std.proofs.Common.{◌≡◌, ℕ, ◌+◌, List, [], ◌∷◌, ◌++◌, Option, Some, None, refl, sym, ap, ◌∙◌}
use Rattle.std.proofs.lemmas.Option.{same_Some}
use Rattle.st_base.specs.declared.reg.Reg.{Reg}
use Rattle.st_base.specs.declared.reg.Reg.TheVariants.{A6, Zero}
use Rattle.st_base.specs.declared.line.Line.{Line}
use Rattle.st_base.specs.declared.thread.Activation.{Activation}
use Rattle.st_base.specs.declared.thread.Held.{Held}
use Rattle.st_base.specs.declared.thread.Held.TheVariants.{Number, Future, Counter}
use Rattle.st_base.specs.Registers.{write_register}
use Rattle.st_model.specs.declared.program.Program.{Program}
use Rattle.st_model.specs.declared.program.ProgramFunction.{ProgramFunction}
use Rattle.st_model.specs.declared.ordinary.Rest.{Rest}
use Rattle.st_model.specs.declared.ordinary.State.{State}
use Rattle.st_model.specs.declared.ordinary.Tally.{Tally}
use Rattle.st_model.specs.declared.ordinary.Turn.TheVariants.{Goes}
use Rattle.st_model.specs.Effect.{File}
use Rattle.st_model.specs.Ordinary.{counted_up, forked, ended_in, made_counter, added, started}

-- after a fork; `older` are the activations below the child's
abbrev pub forked_rest : Rest → List Activation → Reg → Rest
forked_rest rest older handle = record {
  older = older;
  thread = record { path = rest.thread.path ++ rest.thread.forks ∷ []; forks = 0; counters = 0; handle = handle };
  parents = record rest.thread { forks = rest.thread.forks + 1 } ∷ rest.parents;
  ended = rest.ended;
  counts = rest.counts;
  out = rest.out;
}

-- after a thread's end, back in its parent
abbrev pub ended_rest : Rest → List Activation → Tally → List Tally → ℕ → Rest
ended_rest rest older parent parents value = record {
  older = older;
  thread = parent;
  parents = parents;
  ended = rest.ended ++ record { path = rest.thread.path; value = value } ∷ [];
  counts = rest.counts;
  out = rest.out;
}

-- after a new counter
abbrev pub counter_rest : Rest → List Activation → Rest
counter_rest rest older = record rest {
  older = older;
  thread = record rest.thread { counters = rest.thread.counters + 1 };
  counts = rest.counts ++ record { maker = rest.thread.path; number = rest.thread.counters; count = 0 } ∷ [];
}

-- after an addition to a counter
abbrev pub added_rest : Rest → List Activation → List ℕ → ℕ → Rest
added_rest rest older maker n = record rest { older = older; counts = counted_up rest.counts maker n }

-- at the start
abbrev pub first_rest : Rest
first_rest = record { older = []; thread = record { path = []; forks = 0; counters = 0; handle = Zero }; parents = []; ended = []; counts = []; out = [] }

goes_rest : (s t : State) → Goes s ≡ Goes t → t.rest ≡ s.rest
goes_rest s t e = let same : t ≡ s = cc in ap (λ (u : State). u.rest) same

-- the older activations of a rest are those that it was made with
by_older : (make : List Activation → Rest) (older : List Activation) (next : Rest) → next ≡ make older → (make older).older ≡ older → next ≡ make next.older
by_older make older next is own = is ∙ ap make (sym (ap (λ (r : Rest). r.older) is ∙ own))

pub forked_gives : (rest : Rest) (parent child : Activation) (handle : Reg) (passed : File) (s : State) → forked rest parent child handle passed ≡ Goes s → s.rest ≡ forked_rest rest s.rest.older handle
forked_gives rest parent child handle passed s e =
    let first : State = record { top = child; registers = passed; rest = forked_rest rest (parent ∷ rest.older) handle } in
    by_older (λ older. forked_rest rest older handle) (parent ∷ rest.older) s.rest (goes_rest first s e) refl

pub ended_gives : (tallies : List Tally) (older : List Activation) (rest : Rest) (value : ℕ) (kept : File) (s : State) → ended_in tallies older rest value kept ≡ Goes s
    → (parent : Tally) × (parents : List Tally) × (tallies ≡ parent ∷ parents) × (s.rest ≡ ended_rest rest s.rest.older parent parents value)
ended_gives [] older rest value kept s e = let no : ⊥ = cc in absurd no
ended_gives (parent ∷ parents) [] rest value kept s e = let no : ⊥ = cc in absurd no
ended_gives (parent ∷ parents) (top ∷ older) rest value kept s e =
    let first : State = record { top = top; registers = write_register kept rest.thread.handle (Future rest.thread.path); rest = ended_rest rest older parent parents value } in
    (parent, parents, refl, by_older (λ others. ended_rest rest others parent parents value) older s.rest (goes_rest first s e) refl)

pub counter_gives : (rest : Rest) (top : Activation) (file : File) (s : State) → made_counter rest top file ≡ Goes s → s.rest ≡ counter_rest rest s.rest.older
counter_gives rest top file s e =
    let first : State = record { top = top; registers = write_register file A6 (Counter rest.thread.path rest.thread.counters); rest = counter_rest rest rest.older } in
    by_older (counter_rest rest) rest.older s.rest (goes_rest first s e) refl

pub added_gives : (rest : Rest) (line : Line) (name : Held) (top : Activation) (file : File) (s : State) → added rest line name top file ≡ Goes s
    → (maker : List ℕ) × (n : ℕ) × (name ≡ Counter maker n) × (s.rest ≡ added_rest rest s.rest.older maker n)
added_gives rest line (Number k) top file s e = let no : ⊥ = cc in absurd no
added_gives rest line (Future path) top file s e = let no : ⊥ = cc in absurd no
added_gives rest line (Counter maker n) top file s e =
    let first : State = record { top = top; registers = file; rest = added_rest rest rest.older maker n } in
    (maker, n, refl, by_older (λ older. added_rest rest older maker n) rest.older s.rest (goes_rest first s e) refl)

pub started_gives : (p : Program) (input : ℕ) (o : Option ProgramFunction) (s : State) → started p input o ≡ Some s → s.rest ≡ first_rest
started_gives p input None s e = let no : ⊥ = cc in absurd no
started_gives p input (Some function) s e = ap (λ (t : State). t.rest) (sym (same_Some _ s e))
