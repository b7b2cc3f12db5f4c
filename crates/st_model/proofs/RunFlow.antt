-- An accepted program's ordinary-call run never reads anything undefined: always_defined. The invariant is Sound: the newest activation
-- Flows, and below each activation stands one that Flows once the call has given its value (Below). The good names are the futures of
-- the threads that have ended. step_sound: a step keeps Sound, by item_flows and one clause an effect (apply_sound).
use Rattle.std.proofs.Common.{◌≡◌, ◌≢◌, ℕ, zero, suc, ◌+◌, ◌≤◌, Bool, true, false, cond, List, [], ◌∷◌, ◌++◌, length, Option, Some, None, refl, sym, subst, inl, inr}
use Rattle.std.specs.Prelude.{slice_get, nat_eq}
use Rattle.std.specs.Cmp.Lexicographic.{pointwise}
use Rattle.std.proofs.lemmas.Slice.Eq.{bytes_eq-Decides}
use Rattle.st_base.specs.declared.reg.Reg.{Reg}
use Rattle.st_base.specs.declared.reg.Reg.TheVariants.{A0}
use Rattle.st_base.specs.declared.thread.Held.TheVariants.{Number, Future, Counter}
use Rattle.st_base.specs.declared.thread.Activation.{Activation}
use Rattle.st_base.specs.declared.thread.ActivationKind.{ActivationKind}
use Rattle.st_base.specs.declared.thread.ActivationKind.TheVariants.{Called, Forked, Root}
use Rattle.st_base.specs.declared.line.Line.{Line}
use Rattle.st_base.specs.Registers.{write_register}
use Rattle.st_model.specs.declared.program.Program.{Program}
use Rattle.st_model.specs.declared.program.ProgramFunction.{ProgramFunction}
use Rattle.st_model.specs.declared.effect.Effect.{Effect}
use Rattle.st_model.specs.declared.effect.Effect.TheVariants.{Undefined, Goes, Calls, Returns, Ends, Traps, Prints, Forks, Touches, Counts, Adds, Joins}
use Rattle.st_model.specs.declared.ordinary.Ended.{Ended}
use Rattle.st_model.specs.declared.ordinary.OrdEnd.{OrdEnd}
use Rattle.st_model.specs.declared.ordinary.Tally.{Tally}
use Rattle.st_model.specs.declared.ordinary.Rest.{Rest}
use Rattle.st_model.specs.declared.ordinary.State.{State}
use Rattle.st_model.specs.declared.ordinary.Turn.{Turn}
use Rattle.st_model.specs.declared.ordinary.Turn.TheVariants.{Undefined as Undefined', Goes as Goes', Over}
use Rattle.st_model.specs.Memory.{Data}
use Rattle.st_model.specs.Effect.{IsFirst, File, item_effect}
use Rattle.st_model.specs.Accepted.{IsAccepted}
use Rattle.st_model.specs.Ordinary.{value_of, apply, step, step_at, run, run_from, after_turn, started, ordinary_run, ended_in, returned_to, got, printed_when, joined_when}
use Rattle.st_model.specs.Laws.{AlwaysDefined}
use Rattle.st_model.proofs.Flowing.{Known, IsThere}
use Rattle.st_model.proofs.EffectFlow.{Flows, SameEntry, or_is, EffectFlows, flows_wider}
use Rattle.st_model.proofs.ItemFlow.{item_flows}
use Rattle.st_model.proofs.StartFlow.{start_flows}

-- ---- the invariant

-- the threads that have ended
abbrev known_in : List Ended → Known
known_in ended q = IsThere (value_of ended q)

-- what stands below an activation of this kind that keeps this file, in the thread of this path and register
abbrev Below : Program → Known → ActivationKind → File → List Activation → List ℕ → Reg → List Tally → Type 0
Below p known Called kept [] path handle ts = ⊥
Below p known Called kept (a ∷ older) path handle ts =
    ((v : ℕ) → Flows known p a (write_register kept A0 (Number v))) × Below p known a.kind a.kept older path handle ts
Below p known Forked kept [] path handle ts = ⊥
Below p known Forked kept (a ∷ older) path handle [] = ⊥
Below p known Forked kept (a ∷ older) path handle (t ∷ ts) =
    Flows (or_is known path) p a (write_register kept handle (Future path)) × Below p known a.kind a.kept older t.path t.handle ts
Below p known Root kept older path handle ts = ts ≡ []

abbrev BelowIn : Program → ActivationKind → File → Rest → Type 0
BelowIn p kind kept rest = Below p (known_in rest.ended) kind kept rest.older rest.thread.path rest.thread.handle rest.parents

record Sound (p : Program) (s : State) : Type 0 where
  flows : Flows (known_in s.rest.ended) p s.top s.registers
  below : BelowIn p s.top.kind s.top.kept s.rest

abbrev TurnSound : Program → Turn → Type 0
TurnSound p Undefined' = ⊥
TurnSound p (Goes' s) = Sound p s
TurnSound p (Over end) = Unit {0}

-- ---- more names are known

or_is_wider : (known more : Known) (path : List ℕ) → ((q : List ℕ) → known q → more q) → (q : List ℕ) → or_is known path q → or_is more path q
or_is_wider known more path wider q (inl k) = inl (wider q k)
or_is_wider known more path wider q (inr e) = inr e

below_wider : (p : Program) (known more : Known) (kind : ActivationKind) (kept : File) (older : List Activation) (path : List ℕ) (handle : Reg) (ts : List Tally) → ((q : List ℕ) → known q → more q) → Below p known kind kept older path handle ts → Below p more kind kept older path handle ts
below_wider p known more Called kept [] path handle ts wider b = b
below_wider p known more Called kept (a ∷ older) path handle ts wider b =
    (λ v. flows_wider known more p a _ wider (b.0 v), below_wider p known more a.kind a.kept older path handle ts wider b.1)
below_wider p known more Forked kept [] path handle ts wider b = b
below_wider p known more Forked kept (a ∷ older) path handle [] wider b = b
below_wider p known more Forked kept (a ∷ older) path handle (t ∷ ts) wider b =
    (flows_wider (or_is known path) (or_is more path) p a _ (or_is_wider known more path wider) b.0, below_wider p known more a.kind a.kept older t.path t.handle ts wider b.1)
below_wider p known more Root kept older path handle ts wider b = b

below_same : (p : Program) (top next : Activation) (rest : Rest) → SameEntry top next → BelowIn p top.kind top.kept rest → BelowIn p next.kind next.kept rest
below_same p top next rest same b =
    subst (λ k. BelowIn p k next.kept rest) (sym same.kind) (subst (λ f. BelowIn p top.kind f rest) (sym same.kept) b)

-- ---- the threads that have ended

value_stays_when : (b : Bool) (v : ℕ) (o more : Option ℕ) → (IsThere o → IsThere more) → IsThere (cond b (Some v) o) → IsThere (cond b (Some v) more)
value_stays_when true v o more h there = there
value_stays_when false v o more h there = h there

value_stays : (es : List Ended) (e : Ended) (q : List ℕ) → known_in es q → known_in (es ++ e ∷ []) q
value_stays [] e q there = absurd there
value_stays (x ∷ es) e q there = value_stays_when (pointwise nat_eq x.path q) x.value (value_of es q) _ (value_stays es e q) there

value_new_when : (b : Bool) (v : ℕ) (o : Option ℕ) → IsThere o → IsThere (cond b (Some v) o)
value_new_when true v o there = tt
value_new_when false v o there = there

value_new : (es : List Ended) (q : List ℕ) (v : ℕ) → known_in (es ++ record { path = q; value = v } ∷ []) q
value_new [] q v = subst (λ b. IsThere (cond b (Some v) None)) (sym ((bytes_eq-Decides q q).1 refl)) tt
value_new (x ∷ es) q v = value_new_when (pointwise nat_eq x.path q) x.value _ (value_new es q v)

known_after : (es : List Ended) (path : List ℕ) (v : ℕ) (q : List ℕ) → or_is (known_in es) path q → known_in (es ++ record { path = path; value = v } ∷ []) q
known_after es path v q (inl k) = value_stays es (record { path = path; value = v }) q k
known_after es path v q (inr e) = subst (known_in (es ++ record { path = path; value = v } ∷ [])) (sym e) (value_new es path v)

-- ---- a step

ended_sound : (p : Program) (kind : ActivationKind) (kept : File) (v : ℕ) (older : List Activation) (ts : List Tally) (rest : Rest) → IsFirst kind → Below p (known_in rest.ended) kind kept older rest.thread.path rest.thread.handle ts → TurnSound p (ended_in ts older rest v kept)
ended_sound p Called kept v older ts rest first b = absurd first
ended_sound p Forked kept v [] ts rest first b = absurd b
ended_sound p Forked kept v (a ∷ older) [] rest first b = absurd b
ended_sound p Forked kept v (a ∷ older) (t ∷ ts) rest first b =
    let es = rest.ended in
    let path = rest.thread.path in
    let more = known_in (es ++ record { path = path; value = v } ∷ []) in
    record {
      flows = flows_wider (or_is (known_in es) path) more p a _ (known_after es path v) b.0;
      below = below_wider p (known_in es) more a.kind a.kept older t.path t.handle ts (λ q k. known_after es path v q (inl k)) b.1;
    }
ended_sound p Root kept v older [] rest first b = tt
ended_sound p Root kept v older (t ∷ ts) rest first b = absurd (cc)

returned_sound : (p : Program) (kind : ActivationKind) (kept file : File) (v : ℕ) (older : List Activation) (rest : Rest) → kind ≡ Called → file ≡ write_register kept A0 (Number v) → Below p (known_in rest.ended) kind kept older rest.thread.path rest.thread.handle rest.parents → TurnSound p (returned_to older rest file)
returned_sound p Called kept file v [] rest is e b = absurd b
returned_sound p Called kept file v (a ∷ older) rest is e b = record { flows = subst (Flows (known_in rest.ended) p a) (sym e) (b.0 v); below = b.1 }
returned_sound p Forked kept file v older rest is e b = absurd (cc)
returned_sound p Root kept file v older rest is e b = absurd (cc)

got_sound : (p : Program) (o : Option ℕ) (rest : Rest) (top : Activation) (file : File) → IsThere o → ((v : ℕ) → Flows (known_in rest.ended) p top (write_register file A0 (Number v))) → BelowIn p top.kind top.kept rest → TurnSound p (got o rest top file)
got_sound p None rest top file there f b = absurd there
got_sound p (Some v) rest top file there f b = record { flows = f v; below = b }

printed_sound : (p : Program) (root room : Bool) (rest : Rest) (line : Line) (byte : ℕ) (top : Activation) (file : File) → Flows (known_in rest.ended) p top file → BelowIn p top.kind top.kept rest → TurnSound p (printed_when root room rest line byte top file)
printed_sound p true true rest line byte top file f b = record { flows = f; below = b }
printed_sound p true false rest line byte top file f b = tt
printed_sound p false room rest line byte top file f b = tt

joined_sound : (p : Program) (less : Bool) (rest : Rest) (line : Line) (top : Activation) (file : File) → Flows (known_in rest.ended) p top file → BelowIn p top.kind top.kept rest → TurnSound p (joined_when less rest line top file)
joined_sound p true rest line top file f b = tt
joined_sound p false rest line top file f b = record { flows = f; below = b }

apply_sound : (p : Program) (rest : Rest) (line : Line) (top : Activation) (effect : Effect) → EffectFlows (known_in rest.ended) p top effect → BelowIn p top.kind top.kept rest → TurnSound p (apply rest line effect)
apply_sound p rest line top Undefined f b = f
apply_sound p rest line top (Goes next file) f b = record { flows = f.1; below = below_same p top next rest f.0 b }
apply_sound p rest line top (Calls next callee file) f b =
    record {
      flows = f.2;
      below = subst (λ k. BelowIn p k callee.kept (record rest { older = next ∷ rest.older })) (sym f.1) (f.3, below_same p top next rest f.0 b);
    }
apply_sound p rest line top (Returns file) f b = returned_sound p top.kind top.kept file f.1.0 rest.older rest f.0 f.1.1 b
apply_sound p rest line top (Ends v kept) f b =
    ended_sound p top.kind kept v rest.older rest.parents rest f.0 (subst (λ k. BelowIn p top.kind k rest) (sym f.1) b)
apply_sound p rest line top (Traps kind) f b = tt
apply_sound p rest line top (Prints byte next file) f b = printed_sound p _ _ rest line byte next file f.1 (below_same p top next rest f.0 b)
apply_sound p rest line top (Forks next child handle passed file) f b =
    let path = rest.thread.path ++ rest.thread.forks ∷ [] in
    record {
      flows = f.3;
      below =
          subst (λ k. Below p (known_in rest.ended) k child.kept (next ∷ rest.older) path handle (record rest.thread { forks = rest.thread.forks + 1 } ∷ rest.parents)) (sym f.1)
          (f.4 path, below_same p top next rest f.0 b);
    }
apply_sound p rest line top (Touches (Number n) next file) f b = absurd f.1
apply_sound p rest line top (Touches (Future q) next file) f b =
    got_sound p (value_of rest.ended q) rest next file f.1 f.2 (below_same p top next rest f.0 b)
apply_sound p rest line top (Touches (Counter q n) next file) f b = tt
apply_sound p rest line top (Counts next file) f b =
    record { flows = f.1 rest.thread.path rest.thread.counters; below = below_same p top next rest f.0 b }
apply_sound p rest line top (Adds (Number n) next file) f b = tt
apply_sound p rest line top (Adds (Future q) next file) f b = tt
apply_sound p rest line top (Adds (Counter q n) next file) f b = record { flows = f.2; below = below_same p top next rest f.0 b }
apply_sound p rest line top (Joins (Number n) least next file) f b = tt
apply_sound p rest line top (Joins (Future q) least next file) f b = tt
apply_sound p rest line top (Joins (Counter q n) least next file) f b = joined_sound p _ rest line next file f.2 (below_same p top next rest f.0 b)

step_sound : (p : Program) (source : Data) (s : State) → IsAccepted p → Sound p s → TurnSound p (step p source s)
unfolding step
step_sound p source s accepted sound =
    let a = item_flows (known_in s.rest.ended) p source s.top s.registers accepted sound.flows in
    subst (λ o. TurnSound p (step_at p source s o)) (sym a.1) (apply_sound p s.rest a.0.line s.top (item_effect p source a.0.kind s.top s.registers) a.2 sound.below)

-- ---- a run

after_defined : (p : Program) (go : State → Option OrdEnd) (turn : Turn) → ((s : State) → Sound p s → go s ≢ None) → TurnSound p turn → after_turn go turn ≢ None
after_defined p go Undefined' more sound = absurd sound
after_defined p go (Goes' s) more sound = more s sound
after_defined p go (Over end) more sound = λ x. cc

run_defined : (p : Program) (source : Data) (n : ℕ) (s : State) → IsAccepted p → Sound p s → run p source n s ≢ None
unfolding run
run_defined p source zero s accepted sound = λ x. cc
run_defined p source (suc n) s accepted sound =
    after_defined p (run p source n) (step p source s) (λ t is. run_defined p source n t accepted is) (step_sound p source s accepted sound)

started_defined : (p : Program) (source : Data) (n input : ℕ) (main : ProgramFunction) → IsAccepted p → slice_get p.functions p.main ≡ Some main → main.ints ≤ 1 → main.handles ≡ 0 → run_from p source n (started p input (Some main)) ≢ None
started_defined p source n input main accepted here few none =
    run_defined p source n _ accepted record { flows = start_flows (known_in []) p input main accepted here few none; below = refl }

pub always_defined : AlwaysDefined
unfolding ordinary_run
always_defined p source accepted n =
    subst (λ o. run_from p source n (started p (length source.input) o) ≢ None) (sym accepted.has_main)
    (started_defined p source n (length source.input) accepted.main accepted accepted.has_main accepted.main_ints accepted.main_handles)
