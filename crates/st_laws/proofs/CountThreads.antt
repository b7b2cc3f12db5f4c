-- The threads of a quiet heap, where the ordinary-call run is Done: its ended threads and the root, each once (threads_are_counted).
use Rattle.std.proofs.Common.{◌≡◌, ℕ, Bool, true, false, cond, List, [], ◌∷◌, ◌++◌, map, length, Option, Some, None, refl, sym, ap, ◌∙◌, subst, ◌⊎◌, inl, inr}
use Rattle.std.specs.Prelude.{slice_get}
use Rattle.std.specs.Str.{bytes_eq}
use Rattle.st_model.specs.declared.program.ProgramFunction.{ProgramFunction}
use Rattle.std.proofs.lemmas.Slice.Eq.{bytes_eq-Decides}
use Rattle.std.proofs.lemmas.List.{map-append}
use Rattle.st_base.specs.declared.thread.Activation.{Activation}
use Rattle.st_base.specs.declared.thread.Held.TheVariants.{Number, Future, Counter}
use Rattle.st_base.specs.declared.line.Line.{Line}
use Rattle.st_base.specs.declared.thread.Standing.TheVariants.{Going, Ended as EndedWith}
use Rattle.st_base.specs.declared.thread.Thread.{Thread}
use Rattle.st_model.specs.declared.program.Program.{Program}
use Rattle.st_model.specs.declared.program.Item.{Item}
use Rattle.st_model.specs.declared.effect.Effect.{Effect}
use Rattle.st_model.specs.declared.effect.Effect.TheVariants.{Undefined, Goes, Calls, Returns, Ends, Traps, Prints, Forks, Touches, Counts, Adds, Joins}
use Rattle.st_model.specs.declared.ordinary.Ended.{Ended}
use Rattle.st_model.specs.declared.ordinary.OrdEnd.TheVariants.{Done}
use Rattle.st_model.specs.declared.ordinary.Tally.{Tally}
use Rattle.st_model.specs.declared.ordinary.Rest.{Rest}
use Rattle.st_model.specs.declared.ordinary.State.{State}
use Rattle.st_model.specs.declared.ordinary.Turn.{Turn}
use Rattle.st_model.specs.declared.ordinary.Turn.TheVariants.{Undefined as Undefined', Goes as Goes', Over}
use Rattle.st_model.specs.Effect.{File, item_effect}
use Rattle.st_model.specs.Ordinary.{step, step_at, item_at, apply, returned_to, ended_in, value_of, got, printed_when, joined_when, started}
use Rattle.st_model.specs.Heap.{Path, Heap, own, after, IsNumbered, first_heap}
use Rattle.st_model.specs.Quiet.{IsQuiet}
use Rattle.st_laws.specs.Sequential.{Stands, Steps, IsAmong}
use Rattle.st_model.specs.Limits.{IsMember, AreDistinct}
use Rattle.st_laws.specs.Names.{IsThread}
use Rattle.st_laws.specs.QuietEnd.{AreThreads, ThreadsAreCounted}
use Rattle.st_laws.proofs.HeapSteps.{standing_or}
use Rattle.st_laws.proofs.Numbering.{numbered_after, numbered_run}
use Rattle.st_laws.proofs.Later.{step_forks, no_step, ended_stopped}
use Rattle.st_laws.proofs.Placing.{each_after}
use Rattle.st_laws.proofs.Sequence.{newest_of, ending, sequence, sequential}
use Rattle.st_laws.proofs.HeapRuns.{run_snoc, quiet_reached, quiet_stays}
use Rattle.st_laws.proofs.Quieting.{all_ended, first_stands, AllEnded}
use Rattle.st_model.specs.Memory.{Data}

abbrev paths : List Ended → List Path
paths es = map (λ e. e.path) es

-- ---- lists
member_push : (p q : Path) (xs : List Path) → IsMember p (xs ++ q ∷ []) → IsMember p xs ⊎ (p ≡ q)
member_push p q [] (inl e) = inr e
member_push p q [] (inr none) = absurd none
member_push p q (x ∷ xs) (inl e) = inl (inl e)
member_push p q (x ∷ xs) (inr m) = elim (member_push p q xs m) [ inl y ↦ inl (inr y) | inr e ↦ inr e ]

distinct_push : (q : Path) (xs : List Path) → AreDistinct xs → (IsMember q xs → ⊥) → AreDistinct (xs ++ q ∷ [])
distinct_push q [] d new = (λ m. m, tt)
distinct_push q (x ∷ xs) d new =
    (λ m. elim (member_push x q xs m) [ inl y ↦ d.0 y | inr e ↦ new (inl (sym e)) ], distinct_push q xs d.1 (λ m. new (inr m)))

member_value_by : (b : Bool) (x : ℕ) (o : Option ℕ) → (b ≡ true) ⊎ ((v : ℕ) × (o ≡ Some v)) → (v : ℕ) × (cond b (Some x) o ≡ Some v)
member_value_by true x o k = (x, refl)
member_value_by false x o (inl e) = cc
member_value_by false x o (inr k) = k

member_value : (es : List Ended) (p : Path) → IsMember p (paths es) → (v : ℕ) × (value_of es p ≡ Some v)
member_value [] p m = absurd m
member_value (e ∷ es) p (inl same) = member_value_by (bytes_eq e.path p) e.value (value_of es p) (inl ((bytes_eq-Decides e.path p).1 (sym same)))
member_value (e ∷ es) p (inr m) = member_value_by (bytes_eq e.path p) e.value (value_of es p) (inr (member_value es p m))

value_member_by : (b : Bool) (e : Ended) (p : Path) (o : Option ℕ) (v : ℕ) (Q : Type 0) → bytes_eq e.path p ≡ b → (o ≡ Some v → Q) → cond b (Some e.value) o ≡ Some v → (p ≡ e.path) ⊎ Q
value_member_by true e p o v Q t more is = inl (sym ((bytes_eq-Decides e.path p).0 t))
value_member_by false e p o v Q t more is = inr (more is)

value_member : (es : List Ended) (p : Path) (v : ℕ) → value_of es p ≡ Some v → IsMember p (paths es)
value_member [] p v is = cc
value_member (e ∷ es) p v is = value_member_by (bytes_eq e.path p) e p (value_of es p) v (IsMember p (paths es)) refl (value_member es p v) is

-- ---- each thread ends once
abbrev EndOnce : List Ended → Type 0
EndOnce es = AreDistinct (paths es)

abbrev TurnOnce : Turn → Type 0
TurnOnce Undefined' = Unit {0}
TurnOnce (Goes' t) = EndOnce t.rest.ended
TurnOnce (Over e) = Unit {0}

returned_once : (older : List Activation) (rest : Rest) (file : File) → EndOnce rest.ended → TurnOnce (returned_to older rest file)
returned_once [] rest file d = tt
returned_once (a ∷ older) rest file d = d

ended_once : (parents : List Tally) (older : List Activation) (rest : Rest) (v : ℕ) (kept : File) → EndOnce rest.ended → (IsMember rest.thread.path (paths rest.ended) → ⊥) → TurnOnce (ended_in parents older rest v kept)
ended_once [] older rest v kept d new = tt
ended_once (parent ∷ parents) [] rest v kept d new = tt
ended_once (parent ∷ parents) (top ∷ older) rest v kept d new =
    let e : Ended = record { path = rest.thread.path; value = v } in
    subst AreDistinct (sym (map-append (λ e. e.path) rest.ended (e ∷ []))) (distinct_push rest.thread.path (paths rest.ended) d new)

got_once : (o : Option ℕ) (rest : Rest) (top : Activation) (file : File) → EndOnce rest.ended → TurnOnce (got o rest top file)
got_once None rest top file d = tt
got_once (Some v) rest top file d = d

printed_once : (root room : Bool) (rest : Rest) (line : Line) (byte : ℕ) (top : Activation) (file : File) → EndOnce rest.ended → TurnOnce (printed_when root room rest line byte top file)
printed_once true true rest line byte top file d = d
printed_once true false rest line byte top file d = tt
printed_once false room rest line byte top file d = tt

joined_once : (short : Bool) (rest : Rest) (line : Line) (top : Activation) (file : File) → EndOnce rest.ended → TurnOnce (joined_when short rest line top file)
joined_once true rest line top file d = tt
joined_once false rest line top file d = d

apply_once : (rest : Rest) (line : Line) (effect : Effect) → EndOnce rest.ended → (IsMember rest.thread.path (paths rest.ended) → ⊥) → TurnOnce (apply rest line effect)
apply_once rest line Undefined d new = tt
apply_once rest line (Goes top file) d new = d
apply_once rest line (Calls top callee file) d new = d
apply_once rest line (Returns file) d new = returned_once rest.older rest file d
apply_once rest line (Ends v kept) d new = ended_once rest.parents rest.older rest v kept d new
apply_once rest line (Traps kind) d new = tt
apply_once rest line (Prints byte top file) d new = printed_once _ _ rest line byte top file d
apply_once rest line (Forks top child handle passed file) d new = d
apply_once rest line (Touches (Number n) top file) d new = tt
apply_once rest line (Touches (Future p) top file) d new = got_once _ rest top file d
apply_once rest line (Touches (Counter p n) top file) d new = tt
apply_once rest line (Counts top file) d new = d
apply_once rest line (Adds (Number n) top file) d new = tt
apply_once rest line (Adds (Future p) top file) d new = tt
apply_once rest line (Adds (Counter p n) top file) d new = d
apply_once rest line (Joins (Number n) least top file) d new = tt
apply_once rest line (Joins (Future p) least top file) d new = tt
apply_once rest line (Joins (Counter p n) least top file) d new = joined_once _ rest line top file d

step_once : (program : Program) (source : Data) (s : State) (o : Option Item) → EndOnce s.rest.ended → (IsMember s.rest.thread.path (paths s.rest.ended) → ⊥) → TurnOnce (step_at program source s o)
step_once program source s None d new = tt
step_once program source s (Some item) d new = apply_once s.rest item.line (item_effect program source item.kind s.top s.registers) d new

-- the newest thread hasn't ended
newest_new : (s : State) (h : Heap) → Stands s h → IsMember s.rest.thread.path (paths s.rest.ended) → ⊥
newest_new s h st m =
    let v = member_value s.rest.ended s.rest.thread.path m in
    let x = st.facts.ended s.rest.thread.path v.0 v.1 in
    let t = newest_of s h st in
    let y : EndedWith v.0 ≡ Going = sym x.2 ∙ ap (λ o. standing_or o t) (sym x.1 ∙ st.here) in cc

next_once : (program : Program) (source : Data) (s t : State) (h : Heap) → Stands s h → EndOnce s.rest.ended → step program source s ≡ Goes' t → EndOnce t.rest.ended
unfolding step
next_once program source s t h st d is = subst TurnOnce is (step_once program source s (item_at program s.top) d (newest_new s h st))

run_once : (program : Program) (source : Data) (s t : State) (h : Heap) (ps : List Path) → IsNumbered h → Stands s h → EndOnce s.rest.ended → Steps program source s ps t → EndOnce t.rest.ended
run_once program source s t h [] numbered st d steps = subst (λ x. EndOnce x.rest.ended) steps d
run_once program source s t h (p ∷ ps) numbered st d steps =
    let mid = steps.1.0 in
    let one = sequential program source s mid h numbered st steps.1.1 in
    run_once program source mid t one.0 ps (numbered_after program source h s.rest.thread.path one.0 numbered one.1) one.2 (next_once program source s mid h st d steps.1.1) steps.1.2

abbrev OptionOnce : Option State → Type 0
OptionOnce None = Unit {0}
OptionOnce (Some s) = EndOnce s.rest.ended

started_once : (program : Program) (input : ℕ) (o : Option ProgramFunction) → OptionOnce (started program input o)
started_once program input None = tt
started_once program input (Some function) = tt

pub threads_are_counted : ThreadsAreCounted
threads_are_counted program source t ps out h r steps over quiet =
    let s = r.first in
    let first = r.is_first in
    let stands = first_stands program source s first in
    let numbered = stands.1 in
    let x = sequence program source s t (first_heap s) ps numbered stands.0 steps in
    let g = x.0 in
    let numbered_g = numbered_run program source (first_heap s) ps g numbered x.1 in
    let e = t.rest.thread.path in
    let last = newest_of t g x.2 in
    let done = ending program source t (Done out) g numbered_g x.2 over in
    let v = done.2.0 in
    let own' : Thread = record last { standing = EndedWith v } in
    let g' = after g e last (own own') in
    let ended : AllEnded g' = all_ended program t g last v x.2 done.1 in
    let quiet' : IsQuiet program source g' = λ p h'' y. let z = ended p y.thread y.here in no_step program source g' p h'' y.thread y.here (ended_stopped y.thread.standing z.0 z.1) y in
    let more = quiet_reached program source (first_heap s) (ps ++ e ∷ []) r.steps g' h numbered (run_snoc program source (first_heap s) ps g e g' x.1 done.2.1) r.run quiet in
    let same : g' ≡ h = quiet_stays program source g' more.0 h quiet' more.1 in
    let ts = e ∷ paths t.rest.ended in
    let stays : (p : Path) → IsThread g p → IsThread g' p = λ p y. let z = step_forks program source g e p g' y.0 numbered_g y.1 done.2.1 in (z.0, z.1) in
    let once = run_once program source s t (first_heap s) ps numbered stands.0 (subst OptionOnce first (started_once program (length source.input) (slice_get program.functions program.main))) steps in
    let member : (p : Path) (u : Thread) → g'.thread p ≡ Some u → IsMember p ts =
    each_after (λ p u. IsMember p ts) g e last (own own') (inl refl) tt
    (λ p u ne there.
    elim (x.2.facts.whole p u there) [
      | inl y ↦ inr (value_member t.rest.ended p y.0 y.2)
      | inr y ↦ elim y [
        | inl new ↦ inl new
        | inr among ↦ absurd (subst (IsAmong p) done.1 among)
      ]
    ]) in
    let threads : AreThreads g' ts =
    record {
      distinct = (newest_new t g x.2, once);
      there = λ p m. elim m [
        | inl y ↦ stays p (last, subst (λ z. g.thread z ≡ Some last) (sym y) x.2.here)
        | inr y ↦ let z = member_value t.rest.ended p y in let w = x.2.facts.ended p z.0 z.1 in stays p (w.0, w.1)
      ];
      all = λ p y. member p y.0 y.1;
    } in
    subst (λ z. AreThreads z ts) same threads
