-- The threads that have ended, in the order of their ends.
use Rattle.std.proofs.Common.{◌≡◌, ◌≢◌, ℕ, zero, suc, ◌<◌, List, [], ◌∷◌, ◌++◌, length, get_or, Bool, true, false, cond, Option, Some, None, refl, sym, ap, ◌∙◌, subst, inl, inr, arith}
use Rattle.std.specs.Prelude.{nat_eq}
use Rattle.std.specs.Cmp.Lexicographic.{pointwise, bytes_decides}
use Rattle.st_base.specs.declared.line.Line.{Line}
use Rattle.st_base.specs.declared.thread.Activation.{Activation}
use Rattle.st_base.specs.declared.thread.Held.TheVariants.{Number, Future, Counter}
use Rattle.st_model.specs.declared.program.Program.{Program}
use Rattle.st_model.specs.declared.program.Item.{Item}
use Rattle.st_model.specs.declared.ordinary.Ended.{Ended}
use Rattle.st_model.specs.declared.ordinary.Tally.{Tally}
use Rattle.st_model.specs.declared.ordinary.Rest.{Rest}
use Rattle.st_model.specs.declared.ordinary.State.{State}
use Rattle.st_model.specs.declared.ordinary.Turn.{Turn}
use Rattle.st_model.specs.declared.ordinary.Turn.TheVariants.{Undefined, Goes, Over}
use Rattle.st_model.specs.declared.effect.Effect.{Effect}
use Rattle.st_model.specs.declared.effect.Effect.TheVariants.{Undefined as EUndefined, Goes as EGoes, Calls, Returns, Ends, Traps, Prints, Forks, Touches, Counts, Adds, Joins}
use Rattle.st_model.specs.Memory.{Data}
use Rattle.st_model.specs.Effect.{File, item_effect}
use Rattle.st_model.specs.Ordinary.{step, step_at, apply, item_at, returned_to, ended_in, got, printed_when, joined_when, value_of}
use Rattle.st_model.specs.Ends.{Before, AllBefore, NoneOf, Distinct, Linked, IsOrdered}

before_own : (q : List ℕ) (f : ℕ) → Before q q f → ⊥
before_own [] f h = h
before_own (x ∷ q) f (inl less) = omega arith
before_own (x ∷ q) f (inr both) = before_own q f both.1

before_child : (e q : List ℕ) (f : ℕ) → Before e q f → Before e (q ++ f ∷ []) 0
before_child [] q f h = absurd h
before_child (x ∷ e) [] f h = inl h
before_child (x ∷ e) (y ∷ q) f (inl less) = inl less
before_child (x ∷ e) (y ∷ q) f (inr both) = inr (both.0, before_child e q f both.1)

before_parent : (e p : List ℕ) (k f g : ℕ) → k < g → Before e (p ++ k ∷ []) f → Before e p g
before_parent [] p k f g less h = absurd h
before_parent (x ∷ e) [] k f g less (inl earlier) = omega arith
before_parent (x ∷ e) [] k f g less (inr both) = let same = both.0 in omega arith
before_parent (x ∷ e) (y ∷ p) k f g less (inl earlier) = inl earlier
before_parent (x ∷ e) (y ∷ p) k f g less (inr both) = inr (both.0, before_parent e p k f g less both.1)

before_made : (p : List ℕ) (k g : ℕ) → k < g → Before (p ++ k ∷ []) p g
before_made [] k g less = less
before_made (y ∷ p) k g less = inr (refl, before_made p k g less)

all_child : (es : List Ended) (q : List ℕ) (f : ℕ) → AllBefore es q f → AllBefore es (q ++ f ∷ []) 0
all_child [] q f h = tt
all_child (e ∷ es) q f h = (before_child e.path q f h.0, all_child es q f h.1)

all_parent : (es : List Ended) (p : List ℕ) (k f g : ℕ) → k < g → AllBefore es (p ++ k ∷ []) f → AllBefore es p g
all_parent [] p k f g less h = tt
all_parent (e ∷ es) p k f g less h = (before_parent e.path p k f g less h.0, all_parent es p k f g less h.1)

all_more : (es : List Ended) (x : Ended) (p : List ℕ) (g : ℕ) → AllBefore es p g → Before x.path p g → AllBefore (es ++ x ∷ []) p g
all_more [] x p g h last = (last, tt)
all_more (e ∷ es) x p g h last = (h.0, all_more es x p g h.1 last)

none_before : (es : List Ended) (q : List ℕ) (f : ℕ) → AllBefore es q f → NoneOf es q
none_before [] q f h = tt
none_before (e ∷ es) q f h = ((λ same. before_own q f (subst (λ x. Before x q f) same h.0)), none_before es q f h.1)

none_more : (es : List Ended) (x : Ended) (path : List ℕ) → NoneOf es path → x.path ≢ path → NoneOf (es ++ x ∷ []) path
none_more [] x path h other = (other, tt)
none_more (e ∷ es) x path h other = (h.0, none_more es x path h.1 other)

distinct_more : (es : List Ended) (x : Ended) → Distinct es → NoneOf es x.path → Distinct (es ++ x ∷ [])
distinct_more [] x h none = (tt, tt)
distinct_more (e ∷ es) x h none = (none_more es x e.path h.0 (λ same. none.0 (sym same)), distinct_more es x h.1 none.1)

-- what holds of the state that a turn goes on with
abbrev TurnOrdered : Turn → Type 0
TurnOrdered Undefined = Unit {0}
TurnOrdered (Goes s) = IsOrdered s.rest
TurnOrdered (Over e) = Unit {0}

returned_ordered : (older : List Activation) (rest : Rest) (file : File) → IsOrdered rest → TurnOrdered (returned_to older rest file)
returned_ordered [] rest file h = tt
returned_ordered (a ∷ older) rest file h = record { linked = h.linked; before = h.before; distinct = h.distinct }

ended_ordered : (parents : List Tally) (older : List Activation) (rest : Rest) (v : ℕ) (kept : File) → Linked rest.thread.path parents → AllBefore rest.ended rest.thread.path rest.thread.forks → Distinct rest.ended → TurnOrdered (ended_in parents older rest v kept)
ended_ordered [] older rest v kept linked before distinct = tt
ended_ordered (p ∷ parents) [] rest v kept linked before distinct = tt
ended_ordered (p ∷ parents) (a ∷ older) rest v kept linked before distinct =
    let child = linked.0 in
    let last : Ended = record { path = rest.thread.path; value = v } in
    let earlier = subst (λ q. AllBefore rest.ended q rest.thread.forks) child.named before in
    let made = subst (λ q. Before q p.path p.forks) (sym child.named) (before_made p.path child.number p.forks child.made) in
    record {
      linked = linked.1;
      before = all_more rest.ended last p.path p.forks (all_parent rest.ended p.path child.number rest.thread.forks p.forks child.made earlier) made;
      distinct = distinct_more rest.ended last distinct (none_before rest.ended rest.thread.path rest.thread.forks before);
    }

got_ordered : (v : Option ℕ) (rest : Rest) (top : Activation) (file : File) → IsOrdered rest → TurnOrdered (got v rest top file)
got_ordered None rest top file h = tt
got_ordered (Some v) rest top file h = h

printed_ordered : (root room : Bool) (rest : Rest) (line : Line) (byte : ℕ) (top : Activation) (file : File) → IsOrdered rest → TurnOrdered (printed_when root room rest line byte top file)
printed_ordered true true rest line byte top file h = record { linked = h.linked; before = h.before; distinct = h.distinct }
printed_ordered true false rest line byte top file h = tt
printed_ordered false room rest line byte top file h = tt

joined_ordered : (short : Bool) (rest : Rest) (line : Line) (top : Activation) (file : File) → IsOrdered rest → TurnOrdered (joined_when short rest line top file)
joined_ordered true rest line top file h = tt
joined_ordered false rest line top file h = h

apply_ordered : (rest : Rest) (line : Line) (effect : Effect) → IsOrdered rest → TurnOrdered (apply rest line effect)
apply_ordered rest line EUndefined h = tt
apply_ordered rest line (EGoes top file) h = h
apply_ordered rest line (Calls top callee file) h = record { linked = h.linked; before = h.before; distinct = h.distinct }
apply_ordered rest line (Returns file) h = returned_ordered rest.older rest file h
apply_ordered rest line (Ends v kept) h = ended_ordered rest.parents rest.older rest v kept h.linked h.before h.distinct
apply_ordered rest line (Traps kind) h = tt
apply_ordered rest line (Prints byte top file) h = printed_ordered _ _ rest line byte top file h
apply_ordered rest line (Forks top child handle passed file) h =
    record {
      linked = (record { number = rest.thread.forks; named = refl; made = omega arith }, h.linked);
      before = all_child rest.ended rest.thread.path rest.thread.forks h.before;
      distinct = h.distinct;
    }
apply_ordered rest line (Touches (Number m) top file) h = tt
apply_ordered rest line (Touches (Future path) top file) h = got_ordered _ rest top _ h
apply_ordered rest line (Touches (Counter path m) top file) h = tt
apply_ordered rest line (Counts top file) h = record { linked = h.linked; before = h.before; distinct = h.distinct }
apply_ordered rest line (Adds (Number m) top file) h = tt
apply_ordered rest line (Adds (Future path) top file) h = tt
apply_ordered rest line (Adds (Counter path m) top file) h = record { linked = h.linked; before = h.before; distinct = h.distinct }
apply_ordered rest line (Joins (Number m) least top file) h = tt
apply_ordered rest line (Joins (Future path) least top file) h = tt
apply_ordered rest line (Joins (Counter path m) least top file) h = joined_ordered _ rest line top file h

step_at_ordered : (p : Program) (d : Data) (s : State) (o : Option Item) → IsOrdered s.rest → TurnOrdered (step_at p d s o)
step_at_ordered p d s None h = tt
step_at_ordered p d s (Some item) h = apply_ordered s.rest item.line (item_effect p d item.kind s.top s.registers) h

step_turn_ordered : (p : Program) (d : Data) (s : State) → IsOrdered s.rest → TurnOrdered (step p d s)
unfolding step
step_turn_ordered p d s h = step_at_ordered p d s (item_at p s.top) h

pub step_ordered : (p : Program) (d : Data) (s t : State) → IsOrdered s.rest → step p d s ≡ Goes t → IsOrdered t.rest
step_ordered p d s t h e = subst TurnOrdered e (step_turn_ordered p d s h)

none_at : (es : List Ended) (path : List ℕ) (i : ℕ) (x : Ended) → i < length es → NoneOf es path → (get_or es i x).path ≢ path
none_at [] path i x within none = absurd (omega arith)
none_at (e ∷ es) path zero x within none = none.0
none_at (e ∷ es) path (suc i) x within none = none_at es path i x (omega arith) none.1

passed_over : (b : Bool) (v : ℕ) (more : Option ℕ) → (b ≡ true → ⊥) → cond b (Some v) more ≡ more
passed_over true v more other = absurd (other refl)
passed_over false v more other = refl

-- a thread of the path, wherever it stands, is the one that has the value
pub value_found : (es : List Ended) (path : List ℕ) (i : ℕ) (x : Ended) → Distinct es → i < length es → pointwise nat_eq (get_or es i x).path path ≡ true → value_of es path ≡ Some (get_or es i x).value
value_found [] path i x distinct within here = absurd (omega arith)
value_found (e ∷ es) path zero x distinct within here = ap (λ b. cond b (Some e.value) (value_of es path)) here
value_found (e ∷ es) path (suc i) x distinct within here =
    let at = (bytes_decides (get_or es i x).path path).0 here in
    passed_over (pointwise nat_eq e.path path) e.value (value_of es path)
    (λ first. none_at es e.path i x (omega arith) distinct.0 (at ∙ sym ((bytes_decides e.path path).0 first)))
    ∙ value_found es path i x distinct.1 (omega arith) here
