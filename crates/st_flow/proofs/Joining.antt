-- Two paths joined: from a path of the bit (late_of, origin_seed) and a path from the first node (joined_late, joined_both) the whole,
-- and the whole turned round (turned_undefined, turned_once).
use Rattle.std.proofs.Common.{◌≡◌, ℕ, zero, suc, ◌+◌, ◌-◌, ◌*◌, ◌/◌, ◌%◌, ◌<◌, Bool, true, false, List, [], ◌∷◌, ◌++◌, length, get_or, refl, sym, ap, ◌∙◌, subst, arith, inl, inr}
use Rattle.std.specs.Prelude.{not, reverse, ◌||◌, ◌↔◌}
use Rattle.std.specs.List.{Contains}
use Rattle.std.proofs.lemmas.List.{reverse-reverse}
use Rattle.st_model.specs.declared.program.Program.{Program}
use Rattle.st_model.specs.declared.program.ProgramFunction.{ProgramFunction}
use Rattle.st_model.specs.Flow.{gives, takes, Leads, defined_at_entry, defined_after, UndefinedRead}
use Rattle.st_flow.specs.declared.graph.Node.{Node}
use Rattle.st_flow.specs.declared.places.Change.TheVariants.{Spared, TakenAway}
use Rattle.st_flow.specs.Graph.{IsEdge, HasBit, Comes, Reaches, IsWalked}
use Rattle.st_flow.specs.Search.{HasNoRepeat, IsTrail}
use Rattle.st_flow.specs.Undefined.{ReadsPlace, TakesAway, LeavesUndefined, PassesOnce}
use Rattle.st_flow.specs.Tables.{IsNextIn, IsGraphOf, IsUndefined, IsReached, Changes, Begins, IsTable, AreStarts, IsMap}
use Rattle.st_flow.specs.Joined.{origin, Spares, IsLate, IsWalk, PutsTo, IsJoined}
use Rattle.st_flow.proofs.TableRows.{comes_walks, walks_comes}
use Rattle.st_flow.proofs.Travelling.{undefined_reaches, walk_leads, after_taken, after_spared}
use Rattle.st_flow.proofs.Words.{and_parts, is_false}
use Rattle.st_flow.proofs.Spreading.{edge_from}

-- ---- the late part

origin_get : (at : ℕ) (back : List ℕ) (d : ℕ) → get_or (at ∷ back) (length back) d ≡ origin at back
origin_get at [] d = refl
origin_get at (j ∷ back) d = origin_get j back d

pub origin_last : (path : List ℕ) (at : ℕ) (back : List ℕ) → path ≡ at ∷ back → get_or path (length path - 1) 0 ≡ origin at back
origin_last path at back e =
    let n : length path ≡ suc (length back) = ap length e in
    let i : length path - 1 ≡ length back = omega arith in
    subst (λ k. get_or path k 0 ≡ origin at back) (sym i) (subst (λ l. get_or l (length back) 0 ≡ origin at back) (sym e) (origin_get at back 0))

comes_seed : (nodes : List Node) (seeds keeps : List ℕ) (k : ℕ) (back : List ℕ) (i : ℕ) → Comes nodes seeds keeps k back i → HasBit seeds (origin i back) k
comes_seed nodes seeds keeps k [] i c = c
comes_seed nodes seeds keeps k (j ∷ back) i c = comes_seed nodes seeds keeps k back j c.0

comes_spares : (function : ProgramFunction) (nodes : List Node) (seeds keeps : List ℕ) (x k : ℕ) → IsGraphOf function nodes → ((j : ℕ) → HasBit keeps j k ↔ Changes Spared function x j) → (back : List ℕ) (i : ℕ) → Comes nodes seeds keeps k back i → Spares function x back i
comes_spares function nodes seeds keeps x k graph keep [] i c = tt
comes_spares function nodes seeds keeps x k graph keep (j ∷ back) i c =
    (comes_spares function nodes seeds keeps x k graph keep back j c.0, (graph j i).0 c.1, (keep j).0 c.2)

place_is : (x : ℕ) → 64 * (x / 64) + x % 64 ≡ x
place_is x = omega arith

starts_at : (function : ProgramFunction) (seeds : List ℕ) (x : ℕ) → AreStarts function (x / 64) seeds → (i : ℕ) → HasBit seeds i (x % 64) ↔ Begins function x i
starts_at function seeds x h i = subst (λ y. HasBit seeds i (x % 64) ↔ Begins function y i) (place_is x) (h i (x % 64) (omega arith))

spared_at : (function : ProgramFunction) (keeps : List ℕ) (x : ℕ) → IsTable Spared function (x / 64) keeps → (j : ℕ) → HasBit keeps j (x % 64) ↔ Changes Spared function x j
spared_at function keeps x h j = subst (λ y. HasBit keeps j (x % 64) ↔ Changes Spared function y j) (place_is x) (h j (x % 64) (omega arith))

taken_at : (function : ProgramFunction) (puts : List ℕ) (x : ℕ) → IsTable TakenAway function (x / 64) puts → (j : ℕ) → HasBit puts j (x % 64) ↔ Changes TakenAway function x j
taken_at function puts x h j = subst (λ y. HasBit puts j (x % 64) ↔ Changes TakenAway function y j) (place_is x) (h j (x % 64) (omega arith))

pub late_of : (function : ProgramFunction) (nodes : List Node) (seeds keeps path : List ℕ) (x at : ℕ) → IsGraphOf function nodes → AreStarts function (x / 64) seeds → IsTable Spared function (x / 64) keeps → IsTrail nodes seeds keeps (x % 64) at path → IsLate function x at path
late_of function nodes seeds keeps path x at graph seed keep t =
    record {
      since = t.0;
      is = t.1;
      spares = comes_spares function nodes seeds keeps x (x % 64) graph (spared_at function keeps x keep) t.0 at t.2;
      begins = (starts_at function seeds x seed (origin at t.0)).0 (comes_seed nodes seeds keeps (x % 64) t.0 at t.2);
      once = t.3;
    }

-- where the place is undefined, there is such a path
pub late_there : (function : ProgramFunction) (nodes : List Node) (seeds keeps : List ℕ) (x at : ℕ) → IsGraphOf function nodes → AreStarts function (x / 64) seeds → IsTable Spared function (x / 64) keeps → IsUndefined function x at → Reaches nodes seeds keeps (x % 64) at
late_there function nodes seeds keeps x at graph seed keep u =
    (undefined_reaches function nodes seeds keeps x (x % 64) at graph (starts_at function seeds x seed) (spared_at function keeps x keep)).1 u

-- ---- the early part

pub walk_of : (nodes : List Node) (seeds keeps path : List ℕ) (j : ℕ) → ((i : ℕ) → HasBit seeds i 0 ↔ (i ≡ 0)) → IsTrail nodes seeds keeps 0 j path → IsWalk nodes j path
walk_of nodes seeds keeps path j first t = (t.0, t.1, comes_walks nodes seeds keeps first t.0 j t.2, t.3)

pub walk_there : (nodes : List Node) (seeds keeps : List ℕ) (j : ℕ) → ((i : ℕ) → HasBit seeds i 0 ↔ (i ≡ 0)) → ((i : ℕ) → i < length nodes → HasBit keeps i 0) → IsWalked nodes j → Reaches nodes seeds keeps 0 j
walk_there nodes seeds keeps j first keep w = (w.0, walks_comes nodes seeds keeps first keep w.0 j w.1)

-- ---- the whole

leads_on : (function : ProgramFunction) (x : ℕ) (until since : List ℕ) (i : ℕ) → Spares function x since i → Leads function until (origin i since) → Leads function (since ++ until) i
leads_on function x until [] i s l = l
leads_on function x until (j ∷ since) i s l = (leads_on function x until since j s.0 l, s.1)

undefined_on : (function : ProgramFunction) (x : ℕ) (until since : List ℕ) (i : ℕ) → Spares function x since i → defined_after function until x ≡ false → defined_after function (since ++ until) x ≡ false
undefined_on function x until [] i s e = e
undefined_on function x until (j ∷ since) i s e = after_spared function x j (since ++ until) s.2 (undefined_on function x until since j s.0 e)

spared_not : (g t : Bool) → not (g || t) ≡ true → t ≡ true → ⊥
spared_not true t e f = absurd (cc)
spared_not false true e f = absurd (cc)
spared_not false false e f = absurd (cc)

spared_once : (function : ProgramFunction) (x j : ℕ) → Changes Spared function x j → TakesAway function x j → ⊥
spared_once function x j s t =
    let same : s.0 ≡ t.0 = let a = s.1 in let b = t.1 in cc in
    spared_not (gives function.frame_bytes t.0.kind x) (takes t.0.kind x) (subst (λ y. not (gives function.frame_bytes y.kind x || takes y.kind x) ≡ true) same s.2) t.2

none_since : (function : ProgramFunction) (x : ℕ) (since : List ℕ) (i : ℕ) → Spares function x since i → (j : ℕ) → Contains since j → TakesAway function x j → ⊥
none_since function x [] i s j c t = absurd (let lt = c.1 in omega arith)
none_since function x (y ∷ since) i s j (zero, lt, e) t = spared_once function x y s.2 (subst (TakesAway function x) (sym e) t)
none_since function x (y ∷ since) i s j (suc k, lt, e) t = none_since function x since y s.0 j (k, omega arith, e) t

none_of : (since : List ℕ) → since ++ [] ≡ since
none_of [] = refl
none_of (x ∷ since) = ap (λ l. x ∷ l) (none_of since)

entry_or : (function : ProgramFunction) (x i : ℕ) → Begins function x i → ((j : ℕ) → IsReached function j → IsNextIn function j i → Changes TakenAway function x j → ⊥) → (i ≡ 0) × (defined_at_entry function x ≡ false)
entry_or function x i begins never =
    elim begins as (λ y. (i ≡ 0) × (defined_at_entry function x ≡ false)) [
      | inl a ↦ a
      | inr b ↦ absurd (never b.0 b.1 b.2 b.3)
    ]

-- nothing takes the place before its start: it is undefined since entry
pub joined_late : (function : ProgramFunction) (nodes : List Node) (ranks reach puts path : List ℕ) (x at o : ℕ) → IsMap function nodes ranks reach → IsTable TakenAway function (x / 64) puts → (late : IsLate function x at path) → o ≡ origin at late.since → ((j : ℕ) → j < length nodes → PutsTo nodes reach puts (x % 64) o j → ⊥) → IsJoined function x at path
joined_late function nodes ranks reach puts path x at o map put late here never =
    let start = entry_or function x (origin at late.since) late.begins
    (λ j r n c.
    let edge : IsEdge nodes j o = subst (λ y. IsEdge nodes j y) (sym here) ((map.edges j (origin at late.since)).1 n) in
    never j (edge_from nodes j o edge) ((map.reached j).1 r, edge, (taken_at function puts x put j).1 c)) in
    record {
      since = late.since;
      until = [];
      is = late.is ∙ ap (λ l. at ∷ l) (sym (none_of late.since));
      leads = leads_on function x [] late.since at late.spares start.0;
      undefined = undefined_on function x [] late.since at late.spares start.1;
      last = inl refl;
      none_since = none_since function x late.since at late.spares;
      once_until = tt;
      once_since = subst HasNoRepeat late.is late.once;
    }

away_of : (function : ProgramFunction) (x j : ℕ) → Changes TakenAway function x j → TakesAway function x j
away_of function x j c =
    let two = and_parts (takes c.0.kind x) (not (gives function.frame_bytes c.0.kind x)) c.2 in
    (c.0, c.1, two.0, is_false (gives function.frame_bytes c.0.kind x) two.1)

-- an item before its start takes the place: the path to that item goes before
pub joined_both : (function : ProgramFunction) (nodes : List Node) (ranks reach puts path early whole : List ℕ) (x at o j : ℕ) → IsMap function nodes ranks reach → IsTable TakenAway function (x / 64) puts → (late : IsLate function x at path) → o ≡ origin at late.since → PutsTo nodes reach puts (x % 64) o j → IsWalk nodes j early → whole ≡ path ++ early → IsJoined function x at whole
joined_both function nodes ranks reach puts path early whole x at o j map put late here puts_out walk e =
    let next : IsNextIn function j (origin at late.since) = (map.edges j (origin at late.since)).0 (subst (λ y. IsEdge nodes j y) here puts_out.1) in
    let taken = (taken_at function puts x put j).0 puts_out.2 in
    let before = walk_leads function nodes map.edges walk.0 j walk.2 in
    record {
      since = late.since;
      until = j ∷ walk.0;
      is = e ∙ ap (λ l. l ++ early) late.is ∙ ap (λ l. (at ∷ late.since) ++ l) walk.1;
      leads = leads_on function x (j ∷ walk.0) late.since at late.spares (before, next);
      undefined = undefined_on function x (j ∷ walk.0) late.since at late.spares (after_taken function x j walk.0 taken);
      last = inr (j, (walk.0, refl, away_of function x j taken));
      none_since = none_since function x late.since at late.spares;
      once_until = subst HasNoRepeat walk.1 walk.3;
      once_since = subst HasNoRepeat late.is late.once;
    }

-- ---- turned round

pub turned_undefined : (function : ProgramFunction) (x at : ℕ) (path turned : List ℕ) → IsJoined function x at path → turned ≡ reverse path → LeavesUndefined function x at turned
turned_undefined function x at path turned h e =
    (h.since ++ h.until, ap reverse e ∙ reverse-reverse path ∙ h.is, h.leads, h.undefined)

pub turned_once : (function : ProgramFunction) (x at : ℕ) (path turned : List ℕ) → IsJoined function x at path → turned ≡ reverse path → PassesOnce function x turned
turned_once function x at path turned h e =
    record {
      at = at;
      since = h.since;
      until = h.until;
      parts = ap reverse e ∙ reverse-reverse path ∙ h.is;
      last = h.last;
      none_since = h.none_since;
      once_until = h.once_until;
      once_since = h.once_since;
    }

-- ---- for callers

-- a read of a place that a path leaves undefined is an undefined read
pub undefined_read : (p : Program) (function : ProgramFunction) (x at : ℕ) (path : List ℕ) → ReadsPlace p function at x → LeavesUndefined function x at path → UndefinedRead p function
undefined_read p function x at path read leaves =
    record { back = leaves.0; at = at; item = read.0; place = x; leads = leaves.2; here = read.1; reads = read.2; undefined = leaves.3 }
