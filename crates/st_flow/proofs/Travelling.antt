-- Bits that travel are places that paths leave undefined: undefined_exact. The graph's paths are the function's (walk_leads), and seeds
-- are where places begin to be undefined (seed_begins).
use Rattle.std.proofs.Common.{◌≡◌, ℕ, ◌+◌, ◌*◌, ◌<◌, Bool, true, false, List, [], ◌∷◌, Some, refl, sym, ap, ◌∙◌, subst, ◌⊎◌, inl, inr}
use Rattle.std.specs.Prelude.{◌||◌, ◌&&◌, not, slice_get, ◌↔◌}
use Rattle.st_model.specs.declared.program.ProgramFunction.{ProgramFunction}
use Rattle.st_model.specs.declared.program.Item.{Item}
use Rattle.st_model.specs.Flow.{gives, takes, flow_of, flow, defined_at_entry, Leads, defined_after}
use Rattle.st_flow.specs.declared.graph.Node.{Node}
use Rattle.st_flow.specs.declared.places.Change.TheVariants.{Spared, TakenAway}
use Rattle.st_flow.specs.Graph.{HasBit, Comes, Reaches, IsSpread, IsSeed, Walks, IsWalked}
use Rattle.st_flow.specs.Places.{IsWord}
use Rattle.st_flow.specs.Tables.{IsGraphOf, IsUndefined, IsReached, Changes, Begins, IsTable, AreStarts, IsMap}

-- ---- one item

-- what is not defined after an item wasn't given, and it wasn't defined before or was taken
undefined_cases : (g d t : Bool) → g || (d && not t) ≡ false → ((d ≡ false) × (not (g || t) ≡ true)) ⊎ (t && not g ≡ true)
undefined_cases true d t e = absurd (cc)
undefined_cases false d true e = inr refl
undefined_cases false true false e = absurd (cc)
undefined_cases false false false e = inl (refl, refl)

taken_undefined : (g d t : Bool) → t && not g ≡ true → g || (d && not t) ≡ false
taken_undefined true d true e = absurd (cc)
taken_undefined true d false e = absurd (cc)
taken_undefined false true true e = refl
taken_undefined false false true e = refl
taken_undefined false d false e = absurd (cc)

spared_undefined : (g d t : Bool) → not (g || t) ≡ true → d ≡ false → g || (d && not t) ≡ false
spared_undefined true d t e f = absurd (cc)
spared_undefined false true t e f = absurd (cc)
spared_undefined false false t e f = refl

after_is : (function : ProgramFunction) (x j : ℕ) (back : List ℕ) (item : Item) → slice_get function.items j ≡ Some item → defined_after function (j ∷ back) x ≡ flow function.frame_bytes item.kind (defined_after function back) x
after_is function x j back item here = ap (λ o. flow_of function.frame_bytes o (defined_after function back) x) here

pub after_taken : (function : ProgramFunction) (x j : ℕ) (back : List ℕ) → Changes TakenAway function x j → defined_after function (j ∷ back) x ≡ false
after_taken function x j back taker =
    after_is function x j back taker.0 taker.1 ∙ taken_undefined (gives function.frame_bytes taker.0.kind x) (defined_after function back x) (takes taker.0.kind x) taker.2

pub after_spared : (function : ProgramFunction) (x j : ℕ) (back : List ℕ) → Changes Spared function x j → defined_after function back x ≡ false → defined_after function (j ∷ back) x ≡ false
after_spared function x j back spared is =
    after_is function x j back spared.0 spared.1 ∙ spared_undefined (gives function.frame_bytes spared.0.kind x) (defined_after function back x) (takes spared.0.kind x) spared.2 is

-- ---- paths

undefined_comes : (function : ProgramFunction) (nodes : List Node) (seeds keeps : List ℕ) (x k : ℕ) → IsGraphOf function nodes → ((i : ℕ) → HasBit seeds i k ↔ Begins function x i) → ((j : ℕ) → HasBit keeps j k ↔ Changes Spared function x j) → (back : List ℕ) (i : ℕ) → Leads function back i → defined_after function back x ≡ false → Reaches nodes seeds keeps k i
undefined_comes function nodes seeds keeps x k graph seed keep [] i leads is = ([], (seed i).1 (inl (leads, is)))
undefined_comes function nodes seeds keeps x k graph seed keep (j ∷ back) i leads is =
    let item = leads.1.0 in
    let here = leads.1.1 in
    elim (undefined_cases (gives function.frame_bytes item.kind x) (defined_after function back x) (takes item.kind x) (sym (after_is function x j back item here) ∙ is)) as (λ y. Reaches nodes seeds keeps k i) [
      | inl d ↦ let r = undefined_comes function nodes seeds keeps x k graph seed keep back j leads.0 d.0 in
          (j ∷ r.0, (r.1, (graph j i).1 leads.1, (keep j).1 (item, here, d.1)))
      | inr t ↦ ([], (seed i).1 (inr (j, (back, leads.0), leads.1, (item, here, t))))
    ]

comes_undefined : (function : ProgramFunction) (nodes : List Node) (seeds keeps : List ℕ) (x k : ℕ) → IsGraphOf function nodes → ((i : ℕ) → HasBit seeds i k ↔ Begins function x i) → ((j : ℕ) → HasBit keeps j k ↔ Changes Spared function x j) → (back : List ℕ) (i : ℕ) → Comes nodes seeds keeps k back i → IsUndefined function x i
comes_undefined function nodes seeds keeps x k graph seed keep [] i comes =
    elim ((seed i).0 comes) as (λ y. IsUndefined function x i) [
      | inl a ↦ ([], a.0, a.1)
      | inr b ↦ (b.0 ∷ b.1.0, (b.1.1, b.2), after_taken function x b.0 b.1.0 b.3)
    ]
comes_undefined function nodes seeds keeps x k graph seed keep (j ∷ back) i comes =
    let before = comes_undefined function nodes seeds keeps x k graph seed keep back j comes.0 in
    (j ∷ before.0, (before.1, (graph j i).0 comes.1), after_spared function x j before.0 ((keep j).0 comes.2) before.2)

-- a bit that travels from where the place begins to be undefined, as long as items spare it, is the undefined place
pub undefined_reaches : (function : ProgramFunction) (nodes : List Node) (seeds keeps : List ℕ) (x k i : ℕ) → IsGraphOf function nodes → ((i : ℕ) → HasBit seeds i k ↔ Begins function x i) → ((j : ℕ) → HasBit keeps j k ↔ Changes Spared function x j) → Reaches nodes seeds keeps k i ↔ IsUndefined function x i
undefined_reaches function nodes seeds keeps x k i graph seed keep = (
  λ r. comes_undefined function nodes seeds keeps x k graph seed keep r.0 i r.1,
  λ u. undefined_comes function nodes seeds keeps x k graph seed keep u.0 i u.1 u.2,
)

pub undefined_exact : (function : ProgramFunction) (nodes : List Node) (seeds keeps sets : List ℕ) (g i b : ℕ) → b < 64 → IsGraphOf function nodes → AreStarts function g seeds → IsTable Spared function g keeps → IsSpread nodes seeds keeps sets → HasBit sets i b ↔ IsUndefined function (64 * g + b) i
undefined_exact function nodes seeds keeps sets g i b lt graph seed keep spread =
    let r = undefined_reaches function nodes seeds keeps (64 * g + b) b i graph (λ i. seed i b lt) (λ j. keep j b lt) in
    let s = spread.exact i b in
    (λ has. r.0 (s.0 has), λ u. s.1 (r.1 u))

-- ---- the graph's paths

pub walk_leads : (function : ProgramFunction) (nodes : List Node) → IsGraphOf function nodes → (back : List ℕ) (i : ℕ) → Walks nodes back i → Leads function back i
walk_leads function nodes graph [] i w = w
walk_leads function nodes graph (j ∷ back) i w = (walk_leads function nodes graph back j w.0, (graph j i).0 w.1)

pub leads_walk : (function : ProgramFunction) (nodes : List Node) → IsGraphOf function nodes → (back : List ℕ) (i : ℕ) → Leads function back i → Walks nodes back i
leads_walk function nodes graph [] i w = w
leads_walk function nodes graph (j ∷ back) i w = (leads_walk function nodes graph back j w.0, (graph j i).1 w.1)

pub walked_reached : (function : ProgramFunction) (nodes : List Node) (i : ℕ) (T : Type 0) → IsGraphOf function nodes → T ↔ IsWalked nodes i → T ↔ IsReached function i
walked_reached function nodes i T graph h = (
  λ t. let w = h.0 t in (w.0, walk_leads function nodes graph w.0 i w.1),
  λ r. h.1 (r.0, leads_walk function nodes graph r.0 i r.1),
)

-- ---- seeds

not_is : (b : Bool) → not b ≡ true → b ≡ false
not_is true e = absurd (cc)
not_is false e = refl

is_not : (b : Bool) → b ≡ false → not b ≡ true
is_not true e = absurd (cc)
is_not false e = refl

pub seed_begins : (function : ProgramFunction) (nodes : List Node) (ranks reach puts seeds : List ℕ) (first g i b : ℕ) → b < 64 → IsMap function nodes ranks reach → IsWord first g (λ x. not (defined_at_entry function x)) → IsTable TakenAway function g puts → HasBit seeds i b ↔ IsSeed nodes reach puts first i b → HasBit seeds i b ↔ Begins function (64 * g + b) i
seed_begins function nodes ranks reach puts seeds first g i b lt map start put h = (
  λ has.
      elim (h.0 has) as (λ y. Begins function (64 * g + b) i) [
        | inl a ↦ inl (a.0, not_is (defined_at_entry function (64 * g + b)) ((start b lt).0 a.1))
        | inr t ↦ inr (t.0, (map.reached t.0).0 t.1, (map.edges t.0 i).0 t.2, (put t.0 b lt).0 t.3)
      ],
  λ s.
      h.1 (elim s as (λ y. IsSeed nodes reach puts first i b) [
        | inl a ↦ inl (a.0, (start b lt).1 (is_not (defined_at_entry function (64 * g + b)) a.1))
        | inr t ↦ inr (t.0, (map.reached t.0).1 t.1, (map.edges t.0 i).1 t.2, (put t.0 b lt).1 t.3)
      ]),
)

pub starts_are : (function : ProgramFunction) (nodes nodes' : List Node) (ranks reach reach' puts seeds : List ℕ) (first g : ℕ) → nodes' ≡ nodes → reach' ≡ reach → IsMap function nodes ranks reach → IsWord first g (λ x. not (defined_at_entry function x)) → IsTable TakenAway function g puts → ((i k : ℕ) → HasBit seeds i k ↔ IsSeed nodes' reach' puts first i k) → AreStarts function g seeds
starts_are function nodes nodes' ranks reach reach' puts seeds first g e f map start put h i b lt =
    seed_begins function nodes ranks reach puts seeds first g i b lt map start put
    (subst (λ n. HasBit seeds i b ↔ IsSeed n reach puts first i b) e (subst (λ r. HasBit seeds i b ↔ IsSeed nodes' r puts first i b) f (h i b)))
