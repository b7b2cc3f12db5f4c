-- The labels of a unit's text are distinct (labels-distinct), and none is an entry (labels-free): the names of functions are distinct and
-- not local, and the labels `.Lk` are local, with a number for each place, which comes in one place of the text.
use Rattle.std.proofs.Common.{ℕ, suc, ◌≡◌, ◌+◌, ◌^◌, ◌<◌, ◌≤◌, Bool, true, false, List, [], ◌∷◌, ◌++◌, refl, ap, sym, subst, ◌∙◌, arith, Option, Some, None, append_assoc, append-nil, ◌⊎◌, inl, inr}
use Rattle.std.specs.Prelude.{AllPairs}
use Rattle.st_line.specs.declared.source.Target.{Target}
use Rattle.st_line.specs.declared.source.Target.TheVariants as targets
use Rattle.st_line.specs.declared.source.Statement.TheVariants as statements
use Rattle.st_asm.specs.declared.unit.SourceLine.{SourceLine}
use Rattle.st_asm.specs.declared.unit.Function.{Function}
use Rattle.st_asm.specs.Labels.{is_local, is_entry}
use Rattle.st_print.specs.Spots.{spot_number}
use Rattle.st_print.specs.Canonical.{label_text}
use Rattle.st_print.specs.Rereading.{names_of}
use Rattle.st_print.proofs.WordsRead.{label-local, label-free, label-number}
use Rattle.st_print.proofs.LineShapes.{Said}
use Rattle.st_print.proofs.LineShapes.Said.{Labels, States}
use Rattle.st_print.proofs.StatementsRead.{written}
use Rattle.st_print.proofs.SpotsFound.{number-at}
use Rattle.st_print.proofs.SaidLines.{spot_said, spot_saids, item_saids, function_saids, functions_saids, byte_saids, data_saids, unit_saids, Each, each-from, each-map, IsSound, AreFew, number-small}
use Rattle.st_print.proofs.LabelsRead.{Among, among-each, Distinct, labels_in}

-- ---- a place that comes from here on

abbrev IsFrom : ℕ → ℕ → Target → Type 0
IsFrom f i (targets.Place g j) = (f < g) ⊎ ((f ≡ g) × (i ≤ j))
IsFrom f i (targets.Data n) = Unit {0}
IsFrom f i (targets.Name name) = ⊥

abbrev IsDataFrom : ℕ → Target → Type 0
IsDataFrom at (targets.Data n) = at ≤ n
IsDataFrom at _ = ⊥

from-item : (f i : ℕ) (q : Target) → IsFrom f (i + 1) q → IsFrom f i q
from-item f i (targets.Place g j) (inl h) = inl h
from-item f i (targets.Place g j) (inr h) = let l : i + 1 ≤ j = h.1 in inr (h.0, omega arith)
from-item f i (targets.Data n) h = tt
from-item f i (targets.Name name) h = h

from-function : (f i : ℕ) (q : Target) → IsFrom (f + 1) 0 q → IsFrom f i q
from-function f i (targets.Place g j) (inl h) = let l : f + 1 < g = h in inl (omega arith)
from-function f i (targets.Place g j) (inr h) = let l : f + 1 ≡ g = h.0 in inl (omega arith)
from-function f i (targets.Data n) h = tt
from-function f i (targets.Name name) h = h

from-data : (at : ℕ) (q : Target) → IsDataFrom (at + 1) q → IsDataFrom at q
from-data at (targets.Place g j) h = h
from-data at (targets.Data n) h = let l : at + 1 ≤ n = h in omega arith
from-data at (targets.Name name) h = h

data-from : (f : ℕ) (q : Target) → IsDataFrom 0 q → IsFrom f 0 q
data-from f (targets.Place g j) h = elim h [ ]
data-from f (targets.Data n) h = tt
data-from f (targets.Name name) h = h

item-passed : (f i : ℕ) → IsFrom f (i + 1) (targets.Place f i) → ⊥
item-passed f i (inl h) = let l : f < f = h in omega arith
item-passed f i (inr h) = let l : i + 1 ≤ i = h.1 in omega arith

function-passed : (f i : ℕ) → IsFrom (f + 1) 0 (targets.Place f i) → ⊥
function-passed f i (inl h) = let l : f + 1 < f = h in omega arith
function-passed f i (inr h) = let l : f + 1 ≡ f = h.0 in omega arith

data-passed : (at : ℕ) → IsDataFrom (at + 1) (targets.Data at) → ⊥
data-passed at h = let l : at + 1 ≤ at = h in omega arith

item-here : (f i : ℕ) → IsFrom f i (targets.Place f i)
item-here f i = let l : i ≤ i = omega arith in inr (refl, l)

-- ---- labels that come from here on

-- a name of a later function, or the label of a later place
abbrev Comes : List Target → (Target → Type 0) → List Function → List ℕ → Type 0
Comes spots From later y = Among y (names_of later) ⊎ ((p : Target) × (k : ℕ) × (k < 2 ^ 64) × (spot_number spots p ≡ Some k) × (y ≡ label_text k) × From p)

abbrev IsShared : List ℕ → Type 0
IsShared y = is_local y ≡ false

comes-map : (spots : List Target) (From To : Target → Type 0) (later : List Function) → ((q : Target) → From q → To q) → (y : List ℕ) → Comes spots From later y → Comes spots To later y
comes-map spots From To later f y (inl m) = inl m
comes-map spots From To later f y (inr h) = inr (h.0, h.1, h.2, h.3, h.4, f h.0 h.5)

comes-later : (spots : List Target) (From : Target → Type 0) (g : Function) (later : List Function) (y : List ℕ) → Comes spots From later y → Comes spots From (g ∷ later) y
comes-later spots From g later y (inl m) = inl (inr m)
comes-later spots From g later y (inr h) = inr h

local-shared : (k : ℕ) (y : List ℕ) → label_text k ≡ y → IsShared y → ⊥
local-shared k y e h = let s : is_local (label_text k) ≡ false = ap is_local e ∙ h in let t = label-local k in cc

same-spot : (spots : List Target) (p q : Target) (k : ℕ) → spot_number spots p ≡ Some k → spot_number spots q ≡ Some k → q ≡ p
same-spot spots p q k h l =
    let s = (number-at 0 p spots k h).2 in
    let t = (number-at 0 q spots k l).2 in
    let e : Some q ≡ Some p = sym t ∙ s in
    cc

label-apart : (spots : List Target) (From : Target → Type 0) (later : List Function) (p : Target) (k : ℕ) → k < 2 ^ 64 → spot_number spots p ≡ Some k → (From p → ⊥) → Each IsShared (names_of later) → (y : List ℕ) → Comes spots From later y → label_text k ≡ y → ⊥
label-apart spots From later p k small h passed shared y (inl m) e = local-shared k y e (among-each IsShared y (names_of later) m shared)
label-apart spots From later p k small h passed shared y (inr c) e =
    let j : k ≡ c.1 = label-number k c.1 small c.2 (e ∙ c.4) in
    let same = same-spot spots p c.0 k h (c.3 ∙ ap Some (sym j)) in
    passed (subst From same c.5)

record Ordered (spots : List Target) (From : Target → Type 0) (later : List Function) (names : List (List ℕ)) : Type 0 where
  distinct : Distinct names
  come : Each (Comes spots From later) names

ordered-map : (spots : List Target) (From To : Target → Type 0) (later : List Function) → ((q : Target) → From q → To q) → (names : List (List ℕ)) → Ordered spots From later names → Ordered spots To later names
ordered-map spots From To later f names h = record { distinct = h.distinct; come = each-map (Comes spots From later) (Comes spots To later) (comes-map spots From To later f) names h.come }

-- the label of a place before later ones
ordered-spot : (spots : List Target) (From To : Target → Type 0) (later : List Function) (p : Target) → AreFew spots → Each IsShared (names_of later) → (From p → ⊥) → To p → ((q : Target) → From q → To q) → (o : Option ℕ) → spot_number spots p ≡ o → (ss : List Said) → Ordered spots From later (labels_in ss) → Ordered spots To later (labels_in (spot_said o ++ ss))
ordered-spot spots From To later p few shared passed here f None e ss h = ordered-map spots From To later f (labels_in ss) h
ordered-spot spots From To later p few shared passed here f (Some k) e ss h =
    let small = number-small spots p k few e in
    record {
      distinct = (each-map (Comes spots From later) (λ y. label_text k ≡ y → ⊥) (label-apart spots From later p k small e passed shared) (labels_in ss) h.come, h.distinct);
      come = (inr (p, k, small, e, refl, here), each-map (Comes spots From later) (Comes spots To later) (comes-map spots From To later f) (labels_in ss) h.come);
    }

ordered-items : (spots : List Target) → AreFew spots → (f : ℕ) (later : List Function) → Each IsShared (names_of later) → (rest : List Said) → Ordered spots (IsFrom (f + 1) 0) later (labels_in rest) → (i : ℕ) (items : List SourceLine) → Ordered spots (IsFrom f i) later (labels_in (item_saids spots f i items ++ rest))
ordered-items spots few f later shared rest h i [] =
    ordered-spot spots (IsFrom (f + 1) 0) (IsFrom f i) later (targets.Place f i) few shared (function-passed f i) (item-here f i) (from-function f i) (spot_number spots (targets.Place f i)) refl rest h
ordered-items spots few f later shared rest h i (item ∷ items) =
    let more = ordered-items spots few f later shared rest h (i + 1) items in
    let s = States (statements.Instruction (written spots item.ins)) in
    subst (λ ss. Ordered spots (IsFrom f i) later (labels_in ss)) (sym (append_assoc (spot_saids spots (targets.Place f i)) (s ∷ item_saids spots f (i + 1) items) rest))
    (ordered-spot spots (IsFrom f (i + 1)) (IsFrom f i) later (targets.Place f i) few shared (item-passed f i) (item-here f i) (from-item f i) (spot_number spots (targets.Place f i)) refl (s ∷ (item_saids spots f (i + 1) items ++ rest)) more)

name-apart : (spots : List Target) (From : Target → Type 0) (later : List Function) (name : List ℕ) → IsShared name → Each (λ y. name ≡ y → ⊥) (names_of later) → (y : List ℕ) → Comes spots From later y → name ≡ y → ⊥
name-apart spots From later name h apart y (inl m) e = among-each (λ y. name ≡ y → ⊥) y (names_of later) m apart e
name-apart spots From later name h apart y (inr c) e = local-shared c.1 name (sym c.4 ∙ sym e) h

ordered-functions : (names : List (List ℕ)) (spots : List Target) → AreFew spots → (f : ℕ) (gs : List Function) → Each (IsSound names spots) gs → Each IsShared (names_of gs) → Distinct (names_of gs) → (rest : List Said) → ((m : ℕ) → Ordered spots (IsFrom m 0) [] (labels_in rest)) → Ordered spots (IsFrom f 0) gs (labels_in (functions_saids spots f gs ++ rest))
ordered-functions names spots few f [] sound shared distinct rest h = h f
ordered-functions names spots few f (g ∷ gs) sound shared distinct rest h =
    let more = ordered-functions names spots few (f + 1) gs sound.1 shared.1 distinct.1 rest h in
    let items = ordered-items spots few f gs shared.1 (functions_saids spots (f + 1) gs ++ rest) more 0 g.items in
    let names_later = labels_in (item_saids spots f 0 g.items ++ (functions_saids spots (f + 1) gs ++ rest)) in
    let all : Ordered spots (IsFrom f 0) (g ∷ gs) (g.name ∷ names_later) = record {
      distinct = (each-map (Comes spots (IsFrom f 0) gs) (λ y. g.name ≡ y → ⊥) (name-apart spots (IsFrom f 0) gs g.name shared.0 distinct.0) names_later items.come, items.distinct);
      come = (inl (inl refl), each-map (Comes spots (IsFrom f 0) gs) (Comes spots (IsFrom f 0) (g ∷ gs)) (comes-later spots (IsFrom f 0) g gs) names_later items.come);
    } in
    subst (λ ss. Ordered spots (IsFrom f 0) (g ∷ gs) (labels_in ss)) (sym (append_assoc (function_saids spots f g) (functions_saids spots (f + 1) gs) rest)) all

ordered-none : (spots : List Target) (From : Target → Type 0) → Ordered spots From [] []
ordered-none spots From = record { distinct = tt; come = tt }

ordered-bytes : (spots : List Target) → AreFew spots → (at : ℕ) (bs : List ℕ) → Ordered spots (IsDataFrom at) [] (labels_in (byte_saids spots at bs))
ordered-bytes spots few at [] =
    subst (λ ss. Ordered spots (IsDataFrom at) [] (labels_in ss)) (append-nil (spot_saids spots (targets.Data at)))
    (ordered-spot spots (IsDataFrom (at + 1)) (IsDataFrom at) [] (targets.Data at) few tt (data-passed at) (omega arith) (from-data at) (spot_number spots (targets.Data at)) refl [] (ordered-none spots (IsDataFrom (at + 1))))
ordered-bytes spots few at (b ∷ bs) =
    let more = ordered-bytes spots few (at + 1) bs in
    ordered-spot spots (IsDataFrom (at + 1)) (IsDataFrom at) [] (targets.Data at) few tt (data-passed at) (omega arith) (from-data at) (spot_number spots (targets.Data at)) refl (States (statements.Data (b ∷ [])) ∷ byte_saids spots (at + 1) bs) more

ordered-data : (spots : List Target) → AreFew spots → (needed : Bool) (rodata : List ℕ) (m : ℕ) → Ordered spots (IsFrom m 0) [] (labels_in (data_saids needed spots rodata))
ordered-data spots few false rodata m = ordered-none spots (IsFrom m 0)
ordered-data spots few true rodata m = ordered-map spots (IsDataFrom 0) (IsFrom m 0) [] (data-from m) (labels_in (byte_saids spots 0 rodata)) (ordered-bytes spots few 0 rodata)

-- ---- the names of functions

each-name : (P : List ℕ → Type 0) (gs : List Function) → Each (λ g. P g.name) gs → Each P (names_of gs)
each-name P [] h = tt
each-name P (g ∷ gs) h = (h.0, each-name P gs h.1)

pub names-distinct : (gs : List Function) → AllPairs (λ f g. f.name ≡ g.name → ⊥) gs → Distinct (names_of gs)
names-distinct [] h = tt
names-distinct (g ∷ gs) h = (
  each-name (λ y. g.name ≡ y → ⊥) gs (each-from (λ f. g.name ≡ f.name → ⊥) gs (λ k d l. h 0 (suc k) d (omega arith) (omega arith))),
  names-distinct gs (λ i j d l m. h (suc i) (suc j) d (omega arith) (omega arith)),
)

names-shared : (names : List (List ℕ)) (spots : List Target) (gs : List Function) → Each (IsSound names spots) gs → Each IsShared (names_of gs)
names-shared names spots gs h = each-name IsShared gs (each-map (IsSound names spots) (λ g. IsShared g.name) (λ g s. s.shared) gs h)

pub labels-distinct : (names : List (List ℕ)) (spots : List Target) → AreFew spots → (needed : Bool) (gs : List Function) (rodata : List ℕ) → Each (IsSound names spots) gs → Distinct (names_of gs) → Distinct (labels_in (unit_saids needed spots gs rodata))
labels-distinct names spots few needed gs rodata sound distinct =
    (ordered-functions names spots few 0 gs sound (names-shared names spots gs sound) distinct (data_saids needed spots rodata) (ordered-data spots few needed rodata)).distinct

-- ---- no label is an entry

each-append : (P : List ℕ → Type 0) (ss ts : List Said) → Each P (labels_in ss) → Each P (labels_in ts) → Each P (labels_in (ss ++ ts))
each-append P [] ts h k = k
each-append P (Labels name ∷ ss) ts h k = (h.0, each-append P ss ts h.1 k)
each-append P (States s ∷ ss) ts h k = each-append P ss ts h k

abbrev IsFree : List ℕ → Type 0
IsFree y = is_entry y ≡ false

spot-free : (o : Option ℕ) → Each IsFree (labels_in (spot_said o))
spot-free None = tt
spot-free (Some k) = (label-free k, tt)

items-free : (spots : List Target) (f i : ℕ) (items : List SourceLine) → Each IsFree (labels_in (item_saids spots f i items))
items-free spots f i [] = spot-free (spot_number spots (targets.Place f i))
items-free spots f i (item ∷ items) = each-append IsFree (spot_saids spots (targets.Place f i)) (States (statements.Instruction (written spots item.ins)) ∷ item_saids spots f (i + 1) items) (spot-free (spot_number spots (targets.Place f i))) (items-free spots f (i + 1) items)

functions-free : (names : List (List ℕ)) (spots : List Target) (f : ℕ) (gs : List Function) → Each (IsSound names spots) gs → Each IsFree (labels_in (functions_saids spots f gs))
functions-free names spots f [] h = tt
functions-free names spots f (g ∷ gs) h = each-append IsFree (function_saids spots f g) (functions_saids spots (f + 1) gs) (h.0.free, items-free spots f 0 g.items) (functions-free names spots (f + 1) gs h.1)

bytes-free : (spots : List Target) (at : ℕ) (bs : List ℕ) → Each IsFree (labels_in (byte_saids spots at bs))
bytes-free spots at [] = spot-free (spot_number spots (targets.Data at))
bytes-free spots at (b ∷ bs) = each-append IsFree (spot_saids spots (targets.Data at)) (States (statements.Data (b ∷ [])) ∷ byte_saids spots (at + 1) bs) (spot-free (spot_number spots (targets.Data at))) (bytes-free spots (at + 1) bs)

data-free : (spots : List Target) (needed : Bool) (rodata : List ℕ) → Each IsFree (labels_in (data_saids needed spots rodata))
data-free spots false rodata = tt
data-free spots true rodata = bytes-free spots 0 rodata

pub labels-free : (names : List (List ℕ)) (spots : List Target) (needed : Bool) (gs : List Function) (rodata : List ℕ) → Each (IsSound names spots) gs → Each IsFree (labels_in (unit_saids needed spots gs rodata))
labels-free names spots needed gs rodata h = each-append IsFree (functions_saids spots 0 gs) (data_saids needed spots rodata) (functions-free names spots 0 gs h) (data-free spots needed rodata)
