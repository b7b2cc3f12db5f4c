-- The successors of the items of a function without a fault of form lie in it, behind its prologue (function-stays).
use Rattle.std.proofs.Common.{◌≡◌, ◌⊎◌, inl, inr, ℕ, zero, suc, ◌+◌, ◌<◌, ◌≤◌, Bool, true, false, ◌==◌, List, [], ◌∷◌, refl, sym, subst, slice_get, length, Option, Some, None, arith}
use Rattle.std.proofs.lemmas.Bool.{eqb-true}
use Rattle.st_rv.specs.declared.ins.OpKind.{OpKind}
use Rattle.st_rv.specs.declared.ins.OpKind.TheVariants as kinds
use Rattle.st_rv.specs.Op.{kind_of}
use Rattle.st_line.specs.declared.source.Target.{Target}
use Rattle.st_line.specs.declared.source.Target.TheVariants as targets
use Rattle.st_line.specs.declared.source.SourceIns.{SourceIns}
use Rattle.st_line.specs.declared.source.SourceIns.TheVariants as source
use Rattle.st_asm.specs.declared.unit.Function.{Function}
use Rattle.st_check.proofs.Sound.{IsSound, IsSoundFunction, HasLabel}
use Rattle.st_model.specs.declared.program.Item.{Item}
use Rattle.st_model.specs.declared.program.ItemKind.TheVariants as items
use Rattle.st_model.specs.Flow.{IsNext, IsNextOfPlain}
use Rattle.st_check.specs.Shape.{Formed, Shape, faulty, formed, shape_of, Group, epilogue, single, first_line}
use Rattle.st_check.specs.Faults.{empty_faults, line_before, group_faults, line_faults, shape_faults, function_faults, only_forks, plain_ends, ends, is_fork, stays, target_stays, begins_group}
use Rattle.st_check.specs.Programs.{items_of, item_of_target, call_kind, function_place, line_kind, function_by, program_function}
use Rattle.st_check.proofs.Frames.{and-both}
use Rattle.st_check.proofs.LineRight.{append-none, when-none, line-right}
use Rattle.st_check.proofs.ItemsFit.{AreInstructions, ShapeIsSound, shape_of-sound}
use Rattle.st_check.proofs.BodyPlaces.{AreAt, ShapeAt, shape_of-at}
use Rattle.st_check.proofs.Staying.{items-some, line-goes_on, number-stays}
use Rattle.st_check.proofs.FormedFunctions.{Stays}

-- a place of an item, behind the prologue and before an end
abbrev pub IsInside : ℕ → ℕ → Type 0
IsInside end j = (0 < j) × (j < end)

-- a branch to a target goes to such a place
abbrev pub Lands : ℕ → ℕ → Formed → List (ℕ × Group) → Target → Type 0
Lands end f shape gs to = stays f shape to ≡ true → IsInside end (item_of_target gs to)

-- an item's successor is the item behind it, of a line that goes on, or lies inside
abbrev pub Goes : ℕ → SourceIns → ℕ → ℕ → Type 0
Goes end ins i j = ((j ≡ i + 1) × (ends ins ≡ false)) ⊎ IsInside end j

next-goes : (end : ℕ) (kind : OpKind) (i j : ℕ) → IsNextOfPlain kind i j → (j ≡ i + 1) × (plain_ends kind ≡ false)
next-goes end kinds.Break i j next = absurd next
next-goes end kinds.Register i j next = (next, refl)
next-goes end kinds.Immediate i j next = (next, refl)
next-goes end kinds.Upper i j next = (next, refl)
next-goes end kinds.Load i j next = (next, refl)
next-goes end kinds.Store i j next = (next, refl)
next-goes end kinds.Branch i j next = (next, refl)
next-goes end kinds.Jump i j next = (next, refl)

call-goes : (functions : List Function) (name : List ℕ) (o : Option ℕ) (i j : ℕ) → IsNext (call_kind functions name o) i j → j ≡ i + 1
call-goes functions name None i j next = next
call-goes functions name (Some f) i j next = next

-- the target of a line is one of the unit
abbrev pub TargetLands : ℕ → ℕ → Formed → List (ℕ × Group) → SourceIns → Type 0
TargetLands end f shape gs (source.Branch op rs1 rs2 to) = Lands end f shape gs to
TargetLands end f shape gs (source.Jump to) = Lands end f shape gs to
TargetLands end f shape gs _ = Unit {0}

kind-goes : (functions : List Function) (end f : ℕ) (shape : Formed) (gs : List (ℕ × Group)) (ins : SourceIns) (behind : List (ℕ × Group)) (i j : ℕ) → TargetLands end f shape gs ins → target_stays f shape ins ≡ true → IsNext (line_kind functions gs ins behind) i j → Goes end ins i j
kind-goes functions end f shape gs (source.Plain x) behind i j lands stay next = inl (next-goes end (kind_of x.op) i j next)
kind-goes functions end f shape gs (source.Li rd value) behind i j lands stay next = inl (next, refl)
kind-goes functions end f shape gs (source.La rd to) behind i j lands stay next = inl (next, refl)
kind-goes functions end f shape gs (source.Branch op rs1 rs2 to) behind i j lands stay (inl next) = inl (next, refl)
kind-goes functions end f shape gs (source.Branch op rs1 rs2 to) behind i j lands stay (inr there) = inr (subst (IsInside end) (sym there) (lands stay))
kind-goes functions end f shape gs (source.Jump to) behind i j lands stay next = inr (subst (IsInside end) (sym next) (lands stay))
kind-goes functions end f shape gs (source.Call name) behind i j lands stay next = inl (call-goes functions name (function_place functions name) i j next, refl)
kind-goes functions end f shape gs source.Ret behind i j lands stay next = absurd next
kind-goes functions end f shape gs (source.Fork handle) behind i j lands stay next = inl (next, refl)

-- ---- items

-- a successor of the item at i, the k-th of those of groups
abbrev pub Follows : ℕ → ℕ → ℕ → ℕ → ℕ → Type 0
Follows end count i j k = ((j ≡ i + 1) × (suc k < count)) ⊎ IsInside end j

follows-more : (end count i j k : ℕ) → Follows end count i j k → Follows end (suc count) i j (suc k)
follows-more end count i j k (inl next) =
    let below : suc k < count = next.1 in
    inl (next.0, omega (arith, below))
follows-more end count i j k (inr inside) = inr inside

line-follows : (end count : ℕ) (ins : SourceIns) (i j : ℕ) → (ends ins ≡ false → 0 < count) → Goes end ins i j → Follows end (suc count) i j 0
line-follows end count ins i j behind (inl next) =
    let some_behind : 0 < count = behind next.1 in
    inl (next.0, omega (arith, some_behind))
line-follows end count ins i j behind (inr inside) = inr inside

items-follow : (functions : List Function) (end f h : ℕ) (shape : Formed) (gs : List (ℕ × Group)) (forked : Bool) (hs : List (ℕ × Group)) → ((ins : SourceIns) → IsSound functions ins → TargetLands end f shape gs ins) → AreInstructions functions hs → group_faults functions f h shape hs ≡ [] → (i j k : ℕ) (item : Item) → slice_get (items_of functions gs forked hs) k ≡ Some item → IsNext item.kind i j → Follows end (length (items_of functions gs forked hs)) i j k
items-follow functions end f h shape gs forked [] lands are none i j k item here next = cc
items-follow functions end f h shape gs true ((at, epilogue line) ∷ hs) lands are none i j k item here next =
    items-follow functions end f h shape gs false hs lands are.1 none i j k item here next
items-follow functions end f h shape gs true ((at, single l) ∷ hs) lands are none i j k item here next =
    items-follow functions end f h shape gs false hs lands are.1 (append-none (line_faults functions f h shape l hs) _ none).1 i j k item here next
items-follow functions end f h shape gs false ((at, epilogue line) ∷ hs) lands are none i j zero item here next =
    let same : item ≡ record { line = line; kind = items.Epilogue } = cc in
    absurd (subst (λ (it : Item). IsNext it.kind i j) same next)
items-follow functions end f h shape gs false ((at, epilogue line) ∷ hs) lands are none i j (suc k) item here next =
    follows-more end (length (items_of functions gs false hs)) i j k (items-follow functions end f h shape gs false hs lands are.1 none i j k item here next)
items-follow functions end f h shape gs false ((at, single l) ∷ hs) lands are none i j zero item here next =
    let parts = append-none (line_faults functions f h shape l hs) _ none in
    let right = line-right functions f h shape l hs parts.0 in
    let same : item ≡ record { line = l.line; kind = line_kind functions gs l.ins hs } = cc in
    line-follows end (length (items_of functions gs (is_fork l.ins) hs)) l.ins i j (line-goes_on functions f h shape gs l.ins hs right.goes_on right.forks parts.1)
    (kind-goes functions end f shape gs l.ins hs i j (lands l.ins are.0) right.stays (subst (λ (it : Item). IsNext it.kind i j) same next))
items-follow functions end f h shape gs false ((at, single l) ∷ hs) lands are none i j (suc k) item here next =
    follows-more end (length (items_of functions gs (is_fork l.ins) hs)) i j k (items-follow functions end f h shape gs (is_fork l.ins) hs lands are.1 (append-none (line_faults functions f h shape l hs) _ none).1 i j k item here next)

-- ---- functions

place-lands : (functions : List Function) (f : ℕ) (function : Function) (shape : Formed) (g at : ℕ) → slice_get functions f ≡ Some function → AreAt function.items shape.groups → group_faults functions f function.slots shape shape.groups ≡ [] → HasLabel functions (targets.Place g at) → stays f shape (targets.Place g at) ≡ true → IsInside (suc (length (items_of functions shape.groups false shape.groups))) (item_of_target shape.groups (targets.Place g at))
place-lands functions f function shape g at here are none place stay =
    let both = and-both (f == g) (begins_group at shape.groups) stay in
    let there : slice_get functions g ≡ Some function = subst (λ n. slice_get functions n ≡ Some function) (eqb-true f g both.0) here in
    let c = number-stays functions function.items f function.slots shape at shape.groups 1 false shape.groups (λ item found. place function item there found) are none tt both.1 in
    let low : 1 ≤ item_of_target shape.groups (targets.Place g at) = c.0 in
    let high : item_of_target shape.groups (targets.Place g at) < 1 + length (items_of functions shape.groups false shape.groups) = c.1 in
    (omega (arith, low), omega (arith, high))

target-lands : (functions : List Function) (f : ℕ) (function : Function) (shape : Formed) (to : Target) → slice_get functions f ≡ Some function → AreAt function.items shape.groups → group_faults functions f function.slots shape shape.groups ≡ [] → HasLabel functions to → Lands (suc (length (items_of functions shape.groups false shape.groups))) f shape shape.groups to
target-lands functions f function shape (targets.Place g at) here are none is = place-lands functions f function shape g at here are none is
target-lands functions f function shape (targets.Data offset) here are none is = λ stay. cc
target-lands functions f function shape (targets.Name name) here are none is = λ stay. cc

line-lands : (functions : List Function) (f : ℕ) (function : Function) (shape : Formed) → slice_get functions f ≡ Some function → AreAt function.items shape.groups → group_faults functions f function.slots shape shape.groups ≡ [] → (ins : SourceIns) → IsSound functions ins → TargetLands (suc (length (items_of functions shape.groups false shape.groups))) f shape shape.groups ins
line-lands functions f function shape here are none (source.Branch op rs1 rs2 to) is = target-lands functions f function shape to here are none is.1
line-lands functions f function shape here are none (source.Jump to) is = target-lands functions f function shape to here are none is
line-lands functions f function shape here are none _ is = tt

follows-stays : (count j k : ℕ) → Follows (suc count) count (suc k) j k → (0 < j) × (j < suc count)
follows-stays count j k (inl next) =
    let there : j ≡ suc k + 1 = next.0 in
    let below : suc k < count = next.1 in
    (omega (arith, there), omega (arith, there, below))
follows-stays count j k (inr inside) = inside

formed-stays : (functions : List Function) (f : ℕ) (function : Function) (shape : Formed) → slice_get functions f ≡ Some function → AreInstructions functions shape.groups → AreAt function.items shape.groups → only_forks shape.groups ≡ false → group_faults functions f function.slots shape shape.groups ≡ [] → (i j : ℕ) (item : Item) → slice_get (record { line = first_line function.line function.items; kind = items.Prologue } ∷ items_of functions shape.groups false shape.groups) i ≡ Some item → IsNext item.kind i j → (0 < j) × (j < suc (length (items_of functions shape.groups false shape.groups)))
formed-stays functions f function shape there are places some_item none zero j item here next =
    let same : item ≡ record { line = first_line function.line function.items; kind = items.Prologue } = cc in
    let behind : j ≡ 0 + 1 = subst (λ (it : Item). IsNext it.kind 0 j) same next in
    let count : 0 < length (items_of functions shape.groups false shape.groups) = items-some functions shape.groups shape.groups some_item in
    (omega (arith, behind), omega (arith, behind, count))
formed-stays functions f function shape there are places some_item none (suc k) j item here next =
    follows-stays (length (items_of functions shape.groups false shape.groups)) j k
    (items-follow functions (suc (length (items_of functions shape.groups false shape.groups))) f function.slots shape shape.groups false shape.groups (line-lands functions f function shape there places none) are none (suc k) j k item here next)

by-shape : (functions : List Function) (f : ℕ) (function : Function) (s : Shape) → slice_get functions f ≡ Some function → ShapeIsSound functions s → ShapeAt function.items s → shape_faults functions f function s ≡ [] → Stays (function_by functions function s)
by-shape functions f function (faulty fault) there are places none = cc
by-shape functions f function (formed shape) there are places none =
    let parts = append-none (empty_faults (line_before function.line (4 + length shape.saved) function.items) shape.groups) _ none in
    formed-stays functions f function shape there are places (when-none _ _ _ parts.0) parts.1

pub function-stays : (functions : List Function) (f : ℕ) (function : Function) → slice_get functions f ≡ Some function → IsSoundFunction functions function → function_faults functions f function ≡ [] → Stays (program_function functions function)
function-stays functions f function there is none =
    by-shape functions f function (shape_of function) there (shape_of-sound functions function is.items) (shape_of-at function) none
