-- The forks of laid out code rise (forks_rise), a fork is found by the address of its third jump (third_found), and at the places of a thread that
-- waits none is (third_missed). A search by halves among forks that rise finds the first that is not before an address (parted, found_at, got).
use Rattle.std.proofs.Common.{◌≡◌, ◌≢◌, ℕ, zero, suc, ◌+◌, ◌-◌, ◌*◌, ◌<◌, ◌≤◌, Bool, true, false, List, [], ◌∷◌, ◌++◌, length, take, Option, Some, None, slice_get, get_or, Bor, nat_lt, refl, ap, sym, ◌∙◌, subst, arith, append_assoc, if◌then◌else◌}
use Rattle.std.specs.List.Sorted.{IsPartitionedBy, IsPartitionPoint}
use Rattle.std.specs.Option.{is_some, IfSome, option_copied}
use Rattle.std.proofs.lemmas.Bool.{lt-ltb, le-ltb, ltb-true, ltb-false, ne_eqb, eq-eqb}
use Rattle.std.proofs.lemmas.Option.{slice_get-get_or}
use Rattle.st_base.specs.declared.image.ForkRow.{ForkRow}
use Rattle.st_base.specs.declared.image.Image.{Image}
use Rattle.st_base.specs.declared.reg.Reg.{Reg}
use Rattle.st_model.specs.declared.code.Layout.TheVariants.{Postprocessed}
use Rattle.st_model.specs.declared.program.Item.{Item}
use Rattle.st_model.specs.declared.program.ItemKind.{ItemKind}
use Rattle.st_model.specs.declared.program.ItemKind.TheVariants as items
use Rattle.st_model.specs.declared.program.Program.{Program}
use Rattle.st_model.specs.declared.program.ProgramFunction.{ProgramFunction}
use Rattle.st_model.specs.Layout.{IsCodeOf, item_size, items_size, function_size, functions_size, fork_row, item_forks, forks_from, forks_of, code_start}
use Rattle.st_step.specs.Frames.{address_in}
use Rattle.st_items.specs.Code.{HasItem}
use Rattle.st_chain.specs.Forks.{fork_from, handle_if, handle_behind, AreRising}

-- ---- a search among forks that rise

starts_above : (from : ℕ) (rows : List ForkRow) (j : ℕ) (d : ForkRow) → AreRising from rows → j < length rows → from ≤ (get_or rows j d).at
starts_above from [] j d rising inside = absurd (omega arith)
starts_above from (row ∷ rows) zero d rising inside = rising.0
starts_above from (row ∷ rows) (suc j) d rising inside = let first = rising.0 in let later = starts_above row.at rows j d rising.1 (omega arith) in omega arith

starts_rise : (from : ℕ) (rows : List ForkRow) (i j : ℕ) (d : ForkRow) → AreRising from rows → i ≤ j → j < length rows → (get_or rows i d).at ≤ (get_or rows j d).at
starts_rise from [] i j d rising order inside = absurd (omega arith)
starts_rise from (row ∷ rows) zero zero d rising order inside = omega arith
starts_rise from (row ∷ rows) zero (suc j) d rising order inside = starts_above row.at rows j d rising.1 (omega arith)
starts_rise from (row ∷ rows) (suc i) zero d rising order inside = absurd (omega arith)
starts_rise from (row ∷ rows) (suc i) (suc j) d rising order inside = starts_rise row.at rows i j d rising.1 (omega arith) (omega arith)

pub parted : (from : ℕ) (rows : List ForkRow) (first : ℕ) → AreRising from rows → IsPartitionedBy (λ (row : ForkRow). nat_lt row.at first) rows
parted from rows first rising i j d order inside ends =
    let rise = starts_rise from rows i j d rising order inside in
    let under = ltb-true (get_or rows j d).at first ends in
    lt-ltb (get_or rows i d).at first (omega arith)

pub found_at : (rows : List ForkRow) (first n : ℕ) → n ≤ length rows → IsPartitionPoint (λ (row : ForkRow). nat_lt row.at first ≡ true) (λ (row : ForkRow). nat_lt row.at first ≡ false) rows n → slice_get rows n ≡ fork_from rows first
found_at [] first zero within point = refl
found_at [] first (suc n) within point = absurd (omega arith)
found_at (row ∷ rows) first zero within (front, back) =
    let here = back 0 row (omega arith) (omega arith) in
    sym (ap (λ (b : Bool). if b then fork_from rows first else Some row) here)
found_at (row ∷ rows) first (suc n) within (front, back) =
    let before = front 0 row (omega arith) (omega arith) in
    found_at rows first n (omega arith) ((λ k d least most. front (suc k) d (omega arith) (omega arith)), (λ k d least most. back (suc k) d (omega arith) (omega arith)))
    ∙ sym (ap (λ (b : Bool). if b then fork_from rows first else Some row) before)

past : (rows : List ForkRow) (i : ℕ) → length rows ≤ i → slice_get rows i ≡ None
past [] zero most = refl
past [] (suc i) most = refl
past (row ∷ rows) zero most = absurd (omega arith)
past (row ∷ rows) (suc i) most = past rows i (omega arith)

-- the row that is lent there, copied
pub got : (rows : List ForkRow) (i : ℕ) (r : Option (Bor ForkRow)) → is_some r ≡ nat_lt i (length rows) → IfSome r (λ x. x.now ≡ get_or rows i x.now) → option_copied r ≡ slice_get rows i
got rows i None some value = sym (past rows i (ltb-false i (length rows) (sym some)))
got rows i (Some x) some value = ap Some value ∙ sym (slice_get-get_or rows i x.now (ltb-true i (length rows) (sym some)))

-- ---- forks of three words

-- they lie one behind the other between two addresses
abbrev Rises : ℕ → ℕ → List ForkRow → Type 0
Rises lo hi [] = lo ≤ hi
Rises lo hi (row ∷ rows) = (lo ≤ row.at) × Rises (row.at + 12) hi rows

rises_from : (lo lo' hi hi' : ℕ) (rows : List ForkRow) → lo' ≤ lo → hi ≤ hi' → Rises lo hi rows → Rises lo' hi' rows
rises_from lo lo' hi hi' [] low high rises = omega arith
rises_from lo lo' hi hi' (row ∷ rows) low high rises = let first = rises.0 in (omega arith, rises_from (row.at + 12) (row.at + 12) hi hi' rows (omega arith) high rises.1)

rises_both : (lo mid hi : ℕ) (xs ys : List ForkRow) → Rises lo mid xs → Rises mid hi ys → Rises lo hi (xs ++ ys)
rises_both lo mid hi [] ys first second = rises_from mid lo hi hi ys first (omega arith) second
rises_both lo mid hi (x ∷ xs) ys first second = (first.0, rises_both (x.at + 12) mid hi xs ys first.1 second)

are_rising : (lo hi : ℕ) (rows : List ForkRow) → Rises lo hi rows → AreRising lo rows
are_rising lo hi [] rises = tt
are_rising lo hi (row ∷ rows) rises = (rises.0, are_rising row.at hi rows (rises_from (row.at + 12) row.at hi hi rows (omega arith) (omega arith) rises.1))

-- none of them has its third jump there
abbrev Misses : ℕ → List ForkRow → Type 0
Misses pc [] = Prim.Unit
Misses pc (row ∷ rows) = (row.at + 8 ≢ pc) × Misses pc rows

misses_both : (pc : ℕ) (xs ys : List ForkRow) → Misses pc xs → Misses pc ys → Misses pc (xs ++ ys)
misses_both pc [] ys first second = second
misses_both pc (x ∷ xs) ys first second = (first.0, misses_both pc xs ys first.1 second)

misses_later : (lo hi pc : ℕ) (rows : List ForkRow) → Rises lo hi rows → pc < lo + 8 → Misses pc rows
misses_later lo hi pc [] rises under = tt
misses_later lo hi pc (row ∷ rows) rises under = let first = rises.0 in ((λ e. absurd (omega (arith, e))), misses_later (row.at + 12) hi pc rows rises.1 (omega arith))

least : (lo hi : ℕ) (rows : List ForkRow) → Rises lo hi rows → lo ≤ hi
least lo hi [] rises = rises
least lo hi (row ∷ rows) rises = let first = rises.0 in let rest = least (row.at + 12) hi rows rises.1 in omega arith

misses_earlier : (lo hi pc : ℕ) (rows : List ForkRow) → Rises lo hi rows → hi ≤ pc → Misses pc rows
misses_earlier lo hi pc [] rises over = tt
misses_earlier lo hi pc (row ∷ rows) rises over = let end = least (row.at + 12) hi rows rises.1 in ((λ e. absurd (omega (arith, e))), misses_earlier (row.at + 12) hi pc rows rises.1 over)

missed_if : (pc : ℕ) (rows : List ForkRow) → 8 ≤ pc → Misses pc rows → handle_if (fork_from rows (pc - 8)) (pc - 8) ≡ None
missed_if pc [] room misses = refl
missed_if pc (row ∷ rows) room misses = by_case (nat_lt row.at (pc - 8)) (missed_if pc rows room misses.1)
  where
    by_case : (b : Bool) → handle_if (fork_from rows (pc - 8)) (pc - 8) ≡ None → handle_if (if b then fork_from rows (pc - 8) else Some row) (pc - 8) ≡ None
    by_case true rest = rest
    by_case false rest =
        let not : row.at ≢ pc - 8 = λ e. misses.0 (omega (arith, e)) in
        ap (λ (b : Bool). if b then Some row.handle else None) (ne_eqb row.at (pc - 8) not)

missed : (pc : ℕ) (rows : List ForkRow) → 8 ≤ pc → Misses pc rows → handle_behind rows pc ≡ None
missed pc rows room misses = ap (λ (b : Bool). if b then None else handle_if (fork_from rows (pc - 8)) (pc - 8)) (le-ltb pc 8 room) ∙ missed_if pc rows room misses

-- ---- one of them

-- it is found there, whatever comes behind
abbrev Finds : ForkRow → List ForkRow → Type 0
Finds row rows = (ys : List ForkRow) → fork_from (rows ++ ys) row.at ≡ Some row

skips : (lo hi first : ℕ) (xs ys : List ForkRow) → Rises lo hi xs → hi ≤ first → fork_from (xs ++ ys) first ≡ fork_from ys first
skips lo hi first [] ys rises over = refl
skips lo hi first (x ∷ xs) ys rises over =
    let end = least (x.at + 12) hi xs rises.1 in
    ap (λ (b : Bool). if b then fork_from (xs ++ ys) first else Some x) (lt-ltb x.at first (omega arith)) ∙ skips (x.at + 12) hi first xs ys rises.1 over

finds_behind : (lo hi : ℕ) (row : ForkRow) (xs rows : List ForkRow) → Rises lo hi xs → hi ≤ row.at → Finds row rows → Finds row (xs ++ rows)
finds_behind lo hi row xs rows rises over finds ys = ap (λ (all : List ForkRow). fork_from all row.at) (append_assoc xs rows ys) ∙ skips lo hi row.at xs (rows ++ ys) rises over ∙ finds ys

finds_before : (row : ForkRow) (rows zs : List ForkRow) → Finds row rows → Finds row (rows ++ zs)
finds_before row rows zs finds ys = ap (λ (all : List ForkRow). fork_from all row.at) (append_assoc rows zs ys) ∙ finds (zs ++ ys)

finds_first : (row : ForkRow) → Finds row (row ∷ [])
finds_first row ys = ap (λ (b : Bool). if b then fork_from ys row.at else Some row) (le-ltb row.at row.at (omega arith))

no_more : (rows : List ForkRow) → rows ++ [] ≡ rows
no_more [] = refl
no_more (row ∷ rows) = ap (λ (xs : List ForkRow). row ∷ xs) (no_more rows)

found : (row : ForkRow) (rows : List ForkRow) (pc : ℕ) → Finds row rows → pc ≡ row.at + 8 → handle_behind rows pc ≡ Some row.handle
found row rows pc finds at =
    let there : row.at ≡ pc - 8 = omega arith in
    let got : fork_from rows (pc - 8) ≡ Some row = ap (fork_from rows) (sym there) ∙ ap (λ (xs : List ForkRow). fork_from xs row.at) (sym (no_more rows)) ∙ finds [] in
    ap (λ (b : Bool). if b then None else handle_if (fork_from rows (pc - 8)) (pc - 8)) (le-ltb pc 8 (omega arith))
    ∙ ap (λ (o : Option ForkRow). handle_if o (pc - 8)) got
    ∙ ap (λ (b : Bool). if b then Some row.handle else None) (eq-eqb row.at (pc - 8) there)

-- ---- those of laid out code

fork_rises : (address : ℕ) (function : ProgramFunction) (kind : ItemKind) → Rises address (address + 4 * item_size Postprocessed function kind) (fork_row address kind)
fork_rises address function (items.Fork f handle) = (omega arith, omega arith)
fork_rises address function items.Prologue = omega arith
fork_rises address function items.Epilogue = omega arith
fork_rises address function (items.Plain i) = omega arith
fork_rises address function (items.Li rd value) = omega arith
fork_rises address function (items.Branch op rs1 rs2 to) = omega arith
fork_rises address function (items.Jump to) = omega arith
fork_rises address function (items.Call f) = omega arith
fork_rises address function (items.Entry entry) = omega arith

items_rise : (address : ℕ) (function : ProgramFunction) (xs : List Item) → Rises address (address + 4 * items_size Postprocessed function xs) (item_forks Postprocessed function address xs)
items_rise address function [] = omega arith
items_rise address function (x ∷ xs) =
    let size = item_size Postprocessed function x.kind in
    let rest = items_size Postprocessed function xs in
    rises_both address (address + 4 * size) (address + 4 * (size + rest)) (fork_row address x.kind) (item_forks Postprocessed function (address + 4 * size) xs) (fork_rises address function x.kind)
    (rises_from (address + 4 * size) (address + 4 * size) (address + 4 * size + 4 * rest) (address + 4 * (size + rest)) (item_forks Postprocessed function (address + 4 * size) xs) (omega arith) (omega arith) (items_rise (address + 4 * size) function xs))

function_rises : (address : ℕ) (f : ProgramFunction) → Rises address (address + 4 * function_size Postprocessed f) (item_forks Postprocessed f address f.items)
function_rises address f =
    let size = items_size Postprocessed f f.items in
    rises_from address address (address + 4 * size) (address + 4 * function_size Postprocessed f) (item_forks Postprocessed f address f.items) (omega arith) (omega arith) (items_rise address f f.items)

functions_rise : (address : ℕ) (fs : List ProgramFunction) → Rises address (address + 4 * functions_size Postprocessed fs) (forks_from Postprocessed address fs)
functions_rise address [] = omega arith
functions_rise address (f ∷ fs) =
    let size = function_size Postprocessed f in
    let rest = functions_size Postprocessed fs in
    rises_both address (address + 4 * size) (address + 4 * (size + rest)) (item_forks Postprocessed f address f.items) (forks_from Postprocessed (address + 4 * size) fs) (function_rises address f)
    (rises_from (address + 4 * size) (address + 4 * size) (address + 4 * size + 4 * rest) (address + 4 * (size + rest)) (forks_from Postprocessed (address + 4 * size) fs) (omega arith) (omega arith) (functions_rise (address + 4 * size) fs))

pub take_size : (function : ProgramFunction) (xs : List Item) (i : ℕ) → items_size Postprocessed function (take i xs) ≤ items_size Postprocessed function xs
take_size function [] zero = omega arith
take_size function [] (suc i) = omega arith
take_size function (x ∷ xs) zero = omega arith
take_size function (x ∷ xs) (suc i) = let rest = take_size function xs i in omega arith

-- at an item, or at its second word
items_miss : (address pc ahead : ℕ) (function : ProgramFunction) (xs : List Item) (i : ℕ) → ahead ≤ 1 → pc ≡ address + 4 * items_size Postprocessed function (take i xs) + 4 * ahead → Misses pc (item_forks Postprocessed function address xs)
items_miss address pc ahead function [] i few at = tt
items_miss address pc ahead function (x ∷ xs) zero few at = misses_later address (address + 4 * items_size Postprocessed function (x ∷ xs)) pc (item_forks Postprocessed function address (x ∷ xs)) (items_rise address function (x ∷ xs)) (omega arith)
items_miss address pc ahead function (x ∷ xs) (suc i) few at =
    let size = item_size Postprocessed function x.kind in
    misses_both pc (fork_row address x.kind) (item_forks Postprocessed function (address + 4 * size) xs) (misses_earlier address (address + 4 * size) pc (fork_row address x.kind) (fork_rises address function x.kind) (omega arith))
    (items_miss (address + 4 * size) pc ahead function xs i few (omega arith))

functions_miss : (address pc ahead : ℕ) (fs : List ProgramFunction) (f : ℕ) (function : ProgramFunction) (i : ℕ) → ahead ≤ 1 → slice_get fs f ≡ Some function → pc ≡ address + 4 * functions_size Postprocessed (take f fs) + 4 * items_size Postprocessed function (take i function.items) + 4 * ahead → Misses pc (forks_from Postprocessed address fs)
functions_miss address pc ahead [] f function i few named at = tt
functions_miss address pc ahead (g ∷ gs) zero function i few named at =
    let same : function ≡ g = cc in
    let size = take_size function function.items i in
    let first = items_miss address pc ahead function function.items i few (omega arith) in
    let all = ap (items_size Postprocessed function) (ap (λ (h : ProgramFunction). h.items) same) in
    let whole = ap (λ (h : ProgramFunction). items_size Postprocessed h h.items) same in
    misses_both pc (item_forks Postprocessed g address g.items) (forks_from Postprocessed (address + 4 * function_size Postprocessed g) gs)
    (subst (λ (h : ProgramFunction). Misses pc (item_forks Postprocessed h address h.items)) same first)
    (misses_later (address + 4 * function_size Postprocessed g) (address + 4 * function_size Postprocessed g + 4 * functions_size Postprocessed gs) pc (forks_from Postprocessed (address + 4 * function_size Postprocessed g) gs) (functions_rise (address + 4 * function_size Postprocessed g) gs) (omega (arith, at, size, whole, few)))
functions_miss address pc ahead (g ∷ gs) (suc f) function i few named at =
    let size = function_size Postprocessed g in
    let before = functions_size Postprocessed (take f gs) in
    misses_both pc (item_forks Postprocessed g address g.items) (forks_from Postprocessed (address + 4 * size) gs) (misses_earlier address (address + 4 * size) pc (item_forks Postprocessed g address g.items) (function_rises address g) (omega arith))
    (functions_miss (address + 4 * size) pc ahead gs f function i few named (omega arith))

items_find : (address : ℕ) (function : ProgramFunction) (xs : List Item) (i : ℕ) (item : Item) (g : ℕ) (row : ForkRow) → slice_get xs i ≡ Some item → item.kind ≡ items.Fork g row.handle → row.at ≡ address + 4 * items_size Postprocessed function (take i xs) → Finds row (item_forks Postprocessed function address xs)
items_find address function [] i item g row placed kind at = cc
items_find address function (x ∷ xs) zero item g row placed kind at =
    let same : item ≡ x = cc in
    let fork : items.Fork g row.handle ≡ x.kind = sym kind ∙ ap (λ (y : Item). y.kind) same in
    let there : row.at ≡ address = omega arith in
    let is : row ≡ record { at = address; handle = row.handle } = λ j. record { at = there j; handle = row.handle } in
    let here : Finds row (fork_row address (items.Fork g row.handle)) = subst (λ (r : ForkRow). Finds row (r ∷ [])) is (finds_first row) in
    finds_before row (fork_row address x.kind) (item_forks Postprocessed function (address + 4 * item_size Postprocessed function x.kind) xs) (subst (λ (c : ItemKind). Finds row (fork_row address c)) fork here)
items_find address function (x ∷ xs) (suc i) item g row placed kind at =
    let size = item_size Postprocessed function x.kind in
    finds_behind address (address + 4 * size) row (fork_row address x.kind) (item_forks Postprocessed function (address + 4 * size) xs) (fork_rises address function x.kind) (omega arith)
    (items_find (address + 4 * size) function xs i item g row placed kind (omega arith))

functions_find : (address : ℕ) (fs : List ProgramFunction) (f : ℕ) (function : ProgramFunction) (i : ℕ) (item : Item) (g : ℕ) (row : ForkRow) → slice_get fs f ≡ Some function → slice_get function.items i ≡ Some item → item.kind ≡ items.Fork g row.handle
    → row.at ≡ address + 4 * functions_size Postprocessed (take f fs) + 4 * items_size Postprocessed function (take i function.items) → Finds row (forks_from Postprocessed address fs)
functions_find address [] f function i item g row named placed kind at = cc
functions_find address (h ∷ hs) zero function i item g row named placed kind at =
    let same : function ≡ h = cc in
    let first = items_find address function function.items i item g row placed kind (omega arith) in
    finds_before row (item_forks Postprocessed h address h.items) (forks_from Postprocessed (address + 4 * function_size Postprocessed h) hs) (subst (λ (q : ProgramFunction). Finds row (item_forks Postprocessed q address q.items)) same first)
functions_find address (h ∷ hs) (suc f) function i item g row named placed kind at =
    let size = function_size Postprocessed h in
    let before = functions_size Postprocessed (take f hs) in
    finds_behind address (address + 4 * size) row (item_forks Postprocessed h address h.items) (forks_from Postprocessed (address + 4 * size) hs) (function_rises address h) (omega arith)
    (functions_find (address + 4 * size) hs f function i item g row named placed kind (omega arith))

-- ---- of a program's image

pub forks_rise : (p : Program) (image : Image) → IsCodeOf Postprocessed p image → AreRising 0 image.forks
unfolding forks_of
forks_rise p image code =
    let rises = functions_rise code_start p.functions in
    let all : Rises 0 (code_start + 4 * functions_size Postprocessed p.functions) (forks_of Postprocessed p) = rises_from code_start 0 (code_start + 4 * functions_size Postprocessed p.functions) (code_start + 4 * functions_size Postprocessed p.functions) (forks_of Postprocessed p) (omega arith) (omega arith) rises in
    subst (AreRising 0) (sym code.is_image.forks) (are_rising 0 (code_start + 4 * functions_size Postprocessed p.functions) (forks_of Postprocessed p) all)

-- the place of an item, or the one behind its first word
pub third_missed : (p : Program) (image : Image) (f : ℕ) (function : ProgramFunction) (i ahead pc : ℕ) → IsCodeOf Postprocessed p image → slice_get p.functions f ≡ Some function → ahead ≤ 1 → pc ≡ address_in Postprocessed p f function i + 4 * ahead → handle_behind image.forks pc ≡ None
unfolding forks_of
third_missed p image f function i ahead pc code named few at =
    let misses = functions_miss code_start pc ahead p.functions f function i few named (omega arith) in
    ap (λ (rows : List ForkRow). handle_behind rows pc) code.is_image.forks ∙ missed pc (forks_of Postprocessed p) (omega arith) misses

-- the third jump of a fork
pub third_found : (p : Program) (image : Image) (f : ℕ) (function : ProgramFunction) (i : ℕ) (item : Item) (g : ℕ) (handle : Reg) (pc : ℕ) → IsCodeOf Postprocessed p image → HasItem p f function i item → item.kind ≡ items.Fork g handle → pc ≡ address_in Postprocessed p f function i + 8 → handle_behind image.forks pc ≡ Some handle
unfolding forks_of
third_found p image f function i item g handle pc code has kind at =
    let row : ForkRow = record { at = address_in Postprocessed p f function i; handle = handle } in
    let finds = functions_find code_start p.functions f function i item g row has.named has.placed kind (omega arith) in
    ap (λ (rows : List ForkRow). handle_behind rows pc) code.is_image.forks ∙ found row (forks_of Postprocessed p) pc finds at
