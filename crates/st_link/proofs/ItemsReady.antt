-- The words of an accepted program's functions are ready to be encoded (function-ready), so each instruction of its code has a word
-- (code-fits), and each call names a function (code-called).
use Rattle.std.proofs.Common.{◌≡◌, ◌∙◌, ℕ, zero, suc, ◌+◌, ◌*◌, ◌^◌, ◌≤◌, ◌<◌, Bool, true, false, List, [], ◌∷◌, Option, Some, None, length, take, slice_get, refl, sym, subst, arith, cond, lit<}
use Rattle.std.specs.Prelude.{◌==◌}
use Rattle.std.proofs.lemmas.Bool.{eqb-true}
use Rattle.st_model.specs.declared.program.Item.{Item}
use Rattle.st_model.specs.declared.program.ItemKind.{ItemKind}
use Rattle.st_model.specs.declared.program.ItemKind.TheVariants as items
use Rattle.st_model.specs.declared.program.RuntimeCall.{RuntimeCall}
use Rattle.st_model.specs.declared.program.Program.{Program}
use Rattle.st_model.specs.declared.program.ProgramFunction.{ProgramFunction}
use Rattle.st_model.specs.declared.code.Layout.{Layout}
use Rattle.st_model.specs.declared.code.Layout.TheVariants.{Postprocessed, Unchanged}
use Rattle.st_model.specs.declared.code.PostedIns.{PostedIns}
use Rattle.st_model.specs.declared.code.PostedIns.TheVariants as posted
use Rattle.st_model.specs.Effect.{runtime_call}
use Rattle.st_model.specs.Accepted.{IsAccepted, IsFormed, HasFrame, Fits}
use Rattle.st_model.specs.Layout.{HasSize, saved_of, restoring_ins, copy_by, item_ins, item_size, items_size, item_place, words_at, items_words, function_words, function_size, functions_size, function_line, resolved_from, code_of, far_branch, far_among}
use Rattle.std.proofs.Common.{map}
use Rattle.std.proofs.lemmas.Option.{slice_get_within}
use Rattle.st_model.specs.declared.code.PostedWord.{PostedWord}
use Rattle.st_link.specs.Encoding.{AllFit, IsCalled, AreCalled, AllCalled}
use Rattle.st_link.proofs.PartsReady.{li-ready, saved-length, prologue-ready, epilogue-ready, restoring-ready, freeing-ready, copy-ready}
use Rattle.st_model.proofs.CodeSize.{code_within}
use Rattle.st_link.proofs.Sizes.{take-items, restoring-length, words-length, item-length, function-length}
use Rattle.st_link.proofs.Near.{IsNear, near-in, branch-each}
use Rattle.st_link.proofs.Ready.{IsReady, AreReady, AreReadyWords, ready-append, ready-words, words-append, fit-append, words-fit}

-- ---- items

chosen : {A G : Type 0} → (b : Bool) (x y : Option A) (z : A) → (b ≡ true → G) → (y ≡ Some z → G) → cond b x y ≡ Some z → G
chosen true x y z here later e = here refl
chosen false x y z here later e = later e

abbrev IsEntry : ℕ → Type 0
IsEntry at = (e : ℕ) × (at ≡ 4 * e) × (e < 2 ^ 18)

entry-at : (at : ℕ) (call : RuntimeCall) → runtime_call at ≡ Some call → IsEntry at
entry-at at call =
    chosen (at == 0x40) _ _ call (λ t. (0x10, eqb-true at 0x40 t, lit< tt))
    (chosen (at == 0x50) _ _ call (λ t. (0x14, eqb-true at 0x50 t, lit< tt))
    (chosen (at == 0x60) _ _ call (λ t. (0x18, eqb-true at 0x60 t, lit< tt))
    (chosen (at == 0x70) _ _ call (λ t. (0x1c, eqb-true at 0x70 t, lit< tt))
    (chosen (at == 0x80) _ _ call (λ t. (0x20, eqb-true at 0x80 t, lit< tt))
    (chosen (at == 0x90) _ _ call (λ t. (0x24, eqb-true at 0x90 t, lit< tt)) (λ e. cc))))))

item-ready : (layout : Layout) (p : Program) (function : ProgramFunction) (at : ℕ) (kind : ItemKind) → HasFrame function → items_size layout function function.items < 2 ^ 18 → Fits p function kind → IsNear layout function at kind → AreReady (length p.functions) at (item_ins layout function at kind)
item-ready layout p function at items.Prologue frame small fits near = prologue-ready (length p.functions) at function.frame_bytes (saved_of function) frame.least frame.most (saved-length function)
item-ready Unchanged p function at items.Epilogue frame small fits near = epilogue-ready (length p.functions) at function.frame_bytes (saved_of function) frame.least frame.most (saved-length function)
item-ready Postprocessed p function at items.Epilogue frame small fits near =
    let long = restoring-length (saved_of function) in
    ready-append (length p.functions) at (restoring_ins (saved_of function)) _ (restoring-ready (length p.functions) at (saved_of function) (saved-length function)) (freeing-ready (length p.functions) (at + length (restoring_ins (saved_of function))) (at + length (saved_of function) + 7) (omega (arith, long)) (omega (arith, long)))
item-ready layout p function at (items.Plain i) frame small fits near = (fits.0, tt)
item-ready layout p function at (items.Li rd value) frame small fits near = li-ready (length p.functions) at rd value
item-ready layout p function at (items.Branch op rs1 rs2 to) frame small fits near = ((fits.0, near), tt)
item-ready layout p function at (items.Jump to) frame small fits near = (let part = take-items layout function to function.items in omega (arith, part), tt)
item-ready layout p function at (items.Call f) frame small fits near = (slice_get_within p.functions f fits.0 fits.1, tt)
item-ready layout p function at (items.Entry address) frame small fits near = (entry-at address fits.0 fits.1, tt)
item-ready layout p function at (items.Fork f handle) frame small fits near = ((4, refl, lit< tt), (slice_get_within p.functions f fits.0.0 fits.0.1, ((8, refl, lit< tt), tt)))

items-ready : (layout : Layout) (n : ℕ) (function : ProgramFunction) (at : ℕ) (xs : List Item) → ((k : ℕ) (item : Item) → slice_get xs k ≡ Some item → AreReady n (at + items_size layout function (take k xs)) (item_ins layout function (at + items_size layout function (take k xs)) item.kind)) → AreReadyWords n at (items_words layout function at xs)
items-ready layout n function at [] each = tt
items-ready layout n function at (x ∷ xs) each =
    let size = item_size layout function x.kind in
    let there : at + 0 ≡ at = omega arith in
    let first : AreReady n at (item_ins layout function at x.kind) = subst (λ m. AreReady n m (item_ins layout function m x.kind)) there (each zero x refl) in
    let long : length (words_at x.line true (item_ins layout function at x.kind)) ≡ size = words-length x.line true (item_ins layout function at x.kind) ∙ item-length layout function at x.kind in
    let rest : AreReadyWords n (at + size) (items_words layout function (at + size) xs) =
    items-ready layout n function (at + size) xs
    (λ k item here. subst (λ m. AreReady n m (item_ins layout function m item.kind)) (omega arith) (each (suc k) item here)) in
    words-append n at (words_at x.line true (item_ins layout function at x.kind)) (items_words layout function (at + size) xs)
    (ready-words n at x.line true (item_ins layout function at x.kind) first)
    (subst (λ m. AreReadyWords n (at + m) (items_words layout function (at + size) xs)) (sym long) rest)

pub function-ready : (layout : Layout) (p : Program) (function : ProgramFunction) → IsFormed p function → function_size layout function < 2 ^ 18 → far_among 0 (function_words Postprocessed function) ≡ None → AreReadyWords (length p.functions) 0 (function_words layout function)
unfolding function_words
function-ready layout p function formed small none =
    words-append (length p.functions) 0 (items_words layout function 0 function.items) (words_at (function_line function) false (copy_by layout function))
    (items-ready layout (length p.functions) function 0 function.items
    (λ k item here. subst (λ m. AreReady (length p.functions) m (item_ins layout function m item.kind)) (omega arith)
    (item-ready layout p function (item_place layout function k) item.kind formed.frame (omega arith) (formed.fits k item here) (near-in layout function none k item here))))
    (ready-words (length p.functions) _ (function_line function) false (copy_by layout function) (copy-ready layout (length p.functions) _ function))

-- ---- programs

called-ins : (n at : ℕ) (i : PostedIns) → IsReady n at i → IsCalled n i
called-ins n at (posted.Plain i) is = tt
called-ins n at (posted.Branch op rs1 rs2 to) is = tt
called-ins n at (posted.Jump to) is = tt
called-ins n at (posted.Call f) is = is
called-ins n at (posted.Entry entry) is = tt

functions-fit : (layout : Layout) (p : Program) (address a : ℕ) (fs : List ProgramFunction) → functions_size layout p.functions ≤ 196608 → address ≡ 4 * a → a + functions_size layout fs < 2 ^ 18 → ((f : ℕ) (function : ProgramFunction) → slice_get fs f ≡ Some function → function_size layout function < 2 ^ 18 → AreReadyWords (length p.functions) 0 (function_words layout function)) → AllFit (resolved_from layout p address fs)
functions-fit layout p address a [] small e low ready = tt
functions-fit layout p address a (f ∷ fs) small e low ready =
    let long = function-length layout f in
    fit-append _ _
    (words-fit layout p (length p.functions) address a 0 (function_words layout f) small e (omega (arith, long)) (omega (arith, long)) (ready zero f refl (omega arith)))
    (functions-fit layout p (address + 4 * function_size layout f) (a + function_size layout f) fs small (omega arith) (omega arith) (λ g function here. ready (suc g) function here))

-- the words of each function are ready
pub each-ready : (layout : Layout) (p : Program) → IsAccepted p → HasSize p → far_branch p ≡ None → (f : ℕ) (function : ProgramFunction) → slice_get p.functions f ≡ Some function → function_size layout function < 2 ^ 18 → AreReadyWords (length p.functions) 0 (function_words layout function)
each-ready layout p accepted size none f function here low = function-ready layout p function (accepted.functions f function here).formed low (branch-each p none f function here)

pub code-fits : (layout : Layout) (p : Program) → IsAccepted p → HasSize p → far_branch p ≡ None → AllFit (code_of layout p)
unfolding code_of
code-fits layout p accepted size none =
    let small = code_within layout p accepted size in
    functions-fit layout p 0x10000 16384 p.functions small refl (omega (arith, small)) (each-ready layout p accepted size none)

called-words : (n at : ℕ) (ws : List PostedWord) → AreReadyWords n at ws → AreCalled n ws
called-words n at [] are = tt
called-words n at (w ∷ ws) are = (called-ins n at w.ins are.0, called-words n (at + 1) ws are.1)

functions-called : (layout : Layout) (n most : ℕ) (fs : List ProgramFunction) → functions_size layout fs ≤ most → most < 2 ^ 18 → ((f : ℕ) (function : ProgramFunction) → slice_get fs f ≡ Some function → function_size layout function < 2 ^ 18 → AreReadyWords n 0 (function_words layout function)) → AllCalled n (map (function_words layout) fs)
functions-called layout n most [] small low ready = tt
functions-called layout n most (f ∷ fs) small low ready =
    (called-words n 0 (function_words layout f) (ready zero f refl (omega arith)), functions-called layout n most fs (omega arith) low (λ g function here. ready (suc g) function here))

-- each call goes to a function that there is
pub code-called : (layout : Layout) (p : Program) → IsAccepted p → HasSize p → far_branch p ≡ None → AllCalled (length p.functions) (map (function_words layout) p.functions)
code-called layout p accepted size none =
    functions-called layout (length p.functions) 196608 p.functions (code_within layout p accepted size) (lit< tt) (each-ready layout p accepted size none)
