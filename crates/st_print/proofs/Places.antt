-- Places and offsets one after another. item_places-more, data_places-more, function_places-more: one more; item_places-whole,
-- data_places-whole: all. walked: those that are named, in steps. filter-same: by the same test.
use Rattle.std.proofs.Common.{◌≡◌, ℕ, ◌+◌, ◌<◌, ◌≤◌, List, [], ◌∷◌, ◌++◌, length, take, get_or, refl, sym, ap, ◌∙◌, append_assoc, arith, suc, zero, add-one, add-zero, Bool, cond}
use Rattle.std.proofs.lemmas.List.{append-nil}
use Rattle.std.proofs.lemmas.List.Elements.{filter-append}
use Rattle.std.specs.List.{filter}
use Rattle.st_line.specs.declared.source.Target.{Target}
use Rattle.st_line.specs.declared.source.Target.TheVariants as targets
use Rattle.st_asm.specs.declared.unit.SourceLine.{SourceLine}
use Rattle.st_asm.specs.declared.unit.Function.{Function}
use Rattle.st_print.specs.Spots.{item_places, function_places, data_places}

items-next : (f i k : ℕ) (items : List SourceLine) → k ≤ length items → take (suc k) (item_places f i items) ≡ take k (item_places f i items) ++ targets.Place f (i + k) ∷ []
items-next f i zero [] h = ap (λ n. targets.Place f n ∷ []) (sym (add-zero i))
items-next f i zero (x ∷ items) h = ap (λ n. targets.Place f n ∷ []) (sym (add-zero i))
items-next f i (suc k) [] h = absurd (omega arith)
items-next f i (suc k) (x ∷ items) h =
    let same : (i + 1) + k ≡ i + suc k = omega arith in
    ap (λ t. targets.Place f i ∷ t) (items-next f (i + 1) k items (omega arith) ∙ ap (λ n. take k (item_places f (i + 1) items) ++ targets.Place f n ∷ []) same)

pub item_places-more : (f k : ℕ) (items : List SourceLine) → k ≤ length items → take (k + 1) (item_places f 0 items) ≡ take k (item_places f 0 items) ++ targets.Place f k ∷ []
item_places-more f k items h = ap (λ n. take n (item_places f 0 items)) (add-one k) ∙ items-next f 0 k items h ∙ ap (λ n. take k (item_places f 0 items) ++ targets.Place f n ∷ []) (omega arith)

items-all : (f i : ℕ) (items : List SourceLine) → take (suc (length items)) (item_places f i items) ≡ item_places f i items
items-all f i [] = refl
items-all f i (x ∷ items) = ap (λ t. targets.Place f i ∷ t) (items-all f (i + 1) items)

pub item_places-whole : (f : ℕ) (items : List SourceLine) → item_places f 0 items ≡ take (length items) (item_places f 0 items) ++ targets.Place f (length items) ∷ []
item_places-whole f items = sym (items-all f 0 items) ∙ items-next f 0 (length items) items (omega arith) ∙ ap (λ n. take (length items) (item_places f 0 items) ++ targets.Place f n ∷ []) (omega arith)

bytes-next : (at k : ℕ) (bytes : List ℕ) → k ≤ length bytes → take (suc k) (data_places at bytes) ≡ take k (data_places at bytes) ++ targets.Data (at + k) ∷ []
bytes-next at zero [] h = ap (λ n. targets.Data n ∷ []) (sym (add-zero at))
bytes-next at zero (x ∷ bytes) h = ap (λ n. targets.Data n ∷ []) (sym (add-zero at))
bytes-next at (suc k) [] h = absurd (omega arith)
bytes-next at (suc k) (x ∷ bytes) h =
    let same : (at + 1) + k ≡ at + suc k = omega arith in
    ap (λ t. targets.Data at ∷ t) (bytes-next (at + 1) k bytes (omega arith) ∙ ap (λ n. take k (data_places (at + 1) bytes) ++ targets.Data n ∷ []) same)

pub data_places-more : (k : ℕ) (bytes : List ℕ) → k ≤ length bytes → take (k + 1) (data_places 0 bytes) ≡ take k (data_places 0 bytes) ++ targets.Data k ∷ []
data_places-more k bytes h = ap (λ n. take n (data_places 0 bytes)) (add-one k) ∙ bytes-next 0 k bytes h ∙ ap (λ n. take k (data_places 0 bytes) ++ targets.Data n ∷ []) (omega arith)

bytes-all : (at : ℕ) (bytes : List ℕ) → take (suc (length bytes)) (data_places at bytes) ≡ data_places at bytes
bytes-all at [] = refl
bytes-all at (x ∷ bytes) = ap (λ t. targets.Data at ∷ t) (bytes-all (at + 1) bytes)

pub data_places-whole : (bytes : List ℕ) → data_places 0 bytes ≡ take (length bytes) (data_places 0 bytes) ++ targets.Data (length bytes) ∷ []
data_places-whole bytes = sym (bytes-all 0 bytes) ∙ bytes-next 0 (length bytes) bytes (omega arith) ∙ ap (λ n. take (length bytes) (data_places 0 bytes) ++ targets.Data n ∷ []) (omega arith)

functions-next : (f k : ℕ) (fs : List Function) (d : Function) → k < length fs → function_places f (take (suc k) fs) ≡ function_places f (take k fs) ++ item_places (f + k) 0 (get_or fs k d).items
functions-next f k [] d h = absurd (omega arith)
functions-next f zero (g ∷ fs) d h = append-nil (item_places f 0 g.items) ∙ ap (λ n. item_places n 0 g.items) (sym (add-zero f))
functions-next f (suc k) (g ∷ fs) d h =
    let same : (f + 1) + k ≡ f + suc k = omega arith in
    ap (λ t. item_places f 0 g.items ++ t) (functions-next (f + 1) k fs d (omega arith) ∙ ap (λ n. function_places (f + 1) (take k fs) ++ item_places n 0 (get_or fs k d).items) same)
    ∙ sym (append_assoc (item_places f 0 g.items) (function_places (f + 1) (take k fs)) (item_places (f + suc k) 0 (get_or fs k d).items))

pub function_places-more : (k : ℕ) (fs : List Function) (d : Function) → k < length fs → function_places 0 (take (k + 1) fs) ≡ function_places 0 (take k fs) ++ item_places k 0 (get_or fs k d).items
function_places-more k fs d h = ap (λ n. function_places 0 (take n fs)) (add-one k) ∙ functions-next 0 k fs d h ∙ ap (λ n. function_places 0 (take k fs) ++ item_places n 0 (get_or fs k d).items) (omega arith)

pub walked : (p : Target → Bool) (spots all next more : List Target) → more ≡ all ++ next → (spots ++ filter p all) ++ filter p next ≡ spots ++ filter p more
walked p spots all next more e = append_assoc spots (filter p all) (filter p next) ∙ ap (λ t. spots ++ t) (sym (filter-append p all next) ∙ ap (filter p) (sym e))

pub filter-same : (p q : Target → Bool) → ((spot : Target) → p spot ≡ q spot) → (spots : List Target) → filter p spots ≡ filter q spots
filter-same p q h [] = refl
filter-same p q h (s ∷ spots) = ap (λ b. cond b (s ∷ filter p spots) (filter p spots)) (h s) ∙ ap (λ t. cond (q s) (s ∷ t) t) (filter-same p q h spots)
