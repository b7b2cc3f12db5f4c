-- Instructions are decoded word by word. Read IsDecoded (those of a front of the words are found), decodes, must_decode.
use Rattle.std.proofs.lemmas.Option.{slice_get-map}
use Rattle.std.proofs.Common.{◌≡◌, ℕ, Bool, suc, ◌+◌, ◌<◌, ◌≤◌, slice_get, option_map, List, [], ◌∷◌, ◌++◌, length, get_or, drop, Option, Some, None, refl, ap, ◌∙◌, sym, subst, arith, append_assoc}
use Rattle.std.proofs.Math.Seq.{drop-cons}
use Rattle.std.proofs.lemmas.List.{drop_all, append-nil}
use Rattle.st_rv.specs.declared.ins.Ins.{Ins}
use Rattle.st_step.specs.declared.decoded.Decoded.{Decoded}
use Rattle.st_items.specs.Tables.{begins_of, instructions_of}
use Rattle.st_rv.specs.Rows.{IsRow}
use Rattle.st_model.specs.Layout.{AreWords}

-- the instructions that were found, with those of the words that are left, are the whole
abbrev pub IsDecoded : List Ins → List ℕ → List Ins → Type 0
IsDecoded found left whole = (rest : List Ins) × (whole ≡ found ++ rest) × AreWords rest left

none_left : (w : ℕ) (left : List ℕ) (rest : List Ins) (r : Option Ins) → ((i : Ins) → IsRow i w → r ≡ Some i) → AreWords rest (w ∷ left) → r ≡ None → ⊥
none_left w left [] r only are none = are
none_left w left (i ∷ rest) r only are none = let e = only i are.0 in cc

one_more : (found whole rest : List Ins) (w : ℕ) (left : List ℕ) (r : Option Ins) (j : Ins) → ((i : Ins) → IsRow i w → r ≡ Some i) → r ≡ Some j → whole ≡ found ++ rest → AreWords rest (w ∷ left) → IsDecoded (found ++ j ∷ []) left whole
one_more found whole [] w left r j only is e are = absurd are
one_more found whole (i ∷ rest) w left r j only is e are =
    let same : i ≡ j = (let f = only i are.0 in cc) in
    (rest, e ∙ ap (λ (k : Ins). found ++ k ∷ rest) same ∙ sym (append_assoc found (j ∷ []) rest), are.1)

pub decodes : (found whole : List Ins) (words : List ℕ) (k : ℕ) (r : Option Ins) (j : Ins) → k < length words → ((i : Ins) → IsRow i (get_or words k 0) → r ≡ Some i) → r ≡ Some j → IsDecoded found (drop k words) whole → IsDecoded (found ++ j ∷ []) (drop (k + 1) words) whole
decodes found whole words k r j inside only is so =
    let one : suc k ≡ k + 1 = omega arith in
    let e : drop k words ≡ get_or words k 0 ∷ drop (k + 1) words = drop-cons words k 0 inside ∙ ap (λ (n : ℕ). get_or words k 0 ∷ drop n words) one in
    one_more found whole so.0 (get_or words k 0) (drop (k + 1) words) r j only is so.1 (subst (AreWords so.0) e so.2)

pub must_decode : (found whole : List Ins) (words : List ℕ) (k : ℕ) (r : Option Ins) → k < length words → ((i : Ins) → IsRow i (get_or words k 0) → r ≡ Some i) → IsDecoded found (drop k words) whole → r ≡ None → ⊥
must_decode found whole words k r inside only so none =
    let e : drop k words ≡ get_or words k 0 ∷ drop (suc k) words = drop-cons words k 0 inside in
    none_left (get_or words k 0) (drop (suc k) words) so.0 r only (subst (AreWords so.0) e so.2) none

nothing_left : (found rest : List Ins) → AreWords rest [] → found ++ rest ≡ found
nothing_left found [] are = append-nil found
nothing_left found (i ∷ rest) are = absurd are

-- where no word is left, the whole was found
pub all_decoded : (found whole : List Ins) (words : List ℕ) (k : ℕ) → length words ≤ k → IsDecoded found (drop k words) whole → found ≡ whole
all_decoded found whole words k past so =
    sym (so.1 ∙ nothing_left found so.0 (subst (AreWords so.0) (drop_all k words past) so.2))

-- of nothing, all is left
pub none_decoded : (whole : List Ins) (words : List ℕ) → AreWords whole words → IsDecoded [] (drop 0 words) whole
none_decoded whole words are = (whole, refl, are)

-- with one more in the table
pub with_decoded : (table : List Decoded) (s : Decoded) (i : Ins) → s.ins ≡ i → instructions_of (table ++ s ∷ []) ≡ instructions_of table ++ i ∷ []
with_decoded [] s i e = ap (λ (k : Ins). k ∷ []) e
with_decoded (t ∷ table) s i e = ap (λ (is : List Ins). t.ins ∷ is) (with_decoded table s i e)

pub with_marked : (table : List Decoded) (s : Decoded) (b : Bool) → s.begins ≡ b → begins_of (table ++ s ∷ []) ≡ begins_of table ++ b ∷ []
with_marked [] s b e = ap (λ (k : Bool). k ∷ []) e
with_marked (t ∷ table) s b e = ap (λ (bs : List Bool). t.begins ∷ bs) (with_marked table s b e)

-- the instruction at a place of a table
pub decoded_at : (table : List Decoded) (at : ℕ) (s : Decoded) → slice_get table at ≡ Some s → slice_get (instructions_of table) at ≡ Some s.ins
decoded_at table at s e = slice_get-map (λ (t : Decoded). t.ins) table at ∙ ap (λ (o : Option Decoded). option_map (λ (t : Decoded). t.ins) o) e
