-- The label of each spot stands in the unit's text (label-met), so that every name in an operand is known (all-known).
use Rattle.std.proofs.Common.{ℕ, ◌≡◌, ◌+◌, Bool, true, false, ◌||◌, List, [], ◌∷◌, ◌++◌, refl, ap, sym, subst, ◌∙◌, cond, Option, Some, None, is_some, ◌⊎◌, inl, inr}
use Rattle.std.specs.Str.{bytes_eq}
use Rattle.std.specs.List.{filter}
use Rattle.st_line.specs.declared.source.Target.{Target}
use Rattle.st_line.specs.declared.source.Target.TheVariants as targets
use Rattle.st_line.specs.declared.source.SourceIns.{SourceIns}
use Rattle.st_line.specs.declared.source.SourceIns.TheVariants as source
use Rattle.st_line.specs.declared.source.Statement.TheVariants as statements
use Rattle.st_line.proofs.Runs.{or-second, or-either}
use Rattle.st_asm.specs.declared.unit.SourceLine.{SourceLine}
use Rattle.st_asm.specs.declared.unit.Function.{Function}
use Rattle.st_asm.specs.Labels.{is_entry, is_named as is_listed, scope_of, Definition, first_line, is_known}
use Rattle.st_asm.specs.Assembly.{name_in, name_given}
use Rattle.st_print.specs.Spots.{is_spot, is_named, item_places, function_places, data_places, places_of, spots_of, number_from, spot_number}
use Rattle.st_print.specs.Canonical.{label_text, target_text, is_some_byte, have_address, is_in_data, names_data, needs_data}
use Rattle.st_print.specs.Rereading.{names_of}
use Rattle.st_print.proofs.LineShapes.{Said, statement_said}
use Rattle.st_print.proofs.LineShapes.Said.{Labels, States}
use Rattle.st_print.proofs.StatementsRead.{written}
use Rattle.st_print.proofs.SpotsFound.{is_among, spot-same, among-later}
use Rattle.st_print.proofs.SaidLines.{spot_said, spot_saids, item_saids, function_saids, functions_saids, byte_saids, data_saids, unit_saids, Each, HasLabel, Sound, IsSound}
use Rattle.st_print.proofs.LabelsRead.{Among, labels_in, definitions_at, first-known, same-name}

-- ---- spots are places

kept-among : (P : Target → Bool) (j : ℕ) (p : Target) (xs : List Target) (k : ℕ) → number_from j p (filter P xs) ≡ Some k → is_among p xs ≡ true
kept-among P j p [] k h = cc
kept-among P j p (x ∷ xs) k h =
    (elim (P x) as (λ c. number_from j p (cond c (x ∷ filter P xs) (filter P xs)) ≡ Some k → is_among p (x ∷ xs) ≡ true) [
      | true ↦ λ h. (elim (is_spot p x) as (λ b. cond b (Some j) (number_from (j + 1) p (filter P xs)) ≡ Some k → b || is_among p xs ≡ true) [
        | true ↦ λ h. refl
        | false ↦ λ h. kept-among P (j + 1) p xs k h
      ]) h
      | false ↦ λ h. among-later p x xs (kept-among P j p xs k h)
    ]) h

among-split : (p : Target) (xs ys : List Target) → is_among p (xs ++ ys) ≡ true → (is_among p xs ≡ true) ⊎ (is_among p ys ≡ true)
among-split p [] ys h = inr h
among-split p (x ∷ xs) ys h =
    (elim (is_spot p x) as (λ b. b || is_among p (xs ++ ys) ≡ true → (b || is_among p xs ≡ true) ⊎ (is_among p ys ≡ true)) [
      | true ↦ λ h. inl refl
      | false ↦ λ h. among-split p xs ys h
    ]) h

-- ---- labels of more lines

label-left : (y : List ℕ) (ss ts : List Said) → Among y (labels_in ss) → Among y (labels_in (ss ++ ts))
label-left y [] ts h = elim h [ ]
label-left y (Labels name ∷ ss) ts h = elim h [ inl e ↦ inl e | inr m ↦ inr (label-left y ss ts m) ]
label-left y (States s ∷ ss) ts h = label-left y ss ts h

label-right : (y : List ℕ) (ss ts : List Said) → Among y (labels_in ts) → Among y (labels_in (ss ++ ts))
label-right y [] ts h = h
label-right y (Labels name ∷ ss) ts h = inr (label-right y ss ts h)
label-right y (States s ∷ ss) ts h = label-right y ss ts h

-- ---- the label of a spot

met-here : (spots : List Target) (p q : Target) (k : ℕ) → spot_number spots p ≡ Some k → is_spot p q ≡ true → Among (label_text k) (labels_in (spot_saids spots q))
met-here spots p q k h e =
    let n : spot_number spots q ≡ Some k = ap (spot_number spots) (sym (spot-same p q e)) ∙ h in
    subst (λ o. Among (label_text k) (labels_in (spot_said o))) (sym n) (inl refl)

met-items : (spots : List Target) (p : Target) (k : ℕ) → spot_number spots p ≡ Some k → (f i : ℕ) (items : List SourceLine) → is_among p (item_places f i items) ≡ true → Among (label_text k) (labels_in (item_saids spots f i items))
met-items spots p k h f i [] a = elim (or-either (is_spot p (targets.Place f i)) false a) [
  | inl e ↦ met-here spots p (targets.Place f i) k h e
  | inr e ↦ absurd (cc)
]
met-items spots p k h f i (item ∷ items) a =
    let s = States (statements.Instruction (written spots item.ins)) in
    elim (or-either (is_spot p (targets.Place f i)) (is_among p (item_places f (i + 1) items)) a) [
      | inl e ↦ label-left (label_text k) (spot_saids spots (targets.Place f i)) (s ∷ item_saids spots f (i + 1) items) (met-here spots p (targets.Place f i) k h e)
      | inr e ↦ label-right (label_text k) (spot_saids spots (targets.Place f i)) (s ∷ item_saids spots f (i + 1) items) (met-items spots p k h f (i + 1) items e)
    ]

met-functions : (spots : List Target) (p : Target) (k : ℕ) → spot_number spots p ≡ Some k → (f : ℕ) (gs : List Function) → is_among p (function_places f gs) ≡ true → Among (label_text k) (labels_in (functions_saids spots f gs))
met-functions spots p k h f [] a = absurd (cc)
met-functions spots p k h f (g ∷ gs) a =
    elim (among-split p (item_places f 0 g.items) (function_places (f + 1) gs) a) [
      | inl e ↦ label-left (label_text k) (function_saids spots f g) (functions_saids spots (f + 1) gs) (inr (met-items spots p k h f 0 g.items e))
      | inr e ↦ label-right (label_text k) (function_saids spots f g) (functions_saids spots (f + 1) gs) (met-functions spots p k h (f + 1) gs e)
    ]

met-bytes : (spots : List Target) (p : Target) (k : ℕ) → spot_number spots p ≡ Some k → (at : ℕ) (bs : List ℕ) → is_among p (data_places at bs) ≡ true → Among (label_text k) (labels_in (byte_saids spots at bs))
met-bytes spots p k h at [] a = elim (or-either (is_spot p (targets.Data at)) false a) [
  | inl e ↦ met-here spots p (targets.Data at) k h e
  | inr e ↦ absurd (cc)
]
met-bytes spots p k h at (b ∷ bs) a =
    let s = States (statements.Data (b ∷ [])) in
    elim (or-either (is_spot p (targets.Data at)) (is_among p (data_places (at + 1) bs)) a) [
      | inl e ↦ label-left (label_text k) (spot_saids spots (targets.Data at)) (s ∷ byte_saids spots (at + 1) bs) (met-here spots p (targets.Data at) k h e)
      | inr e ↦ label-right (label_text k) (spot_saids spots (targets.Data at)) (s ∷ byte_saids spots (at + 1) bs) (met-bytes spots p k h (at + 1) bs e)
    ]

data-place : (p : Target) (at : ℕ) (bs : List ℕ) → is_among p (data_places at bs) ≡ true → is_in_data p ≡ true
data-place p at [] a = elim (or-either (is_spot p (targets.Data at)) false a) [
  | inl e ↦ ap is_in_data (spot-same p (targets.Data at) e)
  | inr e ↦ absurd (cc)
]
data-place p at (b ∷ bs) a = elim (or-either (is_spot p (targets.Data at)) (is_among p (data_places (at + 1) bs)) a) [
  | inl e ↦ ap is_in_data (spot-same p (targets.Data at) e)
  | inr e ↦ data-place p (at + 1) bs e
]

data-named : (j : ℕ) (p : Target) (ss : List Target) (k : ℕ) → number_from j p ss ≡ Some k → is_in_data p ≡ true → names_data ss ≡ true
data-named j p [] k h d = cc
data-named j p (s ∷ ss) k h d =
    (elim (is_spot p s) as (λ b. is_spot p s ≡ b → cond b (Some j) (number_from (j + 1) p ss) ≡ Some k → is_in_data s || names_data ss ≡ true) [
      | true ↦ λ e h. let same : is_in_data s ≡ true = ap is_in_data (sym (spot-same p s e)) ∙ d in rw same refl
      | false ↦ λ e h. or-second (is_in_data s) (names_data ss) (data-named (j + 1) p ss k h d)
    ]) refl h

met-data : (spots : List Target) (p : Target) (k : ℕ) (needed : Bool) (rodata : List ℕ) → spot_number spots p ≡ Some k → needed ≡ true → is_among p (data_places 0 rodata) ≡ true → Among (label_text k) (labels_in (data_saids needed spots rodata))
met-data spots p k true rodata h n a = met-bytes spots p k h 0 rodata a
met-data spots p k false rodata h n a = absurd (cc)

pub label-met : (functions : List Function) (rodata : List ℕ) (p : Target) (k : ℕ) → spot_number (spots_of functions rodata) p ≡ Some k → Among (label_text k) (labels_in (unit_saids (needs_data functions rodata) (spots_of functions rodata) functions rodata))
label-met functions rodata p k h =
    let spots = spots_of functions rodata in
    let needed = needs_data functions rodata in
    let place = kept-among (λ spot. is_named functions spot) 0 p (places_of functions rodata) k h in
    elim (among-split p (function_places 0 functions) (data_places 0 rodata) place) [
      | inl e ↦ label-left (label_text k) (functions_saids spots 0 functions) (data_saids needed spots rodata) (met-functions spots p k h 0 functions e)
      | inr e ↦ label-right (label_text k) (functions_saids spots 0 functions) (data_saids needed spots rodata)
          (met-data spots p k needed rodata h (or-second (is_some_byte rodata || have_address functions) (names_data spots) (data-named 0 p spots k h (data-place p 0 rodata e))) e)
    ]

-- ---- names in operands are known

known-label : (saids : List Said) (name : List ℕ) → Among name (labels_in saids) → is_known (definitions_at 1 saids) 1 (Some name) ≡ true
known-label saids name h = or-second (is_entry name) (is_some (first_line (scope_of 1 name) name (definitions_at 1 saids))) (first-known name 1 saids h)

listed-among : (spots : List Target) (name : List ℕ) (f : ℕ) (gs : List Function) → is_listed name (names_of gs) ≡ true → Among name (labels_in (functions_saids spots f gs))
listed-among spots name f [] h = absurd (cc)
listed-among spots name f (g ∷ gs) h = elim (or-either (bytes_eq g.name name) (is_listed name (names_of gs)) h) [
  | inl e ↦ label-left name (function_saids spots f g) (functions_saids spots (f + 1) gs) (inl (sym (same-name g.name name e)))
  | inr e ↦ label-right name (function_saids spots f g) (functions_saids spots (f + 1) gs) (listed-among spots name (f + 1) gs e)
]

entry-known : (ds : List Definition) (name : List ℕ) → is_entry name ≡ true → is_known ds 1 (Some name) ≡ true
entry-known ds name h = rw h refl

-- the labels of operands, and the names of calls, are known
record AreKnown (names : List (List ℕ)) (spots : List Target) (ds : List Definition) : Type 0 where
  label : (to : Target) → HasLabel spots to → is_known ds 1 (Some (target_text spots to)) ≡ true
  call : (name : List ℕ) → is_listed name names || is_entry name ≡ true → is_known ds 1 (Some name) ≡ true

abbrev pub IsKnown : List Definition → Said → Type 0
IsKnown ds s = is_known ds 1 (name_given (statement_said s)) ≡ true

instruction-known : (names : List (List ℕ)) (spots : List Target) (ds : List Definition) → AreKnown names spots ds → (ins : SourceIns) → Sound names spots ins → is_known ds 1 (name_in (written spots ins)) ≡ true
instruction-known names spots ds k (source.Plain i) h = refl
instruction-known names spots ds k (source.Li rd value) h = refl
instruction-known names spots ds k (source.La rd to) h = k.label to h
instruction-known names spots ds k (source.Branch op rs1 rs2 to) h = k.label to h.1
instruction-known names spots ds k (source.Jump to) h = k.label to h
instruction-known names spots ds k (source.Call name) h = k.call name h.1
instruction-known names spots ds k source.Ret h = refl
instruction-known names spots ds k (source.Fork handle) h = refl

known-append : (ds : List Definition) (ss ts : List Said) → Each (IsKnown ds) ss → Each (IsKnown ds) ts → Each (IsKnown ds) (ss ++ ts)
known-append ds [] ts h k = k
known-append ds (s ∷ ss) ts h k = (h.0, known-append ds ss ts h.1 k)

spot-known : (ds : List Definition) (o : Option ℕ) → Each (IsKnown ds) (spot_said o)
spot-known ds None = tt
spot-known ds (Some k) = (refl, tt)

items-known : (names : List (List ℕ)) (spots : List Target) (ds : List Definition) → AreKnown names spots ds → (f i : ℕ) (items : List SourceLine) → Each (λ item. Sound names spots item.ins) items → Each (IsKnown ds) (item_saids spots f i items)
items-known names spots ds k f i [] h = spot-known ds (spot_number spots (targets.Place f i))
items-known names spots ds k f i (item ∷ items) h =
    known-append ds (spot_saids spots (targets.Place f i)) (States (statements.Instruction (written spots item.ins)) ∷ item_saids spots f (i + 1) items)
    (spot-known ds (spot_number spots (targets.Place f i)))
    (instruction-known names spots ds k item.ins h.0, items-known names spots ds k f (i + 1) items h.1)

functions-known : (names : List (List ℕ)) (spots : List Target) (ds : List Definition) → AreKnown names spots ds → (f : ℕ) (gs : List Function) → Each (IsSound names spots) gs → Each (IsKnown ds) (functions_saids spots f gs)
functions-known names spots ds k f [] h = tt
functions-known names spots ds k f (g ∷ gs) h =
    known-append ds (function_saids spots f g) (functions_saids spots (f + 1) gs)
    (refl, (refl, (refl, items-known names spots ds k f 0 g.items h.0.items)))
    (functions-known names spots ds k (f + 1) gs h.1)

bytes-known : (spots : List Target) (ds : List Definition) (at : ℕ) (bs : List ℕ) → Each (IsKnown ds) (byte_saids spots at bs)
bytes-known spots ds at [] = spot-known ds (spot_number spots (targets.Data at))
bytes-known spots ds at (b ∷ bs) =
    known-append ds (spot_saids spots (targets.Data at)) (States (statements.Data (b ∷ [])) ∷ byte_saids spots (at + 1) bs)
    (spot-known ds (spot_number spots (targets.Data at))) (refl, bytes-known spots ds (at + 1) bs)

data-known : (spots : List Target) (ds : List Definition) (needed : Bool) (rodata : List ℕ) → Each (IsKnown ds) (data_saids needed spots rodata)
data-known spots ds false rodata = tt
data-known spots ds true rodata = (refl, bytes-known spots ds 0 rodata)

pub all-known : (functions : List Function) (rodata : List ℕ) → Each (IsSound (names_of functions) (spots_of functions rodata)) functions → Each (IsKnown (definitions_at 1 (unit_saids (needs_data functions rodata) (spots_of functions rodata) functions rodata))) (unit_saids (needs_data functions rodata) (spots_of functions rodata) functions rodata)
all-known functions rodata h =
    let spots = spots_of functions rodata in
    let needed = needs_data functions rodata in
    let saids = unit_saids needed spots functions rodata in
    let ds = definitions_at 1 saids in
    let names = names_of functions in
    let k : AreKnown names spots ds = record {
      label = λ to l. ap (λ name. is_known ds 1 (Some name)) l.text ∙ known-label saids (label_text l.number) (label-met functions rodata to l.number l.there);
      call = λ name c. elim (or-either (is_listed name names) (is_entry name) c) [
        | inl e ↦ known-label saids name (label-left name (functions_saids spots 0 functions) (data_saids needed spots rodata) (listed-among spots name 0 functions e))
        | inr e ↦ entry-known ds name e
      ];
    } in
    known-append ds (functions_saids spots 0 functions) (data_saids needed spots rodata) (functions-known names spots ds k 0 functions h) (data-known spots ds needed rodata)
