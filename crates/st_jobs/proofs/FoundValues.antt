-- What a parse found under a name. The laws to reach for: found_values-some and found_values-none for the answers of
-- `get_strs`, row_values-puts for the rows that items make.
use Rattle.std.proofs.Common.{◌≡◌, ◌∙◌, ◌++◌, Bool, true, false, List, [], ◌∷◌, length, Option, Some, None, refl, sym, ap, append_assoc, append-nil, arith}
use Rattle.std.specs.Prelude.{if◌then◌else◌, option_map, unwrap_or}
use Rattle.std.specs.Str.{bytes_eq}
use Rattle.std.proofs.lemmas.Slice.Eq.{bytes_eq-Decides}
use Rattle.clap.specs.Walk.{Row, with_values}
use Rattle.clap.specs.Words.{found_of, matched_of, raw_values}
use Rattle.clap.proofs.WalkLemmas.{raw_values-rows}
use Rattle.clap.specs.declared.builder.value_parser.Reading.TheVariants.{AsWritten}
use Rattle.clap.specs.declared.parser.matches.ArgMatches.{ArgMatches}
use Rattle.clap.specs.declared.parser.matches.ValueSource.TheVariants.{CommandLine}
use Rattle.st_jobs.specs.Words.{Text, Item, values_of}
use Rattle.st_jobs.specs.ByClap.{found_values, row_values}

-- ---- the answers of `get_strs`

pub found_values-some : (m : ArgMatches) (id : Text) (values : List Text) → Some values ≡ option_map raw_values (matched_of (found_of m) id) → values ≡ found_values m id
found_values-some m id values e = ap (λ (o : Option (List Text)). unwrap_or o []) (e ∙ raw_values-rows (found_of m) id)

pub found_values-none : (m : ArgMatches) (id : Text) → None ≡ option_map raw_values (matched_of (found_of m) id) → [] ≡ found_values m id
found_values-none m id e = ap (λ (o : Option (List Text)). unwrap_or o []) (e ∙ raw_values-rows (found_of m) id)

pub length-nil : (xs : List Text) → length xs ≡ 0 → xs ≡ []
length-nil [] e = refl
length-nil (x ∷ xs) e = absurd (omega arith)

-- ---- the rows of items

pub same_text : (a b : Text) → bytes_eq a b ≡ true → a ≡ b
same_text a b e = (bytes_eq-Decides a b).0 e

own_text : (id : Text) → bytes_eq id id ≡ true
own_text id = (bytes_eq-Decides id id).1 refl

-- one more value under a name
abbrev pub put : Text → Text → List Row → List Row
put name value rows = with_values name AsWritten CommandLine (value ∷ []) rows

abbrev pub puts : List Item → List Row → List Row
puts [] rows = rows
puts (i ∷ items) rows = puts items (put i.name i.text rows)

row_values-put : (id name value : Text) (rows : List Row)
    → row_values id (put name value rows) ≡ (if bytes_eq name id then row_values id rows ++ value ∷ [] else row_values id rows)
row_values-put id name value [] = go (bytes_eq name id) refl
  where
    go : (t : Bool) → bytes_eq name id ≡ t → row_values id (put name value []) ≡ (if t then value ∷ [] else [])
    go true is = rw is
    go false is = rw is
row_values-put id name value (r ∷ rows) = go (bytes_eq r.id name) (bytes_eq r.id id) (bytes_eq name id) refl refl refl (row_values-put id name value rows)
  where
    go : (a b t : Bool) → bytes_eq r.id name ≡ a → bytes_eq r.id id ≡ b → bytes_eq name id ≡ t
        → row_values id (put name value rows) ≡ (if bytes_eq name id then row_values id rows ++ value ∷ [] else row_values id rows)
        → row_values id (put name value (r ∷ rows)) ≡ (if bytes_eq name id then row_values id (r ∷ rows) ++ value ∷ [] else row_values id (r ∷ rows))
    go true true true x y z later = rw (x, y, z)
    go true true false x y z later =
        let e : name ≡ id = cc (same_text r.id name x, same_text r.id id y) in
        let bad : true ≡ false = rw (e, own_text id) at z in cc
    go true false true x y z later =
        let e : r.id ≡ id = cc (same_text r.id name x, same_text name id z) in
        let bad : true ≡ false = rw (e, own_text id) at y in cc
    go true false false x y z later = rw (x, y, z)
    go false true true x y z later =
        let e : r.id ≡ name = cc (same_text r.id id y, same_text name id z) in
        let bad : true ≡ false = rw (e, own_text name) at x in cc
    go false true false x y z later = rw (x, y, z)
    go false false t x y z later = rw (x, y) later

pub row_values-puts : (id : Text) (items : List Item) (rows : List Row) → row_values id (puts items rows) ≡ row_values id rows ++ values_of id items
row_values-puts id [] rows = sym (append-nil (row_values id rows))
row_values-puts id (i ∷ items) rows = go (bytes_eq i.name id) refl (row_values-puts id items (put i.name i.text rows))
  where
    go : (t : Bool) → bytes_eq i.name id ≡ t → row_values id (puts items (put i.name i.text rows)) ≡ row_values id (put i.name i.text rows) ++ values_of id items
        → row_values id (puts items (put i.name i.text rows)) ≡ row_values id rows ++ values_of id (i ∷ items)
    go true is later =
        let one : row_values id (put i.name i.text rows) ≡ row_values id rows ++ i.text ∷ [] = rw (row_values-put id i.name i.text rows, is) in
        let more : values_of id (i ∷ items) ≡ i.text ∷ values_of id items = rw is in
        later ∙ ap (λ vs. vs ++ values_of id items) one ∙ append_assoc (row_values id rows) (i.text ∷ []) (values_of id items)
        ∙ ap (λ vs. row_values id rows ++ vs) (sym more)
    go false is later =
        let one : row_values id (put i.name i.text rows) ≡ row_values id rows = rw (row_values-put id i.name i.text rows, is) in
        let more : values_of id (i ∷ items) ≡ values_of id items = rw is in
        later ∙ ap (λ vs. vs ++ values_of id items) one ∙ ap (λ vs. row_values id rows ++ vs) (sym more)
