-- What `clap` reads of the command that it is given, and of a word by itself. The words to use: Serves for the rules of
-- the command, IsPlainWord and IsOptionWord for a word; serves, plain_word and option_word show them.
use Rattle.std.proofs.Common.{◌≡◌, ◌==◌, Bool, true, false, List, [], ◌∷◌, Option, Some, None, refl, ap, subst}
use Rattle.std.specs.Str.{bytes_eq}
use Rattle.std.specs.Option.{option_map_or}
use Rattle.clap.specs.Lexer.{long_of, short_of}
use Rattle.clap.specs.Walk.{Rule, arg_by_id, arg_by_long, arg_by_index}
use Rattle.clap.specs.Simple.{built, filled, with_index}
use Rattle.clap.proofs.OnLiterals.{clap_on_literals}
use Rattle.st_jobs.specs.Words.{Text, file_id, after_dash, name_and_value, option_in, is_among}
use Rattle.st_jobs.specs.ByClap.{app, option_rule, file_rule, option_names}
use Rattle.st_jobs.proofs.FoundValues.{same_text}

-- ---- the rules

abbrev pub rules_built : List Rule
rules_built = (built app).top.rules

abbrev pub option_built : Text → Rule
option_built name = filled (option_rule name)

abbrev pub file_built : Rule
file_built = with_index 1 (filled file_rule)

-- the rules have each option by its name, and the file names under their own name and at the first place
pub record Serves (c : List Rule) : Type 0 where
  pub long : (name : Text) → is_among option_names name ≡ true → arg_by_long c name ≡ Some (option_built name)
  pub id : (name : Text) → is_among option_names name ≡ true → arg_by_id c name ≡ Some (option_built name)
  pub index : arg_by_index c 1 ≡ Some file_built
  pub file : arg_by_id c file_id ≡ Some file_built

-- a fact of each name of a list
abbrev OfEach : (Text → Type 0) → List Text → Type 0
OfEach P [] = Unit {0}
OfEach P (n ∷ ns) = P n × OfEach P ns

is_among-each : (P : Text → Type 0) (names : List Text) → OfEach P names → (name : Text) → is_among names name ≡ true → P name
is_among-each P [] h name e = cc
is_among-each P (n ∷ ns) h name e = go (bytes_eq n name) refl (is_among-each P ns h.1 name)
  where
    go : (t : Bool) → bytes_eq n name ≡ t → (is_among ns name ≡ true → P name) → P name
    go true is later = subst P (same_text n name is) h.0
    go false is later = later (rw is at e)

pub serves : Serves rules_built
unfolding clap_on_literals
serves = record {
  long = is_among-each (λ n. arg_by_long rules_built n ≡ Some (option_built n)) option_names (refl, (refl, (refl, (refl, (refl, (refl, (refl, tt)))))));
  id = is_among-each (λ n. arg_by_id rules_built n ≡ Some (option_built n)) option_names (refl, (refl, (refl, (refl, (refl, (refl, (refl, tt)))))));
  index = refl;
  file = refl;
}

-- ---- a word by itself

pub record IsPlainWord (word : Text) : Type 0 where
  pub escape : bytes_eq word (45 ∷ 45 ∷ []) ≡ false
  pub long : long_of word ≡ None
  pub short : short_of word ≡ None

pub plain_word : (word : Text) → after_dash word ≡ None → IsPlainWord word
plain_word [] e = record { escape = refl; long = refl; short = refl }
plain_word (x ∷ xs) e = go (x == 45) refl
  where
    go : (t : Bool) → (x == 45) ≡ t → IsPlainWord (x ∷ xs)
    go true is = let bad : Some xs ≡ None = rw is at e in cc
    go false is = record { escape = rw is; long = rw is; short = rw is }

pub record IsOptionWord (word : Text) (parts : Text × Option Text) : Type 0 where
  pub escape : bytes_eq word (45 ∷ 45 ∷ []) ≡ false
  pub long : long_of word ≡ Some parts

pub option_word : (word : Text) (parts : Text × Option Text) → option_in word ≡ Some parts → is_among option_names parts.0 ≡ true → IsOptionWord word parts
option_word [] parts e k = cc
option_word (x ∷ []) parts e k = go (x == 45) refl
  where
    go : (t : Bool) → (x == 45) ≡ t → IsOptionWord (x ∷ []) parts
    go true is = let bad : None ≡ Some parts = rw is at e in cc
    go false is = let bad : None ≡ Some parts = rw is at e in cc
option_word (x ∷ y ∷ []) parts e k = go (x == 45) (y == 45) refl refl
  where
    go : (t u : Bool) → (x == 45) ≡ t → (y == 45) ≡ u → IsOptionWord (x ∷ y ∷ []) parts
    go false u is too = let bad : None ≡ Some parts = rw is at e in cc
    go true false is too = let bad : None ≡ Some parts = rw (is, too) at e in cc
    go true true is too =
        let nameless : Some ([], None) ≡ Some parts = rw (is, too) at e in
        let name : [] ≡ parts.0 = ap (λ (r : Option (Text × Option Text)). (option_map_or (λ p. p.0) r [])) nameless in
        let bad : false ≡ true = rw (← name) at k in cc
option_word (x ∷ y ∷ z ∷ zs) parts e k = go (x == 45) (y == 45) refl refl
  where
    go : (t u : Bool) → (x == 45) ≡ t → (y == 45) ≡ u → IsOptionWord (x ∷ y ∷ z ∷ zs) parts
    go false u is too = let bad : None ≡ Some parts = rw is at e in cc
    go true false is too = let bad : None ≡ Some parts = rw (is, too) at e in cc
    go true true is too =
        let here : Some (name_and_value (z ∷ zs)) ≡ Some parts = rw (is, too) at e in
        record { escape = rw (is, too); long = rw (is, too) here }
