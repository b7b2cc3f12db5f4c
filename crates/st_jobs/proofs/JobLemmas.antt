-- The job of words, from what a parse found. The laws to reach for: job_by-found where the words have items, and
-- job_of-unknown where the first word is no command.
use Rattle.std.proofs.Common.{◌≡◌, ◌∙◌, true, false, refl, sym, ap, List, [], ◌∷◌, Bool, Option, Some, None, codes, map}
use Rattle.std.specs.Prelude.{option_and_then, slice_get, String, string_bytes}
use Rattle.std.specs.Str.{bytes_eq}
use Rattle.std.proofs.lemmas.Slice.Eq.{bytes_eq-Decides}
use Rattle.clap.specs.declared.parser.matches.ArgMatches.{ArgMatches}
use Rattle.st_jobs.specs.Words.{Text, Item, items_of, values_of}
use Rattle.st_jobs.specs.Commands.{CommandRow, names_of, job_in, job_by, job_of}
use Rattle.st_jobs.specs.ByClap.{found_values, HasItems}

pub job_by-found : (row : CommandRow) (names words : List Text) (items : List Item) (m : ArgMatches) → names ≡ names_of row
    → items_of names words ≡ Some items → HasItems items m → job_by row words ≡ job_in row (found_values m)
job_by-found row names words items m n e h =
    let same : (λ name. values_of name items) ≡ found_values m = λ i. λ id. sym (h id) i in
    ap (λ ns. option_and_then (λ is. job_in row (λ name. values_of name is)) (items_of ns words)) (sym n)
    ∙ ap (λ (o : Option (List Item)). option_and_then (λ is. job_in row (λ name. values_of name is)) o) e
    ∙ ap (λ (f : Text → List Text). job_in row f) same

bytes_eq-differs : (a b : Text) → (b ≡ a → ⊥) → bytes_eq a b ≡ false
bytes_eq-differs a b ne = go (bytes_eq a b) refl
  where
    go : (t : Bool) → bytes_eq a b ≡ t → bytes_eq a b ≡ false
    go true is = absurd (ne (sym ((bytes_eq-Decides a b).0 is)))
    go false is = is

pub record IsNoCommand (name : Text) : Type 0 where
  pub not_run : name ≡ codes "run" → ⊥
  pub not_plain : name ≡ codes "plain" → ⊥
  pub not_sim : name ≡ codes "sim" → ⊥
  pub not_check : name ≡ codes "check" → ⊥
  pub not_post : name ≡ codes "post" → ⊥
  pub not_gen : name ≡ codes "gen" → ⊥

job_of-no_command : (name : Text) (words : List Text) → IsNoCommand name → job_of (name ∷ words) ≡ None
job_of-no_command name words h = rw (
  bytes_eq-differs (codes "run") name h.not_run,
  bytes_eq-differs (codes "plain") name h.not_plain,
  bytes_eq-differs (codes "sim") name h.not_sim,
  bytes_eq-differs (codes "check") name h.not_check,
  bytes_eq-differs (codes "post") name h.not_post,
  bytes_eq-differs (codes "gen") name h.not_gen,
)

module _ {Z : Type 0} where
  pub job_of-unknown : (words : List (String Z)) (first : String Z) (name : Text) → Some first ≡ slice_get words 0 → name ≡ string_bytes first
      → IsNoCommand name → job_of (map string_bytes words) ≡ None
  job_of-unknown [] first name e is h = cc
  job_of-unknown (word ∷ words) first name e is h =
      let same : word ≡ first = cc in
      let text : string_bytes word ≡ name = ap string_bytes same ∙ sym is in
      rw text (job_of-no_command name (map string_bytes words) h)
