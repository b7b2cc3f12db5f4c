-- The walk of `clap` over words that have items: it passes them all, and what it found is just these items. The laws to
-- reach for: takes-items and finds-items, for any command that is `app`.
use Rattle.std.proofs.Common.{◌≡◌, ◌∙◌, ◌&&◌, inl, inr, is_some, Bool, true, false, List, [], ◌∷◌, map, drop, Option, Some, None, refl, sym, ap, ap₂, subst}
use Rattle.std.specs.Prelude.{if◌then◌else◌, fold}
use Rattle.clap.specs.Walk.{Row, Rule, Walk, walked, settled_rows, nothing_held, has_row, with_default}
use Rattle.clap.specs.Simple.{App, Shape, built, is_simple, matches_of, argument_words, HasMatchesOf}
use Rattle.clap.specs.Takes.{takes, turn_passes, walk_passes, settle_passes}
use Rattle.clap.specs.declared.parser.matches.ArgMatches.{ArgMatches}
use Rattle.clap.proofs.OnLiterals.{clap_on_literals}
use Rattle.clap.proofs.TakesLemmas.{leaf_takes}
use Rattle.st_jobs.specs.Words.{Text, Item, Mark, plain, named, wrong, file_id, after_dash, option_in, is_among, mark_among, mark_of, with_item, items_from, items_of}
use Rattle.st_jobs.specs.ByClap.{KnowsAll, HasItems, app, option_names, row_values}
use Rattle.st_jobs.proofs.FoundValues.{put, puts, row_values-puts}
use Rattle.st_jobs.proofs.ClapRules.{Serves, IsPlainWord, IsOptionWord, rules_built, serves, plain_word, option_word}
use Rattle.st_jobs.proofs.ClapSteps.{IsOpen, standing, due, settled_with, settled-rows, settled-passes, walked-file, file-passes, walked-option, walked-name, walked-value, option-passes, value-passes}

-- ---- one word and the words after it

-- from here the walk passes the words, and ends with these rows
record Goes (s : Shape) (w : Walk) (words : List Text) (found : List Row) : Type 0 where
  passes : walk_passes s [] w words ≡ true
  settles : settle_passes s.rules s.args_override_self (fold (walked s.rules []) w words).held ≡ true
  rows : settled_rows s.rules (fold (walked s.rules []) w words).held.pending (fold (walked s.rules []) w words).held.rows ≡ found

goes-on : (s : Shape) (w after : Walk) (word : Text) (words : List Text) (rows : List Row)
    → turn_passes s [] w word ≡ true → walked s.rules [] w word ≡ after → Goes s after words rows → Goes s w (word ∷ words) rows
unfolding clap_on_literals
goes-on s w after word words rows t e g = record {
  passes = ap₂ ◌&&◌ t (rw e g.passes);
  settles = subst (λ x. settle_passes s.rules s.args_override_self (fold (walked s.rules []) x words).held ≡ true) (sym e) g.settles;
  rows = subst (λ x. settled_rows s.rules (fold (walked s.rules []) x words).held.pending (fold (walked s.rules []) x words).held.rows ≡ rows) (sym e) g.rows;
}

goes-end : (s : Shape) (v : Serves s.rules) (last : Option Item) (b : Bool) (rows : List Row) → IsOpen last → Goes s (standing last b rows) [] (settled_with last rows)
unfolding clap_on_literals
goes-end s v last b rows o = record {
  passes = refl;
  settles = settled-passes s.rules v s.args_override_self last o rows;
  rows = settled-rows s.rules v last o rows;
}

-- the item that a word gives stands before those of the words after it
record HasFirst (name text : Text) (items : List Item) (rest : Option (List Item)) : Type 0 where
  later : List Item
  rest_is : rest ≡ Some later
  items_are : items ≡ record { name = name; text = text } ∷ later

with_item-HasFirst : (name text : Text) (items : List Item) (rest : Option (List Item)) → with_item name text rest ≡ Some items → HasFirst name text items rest
with_item-HasFirst name text items None e = cc
with_item-HasFirst name text items (Some later) e = record { later = later; rest_is = refl; items_are = cc }

goes-item : (s : Shape) (after : Walk) (name text : Text) (rows : List Row) (items : List Item) (words : List Text) (rest : Option (List Item))
    → ((later : List Item) → rest ≡ Some later → Goes s after words (puts later (put name text rows)))
    → with_item name text rest ≡ Some items → Goes s after words (puts items rows)
goes-item s after name text rows items words rest go_on e =
    let h = with_item-HasFirst name text items rest e in
    subst (λ is. Goes s after words (puts is rows)) (sym h.items_are) (go_on h.later h.rest_is)

-- the walk goes over these words from each place that it can stand at
record GoesOver (s : Shape) (names : List Text) (words : List Text) : Type 0 where
  from_standing : (last : Option Item) (b : Bool) (rows : List Row) (items : List Item) → IsOpen last
      → items_from (map (mark_of names) words) None ≡ Some items → Goes s (standing last b rows) words (puts items (settled_with last rows))
  from_due : (name : Text) (rows : List Row) (items : List Item) → is_among option_names name ≡ true
      → items_from (map (mark_of names) words) (Some name) ≡ Some items → Goes s (due name rows) words (puts items rows)

-- where an option waits, no word that begins with a hyphen may stand
dashed-none : (names : List Text) (parts : Option (Text × Option Text)) (rest : List Mark) (name : Text)
    → items_from (mark_among names parts ∷ rest) (Some name) ≡ None
dashed-none names None rest name = refl
dashed-none names (Some parts) rest name = go (is_among names parts.0) refl
  where
    go : (t : Bool) → is_among names parts.0 ≡ t → items_from (mark_among names (Some parts) ∷ rest) (Some name) ≡ None
    go true is = rw is
    go false is = rw is

due-step : (s : Shape) (v : Serves s.rules) (names : List Text) (word : Text) (words : List Text) → GoesOver s names words
    → (name : Text) (rows : List Row) (items : List Item) → is_among option_names name ≡ true
    → items_from (map (mark_of names) (word ∷ words)) (Some name) ≡ Some items → Goes s (due name rows) (word ∷ words) (puts items rows)
due-step s v names word words later name rows items a e = go (after_dash word) refl
  where
    go : (d : Option Text) → after_dash word ≡ d → Goes s (due name rows) (word ∷ words) (puts items rows)
    go (Some rest) is =
        let here : items_from (mark_among names (option_in word) ∷ map (mark_of names) words) (Some name) ≡ Some items =
        subst (λ (d : Option Text). items_from ((if is_some d then mark_among names (option_in word) else plain word) ∷ map (mark_of names) words) (Some name) ≡ Some items) is e in
        let none = dashed-none names (option_in word) (map (mark_of names) words) name in
        let bad : None ≡ Some items = sym none ∙ here in cc
    go None is =
        let f = plain_word word is in
        let here : with_item name word (items_from (map (mark_of names) words) None) ≡ Some items = rw is at e in
        goes-on s (due name rows) (standing (Some (record { name = name; text = word })) false rows) word words _
        (value-passes s v rows word name a f) (walked-value s.rules v rows word name a f)
        (goes-item s (standing (Some (record { name = name; text = word })) false rows) name word rows items words _
        (λ more is_more. later.from_standing (Some (record { name = name; text = word })) false rows more (inl a) is_more) here)

standing-step : (s : Shape) (v : Serves s.rules) (names : List Text) (k : KnowsAll names) (word : Text) (words : List Text) → GoesOver s names words
    → (last : Option Item) (b : Bool) (rows : List Row) (items : List Item) → IsOpen last
    → items_from (map (mark_of names) (word ∷ words)) None ≡ Some items → Goes s (standing last b rows) (word ∷ words) (puts items (settled_with last rows))
standing-step s v names k word words later last b rows items o e = go (after_dash word) refl
  where
    file : IsPlainWord word → with_item file_id word (items_from (map (mark_of names) words) None) ≡ Some items
        → Goes s (standing last b rows) (word ∷ words) (puts items (settled_with last rows))
    file f here =
        goes-on s (standing last b rows) (standing (Some (record { name = file_id; text = word })) true (settled_with last rows)) word words _
        (file-passes s v last b rows word o f) (walked-file s.rules v last b rows word o f)
        (goes-item s (standing (Some (record { name = file_id; text = word })) true (settled_with last rows)) file_id word (settled_with last rows) items words _
        (λ more is_more. later.from_standing (Some (record { name = file_id; text = word })) true (settled_with last rows) more (inr refl) is_more) here)

    option_there : (name : Text) (w : Option Text) → is_among names name ≡ true → IsOptionWord word (name, w)
        → items_from (named name w ∷ map (mark_of names) words) None ≡ Some items → Goes s (standing last b rows) (word ∷ words) (puts items (settled_with last rows))
    option_there name None a f here =
        goes-on s (standing last b rows) (due name (settled_with last rows)) word words _
        (option-passes s v last b rows word name None o (k name a) f) (walked-name s.rules v last b rows word name o (k name a) f)
        (later.from_due name (settled_with last rows) items (k name a) here)
    option_there name (Some t) a f here =
        goes-on s (standing last b rows) (standing None false (put name t (settled_with last rows))) word words _
        (option-passes s v last b rows word name (Some t) o (k name a) f) (walked-option s.rules v last b rows word name t o (k name a) f)
        (goes-item s (standing None false (put name t (settled_with last rows))) name t (settled_with last rows) items words _
        (λ more is_more. later.from_standing None false (put name t (settled_with last rows)) more tt is_more) here)

    known : (parts : Text × Option Text) (t : Bool) → is_among names parts.0 ≡ t → option_in word ≡ Some parts
        → items_from ((if t then named parts.0 parts.1 else wrong) ∷ map (mark_of names) words) None ≡ Some items
        → Goes s (standing last b rows) (word ∷ words) (puts items (settled_with last rows))
    known parts true a is here = option_there parts.0 parts.1 a (option_word word parts is (k parts.0 a)) here
    known parts false a is here = cc

    dashed : (parts : Option (Text × Option Text)) → option_in word ≡ parts
        → items_from (mark_among names parts ∷ map (mark_of names) words) None ≡ Some items
        → Goes s (standing last b rows) (word ∷ words) (puts items (settled_with last rows))
    dashed None is here = cc
    dashed (Some parts) is here = known parts (is_among names parts.0) refl is here

    go : (d : Option Text) → after_dash word ≡ d → Goes s (standing last b rows) (word ∷ words) (puts items (settled_with last rows))
    go None is = file (plain_word word is) (rw is at e)
    go (Some rest) is = dashed (option_in word) refl
        (subst (λ (d : Option Text). items_from ((if is_some d then mark_among names (option_in word) else plain word) ∷ map (mark_of names) words) None ≡ Some items) is e)

goes-over : (s : Shape) (v : Serves s.rules) (names : List Text) (k : KnowsAll names) (words : List Text) → GoesOver s names words
goes-over s v names k [] = record {
  from_standing = λ last b rows items o e.
      let none : [] ≡ items = cc in
      subst (λ is. Goes s (standing last b rows) [] (puts is (settled_with last rows))) none (goes-end s v last b rows o);
  from_due = λ name rows items a e. cc;
}
goes-over s v names k (word ∷ words) = let later = goes-over s v names k words in record {
  from_standing = λ last b rows items o e. standing-step s v names k word words later last b rows items o e;
  from_due = λ name rows items a e. due-step s v names word words later name rows items a e;
}

-- ---- the whole parse

default-none : (a : Rule) (rows : List Row) → a.defaults ≡ [] → with_default rows a ≡ rows
default-none a rows e = go (has_row a.id rows) refl
  where
    go : (t : Bool) → has_row a.id rows ≡ t → with_default rows a ≡ rows
    go true is = rw is
    go false is = rw (is, e)

abbrev HaveNoDefaults : List Rule → Type 0
HaveNoDefaults [] = Unit {0}
HaveNoDefaults (a ∷ rest) = (a.defaults ≡ []) × HaveNoDefaults rest

defaults-none : (rules : List Rule) (rows : List Row) → HaveNoDefaults rules → fold with_default rows rules ≡ rows
defaults-none [] rows h = refl
defaults-none (a ∷ rest) rows h = ap (λ r. fold with_default r rest) (default-none a rows h.0) ∙ defaults-none rest rows h.1

built-no_defaults : HaveNoDefaults rules_built
built-no_defaults = (refl, (refl, (refl, (refl, (refl, (refl, (refl, (refl, (refl, tt)))))))))

app-goes : (names : List Text) (words : List Text) (items : List Item) → KnowsAll names
    → items_of names words ≡ Some items → Goes (built app).top (standing None false []) words (puts items [])
app-goes names words items k e = (goes-over (built app).top serves names k words).from_standing None false [] items tt e

app-takes : (names : List Text) (words : List Text) (items : List Item) → KnowsAll names
    → items_of names (argument_words app words) ≡ Some items → takes app words ≡ true
app-takes names words items k e =
    let g = app-goes names (argument_words app words) items k e in
    leaf_takes (built app) nothing_held (argument_words app words) refl (ap₂ ◌&&◌ g.passes (ap₂ ◌&&◌ g.settles refl))

app-matches : (names : List Text) (words : List Text) (items : List Item) → KnowsAll names
    → items_of names (argument_words app words) ≡ Some items → matches_of app words ≡ puts items []
app-matches names words items k e =
    let g = app-goes names (argument_words app words) items k e in
    defaults-none rules_built _ built-no_defaults ∙ g.rows

app-simple : is_simple app ≡ true
app-simple = refl

pub takes-items : (a : App) (names : List Text) (words : List Text) (items : List Item) → a ≡ app → KnowsAll names
    → items_of names (drop 1 words) ≡ Some items → takes a words ≡ true
takes-items a names words items is k e = subst (λ x. takes x words ≡ true) (sym is) (app-takes names words items k e)

pub finds-items : (a : App) (names : List Text) (words : List Text) (items : List Item) (m : ArgMatches) → a ≡ app → KnowsAll names
    → items_of names (drop 1 words) ≡ Some items → HasMatchesOf a words m → HasItems items m
finds-items a names words items m is k e h id =
    let here = subst (λ x. HasMatchesOf x words m) is h in
    ap (row_values id) ((here app-simple).0 ∙ app-matches names words items k e) ∙ row_values-puts id items []
