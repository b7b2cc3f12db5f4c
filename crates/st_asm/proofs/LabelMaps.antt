-- Maps of labels beside lists of definitions: what one definition more changes (first_line-more, definitions_of-more), and what a value
-- put at a name changes (named_put, named_kept).
use Rattle.std.proofs.Common.{ℕ, ◌≡◌, ◌+◌, ◌<◌, Bool, true, false, ◌&&◌, ◌==◌, List, [], ◌∷◌, ◌++◌, Option, Some, None, refl, ap, subst, sym, ◌∙◌, cond, take, length, append_assoc, append-nil, is_some, get_or}
use Rattle.std.specs.Option.{option_or}
use Rattle.std.specs.Prelude.{option_map}
use Rattle.std.specs.Str.{bytes_eq}
use Rattle.std.proofs.lemmas.List.{take_more, map-append}
use Rattle.std.proofs.lemmas.Slice.Eq.{bytes_eq-Decides}
use Rattle.st_base.specs.declared.line.Line.{Line}
use Rattle.st_line.specs.Statement.{line_label}
use Rattle.st_asm.specs.declared.lines.Located.{Located as Located'}
use Rattle.st_asm.specs.Labels.{Located, Definition, first_line, defined, definitions_of, scope_of}
use Rattle.st_asm.specs.declared.assembly.Spot.{Spot}
use Rattle.st_asm.specs.declared.assembly.Marked.{Marked}
use Rattle.st_asm.specs.Assembly.{Label, target_at}
use Rattle.st_asm.specs.Reading.{located_view, located_views, Labels, value_at, TellsLines, TellsSpots, spot_target, label_view, label_views}

option_or-cond : {V : Type 0} (b : Bool) (v : V) (o p : Option V) → cond b (Some v) (option_or o p) ≡ option_or (cond b (Some v) o) p
option_or-cond true v o p = refl
option_or-cond false v o p = refl

option_or-none : {V : Type 0} (o : Option V) → o ≡ option_or o None
option_or-none None = refl
option_or-none (Some v) = refl

-- one definition more
pub first_line-more : (scope : ℕ) (name : List ℕ) (ds : List Definition) (d : Definition) → first_line scope name (ds ++ d ∷ []) ≡ option_or (first_line scope name ds) (cond ((d.scope == scope) && bytes_eq d.name name) (Some d.line) None)
first_line-more scope name [] d = refl
first_line-more scope name (e ∷ ds) d =
    ap (λ o. cond ((e.scope == scope) && bytes_eq e.name name) (Some e.line) o) (first_line-more scope name ds d)
    ∙ option_or-cond ((e.scope == scope) && bytes_eq e.name name) e.line (first_line scope name ds) _

pub definitions_of-more : (ls : List Located) (l : Located) → definitions_of (ls ++ l ∷ []) ≡ definitions_of ls ++ defined l.line (line_label l.text)
definitions_of-more [] l = append-nil (defined l.line (line_label l.text))
definitions_of-more (x ∷ ls) l = ap (λ t. defined x.line (line_label x.text) ++ t) (definitions_of-more ls l) ∙ sym (append_assoc (defined x.line (line_label x.text)) (definitions_of ls) (defined l.line (line_label l.text)))

-- one line more
pub definitions_of-take : (ls : List Located') (i : ℕ) (d : Located') → i < length ls → definitions_of (located_views (take (i + 1) ls)) ≡ definitions_of (located_views (take i ls)) ++ defined (get_or ls i d).line (line_label (get_or ls i d).text.now)
definitions_of-take ls i d h =
    ap (λ xs. definitions_of (located_views xs)) (take_more ls i d h)
    ∙ ap definitions_of (map-append located_view (take i ls) (get_or ls i d ∷ []))
    ∙ definitions_of-more (located_views (take i ls)) (located_view (get_or ls i d))

same_name : (a b : List ℕ) → bytes_eq a b ≡ true → a ≡ b
same_name a b h = (bytes_eq-Decides a b).0 h

-- a value put at a name that had none
pub named_put : {V : Type 0} (f : List ℕ → Option V) (n q : List ℕ) (v : V) → f n ≡ None → cond (bytes_eq n q) (Some v) (f q) ≡ option_or (f q) (cond (bytes_eq n q) (Some v) None)
named_put f n q v h =
    (elim (bytes_eq n q) as (λ b. bytes_eq n q ≡ b → cond b (Some v) (f q) ≡ option_or (f q) (cond b (Some v) None)) [
      | true ↦ λ e. let same : f q ≡ None = ap f (sym (same_name n q e)) ∙ h in rw same refl
      | false ↦ λ e. option_or-none (f q)
    ]) refl

-- a name that had a value keeps it
pub named_kept : {V : Type 0} (f : List ℕ → Option V) (n q : List ℕ) (v : V) → is_some (f n) ≡ true → f q ≡ option_or (f q) (cond (bytes_eq n q) (Some v) None)
named_kept f n q v h =
    (elim (bytes_eq n q) as (λ b. bytes_eq n q ≡ b → f q ≡ option_or (f q) (cond b (Some v) None)) [
      | true ↦ λ e. kept (f q) (Some v) (ap (λ x. is_some (f x)) (sym (same_name n q e)) ∙ h)
      | false ↦ λ e. option_or-none (f q)
    ]) refl
  where
    kept : {V : Type 0} (o p : Option V) → is_some o ≡ true → o ≡ option_or o p
    kept None p h = cc
    kept (Some x) p h = refl

pub none_from_test : {V : Type 0} (o : Option V) → is_some o ≡ false → o ≡ None
none_from_test None h = refl
none_from_test (Some x) h = cc

-- the definition of a line that has a label
pub tells_lines-more : (old new : Labels Line) (line : Line) (scope : ℕ) (name : List ℕ) (label : Option (List ℕ)) (ds : List Definition) → Some name ≡ label → scope ≡ scope_of line.file name
    → ((s : ℕ) (q : List ℕ) → value_at s q new ≡ option_or (value_at s q old) (cond ((scope == s) && bytes_eq name q) (Some line) None))
    → TellsLines old ds → TellsLines new (ds ++ defined line label)
tells_lines-more old new line scope name label ds e f put tells =
    let P : Option (List ℕ) → Type 0 = λ l. TellsLines new (ds ++ defined line l) in
    subst P e (λ s q. put s q
    ∙ ap (λ o. option_or o (cond ((scope == s) && bytes_eq name q) (Some line) None)) (tells s q)
    ∙ ap (λ (k : ℕ). option_or (first_line s q ds) (cond ((k == s) && bytes_eq name q) (Some line) None)) f
    ∙ sym (first_line-more s q ds (record { scope = scope_of line.file name; name = name; line = line })))

-- ---- what stands at labels

target_at-more : (scope : ℕ) (name : List ℕ) (ls : List Label) (l : Label) → target_at scope name (ls ++ l ∷ []) ≡ option_or (target_at scope name ls) (cond ((l.scope == scope) && bytes_eq l.name name) (Some l.target) None)
target_at-more scope name [] l = refl
target_at-more scope name (k ∷ ls) l =
    ap (λ o. cond ((k.scope == scope) && bytes_eq k.name name) (Some k.target) o) (target_at-more scope name ls l)
    ∙ option_or-cond ((k.scope == scope) && bytes_eq k.name name) k.target (target_at scope name ls) _

spot-more : (o : Option Spot) (b : Bool) (v : Spot) → option_map spot_target (option_or o (cond b (Some v) None)) ≡ option_or (option_map spot_target o) (cond b (Some (spot_target v)) None)
spot-more None true v = refl
spot-more None false v = refl
spot-more (Some x) b v = refl

-- a label more
pub tells_spots-more : (old new : Labels Spot) (m : Marked) (ls : List Label)
    → ((s : ℕ) (q : List ℕ) → value_at s q new ≡ option_or (value_at s q old) (cond ((m.scope == s) && bytes_eq m.name.now q) (Some m.spot) None))
    → TellsSpots old ls → TellsSpots new (ls ++ label_view m ∷ [])
tells_spots-more old new m ls put tells = λ s q.
    ap (option_map spot_target) (put s q)
    ∙ spot-more (value_at s q old) ((m.scope == s) && bytes_eq m.name.now q) m.spot
    ∙ ap (λ o. option_or o (cond ((m.scope == s) && bytes_eq m.name.now q) (Some (spot_target m.spot)) None)) (tells s q)
    ∙ sym (target_at-more s q ls (label_view m))

pub label_views-take : (ms : List Marked) (i : ℕ) (d : Marked) → i < length ms → label_views (take (i + 1) ms) ≡ label_views (take i ms) ++ label_view (get_or ms i d) ∷ []
label_views-take ms i d h = ap label_views (take_more ms i d h) ∙ map-append label_view (take i ms) (get_or ms i d ∷ [])
