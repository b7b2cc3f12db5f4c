-- Names become places again (resolved): where labels stand at their places, what was written with the names of places is the unit.
use Rattle.std.proofs.Common.{ℕ, ◌≡◌, ◌+◌, ◌-◌, ◌^◌, ◌<◌, true, false, ◌&&◌, List, [], ◌∷◌, refl, ap, sym, ◌∙◌, arith, nat_eq, cond, Some, is_some, map}
use Rattle.std.specs.List.{slice_get}
use Rattle.std.specs.Str.{bytes_eq}
use Rattle.st_line.specs.declared.source.Target.{Target}
use Rattle.st_line.specs.declared.source.Target.TheVariants as targets
use Rattle.st_line.specs.declared.source.SourceIns.{SourceIns}
use Rattle.st_line.specs.declared.source.SourceIns.TheVariants as source
use Rattle.st_line.proofs.Runs.{and-true}
use Rattle.st_asm.specs.declared.unit.SourceLine.{SourceLine}
use Rattle.st_asm.specs.declared.unit.Function.{Function}
use Rattle.st_asm.specs.Labels.{scope_of}
use Rattle.st_asm.specs.Assembly.{Label, target_at, found_or, target_in, ins_in, item_in, function_in}
use Rattle.st_print.specs.Spots.{spot_number}
use Rattle.st_print.specs.Canonical.{label_text, target_text}
use Rattle.st_print.specs.Rereading.{AreSameItems, AreSameFunctions}
use Rattle.st_print.proofs.StatementsRead.{written}
use Rattle.st_print.proofs.SpotsFound.{number-at}
use Rattle.st_print.proofs.SaidLines.{Each, HasLabel, Sound, IsSound}
use Rattle.st_print.proofs.LabelsRead.{same-name}
use Rattle.st_print.proofs.Assembled.{AreWrittenItems, AreWritten, IsRight}

-- the labels of spots are there
abbrev pub AreThere : List Target → List Label → Type 0
AreThere spots labels = (p : Target) (k : ℕ) → spot_number spots p ≡ Some k → is_some (target_at (scope_of 1 (label_text k)) (label_text k) labels) ≡ true

target-right : (spots : List Target) (labels : List Label) → Each (IsRight spots) labels → (sc k : ℕ) → k < 2 ^ 64 → (to : Target) → slice_get spots k ≡ Some to → is_some (target_at sc (label_text k) labels) ≡ true → target_at sc (label_text k) labels ≡ Some to
target-right spots [] right sc k small to e h = cc
target-right spots (l ∷ ls) right sc k small to e h =
    (elim (nat_eq l.scope sc && bytes_eq l.name (label_text k)) as (λ b. nat_eq l.scope sc && bytes_eq l.name (label_text k) ≡ b → is_some (cond b (Some l.target) (target_at sc (label_text k) ls)) ≡ true → cond b (Some l.target) (target_at sc (label_text k) ls) ≡ Some to) [
      | true ↦ λ t h. let s = and-true (nat_eq l.scope sc) (bytes_eq l.name (label_text k)) t in sym (right.0 k small (same-name l.name (label_text k) s.1)) ∙ e
      | false ↦ λ t h. target-right spots ls right.1 sc k small to e h
    ]) refl h

name-resolved : (spots : List Target) (labels : List Label) → Each (IsRight spots) labels → AreThere spots labels → (to : Target) → HasLabel spots to → target_in labels 1 (targets.Name (target_text spots to)) ≡ to
name-resolved spots labels right there to h =
    let k = h.number in
    let at = (number-at 0 to spots k h.there).2 in
    let z : k ≡ k - 0 = omega arith in
    let found = target-right spots labels right (scope_of 1 (label_text k)) k h.small to (ap (slice_get spots) z ∙ at) (there to k h.there) in
    ap (λ name. target_in labels 1 (targets.Name name)) h.text ∙ ap (found_or (targets.Name (label_text k))) found

ins-resolved : (names : List (List ℕ)) (spots : List Target) (labels : List Label) → Each (IsRight spots) labels → AreThere spots labels → (ins : SourceIns) → Sound names spots ins → ins_in labels 1 (written spots ins) ≡ ins
ins-resolved names spots labels right there (source.Plain i) h = refl
ins-resolved names spots labels right there (source.Li rd value) h = refl
ins-resolved names spots labels right there (source.La rd to) h = ap (source.La rd) (name-resolved spots labels right there to h)
ins-resolved names spots labels right there (source.Branch op rs1 rs2 to) h = ap (source.Branch op rs1 rs2) (name-resolved spots labels right there to h.1)
ins-resolved names spots labels right there (source.Jump to) h = ap (λ t. source.Jump t) (name-resolved spots labels right there to h)
ins-resolved names spots labels right there (source.Call name) h = refl
ins-resolved names spots labels right there source.Ret h = refl
ins-resolved names spots labels right there (source.Fork handle) h = refl

items-resolved : (functions : List Function) (names : List (List ℕ)) (spots : List Target) (labels : List Label) → Each (IsRight spots) labels → AreThere spots labels → (f i : ℕ) (xs ys : List SourceLine) → Each (λ item. Sound names spots item.ins) xs → AreWrittenItems functions spots f i xs ys → AreSameItems functions f i xs (map (item_in labels) ys)
items-resolved functions names spots labels right there f i [] [] sound h = tt
items-resolved functions names spots labels right there f i [] (y ∷ ys) sound h = elim h [ ]
items-resolved functions names spots labels right there f i (x ∷ xs) [] sound h = elim h [ ]
items-resolved functions names spots labels right there f i (x ∷ xs) (y ∷ ys) sound h = (
  record {
    ins = ap (λ n. ins_in labels n y.ins) h.0.file ∙ ap (ins_in labels 1) h.0.ins ∙ ins-resolved names spots labels right there x.ins sound.0;
    labelled = h.0.labelled;
  },
  items-resolved functions names spots labels right there f (i + 1) xs ys sound.1 h.1,
)

pub resolved : (functions : List Function) (names : List (List ℕ)) (spots : List Target) (labels : List Label) → Each (IsRight spots) labels → AreThere spots labels → (f : ℕ) (gs hs : List Function) → Each (IsSound names spots) gs → AreWritten functions spots f gs hs → AreSameFunctions functions f gs (map (function_in labels) hs)
resolved functions names spots labels right there f [] [] sound h = tt
resolved functions names spots labels right there f [] (y ∷ hs) sound h = elim h [ ]
resolved functions names spots labels right there f (g ∷ gs) [] sound h = elim h [ ]
resolved functions names spots labels right there f (g ∷ gs) (y ∷ hs) sound h = (
  record {
    name = h.0.head.name;
    ints = h.0.head.ints;
    handles = h.0.head.handles;
    slots = h.0.head.slots;
    items = items-resolved functions names spots labels right there f 0 g.items y.items sound.0.items h.0.items;
  },
  resolved functions names spots labels right there (f + 1) gs hs sound.1 h.1,
)
