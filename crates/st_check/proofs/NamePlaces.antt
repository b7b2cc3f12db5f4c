-- Functions by their names: one function more before those that a map tells (tells_names-more), and what the map says of a name.
use Rattle.std.proofs.Common.{◌≡◌, ◌∙◌, ℕ, ◌+◌, ◌<◌, Bool, true, false, ◌||◌, List, [], ◌∷◌, refl, ap, sym, cond, length, drop, get_or, Option, Some, Bor, is_some}
use Rattle.std.specs.BTreeMap.{BTreeMap}
use Rattle.std.specs.BTreeMap as tree
use Rattle.std.specs.Cmp.Lexicographic.{slice_cmp}
use Rattle.std.specs.Ordering.{nat_cmp}
use Rattle.std.specs.Str.{bytes_eq}
use Rattle.std.proofs.lemmas.Map.Text.{btree_map_updates_str}
use Rattle.st_asm.specs.declared.unit.Function.{Function}
use Rattle.st_asm.specs.Labels.{is_named}
use Rattle.st_check.specs.Faults.{names_of}
use Rattle.st_check.specs.Programs.{place_from}
use Rattle.st_check.specs.Views.{TellsNamesFrom}
use Rattle.st_check.proofs.Drops.{drop-read}

pub tells_names-more : (i j : ℕ) (functions : List Function) (g : Function) (w : List ℕ) (m n : BTreeMap (Bor (List ℕ)) ℕ) → j ≡ i + 1 → i < length functions → g ≡ get_or functions i g → w ≡ g.name → tree.UpdatesBy (λ x y. slice_cmp nat_cmp x.now y.now) (λ k. slice_cmp nat_cmp w k.now) m n (Some i) → TellsNamesFrom j m (drop j functions) → TellsNamesFrom i n (drop i functions)
tells_names-more i j functions g w m n next inside here same updates tells = λ name.
    btree_map_updates_str w m n (Some i) updates name
    ∙ (λ k. cond (bytes_eq (same k) name) (Some i) (tells name k))
    ∙ (λ k. cond (bytes_eq g.name name) (Some i) (place_from (next k) name (drop (next k) functions)))
    ∙ sym (ap (place_from i name) (drop-read functions i g inside here))

is_some-cond : (b : Bool) (f : ℕ) (o : Option ℕ) (c : Bool) → is_some o ≡ c → is_some (cond b (Some f) o) ≡ (b || c)
is_some-cond true f o c e = refl
is_some-cond false f o c e = e

-- a name has a place just where it is a function's
pub place_from_is_named : (f : ℕ) (name : List ℕ) (functions : List Function) → is_some (place_from f name functions) ≡ is_named name (names_of functions)
place_from_is_named f name [] = refl
place_from_is_named f name (g ∷ gs) = is_some-cond (bytes_eq g.name name) f (place_from (f + 1) name gs) _ (place_from_is_named (f + 1) name gs)
