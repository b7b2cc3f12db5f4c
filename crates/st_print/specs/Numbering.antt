-- What the tables of labels hold: which places operands name (is_held), the number of each place's label (number_of), and that the
-- tables number just these places (AreLabels).
use Rattle.std.specs.Prelude.{◌≡◌, ℕ, Bool, false, List, length, Option, None}
use Rattle.std.specs.declared.cmp.Ordering.{Ordering}
use Rattle.std.specs.Ordering.{nat_cmp, ordering_then}
use Rattle.std.specs.BTreeSet as sets
use Rattle.std.specs.BTreeMap as maps
use Rattle.st_line.specs.declared.source.Target.{Target}
use Rattle.st_line.specs.declared.source.Target.TheVariants as targets
use Rattle.st_print.specs.declared.spots.Named.{Named}
use Rattle.st_print.specs.declared.labels.Labels.{Labels}
use Rattle.st_print.specs.Spots.{spot_number}
use Rattle.st_print.specs.Canonical.{names_data}

-- the order of places: by function, then by item
abbrev pub place_cmp : ℕ × ℕ → ℕ × ℕ → Ordering
place_cmp p q = ordering_then (nat_cmp p.0 q.0) (nat_cmp p.1 q.1)

abbrev pub is_held : Named → Target → Bool
is_held named (targets.Place f i) = sets.contains place_cmp named.places (f, i)
is_held named (targets.Data offset) = sets.contains nat_cmp named.offsets offset
is_held named (targets.Name name) = false

abbrev pub number_of : Labels → Target → Option ℕ
number_of labels (targets.Place f i) = maps.get place_cmp labels.places (f, i)
number_of labels (targets.Data offset) = maps.get nat_cmp labels.offsets offset
number_of labels (targets.Name name) = None

-- the tables number these places in their order
pub record AreLabels (labels : Labels) (spots : List Target) : Type 0 where
  pub numbers : (spot : Target) → number_of labels spot ≡ spot_number spots spot
  pub count : labels.count ≡ length spots
  pub in_data : labels.in_data ≡ names_data spots
