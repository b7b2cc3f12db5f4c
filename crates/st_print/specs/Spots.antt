-- The places of a unit that its operands name (spots_of), in the order of the text: each gets a label `.Lk`, whose number is its place
-- among them (spot_number).
use Rattle.std.specs.Prelude.{ℕ, ◌+◌, Bool, false, ◌&&◌, ◌||◌, ◌==◌, List, [], ◌∷◌, ◌++◌, filter, Option, Some, None, if◌then◌else◌}
use Rattle.st_line.specs.declared.source.Target.{Target}
use Rattle.st_line.specs.declared.source.Target.TheVariants as targets
use Rattle.st_line.specs.declared.source.SourceIns.{SourceIns}
use Rattle.st_line.specs.declared.source.SourceIns.TheVariants as source
use Rattle.st_asm.specs.declared.unit.SourceLine.{SourceLine}
use Rattle.st_asm.specs.declared.unit.Function.{Function}

-- two targets are the same place; a name is none
abbrev pub is_spot : Target → Target → Bool
is_spot (targets.Place f i) (targets.Place g j) = (f == g) && (i == j)
is_spot (targets.Data m) (targets.Data n) = m == n
is_spot _ _ = false

-- what an instruction's operand names
abbrev pub target_named : SourceIns → Option Target
target_named (source.La rd to) = Some to
target_named (source.Branch op rs1 rs2 to) = Some to
target_named (source.Jump to) = Some to
target_named _ = None

abbrev pub is_target : Target → Option Target → Bool
is_target spot None = false
is_target spot (Some to) = is_spot spot to

abbrev pub is_named_in : List SourceLine → Target → Bool
is_named_in [] spot = false
is_named_in (item ∷ items) spot = is_target spot (target_named item.ins) || is_named_in items spot

-- an operand of these functions names the place
abbrev pub is_named : List Function → Target → Bool
is_named [] spot = false
is_named (f ∷ fs) spot = is_named_in f.items spot || is_named fs spot

-- the places of a function's items from one on, its end the last
abbrev pub item_places : ℕ → ℕ → List SourceLine → List Target
item_places f i [] = targets.Place f i ∷ []
item_places f i (item ∷ items) = targets.Place f i ∷ item_places f (i + 1) items

abbrev pub function_places : ℕ → List Function → List Target
function_places f [] = []
function_places f (g ∷ gs) = item_places f 0 g.items ++ function_places (f + 1) gs

-- the offsets of the data from one on, its end the last
abbrev pub data_places : ℕ → List ℕ → List Target
data_places at [] = targets.Data at ∷ []
data_places at (b ∷ bs) = targets.Data at ∷ data_places (at + 1) bs

-- all places in the order of the text
abbrev pub places_of : List Function → List ℕ → List Target
places_of functions rodata = function_places 0 functions ++ data_places 0 rodata

-- those that are named
abbrev pub spots_of : List Function → List ℕ → List Target
spots_of functions rodata = filter (λ spot. is_named functions spot) (places_of functions rodata)

-- the number of a place among spots, counted on from this number
abbrev pub number_from : ℕ → Target → List Target → Option ℕ
number_from k spot [] = None
number_from k spot (s ∷ ss) = if is_spot spot s then Some k else number_from (k + 1) spot ss

abbrev pub spot_number : List Target → Target → Option ℕ
spot_number spots spot = number_from 0 spot spots
