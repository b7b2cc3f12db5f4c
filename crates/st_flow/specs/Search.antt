-- Paths along which one bit comes, found by a search. Read IsTrail: a path without a repeat; the rest says what the search keeps.
use Rattle.std.specs.Prelude.{◌≡◌, ◌≢◌, Bool, true, false, not, ℕ, ◌<◌, List, [], ◌∷◌, ◌++◌, length, Option, Some, None, slice_get, slice_index_or, slice_set}
use Rattle.std.specs.List.{Contains, count_by}
use Rattle.st_flow.specs.declared.graph.Node.{Node}
use Rattle.st_flow.specs.declared.search.Found.{Found}
use Rattle.st_flow.specs.Graph.{IsEdge, HasBit, Comes, Reaches}

-- no element twice
abbrev pub HasNoRepeat : List ℕ → Type 0
HasNoRepeat [] = Unit {0}
HasNoRepeat (x ∷ xs) = (Contains xs x → ⊥) × HasNoRepeat xs

-- a path along which the bit comes, the target first, with no node twice
abbrev pub IsTrail : List Node → List ℕ → List ℕ → ℕ → ℕ → List ℕ → Type 0
IsTrail nodes seeds keeps k target path =
    (back : List ℕ) × (path ≡ target ∷ back) × Comes nodes seeds keeps k back target × HasNoRepeat path

-- why a node was found: a seed, or an earlier one that keeps the bit
abbrev pub Parent : List Node → List ℕ → List ℕ → ℕ → List Found → ℕ → Option ℕ → ℕ → Type 0
Parent nodes seeds keeps k found q None i = HasBit seeds i k
Parent nodes seeds keeps k found q (Some r) i =
    (g : Found) × (r < q) × (slice_get found r ≡ Some g) × IsEdge nodes g.node i × HasBit keeps g.node k

abbrev pub HasSeen : List Bool → ℕ → Type 0
HasSeen seen i = slice_index_or seen i false ≡ true

abbrev pub IsFound : List Found → ℕ → Type 0
IsFound found i = (q : ℕ) × ((f : Found) × (slice_get found q ≡ Some f) × (f.node ≡ i))

-- the nodes found so far, each once, in the order in which they were found
pub record Searches (nodes : List Node) (seeds keeps : List ℕ) (k : ℕ) (found : List Found) (seen : List Bool) : Type 0 where
  pub long : length seen ≡ length nodes
  pub placed : (i : ℕ) → HasSeen seen i → IsFound found i
  pub marked : (q : ℕ) (f : Found) → slice_get found q ≡ Some f → HasSeen seen f.node × (f.node < length nodes)
  pub apart : (q r : ℕ) (f g : Found) → q < r → slice_get found q ≡ Some f → slice_get found r ≡ Some g → f.node ≢ g.node
  pub parents : (q : ℕ) (f : Found) → slice_get found q ≡ Some f → Parent nodes seeds keeps k found q f.from f.node

abbrev pub unseen : List Bool → ℕ
unseen seen = count_by not seen

-- a node that was seen before is left; another is marked, and found at the end
abbrev pub VisitsAs : Bool → Option ℕ → ℕ → List Found → List Found → List Bool → List Bool → Type 0
VisitsAs true from i old new before after = (new ≡ old) × (after ≡ before)
VisitsAs false from i old new before after = (new ≡ old ++ record { node = i; from = from } ∷ []) × (after ≡ slice_set before i true)

abbrev pub Visits : Option ℕ → Option ℕ → List Found → List Found → List Bool → List Bool → Type 0
Visits from None old new before after = (new ≡ old) × (after ≡ before)
Visits from (Some i) old new before after = VisitsAs (slice_index_or before i false) from i old new before after

-- the search has ended
pub record IsSearched (nodes : List Node) (seeds keeps : List ℕ) (k : ℕ) (found : List Found) : Type 0 where
  pub apart : (q r : ℕ) (f g : Found) → q < r → slice_get found q ≡ Some f → slice_get found r ≡ Some g → f.node ≢ g.node
  pub parents : (q : ℕ) (f : Found) → slice_get found q ≡ Some f → Parent nodes seeds keeps k found q f.from f.node
  pub complete : (i : ℕ) → Reaches nodes seeds keeps k i → IsFound found i

-- nodes are found from ones that stand before them
abbrev pub LinksBack : List Found → Type 0
LinksBack found = (q r : ℕ) (f : Found) → slice_get found q ≡ Some f → f.from ≡ Some r → r < q

-- the nodes from the one at a place back to a seed
abbrev pub IsTrace : List Found → Option ℕ → List ℕ → Type 0
IsTrace found None path = path ≡ []
IsTrace found (Some at) [] = ⊥
IsTrace found (Some at) (x ∷ path) = (f : Found) × (slice_get found at ≡ Some f) × (f.node ≡ x) × IsTrace found f.from path
