-- Bits that travel along the edges of a graph. A set is a word for each node: the bit k of the word at i stands for "k is at node i".
-- Read IsEdge, Comes (a bit comes to a node along a single path) and IsSpread (each set has just the bits that come); the records
-- after them say what one step of the work changes.
use Rattle.std.specs.Prelude.{◌≡◌, ◌⊎◌, ◌↔◌, ℕ, ◌<◌, ◌≤◌, ◌+◌, option_to_list, List, [], ◌∷◌, length, Option, Some, slice_get, slice_index, slice_index_or, sum}
use Rattle.std.specs.List.{Contains}
use Rattle.std.specs.Int.{bit_at}
use Rattle.st_flow.specs.declared.graph.Node.{Node}

-- from j to i
abbrev pub IsEdge : List Node → ℕ → ℕ → Type 0
IsEdge nodes j i = (node : Node) × (slice_get nodes j ≡ Some node) × ((node.next ≡ Some i) ⊎ (node.to ≡ Some i))

-- edges lead to nodes
abbrev pub InRange : List Node → Type 0
InRange nodes = (j i : ℕ) → IsEdge nodes j i → i < length nodes

abbrev pub HasBit : List ℕ → ℕ → ℕ → Type 0
HasBit sets i k = bit_at (slice_index sets i) k ≡ 1

-- the bit k comes to i along a path, the last node before i first: it begins where the seeds have it, and each node on the way keeps it
abbrev pub Comes : List Node → List ℕ → List ℕ → ℕ → List ℕ → ℕ → Type 0
Comes nodes seeds keeps k [] i = HasBit seeds i k
Comes nodes seeds keeps k (j ∷ back) i = Comes nodes seeds keeps k back j × IsEdge nodes j i × HasBit keeps j k

abbrev pub Reaches : List Node → List ℕ → List ℕ → ℕ → ℕ → Type 0
Reaches nodes seeds keeps k i = (back : List ℕ) × Comes nodes seeds keeps k back i

-- each set has just the bits that come to its node
pub record IsSpread (nodes : List Node) (seeds keeps sets : List ℕ) : Type 0 where
  pub long : length sets ≡ length nodes
  pub exact : (i k : ℕ) → HasBit sets i k ↔ Reaches nodes seeds keeps k i

-- a path from node 0, the last before i first
abbrev pub Walks : List Node → List ℕ → ℕ → Type 0
Walks nodes [] i = i ≡ 0
Walks nodes (j ∷ back) i = Walks nodes back j × IsEdge nodes j i

abbrev pub IsWalked : List Node → ℕ → Type 0
IsWalked nodes i = (back : List ℕ) × Walks nodes back i

-- the bits of `carry` are added at a node, and `grown` is that node where it had not all of them
pub record IsMerged (to : Option ℕ) (carry : ℕ) (old new : List ℕ) (grown : Option ℕ) : Type 0 where
  pub long : length new ≡ length old
  pub grows : (j k : ℕ) → HasBit old j k → HasBit new j k
  pub comes : (j k : ℕ) → HasBit new j k → HasBit old j k ⊎ ((to ≡ Some j) × (bit_at carry k ≡ 1))
  pub has : (i k : ℕ) → to ≡ Some i → bit_at carry k ≡ 1 → HasBit new i k
  pub target : (i : ℕ) → grown ≡ Some i → to ≡ Some i
  pub same : (j : ℕ) → (grown ≡ Some j) ⊎ (slice_index new j ≡ slice_index old j)
  pub fits : (i d : ℕ) → i < length new → slice_index_or new i d < 18446744073709551616
  pub less : sum old + length (option_to_list grown) ≤ sum new

-- node j waits under its rank
abbrev pub Waits : List ℕ → List (ℕ × ℕ) → ℕ → Type 0
Waits ranks waiting j = Contains waiting (slice_index ranks j, j)

-- the bits of `carry` are added at a node, which then waits if it had not all of them
pub record IsAdded (ranks : List ℕ) (to : Option ℕ) (carry : ℕ) (old new : List ℕ) (waiting after : List (ℕ × ℕ)) : Type 0 where
  pub long : length new ≡ length old
  pub grows : (j k : ℕ) → HasBit old j k → HasBit new j k
  pub comes : (j k : ℕ) → HasBit new j k → HasBit old j k ⊎ ((to ≡ Some j) × (bit_at carry k ≡ 1))
  pub has : (i k : ℕ) → to ≡ Some i → bit_at carry k ≡ 1 → HasBit new i k
  pub stay : (q : ℕ × ℕ) → Contains waiting q → Contains after q
  pub within : (q : ℕ × ℕ) → Contains after q → Contains waiting q ⊎ (to ≡ Some q.1)
  pub same : (j : ℕ) → Waits ranks after j ⊎ (slice_index new j ≡ slice_index old j)
  pub fits : (i d : ℕ) → i < length new → slice_index_or new i d < 18446744073709551616
  pub less : sum old + length after ≤ sum new + length waiting

-- the nodes below n with a seed wait, and only nodes wait
pub record IsBegun (ranks seeds : List ℕ) (n : ℕ) (waiting : List (ℕ × ℕ)) : Type 0 where
  pub waits : (j : ℕ) → j < n → Waits ranks waiting j ⊎ (slice_index seeds j ≡ 0)
  pub within : (q : ℕ × ℕ) → Contains waiting q → q.1 < length seeds

-- a bit begins at a node: at the first, or after a node below n that is reached and puts it out
abbrev pub IsSeedBelow : List Node → List ℕ → List ℕ → ℕ → ℕ → ℕ → ℕ → Type 0
IsSeedBelow nodes reach puts first n i k =
    ((i ≡ 0) × (bit_at first k ≡ 1)) ⊎ ((j : ℕ) × (j < n) × HasBit reach j 0 × IsEdge nodes j i × HasBit puts j k)

abbrev pub IsSeed : List Node → List ℕ → List ℕ → ℕ → ℕ → ℕ → Type 0
IsSeed nodes reach puts first i k =
    ((i ≡ 0) × (bit_at first k ≡ 1)) ⊎ ((j : ℕ) × HasBit reach j 0 × IsEdge nodes j i × HasBit puts j k)
