-- The notes of threads, of which the last is the top thread's.
use Rattle.std.proofs.Common.{◌≡◌, ◌≢◌, ℕ, ◌-◌, ◌<◌, ◌≤◌, List, [], ◌∷◌, ◌++◌, length, length-append, take, Option, Some, None, sym, ◌∙◌, ap, arith}
use Rattle.std.proofs.Math.Seq.{take-append_seam}
use Rattle.st_base.specs.declared.chain.Note.{Note}
use Rattle.st_chain.specs.Logical.{IsPopped}
use Rattle.st_phases.specs.Automaton.{replaced}

-- what is left of the notes
pub left : (old new : List Note) (o : Option Note) → old ≢ [] → IsPopped old o new → new ≡ take (length old - 1) old
left old new None some popped = absurd (some popped.0)
left old new (Some last) some popped =
    let long = ap length popped ∙ length-append new (last ∷ []) in
    let count : length old - 1 ≡ length new = omega (arith, long) in
    sym (take-append_seam new (last ∷ [])) ∙ (λ i. take (sym count i) (sym popped i))

pub replaces : (old new : List Note) (o : Option Note) (note : Note) → old ≢ [] → IsPopped old o new → new ++ note ∷ [] ≡ replaced note old
replaces old new o note some popped = ap (λ (xs : List Note). xs ++ note ∷ []) (left old new o some popped)

pub popped_room : (old new : List Note) (o : Option Note) (room : ℕ) → old ≢ [] → IsPopped old o new → length old ≤ room → length new < room
popped_room old new None room some popped most = absurd (some popped.0)
popped_room old new (Some last) room some popped most = let long = ap length popped ∙ length-append new (last ∷ []) in omega (arith, long, most)
