-- What the phases of waiters in hand do to a worker.
use Rattle.std.specs.Prelude.{◌≢◌, ℕ, ◌+◌, ◌-◌, ◌==◌, ◌<◌, nat_le, Bool, true, [], ◌∷◌, ◌++◌, Option, Some, None, if◌then◌else◌}
use Rattle.st_base.specs.declared.chain.Chain.{Chain}
use Rattle.st_base.specs.declared.chain.Waiting.{Waiting}
use Rattle.st_base.specs.declared.chain.Waiting.TheVariants as waits
use Rattle.st_words.specs.declared.view.Cargo.{Cargo}
use Rattle.st_words.specs.Encodings.{full_word, count_in, counter_word}
use Rattle.st_words.specs.Steps.{Answer, Took}
use Rattle.st_phases.specs.declared.automaton.Automaton.{Automaton}
use Rattle.st_phases.specs.declared.phase.Rest.{Rest}
use Rattle.st_phases.specs.declared.phase.Settling.{Settling}
use Rattle.st_phases.specs.declared.phase.Phase.TheVariants as phases
use Rattle.st_phases.specs.Automaton.{with_phase, with_ready, wakes, went_on}

-- whether the wait is over, as a State word shows it
abbrev pub is_over : Waiting → ℕ → Bool
is_over (waits.Touch cell) seen = seen == full_word
is_over (waits.Join cell least) seen = nat_le least (count_in seen)
is_over _ seen = true

-- the slot that is taken isn't found empty
abbrev pub NeverEmpty : (Answer → Type 0) → Type 0
NeverEmpty says = (cargo : Cargo) → says (Took None cargo) → ⊥

-- the next waiter of a list, behind which there is another, as `found` tells
abbrev pub followed : Rest → ℕ → Automaton → Automaton
followed rest found x = with_phase (phases.Raising (rest.next - 1) (record rest { next = found })) x

-- one that waited for a future is ready; the chain of one that waits at a counter is looked at
abbrev pub raised : ℕ → Rest → Automaton → Automaton
raised waiter rest x =
    with_phase (if rest.counter then phases.Peeking waiter rest else phases.Readying (record { waiter = waiter; wait = waits.Touch rest.cell; seen = rest.word; rest = Some rest })) x

-- by the State word that was seen last it is made ready or parked
abbrev pub settled : Settling → Automaton → Automaton
settled settling x = with_phase (if is_over settling.wait settling.seen then phases.Readying settling else phases.Linking settling) x

-- what a counter's waiter waits for is known: the Owner of that cell and its State are read before it is settled
abbrev pub returned : Chain → Rest → Automaton → Automaton
returned chain rest x = with_phase (phases.Owning (record { waiter = chain.cell; wait = chain.wait; seen = rest.word; rest = Some rest })) x

-- the next one of the list, or what follows the call
abbrev pub behind : Option Rest → Automaton → Automaton
behind None x = went_on x
behind (Some rest) x = wakes rest x

abbrev pub readied : Settling → Automaton → Automaton
readied settling x = behind settling.rest (with_ready (x.ready.numbers ++ settling.waiter ∷ []) x)

-- ---- parking

abbrev pub cell_of : Waiting → ℕ
cell_of (waits.Touch cell) = cell
cell_of (waits.Join cell least) = cell
cell_of _ = 0

-- it waits at a future, or for a count that isn't reached
abbrev pub MayPark : Waiting → ℕ → Type 0
MayPark (waits.Touch cell) seen = seen ≢ full_word
MayPark (waits.Join cell least) seen = count_in seen < least
MayPark _ seen = ⊥

-- the State word with the waiter at its head
abbrev pub parked_word : Waiting → ℕ → ℕ → ℕ
parked_word (waits.Join cell least) waiter seen = counter_word (count_in seen) (waiter + 1)
parked_word _ waiter seen = waiter + 1

abbrev pub parked : Settling → ℕ → Automaton → Automaton
parked settling found x = if found == settling.seen then with_phase (phases.Lowering settling.rest) x else settled (record settling { seen = found }) x
