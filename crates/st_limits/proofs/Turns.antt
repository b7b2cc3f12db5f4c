-- Lists of threads and of chains: turn_case (a thread of the turn is of a chain of the cell, or stays where those chains go out), and top_above (the top thread, where the bottom one goes
-- out).
use Rattle.std.proofs.Common.{◌≡◌, ◌≢◌, ◌⊎◌, inl, inr, ℕ, not, ◌==◌, List, [], ◌∷◌, ◌++◌, refl, subst}
use Rattle.std.specs.List.{Contains}
use mathlib.Core.Logic.{dite}
use native.Mathlib.Decide.{ℕ_discrete}
use Rattle.st_words.specs.declared.view.Known.{Known}
use Rattle.st_words.specs.declared.view.Carried.{Carried}
use Rattle.st_words.specs.Careful.{TopIs}
use Rattle.st_words.specs.Views.{without_chain}
use Rattle.st_words.proofs.Lists.{filter_in, other_true}
use Rattle.st_made.specs.Runs.{known_of}
use Rattle.st_threads.proofs.Lists.{known_case, known_in}

pub turn_case : (c : ℕ) (xs : List Carried) (t : Known) → Contains (known_of xs) t → ((y : Carried) × Contains xs y × (y.known ≡ t) × (y.known.note.cell ≡ c)) ⊎ Contains (known_of (without_chain c xs)) t
turn_case c xs t m =
    let y = known_case xs t m in
    dite (ℕ_discrete y.0.known.note.cell c)
    (λ (e : y.0.known.note.cell ≡ c). inl (y.0, y.1, y.2, e))
    (λ (n : y.0.known.note.cell ≢ c).
    let in_left : Contains (without_chain c xs) y.0 = filter_in (λ (x : Carried). not (x.known.note.cell == c)) xs y.0 y.1 (other_true y.0.known.note.cell c n) in
    inr (subst (λ (k : Known). Contains (known_of (without_chain c xs)) k) y.2 (known_in (without_chain c xs) y.0 in_left)))

pub top_above : (P : Known → Type 0) (above below : List Known) → above ≢ [] → TopIs (above ++ below) P → TopIs above P
top_above P [] below some is = absurd (some refl)
top_above P (t ∷ ts) below some is = is
