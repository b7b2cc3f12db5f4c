-- The note of the top thread, which is the last one: top_is, some_is, popped_is, replaced_is, and top_polls (a worker with a thread polls).
use Rattle.std.proofs.Common.{◌≡◌, ◌≢◌, ℕ, ◌+◌, ◌-◌, List, [], ◌∷◌, ◌++◌, Some, length, length-append, take, refl, sym, ap, ◌∙◌, arith}
use Rattle.std.specs.Prelude.{slice_index_or}
use Rattle.std.proofs.Math.Seq.{get_or-append_seam}
use Rattle.st_base.specs.declared.chain.Note.{Note}
use Rattle.st_phases.specs.declared.phase.Phase.TheVariants as phases
use Rattle.st_phases.specs.Automaton.{no_note, top, replaced, unit_or_poll}
use Rattle.st_phases.proofs.Notes.{left, replaces}

module _ (ns ms : List Note) (n : Note) (is : ns ≡ ms ++ n ∷ []) where
  long : length ns ≡ length ms + 1
  long = ap length is ∙ length-append ms (n ∷ [])

  pub top_is : top ns ≡ n
  top_is =
      let size = long in
      let at : length ns - 1 ≡ length ms = omega (arith, size) in
      ap (λ (k : ℕ). slice_index_or ns k no_note) at ∙ ap (λ (l : List Note). slice_index_or l (length ms) no_note) is ∙ get_or-append_seam ms n [] no_note

  pub some_is : ns ≢ []
  some_is none =
      let size = long in
      let empty : length ns ≡ 0 = ap length none in
      omega (arith, size, empty)

  pub popped_is : take (length ns - 1) ns ≡ ms
  popped_is = sym (left ns ms (Some n) some_is is)

  pub replaced_is : (note : Note) → replaced note ns ≡ ms ++ note ∷ []
  replaced_is note = sym (replaces ns ms (Some n) note some_is is)

  pub top_polls : unit_or_poll ns ≡ phases.Polling
  top_polls = by ns some_is
    where
      by : (l : List Note) → l ≢ [] → unit_or_poll l ≡ phases.Polling
      by [] some = absurd (some refl)
      by (k ∷ ks) some = refl
