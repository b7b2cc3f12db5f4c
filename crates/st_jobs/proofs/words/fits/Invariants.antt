use Rattle.std.proofs.Common.{◌≡◌, drop, map, false}
use Rattle.std.specs.Prelude.{string_bytes}
use Rattle.st_jobs.specs.Words.{mark_of}
use Rattle.st_jobs.specs.Form.{fits}
use Rattle.st_jobs.proofs.words.fits.Given as goal

abbrev pub invariant-loop-word : goal.invariant-loop-word
invariant-loop-word l =
    fits (map (mark_of (map (λ s. s.now) l.names)) (map string_bytes (drop l.word-index l.words))) l.waiting
    ≡ fits (map (mark_of (map (λ s. s.now) l.names)) (map string_bytes l.words)) false
