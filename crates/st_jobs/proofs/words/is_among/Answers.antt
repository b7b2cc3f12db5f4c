use Rattle.std.proofs.Common.{◌∙◌, ◌+◌, ap, sym, Bool, true, map, drop}
use Rattle.std.specs.Prelude.{if◌then◌else◌}
use Rattle.st_jobs.specs.Words.{is_among}
use Rattle.st_jobs.proofs.FormLemmas.{is_among-step}
use Rattle.st_jobs.proofs.words.is_among.Goals as goal

pub loop-known-preserved : goal.loop-known-preserved
loop-known-preserved c =
    let step = is_among-step c.args.names.now c.args.name.now c.loop-known.known-index _ c.eq.result c.loop-known-test.true c.eq.ensures in
    let later = is_among (map (λ s. s.now) (drop (c.loop-known.known-index + 1) c.args.names.now)) c.args.name.now in
    sym (step ∙ ap (λ (same : Bool). if same then true else later) c.if-eq.false) ∙ c.loop-known.invariant
