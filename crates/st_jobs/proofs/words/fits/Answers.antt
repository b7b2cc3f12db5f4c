use Rattle.std.proofs.Common.{◌≡◌, ◌∙◌, ◌+◌, ap, sym, map, Some, false, drop}
use Rattle.std.specs.Prelude.{string_bytes}
use Rattle.std.specs.Option.{option_map_or}
use Rattle.st_jobs.specs.Words.{mark_of}
use Rattle.st_jobs.specs.Form.{next_waiting, fits}
use Rattle.st_jobs.proofs.FormLemmas.{fits-step}
use Rattle.st_jobs.proofs.words.fits.Goals as goal

pub loop-word-preserved : goal.loop-word-preserved
loop-word-preserved c =
    let names = map (λ s. s.now) c.args.names.now in
    let step = fits-step names c.args.words.now c.loop-word.word-index c.word-item.result c.loop-word.waiting c.loop-word-test.true c.word-item.is in
    let next : next_waiting (mark_of names (string_bytes c.word-item.result)) c.loop-word.waiting ≡ Some c.in-Some.next =
    ap (λ t. next_waiting (mark_of names t) c.loop-word.waiting) (sym c.as_str.ensures.value) ∙ sym c.next_waiting.ensures ∙ c.in-Some.is in
    sym (step ∙ ap (λ r. option_map_or (fits (map (mark_of names) (map string_bytes (drop (c.loop-word.word-index + 1) c.args.words.now)))) r false) next) ∙ c.loop-word.invariant
