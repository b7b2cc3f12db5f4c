use Rattle.std.proofs.Common.{◌≡◌, ◌∙◌, sym, rules, map, true, false}
use Rattle.std.specs.Prelude.{string_bytes}
use Rattle.clap.specs.Words.{app_of}
use Rattle.clap.specs.declared.error.kind.ErrorKind.TheVariants.{OutOfMemory}
use Rattle.st_jobs.proofs.FormLemmas.{items-some}
use Rattle.st_jobs.proofs.ClapWalk.{takes-items, finds-items}
use Rattle.st_jobs.proofs.options.parse.Goals as goal

pub returns-in-Ok-clause-ok : goal.returns-in-Ok-clause-ok
returns-in-Ok-clause-ok c =
    let names = map (λ s. s.now) c.args.names.now in
    let fits : c.fits.result ≡ true = search rules in
    let there = items-some names c.args.words.now c.fits.result c.fits.ensures fits in (
      there.0,
      there.1,
      finds-items (app_of c.in_ok-command.command) names (map string_bytes c.args.words.now) there.0 c.in-Ok.matches
          c.in_ok-command.ensures c.requires.known there.1 c.in-Ok.ensures.matches,
    )

pub returns-clause-usage : goal.returns-clause-usage
returns-clause-usage c e =
    let names = map (λ s. s.now) c.args.names.now in
    let fits : c.fits.result ≡ true = search rules in
    let there = items-some names c.args.words.now c.fits.result c.fits.ensures fits in
    let failed = c.in-Err.ensures.passes (takes-items (app_of c.in_ok-command.command) names (map string_bytes c.args.words.now) there.0
    c.in_ok-command.ensures c.requires.known there.1) in
    let kind : c.kind.result ≡ OutOfMemory = c.kind.ensures ∙ failed in
    let same : c.eq.result ≡ true = rw kind at c.eq.ensures in
    let differs : c.eq.result ≡ false = c.if-eq.false in
    let wrong : true ≡ false = sym same ∙ differs in
    cc
