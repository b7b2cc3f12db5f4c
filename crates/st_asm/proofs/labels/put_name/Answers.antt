use Rattle.std.proofs.Common.{◌≡◌, ◌∙◌, sym, Some, None}
use Rattle.std.proofs.lemmas.Map.Text.{btree_map_updates_str}
use Rattle.st_asm.specs.Reading.{named}
use Rattle.st_asm.proofs.LabelMaps.{named_put, none_from_test}
use Rattle.st_asm.proofs.labels.put_name.Goals as goal

pub returns-in_ok-insert : goal.returns-in_ok-insert
returns-in_ok-insert g c = λ q.
    let absent : named c.args.name.now c.args.names.now ≡ None = none_from_test _ (sym c.contains_key.ensures ∙ c.if-not-contains_key.true) in
    btree_map_updates_str c.args.name.now c.args.names.now c.insert.new.self (Some c.args.value) c.in_ok-insert.ensures.updates q
    ∙ named_put (λ n. named n c.args.names.now) c.args.name.now q c.args.value absent
