use Rattle.std.proofs.Common.{◌≡◌, refl, false, true, is_some, sym, rules}
use Rattle.std.proofs.Math.Bool.{or-true}
use Rattle.std.specs.BTreeMap as maps
use Rattle.std.specs.Ordering.{nat_cmp}
use Rattle.st_print.specs.declared.labels.Labels.{Labels}
use Rattle.st_line.specs.declared.source.Target.TheVariants.{Data}
use Rattle.st_print.proofs.Numbered.{labels-push, offset-put, offset-kept}
use Rattle.st_print.proofs.labels.Labels.add_offset.Goals as goal

pub returns-then-not-contains_key : goal.returns-then-not-contains_key
returns-then-not-contains_key c =
    let none : is_some (maps.get nat_cmp c.args.self.now.offsets c.args.offset) ≡ false = search rules in
    let new : Labels = record { places = c.args.self.now.places; offsets = c.insert.new.self; count = c.in_ok-next.next; in_data = true } in
    labels-push c.args.self.now new (Data c.args.offset)
    (offset-put c.args.self.now new c.args.offset none (λ q. refl) c.in_ok-insert.ensures.updates.0) c.in_ok-next.ensures (sym (or-true c.args.self.now.in_data))

pub returns : goal.returns
returns c =
    let some : is_some (maps.get nat_cmp c.args.self.now.offsets c.args.offset) ≡ true = search rules in
    let new : Labels = record { places = c.args.self.now.places; offsets = c.args.self.now.offsets; count = c.in_ok-next.next; in_data = true } in
    labels-push c.args.self.now new (Data c.args.offset)
    (offset-kept c.args.self.now new c.args.offset some (λ q. refl) (λ n. refl)) c.in_ok-next.ensures (sym (or-true c.args.self.now.in_data))
