use Rattle.std.proofs.Common.{◌≡◌, refl, false, true, is_some, sym, rules}
use Rattle.std.proofs.Math.Bool.{or-false}
use Rattle.std.specs.BTreeMap as maps
use Rattle.st_print.specs.declared.labels.Labels.{Labels}
use Rattle.st_line.specs.declared.source.Target.TheVariants.{Place}
use Rattle.st_print.specs.Numbering.{place_cmp}
use Rattle.st_print.proofs.Numbered.{labels-push, place-put, place-kept}
use Rattle.st_print.proofs.labels.Labels.add_place.Goals as goal

pub returns-then-not-contains_key : goal.returns-then-not-contains_key
returns-then-not-contains_key c =
    let none : is_some (maps.get place_cmp c.args.self.now.places (c.args.function, c.args.item)) ≡ false = search rules in
    let new : Labels = record { places = c.insert.new.self; offsets = c.args.self.now.offsets; count = c.in_ok-next.next; in_data = c.args.self.now.in_data } in
    labels-push c.args.self.now new (Place c.args.function c.args.item)
    (place-put c.args.self.now new c.args.function c.args.item none c.in_ok-insert.ensures.updates.0 (λ n. refl)) c.in_ok-next.ensures (sym (or-false c.args.self.now.in_data))

pub returns : goal.returns
returns c =
    let some : is_some (maps.get place_cmp c.args.self.now.places (c.args.function, c.args.item)) ≡ true = search rules in
    let new : Labels = record { places = c.args.self.now.places; offsets = c.args.self.now.offsets; count = c.in_ok-next.next; in_data = c.args.self.now.in_data } in
    labels-push c.args.self.now new (Place c.args.function c.args.item)
    (place-kept c.args.self.now new c.args.function c.args.item some (λ q. refl) (λ n. refl)) c.in_ok-next.ensures (sym (or-false c.args.self.now.in_data))
