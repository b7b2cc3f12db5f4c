use Rattle.std.proofs.Common.{refl}
use Rattle.st_print.proofs.Numbered.{held-place}
use Rattle.st_print.proofs.spots.Named.add.Goals as goal

pub returns-in_ok-insert-in-Place : goal.returns-in_ok-insert-in-Place
returns-in_ok-insert-in-Place c =
    held-place c.args.self.now (record { places = c.insert.new.self; offsets = c.args.self.now.offsets }) _ _ _ c.in-Place.is c.in_ok-insert-in-Place.ensures.updates.0 (λ n. refl)
