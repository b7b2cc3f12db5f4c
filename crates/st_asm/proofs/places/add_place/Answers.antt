use Rattle.st_asm.proofs.LabelMaps.{tells_spots-more}
use Rattle.st_asm.proofs.places.add_place.Goals as goal

pub returns : goal.returns
returns c = λ ls tells. tells_spots-more c.args.places.now c.put.new.labels c.args.label.now ls c.in_ok-put.ensures tells
