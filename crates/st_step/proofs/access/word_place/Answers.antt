use Rattle.st_step.proofs.StackWords.{word_low, word_high}
use Rattle.st_step.proofs.access.word_place.Goals as goal

pub place_of-requires-clause-from : goal.place_of-requires-clause-from
place_of-requires-clause-from c = word_low c.args.address c.requires

pub place_of-requires-clause-to : goal.place_of-requires-clause-to
place_of-requires-clause-to c = word_high c.args.address c.requires
