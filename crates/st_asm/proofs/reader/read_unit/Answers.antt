use Rattle.std.proofs.Common.{map}
use Rattle.std.proofs.lemmas.List.{length-map}
use Rattle.st_asm.proofs.FaultFiles.{has_file-from_unit}
use Rattle.st_asm.proofs.reader.read_unit.Goals as goal

pub returns-clause-file : goal.returns-clause-file
returns-clause-file c = has_file-from_unit c.read_texts.result (map (λ t. t.items) c.args.texts.now) _ (length-map c.args.texts.now (λ t. t.items)) c.read_texts.ensures
