use Rattle.std.proofs.Common.{◌≡◌, List, drop, take}
use Rattle.st_rv.specs.declared.ins.Ins.{Ins}
use Rattle.st_model.specs.Layout.{AreWords}
use Rattle.st_items.specs.Tables.{begins_of, instructions_of}
use Rattle.st_items.proofs.Decoding.{IsDecoded}
use Rattle.st_items.proofs.code.decoded.Given as goal

abbrev pub invariant-loop-at : goal.invariant-loop-at
invariant-loop-at l = record {
  decoded : (whole : List Ins) → AreWords whole l.words → IsDecoded (instructions_of l.found.items) (drop l.at l.words) whole;
  marked : begins_of l.found.items ≡ take l.at l.begins;
}
