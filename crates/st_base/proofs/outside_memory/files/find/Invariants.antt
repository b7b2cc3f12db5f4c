use Rattle.std.proofs.Common.{◌≡◌, map, drop}
use Rattle.st_base.specs.OutsideMemory.{name_and_bytes, file_named}
use Rattle.st_base.proofs.outside_memory.files.find.Given as goal

abbrev pub invariant-loop-file_name : goal.invariant-loop-file_name
invariant-loop-file_name l =
    file_named (map name_and_bytes (drop l.file_name-index l.files)) l.name ≡ file_named (map name_and_bytes l.files) l.name
