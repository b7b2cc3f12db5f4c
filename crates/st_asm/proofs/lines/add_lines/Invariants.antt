use Rattle.std.proofs.Common.{◌≡◌, ◌≤◌, ◌+◌, ◌++◌, option_map, length}
use Rattle.st_asm.specs.Labels.{numbered, lines_of}
use Rattle.st_asm.specs.Reading.{located_views, lines_in, length_in}
use Rattle.st_asm.proofs.lines.add_lines.Given as goal

abbrev pub invariant-loop-rest : goal.invariant-loop-rest
invariant-loop-rest l = record {
  rest : located_views l.found.items ++ numbered l.file l.line (lines_in (option_map (λ r. r.now) l.rest)) ≡ located_views l.fn.found.items ++ numbered l.file 1 (lines_of l.fn.text);
  bound : l.line + length_in (option_map (λ r. r.now) l.rest) ≤ length l.fn.text + 2;
}

abbrev pub decreases-loop-rest : goal.decreases-loop-rest
decreases-loop-rest l = length_in (option_map (λ r. r.now) l.rest)
