use Rattle.std.proofs.Common.{◌≡◌, ◌+◌, ◌*◌, ◌++◌, List, length, map, drop}
use Rattle.st_rv.specs.declared.ins.Ins.{Ins}
use Rattle.st_link.specs.Encoding.{resolved_in, AllFit, AreCalled, Leaves}
use Rattle.st_link.proofs.encoded.Encoded.push_function.Given as goal

abbrev pub invariant-loop-at : goal.invariant-loop-at
invariant-loop-at l = record {
  place : l.address ≡ l.fn.from + 4 * l.at;
  fits : ∥ AllFit (resolved_in l.rows l.address l.at (drop l.at l.code)) ∥₁;
  calls : AreCalled (length l.rows) (drop l.at l.code);
  words : (whole rest : List Ins) → Leaves whole (resolved_in l.rows l.fn.from 0 l.code ++ rest) l.fn.self.words.items → Leaves whole (resolved_in l.rows l.address l.at (drop l.at l.code) ++ rest) l.self.words.items;
  lines : l.self.lines.items ++ map (λ w. w.line) (drop l.at l.code) ≡ l.fn.self.lines.items ++ map (λ w. w.line) l.code;
  begins : l.self.begins.items ++ map (λ w. w.begins) (drop l.at l.code) ≡ l.fn.self.begins.items ++ map (λ w. w.begins) l.code;
}
