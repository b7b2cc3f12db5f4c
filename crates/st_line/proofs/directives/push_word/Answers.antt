use Rattle.std.proofs.Common.{ℕ, ◌≡◌, ◌∙◌, ◌-◌, ◌/◌, ◌%◌, List, [], ◌∷◌, ◌++◌, ap, sym, append_assoc, arith, ◌<◌}
use Rattle.st_line.specs.Statement.{little_endian}
use Rattle.st_line.proofs.Numbers.{little_endian_more}
use Rattle.st_line.proofs.directives.push_word.Goals as goal

pub loop-left-preserved : goal.loop-left-preserved
loop-left-preserved c =
    let now = c.loop-left.bytes.items in
    let low : List ℕ = c.loop-left.rest % 256 ∷ [] in
    let more : c.push.new.self.items ≡ now ++ low = c.in_ok-push.ensures.items in
    let left : 0 < c.loop-left.left = omega arith in
    let next = little_endian (c.loop-left.left - 1) (c.loop-left.rest / 256) in
    ap (λ bs. bs ++ next) more ∙ append_assoc now low next ∙ ap (λ bs. now ++ bs) (sym (little_endian_more c.loop-left.left c.loop-left.rest left)) ∙ c.loop-left.invariant
