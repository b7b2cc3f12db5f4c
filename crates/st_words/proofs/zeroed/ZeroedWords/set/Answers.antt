use Rattle.std.proofs.Common.{◌≡◌, ◌<◌, ◌≤◌, ◌++◌, ◌∷◌, [], sym, ap, ◌∙◌, arith, length, slice_set}
use Rattle.st_words.proofs.ZeroedLists.{zeroed, zeroed_length, stored_behind}
use Rattle.st_words.proofs.zeroed.ZeroedWords.set.Goals as goal

pub returns-else-at-len : goal.returns-else-at-len
returns-else-at-len c =
    let words : c.put.new.words.items ≡ zeroed c.self.inside.words.items c.args.at ++ c.args.value ∷ [] = c.put.ensures.items ∙ ap (λ words. words ++ c.args.value ∷ []) c.fill.ensures.items in
    let long : length c.args.self.now ≡ c.self.inside.count = ap length (sym c.self.view_is) ∙ zeroed_length c.self.inside.words.items c.self.inside.count c.self.invariant.1 in
    let within : c.args.at < c.self.inside.count = omega arith in
    let behind : length c.self.inside.words.items ≤ c.args.at = omega arith in
    ap (λ words. zeroed words c.self.inside.count) words ∙ stored_behind c.self.inside.words.items c.self.inside.count c.args.at c.args.value behind within ∙ ap (λ words. slice_set words c.args.at c.args.value) c.self.view_is
