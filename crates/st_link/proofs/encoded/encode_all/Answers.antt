-- At each function what is left begins with its words.
use Rattle.std.proofs.Common.{◌≡◌, ◌∙◌, ◌+◌, ◌*◌, ◌∷◌, [], length, drop, ap, sym, subst, arith}
use Rattle.std.proofs.Math.Logic.{∥∥₁_map}
use Rattle.std.proofs.lemmas.List.{append-nil, drop_all}
use Rattle.st_model.specs.Layout.{AreWords, code_start}
use Rattle.st_link.specs.Encoding.{words_in, joined, total, resolved_in, resolved_all, AllFit, AllCalled, Leaves}
use Rattle.st_link.proofs.Rest.{drop-next, added-many, fit-parts}
use Rattle.st_link.proofs.encoded.encode_all.Goals as goal

pub push_function-requires-clause-fits : goal.push_function-requires-clause-fits
push_function-requires-clause-fits c =
    let i = c.loop-function.function-index in
    let code = c.as_slice-code.result.now in
    let left = words_in (drop (i + 1) c.args.functions.now) in
    let next : words_in (drop i c.args.functions.now) ≡ code ∷ left =
    ap words_in (drop-next c.args.functions.now i c.function-item.result c.loop-function-test.true c.function-item.is) ∙ ap (λ ws. ws ∷ left) (sym c.as_slice-code.ensures) in
    ∥∥₁_map c.loop-function.invariant.fits (λ all.
    (fit-parts (resolved_in c.args.rows.now c.loop-function.address 0 code) _ (subst (λ wss. AllFit (resolved_all c.args.rows.now c.loop-function.address wss)) next all)).0)

pub loop-function-preserved : goal.loop-function-preserved
loop-function-preserved c =
    let inv = c.loop-function.invariant in
    let made = c.in_ok-push_function.ensures in
    let i = c.loop-function.function-index in
    let rows = c.args.rows.now in
    let address = c.loop-function.address in
    let code = c.as_slice-code.result.now in
    let left = words_in (drop (i + 1) c.args.functions.now) in
    let next : words_in (drop i c.args.functions.now) ≡ code ∷ left =
    ap words_in (drop-next c.args.functions.now i c.function-item.result c.loop-function-test.true c.function-item.is) ∙ ap (λ ws. ws ∷ left) (sym c.as_slice-code.ensures) in
    record {
      fits = ∥∥₁_map inv.fits (λ all. (fit-parts (resolved_in rows address 0 code) _ (subst (λ wss. AllFit (resolved_all rows address wss)) next all)).1);
      calls = (subst (AllCalled (length rows)) next inv.calls).1;
      small = let long = ap total next in omega (arith, long, inv.small);
      words =
          let whole = resolved_all rows code_start (words_in c.args.functions.now) in
          made.words whole (resolved_all rows (address + 4 * length code) left)
          (subst (λ wss. Leaves whole (resolved_all rows address wss) c.loop-function.encoded.words.items) next inv.words);
      lines = added-many (λ x. x.line) c.loop-function.encoded.lines.items c.push_function.new.self.lines.items _ code (joined left) _ made.lines (ap joined next) inv.lines;
      begins = added-many (λ x. x.begins) c.loop-function.encoded.begins.items c.push_function.new.self.begins.items _ code (joined left) _ made.begins (ap joined next) inv.begins;
    }

pub returns-clause-words : goal.returns-clause-words
returns-clause-words c =
    let i = c.loop-function.function-index in
    let whole = resolved_all c.args.rows.now code_start (words_in c.args.functions.now) in
    let words = c.loop-function.encoded.words.items in
    let none : drop i c.args.functions.now ≡ [] = drop_all i c.args.functions.now (omega (arith, c.loop-function-test.false)) in
    let leaves = subst (λ fs. Leaves whole (resolved_all c.args.rows.now c.loop-function.address (words_in fs)) words) none c.loop-function.invariant.words in
    subst (AreWords whole) (append-nil words) (leaves [] tt)
