use Rattle.std.proofs.Common.{◌≡◌, ◌+◌, ◌++◌, ◌∷◌, [], ◌∙◌, Bool, List, ap, arith, drop, false, get_or, suc, subst, sym, take}
use Rattle.std.proofs.Math.Logic.{∥∥₁_elim}
use Rattle.std.proofs.Math.Seq.{take-suc}
use Rattle.std.proofs.lemmas.List.{take_all}
use Rattle.st_rv.specs.declared.ins.Ins.{Ins}
use Rattle.st_items.specs.Tables.{begins_of, instructions_of}
use Rattle.st_items.proofs.Decoding.{IsDecoded, with_decoded, with_marked, decodes, must_decode, all_decoded}
use Rattle.st_items.proofs.code.decoded.Goals as goal

pub unreachable-requires : goal.unreachable-requires
unreachable-requires c = ∥∥₁_elim c.requires.words (λ x y. absurd x) (λ has. must_decode _ _ c.args.words.now c.loop-at.at c.decode.result c.loop-at-test.true c.decode.ensures.only (c.loop-at.invariant.decoded has.0 has.1) c.in_default.is)

pub loop-at-preserved : goal.loop-at-preserved
loop-at-preserved c =
    let made = c.in_ok-push.ensures in
    let e = ap instructions_of made.items ∙ with_decoded c.loop-at.found.items c.of.result c.in-Some.instruction c.of.ensures.ins in
    let mark = get_or c.args.begins.now c.loop-at.at false in
    let inside = c.loop-at-test.true in
    let one : suc c.loop-at.at ≡ c.loop-at.at + 1 = omega arith in
    record {
      decoded = λ whole are. subst (λ (found : List Ins). IsDecoded found (drop (c.loop-at.at + 1) c.args.words.now) whole) (sym e) (decodes _ whole c.args.words.now c.loop-at.at c.decode.result c.in-Some.instruction c.loop-at-test.true c.decode.ensures.only c.in-Some.is (c.loop-at.invariant.decoded whole are));
      marked =
          ap begins_of made.items ∙ with_marked c.loop-at.found.items c.of.result mark c.of.ensures.begins
          ∙ ap (λ (bs : List Bool). bs ++ mark ∷ []) c.loop-at.invariant.marked
          ∙ sym (take-suc c.args.begins.now c.loop-at.at false (omega (arith, inside, c.requires.begins)))
          ∙ ap (λ n. take n c.args.begins.now) one;
    }

pub returns-clause-instructions : goal.returns-clause-instructions
returns-clause-instructions c whole are = all_decoded _ whole c.args.words.now c.loop-at.at c.loop-at-test.false (c.loop-at.invariant.decoded whole are)

pub returns-clause-begins : goal.returns-clause-begins
returns-clause-begins c = let far = c.loop-at-test.false in c.loop-at.invariant.marked ∙ take_all c.loop-at.at c.args.begins.now (omega (arith, far, c.requires.begins))
