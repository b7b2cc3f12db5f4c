use Rattle.std.proofs.Common.{◌≡◌, ◌∙◌, ◌+◌, sym, ap, drop, length, arith, Err, Vec, Global}
use Rattle.st_check.specs.declared.body.Placed.{Placed}
use Rattle.std.specs.Prelude.{neg_ℤ}
use Rattle.st_check.specs.Shape.{body_of, epilogue_form}
use Rattle.st_check.specs.Views.{tests_of, groups_view, lines_more}
use Rattle.st_check.proofs.Bodies.{with_groups, body_of-skips, body_of-begins, body-goes_on}
use Rattle.st_check.proofs.body.body_of.Goals as goal
use Rattle.st_check.proofs.body.body_of.Goals.{then-skip-gt0, else-skip-gt0+in-Ok+in_ok-push-in-Ok}

pub returns-in-Err : goal.returns-in-Err
returns-in-Err c =
    let none : c.loop-at.skip ≡ 0 = omega arith in
    let same : tests_of (neg_ℤ c.args.first.now.imm) c.deref.result.now ≡ epilogue_form (neg_ℤ c.args.first.now.imm) c.args.saved.now = ap (tests_of (neg_ℤ c.args.first.now.imm)) c.deref.ensures.value ∙ c.in_ok-form.ensures in
    sym (c.loop-at.invariant
    ∙ (λ j. with_groups (groups_view c.loop-at.groups.items) (body_of (neg_ℤ c.args.first.now.imm) c.args.saved.now c.loop-at.at (none j) (drop c.loop-at.at c.args.items.now)))
    ∙ ap (with_groups (groups_view c.loop-at.groups.items)) (body_of-begins (neg_ℤ c.args.first.now.imm) c.args.saved.now c.loop-at.at c.args.items.now c.deref.result.now c.index-items-at.result (Err c.in-Err.line) (omega arith) c.index-items-at.is same c.in-Err.ensures))

pub loop-at-preserved : goal.loop-at-preserved
loop-at-preserved c =
    elim c.if-skip-gt0.branch [
      | then-skip-gt0 w ↦
          (c.loop-at.invariant
          ∙ ap (with_groups (groups_view c.loop-at.groups.items)) (body_of-skips (neg_ℤ c.args.first.now.imm) c.args.saved.now c.loop-at.at c.loop-at.skip c.args.items.now (omega arith) (omega arith))
          ∙ (λ j. with_groups (groups_view (sym w.groups-is j).items) (body_of (neg_ℤ c.args.first.now.imm) c.args.saved.now (c.loop-at.at + 1) (sym w.skip-is j) (drop (c.loop-at.at + 1) c.args.items.now))))
      | else-skip-gt0+in-Ok+in_ok-push-in-Ok w ↦
          (let none : c.loop-at.skip ≡ 0 = omega arith in
          let same : tests_of (neg_ℤ c.args.first.now.imm) w.deref.result.now ≡ epilogue_form (neg_ℤ c.args.first.now.imm) c.args.saved.now = ap (tests_of (neg_ℤ c.args.first.now.imm)) w.deref.ensures.value ∙ c.in_ok-form.ensures in
          let long : w.len.result ≡ length w.deref.result.now = w.len.ensures ∙ sym w.deref.ensures.len in
          c.loop-at.invariant
          ∙ (λ j. with_groups (groups_view c.loop-at.groups.items) (body_of (neg_ℤ c.args.first.now.imm) c.args.saved.now c.loop-at.at (none j) (drop c.loop-at.at c.args.items.now)))
          ∙ body-goes_on (neg_ℤ c.args.first.now.imm) c.args.saved.now c.loop-at.at c.if-skip-gt0.skip c.args.items.now w.deref.result.now w.index-items-at.result w.in-Ok.group c.loop-at.groups.items c.if-skip-gt0.groups.items (omega arith) w.index-items-at.is same w.in-Ok.ensures
          (w.skip-is ∙ w.lines_more-skip.ensures ∙ (λ j. lines_more (long j) w.in-Ok.group)) (ap (λ (v : Vec Placed Global). v.items) w.groups-is ∙ w.in_ok-push-in-Ok.ensures.items))
    ]
