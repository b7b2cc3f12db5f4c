use Rattle.std.proofs.Common.{refl}
use Rattle.st_rv.proofs.Apart.{apart_left, left_apart, none_apart}
use Rattle.st_rv.proofs.rows.are_apart.Goals as goal

pub returns-then-not-is_apart_from : goal.returns-then-not-is_apart_from
returns-then-not-is_apart_from c = (
  λ h. cc,
  λ h.
      let left = apart_left c.in-Some.row.now c.in-Some.rest.now c.loop-row.left.now c.in-Some.ensures.cases.0 (c.loop-row.invariant.left h) in
      c.if-not-is_apart_from.ensures.1 left.0,
)

pub loop-row-preserved : goal.loop-row-preserved
loop-row-preserved c = record {
  apart = λ h. c.loop-row.invariant.apart (left_apart c.in-Some.row.now c.in-Some.rest.now c.loop-row.left.now c.in-Some.ensures.cases.0 (c.if-not-is_apart_from.ensures.0 refl) h);
  left = λ h. (apart_left c.in-Some.row.now c.in-Some.rest.now c.loop-row.left.now c.in-Some.ensures.cases.0 (c.loop-row.invariant.left h)).1;
}

pub returns : goal.returns
returns c = (λ h. c.loop-row.invariant.apart (none_apart c.loop-row.left.now c.in_default.ensures.cases), λ h. refl)
