use Rattle.std.proofs.Common.{◌≡◌, ◌≤◌, ◌∙◌, ap, length, sym, subst}
use Rattle.st_model.specs.Layout.{code_start}
use Rattle.st_print.specs.declared.fault.Fault.TheVariants as faults
use Rattle.st_main.specs.Answer.{IsLinkFault}
use Rattle.st_main.specs.Listing.{listing_by, words_count}
use Rattle.st_main.specs.Making.{IsNamed, MemoryOr}
use Rattle.st_main.proofs.Posting.{posts-few, listed, post-fault, posted-names}
use Rattle.st_main.proofs.post.post_checked.Goals as goal

pub listing-requires : goal.listing-requires
listing-requires c = subst (λ fs. words_count fs ≤ 196608) (sym c.functions.ensures) (posts-few c.in_ok-posted.posted)

pub returns-in-Ok-clause-text : goal.returns-in-Ok-clause-text
returns-in-Ok-clause-text c =
    listed c.in_ok-posted.posted c.args.checked.now c.in-Ok.image c.in_ok-text-in-Ok.text.items c.in_ok-posted.ensures c.in-Ok.ensures.image
    (c.in_ok-text-in-Ok.ensures ∙ ap (λ fs. listing_by code_start fs c.as_slice.result.now) c.functions.ensures ∙ ap (λ ws. listing_by code_start c.in_ok-posted.posted.code.functions ws) c.as_slice.ensures)

pub returns-in-Err-Fault-clause-fault : goal.returns-in-Err-Fault-clause-fault
returns-in-Err-Fault-clause-fault c =
    let told : c.far_fault.result ≡ faults.Linking c.in-Err-Fault.fault.line c.in-Err-Fault.fault.distance = rw c.in-Err-Fault.field-0-is at c.far_fault.ensures in
    subst (MemoryOr (IsLinkFault c.args.checked.now.unit.now.functions)) (sym told) (post-fault c.in_ok-posted.posted c.args.checked.now c.in-Err-Fault.fault.line c.in-Err-Fault.fault.distance c.in_ok-posted.ensures (rw c.in-Err-Fault.field-0-is at c.in-Err-Fault.ensures.fault))

pub returns-in-Err-Fault-clause-names : goal.returns-in-Err-Fault-clause-names
returns-in-Err-Fault-clause-names c = λ texts parts reads same.
    let told : c.far_fault.result ≡ faults.Linking c.in-Err-Fault.fault.line c.in-Err-Fault.fault.distance = rw c.in-Err-Fault.field-0-is at c.far_fault.ensures in
    subst (IsNamed (length texts)) (sym told) (posted-names c.in_ok-posted.posted c.args.checked.now c.in-Err-Fault.fault.line c.in-Err-Fault.fault.distance c.in_ok-posted.ensures (rw c.in-Err-Fault.field-0-is at c.in-Err-Fault.ensures.fault) texts parts reads same)
