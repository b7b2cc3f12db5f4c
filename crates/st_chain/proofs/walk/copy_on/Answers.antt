use Rattle.st_chain.proofs.Copying.{may_step, copied_on}
use Rattle.st_chain.proofs.walk.copy_on.Goals as goal

pub step-end-requires : goal.step-end-requires
step-end-requires g c = record { may = may_step _ _ _ _ c.requires.copying }

pub returns : goal.returns
returns g c = record { copied = copied_on _ _ _ _ _ _ _ _ c.step-end.ensures.step }
