-- The laws of all phases of a thread that leaves: leavers_fit.
use Rattle.st_leaves.proofs.Left.{marking, slotting, standing}
use Rattle.st_leaves.proofs.Parting.{parting}
use Rattle.st_leaves.proofs.Suspending.{suspending_may}
use Rattle.st_leaves.specs.Leaving.{LeaversFit}

pub leavers_fit : LeaversFit
leavers_fit p d limits image input accepted = record {
  parting = parting p d limits image input accepted;
  may_suspend = suspending_may p d limits image input accepted;
  marking = marking p d limits image input accepted;
  standing = standing p d limits image input accepted;
  slotting = slotting p d limits image input accepted;
}
