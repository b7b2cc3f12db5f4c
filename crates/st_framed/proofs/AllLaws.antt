-- Where the frames of a worker's threads lie, and what keeps it: the laws together.
use Rattle.st_framed.specs.Framed.{FramedLaws}
use Rattle.st_framed.proofs.Room.{room_is}
use Rattle.st_framed.proofs.Items.{items_frame}
use Rattle.st_framed.proofs.Shrinking.{shrinking_frames}
use Rattle.st_framed.proofs.Leaving.{top_leaves, bottom_leaves}
use Rattle.st_framed.proofs.Coming.{comes_framed, may_be_exported}

pub framed_laws : FramedLaws
framed_laws = record {
  room = room_is;
  items = items_frame;
  shrinking = shrinking_frames;
  top = top_leaves;
  bottom = bottom_leaves;
  comes = comes_framed;
  may = may_be_exported;
}
