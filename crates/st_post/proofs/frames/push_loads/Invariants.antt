use Rattle.std.proofs.Common.{◌≡◌, ◌++◌, drop}
use Rattle.std.specs.Prelude.{pos}
use Rattle.st_model.specs.Layout.{loads}
use Rattle.st_post.proofs.frames.push_loads.Given as goal

abbrev pub invariant-loop-place : goal.invariant-loop-place
invariant-loop-place l =
    l.out.items ++ loads l.base (pos l.top) l.place (drop l.place l.saved) ≡ l.initial.out.items ++ loads l.base (pos l.top) 0 l.saved
