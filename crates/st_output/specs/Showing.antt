-- The output. Read Output, which is of a heap and a world: the Out words show the bytes that the root has printed in the heap-frame machine behind the board, each with its
-- forks then, and the other Out words are 0.
use Rattle.std.specs.Prelude.{◌≡◌, ℕ, [], length, Option, Some, None, slice_get}
use Rattle.st_base.specs.declared.thread.Thread.{Thread}
use Rattle.st_words.specs.Encodings.{printed}
use Rattle.st_model.specs.declared.output.Printed.{Printed}
use Rattle.st_model.specs.Heap.{Heap}
use Rattle.st_world.specs.World.{World}

abbrev pub out_word : Option Printed → ℕ
out_word None = 0
out_word (Some b) = printed b.forks b.byte

pub record Showing (h : Heap) (out : ℕ → ℕ) : Type 0 where
  pub each : (i : ℕ) → out i ≡ out_word (slice_get h.out i)
  pub root : (t : Thread) → h.thread [] ≡ Some t → t.bytes ≡ length h.out

abbrev pub Output : Heap → World → Type 0
Output h x = Showing h x.out
