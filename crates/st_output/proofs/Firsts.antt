-- A board that is opened shows nothing: first_output.
use Rattle.std.proofs.Common.{◌≡◌, ℕ, sym, ap}
use Rattle.st_base.specs.declared.limits.Limits.{Limits}
use Rattle.st_base.specs.declared.thread.Thread.{Thread}
use Rattle.st_words.specs.Encodings.{out_bytes}
use Rattle.st_words.specs.Plain.{first_words}
use Rattle.st_model.specs.Heap.{new_thread}
use Rattle.st_world.specs.OfPlain.{reading}
use Rattle.st_world.proofs.Opened.{alike}
use Rattle.st_output.specs.Laws.{First}

none_shown : (limits : Limits) (workers i : ℕ) → reading (first_words limits workers).out i ≡ 0
unfolding first_words
none_shown limits workers i = alike out_bytes i 0

pub first_output : First
first_output s limits workers = record {
  each = λ i. none_shown limits workers i;
  root = λ t e. let same : new_thread s.top s.registers ≡ t = cc in ap (λ (u : Thread). u.bytes) (sym same);
}
