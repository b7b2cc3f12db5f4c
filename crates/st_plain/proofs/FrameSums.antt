-- Where frames stand on the stack: the older activations' frames end at its high end (below_sum), and each base is a multiple of 16
-- (below_multiple). All words of a frame are held (holds_frame).
use Rattle.std.proofs.Common.{◌≡◌, ℕ, zero, suc, ◌+◌, ◌/◌, ◌<◌, ◌≤◌, List, [], ◌∷◌, length, refl, ap, ◌∙◌, arith}
use Rattle.std.specs.Prelude.{◌%◌}
use Rattle.std.proofs.lemmas.Bool.{lt-ltb}
use Rattle.st_base.specs.declared.thread.Held.{Held}
use Rattle.st_base.specs.declared.thread.Activation.{Activation}
use Rattle.st_base.specs.declared.thread.ActivationKind.{ActivationKind}
use Rattle.st_model.specs.declared.program.Program.{Program}
use Rattle.st_model.specs.declared.ordinary.Tally.{Tally}
use Rattle.st_model.specs.Accepted.{IsAccepted, HasFrame}
use Rattle.st_model.specs.Bounded.{frame_held, frames_held}
use Rattle.st_model.specs.Effect.{File}
use Rattle.st_model.specs.Layout.{saved_of}
use Rattle.st_step.specs.Runs.{HoldsFrame, return_word, caller_word}
use Rattle.st_step.specs.Frames.{with_saved_values}
use Rattle.st_plain.specs.Frames.{parents_below, Below}
use Rattle.st_plain.specs.Standing.{stack_start, on_stack}

held_begun : (bytes next : ℕ) → 0 < next → frame_held bytes next ≡ bytes
held_begun bytes zero some = absurd (omega arith)
held_begun bytes (suc next) some = refl

pub below_sum : (p : Program) (names : List Held) (word : ℕ → ℕ) (high : ℕ) (value : ℕ → ℕ) (low fp ret : ℕ) (kind : ActivationKind) (kept : File) (older : List Activation) (parents : List Tally)
    → Below p names word high value low fp ret kind kept older parents → low + frames_held older ≡ high
below_sum p names word high value low fp ret kind kept [] parents below = let e = below.2 in omega arith
below_sum p names word high value low fp ret kind kept (a ∷ older) parents (function, caller, has_parent, below) =
    let rest = below_sum p names word high (with_saved_values word fp 0 (saved_of function) value) fp (word (caller_word fp)) (word (return_word fp)) a.kind a.kept older (parents_below kind parents) below in
    let base = caller.base in
    let long = caller.slots.bytes_long in
    let held = held_begun (length a.bytes) a.next caller.begun in
    omega arith

pub below_multiple : (p : Program) (names : List Held) (word : ℕ → ℕ) (high : ℕ) (value : ℕ → ℕ) (low fp ret : ℕ) (kind : ActivationKind) (kept : File) (older : List Activation) (parents : List Tally)
    → IsAccepted p → high % 16 ≡ 0 → Below p names word high value low fp ret kind kept older parents → low % 16 ≡ 0
below_multiple p names word high value low fp ret kind kept [] parents accepted even below = let e = below.2 in ap (λ (n : ℕ). n % 16) e ∙ even
below_multiple p names word high value low fp ret kind kept (a ∷ older) parents accepted even (function, caller, has_parent, below) =
    let rest = below_multiple p names word high (with_saved_values word fp 0 (saved_of function) value) fp (word (caller_word fp)) (word (return_word fp)) a.kind a.kept older (parents_below kind parents) accepted even below in
    let frame : HasFrame function = (accepted.functions a.function function caller.here).formed.frame in
    let base = caller.base in
    let multiple = frame.multiple in
    omega arith

pub holds_frame : (stack bytes b : ℕ) → b ≤ stack_start + stack → HoldsFrame (on_stack stack) bytes b
holds_frame stack bytes b high = λ q from to. let inside : q < stack / 8 = omega arith in lt-ltb q (stack / 8) inside
