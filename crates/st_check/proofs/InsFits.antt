-- The item of a line without a fault fits the program (ins-fits).
use Rattle.std.proofs.Common.{◌≡◌, ◌∙◌, ℕ, ◌<◌, ◌≤◌, true, false, ◌&&◌, not, List, [], ◌∷◌, refl, Option, Some, None, arith, nat_le, is_some}
use Rattle.std.proofs.lemmas.Bool.{and_from, leb-true, lt-ltb}
use Rattle.st_base.specs.Reg.{reg_number}
use Rattle.st_rv.specs.Op.{kind_of}
use Rattle.st_line.specs.declared.source.SourceIns.{SourceIns}
use Rattle.st_line.specs.declared.source.SourceIns.TheVariants as source
use Rattle.st_asm.specs.declared.unit.Function.{Function}
use Rattle.st_check.proofs.Sound.{IsSound}
use Rattle.st_model.specs.Flow.{between}
use Rattle.st_model.specs.Accepted.{HasFunction, Fits}
use Rattle.st_check.specs.Shape.{Formed, formed, Group, epilogue, single, saved_registers}
use Rattle.st_check.specs.Faults.{is_integer, line_slot_fault, keeps_classes, may_write, written, calls_function, forks_before, forks_right, calls_right, is_fork_register}
use Rattle.st_check.specs.Programs.{number_or, function_place, called, call_behind, line_kind, function_by, program_of}
use Rattle.st_check.proofs.SavedBits.{AreAmong}
use Rattle.st_check.proofs.NamePlaces.{place_from_is_named}
use Rattle.st_check.proofs.Frames.{and-both, may_write-bits}
use Rattle.st_check.proofs.LineFits.{plain-fits}
use Rattle.st_check.proofs.LineRight.{place_from-there}
use Rattle.st_check.proofs.LineKinds.{has-function, call-kind-fits}

called-by : (functions : List Function) (name : List ℕ) (o : Option ℕ) → function_place functions name ≡ o → is_some o ≡ true → HasFunction (program_of functions) (number_or o)
called-by functions name None e some = cc
called-by functions name (Some f) e some = has-function functions f (place_from-there 0 f name functions e)

called-there : (functions : List Function) (ins : SourceIns) → calls_function functions ins ≡ true → HasFunction (program_of functions) (called functions ins)
called-there functions (source.Call name) calls = called-by functions name (function_place functions name) refl (place_from_is_named 0 name functions ∙ calls)
called-there functions (source.Plain i) calls = cc
called-there functions (source.Li rd value) calls = cc
called-there functions (source.La rd to) calls = cc
called-there functions (source.Branch op rs1 rs2 to) calls = cc
called-there functions (source.Jump to) calls = cc
called-there functions source.Ret calls = cc
called-there functions (source.Fork handle) calls = cc

behind-there : (functions : List Function) (behind : List (ℕ × Group)) → forks_before functions behind ≡ true → HasFunction (program_of functions) (call_behind functions behind)
behind-there functions [] forks = cc
behind-there functions ((at, epilogue line) ∷ gs) forks = cc
behind-there functions ((at, single l) ∷ gs) forks = called-there functions l.ins (and-both (calls_function functions l.ins) (not l.labelled) forks).0

fork-register : (n : ℕ) → (nat_le 24 n && nat_le n 27) ≡ true → between 24 28 n ≡ true
fork-register n e =
    let s = and-both (nat_le 24 n) (nat_le n 27) e in
    let high : n ≤ 27 = leb-true _ _ s.1 in
    let below : n < 28 = omega arith in
    and_from _ _ s.0 (lt-ltb n 28 below)

pub ins-fits : (functions : List Function) (function : Function) (shape : Formed) (gs behind : List (ℕ × Group)) (ins : SourceIns) → AreAmong shape.saved saved_registers → IsSound functions ins → line_slot_fault function.slots shape ins ≡ false → keeps_classes ins ≡ true → may_write shape (written ins) ≡ true → forks_right functions ins behind ≡ true → calls_right functions ins ≡ true → Fits (program_of functions) (function_by functions function (formed shape)) (line_kind functions gs ins behind)
ins-fits functions function shape gs behind (source.Plain i) among is slot keeps may forks calls = (is.0, plain-fits functions function shape (kind_of i.op) i among is.1 is.2 slot keeps may)
ins-fits functions function shape gs behind (source.Li rd value) among is slot keeps may forks calls = (keeps, may_write-bits functions function shape rd among may)
ins-fits functions function shape gs behind (source.La rd to) among is slot keeps may forks calls = (keeps, may_write-bits functions function shape rd among may)
ins-fits functions function shape gs behind (source.Branch op rs1 rs2 to) among is slot keeps may forks calls =
    let s = and-both (is_integer rs1) (is_integer rs2) keeps in
    (is.0, s.0, s.1)
ins-fits functions function shape gs behind (source.Jump to) among is slot keeps may forks calls = tt
ins-fits functions function shape gs behind (source.Call name) among is slot keeps may forks calls = call-kind-fits functions (function_by functions function (formed shape)) name calls
ins-fits functions function shape gs behind source.Ret among is slot keeps may forks calls = tt
ins-fits functions function shape gs behind (source.Fork handle) among is slot keeps may forks calls =
    let s = and-both (is_fork_register handle) (forks_before functions behind) forks in
    (behind-there functions behind s.1, fork-register (reg_number handle) s.0, may_write-bits functions function shape handle among may)
