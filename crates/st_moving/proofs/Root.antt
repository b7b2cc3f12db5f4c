-- The root on the machine that begins it, at main's first item: read root_stands. What its registers hold is in file_opened.
use Rattle.std.proofs.Common.{◌≡◌, inl, ℕ, zero, suc, List, [], length, replicate, get_or, Option, Some, None, slice_get, refl, sym, ◌∙◌, subst}
use Rattle.std.specs.Prelude.{slice_index_or}
use Rattle.std.proofs.lemmas.Option.{same_Some}
use Rattle.st_base.specs.declared.reg.Reg.TheVariants as registers
use Rattle.st_base.specs.declared.registers.Pick.TheVariants.{Arguments}
use Rattle.st_base.specs.declared.thread.Held.{Held}
use Rattle.st_base.specs.declared.thread.Held.TheVariants.{Number}
use Rattle.st_base.specs.declared.thread.Thread.{Thread}
use Rattle.st_base.specs.Registers.{picked, write_register, zeroed}
use Rattle.st_model.specs.declared.code.Layout.TheVariants.{Postprocessed}
use Rattle.st_model.specs.declared.ordinary.State.{State as OrdinaryState}
use Rattle.st_model.specs.declared.program.Program.{Program}
use Rattle.st_model.specs.declared.program.ProgramFunction.{ProgramFunction}
use Rattle.st_model.specs.Heap.{new_thread}
use Rattle.st_model.specs.Layout.{function_address}
use Rattle.st_model.specs.Memory.{Data}
use Rattle.st_model.specs.Ordinary.{started}
use Rattle.st_words.specs.declared.view.Known.{Known}
use Rattle.st_step.specs.declared.state.State.{State}
use Rattle.st_step.specs.Frames.{Naming, IsHeldAs, HasFile, IsFrameless, value_in}
use Rattle.st_step.specs.Moves.{register}
use Rattle.st_items.specs.Body.{Ends, IsOn}
use Rattle.st_items.proofs.Addresses.{first_address}
use Rattle.st_items.proofs.KeptFiles.{file_returned, frameless_arguments, picked_file}
use Rattle.st_chain.specs.Walk.{is_held, named_by}
use Rattle.st_chain.specs.Copying.{over}
use Rattle.st_standing.specs.Standing.{under, Before, StandsOn}
use Rattle.st_moving.specs.Moving.{Starts}

-- ---- its registers

same_everywhere : {X : Type 0} (n x : ℕ) (d : X) → get_or (replicate n d) x d ≡ d
same_everywhere zero x d = refl
same_everywhere (suc n) zero d = refl
same_everywhere (suc n) (suc x) d = same_everywhere n x d

zeroed_long : length zeroed ≡ 32
unfolding zeroed
zeroed_long = refl

zeroed_at : (names : Naming) (value : ℕ → ℕ) (x : ℕ) (held : Held) → value 0 ≡ 0 → slice_index_or zeroed x None ≡ Some held → IsHeldAs names held (value x)
unfolding zeroed
zeroed_at names value zero held origin there = subst (λ (h : Held). IsHeldAs names h (value 0)) (same_Some (Number 0) held there) origin
zeroed_at names value (suc x) held origin there = let none : Option Held = None in let nothing = same_everywhere 31 x none in let never : ⊥ = cc in absurd never

-- main's arguments are in their registers
file_opened : (names : Naming) (ints input : ℕ) (value : ℕ → ℕ) → value 0 ≡ 0 → value 10 ≡ input → HasFile names (picked (Arguments ints 0) (write_register zeroed registers.A0 (Number input))) value
file_opened names ints input value origin first =
    picked_file names (Arguments ints 0) (write_register zeroed registers.A0 (Number input)) value
    (file_returned names zeroed (Number input) value zeroed_long (λ x held there. zeroed_at names value x held origin there) first)

-- ---- its machine

-- what StandsOn says of a thread
record IsRoot (p : Program) (names : List (Held × ℕ)) (held : List (Option ℕ)) (m : State) (cell : ℕ) (thread : Thread) : Type 0 where
  pub file : HasFile (named_by names) thread.registers (value_in m)
  pub frameless : IsFrameless thread.registers
  pub before : Before p names (is_held held) (under p names (is_held held) cell [] []) (over held m) thread.activations []

begun : (p : Program) (names : List (Held × ℕ)) (held : List (Option ℕ)) (ends : Ends) (m : State) (cell input : ℕ) (function : Option ProgramFunction) (first : OrdinaryState) → IsOn ends (over held m) → m.pc ≡ function_address Postprocessed p p.main → register m registers.Ra ≡ 0x30
    → register m registers.A0 ≡ input → slice_get p.functions p.main ≡ function → started p input function ≡ Some first → IsRoot p names held m cell (new_thread first.top first.registers)
begun p names held ends m cell input None first on pc ret length_is here starts = let never : ⊥ = cc in absurd never
begun p names held ends m cell input (Some function) first on pc ret length_is here starts =
    subst (λ (s : OrdinaryState). IsRoot p names held m cell (new_thread s.top s.registers)) (same_Some _ first starts)
    record {
      file = file_opened (named_by names) function.ints input (value_in m) on.has_registers.origin length_is;
      frameless = frameless_arguments function.ints 0 (write_register zeroed registers.A0 (Number input));
      before = (
        function,
        record { here = here; first = refl; bytes = refl; handles = refl; at = pc ∙ sym (first_address Postprocessed p p.main function); below = (tt, ret) },
      );
    }

pub root_stands : (p : Program) (d : Data) (names : List (Held × ℕ)) (held : List (Option ℕ)) (ends : Ends) (m : State) (k : Known) → IsOn ends (over held m) → m.half ≡ None → Starts p d m k → StandsOn p names (is_held held) ends (over held m) k [] [] []
root_stands p d names held ends m k on whole starts =
    let is : IsRoot p names held m k.note.cell k.thread =
    subst (IsRoot p names held m k.note.cell) (sym starts.root)
    (begun p names held ends m k.note.cell (length d.input) (slice_get p.functions p.main) starts.first on starts.pc starts.ret starts.length_is refl starts.begins) in
    record { machine = on; whole = whole; file = is.file; frameless = is.frameless; stands = inl is.before }
