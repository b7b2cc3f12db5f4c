-- No item of a body is a prologue (items-none_opens).
use Rattle.std.proofs.Common.{◌≡◌, ℕ, zero, suc, Bool, true, false, List, [], ◌∷◌, subst, slice_get, Option, Some, None}
use Rattle.st_line.specs.declared.source.SourceIns.{SourceIns}
use Rattle.st_line.specs.declared.source.SourceIns.TheVariants as source
use Rattle.st_asm.specs.declared.unit.Function.{Function}
use Rattle.st_model.specs.declared.program.Item.{Item}
use Rattle.st_model.specs.declared.program.ItemKind.TheVariants as items
use Rattle.st_model.specs.Accepted.{IsPrologue}
use Rattle.st_check.specs.Shape.{Group, epilogue, single}
use Rattle.st_check.specs.Faults.{is_fork}
use Rattle.st_check.specs.Programs.{items_of, line_kind, call_kind, function_place}

call-none : (functions : List Function) (name : List ℕ) (o : Option ℕ) → IsPrologue (call_kind functions name o) → ⊥
call-none functions name None h = h
call-none functions name (Some f) h = h

kind-none : (functions : List Function) (gs : List (ℕ × Group)) (ins : SourceIns) (behind : List (ℕ × Group)) → IsPrologue (line_kind functions gs ins behind) → ⊥
kind-none functions gs (source.Plain i) behind h = h
kind-none functions gs (source.Li rd value) behind h = h
kind-none functions gs (source.La rd to) behind h = h
kind-none functions gs (source.Branch op rs1 rs2 to) behind h = h
kind-none functions gs (source.Jump to) behind h = h
kind-none functions gs (source.Call name) behind h = call-none functions name (function_place functions name) h
kind-none functions gs source.Ret behind h = h
kind-none functions gs (source.Fork handle) behind h = h

pub items-none_opens : (functions : List Function) (gs : List (ℕ × Group)) (forked : Bool) (hs : List (ℕ × Group)) (i : ℕ) (item : Item) → slice_get (items_of functions gs forked hs) i ≡ Some item → IsPrologue item.kind → ⊥
items-none_opens functions gs forked [] i item here opens = cc
items-none_opens functions gs true (g ∷ hs) i item here opens = items-none_opens functions gs false hs i item here opens
items-none_opens functions gs false ((at, epilogue line) ∷ hs) zero item here opens =
    let same : item ≡ record { line = line; kind = items.Epilogue } = cc in
    subst (λ (it : Item). IsPrologue it.kind) same opens
items-none_opens functions gs false ((at, epilogue line) ∷ hs) (suc i) item here opens = items-none_opens functions gs false hs i item here opens
items-none_opens functions gs false ((at, single l) ∷ hs) zero item here opens =
    let same : item ≡ record { line = l.line; kind = line_kind functions gs l.ins hs } = cc in
    kind-none functions gs l.ins hs (subst (λ (it : Item). IsPrologue it.kind) same opens)
items-none_opens functions gs false ((at, single l) ∷ hs) (suc i) item here opens = items-none_opens functions gs (is_fork l.ins) hs i item here opens
