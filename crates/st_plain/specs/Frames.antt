-- Activations in memory, on the one stack of a run of unchanged code: what stands for what is said by the definitions of the machine's crate, here
-- with the names of the run, of which each is that of the cell with its place. Read Below (the older activations, each with its frame; the frame of
-- each begins where the frames of those that are older end, so that its base is the stack's high end less their bytes).
use Rattle.std.specs.Prelude.{◌≡◌, ℕ, List, [], ◌∷◌, Some, slice_get}
use Rattle.st_base.specs.declared.thread.Held.{Held}
use Rattle.st_base.specs.declared.thread.Activation.{Activation}
use Rattle.st_base.specs.declared.thread.ActivationKind.{ActivationKind}
use Rattle.st_base.specs.declared.thread.ActivationKind.TheVariants.{Forked, Root}
use Rattle.st_model.specs.declared.code.Layout.TheVariants.{Unchanged}
use Rattle.st_model.specs.declared.program.Program.{Program}
use Rattle.st_model.specs.declared.program.ProgramFunction.{ProgramFunction}
use Rattle.st_model.specs.declared.ordinary.Tally.{Tally}
use Rattle.st_model.specs.Effect.{File}
use Rattle.st_model.specs.Layout.{saved_of}
use Rattle.st_step.specs.Frames as frames
use Rattle.st_step.specs.Frames.{with_saved_values}
use Rattle.st_step.specs.Runs.{return_word, caller_word}

-- ---- names

-- a name is that of the cell with its place
abbrev pub by_place : List Held → Held → ℕ → Type 0
by_place names held n = slice_get names n ≡ Some held

abbrev pub IsHeldAs : List Held → Held → ℕ → Type 0
IsHeldAs names held n = frames.IsHeldAs (by_place names) held n

abbrev pub HasFile : List Held → File → (ℕ → ℕ) → Type 0
HasFile names file value = frames.HasFile (by_place names) file value

abbrev pub HasSlots : List Held → ProgramFunction → Activation → (ℕ → ℕ) → ℕ → Type 0
HasSlots names function a word low = frames.HasSlots (by_place names) function a word low

-- ---- callers

abbrev pub ComesBack : Program → ActivationKind → Activation → ProgramFunction → ℕ → Type 0
ComesBack p kind a function ret = frames.ComesBack Unchanged p kind a function ret

abbrev pub IsCaller : Program → List Held → (ℕ → ℕ) → (ℕ → ℕ) → ℕ → ℕ → ℕ → ActivationKind → File → Activation → ProgramFunction → Type 0
IsCaller p names word value low fp ret kind kept a function = frames.IsCaller Unchanged p (by_place names) word value low fp ret kind kept a function

-- the end of the root's first call comes back to this entry
abbrev pub end_entry : ℕ
end_entry = 0x30

-- a fork's call is of a thread whose parent is the next of the list
abbrev pub HasParent : ActivationKind → List Tally → Type 0
HasParent Forked [] = ⊥
HasParent _ _ = Prim.Unit

abbrev pub parents_below : ActivationKind → List Tally → List Tally
parents_below Forked (t ∷ ts) = ts
parents_below _ ts = ts

-- The activations below one of this kind, newest first. The registers of the newest of them are `value`, its frame's low end is `low` and its base fp, and
-- the call above it comes back to `ret`. Below the root's first call there is none, and the stack's high end is `low`.
abbrev pub Below : Program → List Held → (ℕ → ℕ) → ℕ → (ℕ → ℕ) → ℕ → ℕ → ℕ → ActivationKind → File → List Activation → List Tally → Type 0
Below p names word high value low fp ret kind kept [] parents = (kind ≡ Root) × (ret ≡ end_entry) × (low ≡ high) × (parents ≡ [])
Below p names word high value low fp ret kind kept (a ∷ older) parents =
    (function : ProgramFunction) × IsCaller p names word value low fp ret kind kept a function × HasParent kind parents × Below p names word high (with_saved_values word fp 0 (saved_of function) value) fp (word (caller_word fp)) (word (return_word fp)) a.kind a.kept older (parents_below kind parents)
