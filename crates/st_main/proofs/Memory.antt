-- A fault that may be want of memory: memory-or takes it apart, memory-weaker says more of it.
use Rattle.std.proofs.Common.{◌≡◌, refl, ◌⊎◌, inl, inr}
use Rattle.st_print.specs.declared.fault.Fault.{Fault}
use Rattle.st_print.specs.declared.fault.Fault.TheVariants as faults
use Rattle.st_main.specs.Making.{MemoryOr}

pub memory-or : (P : Fault → Type 0) (fault : Fault) → MemoryOr P fault → (fault ≡ faults.OutOfMemory) ⊎ P fault
memory-or P faults.Usage h = inr h
memory-or P (faults.Reading f) h = inr h
memory-or P (faults.Checking line kind) h = inr h
memory-or P (faults.Linking line distance) h = inr h
memory-or P (faults.Trap line kind path) h = inr h
memory-or P (faults.Deadlock line path) h = inr h
memory-or P (faults.Waits line path) h = inr h
memory-or P (faults.Limit kind) h = inr h
memory-or P (faults.ReadFile file) h = inr h
memory-or P faults.ReadInput h = inr h
memory-or P faults.Write h = inr h
memory-or P faults.OutOfMemory h = inl refl

pub memory-weaker : (P Q : Fault → Type 0) (fault : Fault) → ((f : Fault) → P f → Q f) → MemoryOr P fault → MemoryOr Q fault
memory-weaker P Q faults.Usage more h = more faults.Usage h
memory-weaker P Q (faults.Reading f) more h = more (faults.Reading f) h
memory-weaker P Q (faults.Checking line kind) more h = more (faults.Checking line kind) h
memory-weaker P Q (faults.Linking line distance) more h = more (faults.Linking line distance) h
memory-weaker P Q (faults.Trap line kind path) more h = more (faults.Trap line kind path) h
memory-weaker P Q (faults.Deadlock line path) more h = more (faults.Deadlock line path) h
memory-weaker P Q (faults.Waits line path) more h = more (faults.Waits line path) h
memory-weaker P Q (faults.Limit kind) more h = more (faults.Limit kind) h
memory-weaker P Q (faults.ReadFile file) more h = more (faults.ReadFile file) h
memory-weaker P Q faults.ReadInput more h = more faults.ReadInput h
memory-weaker P Q faults.Write more h = more faults.Write h
memory-weaker P Q faults.OutOfMemory more h = tt
