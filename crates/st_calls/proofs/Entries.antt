-- The laws of all phases of a call: making_laws, entry_laws, end_laws and serving_laws.
use Rattle.std.specs.Prelude.{ℕ, List}
use Rattle.st_base.specs.declared.image.Image.{Image}
use Rattle.st_base.specs.declared.limits.Limits.{Limits}
use Rattle.st_model.specs.declared.program.Program.{Program}
use Rattle.st_model.specs.Memory.{Data}
use Rattle.st_calls.specs.Calling.{MakingLaws, EntryLaws, EndLaws, ServingLaws}
use Rattle.st_calls.proofs.Adding.{adding}
use Rattle.st_calls.proofs.Beginning.{beginning}
use Rattle.st_calls.proofs.Drawing.{draws_there}
use Rattle.st_calls.proofs.Looking.{looking_may, looks_on}
use Rattle.st_calls.proofs.Naming.{naming}
use Rattle.st_calls.proofs.Ending.{finding, filling, ending}
use Rattle.st_calls.proofs.Polled.{polls_there}
use Rattle.st_calls.proofs.Printing.{prints_may, prints_on}
use Rattle.st_calls.proofs.Seeing.{sees_may, sees_on}
use Rattle.st_calls.proofs.Storing.{ends_there}
use Rattle.st_calls.proofs.Valuing.{valuing}

pub making_laws : (p : Program) (d : Data) (limits : Limits) (image : Image) (input : List ℕ) → MakingLaws p d limits image input
making_laws p d limits image input = record { naming = λ cell. naming p d limits image input cell; beginning = λ cell. beginning p d limits image input cell }

pub entry_laws : (p : Program) (d : Data) (limits : Limits) (image : Image) (input : List ℕ) → EntryLaws p d limits image input
entry_laws p d limits image input = record { valuing = λ cell. valuing p d limits image input cell; looking_may = λ cell. looking_may p d limits image input cell; looks_on = λ cell. looks_on p d limits image input cell; adding = λ cell seen. adding p d limits image input cell seen }

pub end_laws : (p : Program) (d : Data) (limits : Limits) (image : Image) (input : List ℕ) → EndLaws p d limits image input
end_laws p d limits image input = record { finding = finding p d limits image input; filling = λ seen. filling p d limits image input seen; ending = λ cell head. ending p d limits image input cell head }

pub serving_laws : (p : Program) (d : Data) (limits : Limits) (image : Image) (input : List ℕ) → ServingLaws p d limits image input
serving_laws p d limits image input = record { ends = ends_there p d limits image input; draws = draws_there p d limits image input; sees_may = sees_may p d limits image input; sees_on = sees_on p d limits image input; prints_may = prints_may p d limits image input; prints_on = prints_on p d limits image input; polls = polls_there p d limits image input }
