-- What an instruction does, as the code's own data: the move that an act stands for on a machine (move_by), and the bound on an immediate.
use Rattle.std.specs.Prelude.{◌+◌, ◌%◌, ◌^◌, neg_ℤ, pos, ◌≤ℤ◌, Some}
use Rattle.st_rv.specs.declared.ins.Ins.{Ins}
use Rattle.st_rv.specs.Results.{access_size, extended}
use Rattle.st_step.specs.declared.state.State.{State}
use Rattle.st_step.specs.declared.act.Act.{Act}
use Rattle.st_step.specs.declared.act.Act.TheVariants as acts
use Rattle.st_step.specs.declared.machine.StepEnd.TheVariants.{Trap, StackFull}
use Rattle.st_step.specs.Roles.{word_at}
use Rattle.st_step.specs.Moves.{Move, Goes, Reads, Writes, Marks, Stops, Outside, results, at_place, written, goes_on, bytes_of}

-- the move of a machine that an act stands for
abbrev pub move_by : State → Act → Move
move_by m (acts.Result rd value) = Goes (results m rd value)
move_by m (acts.Go pc) = Goes (at_place pc m)
move_by m (acts.Link rd pc) = Goes (at_place pc (written m rd (m.pc + 4)))
move_by m (acts.LoadWord rd address) = word_at address (λ place. Reads place (λ n. results m rd (bytes_of n 0 8)))
move_by m (acts.StoreWord address value) = word_at address (λ place. Writes place value (goes_on m))
move_by m (acts.Load op rd place address) = Reads place (λ n. results m rd (extended op (bytes_of n (address % 8) (access_size op))))
move_by m (acts.Fetch place) = Reads place (λ n. record m { half = Some n })
move_by m (acts.Store place value) = Writes place value (goes_on m)
move_by m (acts.Mark place) = Marks place (goes_on m)
move_by m (acts.Trap kind) = Stops (Trap kind)
move_by m (acts.StackFull frame) = Stops (StackFull frame)
move_by m acts.Outside = Outside

-- no immediate of a word is less, so that a frame which is made fits 32 bits
abbrev pub IsBounded : Ins → Type 0
IsBounded i = neg_ℤ (pos (2 ^ 31)) ≤ℤ i.imm
