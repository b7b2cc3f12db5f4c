-- How the program ends: at each fault (exit_at), with or without a fault (exit_of), and with which status (status_of).
use Rattle.std.specs.Prelude.{ℕ, Option, Some, None}
use Rattle.st_print.specs.declared.fault.Fault.{Fault}
use Rattle.st_print.specs.declared.fault.Fault.TheVariants as faults
use Rattle.st_main.specs.declared.exit.Exit.{Exit}
use Rattle.st_main.specs.declared.exit.Exit.TheVariants.{Done, Usage, Refused, Trap, Deadlock, Limit, ReadFault, WriteFault, OutOfMemory, Waits}

abbrev pub exit_at : Fault → Exit
exit_at faults.Usage = Usage
exit_at (faults.Reading f) = Refused
exit_at (faults.Checking line kind) = Refused
exit_at (faults.Linking line distance) = Refused
exit_at (faults.Trap line kind path) = Trap
exit_at (faults.Deadlock line path) = Deadlock
exit_at (faults.Waits line path) = Waits
exit_at (faults.Limit kind) = Limit kind
exit_at (faults.ReadFile file) = ReadFault
exit_at faults.ReadInput = ReadFault
exit_at faults.Write = WriteFault
exit_at faults.OutOfMemory = OutOfMemory

abbrev pub exit_of : Option Fault → Exit
exit_of None = Done
exit_of (Some fault) = exit_at fault

abbrev pub status_of : Exit → ℕ
status_of Done = 0
status_of Usage = 1
status_of Refused = 2
status_of Trap = 3
status_of Deadlock = 4
status_of (Limit kind) = 5
status_of ReadFault = 6
status_of WriteFault = 7
status_of OutOfMemory = 8
status_of Waits = 9
