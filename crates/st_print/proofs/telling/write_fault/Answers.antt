use Rattle.std.proofs.Common.{◌∙◌, ap}
use Rattle.st_print.specs.Telling.{fault_text}
use Rattle.st_print.proofs.Putting.{puts-as, trap-told, deadlock-told, waits-told}
use Rattle.st_print.proofs.telling.write_fault.Goals as goal

pub returns-in-Usage : goal.returns-in-Usage
unfolding fault_text
returns-in-Usage g c = puts-as _ (ap (fault_text _) c.in-Usage.is) c.put_all.ensures

pub returns-in-Trap : goal.returns-in-Trap
returns-in-Trap g c = puts-as _ (trap-told _ _ _ _ _ _ c.in-Trap.is (c.as_bytes-in-Trap.ensures.value ∙ c.trap_text.ensures)) c.put_in_thread.ensures

pub returns-in-Deadlock : goal.returns-in-Deadlock
returns-in-Deadlock g c = puts-as _ (deadlock-told _ _ _ _ c.in-Deadlock.is) c.put_in_thread-in-Deadlock.ensures

pub returns-in-Waits : goal.returns-in-Waits
returns-in-Waits g c = puts-as _ (waits-told _ _ _ _ c.in-Waits.is) c.put_in_thread-in-Waits.ensures
