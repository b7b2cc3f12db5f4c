-- What the words of the board stand for. owner_word, is_counter: who a cell belongs to; full_word: a full future; count_in, head_in and
-- counter_word: the count of a counter and the head of its waiters; stop_code: a limit; asking, answering_word and the mail words; printed:
-- a byte of the output.
use Rattle.std.specs.Prelude.{◌≡◌, ◌⊎◌, ℕ, ◌+◌, ◌*◌, ◌-◌, ◌/◌, ◌%◌, ◌^◌, ◌≤◌, Bool, ◌==◌, nat_lt, if◌then◌else◌, Option, Some, None}
use Rattle.st_base.specs.declared.thread.TrapKind.{TrapKind}
use Rattle.st_base.specs.declared.thread.TrapKind.TheVariants as traps
use Rattle.st_base.specs.declared.thread.Standing.{Standing}
use Rattle.st_base.specs.declared.thread.Standing.TheVariants as standings

-- ---- Owner: 0 not named; else 1 + kind + 2 * parent + 2 ^ 18 * number, kind 0 for a thread and 1 for a counter; the root has 1

abbrev pub thread_owner : ℕ → ℕ → ℕ
thread_owner parent number = 1 + 2 * parent + 2 ^ 18 * number

abbrev pub counter_owner : ℕ → ℕ → ℕ
counter_owner parent number = 2 + 2 * parent + 2 ^ 18 * number

-- of an Owner word that isn't 0
abbrev pub is_counter : ℕ → Bool
is_counter owner = (owner - 1) % 2 == 1

-- ---- State of a future: 0 empty, a waiter + 1 where threads wait, 2 ^ 32 full

abbrev pub full_word : ℕ
full_word = 2 ^ 32

-- ---- State of a counter: count * 2 ^ 17 + head, head 0 or a waiter + 1; a count stands still at 2 ^ 47 - 1

abbrev pub count_in : ℕ → ℕ
count_in state = state / 2 ^ 17

abbrev pub head_in : ℕ → ℕ
head_in state = state % 2 ^ 17

abbrev pub counter_word : ℕ → ℕ → ℕ
counter_word count head = count * 2 ^ 17 + head

abbrev pub count_after : ℕ → ℕ
count_after count = if nat_lt count (2 ^ 47 - 1) then count + 1 else count

-- ---- Standing: 0 no thread, 1 on a worker or in mail, 2 waiting, 3 ready, 4 trapped, 5 ended

abbrev pub running : ℕ
running = 1

abbrev pub waits_word : ℕ
waits_word = 2

abbrev pub ready : ℕ
ready = 3

abbrev pub trapped : ℕ
trapped = 4

abbrev pub ended : ℕ
ended = 5

-- ---- Trap: pc * 16 + kind, kind 0 a touch or a join, 15 the full output

abbrev pub trap_word : ℕ → ℕ → ℕ
trap_word pc kind = pc * 16 + kind

abbrev pub trap_number : TrapKind → ℕ
trap_number traps.LoadRange = 1
trap_number traps.Misaligned = 2
trap_number traps.WrongHandle = 3
trap_number traps.PutInChild = 4
trap_number traps.Abort = 5

-- a thread that has stopped, by a trap or the full output
abbrev pub stop_kind : Standing → Option ℕ
stop_kind standings.Going = None
stop_kind (standings.Ended value) = None
stop_kind (standings.Trapped kind line) = Some (trap_number kind)
stop_kind standings.Full = Some 15

-- ---- Stop: kind + 256 * worker + 2 ^ 16 * frame, kind 1 Stack, 2 Cell, 3 Step

abbrev pub stack_code : ℕ → ℕ → ℕ
stack_code worker frame = 1 + 256 * worker + 2 ^ 16 * frame

abbrev pub cell_code : ℕ → ℕ
cell_code worker = 2 + 256 * worker

abbrev pub step_code : ℕ → ℕ
step_code worker = 3 + 256 * worker

-- a limit that the worker may have met
abbrev pub IsStopCode : ℕ → ℕ → Type 0
IsStopCode worker code = ((frame : ℕ) × (frame ≤ 2032) × (code ≡ stack_code worker frame)) ⊎ ((code ≡ cell_code worker) ⊎ (code ≡ step_code worker))

-- ---- Request: 0, the asking worker + 1, or 32 while it is answered

abbrev pub asking : ℕ → ℕ
asking worker = worker + 1

abbrev pub answering_word : ℕ
answering_word = 32

-- ---- Mail: 0 nothing, 1 waiting, 2 given, 3 refused

abbrev pub nothing : ℕ
nothing = 0

abbrev pub waiting : ℕ
waiting = 1

abbrev pub given : ℕ
given = 2

abbrev pub refused : ℕ
refused = 3

-- ---- Out: 0, or forks * 2 ^ 9 + 256 + byte

-- how many bytes may be printed; it is unfolded where it is compared, and never under a list of so many words
unfoldable pub out_bytes : ℕ
out_bytes = 1048576

abbrev pub printed : ℕ → ℕ → ℕ
printed forks byte = forks * 2 ^ 9 + 256 + byte
