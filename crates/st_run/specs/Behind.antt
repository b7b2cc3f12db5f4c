-- What a board for a program tells of the threads of a worker whose view is brought forward. Read IsBehind: there is a heap that the heap-frame machine reaches, in which they are, and in
-- which all that the view has seen is so; what the worker counts of them is so; and they, and the numbers that it has made ready, are no more than there are cells. Behind says it of a
-- board, and NextDefined what follows of their next items.
use Rattle.std.specs.Prelude.{◌≡◌, ◌≢◌, ℕ, ◌^◌, ◌<◌, ◌≤◌, List, [], length, Some, None}
use Rattle.std.specs.List.{Contains}
use Rattle.st_base.specs.declared.chain.Frame.{Frame}
use Rattle.st_base.specs.declared.chain.Waiting.TheVariants as waits
use Rattle.st_words.specs.declared.view.Carried.{Carried}
use Rattle.st_words.specs.declared.view.Known.{Known}
use Rattle.st_words.specs.declared.view.View.{View}
use Rattle.st_words.specs.Promises.{IsGoingOn}
use Rattle.st_words.specs.Laws.{TakesForFuture}
use Rattle.st_words.specs.Steps.{HasThread, kept, home_of, return_place, HasInHand, Holds, Inside}
use Rattle.st_model.specs.declared.program.Program.{Program}
use Rattle.st_model.specs.Accepted.{IsAccepted}
use Rattle.st_model.specs.Heap.{Heap, Stays, Reached}
use Rattle.st_model.specs.Memory.{Data}
use Rattle.st_model.specs.Quiet.{IsGoing}
use Rattle.st_made.specs.Items.{IsLive, next_move}
use Rattle.st_made.specs.Runs.{all_known, AreIn, HasSeen}
use Rattle.st_seats.specs.Placing.{AreOnce}

-- the worker's note of a thread is what the thread has counted: cell 0 is the root's, and there are at most as many forks and counters as cells
pub record NoteIs (cells : ℕ) (t : Known) : Type 0 where
  pub forks : t.note.forks ≡ t.thread.forks
  pub counters : t.note.counters ≡ t.thread.counters
  pub bytes : t.note.bytes ≡ t.thread.bytes
  pub root : t.note.cell ≡ 0 → t.path ≡ []
  pub first : t.path ≡ [] → t.note.cell ≡ 0
  pub few_forks : t.thread.forks ≤ cells
  pub few_counters : t.thread.counters ≤ cells

-- each of these numbers is one that the worker has made ready
abbrev pub AreReady : View → List ℕ → Type 0
AreReady u ns = (c : ℕ) → Contains ns c → Contains u.ready c

pub record IsBehind (p : Program) (d : Data) (u : View) : Type 0 where
  pub heap : Heap
  pub reached : Reached p d heap
  pub are_in : AreIn heap (all_known u)
  pub seen : HasSeen heap u
  pub notes : (t : Known) → Contains (all_known u) t → NoteIs u.cells t
  pub live : (t : Known) → Contains (all_known u) t → IsLive t.thread.standing
  -- a word that is held has 64 bits, and the worker holds each word of its own stack that is in no exported frame
  pub words : (q n : ℕ) → kept u.held q ≡ Some n → n < 2 ^ 64
  pub own : (q : ℕ) → q < length u.held → home_of u.each q ≡ u.number → ((f : Frame) → Contains u.exported f → Inside f q → ⊥) → Holds u q
  -- no frame that is away lies on its own stack
  pub foreign : (f : Frame) → Contains u.away f → home_of u.each (return_place f) ≢ u.number
  -- it takes the cell of none of its threads for a counter's
  pub futures : (c : ℕ) → HasThread u c → TakesForFuture u c
  -- a chain of the turn that goes on hasn't stopped
  pub going : (x : Carried) → Contains u.chains x → IsGoingOn x → x.wait ≢ waits.Trapped
  -- each thread has a cell of its own, and so has the next child where its cell is named
  pub few_threads : length u.threads ≤ u.cells
  pub room : u.child ≢ None → length u.threads < u.cells
  -- each ready number is that of a cell, and a number in the hand that of one more
  pub few_ready : (ns : List ℕ) → AreOnce ns → AreReady u ns → length ns ≤ u.cells
  pub fewer_ready : (ns : List ℕ) (c : ℕ) → AreOnce ns → AreReady u ns → HasInHand u c → length ns < u.cells

module _ {Self : Type 0} (view : Self → ℕ → View) (serves : Self → ℕ → Type 0) (IsFor : Self → Type 0) (Made : View → View → Type 0) where
  -- so it is of each worker that the board serves
  abbrev pub Behind : Program → Data → Type 0
  Behind p d = (b : Self) (w : ℕ) (u : View) → IsFor b → serves b w → Made (view b w) u → IsBehind p d u

-- the next item of a thread that hasn't stopped reads nothing undefined
abbrev pub NextDefined : Type 0
NextDefined = (p : Program) (d : Data) (u : View) (t : Known) → IsAccepted p → IsBehind p d u → Contains (all_known u) t → IsGoing t.thread.standing → next_move p d t ≢ Stays
