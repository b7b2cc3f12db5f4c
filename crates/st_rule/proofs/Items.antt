-- What the item that goes with a step does to the threads of a view: which thread goes out (threads_go), and that none is begun where there was none (none_begun).
use Rattle.std.proofs.Common.{◌≡◌, ℕ, ◌≤◌, Bool, true, false, not, ◌&&◌, ◌==◌, List, [], ◌∷◌, sym, ◌∙◌, ap, arith}
use Rattle.st_words.specs.declared.view.CellWord.TheVariants.{Owner}
use Rattle.st_words.specs.declared.view.Known.{Known}
use Rattle.st_words.specs.declared.view.View.{View}
use Rattle.st_words.specs.Encodings.{full_word, head_in, is_counter}
use Rattle.st_words.specs.Steps.{Step, CellStore, CellChange, OutStore, Answer, Done, Number, Looked, Took, some_thread}
use Rattle.st_words.specs.Views.{owner_seen, counts_cell}
use Rattle.st_model.specs.declared.program.Program.{Program}
use Rattle.st_model.specs.Memory.{Data}
use Rattle.st_model.specs.Heap.{Change}
use Rattle.st_made.specs.Events.{NoItem, GoesOn, EndsItem, AddsTo, Event, change_event, state_event, future_event, counter_event, owner_event}
use Rattle.st_counts.specs.Laws.{NoneBegun}
use Rattle.st_seats.specs.Placing.{cells_of}
use Rattle.st_places.specs.Steps.{SameThreads, TopEnds, GoesOut, ThreadsGo}

module _ (program : Program) (source : Data) (u v : View) where
  same_none : NoItem u v → SameThreads u v
  same_none e = ap cells_of e.threads

  same_goes : (Is : Known → Change → Type 0) → GoesOn program source u v Is → SameThreads u v
  same_goes Is e = ap cells_of e.threads ∙ sym (ap cells_of e.is)

  ends : (c : ℕ) → EndsItem program source c u v → TopEnds u c v
  ends c e = (e.top, e.is ∙ ap (λ (ts : List Known). e.top ∷ ts) (sym e.threads), e.cell)

  out_future : (f : Bool) (c : ℕ) → future_event program source f c u v → GoesOut f u c v
  out_future true c e = ends c e
  out_future false c e = same_none e

  out_counter : (z : Bool) (c : ℕ) → counter_event program source z c u v → SameThreads u v
  out_counter true c e = same_goes (AddsTo u c) e
  out_counter false c e = same_none e

  out_state : (k : Bool) (c new : ℕ) → state_event program source k c new u v → GoesOut ((true && not k) && (new == full_word)) u c v
  out_state true c new e = out_counter (head_in new == 0) c e
  out_state false c new e = out_future (new == full_word) c e

  out_change : (b : Bool) (c new : ℕ) → change_event program source b c new u v → GoesOut ((b && not (counts_cell (owner_seen c u.owners))) && (new == full_word)) u c v
  out_change true c new e = out_state (counts_cell (owner_seen c u.owners)) c new e
  out_change false c new e = same_none e

  same_owner : (k : Bool) (n : ℕ) → owner_event program source k n u v → SameThreads u v
  same_owner true n e = same_goes _ e
  same_owner false n e = same_none e

  pub threads_go : (s : Step) (a : Answer) → Event program source u s a v → ThreadsGo u s a v
  threads_go (CellChange c old new) (Number n) e = out_change (n == old) c new e
  threads_go (CellChange c old new) Done e = same_none e
  threads_go (CellChange c old new) (Looked n cargo) e = same_none e
  threads_go (CellChange c old new) (Took chain cargo) e = same_none e
  threads_go (CellStore c Owner n) a e = same_owner (is_counter n) n e
  threads_go (OutStore i n) a e = same_goes _ e
  threads_go s a e = same_none e

-- ---- no thread is begun

same_some : (ts us : List Known) → cells_of ts ≡ cells_of us → some_thread ts ≤ some_thread us
same_some [] us e = omega arith
same_some (t ∷ ts) [] e = let no : ⊥ = cc in absurd no
same_some (t ∷ ts) (u ∷ us) e = omega arith

less_after : (ts us : List Known) (t : Known) → us ≡ t ∷ ts → some_thread ts ≤ some_thread us
less_after [] us t e = omega arith
less_after (s ∷ ts) us t e = let f : some_thread us ≡ 1 = ap some_thread e in omega (arith, f)

module _ (u v : View) where
  none_out : (b : Bool) (c : ℕ) → GoesOut b u c v → NoneBegun u v.threads
  none_out true c e = less_after v.threads u.threads e.0 e.1
  none_out false c e = same_some v.threads u.threads e

  pub none_begun : (s : Step) (a : Answer) → ThreadsGo u s a v → NoneBegun u v.threads
  none_begun (CellChange c old new) a e = none_out _ c e
  none_begun s a e = same_some v.threads u.threads e
