-- That the conditions of the lease rule's groups are needed. Each law is of one step or one view that is wrong in one condition, in all worlds where that happens: after it the group can't hold,
-- whatever it says of where numbers, threads and words are.
use Rattle.std.specs.Prelude.{◌≡◌, ◌≢◌, ℕ, suc, ◌≤◌, ◌<◌, true, false, Some, None}
use Rattle.std.specs.List.{Contains}
use Rattle.st_base.specs.declared.chain.Chain.{Chain}
use Rattle.st_base.specs.declared.chain.Frame.{Frame}
use Rattle.st_base.specs.declared.chain.Waiting.TheVariants as waits
use Rattle.st_words.specs.declared.view.CellWord.TheVariants.{Value, Next, Standing}
use Rattle.st_words.specs.declared.view.Slot.TheVariants.{Mail}
use Rattle.st_words.specs.declared.view.Cargo.{Cargo}
use Rattle.st_words.specs.declared.view.Answering.{Answering}
use Rattle.st_words.specs.declared.view.View.{View}
use Rattle.st_words.specs.Encodings.{full_word, waits_word, ready, given}
use Rattle.st_words.specs.Steps.{StackStore, Look, CellStore, CellChange, Draw, ActiveAdd, MailStore, SlotPut, Done, Number, Looked, return_place, kept, Holds, IsLeased, HasChain, HasInHand}
use Rattle.st_words.specs.Careful.{InHand}
use Rattle.st_words.specs.Views.{Does, with_next}
use Rattle.st_world.specs.World.{World, with_word, seen, all_words, world_after}
use Rattle.st_spots.specs.Listing.{Listed, Behind, Lists, counters}
use Rattle.st_lists.specs.Going.{IsQueued}
use Rattle.st_holders.specs.Leasing.{Leasing}
use Rattle.st_requests.specs.Mailing.{Requests}
use Rattle.st_counts.specs.Counting.{Counts}
use Rattle.st_seats.specs.Placing.{Places}
use Rattle.st_draws.specs.Drawing.{Draws}
use Rattle.st_knows.specs.Knowing.{Knows}

-- ---- a list that was handed out, and its tail

-- an entry of the hand leads a list: what is behind it isn't read yet
abbrev pub LeadsList : View → ℕ → Type 0
LeadsList u c = InHand u c (λ y. y.leads ≡ true)

-- its Next word is stored before that
abbrev pub LeaderLinked : Type 0
LeaderLinked = (x : World) (w c n : ℕ) (v : View) → LeadsList (x.view w) c → Does (x.view w) (CellStore c Next n) Done v → Lists (world_after x w (CellStore c Next n) Done v) → ⊥

-- a number is behind an entry whose Next word is 0
abbrev pub TailUnlinked : Type 0
TailUnlinked = (x : World) (l : Lists x) (w c d k : ℕ) → x.next c ≡ 0 → l.spot d ≡ Behind w c k → ⊥

-- the worker takes the list to end at the entry, as though it had read 0 there
abbrev pub ending_at : ℕ → View → View
ending_at c u = record u { hand = with_next c 0 u.hand }

-- the Next word is overwritten by 0 while the entry leads, and the list is taken to end there: the chain of the number that was behind it still waits in its slot, and is lost
abbrev pub TailLost : Type 0
TailLost =
    (x : World) (l : Lists x) (w c d : ℕ) → Places x l → LeadsList (x.view w) c → x.next c ≡ suc d → (l' : Lists (seen w (ending_at c (x.view w)) (with_word c Next 0 x))) → Places (seen w (ending_at c (x.view w)) (with_word c Next 0 x)) l' → ⊥

-- ---- waiters

-- a chain waits in its slot, and its number is in no list and no hand
abbrev pub WaiterForgotten : Type 0
WaiterForgotten = (x : World) (l : Lists x) (d : ℕ) → Places x l → x.home d ≢ None → x.standing d ≡ waits_word → (IsQueued (l.spot d) → ⊥) → ⊥

-- a number is listed at a future that is full
abbrev pub ListedAtFull : Type 0
ListedAtFull = (x : World) (l : Lists x) (c d k : ℕ) → counters x.owner c ≡ false → x.state c ≡ full_word → l.spot d ≡ Listed c k → ⊥

-- a future becomes full, and the list that waited for it isn't handed to the worker: its hand stays
abbrev pub WaiterLeft : Type 0
WaiterLeft =
    (x : World) (l : Lists x) (w c d k : ℕ) (v : View) → Places x l → counters x.owner c ≡ false → l.spot d ≡ Listed c k → v.hand ≡ (x.view w).hand → (l' : Lists (world_after x w (CellChange c (x.state c) full_word) (Number (x.state c)) v)) → Places (world_after x w (CellChange c (x.state c) full_word) (Number (x.state c)) v) l' → ⊥

-- a waiter is made ready while its chain is in the worker's turn
abbrev pub ReadiedInTurn : Type 0
ReadiedInTurn = (x : World) (w c : ℕ) (v : View) → HasChain (x.view w) c → HasInHand (x.view w) c → Does (x.view w) (CellStore c Standing ready) Done v → (l : Lists (world_after x w (CellStore c Standing ready) Done v)) → Places (world_after x w (CellStore c Standing ready) Done v) l → ⊥

-- a chain is put into mail that waits for a future which isn't full
abbrev pub WaitsInMail : Type 0
WaitsInMail =
    (x : World) (w at e : ℕ) (chain : Chain) (cargo : Cargo) (v : View) → cargo.carried.wait ≡ waits.Touch e → x.state e ≢ full_word → (l : Lists (world_after x w (SlotPut (Mail at) chain cargo) Done v)) → Places (world_after x w (SlotPut (Mail at) chain cargo) Done v) l → ⊥

-- ---- counts, frames, requests, drawn numbers, and what was seen

-- a worker with a number in hand takes back the only unit of its share
abbrev pub UnitLowered : Type 0
UnitLowered = (x : World) (w c n : ℕ) (v : View) → (x.view w).share ≤ 1 → HasInHand (x.view w) c → Does (x.view w) (ActiveAdd false) (Number n) v → Counts (world_after x w (ActiveAdd false) (Number n) v) → ⊥

-- a look answers 0, and the worker takes an exported frame back that it doesn't hold, while the return word isn't 0: another view or a chain in a slot holds its words still
abbrev pub FrameTakenBack : Type 0
FrameTakenBack =
    (x : World) (w : ℕ) (f : Frame) (v : View) → Leasing x → w < x.workers → Contains (x.view w).exported f → kept (x.view w).held (return_place f) ≡ None → x.stack (return_place f) ≢ 0 → Does (x.view w) (Look (return_place f)) (Looked 0 (all_words x)) v → Leasing (world_after x w (Look (return_place f)) (Looked 0 (all_words x)) v) → ⊥

-- the holder of a leased frame stores a 0 into its return word, and goes on holding it
abbrev pub ReturnCleared : Type 0
ReturnCleared = (x : World) (w : ℕ) (f : Frame) (v : View) → IsLeased (x.view w) f → Holds (x.view w) (return_place f) → Does (x.view w) (StackStore (return_place f) 0) Done v → Leasing (world_after x w (StackStore (return_place f) 0) Done v) → ⊥

-- who answers a request tells that a chain was given, and has put none: the mail slot is empty
abbrev pub GivenUntruly : Type 0
GivenUntruly = (x : World) (w : ℕ) (y : Answering) (v : View) → Requests x → (x.view w).answering ≡ Some y → y.put ≡ false → y.told ≡ false → Requests (world_after x w (MailStore y.asker given) Done v) → ⊥

-- a number is drawn and Drawn doesn't rise, so another worker draws it again, whatever Drawn is from then on
abbrev pub DrawnTwice : Type 0
DrawnTwice = (x : World) (v w n : ℕ) (a b : View) → v ≢ w → Does (x.view v) Draw (Number x.drawn) a → Does (x.view w) Draw (Number x.drawn) b → Draws (seen w b (seen v a (record x { drawn = n }))) → ⊥

-- another value is stored into a cell than one that a view has seen there
abbrev pub ValueOverwritten : Type 0
ValueOverwritten = (x : World) (v w c m n : ℕ) (a : View) → Contains (x.view v).values (c, m) → n ≢ m → Does (x.view w) (CellStore c Value n) Done a → Knows (world_after x w (CellStore c Value n) Done a) → ⊥
