-- All that workers share, and what each of them holds, as functions of numbers: the words, the slots with what goes with the chains in them, and the
-- views, whatever keeps them. Read World, Finds (what a step of a worker answers), and world_after (what it leaves, with the view after it). A board
-- over vectors and a table of shared words both show a world; what is said of worlds names neither.
use Rattle.std.specs.Prelude.{◌≡◌, ℕ, ◌*◌, Bool, true, false, ◌&&◌, ◌==◌, map, Option, Some, None}
use Rattle.std.specs.List.{range_with_len}
use Rattle.std.specs.Int.{from_bool}
use Rattle.st_base.specs.declared.chain.Chain.{Chain}
use Rattle.st_words.specs.declared.view.Cargo.{Cargo}
use Rattle.st_words.specs.declared.view.CellWord.{CellWord}
use Rattle.st_words.specs.declared.view.CellWord.TheVariants.{Owner, State, Value, Next, Standing, Trap}
use Rattle.st_words.specs.declared.view.Slot.{Slot}
use Rattle.st_words.specs.declared.view.Slot.TheVariants.{Cell, Mail}
use Rattle.st_words.specs.declared.view.View.{View}
use Rattle.st_words.specs.Encodings.{ready}
use Rattle.st_words.specs.Steps.{Step, StackLoad, StackStore, Mark, Look, CellLoad, CellStore, CellChange, Draw, ActiveAdd, ActiveLoad, StopLoad, StopSet, RootTake, RequestLoad, RequestChange, MailLoad, MailStore, OutStore, SlotTake, SlotPut, OutLoad, Answer, Done, Number, Looked, Took}
use Rattle.st_words.specs.Views.{no_cargo, in_hand}
use Rattle.st_words.specs.Plain.{added, one_more, stopped, readied}
use Rattle.st_world.specs.Functions.{put}

-- ---- worlds

-- how many workers and cells there are, and how many words one worker's stack has; words that aren't there read as 0, and slots as empty
pub record World : Type 0 where
  pub workers : ℕ
  pub cells : ℕ
  pub each : ℕ
  pub stack : ℕ → ℕ
  pub owner : ℕ → ℕ
  pub state : ℕ → ℕ
  pub value : ℕ → ℕ
  pub next : ℕ → ℕ
  pub standing : ℕ → ℕ
  pub trap : ℕ → ℕ
  pub drawn : ℕ
  pub active : ℕ
  pub stop : ℕ
  pub root : ℕ
  pub request : ℕ → ℕ
  pub mail : ℕ → ℕ
  pub out : ℕ → ℕ
  pub home : ℕ → Option Chain
  pub home_cargo : ℕ → Cargo
  pub post : ℕ → Option Chain
  pub post_cargo : ℕ → Cargo
  pub view : ℕ → View

-- what lies in a slot: that of a cell, or the mail of a worker
abbrev pub slot_of : World → Slot → Option Chain
slot_of x (Cell c) = x.home c
slot_of x (Mail v) = x.post v

-- what goes with it
abbrev pub cargo_of : World → Slot → Cargo
cargo_of x (Cell c) = x.home_cargo c
cargo_of x (Mail v) = x.post_cargo v

-- a word of a cell
abbrev pub cell_word : World → CellWord → ℕ → ℕ
cell_word x Owner = x.owner
cell_word x State = x.state
cell_word x Value = x.value
cell_word x Next = x.next
cell_word x Standing = x.standing
cell_word x Trap = x.trap

-- ---- changes

abbrev pub with_word : ℕ → CellWord → ℕ → World → World
with_word c Owner n x = record x { owner = put x.owner c n }
with_word c State n x = record x { state = put x.state c n }
with_word c Value n x = record x { value = put x.value c n }
with_word c Next n x = record x { next = put x.next c n }
with_word c Standing n x = record x { standing = put x.standing c n }
with_word c Trap n x = record x { trap = put x.trap c n }

abbrev pub with_chain : Slot → Option Chain → Cargo → World → World
with_chain (Cell c) chain cargo x = record x { home = put x.home c chain; home_cargo = put x.home_cargo c cargo }
with_chain (Mail v) chain cargo x = record x { post = put x.post v chain; post_cargo = put x.post_cargo v cargo }

-- the worker w has the view v
abbrev pub seen : ℕ → View → World → World
seen w v x = record x { view = put x.view w v }

-- a waiter that becomes ready counts as active from then on, and its Standing word is 3
abbrev pub waking : Bool → ℕ → World → World
waking true c x = record x { home_cargo = put x.home_cargo c (readied (x.home_cargo c)) }
waking false c x = x

-- a store of a Standing word, by the view of who stores it
abbrev pub woken : View → ℕ → CellWord → ℕ → World → World
woken v c Standing n x = waking ((n == ready) && in_hand c v.hand) c x
woken v c _ n x = x

-- a compare and exchange stores where it found what it compared with
abbrev pub put_if : Bool → (ℕ → ℕ) → ℕ → ℕ → ℕ → ℕ
put_if true f i n = put f i n
put_if false f i n = f

-- ---- steps

-- all words of the stacks are told at a look
abbrev pub all_words : World → Cargo
all_words x = record no_cargo { words = map (λ p. Some (x.stack p)) (range_with_len 0 (x.workers * x.each)) }

-- what a step of the worker w answers
abbrev pub Finds : World → ℕ → Step → Answer → Type 0
Finds x w (StackLoad p) (Number n) = n ≡ x.stack p
Finds x w (StackStore p n) Done = Prim.Unit
Finds x w (Mark p) Done = Prim.Unit
Finds x w (Look p) (Looked n cargo) = (n ≡ x.stack p) × (cargo ≡ all_words x)
Finds x w (CellLoad c word) (Number n) = n ≡ cell_word x word c
Finds x w (CellStore c word n) Done = Prim.Unit
Finds x w (CellChange c old new) (Number n) = n ≡ x.state c
Finds x w Draw (Number n) = n ≡ x.drawn
Finds x w (ActiveAdd up) (Number n) = n ≡ x.active
Finds x w ActiveLoad (Number n) = n ≡ x.active
Finds x w StopLoad (Number n) = n ≡ x.stop
Finds x w (StopSet code) (Number n) = n ≡ x.stop
Finds x w RootTake (Number n) = n ≡ from_bool (x.root == 1)
Finds x w (RequestLoad at) (Number n) = n ≡ x.request at
Finds x w (RequestChange at old new) (Number n) = n ≡ x.request at
Finds x w MailLoad (Number n) = n ≡ x.mail w
Finds x w (MailStore at n) Done = Prim.Unit
Finds x w (OutStore i n) Done = Prim.Unit
Finds x w (SlotTake slot) (Took chain cargo) = (chain ≡ slot_of x slot) × (cargo ≡ cargo_of x slot)
Finds x w (SlotPut slot chain cargo) Done = Prim.Unit
Finds x w (OutLoad i) (Number n) = n ≡ x.out i
Finds _ _ _ _ = ⊥

-- what a step of the worker w with this answer leaves of the words and slots
abbrev pub changed : World → ℕ → Step → Answer → World
changed x w (StackStore p n) a = record x { stack = put x.stack p n }
changed x w (Mark p) a = record x { stack = put x.stack p 0 }
changed x w (CellStore c word n) a = woken (x.view w) c word n (with_word c word n x)
changed x w (CellChange c old new) (Number n) = record x { state = put_if (n == old) x.state c new }
changed x w Draw a = record x { drawn = one_more x.drawn }
changed x w (ActiveAdd up) a = record x { active = added up x.active }
changed x w (StopSet code) (Number n) = record x { stop = stopped (n == 0) code x.stop }
changed x w RootTake a = record x { root = 0 }
changed x w (RequestChange at old new) (Number n) = record x { request = put_if (n == old) x.request at new }
changed x w (MailStore at n) a = record x { mail = put x.mail at n }
changed x w (OutStore i n) a = record x { out = put x.out i n }
changed x w (SlotTake slot) a = with_chain slot None no_cargo x
changed x w (SlotPut slot chain cargo) a = with_chain slot (Some chain) cargo x
changed x w _ a = x

-- with the view after it
abbrev pub world_after : World → ℕ → Step → Answer → View → World
world_after x w s a v = seen w v (changed x w s a)
