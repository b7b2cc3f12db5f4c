-- The entry that prints, from what its item does on the heap-frame machine to where the machine goes on: read prints.
use Rattle.std.proofs.Common.{◌≡◌, ◌⊎◌, inl, inr, ℕ, ◌+◌, ◌%◌, Bool, true, false, List, [], ◌∷◌, refl, ap, sym, ◌∙◌, arith}
use Rattle.std.specs.Prelude.{nat_lt}
use Rattle.std.proofs.lemmas.Bool.{ltb-true, ltb-false}
use Rattle.st_base.specs.declared.chain.Frame.{Frame}
use Rattle.st_base.specs.declared.line.Line.{Line}
use Rattle.st_base.specs.declared.reg.Reg.TheVariants as registers
use Rattle.st_base.specs.declared.registers.Pick.TheVariants.{Saved}
use Rattle.st_base.specs.declared.thread.Held.{Held}
use Rattle.st_base.specs.declared.thread.Held.TheVariants.{Number}
use Rattle.st_base.specs.declared.thread.Thread.{Thread}
use Rattle.st_base.specs.Registers.{picked, read_register}
use Rattle.st_model.specs.declared.effect.Effect.{Effect}
use Rattle.st_model.specs.declared.effect.Effect.TheVariants.{Prints as PrintsByte}
use Rattle.st_model.specs.declared.program.Program.{Program}
use Rattle.st_model.specs.declared.program.RuntimeCall.TheVariants as calls
use Rattle.st_model.specs.Effect.{advanced}
use Rattle.st_model.specs.Heap.{Path, printed_move, effect_move}
use Rattle.st_model.specs.Memory.{Data}
use Rattle.st_model.specs.Ordinary.{is_root}
use Rattle.st_words.specs.declared.view.Known.{Known}
use Rattle.st_step.specs.Moves.{register}
use Rattle.st_step.specs.Runs.{Situation}
use Rattle.st_items.specs.Body.{Ends}
use Rattle.st_made.specs.Items.{next_move}
use Rattle.st_standing.specs.Standing.{AtCall}
use Rattle.st_serving.specs.Serving.{CanServe, Prints, IsFull, PutsInChild}
use Rattle.st_serving.proofs.Back.{stands_back}
use Rattle.st_serving.proofs.Handles.{kind_at, does, kept}
use Rattle.st_serving.proofs.Moves.{number_there}

module _ (p : Program) (d : Data) (names : List (Held × ℕ)) (holds : ℕ → Bool) (ends : Ends) (u : Situation) (k : Known) (fs : List Frame) (ks : List Known) (rest : List (List Frame)) (entry : ℕ) (can : CanServe p d names holds ends u k fs ks rest entry) (is : entry ≡ 0x90) where
  abbrev at : AtCall p names holds ends u k fs ks rest entry
  at = can.at

  abbrev line : Line
  line = at.item.line

  abbrev byte : ℕ
  byte = register u.state registers.A0 % 256

  -- the thread behind the call
  abbrev next : Thread
  next = record (kept p d names holds ends u k fs ks rest entry can) { bytes = k.thread.bytes + 1 }

  moves : next_move p d k ≡ printed_move (is_root k.path) (nat_lt k.thread.bytes 1048576) byte k.thread next line
  moves =
      let prints : ℕ → Effect = λ n. PrintsByte (n % 256) (advanced at.top) (picked Saved k.thread.registers) in
      let by_item = does p d names holds ends u k fs ks rest entry can 0x90 calls.Putc is (λ e. omega arith) refl in
      let (n, held, number) = number_there k.path k.thread at.older line (read_register k.thread.registers registers.A0) prints (λ e. can.defined (by_item ∙ e)) in
      let value : register u.state registers.A0 ≡ n = at.call.body.file 10 (Number n) held in
      by_item
      ∙ ap (λ (effect : Effect). effect_move k.path k.thread at.older line effect) number
      ∙ ap (λ (x : ℕ). printed_move (is_root k.path) (nat_lt k.thread.bytes 1048576) (x % 256) k.thread next line) (sym value)

  goes_on : k.path ≡ [] → nat_lt k.thread.bytes 1048576 ≡ true → Prints p d names holds ends u k fs ks rest
  goes_on root room = record {
    root = root;
    room = ltb-true k.thread.bytes 1048576 room;
    next = next;
    moves =
        moves
        ∙ ap (λ (path : Path). printed_move (is_root path) (nat_lt k.thread.bytes 1048576) byte k.thread next line) root
        ∙ ap (λ (b : Bool). printed_move true b byte k.thread next line) room;
    counts = record { going = can.going; forks_are = omega arith; counters_are = omega arith; bytes_are = refl };
    goes = stands_back p names names holds ends u k fs ks rest entry can.accepted (λ held n is. is) can.apart at 0x90 next (kind_at p d names holds ends u k fs ks rest entry can 0x90 is (λ e. omega arith)) refl refl;
  }

  full : k.path ≡ [] → nat_lt k.thread.bytes 1048576 ≡ false → IsFull p d names holds ends u k fs ks rest
  full root many = record {
    root = root;
    many = ltb-false k.thread.bytes 1048576 many;
    moves =
        moves
        ∙ ap (λ (path : Path). printed_move (is_root path) (nat_lt k.thread.bytes 1048576) byte k.thread next line) root
        ∙ ap (λ (b : Bool). printed_move true b byte k.thread next line) many;
  }

  in_child : (x : ℕ) (xs : Path) → k.path ≡ x ∷ xs → PutsInChild p d names holds ends u k fs ks rest line
  in_child x xs child = record {
    child = λ e. absurd (let never : ⊥ = cc (child, e) in never);
    moves = moves ∙ ap (λ (path : Path). printed_move (is_root path) (nat_lt k.thread.bytes 1048576) byte k.thread next line) child;
  }

  by_room : (b : Bool) → k.path ≡ [] → nat_lt k.thread.bytes 1048576 ≡ b → Prints p d names holds ends u k fs ks rest ⊎ (IsFull p d names holds ends u k fs ks rest ⊎ PutsInChild p d names holds ends u k fs ks rest line)
  by_room true root room = inl (goes_on root room)
  by_room false root many = inr (inl (full root many))

  by_path : (path : Path) → k.path ≡ path → Prints p d names holds ends u k fs ks rest ⊎ (IsFull p d names holds ends u k fs ks rest ⊎ PutsInChild p d names holds ends u k fs ks rest line)
  by_path [] root = by_room (nat_lt k.thread.bytes 1048576) root refl
  by_path (x ∷ xs) child = inr (inr (in_child x xs child))

  pub prints : Prints p d names holds ends u k fs ks rest ⊎ (IsFull p d names holds ends u k fs ks rest ⊎ PutsInChild p d names holds ends u k fs ks rest line)
  prints = by_path k.path refl
