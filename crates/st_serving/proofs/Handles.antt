-- The entries of futures and counters, and the one that polls, from what their items do on the heap-frame machine to where the machine goes on: read
-- touches, makes, adds, joins and polls.
use Rattle.std.proofs.Common.{◌≡◌, ◌≢◌, ◌⊎◌, inl, inr, ℕ, ◌+◌, Bool, List, ◌∷◌, Option, Some, refl, ap, sym, ◌∙◌, arith}
use Rattle.st_base.specs.declared.chain.Frame.{Frame}
use Rattle.st_base.specs.declared.line.Line.{Line}
use Rattle.st_base.specs.declared.reg.Reg.TheVariants as registers
use Rattle.st_base.specs.declared.registers.Pick.TheVariants.{Saved}
use Rattle.st_base.specs.declared.thread.Held.{Held}
use Rattle.st_base.specs.declared.thread.Held.TheVariants.{Number, Future, Counter}
use Rattle.st_base.specs.declared.thread.Standing.TheVariants.{Going}
use Rattle.st_base.specs.declared.thread.Thread.{Thread}
use Rattle.st_base.specs.Registers.{picked, read_register, write_register}
use Rattle.st_model.specs.declared.effect.Effect.{Effect}
use Rattle.st_model.specs.declared.effect.Effect.TheVariants.{Touches, Adds, Joins}
use Rattle.st_model.specs.declared.program.ItemKind.TheVariants as items
use Rattle.st_model.specs.declared.program.Program.{Program}
use Rattle.st_model.specs.declared.program.ProgramFunction.{ProgramFunction}
use Rattle.st_model.specs.declared.program.RuntimeCall.{RuntimeCall}
use Rattle.st_model.specs.declared.program.RuntimeCall.TheVariants as calls
use Rattle.st_model.specs.Accepted.{MayWrite}
use Rattle.st_model.specs.Effect.{advanced, int, name_of, with_number, with_name, runtime_call, entry_effect}
use Rattle.st_model.specs.Heap.{Path, Move, own, with_frames, effect_move}
use Rattle.st_model.specs.Memory.{Data}
use Rattle.st_words.specs.declared.view.Known.{Known}
use Rattle.st_step.specs.Moves.{register}
use Rattle.st_step.specs.Runs.{Situation}
use Rattle.st_items.specs.Body.{Ends}
use Rattle.st_made.specs.Items.{next_move}
use Rattle.st_standing.specs.Standing.{AtCall}
use Rattle.st_serving.specs.Serving.{CanServe, Counts, HasFuture, HasCounter, WrongCounter, WrongFuture, Polls, MakesCounter, TouchesFuture, AddsToCounter, JoinsCounter, GoesBack, back}
use Rattle.st_serving.proofs.Back.{stands_back, stands_written}
use Rattle.st_serving.proofs.Moves.{calling_moves, called_kind, NameThere, name_there, number_there}

a0_written : (function : ProgramFunction) → MayWrite function registers.A0
a0_written function = ((λ e. absurd (omega (arith, e))), (λ e. absurd (let never : ⊥ = cc in never)))

a6_written : (function : ProgramFunction) → MayWrite function registers.A6
a6_written function = ((λ e. absurd (omega (arith, e))), (λ e. absurd (let never : ⊥ = cc in never)))

-- nothing is counted
pub counts_none : (old new : Thread) → new.standing ≡ Going → new.forks ≡ old.forks → new.counters ≡ old.counters → new.bytes ≡ old.bytes → Counts old new 0 0 0
counts_none old new going forks counters bytes = record { going = going; forks_are = omega (arith, forks); counters_are = omega (arith, counters); bytes_are = omega (arith, bytes) }

module _ (p : Program) (d : Data) (names : List (Held × ℕ)) (holds : ℕ → Bool) (ends : Ends) (u : Situation) (k : Known) (fs : List Frame) (ks : List Known) (rest : List (List Frame)) (entry : ℕ) (can : CanServe p d names holds ends u k fs ks rest entry) where
  abbrev at : AtCall p names holds ends u k fs ks rest entry
  at = can.at

  abbrev line : Line
  line = at.item.line

  -- the thread behind the call, with the registers that a call keeps
  abbrev pub kept : Thread
  kept = with_frames k.thread (advanced at.top ∷ at.older) (picked Saved k.thread.registers)

  abbrev Does : Effect → Move
  Does effect = effect_move k.path k.thread at.older line effect

  pub kind_at : (n : ℕ) → entry ≡ n → n ≢ 0x10 → at.item.kind ≡ items.Entry n
  kind_at n is other = called_kind at.item.kind entry n at.enters is other

  pub does : (n : ℕ) (call : RuntimeCall) → entry ≡ n → n ≢ 0x10 → runtime_call n ≡ Some call → next_move p d k ≡ Does (entry_effect call at.top k.thread.registers)
  does n call is other called = calling_moves p d k.path k.thread at.top at.older at.function at.item n call can.going at.acts at.has (kind_at n is other) called

  pub kept_counts : Counts k.thread kept 0 0 0
  kept_counts = counts_none k.thread kept can.going refl refl refl

  pub kept_goes : (n : ℕ) → entry ≡ n → n ≢ 0x10 → GoesBack p d names holds ends u k fs ks rest (back u.state) names kept
  kept_goes n is other = stands_back p names names holds ends u k fs ks rest entry can.accepted (λ held n is. is) can.apart at n kept (kind_at n is other) refl refl

  -- the name that a6 has
  future_held : (q : Path) → read_register k.thread.registers registers.A6 ≡ Some (Future q) → HasFuture p d names holds ends u k fs ks rest q
  future_held q held = record { held = held; name = at.call.body.file 16 (Future q) held }

  counter_held : (q : Path) (i : ℕ) → read_register k.thread.registers registers.A6 ≡ Some (Counter q i) → HasCounter p d names holds ends u k fs ks rest q i
  counter_held q i held = record { held = held; name = at.call.body.file 16 (Counter q i) held }

  abbrev a6 : Option Held
  a6 = read_register k.thread.registers registers.A6

  named : (go : Held → Effect) → next_move p d k ≡ Does (with_name (name_of a6) go) → NameThere k.path k.thread at.older line a6 go
  named go moves = name_there k.path k.thread at.older line a6 go (λ e. can.defined (moves ∙ e))

  -- ---- nothing is done

  pub polls : entry ≡ 0x80 → Polls p d names holds ends u k fs ks rest
  polls is = record { next = kept; moves = does 0x80 calls.Poll is (λ e. omega arith) refl; counts = kept_counts; goes = kept_goes 0x80 is (λ e. omega arith) }

  -- ---- a future is touched

  pub touches : entry ≡ 0x40 → TouchesFuture p d names holds ends u k fs ks rest ⊎ WrongCounter p d names holds ends u k fs ks rest line
  touches is = by_case (named go moves)
    where
      go : Held → Effect
      go name = Touches name (advanced at.top) (picked Saved k.thread.registers)

      moves : next_move p d k ≡ Does (with_name (name_of a6) go)
      moves = does 0x40 calls.Touch is (λ e. omega arith) refl

      by_case : NameThere k.path k.thread at.older line a6 go → TouchesFuture p d names holds ends u k fs ks rest ⊎ WrongCounter p d names holds ends u k fs ks rest line
      by_case (inl (q, held, gives)) =
          let next : ℕ → Thread = λ v. record kept { registers = write_register (picked Saved k.thread.registers) registers.A0 (Number v) } in
          inl (record {
            q = q;
            named = future_held q held;
            f = λ v. own (next v);
            moves = moves ∙ ap Does gives;
            next = next;
            changes = λ v. refl;
            counts = λ v. counts_none k.thread (next v) can.going refl refl refl;
            goes = λ v less. stands_written p names names holds ends u k fs ks rest entry can.accepted (λ held n is. is) can.apart at 0x40 registers.A0 (Number v) v (next v) (kind_at 0x40 is (λ e. omega arith)) (inl refl) (a0_written at.function) refl less refl refl;
          })
      by_case (inr (q, i, held, gives)) = inr (q, i, counter_held q i held, moves ∙ ap Does gives)

  -- ---- a counter is made

  pub makes : entry ≡ 0x50 → MakesCounter p d names holds ends u k fs ks rest
  makes is =
      let name : Held = Counter k.path k.thread.counters in
      let next : Thread = record kept { registers = write_register (picked Saved k.thread.registers) registers.A6 name; counters = k.thread.counters + 1 } in
      record {
        next = next;
        moves = does 0x50 calls.Counter is (λ e. omega arith) refl;
        counts = record { going = can.going; forks_are = omega arith; counters_are = refl; bytes_are = omega arith };
        goes = λ names' c less grows there.
            stands_written p names names' holds ends u k fs ks rest entry can.accepted grows can.apart at 0x50 registers.A6 name c next
            (kind_at 0x50 is (λ e. omega arith)) (inr refl) (a6_written at.function) there less refl refl;
      }

  -- ---- a counter is counted up

  pub adds : entry ≡ 0x60 → AddsToCounter p d names holds ends u k fs ks rest ⊎ WrongFuture p d names holds ends u k fs ks rest line
  adds is = by_case (named go moves)
    where
      go : Held → Effect
      go name = Adds name (advanced at.top) (picked Saved k.thread.registers)

      moves : next_move p d k ≡ Does (with_name (name_of a6) go)
      moves = does 0x60 calls.Done is (λ e. omega arith) refl

      by_case : NameThere k.path k.thread at.older line a6 go → AddsToCounter p d names holds ends u k fs ks rest ⊎ WrongFuture p d names holds ends u k fs ks rest line
      by_case (inl (q, held, gives)) = inr (q, future_held q held, moves ∙ ap Does gives)
      by_case (inr (q, i, held, gives)) = inl (record { q = q; i = i; named = counter_held q i held; next = kept; moves = moves ∙ ap Does gives; counts = kept_counts; goes = kept_goes 0x60 is (λ e. omega arith) })

  -- ---- a counter is waited for

  pub joins : entry ≡ 0x70 → JoinsCounter p d names holds ends u k fs ks rest ⊎ WrongFuture p d names holds ends u k fs ks rest line
  joins is = by_case (named go moves)
    where
      waits : Held → ℕ → Effect
      waits name n = Joins name n (advanced at.top) (picked Saved k.thread.registers)

      go : Held → Effect
      go name = with_number (int k.thread.registers registers.A0) (waits name)

      moves : next_move p d k ≡ Does (with_name (name_of a6) go)
      moves = does 0x70 calls.Join is (λ e. omega arith) refl

      -- the number in a0
      counted : (name : Held) → with_name (name_of a6) go ≡ go name → (read_register k.thread.registers registers.A0 ≡ Some (Number (register u.state registers.A0))) × (next_move p d k ≡ Does (waits name (register u.state registers.A0)))
      counted name gives =
          let (n, held, number) = number_there k.path k.thread at.older line (read_register k.thread.registers registers.A0) (waits name) (λ e. can.defined (moves ∙ ap Does gives ∙ e)) in
          let value : register u.state registers.A0 ≡ n = at.call.body.file 10 (Number n) held in
          (held ∙ ap (λ (x : ℕ). Some (Number x)) (sym value), moves ∙ ap Does gives ∙ ap Does number ∙ ap (λ (x : ℕ). Does (waits name x)) (sym value))

      by_case : NameThere k.path k.thread at.older line a6 go → JoinsCounter p d names holds ends u k fs ks rest ⊎ WrongFuture p d names holds ends u k fs ks rest line
      by_case (inl (q, held, gives)) = inr (q, future_held q held, (counted (Future q) gives).1)
      by_case (inr (q, i, held, gives)) =
          let (least, moves_on) = counted (Counter q i) gives in
          inl (record { q = q; i = i; named = counter_held q i held; least = least; next = kept; moves = moves_on; counts = kept_counts; goes = kept_goes 0x70 is (λ e. omega arith) })
