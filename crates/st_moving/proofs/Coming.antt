-- A chain's thread on the machine that goes on with it, alone: at its next item (ready), behind the touch (touched) or the join (joined) at which it
-- waited. all_come has these and the root.
use Rattle.std.proofs.Common.{◌≡◌, ℕ, ◌^◌, ◌<◌, List, ◌∷◌, Option, Some, None, refl, ap, sym, ◌∙◌, subst, arith, []}
use Rattle.std.specs.Prelude.{slice_index_or}
use Rattle.std.specs.List.{Contains}
use Rattle.st_base.specs.declared.chain.Frame.{Frame}
use Rattle.st_base.specs.declared.chain.Waiting.TheVariants as waits
use Rattle.st_base.specs.declared.reg.Reg.TheVariants as registers
use Rattle.st_base.specs.declared.registers.Pick.TheVariants.{Saved}
use Rattle.st_base.specs.declared.thread.Activation.{Activation}
use Rattle.st_base.specs.declared.thread.Held.{Held}
use Rattle.st_base.specs.declared.thread.Held.TheVariants.{Number, Future, Counter}
use Rattle.st_base.specs.declared.thread.Standing.TheVariants.{Going}
use Rattle.st_base.specs.declared.thread.Thread.{Thread}
use Rattle.st_base.specs.Registers.{picked}
use Rattle.st_model.specs.declared.code.Layout.TheVariants.{Postprocessed}
use Rattle.st_model.specs.declared.program.Program.{Program}
use Rattle.st_model.specs.Accepted.{IsAccepted}
use Rattle.st_model.specs.Effect.{advanced}
use Rattle.st_model.specs.Heap.{own}
use Rattle.st_model.specs.Layout.{item_size}
use Rattle.st_model.specs.Memory.{Data}
use Rattle.st_words.specs.declared.view.Known.{Known}
use Rattle.st_made.specs.Items.{IsLive, IsPrivate, went}
use Rattle.st_step.specs.declared.state.State.{State}
use Rattle.st_step.specs.Frames.{value_in}
use Rattle.st_step.specs.Moves.{register, written}
use Rattle.st_step.proofs.Writes.{length-written, lo-written, hi-written, zero-written, values-written, register-written_other}
use Rattle.st_items.specs.Body.{Ends, IsOn}
use Rattle.st_items.proofs.KeptFiles.{frameless_kept, frameless_saved, not_kept}
use Rattle.st_items.proofs.Registers.{IsApart, file_written, frameless_written}
use Rattle.st_items.proofs.SavedRegisters.{value-written_other}
use Rattle.st_chain.specs.Walk.{word_in, is_held, named_by, FromNewest}
use Rattle.st_chain.specs.Threads.{AtEnd}
use Rattle.st_chain.specs.Chains.{KeepsFile, IsAtEntry}
use Rattle.st_chain.specs.Copying.{over}
use Rattle.st_chain.specs.Seen.{SameKept}
use Rattle.st_standing.specs.Standing.{under}
use Rattle.st_moving.specs.Moving.{AllCome, Came, IsAlone, Touched, Joined}
use Rattle.st_moving.proofs.Alone.{newest_alone, next_item, kept_file, alone}
use Rattle.st_moving.proofs.Root.{root_stands}
use Rattle.st_moving.proofs.Waiting.{behind, touching, touch_is, join_is}

-- ---- a value in a0

apart : IsApart registers.A0
apart = record { ra = λ e. absurd (omega (arith, e)); sp = λ e. absurd (omega (arith, e)); fp = λ e. absurd (omega (arith, e)); gp = λ e. absurd (omega (arith, e)) }

machine_valued : (ends : Ends) (held : List (Option ℕ)) (m : State) (v : ℕ) → v < 2 ^ 64 → IsOn ends (over held m) → IsOn ends (over held (written m registers.A0 v))
machine_valued ends held m v less on = record {
  has_registers = record { count = length-written m registers.A0 v ∙ on.has_registers.count; origin = zero-written m registers.A0 v ∙ on.has_registers.origin };
  values = values-written m registers.A0 v on.values less;
  words = on.words;
  lo = lo-written m registers.A0 v ∙ on.lo;
  hi = hi-written m registers.A0 v ∙ on.hi;
  sp = register-written_other m registers.A0 registers.Sp v (λ e. absurd (omega (arith, e))) ∙ on.sp;
  gp = register-written_other m registers.A0 registers.Gp v (λ e. absurd (omega (arith, e))) ∙ on.gp;
}

-- is kept by no call
valued_same : (m : State) (v : ℕ) → SameKept (value_in m) (value_in (written m registers.A0 v))
valued_same m v x kept = sym (value-written_other m registers.A0 v x (not_kept x 10 kept refl))

-- ---- a change of the thread alone

private_by : (k : Known) (after : Thread) → after.counters ≡ k.thread.counters → after.bytes ≡ k.thread.bytes → after.standing ≡ Going → IsPrivate k.thread (own after)
private_by k after counters bytes going = record { child = refl; added = refl; printed = refl; counters = counters; bytes = bytes; live = subst IsLive (sym going) tt }

module _ (p : Program) (d : Data) (accepted : IsAccepted p) (names : List (Held × ℕ)) (held : List (Option ℕ)) (ends : Ends) (m : State) (k : Known) (fs : List Frame) where
  abbrev Newest : ℕ → List Activation → Type 0
  Newest ahead acts = FromNewest p (named_by names) (is_held held) AtEnd ahead m.pc (register m registers.S0) (word_in held) (value_in m) acts fs

  -- ---- ready

  pub ready : Came p d names held ends m k fs waits.Ready → IsAlone p names held ends m k fs
  ready came =
      let (ahead, none, (holds, long), keeps, newest) = came.stands in
      let at : Newest 0 k.thread.activations = subst (λ (n : ℕ). Newest n k.thread.activations) none newest in
      alone p names held ends m k fs came.machine came.whole (λ x name there. keeps x name (holds x name there) there) (frameless_kept k.thread.registers long holds)
      (newest_alone p names held k.note.cell 0 m.pc (register m registers.S0) (value_in m) (value_in m) k.thread.activations fs accepted (λ x kept. refl) at)

  -- ---- behind a touch

  touched_by : (cell v : ℕ) (q : List ℕ) (acts : List Activation) → v < 2 ^ 64 → IsOn ends (over held m) → m.half ≡ None → k.thread.standing ≡ Going → k.thread.activations ≡ acts → slice_index_or k.thread.registers 16 None ≡ Some (Future q) → Contains names (Future q, cell)
      → KeepsFile (named_by names) k.thread.registers (value_in m) → IsAtEntry p 0x40 acts → Newest 1 acts → Touched p d names held ends m k fs cell v
  touched_by cell v q [] less on whole going acts future name keeps at newest = absurd at
  touched_by cell v q (a ∷ older) less on whole going acts future name keeps (function, item, has, kind) newest =
      let n = written m registers.A0 v in
      let regs = picked Saved k.thread.registers in
      let end = under p names (is_held held) k.note.cell [] [] in
      let one : item_size Postprocessed function item.kind ≡ 1 = ap (item_size Postprocessed function) kind in
      let with_value = newest_alone p names held k.note.cell 1 m.pc (register m registers.S0) (value_in m) (value_in n) (a ∷ older) fs accepted (valued_same m v) newest in
      let fp : register m registers.S0 ≡ register n registers.S0 = sym (register-written_other m registers.A0 registers.S0 v (λ e. absurd (omega (arith, e)))) in
      let next = next_item p (named_by names) (is_held held) end m.pc (register m registers.S0) (word_in held) (value_in n) a older fs function item has one with_value in
      let at = subst (λ (b : ℕ). FromNewest p (named_by names) (is_held held) end 0 m.pc b (word_in held) (value_in n) (advanced a ∷ older) fs) fp next in
      record {
        q = q;
        f = touching p d k a older;
        name = name;
        moves = touch_is p d k a older function item going acts has q kind future;
        past = record {
          private = private_by k (touching p d k a older v).own refl refl going;
          going = going;
          stands =
              alone p names held ends n (went k (touching p d k a older v).own) fs (machine_valued ends held m v less on) whole
              (file_written (named_by names) regs m registers.A0 v (Number v) (frameless_saved k.thread.registers).long on.has_registers (kept_file (named_by names) k.thread.registers (value_in m) keeps) refl)
              (frameless_written regs registers.A0 (Number v) apart (frameless_saved k.thread.registers)) at;
        };
      }

  pub touched : (cell v : ℕ) → v < 2 ^ 64 → Came p d names held ends m k fs (waits.Touch cell) → Touched p d names held ends m k fs cell v
  touched cell v less came =
      let (ahead, one, (q, future, name), keeps, newest) = came.stands in
      let (going, at) = came.can in
      touched_by cell v q k.thread.activations less came.machine came.whole going refl future name keeps at (subst (λ (n : ℕ). Newest n k.thread.activations) one newest)

  -- ---- behind a join

  joined_by : (cell least : ℕ) (q : List ℕ) (i : ℕ) (acts : List Activation) → IsOn ends (over held m) → m.half ≡ None → k.thread.standing ≡ Going → k.thread.activations ≡ acts → slice_index_or k.thread.registers 16 None ≡ Some (Counter q i) → Contains names (Counter q i, cell)
      → slice_index_or k.thread.registers 10 None ≡ Some (Number least) → KeepsFile (named_by names) k.thread.registers (value_in m) → IsAtEntry p 0x70 acts → Newest 1 acts → Joined p d names held ends m k fs cell least
  joined_by cell least q i [] on whole going acts counter name count keeps at newest = absurd at
  joined_by cell least q i (a ∷ older) on whole going acts counter name count keeps (function, item, has, kind) newest =
      let end = under p names (is_held held) k.note.cell [] [] in
      let one : item_size Postprocessed function item.kind ≡ 1 = ap (item_size Postprocessed function) kind in
      let lone = newest_alone p names held k.note.cell 1 m.pc (register m registers.S0) (value_in m) (value_in m) (a ∷ older) fs accepted (λ x kept. refl) newest in
      let next = next_item p (named_by names) (is_held held) end m.pc (register m registers.S0) (word_in held) (value_in m) a older fs function item has one lone in
      record {
        q = q;
        i = i;
        change = own (behind p d k a older);
        name = name;
        moves = join_is p d k a older function item going acts has q i least kind counter count;
        past = record {
          private = private_by k (behind p d k a older) refl refl going;
          going = going;
          stands = alone p names held ends m (went k (behind p d k a older)) fs on whole (kept_file (named_by names) k.thread.registers (value_in m) keeps) (frameless_saved k.thread.registers) next;
        };
      }

  pub joined : (cell least : ℕ) → Came p d names held ends m k fs (waits.Join cell least) → Joined p d names held ends m k fs cell least
  joined cell least came =
      let (ahead, one, (q, i, counter, name, count), keeps, newest) = came.stands in
      let (going, at) = came.can in
      joined_by cell least q i k.thread.activations came.machine came.whole going refl counter name count keeps at (subst (λ (n : ℕ). Newest n k.thread.activations) one newest)

pub all_come : AllCome
all_come p d accepted size = record {
  ready = λ names held ends m k fs came. ready p d accepted names held ends m k fs came;
  touch = λ names held ends m k fs cell v less came. touched p d accepted names held ends m k fs cell v less came;
  join = λ names held ends m k fs cell least came. joined p d accepted names held ends m k fs cell least came;
  root = λ names held ends m k on whole starts. root_stands p d names held ends m k on whole starts;
}
