-- The entry of a fork, from what its item does on the heap-frame machine to its second jump, where the machine goes on: read forks. The parent is read behind
-- its fork there, with the child's name in the fork's register (over_put, newest_put).
use Rattle.std.proofs.Common.{◌≡◌, ℕ, ◌+◌, ◌-◌, ◌*◌, ◌^◌, ◌<◌, Bool, List, ◌∷◌, Option, Some, None, slice_get, refl, ap, sym, ◌∙◌, subst, arith}
use Rattle.std.specs.List.{Contains}
use Rattle.st_base.specs.declared.chain.Frame.{Frame}
use Rattle.st_base.specs.declared.reg.Reg.{Reg}
use Rattle.st_base.specs.declared.reg.Reg.TheVariants as registers
use Rattle.st_base.specs.Reg.{reg_number}
use Rattle.st_base.specs.declared.registers.Pick.TheVariants.{Saved, Arguments}
use Rattle.st_base.specs.declared.thread.Activation.{Activation}
use Rattle.st_base.specs.declared.thread.ActivationKind.TheVariants.{Forked}
use Rattle.st_base.specs.declared.thread.Held.{Held}
use Rattle.st_base.specs.declared.thread.Held.TheVariants.{Future}
use Rattle.st_base.specs.declared.thread.Thread.{Thread}
use Rattle.st_base.specs.Registers.{picked, write_register}
use Rattle.st_model.specs.declared.code.Layout.TheVariants.{Postprocessed}
use Rattle.st_model.specs.declared.program.ItemKind.{ItemKind}
use Rattle.st_model.specs.declared.program.ItemKind.TheVariants as items
use Rattle.st_model.specs.declared.program.Program.{Program}
use Rattle.st_model.specs.declared.program.ProgramFunction.{ProgramFunction}
use Rattle.st_model.specs.Accepted.{Fits}
use Rattle.st_model.specs.Effect.{File, advanced, entered, fork_into}
use Rattle.st_model.specs.Heap.{Moves, new_thread, with_frames, effect_move}
use Rattle.st_model.specs.Layout.{item_size}
use Rattle.st_model.specs.Memory.{Data}
use Rattle.st_words.specs.declared.view.Known.{Known}
use Rattle.st_step.specs.Frames.{address_in, value_in}
use Rattle.st_step.specs.Moves.{register, written, at_place}
use Rattle.st_step.specs.Runs.{Situation}
use Rattle.st_step.proofs.Writes.{register-written_other}
use Rattle.st_items.specs.Body.{Ends, IsInBody}
use Rattle.st_items.specs.Ways.{IsBehind, JumpsTo}
use Rattle.st_items.proofs.Addresses.{next_address, first_address}
use Rattle.st_items.proofs.Body.{body_written}
use Rattle.st_items.proofs.ItemCode.{formed_of}
use Rattle.st_items.proofs.Jumps.{fork_call_jumps}
use Rattle.st_items.proofs.KeptFiles.{picked_file, holds_saved, frameless_saved, frameless_arguments}
use Rattle.st_items.proofs.Linking.{fork_back}
use Rattle.st_items.proofs.Registers.{file_written, frameless_written}
use Rattle.st_chain.specs.Laws.{HasNames}
use Rattle.st_chain.specs.Threads.{HasForked, HoldsOver, put_value}
use Rattle.st_chain.specs.Walk.{named_by, FromNewest}
use Rattle.st_made.specs.Items.{next_move, went, born, child_path}
use Rattle.st_standing.specs.Standing.{under, IsForked, AtCall}
use Rattle.st_serving.specs.Serving.{CanServe, Forks, back}
use Rattle.st_serving.proofs.Back.{Older, body_called, body_kept, older_sees, newest_at}
use Rattle.st_serving.proofs.ForkRegisters.{IsForkRegister, fork_register, same_put, put_file, holds_put}
use Rattle.st_serving.proofs.Moves.{moves_by, fork_kind}
use Rattle.st_serving.proofs.Unchanged.{newest_sees}

module _ (p : Program) (d : Data) (names : List (Held × ℕ)) (holds : ℕ → Bool) (ends : Ends) (u : Situation) (k : Known) (fs : List Frame) (ks : List Known) (rest : List (List Frame)) (entry : ℕ) (can : CanServe p d names holds ends u k fs ks rest entry) where
  abbrev at : AtCall p names holds ends u k fs ks rest entry
  at = can.at

  module _ (g : ℕ) (handle : Reg) (kind : at.item.kind ≡ items.Fork g handle) (fits : Fits p at.function (items.Fork g handle)) (callee : ProgramFunction) (callee_is : slice_get p.functions g ≡ Some callee) where
    abbrev name : Held
    name = Future (child_path k)

    abbrev registers_kept : File
    registers_kept = picked Saved k.thread.registers

    abbrev next : Thread
    next = record (with_frames k.thread (advanced at.top ∷ at.older) (write_register registers_kept handle name)) { forks = k.thread.forks + 1 }

    abbrev first : Activation
    first = entered g callee registers_kept Forked

    abbrev child : Thread
    child = new_thread first (picked (Arguments callee.ints callee.handles) k.thread.registers)

    moves : next_move p d k ≡ Moves (record { own = next; child = Some child; added = None; printed = None })
    moves =
        moves_by p d k.path k.thread at.top at.older at.function at.item (items.Fork g handle) can.going at.acts at.has kind
        ∙ ap (λ (o : Option ProgramFunction). effect_move k.path k.thread at.older at.item.line (fork_into g handle o at.top k.thread.registers)) callee_is

    three : item_size Postprocessed at.function at.item.kind ≡ 3
    three = ap (λ (c : ItemKind). item_size Postprocessed at.function c) kind

    is_fork : IsForkRegister handle
    is_fork = fork_register handle fits.1

    -- where the machine goes on
    abbrev pc : ℕ
    pc = register u.state registers.Ra

    second_address : pc ≡ address_in Postprocessed p at.top.function at.function at.top.next + 4 * 1
    second_address = let to = at.call.back in omega (arith, to)

    behind_address : pc + 4 + 4 ≡ address_in Postprocessed p at.top.function at.function (at.top.next + 1)
    behind_address =
        let to = at.call.back in
        let behind = next_address Postprocessed p at.top.function at.function at.top.next at.item at.has in
        let size = three in
        omega (arith, to, behind, size)

    behind : IsBehind Postprocessed p pc
    behind = record { f = at.top.function; function = at.function; i = at.top.next; item = at.item; has = at.has; k = 1; some = omega arith; few = (let size = three in omega (arith, size)); at = second_address }

    jumps : JumpsTo Postprocessed p pc registers.Ra (address_in Postprocessed p g callee 0)
    jumps =
        subst (λ (from : ℕ). JumpsTo Postprocessed p from registers.Ra (address_in Postprocessed p g callee 0)) (sym at.call.back)
        (subst (λ (to : ℕ). JumpsTo Postprocessed p (address_in Postprocessed p at.top.function at.function at.top.next + 4) registers.Ra to) (sym (first_address Postprocessed p g callee))
        (fork_call_jumps Postprocessed p at.top.function at.function at.top.next at.item g handle can.size at.has kind))

    -- the parent has forked
    forked : HasForked p (pc + 4) handle next.activations
    forked =
        let same : at.top.next ≡ at.top.next + 1 - 1 = omega arith in
        record {
          function = at.function;
          item = at.item;
          has = record { named = at.has.named; placed = subst (λ (i : ℕ). slice_get at.function.items i ≡ Some at.item) same at.has.placed };
          g = g;
          forks = kind;
          third = behind_address;
        }

    module _ (names' : List (Held × ℕ)) (c : ℕ) (less : c < 2 ^ 64) (grows : HasNames names names') (there : Contains names' (name, c)) where
      -- the registers of the parent behind the fork
      abbrev value : ℕ → ℕ
      value = put_value (reg_number handle) c (value_in u.state)

      kept : IsInBody p (named_by names') (Older p names names' holds ends u k fs ks rest entry can.accepted grows can.apart at) ends at.f.low u at.top registers_kept at.function
      kept = body_kept p names names' holds ends u k fs ks rest entry can.accepted grows can.apart at

      over_put : HoldsOver (named_by names') next.registers value
      over_put =
          let written_file = file_written (named_by names') registers_kept u.state handle c name kept.frameless.long kept.machine.has_registers kept.file there in
          record {
            file = put_file handle is_fork (named_by names') next.registers u.state c kept.machine.has_registers.count written_file;
            long = (frameless_written registers_kept handle name is_fork.apart (frameless_saved k.thread.registers)).long;
            holds = holds_put handle is_fork registers_kept name (holds_saved k.thread.registers);
          }

      newest_put : FromNewest p (named_by names') holds (under p names' holds k.note.cell ks rest) 0 (pc + 4 + 4) (register u.state registers.S0) u.word value next.activations fs
      newest_put =
          let end = under p names' holds k.note.cell ks rest in
          let m = at_place (pc + 4 + 4) (written u.state handle c) in
          let sees = older_sees p names names' holds ends u k fs ks rest entry can.accepted grows can.apart at in
          let body = body_written p (named_by names') (Older p names names' holds ends u k fs ks rest entry can.accepted grows can.apart at) ends at.f.low u at.top registers_kept at.function handle name c (pc + 4 + 4) (at.top.next + 1) sees fits.2 is_fork.of_body there less kept in
          let fp : register m registers.S0 ≡ register u.state registers.S0 = register-written_other u.state handle registers.S0 c (λ e. is_fork.apart.fp (sym e)) in
          let read = newest_at p names names' holds ends u k fs ks rest entry can.accepted grows can.apart at (pc + 4 + 4) (register m registers.S0) (value_in m) (advanced at.top) next.activations refl body.here (omega arith) behind_address fp body.framed in
          let put = newest_sees p names' holds can.accepted k.note.cell ks rest u.word next.activations fs 0 (pc + 4 + 4) (register m registers.S0) (value_in m) value (λ x is. sym (same_put handle is_fork u.state c kept.machine.has_registers.count x)) read in
          subst (λ (base : ℕ). FromNewest p (named_by names') holds end 0 (pc + 4 + 4) base u.word value next.activations fs) fp put

      goes : IsForked p names' holds ends (record { state = back u.state; word = u.word }) (born c (child_path k) child) (went k next ∷ ks) (fs ∷ rest)
      goes =
          let called = body_called p names names' holds ends u k fs ks rest entry can.accepted grows can.apart at in
          let older = Older p names names' holds ends u k fs ks rest entry can.accepted grows can.apart at in
          let sees = older_sees p names names' holds ends u k fs ks rest entry can.accepted grows can.apart at in
          let second = fork_back Postprocessed p (named_by names') older ends at.f.low u at.top k.thread.registers at.function at.item g handle entry can.accepted can.size at.has kind sees (record { body = called; at = at.call.at; back = at.call.back; whole = at.call.whole }) in
          record {
            machine = second.body.machine;
            whole = refl;
            file = picked_file (named_by names') (Arguments callee.ints callee.handles) k.thread.registers (value_in u.state) called.file;
            frameless = frameless_arguments callee.ints callee.handles k.thread.registers;
            first = first;
            acts = refl;
            function = callee;
            here = callee_is;
            start = refl;
            bytes = refl;
            handles = refl;
            kind = refl;
            behind = behind;
            jumps = jumps;
            below = (handle, refl, forked, over_put, newest_put);
          }

    made : Forks p d names holds ends u k fs ks rest
    made = record {
      next = next;
      child = child;
      moves = moves;
      counts = record { going = can.going; forks_are = refl; counters_are = omega arith; bytes_are = omega arith };
      going = refl;
      new = (refl, refl, refl);
      goes = goes;
    }

  pub forks : entry ≡ 0x10 → Forks p d names holds ends u k fs ks rest
  forks is =
      let fits = (formed_of p at.top.function at.function can.accepted at.has.named).fits at.top.next at.item at.has.placed in
      let (g, handle, kind) = fork_kind p at.function at.item.kind entry fits at.enters is in
      let fits_fork : Fits p at.function (items.Fork g handle) = subst (λ (c : ItemKind). Fits p at.function c) kind fits in
      made g handle kind fits_fork fits_fork.0.0 fits_fork.0.1
