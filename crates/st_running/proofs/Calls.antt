-- Calls: of a function, which stands before its prologue above its caller (call_does), and of an entry of the runtime, by an item of its own or by a
-- fork's first word, which is a jump to it (entry_jump, entry_does).
use Rattle.std.proofs.Common.{◌≡◌, inl, inr, ℕ, Bool, List, ◌∷◌, Option, refl, ap, sym, ◌∙◌, subst, arith}
use Rattle.st_base.specs.declared.chain.Frame.{Frame}
use Rattle.st_base.specs.declared.reg.Reg.TheVariants as registers
use Rattle.st_base.specs.declared.registers.Pick.TheVariants.{Saved, Arguments}
use Rattle.st_base.specs.Registers.{picked}
use Rattle.st_base.specs.declared.thread.ActivationKind.TheVariants.{Called}
use Rattle.st_base.specs.declared.thread.Held.{Held}
use Rattle.st_model.specs.declared.code.Layout.TheVariants.{Postprocessed}
use Rattle.st_model.specs.declared.program.Item.{Item}
use Rattle.st_model.specs.declared.program.ItemKind.{ItemKind}
use Rattle.st_model.specs.declared.program.ItemKind.TheVariants as items
use Rattle.st_model.specs.declared.program.Program.{Program}
use Rattle.st_model.specs.declared.program.ProgramFunction.{ProgramFunction}
use Rattle.st_model.specs.Accepted.{IsAccepted, Fits}
use Rattle.st_model.specs.Effect.{advanced, call_into, entered, item_effect}
use Rattle.st_model.specs.Heap.{with_frames, effect_move}
use Rattle.st_model.specs.Memory.{Data}
use Rattle.st_words.specs.declared.view.Known.{Known}
use Rattle.st_step.specs.Frames.{address_in}
use Rattle.st_step.specs.Runs.{Situation}
use Rattle.st_items.specs.Body.{Ends}
use Rattle.st_items.specs.Called.{Enters, AtEntry}
use Rattle.st_items.specs.Code.{HasItem, IsSized}
use Rattle.st_items.specs.Ways.{JumpsTo, linked}
use Rattle.st_items.proofs.Addresses.{place_bounds}
use Rattle.st_items.proofs.ItemCode.{formed_of}
use Rattle.st_items.proofs.Jumps.{entry_jumps, entry_small, fork_in_jumps}
use Rattle.st_items.proofs.Linking.{body_linked, call_enters, linked_ra}
use Rattle.st_items.proofs.Ways.{jump_makes}
use Rattle.st_chain.specs.Walk.{named_by}
use Rattle.st_running.specs.Running.{CanRun, ItemDoes}
use Rattle.st_running.proofs.AtItem.{Older, AtItem}

-- an item that calls an entry does so by its first word
entry_jump : (p : Program) (f : ℕ) (function : ProgramFunction) (i : ℕ) (item : Item) (kind : ItemKind) (entry : ℕ) → IsAccepted p → IsSized Postprocessed p → HasItem p f function i item → item.kind ≡ kind → Enters kind entry → JumpsTo Postprocessed p (address_in Postprocessed p f function i) registers.Ra entry
entry_jump p f function i item (items.Entry at) entry accepted size has is enters =
    subst (JumpsTo Postprocessed p (address_in Postprocessed p f function i) registers.Ra) (sym enters) (entry_jumps Postprocessed p f function i item at size has is (entry_small Postprocessed p f function i item at accepted has is))
entry_jump p f function i item (items.Fork g handle) entry accepted size has is enters =
    subst (JumpsTo Postprocessed p (address_in Postprocessed p f function i) registers.Ra) (sym enters) (fork_in_jumps Postprocessed p f function i item g handle size has is)
entry_jump p f function i item _ entry accepted size has is enters = absurd enters

module _ (p : Program) (d : Data) (names : List (Held × ℕ)) (holds : ℕ → Bool) (ends : Ends) (t : Situation) (k : Known) (fs : List Frame) (ks : List Known) (rest : List (List Frame)) (can : CanRun p d names holds ends t k fs ks rest) (at : AtItem p d names holds ends t k fs ks rest) where
  pub call_does : (g : ℕ) → at.item.kind ≡ items.Call g → ItemDoes p d names holds ends t k fs ks rest
  call_does g kind =
      let file = k.thread.registers in
      let function = at.function in
      let named = at.line.has.named in
      let (callee, callee_is) = subst (λ (x : ItemKind). Fits p function x) kind ((formed_of p at.top.function function can.accepted named).fits at.top.next at.item at.line.has.placed) in
      let (u, leads, words, (first, entering)) = call_enters Postprocessed p d holds (named_by names) (Older p names holds k.note.cell ks rest at.older at.gs) ends at.f.low t at.top file function at.item g callee at.line kind callee_is in
      let (caller, below) = entering.below in
      let base = at.base ∙ at.line.body.framed.base in
      inl (record {
        next = with_frames k.thread (entered g callee (picked Saved file) Called ∷ advanced at.top ∷ at.older) (picked (Arguments callee.ints callee.handles) file);
        moves =
            at.moves
            ∙ ap (λ (x : ItemKind). effect_move k.path k.thread at.older at.item.line (item_effect p d x at.top file)) kind
            ∙ ap (λ (o : Option ProgramFunction). effect_move k.path k.thread at.older at.item.line (call_into g o at.top file)) callee_is;
        going = can.going;
        forks = refl;
        counters = refl;
        bytes = refl;
        u = u;
        leads = leads;
        ends' = ends;
        fs' = at.f ∷ at.gs;
        frames = inl (refl, sym at.frames);
        stands = record {
          machine = entering.machine;
          whole = entering.whole;
          file = entering.holding;
          frameless = entering.frameless;
          stands = inl (
            callee,
            record {
              here = entering.has.named;
              first = entering.first;
              bytes = entering.bytes;
              handles = entering.handles;
              at = entering.at;
              below = (function, refl, record { base = caller.base ∙ sym base; place = at.line.frame }, entering.below);
            },
          );
        };
      })

  pub entry_does : (entry : ℕ) → Enters at.item.kind entry → ItemDoes p d names holds ends t k fs ks rest
  entry_does entry calls =
      let line = at.line in
      let here = line.at in
      let bounds = place_bounds Postprocessed p at.top.function at.function at.top.next line.size line.has.named in
      let far = bounds.1 in
      let ra = linked_ra ends t entry line.body.machine in
      let jumps = entry_jump p at.top.function at.function at.top.next at.item at.item.kind entry line.accepted line.size line.has refl calls in
      let entered : AtEntry Postprocessed p (named_by names) (Older p names holds k.note.cell ks rest at.older at.gs) ends at.f.low (linked t entry) at.top k.thread.registers at.function entry = record {
        body = body_linked p (named_by names) (Older p names holds k.note.cell ks rest at.older at.gs) ends at.f.low t entry at.top k.thread.registers at.function (omega (arith, here, far)) line.sees line.body;
        at = refl;
        back = omega (arith, here, ra);
        whole = refl;
      } in
      let base = at.base ∙ line.body.framed.base in
      inr (inr (inr (inl (record {
        entry = entry;
        u = linked t entry;
        makes = jump_makes Postprocessed p d holds t entry (subst (λ (n : ℕ). JumpsTo Postprocessed p n registers.Ra entry) (sym here) jumps);
        words = refl;
        at = record {
          top = at.top;
          older = at.older;
          acts = at.acts;
          f = at.f;
          gs = at.gs;
          frames = at.frames;
          function = at.function;
          item = at.item;
          has = line.has;
          begun = at.begun;
          enters = calls;
          lies = record { base = entered.body.framed.base ∙ sym base; place = line.frame };
          call = entered;
        };
      }))))
