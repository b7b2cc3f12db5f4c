-- Behind the call of an entry the thread stands on the machine again, with the registers that a call keeps (stands_back), and one more that the entry wrote
-- (stands_written), over more names than it had.
use Rattle.std.proofs.Common.{◌≡◌, inr, ℕ, ◌+◌, ◌*◌, ◌^◌, ◌<◌, Bool, List, ◌∷◌, ◌++◌, Some, slice_get, refl, ap, sym, ◌∙◌, subst, arith}
use Rattle.st_base.specs.declared.chain.Frame.{Frame}
use Rattle.st_base.specs.declared.reg.Reg.{Reg}
use Rattle.st_base.specs.declared.reg.Reg.TheVariants as registers
use Rattle.st_base.specs.declared.registers.Pick.TheVariants.{Saved}
use Rattle.st_base.specs.declared.thread.Activation.{Activation}
use Rattle.st_base.specs.declared.thread.Held.{Held}
use Rattle.st_base.specs.declared.thread.Thread.{Thread}
use Rattle.st_base.specs.Registers.{picked, write_register}
use Rattle.st_model.specs.declared.code.Layout.TheVariants.{Postprocessed}
use Rattle.st_model.specs.declared.program.ItemKind.{ItemKind}
use Rattle.st_model.specs.declared.program.ItemKind.TheVariants as items
use Rattle.st_model.specs.declared.program.Program.{Program}
use Rattle.st_model.specs.Accepted.{IsAccepted, MayWrite}
use Rattle.st_model.specs.Effect.{File, advanced}
use Rattle.st_model.specs.Layout.{item_size}
use Rattle.st_words.specs.declared.view.Known.{Known}
use Rattle.st_step.specs.declared.state.State.{State}
use Rattle.st_step.specs.Frames.{address_in, value_in, HasFile, IsHeldAs, IsFrameless}
use Rattle.st_step.specs.Moves.{register}
use Rattle.st_step.specs.Runs.{Situation}
use Rattle.st_step.proofs.Writes.{register-written_other}
use Rattle.st_items.specs.Body.{Context, Ends, SeesOutside, Widens, IsFramed, IsInBody, StandsAt}
use Rattle.st_items.proofs.Addresses.{next_address}
use Rattle.st_items.proofs.Body.{body_written}
use Rattle.st_items.proofs.Growing.{body_grows}
use Rattle.st_items.proofs.KeptFiles.{frameless_saved, picked_file}
use Rattle.st_items.proofs.Linking.{entry_back}
use Rattle.st_items.proofs.Registers.{IsOfBody, body_apart}
use Rattle.st_chain.specs.Laws.{HasNames}
use Rattle.st_chain.specs.Seen.{joined}
use Rattle.st_chain.specs.Taking.{AllApart}
use Rattle.st_chain.specs.Walk.{named_by, Below, FromNewest}
use Rattle.st_chain.proofs.Frames.{below_same, lower_same}
use Rattle.st_chain.proofs.Joining.{split_apart}
use Rattle.st_chain.proofs.Outside.{sees_outside}
use Rattle.st_made.specs.Items.{went}
use Rattle.st_standing.specs.Standing.{under, StandsOn, AtCall}
use Rattle.st_serving.specs.Serving.{back, back_with}
use Rattle.st_serving.proofs.Unchanged.{all_same}

module _ (p : Program) (names names' : List (Held × ℕ)) (holds : ℕ → Bool) (ends : Ends) (u : Situation) (k : Known) (fs : List Frame) (ks : List Known) (rest : List (List Frame)) (entry : ℕ) (accepted : IsAccepted p) (grows : HasNames names names') (apart : AllApart (joined (fs ∷ rest))) (at : AtCall p names holds ends u k fs ks rest entry) where
  abbrev Before : Context
  Before = Below p (named_by names) holds (under p names holds k.note.cell ks rest) at.older at.gs

  -- what is older than the activation that has called, under these names
  abbrev pub Older : Context
  Older = Below p (named_by names') holds (under p names' holds k.note.cell ks rest) at.older at.gs

  widens : Widens Before Older
  widens kind kept word value fp ret before =
      below_same p (named_by names) (named_by names') grows holds holds word word accepted (under p names holds k.note.cell ks rest) (under p names' holds k.note.cell ks rest)
      (lower_same p (named_by names) (named_by names') grows holds holds word word accepted ks rest k.note.cell (all_same holds word (joined rest))) at.older at.gs (all_same holds word at.gs) kind kept value value fp ret (λ x is. refl) before

  -- the activation that has called
  pub body_called : IsInBody p (named_by names') Older ends at.f.low u at.top k.thread.registers at.function
  body_called = body_grows (named_by names) (named_by names') grows Before Older widens p ends at.f.low u at.top k.thread.registers at.function at.call.body

  -- what is older sees nothing of its frame
  pub older_sees : SeesOutside Older at.f.low (at.f.low + at.function.frame_bytes)
  older_sees =
      let mine : AllApart (at.f ∷ at.gs ++ joined rest) = subst (λ (xs : List Frame). AllApart (joined (xs ∷ rest))) at.frames apart in
      let others = split_apart at.f at.gs (joined rest) mine.1 in
      let base : at.f.base ≡ at.f.low + at.function.frame_bytes = sym at.lies.base ∙ at.call.body.framed.base in
      subst (λ (n : ℕ). SeesOutside Older at.f.low n) base (sees_outside p (named_by names') holds accepted at.f mine.0 at.older at.gs k.note.cell ks rest others.0 others.1)

  -- with the registers that a call keeps
  pub body_kept : IsInBody p (named_by names') Older ends at.f.low u at.top (picked Saved k.thread.registers) at.function
  body_kept =
      let body = body_called in
      record { here = body.here; machine = body.machine; file = picked_file (named_by names') Saved k.thread.registers (value_in u.state) body.file; frameless = frameless_saved k.thread.registers; framed = body.framed }

  -- its frame is the first of the thread's
  pub newest_at : (pc fp : ℕ) (value : ℕ → ℕ) (a : Activation) (acts : List Activation) → acts ≡ a ∷ at.older → slice_get p.functions a.function ≡ Some at.function → 0 < a.next → pc ≡ address_in Postprocessed p a.function at.function a.next → fp ≡ register u.state registers.S0
      → IsFramed (named_by names') Older u.word value at.f.low fp at.function a → FromNewest p (named_by names') holds (under p names' holds k.note.cell ks rest) 0 pc fp u.word value acts fs
  newest_at pc fp value a acts acts_are here begun place same framed =
      let end = under p names' holds k.note.cell ks rest in
      let lies = at.lies in
      let is : FromNewest p (named_by names') holds end 0 pc fp u.word value (a ∷ at.older) (at.f ∷ at.gs) =
      (at.function, record { here = here; begun = begun; at = omega (arith, place); lies = record { base = same ∙ lies.base; place = lies.place }; framed = framed }) in
      subst (λ (xs : List Activation). FromNewest p (named_by names') holds end 0 pc fp u.word value xs fs) (sym acts_are)
      (subst (λ (xs : List Frame). FromNewest p (named_by names') holds end 0 pc fp u.word value (a ∷ at.older) xs) (sym at.frames) is)

  -- an activation at its next item is the thread's newest one
  newest : (m : State) (a : Activation) (file : File) (next : Thread) → next.activations ≡ a ∷ at.older → next.registers ≡ file → register m registers.S0 ≡ register u.state registers.S0
      → StandsAt Postprocessed p (named_by names') Older ends at.f.low (record { state = m; word = u.word }) a file at.function → StandsOn p names' holds ends (record { state = m; word = u.word }) (went k next) fs ks rest
  newest m a file next acts file_is fp stands =
      let body = stands.body in
      record {
        machine = body.machine;
        whole = stands.whole;
        file = subst (λ (f : File). HasFile (named_by names') f (value_in m)) (sym file_is) body.file;
        frameless = subst (λ (f : File). IsFrameless f) (sym file_is) body.frameless;
        stands = inr (newest_at m.pc (register m registers.S0) (value_in m) a next.activations acts body.here stands.begun stands.at fp body.framed);
      }

  -- behind a call of one word, where no register is written
  pub stands_back : (n : ℕ) (next : Thread) → at.item.kind ≡ items.Entry n → next.activations ≡ advanced at.top ∷ at.older → next.registers ≡ picked Saved k.thread.registers → StandsOn p names' holds ends (record { state = back u.state; word = u.word }) (went k next) fs ks rest
  stands_back n next kind acts file_is =
      newest (back u.state) (advanced at.top) (picked Saved k.thread.registers) next acts file_is refl
      (entry_back Postprocessed p (named_by names') Older ends at.f.low u at.top (picked Saved k.thread.registers) at.function at.item n entry at.has kind (record { body = body_kept; at = at.call.at; back = at.call.back; whole = at.call.whole }))

  back_address : (n : ℕ) → at.item.kind ≡ items.Entry n → register u.state registers.Ra ≡ address_in Postprocessed p at.top.function at.function (at.top.next + 1)
  back_address n kind =
      let one : item_size Postprocessed at.function at.item.kind ≡ 1 = ap (λ (c : ItemKind). item_size Postprocessed at.function c) kind in
      let behind = next_address Postprocessed p at.top.function at.function at.top.next at.item at.has in
      at.call.back ∙ sym (behind ∙ ap (λ (size : ℕ). address_in Postprocessed p at.top.function at.function at.top.next + 4 * size) one)

  -- where a register is written
  pub stands_written : (n : ℕ) (r : Reg) (held : Held) (value : ℕ) (next : Thread) → at.item.kind ≡ items.Entry n → IsOfBody r → MayWrite at.function r → IsHeldAs (named_by names') held value → value < 2 ^ 64
      → next.activations ≡ advanced at.top ∷ at.older → next.registers ≡ write_register (picked Saved k.thread.registers) r held → StandsOn p names' holds ends (record { state = back_with r value u.state; word = u.word }) (went k next) fs ks rest
  stands_written n r held value next kind of_body may is less acts file_is =
      let none_of = body_apart r of_body in
      newest (back_with r value u.state) (advanced at.top) (write_register (picked Saved k.thread.registers) r held) next acts file_is (register-written_other u.state r registers.S0 value (λ e. none_of.fp (sym e)))
      (record {
        body = body_written p (named_by names') Older ends at.f.low u at.top (picked Saved k.thread.registers) at.function r held value (register u.state registers.Ra) (at.top.next + 1) older_sees may of_body is less body_kept;
        begun = omega arith;
        at = back_address n kind;
        whole = refl;
      })
