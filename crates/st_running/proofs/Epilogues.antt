-- An epilogue: the thread goes on in the caller of its newest activation, or ends where that is its first (epilogue_does).
use Rattle.std.proofs.Common.{◌≡◌, inl, inr, ℕ, Bool, List, [], ◌∷◌, Option, Some, None, refl, ap, sym, ◌∙◌, subst, arith}
use Rattle.st_base.specs.declared.chain.Frame.{Frame}
use Rattle.st_base.specs.declared.reg.Reg.TheVariants as registers
use Rattle.st_base.specs.declared.thread.Activation.{Activation}
use Rattle.st_base.specs.declared.thread.ActivationKind.{ActivationKind}
use Rattle.st_base.specs.declared.thread.ActivationKind.TheVariants.{Called, Forked, Root}
use Rattle.st_base.specs.declared.thread.Held.{Held}
use Rattle.st_base.specs.declared.thread.Held.TheVariants.{Number}
use Rattle.st_base.specs.Registers.{write_register}
use Rattle.st_model.specs.declared.code.Layout.TheVariants.{Postprocessed}
use Rattle.st_model.specs.declared.program.ItemKind.{ItemKind}
use Rattle.st_model.specs.declared.program.ItemKind.TheVariants as items
use Rattle.st_model.specs.declared.program.Program.{Program}
use Rattle.st_model.specs.Effect.{File, IsFirst, int, with_number, left_by, item_effect}
use Rattle.st_model.specs.Heap.{Moves, own, with_frames, effect_move}
use Rattle.st_model.specs.Memory.{Data}
use Rattle.st_words.specs.declared.view.Known.{Known}
use Rattle.st_step.specs.Moves.{register}
use Rattle.st_step.specs.Runs.{Situation}
use Rattle.st_step.specs.Frames.{value_in}
use Rattle.st_items.specs.Body.{Ends}
use Rattle.st_items.specs.Called.{Calling}
use Rattle.st_items.specs.Left.{Left}
use Rattle.st_items.specs.Marked.{IsAway, Marked}
use Rattle.st_items.proofs.AtLine.{number_held}
use Rattle.st_items.proofs.Growing.{left_as}
use Rattle.st_items.proofs.Leaving.{Comes, comes_leads}
use Rattle.st_items.proofs.Returning.{returns}
use Rattle.st_chain.specs.Threads.{Lower}
use Rattle.st_chain.specs.Walk.{named_by}
use Rattle.st_made.specs.Items.{next_move, EndsWith}
use Rattle.st_running.specs.Running.{CanRun, ItemDoes}
use Rattle.st_running.proofs.AtItem.{Older, AtItem, stands_behind}
use Rattle.st_running.proofs.FramesLeft.{leaves_frame, item_leaves}
use Rattle.st_running.proofs.LastItems.{thread_ends}

-- no call lies on the threads below
none_called : (p : Program) (names : List (Held × ℕ)) (holds : ℕ → Bool) (cell : ℕ) (ks : List Known) (rest : List (List Frame)) (kind : ActivationKind) (kept : File) (word value : ℕ → ℕ) (fp ret : ℕ) → kind ≡ Called → Lower p (named_by names) holds cell ks rest kind kept word value fp ret → ⊥
none_called p names holds cell [] [] kind kept word value fp ret called (first, at) = subst IsFirst called first
none_called p names holds cell (k ∷ ks) (fs ∷ rest) kind kept word value fp ret called (handle, forked, behind, over, newest) = let never : ⊥ = cc (called, forked) in never
none_called p names holds cell [] (fs ∷ rest) kind kept word value fp ret called lower = lower
none_called p names holds cell (k ∷ ks) [] kind kept word value fp ret called lower = lower

module _ (p : Program) (d : Data) (names : List (Held × ℕ)) (holds : ℕ → Bool) (ends : Ends) (t : Situation) (k : Known) (fs : List Frame) (ks : List Known) (rest : List (List Frame)) (can : CanRun p d names holds ends t k fs ks rest) (at : AtItem p d names holds ends t k fs ks rest) where
  abbrev b : ℕ
  b = register t.state registers.S0

  abbrev Leaving : List Activation → List Frame → Situation → Type 0
  Leaving older gs u = Left Postprocessed (Older p names holds k.note.cell ks rest older gs) ends b t at.top u

  -- where the frame is marked, the way is split there
  abbrev Splits : Situation → Type 0
  Splits u = IsAway ends b → Marked p d holds b t u

  -- in the caller
  goes_back : (older : List Activation) (gs : List Frame) (v : ℕ) (u : Situation) → fs ≡ at.f ∷ gs → next_move p d k ≡ Moves (own (with_frames k.thread older (write_register at.top.kept registers.A0 (Number v)))) → at.top.kind ≡ Called → register t.state registers.A0 ≡ v
      → Comes Postprocessed p d holds t u → Leaving older gs u → Splits u → ItemDoes p d names holds ends t k fs ks rest
  goes_back (a ∷ older) (g ∷ gs) v u frames moves called a0 way left splits =
      let (function, is_called, lies, (caller, below)) = left.stands in
      let lower = Older p names holds k.note.cell ks rest older gs in
      let left' = left_as Postprocessed (Older p names holds k.note.cell ks rest (a ∷ older) (g ∷ gs)) (Calling Postprocessed p (named_by names) lower g.low function a) ends b t at.top u left (caller, below) in
      let stands = returns Postprocessed p (named_by names) lower g.low function a ends b t u at.top (Number v) left' called a0 in
      inl (record {
        next = with_frames k.thread (a ∷ older) (write_register at.top.kept registers.A0 (Number v));
        moves = moves;
        going = can.going;
        forks = refl;
        counters = refl;
        bytes = refl;
        u = u;
        leads = comes_leads Postprocessed p d holds t u way;
        ends' = record ends { sp = register u.state registers.Sp };
        fs' = g ∷ gs;
        frames = inr (inr (leaves_frame p d holds ends t u u at.f fs (g ∷ gs) 0 frames at.base left.how splits refl (omega arith) (λ held word. refl)));
        stands = stands_behind p names holds (record ends { sp = register u.state registers.Sp }) u k ks rest a older (write_register at.top.kept registers.A0 (Number v)) function g gs lies.place (sym lies.base ∙ caller.base) stands;
      })
  goes_back [] [] v u frames moves called a0 way left splits = absurd (none_called p names holds k.note.cell ks rest at.top.kind at.top.kept u.word (value_in u.state) (register u.state registers.S0) u.state.pc called left.stands)
  goes_back [] (g ∷ gs) v u frames moves called a0 way left splits = absurd left.stands
  goes_back (a ∷ older) [] v u frames moves called a0 way left splits = absurd left.stands

  -- at the end of the thread
  ends_there : (older : List Activation) (gs : List Frame) (v : ℕ) (u : Situation) → fs ≡ at.f ∷ gs → EndsWith p d k v → IsFirst at.top.kind → register t.state registers.A0 ≡ v
      → Comes Postprocessed p d holds t u → Leaving older gs u → Splits u → ItemDoes p d names holds ends t k fs ks rest
  ends_there [] [] v u frames moves first a0 way left splits =
      let ended = thread_ends p d names holds ends b t u at.top k.note.cell v can.accepted can.size way a0 ks rest left in
      inr (inr (inr (inr (record {
        value = v;
        moves = moves;
        u = ended.last;
        leads = ended.comes;
        ends' = record ends { sp = register u.state registers.Sp };
        frames = leaves_frame p d holds ends t u ended.last at.f fs [] ended.further frames at.base left.how splits ended.words ended.few ended.way;
        at = ended.at;
      }))))
  ends_there (a ∷ older) (g ∷ gs) v u frames moves first a0 way left splits = absurd (subst IsFirst left.stands.1 first)
  ends_there [] (g ∷ gs) v u frames moves first a0 way left splits = absurd left.stands
  ends_there (a ∷ older) [] v u frames moves first a0 way left splits = absurd left.stands

  by_kind : (kind : ActivationKind) (v : ℕ) (u : Situation) → at.top.kind ≡ kind → next_move p d k ≡ effect_move k.path k.thread at.older at.item.line (left_by kind at.top.kept v) → register t.state registers.A0 ≡ v
      → Comes Postprocessed p d holds t u → Leaving at.older at.gs u → Splits u → ItemDoes p d names holds ends t k fs ks rest
  by_kind Called v u is moves a0 way left splits = goes_back at.older at.gs v u at.frames moves is a0 way left splits
  by_kind Forked v u is moves a0 way left splits = ends_there at.older at.gs v u at.frames moves (subst IsFirst (sym is) tt) a0 way left splits
  by_kind Root v u is moves a0 way left splits = ends_there at.older at.gs v u at.frames moves (subst IsFirst (sym is) tt) a0 way left splits

  by_value : (o : Option ℕ) (u : Situation) → int k.thread.registers registers.A0 ≡ o → next_move p d k ≡ effect_move k.path k.thread at.older at.item.line (with_number o (left_by at.top.kind at.top.kept))
      → Comes Postprocessed p d holds t u → Leaving at.older at.gs u → Splits u → ItemDoes p d names holds ends t k fs ks rest
  by_value None u is moves way left splits = absurd (can.defined moves)
  by_value (Some v) u is moves way left splits =
      by_kind at.top.kind v u refl moves (number_held (named_by names) k.thread.registers t.state registers.A0 v can.on.file is) way left splits

  pub epilogue_does : at.item.kind ≡ items.Epilogue → ItemDoes p d names holds ends t k fs ks rest
  epilogue_does kind =
      let (u, way, left, splits) = item_leaves p d names holds ends t k fs ks rest can at kind in
      let moves = at.moves ∙ ap (λ (x : ItemKind). effect_move k.path k.thread at.older at.item.line (item_effect p d x at.top k.thread.registers)) kind in
      by_value (int k.thread.registers registers.A0) u refl moves way left splits
