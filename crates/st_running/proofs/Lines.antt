-- An item of one line, behind the prologue: the thread goes on at an item of the same activation, or traps, as its effect says (line_does).
use Rattle.std.proofs.Common.{◌≡◌, inl, inr, ℕ, Bool, List, ◌∷◌, refl, sym, ◌∙◌}
use Rattle.st_base.specs.declared.chain.Frame.{Frame}
use Rattle.st_base.specs.declared.thread.Held.{Held}
use Rattle.st_model.specs.declared.code.Layout.TheVariants.{Postprocessed}
use Rattle.st_model.specs.declared.effect.Effect.{Effect}
use Rattle.st_model.specs.declared.effect.Effect.TheVariants as effects
use Rattle.st_model.specs.declared.program.Program.{Program}
use Rattle.st_model.specs.Effect.{item_effect}
use Rattle.st_model.specs.Heap.{with_frames, effect_move}
use Rattle.st_model.specs.Memory.{Data}
use Rattle.st_words.specs.declared.view.Known.{Known}
use Rattle.st_step.specs.Runs.{Situation}
use Rattle.st_items.specs.Body.{Ends, IsLine, EffectStands}
use Rattle.st_items.proofs.Lines.{line_goes}
use Rattle.st_chain.specs.Walk.{named_by}
use Rattle.st_made.specs.Items.{next_move}
use Rattle.st_running.specs.Running.{CanRun, ItemDoes}
use Rattle.st_running.proofs.AtItem.{Older, AtItem, stands_behind}

module _ (p : Program) (d : Data) (names : List (Held × ℕ)) (holds : ℕ → Bool) (ends : Ends) (t : Situation) (k : Known) (fs : List Frame) (ks : List Known) (rest : List (List Frame)) (can : CanRun p d names holds ends t k fs ks rest) (at : AtItem p d names holds ends t k fs ks rest) where
  by_effect : (effect : Effect) → next_move p d k ≡ effect_move k.path k.thread at.older at.item.line effect
      → EffectStands Postprocessed p d holds (named_by names) (Older p names holds k.note.cell ks rest at.older at.gs) ends at.f.low t at.function effect → ItemDoes p d names holds ends t k fs ks rest
  by_effect effects.Undefined moves stands = absurd (can.defined moves)
  by_effect (effects.Goes top file) moves (u, leads, stands) =
      inl (record {
        next = with_frames k.thread (top ∷ at.older) file;
        moves = moves;
        going = can.going;
        forks = refl;
        counters = refl;
        bytes = refl;
        u = u;
        leads = leads;
        ends' = ends;
        fs' = at.f ∷ at.gs;
        frames = inl (refl, sym at.frames);
        stands = stands_behind p names holds ends u k ks rest top at.older file at.function at.f at.gs at.line.frame (at.base ∙ at.line.body.framed.base) stands;
      })
  by_effect (effects.Traps kind) moves (i, there, stops) =
      inr (inl (record {
        kind = kind;
        top = at.top;
        older = at.older;
        acts = at.acts;
        function = at.function;
        item = at.item;
        has = at.line.has;
        begun = at.begun;
        moves = moves;
        ins = i;
        there = there;
        stops = stops;
      }))
  by_effect _ moves stands = absurd stands

  pub line_does : IsLine at.item.kind → ItemDoes p d names holds ends t k fs ks rest
  line_does one =
      by_effect (item_effect p d at.item.kind at.top k.thread.registers) at.moves
      (line_goes Postprocessed p d holds (named_by names) (Older p names holds k.note.cell ks rest at.older at.gs) ends at.f.low t at.top k.thread.registers at.function at.item at.line one)
