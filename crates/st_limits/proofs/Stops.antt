-- What a stop code tells: stop_means. Some run passes the limit: one that makes the items which are begun, or the draws that wait, at the end of the run behind.
use Rattle.std.proofs.Common.{◌≡◌, ◌⊎◌, inl, inr, ⊎_elim, ℕ, ◌+◌, ◌≤◌, ◌<◌, List, [], ◌∷◌, Option, Some, refl, sym, ap, ◌∙◌, subst, arith}
use Rattle.std.specs.List.{Contains}
use Rattle.st_base.specs.declared.chain.Chain.{Chain}
use Rattle.st_base.specs.declared.limits.Limits.{Limits}
use Rattle.st_base.specs.declared.thread.Thread.{Thread}
use Rattle.st_words.specs.declared.view.Slot.{Slot}
use Rattle.st_words.specs.declared.view.Known.{Known}
use Rattle.st_words.specs.declared.view.Cargo.{Cargo}
use Rattle.st_words.specs.declared.view.View.{View}
use Rattle.st_words.specs.Encodings.{step_code, stack_code, cell_code}
use Rattle.st_model.specs.declared.program.Program.{Program}
use Rattle.st_model.specs.Memory.{Data}
use Rattle.st_model.specs.Heap.{Path, Heap, Change, Moves, HStep, IsNumbered}
use Rattle.st_model.specs.Limits.{IsMember, PassesStep, PassesStack, PassesCell, frame_made, cells_drawn}
use Rattle.st_laws.specs.Begun.{HaveSteps, sum_thread}
use Rattle.st_laws.proofs.Passing.{begun_pass_step}
use Rattle.st_laws.proofs.Adding.{begun_pass_sums}
use Rattle.st_made.specs.Items.{next_move}
use Rattle.st_made.proofs.MadeRuns.{at_once}
use Rattle.st_threads.specs.Behind.{heap_on}
use Rattle.st_threads.specs.Holding.{Holding}
use Rattle.st_limits.specs.Stopping.{Met, StopMeans, DrawsFor, Limiting}
use Rattle.st_limits.proofs.Paths.{sum_all}
use Rattle.st_limits.proofs.Holders as holders
use Rattle.st_limits.proofs.Parts.{top_case, draws_one}

module _ (program : Program) (source : Data) (limits : Limits) (h0 h : Heap) (workers cells drawn stop : ℕ) (slot : Slot → Option Chain) (cargo : Slot → Cargo) (view : ℕ → View) (L : Limiting program source limits h0 h workers cells drawn stop slot cargo view) (T : Holding h slot cargo view) (numbered : IsNumbered h0) where
  -- the top thread of a worker has a step, where it waits for nothing
  step_at : (w : ℕ) (t : Known) (below : List Known) (c : Change) → (view w).threads ≡ t ∷ below → next_move program source t ≡ Moves c → HStep program source h t.path (heap_on h t c)
  step_at w t below c is can = record { thread = t.thread; change = c; here = (holders.top_is h slot cargo view T w t below is).there; enabled = at_once program source h t c can; next = refl }

  -- ---- each limit

  passes_step : (w : ℕ) → limits.steps < (view w).items → PassesStep program source h0 limits.steps
  passes_step w past =
      let most = (L.numbers w).items_within in
      begun_pass_step program source h0 h L.steps L.begun limits.steps numbered L.run L.are_begun.distinct L.are_begun.unfinished (omega arith)

  passes_stack : (w : ℕ) (t : Known) (below : List Known) (c : Change) → (view w).threads ≡ t ∷ below → next_move program source t ≡ Moves c → limits.stack < (view w).frame_bytes + frame_made program t.path t.thread → PassesStack program source h0 limits.stack
  passes_stack w t below c is can past =
      let most = (L.numbers w).bytes_within in
      let there : h.thread t.path ≡ Some t.thread = (holders.top_is h slot cargo view T w t below is).there in
      let next : sum_thread (frame_made program) t.path (h.thread t.path) ≡ frame_made program t.path t.thread = ap (sum_thread (frame_made program) t.path) there in
      let steps : HaveSteps program source h (t.path ∷ []) = λ p m. ⊎_elim
      (λ (e : p ≡ t.path). subst (λ (q : Path). (g : Heap) × HStep program source h q g) (sym e) (heap_on h t c, step_at w t below c is can))
      (λ none. absurd none) m in
      (begun_pass_sums program source h0 h L.steps (t.path ∷ []) L.run limits.stack numbered (λ m. m, tt) steps).0 (omega arith)

  drawer : (p : Path) → IsMember p L.drawing → (t : Thread) × (h.thread p ≡ Some t) × (cells_drawn program p t ≡ 1)
  drawer p m =
      let k = L.are_drawing.somewhere p m in
      let x = top_case (DrawsFor program source p) (view k.0).threads k.2 in
      let t = x.0 in
      let there = (holders.top_is h slot cargo view T k.0 t x.1 x.2).there in
      let one = draws_one program source h t x.3.1 in
      subst (λ (q : Path). (t : Thread) × (h.thread q ≡ Some t) × (cells_drawn program q t ≡ 1)) x.3.0 (t.thread, there, one.2)

  drawers_step : HaveSteps program source h L.drawing
  drawers_step p m =
      let k = L.are_drawing.somewhere p m in
      let x = top_case (DrawsFor program source p) (view k.0).threads k.2 in
      let t = x.0 in
      let one = draws_one program source h t x.3.1 in
      subst (λ (q : Path). (g : Heap) × HStep program source h q g) x.3.0 (heap_on h t one.0, step_at k.0 t x.1 one.0 x.2 one.1)

  passes_cell : (n : ℕ) → limits.cells ≤ n → n < drawn → PassesCell program source h0 limits.cells
  passes_cell n beyond below =
      let sum = L.draws in
      let ones = sum_all program h L.drawing drawer in
      (begun_pass_sums program source h0 h L.steps L.drawing L.run limits.cells numbered L.are_drawing.distinct drawers_step).1 (omega arith)

  -- ---- the code of a worker

  met_means : (w code : ℕ) → w < workers → (view w).number ≡ w → Met program source limits (view w) code → StopMeans program source limits h0 workers code
  met_means w code less number (inl k) = (w, less, inl (k.0 ∙ ap step_code number, passes_step w k.1))
  met_means w code less number (inr k) =
      let x = top_case (λ t. (c : Change) × (next_move program source t ≡ Moves c) × (k.0 ≡ frame_made program t.path t.thread) × (limits.stack < (view w).frame_bytes + frame_made program t.path t.thread)) (view w).threads k.2 in
      (w, less, inr (inr (k.0, k.1 ∙ ap (λ (v : ℕ). stack_code v k.0) number, passes_stack w x.0 x.1 x.3.0 x.2 x.3.1 x.3.3)))

  pub stop_means : (w code : ℕ) → w < workers → (view w).number ≡ w → (view w).cells ≡ cells → ((n : ℕ) → Contains (view w).drawn n → n < drawn) → Met program source limits (view w) code ⊎ ((code ≡ cell_code (view w).number) × ((n : ℕ) × Contains (view w).drawn n × ((view w).cells ≤ n))) → StopMeans program source limits h0 workers code
  stop_means w code less number size below (inl met) = met_means w code less number met
  stop_means w code less number size below (inr k) =
      let n = k.1.0 in
      let least = k.1.2 in
      let same = L.sized in
      (w, less, inr (inl (k.0 ∙ ap cell_code number, passes_cell n (omega (arith, least, size, same)) (below n k.1.1))))
