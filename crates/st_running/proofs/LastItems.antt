-- The end of a thread: from where its last epilogue returns, the machine is at the entry that ends it, or the third jump of the fork of the thread below
-- leads there (last_does).
use Rattle.std.proofs.Common.{◌≡◌, inr, ℕ, suc, ◌+◌, ◌≤◌, Bool, List, [], ◌∷◌, refl, sym, ◌∙◌, subst, arith}
use Rattle.st_base.specs.declared.chain.Frame.{Frame}
use Rattle.st_base.specs.declared.reg.Reg.{Reg}
use Rattle.st_base.specs.declared.reg.Reg.TheVariants as registers
use Rattle.st_base.specs.declared.thread.Activation.{Activation}
use Rattle.st_base.specs.declared.thread.Held.{Held}
use Rattle.st_base.specs.Reg.{reg_number}
use Rattle.st_model.specs.declared.code.Layout.TheVariants.{Postprocessed}
use Rattle.st_model.specs.declared.program.Program.{Program}
use Rattle.st_model.specs.Accepted.{IsAccepted}
use Rattle.st_model.specs.Layout.{fork_out}
use Rattle.st_model.specs.Memory.{Data}
use Rattle.st_words.specs.declared.view.Known.{Known}
use Rattle.st_step.specs.Frames.{value_in, IsFork}
use Rattle.st_step.specs.Moves.{register}
use Rattle.st_step.specs.Runs.{Situation}
use Rattle.st_items.specs.Body.{Ends, Context}
use Rattle.st_items.specs.Called.{IsThird}
use Rattle.st_items.specs.Code.{IsSized}
use Rattle.st_items.specs.Left.{Left}
use Rattle.st_items.specs.Marked.{NeedsNoWords}
use Rattle.st_items.specs.Ways.{Leads, linked}
use Rattle.st_items.proofs.Addresses.{address_bounds}
use Rattle.st_items.proofs.KeptFiles.{not_kept}
use Rattle.st_items.proofs.Leaving.{Comes, comes_leads}
use Rattle.st_items.proofs.Linking.{linked_other, linked_ra, linked_on, third_jump}
use Rattle.st_items.proofs.Ways.{leads, leads_further, jump_makes}
use Rattle.st_chain.specs.Seen.{AllSame, SameKept, joined}
use Rattle.st_chain.specs.Threads.{HasForked, put_value}
use Rattle.st_chain.specs.Walk.{named_by, FromNewest}
use Rattle.st_chain.proofs.Frames.{lower_same}
use Rattle.st_standing.specs.Standing.{under, AtLast}

-- words are the same as themselves
all_self : (holds : ℕ → Bool) (word : ℕ → ℕ) (fs : List Frame) → AllSame holds holds word word fs
all_self holds word [] = tt
all_self holds word (f ∷ fs) = (record { held = λ q inside there. there; words = λ q inside. refl }, all_self holds word fs)

-- the third jump of the fork of a thread
third_of : (p : Program) (names : List (Held × ℕ)) (holds : ℕ → Bool) (end : Context) (pc fp ret : ℕ) (word value : ℕ → ℕ) (handle : Reg) (acts : List Activation) (fs : List Frame) → IsSized Postprocessed p → HasForked p ret handle acts → FromNewest p (named_by names) holds end 0 pc fp word value acts fs → IsThird Postprocessed p ret
third_of p names holds end pc fp ret word value handle (a ∷ older) (f ∷ fs) size behind (function, is) =
    third_jump Postprocessed p a behind.function ret size behind.has.named is.begun (behind.third, (behind.item, behind.has.placed, subst IsFork (sym behind.forks) tt))
third_of p names holds end pc fp ret word value handle (a ∷ older) [] size behind newest = absurd newest
third_of p names holds end pc fp ret word value handle [] fs size behind newest = absurd behind

-- the machine comes to the entry that ends the thread, which changes no word behind the epilogue
pub record Ended (p : Program) (d : Data) (names : List (Held × ℕ)) (holds : ℕ → Bool) (ends : Ends) (t u : Situation) (cell value : ℕ) (ks : List Known) (rest : List (List Frame)) : Type 0 where
  pub last : Situation
  pub comes : Leads Postprocessed p d holds t last
  pub words : last.word ≡ u.word
  pub further : ℕ
  pub few : further ≤ 1
  pub way : NeedsNoWords Postprocessed p d further u.state last.state
  pub at : AtLast p names holds ends last cell value ks rest

module _ (p : Program) (d : Data) (names : List (Held × ℕ)) (holds : ℕ → Bool) (ends : Ends) (b : ℕ) (t u : Situation) (top : Activation) (cell value : ℕ) (accepted : IsAccepted p) (size : IsSized Postprocessed p) (way : Comes Postprocessed p d holds t u) (a0 : register t.state registers.A0 ≡ value) where
  abbrev after : Ends
  after = record ends { sp = register u.state registers.Sp }

  by_third : (k : Known) (ks : List Known) (fs : List Frame) (rest : List (List Frame)) → Left Postprocessed (under p names holds cell (k ∷ ks) (fs ∷ rest)) ends b t top u → Ended p d names holds after t u cell value (k ∷ ks) (fs ∷ rest)
  by_third k ks fs rest left =
      let (n, few, by) = way in
      let (handle, forked, behind, over, newest) = left.stands in
      let end = under p names holds k.note.cell ks rest in
      let third = third_of p names holds end (u.state.pc + 4) (register u.state registers.S0) u.state.pc u.word (put_value (reg_number handle) cell (value_in u.state)) handle k.thread.activations fs size behind newest in
      let inside = third.behind in
      let bounds = address_bounds Postprocessed p inside.f inside.function inside.i inside.item size inside.has in
      let most = bounds.1 in
      let less = inside.few in
      let at = inside.at in
      let v = linked u fork_out in
      let same : SameKept (value_in u.state) (value_in v.state) = λ x is. sym (linked_other u fork_out x (not_kept x 1 is refl)) in
      let (handle', forked', behind', over', newest') =
      lower_same p (named_by names) (named_by names) (λ held m is. is) holds holds u.word u.word accepted (k ∷ ks) (fs ∷ rest) cell (all_self holds u.word (joined (fs ∷ rest))) top.kind top.kept (value_in u.state) (value_in v.state) (register u.state registers.S0) u.state.pc same left.stands in
      let fp : register v.state registers.S0 ≡ register u.state registers.S0 = linked_other u fork_out 8 (λ e. absurd (omega (arith, e))) in
      record {
        last = v;
        comes = leads Postprocessed p d holds (suc n) t v (omega arith) (leads_further Postprocessed p d holds n t u v by (inr inside) (jump_makes Postprocessed p d holds u fork_out third.jumps));
        words = refl;
        further = 1;
        few = omega arith;
        way = λ held word. (inr inside, (linked (record { state = u.state; word = word }) fork_out, jump_makes Postprocessed p d held (record { state = u.state; word = word }) fork_out third.jumps, refl));
        at = record {
          machine = linked_on after u fork_out (omega arith) left.machine;
          whole = refl;
          value_is = linked_other u fork_out 10 (λ e. absurd (omega (arith, e))) ∙ left.a0 ∙ a0;
          last = (
            refl,
            (
              u.state.pc,
              handle',
              linked_ra after u fork_out left.machine,
              behind',
              over',
              subst (λ (m : ℕ). FromNewest p (named_by names) holds end 0 (u.state.pc + 4) m u.word (put_value (reg_number handle') cell (value_in v.state)) k.thread.activations fs) (sym fp) newest',
            ),
          );
        };
      }

  pub thread_ends : (ks : List Known) (rest : List (List Frame)) → Left Postprocessed (under p names holds cell ks rest) ends b t top u → Ended p d names holds after t u cell value ks rest
  thread_ends [] [] left = record {
    last = u;
    comes = comes_leads Postprocessed p d holds t u way;
    words = refl;
    further = 0;
    few = omega arith;
    way = λ held word. refl;
    at = record { machine = left.machine; whole = left.whole; value_is = left.a0 ∙ a0; last = left.stands.1 };
  }
  thread_ends (k ∷ ks) (fs ∷ rest) left = by_third k ks fs rest left
  thread_ends [] (fs ∷ rest) left = absurd left.stands
  thread_ends (k ∷ ks) [] left = absurd left.stands
