-- Back in a caller: an activation that has left stands for its caller at the next item, with its value in a0 (returns); a forked one stands at the
-- third jump of its fork (forked_returns). What is older than a called activation sees no change outside of its frames either (calling_sees).
use Rattle.std.proofs.Common.{◌≡◌, inl, inr, ℕ, ◌+◌, ◌<◌, ◌≤◌, sym, subst, arith}
use Rattle.st_base.specs.declared.reg.Reg.TheVariants as registers
use Rattle.st_base.specs.declared.thread.Held.{Held}
use Rattle.st_base.specs.declared.thread.Activation.{Activation}
use Rattle.st_base.specs.declared.thread.ActivationKind.{ActivationKind}
use Rattle.st_base.specs.declared.thread.ActivationKind.TheVariants.{Called, Forked}
use Rattle.st_base.specs.Registers.{write_register}
use Rattle.st_model.specs.declared.code.Layout.{Layout}
use Rattle.st_model.specs.declared.program.Program.{Program}
use Rattle.st_model.specs.declared.program.ProgramFunction.{ProgramFunction}
use Rattle.st_model.specs.Accepted.{IsAccepted, HasFrame}
use Rattle.st_model.specs.Layout.{saved_of}
use Rattle.st_words.specs.Steps.{place_of}
use Rattle.st_step.specs.Moves.{register}
use Rattle.st_step.specs.Runs.{Situation, return_word, caller_word}
use Rattle.st_step.specs.Frames.{Naming, IsHeldAs, value_in, with_saved_values, ComesBack, IsCaller}
use Rattle.st_step.proofs.SavedList.{saved_fit}
use Rattle.st_items.specs.Code.{IsSized}
use Rattle.st_items.specs.Body.{Ends, Context, SeesOutside, StandsAt}
use Rattle.st_items.specs.Left.{Left}
use Rattle.st_items.specs.Called.{Calling, IsBeneath, IsThird}
use Rattle.st_items.proofs.FrameWords.{saved_agrees, slots_agree}
use Rattle.st_items.proofs.ItemCode.{formed_of}
use Rattle.st_items.proofs.KeptFiles.{frameless_returned, file_returned}
use Rattle.st_items.proofs.Linking.{third_jump}

module _ (layout : Layout) (p : Program) (names : Naming) (older : Context) (low : ℕ) (function : ProgramFunction) (a : Activation) where
  pub returns : (ends : Ends) (b : ℕ) (t u : Situation) (top : Activation) (value : Held) → Left layout (Calling layout p names older low function a) ends b t top u → top.kind ≡ Called → IsHeldAs names value (register t.state registers.A0)
      → StandsAt layout p names older (record ends { sp = register u.state registers.Sp }) low u a (write_register top.kept registers.A0 value) function
  returns ends b t u top value left called holds =
      let (caller, below) = left.stands in
      let a0 : IsHeldAs names value (value_in u.state 10) = subst (λ (n : ℕ). IsHeldAs names value n) (sym left.a0) holds in
      record {
        body = record {
          here = caller.here;
          machine = left.machine;
          file = file_returned names top.kept value (value_in u.state) caller.long caller.file a0;
          frameless = frameless_returned top.kept value caller.long caller.holds;
          framed = record { base = caller.base; slots = caller.slots; below = below };
        };
        begun = caller.begun;
        at = subst (λ (k : ActivationKind). ComesBack layout p k a function u.state.pc) called caller.back;
        whole = left.whole;
      }

  pub forked_returns : (ends : Ends) (b : ℕ) (t u : Situation) (top : Activation) → IsSized layout p → Left layout (Calling layout p names older low function a) ends b t top u → top.kind ≡ Forked → IsThird layout p u.state.pc
  forked_returns ends b t u top size left forked =
      let (caller, below) = left.stands in
      third_jump layout p a function u.state.pc size caller.here caller.begun (subst (λ (k : ActivationKind). ComesBack layout p k a function u.state.pc) forked caller.back)

  pub calling_sees : (bottom base : ℕ) → IsAccepted p → IsBeneath older low function bottom base → SeesOutside (Calling layout p names older low function a) bottom base
  calling_sees bottom base accepted beneath kind kept word word' value value' fp ret outside same (caller, below) =
      let frame : HasFrame function = (formed_of p a.function function accepted caller.here).frame in
      let fit = saved_fit function frame in
      let saved = saved_of function in
      let above = beneath.above in
      let base_is = caller.base in
      let least = frame.least in
      let agree : (q : ℕ) → place_of low ≤ q → q < place_of (low + function.frame_bytes) → word q ≡ word' q = λ q from to. outside q (elim beneath.apart [ inl under ↦ inr (omega arith) | inr over ↦ inl (omega arith) ]) in
      let in_frame : (q : ℕ) → place_of low ≤ q → q < place_of fp → word q ≡ word' q = λ q from to. agree q from (omega arith) in
      let at_caller : word (caller_word fp) ≡ word' (caller_word fp) = in_frame (caller_word fp) (omega arith) (omega arith) in
      let at_return : word (return_word fp) ≡ word' (return_word fp) = in_frame (return_word fp) (omega arith) (omega arith) in
      let caller' : IsCaller layout p names word' value' low fp ret kind kept a function = record {
        here = caller.here;
        begun = caller.begun;
        base = caller.base;
        back = caller.back;
        file = λ x held there. subst (λ (n : ℕ). IsHeldAs names held n) (same x (caller.holds x held there)) (caller.file x held there);
        long = caller.long;
        holds = caller.holds;
        slots = slots_agree names function a word word' low frame above agree caller.slots;
      } in
      let seen = beneath.sees a.kind a.kept word word' (with_saved_values word fp 0 saved value) (with_saved_values word' fp 0 saved value') (word (caller_word fp)) (word (return_word fp)) outside
      (λ x is. saved_agrees word word' low fp 0 saved value value' x in_frame above (omega arith) (same x is)) below in (
        caller',
        subst (λ (n : ℕ). older a.kind a.kept word' (with_saved_values word' fp 0 saved value') (word' (caller_word fp)) n) at_return
            (subst (λ (n : ℕ). older a.kind a.kept word' (with_saved_values word' fp 0 saved value') n (word (return_word fp))) at_caller seen),
      )
