-- Where no frame of a worker's threads has its return word: below sp on its stack (spared_below), and in the newest frame below its own return word
-- (spared_in_frame).
use Rattle.std.proofs.Common.{◌≡◌, inl, inr, ℕ, suc, ◌≤◌, ◌<◌, Bool, true, false, List, ◌∷◌, ◌++◌, refl, ap, sym, ◌∙◌, subst, arith}
use Rattle.std.specs.List.{Contains}
use Rattle.st_base.specs.declared.chain.Frame.{Frame}
use Rattle.st_base.specs.declared.thread.Held.{Held}
use Rattle.st_model.specs.declared.program.Program.{Program}
use Rattle.st_model.specs.Memory.{Data}
use Rattle.st_words.specs.declared.view.Known.{Known}
use Rattle.st_words.specs.Steps.{place_of, return_place}
use Rattle.st_step.specs.Runs.{Situation}
use Rattle.st_items.specs.Body.{Ends}
use Rattle.st_stack.specs.Exported.{Apart}
use Rattle.st_chain.specs.Seen.{IsWhole, joined}
use Rattle.st_chain.specs.Taking.{AllApart}
use Rattle.st_chain.proofs.Joining.{apart_at}
use Rattle.st_running.specs.Running.{CanRun}
use Rattle.st_sparing.specs.Sparing.{AreReturnWords}
use Rattle.st_sparing.proofs.WholeFrames.{frames_whole, first_or_later}

-- the return word of a frame that lies apart from this one
return_outside : (f g : Frame) (q : ℕ) → IsWhole f → Apart g f → return_place f ≡ q → place_of g.low ≤ q → q < place_of g.base → ⊥
return_outside f g q whole (inl above) is from to = let low = whole.above in let some = whole.some in omega arith
return_outside f g q whole (inr below) is from to = let low = whole.above in let some = whole.some in omega arith

module _ (p : Program) (d : Data) (names : List (Held × ℕ)) (holds kept : ℕ → Bool) (ends : Ends) (t : Situation) (k : Known) (fs : List Frame) (ks : List Known) (rest : List (List Frame)) (can : CanRun p d names holds ends t k fs ks rest) (returns : AreReturnWords holds kept (joined (fs ∷ rest))) where
  -- a word that is held and is the return word of none of the frames
  spared_where : (q : ℕ) (b : Bool) → kept q ≡ b → holds q ≡ true → ((f : Frame) → Contains (joined (fs ∷ rest)) f → IsWhole f → return_place f ≡ q → ⊥) → kept q ≡ false
  spared_where q false is held none = is
  spared_where q true is held none =
      let (f, there, at) = returns q is held in
      absurd (none f there (frames_whole p names holds can.accepted ends t k fs ks rest can.on f there) at)

  pub spared_below : (q : ℕ) → place_of ends.lo ≤ q → q < place_of ends.sp → kept q ≡ false
  spared_below q from to =
      spared_where q (kept q) refl (can.room.own q from to) (λ f there whole is.
      return_outside f (record { low = ends.lo; base = ends.sp }) q whole (apart_at (record { low = ends.lo; base = ends.sp }) f (joined (fs ∷ rest)) can.room.clear there) is from to)

  pub spared_in_frame : (g : Frame) (gs : List Frame) (q : ℕ) → fs ≡ g ∷ gs → holds q ≡ true → place_of g.low ≤ q → suc q < place_of g.base → kept q ≡ false
  spared_in_frame g gs q frames held from to =
      let all : AllApart (joined ((g ∷ gs) ∷ rest)) = subst (λ (l : List Frame). AllApart (joined (l ∷ rest))) frames can.apart in
      let others = gs ++ joined rest in
      let itself : (f : Frame) → f ≡ g → return_place f ≡ q → ⊥ = λ f same is. (let place : return_place g ≡ q = ap return_place (sym same) ∙ is in omega arith) in
      spared_where q (kept q) refl held (λ f there whole is.
      elim (first_or_later g f others (subst (λ (l : List Frame). Contains (joined (l ∷ rest)) f) frames there)) [
        | inl same ↦ itself f same is
        | inr later ↦ return_outside f g q whole (apart_at g f others all.1 later) is from (omega arith)
      ])
