-- What is older than an activation sees no word of its frame, where the frames of all threads are apart: read sees_below (over any end that doesn't
-- see the frame) and sees_outside (over the threads below).
use Rattle.std.proofs.Common.{ℕ, Bool, List}
use Rattle.st_base.specs.declared.chain.Frame.{Frame}
use Rattle.st_base.specs.declared.thread.Activation.{Activation}
use Rattle.st_model.specs.declared.program.Program.{Program}
use Rattle.st_model.specs.Accepted.{IsAccepted}
use Rattle.st_words.specs.declared.view.Known.{Known}
use Rattle.st_step.specs.Frames.{Naming}
use Rattle.st_items.specs.Body.{Context, SeesOutside}
use Rattle.st_chain.specs.Walk.{Below}
use Rattle.st_chain.specs.Threads.{AtEnd, Lower}
use Rattle.st_chain.specs.Seen.{joined, IsEven, AreApart}
use Rattle.st_chain.proofs.Frames.{below_same, lower_same, apart_same}

module _ (p : Program) (names : Naming) (holds : ℕ → Bool) (accepted : IsAccepted p) (f : Frame) (even : IsEven f) where
  pub sees_below : (end : Context) (older : List Activation) (fs : List Frame) → AreApart f fs → SeesOutside end f.low f.base → SeesOutside (Below p names holds end older fs) f.low f.base
  sees_below end older fs apart sees kind kept word word' value value' fp ret outside same below =
      below_same p names names (λ held n is. is) holds holds word word' accepted end end (λ kind_end kept_end value_end value_end' fp_end ret_end. sees kind_end kept_end word word' value_end value_end' fp_end ret_end outside) older fs
      (apart_same holds holds word word' f fs even outside (λ q is. is) apart) kind kept value value' fp ret same below

  pub sees_end : SeesOutside AtEnd f.low f.base
  sees_end kind kept word word' value value' fp ret outside same end = end

  pub sees_lower : (cell : ℕ) (ts : List Known) (frames : List (List Frame)) → AreApart f (joined frames) → SeesOutside (Lower p names holds cell ts frames) f.low f.base
  sees_lower cell ts frames apart kind kept word word' value value' fp ret outside same lower =
      lower_same p names names (λ held n is. is) holds holds word word' accepted ts frames cell (apart_same holds holds word word' f (joined frames) even outside (λ q is. is) apart) kind kept value value' fp ret same lower

  pub sees_outside : (older : List Activation) (fs : List Frame) (cell : ℕ) (ts : List Known) (frames : List (List Frame)) → AreApart f fs → AreApart f (joined frames) → SeesOutside (Below p names holds (Lower p names holds cell ts frames) older fs) f.low f.base
  sees_outside older fs cell ts frames apart apart_lower = sees_below (Lower p names holds cell ts frames) older fs apart (sees_lower cell ts frames apart_lower)
