-- The first heap has the thread of the first ordinary state: start_stands. It has the root alone: alone_is, alone_thread.
use Rattle.std.proofs.Common.{◌≡◌, ◌≢◌, ℕ, [], ◌∷◌, ◌++◌, length, Option, Some, None, refl, subst, ◌⊎◌, inl, inr}
use Rattle.std.specs.Prelude.{slice_get}
use Rattle.st_base.specs.declared.thread.Thread.{Thread}
use Rattle.st_model.specs.declared.program.Program.{Program}
use Rattle.st_model.specs.declared.program.ProgramFunction.{ProgramFunction}
use Rattle.st_model.specs.Heap.{Path, put}
use Rattle.st_model.specs.Ordinary.{started}
use Rattle.st_laws.specs.Sequential.{FirstStands, StartStands}
use Rattle.st_laws.proofs.HeapSteps.{put_same, put_other, decide}

-- the path of a child is not the root's
pub no_child : (p : Path) (k : ℕ) → p ++ k ∷ [] ≢ []
no_child [] k e = cc
no_child (x ∷ p) k e = cc

alone : (t : Thread) (p : Path) (k : ℕ) → put [] (Some t) (λ q. None) (p ++ k ∷ []) ≡ None
alone t p k = put_other [] (p ++ k ∷ []) (Some t) (λ q. None) (no_child p k)

pub alone_is : (t : Thread) (p : Path) (u : Thread) → (p ≡ []) ⊎ (p ≢ []) → put [] (Some t) (λ q. None) p ≡ Some u → p ≡ []
alone_is t p u (inl e) is = e
alone_is t p u (inr ne) is = let x = put_other [] p (Some t) (λ q. None) ne in cc

-- the root is the one thread there, in this state
pub alone_thread : (t : Thread) (p : Path) (u : Thread) → put [] (Some t) (λ q. None) p ≡ Some u → (p ≡ []) × (u ≡ t)
alone_thread t p u is =
    let root : p ≡ [] = alone_is t p u (decide p []) is in
    let here : put [] (Some t) (λ q. None) [] ≡ Some u = subst (λ q. put [] (Some t) (λ r. None) q ≡ Some u) root is in
    let same : u ≡ t = cc in
    (root, same)

started_stands : (program : Program) (input : ℕ) (o : Option ProgramFunction) → FirstStands (started program input o)
started_stands program input None = tt
started_stands program input (Some function) = (
  record {
    mine = [];
    others = [];
    split = refl;
    frames = tt;
    here = put_same [] _ (λ q. None);
    below = tt;
    facts =
        record {
          ended = λ p v is. cc;
          whole = λ p t is. inr (inl (alone_is _ p t (decide p []) is));
          counts = λ p n. refl;
          printed = refl;
          early = tt;
        };
  },
  record { orphan = λ p k e. alone _ p k; free = λ p t k e le. alone _ p k },
)

pub start_stands : StartStands
start_stands program source = started_stands program (length source.input) (slice_get program.functions program.main)
