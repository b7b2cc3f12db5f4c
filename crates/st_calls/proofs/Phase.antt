-- A worker whose turn comes in a phase of a call: what it has there (by_in), and that a step without an item may be asked (asks_load).
use Rattle.st_base.specs.declared.image.Image.{Image}
use Rattle.st_base.specs.declared.limits.Limits.{Limits}
use Rattle.st_calls.proofs.Turning.{IsCalm}
use Rattle.st_chain.specs.Walk.{number_or, word_in}
use Rattle.st_fits.specs.Fits.{ByPhase}
use Rattle.st_fits.specs.Laws.{IsReady, MayAsk}
use Rattle.st_kept.proofs.Stepping.{no_item_asks}
use Rattle.st_model.specs.Accepted.{IsAccepted}
use Rattle.st_model.specs.Memory.{Data}
use Rattle.st_model.specs.declared.program.Program.{Program}
use Rattle.st_phases.specs.declared.automaton.Automaton.{Automaton}
use Rattle.st_phases.specs.declared.phase.Phase.{Phase}
use Rattle.st_run.specs.Behind.{IsBehind}
use Rattle.st_run.specs.Meanings.{meaning}
use Rattle.st_step.specs.Runs.{AreWords}
use Rattle.st_words.proofs.Safe.{load}
use Rattle.st_words.specs.Steps.{CellLoad, kept}
use Rattle.st_words.specs.declared.view.CellWord.{CellWord}
use Rattle.st_words.specs.declared.view.View.{View}
use Rattle.std.proofs.Common.{◌≡◌, ℕ, List, Option, Some, refl, sym, subst, arith, ◌^◌, ◌<◌, None}

module _ (p : Program) (d : Data) (limits : Limits) (image : Image) (input : List ℕ) (x : Automaton) (u : View) (ready : IsReady p d limits image input x u) where
  pub by_in : (φ : Phase) → x.phase ≡ φ → ByPhase p d limits φ x u
  by_in φ e = subst (λ φ. ByPhase p d limits φ x u) e ready.fits.by

  pub calm_in : (φ : Phase) → x.phase ≡ φ → IsCalm φ → IsCalm x.phase
  calm_in φ e calm = subst IsCalm (sym e) calm

  pub is_accepted : IsAccepted p
  is_accepted = ready.fits.is_for.code.accepted

  -- a word of a cell may be loaded
  pub asks_load : (c : ℕ) (word : CellWord) → c < u.cells → MayAsk p d limits u (CellLoad c word)
  asks_load c word below = no_item_asks p d limits u (CellLoad c word) tt (load (meaning p d limits) u c word below)

  -- the words that are held have 64 bits
  pub words_after : (v : View) → IsBehind p d v → AreWords (word_in v.held)
  words_after v behind q = word_by (kept v.held q) refl
    where
      word_by : (o : Option ℕ) → kept v.held q ≡ o → word_in v.held q < 2 ^ 64
      word_by None is = subst (λ (o : Option ℕ). number_or o < 2 ^ 64) (sym is) (omega arith)
      word_by (Some n) is = subst (λ (o : Option ℕ). number_or o < 2 ^ 64) (sym is) (behind.words q n is)
