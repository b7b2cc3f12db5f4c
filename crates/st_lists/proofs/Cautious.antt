-- A careful step does what the lists need of it: careful_tends; no wait is shown as ready: not_ready. It speaks of what the program means to a board, so it is no contract.
use Rattle.std.proofs.Common.{◌≡◌, inl, inr, ⊎_elim, Some, ap, ◌∙◌, arith}
use Rattle.st_base.specs.declared.chain.Waiting.{Waiting}
use Rattle.st_base.specs.declared.chain.Waiting.TheVariants as waits
use Rattle.st_words.specs.declared.view.CellWord.TheVariants.{Next, Standing}
use Rattle.st_words.specs.declared.view.View.{View}
use Rattle.st_words.specs.Encodings.{ready}
use Rattle.st_words.specs.Steps.{Step, CellStore, CellChange}
use Rattle.st_words.specs.Careful.{Meaning, Careful, standing_of}
use Rattle.st_lists.specs.Laws.{Tends}

-- no chain that waits or has stopped is shown as ready
pub not_ready : (wait : Waiting) → standing_of wait ≡ Some ready → ⊥
not_ready waits.Start e = let no : ⊥ = cc in no
not_ready waits.Ready e = let no : ⊥ = cc in no
not_ready (waits.Touch cell) e = let no : ⊥ = cc in no
not_ready (waits.Join cell least) e = let no : ⊥ = cc in no
not_ready waits.Trapped e = let no : ⊥ = cc in no

pub careful_tends : (m : Meaning) (u : View) (s : Step) → Careful m u s → Tends u s
careful_tends m u (CellStore c Next n) careful = let stores = careful.stores in stores.1
careful_tends m u (CellStore c Standing n) careful = λ is. ⊎_elim
    (λ r. let e = r.0 in let no : ⊥ = omega (arith, e, is) in absurd no)
    (λ more. ⊎_elim
    (λ t. absurd (not_ready t.0.wait (t.3.1 ∙ ap Some is)))
    (λ more. ⊎_elim (λ r. let i = r.1 in (i.0, i.1, i.2, i.3.0)) (λ e. let f = e.0 in let no : ⊥ = omega (arith, f, is) in absurd no) more) more) careful.stores
careful_tends m u (CellChange c old new) careful = ⊎_elim
    (λ f. inl (f.0, ⊎_elim (λ p. inl p) (λ q. inr q.0) f.1))
    (λ k. inr k) careful.changes
careful_tends m u s careful = tt
