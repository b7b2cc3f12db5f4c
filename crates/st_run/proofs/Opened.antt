-- A board over vectors that is opened for a program which begins is for it: opened.
use Rattle.std.proofs.Common.{◌≡◌, ℕ, ◌*◌, ◌/◌, ◌≤◌, List, Option, Some, None, Result, Ok, Err, IfOk, refl, sym, ◌∙◌, ap, subst, arith}
use Rattle.st_base.specs.declared.limits.Limits.{Limits}
use Rattle.st_base.specs.declared.thread.Thread.{Thread}
use Rattle.st_words.specs.declared.view.View.{View}
use Rattle.st_words.specs.declared.words.Words.{Words}
use Rattle.st_words.specs.Encodings.{thread_owner}
use Rattle.st_words.specs.Views.{no_known}
use Rattle.st_words.specs.Plain.{Cargoes, first_words, first_cargoes, first_views}
use Rattle.st_words.proofs.Opening.{first_sized, first_sizes, first_views_count}
use Rattle.st_model.specs.declared.program.Program.{Program}
use Rattle.st_model.specs.declared.ordinary.State.{State}
use Rattle.st_model.specs.Memory.{Data}
use Rattle.st_model.specs.Ordinary.{start}
use Rattle.st_model.specs.Heap.{new_thread, first_heap}
use Rattle.st_world.specs.OfPlain.{world_of, reading}
use Rattle.st_world.proofs.Opened.{led_first, some_cells}
use Rattle.st_rule.specs.Rule.{Rule}
use Rattle.st_rule.specs.Laws.{RuleLaws}
use Rattle.st_run.specs.Meanings.{meaning}
use Rattle.st_run.specs.OfPlain.{PlainIsFor}
use Rattle.st_run.specs.Meant.{is_meant}

-- the root's thread at the start
abbrev pub root_thread : Option State → Thread
root_thread None = no_known.thread
root_thread (Some s) = new_thread s.top s.registers

-- cell 0 is named for it
root_owner : (limits : Limits) (workers : ℕ) → reading (first_words limits workers).owners 0 ≡ thread_owner 0 0
unfolding first_words
root_owner limits workers = led_first limits.cells 0 1 (some_cells limits workers)

module _ (p : Program) (d : Data) (limits : Limits) (laws : RuleLaws (meaning p d limits)) (workers : ℕ) (most : workers ≤ 16) (begins : (first : State) × (start p d ≡ Some first)) where
  first : PlainIsFor p d limits (first_words limits workers) (first_cargoes limits workers (root_thread (start p d))) (first_views limits workers)
  first =
      let s = begins.0 in
      let thread : root_thread (start p d) ≡ new_thread s.top s.registers = ap root_thread begins.1 in
      let count = first_views_count limits workers (first_views limits workers) refl in
      record {
        whole = record { sized = first_sized limits workers (root_thread (start p d)); stack = (first_sizes limits workers (first_words limits workers) refl).2 ∙ ap (λ (n : ℕ). n * (limits.stack / 8)) (sym count) };
        first = s;
        is_first = begins.1;
        heap = first_heap s;
        rule = subst (λ (t : Thread). Rule (meaning p d limits) p d limits (first_heap s) (first_heap s) (world_of (limits.stack / 8) (first_words limits workers) (first_cargoes limits workers t) (first_views limits workers))) (sym thread) (laws.opened p d limits s workers (is_meant p d limits) begins.1 (omega (arith, most)));
        root = root_owner limits workers;
      }

  pub opened : (given : Limits) → limits ≡ given → (x : Words) (ls : Cargoes) (vs : List View) → x ≡ first_words given workers → ls ≡ first_cargoes given workers (root_thread (start p d)) → vs ≡ first_views given workers → PlainIsFor p d limits x ls vs
  opened given same x ls vs ex el ev =
      subst (λ (y : Words). PlainIsFor p d limits y ls vs) (sym (ex ∙ ap (λ (l : Limits). first_words l workers) (sym same)))
      (subst (λ (m : Cargoes). PlainIsFor p d limits (first_words limits workers) m vs) (sym (el ∙ ap (λ (l : Limits). first_cargoes l workers (root_thread (start p d))) (sym same)))
      (subst (λ (us : List View). PlainIsFor p d limits (first_words limits workers) (first_cargoes limits workers (root_thread (start p d))) us) (sym (ev ∙ ap (λ (l : Limits). first_views l workers) (sym same))) first))

-- what follows from three facts of an answer that is Ok
pub if_all : {A E : Type 0} (P Q R S : A → Type 0) → ((a : A) → P a → Q a → R a → S a) → (r : Result A E) → IfOk r P → IfOk r Q → IfOk r R → IfOk r S
if_all {A} {E} P Q R S f (Ok a) p q r = f a p q r
if_all {A} {E} P Q R S f (Err e) p q r = tt
