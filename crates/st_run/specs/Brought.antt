-- A board over vectors whose worker w is brought to the view u: it has that view in the place of the worker's (world_brought), keeps its sizes (whole_brought), and is for the
-- program as before (brought). What a step leaves of it is what it leaves of the board before, since it reads no more of a view than the numbers in its hand (left_brought).
use Rattle.std.proofs.Common.{◌≡◌, ◌≢◌, ⊎_elim, ℕ, ◌*◌, ◌/◌, ◌<◌, ◌≤◌, ◌&&◌, ◌==◌, List, length, refl, sym, ◌∙◌, ap, subst, slice_set, length-set}
use Rattle.std.proofs.lemmas.List.{get_or_past}
use Rattle.st_base.specs.declared.limits.Limits.{Limits}
use Rattle.st_words.specs.declared.view.CellWord.TheVariants.{Standing}
use Rattle.st_words.specs.declared.view.View.{View}
use Rattle.st_words.specs.declared.view.Waiter.{Waiter}
use Rattle.st_words.specs.declared.words.Words.{Words}
use Rattle.st_words.specs.Encodings.{ready}
use Rattle.st_words.specs.Steps.{Step, CellStore, Answer}
use Rattle.st_words.specs.Views.{in_hand}
use Rattle.st_words.specs.Plain.{Cargoes, view_at, no_view, Left, cargoes_after, ready_cargo}
use Rattle.st_words.specs.Sizes.{SizedWords, SizedCargoes}
use Rattle.st_words.proofs.Sizes.{SameSizes, sized_moved, free_sizes, moved_here, moved_other}
use Rattle.st_model.specs.declared.program.Program.{Program}
use Rattle.st_model.specs.Memory.{Data}
use Rattle.st_model.specs.Heap.{first_heap}
use Rattle.st_laws.proofs.Placing.{le_or_less}
use Rattle.st_made.specs.Moves.{Made}
use Rattle.st_made.proofs.Making.{made_is_free}
use Rattle.st_world.specs.World.{World, seen}
use Rattle.st_world.specs.OfPlain.{world_of}
use Rattle.st_world.specs.Laws.{IsWhole, SetsView}
use Rattle.st_world.proofs.OfPlain.{read_set}
use Rattle.st_rule.specs.Rule.{Rule}
use Rattle.st_rule.specs.Laws.{RuleLaws}
use Rattle.st_run.specs.Meanings.{meaning}
use Rattle.st_run.specs.OfPlain.{PlainIsFor}

-- ---- any board over vectors

module _ (each : ℕ) (x : Words) (ls : Cargoes) (vs : List View) (w : ℕ) (u : View) where
  pub world_brought : w < length vs → world_of each x ls (slice_set vs w u) ≡ seen w u (world_of each x ls vs)
  world_brought l = λ i. record (world_of each x ls vs) { workers = length-set vs w u i; view = read_set vs w u no_view l i }

  pub whole_brought : IsWhole each x ls vs → w < length vs → SameSizes (view_at vs w) u → IsWhole each x ls (slice_set vs w u)
  whole_brought r l same =
      let long : length vs ≡ length (slice_set vs w u) = sym (length-set vs w u) in
      record {
        sized = record {
          words = subst (λ (n : ℕ). SizedWords x n) long r.sized.words;
          cargoes = subst (λ (n : ℕ). SizedCargoes ls (length x.owners) n) long r.sized.cargoes;
          views = sized_moved vs (length x.owners) (length x.stack) w u r.sized.views l same;
        };
        stack = r.stack ∙ ap (λ (n : ℕ). n * each) long;
      }

  -- of the cargoes that a step leaves only a store of a Standing word reads the view
  same_cargoes : (v : View) (s : Step) → v.hand ≡ u.hand → cargoes_after v ls s ≡ cargoes_after u ls s
  same_cargoes v (CellStore c Standing n) e = ap (λ (hand : List Waiter). ready_cargo ((n == ready) && in_hand c hand) c ls) e
  same_cargoes v s e = refl

  pub left_brought : (s : Step) (a : Answer) (x' : Words) (ls' : Cargoes) (vs' : List View) → w < length vs → u.hand ≡ (view_at vs w).hand → Left x ls vs w s a x' ls' vs' → Left x ls (slice_set vs w u) w s a x' ls' vs'
  left_brought s a x' ls' vs' l hand left = record {
    words = left.words;
    cargoes = (left.cargoes ∙ same_cargoes (view_at vs w) s (sym hand)) ∙ ap (λ (v : View). cargoes_after v ls s) (sym (moved_here vs w u l));
    workers = left.workers ∙ sym (length-set vs w u);
  }

  -- what the others have stays, and there is nothing beyond the last of them
  pub sets_brought : (vs' : List View) → length vs' ≡ length vs → ((q : ℕ) → q ≢ w → q < length vs → view_at vs' q ≡ view_at vs q) → SetsView (slice_set vs w u) w (view_at vs' w) vs'
  sets_brought vs' same others = record {
    own = refl;
    others = λ q n. ⊎_elim
        (λ (m : length vs ≤ q). get_or_past vs' q no_view (subst (λ (k : ℕ). k ≤ q) (sym same) m) ∙ sym (get_or_past (slice_set vs w u) q no_view (subst (λ (k : ℕ). k ≤ q) (sym (length-set vs w u)) m)))
        (λ (l : q < length vs). others q n l ∙ sym (moved_other vs w q u n))
        (le_or_less (length vs) q);
  }

-- ---- a board for a program

module _ (p : Program) (d : Data) (limits : Limits) (laws : RuleLaws (meaning p d limits)) where
  pub brought : (x : Words) (ls : Cargoes) (vs : List View) (w : ℕ) (u : View) → PlainIsFor p d limits x ls vs → w < length vs → Made p d (view_at vs w) u → PlainIsFor p d limits x ls (slice_set vs w u)
  brought x ls vs w u r l made =
      let each = limits.stack / 8 in
      let on = laws.moves p d limits (first_heap r.first) r.heap (world_of each x ls vs) w u r.rule l made in
      record {
        whole = whole_brought each x ls vs w u r.whole l (free_sizes (view_at vs w) u (made_is_free p d (view_at vs w) u made));
        first = r.first;
        is_first = r.is_first;
        heap = on.heap;
        rule = subst (λ (y : World). Rule (meaning p d limits) p d limits (first_heap r.first) on.heap y) (sym (world_brought each x ls vs w u l)) on.rule;
        root = r.root;
      }
