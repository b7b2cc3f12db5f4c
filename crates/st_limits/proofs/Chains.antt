-- A begun thread goes with its chain: by_standing (a waiter becomes ready), by_take (a chain is taken from a slot) and by_put (one is put there).
use Rattle.std.proofs.Common.{◌≡◌, ◌≢◌, inl, inr, ⊎_elim, ℕ, Bool, true, false, not, ◌==◌, List, Option, Some, None, sym, ap, ◌∙◌, subst}
use Rattle.std.specs.List.{Contains}
use Rattle.std.proofs.lemmas.List.Elements.{Contains-append_left, Contains-append_right, Contains-append_cases}
use mathlib.Core.Logic.{dite}
use native.Mathlib.Decide.{ℕ_discrete}
use Rattle.st_base.specs.declared.chain.Chain.{Chain}
use Rattle.st_base.specs.declared.chain.Note.{Note}
use Rattle.st_base.specs.declared.limits.Limits.{Limits}
use Rattle.st_words.specs.declared.view.CellWord.TheVariants.{Standing}
use Rattle.st_words.specs.declared.view.Slot.{Slot}
use Rattle.st_words.specs.declared.view.Slot.TheVariants.{Cell, Mail}
use Rattle.st_words.specs.declared.view.Known.{Known}
use Rattle.st_words.specs.declared.view.Carried.{Carried}
use Rattle.st_words.specs.declared.view.Cargo.{Cargo}
use Rattle.st_words.specs.declared.view.View.{View}
use Rattle.st_words.specs.Views.{without_chain, took, no_cargo}
use Rattle.st_words.specs.Careful.{MayCarry}
use Rattle.st_words.proofs.Lists.{contains_here, contains_later, filter_in, map_in, other_true}
use Rattle.st_model.specs.declared.program.Program.{Program}
use Rattle.st_model.specs.Memory.{Data}
use Rattle.st_model.specs.Heap.{Path, Heap}
use Rattle.st_world.specs.Functions.{put}
use Rattle.st_world.specs.World.{World, slot_of, cargo_of, with_chain, with_word, waking}
use Rattle.st_made.specs.Events.{NoItem}
use Rattle.st_made.specs.Runs.{known_of}
use Rattle.st_threads.specs.Behind.{Rests}
use Rattle.st_threads.specs.Holding.{Threads}
use Rattle.st_threads.specs.Laws.{AreSingle}
use Rattle.st_threads.proofs.Lists.{known_case}
use Rattle.st_threads.proofs.Holdings.{same_slot}
use Rattle.st_threads.proofs.Steps.{woken_known, chain_here, chain_there}
use Rattle.st_limits.specs.Stopping.{IsBegun, Limiting, Within}
use Rattle.st_limits.proofs.ViewsAfter.{SameView}
use Rattle.st_limits.proofs.Parts.{begun_here, begun_to}
use Rattle.st_limits.proofs.Items.{stays, begun_same, rests}

module _ (program : Program) (source : Data) (limits : Limits) (h0 h h' : Heap) (x : World) (w : ℕ) (T : Threads h x) (L : Within program source limits h0 h x) where
  abbrev u : View
  u = x.view w

  abbrev On : Heap → (Slot → Option Chain) → (Slot → Cargo) → View → Type 0
  On k slot cargo v = Limiting program source limits h0 k x.workers x.cells x.drawn x.stop slot cargo (put x.view w v)

  abbrev Begun : View → Path → Type 0
  Begun v p = IsBegun program source (slot_of x) (cargo_of x) (put x.view w v) p

  -- ---- chains

  begun_woken : (c n : ℕ) (v : View) (p : Path) → Begun v p → IsBegun program source (slot_of x) (cargo_of (waking true c (with_word c Standing n x))) (put x.view w v) p
  begun_woken c n v p (inl k) = inl k
  begun_woken c n v p (inr z) =
      let e = woken_known (with_word c Standing n x) c z.0 in
      inr (z.0, z.1, z.2, ap (λ (t : Known). t.path) (sym e) ∙ z.3, ap (λ (t : Known). t.begun) (sym e) ∙ z.4)

  pub by_standing : (b : Bool) (c n : ℕ) (v : View) → SameView u v → Rests program source h u v h' → let y = waking b c (with_word c Standing n x) in Limiting program source limits h0 h' y.workers y.cells y.drawn y.stop (slot_of y) (cargo_of y) (put y.view w v)
  by_standing true c n v s b = subst (λ (k : Heap). On k (slot_of x) (cargo_of (waking true c (with_word c Standing n x))) v) (sym b.heap) (stays program source limits h0 h h' x w T L (slot_of x) (cargo_of (waking true c (with_word c Standing n x))) v s.0 b.of (λ p k. begun_woken c n v p (begun_same program source limits h0 h h' x w T L v s.1 b.of p k)))
  by_standing false c n v s b = rests program source limits h0 h h' x w T L v s b

  took_chains : (slot : Slot) (o : Option Chain) (cargo : Cargo) (y : Carried) → (Contains u.chains y → Contains (took slot o cargo u).chains y)
  took_chains (Cell c) None cargo y m = m
  took_chains (Cell c) (Some chain) cargo y m = contains_later y cargo.carried u.chains m
  took_chains (Mail at) None cargo y m = m
  took_chains (Mail at) (Some chain) cargo y m = contains_later y cargo.carried u.chains m

  took_here : (slot : Slot) (o : Option Chain) (b : Chain) (cargo : Cargo) → o ≡ Some b → Contains (took slot o cargo u).chains cargo.carried
  took_here (Cell c) None b cargo e = let no : ⊥ = cc in absurd no
  took_here (Cell c) (Some chain) b cargo e = contains_here cargo.carried u.chains
  took_here (Mail at) None b cargo e = let no : ⊥ = cc in absurd no
  took_here (Mail at) (Some chain) b cargo e = contains_here cargo.carried u.chains

  -- a thread of the view is there by one of its two lists
  there_by : (v : View) (slot : Slot → Option Chain) (cargo : Slot → Cargo) → NoItem u v → ((y : Carried) → Contains u.chains y → y.known.begun ≡ true → IsBegun program source slot cargo (put x.view w v) y.known.path) → ((z : Slot) (b : Chain) → slot_of x z ≡ Some b → (cargo_of x z).carried.known.begun ≡ true → IsBegun program source slot cargo (put x.view w v) (cargo_of x z).carried.known.path) → (p : Path) → IsBegun program source (slot_of x) (cargo_of x) x.view p → IsBegun program source slot cargo (put x.view w v) p
  there_by v slot cargo n turn slots p b = begun_to program source (slot_of x) (cargo_of x) x.view w v slot cargo p
      (λ t m e flag. ⊎_elim
      (λ (k : Contains u.threads t). begun_here program source slot cargo x.view w v t (Contains-append_left v.threads (known_of v.chains) t (subst (λ (ts : List Known). Contains ts t) (sym n.threads) k)) flag)
      (λ (k : Contains (known_of u.chains) t).
      let y = known_case u.chains t k in
      subst (λ (s : Known). IsBegun program source slot cargo (put x.view w v) s.path) y.2 (turn y.0 y.1 (ap (λ (s : Known). s.begun) y.2 ∙ flag)))
      (Contains-append_cases u.threads (known_of u.chains) t m))
      (λ z c e path flag. subst (IsBegun program source slot cargo (put x.view w v)) path (slots z c e flag)) b

  in_turn : (v : View) (slot : Slot → Option Chain) (cargo : Slot → Cargo) (y : Carried) → Contains v.chains y → y.known.begun ≡ true → IsBegun program source slot cargo (put x.view w v) y.known.path
  in_turn v slot cargo y m flag = begun_here program source slot cargo x.view w v y.known (Contains-append_right v.threads (known_of v.chains) y.known (map_in (λ (k : Carried). k.known) v.chains y m)) flag

  -- one that is in another slot stays program source limits h0 h h' x w T L there
  in_slot : (v : View) (slot : Slot) (o : Option Chain) (k : Cargo) (z : Slot) (b : Chain) → (z ≡ slot → ⊥) → slot_of x z ≡ Some b → (cargo_of x z).carried.known.begun ≡ true → let y = with_chain slot o k x in IsBegun program source (slot_of y) (cargo_of y) (put x.view w v) (cargo_of x z).carried.known.path
  in_slot v slot o k z b n e flag =
      let other = chain_there slot o k x z n in
      inr (z, b, other.0 ∙ e, ap (λ (c : Cargo). c.carried.known.path) other.1, ap (λ (c : Cargo). c.carried.known.begun) other.1 ∙ flag)

  pub by_take : (slot : Slot) (o : Option Chain) (cargo : Cargo) (v : View) → o ≡ slot_of x slot → cargo ≡ cargo_of x slot → v.drawn ≡ u.drawn → v.child ≡ u.child → v.chains ≡ (took slot o cargo u).chains → Rests program source h u v h' → let y = with_chain slot None no_cargo x in On h' (slot_of y) (cargo_of y) v
  by_take slot o cargo v at with drawn child chains b =
      let y = with_chain slot None no_cargo x in
      subst (λ (k : Heap). On k (slot_of y) (cargo_of y) v) (sym b.heap) (stays program source limits h0 h h' x w T L (slot_of y) (cargo_of y) v (drawn, λ e. child ∙ e, λ e. sym child ∙ e) b.of
      (there_by v (slot_of y) (cargo_of y) b.of
      (λ c m flag. in_turn v (slot_of y) (cargo_of y) c (subst (λ (cs : List Carried). Contains cs c) (sym chains) (took_chains slot o cargo c m)) flag)
      (λ z c e flag. ⊎_elim
      (λ (same : z ≡ slot).
      let k : cargo_of x z ≡ cargo = ap (cargo_of x) same ∙ sym with in
      let here : Contains v.chains cargo.carried = subst (λ (cs : List Carried). Contains cs cargo.carried) (sym chains) (took_here slot o c cargo (at ∙ (sym (ap (slot_of x) same) ∙ e))) in
      subst (λ (k : Cargo). IsBegun program source (slot_of y) (cargo_of y) (put x.view w v) k.carried.known.path) (sym k) (in_turn v (slot_of y) (cargo_of y) cargo.carried here (ap (λ (k : Cargo). k.carried.known.begun) (sym k) ∙ flag)))
      (λ n. in_slot v slot None no_cargo z c n e flag) (same_slot z slot))))

  pub by_put : (slot : Slot) (chain : Chain) (cargo : Cargo) (v : View) → slot_of x slot ≡ None → AreSingle u → MayCarry u chain cargo → v.drawn ≡ u.drawn → v.child ≡ u.child → v.chains ≡ without_chain chain.cell u.chains → Rests program source h u v h' → let y = with_chain slot (Some chain) cargo x in On h' (slot_of y) (cargo_of y) v
  by_put slot chain cargo v empty single carries drawn child chains b =
      let y = with_chain slot (Some chain) cargo x in
      let here = chain_here slot (Some chain) cargo x in
      let cell : cargo.carried.known.note.cell ≡ chain.cell = ap (λ (k : Note). k.cell) carries.note ∙ carries.cell in
      subst (λ (k : Heap). On k (slot_of y) (cargo_of y) v) (sym b.heap) (stays program source limits h0 h h' x w T L (slot_of y) (cargo_of y) v (drawn, λ e. child ∙ e, λ e. sym child ∙ e) b.of
      (there_by v (slot_of y) (cargo_of y) b.of
      (λ c m flag. dite (ℕ_discrete c.known.note.cell chain.cell)
      (λ (e : c.known.note.cell ≡ chain.cell).
      let same : c ≡ cargo.carried = single c cargo.carried m carries.carried (e ∙ sym cell) in
      let at : (cargo_of y slot).carried.known ≡ c.known = ap (λ (k : Cargo). k.carried.known) here.1 ∙ ap (λ (k : Carried). k.known) (sym same) in
      inr (slot, chain, here.0, ap (λ (t : Known). t.path) at, ap (λ (t : Known). t.begun) at ∙ flag))
      (λ (n : c.known.note.cell ≢ chain.cell). in_turn v (slot_of y) (cargo_of y) c (subst (λ (cs : List Carried). Contains cs c) (sym chains) (filter_in (λ (k : Carried). not (k.known.note.cell == chain.cell)) u.chains c m (other_true c.known.note.cell chain.cell n))) flag))
      (λ z c e flag. ⊎_elim
      (λ (same : z ≡ slot). let none : slot_of x z ≡ None = ap (slot_of x) same ∙ empty in let no : ⊥ = cc in absurd no)
      (λ n. in_slot v slot (Some chain) cargo z c n e flag) (same_slot z slot))))
