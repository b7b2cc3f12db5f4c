-- What follows from the names: named_of (what the words of a named cell hold) and told_laws.
use Rattle.std.proofs.Common.{◌≡◌, inl, inr, ℕ, ◌≤◌, Some, sym, ◌∙◌, subst}
use Rattle.st_base.specs.declared.chain.Chain.{Chain}
use Rattle.st_base.specs.declared.thread.Held.{Held}
use Rattle.st_base.specs.declared.thread.Held.TheVariants.{Number, Future, Counter}
use Rattle.st_words.specs.declared.view.Slot.{Slot}
use Rattle.st_words.specs.Promises.{IsOwnerOf}
use Rattle.st_model.specs.declared.program.Program.{Program}
use Rattle.st_model.specs.Memory.{Data}
use Rattle.st_model.specs.Heap.{Heap, HasEnded}
use Rattle.st_world.specs.World.{World, slot_of, cargo_of}
use Rattle.st_names.specs.Naming.{OwnerOf, IsNamed, CellHolds, SlotNames, CargoNames, Named}
use Rattle.st_names.specs.Laws.{Told}

pub named_of : (program : Program) (source : Data) (h : Heap) (x : World) (N : Named program source h x) (c : ℕ) (n : Held) → N.name c ≡ Some n → IsNamed program source h N.name N.cell c (x.owner c) (x.state c) (x.value c) n
named_of program source h x N c n e = subst (CellHolds program source h N.name N.cell c (x.owner c) (x.state c) (x.value c)) e (N.cell_holds c)

module _ (program : Program) (source : Data) (h : Heap) (x : World) (N : Named program source h x) where
  one_cell : (c d : ℕ) (n : Held) → N.name c ≡ Some n → N.name d ≡ Some n → c ≡ d
  one_cell c d n a b = sym (named_of program source h x N c n a).one ∙ (named_of program source h x N d n b).one

  owner_of : (w o n : ℕ) (name : Held) → n ≡ o → OwnerOf N.name name o → IsOwnerOf (x.view w).names name n
  owner_of w o n (Number k) e of = of
  owner_of w o n (Future p) e (inl root) = inl (root.0, e ∙ root.1)
  owner_of w o n (Future p) e (inr of) = inr (of.0, of.1, of.2, of.3, e ∙ of.4, λ q m. one_cell of.2 q (Future of.0) of.5 ((N.views w).names (Future of.0) q m))
  owner_of w o n (Counter p k) e of = (of.0, e ∙ of.1, λ q m. one_cell of.0 q (Future p) of.2 ((N.views w).names (Future p) q m))

  in_slot : (z : Slot) (chain : Chain) → slot_of x z ≡ Some chain → CargoNames program source h N.name N.cell (cargo_of x z)
  in_slot z chain e = subst (λ o. SlotNames program source h N.name N.cell o (cargo_of x z)) e (N.slots z)

pub told_laws : Told
told_laws program source = record {
  has_seen = λ h x w N values counts. record {
    values = λ q cell n a b. let s = values cell n b in subst (HasEnded h q) s.1 ((named_of program source h x N cell (Future q) ((N.views w).names (Future q) cell a)).shows.full s.0);
    counts = λ q i cell k a b. subst (λ z. k ≤ z) (named_of program source h x N cell (Counter q i) ((N.views w).names (Counter q i) cell a)).shows.0 (counts cell k b);
  };
  owner = λ h x w c n name N f m. owner_of program source h x N w (x.owner c) n name f (named_of program source h x N c name ((N.views w).names name c m)).owner_word;
  below = λ h x w c name N m. N.below c name ((N.views w).names name c m);
  one_name = λ h x w c a b N m k. let e = (N.views w).names a c m in let f = (N.views w).names b c k in cc;
  one_cell = λ h x w c d a N m k. one_cell program source h x N c d a ((N.views w).names a c m) ((N.views w).names a d k);
  knows = λ h x w N. (N.views w).knows;
  in_slot = λ h x z chain name N e is has. (in_slot program source h x N z chain e).knows name is has;
  below_in_slot = λ h x z chain c name N e m. N.below c name ((in_slot program source h x N z chain e).names name c m);
  future = λ h x p N e. (named_of program source h x N (N.cell (Future p)) (Future p) e).shows;
  counter = λ h x p k N e. (named_of program source h x N (N.cell (Counter p k)) (Counter p k) e).shows.0;
}
