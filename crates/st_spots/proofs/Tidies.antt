-- What is always so of a view: view_laws.
use Rattle.std.proofs.Common.{◌≡◌, ⊎_elim, ℕ, ◌<◌, Some, sym, subst}
use Rattle.st_words.specs.Steps.{HasInHand}
use Rattle.st_world.specs.World.{World}
use Rattle.st_spots.specs.Listing.{Held, Lists}
use Rattle.st_spots.specs.Laws.{ViewLaws}

pub held : (x : World) (w c : ℕ) (G : Lists x) → HasInHand (x.view w) c → G.spot c ≡ Held w
held x w c G h = subst (λ (z : ℕ). G.spot z ≡ Held w) h.2 ((G.listing.hands w).entries h.0 h.1).held

pub view_laws : ViewLaws
view_laws = record {
  once = λ x w G. (G.listing.hands w).once;
  one_hand = λ x v w c G a b. let p = held x v c G a in let q = held x w c G b in cc;
  one_ready = λ x v w c G a b. let p = (G.listing.readies v).of c a in let q = (G.listing.readies w).of c b in cc;
  apart = λ x v w c G a b. let p = (G.listing.readies v).of c a in let q = held x w c G b in let no : ⊥ = cc in no;
  one_finder = λ x v w G a b. let p = G.rooting.finder v a in let q = G.rooting.finder w b in let t : Some v ≡ Some w = cc in cc;
  root_apart = λ x v w G a. ⊎_elim (λ h. let p = G.rooting.finder v a in let q = held x w 0 G h in let no : ⊥ = cc in no) (λ m. let p = G.rooting.finder v a in let q = (G.listing.readies w).of 0 m in let no : ⊥ = cc in no);
  below = λ x w c G l. ⊎_elim
      (λ h. let p = held x w c G h in subst (λ (k : ℕ). c < k) (sym (G.sized w l)) (G.below c (λ z. let no : ⊥ = cc in no)))
      (λ m. let p = (G.listing.readies w).of c m in subst (λ (k : ℕ). c < k) (sym (G.sized w l)) (G.below c (λ z. let no : ⊥ = cc in no)));
  linked = λ x w y n G m e. (((G.listing.hands w).entries y m).linked n e).1;
}
