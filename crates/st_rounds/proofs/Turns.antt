-- The views behind the steps with which a chain comes to run: what the worker has in its turn stays, but for the Standing word of the chain (SameTurn). Read stood_turn, state_turn, value_turn and mail_turn.
use Rattle.std.proofs.Common.{◌≡◌, ⊎_elim, ℕ, Bool, true, false, cond, ◌||◌, ◌==◌, List, [], ◌∷◌, Option, Some, None, refl, sym, ap, ◌∙◌, eq-eqb}
use Rattle.std.specs.List.{Contains}
use Rattle.st_words.specs.declared.view.Carried.{Carried}
use Rattle.st_words.specs.declared.view.CellWord.TheVariants as words
use Rattle.st_words.specs.declared.view.View.{View}
use Rattle.st_words.specs.Encodings.{full_word, running}
use Rattle.st_words.specs.Steps.{CellLoad, CellStore, MailStore, Done, Number}
use Rattle.st_words.specs.Views.{view_after, with_standing, child_stands, state_when, with_state_by, kind_seen, with_value, has_number, mail_sent, answered}
use Rattle.st_words.proofs.Lists.{contains_none, contains_case}
use Rattle.st_model.specs.declared.program.Program.{Program}
use Rattle.st_model.specs.Memory.{Data}
use Rattle.st_fits.specs.Bags.{Bag, HasBag}
use Rattle.st_fits.specs.Before.{after}

pub record SameTurn (u v : View) : Type 0 where
  pub threads : v.threads ≡ u.threads
  pub hand : v.hand ≡ u.hand
  pub share : v.share ≡ u.share
  pub drawn : v.drawn ≡ u.drawn
  pub child : v.child ≡ u.child
  pub answering : v.answering ≡ u.answering
  pub given : v.given ≡ u.given
  pub root : v.root ≡ u.root
  pub asked : v.asked ≡ u.asked
  pub ready : v.ready ≡ u.ready

-- it has those chains, and all else as before
pub turn_bag : (b : Bag) (u v : View) (chains : List Carried) → SameTurn u v → v.chains ≡ chains → HasBag b u → HasBag (record b { chains = chains }) v
turn_bag b u v chains same are bag = record {
  chains = are;
  hand = same.hand ∙ bag.hand;
  share = same.share ∙ bag.share;
  drawn = same.drawn ∙ bag.drawn;
  child = same.child ∙ bag.child;
  answering = same.answering ∙ bag.answering;
  given = same.given ∙ bag.given;
  root = same.root ∙ bag.root;
}

when_turn : (c n : ℕ) (counter is_full : Bool) (u : View) → SameTurn u (state_when c n counter is_full u) × ((state_when c n counter is_full u).chains ≡ u.chains)
when_turn c n true is_full u = (record { threads = refl; hand = refl; share = refl; drawn = refl; child = refl; answering = refl; given = refl; root = refl; asked = refl; ready = refl }, refl)
when_turn c n false true u = (record { threads = refl; hand = refl; share = refl; drawn = refl; child = refl; answering = refl; given = refl; root = refl; asked = refl; ready = refl }, refl)
when_turn c n false false u = (record { threads = refl; hand = refl; share = refl; drawn = refl; child = refl; answering = refl; given = refl; root = refl; asked = refl; ready = refl }, refl)

state_by : (o : Option Bool) (c n : ℕ) (u : View) → SameTurn u (with_state_by o c n u) × ((with_state_by o c n u).chains ≡ u.chains)
state_by None c n u = (record { threads = refl; hand = refl; share = refl; drawn = refl; child = refl; answering = refl; given = refl; root = refl; asked = refl; ready = refl }, refl)
state_by (Some counter) c n u = when_turn c n counter (n == full_word) u

-- with the threads of the view before
on_threads : (u w : View) → SameTurn u w × (w.chains ≡ u.chains) → SameTurn u (record w { threads = u.threads }) × (w.chains ≡ u.chains)
on_threads u w (same, chains) = (record { threads = refl; hand = same.hand; share = same.share; drawn = same.drawn; child = same.child; answering = same.answering; given = same.given; root = same.root; asked = same.asked; ready = same.ready }, chains)

value_by : (b : Bool) (c n : ℕ) (u : View) → SameTurn u (with_value c n b u) × ((with_value c n b u).chains ≡ u.chains)
value_by true c n u = (record { threads = refl; hand = refl; share = refl; drawn = refl; child = refl; answering = refl; given = refl; root = refl; asked = refl; ready = refl }, refl)
value_by false c n u = (record { threads = refl; hand = refl; share = refl; drawn = refl; child = refl; answering = refl; given = refl; root = refl; asked = refl; ready = refl }, refl)

mail_by : (b : Bool) (n : ℕ) (u : View) → u.answering ≡ None → SameTurn u (mail_sent b n u) × ((mail_sent b n u).chains ≡ u.chains)
mail_by true n u none = (record { threads = refl; hand = refl; share = refl; drawn = refl; child = refl; answering = refl; given = refl; root = refl; asked = refl; ready = refl }, refl)
mail_by false n u none = (record { threads = refl; hand = refl; share = refl; drawn = refl; child = refl; answering = ap answered none ∙ sym none; given = refl; root = refl; asked = refl; ready = refl }, refl)

module _ (p : Program) (d : Data) (u : View) where
  pub state_turn : (c n : ℕ) → SameTurn u (after p d u (CellLoad c words.State) (Number n)) × ((after p d u (CellLoad c words.State) (Number n)).chains ≡ u.chains)
  unfolding after view_after
  state_turn c n = let by = state_by (kind_seen c u) c n u in (record { threads = refl; hand = by.0.hand; share = by.0.share; drawn = by.0.drawn; child = by.0.child; answering = by.0.answering; given = by.0.given; root = by.0.root; asked = by.0.asked; ready = by.0.ready }, by.1)

  pub value_turn : (c n : ℕ) → SameTurn u (after p d u (CellLoad c words.Value) (Number n)) × ((after p d u (CellLoad c words.Value) (Number n)).chains ≡ u.chains)
  unfolding after view_after
  value_turn c n = let by = value_by (has_number u.full c) c n u in (record { threads = refl; hand = by.0.hand; share = by.0.share; drawn = by.0.drawn; child = by.0.child; answering = by.0.answering; given = by.0.given; root = by.0.root; asked = by.0.asked; ready = by.0.ready }, by.1)

  pub mail_turn : (at n : ℕ) → u.answering ≡ None → SameTurn u (after p d u (MailStore at n) Done) × ((after p d u (MailStore at n) Done).chains ≡ u.chains)
  unfolding after view_after
  mail_turn at n none = let by = mail_by (at == u.number) n u none in (record { threads = refl; hand = by.0.hand; share = by.0.share; drawn = by.0.drawn; child = by.0.child; answering = by.0.answering; given = by.0.given; root = by.0.root; asked = by.0.asked; ready = by.0.ready }, by.1)

  -- the Standing word of the chain becomes 1
  pub stood_turn : (k : Carried) → u.chains ≡ k ∷ [] → u.child ≡ None → SameTurn u (after p d u (CellStore k.known.note.cell words.Standing running) Done) × ((after p d u (CellStore k.known.note.cell words.Standing running) Done).chains ≡ record k { standing = Some running } ∷ [])
  unfolding after view_after
  stood_turn k only no_child = (
    record { threads = refl; hand = refl; share = refl; drawn = refl; child = ap (child_stands k.known.note.cell) no_child ∙ sym no_child; answering = refl; given = refl; root = refl; asked = refl; ready = refl },
    ap (λ (cs : List Carried). with_standing k.known.note.cell running cs) only ∙ ap (λ (b : Bool). cond b (record k { standing = Some running }) k ∷ []) (eq-eqb k.known.note.cell k.known.note.cell refl),
  )

  -- ---- what was seen

  has_in : (c : ℕ) (xs : List ℕ) → Contains xs c → has_number xs c ≡ true
  has_in c [] at = absurd (contains_none c at)
  has_in c (y ∷ ys) at = ⊎_elim (λ (e : y ≡ c). ap (λ (b : Bool). b || has_number ys c) (eq-eqb y c e)) (λ more. ap (λ (b : Bool). (y == c) || b) (has_in c ys more) ∙ or_true (y == c)) (contains_case c y ys at)
    where
      or_true : (b : Bool) → (b || true) ≡ true
      or_true true = refl
      or_true false = refl

  pub value_first : (c n : ℕ) → Contains u.full c → (after p d u (CellLoad c words.Value) (Number n)).values ≡ (c, n) ∷ u.values
  unfolding after view_after
  value_first c n full = ap (λ (b : Bool). (with_value c n b u).values) (has_in c u.full full)

  pub full_now : (c n : ℕ) → Contains (with_state_by (kind_seen c u) c n u).full c → Contains (after p d u (CellLoad c words.State) (Number n)).full c
  unfolding after view_after
  full_now c n at = at

  pub counts_now : (c n : ℕ) → (after p d u (CellLoad c words.State) (Number n)).counts ≡ (with_state_by (kind_seen c u) c n u).counts
  unfolding after view_after
  counts_now c n = refl
