-- Chains in slots walk after each careful step: walks_kept.
use Rattle.std.proofs.Common.{◌≡◌, ◌≢◌, ℕ, Bool, true, false, ◌&&◌, ◌==◌, Option, Some, None, refl, sym, ◌∙◌, ap, subst}
use mathlib.Core.Logic.{dite}
use native.Mathlib.Decide.{ℕ_discrete}
use Rattle.st_base.specs.declared.chain.Chain.{Chain}
use Rattle.st_base.specs.declared.chain.Waiting.{Waiting}
use Rattle.st_base.specs.declared.chain.Waiting.TheVariants as waits
use Rattle.st_words.specs.declared.view.CellWord.TheVariants.{Owner, State, Value, Next, Standing, Trap}
use Rattle.st_words.specs.declared.view.Slot.TheVariants.{Cell, Mail}
use Rattle.st_words.specs.declared.view.Carried.{Carried}
use Rattle.st_words.specs.declared.view.Cargo.{Cargo}
use Rattle.st_words.specs.declared.view.View.{View}
use Rattle.st_words.specs.Encodings.{ready}
use Rattle.st_words.specs.Steps.{Step, CellStore, CellChange, StopSet, RequestChange, SlotTake, SlotPut, Answer, Number}
use Rattle.st_words.specs.Careful.{Meaning, Careful, ShowsPlace}
use Rattle.st_words.specs.Views.{no_cargo, in_hand}
use Rattle.st_words.specs.Plain.{readied}
use Rattle.st_world.specs.Functions.{put}
use Rattle.st_world.specs.World.{World, slot_of, cargo_of, with_word, seen, waking, world_after}
use Rattle.st_world.proofs.Functions.{put_here, put_other, put_all}
use Rattle.st_walks.specs.Walking.{SlotWalks, Walking}
use Rattle.st_walks.specs.Laws.{MadeReady, Kept}

-- two functions are changed at one number
pub both_put : {A B : Type 0} (P : ℕ → A → B → Type 0) (f : ℕ → A) (g : ℕ → B) (i : ℕ) (a : A) (b : B) (j : ℕ) → P i a b → (j ≢ i → P j (f j) (g j)) → P j (put f i a j) (put g i b j)
both_put {A} {B} P f g i a b j here there = dite (ℕ_discrete j i)
    (λ (s : j ≡ i).
    let e : put f i a j ≡ a = ap (put f i a) s ∙ put_here f i a in
    let k : put g i b j ≡ b = ap (put g i b) s ∙ put_here g i b in
    let p : P j a b = subst (λ (n : ℕ). P n a b) (sym s) here in
    subst (λ (y : A). P j y (put g i b j)) (sym e) (subst (λ (z : B). P j a z) (sym k) p))
    (λ (n : j ≢ i).
    subst (λ (y : A). P j y (put g i b j)) (sym (put_other f i a j n)) (subst (λ (z : B). P j (f j) z) (sym (put_other g i b j n)) (there n)))

module _ (m : Meaning) (x : World) (walking : Walking m (slot_of x) (cargo_of x)) where
  abbrev HomeWalks : ℕ → Option Chain → Cargo → Type 0
  HomeWalks c chain cargo = SlotWalks m (Cell c) chain cargo

  abbrev MailWalks : ℕ → Option Chain → Cargo → Type 0
  MailWalks v chain cargo = SlotWalks m (Mail v) chain cargo

  pub over : (y : World) → y.home ≡ x.home → y.home_cargo ≡ x.home_cargo → y.post ≡ x.post → y.post_cargo ≡ x.post_cargo → Walking m (slot_of y) (cargo_of y)
  over y a b c d (Cell k) = subst (λ (f : ℕ → Option Chain). HomeWalks k (f k) (y.home_cargo k)) (sym a) (subst (λ (f : ℕ → Cargo). HomeWalks k (x.home k) (f k)) (sym b) (walking (Cell k)))
  over y a b c d (Mail k) = subst (λ (f : ℕ → Option Chain). MailWalks k (f k) (y.post_cargo k)) (sym c) (subst (λ (f : ℕ → Cargo). MailWalks k (x.post k) (f k)) (sym d) (walking (Mail k)))

  -- a slot is changed
  in_home : (y : World) (c : ℕ) (chain : Option Chain) (cargo : Cargo) → y.home ≡ put x.home c chain → y.home_cargo ≡ put x.home_cargo c cargo → y.post ≡ x.post → y.post_cargo ≡ x.post_cargo → HomeWalks c chain cargo → Walking m (slot_of y) (cargo_of y)
  in_home y c chain cargo a b d e here (Cell k) = subst (λ (f : ℕ → Option Chain). HomeWalks k (f k) (y.home_cargo k)) (sym a) (subst (λ (f : ℕ → Cargo). HomeWalks k (put x.home c chain k) (f k)) (sym b) (both_put HomeWalks x.home x.home_cargo c chain cargo k here (λ n. walking (Cell k))))
  in_home y c chain cargo a b d e here (Mail k) = subst (λ (f : ℕ → Option Chain). MailWalks k (f k) (y.post_cargo k)) (sym d) (subst (λ (f : ℕ → Cargo). MailWalks k (x.post k) (f k)) (sym e) (walking (Mail k)))

  in_mail : (y : World) (v : ℕ) (chain : Option Chain) (cargo : Cargo) → y.post ≡ put x.post v chain → y.post_cargo ≡ put x.post_cargo v cargo → y.home ≡ x.home → y.home_cargo ≡ x.home_cargo → MailWalks v chain cargo → Walking m (slot_of y) (cargo_of y)
  in_mail y v chain cargo a b d e here (Mail k) = subst (λ (f : ℕ → Option Chain). MailWalks k (f k) (y.post_cargo k)) (sym a) (subst (λ (f : ℕ → Cargo). MailWalks k (put x.post v chain k) (f k)) (sym b) (both_put MailWalks x.post x.post_cargo v chain cargo k here (λ n. walking (Mail k))))
  in_mail y v chain cargo a b d e here (Cell k) = subst (λ (f : ℕ → Option Chain). HomeWalks k (f k) (y.home_cargo k)) (sym d) (subst (λ (f : ℕ → Cargo). HomeWalks k (x.home k) (f k)) (sym e) (walking (Cell k)))

  -- a waiter becomes ready
  shows_ready : (k : Carried) (wait : Waiting) → ShowsPlace m k wait → ShowsPlace m (record k { standing = Some ready }) wait
  shows_ready k waits.Start s = s
  shows_ready k waits.Ready s = s
  shows_ready k (waits.Touch cell) s = s
  shows_ready k (waits.Join cell least) s = s
  shows_ready k waits.Trapped s = s

  ready_walks : (made : MadeReady m) (c : ℕ) (o : Option Chain) (cargo : Cargo) → HomeWalks c o cargo → HomeWalks c o (readied cargo)
  ready_walks made c None cargo h = tt
  ready_walks made c (Some chain) cargo h = (made cargo chain h.0, λ n. shows_ready cargo.carried cargo.carried.wait (h.1 n))

  one_ready : (made : MadeReady m) (c k : ℕ) → HomeWalks k (x.home k) (put x.home_cargo c (readied (x.home_cargo c)) k)
  one_ready made c k = put_all (λ j cargo. HomeWalks j (x.home j) cargo) x.home_cargo c (readied (x.home_cargo c)) k (λ e. subst (λ (j : ℕ). HomeWalks j (x.home j) (readied (x.home_cargo c))) (sym e) (ready_walks made c (x.home c) (x.home_cargo c) (walking (Cell c)))) (λ n. walking (Cell k))

  stands : (made : MadeReady m) (b : Bool) (w c n : ℕ) (v : View) → Walking m (slot_of (seen w v (waking b c (with_word c Standing n x)))) (cargo_of (seen w v (waking b c (with_word c Standing n x))))
  stands made false w c n v z = over (seen w v (with_word c Standing n x)) refl refl refl refl z
  stands made true w c n v (Cell k) = one_ready made c k
  stands made true w c n v (Mail k) = walking (Mail k)

  -- ---- steps

  walks_kept : (made : MadeReady m) (w : ℕ) (s : Step) (a : Answer) (v : View) → Careful m (x.view w) s → Walking m (slot_of (world_after x w s a v)) (cargo_of (world_after x w s a v))
  walks_kept made w (SlotTake (Cell c)) a v careful = in_home (world_after x w (SlotTake (Cell c)) a v) c None no_cargo refl refl refl refl tt
  walks_kept made w (SlotTake (Mail at)) a v careful = in_mail (world_after x w (SlotTake (Mail at)) a v) at None no_cargo refl refl refl refl tt
  walks_kept made w (SlotPut (Cell c) chain cargo) a v careful =
      let p = careful.puts in
      in_home (world_after x w (SlotPut (Cell c) chain cargo) a v) c (Some chain) cargo refl refl refl refl (p.walks, λ n. p.shows.3)
  walks_kept made w (SlotPut (Mail at) chain cargo) a v careful =
      let p = careful.puts in
      in_mail (world_after x w (SlotPut (Mail at) chain cargo) a v) at (Some chain) cargo refl refl refl refl p.walks
  walks_kept made w (CellStore c Owner n) a v careful = over (world_after x w (CellStore c Owner n) a v) refl refl refl refl
  walks_kept made w (CellStore c State n) a v careful = over (world_after x w (CellStore c State n) a v) refl refl refl refl
  walks_kept made w (CellStore c Value n) a v careful = over (world_after x w (CellStore c Value n) a v) refl refl refl refl
  walks_kept made w (CellStore c Next n) a v careful = over (world_after x w (CellStore c Next n) a v) refl refl refl refl
  walks_kept made w (CellStore c Trap n) a v careful = over (world_after x w (CellStore c Trap n) a v) refl refl refl refl
  walks_kept made w (CellStore c Standing n) a v careful = stands made ((n == ready) && in_hand c (x.view w).hand) w c n v
  walks_kept made w (CellChange c old new) (Number n) v careful = over (world_after x w (CellChange c old new) (Number n) v) refl refl refl refl
  walks_kept made w (StopSet code) (Number n) v careful = over (world_after x w (StopSet code) (Number n) v) refl refl refl refl
  walks_kept made w (RequestChange at old new) (Number n) v careful = over (world_after x w (RequestChange at old new) (Number n) v) refl refl refl refl
  walks_kept made w s a v careful = over (world_after x w s a v) refl refl refl refl

pub step_kept : (m : Meaning) → Kept m
step_kept m x w s a v made walking careful = walks_kept m x walking made w s a v careful
