-- Words change onward: what was seen of them is so still. Reach for seen_after, and for still where the words stay.
use Rattle.std.proofs.Common.{◌≡◌, ◌≢◌, ℕ, ◌≤◌, Bool, true, false, List, Some, refl, sym, ◌∙◌, subst, arith}
use Rattle.st_base.specs.declared.thread.Held.{Held}
use Rattle.st_words.specs.declared.view.Slot.{Slot}
use Rattle.st_words.specs.declared.view.Cargo.{Cargo}
use Rattle.st_words.specs.declared.view.View.{View}
use Rattle.st_words.specs.Encodings.{is_counter, full_word, count_in}
use Rattle.st_words.specs.Views.{kind_of}
use Rattle.st_world.specs.Functions.{put}
use Rattle.st_world.specs.World.{World, cargo_of, seen}
use Rattle.st_world.proofs.Functions.{put_all}
use Rattle.st_knows.specs.Knowing.{IsOfKind, KnowsKinds, KnowsWords, Knowing, Knows}
use Rattle.st_knows.proofs.ViewsAfter.{SameParts}
use Rattle.st_knows.proofs.Words.{know_same}

-- a named cell stays named so, a full future stays full with its value, a count never falls, and a stop code stays
pub record Onward (owner state value : ℕ → ℕ) (stop : ℕ) (owner' state' value' : ℕ → ℕ) (stop' : ℕ) : Type 0 where
  pub owners : (c : ℕ) → owner c ≢ 0 → owner' c ≡ owner c
  pub full : (c : ℕ) → IsOfKind false (owner c) → state c ≡ full_word → (state' c ≡ full_word) × (value' c ≡ value c)
  pub counts : (c : ℕ) → IsOfKind true (owner c) → count_in (state c) ≤ count_in (state' c)
  pub stops : stop ≢ 0 → stop' ≡ stop

at_most : (a b c : ℕ) → a ≤ b → b ≤ c → a ≤ c
at_most a b c l m = omega (arith, l, m)

module _ (owner state value : ℕ → ℕ) (stop : ℕ) (owner' state' value' : ℕ → ℕ) (stop' : ℕ) (onward : Onward owner state value stop owner' state' value' stop') where
  kind_still : (b : Bool) (c : ℕ) → IsOfKind b (owner c) → IsOfKind b (owner' c)
  kind_still b c k = subst (λ (n : ℕ). IsOfKind b n) (sym (onward.owners c k.named)) k

  kinds_still : (names : List (Held × ℕ)) → KnowsKinds owner names → KnowsKinds owner' names
  kinds_still names k name c m = let h = k name c m in subst (λ (n : ℕ). (n ≢ 0) × (kind_of name ≡ Some (is_counter n))) (sym (onward.owners c h.0)) h

  known_still : (v : View) → KnowsWords owner state value stop v → KnowsWords owner' state' value' stop' v
  known_still v K = record {
    owners = λ c n m. let h = K.owners c n m in (onward.owners c (λ z. h.1 (sym h.0 ∙ z)) ∙ h.0, h.1);
    full = λ c m. let h = K.full c m in (kind_still false c h.0, (onward.full c h.0 h.1).0);
    filled = λ c m. let h = K.filled c m in (kind_still false c h.0, (onward.full c h.0 h.1).0);
    values = λ c n m. let h = K.values c n m in let o = onward.full c h.0 h.1 in (kind_still false c h.0, o.0, o.1 ∙ h.2);
    counts = λ c k m. let h = K.counts c k m in (kind_still true c h.0, at_most k (count_in (state c)) (count_in (state' c)) h.1 (onward.counts c h.0));
    names = kinds_still v.names K.names;
    stops = λ code e. let h = K.stops code e in (onward.stops (λ z. h.1 (sym h.0 ∙ z)) ∙ h.0, h.1);
  }

  -- and one worker sees more
  pub seen_after : (cargo cargo' : Slot → Cargo) (view : ℕ → View) → Knowing owner state value stop cargo view → ((z : Slot) → KnowsKinds owner (cargo' z).names) → (w : ℕ) (v : View) → (KnowsWords owner' state' value' stop' (view w) → KnowsWords owner' state' value' stop' v) → Knowing owner' state' value' stop' cargo' (put view w v)
  seen_after cargo cargo' view K slots w v own = record {
    views = λ q. put_all (λ (k : ℕ) (y : View). KnowsWords owner' state' value' stop' y) view w v q (λ (e : q ≡ w). own (known_still (view w) (K.views w))) (λ (d : q ≢ w). known_still (view q) (K.views q));
    slots = λ z. kinds_still (cargo' z).names (slots z);
  }

pub stay : (owner state value : ℕ → ℕ) (stop : ℕ) → Onward owner state value stop owner state value stop
stay owner state value stop = record { owners = λ c k. refl; full = λ c k e. (e, refl); counts = λ c k. omega arith; stops = λ z. refl }

-- ---- over worlds

-- what the view knows of the words of the world
abbrev pub KnowsOf : World → View → Type 0
KnowsOf x v = KnowsWords x.owner x.state x.value x.stop v

pub still : (x : World) (w : ℕ) (v : View) → Knows x → (KnowsOf x (x.view w) → KnowsOf x v) → Knows (seen w v x)
still x w v K own = seen_after x.owner x.state x.value x.stop x.owner x.state x.value x.stop (stay x.owner x.state x.value x.stop) (cargo_of x) (cargo_of x) x.view K K.slots w v own

pub same_view : (x : World) (u v : View) → SameParts u v → KnowsOf x u → KnowsOf x v
same_view x u v p = know_same x.owner x.state x.value x.stop u v p
