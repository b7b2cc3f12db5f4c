-- Words go from one holder to another. Reach for view_calm and slot_calm (who isn't one of the two keeps what it has), view_same and slot_same (the
-- same words and frames), and assembled (all clauses together, after a step of one worker).
use Rattle.std.proofs.Common.{◌≡◌, ◌≢◌, ◌⊎◌, inl, inr, ⊎_elim, ℕ, zero, suc, ◌*◌, ◌^◌, ◌<◌, List, [], Option, Some, None, refl, sym, ap, ◌∙◌, subst, arith}
use Rattle.std.specs.List.{Contains}
use mathlib.Core.Logic.{dite}
use native.Mathlib.Decide.{ℕ_discrete}
use Rattle.st_base.specs.declared.chain.Chain.{Chain}
use Rattle.st_base.specs.declared.chain.Frame.{Frame}
use Rattle.st_words.specs.declared.view.Slot.{Slot}
use Rattle.st_words.specs.declared.view.Cargo.{Cargo}
use Rattle.st_words.specs.declared.view.View.{View}
use Rattle.st_words.specs.Steps.{Inside, return_place, home_of, kept}
use Rattle.st_world.specs.Holders.{Holder, InView, InSlot, Nobody}
use Rattle.st_holders.specs.Leasing.{Keeping, WordHolds, SlotHolds, ViewHolds, IsBare, IsSized, Leases}

pub some_none : {A : Type 0} (x : A) → Some x ≡ None → ⊥
some_none x e = let no : ⊥ = cc in no

pub one : {A : Type 0} {x y : A} → Some x ≡ Some y → x ≡ y
one e = cc

pub view_slot : (w : ℕ) (z : Slot) → InView w ≡ InSlot z → ⊥
view_slot w z e = let no : ⊥ = cc in no

pub view_nobody : (w : ℕ) → InView w ≡ Nobody → ⊥
view_nobody w e = let no : ⊥ = cc in no

pub slot_nobody : (z : Slot) → InSlot z ≡ Nobody → ⊥
slot_nobody z e = let no : ⊥ = cc in no

pub view_other : (u w : ℕ) → u ≢ w → InView u ≡ InView w → ⊥
view_other u w n e = let same : u ≡ w = cc in n same

pub slot_other : (y z : Slot) → (y ≡ z → ⊥) → InSlot y ≡ InSlot z → ⊥
slot_other y z n e = let same : y ≡ z = cc in n same

-- the return word is one of the frame's
pub ends : (f : Frame) (p : ℕ) → Inside f p → Inside f (return_place f)
ends f p i = let a = i.0 in let b = i.1 in (omega (arith, a, b), omega (arith, a, b))

pub kept_nothing : (p : ℕ) → kept [] p ≡ None
kept_nothing zero = refl
kept_nothing (suc p) = refl

pub kept_case : (o : Option ℕ) → ((n : ℕ) × (o ≡ Some n)) ⊎ (o ≡ None)
kept_case None = inr refl
kept_case (Some n) = inl (n, refl)

-- ---- the same words and frames

abbrev pub SameView : View → View → Type 0
SameView v v' = (v'.held ≡ v.held) × (v'.exported ≡ v.exported) × (v'.away ≡ v.away)

abbrev pub SameCargo : Cargo → Cargo → Type 0
SameCargo c d = (d.words ≡ c.words) × (d.frames ≡ c.frames)

module _ (size each : ℕ) (word : ℕ → ℕ) (k : Keeping) where
  pub view_same : (w : ℕ) (v v' : View) → SameView v v' → ViewHolds size each word k w v → ViewHolds size each word k w v'
  view_same w v v' s h = record {
    held = λ p n e. h.held p n (sym (ap (λ (x : List (Option ℕ)). kept x p) s.0) ∙ e);
    all = λ p l e. let x = h.all p l e in (x.0, ap (λ (x : List (Option ℕ)). kept x p) s.0 ∙ x.1);
    exported = λ f m. h.exported f (subst (λ (x : List Frame). Contains x f) s.1 m);
    exports = λ f p l e at. subst (λ (x : List Frame). Contains x f) (sym s.1) (h.exports f p l e at);
    away = λ f m. h.away f (subst (λ (x : List Frame). Contains x f) s.2 m);
    aways = λ f p l e at far. subst (λ (x : List Frame). Contains x f) (sym s.2) (h.aways f p l e at far);
  }

  pub slot_same : (z : Slot) (c d : Cargo) → SameCargo c d → SlotHolds size each word k z c → SlotHolds size each word k z d
  slot_same z c d s h = record {
    has = λ p n e. h.has p n (sym (ap (λ (x : List (Option ℕ)). kept x p) s.0) ∙ e);
    all = λ p l e. let x = h.all p l e in (x.0, ap (λ (x : List (Option ℕ)). kept x p) s.0 ∙ x.1);
    frames = λ f m. h.frames f (subst (λ (x : List Frame). Contains x f) s.1 m);
    leased = λ f p l e at. subst (λ (x : List Frame). Contains x f) (sym s.1) (h.leased f p l e at);
  }

-- ---- words go from Z to Y; frames change on the stack of w alone

pub record Shift (size each : ℕ) (word word' : ℕ → ℕ) (k k' : Keeping) (Z Y : Holder) (w : ℕ) : Type 0 where
  pub places : (p : ℕ) → p < size → ((k'.holder p ≡ k.holder p) × (word' p ≡ word p) × (k'.frame p ≡ k.frame p)) ⊎ ((k.holder p ≡ Z) × (k'.holder p ≡ Y))
  pub frames : (p : ℕ) → p < size → home_of each p ≢ w → k'.frame p ≡ k.frame p

module _ (size each : ℕ) (word word' : ℕ → ℕ) (k k' : Keeping) (Z Y : Holder) (w : ℕ) (s : Shift size each word word' k k' Z Y w) where
  stays : (X : Holder) → (X ≡ Z → ⊥) → (p : ℕ) → p < size → k.holder p ≡ X → (k'.holder p ≡ X) × (word' p ≡ word p) × (k'.frame p ≡ k.frame p)
  stays X d p l e = ⊎_elim (λ h. (h.0 ∙ e, h.1, h.2)) (λ h. absurd (d (sym e ∙ h.0))) (s.places p l)

  back : (X : Holder) → (X ≡ Y → ⊥) → (p : ℕ) → p < size → k'.holder p ≡ X → k.holder p ≡ X
  back X d p l e = ⊎_elim (λ h. sym h.0 ∙ e) (λ h. absurd (d (sym e ∙ h.1))) (s.places p l)

  pub view_calm : (u : ℕ) (v : View) → u ≢ w → (InView u ≡ Z → ⊥) → (InView u ≡ Y → ⊥) → ViewHolds size each word k u v → ViewHolds size each word' k' u v
  view_calm u v d z y ok = record {
    held = λ p n e. let h = ok.held p n e in let t = stays (InView u) z p h.0 h.1 in (h.0, t.0, t.1 ∙ h.2);
    all = λ p l e. ok.all p l (back (InView u) y p l e);
    exported = λ f m. let h = ok.exported f m in (h.0, s.frames (return_place f) h.0 (λ q. d (sym h.2 ∙ q)) ∙ h.1, h.2);
    exports = λ f p l e at. ok.exports f p l (sym (s.frames p l (λ q. d (sym at ∙ q))) ∙ e) at;
    away = λ f m. let h = ok.away f m in let t = stays (InView u) z (return_place f) h.0 h.2 in (h.0, t.2 ∙ h.1, t.0, h.3);
    aways = λ f p l e at far. let b = back (InView u) y p l at in ok.aways f p l (sym (stays (InView u) z p l b).2 ∙ e) b far;
  }

  pub slot_calm : (x : Slot) (c : Cargo) → (InSlot x ≡ Z → ⊥) → (InSlot x ≡ Y → ⊥) → SlotHolds size each word k x c → SlotHolds size each word' k' x c
  slot_calm x c z y ok = record {
    has = λ p n e. let h = ok.has p n e in let t = stays (InSlot x) z p h.0 h.1 in (h.0, t.0, t.1 ∙ h.2);
    all = λ p l e. ok.all p l (back (InSlot x) y p l e);
    frames = λ f m. let h = ok.frames f m in let t = stays (InSlot x) z (return_place f) h.0 h.2 in (h.0, t.2 ∙ h.1, t.0);
    leased = λ f p l e at. let b = back (InSlot x) y p l at in ok.leased f p l (sym (stays (InSlot x) z p l b).2 ∙ e) b;
  }

-- ---- all clauses, after a step of w

module _ (workers each : ℕ) (word : ℕ → ℕ) (chain : Slot → Option Chain) (cargo : Slot → Cargo) (view : ℕ → View) (G : Leases workers each word chain cargo view) where
  -- what has to be shown of the state after it
  pub record After (word' : ℕ → ℕ) (chain' : Slot → Option Chain) (cargo' : Slot → Cargo) (view' : ℕ → View) (w : ℕ) (Z Y : Holder) (k' : Keeping) : Type 0 where
    pub shift : Shift (workers * each) each word word' G.keeping k' Z Y w
    pub apart : (u : ℕ) → u ≢ w → (InView u ≡ Z → ⊥) × (InView u ≡ Y → ⊥)
    pub small : (p : ℕ) → word' p < 2 ^ 64
    pub words : (p : ℕ) → p < workers * each → WordHolds (workers * each) each word' k' p (k'.frame p)
    pub own : ViewHolds (workers * each) each word' k' w (view' w)
    pub others : (u : ℕ) → u ≢ w → view' u ≡ view u
    pub slots : (z : Slot) → ((InSlot z ≡ Z → ⊥) × (InSlot z ≡ Y → ⊥) × SameCargo (cargo z) (cargo' z)) ⊎ SlotHolds (workers * each) each word' k' z (cargo' z)
    pub bare : (z : Slot) → chain' z ≡ None → IsBare (cargo' z)
    pub sized : w < workers → IsSized (workers * each) each w (view' w)

  pub assembled : (word' : ℕ → ℕ) (chain' : Slot → Option Chain) (cargo' : Slot → Cargo) (view' : ℕ → View) (w : ℕ) (Z Y : Holder) (k' : Keeping) → After word' chain' cargo' view' w Z Y k' → Leases workers each word' chain' cargo' view'
  assembled word' chain' cargo' view' w Z Y k' a = record {
    keeping = k';
    small = a.small;
    words = a.words;
    views = λ u. dite (ℕ_discrete u w)
        (λ (e : u ≡ w). subst (λ (u : ℕ). ViewHolds (workers * each) each word' k' u (view' u)) (sym e) a.own)
        (λ (n : u ≢ w). subst (λ (v : View). ViewHolds (workers * each) each word' k' u v) (sym (a.others u n)) (view_calm (workers * each) each word word' G.keeping k' Z Y w a.shift u (view u) n (a.apart u n).0 (a.apart u n).1 (G.views u)));
    slots = λ z. ⊎_elim
        (λ h. slot_same (workers * each) each word' k' z (cargo z) (cargo' z) h.2 (slot_calm (workers * each) each word word' G.keeping k' Z Y w a.shift z (cargo z) h.0 h.1 (G.slots z)))
        (λ h. h) (a.slots z);
    bare = a.bare;
    sized = λ u l. dite (ℕ_discrete u w)
        (λ (e : u ≡ w). subst (λ (u : ℕ). IsSized (workers * each) each u (view' u)) (sym e) (a.sized (subst (λ (u : ℕ). u < workers) e l)))
        (λ (n : u ≢ w). subst (λ (v : View). IsSized (workers * each) each u v) (sym (a.others u n)) (G.sized u l));
  }
