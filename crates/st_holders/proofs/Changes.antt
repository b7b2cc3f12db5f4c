-- Each change of the leases keeps them: quiet (no word or frame moves), stored (a held word is stored), given_up (a leased frame is marked), taken_back
-- (a look finds 0), taken (what a chain in a slot held comes into a view), put_out (leased frames go into an empty slot), exported (a frame of the
-- worker's own stack is leased). What the change does to the worker's view is a record of what it has at each place: Stores, GivesUp, TakesBack,
-- TakesIn, PutsOut.
use Rattle.std.proofs.Common.{◌≡◌, ◌≢◌, ◌⊎◌, inl, inr, ⊎_elim, ℕ, ◌*◌, ◌^◌, ◌<◌, Bool, cond, List, Option, Some, None, refl, sym, ap, ◌∙◌, subst, arith, eq-eqb, ne_eqb}
use Rattle.std.specs.List.{Contains}
use mathlib.Core.Logic.{dite}
use native.Mathlib.Decide.{ℕ_discrete}
use Rattle.st_base.specs.declared.chain.Chain.{Chain}
use Rattle.st_base.specs.declared.chain.Frame.{Frame}
use Rattle.st_words.specs.declared.view.Slot.{Slot}
use Rattle.st_words.specs.declared.view.Slot.TheVariants.{Cell, Mail}
use Rattle.st_words.specs.declared.view.Cargo.{Cargo}
use Rattle.st_words.specs.declared.view.View.{View}
use Rattle.st_words.specs.Steps.{Inside, return_place, home_of, kept, IsLeased, Holds}
use Rattle.st_words.specs.Views.{is_inside}
use Rattle.st_words.proofs.Lists.{inside_case, inside_true, inside_false}
use Rattle.st_world.specs.Functions.{put}
use Rattle.st_world.specs.Holders.{Holder, InView, Nobody}
use Rattle.st_holders.specs.Leasing.{Keeping, LeasedWord, WordHolds, ViewHolds, IsBare, IsSized, Leases}
use Rattle.st_holders.proofs.Shifts.{some_none, one, view_slot, view_nobody, slot_nobody, view_other, ends, SameView, SameCargo, view_same, assembled}

pub put_here : {X : Type 0} (f : ℕ → X) (i : ℕ) (x : X) → put f i x i ≡ x
put_here {X} f i x = ap (λ (b : Bool). cond b x (f i)) (eq-eqb i i refl)

pub put_other : {X : Type 0} (f : ℕ → X) (i : ℕ) (x : X) (j : ℕ) → j ≢ i → put f i x j ≡ f j
put_other {X} f i x j n = ap (λ (b : Bool). cond b x (f j)) (ne_eqb j i n)

pub slot_case : (y z : Slot) → (y ≡ z) ⊎ (y ≡ z → ⊥)
slot_case (Cell c) (Cell d) = dite (ℕ_discrete c d) (λ (e : c ≡ d). inl (ap Cell e)) (λ (n : c ≢ d). inr (λ e. let same : c ≡ d = cc in n same))
slot_case (Mail c) (Mail d) = dite (ℕ_discrete c d) (λ (e : c ≡ d). inl (ap Mail e)) (λ (n : c ≢ d). inr (λ e. let same : c ≡ d = cc in n same))
slot_case (Cell c) (Mail d) = inr (λ e. let no : ⊥ = cc in no)
slot_case (Mail c) (Cell d) = inr (λ e. let no : ⊥ = cc in no)

-- a inside the frame, and b outside
abbrev pub within : {A : Type 0} → Frame → ℕ → A → A → A
within f p a b = cond (is_inside f p) a b

pub within_in : {A : Type 0} (f : Frame) (p : ℕ) (a b : A) → Inside f p → within f p a b ≡ a
within_in {A} f p a b i = ap (λ (t : Bool). cond t a b) (inside_true f p i)

pub within_out : {A : Type 0} (f : Frame) (p : ℕ) (a b : A) → (Inside f p → ⊥) → within f p a b ≡ b
within_out {A} f p a b n = ap (λ (t : Bool). cond t a b) (inside_false f p n)

-- y where the word is one of the cargo's, and z elsewhere
abbrev pub over : Option ℕ → Holder → Holder → Holder
over None y z = z
over (Some n) y z = y

pub over_some : (o : Option ℕ) (n : ℕ) (y z : Holder) → o ≡ Some n → over o y z ≡ y
over_some o n y z e = ap (λ (x : Option ℕ). over x y z) e

pub over_none : (o : Option ℕ) (y z : Holder) → o ≡ None → over o y z ≡ z
over_none o y z e = ap (λ (x : Option ℕ). over x y z) e

-- ---- what each change does to the view v of the worker

-- a word is stored
pub record Stores (p n : ℕ) (v v' : View) : Type 0 where
  pub here : kept v'.held p ≡ Some n
  pub others : (q : ℕ) → q ≢ p → kept v'.held q ≡ kept v.held q
  pub exported : v'.exported ≡ v.exported
  pub were : (g : Frame) → Contains v'.away g → Contains v.away g
  pub stay : (g : Frame) → Contains v.away g → Contains v'.away g

-- a leased frame goes out with its words
pub record GivesUp (f : Frame) (v v' : View) : Type 0 where
  pub inside : (p : ℕ) → Inside f p → kept v'.held p ≡ None
  pub outside : (p : ℕ) → (Inside f p → ⊥) → kept v'.held p ≡ kept v.held p
  pub exported : v'.exported ≡ v.exported
  pub gone : Contains v'.away f → ⊥
  pub were : (g : Frame) → Contains v'.away g → Contains v.away g
  pub stay : (g : Frame) → return_place g ≢ return_place f → Contains v.away g → Contains v'.away g

-- an exported frame comes back
pub record TakesBack (word : ℕ → ℕ) (f : Frame) (v v' : View) : Type 0 where
  pub inside : (p : ℕ) → Inside f p → kept v'.held p ≡ Some (word p)
  pub outside : (p : ℕ) → (Inside f p → ⊥) → kept v'.held p ≡ kept v.held p
  pub away : v'.away ≡ v.away
  pub gone : Contains v'.exported f → ⊥
  pub were : (g : Frame) → Contains v'.exported g → Contains v.exported g
  pub stay : (g : Frame) → return_place g ≢ return_place f → Contains v.exported g → Contains v'.exported g

-- words of a cargo come in, and those of its frames that are of other stacks
pub record TakesIn (home : ℕ → ℕ) (w : ℕ) (cargo : Cargo) (v v' : View) : Type 0 where
  pub exported : v'.exported ≡ v.exported
  pub inside : (p n : ℕ) → kept cargo.words p ≡ Some n → kept v'.held p ≡ Some n
  pub outside : (p : ℕ) → kept cargo.words p ≡ None → kept v'.held p ≡ kept v.held p
  pub away : (g : Frame) → Contains v'.away g → Contains v.away g ⊎ (Contains cargo.frames g × (home (return_place g) ≢ w))
  pub stay : (g : Frame) → Contains v.away g → Contains v'.away g
  pub come : (g : Frame) → Contains cargo.frames g → home (return_place g) ≢ w → Contains v'.away g

-- leased frames go out with their words
pub record PutsOut (cargo : Cargo) (v v' : View) : Type 0 where
  pub exported : v'.exported ≡ v.exported
  pub leased : (f : Frame) → Contains cargo.frames f → IsLeased v f
  pub whole : (f : Frame) (p : ℕ) → Contains cargo.frames f → Inside f p → (n : ℕ) × (kept cargo.words p ≡ Some n)
  pub words : (p n : ℕ) → kept cargo.words p ≡ Some n → (kept v.held p ≡ Some n) × ((f : Frame) × Contains cargo.frames f × Inside f p)
  pub inside : (p n : ℕ) → kept cargo.words p ≡ Some n → kept v'.held p ≡ None
  pub outside : (p : ℕ) → kept cargo.words p ≡ None → kept v'.held p ≡ kept v.held p
  pub away : (g : Frame) → Contains v'.away g → Contains v.away g × (Contains cargo.frames g → ⊥)
  pub stay : (g : Frame) → Contains v.away g → Contains v'.away g ⊎ Contains cargo.frames g

module _ (workers each : ℕ) (word : ℕ → ℕ) (chain : Slot → Option Chain) (cargo : Slot → Cargo) (view : ℕ → View) (G : Leases workers each word chain cargo view) where
  -- what a step of w leaves around its view and the words: in all slots the same words and frames
  pub record Around (w : ℕ) (chain' : Slot → Option Chain) (cargo' : Slot → Cargo) (view' : ℕ → View) : Type 0 where
    pub others : (u : ℕ) → u ≢ w → view' u ≡ view u
    pub sized : w < workers → IsSized (workers * each) each w (view' w)
    pub same : (z : Slot) → SameCargo (cargo z) (cargo' z)
    pub empty : (z : Slot) → chain' z ≡ None → chain z ≡ None

  -- in all slots but one
  pub record AroundSlot (w : ℕ) (z : Slot) (chain' : Slot → Option Chain) (cargo' : Slot → Cargo) (view' : ℕ → View) : Type 0 where
    pub others : (u : ℕ) → u ≢ w → view' u ≡ view u
    pub sized : w < workers → IsSized (workers * each) each w (view' w)
    pub same : (y : Slot) → (y ≡ z → ⊥) → SameCargo (cargo y) (cargo' y)
    pub empty : (y : Slot) → (y ≡ z → ⊥) → chain' y ≡ None → chain y ≡ None
    pub here : chain' z ≡ None → IsBare (cargo' z)

  bare_same : (c d : Cargo) → SameCargo c d → IsBare c → IsBare d
  bare_same c d s b = (s.0 ∙ b.0, s.1 ∙ b.1)

  pub around_bare : (w : ℕ) (chain' : Slot → Option Chain) (cargo' : Slot → Cargo) (view' : ℕ → View) → Around w chain' cargo' view' → (z : Slot) → chain' z ≡ None → IsBare (cargo' z)
  around_bare w chain' cargo' view' a z e = bare_same (cargo z) (cargo' z) (a.same z) (G.bare z (a.empty z e))

  pub around_slot : (w : ℕ) (z : Slot) (chain' : Slot → Option Chain) (cargo' : Slot → Cargo) (view' : ℕ → View) → AroundSlot w z chain' cargo' view' → (y : Slot) → chain' y ≡ None → IsBare (cargo' y)
  around_slot w z chain' cargo' view' a y e = ⊎_elim
      (λ (q : y ≡ z). subst (λ (y : Slot). chain' y ≡ None → IsBare (cargo' y)) (sym q) a.here e)
      (λ (n : y ≡ z → ⊥). bare_same (cargo y) (cargo' y) (a.same y n) (G.bare y (a.empty y n e)))
      (slot_case y z)

  -- ---- words and frames

  pub leased_word : (p : ℕ) (f : Frame) → p < workers * each → G.keeping.frame p ≡ Some f → LeasedWord (workers * each) each word G.keeping p f
  leased_word p f l e = subst (WordHolds (workers * each) each word G.keeping p) e (G.words p l)

  pub free_word : (p : ℕ) → p < workers * each → G.keeping.frame p ≡ None → G.keeping.holder p ≡ InView (home_of each p)
  free_word p l e = subst (WordHolds (workers * each) each word G.keeping p) e (G.words p l)

  pub is_leased : (w : ℕ) (f : Frame) → IsLeased (view w) f → (return_place f < workers * each) × (G.keeping.frame (return_place f) ≡ Some f)
  is_leased w f m = ⊎_elim (λ (m : Contains (view w).exported f). let h = (G.views w).exported f m in (h.0, h.1)) (λ (m : Contains (view w).away f). let h = (G.views w).away f m in (h.0, h.1)) m

  -- who holds a word of a leased frame knows the frame
  pub knows : (w p : ℕ) (f : Frame) → p < workers * each → G.keeping.frame p ≡ Some f → G.keeping.holder p ≡ InView w → IsLeased (view w) f
  knows w p f l e h = dite (ℕ_discrete (home_of each p) w)
      (λ (s : home_of each p ≡ w). inl ((G.views w).exports f p l e s))
      (λ (n : home_of each p ≢ w). inr ((G.views w).aways f p l e h n))

  -- ---- no word moves

  pub quiet : (w : ℕ) (chain' : Slot → Option Chain) (cargo' : Slot → Cargo) (view' : ℕ → View) → Around w chain' cargo' view' → SameView (view w) (view' w) → Leases workers each word chain' cargo' view'
  quiet w chain' cargo' view' a s = assembled workers each word chain cargo view G word chain' cargo' view' w (InView w) (InView w) G.keeping (record {
    shift = record { places = λ p l. inl (refl, refl, refl); frames = λ p l n. refl };
    apart = λ u n. (view_other u w n, view_other u w n);
    small = G.small;
    words = G.words;
    own = view_same (workers * each) each word G.keeping w (view w) (view' w) s (G.views w);
    others = a.others;
    slots = λ z. inl (λ e. view_slot w z (sym e), λ e. view_slot w z (sym e), a.same z);
    bare = around_bare w chain' cargo' view' a;
    sized = a.sized;
  })

  -- ---- a held word is stored; no 0 comes into the return word of a leased frame

  module _ (w p n : ℕ) (chain' : Slot → Option Chain) (cargo' : Slot → Cargo) (view' : ℕ → View) (a : Around w chain' cargo' view') (st : Stores p n (view w) (view' w)) (holds : Holds (view w) p) (few : n < 2 ^ 64) (live : n ≡ 0 → (f : Frame) → IsLeased (view w) f → return_place f ≢ p) where
    mine : (p < workers * each) × (G.keeping.holder p ≡ InView w)
    mine = let h = (G.views w).held p holds.0 holds.1 in (h.0, h.1)

    at_place : (q : ℕ) → q ≡ p → put word p n q ≡ n
    at_place q e = ap (put word p n) e ∙ put_here word p n

    stored_word : (q : ℕ) (o : Option Frame) → q < workers * each → G.keeping.frame q ≡ o → WordHolds (workers * each) each (put word p n) G.keeping q o
    stored_word q None l e = free_word q l e
    stored_word q (Some g) l e =
        let lw = leased_word q g l e in
        let return = lw.all (return_place g) (ends g q lw.inside) in
        record {
          inside = lw.inside;
          deep = lw.deep;
          all = lw.all;
          given = λ z. dite (ℕ_discrete (return_place g) p)
              (λ (s : return_place g ≡ p). absurd (live (sym (at_place (return_place g) s) ∙ z) g (knows w (return_place g) g lw.deep return.0 (ap G.keeping.holder s ∙ mine.1)) s))
              (λ (d : return_place g ≢ p). lw.given (sym (put_other word p n (return_place g) d) ∙ z));
          gave = λ z. dite (ℕ_discrete (return_place g) p)
              (λ (s : return_place g ≡ p). absurd (view_nobody w (sym mine.1 ∙ (ap G.keeping.holder (sym s) ∙ (return.1 ∙ z)))))
              (λ (d : return_place g ≢ p). put_other word p n (return_place g) d ∙ lw.gave z);
        }

    stored_view : ViewHolds (workers * each) each (put word p n) G.keeping w (view' w)
    stored_view = let ok = G.views w in record {
      held = λ q m e. dite (ℕ_discrete q p)
          (λ (s : q ≡ p). (subst (λ (q : ℕ). q < workers * each) (sym s) mine.0, ap G.keeping.holder s ∙ mine.1, at_place q s ∙ one (sym st.here ∙ (ap (kept (view' w).held) (sym s) ∙ e))))
          (λ (d : q ≢ p). let h = ok.held q m (sym (st.others q d) ∙ e) in (h.0, h.1, put_other word p n q d ∙ h.2));
      all = λ q l e. dite (ℕ_discrete q p)
          (λ (s : q ≡ p). (n, ap (kept (view' w).held) s ∙ st.here))
          (λ (d : q ≢ p). let h = ok.all q l e in (h.0, st.others q d ∙ h.1));
      exported = λ g m. ok.exported g (subst (λ (fs : List Frame). Contains fs g) st.exported m);
      exports = λ g q l e s. subst (λ (fs : List Frame). Contains fs g) (sym st.exported) (ok.exports g q l e s);
      away = λ g m. ok.away g (st.were g m);
      aways = λ g q l e s far. st.stay g (ok.aways g q l e s far);
    }

    pub stored : Leases workers each (put word p n) chain' cargo' view'
    stored = assembled workers each word chain cargo view G (put word p n) chain' cargo' view' w (InView w) (InView w) G.keeping (record {
      shift = record {
        places = λ q l. dite (ℕ_discrete q p)
            (λ (s : q ≡ p). let e = ap G.keeping.holder s ∙ mine.1 in inr (e, e))
            (λ (d : q ≢ p). inl (refl, put_other word p n q d, refl));
        frames = λ q l d. refl;
      };
      apart = λ u d. (view_other u w d, view_other u w d);
      small = λ q. dite (ℕ_discrete q p)
          (λ (s : q ≡ p). subst (λ (m : ℕ). m < 2 ^ 64) (sym (at_place q s)) few)
          (λ (d : q ≢ p). subst (λ (m : ℕ). m < 2 ^ 64) (sym (put_other word p n q d)) (G.small q));
      words = λ q l. stored_word q (G.keeping.frame q) l refl;
      own = stored_view;
      others = a.others;
      slots = λ z. inl (λ e. view_slot w z (sym e), λ e. view_slot w z (sym e), a.same z);
      bare = around_bare w chain' cargo' view' a;
      sized = a.sized;
    })

  -- ---- a leased frame is given up

  module _ (w : ℕ) (f : Frame) (chain' : Slot → Option Chain) (cargo' : Slot → Cargo) (view' : ℕ → View) (a : Around w chain' cargo' view') (gu : GivesUp f (view w) (view' w)) (m : IsLeased (view w) f) (holds : Holds (view w) (return_place f)) where
    abbrev marked : ℕ → ℕ
    marked = put word (return_place f) 0

    abbrev given : Keeping
    given = record { holder = λ p. within f p Nobody (G.keeping.holder p); frame = G.keeping.frame }

    f_word : LeasedWord (workers * each) each word G.keeping (return_place f) f
    f_word = let h = is_leased w f m in leased_word (return_place f) f h.0 h.1

    f_held : (p : ℕ) → Inside f p → (G.keeping.frame p ≡ Some f) × (G.keeping.holder p ≡ InView w)
    f_held p i = let h = f_word.all p i in (h.0, h.1 ∙ ((G.views w).held (return_place f) holds.0 holds.1).1)

    m_out : (p : ℕ) → (Inside f p → ⊥) → given.holder p ≡ G.keeping.holder p
    m_out p n = within_out f p Nobody (G.keeping.holder p) n

    m_in : (p : ℕ) → Inside f p → given.holder p ≡ Nobody
    m_in p i = within_in f p Nobody (G.keeping.holder p) i

    m_word : (p : ℕ) → (Inside f p → ⊥) → marked p ≡ word p
    m_word p n = put_other word (return_place f) 0 p (λ e. n (subst (Inside f) (sym e) f_word.inside))

    m_apart : (g : Frame) (p : ℕ) → G.keeping.frame p ≡ Some g → g ≢ f → Inside f p → ⊥
    m_apart g p e n i = n (one (sym e ∙ (f_held p i).0))

    given_word : (q : ℕ) (o : Option Frame) → q < workers * each → G.keeping.frame q ≡ o → WordHolds (workers * each) each marked given q o
    given_word q None l e = m_out q (λ i. some_none f (sym (f_held q i).0 ∙ e)) ∙ free_word q l e
    given_word q (Some g) l e = let lw = leased_word q g l e in ⊎_elim
        (λ (i : Inside f q). let same : g ≡ f = one (sym e ∙ (f_held q i).0) in record {
          inside = lw.inside;
          deep = lw.deep;
          all = λ r j. let h = lw.all r j in (h.0, m_in r (subst (λ (h : Frame). Inside h r) same j) ∙ sym (m_in q i), h.2);
          given = λ z. m_in q i;
          gave = λ z. ap (λ (h : Frame). marked (return_place h)) same ∙ put_here word (return_place f) 0;
        })
        (λ (n : Inside f q → ⊥). let differ : g ≢ f = λ same. n (subst (λ (h : Frame). Inside h q) same lw.inside) in
        let end_out : Inside f (return_place g) → ⊥ = m_apart g (return_place g) (lw.all (return_place g) (ends g q lw.inside)).0 differ in record {
          inside = lw.inside;
          deep = lw.deep;
          all = λ r j. let h = lw.all r j in (h.0, (m_out r (m_apart g r h.0 differ) ∙ h.1) ∙ sym (m_out q n), h.2);
          given = λ z. m_out q n ∙ lw.given (sym (m_word (return_place g) end_out) ∙ z);
          gave = λ z. m_word (return_place g) end_out ∙ lw.gave (sym (m_out q n) ∙ z);
        })
        (inside_case f q)

    m_mine : (p : ℕ) → given.holder p ≡ InView w → (Inside f p → ⊥) × (G.keeping.holder p ≡ InView w)
    m_mine p e = let n : Inside f p → ⊥ = λ i. view_nobody w (sym e ∙ m_in p i) in (n, sym (m_out p n) ∙ e)

    given_view : ViewHolds (workers * each) each marked given w (view' w)
    given_view = let ok = G.views w in record {
      held = λ p n e. ⊎_elim (λ (i : Inside f p). absurd (some_none n (sym e ∙ gu.inside p i)))
          (λ (o : Inside f p → ⊥). let h = ok.held p n (sym (gu.outside p o) ∙ e) in (h.0, m_out p o ∙ h.1, m_word p o ∙ h.2)) (inside_case f p);
      all = λ p l e. let t = m_mine p e in let h = ok.all p l t.1 in (h.0, gu.outside p t.0 ∙ h.1);
      exported = λ g k. ok.exported g (subst (λ (fs : List Frame). Contains fs g) gu.exported k);
      exports = λ g p l e s. subst (λ (fs : List Frame). Contains fs g) (sym gu.exported) (ok.exports g p l e s);
      away = λ g k. let h = ok.away g (gu.were g k) in (h.0, h.1, m_out (return_place g) (m_apart g (return_place g) h.1 (λ e. gu.gone (subst (λ (z : Frame). Contains (view' w).away z) e k))) ∙ h.2, h.3);
      aways = λ g p l e s far. let t = m_mine p s in let lw = leased_word p g l e in gu.stay g
          (λ same. let b = lw.all (return_place g) (ends g p lw.inside) in t.0 (subst (λ (z : Frame). Inside z p) (one (sym b.0 ∙ (ap G.keeping.frame same ∙ (is_leased w f m).1))) lw.inside)) (ok.aways g p l e t.1 far);
    }

    pub given_up : Leases workers each marked chain' cargo' view'
    given_up = assembled workers each word chain cargo view G marked chain' cargo' view' w (InView w) Nobody given (record {
      shift = record {
        places = λ p l. ⊎_elim (λ (i : Inside f p). inr ((f_held p i).1, m_in p i)) (λ (n : Inside f p → ⊥). inl (m_out p n, m_word p n, refl)) (inside_case f p);
        frames = λ p l n. refl;
      };
      apart = λ u d. (view_other u w d, view_nobody u);
      small = λ q. dite (ℕ_discrete q (return_place f))
          (λ (s : q ≡ return_place f). let z : marked q ≡ 0 = ap marked s ∙ put_here word (return_place f) 0 in omega (arith, z))
          (λ (d : q ≢ return_place f). subst (λ (n : ℕ). n < 2 ^ 64) (sym (put_other word (return_place f) 0 q d)) (G.small q));
      words = λ q l. given_word q (G.keeping.frame q) l refl;
      own = given_view;
      others = a.others;
      slots = λ z. inl (λ e. view_slot w z (sym e), slot_nobody z, a.same z);
      bare = around_bare w chain' cargo' view' a;
      sized = a.sized;
    })

  -- ---- an exported frame that was given up is taken back

  module _ (w : ℕ) (f : Frame) (chain' : Slot → Option Chain) (cargo' : Slot → Cargo) (view' : ℕ → View) (a : Around w chain' cargo' view') (tb : TakesBack word f (view w) (view' w)) (m : Contains (view w).exported f) (zero_there : word (return_place f) ≡ 0) where
    abbrev back : Keeping
    back = record { holder = λ p. within f p (InView w) (G.keeping.holder p); frame = λ p. within f p None (G.keeping.frame p) }

    b_word : LeasedWord (workers * each) each word G.keeping (return_place f) f
    b_word = let h = (G.views w).exported f m in leased_word (return_place f) f h.0 h.1

    b_held : (p : ℕ) → Inside f p → (G.keeping.frame p ≡ Some f) × (G.keeping.holder p ≡ Nobody) × (home_of each p ≡ w)
    b_held p i = let h = b_word.all p i in (h.0, h.1 ∙ b_word.given zero_there, h.2 ∙ ((G.views w).exported f m).2)

    b_out : (p : ℕ) → (Inside f p → ⊥) → (back.holder p ≡ G.keeping.holder p) × (back.frame p ≡ G.keeping.frame p)
    b_out p n = (within_out f p (InView w) (G.keeping.holder p) n, within_out f p None (G.keeping.frame p) n)

    b_in : (p : ℕ) → Inside f p → (back.holder p ≡ InView w) × (back.frame p ≡ None)
    b_in p i = (within_in f p (InView w) (G.keeping.holder p) i, within_in f p None (G.keeping.frame p) i)

    b_apart : (g : Frame) (p : ℕ) → G.keeping.frame p ≡ Some g → g ≢ f → Inside f p → ⊥
    b_apart g p e n i = n (one (sym e ∙ (b_held p i).0))

    back_out : (q : ℕ) (o : Option Frame) → q < workers * each → G.keeping.frame q ≡ o → (Inside f q → ⊥) → WordHolds (workers * each) each word back q o
    back_out q None l e n = (b_out q n).0 ∙ free_word q l e
    back_out q (Some g) l e n = let lw = leased_word q g l e in let differ : g ≢ f = λ same. n (subst (λ (h : Frame). Inside h q) same lw.inside) in record {
      inside = lw.inside;
      deep = lw.deep;
      all = λ r j. let h = lw.all r j in let o = b_out r (b_apart g r h.0 differ) in (o.1 ∙ h.0, (o.0 ∙ h.1) ∙ sym (b_out q n).0, h.2);
      given = λ z. (b_out q n).0 ∙ lw.given z;
      gave = λ z. lw.gave (sym (b_out q n).0 ∙ z);
    }

    back_word : (q : ℕ) → q < workers * each → WordHolds (workers * each) each word back q (back.frame q)
    back_word q l = ⊎_elim
        (λ (i : Inside f q). subst (WordHolds (workers * each) each word back q) (sym (b_in q i).1) ((b_in q i).0 ∙ ap InView (sym (b_held q i).2)))
        (λ (n : Inside f q → ⊥). subst (WordHolds (workers * each) each word back q) (sym (b_out q n).1) (back_out q (G.keeping.frame q) l refl n)) (inside_case f q)

    b_still : (g : Frame) (p : ℕ) → back.frame p ≡ Some g → (Inside f p → ⊥) × (G.keeping.frame p ≡ Some g)
    b_still g p e = let n : Inside f p → ⊥ = λ i. some_none g (sym e ∙ (b_in p i).1) in (n, sym (b_out p n).1 ∙ e)

    -- another leased frame has another return word
    b_return : (g : Frame) (p : ℕ) → p < workers * each → G.keeping.frame p ≡ Some g → (Inside f p → ⊥) → return_place g ≢ return_place f
    b_return g p l e n same = let lw = leased_word p g l e in n (subst (λ (h : Frame). Inside h p) (one (sym (lw.all (return_place g) (ends g p lw.inside)).0 ∙ (ap G.keeping.frame same ∙ (b_held (return_place f) b_word.inside).0))) lw.inside)

    back_view : ViewHolds (workers * each) each word back w (view' w)
    back_view = let ok = G.views w in record {
      held = λ p n e. ⊎_elim
          (λ (i : Inside f p). let d = b_word.deep in let below = i.1 in (omega (arith, d, below), (b_in p i).0, one (sym (tb.inside p i) ∙ e)))
          (λ (o : Inside f p → ⊥). let h = ok.held p n (sym (tb.outside p o) ∙ e) in (h.0, (b_out p o).0 ∙ h.1, h.2)) (inside_case f p);
      all = λ p l e. ⊎_elim
          (λ (i : Inside f p). (word p, tb.inside p i))
          (λ (o : Inside f p → ⊥). let h = ok.all p l (sym (b_out p o).0 ∙ e) in (h.0, tb.outside p o ∙ h.1)) (inside_case f p);
      exported = λ g k. let h = ok.exported g (tb.were g k) in let differ : g ≢ f = λ e. tb.gone (subst (λ (z : Frame). Contains (view' w).exported z) e k) in (h.0, (b_out (return_place g) (b_apart g (return_place g) h.1 differ)).1 ∙ h.1, h.2);
      exports = λ g p l e s. let t = b_still g p e in tb.stay g (b_return g p l t.1 t.0) (ok.exports g p l t.1 s);
      away = λ g k. let h = ok.away g (subst (λ (fs : List Frame). Contains fs g) tb.away k) in let n : Inside f (return_place g) → ⊥ = λ i. h.3 (b_held (return_place g) i).2 in let o = b_out (return_place g) n in (h.0, o.1 ∙ h.1, o.0 ∙ h.2, h.3);
      aways = λ g p l e s far. let t = b_still g p e in subst (λ (fs : List Frame). Contains fs g) (sym tb.away) (ok.aways g p l t.1 (sym (b_out p t.0).0 ∙ s) far);
    }

    pub taken_back : Leases workers each word chain' cargo' view'
    taken_back = assembled workers each word chain cargo view G word chain' cargo' view' w Nobody (InView w) back (record {
      shift = record {
        places = λ p l. ⊎_elim (λ (i : Inside f p). inr ((b_held p i).1, (b_in p i).0)) (λ (n : Inside f p → ⊥). inl ((b_out p n).0, refl, (b_out p n).1)) (inside_case f p);
        frames = λ p l far. (b_out p (λ i. far (b_held p i).2)).1;
      };
      apart = λ u d. (view_nobody u, view_other u w d);
      small = G.small;
      words = back_word;
      own = back_view;
      others = a.others;
      slots = λ z. inl (slot_nobody z, λ e. view_slot w z (sym e), a.same z);
      bare = around_bare w chain' cargo' view' a;
      sized = a.sized;
    })
