-- Chains carry words and frames between views and slots, which keeps the leases: taken and put_out. What comes with a chain that is taken: comes_own,
-- comes_whole, comes_within, comes_inside, comes_fresh, comes_home, comes_some and comes_apart.
use Rattle.std.proofs.Common.{◌≡◌, ◌≢◌, inl, inr, ⊎_elim, ℕ, ◌*◌, ◌^◌, ◌<◌, List, Option, Some, None, refl, sym, ap, ◌∙◌, subst, arith}
use Rattle.std.specs.List.{Contains}
use Rattle.st_base.specs.declared.chain.Chain.{Chain}
use Rattle.st_base.specs.declared.chain.Frame.{Frame}
use Rattle.st_words.specs.declared.view.Slot.{Slot}
use Rattle.st_words.specs.declared.view.Cargo.{Cargo}
use Rattle.st_words.specs.declared.view.View.{View}
use Rattle.st_words.specs.Steps.{Inside, return_place, place_of, home_of, kept}
use Rattle.st_words.proofs.Lists.{contains_none}
use Rattle.st_world.specs.Holders.{InView, InSlot}
use Rattle.st_holders.specs.Leasing.{Keeping, LeasedWord, WordHolds, SlotHolds, ViewHolds, IsBare, Leases}
use Rattle.st_holders.proofs.Shifts.{some_none, one, view_slot, view_nobody, slot_nobody, view_other, slot_other, ends, kept_nothing, kept_case, assembled}
use Rattle.st_holders.proofs.Changes.{slot_case, over, over_some, over_none, TakesIn, PutsOut, AroundSlot, around_slot, leased_word, free_word, is_leased}

module _ (workers each : ℕ) (word : ℕ → ℕ) (chain : Slot → Option Chain) (cargo : Slot → Cargo) (view : ℕ → View) (G : Leases workers each word chain cargo view) where
  lw_at : (p : ℕ) (f : Frame) → p < workers * each → G.keeping.frame p ≡ Some f → LeasedWord (workers * each) each word G.keeping p f
  lw_at = leased_word workers each word chain cargo view G

  -- ---- what comes with the chain in the slot z

  module _ (z : Slot) where
    pub frame_word : (f : Frame) (p : ℕ) → Contains (cargo z).frames f → Inside f p → (p < workers * each) × LeasedWord (workers * each) each word G.keeping (return_place f) f
    frame_word f p m i = let t = (G.slots z).frames f m in let a = t.0 in let b = i.1 in (omega (arith, a, b), lw_at (return_place f) f t.0 t.1)

    pub comes_own : (w : ℕ) (f : Frame) → Contains (cargo z).frames f → home_of each (return_place f) ≡ w → Contains (view w).exported f
    comes_own w f m h = let t = (G.slots z).frames f m in (G.views w).exports f (return_place f) t.0 t.1 h

    pub comes_within : (p n : ℕ) → kept (cargo z).words p ≡ Some n → p < workers * each
    comes_within p n e = ((G.slots z).has p n e).0

    pub comes_whole : (f : Frame) (p : ℕ) → Contains (cargo z).frames f → Inside f p → (n : ℕ) × (kept (cargo z).words p ≡ Some n)
    comes_whole f p m i = let t = (G.slots z).frames f m in let x = frame_word f p m i in (G.slots z).all p x.0 ((x.1.all p i).1 ∙ t.2)

    frame_there : (p n : ℕ) (o : Option Frame) → kept (cargo z).words p ≡ Some n → G.keeping.frame p ≡ o → (f : Frame) × Contains (cargo z).frames f × Inside f p
    frame_there p n None e o = let h = (G.slots z).has p n e in absurd (view_slot (home_of each p) z (sym (free_word workers each word chain cargo view G p h.0 o) ∙ h.1))
    frame_there p n (Some f) e o = let h = (G.slots z).has p n e in (f, (G.slots z).leased f p h.0 o h.1, (lw_at p f h.0 o).inside)

    pub comes_inside : (p n : ℕ) → kept (cargo z).words p ≡ Some n → (n < 2 ^ 64) × ((f : Frame) × Contains (cargo z).frames f × Inside f p)
    comes_inside p n e = (subst (λ (m : ℕ). m < 2 ^ 64) ((G.slots z).has p n e).2 (G.small p), frame_there p n (G.keeping.frame p) e refl)

    fresh_by : (w p n : ℕ) (o : Option ℕ) → kept (cargo z).words p ≡ Some n → kept (view w).held p ≡ o → kept (view w).held p ≡ None
    fresh_by w p n None e q = q
    fresh_by w p n (Some m) e q = absurd (view_slot w z (sym ((G.views w).held p m q).1 ∙ ((G.slots z).has p n e).1))

    pub comes_fresh : (w p n : ℕ) → kept (cargo z).words p ≡ Some n → kept (view w).held p ≡ None
    comes_fresh w p n e = fresh_by w p n (kept (view w).held p) e refl

    pub comes_home : (f : Frame) (p : ℕ) → Contains (cargo z).frames f → Inside f p → home_of each p ≡ home_of each (return_place f)
    comes_home f p m i = ((frame_word f p m i).1.all p i).2

    pub comes_some : (f : Frame) → Contains (cargo z).frames f → place_of f.low < place_of f.base
    comes_some f m = let t = (G.slots z).frames f m in let i = (lw_at (return_place f) f t.0 t.1).inside in let a = i.0 in let b = i.1 in omega (arith, a, b)

    pub comes_apart : (f g : Frame) (p : ℕ) → Contains (cargo z).frames f → Contains (cargo z).frames g → Inside f p → Inside g p → f ≡ g
    comes_apart f g p m k i j = let x = frame_word f p m i in let y = frame_word g p k j in one (sym (x.1.all p i).0 ∙ (y.1.all p j).0)

  -- ---- it comes into the view of w

  module _ (w : ℕ) (z : Slot) (chain' : Slot → Option Chain) (cargo' : Slot → Cargo) (view' : ℕ → View) (a : AroundSlot workers each word chain cargo view G w z chain' cargo' view') (ti : TakesIn (home_of each) w (cargo z) (view w) (view' w)) (bare : IsBare (cargo' z)) where
    abbrev took : Keeping
    took = record { holder = λ p. over (kept (cargo z).words p) (InView w) (G.keeping.holder p); frame = G.keeping.frame }

    t_some : (p n : ℕ) → kept (cargo z).words p ≡ Some n → took.holder p ≡ InView w
    t_some p n e = over_some (kept (cargo z).words p) n (InView w) (G.keeping.holder p) e

    t_none : (p : ℕ) → kept (cargo z).words p ≡ None → took.holder p ≡ G.keeping.holder p
    t_none p e = over_none (kept (cargo z).words p) (InView w) (G.keeping.holder p) e

    taken_word : (q : ℕ) (o : Option Frame) → q < workers * each → G.keeping.frame q ≡ o → WordHolds (workers * each) each word took q o
    taken_word q None l e = ⊎_elim
        (λ (h : (n : ℕ) × (kept (cargo z).words q ≡ Some n)). absurd (view_slot (home_of each q) z (sym (free_word workers each word chain cargo view G q l e) ∙ ((G.slots z).has q h.0 h.1).1)))
        (λ (h : kept (cargo z).words q ≡ None). t_none q h ∙ free_word workers each word chain cargo view G q l e) (kept_case (kept (cargo z).words q))
    taken_word q (Some g) l e = let lw = lw_at q g l e in let d = lw.deep in ⊎_elim
        (λ (h : (n : ℕ) × (kept (cargo z).words q ≡ Some n)). let here : G.keeping.holder q ≡ InSlot z = ((G.slots z).has q h.0 h.1).1 in record {
          inside = lw.inside;
          deep = lw.deep;
          all = λ r j. let x = lw.all r j in let below = j.1 in let b = (G.slots z).all r (omega (arith, d, below)) (x.1 ∙ here) in (x.0, t_some r b.0 b.1 ∙ sym (t_some q h.0 h.1), x.2);
          given = λ y. absurd (slot_nobody z (sym here ∙ lw.given y));
          gave = λ y. absurd (view_nobody w (sym (t_some q h.0 h.1) ∙ y));
        })
        (λ (h : kept (cargo z).words q ≡ None). record {
          inside = lw.inside;
          deep = lw.deep;
          all = λ r j. let x = lw.all r j in (
            x.0,
            ⊎_elim
                (λ (b : (n : ℕ) × (kept (cargo z).words r ≡ Some n)). let there = (G.slots z).all q l (sym x.1 ∙ ((G.slots z).has r b.0 b.1).1) in absurd (some_none there.0 (sym there.1 ∙ h)))
                (λ (b : kept (cargo z).words r ≡ None). (t_none r b ∙ x.1) ∙ sym (t_none q h)) (kept_case (kept (cargo z).words r)),
            x.2,
          );
          given = λ y. t_none q h ∙ lw.given y;
          gave = λ y. lw.gave (sym (t_none q h) ∙ y);
        })
        (kept_case (kept (cargo z).words q))

    t_mine : (p : ℕ) → G.keeping.holder p ≡ InView w → took.holder p ≡ InView w
    t_mine p e = ⊎_elim (λ (h : (n : ℕ) × (kept (cargo z).words p ≡ Some n)). t_some p h.0 h.1) (λ (h : kept (cargo z).words p ≡ None). t_none p h ∙ e) (kept_case (kept (cargo z).words p))

    taken_view : ViewHolds (workers * each) each word took w (view' w)
    taken_view = let ok = G.views w in let s = G.slots z in record {
      held = λ p n e. ⊎_elim
          (λ (h : (m : ℕ) × (kept (cargo z).words p ≡ Some m)). let x = s.has p h.0 h.1 in (x.0, t_some p h.0 h.1, x.2 ∙ one (sym (ti.inside p h.0 h.1) ∙ e)))
          (λ (h : kept (cargo z).words p ≡ None). let x = ok.held p n (sym (ti.outside p h) ∙ e) in (x.0, t_none p h ∙ x.1, x.2)) (kept_case (kept (cargo z).words p));
      all = λ p l e. ⊎_elim
          (λ (h : (m : ℕ) × (kept (cargo z).words p ≡ Some m)). (h.0, ti.inside p h.0 h.1))
          (λ (h : kept (cargo z).words p ≡ None). let x = ok.all p l (sym (t_none p h) ∙ e) in (x.0, ti.outside p h ∙ x.1)) (kept_case (kept (cargo z).words p));
      exported = λ g m. ok.exported g (subst (λ (fs : List Frame). Contains fs g) ti.exported m);
      exports = λ g p l e y. subst (λ (fs : List Frame). Contains fs g) (sym ti.exported) (ok.exports g p l e y);
      away = λ g m. ⊎_elim
          (λ (b : Contains (view w).away g). let h = ok.away g b in (h.0, h.1, t_mine (return_place g) h.2, h.3))
          (λ (b : Contains (cargo z).frames g × (home_of each (return_place g) ≢ w)). let h = s.frames g b.0 in let x = s.all (return_place g) h.0 h.2 in (h.0, h.1, t_some (return_place g) x.0 x.1, b.1))
          (ti.away g m);
      aways = λ g p l e y far. ⊎_elim
          (λ (h : (m : ℕ) × (kept (cargo z).words p ≡ Some m)). let lw = lw_at p g l e in ti.come g (s.leased g p l e (s.has p h.0 h.1).1) (λ x. far (sym (lw.all (return_place g) (ends g p lw.inside)).2 ∙ x)))
          (λ (h : kept (cargo z).words p ≡ None). ti.stay g (ok.aways g p l e (sym (t_none p h) ∙ y) far)) (kept_case (kept (cargo z).words p));
    }

    not_there : (p : ℕ) → p < workers * each → took.holder p ≡ InSlot z → ⊥
    not_there p l e = ⊎_elim
        (λ (h : (m : ℕ) × (kept (cargo z).words p ≡ Some m)). view_slot w z (sym (t_some p h.0 h.1) ∙ e))
        (λ (h : kept (cargo z).words p ≡ None). let x = (G.slots z).all p l (sym (t_none p h) ∙ e) in some_none x.0 (sym x.1 ∙ h)) (kept_case (kept (cargo z).words p))

    -- the slot has nothing after
    taken_slot : SlotHolds (workers * each) each word took z (cargo' z)
    taken_slot = record {
      has = λ p n e. absurd (some_none n (sym e ∙ (ap (λ (x : List (Option ℕ)). kept x p) bare.0 ∙ kept_nothing p)));
      all = λ p l e. absurd (not_there p l e);
      frames = λ f m. absurd (contains_none f (subst (λ (fs : List Frame). Contains fs f) bare.1 m));
      leased = λ f p l e h. absurd (not_there p l h);
    }

    pub taken : Leases workers each word chain' cargo' view'
    taken = assembled workers each word chain cargo view G word chain' cargo' view' w (InSlot z) (InView w) took (record {
      shift = record {
        places = λ p l. ⊎_elim (λ (h : (n : ℕ) × (kept (cargo z).words p ≡ Some n)). inr (((G.slots z).has p h.0 h.1).1, t_some p h.0 h.1)) (λ (h : kept (cargo z).words p ≡ None). inl (t_none p h, refl, refl)) (kept_case (kept (cargo z).words p));
        frames = λ p l n. refl;
      };
      apart = λ u d. (view_slot u z, view_other u w d);
      small = G.small;
      words = λ q l. taken_word q (G.keeping.frame q) l refl;
      own = taken_view;
      others = a.others;
      slots = λ y. ⊎_elim
          (λ (q : y ≡ z). inr (subst (λ (y : Slot). SlotHolds (workers * each) each word took y (cargo' y)) (sym q) taken_slot))
          (λ (n : y ≡ z → ⊥). inl (slot_other y z n, λ e. view_slot w y (sym e), a.same y n)) (slot_case y z);
      bare = around_slot workers each word chain cargo view G w z chain' cargo' view' a;
      sized = a.sized;
    })

  -- ---- leased frames of w go into the slot z, which is empty

  module _ (w : ℕ) (z : Slot) (chain' : Slot → Option Chain) (cargo' : Slot → Cargo) (view' : ℕ → View) (a : AroundSlot workers each word chain cargo view G w z chain' cargo' view') (po : PutsOut (cargo' z) (view w) (view' w)) (bare : IsBare (cargo z)) where
    abbrev let_go : Keeping
    let_go = record { holder = λ p. over (kept (cargo' z).words p) (InSlot z) (G.keeping.holder p); frame = G.keeping.frame }

    p_some : (p n : ℕ) → kept (cargo' z).words p ≡ Some n → let_go.holder p ≡ InSlot z
    p_some p n e = over_some (kept (cargo' z).words p) n (InSlot z) (G.keeping.holder p) e

    p_none : (p : ℕ) → kept (cargo' z).words p ≡ None → let_go.holder p ≡ G.keeping.holder p
    p_none p e = over_none (kept (cargo' z).words p) (InSlot z) (G.keeping.holder p) e

    p_mine : (p n : ℕ) → kept (cargo' z).words p ≡ Some n → (p < workers * each) × (G.keeping.holder p ≡ InView w) × (word p ≡ n)
    p_mine p n e = (G.views w).held p n (po.words p n e).0

    -- a word that goes is in one of the frames
    p_frame : (p n : ℕ) → kept (cargo' z).words p ≡ Some n → (f : Frame) × Contains (cargo' z).frames f × (G.keeping.frame p ≡ Some f)
    p_frame p n e = let x = (po.words p n e).1 in let h = is_leased workers each word chain cargo view G w x.0 (po.leased x.0 x.1) in (x.0, x.1, ((lw_at (return_place x.0) x.0 h.0 h.1).all p x.2).0)

    p_whole : (p n : ℕ) (g : Frame) → kept (cargo' z).words p ≡ Some n → G.keeping.frame p ≡ Some g → Contains (cargo' z).frames g
    p_whole p n g e at = let x = p_frame p n e in subst (λ (h : Frame). Contains (cargo' z).frames h) (one (sym x.2 ∙ at)) x.1

    empty_before : (p : ℕ) → p < workers * each → G.keeping.holder p ≡ InSlot z → ⊥
    empty_before p l e = let x = (G.slots z).all p l e in some_none x.0 (sym x.1 ∙ (ap (λ (y : List (Option ℕ)). kept y p) bare.0 ∙ kept_nothing p))

    put_word : (q : ℕ) (o : Option Frame) → q < workers * each → G.keeping.frame q ≡ o → WordHolds (workers * each) each word let_go q o
    put_word q None l e = ⊎_elim
        (λ (h : (n : ℕ) × (kept (cargo' z).words q ≡ Some n)). let x = p_frame q h.0 h.1 in absurd (some_none x.0 (sym x.2 ∙ e)))
        (λ (h : kept (cargo' z).words q ≡ None). p_none q h ∙ free_word workers each word chain cargo view G q l e) (kept_case (kept (cargo' z).words q))
    put_word q (Some g) l e = let lw = lw_at q g l e in ⊎_elim
        (λ (h : (n : ℕ) × (kept (cargo' z).words q ≡ Some n)). let here = (p_mine q h.0 h.1).1 in let goes = p_whole q h.0 g h.1 e in record {
          inside = lw.inside;
          deep = lw.deep;
          all = λ r j. let x = lw.all r j in let b = po.whole g r goes j in (x.0, p_some r b.0 b.1 ∙ sym (p_some q h.0 h.1), x.2);
          given = λ y. absurd (view_nobody w (sym here ∙ lw.given y));
          gave = λ y. absurd (slot_nobody z (sym (p_some q h.0 h.1) ∙ y));
        })
        (λ (h : kept (cargo' z).words q ≡ None). record {
          inside = lw.inside;
          deep = lw.deep;
          all = λ r j. let x = lw.all r j in (
            x.0,
            ⊎_elim
                (λ (b : (n : ℕ) × (kept (cargo' z).words r ≡ Some n)). let there = po.whole g q (p_whole r b.0 g b.1 x.0) lw.inside in absurd (some_none there.0 (sym there.1 ∙ h)))
                (λ (b : kept (cargo' z).words r ≡ None). (p_none r b ∙ x.1) ∙ sym (p_none q h)) (kept_case (kept (cargo' z).words r)),
            x.2,
          );
          given = λ y. p_none q h ∙ lw.given y;
          gave = λ y. lw.gave (sym (p_none q h) ∙ y);
        })
        (kept_case (kept (cargo' z).words q))

    p_still : (p : ℕ) → let_go.holder p ≡ InView w → (kept (cargo' z).words p ≡ None) × (G.keeping.holder p ≡ InView w)
    p_still p e = ⊎_elim
        (λ (h : (m : ℕ) × (kept (cargo' z).words p ≡ Some m)). absurd (view_slot w z (sym e ∙ p_some p h.0 h.1)))
        (λ (h : kept (cargo' z).words p ≡ None). (h, sym (p_none p h) ∙ e)) (kept_case (kept (cargo' z).words p))

    put_view : ViewHolds (workers * each) each word let_go w (view' w)
    put_view = let ok = G.views w in record {
      held = λ p n e. ⊎_elim
          (λ (h : (m : ℕ) × (kept (cargo' z).words p ≡ Some m)). absurd (some_none n (sym e ∙ po.inside p h.0 h.1)))
          (λ (h : kept (cargo' z).words p ≡ None). let x = ok.held p n (sym (po.outside p h) ∙ e) in (x.0, p_none p h ∙ x.1, x.2)) (kept_case (kept (cargo' z).words p));
      all = λ p l e. let t = p_still p e in let x = ok.all p l t.1 in (x.0, po.outside p t.0 ∙ x.1);
      exported = λ g m. ok.exported g (subst (λ (fs : List Frame). Contains fs g) po.exported m);
      exports = λ g p l e y. subst (λ (fs : List Frame). Contains fs g) (sym po.exported) (ok.exports g p l e y);
      away = λ g m. let b = po.away g m in let h = ok.away g b.0 in (
        h.0,
        h.1,
        ⊎_elim
            (λ (y : (m : ℕ) × (kept (cargo' z).words (return_place g) ≡ Some m)). absurd (b.1 (p_whole (return_place g) y.0 g y.1 h.1)))
            (λ (y : kept (cargo' z).words (return_place g) ≡ None). p_none (return_place g) y ∙ h.2) (kept_case (kept (cargo' z).words (return_place g))),
        h.3,
      );
      aways = λ g p l e y far. let t = p_still p y in ⊎_elim (λ (m : Contains (view' w).away g). m)
          (λ (m : Contains (cargo' z).frames g). let x = po.whole g p m (lw_at p g l e).inside in absurd (some_none x.0 (sym x.1 ∙ t.0)))
          (po.stay g (ok.aways g p l e t.1 far));
    }

    p_goes : (p : ℕ) → p < workers * each → let_go.holder p ≡ InSlot z → (n : ℕ) × (kept (cargo' z).words p ≡ Some n)
    p_goes p l e = ⊎_elim (λ (h : (n : ℕ) × (kept (cargo' z).words p ≡ Some n)). h) (λ (h : kept (cargo' z).words p ≡ None). absurd (empty_before p l (sym (p_none p h) ∙ e))) (kept_case (kept (cargo' z).words p))

    put_slot : SlotHolds (workers * each) each word let_go z (cargo' z)
    put_slot = record {
      has = λ p n e. let x = p_mine p n e in (x.0, p_some p n e, x.2);
      all = p_goes;
      frames = λ f m. let h = is_leased workers each word chain cargo view G w f (po.leased f m) in let x = po.whole f (return_place f) m (lw_at (return_place f) f h.0 h.1).inside in (h.0, h.1, p_some (return_place f) x.0 x.1);
      leased = λ f p l e h. let x = p_goes p l h in p_whole p x.0 f x.1 e;
    }

    pub put_out : Leases workers each word chain' cargo' view'
    put_out = assembled workers each word chain cargo view G word chain' cargo' view' w (InView w) (InSlot z) let_go (record {
      shift = record {
        places = λ p l. ⊎_elim (λ (h : (n : ℕ) × (kept (cargo' z).words p ≡ Some n)). inr ((p_mine p h.0 h.1).1, p_some p h.0 h.1)) (λ (h : kept (cargo' z).words p ≡ None). inl (p_none p h, refl, refl)) (kept_case (kept (cargo' z).words p));
        frames = λ p l n. refl;
      };
      apart = λ u d. (view_other u w d, view_slot u z);
      small = G.small;
      words = λ q l. put_word q (G.keeping.frame q) l refl;
      own = put_view;
      others = a.others;
      slots = λ y. ⊎_elim
          (λ (q : y ≡ z). inr (subst (λ (y : Slot). SlotHolds (workers * each) each word let_go y (cargo' y)) (sym q) put_slot))
          (λ (n : y ≡ z → ⊥). inl (λ e. view_slot w y (sym e), slot_other y z n, a.same y n)) (slot_case y z);
      bare = around_slot workers each word chain cargo view G w z chain' cargo' view' a;
      sized = a.sized;
    })
