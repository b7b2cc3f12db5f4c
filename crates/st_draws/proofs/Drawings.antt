-- How Drawing goes on: stays (the drawn numbers stay), with_states (State words change), draws (a number is drawn) and names (a cell is named). small says how
-- far the count is from where it would wrap.
use Rattle.std.proofs.Common.{◌≡◌, ◌≢◌, ◌⊎◌, inl, inr, ⊎_elim, ℕ, ◌+◌, ◌≤◌, ◌<◌, List, [], ◌∷◌, sym, ap, ◌∙◌, subst, arith}
use Rattle.std.specs.List.{Contains}
use mathlib.Core.Logic.{dite}
use native.Mathlib.Decide.{ℕ_discrete}
use Rattle.st_words.specs.declared.view.View.{View}
use Rattle.st_words.proofs.Lists.{contains_here, contains_none, contains_case}
use Rattle.st_world.specs.Functions.{put}
use Rattle.st_world.proofs.Functions.{put_here, put_other, put_all, put_same, total_put, total_same}
use Rattle.st_draws.specs.Drawing.{beyond, all_beyond, HasDrawn, Drawing}
use Rattle.st_draws.proofs.Numbers.{beyond_near, beyond_case, all_most}

-- the one number that was drawn
only : (ds : List ℕ) (c d : ℕ) → ds ≡ c ∷ [] → Contains ds d → c ≡ d
only ds c d e m = ⊎_elim (λ s. s) (λ more. absurd (contains_none d more)) (contains_case d c [] (subst (λ (l : List ℕ). Contains l d) e m))

none : (ds : List ℕ) (d : ℕ) → ds ≡ [] → Contains ds d → ⊥
none ds d e m = contains_none d (subst (λ (l : List ℕ). Contains l d) e m)

module _ (workers cells drawn : ℕ) (owner state : ℕ → ℕ) (view : ℕ → View) (D : Drawing workers cells drawn owner state view) where
  pub most : drawn ≤ cells + workers
  most =
      let a = D.bound in
      let b = all_most cells view (λ w. (D.views w).one) workers in
      omega (arith, a, b)

  pub small : drawn ≤ 65567
  small =
      let a = most in
      let b = D.few_workers in
      let c = D.few_cells in
      omega (arith, a, b, c)

  -- the next number's cell isn't named
  pub fresh : owner drawn ≡ 0
  fresh = dite (ℕ_discrete (owner drawn) 0) (λ (e : owner drawn ≡ 0). e) (λ (n : owner drawn ≢ 0). let l = D.named drawn n in let no : ⊥ = omega (arith, l) in absurd no)

  -- a worker with a number to name has that one
  pub single : (w c : ℕ) → Contains (view w).drawn c → (view w).drawn ≡ c ∷ []
  single w c m = ⊎_elim (λ e. absurd (none (view w).drawn c e m)) (λ h. h.1 ∙ ap (λ (d : ℕ). d ∷ []) (only (view w).drawn h.0 c h.1 m)) (D.views w).one

  -- ---- the drawn numbers stay

  drawn_still : (view' : ℕ → View) (q : ℕ) → (view' q).drawn ≡ (view q).drawn → HasDrawn drawn owner D.drawer q (view' q)
  drawn_still view' q e = let h = D.views q in let was = λ (c : ℕ) (m : Contains (view' q).drawn c). subst (λ (l : List ℕ). Contains l c) e m in record {
    below = λ c m. h.below c (was c m);
    unnamed = λ c m. h.unnamed c (was c m);
    drew = λ c m. h.drew c (was c m);
    one = subst (λ (l : List ℕ). (l ≡ []) ⊎ ((c : ℕ) × (l ≡ c ∷ []))) (sym e) h.one;
  }

  pub stays : (w : ℕ) (v : View) → v.drawn ≡ (view w).drawn → v.cells ≡ (view w).cells → Drawing workers cells drawn owner state (put view w v)
  stays w v e s =
      let same = put_same (λ (y : View). y.drawn) view w v e in
      let sum : all_beyond cells view workers ≡ all_beyond cells (put view w v) workers = total_same (λ q. beyond cells (view q).drawn) (λ q. beyond cells (put view w v q).drawn) workers (λ q l. ap (beyond cells) (same q)) in
      record {
        drawer = D.drawer;
        few_workers = D.few_workers;
        few_cells = D.few_cells;
        sized = λ q l. sym (put_same (λ (y : View). y.cells) view w v s q) ∙ D.sized q l;
        views = λ q. drawn_still (put view w v) q (sym (same q));
        named = D.named;
        each = λ c l. ⊎_elim (λ n. inl n) (λ h. inr (subst (λ (ds : List ℕ). Contains ds c) (same (D.drawer c)) h.0, h.1)) (D.each c l);
        unnamed = D.unnamed;
        bound = subst (λ (k : ℕ). drawn ≤ cells + k) sum D.bound;
      }

  -- State words change, but of cells that are named
  pub with_states : (state' : ℕ → ℕ) → ((c : ℕ) → owner c ≡ 0 → state' c ≡ 0) → Drawing workers cells drawn owner state' view
  with_states state' zero = record {
    drawer = D.drawer;
    few_workers = D.few_workers;
    few_cells = D.few_cells;
    sized = D.sized;
    views = D.views;
    named = D.named;
    each = D.each;
    unnamed = zero;
    bound = D.bound;
  }

  module _ (w : ℕ) (less : w < workers) (v : View) (size : v.cells ≡ (view w).cells) where
    sizes : (q : ℕ) → q < workers → (put view w v q).cells ≡ cells
    sizes q l = sym (put_same (λ (y : View). y.cells) view w v size q) ∙ D.sized q l

    -- ---- a number is drawn

    abbrev drawer' : ℕ → ℕ
    drawer' = put D.drawer drawn w

    drew_here : v.drawn ≡ drawn ∷ [] → HasDrawn (drawn + 1) owner drawer' w v
    drew_here new = record {
      below = λ c m. let e = only v.drawn drawn c new m in omega (arith, e);
      unnamed = λ c m. ap owner (sym (only v.drawn drawn c new m)) ∙ fresh;
      drew = λ c m. ap drawer' (sym (only v.drawn drawn c new m)) ∙ put_here D.drawer drawn w;
      one = inr (drawn, new);
    }

    drew_there : (q : ℕ) → HasDrawn (drawn + 1) owner drawer' q (view q)
    drew_there q = let h = D.views q in record {
      below = λ c m. let l = h.below c m in omega (arith, l);
      unnamed = h.unnamed;
      drew = λ c m. let l = h.below c m in put_other D.drawer drawn w c (λ (e : c ≡ drawn). omega (arith, e, l)) ∙ h.drew c m;
      one = h.one;
    }

    -- a number that was drawn before is where it was
    where_it_was : (c : ℕ) → c ≢ drawn → (view w).drawn ≡ [] → Contains (view (D.drawer c)).drawn c × (D.drawer c < workers) → Contains (put view w v (drawer' c)).drawn c × (drawer' c < workers)
    where_it_was c d empty h = subst (λ (q : ℕ). Contains (put view w v q).drawn c × (q < workers)) (sym (put_other D.drawer drawn w c d))
        (subst (λ (y : View). Contains y.drawn c) (sym (put_other view w v (D.drawer c) (λ (e : D.drawer c ≡ w). none (view w).drawn c empty (subst (λ (q : ℕ). Contains (view q).drawn c) e h.0)))) h.0, h.1)

    drawn_each : (view w).drawn ≡ [] → v.drawn ≡ drawn ∷ [] → (c : ℕ) → c < drawn + 1 → (owner c ≢ 0) ⊎ (Contains (put view w v (drawer' c)).drawn c × (drawer' c < workers))
    drawn_each empty new c l = dite (ℕ_discrete c drawn)
        (λ (e : c ≡ drawn). inr (subst (λ (q : ℕ). Contains (put view w v q).drawn c × (q < workers)) (sym (ap drawer' e ∙ put_here D.drawer drawn w))
        (subst (λ (y : View). Contains y.drawn c) (sym (put_here view w v)) (subst (λ (ds : List ℕ). Contains ds c) (sym new) (subst (λ (k : ℕ). Contains (drawn ∷ []) k) (sym e) (contains_here drawn []))), less)))
        (λ (d : c ≢ drawn). ⊎_elim (λ n. inl n) (λ h. inr (where_it_was c d empty h)) (D.each c (omega (arith, l, d))))

    drawn_bound : (view w).drawn ≡ [] → v.drawn ≡ drawn ∷ [] → drawn + 1 ≤ cells + all_beyond cells (put view w v) workers
    drawn_bound empty new =
        let sum : all_beyond cells (put view w v) workers + beyond cells (view w).drawn ≡ all_beyond cells view workers + beyond cells (put view w v w).drawn = total_put (λ q. beyond cells (view q).drawn) (λ q. beyond cells (put view w v q).drawn) workers w less (λ j d. ap (λ (y : View). beyond cells y.drawn) (sym (put_other view w v j d))) in
        let was : beyond cells (view w).drawn ≡ 0 = ap (beyond cells) empty in
        let now : beyond cells (put view w v w).drawn ≡ beyond cells (drawn ∷ []) = ap (λ (y : View). beyond cells y.drawn) (put_here view w v) ∙ ap (beyond cells) new in
        let bound = D.bound in
        ⊎_elim (λ f. let near = f.0 in omega (arith, near)) (λ one. omega (arith, sum, was, now, bound, one)) (beyond_case cells drawn)

    pub draws : (view w).drawn ≡ [] → v.drawn ≡ drawn ∷ [] → Drawing workers cells (drawn + 1) owner state (put view w v)
    draws empty new = record {
      drawer = drawer';
      few_workers = D.few_workers;
      few_cells = D.few_cells;
      sized = sizes;
      views = λ q. put_all (λ (k : ℕ) (y : View). HasDrawn (drawn + 1) owner drawer' k y) view w v q (λ (e : q ≡ w). subst (λ (k : ℕ). HasDrawn (drawn + 1) owner drawer' k v) (sym e) (drew_here new)) (λ (d : q ≢ w). drew_there q);
      named = λ c n. let l = D.named c n in omega (arith, l);
      each = drawn_each empty new;
      unnamed = D.unnamed;
      bound = drawn_bound empty new;
    }

    -- ---- a cell is named

    module _ (c n : ℕ) (there : c < cells) (some : n ≢ 0) (at : Contains (view w).drawn c) (rest : v.drawn ≡ []) where
      abbrev owner' : ℕ → ℕ
      owner' = put owner c n

      named_here : HasDrawn drawn owner' D.drawer w v
      named_here = record {
        below = λ d m. absurd (none v.drawn d rest m);
        unnamed = λ d m. absurd (none v.drawn d rest m);
        drew = λ d m. absurd (none v.drawn d rest m);
        one = inl rest;
      }

      named_there : (q : ℕ) → q ≢ w → HasDrawn drawn owner' D.drawer q (view q)
      named_there q o = let h = D.views q in record {
        below = h.below;
        unnamed = λ d m. put_other owner c n d (λ (e : d ≡ c). o (sym (h.drew d m) ∙ (ap D.drawer e ∙ (D.views w).drew c at))) ∙ h.unnamed d m;
        drew = h.drew;
        one = h.one;
      }

      named_each : (d : ℕ) → d < drawn → (owner' d ≢ 0) ⊎ (Contains (put view w v (D.drawer d)).drawn d × (D.drawer d < workers))
      named_each d l = dite (ℕ_discrete d c)
          (λ (e : d ≡ c). inl (λ z. some (sym (ap owner' e ∙ put_here owner c n) ∙ z)))
          (λ (o : d ≢ c). ⊎_elim (λ s. inl (λ z. s (sym (put_other owner c n d o) ∙ z)))
          (λ h. inr (subst (λ (y : View). Contains y.drawn d) (sym (put_other view w v (D.drawer d) (λ (e : D.drawer d ≡ w). o (sym (only (view w).drawn c d (single w c at) (subst (λ (q : ℕ). Contains (view q).drawn d) e h.0)))))) h.0, h.1)) (D.each d l))

      pub names : Drawing workers cells drawn owner' state (put view w v)
      names =
          let was : beyond cells (view w).drawn ≡ 0 = ap (beyond cells) (single w c at) ∙ beyond_near cells c there in
          let now : beyond cells v.drawn ≡ 0 = ap (beyond cells) rest in
          let same = put_same (λ (y : View). beyond cells y.drawn) view w v (now ∙ sym was) in
          let sum : all_beyond cells view workers ≡ all_beyond cells (put view w v) workers = total_same (λ q. beyond cells (view q).drawn) (λ q. beyond cells (put view w v q).drawn) workers (λ q l. same q) in
          record {
            drawer = D.drawer;
            few_workers = D.few_workers;
            few_cells = D.few_cells;
            sized = sizes;
            views = λ q. put_all (λ (k : ℕ) (y : View). HasDrawn drawn owner' D.drawer k y) view w v q (λ (e : q ≡ w). subst (λ (k : ℕ). HasDrawn drawn owner' D.drawer k v) (sym e) named_here) (λ (o : q ≢ w). named_there q o);
            named = λ d. put_all (λ (k : ℕ) (o : ℕ). o ≢ 0 → k < drawn) owner c n d (λ (e : d ≡ c) s. subst (λ (k : ℕ). k < drawn) (sym e) ((D.views w).below c at)) (λ (o : d ≢ c) s. D.named d s);
            each = named_each;
            unnamed = λ d. put_all (λ (k : ℕ) (o : ℕ). o ≡ 0 → state k ≡ 0) owner c n d (λ (e : d ≡ c) z. absurd (some z)) (λ (o : d ≢ c) z. D.unnamed d z);
            bound = subst (λ (k : ℕ). drawn ≤ cells + k) sum D.bound;
          }
