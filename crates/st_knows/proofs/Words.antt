-- What a view comes to know: know_same (nothing), know_owner, know_count, know_full and know_filled, know_value, know_stop, know_names (one thing more), and
-- know_state (a State word was read).
use Rattle.std.proofs.Common.{◌≡◌, ◌≢◌, ⊎_elim, ℕ, zero, suc, ◌≤◌, Bool, true, false, List, ◌∷◌, ◌++◌, Option, Some, None, refl, sym, ap, ◌∙◌, subst, arith, ◌==◌}
use Rattle.std.proofs.lemmas.List.Elements.{Contains-append_cases}
use Rattle.std.specs.List.{Contains}
use Rattle.st_base.specs.declared.thread.Held.{Held}
use Rattle.st_words.specs.declared.view.View.{View}
use Rattle.st_words.specs.Encodings.{is_counter, full_word, count_in}
use Rattle.st_words.specs.Views.{kind_of, kind_by, kind_named, kind_seen, with_owner, with_state_by, state_when, with_stop}
use Rattle.st_words.proofs.Lists.{same_true}
use Rattle.st_knows.specs.Knowing.{IsOfKind, KnowsKinds, KnowsWords}
use Rattle.st_knows.proofs.Seeing.{each_of, owner_case, kind_in}
use Rattle.st_knows.proofs.ViewsAfter.{SameParts}

pub kinds_and : (owner : ℕ → ℕ) (xs ys : List (Held × ℕ)) → KnowsKinds owner xs → KnowsKinds owner ys → KnowsKinds owner (xs ++ ys)
kinds_and owner xs ys a b name c m = ⊎_elim (a name c) (b name c) (Contains-append_cases xs ys (name, c) m)

module _ (owner state value : ℕ → ℕ) (stop : ℕ) where
  pub know_same : (u v : View) → SameParts u v → KnowsWords owner state value stop u → KnowsWords owner state value stop v
  know_same u v p K = record {
    owners = λ c n m. K.owners c n (subst (λ (l : List (ℕ × ℕ)). Contains l (c, n)) p.0 m);
    full = λ c m. K.full c (subst (λ (l : List ℕ). Contains l c) p.1 m);
    filled = λ c m. K.filled c (subst (λ (l : List ℕ). Contains l c) p.2 m);
    values = λ c n m. K.values c n (subst (λ (l : List (ℕ × ℕ)). Contains l (c, n)) p.3 m);
    counts = λ c k m. K.counts c k (subst (λ (l : List (ℕ × ℕ)). Contains l (c, k)) p.4 m);
    names = λ name c m. K.names name c (subst (λ (l : List (Held × ℕ)). Contains l (name, c)) p.5 m);
    stops = λ code e. K.stops code (sym p.6 ∙ e);
  }

  module _ (v : View) (K : KnowsWords owner state value stop v) where
    pub know_owner : (c n : ℕ) → owner c ≡ n → n ≢ 0 → KnowsWords owner state value stop (record v { owners = (c, n) ∷ v.owners })
    know_owner c n is some = record {
      owners = λ d m. each_of (λ (y : ℕ × ℕ). (owner y.0 ≡ y.1) × (y.1 ≢ 0)) (c, n) v.owners (is, some) (λ y. K.owners y.0 y.1) (d, m);
      full = K.full;
      filled = K.filled;
      values = K.values;
      counts = K.counts;
      names = K.names;
      stops = K.stops;
    }

    pub know_count : (c k : ℕ) → IsOfKind true (owner c) → k ≤ count_in (state c) → KnowsWords owner state value stop (record v { counts = (c, k) ∷ v.counts })
    know_count c k is most = record {
      counts = λ d m. each_of (λ (y : ℕ × ℕ). IsOfKind true (owner y.0) × (y.1 ≤ count_in (state y.0))) (c, k) v.counts (is, most) (λ y. K.counts y.0 y.1) (d, m);
      owners = K.owners;
      full = K.full;
      filled = K.filled;
      values = K.values;
      names = K.names;
      stops = K.stops;
    }

    pub know_full : (c : ℕ) → IsOfKind false (owner c) → state c ≡ full_word → KnowsWords owner state value stop (record v { full = c ∷ v.full })
    know_full c is so = record {
      full = each_of (λ (d : ℕ). IsOfKind false (owner d) × (state d ≡ full_word)) c v.full (is, so) K.full;
      owners = K.owners;
      filled = K.filled;
      values = K.values;
      counts = K.counts;
      names = K.names;
      stops = K.stops;
    }

    pub know_filled : (c : ℕ) → IsOfKind false (owner c) → state c ≡ full_word → KnowsWords owner state value stop (record v { filled = c ∷ v.filled })
    know_filled c is so = record {
      filled = each_of (λ (d : ℕ). IsOfKind false (owner d) × (state d ≡ full_word)) c v.filled (is, so) K.filled;
      owners = K.owners;
      full = K.full;
      values = K.values;
      counts = K.counts;
      names = K.names;
      stops = K.stops;
    }

    pub know_value : (c n : ℕ) → Contains v.full c → value c ≡ n → KnowsWords owner state value stop (record v { values = (c, n) ∷ v.values })
    know_value c n at is = let f = K.full c at in record {
      values = λ d m. each_of (λ (y : ℕ × ℕ). IsOfKind false (owner y.0) × (state y.0 ≡ full_word) × (value y.0 ≡ y.1)) (c, n) v.values (f.0, f.1, is) (λ y. K.values y.0 y.1) (d, m);
      owners = K.owners;
      full = K.full;
      filled = K.filled;
      counts = K.counts;
      names = K.names;
      stops = K.stops;
    }

    pub know_names : (names : List (Held × ℕ)) → KnowsKinds owner names → KnowsWords owner state value stop (record v { names = names })
    know_names names kinds = record {
      names = kinds;
      owners = K.owners;
      full = K.full;
      filled = K.filled;
      values = K.values;
      counts = K.counts;
      stops = K.stops;
    }

    -- ---- words that are read

    pub know_stop : (n : ℕ) → stop ≡ n → KnowsWords owner state value stop (with_stop n v)
    know_stop zero is = K
    know_stop (suc n) is = record {
      stops = λ code e. let same : suc n ≡ code = cc in (is ∙ same, λ z. let no : suc n ≡ 0 = same ∙ z in omega (arith, no));
      owners = K.owners;
      full = K.full;
      filled = K.filled;
      values = K.values;
      counts = K.counts;
      names = K.names;
    }

    pub know_word : (c n : ℕ) → owner c ≡ n → KnowsWords owner state value stop (with_owner c n v)
    know_word c zero is = K
    know_word c (suc n) is = know_owner c (suc n) is (λ z. omega (arith, z))

    -- the cell is of the kind that the view tells
    known_kind : (c : ℕ) (b : Bool) → kind_seen c v ≡ Some b → IsOfKind b (owner c)
    known_kind c b e = ⊎_elim
        (λ r.
        let k = kind_in c v.names b (sym (ap (λ (o : Option ℕ). kind_by o (kind_named c v.names)) r.0) ∙ e) in
        let h = K.names k.0 c k.1 in
        let a : kind_of k.0 ≡ Some b = k.2 in
        let z : kind_of k.0 ≡ Some (is_counter (owner c)) = h.1 in
        record { named = h.0; kind = cc })
        (λ r.
        let h = K.owners c r.0 r.2 in
        let a : Some (is_counter r.0) ≡ Some b = sym (ap (λ (o : Option ℕ). kind_by o (kind_named c v.names)) r.1) ∙ e in
        let k : is_counter r.0 ≡ b = cc in
        record { named = λ z. h.1 (sym h.0 ∙ z); kind = ap is_counter h.0 ∙ k })
        (owner_case c v.owners)

    state_full : (c n : ℕ) (b : Bool) → (n == full_word) ≡ b → IsOfKind false (owner c) → state c ≡ n → KnowsWords owner state value stop (state_when c n false b v)
    state_full c n true e is so = know_full c is (so ∙ same_true n full_word e)
    state_full c n false e is so = K

    state_by : (c n : ℕ) (kind : Option Bool) → kind_seen c v ≡ kind → state c ≡ n → KnowsWords owner state value stop (with_state_by kind c n v)
    state_by c n None e so = K
    state_by c n (Some true) e so = know_count c (count_in n) (known_kind c true e) (let z : count_in (state c) ≡ count_in n = ap count_in so in omega (arith, z))
    state_by c n (Some false) e so = state_full c n (n == full_word) refl (known_kind c false e) so

    pub know_state : (c n : ℕ) → state c ≡ n → KnowsWords owner state value stop (with_state_by (kind_seen c v) c n v)
    know_state c n so = state_by c n (kind_seen c v) refl so
