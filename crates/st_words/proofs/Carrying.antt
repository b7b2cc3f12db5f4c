-- What goes with a chain that is put can be named: cargo_laws.
use Rattle.std.proofs.Common.{◌≡◌, inr, ⊎_elim, ℕ, ◌<◌, Bool, true, false, cond, List, [], ◌∷◌, length, Option, Some, refl, sym, ap, ◌∙◌, subst}
use Rattle.std.specs.List.{Contains}
use Rattle.st_base.specs.declared.chain.Chain.{Chain}
use Rattle.st_base.specs.declared.chain.Frame.{Frame}
use Rattle.st_words.specs.declared.view.Carried.{Carried}
use Rattle.st_words.specs.declared.view.View.{View}
use Rattle.st_words.specs.Steps.{Inside, kept}
use Rattle.st_words.specs.Views.{is_inside}
use Rattle.st_words.specs.Careful.{MayCarry}
use Rattle.st_words.specs.Laws.{CargoLaws, HasFrames, inside_one, words_of, cargo_of}
use Rattle.st_words.proofs.Lists.{kept_within, all_some, inside_true, true_inside, contains_here, contains_later, contains_none, contains_case}
use Rattle.st_words.proofs.Sizes.{remade_length}

-- a place is in a frame of the list
abbrev InOne : List Frame → ℕ → Type 0
InOne fs p = (f : Frame) × Contains fs f × Inside f p

one_at : (b : Bool) (f : Frame) (fs : List Frame) (p n : ℕ) (h : Option ℕ) → is_inside f p ≡ b → (inside_one fs p h ≡ Some n → (h ≡ Some n) × InOne fs p) → cond b h (inside_one fs p h) ≡ Some n → (h ≡ Some n) × InOne (f ∷ fs) p
one_at true f fs p n h i more e = (e, (f, contains_here f fs, true_inside f p i))
one_at false f fs p n h i more e = let r = more e in let in' = r.1 in (r.0, (in'.0, contains_later in'.0 f fs in'.1, in'.2))

one_some : (fs : List Frame) (p n : ℕ) (h : Option ℕ) → inside_one fs p h ≡ Some n → (h ≡ Some n) × InOne fs p
one_some [] p n h e = let no : ⊥ = cc in absurd no
one_some (f ∷ fs) p n h e = one_at (is_inside f p) f fs p n h refl (λ m. one_some fs p n h m) e

one_stays : (b : Bool) (h rest : Option ℕ) → rest ≡ h → cond b h rest ≡ h
one_stays true h rest e = refl
one_stays false h rest e = e

one_in : (fs : List Frame) (p : ℕ) (h : Option ℕ) (f : Frame) → Contains fs f → Inside f p → inside_one fs p h ≡ h
one_in [] p h f m i = absurd (contains_none f m)
one_in (g ∷ gs) p h f m i = ⊎_elim
    (λ (e : g ≡ f). ap (λ (b : Bool). cond b h (inside_one gs p h)) (inside_true g p (subst (λ (z : Frame). Inside z p) (sym e) i)))
    (λ (n : Contains gs f). one_stays (is_inside g p) h (inside_one gs p h) (one_in gs p h f n i)) (contains_case f g gs m)

words : (fs : List Frame) (held : List (Option ℕ)) (p n : ℕ) → kept (words_of fs held) p ≡ Some n → (kept held p ≡ Some n) × InOne fs p
words fs held p n e =
    let l : p < length held = subst (λ (k : ℕ). p < k) (remade_length (inside_one fs) 0 held) (kept_within (words_of fs held) p n e) in
    one_some fs p n (kept held p) (sym (all_some (inside_one fs) held p l) ∙ e)

whole : (fs : List Frame) (held : List (Option ℕ)) (f : Frame) (p n : ℕ) → Contains fs f → Inside f p → kept held p ≡ Some n → kept (words_of fs held) p ≡ Some n
whole fs held f p n m i e = all_some (inside_one fs) held p (kept_within held p n e) ∙ one_in fs p (kept held p) f m i ∙ e

may_carry : (u : View) (chain : Chain) (x : Carried) (fs : List Frame) (unit : ℕ) → HasFrames u chain x fs → MayCarry u chain (cargo_of u x fs unit)
may_carry u chain x fs unit r = record {
  carried = r.carried;
  note = r.note;
  cell = r.cell;
  wait = r.wait;
  leased = r.leased;
  whole = λ f p m i. let h = r.holds f p m i in (h.0, whole fs u.held f p h.0 m i h.1);
  words = λ p n e. words fs u.held p n e;
  own = r.own;
  names = λ name is has. r.knows name is (inr (x, r.carried, has));
  known = λ name c m. m;
}

pub cargo_laws : CargoLaws
cargo_laws = record {
  words = λ u x fs unit p n e. words fs u.held p n e;
  whole = λ u x fs unit f p n m i e. whole fs u.held f p n m i e;
  may_carry = may_carry;
}
