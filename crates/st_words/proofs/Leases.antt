-- What a worker keeps of its leased frames: leased_laws, by the laws of each kind of step. fewer_apart: fewer frames are apart too.
use Rattle.std.proofs.Common.{◌≡◌, ◌≢◌, ◌⊎◌, inl, inr, ⊎_elim, ℕ, zero, suc, ◌<◌, List, length, Option, Some, None, refl, sym, ap, ◌∙◌, subst, arith}
use Rattle.std.specs.List.{Contains}
use mathlib.Core.Logic.{dite}
use native.Mathlib.Decide.{ℕ_discrete}
use Rattle.st_base.specs.declared.chain.Chain.{Chain}
use Rattle.st_base.specs.declared.chain.Frame.{Frame}
use Rattle.st_words.specs.declared.view.Slot.{Slot}
use Rattle.st_words.specs.declared.view.Cargo.{Cargo}
use Rattle.st_words.specs.declared.view.View.{View}
use Rattle.st_words.specs.Steps.{StackStore, Mark, Look, SlotTake, Done, Looked, Took, return_place, place_of, home_of, Inside, kept, Holds, IsLeased}
use Rattle.st_words.specs.Views.{view_after}
use Rattle.st_words.specs.Promises.{Promises, ComesWhole}
use Rattle.st_words.specs.Careful.{MayCarry}
use Rattle.st_words.specs.Names.{KnowsNames}
use Rattle.st_words.specs.Laws.{AreApart, HasFrames, taking, putting}
use Rattle.st_words.specs.Leased.{KeepsLeased, LeasedLaws}
use Rattle.st_words.proofs.Lists.{inside_case}
use Rattle.st_words.proofs.Naming.{size_laws, store_laws}
use Rattle.st_words.proofs.Returning.{apart_each}
use Rattle.st_words.proofs.Marks.{mark_laws}
use Rattle.st_words.proofs.Looks.{look_laws}
use Rattle.st_words.proofs.Takes.{take_laws}
use Rattle.st_words.proofs.Puts.{put_laws}

pub fewer_apart : (u v : View) → ((f : Frame) → IsLeased v f → IsLeased u f) → AreApart u → AreApart v
fewer_apart u v fewer r = record {
  some_word = λ f l. r.some_word f (fewer f l);
  apart = λ f g p lf lg i j. r.apart f g p (fewer f lf) (fewer g lg) i j;
}

-- no word is lost, and no frame comes: away frames of the view after are among those before, and so are exported ones
keeps : (u v : View) → ((f : Frame) → Contains v.exported f → Contains u.exported f) → ((f : Frame) → Contains v.away f → Contains u.away f) → ((f : Frame) (p : ℕ) → Contains v.away f → Inside f p → Holds v p) → v.each ≡ u.each → v.number ≡ u.number → KeepsLeased u → KeepsLeased v
keeps u v exported away holds each number r = record {
  apart = fewer_apart u v (λ f l. ⊎_elim (λ m. inl (exported f m)) (λ m. inr (away f m)) l) r.apart;
  holds = holds;
  home = λ f p m i. subst (λ (k : ℕ). home_of k p ≡ v.number) (sym each) (r.home f p (exported f m) i ∙ sym number);
}

-- ---- stores

store_holds : (u : View) (p n q : ℕ) → Holds u p → Holds u q → Holds (view_after u (StackStore p n) Done) q
store_holds u p n q hp hq = dite (ℕ_discrete q p)
    (λ (e : q ≡ p). subst (λ (k : ℕ). Holds (view_after u (StackStore p n) Done) k) (sym e) (n, store_laws.reads u p n hp))
    (λ (d : q ≢ p). (hq.0, store_laws.others u p q n d ∙ hq.1))

store_same : (u : View) (p n : ℕ) → ((view_after u (StackStore p n) Done).exported ≡ u.exported) × ((view_after u (StackStore p n) Done).away ≡ u.away)
unfolding view_after
store_same u p n = (refl, refl)

store : (u : View) (p n : ℕ) → KeepsLeased u → Holds u p → KeepsLeased (view_after u (StackStore p n) Done)
store u p n r h =
    let v : View = view_after u (StackStore p n) Done in
    let same = store_same u p n in
    keeps u v (λ f m. subst (λ (fs : List Frame). Contains fs f) same.0 m) (λ f m. subst (λ (fs : List Frame). Contains fs f) same.1 m)
    (λ f q m i. store_holds u p n q h (r.holds f q (subst (λ (fs : List Frame). Contains fs f) same.1 m) i)) (size_laws.each u (StackStore p n) Done) (size_laws.number u (StackStore p n) Done) r

-- ---- marks

mark_holds : (u : View) (f g : Frame) (p : ℕ) → KeepsLeased u → IsLeased u f → Contains (view_after u (Mark (return_place f)) Done).away g → Inside g p → Holds (view_after u (Mark (return_place f)) Done) p
mark_holds u f g p r l m i =
    let was : Contains u.away g = mark_laws.were u (return_place f) g m in
    let held = r.holds g p was i in
    let out : Inside f p → ⊥ = λ j. mark_laws.gone u f (subst (λ (z : Frame). Contains (view_after u (Mark (return_place f)) Done).away z) (r.apart.apart g f p (inr was) l i j) m) in
    (held.0, mark_laws.others u f p (apart_each u r.apart) l out ∙ held.1)

mark : (u : View) (f : Frame) → KeepsLeased u → IsLeased u f → KeepsLeased (view_after u (Mark (return_place f)) Done)
mark u f r l = keeps u (view_after u (Mark (return_place f)) Done) (λ g m. subst (λ (fs : List Frame). Contains fs g) (mark_laws.exported u (return_place f)) m) (λ g m. mark_laws.were u (return_place f) g m)
    (λ g p m i. mark_holds u f g p r l m i) (size_laws.each u (Mark (return_place f)) Done) (size_laws.number u (Mark (return_place f)) Done) r

-- ---- looks

look_holds : (u : View) (f : Frame) (cargo : Cargo) (p : ℕ) → KeepsLeased u → Contains u.exported f → return_place f < length u.held → Promises u (Look (return_place f)) (Looked 0 cargo) → Holds u p → Holds (view_after u (Look (return_place f)) (Looked 0 cargo)) p
look_holds u f cargo p r m l told h = ⊎_elim
    (λ (i : Inside f p). let word = look_laws.takes_back u f cargo p (apart_each u r.apart) m l told i in (word.0, word.2))
    (λ (n : Inside f p → ⊥). (h.0, look_laws.others u f cargo p (apart_each u r.apart) m n ∙ h.1)) (inside_case f p)

look_by : (u : View) (f : Frame) (n : ℕ) (cargo : Cargo) → KeepsLeased u → ((g : Frame) (p : ℕ) → Contains u.away g → Inside g p → Holds (view_after u (Look (return_place f)) (Looked n cargo)) p) → KeepsLeased (view_after u (Look (return_place f)) (Looked n cargo))
look_by u f n cargo r holds =
    let at : ℕ = return_place f in
    let away : (view_after u (Look at) (Looked n cargo)).away ≡ u.away = look_laws.away u at n cargo in
    keeps u (view_after u (Look at) (Looked n cargo)) (λ g m. look_laws.were u at n cargo g m) (λ g m. subst (λ (fs : List Frame). Contains fs g) away m)
    (λ g p m i. holds g p (subst (λ (fs : List Frame). Contains fs g) away m) i) (size_laws.each u (Look at) (Looked n cargo)) (size_laws.number u (Look at) (Looked n cargo)) r

look : (u : View) (f : Frame) (n : ℕ) (cargo : Cargo) → KeepsLeased u → Contains u.exported f → return_place f < length u.held → Promises u (Look (return_place f)) (Looked n cargo) → KeepsLeased (view_after u (Look (return_place f)) (Looked n cargo))
look u f zero cargo r m l told = look_by u f 0 cargo r (λ g p a i. look_holds u f cargo p r m l told (r.holds g p a i))
look u f (suc n) cargo r m l told = subst (λ (v : View). KeepsLeased v) (sym (look_laws.alive u (return_place f) (suc n) cargo (λ e. omega (arith, e)))) r

-- ---- chains that are taken

abbrev Comes : View → Cargo → Frame → Type 0
Comes u cargo f = IsLeased u f ⊎ Contains cargo.frames f

-- a frame of the cargo shares a word with a leased frame that was there only where they are one
meets : (u : View) (slot : Slot) (chain : Chain) (cargo : Cargo) (f g : Frame) (p : ℕ) → KeepsLeased u → ComesWhole u cargo → Promises u (SlotTake slot) (Took (Some chain) cargo) → Contains cargo.frames f → IsLeased u g → Inside f p → Inside g p → f ≡ g
meets u slot chain cargo f g p r w told m (inl e) i j =
    let home : home_of u.each (return_place f) ≡ u.number = sym (w.one_home f p m i) ∙ r.home g p e j in
    r.apart.apart f g p (inl (told.own f m home)) (inl e) i j
meets u slot chain cargo f g p r w told m (inr a) i j =
    let word = w.whole f p m i in
    let none = w.fresh p word.0 word.1 in
    let held = r.holds g p a j in
    let was = held.1 in
    let no : ⊥ = cc in absurd no

take_apart : (u : View) (slot : Slot) (chain : Chain) (cargo : Cargo) → KeepsLeased u → ComesWhole u cargo → Promises u (SlotTake slot) (Took (Some chain) cargo) → (f g : Frame) (p : ℕ) → Comes u cargo f → Comes u cargo g → Inside f p → Inside g p → f ≡ g
take_apart u slot chain cargo r w told f g p (inl a) (inl b) i j = r.apart.apart f g p a b i j
take_apart u slot chain cargo r w told f g p (inl a) (inr b) i j = sym (meets u slot chain cargo g f p r w told b a j i)
take_apart u slot chain cargo r w told f g p (inr a) (inl b) i j = meets u slot chain cargo f g p r w told a b i j
take_apart u slot chain cargo r w told f g p (inr a) (inr b) i j = w.apart f g p a b i j

-- a word of the cargo is held afterwards, and so is each that was held
took_word : (u : View) (slot : Slot) (chain : Chain) (cargo : Cargo) (p : ℕ) → Promises u (SlotTake slot) (Took (Some chain) cargo) → (n : ℕ) × (kept cargo.words p ≡ Some n) → Holds (taking u slot chain cargo) p
took_word u slot chain cargo p told word = (word.0, take_laws.words u slot chain cargo p word.0 told word.1)

took_held : (u : View) (slot : Slot) (chain : Chain) (cargo : Cargo) (p : ℕ) (o : Option ℕ) → kept cargo.words p ≡ o → Promises u (SlotTake slot) (Took (Some chain) cargo) → Holds u p → Holds (taking u slot chain cargo) p
took_held u slot chain cargo p (Some n) e told h = took_word u slot chain cargo p told (n, e)
took_held u slot chain cargo p None e told h = (h.0, take_laws.others u slot chain cargo p e ∙ h.1)

take_holds : (u : View) (slot : Slot) (chain : Chain) (cargo : Cargo) → KeepsLeased u → ComesWhole u cargo → Promises u (SlotTake slot) (Took (Some chain) cargo) → (f : Frame) (p : ℕ) → Contains u.away f ⊎ Contains cargo.frames f → Inside f p → Holds (taking u slot chain cargo) p
take_holds u slot chain cargo r w told f p (inl a) i = took_held u slot chain cargo p (kept cargo.words p) refl told (r.holds f p a i)
take_holds u slot chain cargo r w told f p (inr m) i = took_word u slot chain cargo p told (w.whole f p m i)

take_words : (u : View) (cargo : Cargo) → KeepsLeased u → ComesWhole u cargo → (f : Frame) → Comes u cargo f → place_of f.low < place_of f.base
take_words u cargo r w f (inl a) = r.apart.some_word f a
take_words u cargo r w f (inr m) = w.some_word f m

take : (u : View) (slot : Slot) (chain : Chain) (cargo : Cargo) → KeepsLeased u → ComesWhole u cargo → Promises u (SlotTake slot) (Took (Some chain) cargo) → KeepsLeased (taking u slot chain cargo)
take u slot chain cargo r w told =
    let v : View = taking u slot chain cargo in
    let a = Took (Some chain) cargo in
    record {
      apart = record {
        some_word = λ f l. take_words u cargo r w f (take_laws.were u slot chain cargo f l);
        apart = λ f g p lf lg i j. take_apart u slot chain cargo r w told f g p (take_laws.were u slot chain cargo f lf) (take_laws.were u slot chain cargo g lg) i j;
      };
      holds = λ f p m i. take_holds u slot chain cargo r w told f p (take_laws.away u slot chain cargo f m) i;
      home = λ f p m i. subst (λ (k : ℕ). home_of k p ≡ v.number) (sym (size_laws.each u (SlotTake slot) a)) (r.home f p (subst (λ (fs : List Frame). Contains fs f) (take_laws.exported u slot chain cargo) m) i ∙ sym (size_laws.number u (SlotTake slot) a));
    }

again : (u : View) (slot : Slot) (chain : Chain) (cargo : Cargo) → ComesWhole u cargo → Promises u (SlotTake slot) (Took (Some chain) cargo) → KnowsNames (taking u slot chain cargo) → HasFrames (taking u slot chain cargo) chain cargo.carried cargo.frames
again u slot chain cargo w told knows =
    let a = Took (Some chain) cargo in
    record {
      carried = (take_laws.chain u slot chain cargo told).0;
      note = told.of.0;
      cell = told.of.2;
      wait = told.of.1;
      leased = λ f m. take_laws.frames u slot chain cargo f told m;
      holds = λ f p m i. took_word u slot chain cargo p told (w.whole f p m i);
      own = λ f m home. subst (λ (fs : List Frame). Contains fs f) (sym (take_laws.exported u slot chain cargo)) (told.own f m (ap (λ (k : ℕ). home_of k (return_place f)) (sym (size_laws.each u (SlotTake slot) a)) ∙ home ∙ size_laws.number u (SlotTake slot) a));
      knows = knows;
    }

-- ---- chains that are put

put_holds : (u : View) (slot : Slot) (chain : Chain) (cargo : Cargo) (g : Frame) (p : ℕ) (o : Option ℕ) → kept cargo.words p ≡ o → KeepsLeased u → MayCarry u chain cargo → Contains (putting u slot chain cargo).away g → Inside g p → Holds (putting u slot chain cargo) p
put_holds u slot chain cargo g p None e r may m i =
    let held = r.holds g p (put_laws.were u slot chain cargo g m) i in
    (held.0, put_laws.others u slot chain cargo p e ∙ held.1)
put_holds u slot chain cargo g p (Some n) e r may m i =
    let frame = (may.words p n e).1 in
    let f : Frame = frame.0 in
    let same : f ≡ g = r.apart.apart f g p (may.leased f frame.1) (inr (put_laws.were u slot chain cargo g m)) frame.2 i in
    absurd (put_laws.gone u slot chain cargo g (subst (λ (z : Frame). Contains cargo.frames z) same frame.1) m)

put : (u : View) (slot : Slot) (chain : Chain) (cargo : Cargo) → KeepsLeased u → MayCarry u chain cargo → KeepsLeased (putting u slot chain cargo)
put u slot chain cargo r may = keeps u (putting u slot chain cargo) (λ f m. subst (λ (fs : List Frame). Contains fs f) (put_laws.exported u slot chain cargo) m) (λ f m. put_laws.were u slot chain cargo f m)
    (λ g p m i. put_holds u slot chain cargo g p (kept cargo.words p) refl r may m i) (size_laws.each u _ Done) (size_laws.number u _ Done) r

pub leased_laws : LeasedLaws
leased_laws = record {
  store = store;
  mark = mark;
  look = look;
  take = λ u slot chain cargo r told. take u slot chain cargo r told.whole told;
  put = put;
  again = λ u slot chain cargo told knows. again u slot chain cargo told.whole told knows;
}
