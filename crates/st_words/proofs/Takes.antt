-- What a chain that is taken leaves of a view: take_laws.
use Rattle.std.proofs.Common.{eq-eqb, cond, Bool, subst, ◌≡◌, ◌≢◌, ◌⊎◌, inl, inr, ⊎_elim, ℕ, ◌<◌, ◌++◌, List, length, Option, Some, None, not, ◌==◌, refl, ap, ◌∙◌}
use Rattle.std.specs.List.{Contains}
use Rattle.std.proofs.lemmas.List.Elements.{Contains-append_left, Contains-append_right, Contains-append_cases}
use mathlib.Core.Logic.{dite}
use native.Mathlib.Decide.{ℕ_discrete}
use Rattle.st_base.specs.declared.chain.Chain.{Chain}
use Rattle.st_base.specs.declared.chain.Frame.{Frame}
use Rattle.st_base.specs.declared.chain.Waiting.{Waiting}
use Rattle.st_base.specs.declared.thread.Held.{Held}
use Rattle.st_words.specs.declared.view.Slot.{Slot}
use Rattle.st_words.specs.declared.view.Slot.TheVariants.{Cell, Mail}
use Rattle.st_words.specs.declared.view.Carried.{Carried}
use Rattle.st_words.specs.declared.view.Cargo.{Cargo}
use Rattle.st_words.specs.declared.view.Waiter.{Waiter}
use Rattle.st_words.specs.declared.view.View.{View}
use Rattle.st_words.specs.Steps.{home_of, return_place, kept, IsLeased, SlotTake, Took}
use Rattle.st_words.specs.Views.{view_after, slot_taken, held_and, first_word, foreign, seen_waiting}
use Rattle.st_words.specs.Promises.{Promises}
use Rattle.st_words.specs.Laws.{TakeLaws}
use Rattle.st_words.proofs.Lists.{all_some, all_stays, contains_here, contains_later, filter_in, filter_out, other_true, map_in}

-- ---- each part of the view, whichever slot it is

held_taken : (u : View) (slot : Slot) (cargo : Cargo) → (slot_taken slot cargo u).held ≡ held_and cargo.words u.held
held_taken u (Cell c) cargo = refl
held_taken u (Mail at) cargo = refl

away_taken : (u : View) (slot : Slot) (cargo : Cargo) → (slot_taken slot cargo u).away ≡ foreign u cargo.frames ++ u.away
away_taken u (Cell c) cargo = refl
away_taken u (Mail at) cargo = refl

exported_taken : (u : View) (slot : Slot) (cargo : Cargo) → (slot_taken slot cargo u).exported ≡ u.exported
exported_taken u (Cell c) cargo = refl
exported_taken u (Mail at) cargo = refl

chain_taken : (u : View) (slot : Slot) (cargo : Cargo) → Contains (slot_taken slot cargo u).chains cargo.carried
chain_taken u (Cell c) cargo = contains_here cargo.carried u.chains
chain_taken u (Mail at) cargo = contains_here cargo.carried u.chains

chains_taken : (u : View) (slot : Slot) (cargo : Cargo) (x : Carried) → Contains u.chains x → Contains (slot_taken slot cargo u).chains x
chains_taken u (Cell c) cargo x m = contains_later x cargo.carried u.chains m
chains_taken u (Mail at) cargo x m = contains_later x cargo.carried u.chains m

name_in : (u : View) (cargo : Cargo) (name : Held) (c : ℕ) → Contains cargo.names (name, c) ⊎ Contains u.names (name, c) → Contains (cargo.names ++ u.names) (name, c)
name_in u cargo name c (inl m) = Contains-append_left cargo.names u.names (name, c) m
name_in u cargo name c (inr m) = Contains-append_right cargo.names u.names (name, c) m

names_taken : (u : View) (slot : Slot) (cargo : Cargo) (name : Held) (c : ℕ) → Contains cargo.names (name, c) ⊎ Contains u.names (name, c) → Contains (slot_taken slot cargo u).names (name, c)
names_taken u (Cell d) cargo name c m = name_in u cargo name c m
names_taken u (Mail at) cargo name c m = name_in u cargo name c m

-- ---- words

and_in : (words held : List (Option ℕ)) (p n : ℕ) → p < length held → kept words p ≡ Some n → kept (held_and words held) p ≡ Some n
and_in words held p n l e = all_some _ held p l ∙ ap (λ (o : Option ℕ). first_word o (kept held p)) e

and_out : (words held : List (Option ℕ)) (p : ℕ) → kept words p ≡ None → kept (held_and words held) p ≡ kept held p
and_out words held p e = all_stays _ held p (ap (λ (o : Option ℕ). first_word o (kept held p)) e)

-- ---- frames

leased_by : (u : View) (slot : Slot) (cargo : Cargo) (f : Frame) → Contains u.exported f ⊎ Contains (foreign u cargo.frames ++ u.away) f → IsLeased (slot_taken slot cargo u) f
leased_by u (Cell c) cargo f l = l
leased_by u (Mail at) cargo f l = l

by_leased : (u : View) (slot : Slot) (cargo : Cargo) (f : Frame) → IsLeased (slot_taken slot cargo u) f → Contains u.exported f ⊎ Contains (foreign u cargo.frames ++ u.away) f
by_leased u (Cell c) cargo f l = l
by_leased u (Mail at) cargo f l = l

frames : (u : View) (slot : Slot) (chain : Chain) (cargo : Cargo) (f : Frame) → Promises u (SlotTake slot) (Took (Some chain) cargo) → Contains cargo.frames f → IsLeased (slot_taken slot cargo u) f
frames u slot chain cargo f told m = leased_by u slot cargo f (dite (ℕ_discrete (home_of u.each (return_place f)) u.number)
    (λ (e : home_of u.each (return_place f) ≡ u.number). inl (told.own f m e))
    (λ (n : home_of u.each (return_place f) ≢ u.number). inr (Contains-append_left (foreign u cargo.frames) u.away f (filter_in (λ g. not (home_of u.each (return_place g) == u.number)) cargo.frames f m (other_true (home_of u.each (return_place f)) u.number n)))))

stay_in : (u : View) (cargo : Cargo) (f : Frame) → IsLeased u f → Contains u.exported f ⊎ Contains (foreign u cargo.frames ++ u.away) f
stay_in u cargo f (inl m) = inl m
stay_in u cargo f (inr m) = inr (Contains-append_right (foreign u cargo.frames) u.away f m)

came_from : (u : View) (cargo : Cargo) (f : Frame) → Contains u.exported f ⊎ Contains (foreign u cargo.frames ++ u.away) f → IsLeased u f ⊎ Contains cargo.frames f
came_from u cargo f (inl m) = inl (inl m)
came_from u cargo f (inr m) = ⊎_elim (λ x. inr (filter_out (λ g. not (home_of u.each (return_place g) == u.number)) cargo.frames f x).0) (λ y. inl (inr y)) (Contains-append_cases (foreign u cargo.frames) u.away f m)

-- ---- waiters

seen_at : (c : ℕ) (wait : Waiting) (x : Waiter) → x.cell ≡ c → cond (x.cell == c) (record x { wait = Some wait }) x ≡ record x { wait = Some wait }
seen_at c wait x e = ap (λ (b : Bool). cond b (record x { wait = Some wait }) x) (eq-eqb x.cell c e)

seen_in : (c : ℕ) (wait : Waiting) (hand : List Waiter) (x : Waiter) → Contains hand x → x.cell ≡ c → (y : Waiter) × Contains (seen_waiting c wait hand) y × (y.cell ≡ c) × (y.wait ≡ Some wait)
seen_in c wait hand x m e = (record x { wait = Some wait }, subst (λ (y : Waiter). Contains (seen_waiting c wait hand) y) (seen_at c wait x e) (map_in (λ (z : Waiter). cond (z.cell == c) (record z { wait = Some wait }) z) hand x m), e, refl)

away_from : (u : View) (cargo : Cargo) (f : Frame) → Contains (foreign u cargo.frames ++ u.away) f → Contains u.away f ⊎ Contains cargo.frames f
away_from u cargo f m = ⊎_elim (λ x. inr (filter_out (λ g. not (home_of u.each (return_place g) == u.number)) cargo.frames f x).0) (λ y. inl y) (Contains-append_cases (foreign u cargo.frames) u.away f m)

pub take_laws : TakeLaws
unfolding view_after
take_laws = record {
  found = λ u slot cargo told. told.there refl;
  words = λ u slot chain cargo p n told e. ap (λ (h : List (Option ℕ)). kept h p) (held_taken u slot cargo) ∙ and_in cargo.words u.held p n (told.within p n e) e;
  others = λ u slot chain cargo p e. ap (λ (h : List (Option ℕ)). kept h p) (held_taken u slot cargo) ∙ and_out cargo.words u.held p e;
  frames = frames;
  stay = λ u slot chain cargo f l. leased_by u slot cargo f (stay_in u cargo f l);
  were = λ u slot chain cargo f l. came_from u cargo f (by_leased u slot cargo f l);
  away = λ u slot chain cargo f m. away_from u cargo f (subst (λ (fs : List Frame). Contains fs f) (away_taken u slot cargo) m);
  exported = λ u slot chain cargo. exported_taken u slot cargo;
  chain = λ u slot chain cargo told. (chain_taken u slot cargo, (cargo.carried, chain_taken u slot cargo, ap (λ n. n.cell) told.of.0 ∙ told.of.2));
  chains = λ u slot chain cargo x m. chains_taken u slot cargo x m;
  waits = λ u c chain cargo h. seen_in c cargo.carried.wait u.hand h.0 h.1 h.2;
  names = λ u slot chain cargo name c m. names_taken u slot cargo name c m;
}
