-- A chain of the turn is found with its frames, and may be put with what the view tells of it: chains_carried.
use Rattle.std.proofs.Common.{◌≡◌, inl, inr, ⊎_elim, ℕ, ◌==◌, Bool, true, false, List, [], ◌∷◌, Option, refl, sym, ap, ◌∙◌, subst, if◌then◌else◌}
use Rattle.std.specs.List.{Contains}
use Rattle.std.proofs.lemmas.Bool.{eqb-true, eq-eqb}
use Rattle.st_base.specs.declared.chain.Chain.{Chain}
use Rattle.st_base.specs.declared.chain.Frame.{Frame}
use Rattle.st_base.specs.declared.chain.Waiting.{Waiting}
use Rattle.st_base.specs.declared.chain.Waiting.TheVariants as waits
use Rattle.st_base.specs.declared.thread.Held.{Held}
use Rattle.st_base.specs.declared.thread.Thread.{Thread}
use Rattle.st_model.specs.declared.program.Program.{Program}
use Rattle.st_model.specs.Accepted.{IsAccepted}
use Rattle.st_model.specs.Memory.{Data}
use Rattle.st_words.specs.declared.view.Cargo.{Cargo}
use Rattle.st_words.specs.declared.view.Carried.{Carried}
use Rattle.st_words.specs.declared.view.Slot.{Slot}
use Rattle.st_words.specs.declared.view.View.{View}
use Rattle.st_words.specs.Careful.{MayCarry, unit_in}
use Rattle.st_words.specs.Laws.{cargo_of}
use Rattle.st_words.specs.Steps.{Inside}
use Rattle.st_words.proofs.Carrying.{cargo_laws}
use Rattle.st_words.proofs.Lists.{contains_here, contains_later, contains_none, contains_case}
use Rattle.st_chain.specs.Walk.{word_in, is_held, named_by}
use Rattle.st_chain.specs.Threads.{AtEnd}
use Rattle.st_chain.specs.Chains.{StandsFor, saved_value, Walks}
use Rattle.st_chain.proofs.Restarting.{stands_same}
use Rattle.st_cargo.specs.Cargo.{frames_by, found, frames_of, goes_with, HasFrames, IsCarried, ChainsCarried}
use Rattle.st_cargo.proofs.Frames.{newest_frames, newest_held}
use Rattle.st_cargo.proofs.Words.{held_number, all_same}

-- ---- the chain of the turn

-- each chain of these with the number is x
abbrev IsSingle : ℕ → List Carried → Carried → Type 0
IsSingle c xs x = (y : Carried) → Contains xs y → y.known.note.cell ≡ c → y ≡ x

found_at : (b : Bool) (c : ℕ) (y : Carried) (ys : List Carried) (x : Carried) → (b ≡ true → y ≡ x) → (b ≡ false → found c ys ≡ x) → (if b then y else found c ys) ≡ x
found_at true c y ys x same later = same refl
found_at false c y ys x same later = later refl

other : (c : ℕ) (y x : Carried) → (y.known.note.cell == c) ≡ false → x.known.note.cell ≡ c → y ≡ x → ⊥
other c y x differs cell same =
    let yes = eq-eqb y.known.note.cell c (ap (λ (z : Carried). z.known.note.cell) same ∙ cell) in
    let never : ⊥ = cc in never

found_is : (c : ℕ) (xs : List Carried) (x : Carried) → Contains xs x → x.known.note.cell ≡ c → IsSingle c xs x → found c xs ≡ x
found_is c [] x there cell single = absurd (contains_none x there)
found_is c (y ∷ ys) x there cell single =
    found_at (y.known.note.cell == c) c y ys x
    (λ is. single y (contains_here y ys) (eqb-true y.known.note.cell c is))
    (λ differs. ⊎_elim (λ (same : y ≡ x). absurd (other c y x differs cell same)) (λ (later : Contains ys x). found_is c ys x later cell (λ z in' has. single z (contains_later z y ys in') has)) (contains_case x y ys there))

-- ---- its frames

frames_begun : (p : Program) (names : List (Held × ℕ)) (held : List (Option ℕ)) (wait : Waiting) (pc fp : ℕ) (value : ℕ → ℕ) (thread : Thread) (frames : List Frame) → StandsFor p names held wait pc fp value thread frames → frames_by wait p (word_in held) fp thread.activations ≡ frames
frames_begun p names held (waits.Touch cell) pc fp value thread frames (ahead, words, waiting, keeps, newest) = newest_frames p (named_by names) (is_held held) AtEnd (word_in held) thread.activations frames ahead pc fp value newest
frames_begun p names held (waits.Join cell least) pc fp value thread frames (ahead, words, waiting, keeps, newest) = newest_frames p (named_by names) (is_held held) AtEnd (word_in held) thread.activations frames ahead pc fp value newest
frames_begun p names held waits.Trapped pc fp value thread frames (ahead, words, waiting, keeps, newest) = newest_frames p (named_by names) (is_held held) AtEnd (word_in held) thread.activations frames ahead pc fp value newest
frames_begun p names held waits.Ready pc fp value thread frames (ahead, words, waiting, keeps, newest) = newest_frames p (named_by names) (is_held held) AtEnd (word_in held) thread.activations frames ahead pc fp value newest
frames_begun p names held waits.Start pc fp value thread frames (ahead, words, waiting, keeps, newest) = absurd words

held_begun : (p : Program) (names : List (Held × ℕ)) (held : List (Option ℕ)) (wait : Waiting) (pc fp : ℕ) (value : ℕ → ℕ) (thread : Thread) (frames : List Frame) (f : Frame) (q : ℕ) → StandsFor p names held wait pc fp value thread frames → Contains frames f → Inside f q → is_held held q ≡ true
held_begun p names held wait pc fp value thread frames f q (ahead, words, waiting, keeps, newest) in' inside = newest_held p (named_by names) (is_held held) AtEnd (word_in held) thread.activations frames ahead pc fp value f q newest in' inside

module _ (p : Program) (d : Data) (u : View) (slot : Slot) (chain : Chain) (x : Carried) (frames : List Frame) (accepted : IsAccepted p) (has : HasFrames p d u chain x frames) where
  -- what goes with it, by the chain of the turn and its frames
  abbrev with_frames : Carried → List Frame → Cargo
  with_frames y fs = cargo_of u y fs (unit_in slot)

  cell_is : x.known.note.cell ≡ chain.cell
  cell_is = ap (λ n. n.cell) has.note ∙ has.cell

  carried_is : found chain.cell u.chains ≡ x
  carried_is = found_is chain.cell u.chains x has.there cell_is (λ y in' cell. has.single y in' (cell ∙ sym cell_is))

  frames_found : frames_by chain.wait p (word_in u.held) chain.fp x.known.thread.activations ≡ frames
  frames_found = ⊎_elim
      (λ root. ap (λ (w : Waiting). frames_by w p (word_in u.held) chain.fp x.known.thread.activations) root.wait ∙ sym root.none)
      (λ begun. frames_begun p u.names u.held chain.wait chain.pc chain.fp (saved_value chain.saved) x.known.thread frames begun.0) has.stands

  frames_are : frames_of p u chain ≡ frames
  frames_are = ap (λ (y : Carried). frames_by chain.wait p (word_in u.held) chain.fp y.known.thread.activations) carried_is ∙ frames_found

  cargo_is : goes_with p u slot chain ≡ with_frames x frames
  cargo_is = ap (λ (y : Carried). with_frames y (frames_of p u chain)) carried_is ∙ ap (λ (fs : List Frame). with_frames x fs) frames_are

  all_held : (f : Frame) (q : ℕ) → Contains frames f → Inside f q → is_held u.held q ≡ true
  all_held f q in' inside = ⊎_elim
      (λ root. absurd (contains_none f (subst (λ (fs : List Frame). Contains fs f) root.none in')))
      (λ begun. held_begun p u.names u.held chain.wait chain.pc chain.fp (saved_value chain.saved) x.known.thread frames f q begun.0 in' inside) has.stands

  may_carry : MayCarry u chain (with_frames x frames)
  may_carry = record {
    carried = has.there;
    note = has.note;
    cell = has.cell;
    wait = has.wait;
    leased = has.leased;
    whole = λ f q in' inside. let n = held_number u.held q (all_held f q in' inside) in (n.0, cargo_laws.whole u x frames (unit_in slot) f q n.0 in' inside n.1);
    words = λ q n is. cargo_laws.words u x frames (unit_in slot) q n is;
    own = has.own;
    names = has.knows;
    known = λ name c in'. in';
  }

  walks : Walks p d chain (with_frames x frames)
  walks = (
    ⊎_elim
        (λ root. inl root)
        (λ begun. inr (stands_same u.names u.names (λ name c in'. in') p u.held (with_frames x frames).words chain.wait chain.pc chain.fp (saved_value chain.saved) (saved_value chain.saved) x.known.thread frames accepted (all_same u x frames (unit_in slot) all_held) (λ r kept. refl) begun.0, begun.1)) has.stands,
    has.begun,
  )

  is_carried : IsCarried p d u slot chain x frames
  is_carried = record {
    found_is = carried_is;
    frames_are = frames_are;
    carries = subst (MayCarry u chain) (sym cargo_is) may_carry;
    walks = subst (Walks p d chain) (sym cargo_is) walks;
  }

pub chains_carried : ChainsCarried
chains_carried p d u slot chain x frames accepted has = is_carried p d u slot chain x frames accepted has
