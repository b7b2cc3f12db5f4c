-- A run of instructions as a function (ran, put together by the steps of Straight), and the path that it takes: run over code of which all but some
-- words is cut away (cut), it goes through these words alone (path-cut). Read stretch (a stretch that is run from its first word) and has-cut (the
-- code that is left).
use Rattle.std.proofs.Common.{◌≡◌, ℕ, zero, suc, ◌+◌, ◌-◌, ◌*◌, ◌/◌, ◌%◌, ◌<◌, ◌≤◌, Bool, true, false, ◌&&◌, ◌==◌, nat_le, nat_lt, List, [], ◌∷◌, length, Option, Some, None, option_and_then, refl, ap, sym, ◌∙◌, subst, arith, if◌then◌else◌}
use Rattle.std.proofs.lemmas.Bool.{and_from, leb-true, le-leb, ltb-true, lt-ltb, eqb-true}
use Rattle.st_rv.specs.declared.ins.Ins.{Ins}
use Rattle.st_rv.proofs.Apart.{both_true}
use Rattle.st_model.specs.Memory.{Data}
use Rattle.st_model.specs.declared.code.PostedIns.{PostedIns}
use Rattle.st_step.specs.Moves.{move_of}
use Rattle.st_step.specs.Runs.{Situation, moved, moved_by, HasCode, IsAmong, Path, RunsStretch}

-- so many instructions, each the one at the pc, of which each speaks of held words alone
unfoldable pub ran : Data → (ℕ → Option Ins) → (ℕ → Bool) → ℕ → Situation → Option Situation
ran d code held zero s = Some s
ran d code held (suc n) s = option_and_then (ran d code held n) (moved_by d held s (code s.state.pc))

-- ---- code that is cut to some words

abbrev pub is_among : ℕ → ℕ → ℕ → Bool
is_among from words place = nat_le from place && (nat_lt place (from + 4 * words) && ((place - from) % 4 == 0))

abbrev kept : Bool → Option Ins → Option Ins
kept b i = if b then i else None

-- the code of so many words from an address on, and no other
abbrev pub cut : (ℕ → Option Ins) → ℕ → ℕ → ℕ → Option Ins
cut code from words place = kept (is_among from words place) (code place)

among_is : (from words place : ℕ) → is_among from words place ≡ true → IsAmong from words place
among_is from words place is =
    let parts = both_true (nat_le from place) (nat_lt place (from + 4 * words) && ((place - from) % 4 == 0)) is in
    let later = both_true (nat_lt place (from + 4 * words)) ((place - from) % 4 == 0) parts.1 in
    let above = leb-true from place parts.0 in
    let below = ltb-true place (from + 4 * words) later.0 in
    let fours = eqb-true ((place - from) % 4) 0 later.1 in
    record { k = (place - from) / 4; few = omega arith; at = omega arith }

is_kept : (from words place j : ℕ) → place ≡ from + 4 * j → j < words → is_among from words place ≡ true
is_kept from words place j at few =
    let above : from ≤ place = omega arith in
    let below : place < from + 4 * words = omega arith in
    let fours : (place - from) % 4 ≡ 0 = omega arith in
    and_from _ _ (le-leb from place above) (and_from _ _ (lt-ltb place (from + 4 * words) below) (ap (λ (n : ℕ). n == 0) fours))

-- the code that is left
pub has-cut : (code : ℕ → Option Ins) (from words pc at : ℕ) (is : List PostedIns) (j : ℕ) → pc ≡ from + 4 * j → j + length is ≤ words → HasCode code pc at is → HasCode (cut code from words) pc at is
has-cut code from words pc at [] j place few has = tt
has-cut code from words pc at (i ∷ is) j place few ((x, local, there), rest) =
    let in_words : j < words = omega arith in
    let next : pc + 4 ≡ from + 4 * (j + 1) = omega arith in
    let fewer : j + 1 + length is ≤ words = omega arith in
    ((x, local, ap (λ (b : Bool). kept b (code pc)) (is_kept from words pc j place in_words) ∙ there), has-cut code from words (pc + 4) (at + 1) is (j + 1) next fewer rest)

-- ---- the path of a run

goes_on_by : (d : Data) (code : ℕ → Option Ins) (held : ℕ → Bool) (from words n : ℕ) (t : Situation) (f : Situation → Option Situation) (m : Option Situation) → ((u : Situation) → f u ≡ Some t → Path d code held from words n u t) → option_and_then f m ≡ Some t
    → (u : Situation) × (m ≡ Some u) × Path d code held from words n u t
goes_on_by d code held from words n t f None rest goes = absurd (let never : ⊥ = cc in never)
goes_on_by d code held from words n t f (Some u) rest goes = (u, refl, rest u goes)

goes_among : (d : Data) (code : ℕ → Option Ins) (held : ℕ → Bool) (from words n : ℕ) (s t : Situation) (f : Situation → Option Situation) (b : Bool) → is_among from words s.state.pc ≡ b → ((u : Situation) → f u ≡ Some t → Path d code held from words n u t)
    → option_and_then f (moved_by d held s (kept b (code s.state.pc))) ≡ Some t → Path d code held from words (suc n) s t
goes_among d code held from words n s t f true is rest goes = (among_is from words s.state.pc is, goes_on_by d code held from words n t f (moved_by d held s (code s.state.pc)) rest goes)
goes_among d code held from words n s t f false is rest goes = absurd (let never : ⊥ = cc in never)

pub path-cut : (d : Data) (code : ℕ → Option Ins) (held : ℕ → Bool) (from words n : ℕ) (s t : Situation) → ran d (cut code from words) held n s ≡ Some t → Path d code held from words n s t
unfolding ran
path-cut d code held from words zero s t goes = let same : s ≡ t = cc in same
path-cut d code held from words (suc n) s t goes =
    goes_among d code held from words n s t (ran d (cut code from words) held n) (is_among from words s.state.pc) refl (λ u on. path-cut d code held from words n u t on) goes

-- a stretch is run: its first instruction, and the rest behind it
pub stretch : (d : Data) (code : ℕ → Option Ins) (held : ℕ → Bool) (words behind n count : ℕ) (s u t : Situation) (i : Ins) → words - 1 ≡ behind → count ≡ suc n → code s.state.pc ≡ Some i → moved held s (move_of d s.state i) ≡ Some u
    → ran d (cut code (s.state.pc + 4) behind) held n u ≡ Some t → RunsStretch d code held words count s t
stretch d code held words behind n count s u t i most counts here does goes = record {
  rest = n;
  counts = counts;
  first = u;
  begins = ap (moved_by d held s) here ∙ does;
  path = subst (λ (k : ℕ). Path d code held (s.state.pc + 4) k n u t) (sym most) (path-cut d code held (s.state.pc + 4) behind n u t goes);
}
