-- The words of frames: what a prologue stores is found again (frame_found, caller_found, return_found), and the words above its base stay
-- (frame_above). What is read of a frame, its caller's registers and its slots, is read of its words alone (saved_agrees, slots_agree).
use Rattle.std.proofs.Common.{◌≡◌, ◌≢◌, ℕ, ◌+◌, ◌-◌, ◌*◌, ◌/◌, ◌^◌, ◌<◌, ◌≤◌, Bool, true, false, ◌==◌, List, [], ◌∷◌, length, refl, ap, sym, ◌∙◌, subst, arith, if◌then◌else◌}
use Rattle.std.specs.Prelude.{◌%◌}
use Rattle.std.proofs.lemmas.Bool.{eq-eqb, ne_eqb, eqb-true}
use Rattle.st_base.specs.declared.reg.Reg.{Reg}
use Rattle.st_base.specs.declared.reg.Reg.TheVariants as registers
use Rattle.st_base.specs.Reg.{reg_number}
use Rattle.st_base.specs.declared.thread.Activation.{Activation}
use Rattle.st_model.specs.declared.program.ProgramFunction.{ProgramFunction}
use Rattle.st_model.specs.Accepted.{HasFrame}
use Rattle.st_words.specs.Steps.{place_of}
use Rattle.st_step.specs.declared.state.State.{State as MachineState}
use Rattle.st_step.specs.Moves.{register}
use Rattle.st_step.specs.Runs.{AreWords, stored, return_word, caller_word, saved_word, with_saved, with_frame}
use Rattle.st_step.specs.Frames.{Naming, IsHeldAs, value_in, HasSlots, with_saved_values}

-- ---- stored words

pub stored_same : (p n : ℕ) (word : ℕ → ℕ) → stored p n word p ≡ n
stored_same p n word = ap (λ (b : Bool). if b then n else word p) (eq-eqb p p refl)

pub stored_other : (p n : ℕ) (word : ℕ → ℕ) (q : ℕ) → q ≢ p → stored p n word q ≡ word q
stored_other p n word q other = ap (λ (b : Bool). if b then n else word q) (ne_eqb q p other)

either_fits : (b : Bool) (n m : ℕ) → n < 2 ^ 64 → m < 2 ^ 64 → (if b then n else m) < 2 ^ 64
either_fits true n m first second = first
either_fits false n m first second = second

pub stored_words : (p n : ℕ) (word : ℕ → ℕ) → n < 2 ^ 64 → AreWords word → AreWords (stored p n word)
stored_words p n word less words = λ q. either_fits (q == p) n (word q) less (words q)

-- ---- what a prologue stores

-- the saved registers are stored below this place
with_saved_above : (m : MachineState) (b k : ℕ) (rs : List Reg) (word : ℕ → ℕ) (q : ℕ) → 0x8000_0000 + 16 + 8 * (k + length rs) ≤ b → place_of (b - (16 + 8 * k)) ≤ q → with_saved m b k rs word q ≡ word q
with_saved_above m b k [] word q room above = refl
with_saved_above m b k (r ∷ rs) word q room above =
    let other : q ≢ saved_word b k = omega arith in
    with_saved_above m b (k + 1) rs (stored (saved_word b k) (register m r) word) q (omega arith) (omega arith)
    ∙ stored_other (saved_word b k) (register m r) word q other

either_is : (b : Bool) (n m v : ℕ) → (b ≡ true → n ≡ v) → m ≡ v → (if b then n else m) ≡ v
either_is true n m v same rest = same refl
either_is false n m v same rest = rest

saved_found : (m : MachineState) (b k : ℕ) (rs : List Reg) (word value : ℕ → ℕ) (x : ℕ) → 0x8000_0000 + 16 + 8 * (k + length rs) ≤ b → value x ≡ value_in m x → with_saved_values (with_saved m b k rs word) b k rs value x ≡ value_in m x
saved_found m b k [] word value x room same = same
saved_found m b k (r ∷ rs) word value x room same =
    let more = stored (saved_word b k) (register m r) word in
    let later : 0x8000_0000 + 16 + 8 * (k + 1 + length rs) ≤ b = omega arith in
    let above : place_of (b - (16 + 8 * (k + 1))) ≤ saved_word b k = omega arith in
    either_is (reg_number r == x) (with_saved m b (k + 1) rs more (saved_word b k)) _ (value_in m x)
    (λ e. with_saved_above m b (k + 1) rs more (saved_word b k) later above ∙ stored_same (saved_word b k) (register m r) word ∙ ap (λ (y : ℕ). value_in m y) (eqb-true (reg_number r) x e))
    (saved_found m b (k + 1) rs more value x later same)

-- a register that the body hasn't changed has the value that it had before the prologue
pub frame_found : (m : MachineState) (b : ℕ) (rs : List Reg) (word value : ℕ → ℕ) (x : ℕ) → 0x8000_0000 + 16 + 8 * length rs ≤ b → value x ≡ value_in m x → with_saved_values (with_frame m b rs word) b 0 rs value x ≡ value_in m x
frame_found m b rs word value x room same = saved_found m b 0 rs (stored (caller_word b) (register m registers.S0) (stored (return_word b) (register m registers.Ra) word)) value x (omega arith) same

pub caller_found : (m : MachineState) (b : ℕ) (rs : List Reg) (word : ℕ → ℕ) → 0x8000_0000 + 16 + 8 * length rs ≤ b → with_frame m b rs word (caller_word b) ≡ register m registers.S0
caller_found m b rs word room =
    let first = stored (return_word b) (register m registers.Ra) word in
    with_saved_above m b 0 rs (stored (caller_word b) (register m registers.S0) first) (caller_word b) (omega arith) (omega arith)
    ∙ stored_same (caller_word b) (register m registers.S0) first

pub return_found : (m : MachineState) (b : ℕ) (rs : List Reg) (word : ℕ → ℕ) → 0x8000_0000 + 16 + 8 * length rs ≤ b → with_frame m b rs word (return_word b) ≡ register m registers.Ra
return_found m b rs word room =
    let first = stored (return_word b) (register m registers.Ra) word in
    let other : return_word b ≢ caller_word b = omega arith in
    with_saved_above m b 0 rs (stored (caller_word b) (register m registers.S0) first) (return_word b) (omega arith) (omega arith)
    ∙ stored_other (caller_word b) (register m registers.S0) first (return_word b) other
    ∙ stored_same (return_word b) (register m registers.Ra) word

pub frame_above : (m : MachineState) (b : ℕ) (rs : List Reg) (word : ℕ → ℕ) (q : ℕ) → 0x8000_0000 + 16 + 8 * length rs ≤ b → place_of b ≤ q → with_frame m b rs word q ≡ word q
frame_above m b rs word q room above =
    let first = stored (return_word b) (register m registers.Ra) word in
    let one : q ≢ caller_word b = omega arith in
    let two : q ≢ return_word b = omega arith in
    with_saved_above m b 0 rs (stored (caller_word b) (register m registers.S0) first) q (omega arith) (omega arith)
    ∙ stored_other (caller_word b) (register m registers.S0) first q one
    ∙ stored_other (return_word b) (register m registers.Ra) word q two

with_saved_words : (m : MachineState) (b k : ℕ) (rs : List Reg) (word : ℕ → ℕ) → ((x : ℕ) → value_in m x < 2 ^ 64) → AreWords word → AreWords (with_saved m b k rs word)
with_saved_words m b k [] word values words = words
with_saved_words m b k (r ∷ rs) word values words =
    with_saved_words m b (k + 1) rs (stored (saved_word b k) (register m r) word) values (stored_words (saved_word b k) (register m r) word (values (reg_number r)) words)

pub frame_words : (m : MachineState) (b : ℕ) (rs : List Reg) (word : ℕ → ℕ) → ((x : ℕ) → value_in m x < 2 ^ 64) → AreWords word → AreWords (with_frame m b rs word)
frame_words m b rs word values words =
    let first = stored (return_word b) (register m registers.Ra) word in
    with_saved_words m b 0 rs (stored (caller_word b) (register m registers.S0) first) values
    (stored_words (caller_word b) (register m registers.S0) first (values 8) (stored_words (return_word b) (register m registers.Ra) word (values 1) words))

-- ---- what is read of a frame

-- the caller's registers, by words that agree in the frame
pub saved_agrees : (word word' : ℕ → ℕ) (low b k : ℕ) (rs : List Reg) (value value' : ℕ → ℕ) (x : ℕ) → ((q : ℕ) → place_of low ≤ q → q < place_of b → word q ≡ word' q) → 0x8000_0000 ≤ low → low + 16 + 8 * (k + length rs) ≤ b → value x ≡ value' x
    → with_saved_values word b k rs value x ≡ with_saved_values word' b k rs value' x
saved_agrees word word' low b k [] value value' x agree above room same = same
saved_agrees word word' low b k (r ∷ rs) value value' x agree above room same =
    let inside : place_of low ≤ saved_word b k = omega arith in
    let under : saved_word b k < place_of b = omega arith in
    ap (λ (n : ℕ). if reg_number r == x then n else with_saved_values word b (k + 1) rs value x) (agree (saved_word b k) inside under)
    ∙ ap (λ (n : ℕ). if reg_number r == x then word' (saved_word b k) else n) (saved_agrees word word' low b (k + 1) rs value value' x agree above (omega arith) same)

-- the slots
pub slots_agree : (names : Naming) (function : ProgramFunction) (a : Activation) (word word' : ℕ → ℕ) (low : ℕ) → HasFrame function → 0x8000_0000 ≤ low → ((q : ℕ) → place_of low ≤ q → q < place_of (low + function.frame_bytes) → word q ≡ word' q) → HasSlots names function a word low → HasSlots names function a word' low
slots_agree names function a word word' low frame above agree slots =
    let room = frame.room in
    let least = frame.least in
    record {
      bytes_long = slots.bytes_long;
      handles_long = slots.handles_long;
      bytes = λ k v first most there.
          let inside : place_of low ≤ place_of (low + k) = omega arith in
          let under : place_of (low + k) < place_of (low + function.frame_bytes) = omega arith in
          ap (λ (n : ℕ). n / 2 ^ (8 * ((low + k) % 8)) % 256) (sym (agree (place_of (low + k)) inside under)) ∙ slots.bytes k v first most there;
      handles = λ k held most there.
          let inside : place_of low ≤ place_of low + k = omega arith in
          let under : place_of low + k < place_of (low + function.frame_bytes) = omega arith in
          subst (λ (n : ℕ). IsHeldAs names held n) (agree (place_of low + k) inside under) (slots.handles k held most there);
    }
