-- The first item that reads an undefined place: one item of a group (bad_here, none_here), the items of a group (none_more), and group
-- after group (group_more, first_all, none_all).
use Rattle.std.proofs.Common.{◌≡◌, ℕ, ◌+◌, ◌-◌, ◌*◌, ◌/◌, ◌^◌, ◌<◌, ◌≤◌, Bool, true, false, ◌==◌, List, length, Option, Some, None, refl, sym, subst, arith}
use Rattle.std.proofs.lemmas.Bool.Decides.{Decides-ltb}
use Rattle.std.specs.Prelude.{nat_lt, slice_get, slice_index, bit_and, IfSome, IfNone}
use Rattle.std.specs.Int.{bit_at, w64, trailing_zeros}
use Rattle.std.proofs.lemmas.Nat.{and_le_l}
use Rattle.std.proofs.lemmas.Nat.Bits.{bit_at-trailing_zeros}
use Rattle.std.proofs.lemmas.Option.{slice_get_within}
use Rattle.st_model.specs.declared.program.Program.{Program}
use Rattle.st_model.specs.declared.program.ProgramFunction.{ProgramFunction}
use Rattle.st_model.specs.declared.program.Item.{Item}
use Rattle.st_model.specs.Flow.{reads}
use Rattle.st_model.specs.Accepted.{IsFormed}
use Rattle.st_flow.specs.declared.flow.Hit.{Hit}
use Rattle.st_flow.specs.Places.{IsWord}
use Rattle.st_flow.specs.Undefined.{ReadsPlace}
use Rattle.st_flow.specs.Tables.{AreUndefined, IsBad, callee_argument}
use Rattle.st_flow.proofs.Bits.{and_bit, both_bits, zero_bit}
use Rattle.st_flow.proofs.TableRows.{one_more}
use Rattle.st_flow.proofs.Reading.{read_within}

-- ---- two words

pub shared_none : (s r : ℕ) → bit_and s r ≡ 0 → (b : ℕ) → bit_at s b ≡ 1 → bit_at r b ≡ 1 → ⊥
shared_none s r e b x y = zero_bit b (subst (λ v. bit_at v b ≡ 1) e (both_bits s r b x y))

pub shared_there : (s r : ℕ) → (bit_and s r ≡ 0 → ⊥) → s < 2 ^ 64 → (trailing_zeros w64 (bit_and s r) < 64) × (bit_at s (trailing_zeros w64 (bit_and s r)) ≡ 1) × (bit_at r (trailing_zeros w64 (bit_and s r)) ≡ 1)
shared_there s r ne small =
    let some : 0 < bit_and s r = omega arith in
    let low : bit_and s r < 2 ^ 64 = let l = and_le_l s r in omega arith in
    let t = bit_at-trailing_zeros w64 (bit_and s r) some low in
    let two = and_bit s r (trailing_zeros w64 (bit_and s r)) t.1 in
    (t.0, two.0, two.1)

-- ---- one item

reads_item : (p : Program) (function : ProgramFunction) (i x : ℕ) (item : Item) → slice_get function.items i ≡ Some item → ReadsPlace p function i x → reads p function.frame_bytes item.kind x ≡ true
reads_item p function i x item here read =
    let same : read.0 ≡ item = let a = read.1 in cc in
    subst (λ y. reads p function.frame_bytes y.kind x ≡ true) same read.2

pub bad_here : (p : Program) (function : ProgramFunction) (sets : List ℕ) (read g i x limit : ℕ) (item : Item) → slice_get function.items i ≡ Some item → AreUndefined function g sets → IsWord read g (reads p function.frame_bytes item.kind) → i < limit → g < 2 ^ 32 → (b : ℕ) × (b < 64) × (x ≡ 64 * g + b) × (bit_at (slice_index sets i) b ≡ 1) × (bit_at read b ≡ 1) → (i < limit) × (x < 2 ^ 38) × IsBad p function i x
bad_here p function sets read g i x limit item here exact word less low s =
    let near = s.1 in
    let at = s.2 in (
      less,
      omega arith,
      subst (λ y. IsBad p function i y) (sym s.2) ((exact i s.0 s.1).0 s.3, (item, here, (word s.0 s.1).0 s.4)),
    )

none_here : (p : Program) (function : ProgramFunction) (sets : List ℕ) (read g i : ℕ) (item : Item) → slice_get function.items i ≡ Some item → AreUndefined function g sets → IsWord read g (reads p function.frame_bytes item.kind) → ((b : ℕ) → bit_at (slice_index sets i) b ≡ 1 → bit_at read b ≡ 1 → ⊥) → (b : ℕ) → b < 64 → IsBad p function i (64 * g + b) → ⊥
none_here p function sets read g i item here exact word never b lt bad =
    never b ((exact i b lt).1 bad.0) ((word b lt).1 (reads_item p function i (64 * g + b) item here bad.1))

pub none_more : (p : Program) (function : ProgramFunction) (sets : List ℕ) (read g i : ℕ) (item : Item) → slice_get function.items i ≡ Some item → AreUndefined function g sets → IsWord read g (reads p function.frame_bytes item.kind) → ((b : ℕ) → bit_at (slice_index sets i) b ≡ 1 → bit_at read b ≡ 1 → ⊥) → ((j b : ℕ) → b < 64 → j < i → IsBad p function j (64 * g + b) → ⊥) → (j b : ℕ) → b < 64 → j < i + 1 → IsBad p function j (64 * g + b) → ⊥
none_more p function sets read g i item here exact word never passed j b lt near bad =
    one_more j i (j == i) refl near (λ less. passed j b lt less bad) (λ same. none_here p function sets read g i item here exact word never b lt (subst (λ x. IsBad p function x (64 * g + b)) same bad))

pub unread_more : (p : Program) (function : ProgramFunction) (read g i : ℕ) (item : Item) → slice_get function.items i ≡ Some item → IsWord read g (reads p function.frame_bytes item.kind) → read ≡ 0 → ((j b : ℕ) → b < 64 → j < i → ReadsPlace p function j (64 * g + b) → ⊥) → (j b : ℕ) → b < 64 → j < i + 1 → ReadsPlace p function j (64 * g + b) → ⊥
unread_more p function read g i item here word none passed j b lt near reads =
    one_more j i (j == i) refl near (λ less. passed j b lt less reads)
    (λ same.
    let bit = (word b lt).1 (reads_item p function i (64 * g + b) item here (subst (λ x. ReadsPlace p function x (64 * g + b)) same reads)) in
    zero_bit b (subst (λ v. bit_at v b ≡ 1) none bit))

-- ---- group after group

place_parts : (x g : ℕ) → x < 64 * (g + 1) → (x < 64 * g → ⊥) → (b : ℕ) × (b < 64) × (x ≡ 64 * g + b)
place_parts x g near far = (x - 64 * g, omega arith, omega arith)

group_by : {P : Type 0} (x g : ℕ) (w : Bool) → nat_lt x (64 * g) ≡ w → x < 64 * (g + 1) → (x < 64 * g → P) → ((b : ℕ) → b < 64 → x ≡ 64 * g + b → P) → P
group_by x g true e near before here = before ((Decides-ltb x (64 * g)).0 e)
group_by x g false e near before here =
    let m = place_parts x g near (λ lt. let t = (Decides-ltb x (64 * g)).1 lt in absurd (cc)) in
    here m.0 m.1 m.2

pub group_more : (Bad : ℕ → ℕ → Type 0) (g limit less i x : ℕ) → less ≤ limit → ((i x : ℕ) → x < 64 * g → i < limit → Bad i x → ⊥) → ((i b : ℕ) → b < 64 → i < less → Bad i (64 * g + b) → ⊥) → x < 64 * (g + 1) → i < less → Bad i x → ⊥
group_more Bad g limit less i x le passed new near lt bad =
    group_by x g (nat_lt x (64 * g)) refl near (λ before. passed i x before (omega arith) bad) (λ b low at. new i b low lt (subst (Bad i) at bad))

bad_within : (p : Program) (function : ProgramFunction) (i x end g : ℕ) → IsFormed p function → 32 + function.frame_bytes ≤ end → ((i x : ℕ) (item : Item) → slice_get function.items i ≡ Some item → callee_argument p item.kind x ≡ true → x < end) → (end + 63) / 64 ≤ g → IsBad p function i x → x < 64 * g
bad_within p function i x end g formed room callee all bad =
    let lt = read_within p function i x end formed room callee bad.1 in
    omega arith

pub first_all : (p : Program) (function : ProgramFunction) (best : Option Hit) (limit end g : ℕ) → IsFormed p function → 32 + function.frame_bytes ≤ end → ((i x : ℕ) (item : Item) → slice_get function.items i ≡ Some item → callee_argument p item.kind x ≡ true → x < end) → (end + 63) / 64 ≤ g → IfSome best (λ hit. (limit ≡ hit.item) × (hit.place < 2 ^ 38) × IsBad p function hit.item hit.place) → ((i x : ℕ) → x < 64 * g → i < limit → IsBad p function i x → ⊥) → IfSome best (λ hit. (i x : ℕ) → i < hit.item → IsBad p function i x → ⊥)
first_all p function None limit end g formed room callee all h passed = tt
first_all p function (Some hit) limit end g formed room callee all h passed =
    let e = h.0 in
    λ i x lt bad. passed i x (bad_within p function i x end g formed room callee all bad) (omega arith) bad

pub none_all : (p : Program) (function : ProgramFunction) (best : Option Hit) (limit end g : ℕ) → IsFormed p function → 32 + function.frame_bytes ≤ end → ((i x : ℕ) (item : Item) → slice_get function.items i ≡ Some item → callee_argument p item.kind x ≡ true → x < end) → (end + 63) / 64 ≤ g → IfNone best (limit ≡ length function.items) → ((i x : ℕ) → x < 64 * g → i < limit → IsBad p function i x → ⊥) → IfNone best ((i x : ℕ) → IsBad p function i x → ⊥)
none_all p function (Some hit) limit end g formed room callee all h passed = tt
none_all p function None limit end g formed room callee all h passed =
    λ i x bad.
    let lt = slice_get_within function.items i bad.1.0 bad.1.1 in
    passed i x (bad_within p function i x end g formed room callee all bad) (omega arith) bad

pub bad_found : (p : Program) (function : ProgramFunction) (best : Option Hit) (limit : ℕ) → IfSome best (λ hit. (limit ≡ hit.item) × (hit.place < 2 ^ 38) × IsBad p function hit.item hit.place) → IfSome best (λ hit. (hit.place < 2 ^ 38) × IsBad p function hit.item hit.place)
bad_found p function None limit h = tt
bad_found p function (Some hit) limit h = (h.1, h.2)

-- ---- one group, as the loop takes it

-- the answer for a group, by cases
abbrev pub BadIn : Program → ProgramFunction → ℕ → Hit → Type 0
BadIn p function limit hit = (hit.item < limit) × (hit.place < 2 ^ 38) × IsBad p function hit.item hit.place

pub record Passed (p : Program) (function : ProgramFunction) (best : Option Hit) (limit g : ℕ) : Type 0 where
  pub within : limit ≤ length function.items
  pub bad : IfSome best (λ hit. (limit ≡ hit.item) × (hit.place < 2 ^ 38) × IsBad p function hit.item hit.place)
  pub all : IfNone best (limit ≡ length function.items)
  pub passed : (i x : ℕ) → x < 64 * g → i < limit → IsBad p function i x → ⊥

pub passed_some : (p : Program) (function : ProgramFunction) (best new r : Option Hit) (limit limit' g : ℕ) (hit : Hit) → Passed p function best limit g → r ≡ Some hit → new ≡ Some hit → limit' ≡ hit.item → IfSome r (λ hit. BadIn p function limit hit) → IfSome r (λ hit. (i b : ℕ) → b < 64 → i < hit.item → IsBad p function i (64 * g + b) → ⊥) → Passed p function new limit' (g + 1)
passed_some p function best new r limit limit' g hit h is here e bad first =
    let b = subst (λ o. IfSome o (λ hit. BadIn p function limit hit)) is bad in
    let f = subst (λ o. IfSome o (λ hit. (i b : ℕ) → b < 64 → i < hit.item → IsBad p function i (64 * g + b) → ⊥)) is first in
    let less = b.0 in
    subst (λ o. Passed p function o limit' (g + 1)) (sym here)
    record {
      within = let k = h.within in omega arith;
      bad = (e, b.1, b.2);
      all = tt;
      passed = λ i x near lt bad. group_more (IsBad p function) g limit hit.item i x (omega arith) h.passed f near (omega arith) bad;
    }

pub passed_none : (p : Program) (function : ProgramFunction) (best new r : Option Hit) (limit limit' g : ℕ) → Passed p function best limit g → r ≡ None → new ≡ best → limit' ≡ limit → IfNone r ((i b : ℕ) → b < 64 → i < limit → IsBad p function i (64 * g + b) → ⊥) → Passed p function new limit' (g + 1)
passed_none p function best new r limit limit' g h is here e none =
    let f = subst (λ o. IfNone o ((i b : ℕ) → b < 64 → i < limit → IsBad p function i (64 * g + b) → ⊥)) is none in
    subst (λ o. Passed p function o limit' (g + 1)) (sym here)
    (subst (λ l. Passed p function best l (g + 1)) (sym e)
    record {
      within = h.within;
      bad = h.bad;
      all = h.all;
      passed = λ i x near lt bad. group_more (IsBad p function) g limit limit i x (omega arith) h.passed f near lt bad;
    })
