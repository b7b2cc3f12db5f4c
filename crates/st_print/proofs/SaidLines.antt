-- What the lines of a unit's text say, line by line (unit_saids), and that each is read so (unit-read), where the unit is Sound: each
-- operand that names a place has a label. sound-unit says that a unit whose operands name what is there is sound.
use Rattle.std.proofs.Common.{ℕ, suc, ◌≡◌, ◌+◌, ◌^◌, ◌<◌, ◌≤◌, Bool, true, false, ◌||◌, List, [], ◌∷◌, ◌++◌, length, refl, ap, ◌∙◌, arith, nat_eq, Option, Some, None, is_some, pos, neg_ℤ}
use Rattle.std.specs.Prelude.{◌≤ℤ◌, ◌<ℤ◌, All}
use Rattle.st_rv.specs.declared.ins.OpKind.TheVariants as kinds
use Rattle.st_rv.specs.Op.{kind_of}
use Rattle.st_rv.specs.Rows.{FitsTable}
use Rattle.st_line.specs.declared.source.Target.{Target}
use Rattle.st_line.specs.declared.source.Target.TheVariants as targets
use Rattle.st_line.specs.declared.source.SourceIns.{SourceIns}
use Rattle.st_line.specs.declared.source.SourceIns.TheVariants as source
use Rattle.st_line.specs.declared.source.Statement.TheVariants as statements
use Rattle.st_line.specs.Operands.{is_name}
use Rattle.st_asm.specs.declared.unit.SourceLine.{SourceLine}
use Rattle.st_asm.specs.declared.unit.Function.{Function}
use Rattle.st_asm.specs.Labels.{is_local, is_entry, is_named as is_listed}
use Rattle.st_asm.specs.Unit.{IsPlace, IsTarget, IsInstruction, IsFunction, IsUnit}
use Rattle.st_print.specs.Spots.{is_spot, is_target, target_named, is_named_in, is_named, spots_of, spot_number}
use Rattle.st_print.specs.Canonical.{Piece, label_text, numbered_label, target_text, label_line, spot_line, spot_lines, ins_pieces, item_lines, function_lines, functions_lines, byte_lines, data_lines, needs_data, unit_lines}
use Rattle.st_print.specs.Rereading.{names_of, IsInCode, IsInData, NamesThings, AllNameThings}
use Rattle.st_print.proofs.Lexing.{AreLines}
use Rattle.st_print.proofs.WordsRead.{label-name}
use Rattle.st_print.proofs.LineShapes.{Said, IsRead, read-label}
use Rattle.st_print.proofs.LineShapes.Said.{Labels, States}
use Rattle.st_print.proofs.StatementsRead.{written, Readable, instruction-read, arguments-read, handles-read, section-read, byte-read}
use Rattle.st_print.proofs.SpotsFound.{number-at, number-same, spots-tell}
use Rattle.st_line.proofs.Runs.{true-and, or-first, or-second}

-- ---- what the lines say

abbrev pub spot_said : Option ℕ → List Said
spot_said None = []
spot_said (Some k) = Labels (label_text k) ∷ []

abbrev pub spot_saids : List Target → Target → List Said
spot_saids spots spot = spot_said (spot_number spots spot)

abbrev pub item_saids : List Target → ℕ → ℕ → List SourceLine → List Said
item_saids spots f i [] = spot_saids spots (targets.Place f i)
item_saids spots f i (item ∷ items) = spot_saids spots (targets.Place f i) ++ States (statements.Instruction (written spots item.ins)) ∷ item_saids spots f (i + 1) items

abbrev pub function_saids : List Target → ℕ → Function → List Said
function_saids spots f g = Labels g.name ∷ States (statements.Arguments g.ints g.handles) ∷ States (statements.Handles g.slots) ∷ item_saids spots f 0 g.items

abbrev pub functions_saids : List Target → ℕ → List Function → List Said
functions_saids spots f [] = []
functions_saids spots f (g ∷ gs) = function_saids spots f g ++ functions_saids spots (f + 1) gs

abbrev pub byte_saids : List Target → ℕ → List ℕ → List Said
byte_saids spots at [] = spot_saids spots (targets.Data at)
byte_saids spots at (b ∷ bs) = spot_saids spots (targets.Data at) ++ States (statements.Data (b ∷ [])) ∷ byte_saids spots (at + 1) bs

abbrev pub data_saids : Bool → List Target → List ℕ → List Said
data_saids false spots rodata = []
data_saids true spots rodata = States statements.Rodata ∷ byte_saids spots 0 rodata

abbrev pub unit_saids : Bool → List Target → List Function → List ℕ → List Said
unit_saids needed spots functions rodata = functions_saids spots 0 functions ++ data_saids needed spots rodata

-- ---- lines that are read as what they say

abbrev pub AreRead : List (List Piece) → List Said → Type 0
AreRead [] [] = Unit {0}
AreRead (line ∷ lines) (s ∷ ss) = IsRead line s × AreRead lines ss
AreRead _ _ = ⊥

read-append : (ls ms : List (List Piece)) (ss ts : List Said) → AreRead ls ss → AreRead ms ts → AreRead (ls ++ ms) (ss ++ ts)
read-append [] ms [] ts h k = k
read-append [] ms (s ∷ ss) ts h k = elim h [ ]
read-append (l ∷ ls) ms [] ts h k = elim h [ ]
read-append (l ∷ ls) ms (s ∷ ss) ts h k = (h.0, read-append ls ms ss ts h.1 k)

pub read-apart : (ls : List (List Piece)) (ss : List Said) → AreRead ls ss → AreLines ls
read-apart [] [] h = tt
read-apart [] (s ∷ ss) h = tt
read-apart (l ∷ ls) [] h = elim h [ ]
read-apart (l ∷ ls) (s ∷ ss) h = (h.0.apart, read-apart ls ss h.1)

-- ---- each of a list

abbrev pub Each : {X : Type 0} → (X → Type 0) → List X → Type 0
Each P [] = Unit {0}
Each P (x ∷ xs) = P x × Each P xs

pub each-from : {X : Type 0} → (P : X → Type 0) (xs : List X) → All P xs → Each P xs
each-from P [] h = tt
each-from P (x ∷ xs) h = (h 0 x (omega arith), each-from P xs (λ k d l. h (suc k) d (omega arith)))

pub each-map : {X : Type 0} → (P Q : X → Type 0) → ((x : X) → P x → Q x) → (xs : List X) → Each P xs → Each Q xs
each-map P Q f [] h = tt
each-map P Q f (x ∷ xs) h = (f x h.0, each-map P Q f xs h.1)

each-three : {X : Type 0} → (P Q R S : X → Type 0) → ((x : X) → P x → Q x → R x → S x) → (xs : List X) → Each P xs → Each Q xs → Each R xs → Each S xs
each-three P Q R S f [] h k l = tt
each-three P Q R S f (x ∷ xs) h k l = (f x h.0 k.0 l.0, each-three P Q R S f xs h.1 k.1 l.1)

-- ---- units whose operands have labels

pub record HasLabel (spots : List Target) (to : Target) : Type 0 where
  pub number : ℕ
  pub small : number < 2 ^ 64
  pub there : spot_number spots to ≡ Some number
  pub text : target_text spots to ≡ label_text number

abbrev pub Sound : List (List ℕ) → List Target → SourceIns → Type 0
Sound names spots (source.Plain i) = FitsTable i × (kind_of i.op ≡ kinds.Branch → ⊥) × (kind_of i.op ≡ kinds.Jump → ⊥)
Sound names spots (source.Li rd value) = (neg_ℤ (pos (2 ^ 31)) ≤ℤ value) × (value <ℤ pos (2 ^ 31))
Sound names spots (source.La rd to) = HasLabel spots to
Sound names spots (source.Branch op rs1 rs2 to) = (kind_of op ≡ kinds.Branch) × HasLabel spots to
Sound names spots (source.Jump to) = HasLabel spots to
Sound names spots (source.Call name) = (is_name name ≡ true) × ((is_listed name names || is_entry name) ≡ true)
Sound names spots source.Ret = Unit {0}
Sound names spots (source.Fork handle) = Unit {0}

pub record IsSound (names : List (List ℕ)) (spots : List Target) (g : Function) : Type 0 where
  pub name : is_name g.name ≡ true
  pub shared : is_local g.name ≡ false
  pub free : is_entry g.name ≡ false
  pub ints : g.ints ≤ 6
  pub handles : g.handles ≤ 2
  pub slots : g.slots ≤ 252
  pub items : Each (λ item. Sound names spots item.ins) g.items

named-text : (spots : List Target) (to : Target) → HasLabel spots to → is_name (target_text spots to) ≡ true
named-text spots to h = ap is_name h.text ∙ label-name h.number h.small

sound-readable : (names : List (List ℕ)) (spots : List Target) (ins : SourceIns) → Sound names spots ins → Readable spots ins
sound-readable names spots (source.Plain i) h = h
sound-readable names spots (source.Li rd value) h = h
sound-readable names spots (source.La rd to) h = named-text spots to h
sound-readable names spots (source.Branch op rs1 rs2 to) h = (h.0, named-text spots to h.1)
sound-readable names spots (source.Jump to) h = named-text spots to h
sound-readable names spots (source.Call name) h = h.0
sound-readable names spots source.Ret h = tt
sound-readable names spots (source.Fork handle) h = tt

-- ---- the lines of a sound unit

-- each number of a spot is small
abbrev pub AreFew : List Target → Type 0
AreFew spots = length spots ≤ 1048577

pub number-small : (spots : List Target) (p : Target) (k : ℕ) → AreFew spots → spot_number spots p ≡ Some k → k < 2 ^ 64
number-small spots p k few h = let r = number-at 0 p spots k h in omega arith

spot-line : (k : ℕ) → k < 2 ^ 64 → IsRead (label_line (label_text k)) (Labels (label_text k))
spot-line k h = read-label (label_text k) (label-name k h)

spot-read : (o : Option ℕ) → ((k : ℕ) → o ≡ Some k → k < 2 ^ 64) → AreRead (spot_line o) (spot_said o)
spot-read None h = tt
spot-read (Some k) h = (spot-line k (h k refl), tt)

spots-read : (spots : List Target) (p : Target) → AreFew spots → AreRead (spot_lines spots p) (spot_saids spots p)
spots-read spots p few = spot-read (spot_number spots p) (λ k e. number-small spots p k few e)

items-read : (names : List (List ℕ)) (spots : List Target) → AreFew spots → (f i : ℕ) (items : List SourceLine) → Each (λ item. Sound names spots item.ins) items → AreRead (item_lines spots f i items) (item_saids spots f i items)
items-read names spots few f i [] h = spots-read spots (targets.Place f i) few
items-read names spots few f i (item ∷ items) h =
    read-append (spot_lines spots (targets.Place f i)) (ins_pieces spots item.ins ∷ item_lines spots f (i + 1) items) (spot_saids spots (targets.Place f i)) (States (statements.Instruction (written spots item.ins)) ∷ item_saids spots f (i + 1) items)
    (spots-read spots (targets.Place f i) few)
    (instruction-read spots item.ins (sound-readable names spots item.ins h.0), items-read names spots few f (i + 1) items h.1)

functions-read : (names : List (List ℕ)) (spots : List Target) → AreFew spots → (f : ℕ) (gs : List Function) → Each (IsSound names spots) gs → AreRead (functions_lines spots f gs) (functions_saids spots f gs)
functions-read names spots few f [] h = tt
functions-read names spots few f (g ∷ gs) h =
    read-append (function_lines spots f g) (functions_lines spots (f + 1) gs) (function_saids spots f g) (functions_saids spots (f + 1) gs)
    (read-label g.name h.0.name, (arguments-read g.ints g.handles h.0.ints h.0.handles, (handles-read g.slots h.0.slots, items-read names spots few f 0 g.items h.0.items)))
    (functions-read names spots few (f + 1) gs h.1)

bytes-read : (spots : List Target) → AreFew spots → (at : ℕ) (bs : List ℕ) → Each (λ b. b < 256) bs → AreRead (byte_lines spots at bs) (byte_saids spots at bs)
bytes-read spots few at [] h = spots-read spots (targets.Data at) few
bytes-read spots few at (b ∷ bs) h =
    read-append (spot_lines spots (targets.Data at)) (_ ∷ byte_lines spots (at + 1) bs) (spot_saids spots (targets.Data at)) (States (statements.Data (b ∷ [])) ∷ byte_saids spots (at + 1) bs)
    (spots-read spots (targets.Data at) few) (byte-read b h.0, bytes-read spots few (at + 1) bs h.1)

data-read : (needed : Bool) (spots : List Target) → AreFew spots → (rodata : List ℕ) → Each (λ b. b < 256) rodata → AreRead (data_lines needed spots rodata) (data_saids needed spots rodata)
data-read false spots few rodata h = tt
data-read true spots few rodata h = (section-read, bytes-read spots few 0 rodata h)

pub unit-read : (functions : List Function) (rodata : List ℕ) → AreFew (spots_of functions rodata) → Each (IsSound (names_of functions) (spots_of functions rodata)) functions → Each (λ b. b < 256) rodata → AreRead (unit_lines functions rodata) (unit_saids (needs_data functions rodata) (spots_of functions rodata) functions rodata)
unfolding unit_lines
unit-read functions rodata few h k =
    let spots = spots_of functions rodata in
    read-append (functions_lines spots 0 functions) (data_lines (needs_data functions rodata) spots rodata) (functions_saids spots 0 functions) (data_saids (needs_data functions rodata) spots rodata)
    (functions-read (names_of functions) spots few 0 functions h) (data-read (needs_data functions rodata) spots few rodata k)

-- ---- sound units

-- what an instruction names is named, by this test
abbrev pub IsNamedBy : (Target → Bool) → SourceLine → Type 0
IsNamedBy all item = (to : Target) → target_named item.ins ≡ Some to → is_spot to to ≡ true → all to ≡ true

items-named : (all : Target → Bool) (items : List SourceLine) → ((to : Target) → is_named_in items to ≡ true → all to ≡ true) → Each (IsNamedBy all) items
items-named all [] sub = tt
items-named all (item ∷ items) sub = (
  (λ to e s. sub to (or-first (is_target to (target_named item.ins)) (is_named_in items to) (ap (is_target to) e ∙ s))),
  items-named all items (λ to h. sub to (or-second (is_target to (target_named item.ins)) (is_named_in items to) h)),
)

functions-named : (all : Target → Bool) (gs : List Function) → ((to : Target) → is_named gs to ≡ true → all to ≡ true) → Each (λ g. Each (IsNamedBy all) g.items) gs
functions-named all [] sub = tt
functions-named all (g ∷ gs) sub = (
  items-named all g.items (λ to h. sub to (or-first (is_named_in g.items to) (is_named gs to) h)),
  functions-named all gs (λ to h. sub to (or-second (is_named_in g.items to) (is_named gs to) h)),
)

pub some-of : (o : Option ℕ) → is_some o ≡ true → (k : ℕ) × (o ≡ Some k)
some-of None h = cc
some-of (Some k) h = (k, refl)

has-place : (functions : List Function) (rodata : List ℕ) → AreFew (spots_of functions rodata) → (f i : ℕ) → IsPlace functions f i → is_named functions (targets.Place f i) ≡ true → HasLabel (spots_of functions rodata) (targets.Place f i)
has-place functions rodata few f i h named =
    let p = targets.Place f i in
    let found = some-of (spot_number (spots_of functions rodata) p) (spots-tell functions rodata p (h.function, h.there, h.inside) ∙ named) in
    record { number = found.0; small = number-small (spots_of functions rodata) p found.0 few found.1; there = found.1; text = ap numbered_label found.1 }

has-data : (functions : List Function) (rodata : List ℕ) → AreFew (spots_of functions rodata) → (n : ℕ) → n ≤ length rodata → is_named functions (targets.Data n) ≡ true → HasLabel (spots_of functions rodata) (targets.Data n)
has-data functions rodata few n h named =
    let p = targets.Data n in
    let found = some-of (spot_number (spots_of functions rodata) p) (spots-tell functions rodata p h ∙ named) in
    record { number = found.0; small = number-small (spots_of functions rodata) p found.0 few found.1; there = found.1; text = ap numbered_label found.1 }

code-label : (functions : List Function) (rodata : List ℕ) → AreFew (spots_of functions rodata) → (to : Target) → IsTarget functions rodata to → IsInCode to → (is_spot to to ≡ true → is_named functions to ≡ true) → HasLabel (spots_of functions rodata) to
code-label functions rodata few (targets.Place f i) h k named = has-place functions rodata few f i h (named (true-and (nat_eq f f) (nat_eq i i) (number-same f) (number-same i)))
code-label functions rodata few (targets.Data n) h k named = elim k [ ]
code-label functions rodata few (targets.Name name) h k named = elim k [ ]

data-label : (functions : List Function) (rodata : List ℕ) → AreFew (spots_of functions rodata) → (to : Target) → IsTarget functions rodata to → IsInData to → (is_spot to to ≡ true → is_named functions to ≡ true) → HasLabel (spots_of functions rodata) to
data-label functions rodata few (targets.Data n) h k named = has-data functions rodata few n h (named (number-same n))
data-label functions rodata few (targets.Place f i) h k named = elim k [ ]
data-label functions rodata few (targets.Name name) h k named = elim k [ ]

sound-instruction : (functions : List Function) (rodata : List ℕ) → AreFew (spots_of functions rodata) → (ins : SourceIns) → IsInstruction functions rodata ins → NamesThings functions ins → ((to : Target) → target_named ins ≡ Some to → is_spot to to ≡ true → is_named functions to ≡ true) → Sound (names_of functions) (spots_of functions rodata) ins
sound-instruction functions rodata few (source.Plain i) h k named = h
sound-instruction functions rodata few (source.Li rd value) h k named = h
sound-instruction functions rodata few (source.La rd to) h k named = data-label functions rodata few to h k (named to refl)
sound-instruction functions rodata few (source.Branch op rs1 rs2 to) h k named = (h.0, code-label functions rodata few to h.1 k (named to refl))
sound-instruction functions rodata few (source.Jump to) h k named = code-label functions rodata few to h k (named to refl)
sound-instruction functions rodata few (source.Call name) h k named = (h, k)
sound-instruction functions rodata few source.Ret h k named = tt
sound-instruction functions rodata few (source.Fork handle) h k named = tt

sound-function : (functions : List Function) (rodata : List ℕ) → AreFew (spots_of functions rodata) → (g : Function) → IsFunction functions rodata g → All (λ item. NamesThings functions item.ins) g.items → Each (IsNamedBy (is_named functions)) g.items → IsSound (names_of functions) (spots_of functions rodata) g
sound-function functions rodata few g h k named = record {
  name = h.name;
  shared = h.shared;
  free = h.free;
  ints = h.ints;
  handles = h.handles;
  slots = h.slots;
  items = each-three (λ item. IsInstruction functions rodata item.ins) (λ item. NamesThings functions item.ins) (IsNamedBy (is_named functions)) (λ item. Sound (names_of functions) (spots_of functions rodata) item.ins)
      (λ item a b c. sound-instruction functions rodata few item.ins a b c) g.items (each-from (λ item. IsInstruction functions rodata item.ins) g.items h.items) (each-from (λ item. NamesThings functions item.ins) g.items k) named;
}

pub sound-unit : (functions : List Function) (rodata : List ℕ) → AreFew (spots_of functions rodata) → IsUnit functions rodata → AllNameThings functions → Each (IsSound (names_of functions) (spots_of functions rodata)) functions
sound-unit functions rodata few h k =
    each-three (IsFunction functions rodata) (λ g. All (λ item. NamesThings functions item.ins) g.items) (λ g. Each (IsNamedBy (is_named functions)) g.items) (IsSound (names_of functions) (spots_of functions rodata))
    (λ g a b c. sound-function functions rodata few g a b c) functions (each-from (IsFunction functions rodata) functions h.each) (each-from (λ g. All (λ item. NamesThings functions item.ins) g.items) functions k) (functions-named (is_named functions) functions (λ to e. e))
