-- Words that are ready to be encoded: those whose resolved instruction has a word wherever the code stands (IsReady). Reach for ready-fits
-- (an instruction that is ready fits), words-fit (so do those of words) and ready-append.
use Rattle.std.proofs.Common.{◌≡◌, ℕ, ◌+◌, ◌*◌, ◌^◌, ◌≤◌, ◌<◌, pos, ◌-ℤ◌, List, [], ◌∷◌, ◌++◌, length, take, Bool, false, refl, sym, subst, arith}
use Rattle.st_base.specs.declared.line.Line.{Line}
use Rattle.st_base.specs.declared.reg.Reg.{Reg}
use Rattle.st_base.specs.declared.reg.Reg.TheVariants as registers
use Rattle.st_rv.specs.declared.ins.Op.TheVariants as ops
use Rattle.st_rv.specs.declared.ins.Ins.{Ins}
use Rattle.st_rv.specs.declared.ins.OpKind.TheVariants as kinds
use Rattle.st_rv.specs.Op.{kind_of}
use Rattle.st_rv.specs.Fields.{IsSigned}
use Rattle.st_rv.specs.Rows.{FitsTable}
use Rattle.st_model.specs.declared.program.Program.{Program}
use Rattle.st_model.specs.declared.code.Layout.{Layout}
use Rattle.st_model.specs.declared.code.PostedIns.{PostedIns}
use Rattle.st_model.specs.declared.code.PostedIns.TheVariants as posted
use Rattle.st_model.specs.declared.code.PostedWord.{PostedWord}
use Rattle.st_model.specs.Layout.{upper_ins, function_address, functions_size, distance, resolved, resolved_words, words_at}
use Rattle.st_link.specs.Encoding.{AllFit}
use Rattle.st_link.proofs.Rows.{fits-branch, fits-jal}
use Rattle.st_link.proofs.Distances.{even-distance, far-signed}
use Rattle.st_link.proofs.Sizes.{take-size}

-- the word `at` of its function is ready, in a program of n functions
abbrev pub IsReady : ℕ → ℕ → PostedIns → Type 0
IsReady n at (posted.Plain i) = FitsTable i
IsReady n at (posted.Branch op rs1 rs2 to) = (kind_of op ≡ kinds.Branch) × IsSigned (2 ^ 12) (distance at to)
IsReady n at (posted.Jump to) = to < 2 ^ 18
IsReady n at (posted.Call f) = f < n
IsReady n at (posted.Entry entry) = (e : ℕ) × (entry ≡ 4 * e) × (e < 2 ^ 18)

-- instructions, of which the first is the word `at`
abbrev pub AreReady : ℕ → ℕ → List PostedIns → Type 0
AreReady n at [] = Unit {0}
AreReady n at (i ∷ is) = IsReady n at i × AreReady n (at + 1) is

abbrev pub AreReadyWords : ℕ → ℕ → List PostedWord → Type 0
AreReadyWords n at [] = Unit {0}
AreReadyWords n at (w ∷ ws) = IsReady n at w.ins × AreReadyWords n (at + 1) ws

pub ready-append : (n at : ℕ) (is js : List PostedIns) → AreReady n at is → AreReady n (at + length is) js → AreReady n at (is ++ js)
ready-append n at [] js p q = subst (λ k. AreReady n k js) (omega arith) q
ready-append n at (i ∷ is) js p q = (p.0, ready-append n (at + 1) is js p.1 (subst (λ k. AreReady n k js) (omega arith) q))

pub ready-words : (n at : ℕ) (line : Line) (begins : Bool) (is : List PostedIns) → AreReady n at is → AreReadyWords n at (words_at line begins is)
ready-words n at line begins [] p = tt
ready-words n at line begins (i ∷ is) p = (p.0, ready-words n (at + 1) line false is p.1)

pub words-append : (n at : ℕ) (vs ws : List PostedWord) → AreReadyWords n at vs → AreReadyWords n (at + length vs) ws → AreReadyWords n at (vs ++ ws)
words-append n at [] ws p q = subst (λ k. AreReadyWords n k ws) (omega arith) q
words-append n at (v ∷ vs) ws p q = (p.0, words-append n (at + 1) vs ws p.1 (subst (λ k. AreReadyWords n k ws) (omega arith) q))

pub fit-append : (is js : List Ins) → AllFit is → AllFit js → AllFit (is ++ js)
fit-append [] js p q = q
fit-append (i ∷ is) js p q = (p.0, fit-append is js p.1 q)

-- ---- resolved

jal-between : (rd : Reg) (from to a b : ℕ) → from ≡ 4 * a → to ≡ 4 * b → a < 2 ^ 18 → b < 2 ^ 18 → FitsTable (upper_ins ops.Jal rd (pos to -ℤ pos from))
jal-between rd from to a b e f p q =
    subst (λ (m : ℕ). FitsTable (upper_ins ops.Jal rd (pos m -ℤ pos from))) (sym f)
    (subst (λ (m : ℕ). FitsTable (upper_ins ops.Jal rd (pos (4 * b) -ℤ pos m))) (sym e)
    (fits-jal rd (pos (4 * b) -ℤ pos (4 * a)) (far-signed a b p q) (even-distance a b)))

pub ready-fits : (layout : Layout) (p : Program) (n address a at : ℕ) (i : PostedIns) → functions_size layout p.functions ≤ 196608 → address ≡ 4 * a → a < 2 ^ 18 → at < 2 ^ 18 → IsReady n at i → FitsTable (resolved layout p address at i)
ready-fits layout p n address a at (posted.Plain i) small e low inside is = is
ready-fits layout p n address a at (posted.Branch op rs1 rs2 to) small e low inside is = fits-branch op rs1 rs2 (distance at to) is.0 is.1 (even-distance at to)
ready-fits layout p n address a at (posted.Jump to) small e low inside is = jal-between registers.Zero (4 * at) (4 * to) at to refl refl inside is
ready-fits layout p n address a at (posted.Call f) small e low inside is =
    let part = take-size layout f p.functions in
    jal-between registers.Ra address (function_address layout p f) a (16384 + functions_size layout (take f p.functions)) e (omega arith) low (omega (arith, part, small))
ready-fits layout p n address a at (posted.Entry entry) small e low inside is = jal-between registers.Ra address entry a is.0 e is.1 low is.2

pub words-fit : (layout : Layout) (p : Program) (n address a at : ℕ) (ws : List PostedWord) → functions_size layout p.functions ≤ 196608 → address ≡ 4 * a → a + length ws ≤ 2 ^ 18 → at + length ws ≤ 2 ^ 18 → AreReadyWords n at ws → AllFit (resolved_words layout p address at ws)
words-fit layout p n address a at [] small e low inside are = tt
words-fit layout p n address a at (w ∷ ws) small e low inside are = (
  ready-fits layout p n address a at w.ins small e (omega arith) (omega arith) are.0,
  words-fit layout p n (address + 4) (a + 1) (at + 1) ws small (omega arith) (omega arith) (omega arith) are.1,
)
