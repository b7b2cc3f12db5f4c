-- The linker's own words of code against those of the layout's definition: where each call names a function, the instructions are the same
-- (resolved-code), so are the first branch that doesn't reach (far-code) and the words in order (joined-code). Reach for image-of, which
-- puts an image together, and ready-code, which says that encoding may begin.
use Rattle.std.proofs.Common.{◌≡◌, ◌∙◌, ℕ, zero, suc, ◌+◌, ◌*◌, ◌≤◌, ◌<◌, pos, ◌-ℤ◌, List, [], ◌∷◌, ◌++◌, map, length, take, Option, None, refl, ap, sym, subst, arith}
use Rattle.st_base.specs.declared.reg.Reg.TheVariants as registers
use Rattle.st_base.specs.declared.image.FrameRow.{FrameRow}
use Rattle.st_base.specs.declared.image.Image.{Image}
use Rattle.st_rv.specs.declared.ins.Op.TheVariants as ops
use Rattle.st_model.specs.declared.program.Program.{Program}
use Rattle.st_model.specs.declared.program.ProgramFunction.{ProgramFunction}
use Rattle.st_model.specs.declared.code.Layout.{Layout}
use Rattle.st_model.specs.declared.code.Layout.TheVariants.{Postprocessed}
use Rattle.st_model.specs.declared.code.PostedIns.{PostedIns}
use Rattle.st_model.specs.declared.code.PostedIns.TheVariants as posted
use Rattle.st_model.specs.declared.code.PostedWord.{PostedWord}
use Rattle.st_model.specs.Accepted.{IsAccepted}
use Rattle.st_model.specs.Layout.{HasSize, IsImageOf, IsCodeOf, AreWords, upper_ins, first_of, far_among, far_in, far_branch, function_words, function_size, functions_size, function_address, rows_from, rows_of, forks_of, resolved, resolved_words, resolved_from, code_of, words_of_all, program_words}
use Rattle.st_post.specs.declared.posted.PostedFunction.{PostedFunction}
use Rattle.st_link.specs.Encoding.{words_in, joined, total, first_far_of, told, start_in, resolved_by, resolved_in, resolved_all, AllFit, IsCalled, AreCalled, AllCalled, IsAssembled, IsEncodable}
use Rattle.std.proofs.Math.Logic.{∥∥₁_elim, ∥∥₁_map}
use Rattle.std.specs.Coded.{le_prop}
use Rattle.std.proofs.lemmas.Option.{slice_get_within}
use Rattle.st_base.specs.declared.image.ForkRow.{ForkRow}
use Rattle.st_check.specs.declared.accept.Checked.{Checked}
use Rattle.st_post.specs.declared.layout.Code.{Code}
use Rattle.st_post.specs.Code.{IsCode}
use Rattle.st_link.specs.declared.error.LinkFault.{LinkFault}
use Rattle.st_link.proofs.Sizes.{function-length}
use Rattle.st_model.proofs.CodeSize.{code_within}
use Rattle.st_link.proofs.ItemsReady.{code-fits, code-called}

-- ---- rows

rows-length-from : (layout : Layout) (from : ℕ) (fs : List ProgramFunction) → length (rows_from layout from fs) ≡ length fs
rows-length-from layout from [] = refl
rows-length-from layout from (f ∷ fs) = ap suc (rows-length-from layout (from + 4 * function_size layout f) fs)

pub rows-length : (layout : Layout) (p : Program) → length (rows_of layout p) ≡ length p.functions
unfolding rows_of
rows-length layout p = rows-length-from layout 0x10000 p.functions

start-from : (layout : Layout) (from f : ℕ) (fs : List ProgramFunction) → f < length fs → start_in (rows_from layout from fs) f ≡ from + 4 * functions_size layout (take f fs)
start-from layout from f [] inside = absurd (omega arith)
start-from layout from zero (g ∷ fs) inside = omega arith
start-from layout from (suc f) (g ∷ fs) inside = start-from layout (from + 4 * function_size layout g) f fs (omega arith) ∙ omega arith

pub start-of : (layout : Layout) (p : Program) (f : ℕ) → f < length p.functions → start_in (rows_of layout p) f ≡ function_address layout p f
unfolding rows_of
start-of layout p f inside = start-from layout 0x10000 f p.functions inside

-- ---- instructions

resolved-same : (layout : Layout) (p : Program) (address at : ℕ) (i : PostedIns) → IsCalled (length p.functions) i → resolved_by (rows_of layout p) address at i ≡ resolved layout p address at i
resolved-same layout p address at (posted.Plain i) is = refl
resolved-same layout p address at (posted.Branch op rs1 rs2 to) is = refl
resolved-same layout p address at (posted.Jump to) is = refl
resolved-same layout p address at (posted.Call f) is = ap (λ m. upper_ins ops.Jal registers.Ra (pos m -ℤ pos address)) (start-of layout p f is)
resolved-same layout p address at (posted.Entry entry) is = refl

resolved-words : (layout : Layout) (p : Program) (address at : ℕ) (ws : List PostedWord) → AreCalled (length p.functions) ws → resolved_in (rows_of layout p) address at ws ≡ resolved_words layout p address at ws
resolved-words layout p address at [] are = refl
resolved-words layout p address at (w ∷ ws) are =
    let first = resolved-same layout p address at w.ins are.0 in
    let rest = resolved-words layout p (address + 4) (at + 1) ws are.1 in
    λ i. first i ∷ rest i

resolved-list : (layout : Layout) (p : Program) (address : ℕ) (fs : List ProgramFunction) → AllCalled (length p.functions) (map (function_words layout) fs) → resolved_all (rows_of layout p) address (map (function_words layout) fs) ≡ resolved_from layout p address fs
resolved-list layout p address [] are = refl
resolved-list layout p address (f ∷ fs) are =
    let first = resolved-words layout p address 0 (function_words layout f) are.0 in
    let rest = resolved-list layout p (address + 4 * length (function_words layout f)) fs are.1 in
    let long = function-length layout f in
    (λ i. first i ++ rest i) ∙ ap (λ m. resolved_words layout p address 0 (function_words layout f) ++ resolved_from layout p (address + 4 * m) fs) long

pub resolved-code : (layout : Layout) (p : Program) → AllCalled (length p.functions) (map (function_words layout) p.functions) → resolved_all (rows_of layout p) 0x10000 (map (function_words layout) p.functions) ≡ code_of layout p
unfolding code_of
resolved-code layout p are = resolved-list layout p 0x10000 p.functions are

-- ---- words

total-list : (layout : Layout) (fs : List ProgramFunction) → total (map (function_words layout) fs) ≡ functions_size layout fs
total-list layout [] = refl
total-list layout (f ∷ fs) = let one = function-length layout f in let rest = total-list layout fs in omega (arith, one, rest)

joined-list : (layout : Layout) (fs : List ProgramFunction) → joined (map (function_words layout) fs) ≡ words_of_all layout fs
joined-list layout [] = refl
joined-list layout (f ∷ fs) = ap (λ ws. function_words layout f ++ ws) (joined-list layout fs)

pub joined-code : (layout : Layout) (p : Program) → joined (map (function_words layout) p.functions) ≡ program_words layout p
unfolding program_words
joined-code layout p = joined-list layout p.functions

far-list : (fs : List ProgramFunction) → first_far_of (map (function_words Postprocessed) fs) ≡ far_in fs
far-list [] = refl
far-list (f ∷ fs) = ap (first_of (far_among 0 (function_words Postprocessed f))) (far-list fs)

pub far-code : (p : Program) → first_far_of (map (function_words Postprocessed) p.functions) ≡ far_branch p
unfolding far_branch
far-code p = far-list p.functions

-- ---- code

-- the code is that of a program, in a layout
pub record IsLaidOut (layout : Layout) (p : Program) (functions : List PostedFunction) (rows : List FrameRow) : Type 0 where
  pub words : words_in functions ≡ map (function_words layout) p.functions
  pub rows_are : rows ≡ rows_of layout p

lt-prop : (m n : ℕ) → IsProp (m < n)
lt-prop m n = hlevel le_prop

called-merely : (n : ℕ) (i : PostedIns) → ∥ IsCalled n i ∥₁ → IsCalled n i
called-merely n (posted.Plain i) is = tt
called-merely n (posted.Branch op rs1 rs2 to) is = tt
called-merely n (posted.Jump to) is = tt
called-merely n (posted.Call f) is = ∥∥₁_elim is (lt-prop _ _) (λ h. h)
called-merely n (posted.Entry entry) is = tt

words-merely : (n : ℕ) (ws : List PostedWord) → ∥ AreCalled n ws ∥₁ → AreCalled n ws
words-merely n [] are = tt
words-merely n (w ∷ ws) are = (called-merely n w.ins (∥∥₁_map are (λ h. h.0)), words-merely n ws (∥∥₁_map are (λ h. h.1)))

all-merely : (n : ℕ) (wss : List (List PostedWord)) → ∥ AllCalled n wss ∥₁ → AllCalled n wss
all-merely n [] are = tt
all-merely n (ws ∷ wss) are = (words-merely n ws (∥∥₁_map are (λ h. h.0)), all-merely n wss (∥∥₁_map are (λ h. h.1)))

-- an accepted program that has size
pub record IsAcceptedWithSize (p : Program) : Type 0 where
  pub accepted : IsAccepted p
  pub size : HasSize p

pub accepted-with-size : (p : Program) → ∥ IsAccepted p ∥₁ → ∥ HasSize p ∥₁ → ∥ IsAcceptedWithSize p ∥₁
accepted-with-size p accepted size = ∥∥₁_elim accepted squash₁ (λ a. ∥∥₁_map size (λ s. let r : IsAcceptedWithSize p = record { accepted = a; size = s } in r))

main-inside : (p : Program) → ∥ IsAcceptedWithSize p ∥₁ → p.main < length p.functions
main-inside p is = ∥∥₁_elim is (lt-prop _ _) (λ h. slice_get_within p.functions p.main h.accepted.main h.accepted.has_main)

program-called : (layout : Layout) (p : Program) → ∥ IsAcceptedWithSize p ∥₁ → far_branch p ≡ None → AllCalled (length p.functions) (map (function_words layout) p.functions)
program-called layout p is none = all-merely (length p.functions) (map (function_words layout) p.functions) (∥∥₁_map is (λ h. code-called layout p h.accepted h.size none))

pub encodable : (layout : Layout) (p : Program) (functions : List PostedFunction) (rows : List FrameRow) → IsLaidOut layout p functions rows → ∥ IsAcceptedWithSize p ∥₁ → far_branch p ≡ None → IsEncodable functions rows p.main
encodable layout p functions rows laid is none =
    let calls = program-called layout p is none in
    let same = resolved-code layout p calls in
    let here : resolved_all rows 0x10000 (words_in functions) ≡ code_of layout p = (λ i. resolved_all (laid.rows_are i) 0x10000 (laid.words i)) ∙ same in
    let count : length p.functions ≡ length rows = sym (ap length laid.rows_are ∙ rows-length layout p) in
    let size : functions_size layout p.functions ≤ 196608 = ∥∥₁_elim is le_prop (λ h. code_within layout p h.accepted h.size) in
    record {
      fits = ∥∥₁_map is (λ h. subst AllFit (sym here) (code-fits layout p h.accepted h.size none));
      calls = subst (λ n. AllCalled n (words_in functions)) count (subst (AllCalled (length p.functions)) (sym laid.words) calls);
      small = let long = ap total laid.words ∙ total-list layout p.functions in omega (arith, long, size);
      main_in = let low = main-inside p is in omega (arith, low, count);
    }

pub image-of : (layout : Layout) (p : Program) (functions : List PostedFunction) (rows : List FrameRow) (forks : List ForkRow) (rodata : List ℕ) (image : Image) → IsLaidOut layout p functions rows → forks ≡ forks_of layout p → ∥ IsAcceptedWithSize p ∥₁ → far_branch p ≡ None → IsAssembled functions rows forks rodata p.main image → IsImageOf layout p rodata image
image-of layout p functions rows forks rodata image laid split is none made =
    let calls = program-called layout p is none in
    let here : resolved_all rows 0x10000 (words_in functions) ≡ code_of layout p = (λ i. resolved_all (laid.rows_are i) 0x10000 (laid.words i)) ∙ resolved-code layout p calls in
    let all : joined (words_in functions) ≡ program_words layout p = ap joined laid.words ∙ joined-code layout p in
    record {
      reaches = none;
      words = subst (λ is. AreWords is image.words) here made.words;
      rows = made.rows_are ∙ laid.rows_are;
      forks = made.forks_are ∙ split;
      bytes = made.bytes;
      lines = made.lines ∙ ap (map (λ w. w.line)) all;
      begins = made.begins ∙ ap (map (λ w. w.begins)) all;
      main = made.main_is ∙ ap (λ rs. start_in rs p.main) laid.rows_are ∙ start-of layout p p.main (main-inside p is);
    }

-- what is told of branches that don't reach
pub far-told : (p : Program) (functions : List PostedFunction) (result : Option LinkFault) → words_in functions ≡ map (function_words Postprocessed) p.functions → told result ≡ first_far_of (words_in functions) → far_branch p ≡ told result
far-told p functions result words is = sym (far-code p) ∙ ap first_far_of (sym words) ∙ sym is

-- ---- code of an accepted unit

pub laid-out : (layout : Layout) (checked : Checked) (code : Code) (functions : List PostedFunction) (rows : List FrameRow) → IsCode layout checked code → functions ≡ code.functions → rows ≡ code.rows → IsLaidOut layout checked.program functions rows
laid-out layout checked code functions rows is fs rs = record { words = ap words_in fs ∙ is.words; rows_are = rs ∙ is.rows }

pub checked-accepted : (checked : Checked) → ∥ IsAcceptedWithSize checked.program ∥₁
checked-accepted checked = accepted-with-size checked.program checked.is_accepted checked.has_size

pub checked-encodable : (layout : Layout) (checked : Checked) (code : Code) (functions : List PostedFunction) (rows : List FrameRow) → IsCode layout checked code → functions ≡ code.functions → rows ≡ code.rows → far_branch checked.program ≡ None → IsEncodable functions rows checked.program.main
checked-encodable layout checked code functions rows is fs rs none =
    encodable layout checked.program functions rows (laid-out layout checked code functions rows is fs rs) (checked-accepted checked) none

pub checked-image : (layout : Layout) (checked : Checked) (code : Code) (functions : List PostedFunction) (rows : List FrameRow) (forks : List ForkRow) (image : Image) → IsCode layout checked code → functions ≡ code.functions → rows ≡ code.rows → forks ≡ code.forks → far_branch checked.program ≡ None → IsAssembled functions rows forks checked.unit.now.rodata checked.program.main image → IsImageOf layout checked.program checked.unit.now.rodata image
checked-image layout checked code functions rows forks image is fs rs ks none made =
    image-of layout checked.program functions rows forks checked.unit.now.rodata image (laid-out layout checked code functions rows is fs rs) (ks ∙ is.forks) (checked-accepted checked) none made

pub checked-told : (checked : Checked) (code : Code) (functions : List PostedFunction) (result : Option LinkFault) → IsCode Postprocessed checked code → functions ≡ code.functions → told result ≡ first_far_of (words_in functions) → far_branch checked.program ≡ told result
checked-told checked code functions result is fs tells = far-told checked.program functions result (ap words_in fs ∙ is.words) tells

-- an image of an accepted program is its code
pub code-of : (layout : Layout) (p : Program) (rodata : List ℕ) (image : Image) → ∥ IsAcceptedWithSize p ∥₁ → IsImageOf layout p rodata image → ∥ IsCodeOf layout p image ∥₁
code-of layout p rodata image accepted is =
    ∥∥₁_map accepted (λ a.
    let r : IsCodeOf layout p image = record { accepted = a.accepted; size = a.size; is_image = subst (λ bytes. IsImageOf layout p bytes image) (sym is.bytes) is } in
    r)
