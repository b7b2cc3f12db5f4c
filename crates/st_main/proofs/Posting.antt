-- Linking an accepted unit, and the listing of its postprocessed code. link-fault, post-fault: the branch that doesn't reach; far-line: it is
-- told at a line of the unit; link-names, posted-names: the files in which it is told. listed: the listing of the code is that of the unit's
-- program (same-listing); posts-few: how much code there is.
use Rattle.std.proofs.Common.{◌≡◌, ℕ, suc, ◌+◌, ◌*◌, ◌≤◌, List, [], ◌∷◌, ◌++◌, length, map, take, drop, Option, Some, None, slice_get, refl, sym, ap, ◌∙◌, subst, arith, ⊎_elim, inl, inr}
use Rattle.std.specs.Prelude.{ℤ, Ok}
use Rattle.std.specs.Coded.{le_prop}
use Rattle.std.proofs.Math.IntN.{ℤ_set}
use Rattle.std.proofs.Math.Nat.{ℕ_set}
use Rattle.std.proofs.Math.Logic.{∥∥₁_elim, ∥∥₁_map, ∥∥₁_prop}
use Rattle.st_base.specs.declared.line.Line.{Line}
use Rattle.st_base.specs.declared.image.Image.{Image}
use Rattle.st_asm.specs.declared.unit.Function.{Function}
use Rattle.st_asm.specs.Assembly.{Parts, unit_of}
use Rattle.st_model.specs.declared.code.Layout.TheVariants.{Postprocessed}
use Rattle.st_model.specs.declared.program.Item.{Item}
use Rattle.st_model.specs.declared.program.Program.{Program}
use Rattle.st_model.specs.declared.program.ProgramFunction.{ProgramFunction}
use Rattle.st_model.specs.Layout.{function_words, function_size, functions_size, code_start, code_of, far_among, far_in, far_branch, AreWords, IsImageOf}
use Rattle.st_check.specs.declared.accept.Checked.{Checked}
use Rattle.st_check.specs.Acceptance.{IsUnitLine}
use Rattle.st_check.specs.Programs.{program_of}
use Rattle.st_check.proofs.UnitLines.{program-lines}
use Rattle.st_post.specs.declared.posted.Posted.{Posted}
use Rattle.st_post.specs.declared.posted.PostedFunction.{PostedFunction}
use Rattle.st_link.specs.Refusal.{IsFar, IsFirstFar}
use Rattle.st_asm.specs.Unit.{IsEarlier}
use Rattle.st_print.specs.declared.fault.Fault.TheVariants as faults
use Rattle.st_link.proofs.FarLines.{first-case, far_among-told, function-tells}
use Rattle.st_model.proofs.CodeSize.{code_fits}
use Rattle.st_post.proofs.WordCounts.{length-function_words}
use Rattle.st_main.specs.Listing.{listing_from, listing_of, listing_by, words_count, word_lines}
use Rattle.st_main.specs.Answer.{text_outcome, IsLinkFault, IsListingOf}
use Rattle.st_main.specs.Making.{IsNamed}
use Rattle.st_main.proofs.OutcomeSets.{sums-set}
use Rattle.st_main.proofs.UnitLines.{unit_line-file}

-- ---- where a branch that doesn't reach is told

far_in-told : (P : Line → Type 0) (fs : List ProgramFunction) (x : Line × ℤ) → ((f i : ℕ) (function : ProgramFunction) (item : Item) → slice_get fs f ≡ Some function → slice_get function.items i ≡ Some item → P item.line) → far_in fs ≡ Some x → P x.0
far_in-told P [] x all e = let no : ⊥ = cc in absurd no
far_in-told P (f ∷ fs) x all e =
    ⊎_elim (λ here. far_among-told P 0 (function_words Postprocessed f) x (function-tells P f (λ i item h. all 0 i f item refl h)) here)
    (λ later. far_in-told P fs x (λ g i function item there h. all (suc g) i function item there h) later.1)
    (first-case (far_among 0 (function_words Postprocessed f)) (far_in fs) x e)

pub far-line : (functions : List Function) (line : Line) (d : ℤ) → far_branch (program_of functions) ≡ Some (line, d) → IsUnitLine functions line
unfolding far_branch
far-line functions line d e = far_in-told (IsUnitLine functions) (program_of functions).functions (line, d) (program-lines functions) e

pub link-names : (checked : Checked) (texts : List (List ℕ)) (parts : Parts) (line : Line) (d : ℤ) → IsFirstFar checked.program line d → unit_of texts ≡ Ok parts → parts.functions ≡ checked.unit.now.functions → IsNamed (length texts) (faults.Linking line d)
link-names checked texts parts line d far reads same =
    let at : checked.program ≡ program_of checked.unit.now.functions → IsUnitLine parts.functions line =
    λ e. subst (λ fs. IsUnitLine fs line) (sym same) (far-line checked.unit.now.functions line d (subst (λ p. far_branch p ≡ Some (line, d)) e far.0)) in
    let first : 1 ≤ line.file = ∥∥₁_elim checked.is_program le_prop (λ e. (unit_line-file texts parts line reads (at e)).0) in
    let last : line.file ≤ length texts = ∥∥₁_elim checked.is_program le_prop (λ e. (unit_line-file texts parts line reads (at e)).1) in
    λ names enough. (first, omega arith)

pub posted-names : (posted : Posted) (checked : Checked) (line : Line) (d : ℤ) → posted.checked.now ≡ checked → IsFirstFar posted.checked.now.program line d → (texts : List (List ℕ)) (parts : Parts) → unit_of texts ≡ Ok parts → parts.functions ≡ checked.unit.now.functions → IsNamed (length texts) (faults.Linking line d)
posted-names posted checked line d same far texts parts reads functions =
    link-names posted.checked.now texts parts line d far reads (functions ∙ ap (λ (k : Checked). k.unit.now.functions) (sym same))

-- ---- a branch that doesn't reach

pub far-prop : (p : Program) (far : Option (Line × ℤ)) → IsProp (far_branch p ≡ far)
far-prop p far = hlevel (sums-set, ℤ_set, ℕ_set)

pub link-fault : (checked : Checked) (line : Line) (d : ℤ) → IsFirstFar checked.program line d → IsLinkFault checked.unit.now.functions (faults.Linking line d)
link-fault checked line d far =
    let p : Program = program_of checked.unit.now.functions in
    let prop : IsProp ⊥ = hlevel in
    let branch : far_branch p ≡ Some (line, d) = ∥∥₁_elim checked.is_program (far-prop p (Some (line, d))) (λ e. subst (λ q. far_branch q ≡ Some (line, d)) e far.0) in
    let first : (l : Line) (n : ℤ) → IsFar p l n → IsEarlier l line → ⊥ =
    λ l n other earlier. ∥∥₁_elim checked.is_program prop (λ e. (subst (λ q. IsFirstFar q line d) e far).1 l n other earlier) in
    (line, d, (branch, first), refl)

pub post-fault : (posted : Posted) (checked : Checked) (line : Line) (d : ℤ) → posted.checked.now ≡ checked → IsFirstFar posted.checked.now.program line d → IsLinkFault checked.unit.now.functions (faults.Linking line d)
post-fault posted checked line d same far = subst (λ k. IsLinkFault k.unit.now.functions (faults.Linking line d)) same (link-fault posted.checked.now line d far)

-- ---- the listing

same-listing : (address : ℕ) (xs : List PostedFunction) (ss : List Function) (fs : List ProgramFunction) (ws : List ℕ) → map (λ x. x.name) xs ≡ map (λ s. s.name) ss → map (λ x. x.words) xs ≡ map (function_words Postprocessed) fs → listing_by address xs ws ≡ listing_from address ss fs ws
same-listing address [] [] fs ws names words = refl
same-listing address [] (s ∷ ss) fs ws names words = let no : ⊥ = cc in absurd no
same-listing address (x ∷ xs) [] fs ws names words = let no : ⊥ = cc in absurd no
same-listing address (x ∷ xs) (s ∷ ss) [] ws names words = let no : ⊥ = cc in absurd no
same-listing address (x ∷ xs) (s ∷ ss) (f ∷ fs) ws names words =
    let name : x.name ≡ s.name = cc in
    let others : map (λ y. y.name) xs ≡ map (λ t. t.name) ss = cc in
    let code : x.words ≡ function_words Postprocessed f = cc in
    let more : map (λ y. y.words) xs ≡ map (function_words Postprocessed) fs = cc in
    let long : length x.words ≡ function_size Postprocessed f = ap length code ∙ length-function_words Postprocessed f in
    ap (λ (n : List ℕ). n ++ 58 ∷ 10 ∷ word_lines address (take (length x.words) ws) ++ listing_by (address + 4 * length x.words) xs (drop (length x.words) ws)) name
    ∙ ap (λ (k : ℕ). s.name ++ 58 ∷ 10 ∷ word_lines address (take k ws) ++ listing_by (address + 4 * k) xs (drop k ws)) long
    ∙ ap (λ (r : List ℕ). s.name ++ 58 ∷ 10 ∷ word_lines address (take (function_size Postprocessed f) ws) ++ r)
    (same-listing (address + 4 * function_size Postprocessed f) xs ss fs (drop (function_size Postprocessed f) ws) others more)

counted : (xs : List PostedFunction) (fs : List ProgramFunction) → map (λ x. x.words) xs ≡ map (function_words Postprocessed) fs → words_count xs ≡ functions_size Postprocessed fs
counted [] [] e = refl
counted [] (f ∷ fs) e = let no : ⊥ = cc in absurd no
counted (x ∷ xs) [] e = let no : ⊥ = cc in absurd no
counted (x ∷ xs) (f ∷ fs) e =
    let code : x.words ≡ function_words Postprocessed f = cc in
    let more : map (λ y. y.words) xs ≡ map (function_words Postprocessed) fs = cc in
    let long : length x.words ≡ function_size Postprocessed f = ap length code ∙ length-function_words Postprocessed f in
    let rest = counted xs fs more in
    omega (arith, long, rest)

pub posts-few : (posted : Posted) → words_count posted.code.functions ≤ 196608
posts-few posted =
    let count = counted posted.code.functions posted.checked.now.program.functions posted.is_code.words in
    let few = code_fits Postprocessed posted.checked.now.program posted.checked.now.is_accepted posted.checked.now.has_size in
    omega (arith, count, few)

-- ---- the outcome

pub listed : (posted : Posted) (checked : Checked) (image : Image) (text : List ℕ) → posted.checked.now ≡ checked → IsImageOf Postprocessed posted.checked.now.program posted.checked.now.unit.now.rodata image → text ≡ listing_by code_start posted.code.functions image.words → (far_branch (program_of checked.unit.now.functions) ≡ None) × IsListingOf checked.unit.now.functions (text_outcome text)
unfolding listing_of
listed posted checked image text same image_of lists =
    let functions = posted.checked.now.unit.now.functions in
    let near : far_branch (program_of functions) ≡ None = ∥∥₁_elim posted.checked.now.is_program (far-prop (program_of functions) None) (λ e. subst (λ p. far_branch p ≡ None) e image_of.reaches) in
    let here : IsListingOf functions (text_outcome text) = ∥∥₁_map posted.checked.now.is_program (λ e.
    let shown : text ≡ listing_of functions image.words =
    lists
    ∙ same-listing code_start posted.code.functions functions posted.checked.now.program.functions image.words posted.is_code.names posted.is_code.words
    ∙ ap (λ (p : Program). listing_from code_start functions p.functions image.words) e in
    (image.words, subst (λ p. AreWords (code_of Postprocessed p) image.words) e image_of.words, ap text_outcome shown)) in
    subst (λ k. (far_branch (program_of k.unit.now.functions) ≡ None) × IsListingOf k.unit.now.functions (text_outcome text)) same (near, here)
