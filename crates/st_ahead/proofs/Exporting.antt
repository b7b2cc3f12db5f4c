-- What is left by exporting frames. Reach for exported_made (it is made by the worker itself), exports (those that were and these are exported) and same (nothing else is changed).
use Rattle.std.proofs.Common.{◌≡◌, ◌⊎◌, inl, inr, ⊎_elim, Bool, true, false, ◌&&◌, ◌||◌, ◌==◌, List, [], ◌∷◌, if◌then◌else◌, refl, sym, ◌∙◌, subst}
use Rattle.std.specs.List.{Contains}
use Rattle.std.proofs.lemmas.Bool.{true≢false}
use Rattle.std.proofs.lemmas.Bool.Decides.{Decides-and, Decides-eqb}
use Rattle.st_base.specs.declared.chain.Frame.{Frame}
use Rattle.st_words.specs.declared.view.View.{View}
use Rattle.st_words.specs.Moves.{MayExport, exporting}
use Rattle.st_words.specs.Views.{is_among}
use Rattle.st_words.proofs.Lists.{contains_here, contains_later, contains_none, contains_case}
use Rattle.st_model.specs.declared.program.Program.{Program}
use Rattle.st_model.specs.Memory.{Data}
use Rattle.st_made.specs.Moves.{Made}
use Rattle.st_made.proofs.Making.{made_follows}
use Rattle.st_ahead.specs.Naming.{exported}
use Rattle.st_ahead.specs.NamingLaws.{AllMayExport}

-- the view after one frame
abbrev one_exported : Bool → Frame → View → View
one_exported b f v = if b then v else exporting f v

-- ---- made

one_made : (program : Program) (source : Data) (b : Bool) (v : View) (f : Frame) → (b ≡ false → MayExport v f) → Made program source v (one_exported b f v)
one_made program source true v f may = ([], refl)
one_made program source false v f may = (exporting f v ∷ [], (inr (inr (inr (inr (inr (inr (record { frame = f; may = may refl; after = refl })))))), refl))

pub exported_made : (program : Program) (source : Data) (v : View) (fs : List Frame) → AllMayExport v fs → Made program source v (exported fs v)
exported_made program source v [] may = ([], refl)
exported_made program source v (f ∷ fs) may =
    let y = one_exported (is_among v.exported f) f v in
    made_follows program source v y (exported fs y) (one_made program source (is_among v.exported f) v f may.0) (exported_made program source y fs may.1)

-- ---- exported

same_frame : (f g : Frame) → f.low ≡ g.low → f.base ≡ g.base → f ≡ g
same_frame f g low base = λ i. record { low = low i; base = base i }

frame_decides : (g f : Frame) → ((g.low == f.low) && (g.base == f.base)) ≡ true → g ≡ f
frame_decides g f e = let z = (Decides-and _ _ (Decides-eqb g.low f.low) (Decides-eqb g.base f.base)).0 e in same_frame g f z.0 z.1

among_or : (a b : Bool) → (a || b) ≡ true → (a ≡ true) ⊎ (b ≡ true)
among_or true b e = inl refl
among_or false b e = inr e

among_contains : (gs : List Frame) (f : Frame) → is_among gs f ≡ true → Contains gs f
among_contains [] f e = absurd (true≢false (sym e))
among_contains (g ∷ gs) f e = ⊎_elim
    (λ (a : ((g.low == f.low) && (g.base == f.base)) ≡ true). subst (λ x. Contains (g ∷ gs) x) (frame_decides g f a) (contains_here g gs))
    (λ (b : is_among gs f ≡ true). contains_later f g gs (among_contains gs f b))
    (among_or ((g.low == f.low) && (g.base == f.base)) (is_among gs f) e)

-- a frame that was exported is so after one more
one_keeps : (b : Bool) (v : View) (g f : Frame) → Contains v.exported f → Contains (one_exported b g v).exported f
one_keeps true v g f m = m
one_keeps false v g f m = contains_later f g v.exported m

-- and so is that one
one_adds : (b : Bool) (v : View) (f : Frame) → is_among v.exported f ≡ b → Contains (one_exported b f v).exported f
one_adds true v f e = among_contains v.exported f e
one_adds false v f e = contains_here f v.exported

pub keeps : (v : View) (fs : List Frame) (f : Frame) → Contains v.exported f → Contains (exported fs v).exported f
keeps v [] f m = m
keeps v (g ∷ gs) f m = keeps (one_exported (is_among v.exported g) g v) gs f (one_keeps (is_among v.exported g) v g f m)

pub adds : (v : View) (fs : List Frame) (f : Frame) → Contains fs f → Contains (exported fs v).exported f
adds v [] f m = absurd (contains_none f m)
adds v (g ∷ gs) f m =
    let y = one_exported (is_among v.exported g) g v in
    ⊎_elim
    (λ (e : g ≡ f). subst (λ x. Contains (exported gs y).exported x) e (keeps y gs g (one_adds (is_among v.exported g) v g refl)))
    (λ (n : Contains gs f). adds y gs f n)
    (contains_case f g gs m)

-- a frame that is exported after one more was so, or is that one
one_only : (b : Bool) (v : View) (g f : Frame) → Contains (one_exported b g v).exported f → Contains v.exported f ⊎ (g ≡ f)
one_only true v g f m = inl m
one_only false v g f m = ⊎_elim (λ (e : g ≡ f). inr e) (λ (n : Contains v.exported f). inl n) (contains_case f g v.exported m)

pub only : (v : View) (fs : List Frame) (f : Frame) → Contains (exported fs v).exported f → Contains v.exported f ⊎ Contains fs f
only v [] f m = inl m
only v (g ∷ gs) f m = ⊎_elim
    (λ (n : Contains (one_exported (is_among v.exported g) g v).exported f). ⊎_elim
    (λ (k : Contains v.exported f). inl k)
    (λ (e : g ≡ f). inr (subst (λ x. Contains (g ∷ gs) x) e (contains_here g gs)))
    (one_only (is_among v.exported g) v g f n))
    (λ (n : Contains gs f). inr (contains_later f g gs n))
    (only (one_exported (is_among v.exported g) g v) gs f m)

-- ---- nothing else

one_same : (b : Bool) (v : View) (f : Frame) (es : List Frame) → record (one_exported b f v) { exported = es } ≡ record v { exported = es }
one_same true v f es = refl
one_same false v f es = refl

pub same : (v : View) (fs : List Frame) → exported fs v ≡ record v { exported = (exported fs v).exported }
same v [] = refl
same v (f ∷ fs) =
    let y = one_exported (is_among v.exported f) f v in
    same y fs ∙ one_same (is_among v.exported f) v f (exported fs y).exported
