-- The code of an image is decoded as the program's, with its marks, and its forks are in it.
use Rattle.std.proofs.Common.{◌∙◌, ap, sym, subst, subst₂, length, List, ℕ}
use Rattle.std.proofs.Math.Nat.{ℕ_set}
use Rattle.std.proofs.Math.Logic.{∥∥₁_map, ∥∥₁_elim}
use Rattle.st_model.specs.Layout.{AreWords, code_of}
use Rattle.st_items.specs.Tables.{AreInCode}
use Rattle.st_items.proofs.ForksInCode.{forks_in_code, in_code_prop}
use Rattle.st_items.proofs.Tables.{words_decoded, words_length, begins_length}
use Rattle.st_items.proofs.code.Code.of.Goals as goal

pub decoded-requires-clause-words : goal.decoded-requires-clause-words
decoded-requires-clause-words c =
    ∥∥₁_map c.requires (λ has. (code_of has.0 has.1.0, subst (λ (words : List ℕ). AreWords (code_of has.0 has.1.0) words) (sym c.as_slice.ensures) (words_decoded has.0 has.1.0 c.args.image.now has.1.1)))

pub decoded-requires-clause-begins : goal.decoded-requires-clause-begins
decoded-requires-clause-begins c =
    ap length c.as_slice-2.ensures ∙ ∥∥₁_elim c.requires (ℕ_set _ _) (λ has. begins_length has.0 has.1.0 c.args.image.now has.1.1 ∙ sym (words_length has.0 has.1.0 c.args.image.now has.1.1)) ∙ sym (ap length c.as_slice.ensures)

pub handles-requires : goal.handles-requires
handles-requires c =
    ∥∥₁_elim c.requires (in_code_prop _ _)
    (λ has. subst₂ AreInCode (ap length (sym c.as_slice-4.ensures)) (sym c.as_slice-3.ensures) (forks_in_code has.0 has.1.0 c.args.image.now has.1.1))
