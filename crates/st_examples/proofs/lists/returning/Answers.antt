use Rattle.std.proofs.Common.{◌∙◌, ◌++◌, ◌∷◌, [], ap, refl}
use Rattle.st_model.specs.declared.program.Item.{Item}
use Rattle.st_model.specs.declared.program.ItemKind.TheVariants.{Prologue, Epilogue}
use Rattle.st_examples.proofs.Returning.{returning_formed}
use Rattle.st_examples.proofs.lists.returning.Goals as goal

abbrev prologue : Item
prologue = record { line = record { file = 1; line = 1 }; kind = Prologue }

abbrev epilogue : Item
epilogue = record { line = record { file = 1; line = 1 }; kind = Epilogue }

pub returns : goal.returns
returns c =
    λ p.
    returning_formed p c.args.ints prologue epilogue c.push-2.new.self c.requires
    (c.in_ok-push-2.ensures.ok ∙ ap (λ l. l ++ epilogue ∷ []) (c.in_ok-push.ensures.ok ∙ ap (λ l. l ++ prologue ∷ []) c.new-items.ensures)) refl refl
