-- Where the items of a function stand (places_from), and what is settled of a function before its words are pushed (IsPlan).
use Rattle.std.specs.Prelude.{◌≡◌, ◌≤◌, ℕ, ◌+◌, List, [], ◌∷◌, length}
use Rattle.st_model.specs.declared.code.Layout.{Layout}
use Rattle.st_model.specs.declared.program.Item.{Item}
use Rattle.st_model.specs.declared.program.ProgramFunction.{ProgramFunction}
use Rattle.st_model.specs.Layout.{item_size, items_size, saved_of}
use Rattle.st_post.specs.Size.{most_words}
use Rattle.st_post.specs.declared.items.Plan.{Plan}

-- the words at which items begin, of which the first stands at a word, and the word past them
abbrev pub places_from : Layout → ProgramFunction → ℕ → List Item → List ℕ
places_from layout function at [] = at ∷ []
places_from layout function at (x ∷ xs) = at ∷ places_from layout function (at + item_size layout function x.kind) xs

pub record IsPlan (plan : Plan) : Type 0 where
  pub saved : plan.saved.items ≡ saved_of plan.function.now
  pub few : length plan.saved.items ≤ 11
  pub places : plan.places.items ≡ places_from plan.layout plan.function.now 0 plan.function.now.items
  pub low : items_size plan.layout plan.function.now plan.function.now.items ≤ most_words
