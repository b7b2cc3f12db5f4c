-- What is laid out of an accepted unit: the words of its program's functions in a layout, with their names, and the rows that the runtime
-- goes by. The words, rows and forks are those of the layout's definition.
use Rattle.std.specs.Prelude.{◌≡◌, ℕ, List, map}
use Rattle.st_asm.specs.declared.unit.Function.{Function}
use Rattle.st_model.specs.declared.code.Layout.{Layout}
use Rattle.st_model.specs.Layout.{function_words, rows_of, forks_of}
use Rattle.st_check.specs.declared.accept.Checked.{Checked}
use Rattle.st_post.specs.declared.layout.Code.{Code}

-- the names of functions
abbrev pub names_of : List Function → List (List ℕ)
names_of functions = map (λ f. f.name) functions

-- the code of a unit, in a layout
pub record IsCode (layout : Layout) (checked : Checked) (code : Code) : Type 0 where
  pub names : map (λ f. f.name) code.functions ≡ names_of checked.unit.now.functions
  pub words : map (λ f. f.words) code.functions ≡ map (function_words layout) checked.program.functions
  pub rows : code.rows ≡ rows_of layout checked.program
  pub forks : code.forks ≡ forks_of layout checked.program
