-- What an image has of each word of its code, in either layout: that it begins an item (begins_at), its line (lines_at), of a fork's first jump the
-- register of its handle (handle_at), and the word itself (words_decoded, fetched_at).
use Rattle.std.proofs.Common.{◌≡◌, ◌≢◌, ◌∙◌, ℕ, zero, suc, ◌+◌, ◌*◌, ◌<◌, Bool, List, [], ◌∷◌, ◌++◌, Some, length, take, set, replicate, get_or, slice_get, refl, ap, sym, subst, arith, length-set}
use Rattle.std.proofs.lemmas.List.{length-replicate, length-map}
use Rattle.std.specs.Prelude.{◌==◌}
use Rattle.std.specs.Option.{option_map}
use Rattle.std.proofs.lemmas.Option.{slice_get-map, slice_get-get_or}
use Rattle.st_base.specs.declared.line.Line.{Line}
use Rattle.st_base.specs.declared.reg.Reg.{Reg}
use Rattle.st_base.specs.declared.reg.Reg.TheVariants as registers
use Rattle.st_base.specs.declared.image.ForkRow.{ForkRow}
use Rattle.st_base.specs.declared.image.Image.{Image}
use Rattle.st_rv.specs.declared.ins.Ins.{Ins}
use Rattle.st_rv.specs.Rows.{IsRow}
use Rattle.st_model.specs.declared.code.Layout.{Layout}
use Rattle.st_model.specs.declared.code.PostedIns.{PostedIns}
use Rattle.st_model.specs.declared.code.PostedWord.{PostedWord}
use Rattle.st_model.specs.declared.program.Item.{Item}
use Rattle.st_model.specs.declared.program.ItemKind.{ItemKind}
use Rattle.st_model.specs.declared.program.ItemKind.TheVariants as items
use Rattle.st_model.specs.declared.program.Program.{Program}
use Rattle.st_model.specs.declared.program.ProgramFunction.{ProgramFunction}
use Rattle.st_step.specs.Frames.{address_in}
use Rattle.st_model.specs.Layout.{IsCodeOf, return, item_ins, item_size, items_size, item_place, function_size, functions_size, fork_row, item_forks, forks_from, forks_of, program_words, code_start, code_of, AreWords}
use Rattle.st_step.specs.Moves.{Fetches}
use Rattle.st_items.specs.Code.{word_index, code_at, HasItem}
use Rattle.st_items.specs.Tables.{handles_of}
use Rattle.st_items.proofs.Words.{set_there, set_other, item-length, program-word, program-length, code-length}
use Rattle.st_items.proofs.Addresses.{word_index_at, word_place, code_at_word, function-within, item-within}

module _ (layout : Layout) where
  -- ---- lines and beginnings

  -- some word stands there, of the item's line; the first begins the item
  word-of-item : (p : Program) (f : ℕ) (function : ProgramFunction) (i : ℕ) (item : Item) (k : ℕ) → HasItem p f function i item → k < item_size layout function item.kind → (x : PostedIns) × (slice_get (program_words layout p) (word_index (address_in layout p f function i + 4 * k)) ≡ Some (record { line = item.line; begins = k == 0; ins = x }))
  word-of-item p f function i item k has inside =
      let long = item-length layout function (item_place layout function i) item.kind in
      let x = get_or (item_ins layout function (item_place layout function i) item.kind) k return in
      let there = slice_get-get_or (item_ins layout function (item_place layout function i) item.kind) k return (omega (arith, long)) in
      (x, ap (slice_get (program_words layout p)) (word_index_at (address_in layout p f function i + 4 * k) _ (word_place layout p f function i k)) ∙ program-word layout p f function i item k x has.named has.placed there)

  pub begins_at : (p : Program) (image : Image) (f : ℕ) (function : ProgramFunction) (i : ℕ) (item : Item) (k : ℕ) → IsCodeOf layout p image → HasItem p f function i item → k < item_size layout function item.kind → slice_get image.begins (word_index (address_in layout p f function i + 4 * k)) ≡ Some (k == 0)
  begins_at p image f function i item k pi has inside =
      let word = word-of-item p f function i item k has inside in
      let n = word_index (address_in layout p f function i + 4 * k) in
      ap (λ (bs : List Bool). slice_get bs n) pi.is_image.begins
      ∙ slice_get-map (λ (w : PostedWord). w.begins) (program_words layout p) n
      ∙ ap (option_map (λ (w : PostedWord). w.begins)) word.1

  pub lines_at : (p : Program) (image : Image) (f : ℕ) (function : ProgramFunction) (i : ℕ) (item : Item) (k : ℕ) → IsCodeOf layout p image → HasItem p f function i item → k < item_size layout function item.kind → slice_get image.lines (word_index (address_in layout p f function i + 4 * k)) ≡ Some item.line
  lines_at p image f function i item k pi has inside =
      let word = word-of-item p f function i item k has inside in
      let n = word_index (address_in layout p f function i + 4 * k) in
      ap (λ (ls : List Line). slice_get ls n) pi.is_image.lines
      ∙ slice_get-map (λ (w : PostedWord). w.line) (program_words layout p) n
      ∙ ap (option_map (λ (w : PostedWord). w.line)) word.1

  -- ---- words

  pub words_decoded : (p : Program) (image : Image) → IsCodeOf layout p image → AreWords (code_of layout p) image.words
  words_decoded p image pi = pi.is_image.words

  words-many : (is : List Ins) (ws : List ℕ) → AreWords is ws → length ws ≡ length is
  words-many [] [] are = refl
  words-many [] (w ∷ ws) are = absurd are
  words-many (i ∷ is) [] are = absurd are
  words-many (i ∷ is) (w ∷ ws) are = ap suc (words-many is ws are.1)

  pub words_length : (p : Program) (image : Image) → IsCodeOf layout p image → length image.words ≡ length (code_of layout p)
  words_length p image pi = words-many (code_of layout p) image.words pi.is_image.words

  pub begins_length : (p : Program) (image : Image) → IsCodeOf layout p image → length image.begins ≡ length (code_of layout p)
  begins_length p image pi = ap length pi.is_image.begins ∙ length-map (program_words layout p) (λ w. w.begins) ∙ program-length layout p ∙ sym (code-length layout p)

  word-decoded : (is : List Ins) (ws : List ℕ) (n : ℕ) (i : Ins) → AreWords is ws → slice_get is n ≡ Some i → (word : ℕ) × (slice_get ws n ≡ Some word) × IsRow i word
  word-decoded [] ws n i are there = cc
  word-decoded (j ∷ is) [] n i are there = absurd are
  word-decoded (j ∷ is) (w ∷ ws) zero i are there = let same : j ≡ i = cc in (w, refl, subst (λ (x : Ins). IsRow x w) same are.0)
  word-decoded (j ∷ is) (w ∷ ws) (suc n) i are there = word-decoded is ws n i are.1 there

  -- the machine fetches the instruction that stands there
  pub fetched_at : (p : Program) (image : Image) (pc place : ℕ) (i : Ins) → IsCodeOf layout p image → pc ≡ 0x10000 + 4 * place → code_at layout p pc ≡ Some i → Fetches image pc i
  fetched_at p image pc place i pi at there =
      let word = word-decoded (code_of layout p) image.words place i pi.is_image.words (sym (code_at_word layout p pc place at) ∙ there) in
      record { place = place; at = at; word = word.0; there = word.1; row = word.2 }

  -- ---- handles

  handles-append : (xs ys : List ForkRow) (table : List Reg) → handles_of (xs ++ ys) table ≡ handles_of ys (handles_of xs table)
  handles-append [] ys table = refl
  handles-append (x ∷ xs) ys table = handles-append xs ys (set table (word_index x.at) x.handle)

  handles-length : (rows : List ForkRow) (table : List Reg) → length (handles_of rows table) ≡ length table
  handles-length [] table = refl
  handles-length (row ∷ rows) table = handles-length rows (set table (word_index row.at) row.handle) ∙ length-set table (word_index row.at) row.handle

  -- none of the rows is of the word n
  abbrev NoRow : ℕ → List ForkRow → Type 0
  NoRow n [] = Prim.Unit
  NoRow n (row ∷ rows) = (n ≢ word_index row.at) × NoRow n rows

  no-row-among : (n : ℕ) (xs ys : List ForkRow) → NoRow n xs → NoRow n ys → NoRow n (xs ++ ys)
  no-row-among n [] ys a b = b
  no-row-among n (x ∷ xs) ys a b = (a.0, no-row-among n xs ys a.1 b)

  no-row-keeps : (n : ℕ) (rows : List ForkRow) (table : List Reg) → NoRow n rows → slice_get (handles_of rows table) n ≡ slice_get table n
  no-row-keeps n [] table none = refl
  no-row-keeps n (row ∷ rows) table none = no-row-keeps n rows (set table (word_index row.at) row.handle) none.1 ∙ set_other table (word_index row.at) n row.handle none.0

  -- the rows make this the handle at the word n
  abbrev MakesHandle : ℕ → Reg → List ForkRow → Type 0
  MakesHandle n handle rows = (table : List Reg) → n < length table → slice_get (handles_of rows table) n ≡ Some handle

  handle-behind : (n : ℕ) (handle : Reg) (xs ys : List ForkRow) → MakesHandle n handle ys → MakesHandle n handle (xs ++ ys)
  handle-behind n handle xs ys makes table inside =
      let long = handles-length xs table in
      ap (λ (rs : List Reg). slice_get rs n) (handles-append xs ys table) ∙ makes (handles_of xs table) (omega (arith, long, inside))

  handle-before : (n : ℕ) (handle : Reg) (xs ys : List ForkRow) → MakesHandle n handle xs → NoRow n ys → MakesHandle n handle (xs ++ ys)
  handle-before n handle xs ys makes none table inside =
      ap (λ (rs : List Reg). slice_get rs n) (handles-append xs ys table) ∙ no-row-keeps n ys (handles_of xs table) none ∙ makes table inside

  fork-handle : (n address : ℕ) (g : ℕ) (handle : Reg) → word_index address ≡ n → MakesHandle n handle (fork_row address (items.Fork g handle))
  fork-handle n address g handle is table inside = ap (λ m. slice_get (set table m handle) n) is ∙ set_there table n handle inside

  -- rows of later words
  later-fork : (n m address : ℕ) (kind : ItemKind) → address ≡ 0x10000 + 4 * m → n < m → NoRow n (fork_row address kind)
  later-fork n m address (items.Fork g handle) at later = let word = word_index_at address m at in ((λ e. omega (arith, e, word)), tt)
  later-fork n m address items.Prologue at later = tt
  later-fork n m address items.Epilogue at later = tt
  later-fork n m address (items.Plain i) at later = tt
  later-fork n m address (items.Li rd value) at later = tt
  later-fork n m address (items.Branch op rs1 rs2 to) at later = tt
  later-fork n m address (items.Jump to) at later = tt
  later-fork n m address (items.Call f) at later = tt
  later-fork n m address (items.Entry entry) at later = tt

  later-items : (n m address : ℕ) (function : ProgramFunction) (xs : List Item) → address ≡ 0x10000 + 4 * m → n < m → NoRow n (item_forks layout function address xs)
  later-items n m address function [] at later = tt
  later-items n m address function (x ∷ xs) at later =
      let size = item_size layout function x.kind in
      no-row-among n (fork_row address x.kind) (item_forks layout function (address + 4 * size) xs) (later-fork n m address x.kind at later)
      (later-items n (m + size) (address + 4 * size) function xs (omega (arith, at)) (omega (arith, later)))

  later-functions : (n m address : ℕ) (fs : List ProgramFunction) → address ≡ 0x10000 + 4 * m → n < m → NoRow n (forks_from layout address fs)
  later-functions n m address [] at later = tt
  later-functions n m address (f ∷ fs) at later =
      let size = function_size layout f in
      no-row-among n (item_forks layout f address f.items) (forks_from layout (address + 4 * size) fs) (later-items n m address f f.items at later)
      (later-functions n (m + size) (address + 4 * size) fs (omega (arith, at)) (omega (arith, later)))

  -- the rows of items and functions, of which the first is at the word m
  items-handle : (n m address : ℕ) (function : ProgramFunction) (xs : List Item) (i : ℕ) (item : Item) (g : ℕ) (handle : Reg) → address ≡ 0x10000 + 4 * m → n ≡ m + items_size layout function (take i xs) → slice_get xs i ≡ Some item → item.kind ≡ items.Fork g handle → MakesHandle n handle (item_forks layout function address xs)
  items-handle n m address function [] i item g handle at is placed kind = cc
  items-handle n m address function (x ∷ xs) zero item g handle at is placed kind =
      let same : item ≡ x = cc in
      let fork : items.Fork g handle ≡ x.kind = sym kind ∙ ap (λ (y : Item). y.kind) same in
      let size : item_size layout function x.kind ≡ 3 = sym (ap (item_size layout function) fork) in
      let first : n ≡ m = omega (arith, is) in
      let row = fork-handle n address g handle (word_index_at address m at ∙ sym first) in
      handle-before n handle (fork_row address x.kind) (item_forks layout function (address + 4 * item_size layout function x.kind) xs)
      (subst (λ (c : ItemKind). MakesHandle n handle (fork_row address c)) fork row)
      (later-items n (m + item_size layout function x.kind) (address + 4 * item_size layout function x.kind) function xs (omega (arith, at)) (omega (arith, first, size)))
  items-handle n m address function (x ∷ xs) (suc i) item g handle at is placed kind =
      let size = item_size layout function x.kind in
      handle-behind n handle (fork_row address x.kind) (item_forks layout function (address + 4 * size) xs)
      (items-handle n (m + size) (address + 4 * size) function xs i item g handle (omega (arith, at)) (omega (arith, is)) placed kind)

  functions-handle : (n m address : ℕ) (fs : List ProgramFunction) (f : ℕ) (function : ProgramFunction) (i : ℕ) (item : Item) (g : ℕ) (handle : Reg) → address ≡ 0x10000 + 4 * m → n ≡ m + (functions_size layout (take f fs) + item_place layout function i) → slice_get fs f ≡ Some function → slice_get function.items i ≡ Some item → item.kind ≡ items.Fork g handle → MakesHandle n handle (forks_from layout address fs)
  functions-handle n m address [] f function i item g handle at is named placed kind = cc
  functions-handle n m address (h ∷ hs) zero function i item g handle at is named placed kind =
      let same : function ≡ h = cc in
      let size = ap (function_size layout) same in
      let three = ap (item_size layout function) kind in
      let within = item-within layout function function.items i item placed in
      let behind = later-functions n (m + function_size layout h) (address + 4 * function_size layout h) hs (omega (arith, at)) (omega (arith, is, size, three, within)) in
      let first = items-handle n m address function function.items i item g handle at (omega (arith, is)) placed kind in
      handle-before n handle (item_forks layout h address h.items) (forks_from layout (address + 4 * function_size layout h) hs)
      (subst (λ (q : ProgramFunction). MakesHandle n handle (item_forks layout q address q.items)) same first) behind
  functions-handle n m address (h ∷ hs) (suc f) function i item g handle at is named placed kind =
      let size = function_size layout h in
      handle-behind n handle (item_forks layout h address h.items) (forks_from layout (address + 4 * size) hs)
      (functions-handle n (m + size) (address + 4 * size) hs f function i item g handle (omega (arith, at)) (omega (arith, is)) named placed kind)

  program-handle : (p : Program) (f : ℕ) (function : ProgramFunction) (i : ℕ) (item : Item) (g : ℕ) (handle : Reg) → HasItem p f function i item → item.kind ≡ items.Fork g handle → MakesHandle (functions_size layout (take f p.functions) + item_place layout function i) handle (forks_of layout p)
  unfolding forks_of
  program-handle p f function i item g handle has kind =
      functions-handle (functions_size layout (take f p.functions) + item_place layout function i) 0 code_start p.functions f function i item g handle refl (omega arith) has.named has.placed kind

  pub handle_at : (p : Program) (image : Image) (f : ℕ) (function : ProgramFunction) (i : ℕ) (item : Item) (g : ℕ) (handle : Reg) → IsCodeOf layout p image → HasItem p f function i item → item.kind ≡ items.Fork g handle → slice_get (handles_of image.forks (replicate (length image.words) registers.Zero)) (word_index (address_in layout p f function i)) ≡ Some handle
  handle_at p image f function i item g handle pi has kind =
      let n = functions_size layout (take f p.functions) + item_place layout function i in
      let table = replicate (length image.words) registers.Zero in
      let all = length-replicate (length image.words) registers.Zero in
      let words = words_length p image pi in
      let code = code-length layout p in
      let outer = function-within layout p.functions f function has.named in
      let inner = item-within layout function function.items i item has.placed in
      let three = ap (item_size layout function) kind in
      let place = word_index_at (address_in layout p f function i) n (omega arith) in
      let inside : n < length table = omega (arith, all, words, code, outer, inner, three) in
      ap (λ (rows : List ForkRow). slice_get (handles_of rows table) (word_index (address_in layout p f function i))) pi.is_image.forks
      ∙ ap (slice_get (handles_of (forks_of layout p) table)) place
      ∙ program-handle p f function i item g handle has kind table inside
