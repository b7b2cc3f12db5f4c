-- The lines of a unit are lines of its texts: unit_line-file.
use Rattle.std.proofs.Common.{ℕ, ◌≡◌, ◌+◌, ◌≤◌, ◌==◌, Bool, true, false, List, [], ◌∷◌, ◌++◌, length, Option, Some, None, Result, Ok, Err, refl, subst, cond, arith, All, inl, inr}
use Rattle.std.specs.Prelude.{IfSome}
use Rattle.std.proofs.lemmas.Option.{slice_get_within, get_or_from_slice_get}
use Rattle.std.proofs.lemmas.List.Elements.{All-nil, All-cons, All-head, All-tail, All-append, All-push, All-map, All-get_or, All-weaker}
use Rattle.st_base.specs.declared.line.Line.{Line}
use Rattle.st_line.specs.declared.fault.AsmKind.{AsmKind}
use Rattle.st_line.specs.declared.fault.AsmKind.TheVariants.{DoubleLabel, NoLabel, TooLarge}
use Rattle.st_line.specs.declared.fault.AsmFault.{AsmFault}
use Rattle.st_line.specs.declared.source.Statement.{Statement}
use Rattle.st_line.specs.declared.source.Statement.TheVariants as statements
use Rattle.st_line.specs.Statement.{◌>>=◌, require, line_label, line_statement}
use Rattle.st_asm.specs.declared.unit.SourceLine.{SourceLine}
use Rattle.st_asm.specs.declared.unit.Function.{Function}
use Rattle.st_asm.specs.Labels.{Located, Definition, lines_of, numbered, located, definitions_of, is_local, is_single, is_known}
use Rattle.st_asm.specs.Assembly.{Assembly, Parts, nothing, one_or_none, functions_in, begin_file, begin_line, local_label, label_in, labelled, aligned, on_function, with_statement, stated, name_given, is_small, checked_line, checked_lines, then_lines, item_in, function_in, parts_in, unit_from, unit_when, unit_of, too_long}
use Rattle.st_asm.proofs.ReadSteps.{bind-ok, ok-same}
use Rattle.st_check.specs.Acceptance.{IsFunctionLine, IsUnitLine}

-- ---- what is assembled of lines of a kind has lines of that kind alone

module _ (P : Line → Type 0) where
  record HasLines (function : Function) : Type 0 where
    own : P function.line
    items : All (λ item. P item.line) function.items

  record Has (a : Assembly) : Type 0 where
    functions : All HasLines a.functions
    current : IfSome a.current HasLines

  has-nothing : Has nothing
  has-nothing = record { functions = All-nil HasLines; current = tt }

  has-one : (o : Option Function) → IfSome o HasLines → All HasLines (one_or_none o)
  has-one None h = All-nil HasLines
  has-one (Some f) h = All-cons HasLines f [] h (All-nil HasLines)

  has-functions : (a : Assembly) → Has a → All HasLines (functions_in a)
  has-functions a h = All-append HasLines a.functions (one_or_none a.current) h.functions (has-one a.current h.current)

  has-begun : (b : Bool) (a : Assembly) → Has a → Has (cond b (begin_file a) a)
  has-begun true a h = record { functions = has-functions a h; current = tt }
  has-begun false a h = h

  has-local : (line : Line) (name : List ℕ) (o : Option Function) (a : Assembly) → Has a → Has (local_label line name o a)
  has-local line name None a h = h
  has-local line name (Some f) a h = record { functions = h.functions; current = h.current }

  has-label : (in_data local : Bool) (line : Line) (name : List ℕ) (a : Assembly) → P line → Has a → Has (label_in in_data local line name a)
  has-label true local line name a p h = record { functions = h.functions; current = h.current }
  has-label false true line name a p h = has-local line name a.current a h
  has-label false false line name a p h = record { functions = has-functions a h; current = record { own = p; items = All-nil (λ (item : SourceLine). P item.line) } }

  has-labelled : (line : Line) (o : Option (List ℕ)) (a : Assembly) → P line → Has a → Has (labelled line o a)
  has-labelled line None a p h = h
  has-labelled line (Some name) a p h = has-label a.standing.in_data (is_local name) line name a p h

  has-on : (f : Function → Function) (o : Option Function) → ((g : Function) → HasLines g → HasLines (f g)) → IfSome o HasLines → IfSome (on_function f o) HasLines
  has-on f None keeps h = tt
  has-on f (Some g) keeps h = keeps g h

  has-aligned : (in_data : Bool) (power : ℕ) (a : Assembly) → Has a → Has (aligned in_data power a)
  has-aligned true power a h = record { functions = h.functions; current = h.current }
  has-aligned false power a h = h

  has-statement : (line : Line) (statement : Statement) (a : Assembly) → P line → Has a → Has (with_statement line statement a)
  has-statement line statements.Ignored a p h = h
  has-statement line statements.Code a p h = record { functions = h.functions; current = h.current }
  has-statement line statements.Rodata a p h = record { functions = h.functions; current = h.current }
  has-statement line (statements.Align power) a p h = has-aligned a.standing.in_data power a h
  has-statement line (statements.Data bytes) a p h = record { functions = h.functions; current = h.current }
  has-statement line (statements.Zeros count) a p h = record { functions = h.functions; current = h.current }
  has-statement line (statements.Arguments ints handles) a p h =
      record { functions = h.functions; current = has-on (λ f. record f { ints = ints; handles = handles }) a.current (λ g k. record { own = k.own; items = k.items }) h.current }
  has-statement line (statements.Handles slots) a p h =
      record { functions = h.functions; current = has-on (λ f. record f { slots = slots }) a.current (λ g k. record { own = k.own; items = k.items }) h.current }
  has-statement line (statements.Instruction ins) a p h =
      let item : SourceLine = record { line = line; labelled = a.marked; ins = ins } in
      record {
        functions = h.functions;
        current = has-on (λ f. record f { items = f.items ++ item ∷ [] }) a.current (λ g k. record { own = k.own; items = All-push (λ (i : SourceLine). P i.line) g.items item k.items p }) h.current;
      }

  has-stated : (line : Line) (o : Option Statement) (a : Assembly) → P line → Has a → Has (stated line o a)
  has-stated line None a p h = h
  has-stated line (Some statement) a p h = has-statement line statement a p h

  has-line : (ds : List Definition) (l : Located) (a b : Assembly) → checked_line ds a l ≡ Ok b → P l.line → Has a → Has b
  unfolding checked_line
  has-line ds l a b e p h =
      let c : Assembly = labelled l.line (line_label l.text) (begin_line l.line a) in
      let s = bind-ok (line_statement c.standing l.text) (λ statement. require (is_single ds l.line (line_label l.text)) DoubleLabel >>= λ single. require (is_known ds l.line.file (name_given statement)) NoLabel >>= λ known. require (is_small (stated l.line statement c)) TooLarge >>= λ small. Ok (stated l.line statement c)) b e in
      let single = bind-ok (require (is_single ds l.line (line_label l.text)) DoubleLabel) (λ single. require (is_known ds l.line.file (name_given s.0)) NoLabel >>= λ known. require (is_small (stated l.line s.0 c)) TooLarge >>= λ small. Ok (stated l.line s.0 c)) b s.2 in
      let known = bind-ok (require (is_known ds l.line.file (name_given s.0)) NoLabel) (λ known. require (is_small (stated l.line s.0 c)) TooLarge >>= λ small. Ok (stated l.line s.0 c)) b single.2 in
      let small = bind-ok (require (is_small (stated l.line s.0 c)) TooLarge) (λ small. Ok (stated l.line s.0 c)) b known.2 in
      let same : stated l.line s.0 c ≡ b = ok-same _ b small.2 in
      subst Has same (has-stated l.line s.0 c p (has-labelled l.line (line_label l.text) (begin_line l.line a) p (has-begun (l.line.line == 1) a h)))

  then_lines-has : (line : Line) (rest : Assembly → Result Assembly AsmFault) (r : Result Assembly AsmKind) (b : Assembly) → then_lines line rest r ≡ Ok b → ((a : Assembly) → r ≡ Ok a → rest a ≡ Ok b → Has b) → Has b
  then_lines-has line rest (Ok a) b e k = k a refl e
  then_lines-has line rest (Err kind) b e k = let no : ⊥ = cc in absurd no

  has-lines : (ds : List Definition) (a b : Assembly) (ls : List Located) → checked_lines ds a ls ≡ Ok b → All (λ l. P l.line) ls → Has a → Has b
  has-lines ds a b [] e ps h = let same : a ≡ b = cc in subst Has same h
  has-lines ds a b (l ∷ ls) e ps h =
      let Q : Located → Type 0 = λ m. P m.line in
      then_lines-has l.line (λ c. checked_lines ds c ls) (checked_line ds a l) b e (λ c made rest. has-lines ds c b ls rest (All-tail Q l ls ps) (has-line ds l a c made (All-head Q l ls ps) h))

  has-parts : (a : Assembly) → Has a → All HasLines (parts_in a).functions
  has-parts a h =
      All-map HasLines (function_in a.labels) (functions_in a)
      (All-weaker HasLines (λ f. HasLines (function_in a.labels f)) (λ f k. record { own = k.own; items = All-map (λ (item : SourceLine). P item.line) (item_in a.labels) f.items k.items }) (functions_in a) (has-functions a h))

  unit_from-has : (r : Result Assembly AsmFault) (parts : Parts) → unit_from r ≡ Ok parts → ((a : Assembly) → r ≡ Ok a → Has a) → All HasLines parts.functions
  unit_from-has (Ok a) parts e k = let same : parts_in a ≡ parts = cc in subst (λ (q : Parts). All HasLines q.functions) same (has-parts a (k a refl))
  unit_from-has (Err fault) parts e k = let no : ⊥ = cc in absurd no

  unit_when-has : (o : Option ℕ) (ls : List Located) (parts : Parts) → unit_when o ls ≡ Ok parts → All (λ l. P l.line) ls → All HasLines parts.functions
  unit_when-has (Some file) ls parts e ps = let no : ⊥ = cc in absurd no
  unit_when-has None ls parts e ps = unit_from-has (checked_lines (definitions_of ls) nothing ls) parts e (λ a made. has-lines (definitions_of ls) nothing a ls made ps has-nothing)

  function-line : (function : Function) (line : Line) → HasLines function → IsFunctionLine function line → P line
  function-line function line h (inl own) = subst P own h.own
  function-line function line h (inr (i, (item, there, is))) =
      let Q : SourceLine → Type 0 = λ m. P m.line in
      subst P is (subst Q (get_or_from_slice_get function.items i item item there) (All-get_or Q function.items i item (slice_get_within function.items i item there) h.items))

  unit-line : (functions : List Function) (line : Line) → All HasLines functions → IsUnitLine functions line → P line
  unit-line functions line h (f, (function, there, is)) =
      function-line function line (subst HasLines (get_or_from_slice_get functions f function function there) (All-get_or HasLines functions f function (slice_get_within functions f function there) h)) is

-- ---- the lines of texts

-- a line of a file from this one on, up to another
abbrev IsWithin : ℕ → ℕ → Line → Type 0
IsWithin from end line = (from ≤ line.file) × (line.file ≤ end)

numbered-within : (from end file n : ℕ) (ts : List (List ℕ)) → from ≤ file → file ≤ end → All (λ l. IsWithin from end l.line) (numbered file n ts)
numbered-within from end file n [] low high = All-nil (λ (l : Located). IsWithin from end l.line)
numbered-within from end file n (t ∷ ts) low high = All-cons (λ (l : Located). IsWithin from end l.line) _ (numbered file (n + 1) ts) (low, high) (numbered-within from end file (n + 1) ts low high)

located-within : (from file end : ℕ) (texts : List (List ℕ)) → from ≤ file → file + length texts ≤ end + 1 → All (λ l. IsWithin from end l.line) (located file texts)
located-within from file end [] low high = All-nil (λ (l : Located). IsWithin from end l.line)
located-within from file end (t ∷ ts) low high =
    All-append (λ (l : Located). IsWithin from end l.line) (numbered file 1 (lines_of t)) (located (file + 1) ts)
    (numbered-within from end file 1 (lines_of t) low (omega arith))
    (located-within from (file + 1) end ts (omega arith) (omega arith))

pub unit_line-file : (texts : List (List ℕ)) (parts : Parts) (line : Line) → unit_of texts ≡ Ok parts → IsUnitLine parts.functions line → (1 ≤ line.file) × (line.file ≤ length texts)
unfolding unit_of
unit_line-file texts parts line e is =
    unit-line (IsWithin 1 (length texts)) parts.functions line
    (unit_when-has (IsWithin 1 (length texts)) (too_long 1 0 texts) (located 1 texts) parts e (located-within 1 1 (length texts) texts (omega arith) (omega arith))) is
