-- The items of a unit stand in the order of files and lines: each line adds at most one item behind all others, with its own line
-- (lines-added), so all items have lines of the texts in their order (lines-read), and those ascend (located-ordered). Reach for
-- items-ordered. IsEarlier is no circle: earlier-not_same, earlier-not_later.
use Rattle.std.proofs.Common.{◌≡◌, ℕ, ◌+◌, ◌<◌, ◌==◌, Bool, true, false, List, [], ◌∷◌, ◌++◌, map, Option, Some, None, Ok, inl, inr, refl, sym, ap, subst, ◌∙◌, cond, append_assoc, append-nil, arith, All}
use Rattle.std.specs.Prelude.{AllPairs}
use Rattle.std.proofs.lemmas.List.{map-append}
use Rattle.std.proofs.lemmas.List.Elements.{All-map, All-weaker}
use Rattle.std.proofs.lemmas.List.Kept.{AllPairs-cons}
use Rattle.st_base.specs.declared.line.Line.{Line}
use Rattle.st_line.specs.declared.source.Statement.{Statement}
use Rattle.st_line.specs.declared.source.Statement.TheVariants as statements
use Rattle.st_line.specs.Statement.{line_label}
use Rattle.st_asm.specs.declared.unit.SourceLine.{SourceLine}
use Rattle.st_asm.specs.declared.unit.Function.{Function}
use Rattle.st_asm.specs.Labels.{Located, lines_of, numbered, located, is_local, Definition}
use Rattle.st_asm.specs.Assembly.{Label, Assembly, nothing, one_or_none, functions_in, begin_file, begin_line, local_label, label_in, labelled, aligned, on_function, stated, checked_line, checked_lines, item_in, function_in}
use Rattle.st_asm.specs.Unit.{IsEarlier, item_lines}
use Rattle.st_asm.proofs.Kept.{checked_line-made, then_lines-ok, fault-same}
use Rattle.st_asm.proofs.Apartness.{IsFrom, IsOf, numbered-from, located-of}
use Rattle.st_asm.proofs.InOrder.{HasInOrder, in_order-refl, in_order-front, in_order-append, in_order-trans, pairs-none, pairs-append, pairs-in_order}

-- ---- earlier lines

pub earlier-not_same : (a : Line) → IsEarlier a a → ⊥
earlier-not_same a (inl file) = omega arith
earlier-not_same a (inr line) = let before : a.line < a.line = line.1 in omega arith

pub earlier-not_later : (a b : Line) → IsEarlier a b → IsEarlier b a → ⊥
earlier-not_later a b (inl file) (inl other) = omega arith
earlier-not_later a b (inl file) (inr other) = let same : b.file ≡ a.file = other.0 in omega arith
earlier-not_later a b (inr line) (inl other) = let same : a.file ≡ b.file = line.0 in omega arith
earlier-not_later a b (inr line) (inr other) = let before : a.line < b.line = line.1 in let after : b.line < a.line = other.1 in omega arith

-- ---- the lines of texts ascend

abbrev pub located_lines : List Located → List Line
located_lines ls = map (λ l. l.line) ls

numbered-ordered : (file n : ℕ) (ts : List (List ℕ)) → AllPairs IsEarlier (located_lines (numbered file n ts))
numbered-ordered file n [] = pairs-none IsEarlier
numbered-ordered file n (t ∷ ts) =
    let line : Line = record { file = file; line = n } in
    let behind : List Located = numbered file (n + 1) ts in
    AllPairs-cons IsEarlier line (located_lines behind)
    (All-map (IsEarlier line) (λ (m : Located). m.line) behind
    (All-weaker (IsFrom file (n + 1)) (λ (m : Located). IsEarlier line m.line) (λ m h. let b = h.later in inr (sym h.own, omega arith)) behind (numbered-from file (n + 1) ts)))
    (numbered-ordered file (n + 1) ts)

pub located-ordered : (file : ℕ) (texts : List (List ℕ)) → AllPairs IsEarlier (located_lines (located file texts))
located-ordered file [] = pairs-none IsEarlier
located-ordered file (t ∷ ts) =
    let own : List Located = numbered file 1 (lines_of t) in
    let later : List Located = located (file + 1) ts in
    subst (AllPairs IsEarlier) (sym (map-append (λ (m : Located). m.line) own later))
    (pairs-append IsEarlier (located_lines own) (located_lines later) (numbered-ordered file 1 (lines_of t)) (located-ordered (file + 1) ts)
    (All-map (λ (x : Line). All (IsEarlier x) (located_lines later)) (λ (m : Located). m.line) own
    (All-weaker (IsFrom file 1) (λ (l : Located). All (IsEarlier l.line) (located_lines later))
    (λ l h. All-map (IsEarlier l.line) (λ (m : Located). m.line) later
    (All-weaker (IsOf (file + 1)) (λ (m : Located). IsEarlier l.line m.line) (λ m o. let c = h.own in let b = o.later in inl (omega arith)) later (located-of (file + 1) ts)))
    own (numbered-from file 1 (lines_of t)))))

-- ---- the lines of items

pub item_lines-append : (fs gs : List Function) → item_lines (fs ++ gs) ≡ item_lines fs ++ item_lines gs
item_lines-append [] gs = refl
item_lines-append (f ∷ fs) gs =
    let own : List Line = map (λ (item : SourceLine). item.line) f.items in
    ap (λ ls. own ++ ls) (item_lines-append fs gs) ∙ sym (append_assoc own (item_lines fs) (item_lines gs))

-- the lines of what was assembled
abbrev pub lines_in : Assembly → List Line
lines_in a = item_lines (functions_in a)

lines-begin : (line : Line) (a : Assembly) → lines_in (begin_line line a) ≡ lines_in a
lines-begin line a = elim (line.line == 1) as (λ b. lines_in (cond b (begin_file a) a) ≡ lines_in a) [ true ↦ ap item_lines (append-nil (functions_in a)) | false ↦ refl ]

lines-labelled : (line : Line) (label : Option (List ℕ)) (a : Assembly) → lines_in (labelled line label a) ≡ lines_in a
lines-labelled line None a = refl
lines-labelled line (Some name) a = in_place a.standing.in_data (is_local name)
  where
    local : (current : Option Function) → lines_in (local_label line name current a) ≡ lines_in a
    local None = refl
    local (Some f) = refl

    in_place : (in_data is_local : Bool) → lines_in (label_in in_data is_local line name a) ≡ lines_in a
    in_place true is_local = refl
    in_place false true = local a.current
    in_place false false = item_lines-append (functions_in a) _ ∙ append-nil (lines_in a)

-- a statement that adds no item to the function that goes on
lines-current : (change : Function → Function) (fs : List Function) (current : Option Function) → ((f : Function) → (change f).items ≡ f.items) → item_lines (fs ++ one_or_none (on_function change current)) ≡ item_lines (fs ++ one_or_none current)
lines-current change fs None same = refl
lines-current change fs (Some f) same =
    item_lines-append fs (change f ∷ []) ∙ ap (λ items. item_lines fs ++ (map (λ (item : SourceLine). item.line) items ++ [])) (same f) ∙ sym (item_lines-append fs (f ∷ []))

-- one that adds an item
lines-item : (item : SourceLine) (fs : List Function) (current : Option Function) → HasInOrder (item_lines (fs ++ one_or_none current) ++ item.line ∷ []) (item_lines (fs ++ one_or_none (on_function (λ f. record f { items = f.items ++ item ∷ [] }) current)))
lines-item item fs None = in_order-front (item_lines (fs ++ [])) (item.line ∷ [])
lines-item item fs (Some f) =
    let front : List Line = item_lines fs in
    let own : List Line = map (λ (i : SourceLine). i.line) f.items in
    let grown : Function = record f { items = f.items ++ item ∷ [] } in
    let same : item_lines (fs ++ grown ∷ []) ≡ item_lines (fs ++ f ∷ []) ++ item.line ∷ [] =
    item_lines-append fs (grown ∷ [])
    ∙ ap (λ ls. front ++ ls) (append-nil (map (λ (i : SourceLine). i.line) grown.items) ∙ map-append (λ (i : SourceLine). i.line) f.items (item ∷ []))
    ∙ sym (append_assoc front own (item.line ∷ []))
    ∙ ap (λ ls. ls ++ item.line ∷ []) (ap (λ ls. front ++ ls) (sym (append-nil own)) ∙ sym (item_lines-append fs (f ∷ []))) in
    subst (HasInOrder (item_lines (fs ++ f ∷ []) ++ item.line ∷ [])) (sym same) (in_order-refl (item_lines (fs ++ f ∷ []) ++ item.line ∷ []))

lines-aligned : (in_data : Bool) (power : ℕ) (a : Assembly) → lines_in (aligned in_data power a) ≡ lines_in a
lines-aligned true power a = refl
lines-aligned false power a = refl

lines-same : (line : Line) (xs ys : List Line) → ys ≡ xs → HasInOrder (xs ++ line ∷ []) ys
lines-same line xs ys same = subst (HasInOrder (xs ++ line ∷ [])) (sym same) (in_order-front xs (line ∷ []))

lines-stated : (line : Line) (s : Option Statement) (a : Assembly) → HasInOrder (lines_in a ++ line ∷ []) (lines_in (stated line s a))
lines-stated line None a = lines-same line (lines_in a) _ refl
lines-stated line (Some statements.Ignored) a = lines-same line (lines_in a) _ refl
lines-stated line (Some statements.Code) a = lines-same line (lines_in a) _ refl
lines-stated line (Some statements.Rodata) a = lines-same line (lines_in a) _ refl
lines-stated line (Some (statements.Align power)) a = lines-same line (lines_in a) _ (lines-aligned a.standing.in_data power a)
lines-stated line (Some (statements.Data bytes)) a = lines-same line (lines_in a) _ refl
lines-stated line (Some (statements.Zeros count)) a = lines-same line (lines_in a) _ refl
lines-stated line (Some (statements.Arguments ints handles)) a =
    lines-same line (lines_in a) _ (lines-current (λ f. record f { ints = ints; handles = handles }) a.functions a.current (λ f. refl))
lines-stated line (Some (statements.Handles slots)) a =
    lines-same line (lines_in a) _ (lines-current (λ f. record f { slots = slots }) a.functions a.current (λ f. refl))
lines-stated line (Some (statements.Instruction ins)) a = lines-item (record { line = line; labelled = a.marked; ins = ins }) a.functions a.current

-- ---- what lines add

pub lines-added : (ds : List Definition) (l : Located) (a b : Assembly) → checked_line ds a l ≡ Ok b → HasInOrder (lines_in a ++ l.line ∷ []) (lines_in b)
lines-added ds l a b e =
    let made = checked_line-made ds l a b e in
    let c : Assembly = labelled l.line (line_label l.text) (begin_line l.line a) in
    let same : lines_in c ≡ lines_in a = lines-labelled l.line (line_label l.text) (begin_line l.line a) ∙ lines-begin l.line a in
    subst (λ (d : Assembly). HasInOrder (lines_in a ++ l.line ∷ []) (lines_in d)) made.same
    (subst (λ xs. HasInOrder (xs ++ l.line ∷ []) (lines_in (stated l.line made.statement c))) same (lines-stated l.line made.statement c))

pub lines-read : (ds : List Definition) (ls : List Located) (a b : Assembly) → checked_lines ds a ls ≡ Ok b → HasInOrder (lines_in a ++ located_lines ls) (lines_in b)
lines-read ds [] a b e = subst (λ (c : Assembly). HasInOrder (lines_in a ++ []) (lines_in c)) (fault-same a b e) (in_order-front (lines_in a) [])
lines-read ds (l ∷ ls) a b e =
    let step = then_lines-ok l.line (λ c. checked_lines ds c ls) (checked_line ds a l) b e in
    let behind : List Line = located_lines ls in
    let joined = in_order-append (lines_in a ++ l.line ∷ []) (lines_in step.0) behind behind (lines-added ds l a step.0 step.1) (in_order-refl behind) in
    in_order-trans (lines_in a ++ l.line ∷ behind) (lines_in step.0 ++ behind) (lines_in b)
    (subst (λ ys. HasInOrder ys (lines_in step.0 ++ behind)) (append_assoc (lines_in a) (l.line ∷ []) behind) joined)
    (lines-read ds ls step.0 b step.2)

-- the items of what all lines make
pub items-ordered : (texts : List (List ℕ)) (ds : List Definition) (a : Assembly) → checked_lines ds nothing (located 1 texts) ≡ Ok a → AllPairs IsEarlier (item_lines (functions_in a))
items-ordered texts ds a e =
    pairs-in_order IsEarlier (located_lines (located 1 texts)) (lines_in a) (lines-read ds (located 1 texts) nothing a e) (located-ordered 1 texts)

-- ---- names become places

items-placed : (labels : List Label) (items : List SourceLine) → map (λ (i : SourceLine). i.line) (map (item_in labels) items) ≡ map (λ (i : SourceLine). i.line) items
items-placed labels [] = refl
items-placed labels (i ∷ is) = ap (λ ls. i.line ∷ ls) (items-placed labels is)

pub lines-placed : (labels : List Label) (fs : List Function) → item_lines (map (function_in labels) fs) ≡ item_lines fs
lines-placed labels [] = refl
lines-placed labels (f ∷ fs) = λ k. items-placed labels f.items k ++ lines-placed labels fs k
