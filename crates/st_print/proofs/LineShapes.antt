-- What a line of the canonical text says (Said), and when it is read as that (IsRead). The lines come in a few shapes; for each, as
-- read-three for a word with three operands, a line is read by what its word is and what its operands are.
use Rattle.std.proofs.Common.{ℕ, ◌≡◌, Bool, true, false, not, ◌&&◌, List, [], ◌∷◌, refl, ap, ◌∙◌, Option, Some, None, Ok, ℤ}
use Rattle.std.specs.List.{list_all}
use Rattle.st_base.specs.declared.reg.Reg.{Reg}
use Rattle.st_line.specs.declared.source.Statement.{Statement}
use Rattle.st_line.specs.declared.source.Statement.TheVariants as statements
use Rattle.st_line.specs.declared.source.Standing.{Standing}
use Rattle.st_line.specs.declared.words.Word.{Word as Meaning}
use Rattle.st_line.specs.Operands.{Lex, lexemes_of, is_name, Operand, operands_of, register_named, integer, memory_of}
use Rattle.st_line.specs.Words.{word_named, may_stand, is_inside, takes_arguments, takes_handles}
use Rattle.st_line.specs.Statement.{two_operands, three_operands, word_statement, label_and_rest, statement_of, is_allowed, line_label, line_statement}
use Rattle.st_line.proofs.Runs.{is_word}
use Rattle.st_print.specs.Canonical.{Piece, spelled, comma, statement, with_operands, label_line}
use Rattle.st_print.specs.Canonical.Piece.{Mark, Word}
use Rattle.st_print.proofs.Lexing.{AreApart, lexemes_from, allowed-spelled, lexemes-spelled}
use Rattle.st_print.proofs.WordsRead.{name-word, word-comma}

-- ---- what a line says

pub data Said : Type 0 where
  Labels : List ℕ → Said
  States : Statement → Said

abbrev pub label_said : Said → Option (List ℕ)
label_said (Labels name) = Some name
label_said (States s) = None

abbrev pub statement_said : Said → Option Statement
statement_said (Labels name) = None
statement_said (States s) = Some s

-- a statement of the canonical text may stand
abbrev pub may_state : Standing → Statement → Bool
may_state st (statements.Instruction ins) = not st.in_data && is_inside st.part
may_state st (statements.Arguments ints handles) = not st.in_data && takes_arguments st.part
may_state st (statements.Handles slots) = not st.in_data && takes_handles st.part
may_state st statements.Rodata = true
may_state st (statements.Data bytes) = st.in_data
may_state st _ = false

abbrev pub may_say : Standing → Said → Bool
may_say st (Labels name) = true
may_say st (States s) = may_state st s

pub record IsRead (ps : List Piece) (said : Said) : Type 0 where
  pub apart : AreApart ps
  pub label : line_label (spelled ps) ≡ label_said said
  pub statement : (st : Standing) → may_say st said ≡ true → line_statement st (spelled ps) ≡ Ok (statement_said said)

-- ---- from lexemes to lines

label-of : (text : List ℕ) (ls : List Lex) → list_all is_allowed text ≡ true → lexemes_of text ≡ ls → line_label text ≡ (label_and_rest ls).0
label-of text ls h k = rw (h, k) refl

statement-by : (st : Standing) (text : List ℕ) (ls : List Lex) → list_all is_allowed text ≡ true → lexemes_of text ≡ ls → line_statement st text ≡ statement_of st (label_and_rest ls).1
unfolding line_statement
statement-by st text ls h k = rw (h, k) refl

abbrev pub lex : List ℕ → Bool → Lex
lex text glued = record { text = text; glued = glued }

no-label : (w x : List ℕ) (g : Bool) (ls : List Lex) → is_name w ≡ true → label_and_rest (lex w g ∷ lex x false ∷ ls) ≡ (None, lex w g ∷ lex x false ∷ ls)
no-label w x g ls h = rw h refl

own-label : (w : List ℕ) (g : Bool) → is_name w ≡ true → label_and_rest (lex w g ∷ lex (58 ∷ []) true ∷ []) ≡ (Some w, [])
own-label w g h = rw h refl

-- a word of a statement, by what it means
pub record IsVerb (w : List ℕ) (meaning : Meaning) : Type 0 where
  pub word : is_word w ≡ true
  pub name : is_name w ≡ true
  pub named : word_named w ≡ Some meaning

with-operands : (st : Standing) (w x : List ℕ) (g : Bool) (ls : List Lex) (m : Meaning) (s : Statement) → IsVerb w m → may_stand st m ≡ true → word_statement m (operands_of (lex x false ∷ ls)) ≡ Ok s → statement_of st (lex w g ∷ lex x false ∷ ls) ≡ Ok (Some s)
unfolding statement_of
with-operands st w x g ls m s v h e = let n = v.name in let d = v.named in rw (n, d, h, e) refl

without-operands : (st : Standing) (w : List ℕ) (g : Bool) (m : Meaning) (s : Statement) → IsVerb w m → may_stand st m ≡ true → word_statement m [] ≡ Ok s → statement_of st (lex w g ∷ []) ≡ Ok (Some s)
unfolding statement_of
without-operands st w g m s v h e = let n = v.name in let d = v.named in rw (n, d, h, e) refl

no-statement : (st : Standing) → statement_of st [] ≡ Ok None
unfolding statement_of
no-statement st = refl

pub empty-label : line_label [] ≡ None
empty-label = refl

pub empty-statement : (st : Standing) → line_statement st [] ≡ Ok None
unfolding line_statement statement_of
empty-statement st = refl

-- a statement may stand where its word may
abbrev pub StandsAs : Meaning → Statement → Type 0
StandsAs m s = (st : Standing) → may_stand st m ≡ may_state st s

pub read-operands : (w x : List ℕ) (ps : List Piece) (m : Meaning) (s : Statement) → IsVerb w m → AreApart (Word x ∷ ps) → StandsAs m s → word_statement m (operands_of (lexemes_from false (Word x ∷ ps))) ≡ Ok s → IsRead (with_operands w (Word x ∷ ps)) (States s)
read-operands w x ps m s v a stands e =
    let apart : AreApart (with_operands w (Word x ∷ ps)) = (v.word, tt, a) in
    let text = spelled (with_operands w (Word x ∷ ps)) in
    let ls = lex w false ∷ lex x false ∷ lexemes_from true ps in
    let allowed = allowed-spelled (with_operands w (Word x ∷ ps)) apart in
    let lexemes = lexemes-spelled (with_operands w (Word x ∷ ps)) apart in
    let none = no-label w x false (lexemes_from true ps) v.name in
    record {
      apart = apart;
      label = label-of text ls allowed lexemes ∙ ap (λ r. r.0) none;
      statement = λ st h. statement-by st text ls allowed lexemes ∙ ap (λ r. statement_of st r.1) none
          ∙ with-operands st w x false (lexemes_from true ps) m s v (stands st ∙ h) e;
    }

pub read-alone : (w : List ℕ) (m : Meaning) (s : Statement) → IsVerb w m → StandsAs m s → word_statement m [] ≡ Ok s → IsRead (statement w []) (States s)
read-alone w m s v stands e =
    let apart : AreApart (statement w []) = (v.word, tt, tt) in
    let text = spelled (statement w []) in
    let ls = lex w false ∷ [] in
    let allowed = allowed-spelled (statement w []) apart in
    let lexemes = lexemes-spelled (statement w []) apart in
    record {
      apart = apart;
      label = label-of text ls allowed lexemes;
      statement = λ st h. statement-by st text ls allowed lexemes ∙ without-operands st w false m s v (stands st ∙ h) e;
    }

pub read-label : (name : List ℕ) → is_name name ≡ true → IsRead (label_line name) (Labels name)
read-label name h =
    let apart : AreApart (label_line name) = (name-word name h, tt, (refl, tt)) in
    let text = spelled (label_line name) in
    let ls = lex name true ∷ lex (58 ∷ []) true ∷ [] in
    let allowed = allowed-spelled (label_line name) apart in
    let lexemes = lexemes-spelled (label_line name) apart in
    let own = own-label name true h in
    record {
      apart = apart;
      label = label-of text ls allowed lexemes ∙ ap (λ r. r.0) own;
      statement = λ st k. statement-by st text ls allowed lexemes ∙ ap (λ r. statement_of st r.1) own ∙ no-statement st;
    }

-- ---- operands by words

pub operands-one : (x : List ℕ) → is_word x ≡ true → operands_of (lexemes_from false (Word x ∷ [])) ≡ (lex x false ∷ []) ∷ []
operands-one x h = rw (word-comma x h) refl

pub operands-two : (x y : List ℕ) → is_word x ≡ true → is_word y ≡ true → operands_of (lexemes_from false (Word x ∷ comma ∷ Word y ∷ [])) ≡ (lex x false ∷ []) ∷ (lex y true ∷ []) ∷ []
operands-two x y h k = rw (word-comma x h, word-comma y k) refl

pub operands-three : (x y z : List ℕ) → is_word x ≡ true → is_word y ≡ true → is_word z ≡ true → operands_of (lexemes_from false (Word x ∷ comma ∷ Word y ∷ comma ∷ Word z ∷ [])) ≡ (lex x false ∷ []) ∷ (lex y true ∷ []) ∷ (lex z true ∷ []) ∷ []
operands-three x y z h k l = rw (word-comma x h, word-comma y k, word-comma z l) refl

abbrev pub memory_lexemes : List ℕ → List ℕ → List Lex
memory_lexemes n r = lex n true ∷ lex (40 ∷ []) true ∷ lex r true ∷ lex (41 ∷ []) true ∷ []

pub operands-memory : (x n r : List ℕ) → is_word x ≡ true → is_word n ≡ true → is_word r ≡ true → operands_of (lexemes_from false (Word x ∷ comma ∷ Word n ∷ Mark 40 ∷ Word r ∷ Mark 41 ∷ [])) ≡ (lex x false ∷ []) ∷ memory_lexemes n r ∷ []
operands-memory x n r h k l = rw (word-comma x h, word-comma n k, word-comma r l) refl

pub memory-read : (n r : List ℕ) (z : ℤ) (base : Reg) → integer n ≡ Some z → register_named r ≡ Some base → memory_of (memory_lexemes n r) ≡ Some (record { offset = z; base = base })
memory-read n r z base e f = rw (e, f) refl

pub two-read : {A B : Type 0} → (f : Operand → Option A) (g : Operand → Option B) (a b : Operand) (x : A) (y : B) → f a ≡ Some x → g b ≡ Some y → two_operands f g (a ∷ b ∷ []) ≡ Ok (x, y)
unfolding two_operands
two-read f g a b x y e h = rw (e, h) refl

pub three-read : {A B C : Type 0} → (f : Operand → Option A) (g : Operand → Option B) (k : Operand → Option C) (a b c : Operand) (x : A) (y : B) (z : C) → f a ≡ Some x → g b ≡ Some y → k c ≡ Some z → three_operands f g k (a ∷ b ∷ c ∷ []) ≡ Ok (x, y, z)
unfolding three_operands
three-read f g k a b c x y z e h l = rw (e, h, l) refl

-- ---- lines by their shapes

pub read-one : (w x : List ℕ) (m : Meaning) (s : Statement) → IsVerb w m → is_word x ≡ true → StandsAs m s → word_statement m ((lex x false ∷ []) ∷ []) ≡ Ok s → IsRead (with_operands w (Word x ∷ [])) (States s)
read-one w x m s v h stands e = read-operands w x [] m s v (h, tt, tt) stands (ap (word_statement m) (operands-one x h) ∙ e)

pub read-two : (w x y : List ℕ) (m : Meaning) (s : Statement) → IsVerb w m → is_word x ≡ true → is_word y ≡ true → StandsAs m s → word_statement m ((lex x false ∷ []) ∷ (lex y true ∷ []) ∷ []) ≡ Ok s → IsRead (with_operands w (Word x ∷ comma ∷ Word y ∷ [])) (States s)
read-two w x y m s v h k stands e = read-operands w x (comma ∷ Word y ∷ []) m s v (h, tt, (refl, (k, tt, tt))) stands (ap (word_statement m) (operands-two x y h k) ∙ e)

pub read-three : (w x y z : List ℕ) (m : Meaning) (s : Statement) → IsVerb w m → is_word x ≡ true → is_word y ≡ true → is_word z ≡ true → StandsAs m s → word_statement m ((lex x false ∷ []) ∷ (lex y true ∷ []) ∷ (lex z true ∷ []) ∷ []) ≡ Ok s → IsRead (with_operands w (Word x ∷ comma ∷ Word y ∷ comma ∷ Word z ∷ [])) (States s)
read-three w x y z m s v h k l stands e = read-operands w x (comma ∷ Word y ∷ comma ∷ Word z ∷ []) m s v (h, tt, (refl, (k, tt, (refl, (l, tt, tt))))) stands (ap (word_statement m) (operands-three x y z h k l) ∙ e)

pub read-memory : (w x n r : List ℕ) (m : Meaning) (s : Statement) → IsVerb w m → is_word x ≡ true → is_word n ≡ true → is_word r ≡ true → StandsAs m s → word_statement m ((lex x false ∷ []) ∷ memory_lexemes n r ∷ []) ≡ Ok s → IsRead (with_operands w (Word x ∷ comma ∷ Word n ∷ Mark 40 ∷ Word r ∷ Mark 41 ∷ [])) (States s)
read-memory w x n r m s v h k l stands e = read-operands w x (comma ∷ Word n ∷ Mark 40 ∷ Word r ∷ Mark 41 ∷ []) m s v (h, tt, (refl, (k, tt, (refl, (l, tt, (refl, tt)))))) stands (ap (word_statement m) (operands-memory x n r h k l) ∙ e)
