-- Reading files one after another. SoFar: what holds before each file; file-whole: a file was read whole; file-long: what was read of a file
-- passes the limit; unread-file: a file was not read; count-push: how many were read; read-all: all files were read. read-same: what was read makes the same unit as the texts.
use Rattle.std.proofs.Common.{◌≡◌, ℕ, ◌+◌, ◌-◌, ◌<◌, ◌≤◌, cond, List, [], ◌∷◌, ◌++◌, length, map, get_or, Option, Some, None, Err, refl, sym, ap, ◌∙◌, subst, arith, inl, inr, length-append}
use Rattle.std.specs.Prelude.{slice_get, option_map}
use Rattle.std.proofs.lemmas.Option.{slice_get-map, slice_get_read}
use Rattle.std.proofs.lemmas.List.{map-append, length-map}
use Rattle.std.proofs.lemmas.Bool.{lt-ltb, le-ltb}
use Rattle.st_asm.specs.Labels.{located}
use Rattle.st_asm.specs.Assembly.{unit_of, unit_when, too_long}
use Rattle.st_base.specs.Outside.{HasRisen}
use Rattle.st_print.specs.declared.fault.Fault.{Fault}
use Rattle.st_main.specs.Answer.{IsFile, AreFiles, Library, bytes_in}
use Rattle.st_main.specs.Making.{MemoryOr}
use Rattle.st_main.specs.Reading.{IsStart, HasStart, IsReadFault, IsUnread, past_limit, IsReadOf, HasRead}
use Rattle.st_main.proofs.Memory.{memory-weaker}

-- ---- one more text

are-push : (contents : Option (List ℕ → Option (List ℕ))) (names texts : List (List ℕ)) (name text : List ℕ) → slice_get names (length texts) ≡ Some name → AreFiles contents names texts → IsFile contents name text → AreFiles contents names (texts ++ text ∷ [])
are-push contents [] [] name text at are is = let no : ⊥ = cc in absurd no
are-push contents [] (t ∷ texts) name text at are is = absurd are
are-push contents (n ∷ names) [] name text at are is = let same : n ≡ name = cc in (subst (λ m. IsFile contents m text) (sym same) is, tt)
are-push contents (n ∷ names) (t ∷ texts) name text at are is = (are.0, are-push contents names texts name text at are.1 is)

bytes-push : (texts : List (List ℕ)) (text : List ℕ) → bytes_in (texts ++ text ∷ []) ≡ bytes_in texts + length text
bytes-push [] text = omega arith
bytes-push (t ∷ texts) text = let more = bytes-push texts text in omega arith

length-push : (texts : List (List ℕ)) (text : List ℕ) → length (texts ++ text ∷ []) ≡ 1 + length texts
length-push texts text = let long = length-append texts (text ∷ []) in omega arith

-- ---- past the limit

too_long-last : (file before : ℕ) (texts : List (List ℕ)) (text : List ℕ) → before + bytes_in texts ≤ 1048576 → 1048576 < before + bytes_in texts + length text → too_long file before (texts ++ text ∷ []) ≡ Some (file + length texts)
too_long-last file before [] text short long =
    let past : 1048576 < before + length text = omega arith in
    let same : file ≡ file + 0 = omega arith in
    ap (λ b. cond b (Some file) None) (lt-ltb 1048576 (before + length text) past) ∙ ap (λ n. Some n) same
too_long-last file before (t ∷ texts) text short long =
    let within : before + length t ≤ 1048576 = omega arith in
    let later : too_long (file + 1) (before + length t) (texts ++ text ∷ []) ≡ Some (file + 1 + length texts) = too_long-last (file + 1) (before + length t) texts text (omega arith) (omega arith) in
    let same : file + 1 + length texts ≡ file + length (t ∷ texts) = omega arith in
    ap (λ b. cond b (Some file) (too_long (file + 1) (before + length t) (texts ++ text ∷ []))) (le-ltb 1048576 (before + length t) within) ∙ later ∙ ap (λ n. Some n) same

past-refused : (texts : List (List ℕ)) (text : List ℕ) (n : ℕ) → n ≡ length (texts ++ text ∷ []) → bytes_in texts ≤ 1048576 → 1048576 < bytes_in texts + length text → unit_of (texts ++ text ∷ []) ≡ Err (past_limit n)
unfolding unit_of
past-refused texts text n is short long =
    let last = length-push texts text in
    let same : 1 + length texts ≡ n = omega arith in
    ap (λ o. unit_when o (located 1 (texts ++ text ∷ []))) (too_long-last 1 0 texts text (omega arith) (omega arith)) ∙ ap (λ k. Err (past_limit k)) same

-- ---- from file to file

-- a count that rose within has risen
pub risen-within : (a b c d : ℕ) → a ≤ b → c ≤ d → HasRisen b c → HasRisen a d
risen-within a b c d low high (inl h) = inl (omega arith)
risen-within a b c d low high (inr h) = inr (omega arith)

-- the texts are those of the first files, and leave room for so many bytes
pub record SoFar (contents : Option (List ℕ → Option (List ℕ))) (names texts : List (List ℕ)) (room : ℕ) : Type 0 where
  pub are : AreFiles contents names texts
  pub left : room + bytes_in texts ≡ 1048576

start-whole : (contents : Option (List ℕ → Option (List ℕ))) (name file text : List ℕ) (room : ℕ) → IsFile contents name file → IsStart room file text → length text ≤ room → IsFile contents name text
start-whole contents name file text room is (inl e) within = subst (IsFile contents name) (sym e) is
start-whole contents name file text room is (inr (f, long)) within = let no : ⊥ = omega arith in absurd no

so_far-whole : (contents : Option (List ℕ → Option (List ℕ))) (names texts : List (List ℕ)) (name text : List ℕ) (room : ℕ) → slice_get names (length texts) ≡ Some name → SoFar contents names texts room → HasStart contents name room text → length text ≤ room → SoFar contents names (texts ++ text ∷ []) (room - length text)
so_far-whole contents names texts name text room at so h within =
    let left = so.left in
    let more = bytes-push texts text in
    record {
      are = are-push contents names texts name text at so.are (start-whole contents name h.file text room h.is h.start within);
      left = omega arith;
    }

start-longer : (file text : List ℕ) (room : ℕ) → IsStart room file text → length text ≤ length file
start-longer file text room (inl e) = let same : length text ≡ length file = ap length e in omega arith
start-longer file text room (inr (f, long)) = f.within

read-long : (contents : Option (List ℕ → Option (List ℕ))) (names texts : List (List ℕ)) (name text : List ℕ) (room : ℕ) → slice_get names (length texts) ≡ Some name → SoFar contents names texts room → HasStart contents name room text → room < length text → HasRead contents names (texts ++ text ∷ [])
read-long contents names texts name text room at so h past =
    let file = h.file in
    let left = so.left in
    let longer = start-longer file text room h.start in
    let bytes = bytes-push texts file in
    let short : bytes_in texts ≤ 1048576 = omega arith in
    let some = length-push texts text in
    let all = length-push texts file in
    let same : length (texts ++ text ∷ []) ≡ length (texts ++ file ∷ []) = omega arith in
    record {
      texts = texts ++ file ∷ [];
      are = record { files = are-push contents names texts name file at so.are h.is; enough = inr (omega arith) };
      same = inr (same, past-refused texts text _ (sym same) short (omega arith), past-refused texts file _ refl short (omega arith));
    }

-- the name and the texts as code has them: the i-th name, and what was read of that file behind the others
named-at : {X : Type 0} (f : X → List ℕ) (xs : List X) (i n : ℕ) (x : X) (name : List ℕ) → i < length xs → x ≡ get_or xs i x → name ≡ f x → n ≡ i → slice_get (map f xs) n ≡ Some name
named-at f xs i n x name inside is named same =
    ap (slice_get (map f xs)) same ∙ slice_get-map f xs i ∙ ap (option_map f) (slice_get_read xs (length xs) i x refl inside is) ∙ ap (λ m. Some m) (sym named)

module _ {X Y : Type 0} (f : X → List ℕ) (g : Y → List ℕ) (contents after : Option (List ℕ → Option (List ℕ))) (xs : List X) (ys made : List Y) (i room n : ℕ) (x : X) (name : List ℕ) (y : Y) where
  pub file-long : i < length xs → x ≡ get_or xs i x → name ≡ f x → length ys ≡ i → after ≡ contents → made ≡ ys ++ y ∷ [] → n ≡ length (g y) → SoFar contents (map f xs) (map g ys) room → HasStart after name room (g y) → room < n → HasRead contents (map f xs) (map g made)
  file-long inside is named count same push long so h past =
      let at = named-at f xs i (length (map g ys)) x name inside is named (length-map ys g ∙ count) in
      let start : HasStart contents name room (g y) = subst (λ c. HasStart c name room (g y)) same h in
      subst (HasRead contents (map f xs)) (sym (ap (map g) push ∙ map-append g ys (y ∷ []))) (read-long contents (map f xs) (map g ys) name (g y) room at so start (subst (λ k. room < k) long past))

  pub file-whole : i < length xs → x ≡ get_or xs i x → name ≡ f x → length ys ≡ i → after ≡ contents → made ≡ ys ++ y ∷ [] → n ≡ length (g y) → SoFar contents (map f xs) (map g ys) room → HasStart after name room (g y) → n ≤ room → SoFar contents (map f xs) (map g made) (room - n)
  file-whole inside is named count same push long so h within =
      let at = named-at f xs i (length (map g ys)) x name inside is named (length-map ys g ∙ count) in
      let start : HasStart contents name room (g y) = subst (λ c. HasStart c name room (g y)) same h in
      let whole = so_far-whole contents (map f xs) (map g ys) name (g y) room at so start (subst (λ k. k ≤ room) long within) in
      subst (λ k. SoFar contents (map f xs) (map g made) (room - k)) (sym long)
      (subst (λ ts. SoFar contents (map f xs) ts (room - length (g y))) (sym (ap (map g) push ∙ map-append g ys (y ∷ []))) whole)

-- a file that was not read, behind those that were
pub unread-file : (library : Library) (names texts : List (List ℕ)) (room number before after : ℕ) (fault : Fault) → SoFar library.contents names texts room → length texts + 1 ≡ number → number ≤ length names → library.faults_before ≤ before → after ≤ library.faults_after → MemoryOr (IsUnread number before after) fault → MemoryOr (IsReadFault library names) fault
unread-file library names texts room number before after fault so next last low high fails =
    let left = so.left in
    memory-weaker (IsUnread number before after) (IsReadFault library names) fault (λ f unread. (
      number,
      record {
        named = (omega arith, last);
        texts = texts;
        are = so.are;
        next = next;
        within = omega arith;
        rose = risen-within library.faults_before before after library.faults_after low high unread.1;
      },
      unread.0,
    )) fails

pub count-push : {Y : Type 0} (ys made : List Y) (y : Y) (n : ℕ) → made ≡ ys ++ y ∷ [] → length ys ≡ n → length made ≡ n + 1
count-push ys made y n push count =
    let long = length-append ys (y ∷ []) in
    let same : length made ≡ length (ys ++ y ∷ []) = ap length push in
    omega arith

pub read-all : (contents : Option (List ℕ → Option (List ℕ))) (names texts : List (List ℕ)) (room : ℕ) → SoFar contents names texts room → length texts ≡ length names → HasRead contents names texts
read-all contents names texts room so all = record { texts = texts; are = record { files = so.are; enough = inl all }; same = inl refl }

-- ---- what was read

pub read-same : (texts read : List (List ℕ)) → IsReadOf texts read → unit_of read ≡ unit_of texts
read-same texts read (inl e) = ap unit_of e
read-same texts read (inr (long, r, t)) = r ∙ sym t
