-- That a command does its work where nothing stands in its way: completes-check, completes-post, completes-run, each by the command's answer.
-- same-units: texts that files tell make one unit, however many of them are read.
use Rattle.std.proofs.Common.{◌≡◌, ℕ, ◌+◌, ◌<◌, ◌≤◌, cond, Bool, true, false, List, [], ◌∷◌, length, Option, Some, None, refl, sym, ap, ◌∙◌, subst, arith, ◌⊎◌, inl, inr}
use Rattle.std.specs.Prelude.{nat_lt, IfSome, Result, Ok, Err}
use Rattle.std.proofs.Math.Logic.{∥∥₁_elim}
use Rattle.std.proofs.lemmas.Bool.Decides.{nat_tests}
use Rattle.st_base.specs.Outside.{HasRisen}
use Rattle.st_line.specs.declared.fault.AsmFault.{AsmFault}
use Rattle.st_asm.specs.Labels.{located}
use Rattle.st_asm.specs.Assembly.{Parts, unit_of, unit_when, too_long}
use Rattle.st_model.specs.Layout.{far_branch}
use Rattle.st_check.specs.Acceptance.{IsAcceptedUnit}
use Rattle.st_check.specs.Programs.{program_of as program_of'}
use Rattle.st_print.specs.declared.fault.Fault.{Fault}
use Rattle.st_print.specs.declared.fault.Fault.TheVariants as faults
use Rattle.st_main.specs.declared.exit.Exit.{Exit}
use Rattle.st_main.specs.declared.outcome.Outcome.{Outcome}
use Rattle.st_main.specs.Exit.{exit_of}
use Rattle.st_main.specs.Answer.{Library, Intake, Output, AreFiles, AreTexts, bytes_in, fault_outcome, IsUnaccepted, IsAcceptedUnitOf, RefusesTexts, IsRunnable, IsOutcome, IsCanonical, IsListing, IsCheckOutcome, IsPostOutcome, IsWant, IsLongInput, IsInput, Happens, ComesAbout, Answers, AnswersFiles, AnswersInput, AnswersTexts, AnswersRun}
use Rattle.st_main.specs.Complete.{GoesWell, CompletesFiles, CompletesRun}

-- ---- the texts that files tell

-- the texts are one list, or pass the limit at one of them
abbrev SameTexts : ℕ → ℕ → List (List ℕ) → List (List ℕ) → Type 0
SameTexts file before a b = (a ≡ b) ⊎ ((k : ℕ) × (too_long file before a ≡ Some k) × (too_long file before b ≡ Some k))

-- they are all texts, or pass the limit behind so many bytes
abbrev Enough : ℕ → List (List ℕ) → List (List ℕ) → Type 0
Enough before names texts = (length texts ≡ length names) ⊎ (1048576 < before + bytes_in texts)

enough-next : (before : ℕ) (name text : List ℕ) (names texts : List (List ℕ)) → Enough before (name ∷ names) (text ∷ texts) → Enough (before + length text) names texts
enough-next before name text names texts (inl e) = inl (omega arith)
enough-next before name text names texts (inr h) = inr (omega arith)

same-next : (file before : ℕ) (t : List ℕ) (a b : List (List ℕ)) → nat_lt 1048576 (before + length t) ≡ false → SameTexts (file + 1) (before + length t) a b → SameTexts file before (t ∷ a) (t ∷ b)
same-next file before t a b e (inl same) = inl (ap (λ ts. t ∷ ts) same)
same-next file before t a b e (inr (k, x, y)) =
    inr (k, ap (λ c. cond c (Some file) (too_long (file + 1) (before + length t) a)) e ∙ x, ap (λ c. cond c (Some file) (too_long (file + 1) (before + length t) b)) e ∙ y)

same-when : (over : Bool) (file before : ℕ) (t : List ℕ) (a b : List (List ℕ)) → nat_lt 1048576 (before + length t) ≡ over → (before + length t ≤ 1048576 → SameTexts (file + 1) (before + length t) a b) → SameTexts file before (t ∷ a) (t ∷ b)
same-when true file before t a b e more =
    inr (file, ap (λ c. cond c (Some file) (too_long (file + 1) (before + length t) a)) e, ap (λ c. cond c (Some file) (too_long (file + 1) (before + length t) b)) e)
same-when false file before t a b e more = same-next file before t a b e (more (grind (arith, nat_tests, e)))

same-texts : (files : List ℕ → Option (List ℕ)) (names a b : List (List ℕ)) (file before : ℕ) → AreFiles (Some files) names a → AreFiles (Some files) names b → Enough before names a → Enough before names b → before ≤ 1048576 → SameTexts file before a b
same-texts files names [] [] file before p q x y low = inl refl
same-texts files [] [] (u ∷ b) file before p q x y low = absurd q
same-texts files (n ∷ names) [] (u ∷ b) file before p q (inl e) y low = absurd (omega arith)
same-texts files (n ∷ names) [] (u ∷ b) file before p q (inr h) y low = absurd (omega arith)
same-texts files [] (t ∷ a) b file before p q x y low = absurd p
same-texts files (n ∷ names) (t ∷ a) [] file before p q x (inl e) low = absurd (omega arith)
same-texts files (n ∷ names) (t ∷ a) [] file before p q x (inr h) low = absurd (omega arith)
same-texts files (n ∷ names) (t ∷ a) (u ∷ b) file before p q x y low =
    let there : files n ≡ Some t = p.0 in
    let here : files n ≡ Some u = q.0 in
    let same : t ≡ u = cc in
    let y' : Enough before (n ∷ names) (t ∷ b) = subst (λ v. Enough before (n ∷ names) (v ∷ b)) (sym same) y in
    subst (λ v. SameTexts file before (t ∷ a) (v ∷ b)) same
    (same-when (nat_lt 1048576 (before + length t)) file before t a b refl (λ within. same-texts files names a b (file + 1) (before + length t) p.1 q.1 (enough-next before n t names a x) (enough-next before n t names b y') within))

enough-all : (names texts : List (List ℕ)) → (length texts ≡ length names) ⊎ (1048576 < bytes_in texts) → Enough 0 names texts
enough-all names texts (inl e) = inl e
enough-all names texts (inr h) = inr (omega arith)

same-read : (a b : List (List ℕ)) → SameTexts 1 0 a b → unit_of a ≡ unit_of b
unfolding unit_of
same-read a b (inl e) = ap unit_of e
same-read a b (inr (k, x, y)) = ap (λ o. unit_when o (located 1 a)) x ∙ sym (ap (λ o. unit_when o (located 1 b)) y)

told-units : (files : List ℕ → Option (List ℕ)) (names a b : List (List ℕ)) → AreTexts (Some files) names a → AreTexts (Some files) names b → unit_of a ≡ unit_of b
told-units files names a b p q = same-read a b (same-texts files names a b 1 0 p.files q.files (enough-all names a p.enough) (enough-all names b q.enough) (omega arith))

pub same-units : (contents : Option (List ℕ → Option (List ℕ))) (files : List ℕ → Option (List ℕ)) (names a b : List (List ℕ)) → contents ≡ Some files → AreTexts contents names a → AreTexts contents names b → unit_of a ≡ unit_of b
same-units contents files names a b told p q = told-units files names a b (subst (λ c. AreTexts c names a) told p) (subst (λ c. AreTexts c names b) told q)

-- ---- an outcome happens

happens : (names : List (List ℕ)) (o : Outcome) (out err : Output) (exit : Exit) → (HasRisen out.faults_before out.faults_after → ⊥) → ComesAbout names o out err exit → Happens names o out err exit
happens names o out err exit calm (inl is) = is
happens names o out err exit calm (inr breaks) = absurd (calm breaks.2)

want-happens : (names : List (List ℕ)) (o : Outcome) (out err : Output) (exit : Exit) → IsWant o → Happens names o out err exit → exit ≡ exit_of (Some faults.OutOfMemory)
want-happens names o out err exit want is = is.0 ∙ ap (λ (x : Outcome). exit_of x.fault) want

-- ---- check and post

module _ (outcomes : Result Parts AsmFault → Outcome → Type 0) (library : Library) (names : List (List ℕ)) (out err : Output) (exit : Exit) where
  any-files : (texts : List (List ℕ)) (o : Outcome) → GoesWell library names texts out exit → AnswersFiles outcomes library names o → Happens names o out err exit → (made : Outcome) × outcomes (unit_of texts) made × Happens names made out err exit
  any-files texts o well (inl want) is = absurd (well.memory (want-happens names o out err exit want is))
  any-files texts o well (inr (inl (file, unread, e))) is = absurd (well.reads unread.rose)
  any-files texts o well (inr (inr (read, are, made))) is =
      (o, subst (λ r. outcomes r o) (same-units library.contents well.contents names read texts well.told are well.are) made, is)

  answers-any : (texts : List (List ℕ)) → GoesWell library names texts out exit → Answers (AnswersFiles outcomes library names) names out err exit → (made : Outcome) × outcomes (unit_of texts) made × Happens names made out err exit
  answers-any texts well (o, is, about) = any-files texts o well is (happens names o out err exit well.puts about)

completes-files : (outcomes : Result Parts AsmFault → Outcome → Type 0) (ready : Result Parts AsmFault → Parts → Type 0) (makes : Parts → Outcome → Type 0) (library : Library) (names : List (List ℕ)) (out err : Output) (exit : Exit) → ((read : Result Parts AsmFault) (parts : Parts) (o : Outcome) → ready read parts → outcomes read o → makes parts o) → Answers (AnswersFiles outcomes library names) names out err exit → CompletesFiles outcomes ready makes library names out err exit
completes-files outcomes ready makes library names out err exit does answers = record {
  any = λ texts well. answers-any outcomes library names out err exit texts well answers;
  done = λ texts parts well is.
      let made = answers-any outcomes library names out err exit texts well answers in
      (made.0, does (unit_of texts) parts made.0 is made.1, made.2);
}

one-unit : (read : Result Parts AsmFault) (a b : Parts) → read ≡ Ok a → read ≡ Ok b → a ≡ b
one-unit read a b p q = cc

-- a unit that is accepted isn't refused
not-unaccepted : (read : Result Parts AsmFault) (parts : Parts) (fault : Fault) → IsAcceptedUnitOf read parts → IsUnaccepted read fault → ⊥
not-unaccepted (Err f) parts fault (reads, accepted) is = cc
not-unaccepted (Ok other) parts fault (reads, accepted) (f, first, refused, is) =
    let same : other ≡ parts = cc in
    ∥∥₁_elim accepted (λ x y. absurd x) (λ a. refused (subst (λ (p : Parts). IsAcceptedUnit p.functions) (sym same) a))

-- and one that links isn't refused either
not-refused : (read : Result Parts AsmFault) (parts : Parts) (fault : Fault) → IsRunnable read parts → RefusesTexts read fault → ⊥
not-refused read parts fault (accepted, near) (inl is) = not-unaccepted read parts fault accepted is
not-refused read parts fault ((reads, accepted), near) (inr (other, (reads', accepted'), (line, distance, far, is))) =
    let same : other ≡ parts = one-unit read other parts reads' reads in
    let found : far_branch (program_of' parts.functions) ≡ Some (line, distance) = subst (λ (p : Parts). far_branch (program_of' p.functions) ≡ Some (line, distance)) same far.0 in
    cc

check-does : (read : Result Parts AsmFault) (parts : Parts) (o : Outcome) → IsAcceptedUnitOf read parts → IsCheckOutcome read o → IsCanonical parts o
check-does read parts o accepted (inl (fault, is, same)) = absurd (not-unaccepted read parts fault accepted is)
check-does read parts o (reads, accepted) (inr (other, (reads', accepted'), is)) = subst (λ p. IsCanonical p o) (one-unit read other parts reads' reads) is

post-does : (read : Result Parts AsmFault) (parts : Parts) (o : Outcome) → IsRunnable read parts → IsPostOutcome read o → IsListing parts o
post-does read parts o runnable (inl (fault, is, same)) = absurd (not-refused read parts fault runnable is)
post-does read parts o ((reads, accepted), near) (inr (other, ((reads', accepted'), near'), is)) = subst (λ p. IsListing p o) (one-unit read other parts reads' reads) is

pub completes-check : (library : Library) (names : List (List ℕ)) (out err : Output) (exit : Exit) → Answers (AnswersFiles IsCheckOutcome library names) names out err exit → CompletesFiles IsCheckOutcome IsAcceptedUnitOf IsCanonical library names out err exit
completes-check library names out err exit answers = completes-files IsCheckOutcome IsAcceptedUnitOf IsCanonical library names out err exit check-does answers

pub completes-post : (library : Library) (names : List (List ℕ)) (out err : Output) (exit : Exit) → Answers (AnswersFiles IsPostOutcome library names) names out err exit → CompletesFiles IsPostOutcome IsRunnable IsListing library names out err exit
completes-post library names out err exit answers = completes-files IsPostOutcome IsRunnable IsListing library names out err exit post-does answers

-- ---- a run

module _ (ends : Parts → List ℕ → Outcome → Type 0) (library : Library) (names : List (List ℕ)) (intake : Intake) (out err : Output) (exit : Exit) where
  -- the answer on the texts that the files tell
  any-run : (texts : List (List ℕ)) (o : Outcome) → GoesWell library names texts out exit → AnswersRun ends library names intake o → Happens names o out err exit → AnswersTexts ends (unit_of texts) intake o
  any-run texts o well (inl want) is = absurd (well.memory (want-happens names o out err exit want is))
  any-run texts o well (inr (inl (kept, (file, unread, e)))) is = absurd (well.reads unread.rose)
  any-run texts o well (inr (inr (read, are, answers))) is =
      subst (λ r. AnswersTexts ends r intake o) (same-units library.contents well.contents names read texts well.told are well.are) answers

  refused-texts : (read : Result Parts AsmFault) (fault : Fault) (o : Outcome) → RefusesTexts read fault → AnswersTexts ends read intake o → Happens names o out err exit → (told : Fault) × RefusesTexts read told × Happens names (fault_outcome told) out err exit
  refused-texts read fault o refuses (inl (kept, (told, is, same))) happened = (told, is, subst (λ x. Happens names x out err exit) same happened)
  refused-texts read fault o refuses (inr (parts, runnable, answers)) happened = absurd (not-refused read parts fault runnable refuses)

  ended-input : (parts : Parts) (input : List ℕ) (o : Outcome) → intake.before ≡ Some input → (HasRisen intake.faults_before intake.faults_after → ⊥) → length input ≤ 16777216 → AnswersInput ends parts intake o → ends parts input o
  ended-input parts input o told calm few (inl fails) = absurd (calm fails.0)
  ended-input parts input o told calm few (inr (inl (long, e))) =
      let more : 16777216 < length input = subst (λ b. IfSome b (λ bytes. 16777216 < length bytes)) told long in
      absurd (omega arith)
  ended-input parts input o told calm few (inr (inr (bytes, is, within, end))) =
      let there = subst (λ b. IfSome b (λ had. (had ≡ bytes) × (intake.after ≡ Some []))) told is in
      subst (λ b. ends parts b o) (sym there.0) end

  ended-texts : (read : Result Parts AsmFault) (parts : Parts) (input : List ℕ) (o : Outcome) → IsRunnable read parts → intake.before ≡ Some input → (HasRisen intake.faults_before intake.faults_after → ⊥) → length input ≤ 16777216 → AnswersTexts ends read intake o → ends parts input o
  ended-texts read parts input o runnable told calm few (inl (kept, (fault, is, same))) = absurd (not-refused read parts fault runnable is)
  ended-texts read parts input o ((reads, accepted), near) told calm few (inr (other, ((reads', accepted'), near'), answers)) =
      ended-input parts input o told calm few (subst (λ p. AnswersInput ends p intake o) (one-unit read other parts reads' reads) answers)

  complete-refused : (texts : List (List ℕ)) (fault : Fault) → Answers (AnswersRun ends library names intake) names out err exit → GoesWell library names texts out exit → RefusesTexts (unit_of texts) fault → (told : Fault) × RefusesTexts (unit_of texts) told × Happens names (fault_outcome told) out err exit
  complete-refused texts fault (o, is, about) well refuses =
      let happened = happens names o out err exit well.puts about in
      refused-texts (unit_of texts) fault o refuses (any-run texts o well is happened) happened

  complete-done : (texts : List (List ℕ)) (parts : Parts) (input : List ℕ) → Answers (AnswersRun ends library names intake) names out err exit → GoesWell library names texts out exit → IsRunnable (unit_of texts) parts → intake.before ≡ Some input → (HasRisen intake.faults_before intake.faults_after → ⊥) → length input ≤ 16777216 → (o : Outcome) × ends parts input o × Happens names o out err exit
  complete-done texts parts input (o, is, about) well runnable told calm few =
      let happened = happens names o out err exit well.puts about in
      (o, ended-texts (unit_of texts) parts input o runnable told calm few (any-run texts o well is happened), happened)

  pub completes-run : Answers (AnswersRun ends library names intake) names out err exit → CompletesRun ends library names intake out err exit
  completes-run answers = record {
    refused = λ texts fault well refuses. complete-refused texts fault answers well refuses;
    done = λ texts parts input well runnable told calm few. complete-done texts parts input answers well runnable told calm few;
  }
