-- The item that a thread has begun is made: touch_seen and join_seen (the view has seen enough for it), alone (it is a private one), and note_same (what is counted of its thread stays).
use Rattle.st_ahead.proofs.Seen.{enough_seen, private_decides}
use Rattle.st_ahead.specs.Ahead.{seen_change, value_at, by_value, touched, is_private, cell_of, is_future}
use Rattle.st_base.specs.declared.thread.Held.TheVariants.{Counter, Future}
use Rattle.st_base.specs.declared.thread.Held.{Held}
use Rattle.st_base.specs.declared.thread.Thread.{Thread}
use Rattle.st_made.specs.Items.{IsLive, went}
use Rattle.st_model.specs.Heap.{Change, Join, Path, Touch, own}
use Rattle.st_run.specs.Behind.{NoteIs}
use Rattle.st_serving.specs.Serving.{Counts}
use Rattle.st_words.proofs.Lists.{contains_case, contains_here, contains_none}
use Rattle.st_words.specs.declared.view.Known.{Known}
use Rattle.st_words.specs.declared.view.View.{View}
use Rattle.std.proofs.Common.{◌≡◌, inl, inr, ℕ, ◌+◌, Bool, true, false, List, [], ◌∷◌, Option, Some, None, refl, sym, ap, ◌∙◌, subst, arith, ◌≤◌, ◌==◌}
use Rattle.std.specs.List.{Contains}
use Rattle.std.specs.Prelude.{if◌then◌else◌}

abbrev pub OneCell : View → Type 0
OneCell v = (name : Held) (c k : ℕ) → Contains v.names (name, c) → Contains v.names (name, k) → c ≡ k

more_values : (f : ℕ → Change) (cell c n : ℕ) (rest : List (ℕ × ℕ)) (z : Change) (b : Bool) → by_value f (if b then Some n else None) ≡ Some z → by_value f (if b then Some n else value_at cell rest) ≡ Some z
more_values f cell c n rest z true is = is
more_values f cell c n rest z false is = let never : ⊥ = cc in absurd never

touched_more : (f : ℕ → Change) (c n : ℕ) (rest : List (ℕ × ℕ)) (o : Option ℕ) (z : Change) → touched f ((c, n) ∷ []) o ≡ Some z → touched f ((c, n) ∷ rest) o ≡ Some z
touched_more f c n rest None z is = is
touched_more f c n rest (Some cell) z is = more_values f cell c n rest z (c == cell) is

-- one that was read
abbrev single : ℕ → ℕ → List (ℕ × ℕ)
single c n = (c, n) ∷ []

one_value : (c n k a b : ℕ) → Contains (single c n) (k, a) → Contains (single c n) (k, b) → a ≡ b
one_value c n k a b one two = value a one ∙ sym (value b two)
  where
    value : (a : ℕ) → Contains (single c n) (k, a) → a ≡ n
    value a in' = elim (contains_case (k, a) (c, n) [] in') [ inl e ↦ sym (ap (λ (o : ℕ × ℕ). o.1) e) | inr later ↦ absurd (contains_none (k, a) later) ]

-- the value that was read last
pub touch_seen : (v : View) (q : Path) (f : ℕ → Change) (cell n : ℕ) (rest : List (ℕ × ℕ)) → OneCell v → Contains v.names (Future q, cell) → v.values ≡ (cell, n) ∷ rest → seen_change v (Touch q f) ≡ Some (f n)
touch_seen v q f cell n rest one name values =
    let w : View = record v { values = (cell, n) ∷ [] } in
    let sees : seen_change w (Touch q f) ≡ Some (f n) = enough_seen w (Touch q f) (f n) (record { cells = one; values = λ c a b one two. one_value cell n c a b one two }) (cell, n, name, contains_here (cell, n) [], refl) in
    ap (λ (xs : List (ℕ × ℕ)). touched f xs (cell_of (is_future q) v.names)) values ∙ touched_more f cell n rest (cell_of (is_future q) v.names) (f n) sees

-- a count that is enough
pub join_seen : (v : View) (q : Path) (i least cell k : ℕ) (c : Change) → OneCell v → Contains v.names (Counter q i, cell) → Contains v.counts (cell, k) → least ≤ k → seen_change v (Join q i least c) ≡ Some c
join_seen v q i least cell k c one name count enough =
    let w : View = record v { values = [] } in
    enough_seen w (Join q i least c) c (record { cells = one; values = λ k a b one two. absurd (contains_none (k, a) one) }) (cell, k, name, count, enough, refl)

-- ---- the thread

pub alone : (t next : Thread) → Counts t next 0 0 0 → is_private t (own next) ≡ true
alone t next counts =
    let counters = counts.counters_are in
    let bytes = counts.bytes_are in
    (private_decides t (own next)).1 (record { child = refl; added = refl; printed = refl; counters = omega (arith, counters); bytes = omega (arith, bytes); live = subst IsLive (sym counts.going) tt })

-- what its note says, with so many forks, counters and bytes more
pub note_went : (t : Known) (next : Thread) (cells forks counters bytes : ℕ) → NoteIs cells t → Counts t.thread next forks counters bytes → (went t next).note ≡ record t.note { forks = t.note.forks + forks; counters = t.note.counters + counters; bytes = t.note.bytes + bytes }
note_went t next cells forks counters bytes is counts =
    let f : next.forks ≡ t.note.forks + forks = counts.forks_are ∙ ap (λ n. n + forks) (sym is.forks) in
    let c : next.counters ≡ t.note.counters + counters = counts.counters_are ∙ ap (λ n. n + counters) (sym is.counters) in
    let b : next.bytes ≡ t.note.bytes + bytes = counts.bytes_are ∙ ap (λ n. n + bytes) (sym is.bytes) in
    λ i. record { cell = t.note.cell; forks = f i; counters = c i; bytes = b i }

pub note_same : (t : Known) (next : Thread) (cells : ℕ) → NoteIs cells t → Counts t.thread next 0 0 0 → (went t next).note ≡ t.note
note_same t next cells is counts =
    let f : t.note.forks + 0 ≡ t.note.forks = omega arith in
    let c : t.note.counters + 0 ≡ t.note.counters = omega arith in
    let b : t.note.bytes + 0 ≡ t.note.bytes = omega arith in
    note_went t next cells 0 0 0 is counts ∙ (λ i. record { cell = t.note.cell; forks = f i; counters = c i; bytes = b i })
