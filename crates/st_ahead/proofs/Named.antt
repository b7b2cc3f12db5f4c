-- The moves that are functions of a view, and what is brought by one item more (brought_on). Reach for all_named: an item (on_made, opened_made), a child (pushed_made), chains (left_made,
-- given_made, resumed_made); frames stand in Exporting.
use Rattle.std.proofs.Common.{◌≡◌, inl, inr, ⊎_elim, ℕ, zero, suc, ◌+◌, Bool, true, false, not, ◌&&◌, List, [], ◌∷◌, ◌++◌, Option, Some, None, if◌then◌else◌, refl, sym, ap, ◌∙◌, append_assoc, append-nil}
use Rattle.std.proofs.lemmas.Bool.{cond-true}
use Rattle.std.proofs.lemmas.Option.{none-some, cond_some}
use Rattle.st_base.specs.declared.chain.Waiting.{Waiting}
use Rattle.st_words.specs.declared.view.Carried.{Carried}
use Rattle.st_words.specs.declared.view.Known.{Known}
use Rattle.st_words.specs.declared.view.View.{View}
use Rattle.st_words.specs.Moves.{MaySuspend, suspending, MayGive, giving, MayRestart, restarting, beginning}
use Rattle.st_words.proofs.Lists.{both_true}
use Rattle.st_model.specs.declared.program.Program.{Program}
use Rattle.st_model.specs.Memory.{Data}
use Rattle.st_model.specs.Heap.{Change}
use Rattle.st_model.specs.Limits.{frame_made}
use Rattle.st_made.specs.Items.{went, born, child_path, next_move, WaitsAt}
use Rattle.st_made.specs.Moves.{Begins, MakesItem, OneMove, Made}
use Rattle.st_ahead.specs.Ahead.{is_going, is_private, seen_change, own_item, or_else, brought}
use Rattle.st_ahead.specs.Naming.{finished_by, finished, on, pushed_child, pushed_move, pushed_by, pushed, opened_by, opened, left_by, left, given_by, given, resumed_by, resumed}
use Rattle.st_ahead.specs.NamingLaws.{MayPush, AllNamed, BroughtOn}
use Rattle.st_ahead.proofs.Seen.{going_decides, private_decides, seen_enough}
use Rattle.st_ahead.proofs.Bringing.{begun_view, if_then, not_true}
use Rattle.st_ahead.proofs.Exporting.{exported_made, keeps, adds, only, same}

one_made : (program : Program) (source : Data) (v u : View) → OneMove program source v u → Made program source v u
one_made program source v u m = (u ∷ [], (m, refl))

-- ---- the item that was begun

-- the view after it
abbrev finished_view : Program → View → Known → List Known → Change → View
finished_view program v top rest c = record v { threads = went top c.own ∷ rest; frame_bytes = v.frame_bytes + frame_made program top.path top.thread }

by_finished : (program : Program) (source : Data) (v u : View) (top : Known) (rest : List Known) (o : Option Change) → v.threads ≡ top ∷ rest → top.begun ≡ true → seen_change v (next_move program source top) ≡ o → finished_by program source v top rest o ≡ Some u → MakesItem program source v u
by_finished program source v u top rest None is begun seen e = absurd (none-some u e)
by_finished program source v u top rest (Some c) is begun seen e =
    let made = cond_some (is_private top.thread c) (finished_view program v top rest c) u e in
    record {
      top = top;
      rest = rest;
      change = c;
      is = is;
      begun = begun;
      can = seen_enough v (next_move program source top) c seen;
      private = (private_decides top.thread c).0 made.0;
      after = sym made.1;
    }

of_finished : (program : Program) (source : Data) (v u : View) (ts : List Known) → v.threads ≡ ts → finished program source v ts ≡ Some u → MakesItem program source v u
of_finished program source v u [] is e = absurd (none-some u e)
of_finished program source v u (top ∷ rest) is e =
    let x = if_then top.begun (finished_by program source v top rest (seen_change v (next_move program source top))) u e in
    by_finished program source v u top rest (seen_change v (next_move program source top)) is x.0 refl x.1

else_finished : (program : Program) (source : Data) (v : View) (o : Option View) → finished program source v v.threads ≡ o → Made program source v (or_else program source o v (λ u. u))
else_finished program source v None e = ([], refl)
else_finished program source v (Some u) e = one_made program source v u (inr (inl (of_finished program source v u v.threads refl e)))

pub on_made : (program : Program) (source : Data) (v : View) → Made program source v (on program source v)
on_made program source v = else_finished program source v (finished program source v v.threads) refl

-- ---- the next one

if_made : (program : Program) (source : Data) (b : Bool) (v u : View) → (b ≡ true → Made program source v u) → Made program source v (if b then u else v)
if_made program source true v u made = made refl
if_made program source false v u made = ([], refl)

of_opened : (program : Program) (source : Data) (v : View) (ts : List Known) → v.threads ≡ ts → Made program source v (opened_by v ts)
of_opened program source v [] is = ([], refl)
of_opened program source v (top ∷ rest) is = if_made program source (is_going top.thread.standing && not top.begun) v (begun_view v top rest) (λ can.
    let tests = both_true (is_going top.thread.standing) (not top.begun) can in
    let begins : Begins program source v (begun_view v top rest) = record { top = top; rest = rest; is = is; going = (going_decides top.thread.standing).0 tests.0; not_yet = not_true top.begun tests.1; after = refl } in
    one_made program source v (begun_view v top rest) (inl begins))

pub opened_made : (program : Program) (source : Data) (v : View) → Made program source v (opened v)
opened_made program source v = of_opened program source v v.threads refl

-- ---- a child

pushed_is : (program : Program) (source : Data) (v : View) (may : MayPush program source v) → pushed program source v ≡ beginning (born may.child.cell (child_path may.top) may.thread) (went may.top may.change.own) may.rest v
pushed_is program source v may =
    ap (λ ts. pushed_by program source v ts v.child) may.is
    ∙ (ap (λ o. pushed_by program source v (may.top ∷ may.rest) o) may.named
    ∙ (cond-true may.top.begun (pushed_move program source v may.top may.rest may.child (next_move program source may.top)) v may.begun
    ∙ (ap (λ m. pushed_move program source v may.top may.rest may.child m) may.moves
    ∙ ap (λ o. pushed_child program source v may.top may.rest may.child may.change.own o) may.made)))

pub pushed_made : (program : Program) (source : Data) (v : View) (may : MayPush program source v) → (pushed program source v ≡ beginning (born may.child.cell (child_path may.top) may.thread) (went may.top may.change.own) may.rest v) × Made program source v (pushed program source v)
pushed_made program source v may = (
  pushed_is program source v may,
  one_made program source v (pushed program source v) (inr (inr (inl (record {
    top = may.top;
    rest = may.rest;
    change = may.change;
    child = may.thread;
    cell = may.child.cell;
    is = may.is;
    begun = may.begun;
    can = may.moves;
    made = may.made;
    name = may.name;
    may = record { named = may.named ∙ ap (λ b. Some (record { cell = may.child.cell; stands = b })) may.stands; none_drawn = may.none_drawn };
    after = pushed_is program source v may;
  })))),
)

-- ---- chains

pub left_made : (program : Program) (source : Data) (v : View) (top : Known) (rest : List Known) (wait : Waiting) → MaySuspend v top rest wait → WaitsAt program source v top wait → (left wait v ≡ suspending top rest wait v) × Made program source v (left wait v)
left_made program source v top rest wait may waits =
    let e : left wait v ≡ suspending top rest wait v = ap (λ ts. left_by wait v ts) may.is in
    (e, one_made program source v (left wait v) (inr (inr (inr (inl (record { top = top; rest = rest; wait = wait; may = may; waits = waits; after = e }))))))

given_walk : (v : View) (front above : List Known) (bottom : Known) → given_by v front (above ++ bottom ∷ []) ≡ giving bottom (front ++ above) v
given_walk v front [] bottom = ap (λ ts. giving bottom ts v) (sym (append-nil front))
given_walk v front (t ∷ []) bottom = refl
given_walk v front (t ∷ next ∷ above) bottom = given_walk v (front ++ t ∷ []) (next ∷ above) bottom ∙ ap (λ ts. giving bottom ts v) (append_assoc front (t ∷ []) (next ∷ above))

pub given_made : (program : Program) (source : Data) (v : View) (bottom : Known) (above : List Known) → MayGive v bottom above → (given v ≡ giving bottom above v) × Made program source v (given v)
given_made program source v bottom above may =
    let e : given v ≡ giving bottom above v = ap (λ ts. given_by v [] ts) may.is ∙ given_walk v [] above bottom in
    (e, one_made program source v (given v) (inr (inr (inr (inr (inl (record { bottom = bottom; above = above; may = may; after = e })))))))

pub resumed_made : (program : Program) (source : Data) (v : View) (x : Carried) → v.chains ≡ x ∷ [] → MayRestart v x → (resumed v ≡ restarting x v) × Made program source v (resumed v)
resumed_made program source v x one may =
    let e : resumed v ≡ restarting x v = ap (λ ts. resumed_by v ts v.chains) may.none ∙ ap (λ xs. resumed_by v [] xs) one in
    (e, one_made program source v (resumed v) (inr (inr (inr (inr (inr (inl (record { chain = x; may = may; after = e }))))))))

pub all_named : AllNamed
all_named program source = record {
  on_made = on_made program source;
  opened_made = opened_made program source;
  pushed_made = pushed_made program source;
  left_made = left_made program source;
  given_made = given_made program source;
  resumed_made = resumed_made program source;
  exported_made = exported_made program source;
  exports = λ v fs f e. ⊎_elim (keeps v fs f) (adds v fs f) e;
  only = only;
  same = same;
}

-- ---- one item more

-- what is brought by one item more where one is made first
else_on : (program : Program) (source : Data) (v u : View) (n : ℕ) (o : Option View) → ((w : View) → own_item program source (brought program source n w) ≡ Some u → brought program source (suc n) w ≡ u) → own_item program source v ≡ o → own_item program source (or_else program source o v (λ w. brought program source n w)) ≡ Some u → or_else program source o v (λ w. brought program source (suc n) w) ≡ u
else_on program source v u n None more e next = absurd (none-some u (sym e ∙ next))
else_on program source v u n (Some w) more e next = more w next

pub brought_on : BroughtOn
brought_on program source v u zero next = ap (λ o. or_else program source o v (λ w. w)) next
brought_on program source v u (suc n) next = else_on program source v u n (own_item program source v) (λ w e. brought_on program source w u n e) refl next
