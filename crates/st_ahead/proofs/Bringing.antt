-- Whatever is brought is made (brought_is_made), and so many items lead to what is brought by so many (items_are_brought): each of one item, own_made and own_back, then
-- of a number of them.
use Rattle.std.proofs.Common.{◌≡◌, inl, inr, zero, suc, ◌+◌, Bool, true, false, not, ◌&&◌, List, [], ◌∷◌, Option, Some, None, if◌then◌else◌, refl, sym, ap, ◌∙◌, subst}
use Rattle.std.specs.List.{Contains}
use Rattle.std.proofs.lemmas.Bool.{cond-true}
use Rattle.std.proofs.lemmas.Option.{same_Some, none-some}
use Rattle.st_words.specs.declared.view.Known.{Known}
use Rattle.st_words.specs.declared.view.View.{View}
use Rattle.st_words.proofs.Lists.{both_true}
use Rattle.st_model.specs.declared.program.Program.{Program}
use Rattle.st_model.specs.Memory.{Data}
use Rattle.st_model.specs.Heap.{Change}
use Rattle.st_model.specs.Limits.{frame_made}
use Rattle.st_made.specs.Items.{SeenEnough, IsPrivate, went, next_move}
use Rattle.st_made.specs.Moves.{Begins, MakesItem, Made}
use Rattle.st_ahead.specs.Ahead.{is_going, is_private, seen_change, item_by, item_of, own_item, or_else, brought}
use Rattle.st_ahead.specs.Laws.{BroughtIsMade, SeesOne, ItemsAreBrought}
use Rattle.st_ahead.proofs.Seen.{going_decides, private_decides, seen_enough, enough_seen}

-- the view whose top thread has begun its next item, and the one after it
abbrev pub begun_view : View → Known → List Known → View
begun_view v top rest = record v { threads = record top { begun = true } ∷ rest; items = v.items + 1 }

abbrev made_view : Program → View → Known → List Known → Change → View
made_view program v top rest c = record v { threads = went top c.own ∷ rest; items = v.items + 1; frame_bytes = v.frame_bytes + frame_made program top.path top.thread }

abbrev OneItem : Program → Data → View → View → Type 0
OneItem program source v u = (y : View) × Begins program source v y × MakesItem program source y u

pub if_then : {A : Type 0} (b : Bool) (o : Option A) (z : A) → (if b then o else None) ≡ Some z → (b ≡ true) × (o ≡ Some z)
if_then true o z e = (refl, e)
if_then false o z e = absurd (none-some z e)

pub not_true : (b : Bool) → not b ≡ true → b ≡ false
not_true true e = let no : ⊥ = cc in absurd no
not_true false e = refl

-- ---- one item

by_made : (program : Program) (source : Data) (v u : View) (top : Known) (rest : List Known) (o : Option Change) → v.threads ≡ top ∷ rest → (is_going top.thread.standing && not top.begun) ≡ true → seen_change v (next_move program source top) ≡ o → item_by program source v top rest o ≡ Some u → OneItem program source v u
by_made program source v u top rest None is can seen e = absurd (none-some u e)
by_made program source v u top rest (Some c) is can seen e =
    let tests = both_true (is_going top.thread.standing) (not top.begun) can in
    let made = if_then (is_private top.thread c) (Some (made_view program v top rest c)) u e in
    let enough : SeenEnough v (next_move program source top) c = seen_enough v (next_move program source top) c seen in (
      begun_view v top rest,
      record { top = top; rest = rest; is = is; going = (going_decides top.thread.standing).0 tests.0; not_yet = not_true top.begun tests.1; after = refl },
      record {
        top = record top { begun = true };
        rest = rest;
        change = c;
        is = refl;
        begun = refl;
        can = enough;
        private = (private_decides top.thread c).0 made.0;
        after = sym (same_Some (made_view program v top rest c) u made.1);
      },
    )

of_made : (program : Program) (source : Data) (v u : View) (ts : List Known) → v.threads ≡ ts → item_of program source v ts ≡ Some u → OneItem program source v u
of_made program source v u [] is e = absurd (none-some u e)
of_made program source v u (top ∷ rest) is e =
    let x = if_then (is_going top.thread.standing && not top.begun) (item_by program source v top rest (seen_change v (next_move program source top))) u e in
    by_made program source v u top rest (seen_change v (next_move program source top)) is x.0 refl x.1

own_made : (program : Program) (source : Data) (v u : View) → own_item program source v ≡ Some u → OneItem program source v u
own_made program source v u e = of_made program source v u v.threads refl e

abbrev first_or : Known → List Known → Known
first_or t [] = t
first_or t (x ∷ xs) = x

abbrev others : List Known → List Known
others [] = []
others (x ∷ xs) = xs

-- the item is made of the top thread that was begun
of_back : (program : Program) (source : Data) (v u : View) (top : Known) (rest : List Known) → SeesOne v → (is_going top.thread.standing && not top.begun) ≡ true → MakesItem program source (begun_view v top rest) u → item_of program source v (top ∷ rest) ≡ Some u
of_back program source v u top rest one can m =
    let y = begun_view v top rest in
    let first : record top { begun = true } ≡ m.top = ap (λ ts. first_or m.top ts) m.is in
    let behind : rest ≡ m.rest = ap others m.is in
    let enough : SeenEnough v (next_move program source top) m.change = subst (λ (t : Known). SeenEnough y (next_move program source t) m.change) (sym first) m.can in
    let private : IsPrivate top.thread m.change = subst (λ (t : Known). IsPrivate t.thread m.change) (sym first) m.private in
    let after : made_view program v top rest m.change ≡ u =
    ap (λ (t : Known). made_view program v t rest m.change) first ∙ (ap (λ ts. made_view program v m.top ts m.change) behind ∙ sym m.after) in
    cond-true (is_going top.thread.standing && not top.begun) (item_by program source v top rest (seen_change v (next_move program source top))) None can
    ∙ (ap (λ o. item_by program source v top rest o) (enough_seen v (next_move program source top) m.change one enough)
    ∙ (cond-true (is_private top.thread m.change) (Some (made_view program v top rest m.change)) None ((private_decides top.thread m.change).1 private)
    ∙ ap Some after))

own_back : (program : Program) (source : Data) (v y u : View) → SeesOne v → Begins program source v y → MakesItem program source y u → own_item program source v ≡ Some u
own_back program source v y u one b m =
    let can : (is_going b.top.thread.standing && not b.top.begun) ≡ true =
    ap (λ k. k && not b.top.begun) ((going_decides b.top.thread.standing).1 b.going) ∙ ap not b.not_yet in
    ap (λ ts. item_of program source v ts) b.is ∙ of_back program source v u b.top b.rest one can (subst (λ z. MakesItem program source z u) b.after m)

-- ---- a number of them

else_made : (program : Program) (source : Data) (v : View) (on : View → View) (o : Option View) → own_item program source v ≡ o → ((u : View) → Made program source u (on u)) → Made program source v (or_else program source o v on)
else_made program source v on None e more = ([], refl)
else_made program source v on (Some u) e more =
    let one = own_made program source v u e in
    let rest = more u in
    (one.0 ∷ u ∷ rest.0, (inl one.1, (inr (inl one.2), rest.1)))

pub brought_is_made : BroughtIsMade
brought_is_made program source v zero = ([], refl)
brought_is_made program source v (suc n) = else_made program source v (λ u. brought program source n u) (own_item program source v) refl (λ u. brought_is_made program source u n)

one_after : (v u : View) → u.names ≡ v.names → u.values ≡ v.values → SeesOne v → SeesOne u
one_after v u names values one = record {
  cells = λ name c d a b. one.cells name c d (subst (λ l. Contains l (name, c)) names a) (subst (λ l. Contains l (name, d)) names b);
  values = λ c m n a b. one.values c m n (subst (λ l. Contains l (c, m)) values a) (subst (λ l. Contains l (c, n)) values b);
}

pub items_are_brought : ItemsAreBrought
items_are_brought program source v u zero one is = is
items_are_brought program source v u (suc n) one is =
    let b = is.2 in
    let m = is.3 in
    let z = is.1 in
    let sees = one_after v z (ap (λ (x : View). x.names) m.after ∙ ap (λ (x : View). x.names) b.after) (ap (λ (x : View). x.values) m.after ∙ ap (λ (x : View). x.values) b.after) one in
    ap (λ o. or_else program source o v (λ x. brought program source n x)) (own_back program source v is.0 z one b m) ∙ items_are_brought program source z u n sees is.4
