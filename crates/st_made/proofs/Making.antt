-- What is made is free (made_is_free), goes on (made_follows), and leaves what was seen (made_stays): each of one move, then of a list of them.
use Rattle.std.proofs.Common.{◌≡◌, inl, inr, List, [], ◌∷◌, ◌++◌, refl, sym, ap, ◌∙◌, subst}
use Rattle.st_words.specs.declared.view.View.{View}
use Rattle.st_words.specs.Views.{IsFree, with_free, Free}
use Rattle.st_model.specs.declared.program.Program.{Program}
use Rattle.st_model.specs.Memory.{Data}
use Rattle.st_made.specs.Moves.{OneMove, AllMoves}
use Rattle.st_made.specs.Laws.{MadeIsFree, MadeFollows, SeesSame, MadeStays}

abbrev free_of : View → Free
free_of u = record { progress = record { threads = u.threads; items = u.items; frame_bytes = u.frame_bytes }; child = u.child; chains = u.chains; exported = u.exported }

free_same : (v u : View) → v ≡ u → IsFree v u
free_same v u e = subst (IsFree v) e (free_of v, refl)

free_twice : (v y u : View) → IsFree v y → IsFree y u → IsFree v u
free_twice v y u a b = (b.0, b.1 ∙ ap (with_free b.0) a.1)

-- a view that is made by changing free parts alone
free_after : (v u x : View) → u ≡ x → x ≡ with_free (free_of x) v → IsFree v u
free_after v u x e f = (free_of x, e ∙ f)

pub free_one : (program : Program) (source : Data) (v u : View) → OneMove program source v u → IsFree v u
free_one program source v u (inl m) = free_after v u _ m.after refl
free_one program source v u (inr (inl m)) = free_after v u _ m.after refl
free_one program source v u (inr (inr (inl m))) = free_after v u _ m.after refl
free_one program source v u (inr (inr (inr (inl m)))) = free_after v u _ m.after refl
free_one program source v u (inr (inr (inr (inr (inl m))))) = free_after v u _ m.after refl
free_one program source v u (inr (inr (inr (inr (inr (inl m)))))) = free_after v u _ m.after refl
free_one program source v u (inr (inr (inr (inr (inr (inr m)))))) = free_after v u _ m.after refl

free_all : (program : Program) (source : Data) (v u : View) (vs : List View) → AllMoves program source v vs u → IsFree v u
free_all program source v u [] m = free_same v u m
free_all program source v u (y ∷ ys) m = free_twice v y u (free_one program source v y m.0) (free_all program source y u ys m.1)

pub made_is_free : MadeIsFree
made_is_free program source v u m = free_all program source v u m.0 m.1

-- ---- moves after moves

follow_all : (program : Program) (source : Data) (v y u : View) (xs ys : List View) → AllMoves program source v xs y → AllMoves program source y ys u → AllMoves program source v (xs ++ ys) u
follow_all program source v y u [] ys a b = subst (λ z. AllMoves program source z ys u) (sym a) b
follow_all program source v y u (x ∷ xs) ys a b = (a.0, follow_all program source x y u xs ys a.1 b)

pub made_follows : MadeFollows
made_follows program source v y u a b = (a.0 ++ b.0, follow_all program source v y u a.0 b.0 a.1 b.1)

-- ---- what was seen

pub same_free : (v u : View) (x : Free) → u ≡ with_free x v → SeesSame v u
same_free v u x e = record {
  number = ap (λ (y : View). y.number) e;
  workers = ap (λ (y : View). y.workers) e;
  cells = ap (λ (y : View). y.cells) e;
  each = ap (λ (y : View). y.each) e;
  held = ap (λ (y : View). y.held) e;
  away = ap (λ (y : View). y.away) e;
  names = ap (λ (y : View). y.names) e;
  drawn = ap (λ (y : View). y.drawn) e;
  owners = ap (λ (y : View). y.owners) e;
  full = ap (λ (y : View). y.full) e;
  filled = ap (λ (y : View). y.filled) e;
  values = ap (λ (y : View). y.values) e;
  valued = ap (λ (y : View). y.valued) e;
  counts = ap (λ (y : View). y.counts) e;
  ready = ap (λ (y : View). y.ready) e;
  hand = ap (λ (y : View). y.hand) e;
  share = ap (λ (y : View). y.share) e;
  asked = ap (λ (y : View). y.asked) e;
  answering = ap (λ (y : View). y.answering) e;
  mail = ap (λ (y : View). y.mail) e;
  given = ap (λ (y : View). y.given) e;
  root = ap (λ (y : View). y.root) e;
  inactive = ap (λ (y : View). y.inactive) e;
  stop = ap (λ (y : View). y.stop) e;
  loaded = ap (λ (y : View). y.loaded) e;
}

pub made_stays : MadeStays
made_stays program source v u m = let free = made_is_free program source v u m in same_free v u free.0 free.1
