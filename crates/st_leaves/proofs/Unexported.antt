-- What a worker has done by itself, but the frames that it exported: made_unexported (it leads to the same view with other exported frames) and made_exports (each frame that it exported could be exported, and still could).
use Rattle.std.proofs.Common.{◌≡◌, ◌≢◌, ◌⊎◌, inl, inr, ⊎_elim, ℕ, ◌<◌, List, [], ◌∷◌, Option, Some, refl, sym, ap, ◌∙◌, subst}
use Rattle.std.specs.List.{Contains}
use Rattle.st_base.specs.declared.chain.Frame.{Frame}
use Rattle.st_base.specs.declared.chain.Waiting.{Waiting}
use Rattle.st_base.specs.declared.chain.Waiting.TheVariants as waits
use Rattle.st_model.specs.declared.program.Program.{Program}
use Rattle.st_model.specs.Heap.{Change, Move, Moves, Touch, Join, Stays}
use Rattle.st_model.specs.Memory.{Data}
use Rattle.st_words.proofs.Lists.{contains_case}
use Rattle.st_words.specs.Moves.{MayExport, WasSeen, exporting}
use Rattle.st_words.specs.Steps.{Holds, Inside, home_of, kept, place_of, return_place}
use Rattle.st_words.specs.declared.view.Known.{Known}
use Rattle.st_words.specs.declared.view.View.{View}
use Rattle.st_made.proofs.Making.{made_follows}
use Rattle.st_made.specs.Items.{SeenEnough, WaitsAt}
use Rattle.st_made.specs.Moves.{AllMoves, Made, OneMove}

abbrev pub with_exports : List Frame → View → View
with_exports frames v = record v { exported = frames }

-- a frame may be exported beside all that are away; nothing is said of the other exported ones
pub record CanExport (v : View) (f : Frame) : Type 0 where
  pub some_word : place_of f.low < place_of f.base
  pub own : (q : ℕ) → Inside f q → home_of v.each q ≡ v.number
  pub holds : (q : ℕ) → Inside f q → Holds v q
  pub lives : (n : ℕ) × (kept v.held (return_place f) ≡ Some n) × (n ≢ 0)
  pub away : (g : Frame) (q : ℕ) → Contains v.away g → Inside f q → Inside g q → ⊥

-- what no move changes
pub record SameStack (v u : View) : Type 0 where
  pub number : u.number ≡ v.number
  pub each : u.each ≡ v.each
  pub held : u.held ≡ v.held
  pub away : u.away ≡ v.away

pub can_still : (v u : View) (f : Frame) → SameStack v u → CanExport v f → CanExport u f
can_still v u f same can = record {
  some_word = can.some_word;
  own = λ q is. ap (λ (n : ℕ). home_of n q) same.each ∙ can.own q is ∙ sym same.number;
  holds = λ q is. subst (λ (h : List (Option ℕ)). (n : ℕ) × (kept h q ≡ Some n)) (sym same.held) (can.holds q is);
  lives = subst (λ (h : List (Option ℕ)). (n : ℕ) × (kept h (return_place f) ≡ Some n) × (n ≢ 0)) (sym same.held) can.lives;
  away = λ g q is. can.away g q (subst (λ (fs : List Frame). Contains fs g) same.away is);
}

module _ (p : Program) (d : Data) where
  -- ---- the moves with other exported frames

  module _ (frames : List Frame) where
    enough : (v : View) (m : Move) (c : Change) → SeenEnough v m c → SeenEnough (with_exports frames v) m c
    enough v Stays c seen = seen
    enough v (Moves e) c seen = seen
    enough v (Touch q f) c seen = seen
    enough v (Join q i least e) c seen = seen

    pub waits_so : (v : View) (t : Known) (wait : Waiting) → WaitsAt p d v t wait → WaitsAt p d (with_exports frames v) t wait
    waits_so v t (waits.Touch cell) at = at
    waits_so v t (waits.Join cell least) at = at
    waits_so v t waits.Ready at = at
    waits_so v t waits.Start at = at
    waits_so v t waits.Trapped at = at

    was_seen : (v : View) (wait : Waiting) → WasSeen v wait → WasSeen (with_exports frames v) wait
    was_seen v (waits.Touch cell) seen = seen
    was_seen v (waits.Join cell least) seen = seen
    was_seen v waits.Ready seen = seen
    was_seen v waits.Start seen = seen
    was_seen v waits.Trapped seen = seen

    abbrev Goes : View → View → Type 0
    Goes v u = Made p d (with_exports frames v) (with_exports frames u)

    one : (v u : View) → OneMove p d (with_exports frames v) (with_exports frames u) → Goes v u
    one v u move = (with_exports frames u ∷ [], (move, refl))

    move_goes : (v u : View) → OneMove p d v u → Goes v u
    move_goes v u (inl m) = one v u (inl (record { top = m.top; rest = m.rest; is = m.is; going = m.going; not_yet = m.not_yet; after = ap (with_exports frames) m.after }))
    move_goes v u (inr (inl m)) = one v u (inr (inl (record { top = m.top; rest = m.rest; change = m.change; is = m.is; begun = m.begun; can = enough v _ m.change m.can; private = m.private; after = ap (with_exports frames) m.after })))
    move_goes v u (inr (inr (inl m))) =
        one v u (inr (inr (inl (record { top = m.top; rest = m.rest; change = m.change; child = m.child; cell = m.cell; is = m.is; begun = m.begun; can = m.can; made = m.made; name = m.name; may = record { named = m.may.named; none_drawn = m.may.none_drawn }; after = ap (with_exports frames) m.after }))))
    move_goes v u (inr (inr (inr (inl m)))) =
        one v u (inr (inr (inr (inl (record { top = m.top; rest = m.rest; wait = m.wait; may = record { is = m.may.is; none_drawn = m.may.none_drawn; no_child = m.may.no_child; covers = m.may.covers }; waits = waits_so v m.top m.wait m.waits; after = ap (with_exports frames) m.after })))))
    move_goes v u (inr (inr (inr (inr (inl m))))) =
        one v u (inr (inr (inr (inr (inl (record { bottom = m.bottom; above = m.above; may = record { is = m.may.is; others = m.may.others; covers = m.may.covers }; after = ap (with_exports frames) m.after }))))))
    move_goes v u (inr (inr (inr (inr (inr (inl m)))))) =
        one v u (inr (inr (inr (inr (inr (inl (record { chain = m.chain; may = record { none = m.may.none; carried = m.may.carried; stands = m.may.stands; seen = was_seen v m.chain.wait m.may.seen }; after = ap (with_exports frames) m.after })))))))
    move_goes v u (inr (inr (inr (inr (inr (inr m)))))) = ([], sym (ap (with_exports frames) m.after))

    moves_go : (v : View) (xs : List View) (u : View) → AllMoves p d v xs u → Goes v u
    moves_go v [] u same = ([], ap (with_exports frames) same)
    moves_go v (x ∷ xs) u all = made_follows p d (with_exports frames v) (with_exports frames x) (with_exports frames u) (move_goes v x all.0) (moves_go x xs u all.1)

    pub made_unexported : (v u : View) → Made p d v u → Made p d (with_exports frames v) (with_exports frames u)
    made_unexported v u made = moves_go v made.0 u made.1

  -- ---- the frames that were exported

  -- a move that is none of an export
  pub record Quiet (v u : View) : Type 0 where
    pub same : SameStack v u
    pub exported : u.exported ≡ v.exported

  abbrev Comes : View → View → Type 0
  Comes v u = Quiet v u ⊎ ((f : Frame) × MayExport v f × (u ≡ exporting f v))

  quiet : (v u w : View) → u ≡ w → Quiet v w → Comes v u
  quiet v u w is q = inl (subst (λ (z : View). Quiet v z) (sym is) q)

  move_comes : (v u : View) → OneMove p d v u → Comes v u
  move_comes v u (inl m) = quiet v u _ m.after (record { same = record { number = refl; each = refl; held = refl; away = refl }; exported = refl })
  move_comes v u (inr (inl m)) = quiet v u _ m.after (record { same = record { number = refl; each = refl; held = refl; away = refl }; exported = refl })
  move_comes v u (inr (inr (inl m))) = quiet v u _ m.after (record { same = record { number = refl; each = refl; held = refl; away = refl }; exported = refl })
  move_comes v u (inr (inr (inr (inl m)))) = quiet v u _ m.after (record { same = record { number = refl; each = refl; held = refl; away = refl }; exported = refl })
  move_comes v u (inr (inr (inr (inr (inl m))))) = quiet v u _ m.after (record { same = record { number = refl; each = refl; held = refl; away = refl }; exported = refl })
  move_comes v u (inr (inr (inr (inr (inr (inl m)))))) = quiet v u _ m.after (record { same = record { number = refl; each = refl; held = refl; away = refl }; exported = refl })
  move_comes v u (inr (inr (inr (inr (inr (inr m)))))) = inr (m.frame, m.may, m.after)

  stack_comes : (v u : View) → Comes v u → SameStack v u
  stack_comes v u (inl q) = q.same
  stack_comes v u (inr (f, may, is)) = subst (λ (z : View). SameStack v z) (sym is) (record { number = refl; each = refl; held = refl; away = refl })

  frames_come : (v u : View) → Comes v u → (f : Frame) → Contains u.exported f → Contains v.exported f ⊎ CanExport v f
  frames_come v u (inl q) f is = inl (subst (λ (fs : List Frame). Contains fs f) q.exported is)
  frames_come v u (inr (g, may, at)) f is =
      ⊎_elim (λ (e : g ≡ f). inr (subst (λ (h : Frame). CanExport v h) e (record { some_word = may.some_word; own = may.own; holds = may.holds; lives = may.lives; away = λ h q there. may.apart h q (inr there) })))
      (λ was. inl was) (contains_case f g v.exported (subst (λ (z : View). Contains z.exported f) at is))

  stacks_follow : (v u w : View) → SameStack v u → SameStack u w → SameStack v w
  stacks_follow v u w a b = record { number = b.number ∙ a.number; each = b.each ∙ a.each; held = b.held ∙ a.held; away = b.away ∙ a.away }

  moves_stack : (v : View) (xs : List View) (u : View) → AllMoves p d v xs u → SameStack v u
  moves_stack v [] u same = subst (λ (z : View). SameStack v z) same (record { number = refl; each = refl; held = refl; away = refl })
  moves_stack v (x ∷ xs) u all = stacks_follow v x u (stack_comes v x (move_comes v x all.0)) (moves_stack x xs u all.1)

  pub made_stack : (v u : View) → Made p d v u → SameStack v u
  made_stack v u made = moves_stack v made.0 u made.1

  moves_export : (v : View) (xs : List View) (u : View) → AllMoves p d v xs u → (f : Frame) → Contains u.exported f → Contains v.exported f ⊎ CanExport u f
  moves_export v [] u same f is = inl (subst (λ (z : View). Contains z.exported f) (sym same) is)
  moves_export v (x ∷ xs) u all f is =
      let first = move_comes v x all.0 in
      ⊎_elim (λ at. ⊎_elim (λ was. inl was) (λ can. inr (can_still v u f (stacks_follow v x u (stack_comes v x first) (moves_stack x xs u all.1)) can)) (frames_come v x first f at)) (λ can. inr can) (moves_export x xs u all.1 f is)

  pub made_exports : (v u : View) → Made p d v u → (f : Frame) → Contains u.exported f → Contains v.exported f ⊎ CanExport u f
  made_exports v u made = moves_export v made.0 u made.1
