-- What a worker makes by itself is a run of the heap-frame machine (made_runs): each move is a step of the first thread or none (run_one), and the
-- runs of a list of moves follow one another (run_all).
use Rattle.std.proofs.Common.{◌≡◌, inl, inr, true, List, [], ◌∷◌, ◌++◌, refl, sym, ap, ◌∙◌, subst}
use Rattle.std.proofs.lemmas.List.{append_assoc}
use Rattle.st_words.specs.declared.view.Known.{Known}
use Rattle.st_words.specs.declared.view.View.{View}
use Rattle.st_words.specs.Views.{without_chain}
use Rattle.st_model.specs.declared.program.Program.{Program}
use Rattle.st_model.specs.Memory.{Data}
use Rattle.st_model.specs.Heap.{Path, Heap, Change, Moves, Enabled, Run, IsNumbered}
use Rattle.st_laws.proofs.Staying.{run_is_numbered}
use Rattle.st_made.specs.Items.{went, born, child_path, next_move}
use Rattle.st_made.specs.Moves.{OneMove, AllMoves}
use Rattle.st_made.specs.Runs.{known_of, all_known, AreIn, HasSeen, Onward, MadeRuns}
use Rattle.st_made.proofs.Making.{free_one, same_free}
use Rattle.st_made.proofs.Running.{AreAmong, among_same, stays_in, goes_on, forks, enough, seen_on, seen_same, suspended_among, begun_among, restarted_among}

-- the threads of both views, by equal lists
pub on_lists : (program : Program) (source : Data) (h : Heap) (ts ts' us us' : List Known) → ts' ≡ ts → us' ≡ us → Onward program source h ts us → Onward program source h ts' us'
on_lists program source h ts ts' us us' e f on = subst (λ x. Onward program source h x us') (sym e) (subst (λ x. Onward program source h ts x) (sym f) on)

pub are_lists : (h : Heap) (ts ts' : List Known) → ts ≡ ts' → AreIn h ts → AreIn h ts'
are_lists h ts ts' e is = subst (AreIn h) e is

-- the threads are these, with the turn behind them
all_is : (v : View) (ts : List Known) → v.threads ≡ ts → all_known v ≡ ts ++ known_of v.chains
all_is v ts e = ap (λ (l : List Known). l ++ known_of v.chains) e

all_of : (u x : View) → u ≡ x → all_known u ≡ all_known x
all_of u x e = ap all_known e

-- the same threads, or fewer
rests_in : (program : Program) (source : Data) (h : Heap) (v u : View) (ts us : List Known) → AreIn h (all_known v) → all_known v ≡ ts → all_known u ≡ us → AreAmong ts us → Onward program source h (all_known v) (all_known u)
rests_in program source h v u ts us is e f among = on_lists program source h ts (all_known v) us (all_known u) e f (stays_in program source h ts us (are_lists h (all_known v) ts e is) among)

-- a change that waits for nothing
pub at_once : (program : Program) (source : Data) (h : Heap) (top : Known) (c : Change) → next_move program source top ≡ Moves c → Enabled h (next_move program source top) c
at_once program source h top c e = subst (λ m. Enabled h m c) (sym e) refl

run_one : (program : Program) (source : Data) (h : Heap) (v u : View) → IsNumbered h → AreIn h (all_known v) → HasSeen h v → OneMove program source v u → Onward program source h (all_known v) (all_known u)
run_one program source h v u numbered is seen (inl m) =
    let ks = known_of v.chains in
    rests_in program source h v u (m.top ∷ (m.rest ++ ks)) (record m.top { begun = true } ∷ (m.rest ++ ks)) is (all_is v (m.top ∷ m.rest) m.is) (all_of u _ m.after) (begun_among m.top (m.rest ++ ks))
run_one program source h v u numbered is seen (inr (inl m)) =
    let ks = known_of v.chains in
    let e : all_known v ≡ m.top ∷ (m.rest ++ ks) = all_is v (m.top ∷ m.rest) m.is in
    on_lists program source h (m.top ∷ (m.rest ++ ks)) (all_known v) (went m.top m.change.own ∷ (m.rest ++ ks)) (all_known u) e (all_of u _ m.after)
    (goes_on program source h m.top (m.rest ++ ks) m.change numbered (are_lists h (all_known v) (m.top ∷ (m.rest ++ ks)) e is) (enough h v (next_move program source m.top) m.change seen m.can))
run_one program source h v u numbered is seen (inr (inr (inl m))) =
    let ks = known_of v.chains in
    let e : all_known v ≡ m.top ∷ (m.rest ++ ks) = all_is v (m.top ∷ m.rest) m.is in
    on_lists program source h (m.top ∷ (m.rest ++ ks)) (all_known v) (born m.cell (child_path m.top) m.child ∷ went m.top m.change.own ∷ (m.rest ++ ks)) (all_known u) e (all_of u _ m.after)
    (forks program source h m.top (m.rest ++ ks) m.change m.child m.cell numbered (are_lists h (all_known v) (m.top ∷ (m.rest ++ ks)) e is) (at_once program source h m.top m.change m.can) m.made)
run_one program source h v u numbered is seen (inr (inr (inr (inl m)))) =
    let ks = known_of v.chains in
    rests_in program source h v u ((m.top ∷ m.rest) ++ ks) (m.rest ++ m.top ∷ ks) is (all_is v (m.top ∷ m.rest) m.may.is) (all_of u _ m.after) (suspended_among m.top m.rest ks)
run_one program source h v u numbered is seen (inr (inr (inr (inr (inl m))))) =
    let ks = known_of v.chains in
    rests_in program source h v u (m.above ++ m.bottom ∷ ks) (m.above ++ m.bottom ∷ ks) is (all_is v (m.above ++ m.bottom ∷ []) m.may.is ∙ append_assoc m.above (m.bottom ∷ []) ks) (all_of u _ m.after) (among_same (m.above ++ m.bottom ∷ ks))
run_one program source h v u numbered is seen (inr (inr (inr (inr (inr (inl m)))))) =
    rests_in program source h v u (known_of v.chains) (m.chain.known ∷ known_of (without_chain m.chain.known.note.cell v.chains)) is (all_is v [] m.may.none) (all_of u _ m.after) (restarted_among m.chain v.chains m.may.carried)
run_one program source h v u numbered is seen (inr (inr (inr (inr (inr (inr m)))))) =
    rests_in program source h v u (all_known v) (all_known v) is refl (all_of u _ m.after) (among_same (all_known v))

-- a move sees the same
one_sees : (program : Program) (source : Data) (h h' : Heap) (ps : List Path) (v u : View) → IsNumbered h → Run program source h ps h' → OneMove program source v u → HasSeen h v → HasSeen h' u
one_sees program source h h' ps v u numbered run m seen =
    let free = free_one program source v u m in
    let same = same_free v u free.0 free.1 in
    seen_same h' v u same.names same.values same.counts (seen_on program source h h' ps v numbered run seen)

-- ---- moves after moves

pub append_runs : (program : Program) (source : Data) (h mid h' : Heap) (ps qs : List Path) → Run program source h ps mid → Run program source mid qs h' → Run program source h (ps ++ qs) h'
append_runs program source h mid h' [] qs a b = subst (λ x. Run program source x qs h') (sym a) b
append_runs program source h mid h' (p ∷ ps) qs a b = (a.0, a.1, append_runs program source a.0 mid h' ps qs a.2 b)

follows : (program : Program) (source : Data) (h : Heap) (ts us ws : List Known) (one : Onward program source h ts us) → Onward program source one.heap us ws → Onward program source h ts ws
follows program source h ts us ws one two = record {
  heap = two.heap;
  steps = one.steps ++ two.steps;
  run = append_runs program source h one.heap two.heap one.steps two.steps one.run two.run;
  are_in = two.are_in;
  others = λ q t there none. let a = one.others q t there none in two.others q t a.0 a.1;
}

run_all : (program : Program) (source : Data) (h : Heap) (v u : View) (vs : List View) → IsNumbered h → AreIn h (all_known v) → HasSeen h v → AllMoves program source v vs u → (on : Onward program source h (all_known v) (all_known u)) × HasSeen on.heap u
unfolding follows
run_all program source h v u [] numbered is seen m =
    let on = stays_in program source h (all_known v) (all_known v) is (among_same (all_known v)) in
    subst (λ x. (o : Onward program source h (all_known v) (all_known x)) × HasSeen o.heap x) m (on, seen_on program source h on.heap on.steps v numbered on.run seen)
run_all program source h v u (y ∷ ys) numbered is seen m =
    let one = run_one program source h v y numbered is seen m.0 in
    let seen' = one_sees program source h one.heap one.steps v y numbered one.run m.0 seen in
    let rest = run_all program source one.heap y u ys (run_is_numbered program source h one.heap one.steps numbered one.run) one.are_in seen' m.1 in
    (follows program source h (all_known v) (all_known y) (all_known u) one rest.0, rest.1)

pub made_runs : MadeRuns
made_runs program source h v u numbered is seen m = run_all program source h v u m.0 numbered is seen m.1
