-- The steps of a thread are a sum over a run (steps_within), and the ordinary-call run is a run with its own sums (summed): one that is Done
-- leads to a quiet heap (done_is_quiet), so no run passes a limit that its sums keep (done_keeps_limits).
use Rattle.std.proofs.Common.{◌≡◌, ℕ, ◌+◌, Bool, true, false, cond, List, [], ◌∷◌, ◌++◌, refl, sym, ap, ◌∙◌, subst, arith}
use Rattle.std.specs.Str.{bytes_eq}
use Rattle.st_base.specs.declared.thread.Activation.{Activation}
use Rattle.st_base.specs.declared.thread.Standing.TheVariants.{Ended}
use Rattle.st_base.specs.declared.thread.Thread.{Thread}
use Rattle.st_model.specs.declared.program.Program.{Program}
use Rattle.st_model.specs.declared.ordinary.OrdEnd.TheVariants.{Done as EndDone}
use Rattle.st_model.specs.declared.ordinary.State.{State}
use Rattle.st_model.specs.declared.ordinary.Turn.TheVariants.{Over}
use Rattle.st_model.specs.Memory.{Data}
use Rattle.st_model.specs.Ordinary.{step}
use Rattle.st_model.specs.Heap.{Path, Heap, own, after, HStep, Run, first_heap, IsNumbered, steps_of}
use Rattle.st_model.specs.Limits.{frame_at, drawn_at, total}
use Rattle.st_model.specs.Quiet.{IsQuiet}
use Rattle.st_laws.specs.Sequential.{Stands, Steps}
use Rattle.st_laws.specs.Steps.{StepsWithin}
use Rattle.st_laws.specs.Begun.{ordinary_sum, DoneIsQuiet, DoneKeepsLimits}
use Rattle.st_laws.proofs.HeapSteps.{same_thread}
use Rattle.st_laws.proofs.Numbering.{numbered_after, numbered_run}
use Rattle.st_laws.proofs.Sequence.{newest_of, ending, sequential}
use Rattle.st_laws.proofs.Later.{no_step, ended_stopped}
use Rattle.st_laws.proofs.Quieting.{all_ended, first_stands, AllEnded}
use Rattle.st_laws.proofs.Passing.{totals_within, quiet_passes}
use Rattle.st_laws.proofs.Adding.{total_snoc}

-- ---- steps of one thread
abbrev is_of : Path → Path → Thread → ℕ
is_of p q t = cond (bytes_eq p q) 1 0

one_or : (b : Bool) (n : ℕ) → cond b (n + 1) n ≡ cond b 1 0 + n
one_or true n = omega arith
one_or false n = omega arith

total_steps : (program : Program) (source : Data) (p : Path) (h : Heap) (ps : List Path) (h' : Heap) (run : Run program source h ps h') → steps_of p ps ≡ total program source (is_of p) h ps h' run
total_steps program source p h [] h' run = refl
total_steps program source p h (q ∷ ps) h' run =
    one_or (bytes_eq p q) (steps_of p ps) ∙ ap (λ n. cond (bytes_eq p q) 1 0 + n) (total_steps program source p run.0 ps h' run.2)

pub steps_within : StepsWithin
steps_within program source h a b ps qs p numbered r q quiet =
    let x = total_steps program source p h ps a r in
    let y = total_steps program source p h qs b q in
    let z = totals_within program source (is_of p) h ps qs a b r q numbered quiet in
    omega arith

-- ---- the ordinary run as a run
record Summed (program : Program) (source : Data) (of : List Activation → ℕ) (h : Heap) (ps : List Path) (t : State) (sum : ℕ) : Type 0 where
  end : Heap
  run : Run program source h ps end
  stands : Stands t end
  sums : total program source (λ p u. of u.activations) h ps end run ≡ sum

-- the newest activation alone gives the number
abbrev ByTop : (List Activation → ℕ) → Type 0
ByTop of = (top : Activation) (mine : List Activation) → of (top ∷ mine) ≡ of (top ∷ [])

newest_gives : (of : List Activation → ℕ) → ByTop of → (program : Program) (source : Data) (s : State) (h h' : Heap) (st : Stands s h) (x : HStep program source h s.rest.thread.path h') → of x.thread.activations ≡ of (s.top ∷ [])
newest_gives of by program source s h h' st x =
    let same : x.thread ≡ newest_of s h st = same_thread h s.rest.thread.path x.thread (newest_of s h st) x.here st.here in
    ap (λ u. of u.activations) same ∙ by s.top st.mine

summed : (of : List Activation → ℕ) → ByTop of → (program : Program) (source : Data) (s t : State) (h : Heap) (ps : List Path) → IsNumbered h → Stands s h → (steps : Steps program source s ps t) → Summed program source of h ps t (ordinary_sum program source of s ps t steps)
summed of by program source s t h [] numbered st steps = record { end = h; run = refl; stands = subst (λ x. Stands x h) steps st; sums = refl }
summed of by program source s t h (p ∷ ps) numbered st steps =
    let path = steps.0 in
    let mid = steps.1.0 in
    let one = sequential program source s mid h numbered st steps.1.1 in
    let more = summed of by program source mid t one.0 ps (numbered_after program source h s.rest.thread.path one.0 numbered one.1) one.2 steps.1.2 in
    let gives = newest_gives of by program source s h one.0 st one.1 in
    let rest = more.sums in
    subst (λ q. Summed program source of h (q ∷ ps) t (of (s.top ∷ []) + ordinary_sum program source of mid ps t steps.1.2)) (sym path)
    record { end = more.end; run = (one.0, one.1, more.run); stands = more.stands; sums = omega arith }

-- ---- one that is Done
record Whole (program : Program) (source : Data) (of : List Activation → ℕ) (h : Heap) (steps : List Path) (sum : ℕ) : Type 0 where
  end : Heap
  run : Run program source h steps end
  quiet : IsQuiet program source end
  sums : total program source (λ p u. of u.activations) h steps end run ≡ sum

whole : (of : List Activation → ℕ) → ByTop of → (program : Program) (source : Data) (s t : State) (h : Heap) (ps : List Path) (out : List ℕ) → IsNumbered h → Stands s h → (steps : Steps program source s ps t) → step program source t ≡ Over (EndDone out) → Whole program source of h (ps ++ t.rest.thread.path ∷ []) (ordinary_sum program source of s ps t steps + of (t.top ∷ []))
whole of by program source s t h ps out numbered st steps over =
    let x = summed of by program source s t h ps numbered st steps in
    let g = x.end in
    let last = newest_of t g x.stands in
    let done = ending program source t (EndDone out) g (numbered_run program source h ps g numbered x.run) x.stands over in
    let e = t.rest.thread.path in
    let v = done.2.0 in
    let g' = after g e last (own (record last { standing = Ended v })) in
    let ended : AllEnded g' = all_ended program t g last v x.stands done.1 in
    let longer = total_snoc program source (λ p u. of u.activations) h ps g e g' x.run done.2.1 in
    let gives = newest_gives of by program source t g g' x.stands done.2.1 in
    let a = x.sums in
    let b = longer.1 in
    record {
      end = g';
      run = longer.0;
      quiet = λ p h'' y. let z = ended p y.thread y.here in no_step program source g' p h'' y.thread y.here (ended_stopped y.thread.standing z.0 z.1) y;
      sums = omega arith;
    }

pub done_is_quiet : DoneIsQuiet
done_is_quiet program source s t ps out first steps over =
    let stands = first_stands program source s first in
    let x = whole (frame_at program) (λ top mine. refl) program source s t (first_heap s) ps out stands.1 stands.0 steps over in
    (x.end, (x.run, x.quiet))

pub done_keeps_limits : DoneKeepsLimits
done_keeps_limits program source s t ps out steps limit first over =
    let stands = first_stands program source s first in
    let h = first_heap s in
    let frames = whole (frame_at program) (λ top mine. refl) program source s t h ps out stands.1 stands.0 steps over in
    let cells = whole (drawn_at program) (λ top mine. refl) program source s t h ps out stands.1 stands.0 steps over in
    let qs = ps ++ t.rest.thread.path ∷ [] in
    let a = frames.sums in
    let b = cells.sums in (
      λ passes. let x = (quiet_passes program source h frames.end qs frames.run limit stands.1 frames.quiet).0 passes in omega arith,
      λ passes. let x = (quiet_passes program source h cells.end qs cells.run limit stands.1 cells.quiet).1 passes in omega arith,
    )
