-- The output and limits: byte_unprinted, byte_elsewhere, stop_of_nobody, stop_unpassed and items_unbegun.
use Rattle.std.proofs.Common.{◌≡◌, inl, inr, ⊎_elim, ℕ, ◌+◌, ◌*◌, ◌^◌, ◌≤◌, ◌<◌, List, [], ◌∷◌, ◌++◌, length, Option, Some, refl, sym, ap, ◌∙◌, arith, slice_get}
use Rattle.std.proofs.lemmas.Option.{slice_get_past}
use Rattle.st_base.specs.declared.limits.Limits.{Limits}
use Rattle.st_words.specs.Encodings.{printed}
use Rattle.st_model.specs.declared.output.Printed.{Printed}
use Rattle.st_model.specs.declared.program.Program.{Program}
use Rattle.st_model.specs.Memory.{Data}
use Rattle.st_model.specs.Heap.{Heap, print, after}
use Rattle.st_model.specs.Limits.{PassesStep, PassesStack, PassesCell}
use Rattle.st_laws.proofs.Beginning.{member_steps, distinct_within}
use Rattle.st_world.proofs.Functions.{put_here, put_other}
use Rattle.st_output.specs.Showing.{out_word}
use Rattle.st_limits.specs.Stopping.{StopMeans}
use Rattle.st_refused.specs.Unbacked.{ByteUnprinted, ByteElsewhere, StopOfNobody, StopUnpassed, ItemsUnbegun, kind_in, worker_in}

-- ---- the output

pub byte_unprinted : ByteUnprinted
byte_unprinted h x w i n v some past O = some (sym (put_here x.out i n) ∙ (O.each i ∙ ap out_word (slice_get_past h.out i past)))

get_last : (bs : List Printed) (b : Printed) → slice_get (bs ++ b ∷ []) (length bs) ≡ Some b
get_last [] b = refl
get_last (a ∷ bs) b = get_last bs b

pub byte_elsewhere : ByteElsewhere
byte_elsewhere h x t c byte w i n v O prints other O' =
    let k : ℕ = length h.out in
    let b : Printed = record { byte = byte; forks = t.forks } in
    let longer : (after h [] t c).out ≡ h.out ++ b ∷ [] = ap (λ (o : Option ℕ). print [] o t.forks h.out) prints in
    let was : x.out k ≡ 0 = O.each k ∙ ap out_word (slice_get_past h.out k (omega arith)) in
    let now : x.out k ≡ printed t.forks byte = sym (put_other x.out i n k (λ e. other (sym e))) ∙ (O'.each k ∙ ap out_word (ap (λ (bs : List Printed). slice_get bs k) longer ∙ get_last h.out b)) in
    omega (arith, was, now)

-- ---- stop codes

parts : (kind worker frame code : ℕ) → kind ≤ 3 → code ≡ kind + 256 * worker + 2 ^ 16 * frame → (kind_in code ≡ kind) × (worker_in code ≤ worker)
parts kind worker frame code small e = (omega arith, omega arith)

module _ (program : Program) (source : Data) (limits : Limits) (h0 : Heap) (workers code : ℕ) where
  -- the code names a worker, and a limit that a run passes
  record Tells : Type 0 where
    below : worker_in code < workers
    least : 1 ≤ kind_in code
    most : kind_in code ≤ 3
    stack : kind_in code ≡ 1 → PassesStack program source h0 limits.stack
    cell : kind_in code ≡ 2 → PassesCell program source h0 limits.cells
    step : kind_in code ≡ 3 → PassesStep program source h0 limits.steps

  tells_by : (kind worker frame : ℕ) → worker < workers → code ≡ kind + 256 * worker + 2 ^ 16 * frame → 1 ≤ kind → kind ≤ 3 → (kind ≡ 1 → PassesStack program source h0 limits.stack) → (kind ≡ 2 → PassesCell program source h0 limits.cells) → (kind ≡ 3 → PassesStep program source h0 limits.steps) → Tells
  tells_by kind worker frame less e least most stack cell step =
      let both = parts kind worker frame code most e in
      let k = both.0 in
      let v = both.1 in
      record { below = omega (arith, less, v); least = omega (arith, least, k); most = omega (arith, most, k); stack = λ z. stack (sym k ∙ z); cell = λ z. cell (sym k ∙ z); step = λ z. step (sym k ∙ z) }

  tells : StopMeans program source limits h0 workers code → Tells
  tells (w, less, inl m) = let e = m.0 in tells_by 3 w 0 less (omega (arith, e)) (omega arith) (omega arith) (λ z. absurd (omega (arith, z))) (λ z. absurd (omega (arith, z))) (λ z. m.1)
  tells (w, less, inr (inl m)) = let e = m.0 in tells_by 2 w 0 less (omega (arith, e)) (omega arith) (omega arith) (λ z. absurd (omega (arith, z))) (λ z. m.1) (λ z. absurd (omega (arith, z)))
  tells (w, less, inr (inr m)) = tells_by 1 w m.0 less m.1 (omega arith) (omega arith) (λ z. m.2) (λ z. absurd (omega (arith, z))) (λ z. absurd (omega (arith, z)))

pub stop_of_nobody : StopOfNobody
stop_of_nobody program source limits h0 h x some wrong W =
    let m = tells program source limits h0 x.workers x.stop (W.stops some) in
    let below = m.below in
    let least = m.least in
    let most = m.most in
    ⊎_elim
    (λ (e : kind_in x.stop ≡ 0). omega (arith, e, least))
    (λ more. ⊎_elim (λ (e : 3 < kind_in x.stop). omega (arith, e, most)) (λ (e : x.workers ≤ worker_in x.stop). omega (arith, e, below)) more)
    wrong

pub stop_unpassed : StopUnpassed
stop_unpassed program source limits h0 h x (inl none) W =
    let k = none.0 in none.1 ((tells program source limits h0 x.workers x.stop (W.stops (λ e. omega (arith, k, e)))).stack k)
stop_unpassed program source limits h0 h x (inr (inl none)) W =
    let k = none.0 in none.1 ((tells program source limits h0 x.workers x.stop (W.stops (λ e. omega (arith, k, e)))).cell k)
stop_unpassed program source limits h0 h x (inr (inr none)) W =
    let k = none.0 in none.1 ((tells program source limits h0 x.workers x.stop (W.stops (λ e. omega (arith, k, e)))).step k)

-- ---- items

pub items_unbegun : ItemsUnbegun
items_unbegun program source limits h0 h x run w begun all past =
    let most = distinct_within run.begun begun run.are_begun.distinct (λ p m. member_steps p begun (all p (run.are_begun.somewhere p m))) in
    let within = (run.numbers w).items_within in
    omega (arith, most, within, past)
