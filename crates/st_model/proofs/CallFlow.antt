-- Calls, forks and runtime calls lead on, and so does what leaves a function. Over each of them the caller keeps what Saved picks, which
-- is what is defined but not taken, and a new activation has its arguments. Reach for entered_flows (a new activation), call_flows,
-- fork_flows, runtime_flows and left_flows.
use Rattle.std.proofs.Common.{◌≡◌, ℕ, ◌+◌, ◌*◌, ◌<◌, ◌≤◌, ◌%◌, true, ◌==◌, [], Option, Some, None, refl, sym, ◌∙◌, subst, inl, inr, arith}
use Rattle.std.specs.Prelude.{◌&&◌, not, nat_lt, slice_get}
use Rattle.std.proofs.lemmas.List.{length-replicate}
use Rattle.std.proofs.lemmas.Bool.{or_cases, or_left, or_right, and_from, not_from_false, false≢true, le-ltb, lt-ltb, eqb-true}
use Rattle.st_base.specs.declared.reg.Reg.{Reg}
use Rattle.st_base.specs.declared.reg.Reg.TheVariants.{A0, A6}
use Rattle.st_base.specs.declared.registers.Pick.TheVariants.{Saved, Arguments}
use Rattle.st_base.specs.declared.thread.Held.{Held}
use Rattle.st_base.specs.declared.thread.Held.TheVariants.{Number, Future, Counter}
use Rattle.st_base.specs.declared.thread.Activation.{Activation}
use Rattle.st_base.specs.declared.thread.ActivationKind.{ActivationKind}
use Rattle.st_base.specs.declared.thread.ActivationKind.TheVariants.{Called, Forked, Root}
use Rattle.st_base.specs.Reg.{reg_number}
use Rattle.st_base.specs.Registers.{write_register, picked, is_picked}
use Rattle.st_model.specs.declared.program.Program.{Program}
use Rattle.st_model.specs.declared.program.ProgramFunction.{ProgramFunction}
use Rattle.st_model.specs.declared.program.RuntimeCall.{RuntimeCall}
use Rattle.st_model.specs.declared.program.RuntimeCall.TheVariants.{Touch, Counter as CounterCall, Done, Join, Poll, Putc}
use Rattle.st_model.specs.declared.effect.Effect.TheVariants.{Touches, Adds, Joins, Prints}
use Rattle.st_model.specs.Effect.{IsFirst, File, advanced, entered, call_into, fork_into, left_by, entry_effect, runtime_effect}
use Rattle.st_model.specs.Flow.{Defined, between, taken_by_call, is_argument, argument_of, defined_at_entry, entry_reads, entry_gives, call_reads, call_gives}
use Rattle.st_model.specs.Accepted.{IsHandle, HasFunction, IsAcceptedFunction}
use Rattle.st_model.proofs.Places.{between_holds, saved_picked, handle_number, nothing, after_item, after_item_cases, after_item_stays}
use Rattle.st_model.proofs.Flowing.{Known, Classed, HasFile, classed_class, file_picked, file_write, file_wider, slots_on, slots_wider}
use Rattle.st_model.proofs.EffectFlow.{Flows, EffectFlows, or_is, At, Onward, place_of, place_low, nothing_low, int_flows, handle_flows}

-- ---- what the caller keeps

pub file_saved : (known : Known) (d : Defined) (file : File) → HasFile known d file → HasFile known (after_item nothing taken_by_call d) (picked Saved file)
file_saved known d file has =
    file_picked known Saved d (after_item nothing taken_by_call d) file has (after_item_stays nothing taken_by_call d 0 has.first refl)
    (λ x lt is. elim (after_item_cases nothing taken_by_call d x is) as (λ w. (d x ≡ true) × (is_picked Saved x ≡ true)) [
      | inl a ↦ absurd (false≢true a)
      | inr b ↦ (b.0, saved_picked x lt (classed_class known x _ (has.each x lt b.0)) b.1)
    ])

-- and what a call gives
pub file_given : (known : Known) (d : Defined) (file : File) (r : Reg) (held : Held) → HasFile known d file → Classed known (reg_number r) (Some held) → HasFile known (after_item (place_of r) taken_by_call d) (write_register (picked Saved file) r held)
file_given known d file r held has good =
    file_write known (after_item nothing taken_by_call d) (after_item (place_of r) taken_by_call d) (picked Saved file) r held (file_saved known d file has) good
    (after_item_stays (place_of r) taken_by_call d 0 has.first refl)
    (λ x lt is. elim (or_cases (place_of r x) (after_item nothing taken_by_call d x) is) [ inl a ↦ inl (eqb-true x (reg_number r) a) | inr b ↦ inr b ])

-- ---- a new activation

picked_between : (low high x : ℕ) → between low high x ≡ true → not (nat_lt x low) && nat_lt x high ≡ true
picked_between low high x e =
    let h = between_holds low high x e in
    and_from _ _ (not_from_false _ (le-ltb x low h.0)) (lt-ltb x high h.1)

argument_picked : (ints handles x : ℕ) → is_argument ints handles x ≡ true → is_picked (Arguments ints handles) x ≡ true
argument_picked ints handles x e =
    elim (or_cases (between 10 (10 + ints) x) (between 16 (16 + handles) x) e) as (λ w. is_picked (Arguments ints handles) x ≡ true) [
      | inl a ↦ or_left _ _ (or_right _ _ (picked_between 10 (10 + ints) x a))
      | inr a ↦ or_right _ _ (picked_between 16 (16 + handles) x a)
    ]

argument_high : (ints handles x : ℕ) → ints ≤ 6 → handles ≤ 2 → is_argument ints handles x ≡ true → x < 18
argument_high ints handles x few fewer e =
    elim (or_cases (between 10 (10 + ints) x) (between 16 (16 + handles) x) e) [
      | inl a ↦ let h = between_holds 10 (10 + ints) x a in omega arith
      | inr a ↦ let h = between_holds 16 (16 + handles) x a in omega arith
    ]

-- no slot is defined at entry
entry_low : (function : ProgramFunction) (x : ℕ) → function.ints ≤ 6 → function.handles ≤ 2 → 32 ≤ x → defined_at_entry function x ≡ true → ⊥
entry_low function x few fewer low e =
    elim (or_cases (x == 0) (is_argument function.ints function.handles x) e) [
      | inl a ↦ let same = eqb-true x 0 a in omega arith
      | inr a ↦ let high = argument_high function.ints function.handles x few fewer a in omega arith
    ]

pub entered_flows : (known : Known) (p : Program) (f : ℕ) (function : ProgramFunction) (d : Defined) (kept file : File) (kind : ActivationKind) → slice_get p.functions f ≡ Some function → IsAcceptedFunction p function → HasFile known d file → ((x : ℕ) → is_argument function.ints function.handles x ≡ true → d x ≡ true) → Flows known p (entered f function kept kind) (picked (Arguments function.ints function.handles) file)
entered_flows known p f function d kept file kind here ok has args =
    record {
      function = function;
      here = here;
      back = [];
      leads = refl;
      has =
          file_picked known (Arguments function.ints function.handles) d (defined_at_entry function) file has refl
          (λ x lt is. elim (or_cases (x == 0) (is_argument function.ints function.handles x) is) as (λ w. (d x ≡ true) × (is_picked (Arguments function.ints function.handles) x ≡ true)) [
            | inl a ↦ (subst (λ y. d y ≡ true) (sym (eqb-true x 0 a)) has.first, or_left _ _ (or_left _ _ a))
            | inr a ↦ (args x a, argument_picked function.ints function.handles x a)
          ]);
      slots = record {
        bytes_long = length-replicate function.frame_bytes None;
        handles_long = length-replicate function.slots None;
        bytes = λ b low high is. absurd (entry_low function (32 + b) ok.formed.ints ok.formed.handles (omega arith) is);
        handles = λ s lt is. absurd (entry_low function (32 + 8 * s) ok.formed.ints ok.formed.handles (omega arith) is);
      };
    }

module _ (known : Known) (p : Program) (function : ProgramFunction) (top : Activation) (file : File) (d : Defined) where
  -- after a call that gives nothing
  saved_flows : (r : Defined) → At known p function r nothing taken_by_call Onward top file d → Flows known p (advanced top) (picked Saved file)
  saved_flows r c =
      c.go (advanced top) (picked Saved file) refl refl (file_saved known d file c.has) (slots_on known function nothing taken_by_call d top (top.next + 1) c.slots nothing_low)

  -- after a call that gives a register
  given_flows : (r : Defined) (rd : Reg) (held : Held) → At known p function r (place_of rd) taken_by_call Onward top file d → Classed known (reg_number rd) (Some held) → Flows known p (advanced top) (write_register (picked Saved file) rd held)
  given_flows r rd held c good =
      c.go (advanced top) (write_register (picked Saved file) rd held) refl refl (file_given known d file rd held c.has good) (slots_on known function (place_of rd) taken_by_call d top (top.next + 1) c.slots (place_low rd))

  pub call_flows : (f : ℕ) (o : Option ProgramFunction) → slice_get p.functions f ≡ o → At known p function (argument_of o) (place_of A0) taken_by_call Onward top file d → HasFunction p f → EffectFlows known p top (call_into f o top file)
  call_flows f None is c fits = absurd (let e : None ≡ Some fits.0 = sym is ∙ fits.1 in cc)
  call_flows f (Some callee) is c fits = (
    record { kind = refl; kept = refl },
    refl,
    entered_flows known p f callee d (picked Saved file) file Called is (c.accepted.functions f callee is) c.has c.reads,
    λ v. given_flows (argument_of (Some callee)) A0 (Number v) c (inl (refl, tt)),
  )

  pub fork_flows : (f : ℕ) (handle : Reg) (o : Option ProgramFunction) → slice_get p.functions f ≡ o → At known p function (argument_of o) (place_of handle) taken_by_call Onward top file d → HasFunction p f → IsHandle handle → EffectFlows known p top (fork_into f handle o top file)
  fork_flows f handle None is c fits class = absurd (let e : None ≡ Some fits.0 = sym is ∙ fits.1 in cc)
  fork_flows f handle (Some callee) is c fits class = (
    record { kind = refl; kept = refl },
    refl,
    refl,
    entered_flows known p f callee d (picked Saved file) file Forked is (c.accepted.functions f callee is) c.has c.reads,
    λ q.
        c.go_or q (advanced top) (write_register (picked Saved file) handle (Future q)) refl refl
        (file_given (or_is known q) d file handle (Future q) (file_wider known (or_is known q) d file (λ r k. inl k) c.has) (inr (sym (handle_number handle) ∙ class, inr refl)))
        (slots_on (or_is known q) function (place_of handle) taken_by_call d top (top.next + 1) (slots_wider known (or_is known q) function d top (λ r k. inl k) c.slots) (place_low handle)),
  )

  entry_flows : (call : RuntimeCall) → At known p function (entry_reads call) (entry_gives call) taken_by_call Onward top file d → EffectFlows known p top (entry_effect call top file)
  entry_flows Touch c =
      handle_flows known p function top file d (place_of A6) (place_of A0) taken_by_call Onward A6 (λ name. Touches name (advanced top) (picked Saved file)) c refl refl
      (λ name good. (record { kind = refl; kept = refl }, good, λ v. given_flows (place_of A6) A0 (Number v) c (inl (refl, tt))))
  entry_flows CounterCall c = (record { kind = refl; kept = refl }, λ q n. given_flows nothing A6 (Counter q n) c (inr (refl, tt)))
  entry_flows Done c =
      handle_flows known p function top file d (place_of A6) nothing taken_by_call Onward A6 (λ name. Adds name (advanced top) (picked Saved file)) c refl refl
      (λ name good. (record { kind = refl; kept = refl }, good, saved_flows (place_of A6) c))
  entry_flows Join c =
      handle_flows known p function top file d (entry_reads Join) nothing taken_by_call Onward A6 _ c refl refl
      (λ name good. int_flows known p function top file d (entry_reads Join) nothing taken_by_call Onward A0 (λ n. Joins name n (advanced top) (picked Saved file)) c refl refl
      (λ n. (record { kind = refl; kept = refl }, good, saved_flows (entry_reads Join) c)))
  entry_flows Poll c = (record { kind = refl; kept = refl }, saved_flows nothing c)
  entry_flows Putc c =
      int_flows known p function top file d (place_of A0) nothing taken_by_call Onward A0 (λ n. Prints (n % 256) (advanced top) (picked Saved file)) c refl refl
      (λ n. (record { kind = refl; kept = refl }, saved_flows (place_of A0) c))

  pub runtime_flows : (o : Option RuntimeCall) → At known p function (call_reads o) (call_gives o) taken_by_call Onward top file d → (call : RuntimeCall) × (o ≡ Some call) → EffectFlows known p top (runtime_effect o top file)
  runtime_flows None c fits = absurd (let e = fits.1 in cc)
  runtime_flows (Some call) c fits = entry_flows call c

-- a return, or the end of a thread
pub left_flows : (known : Known) (p : Program) (top : Activation) (kind : ActivationKind) (v : ℕ) → top.kind ≡ kind → EffectFlows known p top (left_by kind top.kept v)
left_flows known p top Called v e = (e, (v, refl))
left_flows known p top Forked v e = (subst IsFirst (sym e) tt, refl)
left_flows known p top Root v e = (subst IsFirst (sym e) tt, refl)
