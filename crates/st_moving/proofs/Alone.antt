-- A lone thread on a machine: nothing lies below it (newest_alone), its next item follows a call of one word (next_item), and alone puts it together.
-- With the registers that a call keeps it has its file: kept_file.
use Rattle.std.proofs.Common.{◌≡◌, inr, ℕ, Bool, List, [], ◌∷◌, Option, None, refl, subst, arith}
use Rattle.st_base.specs.declared.chain.Frame.{Frame}
use Rattle.st_base.specs.declared.registers.Pick.TheVariants.{Saved}
use Rattle.st_base.specs.declared.thread.Activation.{Activation}
use Rattle.st_base.specs.declared.thread.Held.{Held}
use Rattle.st_base.specs.Registers.{picked}
use Rattle.st_model.specs.declared.code.Layout.TheVariants.{Postprocessed}
use Rattle.st_model.specs.declared.program.Item.{Item}
use Rattle.st_model.specs.declared.program.Program.{Program}
use Rattle.st_model.specs.declared.program.ProgramFunction.{ProgramFunction}
use Rattle.st_model.specs.Accepted.{IsAccepted}
use Rattle.st_model.specs.Effect.{File, advanced}
use Rattle.st_model.specs.Layout.{item_size}
use Rattle.st_words.specs.declared.view.Known.{Known}
use Rattle.st_step.specs.declared.state.State.{State}
use Rattle.st_step.specs.Frames.{Naming, HasFile, IsFrameless, value_in}
use Rattle.st_items.specs.Body.{Context, Ends, IsOn, IsFramed}
use Rattle.st_items.specs.Code.{HasItem}
use Rattle.st_items.proofs.Addresses.{next_address}
use Rattle.st_items.proofs.KeptFiles.{holds_saved, picked_held}
use Rattle.st_chain.specs.Walk.{word_in, is_held, named_by, FromNewest, Below}
use Rattle.st_chain.specs.Threads.{AtEnd}
use Rattle.st_chain.specs.Chains.{KeepsFile}
use Rattle.st_chain.specs.Seen.{AllSame, SameKept}
use Rattle.st_chain.specs.Copying.{over}
use Rattle.st_chain.proofs.Frames.{newest_same}
use Rattle.st_standing.specs.Standing.{under, Behind}
use Rattle.st_moving.specs.Moving.{IsAlone}

-- ---- words

words_same : (holds : ℕ → Bool) (word : ℕ → ℕ) (fs : List Frame) → AllSame holds holds word word fs
words_same holds word [] = tt
words_same holds word (f ∷ fs) = (record { held = λ q inside is. is; words = λ q inside. refl }, words_same holds word fs)

-- of the registers only those that a call keeps are read
pub newest_alone : (p : Program) (names : List (Held × ℕ)) (held : List (Option ℕ)) (cell ahead pc fp : ℕ) (value value' : ℕ → ℕ) (acts : List Activation) (fs : List Frame) → IsAccepted p → SameKept value value' → FromNewest p (named_by names) (is_held held) AtEnd ahead pc fp (word_in held) value acts fs
    → FromNewest p (named_by names) (is_held held) (under p names (is_held held) cell [] []) ahead pc fp (word_in held) value' acts fs
newest_alone p names held cell ahead pc fp value value' acts fs accepted same newest =
    newest_same p (named_by names) (named_by names) (λ name n is. is) (is_held held) (is_held held) (word_in held) (word_in held) accepted AtEnd (under p names (is_held held) cell [] []) (λ kind kept was is end_fp ret alike end. end) acts fs ahead pc fp value value' (words_same (is_held held) (word_in held) fs) same newest

-- ---- the next item

framed_on : (names : Naming) (older : Context) (word value : ℕ → ℕ) (low fp : ℕ) (function : ProgramFunction) (a : Activation) → IsFramed names older word value low fp function a → IsFramed names older word value low fp function (advanced a)
framed_on names older word value low fp function a framed =
    let slots = framed.slots in
    record { base = framed.base; slots = record { bytes_long = slots.bytes_long; handles_long = slots.handles_long; bytes = slots.bytes; handles = slots.handles }; below = framed.below }

pub next_item : (p : Program) (names : Naming) (holds : ℕ → Bool) (end : Context) (pc fp : ℕ) (word value : ℕ → ℕ) (a : Activation) (older : List Activation) (fs : List Frame) (function : ProgramFunction) (item : Item) → HasItem p a.function function a.next item → item_size Postprocessed function item.kind ≡ 1
    → FromNewest p names holds end 1 pc fp word value (a ∷ older) fs → FromNewest p names holds end 0 pc fp word value (advanced a ∷ older) fs
next_item p names holds end pc fp word value a older [] function item has one newest = absurd newest
next_item p names holds end pc fp word value a older (f ∷ gs) function item has one (own, is) =
    let named = has.named in
    let here = is.here in
    let same : function ≡ own = cc in
    let own_has = subst (λ (x : ProgramFunction). HasItem p a.function x a.next item) same has in
    let own_one = subst (λ (x : ProgramFunction). item_size Postprocessed x item.kind ≡ 1) same one in
    let behind = next_address Postprocessed p a.function own a.next item own_has in
    let at = is.at in (
      own,
      record {
        here = is.here;
        begun = omega arith;
        at = omega (arith, at, behind, own_one);
        lies = is.lies;
        framed = framed_on names (Below p names holds end older gs) word value f.low fp own a is.framed;
      },
    )

-- ---- the machine

pub kept_file : (names : Naming) (file : File) (value : ℕ → ℕ) → KeepsFile names file value → HasFile names (picked Saved file) value
kept_file names file value keeps = λ x held there. keeps x held (holds_saved file x held there) (picked_held Saved file x held there).1

pub alone : (p : Program) (names : List (Held × ℕ)) (held : List (Option ℕ)) (ends : Ends) (m : State) (k : Known) (fs : List Frame) → IsOn ends (over held m) → m.half ≡ None → HasFile (named_by names) k.thread.registers (value_in m) → IsFrameless k.thread.registers
    → Behind p names (is_held held) (under p names (is_held held) k.note.cell [] []) 0 (over held m) k.thread.activations fs → IsAlone p names held ends m k fs
alone p names held ends m k fs on whole file frameless behind = (record { machine = on; whole = whole; file = file; frameless = frameless; stands = inr behind }, behind)
