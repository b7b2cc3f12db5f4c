-- What a thread would do next that waits at an entry of the runtime: touch_is and join_is.
use Rattle.std.proofs.Common.{◌≡◌, ℕ, List, ◌∷◌, Option, Some, None, slice_get, ap, ◌∙◌}
use Rattle.std.specs.Prelude.{slice_index_or}
use Rattle.st_base.specs.declared.reg.Reg.TheVariants as registers
use Rattle.st_base.specs.declared.registers.Pick.TheVariants.{Saved}
use Rattle.st_base.specs.declared.thread.Activation.{Activation}
use Rattle.st_base.specs.declared.thread.Held.{Held}
use Rattle.st_base.specs.declared.thread.Held.TheVariants.{Number, Future, Counter}
use Rattle.st_base.specs.declared.thread.Standing.TheVariants.{Going}
use Rattle.st_base.specs.declared.thread.Thread.{Thread}
use Rattle.st_base.specs.Registers.{write_register, picked}
use Rattle.st_model.specs.declared.effect.Effect.TheVariants.{Touches, Joins}
use Rattle.st_model.specs.declared.program.Item.{Item}
use Rattle.st_model.specs.declared.program.ItemKind.{ItemKind}
use Rattle.st_model.specs.declared.program.ItemKind.TheVariants as items
use Rattle.st_model.specs.declared.program.Program.{Program}
use Rattle.st_model.specs.declared.program.ProgramFunction.{ProgramFunction}
use Rattle.st_model.specs.Effect.{advanced, item_effect, name_of, number_of, with_name, with_number, int}
use Rattle.st_model.specs.Heap.{Change, Touch, Join, own, with_frames, effect_move, move_at, move_of, move_standing, move}
use Rattle.st_model.specs.Memory.{Data}
use Rattle.st_model.specs.Ordinary.{item_at}
use Rattle.st_words.specs.declared.view.Known.{Known}
use Rattle.st_made.specs.Items.{next_move}
use Rattle.st_items.specs.Code.{HasItem}

item_there : (p : Program) (a : Activation) (function : ProgramFunction) (item : Item) → slice_get p.functions a.function ≡ Some function → slice_get function.items a.next ≡ Some item → item_at p a ≡ Some item
item_there p a function item here placed = rw here placed

module _ (p : Program) (d : Data) (k : Known) (a : Activation) (older : List Activation) where
  -- behind the entry it has the registers that a call keeps
  abbrev pub behind : Thread
  behind = with_frames k.thread (advanced a ∷ older) (picked Saved k.thread.registers)

  -- and the value that it has touched
  abbrev pub touching : ℕ → Change
  touching v = own (record behind { registers = write_register (picked Saved k.thread.registers) registers.A0 (Number v) })

  module _ (function : ProgramFunction) (item : Item) (going : k.thread.standing ≡ Going) (acts : k.thread.activations ≡ a ∷ older) (has : HasItem p a.function function a.next item) where
    there : item_at p a ≡ Some item
    there = item_there p a function item has.named has.placed

    -- by the item's kind
    move_is : (kind : ItemKind) → item.kind ≡ kind → next_move p d k ≡ effect_move k.path k.thread older item.line (item_effect p d kind a k.thread.registers)
    unfolding move
    move_is kind is =
        ap (move_standing p d k.path k.thread) going
        ∙ ap (move_of p d k.path k.thread) acts
        ∙ ap (move_at p d k.path k.thread a older) there
        ∙ ap (λ (x : ItemKind). effect_move k.path k.thread older item.line (item_effect p d x a k.thread.registers)) is

    pub touch_is : (q : List ℕ) → item.kind ≡ items.Entry 0x40 → slice_index_or k.thread.registers 16 None ≡ Some (Future q) → next_move p d k ≡ Touch q touching
    touch_is q is future =
        move_is (items.Entry 0x40) is
        ∙ ap (λ (o : Option Held). effect_move k.path k.thread older item.line (with_name (name_of o) (λ name. Touches name (advanced a) (picked Saved k.thread.registers)))) future

    pub join_is : (q : List ℕ) (i least : ℕ) → item.kind ≡ items.Entry 0x70 → slice_index_or k.thread.registers 16 None ≡ Some (Counter q i) → slice_index_or k.thread.registers 10 None ≡ Some (Number least) → next_move p d k ≡ Join q i least (own behind)
    join_is q i least is counter count =
        move_is (items.Entry 0x70) is
        ∙ ap (λ (o : Option Held). effect_move k.path k.thread older item.line (with_name (name_of o) (λ name. with_number (int k.thread.registers registers.A0) (λ n. Joins name n (advanced a) (picked Saved k.thread.registers))))) counter
        ∙ ap (λ (o : Option Held). effect_move k.path k.thread older item.line (with_number (number_of o) (λ n. Joins (Counter q i) n (advanced a) (picked Saved k.thread.registers)))) count
