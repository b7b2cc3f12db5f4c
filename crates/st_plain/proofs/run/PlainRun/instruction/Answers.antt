-- An instruction is carried out where it stands, and leads on as OneTurn says.
use Rattle.std.proofs.Common.{◌≡◌, ◌<◌, ◌≤◌, ℕ, length, List, Some, get_or, slice_get, refl, ap, ◌∙◌, sym, subst, arith}
use Rattle.std.specs.Vec.{vec_len}
use Rattle.std.proofs.Math.Logic.{∥∥₁_elim}
use Rattle.std.proofs.lemmas.List.{length-map}
use Rattle.std.proofs.lemmas.Option.{get_or_from_slice_get, slice_get_read}
use Rattle.st_step.specs.declared.decoded.Decoded.{Decoded}
use Rattle.st_base.specs.declared.line.Line.{Line}
use Rattle.st_plain.specs.declared.stop.Ending.TheVariants as endings
use Rattle.st_model.specs.Memory.{data_of}
use Rattle.st_step.specs.Moves.{move_of}
use Rattle.st_items.specs.Code.{word_index}
use Rattle.st_items.specs.Tables.{instructions_of}
use Rattle.st_plain.specs.Running.{EndsBy}
use Rattle.st_items.proofs.Decoding.{decoded_at}
use Rattle.st_plain.proofs.Executing.{MovesOf, SpeaksWithin, keeps_board, may_execute}
use Rattle.st_plain.proofs.OneTurn.{TurnsAs, code_bounded, code_inside, code_within, instruction_turns, line_inside}
use Rattle.st_plain.proofs.run.PlainRun.instruction.Goals as goal

-- the instruction that was read stands at the pc
read_there : (table : List Decoded) (pc said at : ℕ) (s : Decoded) → said ≡ pc → at ≡ word_index said → word_index pc < length (instructions_of table) → s ≡ get_or table at s → slice_get (instructions_of table) (word_index pc) ≡ Some s.ins
read_there table pc said at s same is inside read =
    let place : at ≡ word_index pc = is ∙ ap word_index same in
    let long = length-map table (λ t. t.ins) in
    decoded_at table (word_index pc) s (slice_get_read table (length table) (word_index pc) s refl (omega (arith, inside, long)) (subst (λ (k : ℕ). s ≡ get_or table k s) place read))

pub index-instruction-requires : goal.index-instruction-requires
index-instruction-requires c =
    let e = c.pc.ensures in
    let w = c.word_index-at.ensures ∙ ap word_index e in
    let inside = code_inside c.args.image.now (data_of c.args.image.now.rodata c.args.input.now) c.args.self.now c.requires.code c.requires.amid in
    let long = c.args.self.now.code.instructions.ok in
    let same = length-map c.args.self.now.code.instructions.items (λ t. t.ins) in
    subst (λ (k : ℕ). k < vec_len c.args.self.now.code.instructions) (sym w) (omega (arith, inside, long, same))

pub execute-end-requires-clause-bounded : goal.execute-end-requires-clause-bounded
execute-end-requires-clause-bounded c =
    let e = c.pc.ensures in
    let d = data_of c.args.image.now.rodata c.args.input.now in
    let high : 0x10000 ≤ c.args.self.now.machine.pc = c.requires.code in
    let inside = code_inside c.args.image.now d c.args.self.now high c.requires.amid in
    code_bounded c.args.image.now d c.args.self.now c.index-instruction.result.now.ins high c.requires.amid (read_there c.args.self.now.code.instructions.items c.args.self.now.machine.pc c.pc.result c.word_index-at.result c.index-instruction.result.now e c.word_index-at.ensures inside c.index-instruction.ensures)

pub execute-end-requires-clause-may : goal.execute-end-requires-clause-may
execute-end-requires-clause-may c =
    let e = c.pc.ensures in
    let d = data_of c.args.image.now.rodata c.args.input.now in
    let high : 0x10000 ≤ c.args.self.now.machine.pc = c.requires.code in
    let inside = code_inside c.args.image.now d c.args.self.now high c.requires.amid in
    let within = code_within c.args.image.now d c.args.self.now c.index-instruction.result.now.ins high c.requires.amid (read_there c.args.self.now.code.instructions.items c.args.self.now.machine.pc c.pc.result c.word_index-at.result c.index-instruction.result.now e c.word_index-at.ensures inside c.index-instruction.ensures) in
    may_execute c.args.self.now.board (move_of (data_of c.as_slice.result.now c.args.input.now) c.args.self.now.machine c.index-instruction.result.now.ins) c.requires.board
    (subst (λ (rodata : List ℕ). SpeaksWithin (length c.args.self.now.board.words.stack) (move_of (data_of rodata c.args.input.now) c.args.self.now.machine c.index-instruction.result.now.ins)) (sym c.as_slice.ensures) within)

pub bounds-as_slice-at : goal.bounds-as_slice-at
bounds-as_slice-at c =
    let e = c.pc.ensures in
    let w = c.word_index-at.ensures ∙ ap word_index e in
    let inside = line_inside c.args.image.now (data_of c.args.image.now.rodata c.args.input.now) c.args.self.now c.requires.code c.requires.amid in
    let lines = ap length c.as_slice-in-Trap.ensures in
    omega (arith, w, inside, lines)

pub unreachable-requires : goal.unreachable-requires
unreachable-requires c =
    let e = c.pc.ensures in
    let d = data_of c.args.image.now.rodata c.args.input.now in
    let high : 0x10000 ≤ c.args.self.now.machine.pc = c.requires.code in
    let inside = code_inside c.args.image.now d c.args.self.now high c.requires.amid in
    let there = read_there c.args.self.now.code.instructions.items c.args.self.now.machine.pc c.pc.result c.word_index-at.result c.index-instruction.result.now e c.word_index-at.ensures inside c.index-instruction.ensures in
    let moves = subst (λ (rodata : List ℕ). MovesOf c.args.self.now.board c.args.self.now.machine (move_of (data_of rodata c.args.input.now) c.args.self.now.machine c.index-instruction.result.now.ins) c.execute-end.result c.execute-end.new.self c.execute-end.new.board) c.as_slice.ensures c.execute-end.ensures.moved in
    ∥∥₁_elim c.requires.amid (λ x y. absurd x) (λ x.
    subst (TurnsAs x.0 c.args.image.now d x.1 x.2 c.args.self.now c.execute-end.new.self c.execute-end.new.board x.3 x.4) c.in-Entry.is
    (instruction_turns x.0 c.args.image.now d x.1 x.2 c.args.self.now c.execute-end.new.self c.execute-end.new.board x.3 x.4 c.index-instruction.result.now.ins c.execute-end.result x.5 high there moves))

pub returns-in-Ran-clause-board : goal.returns-in-Ran-clause-board
returns-in-Ran-clause-board c = keeps_board c.args.self.now.board c.execute-end.new.board c.args.self.now.machine c.execute-end.new.self (move_of (data_of c.as_slice.result.now c.args.input.now) c.args.self.now.machine c.index-instruction.result.now.ins) c.execute-end.result c.requires.board c.execute-end.ensures.moved

pub returns-in-Ran-clause-going : goal.returns-in-Ran-clause-going
returns-in-Ran-clause-going c none p limits drawn s left under =
    let e = c.pc.ensures in
    let d = data_of c.args.image.now.rodata c.args.input.now in
    let high : 0x10000 ≤ c.args.self.now.machine.pc = c.requires.code in
    let inside = code_inside c.args.image.now d c.args.self.now high c.requires.amid in
    let there = read_there c.args.self.now.code.instructions.items c.args.self.now.machine.pc c.pc.result c.word_index-at.result c.index-instruction.result.now e c.word_index-at.ensures inside c.index-instruction.ensures in
    let moves = subst (λ (rodata : List ℕ). MovesOf c.args.self.now.board c.args.self.now.machine (move_of (data_of rodata c.args.input.now) c.args.self.now.machine c.index-instruction.result.now.ins) c.execute-end.result c.execute-end.new.self c.execute-end.new.board) c.as_slice.ensures c.execute-end.ensures.moved in
    subst (TurnsAs p c.args.image.now d limits drawn c.args.self.now c.execute-end.new.self c.execute-end.new.board s left) c.in-Ran.is
    (instruction_turns p c.args.image.now d limits drawn c.args.self.now c.execute-end.new.self c.execute-end.new.board s left c.index-instruction.result.now.ins c.execute-end.result under high there moves)

pub returns-in-Trap-clause-over : goal.returns-in-Trap-clause-over
returns-in-Trap-clause-over c p limits drawn s left under =
    let e = c.pc.ensures in
    let d = data_of c.args.image.now.rodata c.args.input.now in
    let high : 0x10000 ≤ c.args.self.now.machine.pc = c.requires.code in
    let inside = code_inside c.args.image.now d c.args.self.now high c.requires.amid in
    let there = read_there c.args.self.now.code.instructions.items c.args.self.now.machine.pc c.pc.result c.word_index-at.result c.index-instruction.result.now e c.word_index-at.ensures inside c.index-instruction.ensures in
    let moves = subst (λ (rodata : List ℕ). MovesOf c.args.self.now.board c.args.self.now.machine (move_of (data_of rodata c.args.input.now) c.args.self.now.machine c.index-instruction.result.now.ins) c.execute-end.result c.execute-end.new.self c.execute-end.new.board) c.as_slice.ensures c.execute-end.ensures.moved in
    let trapped = subst (TurnsAs p c.args.image.now d limits drawn c.args.self.now c.execute-end.new.self c.execute-end.new.board s left) c.in-Trap.is
    (instruction_turns p c.args.image.now d limits drawn c.args.self.now c.execute-end.new.self c.execute-end.new.board s left c.index-instruction.result.now.ins c.execute-end.result under high there moves) in
    let place : c.word_index-at.result ≡ word_index c.args.self.now.machine.pc = c.word_index-at.ensures ∙ ap word_index e in
    let line : get_or c.as_slice-in-Trap.result.now c.word_index-at.result (record { file = 0; line = 0 }) ≡ trapped.0 =
    ap (λ (xs : List Line). get_or xs c.word_index-at.result (record { file = 0; line = 0 })) c.as_slice-in-Trap.ensures
    ∙ ap (λ (k : ℕ). get_or c.args.image.now.lines k (record { file = 0; line = 0 })) place
    ∙ get_or_from_slice_get c.args.image.now.lines (word_index c.args.self.now.machine.pc) trapped.0 (record { file = 0; line = 0 }) trapped.1 in
    subst (λ (k : Line). EndsBy p d limits drawn c.args.self.now.threads.notes.items.items c.args.self.now.threads.out.items.items s (endings.Trap c.in-Trap.kind k)) (sym line) trapped.2

pub returns-in-StackFull-clause-over : goal.returns-in-StackFull-clause-over
returns-in-StackFull-clause-over c p limits drawn s left under =
    let e = c.pc.ensures in
    let d = data_of c.args.image.now.rodata c.args.input.now in
    let high : 0x10000 ≤ c.args.self.now.machine.pc = c.requires.code in
    let inside = code_inside c.args.image.now d c.args.self.now high c.requires.amid in
    let there = read_there c.args.self.now.code.instructions.items c.args.self.now.machine.pc c.pc.result c.word_index-at.result c.index-instruction.result.now e c.word_index-at.ensures inside c.index-instruction.ensures in
    let moves = subst (λ (rodata : List ℕ). MovesOf c.args.self.now.board c.args.self.now.machine (move_of (data_of rodata c.args.input.now) c.args.self.now.machine c.index-instruction.result.now.ins) c.execute-end.result c.execute-end.new.self c.execute-end.new.board) c.as_slice.ensures c.execute-end.ensures.moved in
    subst (TurnsAs p c.args.image.now d limits drawn c.args.self.now c.execute-end.new.self c.execute-end.new.board s left) c.in-StackFull.is
    (instruction_turns p c.args.image.now d limits drawn c.args.self.now c.execute-end.new.self c.execute-end.new.board s left c.index-instruction.result.now.ins c.execute-end.result under high there moves)
