-- At an item's first instruction its row has true; amid an item it has false.
use Rattle.std.proofs.Common.{◌≡◌, ◌<◌, ℕ, Bool, List, Option, option_map, Some, true, false, get_or, length, slice_get, refl, ap, sym, ◌∙◌, subst}
use Rattle.std.proofs.lemmas.Option.{same_Some, slice_get_read, slice_get-map}
use Rattle.st_step.specs.declared.decoded.Decoded.{Decoded}
use Rattle.st_items.specs.Code.{word_index}
use Rattle.st_items.specs.Tables.{begins_of}
use Rattle.st_plain.proofs.ItemBegins.{amid_elsewhere, begins_ready, whole_where}
use Rattle.st_plain.proofs.run.PlainRun.begins_item.Goals as goal

-- the mark at a place of a table
marked_at : (table : List Decoded) (at : ℕ) (s : Decoded) → slice_get table at ≡ Some s → slice_get (begins_of table) at ≡ Some s.begins
marked_at table at s e = slice_get-map (λ (t : Decoded). t.begins) table at ∙ ap (λ (o : Option Decoded). option_map (λ (t : Decoded). t.begins) o) e

-- what is read is what the table has
read : (table : List Decoded) (begins : List Bool) (pc said at : ℕ) (s : Decoded) (b : Bool) → begins_of table ≡ begins → at ≡ word_index said → said ≡ pc → word_index pc < length table → s ≡ get_or table at s → slice_get begins (word_index pc) ≡ Some b → s.begins ≡ b
read table begins pc said at s b same is to inside found there =
    let place : at ≡ word_index pc = is ∙ ap word_index to in
    let row = slice_get_read table (length table) (word_index pc) s refl inside (subst (λ (k : ℕ). s ≡ get_or table k s) place found) in
    same_Some s.begins b (sym (marked_at table (word_index pc) s row) ∙ ap (λ (bs : List Bool). slice_get bs (word_index pc)) same ∙ there)

pub returns-clause-ready : goal.returns-clause-ready
returns-clause-ready c = λ p image d limits s ready.
    read c.args.self.now.code.instructions.items image.begins c.args.self.now.machine.pc c.pc.result c.word_index.result c.index.result.now true ready.tables.begins c.word_index.ensures c.pc.ensures c.requires.inside c.index.ensures (begins_ready p image d limits c.args.self.now s ready)

pub returns-clause-amid : goal.returns-clause-amid
returns-clause-amid c = λ p image d limits drawn s left under few.
    read c.args.self.now.code.instructions.items image.begins c.args.self.now.machine.pc c.pc.result c.word_index.result c.index.result.now false under.tables.begins c.word_index.ensures c.pc.ensures c.requires.inside c.index.ensures (amid_elsewhere p image d limits drawn c.args.self.now s left under few c.requires.code (whole_where c.args.self.now.machine.half c.is_half_done.result c.is_half_done.ensures c.if-is_half_done.false))
