-- The laws that name no context hold: each is that of a lemma, put together where it says several things.
use Rattle.std.proofs.Common.{arith}
use Rattle.st_model.specs.Layout.{saved_of}
use Rattle.st_step.proofs.SavedList.{saved_fit}
use Rattle.st_items.specs.Laws.{CodesFit, CodeOfItems, ItemsLieLow, ItemsFollow, NoEntries, ImagesTell, RowsFound, CallsJump, GotosJump, EntriesJump, ForksJump, BranchesGo, ThirdsEnd, StretchesLead, CopiesLead, CopiesRead, FramesFound, FramesAlone, WritesHidden}
use Rattle.st_items.proofs.Addresses.{sized, item_code, address_bounds, next_address, not_entry}
use Rattle.st_items.proofs.Copying.{copies, copy_reads}
use Rattle.st_items.proofs.Entering.{frame_under}
use Rattle.st_items.proofs.FrameWords.{frame_found, caller_found, return_found, frame_above}
use Rattle.st_items.proofs.Jumps.{call_jumps, goto_jumps, entry_jumps, entry_small, fork_in_jumps, fork_call_jumps, fork_out_jumps, branch_code, branch_target}
use Rattle.st_items.proofs.Linking.{third_jump}
use Rattle.st_items.proofs.Registers.{kept_written}
use Rattle.st_items.proofs.Rows.{rows_ascend, row_found}
use Rattle.st_items.proofs.Tables.{begins_at, lines_at, handle_at}
use Rattle.st_items.proofs.Ways.{item_leads}

pub codes_fit : CodesFit
codes_fit layout p accepted size = sized layout p accepted size

pub code_of_items : CodeOfItems
code_of_items layout p f function i item k x has there = item_code layout p f function i item k x has there

pub items_lie_low : ItemsLieLow
items_lie_low layout p f function i item size has = address_bounds layout p f function i item size has

pub items_follow : ItemsFollow
items_follow layout p f function i item has = next_address layout p f function i item has

pub no_entries : NoEntries
no_entries layout p f function i k = not_entry layout p f function i k

pub images_tell : ImagesTell
images_tell layout p image f function i item is has =
    ((λ k few. (begins_at layout p image f function i item k is has few, lines_at layout p image f function i item k is has few)), (λ g handle kind. handle_at layout p image f function i item g handle is has kind))

pub rows_found : RowsFound
rows_found layout p = (rows_ascend layout p, (λ f function pc named least most. row_found layout p f function pc named least most))

pub calls_jump : CallsJump
calls_jump layout p f function i item g size has kind = call_jumps layout p f function i item g size has kind

pub gotos_jump : GotosJump
gotos_jump layout p f function i item to size has kind = goto_jumps layout p f function i item to size has kind

pub entries_jump : EntriesJump
entries_jump layout p f function i item at accepted size has kind = entry_jumps layout p f function i item at size has kind (entry_small layout p f function i item at accepted has kind)

pub forks_jump : ForksJump
forks_jump layout p f function i item g handle size has kind =
    (fork_in_jumps layout p f function i item g handle size has kind, fork_call_jumps layout p f function i item g handle size has kind, fork_out_jumps layout p f function i item g handle size has kind)

pub branches_go : BranchesGo
branches_go layout p f function i item op rs1 rs2 to size has kind = (branch_code layout p f function i item op rs1 rs2 to has kind, branch_target layout p f function i to size has.named)

pub thirds_end : ThirdsEnd
thirds_end layout p a function ret size here begun back = third_jump layout p a function ret size here begun back

pub stretches_lead : StretchesLead
stretches_lead layout p d held f function i item has words count s t here fits runs = item_leads layout p d held f function i item has words count s t here fits runs

pub copies_lead : CopiesLead
copies_lead p d held ends bottom t f function at = copies p d held ends bottom t f function at

pub copies_read : CopiesRead
copies_read p f function k named inside = copy_reads p f function k named inside

pub frames_found : FramesFound
frames_found m b rs word value x room = (return_found m b rs word room, caller_found m b rs word room, (λ same. frame_found m b rs word value x room same))

pub frames_alone : FramesAlone
frames_alone m b function word q frame room =
    let fit = saved_fit function frame in
    let least = frame.least in
    ((λ under. frame_under m b function word q frame room under), (λ above. frame_above m b (saved_of function) word q (omega arith) above))

pub writes_hidden : WritesHidden
writes_hidden function word b m r n x may kept = kept_written function word b m r n x may kept
