-- The runtime's entries: where they stand (address_of, entry_at) and by which names a program calls them (name_of). entry_rows has both, by
-- ascending address.
use Rattle.std.specs.Prelude.{ℕ, cond, ◌==◌, List, [], ◌∷◌, map, Option, Some, None, codes}
use Rattle.st_base.specs.declared.entry.Entry.{Entry}
use Rattle.st_base.specs.declared.entry.Entry.TheVariants.{ForkIn, ForkOut, End, Touch, Counter, Done, Join, Poll, Putc}

-- the address of an entry
abbrev pub address_of : Entry → ℕ
address_of ForkIn = 0x10
address_of ForkOut = 0x20
address_of End = 0x30
address_of Touch = 0x40
address_of Counter = 0x50
address_of Done = 0x60
address_of Join = 0x70
address_of Poll = 0x80
address_of Putc = 0x90

-- the name of an entry
abbrev pub name_of : Entry → List ℕ
name_of ForkIn = codes "st_fork_in"
name_of ForkOut = codes "st_fork_out"
name_of End = codes "st_end"
name_of Touch = codes "st_touch"
name_of Counter = codes "st_counter"
name_of Done = codes "st_done"
name_of Join = codes "st_join"
name_of Poll = codes "st_poll"
name_of Putc = codes "st_putc"

-- all entries, by ascending address
abbrev pub entries : List Entry
entries = ForkIn ∷ ForkOut ∷ End ∷ Touch ∷ Counter ∷ Done ∷ Join ∷ Poll ∷ Putc ∷ []

-- the first of some entries that stands at an address
abbrev pub entry_among : List Entry → ℕ → Option Entry
entry_among [] address = None
entry_among (e ∷ es) address = cond (address == address_of e) (Some e) (entry_among es address)

-- the entry that stands at an address
abbrev pub entry_at : ℕ → Option Entry
entry_at address = entry_among entries address

-- each entry's address with its name
abbrev pub entry_rows : List (ℕ × List ℕ)
entry_rows = map (λ e. (address_of e, name_of e)) entries
