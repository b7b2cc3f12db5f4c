-- Spots of two kinds differ.
use Rattle.std.proofs.Common.{◌≢◌, ℕ, Option}
use Rattle.st_spots.specs.Listing.{Nowhere, Listed, Held, Behind, Readied, Rooted}

pub listed_held : {c k w : ℕ} → Listed c k ≢ Held w
listed_held e = cc

pub listed_behind : {c k w m n : ℕ} → Listed c k ≢ Behind w m n
listed_behind e = cc

pub listed_readied : {c k w : ℕ} → Listed c k ≢ Readied w
listed_readied e = cc

pub held_listed : {c k w : ℕ} → Held w ≢ Listed c k
held_listed e = cc

pub held_behind : {v w m n : ℕ} → Held v ≢ Behind w m n
held_behind e = cc

pub held_readied : {v w : ℕ} → Held v ≢ Readied w
held_readied e = cc

pub behind_listed : {c k w m n : ℕ} → Behind w m n ≢ Listed c k
behind_listed e = cc

pub behind_held : {v w m n : ℕ} → Behind w m n ≢ Held v
behind_held e = cc

pub behind_readied : {v w m n : ℕ} → Behind w m n ≢ Readied v
behind_readied e = cc

pub readied_listed : {c k w : ℕ} → Readied w ≢ Listed c k
readied_listed e = cc

pub readied_held : {v w : ℕ} → Readied v ≢ Held w
readied_held e = cc

pub readied_behind : {v w m n : ℕ} → Readied v ≢ Behind w m n
readied_behind e = cc

pub nowhere_listed : {c k : ℕ} → Nowhere ≢ Listed c k
nowhere_listed e = cc

pub nowhere_held : {w : ℕ} → Nowhere ≢ Held w
nowhere_held e = cc

pub nowhere_behind : {w m n : ℕ} → Nowhere ≢ Behind w m n
nowhere_behind e = cc

pub nowhere_readied : {w : ℕ} → Nowhere ≢ Readied w
nowhere_readied e = cc

pub rooted_listed : {o : Option ℕ} {c k : ℕ} → Rooted o ≢ Listed c k
rooted_listed e = cc

pub rooted_held : {o : Option ℕ} {w : ℕ} → Rooted o ≢ Held w
rooted_held e = cc

pub rooted_behind : {o : Option ℕ} {w m n : ℕ} → Rooted o ≢ Behind w m n
rooted_behind e = cc

pub rooted_readied : {o : Option ℕ} {w : ℕ} → Rooted o ≢ Readied w
rooted_readied e = cc

pub rooted_nowhere : {o : Option ℕ} → Rooted o ≢ Nowhere
rooted_nowhere e = cc
