-- The instruction has a word, and its word goes behind those of others.
use Rattle.std.proofs.Math.Logic.{∥∥₁_elim}
use Rattle.std.proofs.Math.Bool.{Bool-set}
use Rattle.st_link.proofs.encoded.Encoded.push.Goals as goal

pub unwrap-bits-requires : goal.unwrap-bits-requires
unwrap-bits-requires c = ∥∥₁_elim c.requires (Bool-set _ _) (λ fits. c.encode.ensures.fits.1 fits)
