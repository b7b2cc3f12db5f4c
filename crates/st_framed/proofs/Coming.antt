-- A chain comes to a worker without a thread (comes_framed): all of its frames are exported or lie elsewhere. What a taking may export of a worker's
-- frames (may_be_exported).
use Rattle.std.proofs.Common.{[], refl, sym}
use Rattle.st_framed.specs.Framed.{ComesFramed, MayBeExported}

pub comes_framed : ComesFramed
comes_framed s ends fs stack all some clear others = record {
  stack = stack;
  all_apart = all;
  some = some;
  clear = clear;
  young = [];
  old = fs;
  parts = refl;
  rising = tt;
  others = others;
}

pub may_be_exported : MayBeExported
may_be_exported s ends frames f framed mine g there other = framed.clear f g mine there (λ same. other (sym same))
