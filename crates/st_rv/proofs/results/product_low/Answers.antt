use Rattle.st_rv.proofs.Products.{product_of_low}
use Rattle.st_rv.proofs.results.product_low.Goals as goal

pub returns : goal.returns
returns c = rw (c.low_word.ensures, c.low_word-2.ensures, product_of_low) at c.extended_low.ensures
