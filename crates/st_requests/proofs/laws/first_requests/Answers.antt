use Rattle.st_requests.proofs.Firsts as firsts
use Rattle.st_requests.proofs.laws.first_requests.Goals as goal

pub returns : goal.returns
returns c = firsts.first_requests
