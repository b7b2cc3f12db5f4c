use Rattle.st_step.proofs.Epilogues.{epilogue_law}
use Rattle.st_step.proofs.laws.runs_epilogue.Goals as goal

pub returns : goal.returns
returns c = epilogue_law
