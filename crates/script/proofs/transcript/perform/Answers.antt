use Rattle.std.proofs.Common.{rules}
use Rattle.script.specs.Scripts.{performed}
use Rattle.script.proofs.transcript.perform.Goals as goal

pub returns-in-Ok-clause-meets : goal.returns-in-Ok-clause-meets
unfolding performed
returns-in-Ok-clause-meets c = search rules

pub returns-in-Err-clause-meets : goal.returns-in-Err-clause-meets
unfolding performed
returns-in-Err-clause-meets c = search rules
