use Rattle.std.proofs.Common.{refl}
use Rattle.std.specs.Fmt.{digits}
use Rattle.machine.specs.Instructions.{read_after, tops, pushed, clear, relative}
use Rattle.machine.specs.Runs.{run}
use Rattle.script.specs.Scripts.{performed}
use Rattle.script.proofs.examples.all_agree.Goals as goal

pub returns : goal.returns
unfolding performed run read_after tops pushed clear relative digits
returns c = refl
