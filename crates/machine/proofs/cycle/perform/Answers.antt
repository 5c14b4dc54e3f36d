use Rattle.std.proofs.Common.{◌≤◌, sym, ap, arith}
use Rattle.machine.specs.Seen.{flowed}
use Rattle.machine.proofs.Endings.{perform_past}
use Rattle.machine.proofs.cycle.perform.Goals as goal

pub returns-in_default : goal.returns-in_default
returns-in_default g c =
    let past : 27 ≤ c.args.number = omega arith in
    sym (ap (flowed (c.args.r.now, c.args.store.now)) (perform_past g.R.Reckoning.meaning c.args.number c.args.operand c.args.r.now c.args.store.now past))
