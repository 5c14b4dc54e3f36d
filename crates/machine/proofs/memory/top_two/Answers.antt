use Rattle.std.proofs.Common.{rules}
use Rattle.machine.proofs.Cells.{tops_by}
use Rattle.machine.proofs.memory.top_two.Goals as goal

pub returns-in_err-right : goal.returns-in_err-right
returns-in_err-right g c = search (rules, tops_by c.args.store.now c.args.sp c.ranges.sp)

pub returns-in_err-left : goal.returns-in_err-left
returns-in_err-left g c = search (rules, tops_by c.args.store.now c.args.sp c.ranges.sp)

pub returns : goal.returns
returns g c = search (rules, tops_by c.args.store.now c.args.sp c.ranges.sp)
