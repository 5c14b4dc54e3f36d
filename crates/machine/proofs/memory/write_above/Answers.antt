use Rattle.std.proofs.Common.{rules}
use Rattle.machine.proofs.Cells.{pushed_by}
use Rattle.machine.proofs.memory.write_above.Goals as goal

pub returns-in_err-top : goal.returns-in_err-top
returns-in_err-top g c = search (rules, pushed_by c.args.store.now c.args.c c.args.sp)

pub returns-in_err-write : goal.returns-in_err-write
returns-in_err-write g c = search (rules, pushed_by c.args.store.now c.args.c c.args.sp)

pub returns : goal.returns
returns g c = search (rules, pushed_by c.args.store.now c.args.c c.args.sp)
