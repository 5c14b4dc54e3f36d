use Rattle.std.proofs.Common.{◌+◌, ◌-◌, ◌≤◌, length, Some, ap, arith, le-leb}
use Rattle.calling.proofs.Frames.{written}
use Rattle.calling.proofs.calls.write_frame.Goals as goal

pub returns : goal.returns
returns g c =
    let low : c.args.cells + 5 + length c.args.arguments.now ≤ length c.args.store.now = omega arith in
    rw (le-leb (c.args.cells + 5 + length c.args.arguments.now) (length c.args.store.now) low) (ap (λ t. (Some tt, t)) (written c.args.empty c.args.store.now c.args.cells _ c.args.arguments.now _ (c.args.cells + 5 - (c.args.cells + 1)) _ low (omega arith) c.copy_from_slice.ensures.after c.copy_from_slice-2.ensures.after (omega arith)))
