use Rattle.std.proofs.Common.{◌≡◌, ◌+◌, ◌-◌, arith, w32, SFits, rules}
use Rattle.std.proofs.lemmas.Int.{to_z-of_z}
use Rattle.machine.proofs.Done.{three_set, three_done}
use Rattle.machine.proofs.memory.write_three.Goals as goal

pub returns : goal.returns
returns g c =
    let f0 : SFits w32 c.args.address = search rules in
    let kept : c.in_ok-first.first + 3 - c.in_ok-first.first ≡ 3 = omega arith in
    rw (kept, c.copy_from_slice.ensures.after, three_set c.args.store.now c.in_ok-first.first c.args.x c.args.y c.args.z (omega (arith, c.if-store-lt3.false, c.if-first-store.false)))
    (three_done c.args.store.now c.args.address _ _ _ _ (simp to_z-of_z at c.in_ok-first.ensures) c.if-store-lt3.false c.if-first-store.false)
