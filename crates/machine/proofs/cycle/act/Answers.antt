use Rattle.std.proofs.Common.{w32, SFits, rules}
use Rattle.std.proofs.lemmas.Int.{to_z-of_z}
use Rattle.machine.proofs.Done.{acts_stops}
use Rattle.machine.proofs.cycle.act.Goals as goal

pub returns-in-Err : goal.returns-in-Err
returns-in-Err g c =
    let f0 : SFits w32 c.args.r.now.pc = search rules in
    let f1 : SFits w32 c.in_ok-r.field-0 = search rules in
    let f2 : SFits w32 c.operand_of.result = search rules in
    simp to_z-of_z (acts_stops g.R.Reckoning.meaning c.args.r.now c.args.store.now c.args.code.now _ _ _ (simp to_z-of_z at c.in_ok-word.ensures) (simp to_z-of_z at c.in_ok-r.ensures) c.operand_of.ensures _ _ _ (simp to_z-of_z at c.in-Err.ensures))
