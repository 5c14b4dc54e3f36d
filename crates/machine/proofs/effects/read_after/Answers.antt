use Rattle.std.proofs.Common.{sym, ap, ◌∙◌, w32, SFits, to_z, of_z, rules}
use Rattle.std.proofs.lemmas.Int.{to_z-of_z}
use Rattle.machine.proofs.Cells.{read_after_outside, read_after_same, read_after_other}
use Rattle.machine.proofs.effects.read_after.Goals as goal

pub returns-in_err-read : goal.returns-in_err-read
returns-in_err-read g c =
    let f : SFits w32 c.args.at = c.ranges.at in
    search (rules, read_after_outside c.args.store.now c.args.at c.args.value c.args.address)

pub returns-then-address-at : goal.returns-then-address-at
returns-then-address-at g c =
    let f : SFits w32 c.args.at = c.ranges.at in
    let h : SFits w32 c.args.address = c.ranges.address in
    read_after_same _ c.args.at _ _ c.args.address (simp to_z-of_z at (sym c.in_ok-read.ensures)) (simp to_z-of_z at (ap (to_z w32) c.if-address-at.true))

pub returns-else-address-at : goal.returns-else-address-at
returns-else-address-at g c =
    let f : SFits w32 c.args.at = c.ranges.at in
    let h : SFits w32 c.args.address = c.ranges.address in
    simp to_z-of_z at c.read-else-address-at.ensures ∙ read_after_other _ c.args.at _ _ c.args.address (simp to_z-of_z at (sym c.in_ok-read.ensures)) (λ e. c.if-address-at.false (ap (of_z w32) e))
