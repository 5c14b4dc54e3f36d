use Rattle.std.proofs.Common.{◌≡◌, ◌+◌, ◌-◌, ◌≤◌, length, drop, sym, ap, ◌∙◌, arith, w32, SFits, rules}
use Rattle.std.proofs.lemmas.Int.{to_z-of_z}
use Rattle.std.proofs.lemmas.List.{length-drop, length-take-le}
use Rattle.machine.specs.Instructions.{cleared, clear}
use Rattle.machine.proofs.Cells.{clear_done, clears}
use Rattle.machine.proofs.memory.clear.Goals as goal

pub returns-then-count-eq0 : goal.returns-then-count-eq0
unfolding clear
returns-then-count-eq0 g c = search rules

pub returns-in_err-first : goal.returns-in_err-first
unfolding clear
returns-in_err-first g c = search rules

pub returns-then-first-store : goal.returns-then-first-store
unfolding clear
returns-then-first-store g c = search rules

pub returns : goal.returns
returns g c =
    let f : SFits w32 c.args.address = c.ranges.address in
    let fits : c.in_ok-first.first + c.args.count ≤ length c.args.store.now = omega arith in
    let same : c.in_ok-first.first + c.args.count - c.in_ok-first.first ≡ c.args.count = omega arith in
    let part : c.in_ok-first.first + c.args.count - c.in_ok-first.first ≤ length (drop c.in_ok-first.first c.args.store.now) = omega (arith, length-drop c.in_ok-first.first c.args.store.now) in
    let all : c.loop-cell.cell-index ≡ c.args.count = omega (arith, length-take-le _ _ part) in
    clear_done c.args.store.now c.args.c _ c.args.address c.in_ok-first.first c.args.count c.if-count-eq0.false (simp to_z-of_z at (sym c.in_ok-first.ensures)) fits
    (clears c.args.c c.args.store.now c.loop-cell.cell-items c.in_ok-first.first _ c.args.count fits same (c.loop-cell.invariant ∙ ap (cleared c.args.c _ 0) all))
