use Rattle.std.proofs.Common.{◌≡◌, ◌+◌, ◌^◌, ◌<◌, max, length}
use Rattle.std.specs.Iterator.Adapters.{enumerate_count}
use Rattle.script.specs.Scripts.{begun, left}
use Rattle.script.proofs.transcript.begin.Given as goal

abbrev pub invariant-loop-i : goal.invariant-loop-i
invariant-loop-i l =
    (max (enumerate_count l.lines) 1 ≡ l.at + 1)
    × (enumerate_count l.lines + length (left l.lines) < 2 ^ 64)
    × (begun (enumerate_count l.lines) (left l.lines) ≡ begun 0 (left l.initial.lines))

abbrev pub decreases-loop-i : goal.decreases-loop-i
decreases-loop-i l = length (left l.lines)
