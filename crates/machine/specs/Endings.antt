-- How a run ends, by a halt or by a stop at a place of the text; and how stops and registers are written. Assumes nothing.
use Rattle.std.specs.Fmt.{signed_decimal}
use Rattle.std.specs.Prelude.{ℕ, List, ◌++◌, Ok, Err, codes, decimal, Result}
use Rattle.instructions.specs.declared.Stop.{Stop}
use Rattle.instructions.specs.Stops.{stop_number, stop_layer, layer_name}
use Rattle.machine.specs.declared.state.Registers.{Registers}
use Rattle.machine.specs.declared.state.Stopped.{Stopped}

abbrev pub Ending : Type 0
Ending = Result (Unit {0}) Stopped

abbrev pub halted : Ending
halted = Ok tt

abbrev pub stopped : Stop → ℕ → Ending
stopped e place = Err (record { stop = e; place = place })

-- How a stop is written: its number, its layer and its place.
abbrev pub stopped_text : Stopped → List ℕ
stopped_text s = codes "stop " ++ (decimal (stop_number s.stop) ++ (codes " " ++ (layer_name (stop_layer (stop_number s.stop)) ++ (codes " at " ++ decimal s.place))))

-- How registers are written.
abbrev pub registers_text : Registers → List ℕ
registers_text r = codes "pc " ++ (signed_decimal r.pc ++ (codes " sp " ++ (signed_decimal r.sp ++ (codes " fp " ++ (signed_decimal r.fp ++ (codes " ep " ++ (signed_decimal r.ep ++ (codes " active " ++ (decimal r.active ++ (codes " budget " ++ decimal r.budget))))))))))
