-- The numbers of stops. Assumes nothing.
use Rattle.std.specs.Prelude.{ℕ, cond, List, codes, nat_le}
use Rattle.reckoning.specs.Meaning.{number}
use Rattle.instructions.specs.declared.stops.Layer.{Layer}
use Rattle.instructions.specs.declared.stops.Layer.TheVariants.{Machine, Reckoning}
use Rattle.instructions.specs.declared.stops.Stop.{Stop}
use Rattle.instructions.specs.declared.stops.Stop.TheVariants.{Broken, Index, Budget, Depth, Cells, Reckoned}

abbrev pub stop_number : Stop → ℕ
stop_number Broken = 40
stop_number Index = 41
stop_number Budget = 42
stop_number Depth = 43
stop_number Cells = 44
stop_number (Reckoned s) = number s

-- The machine's numbers end at 44.
abbrev pub stop_layer : ℕ → Layer
stop_layer n = cond (nat_le n 44) Machine Reckoning

-- How a layer is written.
abbrev pub layer_name : Layer → List ℕ
layer_name Machine = codes "machine"
layer_name Reckoning = codes "reckoning"
